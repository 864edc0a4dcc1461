use Rattle.std.proofs.Common.{◌≡◌, ◌-◌, length, refl, sym, ap, subst, ◌∙◌, inl, inr, arith, rules}
use Rattle.std.proofs.lemmas.Bool.{false≢true, eqb-true}
use Rattle.domain_base.specs.Memory.{KeptSink, FailsNext}
use Rattle.domain_base.proofs.Rooms.{some_piece, no_piece, no_room, none_taken}
use Rattle.domain_base.proofs.memory.MemSinkSink.write.Goals.{then-fails-via-then-fails, then-fails-via-else-fails+then-not-is_empty, then-count-eq0, else-count-eq0}
use Rattle.domain_base.proofs.memory.MemSinkSink.write.Goals as goal

pub returns-clause-bytes : goal.returns-clause-bytes
returns-clause-bytes c = search rules

pub returns-then-fails-clause-fails : goal.returns-then-fails-clause-fails
returns-then-fails-clause-fails c =
    let s = c.args.self.now in
    let piece = c.args.piece.now in
    let room = ap (λ (k : KeptSink). k.room) c.self.view_is in
    let out = ap (λ (k : KeptSink). length k.out) c.self.view_is in
    let free : c.saturating_sub-free.result ≡ s.room - length s.out = omega (arith, c.saturating_sub-free.ensures, c.len.ensures, c.self.inside.bytes.ok.0, room, out) in (
      λ e. elim c.then-fails.branch [
        | then-fails-via-then-fails w ↦ inl (subst (λ (k : KeptSink). FailsNext k.calls) c.self.view_is (c.next_fails-fails.ensures.fails.0 w.if-fails.true))
        | then-fails-via-else-fails+then-not-is_empty w ↦ inr (elim w.if-count-eq0.branch [
          | then-count-eq0 t ↦ no_room s piece _ _ free c.min-count.ensures (omega (arith, t.if-count-eq0.true)) (some_piece _ _ _ t.value-is t.is_empty.ensures w.if-not-is_empty.true)
          | else-count-eq0 t ↦ absurd (omega (arith, eqb-true c.min-count.result 0 (sym t.value-is ∙ w.if-not-is_empty.true), t.if-count-eq0.false))
        ])
      ],
      λ f. refl,
    )

pub returns-clause-fails : goal.returns-clause-fails
returns-clause-fails c =
    let s = c.args.self.now in
    let piece = c.args.piece.now in
    let room = ap (λ (k : KeptSink). k.room) c.self.view_is in
    let out = ap (λ (k : KeptSink). length k.out) c.self.view_is in
    let free : c.saturating_sub-free.result ≡ s.room - length s.out = omega (arith, c.saturating_sub-free.ensures, c.len.ensures, c.self.inside.bytes.ok.0, room, out) in (
      λ e. absurd (false≢true e),
      λ f. elim f [
        | inl fails ↦ absurd (false≢true (sym c.if-fails.false ∙ c.next_fails-fails.ensures.fails.1 (subst (λ (k : KeptSink). FailsNext k.calls) (sym c.self.view_is) fails)))
        | inr full ↦ absurd (elim c.if-count-eq0.branch [
          | then-count-eq0 t ↦ omega (arith, full.1, no_piece _ _ _ t.value-is t.is_empty.ensures c.if-not-is_empty.false)
          | else-count-eq0 t ↦ omega (arith, none_taken s piece _ _ free c.min-count.ensures full, t.if-count-eq0.false)
        ])
      ],
    )

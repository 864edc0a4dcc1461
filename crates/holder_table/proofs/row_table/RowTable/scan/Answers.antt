use Rattle.std.proofs.Common.{◌≡◌, ◌+◌, ◌≤◌, ℕ, ◌∷◌, true≢false, length, sym, ap, ◌∙◌, subst, arith}
use Rattle.holder_table.specs.Histories.{live, held_at}
use Rattle.holder_table.proofs.Growth.{follows_grows}
use Rattle.holder_table.specs.declared.view.View.{View}
use Rattle.holder_table.specs.Rule.{LoadsLast}
use Rattle.holder_table.specs.Steps.{load_of}
use Rattle.holder_table.specs.Knowledge.{KnowsMore, LastLoad}
use Rattle.holder_table.specs.Words.{name_octets}
use Rattle.holder_table.specs.Scans.{Asked, Passed}
use Rattle.holder_table.proofs.Places.{free_state}
use Rattle.holder_table.proofs.Knows.{more_on, last_load, passed_grows, passed_more, passed_all, live_row}
use Rattle.std.proofs.lemmas.Grind.{common_steps}
use Rattle.holder_table.proofs.row_table.RowTable.scan.Goals as goal
use Rattle.holder_table.proofs.row_table.RowTable.scan.Goals.{else-state-eq1-via-then-state-eq1+else-is_asked, else-state-eq1-via-else-state-eq1}

pub returns-then-state-eq0-clause-more : goal.returns-then-state-eq0-clause-more
returns-then-state-eq0-clause-more c = more_on _ _ _ c.loop-place.invariant.2 c.look_at-state.ensures.more

pub returns-then-state-eq0-clause-spot : goal.returns-then-state-eq0-clause-spot
returns-then-state-eq0-clause-spot c =
    let v = c.loop-place.seat.me.0 in
    let w = c.look_at-state.new.seat.me.0 in
    let told = c.look_at-state.ensures in
    let n : ℕ = c.loop-place.place in
    let Is = Asked (name_octets c.args.name) c.args.sta in
    let qs = held_at c.args.ap w.seen in
    let passed = passed_grows Is n (held_at c.args.ap v.seen) qs (follows_grows c.args.ap v.seen w.seen told.more.seen) c.loop-place.invariant.3 in
    let whole = free_state qs n (sym told.state ∙ c.if-state-eq0.true) in (
      passed_all Is n qs whole passed,
      omega (arith, whole, passed.0),
      omega (arith, c.loop-place-test.true),
      λ _. last_load c.args.seat.now.me.0 v w (load_of c.args.ap n 0) c.loop-place.invariant.2 (told.load ∙ ap (λ (s : ℕ). load_of c.args.ap n s ∷ v.loads) c.if-state-eq0.true),
    )

pub returns-then-state-eq0-clause-lasting : goal.returns-then-state-eq0-clause-lasting
returns-then-state-eq0-clause-lasting c = λ _. c.look_at-state.ensures.lasting

pub returns-then-is_asked-clause-more : goal.returns-then-is_asked-clause-more
returns-then-is_asked-clause-more c = subst (λ (me : View). KnowsMore c.args.seat.now.me.0 me) (sym (ap (λ m. m.0) c.is_asked.ensures.pass.1)) (more_on _ _ _ c.loop-place.invariant.2 c.look_at-state.ensures.more)

pub returns-then-is_asked-clause-spot : goal.returns-then-is_asked-clause-spot
returns-then-is_asked-clause-spot c =
    let v = c.loop-place.seat.me.0 in
    let w = c.look_at-state.new.seat.me.0 in
    let told = c.look_at-state.ensures in
    let n : ℕ = c.loop-place.place in
    let same : c.is_asked.new.seat.me.0 ≡ w = ap (λ m. m.0) c.is_asked.ensures.pass.1 in
    let row = live_row (held_at c.args.ap w.seen) n (sym c.if-state-eq1.true ∙ told.state) in (
      omega (arith, c.loop-place-test.true),
      (row.0, ap (λ (x : View). Rattle.std.specs.Prelude.slice_get (held_at c.args.ap x.seen) n) same ∙ row.1, (c.is_asked.ensures.asked (live row.0) row.1).0 c.if-is_asked.true),
      subst (λ (x : View). LastLoad (load_of c.args.ap n 1) c.args.seat.now.me.0 x) (sym same) (last_load c.args.seat.now.me.0 v w (load_of c.args.ap n 1) c.loop-place.invariant.2 (told.load ∙ ap (λ (s : ℕ). load_of c.args.ap n s ∷ v.loads) c.if-state-eq1.true)),
    )

pub returns-then-is_asked-clause-lasting : goal.returns-then-is_asked-clause-lasting
returns-then-is_asked-clause-lasting c = λ _. subst (λ (u : View). LoadsLast u) (sym (ap (λ m. m.0) c.is_asked.ensures.pass.1)) c.look_at-state.ensures.lasting

pub loop-place-preserved : goal.loop-place-preserved
loop-place-preserved c =
    let v = c.loop-place.seat.me.0 in
    let w = c.look_at-state.new.seat.me.0 in
    let told = c.look_at-state.ensures in
    let n : ℕ = c.loop-place.place in
    let Is = Asked (name_octets c.args.name) c.args.sta in
    let qs = held_at c.args.ap w.seen in
    let passed = passed_grows Is n (held_at c.args.ap v.seen) qs (follows_grows c.args.ap v.seen w.seen told.more.seen) c.loop-place.invariant.3 in
    let more = more_on c.args.seat.now.me.0 v w c.loop-place.invariant.2 told.more in
    elim c.else-state-eq1.branch [
      | else-state-eq1-via-then-state-eq1+else-is_asked x ↦
          (let same : c.else-state-eq1.seat.me.0 ≡ w = ap (λ s. s.me.0) x.seat-is ∙ ap (λ m. m.0) x.is_asked.ensures.pass.1 in (
            ap (λ s. s.table_id) x.seat-is ∙ (x.is_asked.ensures.pass.0 ∙ (told.pass.0 ∙ c.loop-place.invariant.0)),
            ap (λ s. s.me.1) x.seat-is ∙ (ap (λ m. m.1) x.is_asked.ensures.pass.1 ∙ (told.pass.1 ∙ c.loop-place.invariant.1)),
            subst (λ (u : View). KnowsMore c.args.seat.now.me.0 u) (sym same) more,
            subst (λ (u : View). Passed Is (n + 1) (held_at c.args.ap u.seen)) (sym same) (passed_more Is n c.look_at-state.result qs told.state c.if-state-eq0.false (λ one p e asked. true≢false (sym ((x.is_asked.ensures.asked p e).1 asked) ∙ x.if-is_asked.false)) passed),
            λ _. subst (λ (u : View). length (held_at c.args.ap u.seen) ≤ 64) (sym same) told.room,
            λ _. subst (λ (u : View). LoadsLast u) (sym same) told.lasting,
          ))
      | else-state-eq1-via-else-state-eq1 x ↦
          (let same : c.else-state-eq1.seat.me.0 ≡ w = ap (λ s. s.me.0) x.seat-is in (
            ap (λ s. s.table_id) x.seat-is ∙ (told.pass.0 ∙ c.loop-place.invariant.0),
            ap (λ s. s.me.1) x.seat-is ∙ (told.pass.1 ∙ c.loop-place.invariant.1),
            subst (λ (u : View). KnowsMore c.args.seat.now.me.0 u) (sym same) more,
            subst (λ (u : View). Passed Is (n + 1) (held_at c.args.ap u.seen)) (sym same) (passed_more Is n c.look_at-state.result qs told.state c.if-state-eq0.false (λ one p e asked. absurd (x.if-state-eq1.false one)) passed),
            λ _. subst (λ (u : View). length (held_at c.args.ap u.seen) ≤ 64) (sym same) told.room,
            λ _. subst (λ (u : View). LoadsLast u) (sym same) told.lasting,
          ))
    ]

pub returns-clause-spot : goal.returns-clause-spot
returns-clause-spot c =
    let n : ℕ = c.loop-place.place in
    let Is = Asked (name_octets c.args.name) c.args.sta in
    let ps = held_at c.args.ap c.loop-place.seat.me.0.seen in
    let past = c.loop-place-test.false in
    let room = c.loop-place.invariant.4 (omega (arith, past)) in
    let passed = c.loop-place.invariant.3 in
    (passed_all Is n ps (omega (arith, room, past)) passed, omega (arith, room, passed.0, past), omega arith, λ h. absurd (omega (arith, h)))

pub returns-clause-lasting : goal.returns-clause-lasting
returns-clause-lasting c = c.loop-place.invariant.5

pub loop-place-init : goal.loop-place-init
loop-place-init c = grind (arith, common_steps)

use Rattle.std.proofs.Common.{◌≡◌, ◌≤◌, ◌∙◌, ◌+◌, ◌-◌, ◌++◌, ℕ, List, ap, sym, refl, arith, take, drop, length, false}
use Rattle.std.proofs.lemmas.Bool.{both_ways}
use Rattle.std.proofs.lemmas.List.{take_at, take_all, length-append, length-drop, length-take-le}
use Rattle.std.proofs.lemmas.Slice.{drop-append-drop}
use Rattle.ccmp_guard.specs.Ccm.{Sealed}
use Rattle.ccmp_guard.specs.Ccmp.{ccm_nonce, ccm_aad, Protected}
use Rattle.ccmp_guard.proofs.Sealing.{parts, Sealed-along}
use Rattle.ccmp_guard.proofs.ccmp.open_with.Goals as goal
use Rattle.ccmp_guard.proofs.ccmp.open_with.Goals.{After-open, then-len-gt-LONGEST-via-then-len-gt-LONGEST, then-len-gt-LONGEST-via-else-len-gt-LONGEST+then-not-has_ext_iv}

-- the number of octets written
opened_long : (body out new : List ℕ) → length new ≡ length (take (length body - 8 - 8) out) → 16 ≤ length body → length body ≤ length out + 16 → length new ≡ length body - 8 - 8
opened_long body out new e h k = e ∙ length-take-le (length body - 8 - 8) out (omega arith)

pub returns-then-len-gt-LONGEST-clause-seal : goal.returns-then-len-gt-LONGEST-clause-seal
returns-then-len-gt-LONGEST-clause-seal c = λ id pn plain p.
    let body = c.args.body.now in
    let long = (parts c.args.key.now (ccm_nonce c.args.header.now pn) (ccm_aad c.args.header.now) plain (drop 8 body) p.sealed).long in
    elim c.then-len-gt-LONGEST.branch [
      | then-len-gt-LONGEST-via-then-len-gt-LONGEST w ↦ absurd (omega (arith, w.if-len-gt-LONGEST.true, p.sealed.short, long, length-drop 8 body))
      | then-len-gt-LONGEST-via-else-len-gt-LONGEST+then-not-has_ext_iv w ↦ both_ways false refl (w.if-not-has_ext_iv.ensures.1 p.extended)
    ]

pub returns-then-len-gt-LONGEST-clause-only : goal.returns-then-len-gt-LONGEST-clause-only
returns-then-len-gt-LONGEST-clause-only c = returns-then-len-gt-LONGEST-clause-seal c

-- where a plain text is sealed to the body, it was found
found : (c : After-open) (id pn : ℕ) (plain : List ℕ) → Protected c.args.key.now c.args.header.now id pn plain c.args.body.now
    → Sealed c.args.key.now c.nonce_of.result (take c.aad_of-aad_len.result c.aad_of-aad_len.new.aad) plain (take (length c.args.body.now - 8) (drop 8 c.args.body.now))
found c id pn plain p =
    let header = c.args.header.now in
    let behind = take_all (length c.args.body.now - 8) (drop 8 c.args.body.now) (omega (arith, length-drop 8 c.args.body.now)) in
    let number : pn ≡ c.packet_number-pn.result = sym (c.packet_number-pn.ensures.value ∙ p.number) in
    Sealed-along (ap (ccm_nonce header) number ∙ sym c.nonce_of.ensures) (sym c.aad_of-aad_len.ensures.written) refl (sym behind) p.sealed

pub returns-then-open-clause-opened : goal.returns-then-open-clause-opened
returns-then-open-clause-opened c =
    let body = c.args.body.now in
    let end = length body - 8 - 8 in
    let text : c.open.new.out ≡ take end (c.open.new.out ++ drop end c.args.out.now) = sym (take_at c.open.new.out (drop end c.args.out.now) end (opened_long c.args.body.now c.args.out.now c.open.new.out c.open.auto.out (omega arith) (omega arith))) in record {
      mac_header = c.requires.header;
      number = sym c.packet_number-pn.ensures.value;
      key_id = refl;
      extended = c.if-not-has_ext_iv.ensures.0 refl;
      sealed = Sealed-along c.nonce_of.ensures c.aad_of-aad_len.ensures.written text
          (take_all (length body - 8) (drop 8 body) (omega (arith, length-drop 8 body))) (c.open.ensures.sealed c.if-open.true);
    }

pub returns-then-open-clause-only : goal.returns-then-open-clause-only
returns-then-open-clause-only c = λ id pn plain p.
    let body = c.args.body.now in
    let end = length body - 8 - 8 in
    let both = c.open.ensures.only plain (found (goal.at.returns-then-open-clause-only c).After-open id pn plain p) in
    (c.packet_number-pn.ensures.value ∙ p.number, take_at c.open.new.out (drop end c.args.out.now) end (opened_long c.args.body.now c.args.out.now c.open.new.out c.open.auto.out (omega arith) (omega arith)) ∙ both.1)

pub returns-else-open-clause-seal : goal.returns-else-open-clause-seal
returns-else-open-clause-seal c = λ id pn plain p.
    let both = c.open.ensures.only plain (found (goal.at.returns-else-open-clause-seal c).After-open id pn plain p) in
    both_ways c.open.result c.if-open.false both.0

pub returns-else-open-clause-only : goal.returns-else-open-clause-only
returns-else-open-clause-only c = returns-else-open-clause-seal c

pub returns-then-open-clause-rest : goal.returns-then-open-clause-rest
returns-then-open-clause-rest c = λ n h.
    drop-append-drop (length c.args.body.now - 8 - 8) c.args.out.now c.open.new.out n (omega arith) (opened_long c.args.body.now c.args.out.now c.open.new.out c.open.auto.out (omega arith) (omega arith))

pub returns-else-open-clause-rest : goal.returns-else-open-clause-rest
returns-else-open-clause-rest c = λ n h.
    drop-append-drop (length c.args.body.now - 8 - 8) c.args.out.now c.open.new.out n (omega arith) (opened_long c.args.body.now c.args.out.now c.open.new.out c.open.auto.out (omega arith) (omega arith))

pub slice_bounds-open-end : goal.slice_bounds-open-end
slice_bounds-open-end c = sym (length-take-le c.aad_of-aad_len.result c.aad_of-aad_len.new.aad (omega (arith, c.aad_of-aad_len.ensures.few, c.aad_of-aad_len.array_long)))

pub slice_bounds-open-end-3 : goal.slice_bounds-open-end-3
slice_bounds-open-end-3 c = sym (length-take-le (length c.args.body.now - 8 - 8) c.args.out.now (omega (arith, c.requires.room)))

pub open-requires-clause-some : goal.open-requires-clause-some
open-requires-clause-some c =
    let long = length-take-le c.aad_of-aad_len.result c.aad_of-aad_len.new.aad (omega (arith, c.aad_of-aad_len.ensures.few, c.aad_of-aad_len.array_long)) in
    omega (arith, long, c.aad_of-aad_len.ensures.some)

pub open-requires-clause-few : goal.open-requires-clause-few
open-requires-clause-few c =
    let long = length-take-le c.aad_of-aad_len.result c.aad_of-aad_len.new.aad (omega (arith, c.aad_of-aad_len.ensures.few, c.aad_of-aad_len.array_long)) in
    omega (arith, long, c.aad_of-aad_len.ensures.few)

-- the slice is as long as it was
as_long : (body out new : List ℕ) → length new ≡ length body - 8 - 8 → length body ≤ length out + 16 → length (new ++ drop (length body - 8 - 8) out) ≡ length out
as_long body out new e h = omega (arith, e, h, length-append new (drop (length body - 8 - 8) out), length-drop (length body - 8 - 8) out)

pub returns-then-open-clause-len : goal.returns-then-open-clause-len
returns-then-open-clause-len c =
    as_long c.args.body.now c.args.out.now c.open.new.out (opened_long c.args.body.now c.args.out.now c.open.new.out c.open.auto.out c.requires.long c.requires.room) c.requires.room

pub returns-else-open-clause-len : goal.returns-else-open-clause-len
returns-else-open-clause-len c =
    as_long c.args.body.now c.args.out.now c.open.new.out (opened_long c.args.body.now c.args.out.now c.open.new.out c.open.auto.out c.requires.long c.requires.room) c.requires.room

pub open-requires-clause-room : goal.open-requires-clause-room
open-requires-clause-room c =
    let body = c.args.body.now in
    let plain = length-take-le (length body - 8 - 8) c.args.out.now (omega (arith, c.requires.room)) in
    let sealed = length-take-le (length body - 8) (drop 8 body) (omega (arith, length-drop 8 body)) in
    omega (arith, c.requires.long, plain, sealed)

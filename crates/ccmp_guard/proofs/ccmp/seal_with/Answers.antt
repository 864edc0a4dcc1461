use Rattle.std.proofs.Common.{◌≡◌, ◌∙◌, ◌+◌, ◌++◌, ℕ, List, ap, subst, sym, length, arith}
use Rattle.std.proofs.lemmas.List.{length-take-le}
use Rattle.ccmp_guard.specs.Ccmp.{ccmp_header, Protected}
use Rattle.ccmp_guard.proofs.Sealing.{parts}
use Rattle.ccmp_guard.proofs.Bodies.{slice_with, length-ccmp_header, body_written, body_header, body_rest, Protected-made}
use Rattle.ccmp_guard.proofs.ccmp.seal_with.Goals as goal
use Rattle.ccmp_guard.proofs.ccmp.seal_with.Goals.{After-seal}

-- what is written
head_is : (c : After-seal) → c.copy_from_slice.new.self ≡ ccmp_header c.args.key_id c.args.pn
head_is c = c.copy_from_slice.ensures.after ∙ c.header_octets.ensures

head_long : (c : After-seal) → length c.copy_from_slice.new.self ≡ 8
head_long c = ap length (head_is c) ∙ length-ccmp_header c.args.key_id c.args.pn

sealed_long : (c : After-seal) → length c.seal.new.out ≡ length c.args.plain.now + 8
sealed_long c = (parts _ _ _ _ _ c.seal.ensures).long

pub returns-clause-sealed : goal.returns-clause-sealed
unfolding slice_with
returns-clause-sealed c =
    let at = (goal.at.returns-clause-sealed c).After-seal in
    let sealed = c.seal.new.out in
    let body = body_written c.copy_from_slice.new.self sealed c.args.out.now (length c.args.plain.now) (head_long at) (sealed_long at)
    ∙ ap (λ (w : List ℕ). w ++ sealed) (head_is at) in
    let P : List ℕ → Type 0 = λ b. Protected c.args.key.now c.args.header.now c.args.key_id c.args.pn c.args.plain.now b in
    subst P (sym body) (Protected-made c.args.key.now c.args.header.now c.args.key_id c.args.pn c.args.plain.now sealed c.nonce_of.result _
    c.requires.header c.requires.number c.nonce_of.ensures c.aad_of-aad_len.ensures.written c.seal.ensures)

pub returns-clause-header : goal.returns-clause-header
unfolding slice_with
returns-clause-header c =
    let at = (goal.at.returns-clause-header c).After-seal in
    body_header c.copy_from_slice.new.self c.seal.new.out c.args.out.now (length c.args.plain.now) (head_long at) (sealed_long at) ∙ head_is at

pub returns-clause-rest : goal.returns-clause-rest
unfolding slice_with
returns-clause-rest c = λ m h.
    let at = (goal.at.returns-clause-rest c).After-seal in
    body_rest c.copy_from_slice.new.self c.seal.new.out c.args.out.now (length c.args.plain.now) m (head_long at) (sealed_long at) h

pub slice_bounds-seal-end : goal.slice_bounds-seal-end
slice_bounds-seal-end c = sym (length-take-le c.aad_of-aad_len.result c.aad_of-aad_len.new.aad (omega (arith, c.aad_of-aad_len.ensures.few, c.aad_of-aad_len.array_long)))

pub copy_from_slice-requires : goal.copy_from_slice-requires
copy_from_slice-requires c =
    length-take-le 8 c.args.out.now (omega (arith, c.requires.room)) ∙ sym (ap length c.header_octets.ensures ∙ length-ccmp_header c.args.key_id c.args.pn)

pub seal-requires-clause-some : goal.seal-requires-clause-some
seal-requires-clause-some c =
    let long = length-take-le c.aad_of-aad_len.result c.aad_of-aad_len.new.aad (omega (arith, c.aad_of-aad_len.ensures.few, c.aad_of-aad_len.array_long)) in
    omega (arith, long, c.aad_of-aad_len.ensures.some)

pub seal-requires-clause-few : goal.seal-requires-clause-few
seal-requires-clause-few c =
    let long = length-take-le c.aad_of-aad_len.result c.aad_of-aad_len.new.aad (omega (arith, c.aad_of-aad_len.ensures.few, c.aad_of-aad_len.array_long)) in
    omega (arith, long, c.aad_of-aad_len.ensures.few)

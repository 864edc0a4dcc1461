use Rattle.std.proofs.Common.{◌∙◌, ◌-◌, ℕ, sym, subst, length, take}
use Rattle.std.proofs.lemmas.Bool.{both_ways}
use Rattle.domain_base.proofs.OctetLemmas.{octets_by_entries}
use Rattle.bip_guard.specs.Bip.{BipProtected, key_id_in}
use Rattle.bip_guard.proofs.Bodies.{made, content-of, ipn-of, verifies-of}
use Rattle.bip_guard.proofs.frame.open_frame.Goals as goal

pub returns-then-mic_verifies-clause-found : goal.returns-then-mic_verifies-clause-found
returns-then-mic_verifies-clause-found c =
    let body = c.args.body.now in
    let P : ℕ → Type 0 = λ n. BipProtected c.args.igtk.now c.args.header.now (key_id_in body) n (take (length body - 18) body) body in
    subst P (sym c.ipn_in.ensures)
    (made c.args.igtk.now c.args.header.now body c.requires.header c.requires.element (octets_by_entries body (λ i. (c.type_inv.body i).fits)) (sym c.mic_verifies.ensures ∙ c.if-mic_verifies.true))

pub returns-then-mic_verifies-clause-only : goal.returns-then-mic_verifies-clause-only
returns-then-mic_verifies-clause-only c = λ id ipn content p. (c.ipn_in.ensures ∙ ipn-of p, content-of p)

pub returns-else-mic_verifies-clause-only : goal.returns-else-mic_verifies-clause-only
returns-else-mic_verifies-clause-only c = λ id ipn content p.
    both_ways c.mic_verifies.result c.if-mic_verifies.false (c.mic_verifies.ensures ∙ verifies-of p)

pub returns-else-mic_verifies-clause-seal : goal.returns-else-mic_verifies-clause-seal
returns-else-mic_verifies-clause-seal c = λ id ipn content p.
    both_ways c.mic_verifies.result c.if-mic_verifies.false (c.mic_verifies.ensures ∙ verifies-of p)

pub returns-then-mic_verifies-clause-mic : goal.returns-then-mic_verifies-clause-mic
returns-then-mic_verifies-clause-mic c = sym c.mic_verifies.ensures ∙ c.if-mic_verifies.true

pub returns-else-mic_verifies-clause-mic : goal.returns-else-mic_verifies-clause-mic
returns-else-mic_verifies-clause-mic c = sym c.mic_verifies.ensures ∙ c.if-mic_verifies.false

use Rattle.std.proofs.Common.{◌≡◌, ◌↔◌, ◌∙◌, ℕ, IsTrue, List, Option, Some, refl, sym, subst}
use Rattle.std.proofs.lemmas.Bool.{both_ways}
use Rattle.run_journal.specs.declared.index.Question.{Question}
use Rattle.run_journal.specs.Looking.{Fits}
use Rattle.run_journal.proofs.index.Question.fits.Goals as goal

pub returns-in-Drawn : goal.returns-in-Drawn
returns-in-Drawn c =
    let there = c.is_there.result in
    subst (λ (q : Question). IsTrue there ↔ Fits q c.args.entry.now) (sym c.in-Drawn.is)
    (subst (λ (o : Option (List ℕ)). IsTrue there ↔ (o ≡ Some c.in-Drawn.octets.now)) c.drawn.ensures c.is_there.ensures)

pub returns-in-TemporalKey : goal.returns-in-TemporalKey
returns-in-TemporalKey c =
    let there = c.is_there-in-TemporalKey.result in
    subst (λ (q : Question). IsTrue there ↔ Fits q c.args.entry.now) (sym c.in-TemporalKey.is)
    (subst (λ (o : Option (List ℕ)). IsTrue there ↔ (o ≡ Some c.in-TemporalKey.octets.now)) c.temporal_key.ensures c.is_there-in-TemporalKey.ensures)

pub returns-in-ConfirmationKey : goal.returns-in-ConfirmationKey
returns-in-ConfirmationKey c =
    let there = c.is_there-in-ConfirmationKey.result in
    subst (λ (q : Question). IsTrue there ↔ Fits q c.args.entry.now) (sym c.in-ConfirmationKey.is)
    (subst (λ (o : Option (List ℕ)). IsTrue there ↔ (o ≡ Some c.in-ConfirmationKey.octets.now)) c.confirmation_key.ensures c.is_there-in-ConfirmationKey.ensures)

pub returns-then-is_seal : goal.returns-then-is_seal
returns-then-is_seal c =
    subst (λ (q : Question). IsTrue c.is_before.result ↔ Fits q c.args.entry.now) (sym c.in-SealBefore.is)
    (λ t. (sym c.seal_sent.ensures ∙ c.if-is_seal.ensures.0 refl, c.is_before.ensures.0 t), λ f. c.is_before.ensures.1 f.1)

pub returns-else-is_seal : goal.returns-else-is_seal
returns-else-is_seal c =
    let there = c.is_seal.result in
    subst (λ (q : Question). IsTrue there ↔ Fits q c.args.entry.now) (sym c.in-SealBefore.is)
    (λ e. absurd (both_ways there c.if-is_seal.false e), λ f. c.is_seal.ensures.1 (c.seal_sent.ensures ∙ f.0))

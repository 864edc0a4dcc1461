use Rattle.std.proofs.Common.{◌≡◌, ℕ, List, [], ◌∷◌, ◌++◌, Some, None, refl, ap, ◌∙◌, rules}
use Rattle.domain_base.specs.declared.names.Node.TheVariants.{Ap}
use Rattle.run_journal.specs.declared.acts.Act.{Act}
use Rattle.run_journal.specs.declared.acts.Act.TheVariants.{Took}
use Rattle.run_journal.specs.declared.acts.Kind.TheVariants.{AssocResp}
use Rattle.run_journal.specs.declared.acts.Outcome.TheVariants.{Accepted}
use Rattle.station_node.proofs.responses.take_accepted.Goals as goal

same_added : {a b : List Act} {x y : Act} → a ≡ b → x ≡ y → a ++ x ∷ [] ≡ b ++ y ∷ []
same_added e f = rw (e, f) refl

pub returns-clause-acts : goal.returns-clause-acts
returns-clause-acts c =
    let copy : c.in_ok-octets.octets.items ≡ c.args.octets.now = search rules in
    c.add.ensures.acts ∙ same_added c.reserve.ensures.acts (c.took_response.ensures ∙ ap (λ (o : List ℕ). Took (Some (Ap c.args.ap)) o AssocResp Accepted None) copy)

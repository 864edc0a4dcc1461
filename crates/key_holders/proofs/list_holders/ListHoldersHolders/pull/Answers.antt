use Rattle.std.proofs.Common.{◌≡◌, ℕ, List, None, refl, sym, ◌∙◌, rules}
use Rattle.std.specs.Prelude.{position, bytes_eq}
use Rattle.key_holders.specs.Listed.{Pulled}
use Rattle.key_holders.proofs.Holding.{no_holder, asked_at, pulled_at, pulled_answers, pulled_named}
use Rattle.key_holders.proofs.list_holders.ListHoldersHolders.pull.Goals as goal

pub returns-in_default-clause-pulls : goal.returns-in_default-clause-pulls
returns-in_default-clause-pulls c =
    let none : None ≡ position (λ (i : List ℕ). bytes_eq i c.args.r0kh_id.now) c.args.self.now.ids = search rules in
    (no_holder c.args.self.now.ids c.args.r0kh_id.now none, refl)

pub returns-in_default-clause-answer : goal.returns-in_default-clause-answer
returns-in_default-clause-answer c = (returns-in_default-clause-pulls c).0

-- what the rows of the access point say
pulled : (c : goal.After-pull) → Pulled c.args.self.now c.args.r0kh_id.now c.args.name.now c.args.r1kh c.args.sta c.pull.result
pulled c =
    let at = asked_at c.args.self.now c.self.inside.holders.items c.self.inside.ids.items c.args.r0kh_id.now c.in-Some.r0kh c.index.result.now c.self.view_is c.self.invariant (sym c.in-Some.is ∙ c.holder_of.ensures) c.index.ensures in
    pulled_at c.args.self.now c.args.r0kh_id.now c.args.name.now c.args.r1kh c.args.sta c.in-Some.r0kh c.index.result.now c.pull.result at.0 at.1 c.pull.ensures

pub returns-clause-pulls : goal.returns-clause-pulls
returns-clause-pulls c = (pulled c, refl)

pub returns-clause-answer : goal.returns-clause-answer
returns-clause-answer c = pulled_answers c.args.self.now c.args.r0kh_id.now c.args.name.now c.args.r1kh c.args.sta c.pull.result (pulled c)

pub returns-clause-named : goal.returns-clause-named
returns-clause-named c = pulled_named c.args.self.now c.args.r0kh_id.now c.args.name.now c.args.r1kh c.args.sta c.pull.result (pulled c)

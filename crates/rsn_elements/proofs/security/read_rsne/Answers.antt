use Rattle.std.proofs.Common.{ℕ, List, take, sym, subst, ap, rules}
use Rattle.rsn_elements.specs.Rsne.{SpellsRsne}
use Rattle.rsn_elements.specs.Fields.{rsne_fields}
use Rattle.rsn_elements.proofs.RsneLaws.{begins}
use Rattle.rsn_elements.proofs.security.read_rsne.Goals as goal

pub returns-in-None : goal.returns-in-None
returns-in-None c =
    let shape = begins c.args.body.now c.in-1.len_at_least (search rules) (search rules) in
    (λ other. other.1 (ap (λ (w : List ℕ). take 2 w) shape), λ f s. c.in-None.ensures f (subst (λ (w : List ℕ). SpellsRsne w f) shape s))

pub returns-in-len2-up : goal.returns-in-len2-up
returns-in-len2-up c = search rules

pub returns-in-Some : goal.returns-in-Some
returns-in-Some c =
    let shape = begins c.args.body.now c.in-1.len_at_least (search rules) (search rules) in
    subst (λ (w : List ℕ). SpellsRsne w (rsne_fields c.in-Some.rsne)) (sym shape) c.in-Some.ensures

use Rattle.std.proofs.Common.{List, ℕ, ap, ◌∙◌}
use Rattle.domain_base.specs.declared.names.Akm.TheVariants.{PskSha256}
use Rattle.key_hierarchy.specs.Keys.{pairwise_ptk}
use Rattle.key_hierarchy.proofs.last_derived.LastDerived.sha256_ptk.Goals as goal

pub returns-in-Some : goal.returns-in-Some
returns-in-Some c =
    c.keyed_ptk.ensures
    ∙ ap (λ (w : List ℕ). pairwise_ptk PskSha256 w c.args.aa c.args.spa c.args.anonce.now c.args.snonce.now) c.in-Some.ensures

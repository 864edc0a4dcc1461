use Rattle.std.proofs.Common.{ap, ◌∙◌}
use Rattle.domain_world.specs.State.{Nodes}
use Rattle.domain_world.proofs.Stepping.{listed_extra, none_listed, stand_none}
use Rattle.domain_world.proofs.nodes.Nodes.add_extra.Goals as goal

pub returns-clause-listed : goal.returns-clause-listed
returns-clause-listed c = listed_extra c.self.inside.domain _ c.self.inside.aps.items c.self.inside.stas.items _ c.self.invariant.0

pub returns-clause-stand : goal.returns-clause-stand
returns-clause-stand c = λ j.
    stand_none _ j (none_listed _ c.self.inside.domain.aps c.self.invariant.0.count_aps (ap (λ (n : Nodes). n.domain.aps) c.self.view_is ∙ c.requires.no_aps))
    (none_listed _ c.self.inside.domain.stas c.self.invariant.0.count_stas (ap (λ (n : Nodes). n.domain.stas) c.self.view_is ∙ c.requires.no_stas))

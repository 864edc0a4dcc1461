-- Where a node stands (profile).
use Rattle.std.specs.Prelude.{ℕ}
use Rattle.domain_base.specs.declared.names.Node.{Node}
use Rattle.run_journal.specs.declared.domain.Domain.{Domain}

-- a node of a domain, and the number at which it began to draw
pub record Here : Type 0 where
  pub domain : Domain
  pub first : ℕ
  pub node : Node

-- where a node stands
abbrev pub here : Domain → ℕ → Node → Here
here d first n = record { domain = d; first = first; node = n }

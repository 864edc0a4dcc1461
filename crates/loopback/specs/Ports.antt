-- At which port each node's socket is (profile).
use Rattle.std.specs.Prelude.{ℕ, ◌+◌}
use Rattle.domain_base.specs.declared.names.Node.{Node}
use Rattle.domain_base.specs.declared.names.Node.TheVariants.{Ap, Sta}

-- access points from the first port on, and then stations, where there are so many access points
abbrev pub port_at : ℕ → ℕ → Node → ℕ
port_at first access_points (Ap n) = first + n
port_at first access_points (Sta n) = first + (access_points + n)

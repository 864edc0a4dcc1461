-- The R0KH-IDs of a network in form.
use Rattle.std.proofs.Common.{ℕ, zero, suc, ◌<◌, List, [], ◌∷◌, length, arith}
use Rattle.std.specs.Prelude.{slice_get, option_map, unwrap_or}
use Rattle.domain_base.specs.declared.names.Node.TheVariants.{Ap}
use Rattle.key_hierarchy.specs.Sizes.{IsR0khId}
use Rattle.run_journal.specs.declared.domain.Domain.{Domain}
use Rattle.run_journal.specs.declared.domain.ListedAp.{ListedAp}
use Rattle.domain_rules.specs.Network.{AreAps, InForm, r0kh_id}
use Rattle.run_journal.specs.Events.{IsListed}

-- the R0KH-ID at that place
abbrev id_at : List ListedAp → ℕ → List ℕ
id_at aps k = unwrap_or (option_map (λ (a : ListedAp). a.r0kh_id) (slice_get aps k)) []

sized_at : (aps : List ListedAp) (k : ℕ) → AreAps aps → k < length aps → IsR0khId (id_at aps k)
sized_at [] k are low = absurd (omega (arith, low))
sized_at (a ∷ aps) zero are low = record { least = are.1; most = are.2 }
sized_at (a ∷ aps) (suc k) are low = sized_at aps k are.5 (omega (arith, low))

-- each has 1 to 48 octets
pub own_id_sized : (d : Domain) (k : ℕ) → InForm d → IsListed d (Ap k) → IsR0khId (r0kh_id d (Ap k))
own_id_sized d k form listed = sized_at d.aps k form.aps listed

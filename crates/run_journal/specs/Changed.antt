-- Networks in which keys of stations are changed (profile).
use Rattle.std.specs.Prelude.{ℕ, zero, suc, ◌==◌, Bool, true, cond, List, [], ◌∷◌, Option, Some, None}
use Rattle.run_journal.specs.declared.domain.Domain.{Domain}
use Rattle.run_journal.specs.declared.domain.ListedSta.{ListedSta}
use Rattle.run_journal.specs.declared.domain.Event.{Event}
use Rattle.run_journal.specs.declared.domain.Event.TheVariants.{Secret}

-- the key of station k is changed, where that one is named, or none and so all
abbrev pub is_named : Option ℕ → ℕ → Bool
is_named None k = true
is_named (Some s) k = s == k

-- the stations from the k-th on, each of those with that key
abbrev pub rekeyed : Option ℕ → List ℕ → ℕ → List ListedSta → List ListedSta
rekeyed named psk k [] = []
rekeyed named psk k (s ∷ stas) = record { address = s.address; psk = cond (is_named named k) psk s.psk } ∷ rekeyed named psk (suc k) stas

-- the network with the changed key
abbrev pub changed : Domain → Option ℕ → List ℕ → Domain
changed d named psk = record d { stas = rekeyed named psk zero d.stas }

-- the network after an event
abbrev pub changed_by : Domain → Event → Domain
changed_by d (Secret named psk) = changed d named psk
changed_by d event = d

-- Networks with one more node, or with one more line of the header (profile).
use Rattle.std.specs.Prelude.{ℕ, true, List, [], ◌∷◌, ◌++◌, Some}
use Rattle.domain_base.specs.declared.names.Mac.{Mac}
use Rattle.run_journal.specs.declared.domain.Domain.{Domain}
use Rattle.run_journal.specs.declared.domain.Extras.{Extras}
use Rattle.run_journal.specs.declared.domain.Extra.{Extra}
use Rattle.run_journal.specs.declared.domain.Extra.TheVariants.{RenewAt, Mfp}

-- the network with one more access point
abbrev pub with_ap : Domain → Mac → List ℕ → Domain
with_ap d address r0kh_id = record d { aps = d.aps ++ record { address = address; r0kh_id = r0kh_id } ∷ [] }

-- a network with one more station, of that pre-shared key, after the others
abbrev pub with_sta : Domain → Mac → List ℕ → Domain
with_sta d address psk = record d { stas = d.stas ++ record { address = address; psk = psk } ∷ [] }

-- what the header says with one line more that it may have
abbrev pub add_extra : Extras → Extra → Extras
add_extra x (RenewAt at) = record x { renew_at = Some at }
add_extra x Mfp = record x { mfp = true }

-- the network of a header that has that line too
abbrev pub with_extra : Domain → Extra → Domain
with_extra d extra = record d { extras = add_extra d.extras extra }

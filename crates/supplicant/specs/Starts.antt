-- How a supplicant begins (profile).
use Rattle.std.specs.Prelude.{◌≡◌, ℕ, List, [], Option, Some, None}
use Rattle.domain_base.specs.declared.names.Node.{Node}
use Rattle.run_journal.specs.declared.domain.Domain.{Domain}
use Rattle.supplicant.specs.declared.supplicant.StaStart.{StaStart}
use Rattle.supplicant.specs.declared.supplicant.StaStart.TheVariants.{Connect, Ft}
use Rattle.supplicant.specs.declared.attempt.Attempt.{Attempt}
use Rattle.supplicant.specs.declared.session.Session.{Session}
use Rattle.supplicant.specs.declared.session.Session.TheVariants as session
use Rattle.supplicant.specs.declared.base.Base.{Base}
use Rattle.supplicant.specs.Bases.{NamesHolder, IsBaseOf}

-- the attempt that it has then
abbrev pub begun : StaStart → Option Attempt
begun (Connect snonce fte) = Some (record { snonce = snonce.now; key = None })
begun (Ft ptk) = None

-- the session that it has as it begins
abbrev pub held_at_first : StaStart → Option Session
held_at_first (Connect snonce fte) = None
held_at_first (Ft ptk) = Some (session.Ft ptk.now None)

-- the FTE of the association response (IEEE Std 802.11-2020, 13.4.2)
abbrev pub fte_in_start : StaStart → List ℕ
fte_in_start (Connect snonce fte) = fte.now
fte_in_start (Ft ptk) = []

-- where an association response was accepted, its FTE has an R0KH-ID (IEEE Std 802.11-2020, 13.4.2)
abbrev pub NamesHolderWhere : StaStart → Type 0
NamesHolderWhere (Connect snonce fte) = NamesHolder fte.now
NamesHolderWhere (Ft ptk) = Unit {0}

-- what an attempt goes back to (IEEE Std 802.11-2020, 13.4.2)
abbrev pub IsBaseAtFirst : Domain → Node → Node → StaStart → Base → Type 0
IsBaseAtFirst d n p (Connect snonce fte) b = IsBaseOf d n p fte.now b
IsBaseAtFirst d n p (Ft ptk) b = b.akm ≡ d.akm

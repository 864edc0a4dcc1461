-- The FTE that an association goes back to is one of access points.
use Rattle.std.proofs.Common.{◌≡◌, ◌≤◌, List, ℕ, length, Some, sym, subst}
use Rattle.frame_making.specs.KeyData.{HasShortFte}
use Rattle.frame_making.specs.Mobile.{Mobility}
use Rattle.authenticator.specs.declared.base.Base.{Base}

pub short_as : (a b : Base) → a ≡ b → HasShortFte b.mobility → HasShortFte a.mobility
short_as a b is short = subst (λ (x : Base). HasShortFte x.mobility) (sym is) short

pub short_some : (m : Mobility) (name mdid fte : List ℕ) → m ≡ record { name = name; mdid = mdid; fte = fte } → length fte ≤ 142 → HasShortFte (Some m)
short_some m name mdid fte is few = subst (λ (x : Mobility). length x.fte ≤ 142) (sym is) few

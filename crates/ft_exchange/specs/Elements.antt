-- What the elements of a frame of fast transition are refused for (IEEE Std 802.11-2020, 9.4.1.9 and 13.8).
-- For the code alone: no public contract speaks of it.
use Rattle.std.specs.Prelude.{ℕ, Bool, List, Option, Some, None, option_and_then, bytes_eq, if◌then◌else◌}
use Rattle.domain_base.specs.declared.names.Akm.TheVariants.{FtPsk}
use Rattle.rsn_elements.specs.Rsne.{RsneFields}
use Rattle.rsn_elements.specs.Transition.{MdeFields}
use Rattle.rsn_elements.specs.Elements.{ElementFields}
use Rattle.rsn_elements.specs.Fits.{rsne_status}

-- the status with which an MDE is refused that is missing or of another mobility domain than this
abbrev pub mde_code : List ℕ → Option MdeFields → Option ℕ
mde_code mdid None = Some 54
mde_code mdid (Some m) = if bytes_eq m.mdid mdid then None else Some 54

abbrev pub status_or : Option ℕ → Option ℕ → Option ℕ
status_or (Some code) other = Some code
status_or None other = other

-- the status with which the RSNE, or else the MDE is refused, where management frames are protected or not
abbrev pub elements_status : Bool → List ℕ → ElementFields → Option ℕ
elements_status protected mdid e = status_or (rsne_status protected FtPsk e.rsne) (mde_code mdid e.mde)

-- the names of keys in an RSNE
abbrev pub pmkids_of : Option RsneFields → Option (List ℕ)
pmkids_of rsne = option_and_then (λ (r : RsneFields). r.pmkids) rsne

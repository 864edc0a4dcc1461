-- What the octets under a seal of a frame say, of data with CCM or of an announcement with BIP: the way of the frame, its packet number and
-- the plain text. Each is a function of the octets, so that octets that are sealed alike say the same.
use Rattle.std.proofs.Common.{◌≡◌, ℕ, Bool, true, cond, List, take, drop, length, refl}
use Rattle.std.specs.Prelude.{◌==◌, ◌-◌}
use Rattle.bip_guard.specs.Bip.{ipn_in}
use Rattle.journal_safety.proofs.CoversData.{covered_form, covered_tid, covered_number, covered_down, covered_plain, CoversData}

-- ---- an announcement

-- the octets end in an MME without its MIC, 18 octets, in which the IPN stands
unfoldable pub action_number : List ℕ → ℕ
action_number octets = ipn_in octets

-- what stands before it, after the form and the additional authentication data of 20 octets
unfoldable pub action_plain : List ℕ → List ℕ
action_plain octets = drop 21 (take (length octets - 18) octets)

-- the octets say this
pub record CoversAction (octets : List ℕ) (number : ℕ) (plain : List ℕ) : Type 0 where
  pub form : covered_form octets ≡ 4
  pub number_is : action_number octets ≡ number
  pub plain_is : action_plain octets ≡ plain

-- ---- a frame of either form

-- under a temporal key, or under an IGTK
pub data IsFrame (octets : List ℕ) : Type 0 where
  Of_data : covered_form octets ≡ 3 → IsFrame octets
  Of_action : covered_form octets ≡ 4 → IsFrame octets

-- an announcement goes down
abbrev pub frame_down : List ℕ → Bool
frame_down octets = cond (covered_form octets == 4) true (covered_down octets)

abbrev pub frame_number : List ℕ → ℕ
frame_number octets = cond (covered_form octets == 4) (action_number octets) (covered_number octets)

abbrev pub frame_plain : List ℕ → List ℕ
frame_plain octets = cond (covered_form octets == 4) (action_plain octets) (covered_plain octets)

-- the octets say this; an announcement has no TID
pub record CoversFrame (octets : List ℕ) (down : Bool) (tid number : ℕ) (plain : List ℕ) : Type 0 where
  pub form : IsFrame octets
  pub way : frame_down octets ≡ down
  pub tid_is : covered_tid octets ≡ tid
  pub number_is : frame_number octets ≡ number
  pub plain_is : frame_plain octets ≡ plain

pub data_frame : (octets : List ℕ) (down : Bool) (tid number : ℕ) (plain : List ℕ) → CoversData octets down tid number plain → CoversFrame octets down tid number plain
data_frame octets down tid number plain c = record {
  form = Of_data c.form;
  way = rw c.form c.way;
  tid_is = c.tid_is;
  number_is = rw c.form c.number_is;
  plain_is = rw c.form c.plain_is;
}

pub action_frame : (octets : List ℕ) (number : ℕ) (plain : List ℕ) → CoversAction octets number plain → CoversFrame octets true (covered_tid octets) number plain
action_frame octets number plain c = record {
  form = Of_action c.form;
  way = rw c.form refl;
  tid_is = refl;
  number_is = rw c.form c.number_is;
  plain_is = rw c.form c.plain_is;
}

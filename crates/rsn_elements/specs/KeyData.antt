-- The KDEs of group keys: the GTK KDE and the IGTK KDE (IEEE Std 802.11-2020, 12.7.2).
use Rattle.std.specs.Prelude.{◌≡◌, ℕ, ◌≤◌, ◌%◌, ◌/◌, Bool, ◌==◌, List, length, drop, slice_index}
use Rattle.std.specs.Int.{w16}
use Rattle.domain_base.specs.Places.{part, little_endian_at}

-- what a GTK KDE says
pub record GtkKdeFields : Type 0 where
  pub id : ℕ
  pub transmit : Bool
  pub key : List ℕ

-- The body: OUI and type, then an octet with the key id in bits 0 and 1 and Tx in bit 2, a reserved octet, the key.
abbrev pub SpellsGtkKde : List ℕ → GtkKdeFields → Type 0
SpellsGtkKde body f = (6 ≤ length body) × (f ≡ record { id = slice_index body 4 % 4; transmit = slice_index body 4 / 4 % 2 == 1; key = drop 6 body })

-- what an IGTK KDE says
pub record IgtkKdeFields : Type 0 where
  pub id : ℕ
  pub ipn : List ℕ
  pub key : List ℕ

-- The body: OUI and type, then the key id in two octets, lowest first, the IPN in six, the key.
abbrev pub SpellsIgtkKde : List ℕ → IgtkKdeFields → Type 0
SpellsIgtkKde body f = (12 ≤ length body) × (f ≡ record { id = little_endian_at w16 4 body; ipn = part 6 6 body; key = drop 12 body })

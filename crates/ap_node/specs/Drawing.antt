-- The group keys of an access point as they are drawn (IEEE Std 802.11-2020, 12.7.7, profile).
use Rattle.std.specs.Prelude.{ℕ, suc, ◌+◌, Bool, List, [], ◌∷◌, Option, Some, None, if◌then◌else◌}
use Rattle.run_journal.specs.declared.acts.Drawn.TheVariants as draw
use Rattle.run_journal.specs.declared.acts.GroupKind.TheVariants as groups
use Rattle.run_journal.specs.declared.acts.Act.{Act}
use Rattle.run_journal.specs.declared.acts.Act.TheVariants.{Drew}

-- the draw number of the last of them, where the first has this one: an IGTK is drawn after the GTK, or none
abbrev pub last_of : Bool → ℕ → ℕ
last_of igtk number = if igtk then suc number else number

-- the draw number after theirs
abbrev pub drawn_after : Bool → ℕ → ℕ
drawn_after igtk number = if igtk then number + 2 else number + 1

-- the acts of drawing these
abbrev pub drew : List ℕ → Option (List ℕ) → List Act
drew gtk None = Drew (draw.Group groups.Gtk gtk) ∷ []
drew gtk (Some igtk) = Drew (draw.Group groups.Gtk gtk) ∷ Drew (draw.Group groups.Igtk igtk) ∷ []

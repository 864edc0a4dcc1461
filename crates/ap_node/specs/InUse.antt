-- The current group keys of an access point in use (IEEE Std 802.11-2020, 12.7.7, profile).
use Rattle.std.specs.Prelude.{ℕ, List, [], ◌∷◌, Option, Some, None, option_map, replicate}
use Rattle.domain_base.specs.declared.names.Mac.{Mac}
use Rattle.domain_base.specs.declared.names.Peer.TheVariants.{All}
use Rattle.ccmp_guard.specs.declared.guard.Role.TheVariants as roles
use Rattle.ccmp_guard.specs.Held.{Held}
use Rattle.run_journal.specs.declared.acts.GroupKind.{GroupKind}
use Rattle.run_journal.specs.declared.acts.GroupKind.TheVariants as groups
use Rattle.run_journal.specs.declared.acts.Key.TheVariants.{Group}
use Rattle.run_journal.specs.declared.acts.Why.TheVariants as why
use Rattle.run_journal.specs.declared.acts.Outcome.{Outcome}
use Rattle.run_journal.specs.declared.acts.Outcome.TheVariants.{Idle}
use Rattle.run_journal.specs.declared.acts.Act.{Act}
use Rattle.run_journal.specs.declared.acts.Act.TheVariants.{Installed}
use Rattle.domain_rules.specs.PacketNumbers.{SendKey}
use Rattle.group_key.specs.declared.keys.GroupKey.{GroupKey}
use Rattle.data_frames.specs.Announcing.{announced_outcome}
use Rattle.ap_node.specs.declared.sending.Sending.{Sending}

-- no packet number was used under a GTK, and none under an IGTK
abbrev pub unused : GroupKey → Held
unused g = record { role = roles.Group g.id; key = g.key; used = 0; kept = replicate 16 0 }

abbrev pub unannounced : GroupKey → SendKey
unannounced g = record { key = g.key; id = g.id; used = 0 }

-- the keys as they come into use
abbrev pub made : GroupKey → Option GroupKey → Sending
made gtk igtk = record { gtk = unused gtk; igtk = option_map unannounced igtk }

-- a group key becomes the current one of its kind, of the access point with that address
abbrev pub made_act : GroupKind → GroupKey → Mac → Act
made_act kind g b = Installed All (Group kind g.key g.id b)

-- so do a GTK, and after it an IGTK where there is one
abbrev pub made_acts : GroupKey → Option GroupKey → Mac → List Act
made_acts gtk None b = made_act groups.Gtk gtk b ∷ []
made_acts gtk (Some igtk) b = made_act groups.Gtk gtk b ∷ made_act groups.Igtk igtk b ∷ []

-- how many packet numbers were used under an IGTK: none where there is none
abbrev pub announced_in : Option SendKey → ℕ
announced_in None = 0
announced_in (Some k) = k.used

-- what an announcement comes to under an IGTK, or without one
abbrev pub announced_by : Option SendKey → Outcome
announced_by None = Idle why.NoKey
announced_by (Some k) = announced_outcome k

-- Questions to the kinds of group keys (IEEE Std 802.11-2020, 12.7.1.4).
use Rattle.std.specs.Prelude.{ℕ, zero, suc, nat_lt, Bool, true, false, cond, Option, Some, None}
use Rattle.run_journal.specs.declared.acts.GroupKind.{GroupKind}
use Rattle.run_journal.specs.declared.acts.GroupKind.TheVariants as groups

-- two kinds are one
abbrev pub same_group_kind : GroupKind → GroupKind → Bool
same_group_kind groups.Gtk groups.Gtk = true
same_group_kind groups.Igtk groups.Igtk = true
same_group_kind groups.Gtk groups.Igtk = false
same_group_kind groups.Igtk groups.Gtk = false

-- the kind of the group keys that have this key id: a GTK has 1 to 3, an IGTK 4 or 5, and 0 is no group key's (12.7.2, profile)
abbrev pub kind_of_id : ℕ → Option GroupKind
kind_of_id zero = None
kind_of_id (suc before) = cond (nat_lt before 3) (Some groups.Gtk) (cond (nat_lt before 5) (Some groups.Igtk) None)

-- a key id is one of the group keys of that kind
abbrev pub is_of_kind : GroupKind → Option GroupKind → Bool
is_of_kind kind None = false
is_of_kind kind (Some other) = same_group_kind kind other

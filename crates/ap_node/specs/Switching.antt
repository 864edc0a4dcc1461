-- The switch to the newest group keys at the end of an event (IEEE Std 802.11-2020, 12.7.7, profile).
use Rattle.std.specs.Prelude.{◌==◌, ◌&&◌, Bool, cond, not, List, [], Option, option_map}
use Rattle.domain_base.specs.declared.names.Node.TheVariants.{Ap}
use Rattle.run_journal.specs.declared.domain.Domain.{Domain}
use Rattle.run_journal.specs.declared.acts.Outcome.{Outcome}
use Rattle.run_journal.specs.declared.acts.Outcome.TheVariants.{Refused}
use Rattle.run_journal.specs.declared.acts.Act.{Act}
use Rattle.domain_rules.specs.Network.{mac}
use Rattle.group_key.specs.declared.keys.GroupKey.{GroupKey}
use Rattle.group_key.specs.declared.keys.Pair.{Pair}
use Rattle.group_key.specs.Keys.{switched_all}
use Rattle.ap_node.specs.State.{State}
use Rattle.ap_node.specs.InUse.{made, made_acts}

-- the newest group keys are not in use, and no session owes an answer for them
abbrev pub is_due : State → Bool
is_due s = not (s.group.gtk.newest.place == s.group.gtk.current.place) && (s.owing == 0)

-- the newest IGTK, where there is one
abbrev pub newest_beside : Option Pair → Option GroupKey
newest_beside o = option_map (λ (t : Pair). t.newest) o

-- the newest group keys come into use
abbrev pub switched : State → State
switched s = record s {
  group = cond (is_due s) (switched_all s.group) s.group;
  sending = cond (is_due s) (made s.group.gtk.newest (newest_beside s.group.igtk)) s.sending;
}

-- where the switch is due, the acts of it
abbrev pub due_acts : Domain → State → List Act
due_acts d s = cond (is_due s) (made_acts s.group.gtk.newest (newest_beside s.group.igtk) (mac d (Ap s.number))) []

-- the end of an event of which that came: a refusal changes nothing
abbrev pub ended : Outcome → State → State
ended (Refused why) s = s
ended _ s = switched s

-- the acts at the end of an event
abbrev pub end_acts : Domain → Outcome → State → List Act
end_acts d (Refused why) s = []
end_acts d _ s = due_acts d s

-- Which sessions of an access point owe an answer to the group key handshake, and when its newest group key comes into
-- use. That it waits for the answers of all sessions is this project's choice (IEEE Std 802.11-2020, 12.7.7, profile).
use Rattle.std.specs.Prelude.{ℕ, zero, suc, Bool, true, false, cond, not, nat_lt, ◌&&◌, ◌||◌, List, [], ◌∷◌, ◌++◌, length, Option, None, is_some}
use Rattle.domain_base.specs.declared.names.Node.{Node}
use Rattle.domain_base.specs.declared.names.Node.TheVariants.{Ap, Sta}
use Rattle.domain_base.specs.declared.names.Peer.TheVariants.{All}
use Rattle.eapol_key.specs.declared.messages.Message.TheVariants.{G1, G2}
use Rattle.run_journal.specs.declared.acts.GroupKind.{GroupKind}
use Rattle.run_journal.specs.declared.acts.GroupKind.TheVariants as groups
use Rattle.run_journal.specs.declared.domain.Domain.{Domain}
use Rattle.run_journal.specs.Events.{protects}
use Rattle.run_journal.specs.declared.acts.Kind.TheVariants as frame_kind
use Rattle.run_journal.specs.declared.acts.Key.TheVariants.{Group}
use Rattle.run_journal.specs.declared.acts.Act.{Act}
use Rattle.run_journal.specs.declared.acts.Act.TheVariants.{Installed}
use Rattle.run_journal.specs.Acts.{Derivation}
use Rattle.run_journal.specs.Questions.{session, handshake, group_keys, add}
use Rattle.domain_rules.specs.Network.{mac}
use Rattle.domain_rules.specs.Asking.{has_heard}
use Rattle.domain_rules.specs.Counters.{sent_count}
use Rattle.domain_rules.specs.GroupKeys.{newest, is_current}

-- in the handshake with p, of which this is the history, G1 was sent and no G2 accepted
abbrev pub is_open : Node → List Act → Bool
is_open p part = nat_lt 0 (sent_count p G1 part) && not (has_heard p (frame_kind.Key G2) part)

-- the key of a session that owes a G2 for the newest group key
abbrev pub owing : GroupKind → Node → List Act → Option Derivation
owing kind p h = cond (is_open p (handshake kind p h)) (session p h) None

-- one of the first so many stations owes
abbrev pub any_owes : GroupKind → ℕ → List Act → Bool
any_owes kind zero h = false
any_owes kind (suc k) h = is_some (owing kind (Sta k) h) || any_owes kind k h

-- the newest group key of a kind of an access point becomes current (profile)
abbrev pub current_act : GroupKind → Domain → Node → List Act → Act
current_act kind d n h = Installed All (Group kind (newest kind h).key (newest kind h).id (mac d n))

-- the newest IGTK becomes current, where management frames are protected (profile)
abbrev pub current_igtk : Bool → Domain → Node → List Act → List Act
current_igtk false d n h = []
current_igtk true d n h = current_act groups.Igtk d n h ∷ []

-- the newest group keys of an access point become current together: the GTK, and after it the IGTK (profile)
abbrev pub current_acts : Domain → Node → List Act → List Act
current_acts d n h = current_act groups.Gtk d n h ∷ current_igtk (protects d) d n h

-- the acts after this many other acts: where no session owes and the newest group key is not current, it becomes
-- current (profile)
abbrev pub switch_acts : Domain → ℕ → List Act → List Act
switch_acts d a h =
    cond (is_current groups.Gtk h || any_owes groups.Gtk (length d.stas) h) [] (current_acts d (Ap a) h)

-- what a node adds, and at an access point what the switch adds after it (profile)
abbrev pub and_switch : Domain → Node → List Act → List Act → List Act
and_switch d (Sta s) h acts = acts
and_switch d (Ap a) h acts = acts ++ switch_acts d a (add acts h)

-- a group key was drawn between these two moments: the first history had another newest (profile)
abbrev pub is_older : GroupKind → List Act → List Act → Bool
is_older kind before h = nat_lt (length (group_keys kind before)) (length (group_keys kind h))

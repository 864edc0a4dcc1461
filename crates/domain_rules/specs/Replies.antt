-- What the reply of one side of a handshake comes to: the acts of the node, in order (profile).
use Rattle.std.specs.Prelude.{◌≡◌, ℕ, ◌+◌, ◌==◌, Bool, true, cond, List, [], ◌∷◌, ◌++◌, take, drop, Option, None, Some, option_map}
use Rattle.domain_base.specs.declared.names.Node.{Node}
use Rattle.domain_base.specs.declared.names.Node.TheVariants.{Ap, Sta}
use Rattle.domain_base.specs.declared.names.Peer.TheVariants.{One}
use Rattle.key_hierarchy.specs.declared.inputs.Inputs.{Inputs}
use Rattle.run_journal.specs.declared.acts.GroupKind.{GroupKind}
use Rattle.run_journal.specs.declared.acts.GroupKind.TheVariants as groups
use Rattle.run_journal.specs.declared.domain.Domain.{Domain}
use Rattle.run_journal.specs.declared.reply.Reply.{Reply}
use Rattle.run_journal.specs.declared.reply.Keyed.{Keyed}
use Rattle.run_journal.specs.declared.reply.GtkNews.{GtkNews}
use Rattle.run_journal.specs.declared.acts.Kind.TheVariants as kind
use Rattle.run_journal.specs.declared.acts.Part.TheVariants.{Session}
use Rattle.run_journal.specs.declared.acts.Key.TheVariants.{Pairwise, Group}
use Rattle.run_journal.specs.declared.acts.Outcome.{Outcome}
use Rattle.run_journal.specs.declared.acts.Act.{Act}
use Rattle.run_journal.specs.declared.acts.Act.TheVariants.{Closed, Derived, Sent, Took, Installed, Resumed, Finished}
use Rattle.run_journal.specs.Acts.{Derivation}
use Rattle.run_journal.specs.Questions.{draws}
use Rattle.domain_rules.specs.Network.{mac, Root, root, station_of, inputs}
use Rattle.domain_rules.specs.Frames.{frame_seal}
use Rattle.domain_rules.specs.Reading.{KeyMessage, Keyed as KeyedReading, ReadsAt}
use Rattle.domain_rules.specs.Verdict.{first_verdict, key_verdict}
use Rattle.domain_rules.specs.Closing.{sender}

-- the octets are an EAPOL-Key message for node n from its peer p
pub record IsMessageFrom (d : Domain) (n p : Node) (octets : List ℕ) (k : KeyMessage) : Type 0 where
  pub reads : ReadsAt d octets (KeyedReading k)
  pub from : sender d n (KeyedReading k) ≡ Some p
  pub verdict_is : (first : ℕ) (h : List Act) → first_verdict d first n h (KeyedReading k) ≡ key_verdict d (first + draws h) n h p k k.message

-- what the pairwise key of n with p was derived from, by its root and its nonces
abbrev pub inputs_by : Domain → Root → Node → Node → Keyed → Inputs
inputs_by d r (Ap k) p y = inputs d r (Ap k) p y.anonce y.snonce
inputs_by d r (Sta k) p y = inputs d r (Sta k) p y.snonce y.anonce

-- the key of node n with its peer p
abbrev pub key_by : Domain → Root → Node → Node → Keyed → Derivation
key_by d r n p y = record { inputs = inputs_by d r n p y; ptk = y.ptk }

-- the key that was derived, where one was
abbrev pub derived_acts : Domain → Root → Node → Node → Option Keyed → List Act
derived_acts d r n p None = []
derived_acts d r n p (Some y) = Derived p (inputs_by d r n p y) y.ptk ∷ []

-- the session that was there is closed as a new key takes its place
abbrev pub replaced_acts : Node → Bool → Option Keyed → List Act
replaced_acts p true (Some y) = Closed p Session ∷ []
replaced_acts p had y = []

-- the pairwise key that was installed, where one was
abbrev pub installed_acts : Domain → Root → Node → Node → Option Keyed → List Act
installed_acts d r n p None = []
installed_acts d r n p (Some y) = Installed (One p) (Pairwise y.ptk.tk (inputs_by d r n p y)) ∷ []

-- the group key of that kind that was installed or resumed, where one was
abbrev pub group_acts : GroupKind → Domain → Node → Option GtkNews → List Act
group_acts k d p None = []
group_acts k d p (Some g) = cond g.resumed (Resumed p (Group k g.key g.id (mac d p))) (Installed (One p) (Group k g.key g.id (mac d p))) ∷ []

-- the final message was accepted, where a key was installed
abbrev pub finished_acts : Domain → Root → Node → Node → Option Keyed → List Act
finished_acts d r n p None = []
finished_acts d r n p (Some y) = Finished p (inputs_by d r n p y) ∷ []

-- an air frame, whose EAPOL frame stands after 32 octets; what is sealed in it by the key
abbrev pub frame_acts : Node → Reply → List ℕ → List Act
frame_acts p r octets = Sent (One p) r.kind octets (option_map (λ kck. frame_seal kck (drop 32 octets)) r.sealed) ∷ []

-- the frame that was sent, where one was
abbrev pub sent_acts : Node → Reply → List Act
sent_acts p r = cond (r.len == 0) [] (frame_acts p r (take r.len r.octets))

-- a node with its peer, and what their keys go back to
pub record Pair : Type 0 where
  pub domain : Domain
  pub root : Root
  pub node : Node
  pub peer : Node

-- acts of the node that the reply does not tell of: those right after it took the frame, of which no node has any, and those right
-- before it sends one (what it puts with key holders)
pub record Between : Type 0 where
  pub opened : List Act
  pub put : List Act

-- of an octet string that came as that EAPOL-Key message, what came of it
pub record Taken : Type 0 where
  pub octets : List ℕ
  pub message : KeyMessage
  pub outcome : Outcome

-- A node takes an EAPOL-Key message of its peer, and had a session with it or not.
abbrev pub replied_acts : Pair → Bool → Taken → Reply → Between → List Act
replied_acts w had t r b =
    Took (Some w.peer) t.octets (kind.Key t.message.message) t.outcome (option_map (λ kck. frame_seal kck t.message.octets) r.verified)
    ∷ b.opened
    ++ (derived_acts w.domain w.root w.node w.peer r.derived ++ replaced_acts w.peer had r.installed
    ++ installed_acts w.domain w.root w.node w.peer r.installed ++ group_acts groups.Gtk w.domain w.peer r.gtk
    ++ group_acts groups.Igtk w.domain w.peer r.igtk ++ finished_acts w.domain w.root w.node w.peer r.installed ++ (b.put ++ sent_acts w.peer r))

-- with suites 2 and 6 the root is the pre-shared key of the station
abbrev pub pair : Domain → Node → Node → Pair
pair d n p = record { domain = d; root = root d (station_of n p); node = n; peer = p }

-- a message that was taken, with what came of it
abbrev pub taken_as : List ℕ → KeyMessage → Outcome → Taken
taken_as octets k outcome = record { octets = octets; message = k; outcome = outcome }

-- the acts of taking a message, where nothing stands between
abbrev pub reply_acts : Pair → Bool → Taken → Reply → List Act
reply_acts w had t r = replied_acts w had t r (record { opened = []; put = [] })

-- What the acts of a reply leave of pairwise keys in use, and what an installation among them gives.
use Rattle.std.proofs.Common.{◌≡◌, ◌∙◌, ◌++◌, ℕ, Bool, true, false, cond, List, [], ◌∷◌, Option, Some, None, refl, sym, ap, subst, take}
use Rattle.std.proofs.lemmas.List.{get_or-replicate}
use Rattle.std.proofs.lemmas.Slice.Eq.{bytes_eq-Decides}
use Rattle.std.specs.Prelude.{◌==◌, bytes_eq, option_map}
use Rattle.std.specs.List.{AllByRecursion}
use Rattle.domain_base.specs.declared.names.Mac.{Mac}
use Rattle.domain_base.specs.declared.names.Node.{Node}
use Rattle.domain_base.specs.declared.names.Peer.TheVariants.{One}
use Rattle.key_hierarchy.specs.declared.inputs.Inputs.{Inputs}
use Rattle.key_hierarchy.specs.declared.inputs.Ptk.{Ptk}
use Rattle.run_journal.specs.declared.acts.GroupKind.{GroupKind}
use Rattle.run_journal.specs.declared.acts.GroupKind.TheVariants as groups
use Rattle.run_journal.specs.declared.domain.Domain.{Domain}
use Rattle.run_journal.specs.declared.acts.Kind.{Kind}
use Rattle.run_journal.specs.declared.acts.Kind.TheVariants as kind
use Rattle.run_journal.specs.declared.acts.Part.TheVariants.{Session}
use Rattle.run_journal.specs.declared.acts.Outcome.{Outcome}
use Rattle.run_journal.specs.declared.acts.Seal.{Seal}
use Rattle.run_journal.specs.declared.acts.Key.TheVariants.{Pairwise, Group}
use Rattle.run_journal.specs.declared.acts.Act.{Act}
use Rattle.run_journal.specs.declared.acts.Act.TheVariants.{Took, Derived, Closed, Installed, Resumed, Finished, Sent}
use Rattle.run_journal.specs.declared.reply.Reply.{Reply}
use Rattle.run_journal.specs.declared.reply.Keyed.{Keyed}
use Rattle.run_journal.specs.declared.reply.GtkNews.{GtkNews}
use Rattle.run_journal.specs.Acts.{same}
use Rattle.run_journal.specs.Questions.{add}
use Rattle.domain_rules.specs.Network.{Root}
use Rattle.domain_rules.specs.Reading.{KeyMessage}
use Rattle.domain_rules.specs.Frames.{frame_seal}
use Rattle.domain_rules.specs.Replies.{taken_as, inputs_by, derived_acts, replaced_acts, installed_acts, group_acts, finished_acts, frame_acts, sent_acts, reply_acts}
use Rattle.domain_rules.proofs.Parts.{same-refl, add_append}
use Rattle.act_memory.proofs.RepliedActs.{all_joined}
use Rattle.data_frames.specs.Holding.{HoldsPairwise, LeavesPairwise, fresh_key}
use Rattle.data_frames.proofs.Standing.{others}
use Rattle.node_base.specs.Pairs.{pair_of}

-- ---- acts that leave each pairwise key in use

pub leaves-took : (q p : Node) (tk octets : List ℕ) (k : Kind) (o : Outcome) (s : Option Seal) → LeavesPairwise q tk (Took (Some p) octets k o s)
leaves-took q p tk octets k o s = record { used = λ h. refl; got = λ tid h. refl }

leaves-derived : (q p : Node) (tk : List ℕ) (i : Inputs) (k : Ptk) → LeavesPairwise q tk (Derived p i k)
leaves-derived q p tk i k = record { used = λ h. refl; got = λ tid h. refl }

pub leaves-closed : (q p : Node) (tk : List ℕ) → LeavesPairwise q tk (Closed p Session)
leaves-closed q p tk = record { used = λ h. refl; got = λ tid h. refl }

leaves-group : (kind : GroupKind) (q p : Node) (tk key : List ℕ) (id : ℕ) (b : Mac) → LeavesPairwise q tk (Installed (One p) (Group kind key id b))
leaves-group kind q p tk key id b = record { used = λ h. refl; got = λ tid h. refl }

leaves-resumed : (kind : GroupKind) (q p : Node) (tk key : List ℕ) (id : ℕ) (b : Mac) → LeavesPairwise q tk (Resumed p (Group kind key id b))
leaves-resumed kind q p tk key id b = record { used = λ h. refl; got = λ tid h. refl }

leaves-finished : (q p : Node) (tk : List ℕ) (i : Inputs) → LeavesPairwise q tk (Finished p i)
leaves-finished q p tk i = record { used = λ h. refl; got = λ tid h. refl }

pub leaves-sent : (q p : Node) (tk octets : List ℕ) (k : Kind) (s : Option Seal) → LeavesPairwise q tk (Sent (One p) k octets s)
leaves-sent q p tk octets k s = record { used = λ h. refl; got = λ tid h. refl }

-- of another node also an installation
leaves-installed : (q p : Node) (tk key : List ℕ) (i : Inputs) → same q p ≡ false → LeavesPairwise q tk (Installed (One p) (Pairwise key i))
leaves-installed q p tk key i other = record { used = λ h. rw other refl; got = λ tid h. rw other refl }

-- ---- the acts of a reply

derived_leaves : (d : Domain) (t : Root) (n p q : Node) (tk : List ℕ) (y : Option Keyed) → AllByRecursion (LeavesPairwise q tk) (derived_acts d t n p y)
derived_leaves d t n p q tk None = tt
derived_leaves d t n p q tk (Some y) = (leaves-derived q p tk (inputs_by d t n p y) y.ptk, tt)

replaced_leaves : (p q : Node) (tk : List ℕ) (had : Bool) (x : Option Keyed) → AllByRecursion (LeavesPairwise q tk) (replaced_acts p had x)
replaced_leaves p q tk true None = tt
replaced_leaves p q tk true (Some y) = (leaves-closed q p tk, tt)
replaced_leaves p q tk false x = tt

group_by : (kind : GroupKind) (b : Bool) (q p : Node) (tk key : List ℕ) (id : ℕ) (m : Mac) → LeavesPairwise q tk (cond b (Resumed p (Group kind key id m)) (Installed (One p) (Group kind key id m)))
group_by kind true q p tk key id m = leaves-resumed kind q p tk key id m
group_by kind false q p tk key id m = leaves-group kind q p tk key id m

group_leaves : (kind : GroupKind) (d : Domain) (p q : Node) (tk : List ℕ) (g : Option GtkNews) → AllByRecursion (LeavesPairwise q tk) (group_acts kind d p g)
group_leaves kind d p q tk None = tt
group_leaves kind d p q tk (Some g) = (group_by kind g.resumed q p tk g.key g.id _, tt)

finished_leaves : (d : Domain) (t : Root) (n p q : Node) (tk : List ℕ) (x : Option Keyed) → AllByRecursion (LeavesPairwise q tk) (finished_acts d t n p x)
finished_leaves d t n p q tk None = tt
finished_leaves d t n p q tk (Some y) = (leaves-finished q p tk (inputs_by d t n p y), tt)

frame_by : (b : Bool) (p q : Node) (tk : List ℕ) (r : Reply) (octets : List ℕ) → AllByRecursion (LeavesPairwise q tk) (cond b [] (frame_acts p r octets))
frame_by true p q tk r octets = tt
frame_by false p q tk r octets = (leaves-sent q p tk octets r.kind _, tt)

pub sent_leaves : (p q : Node) (tk : List ℕ) (r : Reply) → AllByRecursion (LeavesPairwise q tk) (sent_acts p r)
sent_leaves p q tk r = frame_by (r.len == 0) p q tk r (take r.len r.octets)

installed_leaves : (d : Domain) (t : Root) (n p q : Node) (tk : List ℕ) (x : Option Keyed) → same q p ≡ false → AllByRecursion (LeavesPairwise q tk) (installed_acts d t n p x)
installed_leaves d t n p q tk None other = tt
installed_leaves d t n p q tk (Some y) other = (leaves-installed q p tk y.ptk.tk (inputs_by d t n p y) other, tt)

leaves_by : (d : Domain) (t : Root) (n p q : Node) (tk : List ℕ) (had : Bool) (octets : List ℕ) (k : KeyMessage) (o : Outcome) (r : Reply) → AllByRecursion (LeavesPairwise q tk) (installed_acts d t n p r.installed)
    → AllByRecursion (LeavesPairwise q tk) (reply_acts (pair_of d t n p) had (taken_as octets k o) r)
leaves_by d t n p q tk had octets k o r installs = (
  leaves-took q p tk octets _ o _,
  all_joined (LeavesPairwise q tk) _ (sent_acts p r)
      (all_joined (LeavesPairwise q tk) _ (finished_acts d t n p r.installed)
      (all_joined (LeavesPairwise q tk) _ (group_acts groups.Igtk d p r.igtk)
      (all_joined (LeavesPairwise q tk) _ (group_acts groups.Gtk d p r.gtk)
      (all_joined (LeavesPairwise q tk) _ (installed_acts d t n p r.installed)
      (all_joined (LeavesPairwise q tk) (derived_acts d t n p r.derived) (replaced_acts p had r.installed) (derived_leaves d t n p q tk r.derived) (replaced_leaves p q tk had r.installed))
      installs)
      (group_leaves groups.Gtk d p q tk r.gtk))
      (group_leaves groups.Igtk d p q tk r.igtk))
      (finished_leaves d t n p q tk r.installed))
      (sent_leaves p q tk r),
)

-- those of another peer leave the key
pub replied_leaves_others : (d : Domain) (t : Root) (n p q : Node) (tk : List ℕ) (had : Bool) (octets : List ℕ) (k : KeyMessage) (o : Outcome) (r : Reply) → same q p ≡ false
    → AllByRecursion (LeavesPairwise q tk) (reply_acts (pair_of d t n p) had (taken_as octets k o) r)
replied_leaves_others d t n p q tk had octets k o r other = leaves_by d t n p q tk had octets k o r (installed_leaves d t n p q tk r.installed other)

-- and so do those that install none
pub replied_leaves : (d : Domain) (t : Root) (n p q : Node) (tk : List ℕ) (had : Bool) (octets : List ℕ) (k : KeyMessage) (o : Outcome) (r : Reply) → r.installed ≡ None
    → AllByRecursion (LeavesPairwise q tk) (reply_acts (pair_of d t n p) had (taken_as octets k o) r)
replied_leaves d t n p q tk had octets k o r none =
    leaves_by d t n p q tk had octets k o r (subst (λ (x : Option Keyed). AllByRecursion (LeavesPairwise q tk) (installed_acts d t n p x)) (sym none) tt)

-- ---- an installation

octets_same : (xs : List ℕ) → bytes_eq xs xs ≡ true
octets_same xs = (bytes_eq-Decides xs xs).1 refl

holds_installed : (p : Node) (tk : List ℕ) (i : Inputs) (h : List Act) → HoldsPairwise p tk (fresh_key tk) (Installed (One p) (Pairwise tk i) ∷ h)
holds_installed p tk i h = record {
  role = refl;
  key = refl;
  used = sym (rw (same-refl p) refl);
  size = refl;
  kept = λ tid low. get_or-replicate 16 tid 0 0 low ∙ sym (rw (same-refl p, octets_same tk) refl);
}

-- behind the acts of a reply that installs a key, that key is in use
module _ (d : Domain) (t : Root) (n p : Node) (had : Bool) (octets : List ℕ) (k : KeyMessage) (o : Outcome) (r : Reply) (y : Keyed) (h : List Act) where
  abbrev front : List Act
  front = derived_acts d t n p r.derived ++ replaced_acts p had (Some y)

  abbrev at_first : List Act
  at_first = Took (Some p) octets (kind.Key k.message) o (option_map (λ (kck : List ℕ). frame_seal kck k.octets) r.verified) ∷ h

  abbrev acts : List Act
  acts = (((((front ++ installed_acts d t n p (Some y)) ++ group_acts groups.Gtk d p r.gtk) ++ group_acts groups.Igtk d p r.igtk) ++ finished_acts d t n p (Some y)) ++ sent_acts p r)

  in_turn : add acts at_first ≡ add (sent_acts p r) (add (finished_acts d t n p (Some y)) (add (group_acts groups.Igtk d p r.igtk) (add (group_acts groups.Gtk d p r.gtk) (Installed (One p) (Pairwise y.ptk.tk (inputs_by d t n p y)) ∷ add front at_first))))
  in_turn =
      add_append (((((front ++ installed_acts d t n p (Some y)) ++ group_acts groups.Gtk d p r.gtk) ++ group_acts groups.Igtk d p r.igtk)) ++ finished_acts d t n p (Some y)) (sent_acts p r) at_first
      ∙ ap (add (sent_acts p r)) (add_append (((front ++ installed_acts d t n p (Some y)) ++ group_acts groups.Gtk d p r.gtk) ++ group_acts groups.Igtk d p r.igtk) (finished_acts d t n p (Some y)) at_first
      ∙ ap (add (finished_acts d t n p (Some y))) (add_append ((front ++ installed_acts d t n p (Some y)) ++ group_acts groups.Gtk d p r.gtk) (group_acts groups.Igtk d p r.igtk) at_first
      ∙ ap (add (group_acts groups.Igtk d p r.igtk)) (add_append (front ++ installed_acts d t n p (Some y)) (group_acts groups.Gtk d p r.gtk) at_first
      ∙ ap (add (group_acts groups.Gtk d p r.gtk)) (add_append front (installed_acts d t n p (Some y)) at_first))))

  holds_then : HoldsPairwise p y.ptk.tk (fresh_key y.ptk.tk) (add acts at_first)
  holds_then = subst (λ (l : List Act). HoldsPairwise p y.ptk.tk (fresh_key y.ptk.tk) l) (sym in_turn)
      (others p y.ptk.tk (fresh_key y.ptk.tk) (sent_acts p r) _
      (others p y.ptk.tk (fresh_key y.ptk.tk) (finished_acts d t n p (Some y)) _
      (others p y.ptk.tk (fresh_key y.ptk.tk) (group_acts groups.Igtk d p r.igtk) _
      (others p y.ptk.tk (fresh_key y.ptk.tk) (group_acts groups.Gtk d p r.gtk) _
      (holds_installed p y.ptk.tk (inputs_by d t n p y) (add front at_first)) (group_leaves groups.Gtk d p p y.ptk.tk r.gtk))
      (group_leaves groups.Igtk d p p y.ptk.tk r.igtk))
      (finished_leaves d t n p p y.ptk.tk (Some y)))
      (sent_leaves p p y.ptk.tk r))

pub replied_holds : (d : Domain) (t : Root) (n p : Node) (had : Bool) (octets : List ℕ) (k : KeyMessage) (o : Outcome) (r : Reply) (y : Keyed) (h : List Act) → r.installed ≡ Some y
    → HoldsPairwise p y.ptk.tk (fresh_key y.ptk.tk) (add (reply_acts (pair_of d t n p) had (taken_as octets k o) r) h)
replied_holds d t n p had octets k o r y h some = rw some (holds_then d t n p had octets k o r y h)

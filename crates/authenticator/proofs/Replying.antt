-- The acts of replies.
use Rattle.std.proofs.Common.{◌≡◌, ℕ, Bool, true, false, List, [], ◌∷◌, ◌++◌, Option, Some, None, refl, ◌∙◌, arith}
use Rattle.std.specs.Prelude.{option_map}
use Rattle.domain_base.specs.declared.names.Node.{Node}
use Rattle.domain_base.specs.declared.names.Peer.TheVariants.{One}
use Rattle.eapol_key.specs.declared.messages.Message.{Message}
use Rattle.run_journal.specs.declared.domain.Domain.{Domain}
use Rattle.run_journal.specs.declared.acts.Kind.TheVariants as kind
use Rattle.run_journal.specs.declared.acts.Key.TheVariants.{Pairwise}
use Rattle.run_journal.specs.declared.acts.Outcome.{Outcome}
use Rattle.run_journal.specs.declared.acts.Seal.{Seal}
use Rattle.run_journal.specs.declared.acts.Act.{Act}
use Rattle.run_journal.specs.declared.acts.Act.TheVariants.{Took, Derived, Installed, Finished}
use Rattle.run_journal.specs.declared.reply.Reply.{Reply}
use Rattle.run_journal.specs.declared.reply.Keyed.{Keyed}
use Rattle.run_journal.specs.Replies.{IsEmpty, IsWhole}
use Rattle.domain_rules.specs.Frames.{frame_seal}
use Rattle.domain_rules.specs.Reading.{KeyMessage}
use Rattle.domain_rules.specs.Replies.{inputs_by, replaced_acts, sent_acts}
use Rattle.domain_rules.specs.KeyHolders.{put_acts}
use Rattle.domain_rules.specs.Replies.{key_by}
use Rattle.authenticator.specs.Bases.{home}
use Rattle.authenticator.specs.Taken.{told_acts}
use Rattle.authenticator.specs.Judged.{TellsDerived}

-- the message by its name
took_as : (p : Node) (octets : List ℕ) (m n : Message) (o : Outcome) (s : Option Seal) (rest : List Act) → m ≡ n → Took (Some p) octets (kind.Key m) o s ∷ rest ≡ Took (Some p) octets (kind.Key n) o s ∷ rest
took_as p octets m n o s rest is = rw is refl

-- nothing beside the taking
pub only_took : (d : Domain) (n p : Node) (had : Bool) (octets : List ℕ) (k : KeyMessage) (o : Outcome) (r : Reply) (v : Option (List ℕ)) (h : List Act) → r.len ≡ 0 → r.verified ≡ v → r.derived ≡ None → r.installed ≡ None → r.gtk ≡ None → r.igtk ≡ None
    → told_acts d n p had octets k o r h ≡ Took (Some p) octets (kind.Key k.message) o (option_map (λ kck. frame_seal kck k.octets) v) ∷ []
only_took d n p true octets k o r v h len verified derived installed gtk igtk = rw (len, verified, derived, installed, gtk, igtk) refl
only_took d n p false octets k o r v h len verified derived installed gtk igtk = rw (len, verified, derived, installed, gtk, igtk) refl

-- by the name of the message
pub took_only : (d : Domain) (n p : Node) (had : Bool) (octets : List ℕ) (k : KeyMessage) (m : Message) (o : Outcome) (r : Reply) (v : Option (List ℕ)) (h : List Act) → k.message ≡ m → r.len ≡ 0 → r.verified ≡ v → r.derived ≡ None → r.installed ≡ None → r.gtk ≡ None → r.igtk ≡ None
    → told_acts d n p had octets k o r h ≡ Took (Some p) octets (kind.Key m) o (option_map (λ kck. frame_seal kck k.octets) v) ∷ []
took_only d n p had octets k m o r v h is len verified derived installed gtk igtk =
    only_took d n p had octets k o r v h len verified derived installed gtk igtk ∙ took_as p octets k.message m o (option_map (λ kck. frame_seal kck k.octets) v) [] is

answer_acts : (d : Domain) (n p : Node) (had : Bool) (octets : List ℕ) (k : KeyMessage) (o : Outcome) (r : Reply) (y : Keyed) (act : Act) (h : List Act) → TellsDerived y r → sent_acts p r ≡ act ∷ []
    → told_acts d n p had octets k o r h ≡ Took (Some p) octets (kind.Key k.message) o (Some (frame_seal y.ptk.kck k.octets)) ∷ Derived p (inputs_by d (home d n p) n p y) y.ptk ∷ act ∷ []
answer_acts d n p true octets k o r y act h told sends = rw (told.verified, told.derived, told.installed, told.gtk, told.igtk, sends) refl
answer_acts d n p false octets k o r y act h told sends = rw (told.verified, told.derived, told.installed, told.gtk, told.igtk, sends) refl

-- the key was derived, and something is sent
pub answer_took : (d : Domain) (n p : Node) (had : Bool) (octets : List ℕ) (k : KeyMessage) (m : Message) (o : Outcome) (r : Reply) (y : Keyed) (act : Act) (h : List Act) → k.message ≡ m → TellsDerived y r → sent_acts p r ≡ act ∷ []
    → told_acts d n p had octets k o r h ≡ Took (Some p) octets (kind.Key m) o (Some (frame_seal y.ptk.kck k.octets)) ∷ Derived p (inputs_by d (home d n p) n p y) y.ptk ∷ act ∷ []
answer_took d n p had octets k m o r y act h is told sends =
    answer_acts d n p had octets k o r y act h told sends ∙ took_as p octets k.message m o (Some (frame_seal y.ptk.kck k.octets)) (Derived p (inputs_by d (home d n p) n p y) y.ptk ∷ act ∷ []) is

-- what an installed key adds to the taking
abbrev pub finish_acts : Domain → Node → Node → Bool → Keyed → List Act
finish_acts d n p had y = replaced_acts p had (Some y) ++ Installed (One p) (Pairwise y.ptk.tk (inputs_by d (home d n p) n p y)) ∷ Finished p (inputs_by d (home d n p) n p y) ∷ []

-- what is put with the key holder
abbrev pub put_by : Domain → Node → List Act → Node → Keyed → List Act
put_by d n h p y = put_acts d n h p (key_by d (home d n p) n p y)

installed_took : (d : Domain) (n p : Node) (had : Bool) (octets : List ℕ) (k : KeyMessage) (o : Outcome) (r : Reply) (y : Keyed) (h : List Act) → r.verified ≡ Some y.ptk.kck → r.derived ≡ None → r.installed ≡ Some y → r.gtk ≡ None → r.igtk ≡ None
    → told_acts d n p had octets k o r h ≡ Took (Some p) octets (kind.Key k.message) o (Some (frame_seal y.ptk.kck k.octets)) ∷ (finish_acts d n p had y ++ (put_by d n h p y ++ sent_acts p r))
installed_took d n p true octets k o r y h verified derived installed gtk igtk = rw (verified, derived, installed, gtk, igtk) refl
installed_took d n p false octets k o r y h verified derived installed gtk igtk = rw (verified, derived, installed, gtk, igtk) refl

-- the key was installed
pub finish_took : (d : Domain) (n p : Node) (had : Bool) (octets : List ℕ) (k : KeyMessage) (m : Message) (o : Outcome) (r : Reply) (y : Keyed) (h : List Act) → k.message ≡ m → r.verified ≡ Some y.ptk.kck → r.derived ≡ None → r.installed ≡ Some y → r.gtk ≡ None → r.igtk ≡ None
    → told_acts d n p had octets k o r h ≡ Took (Some p) octets (kind.Key m) o (Some (frame_seal y.ptk.kck k.octets)) ∷ (finish_acts d n p had y ++ (put_by d n h p y ++ sent_acts p r))
finish_took d n p had octets k m o r y h is verified derived installed gtk igtk =
    installed_took d n p had octets k o r y h verified derived installed gtk igtk ∙ took_as p octets k.message m o (Some (frame_seal y.ptk.kck k.octets)) (finish_acts d n p had y ++ (put_by d n h p y ++ sent_acts p r)) is

-- nothing is sent
pub nothing_sent : (p : Node) (r : Reply) → r.len ≡ 0 → sent_acts p r ≡ []
nothing_sent p r len = rw len refl

-- an empty reply is whole
pub empty_whole : (r : Reply) → IsEmpty r → IsWhole r
empty_whole r e = record { few = omega (arith, e.len); sealed = λ kck is. absurd (cc (is, e.sealed)) }

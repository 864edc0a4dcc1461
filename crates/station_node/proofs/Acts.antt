-- What single acts do to the questions that a station stands for.
use Rattle.std.proofs.Common.{◌≡◌, ℕ, true, false, List, ◌∷◌, Option, None, refl}
use Rattle.domain_base.specs.declared.names.Node.{Node}
use Rattle.run_journal.specs.declared.acts.Kind.{Kind}
use Rattle.run_journal.specs.declared.acts.Reason.{Reason}
use Rattle.run_journal.specs.declared.acts.Why.{Why}
use Rattle.key_hierarchy.specs.declared.inputs.Inputs.{Inputs}
use Rattle.key_hierarchy.specs.declared.inputs.Ptk.{Ptk}
use Rattle.domain_base.specs.declared.names.Peer.{Peer}
use Rattle.domain_base.specs.declared.names.Peer.TheVariants.{One}
use Rattle.run_journal.specs.declared.acts.GroupKind.{GroupKind}
use Rattle.run_journal.specs.declared.acts.Drawn.{Drawn}
use Rattle.run_journal.specs.declared.acts.Part.{Part}
use Rattle.run_journal.specs.declared.acts.Start.{Start}
use Rattle.run_journal.specs.declared.acts.Key.TheVariants.{Pairwise}
use Rattle.run_journal.specs.declared.acts.Outcome.{Outcome}
use Rattle.run_journal.specs.declared.acts.Outcome.TheVariants.{Refused, Ignored}
use Rattle.run_journal.specs.declared.acts.Seal.{Seal}
use Rattle.run_journal.specs.declared.acts.Act.{Act}
use Rattle.run_journal.specs.declared.acts.Act.TheVariants.{Took, Idle, Opened, Closed, Drew, Sent, Used, Derived, Installed, Finished, Secret}
use Rattle.run_journal.specs.Questions.{is_draw}
use Rattle.run_journal.specs.Holders.{last_r0kh_id}
use Rattle.data_frames.specs.Holding.{LeavesPairwise}
use Rattle.run_journal.specs.Acts.{given_from}
use Rattle.domain_rules.specs.GroupKeys.{got_by}
use Rattle.act_memory.proofs.RepliedActs.{LeavesKept}
use Rattle.domain_rules.proofs.Parts.{IsApart, apart-refused, apart-ignored, apart-idle, leaves_pending, leaves_associated}

-- an act that begins, ends, derives and gives nothing
pub record IsPlainAct (e : Act) : Type 0 where
  pub apart : (p : Node) → IsApart p e
  pub no_draw : is_draw e ≡ false
  pub pending : leaves_pending e ≡ true
  pub associated : leaves_associated e ≡ true
  pub keeps : (p : Node) → LeavesKept p e
  pub leaves : (p : Node) (tk : List ℕ) → LeavesPairwise p tk e
  pub holder : (h : List Act) → last_r0kh_id (e ∷ h) ≡ last_r0kh_id h

pub plain-refused : (from : Option Node) (octets : List ℕ) (k : Kind) (why : Reason) (s : Option Seal) → IsPlainAct (Took from octets k (Refused why) s)
plain-refused from octets k why s = record {
  apart = λ p. apart-refused p from octets k why s;
  no_draw = refl;
  pending = refl;
  associated = refl;
  keeps = λ p. record { gives_none = λ kind. refl; gets_none = λ kind key id heard before. refl };
  leaves = λ p tk. record { used = λ h. refl; got = λ tid h. refl };
  holder = λ h. refl;
}

pub plain-ignored : (from : Option Node) (octets : List ℕ) (k : Kind) (s : Option Seal) → IsPlainAct (Took from octets k Ignored s)
plain-ignored from octets k s = record {
  apart = λ p. apart-ignored p from octets k s;
  no_draw = refl;
  pending = refl;
  associated = refl;
  keeps = λ p. record { gives_none = λ kind. refl; gets_none = λ kind key id heard before. refl };
  leaves = λ p tk. record { used = λ h. refl; got = λ tid h. refl };
  holder = λ h. refl;
}

pub plain-idle : (w : Why) → IsPlainAct (Idle w)
plain-idle w = record {
  apart = λ p. apart-idle p w;
  no_draw = refl;
  pending = refl;
  associated = refl;
  keeps = λ p. record { gives_none = λ kind. refl; gets_none = λ kind key id heard before. refl };
  leaves = λ p tk. record { used = λ h. refl; got = λ tid h. refl };
  holder = λ h. refl;
}

-- ---- acts that tell of no group key

keeps : (p : Node) (e : Act) → ((kind : GroupKind) → given_from kind p e ≡ None) → ((kind : GroupKind) (key : List ℕ) (id heard before : ℕ) → got_by kind p key id e heard before ≡ before) → LeavesKept p e
keeps p e gives gets = record { gives_none = gives; gets_none = gets }

pub keeps-took : (p : Node) (from : Option Node) (octets : List ℕ) (k : Kind) (o : Outcome) (s : Option Seal) → LeavesKept p (Took from octets k o s)
keeps-took p from octets k o s = keeps p (Took from octets k o s) (λ kind. refl) (λ kind key id heard before. refl)

pub keeps-idle : (p : Node) (w : Why) → LeavesKept p (Idle w)
keeps-idle p w = keeps p (Idle w) (λ kind. refl) (λ kind key id heard before. refl)

pub keeps-opened : (p q : Node) (s : Start) → LeavesKept p (Opened q s)
keeps-opened p q s = keeps p (Opened q s) (λ kind. refl) (λ kind key id heard before. refl)

pub keeps-closed : (p q : Node) (part : Part) → LeavesKept p (Closed q part)
keeps-closed p q part = keeps p (Closed q part) (λ kind. refl) (λ kind key id heard before. refl)

pub keeps-drew : (p : Node) (v : Drawn) → LeavesKept p (Drew v)
keeps-drew p v = keeps p (Drew v) (λ kind. refl) (λ kind key id heard before. refl)

pub keeps-sent : (p : Node) (q : Peer) (k : Kind) (octets : List ℕ) (s : Option Seal) → LeavesKept p (Sent q k octets s)
keeps-sent p q k octets s = keeps p (Sent q k octets s) (λ kind. refl) (λ kind key id heard before. refl)

pub keeps-used : (p : Node) (q : Peer) (key : List ℕ) (id number : ℕ) (plain : List ℕ) → LeavesKept p (Used q key id number plain)
keeps-used p q key id number plain = keeps p (Used q key id number plain) (λ kind. refl) (λ kind k i heard before. refl)

pub keeps-derived : (p q : Node) (i : Inputs) (k : Ptk) → LeavesKept p (Derived q i k)
keeps-derived p q i k = keeps p (Derived q i k) (λ kind. refl) (λ kind key id heard before. refl)

pub keeps-pairwise : (p q : Node) (tk : List ℕ) (i : Inputs) → LeavesKept p (Installed (One q) (Pairwise tk i))
keeps-pairwise p q tk i = keeps p (Installed (One q) (Pairwise tk i)) (λ kind. refl) (λ kind key id heard before. refl)

pub keeps-finished : (p q : Node) (i : Inputs) → LeavesKept p (Finished q i)
keeps-finished p q i = keeps p (Finished q i) (λ kind. refl) (λ kind key id heard before. refl)

pub keeps-secret : (p n : Node) (psk : List ℕ) → LeavesKept p (Secret n psk)
keeps-secret p n psk = keeps p (Secret n psk) (λ kind. refl) (λ kind key id heard before. refl)

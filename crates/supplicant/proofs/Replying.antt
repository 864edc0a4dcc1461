-- What a supplicant stands for after an M1 that was accepted.
use Rattle.std.proofs.Common.{◌≡◌, ℕ, Bool, true, false, List, [], ◌∷◌, Option, Some, None, refl, ap, ◌∙◌}
use Rattle.std.specs.Prelude.{is_some}
use Rattle.domain_base.specs.declared.names.Node.{Node}
use Rattle.eapol_key.specs.declared.messages.Message.TheVariants.{M1}
use Rattle.run_journal.specs.declared.domain.Domain.{Domain}
use Rattle.run_journal.specs.declared.acts.Start.TheVariants.{Renew}
use Rattle.run_journal.specs.declared.acts.Drawn.TheVariants.{Nonce}
use Rattle.run_journal.specs.declared.acts.Kind.TheVariants as kind
use Rattle.run_journal.specs.declared.acts.Outcome.TheVariants.{Accepted}
use Rattle.run_journal.specs.declared.acts.Act.{Act}
use Rattle.run_journal.specs.declared.acts.Act.TheVariants.{Opened, Drew, Took, Derived}
use Rattle.run_journal.specs.declared.reply.Keyed.{Keyed}
use Rattle.run_journal.specs.Acts.{Derivation}
use Rattle.run_journal.specs.Questions.{attempt, since, chain, own_nonce, derivation, heard, add}
use Rattle.domain_rules.specs.Network.{renews, root_at, station_of}
use Rattle.domain_rules.specs.Frames.{sent_m2_by}
use Rattle.domain_rules.specs.Replies.{key_by}
use Rattle.domain_rules.specs.Asking.{start_of, is_connect, is_renewal, is_by_roam, kept_counter}
use Rattle.domain_rules.proofs.Parts.{same-refl, since_part, attempt_more, attempt_some, start_more, own_nonce_more}
use Rattle.domain_rules.proofs.Starts.{roam_no_renewal}
use Rattle.supplicant.specs.declared.base.Base.{Base}
use Rattle.supplicant.specs.declared.session.Session.{Session}
use Rattle.supplicant.specs.declared.session.Session.TheVariants.{Connect, Ft}
use Rattle.supplicant.specs.Stands.{IsUnderWay, IsRenewing, IsHeld, Holds}
use Rattle.supplicant.proofs.Standing.{based_on, based_anyway, kept_more}

-- ---- in an attempt

-- M2 has Secure set or not
abbrev pub replying_acts : Bool → Domain → Node → Node → List ℕ → Derivation → ℕ → List ℕ → List Act
replying_acts secure d n p octets x counter fte = Took (Some p) octets (kind.Key M1) Accepted None ∷ Derived p x.inputs x.ptk ∷ sent_m2_by secure d n p x counter fte ∷ []

-- the attempt goes on, and has that key
pub record HasReplied (p : Node) (octets : List ℕ) (x : Derivation) (part new : List Act) : Type 0 where
  pub more : List Act
  pub is : attempt p new ≡ Some more
  pub begun : start_of more ≡ start_of part
  pub nonce : (v : List ℕ) → own_nonce part ≡ Some v → own_nonce more ≡ Some v
  pub counter : kept_counter p more ≡ kept_counter p part
  pub responds : heard p kind.AssocResp more ≡ heard p kind.AssocResp part
  pub hears : heard p (kind.Key M1) more ≡ Some octets
  pub keyed : derivation p more ≡ Some x

has_replied : (secure : Bool) (d : Domain) (n p : Node) (octets : List ℕ) (x : Derivation) (counter : ℕ) (fte : List ℕ) (h part : List Act) → attempt p h ≡ Some part → HasReplied p octets x part (add (replying_acts secure d n p octets x counter fte) h)
has_replied secure d n p octets x counter fte h part is =
    let took = Took (Some p) octets (kind.Key M1) Accepted None in
    let m2 = sent_m2_by secure d n p x counter fte in
    let first = attempt_more p took h part refl refl is in
    let second = attempt_more p (Derived p x.inputs x.ptk) (took ∷ h) (took ∷ part) refl refl first in
    record {
      more = m2 ∷ Derived p x.inputs x.ptk ∷ took ∷ part;
      is = attempt_more p m2 (Derived p x.inputs x.ptk ∷ took ∷ h) (Derived p x.inputs x.ptk ∷ took ∷ part) refl refl second;
      begun = start_more took part (attempt_some p h part is);
      nonce = λ v s. own_nonce_more m2 (Derived p x.inputs x.ptk ∷ took ∷ part) v (own_nonce_more (Derived p x.inputs x.ptk) (took ∷ part) v (own_nonce_more took part v s));
      counter = rw (same-refl p) refl;
      responds = rw (same-refl p) refl;
      hears = rw (same-refl p) refl;
      keyed = rw (same-refl p) refl;
    }

-- one by connect
pub under_way_replied : (d : Domain) (n p : Node) (b : Base) (v octets : List ℕ) (key : Option Keyed) (y : Keyed) (counter : ℕ) (fte : List ℕ) (h : List Act) → IsUnderWay d n p b v key h
    → IsUnderWay d n p b v (Some y) (add (replying_acts false d n p octets (key_by d (root_at d (station_of n p) b.r0kh_id) n p y) counter fte) h)
under_way_replied d n p b v octets key y counter fte h u =
    let x : Derivation = key_by d (root_at d (station_of n p) b.r0kh_id) n p y in
    let g : HasReplied p octets x u.part (add (replying_acts false d n p octets x counter fte) h) = has_replied false d n p octets x counter fte h u.part u.is in
    record {
      part = g.more;
      is = g.is;
      begun = ap is_connect g.begun ∙ u.begun;
      nonce = g.nonce v u.nonce;
      hears = ap is_some g.responds ∙ u.hears;
      based = based_on d n p b u.part g.more g.responds u.based;
      keeps = g.counter ∙ u.keeps;
      asked = ap is_some g.hears;
      keyed = g.keyed;
    }

-- one that renews the key of a session
pub renewing_replied : (d : Domain) (n p : Node) (b : Base) (v octets : List ℕ) (key : Option Keyed) (y : Keyed) (counter : ℕ) (fte : List ℕ) (h : List Act) → IsRenewing d n p b v key h
    → IsRenewing d n p b v (Some y) (add (replying_acts true d n p octets (key_by d (root_at d (station_of n p) b.r0kh_id) n p y) counter fte) h)
renewing_replied d n p b v octets key y counter fte h u =
    let x : Derivation = key_by d (root_at d (station_of n p) b.r0kh_id) n p y in
    let g : HasReplied p octets x u.part (add (replying_acts true d n p octets x counter fte) h) = has_replied true d n p octets x counter fte h u.part u.is in
    record {
      part = g.more;
      is = g.is;
      begun = ap is_renewal g.begun ∙ u.begun;
      nonce = g.nonce v u.nonce;
      has = refl;
      keyed = g.keyed;
      renewed = u.renewed;
    }

-- M1 leaves the counter of the chain
kept_m1 : (p : Node) (octets : List ℕ) (h : List Act) → kept_counter p (chain p (Took (Some p) octets (kind.Key M1) Accepted None ∷ h)) ≡ kept_counter p (chain p h)
kept_m1 p octets h = rw (same-refl p) refl

kept_replied : (d : Domain) (n p : Node) (octets : List ℕ) (x : Derivation) (counter : ℕ) (fte : List ℕ) (h : List Act) → kept_counter p (chain p (add (replying_acts true d n p octets x counter fte) h)) ≡ kept_counter p (chain p h)
kept_replied d n p octets x counter fte h =
    let took : Act = Took (Some p) octets (kind.Key M1) Accepted None in
    kept_more p (sent_m2_by true d n p x counter fte) (Derived p x.inputs x.ptk ∷ took ∷ h) refl refl refl ∙ kept_more p (Derived p x.inputs x.ptk) (took ∷ h) refl refl refl ∙ kept_m1 p octets h

-- beside such an attempt no session is of a fast transition
pub no_transfer : (d : Domain) (n p : Node) (b : Base) (v : List ℕ) (key : Option Keyed) (h : List Act) → IsRenewing d n p b v key h → is_by_roam (since p h) ≡ true → ⊥
no_transfer d n p b v key h u last =
    let other : is_renewal (start_of (since p h)) ≡ false = roam_no_renewal (start_of (since p h)) last in
    let mine : is_renewal (start_of (since p h)) ≡ true = ap (λ (l : List Act). is_renewal (start_of l)) (since_part p h u.part u.is) ∙ u.begun in
    cc (other, mine)

-- and the session beside it goes on
pub holds_replied : (d : Domain) (n p : Node) (b : Base) (z : Session) (v octets : List ℕ) (key : Option Keyed) (x : Derivation) (counter : ℕ) (fte : List ℕ) (h : List Act) → IsRenewing d n p b v key h → Holds d n p b z h → Holds d n p b z (add (replying_acts true d n p octets x counter fte) h)
holds_replied d n p b (Connect y was) v octets key x counter fte h u l = record {
  is = l.is;
  begun = l.begun;
  based = based_anyway d n p b (since p h) (since p (add (replying_acts true d n p octets x counter fte) h)) u.renewed l.based;
  keeps = kept_replied d n p octets x counter fte h ∙ l.keeps;
}
holds_replied d n p b (Ft q was) v octets key x counter fte h u l = absurd (no_transfer d n p b v key h u l.last)

-- ---- as an attempt begins that renews the key of a session

abbrev pub opening_acts : Domain → Node → Node → List ℕ → List ℕ → Derivation → ℕ → List Act
opening_acts d n p octets v x counter =
    Took (Some p) octets (kind.Key M1) Accepted None ∷ Opened p Renew ∷ Drew (Nonce v) ∷ Derived p x.inputs x.ptk ∷ sent_m2_by true d n p x counter [] ∷ []

pub renewing_opened : (d : Domain) (n p : Node) (b : Base) (v octets : List ℕ) (y : Keyed) (counter : ℕ) (h : List Act) → renews d ≡ true
    → IsRenewing d n p b v (Some y) (add (opening_acts d n p octets v (key_by d (root_at d (station_of n p) b.r0kh_id) n p y) counter) h)
renewing_opened d n p b v octets y counter h renewed =
    let x : Derivation = key_by d (root_at d (station_of n p) b.r0kh_id) n p y in
    record {
      part = sent_m2_by true d n p x counter [] ∷ Derived p x.inputs x.ptk ∷ Drew (Nonce v) ∷ Opened p Renew ∷ [];
      is = rw (same-refl p) refl;
      begun = refl;
      nonce = refl;
      has = refl;
      keyed = rw (same-refl p) refl;
      renewed = renewed;
    }

kept_opened : (d : Domain) (n p : Node) (octets v : List ℕ) (x : Derivation) (counter : ℕ) (h : List Act) → kept_counter p (chain p (add (opening_acts d n p octets v x counter) h)) ≡ kept_counter p (chain p h)
kept_opened d n p octets v x counter h = rw (same-refl p) refl

pub held_opened : (d : Domain) (n p : Node) (b : Base) (z : Keyed) (was : ℕ) (v octets : List ℕ) (x : Derivation) (counter : ℕ) (h : List Act) → renews d ≡ true → IsHeld d n p b z was h → IsHeld d n p b z was (add (opening_acts d n p octets v x counter) h)
held_opened d n p b z was v octets x counter h renewed l = record {
  is = l.is;
  begun = l.begun;
  based = based_anyway d n p b (since p h) (since p (add (opening_acts d n p octets v x counter) h)) renewed l.based;
  keeps = kept_opened d n p octets v x counter h ∙ l.keeps;
}

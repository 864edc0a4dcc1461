-- What comes of G1 before its key data.
use Rattle.std.proofs.Common.{◌≡◌, ℕ, List, Option, Some, None, refl, sym, ap, subst, ◌∙◌}
use Rattle.std.specs.Prelude.{Result, Ok, Err}
use Rattle.mac_prf.specs.Mic.{mic}
use Rattle.eapol_key.specs.KeyFrame.{KeyFields}
use Rattle.run_journal.specs.declared.acts.Reason.{Reason}
use Rattle.run_journal.specs.declared.acts.Reason.TheVariants as reason
use Rattle.run_journal.specs.declared.acts.Outcome.{Outcome}
use Rattle.run_journal.specs.declared.acts.Outcome.TheVariants.{Accepted, Refused}
use Rattle.run_journal.specs.declared.domain.Domain.{Domain}
use Rattle.run_journal.specs.declared.acts.Act.{Act}
use Rattle.domain_base.specs.declared.names.Node.{Node}
use Rattle.domain_rules.specs.Reading.{KeyMessage}
use Rattle.domain_rules.specs.StationKeys.{g1_verdict}
use Rattle.domain_rules.proofs.Parts.{chain_since}
use Rattle.domain_rules.proofs.Peers.{not_same}
use Rattle.domain_rules.proofs.Starts.{roam_no_renewal}
use Rattle.supplicant.specs.declared.key_data.CarriedKeys.{CarriedKeys}
use Rattle.supplicant.specs.KeyData.{IsOpened}
use Rattle.supplicant.specs.M3.{IsAbove, IsNotAbove}
use Rattle.supplicant.specs.G1.{UnderG1, under_g1, IsVerifiedG1, IsG1, before_g1_key_data}
use Rattle.supplicant.specs.declared.base.Base.{Base}
use Rattle.supplicant.specs.declared.session.Session.{Session}
use Rattle.supplicant.specs.declared.session.Session.TheVariants.{Connect, Ft}
use Rattle.supplicant.specs.Held.{ptk_of, kept_of}
use Rattle.supplicant.specs.Stands.{Holds}
use Rattle.key_hierarchy.specs.declared.inputs.Ptk.{Ptk}
use Rattle.run_journal.specs.Acts.{Derivation}
use Rattle.run_journal.specs.Questions.{session, since, chain}
use Rattle.domain_rules.specs.Asking.{start_of, kept_counter}
use Rattle.domain_rules.specs.Network.{root_at, station_of}
use Rattle.run_journal.specs.Events.{protects}
use Rattle.domain_rules.specs.Replies.{key_by}
use Rattle.supplicant.proofs.KeyDataRead.{high_counter, low_counter, same_octets}

-- where nothing was told yet
before : (u : UnderG1) (f : KeyFields) (octets : List ℕ) (why : Reason) (v : Option (List ℕ)) → v ≡ None → ((o : Outcome) → before_g1_key_data u f octets o ≡ Refused why) → IsG1 u f octets (Err why) v
before u f octets why v none is = subst (λ (x : Option (List ℕ)). IsG1 u f octets (Err why) x) (sym none) is

pub g1_counter_low : (u : UnderG1) (f : KeyFields) (octets : List ℕ) (was : ℕ) (v : Option (List ℕ)) → v ≡ None → IsNotAbove u.kept f.counter was → IsG1 u f octets (Err (reason.Counter was)) v
g1_counter_low u f octets was v none low = before u f octets (reason.Counter was) v none (λ o. low_counter u.kept f.counter was low _)

pub g1_mic_other : (u : UnderG1) (f : KeyFields) (octets : List ℕ) (v : Option (List ℕ)) → v ≡ None → IsAbove u.kept f.counter → (f.mic ≡ mic u.akm u.ptk.kck octets → ⊥) → IsG1 u f octets (Err reason.Mic) v
g1_mic_other u f octets v none high other =
    let unlike = not_same f.mic (mic u.akm u.ptk.kck octets) other in
    before u f octets reason.Mic v none (λ o. high_counter u.kept f.counter high _ ∙ rw unlike refl)

pub g1_is_verified : (u : UnderG1) (f : KeyFields) (octets : List ℕ) (r : Result CarriedKeys Reason) → IsAbove u.kept f.counter → f.mic ≡ mic u.akm u.ptk.kck octets → IsOpened u.protected None u.ptk.kek f.key_data r
    → IsG1 u f octets r (Some u.ptk.kck)
g1_is_verified u f octets r high verifies opened =
    let right = same_octets f.mic (mic u.akm u.ptk.kck octets) verifies in
    (refl, record { comes = λ o. (high_counter u.kept f.counter high _ ∙ rw right refl); opened = opened })

-- a group key is that of a frame that verified
pub g1_agreed : (u : UnderG1) (f : KeyFields) (octets : List ℕ) (c : CarriedKeys) (v : Option (List ℕ)) → IsG1 u f octets (Ok c) v → (v ≡ Some u.ptk.kck) × IsVerifiedG1 u f octets (Ok c)
g1_agreed u f octets c None is = absurd is
g1_agreed u f octets c (Some kck) is = (ap (λ (x : List ℕ). Some x) is.0, is.1)

-- a session with p of that key, and the counter that is kept in it
pub record IsSessionOf (p : Node) (q : Ptk) (kept : Option ℕ) (h : List Act) : Type 0 where
  pub x : Derivation
  pub is : session p h ≡ Some x
  pub key : x.ptk ≡ q
  pub keeps : kept_counter p (chain p h) ≡ kept

pub session_of : (d : Domain) (n p : Node) (b : Base) (x : Session) (h : List Act) → Holds d n p b x h → IsSessionOf p (ptk_of x) (kept_of x) h
session_of d n p b (Connect y counter) h l = record {
  x = key_by d (root_at d (station_of n p) b.r0kh_id) n p y;
  is = l.is;
  key = refl;
  keeps = l.keeps;
}
session_of d n p b (Ft q counter) h l = record {
  x = l.x;
  is = l.is;
  key = l.key;
  keeps = ap (kept_counter p) (chain_since p h (roam_no_renewal (start_of (since p h)) l.last)) ∙ l.keeps;
}

-- it is judged under the session's key, with the counter that is kept
pub g1_under : (d : Domain) (p : Node) (h : List Act) (k : KeyMessage) (q : Ptk) (kept : Option ℕ) → IsSessionOf p q kept h → g1_verdict d h p k ≡ before_g1_key_data (under_g1 (protects d) d.akm q kept) k.fields k.octets Accepted
g1_under d p h k q kept l = rw (l.is, l.keeps, ← l.key) refl

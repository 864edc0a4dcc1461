-- What M3 is judged by at a supplicant, and what comes of M3.
use Rattle.std.proofs.Common.{◌≡◌, ℕ, ◌+◌, ◌<◌, Bool, true, false, cond, List, Option, Some, None, refl, sym, ap, subst, ◌∙◌}
use Rattle.std.specs.Prelude.{nat_lt, Result}
use Rattle.std.proofs.lemmas.Bool.{ltb-true}
use Rattle.domain_base.specs.declared.names.Node.{Node}
use Rattle.domain_base.specs.declared.names.Node.TheVariants.{Sta}
use Rattle.eapol_key.specs.KeyFrame.{KeyFields}
use Rattle.eapol_key.specs.declared.messages.Message.{Message}
use Rattle.eapol_key.specs.declared.messages.Message.TheVariants.{M3}
use Rattle.run_journal.specs.declared.domain.Domain.{Domain}
use Rattle.run_journal.specs.Events.{protects}
use Rattle.run_journal.specs.declared.acts.Reason.{Reason}
use Rattle.run_journal.specs.declared.acts.Reason.TheVariants as reason
use Rattle.run_journal.specs.declared.acts.Outcome.{Outcome}
use Rattle.run_journal.specs.declared.acts.Outcome.TheVariants.{Accepted, Refused}
use Rattle.run_journal.specs.declared.acts.Act.{Act}
use Rattle.run_journal.specs.declared.reply.Keyed.{Keyed}
use Rattle.run_journal.specs.Questions.{attempt, since, chain, session, draws}
use Rattle.domain_rules.specs.Reading.{KeyMessage, Keyed as KeyedReading}
use Rattle.domain_rules.specs.Replies.{IsMessageFrom, key_by}
use Rattle.domain_rules.specs.Asking.{start_of, has_four_way, session_start, kept_counter}
use Rattle.domain_rules.specs.StationKeys.{session_keying, m3_keying, m3_verdict, taken_in}
use Rattle.domain_rules.specs.Verdict.{first_verdict, key_verdict}
use Rattle.domain_rules.specs.Network.{root_at, station_of}
use Rattle.key_hierarchy.specs.declared.inputs.Ptk.{Ptk}
use Rattle.supplicant.specs.declared.base.Base.{Base}
use Rattle.supplicant.specs.declared.session.Session.TheVariants.{Connect, Ft}
use Rattle.domain_rules.proofs.Parts.{since_part, chain_part}
use Rattle.domain_rules.proofs.Starts.{connect_is, renewal_is, connect_no_renewal, roam_no_four_way}
use Rattle.supplicant.specs.declared.attempt.Attempt.{Attempt}
use Rattle.supplicant.specs.declared.session.Session.{Session}
use Rattle.supplicant.specs.declared.key_data.CarriedKeys.{CarriedKeys}
use Rattle.supplicant.specs.Held.{kept_of, counter_in}
use Rattle.supplicant.specs.Exchange.{is_under, trying, tried_by}
use Rattle.supplicant.specs.Stands.{IsTrying, HasAttempt, Holds, HasSession, IsUnderWay, IsRenewing, IsHeld, IsTransferred, IsBased}
use Rattle.supplicant.specs.M3.{under, before_key_data, IsVerified, IsRefusedBefore}
use Rattle.supplicant.proofs.G1Read.{session_of}
use Rattle.supplicant.proofs.Replying.{no_transfer}

-- ---- the key that there is

-- M3 is judged under that key, with the base of its association, as one that is answered again or not, and the counter
-- of its chain is the kept one
pub record IsKeying (d : Domain) (n p : Node) (b : Base) (h : List Act) (k : KeyMessage) (y : Keyed) (kept : Option ℕ) (again : Bool) : Type 0 where
  pub is : m3_keying p h k ≡ Some (record { key = key_by d (root_at d (station_of n p) b.r0kh_id) n p y; is_session = again })
  pub based : IsBased d n p b (since p h)
  pub keeps : kept_counter p (chain p h) ≡ kept

-- it is that one, if any
abbrev pub IsKeyingAt : Domain → Node → Node → Base → List Act → KeyMessage → Option Keyed → Option ℕ → Bool → Type 0
IsKeyingAt d n p b h k None kept again = m3_keying p h k ≡ None
IsKeyingAt d n p b h k (Some y) kept again = IsKeying d n p b h k y kept again

-- ---- in an attempt by connect its own

in_attempt : (d : Domain) (n p : Node) (b : Base) (v : List ℕ) (key : Option Keyed) (h : List Act) (k : KeyMessage) → IsUnderWay d n p b v key h → IsKeyingAt d n p b h k key None false
in_attempt d n p b v None h k u = rw (u.is, connect_is (start_of u.part) u.begun, u.asked) refl
in_attempt d n p b v (Some y) h k u = record {
  is = rw (u.is, connect_is (start_of u.part) u.begun, u.asked, u.keyed) refl;
  based = subst (IsBased d n p b) (sym (since_part p h u.part u.is)) u.based;
  keeps = ap (kept_counter p) (chain_part p h u.part u.is (connect_no_renewal (start_of u.part) u.begun)) ∙ u.keeps;
}

-- ---- in one that renews the key of a session its own, where M3 has the nonce that it was derived from

pub based_held : (d : Domain) (n p : Node) (b : Base) (z : Session) (v : List ℕ) (key : Option Keyed) (h : List Act) → IsRenewing d n p b v key h → Holds d n p b z h → IsBased d n p b (since p h)
based_held d n p b (Connect y counter) v key h u l = l.based
based_held d n p b (Ft q counter) v key h u l = absurd (no_transfer d n p b v key h u l.last)

in_renewal : (d : Domain) (sta : ℕ) (p : Node) (b : Base) (v : List ℕ) (key : Option Keyed) (z : Session) (h : List Act) (k : KeyMessage) → is_under k.fields.nonce key ≡ true → IsRenewing d (Sta sta) p b v key h → Holds d (Sta sta) p b z h
    → IsKeyingAt d (Sta sta) p b h k key (kept_of z) false
in_renewal d sta p b v None z h k mine u l = absurd (cc mine)
in_renewal d sta p b v (Some y) z h k mine u l = record {
  is = rw (u.is, renewal_is (start_of u.part) u.begun, u.keyed, mine) refl;
  based = based_held d (Sta sta) p b z v (Some y) h u l;
  keeps = (session_of d (Sta sta) p b z h l).keeps;
}

-- ---- which of the two it is

sel_true : (c : Bool) (x a : Attempt) → cond c (Some x) None ≡ Some a → (c ≡ true) × (x ≡ a)
sel_true true x a is = (refl, cc is)
sel_true false x a is = absurd (cc is)

sel_false : (c : Bool) (x : Attempt) → cond c (Some x) None ≡ None → c ≡ false
sel_false true x none = absurd (cc none)
sel_false false x none = refl

same_attempt : (x a : Attempt) → ◌≡◌ {A = Option Attempt} (Some x) (Some a) → x ≡ a
same_attempt x a is = cc is

trying_keying : (d : Domain) (sta : ℕ) (p : Node) (b : Base) (x : Option Session) (o a : Attempt) (h : List Act) (k : KeyMessage) → trying k.fields.nonce o x ≡ Some a → IsTrying d (Sta sta) p b x o h → HasSession d (Sta sta) p b x h
    → IsKeyingAt d (Sta sta) p b h k a.key (counter_in x) false
trying_keying d sta p b None o a h k is u none =
    subst (λ (w : Attempt). IsKeyingAt d (Sta sta) p b h k w.key None false) (same_attempt o a is) (in_attempt d (Sta sta) p b o.snonce o.key h k u)
trying_keying d sta p b (Some z) o a h k is u l =
    let chosen = sel_true (is_under k.fields.nonce o.key) o a is in
    subst (λ (w : Attempt). IsKeyingAt d (Sta sta) p b h k w.key (kept_of z) false) chosen.1 (in_renewal d sta p b o.snonce o.key z h k chosen.0 u l)

-- that of the attempt under which M3 is judged
pub attempt_keying : (d : Domain) (sta : ℕ) (p : Node) (b : Base) (x : Option Session) (o : Option Attempt) (a : Attempt) (h : List Act) (k : KeyMessage) → tried_by k.fields.nonce o x ≡ Some a → HasAttempt d (Sta sta) p b x o h → HasSession d (Sta sta) p b x h
    → IsKeyingAt d (Sta sta) p b h k a.key (counter_in x) false
attempt_keying d sta p b x None a h k is tried held = absurd (cc is)
attempt_keying d sta p b x (Some o) a h k is tried held = trying_keying d sta p b x o a h k is tried held

beside_renewal : (d : Domain) (sta : ℕ) (p : Node) (b : Base) (v : List ℕ) (key : Option Keyed) (h : List Act) (k : KeyMessage) → is_under k.fields.nonce key ≡ false → IsRenewing d (Sta sta) p b v key h → m3_keying p h k ≡ session_keying p h
beside_renewal d sta p b v None h k other u = absurd (cc u.has)
beside_renewal d sta p b v (Some y) h k other u = rw (u.is, renewal_is (start_of u.part) u.begun, u.keyed, other) refl

beside_trying : (d : Domain) (sta : ℕ) (p : Node) (b : Base) (x : Option Session) (o : Attempt) (h : List Act) (k : KeyMessage) → trying k.fields.nonce o x ≡ None → IsTrying d (Sta sta) p b x o h → m3_keying p h k ≡ session_keying p h
beside_trying d sta p b None o h k none u = absurd (cc none)
beside_trying d sta p b (Some z) o h k none u = beside_renewal d sta p b o.snonce o.key h k (sel_false (is_under k.fields.nonce o.key) o none) u

-- else it is that of the session
pub session_judges : (d : Domain) (sta : ℕ) (p : Node) (b : Base) (x : Option Session) (o : Option Attempt) (h : List Act) (k : KeyMessage) → tried_by k.fields.nonce o x ≡ None → HasAttempt d (Sta sta) p b x o h → m3_keying p h k ≡ session_keying p h
session_judges d sta p b x None h k none tried = rw tried refl
session_judges d sta p b x (Some o) h k none tried = beside_trying d sta p b x o h k none tried

in_session : (d : Domain) (n p : Node) (b : Base) (y : Keyed) (counter : ℕ) (h : List Act) (k : KeyMessage) → m3_keying p h k ≡ session_keying p h → IsHeld d n p b y counter h → IsKeying d n p b h k y (Some counter) true
in_session d n p b y counter h k judged l = record {
  is = judged ∙ rw (l.begun, l.is) refl;
  based = l.based;
  keeps = l.keeps;
}

pub session_keying_is : (d : Domain) (sta : ℕ) (p : Node) (b : Base) (o : Option Attempt) (s : Option Session) (y : Keyed) (counter : ℕ) (h : List Act) (k : KeyMessage) → tried_by k.fields.nonce o s ≡ None → s ≡ Some (Connect y counter) → HasAttempt d (Sta sta) p b s o h
    → HasSession d (Sta sta) p b s h → IsKeying d (Sta sta) p b h k y (Some counter) true
session_keying_is d sta p b o s y counter h k none is tried held =
    in_session d (Sta sta) p b y counter h k (session_judges d sta p b s o h k none tried) (subst (λ (z : Option Session). HasSession d (Sta sta) p b z h) is held)

-- ---- or there is none

cond_none : {A : Type 0} (b : Bool) (o : Option A) → o ≡ None → cond b o None ≡ None
cond_none true o is = is
cond_none false o is = refl

pub no_session_key : (p : Node) (h : List Act) → session p h ≡ None → session_keying p h ≡ None
no_session_key p h none = rw none (cond_none (has_four_way (session_start p h)) _ refl)

pub nowhere_keying : (p : Node) (h : List Act) → attempt p h ≡ None → session p h ≡ None → (k : KeyMessage) → m3_keying p h k ≡ None
nowhere_keying p h none silent k = rw none (no_session_key p h silent)

pub no_keying : (d : Domain) (sta : ℕ) (p : Node) (b : Base) (o : Option Attempt) (s : Option Session) (h : List Act) (k : KeyMessage) → tried_by k.fields.nonce o s ≡ None → s ≡ None → HasAttempt d (Sta sta) p b s o h → HasSession d (Sta sta) p b s h → m3_keying p h k ≡ None
no_keying d sta p b o s h k none silent tried held =
    session_judges d sta p b s o h k none tried ∙ no_session_key p h (subst (λ (z : Option Session). HasSession d (Sta sta) p b z h) silent held)

-- nor is there one in a session of a fast transition
pub transferred_keying : (d : Domain) (sta : ℕ) (p : Node) (b : Base) (o : Option Attempt) (s : Option Session) (q : Ptk) (counter : Option ℕ) (h : List Act) (k : KeyMessage) → tried_by k.fields.nonce o s ≡ None → s ≡ Some (Ft q counter) → HasAttempt d (Sta sta) p b s o h
    → HasSession d (Sta sta) p b s h → m3_keying p h k ≡ None
transferred_keying d sta p b o s q counter h k none is tried held =
    let l : IsTransferred p q counter h = subst (λ (z : Option Session). HasSession d (Sta sta) p b z h) is held in
    session_judges d sta p b s o h k none tried ∙ rw (roam_no_four_way (session_start p h) l.begun) refl

-- ---- what comes of M3

pub m3_is : (d : Domain) (first sta : ℕ) (p : Node) (octets : List ℕ) (k : KeyMessage) (h : List Act) → IsMessageFrom d (Sta sta) p octets k → k.message ≡ M3 → first_verdict d first (Sta sta) h (KeyedReading k) ≡ m3_verdict d h p k
m3_is d first sta p octets k h from is = from.verdict_is first h ∙ ap (λ (m : Message). key_verdict d (first + draws h) (Sta sta) h p k m) is

pub m3_none : (d : Domain) (p : Node) (h : List Act) (k : KeyMessage) → m3_keying p h k ≡ None → m3_verdict d h p k ≡ Refused reason.Unawaited
m3_none d p h k none = rw none refl

pub m3_under : (d : Domain) (sta : ℕ) (p : Node) (b : Base) (h : List Act) (k : KeyMessage) (y : Keyed) (kept : Option ℕ) (again : Bool) → IsKeying d (Sta sta) p b h k y kept again → m3_verdict d h p k ≡ before_key_data (under (protects d) b y kept) k.fields k.octets (taken_in again)
m3_under d sta p b h k y kept again x = rw (x.is, x.keeps, x.based.of.akm) refl

-- as the frame was judged, so is its message
pub refused_as : (protected other : Bool) (b : Base) (y : Keyed) (kept : Option ℕ) (f : KeyFields) (octets : List ℕ) (k : KeyMessage) (r : Result CarriedKeys Reason) → protected ≡ other → k.fields ≡ f → k.octets ≡ octets → IsRefusedBefore (under protected b y kept) f octets r
    → IsRefusedBefore (under other b y kept) k.fields k.octets r
refused_as protected other b y kept f octets k r same fields are is =
    subst (λ (on : Bool). IsRefusedBefore (under on b y kept) k.fields k.octets r) same
    (subst (λ (g : KeyFields). IsRefusedBefore (under protected b y kept) g k.octets r) (sym fields) (subst (λ (o : List ℕ). IsRefusedBefore (under protected b y kept) f o r) (sym are) is))

pub verified_as : (protected other : Bool) (b : Base) (y : Keyed) (kept : Option ℕ) (f : KeyFields) (octets : List ℕ) (k : KeyMessage) (r : Result CarriedKeys Reason) → protected ≡ other → k.fields ≡ f → k.octets ≡ octets → IsVerified (under protected b y kept) f octets r
    → IsVerified (under other b y kept) k.fields k.octets r
verified_as protected other b y kept f octets k r same fields are is =
    subst (λ (on : Bool). IsVerified (under on b y kept) k.fields k.octets r) same
    (subst (λ (g : KeyFields). IsVerified (under protected b y kept) g k.octets r) (sym fields) (subst (λ (o : List ℕ). IsVerified (under protected b y kept) f o r) (sym are) is))

pub high_by : (kept counter : ℕ) (o : Outcome) (b : Bool) → nat_lt kept counter ≡ b → (cond b o (Refused (reason.Counter kept)) ≡ Accepted) → kept < counter
high_by kept counter o true is e = ltb-true kept counter is
high_by kept counter o false is e = cc

-- an M3 that comes so far has a counter above the kept one
pub counter_high : (protected : Bool) (b : Base) (y : Keyed) (kept : ℕ) (f : KeyFields) (octets : List ℕ) → ((o : Outcome) → before_key_data (under protected b y (Some kept)) f octets o ≡ o) → kept < f.counter
counter_high protected b y kept f octets comes = high_by kept f.counter _ (nat_lt kept f.counter) refl (comes Accepted)

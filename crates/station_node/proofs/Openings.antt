-- Which messages begin to renew the key of the session of a station.
use Rattle.std.proofs.Common.{◌≡◌, ℕ, Bool, true, false, cond, List, Option, Some, None, refl, sym, ap, ◌∙◌}
use Rattle.std.specs.Prelude.{not, ◌&&◌, ◌==◌, is_some}
use Rattle.std.proofs.Math.Bool.{and-false}
use Rattle.std.proofs.lemmas.Bool.{eq-eqb, eqb-true}
use Rattle.domain_base.specs.declared.names.Node.{Node}
use Rattle.domain_base.specs.declared.names.Node.TheVariants.{Ap, Sta}
use Rattle.eapol_key.specs.declared.messages.Message.{Message}
use Rattle.eapol_key.specs.declared.messages.Message.TheVariants.{M1, M2, M3, M4, G1, G2}
use Rattle.run_journal.specs.declared.domain.Domain.{Domain}
use Rattle.run_journal.specs.declared.acts.Act.{Act}
use Rattle.run_journal.specs.Acts.{Derivation}
use Rattle.run_journal.specs.Questions.{session, pending}
use Rattle.domain_rules.specs.Network.{renews}
use Rattle.domain_rules.specs.Asking.{has_four_way, session_start}
use Rattle.domain_rules.specs.StationKeys.{opens_renewal}
use Rattle.domain_rules.proofs.Starts.{roam_no_four_way}
use Rattle.ccmp_guard.specs.Held.{Held}
use Rattle.supplicant.specs.declared.base.Base.{Base}
use Rattle.supplicant.specs.declared.attempt.Attempt.{Attempt as SupplicantAttempt}
use Rattle.supplicant.specs.declared.session.Session.{Session as SupplicantSession}
use Rattle.supplicant.specs.declared.session.Session.TheVariants.{Connect, Ft}
use Rattle.supplicant.specs.Held.{is_connected}
use Rattle.supplicant.specs.State.{State as Supplicant}
use Rattle.supplicant.specs.Stands.{HasSession as HasSupplicantSession}
use Rattle.supplicant.specs.Taken.{OpensNone, may_renew}
use Rattle.station_node.specs.declared.attempt.Attempt.{Attempt}
use Rattle.station_node.specs.declared.session.Session.{Session}
use Rattle.station_node.specs.State.{State}
use Rattle.station_node.specs.Parts.{peer_pending, is_ready, is_m1, opens_by}
use Rattle.station_node.specs.Stands.{Stands}
use Rattle.station_node.proofs.Standing.{held_is}

-- ---- where an attempt is pending none begins

pub pending_opens : (d : Domain) (h : List Act) (p q : Node) → pending h ≡ Some q → opens_renewal d h p ≡ false
pending_opens d h p q is =
    ap (λ (o : Option Node). renews d && (not (is_some o) && (is_some (session p h) && has_four_way (session_start p h)))) is ∙ and-false (renews d)

opens_of : (m : Message) (d : Domain) (h : List Act) (p : Node) → (m ≡ M1 → opens_renewal d h p ≡ false) → OpensNone m d h p
opens_of M1 d h p other = other refl
opens_of M2 d h p other = tt
opens_of M3 d h p other = tt
opens_of M4 d h p other = tt
opens_of G1 d h p other = tt
opens_of G2 d h p other = tt

pub opens_pending : (m : Message) (d : Domain) (h : List Act) (p q : Node) → pending h ≡ Some q → OpensNone m d h p
opens_pending m d h p q is = opens_of m d h p (λ first. pending_opens d h p q is)

-- ---- nor in a session whose key may not be renewed

no_session_opens : (d : Domain) (h : List Act) (p : Node) → has_four_way (session_start p h) ≡ false → opens_renewal d h p ≡ false
no_session_opens d h p none =
    ap (λ (c : Bool). renews d && (not (is_some (pending h)) && (is_some (session p h) && c))) none
    ∙ ap (λ (c : Bool). renews d && (not (is_some (pending h)) && c)) (and-false (is_some (session p h)))
    ∙ ap (λ (c : Bool). renews d && c) (and-false (not (is_some (pending h)))) ∙ and-false (renews d)

-- by the supplicant of the session
opens_by_part : (d : Domain) (n : Node) (p : ℕ) (b : Base) (a : Option SupplicantAttempt) (x : Option SupplicantSession) (y : Derivation) (h : List Act) → HasSupplicantSession d n (Ap p) b x h → session (Ap p) h ≡ Some y
    → pending h ≡ cond (is_some a && is_some x) (Some (Ap p)) None → (renews d && (not (is_some a) && is_connected x)) ≡ false → opens_renewal d h (Ap p) ≡ false
opens_by_part d n p b a None y h none there pends other = absurd (cc (none, there))
opens_by_part d n p b (Some a) (Some x) y h held there pends other = pending_opens d h (Ap p) (Ap p) pends
opens_by_part d n p b None (Some (Connect key counter)) y h held there pends other = never (renews d) other _
  where
    never : (c : Bool) → (c && true) ≡ false → (e : Bool) → (c && e) ≡ false
    never true is e = absurd (cc is)
    never false is e = refl
opens_by_part d n p b None (Some (Ft ptk counter)) y h held there pends other = no_session_opens d h (Ap p) (roam_no_four_way (session_start (Ap p) h) held.begun)

session_opens : (d : Domain) (first : ℕ) (s : State) (h : List Act) (p : ℕ) (x : Supplicant) (k : Held) → Stands d first s h → s.session ≡ Some (record { ap = p; supplicant = x; key = k }) → opens_by d s.attempt s.session p M1 ≡ false → opens_renewal d h (Ap p) ≡ false
session_opens d first s h p x k st is other = by s.attempt refl
  where
    by : (o : Option Attempt) → s.attempt ≡ o → opens_renewal d h (Ap p) ≡ false
    by (Some a) there = pending_opens d h (Ap p) (Ap a.ap) (st.pending_is ∙ ap (λ (o : Option Attempt). peer_pending o s.session) there)
    by None there =
        let place = held_is d first s h p x k st is in
        opens_by_part d (Sta s.number) p x.base x.attempt x.session place.keyed.key h place.stands.session_is place.keyed.is
        (st.pending_is ∙ ap (λ (o : Option Attempt). peer_pending o s.session) there ∙ ap (peer_pending None) is)
        (ap (λ (c : Bool). renews d && (c && may_renew x)) (sym (eq-eqb p p refl)) ∙ ap (λ (w : Option Session). renews d && is_ready w p) (sym is)
        ∙ ap (λ (o : Option Attempt). opens_by d o s.session p M1) (sym there) ∙ other)

pub opens_beside : (d : Domain) (first : ℕ) (s : State) (h : List Act) (p : ℕ) (x : Supplicant) (k : Held) (m : Message) → Stands d first s h → s.session ≡ Some (record { ap = p; supplicant = x; key = k }) → opens_by d s.attempt s.session p m ≡ false → OpensNone m d h (Ap p)
opens_beside d first s h p x k m st is other = opens_of m d h (Ap p) (λ same. session_opens d first s h p x k st is (ap (opens_by d s.attempt s.session p) (sym same) ∙ other))

-- ---- an M1 that begins to renew the key of the session

-- what is so then
pub record Opens (d : Domain) (s : State) (p : ℕ) (m : Message) : Type 0 where
  pub is_first : m ≡ M1
  pub renewed : renews d ≡ true
  pub none : s.attempt ≡ None
  pub z : Session
  pub is : s.session ≡ Some z
  pub here : z.ap ≡ p
  pub ready : may_renew z.supplicant ≡ true

both_true : (a b : Bool) → (a && b) ≡ true → (a ≡ true) × (b ≡ true)
both_true true b is = (refl, is)
both_true false b is = absurd (cc is)

first_only : (m : Message) → is_m1 m ≡ true → m ≡ M1
first_only M1 is = refl
first_only _ is = absurd (cc is)

no_attempt_by : (o : Option Attempt) → not (is_some o) ≡ true → o ≡ None
no_attempt_by None is = refl
no_attempt_by (Some a) is = absurd (cc is)

ready_by : (o : Option Session) (p : ℕ) → is_ready o p ≡ true → (z : Session) × ((o ≡ Some z) × ((z.ap ≡ p) × (may_renew z.supplicant ≡ true)))
ready_by None p is = absurd (cc is)
ready_by (Some z) p is = let two = both_true (z.ap == p) (may_renew z.supplicant) is in (z, (refl, (eqb-true z.ap p two.0, two.1)))

pub opens_is : (d : Domain) (s : State) (p : ℕ) (m : Message) → opens_by d s.attempt s.session p m ≡ true → Opens d s p m
opens_is d s p m is =
    let one = both_true (is_m1 m) (renews d && (not (is_some s.attempt) && is_ready s.session p)) is in
    let two = both_true (renews d) (not (is_some s.attempt) && is_ready s.session p) one.1 in
    let three = both_true (not (is_some s.attempt)) (is_ready s.session p) two.1 in
    let x = ready_by s.session p three.1 in
    record { is_first = first_only m one.0; renewed = two.0; none = no_attempt_by s.attempt three.0; z = x.0; is = x.1.0; here = x.1.1.0; ready = x.1.1.1 }

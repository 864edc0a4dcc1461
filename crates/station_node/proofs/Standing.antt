-- What a station stands for behind an act that changes nothing of what is asked, and what it has not.
use Rattle.std.proofs.Common.{◌≡◌, ◌≢◌, ℕ, ◌<◌, Bool, true, false, cond, List, [], ◌∷◌, length, Option, Some, None, refl, sym, ap, subst, ◌∙◌, arith}
use Rattle.std.specs.Prelude.{is_some, ◌&&◌}
use Rattle.domain_base.specs.declared.names.Akm.{Akm}
use Rattle.domain_base.specs.declared.names.Akm.TheVariants.{FtPsk}
use Rattle.domain_base.specs.declared.names.Node.{Node}
use Rattle.domain_base.specs.declared.names.Node.TheVariants.{Ap, Sta}
use Rattle.eapol_key.specs.declared.messages.Message.TheVariants.{M1, M3, G1}
use Rattle.run_journal.specs.declared.domain.Domain.{Domain}
use Rattle.run_journal.specs.declared.acts.Part.TheVariants as part
use Rattle.run_journal.specs.declared.acts.Kind.TheVariants as kind
use Rattle.run_journal.specs.declared.acts.Act.{Act}
use Rattle.run_journal.specs.declared.acts.Act.TheVariants.{Opened, Closed, Finished}
use Rattle.run_journal.specs.Events.{can_renew}
use Rattle.run_journal.specs.Questions.{or_else, attempt, pending}
use Rattle.domain_rules.specs.Network.{renews}
use Rattle.domain_rules.specs.Asking.{is_connect}
use Rattle.domain_rules.proofs.Parts.{IsCarried, GoesOn, goes_on, draws_more, pending_more, associated_more}
use Rattle.ccmp_guard.specs.Held.{Held}
use Rattle.data_frames.proofs.Standing.{others}
use Rattle.act_memory.proofs.RepliedActs.{remembers_more}
use Rattle.supplicant.specs.declared.base.Base.{Base}
use Rattle.supplicant.specs.declared.attempt.Attempt.{Attempt as SupplicantAttempt}
use Rattle.supplicant.specs.declared.session.Session.{Session as SupplicantSession}
use Rattle.supplicant.specs.State.{State as Supplicant, is_renewing}
use Rattle.supplicant.specs.Stands.{HasAttempt as HasSupplicantAttempt}
use Rattle.supplicant.proofs.Standing.{can_renew_in, stands_more}
use Rattle.run_journal.specs.Holders.{last_r0kh_id}
use Rattle.ft_exchange.specs.State.{OriginatorState}
use Rattle.station_node.specs.declared.attempt.Attempt.{Attempt}
use Rattle.station_node.specs.declared.attempt.Association.{Association}
use Rattle.station_node.specs.declared.attempt.Association.TheVariants.{Requested, Accepted, Moving}
use Rattle.station_node.specs.declared.session.Session.{Session}
use Rattle.station_node.specs.State.{State}
use Rattle.station_node.specs.Parts.{peer_of_attempt, peer_of_session, peer_of_renewal, peer_pending, IsElsewhere, IsBeside, IsAlone}
use Rattle.station_node.specs.Stands.{Stands, IsRequested, IsAssociated, IsMoving, IsHolder, HasAssociation, HasAttempt, HasSession, IsKeyed, IsIn}
use Rattle.station_node.proofs.Acts.{IsPlainAct}
use Rattle.station_node.proofs.Underway.{IsBesideMove, moving_more}

-- ---- an act that changes nothing of what is asked

plainly : (p : Node) (e : Act) (h : List Act) → IsPlainAct e → GoesOn p h (e ∷ h)
plainly p e h plain = goes_on p (e ∷ []) h (plain.apart p, tt)

requested_more : (p : Node) (v : List ℕ) (h : List Act) (e : Act) → IsPlainAct e → IsRequested p v h → IsRequested p v (e ∷ h)
requested_more p v h e plain u =
    let g : GoesOn p h (e ∷ h) = plainly p e h plain in
    let c : IsCarried p u.part (e ∷ h) = g.carries u.part u.is in
    record {
      part = c.more;
      is = c.is;
      begun = ap is_connect c.begun ∙ u.begun;
      nonce = c.nonce v u.nonce;
      hears = ap is_some (c.hears kind.AssocResp) ∙ u.hears;
      keeps = rw (c.replies (kind.Key M3), c.replies (kind.Key G1)) u.keeps;
      asked = ap is_some (c.hears (kind.Key M1)) ∙ u.asked;
      keyed = c.derives ∙ u.keyed;
    }

beside_plain : (p : Node) (e : Act) → IsPlainAct e → IsBesideMove p e
beside_plain p e plain = record { apart = plain.apart p; associated = plain.associated; holder = plain.holder }

association_more : (d : Domain) (n : Node) (a : ℕ) (x : Association) (h : List Act) (e : Act) → IsPlainAct e → HasAssociation d n a x h → HasAssociation d n a x (e ∷ h)
association_more d n a (Requested v) h e plain st = requested_more (Ap a) v h e plain st
association_more d n a (Accepted s) h e plain st = record { stands = stands_more d n (Ap a) s h e (plain.apart (Ap a)) st.stands; names = st.names }
association_more d n a (Moving o) h e plain st = moving_more d n a o e h (beside_plain (Ap a) e plain) st

attempt_stays : (d : Domain) (n : Node) (o : Option Attempt) (h : List Act) (e : Act) → IsPlainAct e → HasAttempt d n o h → HasAttempt d n o (e ∷ h)
attempt_stays d n None h e plain st = tt
attempt_stays d n (Some a) h e plain st = (st.0, association_more d n a.ap a.association h e plain st.1)

keyed_more : (p : Node) (k : Held) (h : List Act) (e : Act) → IsPlainAct e → IsKeyed p k h → IsKeyed p k (e ∷ h)
keyed_more p k h e plain st = record {
  key = st.key;
  is = (plainly p e h plain).has ∙ st.is;
  holds = others p st.key.ptk.tk k (e ∷ []) h st.holds (plain.leaves p st.key.ptk.tk, tt);
}

session_stays : (d : Domain) (n : Node) (o : Option Session) (h : List Act) (e : Act) → IsPlainAct e → HasSession d n o h → HasSession d n o (e ∷ h)
session_stays d n None h e plain st = tt
session_stays d n (Some x) h e plain st = record {
  listed = st.listed;
  stands = stands_more d n (Ap x.ap) x.supplicant h e (plain.apart (Ap x.ap)) st.stands;
  keyed = keyed_more (Ap x.ap) x.key h e plain st.keyed;
}

-- the R0KH-ID of the session, where no final message was accepted
pub holder_on : (o : Option Session) (id : List ℕ) (h l : List Act) → last_r0kh_id l ≡ last_r0kh_id h → IsHolder o id h → IsHolder o id l
holder_on None id h l same has = tt
holder_on (Some x) id h l same has = (same ∙ has.0, has.1)

pub stands-plain : (d : Domain) (first : ℕ) (s : State) (h : List Act) (e : Act) → IsPlainAct e → Stands d first s h → Stands d first s (e ∷ h)
stands-plain d first s h e plain st = record {
  draws_are = omega (arith, st.draws_are, draws_more e h plain.no_draw);
  pending_is = pending_more e h plain.pending ∙ st.pending_is;
  associated_is = associated_more e h plain.associated ∙ st.associated_is;
  alone = st.alone;
  attempt_is = attempt_stays d (Sta s.number) s.attempt h e plain st.attempt_is;
  session_is = session_stays d (Sta s.number) s.session h e plain st.session_is;
  no_attempt = λ p other. (plainly (Ap p) e h plain).none (st.no_attempt p other);
  no_session = λ p other. (plainly (Ap p) e h plain).has ∙ st.no_session p other;
  remembers = λ p. remembers_more (Ap p) _ e h (plain.keeps (Ap p)) (st.remembers p);
  ids = st.ids;
  holder = λ suite. holder_on s.session s.r0kh_id h (e ∷ h) (plain.holder h) (st.holder suite);
}

-- ---- where nobody is pending there is no attempt

some_none : (q : Node) → ◌≡◌ {A = Option Node} (Some q) None → ⊥
some_none q none = cc

none_more : (p : ℕ) (e : Act) (h : List Act) → (pending h ≡ None → attempt (Ap p) h ≡ None) → pending (e ∷ h) ≡ None → attempt (Ap p) (e ∷ h) ≡ None
none_more p (Opened q s) h more none = absurd (some_none q none)
none_more p (Closed q part.Attempt) h more none = refl
none_more p (Finished q i) h more none = refl
none_more p _ h more none = rw (more none) refl

pub nobody_pending : (p : ℕ) (h : List Act) → pending h ≡ None → attempt (Ap p) h ≡ None
nobody_pending p [] none = refl
nobody_pending p (e ∷ h) none = none_more p e h (λ there. nobody_pending p h there) none

-- ---- what there is, and what there is not

pub nobody : (o : Option Node) (p : ℕ) → o ≡ None → IsElsewhere o p
nobody o p none is = cc

pub not_here : (a p : ℕ) → (a ≡ p → ⊥) → IsElsewhere (Some (Ap a)) p
not_here a p other is = other (same_number a p is)
  where
    same_number : (a p : ℕ) → ◌≡◌ {A = Option Node} (Some (Ap a)) (Some (Ap p)) → a ≡ p
    same_number a p is = cc

pub no_attempt : (d : Domain) (first : ℕ) (s : State) (h : List Act) (p : ℕ) → Stands d first s h → peer_pending s.attempt s.session ≡ None → attempt (Ap p) h ≡ None
no_attempt d first s h p st none = st.no_attempt p (nobody (peer_pending s.attempt s.session) p none)

cond_elsewhere : (c : Bool) (o : Option Node) (p : ℕ) → IsElsewhere o p → IsElsewhere (cond c o None) p
cond_elsewhere true o p other = other
cond_elsewhere false o p other = nobody None p refl

-- with an access point with which there is neither an attempt nor a session none renews the key of a session
pub elsewhere_pending : (a : Option Attempt) (x : Option Session) (p : ℕ) → IsElsewhere (peer_of_attempt a) p → IsElsewhere (peer_of_session x) p → IsElsewhere (peer_pending a x) p
elsewhere_pending (Some a) x p tried held = tried
elsewhere_pending None None p tried held = tried
elsewhere_pending None (Some z) p tried held = cond_elsewhere (is_renewing z.supplicant) (Some (Ap z.ap)) p held

-- ---- with suite 4 no attempt renews the key of a session

pub plain_cannot : (d : Domain) → d.akm ≡ FtPsk → renews d ≡ true → ⊥
plain_cannot d suite renewed = let never : can_renew FtPsk ≡ true = subst (λ (k : Akm). can_renew k ≡ true) suite (can_renew_in d renewed) in cc never

plain_renewal : (d : Domain) (n p : Node) (b : Base) (a : Option SupplicantAttempt) (x : Option SupplicantSession) (h : List Act) → d.akm ≡ FtPsk → HasSupplicantAttempt d n p b x a h → (is_some a && is_some x) ≡ false
plain_renewal d n p b None x h suite st = refl
plain_renewal d n p b (Some a) None h suite st = refl
plain_renewal d n p b (Some a) (Some x) h suite st = absurd (plain_cannot d suite st.renewed)

renewal_by : (d : Domain) (n : Node) (o : Option Session) (h : List Act) → d.akm ≡ FtPsk → HasSession d n o h → peer_of_renewal o ≡ None
renewal_by d n None h suite st = refl
renewal_by d n (Some z) h suite st =
    ap (λ (c : Bool). cond c (Some (Ap z.ap)) None) (plain_renewal d n (Ap z.ap) z.supplicant.base z.supplicant.attempt z.supplicant.session h suite st.stands.attempt_is)

pub no_renewal : (d : Domain) (first : ℕ) (s : State) (h : List Act) → d.akm ≡ FtPsk → Stands d first s h → peer_of_renewal s.session ≡ None
no_renewal d first s h suite st = renewal_by d (Sta s.number) s.session h suite st.session_is

none_after : (o : Option Node) → or_else o None ≡ o
none_after None = refl
none_after (Some q) = refl

-- whom an attempt of its own is with
pub plain_pending : (d : Domain) (first : ℕ) (s : State) (h : List Act) → d.akm ≡ FtPsk → Stands d first s h → pending h ≡ peer_of_attempt s.attempt
plain_pending d first s h suite st = st.pending_is ∙ ap (or_else (peer_of_attempt s.attempt)) (no_renewal d first s h suite st) ∙ none_after (peer_of_attempt s.attempt)

-- nor does one where the supplicant has none
pub not_renewing : (x : Supplicant) (a : ℕ) (k : Held) → x.attempt ≡ None → peer_of_renewal (Some (record { ap = a; supplicant = x; key = k })) ≡ None
not_renewing x a k none = ap (λ (o : Option SupplicantAttempt). cond (is_some o && is_some x.session) (Some (Ap a)) None) none

-- beside an attempt by association there is no session
pub no_session_beside : (d : Domain) (first : ℕ) (s : State) (h : List Act) (p : ℕ) (v : List ℕ) → Stands d first s h → s.attempt ≡ Some (record { ap = p; association = Requested v }) → s.session ≡ None
no_session_beside d first s h p v st is = subst (λ (o : Option Attempt). IsAlone o s.session) is st.alone

pub no_session_accepted : (d : Domain) (first : ℕ) (s : State) (h : List Act) (p : ℕ) (x : Supplicant) → Stands d first s h → s.attempt ≡ Some (record { ap = p; association = Accepted x }) → s.session ≡ None
no_session_accepted d first s h p x st is = subst (λ (o : Option Attempt). IsAlone o s.session) is st.alone

-- beside a fast transition there is one with another access point
pub session_left : (d : Domain) (first : ℕ) (s : State) (h : List Act) (p : ℕ) (o : OriginatorState) → Stands d first s h → s.attempt ≡ Some (record { ap = p; association = Moving o }) → (z : Session) × (s.session ≡ Some z) × (z.ap ≢ p)
session_left d first s h p o st is = subst (λ (a : Option Attempt). IsAlone a s.session) is st.alone

-- what an attempt is beside a session: none, or a fast transition to another access point
pub beside_by : (a : Attempt) (x : Association) (o : Option Session) (z : Session) → a.association ≡ x → o ≡ Some z → IsBeside a.ap x o → (z.ap ≢ a.ap) × ((y : OriginatorState) × (x ≡ Moving y))
beside_by a (Requested v) o z is there none = absurd (cc (none, there))
beside_by a (Accepted s) o z is there none = absurd (cc (none, there))
beside_by a (Moving y) o z is there beside =
    let one : beside.0 ≡ z = cc (beside.1, there) in
    (subst (λ (w : Session). w.ap ≢ a.ap) one beside.2, (y, refl))

-- the attempt beside a session stays beside the same with other parts
pub beside_again : (a : Option Attempt) (o : Option Session) (z w : Session) → o ≡ Some z → w.ap ≡ z.ap → IsAlone a o → IsAlone a (Some w)
beside_again None o z w is same alone = tt
beside_again (Some a) o z w is same alone =
    let b = beside_by a a.association o z refl is alone in
    subst (λ (x : Association). IsBeside a.ap x (Some w)) (sym b.1.1) (w, refl, (λ e. b.0 (sym same ∙ e)))

-- with suite 4 none is with its access point
pub nothing_with : (d : Domain) (first : ℕ) (s : State) (h : List Act) (z : Session) → d.akm ≡ FtPsk → Stands d first s h → s.session ≡ Some z → attempt (Ap z.ap) h ≡ None
nothing_with d first s h z suite st is = st.no_attempt z.ap (by s.attempt st.alone)
  where
    by : (a : Option Attempt) → IsAlone a s.session → IsElsewhere (peer_pending a s.session) z.ap
    by None alone = nobody (peer_of_renewal s.session) z.ap (no_renewal d first s h suite st)
    by (Some a) alone = not_here a.ap z.ap (λ e. (beside_by a a.association s.session z refl is alone).0 (sym e))

pub requested_is : (d : Domain) (first : ℕ) (s : State) (h : List Act) (p : ℕ) (v : List ℕ) → Stands d first s h → s.attempt ≡ Some (record { ap = p; association = Requested v }) → (p < length d.aps) × IsRequested (Ap p) v h
requested_is d first s h p v st is = subst (λ (o : Option Attempt). HasAttempt d (Sta s.number) o h) is st.attempt_is

pub accepted_is : (d : Domain) (first : ℕ) (s : State) (h : List Act) (p : ℕ) (x : Supplicant) → Stands d first s h → s.attempt ≡ Some (record { ap = p; association = Accepted x }) → (p < length d.aps) × IsAssociated d (Sta s.number) p x h
accepted_is d first s h p x st is = subst (λ (o : Option Attempt). HasAttempt d (Sta s.number) o h) is st.attempt_is

pub moving_is : (d : Domain) (first : ℕ) (s : State) (h : List Act) (p : ℕ) (o : OriginatorState) → Stands d first s h → s.attempt ≡ Some (record { ap = p; association = Moving o }) → (p < length d.aps) × IsMoving d (Sta s.number) p o h
moving_is d first s h p o st is = subst (λ (a : Option Attempt). HasAttempt d (Sta s.number) a h) is st.attempt_is

pub held_is : (d : Domain) (first : ℕ) (s : State) (h : List Act) (p : ℕ) (x : Supplicant) (k : Held) → Stands d first s h → s.session ≡ Some (record { ap = p; supplicant = x; key = k }) → IsIn d (Sta s.number) p x k h
held_is d first s h p x k st is = subst (λ (o : Option Session). HasSession d (Sta s.number) o h) is st.session_is

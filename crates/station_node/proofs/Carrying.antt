-- Acts of protected data beside what a station stands for in a session: the handshakes go on, and its keys may change.
use Rattle.std.proofs.Common.{◌≡◌, ◌≢◌, ◌∙◌, ℕ, Bool, true, false, cond, List, [], ◌∷◌, Option, Some, None, refl, sym, ap, subst, arith}
use Rattle.std.specs.Prelude.{is_some, ◌||◌}
use Rattle.std.specs.List.{AllByRecursion}
use Rattle.std.proofs.lemmas.Bool.{ne_eqb}
use Rattle.domain_base.specs.declared.names.Node.{Node}
use Rattle.domain_base.specs.declared.names.Node.TheVariants.{Ap, Sta}
use Rattle.domain_base.specs.declared.names.Peer.{Peer}
use Rattle.domain_base.specs.declared.names.Peer.TheVariants.{One}
use Rattle.eapol_key.specs.declared.messages.Message.TheVariants.{M1, M3, G1}
use Rattle.run_journal.specs.declared.domain.Domain.{Domain}
use Rattle.run_journal.specs.declared.acts.Kind.{Kind}
use Rattle.run_journal.specs.declared.acts.Kind.TheVariants as kind
use Rattle.run_journal.specs.declared.acts.Why.{Why}
use Rattle.run_journal.specs.declared.acts.Outcome.TheVariants.{Accepted}
use Rattle.run_journal.specs.declared.acts.Seal.{Seal}
use Rattle.run_journal.specs.declared.acts.Act.{Act}
use Rattle.run_journal.specs.declared.acts.Act.TheVariants.{Took, Used, Sent, HandedUp, Idle}
use Rattle.run_journal.specs.declared.reply.Keyed.{Keyed}
use Rattle.run_journal.specs.Acts.{same, same_kind, is_from, opens, ends, accepted, replied, derived, finishes, closes, Derivation}
use Rattle.run_journal.specs.Questions.{attempt, session, pending, associated, is_draw, draws, add}
use Rattle.run_journal.specs.Holders.{last_r0kh_id}
use Rattle.domain_rules.specs.Asking.{is_connect}
use Rattle.domain_rules.proofs.Parts.{apart-took, apart-sent, apart-idle, attempt_more, attempt_none, attempt_some, start_more, own_nonce_more, heard_more, derivation_more, session_more, draws_more, leaves_pending, pending_more, leaves_associated, associated_more}
use Rattle.ccmp_guard.specs.Held.{Held}
use Rattle.data_frames.specs.Holding.{HoldsPairwise}
use Rattle.group_key.specs.Keys.{Memories}
use Rattle.group_key.specs.Holds.{RemembersAll}
use Rattle.supplicant.specs.declared.attempt.Attempt.{Attempt as SupplicantAttempt}
use Rattle.supplicant.specs.declared.base.Base.{Base}
use Rattle.supplicant.specs.State.{State as Supplicant}
use Rattle.supplicant.specs.declared.session.Session.{Session as SupplicantSession}
use Rattle.supplicant.specs.Stands.{SupplicantStands, IsUnderWay, IsTrying}
use Rattle.supplicant.specs.Stands.{HasAttempt as HasSupplicantAttempt}
use Rattle.supplicant.proofs.Standing.{based_on, renewing_more}
use Rattle.station_node.specs.declared.session.Session.{Session}
use Rattle.station_node.specs.State.{State, memory_at}
use Rattle.station_node.specs.Parts.{peer_of_session, peer_pending}
use Rattle.station_node.specs.Stands.{Stands, IsHolder, HaveIds}
use Rattle.station_node.proofs.Underway.{IsBesideMove}
use Rattle.station_node.proofs.Sessions.{IsMild, session_on}
use Rattle.station_node.proofs.Handed.{held_state, attempt_beside}
use Rattle.station_node.proofs.Standing.{beside_again, held_is}

-- ---- the acts

-- protected data, and an Action frame
abbrev pub is_protected : Kind → Bool
is_protected k = same_kind k kind.Data || same_kind k kind.Action

neither : (a b : Bool) → (a || b) ≡ false → (a ≡ false) × (b ≡ false)
neither true b s = absurd (cc s)
neither false b s = (refl, s)

-- an act that begins, ends and derives nothing, and tells of no frame but of data and of an Action frame
pub record IsQuietAct (e : Act) : Type 0 where
  pub opens_none : (p : Node) → opens p e ≡ false
  pub ends_none : (p : Node) → ends p e ≡ false
  pub accepts_none : (p : Node) (k : Kind) → is_protected k ≡ false → accepted p k e ≡ None
  pub replies_none : (p : Node) (k : Kind) → is_protected k ≡ false → replied p k e ≡ None
  pub derives_none : (p : Node) → derived p e ≡ None
  pub finishes_none : (p : Node) → finishes p e ≡ false
  pub closes_none : (p : Node) → closes p e ≡ false
  pub no_draw : is_draw e ≡ false
  pub pending : leaves_pending e ≡ true
  pub associated : leaves_associated e ≡ true
  pub holder : (h : List Act) → last_r0kh_id (e ∷ h) ≡ last_r0kh_id h

no_octets : (b c : Bool) (octets : List ℕ) → c ≡ false → cond {A = Option (List ℕ)} b (cond c (Some octets) None) None ≡ None
no_octets true c octets other = rw other refl
no_octets false c octets other = refl

-- a frame of either kind
quiet-took_of : (from : Option Node) (octets : List ℕ) (which : Kind) (s : Option Seal) → ((k : Kind) → is_protected k ≡ false → same_kind k which ≡ false) → IsQuietAct (Took from octets which Accepted s)
quiet-took_of from octets which s of = record {
  opens_none = λ p. refl;
  ends_none = λ p. refl;
  accepts_none = λ p k other. no_octets (is_from p from) (same_kind k which) octets (of k other);
  replies_none = λ p k other. no_octets (is_from p from) (same_kind k which) octets (of k other);
  derives_none = λ p. refl;
  finishes_none = λ p. refl;
  closes_none = λ p. refl;
  no_draw = refl;
  pending = refl;
  associated = refl;
  holder = λ h. refl;
}

quiet-took : (from : Option Node) (octets : List ℕ) (s : Option Seal) → IsQuietAct (Took from octets kind.Data Accepted s)
quiet-took from octets s = quiet-took_of from octets kind.Data s (λ k other. (neither (same_kind k kind.Data) (same_kind k kind.Action) other).0)

quiet-acted : (from : Option Node) (octets : List ℕ) (s : Option Seal) → IsQuietAct (Took from octets kind.Action Accepted s)
quiet-acted from octets s = quiet-took_of from octets kind.Action s (λ k other. (neither (same_kind k kind.Data) (same_kind k kind.Action) other).1)

quiet-handed_up : (q : Node) (key : List ℕ) (id tid number : ℕ) (plain : List ℕ) → IsQuietAct (HandedUp q key id tid number plain)
quiet-handed_up q key id tid number plain = record {
  opens_none = λ p. refl;
  ends_none = λ p. refl;
  accepts_none = λ p k other. refl;
  replies_none = λ p k other. refl;
  derives_none = λ p. refl;
  finishes_none = λ p. refl;
  closes_none = λ p. refl;
  no_draw = refl;
  pending = refl;
  associated = refl;
  holder = λ h. refl;
}

quiet-used : (q : Peer) (key : List ℕ) (id number : ℕ) (plain : List ℕ) → IsQuietAct (Used q key id number plain)
quiet-used q key id number plain = record {
  opens_none = λ p. refl;
  ends_none = λ p. refl;
  accepts_none = λ p k other. refl;
  replies_none = λ p k other. refl;
  derives_none = λ p. refl;
  finishes_none = λ p. refl;
  closes_none = λ p. refl;
  no_draw = refl;
  pending = refl;
  associated = refl;
  holder = λ h. refl;
}

quiet-sent : (q : Peer) (k : Kind) (octets : List ℕ) (s : Option Seal) → IsQuietAct (Sent q k octets s)
quiet-sent q k octets s = record {
  opens_none = λ p. refl;
  ends_none = λ p. refl;
  accepts_none = λ p k other. refl;
  replies_none = λ p k other. refl;
  derives_none = λ p. refl;
  finishes_none = λ p. refl;
  closes_none = λ p. refl;
  no_draw = refl;
  pending = refl;
  associated = refl;
  holder = λ h. refl;
}

quiet-idle : (w : Why) → IsQuietAct (Idle w)
quiet-idle w = record {
  opens_none = λ p. refl;
  ends_none = λ p. refl;
  accepts_none = λ p k other. refl;
  replies_none = λ p k other. refl;
  derives_none = λ p. refl;
  finishes_none = λ p. refl;
  closes_none = λ p. refl;
  no_draw = refl;
  pending = refl;
  associated = refl;
  holder = λ h. refl;
}

abbrev pub AreQuiet : List Act → Type 0
AreQuiet g = AllByRecursion IsQuietAct g

-- ---- what is asked

quiet-draws : (g h : List Act) → AreQuiet g → draws (add g h) ≡ draws h
quiet-draws [] h q = refl
quiet-draws (e ∷ g) h q = quiet-draws g (e ∷ h) q.1 ∙ draws_more e h q.0.no_draw

quiet-pending : (g h : List Act) → AreQuiet g → pending (add g h) ≡ pending h
quiet-pending [] h q = refl
quiet-pending (e ∷ g) h q = quiet-pending g (e ∷ h) q.1 ∙ pending_more e h q.0.pending

quiet-associated : (g h : List Act) → AreQuiet g → associated (add g h) ≡ associated h
quiet-associated [] h q = refl
quiet-associated (e ∷ g) h q = quiet-associated g (e ∷ h) q.1 ∙ associated_more e h q.0.associated

quiet-attempt : (p : Node) (g h : List Act) → AreQuiet g → attempt p h ≡ None → attempt p (add g h) ≡ None
quiet-attempt p [] h q none = none
quiet-attempt p (e ∷ g) h q none = quiet-attempt p g (e ∷ h) q.1 (attempt_none p e h (q.0.opens_none p) none)

quiet-session : (p : Node) (g h : List Act) → AreQuiet g → session p (add g h) ≡ session p h
quiet-session p [] h q = refl
quiet-session p (e ∷ g) h q = quiet-session p g (e ∷ h) q.1 ∙ session_more p e h (q.0.finishes_none p) (q.0.closes_none p)

-- ---- the handshake

under_way_on : (d : Domain) (n p : Node) (b : Base) (v : List ℕ) (key : Option Keyed) (h : List Act) (e : Act) → IsQuietAct e → IsUnderWay d n p b v key h → IsUnderWay d n p b v key (e ∷ h)
under_way_on d n p b v key h e q u = record {
  part = e ∷ u.part;
  is = attempt_more p e h u.part (q.opens_none p) (q.ends_none p) u.is;
  begun = ap is_connect (start_more e u.part (attempt_some p h u.part u.is)) ∙ u.begun;
  nonce = own_nonce_more e u.part v u.nonce;
  hears = ap is_some (heard_more p kind.AssocResp e u.part (q.accepts_none p kind.AssocResp refl)) ∙ u.hears;
  based = based_on d n p b u.part (e ∷ u.part) (heard_more p kind.AssocResp e u.part (q.accepts_none p kind.AssocResp refl)) u.based;
  keeps = rw (q.replies_none p (kind.Key M3) refl, q.replies_none p (kind.Key G1) refl) u.keeps;
  asked = ap is_some (heard_more p (kind.Key M1) e u.part (q.accepts_none p (kind.Key M1) refl)) ∙ u.asked;
  keyed = derivation_more p e u.part (q.derives_none p) ∙ u.keyed;
}

mild : (p : Node) (e : Act) → IsQuietAct e → IsMild p e
mild p e q = record {
  opens_none = q.opens_none p;
  finishes_none = q.finishes_none p;
  closes_none = q.closes_none p;
  responds_none = q.accepts_none p kind.AssocResp refl;
  third_none = q.replies_none p (kind.Key M3) refl;
  group_none = q.replies_none p (kind.Key G1) refl;
}

trying_on : (d : Domain) (n p : Node) (b : Base) (x : Option SupplicantSession) (a : SupplicantAttempt) (h : List Act) (e : Act) → IsQuietAct e → IsTrying d n p b x a h → IsTrying d n p b x a (e ∷ h)
trying_on d n p b None a h e q u = under_way_on d n p b a.snonce a.key h e q u
trying_on d n p b (Some x) a h e q u = renewing_more d n p b a.snonce a.key h e (record { opens_none = q.opens_none p; ends_none = q.ends_none p; derives_none = q.derives_none p }) u

attempt_on : (d : Domain) (n p : Node) (b : Base) (x : Option SupplicantSession) (a : Option SupplicantAttempt) (h : List Act) (e : Act) → IsQuietAct e → HasSupplicantAttempt d n p b x a h → HasSupplicantAttempt d n p b x a (e ∷ h)
attempt_on d n p b x None h e q none = attempt_none p e h (q.opens_none p) none
attempt_on d n p b x (Some a) h e q u = trying_on d n p b x a h e q u

quiet-supplicant : (d : Domain) (n p : Node) (s : Supplicant) (g h : List Act) → AreQuiet g → SupplicantStands d n p s h → SupplicantStands d n p s (add g h)
quiet-supplicant d n p s [] h q st = st
quiet-supplicant d n p s (e ∷ g) h q st = quiet-supplicant d n p s g (e ∷ h) q.1 (record {
  ends = st.ends;
  attempt_is = attempt_on d n p s.base s.session s.attempt h e q.0 st.attempt_is;
  session_is = session_on d n p s.base s.session h e (mild p e q.0) st.session_is;
})

-- ---- a fast transition

quiet-holder : (g h : List Act) → AreQuiet g → last_r0kh_id (add g h) ≡ last_r0kh_id h
quiet-holder [] h q = refl
quiet-holder (e ∷ g) h q = quiet-holder g (e ∷ h) q.1 ∙ q.0.holder h

-- the acts are about access point a, where its frames stand for something
pub record AreOf (a : ℕ) (g : List Act) : Type 0 where
  pub quiet : AreQuiet g
  pub beside : (p : ℕ) → p ≢ a → AllByRecursion (IsBesideMove (Ap p)) g

-- a quiet act that is no frame of p, and none to p, is beside a fast transition to p
beside_took : (p a : Node) (octets : List ℕ) (k : Kind) (s : Option Seal) → same p a ≡ false → IsBesideMove p (Took (Some a) octets k Accepted s)
beside_took p a octets k s other = record { apart = apart-took p (Some a) octets k Accepted s other; associated = refl; holder = λ h. refl }

beside_handed_up : (p q : Node) (key : List ℕ) (id tid number : ℕ) (plain : List ℕ) → IsBesideMove p (HandedUp q key id tid number plain)
beside_handed_up p q key id tid number plain = record {
  apart = record { opens_none = refl; ends_none = refl; accepts_none = λ k. refl; replies_none = λ k. refl; sends_none = λ m. refl; derives_none = refl; finishes_none = refl; closes_none = refl };
  associated = refl;
  holder = λ h. refl;
}

beside_used : (p : Node) (q : Peer) (key : List ℕ) (id number : ℕ) (plain : List ℕ) → IsBesideMove p (Used q key id number plain)
beside_used p q key id number plain = record {
  apart = record { opens_none = refl; ends_none = refl; accepts_none = λ k. refl; replies_none = λ k. refl; sends_none = λ m. refl; derives_none = refl; finishes_none = refl; closes_none = refl };
  associated = refl;
  holder = λ h. refl;
}

beside_sent : (p a : Node) (octets : List ℕ) (s : Option Seal) → same p a ≡ false → IsBesideMove p (Sent (One a) kind.Data octets s)
beside_sent p a octets s other = record { apart = apart-sent p a kind.Data octets s other; associated = refl; holder = λ h. refl }

beside_idle : (p : Node) (w : Why) → IsBesideMove p (Idle w)
beside_idle p w = record { apart = apart-idle p w; associated = refl; holder = λ h. refl }

pub quiet-taken : (a : ℕ) (octets : List ℕ) (s : Option Seal) (q : Node) (key : List ℕ) (id tid number : ℕ) (plain : List ℕ) → AreOf a (Took (Some (Ap a)) octets kind.Data Accepted s ∷ HandedUp q key id tid number plain ∷ [])
quiet-taken a octets s q key id tid number plain = record {
  quiet = (quiet-took (Some (Ap a)) octets s, (quiet-handed_up q key id tid number plain, tt));
  beside = λ p other. (beside_took (Ap p) (Ap a) octets kind.Data s (ne_eqb p a other), (beside_handed_up (Ap p) q key id tid number plain, tt));
}

pub quiet-action : (a : ℕ) (octets : List ℕ) (s : Option Seal) (q : Node) (key : List ℕ) (id tid number : ℕ) (plain : List ℕ) → AreOf a (Took (Some (Ap a)) octets kind.Action Accepted s ∷ HandedUp q key id tid number plain ∷ [])
quiet-action a octets s q key id tid number plain = record {
  quiet = (quiet-acted (Some (Ap a)) octets s, (quiet-handed_up q key id tid number plain, tt));
  beside = λ p other. (beside_took (Ap p) (Ap a) octets kind.Action s (ne_eqb p a other), (beside_handed_up (Ap p) q key id tid number plain, tt));
}

pub quiet-sending : (a : ℕ) (key : List ℕ) (id number : ℕ) (plain octets : List ℕ) (s : Option Seal) → AreOf a (Used (One (Ap a)) key id number plain ∷ Sent (One (Ap a)) kind.Data octets s ∷ [])
quiet-sending a key id number plain octets s = record {
  quiet = (quiet-used (One (Ap a)) key id number plain, (quiet-sent (One (Ap a)) kind.Data octets s, tt));
  beside = λ p other. (beside_used (Ap p) (One (Ap a)) key id number plain, (beside_sent (Ap p) (Ap a) octets s (ne_eqb p a other), tt));
}

pub quiet-nothing : (a : ℕ) (w : Why) → AreOf a (Idle w ∷ [])
quiet-nothing a w = record { quiet = (quiet-idle w, tt); beside = λ p other. (beside_idle (Ap p) w, tt) }

-- ---- the station

-- behind the acts the key of the session is in use
abbrev pub HoldsOn : ℕ → Held → Held → List Act → List Act → Type 0
HoldsOn a old new g h = (y : Derivation) → session (Ap a) h ≡ Some y → HoldsPairwise (Ap a) y.ptk.tk old h → HoldsPairwise (Ap a) y.ptk.tk new (add g h)

-- and the group keys that are kept stand for them
pub record AreKept (memories : List (ℕ × Memories)) (l : List Act) : Type 0 where
  pub remembers : (p : ℕ) → RemembersAll (Ap p) (memory_at memories p) l
  pub ids : (p : ℕ) → HaveIds (memory_at memories p)

pub stands-quiet : (d : Domain) (first : ℕ) (s : State) (g h : List Act) (a : ℕ) (x : Supplicant) (k new : Held) (memories : List (ℕ × Memories)) → Stands d first s h → s.session ≡ Some (record { ap = a; supplicant = x; key = k }) → AreOf a g
    → HoldsOn a k new g h → AreKept memories (add g h) → Stands d first (held_state s a x new memories) (add g h)
stands-quiet d first s g h a x k new memories st is of holds kept =
    let q = of.quiet in
    let place = held_is d first s h a x k st is in
    let z : Session = record { ap = a; supplicant = x; key = k } in
    record {
      draws_are = omega (arith, st.draws_are, quiet-draws g h q);
      pending_is = quiet-pending g h q ∙ st.pending_is ∙ ap (peer_pending s.attempt) is;
      associated_is = quiet-associated g h q ∙ st.associated_is ∙ ap peer_of_session is;
      alone = beside_again s.attempt s.session z (record { ap = a; supplicant = x; key = new }) is refl st.alone;
      attempt_is = attempt_beside d (Sta s.number) s.attempt s.session z g h is st.alone of.beside st.attempt_is;
      session_is = record {
        listed = place.listed;
        stands = quiet-supplicant d (Sta s.number) (Ap a) x g h q place.stands;
        keyed = record { key = place.keyed.key; is = quiet-session (Ap a) g h q ∙ place.keyed.is; holds = holds place.keyed.key place.keyed.is place.keyed.holds };
      };
      no_attempt = λ p other. quiet-attempt (Ap p) g h q (st.no_attempt p (λ e. other (sym (ap (peer_pending s.attempt) is) ∙ e)));
      no_session = λ p other. quiet-session (Ap p) g h q ∙ st.no_session p (λ e. other (sym (ap peer_of_session is) ∙ e));
      remembers = kept.remembers;
      ids = kept.ids;
      holder = λ suite. (let held = subst (λ (o : Option Session). IsHolder o s.r0kh_id h) is (st.holder suite) in (quiet-holder g h q ∙ held.0, held.1));
    }

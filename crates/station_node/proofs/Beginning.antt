-- What a station stands for as it has asked for association, and as that was accepted.
use Rattle.std.proofs.Common.{◌≡◌, ◌≢◌, inl, inr, ℕ, ◌<◌, ◌+◌, true, false, List, [], ◌∷◌, length, Option, Some, None, refl, sym, ap, subst, ◌∙◌, arith}
use Rattle.std.specs.List.{AllByRecursion}
use Rattle.std.proofs.lemmas.Bool.{ne_eqb, cases_Bool}
use Rattle.domain_base.specs.declared.names.Node.{Node}
use Rattle.domain_base.specs.declared.names.Node.TheVariants.{Ap, Sta}
use Rattle.eapol_key.specs.declared.messages.Message.TheVariants.{M1}
use Rattle.run_journal.specs.declared.domain.Domain.{Domain}
use Rattle.run_journal.specs.declared.acts.Part.TheVariants.{Session as OfSession}
use Rattle.run_journal.specs.declared.acts.Kind.TheVariants as kind
use Rattle.run_journal.specs.declared.acts.Outcome.TheVariants as outcome
use Rattle.run_journal.specs.declared.acts.Act.{Act}
use Rattle.run_journal.specs.declared.acts.Act.TheVariants.{Closed, Took, Opened, Drew}
use Rattle.run_journal.specs.declared.acts.Drawn.TheVariants.{Nonce}
use Rattle.run_journal.specs.declared.acts.Start.TheVariants.{Connect}
use Rattle.run_journal.specs.Acts.{same}
use Rattle.run_journal.specs.Questions.{heard, session, pending, associated, add}
use Rattle.domain_rules.specs.Frames.{sent_assoc_req}
use Rattle.domain_rules.specs.Closing.{close_associated}
use Rattle.domain_rules.specs.Asking.{is_connect}
use Rattle.domain_rules.proofs.Parts.{attempt_none, attempt_more, attempt_some, start_more, own_nonce_more, same-refl}
use Rattle.domain_rules.proofs.Effects.{IsBegun, begun-counter, begun-silent, asking_acts, has_asked, asked-pending, asked-associated, asked-others, asked-draws, associated_acts}
use Rattle.group_key.specs.Keys.{Memories}
use Rattle.group_key.specs.Holds.{RemembersAll}
use Rattle.node_base.specs.Ends.{AreEnds}
use Rattle.act_memory.proofs.RepliedActs.{LeavesKept, remembers_on, remembers_more}
use Rattle.supplicant.specs.declared.attempt.Attempt.{Attempt as SupplicantAttempt}
use Rattle.supplicant.specs.declared.session.Session.{Session as SupplicantSession}
use Rattle.supplicant.specs.State.{State as Supplicant}
use Rattle.supplicant.specs.declared.base.Base.{Base}
use Rattle.supplicant.specs.Bases.{IsBaseOf, fte_in}
use Rattle.supplicant.specs.Stands.{SupplicantStands, IsUnderWay, Responds}
use Rattle.rsn_elements.specs.Elements.{ElementFields}
use Rattle.supplicant.specs.Stands.{HasAttempt as HasSupplicantAttempt, HasSession as HasSupplicantSession}
use Rattle.station_node.specs.declared.attempt.Association.TheVariants.{Requested, Accepted}
use Rattle.station_node.specs.declared.session.Session.{Session}
use Rattle.station_node.specs.State.{State, memory_at}
use Rattle.station_node.specs.declared.attempt.Attempt.{Attempt}
use Rattle.station_node.specs.Parts.{peer_of_session, peer_pending, IsElsewhere}
use Rattle.station_node.specs.Stands.{Stands, IsRequested, NamesHolder, HasSession, HaveIds}
use Rattle.station_node.proofs.Acts.{keeps-took, keeps-opened, keeps-closed, keeps-drew, keeps-sent}
use Rattle.station_node.proofs.Standing.{nobody, no_attempt, no_session_beside, requested_is, holder_on}

-- ---- it asks an access point for association

asked-keeps : (d : Domain) (n : Node) (was had : Option Node) (a : ℕ) (v : List ℕ) (p : Node) → AllByRecursion (LeavesKept p) (asking_acts d n was had a v)
asked-keeps d n was had a v p = by was had
  where
    last : AllByRecursion (LeavesKept p) (Opened (Ap a) Connect ∷ Drew (Nonce v) ∷ sent_assoc_req d n (Ap a) ∷ [])
    last = (keeps-opened p (Ap a) Connect, (keeps-drew p (Nonce v), (keeps-sent p _ _ _ _, tt)))

    by : (was had : Option Node) → AllByRecursion (LeavesKept p) (asking_acts d n was had a v)
    by None None = last
    by None (Some q) = (keeps-closed p q _, last)
    by (Some r) None = (keeps-closed p r _, last)
    by (Some r) (Some q) = (keeps-closed p r _, (keeps-closed p q _, last))

asked-session : (d : Domain) (n : Node) (was had : Option Node) (a : ℕ) (v : List ℕ) (h : List Act) (p : Node) → session p (add (asking_acts d n was had a v) h) ≡ session p (add (close_associated had) h)
asked-session d n None None a v h p = refl
asked-session d n None (Some q) a v h p = refl
asked-session d n (Some r) None a v h p = refl
asked-session d n (Some r) (Some q) a v h p = refl

left_by : (q : Node) (p : ℕ) (h : List Act) → (q ≢ Ap p → session (Ap p) h ≡ None) → session (Ap p) (Closed q OfSession ∷ h) ≡ None
left_by q p h alone = elim (cases_Bool (same (Ap p) q)) [ inl is ↦ rw is refl | inr none ↦ rw none (alone (λ e. other p q none e)) ]
  where
    other : (p : ℕ) (q : Node) → same (Ap p) q ≡ false → q ≡ Ap p → ⊥
    other p q none e = let here : same (Ap p) q ≡ true = subst (λ (x : Node). same (Ap p) x ≡ true) (sym e) (same-refl (Ap p)) in cc (none, here)

that_node : (o : Option Node) (q : Node) (p : ℕ) → o ≡ Some q → (q ≡ Ap p → ⊥) → IsElsewhere o p
that_node o q p is other here = other (same_node o q p is here)
  where
    same_node : (o : Option Node) (q : Node) (p : ℕ) → o ≡ Some q → o ≡ Some (Ap p) → q ≡ Ap p
    same_node o q p is here = cc

pub left_session : (d : Domain) (first : ℕ) (s : State) (h : List Act) (p : ℕ) (o : Option Node) → Stands d first s h → peer_of_session s.session ≡ o → session (Ap p) (add (close_associated o) h) ≡ None
left_session d first s h p None st is = st.no_session p (nobody (peer_of_session s.session) p is)
left_session d first s h p (Some q) st is = left_by q p h (λ other. st.no_session p (that_node (peer_of_session s.session) q p is other))

no_session_left : (d : Domain) (first : ℕ) (s : State) (h : List Act) (n : Node) (a : ℕ) (v : List ℕ) (p : ℕ) → Stands d first s h → session (Ap p) (add (asking_acts d n (pending h) (associated h) a v) h) ≡ None
no_session_left d first s h n a v p st =
    asked-session d n (pending h) (associated h) a v h (Ap p) ∙ left_session d first s h p (associated h) st (sym st.associated_is)

abbrev pub asked_state : State → ℕ → List ℕ → State
asked_state s a v = record { number = s.number; drawn = s.drawn + 1; attempt = Some (record { ap = a; association = Requested v }); session = None; memories = s.memories; r0kh_id = s.r0kh_id }

pub stands-asked : (d : Domain) (first : ℕ) (s : State) (h : List Act) (n : Node) (a : ℕ) (v : List ℕ) → Stands d first s h → a < length d.aps
    → Stands d first (asked_state s a v) (add (asking_acts d n (pending h) (associated h) a v) h)
stands-asked d first s h n a v st low =
    let b : IsBegun (Ap a) v (add (asking_acts d n (pending h) (associated h) a v) h) = has_asked d n (pending h) (associated h) a v h in
    record {
      draws_are = omega (arith, st.draws_are, asked-draws d n (pending h) (associated h) a v h);
      pending_is = asked-pending d n (pending h) (associated h) a v h;
      associated_is = asked-associated d n (pending h) a v h;
      alone = refl;
      attempt_is = (
        low,
        record {
          part = b.part;
          is = b.is;
          begun = ap is_connect b.begun;
          nonce = b.nonce;
          hears = begun-silent (Ap a) v _ b kind.AssocResp;
          keeps = begun-counter (Ap a) v _ b;
          asked = begun-silent (Ap a) v _ b (kind.Key M1);
          keyed = b.derives;
        },
      );
      session_is = tt;
      no_attempt = λ p other. asked-others d n (associated h) a v h p (ne_eqb p a (λ e. other (ap (λ (x : ℕ). Some (Ap x)) (sym e)))) (λ none. no_attempt d first s h p st (sym st.pending_is ∙ none));
      no_session = λ p other. no_session_left d first s h n a v p st;
      remembers = λ p. remembers_on (Ap p) (memory_at s.memories p) (asking_acts d n (pending h) (associated h) a v) h (asked-keeps d n (pending h) (associated h) a v (Ap p)) (st.remembers p);
      ids = st.ids;
      holder = λ suite. tt;
    }

-- ---- the access point accepts it

-- what its attempt goes back to is as the response says
pub record IsBasedOn (d : Domain) (n p : Node) (octets : List ℕ) (b : Base) : Type 0 where
  pub of : IsBaseOf d n p (fte_in b) b
  pub says : Option ElementFields
  pub responds : Responds d.akm (Some octets) says b

under_way-associated : (d : Domain) (n : Node) (p : ℕ) (b : Base) (v octets : List ℕ) (h : List Act) → IsBasedOn d n (Ap p) octets b → IsRequested (Ap p) v h → IsUnderWay d n (Ap p) b v None (add (associated_acts (Ap p) octets) h)
under_way-associated d n p b v octets h of u =
    let took : Act = Took (Some (Ap p)) octets kind.AssocResp outcome.Accepted None in
    record {
      part = took ∷ u.part;
      is = attempt_more (Ap p) took h u.part refl refl u.is;
      begun = ap is_connect (start_more took u.part (attempt_some (Ap p) h u.part u.is)) ∙ u.begun;
      nonce = own_nonce_more took u.part v u.nonce;
      hears = rw (same-refl (Ap p)) refl;
      based = record { of = of.of; says = of.says; responds = subst (λ (o : Option (List ℕ)). Responds d.akm o of.says b) (sym (there p octets u.part)) of.responds };
      keeps = rw (same-refl (Ap p)) u.keeps;
      asked = rw (same-refl (Ap p)) u.asked;
      keyed = u.keyed;
    }
  where
    there : (p : ℕ) (octets : List ℕ) (part : List Act) → heard (Ap p) kind.AssocResp (Took (Some (Ap p)) octets kind.AssocResp outcome.Accepted None ∷ part) ≡ Some octets
    there p octets part = rw (same-refl (Ap p)) refl

-- the supplicant has begun
pub record HasBegun (d : Domain) (n p : Node) (v octets : List ℕ) (x : Supplicant) : Type 0 where
  pub ends : AreEnds d n p x.ends
  pub based : IsBasedOn d n p octets x.base
  pub attempt_is : x.attempt ≡ Some (record { snonce = v; key = None })
  pub session_is : x.session ≡ None
  pub names : NamesHolder d x.base.r0kh_id

stands-begun : (d : Domain) (n : Node) (p : ℕ) (v octets : List ℕ) (x : Supplicant) (h : List Act) → HasBegun d n (Ap p) v octets x → IsRequested (Ap p) v h → session (Ap p) h ≡ None → SupplicantStands d n (Ap p) x (add (associated_acts (Ap p) octets) h)
stands-begun d n p v octets x h b u silent =
    let l : List Act = add (associated_acts (Ap p) octets) h in
    record {
      ends = b.ends;
      attempt_is = subst (λ (z : Option SupplicantSession). HasSupplicantAttempt d n (Ap p) x.base z x.attempt l) (sym b.session_is)
          (subst (λ (o : Option SupplicantAttempt). HasSupplicantAttempt d n (Ap p) x.base None o l) (sym b.attempt_is) (under_way-associated d n p x.base v octets h b.based u));
      session_is = subst (λ (o : Option SupplicantSession). HasSupplicantSession d n (Ap p) x.base o l) (sym b.session_is) silent;
    }

-- with a supplicant that has begun, and one place more in memory
abbrev pub associated_state : State → ℕ → Supplicant → List (ℕ × Memories) → State
associated_state s p x memories = record { number = s.number; drawn = s.drawn; attempt = Some (record { ap = p; association = Accepted x }); session = s.session; memories = memories; r0kh_id = s.r0kh_id }

pub stands-associated : (d : Domain) (first : ℕ) (s : State) (h : List Act) (p : ℕ) (v octets : List ℕ) (x : Supplicant) (memories : List (ℕ × Memories)) → Stands d first s h → s.attempt ≡ Some (record { ap = p; association = Requested v })
    → HasBegun d (Sta s.number) (Ap p) v octets x → ((k : ℕ) → memory_at memories k ≡ memory_at s.memories k)
    → Stands d first (associated_state s p x memories) (add (associated_acts (Ap p) octets) h)
stands-associated d first s h p v octets x memories st is b same_memory =
    let r = requested_is d first s h p v st is in
    let none = no_session_beside d first s h p v st is in
    let took : Act = Took (Some (Ap p)) octets kind.AssocResp outcome.Accepted None in
    record {
      draws_are = st.draws_are;
      pending_is = st.pending_is ∙ ap (λ (o : Option Attempt). peer_pending o s.session) is;
      associated_is = st.associated_is;
      alone = none;
      attempt_is = (r.0, record { stands = stands-begun d (Sta s.number) p v octets x h b r.1 (st.no_session p (nobody (peer_of_session s.session) p (ap peer_of_session none))); names = b.names });
      session_is = subst (λ (o : Option Session). HasSession d (Sta s.number) o (took ∷ h)) (sym none) tt;
      no_attempt = λ q other. attempt_none (Ap q) took h refl (st.no_attempt q (λ e. other (sym (ap (λ (o : Option Attempt). peer_pending o s.session) is) ∙ e)));
      no_session = λ q other. st.no_session q other;
      remembers = λ q. remembers_more (Ap q) (memory_at memories q) took h (keeps-took (Ap q) _ _ _ _ _) (subst (λ (m : Memories). RemembersAll (Ap q) m h) (sym (same_memory q)) (st.remembers q));
      ids = λ q. subst HaveIds (sym (same_memory q)) (st.ids q);
      holder = λ suite. holder_on s.session s.r0kh_id h (took ∷ h) refl (st.holder suite);
    }

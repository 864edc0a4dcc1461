-- A station begins a fast transition, or does not.
use Rattle.std.proofs.Common.{◌≡◌, ◌∙◌, ℕ, ◌<◌, ◌≤◌, ◌+◌, suc, Bool, true, false, List, [], ◌∷◌, ◌++◌, length, Option, Some, None, refl, sym, ap, subst, append_assoc, arith}
use Rattle.std.specs.Prelude.{◌==◌, nat_le, Result, Ok, Err, if◌then◌else◌}
use Rattle.std.specs.List.{AllByRecursion}
use Rattle.std.proofs.lemmas.Bool.{leb-true, leb-false, ne_eqb, eq-eqb}
use Rattle.domain_base.specs.declared.names.Akm.TheVariants.{FtPsk}
use Rattle.domain_base.specs.declared.names.Node.{Node}
use Rattle.domain_base.specs.declared.names.Node.TheVariants.{Ap, Sta}
use Rattle.run_journal.specs.declared.domain.Domain.{Domain}
use Rattle.run_journal.specs.declared.acts.Start.TheVariants.{Roam as ByRoam}
use Rattle.run_journal.specs.declared.acts.Drawn.TheVariants.{Nonce}
use Rattle.run_journal.specs.declared.acts.Part.TheVariants.{Attempt as OfAttempt}
use Rattle.run_journal.specs.declared.acts.Why.{Why}
use Rattle.run_journal.specs.declared.acts.Why.TheVariants as why
use Rattle.run_journal.specs.declared.acts.Outcome.TheVariants.{Done, Idle as IdleBy}
use Rattle.run_journal.specs.declared.acts.Act.{Act}
use Rattle.run_journal.specs.declared.acts.Act.TheVariants.{Opened, Closed, Drew, Idle}
use Rattle.run_journal.specs.declared.reply.Reply.{Reply}
use Rattle.run_journal.specs.Acts.{same}
use Rattle.run_journal.specs.Questions.{attempt, since, session, pending, associated, draws, add}
use Rattle.run_journal.specs.Holders.{last_r0kh_id}
use Rattle.domain_rules.specs.Here.{here}
use Rattle.domain_rules.specs.Network.{Root, root_at, nonce, draw_end}
use Rattle.domain_rules.specs.Asking.{kept_counter}
use Rattle.domain_rules.specs.TransitionFrames.{sent_ft_req}
use Rattle.domain_rules.specs.TransitionRows.{RoamRow, NoSession, SamePeer, Spent, Asks}
use Rattle.domain_rules.specs.Rows.{Roam, outcome_of}
use Rattle.domain_rules.specs.Closing.{close_pending}
use Rattle.domain_rules.proofs.Switching.{station_adds}
use Rattle.domain_rules.proofs.Parts.{same-refl}
use Rattle.data_frames.specs.Holding.{LeavesPairwise}
use Rattle.act_memory.proofs.RepliedActs.{LeavesKept, remembers_on}
use Rattle.node_base.specs.Events.{Steps, seen}
use Rattle.group_key.specs.Keys.{Memories}
use Rattle.group_key.specs.Holds.{RemembersAll}
use Rattle.ft_exchange.specs.State.{OriginatorState}
use Rattle.ft_exchange.specs.Stands.{OriginatorStands}
use Rattle.ft_exchange.specs.OriginatorSteps.{IsRoaming, IsBegun}
use Rattle.ft_exchange.specs.Told.{transition_sent}
use Rattle.station_node.specs.declared.attempt.Association.TheVariants.{Moving}
use Rattle.station_node.specs.declared.session.Session.{Session}
use Rattle.station_node.specs.State.{State, memory_at}
use Rattle.station_node.specs.Parts.{peer_of_attempt, peer_of_session, roams_from, CanRoam}
use Rattle.station_node.specs.Stands.{Stands, IsHolder, HasSession, IsIn, HaveIds}
use Rattle.station_node.specs.Steps.{IsTaken, turn}
use Rattle.station_node.proofs.Acts.{plain-idle, keeps-opened, keeps-closed, keeps-drew, keeps-sent}
use Rattle.station_node.proofs.Standing.{stands-plain, nobody_pending, plain_pending, nothing_with, holder_on}
use Rattle.station_node.proofs.Sessions.{IsMild, supplicant_on, keyed_on}

-- ---- it does nothing

row_idle : (d : Domain) (first : ℕ) (s : State) (h : List Act) (p : ℕ) (w : Why) → Stands d first s h → roams_from s.session p s.drawn ≡ Err w → RoamRow (here d first (Sta s.number)) h (Ap p) (Idle w ∷ [])
row_idle d first s h p w st from = by s.session refl from
  where
    that : (x y : Why) → ◌≡◌ {A = Result ℕ Why} (Err x) (Err y) → x ≡ y
    that x y is = cc

    spent : (z : Session) (b : Bool) → associated h ≡ Some (Ap z.ap) → (p == z.ap) ≡ false → nat_le draw_end s.drawn ≡ b → ◌≡◌ {A = Result ℕ Why} (if b then Err why.Spent else Ok z.ap) (Err w) → RoamRow (here d first (Sta s.number)) h (Ap p) (Idle w ∷ [])
    spent z true there other late is =
        Spent (Ap z.ap) there other (subst (λ (m : ℕ). draw_end ≤ m) st.draws_are (leb-true draw_end s.drawn late)) (ap (λ (x : Why). Idle x ∷ []) (sym (that why.Spent w is)))
    spent z false there other late is = absurd (cc is)

    with_one : (z : Session) (b : Bool) → associated h ≡ Some (Ap z.ap) → (p == z.ap) ≡ b → ◌≡◌ {A = Result ℕ Why} (if b then Err why.SamePeer else if nat_le draw_end s.drawn then Err why.Spent else Ok z.ap) (Err w)
        → RoamRow (here d first (Sta s.number)) h (Ap p) (Idle w ∷ [])
    with_one z true there alike is = SamePeer (Ap z.ap) there alike (ap (λ (x : Why). Idle x ∷ []) (sym (that why.SamePeer w is)))
    with_one z false there other is = spent z (nat_le draw_end s.drawn) there other refl is

    by : (o : Option Session) → s.session ≡ o → roams_from o p s.drawn ≡ Err w → RoamRow (here d first (Sta s.number)) h (Ap p) (Idle w ∷ [])
    by None is none = NoSession (st.associated_is ∙ ap peer_of_session is) (ap (λ (x : Why). Idle x ∷ []) (sym (that why.NoSession w none)))
    by (Some z) is there = with_one z (p == z.ap) (st.associated_is ∙ ap peer_of_session is) refl there

pub steps-roams_not : (d : Domain) (first : ℕ) (s : State) (h : List Act) (p : ℕ) (w : Why) (waited : List Act) → Stands d first s h → roams_from s.session p s.drawn ≡ Err w
    → Steps (here d first (Sta s.number)) (Roam p) (Stands d first s) h (seen waited (waited ++ Idle w ∷ []) (IdleBy w))
steps-roams_not d first s h p w waited st from = record {
  acts = Idle w ∷ [];
  adds = station_adds d first s.number h (Roam p) (Idle w ∷ []) (row_idle d first s h p w st from);
  waiting = refl;
  came = refl;
  stands = stands-plain d first s h (Idle w) (plain-idle w) st;
}

-- ---- the session from which it roams

-- with another access point, before the last draw
pub record RoamsFrom (s : State) (p q : ℕ) : Type 0 where
  pub z : Session
  pub is : s.session ≡ Some z
  pub there : z.ap ≡ q
  pub other : (p == z.ap) ≡ false
  pub early : s.drawn < draw_end

pub roams_from_is : (s : State) (p q : ℕ) → roams_from s.session p s.drawn ≡ Ok q → RoamsFrom s p q
roams_from_is s p q from = by s.session refl from
  where
    that : (x y : ℕ) → ◌≡◌ {A = Result ℕ Why} (Ok x) (Ok y) → x ≡ y
    that x y is = cc

    early : (z : Session) (b : Bool) → s.session ≡ Some z → (p == z.ap) ≡ false → nat_le draw_end s.drawn ≡ b → ◌≡◌ {A = Result ℕ Why} (if b then Err why.Spent else Ok z.ap) (Ok q) → RoamsFrom s p q
    early z true is other late from = absurd (cc from)
    early z false is other late from = record { z = z; is = is; there = that z.ap q from; other = other; early = leb-false draw_end s.drawn late }

    with_one : (z : Session) (b : Bool) → s.session ≡ Some z → (p == z.ap) ≡ b → ◌≡◌ {A = Result ℕ Why} (if b then Err why.SamePeer else if nat_le draw_end s.drawn then Err why.Spent else Ok z.ap) (Ok q) → RoamsFrom s p q
    with_one z true is alike from = absurd (cc from)
    with_one z false is other from = early z (nat_le draw_end s.drawn) is other refl from

    by : (o : Option Session) → s.session ≡ o → roams_from o p s.drawn ≡ Ok q → RoamsFrom s p q
    by None is none = absurd (cc none)
    by (Some z) is from = with_one z (p == z.ap) is refl from

-- by each history it can
pub can_roam : (d : Domain) (first : ℕ) (s : State) (h : List Act) (p q : ℕ) → d.akm ≡ FtPsk → Stands d first s h → RoamsFrom s p q → CanRoam d q s.r0kh_id
can_roam d first s h p q suite st r =
    let listed : r.z.ap < length d.aps = (subst (λ (o : Option Session). HasSession d (Sta s.number) o h) r.is st.session_is).listed in
    let holder = subst (λ (o : Option Session). IsHolder o s.r0kh_id h) r.is (st.holder suite) in
    (subst (λ (x : ℕ). x < length d.aps) r.there listed, holder.1)

-- ---- it begins

abbrev pub roaming_acts : Domain → Node → Option Node → ℕ → Root → List ℕ → List Act
roaming_acts d n was p root v = close_pending was ++ Opened (Ap p) ByRoam ∷ Drew (Nonce v) ∷ sent_ft_req d n (Ap p) root v ∷ []

roaming-draws : (d : Domain) (n : Node) (was : Option Node) (p : ℕ) (root : Root) (v : List ℕ) (h : List Act) → draws (add (roaming_acts d n was p root v) h) ≡ suc (draws h)
roaming-draws d n None p root v h = refl
roaming-draws d n (Some q) p root v h = refl

roaming-pending : (d : Domain) (n : Node) (was : Option Node) (p : ℕ) (root : Root) (v : List ℕ) (h : List Act) → pending (add (roaming_acts d n was p root v) h) ≡ Some (Ap p)
roaming-pending d n None p root v h = refl
roaming-pending d n (Some q) p root v h = refl

roaming-associated : (d : Domain) (n : Node) (was : Option Node) (p : ℕ) (root : Root) (v : List ℕ) (h : List Act) → associated (add (roaming_acts d n was p root v) h) ≡ associated h
roaming-associated d n None p root v h = refl
roaming-associated d n (Some q) p root v h = refl

roaming-holder : (d : Domain) (n : Node) (was : Option Node) (p : ℕ) (root : Root) (v : List ℕ) (h : List Act) → last_r0kh_id (add (roaming_acts d n was p root v) h) ≡ last_r0kh_id h
roaming-holder d n None p root v h = refl
roaming-holder d n (Some q) p root v h = refl

roaming-keeps : (d : Domain) (n : Node) (was : Option Node) (p : ℕ) (root : Root) (v : List ℕ) (q : Node) → AllByRecursion (LeavesKept q) (roaming_acts d n was p root v)
roaming-keeps d n was p root v q = by was
  where
    last : AllByRecursion (LeavesKept q) (Opened (Ap p) ByRoam ∷ Drew (Nonce v) ∷ sent_ft_req d n (Ap p) root v ∷ [])
    last = (keeps-opened q (Ap p) ByRoam, (keeps-drew q (Nonce v), (keeps-sent q _ _ _ _, tt)))

    by : (was : Option Node) → AllByRecursion (LeavesKept q) (roaming_acts d n was p root v)
    by None = last
    by (Some r) = (keeps-closed q r _, last)

-- with another access point there is no attempt
roaming-others : (d : Domain) (n : Node) (was : Option Node) (p : ℕ) (root : Root) (v : List ℕ) (h : List Act) (q : ℕ) → same (Ap q) (Ap p) ≡ false → pending h ≡ was → attempt (Ap q) (add (roaming_acts d n was p root v) h) ≡ None
roaming-others d n None p root v h q other none = let nothing = nobody_pending q h none in rw (other, nothing) refl
roaming-others d n (Some r) p root v h q other is = rw other refl

-- sessions go on
mild-closed : (q r : Node) → IsMild q (Closed r OfAttempt)
mild-closed q r = record { opens_none = refl; finishes_none = refl; closes_none = refl; responds_none = refl; third_none = refl; group_none = refl }

asking-mild : (d : Domain) (n : Node) (p : ℕ) (root : Root) (v : List ℕ) (q : Node) → same q (Ap p) ≡ false → AllByRecursion (IsMild q) (roaming_acts d n None p root v)
asking-mild d n p root v q other = (
  record { opens_none = other; finishes_none = refl; closes_none = refl; responds_none = refl; third_none = refl; group_none = refl },
  (
    record { opens_none = refl; finishes_none = refl; closes_none = refl; responds_none = refl; third_none = refl; group_none = refl },
    (record { opens_none = refl; finishes_none = refl; closes_none = refl; responds_none = refl; third_none = refl; group_none = refl }, tt),
  ),
)

roaming-mild : (d : Domain) (n : Node) (was : Option Node) (p : ℕ) (root : Root) (v : List ℕ) (q : Node) → same q (Ap p) ≡ false → AllByRecursion (IsMild q) (roaming_acts d n was p root v)
roaming-mild d n None p root v q other = asking-mild d n p root v q other
roaming-mild d n (Some r) p root v q other = (mild-closed q r, asking-mild d n p root v q other)

asking-leaves : (d : Domain) (n : Node) (p : ℕ) (root : Root) (v : List ℕ) (q : Node) (tk : List ℕ) → AllByRecursion (LeavesPairwise q tk) (roaming_acts d n None p root v)
asking-leaves d n p root v q tk = (record { used = λ h. refl; got = λ t h. refl }, (record { used = λ h. refl; got = λ t h. refl }, (record { used = λ h. refl; got = λ t h. refl }, tt)))

roaming-leaves : (d : Domain) (n : Node) (was : Option Node) (p : ℕ) (root : Root) (v : List ℕ) (q : Node) (tk : List ℕ) → AllByRecursion (LeavesPairwise q tk) (roaming_acts d n was p root v)
roaming-leaves d n None p root v q tk = asking-leaves d n p root v q tk
roaming-leaves d n (Some r) p root v q tk = (record { used = λ h. refl; got = λ t h. refl }, asking-leaves d n p root v q tk)

-- the originator has begun
roaming-began : (d : Domain) (n : Node) (was : Option Node) (p : ℕ) (q : Node) (id v : List ℕ) (o : OriginatorState) (h : List Act) → ((l : List Act) → IsRoaming (Ap p) q id v l → OriginatorStands d n (Ap p) o (sent_ft_req d n (Ap p) (root_at d n id) v ∷ l))
    → associated h ≡ Some q → last_r0kh_id h ≡ id → OriginatorStands d n (Ap p) o (add (roaming_acts d n was p (root_at d n id) v) h)
roaming-began d n was p q id v o h stands from holder = by was
  where
    begun : (l : List Act) → associated l ≡ Some q → last_r0kh_id l ≡ id → IsRoaming (Ap p) q id v (Drew (Nonce v) ∷ Opened (Ap p) ByRoam ∷ l)
    begun l from holder = record { from = from; r0kh_id = holder; part = Drew (Nonce v) ∷ Opened (Ap p) ByRoam ∷ []; is = rw (same-refl (Ap p)) refl; begun = refl; nonce = refl; hears = refl }

    by : (was : Option Node) → OriginatorStands d n (Ap p) o (add (roaming_acts d n was p (root_at d n id) v) h)
    by None = stands (Drew (Nonce v) ∷ Opened (Ap p) ByRoam ∷ h) (begun h from holder)
    by (Some r) = stands (Drew (Nonce v) ∷ Opened (Ap p) ByRoam ∷ Closed r OfAttempt ∷ h) (begun (Closed r OfAttempt ∷ h) from holder)

roaming-silent : (d : Domain) (n : Node) (was : Option Node) (p : ℕ) (root : Root) (v : List ℕ) (h : List Act) → kept_counter (Ap p) (since (Ap p) (add (roaming_acts d n was p root v) h)) ≡ None
roaming-silent d n None p root v h = rw (same-refl (Ap p)) refl
roaming-silent d n (Some r) p root v h = rw (same-refl (Ap p)) refl

abbrev pub roamed_state : State → ℕ → OriginatorState → List (ℕ × Memories) → State
roamed_state s p o memories = record { number = s.number; drawn = s.drawn + 1; attempt = Some (record { ap = p; association = Moving o }); session = s.session; memories = memories; r0kh_id = s.r0kh_id }

stands-roamed : (d : Domain) (first : ℕ) (s : State) (h : List Act) (p q : ℕ) (v : List ℕ) (o : OriginatorState) (memories : List (ℕ × Memories)) → d.akm ≡ FtPsk → Stands d first s h → p < length d.aps → RoamsFrom s p q
    → ((l : List Act) → IsRoaming (Ap p) (Ap q) s.r0kh_id v l → OriginatorStands d (Sta s.number) (Ap p) o (sent_ft_req d (Sta s.number) (Ap p) (root_at d (Sta s.number) s.r0kh_id) v ∷ l)) → ((k : ℕ) → memory_at memories k ≡ memory_at s.memories k)
    → Stands d first (roamed_state s p o memories) (add (roaming_acts d (Sta s.number) (pending h) p (root_at d (Sta s.number) s.r0kh_id) v) h)
stands-roamed d first s h p q v o memories suite st listed r began same_memory =
    let n : Node = Sta s.number in
    let root : Root = root_at d (Sta s.number) s.r0kh_id in
    let g : List Act = roaming_acts d n (pending h) p root v in
    let holder = subst (λ (x : Option Session). IsHolder x s.r0kh_id h) r.is (st.holder suite) in
    let apart : (z : Session) → (p == z.ap) ≡ false → same (Ap z.ap) (Ap p) ≡ false = λ z other. ne_eqb z.ap p (λ e. alike p z.ap other (sym e)) in
    let from : associated h ≡ Some (Ap q) = st.associated_is ∙ ap peer_of_session r.is ∙ ap (λ (x : ℕ). Some (Ap x)) r.there in
    record {
      draws_are = omega (arith, st.draws_are, roaming-draws d n (pending h) p root v h);
      pending_is = roaming-pending d n (pending h) p root v h;
      associated_is = roaming-associated d n (pending h) p root v h ∙ st.associated_is;
      alone = (r.z, r.is, (λ e. alike p r.z.ap r.other (sym e)));
      attempt_is = (listed, record { stands = roaming-began d n (pending h) p (Ap q) s.r0kh_id v o h began from holder.0; keeps = roaming-silent d n (pending h) p root v h });
      session_is = subst (λ (x : Option Session). HasSession d n x (add g h)) (sym r.is) (held d first s h p r.z (pending h) root v suite st r.is refl (apart r.z r.other));
      no_attempt = λ k other. roaming-others d n (pending h) p root v h k (ne_eqb k p (λ e. other (ap (λ (x : ℕ). Some (Ap x)) (sym e)))) refl;
      no_session = λ k other. quiet_session d n (pending h) p root v h (Ap k) ∙ st.no_session k other;
      remembers = λ k. remembers_on (Ap k) (memory_at memories k) g h (roaming-keeps d n (pending h) p root v (Ap k)) (subst (λ (m : Memories). RemembersAll (Ap k) m h) (sym (same_memory k)) (st.remembers k));
      ids = λ k. subst HaveIds (sym (same_memory k)) (st.ids k);
      holder = λ is. holder_on s.session s.r0kh_id h (add g h) (roaming-holder d n (pending h) p root v h) (st.holder is);
    }
  where
    alike : (a b : ℕ) → (a == b) ≡ false → a ≡ b → ⊥
    alike a b other e = cc (other, eq-eqb a b e)

    quiet_session : (d : Domain) (n : Node) (was : Option Node) (p : ℕ) (root : Root) (v : List ℕ) (h : List Act) (k : Node) → session k (add (roaming_acts d n was p root v) h) ≡ session k h
    quiet_session d n None p root v h k = refl
    quiet_session d n (Some r) p root v h k = refl

    held : (d : Domain) (first : ℕ) (s : State) (h : List Act) (p : ℕ) (z : Session) (was : Option Node) (root : Root) (v : List ℕ) → d.akm ≡ FtPsk → Stands d first s h → s.session ≡ Some z → pending h ≡ was → same (Ap z.ap) (Ap p) ≡ false
        → IsIn d (Sta s.number) z.ap z.supplicant z.key (add (roaming_acts d (Sta s.number) was p root v) h)
    held d first s h p z was root v suite st is pends other =
        let place : IsIn d (Sta s.number) z.ap z.supplicant z.key h = subst (λ (x : Option Session). HasSession d (Sta s.number) x h) is st.session_is in
        let g : List Act = roaming_acts d (Sta s.number) was p root v in
        let mild = roaming-mild d (Sta s.number) was p root v (Ap z.ap) other in
        record {
          listed = place.listed;
          stands = supplicant_on d (Sta s.number) (Ap z.ap) z.supplicant g h mild (nothing_with d first s h z suite st is) (roaming-others d (Sta s.number) was p root v h z.ap other pends) place.stands;
          keyed = keyed_on (Ap z.ap) z.key g h mild (λ tk. roaming-leaves d (Sta s.number) was p root v (Ap z.ap) tk) place.keyed;
        }

roaming-done : (d : Domain) (n : Node) (was : Option Node) (p : ℕ) (root : Root) (v : List ℕ) → Done ≡ outcome_of (roaming_acts d n was p root v)
roaming-done d n None p root v = refl
roaming-done d n (Some q) p root v = refl

roaming-waits : (d : Domain) (n : Node) (was : Option Node) (p : ℕ) (root : Root) (v : List ℕ) (waited : List Act)
    → ((waited ++ close_pending was) ++ Opened (Ap p) ByRoam ∷ Drew (Nonce v) ∷ []) ++ sent_ft_req d n (Ap p) root v ∷ [] ≡ waited ++ roaming_acts d n was p root v
roaming-waits d n None p root v waited = simp append_assoc
roaming-waits d n (Some q) p root v waited = simp append_assoc

pub steps-roamed : (d : Domain) (first : ℕ) (s : State) (h : List Act) (p q : ℕ) (v : List ℕ) (o : OriginatorState) (memories : List (ℕ × Memories)) (waited : List Act) → d.akm ≡ FtPsk → Stands d first s h → p < length d.aps → RoamsFrom s p q
    → v ≡ nonce d (Sta s.number) s.drawn
    → ((l : List Act) → IsRoaming (Ap p) (Ap q) s.r0kh_id v l → OriginatorStands d (Sta s.number) (Ap p) o (sent_ft_req d (Sta s.number) (Ap p) (root_at d (Sta s.number) s.r0kh_id) v ∷ l)) → ((k : ℕ) → memory_at memories k ≡ memory_at s.memories k)
    → Steps (here d first (Sta s.number)) (Roam p) (Stands d first (roamed_state s p o memories)) h
    (seen waited (((waited ++ close_pending (peer_of_attempt s.attempt)) ++ Opened (Ap p) ByRoam ∷ Drew (Nonce v) ∷ []) ++ sent_ft_req d (Sta s.number) (Ap p) (root_at d (Sta s.number) s.r0kh_id) v ∷ []) Done)
steps-roamed d first s h p q v o memories waited suite st listed r v_is began same_memory =
    let n : Node = Sta s.number in
    let holder = subst (λ (x : Option Session). IsHolder x s.r0kh_id h) r.is (st.holder suite) in
    record {
      acts = roaming_acts d n (pending h) p (root_at d (Sta s.number) s.r0kh_id) v;
      adds = station_adds d first s.number h (Roam p) (roaming_acts d n (pending h) p (root_at d (Sta s.number) s.r0kh_id) v)
          (Asks suite (Ap r.z.ap) (st.associated_is ∙ ap peer_of_session r.is) r.other (subst (λ (m : ℕ). m < draw_end) st.draws_are r.early)
          (ap (λ (x : List ℕ). roaming_acts d n (pending h) p (root_at d (Sta s.number) s.r0kh_id) x) (v_is ∙ ap (nonce d n) st.draws_are) ∙ ap (λ (id : List ℕ). roaming_acts d n (pending h) p (root_at d n id) (nonce d n (first + draws h))) (sym holder.0)));
      waiting = rw (plain_pending d first s h suite st) (roaming-waits d n (peer_of_attempt s.attempt) p (root_at d (Sta s.number) s.r0kh_id) v waited);
      came = roaming-done d n (pending h) p (root_at d (Sta s.number) s.r0kh_id) v;
      stands = stands-roamed d first s h p q v o memories suite st listed r began same_memory;
    }

-- ---- by what the code did

pub taken-roams_not : (d : Domain) (s : State) (p : ℕ) (w : Why) (waited waits : List Act) → roams_from s.session p s.drawn ≡ Err w → waits ≡ waited ++ Idle w ∷ [] → IsTaken d (Roam p) (turn s s waited waits) (IdleBy w)
taken-roams_not d s p w waited waits from is = record {
  number = refl;
  steps = λ first h st. subst (λ (l : List Act). Steps (here d first (Sta s.number)) (Roam p) (Stands d first s) h (seen waited l (IdleBy w))) (sym is) (steps-roams_not d first s h p w waited st from);
  refused = λ y e. cc;
}

-- by each history that the station stands for, it can
pub taken-cannot : (d : Domain) (s : State) (p q : ℕ) (waited waits : List Act) → d.akm ≡ FtPsk → roams_from s.session p s.drawn ≡ Ok q → (CanRoam d q s.r0kh_id → ⊥) → IsTaken d (Roam p) (turn s s waited waits) (IdleBy why.NoSession)
taken-cannot d s p q waited waits suite from cannot = record {
  number = refl;
  steps = λ first h st. absurd (cannot (can_roam d first s h p q suite st (roams_from_is s p q from)));
  refused = λ y e. cc;
}

pub taken-roamed : (d : Domain) (s new : State) (p q : ℕ) (v : List ℕ) (o : OriginatorState) (r : Reply) (memories : List (ℕ × Memories)) (waited closed opened waits : List Act) → d.akm ≡ FtPsk → p < length d.aps → roams_from s.session p s.drawn ≡ Ok q
    → v ≡ nonce d (Sta s.number) s.drawn → IsBegun d (Sta s.number) (Ap p) (Ap q) s.r0kh_id v o r → ((k : ℕ) → memory_at memories k ≡ memory_at s.memories k) → new ≡ roamed_state s p o memories
    → closed ≡ waited ++ close_pending (peer_of_attempt s.attempt) → opened ≡ closed ++ Opened (Ap p) ByRoam ∷ Drew (Nonce v) ∷ [] → waits ≡ opened ++ transition_sent d (Sta s.number) (Ap p) r
    → IsTaken d (Roam p) (turn s new waited waits) Done
taken-roamed d s new p q v o r memories waited closed opened waits suite listed from v_is begun same_memory new_is closes opens sends =
    let n : Node = Sta s.number in
    let sent : Act = sent_ft_req d n (Ap p) (root_at d (Sta s.number) s.r0kh_id) v in
    let all : waits ≡ ((waited ++ close_pending (peer_of_attempt s.attempt)) ++ Opened (Ap p) ByRoam ∷ Drew (Nonce v) ∷ []) ++ sent ∷ [] =
    sends ∙ ap (λ (l : List Act). opened ++ l) begun.sends ∙ ap (λ (l : List Act). l ++ sent ∷ []) (opens ∙ ap (λ (l : List Act). l ++ Opened (Ap p) ByRoam ∷ Drew (Nonce v) ∷ []) closes) in
    record {
      number = ap (λ (t : State). t.number) new_is;
      steps = λ first h st. subst (λ (t : State). Steps (here d first n) (Roam p) (Stands d first t) h (seen waited waits Done)) (sym new_is)
          (subst (λ (l : List Act). Steps (here d first n) (Roam p) (Stands d first (roamed_state s p o memories)) h (seen waited l Done)) (sym all)
          (steps-roamed d first s h p q v o memories waited suite st listed (roams_from_is s p q from) v_is begun.stands same_memory));
      refused = λ y e. cc;
    }

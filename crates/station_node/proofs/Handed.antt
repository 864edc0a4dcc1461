-- What a station stands for behind a message that it handed to a supplicant.
use Rattle.std.proofs.Common.{◌≡◌, ◌≢◌, inl, inr, ℕ, ◌≤◌, Bool, cond, List, [], ◌∷◌, ◌++◌, length, Option, Some, None, refl, sym, ap, subst, ◌∙◌, arith}
use Rattle.std.specs.Prelude.{is_some, ◌&&◌, option_map, option_and_then}
use Rattle.std.specs.List.{AllByRecursion}
use Rattle.std.proofs.lemmas.Bool.{ne_eqb}
use Rattle.std.proofs.lemmas.Bool.Decides.{eqb_tells}
use Rattle.domain_base.specs.declared.names.Akm.{Akm}
use Rattle.domain_base.specs.declared.names.Akm.TheVariants.{FtPsk}
use Rattle.domain_base.specs.declared.names.Node.{Node}
use Rattle.domain_base.specs.declared.names.Node.TheVariants.{Ap, Sta}
use Rattle.run_journal.specs.declared.acts.GroupKind.TheVariants as groups
use Rattle.run_journal.specs.declared.domain.Domain.{Domain}
use Rattle.key_hierarchy.specs.Sizes.{IsR0khId}
use Rattle.run_journal.specs.declared.acts.Kind.TheVariants as kind
use Rattle.run_journal.specs.declared.acts.Act.{Act}
use Rattle.run_journal.specs.declared.acts.Act.TheVariants.{Took, Finished}
use Rattle.run_journal.specs.declared.reply.Reply.{Reply}
use Rattle.run_journal.specs.declared.reply.Keyed.{Keyed}
use Rattle.run_journal.specs.Acts.{Derivation}
use Rattle.run_journal.specs.Questions.{or_else, also, attempt, session, pending, add}
use Rattle.run_journal.specs.Holders.{last_r0kh_id}
use Rattle.domain_rules.specs.Here.{here}
use Rattle.domain_rules.specs.Network.{Root, root_by, root_at, station_of}
use Rattle.domain_rules.specs.Frames.{frame_seal}
use Rattle.domain_rules.specs.Replies.{Taken, reply_acts, key_by, inputs_by, derived_acts, replaced_acts, installed_acts, group_acts, finished_acts, sent_acts}
use Rattle.domain_rules.proofs.Parts.{add_append, attempt_goes}
use Rattle.node_base.specs.Pairs.{pair_at}
use Rattle.ccmp_guard.specs.Held.{Held}
use Rattle.data_frames.specs.Holding.{LeavesPairwise, fresh_key}
use Rattle.data_frames.proofs.Standing.{others}
use Rattle.data_frames.proofs.RepliedKeys.{replied_leaves, replied_holds}
use Rattle.group_key.specs.Keys.{Memories}
use Rattle.group_key.specs.Holds.{RemembersAll}
use Rattle.act_memory.proofs.RepliedActs.{IsAbout, replied_about, about_draws, about_no_attempt, about_session, about_remembers}
use Rattle.act_memory.proofs.RepliedActs.{EndsNone, replied_ends, sent_ends, ends_pending, ends_associated, ends_session, IsEnd, replied_end, end_pending, end_associated}
use Rattle.supplicant.specs.State.{State as Supplicant, both, is_renewing}
use Rattle.supplicant.specs.declared.attempt.Attempt.{Attempt as SupplicantAttempt}
use Rattle.supplicant.specs.declared.base.Base.{Base}
use Rattle.supplicant.specs.Held.{key_in}
use Rattle.supplicant.specs.declared.session.Session.{Session as SupplicantSession}
use Rattle.supplicant.specs.declared.session.Session.TheVariants.{Connect, Ft}
use Rattle.supplicant.specs.Stands.{SupplicantStands, IsHeld, HasAttempt as HasSupplicantAttempt, HasSession as HasSupplicantSession}
use Rattle.supplicant.specs.Steps.{SupplicantSteps, IsUnder}
use Rattle.station_node.specs.declared.attempt.Attempt.{Attempt}
use Rattle.station_node.specs.declared.attempt.Association.{Association}
use Rattle.station_node.specs.declared.attempt.Association.TheVariants.{Requested, Accepted, Moving}
use Rattle.station_node.specs.declared.session.Session.{Session}
use Rattle.station_node.specs.State.{State, memory_at}
use Rattle.station_node.specs.Parts.{peer_of_attempt, peer_of_session, peer_of_renewal, peer_pending, IsElsewhere, IsBeside, IsAlone}
use Rattle.station_node.specs.Stands.{Stands, NamesHolder, IsHolder, HasAssociation, HasAttempt, HasSession, IsKeyed, HaveIds}
use Rattle.station_node.proofs.Underway.{IsBesideMove, moving_on, ends_holder, beside_all}
use Rattle.station_node.proofs.Standing.{nobody, nobody_pending, not_here, no_session_accepted, accepted_is, nothing_with, not_renewing, beside_by, beside_again, holder_on, held_is}

-- ---- the memories

-- the group keys of that access point were changed at most
pub record IsOnly (a : ℕ) (had has : List (ℕ × Memories)) : Type 0 where
  pub others : (k : ℕ) → k ≢ a → memory_at has k ≡ memory_at had k

remembers-handed : (p a : ℕ) (had has : List (ℕ × Memories)) (g h : List Act) → AllByRecursion (IsAbout (Ap a)) g → IsOnly a had has → RemembersAll (Ap a) (memory_at has a) (add g h) → RemembersAll (Ap p) (memory_at had p) h
    → RemembersAll (Ap p) (memory_at has p) (add g h)
remembers-handed p a had has g h about only here was = elim (eqb_tells p a) [
  | inl same_ap ↦ subst (λ (x : ℕ). RemembersAll (Ap x) (memory_at has x) (add g h)) (sym same_ap.1) here
  | inr other ↦ subst (λ (ks : Memories). RemembersAll (Ap p) ks (add g h)) (sym (only.others p other.1)) (about_remembers (Ap a) (Ap p) (memory_at had p) g h (ne_eqb p a other.1) about was)
]

ids-handed : (p a : ℕ) (had has : List (ℕ × Memories)) → IsOnly a had has → HaveIds (memory_at has a) → HaveIds (memory_at had p) → HaveIds (memory_at has p)
ids-handed p a had has only here was = elim (eqb_tells p a) [
  | inl same_ap ↦ subst (λ (x : ℕ). HaveIds (memory_at has x)) (sym same_ap.1) here
  | inr other ↦ subst HaveIds (sym (only.others p other.1)) was
]

-- ---- the acts

-- they are about that access point
pub record AreAbout (a : ℕ) (g h : List Act) : Type 0 where
  pub about : AllByRecursion (IsAbout (Ap a)) g
  -- a session with another stays
  pub others : (p : ℕ) → IsElsewhere (Some (Ap a)) p → session (Ap p) (add g h) ≡ session (Ap p) h
  -- no attempt begins
  pub none : (p : ℕ) → attempt (Ap p) h ≡ None → attempt (Ap p) (add g h) ≡ None

pub are_about : (a : ℕ) (g h : List Act) → AllByRecursion (IsAbout (Ap a)) g → AreAbout a g h
are_about a g h about = record {
  about = about;
  others = λ p other. about_session (Ap a) (Ap p) g h (ne_eqb p a (λ e. other (ap (λ (x : ℕ). Some (Ap x)) (sym e)))) about;
  none = λ p none. about_no_attempt (Ap a) (Ap p) g h about none;
}

-- those of a message, by the R0KH-ID that its keys go back to, and whether there was a session
abbrev pub told_acts : Domain → List ℕ → Node → ℕ → Bool → Taken → Reply → List Act
told_acts d id n a had t r = reply_acts (pair_at d id n (Ap a)) had t r

pub told_about : (d : Domain) (id : List ℕ) (n : Node) (a : ℕ) (had : Bool) (t : Taken) (r : Reply) (h : List Act) → AreAbout a (told_acts d id n a had t r) h
told_about d id n a had t r h = are_about a (told_acts d id n a had t r) h (replied_about d (root_at d (station_of n (Ap a)) id) n (Ap a) had t.octets t.message t.outcome r)

-- and tell of nothing that was installed, or that the attempt became a session
pub told_ends : (d : Domain) (id : List ℕ) (n : Node) (a : ℕ) (had : Bool) (t : Taken) (r : Reply) → r.installed ≡ None → AllByRecursion EndsNone (told_acts d id n a had t r)
told_ends d id n a had t r none = replied_ends d (root_at d (station_of n (Ap a)) id) n (Ap a) had t.octets t.message t.outcome r none

told_end : (d : Domain) (id : List ℕ) (n : Node) (a : ℕ) (had : Bool) (t : Taken) (r : Reply) (y : Keyed) (h : List Act) → r.installed ≡ Some y → IsEnd (Ap a) h (add (told_acts d id n a had t r) h)
told_end d id n a had t r y h some = replied_end d (root_at d (station_of n (Ap a)) id) n (Ap a) had t.octets t.message t.outcome r y h some

-- the R0KH-ID of the key that was installed is the last one
told_holder : (d : Domain) (id : List ℕ) (sta a : ℕ) (had : Bool) (t : Taken) (r : Reply) (y : Keyed) (h : List Act) → d.akm ≡ FtPsk → r.installed ≡ Some y → last_r0kh_id (add (told_acts d id (Sta sta) a had t r) h) ≡ id
told_holder d id sta a had t r y h suite some =
    let p : Node = Ap a in
    let root : Root = root_at d (Sta sta) id in
    let took : Act = Took (Some p) t.octets (kind.Key t.message.message) t.outcome (option_map (λ (kck : List ℕ). frame_seal kck t.message.octets) r.verified) in
    let front : Option Keyed → List Act = λ x. (((derived_acts d root (Sta sta) p r.derived ++ replaced_acts p had x) ++ installed_acts d root (Sta sta) p x) ++ group_acts groups.Gtk d p r.gtk) ++ group_acts groups.Igtk d p r.igtk in
    let l : List Act = add (front (Some y)) (took ∷ h) in
    let last : Act = Finished p (inputs_by d root (Sta sta) p y) in
    ap (λ (x : Option Keyed). last_r0kh_id (add ((front x ++ finished_acts d root (Sta sta) p x) ++ sent_acts p r) (took ∷ h))) some
    ∙ ap (λ (w : List Act). last_r0kh_id w) (add_append (front (Some y) ++ last ∷ []) (sent_acts p r) (took ∷ h) ∙ ap (add (sent_acts p r)) (add_append (front (Some y)) (last ∷ []) (took ∷ h)))
    ∙ ends_holder (sent_acts p r) (last ∷ l) (sent_ends p r)
    ∙ ap (λ (x : Akm). (root_by x d (Sta sta) id).r0kh_id) suite

-- ---- in an attempt

abbrev pub tried_state : State → ℕ → Supplicant → List (ℕ × Memories) → State
tried_state s a x memories = record { number = s.number; drawn = s.drawn; attempt = Some (record { ap = a; association = Accepted x }); session = s.session; memories = memories; r0kh_id = s.r0kh_id }

-- what the supplicant's attempts go back to stays
same_names : (d : Domain) (old new : Supplicant) → new.base ≡ old.base → NamesHolder d old.base.r0kh_id → NamesHolder d new.base.r0kh_id
same_names d old new same names = subst (λ (b : Base). NamesHolder d b.r0kh_id) (sym same) names

-- that goes on
pub stands-tried : (d : Domain) (first : ℕ) (s : State) (h : List Act) (a : ℕ) (had : Bool) (t : Taken) (r : Reply) (old new : Supplicant) (has : List (ℕ × Memories))
    → Stands d first s h → s.attempt ≡ Some (record { ap = a; association = Accepted old }) → new.base ≡ old.base → r.installed ≡ None → IsOnly a s.memories has → HaveIds (memory_at has a)
    → SupplicantSteps (here d first (Sta s.number)) (Ap a) had t (both new (memory_at has a)) r h
    → Stands d first (tried_state s a new has) (add (told_acts d new.base.r0kh_id (Sta s.number) a had t r) h)
stands-tried d first s h a had t r old new has st is same none only ids steps =
    let g : List Act = told_acts d new.base.r0kh_id (Sta s.number) a had t r in
    let x : AreAbout a g h = told_about d new.base.r0kh_id (Sta s.number) a had t r h in
    let ends : AllByRecursion EndsNone g = told_ends d new.base.r0kh_id (Sta s.number) a had t r none in
    let alone = no_session_accepted d first s h a old st is in
    let place = accepted_is d first s h a old st is in
    record {
      draws_are = omega (arith, st.draws_are, about_draws (Ap a) g h x.about);
      pending_is = ends_pending g h ends ∙ st.pending_is ∙ ap (λ (o : Option Attempt). peer_pending o s.session) is;
      associated_is = ends_associated g h ends ∙ st.associated_is;
      alone = alone;
      attempt_is = (place.0, record { stands = steps.stands; names = same_names d old new same place.1.names });
      session_is = subst (λ (o : Option Session). HasSession d (Sta s.number) o (add g h)) (sym alone) tt;
      no_attempt = λ p other. x.none p (st.no_attempt p (λ e. other (sym (ap (λ (o : Option Attempt). peer_pending o s.session) is) ∙ e)));
      no_session = λ p other. ends_session (Ap p) g h ends ∙ st.no_session p other;
      remembers = λ p. remembers-handed p a s.memories has g h x.about only steps.remembers (st.remembers p);
      ids = λ p. ids-handed p a s.memories has only ids (st.ids p);
      holder = λ suite. holder_on s.session s.r0kh_id h (add g h) (ends_holder g h ends) (st.holder suite);
    }

-- the key that a message installed is in use behind it
keyed_finished : (d : Domain) (n : Node) (a : ℕ) (had : Bool) (t : Taken) (r : Reply) (y : Keyed) (new : Supplicant) (h : List Act) → r.installed ≡ Some y
    → SupplicantStands d n (Ap a) new (add (told_acts d new.base.r0kh_id n a had t r) h) → IsUnder (Ap a) h r.installed new → IsKeyed (Ap a) (fresh_key y.ptk.tk) (add (told_acts d new.base.r0kh_id n a had t r) h)
keyed_finished d n a had t r y new h some st under =
    let l : List Act = add (told_acts d new.base.r0kh_id n a had t r) h in
    let same : option_and_then key_in new.session ≡ Some y = (subst (λ (o : Option Keyed). IsUnder (Ap a) h o new) some under).2 in
    let x = session_there new.session y same in
    let held : IsHeld d n (Ap a) new.base y x.0 l = subst (λ (o : Option SupplicantSession). HasSupplicantSession d n (Ap a) new.base o l) x.1 st.session_is in
    record {
      key = key_by d (root_at d (station_of n (Ap a)) new.base.r0kh_id) n (Ap a) y;
      is = held.is;
      holds = replied_holds d (root_at d (station_of n (Ap a)) new.base.r0kh_id) n (Ap a) had t.octets t.message t.outcome r y h some;
    }
  where
    connected : (x : SupplicantSession) (y : Keyed) → key_in x ≡ Some y → (counter : ℕ) × (x ≡ Connect y counter)
    connected (Connect key counter) y same = (counter, ap (λ (k : Keyed). Connect k counter) (cc same))
    connected (Ft ptk counter) y same = absurd (cc same)

    session_there : (o : Option SupplicantSession) (y : Keyed) → option_and_then key_in o ≡ Some y → (counter : ℕ) × (o ≡ Some (Connect y counter))
    session_there None y same = absurd (cc same)
    session_there (Some x) y same = let c = connected x y same in (c.0, ap (λ (z : SupplicantSession). Some z) c.1)

-- and where none was installed the one before
pub keyed_stays : (n : Node) (a : ℕ) (k : Held) (g h : List Act) → AllByRecursion EndsNone g → ((tk : List ℕ) → AllByRecursion (LeavesPairwise (Ap a) tk) g) → IsKeyed (Ap a) k h → IsKeyed (Ap a) k (add g h)
keyed_stays n a k g h ends leaves st = record {
  key = st.key;
  is = ends_session (Ap a) g h ends ∙ st.is;
  holds = others (Ap a) st.key.ptk.tk k g h st.holds (leaves st.key.ptk.tk);
}

abbrev pub finished_state : State → ℕ → Supplicant → List ℕ → List ℕ → List (ℕ × Memories) → State
finished_state s a x tk id memories = record { number = s.number; drawn = s.drawn; attempt = None; session = Some (record { ap = a; supplicant = x; key = fresh_key tk }); memories = memories; r0kh_id = id }

-- that becomes a session
pub stands-finished : (d : Domain) (first : ℕ) (s : State) (h : List Act) (a : ℕ) (had : Bool) (t : Taken) (r : Reply) (y : Keyed) (old new : Supplicant) (id : List ℕ) (has : List (ℕ × Memories))
    → Stands d first s h → s.attempt ≡ Some (record { ap = a; association = Accepted old }) → new.base ≡ old.base → (length new.base.r0kh_id ≤ 48 → id ≡ new.base.r0kh_id) → r.installed ≡ Some y → IsOnly a s.memories has
    → HaveIds (memory_at has a) → SupplicantSteps (here d first (Sta s.number)) (Ap a) had t (both new (memory_at has a)) r h
    → Stands d first (finished_state s a new y.ptk.tk id has) (add (told_acts d new.base.r0kh_id (Sta s.number) a had t r) h)
stands-finished d first s h a had t r y old new id has st is same kept some only ids steps =
    let g : List Act = told_acts d new.base.r0kh_id (Sta s.number) a had t r in
    let x : AreAbout a g h = told_about d new.base.r0kh_id (Sta s.number) a had t r h in
    let end : IsEnd (Ap a) h (add g h) = told_end d new.base.r0kh_id (Sta s.number) a had t r y h some in
    let over : new.attempt ≡ None = (subst (λ (o : Option Keyed). IsUnder (Ap a) h o new) some steps.under).1 in
    let alone = no_session_accepted d first s h a old st is in
    let place = accepted_is d first s h a old st is in
    let nobody_left : pending (add g h) ≡ None = end_pending (Ap a) h (add g h) end in
    record {
      draws_are = omega (arith, st.draws_are, about_draws (Ap a) g h x.about);
      pending_is = nobody_left ∙ sym (not_renewing new a (fresh_key y.ptk.tk) over);
      associated_is = end_associated (Ap a) h (add g h) end;
      alone = tt;
      attempt_is = tt;
      session_is = record { listed = place.0; stands = steps.stands; keyed = keyed_finished d (Sta s.number) a had t r y new h some steps.stands steps.under };
      no_attempt = λ p other. nobody_pending p (add g h) nobody_left;
      no_session = λ p other. x.others p other ∙ st.no_session p (nobody (peer_of_session s.session) p (ap peer_of_session alone));
      remembers = λ p. remembers-handed p a s.memories has g h x.about only steps.remembers (st.remembers p);
      ids = λ p. ids-handed p a s.memories has only ids (st.ids p);
      holder = λ suite. (let sized = same_names d old new same place.1.names suite in
          (told_holder d new.base.r0kh_id s.number a had t r y h suite some ∙ sym (kept sized.most), subst IsR0khId (sym (kept sized.most)) sized));
    }

-- ---- in a session

abbrev pub held_state : State → ℕ → Supplicant → Held → List (ℕ × Memories) → State
held_state s a x k memories = record { number = s.number; drawn = s.drawn; attempt = s.attempt; session = Some (record { ap = a; supplicant = x; key = k }); memories = memories; r0kh_id = s.r0kh_id }

-- the attempt beside it, which is with another access point, goes on
pub attempt_beside : (d : Domain) (n : Node) (o : Option Attempt) (x : Option Session) (z : Session) (g h : List Act) → x ≡ Some z → IsAlone o x → ((p : ℕ) → p ≢ z.ap → AllByRecursion (IsBesideMove (Ap p)) g) → HasAttempt d n o h → HasAttempt d n o (add g h)
attempt_beside d n None x z g h is alone beside st = tt
attempt_beside d n (Some a) x z g h is alone beside st = (st.0, by a.association alone st.1)
  where
    by : (y : Association) → IsBeside a.ap y x → HasAssociation d n a.ap y h → HasAssociation d n a.ap y (add g h)
    by (Requested v) none has = absurd (cc (none, is))
    by (Accepted s) none has = absurd (cc (none, is))
    by (Moving o) b has =
        let one : b.0 ≡ z = cc (b.1, is) in
        moving_on d n a.ap o g h (beside a.ap (λ e. b.2 (ap (λ (w : Session). w.ap) one ∙ sym e))) has

-- ---- whether the key of the session is being renewed

tried_some : (d : Domain) (n p : Node) (b : Base) (o : Option SupplicantAttempt) (x : Option SupplicantSession) (h : List Act) → HasSupplicantAttempt d n p b x o h → is_some o ≡ is_some (attempt p h)
tried_some d n p b None x h none = sym (ap (λ (l : Option (List Act)). is_some l) none)
tried_some d n p b (Some o) None h u = sym (ap (λ (l : Option (List Act)). is_some l) u.is)
tried_some d n p b (Some o) (Some z) h u = sym (ap (λ (l : Option (List Act)). is_some l) u.is)

held_some : (d : Domain) (n p : Node) (b : Base) (x : Option SupplicantSession) (h : List Act) → HasSupplicantSession d n p b x h → is_some x ≡ is_some (session p h)
held_some d n p b None h none = sym (ap (λ (y : Option Derivation). is_some y) none)
held_some d n p b (Some (Connect key counter)) h l = sym (ap (λ (y : Option Derivation). is_some y) l.is)
held_some d n p b (Some (Ft ptk counter)) h l = sym (ap (λ (y : Option Derivation). is_some y) l.is)

-- as the history says
pub renewing_by : (d : Domain) (n p : Node) (x : Supplicant) (h : List Act) → SupplicantStands d n p x h → is_renewing x ≡ (is_some (attempt p h) && is_some (session p h))
renewing_by d n p x h st =
    ap (λ (c : Bool). c && is_some x.session) (tried_some d n p x.base x.attempt x.session h st.attempt_is)
    ∙ ap (λ (c : Bool). is_some (attempt p h) && c) (held_some d n p x.base x.session h st.session_is)

also_some : (e : Act) (o : Option (List Act)) → is_some (also e o) ≡ is_some o
also_some e None = refl
also_some e (Some part) = refl

pub attempt_some_on : (a p : Node) (g h : List Act) → AllByRecursion (IsAbout a) g → AllByRecursion EndsNone g → is_some (attempt p (add g h)) ≡ is_some (attempt p h)
attempt_some_on a p [] h about ends = refl
attempt_some_on a p (e ∷ g) h about ends =
    attempt_some_on a p g (e ∷ h) about.1 ends.1
    ∙ ap (λ (l : Option (List Act)). is_some l) (attempt_goes p e h (about.0.opens_none p) (ends.0.ends_none p)) ∙ also_some e (attempt p h)

-- by acts that end nothing it stays
same_renewal : (d : Domain) (n : Node) (a : ℕ) (old new : Supplicant) (k m : Held) (g h : List Act) → AllByRecursion (IsAbout (Ap a)) g → AllByRecursion EndsNone g → SupplicantStands d n (Ap a) old h → SupplicantStands d n (Ap a) new (add g h)
    → peer_of_renewal (Some (record { ap = a; supplicant = old; key = k })) ≡ peer_of_renewal (Some (record { ap = a; supplicant = new; key = m }))
same_renewal d n a old new k m g h about ends was is =
    let same : is_renewing old ≡ is_renewing new = renewing_by d n (Ap a) old h was ∙ ap (λ (c : Bool). c && is_some (session (Ap a) h)) (sym (attempt_some_on (Ap a) (Ap a) g h about ends))
    ∙ ap (λ (y : Option Derivation). is_some (attempt (Ap a) (add g h)) && is_some y) (sym (ends_session (Ap a) g h ends)) ∙ sym (renewing_by d n (Ap a) new (add g h) is) in
    ap (λ (c : Bool). cond c (Some (Ap a)) None) same

-- ---- a message that installs nothing

pub stands-held : (d : Domain) (first : ℕ) (s : State) (h : List Act) (a : ℕ) (had : Bool) (t : Taken) (r : Reply) (old new : Supplicant) (k : Held) (has : List (ℕ × Memories))
    → Stands d first s h → s.session ≡ Some (record { ap = a; supplicant = old; key = k }) → r.installed ≡ None → IsOnly a s.memories has → HaveIds (memory_at has a)
    → SupplicantStands d (Sta s.number) (Ap a) new (add (told_acts d new.base.r0kh_id (Sta s.number) a had t r) h) → RemembersAll (Ap a) (memory_at has a) (add (told_acts d new.base.r0kh_id (Sta s.number) a had t r) h)
    → Stands d first (held_state s a new k has) (add (told_acts d new.base.r0kh_id (Sta s.number) a had t r) h)
stands-held d first s h a had t r old new k has st is none only ids stands remembers =
    let g : List Act = told_acts d new.base.r0kh_id (Sta s.number) a had t r in
    let z : Session = record { ap = a; supplicant = old; key = k } in
    let x : AreAbout a g h = told_about d new.base.r0kh_id (Sta s.number) a had t r h in
    let ends : AllByRecursion EndsNone g = told_ends d new.base.r0kh_id (Sta s.number) a had t r none in
    let place = held_is d first s h a old k st is in
    let same : peer_pending s.attempt s.session ≡ peer_pending s.attempt (Some (record { ap = a; supplicant = new; key = k })) =
    ap (peer_pending s.attempt) is ∙ ap (or_else (peer_of_attempt s.attempt)) (same_renewal d (Sta s.number) a old new k k g h x.about ends place.stands stands) in
    record {
      draws_are = omega (arith, st.draws_are, about_draws (Ap a) g h x.about);
      pending_is = ends_pending g h ends ∙ st.pending_is ∙ same;
      associated_is = ends_associated g h ends ∙ st.associated_is ∙ ap peer_of_session is;
      alone = beside_again s.attempt s.session z (record { ap = a; supplicant = new; key = k }) is refl st.alone;
      attempt_is = attempt_beside d (Sta s.number) s.attempt s.session z g h is st.alone (λ p other. beside_all (Ap p) (Ap a) g (ne_eqb p a other) x.about ends) st.attempt_is;
      session_is = record {
        listed = place.listed;
        stands = stands;
        keyed = keyed_stays (Sta s.number) a k g h ends (λ tk. replied_leaves d (root_at d (Sta s.number) new.base.r0kh_id) (Sta s.number) (Ap a) (Ap a) tk had t.octets t.message t.outcome r none) place.keyed;
      };
      no_attempt = λ p other. x.none p (st.no_attempt p (λ e. other (sym same ∙ e)));
      no_session = λ p other. x.others p other ∙ st.no_session p (λ e. other (sym (ap peer_of_session is) ∙ e));
      remembers = λ p. remembers-handed p a s.memories has g h x.about only remembers (st.remembers p);
      ids = λ p. ids-handed p a s.memories has only ids (st.ids p);
      holder = λ suite. (let held = subst (λ (o : Option Session). IsHolder o s.r0kh_id h) is (st.holder suite) in (ends_holder g h ends ∙ held.0, held.1));
    }

-- ---- M3 of an attempt that renews the key of the session

-- no other attempt is under way then
none_own : (d : Domain) (first : ℕ) (s : State) (h : List Act) (z : Session) → Stands d first s h → s.session ≡ Some z → (attempt (Ap z.ap) h ≡ None → ⊥) → s.attempt ≡ None
none_own d first s h z st is some = by s.attempt refl st.alone
  where
    elsewhere : (o : Option Attempt) (a : Attempt) → o ≡ Some a → (z.ap ≡ a.ap → ⊥) → IsElsewhere (peer_pending o s.session) z.ap
    elsewhere o a is other = subst (λ (y : Option Attempt). IsElsewhere (peer_pending y s.session) z.ap) (sym is) (not_here a.ap z.ap (λ e. other (sym e)))

    by : (o : Option Attempt) → s.attempt ≡ o → IsAlone o s.session → o ≡ None
    by None there alone = refl
    by (Some a) there alone = absurd (some (st.no_attempt z.ap (elsewhere s.attempt a there (beside_by a a.association s.session z refl is alone).0)))

-- the new key takes the place of the old one
pub stands-renewed : (d : Domain) (first : ℕ) (s : State) (h : List Act) (a : ℕ) (had : Bool) (t : Taken) (r : Reply) (y : Keyed) (old new : Supplicant) (k : Held) (has : List (ℕ × Memories))
    → Stands d first s h → s.session ≡ Some (record { ap = a; supplicant = old; key = k }) → r.installed ≡ Some y → IsOnly a s.memories has → HaveIds (memory_at has a)
    → SupplicantSteps (here d first (Sta s.number)) (Ap a) had t (both new (memory_at has a)) r h
    → Stands d first (held_state s a new (fresh_key y.ptk.tk) has) (add (told_acts d new.base.r0kh_id (Sta s.number) a had t r) h)
stands-renewed d first s h a had t r y old new k has st is some only ids steps =
    let g : List Act = told_acts d new.base.r0kh_id (Sta s.number) a had t r in
    let z : Session = record { ap = a; supplicant = old; key = k } in
    let w : Session = record { ap = a; supplicant = new; key = fresh_key y.ptk.tk } in
    let x : AreAbout a g h = told_about d new.base.r0kh_id (Sta s.number) a had t r h in
    let end : IsEnd (Ap a) h (add g h) = told_end d new.base.r0kh_id (Sta s.number) a had t r y h some in
    let under = subst (λ (o : Option Keyed). IsUnder (Ap a) h o new) some steps.under in
    let nobody_left : pending (add g h) ≡ None = end_pending (Ap a) h (add g h) end in
    let own : s.attempt ≡ None = none_own d first s h z st is under.0 in
    let place = held_is d first s h a old k st is in
    record {
      draws_are = omega (arith, st.draws_are, about_draws (Ap a) g h x.about);
      pending_is = nobody_left ∙ sym (ap (λ (o : Option Attempt). peer_pending o (Some w)) own ∙ not_renewing new a (fresh_key y.ptk.tk) under.1);
      associated_is = end_associated (Ap a) h (add g h) end;
      alone = beside_again s.attempt s.session z w is refl st.alone;
      attempt_is = subst (λ (o : Option Attempt). HasAttempt d (Sta s.number) o (add g h)) (sym own) tt;
      session_is = record { listed = place.listed; stands = steps.stands; keyed = keyed_finished d (Sta s.number) a had t r y new h some steps.stands steps.under };
      no_attempt = λ p other. nobody_pending p (add g h) nobody_left;
      no_session = λ p other. x.others p other ∙ st.no_session p (λ e. other (sym (ap peer_of_session is) ∙ e));
      remembers = λ p. remembers-handed p a s.memories has g h x.about only steps.remembers (st.remembers p);
      ids = λ p. ids-handed p a s.memories has only ids (st.ids p);
      holder = λ suite. absurd (under.0 (nothing_with d first s h z suite st is));
    }

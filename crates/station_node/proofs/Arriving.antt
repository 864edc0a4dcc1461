-- What a station stands for behind a frame of a fast transition that is under way.
use Rattle.std.proofs.Common.{◌≡◌, ◌≢◌, ◌∙◌, ◌+◌, inl, inr, ℕ, Bool, true, false, cond, List, [], ◌∷◌, ◌++◌, Option, Some, None, refl, sym, ap, subst, arith}
use Rattle.std.specs.Prelude.{◌==◌, take, bytes_eq, option_and_then}
use Rattle.std.specs.List.{AllByRecursion}
use Rattle.std.proofs.lemmas.Bool.{ne_eqb}
use Rattle.std.proofs.lemmas.Bool.Decides.{eqb_tells}
use Rattle.std.proofs.lemmas.List.{get_or-replicate}
use Rattle.std.proofs.lemmas.Slice.Eq.{bytes_eq-Decides}
use Rattle.domain_base.specs.declared.names.Akm.{Akm}
use Rattle.domain_base.specs.declared.names.Mac.{Mac}
use Rattle.domain_base.specs.declared.names.Node.{Node}
use Rattle.domain_base.specs.declared.names.Node.TheVariants.{Ap, Sta}
use Rattle.domain_base.specs.declared.names.Peer.TheVariants.{One}
use Rattle.eapol_key.specs.declared.messages.Message.TheVariants.{M3, G1}
use Rattle.key_hierarchy.specs.Sizes.{IsR0khId}
use Rattle.key_hierarchy.specs.declared.inputs.Inputs.{Inputs}
use Rattle.key_hierarchy.specs.declared.inputs.Ptk.{Ptk}
use Rattle.run_journal.specs.declared.domain.Domain.{Domain}
use Rattle.run_journal.specs.declared.acts.Kind.{Kind}
use Rattle.run_journal.specs.declared.acts.Kind.TheVariants as kind
use Rattle.run_journal.specs.declared.acts.Outcome.{Outcome}
use Rattle.run_journal.specs.declared.acts.Outcome.TheVariants.{Accepted, Answered}
use Rattle.run_journal.specs.declared.acts.Part.TheVariants.{Session as OfSession}
use Rattle.run_journal.specs.declared.acts.Seal.{Seal}
use Rattle.run_journal.specs.declared.acts.Key.TheVariants.{Pairwise, Group}
use Rattle.run_journal.specs.declared.acts.Act.{Act}
use Rattle.run_journal.specs.declared.acts.Act.TheVariants.{Took, Derived, Sent, Installed, Resumed, Closed, Finished}
use Rattle.run_journal.specs.declared.reply.Reply.{Reply}
use Rattle.run_journal.specs.declared.reply.Keyed.{Keyed}
use Rattle.run_journal.specs.declared.reply.GtkNews.{GtkNews}
use Rattle.run_journal.specs.declared.acts.GroupKind.{GroupKind}
use Rattle.run_journal.specs.declared.acts.GroupKind.TheVariants as groups
use Rattle.run_journal.specs.GroupKinds.{same_group_kind}
use Rattle.run_journal.specs.Acts.{same_kind, opens, replied}
use Rattle.run_journal.specs.Questions.{attempt, since, session, derivation, pending, associated, is_draw, draws, add}
use Rattle.run_journal.specs.Holders.{last_r0kh_id}
use Rattle.domain_rules.specs.Network.{Root, mac, root_by, root_at}
use Rattle.domain_rules.specs.Asking.{start_of, is_roam, is_by_roam, session_start, kept_counter}
use Rattle.domain_rules.specs.Replies.{inputs_by, key_by, derived_acts, group_acts}
use Rattle.domain_rules.proofs.Parts.{leaves_pending, pending_more, leaves_associated, associated_more, draws_more, attempt_none, attempt_more, apart-took, same-refl, since_part, attempt_some, start_more, add_append}
use Rattle.data_frames.specs.Holding.{HoldsPairwise, LeavesPairwise, fresh_key}
use Rattle.data_frames.proofs.Standing.{others}
use Rattle.group_key.specs.Keys.{Memories}
use Rattle.group_key.specs.Holds.{RemembersAll}
use Rattle.act_memory.proofs.RepliedActs.{LeavesKept, all_joined, remembers_on, remembers_more, none_either, same_either}
use Rattle.supplicant.specs.declared.attempt.Attempt.{Attempt as SupplicantAttempt}
use Rattle.supplicant.specs.declared.session.Session.{Session as SupplicantSession}
use Rattle.supplicant.specs.State.{State as Supplicant}
use Rattle.supplicant.specs.Stands.{SupplicantStands, IsTransferred, HasAttempt as HasSupplicantAttempt, HasSession as HasSupplicantSession}
use Rattle.supplicant.proofs.Standing.{derivation_part}
use Rattle.ft_exchange.specs.State.{OriginatorState}
use Rattle.ft_exchange.specs.declared.originator.Stage.{Stage}
use Rattle.ft_exchange.specs.declared.originator.Stage.TheVariants as stage
use Rattle.ft_exchange.specs.declared.originator.Transit.{Transit}
use Rattle.ft_exchange.specs.Stands.{IsUnderWay, HasStage, OriginatorStands}
use Rattle.ft_exchange.specs.Told.{transition_sent, sent_octets}
use Rattle.station_node.specs.declared.attempt.Association.TheVariants.{Moving}
use Rattle.station_node.specs.declared.session.Session.{Session}
use Rattle.station_node.specs.State.{State, memory_at}
use Rattle.station_node.specs.Transferred.{IsTransferredTo}
use Rattle.station_node.specs.declared.attempt.Attempt.{Attempt}
use Rattle.station_node.specs.Parts.{peer_of_session, peer_pending}
use Rattle.station_node.specs.Stands.{Stands, IsHolder, HasSession, IsIn, HaveIds}
use Rattle.station_node.proofs.Acts.{keeps-took, keeps-closed, keeps-pairwise, keeps-finished}
use Rattle.station_node.proofs.Standing.{nobody_pending, nothing_with, not_renewing, session_left, moving_is, holder_on}
use Rattle.station_node.proofs.Sessions.{IsMild, supplicant_on, keyed_on}
use Rattle.station_node.proofs.Beginning.{left_session}
use Rattle.station_node.proofs.Handed.{IsOnly}

-- ---- acts

-- an act of a frame of access point a that ends nothing: it tells of no other access point, and of no message of a handshake
pub record IsFrameOf (a : ℕ) (e : Act) : Type 0 where
  pub no_draw : is_draw e ≡ false
  pub pending : leaves_pending e ≡ true
  pub associated : leaves_associated e ≡ true
  pub opens_none : (p : Node) → opens p e ≡ false
  pub holder : (h : List Act) → last_r0kh_id (e ∷ h) ≡ last_r0kh_id h
  pub session : (p : Node) (h : List Act) → session p (e ∷ h) ≡ session p h
  pub mild : (p : ℕ) → p ≢ a → IsMild (Ap p) e
  pub leaves : (p : Node) (tk : List ℕ) → LeavesPairwise p tk e
  pub keeps : (p : ℕ) → p ≢ a → LeavesKept (Ap p) e
  pub third_none : replied (Ap a) (kind.Key M3) e ≡ None
  pub group_none : replied (Ap a) (kind.Key G1) e ≡ None

abbrev pub AreFrameOf : ℕ → List Act → Type 0
AreFrameOf a g = AllByRecursion (IsFrameOf a) g

not_replied : (a : ℕ) (octets : List ℕ) (k m : Kind) (o : Outcome) (s : Option Seal) → same_kind m k ≡ false → replied (Ap a) m (Took (Some (Ap a)) octets k o s) ≡ None
not_replied a octets k m Accepted s other = rw (same-refl (Ap a), other) refl
not_replied a octets k m Answered s other = rw (same-refl (Ap a), other) refl
not_replied a octets k m _ s other = refl

frame-took : (a : ℕ) (octets : List ℕ) (k : Kind) (o : Outcome) (s : Option Seal) → same_kind (kind.Key M3) k ≡ false → same_kind (kind.Key G1) k ≡ false → IsFrameOf a (Took (Some (Ap a)) octets k o s)
frame-took a octets k o s third group = record {
  no_draw = refl;
  pending = refl;
  associated = refl;
  opens_none = λ p. refl;
  holder = λ h. refl;
  session = λ p h. refl;
  mild = λ p other. (let x = apart-took (Ap p) (Some (Ap a)) octets k o s (ne_eqb p a other) in
      record { opens_none = refl; finishes_none = refl; closes_none = refl; responds_none = x.accepts_none kind.AssocResp; third_none = x.replies_none (kind.Key M3); group_none = x.replies_none (kind.Key G1) });
  leaves = λ p tk. record { used = λ h. refl; got = λ t h. refl };
  keeps = λ p other. record { gives_none = λ kind. refl; gets_none = λ kind key id heard before. refl };
  third_none = not_replied a octets k (kind.Key M3) o s third;
  group_none = not_replied a octets k (kind.Key G1) o s group;
}

frame-derived : (a : ℕ) (i : Inputs) (k : Ptk) → IsFrameOf a (Derived (Ap a) i k)
frame-derived a i k = record {
  no_draw = refl;
  pending = refl;
  associated = refl;
  opens_none = λ p. refl;
  holder = λ h. refl;
  session = λ p h. refl;
  mild = λ p other. record { opens_none = refl; finishes_none = refl; closes_none = refl; responds_none = refl; third_none = refl; group_none = refl };
  leaves = λ p tk. record { used = λ h. refl; got = λ t h. refl };
  keeps = λ p other. record { gives_none = λ kind. refl; gets_none = λ kind key id heard before. refl };
  third_none = refl;
  group_none = refl;
}

frame-sent : (a : ℕ) (k : Kind) (octets : List ℕ) (s : Option Seal) → IsFrameOf a (Sent (One (Ap a)) k octets s)
frame-sent a k octets s = record {
  no_draw = refl;
  pending = refl;
  associated = refl;
  opens_none = λ p. refl;
  holder = λ h. refl;
  session = λ p h. refl;
  mild = λ p other. record { opens_none = refl; finishes_none = refl; closes_none = refl; responds_none = refl; third_none = refl; group_none = refl };
  leaves = λ p tk. record { used = λ h. refl; got = λ t h. refl };
  keeps = λ p other. record { gives_none = λ kind. refl; gets_none = λ kind key id heard before. refl };
  third_none = refl;
  group_none = refl;
}

frame-group : (which : GroupKind) (b : Bool) (a : ℕ) (key : List ℕ) (id : ℕ) (m : Mac) → IsFrameOf a (cond b (Resumed (Ap a) (Group which key id m)) (Installed (One (Ap a)) (Group which key id m)))
frame-group which true a key id m = record {
  no_draw = refl;
  pending = refl;
  associated = refl;
  opens_none = λ p. refl;
  holder = λ h. refl;
  session = λ p h. refl;
  mild = λ p other. record { opens_none = refl; finishes_none = refl; closes_none = refl; responds_none = refl; third_none = refl; group_none = refl };
  leaves = λ p tk. record { used = λ h. refl; got = λ t h. refl };
  keeps = λ p other. record { gives_none = λ kind. refl; gets_none = λ kind k i heard before. rw (ne_eqb p a other) (same_either (same_group_kind kind which) before) };
  third_none = refl;
  group_none = refl;
}
frame-group which false a key id m = record {
  no_draw = refl;
  pending = refl;
  associated = refl;
  opens_none = λ p. refl;
  holder = λ h. refl;
  session = λ p h. refl;
  mild = λ p other. record { opens_none = refl; finishes_none = refl; closes_none = refl; responds_none = refl; third_none = refl; group_none = refl };
  leaves = λ p tk. record { used = λ h. refl; got = λ t h. refl };
  keeps = λ p other. record {
    gives_none = λ kind. rw (ne_eqb p a other) (none_either (same_group_kind kind which));
    gets_none = λ kind k i heard before. rw (ne_eqb p a other) (same_either (same_group_kind kind which) before);
  };
  third_none = refl;
  group_none = refl;
}

-- those of the replies
frames-derived : (d : Domain) (root : Root) (n : Node) (a : ℕ) (y : Option Keyed) → AreFrameOf a (derived_acts d root n (Ap a) y)
frames-derived d root n a None = tt
frames-derived d root n a (Some y) = (frame-derived a (inputs_by d root n (Ap a) y) y.ptk, tt)

frames-sent_by : (b : Bool) (d : Domain) (n : Node) (a : ℕ) (r : Reply) (octets : List ℕ) → AreFrameOf a (cond b [] (sent_octets d n (Ap a) r octets))
frames-sent_by true d n a r octets = tt
frames-sent_by false d n a r octets = (frame-sent a r.kind octets _, tt)

frames-group : (which : GroupKind) (d : Domain) (a : ℕ) (g : Option GtkNews) → AreFrameOf a (group_acts which d (Ap a) g)
frames-group which d a None = tt
frames-group which d a (Some g) = (frame-group which g.resumed a g.key g.id _, tt)

-- the group keys that a reassociation response gave: the GTK, and after it the IGTK
abbrev pub given_acts : Domain → ℕ → Option GtkNews → Option GtkNews → List Act
given_acts d a g i = group_acts groups.Gtk d (Ap a) g ++ group_acts groups.Igtk d (Ap a) i

pub frames-given : (d : Domain) (a : ℕ) (g i : Option GtkNews) → AreFrameOf a (given_acts d a g i)
frames-given d a g i = all_joined (IsFrameOf a) (group_acts groups.Gtk d (Ap a) g) (group_acts groups.Igtk d (Ap a) i) (frames-group groups.Gtk d a g) (frames-group groups.Igtk d a i)

pub frames-auth : (d : Domain) (root : Root) (n : Node) (a : ℕ) (octets : List ℕ) (o : Outcome) (r : Reply) → AreFrameOf a (Took (Some (Ap a)) octets kind.FtResp o None ∷ derived_acts d root n (Ap a) r.derived ++ transition_sent d n (Ap a) r)
frames-auth d root n a octets o r = (
  frame-took a octets kind.FtResp o None refl refl,
  all_joined (IsFrameOf a) (derived_acts d root n (Ap a) r.derived) (transition_sent d n (Ap a) r) (frames-derived d root n a r.derived) (frames-sent_by (r.len == 0) d n a r (take r.len r.octets)),
)

pub frames-reassoc : (d : Domain) (a : ℕ) (octets : List ℕ) (o : Outcome) (s : Option Seal) (g i : Option GtkNews) → AreFrameOf a (Took (Some (Ap a)) octets kind.ReResp o s ∷ given_acts d a g i)
frames-reassoc d a octets o s g i = (frame-took a octets kind.ReResp o s refl refl, frames-given d a g i)

-- ---- what is asked

frames_draws : (a : ℕ) (g h : List Act) → AreFrameOf a g → draws (add g h) ≡ draws h
frames_draws a [] h all = refl
frames_draws a (e ∷ g) h all = frames_draws a g (e ∷ h) all.1 ∙ draws_more e h all.0.no_draw

frames_pending : (a : ℕ) (g h : List Act) → AreFrameOf a g → pending (add g h) ≡ pending h
frames_pending a [] h all = refl
frames_pending a (e ∷ g) h all = frames_pending a g (e ∷ h) all.1 ∙ pending_more e h all.0.pending

frames_associated : (a : ℕ) (g h : List Act) → AreFrameOf a g → associated (add g h) ≡ associated h
frames_associated a [] h all = refl
frames_associated a (e ∷ g) h all = frames_associated a g (e ∷ h) all.1 ∙ associated_more e h all.0.associated

frames_holder : (a : ℕ) (g h : List Act) → AreFrameOf a g → last_r0kh_id (add g h) ≡ last_r0kh_id h
frames_holder a [] h all = refl
frames_holder a (e ∷ g) h all = frames_holder a g (e ∷ h) all.1 ∙ all.0.holder h

frames_attempt : (a : ℕ) (p : Node) (g h : List Act) → AreFrameOf a g → attempt p h ≡ None → attempt p (add g h) ≡ None
frames_attempt a p [] h all none = none
frames_attempt a p (e ∷ g) h all none = frames_attempt a p g (e ∷ h) all.1 (attempt_none p e h (all.0.opens_none p) none)

frames_session : (a : ℕ) (p : Node) (g h : List Act) → AreFrameOf a g → session p (add g h) ≡ session p h
frames_session a p [] h all = refl
frames_session a p (e ∷ g) h all = frames_session a p g (e ∷ h) all.1 ∙ all.0.session p h

frames_mild : (a p : ℕ) (g : List Act) → p ≢ a → AreFrameOf a g → AllByRecursion (IsMild (Ap p)) g
frames_mild a p [] other all = tt
frames_mild a p (e ∷ g) other all = (all.0.mild p other, frames_mild a p g other all.1)

frames_leave : (a : ℕ) (p : Node) (tk : List ℕ) (g : List Act) → AreFrameOf a g → AllByRecursion (LeavesPairwise p tk) g
frames_leave a p tk [] all = tt
frames_leave a p tk (e ∷ g) all = (all.0.leaves p tk, frames_leave a p tk g all.1)

frames_keep : (a p : ℕ) (g : List Act) → p ≢ a → AreFrameOf a g → AllByRecursion (LeavesKept (Ap p)) g
frames_keep a p [] other all = tt
frames_keep a p (e ∷ g) other all = (all.0.keeps p other, frames_keep a p g other all.1)

frames_remember : (a p : ℕ) (m : Memories) (g h : List Act) → p ≢ a → AreFrameOf a g → RemembersAll (Ap p) m h → RemembersAll (Ap p) m (add g h)
frames_remember a p m g h other all r = remembers_on (Ap p) m g h (frames_keep a p g other all) r

frames_silent : (a : ℕ) (g h : List Act) → AreFrameOf a g → kept_counter (Ap a) (since (Ap a) h) ≡ None → kept_counter (Ap a) (since (Ap a) (add g h)) ≡ None
frames_silent a [] h all none = none
frames_silent a (e ∷ g) h all none = frames_silent a g (e ∷ h) all.1 (rw (all.0.opens_none (Ap a), all.0.third_none, all.0.group_none) none)

-- ---- the memories

remembers-moved : (p a : ℕ) (had has : List (ℕ × Memories)) (l : List Act) → IsOnly a had has → RemembersAll (Ap a) (memory_at has a) l → (p ≢ a → RemembersAll (Ap p) (memory_at had p) l) → RemembersAll (Ap p) (memory_at has p) l
remembers-moved p a had has l only here there = elim (eqb_tells p a) [
  | inl same_ap ↦ subst (λ (x : ℕ). RemembersAll (Ap x) (memory_at has x) l) (sym same_ap.1) here
  | inr other ↦ subst (λ (ks : Memories). RemembersAll (Ap p) ks l) (sym (only.others p other.1)) (there other.1)
]

ids-moved : (p a : ℕ) (had has : List (ℕ × Memories)) → IsOnly a had has → HaveIds (memory_at has a) → HaveIds (memory_at had p) → HaveIds (memory_at has p)
ids-moved p a had has only here was = elim (eqb_tells p a) [
  | inl same_ap ↦ subst (λ (x : ℕ). HaveIds (memory_at has x)) (sym same_ap.1) here
  | inr other ↦ subst HaveIds (sym (only.others p other.1)) was
]

-- ---- the fast transition goes on

abbrev pub moving_state : State → ℕ → OriginatorState → List (ℕ × Memories) → State
moving_state s p o memories = record { number = s.number; drawn = s.drawn; attempt = Some (record { ap = p; association = Moving o }); session = s.session; memories = memories; r0kh_id = s.r0kh_id }

pub stands-moving : (d : Domain) (first : ℕ) (s : State) (h : List Act) (p : ℕ) (old new : OriginatorState) (g : List Act) (has : List (ℕ × Memories)) → Stands d first s h → s.attempt ≡ Some (record { ap = p; association = Moving old }) → AreFrameOf p g
    → IsOnly p s.memories has → HaveIds (memory_at has p) → RemembersAll (Ap p) (memory_at has p) (add g h) → OriginatorStands d (Sta s.number) (Ap p) new (add g h)
    → Stands d first (moving_state s p new has) (add g h)
stands-moving d first s h p old new g has st is frames only ids remembers stands =
    let left = session_left d first s h p old st is in
    let z : Session = left.0 in
    let was = moving_is d first s h p old st is in
    let place : IsIn d (Sta s.number) z.ap z.supplicant z.key h = subst (λ (x : Option Session). HasSession d (Sta s.number) x h) left.1 st.session_is in
    let mild = frames_mild p z.ap g left.2 frames in
    let none = nothing_with d first s h z was.1.stands.suite st left.1 in
    record {
      draws_are = omega (arith, st.draws_are, frames_draws p g h frames);
      pending_is = frames_pending p g h frames ∙ st.pending_is ∙ ap (λ (o : Option Attempt). peer_pending o s.session) is;
      associated_is = frames_associated p g h frames ∙ st.associated_is;
      alone = left;
      attempt_is = (was.0, record { stands = stands; keeps = frames_silent p g h frames was.1.keeps });
      session_is = subst (λ (x : Option Session). HasSession d (Sta s.number) x (add g h)) (sym left.1) (record {
        listed = place.listed;
        stands = supplicant_on d (Sta s.number) (Ap z.ap) z.supplicant g h mild none (frames_attempt p (Ap z.ap) g h frames none) place.stands;
        keyed = keyed_on (Ap z.ap) z.key g h mild (λ tk. frames_leave p (Ap z.ap) tk g frames) place.keyed;
      });
      no_attempt = λ q other. frames_attempt p (Ap q) g h frames (st.no_attempt q (λ e. other (sym (ap (λ (o : Option Attempt). peer_pending o s.session) is) ∙ e)));
      no_session = λ q other. frames_session p (Ap q) g h frames ∙ st.no_session q other;
      remembers = λ q. remembers-moved q p s.memories has (add g h) only remembers (λ other. frames_remember p q (memory_at s.memories q) g h other frames (st.remembers q));
      ids = λ q. ids-moved q p s.memories has only ids (st.ids q);
      holder = λ suite. holder_on s.session s.r0kh_id h (add g h) (frames_holder p g h frames) (st.holder suite);
    }

-- the R0KH-ID of the fast transition is the one that is kept
pub moving_holder : (d : Domain) (first : ℕ) (s : State) (h : List Act) (p : ℕ) (o : OriginatorState) → Stands d first s h → s.attempt ≡ Some (record { ap = p; association = Moving o }) → (o.r0kh_id ≡ s.r0kh_id) × IsR0khId s.r0kh_id
moving_holder d first s h p o st is =
    let left = session_left d first s h p o st is in
    let was = (moving_is d first s h p o st is).1.stands in
    let holder = subst (λ (x : Option Session). IsHolder x s.r0kh_id h) left.1 (st.holder was.suite) in
    (sym was.r0kh_id ∙ holder.0, holder.1)

-- ---- it becomes a session in place of the one that there is

octets_same : (xs : List ℕ) → bytes_eq xs xs ≡ true
octets_same xs = (bytes_eq-Decides xs xs).1 refl

holds_installed : (p : Node) (tk : List ℕ) (i : Inputs) (h : List Act) → HoldsPairwise p tk (fresh_key tk) (Installed (One p) (Pairwise tk i) ∷ h)
holds_installed p tk i h = record {
  role = refl;
  key = refl;
  used = sym (rw (same-refl p) refl);
  size = refl;
  kept = λ tid low. get_or-replicate 16 tid 0 0 low ∙ sym (rw (same-refl p, octets_same tk) refl);
}

-- the history behind the acts
abbrev pub arrived : ℕ → Node → Act → List ℕ → Inputs → List Act → List Act → List Act
arrived p q took tk i gtk h = Finished (Ap p) i ∷ add gtk (Installed (One (Ap p)) (Pairwise tk i) ∷ Closed q OfSession ∷ took ∷ h)

-- what holds behind each of the acts of a group key holds behind them
group_by : (which : GroupKind) (P : List Act → Type 0) (d : Domain) (p : Node) (g : Option GtkNews) → P [] → ((b : Bool) (x : GtkNews) → P (cond b (Resumed p (Group which x.key x.id (mac d p))) (Installed (One p) (Group which x.key x.id (mac d p))) ∷ [])) → P (group_acts which d p g)
group_by which P d p None none some = none
group_by which P d p (Some x) none some = some x.resumed x

abbrev group_act : GroupKind → Domain → Node → Bool → GtkNews → Act
group_act which d p b x = cond b (Resumed p (Group which x.key x.id (mac d p))) (Installed (One p) (Group which x.key x.id (mac d p)))

group_derives : (which : GroupKind) (d : Domain) (p : Node) (g : Option GtkNews) (h : List Act) → derivation p (add (group_acts which d p g) h) ≡ derivation p h
group_derives which d p g h = group_by which (λ (l : List Act). derivation p (add l h) ≡ derivation p h) d p g refl (λ b x. one b x)
  where
    one : (b : Bool) (x : GtkNews) → derivation p (group_act which d p b x ∷ h) ≡ derivation p h
    one true x = refl
    one false x = refl

given_derives : (d : Domain) (p : ℕ) (g j : Option GtkNews) (h : List Act) → derivation (Ap p) (add (given_acts d p g j) h) ≡ derivation (Ap p) h
given_derives d p g j h =
    ap (derivation (Ap p)) (add_append (group_acts groups.Gtk d (Ap p) g) (group_acts groups.Igtk d (Ap p) j) h)
    ∙ group_derives groups.Igtk d (Ap p) j (add (group_acts groups.Gtk d (Ap p) g) h) ∙ group_derives groups.Gtk d (Ap p) g h

-- what came since p was met begins as that did
record Begins (p : Node) (h part : List Act) : Type 0 where
  pub first : Act
  pub rest : List Act
  pub is : since p h ≡ first ∷ rest
  pub start : start_of (first ∷ rest) ≡ start_of part

group_begins : (which : GroupKind) (d : Domain) (p : Node) (g : Option GtkNews) (h part : List Act) → Begins p h part → Begins p (add (group_acts which d p g) h) part
group_begins which d p g h part old = group_by which (λ (l : List Act). Begins p (add l h) part) d p g old (λ b x. one b x)
  where
    one : (b : Bool) (x : GtkNews) → Begins p (group_act which d p b x ∷ h) part
    one true x = record { first = group_act which d p true x; rest = old.first ∷ old.rest; is = ap (λ (l : List Act). group_act which d p true x ∷ l) old.is; start = old.start }
    one false x = record { first = group_act which d p false x; rest = old.first ∷ old.rest; is = ap (λ (l : List Act). group_act which d p false x ∷ l) old.is; start = old.start }

given_since : (d : Domain) (p : ℕ) (g j : Option GtkNews) (e f : Act) (h part : List Act) → since (Ap p) h ≡ f ∷ part → start_of (e ∷ since (Ap p) (add (given_acts d p g j) h)) ≡ start_of (f ∷ part)
given_since d p g j e f h part is =
    let gtk : List Act = group_acts groups.Gtk d (Ap p) g in
    let begun : Begins (Ap p) (add gtk h) (f ∷ part) = group_begins groups.Gtk d (Ap p) g h (f ∷ part) (record { first = f; rest = part; is = is; start = refl }) in
    let w : Begins (Ap p) (add (group_acts groups.Igtk d (Ap p) j) (add gtk h)) (f ∷ part) = group_begins groups.Igtk d (Ap p) j (add gtk h) (f ∷ part) begun in
    ap (λ (l : List Act). start_of (e ∷ since (Ap p) l)) (add_append gtk (group_acts groups.Igtk d (Ap p) j) h) ∙ ap (λ (l : List Act). start_of (e ∷ l)) w.is ∙ w.start

-- the attempt with p began as that did
record Tries (p : Node) (h part : List Act) : Type 0 where
  pub more : List Act
  pub is : attempt p h ≡ Some more
  pub start : start_of more ≡ start_of part

group_tries : (which : GroupKind) (d : Domain) (p : Node) (g : Option GtkNews) (h part : List Act) → Tries p h part → Tries p (add (group_acts which d p g) h) part
group_tries which d p g h part old = group_by which (λ (l : List Act). Tries p (add l h) part) d p g old (λ b x. one b x)
  where
    one : (b : Bool) (x : GtkNews) → Tries p (group_act which d p b x ∷ h) part
    one true x =
        let e : Act = group_act which d p true x in
        record { more = e ∷ old.more; is = attempt_more p e h old.more refl refl old.is; start = start_more e old.more (attempt_some p h old.more old.is) ∙ old.start }
    one false x =
        let e : Act = group_act which d p false x in
        record { more = e ∷ old.more; is = attempt_more p e h old.more refl refl old.is; start = start_more e old.more (attempt_some p h old.more old.is) ∙ old.start }

given_start : (d : Domain) (p : ℕ) (g j : Option GtkNews) (i : Inputs) (h part : List Act) → attempt (Ap p) h ≡ Some part → session_start (Ap p) (Finished (Ap p) i ∷ add (given_acts d p g j) h) ≡ start_of part
given_start d p g j i h part at =
    let gtk : List Act = group_acts groups.Gtk d (Ap p) g in
    let begun : Tries (Ap p) (add gtk h) part = group_tries groups.Gtk d (Ap p) g h part (record { more = part; is = at; start = refl }) in
    let w : Tries (Ap p) (add (group_acts groups.Igtk d (Ap p) j) (add gtk h)) part = group_tries groups.Igtk d (Ap p) j (add gtk h) part begun in
    rw (same-refl (Ap p))
    (ap (λ (l : List Act). option_and_then start_of (attempt (Ap p) l)) (add_append gtk (group_acts groups.Igtk d (Ap p) j) h) ∙ ap (λ (o : Option (List Act)). option_and_then start_of o) w.is ∙ w.start)

-- the attempt by fast transition that there was
moved_before : (d : Domain) (sta p : ℕ) (o : OriginatorState) (t : Transit) (h : List Act) → OriginatorStands d (Sta sta) (Ap p) o h → o.stage ≡ stage.Keyed t
    → (part : List Act) × ((attempt (Ap p) h ≡ Some part) × (is_by_roam part ≡ true))
moved_before d sta p o t h st at =
    let u : IsUnderWay d (Sta sta) (Ap p) o (Some t) h = subst (λ (x : Stage). HasStage d (Sta sta) (Ap p) o x h) at st.stage_is in
    (u.part, (u.is, u.begun))

derived_before : (d : Domain) (sta p : ℕ) (o : OriginatorState) (t : Transit) (h : List Act) → OriginatorStands d (Sta sta) (Ap p) o h → o.stage ≡ stage.Keyed t
    → (derivation (Ap p) h ≡ Some (key_by d (root_at d (Sta sta) o.r0kh_id) (Sta sta) (Ap p) t.key)) × (is_by_roam (since (Ap p) h) ≡ true) × (since (Ap p) h ≢ [])
derived_before d sta p o t h st at =
    let u : IsUnderWay d (Sta sta) (Ap p) o (Some t) h = subst (λ (x : Stage). HasStage d (Sta sta) (Ap p) o x h) at st.stage_is in
    let whole = since_part (Ap p) h u.part u.is in
    (derivation_part (Ap p) h u.part (key_by d (root_at d (Sta sta) o.r0kh_id) (Sta sta) (Ap p) t.key) u.is u.keyed.0, ap is_by_roam whole ∙ u.begun, (λ none. attempt_some (Ap p) h u.part u.is (sym whole ∙ none)))

-- behind the acts the pairwise key is in use
holds_arrived : (d : Domain) (p : ℕ) (q : Node) (took : Act) (tk : List ℕ) (i : Inputs) (g j : Option GtkNews) (h : List Act) → HoldsPairwise (Ap p) tk (fresh_key tk) (arrived p q took tk i (given_acts d p g j) h)
holds_arrived d p q took tk i g j h =
    let m : List Act = Installed (One (Ap p)) (Pairwise tk i) ∷ Closed q OfSession ∷ took ∷ h in
    others (Ap p) tk (fresh_key tk) (Finished (Ap p) i ∷ []) (add (given_acts d p g j) m)
    (others (Ap p) tk (fresh_key tk) (given_acts d p g j) m (holds_installed (Ap p) tk i (Closed q OfSession ∷ took ∷ h)) (frames_leave p (Ap p) tk (given_acts d p g j) (frames-given d p g j)))
    (record { used = λ l. refl; got = λ t l. refl }, tt)

-- the supplicant of the session stands for them
transferred_arrived : (d : Domain) (sta p : ℕ) (q : Node) (o : OriginatorState) (t : Transit) (octets : List ℕ) (out : Outcome) (seal : Option Seal) (g j : Option GtkNews) (x : Supplicant) (h : List Act)
    → OriginatorStands d (Sta sta) (Ap p) o h → kept_counter (Ap p) (since (Ap p) h) ≡ None → o.stage ≡ stage.Keyed t → IsTransferredTo d sta p t.key.ptk x
    → SupplicantStands d (Sta sta) (Ap p) x (arrived p q (Took (Some (Ap p)) octets kind.ReResp out seal) t.key.ptk.tk (inputs_by d (root_at d (Sta sta) o.r0kh_id) (Sta sta) (Ap p) t.key) (given_acts d p g j) h)
transferred_arrived d sta p q o t octets out seal g j x h st silent at b =
    let y : Keyed = t.key in
    let i : Inputs = inputs_by d (root_at d (Sta sta) o.r0kh_id) (Sta sta) (Ap p) y in
    let took : Act = Took (Some (Ap p)) octets kind.ReResp out seal in
    let put : Act = Installed (One (Ap p)) (Pairwise y.ptk.tk i) in
    let m : List Act = put ∷ Closed q OfSession ∷ took ∷ h in
    let l : List Act = arrived p q took y.ptk.tk i (given_acts d p g j) h in
    let f = frame-took p octets kind.ReResp out seal refl refl in
    let before = derived_before d sta p o t h st at in
    let moved = moved_before d sta p o t h st at in
    let goes : attempt (Ap p) m ≡ Some (put ∷ Closed q OfSession ∷ took ∷ moved.0) =
    attempt_more (Ap p) put (Closed q OfSession ∷ took ∷ h) (Closed q OfSession ∷ took ∷ moved.0) refl refl (attempt_more (Ap p) (Closed q OfSession) (took ∷ h) (took ∷ moved.0) refl refl (attempt_more (Ap p) took h moved.0 refl refl moved.1.0)) in
    let transferred : IsTransferred (Ap p) y.ptk None l = record {
      x = key_by d (root_at d (Sta sta) o.r0kh_id) (Sta sta) (Ap p) y;
      is = rw (same-refl (Ap p)) (given_derives d p g j m ∙ before.0);
      key = refl;
      begun = ap is_roam (given_start d p g j i m (put ∷ Closed q OfSession ∷ took ∷ moved.0) goes ∙ start_more took moved.0 (attempt_some (Ap p) h moved.0 moved.1.0)) ∙ moved.1.1;
      last = ap is_roam (given_since d p g j (Finished (Ap p) i) put m (Closed q OfSession ∷ took ∷ since (Ap p) h) refl ∙ start_more took (since (Ap p) h) before.2) ∙ before.1;
      keeps = frames_silent p (given_acts d p g j) m (frames-given d p g j) (frames_silent p (took ∷ []) h (f, tt) silent);
    } in
    record {
      ends = b.ends;
      attempt_is = subst (λ (a : Option SupplicantAttempt). HasSupplicantAttempt d (Sta sta) (Ap p) x.base x.session a l) (sym b.attempt_is) refl;
      session_is = subst (λ (a : Option SupplicantSession). HasSupplicantSession d (Sta sta) (Ap p) x.base a l) (sym b.session_is) transferred;
    }

abbrev pub arrived_state : State → ℕ → Supplicant → List ℕ → List (ℕ × Memories) → State
arrived_state s p x tk memories = record { number = s.number; drawn = s.drawn; attempt = None; session = Some (record { ap = p; supplicant = x; key = fresh_key tk }); memories = memories; r0kh_id = s.r0kh_id }

pub stands-arrived : (d : Domain) (first : ℕ) (s : State) (h : List Act) (p : ℕ) (z : Session) (o : OriginatorState) (t : Transit) (octets : List ℕ) (out : Outcome) (seal : Option Seal) (g j : Option GtkNews) (x : Supplicant) (has : List (ℕ × Memories))
    → Stands d first s h → s.attempt ≡ Some (record { ap = p; association = Moving o }) → s.session ≡ Some z → o.stage ≡ stage.Keyed t → IsTransferredTo d s.number p t.key.ptk x → IsOnly p s.memories has → HaveIds (memory_at has p)
    → RemembersAll (Ap p) (memory_at has p) (arrived p (Ap z.ap) (Took (Some (Ap p)) octets kind.ReResp out seal) t.key.ptk.tk (inputs_by d (root_at d (Sta s.number) s.r0kh_id) (Sta s.number) (Ap p) t.key) (given_acts d p g j) h)
    → Stands d first (arrived_state s p x t.key.ptk.tk has) (arrived p (Ap z.ap) (Took (Some (Ap p)) octets kind.ReResp out seal) t.key.ptk.tk (inputs_by d (root_at d (Sta s.number) s.r0kh_id) (Sta s.number) (Ap p) t.key) (given_acts d p g j) h)
stands-arrived d first s h p z o t octets out seal g j x has st is there at begun only ids remembers =
    let took : Act = Took (Some (Ap p)) octets kind.ReResp out seal in
    let i : Inputs = inputs_by d (root_at d (Sta s.number) s.r0kh_id) (Sta s.number) (Ap p) t.key in
    let m : List Act = Installed (One (Ap p)) (Pairwise t.key.ptk.tk i) ∷ Closed (Ap z.ap) OfSession ∷ took ∷ h in
    let gtk : List Act = given_acts d p g j in
    let frames : AreFrameOf p gtk = frames-given d p g j in
    let l : List Act = arrived p (Ap z.ap) took t.key.ptk.tk i gtk h in
    let was = moving_is d first s h p o st is in
    let same_id = moving_holder d first s h p o st is in
    record {
      draws_are = st.draws_are ∙ ap (λ (k : ℕ). first + k) (sym (frames_draws p gtk m frames));
      pending_is = sym (not_renewing x p (fresh_key t.key.ptk.tk) begun.attempt_is);
      associated_is = refl;
      alone = tt;
      attempt_is = tt;
      session_is = record {
        listed = was.0;
        stands = subst (λ (id : List ℕ). SupplicantStands d (Sta s.number) (Ap p) x (arrived p (Ap z.ap) took t.key.ptk.tk (inputs_by d (root_at d (Sta s.number) id) (Sta s.number) (Ap p) t.key) gtk h)) same_id.0
            (transferred_arrived d s.number p (Ap z.ap) o t octets out seal g j x h was.1.stands was.1.keeps at begun);
        keyed = record {
          key = key_by d (root_at d (Sta s.number) s.r0kh_id) (Sta s.number) (Ap p) t.key;
          is = rw (same-refl (Ap p)) (given_derives d p g j m ∙ (derived_before d s.number p o t h was.1.stands at).0 ∙ ap (λ (id : List ℕ). Some (key_by d (root_at d (Sta s.number) id) (Sta s.number) (Ap p) t.key)) same_id.0);
          holds = holds_arrived d p (Ap z.ap) took t.key.ptk.tk i g j h;
        };
      };
      no_attempt = λ k other. nobody_pending k l refl;
      no_session = λ k other. (let apart = ne_eqb k p (λ e. other (ap (λ (y : ℕ). Some (Ap y)) (sym e))) in
          rw apart (frames_session p (Ap k) gtk m frames ∙ left_session d first s h k (Some (Ap z.ap)) st (ap peer_of_session there)));
      remembers = λ k. remembers-moved k p s.memories has l only remembers (λ other.
          remembers_more (Ap k) (memory_at s.memories k) (Finished (Ap p) i) (add gtk m) (keeps-finished (Ap k) (Ap p) i)
          (frames_remember p k (memory_at s.memories k) gtk m other frames
          (remembers_on (Ap k) (memory_at s.memories k) (took ∷ Closed (Ap z.ap) OfSession ∷ Installed (One (Ap p)) (Pairwise t.key.ptk.tk i) ∷ []) h
          (keeps-took (Ap k) _ _ _ _ _, (keeps-closed (Ap k) (Ap z.ap) OfSession, (keeps-pairwise (Ap k) (Ap p) t.key.ptk.tk i, tt))) (st.remembers k))));
      ids = λ k. ids-moved k p s.memories has only ids (st.ids k);
      holder = λ suite. (ap (λ (a : Akm). (root_by a d (Sta s.number) s.r0kh_id).r0kh_id) suite, same_id.1);
    }

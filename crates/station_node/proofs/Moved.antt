-- A station takes a frame of a fast transition that is under way, by what its code did.
use Rattle.std.proofs.Common.{◌≡◌, ◌∙◌, inl, inr, ℕ, false, List, [], ◌∷◌, ◌++◌, Option, Some, None, refl, sym, ap, subst}
use Rattle.std.specs.Prelude.{Bool, true, cond, ◌==◌, take}
use Rattle.std.specs.List.{AllByRecursion}
use Rattle.std.proofs.lemmas.List.{append-nil}
use Rattle.domain_base.specs.declared.names.Node.{Node}
use Rattle.domain_base.specs.declared.names.Node.TheVariants.{Ap, Sta}
use Rattle.domain_base.specs.declared.names.Peer.TheVariants.{One}
use Rattle.rsn_elements.specs.Elements.{ElementFields}
use Rattle.rsn_elements.specs.Fields.{element_fields}
use Rattle.run_journal.specs.declared.domain.Domain.{Domain}
use Rattle.run_journal.specs.declared.acts.Kind.TheVariants as kind
use Rattle.run_journal.specs.declared.acts.Key.TheVariants.{Pairwise}
use Rattle.run_journal.specs.declared.acts.Part.TheVariants.{Session as OfSession}
use Rattle.run_journal.specs.declared.acts.Outcome.{Outcome}
use Rattle.run_journal.specs.declared.acts.Act.{Act}
use Rattle.run_journal.specs.declared.acts.Act.TheVariants.{Took, Closed, Installed, Finished}
use Rattle.run_journal.specs.declared.reply.Reply.{Reply}
use Rattle.run_journal.specs.declared.reply.Keyed.{Keyed}
use Rattle.run_journal.specs.declared.acts.GroupKind.TheVariants as groups
use Rattle.run_journal.specs.Questions.{associated, add}
use Rattle.domain_rules.specs.Closing.{close_associated}
use Rattle.domain_rules.specs.Here.{here}
use Rattle.domain_rules.specs.Network.{Root, root_at, station_of}
use Rattle.domain_rules.specs.Rows.{Take}
use Rattle.domain_rules.specs.Replies.{inputs_by, derived_acts, installed_acts, group_acts, finished_acts}
use Rattle.domain_rules.specs.TransitionKeys.{re_resp_covered}
use Rattle.domain_rules.proofs.Switching.{station_adds}
use Rattle.domain_rules.proofs.Parts.{add_append}
use Rattle.frame_intake.specs.Views.{management_fields}
use Rattle.act_memory.proofs.RepliedActs.{LeavesKept, all_joined, remembers_on}
use Rattle.group_key.specs.Keys.{Kept, Memories}
use Rattle.group_key.specs.Holds.{RemembersAll}
use Rattle.supplicant.specs.State.{State as Supplicant}
use Rattle.supplicant.specs.Taken.{HaveGroupIds}
use Rattle.supplicant.proofs.GroupIds.{ids_given}
use Rattle.station_node.proofs.Acts.{keeps-took, keeps-derived, keeps-sent}
use Rattle.ft_exchange.specs.State.{OriginatorState}
use Rattle.ft_exchange.specs.declared.originator.Transit.{Transit}
use Rattle.ft_exchange.specs.declared.originator.Stage.TheVariants as stage
use Rattle.ft_exchange.specs.Comes.{IsManagementFrom}
use Rattle.ft_exchange.specs.Exchange.{Both, both}
use Rattle.ft_exchange.specs.OriginatorSteps.{IsUnder, AreGiven, BothStep, Steps as OriginatorSteps}
use Rattle.ft_exchange.specs.Told.{came, taken_seal, left_acts, sent_octets, transition_sent, auth_response_acts, reassoc_response_acts}
use Rattle.station_node.specs.declared.attempt.Attempt.{Attempt}
use Rattle.station_node.specs.declared.attempt.Association.TheVariants.{Moving}
use Rattle.station_node.specs.declared.managed.Managed.{Managed}
use Rattle.station_node.specs.declared.moving.Way.{Way}
use Rattle.station_node.specs.declared.moving.Arrival.{Arrival}
use Rattle.station_node.specs.Moved.{Move, move, IsAnswered, IsArrived}
use Rattle.station_node.specs.State.{State, memory_at, is_there, set_memory}
use Rattle.station_node.specs.Parts.{peer_of_session}
use Rattle.station_node.specs.Transferred.{IsTransferredTo}
use Rattle.station_node.specs.Stands.{Stands, HaveIds}
use Rattle.station_node.specs.Steps.{IsTaken, turn}
use Rattle.station_node.proofs.Standing.{session_left, moving_is}
use Rattle.station_node.proofs.Handed.{IsOnly}
use Rattle.station_node.proofs.Arriving.{AreFrameOf, frames-auth, frames-reassoc, moving_state, given_acts, stands-moving, moving_holder, arrived, arrived_state, stands-arrived}
use Rattle.station_node.proofs.MemoryPlaces.{memory_there, memory_elsewhere, memory_back}

-- what a station is given of a frame of access point p
pub record IsGiven (d : Domain) (s : State) (p : ℕ) (w : Way) (m : Managed) : Type 0 where
  pub from : IsManagementFrom d (Sta s.number) (Ap p) m.octets.now (management_fields m.frame) (element_fields m.elements)
  pub ap_is : w.ap ≡ p
  pub id_is : w.r0kh_id.now ≡ s.r0kh_id
  pub left_is : w.left ≡ peer_of_session s.session

-- nothing of the memories was changed
none_changed : (a : ℕ) (memories : List (ℕ × Memories)) → IsOnly a memories memories
none_changed a memories = record { others = λ k other. refl }

pub moving_same : (s : State) (p : ℕ) (o : OriginatorState) → s.attempt ≡ Some (record { ap = p; association = Moving o }) → moving_state s p o s.memories ≡ s
moving_same s p o is = ap (λ (a : Option Attempt). record { number = s.number; drawn = s.drawn; attempt = a; session = s.session; memories = s.memories; r0kh_id = s.r0kh_id }) (sym is)

-- ---- an authentication response

mute_derived : (d : Domain) (root : Root) (n p q : Node) (y : Option Keyed) → AllByRecursion (LeavesKept q) (derived_acts d root n p y)
mute_derived d root n p q None = tt
mute_derived d root n p q (Some y) = (keeps-derived q p _ y.ptk, tt)

mute_sent : (b : Bool) (d : Domain) (n p q : Node) (r : Reply) (octets : List ℕ) → AllByRecursion (LeavesKept q) (cond b [] (sent_octets d n p r octets))
mute_sent true d n p q r octets = tt
mute_sent false d n p q r octets = (keeps-sent q _ _ _ _, tt)

mute_auth : (d : Domain) (root : Root) (n p q : Node) (octets : List ℕ) (e : ElementFields) (o : Outcome) (r : Reply) → AllByRecursion (LeavesKept q) (auth_response_acts d root n p (came octets e o) r)
mute_auth d root n p q octets e o r = (
  keeps-took q _ _ _ _ _,
  all_joined (LeavesKept q) (derived_acts d root n p r.derived) (transition_sent d n p r) (mute_derived d root n p q r.derived) (mute_sent (r.len == 0) d n p q r (take r.len r.octets)),
)

pub taken-answered : (d : Domain) (s : State) (p : ℕ) (w : Way) (m : Managed) (old new : OriginatorState) (ks : Memories) (waited waits : List Act) (outcome : Outcome) → s.attempt ≡ Some (record { ap = p; association = Moving old }) → IsGiven d s p w m → m.frame.kind ≡ kind.FtResp
    → IsAnswered d (Sta s.number) w m (move (both old ks) (both new ks) waited waits) outcome → IsTaken d (Take m.octets.now) (turn s (moving_state s p new s.memories) waited waits) outcome
taken-answered d s p w m old new ks waited waits outcome is g kind_is x = record {
  number = refl;
  steps = λ first h st. (
      let n : Node = Sta s.number in
      let e : ElementFields = element_fields m.elements in
      let acts : ℕ → List ℕ → List Act = λ a id. auth_response_acts d (root_at d (station_of n (Ap a)) id) n (Ap a) (came m.octets.now e outcome) x.reply in
      let same_id = moving_holder d first s h p old st is in
      let f : OriginatorSteps (here d first n) (Ap p) m.octets.now (acts p old.r0kh_id) new h = x.taken.steps d first s.number p m.octets.now (management_fields m.frame) h (moving_is d first s h p old st is).1.stands g.from kind_is refl in
      record {
        acts = acts p old.r0kh_id;
        adds = station_adds d first s.number h (Take m.octets.now) (acts p old.r0kh_id) f.adds;
        waiting = x.acts ∙ ap (λ (a : ℕ). waited ++ acts a w.r0kh_id.now) g.ap_is ∙ ap (λ (id : List ℕ). waited ++ acts p id) (g.id_is ∙ sym same_id.0);
        came = refl;
        stands = stands-moving d first s h p old new (acts p old.r0kh_id) s.memories st is (frames-auth d (root_at d (station_of n (Ap p)) old.r0kh_id) n p m.octets.now outcome x.reply) (none_changed p s.memories) (st.ids p)
            (remembers_on (Ap p) (memory_at s.memories p) (acts p old.r0kh_id) h (mute_auth d (root_at d (station_of n (Ap p)) old.r0kh_id) n (Ap p) (Ap p) m.octets.now e outcome x.reply) (st.remembers p)) f.stands;
      });
  refused = λ why f. ap (λ (o : OriginatorState). moving_state s p o s.memories) (x.taken.refused why f).0 ∙ moving_same s p old is;
}

-- ---- a reassociation response

-- the memory of access point p among those of the station
pub record IsAmong (s : State) (p : ℕ) (has : List (ℕ × Memories)) (t : Move) : Type 0 where
  pub had_is : t.old.keys ≡ memory_at s.memories p
  pub has_is : t.new.keys ≡ memory_at has p
  pub only : IsOnly p s.memories has
  pub left : t.new.keys ≡ t.old.keys → has ≡ s.memories

pub among_by : (s : State) (p : ℕ) (had has : Memories) (old new : OriginatorState) (waited waits : List Act) → is_there s.memories p ≡ true → had ≡ memory_at s.memories p → IsAmong s p (set_memory s.memories p has) (move (both old had) (both new has) waited waits)
among_by s p had has old new waited waits placed had_is = record {
  had_is = had_is;
  has_is = sym (memory_there s.memories p has placed);
  only = record { others = λ q other. memory_elsewhere s.memories p q has other };
  left = λ same. memory_back s.memories p has (same ∙ had_is);
}

-- what the originator does of it
steps-arrived : (d : Domain) (s : State) (p : ℕ) (w : Way) (m : Managed) (has : List (ℕ × Memories)) (t : Move) (a : Arrival) (first : ℕ) (h : List Act) → Stands d first s h → s.attempt ≡ Some (record { ap = p; association = Moving t.old.part }) → IsGiven d s p w m
    → m.frame.kind ≡ kind.ReResp → IsAmong s p has t → (x : IsArrived d (Sta s.number) w m t a)
    → BothStep (here d first (Sta s.number)) (Ap p) m.octets.now (reassoc_response_acts d (root_at d (Sta s.number) t.old.part.r0kh_id) (Sta s.number) (Ap p) (associated h) (came m.octets.now (element_fields m.elements) a.outcome) x.reply) (both t.new.part (memory_at has p)) h
steps-arrived d s p w m has t a first h st is g kind_is b x =
    subst (λ (ks : Memories). BothStep (here d first (Sta s.number)) (Ap p) m.octets.now (reassoc_response_acts d (root_at d (Sta s.number) t.old.part.r0kh_id) (Sta s.number) (Ap p) (associated h) (came m.octets.now (element_fields m.elements) a.outcome) x.reply) (both t.new.part ks) h) b.has_is
    (x.taken.steps d first s.number p m.octets.now (management_fields m.frame) h (moving_is d first s h p t.old.part st is).1.stands (subst (λ (ks : Memories). RemembersAll (Ap p) ks h) (sym b.had_is) (st.remembers p)) g.from kind_is refl)

ids-given : (old new : List Kept) → AreGiven old new → HaveGroupIds old → HaveGroupIds new
ids-given old new (inl same) ids = subst HaveGroupIds (sym same) ids
ids-given old new (inr gives) ids = subst HaveGroupIds (sym gives.3) (ids_given gives.0 gives.1 gives.2 old gives.4 ids)

ids-among : (d : Domain) (s : State) (p : ℕ) (w : Way) (m : Managed) (has : List (ℕ × Memories)) (t : Move) (a : Arrival) (first : ℕ) (h : List Act) → Stands d first s h → IsAmong s p has t → IsArrived d (Sta s.number) w m t a → HaveIds (memory_at has p)
ids-among d s p w m has t a first h st b x = subst HaveIds b.has_is (ids-given t.old.keys.gtks t.new.keys.gtks x.taken.keys (subst HaveIds (sym b.had_is) (st.ids p)))

-- the acts that waited, by what the station stands for
waits-arrived : (d : Domain) (s : State) (p : ℕ) (w : Way) (m : Managed) (t : Move) (a : Arrival) (first : ℕ) (h : List Act) → Stands d first s h → s.attempt ≡ Some (record { ap = p; association = Moving t.old.part }) → IsGiven d s p w m → (x : IsArrived d (Sta s.number) w m t a)
    → t.waits ≡ t.waited ++ reassoc_response_acts d (root_at d (Sta s.number) t.old.part.r0kh_id) (Sta s.number) (Ap p) (associated h) (came m.octets.now (element_fields m.elements) a.outcome) x.reply
waits-arrived d s p w m t a first h st is g x =
    let acts : ℕ → List ℕ → Option Node → List Act = λ k id q. reassoc_response_acts d (root_at d (Sta s.number) id) (Sta s.number) (Ap k) q (came m.octets.now (element_fields m.elements) a.outcome) x.reply in
    x.acts ∙ ap (λ (k : ℕ). t.waited ++ acts k w.r0kh_id.now w.left) g.ap_is ∙ ap (λ (id : List ℕ). t.waited ++ acts p id w.left) (g.id_is ∙ sym (moving_holder d first s h p t.old.part st is).0)
    ∙ ap (λ (q : Option Node). t.waited ++ acts p t.old.part.r0kh_id q) (g.left_is ∙ sym st.associated_is)

-- ---- that installs nothing

quiet_shape : (d : Domain) (root : Root) (n p : Node) (q : Option Node) (octets : List ℕ) (e : ElementFields) (o : Outcome) (r : Reply) → r.installed ≡ None
    → reassoc_response_acts d root n p q (came octets e o) r ≡ Took (Some p) octets kind.ReResp o (taken_seal (re_resp_covered d n p e) r.verified) ∷ (group_acts groups.Gtk d p r.gtk ++ group_acts groups.Igtk d p r.igtk)
quiet_shape d root n p q octets e o r none =
    let took : Act = Took (Some p) octets kind.ReResp o (taken_seal (re_resp_covered d n p e) r.verified) in
    ap (λ (y : Option Keyed). took ∷ left_acts q y ++ installed_acts d root n p y ++ group_acts groups.Gtk d p r.gtk ++ group_acts groups.Igtk d p r.igtk ++ finished_acts d root n p y) none
    ∙ ap (λ (l : List Act). took ∷ l) (append-nil (group_acts groups.Gtk d p r.gtk ++ group_acts groups.Igtk d p r.igtk))

pub taken-moving : (d : Domain) (s : State) (p : ℕ) (w : Way) (m : Managed) (has : List (ℕ × Memories)) (t : Move) (a : Arrival) → s.attempt ≡ Some (record { ap = p; association = Moving t.old.part }) → IsGiven d s p w m → m.frame.kind ≡ kind.ReResp → IsAmong s p has t
    → IsArrived d (Sta s.number) w m t a → a.installed ≡ None → IsTaken d (Take m.octets.now) (turn s (moving_state s p t.new.part has) t.waited t.waits) a.outcome
taken-moving d s p w m has t a is g kind_is b x none = record {
  number = refl;
  steps = λ first h st. (
      let n : Node = Sta s.number in
      let acts : List Act = reassoc_response_acts d (root_at d (station_of n (Ap p)) t.old.part.r0kh_id) n (Ap p) (associated h) (came m.octets.now (element_fields m.elements) a.outcome) x.reply in
      let f = steps-arrived d s p w m has t a first h st is g kind_is b x in
      let shape = quiet_shape d (root_at d (station_of n (Ap p)) t.old.part.r0kh_id) n (Ap p) (associated h) m.octets.now (element_fields m.elements) a.outcome x.reply (sym x.installed ∙ none) in
      record {
        acts = acts;
        adds = station_adds d first s.number h (Take m.octets.now) acts f.step.adds;
        waiting = waits-arrived d s p w m t a first h st is g x;
        came = refl;
        stands = stands-moving d first s h p t.old.part t.new.part acts has st is (subst (AreFrameOf p) (sym shape) (frames-reassoc d p m.octets.now a.outcome _ x.reply.gtk x.reply.igtk)) b.only (ids-among d s p w m has t a first h st b x) f.remembers f.step.stands;
      });
  refused = λ why f. (let same : t.new ≡ t.old = (x.taken.refused why f).0 in
      ap (λ (o : OriginatorState). moving_state s p o has) (ap (λ (y : Both). y.part) same) ∙ ap (moving_state s p t.old.part) (b.left (ap (λ (y : Both). y.keys) same)) ∙ moving_same s p t.old.part is);
}

-- ---- that installs a key

loud_shape : (d : Domain) (root : Root) (n : Node) (p : ℕ) (q : Option Node) (z : Node) (octets : List ℕ) (e : ElementFields) (o : Outcome) (r : Reply) (y : Keyed) (h : List Act) → q ≡ Some z → r.installed ≡ Some y
    → add (reassoc_response_acts d root n (Ap p) q (came octets e o) r) h ≡ arrived p z (Took (Some (Ap p)) octets kind.ReResp o (taken_seal (re_resp_covered d n (Ap p) e) r.verified)) y.ptk.tk (inputs_by d root n (Ap p) y) (given_acts d p r.gtk r.igtk) h
loud_shape d root n p q z octets e o r y h left some =
    let took : Act = Took (Some (Ap p)) octets kind.ReResp o (taken_seal (re_resp_covered d n (Ap p) e) r.verified) in
    let i = inputs_by d root n (Ap p) y in
    let gtk : List Act = group_acts groups.Gtk d (Ap p) r.gtk in
    let igtk : List Act = group_acts groups.Igtk d (Ap p) r.igtk in
    ap (λ (k : Option Keyed). add (took ∷ left_acts q k ++ installed_acts d root n (Ap p) k ++ gtk ++ igtk ++ finished_acts d root n (Ap p) k) h) some
    ∙ ap (λ (c : Option Node). add (took ∷ close_associated c ++ installed_acts d root n (Ap p) (Some y) ++ gtk ++ igtk ++ finished_acts d root n (Ap p) (Some y)) h) left
    ∙ add_append (gtk ++ igtk) (Finished (Ap p) i ∷ []) (Installed (One (Ap p)) (Pairwise y.ptk.tk i) ∷ Closed z OfSession ∷ took ∷ h)

arrived-by : (d : Domain) (s : State) (p : ℕ) (w : Way) (m : Managed) (has : List (ℕ × Memories)) (t : Move) (a : Arrival) (k : Transit) (x' : Supplicant) → s.attempt ≡ Some (record { ap = p; association = Moving t.old.part }) → IsGiven d s p w m → m.frame.kind ≡ kind.ReResp
    → IsAmong s p has t → (x : IsArrived d (Sta s.number) w m t a) → x.reply.installed ≡ Some k.key → t.old.part.stage ≡ stage.Keyed k → IsTransferredTo d s.number p k.key.ptk x'
    → IsTaken d (Take m.octets.now) (turn s (arrived_state s p x' k.key.ptk.tk has) t.waited t.waits) a.outcome
arrived-by d s p w m has t a k x' is g kind_is b x some at begun = record {
  number = refl;
  steps = λ first h st. (
      let n : Node = Sta s.number in
      let left = session_left d first s h p t.old.part st is in
      let e : ElementFields = element_fields m.elements in
      let acts : List ℕ → List Act = λ id. reassoc_response_acts d (root_at d (station_of n (Ap p)) id) n (Ap p) (associated h) (came m.octets.now e a.outcome) x.reply in
      let f = steps-arrived d s p w m has t a first h st is g kind_is b x in
      let same_id = moving_holder d first s h p t.old.part st is in
      let shape = loud_shape d (root_at d (station_of n (Ap p)) s.r0kh_id) n p (associated h) (Ap left.0.ap) m.octets.now e a.outcome x.reply k.key h (st.associated_is ∙ ap peer_of_session left.1) some in
      record {
        acts = acts t.old.part.r0kh_id;
        adds = station_adds d first s.number h (Take m.octets.now) (acts t.old.part.r0kh_id) f.step.adds;
        waiting = waits-arrived d s p w m t a first h st is g x;
        came = refl;
        stands = subst (λ (id : List ℕ). Stands d first (arrived_state s p x' k.key.ptk.tk has) (add (acts id) h)) (sym same_id.0)
            (subst (Stands d first (arrived_state s p x' k.key.ptk.tk has)) (sym shape)
            (stands-arrived d first s h p left.0 t.old.part k m.octets.now a.outcome _ x.reply.gtk x.reply.igtk x' has st is left.1 at begun b.only (ids-among d s p w m has t a first h st b x)
            (subst (RemembersAll (Ap p) (memory_at has p)) (ap (λ (id : List ℕ). add (acts id) h) same_id.0 ∙ shape) f.remembers)));
      });
  refused = λ why f. absurd (both_ways x.reply.installed k.key (x.taken.refused why f).2 some);
}
  where
    both_ways : (o : Option Keyed) (y : Keyed) → o ≡ None → o ≡ Some y → ⊥
    both_ways o y none some = cc

pub taken-arrived : (d : Domain) (s : State) (p : ℕ) (w : Way) (m : Managed) (has : List (ℕ × Memories)) (t : Move) (a : Arrival) (y : Keyed) (x' : Supplicant) → s.attempt ≡ Some (record { ap = p; association = Moving t.old.part }) → IsGiven d s p w m → m.frame.kind ≡ kind.ReResp
    → IsAmong s p has t → IsArrived d (Sta s.number) w m t a → a.installed ≡ Some y → IsTransferredTo d s.number p y.ptk x' → IsTaken d (Take m.octets.now) (turn s (arrived_state s p x' y.ptk.tk has) t.waited t.waits) a.outcome
taken-arrived d s p w m has t a y x' is g kind_is b x some begun =
    let told : x.reply.installed ≡ Some y = sym x.installed ∙ some in
    let k = subst (λ (o : Option Keyed). IsUnder o t.old.part) told x.taken.under in
    subst (λ (z : Keyed). IsTaken d (Take m.octets.now) (turn s (arrived_state s p x' z.ptk.tk has) t.waited t.waits) a.outcome) k.2
    (arrived-by d s p w m has t a k.0 x' is g kind_is b x (told ∙ ap (λ (z : Keyed). Some z) (sym k.2)) k.1 (subst (λ (z : Keyed). IsTransferredTo d s.number p z.ptk x') (sym k.2) begun))

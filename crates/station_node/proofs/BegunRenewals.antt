-- A station takes an M1 by which it begins to renew the key of its session.
use Rattle.std.proofs.Common.{◌≡◌, ◌⊎◌, ℕ, suc, ◌+◌, ◌<◌, ◌≤◌, Bool, true, false, cond, List, [], ◌∷◌, ◌++◌, Option, Some, None, refl, sym, ap, subst, ◌∙◌, inl, inr, arith}
use Rattle.std.specs.Prelude.{◌&&◌, is_some, nat_lt, option_map, if◌then◌else◌}
use Rattle.std.specs.List.{AllByRecursion}
use Rattle.std.proofs.lemmas.Bool.{ne_eqb, ltb-true, ltb-false}
use Rattle.domain_base.specs.declared.names.Node.{Node}
use Rattle.domain_base.specs.declared.names.Node.TheVariants.{Ap, Sta}
use Rattle.eapol_key.specs.declared.messages.Message.{Message}
use Rattle.eapol_key.specs.declared.messages.Message.TheVariants.{M1}
use Rattle.run_journal.specs.declared.acts.GroupKind.TheVariants as groups
use Rattle.run_journal.specs.declared.domain.Domain.{Domain}
use Rattle.run_journal.specs.declared.acts.Start.TheVariants.{Renew}
use Rattle.run_journal.specs.declared.acts.Drawn.TheVariants.{Nonce}
use Rattle.run_journal.specs.declared.acts.Kind.TheVariants as kind
use Rattle.run_journal.specs.declared.acts.Outcome.{Outcome}
use Rattle.run_journal.specs.declared.acts.Outcome.TheVariants.{Accepted}
use Rattle.run_journal.specs.declared.acts.Act.{Act}
use Rattle.run_journal.specs.declared.acts.Act.TheVariants.{Opened, Drew, Took}
use Rattle.run_journal.specs.declared.reply.Reply.{Reply}
use Rattle.run_journal.specs.Acts.{same, Derivation}
use Rattle.run_journal.specs.Questions.{attempt, session, pending, draws, add}
use Rattle.domain_rules.specs.Here.{here}
use Rattle.domain_rules.specs.Network.{renews, nonce, draw_end, root_at}
use Rattle.domain_rules.specs.Frames.{frame_seal}
use Rattle.domain_rules.specs.Replies.{Taken, IsMessageFrom, replied_acts, taken_as, derived_acts, replaced_acts, installed_acts, group_acts, finished_acts, sent_acts}
use Rattle.domain_rules.specs.Rows.{Take}
use Rattle.domain_rules.proofs.Switching.{station_adds}
use Rattle.domain_rules.proofs.Parts.{same-refl, attempt_none, session_more, draws_more, associated_more}
use Rattle.node_base.specs.Pairs.{pair_at}
use Rattle.ccmp_guard.specs.Held.{Held}
use Rattle.data_frames.specs.Holding.{LeavesPairwise}
use Rattle.data_frames.proofs.Standing.{others}
use Rattle.data_frames.proofs.RepliedKeys.{replied_leaves}
use Rattle.group_key.specs.Keys.{Memories}
use Rattle.group_key.specs.Holds.{RemembersAll}
use Rattle.act_memory.proofs.RepliedActs.{IsAbout, about_draws, about_no_attempt, EndsNone, ends_pending, ends_associated, ends_session}
use Rattle.frame_intake.specs.declared.delivered.Heard.{Heard}
use Rattle.frame_intake.specs.Views.{message_fields}
use Rattle.supplicant.specs.State.{State as Supplicant, is_renewing}
use Rattle.supplicant.specs.Stands.{SupplicantStands}
use Rattle.supplicant.specs.Steps.{opening, opening_told, SupplicantOpens}
use Rattle.supplicant.specs.Taken.{IsNextNonce, may_renew}
use Rattle.supplicant.proofs.Opening.{ready_by}
use Rattle.station_node.specs.declared.attempt.Attempt.{Attempt}
use Rattle.station_node.specs.declared.session.Session.{Session}
use Rattle.station_node.specs.State.{State, memory_at}
use Rattle.station_node.specs.Parts.{peer_of_session, peer_pending, next_drawn, drawn_after, opens_by}
use Rattle.station_node.specs.Stands.{Stands, IsIn, HasAttempt}
use Rattle.station_node.specs.Steps.{IsTaken, turn}
use Rattle.station_node.specs.Handed.{renewal, IsRenewed}
use Rattle.station_node.proofs.Standing.{nobody, not_renewing, plain_cannot, beside_again, held_is}
use Rattle.station_node.proofs.Handed.{told_about, told_ends, renewing_by, attempt_some_on, stands-held}
use Rattle.station_node.proofs.Openings.{Opens, opens_is}

-- ---- the nonce that is drawn next

pub next_is : (d : Domain) (n : Node) (first drawn : ℕ) (h : List Act) → drawn ≡ first + draws h → IsNextNonce d first n h (next_drawn d n drawn)
next_is d n first drawn h is = by (nat_lt drawn draw_end) refl
  where
    by : (b : Bool) → nat_lt drawn draw_end ≡ b → IsNextNonce d first n h (if b then Some (nonce d n drawn) else None)
    by true low = (subst (λ (m : ℕ). m < draw_end) is (ltb-true drawn draw_end low), ap (nonce d n) is)
    by false high = subst (λ (m : ℕ). draw_end ≤ m) is (ltb-false drawn draw_end high)

-- either no attempt begins, or one under that nonce
abbrev pub HasBegun : Domain → Node → ℕ → Outcome → Type 0
HasBegun d n drawn o = (next_drawn d n drawn ≡ Some (nonce d n drawn)) × ((o ≡ Accepted) × (drawn_after o drawn ≡ drawn + 1))

abbrev pub HasNotBegun : Domain → Node → Node → ℕ → Outcome → Type 0
HasNotBegun d n q drawn o = (opening o q (next_drawn d n drawn) ≡ []) × (drawn_after o drawn ≡ drawn)

begins_or_not : (d : Domain) (n q : Node) (drawn : ℕ) (o : Outcome) → HasNotBegun d n q drawn o ⊎ HasBegun d n drawn o
begins_or_not d n q drawn Accepted = by (nat_lt drawn draw_end) refl
  where
    by : (b : Bool) → nat_lt drawn draw_end ≡ b → HasNotBegun d n q drawn Accepted ⊎ HasBegun d n drawn Accepted
    by true low = inr (ap (λ (c : Bool). if c then Some (nonce d n drawn) else None) low, (refl, ap (λ (c : Bool). if c then drawn + 1 else drawn) low))
    by false high = inl (ap (λ (c : Bool). opening Accepted q (if c then Some (nonce d n drawn) else None)) high, ap (λ (c : Bool). if c then drawn + 1 else drawn) high)
begins_or_not d n q drawn _ = inl (refl, refl)

-- ---- the station after it

abbrev pub opened_state : State → ℕ → ℕ → Supplicant → Held → State
opened_state s drawn a x k = record { number = s.number; drawn = drawn; attempt = s.attempt; session = Some (record { ap = a; supplicant = x; key = k }); memories = s.memories; r0kh_id = s.r0kh_id }

-- nothing was pending before
nothing_pends : (d : Domain) (s : State) (a : ℕ) (old : Supplicant) (k : Held) → s.attempt ≡ None → s.session ≡ Some (record { ap = a; supplicant = old; key = k }) → old.attempt ≡ None → peer_pending s.attempt s.session ≡ None
nothing_pends d s a old k none is idle =
    ap (λ (o : Option Attempt). peer_pending o s.session) none ∙ ap (λ (x : Option Session). peer_pending None x) is ∙ not_renewing old a k idle

-- the acts that follow on the beginning of the attempt
abbrev rest_acts : Domain → List ℕ → Node → ℕ → Reply → List Act
rest_acts d id n a r =
    derived_acts d (root_at d n id) n (Ap a) r.derived ++ replaced_acts (Ap a) false r.installed ++ installed_acts d (root_at d n id) n (Ap a) r.installed ++ group_acts groups.Gtk d (Ap a) r.gtk
    ++ group_acts groups.Igtk d (Ap a) r.igtk ++ finished_acts d (root_at d n id) n (Ap a) r.installed ++ sent_acts (Ap a) r

-- what they leave
pub record AreQuiet (a : ℕ) (took : Act) (rest : List Act) : Type 0 where
  pub about : AllByRecursion (IsAbout (Ap a)) (took ∷ rest)
  pub ends : AllByRecursion EndsNone (took ∷ rest)
  pub leaves : (tk : List ℕ) → AllByRecursion (LeavesPairwise (Ap a) tk) (took ∷ rest)

stands-begun : (d : Domain) (first : ℕ) (s : State) (h : List Act) (a : ℕ) (old new : Supplicant) (k : Held) (v : List ℕ) (took : Act) (rest : List Act) → renews d ≡ true → Stands d first s h → s.attempt ≡ None → s.session ≡ Some (record { ap = a; supplicant = old; key = k }) → old.attempt ≡ None
    → AreQuiet a took rest → SupplicantStands d (Sta s.number) (Ap a) new (add rest (Drew (Nonce v) ∷ Opened (Ap a) Renew ∷ took ∷ h))
    → ((q : Node) (ks : Memories) → RemembersAll q ks h → RemembersAll q ks (add rest (Drew (Nonce v) ∷ Opened (Ap a) Renew ∷ took ∷ h)))
    → Stands d first (opened_state s (s.drawn + 1) a new k) (add rest (Drew (Nonce v) ∷ Opened (Ap a) Renew ∷ took ∷ h))
stands-begun d first s h a old new k v took rest renewed st none is idle quiet stands remembers =
    let n : Node = Sta s.number in
    let m : List Act = Drew (Nonce v) ∷ Opened (Ap a) Renew ∷ took ∷ h in
    let l : List Act = add rest m in
    let z : Session = record { ap = a; supplicant = old; key = k } in
    let w : Session = record { ap = a; supplicant = new; key = k } in
    let place : IsIn d n a old k h = held_is d first s h a old k st is in
    let same_session : (q : Node) → session q l ≡ session q h = λ q. ends_session q rest m quiet.ends.1 ∙ session_more q took h (quiet.ends.0.finishes_none q) (quiet.ends.0.closes_none q) in
    let there : is_some (session (Ap a) l) ≡ true = ap (λ (o : Option Derivation). is_some o) (same_session (Ap a) ∙ place.keyed.is) in
    let tried : is_some (attempt (Ap a) l) ≡ true = attempt_some_on (Ap a) (Ap a) rest m quiet.about.1 quiet.ends.1 ∙ opened_there a v took h in
    let renewing : is_renewing new ≡ true = renewing_by d n (Ap a) new l stands ∙ ap (λ (c : Bool). c && is_some (session (Ap a) l)) tried ∙ there in
    let pends : peer_pending s.attempt (Some w) ≡ Some (Ap a) = ap (λ (o : Option Attempt). peer_pending o (Some w)) none ∙ ap (λ (c : Bool). cond c (Some (Ap a)) None) renewing in
    let counted : draws l ≡ suc (draws h) = about_draws (Ap a) rest m quiet.about.1 ∙ ap (λ (x : ℕ). suc x) (draws_more took h quiet.about.0.draws_none) in
    record {
      draws_are = omega (arith, st.draws_are, counted);
      pending_is = ends_pending rest m quiet.ends.1 ∙ sym pends;
      associated_is = ends_associated rest m quiet.ends.1 ∙ associated_more took h quiet.ends.0.leaves_session ∙ st.associated_is ∙ ap peer_of_session is;
      alone = beside_again s.attempt s.session z w is refl st.alone;
      attempt_is = subst (λ (o : Option Attempt). HasAttempt d n o l) (sym none) tt;
      session_is = record {
        listed = place.listed;
        stands = stands;
        keyed = record {
          key = place.keyed.key;
          is = same_session (Ap a) ∙ place.keyed.is;
          holds = others (Ap a) place.keyed.key.ptk.tk k (took ∷ Opened (Ap a) Renew ∷ Drew (Nonce v) ∷ rest) h place.keyed.holds
              ((quiet.leaves place.keyed.key.ptk.tk).0, (record { used = λ g. refl; got = λ tid g. refl }, (record { used = λ g. refl; got = λ tid g. refl }, (quiet.leaves place.keyed.key.ptk.tk).1)));
        };
      };
      no_attempt = λ q other. about_no_attempt (Ap a) (Ap q) rest m quiet.about.1
          (attempt_none (Ap q) (Drew (Nonce v)) (Opened (Ap a) Renew ∷ took ∷ h) refl
          (attempt_none (Ap q) (Opened (Ap a) Renew) (took ∷ h) (ne_eqb q a (λ e. other (pends ∙ ap (λ (x : ℕ). Some (Ap x)) (sym e))))
          (attempt_none (Ap q) took h (quiet.about.0.opens_none (Ap q)) (st.no_attempt q (nobody (peer_pending s.attempt s.session) q (nothing_pends d s a old k none is idle))))));
      no_session = λ q other. same_session (Ap q) ∙ st.no_session q (λ e. other (sym (ap peer_of_session is) ∙ e));
      remembers = λ q. remembers (Ap q) (memory_at s.memories q) (st.remembers q);
      ids = st.ids;
      holder = λ suite. absurd (plain_cannot d suite renewed);
    }
  where
    opened_there : (a : ℕ) (v : List ℕ) (took : Act) (h : List Act) → is_some (attempt (Ap a) (Drew (Nonce v) ∷ Opened (Ap a) Renew ∷ took ∷ h)) ≡ true
    opened_there a v took h = rw (same-refl (Ap a)) refl

-- ---- by what its supplicant did

-- its acts, with those after the message was taken
abbrev acts_with : Domain → State → ℕ → Supplicant → Taken → Reply → List Act → List Act
acts_with d s a new t r opened = replied_acts (pair_at d new.base.r0kh_id (Sta s.number) (Ap a)) false t r (record { opened = opened; put = [] })

-- where no attempt begins
as_before : (d : Domain) (first : ℕ) (s : State) (h : List Act) (a : ℕ) (t : Taken) (r : Reply) (old new : Supplicant) (k : Held) → Stands d first s h → s.session ≡ Some (record { ap = a; supplicant = old; key = k }) → r.installed ≡ None
    → SupplicantOpens (here d first (Sta s.number)) (Ap a) (next_drawn d (Sta s.number) s.drawn) t new r h → HasNotBegun d (Sta s.number) (Ap a) s.drawn t.outcome
    → Stands d first (opened_state s (drawn_after t.outcome s.drawn) a new k) (add (acts_with d s a new t r (opening t.outcome (Ap a) (next_drawn d (Sta s.number) s.drawn))) h)
as_before d first s h a t r old new k st is plain steps not_begun =
    let n : Node = Sta s.number in
    subst (λ (m : ℕ). Stands d first (opened_state s m a new k) (add (acts_with d s a new t r (opening t.outcome (Ap a) (next_drawn d n s.drawn))) h)) (sym not_begun.1)
    (subst (λ (o : List Act). Stands d first (opened_state s s.drawn a new k) (add (acts_with d s a new t r o) h)) (sym not_begun.0)
    (stands-held d first s h a false t r old new k s.memories st is plain (record { others = λ q other. refl }) (st.ids a)
    (subst (λ (o : List Act). SupplicantStands d n (Ap a) new (add (acts_with d s a new t r o) h)) not_begun.0 steps.stands)
    (subst (λ (o : List Act). RemembersAll (Ap a) (memory_at s.memories a) (add (acts_with d s a new t r o) h)) not_begun.0 (steps.remembers (Ap a) (memory_at s.memories a) (st.remembers a)))))

-- and where one does
as_begun : (d : Domain) (first : ℕ) (s : State) (h : List Act) (a : ℕ) (t : Taken) (r : Reply) (old new : Supplicant) (k : Held) → renews d ≡ true → Stands d first s h → s.attempt ≡ None → s.session ≡ Some (record { ap = a; supplicant = old; key = k }) → old.attempt ≡ None → r.installed ≡ None
    → SupplicantOpens (here d first (Sta s.number)) (Ap a) (next_drawn d (Sta s.number) s.drawn) t new r h → HasBegun d (Sta s.number) s.drawn t.outcome
    → Stands d first (opened_state s (drawn_after t.outcome s.drawn) a new k) (add (acts_with d s a new t r (opening t.outcome (Ap a) (next_drawn d (Sta s.number) s.drawn))) h)
as_begun d first s h a t r old new k renewed st none is idle plain steps begun =
    let n : Node = Sta s.number in
    let id : List ℕ = new.base.r0kh_id in
    let v : List ℕ = nonce d n s.drawn in
    let opened : opening t.outcome (Ap a) (next_drawn d n s.drawn) ≡ Opened (Ap a) Renew ∷ Drew (Nonce v) ∷ [] =
    ap (λ (o : Outcome). opening o (Ap a) (next_drawn d n s.drawn)) begun.1.0 ∙ ap (opening Accepted (Ap a)) begun.0 in
    let took : Act = Took (Some (Ap a)) t.octets (kind.Key t.message.message) t.outcome (option_map (λ (kck : List ℕ). frame_seal kck t.message.octets) r.verified) in
    subst (λ (m : ℕ). Stands d first (opened_state s m a new k) (add (acts_with d s a new t r (opening t.outcome (Ap a) (next_drawn d n s.drawn))) h)) (sym begun.1.1)
    (subst (λ (o : List Act). Stands d first (opened_state s (s.drawn + 1) a new k) (add (acts_with d s a new t r o) h)) (sym opened)
    (stands-begun d first s h a old new k v took (rest_acts d id n a r) renewed st none is idle
    (record {
      about = (told_about d id n a false t r h).about;
      ends = told_ends d id n a false t r plain;
      leaves = λ tk. replied_leaves d (root_at d n id) n (Ap a) (Ap a) tk false t.octets t.message t.outcome r plain;
    })
    (subst (λ (o : List Act). SupplicantStands d n (Ap a) new (add (acts_with d s a new t r o) h)) opened steps.stands)
    (λ q ks remembers. subst (λ (o : List Act). RemembersAll q ks (add (acts_with d s a new t r o) h)) opened (steps.remembers q ks remembers))))

pub stands-opened : (d : Domain) (first : ℕ) (s : State) (h : List Act) (a : ℕ) (t : Taken) (r : Reply) (old new : Supplicant) (k : Held) → renews d ≡ true → Stands d first s h → s.attempt ≡ None → s.session ≡ Some (record { ap = a; supplicant = old; key = k }) → old.attempt ≡ None
    → r.installed ≡ None → SupplicantOpens (here d first (Sta s.number)) (Ap a) (next_drawn d (Sta s.number) s.drawn) t new r h
    → Stands d first (opened_state s (drawn_after t.outcome s.drawn) a new k) (add (opening_told (here d first (Sta s.number)) (Ap a) new.base.r0kh_id (next_drawn d (Sta s.number) s.drawn) t r) h)
stands-opened d first s h a t r old new k renewed st none is idle plain steps = elim (begins_or_not d (Sta s.number) (Ap a) s.drawn t.outcome) [
  | inl not_begun ↦ as_before d first s h a t r old new k st is plain steps not_begun
  | inr begun ↦ as_begun d first s h a t r old new k renewed st none is idle plain steps begun
]

-- the message and the acts, in a session of that access point
pub taken-opened : (d : Domain) (s : State) (p : ℕ) (m : Heard) (k : Held) (old new : Supplicant) (waited waits : List Act) (outcome : Outcome) → Opens d s p m.message.message → s.session ≡ Some (record { ap = p; supplicant = old; key = k })
    → IsMessageFrom d (Sta s.number) (Ap p) m.octets.now (message_fields m.message)
    → IsRenewed d (Sta s.number) (Ap p) m (next_drawn d (Sta s.number) s.drawn) (renewal old new waited waits) outcome
    → IsTaken d (Take m.octets.now) (turn s (opened_state s (drawn_after outcome s.drawn) p new k) waited waits) outcome
taken-opened d s p m k old new waited waits outcome o is from x = record {
  number = refl;
  steps = λ first h st. (
      let n : Node = Sta s.number in
      let v : Option (List ℕ) = next_drawn d n s.drawn in
      let z : Session = record { ap = p; supplicant = old; key = k } in
      let same : o.z ≡ z = (let both = sym o.is ∙ is in cc) in
      let idle : old.attempt ≡ None = ap (λ (y : Session). y.supplicant.attempt) (sym same) ∙ (ready_by o.z.supplicant o.ready).none in
      let place : IsIn d n p old k h = held_is d first s h p old k st is in
      let nobody_pends : pending h ≡ None = st.pending_is ∙ nothing_pends d s p old k o.none is idle in
      let t : Taken = taken_as m.octets.now (message_fields m.message) outcome in
      let steps : SupplicantOpens (here d first n) (Ap p) v t new x.reply h = x.taken.steps d first s.number p m.octets.now (message_fields m.message) h place.stands from o.is_first refl o.renewed nobody_pends (next_is d n first s.drawn h st.draws_are) in
      record {
        acts = opening_told (here d first n) (Ap p) new.base.r0kh_id v t x.reply;
        adds = station_adds d first s.number h (Take m.octets.now) (opening_told (here d first n) (Ap p) new.base.r0kh_id v t x.reply) steps.adds;
        waiting = x.acts;
        came = refl;
        stands = stands-opened d first s h p t x.reply old new k o.renewed st o.none is idle x.taken.installs steps;
      });
  refused = λ w e. (
      ap (λ (y : Outcome). opened_state s (drawn_after y s.drawn) p new k) e ∙ ap (λ (y : Supplicant). opened_state s s.drawn p y k) (x.taken.refused w e)
      ∙ ap (λ (y : Option Session). record { number = s.number; drawn = s.drawn; attempt = s.attempt; session = y; memories = s.memories; r0kh_id = s.r0kh_id }) (sym is));
}

-- ---- by what the code gave

-- of the session that there is
pub ready_there : (d : Domain) (s : State) (p : ℕ) (m : Message) (x : Session) → opens_by d s.attempt s.session p m ≡ true → s.session ≡ Some x → (x.ap ≡ p) × ((may_renew x.supplicant ≡ true) × (m ≡ M1))
ready_there d s p m x opens is =
    let o = opens_is d s p m opens in
    let same : o.z ≡ x = (let both = sym o.is ∙ is in cc) in
    (ap (λ (z : Session). z.ap) (sym same) ∙ o.here, (ap (λ (z : Session). may_renew z.supplicant) (sym same) ∙ o.ready, o.is_first))

pub none_there : (d : Domain) (s : State) (p : ℕ) (m : Message) → opens_by d s.attempt s.session p m ≡ true → s.session ≡ None → ⊥
none_there d s p m opens none = let o = opens_is d s p m opens in let both = sym o.is ∙ none in cc both

whole_session : (x : Session) (p : ℕ) → x.ap ≡ p → Some x ≡ Some (record { ap = p; supplicant = x.supplicant; key = x.key })
whole_session x p here = ap (λ (q : ℕ). Some (record { ap = q; supplicant = x.supplicant; key = x.key })) here

pub handed-opened : (d : Domain) (s : State) (p : ℕ) (m : Heard) (x : Session) (new : Supplicant) (v : Option (List ℕ)) (drawn : ℕ) (waited waits : List Act) (outcome : Outcome) → opens_by d s.attempt s.session p m.message.message ≡ true → s.session ≡ Some x
    → IsMessageFrom d (Sta s.number) (Ap p) m.octets.now (message_fields m.message) → v ≡ next_drawn d (Sta s.number) s.drawn → drawn ≡ drawn_after outcome s.drawn
    → IsRenewed d (Sta s.number) (Ap p) m v (renewal x.supplicant new waited waits) outcome
    → IsTaken d (Take m.octets.now) (turn s (opened_state s drawn x.ap new x.key) waited waits) outcome
handed-opened d s p m x new v drawn waited waits outcome opens is from v_is drawn_is renewed =
    let here : x.ap ≡ p = (ready_there d s p m.message.message x opens is).0 in
    subst (λ (q : ℕ). IsTaken d (Take m.octets.now) (turn s (opened_state s drawn q new x.key) waited waits) outcome) (sym here)
    (subst (λ (n : ℕ). IsTaken d (Take m.octets.now) (turn s (opened_state s n p new x.key) waited waits) outcome) (sym drawn_is)
    (taken-opened d s p m x.key x.supplicant new waited waits outcome (opens_is d s p m.message.message opens) (is ∙ whole_session x p here) from
    (subst (λ (w : Option (List ℕ)). IsRenewed d (Sta s.number) (Ap p) m w (renewal x.supplicant new waited waits) outcome) v_is renewed)))

-- and where there was no memory
pub left-opened : (s : State) (x : Session) (new : Supplicant) → s.session ≡ Some x → new ≡ x.supplicant → opened_state s s.drawn x.ap new x.key ≡ s
left-opened s x new is same =
    ap (λ (y : Supplicant). opened_state s s.drawn x.ap y x.key) same
    ∙ ap (λ (o : Option Session). record { number = s.number; drawn = s.drawn; attempt = s.attempt; session = o; memories = s.memories; r0kh_id = s.r0kh_id }) (sym is)

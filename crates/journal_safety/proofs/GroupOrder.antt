-- The group keys that a station takes from one access point never go back in the order of drawing.
use Rattle.std.proofs.Common.{ℕ, suc, ◌≡◌, ◌<◌, ◌⊎◌, inl, inr, ⊎_elim, Bool, true, false, not, cond, List, ◌∷◌, ◌++◌, Option, Some, None, refl, sym, ap, ◌∙◌, subst, arith}
use Rattle.domain_base.specs.declared.names.Mac.{Mac}
use Rattle.domain_base.specs.declared.names.Node.{Node}
use Rattle.domain_base.specs.declared.names.Peer.TheVariants.{One}
use Rattle.eapol_key.specs.declared.messages.Message.TheVariants.{M3, G1}
use Rattle.key_hierarchy.specs.Keys.{ptk}
use Rattle.key_hierarchy.specs.declared.inputs.Inputs.{Inputs}
use Rattle.run_journal.specs.declared.acts.GroupKind.{GroupKind}
use Rattle.run_journal.specs.declared.acts.GroupKind.TheVariants as groups
use Rattle.run_journal.specs.declared.domain.Domain.{Domain}
use Rattle.run_journal.specs.declared.acts.Drawn.TheVariants.{Nonce}
use Rattle.run_journal.specs.declared.acts.Kind.{Kind}
use Rattle.run_journal.specs.declared.acts.Kind.TheVariants as kind
use Rattle.run_journal.specs.declared.acts.Outcome.TheVariants.{Accepted}
use Rattle.run_journal.specs.declared.acts.Part.TheVariants.{Session}
use Rattle.run_journal.specs.declared.acts.Seal.{Seal}
use Rattle.run_journal.specs.declared.acts.Key.TheVariants.{Group}
use Rattle.run_journal.specs.declared.acts.Act.{Act}
use Rattle.run_journal.specs.declared.acts.Act.TheVariants.{Closed, Drew, Sent, Took, Installed, Finished}
use Rattle.run_journal.specs.declared.acts.Entry.{Entry}
use Rattle.run_journal.specs.Acts.{Derivation}
use Rattle.run_journal.specs.Events.{can_renew}
use Rattle.run_journal.specs.Questions.{history, attempt, since, chain, derivation, session, before_sent}
use Rattle.run_journal.specs.Premises.{In, drawn}
use Rattle.domain_rules.specs.Network.{is_ap, has_renewals}
use Rattle.domain_rules.specs.Frames.{keyed_by}
use Rattle.domain_rules.specs.Asking.{in_renewal, is_by_renewal, replay_counter}
use Rattle.domain_rules.specs.Counters.{takes_counter, next_in_session}
use Rattle.domain_rules.proofs.Parts.{same-refl, since_part, attempt_more}
use Rattle.std.proofs.lemmas.Bool.{and_parts}
use Rattle.journal_safety.proofs.Covers.{covered_counter}
use Rattle.journal_safety.proofs.Ends.{Tail, tail_refl, tail_rest, tail_trans, tail_total, tail_in, Order, Same, First, Second, order, history_tail, end_of}
use Rattle.journal_safety.proofs.Legal.{covered_kind, nonce_of, installs_key, Alive, IsNewest, CarriesM2, CarriesM3, CarriesG1, Carries, seal_under, Given, Above, GivenM3, GivenG1, GivenRenewal, By_m3, By_g1, By_renewal, LegalGroup, LegalFinished, LegalHistory}
use Rattle.journal_safety.proofs.Between.{tail_between, past_between, since_between, session_between}
use Rattle.journal_safety.proofs.Histories.{alive_drew}
use Rattle.journal_safety.proofs.Sessions.{session_finished, single, renewing}
use Rattle.journal_safety.proofs.Runs.{legal_history}
use Rattle.journal_safety.proofs.Places.{Good, good_tail, At, at_of, legal_at, earlier_tail, Draws, draws_wider, wider_place}
use Rattle.journal_safety.proofs.Seals.{SealedBy, sealed_tail, verified_by}
use Rattle.journal_safety.proofs.Pairwise.{FreshHistory, fresh_history, unfinished, alive_over}
use Rattle.journal_safety.proofs.Spans.{DrawnIn, in_after, since_kept, renewal_kept, since_chain, chain_alive, chain_session, settles, tail_self, SessionFrom, session_from, rises}
use Rattle.journal_safety.proofs.Built.{Origin, In_attempt, In_session, BuiltAt, built_tail, given_sealed, carried_m3, carried_g1, built_at, Common, common, installed_group, own_history, at_history, at_tail, at_in, drawn_history, one_place, Known, verified_draws}

-- ---- counters that were taken in the chain of a session

counts_g1 : (s : Node) (octets : List ℕ) (seal : Option Seal) (k : Kind) (renewal : Bool) → k ≡ kind.Key G1 → takes_counter s renewal (Sent (One s) k octets seal) ≡ true
counts_g1 s octets seal k renewal is = subst (λ (x : Kind). takes_counter s renewal (Sent (One s) x octets seal) ≡ true) (sym is) (rw (same-refl s) refl)

counts_m3 : (s : Node) (octets : List ℕ) (seal : Option Seal) (k : Kind) (renewal : Bool) → k ≡ kind.Key M3 → renewal ≡ true → takes_counter s renewal (Sent (One s) k octets seal) ≡ true
counts_m3 s octets seal k renewal is begun = subst (λ (x : Kind). takes_counter s renewal (Sent (One s) x octets seal) ≡ true) (sym is) (rw (same-refl s, begun) refl)

taken_by : (n : ℕ) (b : Bool) → b ≡ true → cond b (suc n) n ≡ suc n
taken_by n true is = refl
taken_by n false is = cc is

taken_counter : (s : Node) (k : Kind) (octets : List ℕ) (seal : Option Seal) (h : List Act) → takes_counter s (in_renewal (attempt s h)) (Sent (One s) k octets seal) ≡ true → next_in_session s (Sent (One s) k octets seal ∷ h) ≡ suc (next_in_session s h)
taken_counter s k octets seal h counted = taken_by (next_in_session s h) (takes_counter s (in_renewal (attempt s h)) (Sent (One s) k octets seal)) counted

sent_place : (d : Domain) (n s : Node) (i : Inputs) (covered : List ℕ) (past : List Entry) → (w : SealedBy d s n i covered past) → Tail (w.sent ∷ w.earlier) past
sent_place d n s i covered past w = tail_trans (w.sent ∷ w.earlier) w.before past w.sent_tail (tail_rest w.taken w.before past w.taken_tail)

pub sent_history : (d : Domain) (n s : Node) (i : Inputs) (covered : List ℕ) (past : List Entry) → (w : SealedBy d s n i covered past) → history n (w.sent ∷ w.earlier) ≡ Sent (One s) w.kind w.octets (Some (seal_under i covered)) ∷ history n w.earlier
sent_history d n s i covered past w = subst (λ (y : Act). history n (w.sent ∷ w.earlier) ≡ y ∷ history n w.earlier) w.sent_is (own_history n w.sent w.earlier w.sent_at)

-- had the second been sent first, in the session of the first
no_swap : (d : Domain) (n s : Node) (i j : Inputs) (c1 c2 : List ℕ) (past : List Entry) → Good d past → (a : SealedBy d s n i c1 past) → (b : SealedBy d s n j c2 past) → Tail (b.sent ∷ b.earlier) a.earlier → covered_counter c1 < covered_counter c2 → session s (history n a.earlier) ≡ Some (keyed_by i)
    → covered_counter c1 ≡ next_in_session s (history n a.earlier) → covered_counter c2 ≡ next_in_session s (history n b.earlier) → takes_counter s (in_renewal (attempt s (history n b.earlier))) (Sent (One s) b.kind b.octets (Some (seal_under j c2))) ≡ true → In (Finished s i) (history n b.earlier) → ⊥
no_swap d n s i j c1 c2 past g a b t lt awaited first second counted fin =
    let good = good_tail d a.earlier past (sealed_tail d s n i c1 past a) g in
    let sent_ : Act = Sent (One s) b.kind b.octets (Some (seal_under j c2)) in
    let tail : Tail (sent_ ∷ history n b.earlier) (history n a.earlier) = subst (λ (y : List Act). Tail y (history n a.earlier)) (sent_history d n s j c2 past b) (history_tail n (b.sent ∷ b.earlier) a.earlier t) in
    let up = rises d n s i (sent_ ∷ history n b.earlier) (history n a.earlier) (legal_history d n a.earlier good.legal) (fresh_history n a.earlier good.fresh) tail (inr fin) awaited in
    let bump = taken_counter s b.kind b.octets (Some (seal_under j c2)) (history n b.earlier) counted in
    omega (arith, lt, first, second, up, bump)

-- ---- two messages in the order of their counters

-- what is so at the access point of the first, a G1
record Earlier (which : GroupKind) (d : Domain) (n s : Node) (i : Inputs) (covered : List ℕ) (past : List Entry) : Type 0 where
  sealed : SealedBy d s n i covered past
  carries : CarriesG1 which n (history n sealed.earlier) s i covered
  good : Good d sealed.earlier
  from : SessionFrom n s i sealed.earlier
  good_from : Good d from.at.earlier
  legal_from : LegalFinished d n (history n from.at.earlier) s i

earlier_g1 : (which : GroupKind) (d : Domain) (n s : Node) (i : Inputs) (covered : List ℕ) (past : List Entry) → Good d past → (w : SealedBy d s n i covered past) → CarriesG1 which n (history n w.earlier) s i covered → Earlier which d n s i covered past
earlier_g1 which d n s i covered past g w c =
    let good = good_tail d w.earlier past (sealed_tail d s n i covered past w) g in
    let from = session_from d n s i w.earlier good c.awaited in
    record {
      sealed = w;
      carries = c;
      good = good;
      from = from;
      good_from = good_tail d from.at.earlier w.earlier (earlier_tail n (Finished s i) w.earlier from.at) good;
      legal_from = legal_at d n (Finished s i) w.earlier good.legal from.at;
    }

-- the same of a G1 that is known where it stands
second_g1 : (which : GroupKind) (d : Domain) (n s : Node) (i : Inputs) (covered : List ℕ) (past : List Entry) → Good d past → (w : SealedBy d s n i covered past) → CarriesG1 which n (history n w.earlier) s i covered → (e : Earlier which d n s i covered past) × (e.sealed.earlier ≡ w.earlier)
unfolding earlier_g1
second_g1 which d n s i covered past g w c = (earlier_g1 which d n s i covered past g w c, refl)

-- two G1
after_g1 : (which : GroupKind) (d : Domain) (n s : Node) (i j : Inputs) (c1 c2 : List ℕ) (past : List Entry) → Good d past → (a : Earlier which d n s i c1 past) → (b : Earlier which d n s j c2 past) → covered_kind c2 ≡ kind.Key G1 → covered_counter c1 < covered_counter c2 → (i ≡ j) ⊎ Known n s i j past → Tail a.sealed.earlier b.sealed.earlier
after_g1 which d n s i j c1 c2 past g a b kind_is lt known = go (order a.sealed.sent a.sealed.earlier b.sealed.sent b.sealed.earlier past (sent_place d n s i c1 past a.sealed) (sent_place d n s j c2 past b.sealed))
  where
    before : Tail (b.sealed.sent ∷ b.sealed.earlier) a.from.at.earlier → (i ≡ j) ⊎ Known n s i j past → ⊥
    before u (inl is) = alive_over d n s i (history n a.from.at.earlier) (legal_history d n a.from.at.earlier a.good_from.legal) (fresh_history n a.from.at.earlier a.good_from.fresh) a.legal_from.alive
        (tail_in (history n b.sealed.earlier) (history n a.from.at.earlier) (Finished s i) (history_tail n b.sealed.earlier a.from.at.earlier (tail_rest b.sealed.sent b.sealed.earlier a.from.at.earlier u))
        (subst (λ (x : Inputs). In (Finished s x) (history n b.sealed.earlier)) (sym is) (session_finished d n s (history n b.sealed.earlier) (keyed_by j) (legal_history d n b.sealed.earlier b.good.legal) b.carries.awaited)))
    before u (inr f) =
        let t2 : Tail b.from.at.earlier past = tail_trans b.from.at.earlier b.sealed.earlier past (earlier_tail n (Finished s j) b.sealed.earlier b.from.at) (sealed_tail d s n j c2 past b.sealed) in
        let dr = f b.from.at.earlier t2 (verified_draws d n s j b.from.at.earlier b.good_from b.legal_from.verified) in
        let tl = tail_trans (b.from.at.entry ∷ b.from.at.earlier) b.sealed.earlier a.from.at.earlier b.from.at.tail (tail_rest b.sealed.sent b.sealed.earlier a.from.at.earlier u) in
        unfinished s j (history n a.from.at.earlier) a.legal_from.alive.part a.legal_from.alive.awaited
        (in_after s (nonce_of n i) (Finished s j) (history n b.from.at.earlier) (history n a.from.at.earlier) a.legal_from.alive.part (fresh_history n a.from.at.earlier a.good_from.fresh)
        (at_tail n (Finished s j) b.sealed.earlier b.from.at a.from.at.earlier tl) a.legal_from.alive.awaited a.legal_from.alive.own (drawn_history n (nonce_of n i) b.from.at.earlier dr))

    swap : Tail (b.sealed.sent ∷ b.sealed.earlier) a.sealed.earlier → Order a.from.at.entry a.from.at.earlier b.sealed.sent b.sealed.earlier → ⊥
    swap t (Same is are) = let w : Finished s i ≡ Sent (One s) b.sealed.kind b.sealed.octets (Some (seal_under j c2)) = sym a.from.at.is ∙ ap (λ (x : Entry). x.act) is ∙ b.sealed.sent_is in cc w
    swap t (First u) =
        no_swap d n s i j c1 c2 past g a.sealed b.sealed t lt a.carries.awaited a.carries.counter b.carries.counter
        (counts_g1 s b.sealed.octets (Some (seal_under j c2)) b.sealed.kind (in_renewal (attempt s (history n b.sealed.earlier))) (b.sealed.kind_is ∙ kind_is))
        (at_in n (Finished s i) a.sealed.earlier b.sealed.earlier a.from.at u)
    swap t (Second u) = before u known

    go : Order a.sealed.sent a.sealed.earlier b.sealed.sent b.sealed.earlier → Tail a.sealed.earlier b.sealed.earlier
    go (Same is are) = subst (λ (x : List Entry). Tail a.sealed.earlier x) are (tail_refl a.sealed.earlier)
    go (First t) = tail_rest a.sealed.sent a.sealed.earlier b.sealed.earlier t
    go (Second t) = absurd (swap t (order a.from.at.entry a.from.at.earlier b.sealed.sent b.sealed.earlier a.sealed.earlier a.from.at.tail t))

-- after an M3 that is sent there is a first one
pub some_m3 : (s : Node) (octets : List ℕ) (seal : Option Seal) (h : List Act) → (past : List Act) × (before_sent s (kind.Key M3) (Sent (One s) (kind.Key M3) octets seal ∷ h) ≡ Some past)
some_m3 s octets seal h = go (before_sent s (kind.Key M3) h) refl
  where
    go : (o : Option (List Act)) → before_sent s (kind.Key M3) h ≡ o → (past : List Act) × (before_sent s (kind.Key M3) (Sent (One s) (kind.Key M3) octets seal ∷ h) ≡ Some past)
    go None is = (h, rw (is, same-refl s) refl)
    go (Some x) is = (x, rw is refl)

-- a G1 of the old session, and an M3 of its renewal
after_m3 : (which : GroupKind) (d : Domain) (n s : Node) (i j : Inputs) (c1 c2 : List ℕ) (past : List Entry) → Good d past → is_ap n ≡ true → (a : Earlier which d n s i c1 past) → (w : SealedBy d s n j c2 past) → covered_kind c2 ≡ kind.Key M3 → covered_counter c1 < covered_counter c2 → CarriesM3 d which n (history n w.earlier) s j c2
    → in_renewal (attempt s (history n w.earlier)) ≡ true → (i ≡ j → ⊥) → Known n s i j past → Tail a.sealed.earlier w.earlier
after_m3 which d n s i j c1 c2 past g role a w kind_is lt c renewal unlike known = go (order a.sealed.sent a.sealed.earlier w.sent w.earlier past (sent_place d n s i c1 past a.sealed) (sent_place d n s j c2 past w))
  where
    good_w : Good d w.earlier
    good_w = good_tail d w.earlier past (sealed_tail d s n j c2 past w) g

    dr : DrawnIn (nonce_of n i) (history n w.earlier)
    dr = drawn_history n (nonce_of n i) w.earlier (known w.earlier (sealed_tail d s n j c2 past w) (verified_draws d n s j w.earlier good_w c.seen.verified))

    here : Tail (w.sent ∷ w.earlier) a.from.at.earlier → Tail (Sent (One s) (kind.Key M3) w.octets (Some (seal_under j c2)) ∷ history n w.earlier) (history n a.from.at.earlier)
    here u = subst (λ (k : Kind). Tail (Sent (One s) k w.octets (Some (seal_under j c2)) ∷ history n w.earlier) (history n a.from.at.earlier)) (w.kind_is ∙ kind_is)
        (subst (λ (y : List Act). Tail y (history n a.from.at.earlier)) (sent_history d n s j c2 past w) (history_tail n (w.sent ∷ w.earlier) a.from.at.earlier u))

    before : Tail (w.sent ∷ w.earlier) a.from.at.earlier → ⊥
    before u =
        let m3_ : Act = Sent (One s) (kind.Key M3) w.octets (Some (seal_under j c2)) in
        let had = some_m3 s w.octets (Some (seal_under j c2)) (history n w.earlier) in
        let last : derivation s c.current.alive.part ≡ Some (keyed_by j) = subst (λ (y : List Act). derivation s y ≡ Some (keyed_by j)) (since_part s (history n w.earlier) c.current.alive.part c.current.alive.awaited) c.current.last in
        let r = settles d n s (nonce_of n i) (m3_ ∷ history n w.earlier) (history n a.from.at.earlier) a.legal_from.alive.part (m3_ ∷ c.current.alive.part) j had.0 role
        (legal_history d n a.from.at.earlier a.good_from.legal) (fresh_history n a.from.at.earlier a.good_from.fresh) (here u) a.legal_from.alive.awaited a.legal_from.alive.own (dr.0, (dr.1.0, inr dr.1.1))
        (attempt_more s m3_ (history n w.earlier) c.current.alive.part refl refl c.current.alive.awaited) had.1 last in
        let x : derivation s a.legal_from.alive.part ≡ Some (keyed_by i) = subst (λ (y : List Act). derivation s y ≡ Some (keyed_by i)) (since_part s (history n a.from.at.earlier) a.legal_from.alive.part a.legal_from.alive.awaited) a.legal_from.current in
        let same_key : keyed_by i ≡ keyed_by j = cc (x, r.last) in
        unlike (ap (λ (y : Derivation). y.inputs) same_key)

    swap : Tail (w.sent ∷ w.earlier) a.sealed.earlier → Order a.from.at.entry a.from.at.earlier w.sent w.earlier → ⊥
    swap t (Same is are) = let e : Finished s i ≡ Sent (One s) w.kind w.octets (Some (seal_under j c2)) = sym a.from.at.is ∙ ap (λ (x : Entry). x.act) is ∙ w.sent_is in cc e
    swap t (First u) =
        no_swap d n s i j c1 c2 past g a.sealed w t lt a.carries.awaited a.carries.counter (c.renewed renewal).counter
        (counts_m3 s w.octets (Some (seal_under j c2)) w.kind (in_renewal (attempt s (history n w.earlier))) (w.kind_is ∙ kind_is) renewal)
        (at_in n (Finished s i) a.sealed.earlier w.earlier a.from.at u)
    swap t (Second u) = before u

    go : Order a.sealed.sent a.sealed.earlier w.sent w.earlier → Tail a.sealed.earlier w.earlier
    go (Same is are) = subst (λ (x : List Entry). Tail a.sealed.earlier x) are (tail_refl a.sealed.earlier)
    go (First t) = tail_rest a.sealed.sent a.sealed.earlier w.earlier t
    go (Second t) = absurd (swap t (order a.from.at.entry a.from.at.earlier w.sent w.earlier a.sealed.earlier a.from.at.tail t))

-- ---- never back in the order of drawing

-- the first key was the newest at an earlier moment than the second, or at the same
pub record Later (which : GroupKind) (n : Node) (g h : List ℕ) (past : List Entry) : Type 0 where
  pub one : List Entry
  pub two : List Entry
  pub order : Tail one two
  pub inside : Tail two past
  pub first : IsNewest which g (history n one)
  pub second : IsNewest which h (history n two)

-- the first inputs' session began before the nonce of the second was drawn, or after
known_of : (d : Domain) (n s : Node) (i j : Inputs) (past : List Entry) → Good d past → (f : At s (Finished n i) past) → (dr : Draws s (nonce_of s j) past) → Known n s i j past ⊎ Tail (dr.at.entry ∷ dr.at.earlier) f.earlier
known_of d n s i j past g f dr = go (order f.entry f.earlier dr.at.entry dr.at.earlier past f.tail dr.at.tail)
  where
    good_f : Good d f.earlier
    good_f = good_tail d f.earlier past (earlier_tail s (Finished n i) past f) g

    legal_f : LegalFinished d s (history s f.earlier) n i
    legal_f = legal_at d s (Finished n i) past g.legal f

    by : SealedBy d s n i legal_f.verified.covered f.earlier
    by = verified_by d s n i f.earlier good_f legal_f.verified

    know : Tail (f.entry ∷ f.earlier) dr.at.earlier → (x : List Entry) → Tail x past → Draws s (nonce_of s j) x → Draws n (nonce_of n i) x
    know u x t w =
        let wide : Draws s (nonce_of s j) past = draws_wider s (nonce_of s j) x past t w in
        let one : wide.at.earlier ≡ dr.at.earlier = one_place s (nonce_of s j) past g.fresh wide dr in
        let same_place : w.at.earlier ≡ wide.at.earlier = wider_place s (nonce_of s j) x past t w in
        let in_x : Tail w.at.earlier x = earlier_tail s w.x x w.at in
        draws_wider n (nonce_of n i) by.earlier x
        (tail_trans by.earlier f.earlier x (sealed_tail d s n i legal_f.verified.covered f.earlier by) (tail_trans f.earlier dr.at.earlier x (tail_rest f.entry f.earlier dr.at.earlier u) (subst (λ (y : List Entry). Tail y x) (same_place ∙ one) in_x))) by.facts.draw

    go : Order f.entry f.earlier dr.at.entry dr.at.earlier → Known n s i j past ⊎ Tail (dr.at.entry ∷ dr.at.earlier) f.earlier
    go (Same is are) = let w : Finished n i ≡ dr.x = sym f.is ∙ ap (λ (x : Entry). x.act) is ∙ dr.at.is in let none : None ≡ Some (nonce_of s j) = ap drawn w ∙ dr.is in absurd (cc none)
    go (First u) = inl (know u)
    go (Second u) = inr u

-- at a renewal the access point's attempt renews a key too
ap_renews : (which : GroupKind) (d : Domain) (n s : Node) (i : Inputs) (covered : List ℕ) (past before : List Entry) → Good d past → Tail before past → (w : SealedBy d s n i covered past) → CarriesM3 d which n (history n w.earlier) s i covered → Alive s (history s before) n i → in_renewal (attempt n (history s before)) ≡ true
    → in_renewal (attempt s (history n w.earlier)) ≡ true
ap_renews which d n s i covered past before g t w c alive renewal = c.seen.secure some_renewals (m2.secure here)
  where
    good_w : Good d w.earlier
    good_w = good_tail d w.earlier past (sealed_tail d s n i covered past w) g

    by : SealedBy d n s i c.seen.verified.covered w.earlier
    by = verified_by d n s i w.earlier good_w c.seen.verified

    by_tail : Tail by.earlier past
    by_tail = tail_trans by.earlier w.earlier past (sealed_tail d n s i c.seen.verified.covered w.earlier by) (sealed_tail d s n i covered past w)

    m2 : CarriesM2 s (history s by.earlier) n i c.seen.verified.covered
    m2 = subst (λ (x : Kind). Carries d groups.Gtk s (history s by.earlier) n i c.seen.verified.covered x) c.seen.from_m2 (by.carries groups.Gtk tt)

    good_before : Good d before
    good_before = good_tail d before past t g

    good_by : Good d by.earlier
    good_by = good_tail d by.earlier past by_tail g

    drawn_alive : (h : List Act) → Alive s h n i → DrawnIn (nonce_of s i) h
    drawn_alive h a = (Drew (Nonce (nonce_of s i)), (refl, alive_drew s n i h a))

    here : in_renewal (attempt n (history s by.earlier)) ≡ true
    here = ⊎_elim
        (λ (u : Tail by.earlier before). renewal_kept n (nonce_of s i) (history s by.earlier) (history s before) alive.part (fresh_history s before good_before.fresh) (history_tail s by.earlier before u) alive.awaited alive.own (drawn_alive (history s by.earlier) m2.alive) ∙ renewal)
        (λ (u : Tail before by.earlier). sym (renewal_kept n (nonce_of s i) (history s before) (history s by.earlier) m2.alive.part (fresh_history s by.earlier good_by.fresh) (history_tail s before by.earlier u) m2.alive.awaited m2.alive.own (drawn_alive (history s before) alive)) ∙ renewal)
        (tail_total by.earlier before past by_tail t)

    some_renewals : has_renewals d ≡ true
    some_renewals = (and_parts (has_renewals d) (can_renew d.akm) (renewing d s n (history s before) alive.part (legal_history d s before good_before.legal) alive.awaited (sym (ap in_renewal alive.awaited) ∙ renewal))).0

-- the first was given at the end of a handshake, in the attempt that became the session: its key data was made before that ended
handshake_first : (which : GroupKind) (d : Domain) (n s : Node) (i : Inputs) (c1 c2 g1 g2 : List ℕ) (past : List Entry) → Good d past → (b : BuiltAt which d n s i c1 g1 past) → Alive n (history n b.lines) s i → (w : SealedBy d s n i c2 past) → session s (history n w.earlier) ≡ Some (keyed_by i) → IsNewest which g2 (history n w.earlier) → Later which n g1 g2 past
handshake_first which d n s i c1 c2 g1 g2 past good b alive w awaited newest = ⊎_elim
    (λ (t : Tail b.lines w.earlier). record { one = b.lines; two = w.earlier; order = t; inside = sealed_tail d s n i c2 past w; first = b.newest; second = newest })
    (λ (t : Tail w.earlier b.lines). absurd (alive_over d n s i (history n b.lines) (legal_history d n b.lines good_lines.legal) (fresh_history n b.lines good_lines.fresh) alive
    (tail_in (history n w.earlier) (history n b.lines) (Finished s i) (history_tail n w.earlier b.lines t) (session_finished d n s (history n w.earlier) (keyed_by i) (legal_history d n w.earlier good_w.legal) awaited))))
    (tail_total b.lines w.earlier past (built_tail which d n s i c1 g1 past b) (sealed_tail d s n i c2 past w))
  where
    good_lines : Good d b.lines
    good_lines = good_tail d b.lines past (built_tail which d n s i c1 g1 past b) good

    good_w : Good d w.earlier
    good_w = good_tail d w.earlier past (sealed_tail d s n i c2 past w) good

sealed_wider : (d : Domain) (n s : Node) (i : Inputs) (covered : List ℕ) (a past : List Entry) → Tail a past → (b : SealedBy d s n i covered a) → (w : SealedBy d s n i covered past) × (w.earlier ≡ b.earlier)
sealed_wider d n s i covered a past t b = (
  record {
    taken = b.taken;
    before = b.before;
    taken_tail = tail_trans (b.taken ∷ b.before) a past b.taken_tail t;
    taken_at = b.taken_at;
    sent = b.sent;
    earlier = b.earlier;
    sent_tail = b.sent_tail;
    sent_at = b.sent_at;
    kind = b.kind;
    octets = b.octets;
    sent_is = b.sent_is;
    rounds = b.rounds;
    until = b.until;
    facts = b.facts;
    kind_is = b.kind_is;
    carries = b.carries;
  },
  refl,
)

built_wider : (which : GroupKind) (d : Domain) (n s : Node) (i : Inputs) (covered g : List ℕ) (a past : List Entry) → Tail a past → BuiltAt which d n s i covered g a → BuiltAt which d n s i covered g past
built_wider which d n s i covered g a past t b =
    let w = sealed_wider d n s i covered a past t b.sealed in
    record { sealed = w.0; lines = b.lines; tail = subst (λ (x : List Entry). Tail b.lines x) (sym w.1) b.tail; newest = b.newest; verified = b.verified; origin = b.origin }

-- what a session began with
pub begun_session : (n : Node) (i : Inputs) (h : List Act) (x : Derivation) → session n (Finished n i ∷ h) ≡ Some x → derivation n h ≡ Some x
begun_session n i h x s = subst (λ (b : Bool). cond b (derivation n h) (cond false None (session n h)) ≡ Some x) (same-refl n) s

-- the place where a station was given the first key, after it drew the nonce of the second inputs
record Gave (which : GroupKind) (s n : Node) (i : Inputs) (g1 : List ℕ) (id : ℕ) (m : Mac) (past : List Entry) : Type 0 where
  gift : At s (Installed (One n) (Group which g1 id m)) past
  draw : Draws s (nonce_of s i) past
  after : Tail (draw.at.entry ∷ draw.at.earlier) gift.earlier

gave_drawn : (which : GroupKind) (s n : Node) (i : Inputs) (g1 : List ℕ) (id : ℕ) (m : Mac) (past : List Entry) → (w : Gave which s n i g1 id m past) → DrawnIn (nonce_of s i) (history s w.gift.earlier)
gave_drawn which s n i g1 id m past w = (w.draw.x, (w.draw.is, at_in s w.draw.x past w.gift.earlier w.draw.at w.after))

-- and what is known of the moment before the second message was taken
record Moment (which : GroupKind) (d : Domain) (n s : Node) (i : Inputs) (g1 : List ℕ) (id : ℕ) (m : Mac) (before : List Act) (past : List Entry) : Type 0 where
  lines : List Entry
  tail : Tail lines past
  is : history s lines ≡ before
  gave : Gave which s n i g1 id m past
  inside : Tail (Installed (One n) (Group which g1 id m) ∷ history s gave.gift.earlier) before

-- the gift is at an earlier place
gift_lines : (which : GroupKind) (d : Domain) (n s : Node) (i : Inputs) (g1 : List ℕ) (id : ℕ) (m : Mac) (before : List Act) (past : List Entry) → (w : Moment which d n s i g1 id m before past) → Tail w.gave.gift.earlier w.lines
gift_lines which d n s i g1 id m before past w = ⊎_elim (λ t. t)
    (λ (t : Tail w.lines w.gave.gift.earlier). absurd (tail_self (Installed (One n) (Group which g1 id m)) (history s w.gave.gift.earlier)
    (tail_trans (Installed (One n) (Group which g1 id m) ∷ history s w.gave.gift.earlier) before (history s w.gave.gift.earlier) w.inside (subst (λ (x : List Act). Tail x (history s w.gave.gift.earlier)) w.is (history_tail s w.lines w.gave.gift.earlier t)))))
    (tail_total w.gave.gift.earlier w.lines past (earlier_tail s (Installed (One n) (Group which g1 id m)) past w.gave.gift) w.tail)

-- the first was given by a G1: its session began at a place
record FirstG1 (which : GroupKind) (d : Domain) (n s : Node) (i : Inputs) (covered g1 : List ℕ) (gift past : List Entry) : Type 0 where
  lines : List Entry
  under : Tail lines gift
  tail : Tail lines past
  from : SessionFrom s n i lines
  earlier : Earlier which d n s i covered past
  newest : IsNewest which g1 (history n earlier.sealed.earlier)

first_g1 : (which : GroupKind) (d : Domain) (n s : Node) (g1 : List ℕ) (gift past : List Entry) → Good d past → Tail gift past → (x : GivenG1 d which s (history s gift) n g1) → FirstG1 which d n s x.i x.given.covered g1 gift past
unfolding earlier_g1
first_g1 which d n s g1 gift past g t x =
    let good = good_tail d gift past t g in
    let took : Act = Took x.from x.octets x.kind x.outcome x.seal in
    let under : Tail x.before (x.between ++ took ∷ x.before) = tail_rest took x.before (x.between ++ took ∷ x.before) (tail_between x.between (took ∷ x.before)) in
    let e = end_of s x.before gift (subst (λ (y : List Act). Tail x.before y) (sym x.is) under) in
    let sealed = (sealed_wider d n s x.i x.given.covered gift past t (given_sealed which d n s x.i g1 gift good x.station x.given)).0 in
    let c = carried_g1 which d n s x.i x.given.covered past sealed x.given.used (x.given.frame_is ∙ x.kind_is) in
    record {
      lines = e.journal;
      under = e.tail;
      tail = tail_trans e.journal gift past e.tail t;
      from = session_from d s n x.i e.journal (good_tail d e.journal gift e.tail good) (subst (λ (y : List Act). session n y ≡ Some (keyed_by x.i)) (sym e.is) x.awaited);
      earlier = earlier_g1 which d n s x.i x.given.covered past g sealed c;
      newest = subst (λ (y : List ℕ). IsNewest which y (history n sealed.earlier)) (c.gives g1 x.given.opens) c.newest;
    }

from_place : (which : GroupKind) (d : Domain) (n s : Node) (i : Inputs) (covered g1 : List ℕ) (gift past : List Entry) → (f : FirstG1 which d n s i covered g1 gift past) → At s (Finished n i) past
from_place which d n s i covered g1 gift past f = record { entry = f.from.at.entry; earlier = f.from.at.earlier; tail = tail_trans (f.from.at.entry ∷ f.from.at.earlier) f.lines past f.from.at.tail f.tail; at = f.from.at.at; is = f.from.at.is }

-- a G1 accepted in that session, at a station: what was drawn and given before it stands below it
g1_below : (p : Node) (octets : List ℕ) (seal : Option Seal) (counter : ℕ) (part : List Act) → Above p counter part → In (Took (Some p) octets (kind.Key G1) Accepted seal) part → replay_counter octets < counter
g1_below p octets seal counter part above there = above octets seal there

-- the counter of a G1 that gave a key
gave_counter : (which : GroupKind) (d : Domain) (s n : Node) (h : List Act) (g : List ℕ) → (x : GivenG1 d which s h n g) → (counter : ℕ) (part : List Act) → Above n counter part → (In (Took (Some n) x.given.octets (kind.Key G1) Accepted (Some (seal_under x.i x.given.covered))) (chain n h) → In (Took (Some n) x.given.octets (kind.Key G1) Accepted (Some (seal_under x.i x.given.covered))) part)
    → covered_counter x.given.covered < counter
gave_counter which d s n h g x counter part above more =
    let here : In (Took (Some n) x.given.octets (kind.Key G1) Accepted (Some (seal_under x.i x.given.covered))) (since n h) = subst (λ (k : Kind). In (Took (Some n) x.given.octets k Accepted (Some (seal_under x.i x.given.covered))) (since n h)) x.kind_is x.given.took in
    let low = g1_below n x.given.octets (Some (seal_under x.i x.given.covered)) counter part above (more (since_chain n (Took (Some n) x.given.octets (kind.Key G1) Accepted (Some (seal_under x.i x.given.covered))) h here)) in
    subst (λ (c : ℕ). c < counter) (x.given.counter x.kind_is) low

-- by a G1 of a session, the first also by a G1
later_two : (which : GroupKind) (d : Domain) (n s : Node) (g1 g2 : List ℕ) (id : ℕ) (m : Mac) (past : List Entry) → Good d past → (v : GivenG1 d which s (history s past) n g2) → (w : Moment which d n s v.i g1 id m v.before past) → (x : GivenG1 d which s (history s w.gave.gift.earlier) n g1) → Later which n g1 g2 past
unfolding from_place
later_two which d n s g1 g2 id m past g v w x = record {
  one = f.earlier.sealed.earlier;
  two = z.earlier;
  order = subst (λ (y : List Entry). Tail f.earlier.sealed.earlier y) b.1 (after_g1 which d n s x.i v.i x.given.covered v.given.covered past g f.earlier b.0 (v.given.frame_is ∙ v.kind_is) lower known);
  inside = sealed_tail d s n v.i v.given.covered past z;
  first = f.newest;
  second = newest;
}
  where
    f : FirstG1 which d n s x.i x.given.covered g1 w.gave.gift.earlier past
    f = first_g1 which d n s g1 w.gave.gift.earlier past g (earlier_tail s (Installed (One n) (Group which g1 id m)) past w.gave.gift) x

    z : SealedBy d s n v.i v.given.covered past
    z = given_sealed which d n s v.i g2 past g v.station v.given

    c : CarriesG1 which n (history n z.earlier) s v.i v.given.covered
    c = carried_g1 which d n s v.i v.given.covered past z v.given.used (v.given.frame_is ∙ v.kind_is)

    b : (e : Earlier which d n s v.i v.given.covered past) × (e.sealed.earlier ≡ z.earlier)
    b = second_g1 which d n s v.i v.given.covered past g z c

    newest : IsNewest which g2 (history n z.earlier)
    newest = subst (λ (y : List ℕ). IsNewest which y (history n z.earlier)) (c.gives g2 v.given.opens) c.newest

    good_m : Good d w.lines
    good_m = good_tail d w.lines past w.tail g

    h_tail : Tail (history s w.gave.gift.earlier) v.before
    h_tail = tail_rest (Installed (One n) (Group which g1 id m)) (history s w.gave.gift.earlier) v.before w.inside

    legal_m : LegalHistory d s v.before
    legal_m = subst (λ (y : List Act). LegalHistory d s y) w.is (legal_history d s w.lines good_m.legal)

    fresh_m : FreshHistory v.before
    fresh_m = subst (λ (y : List Act). FreshHistory y) w.is (fresh_history s w.lines good_m.fresh)

    lower : covered_counter x.given.covered < covered_counter v.given.covered
    lower = gave_counter which d s n (history s w.gave.gift.earlier) g1 x (covered_counter v.given.covered) (chain n v.before) v.above
        (λ there. chain_session d s n v.i (Took (Some n) x.given.octets (kind.Key G1) Accepted (Some (seal_under x.i x.given.covered))) (history s w.gave.gift.earlier) v.before v.station legal_m fresh_m h_tail v.awaited (gave_drawn which s n v.i g1 id m past w.gave) there)

    second : SessionFrom s n v.i w.lines
    second = session_from d s n v.i w.lines good_m (subst (λ (y : List Act). session n y ≡ Some (keyed_by v.i)) (sym w.is) v.awaited)

    place2 : At s (Finished n v.i) past
    place2 = record { entry = second.at.entry; earlier = second.at.earlier; tail = tail_trans (second.at.entry ∷ second.at.earlier) w.lines past second.at.tail w.tail; at = second.at.at; is = second.at.is }

    place1 : At s (Finished n x.i) past
    place1 = from_place which d n s x.i x.given.covered g1 w.gave.gift.earlier past f

    good2 : Good d second.at.earlier
    good2 = good_tail d second.at.earlier w.lines (earlier_tail s (Finished n v.i) w.lines second.at) good_m

    legal2 : LegalFinished d s (history s second.at.earlier) n v.i
    legal2 = legal_at d s (Finished n v.i) w.lines good_m.legal second.at

    in_gift : Tail (f.from.at.entry ∷ f.from.at.earlier) w.gave.gift.earlier
    in_gift = tail_trans (f.from.at.entry ∷ f.from.at.earlier) f.lines w.gave.gift.earlier f.from.at.tail f.under

    first_inside : Tail (f.from.at.entry ∷ f.from.at.earlier) w.lines
    first_inside = tail_trans (f.from.at.entry ∷ f.from.at.earlier) w.gave.gift.earlier w.lines in_gift (gift_lines which d n s v.i g1 id m v.before past w)

    by_place : Tail (w.gave.draw.at.entry ∷ w.gave.draw.at.earlier) f.from.at.earlier → Order f.from.at.entry f.from.at.earlier second.at.entry second.at.earlier → (x.i ≡ v.i) ⊎ Known n s x.i v.i past
    by_place u (Same is are) = let e : Finished n x.i ≡ Finished n v.i = sym f.from.at.is ∙ ap (λ (y : Entry). y.act) is ∙ second.at.is in inl (cc e)
    by_place u (First t) = absurd (unfinished n x.i (history s second.at.earlier) legal2.alive.part legal2.alive.awaited
        (in_after n (nonce_of s v.i) (Finished n x.i) (history s f.from.at.earlier) (history s second.at.earlier) legal2.alive.part (fresh_history s second.at.earlier good2.fresh) (at_tail s (Finished n x.i) f.lines f.from.at second.at.earlier t) legal2.alive.awaited legal2.alive.own
        (w.gave.draw.x, (w.gave.draw.is, at_in s w.gave.draw.x past f.from.at.earlier w.gave.draw.at u))))
    by_place u (Second t) =
        let a : session n (history s (f.from.at.entry ∷ f.from.at.earlier)) ≡ Some (keyed_by v.i) = second.between (f.from.at.entry ∷ f.from.at.earlier) (inr t) first_inside in
        let there : session n (Finished n x.i ∷ history s f.from.at.earlier) ≡ Some (keyed_by v.i) = subst (λ (y : List Act). session n y ≡ Some (keyed_by v.i)) (at_history s (Finished n x.i) f.lines f.from.at) a in
        let good1 = good_tail d f.from.at.earlier past (earlier_tail s (Finished n x.i) past place1) g in
        let legal1 : LegalFinished d s (history s f.from.at.earlier) n x.i = legal_at d s (Finished n x.i) past g.legal place1 in
        let last : derivation n (history s f.from.at.earlier) ≡ Some (keyed_by v.i) = begun_session n x.i (history s f.from.at.earlier) (keyed_by v.i) there in
        let one : keyed_by x.i ≡ keyed_by v.i = cc (legal1.last, last) in
        inl (ap (λ (y : Derivation). y.inputs) one)

    known : (x.i ≡ v.i) ⊎ Known n s x.i v.i past
    known = ⊎_elim (λ k. inr k) (λ u. by_place u (order f.from.at.entry f.from.at.earlier second.at.entry second.at.earlier past place1.tail place2.tail))
        (known_of d n s x.i v.i past g place1 w.gave.draw)

-- by a G1 of a session, the first at the end of the handshake that began it
handshake_same : (which : GroupKind) (d : Domain) (n s : Node) (g1 g2 : List ℕ) (past a : List Entry) → Good d past → (v : GivenG1 d which s (history s past) n g2) → Tail a past → (given_ : Given d which s (history s a) n v.i g1) → (given_.frame ≡ kind.Key G1 → ⊥) → Later which n g1 g2 past
handshake_same which d n s g1 g2 past a g v t given_ hand = by_origin built.origin
  where
    z : SealedBy d s n v.i v.given.covered past
    z = given_sealed which d n s v.i g2 past g v.station v.given

    c : CarriesG1 which n (history n z.earlier) s v.i v.given.covered
    c = carried_g1 which d n s v.i v.given.covered past z v.given.used (v.given.frame_is ∙ v.kind_is)

    newest : IsNewest which g2 (history n z.earlier)
    newest = subst (λ (y : List ℕ). IsNewest which y (history n z.earlier)) (c.gives g2 v.given.opens) c.newest

    built : BuiltAt which d n s v.i given_.covered g1 past
    built = built_wider which d n s v.i given_.covered g1 a past t (built_at which d n s v.i g1 a (good_tail d a past t g) v.station given_)

    by_origin : Origin n s v.i given_.covered built.lines → Later which n g1 g2 past
    by_origin (In_session is) = absurd (hand (sym given_.frame_is ∙ is))
    by_origin (In_attempt alive) = handshake_first which d n s v.i given_.covered v.given.covered g1 g2 past g built alive z c.awaited newest

handshake_two : (which : GroupKind) (d : Domain) (n s : Node) (g1 g2 : List ℕ) (id : ℕ) (m : Mac) (past : List Entry) → Good d past → (v : GivenG1 d which s (history s past) n g2) → (w : Moment which d n s v.i g1 id m v.before past) → (i : Inputs) → (given_ : Given d which s (history s w.gave.gift.earlier) n i g1)
    → (given_.frame ≡ kind.Key G1 → ⊥) → In (installs_key n i) (since n (history s w.gave.gift.earlier)) → (session n (history s w.gave.gift.earlier) ≡ Some (keyed_by v.i) → ⊥) → Later which n g1 g2 past
handshake_two which d n s g1 g2 id m past g v w i given_ hand pair closed = by_place (order w.gave.gift.entry w.gave.gift.earlier second.at.entry second.at.earlier past w.gave.gift.tail place2)
  where
    good_m : Good d w.lines
    good_m = good_tail d w.lines past w.tail g

    second : SessionFrom s n v.i w.lines
    second = session_from d s n v.i w.lines good_m (subst (λ (y : List Act). session n y ≡ Some (keyed_by v.i)) (sym w.is) v.awaited)

    place2 : Tail (second.at.entry ∷ second.at.earlier) past
    place2 = tail_trans (second.at.entry ∷ second.at.earlier) w.lines past second.at.tail w.tail

    good2 : Good d second.at.earlier
    good2 = good_tail d second.at.earlier w.lines (earlier_tail s (Finished n v.i) w.lines second.at) good_m

    legal2 : LegalFinished d s (history s second.at.earlier) n v.i
    legal2 = legal_at d s (Finished n v.i) w.lines good_m.legal second.at

    one : Tail (w.gave.gift.entry ∷ w.gave.gift.earlier) second.at.earlier → i ≡ v.i
    one t = legal2.only (ptk i).tk i (subst (λ (y : List Act). In (installs_key n i) y) (sym (since_part n (history s second.at.earlier) legal2.alive.part legal2.alive.awaited))
        (since_kept n (nonce_of s v.i) (installs_key n i) (history s w.gave.gift.earlier) (history s second.at.earlier) legal2.alive.part (fresh_history s second.at.earlier good2.fresh)
        (history_tail s w.gave.gift.earlier second.at.earlier (tail_rest w.gave.gift.entry w.gave.gift.earlier second.at.earlier t)) legal2.alive.awaited legal2.alive.own (gave_drawn which s n v.i g1 id m past w.gave) pair))

    same_inputs : (j : Inputs) → i ≡ j → (y : Given d which s (history s w.gave.gift.earlier) n j g1) × (y.frame ≡ given_.frame)
    same_inputs j is = subst (λ (x : Inputs). (y : Given d which s (history s w.gave.gift.earlier) n x g1) × (y.frame ≡ given_.frame)) is (given_, refl)

    by_place : Order w.gave.gift.entry w.gave.gift.earlier second.at.entry second.at.earlier → Later which n g1 g2 past
    by_place (Same is are) = let e : Installed (One n) (Group which g1 id m) ≡ Finished n v.i = sym w.gave.gift.is ∙ ap (λ (y : Entry). y.act) is ∙ second.at.is in absurd (cc e)
    by_place (First t) =
        let y = same_inputs v.i (one t) in
        handshake_same which d n s g1 g2 past w.gave.gift.earlier g v (earlier_tail s (Installed (One n) (Group which g1 id m)) past w.gave.gift) y.0 (λ is. hand (sym y.1 ∙ is))
    by_place (Second t) = absurd (closed (second.between w.gave.gift.earlier t (gift_lines which d n s v.i g1 id m v.before past w)))

-- what a renewal gives it gives after its pairwise key, in place of the session
abbrev under_renewal : (which : GroupKind) (d : Domain) (s n : Node) (h : List Act) (g : List ℕ) → GivenRenewal d which s h n g → List Act
under_renewal which d s n h g x = installs_key n x.i ∷ Closed n Session ∷ Took x.from x.octets x.kind x.outcome x.seal ∷ x.before

given_since : (which : GroupKind) (d : Domain) (s n : Node) (h : List Act) (g : List ℕ) → (x : GivenRenewal d which s h n g) → In (installs_key n x.i) (since n h)
given_since which d s n h g x =
    subst (λ (y : List Act). In (installs_key n x.i) (since n y)) (sym x.is) (since_between which n (installs_key n x.i) x.between (under_renewal which d s n h g x) x.others (inl refl))

given_closed : (which : GroupKind) (d : Domain) (s n : Node) (h : List Act) (g : List ℕ) → (x : GivenRenewal d which s h n g) → session n h ≡ None
given_closed which d s n h g x =
    let none : session n (under_renewal which d s n h g x) ≡ None = rw (same-refl n) refl in
    subst (λ (y : List Act). session n y ≡ None) (sym x.is) (session_between which n x.between (under_renewal which d s n h g x) x.others ∙ none)

later_g1 : (which : GroupKind) (d : Domain) (n s : Node) (g1 g2 : List ℕ) (id : ℕ) (m : Mac) (past : List Entry) → Good d past → (v : GivenG1 d which s (history s past) n g2) → (w : Moment which d n s v.i g1 id m v.before past) → LegalGroup d which s (history s w.gave.gift.earlier) n g1 → Later which n g1 g2 past
later_g1 which d n s g1 g2 id m past g v w (By_g1 x) = later_two which d n s g1 g2 id m past g v w x
later_g1 which d n s g1 g2 id m past g v w (By_renewal x) =
    handshake_two which d n s g1 g2 id m past g v w x.i x.given (λ is. (let m3 : x.given.frame ≡ kind.Key M3 = x.kind_is in cc (is, m3)))
    (given_since which d s n (history s w.gave.gift.earlier) g1 x)
    (λ some. (let none = given_closed which d s n (history s w.gave.gift.earlier) g1 x in cc (none, some)))
later_g1 which d n s g1 g2 id m past g v w (By_m3 x) =
    let good1 = good_tail d w.gave.gift.earlier past (earlier_tail s (Installed (One n) (Group which g1 id m)) past w.gave.gift) g in
    handshake_two which d n s g1 g2 id m past g v w x.i x.given x.no_g1 x.pairwise
    (λ some.
    (let sure : is_by_renewal x.alive.part ≡ true = single d s n (history s w.gave.gift.earlier) x.alive.part (keyed_by v.i) v.station (legal_history d s w.gave.gift.earlier good1.legal) some x.alive.awaited in
    let opposed : is_by_renewal x.alive.part ≡ false = sym (ap in_renewal x.alive.awaited) ∙ x.begins in cc (sure, opposed)))

-- by the M3 of a renewal, the first by a G1
later_three : (which : GroupKind) (d : Domain) (n s : Node) (g1 g2 : List ℕ) (id : ℕ) (m : Mac) (past : List Entry) → Good d past → (v : GivenRenewal d which s (history s past) n g2) → (w : Moment which d n s v.i g1 id m v.before past) → (x : GivenG1 d which s (history s w.gave.gift.earlier) n g1) → Later which n g1 g2 past
unfolding from_place
later_three which d n s g1 g2 id m past g v w x = record {
  one = f.earlier.sealed.earlier;
  two = z.earlier;
  order = after_m3 which d n s x.i v.i x.given.covered v.given.covered past g role f.earlier z (v.given.frame_is ∙ v.kind_is) lower c renewal unlike known;
  inside = sealed_tail d s n v.i v.given.covered past z;
  first = f.newest;
  second = subst (λ (y : List ℕ). IsNewest which y (history n z.earlier)) (c.load.gives g2 v.given.opens) (c.renewed renewal).newest;
}
  where
    f : FirstG1 which d n s x.i x.given.covered g1 w.gave.gift.earlier past
    f = first_g1 which d n s g1 w.gave.gift.earlier past g (earlier_tail s (Installed (One n) (Group which g1 id m)) past w.gave.gift) x

    z : SealedBy d s n v.i v.given.covered past
    z = given_sealed which d n s v.i g2 past g v.station v.given

    c : CarriesM3 d which n (history n z.earlier) s v.i v.given.covered
    c = carried_m3 which d n s v.i v.given.covered past z v.given.used (v.given.frame_is ∙ v.kind_is)

    role : is_ap n ≡ true
    role = turn (is_ap s) (is_ap n) z.facts.roles v.station
      where
        turn : (a b : Bool) → a ≡ not b → a ≡ false → b ≡ true
        turn a true e y = refl
        turn true false e y = cc y
        turn false false e y = cc e

    good_m : Good d w.lines
    good_m = good_tail d w.lines past w.tail g

    awaited : Alive s (history s w.lines) n v.i
    awaited = subst (λ (y : List Act). Alive s y n v.i) (sym w.is) v.awaited

    renewal : in_renewal (attempt s (history n z.earlier)) ≡ true
    renewal = ap_renews which d n s v.i v.given.covered past w.lines g w.tail z c awaited (subst (λ (y : List Act). in_renewal (attempt n y) ≡ true) (sym w.is) v.renewal)

    fresh_m : FreshHistory v.before
    fresh_m = subst (λ (y : List Act). FreshHistory y) w.is (fresh_history s w.lines good_m.fresh)

    legal_m : LegalHistory d s v.before
    legal_m = subst (λ (y : List Act). LegalHistory d s y) w.is (legal_history d s w.lines good_m.legal)

    h_tail : Tail (history s w.gave.gift.earlier) v.before
    h_tail = tail_rest (Installed (One n) (Group which g1 id m)) (history s w.gave.gift.earlier) v.before w.inside

    lower : covered_counter x.given.covered < covered_counter v.given.covered
    lower = gave_counter which d s n (history s w.gave.gift.earlier) g1 x (covered_counter v.given.covered) (chain n v.before) v.above
        (λ there. chain_alive n (nonce_of s v.i) (Took (Some n) x.given.octets (kind.Key G1) Accepted (Some (seal_under x.i x.given.covered))) (history s w.gave.gift.earlier) v.before v.awaited.part fresh_m h_tail v.awaited.awaited v.awaited.own (gave_drawn which s n v.i g1 id m past w.gave) there)

    place1 : At s (Finished n x.i) past
    place1 = from_place which d n s x.i x.given.covered g1 w.gave.gift.earlier past f

    in_gift : Tail (f.from.at.entry ∷ f.from.at.earlier) w.gave.gift.earlier
    in_gift = tail_trans (f.from.at.entry ∷ f.from.at.earlier) f.lines w.gave.gift.earlier f.from.at.tail f.under

    to_before : Tail (Finished n x.i ∷ history s f.from.at.earlier) v.before
    to_before = tail_trans (Finished n x.i ∷ history s f.from.at.earlier) (history s w.gave.gift.earlier) v.before (at_tail s (Finished n x.i) f.lines f.from.at w.gave.gift.earlier in_gift) h_tail

    unlike : x.i ≡ v.i → ⊥
    unlike e = alive_over d s n v.i v.before legal_m fresh_m v.awaited (subst (λ (y : Inputs). In (Finished n y) v.before) e (tail_in (Finished n x.i ∷ history s f.from.at.earlier) v.before (Finished n x.i) to_before (inl refl)))

    known : Known n s x.i v.i past
    known = ⊎_elim (λ k. k)
        (λ u. absurd (unfinished n x.i v.before v.awaited.part v.awaited.awaited
        (in_after n (nonce_of s v.i) (Finished n x.i) (history s f.from.at.earlier) v.before v.awaited.part fresh_m to_before v.awaited.awaited v.awaited.own (w.gave.draw.x, (w.gave.draw.is, at_in s w.gave.draw.x past f.from.at.earlier w.gave.draw.at u)))))
        (known_of d n s x.i v.i past g place1 w.gave.draw)

-- in the attempt that renews a key no pairwise key was installed before
unclean : (which : GroupKind) (d : Domain) (n s : Node) (g1 g2 : List ℕ) (id : ℕ) (m : Mac) (past : List Entry) → Good d past → (v : GivenRenewal d which s (history s past) n g2) → (w : Moment which d n s v.i g1 id m v.before past) → (i : Inputs) → In (installs_key n i) (since n (history s w.gave.gift.earlier)) → ⊥
unclean which d n s g1 g2 id m past g v w i pair =
    let good_m = good_tail d w.lines past w.tail g in
    let fresh_m : FreshHistory v.before = subst (λ (y : List Act). FreshHistory y) w.is (fresh_history s w.lines good_m.fresh) in
    v.clean (ptk i).tk i (subst (λ (y : List Act). In (installs_key n i) y) (sym (since_part n v.before v.awaited.part v.awaited.awaited))
    (since_kept n (nonce_of s v.i) (installs_key n i) (history s w.gave.gift.earlier) v.before v.awaited.part fresh_m (tail_rest (Installed (One n) (Group which g1 id m)) (history s w.gave.gift.earlier) v.before w.inside) v.awaited.awaited v.awaited.own (gave_drawn which s n v.i g1 id m past w.gave) pair))

later_renewal : (which : GroupKind) (d : Domain) (n s : Node) (g1 g2 : List ℕ) (id : ℕ) (m : Mac) (past : List Entry) → Good d past → (v : GivenRenewal d which s (history s past) n g2) → (w : Moment which d n s v.i g1 id m v.before past) → LegalGroup d which s (history s w.gave.gift.earlier) n g1 → Later which n g1 g2 past
later_renewal which d n s g1 g2 id m past g v w (By_g1 x) = later_three which d n s g1 g2 id m past g v w x
later_renewal which d n s g1 g2 id m past g v w (By_renewal x) = absurd (unclean which d n s g1 g2 id m past g v w x.i (given_since which d s n (history s w.gave.gift.earlier) g1 x))
later_renewal which d n s g1 g2 id m past g v w (By_m3 x) = absurd (unclean which d n s g1 g2 id m past g v w x.i x.pairwise)

-- the first was given before the nonce of the second was drawn, or after
later_by : (which : GroupKind) (d : Domain) (n s : Node) (i : Inputs) (g1 g2 : List ℕ) (id : ℕ) (m : Mac) (past : List Entry) → Good d past → is_ap s ≡ false → Given d which s (history s past) n i g2 → (t : At s (Installed (One n) (Group which g1 id m)) past) → (Gave which s n i g1 id m past → Later which n g1 g2 past) → Later which n g1 g2 past
later_by which d n s i g1 g2 id m past g station given_ t after = go (order t.entry t.earlier draw.at.entry draw.at.earlier past t.tail draw.at.tail)
  where
    b : BuiltAt which d n s i given_.covered g2 past
    b = built_at which d n s i g2 past g station given_

    b_tail : Tail b.lines past
    b_tail = built_tail which d n s i given_.covered g2 past b

    dr : Draws s (nonce_of s i) b.lines
    dr = verified_draws d n s i b.lines (good_tail d b.lines past b_tail g) b.verified

    draw : Draws s (nonce_of s i) past
    draw = draws_wider s (nonce_of s i) b.lines past b_tail dr

    same_place : dr.at.earlier ≡ draw.at.earlier
    same_place = wider_place s (nonce_of s i) b.lines past b_tail dr

    t_tail : Tail t.earlier past
    t_tail = earlier_tail s (Installed (One n) (Group which g1 id m)) past t

    good_t : Good d t.earlier
    good_t = good_tail d t.earlier past t_tail g

    c : Common d which s (history s t.earlier) n g1
    c = common d which s (history s t.earlier) n g1 (installed_group which d s n g1 id m (history s t.earlier) (legal_at d s (Installed (One n) (Group which g1 id m)) past g.legal t))

    first : BuiltAt which d n s c.i c.taken.covered g1 t.earlier
    first = built_at which d n s c.i g1 t.earlier good_t c.station c.taken

    go : Order t.entry t.earlier draw.at.entry draw.at.earlier → Later which n g1 g2 past
    go (Same is are) =
        let e : Installed (One n) (Group which g1 id m) ≡ draw.x = sym t.is ∙ ap (λ (y : Entry). y.act) is ∙ draw.at.is in
        let none : None ≡ Some (nonce_of s i) = ap drawn e ∙ draw.is in absurd (cc none)
    go (First u) = record {
      one = first.lines;
      two = b.lines;
      order = tail_trans first.lines t.earlier b.lines (built_tail which d n s c.i c.taken.covered g1 t.earlier first)
          (tail_trans t.earlier draw.at.earlier b.lines (tail_rest t.entry t.earlier draw.at.earlier u) (subst (λ (y : List Entry). Tail y b.lines) same_place (earlier_tail s dr.x b.lines dr.at)));
      inside = b_tail;
      first = first.newest;
      second = b.newest;
    }
    go (Second u) = after (record { gift = t; draw = draw; after = u })

later_m3 : (which : GroupKind) (d : Domain) (n s : Node) (g1 g2 : List ℕ) (id : ℕ) (m : Mac) (past : List Entry) → Good d past → (v : GivenM3 d which s (history s past) n g2) → Gave which s n v.i g1 id m past → Later which n g1 g2 past
later_m3 which d n s g1 g2 id m past g v w = absurd (v.first g1 id m
    (in_after n (nonce_of s v.i) (Installed (One n) (Group which g1 id m)) (history s w.gift.earlier) (history s past) v.alive.part (fresh_history s past g.fresh) (at_tail s (Installed (One n) (Group which g1 id m)) past w.gift past w.gift.tail) v.alive.awaited v.alive.own (gave_drawn which s n v.i g1 id m past w)))

moment_g1 : (which : GroupKind) (d : Domain) (n s : Node) (g1 g2 : List ℕ) (id : ℕ) (m : Mac) (past : List Entry) → (v : GivenG1 d which s (history s past) n g2) → (w : Gave which s n v.i g1 id m past) → Moment which d n s v.i g1 id m v.before past
moment_g1 which d n s g1 g2 id m past v w =
    let took : Act = Took v.from v.octets v.kind v.outcome v.seal in
    let under : Tail v.before (v.between ++ took ∷ v.before) = tail_rest took v.before (v.between ++ took ∷ v.before) (tail_between v.between (took ∷ v.before)) in
    let e = end_of s v.before past (subst (λ (y : List Act). Tail v.before y) (sym v.is) under) in
    record { lines = e.journal; tail = e.tail; is = e.is; gave = w; inside = go (past_between which n g1 id m (history s w.gift.earlier) v.between (took ∷ v.before) v.others (subst (λ (y : List Act). Tail (Installed (One n) (Group which g1 id m) ∷ history s w.gift.earlier) y) v.is (at_tail s (Installed (One n) (Group which g1 id m)) past w.gift past w.gift.tail))) }
  where
    go : Tail (Installed (One n) (Group which g1 id m) ∷ history s w.gift.earlier) (Took v.from v.octets v.kind v.outcome v.seal ∷ v.before) → Tail (Installed (One n) (Group which g1 id m) ∷ history s w.gift.earlier) v.before
    go (inl is) = absurd (cc is)
    go (inr t) = t

moment_renewal : (which : GroupKind) (d : Domain) (n s : Node) (g1 g2 : List ℕ) (id : ℕ) (m : Mac) (past : List Entry) → (v : GivenRenewal d which s (history s past) n g2) → (w : Gave which s n v.i g1 id m past) → Moment which d n s v.i g1 id m v.before past
moment_renewal which d n s g1 g2 id m past v w =
    let took : Act = Took v.from v.octets v.kind v.outcome v.seal in
    let rest : List Act = installs_key n v.i ∷ Closed n Session ∷ took ∷ v.before in
    let in_rest : Tail v.before rest = inr (inr (inr (tail_refl v.before))) in
    let under : Tail v.before (v.between ++ rest) = tail_trans v.before rest (v.between ++ rest) in_rest (tail_between v.between rest) in
    let e = end_of s v.before past (subst (λ (y : List Act). Tail v.before y) (sym v.is) under) in
    record { lines = e.journal; tail = e.tail; is = e.is; gave = w; inside = go (past_between which n g1 id m (history s w.gift.earlier) v.between rest v.others (subst (λ (y : List Act). Tail (Installed (One n) (Group which g1 id m) ∷ history s w.gift.earlier) y) v.is (at_tail s (Installed (One n) (Group which g1 id m)) past w.gift past w.gift.tail))) }
  where
    go : Tail (Installed (One n) (Group which g1 id m) ∷ history s w.gift.earlier) (installs_key n v.i ∷ Closed n Session ∷ Took v.from v.octets v.kind v.outcome v.seal ∷ v.before) → Tail (Installed (One n) (Group which g1 id m) ∷ history s w.gift.earlier) v.before
    go (inl is) = absurd (cc is)
    go (inr (inl is)) = absurd (cc is)
    go (inr (inr (inl is))) = absurd (cc is)
    go (inr (inr (inr t))) = t

gave_group : (which : GroupKind) (d : Domain) (n s : Node) (i : Inputs) (g1 : List ℕ) (id : ℕ) (m : Mac) (before : List Act) (past : List Entry) → Good d past → (w : Moment which d n s i g1 id m before past) → LegalGroup d which s (history s w.gave.gift.earlier) n g1
gave_group which d n s i g1 id m before past g w = installed_group which d s n g1 id m (history s w.gave.gift.earlier) (legal_at d s (Installed (One n) (Group which g1 id m)) past g.legal w.gave.gift)

-- The keys that a station takes from one access point never go back in the order of drawing: an earlier one was not newer.
pub never_back : (which : GroupKind) (d : Domain) (n s : Node) (g1 g2 : List ℕ) (id : ℕ) (m : Mac) (past : List Entry) → Good d past → LegalGroup d which s (history s past) n g2 → In (Installed (One n) (Group which g1 id m)) (history s past) → Later which n g1 g2 past
never_back which d n s g1 g2 id m past g (By_m3 v) there = later_by which d n s v.i g1 g2 id m past g v.station v.given (at_of s (Installed (One n) (Group which g1 id m)) past there) (λ w. later_m3 which d n s g1 g2 id m past g v w)
never_back which d n s g1 g2 id m past g (By_g1 v) there = later_by which d n s v.i g1 g2 id m past g v.station v.given (at_of s (Installed (One n) (Group which g1 id m)) past there)
    (λ w. let x = moment_g1 which d n s g1 g2 id m past v w in later_g1 which d n s g1 g2 id m past g v x (gave_group which d n s v.i g1 id m v.before past g x))
never_back which d n s g1 g2 id m past g (By_renewal v) there = later_by which d n s v.i g1 g2 id m past g v.station v.given (at_of s (Installed (One n) (Group which g1 id m)) past there)
    (λ w. let x = moment_renewal which d n s g1 g2 id m past v w in later_renewal which d n s g1 g2 id m past g v x (gave_group which d n s v.i g1 id m v.before past g x))

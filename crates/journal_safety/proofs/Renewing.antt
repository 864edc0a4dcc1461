-- A pairwise key that is renewed inside a session follows one with the same peer and other nonces, and no packet number is used under the
-- former key from then on.
use Rattle.std.proofs.Common.{ℕ, ◌≡◌, inl, inr, Bool, true, false, not, cond, List, [], ◌∷◌, ◌++◌, Option, Some, None, refl, sym, ap, ◌∙◌, subst}
use Rattle.std.proofs.lemmas.Bool.{and_parts}
use Rattle.domain_base.specs.declared.names.Akm.{Akm}
use Rattle.domain_base.specs.declared.names.Akm.TheVariants.{Psk, PskSha256, FtPsk}
use Rattle.domain_base.specs.declared.names.Node.{Node}
use Rattle.domain_base.specs.declared.names.Node.TheVariants.{Ap, Sta}
use Rattle.domain_base.specs.declared.names.Peer.TheVariants.{One}
use Rattle.eapol_key.specs.declared.messages.Message.TheVariants.{M3, M4}
use Rattle.key_hierarchy.specs.Keys.{ptk}
use Rattle.key_hierarchy.specs.declared.inputs.Inputs.{Inputs}
use Rattle.run_journal.specs.declared.domain.Domain.{Domain}
use Rattle.run_journal.specs.declared.domain.Event.{Event}
use Rattle.run_journal.specs.declared.acts.GroupKind.TheVariants as groups
use Rattle.run_journal.specs.declared.acts.Drawn.TheVariants.{Nonce}
use Rattle.run_journal.specs.declared.acts.Kind.{Kind}
use Rattle.run_journal.specs.declared.acts.Kind.TheVariants as kind
use Rattle.run_journal.specs.declared.acts.Act.{Act}
use Rattle.run_journal.specs.declared.acts.Act.TheVariants.{Drew, Sent, Finished}
use Rattle.run_journal.specs.declared.acts.Entry.{Entry}
use Rattle.run_journal.specs.Acts.{same, ends, finishes, closes, Derivation}
use Rattle.run_journal.specs.Events.{can_renew}
use Rattle.run_journal.specs.Questions.{history, or_else, attempt, since, derivation, session}
use Rattle.run_journal.specs.Premises.{In, Fresh, NoCollision, Unforged}
use Rattle.domain_rules.specs.Network.{is_ap, has_renewals, IsNamed}
use Rattle.domain_rules.specs.Frames.{keyed_by}
use Rattle.domain_rules.specs.Asking.{in_renewal, is_by_renewal}
use Rattle.domain_rules.specs.Explained.{Explained}
use Rattle.domain_rules.specs.HeldRight.{HeldRight}
use Rattle.domain_rules.specs.InOctets.{InOctets}
use Rattle.domain_rules.proofs.Parts.{same-true, same-refl, Grows, Begins, Goes_on, grows, since_part, attempt_more}
use Rattle.journal_safety.specs.Renewed.{finished_with, last_finished, NoncesDiffer, FollowsAt, FollowsOthers, UnusedAt, FormerUnused}
use Rattle.journal_safety.proofs.Ends.{Tail, tail_refl, tail_rest, tail_trans, tail_in, Order, Same, First, Second, order, history_tail}
use Rattle.journal_safety.proofs.Legal.{covered_kind, nonce_of, Alive, Verified, CarriesM3, Carries, seal_under, LegalFinished, LegalRenewal, LegalOpened, LegalUsedWith, LegalUsedAll, Legal, LegalHistory}
use Rattle.journal_safety.proofs.Histories.{opens-is, alive_drew}
use Rattle.journal_safety.proofs.Sessions.{finishes-is, session_older, finished_of, finished_verified, renewal_more, renewing, begun_renewal}
use Rattle.journal_safety.proofs.Settled.{same_attempt}
use Rattle.journal_safety.proofs.Runs.{legal_history}
use Rattle.journal_safety.proofs.Places.{Good, good_tail, At, at_of, legal_at, earlier_tail, derived_at}
use Rattle.journal_safety.proofs.Seals.{SealedBy, verified_by, sealed_tail}
use Rattle.journal_safety.proofs.Pairwise.{FreshHistory, fresh_history, alive_over, alive_other, verified_wider, one_tk}
use Rattle.journal_safety.proofs.Spans.{DrawnIn, settles}
use Rattle.journal_safety.proofs.Built.{own_history, at_in}
use Rattle.journal_safety.proofs.GroupOrder.{some_m3, sent_history, begun_session}
use Rattle.journal_safety.proofs.Once.{clash, current_earlier}
use Rattle.journal_safety.proofs.Numbers.{session_verified, current_in, Uses, To_peer, To_all, uses_view}
use Rattle.journal_safety.proofs.AllParts.{good_run}

-- ---- the final message that was accepted last

with_same : (p q : Node) (i k : Inputs) (b : Bool) → same p q ≡ b → cond b (Some i) None ≡ Some k → Finished q i ≡ Finished p k
with_same p q i k true is s = let one : i ≡ k = cc s in ap (λ (x : Node). Finished x i) (sym (same-true p q is)) ∙ ap (λ (x : Inputs). Finished p x) one
with_same p q i k false is s = absurd (cc s)

finished_with-is : (p : Node) (e : Act) (k : Inputs) → finished_with p e ≡ Some k → e ≡ Finished p k
finished_with-is p (Finished q i) k s = with_same p q i k (same p q) refl s
finished_with-is p _ k s = absurd (cc s)

last_by : (p : Node) (e : Act) (h : List Act) (k : Inputs) → (last_finished p h ≡ Some k → In (Finished p k) h) → (o : Option Inputs) → finished_with p e ≡ o → or_else o (last_finished p h) ≡ Some k → In (Finished p k) (e ∷ h)
last_by p e h k more None is s = inr (more s)
last_by p e h k more (Some x) is s = inl (sym (finished_with-is p e k (is ∙ s)))

last_in : (p : Node) (k : Inputs) (h : List Act) → last_finished p h ≡ Some k → In (Finished p k) h
last_in p k [] s = absurd (cc s)
last_in p k (e ∷ h) s = last_by p e h k (last_in p k h) (finished_with p e) refl s

-- an act that accepts none leaves it
unfinished_with : (p : Node) (e : Act) → finishes p e ≡ false → finished_with p e ≡ None
unfinished_with p (Finished q i) f = rw f refl
unfinished_with p _ f = refl

last_more : (p : Node) (e : Act) (h : List Act) → finishes p e ≡ false → last_finished p (e ∷ h) ≡ last_finished p h
last_more p e h f = ap (λ (o : Option Inputs). or_else o (last_finished p h)) (unfinished_with p e f)

-- it is that of the session
session_by : (d : Domain) (n p : Node) (e : Act) (h : List Act) (x : Derivation) → Legal d n h e → (session p h ≡ Some x → last_finished p h ≡ Some x.inputs) → (b : Bool) → finishes p e ≡ b → cond b (derivation p h) (cond (closes p e) None (session p h)) ≡ Some x → last_finished p (e ∷ h) ≡ Some x.inputs
session_by d n p e h x legal more true f s = subst (λ (y : Act). last_finished p (y ∷ h) ≡ Some x.inputs) (sym (finished_of d n p e h x legal f s)) (rw (same-refl p) refl)
session_by d n p e h x legal more false f s = last_more p e h f ∙ more (session_older p h x (closes p e) s)

session_last : (d : Domain) (n p : Node) (h : List Act) (x : Derivation) → LegalHistory d n h → session p h ≡ Some x → last_finished p h ≡ Some x.inputs
session_last d n p [] x legal s = absurd (cc s)
session_last d n p (e ∷ h) x legal s = session_by d n p e h x legal.0 (session_last d n p h x legal.1) (finishes p e) refl s

-- in an attempt that renews a key there is one
goes_unfinished : (p : Node) (e : Act) → ends p e ≡ false → (b : Bool) → finishes p e ≡ b → finishes p e ≡ false
goes_unfinished p e goes false f = f
goes_unfinished p e goes true f =
    let w = finishes-is p e f in
    let over : ends p e ≡ true = subst (λ (y : Act). ends p y ≡ true) (sym w.1) (same_attempt p) in absurd (cc (over, goes))

had_by : (d : Domain) (n p : Node) (e : Act) (h part : List Act) → LegalHistory d n (e ∷ h) → ((old : List Act) → attempt p h ≡ Some old → is_by_renewal old ≡ true → (k : Inputs) × (last_finished p h ≡ Some k)) → Grows p e h part → is_by_renewal part ≡ true → (k : Inputs) × (last_finished p (e ∷ h) ≡ Some k)
had_by d n p e h part legal more (Begins o is) begun =
    let w = opens-is p e o in
    let l : LegalOpened d n h p w.0 = subst (λ (y : Act). Legal d n h y) w.1 legal.0 in
    let one : is_by_renewal (e ∷ []) ≡ true = subst (λ (y : List Act). is_by_renewal y ≡ true) is begun in
    let r : LegalRenewal d h p = l.renewed (begun_renewal p w.0 (subst (λ (y : Act). is_by_renewal (y ∷ []) ≡ true) w.1 one)) in
    (r.x.inputs, subst (λ (y : Act). last_finished p (y ∷ h) ≡ Some r.x.inputs) (sym w.1) (session_last d n p h r.x legal.1 r.awaited))
had_by d n p e h part legal more (Goes_on old o goes a is) begun =
    let w = more old a (sym (renewal_more p e h old a) ∙ subst (λ (y : List Act). is_by_renewal y ≡ true) is begun) in
    (w.0, last_more p e h (goes_unfinished p e goes (finishes p e) refl) ∙ w.1)

had_last : (d : Domain) (n p : Node) (h part : List Act) → LegalHistory d n h → attempt p h ≡ Some part → is_by_renewal part ≡ true → (k : Inputs) × (last_finished p h ≡ Some k)
had_last d n p [] part legal a begun = absurd (cc a)
had_last d n p (e ∷ h) part legal a begun = had_by d n p e h part legal (λ old was renews_. had_last d n p h old legal.1 was renews_) (grows p e h part a) begun

-- ---- final messages of attempts are M3 and M4 where keys are renewed

no_mobile : (akm : Akm) → can_renew akm ≡ true → akm ≡ FtPsk → ⊥
no_mobile FtPsk s is = cc s
no_mobile Psk s is = cc is
no_mobile PskSha256 s is = cc is

-- the peer sealed the message that ended the attempt
pub record Ended (d : Domain) (n p : Node) (i : Inputs) (past : List Entry) : Type 0 where
  pub covered : List ℕ
  pub kind_is : covered_kind covered ≡ cond (is_ap n) (kind.Key M4) (kind.Key M3)
  pub by : SealedBy d n p i covered past

ended : (d : Domain) (n p : Node) (i : Inputs) (past : List Entry) → Good d past → (d.akm ≡ FtPsk → ⊥) → LegalFinished d n (history n past) p i → Ended d n p i past
ended d n p i past g other l = record { covered = l.verified.covered; kind_is = l.final other; by = verified_by d n p i past g l.verified }

-- whatever was accepted before
ended_before : (d : Domain) (n p : Node) (i : Inputs) (past : List Entry) → Good d past → (d.akm ≡ FtPsk → ⊥) → In (Finished p i) (history n past) → (w : At n (Finished p i) past) × Ended d n p i w.earlier
ended_before d n p i past g other there =
    let w = at_of n (Finished p i) past there in
    (w, ended d n p i w.earlier (good_tail d w.earlier past (earlier_tail n (Finished p i) past w) g) other (legal_at d n (Finished p i) past g.legal w))

-- ---- the nonce of the peer is another one too

-- an access point: the station accepted a final message for each
station_finished : (d : Domain) (n p : Node) (i : Inputs) (past : List Entry) → is_ap n ≡ true → Ended d n p i past → In (Finished n i) (history p past)
station_finished d n p i past role e =
    let m4 : covered_kind e.covered ≡ kind.Key M4 = e.kind_is ∙ ap (λ (b : Bool). cond b (kind.Key M4) (kind.Key M3)) role in
    let fin : In (Finished n i) (history p e.by.earlier) = subst (λ (x : Kind). Carries d groups.Gtk p (history p e.by.earlier) n i e.covered x) m4 (e.by.carries groups.Gtk tt) in
    tail_in (history p e.by.earlier) (history p past) (Finished n i) (history_tail p e.by.earlier past (sealed_tail d n p i e.covered past e.by)) fin

-- two final messages of one nonce are of the same inputs
one_finished : (d : Domain) (n p : Node) (i k : Inputs) (past : List Entry) → Good d past → nonce_of n i ≡ nonce_of n k → In (Finished p i) (history n past) → In (Finished p k) (history n past) → i ≡ k
one_finished d n p i k past g own a b = go (order x.entry x.earlier y.entry y.earlier past x.tail y.tail)
  where
    x : At n (Finished p i) past
    x = at_of n (Finished p i) past a

    y : At n (Finished p k) past
    y = at_of n (Finished p k) past b

    good_x : Good d x.earlier
    good_x = good_tail d x.earlier past (earlier_tail n (Finished p i) past x) g

    good_y : Good d y.earlier
    good_y = good_tail d y.earlier past (earlier_tail n (Finished p k) past y) g

    legal_x : LegalFinished d n (history n x.earlier) p i
    legal_x = legal_at d n (Finished p i) past g.legal x

    legal_y : LegalFinished d n (history n y.earlier) p k
    legal_y = legal_at d n (Finished p k) past g.legal y

    go : Order x.entry x.earlier y.entry y.earlier → i ≡ k
    go (Same is are) = let e : Finished p i ≡ Finished p k = sym x.is ∙ ap (λ (z : Entry). z.act) is ∙ y.is in cc e
    go (First t) = absurd (alive_other d n p k i (history n y.earlier) (legal_history d n y.earlier good_y.legal) (fresh_history n y.earlier good_y.fresh) legal_y.alive (sym own) (at_in n (Finished p i) past y.earlier x t))
    go (Second t) = absurd (alive_other d n p i k (history n x.earlier) (legal_history d n x.earlier good_x.legal) (fresh_history n x.earlier good_x.fresh) legal_x.alive own (at_in n (Finished p k) past x.earlier y t))

-- a station: the access point sent an M3 for each, in one attempt
m3_of : (d : Domain) (n p : Node) (i : Inputs) (past : List Entry) → is_ap n ≡ false → (e : Ended d n p i past) → CarriesM3 d groups.Gtk p (history p e.by.earlier) n i e.covered
m3_of d n p i past role e =
    let m3 : covered_kind e.covered ≡ kind.Key M3 = e.kind_is ∙ ap (λ (b : Bool). cond b (kind.Key M4) (kind.Key M3)) role in
    subst (λ (x : Kind). Carries d groups.Gtk p (history p e.by.earlier) n i e.covered x) m3 (e.by.carries groups.Gtk tt)

m3_kind : (d : Domain) (n p : Node) (i : Inputs) (past : List Entry) → is_ap n ≡ false → (e : Ended d n p i past) → e.by.kind ≡ kind.Key M3
m3_kind d n p i past role e = e.by.kind_is ∙ e.kind_is ∙ ap (λ (b : Bool). cond b (kind.Key M4) (kind.Key M3)) role

last_of_part : (p : Node) (h part : List Act) (i : Inputs) → attempt p h ≡ Some part → derivation p (since p h) ≡ Some (keyed_by i) → derivation p part ≡ Some (keyed_by i)
last_of_part p h part i a s = subst (λ (y : List Act). derivation p y ≡ Some (keyed_by i)) (since_part p h part a) s

-- the second was sent after the first
settled_key : (d : Domain) (n p : Node) (i k : Inputs) (octets : List ℕ) (covered : List ℕ) (a h : List Act) → is_ap p ≡ true → LegalHistory d p h → FreshHistory h → Tail (Sent (One n) (kind.Key M3) octets (Some (seal_under i covered)) ∷ a) h → (x : Alive p a n i) → derivation n (since n a) ≡ Some (keyed_by i)
    → (y : Alive p h n k) → derivation n (since n h) ≡ Some (keyed_by k) → nonce_of p i ≡ nonce_of p k → i ≡ k
settled_key d n p i k octets covered a h role legal fresh t x last_x y last_y own =
    let m3 : Act = Sent (One n) (kind.Key M3) octets (Some (seal_under i covered)) in
    let had = some_m3 n octets (Some (seal_under i covered)) a in
    let drew : DrawnIn (nonce_of p k) (m3 ∷ a) = (Drew (Nonce (nonce_of p i)), (ap Some own, inr (alive_drew p n i a x))) in
    let r = settles d p n (nonce_of p k) (m3 ∷ a) h y.part (m3 ∷ x.part) i had.0 role legal fresh t y.awaited y.own drew (attempt_more n m3 a x.part refl refl x.awaited) had.1 (last_of_part n a x.part i x.awaited last_x) in
    let s : derivation n y.part ≡ Some (keyed_by k) = last_of_part n h y.part k y.awaited last_y in
    let one : keyed_by i ≡ keyed_by k = cc (r.last, s) in
    ap (λ (z : Derivation). z.inputs) one

sent_tail : (d : Domain) (n p : Node) (i : Inputs) (past : List Entry) (x : List Entry) → is_ap n ≡ false → (e : Ended d n p i past) → Tail (e.by.sent ∷ e.by.earlier) x → Tail (Sent (One n) (kind.Key M3) e.by.octets (Some (seal_under i e.covered)) ∷ history p e.by.earlier) (history p x)
sent_tail d n p i past x role e t =
    subst (λ (k : Kind). Tail (Sent (One n) k e.by.octets (Some (seal_under i e.covered)) ∷ history p e.by.earlier) (history p x)) (m3_kind d n p i past role e)
    (subst (λ (y : List Act). Tail y (history p x)) (sent_history d p n i e.covered past e.by) (history_tail p (e.by.sent ∷ e.by.earlier) x t))

one_attempt : (d : Domain) (n p : Node) (i k : Inputs) (past : List Entry) → Good d past → is_ap n ≡ false → is_ap p ≡ true → (a : Ended d n p i past) → (b : Ended d n p k past) → nonce_of p i ≡ nonce_of p k → i ≡ k
one_attempt d n p i k past g role other a b own = go (order a.by.sent a.by.earlier b.by.sent b.by.earlier past (place i a) (place k b))
  where
    place : (j : Inputs) (e : Ended d n p j past) → Tail (e.by.sent ∷ e.by.earlier) past
    place j e = tail_trans (e.by.sent ∷ e.by.earlier) e.by.before past e.by.sent_tail (tail_rest e.by.taken e.by.before past e.by.taken_tail)

    good : (j : Inputs) (e : Ended d n p j past) → Good d e.by.earlier
    good j e = good_tail d e.by.earlier past (sealed_tail d n p j e.covered past e.by) g

    x : CarriesM3 d groups.Gtk p (history p a.by.earlier) n i a.covered
    x = m3_of d n p i past role a

    y : CarriesM3 d groups.Gtk p (history p b.by.earlier) n k b.covered
    y = m3_of d n p k past role b

    go : Order a.by.sent a.by.earlier b.by.sent b.by.earlier → i ≡ k
    go (Same is are) =
        let last : derivation n (since n (history p a.by.earlier)) ≡ Some (keyed_by k) = subst (λ (z : List Entry). derivation n (since n (history p z)) ≡ Some (keyed_by k)) (sym are) y.current.last in
        let one : keyed_by i ≡ keyed_by k = cc (x.current.last, last) in
        ap (λ (z : Derivation). z.inputs) one
    go (First t) = settled_key d n p i k a.by.octets a.covered (history p a.by.earlier) (history p b.by.earlier) other (legal_history d p b.by.earlier (good k b).legal) (fresh_history p b.by.earlier (good k b).fresh)
        (sent_tail d n p i past b.by.earlier role a t) x.current.alive x.current.last y.current.alive y.current.last own
    go (Second t) = sym (settled_key d n p k i b.by.octets b.covered (history p b.by.earlier) (history p a.by.earlier) other (legal_history d p a.by.earlier (good i a).legal) (fresh_history p a.by.earlier (good i a).fresh)
        (sent_tail d n p k past a.by.earlier role b t) y.current.alive y.current.last x.current.alive x.current.last (sym own))

ended_wider : (d : Domain) (n p : Node) (i : Inputs) (a past : List Entry) → Tail a past → Ended d n p i a → Ended d n p i past
ended_wider d n p i a past t e = record {
  covered = e.covered;
  kind_is = e.kind_is;
  by = record {
    taken = e.by.taken;
    before = e.by.before;
    taken_tail = tail_trans (e.by.taken ∷ e.by.before) a past e.by.taken_tail t;
    taken_at = e.by.taken_at;
    sent = e.by.sent;
    earlier = e.by.earlier;
    sent_tail = e.by.sent_tail;
    sent_at = e.by.sent_at;
    kind = e.by.kind;
    octets = e.by.octets;
    sent_is = e.by.sent_is;
    rounds = e.by.rounds;
    until = e.by.until;
    facts = e.by.facts;
    kind_is = e.by.kind_is;
    carries = e.by.carries;
  };
}

-- of a final message in an attempt that renews a key, and of the last before it
pub record Pair (d : Domain) (n p : Node) (i k : Inputs) (past : List Entry) : Type 0 where
  pub roles : is_ap p ≡ not (is_ap n)
  pub own : nonce_of n i ≡ nonce_of n k → ⊥
  pub now : Ended d n p i past
  pub before : Ended d n p k past

theirs : (d : Domain) (n p : Node) (i k : Inputs) (past : List Entry) → Good d past → Pair d n p i k past → nonce_of p i ≡ nonce_of p k → ⊥
theirs d n p i k past g w same_nonce = go (is_ap n) refl
  where
    go : (b : Bool) → is_ap n ≡ b → ⊥
    go true role = w.own (ap (nonce_of n) (one_finished d p n i k past g same_nonce (station_finished d n p i past role w.now) (station_finished d n p k past role w.before)))
    go false role = w.own (ap (nonce_of n) (one_attempt d n p i k past g role (w.roles ∙ ap not role) w.now w.before same_nonce))

others_by : (n p : Node) (i k : Inputs) → is_ap p ≡ not (is_ap n) → (nonce_of n i ≡ nonce_of n k → ⊥) → (nonce_of p i ≡ nonce_of p k → ⊥) → NoncesDiffer i k
others_by (Ap x) (Sta y) i k roles own other = record { anonce = own; snonce = other }
others_by (Sta x) (Ap y) i k roles own other = record { anonce = other; snonce = own }
others_by (Ap x) (Ap y) i k roles own other = absurd (cc roles)
others_by (Sta x) (Sta y) i k roles own other = absurd (cc roles)

-- ---- each renewal follows another key

there_is : (o : Option (List Act)) → in_renewal o ≡ true → (part : List Act) × ((o ≡ Some part) × (is_by_renewal part ≡ true))
there_is None s = absurd (cc s)
there_is (Some part) s = (part, (refl, s))

follows_now : (d : Domain) (l : Entry) (past : List Entry) → Good d (l ∷ past) → FollowsAt l past
follows_now d l past g p i r = (k, (had.1, others_by n p i k w.roles w.own (theirs d n p i k past good w)))
  where
    n : Node
    n = l.node

    good : Good d past
    good = good_tail d past (l ∷ past) (inr (tail_refl past)) g

    legal : LegalHistory d l.node (history l.node past)
    legal = legal_history d l.node past good.legal

    fresh : FreshHistory (history l.node past)
    fresh = fresh_history l.node past good.fresh

    fin : LegalFinished d l.node (history l.node past) p i
    fin = subst (λ (x : Act). Legal d l.node (history l.node past) x) r.is g.legal.0

    part : (part : List Act) × ((attempt p (history l.node past) ≡ Some part) × (is_by_renewal part ≡ true))
    part = there_is (attempt p (history l.node past)) r.renewal

    had : (k : Inputs) × (last_finished p (history l.node past) ≡ Some k)
    had = had_last d l.node p (history l.node past) part.0 legal part.1.0 part.1.1

    k : Inputs
    k = had.0

    there : In (Finished p had.0) (history l.node past)
    there = last_in p had.0 (history l.node past) had.1

    other : d.akm ≡ FtPsk → ⊥
    other = no_mobile d.akm (and_parts (has_renewals d) (can_renew d.akm) (renewing d l.node p (history l.node past) part.0 legal part.1.0 part.1.1)).1

    w : Pair d l.node p i had.0 past
    w = (let x = ended_before d l.node p had.0 past good other there in record {
      roles = (derived_at d l.node p i past good.legal fin.verified.derived).roles;
      own = λ same_nonce. alive_other d l.node p i had.0 (history l.node past) legal fresh fin.alive same_nonce there;
      now = ended d l.node p i past good other fin;
      before = ended_wider d l.node p had.0 x.0.earlier past (earlier_tail l.node (Finished p had.0) past x.0) x.1;
    })

follows : (d : Domain) (past : List Entry) → Good d past → FollowsOthers past
follows d [] g = tt
follows d (l ∷ past) g = (follows_now d l past g, follows d past (good_tail d past (l ∷ past) (inr (tail_refl past)) g))

-- ---- and the former key is used no longer

gone_by : (d : Domain) (n p : Node) (k : Inputs) (e : Act) (h : List Act) → LegalHistory d n (e ∷ h) → FreshHistory (e ∷ h) → In (Finished p k) h → (session p h ≡ Some (keyed_by k) → ⊥) → (b : Bool) → finishes p e ≡ b → cond b (derivation p h) (cond (closes p e) None (session p h)) ≡ Some (keyed_by k) → ⊥
gone_by d n p k e h legal fresh there more false f s = more (session_older p h (keyed_by k) (closes p e) s)
gone_by d n p k e h legal fresh there more true f s =
    let l : LegalFinished d n h p k = subst (λ (y : Act). Legal d n h y) (finished_of d n p e h (keyed_by k) legal.0 f s) legal.0 in
    alive_over d n p k h legal.1 fresh.1 l.alive there

-- after another final message no session has the key again
gone_now : (d : Domain) (n p : Node) (i k : Inputs) (h : List Act) → LegalHistory d n (Finished p i ∷ h) → FreshHistory h → In (Finished p k) h → session p (Finished p i ∷ h) ≡ Some (keyed_by k) → ⊥
gone_now d n p i k h legal fresh there s =
    let l : LegalFinished d n h p i = legal.0 in
    let last : derivation p h ≡ Some (keyed_by k) = begun_session p i h (keyed_by k) s in
    let one : keyed_by k ≡ keyed_by i = cc (last, l.last) in
    alive_over d n p i h legal.1 fresh l.alive (subst (λ (x : Derivation). In (Finished p x.inputs) h) one there)

gone : (d : Domain) (n p : Node) (i k : Inputs) (h before : List Act) → LegalHistory d n h → FreshHistory h → Tail (Finished p i ∷ before) h → In (Finished p k) before → session p h ≡ Some (keyed_by k) → ⊥
gone d n p i k [] before legal fresh t there s = cc s
gone d n p i k (e ∷ h) before legal fresh (inl is) there s =
    let whole : LegalHistory d n (Finished p i ∷ before) = subst (λ (y : List Act). LegalHistory d n y) (sym is) legal in
    let all_fresh : FreshHistory (Finished p i ∷ before) = subst (λ (y : List Act). FreshHistory y) (sym is) fresh in
    gone_now d n p i k before whole all_fresh.1 there (subst (λ (y : List Act). session p y ≡ Some (keyed_by k)) (sym is) s)
gone d n p i k (e ∷ h) before legal fresh (inr t) there s =
    gone_by d n p k e h legal fresh (tail_in before h (Finished p k) (tail_rest (Finished p i) before h t) there) (λ older. gone d n p i k h before legal.1 fresh.1 t there older) (finishes p e) refl s

append_tail : {A : Type 0} → (a b : List A) → Tail b (a ++ b)
append_tail [] b = tail_refl b
append_tail (x ∷ a) b = inr (append_tail a b)

-- the renewal, as a node has it in its history
record WasRenewed (d : Domain) (n p : Node) (k : Inputs) (past : List Entry) : Type 0 where
  good : Good d past
  i : Inputs
  before : List Act
  tail : Tail (Finished p i ∷ before) (history n past)
  there : In (Finished p k) before
  verified : Verified n (history n past) p k

was_renewed : (d : Domain) (past newer : List Entry) (m : Entry) (before : List Entry) (n p : Node) (i k : Inputs) → Good d past → past ≡ newer ++ m ∷ before → m.node ≡ n → m.act ≡ Finished p i → last_finished p (history n before) ≡ Some k → WasRenewed d n p k past
was_renewed d past newer m before n p i k g is at act last =
    let t : Tail (m ∷ before) past = subst (λ (x : List Entry). Tail (m ∷ before) x) (sym is) (append_tail newer (m ∷ before)) in
    let wide : Tail before past = tail_rest m before past t in
    let there : In (Finished p k) (history n before) = last_in p k (history n before) last in
    let own : history n (m ∷ before) ≡ Finished p i ∷ history n before = subst (λ (y : Act). history n (m ∷ before) ≡ y ∷ history n before) act (own_history n m before at) in
    record {
      good = g;
      i = i;
      before = history n before;
      tail = subst (λ (y : List Act). Tail y (history n past)) own (history_tail n (m ∷ before) past t);
      there = there;
      verified = verified_wider n p k before past wide (finished_verified d n p k (history n before) (legal_history d n before (good_tail d before past wide g).legal) there);
    }

no_use : (d : Domain) (n p : Node) (e : Act) (k : Inputs) (key : List ℕ) (number : ℕ) (plain : List ℕ) (past : List Entry) → Legal d n (history n past) e → WasRenewed d n p k past → key ≡ (ptk k).tk → Uses e key number plain → ⊥
no_use d n p e k key number plain past legal w keys (To_peer q id is) =
    let g = w.good in
    let l : LegalUsedWith (history n past) q key number = subst (λ (y : Act). Legal d n (history n past) y) is legal in
    let v = session_verified d n q l.i past g l.awaited in
    let one = one_tk d n q p l.i k past g (derived_at d n q l.i past g.legal v.derived) w.verified (sym l.is ∙ keys) in
    let now : session p (history n past) ≡ Some (keyed_by k) = subst (λ (x : Node). session x (history n past) ≡ Some (keyed_by k)) one.peer (subst (λ (x : Inputs). session q (history n past) ≡ Some (keyed_by x)) one.inputs l.awaited) in
    gone d n p w.i k (history n past) w.before (legal_history d n past g.legal) (fresh_history n past g.fresh) w.tail w.there now
no_use d n p e k key number plain past legal w keys (To_all id is) =
    let g = w.good in
    let l : LegalUsedAll (history n past) key id number = subst (λ (y : Act). Legal d n (history n past) y) is legal in
    let c = current_in l.which key l.older (history n past) l.current in
    clash l.which d n p n k key past g (derived_at d n p k past g.legal w.verified.derived) keys (current_earlier l.which d n key c.0 c.1.0 past g c.1.1).0

unused_now : (d : Domain) (l : Entry) (past : List Entry) → Good d (l ∷ past) → UnusedAt l past
unused_now d l past g newer m before p i k u is at r last uses_it keys =
    let good = good_tail d past (l ∷ past) (inr (tail_refl past)) g in
    no_use d l.node p l.act k u.key u.number u.octets past g.legal.0
    (was_renewed d past newer m before l.node p i k good is at r.is (subst (λ (x : Node). last_finished p (history x before) ≡ Some k) at last)) keys (uses_view l.act u uses_it)

unused : (d : Domain) (past : List Entry) → Good d past → FormerUnused past
unused d [] g = tt
unused d (l ∷ past) g = (unused_now d l past g, unused d past (good_tail d past (l ∷ past) (inr (tail_refl past)) g))

-- ---- of a run

pub follows_run : (d : Domain) (rounds : List (List Event)) (j : List Entry) → (d.akm ≡ FtPsk → InOctets d) → (d.akm ≡ FtPsk → HeldRight d j) → IsNamed d → Explained d rounds j → Fresh j → NoCollision j → Unforged j → FollowsOthers j
follows_run d rounds j octets held names run fresh apart unforged = follows d j (good_run d rounds j octets held names run fresh apart unforged)

pub unused_run : (d : Domain) (rounds : List (List Event)) (j : List Entry) → (d.akm ≡ FtPsk → InOctets d) → (d.akm ≡ FtPsk → HeldRight d j) → IsNamed d → Explained d rounds j → Fresh j → NoCollision j → Unforged j → FormerUnused j
unused_run d rounds j octets held names run fresh apart unforged = unused d j (good_run d rounds j octets held names run fresh apart unforged)

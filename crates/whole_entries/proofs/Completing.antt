-- Entries of a run are completed by the network, and have lines.
use Rattle.std.proofs.Common.{◌≡◌, ℕ, zero, suc, ◌+◌, ◌≤◌, Bool, true, false, not, cond, ltb, List, [], ◌∷◌, length, map, Option, Some, None, refl, sym, ap, subst, ◌∙◌, inl, inr, arith}
use Rattle.std.specs.Prelude.{bytes_eq, nat_lt, unwrap_or, option_map, slice_get}
use Rattle.std.specs.List.{AllByRecursion, position_or_len}
use Rattle.domain_base.specs.Places.{part}
use Rattle.domain_base.specs.declared.names.Node.{Node}
use Rattle.domain_base.specs.declared.names.Node.TheVariants.{Ap, Sta}
use Rattle.key_hierarchy.specs.declared.fast_transition.PmkR1.{PmkR1}
use Rattle.key_hierarchy.specs.declared.answers.PullAnswer.{PullAnswer}
use Rattle.key_hierarchy.specs.declared.answers.PullAnswer.TheVariants as pull
use Rattle.key_hierarchy.specs.declared.inputs.Inputs.{Inputs}
use Rattle.run_journal.specs.declared.domain.Domain.{Domain}
use Rattle.run_journal.specs.declared.domain.Event.{Event}
use Rattle.run_journal.specs.declared.domain.ListedAp.{ListedAp}
use Rattle.run_journal.specs.declared.domain.ListedSta.{ListedSta}
use Rattle.run_journal.specs.declared.acts.Kind.{Kind}
use Rattle.run_journal.specs.declared.acts.Kind.TheVariants as kind
use Rattle.run_journal.specs.declared.acts.Act.{Act}
use Rattle.run_journal.specs.declared.acts.Act.TheVariants.{Link, Derived, Looked, Put, Revoked, Secret, Sent, Took}
use Rattle.run_journal.specs.declared.acts.Entry.{Entry}
use Rattle.run_journal.specs.Questions.{history, or_else}
use Rattle.run_journal.specs.Premises.{In}
use Rattle.run_journal.specs.Secrets.{secret_for, last_secret_in}
use Rattle.domain_rules.specs.Network.{peer_of, r0kh_id, AreAps, InForm}
use Rattle.domain_rules.specs.Present.{present, keyed, earlier}
use Rattle.domain_rules.specs.AccessPointRows.{start_acts}
use Rattle.domain_rules.specs.Rounds.{Place, in_order}
use Rattle.domain_rules.specs.Explained.{AddsAll, Explained, number_of, push, started}
use Rattle.domain_rules.specs.HeldRight.{AllHeld, HeldRight, GivesRightKey, looking}
use Rattle.domain_rules.proofs.GroupActs.{all_started}
use Rattle.domain_rules.proofs.Journals.{IsNumbered, numbered}
use Rattle.domain_rules.proofs.PresentNetwork.{length_keyed}
use Rattle.entry_lines.specs.Entries.{HasLine, bare, bare_act, bare_number}
use Rattle.whole_entries.specs.Whole.{complete, found_name, other_end, transmitter, whole_act}
use Rattle.whole_entries.proofs.Told.{IsTold, AreTold, told_adds}

-- ---- changed keys change no address

first_keyed : (j : List Entry) (x : List ℕ) (k : ℕ) (stas : List ListedSta) → position_or_len (λ (s : ListedSta). bytes_eq s.address.0 x) (keyed j k stas) ≡ position_or_len (λ (s : ListedSta). bytes_eq s.address.0 x) stas
first_keyed j x k [] = refl
first_keyed j x k (s ∷ stas) = ap (λ (m : ℕ). cond (not (bytes_eq s.address.0 x)) (1 + m) 0) (first_keyed j x (suc k) stas)

same_peer : (d : Domain) (j : List Entry) (n : Node) (x : List ℕ) → peer_of (present d j) n x ≡ peer_of d n x
same_peer d j (Sta s) x = refl
same_peer d j (Ap a) x =
    let first = first_keyed j x zero d.stas in
    let size = length_keyed j zero d.stas in
    λ t. option_map (λ i. Sta i) (cond (ltb (first t) (size t)) (Some (first t)) None)

same_end : (d : Domain) (j : List Entry) (n : Node) (i : Inputs) → other_end (present d j) n i ≡ other_end d n i
same_end d j (Ap a) i = ap (λ (o : Option Node). unwrap_or o (Ap a)) (same_peer d j (Ap a) i.spa.0)
same_end d j (Sta s) i = refl

same_transmitter : (d : Domain) (j : List Entry) (n : Node) (k : Kind) (octets : List ℕ) → transmitter (present d j) n k octets ≡ transmitter d n k octets
same_transmitter d j n kind.Ignored octets = refl
same_transmitter d j n kind.Unread octets = refl
same_transmitter d j n _ octets = same_peer d j n (part 10 6 octets)

same_id : (d : Domain) (j : List Entry) (n : Node) → r0kh_id (present d j) n ≡ r0kh_id d n
same_id d j (Ap k) = refl
same_id d j (Sta k) = refl

before_changes : (d : Domain) (j : List Entry) (n : Node) (a : Act) → IsTold (present d j) n a → IsTold d n a
before_changes d j n (Derived p i k) t = sym (same_end d j n i) ∙ t
before_changes d j n (Took from octets k o s) t = (sym (same_transmitter d j n k octets) ∙ t.0, t.1)
before_changes d j n (Revoked x m p answer) t = t ∙ same_id d j n
before_changes d j n (Put x m p answer) t = t
before_changes d j n (Link sta s) t = t
before_changes d j n _ t = tt

after_changes : (d : Domain) (j : List Entry) (n : Node) (a : Act) → IsTold d n a → IsTold (present d j) n a
after_changes d j n (Derived p i k) t = same_end d j n i ∙ t
after_changes d j n (Took from octets k o s) t = (same_transmitter d j n k octets ∙ t.0, t.1)
after_changes d j n (Revoked x m p answer) t = t ∙ sym (same_id d j n)
after_changes d j n (Put x m p answer) t = t
after_changes d j n (Link sta s) t = t
after_changes d j n _ t = tt

-- ---- all entries of a run

abbrev AllTold : Domain → List Entry → Type 0
AllTold d j = AllByRecursion (λ (e : Entry). IsTold d e.node e.act) j

told_push : (d : Domain) (j : List Entry) (round : ℕ) (n : Node) (g : List Act) (past : List Entry) → AreTold (present d j) n g → AllTold d past → AllTold d (push round n g past)
told_push d j round n [] past told all = all
told_push d j round n (e ∷ g) past told all =
    told_push d j round n g (record { round = round; node = n; number = number_of e past; act = e } ∷ past) told.1 (before_changes d j n e told.0, all)

told_places : (d : Domain) (j : List Entry) (round : ℕ) (places : List Place) (old new : List Entry) → AddsAll (present d j) round places old new → AllTold d old → AllTold d new
told_places d j round [] old new is all = subst (AllTold d) (sym is) all
told_places d j round (p ∷ places) old new (acts, (adds, rest)) all =
    told_places d j round places (push round p.node acts old) new rest (told_push d j round p.node acts old (told_adds (present d j) 0 p.node (history p.node old) p.event acts adds) all)

told_started : (d : Domain) (k : ℕ) → AllTold d (started d k)
unfolding started
told_started d zero = tt
told_started d (suc k) =
    told_push d [] 0 (Ap k) (start_acts d 0 (Ap k)) (started d k)
    (all_started (IsTold (present d []) (Ap k)) (λ which key. tt) (λ which key id b. tt) d 0 (Ap k)) (told_started d k)

told : (d : Domain) (rounds : List (List Event)) (j : List Entry) → Explained d rounds j → AllTold d j
unfolding Explained
told d [] j is = subst (AllTold d) (sym is) (told_started d (length d.aps))
told d (round ∷ rounds) j (old, (before, follows)) = told_places d old (suc (length rounds)) (in_order follows.places) old j follows.adds (told d rounds old before)

one_told : (d : Domain) (j : List Entry) (e : Entry) → AllTold d j → In e j → IsTold d e.node e.act
one_told d [] e all there = absurd there
one_told d (x ∷ j) e all (inl here) = subst (λ (y : Entry). IsTold d y.node y.act) (sym here) all.0
one_told d (x ∷ j) e all (inr later) = one_told d j e all.1 later

-- ---- numbers

bare_numbered : (past : List Entry) (a : Act) → bare_number (number_of a past) a ≡ number_of a past
bare_numbered past (Sent p k octets s) = refl
bare_numbered past _ = refl

kept_number : (j : List Entry) (e : Entry) → IsNumbered j → In e j → bare_number e.number e.act ≡ e.number
kept_number [] e all there = absurd there
kept_number (x ∷ j) e all (inl here) =
    let mine : bare_number x.number x.act ≡ x.number = subst (λ (m : ℕ). bare_number m x.act ≡ m) (sym all.0) (bare_numbered j x.act) in
    subst (λ (y : Entry). bare_number y.number y.act ≡ y.number) (sym here) mine
kept_number (x ∷ j) e all (inr later) = kept_number j e all.1 later

-- ---- the name of a key that was found

given_right : (d : Domain) (j past : List Entry) (e : Entry) (id name : List ℕ) (p : Node) (answer : PullAnswer) → AllHeld d j past → In e past → e.act ≡ Looked id name p answer
    → GivesRightKey (present d (earlier e.round j)) id (looking e name p) answer
unfolding AllHeld
given_right d j [] e id name p answer held there is = absurd there
given_right d j (x ∷ past) e id name p answer held (inl here) is =
    subst (λ (y : Entry). GivesRightKey (present d (earlier y.round j)) id (looking y name p) answer) (sym here)
    (held.0 id name p answer (ap (λ (y : Entry). y.act) (sym here) ∙ is)).1
given_right d j (x ∷ past) e id name p answer held (inr later) is = given_right d j past e id name p answer held.1 later is

-- ---- an act is what its line and the network tell

whole : (c : Domain) (n : Node) (a : Act) → IsTold c n a → ((id name : List ℕ) (p : Node) (k : PmkR1) → a ≡ Looked id name p (pull.Found k) → k.name ≡ found_name c n id p) → whole_act c n (bare_act n a) ≡ a
whole c n (Derived p i k) t named = ap (λ (q : Node). Derived q i k) t
whole c n (Took from octets k o s) t named = ap (λ (f : Option Node). Took f octets k o s) t.0
whole c n (Looked id m p (pull.Found k)) t named = ap (λ (x : List ℕ). Looked id m p (pull.Found (record { key = k.key; name = x }))) (sym (named id m p k refl))
whole c n (Looked id m p pull.NoHolder) t named = refl
whole c n (Looked id m p pull.Absent) t named = refl
whole c n _ t named = refl

pub completed : (d : Domain) (rounds : List (List Event)) (j : List Entry) (e : Entry) → Explained d rounds j → HeldRight d j → In e j → complete (present d (earlier e.round j)) (bare e) ≡ e
completed d rounds j e explained held there =
    let c : Domain = present d (earlier e.round j) in
    let t : IsTold c e.node e.act = after_changes d (earlier e.round j) e.node e.act (one_told d j e (told d rounds j explained) there) in
    let number : bare_number e.number e.act ≡ e.number = kept_number j e (numbered d rounds j explained) there in
    let act : whole_act c e.node (bare_act e.node e.act) ≡ e.act = whole c e.node e.act t (λ id name p k is. ap (λ (x : PmkR1). x.name) (given_right d j j e id name p (pull.Found k) held there is)) in
    λ i. record { round = e.round; node = e.node; number = number i; act = act i }

-- ---- lines tell the keys as they were changed

bare_secret : (p n : Node) (a : Act) → secret_for p (bare_act n a) ≡ secret_for p a
bare_secret p n (Secret q psk) = refl
bare_secret p n (Looked id m q (pull.Found k)) = refl
bare_secret p n (Looked id m q pull.NoHolder) = refl
bare_secret p n (Looked id m q pull.Absent) = refl
bare_secret p n _ = refl

last_bare : (p : Node) (j : List Entry) → last_secret_in p (map bare j) ≡ last_secret_in p j
last_bare p [] = refl
last_bare p (e ∷ j) =
    let first = bare_secret p e.node e.act in
    let rest = last_bare p j in
    λ i. or_else (first i) (rest i)

keyed_bare : (j : List Entry) (k : ℕ) (stas : List ListedSta) → keyed (map bare j) k stas ≡ keyed j k stas
keyed_bare j k [] = refl
keyed_bare j k (s ∷ stas) =
    let psk = last_bare (Sta k) j in
    let rest = keyed_bare j (suc k) stas in
    λ i. record { address = s.address; psk = unwrap_or (psk i) s.psk } ∷ rest i

present_bare : (d : Domain) (j : List Entry) → present d (map bare j) ≡ present d j
present_bare d j = let stas = keyed_bare j zero d.stas in ap (λ (x : List ListedSta). record d { stas = x }) stas

earlier_by : (b : Bool) (e : Entry) (j k : List Entry) → k ≡ map bare j → cond b (bare e ∷ k) k ≡ map bare (cond b (e ∷ j) j)
earlier_by true e j k is = ap (λ (l : List Entry). bare e ∷ l) is
earlier_by false e j k is = is

earlier_bare : (round : ℕ) (j : List Entry) → earlier round (map bare j) ≡ map bare (earlier round j)
earlier_bare round [] = refl
earlier_bare round (e ∷ j) = earlier_by (nat_lt e.round round) e (earlier round j) (earlier round (map bare j)) (earlier_bare round j)

pub network_bare : (d : Domain) (round : ℕ) (j : List Entry) → present d (earlier round (map bare j)) ≡ present d (earlier round j)
network_bare d round j = ap (λ (l : List Entry). present d l) (earlier_bare round j) ∙ present_bare d (earlier round j)

-- ---- each has a line

few_at : (aps : List ListedAp) (k : ℕ) → AreAps aps → length (unwrap_or (option_map (λ (a : ListedAp). a.r0kh_id) (slice_get aps k)) []) ≤ 48
few_at [] zero are = omega arith
few_at [] (suc k) are = omega arith
few_at (a ∷ aps) zero are = are.2
few_at (a ∷ aps) (suc k) are = few_at aps k are.5

few_id : (d : Domain) (n : Node) → InForm d → length (r0kh_id d n) ≤ 48
few_id d (Ap k) form = few_at d.aps k form.aps
few_id d (Sta k) form = omega arith

has_line : (d : Domain) (n : Node) (a : Act) → InForm d → IsTold d n a → HasLine a
has_line d n (Took from octets k o s) form t = t.1
has_line d n (Put x m p answer) form t = t
has_line d n (Revoked x m p answer) form t = subst (λ (y : List ℕ). length y ≤ 48) (sym t) (few_id d n form)
has_line d n (Link sta s) form t = absurd t
has_line d n _ form t = tt

pub lined_entry : (d : Domain) (rounds : List (List Event)) (j : List Entry) (e : Entry) → InForm d → Explained d rounds j → In e j → HasLine e.act
lined_entry d rounds j e form explained there = has_line d e.node e.act form (one_told d j e (told d rounds j explained) there)

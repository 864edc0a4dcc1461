-- The events of a round one after the other.
use Rattle.std.proofs.Common.{◌≡◌, ℕ, zero, suc, ◌<◌, ◌≤◌, ◌+◌, ◌*◌, inr, true, false, true≢false, List, [], ◌∷◌, ◌++◌, length, take, map, refl, sym, ap, subst, ◌∙◌, arith}
use native.Mathlib.Numerals.{unary_clauses}
use Rattle.std.specs.Prelude.{slice_index_or}
use Rattle.std.proofs.lemmas.List.{map-append}
use Rattle.std.specs.List.{AllByRecursion}
use Rattle.domain_base.specs.declared.names.Node.{Node}
use Rattle.domain_base.specs.declared.names.Node.TheVariants.{Ap, Sta}
use Rattle.run_journal.specs.declared.domain.Domain.{Domain}
use Rattle.run_journal.specs.declared.domain.Event.{Event}
use Rattle.run_journal.specs.declared.domain.Event.TheVariants.{Connect, Roam, Deliver, Alter, Cut, Inject, Retry, Rekey, Send, Expire, Revoke, Leave, Secret, Renew, Announce}
use Rattle.run_journal.specs.declared.acts.Act.{Act}
use Rattle.run_journal.specs.declared.acts.Entry.{Entry}
use Rattle.run_journal.specs.Premises.{In}
use Rattle.run_journal.specs.Secrets.{changes_keys}
use Rattle.domain_rules.specs.Network.{InForm, is_ap}
use Rattle.run_journal.specs.Events.{IsListed}
use Rattle.domain_world.specs.Ordering.{node_of}
use Rattle.domain_rules.specs.InOctets.{InOctets}
use Rattle.domain_rules.specs.Rounds.{most_acts}
use Rattle.domain_rules.specs.Rows.{NodeEvent}
use Rattle.domain_rules.specs.Explained.{push, number_of, WasSent, HappensAt}
use Rattle.domain_rules.specs.HeldRight.{AnsweredInTime}
use Rattle.domain_rules.specs.Present.{present}
use Rattle.domain_world.specs.declared.part.Part.{Part}
use Rattle.domain_world.specs.State.{State}
use Rattle.domain_world.specs.Owning.{AreListed, Stand, IsPast, IsNumbered, places, nodes_of, IsOneIn, AreEventsIn, Owns, IsSince}
use Rattle.domain_world.specs.Waiting.{joined, waiting, AreShort, AreAtAps}
use Rattle.domain_world.specs.Acting.{Played}
use Rattle.domain_world.proofs.InTurn.{same_in_turn}
use Rattle.domain_world.proofs.Placed.{places_count, numbered_push}
use Rattle.domain_world.proofs.Standing.{past_push, past_more}

-- ---- parts put on a journal

in_push : (e : Entry) (round : ℕ) (n : Node) (g : List Act) (j : List Entry) → In e j → In e (push round n g j)
in_push e round n [] j there = there
in_push e round n (act ∷ g) j there = in_push e round n g (record { round = round; node = n; number = number_of act j; act = act } ∷ j) (inr there)

in_joined : (e : Entry) (round : ℕ) (parts : List Part) (j : List Entry) → In e j → In e (joined round parts j)
in_joined e round [] j there = there
in_joined e round (part ∷ parts) j there = in_joined e round parts (push round part.node part.out.acts j) (in_push e round part.node part.out.acts j there)

-- what was sent before the round is sent before it still
sent_joined : (round number : ℕ) (octets : List ℕ) (at : ℕ) (parts : List Part) (j : List Entry) → WasSent j round number octets → WasSent (joined at parts j) round number octets
sent_joined round number octets at parts j sent = record { entry = sent.entry; there = in_joined sent.entry at parts j sent.there; earlier = sent.earlier; is = sent.is; act = sent.act }

pub happens_joined : (event : Event) (round : ℕ) (n : Node) (here : NodeEvent) (at : ℕ) (parts : List Part) (j : List Entry) → HappensAt event j round n here → HappensAt event (joined at parts j) round n here
happens_joined (Connect s a) round n here at parts j is = is
happens_joined (Roam s a) round n here at parts j is = is
happens_joined (Deliver number to) round n here at parts j is = (is.0, (sent_joined round number is.0 at parts j is.1.0, is.1.1))
happens_joined (Alter number place mask to) round n here at parts j is = (is.0, (sent_joined round number is.0 at parts j is.1.0, is.1.1))
happens_joined (Cut number size to) round n here at parts j is = (is.0, (sent_joined round number is.0 at parts j is.1.0, is.1.1))
happens_joined (Inject to octets) round n here at parts j is = is
happens_joined (Retry a s) round n here at parts j is = is
happens_joined (Rekey a) round n here at parts j is = is
happens_joined (Send from to tid octets) round n here at parts j is = is
happens_joined (Expire a s) round n here at parts j is = is
happens_joined (Revoke a s) round n here at parts j is = is
happens_joined (Leave s) round n here at parts j is = is
happens_joined (Secret named psk) round n here at parts j is = is
happens_joined (Renew a s) round n here at parts j is = is
happens_joined (Announce a octets) round n here at parts j is = is

pub low_push : (round : ℕ) (n : Node) (g : List Act) (j : List Entry) → AllByRecursion (λ (e : Entry). e.round ≤ round) j → AllByRecursion (λ (e : Entry). e.round ≤ round) (push round n g j)
low_push round n [] j low = low
low_push round n (act ∷ g) j low = low_push round n g (record { round = round; node = n; number = number_of act j; act = act } ∷ j) (omega arith, low)

pub low_joined : (round : ℕ) (parts : List Part) (j : List Entry) → AllByRecursion (λ (e : Entry). e.round ≤ round) j → AllByRecursion (λ (e : Entry). e.round ≤ round) (joined round parts j)
low_joined round [] j low = low
low_joined round (part ∷ parts) j low = low_joined round parts (push round part.node part.out.acts j) (low_push round part.node part.out.acts j low)

-- ---- how many acts wait

pub times_suc : (m n : ℕ) → m * suc n ≡ m * n + m
times_suc m n = simp unary_clauses (refl {a = m * n + m})

pub waiting_short : (stas most : ℕ) (parts : List Part) → ((event : Event) → changes_keys event ≡ false → most_acts event stas ≤ most) → AreShort stas parts → waiting parts ≤ most * length parts
waiting_short stas most [] high all = omega arith
waiting_short stas most (part ∷ parts) high all =
    let rest = waiting_short stas most parts high all.1 in
    let more = times_suc most (length parts) in
    omega (arith, rest, all.0.2, high all.0.0 all.0.1, more)

-- ---- a round's end

placed_joined : (d : Domain) (rounds round : ℕ) (parts : List Part) (j : List Entry) → round ≤ rounds → AllByRecursion (λ (x : Part). IsListed d x.node) parts → IsNumbered j → AllByRecursion (IsPast d rounds) j
    → IsNumbered (joined round parts j) × AllByRecursion (IsPast d rounds) (joined round parts j)
placed_joined d rounds round [] j low listed numbered past = (numbered, past)
placed_joined d rounds round (part ∷ parts) j low listed numbered past =
    placed_joined d rounds round parts (push round part.node part.out.acts j) low listed.1 (numbered_push round part.node part.out.acts j numbered) (past_push d rounds round part.node part.out.acts j low listed.0 past)

-- the network is that of the header still, and key holders answered rightly
pub since_round : (c : Domain) (old new : State) (events : List Event) (parts : List Part) (j k : List Entry) → IsSince c old j → Played (suc old.rounds) events j (nodes_of old) (nodes_of new) parts → k ≡ joined (suc old.rounds) parts j → IsSince c new k
since_round c old new events parts j k since played is = record {
  is_present = ap (present c) is ∙ same_in_turn c old.domain (suc old.rounds) events j (joined (suc old.rounds) parts j) played.follows ∙ since.is_present ∙ sym played.domain;
  right = subst (AnsweredInTime c) (sym is) (played.right c since.is_present since.right);
}

pub own_round : (old new : State) (events : List Event) (parts : List Part) (j k : List Entry) → Owns old j → Played (suc old.rounds) events j (nodes_of old) (nodes_of new) parts → AreListed (nodes_of new)
    → new.rounds ≡ suc old.rounds → new.usable ≡ true → new.frames ≡ places k → k ≡ joined (suc old.rounds) parts j → Owns new k
own_round old new events parts j k own played all rounds usable noted is =
    let domain = played.domain in
    let past = past_more old.domain old.domain old.rounds (suc old.rounds) j (omega arith) (λ n l. l) own.placed.past in
    let placed = placed_joined old.domain (suc old.rounds) (suc old.rounds) parts j (omega arith) played.listed own.placed.numbered past in
    record {
      usable = usable;
      form = subst InForm (sym domain) own.form;
      octets = subst InOctets (sym domain) own.octets;
      listed = all;
      stand = subst (Stand (nodes_of new)) (sym is) played.stand;
      placed = record {
        count = ap length noted ∙ places_count k;
        numbered = subst IsNumbered (sym is) placed.0;
        places = noted;
        past = subst (AllByRecursion (IsPast new.domain new.rounds)) (sym is)
            (subst (λ r. AllByRecursion (IsPast new.domain r) (joined (suc old.rounds) parts j)) (sym rounds)
            (subst (λ (d : Domain). AllByRecursion (IsPast d (suc old.rounds)) (joined (suc old.rounds) parts j)) (sym domain) placed.1));
      };
      unchanged = λ none. absurd (omega (arith, none, rounds));
      quiet = λ none. absurd (omega (arith, none, rounds));
      asked = λ none. absurd (omega (arith, none, rounds));
      header = (own.header.0, since_round own.header.0 old new events parts j k own.header.1 played is);
    }

-- ---- the events of a round

pub listed_at : (d : Domain) (sent : ℕ) (j : List Entry) (event : Event) → IsOneIn d sent j event → IsListed d (node_of event)
listed_at d sent j (Connect s a) is = is.0.0
listed_at d sent j (Roam s a) is = is.0.0
listed_at d sent j (Deliver number to) is = is.0.0
listed_at d sent j (Alter number place mask to) is = is.0.0
listed_at d sent j (Cut number size to) is = is.0.0
listed_at d sent j (Inject to octets) is = is.0
listed_at d sent j (Retry a s) is = is.0.0
listed_at d sent j (Rekey a) is = is.0
listed_at d sent j (Send from to tid octets) is = is.0.0
listed_at d sent j (Expire a s) is = is.0.0
listed_at d sent j (Revoke a s) is = is.0.0
listed_at d sent j (Leave s) is = is.0
listed_at d sent j (Secret named psk) is = absurd (true≢false is.1)
listed_at d sent j (Renew a s) is = is.0.0
listed_at d sent j (Announce a octets) is = is.0.0

ap_of : (d : Domain) (n : Node) → is_ap n ≡ true → IsListed d n → (k : ℕ) × (k < length d.aps) × (n ≡ Ap k)
ap_of d (Ap k) is listed = (k, listed, refl)
ap_of d (Sta k) is listed = absurd (cc is)

pub at_aps : (d : Domain) (sent : ℕ) (j : List Entry) (events : List Event) → AreEventsIn d sent j events → AreAtAps (length d.aps) events
at_aps d sent j [] all = tt
at_aps d sent j (event ∷ events) all = (ap_of d (node_of event) all.0.1 (listed_at d sent j event all.0.0), at_aps d sent j events all.1)

pub event_in : (d : Domain) (sent : ℕ) (j : List Entry) (events : List Event) (i : ℕ) (event : Event) → i < length events → event ≡ slice_index_or events i event → AreEventsIn d sent j events → IsOneIn d sent j event
event_in d sent j [] i event low is all = absurd (omega arith)
event_in d sent j (x ∷ events) zero event low is all = subst (IsOneIn d sent j) (sym is) all.0.0
event_in d sent j (x ∷ events) (suc i) event low is all = event_in d sent j events i event (omega arith) is all.1

-- ---- the events behind references

pub index_map : {A B : Type 0} (f : A → B) (xs : List A) (i : ℕ) (x : A) → i < length xs → x ≡ slice_index_or xs i x → f x ≡ slice_index_or (map f xs) i (f x)
index_map f [] i x low is = absurd (omega arith)
index_map f (y ∷ xs) zero x low is = ap f is
index_map f (y ∷ xs) (suc i) x low is = index_map f xs i x (omega arith) is

pub next_taken : {A : Type 0} (xs : List A) (i : ℕ) (x : A) → i < length xs → x ≡ slice_index_or xs i x → take (suc i) xs ≡ take i xs ++ x ∷ []
next_taken [] i x low is = absurd (omega arith)
next_taken (y ∷ xs) zero x low is = ap (λ z. z ∷ []) (sym is)
next_taken (y ∷ xs) (suc i) x low is = ap (λ l. y ∷ l) (next_taken xs i x (omega arith) is)

pub map_taken : {A B : Type 0} (f : A → B) (xs : List A) (i : ℕ) (x : A) → i < length xs → x ≡ slice_index_or xs i x → map f (take (i + 1) xs) ≡ map f (take i xs) ++ f x ∷ []
map_taken f xs i x low is =
    let e : i + 1 ≡ suc i = omega arith in
    ap (λ n. map f (take n xs)) e ∙ ap (map f) (next_taken xs i x low is) ∙ map-append f (take i xs) (x ∷ [])

-- The network of a storm, one node after the other.
use Rattle.std.proofs.Common.{◌≡◌, ◌≢◌, ℕ, zero, suc, ◌+◌, ◌<◌, ◌≤◌, true, List, [], ◌∷◌, length, length-append, get_or, refl, sym, ap, subst, ◌∙◌, arith}
use Rattle.std.specs.Prelude.{slice_index}
use Rattle.std.specs.List.{AllByRecursion}
use Rattle.std.proofs.lemmas.List.Elements.{All-cons, All-nil}
use Rattle.domain_base.specs.Octets.{AreOctets}
use Rattle.domain_base.specs.declared.names.Mac.{Mac}
use Rattle.run_journal.specs.declared.domain.Domain.{Domain}
use Rattle.run_journal.specs.declared.domain.ListedAp.{ListedAp}
use Rattle.run_journal.specs.declared.domain.ListedSta.{ListedSta}
use Rattle.run_journal.specs.declared.acts.Entry.{Entry}
use Rattle.run_journal.specs.Listing.{with_ap, with_sta}
use Rattle.domain_rules.specs.HeldRight.{AllInTime, AnsweredInTime}
use Rattle.domain_rules.specs.Network.{InForm}
use Rattle.domain_rules.specs.Explained.{Explained, started}
use Rattle.domain_rules.specs.InOctets.{InOctets}
use Rattle.domain_rules.proofs.Journals.{explained_start, started_none}
use Rattle.domain_world.specs.State.{State}
use Rattle.domain_world.specs.Owning.{Owns, IsSince}
use Rattle.script_words.specs.Tokens.{is_single}
use Rattle.script_lines.specs.Headers.{CanListAp, CanListSta}
use Rattle.storm.specs.Header.{domain_of, ap_of, aps_to, secrets, sta_of, stas_to, begun}
use Rattle.storm.specs.Course.{Course, events_from, storm}
use Rattle.storm.proofs.Seeing.{HasSeen-none}
use Rattle.script_runs.specs.Storms.{network, rounds_of}
use Rattle.script_runs.specs.Courses.{IsListing, IsUnderWay, IsSoFar, IsFrontSoFar}
use Rattle.script_runs.proofs.Drawn.{Nodes}
use Rattle.script_runs.proofs.Networks.{all_push, InForm-new, InForm-ap, InForm-sta}

-- the key of all stations
abbrev pub psk_in : ℕ → List ℕ
psk_in number = (secrets number).0.psk

-- ---- nodes that are listed

pub ap_at : (d : ListedAp) (n : ℕ) → n < 4 → get_or (aps_to 4) n d ≡ ap_of (suc n)
unfolding aps_to
ap_at d zero low = refl
ap_at d (suc zero) low = refl
ap_at d (suc (suc zero)) low = refl
ap_at d (suc (suc (suc zero))) low = refl
ap_at d (suc (suc (suc (suc n)))) low = absurd (omega (arith, low))

pub sta_at : (psk : List ℕ) (d : ListedSta) (n : ℕ) → n < 8 → get_or (stas_to psk 8) n d ≡ sta_of psk (suc n)
unfolding stas_to
sta_at psk d zero low = refl
sta_at psk d (suc zero) low = refl
sta_at psk d (suc (suc zero)) low = refl
sta_at psk d (suc (suc (suc zero))) low = refl
sta_at psk d (suc (suc (suc (suc zero)))) low = refl
sta_at psk d (suc (suc (suc (suc (suc zero))))) low = refl
sta_at psk d (suc (suc (suc (suc (suc (suc zero)))))) low = refl
sta_at psk d (suc (suc (suc (suc (suc (suc (suc zero))))))) low = refl
sta_at psk d (suc (suc (suc (suc (suc (suc (suc (suc n)))))))) low = absurd (omega (arith, low))

pub whole_network : (number : ℕ) → domain_of number ≡ network number 4 8
unfolding domain_of
whole_network number = refl

pub domain_aps : (number : ℕ) → (domain_of number).aps ≡ aps_to 4
unfolding domain_of
domain_aps number = refl

pub domain_stas : (number : ℕ) → (domain_of number).stas ≡ stas_to (psk_in number) 8
unfolding domain_of
domain_stas number = refl

no_aps : aps_to 0 ≡ []
unfolding aps_to
no_aps = refl

no_stas : (psk : List ℕ) → stas_to psk 0 ≡ []
unfolding stas_to
no_stas psk = refl

length-aps : (n : ℕ) → length (aps_to n) ≡ n
unfolding aps_to
length-aps zero = refl
length-aps (suc n) = omega (arith, length-append (aps_to n) (ap_of (suc n) ∷ []), length-aps n)

length-stas : (psk : List ℕ) (n : ℕ) → length (stas_to psk n) ≡ n
unfolding stas_to
length-stas psk zero = refl
length-stas psk (suc n) = omega (arith, length-append (stas_to psk n) (sta_of psk (suc n) ∷ []), length-stas psk n)

akm_is : (number : ℕ) → (domain_of number).akm ≡ Rattle.domain_base.specs.declared.names.Akm.TheVariants.FtPsk
unfolding domain_of
akm_is number = refl

pub nodes_of_storm : (number : ℕ) (d : Domain) → d ≡ network number 4 8 → Nodes d
nodes_of_storm number d is =
    subst Nodes (sym is) (record { aps = length-aps 4; stas = length-stas (psk_in number) 8; akm = akm_is number })

-- ---- one more

with_next_ap : (number n : ℕ) → with_ap (network number n 0) (ap_of (suc n)).address (ap_of (suc n)).r0kh_id ≡ network number (suc n) 0
unfolding aps_to
with_next_ap number n = refl

with_next_sta : (number n : ℕ) → with_sta (network number 4 n) (sta_of (psk_in number) (suc n)).address (sta_of (psk_in number) (suc n)).psk ≡ network number 4 (suc n)
unfolding stas_to
with_next_sta number n = refl

other_address : (k m : ℕ) → k < m → (ap_of k).address ≢ (ap_of m).address
unfolding ap_of
other_address k m low same = let e : k ≡ m = ap (λ (x : Mac). slice_index x.0 5) same in absurd (omega (arith, e, low))

other_id : (k m : ℕ) → k < m → (ap_of k).r0kh_id ≢ (ap_of m).r0kh_id
unfolding ap_of
other_id k m low same = let e : 48 + k ≡ 48 + m = ap (λ (x : List ℕ). slice_index x 5) same in absurd (omega (arith, e, low))

other_sta : (psk : List ℕ) (k m : ℕ) → k < m → (sta_of psk k).address ≢ (sta_of psk m).address
unfolding sta_of
other_sta psk k m low same = let e : k ≡ m = ap (λ (x : Mac). slice_index x.0 5) same in absurd (omega (arith, e, low))

ap_no_sta : (psk : List ℕ) (k m : ℕ) → (ap_of k).address ≢ (sta_of psk m).address
unfolding ap_of sta_of
ap_no_sta psk k m same = let e : 0 ≡ 1 = ap (λ (x : Mac). slice_index x.0 4) same in absurd (omega (arith, e))

addresses_before : (n m : ℕ) → n < m → AllByRecursion (λ (a : ListedAp). a.address ≢ (ap_of m).address) (aps_to n)
unfolding aps_to
addresses_before zero m low = tt
addresses_before (suc n) m low =
    all_push (λ (a : ListedAp). a.address ≢ (ap_of m).address) (aps_to n) (ap_of (suc n)) (addresses_before n m (omega (arith, low))) (other_address (suc n) m low)

ids_before : (n m : ℕ) → n < m → AllByRecursion (λ (a : ListedAp). a.r0kh_id ≢ (ap_of m).r0kh_id) (aps_to n)
unfolding aps_to
ids_before zero m low = tt
ids_before (suc n) m low =
    all_push (λ (a : ListedAp). a.r0kh_id ≢ (ap_of m).r0kh_id) (aps_to n) (ap_of (suc n)) (ids_before n m (omega (arith, low))) (other_id (suc n) m low)

stas_before : (psk : List ℕ) (n m : ℕ) → n < m → AllByRecursion (λ (s : ListedSta). s.address ≢ (sta_of psk m).address) (stas_to psk n)
unfolding stas_to
stas_before psk zero m low = tt
stas_before psk (suc n) m low =
    all_push (λ (s : ListedSta). s.address ≢ (sta_of psk m).address) (stas_to psk n) (sta_of psk (suc n)) (stas_before psk n m (omega (arith, low))) (other_sta psk (suc n) m low)

aps_no_sta : (psk : List ℕ) (n m : ℕ) → AllByRecursion (λ (a : ListedAp). a.address ≢ (sta_of psk m).address) (aps_to n)
unfolding aps_to
aps_no_sta psk zero m = tt
aps_no_sta psk (suc n) m =
    all_push (λ (a : ListedAp). a.address ≢ (sta_of psk m).address) (aps_to n) (ap_of (suc n)) (aps_no_sta psk n m) (ap_no_sta psk (suc n) m)

single_ap : (m : ℕ) → is_single (ap_of m).address.0 ≡ true
unfolding is_single ap_of
single_ap m = refl

single_sta : (psk : List ℕ) (m : ℕ) → is_single (sta_of psk m).address.0 ≡ true
unfolding is_single sta_of
single_sta psk m = refl

six_id : (m : ℕ) → length (ap_of m).r0kh_id ≡ 6
unfolding ap_of
six_id m = refl

can_list_ap : (number n : ℕ) → n < 4 → CanListAp (network number n 0) (ap_of (suc n)).address (ap_of (suc n)).r0kh_id
can_list_ap number n low = record {
  address_ = record {
    single = single_ap (suc n);
    no_ap = addresses_before n (suc n) (omega arith);
    no_sta = subst (λ (stas : List ListedSta). AllByRecursion (λ (s : ListedSta). s.address ≢ (ap_of (suc n)).address) stas) (sym (no_stas (psk_in number))) tt;
  };
  some = omega (arith, six_id (suc n));
  few = omega (arith, six_id (suc n));
  other = ids_before n (suc n) (omega arith);
  room = omega (arith, length-aps n, low);
}

can_list_sta : (number n : ℕ) → n < 8 → CanListSta (network number 4 n) (sta_of (psk_in number) (suc n)).address
can_list_sta number n low = record {
  address_ = record { single = single_sta (psk_in number) (suc n); no_ap = aps_no_sta (psk_in number) 4 (suc n); no_sta = stas_before (psk_in number) n (suc n) (omega arith) };
  room = omega (arith, length-stas (psk_in number) n, low);
}

pub ap_form : (number n : ℕ) (w : State) (j : List Entry) (a : ListedAp) (id : List ℕ) → IsListing number n 0 w j → a ≡ ap_of (suc n) → id ≡ a.r0kh_id → n < 4 → InForm (with_ap w.domain a.address id)
ap_form number n w j a id l is same low =
    let can = subst (λ (d : Domain). CanListAp d (ap_of (suc n)).address (ap_of (suc n)).r0kh_id) (sym l.network_is) (can_list_ap number n low) in
    let here = subst (λ (x : ListedAp). InForm (with_ap w.domain x.address x.r0kh_id)) (sym is) (InForm-ap w.domain _ _ l.own.form can) in
    subst (λ (x : List ℕ). InForm (with_ap w.domain a.address x)) (sym same) here

pub sta_form : (number n : ℕ) (w : State) (j : List Entry) (s : ListedSta) → IsListing number 4 n w j → s ≡ sta_of (psk_in number) (suc n) → n < 8 → InForm (with_sta w.domain s.address s.psk)
sta_form number n w j s l is low =
    let can = subst (λ (d : Domain). CanListSta d (sta_of (psk_in number) (suc n)).address) (sym l.network_is) (can_list_sta number n low) in
    subst (λ (x : ListedSta). InForm (with_sta w.domain x.address x.psk)) (sym is) (InForm-sta w.domain _ (sta_of (psk_in number) (suc n)).psk l.own.form can)

pub ap_listed : (number n : ℕ) (w v : State) (j k : List Entry) (a : ListedAp) (id : List ℕ) → IsListing number n 0 w j → a ≡ ap_of (suc n) → id ≡ a.r0kh_id → v.domain ≡ with_ap w.domain a.address id → ((c : Domain) → IsSince c w j → IsSince (with_ap c a.address id) v k) → v.rounds ≡ w.rounds → Owns v k
    → (j ≡ started w.domain (length w.domain.aps) → k ≡ started v.domain (length v.domain.aps)) → IsListing number (suc n) 0 v k
ap_listed number n w v j k a id l is same domain since rounds own starts = record {
  network_is = domain ∙ ap (λ (x : List ℕ). with_ap w.domain a.address x) same ∙ ap (λ (x : ListedAp). with_ap w.domain x.address x.r0kh_id) is
      ∙ ap (λ (d : Domain). with_ap d (ap_of (suc n)).address (ap_of (suc n)).r0kh_id) l.network_is ∙ with_next_ap number n;
  none = rounds ∙ l.none;
  own = own;
  since = subst (λ (d : Domain). IsSince d v k) (ap (λ (x : List ℕ). with_ap (network number n 0) a.address x) same ∙ ap (λ (x : ListedAp). with_ap (network number n 0) x.address x.r0kh_id) is ∙ with_next_ap number n)
      (since (network number n 0) l.since);
  starts = starts l.starts;
}

pub sta_listed : (number n : ℕ) (w v : State) (j : List Entry) (s : ListedSta) → IsListing number 4 n w j → s ≡ sta_of (psk_in number) (suc n) → v.domain ≡ with_sta w.domain s.address s.psk → ((c : Domain) → IsSince c w j → IsSince (with_sta c s.address s.psk) v j) → v.rounds ≡ w.rounds → Owns v j
    → (j ≡ started w.domain (length w.domain.aps) → j ≡ started v.domain (length v.domain.aps)) → IsListing number 4 (suc n) v j
sta_listed number n w v j s l is domain since rounds own starts = record {
  network_is = domain ∙ ap (λ (x : ListedSta). with_sta w.domain x.address x.psk) is
      ∙ ap (λ (d : Domain). with_sta d (sta_of (psk_in number) (suc n)).address (sta_of (psk_in number) (suc n)).psk) l.network_is ∙ with_next_sta number n;
  none = rounds ∙ l.none;
  own = own;
  since = subst (λ (d : Domain). IsSince d v j) (ap (λ (x : ListedSta). with_sta (network number 4 n) x.address x.psk) is ∙ with_next_sta number n) (since (network number 4 n) l.since);
  starts = starts l.starts;
}

-- ---- before any node is listed

pub bare : (number : ℕ) (d : Domain) → d ≡ record (domain_of number) { aps = []; stas = [] } → d ≡ network number 0 0
unfolding aps_to stas_to
bare number d is = is

five : (number : ℕ) → length (domain_of number).ssid ≡ 5
unfolding domain_of
five number = refl

pub bare_form : (number : ℕ) → InForm (network number 0 0)
bare_form number =
    InForm-new (network number 0 0) (record { some = omega (arith, five number); few = omega (arith, five number); no_aps = no_aps; no_stas = no_stas (psk_in number) })

two_octets : AreOctets (0xa1 ∷ 0xb2 ∷ [])
two_octets = let P : ℕ → Type 0 = λ (o : ℕ). o < 256 in All-cons P 0xa1 (0xb2 ∷ []) (omega arith) (All-cons P 0xb2 [] (omega arith) (All-nil P))

bare_octets : (number : ℕ) → InOctets (network number 0 0)
unfolding domain_of aps_to stas_to
bare_octets number = record { mdid = refl; ap_sizes = tt; sta_sizes = tt; mdid_octets = two_octets; ap_octets = tt; sta_octets = tt; id_octets = tt }

pub bare_listing : (number : ℕ) (w : State) → w.domain ≡ network number 0 0 → w.rounds ≡ 0 → Owns w [] → IsSince w.domain w [] → IsListing number 0 0 w []
bare_listing number w is none own since = record {
  network_is = is;
  none = none;
  own = own;
  since = subst (λ (d : Domain). IsSince d w []) is since;
  starts = sym (started_none w.domain) ∙ ap (started w.domain) (sym (ap (λ (d : Domain). length d.aps) is ∙ length-aps 0));
}

-- the network that is told without nodes
nodeless : (number : ℕ) (d e : Domain) → e ≡ domain_of number → d ≡ record e { aps = []; stas = [] } → d ≡ network number 0 0
nodeless number d e whole is = bare number d (is ∙ ap (λ (x : Domain). record x { aps = []; stas = [] }) whole)

pub begin_form : (number : ℕ) (d e : Domain) → e ≡ domain_of number → d ≡ record e { aps = []; stas = [] } → InForm d
begin_form number d e whole is = subst InForm (sym (nodeless number d e whole is)) (bare_form number)

pub begin_aps : (d e : Domain) → d ≡ record e { aps = []; stas = [] } → d.aps ≡ []
begin_aps d e is = ap (λ (x : Domain). x.aps) is

pub begin_stas : (d e : Domain) → d ≡ record e { aps = []; stas = [] } → d.stas ≡ []
begin_stas d e is = ap (λ (x : Domain). x.stas) is

pub begin_listing : (number : ℕ) (d e : Domain) (w : State) → e ≡ domain_of number → d ≡ record e { aps = []; stas = [] } → w.domain ≡ d → w.rounds ≡ 0 → Owns w [] → IsSince w.domain w [] → IsListing number 0 0 w []
begin_listing number d e w whole is told none own since = bare_listing number w (told ∙ nodeless number d e whole is) none own since

pub ruleset beginning = (begin_form, begin_aps, begin_stas, begin_listing)

-- and beside a journal that is empty
pub listing_beside : (number : ℕ) (w : State) (j : List Entry) → j ≡ [] → IsListing number 0 0 w [] → IsListing number 0 0 w j
listing_beside number w j none l = subst (λ (x : List Entry). IsListing number 0 0 w x) (sym none) l

-- ---- fronts without events

no_events : (number : ℕ) (j : List Entry) → storm number j 0 ≡ []
unfolding events_from
no_events number j = refl

explained_listing : (number aps stas : ℕ) (j : List Entry) → j ≡ started (network number aps stas) (length (aps_to aps)) → Explained (network number aps stas) (rounds_of (storm number j 0)) j
explained_listing number aps stas j starts =
    let d = network number aps stas in
    let first = subst (λ (x : List Entry). Explained d [] x) (sym starts) (explained_start d) in
    subst (λ (es : List Rattle.run_journal.specs.declared.domain.Event.Event). Explained d (rounds_of es) j) (sym (no_events number j)) first

nothing_right : (d : Domain) → AnsweredInTime d []
unfolding AllInTime
nothing_right d = tt

pub nothing_so_far : (number : ℕ) (j : List Entry) → j ≡ [] → IsFrontSoFar number j
nothing_so_far number j none = record {
  aps = 0;
  stas = 0;
  events = 0;
  few_aps = omega arith;
  few_stas = omega arith;
  few_events = omega arith;
  aps_first = λ some. absurd (some refl);
  nodes_first = λ some. absurd (some refl);
  so_far = record {
    form = bare_form number;
    octets = bare_octets number;
    explained = explained_listing number 0 0 j (none ∙ sym (started_none (network number 0 0)) ∙ ap (started (network number 0 0)) (sym (length-aps 0)));
    right = subst (λ (x : List Entry). AnsweredInTime (network number 0 0) x) (sym none) (nothing_right (network number 0 0));
  };
}

starts_there : (number aps stas : ℕ) (w : State) (j : List Entry) → IsListing number aps stas w j → j ≡ started (network number aps stas) (length (aps_to aps))
starts_there number aps stas w j l = l.starts ∙ ap (λ (d : Domain). started d (length d.aps)) l.network_is

listing_so_far : (number aps stas : ℕ) (w : State) (j : List Entry) → IsListing number aps stas w j → IsSoFar number aps stas 0 j
listing_so_far number aps stas w j l = record {
  form = subst InForm l.network_is l.own.form;
  octets = subst InOctets l.network_is l.own.octets;
  explained = explained_listing number aps stas j (starts_there number aps stas w j l);
  right = l.since.right;
}

pub listing_front : (number aps stas : ℕ) (w : State) (j k : List Entry) → aps ≤ 4 → stas ≤ 8 → (stas ≢ 0 → aps ≡ 4) → k ≡ j → IsListing number aps stas w j → IsFrontSoFar number k
listing_front number aps stas w j k few_aps few_stas first same l = record {
  aps = aps;
  stas = stas;
  events = 0;
  few_aps = few_aps;
  few_stas = few_stas;
  few_events = omega arith;
  aps_first = first;
  nodes_first = λ some. absurd (some refl);
  so_far = subst (λ (x : List Entry). IsSoFar number aps stas 0 x) (sym same) (listing_so_far number aps stas w j l);
}

-- ---- and then it is under way

begun_state : (number n : ℕ) (j : List Entry) → n ≡ 0 → begun number ≡ (events_from j n (begun number)).1
unfolding events_from
begun_state number n j none = ap (λ (m : ℕ). (events_from j m (begun number)).1) (sym none)

pub under_way_first : (number : ℕ) (s : Course) (w : State) (j : List Entry) → s ≡ record { number = number; state = begun number; seen = 0; frames = [] } → IsListing number 4 8 w j → IsUnderWay s w j
under_way_first number s w j is l = subst (λ (x : Course). IsUnderWay x w j) (sym is) (record {
  network_is = l.network_is;
  own = l.own;
  since = l.since;
  seen = HasSeen-none 0 [] j refl refl;
  state_is = begun_state number w.rounds j l.none;
  explained = subst (λ (n : ℕ). Explained (network number 4 8) (rounds_of (storm number j n)) j) (sym l.none) (explained_listing number 4 8 j (starts_there number 4 8 w j l));
})

-- ---- places of nodes

pub ap_room : (number n : ℕ) (d : Domain) → d ≡ domain_of number → n < 4 → n < length d.aps
ap_room number n d is low = omega (arith, low, ap (λ (x : Domain). length x.aps) is, ap (λ (aps : List ListedAp). length aps) (domain_aps number), length-aps 4)

pub sta_room : (number n : ℕ) (d : Domain) → d ≡ domain_of number → n < 8 → n < length d.stas
sta_room number n d is low = omega (arith, low, ap (λ (x : Domain). length x.stas) is, ap (λ (stas : List ListedSta). length stas) (domain_stas number), length-stas (psk_in number) 8)

-- the node there
pub ap_here : (number n : ℕ) (d : Domain) (a : ListedAp) → d ≡ domain_of number → n < 4 → ((other : ListedAp) → a ≡ get_or d.aps n other) → a ≡ ap_of (suc n)
ap_here number n d a is low at =
    at a ∙ ap (λ (x : Domain). get_or x.aps n a) is ∙ ap (λ (aps : List ListedAp). get_or aps n a) (domain_aps number) ∙ ap_at a n low

pub sta_here : (number n : ℕ) (d : Domain) (s : ListedSta) → d ≡ domain_of number → n < 8 → ((other : ListedSta) → s ≡ get_or d.stas n other) → s ≡ sta_of (psk_in number) (suc n)
sta_here number n d s is low at =
    at s ∙ ap (λ (x : Domain). get_or x.stas n s) is ∙ ap (λ (stas : List ListedSta). get_or stas n s) (domain_stas number) ∙ sta_at (psk_in number) s n low

-- fronts while nodes are listed
pub front_ap : (number n : ℕ) (w : State) (j k : List Entry) → IsListing number n 0 w j → n < 4 → k ≡ j → IsFrontSoFar number k
front_ap number n w j k l low same = listing_front number n 0 w j k (omega (arith, low)) (omega arith) (λ some. absurd (some refl)) same l

pub front_sta : (number n : ℕ) (w : State) (j : List Entry) → IsListing number 4 n w j → n < 8 → IsFrontSoFar number j
front_sta number n w j l low = listing_front number 4 n w j j (omega arith) (omega (arith, low)) (λ some. refl) refl l

pub ruleset listing = (ap_room, sta_room, front_ap, front_sta)

pub ruleset assembling = (nothing_so_far, listing_beside)

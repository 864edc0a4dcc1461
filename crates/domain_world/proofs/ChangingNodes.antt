-- A changed key, one node after the other.
use Rattle.std.proofs.Common.{◌≡◌, ◌≢◌, inl, inr, ◌∙◌, ℕ, zero, suc, ◌+◌, ◌<◌, ◌≤◌, Bool, true, false, true≢false, cond, List, [], ◌∷◌, ◌++◌, append-nil, length, Option, Some, None, refl, sym, ap, subst, arith}
use Rattle.std.specs.Prelude.{◌*◌, ◌&&◌, ◌==◌, nat_lt, slice_get, slice_set}
use Rattle.std.proofs.lemmas.List.{length-set}
use Rattle.std.proofs.lemmas.Nat.{mul-le}
use Rattle.std.proofs.lemmas.Bool.{cases_Bool, cases_lt, cases_order, eqb-true, lt-ltb, le-ltb, ne_eqb, eq-eqb}
use Rattle.domain_base.specs.declared.names.Node.TheVariants.{Ap, Sta}
use Rattle.run_journal.specs.declared.domain.Domain.{Domain}
use Rattle.run_journal.specs.declared.acts.Act.{Act}
use Rattle.run_journal.specs.declared.acts.Entry.{Entry}
use Rattle.run_journal.specs.Changed.{is_named, changed}
use Rattle.run_journal.specs.Events.{NamesSta}
use Rattle.run_journal.specs.Limits.{most_aps, most_stas}
use Rattle.run_journal.specs.Questions.{add, history}
use Rattle.run_journal.specs.declared.acts.Outcome.{Outcome}
use Rattle.domain_rules.specs.Here.{here}
use Rattle.domain_rules.specs.Network.{InForm}
use Rattle.domain_rules.specs.Rows.{NodeEvent, Secret, Adds}
use Rattle.node_base.specs.Changing.{most_changed}
use Rattle.node_base.specs.Events.{Steps, seen}
use Rattle.domain_rules.specs.Rounds.{Place, at_aps, at_stas, at_named}
use Rattle.domain_rules.specs.Explained.{push, AddsAll}
use Rattle.domain_rules.proofs.Journals.{history-push, history-other}
use Rattle.domain_rules.proofs.ChangedNetwork.{length_rekeyed}
use Rattle.domain_rules.proofs.Parts.{same-other}
use Rattle.key_holders.specs.declared.rows.HeldRow.{HeldRow}
use Rattle.node_base.specs.Changing.{Rekeys}
use Rattle.node_base.proofs.Grown.{changed_rekeys}
use Rattle.std.proofs.lemmas.Option.{slice_get_within}
use Rattle.holder_table.specs.declared.history.HolderEvent.{HolderEvent}
use Rattle.holder_table.specs.Histories.{held_at}
use Rattle.ap_node.specs.State.{State as ApState}
use Rattle.ap_node.specs.Stands.{StandsWith as ApStands}
use Rattle.station_node.specs.State.{State as StationState}
use Rattle.station_node.specs.Stands.{Stands as StationStands}
use Rattle.station_node.proofs.Growing.{rekeyed as sta_rekeyed}
use Rattle.domain_world.specs.State.{Nodes, rows_below}
use Rattle.domain_world.specs.Owning.{AreListed, Stand}
use Rattle.domain_world.proofs.Standing.{below_at}
use Rattle.domain_world.specs.Changing.{KeyChange, AreChanged, ApChanged, StaChanged, ApsStand, StasStand, ApsSo, StasSo, AreStations, sta_places, named_below, count_below, count_named, room_of}
use Rattle.domain_world.specs.Working.{AreNumbered}
use Rattle.domain_world.proofs.ChangedRound.{adds_append, adds_one, few_changed}
use Rattle.domain_world.proofs.Played.{times_suc}
use Rattle.domain_world.proofs.Lists.{get_set, set_elsewhere}

-- ---- access points

pub none_so : (d : Domain) (x : KeyChange) (aps : List ApState) (seen : List HolderEvent) (j : List Entry) → ApsSo d x 0 aps aps seen seen j j
none_so d x aps seen j = record {
  count = refl;
  adds = refl;
  stand = λ i t low at. absurd (omega (arith, low));
  rest = λ i low. refl;
  rows = λ i low listed. refl;
  apart = λ i low. refl;
  stations = λ i. refl;
}

module _ (d : Domain) (x : KeyChange) (n : ℕ) (old mid : List ApState) (before half behind : List HolderEvent) (j i : List Entry) (s t : ApState) (g : List Act) where
  -- it stood for its part of the journal before, which the others left
  pub stood : ApsSo d x n old mid before half j i → ApsStand d old before j → n < length d.aps → slice_get mid n ≡ Some s → ApStands d 0 s (held_at n half) (history (Ap n) i)
  stood so stand low at =
      subst (λ (h : List Act). ApStands d 0 s (held_at n half) h) (sym (so.apart n (omega arith)))
      (subst (λ xs. ApStands d 0 s xs (history (Ap n) j)) (sym (so.rows n (omega arith) low)) (stand n s (sym (so.rest n (omega arith)) ∙ at)))

  -- it adds few acts
  pub few_ap : ApsSo d x n old mid before half j i → ApsStand d old before j → n < length d.aps → slice_get mid n ≡ Some s → s.number ≡ n → ApChanged d x s.number s t half behind g → length g ≤ most_changed (length d.stas)
  few_ap so stand low at number changes =
      let one = subst (λ a. ApChanged d x a s t half behind g) number changes (history (Ap n) i) (stood so stand low at) in
      few_changed d 0 (Ap n) (history (Ap n) i) x.named x.psk g one.adds

  other_ap : (k : ℕ) → k ≢ n → history (Ap k) (push x.round (Ap n) g i) ≡ history (Ap k) i
  other_ap k other = history-other x.round (Ap n) (Ap k) g i (same-other (Ap k) (Ap n) (λ (e : Ap k ≡ Ap n). other (cc e)))

  pub next_so : ApsSo d x n old mid before half j i → ApsStand d old before j → n < length d.aps → n < length mid → slice_get mid n ≡ Some s → s.number ≡ n → ApChanged d x s.number s t half behind g
      → ((r : ℕ) → r ≢ n → r < length d.aps → held_at r behind ≡ held_at r half) → ApsSo d x (suc n) old (slice_set mid n t) before behind j (push x.round (Ap n) g i)
  next_so so stand low within at number changes others =
      let h = history (Ap n) i in
      let one = subst (λ a. ApChanged d x a s t half behind g) number changes h (stood so stand low at) in
      record {
        count = length-set mid n t ∙ so.count;
        adds = adds_one d x.round (at_aps (Secret x.named x.psk) n) (record { node = Ap n; event = Secret x.named x.psk }) g j i (push x.round (Ap n) g i) so.adds one.adds refl;
        stand = λ k u low_k at_k. elim (get_set mid n k t u at_k) [
          | inl here_ ↦
              subst (λ m. ApStands (changed d x.named x.psk) 0 u (held_at m behind) (history (Ap m) (push x.round (Ap n) g i))) (sym here_.0)
              (subst (λ v. ApStands (changed d x.named x.psk) 0 v (held_at n behind) (history (Ap n) (push x.round (Ap n) g i))) (sym here_.1)
              (subst (ApStands (changed d x.named x.psk) 0 t (held_at n behind)) (sym (history-push x.round (Ap n) g i)) one.stands))
          | inr other ↦ (let less : k < n = below_other k low_k other.0 in
              subst (λ l. ApStands (changed d x.named x.psk) 0 u (held_at k behind) l) (sym (other_ap k other.0))
              (subst (λ xs. ApStands (changed d x.named x.psk) 0 u xs (history (Ap k) i)) (sym (others k other.0 (omega (arith, less, low)))) (so.stand k u less other.1)))
        ];
        rest = λ k low_k. set_elsewhere mid n k t (λ (is : k ≡ n). absurd (omega (arith, is, low_k))) ∙ so.rest k (omega (arith, low_k));
        rows = λ k low_k listed. others k (λ (is : k ≡ n). absurd (omega (arith, is, low_k))) listed ∙ so.rows k (omega (arith, low_k)) listed;
        apart = λ k low_k. other_ap k (λ (is : k ≡ n). absurd (omega (arith, is, low_k))) ∙ so.apart k (omega (arith, low_k));
        stations = λ k. history-other x.round (Ap n) (Sta k) g i refl ∙ so.stations k;
      }
    where
      below_other : (k : ℕ) → k < suc n → (k ≡ n → ⊥) → k < n
      below_other k low_k other = elim (cases_lt k n) [ inl less ↦ less | inr most ↦ absurd (other (omega (arith, low_k, most))) ]

-- ---- stations

pub no_station_so : (d : Domain) (x : KeyChange) (stas : List StationState) (j : List Entry) → StasSo d x 0 stas stas j j
no_station_so d x stas j = record {
  count = refl;
  adds = refl;
  stand = λ i t named_ at. absurd (true≢false (sym named_ ∙ none_below (is_named x.named i) i));
  rest = λ i other. refl;
  apart = λ i other. refl;
  aps = λ i. refl;
}
  where
    none_below : (b : Bool) (i : ℕ) → (b && nat_lt i 0) ≡ false
    none_below true i = le-ltb i 0 (omega arith)
    none_below false i = refl

more_below : (named : Option ℕ) (n k : ℕ) → (k ≡ n → ⊥) → named_below named (suc n) k ≡ named_below named n k
more_below named n k other = ap (λ (b : Bool). is_named named k && b) (elim (cases_lt k n) [
  | inl less ↦ lt-ltb k (suc n) (omega (arith, less)) ∙ sym (lt-ltb k n less)
  | inr most ↦ (let past : suc n ≤ k = past_other k most other in le-ltb k (suc n) past ∙ sym (le-ltb k n most))
])
  where
    past_other : (k : ℕ) → n ≤ k → (k ≡ n → ⊥) → suc n ≤ k
    past_other k most other = elim (cases_lt n k) [ inl less ↦ omega (arith, less) | inr low ↦ absurd (other (omega (arith, most, low))) ]

module _ (d : Domain) (x : KeyChange) (n : ℕ) (old mid : List StationState) (j i : List Entry) where
  -- where it is not named nothing is done
  pub station_left : StasSo d x n old mid j i → is_named x.named n ≡ false → StasSo d x (suc n) old mid j i
  station_left so other =
      let same_below : (k : ℕ) → named_below x.named (suc n) k ≡ named_below x.named n k = λ k. elim (cases_order k n) [
        | inl is ↦ (let none : is_named x.named k ≡ false = ap (is_named x.named) is ∙ other in ap (λ (b : Bool). b && nat_lt k (suc n)) none ∙ sym (ap (λ (b : Bool). b && nat_lt k n) none))
        | inr apart ↦ more_below x.named n k (λ (is : k ≡ n). elim apart [ inl less ↦ absurd (omega (arith, is, less)) | inr high ↦ absurd (omega (arith, is, high)) ])
      ] in
      record {
        count = so.count;
        adds = subst (λ (l : List Place). AddsAll d x.round l j i) (sym (ap (λ (b : Bool). sta_places x.named (Secret x.named x.psk) n ++ cond b (record { node = Sta n; event = Secret x.named x.psk } ∷ []) []) other ∙ append-nil (sta_places x.named (Secret x.named x.psk) n))) so.adds;
        stand = λ k t named_ at. so.stand k t (sym (same_below k) ∙ named_) at;
        rest = λ k none. so.rest k (sym (same_below k) ∙ none);
        apart = λ k none. so.apart k (sym (same_below k) ∙ none);
        aps = so.aps;
      }

  module _ (s t : StationState) (g : List Act) where
    not_yet : named_below x.named n n ≡ false
    not_yet = none (is_named x.named n)
      where
        none : (b : Bool) → (b && nat_lt n n) ≡ false
        none true = le-ltb n n (omega arith)
        none false = refl

    pub stood_station : StasSo d x n old mid j i → StasStand d old j → slice_get mid n ≡ Some s → StationStands d 0 s (history (Sta n) i)
    stood_station so stand at = subst (StationStands d 0 s) (sym (so.apart n not_yet)) (stand n s (sym (so.rest n not_yet) ∙ at))

    -- it adds few acts
    pub few_station : StasSo d x n old mid j i → StasStand d old j → slice_get mid n ≡ Some s → s.number ≡ n → StaChanged d x s.number s t g → length g ≤ most_changed (length d.stas)
    few_station so stand at number changes =
        let one = subst (λ a. StaChanged d x a s t g) number changes (history (Sta n) i) (stood_station so stand at) in
        few_changed d 0 (Sta n) (history (Sta n) i) x.named x.psk g one.adds

    other_sta : (k : ℕ) → (k ≡ n → ⊥) → history (Sta k) (push x.round (Sta n) g i) ≡ history (Sta k) i
    other_sta k other = history-other x.round (Sta n) (Sta k) g i (same-other (Sta k) (Sta n) (λ (e : Sta k ≡ Sta n). other (cc e)))

    pub next_station : StasSo d x n old mid j i → StasStand d old j → is_named x.named n ≡ true → n < length mid → slice_get mid n ≡ Some s → s.number ≡ n → StaChanged d x s.number s t g
        → StasSo d x (suc n) old (slice_set mid n t) j (push x.round (Sta n) g i)
    next_station so stand named_ within at number changes =
        let one = subst (λ a. StaChanged d x a s t g) number changes (history (Sta n) i) (stood_station so stand at) in
        let there : named_below x.named (suc n) n ≡ true = ap (λ (b : Bool). b && nat_lt n (suc n)) named_ ∙ lt-ltb n (suc n) (omega arith) in
        let apart_from : (k : ℕ) → named_below x.named (suc n) k ≡ false → k ≡ n → ⊥ = λ k none is. true≢false (sym there ∙ ap (named_below x.named (suc n)) (sym is) ∙ none) in
        record {
          count = length-set mid n t ∙ so.count;
          adds = subst (λ (l : List Place). AddsAll d x.round l j (push x.round (Sta n) g i)) (sym (ap (λ (b : Bool). sta_places x.named (Secret x.named x.psk) n ++ cond b (record { node = Sta n; event = Secret x.named x.psk } ∷ []) []) named_))
              (adds_one d x.round (sta_places x.named (Secret x.named x.psk) n) (record { node = Sta n; event = Secret x.named x.psk }) g j i (push x.round (Sta n) g i) so.adds one.adds refl);
          stand = λ k u named_k at_k. elim (get_set mid n k t u at_k) [
            | inl here_ ↦
                subst (λ m. StationStands (changed d x.named x.psk) 0 u (history (Sta m) (push x.round (Sta n) g i))) (sym here_.0)
                (subst (λ v. StationStands (changed d x.named x.psk) 0 v (history (Sta n) (push x.round (Sta n) g i))) (sym here_.1)
                (subst (StationStands (changed d x.named x.psk) 0 t) (sym (history-push x.round (Sta n) g i)) one.stands))
            | inr other ↦ subst (StationStands (changed d x.named x.psk) 0 u) (sym (other_sta k other.0)) (so.stand k u (sym (more_below x.named n k other.0) ∙ named_k) other.1)
          ];
          rest = λ k none. set_elsewhere mid n k t (apart_from k none) ∙ so.rest k (sym (more_below x.named n k (apart_from k none)) ∙ none);
          apart = λ k none. other_sta k (apart_from k none) ∙ so.apart k (sym (more_below x.named n k (apart_from k none)) ∙ none);
          aps = λ k. history-other x.round (Sta n) (Ap k) g i refl ∙ so.aps k;
        }

-- the stations named are those below their count, whatever it is
pub all_below : (named : Option ℕ) (count i : ℕ) → i < count → named_below named count i ≡ is_named named i
all_below named count i low = by (is_named named i)
  where
    by : (b : Bool) → (b && nat_lt i count) ≡ b
    by true = lt-ltb i count low
    by false = refl

-- their places are those of the round
below_stas : (event : NodeEvent) (k : ℕ) → sta_places None event k ≡ at_stas event k
below_stas event zero = refl
below_stas event (suc k) = ap (λ (l : List Place). l ++ record { node = Sta k; event = event } ∷ []) (below_stas event k)

none_named : (event : NodeEvent) (s k : ℕ) → k ≤ s → sta_places (Some s) event k ≡ []
none_named event s zero low = refl
none_named event s (suc k) low =
    ap (λ (b : Bool). sta_places (Some s) event k ++ cond b (record { node = Sta k; event = event } ∷ []) []) (ne_eqb s k (λ (is : s ≡ k). absurd (omega (arith, is, low)))) ∙ append-nil (sta_places (Some s) event k) ∙ none_named event s k (omega (arith, low))

one_named : (event : NodeEvent) (s k : ℕ) → s < k → sta_places (Some s) event k ≡ record { node = Sta s; event = event } ∷ []
one_named event s zero low = absurd (omega (arith, low))
one_named event s (suc k) low = elim (cases_lt s k) [
  | inl less ↦ ap (λ (b : Bool). sta_places (Some s) event k ++ cond b (record { node = Sta k; event = event } ∷ []) []) (ne_eqb s k (λ (is : s ≡ k). absurd (omega (arith, is, less)))) ∙ append-nil (sta_places (Some s) event k) ∙ one_named event s k less
  | inr most ↦ (let is : k ≡ s = omega (arith, low, most) in
      ap (λ (l : List Place). l ++ cond (s == k) (record { node = Sta k; event = event } ∷ []) []) (none_named event s k most)
      ∙ ap (λ (m : ℕ). cond (s == m) (record { node = Sta m; event = event } ∷ []) []) is ∙ ap (λ (b : Bool). cond b (record { node = Sta s; event = event } ∷ []) []) (eq-eqb s s refl))
]

pub named_places : (d : Domain) (named : Option ℕ) (event : NodeEvent) → NamesSta d named → sta_places named event (length d.stas) ≡ at_named d event named
named_places d None event low = below_stas event (length d.stas)
named_places d (Some s) event low = one_named event s (length d.stas) low

-- ---- one node, as the code steps it

pub ap_by_step : (d : Domain) (x : KeyChange) (s t : ApState) (old new : List HolderEvent) (waited waits : List Act) (outcome : Outcome) → waited ≡ []
    → ((first : ℕ) (h : List Act) → ApStands d first s (held_at s.number old) h
    → Steps (here d first (Ap s.number)) (Secret x.named x.psk) (ApStands (changed d x.named x.psk) first t (held_at s.number new)) h (seen waited waits outcome)) → ApChanged d x s.number s t old new waits
ap_by_step d x s t old new waited waits outcome empty steps h stands =
    let done = steps 0 h stands in
    let acts : done.acts ≡ waits = sym (done.waiting ∙ ap (λ (g : List Act). g ++ done.acts) empty) in
    record {
      adds = subst (Adds (here d 0 (Ap s.number)) h (Secret x.named x.psk)) acts done.adds;
      stands = subst (λ (g : List Act). ApStands (changed d x.named x.psk) 0 t (held_at s.number new) (add g h)) acts done.stands;
    }

pub station_by_step : (d : Domain) (x : KeyChange) (s t : StationState) (waited waits : List Act) (outcome : Outcome) → waited ≡ []
    → ((first : ℕ) (h : List Act) → StationStands d first s h
    → Steps (here d first (Sta s.number)) (Secret x.named x.psk) (StationStands (changed d x.named x.psk) first t) h (seen waited waits outcome)) → StaChanged d x s.number s t waits
station_by_step d x s t waited waits outcome empty steps h stands =
    let done = steps 0 h stands in
    let acts : done.acts ≡ waits = sym (done.waiting ∙ ap (λ (g : List Act). g ++ done.acts) empty) in
    record {
      adds = subst (Adds (here d 0 (Sta s.number)) h (Secret x.named x.psk)) acts done.adds;
      stands = subst (λ (g : List Act). StationStands (changed d x.named x.psk) 0 t (add g h)) acts done.stands;
    }

-- ---- room

pub room_next : (d : Domain) (n m : ℕ) → m ≡ suc n → room_of d m ≡ room_of d n + most_changed (length d.stas)
unfolding room_of
room_next d n m is = ap (λ (k : ℕ). most_changed (length d.stas) * k) is ∙ times_suc (most_changed (length d.stas)) n

pub room_low : (d : Domain) (n m : ℕ) → n ≤ m → room_of d n ≤ room_of d m
room_low d n zero low = let none : n ≡ zero = omega (arith, low) in subst (λ (k : ℕ). room_of d k ≤ room_of d zero) (sym none) (omega arith)
room_low d n (suc m) low = elim (cases_lt n (suc m)) [
  | inl less ↦ omega (arith, room_low d n m (omega (arith, less)), room_next d m (suc m) refl)
  | inr most ↦ (let is : n ≡ suc m = omega (arith, low, most) in subst (λ (k : ℕ). room_of d k ≤ room_of d (suc m)) (sym is) (omega arith))
]

times_zero : (m : ℕ) → m * 0 ≡ 0
times_zero m = omega arith

room_none : (d : Domain) → room_of d 0 ≡ 0
unfolding room_of
room_none d = times_zero (most_changed (length d.stas))

-- for so many nodes and so many more
pub room_more : (d : Domain) (n m : ℕ) → room_of d (n + m) ≡ room_of d n + room_of d m
room_more d n zero = let is : n + 0 ≡ n = omega arith in omega (arith, ap (room_of d) is, room_none d)
room_more d n (suc m) =
    let is : n + suc m ≡ suc (n + m) = omega arith in
    omega (arith, room_next d (n + m) (n + suc m) is, room_more d n m, room_next d m (suc m) refl)

-- it is as much as the code reckons
pub room_is : (d : Domain) (most n m : ℕ) → most ≡ most_changed (length d.stas) → n ≡ m → most * n ≡ room_of d m
unfolding room_of
room_is d most n m is count = ap (λ (k : ℕ). k * n) is ∙ ap (λ (k : ℕ). most_changed (length d.stas) * k) count

-- which a machine word has
pub room_fits : (d : Domain) (most n : ℕ) → InForm d → most ≡ most_changed (length d.stas) → n ≤ most_aps + most_stas → most * n ≤ 4462976
room_fits d most n form is few =
    let high : most ≤ 4102 = omega (arith, is, form.few_stas) in
    let product = mul-le most n 4102 1088 high (omega (arith, few)) in
    omega (arith, product)

count_all : (n : ℕ) → count_below None n ≡ n
count_all zero = refl
count_all (suc n) = omega (arith, count_all n)

count_before : (s n : ℕ) → n ≤ s → count_below (Some s) n ≡ 0
count_before s zero low = refl
count_before s (suc n) low =
    ap (λ (b : Bool). count_below (Some s) n + cond b 1 0) (ne_eqb s n (λ (is : s ≡ n). absurd (omega (arith, is, low)))) ∙ ap (λ (k : ℕ). k + 0) (count_before s n (omega (arith, low)))

-- there is room for one more that is named
pub count_low : (named : Option ℕ) (n m : ℕ) → n < m → is_named named n ≡ true → count_below named n + 1 ≤ count_named named m
count_low None n m low is = omega (arith, count_all n, low)
count_low (Some s) n m low is = let same_ : s ≡ n = eqb-true s n is in omega (arith, count_before s n (omega (arith, same_)))

pub count_next : (named : Option ℕ) (n m : ℕ) (b : Bool) → m ≡ suc n → is_named named n ≡ b → count_below named m ≡ count_below named n + cond b 1 0
count_next named n m b is here_ = ap (count_below named) is ∙ ap (λ (c : Bool). count_below named n + cond c 1 0) here_

-- ---- their numbers

pub numbered_set : (aps : List ApState) (n : ℕ) (t : ApState) → AreNumbered aps → t.number ≡ n → AreNumbered (slice_set aps n t)
numbered_set aps n t all is k u at = elim (get_set aps n k t u at) [ inl here_ ↦ ap (λ (v : ApState). v.number) here_.1 ∙ is ∙ sym here_.0 | inr other ↦ all k u other.1 ]

pub stations_set : (stas : List StationState) (n : ℕ) (t : StationState) → AreStations stas → t.number ≡ n → AreStations (slice_set stas n t)
stations_set stas n t all is k u at = elim (get_set stas n k t u at) [ inl here_ ↦ ap (λ (v : StationState). v.number) here_.1 ∙ is ∙ sym here_.0 | inr other ↦ all k u other.1 ]

-- ---- all nodes

-- another station's key leaves it
other_rekeys : (d : Domain) (named : Option ℕ) (psk : List ℕ) (n : ℕ) → is_named named n ≡ false → Rekeys d (changed d named psk) (λ k. k ≡ n)
other_rekeys d named psk n other =
    let r = changed_rekeys d named psk in
    record { seed = r.seed; ssid = r.ssid; akm = r.akm; mdid = r.mdid; extras = r.extras; aps = r.aps; count = r.count; macs = r.macs; keys = λ k is. r.keys k (ap (is_named named) is ∙ other) }

pub are_changed : (n : Nodes) (x : KeyChange) (aps : List ApState) (stas : List StationState) (old new : List HolderEvent) (j i k : List Entry) → AreListed n → NamesSta n.domain x.named → Stand n j
    → ApsSo n.domain x (length n.aps) n.aps aps old new j i → StasSo n.domain x (length n.stas) n.stas stas i k
    → AreChanged x n (record { domain = changed n.domain x.named x.psk; aps = aps; stas = stas; rows = rows_below (length aps) new }) j k
are_changed n x aps stas old new j i k listed names stand so then_so =
    let d = n.domain in
    let e = changed d x.named x.psk in
    let event : NodeEvent = Secret x.named x.psk in
    let at_all : at_aps event (length n.aps) ≡ at_aps event (length d.aps) = ap (at_aps event) listed.count_aps in
    let at_these : sta_places x.named event (length n.stas) ≡ at_named d event x.named = ap (sta_places x.named event) listed.count_stas ∙ named_places d x.named event names in
    record {
      adds = subst (λ (l : List Place). AddsAll d x.round (at_aps event (length d.aps) ++ l) j k) at_these
          (subst (λ (l : List Place). AddsAll d x.round (l ++ sta_places x.named event (length n.stas)) j k) at_all (adds_append d x.round (at_aps event (length n.aps)) (sta_places x.named event (length n.stas)) j i k so.adds then_so.adds));
      stand = record {
        aps = λ m t at.
            (let low : m < length aps = slice_get_within aps m t at in
            subst (λ xs. ApStands e 0 t xs (history (Ap m) k)) (sym (below_at (length aps) m new low))
            (subst (ApStands e 0 t (held_at m new)) (sym (then_so.aps m)) (so.stand m t (omega (arith, low, so.count)) at)));
        stas = λ m t at.
            (let low : m < length n.stas = omega (arith, slice_get_within stas m t at, then_so.count) in
            let these = all_below x.named (length n.stas) m low in
            elim (cases_Bool (is_named x.named m)) [
              | inl named_ ↦ then_so.stand m t (these ∙ named_) at
              | inr other ↦
                  (let before = sym (then_so.rest m (these ∙ other)) ∙ at in
                  let number = listed.stas m t before in
                  let was = stand.stas m t before in
                  let same = then_so.apart m (these ∙ other) ∙ so.stations m in
                  subst (StationStands e 0 t) (sym same)
                  (sta_rekeyed d e 0 t (history (Sta m) j) (other_rekeys d x.named x.psk t.number (ap (is_named x.named) number ∙ other)) (omega (arith, number, low, listed.count_stas)) was))
            ]);
      };
      domain = refl;
    }

-- they are listed still
pub still_listed : (n : Nodes) (x : KeyChange) (aps : List ApState) (stas : List StationState) (rows : List (List HeldRow)) → AreListed n → length aps ≡ length n.aps → length stas ≡ length n.stas → AreNumbered aps → AreStations stas
    → AreListed (record { domain = changed n.domain x.named x.psk; aps = aps; stas = stas; rows = rows })
still_listed n x aps stas rows listed count_aps count_stas numbered stations_ = record {
  count_aps = count_aps ∙ listed.count_aps;
  count_stas = count_stas ∙ listed.count_stas ∙ sym (length_rekeyed x.named x.psk 0 n.domain.stas);
  aps = numbered;
  stas = stations_;
}

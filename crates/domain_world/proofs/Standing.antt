-- Nodes that stand for their parts of a journal.
use Rattle.std.proofs.Common.{◌≡◌, ℕ, zero, suc, ◌<◌, ◌≤◌, inl, inr, false, cond, List, [], ◌∷◌, ◌++◌, length, Some, refl, sym, ap, subst, ◌∙◌, arith, length-append}
use Rattle.std.specs.Prelude.{slice_get, slice_set, slice_index_or}
use Rattle.std.specs.List.{AllByRecursion}
use Rattle.std.proofs.lemmas.Bool.{cases_lt}
use Rattle.std.proofs.lemmas.List.{length-set, append-nil}
use Rattle.std.proofs.lemmas.Option.{slice_get_within, slice_get_read}
use Rattle.key_holders.specs.declared.rows.HeldRow.{HeldRow}
use Rattle.key_holders.specs.Listed.{rows_at}
use Rattle.holder_table.specs.declared.history.HolderEvent.{HolderEvent}
use Rattle.holder_table.specs.Histories.{held_at}
use Rattle.domain_rules.specs.Network.{IsNamed}
use Rattle.run_journal.specs.Events.{IsListed}
use Rattle.domain_base.specs.declared.names.Node.{Node}
use Rattle.domain_base.specs.declared.names.Node.TheVariants.{Ap, Sta}
use Rattle.run_journal.specs.declared.domain.Domain.{Domain}
use Rattle.run_journal.specs.declared.acts.Act.{Act}
use Rattle.run_journal.specs.declared.acts.Entry.{Entry}
use Rattle.run_journal.specs.Acts.{same}
use Rattle.run_journal.specs.Questions.{history, add}
use Rattle.domain_rules.specs.Explained.{push, number_of}
use Rattle.domain_rules.proofs.Parts.{same-other}
use Rattle.domain_rules.proofs.Journals.{history-push, history-other}
use Rattle.station_node.specs.State.{State as StationState}
use Rattle.station_node.specs.Stands.{Stands as StationStands}
use Rattle.ap_node.specs.State.{State as ApState}
use Rattle.ap_node.specs.Stands.{StandsWith as ApStands}
use Rattle.node_base.specs.Growing.{Grows}
use Rattle.station_node.proofs.Growing.{grown as station_grown}
use Rattle.ap_node.proofs.Growing.{grown_with as ap_grown}
use Rattle.domain_base.specs.declared.names.Mac.{Mac}
use Rattle.run_journal.specs.Listing.{with_ap, with_sta}
use Rattle.domain_world.specs.State.{Nodes, rows_below}
use Rattle.domain_world.specs.Owning.{AreListed, Stand, IsPast, HoldNone}
use Rattle.domain_world.proofs.Lists.{get_set, get_push}

abbrev pub with_ap_node : Nodes → ℕ → ApState → List (List HeldRow) → Nodes
with_ap_node n k s rows = record { domain = n.domain; aps = slice_set n.aps k s; stas = n.stas; rows = rows }

abbrev pub with_station_node : Nodes → ℕ → StationState → Nodes
with_station_node n k s = record { domain = n.domain; aps = n.aps; stas = slice_set n.stas k s; rows = n.rows }

-- ---- a node takes an event

pub other_ap : (a b : ℕ) → (a ≡ b → ⊥) → same (Ap a) (Ap b) ≡ false
other_ap a b other = same-other (Ap a) (Ap b) (λ (e : Ap a ≡ Ap b). other (cc e))

other_sta : (a b : ℕ) → (a ≡ b → ⊥) → same (Sta a) (Sta b) ≡ false
other_sta a b other = same-other (Sta a) (Sta b) (λ (e : Sta a ≡ Sta b). other (cc e))

-- the node that stands at a place
pub at_ap : (n : Nodes) (k : ℕ) (s : ApState) → AreListed n → k < length n.domain.aps → s ≡ slice_index_or n.aps k s → slice_get n.aps k ≡ Some s
at_ap n k s is low here = slice_get_read n.aps (length n.aps) k s refl (omega (arith, is.count_aps)) here

pub at_sta : (n : Nodes) (k : ℕ) (s : StationState) → AreListed n → k < length n.domain.stas → s ≡ slice_index_or n.stas k s → slice_get n.stas k ≡ Some s
at_sta n k s is low here = slice_get_read n.stas (length n.stas) k s refl (omega (arith, is.count_stas)) here

pub listed_ap : (n : Nodes) (k : ℕ) (s : ApState) (rows : List (List HeldRow)) → AreListed n → s.number ≡ k → AreListed (with_ap_node n k s rows)
listed_ap n k s rows is number = record {
  count_aps = length-set n.aps k s ∙ is.count_aps;
  count_stas = is.count_stas;
  aps = λ i t at. elim (get_set n.aps k i s t at) [ inl here ↦ ap (λ (x : ApState). x.number) here.1 ∙ number ∙ sym here.0 | inr other ↦ is.aps i t other.1 ];
  stas = is.stas;
}

pub listed_sta : (n : Nodes) (k : ℕ) (s : StationState) → AreListed n → s.number ≡ k → AreListed (with_station_node n k s)
listed_sta n k s is number = record {
  count_aps = is.count_aps;
  count_stas = length-set n.stas k s ∙ is.count_stas;
  aps = is.aps;
  stas = λ i t at. elim (get_set n.stas k i s t at) [ inl here ↦ ap (λ (x : StationState). x.number) here.1 ∙ number ∙ sym here.0 | inr other ↦ is.stas i t other.1 ];
}

-- the access point's history is longer by its acts, and every other is the same
ap_here : (d : Domain) (j : List Entry) (k i : ℕ) (s t : ApState) (xs ys : List HeldRow) (acts : List Act) (round : ℕ) → i ≡ k → t ≡ s → ys ≡ xs → ApStands d 0 s xs (add acts (history (Ap k) j))
    → ApStands d 0 t ys (history (Ap i) (push round (Ap k) acts j))
ap_here d j k i s t xs ys acts round at is rows stands =
    subst (λ (x : ApState). ApStands d 0 x ys (history (Ap i) (push round (Ap k) acts j))) (sym is)
    (subst (λ (zs : List HeldRow). ApStands d 0 s zs (history (Ap i) (push round (Ap k) acts j))) (sym rows)
    (subst (λ (x : ℕ). ApStands d 0 s xs (history (Ap x) (push round (Ap k) acts j))) (sym at)
    (subst (ApStands d 0 s xs) (sym (history-push round (Ap k) acts j)) stands)))

ap_there : (d : Domain) (j : List Entry) (n : Node) (i : ℕ) (t : ApState) (xs ys : List HeldRow) (acts : List Act) (round : ℕ) → same (Ap i) n ≡ false → ys ≡ xs → ApStands d 0 t xs (history (Ap i) j)
    → ApStands d 0 t ys (history (Ap i) (push round n acts j))
ap_there d j n i t xs ys acts round other rows stands =
    subst (λ (zs : List HeldRow). ApStands d 0 t zs (history (Ap i) (push round n acts j))) (sym rows)
    (subst (ApStands d 0 t xs) (sym (history-other round n (Ap i) acts j other)) stands)

sta_here : (d : Domain) (j : List Entry) (k i : ℕ) (s t : StationState) (acts : List Act) (round : ℕ) → i ≡ k → t ≡ s → StationStands d 0 s (add acts (history (Sta k) j))
    → StationStands d 0 t (history (Sta i) (push round (Sta k) acts j))
sta_here d j k i s t acts round at is stands =
    subst (λ (x : StationState). StationStands d 0 x (history (Sta i) (push round (Sta k) acts j))) (sym is)
    (subst (λ (x : ℕ). StationStands d 0 s (history (Sta x) (push round (Sta k) acts j))) (sym at)
    (subst (StationStands d 0 s) (sym (history-push round (Sta k) acts j)) stands))

sta_there : (d : Domain) (j : List Entry) (n : Node) (i : ℕ) (t : StationState) (acts : List Act) (round : ℕ) → same (Sta i) n ≡ false → StationStands d 0 t (history (Sta i) j)
    → StationStands d 0 t (history (Sta i) (push round n acts j))
sta_there d j n i t acts round other stands = subst (StationStands d 0 t) (sym (history-other round n (Sta i) acts j other)) stands

pub stand_ap : (n : Nodes) (k : ℕ) (s : ApState) (rows : List (List HeldRow)) (acts : List Act) (j : List Entry) → Stand n j → ApStands n.domain 0 s (rows_at rows k) (add acts (history (Ap k) j))
    → ((r : ℕ) → r < length n.domain.aps → (r ≡ k → ⊥) → rows_at rows r ≡ rows_at n.rows r) → AreListed n → (round : ℕ) → Stand (with_ap_node n k s rows) (push round (Ap k) acts j)
stand_ap n k s rows acts j is stands others listed round = record {
  aps = λ i t at. elim (get_set n.aps k i s t at) [
    | inl here ↦ ap_here n.domain j k i s t (rows_at rows k) (rows_at rows i) acts round here.0 here.1 (ap (rows_at rows) here.0) stands
    | inr other ↦ ap_there n.domain j (Ap k) i t (rows_at n.rows i) (rows_at rows i) acts round (other_ap i k other.0) (others i (omega (arith, slice_get_within n.aps i t other.1, listed.count_aps)) other.0) (is.aps i t other.1)
  ];
  stas = λ i t at. sta_there n.domain j (Ap k) i t acts round refl (is.stas i t at);
}

pub stand_sta : (n : Nodes) (k : ℕ) (s : StationState) (acts : List Act) (j : List Entry) → Stand n j → StationStands n.domain 0 s (add acts (history (Sta k) j))
    → (round : ℕ) → Stand (with_station_node n k s) (push round (Sta k) acts j)
stand_sta n k s acts j is stands round = record {
  aps = λ i t at. ap_there n.domain j (Sta k) i t (rows_at n.rows i) (rows_at n.rows i) acts round refl refl (is.aps i t at);
  stas = λ i t at. elim (get_set n.stas k i s t at) [
    | inl here ↦ sta_here n.domain j k i s t acts round here.0 here.1 stands
    | inr other ↦ sta_there n.domain j (Sta k) i t acts round (other_sta i k other.0) (is.stas i t other.1)
  ];
}

-- ---- a node is listed

lasts : (old : List ApState) (k i : ℕ) (t : ApState) → length old ≡ k → slice_get old i ≡ Some t → i ≡ k → ⊥
lasts old k i t count at here = omega (arith, slice_get_within old i t at)

lasts_sta : (old : List StationState) (k i : ℕ) (t : StationState) → length old ≡ k → slice_get old i ≡ Some t → i ≡ k → ⊥
lasts_sta old k i t count at here = omega (arith, slice_get_within old i t at)

-- no rows anywhere
pub none_at : (rows : List (List HeldRow)) (i : ℕ) → HoldNone rows → rows_at rows i ≡ []
none_at [] i none = refl
none_at (xs ∷ rows) zero none = none.0
none_at (xs ∷ rows) (suc i) none = none_at rows i none.1

-- the nodes that were there stand in the larger network as they did
ap_stays : (old new : Nodes) (j : List Entry) → Grows old.domain new.domain → IsNamed new.domain → AreListed old → Stand old j → (i : ℕ) (t : ApState) → slice_get old.aps i ≡ Some t
    → ApStands new.domain 0 t (rows_at old.rows i) (history (Ap i) j)
ap_stays old new j more names listed is i t at =
    let low : t.number < length old.domain.aps = omega (arith, slice_get_within old.aps i t at, listed.count_aps, listed.aps i t at) in
    ap_grown old.domain new.domain 0 t (rows_at old.rows i) (history (Ap i) j) more names low (is.aps i t at)

sta_stays : (old new : Nodes) (j : List Entry) → Grows old.domain new.domain → AreListed old → Stand old j → (i : ℕ) (t : StationState) → slice_get old.stas i ≡ Some t → StationStands new.domain 0 t (history (Sta i) j)
sta_stays old new j more listed is i t at =
    let low : t.number < length old.domain.stas = omega (arith, slice_get_within old.stas i t at, listed.count_stas, listed.stas i t at) in
    station_grown old.domain new.domain 0 t (history (Sta i) j) more low (is.stas i t at)

pub grows_ap : (d e : Domain) (address : Mac) (r0kh_id : List ℕ) → e ≡ with_ap d address r0kh_id → Grows d e
grows_ap d e address r0kh_id is = record {
  seed = ap (λ (x : Domain). x.seed) is;
  ssid = ap (λ (x : Domain). x.ssid) is;
  akm = ap (λ (x : Domain). x.akm) is;
  mdid = ap (λ (x : Domain). x.mdid) is;
  extras = ap (λ (x : Domain). x.extras) is;
  more_aps = record { address = address; r0kh_id = r0kh_id } ∷ [];
  aps = ap (λ (x : Domain). x.aps) is;
  more_stas = [];
  stas = ap (λ (x : Domain). x.stas) is ∙ sym (append-nil d.stas);
}

pub grows_sta : (d e : Domain) (address : Mac) (psk : List ℕ) → e ≡ with_sta d address psk → Grows d e
grows_sta d e address psk is = record {
  seed = ap (λ (x : Domain). x.seed) is;
  ssid = ap (λ (x : Domain). x.ssid) is;
  akm = ap (λ (x : Domain). x.akm) is;
  mdid = ap (λ (x : Domain). x.mdid) is;
  extras = ap (λ (x : Domain). x.extras) is;
  more_aps = [];
  aps = ap (λ (x : Domain). x.aps) is ∙ sym (append-nil d.aps);
  more_stas = record { address = address; psk = psk } ∷ [];
  stas = ap (λ (x : Domain). x.stas) is;
}

-- an access point, which starts: as yet no key holder has rows
stand_started : (old new : Nodes) (k : ℕ) (s : ApState) (acts : List Act) (j : List Entry) → Grows old.domain new.domain → IsNamed new.domain → AreListed old → new.aps ≡ old.aps ++ s ∷ [] → new.stas ≡ old.stas → length old.aps ≡ k
    → HoldNone old.rows → HoldNone new.rows → ApStands new.domain 0 s [] (add acts []) → Stand old j → history (Ap k) j ≡ [] → Stand new (push 0 (Ap k) acts j)
stand_started old new k s acts j more names listed aps stas count before empty stands is none = record {
  aps = λ i t at. elim (get_push old.aps i s t (subst (λ (l : List ApState). slice_get l i ≡ Some t) aps at)) [
    | inl here ↦ ap_here new.domain j k i s t [] (rows_at new.rows i) acts 0 (here.0 ∙ count) here.1 (none_at new.rows i empty)
        (subst (λ (h : List Act). ApStands new.domain 0 s [] (add acts h)) (sym none) stands)
    | inr earlier ↦ ap_there new.domain j (Ap k) i t (rows_at old.rows i) (rows_at new.rows i) acts 0 (other_ap i k (lasts old.aps k i t count earlier))
        (none_at new.rows i empty ∙ sym (none_at old.rows i before)) (ap_stays old new j more names listed is i t earlier)
  ];
  stas = λ i t at. sta_there new.domain j (Ap k) i t acts 0 refl (sta_stays old new j more listed is i t (subst (λ (l : List StationState). slice_get l i ≡ Some t) stas at));
}

pub stand_more_ap : (old new : Nodes) (k : ℕ) (s : ApState) (acts waited starts : List Act) (j : List Entry) → Grows old.domain new.domain → IsNamed new.domain → AreListed old → new.aps ≡ old.aps ++ s ∷ [] → new.stas ≡ old.stas → length old.aps ≡ k
    → waited ≡ [] → acts ≡ waited ++ starts → HoldNone new.rows → ApStands new.domain 0 s [] (add starts []) → Stand old j → HoldNone old.rows → history (Ap k) j ≡ [] → Stand new (push 0 (Ap k) acts j)
stand_more_ap old new k s acts waited starts j more names listed aps stas count empty adds holds stands is before none =
    let same : acts ≡ starts = adds ∙ ap (λ (l : List Act). l ++ starts) empty in
    stand_started old new k s acts j more names listed aps stas count before holds (subst (λ (g : List Act). ApStands new.domain 0 s [] (add g [])) (sym same) stands) is none

-- a station, which has done nothing
pub stand_more_sta : (old new : Nodes) (k : ℕ) (s : StationState) (j : List Entry) → Grows old.domain new.domain → IsNamed new.domain → AreListed old → new.aps ≡ old.aps → new.rows ≡ old.rows → new.stas ≡ old.stas ++ s ∷ [] → length old.stas ≡ k
    → StationStands new.domain 0 s [] → Stand old j → history (Sta k) j ≡ [] → Stand new j
stand_more_sta old new k s j more names listed aps held stas count stands is none = record {
  aps = λ i t at. subst (λ (l : List (List HeldRow)). ApStands new.domain 0 t (rows_at l i) (history (Ap i) j)) (sym held)
      (ap_stays old new j more names listed is i t (subst (λ (l : List ApState). slice_get l i ≡ Some t) aps at));
  stas = λ i t at. elim (get_push old.stas i s t (subst (λ (l : List StationState). slice_get l i ≡ Some t) stas at)) [
    | inl here ↦ sta_here new.domain j k i s t [] 0 (here.0 ∙ count) here.1 (subst (StationStands new.domain 0 s) (sym none) stands)
    | inr earlier ↦ sta_stays old new j more listed is i t earlier
  ];
}

pub listed_more_ap : (old new : Nodes) (k : ℕ) (s : ApState) → length new.domain.aps ≡ suc (length old.domain.aps) → length new.domain.stas ≡ length old.domain.stas → new.aps ≡ old.aps ++ s ∷ [] → new.stas ≡ old.stas → length old.aps ≡ k
    → s.number ≡ k → AreListed old → AreListed new
listed_more_ap old new k s more same_stas aps stas count number is = record {
  count_aps = omega (arith, ap length aps, length-append old.aps (s ∷ []), is.count_aps);
  count_stas = ap length stas ∙ is.count_stas ∙ sym same_stas;
  aps = λ i t at. elim (get_push old.aps i s t (subst (λ (l : List ApState). slice_get l i ≡ Some t) aps at)) [
    | inl here ↦ ap (λ (x : ApState). x.number) here.1 ∙ number ∙ sym (here.0 ∙ count)
    | inr earlier ↦ is.aps i t earlier
  ];
  stas = λ i t at. is.stas i t (subst (λ (l : List StationState). slice_get l i ≡ Some t) stas at);
}

-- ---- the rows of the first so many key holders

at_push : (l : List (List HeldRow)) (xs : List HeldRow) (k : ℕ) → k < length l → rows_at (l ++ xs ∷ []) k ≡ rows_at l k
at_push [] xs k low = absurd (omega arith)
at_push (ys ∷ l) xs zero low = refl
at_push (ys ∷ l) xs (suc k) low = at_push l xs k (omega arith)

at_last : (l : List (List HeldRow)) (xs : List HeldRow) → rows_at (l ++ xs ∷ []) (length l) ≡ xs
at_last [] xs = refl
at_last (ys ∷ l) xs = at_last l xs

count_below : (n : ℕ) (seen : List HolderEvent) → length (rows_below n seen) ≡ n
count_below zero seen = refl
count_below (suc n) seen = omega (arith, length-append (rows_below n seen) (held_at n seen ∷ []), count_below n seen)

pub below_at : (n k : ℕ) (seen : List HolderEvent) → k < n → rows_at (rows_below n seen) k ≡ held_at k seen
below_at zero k seen low = absurd (omega arith)
below_at (suc n) k seen low = elim (cases_lt k n) [
  | inl less ↦ at_push (rows_below n seen) (held_at n seen) k (omega (arith, less, count_below n seen)) ∙ below_at n k seen less
  | inr more ↦
      let is : k ≡ n = omega (arith, more) in
      let last : rows_at (rows_below n seen ++ held_at n seen ∷ []) k ≡ held_at n seen = ap (rows_at (rows_below n seen ++ held_at n seen ∷ [])) (is ∙ sym (count_below n seen)) ∙ at_last (rows_below n seen) (held_at n seen) in
      last ∙ ap (λ i. held_at i seen) (sym is)
]

pub below_same : (n : ℕ) (old new : List HolderEvent) → ((k : ℕ) → k < n → held_at k new ≡ held_at k old) → rows_below n new ≡ rows_below n old
below_same zero old new same_ = refl
below_same (suc n) old new same_ =
    ap (λ (l : List (List HeldRow)). l ++ held_at n new ∷ []) (below_same n old new (λ k low. same_ k (omega (arith, low))))
    ∙ ap (λ (xs : List HeldRow). rows_below n old ++ xs ∷ []) (same_ n (omega arith))

none_last : (l : List (List HeldRow)) (xs : List HeldRow) → HoldNone l → xs ≡ [] → HoldNone (l ++ xs ∷ [])
none_last [] xs none last = (last, tt)
none_last (ys ∷ l) xs none last = (none.0, none_last l xs none.1 last)

pub none_below : (n : ℕ) → HoldNone (rows_below n [])
none_below zero = tt
none_below (suc n) = none_last (rows_below n []) [] (none_below n) refl

-- ---- entries of listed nodes

-- what a node that is not listed has done
pub nothing_yet : (d : Domain) (rounds : ℕ) (n : Node) (j : List Entry) → AllByRecursion (IsPast d rounds) j → (IsListed d n → ⊥) → history n j ≡ []
nothing_yet d rounds n [] all out = refl
nothing_yet d rounds n (e ∷ past) all out =
    let other : same n e.node ≡ false = same-other n e.node (λ (here : n ≡ e.node). out (subst (IsListed d) (sym here) all.0.listed)) in
    ap (λ b. cond b (e.act ∷ history n past) (history n past)) other ∙ nothing_yet d rounds n past all.1 out

pub past_push : (d : Domain) (rounds round : ℕ) (n : Node) (g : List Act) (j : List Entry) → round ≤ rounds → IsListed d n → AllByRecursion (IsPast d rounds) j → AllByRecursion (IsPast d rounds) (push round n g j)
past_push d rounds round n [] j low listed all = all
past_push d rounds round n (a ∷ g) j low listed all =
    past_push d rounds round n g (record { round = round; node = n; number = number_of a j; act = a } ∷ j) low listed (record { round = low; listed = listed }, all)

-- of more nodes, up to a later round
pub past_more : (d e : Domain) (rounds later : ℕ) (j : List Entry) → rounds ≤ later → ((n : Node) → IsListed d n → IsListed e n) → AllByRecursion (IsPast d rounds) j → AllByRecursion (IsPast e later) j
past_more d e rounds later [] low more all = tt
past_more d e rounds later (x ∷ past) low more all =
    let first : IsPast e later x = record { round = omega (arith, all.0.round, low); listed = more x.node all.0.listed } in (first, past_more d e rounds later past low more all.1)

-- The place of a station among those of an access point.
use Rattle.std.proofs.Common.{Ordering, Less, Equal, Greater, ◌≡◌, ◌≢◌, ℕ, Bool, true, false, cond, List, [], ◌∷◌, Option, Some, None, Result, Ok, Err, refl, sym, ap, ◌∙◌}
use Rattle.std.specs.Prelude.{OnOk, OnErr, is_some, unwrap_or}
use Rattle.std.specs.BTreeMap.{is_at, insert_entry}
use Rattle.std.specs.Map.{lookup, set_value, remove_entry}
use Rattle.std.specs.Ordering.{nat_cmp, is_eq, match_ordering}
use Rattle.std.specs.Cmp.{nat_cmp_total, tied_itself}
use Rattle.std.proofs.lemmas.Map.Lookups.{exact_unsigned}
use Rattle.std.proofs.lemmas.Map.Steps.{set_value_same}
pub use Rattle.run_journal.proofs.Rooms.{err_at}
use Rattle.ap_node.specs.declared.station.Station.{Station}
use Rattle.ap_node.specs.State.{no_station, is_there, station_at}
use Rattle.ap_node.specs.Making.{IsMade, unmade}

-- the test of a station's number
abbrev pub at : ℕ → ℕ → Bool
at k = is_at (nat_cmp k)

abbrev pub find : ℕ → List (ℕ × Station) → Option Station
find k es = lookup (at k) es

-- it finds that number and no other
pub at_itself : (k : ℕ) → at k k ≡ true
at_itself k = ap is_eq (tied_itself nat_cmp_total k)

equal_of : (r : Ordering) → is_eq r ≡ true → r ≡ Equal
equal_of Less is = absurd (cc is)
equal_of Equal is = refl
equal_of Greater is = absurd (cc is)

at_same : (k j : ℕ) → at k j ≡ true → k ≡ j
at_same k j is = exact_unsigned k j (equal_of (nat_cmp k j) is)

false_by : (b : Bool) → (b ≡ true → ⊥) → b ≡ false
false_by true none = absurd (none refl)
false_by false none = refl

pub at_other : (k j : ℕ) → k ≢ j → at k j ≡ false
at_other k j other = false_by (at k j) (λ is. other (at_same k j is))

-- ---- what is read there

pub read_some : (es : List (ℕ × Station)) (k : ℕ) (x : Station) → Some x ≡ find k es → station_at es k ≡ x
read_some es k x is = sym (ap (λ (o : Option Station). unwrap_or o no_station) is)

pub read_none : (es : List (ℕ × Station)) (k : ℕ) → None ≡ find k es → station_at es k ≡ no_station
read_none es k is = sym (ap (λ (o : Option Station). unwrap_or o no_station) is)

-- ---- what is written there

by_test : (b : Bool) {C : Type 0} → (b ≡ true → C) → (b ≡ false → C) → C
by_test true here there = here refl
by_test false here there = there refl

set_here : (k : ℕ) (es : List (ℕ × Station)) (x w : Station) → find k es ≡ Some x → find k (set_value (at k) es w) ≡ Some w
set_here k [] x w is = absurd (cc is)
set_here k (e ∷ es) x w is = by_test (at k e.0)
    (λ here. ap (λ (b : Bool). find k (cond b ((e.0, w) ∷ es) (e ∷ set_value (at k) es w))) here ∙ ap (λ (b : Bool). cond b (Some w) (find k es)) here)
    (λ there. ap (λ (b : Bool). find k (cond b ((e.0, w) ∷ es) (e ∷ set_value (at k) es w))) there ∙ ap (λ (b : Bool). cond b (Some e.1) (find k (set_value (at k) es w))) there
    ∙ set_here k es x w (sym (ap (λ (b : Bool). cond b (Some e.1) (find k es)) there) ∙ is))

set_other : (k j : ℕ) (es : List (ℕ × Station)) (w : Station) → j ≢ k → find j (set_value (at k) es w) ≡ find j es
set_other k j [] w other = refl
set_other k j (e ∷ es) w other = by_test (at k e.0)
    (λ here. (let apart : at j e.0 ≡ false = at_other j e.0 (λ is. other (is ∙ sym (at_same k e.0 here))) in
    ap (λ (b : Bool). find j (cond b ((e.0, w) ∷ es) (e ∷ set_value (at k) es w))) here ∙ ap (λ (b : Bool). cond b (Some w) (find j es)) apart ∙ sym (ap (λ (b : Bool). cond b (Some e.1) (find j es)) apart)))
    (λ there. ap (λ (b : Bool). find j (cond b ((e.0, w) ∷ es) (e ∷ set_value (at k) es w))) there ∙ ap (cond (at j e.0) (Some e.1)) (set_other k j es w other))

pub put_there : (k : ℕ) (es fs : List (ℕ × Station)) (x w : Station) → Some x ≡ find k es → fs ≡ set_value (at k) es w → station_at fs k ≡ w
put_there k es fs x w was is = ap (λ (l : List (ℕ × Station)). station_at l k) is ∙ ap (λ (o : Option Station). unwrap_or o no_station) (set_here k es x w (sym was))

pub put_others : (k : ℕ) (es fs : List (ℕ × Station)) (w : Station) → fs ≡ set_value (at k) es w → (j : ℕ) → j ≢ k → station_at fs j ≡ station_at es j
put_others k es fs w is j other = ap (λ (l : List (ℕ × Station)). station_at l j) is ∙ ap (λ (o : Option Station). unwrap_or o no_station) (set_other k j es w other)

-- as it was, it changes nothing
pub put_back : (k : ℕ) (es fs : List (ℕ × Station)) (x w : Station) → Some x ≡ find k es → fs ≡ set_value (at k) es w → w ≡ x → fs ≡ es
put_back k es fs x w was is same = is ∙ ap (set_value (at k) es) same ∙ set_value_same (at k) es x (sym was)

-- ---- a place is made, and taken away again

pub is_there_as : (k : ℕ) (es : List (ℕ × Station)) → is_there k es ≡ true → (x : Station) × (Some x ≡ find k es)
is_there_as k es there = by (find k es) refl there
  where
    by : (o : Option Station) → find k es ≡ o → is_some o ≡ true → (x : Station) × (Some x ≡ find k es)
    by None is some = absurd (cc some)
    by (Some x) is some = (x, sym is)

none_of : (o : Option Station) → is_some o ≡ false → o ≡ None
none_of None is = refl
none_of (Some x) is = absurd (cc is)

pub not_there : (k : ℕ) (es : List (ℕ × Station)) → is_there k es ≡ false → find k es ≡ None
not_there k es is = none_of (find k es) is

pub there_by : (k : ℕ) (es : List (ℕ × Station)) (o : Option Station) → find k es ≡ cond (at k k) (Some no_station) o → is_there k es ≡ true
there_by k es o is = ap (λ (o : Option Station). is_some o) (is ∙ ap (λ (b : Bool). cond b (Some no_station) o) (at_itself k))

-- an empty one is as good as none
made_at : (k : ℕ) (es : List (ℕ × Station)) (j : ℕ) (b : Bool) → at k j ≡ b → find k es ≡ None → unwrap_or (cond b (Some no_station) (find j es)) no_station ≡ station_at es j
made_at k es j true is none = sym (ap (λ (o : Option Station). unwrap_or o no_station) (ap (λ (i : ℕ). find i es) (sym (at_same k j is)) ∙ none))
made_at k es j false is none = refl

pub made_same : (k : ℕ) (es fs : List (ℕ × Station)) → is_there k es ≡ false → ((q : ℕ) → find q fs ≡ cond (at k q) (Some no_station) (find q es)) → (j : ℕ) → station_at fs j ≡ station_at es j
made_same k es fs none updates j = ap (λ (o : Option Station). unwrap_or o no_station) (updates j) ∙ made_at k es j (at k j) refl (not_there k es none)

-- without it, all is as it was
gone : (k : ℕ) (v w : Station) (l : List (ℕ × Station)) → remove_entry (at k) (set_value (at k) ((k, v) ∷ l) w) ≡ l
gone k v w l =
    ap (λ (b : Bool). remove_entry (at k) (cond b ((k, w) ∷ l) ((k, v) ∷ set_value (at k) l w))) (at_itself k)
    ∙ ap (λ (b : Bool). cond b l ((k, w) ∷ remove_entry (at k) l)) (at_itself k)

undone_at : (k : ℕ) (e : ℕ × Station) (es : List (ℕ × Station)) (v w : Station) (r : Ordering) → nat_cmp k e.0 ≡ r → find k (e ∷ es) ≡ None → (find k es ≡ None → remove_entry (at k) (set_value (at k) (insert_entry nat_cmp es k v) w) ≡ es)
    → remove_entry (at k) (set_value (at k) (insert_entry nat_cmp (e ∷ es) k v) w) ≡ e ∷ es
undone_at k e es v w Less is none rest =
    ap (λ (r : Ordering). remove_entry (at k) (set_value (at k) (match_ordering r ((k, v) ∷ e ∷ es) ((e.0, v) ∷ es) (e ∷ insert_entry nat_cmp es k v)) w)) is ∙ gone k v w (e ∷ es)
undone_at k e es v w Equal is none rest = absurd (let some : Some e.1 ≡ None = sym (ap (λ (r : Ordering). cond (is_eq r) (Some e.1) (find k es)) is) ∙ none in cc some)
undone_at k e es v w Greater is none rest =
    let made = insert_entry nat_cmp es k v in
    let apart : at k e.0 ≡ false = ap is_eq is in
    ap (λ (r : Ordering). remove_entry (at k) (set_value (at k) (match_ordering r ((k, v) ∷ e ∷ es) ((e.0, v) ∷ es) (e ∷ made)) w)) is
    ∙ ap (λ (b : Bool). remove_entry (at k) (cond b ((e.0, w) ∷ made) (e ∷ set_value (at k) made w))) apart
    ∙ ap (λ (b : Bool). cond b (set_value (at k) made w) (e ∷ remove_entry (at k) (set_value (at k) made w))) apart
    ∙ ap (λ (l : List (ℕ × Station)). e ∷ l) (rest (sym (ap (λ (b : Bool). cond b (Some e.1) (find k es)) apart) ∙ none))

undone : (k : ℕ) (es : List (ℕ × Station)) (v w : Station) → find k es ≡ None → remove_entry (at k) (set_value (at k) (insert_entry nat_cmp es k v) w) ≡ es
undone k [] v w none = gone k v w []
undone k (e ∷ es) v w none = undone_at k e es v w (nat_cmp k e.0) refl none (undone k es v w)

pub unmade_is : (k : ℕ) (es made now : List (ℕ × Station)) (w : Station) → IsMade true k es made → now ≡ set_value (at k) made w → unmade true k now ≡ es
unmade_is k es made now w is set = ap (remove_entry (at k)) (set ∙ ap (λ (l : List (ℕ × Station)). set_value (at k) l w) is.1) ∙ undone k es no_station w (not_there k es is.0)

-- ---- as the code comes by them

-- where memory runs out
pub err_back : {A E : Type 0} (r : Result A E) (P Q : Type 0) → (P → Q) → OnErr r P → OnErr r Q
err_back (Ok a) P Q then_ at = tt
err_back (Err e) P Q then_ at = then_ at

pub ok_then : {A E : Type 0} (r : Result A E) (P Q : Type 0) → (P → Q) → OnOk r P → OnOk r Q
ok_then (Ok a) P Q then_ at = then_ at
ok_then (Err e) P Q then_ at = tt

pub ok_at : {A E : Type 0} (r : Result A E) (P : Type 0) → P → OnOk r P
ok_at (Ok a) P at = at
ok_at (Err e) P at = tt

-- What is kept of one access point among what is kept of all.
use Rattle.std.proofs.Common.{Ordering, Less, Equal, Greater, ◌≡◌, ◌≢◌, ℕ, Bool, true, false, cond, List, [], ◌∷◌, Option, Some, None, refl, sym, ap, ◌∙◌}
use Rattle.std.specs.Prelude.{is_some, unwrap_or, if◌then◌else◌}
use Rattle.std.specs.BTreeMap.{is_at}
use Rattle.std.specs.Map.{lookup, set_value}
use Rattle.std.specs.Ordering.{nat_cmp, is_eq}
use Rattle.std.specs.Cmp.{nat_cmp_total, tied_itself}
use Rattle.std.proofs.lemmas.Bool.{false≢true}
use Rattle.std.proofs.lemmas.Map.Lookups.{exact_unsigned}
use Rattle.group_key.specs.Keys.{Memories, kept_counter, kept_in, is_integrity_id}
use Rattle.station_node.specs.State.{no_keys, memory_at, is_there, set_memory, KeepsPlaces}

-- the test of a number
abbrev at : ℕ → ℕ → Bool
at k = is_at (nat_cmp k)

abbrev find : ℕ → List (ℕ × Memories) → Option Memories
find k es = lookup (at k) es

at_itself : (k : ℕ) → at k k ≡ true
at_itself k = ap is_eq (tied_itself nat_cmp_total k)

equal_of : (r : Ordering) → is_eq r ≡ true → r ≡ Equal
equal_of Less is = absurd (cc is)
equal_of Equal is = refl
equal_of Greater is = absurd (cc is)

at_same : (k j : ℕ) → at k j ≡ true → k ≡ j
at_same k j is = exact_unsigned k j (equal_of (nat_cmp k j) is)

false_by : (b : Bool) → (b ≡ true → ⊥) → b ≡ false
false_by true none = absurd (none refl)
false_by false none = refl

at_other : (k j : ℕ) → k ≢ j → at k j ≡ false
at_other k j other = false_by (at k j) (λ is. other (at_same k j is))

by_test : (b : Bool) {C : Type 0} → (b ≡ true → C) → (b ≡ false → C) → C
by_test true here there = here refl
by_test false here there = there refl

-- where it is written
set_here : (k : ℕ) (es : List (ℕ × Memories)) (w : Memories) → is_some (find k es) ≡ true → find k (set_value (at k) es w) ≡ Some w
set_here k [] w is = absurd (cc is)
set_here k (e ∷ es) w is = by_test (at k e.0)
    (λ here. ap (λ (b : Bool). find k (cond b ((e.0, w) ∷ es) (e ∷ set_value (at k) es w))) here ∙ ap (λ (b : Bool). cond b (Some w) (find k es)) here)
    (λ there. ap (λ (b : Bool). find k (cond b ((e.0, w) ∷ es) (e ∷ set_value (at k) es w))) there ∙ ap (λ (b : Bool). cond b (Some e.1) (find k (set_value (at k) es w))) there
    ∙ set_here k es w (sym (ap (λ (b : Bool). is_some (cond b (Some e.1) (find k es))) there) ∙ is))

-- elsewhere
set_other : (k j : ℕ) (es : List (ℕ × Memories)) (w : Memories) → j ≢ k → find j (set_value (at k) es w) ≡ find j es
set_other k j [] w other = refl
set_other k j (e ∷ es) w other = by_test (at k e.0)
    (λ here. (let apart : at j e.0 ≡ false = at_other j e.0 (λ is. other (is ∙ sym (at_same k e.0 here))) in
    ap (λ (b : Bool). find j (cond b ((e.0, w) ∷ es) (e ∷ set_value (at k) es w))) here ∙ ap (λ (b : Bool). cond b (Some w) (find j es)) apart ∙ sym (ap (λ (b : Bool). cond b (Some e.1) (find j es)) apart)))
    (λ there. ap (λ (b : Bool). find j (cond b ((e.0, w) ∷ es) (e ∷ set_value (at k) es w))) there ∙ ap (cond (at j e.0) (Some e.1)) (set_other k j es w other))

-- as it was
set_back : (k : ℕ) (es : List (ℕ × Memories)) → set_value (at k) es (unwrap_or (find k es) no_keys) ≡ es
set_back k [] = refl
set_back k (e ∷ es) = by_test (at k e.0)
    (λ here. ap (λ (b : Bool). cond b ((e.0, unwrap_or (cond b (Some e.1) (find k es)) no_keys) ∷ es) (e ∷ set_value (at k) es (unwrap_or (cond b (Some e.1) (find k es)) no_keys))) here)
    (λ there. ap (λ (b : Bool). cond b ((e.0, unwrap_or (cond b (Some e.1) (find k es)) no_keys) ∷ es) (e ∷ set_value (at k) es (unwrap_or (cond b (Some e.1) (find k es)) no_keys))) there
    ∙ ap (λ (l : List (ℕ × Memories)). e ∷ l) (set_back k es))

-- ---- in the words of a station

pub memory_there : (memories : List (ℕ × Memories)) (p : ℕ) (ks : Memories) → is_there memories p ≡ true → memory_at (set_memory memories p ks) p ≡ ks
memory_there memories p ks there = ap (λ (o : Option Memories). unwrap_or o no_keys) (set_here p memories ks there)

pub memory_elsewhere : (memories : List (ℕ × Memories)) (p q : ℕ) (ks : Memories) → q ≢ p → memory_at (set_memory memories p ks) q ≡ memory_at memories q
memory_elsewhere memories p q ks other = ap (λ (o : Option Memories). unwrap_or o no_keys) (set_other p q memories ks other)

pub memory_back : (memories : List (ℕ × Memories)) (p : ℕ) (ks : Memories) → ks ≡ memory_at memories p → set_memory memories p ks ≡ memories
memory_back memories p ks is = ap (set_memory memories p) is ∙ set_back p memories

pub places_kept : (memories : List (ℕ × Memories)) (p : ℕ) (ks : Memories) → KeepsPlaces memories (set_memory memories p ks)
places_kept memories p ks k there = by_test (at p k)
    (λ here. ap (λ (j : ℕ). is_there (set_memory memories p ks) j) (sym (at_same p k here)) ∙ ap (λ (o : Option Memories). is_some o) (set_here p memories ks (ap (λ (j : ℕ). is_there memories j) (at_same p k here) ∙ there)))
    (λ other. ap (λ (o : Option Memories). is_some o) (set_other p k memories ks (λ is. false≢true (sym other ∙ ap (at p) is ∙ at_itself p))) ∙ there)

-- of no group keys none is counted
pub none_counted : (key : List ℕ) (id : ℕ) → ◌≡◌ {A = Option ℕ} None (kept_counter key (kept_in id no_keys))
none_counted key id = by (is_integrity_id id)
  where
    by : (b : Bool) → ◌≡◌ {A = Option ℕ} None (kept_counter key (if b then no_keys.igtks else no_keys.gtks))
    by true = refl
    by false = refl

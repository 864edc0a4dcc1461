-- What the entries of a cache say of its pairs.
use Rattle.std.proofs.Common.{◌≡◌, ◌-◌, Bool, true, false, cond, ◌&&◌, ◌||◌, List, [], ◌∷◌, take, Option, Some, None, Result, Ok, Err, refl, sym, ap, ◌∙◌, subst, inl, inr}
use Rattle.std.specs.Prelude.{if◌then◌else◌, bytes_eq, OnOk, OnErr}
use Rattle.std.specs.List.{take-map}
use Rattle.std.specs.Option.{option_map_or}
use Rattle.std.specs.Map.{lookup, lookup_entry, remove_entry}
use Rattle.std.proofs.lemmas.Bool.{and_parts}
use Rattle.std.proofs.lemmas.Slice.Eq.{bytes_eq-Decides}
use Rattle.key_hierarchy.specs.declared.fast_transition.PmkR1.{PmkR1}
use Rattle.key_holders.specs.declared.r1_cache.R1Pair.{R1Pair}
use Rattle.key_holders.specs.declared.r1_cache.CacheAnswer.TheVariants.{Hit, Kept, NotKept}
use Rattle.lru.specs.LruCache.{LruCache, lru_cache, promoted, put_entries}
use Rattle.lru.proofs.CallerLemmas.{Contains-lookup, Contains-promoted, Contains-put_entries}
use Rattle.key_holders.specs.Keys.{row_r1}
use Rattle.key_holders.specs.Cached.{Cached, is_row, is_pair, stands, without, with_pairs, pairs_of, AreDerived, CacheAfter}

pub is_pair-true : (p q : R1Pair) → is_pair p q ≡ true → q ≡ p
is_pair-true p q t =
    let both = and_parts (is_row p.row q.row) (bytes_eq p.r1kh.0 q.r1kh.0) t in
    let named = and_parts (bytes_eq p.row.name q.row.name) (bytes_eq p.row.key q.row.key && bytes_eq p.row.sta.0 q.row.sta.0) both.0 in
    let rest = and_parts (bytes_eq p.row.key q.row.key) (bytes_eq p.row.sta.0 q.row.sta.0) named.1 in
    let name = sym ((bytes_eq-Decides p.row.name q.row.name).0 named.0) in
    let key = sym ((bytes_eq-Decides p.row.key q.row.key).0 rest.0) in
    let sta = sym ((bytes_eq-Decides p.row.sta.0 q.row.sta.0).0 rest.1) in
    let r1kh = sym ((bytes_eq-Decides p.r1kh.0 q.r1kh.0).0 both.1) in
    λ i. record { row = record { name = name i; key = key i; sta = record { 0 = sta i } }; r1kh = record { 0 = r1kh i } }

found_if : (b : Bool) (r1 : PmkR1) (o : Option PmkR1) (t : Bool) (k : PmkR1) → (o ≡ Some k → t ≡ true) → cond b (Some r1) o ≡ Some k → (b || t) ≡ true
found_if true r1 o t k rest h = refl
found_if false r1 o t k rest h = rest h

none_if : (b : Bool) (r1 : PmkR1) (o : Option PmkR1) (t : Bool) → (o ≡ None → t ≡ false) → cond b (Some r1) o ≡ None → (b || t) ≡ false
none_if true r1 o t rest h = cc
none_if false r1 o t rest h = rest h

abbrev Entry : Type 0
Entry = R1Pair × PmkR1

without_if : (b : Bool) (e : Entry) (es rest : List Entry) (qs : List R1Pair) → pairs_of rest ≡ qs → pairs_of (cond b es (e ∷ rest)) ≡ (if b then pairs_of es else e.0 ∷ qs)
without_if true e es rest qs h = refl
without_if false e es rest qs h = ap (λ (l : List R1Pair). e.0 ∷ l) h

module _ (p : R1Pair) where
  pub stands_found : (es : List Entry) (k : PmkR1) → lookup (is_pair p) es ≡ Some k → stands p (pairs_of es) ≡ true
  stands_found [] k h = cc
  stands_found (e ∷ es) k h = found_if (is_pair p e.0) e.1 (lookup (is_pair p) es) (stands p (pairs_of es)) k (stands_found es k) h

  pub stands_not : (es : List Entry) → lookup (is_pair p) es ≡ None → stands p (pairs_of es) ≡ false
  stands_not [] h = refl
  stands_not (e ∷ es) h = none_if (is_pair p e.0) e.1 (lookup (is_pair p) es) (stands p (pairs_of es)) (stands_not es) h

  entry_if : (b : Bool) (e : Entry) (o : Option PmkR1) (rest : Option Entry) (k : PmkR1) → is_pair p e.0 ≡ b → (o ≡ Some k → (f : Entry) × (rest ≡ Some f) × (is_pair p f.0 ≡ true)) → cond b (Some e.1) o ≡ Some k → (f : Entry) × (cond b (Some e) rest ≡ Some f) × (is_pair p f.0 ≡ true)
  entry_if true e o rest k is later h = (e, refl, is)
  entry_if false e o rest k is later h = later h

  entry_of : (es : List Entry) (k : PmkR1) → lookup (is_pair p) es ≡ Some k → (f : Entry) × (lookup_entry (is_pair p) es ≡ Some f) × (is_pair p f.0 ≡ true)
  entry_of [] k h = cc
  entry_of (e ∷ es) k h = entry_if (is_pair p e.0) e (lookup (is_pair p) es) (lookup_entry (is_pair p) es) k refl (entry_of es k) h

  no_entry_if : (b : Bool) (e : Entry) (o : Option PmkR1) (rest : Option Entry) → (o ≡ None → rest ≡ None) → cond b (Some e.1) o ≡ None → cond b (Some e) rest ≡ None
  no_entry_if true e o rest later h = cc
  no_entry_if false e o rest later h = later h

  no_entry : (es : List Entry) → lookup (is_pair p) es ≡ None → lookup_entry (is_pair p) es ≡ None
  no_entry [] h = refl
  no_entry (e ∷ es) h = no_entry_if (is_pair p e.0) e (lookup (is_pair p) es) (lookup_entry (is_pair p) es) (no_entry es) h

  removed : (es : List Entry) → pairs_of (remove_entry (is_pair p) es) ≡ without p (pairs_of es)
  removed [] = refl
  removed (e ∷ es) = without_if (is_pair p e.0) e es (remove_entry (is_pair p) es) (without p (pairs_of es)) (removed es)

  -- the pair that stood goes to the front
  pub pairs-promoted : (es : List Entry) (k : PmkR1) → lookup (is_pair p) es ≡ Some k → pairs_of (promoted (is_pair p) es) ≡ p ∷ without p (pairs_of es)
  pairs-promoted es k h =
      let e = entry_of es k h in
      ap (λ (o : Option Entry). pairs_of (option_map_or (λ f. f ∷ remove_entry (is_pair p) es) o es)) e.1
      ∙ (λ i. is_pair-true p e.0.0 e.2 i ∷ removed es i)

  -- a new pair comes to the front, and from a full cache the last one goes
  pub pairs-put : (c : LruCache R1Pair PmkR1) (k : PmkR1) → lookup (is_pair p) c.entries ≡ None → pairs_of (put_entries is_pair c p k) ≡ p ∷ take (c.cap - 1) (pairs_of c.entries)
  pairs-put c k h =
      ap (λ (o : Option Entry). pairs_of (option_map_or (λ f. (f.0, k) ∷ remove_entry (is_pair p) c.entries) o ((p, k) ∷ take (c.cap - 1) c.entries))) (no_entry c.entries h)
      ∙ ap (λ (l : List R1Pair). p ∷ l) (sym (take-map (λ (e : Entry). e.0) (c.cap - 1) c.entries))

  pub derived_found : (es : List Entry) (k : PmkR1) → AreDerived es → lookup (is_pair p) es ≡ Some k → k ≡ row_r1 p.row p.r1kh
  derived_found es k all h =
      let found = Contains-lookup (is_pair p) es k h in
      all (found.0, k) found.1 ∙ ap (λ (q : R1Pair). row_r1 q.row q.r1kh) (is_pair-true p found.0 found.2)

  pub derived-promoted : (es : List Entry) → AreDerived es → AreDerived (promoted (is_pair p) es)
  derived-promoted es all e h = all e (Contains-promoted (is_pair p) es e h)

  pub derived-put : (c : LruCache R1Pair PmkR1) (k : PmkR1) → k ≡ row_r1 p.row p.r1kh → AreDerived c.entries → AreDerived (put_entries is_pair c p k)
  derived-put c k is all e h = elim (Contains-put_entries is_pair c p k e h) [
    | inl was ↦ all e was
    | inr put ↦ put.0 ∙ (is ∙ ap (λ (q : R1Pair). row_r1 q.row q.r1kh) (elim put.1 [ inl same ↦ sym same | inr there ↦ sym (is_pair-true p e.0 there.2) ]))
  ]

-- what contracts see of a cache
abbrev pub cache_view : LruCache R1Pair PmkR1 → Cached
cache_view l = record { pairs = pairs_of l.entries; capacity = l.cap }

module _ (p : R1Pair) (old : LruCache R1Pair PmkR1) (c : Cached) (view : cache_view old ≡ c) where
  -- the key was there
  pub after_hit : (new : LruCache R1Pair PmkR1) (k : PmkR1) → lookup (is_pair p) old.entries ≡ Some k → new ≡ lru_cache (promoted (is_pair p) old.entries) old.cap → CacheAfter p c Hit (cache_view new)
  after_hit new k there is = (
    ap (λ (d : Cached). stands p d.pairs) (sym view) ∙ stands_found p old.entries k there,
    ap cache_view is
        ∙ ((λ i. record { pairs = pairs-promoted p old.entries k there i; capacity = old.cap })
        ∙ ap (λ (d : Cached). with_pairs d (p ∷ without p d.pairs)) view),
  )

  -- it was not there, and is kept
  pub after_kept : (new : LruCache R1Pair PmkR1) (k : PmkR1) → lookup (is_pair p) old.entries ≡ None → new ≡ lru_cache (put_entries is_pair old p k) old.cap → CacheAfter p c Kept (cache_view new)
  after_kept new k none is = (
    ap (λ (d : Cached). stands p d.pairs) (sym view) ∙ stands_not p old.entries none,
    ap cache_view is
        ∙ ((λ i. record { pairs = pairs-put p old k none i; capacity = old.cap })
        ∙ ap (λ (d : Cached). with_pairs d (p ∷ take (d.capacity - 1) d.pairs)) view),
  )

  -- it was not there, and memory ran out
  pub after_not_kept : (new : LruCache R1Pair PmkR1) → lookup (is_pair p) old.entries ≡ None → new ≡ old → CacheAfter p c NotKept (cache_view new)
  after_not_kept new none is = (
    ap (λ (d : Cached). stands p d.pairs) (sym view) ∙ stands_not p old.entries none,
    ap cache_view is ∙ view,
  )

-- after a key was put, or could not be
pub derived-after : {E : Type 0} (r : Result (Option PmkR1) E) (p : R1Pair) (old new : LruCache R1Pair PmkR1) (k : PmkR1) → OnOk r (new ≡ lru_cache (put_entries is_pair old p k) old.cap) → OnErr r (new ≡ old) → k ≡ row_r1 p.row p.r1kh → AreDerived old.entries → AreDerived new.entries
derived-after (Ok o) p old new k ok err is all = subst (λ (l : LruCache R1Pair PmkR1). AreDerived l.entries) (sym ok) (derived-put p old k is all)
derived-after (Err e) p old new k ok err is all = subst (λ (l : LruCache R1Pair PmkR1). AreDerived l.entries) (sym err) all

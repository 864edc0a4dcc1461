-- The group keys of an access point beside those that its history drew.
use Rattle.std.proofs.Common.{◌≡◌, ℕ, suc, ◌<◌, ◌≤◌, Bool, true, false, cond, List, [], ◌∷◌, Option, Some, None, refl, sym, ap, subst, ◌∙◌, arith}
use Rattle.std.specs.Prelude.{◌==◌, ◌%◌, nat_lt, length}
use Rattle.std.specs.List.{AllByRecursion}
use Rattle.std.proofs.lemmas.Bool.{eq-eqb, eqb-true, lt-ltb, ltb-true}
use Rattle.domain_base.specs.declared.names.Mac.{Mac}
use Rattle.domain_base.specs.declared.names.Peer.TheVariants.{All}
use Rattle.run_journal.specs.declared.acts.Drawn.TheVariants as draw
use Rattle.run_journal.specs.declared.acts.Key.TheVariants.{Group}
use Rattle.run_journal.specs.declared.acts.Act.{Act}
use Rattle.run_journal.specs.declared.acts.Act.TheVariants.{Drew, Installed}
use Rattle.run_journal.specs.Acts.{GroupKey as Carried, key_drawn}
use Rattle.run_journal.specs.Questions.{listed, group_keys, switches, group_uses, is_draw, draws, add}
use Rattle.run_journal.specs.declared.acts.GroupKind.{GroupKind}
use Rattle.run_journal.specs.declared.acts.GroupKind.TheVariants as groups
use Rattle.domain_rules.specs.GroupKeys.{newest, newest_of, newest_uses, is_current}
use Rattle.domain_rules.specs.Owing.{is_older}
use Rattle.group_key.specs.declared.keys.GroupKey.{GroupKey}
use Rattle.group_key.specs.declared.keys.Pair.{Pair}
use Rattle.group_key.specs.Keys.{placed, started as started_by, drawn as drawn_by, switched as switched_by}
use Rattle.group_key.specs.Holds.{IsLast, Holds, LeavesGroupKeys, carried, under}

first : (kind : GroupKind) (key : List ℕ) (keys : List (List ℕ)) → keys ≡ key ∷ [] → IsLast kind (placed kind 0 key) keys
first kind key keys is = record { older = []; are = is; is = refl }

pub started : (kind : GroupKind) (key : List ℕ) (h : List Act) → group_keys kind h ≡ key ∷ [] → switches kind h ≡ key ∷ [] → Holds kind (started_by kind key) h
started kind key h drawn made = record { newest = first kind key (group_keys kind h) drawn; current = first kind key (switches kind h) made }

-- the last of the keys counts those before it
pub place_is : (kind : GroupKind) (k : GroupKey) (keys : List (List ℕ)) → IsLast kind k keys → suc k.place ≡ length keys
place_is kind k keys last = ap (λ (x : GroupKey). suc x.place) last.is ∙ sym (ap (λ (xs : List (List ℕ)). length xs) last.are)

-- ---- a key is drawn, and made current

drawn_last : (kind : GroupKind) (k : GroupKey) (key : List ℕ) (keys : List (List ℕ)) → IsLast kind k keys → IsLast kind (placed kind (suc k.place) key) (key ∷ keys)
drawn_last kind k key keys last = record { older = keys; are = refl; is = ap (λ (n : ℕ). placed kind n key) (place_is kind k keys last) }

pub drawn : (kind : GroupKind) (s : Pair) (key : List ℕ) (h : List Act) → Holds kind s h → Holds kind (drawn_by kind key s) (Drew (draw.Group kind key) ∷ h)
drawn groups.Gtk s key h holds = record { newest = drawn_last groups.Gtk s.newest key (group_keys groups.Gtk h) holds.newest; current = holds.current }
drawn groups.Igtk s key h holds = record { newest = drawn_last groups.Igtk s.newest key (group_keys groups.Igtk h) holds.newest; current = holds.current }

-- the group key drawn last is the newest
pub last_newest : (kind : GroupKind) (k : GroupKey) (h : List Act) → IsLast kind k (group_keys kind h) → newest kind h ≡ carried k
last_newest kind k h last = ap (newest_of kind) last.are ∙ ap (λ (x : GroupKey). under k.key x.id) (sym last.is)

pub newest_is : (kind : GroupKind) (s : Pair) (h : List Act) → Holds kind s h → newest kind h ≡ carried s.newest
newest_is kind s h holds = last_newest kind s.newest h holds.newest

-- the one drawn last is the next that was made current
made_last : (kind : GroupKind) (k c : GroupKey) (key : List ℕ) (keys made : List (List ℕ)) → IsLast kind k keys → IsLast kind c made → k.place ≡ suc c.place → key ≡ k.key → IsLast kind k (key ∷ made)
made_last kind k c key keys made last before next is =
    let places : length last.older ≡ length made = sym (ap (λ (x : GroupKey). x.place) last.is) ∙ next ∙ place_is kind c made before in
    record {
      older = made;
      are = ap (λ (x : List ℕ). x ∷ made) is;
      is = last.is ∙ ap (λ (n : ℕ). placed kind n k.key) places;
    }

pub made_current : (kind : GroupKind) (s : Pair) (b : Mac) (h : List Act) → Holds kind s h → s.newest.place ≡ suc s.current.place
    → Holds kind (switched_by s) (Installed All (Group kind (newest kind h).key (newest kind h).id b) ∷ h)
made_current groups.Gtk s b h holds pending = record {
  newest = holds.newest;
  current = made_last groups.Gtk s.newest s.current (newest groups.Gtk h).key (group_keys groups.Gtk h) (switches groups.Gtk h) holds.newest holds.current pending (ap (λ (g : Carried). g.key) (newest_is groups.Gtk s h holds));
}
made_current groups.Igtk s b h holds pending = record {
  newest = holds.newest;
  current = made_last groups.Igtk s.newest s.current (newest groups.Igtk h).key (group_keys groups.Igtk h) (switches groups.Igtk h) holds.newest holds.current pending (ap (λ (g : Carried). g.key) (newest_is groups.Igtk s h holds));
}

-- ---- other acts

pub other : (kind : GroupKind) (s : Pair) (e : Act) (h : List Act) → Holds kind s h → LeavesGroupKeys kind e → Holds kind s (e ∷ h)
other kind s e h holds leaves = record {
  newest = subst (λ (o : Option (List ℕ)). IsLast kind s.newest (listed o (group_keys kind h))) (sym leaves.drawn) holds.newest;
  current = subst (λ (o : Option (List ℕ)). IsLast kind s.current (listed o (switches kind h))) (sym leaves.made) holds.current;
}

pub others : (kind : GroupKind) (s : Pair) (g h : List Act) → Holds kind s h → AllByRecursion (LeavesGroupKeys kind) g → Holds kind s (add g h)
others kind s [] h holds all = holds
others kind s (e ∷ g) h holds all = others kind s g (e ∷ h) (other kind s e h holds all.0) all.1

-- ---- what is asked of them

same_test : (x y : Bool) → (x ≡ true → y ≡ true) → (y ≡ true → x ≡ true) → x ≡ y
same_test true y there back = sym (there refl)
same_test false true there back = back refl
same_test false false there back = refl

-- the newest is in use where as many were made current as were drawn
pub in_use : (kind : GroupKind) (s : Pair) (h : List Act) → Holds kind s h → is_current kind h ≡ (s.newest.place == s.current.place)
in_use kind s h holds =
    let drawn : suc s.newest.place ≡ length (group_keys kind h) = place_is kind s.newest (group_keys kind h) holds.newest in
    let made : suc s.current.place ≡ length (switches kind h) = place_is kind s.current (switches kind h) holds.current in
    same_test (is_current kind h) (s.newest.place == s.current.place)
    (λ is. let same : length (switches kind h) ≡ length (group_keys kind h) = eqb-true _ _ is in eq-eqb s.newest.place s.current.place (omega (arith, drawn, made, same)))
    (λ is. let same : s.newest.place ≡ s.current.place = eqb-true _ _ is in eq-eqb (length (switches kind h)) (length (group_keys kind h)) (omega (arith, drawn, made, same)))

pub uses : (kind : GroupKind) (s : Pair) (h : List Act) → Holds kind s h → newest_uses kind h ≡ cond (s.newest.place == s.current.place) (group_uses kind h) 0
uses kind s h holds = ap (λ (b : Bool). cond b (group_uses kind h) 0) (in_use kind s h holds)

-- a key is older than the newest where it was drawn before it
pub older : (kind : GroupKind) (k n : GroupKey) (past h : List Act) → IsLast kind k (group_keys kind past) → IsLast kind n (group_keys kind h) → is_older kind past h ≡ nat_lt k.place n.place
older kind k n past h was last =
    let before : suc k.place ≡ length (group_keys kind past) = place_is kind k (group_keys kind past) was in
    let now : suc n.place ≡ length (group_keys kind h) = place_is kind n (group_keys kind h) last in
    same_test (is_older kind past h) (nat_lt k.place n.place)
    (λ is. let less : length (group_keys kind past) < length (group_keys kind h) = ltb-true _ _ is in lt-ltb k.place n.place (omega (arith, before, now, less)))
    (λ is. let less : k.place < n.place = ltb-true _ _ is in lt-ltb (length (group_keys kind past)) (length (group_keys kind h)) (omega (arith, before, now, less)))

small : (n : ℕ) → suc (n % 2) < 4
small n = omega arith

pub id_small : (k : GroupKey) (h : List Act) → IsLast groups.Gtk k (group_keys groups.Gtk h) → k.id < 4
id_small k h last = subst (λ (x : GroupKey). x.id < 4) (sym last.is) (small (length last.older))

-- group keys are among what is drawn
few_by : (kind : GroupKind) (e : Act) (n : ℕ) (keys : List (List ℕ)) → length keys ≤ n → (o : Option (List ℕ)) → key_drawn kind e ≡ o → (b : Bool) → is_draw e ≡ b → length (listed o keys) ≤ cond b (suc n) n
few_by kind e n keys low None is true d = omega (arith, low)
few_by kind e n keys low None is false d = low
few_by kind e n keys low (Some v) is true d = omega (arith, low)
few_by kind (Drew v) n keys low (Some w) is false d = cc
few_by kind _ n keys low (Some w) is false d = cc

few : (kind : GroupKind) (h : List Act) → length (group_keys kind h) ≤ draws h
few kind [] = omega arith
few kind (e ∷ h) = few_by kind e (draws h) (group_keys kind h) (few kind h) (key_drawn kind e) refl (is_draw e) refl

pub place_low : (kind : GroupKind) (k : GroupKey) (h : List Act) → IsLast kind k (group_keys kind h) → k.place < draws h
place_low kind k h last = omega (arith, place_is kind k (group_keys kind h) last, few kind h)

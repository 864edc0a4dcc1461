-- The group keys that a station keeps beside those that its history gave it.
use Rattle.std.proofs.Common.{◌≡◌, ℕ, Bool, true, false, cond, List, [], ◌∷◌, Option, Some, None, refl, sym, ap, ◌∙◌}
use Rattle.std.specs.Prelude.{take, map, bytes_eq, is_some, option_map, ◌||◌, ◌==◌}
use Rattle.std.proofs.lemmas.Slice.Eq.{bytes_eq-Decides}
use Rattle.domain_base.specs.declared.names.Node.{Node}
use Rattle.domain_base.specs.declared.names.Mac.{Mac}
use Rattle.run_journal.specs.declared.acts.Act.{Act}
use Rattle.run_journal.specs.Questions.{listed}
use Rattle.run_journal.specs.Acts.{GroupKey, given_from}
use Rattle.run_journal.specs.Questions.{given as all_given}
use Rattle.domain_rules.specs.GroupKeys.{memory, find_key, give_by, give}
use Rattle.domain_rules.proofs.Parts.{same-refl}
use Rattle.run_journal.specs.declared.acts.GroupKind.{GroupKind}
use Rattle.run_journal.specs.declared.acts.GroupKind.TheVariants as groups
use Rattle.group_key.specs.Keys.{Kept, has_key, kept_id, raised, given, taken}
use Rattle.group_key.specs.Holds.{key_of, under}

-- ---- which key is found

abbrev pub found_as : List ℕ → Option ℕ → Option GroupKey
found_as key o = option_map (under key) o

found_by : (key : List ℕ) (k : Kept) (ks : List Kept) (b : Bool) → bytes_eq key k.key ≡ b → find_key key (map key_of ks) ≡ found_as key (kept_id key ks)
    → cond b (Some (key_of k)) (find_key key (map key_of ks)) ≡ found_as key (cond b (Some k.id) (kept_id key ks))
found_by key k ks true same more = ap (λ (x : List ℕ). Some (under x k.id)) (sym ((bytes_eq-Decides key k.key).0 same))
found_by key k ks false other more = more

found_kept : (key : List ℕ) (ks : List Kept) → find_key key (map key_of ks) ≡ found_as key (kept_id key ks)
found_kept key [] = refl
found_kept key (k ∷ ks) = found_by key k ks (bytes_eq key k.key) refl (found_kept key ks)

pub found_in : (kind : GroupKind) (p : Node) (key : List ℕ) (ks : List Kept) (h : List Act) → map key_of ks ≡ memory kind p h → find_key key (memory kind p h) ≡ found_as key (kept_id key ks)
found_in kind p key ks h is = ap (find_key key) (sym is) ∙ found_kept key ks

-- ---- what was given

abbrev pub gave : GroupKey → Option GroupKey → List GroupKey → List GroupKey
gave g None gs = g ∷ gs
gave g (Some kept) gs = gs

give_there : (kind : GroupKind) (p : Node) (b : Mac) (g : GroupKey) (o : Option GroupKey) (gs : List GroupKey) → listed (given_from kind p (give_by kind p b g o)) gs ≡ gave g o gs
give_there groups.Gtk p b g None gs = rw (same-refl p) refl
give_there groups.Gtk p b g (Some kept) gs = refl
give_there groups.Igtk p b g None gs = rw (same-refl p) refl
give_there groups.Igtk p b g (Some kept) gs = refl

-- ---- and what is kept of it

has_by : (b : Bool) (id : ℕ) (more : Bool) (o : Option ℕ) → more ≡ is_some o → (b || more) ≡ is_some (cond b (Some id) o)
has_by true id more o is = refl
has_by false id more o is = is

pub has_some : (key : List ℕ) (ks : List Kept) → has_key key ks ≡ is_some (kept_id key ks)
has_some key [] = refl
has_some key (k ∷ ks) = has_by (bytes_eq key k.key) k.id (has_key key ks) (kept_id key ks) (has_some key ks)

-- one key of the list changed its counter alone
changed : (b : Bool) (k l : Kept) (ks ls : List Kept) → key_of k ≡ key_of l → map key_of ls ≡ map key_of ks → map key_of (cond b (l ∷ ks) (k ∷ ls)) ≡ key_of k ∷ map key_of ks
changed true k l ks ls same more = ap (λ (x : GroupKey). x ∷ map key_of ks) (sym same)
changed false k l ks ls same more = ap (λ (x : List GroupKey). key_of k ∷ x) more

pub keys_raised : (key : List ℕ) (rsc : ℕ) (ks : List Kept) → map key_of (raised key rsc ks) ≡ map key_of ks
keys_raised key rsc [] = refl
keys_raised key rsc (k ∷ ks) = changed (bytes_eq key k.key) k _ ks (raised key rsc ks) refl (keys_raised key rsc ks)

pub keys_taken : (id number : ℕ) (ks : List Kept) → map key_of (taken id number ks) ≡ map key_of ks
keys_taken id number [] = refl
keys_taken id number (k ∷ ks) = changed (k.id == id) k _ ks (taken id number ks) refl (keys_taken id number ks)

pushed : (x : Kept) (ks : List Kept) (gs : List GroupKey) → map key_of ks ≡ take 2 gs → map key_of (take 2 (x ∷ ks)) ≡ take 2 (key_of x ∷ gs)
pushed x [] [] is = refl
pushed x (k ∷ ks) [] is = cc
pushed x [] (g ∷ gs) is = cc
pushed x (k ∷ ks) (g ∷ gs) is = let same : key_of k ≡ g = cc in ap (λ (y : GroupKey). key_of x ∷ y ∷ []) same

kept_by : (key : List ℕ) (id rsc : ℕ) (ks : List Kept) (gs : List GroupKey) (o : Option ℕ) → map key_of ks ≡ take 2 gs
    → map key_of (cond (is_some o) (raised key rsc ks) (take 2 (record { key = key; id = id; counter = rsc } ∷ ks))) ≡ take 2 (gave (record { key = key; id = id }) (found_as key o) gs)
kept_by key id rsc ks gs None is = pushed (record { key = key; id = id; counter = rsc }) ks gs is
kept_by key id rsc ks gs (Some was) is = keys_raised key rsc ks ∙ is

pub keys_given : (kind : GroupKind) (p : Node) (b : Mac) (g : GroupKey) (rsc : ℕ) (ks : List Kept) (h : List Act) → map key_of ks ≡ memory kind p h
    → map key_of (given g.key g.id rsc ks) ≡ memory kind p (give kind p b g h ∷ h)
keys_given kind p b g rsc ks h is =
    ap (λ (x : Bool). map key_of (cond x (raised g.key rsc ks) (take 2 (record { key = g.key; id = g.id; counter = rsc } ∷ ks)))) (has_some g.key ks)
    ∙ kept_by g.key g.id rsc ks (all_given kind p h) (kept_id g.key ks) is
    ∙ ap (λ (o : Option GroupKey). take 2 (gave g o (all_given kind p h))) (sym (found_in kind p g.key ks h is))
    ∙ ap (take 2) (sym (give_there kind p b g (find_key g.key (memory kind p h)) (all_given kind p h)))

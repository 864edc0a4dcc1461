-- The kinds of group keys, and the key ids of each.
use Rattle.std.proofs.Common.{◌≡◌, ◌≢◌, ℕ, suc, ◌+◌, ◌<◌, ◌≤◌, Bool, true, cond, List, [], ◌∷◌, length, Some, None, refl, sym, ap, ◌∙◌, arith}
use Rattle.std.specs.Prelude.{◌%◌, nat_lt}
use Rattle.std.proofs.lemmas.Bool.{lt-ltb, le-ltb}
use Rattle.run_journal.specs.declared.acts.GroupKind.{GroupKind}
use Rattle.run_journal.specs.declared.acts.GroupKind.TheVariants as groups
use Rattle.run_journal.specs.Acts.{GroupKey}
use Rattle.run_journal.specs.GroupKinds.{same_group_kind, kind_of_id, is_of_kind}
use Rattle.domain_rules.specs.GroupKeys.{key_id}
use Rattle.domain_rules.specs.PacketNumbers.{current_of}

pub same_group_kind-refl : (kind : GroupKind) → same_group_kind kind kind ≡ true
same_group_kind-refl groups.Gtk = refl
same_group_kind-refl groups.Igtk = refl

pub same_group_kind-true : (kind other : GroupKind) → same_group_kind kind other ≡ true → kind ≡ other
same_group_kind-true groups.Gtk groups.Gtk is = refl
same_group_kind-true groups.Igtk groups.Igtk is = refl
same_group_kind-true groups.Gtk groups.Igtk is = absurd (cc is)
same_group_kind-true groups.Igtk groups.Gtk is = absurd (cc is)

-- a key id is of one kind
pub of_kind : (kind : GroupKind) (id : ℕ) → kind_of_id id ≡ Some kind → is_of_kind kind (kind_of_id id) ≡ true
of_kind kind id is = ap (is_of_kind kind) is ∙ same_group_kind-refl kind

-- each key that is drawn has a key id of its kind
pub kind_of_place : (kind : GroupKind) (place : ℕ) → kind_of_id (key_id kind place) ≡ Some kind
kind_of_place groups.Gtk place =
    let low : place % 2 < 3 = omega arith in
    ap (λ (b : Bool). cond b (Some groups.Gtk) (cond (nat_lt (place % 2) 5) (Some groups.Igtk) None)) (lt-ltb (place % 2) 3 low)
kind_of_place groups.Igtk place =
    let split : 4 + place % 2 ≡ suc (3 + place % 2) = omega arith in
    let high : 3 ≤ 3 + place % 2 = omega arith in
    let low : 3 + place % 2 < 5 = omega arith in
    ap kind_of_id split ∙ ap (λ (b : Bool). cond b (Some groups.Gtk) (cond (nat_lt (3 + place % 2) 5) (Some groups.Igtk) None)) (le-ltb (3 + place % 2) 3 high)
    ∙ ap (λ (b : Bool). cond b (Some groups.Igtk) None) (lt-ltb (3 + place % 2) 5 low)

-- no key id is one of both kinds
pub ids_apart : (place other : ℕ) → key_id groups.Gtk place ≢ key_id groups.Igtk other
ids_apart place other is = omega (arith, is)

-- so has the current one
pub kind_of_current : (kind : GroupKind) (keys : List (List ℕ)) (g : GroupKey) → current_of kind keys ≡ Some g → kind_of_id g.id ≡ Some kind
kind_of_current kind [] g is = cc is
kind_of_current kind (key ∷ older) g is =
    let same : record { key = key; id = key_id kind (length older) } ≡ g = cc is in
    ap (λ (x : GroupKey). kind_of_id x.id) (sym same) ∙ kind_of_place kind (length older)

-- What the place of a packet, or none, tells of the entries.
use Rattle.std.proofs.Common.{Ordering, Less, Equal, Greater, ◌≡◌, ◌↔◌, ℕ, Bool, true, false, cond, IsTrue, List, [], ◌∷◌, length, reverse, Option, Some, None, refl, sym, ap, ◌∙◌, inl, inr}
use Rattle.std.specs.Prelude.{is_some, not, slice_get}
use Rattle.std.specs.Ordering.{is_eq, nat_cmp}
use Rattle.std.specs.Cmp.{IsTotalOrder}
use Rattle.std.specs.Cmp.Lexicographic.{slice_cmp}
use Rattle.std.specs.BTreeMap.{is_at}
use Rattle.std.proofs.lemmas.Cmp.{nat_cmp_total, nat_list_cmp_total, on_total, then_total, tied_itself}
use Rattle.std.proofs.lemmas.Map.Lookups.{CmpEqualImpliesEq, exact_bytes, exact_pairs, exact_unsigned}
use Rattle.run_journal.specs.declared.acts.Act.{Act}
use Rattle.run_journal.specs.declared.acts.Entry.{Entry}
use Rattle.run_journal.specs.Premises.{In}
use Rattle.packet_history.specs.declared.packets.Packet.{Packet}
use Rattle.packet_history.specs.Packets.{packet, packet_cmp, is_packet, place_of}
use Rattle.packet_history.proofs.Lists.{get_older, get_newest}

-- ---- packets that compare alike are one

packets_total : IsTotalOrder packet_cmp
packets_total = then_total (on_total (λ (p : Packet). p.key) nat_list_cmp_total) (on_total (λ (p : Packet). p.number) nat_cmp_total)

exact_packets : CmpEqualImpliesEq packet_cmp
exact_packets a b h = ap (λ (p : List ℕ × ℕ). packet p.0 p.1) (exact_pairs (slice_cmp nat_cmp) nat_cmp exact_bytes exact_unsigned (a.key, a.number) (b.key, b.number) h)

at_itself : (q : Packet) → is_at (packet_cmp q) q ≡ true
at_itself q = ap is_eq (tied_itself packets_total q)

equal_of : (r : Ordering) → is_eq r ≡ true → r ≡ Equal
equal_of Less is = absurd (cc is)
equal_of Equal is = refl
equal_of Greater is = absurd (cc is)

at_same : (p q : Packet) → is_at (packet_cmp p) q ≡ true → p ≡ q
at_same p q is = exact_packets p q (equal_of (packet_cmp p q) is)

packet_is : (q : Packet) (o : Option Packet) → is_packet q o ≡ true → o ≡ Some q
packet_is q None is = absurd (cc is)
packet_is q (Some p) is = ap (λ (x : Packet). Some x) (at_same p q is)

is_of : (q : Packet) (o : Option Packet) → o ≡ Some q → is_packet q o ≡ true
is_of q o is = ap (is_packet q) is ∙ at_itself q

-- ---- the entries

by_test : (b : Bool) {C : Type 0} → (b ≡ true → C) → (b ≡ false → C) → C
by_test true here there = here refl
by_test false here there = there refl

hits : (f : Act → Option Packet) (q : Packet) (e : Entry) (own : List Entry) → is_packet q (f e.act) ≡ true → place_of f q (e ∷ own) ≡ Some (length own)
hits f q e own is = ap (λ (b : Bool). cond b (Some (length own)) (place_of f q own)) is

passes : (f : Act → Option Packet) (q : Packet) (e : Entry) (own : List Entry) → is_packet q (f e.act) ≡ false → place_of f q (e ∷ own) ≡ place_of f q own
passes f q e own is = ap (λ (b : Bool). cond b (Some (length own)) (place_of f q own)) is

pub none_there : (f : Act → Option Packet) (q : Packet) (own : List Entry) (m : Entry) → place_of f q own ≡ None → In m own → f m.act ≡ Some q → ⊥
none_there f q [] m none there is = there
none_there f q (e ∷ own) m none (inl here) is =
    let hit : is_packet q (f e.act) ≡ true = is_of q (f e.act) (ap (λ (x : Entry). f x.act) (sym here) ∙ is) in
    let both : Some (length own) ≡ None = sym (hits f q e own hit) ∙ none in
    cc both
none_there f q (e ∷ own) m none (inr there) is = by_test (is_packet q (f e.act))
    (λ hit. (let both : Some (length own) ≡ None = sym (hits f q e own hit) ∙ none in cc both))
    (λ miss. none_there f q own m (sym (passes f q e own miss) ∙ none) there is)

-- an entry at that place has the packet
pub record Stands (f : Act → Option Packet) (q : Packet) (own : List Entry) (place : ℕ) : Type 0 where
  pub entry : Entry
  pub there : In entry own
  pub is : f entry.act ≡ Some q
  pub at : slice_get (reverse own) place ≡ Some entry

pub some_there : (f : Act → Option Packet) (q : Packet) (own : List Entry) (place : ℕ) → place_of f q own ≡ Some place → Stands f q own place
some_there f q [] place is = absurd (cc is)
some_there f q (e ∷ own) place is = by_test (is_packet q (f e.act))
    (λ hit.
    (let both : Some (length own) ≡ Some place = sym (hits f q e own hit) ∙ is in
    let same : length own ≡ place = cc both in
    record { entry = e; there = inl refl; is = packet_is q (f e.act) hit; at = ap (slice_get (reverse (e ∷ own))) (sym same) ∙ get_newest own e }))
    (λ miss.
    (let s : Stands f q own place = some_there f q own place (sym (passes f q e own miss) ∙ is) in
    record { entry = s.entry; there = inr s.there; is = s.is; at = get_older own e place s.entry s.at }))

-- no place, so none of them has the packet
pub none_has : (f : Act → Option Packet) (q : Packet) (own : List Entry) (b : Bool) → b ≡ is_some (place_of f q own) → IsTrue (not b) ↔ ((m : Entry) → In m own → f m.act ≡ Some q → ⊥)
none_has f q own b is = by (place_of f q own) refl b is
  where
    by : (o : Option ℕ) → place_of f q own ≡ o → (b : Bool) → b ≡ is_some o → IsTrue (not b) ↔ ((m : Entry) → In m own → f m.act ≡ Some q → ⊥)
    by None at false same = (λ t m there is. none_there f q own m at there is, λ none. refl)
    by None at true same = absurd (cc same)
    by (Some place) at true same = (λ t. absurd (cc t), λ none. (let s : Stands f q own place = some_there f q own place at in absurd (none s.entry s.there s.is)))
    by (Some place) at false same = absurd (cc same)

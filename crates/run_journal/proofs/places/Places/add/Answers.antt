use Rattle.std.proofs.Common.{◌≡◌, ℕ, List, length, subst, arith, rules}
use Rattle.std.specs.List.{insert}
use Rattle.std.specs.List.Sorted.{IsBinarySearchResult}
use Rattle.std.specs.Ordering.{nat_cmp}
use Rattle.std.specs.declared.result.Result.TheVariants.{Ok, Err}
use Rattle.run_journal.specs.Places.{number_of}
use Rattle.run_journal.proofs.ByAddress.{listed_before, listed_first}
use Rattle.run_journal.proofs.places.Places.add.Goals as goal

pub insert-places-requires : goal.insert-places-requires
insert-places-requires c = omega (arith, c.in-Err.ensures.bound, c.deref.ensures.len, c.requires.even)

pub returns-in-Err : goal.returns-in-Err
returns-in-Err c stas x place =
    let numbers : List ℕ = c.args.self.now.numbers.items in
    let number : ℕ = number_of c.args.sta.now.address.0 in
    let found : IsBinarySearchResult (λ y. nat_cmp y number) numbers (Err c.in-Err.at) = subst (λ (w : List ℕ). IsBinarySearchResult (λ y. nat_cmp y number) w (Err c.in-Err.at)) c.deref.ensures.value
    (subst (λ (n : ℕ). IsBinarySearchResult (λ y. nat_cmp y n) c.deref.result.now (Err c.in-Err.at)) c.number_of-number.ensures.number c.in-Err.ensures.position) in
    let named : c.insert-numbers.new.self.items ≡ insert numbers c.in-Err.at number = search rules in
    let placed : c.insert-places.new.self.items ≡ insert c.args.self.now.places.items c.in-Err.at (length stas) = search rules in
    rw (named, placed) (listed_first stas numbers c.args.self.now.places.items x c.args.sta.now c.number_of-number.ensures.whole c.in-Err.at found)

pub returns-in_default : goal.returns-in_default
returns-in_default c stas x place =
    let numbers : List ℕ = c.args.self.now.numbers.items in
    let number : ℕ = number_of c.args.sta.now.address.0 in
    let found : IsBinarySearchResult (λ y. nat_cmp y number) numbers (Ok c.in_default.field-0) = subst (λ (w : List ℕ). IsBinarySearchResult (λ y. nat_cmp y number) w (Ok c.in_default.field-0)) c.deref.ensures.value
    (subst (λ (n : ℕ). IsBinarySearchResult (λ y. nat_cmp y n) c.deref.result.now (Ok c.in_default.field-0)) c.number_of-number.ensures.number c.in_default.ensures.position) in
    listed_before stas numbers c.args.self.now.places.items x c.args.sta.now c.number_of-number.ensures.whole c.in_default.field-0 found

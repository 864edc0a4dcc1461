use Rattle.std.proofs.Common.{◌≡◌, ℕ, List, get_or, Some, sym, subst, ◌∙◌, rules}
use Rattle.std.specs.List.Sorted.{IsBinarySearchResult}
use Rattle.std.specs.Ordering.{nat_cmp}
use Rattle.std.specs.declared.result.Result.TheVariants.{Ok, Err}
use Rattle.run_journal.specs.Places.{number_of}
use Rattle.run_journal.proofs.ByAddress.{by_number, there, nowhere}
use Rattle.run_journal.proofs.places.Places.place_of.Goals as goal

pub returns-in-Ok : goal.returns-in-Ok
returns-in-Ok c stas x =
    let numbers : List ℕ = c.args.self.now.numbers.items in
    let places : List ℕ = c.args.self.now.places.items in
    let number : ℕ = number_of c.args.address.0 in
    let found : IsBinarySearchResult (λ y. nat_cmp y number) numbers (Ok c.in-Ok.at) = subst (λ (w : List ℕ). IsBinarySearchResult (λ y. nat_cmp y number) w (Ok c.in-Ok.at)) c.deref.ensures.value
    (subst (λ (n : ℕ). IsBinarySearchResult (λ y. nat_cmp y n) c.deref.result.now (Ok c.in-Ok.at)) c.number_of.ensures.number c.in-Ok.ensures.position) in
    let read : c.copied.result ≡ Some (get_or places c.in-Ok.at 0) = search rules in
    read ∙ sym (there stas numbers places x number c.in-Ok.at found) ∙ by_number c.args.address.0 c.number_of.ensures.whole stas x.whole

pub returns-in-Err : goal.returns-in-Err
returns-in-Err c stas x =
    let numbers : List ℕ = c.args.self.now.numbers.items in
    let places : List ℕ = c.args.self.now.places.items in
    let number : ℕ = number_of c.args.address.0 in
    let found : IsBinarySearchResult (λ y. nat_cmp y number) numbers (Err c.in-Err.field-0) = subst (λ (w : List ℕ). IsBinarySearchResult (λ y. nat_cmp y number) w (Err c.in-Err.field-0)) c.deref.ensures.value
    (subst (λ (n : ℕ). IsBinarySearchResult (λ y. nat_cmp y n) c.deref.result.now (Err c.in-Err.field-0)) c.number_of.ensures.number c.in-Err.ensures.position) in
    sym (nowhere stas numbers places x number c.in-Err.field-0 found) ∙ by_number c.args.address.0 c.number_of.ensures.whole stas x.whole

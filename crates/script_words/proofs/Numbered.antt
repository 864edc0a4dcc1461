-- One decimal digit more.
use Rattle.std.proofs.Common.{◌≡◌, ℕ, ◌+◌, ◌-◌, ◌*◌, ◌^◌, ◌<◌, ◌≤◌, true, List, length, get_or, take, arith, ◌∙◌, add-one}
use Rattle.std.specs.Char.{is_ascii_digit, digit_value}
use Rattle.std.specs.List.{list_all}
use Rattle.std.specs.Str.Parse.{digits_value}
use Rattle.std.proofs.lemmas.Bool.{and_from}
use Rattle.std.proofs.lemmas.Bool.Decides.{nat_tests}
use Rattle.std.proofs.lemmas.Int.Digits.{digits_value_more}
use Rattle.std.proofs.lemmas.List.Folds.{list_all_more}
use Rattle.std.proofs.Math.Nat.{pow-suc}

pub digit_value-decimal : (c : ℕ) → 48 ≤ c → c ≤ 57 → digit_value c ≡ c - 48
digit_value-decimal c low high = grind (arith, nat_tests)

pub record OneMore (text : List ℕ) (i value : ℕ) : Type 0 where
  pub digits : list_all is_ascii_digit (take i text) ≡ true
  pub value_ : value ≡ digits_value 10 (take i text)
  pub small : value < 10 ^ i

pub OneMore-step : (text : List ℕ) (i value d : ℕ) → i < length text → OneMore text i value → is_ascii_digit (get_or text i 0) ≡ true → 48 ≤ get_or text i 0 → get_or text i 0 ≤ 57 → d ≡ get_or text i 0 - 48
    → OneMore text (i + 1) (value * 10 + d)
OneMore-step text i value d inside h digit low high is =
    let more = digits_value_more 10 text i inside in
    let v = digit_value-decimal (get_or text i 0) low high in
    let p : 10 ^ (i + 1) ≡ 10 ^ i * 10 = rw add-one (pow-suc 10 i) in
    record {
      digits = list_all_more is_ascii_digit text i 0 inside ∙ and_from _ _ h.digits digit;
      value_ = cc;
      small = omega (arith, h.small);
    }

-- A frame of reassociation cut into what its MIC covers.
use Rattle.std.proofs.Common.{◌≡◌, ◌∙◌, ◌+◌, ◌-◌, ◌≤◌, ◌++◌, ℕ, List, length, take, drop, sym, ap, arith, length-drop, length-append, take-append-drop, drop-drop, append_assoc}
use Rattle.std.specs.Prelude.{min}
use Rattle.std.proofs.lemmas.List.{take_min, drop_min}
use Rattle.mac_prf.specs.FteMic.{fte_mic_input}
use Rattle.ft_exchange.specs.Sent.{covered_in}
use Rattle.transition_acts.specs.Sizes.{fte_size}

-- where there are fewer octets, all of them are in front
pub front_within : (at n : ℕ) (octets front : List ℕ) → n ≡ min at (length octets) → front ≡ take n octets → front ≡ take at octets
front_within at n octets front m is = is ∙ ap (λ (k : ℕ). take k octets) m ∙ take_min at octets

pub back_within : (at n : ℕ) (octets back : List ℕ) → n ≡ min at (length octets) → back ≡ drop n octets → back ≡ drop at octets
back_within at n octets back m is = is ∙ ap (λ (k : ℕ). drop k octets) m ∙ drop_min at octets

further : (n at : ℕ) (octets : List ℕ) → drop n (drop at octets) ≡ drop (at + n) octets
further n at octets = drop-drop n at octets

-- ---- RSNE, MDE and FTE one behind the other

pub cut_covers : (sta ap' : List ℕ) (number at size : ℕ) (octets elements rsne behind mde fte : List ℕ) → elements ≡ drop at octets → rsne ≡ take size elements → behind ≡ drop size elements → mde ≡ take 5 behind → fte ≡ drop 5 behind
    → fte_mic_input sta ap' number rsne mde fte ≡ covered_in sta ap' number at size octets
cut_covers sta ap' number at size octets elements rsne behind mde fte e r b m f =
    let rsne_is : rsne ≡ take size (drop at octets) = r ∙ ap (λ (x : List ℕ). take size x) e in
    let behind_is : behind ≡ drop (at + size) octets = b ∙ ap (λ (x : List ℕ). drop size x) e ∙ further size at octets in
    let mde_is : mde ≡ take 5 (drop (at + size) octets) = m ∙ ap (λ (x : List ℕ). take 5 x) behind_is in
    let last : at + size + 5 ≡ at + (size + 5) = omega arith in
    let fte_is : fte ≡ drop (at + (size + 5)) octets = f ∙ ap (λ (x : List ℕ). drop 5 x) behind_is ∙ further 5 (at + size) octets ∙ ap (λ (k : ℕ). drop k octets) last in
    ap (λ (x : List ℕ). fte_mic_input sta ap' number x mde fte) rsne_is ∙ ap (λ (x : List ℕ). fte_mic_input sta ap' number (take size (drop at octets)) x fte) mde_is
    ∙ ap (λ (x : List ℕ). fte_mic_input sta ap' number (take size (drop at octets)) (take 5 (drop (at + size) octets)) x) fte_is

-- two parts are as long as what they were cut from
parted : (n : ℕ) (octets front back : List ℕ) → front ≡ take n octets → back ≡ drop n octets → length front + length back ≡ length octets
parted n octets front back f b =
    ap (λ (x : List ℕ). length x + length back) f ∙ ap (λ (x : List ℕ). length (take n octets) + length x) b ∙ sym (length-append (take n octets) (drop n octets)) ∙ ap length (take-append-drop n octets)

cut_len : (size : ℕ) (elements rsne behind mde fte : List ℕ) → rsne ≡ take size elements → behind ≡ drop size elements → mde ≡ take 5 behind → fte ≡ drop 5 behind → length rsne + length mde + length fte ≡ length elements
cut_len size elements rsne behind mde fte r b m f =
    let whole = parted size elements rsne behind r b in
    let rest = parted 5 behind mde fte m f in
    omega (arith, whole, rest)

-- and an FTE without a whole MIC field counts at most 16 octets more
more_few : (n : ℕ) → min 4 n + 16 + (n - 20) ≤ n + 16
more_few n = omega arith

sum_few : (at octets elements rsne mde fte size : ℕ) → rsne + mde + fte ≡ elements → elements ≡ octets - at → size ≤ fte + 16 → 30 ≤ at → octets ≤ 512 → 14 + rsne + mde + size ≤ 512
sum_few at octets elements rsne mde fte size len behind more low few = omega (arith, len, behind, more, low, few)

pub cut_few : (at size : ℕ) (octets elements rsne behind mde fte : List ℕ) → elements ≡ drop at octets → rsne ≡ take size elements → behind ≡ drop size elements → mde ≡ take 5 behind → fte ≡ drop 5 behind → 30 ≤ at → length octets ≤ 512
    → 14 + length rsne + length mde + fte_size fte ≤ 512
cut_few at size octets elements rsne behind mde fte e r b m f low few =
    sum_few at (length octets) (length elements) (length rsne) (length mde) (length fte) (fte_size fte) (cut_len size elements rsne behind mde fte r b m f) (ap length e ∙ length-drop at octets) (more_few (length fte)) low few

-- ---- octets that are put one behind the other

pub three_parts : (old a b c x y z : List ℕ) → x ≡ old ++ a → y ≡ x ++ b → z ≡ y ++ c → z ≡ old ++ (a ++ (b ++ c))
three_parts old a b c x y z p q r = rw (r, q, p) (simp append_assoc)

pub seven_parts : (old a b c d e f g t u v w x y z : List ℕ) → t ≡ old ++ a → u ≡ t ++ b → v ≡ u ++ c → w ≡ v ++ d → x ≡ w ++ e → y ≡ x ++ f → z ≡ y ++ g → z ≡ old ++ (a ++ (b ++ (c ++ (d ++ (e ++ (f ++ g))))))
seven_parts old a b c d e f g t u v w x y z h i j k l m n = rw (n, m, l, k, j, i, h) (simp append_assoc)

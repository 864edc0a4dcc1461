-- Fields of an RSNE, read at the front of octets.
use Rattle.std.proofs.Common.{◌≡◌, ℕ, ◌+◌, ◌*◌, ◌<◌, ◌≤◌, List, ◌++◌, length, take, drop, Some, None, sym, ap, ◌∙◌, arith}
use Rattle.std.specs.Int.{w16, from_le_bytes}
use Rattle.std.proofs.lemmas.List.{take-append-le, take-append-drop, take-take, length-append, length-take-le}
use Rattle.domain_base.specs.Places.{little_endian_at}
use Rattle.rsn_elements.specs.Rsne.{IsSuite, IsNumber, IsList, Field}
use Rattle.rsn_elements.specs.RsneSteps.{IsBroken}

-- a cut at a place
cut_at : (n : ℕ) (octets rest : List ℕ) → rest ≡ drop n octets → octets ≡ take n octets ++ rest
cut_at n octets rest behind = sym (take-append-drop n octets) ∙ ap (λ (w : List ℕ). take n octets ++ w) (sym behind)

pub suite_read : (octets rest suite : List ℕ) → 4 ≤ length octets → rest ≡ drop 4 octets → suite ≡ take 4 octets → Field IsSuite octets (Some suite) rest
suite_read octets rest suite long behind is = (take 4 octets, cut_at 4 octets rest behind, (length-take-le 4 octets long, is))

pub suite_short : (octets : List ℕ) → 1 ≤ length octets → length octets < 4 → IsBroken IsSuite octets
suite_short octets some few None rest h = omega (arith, some, ap length h.0)
suite_short octets some few (Some a) rest h =
    let spelled : IsSuite h.0 a = h.2 in
    omega (arith, few, spelled.0, ap length h.1, length-append h.0 rest)

pub number_read : (octets rest : List ℕ) (number : ℕ) → 2 ≤ length octets → rest ≡ drop 2 octets → number ≡ little_endian_at w16 0 octets → Field IsNumber octets (Some number) rest
number_read octets rest number long behind is =
    (take 2 octets, cut_at 2 octets rest behind, (length-take-le 2 octets long, is ∙ sym (ap (λ (w : List ℕ). from_le_bytes w16 w) (take-take 2 2 octets (omega arith)))))

-- the count at the front of a list stands at the front of the octets
count_at : (front octets rest : List ℕ) → octets ≡ front ++ rest → 2 ≤ length front → little_endian_at w16 0 octets ≡ little_endian_at w16 0 front
count_at front octets rest cut long =
    ap (λ (w : List ℕ). little_endian_at w16 0 w) cut ∙ ap (λ (w : List ℕ). from_le_bytes w16 w) (take-append-le 2 front rest long)

pub list_read : (n size : ℕ) (octets front rest members : List ℕ) → size ≡ 2 + n * little_endian_at w16 0 octets → size ≤ length octets → front ≡ take size octets → rest ≡ drop size octets → members ≡ drop 2 front
    → Field (IsList n) octets (Some members) rest
list_read n size octets front rest members is high front_is behind members_is =
    let long : length front ≡ size = ap length front_is ∙ length-take-le size octets high in
    let cut : octets ≡ front ++ rest = cut_at size octets rest behind ∙ ap (λ (w : List ℕ). w ++ rest) (sym front_is) in
    let low : 2 ≤ length front = omega (arith, is, long) in
    (front, cut, (low, long ∙ is ∙ ap (λ (count : ℕ). 2 + n * count) (count_at front octets rest cut low), members_is))

pub list_short : (n size : ℕ) (octets : List ℕ) → 1 ≤ length octets → size ≡ 2 + n * little_endian_at w16 0 octets → length octets < size → IsBroken (IsList n) octets
list_short n size octets some is few None rest h = omega (arith, some, ap length h.0)
list_short n size octets some is few (Some a) rest h =
    let spelled : IsList n h.0 a = h.2 in
    let same = is ∙ ap (λ (count : ℕ). 2 + n * count) (count_at h.0 octets rest h.1 spelled.0) in
    omega (arith, few, same, spelled.1, ap length h.1, length-append h.0 rest)

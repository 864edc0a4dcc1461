-- The field GF(2^8). An octet is a polynomial over GF(2): its bit i is the coefficient of x^i. The sum of two octets is
-- `bit_xor` (FIPS 197, 4).
use Rattle.std.specs.Prelude.{ℕ, zero, suc, ◌+◌, ◌*◌, ◌/◌, ◌%◌, ◌^◌, ◌==◌, nat_lt, if◌then◌else◌, bit_xor, find, unwrap_or, sum_by}
use Rattle.std.specs.List.{range_with_len}
use Rattle.std.specs.Int.{bit_at}

-- an octet times x, modulo x^8 + x^4 + x^3 + x + 1 (FIPS 197, 4.2)
abbrev pub times_x : ℕ → ℕ
times_x b = if nat_lt b 128 then 2 * b else bit_xor (2 * b) 0x11b

-- the sum of b * x^i over the bits i of a that are 1, of the n lowest (FIPS 197, 4.2)
unfoldable pub product_of_bits : ℕ → ℕ → ℕ → ℕ
product_of_bits zero a b = 0
product_of_bits (suc n) a b =
    bit_xor (if a % 2 == 0 then 0 else b) (product_of_bits n (a / 2) (times_x b))

-- the product of two octets (FIPS 197, 4.2)
unfoldable pub product : ℕ → ℕ → ℕ
product a b = product_of_bits 8 a b

-- the octet whose product with b is 1, and 0 for 0 (FIPS 197, 4.4, 5.1.1)
unfoldable pub inverse : ℕ → ℕ
inverse b = unwrap_or (find (λ c. product b c == 1) (range_with_len 0 256)) 0

-- bit i of the affine map of b, whose constant is 0x63 (FIPS 197, 5.1.1)
abbrev pub affine_bit : ℕ → ℕ → ℕ
affine_bit b i =
    (bit_at b i + bit_at b ((i + 4) % 8) + bit_at b ((i + 5) % 8) + bit_at b ((i + 6) % 8)
    + bit_at b ((i + 7) % 8) + bit_at 0x63 i) % 2

-- the affine map: the octet of those bits (FIPS 197, 5.1.1)
unfoldable pub affine : ℕ → ℕ
affine b = sum_by (λ i. affine_bit b i * 2 ^ i) (range_with_len 0 8)

-- the substitution of an octet: its inverse, then the affine map (FIPS 197, 5.1.1)
unfoldable pub sub_octet : ℕ → ℕ
sub_octet b = affine (inverse b)

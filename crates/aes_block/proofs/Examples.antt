-- FIPS 197, C.1 of the text of 2001: the vector, by computation from the definitions.
use Rattle.std.proofs.Common.{◌≡◌, [], ◌∷◌, refl}
use Rattle.std.specs.List.{range_with_len}
use Rattle.aes_block.specs.Octets.{exclusive_or}
use Rattle.aes_block.specs.Field.{product_of_bits, product, inverse, affine, sub_octet}
use Rattle.aes_block.specs.State.{state_of, sub_octets, shift_rows, mix_columns}
use Rattle.aes_block.specs.Cipher.{power_of_x, next_round_key, round_key, after_rounds, cipher}

pub cipher_example : cipher (range_with_len 0 16) (0x00 ∷ 0x11 ∷ 0x22 ∷ 0x33 ∷ 0x44 ∷ 0x55 ∷ 0x66 ∷ 0x77 ∷ 0x88 ∷ 0x99 ∷ 0xaa ∷ 0xbb ∷ 0xcc ∷ 0xdd ∷ 0xee ∷ 0xff ∷ [])
    ≡ 0x69 ∷ 0xc4 ∷ 0xe0 ∷ 0xd8 ∷ 0x6a ∷ 0x7b ∷ 0x04 ∷ 0x30 ∷ 0xd8 ∷ 0xcd ∷ 0xb7 ∷ 0x80 ∷ 0x70 ∷ 0xb4 ∷ 0xc5 ∷ 0x5a ∷ []
unfolding product_of_bits product inverse affine sub_octet exclusive_or state_of sub_octets shift_rows mix_columns power_of_x next_round_key round_key after_rounds cipher
cipher_example = refl

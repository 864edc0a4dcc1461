-- Numbers and octets read from the words that write them.
use Rattle.std.proofs.Common.{◌≡◌, ℕ, ◌/◌, ◌%◌, ◌^◌, ◌<◌, true, false, List, [], ◌∷◌, length, Ok, Err, refl, sym, ap, subst, ◌∙◌, arith, inl, inr, ◌⊎◌, eq-eqb, ne_eqb}
use Rattle.std.specs.Prelude.{codes, ◌==◌}
use Rattle.std.specs.Fmt.{decimal}
use Rattle.std.specs.Str.{IsUtf8}
use Rattle.std.specs.Str.Parse.{ParsesUnsigned}
use Rattle.std.proofs.lemmas.Fmt.{parse-decimal, IsAscii-decimal}
use Rattle.std.proofs.lemmas.Str.{IsUtf8-from_ascii}
use Rattle.hex.specs.Hex.{encode_lower, decode_of, decode_sized, lower_digits}
use Rattle.hex.specs.declared.error.FromHexError.{FromHexError}
use Rattle.hex.proofs.HexLemmas.{decode_of-encode_lower, decode_pairs-encode_with, length-encode_with, IsDigits-lower_digits}
use Rattle.domain_base.specs.Octets.{AreOctets}
use Rattle.domain_base.proofs.OctetLemmas.{get_or_below}
use Rattle.run_journal.specs.Report.{hex, payload_text}
use Rattle.journal_report.proofs.Digits.{encode-hex}
use Rattle.entry_lines.specs.Entries.{IsArray}

-- ---- numbers

pub is_text : (word : List ℕ) (n : ℕ) → n < 2 ^ 64 → word ≡ decimal n → IsUtf8 word
is_text word n few is = subst IsUtf8 (sym is) (IsUtf8-from_ascii (decimal n) (IsAscii-decimal n few))

pub parsed_same : (E : Type 0) (word text : List ℕ) (n m : ℕ) → n < 2 ^ 64 → word ≡ decimal n → text ≡ word → ParsesUnsigned {E = E} 64 10 text (Ok m) → m ≡ n
parsed_same E word text n m few is same parses = (let both = parse-decimal {E = E} 64 n text (Ok m) few few (same ∙ is) parses in cc both)

pub parsed_not : (E : Type 0) (word text : List ℕ) (n : ℕ) (e : E) → n < 2 ^ 64 → word ≡ decimal n → text ≡ word → ParsesUnsigned {E = E} 64 10 text (Err e) → ⊥
parsed_not E word text n e few is same parses = (let both = parse-decimal {E = E} 64 n text (Err e) few few (same ∙ is) parses in cc both)

-- ---- octets

digits_are : (octets : List ℕ) → AreOctets octets → encode_lower octets ≡ hex octets
digits_are octets are = encode-hex octets (λ k. get_or_below octets k are)

decoded_hex : (word octets : List ℕ) → AreOctets octets → word ≡ hex octets → decode_of word ≡ Ok octets
decoded_hex word octets are is = ap decode_of (is ∙ sym (digits_are octets are)) ∙ decode_of-encode_lower octets (λ k. get_or_below octets k are)

pub decoded_same : (word octets found : List ℕ) → AreOctets octets → word ≡ hex octets → decode_of word ≡ Ok found → found ≡ octets
decoded_same word octets found are is so = (let both = sym so ∙ decoded_hex word octets are is in cc both)

decoded_not : (word octets : List ℕ) (e : FromHexError) → AreOctets octets → word ≡ hex octets → decode_of word ≡ Err e → ⊥
decoded_not word octets e are is so = (let both = sym so ∙ decoded_hex word octets are is in cc both)

pub decoded_fails : (word octets : List ℕ) (e o : FromHexError) → AreOctets octets → word ≡ hex octets → (e ≡ o → ⊥) → (e ≡ o) ⊎ (decode_of word ≡ Err e) → ⊥
decoded_fails word octets e o are is other (inl memory) = other memory
decoded_fails word octets e o are is other (inr fails) = decoded_not word octets e are is fails

sized_digits : (n : ℕ) (octets text : List ℕ) → IsArray n octets → text ≡ encode_lower octets → decode_sized text n ≡ Ok octets
sized_digits n octets text is same =
    let long = length-encode_with lower_digits octets in
    let even : (length (encode_lower octets) % 2 == 1) ≡ false = ne_eqb _ 1 (λ odd. omega (arith, long, odd)) in
    let half : (length (encode_lower octets) / 2 == n) ≡ true = eq-eqb _ n (omega (arith, long, is.0)) in
    rw (same, even, half) (decode_pairs-encode_with lower_digits IsDigits-lower_digits 0 octets (λ k. get_or_below octets k is.1))

pub sized_hex : (n : ℕ) (word octets : List ℕ) → IsArray n octets → word ≡ hex octets → decode_sized word n ≡ Ok octets
sized_hex n word octets is same = sized_digits n octets word is (same ∙ sym (digits_are octets is.1))

-- the word for no octets
pub none_written : (word octets : List ℕ) → word ≡ codes "-" → word ≡ payload_text octets → [] ≡ octets
none_written word [] is same = refl
none_written word (x ∷ xs) is same = (let both = sym is ∙ same in absurd (cc both))

pub some_written : (word octets : List ℕ) → (word ≡ codes "-" → ⊥) → word ≡ payload_text octets → word ≡ hex octets
some_written word [] not same = absurd (not same)
some_written word (x ∷ xs) not same = same

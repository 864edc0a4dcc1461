-- The cipher: it gives a block, no two blocks give one, and each block is given.
use Rattle.std.proofs.Common.{◌≡◌, ℕ, zero, suc, ◌<◌, ◌+◌, List, [], length, get_or, refl, sym, ap, subst, ◌∙◌, add-one, arith}
use Rattle.domain_base.specs.Octets.{AreOctets}
use Rattle.aes_block.specs.Octets.{IsBlock, exclusive_or}
use Rattle.aes_block.specs.State.{sub_octets, shift_rows, mix_columns}
use Rattle.aes_block.specs.Cipher.{round_key, after_rounds, cipher, Decrypts}
use Rattle.aes_block.specs.Words.{columns, octets_of, unmix_columns, HasRoundKeys, IsExpanded}
use Rattle.aes_block.proofs.WordLemmas.{octets_of-columns}
use Rattle.aes_block.proofs.RoundLemmas.{IsBlock-turned, IsBlock-mixed, IsBlock-unmixed}
use Rattle.aes_block.proofs.OctetLemmas.{length-exclusive_or, exclusive_or_twice, exclusive_or-cancel, AreOctets-exclusive_or}
use Rattle.aes_block.proofs.StateLemmas.{length-sub_octets, length-shift_rows, length-mix_columns, length-unshifted_rows, AreOctets-shift_rows, AreOctets-mix_columns, AreOctets-unshifted_rows, AreOctets-spread_columns, shift_rows-injective, mix_columns-injective, unshifted_rows, spread_columns, shift_rows-unshifted_rows, mix_columns-spread_columns, unmix_columns-exclusive_or, unmix_columns-mix_columns}
use Rattle.aes_block.proofs.Tables.{AreOctets-sub_octets, sub_octets-injective, unsub_octets, sub_octets-unsub_octets, length-unsub_octets, AreOctets-unsub_octets}
use Rattle.aes_block.proofs.KeyLemmas.{AreOctets-round_key, IsBlock-round_key, round_key-zero}

-- ---- the cipher gives a block

pub length-cipher : (key block : List ℕ) → length (cipher key block) ≡ 16
unfolding cipher
length-cipher key block = length-exclusive_or _ (round_key key 10) ∙ length-shift_rows _

pub length-after_rounds : (key block : List ℕ) (n : ℕ) → length block ≡ 16 → length (after_rounds key block n) ≡ 16
unfolding after_rounds
length-after_rounds key block zero len = length-exclusive_or block (round_key key 0) ∙ len
length-after_rounds key block (suc n) len = length-exclusive_or _ (round_key key (suc n)) ∙ length-mix_columns _

pub AreOctets-after_rounds : (key block : List ℕ) (n : ℕ) → AreOctets key → AreOctets block → AreOctets (after_rounds key block n)
unfolding after_rounds
AreOctets-after_rounds key block zero of_key of_block =
    AreOctets-exclusive_or block (round_key key 0) of_block (AreOctets-round_key key 0 of_key)
AreOctets-after_rounds key block (suc n) of_key of_block =
    let s : List ℕ = after_rounds key block n in
    let before : AreOctets s = AreOctets-after_rounds key block n of_key of_block in
    AreOctets-exclusive_or (mix_columns (shift_rows (sub_octets s))) (round_key key (suc n))
    (AreOctets-mix_columns (shift_rows (sub_octets s)) (AreOctets-shift_rows (sub_octets s) (AreOctets-sub_octets s before)))
    (AreOctets-round_key key (suc n) of_key)

pub AreOctets-cipher : (key block : List ℕ) → AreOctets key → AreOctets block → AreOctets (cipher key block)
unfolding cipher
AreOctets-cipher key block of_key of_block =
    let s : List ℕ = after_rounds key block 9 in
    AreOctets-exclusive_or (shift_rows (sub_octets s)) (round_key key 10)
    (AreOctets-shift_rows (sub_octets s) (AreOctets-sub_octets s (AreOctets-after_rounds key block 9 of_key of_block)))
    (AreOctets-round_key key 10 of_key)

pub IsBlock-cipher : (key block : List ℕ) → AreOctets key → AreOctets block → IsBlock (cipher key block)
IsBlock-cipher key block of_key of_block =
    record { sixteen = length-cipher key block; are_octets = AreOctets-cipher key block of_key of_block }

-- ---- no two blocks give one

-- the steps that each round begins with
turned-injective : (s t : List ℕ) → length s ≡ 16 → length t ≡ 16 → AreOctets s → AreOctets t
    → shift_rows (sub_octets s) ≡ shift_rows (sub_octets t) → s ≡ t
turned-injective s t len len' are are' e =
    sub_octets-injective s t are are'
    (shift_rows-injective (sub_octets s) (sub_octets t) (length-sub_octets s ∙ len) (length-sub_octets t ∙ len') e)

after_rounds-injective : (key p q : List ℕ) (n : ℕ) → AreOctets key → IsBlock p → IsBlock q
    → after_rounds key p n ≡ after_rounds key q n → p ≡ q
unfolding after_rounds
after_rounds-injective key p q zero of_key bp bq e = exclusive_or-cancel p q (round_key key 0) e
after_rounds-injective key p q (suc n) of_key bp bq e =
    let s : List ℕ = after_rounds key p n in
    let t : List ℕ = after_rounds key q n in
    let are : AreOctets s = AreOctets-after_rounds key p n of_key bp.are_octets in
    let are' : AreOctets t = AreOctets-after_rounds key q n of_key bq.are_octets in
    let len = length-after_rounds key p n bp.sixteen in
    let len' = length-after_rounds key q n bq.sixteen in
    let mixed = exclusive_or-cancel (mix_columns (shift_rows (sub_octets s))) (mix_columns (shift_rows (sub_octets t))) (round_key key (suc n)) e in
    let turned = mix_columns-injective (shift_rows (sub_octets s)) (shift_rows (sub_octets t)) (length-shift_rows _) (length-shift_rows _)
    (AreOctets-shift_rows _ (AreOctets-sub_octets s are)) (AreOctets-shift_rows _ (AreOctets-sub_octets t are')) mixed in
    after_rounds-injective key p q n of_key bp bq (turned-injective s t len len' are are' turned)

pub cipher-injective : (key p q : List ℕ) → AreOctets key → IsBlock p → IsBlock q → cipher key p ≡ cipher key q → p ≡ q
unfolding cipher
cipher-injective key p q of_key bp bq e =
    let s : List ℕ = after_rounds key p 9 in
    let t : List ℕ = after_rounds key q 9 in
    after_rounds-injective key p q 9 of_key bp bq (turned-injective s t
    (length-after_rounds key p 9 bp.sixteen) (length-after_rounds key q 9 bq.sixteen)
    (AreOctets-after_rounds key p 9 of_key bp.are_octets) (AreOctets-after_rounds key q 9 of_key bq.are_octets)
    (exclusive_or-cancel (shift_rows (sub_octets s)) (shift_rows (sub_octets t)) (round_key key 10) e))

-- ---- each block is given

-- the state that the first two steps of a round take to a state
unturned : List ℕ → List ℕ
unturned s = unsub_octets (unshifted_rows s)

turned-unturned : (s : List ℕ) → IsBlock s → shift_rows (sub_octets (unturned s)) ≡ s
unfolding unturned
turned-unturned s b =
    ap shift_rows (sub_octets-unsub_octets (unshifted_rows s) (AreOctets-unshifted_rows s b.are_octets))
    ∙ shift_rows-unshifted_rows s b.sixteen

IsBlock-unturned : (s : List ℕ) → IsBlock s → IsBlock (unturned s)
unfolding unturned
IsBlock-unturned s b = record {
  sixteen = length-unsub_octets (unshifted_rows s) ∙ length-unshifted_rows s;
  are_octets = AreOctets-unsub_octets (unshifted_rows s) (AreOctets-unshifted_rows s b.are_octets);
}

IsBlock-added : (key s : List ℕ) (n : ℕ) → AreOctets key → IsBlock s → IsBlock (exclusive_or s (round_key key n))
IsBlock-added key s n of_key b = record {
  sixteen = length-exclusive_or s (round_key key n) ∙ b.sixteen;
  are_octets = AreOctets-exclusive_or s (round_key key n) b.are_octets (AreOctets-round_key key n of_key);
}

pub IsBlock-sum : (s t : List ℕ) → IsBlock s → IsBlock t → IsBlock (exclusive_or s t)
IsBlock-sum s t b b' = record {
  sixteen = length-exclusive_or s t ∙ b.sixteen;
  are_octets = AreOctets-exclusive_or s t b.are_octets b'.are_octets;
}

IsBlock-spread : (s : List ℕ) → IsBlock s → IsBlock (mix_columns (spread_columns s))
IsBlock-spread s b = record {
  sixteen = length-mix_columns (spread_columns s);
  are_octets = AreOctets-mix_columns (spread_columns s) (AreOctets-spread_columns s b.are_octets);
}

-- each state stands after n rounds of some block
before_rounds : (key s : List ℕ) (n : ℕ) → AreOctets key → IsBlock s → (p : List ℕ) × IsBlock p × (after_rounds key p n ≡ s)
unfolding after_rounds
before_rounds key s zero of_key b =
    (exclusive_or s (round_key key 0), IsBlock-added key s 0 of_key b, exclusive_or_twice s (round_key key 0))
before_rounds key s (suc n) of_key b =
    let added : List ℕ = exclusive_or s (round_key key (suc n)) in
    let is_added : IsBlock added = IsBlock-added key s (suc n) of_key b in
    let unmixed : List ℕ = mix_columns (spread_columns added) in
    let is_unmixed : IsBlock unmixed = IsBlock-spread added is_added in
    let found = before_rounds key (unturned unmixed) n of_key (IsBlock-unturned unmixed is_unmixed) in (
      found.0,
      found.1,
      ap (λ (w : List ℕ). exclusive_or (mix_columns (shift_rows (sub_octets w))) (round_key key (suc n))) found.2
          ∙ ap (λ (w : List ℕ). exclusive_or (mix_columns w) (round_key key (suc n))) (turned-unturned unmixed is_unmixed)
          ∙ ap (λ (w : List ℕ). exclusive_or w (round_key key (suc n))) (mix_columns-spread_columns added is_added.sixteen is_added.are_octets)
          ∙ exclusive_or_twice s (round_key key (suc n)),
    )

pub Decrypts-some : (key block : List ℕ) → AreOctets key → IsBlock block → (plain : List ℕ) × Decrypts key block plain
unfolding cipher
Decrypts-some key block of_key b =
    let added : List ℕ = exclusive_or block (round_key key 10) in
    let is_added : IsBlock added = IsBlock-added key block 10 of_key b in
    let found = before_rounds key (unturned added) 9 of_key (IsBlock-unturned added is_added) in (
      found.0,
      record {
        is_block = found.1;
        encrypted = ap (λ (w : List ℕ). exclusive_or (shift_rows (sub_octets w)) (round_key key 10)) found.2
            ∙ ap (λ (w : List ℕ). exclusive_or w (round_key key 10)) (turned-unturned added is_added)
            ∙ exclusive_or_twice block (round_key key 10);
      },
    )

-- ---- the keys of the source

-- the key, from the words of the first round key
pub view_of : (round_keys : List (List ℕ)) (key : List ℕ) → IsBlock key
    → ((n : ℕ) → n < 11 → get_or round_keys n [] ≡ columns (round_key key n)) → octets_of (get_or round_keys 0 []) ≡ key
view_of round_keys key b keys =
    ap octets_of (keys 0 (omega arith) ∙ ap columns (round_key-zero key)) ∙ octets_of-columns key b

pub expanded_from : (round_keys unmixed_keys : List (List ℕ)) (key : List ℕ) → IsBlock key
    → ((n : ℕ) → n < 11 → get_or round_keys n [] ≡ columns (round_key key n))
    → ((n : ℕ) → n < 9 → get_or unmixed_keys n [] ≡ columns (unmix_columns (round_key key (n + 1))))
    → IsExpanded round_keys unmixed_keys (octets_of (get_or round_keys 0 []))
expanded_from round_keys unmixed_keys key b keys between =
    subst (IsExpanded round_keys unmixed_keys) (sym (view_of round_keys key b keys)) (record { is_block = b; rounds = keys; between = between })

-- the same without the keys of the decryption
pub keys_from : (round_keys : List (List ℕ)) (key : List ℕ) → IsBlock key
    → ((n : ℕ) → n < 11 → get_or round_keys n [] ≡ columns (round_key key n))
    → HasRoundKeys round_keys (octets_of (get_or round_keys 0 []))
keys_from round_keys key b keys =
    subst (HasRoundKeys round_keys) (sym (view_of round_keys key b keys)) (record { is_block = b; rounds = keys })

pub keys_for : {round_keys : List (List ℕ)} {view key : List ℕ} → view ≡ key → HasRoundKeys round_keys view → HasRoundKeys round_keys key
keys_for {round_keys} e x = subst (HasRoundKeys round_keys) e x

pub expanded_for : {round_keys unmixed_keys : List (List ℕ)} {view key : List ℕ} → view ≡ key
    → IsExpanded round_keys unmixed_keys view → IsExpanded round_keys unmixed_keys key
expanded_for {round_keys} {unmixed_keys} e x = subst (IsExpanded round_keys unmixed_keys) e x

-- ---- the rounds of the source

pub IsBlock-after_rounds : (key block : List ℕ) (n : ℕ) → IsBlock key → IsBlock block → IsBlock (after_rounds key block n)
IsBlock-after_rounds key block n of_key b = record {
  sixteen = length-after_rounds key block n b.sixteen;
  are_octets = AreOctets-after_rounds key block n of_key.are_octets b.are_octets;
}

pub after_rounds-first : (key block : List ℕ) → exclusive_or block (round_key key 0) ≡ after_rounds key block 0
unfolding after_rounds
after_rounds-first key block = refl

pub after_rounds-more : (key block : List ℕ) (n : ℕ)
    → exclusive_or (mix_columns (shift_rows (sub_octets (after_rounds key block n)))) (round_key key (n + 1)) ≡ after_rounds key block (n + 1)
unfolding after_rounds
after_rounds-more key block n = rw add-one refl

-- one round more, of the columns as words
pub after_round : (key block : List ℕ) (n : ℕ) {before round after : List ℕ} → IsBlock key → IsBlock block
    → before ≡ columns (after_rounds key block n) → round ≡ columns (round_key key (n + 1))
    → ((s k : List ℕ) → IsBlock s → IsBlock k → before ≡ columns s → round ≡ columns k
    → after ≡ columns (exclusive_or (mix_columns (shift_rows (sub_octets s))) k))
    → after ≡ columns (after_rounds key block (n + 1))
after_round key block n of_key b eb er is =
    is (after_rounds key block n) (round_key key (n + 1)) (IsBlock-after_rounds key block n of_key b) (IsBlock-round_key key (n + 1) of_key) eb er
    ∙ ap columns (after_rounds-more key block n)

pub after_rounds-last : (key block : List ℕ)
    → exclusive_or (shift_rows (sub_octets (after_rounds key block 9))) (round_key key 10) ≡ cipher key block
unfolding cipher
after_rounds-last key block = refl

-- ---- and back

pub back-last : (key block p : List ℕ) → Decrypts key block p
    → exclusive_or block (round_key key 10) ≡ shift_rows (sub_octets (after_rounds key p 9))
unfolding cipher
back-last key block p d =
    ap (λ (w : List ℕ). exclusive_or w (round_key key 10)) (sym d.encrypted) ∙ exclusive_or_twice (shift_rows (sub_octets (after_rounds key p 9))) (round_key key 10)

-- the columns of a state and of its key unmixed, and the one added to the other
pub back-more : (key p : List ℕ) (n : ℕ) → IsBlock key → IsBlock p
    → exclusive_or (unmix_columns (after_rounds key p (n + 1))) (unmix_columns (round_key key (n + 1))) ≡ shift_rows (sub_octets (after_rounds key p n))
back-more key p n of_key b =
    let k : List ℕ = round_key key (n + 1) in
    let t : List ℕ = shift_rows (sub_octets (after_rounds key p n)) in
    let is_t : IsBlock t = IsBlock-turned (after_rounds key p n) (IsBlock-after_rounds key p n of_key b) in
    let is_mixed = IsBlock-mixed t is_t in
    ap (λ (w : List ℕ). exclusive_or (unmix_columns w) (unmix_columns k)) (sym (after_rounds-more key p n))
    ∙ ap (λ (w : List ℕ). exclusive_or w (unmix_columns k)) (unmix_columns-exclusive_or (mix_columns t) k is_mixed.sixteen is_mixed.are_octets (AreOctets-round_key key (n + 1) of_key.are_octets))
    ∙ exclusive_or_twice (unmix_columns (mix_columns t)) (unmix_columns k)
    ∙ unmix_columns-mix_columns t is_t.sixteen is_t.are_octets

-- one round back, of the columns as words
pub back_round : (key p : List ℕ) (n : ℕ) {before round after : List ℕ} → IsBlock key → IsBlock p
    → before ≡ columns (shift_rows (sub_octets (after_rounds key p (n + 1)))) → round ≡ columns (unmix_columns (round_key key (n + 1)))
    → ((s k : List ℕ) → IsBlock s → IsBlock k → before ≡ columns (shift_rows (sub_octets s)) → round ≡ columns k
    → after ≡ columns (exclusive_or (unmix_columns s) k))
    → after ≡ columns (shift_rows (sub_octets (after_rounds key p n)))
back_round key p n of_key b eb er is =
    is (after_rounds key p (n + 1)) (unmix_columns (round_key key (n + 1))) (IsBlock-after_rounds key p (n + 1) of_key b)
    (IsBlock-unmixed (round_key key (n + 1)) (IsBlock-round_key key (n + 1) of_key)) eb er
    ∙ ap columns (back-more key p n of_key b)

pub back-first : (key p : List ℕ) → exclusive_or (after_rounds key p 0) (round_key key 0) ≡ p
unfolding after_rounds
back-first key p = exclusive_or_twice p (round_key key 0)

-- What a message is sealed to, and that it is sealed to no other.
use Rattle.std.proofs.Common.{◌≡◌, ℕ, zero, suc, ◌+◌, ◌-◌, List, ◌++◌, length, take, drop, sym, ap, ap₂, subst, ◌∙◌, arith}
use Rattle.std.proofs.lemmas.List.{take_at, drop_at, length-append, length-take-le}
use Rattle.std.specs.Int.{div_ceil}
use Rattle.aes_block.specs.Octets.{exclusive_or}
use Rattle.aes_block.specs.Cipher.{cipher}
use Rattle.aes_block.proofs.OctetLemmas.{length-exclusive_or, exclusive_or_twice}
use Rattle.aes_block.proofs.CipherLemmas.{length-cipher}
use Rattle.ccmp_guard.specs.Ccm.{block_count, block_after, chained, chained_all, first_block, aad_octets, begun, key_block, key_stream, encrypted, encrypted_authentication, Sealed}

length-chained : (key x octets : List ℕ) (n : ℕ) → length x ≡ 16 → length (chained key x octets n) ≡ 16
unfolding chained
length-chained key x octets zero h = h
length-chained key x octets (suc n) h = length-cipher key (exclusive_or (chained key x octets n) (block_after n octets))

length-begun : (key nonce aad : List ℕ) (size : ℕ) → length (begun key nonce aad size) ≡ 16
unfolding begun
length-begun key nonce aad size =
    length-chained key (cipher key (first_block nonce aad size)) (aad_octets aad) (block_count (aad_octets aad)) (length-cipher key (first_block nonce aad size))

-- U has 8 octets
pub length-authentication : (key nonce aad plain : List ℕ) → length (encrypted_authentication key nonce aad plain) ≡ 8
length-authentication key nonce aad plain =
    let x = chained_all key (begun key nonce aad (length plain)) plain in
    let wide : length x ≡ 16 = length-chained key (begun key nonce aad (length plain)) plain (block_count plain) (length-begun key nonce aad (length plain)) in
    length-exclusive_or (take 8 x) (key_block key nonce 0) ∙ length-take-le 8 x (omega arith)

pub length-encrypted : (key nonce plain : List ℕ) → length (encrypted key nonce plain) ≡ length plain
length-encrypted key nonce plain = length-exclusive_or plain (key_stream key nonce (block_count plain))

-- what is encrypted twice is as it was
pub encrypted_twice : (key nonce plain : List ℕ) → encrypted key nonce (encrypted key nonce plain) ≡ plain
encrypted_twice key nonce plain =
    let once : List ℕ = encrypted key nonce plain in
    ap (λ (k : ℕ). exclusive_or once (key_stream key nonce (div_ceil k 16))) (length-encrypted key nonce plain)
    ∙ exclusive_or_twice plain (key_stream key nonce (block_count plain))

-- the parts of what a message is sealed to
pub record Parts (key nonce aad plain out : List ℕ) : Type 0 where
  pub long : length out ≡ length plain + 8
  pub front : take (length plain) out ≡ encrypted key nonce plain
  pub back : drop (length plain) out ≡ encrypted_authentication key nonce aad plain

pub parts : (key nonce aad plain out : List ℕ) → Sealed key nonce aad plain out → Parts key nonce aad plain out
parts key nonce aad plain out h =
    let text : List ℕ = encrypted key nonce plain in
    let mic : List ℕ = encrypted_authentication key nonce aad plain in
    let len : length text ≡ length plain = length-encrypted key nonce plain in record {
      long = ap length h.sealed ∙ length-append text mic ∙ ap₂ (λ (m n : ℕ). m + n) len (length-authentication key nonce aad plain);
      front = ap (take (length plain)) h.sealed ∙ take_at text mic (length plain) len;
      back = ap (drop (length plain)) h.sealed ∙ drop_at text mic (length plain) len;
    }

-- no two messages are sealed to one
pub Sealed-unique : (key nonce aad plain other out : List ℕ) → Sealed key nonce aad plain out → Sealed key nonce aad other out → plain ≡ other
Sealed-unique key nonce aad plain other out h k =
    let p = parts key nonce aad plain out h in
    let q = parts key nonce aad other out k in
    let same : length plain ≡ length other = omega (arith, p.long, q.long) in
    let texts : encrypted key nonce plain ≡ encrypted key nonce other = sym p.front ∙ ap (λ (n : ℕ). take n out) same ∙ q.front in
    sym (encrypted_twice key nonce plain) ∙ ap (encrypted key nonce) texts ∙ encrypted_twice key nonce other

-- ---- opening

-- where the authentication field is the one of the decrypted message, that message is sealed to this
pub opened : (key nonce aad text mic out start x : List ℕ) → out ≡ encrypted key nonce text → start ≡ begun key nonce aad (length text)
    → x ≡ chained_all key start out → exclusive_or (take 8 x) (key_block key nonce 0) ≡ mic
    → text ++ mic ≡ encrypted key nonce out ++ encrypted_authentication key nonce aad out
opened key nonce aad text mic out start x eo es ex em =
    let len : length text ≡ length out = sym (ap length eo ∙ length-encrypted key nonce text) in
    let again : text ≡ encrypted key nonce out = sym (ap (encrypted key nonce) eo ∙ encrypted_twice key nonce text) in
    let last : x ≡ chained_all key (begun key nonce aad (length out)) out =
    ex ∙ ap (λ (w : List ℕ). chained_all key w out) (es ∙ ap (begun key nonce aad) len) in
    ap₂ (λ (v w : List ℕ). v ++ w) again (sym em ∙ ap (λ (w : List ℕ). exclusive_or (take 8 w) (key_block key nonce 0)) last)

-- where there is a message that is sealed to this, it is the decrypted one, and the authentication field is the one of it
pub opened_only : (key nonce aad plain sealed text mic out start x : List ℕ) → Sealed key nonce aad plain sealed
    → text ≡ take (length sealed - 8) sealed → mic ≡ drop (length sealed - 8) sealed
    → out ≡ encrypted key nonce text → start ≡ begun key nonce aad (length text) → x ≡ chained_all key start out
    → (exclusive_or (take 8 x) (key_block key nonce 0) ≡ mic) × (out ≡ plain)
opened_only key nonce aad plain sealed text mic out start x h et em eo es ex =
    let p = parts key nonce aad plain sealed h in
    let place : length sealed - 8 ≡ length plain = omega (arith, p.long) in
    let text_is : text ≡ encrypted key nonce plain = et ∙ ap (λ (n : ℕ). take n sealed) place ∙ p.front in
    let mic_is : mic ≡ encrypted_authentication key nonce aad plain = em ∙ ap (λ (n : ℕ). drop n sealed) place ∙ p.back in
    let out_is : out ≡ plain = eo ∙ ap (encrypted key nonce) text_is ∙ encrypted_twice key nonce plain in
    let len : length text ≡ length plain = ap length text_is ∙ length-encrypted key nonce plain in
    let last : x ≡ chained_all key (begun key nonce aad (length plain)) plain =
    ex ∙ ap₂ (chained_all key) (es ∙ ap (begun key nonce aad) len) out_is in
    (ap (λ (w : List ℕ). exclusive_or (take 8 w) (key_block key nonce 0)) last ∙ sym mic_is, out_is)

-- the same of equal lists
pub Sealed-along : {key nonce nonce' aad aad' plain plain' out out' : List ℕ} → nonce ≡ nonce' → aad ≡ aad' → plain ≡ plain' → out ≡ out'
    → Sealed key nonce aad plain out → Sealed key nonce' aad' plain' out'
Sealed-along {key} {nonce} {nonce'} {aad} {aad'} {plain} {plain'} {out} {out'} en ea ep eo h =
    let N : List ℕ → Type 0 = λ n. Sealed key n aad plain out in
    let A : List ℕ → Type 0 = λ a. Sealed key nonce' a plain out in
    let P : List ℕ → Type 0 = λ p. Sealed key nonce' aad' p out in
    let O : List ℕ → Type 0 = λ o. Sealed key nonce' aad' plain' o in
    subst O eo (subst P ep (subst A ea (subst N en h)))

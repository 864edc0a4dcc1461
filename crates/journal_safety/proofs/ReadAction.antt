-- What the octets under the seal of an announcement say, as it is sent and as it is taken.
use Rattle.std.proofs.Common.{◌≡◌, ℕ, suc, ◌+◌, ◌-◌, ◌^◌, ◌/◌, ◌%◌, ◌<◌, ◌≤◌, List, [], ◌∷◌, ◌++◌, length, take, drop, replicate, refl, sym, ap, ◌∙◌, arith}
use Rattle.std.specs.Int.{w64, from_le_bytes}
use Rattle.std.proofs.lemmas.Nat.{from_le_bytes-to_le_bytes_8}
use Rattle.std.proofs.lemmas.List.{append_assoc, take_at, drop_at, take-take, drop-take, take-append-drop, length-append, length-take, length-drop}
use Rattle.bip_guard.specs.Bip.{bip_aad, mme_front, mme_of, ipn_at, ipn_in}
use Rattle.bip_guard.proofs.Bodies.{length-mme_front}
use Rattle.domain_rules.specs.ManagementFrames.{bip_input, before_mme, before_mic}
use Rattle.journal_safety.proofs.CoversFrame.{action_number, action_plain, CoversAction}

-- the additional authentication data
length-aad : (header : List ℕ) → 22 ≤ length header → length (bip_aad header) ≡ 20
unfolding bip_aad
length-aad header long = omega (arith, long, length-take 18 (drop 4 header), length-drop 4 header)

-- the octets fall apart before the MME
parts : (header front : List ℕ) (n : ℕ) → bip_input header front ≡ (bip_aad header ++ take n front) ++ (drop n front ++ replicate 8 0)
parts header front n = sym (
    append_assoc (bip_aad header) (take n front) (drop n front ++ replicate 8 0)
    ∙ ap (λ (x : List ℕ). bip_aad header ++ x) (sym (append_assoc (take n front) (drop n front) (replicate 8 0)) ∙ ap (λ (x : List ℕ). x ++ replicate 8 0) (take-append-drop n front))
    )

-- the MME has ten octets before its MIC, and for that MIC stand eight zeros
end_size : (front : List ℕ) → 10 ≤ length front → length (drop (length front - 10) front ++ replicate 8 0) ≡ 18
end_size front some = omega (arith, some, length-append (drop (length front - 10) front) (replicate 8 0), length-drop (length front - 10) front)

action_covers : (header front : List ℕ) → 22 ≤ length header → 10 ≤ length front → CoversAction (4 ∷ bip_input header front) (ipn_at (drop (length front - 10) front ++ replicate 8 0)) (take (length front - 10) front)
unfolding action_number action_plain
action_covers header front long some =
    let content : List ℕ = take (length front - 10) front in
    let x : List ℕ = 4 ∷ (bip_aad header ++ content) in
    let y : List ℕ = drop (length front - 10) front ++ replicate 8 0 in
    let is : 4 ∷ bip_input header front ≡ x ++ y = ap (λ (w : List ℕ). 4 ∷ w) (parts header front (length front - 10)) in
    let at : length (x ++ y) - 18 ≡ length x = omega (arith, length-append x y, end_size front some) in
    let first : length (4 ∷ bip_aad header) ≡ 21 = ap suc (length-aad header long) in
    record {
      form = refl;
      number_is = ap ipn_in is ∙ ap ipn_at (ap (λ (k : ℕ). drop k (x ++ y)) at ∙ drop_at x y (length x) refl);
      plain_is = ap (λ (w : List ℕ). drop 21 (take (length w - 18) w)) is ∙ ap (λ (k : ℕ). drop 21 (take k (x ++ y))) at ∙ ap (drop 21) (take_at x y (length x) refl) ∙ drop_at (4 ∷ bip_aad header) content 21 first;
    }

-- the IPN that an MME was written with
ipn-read : (id ipn : ℕ) (rest : List ℕ) → ipn < 2 ^ 48 → ipn_at (mme_front id ipn ++ rest) ≡ ipn
unfolding mme_front ipn_at
ipn-read id ipn rest low =
    let six : ℕ → ℕ → List ℕ = λ a b. (ipn % 256) ∷ (ipn / 2 ^ 8 % 256) ∷ (ipn / 2 ^ 16 % 256) ∷ (ipn / 2 ^ 24 % 256) ∷ (ipn / 2 ^ 32 % 256) ∷ (ipn / 2 ^ 40 % 256) ∷ a ∷ b ∷ [] in
    let seventh : 0 ≡ ipn / 2 ^ 48 % 256 = omega (arith, low) in
    let eighth : 0 ≡ ipn / 2 ^ 56 % 256 = omega (arith, low) in
    ap (λ (a : ℕ). from_le_bytes w64 (six a 0)) seventh ∙ ap (λ (b : ℕ). from_le_bytes w64 (six (ipn / 2 ^ 48 % 256) b)) eighth ∙ from_le_bytes-to_le_bytes_8 ipn (omega (arith, low))

-- as it is sent
pub sent_covers : (header content : List ℕ) (id ipn : ℕ) → 22 ≤ length header → ipn < 2 ^ 48 → CoversAction (4 ∷ bip_input header (content ++ mme_front id ipn)) ipn content
sent_covers header content id ipn long low =
    let mme : List ℕ = mme_front id ipn in
    let front : List ℕ = content ++ mme in
    let size : length front ≡ length content + 10 = length-append content mme ∙ ap (λ (k : ℕ). length content + k) (length-mme_front id ipn) in
    let at : length front - 10 ≡ length content = omega (arith, size) in
    let c = action_covers header front long (omega (arith, size)) in
    record {
      form = c.form;
      number_is = c.number_is ∙ ap (λ (k : ℕ). ipn_at (drop k front ++ replicate 8 0)) at ∙ ap (λ (w : List ℕ). ipn_at (w ++ replicate 8 0)) (drop_at content mme (length content) refl) ∙ ipn-read id ipn (replicate 8 0) low;
      plain_is = c.plain_is ∙ ap (λ (k : ℕ). take k front) at ∙ take_at content mme (length content) refl;
    }

-- the IPN stands in the first ten octets
ipn_front : (m : List ℕ) → 10 ≤ length m → ipn_at (take 10 m ++ replicate 8 0) ≡ ipn_at m
unfolding ipn_at
ipn_front [] h = absurd (omega (arith, h))
ipn_front (a ∷ []) h = absurd (omega (arith, h))
ipn_front (a ∷ b ∷ []) h = absurd (omega (arith, h))
ipn_front (a ∷ b ∷ c ∷ []) h = absurd (omega (arith, h))
ipn_front (a ∷ b ∷ c ∷ d ∷ []) h = absurd (omega (arith, h))
ipn_front (a ∷ b ∷ c ∷ d ∷ e ∷ []) h = absurd (omega (arith, h))
ipn_front (a ∷ b ∷ c ∷ d ∷ e ∷ f ∷ []) h = absurd (omega (arith, h))
ipn_front (a ∷ b ∷ c ∷ d ∷ e ∷ f ∷ g ∷ []) h = absurd (omega (arith, h))
ipn_front (a ∷ b ∷ c ∷ d ∷ e ∷ f ∷ g ∷ i ∷ []) h = absurd (omega (arith, h))
ipn_front (a ∷ b ∷ c ∷ d ∷ e ∷ f ∷ g ∷ i ∷ j ∷ []) h = absurd (omega (arith, h))
ipn_front (a ∷ b ∷ c ∷ d ∷ e ∷ f ∷ g ∷ i ∷ j ∷ k ∷ rest) h = refl

-- as it is taken
pub taken_covers : (header body : List ℕ) → 22 ≤ length header → 18 ≤ length body → CoversAction (4 ∷ bip_input header (before_mic body)) (ipn_in body) (before_mme body)
taken_covers header body long some =
    let n : ℕ = length body in
    let front : List ℕ = before_mic body in
    let size : length front ≡ n - 8 = omega (arith, some, length-take (n - 8) body) in
    let at : length front - 10 ≡ n - 18 = omega (arith, size) in
    let eight : n - 8 ≡ n - 18 + 10 = omega (arith, some) in
    let mme : drop (n - 18) front ≡ take 10 (mme_of body) = ap (λ (k : ℕ). drop (n - 18) (take k body)) eight ∙ drop-take (n - 18) 10 body in
    let ten : 10 ≤ length (mme_of body) = omega (arith, some, length-drop (n - 18) body) in
    let c = action_covers header front long (omega (arith, size, some)) in
    record {
      form = c.form;
      number_is = c.number_is ∙ ap (λ (k : ℕ). ipn_at (drop k front ++ replicate 8 0)) at ∙ ap (λ (w : List ℕ). ipn_at (w ++ replicate 8 0)) mme ∙ ipn_front (mme_of body) ten;
      plain_is = c.plain_is ∙ ap (λ (k : ℕ). take k front) at ∙ take-take (n - 18) (n - 8) body (omega arith);
    }

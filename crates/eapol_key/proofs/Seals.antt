-- A MIC is put into its field.
use Rattle.std.proofs.Common.{◌≡◌, ℕ, ◌+◌, ◌≤◌, List, ◌∷◌, ◌++◌, length, take, drop, replicate, sym, ap, ◌∙◌, arith, append_assoc}
use Rattle.std.proofs.lemmas.List.{take_at, drop_at, length-append, length-take}
use Rattle.std.specs.Int.{w16, w64, to_be_bytes}
use Rattle.domain_base.specs.declared.names.Akm.{Akm}
use Rattle.mac_prf.specs.Mic.{mic, without_mic}
use Rattle.mac_prf.proofs.Parts.{length-mic, mic-same}
use Rattle.eapol_key.specs.KeyFrame.{KeyFields}
use Rattle.eapol_key.specs.Octets.{FitsKeyFrame, frame_octets}
use Rattle.eapol_key.specs.Sealed.{sealed}
use Rattle.eapol_key.proofs.Written.{skip}

-- three parts, of which the middle one is replaced
replaced : (a b c new : List ℕ) → length a ≡ 81 → length b ≡ 16 → take 81 (a ++ (b ++ c)) ++ new ++ drop 97 (a ++ (b ++ c)) ≡ a ++ (new ++ c)
replaced a b c new la lb =
    let front : take 81 (a ++ (b ++ c)) ≡ a = take_at a (b ++ c) 81 la in
    let past : drop 97 (a ++ (b ++ c)) ≡ drop 16 (b ++ c) = skip a (b ++ c) 81 16 la in
    let back : drop 97 (a ++ (b ++ c)) ≡ c = past ∙ drop_at b c 16 lb in
    rw (front, back) (append_assoc a new c)

-- what stands before the MIC of a frame, and behind it
before_mic : KeyFields → List ℕ
before_mic f =
    (f.version ∷ 3 ∷ to_be_bytes w16 (95 + length f.key_data) ++ 2 ∷ to_be_bytes w16 f.information ++ to_be_bytes w16 f.key_length ++ to_be_bytes w64 f.counter) ++ (f.nonce ++ (f.iv ++ (f.rsc ++ f.reserved)))

behind_mic : KeyFields → List ℕ
behind_mic f = to_be_bytes w16 (length f.key_data) ++ f.key_data

in_three : (f : KeyFields) → frame_octets f ≡ before_mic f ++ (f.mic ++ behind_mic f)
unfolding frame_octets before_mic behind_mic
in_three f = simp append_assoc

length-before_mic : (f : KeyFields) → FitsKeyFrame f → length (before_mic f) ≡ 81
unfolding before_mic
length-before_mic f fits = omega (
  arith,
  length-append f.nonce (f.iv ++ (f.rsc ++ f.reserved)),
  length-append f.iv (f.rsc ++ f.reserved),
  length-append f.rsc f.reserved,
  fits.nonce,
  fits.iv,
  fits.rsc,
  fits.reserved,
)

pub sealed_fields : (akm : Akm) (kck : List ℕ) (f : KeyFields) → FitsKeyFrame f → sealed akm kck (frame_octets f) ≡ frame_octets (record f { mic = mic akm kck (frame_octets f) })
unfolding before_mic behind_mic
sealed_fields akm kck f fits =
    let new = mic akm kck (frame_octets f) in
    ap (λ (w : List ℕ). take 81 w ++ new ++ drop 97 w) (in_three f)
    ∙ replaced (before_mic f) f.mic (behind_mic f) new (length-before_mic f fits) fits.mic
    ∙ sym (in_three (record f { mic = new }))

-- the MIC field does not count
without_mic-sealed : (frame new : List ℕ) → 97 ≤ length frame → length new ≡ 16 → without_mic (take 81 frame ++ new ++ drop 97 frame) ≡ without_mic frame
without_mic-sealed frame new long n =
    let front_len : length (take 81 frame) ≡ 81 = length-take 81 frame ∙ omega arith in
    ap without_mic (append_assoc (take 81 frame) new (drop 97 frame))
    ∙ replaced (take 81 frame) new (drop 97 frame) (replicate 16 0) front_len n
    ∙ sym (append_assoc (take 81 frame) (replicate 16 0) (drop 97 frame))

pub sealed_mic : (akm : Akm) (kck frame : List ℕ) → 97 ≤ length frame → mic akm kck (sealed akm kck frame) ≡ mic akm kck frame
sealed_mic akm kck frame long = mic-same akm kck (sealed akm kck frame) frame (without_mic-sealed frame (mic akm kck frame) long (length-mic akm kck frame))

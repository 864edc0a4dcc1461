-- What the octets under a seal say: the message, its counter, its nonce and its key data. Each is a function of the octets,
-- so that octets that are sealed alike say the same.
use Rattle.std.proofs.Common.{◌≡◌, ℕ, ◌+◌, ◌-◌, ◌^◌, ◌<◌, ◌≤◌, List, [], ◌∷◌, ◌++◌, length, take, drop, replicate, get_or, refl, sym, ap, subst, ◌∙◌, arith, Bool, true, false}
use Rattle.std.specs.Prelude.{not, nat_lt}
use Rattle.std.specs.Int.{w16, w64, to_be_bytes, from_be_bytes}
use Rattle.std.proofs.lemmas.Nat.{be_bytes_8, from_be_bytes-to_be_bytes_8}
use Rattle.std.proofs.lemmas.List.{take_all, length-drop, length-take, length-append, append-nil}
use Rattle.domain_base.specs.declared.names.Akm.{Akm}
use Rattle.domain_base.specs.declared.names.Akm.TheVariants.{Psk, PskSha256, FtPsk}
use Rattle.std.proofs.lemmas.Bool.{lt-ltb}
use Rattle.domain_base.specs.Places.{part, big_endian_at}
use Rattle.mac_prf.specs.Mic.{mic, without_mic}
use Rattle.mac_prf.proofs.Parts.{length-mic}
use Rattle.eapol_key.specs.declared.messages.Message.{Message}
use Rattle.eapol_key.specs.declared.messages.Message.TheVariants.{M1, M2, M3, M4, G1, G2}
use Rattle.eapol_key.specs.KeyFrame.{KeyFields, SpellsKeyFrame}
use Rattle.eapol_key.specs.Messages.{descriptor_version, IsMessage, has_bit}
use Rattle.eapol_key.specs.Octets.{FitsKeyFrame, frame_octets}
use Rattle.eapol_key.specs.Sealed.{sealed}
use Rattle.eapol_key.specs.Sent.{IsSentWith, sent_bits, sent_fields}
use Rattle.eapol_key.proofs.Codes.{spells_with_mic}
use Rattle.eapol_key.proofs.Fronts.{front_spells}
use Rattle.eapol_key.proofs.Joined.{sent_fits}
use Rattle.eapol_key.proofs.Written.{spelled_as_written}
use Rattle.domain_rules.specs.Frames.{secured}
use Rattle.domain_rules.specs.Reading.{KeyMessage, HasMessage}
use Rattle.domain_rules.proofs.SentReads.{message_sent, length-frame}
use Rattle.domain_base.proofs.OctetLemmas.{get_or_below}
use Rattle.domain_rules.proofs.KeyOctets.{byte_below, octets-bytes}

-- ---- by the offsets of the fields, one more for the form in front

covered_information : List ℕ → ℕ
covered_information octets = big_endian_at w16 6 octets

pub covered_counter : List ℕ → ℕ
covered_counter octets = big_endian_at w64 10 octets

pub covered_nonce : List ℕ → List ℕ
covered_nonce octets = part 18 32 octets

pub covered_key_data : List ℕ → List ℕ
covered_key_data octets = drop 100 octets

-- the Secure bit
pub covered_secure : List ℕ → Bool
covered_secure octets = has_bit (covered_information octets) 9

-- which message a key information can be, where there is key data or none
by_bits : Bool → Bool → Bool → Bool → Message
by_bits true true ack some = M3
by_bits true false true some = M1
by_bits true false false true = M2
by_bits true false false false = M4
by_bits false install true some = G1
by_bits false install false some = G2

by_parts : ℕ → List ℕ → Message
by_parts information key_data = by_bits (has_bit information 3) (has_bit information 6) (has_bit information 7) (nat_lt 0 (length key_data))

pub covered_message : List ℕ → Message
covered_message octets = by_parts (covered_information octets) (covered_key_data octets)

-- the octets say this
pub record Covers (octets : List ℕ) (m : Message) (f : KeyFields) : Type 0 where
  pub message : covered_message octets ≡ m
  pub counter : covered_counter octets ≡ f.counter
  pub nonce : covered_nonce octets ≡ f.nonce
  pub key_data : covered_key_data octets ≡ f.key_data
  pub secure : covered_secure octets ≡ has_bit f.information 9

is_off : (b : Bool) → not b ≡ true → b ≡ false
is_off true h = cc
is_off false h = refl

message_is : (akm : Akm) (m : Message) (f : KeyFields) → IsMessage akm m f → by_parts f.information f.key_data ≡ m
unfolding by_parts by_bits
message_is akm M1 f is = rw (is.bits.pairwise, is_off _ is.bits.install, is.bits.ack) refl
message_is akm M2 f is = rw (is.bits.pairwise, is_off _ is.bits.install, is_off _ is.bits.ack, is.key_data) refl
message_is akm M3 f is = rw (is.bits.pairwise, is.bits.install) refl
message_is akm M4 f is = rw (is.bits.pairwise, is_off _ is.bits.install, is_off _ is.bits.ack, is_off _ is.key_data) refl
message_is akm G1 f is = rw (is_off _ is.bits.pairwise, is.bits.ack) refl
message_is akm G2 f is = rw (is_off _ is.bits.pairwise, is_off _ is.bits.ack) refl

length-over : (octets new : List ℕ) → 97 ≤ length octets → length new ≡ 16 → length (take 81 octets ++ new ++ drop 97 octets) ≡ length octets
length-over octets new long size = omega (arith, length-append (take 81 octets ++ new) (drop 97 octets), length-append (take 81 octets) new, length-take 81 octets, size, length-drop 97 octets)

-- a frame that is all there is
spelled_covers : (akm : Akm) (m : Message) (frame : List ℕ) (f : KeyFields) (used : ℕ) → SpellsKeyFrame frame f used → used ≡ length frame → IsMessage akm m f → Covers (1 ∷ frame) m f
unfolding covered_message covered_information covered_counter covered_nonce covered_key_data covered_secure
spelled_covers akm m frame f used s whole is =
    let information : f.information ≡ big_endian_at w16 5 frame = ap (λ (g : KeyFields). g.information) s.fields in
    let size : length (drop 99 frame) ≤ used - 99 = omega (arith, length-drop 99 frame, whole) in
    let key_data : f.key_data ≡ drop 99 frame = ap (λ (g : KeyFields). g.key_data) s.fields ∙ take_all (used - 99) (drop 99 frame) size in
    record {
      message = ap (λ (x : ℕ). by_parts x (drop 99 frame)) (sym information) ∙ ap (λ (x : List ℕ). by_parts f.information x) (sym key_data) ∙ message_is akm m f is;
      counter = ap (λ (g : KeyFields). g.counter) (sym s.fields);
      nonce = ap (λ (g : KeyFields). g.nonce) (sym s.fields);
      key_data = sym key_data;
      secure = ap (λ (x : ℕ). has_bit x 9) (sym information);
    }

without_mic_covers : (akm : Akm) (m : Message) (frame : List ℕ) (f : KeyFields) (used : ℕ) → SpellsKeyFrame frame f used → used ≡ length frame → IsMessage akm m f → Covers (1 ∷ without_mic frame) m f
without_mic_covers akm m frame f used s whole is =
    let long : 97 ≤ length frame = omega (arith, s.key_data_length, whole) in
    let bare = spells_with_mic frame (replicate 16 0) f used s refl in
    let c = spelled_covers akm m (without_mic frame) (record f { mic = replicate 16 0 }) used bare (whole ∙ sym (length-over frame (replicate 16 0) long refl)) (record { version = is.version; error = is.error; request = is.request; bits = is.bits; key_data = is.key_data }) in
    record { message = c.message; counter = c.counter; nonce = c.nonce; key_data = c.key_data; secure = c.secure }

-- ---- what was taken

pub took_covers : (akm : Akm) (octets : List ℕ) (k : KeyMessage) → HasMessage akm octets k → Covers (1 ∷ without_mic k.octets) k.message k.fields
took_covers akm octets k has =
    let front = front_spells has.body k.fields has.used has.spelled in
    let c = without_mic_covers akm k.message (take has.used has.body) k.fields has.used front (let e = front.long in omega (arith, e, length-take_most has.used has.body)) has.is in
    subst (λ (x : List ℕ). Covers (1 ∷ without_mic x) k.message k.fields) (sym has.octets_are) c
  where
    length-take_most : (n : ℕ) (xs : List ℕ) → length (take n xs) ≤ n
    length-take_most n xs = omega (arith, length-take n xs)

-- ---- what was sent

-- the counter as its eight octets have it
pub sent_counter : ℕ → ℕ
sent_counter counter = from_be_bytes w64 (to_be_bytes w64 counter)

-- a counter that fits its field is as it is
pub sent_counter_low : (counter : ℕ) → counter < 2 ^ 64 → sent_counter counter ≡ counter
unfolding sent_counter
sent_counter_low counter low = from_be_bytes-to_be_bytes_8 counter low

low_counter : (counter : ℕ) → sent_counter counter < 2 ^ 64
unfolding sent_counter
low_counter counter = omega (arith, byte_below 0 counter, byte_below 1 counter, byte_below 2 counter, byte_below 3 counter, byte_below 4 counter, byte_below 5 counter, byte_below 6 counter, byte_below 7 counter)

few_bytes : (counter i : ℕ) → get_or (to_be_bytes w64 counter) i 0 < 256
few_bytes counter i = get_or_below (to_be_bytes w64 counter) i (octets-bytes 8 counter)

same_counter : (counter : ℕ) → to_be_bytes w64 (sent_counter counter) ≡ to_be_bytes w64 counter
unfolding sent_counter
same_counter counter = be_bytes_8 (to_be_bytes w64 counter) (sent_counter counter) refl (few_bytes counter) refl

same_octets : (w : List ℕ) (f : KeyFields) (counter : ℕ) → w ≡ to_be_bytes w64 counter → to_be_bytes w64 f.counter ≡ w → frame_octets f ≡ frame_octets (record f { counter = counter })
unfolding frame_octets
same_octets w f counter e g =
    ap (λ (x : List ℕ). f.version ∷ 3 ∷ to_be_bytes w16 (95 + length f.key_data) ++ 2 ∷ to_be_bytes w16 f.information ++ to_be_bytes w16 f.key_length ++ x ++ f.nonce ++ f.iv ++ f.rsc ++ f.reserved ++ f.mic ++ to_be_bytes w16 (length f.key_data) ++ f.key_data) (g ∙ e)

same_frame : (m : Message) (akm : Akm) (counter rsc : ℕ) (nonce key_data : List ℕ) → frame_octets (sent_fields m akm (sent_counter counter) nonce rsc key_data) ≡ frame_octets (sent_fields m akm counter nonce rsc key_data)
same_frame m akm counter rsc nonce key_data = same_octets (to_be_bytes w64 counter) (sent_fields m akm (sent_counter counter) nonce rsc key_data) counter refl (same_counter counter)

pub sealed_covers : (m : Message) (akm : Akm) (kck : List ℕ) (counter rsc : ℕ) (nonce key_data : List ℕ) → IsSentWith m key_data → length nonce ≡ 32 → length key_data ≤ 65440
    → Covers (1 ∷ without_mic (sealed akm kck (frame_octets (sent_fields m akm counter nonce rsc key_data)))) m (sent_fields m akm (sent_counter counter) nonce rsc key_data)
sealed_covers m akm kck counter rsc nonce key_data with_ n few =
    let f : KeyFields = sent_fields m akm (sent_counter counter) nonce rsc key_data in
    let fits : FitsKeyFrame f = sent_fits m akm (sent_counter counter) rsc nonce key_data (low_counter counter) n few in
    let size = length-frame f fits in
    let code : List ℕ = mic akm kck (frame_octets f) in
    let spelled : SpellsKeyFrame (frame_octets f) f (99 + length key_data) = subst (λ (x : List ℕ). SpellsKeyFrame x f (99 + length key_data)) (append-nil (frame_octets f)) (spelled_as_written f fits []) in
    let with_code = spells_with_mic (frame_octets f) code f (99 + length key_data) spelled (length-mic akm kck (frame_octets f)) in
    let is = message_sent m akm (sent_counter counter) rsc nonce key_data with_ in
    let c = without_mic_covers akm m (sealed akm kck (frame_octets f)) (record f { mic = code }) (99 + length key_data) with_code
    (sym size ∙ sym (length-over (frame_octets f) code (omega (arith, size)) (length-mic akm kck (frame_octets f)))) (record { version = is.version; error = is.error; request = is.request; bits = is.bits; key_data = is.key_data }) in
    subst (λ (x : List ℕ). Covers (1 ∷ without_mic (sealed akm kck x)) m f) (same_frame m akm counter rsc nonce key_data)
    (record { message = c.message; counter = c.counter; nonce = c.nonce; key_data = c.key_data; secure = c.secure })

-- ---- M2 with key data of any length

m2_octets : Akm → ℕ → List ℕ → List ℕ → List ℕ
m2_octets akm counter nonce key_data = frame_octets (sent_fields M2 akm counter nonce 0 key_data)

length-m2 : (akm : Akm) (counter : ℕ) (nonce key_data : List ℕ) → length nonce ≡ 32 → length (m2_octets akm counter nonce key_data) ≡ 99 + length key_data
unfolding m2_octets frame_octets
length-m2 akm counter nonce key_data n = simp length-append (omega (arith, n))

m2_bits : (akm : Akm) (kck : List ℕ) (counter : ℕ) (nonce key_data : List ℕ) → covered_information (1 ∷ without_mic (sealed akm kck (m2_octets akm counter nonce key_data))) ≡ sent_bits M2 + descriptor_version akm
unfolding covered_information m2_octets frame_octets
m2_bits Psk kck counter nonce key_data = refl
m2_bits PskSha256 kck counter nonce key_data = refl
m2_bits FtPsk kck counter nonce key_data = refl

m2_parts : (akm : Akm) (key_data : List ℕ) → 0 < length key_data → by_parts (sent_bits M2 + descriptor_version akm) key_data ≡ M2
unfolding by_parts by_bits
m2_parts Psk key_data some = rw (lt-ltb 0 (length key_data) some) refl
m2_parts PskSha256 key_data some = rw (lt-ltb 0 (length key_data) some) refl
m2_parts FtPsk key_data some = rw (lt-ltb 0 (length key_data) some) refl

pub m2_covers : (akm : Akm) (kck : List ℕ) (counter : ℕ) (nonce key_data : List ℕ) → length nonce ≡ 32 → 0 < length key_data → covered_message (1 ∷ without_mic (sealed akm kck (frame_octets (sent_fields M2 akm counter nonce 0 key_data)))) ≡ M2
unfolding covered_message covered_key_data m2_octets
m2_covers akm kck counter nonce key_data n some =
    let frame : List ℕ = frame_octets (sent_fields M2 akm counter nonce 0 key_data) in
    let size : length frame ≡ 99 + length key_data = length-m2 akm counter nonce key_data n in
    let over : length (sealed akm kck frame) ≡ length frame = length-over frame (mic akm kck frame) (omega (arith, size)) (length-mic akm kck frame) in
    let whole : length (without_mic (sealed akm kck frame)) ≡ length (sealed akm kck frame) = length-over (sealed akm kck frame) (replicate 16 0) (omega (arith, over, size)) refl in
    let rest : 0 < length (drop 100 (1 ∷ without_mic (sealed akm kck frame))) = omega (arith, length-drop 99 (without_mic (sealed akm kck frame)), whole, over, size, some) in
    ap (λ (x : ℕ). by_parts x (drop 100 (1 ∷ without_mic (sealed akm kck frame)))) (m2_bits akm kck counter nonce key_data) ∙ m2_parts akm (drop 100 (1 ∷ without_mic (sealed akm kck frame))) rest

-- ---- and M2 with its Secure bit set

secured_octets : Akm → ℕ → List ℕ → List ℕ → List ℕ
secured_octets akm counter nonce key_data = frame_octets (secured (sent_fields M2 akm counter nonce 0 key_data))

length-secured : (akm : Akm) (counter : ℕ) (nonce key_data : List ℕ) → length nonce ≡ 32 → length (secured_octets akm counter nonce key_data) ≡ 99 + length key_data
unfolding secured_octets frame_octets
length-secured akm counter nonce key_data n = simp length-append (omega (arith, n))

secured_bits : (akm : Akm) (kck : List ℕ) (counter : ℕ) (nonce key_data : List ℕ) → covered_information (1 ∷ without_mic (sealed akm kck (secured_octets akm counter nonce key_data))) ≡ 512 + (sent_bits M2 + descriptor_version akm)
unfolding covered_information secured_octets frame_octets
secured_bits Psk kck counter nonce key_data = refl
secured_bits PskSha256 kck counter nonce key_data = refl
secured_bits FtPsk kck counter nonce key_data = refl

secured_parts : (akm : Akm) (key_data : List ℕ) → 0 < length key_data → by_parts (512 + (sent_bits M2 + descriptor_version akm)) key_data ≡ M2
unfolding by_parts by_bits
secured_parts Psk key_data some = rw (lt-ltb 0 (length key_data) some) refl
secured_parts PskSha256 key_data some = rw (lt-ltb 0 (length key_data) some) refl
secured_parts FtPsk key_data some = rw (lt-ltb 0 (length key_data) some) refl

secured_bit : (akm : Akm) → has_bit (512 + (sent_bits M2 + descriptor_version akm)) 9 ≡ true
secured_bit Psk = refl
secured_bit PskSha256 = refl
secured_bit FtPsk = refl

pub record CoversSecured (octets : List ℕ) : Type 0 where
  pub message : covered_message octets ≡ M2
  pub secure : covered_secure octets ≡ true

pub secured_covers : (akm : Akm) (kck : List ℕ) (counter : ℕ) (nonce key_data : List ℕ) → length nonce ≡ 32 → 0 < length key_data → CoversSecured (1 ∷ without_mic (sealed akm kck (frame_octets (secured (sent_fields M2 akm counter nonce 0 key_data)))))
unfolding covered_message covered_key_data covered_secure secured_octets
secured_covers akm kck counter nonce key_data n some =
    let frame : List ℕ = frame_octets (secured (sent_fields M2 akm counter nonce 0 key_data)) in
    let size : length frame ≡ 99 + length key_data = length-secured akm counter nonce key_data n in
    let over : length (sealed akm kck frame) ≡ length frame = length-over frame (mic akm kck frame) (omega (arith, size)) (length-mic akm kck frame) in
    let whole : length (without_mic (sealed akm kck frame)) ≡ length (sealed akm kck frame) = length-over (sealed akm kck frame) (replicate 16 0) (omega (arith, over, size)) refl in
    let rest : 0 < length (drop 100 (1 ∷ without_mic (sealed akm kck frame))) = omega (arith, length-drop 99 (without_mic (sealed akm kck frame)), whole, over, size, some) in
    record {
      message = ap (λ (x : ℕ). by_parts x (drop 100 (1 ∷ without_mic (sealed akm kck frame)))) (secured_bits akm kck counter nonce key_data) ∙ secured_parts akm (drop 100 (1 ∷ without_mic (sealed akm kck frame))) rest;
      secure = ap (λ (x : ℕ). has_bit x 9) (secured_bits akm kck counter nonce key_data) ∙ secured_bit akm;
    }

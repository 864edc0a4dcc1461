-- A message that is written in two parts.
use Rattle.std.proofs.Common.{◌≡◌, ℕ, ◌+◌, ◌<◌, ◌≤◌, ◌^◌, List, ◌++◌, length, take, drop, replicate, refl, sym, ap, ◌∙◌, arith, append_assoc, lit<, lit≤}
use Rattle.std.proofs.lemmas.List.{take-append-drop}
use Rattle.domain_base.specs.declared.names.Akm.{Akm}
use Rattle.domain_base.specs.declared.names.Akm.TheVariants.{Psk, PskSha256, FtPsk}
use Rattle.eapol_key.specs.declared.messages.Message.{Message}
use Rattle.eapol_key.specs.declared.messages.Message.TheVariants.{M1, M2, M3, M4, G1, G2}
use Rattle.eapol_key.specs.KeyFrame.{KeyFields, SpellsKeyFrame}
use Rattle.eapol_key.specs.Messages.{descriptor_version}
use Rattle.eapol_key.specs.Octets.{FitsKeyFrame, frame_octets}
use Rattle.eapol_key.specs.Parts.{front_octets, back_octets}
use Rattle.eapol_key.specs.Sent.{sent_bits, sent_fields, sent_key_length, sent_nonce, sent_rsc}
use Rattle.eapol_key.proofs.Written.{spelled_as_written}

-- the two parts are the fields as sent
parts_joined : (information key_length counter : ℕ) (nonce rsc key_data : List ℕ)
    → front_octets 2 information key_length counter nonce (length key_data) ++ back_octets rsc key_data
    ≡ frame_octets (record { version = 2; information = information; key_length = key_length; counter = counter; nonce = nonce; iv = replicate 16 0; rsc = rsc; reserved = replicate 8 0; mic = replicate 16 0; key_data = key_data })
unfolding frame_octets
parts_joined information key_length counter nonce rsc key_data = simp append_assoc

pub message_joined : (message : Message) (akm : Akm) (counter rsc information key_length at used : ℕ) (nonce key_data nonce' rsc' middle out : List ℕ)
    → information ≡ sent_bits message + descriptor_version akm → key_length ≡ sent_key_length message → nonce' ≡ sent_nonce message nonce → rsc' ≡ sent_rsc message rsc
    → at ≡ 49
    → take 49 middle ≡ front_octets 2 information key_length counter nonce' (length key_data)
    → take used out ≡ take at middle ++ back_octets rsc' key_data
    → take used out ≡ frame_octets (sent_fields message akm counter nonce rsc key_data)
message_joined message akm counter rsc information key_length at used nonce key_data nonce' rsc' middle out i k n r e front whole =
    whole
    ∙ ap (λ (m : ℕ). take m middle ++ back_octets rsc' key_data) e
    ∙ ap (λ (w : List ℕ). w ++ back_octets rsc' key_data) front
    ∙ parts_joined information key_length counter nonce' rsc' key_data
    ∙ rw (i, k, n, r) refl

length-sent_nonce : (message : Message) (nonce : List ℕ) → length nonce ≡ 32 → length (sent_nonce message nonce) ≡ 32
length-sent_nonce M1 nonce h = h
length-sent_nonce M2 nonce h = h
length-sent_nonce M3 nonce h = h
length-sent_nonce M4 nonce h = refl
length-sent_nonce G1 nonce h = refl
length-sent_nonce G2 nonce h = refl

length-sent_rsc : (message : Message) (rsc : ℕ) → length (sent_rsc message rsc) ≡ 8
length-sent_rsc M1 rsc = refl
length-sent_rsc M2 rsc = refl
length-sent_rsc M3 rsc = refl
length-sent_rsc M4 rsc = refl
length-sent_rsc G1 rsc = refl
length-sent_rsc G2 rsc = refl

sent_bits-lt : (message : Message) → sent_bits message < 2 ^ 15
sent_bits-lt M1 = lit< tt
sent_bits-lt M2 = lit< tt
sent_bits-lt M3 = lit< tt
sent_bits-lt M4 = lit< tt
sent_bits-lt G1 = lit< tt
sent_bits-lt G2 = lit< tt

descriptor_version-lt : (akm : Akm) → descriptor_version akm < 4
descriptor_version-lt Psk = lit< tt
descriptor_version-lt PskSha256 = lit< tt
descriptor_version-lt FtPsk = lit< tt

sent_key_length-lt : (message : Message) → sent_key_length message < 2 ^ 16
sent_key_length-lt M1 = lit< tt
sent_key_length-lt M2 = lit< tt
sent_key_length-lt M3 = lit< tt
sent_key_length-lt M4 = lit< tt
sent_key_length-lt G1 = lit< tt
sent_key_length-lt G2 = lit< tt

-- what is sent fits its frame
pub sent_fits : (message : Message) (akm : Akm) (counter rsc : ℕ) (nonce key_data : List ℕ) → counter < 2 ^ 64 → length nonce ≡ 32 → length key_data ≤ 65440
    → FitsKeyFrame (sent_fields message akm counter nonce rsc key_data)
sent_fits message akm counter rsc nonce key_data counter_fits nonce_len few = record {
  version_low = lit≤ tt;
  version_high = lit≤ tt;
  information = omega (arith, sent_bits-lt message, descriptor_version-lt akm);
  key_length = sent_key_length-lt message;
  counter = counter_fits;
  nonce = length-sent_nonce message nonce nonce_len;
  iv = refl;
  rsc = length-sent_rsc message rsc;
  reserved = refl;
  mic = refl;
  key_data = few;
}

-- octets that begin with it spell it
pub sent_at_front : (f : KeyFields) (out : List ℕ) (used : ℕ) → FitsKeyFrame f → used ≡ 99 + length f.key_data → take used out ≡ frame_octets f → SpellsKeyFrame out f used
sent_at_front f out used fits u front =
    let whole : frame_octets f ++ drop used out ≡ out = ap (λ (w : List ℕ). w ++ drop used out) (sym front) ∙ take-append-drop used out in
    rw (u, ← whole) (spelled_as_written f fits (drop used out))

-- What is sent in each message (IEEE Std 802.11-2020, 12.7.6, 12.7.7, profile).
use Rattle.std.specs.Prelude.{◌≡◌, ⊤, ℕ, ◌+◌, ◌<◌, List, [], ◌++◌, length, take, replicate}
use Rattle.std.specs.Int.{w64, to_le_bytes}
use Rattle.domain_base.specs.declared.names.Akm.{Akm}
use Rattle.eapol_key.specs.declared.messages.Message.{Message}
use Rattle.eapol_key.specs.declared.messages.Message.TheVariants.{M1, M2, M3, M4, G1, G2}
use Rattle.eapol_key.specs.KeyFrame.{KeyFields}
use Rattle.eapol_key.specs.Messages.{descriptor_version}

-- the key information as sent, still without its descriptor version (12.7.2, 12.7.6, 12.7.7)
abbrev pub sent_bits : Message → ℕ
sent_bits M1 = 0x0088
sent_bits M2 = 0x0108
sent_bits M3 = 0x13c8
sent_bits M4 = 0x0308
sent_bits G1 = 0x1380
sent_bits G2 = 0x0300

-- the length of the temporal key stands in the messages to which it belongs (12.7.2)
abbrev pub sent_key_length : Message → ℕ
sent_key_length M1 = 16
sent_key_length M2 = 0
sent_key_length M3 = 16
sent_key_length M4 = 0
sent_key_length G1 = 0
sent_key_length G2 = 0

-- ANonce in M1 and M3, SNonce in M2, else zeros (12.7.2, 12.7.6, 12.7.7)
abbrev pub sent_nonce : Message → List ℕ → List ℕ
sent_nonce M1 nonce = nonce
sent_nonce M2 nonce = nonce
sent_nonce M3 nonce = nonce
sent_nonce M4 nonce = replicate 32 0
sent_nonce G1 nonce = replicate 32 0
sent_nonce G2 nonce = replicate 32 0

-- a packet number in six octets, lowest first, and two zeros (12.7.2)
abbrev pub rsc_octets : ℕ → List ℕ
rsc_octets rsc = take 6 (to_le_bytes w64 rsc) ++ replicate 2 0

-- the RSC in M3 and G1, which carry the group key, else zeros (12.7.2)
abbrev pub sent_rsc : Message → ℕ → List ℕ
sent_rsc M1 rsc = replicate 8 0
sent_rsc M2 rsc = replicate 8 0
sent_rsc M3 rsc = rsc_octets rsc
sent_rsc M4 rsc = replicate 8 0
sent_rsc G1 rsc = rsc_octets rsc
sent_rsc G2 rsc = replicate 8 0

-- M1, M4 and G2 are sent without key data, M2 with some (profile)
abbrev pub IsSentWith : Message → List ℕ → Type 0
IsSentWith M1 key_data = key_data ≡ []
IsSentWith M2 key_data = 0 < length key_data
IsSentWith M3 key_data = ⊤
IsSentWith M4 key_data = key_data ≡ []
IsSentWith G1 key_data = ⊤
IsSentWith G2 key_data = key_data ≡ []

-- a message before its MIC is put in: version 2, and zeros for what it does not carry (12.7.2, 12.7.6, 12.7.7)
abbrev pub sent_fields : Message → Akm → ℕ → List ℕ → ℕ → List ℕ → KeyFields
sent_fields message akm counter nonce rsc key_data = record {
  version = 2;
  information = sent_bits message + descriptor_version akm;
  key_length = sent_key_length message;
  counter = counter;
  nonce = sent_nonce message nonce;
  iv = replicate 16 0;
  rsc = sent_rsc message rsc;
  reserved = replicate 8 0;
  mic = replicate 16 0;
  key_data = key_data;
}

-- The six EAPOL-Key messages by their key information and key data (IEEE Std 802.11-2020, 12.7.2, 12.7.6, 12.7.7,
-- profile).
use Rattle.std.specs.Prelude.{◌≡◌, ⊤, ℕ, ◌%◌, ◌==◌, Bool, IsTrue, not, length, nat_lt}
use Rattle.std.specs.Int.{bit_at}
use Rattle.domain_base.specs.declared.names.Akm.{Akm}
use Rattle.domain_base.specs.declared.names.Akm.TheVariants.{Psk, PskSha256, FtPsk}
use Rattle.eapol_key.specs.declared.messages.Message.{Message}
use Rattle.eapol_key.specs.declared.messages.Message.TheVariants.{M1, M2, M3, M4, G1, G2}
use Rattle.eapol_key.specs.declared.messages.Asked.{Asked}
use Rattle.eapol_key.specs.declared.messages.Asked.TheVariants.{Set, Off, Any}
use Rattle.eapol_key.specs.declared.messages.Row.{Row}
use Rattle.eapol_key.specs.KeyFrame.{KeyFields}

-- the key descriptor version of a suite: 2 with suite 2 (HMAC-SHA-1-128), 3 with suites 4 and 6 (AES-128-CMAC) (12.7.2)
abbrev pub descriptor_version : Akm → ℕ
descriptor_version Psk = 2
descriptor_version PskSha256 = 3
descriptor_version FtPsk = 3

-- a row of the table below (12.7.6.2 to 12.7.6.5, 12.7.7, profile)
abbrev pub row : Asked → Asked → Asked → Asked → Asked → Asked → Asked → Row
row pairwise install ack mic secure encrypted key_data = record {
  pairwise = pairwise;
  install = install;
  ack = ack;
  mic = mic;
  secure = secure;
  encrypted = encrypted;
  key_data = key_data;
}

-- what a message asks of the bits of its key information, and whether it has key data. This project's choice is where
-- it is Any, and that a message is M2 only with key data and M4 only without: the standard tells these two apart by
-- Secure (12.7.6.2 to 12.7.6.5, 12.7.7.2, 12.7.7.3, profile)
abbrev pub row_of : Message → Row
-- the columns: Pairwise, Install, Ack, MIC, Secure, Encrypted, key data
row_of M1 = row Set Off Set Off Any Off Any
row_of M2 = row Set Off Off Set Any Off Set
row_of M3 = row Set Set Set Set Set Set Any
row_of M4 = row Set Off Off Set Set Off Off
row_of G1 = row Off Off Set Set Set Set Any
row_of G2 = row Off Off Off Set Set Off Any

-- the bit is 1, or the key data is there; it is not; either (12.7.6.2 to 12.7.6.5, 12.7.7, profile)
abbrev pub Meets : Asked → Bool → Type 0
Meets Set b = IsTrue b
Meets Off b = IsTrue (not b)
Meets Any b = ⊤

-- bit n of the key information is 1, counted from the lowest (12.7.6.2 to 12.7.6.5, 12.7.7, profile)
abbrev pub has_bit : ℕ → ℕ → Bool
has_bit information n = bit_at information n == 1

-- the bits of a key information are as a row asks (12.7.2)
pub record BitsFit (row : Row) (information : ℕ) : Type 0 where
  pub pairwise : Meets row.pairwise (has_bit information 3)
  pub install : Meets row.install (has_bit information 6)
  pub ack : Meets row.ack (has_bit information 7)
  pub mic : Meets row.mic (has_bit information 8)
  pub secure : Meets row.secure (has_bit information 9)
  pub encrypted : Meets row.encrypted (has_bit information 12)

-- the fields are those of this message under this AKM: bits 0 to 2 are the descriptor version, Error and Request are 0,
-- the row of the message fits. Other bits and fields are not looked at (12.7.2)
pub record IsMessage (akm : Akm) (message : Message) (f : KeyFields) : Type 0 where
  pub version : f.information % 8 ≡ descriptor_version akm
  pub error : IsTrue (not (has_bit f.information 10))
  pub request : IsTrue (not (has_bit f.information 11))
  pub bits : BitsFit (row_of message) f.information
  pub key_data : Meets (row_of message).key_data (nat_lt 0 (length f.key_data))

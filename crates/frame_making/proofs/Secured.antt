-- M2 with its Secure bit set.
use Rattle.std.proofs.Common.{◌≡◌, ℕ, Bool, true, false, List, refl}
use Rattle.std.specs.Prelude.{slice_set}
use Rattle.domain_base.specs.declared.names.Akm.{Akm}
use Rattle.domain_base.specs.declared.names.Akm.TheVariants.{Psk, PskSha256, FtPsk}
use Rattle.eapol_key.specs.declared.messages.Message.TheVariants.{M2}
use Rattle.eapol_key.specs.Octets.{frame_octets}
use Rattle.eapol_key.specs.Sent.{sent_fields}
use Rattle.domain_rules.specs.Frames.{secured}
use Rattle.frame_making.specs.Second.{marked}

-- M2 before its MIC is put in
abbrev pub m2_octets : Bool → Akm → ℕ → List ℕ → List ℕ → List ℕ
m2_octets false akm counter snonce key_data = frame_octets (sent_fields M2 akm counter snonce 0 key_data)
m2_octets true akm counter snonce key_data = frame_octets (secured (sent_fields M2 akm counter snonce 0 key_data))

secure_set : (akm : Akm) (counter : ℕ) (snonce key_data : List ℕ) → slice_set (frame_octets (sent_fields M2 akm counter snonce 0 key_data)) 5 3 ≡ frame_octets (secured (sent_fields M2 akm counter snonce 0 key_data))
unfolding frame_octets
secure_set Psk counter snonce key_data = refl
secure_set PskSha256 counter snonce key_data = refl
secure_set FtPsk counter snonce key_data = refl

pub marked_is : (secure : Bool) (akm : Akm) (counter : ℕ) (snonce key_data : List ℕ) → marked secure (frame_octets (sent_fields M2 akm counter snonce 0 key_data)) ≡ m2_octets secure akm counter snonce key_data
marked_is false akm counter snonce key_data = refl
marked_is true akm counter snonce key_data = secure_set akm counter snonce key_data

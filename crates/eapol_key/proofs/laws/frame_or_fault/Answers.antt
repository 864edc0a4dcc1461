use Rattle.std.proofs.Common.{arith, refl}
use Rattle.eapol_key.proofs.Faults.{sound_from_none}
use Rattle.eapol_key.proofs.laws.frame_or_fault.Goals as goal

pub returns-clause-faultless : goal.returns-clause-faultless
returns-clause-faultless c octets none =
    let sound = sound_from_none octets none in
    record {
      fields = refl;
      long = sound.body_high;
      version_low = sound.version_low;
      version_high = sound.version_high;
      packet_type = sound.packet_type;
      body_length = refl;
      descriptor = sound.descriptor;
      key_data_length = omega (arith, sound.key_data_length);
    }

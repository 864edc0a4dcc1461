-- Frames as the reader gives them (profile).
use Rattle.std.specs.Prelude.{length}
use Rattle.eapol_key.specs.declared.frame.KeyFrame.{KeyFrame}
use Rattle.eapol_key.specs.KeyFrame.{KeyFields, SpellsKeyFrame}

-- what a frame says
abbrev pub fields_of : KeyFrame → KeyFields
fields_of f = record {
  version = f.version;
  information = f.information;
  key_length = f.key_length;
  counter = f.counter;
  nonce = f.nonce;
  iv = f.iv;
  rsc = f.rsc;
  reserved = f.reserved;
  mic = f.mic;
  key_data = f.key_data.now;
}

-- a frame that octets spell: its own, from their front to their end
abbrev pub IsKeyFrame : KeyFrame → Type 0
IsKeyFrame f = SpellsKeyFrame f.octets.now (fields_of f) (length f.octets.now)

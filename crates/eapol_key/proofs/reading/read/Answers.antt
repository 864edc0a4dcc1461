use Rattle.std.proofs.Common.{◌≡◌, ◌+◌, ℕ, List, arith, None, refl, ◌∙◌, ap}
use Rattle.std.specs.Int.{w16, w64, from_be_bytes}
use Rattle.domain_base.specs.Places.{big_endian_at}
use Rattle.eapol_key.specs.KeyFrame.{key_frame_fault}
use Rattle.eapol_key.proofs.Fronts.{cut_spells}
use Rattle.eapol_key.proofs.Faults.{sound_from_none, same_frame, key_data_from_cuts}
use Rattle.eapol_key.proofs.reading.read.Goals as goal

pub returns-clause-found : goal.returns-clause-found
returns-clause-found c =
    let none : key_frame_fault c.args.octets.now ≡ None = cc in
    let sound = sound_from_none c.args.octets.now none in
    let used : big_endian_at w16 2 c.args.octets.now ≡ c.from-used.result = cc in
    let counter = c.from_be_bytes-counter.ensures ∙ ap (λ (w : List ℕ). from_be_bytes w64 w) c.array_at.ensures in
    let key_data = key_data_from_cuts _ _ _ _ (omega (arith, used, sound.body_low)) c.split_at.ensures.front c.split_at-2.ensures.back in
    record {
      fields = rw (c.big_u16_at-2.ensures, c.big_u16_at-3.ensures, counter, c.array_at-2.ensures, c.array_at-3.ensures, c.array_at-4.ensures, c.array_at-5.ensures, c.array_at-6.ensures, key_data) refl;
      long = omega (arith, used, sound.body_high);
      version_low = sound.version_low;
      version_high = sound.version_high;
      packet_type = sound.packet_type;
      body_length = ap (λ (n : ℕ). n + 4) used;
      descriptor = sound.descriptor;
      key_data_length = omega (arith, used, sound.key_data_length);
    }

pub returns-clause-only : goal.returns-clause-only
returns-clause-only c f used s = same_frame _ _ f _ used (returns-clause-found c) s

pub returns-clause-frame : goal.returns-clause-frame
returns-clause-frame c = cut_spells _ _ _ _ (returns-clause-found c) c.split_at.ensures.front

use Rattle.std.proofs.Common.{refl}
use Rattle.data_frames.proofs.Integrity.{integrity_numbered, integrity_others, integrity_announces}
use Rattle.data_frames.proofs.laws.integrity_keys_in_use_stand.Goals as goal

pub returns-clause-made : goal.returns-clause-made
returns-clause-made c = λ b key id h is. record { current_is = is; used = refl }

pub returns-clause-used : goal.returns-clause-used
returns-clause-used c = integrity_numbered

pub returns-clause-others : goal.returns-clause-others
returns-clause-others c = integrity_others

pub returns-clause-announces : goal.returns-clause-announces
returns-clause-announces c = integrity_announces

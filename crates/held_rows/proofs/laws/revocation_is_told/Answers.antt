use Rattle.held_rows.proofs.Revoking.{revocation_told, behind_revocation}
use Rattle.held_rows.proofs.laws.revocation_is_told.Goals as goal

pub returns : goal.returns
returns c = record { answer = revocation_told; rows = behind_revocation }

use Rattle.std.proofs.Common.{sym, ap, ◌∙◌}
use Rattle.ccmp_guard.specs.Roles.{key_id}
use Rattle.ccmp_guard.specs.Held.{Held}
use Rattle.data_frames.proofs.key.DataKey.key_id.Goals as goal

pub returns-in-Group : goal.returns-in-Group
returns-in-Group c = sym (ap key_id c.in-Group.is) ∙ (ap key_id (sym c.self.invariant.2) ∙ ap (λ (h : Held). key_id h.role) c.self.view_is)

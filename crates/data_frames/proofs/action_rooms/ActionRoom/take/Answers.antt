use Rattle.std.proofs.Common.{◌∙◌, ◌∷◌, ℕ, List, ap}
use Rattle.std.proofs.lemmas.List.{append-nil}
use Rattle.domain_rules.specs.ManagementFrames.{bip_input}
use Rattle.data_frames.proofs.action_rooms.ActionRoom.take.Goals as goal

pub returns-clause-content : goal.returns-clause-content
returns-clause-content c = c.in_ok-content.ensures.items ∙ c.before_mme.ensures

pub returns-clause-covered : goal.returns-clause-covered
returns-clause-covered c =
    c.in_ok-covered.ensures
    ∙ ap (λ (l : List ℕ). 4 ∷ bip_input c.args.frame.now.header.octets.now l) (append-nil c.before_mic-front.result.now ∙ c.before_mic-front.ensures)

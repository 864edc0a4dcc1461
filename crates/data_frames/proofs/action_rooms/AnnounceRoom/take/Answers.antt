use Rattle.std.proofs.Common.{◌∙◌, ◌++◌, ◌∷◌, ℕ, List, ap₂}
use Rattle.domain_rules.specs.ManagementFrames.{bip_input}
use Rattle.data_frames.proofs.action_rooms.AnnounceRoom.take.Goals as goal

pub returns-clause-covered : goal.returns-clause-covered
returns-clause-covered c =
    c.in_ok-covered.ensures
    ∙ ap₂ (λ (v w : List ℕ). 4 ∷ bip_input c.args.header.now (v ++ w)) (c.deref.ensures.value ∙ c.in_ok-content.ensures) c.mme_front.ensures

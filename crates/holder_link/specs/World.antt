-- Both ends with their history (profile).
use Rattle.std.specs.Prelude.{◌≡◌, List, ◌∷◌}
use Rattle.link_steps.specs.declared.steps.LinkEvent.{LinkEvent}
use Rattle.link_steps.specs.declared.steps.Step.{Step}
use Rattle.holder_link.specs.Acts.{BothHave, Acts, after}
use Rattle.holder_link.specs.History.{Link, both_after, IsRun}

-- what the ends have now, and what happened, the newest step first
pub record Linked : Type 0 where
  pub both : BothHave
  pub steps : List Step

-- the ends began with that, and what happened is a run of theirs
pub record IsOf (link : Link) (w : Linked) : Type 0 where
  pub both : w.both ≡ both_after link w.steps
  pub run : IsRun link w.steps

-- one step of that event more
pub record Happens (old : Linked) (event : LinkEvent) (new : Linked) : Type 0 where
  pub step : Step
  pub event_is : step.event ≡ event
  pub acts : Acts old.both step.event step.sent step.answer
  pub both : new.both ≡ after step.event step.answer old.both
  pub steps : new.steps ≡ step ∷ old.steps

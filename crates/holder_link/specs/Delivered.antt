-- Histories in which a key is learnt, and which meet what the law on what is learnt rests on (profile).
use Rattle.std.specs.Prelude.{◌≡◌, ℕ, List, [], ◌∷◌}
use Rattle.key_hierarchy.specs.declared.answers.PullAnswer.{PullAnswer}
use Rattle.link_steps.specs.declared.steps.LinkAnswer.TheVariants.{Learnt}
use Rattle.link_steps.specs.declared.steps.Step.{Step}
use Rattle.holder_link.specs.History.{Somewhere, Link, IsRun}
use Rattle.holder_link.specs.Learning.{NoncesDiffer, Unforged}

-- a link key and one access point of that R0KH-ID, which has no rows yet
abbrev pub without_rows : List ℕ → List ℕ → List ℕ → Link
without_rows kck kek r0kh_id = record { kck = kck; kek = kek; ids = r0kh_id ∷ []; begun = [] }

-- a history of the two ends that meets both premises, and in which that answer to question n is learnt
pub record IsDelivered (link : Link) (n : ℕ) (answer : PullAnswer) (h : List Step) : Type 0 where
  pub run : IsRun link h
  pub nonces_differ : NoncesDiffer h
  pub unforged : Unforged h
  pub learnt : Somewhere (λ s _. s.answer ≡ Learnt n answer) h

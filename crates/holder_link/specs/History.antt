-- What happened at the two ends, step by step. Histories are newest first (profile).
use Rattle.std.specs.Prelude.{ℕ, List, [], ◌∷◌, ⊤, ◌⊎◌}
use Rattle.key_holders.specs.declared.rows.HeldRow.{HeldRow}
use Rattle.link_steps.specs.declared.steps.Step.{Step}
use Rattle.holder_link.specs.Acts.{BothHave, Acts, after}
use Rattle.holder_link.specs.Asker.{no_questions}

-- at each step, with those before it
abbrev pub Everywhere : (Step → List Step → Type 0) → List Step → Type 0
Everywhere P [] = ⊤
Everywhere P (s ∷ before) = P s before × Everywhere P before

-- at some step, with those before it
abbrev pub Somewhere : (Step → List Step → Type 0) → List Step → Type 0
Somewhere P [] = ⊥
Somewhere P (s ∷ before) = P s before ⊎ Somewhere P before

-- what the two ends begin with: the link key, the R0KH-ID of the one access point, and its rows
pub record Link : Type 0 where
  pub kck : List ℕ
  pub kek : List ℕ
  pub ids : List (List ℕ)
  pub begun : List HeldRow

-- what both ends have after a history
abbrev pub both_after : Link → List Step → BothHave
both_after link [] = record {
  server = record { kck = link.kck; kek = link.kek };
  asking = no_questions link.kck link.kek;
  ids = link.ids;
  rows = link.begun;
}
both_after link (s ∷ before) = after s.event s.answer (both_after link before)

-- each step is one of the one Asker, or of the one Server over its key holders, after those before it
abbrev pub IsStep : Link → Step → List Step → Type 0
IsStep link s before = Acts (both_after link before) s.event s.sent s.answer

-- the steps are a run of these ends
abbrev pub IsRun : Link → List Step → Type 0
IsRun link h = Everywhere (IsStep link) h

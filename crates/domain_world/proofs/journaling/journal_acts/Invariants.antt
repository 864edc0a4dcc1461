use Rattle.std.proofs.Common.{◌≡◌, ◌≤◌, ◌+◌, length, vec_len, vec_capacity}
use Rattle.domain_rules.specs.Explained.{push}
use Rattle.domain_world.specs.Owning.{places}
use Rattle.domain_world.proofs.journaling.journal_acts.Given as goal

-- what waits still, put on the journal, makes what was to be made; there is room for it
abbrev pub invariant-loop-act : goal.invariant-loop-act
invariant-loop-act l =
    (push l.round l.node l.out.acts l.journal.entries ≡ push l.initial.round l.initial.node l.initial.out.acts l.initial.journal.entries)
    × (l.frames.items ≡ places l.journal.entries) × (length l.out.acts ≤ l.journal.spare) × (vec_len l.frames + length l.out.acts ≤ vec_capacity l.frames)
    × (l.initial.journal.spare + length l.out.acts ≤ l.journal.spare + length l.initial.out.acts)
    × (vec_len l.frames + length l.out.acts ≤ vec_len l.initial.frames + length l.initial.out.acts) × (vec_capacity l.initial.frames ≤ vec_capacity l.frames)
    × (l.out.spare ≡ l.initial.out.spare)

abbrev pub decreases-loop-act : goal.decreases-loop-act
decreases-loop-act l = length l.out.acts

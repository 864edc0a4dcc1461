-- What key holders may answer, by the entries of the access point that asks before the look, and by those of the holder up to the end of
-- its round, lists, NEWEST FIRST (IEEE Std 802.11-2020, 12.7.1.6, profile).
use Rattle.std.specs.Prelude.{ℕ, List}
use Rattle.key_hierarchy.specs.declared.answers.PullAnswer.{PullAnswer}
use Rattle.run_journal.specs.declared.domain.Domain.{Domain}
use Rattle.run_journal.specs.declared.acts.Entry.{Entry}
use Rattle.domain_rules.specs.Network.{holder_of}
use Rattle.domain_rules.specs.HeldRight.{Looking, AnsweredBy, GivesRightKey}

-- the look is answered rightly, in the network as it was before the round
abbrev pub HeldIn : Domain → List ℕ → Looking → PullAnswer → List Entry → List Entry → Type 0
HeldIn d id l answer own theirs = AnsweredBy (holder_of d id) l answer own theirs × GivesRightKey d id l answer

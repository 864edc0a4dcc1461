-- Acts that leave the rows.
use Rattle.std.proofs.Common.{◌≡◌, false, true≢false, List, [], ◌∷◌, refl}
use Rattle.domain_base.specs.declared.names.Node.{Node}
use Rattle.key_hierarchy.specs.declared.answers.PutAnswer.TheVariants as put
use Rattle.key_hierarchy.specs.declared.answers.RevokeAnswer.TheVariants as revoke
use Rattle.key_holders.specs.declared.rows.HeldRow.{HeldRow}
use Rattle.run_journal.specs.declared.domain.Domain.{Domain}
use Rattle.run_journal.specs.declared.acts.Act.{Act}
use Rattle.run_journal.specs.declared.acts.Act.TheVariants.{Put, Revoked}
use Rattle.run_journal.specs.Questions.{add}
use Rattle.held_rows.specs.Knows.{KnowsRows, moves_rows, LeaveRows}

pub none_at_first : (d : Domain) (n : Node) → KnowsRows d n [] []
none_at_first d n = record { count = refl; live_is = λ name. refl; station_is = λ name k low. refl; last = λ name k. refl; listed = λ name. tt; own = tt; suite = λ other. refl }

pub one_left : (d : Domain) (n : Node) (xs : List HeldRow) (e : Act) (h : List Act) → moves_rows e ≡ false → KnowsRows d n xs h → KnowsRows d n xs (e ∷ h)
one_left d n xs (Put x m p put.Held) h none at = absurd (true≢false none)
one_left d n xs (Revoked x m p revoke.Revoked) h none at = absurd (true≢false none)
one_left d n xs e h none at = record { count = at.count; live_is = at.live_is; station_is = at.station_is; last = at.last; listed = at.listed; own = at.own; suite = at.suite }

pub left : (d : Domain) (n : Node) (xs : List HeldRow) (g h : List Act) → LeaveRows g → KnowsRows d n xs h → KnowsRows d n xs (add g h)
left d n xs [] h none at = at
left d n xs (e ∷ g) h none at = left d n xs g (e ∷ h) none.1 (one_left d n xs e h none.0 at)

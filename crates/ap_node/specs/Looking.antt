-- What an access point tells of the key holders that it asks (IEEE Std 802.11-2020, 13.8.2, profile).
use Rattle.std.specs.Prelude.{ℕ, List}
use Rattle.domain_base.specs.declared.names.Mac.{Mac}
use Rattle.domain_base.specs.declared.names.Node.TheVariants.{Ap, Sta}
use Rattle.key_hierarchy.specs.declared.answers.PullAnswer.{PullAnswer}
use Rattle.key_holders.specs.declared.rows.HeldRow.{HeldRow}
use Rattle.key_holders.specs.Pulls.{Answers}
use Rattle.run_journal.specs.declared.domain.Domain.{Domain}
use Rattle.domain_rules.specs.Network.{mac}

-- access point a asked by its own address as R1KH-ID, for that of the station, and was answered by what key holders had
abbrev pub AnsweredBy : (List ℕ → List ℕ → Mac → Mac → PullAnswer → Type 0) → List (List ℕ) → List ℕ → (ℕ → List HeldRow) → Domain → ℕ
    → List ℕ → List ℕ → ℕ → PullAnswer → Type 0
AnsweredBy Pulls ids has rows d a id name k answer =
    Pulls id name (mac d (Ap a)) (mac d (Sta k)) answer × Answers ids has rows id name (mac d (Ap a)) (mac d (Sta k)) answer

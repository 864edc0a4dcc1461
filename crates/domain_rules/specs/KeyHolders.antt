-- What an access point puts with its key holder and revokes there. How many rows there are, and what is answered, is
-- this project's choice (IEEE Std 802.11-2020, 13.2.2, 13.4.2, profile).
use Rattle.std.specs.Prelude.{ℕ, List, [], ◌∷◌, replicate, nat_lt, Option, Some, None, if◌then◌else◌}
use Rattle.domain_base.specs.declared.names.Akm.{Akm}
use Rattle.domain_base.specs.declared.names.Akm.TheVariants.{FtPsk}
use Rattle.domain_base.specs.declared.names.Node.{Node}
use Rattle.key_hierarchy.specs.declared.answers.PutAnswer.{PutAnswer}
use Rattle.key_hierarchy.specs.declared.answers.PutAnswer.TheVariants.{Held, HeldAlready, Full}
use Rattle.key_hierarchy.specs.declared.answers.RevokeAnswer.{RevokeAnswer}
use Rattle.key_hierarchy.specs.declared.answers.RevokeAnswer.TheVariants as revoke
use Rattle.run_journal.specs.declared.domain.Domain.{Domain}
use Rattle.run_journal.specs.declared.acts.Act.{Act}
use Rattle.run_journal.specs.declared.acts.Act.TheVariants.{Put, Revoked}
use Rattle.run_journal.specs.Acts.{Derivation}
use Rattle.run_journal.specs.Holders.{row, rows}
use Rattle.domain_rules.specs.Network.{r0kh_id, root_at}
use Rattle.domain_rules.specs.FastTransition.{r0_name, root_name}

-- a key holder has room for so many rows, revoked ones counted (13.2.2, profile)
abbrev pub most_rows : ℕ
most_rows = 64

-- where a row is put: a live row of that name is held already; else there is room or not (13.2.2, profile)
abbrev pub put_answer : Option Node → ℕ → PutAnswer
put_answer (Some p) count = HeldAlready
put_answer None count = if nat_lt count most_rows then Held else Full

-- with suite 4 the access point of a four-way handshake puts the PMK-R0 of the station (13.2.2, profile)
abbrev pub put_acts_by : Akm → Domain → Node → List Act → Node → Derivation → List Act
put_acts_by FtPsk d n h p x = Put (r0kh_id d n) (r0_name x.inputs) p (put_answer (row (r0_name x.inputs) h) (rows h)) ∷ []
put_acts_by _ d n h p x = []

abbrev pub put_acts : Domain → Node → List Act → Node → Derivation → List Act
put_acts d n h p x = put_acts_by d.akm d n h p x

-- where a row is revoked: there is a live one of that name or not (profile)
abbrev pub revoke_answer : Option Node → RevokeAnswer
revoke_answer (Some p) = revoke.Revoked
revoke_answer None = revoke.Absent

-- the act of revoking the row of that name and station (profile)
abbrev pub revoke_named : Domain → Node → List Act → Node → List ℕ → Act
revoke_named d n h p name = Revoked (r0kh_id d n) name p (revoke_answer (row name h))

-- with suites 2 and 6 there are no rows, and the name is 16 zero octets (profile)
abbrev pub revoke_acts_by : Akm → Domain → Node → List Act → Node → List Act
revoke_acts_by FtPsk d n h p = revoke_named d n h p (root_name d (root_at d p (r0kh_id d n)) p) ∷ []
revoke_acts_by _ d n h p = Revoked (r0kh_id d n) (replicate 16 0) p revoke.Absent ∷ []

abbrev pub revoke_acts : Domain → Node → List Act → Node → List Act
revoke_acts d n h p = revoke_acts_by d.akm d n h p

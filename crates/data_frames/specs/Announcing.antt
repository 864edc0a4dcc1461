-- What an announcement under an IGTK in use comes to (IEEE Std 802.11-2020, 12.5.4.4, profile).
use Rattle.std.specs.Prelude.{suc, nat_lt, if◌then◌else◌}
use Rattle.replay_window.specs.Numbers.{last_number}
use Rattle.run_journal.specs.declared.acts.Why.TheVariants as why
use Rattle.run_journal.specs.declared.acts.Outcome.{Outcome}
use Rattle.run_journal.specs.declared.acts.Outcome.TheVariants.{Done, Idle}
use Rattle.domain_rules.specs.PacketNumbers.{SendKey}

-- the key after one more packet number was used
abbrev pub with_used : SendKey → SendKey
with_used k = record { key = k.key; id = k.id; used = suc k.used }

-- the key after an announcement: of a key whose last number was used none is used
abbrev pub announced_once : SendKey → SendKey
announced_once k = if nat_lt k.used last_number then with_used k else k

-- what an announcement comes to: it is sent, or nothing is done where the last number was used
abbrev pub announced_outcome : SendKey → Outcome
announced_outcome k = if nat_lt k.used last_number then Done else Idle why.Spent

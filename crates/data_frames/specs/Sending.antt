-- What sending under a key in use comes to (profile).
use Rattle.std.specs.Prelude.{nat_lt, if◌then◌else◌}
use Rattle.replay_window.specs.Numbers.{last_number}
use Rattle.ccmp_guard.specs.Roles.{key_id}
use Rattle.ccmp_guard.specs.Held.{Held, with_next}
use Rattle.run_journal.specs.declared.acts.Why.TheVariants as why
use Rattle.run_journal.specs.declared.acts.Outcome.{Outcome}
use Rattle.run_journal.specs.declared.acts.Outcome.TheVariants.{Done, Idle}
use Rattle.domain_rules.specs.PacketNumbers.{SendKey}

-- the key, as the rules see it
abbrev pub send_key_of : Held → SendKey
send_key_of k = record { key = k.key; id = key_id k.role; used = k.used }

-- a key in use after one more frame
abbrev pub used_once : Held → Held
used_once k = if nat_lt k.used last_number then with_next k else k

-- what sending comes to: done, or idle where the last number was used
abbrev pub outcome_under : Held → Outcome
outcome_under k = if nat_lt k.used last_number then Done else Idle why.Spent

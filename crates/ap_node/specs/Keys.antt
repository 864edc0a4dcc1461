-- The pairwise keys in use at an access point (IEEE Std 802.11-2020, 12.5.3, profile).
use Rattle.std.specs.Prelude.{◌≡◌, ◌++◌, ℕ, Bool, cond, List, Option, Some, None, option_map, replicate}
use Rattle.domain_base.specs.declared.names.Node.{Node}
use Rattle.domain_base.specs.declared.names.Peer.{Peer}
use Rattle.ccmp_guard.specs.declared.guard.Role.TheVariants.{Pairwise}
use Rattle.ccmp_guard.specs.Held.{Held}
use Rattle.run_journal.specs.declared.domain.Domain.{Domain}
use Rattle.run_journal.specs.declared.reply.Keyed.{Keyed}
use Rattle.run_journal.specs.declared.acts.Reason.TheVariants as reason
use Rattle.run_journal.specs.declared.acts.Outcome.TheVariants.{Refused}
use Rattle.run_journal.specs.declared.acts.Act.{Act}
use Rattle.run_journal.specs.Acts.{Derivation}
use Rattle.domain_rules.specs.DataRows.{send_acts_by}
use Rattle.frame_intake.specs.SealedFields.{SealedFields}
use Rattle.node_base.specs.Events.{Seen}
use Rattle.data_frames.specs.Holding.{HoldsPairwise}
use Rattle.data_frames.specs.Sending.{send_key_of, used_once}
use Rattle.data_frames.specs.Taking.{refusal, IsOpenedUnder}

-- a pairwise key as it is installed
abbrev pub fresh : List ℕ → Held
fresh tk = record { role = Pairwise; key = tk; used = 0; kept = replicate 16 0 }

-- the key in use, after that one was installed or none was
abbrev pub key_after : Option Keyed → Option Held → Option Held
key_after None k = k
key_after (Some y) k = Some (fresh y.ptk.tk)

-- and after the session was given up or was not
abbrev pub key_of_session : Bool → Option Held → Option Held
key_of_session there k = cond there k None

-- of the session with p, where there is one, the key is in use
abbrev pub HasKey : Node → Option Derivation → Option Held → List Act → Type 0
HasKey p None None h = Unit {0}
HasKey p None (Some k) h = ⊥
HasKey p (Some x) None h = ⊥
HasKey p (Some x) (Some k) h = HoldsPairwise p x.ptk.tk k h

-- what sending under a key in use adds, or without one
abbrev pub sent_under : Domain → Node → Peer → Option ℕ → List ℕ → Option Held → List Act
sent_under d n q tid plain o = send_acts_by d n q tid plain (option_map send_key_of o)

-- the key in use after one more frame
abbrev pub used_in : Option Held → Option Held
used_in o = option_map used_once o

-- the key in use before and after these octets of p, which are that protected data, and what is seen of it: without one
-- they are refused
abbrev pub IsTakenUnder : Node → List ℕ → SealedFields → Option Held → Option Held → Seen → Type 0
IsTakenUnder p octets f None new s =
    (new ≡ None) × (s.outcome ≡ Refused reason.NoKey) × (s.waits ≡ s.waited ++ refusal p octets reason.NoKey)
IsTakenUnder p octets f (Some k) new s = (m : Held) × (new ≡ Some m) × IsOpenedUnder p octets f k m s

-- What goes out beside acceptances (IEEE Std 802.11-2020, 9.4.1.9).
-- For the code alone: no public contract speaks of it.
use Rattle.std.specs.Prelude.{◌≡◌, ℕ, [], Option, Some, None}
use Rattle.air_frame.specs.Sent.{ft_resp_octets, re_resp_octets}
use Rattle.run_journal.specs.declared.acts.Kind.TheVariants as kind
use Rattle.run_journal.specs.declared.acts.Reason.{Reason}
use Rattle.run_journal.specs.declared.reply.Reply.{Reply}
use Rattle.domain_rules.specs.Rows.{refused_status}
use Rattle.ft_exchange.specs.declared.place.Place.{Place}
use Rattle.ft_exchange.specs.Sent.{Sends}
use Rattle.ft_exchange.specs.State.{TargetState}

-- a refusal is answered where it has a status
abbrev pub RefusesAuthBy : Place → Option ℕ → Reply → Reply → Type 0
RefusesAuthBy w None old new = new ≡ old
RefusesAuthBy w (Some code) old new = Sends (ft_resp_octets w.peer.0 w.own.0 w.own.0 code []) kind.FtResp None old new

abbrev pub RefusesAuth : Place → Reason → Reply → Reply → Type 0
RefusesAuth w why old new = RefusesAuthBy w (refused_status why) old new

abbrev pub RefusesReassocBy : Place → Option ℕ → Reply → Reply → Type 0
RefusesReassocBy w None old new = new ≡ old
RefusesReassocBy w (Some code) old new = Sends (re_resp_octets w.peer.0 w.own.0 w.own.0 code 0 []) kind.ReResp None old new

abbrev pub RefusesReassoc : Place → Reason → Reply → Reply → Type 0
RefusesReassoc w why old new = RefusesReassocBy w (refused_status why) old new

-- the response of a pending attempt goes out again, where there is one
abbrev pub AnswersPending : Option TargetState → Reply → Reply → Type 0
AnswersPending None old new = new ≡ old
AnswersPending (Some s) old new = Sends s.stored kind.FtResp None old new

-- What an Action frame that is accepted had sealed is noted.
use Rattle.std.proofs.Common.{◌≡◌, ℕ, List, Option, Some, refl, sym, ap, subst, inl}
use Rattle.domain_base.specs.declared.names.Node.{Node}
use Rattle.air_frame.specs.Fields.{HeaderFields}
use Rattle.run_journal.specs.declared.domain.Domain.{Domain}
use Rattle.run_journal.specs.declared.acts.Kind.TheVariants as kind
use Rattle.run_journal.specs.declared.acts.Outcome.TheVariants.{Accepted}
use Rattle.run_journal.specs.declared.acts.Seal.{Seal}
use Rattle.run_journal.specs.declared.acts.Act.{Act}
use Rattle.run_journal.specs.declared.acts.Act.TheVariants.{Took}
use Rattle.run_journal.specs.Premises.{In}
use Rattle.domain_rules.specs.Network.{peer_of}
use Rattle.domain_rules.specs.Reading.{Acting, ReadsAt}
use Rattle.domain_rules.specs.Facts.{Facts}
use Rattle.domain_rules.specs.ManagementFrames.{action_seal, before_mic}
use Rattle.domain_rules.specs.Verdict.{Knows, verdict}
use Rattle.domain_rules.specs.Rows.{Take, By_action, TakeRow, Adds}
use Rattle.domain_rules.specs.Here.{here}
use Rattle.domain_rules.proofs.OneOutcome.{action_from, and_accepted, sender-some}
use Rattle.domain_rules.proofs.OneGroup.{take_by}
use Rattle.domain_rules.proofs.Pulled.{with_pulled}
use Rattle.domain_rules.proofs.SomeGroup.{HasRow}
use Rattle.domain_rules.proofs.Noted.{among_all}

action_taken : (d : Domain) (first : ℕ) (n : Node) (h : List Act) (octets : List ℕ) (header : HeaderFields) (body : List ℕ) (facts : Facts) (g : List Act)
    → ReadsAt d octets (Acting header body) → Knows d first n h (Acting header body) facts → TakeRow (here d first n) h octets g → verdict d first n h (Acting header body) facts ≡ Accepted
    → (s : Seal) × In (Took (peer_of d n header.a2) octets kind.Action Accepted (Some s)) g
action_taken d first n h octets header body facts g reads knows row accepted =
    let x = row.facts.pulled in
    let o = action_from d first n h header body (inl (and_accepted _ _ accepted)) in
    let from : peer_of d n header.a2 ≡ Some o.p = sender-some d n o.p header (peer_of d n header.a2) o.from in
    let seal : Seal = action_seal o.g.key header.octets (before_mic body) in
    let rows : HasRow d first n h octets (Acting header body) (with_pulled facts x) = (_, By_action (record { header = header; body = body; is = refl; p = o.p; from = from; accepted = accepted; k = o.g; under = o.under; says = refl })) in
    let same : g ≡ rows.0 = take_by d first n h octets g rows.0 row (record { r = Acting header body; reads = reads; facts = with_pulled facts x; knows = knows; row = rows.1 }) refl in
    (seal, subst (λ (l : List Act). In (Took (peer_of d n header.a2) octets kind.Action Accepted (Some seal)) l) (sym same) (inl (ap (λ (y : Option Node). Took y octets kind.Action Accepted (Some seal)) from)))

pub action_noted : (d : Domain) (first : ℕ) (n : Node) (h : List Act) (octets : List ℕ) (header : HeaderFields) (body : List ℕ) (facts : Facts) (g : List Act)
    → ReadsAt d octets (Acting header body) → Knows d first n h (Acting header body) facts → Adds (here d first n) h (Take octets) g → verdict d first n h (Acting header body) facts ≡ Accepted
    → (s : Seal) × In (Took (peer_of d n header.a2) octets kind.Action Accepted (Some s)) g
action_noted d first n h octets header body facts g reads knows adds accepted =
    let w = action_taken d first n h octets header body facts adds.acts reads knows adds.row accepted in
    (w.0, subst (λ (x : List Act). In (Took (peer_of d n header.a2) octets kind.Action Accepted (Some w.0)) x) (sym adds.is) (among_all d n h adds.acts _ w.1))

-- The MIC of an Action frame that was accepted verified.
use Rattle.std.proofs.Common.{◌≡◌, ℕ, Bool, true, false, List, Option, Some, refl, sym, subst, inl}
use Rattle.std.specs.Prelude.{nat_lt, if◌then◌else◌}
use Rattle.domain_base.specs.declared.names.Node.{Node}
use Rattle.air_frame.specs.Fields.{HeaderFields}
use Rattle.bip_guard.specs.Bip.{ipn_in, mic_verifies}
use Rattle.run_journal.specs.declared.domain.Domain.{Domain}
use Rattle.run_journal.specs.declared.acts.Reason.{Reason}
use Rattle.run_journal.specs.declared.acts.Reason.TheVariants as reason
use Rattle.run_journal.specs.declared.acts.Outcome.{Outcome}
use Rattle.run_journal.specs.declared.acts.Outcome.TheVariants.{Accepted, Refused}
use Rattle.run_journal.specs.declared.acts.Seal.{Seal}
use Rattle.run_journal.specs.declared.acts.Act.{Act}
use Rattle.run_journal.specs.Acts.{GroupKey}
use Rattle.domain_rules.specs.Network.{peer_of}
use Rattle.domain_rules.specs.Reading.{Reading, Acting, Reads}
use Rattle.domain_rules.specs.Facts.{Facts}
use Rattle.domain_rules.specs.ManagementFrames.{action_seal, integrity_key, before_mic, action_further_by, action_further}
use Rattle.domain_rules.specs.Verdict.{management_sender, first_verdict, further, and_then, unless_refused, verdict}
use Rattle.domain_rules.specs.Closing.{sender}
use Rattle.domain_rules.specs.DataRows.{ActionRow}
use Rattle.domain_rules.specs.Verified.{IsVerifiedMme}
use Rattle.domain_rules.specs.Here.{here}
use Rattle.domain_rules.proofs.OneOutcome.{action_from, and_accepted, from_named, sender-some}

-- it is from a peer, under an IGTK, above the kept number
pub record ActionOpened (d : Domain) (n : Node) (h : List Act) (header : HeaderFields) (body : List ℕ) (facts : Facts) : Type 0 where
  pub p : Node
  pub from : management_sender d n header ≡ Some p
  pub g : GroupKey
  pub under : integrity_key p h body ≡ Some g
  pub fresh : nat_lt facts.kept (ipn_in body) ≡ true
  pub verifies : mic_verifies g.key header.octets body ≡ true

tested : (c e : Bool) (why other : Reason) → unless_refused Accepted (if c then (if e then Accepted else Refused why) else Refused other) ≡ Accepted → (c ≡ true) × (e ≡ true)
tested true true why other s = (refl, refl)
tested true false why other s = absurd (cc s)
tested false e why other s = absurd (cc s)

pub action_opened : (d : Domain) (first : ℕ) (n : Node) (h : List Act) (header : HeaderFields) (body : List ℕ) (facts : Facts) → verdict d first n h (Acting header body) facts ≡ Accepted → ActionOpened d n h header body facts
action_opened d first n h header body facts accepted =
    let a : first_verdict d first n h (Acting header body) ≡ Accepted = and_accepted _ _ accepted in
    let o = action_from d first n h header body (inl a) in
    let opened : unless_refused Accepted (further d first n h (Acting header body) facts) ≡ Accepted = subst (λ (x : Outcome). and_then x (further d first n h (Acting header body) facts) ≡ Accepted) a accepted in
    let named : unless_refused Accepted (action_further h o.p header body facts.kept) ≡ Accepted =
    subst (λ (x : Outcome). unless_refused Accepted x ≡ Accepted) (from_named (management_sender d n header) o.p (λ p. action_further h p header body facts.kept) o.from) opened in
    let under : unless_refused Accepted (action_further_by header body facts.kept (Some o.g)) ≡ Accepted =
    subst (λ (x : Option GroupKey). unless_refused Accepted (action_further_by header body facts.kept x) ≡ Accepted) o.under named in
    let w = tested (nat_lt facts.kept (ipn_in body)) (mic_verifies o.g.key header.octets body) reason.Seal (reason.Replayed facts.kept) under in
    record { p = o.p; from = o.from; g = o.g; under = o.under; fresh = w.0; verifies = w.1 }

-- so it is noted of a frame whose MIC verified
pub mme_verified : (d : Domain) (first : ℕ) (n : Node) (h : List Act) (octets : List ℕ) (r : Reading) (facts : Facts) (g : List Act) (s : Seal) → Reads d.akm octets r → (row : ActionRow (here d first n) h octets r facts g)
    → s ≡ action_seal row.k.key row.header.octets (before_mic row.body) → IsVerifiedMme d.akm octets s
mme_verified d first n h octets r facts g s reads row is =
    let accepted : verdict d first n h (Acting row.header row.body) facts ≡ Accepted = subst (λ (x : Reading). verdict d first n h x facts ≡ Accepted) row.is row.accepted in
    let o = action_opened d first n h row.header row.body facts accepted in
    let from : peer_of d n row.header.a2 ≡ Some row.p = subst (λ (x : Reading). sender d n x ≡ Some row.p) row.is row.from in
    let other : peer_of d n row.header.a2 ≡ Some o.p = sender-some d n o.p row.header (peer_of d n row.header.a2) o.from in
    let same : o.p ≡ row.p = cc (other, from) in
    let under : integrity_key row.p h row.body ≡ Some o.g = subst (λ (x : Node). integrity_key x h row.body ≡ Some o.g) same o.under in
    let found : integrity_key row.p h row.body ≡ Some row.k = row.under in
    let key : o.g ≡ row.k = cc (under, found) in
    subst (λ (x : Seal). IsVerifiedMme d.akm octets x) (sym is) (record {
      header = row.header;
      body = row.body;
      reads = subst (λ (x : Reading). Reads d.akm octets x) row.is reads;
      verifies = subst (λ (x : GroupKey). mic_verifies x.key row.header.octets row.body ≡ true) key o.verifies;
      is = refl;
    })

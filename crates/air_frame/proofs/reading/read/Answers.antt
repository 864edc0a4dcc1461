use Rattle.std.proofs.Common.{◌≡◌, None, Some, sym, ◌∙◌, arith}
use Rattle.domain_base.proofs.OctetLemmas.{octets_by_entries}
use Rattle.air_frame.specs.Faults.{air_fault}
use Rattle.air_frame.proofs.Exact.{spelled_none, spelled_is, as_read}
use Rattle.air_frame.proofs.Written.{written, kept}
use Rattle.air_frame.proofs.reading.read.Goals as goal

pub returns-in-Some-clause-only : goal.returns-in-Some-clause-only
returns-in-Some-clause-only c f s =
    let none : air_fault c.args.bytes.now ≡ None = spelled_none c.args.bytes.now f s in
    let some : air_fault c.args.bytes.now ≡ Some c.in-Some.fault = sym c.fault_of.ensures ∙ c.in-Some.is in
    absurd cc

pub returns-in-None-clause-found : goal.returns-in-None-clause-found
returns-in-None-clause-found c = as_read c.args.bytes.now _ (sym c.fault_of.ensures ∙ c.in-None.is) c.frame_of.ensures

pub returns-in-None-clause-spelled : goal.returns-in-None-clause-spelled
returns-in-None-clause-spelled c = record {
  octets = c.args.bytes.now;
  bound = octets_by_entries c.args.bytes.now (λ i. omega (arith, c.type_inv.bytes i));
  spelled = returns-in-None-clause-found c;
}

pub returns-in-None-clause-again : goal.returns-in-None-clause-again
returns-in-None-clause-again c k =
    written c.args.bytes.now (octets_by_entries c.args.bytes.now (λ i. omega (arith, c.type_inv.bytes i))) _ (returns-in-None-clause-found c) (kept c.frame_of.result k)

pub returns-in-None-clause-only : goal.returns-in-None-clause-only
returns-in-None-clause-only c f s = c.frame_of.ensures ∙ sym (spelled_is c.args.bytes.now f s)

pub returns-in-None-clause-fault : goal.returns-in-None-clause-fault
returns-in-None-clause-fault c = sym c.fault_of.ensures ∙ c.in-None.is

use Rattle.std.proofs.Common.{◌≡◌, ℕ, List, Result, Ok, Err, ap, ◌∙◌, rules}
use Rattle.std.specs.Prelude.{IfOk, IfErr, IsOkAnd}
use Rattle.rsn_elements.specs.declared.framing.Within.{Within}
use Rattle.rsn_elements.specs.declared.faults.FaultKind.{FaultKind}
use Rattle.rsn_elements.specs.declared.faults.ElementFault.{ElementFault}
use Rattle.rsn_elements.specs.declared.reading.Elements.{Elements}
use Rattle.rsn_elements.specs.Elements.{ElementFields, SpellsElements, HasRaw}
use Rattle.rsn_elements.specs.Faults.{HasElementFault}
use Rattle.rsn_elements.specs.Fields.{element_fields}
use Rattle.rsn_elements.proofs.Unique.{has_raw}
use Rattle.rsn_elements.proofs.Apart.{one_value, value_or_fault, one_fault}
use Rattle.rsn_elements.proofs.reading.read_elements.Goals as goal

-- an answer that is right is the only one
only_value : (within : Within) (octets : List ℕ) (r : Result Elements ElementFault) → IfOk r (λ e. SpellsElements within octets (element_fields e)) → IfErr r (λ e. HasElementFault within octets e.place e.kind)
    → (f : ElementFields) → SpellsElements within octets f → IsOkAnd r (λ e. element_fields e ≡ f)
only_value within octets (Ok e) found fault f s = one_value within octets _ f found s
only_value within octets (Err e) found fault f s = absurd (value_or_fault within octets f e.place e.kind s fault)

only_fault : (within : Within) (octets : List ℕ) (r : Result Elements ElementFault) → IfOk r (λ e. SpellsElements within octets (element_fields e)) → IfErr r (λ e. HasElementFault within octets e.place e.kind)
    → (place : ℕ) (kind : FaultKind) → HasElementFault within octets place kind → r ≡ Err (record { place = place; kind = kind })
only_fault within octets (Ok e) found fault place kind h = absurd (value_or_fault within octets _ place kind found h)
only_fault within octets (Err e) found fault place kind h =
    let same = one_fault within octets e.place place e.kind kind fault h in
    ap (λ (p : ℕ). Err (record { place = p; kind = e.kind })) same.0 ∙ ap (λ (k : FaultKind). Err (record { place = place; kind = k })) same.1

raw_value : (within : Within) (octets : List ℕ) (r : Result Elements ElementFault) → IfOk r (λ e. SpellsElements within octets (element_fields e)) → IfOk r (λ e. HasRaw (element_fields e))
raw_value within octets (Ok e) found = has_raw within octets _ found
raw_value within octets (Err e) found = tt

pub returns-clause-raw : goal.returns-clause-raw
returns-clause-raw c = raw_value c.args.within c.args.bytes.now c.gathered_from.result c.gathered_from.ensures.found

pub returns-clause-only : goal.returns-clause-only
returns-clause-only c = only_value c.args.within c.args.bytes.now c.gathered_from.result c.gathered_from.ensures.found c.gathered_from.ensures.fault

pub returns-clause-first : goal.returns-clause-first
returns-clause-first c = only_fault c.args.within c.args.bytes.now c.gathered_from.result c.gathered_from.ensures.found c.gathered_from.ensures.fault

pub returns-clause-fault : goal.returns-clause-fault
returns-clause-fault c = search rules

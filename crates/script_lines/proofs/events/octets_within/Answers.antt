use Rattle.std.proofs.Common.{sym, ◌∙◌}
use Rattle.script_lines.specs.Refusals.{fault_of}
use Rattle.script_lines.proofs.Injected.{few-octets, fits-within, past-within, digits-within}
use Rattle.script_lines.proofs.events.octets_within.Goals as goal

pub returns-then-most-text-clause-says : goal.returns-then-most-text-clause-says
returns-then-most-text-clause-says c = past-within c.args.text.now c.args.most (fault_of c.args.many) (sym c.is_octets.ensures ∙ c.if-not-is_octets.false) c.if-most-text.true

pub returns-else-most-text-clause-digits : goal.returns-else-most-text-clause-digits
returns-else-most-text-clause-digits c = digits-within c.args.text.now (sym c.is_octets.ensures ∙ c.if-not-is_octets.false)

pub returns-else-most-text-clause-few : goal.returns-else-most-text-clause-few
returns-else-most-text-clause-few c = few-octets c.args.text.now c.args.most (sym c.is_octets.ensures ∙ c.if-not-is_octets.false) c.if-most-text.false

pub returns-else-most-text-clause-says : goal.returns-else-most-text-clause-says
returns-else-most-text-clause-says c = fits-within c.args.text.now c.args.most (fault_of c.args.many) (sym c.is_octets.ensures ∙ c.if-not-is_octets.false) c.if-most-text.false

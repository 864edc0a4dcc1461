use Rattle.audit_rules.proofs.Form.{form_happens}
use Rattle.audit_rules.proofs.laws.events_in_form_happen.Goals as goal

pub returns : goal.returns
returns c = form_happens

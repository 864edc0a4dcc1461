use Rattle.std.proofs.Common.{◌∙◌, length, sym}
use Rattle.std.proofs.lemmas.Bool.{eqb-false}
use Rattle.link_runs.proofs.Sendings.{sent_some, some_octets, unsent_some}
use Rattle.link_runs.proofs.steps.send.Goals as goal

pub returns-clause-sent : goal.returns-clause-sent
returns-clause-sent g c = sent_some _ _ _ _ c.send.result (eqb-false (length c.args.octets.now) 0 (sym c.is_empty.ensures ∙ c.if-is_empty.false)) c.send.ensures.sent

pub returns-clause-unsent : goal.returns-clause-unsent
returns-clause-unsent g c = unsent_some _ _ _ _ c.send.result c.send.ensures.sent

pub returns-clause-some : goal.returns-clause-some
returns-clause-some g c = some_octets c.args.octets.now c.send.result (eqb-false (length c.args.octets.now) 0 (sym c.is_empty.ensures ∙ c.if-is_empty.false))

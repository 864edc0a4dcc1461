use Rattle.std.proofs.Common.{None, sym, ◌∙◌}
use Rattle.command_words.specs.declared.Command.TheVariants as ask
use Rattle.domain_cli.specs.Promises.{outside}
use Rattle.domain_cli.proofs.Unasked.{asks_one}
use Rattle.domain_cli.proofs.Unbegun.{no_command, promised, unread_words}
use Rattle.domain_cli.proofs.top.run_with.Goals as goal

-- the words could not be read
pub returns-in_default : goal.returns-in_default
returns-in_default g c = unread_words c.looks_are_right.ensures _ _ _ c.requires

pub returns-in-Some-Replay : goal.returns-in-Some-Replay
returns-in-Some-Replay g c =
    let is = asks_one _ _ _ ask.Replay c.in-Ok.ensures c.in-Some-Replay.is (rw c.in-Some-Replay.is at c.in-Some-Replay.field-0-is) in
    let rest = outside None 0 None 0 (g.A.Air.told c.args.air.now) (g.A.Air.faults c.args.air.now) (g.D.Draws.last c.args.draws.now) (g.D.Draws.faults c.args.draws.now) in
    promised _ ask.Replay _ _ _ _ is (c.replayed.ensures rest)

pub returns-in-Some-Journal : goal.returns-in-Some-Journal
returns-in-Some-Journal g c =
    let is = asks_one _ _ _ ask.Journal c.in-Ok.ensures c.in-Some-Journal.is (rw c.in-Some-Journal.is at c.in-Some-Journal.field-0-is) in
    let rest = outside None 0 None 0 (g.A.Air.told c.args.air.now) (g.A.Air.faults c.args.air.now) (g.D.Draws.last c.args.draws.now) (g.D.Draws.faults c.args.draws.now) in
    promised _ ask.Journal _ _ _ _ is (c.journaled.ensures rest)

pub returns-in-Some-Live : goal.returns-in-Some-Live
returns-in-Some-Live g c =
    let live = ask.Live c.in-Some-Live.field-0-0 in
    let is = asks_one _ _ _ live c.in-Ok.ensures c.in-Some-Live.is (rw c.in-Some-Live.is at c.in-Some-Live.field-0-is) in
    promised _ live _ _ _ _ is (c.lived.ensures c.in-Some-Live.field-0-0)

pub returns-in-Some-Storm : goal.returns-in-Some-Storm
returns-in-Some-Storm g c =
    let storm = ask.Storm c.in-Some-Storm.number in
    let is = asks_one _ _ _ storm c.in-Ok.ensures c.in-Some-Storm.is (rw c.in-Some-Storm.is at c.in-Some-Storm.field-0-is) in
    let rest = outside (g.S.Source.left c.args.source.now) (g.S.Source.faults c.args.source.now) None 0 (g.A.Air.told c.args.air.now) (g.A.Air.faults c.args.air.now) (g.D.Draws.last c.args.draws.now) (g.D.Draws.faults c.args.draws.now) in
    promised _ storm _ _ _ _ is (c.stormed.ensures rest)

pub returns-in-Some-Link : goal.returns-in-Some-Link
returns-in-Some-Link g c =
    let end = c.in-Some-Link.end in
    let asked = ask.Link c.in-Some-Link.field-0-0 end in
    let is = asks_one _ _ _ asked c.in-Ok.ensures c.in-Some-Link.is (rw c.in-Some-Link.is at c.in-Some-Link.field-0-is) in
    promised _ asked _ _ _ _ is (c.linked.ensures c.in-Some-Link.field-0-0)

pub returns-in-None : goal.returns-in-None
returns-in-None g c = no_command _ _ _ (sym c.in-Ok.ensures ∙ c.in-None.is) c.requires

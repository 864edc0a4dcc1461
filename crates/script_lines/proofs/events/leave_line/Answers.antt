use Rattle.script_lines.proofs.events.leave_line.Goals as goal

pub returns-clause-can : goal.returns-clause-can
returns-clause-can c sizes = c.in-Some-listed_sta.ensures.inside

use Rattle.script_runs.proofs.Blamed.{HandsAll, links_rose, links_told, draws_told}
use Rattle.script_runs.proofs.Returned.{meets}
use Rattle.script_runs.proofs.reading.live.Goals as goal

pub returns-clause-told : goal.returns-clause-told
returns-clause-told g c =
    let told = c.read_script-ending.ensures.told in
    (told.0, told.1, told.4.draft, told.4.rounds, told.2, told.3, told.4.tells, meets g.A.L.Link.told c.read_script-ending.result.found told.4.draft told.4.rounds _ _ _ _ _ _ _ told.4.met c.give_back.ensures.returned)

pub returns-clause-written : goal.returns-clause-written
returns-clause-written g c = c.read_script-ending.ensures.written

pub returns-clause-link_fault : goal.returns-clause-link_fault
returns-clause-link_fault g c is =
    let h : HandsAll g.A.L.Link.faults _ _ _ = record { later = c.give_back.ensures.later; cause = c.give_back.ensures.cause; unfailed = c.give_back.ensures.unfailed } in
    links_rose g.A.L.Link.faults _ _ _ _ _ _ _ _ c.read_script-ending.ensures.blamed h is

pub returns-clause-link_told : goal.returns-clause-link_told
returns-clause-link_told g c changed =
    let h : HandsAll g.A.L.Link.faults _ _ _ = record { later = c.give_back.ensures.later; cause = c.give_back.ensures.cause; unfailed = c.give_back.ensures.unfailed } in
    links_told g.A.L.Link.faults _ _ _ _ _ _ _ _ c.new-links.ensures.items c.read_script-ending.ensures.blamed h changed

pub returns-clause-draw_told : goal.returns-clause-draw_told
returns-clause-draw_told g c changed = draws_told g.A.L.Link.faults _ _ _ _ _ _ _ c.read_script-ending.ensures.blamed changed

pub returns-clause-fault : goal.returns-clause-fault
returns-clause-fault g c = c.read_script-ending.ensures.fault

pub returns-clause-fault_told : goal.returns-clause-fault_told
returns-clause-fault_told g c = c.read_script-ending.ensures.fault_told

pub returns-clause-draw_fault : goal.returns-clause-draw_fault
returns-clause-draw_fault g c = c.read_script-ending.ensures.blamed.undrawn

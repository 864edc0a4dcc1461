use Rattle.std.proofs.Common.{List, [], ap, subst, sym}
use Rattle.run_journal.specs.declared.acts.Entry.{Entry}
use Rattle.link_lines.specs.Drafts.{LinkDraft}
use Rattle.text_lines.specs.Reads.{HasRead}
use Rattle.text_lines.specs.declared.limits.Limits.{Limits}
use Rattle.link_runs.specs.Standing.{Stands, outer}
use Rattle.link_runs.specs.Told.{nothing_told}
use Rattle.link_runs.proofs.Closing.{Reached-first}
use Rattle.link_runs.proofs.Returning.{linked, linked_none, returns_by}
use Rattle.link_runs.proofs.reading.link.Goals as goal

-- memory ran out before the first line
pub returns-in_default-clause-linked : goal.returns-in_default-clause-linked
returns-in_default-clause-linked g c = linked_none c.args.end _ _ _ _ _ c.requires

-- the script was read
pub returns-clause-linked : goal.returns-clause-linked
returns-clause-linked g c =
    let o = outer (g.A.Air.told c.args.air.now) (g.D.Draws.last c.args.draws.now) in
    let state = c.start-state.result in
    let stands = subst (λ (j : List Entry). Stands g.A.L.Link.told o o state j (nothing_told c.args.end)) (sym c.requires) (c.start-state.ensures.stands o) in
    let reached = Reached-first g.A.L.Link.told c.args.end o c.in-Ok.lines state c.args.journal.now.entries (subst (λ (l : Limits). HasRead l c.in-Ok.lines [] []) c.script_limits.ensures c.in-Ok.ensures.read) (ap (λ (d : LinkDraft). d.end) stands.draft_is) stands in
    let s = c.read_lines-found.new.state in
    linked g.A.L.Link.told c.args.end c.read_lines-found.result o (outer (g.A.Air.told c.read_lines-found.new.air) (g.D.Draws.last c.read_lines-found.new.draws)) (g.A.Air.told c.give_back.new.air) s _ _ _ _ _ _ _ _ c.requires (c.read_lines-found.ensures.ends c.args.end reached) c.read_lines-found.ensures.wrote
    (returns_by g.A.L.Link.told s.running _ _ (λ e. ap (λ (a : g.row.A.Denot). g.A.Air.told a) (c.give_back.ensures.none e)) (λ r is. (c.give_back.ensures.some r is).0))

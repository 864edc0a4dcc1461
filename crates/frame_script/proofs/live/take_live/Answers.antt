use Rattle.std.proofs.Common.{Some, ap, sym, ◌∙◌}
use Rattle.frame_script.specs.declared.live.Own.{Own}
use Rattle.script_lines.specs.Due.{draft_of}
use Rattle.frame_script.specs.Sentences.{heard_of}
use Rattle.frame_script.proofs.Living.{drawn, turned}
use Rattle.frame_script.proofs.live.take_live.Goals as goal

pub returns-in-Some-Draw-clause-takes : goal.returns-in-Some-Draw-clause-takes
returns-in-Some-Draw-clause-takes c =
    drawn (draft_of c.args.due.now) c.args.rounds c.args.sizes.now c.args.line.now (sym c.in-Some-Draw.ensures ∙ ap (λ (x : Own). Some (heard_of x)) c.in-Some-Draw.field-0-is)

pub returns-in-Some-Turn-clause-takes : goal.returns-in-Some-Turn-clause-takes
returns-in-Some-Turn-clause-takes c =
    turned (draft_of c.args.due.now) c.args.rounds c.args.sizes.now c.args.line.now (sym c.in-Some-Turn.ensures ∙ ap (λ (x : Own). Some (heard_of x)) c.in-Some-Turn.field-0-is)

use Rattle.std.proofs.Common.{List, ℕ, ap, ◌∙◌}
use Rattle.script_lines.specs.Due.{draft_of}
use Rattle.frame_script.specs.Headers.{Reading}
use Rattle.frame_script.specs.Mistakes.{mistake_in}
use Rattle.script_lines.specs.Refusals.{fault_of}
use Rattle.frame_script.proofs.reader.ScriptReader.mistake.Goals as goal

pub returns : goal.returns
returns c =
    let inside = c.self.inside in
    let fault = fault_of c.args.refusal in
    let line = c.args.line.now in
    c.mistake_in.ensures ∙ (ap (λ (sizes : List ℕ). mistake_in inside.mode (draft_of inside.due) inside.rounds sizes fault line) c.deref.ensures.value
    ∙ ap (λ (r : Reading). mistake_in r.mode r.draft r.rounds r.sizes fault line) c.self.view_is)

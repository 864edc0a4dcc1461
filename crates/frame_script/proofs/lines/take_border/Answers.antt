use Rattle.std.proofs.Common.{sym, subst}
use Rattle.script_lines.specs.declared.header.Due.{Due}
use Rattle.script_lines.specs.Due.{draft_of}
use Rattle.script_lines.specs.Sentences.{IsKept}
use Rattle.frame_script.specs.Script.{border_line}
use Rattle.frame_script.specs.Sentences.{Takes}
use Rattle.frame_script.proofs.lines.take_border.Goals as goal

pub cross_border-next-requires : goal.cross_border-next-requires
cross_border-next-requires c = subst (λ (d : Due). IsKept d) (sym c.replace.ensures.value) c.requires

pub returns-clause-takes : goal.returns-clause-takes
returns-clause-takes c rounds =
    let sizes = c.args.sizes.now in
    subst (λ (d : Due). Takes (draft_of d) (draft_of c.cross_border-next.result.0) rounds sizes (border_line (draft_of d) sizes) c.cross_border-next.result.1) c.replace.ensures.value
    (c.cross_border-next.ensures.takes rounds)

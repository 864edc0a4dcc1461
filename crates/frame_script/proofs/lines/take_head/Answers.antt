use Rattle.std.proofs.Common.{sym, subst, ◌∙◌}
use Rattle.script_lines.specs.declared.header.Due.{Due}
use Rattle.script_lines.specs.Due.{draft_of}
use Rattle.script_lines.specs.Sentences.{IsKept}
use Rattle.frame_script.specs.Sentences.{IsHead, Takes, words_say}
use Rattle.frame_script.proofs.Taking.{header, is_head}
use Rattle.frame_script.proofs.lines.take_head.Goals as goal

pub take_header-next-requires : goal.take_header-next-requires
take_header-next-requires c = subst (λ (d : Due). IsKept d) (sym c.replace.ensures.value ∙ c.in-Header.is) c.requires.kept

pub unreachable-requires : goal.unreachable-requires
unreachable-requires c = is_head c.replace.result (subst (λ (d : Due). IsHead d) (sym c.replace.ensures.value) c.requires.head) c.in_default.not-Header

pub returns-clause-takes : goal.returns-clause-takes
returns-clause-takes c rounds sizes =
    let word = c.args.word.now in
    let text = c.args.text.now in
    let new = draft_of c.take_header-next.result.0 in
    let answer = c.take_header-next.result.1 in
    subst (λ (d : Due). Takes (draft_of d) new rounds sizes (words_say (draft_of d) rounds sizes word text) answer) (sym (sym c.replace.ensures.value ∙ c.in-Header.is))
    (header c.in-Header.line c.in-Header.header new rounds sizes word text answer c.take_header-next.ensures.takes)

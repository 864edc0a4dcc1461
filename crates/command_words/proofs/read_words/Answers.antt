use Rattle.std.proofs.Common.{◌≡◌, ◌∙◌, [], true, map, ap, subst, option_and_then}
use Rattle.std.proofs.lemmas.Result.{IfOk-weaker}
use Rattle.clap.specs.Words.{App, HasMatchesOf, fault_of, is_simple_and_free, subcommand_of, subcommand_rows_of}
use Rattle.command_words.specs.Words.{asked, command_line, command_of}
use Rattle.command_words.proofs.FromClap.{line_is_plain, line_is_simple, refused_words, taken}
use Rattle.command_words.proofs.read_words.Goals as goal

pub returns-in-Ok-try_get_matches_from : goal.returns-in-Ok-try_get_matches_from
unfolding command_of
returns-in-Ok-try_get_matches_from c =
    let words = map (λ w. w.now) c.args.words.now in
    let none : fault_of command_line words ≡ [] =
    subst (λ (a : App). is_simple_and_free a ≡ true → fault_of a words ≡ []) c.in-Ok.ensures c.in-Ok-try_get_matches_from.ensures.kinds line_is_plain in
    let found : subcommand_rows_of c.in-Ok-try_get_matches_from.matches ≡ subcommand_of command_line words =
    (subst (λ (a : App). HasMatchesOf a words c.in-Ok-try_get_matches_from.matches) c.in-Ok.ensures c.in-Ok-try_get_matches_from.ensures.matches line_is_simple).1 in
    c.met.ensures ∙ ap (option_and_then asked) found ∙ taken _ _ none

pub returns-in-Err-try_get_matches_from : goal.returns-in-Err-try_get_matches_from
returns-in-Err-try_get_matches_from c =
    let words = map (λ w. w.now) c.args.words.now in
    let e = c.in-Err-try_get_matches_from.error in
    IfOk-weaker c.refusal.result _ _
    (λ r h. h.0 ∙ refused_words _ words e c.in-Ok.ensures c.in-Err-try_get_matches_from.ensures.kinds (λ memory. h.1 (c.kind.ensures ∙ memory))) c.refusal.ensures

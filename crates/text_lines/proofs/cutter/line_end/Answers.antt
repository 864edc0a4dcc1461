use Rattle.std.proofs.Common.{◌≡◌, drop, length, refl, ap, rules, arith}
use Rattle.std.proofs.lemmas.List.{length-drop}
use Rattle.text_lines.proofs.Texts.{NoFeed-from, feed_behind}
use Rattle.text_lines.proofs.cutter.line_end.Goals as goal

pub returns-in-Some-clause-order : goal.returns-in-Some-clause-order
returns-in-Some-clause-order c =
    let octets = c.args.octets.now in
    let rest : c.split_at.result.1.now ≡ drop c.args.at octets = search rules in
    (omega arith, omega (arith, ap length rest, length-drop c.args.at octets, c.in-Some.ensures.0.high, c.requires))

pub returns-in-Some-clause-open_line : goal.returns-in-Some-clause-open_line
returns-in-Some-clause-open_line c =
    let rest : c.split_at.result.1.now ≡ drop c.args.at c.args.octets.now = search rules in
    NoFeed-from c.args.octets.now _ c.args.at _ c.in-Some.count rest refl c.in-Some.ensures.0.before

pub returns-in-Some-clause-onward : goal.returns-in-Some-clause-onward
returns-in-Some-clause-onward c within other =
    let rest : c.split_at.result.1.now ≡ drop c.args.at c.args.octets.now = search rules in
    omega (arith, feed_behind c.args.octets.now _ c.args.at c.in-Some.count rest c.in-Some.ensures.1 other)

pub returns-in-None-clause-open_line : goal.returns-in-None-clause-open_line
returns-in-None-clause-open_line c =
    let octets = c.args.octets.now in
    let rest : c.split_at.result.1.now ≡ drop c.args.at octets = search rules in
    NoFeed-from octets _ c.args.at _ _ rest (omega (arith, ap length rest, length-drop c.args.at octets, c.requires)) c.in-None.ensures

use Rattle.std.proofs.Common.{length, sym, ◌∙◌}
use Rattle.std.proofs.lemmas.Bool.{eqb-true, eqb-false}
use Rattle.script_words.proofs.Hexed.{no_octets, odd_octets, even_octets}
use Rattle.script_words.proofs.tokens.is_octets.Goals as goal

pub returns-then-is_empty : goal.returns-then-is_empty
returns-then-is_empty c =
    let text = c.args.text.now in
    sym (no_octets text (eqb-true (length text) 0 (sym c.is_empty.ensures ∙ c.if-is_empty.true)))

pub returns-then-text-ne0 : goal.returns-then-text-ne0
returns-then-text-ne0 c = sym (odd_octets c.args.text.now c.if-text-ne0.true)

pub returns : goal.returns
returns c =
    let text = c.args.text.now in
    let some = eqb-false (length text) 0 (sym c.is_empty.ensures ∙ c.if-is_empty.false) in
    c.is_hex.ensures ∙ sym (even_octets text some c.if-text-ne0.false)

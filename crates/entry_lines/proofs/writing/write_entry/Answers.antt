use Rattle.std.proofs.Common.{[], ◌∷◌, arith, decimal}
use Rattle.domain_base.specs.Names.{node_text}
use Rattle.entry_lines.specs.Lines.{act_words}
use Rattle.entry_lines.proofs.Fielded.{line-written}
use Rattle.entry_lines.proofs.writing.write_entry.Goals as goal

pub returns-clause-count : goal.returns-clause-count
returns-clause-count c =
    let e = c.args.entry.now in
    let w = line-written (decimal e.round) (node_text e.node ∷ []) (act_words e.number e.act) _ _ _ _ _ _ _ c.put_decimal-at.ensures.written c.put_fields-at.ensures.written c.put_act.ensures.written in
    omega (arith, w.end)

pub returns-clause-text : goal.returns-clause-text
returns-clause-text c =
    let e = c.args.entry.now in
    (line-written (decimal e.round) (node_text e.node ∷ []) (act_words e.number e.act) _ _ _ _ _ _ _ c.put_decimal-at.ensures.written c.put_fields-at.ensures.written c.put_act.ensures.written).front

pub returns-clause-rest : goal.returns-clause-rest
returns-clause-rest c =
    let e = c.args.entry.now in
    (line-written (decimal e.round) (node_text e.node ∷ []) (act_words e.number e.act) _ _ _ _ _ _ _ c.put_decimal-at.ensures.written c.put_fields-at.ensures.written c.put_act.ensures.written).rest

pub returns-clause-len : goal.returns-clause-len
returns-clause-len c =
    let e = c.args.entry.now in
    (line-written (decimal e.round) (node_text e.node ∷ []) (act_words e.number e.act) _ _ _ _ _ _ _ c.put_decimal-at.ensures.written c.put_fields-at.ensures.written c.put_act.ensures.written).len

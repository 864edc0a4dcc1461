use Rattle.std.proofs.Common.{◌≡◌, ◌∙◌, ap, rules}
use Rattle.key_hierarchy.specs.declared.answers.PutAnswer.{PutAnswer}
use Rattle.key_holders.specs.Rows.{after_put}
use Rattle.ap_node.specs.Putting.{PutsOne, WithPut}
use Rattle.ap_node.proofs.putting.put_row.Goals as goal

pub put-answer-requires : goal.put-answer-requires
put-answer-requires g c = record { has = c.requires.has }

-- src/putting.rt:22:1
pub returns-in_default : goal.returns-in_default
returns-in_default g c =
    let w = c.put-answer.ensures in
    let behind : g.H.Holders.rows c.put-answer.new.self c.args.ap ≡ after_put c.of_last-row.result c.put-answer.result (g.H.Holders.rows c.args.holders.now c.args.ap) = w.rows in
    record {
      put = search rules;
      kept = tt;
      others = record { ids = w.ids; still_has = w.still_has; others = w.others; one = PutsOne c.of_last-row.result c.put-answer.result behind };
      change = WithPut c.of_last-row.result c.put-answer.result w.puts;
      no_less = w.no_less;
    }

pub returns-in-NoMemory-clause-kept : goal.returns-in-NoMemory-clause-kept
returns-in-NoMemory-clause-kept g c = c.put-answer.ensures.rows ∙ ap (λ (a : PutAnswer). after_put c.of_last-row.result a (g.H.Holders.rows c.args.holders.now c.args.ap)) c.in-NoMemory.is

pub returns-in-NoMemory-clause-others : goal.returns-in-NoMemory-clause-others
returns-in-NoMemory-clause-others g c =
    let w = c.put-answer.ensures in
    record { ids = w.ids; still_has = w.still_has; others = w.others; one = PutsOne c.of_last-row.result c.put-answer.result w.rows }

pub returns-in-NoMemory-clause-change : goal.returns-in-NoMemory-clause-change
returns-in-NoMemory-clause-change g c = WithPut c.of_last-row.result c.put-answer.result c.put-answer.ensures.puts

use Rattle.std.proofs.Common.{◌≡◌, ◌<◌, suc, List, ap, ◌∙◌, arith, length, ◌++◌, take, drop, append_assoc}
use Rattle.std.proofs.lemmas.List.{take_all}
use Rattle.domain_links.specs.NodeOrder.{node_at}
use Rattle.domain_links.specs.Sends.{Send, sends, sends_of}
use Rattle.domain_links.proofs.Going.{Tell-same, sends-more, sends-cut, front_more, some_with}
use Rattle.domain_links.proofs.sending.send_entries.Goals as goal

pub returns-in-Err-clause-sent : goal.returns-in-Err-clause-sent
returns-in-Err-clause-sent g c left before tell =
    let d = c.args.domain.now in
    let es = c.args.entries.now in
    let i = c.loop-entry.entry-index in
    let within : i < length es = c.loop-entry-test.true in
    let cut = c.in-Err.ensures.sent left (before ++ sends d (take i es)) (c.loop-entry.invariant.sent left before tell) in (
      sends d (take i es) ++ cut.0,
      cut.1 ++ sends d (drop (suc i) es),
      front_more (sends d (take i es)) cut.0 cut.1 (sends_of d c.entry-item.result) (sends d (drop (suc i) es)) (sends d es) cut.2 (ap (λ (w : List Send). sends d (take i es) ++ (w ++ sends d (drop (suc i) es))) (ap (sends_of d) c.entry-item.is) ∙ sends-cut d es i c.entry-item.result within),
      some_with cut.1 (sends d (drop (suc i) es)) cut.3,
      Tell-same _ (node_at d) _ left _ _ (append_assoc before (sends d (take i es)) cut.0) cut.4,
    )

pub loop-entry-preserved : goal.loop-entry-preserved
loop-entry-preserved g c = record {
  len = c.in-Ok.ensures.len ∙ c.loop-entry.invariant.len;
  sent = λ left before tell. Tell-same _ (node_at c.args.domain.now) _ left _ _ (ap (λ (w : List Send). (before ++ sends c.args.domain.now (take c.loop-entry.entry-index c.args.entries.now)) ++ w) (ap (sends_of c.args.domain.now) c.entry-item.is) ∙ sends-more c.args.domain.now before c.args.entries.now c.loop-entry.entry-index c.entry-item.result c.loop-entry-test.true) (c.in-Ok.ensures.sent left _ (c.loop-entry.invariant.sent left before tell));
  unfailed = c.in-Ok.ensures.unfailed ∙ c.loop-entry.invariant.unfailed;
}

pub returns-clause-sent : goal.returns-clause-sent
returns-clause-sent g c left before tell =
    let all : take c.loop-entry.entry-index c.args.entries.now ≡ c.args.entries.now = take_all _ _ (omega (arith, c.loop-entry-test.false)) in
    Tell-same _ (node_at c.args.domain.now) _ left _ _ (ap (λ (w : List _). before ++ sends c.args.domain.now w) all) (c.loop-entry.invariant.sent left before tell)

use Rattle.script_runs.proofs.Linked.{blamed_air, blamed_sends}
use Rattle.std.proofs.Common.{◌≡◌, ◌<◌, ◌≤◌, List, length, refl, sym, subst, rules, arith}
use Rattle.domain_base.specs.declared.names.Node.{Node}
use Rattle.run_journal.specs.declared.acts.Entry.{Entry}
use Rattle.domain_links.specs.NodeOrder.{count, node_at}
use Rattle.domain_links.specs.Sends.{sends}
use Rattle.domain_links.specs.Attached.{IsBehind}
use Rattle.domain_links.specs.Telling.{TellFront}
use Rattle.domain_links.proofs.Attachment.{node_behind}
use Rattle.script_runs.proofs.linking.carry.Goals as goal

pub returns-then-len-nodes-clause-blamed : goal.returns-then-len-nodes-clause-blamed
returns-then-len-nodes-clause-blamed g c =
    blamed_air g.A.L.Link.faults c.args.links.now.items c.attach_next.new.links.items _ _ 0 c.attach_next.result c.attach_next.ensures.cause c.attach_next.ensures.same c.attach_next.ensures.unfailed c.attach_next.ensures.fresh

pub returns-clause-blamed : goal.returns-clause-blamed
returns-clause-blamed g c =
    blamed_sends g.A.L.Link.faults c.args.links.now.items c.send_entries.new.links.items _ 0 c.send_entries.result c.send_entries.ensures.cause c.send_entries.ensures.kept c.send_entries.ensures.unfailed

pub returns-then-len-nodes-clause-carries : goal.returns-then-len-nodes-clause-carries
returns-then-len-nodes-clause-carries g c =
    let d = c.args.domain.now in
    let next : length c.args.links.now.items < count d = search rules in
    let is : c.node_at-node.result ≡ node_at d (length c.args.links.now.items) = search rules steps 300000 in
    record {
      last = refl;
      attaches = λ few. record {
        more = c.attach_next.ensures.len;
        same = c.attach_next.ensures.same;
        attached = λ start. c.attach_next.ensures.attached (node_at d) start (sym is) (subst (λ (n : Node). IsBehind (node_at d) (length c.args.links.now.items) n) (sym is) (node_behind d (length c.args.links.now.items)));
      };
      sends_out = λ many. absurd (omega (arith, many, next));
    }

pub returns-clause-carries : goal.returns-clause-carries
returns-clause-carries g c =
    let d = c.args.domain.now in
    let many : count d ≤ length c.args.links.now.items = search rules in
    record {
      last = refl;
      attaches = λ few. absurd (omega (arith, few, many));
      sends_out = λ all. record {
        len = c.send_entries.ensures.len;
        air = refl;
        sent = λ left before tell. subst (λ (es : List Entry). TellFront g.A.L.Link.told (node_at d) c.send_entries.new.links.items left before (sends d es) c.send_entries.result) c.news.ensures (c.send_entries.ensures.sent left before tell);
      };
    }

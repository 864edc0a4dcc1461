use Rattle.std.proofs.Common.{Some, ap, ◌∙◌}
use Rattle.key_hierarchy.specs.declared.inputs.Ptk.{Ptk}
use Rattle.ft_exchange.specs.Asking.{asked_fields}
use Rattle.ft_exchange.proofs.TargetBegins.{keyed_by, target_is}
use Rattle.ft_exchange.proofs.target.Target.begin.Goals as goal

pub returns : goal.returns
returns c =
    let a = asked_fields c.args.asked.now in
    let g = c.args.granted.now in
    let sent = c.send_ft_resp.ensures.sends in
    let f = sent.frame in
    record {
      begins = record {
        is = target_is c.args.place a g c.ptk_from_r1-ptk.result c.of.result c.sent_in.result c.ptk_from_r1-ptk.ensures c.of.ensures (c.sent_in.ensures ∙ f.front);
        sends = record { front = f.front; some = f.some; kind_is = f.kind_is; sealed_is = f.sealed_is; whole = record { few = f.whole.few; sealed = f.whole.sealed } };
        derived = ap (λ (x : Ptk). Some (keyed_by x g.anonce a.snonce)) c.ptk_from_r1-ptk.ensures;
        verified = sent.verified;
        installed = sent.installed;
        gtk = sent.gtk;
        igtk = sent.igtk;
        looked = sent.looked;
      };
    }

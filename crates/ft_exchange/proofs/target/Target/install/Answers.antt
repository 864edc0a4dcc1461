use Rattle.std.proofs.Common.{Some, ap, ◌∙◌}
use Rattle.ft_exchange.specs.State.{TargetState}
use Rattle.ft_exchange.proofs.TargetBegins.{installed_is}
use Rattle.ft_exchange.proofs.target.Target.install.Goals as goal

pub returns : goal.returns
returns c =
    let sent = c.respond.ensures.sends in
    let f = sent.frame in
    record {
      is = installed_is _ c.args.self.now c.args.news.now c.sent_in-self-inside.result c.self.view_is (c.sent_in-self-inside.ensures ∙ f.front);
      sends = record { front = f.front; some = f.some; kind_is = f.kind_is; sealed_is = f.sealed_is; whole = record { few = f.whole.few; sealed = f.whole.sealed } };
      covers = c.respond.ensures.covers;
      installed = ap (λ (s : TargetState). Some s.key) c.self.view_is;
      verified = sent.verified;
      derived = sent.derived;
      gtk = sent.gtk;
      igtk = sent.igtk;
      looked = sent.looked;
    }

use Rattle.std.proofs.Common.{Some, subst}
use Rattle.std.specs.Prelude.{option_map}
use Rattle.rsn_elements.specs.Fields.{wrapped_gtk_fields, wrapped_igtk_fields}
use Rattle.run_journal.specs.declared.acts.Kind.TheVariants as kind
use Rattle.ft_exchange.specs.Sent.{Sends}
use Rattle.ft_exchange.specs.State.{TargetState}
use Rattle.ft_exchange.specs.Exchange.{installing_octets, IsInstalling}
use Rattle.ft_exchange.specs.contracts.target.Target.{the_view}
use Rattle.ft_exchange.proofs.Sending.{RespondsWith, responds}
use Rattle.ft_exchange.proofs.target.Target.respond.Goals as goal

pub returns-clause-sends : goal.returns-clause-sends
returns-clause-sends c =
    let r : RespondsWith (the_view c.self.inside) c.args.news.now c.args.reply.now c.send_re_resp.new.reply =
    responds (the_view c.self.inside) c.args.news.now c.as_slice.result.now c.wrapped-gtk_octets.result c.wrapped_igtk-igtk_octets.result (wrapped_gtk_fields c.subelement-gtk.result) (option_map wrapped_igtk_fields c.igtk_subelement-igtk.result) c.args.reply.now c.send_re_resp.new.reply
    c.as_slice.ensures c.subelement-gtk.ensures c.wrapped-gtk_octets.ensures c.igtk_subelement-igtk.ensures.fields c.wrapped_igtk-igtk_octets.ensures (record { sends = c.send_re_resp.ensures.sends; covers = c.send_re_resp.ensures.covers })
    in
    subst (λ (s : TargetState). Sends (installing_octets s c.args.news.now) kind.ReResp (Some s.key.ptk.kck) c.args.reply.now c.send_re_resp.new.reply) c.self.view_is r.sends

pub returns-clause-covers : goal.returns-clause-covers
returns-clause-covers c =
    let r : RespondsWith (the_view c.self.inside) c.args.news.now c.args.reply.now c.send_re_resp.new.reply =
    responds (the_view c.self.inside) c.args.news.now c.as_slice.result.now c.wrapped-gtk_octets.result c.wrapped_igtk-igtk_octets.result (wrapped_gtk_fields c.subelement-gtk.result) (option_map wrapped_igtk_fields c.igtk_subelement-igtk.result) c.args.reply.now c.send_re_resp.new.reply
    c.as_slice.ensures c.subelement-gtk.ensures c.wrapped-gtk_octets.ensures c.igtk_subelement-igtk.ensures.fields c.wrapped_igtk-igtk_octets.ensures (record { sends = c.send_re_resp.ensures.sends; covers = c.send_re_resp.ensures.covers })
    in
    subst (λ (s : TargetState). IsInstalling s c.args.news.now) c.self.view_is r.covers

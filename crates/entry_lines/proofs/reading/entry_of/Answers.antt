use Rattle.std.proofs.Common.{◌≡◌, sym, ap, ◌∙◌}
use Rattle.domain_base.specs.declared.names.Node.{Node}
use Rattle.entry_lines.specs.Acts.{kind_of}
use Rattle.entry_lines.specs.Entries.{bare_act, bare_number}
use Rattle.entry_lines.proofs.Apart.{entry_joins}
use Rattle.entry_lines.proofs.reading.entry_of.Goals as goal

pub returns : goal.returns
returns c = record {
  has = c.in_ok-act.ensures.has;
  is_bare = λ t. record {
    round = c.number_of.result;
    node = c.node_of-node.result;
    number = c.sent_number.ensures.is_bare c.in_ok-act.act c.in_ok-act.ensures.is_kind t;
    act = c.in_ok-act.ensures.is_bare t;
  };
  same = λ e s.
      let j = entry_joins c.args.octets.now e s.line s.fits in
      let round : c.number_of.result ≡ e.round = c.number_of.ensures e.round s.fits.round (c.field-round.ensures _ j) in
      let node : c.node_of-node.result ≡ e.node = c.node_of-node.ensures e.node s.fits.node (c.field-node.ensures _ j) in
      let text = c.after_fields-text.ensures _ j in
      let kind : kind_of e.act ≡ c.kind_of-kind.result = sym (c.kind_of-kind.ensures e.number e.act text) in
      let act : c.in_ok-act.act ≡ bare_act e.node e.act = c.in_ok-act.ensures.same e.number e.act kind s.has s.fits.act text ∙ ap (λ (n : Node). bare_act n e.act) node in
      let number : c.sent_number.result ≡ bare_number e.number e.act = c.sent_number.ensures.read e.number e.act kind s.fits.number text in
      (λ t. record { round = round t; node = node t; number = number t; act = act t }) ∙ s.is_bare;
}

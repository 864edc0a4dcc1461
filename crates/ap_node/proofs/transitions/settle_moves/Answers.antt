use Rattle.std.proofs.Common.{◌∙◌, Option, sym, ap, subst}
use Rattle.domain_base.specs.declared.names.Node.TheVariants.{Ap, Sta}
use Rattle.run_journal.specs.declared.reply.Keyed.{Keyed}
use Rattle.ap_node.specs.State.{with_moves}
use Rattle.ap_node.specs.Moving.{IsPlaced}
use Rattle.ap_node.proofs.transitions.settle_moves.Goals as goal

pub returns-in-Some : goal.returns-in-Some
returns-in-Some c x was = subst (λ (k : Option Keyed). IsPlaced c.args.domain.now (Ap c.args.ap) (Sta c.args.station) k c.args.moves x c.seated.result) (sym c.in-Some.is) c.seated.ensures

pub returns-in-None : goal.returns-in-None
returns-in-None c x was =
    subst (λ (k : Option Keyed). IsPlaced c.args.domain.now (Ap c.args.ap) (Sta c.args.station) k c.args.moves x c.put_moves.new.self) (sym c.in-None.is) (c.put_moves.ensures ∙ ap (with_moves c.args.moves) was)

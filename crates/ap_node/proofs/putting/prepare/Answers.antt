use Rattle.std.proofs.Common.{ℕ, Bool, List, refl, subst}
use Rattle.domain_base.specs.declared.names.Node.{Node}
use Rattle.domain_base.specs.declared.names.Node.TheVariants.{Ap, Sta}
use Rattle.frame_intake.specs.Views.{message_fields}
use Rattle.act_memory.specs.Rooms.{IsRoom}
use Rattle.ap_node.specs.Putting.{PutsWhere, Unchanged}
use Rattle.ap_node.proofs.AtPlaces.{err_at}
use Rattle.ap_node.proofs.Rows.{same_others}
use Rattle.ap_node.proofs.putting.prepare.Goals as goal

pub returns-in_err-room-clause-kept : goal.returns-in_err-room-clause-kept
returns-in_err-room-clause-kept over c = err_at c.from_residual.result _ refl

pub returns-in_err-room-clause-others : goal.returns-in_err-room-clause-others
returns-in_err-room-clause-others over c = same_others _ _ _ _

pub returns-in_err-room-clause-change : goal.returns-in_err-room-clause-change
returns-in_err-room-clause-change over c = Unchanged refl

pub returns-in_err-room-clause-no_less : goal.returns-in_err-room-clause-no_less
returns-in_err-room-clause-no_less over c = over.met.H.Holders.same c.args.holders.now

pub returns-in_err-between-clause-kept : goal.returns-in_err-between-clause-kept
returns-in_err-between-clause-kept over c = err_at c.from_residual-in_err-between.result _ c.in_err-between.ensures.kept

pub returns-in_err-between-clause-others : goal.returns-in_err-between-clause-others
returns-in_err-between-clause-others over c = c.between.ensures.others

pub returns-in_err-between-clause-change : goal.returns-in_err-between-clause-change
returns-in_err-between-clause-change over c = c.between.ensures.change

pub returns-in_err-between-clause-no_less : goal.returns-in_err-between-clause-no_less
returns-in_err-between-clause-no_less over c = c.between.ensures.no_less

pub returns-clause-others : goal.returns-clause-others
returns-clause-others over c = c.between.ensures.others

pub returns-clause-change : goal.returns-clause-change
returns-clause-change over c = c.between.ensures.change

pub returns-clause-no_less : goal.returns-clause-no_less
returns-clause-no_less over c = c.between.ensures.no_less

pub returns-clause-ready : goal.returns-clause-ready
returns-clause-ready over c =
    let d = c.args.here.domain.now in
    let a = c.args.ap in
    let heard = c.args.heard.now in
    let room = c.in_ok-room.room in
    record {
      judged = refl;
      room = subst (λ (id : List ℕ). IsRoom d id (Ap a) (Sta c.args.station) heard.octets.now (message_fields heard.message) room) c.r0kh_id.ensures.id
          (subst (λ (n : Node). IsRoom d c.r0kh_id.result.now n (Sta c.args.station) heard.octets.now (message_fields heard.message) room) c.requires.node c.in_ok-room.ensures);
      opened = c.in_ok-between.ensures.opened;
      put = subst (λ (b : Bool). PutsWhere b d a c.args.station (over.H.Holders.rows c.args.holders.now a) (over.H.Holders.rows c.between.new.holders a) c.in_ok-between.between.put.items) c.puts-is_put.ensures c.in_ok-between.ensures.put;
    }

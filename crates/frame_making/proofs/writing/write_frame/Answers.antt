use Rattle.std.proofs.Common.{◌≡◌, ◌∙◌, length, refl, sym, ap}
use Rattle.domain_base.specs.declared.names.Mac.{Mac}
use Rattle.run_journal.specs.declared.reply.Reply.{Reply}
use Rattle.run_journal.specs.declared.acts.Kind.TheVariants.{Key}
use Rattle.frame_making.proofs.FramesBetween.{between_sends}
use Rattle.frame_making.proofs.writing.write_frame.Goals as goal

pub returns-clause-writes : goal.returns-clause-writes
returns-clause-writes c d n p ends =
    let own : length c.args.ends.now.own.0 ≡ 6 = ap (λ (m : Mac). length m.0) (sym c.whole.ensures.same) ∙ c.whole.ensures.whole in
    let peer : length c.args.ends.now.peer.0 ≡ 6 = ap (λ (m : Mac). length m.0) (sym c.whole-2.ensures.same) ∙ c.whole-2.ensures.whole in
    let old : Reply = c.args.reply.now in
    let new : Reply = record {
      octets = c.put_data-len.new.octets;
      len = c.put_data-len.result;
      kind = Key c.args.message;
      sealed = c.args.sealed;
      verified = old.verified;
      derived = old.derived;
      installed = old.installed;
      gtk = old.gtk;
      igtk = old.igtk;
      looked = old.looked;
    }
    in
    between_sends d n p c.args.ends.now c.args.message c.args.sealed c.args.frame.now new ends own peer c.put_data-len.ensures.size c.put_data-len.ensures.octets refl refl

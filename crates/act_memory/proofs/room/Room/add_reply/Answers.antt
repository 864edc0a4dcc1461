use Rattle.std.proofs.Common.{◌≡◌, ◌∙◌, ◌++◌, ℕ, Bool, false, List, [], ◌∷◌, Option, Some, None, refl, sym, ap, subst, append_assoc}
use Rattle.std.specs.Prelude.{option_map}
use Rattle.domain_base.specs.declared.names.Node.{Node}
use Rattle.mac_prf.specs.Mic.{without_mic}
use Rattle.key_hierarchy.specs.declared.inputs.Inputs.{Inputs}
use Rattle.eapol_key.specs.declared.messages.Message.{Message}
use Rattle.run_journal.specs.declared.acts.Kind.TheVariants as kind
use Rattle.run_journal.specs.declared.acts.Outcome.{Outcome}
use Rattle.run_journal.specs.declared.acts.Seal.{Seal}
use Rattle.run_journal.specs.declared.acts.Act.{Act}
use Rattle.run_journal.specs.declared.acts.Act.TheVariants.{Took}
use Rattle.domain_rules.specs.Frames.{frame_seal}
use Rattle.domain_rules.specs.Network.{Root, mac, root_at, station_of}
use Rattle.domain_rules.specs.Replies.{replied_acts, taken_as}
use Rattle.node_base.specs.Pairs.{pair_at}
use Rattle.act_memory.specs.Rooms.{between_of}
use Rattle.group_key.specs.Replied.{may_derive, may_install}
use Rattle.act_memory.specs.Templates.{TemplateWhere, seal_over}
use Rattle.act_memory.proofs.Templating.{template_for}
use Rattle.act_memory.proofs.room.Room.add_reply.Goals as goal

took_is : (p : Node) (taken octets covered frame : List ℕ) (message m : Message) (outcome : Outcome) (verified : Option (List ℕ)) (seal : Option Seal) → taken ≡ octets → covered ≡ 1 ∷ without_mic frame → m ≡ message
    → seal ≡ option_map (seal_over covered) verified
    → Took (Some p) taken (kind.Key message) outcome seal ≡ Took (Some p) octets (kind.Key m) outcome (option_map (λ (kck : List ℕ). frame_seal kck frame) verified)
took_is p taken octets covered frame message m outcome verified seal same covers is sealed = rw (sealed, same, covers, ← is) refl

-- one after the other
chain : (old took opened derived replaced installed gtk igtk finished put sent a a1 b c d e e1 f f1 g : List Act) → a ≡ old ++ took → a1 ≡ a ++ opened → b ≡ a1 ++ derived → c ≡ b ++ replaced → d ≡ c ++ installed → e ≡ d ++ gtk → e1 ≡ e ++ igtk → f ≡ e1 ++ finished → f1 ≡ f ++ put → g ≡ f1 ++ sent
    → g ≡ old ++ (took ++ (opened ++ (derived ++ replaced ++ installed ++ gtk ++ igtk ++ finished ++ (put ++ sent))))
chain old took opened derived replaced installed gtk igtk finished put sent a a1 b c d e e1 f f1 g p o q r s t i u w v = rw (v, w, u, i, t, s, r, q, o, p) (simp append_assoc)

pub returns-clause-acts : goal.returns-clause-acts
returns-clause-acts c d id n p octets k room =
    let back : p ≡ c.args.self.peer = sym room.peer in
    let at : (may : Bool) (i : Option Inputs) → TemplateWhere may d n p id i → TemplateWhere may d n c.args.self.peer id i = λ may i t. subst (λ (q : Node). TemplateWhere may d n q id i) back t in
    let r : Root = root_at d (station_of n c.args.self.peer) id in
    let none : may_derive k.message ≡ false → c.args.reply.now.derived ≡ None = λ is. c.requires.keys.derived (ap may_derive room.message ∙ is) in
    let kept : may_install k.message ≡ false → c.args.reply.now.installed ≡ None = λ is. c.requires.keys.installed (ap may_install room.message ∙ is) in
    let address : c.args.self.address ≡ mac d c.args.self.peer = room.address ∙ ap (λ (q : Node). mac d q) back in
    let took = took_is c.args.self.peer c.args.self.taken.items octets c.args.self.covered.items k.octets c.args.self.message k.message c.args.outcome c.args.reply.now.verified _ room.taken room.covered (sym room.message) c.seal_over-seal.ensures in
    subst (λ (q : Node). c.add_sent.new.out.acts ≡ c.args.out.now.acts ++ replied_acts (pair_at d id n q) c.args.had_session (taken_as octets k c.args.outcome) c.args.reply.now (between_of c.args.between)) room.peer
    (chain _ _ _ _ _ _ _ _ _ _ _ _ _ _ _ _ _ _ _ _ _ (c.add_took.ensures.acts ∙ ap (λ (act : Act). c.args.out.now.acts ++ act ∷ []) took) c.add_all.ensures.acts (c.derive.ensures.acts d r n (template_for d id n c.args.self.peer (may_derive k.message) c.args.self.derived c.args.reply.now.derived none (at _ _ room.derived))) c.add_replaced.ensures.acts (c.install.ensures.acts d r n (template_for d id n c.args.self.peer (may_install k.message) c.args.self.installed c.args.reply.now.installed kept (at _ _ room.installed)))
    (c.add_group_key.ensures.acts d address) (c.add_group_key-2.ensures.acts d address) (c.finish.ensures.acts d r n (template_for d id n c.args.self.peer (may_install k.message) c.args.self.finished c.args.reply.now.installed kept (at _ _ room.finished))) c.add_all-2.ensures.acts c.add_sent.ensures.acts)

use Rattle.std.proofs.Common.{◌≡◌, ◌∙◌, true, false, refl, sym}
use Rattle.domain_rules.specs.ManagementFrames.{announced}
use Rattle.data_frames.proofs.Sends.{always}
use Rattle.data_frames.proofs.Announced.{acts_by, outcome_by, used_by}
use Rattle.data_frames.proofs.announcing.IntegrityKey.announce.Goals as goal

pub returns-then-not-has_next-clause-acts : goal.returns-then-not-has_next-clause-acts
returns-then-not-has_next-clause-acts c =
    acts_by c.idle.result c.args.here.domain.now c.args.here.node (announced c.args.payload.now) c.args.self.now false c.args.out.now.acts c.idle.new.out.acts (sym c.has_next.ensures ∙ c.if-not-has_next.true) c.idle.ensures.acts

pub returns-then-not-has_next-clause-outcome : goal.returns-then-not-has_next-clause-outcome
returns-then-not-has_next-clause-outcome c = outcome_by c.idle.result c.args.self.now false (sym c.has_next.ensures ∙ c.if-not-has_next.true) c.idle.ensures.outcome

pub returns-then-not-has_next-clause-used : goal.returns-then-not-has_next-clause-used
returns-then-not-has_next-clause-used c = used_by c.idle.result c.args.self.now c.args.self.now false (sym c.has_next.ensures ∙ c.if-not-has_next.true) (always c.idle.result (c.args.self.now ≡ c.args.self.now) refl)

pub returns-clause-acts : goal.returns-clause-acts
returns-clause-acts c =
    acts_by c.announce_next.result c.args.here.domain.now c.args.here.node (announced c.args.payload.now) c.args.self.now true c.args.out.now.acts c.announce_next.new.out.acts (sym c.has_next.ensures ∙ c.if-not-has_next.false) c.announce_next.ensures.acts

pub returns-clause-outcome : goal.returns-clause-outcome
returns-clause-outcome c = outcome_by c.announce_next.result c.args.self.now true (sym c.has_next.ensures ∙ c.if-not-has_next.false) c.announce_next.ensures.outcome

pub returns-clause-used : goal.returns-clause-used
returns-clause-used c = used_by c.announce_next.result c.args.self.now c.announce_next.new.self true (sym c.has_next.ensures ∙ c.if-not-has_next.false) c.announce_next.ensures.used

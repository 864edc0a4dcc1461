use Rattle.std.proofs.Common.{subst}
use Rattle.group_key.specs.declared.news.News.{News}
use Rattle.authenticator.specs.Beside.{StepsBeside, StepsInSession}
use Rattle.authenticator.specs.Judged.{frame_of}
use Rattle.authenticator.specs.Taken.{given, StepsFrom}
use Rattle.authenticator.proofs.authenticator.Authenticator.step.Goals as goal

pub returns-clause-steps : goal.returns-clause-steps
returns-clause-steps c =
    subst (λ (n : News). StepsFrom c.args.self.now c.step_judged.new.self (given c.args.message (frame_of c.args.frame.now) n) c.step_judged.result c.step_judged.new.reply) c.of-news.ensures c.step_judged.ensures.steps

pub returns-clause-beside : goal.returns-clause-beside
returns-clause-beside c =
    subst (λ (n : News). StepsBeside c.args.self.now c.step_judged.new.self (given c.args.message (frame_of c.args.frame.now) n) c.step_judged.result c.step_judged.new.reply) c.of-news.ensures c.step_judged.ensures.beside

pub returns-clause-in_session : goal.returns-clause-in_session
returns-clause-in_session c =
    subst (λ (n : News). StepsInSession c.args.self.now c.step_judged.new.self (given c.args.message (frame_of c.args.frame.now) n) c.step_judged.result c.step_judged.new.reply) c.of-news.ensures c.step_judged.ensures.in_session

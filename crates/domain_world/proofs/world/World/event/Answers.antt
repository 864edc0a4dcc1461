use Rattle.std.proofs.Common.{◌≡◌, suc, length, subst}
use Rattle.run_journal.specs.declared.domain.Domain.{Domain}
use Rattle.run_journal.specs.declared.domain.Event.{Event}
use Rattle.run_journal.specs.Changed.{changed_by}
use Rattle.domain_rules.specs.Explained.{Step}
use Rattle.domain_world.specs.Owning.{IsEventIn, IsSince}
use Rattle.domain_world.proofs.ChangedRound.{by_event, not_secret, still_network}
use Rattle.domain_world.proofs.world.World.event.Goals as goal

-- ---- a changed key

pub returns-in-Secret-clause-step : goal.returns-in-Secret-clause-step
returns-in-Secret-clause-step c =
    by_event c.change.result c.args.event.now _ (λ (e : Event). (d : Domain) → IsSince d c.args.self.now c.args.journal.now.entries
    → Step d (suc c.args.self.now.rounds) e c.args.journal.now.entries c.change.new.journal.entries) c.in-Secret.is c.change.ensures.step

pub returns-in-Secret-clause-domain : goal.returns-in-Secret-clause-domain
returns-in-Secret-clause-domain c =
    by_event c.change.result c.args.event.now _ (λ (e : Event). c.change.new.self.domain ≡ changed_by c.args.self.now.domain e) c.in-Secret.is c.change.ensures.domain

pub change-requires-clause-sta : goal.change-requires-clause-sta
change-requires-clause-sta c =
    (subst (IsEventIn c.args.self.now.domain (length c.args.self.now.frames) c.args.journal.now.entries) c.in-Secret.is c.requires.event).1

-- ---- any other event

pub returns-in_default-clause-domain : goal.returns-in_default-clause-domain
returns-in_default-clause-domain c =
    still_network c.happen.result c.args.self.now.domain c.happen.new.self.domain c.args.event.now (not_secret c.args.event.now c.in_default.not-Secret) c.happen.ensures.domain

pub happen-requires-clause-event : goal.happen-requires-clause-event
happen-requires-clause-event c = (c.requires.event, not_secret c.args.event.now c.in_default.not-Secret)

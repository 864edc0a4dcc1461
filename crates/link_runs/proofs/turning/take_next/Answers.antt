use Rattle.std.proofs.Common.{Bool, Err, refl, subst, sym, arith}
use Rattle.link_runs.specs.declared.found.Breach.{Breach}
use Rattle.link_runs.specs.Stepping.{Takes}
use Rattle.link_runs.proofs.Takings.{polled_err, polled_none, polled_some, takes_err, takes_fault, takes_none, takes_ok}
use Rattle.link_runs.proofs.turning.take_next.Goals as goal

pub returns-in-Ok-clause-takes : goal.returns-in-Ok-clause-takes
returns-in-Ok-clause-takes g c = λ h notes stands.
    takes_ok g.L.Link.told c.args.end h _ _ _ _ notes _ _ _ _ refl stands (λ left tell. polled_some g.L.Link.told c.args.end _ _ notes left _ _ _ c.in-Ok-Some.field-0-is c.in-Ok-Some.ensures.given (omega (arith, c.requires.room, c.poll.auto.buf)) tell) c.in-Ok.ensures.steps

pub returns-in-Err-deliver-clause-takes : goal.returns-in-Err-deliver-clause-takes
returns-in-Err-deliver-clause-takes g c = λ h notes stands.
    subst (λ (b : Breach). Takes {T = Bool} g.L.Link.told c.args.end h 1 c.args.running.now c.deliver.new.running notes c.deliver.new.journal.entries (Err b)) (sym c.breach_of.ensures)
    (takes_err g.L.Link.told c.args.end h _ _ _ _ notes _ _ c.in-Err-deliver.halt refl stands c.deliver.ensures.one (λ left tell. polled_some g.L.Link.told c.args.end _ _ notes left _ _ _ c.in-Ok-Some.field-0-is c.in-Ok-Some.ensures.given (omega (arith, c.requires.room, c.poll.auto.buf)) tell) c.in-Err-deliver.ensures.steps)

pub returns-in-Ok-None-clause-takes : goal.returns-in-Ok-None-clause-takes
returns-in-Ok-None-clause-takes g c = λ h notes stands.
    takes_none g.L.Link.told c.args.end h _ _ notes _ _ refl stands (λ left tell. polled_none g.L.Link.told c.args.end _ _ notes left _ _ c.in-Ok-None.field-0-is c.in-Ok-None.ensures.given tell)

pub returns-in-Ok-None-clause-empty : goal.returns-in-Ok-None-clause-empty
returns-in-Ok-None-clause-empty g c = λ e notes left tell. (polled_none g.L.Link.told c.args.end _ _ notes left _ _ c.in-Ok-None.field-0-is c.in-Ok-None.ensures.given tell).0

pub returns-in-Err-clause-takes : goal.returns-in-Err-clause-takes
returns-in-Err-clause-takes g c = λ h notes stands.
    takes_fault g.L.Link.told c.args.end h _ _ notes _ refl stands (λ left tell. polled_err g.L.Link.told c.args.end _ _ notes left _ _ c.in-Err.ensures.given tell)

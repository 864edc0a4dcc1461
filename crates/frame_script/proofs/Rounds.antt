-- A line in a round that asks for an event.
use Rattle.std.proofs.Common.{◌≡◌, ℕ, suc, List, Result, Ok, Err, refl, sym, ap, subst}
use Rattle.script_lines.specs.declared.header.Header.{Header}
use Rattle.run_journal.specs.declared.domain.Event.{Event}
use Rattle.script_lines.specs.declared.events.Asked.{Asked}
use Rattle.script_lines.specs.declared.step.Step.TheVariants as step
use Rattle.script_lines.specs.declared.refusal.Untaken.{Untaken}
use Rattle.script_lines.specs.declared.refusal.Untaken.TheVariants as untaken
use Rattle.script_lines.specs.Script.{Fault, Draft, InRound, Said, Asks}
use Rattle.frame_script.specs.Sentences.{Takes}
use Rattle.script_lines.specs.Sentences.{CanJoin, event_of}

pub joins : (h : Header) (count next rounds : ℕ) (sizes : List ℕ) (meant : Result Said Fault) (a : Asked) (event : Event) → meant ≡ Ok (Asks (event_of a)) → CanJoin h.network count sizes a → event ≡ event_of a → next ≡ suc count
    → Takes (InRound h count) (InRound h next) rounds sizes meant (Ok (step.Event event))
joins h count next rounds sizes meant a event says can is more =
    subst (λ (e : Event). Takes (InRound h count) (InRound h next) rounds sizes meant (Ok (step.Event e))) (sym is)
    (Asks (event_of a), (says, (ap (λ (n : ℕ). InRound h n) more, (says, can))))

pub stays : (old : Draft) (rounds : ℕ) (sizes : List ℕ) (meant : Result Said Fault) (u : Untaken) → u ≡ untaken.NoMemory → Takes old old rounds sizes meant (Err u)
stays old rounds sizes meant u is = subst (λ (x : Untaken). Takes old old rounds sizes meant (Err x)) (sym is) refl

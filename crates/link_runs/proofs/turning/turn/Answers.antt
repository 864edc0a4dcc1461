use Rattle.std.proofs.Common.{◌+◌, ◌∙◌, List, ℕ, drop, false, refl, ap, sym, arith, Ok}
use Rattle.std.proofs.lemmas.List.{drop-drop}
use Rattle.run_journal.specs.Limits.{most_polls}
use Rattle.link_runs.proofs.Takings.{Takes-more, Takes-past, Takes-same, Takes-start, Takes-stop, Takes-wide}
use Rattle.link_runs.proofs.Writings.{goes_none, goes_then, hurt_then, unhurt}
use Rattle.link_runs.proofs.turning.turn.Goals as goal

pub loop-init : goal.loop-init
loop-init g c = record {
  one = c.requires.one;
  room = refl;
  takes = λ h notes stands. Takes-start g.L.Link.told c.args.end h _ notes _ (tt {0}) stands;
  asked = refl;
  wrote = goes_none _ _ _;
  hurt = refl;
}

pub take_next-requires-clause-one : goal.take_next-requires-clause-one
take_next-requires-clause-one g c = c.loop.invariant.one

pub take_next-requires-clause-room : goal.take_next-requires-clause-room
take_next-requires-clause-room g c = c.loop.invariant.room

-- there was none

pub returns-in-Ok-false-clause-one : goal.returns-in-Ok-false-clause-one
returns-in-Ok-false-clause-one g c = c.take_next.ensures.one

pub returns-in-Ok-false-clause-takes : goal.returns-in-Ok-false-clause-takes
returns-in-Ok-false-clause-takes g c = λ h notes stands.
    let so_far = c.loop.invariant.takes h notes stands in
    let empty = c.take_next.ensures.empty (c.in-Ok-false.is ∙ ap Ok c.in-Ok-false.field-0-test) in
    Takes-past g.L.Link.told c.args.end h (c.loop.counter + 1) most_polls _ _ notes _ (tt {0}) (omega (arith, c.loop-test.true))
    (λ left tell. sym (drop-drop 1 c.loop.counter left) ∙ ap (λ (w : List (List ℕ)). drop 1 w) (empty so_far.notes (drop c.loop.counter left) (so_far.tells left tell).tells))
    (Takes-more g.L.Link.told c.args.end h c.loop.counter _ _ _ notes _ _ (tt {0}) c.in-Ok-false.field-0 (tt {0}) so_far (λ n s. c.in-Ok-false.ensures.takes h n s))

pub returns-in-Ok-false-clause-asked : goal.returns-in-Ok-false-clause-asked
returns-in-Ok-false-clause-asked g c = c.take_next.ensures.asked ∙ c.loop.invariant.asked

pub returns-in-Ok-false-clause-wrote : goal.returns-in-Ok-false-clause-wrote
returns-in-Ok-false-clause-wrote g c = goes_then false _ _ _ _ _ _ _ _ _ c.loop.invariant.wrote c.in-Ok-false.ensures.wrote

pub returns-in-Ok-false-clause-hurt : goal.returns-in-Ok-false-clause-hurt
returns-in-Ok-false-clause-hurt g c = hurt_then false _ _ _ (unhurt _ _ c.loop.invariant.hurt) c.in-Ok-false.ensures.hurt

-- it was not done

pub returns-in-Err-clause-one : goal.returns-in-Err-clause-one
returns-in-Err-clause-one g c = c.take_next.ensures.one

pub returns-in-Err-clause-takes : goal.returns-in-Err-clause-takes
returns-in-Err-clause-takes g c = λ h notes stands.
    Takes-wide g.L.Link.told c.args.end h (c.loop.counter + 1) most_polls _ _ notes _ c.in-Err.breach (omega (arith, c.loop-test.true))
    (Takes-stop g.L.Link.told c.args.end h c.loop.counter _ _ _ notes _ _ (tt {0}) c.in-Err.breach (c.loop.invariant.takes h notes stands) (λ n s. c.in-Err.ensures.takes h n s))

pub returns-in-Err-clause-asked : goal.returns-in-Err-clause-asked
returns-in-Err-clause-asked g c = c.take_next.ensures.asked ∙ c.loop.invariant.asked

pub returns-in-Err-clause-wrote : goal.returns-in-Err-clause-wrote
returns-in-Err-clause-wrote g c = goes_then _ _ _ _ _ _ _ _ _ _ c.loop.invariant.wrote c.in-Err.ensures.wrote

pub returns-in-Err-clause-hurt : goal.returns-in-Err-clause-hurt
returns-in-Err-clause-hurt g c = hurt_then _ _ _ _ (unhurt _ _ c.loop.invariant.hurt) c.in-Err.ensures.hurt

-- one more

pub loop-preserved : goal.loop-preserved
loop-preserved g c = record {
  one = c.take_next.ensures.one;
  room = c.take_next.ensures.room;
  takes = λ h notes stands. Takes-more g.L.Link.told c.args.end h c.loop.counter _ _ _ notes _ _ (tt {0}) c.in-Ok-true.field-0 (tt {0}) (c.loop.invariant.takes h notes stands) (λ n s. c.in-Ok-true.ensures.takes h n s);
  asked = c.take_next.ensures.asked ∙ c.loop.invariant.asked;
  wrote = goes_then false _ _ _ _ _ _ _ _ _ c.loop.invariant.wrote c.in-Ok-true.ensures.wrote;
  hurt = c.in-Ok-true.ensures.hurt.kept refl ∙ c.loop.invariant.hurt;
}

-- a whole turn

pub returns-clause-one : goal.returns-clause-one
returns-clause-one g c = c.loop.invariant.one

pub returns-clause-takes : goal.returns-clause-takes
returns-clause-takes g c = λ h notes stands.
    Takes-same g.L.Link.told c.args.end h c.loop.counter most_polls _ _ notes _ (tt {0}) (omega (arith, c.loop-test.false, c.loop.auto.counter-end)) (c.loop.invariant.takes h notes stands)

pub returns-clause-asked : goal.returns-clause-asked
returns-clause-asked g c = c.loop.invariant.asked

pub returns-clause-wrote : goal.returns-clause-wrote
returns-clause-wrote g c = c.loop.invariant.wrote

pub returns-clause-hurt : goal.returns-clause-hurt
returns-clause-hurt g c = unhurt _ _ c.loop.invariant.hurt

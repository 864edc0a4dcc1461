-- A reader that is given line after line, while the journal grows.
use Rattle.std.proofs.Common.{◌≡◌, ℕ, suc, ◌+◌, ◌≤◌, Bool, true, false, if◌then◌else◌, List, [], ◌∷◌, Result, Ok, Err, OnOk, OnErr, refl, sym, ap, subst, arith}
use Rattle.std.proofs.lemmas.List.{append-nil}
use Rattle.run_journal.specs.declared.acts.Entry.{Entry}
use Rattle.script_lines.specs.declared.refusal.LineFault.{LineFault}
use Rattle.script_lines.specs.declared.refusal.LineFault.TheVariants as answered
use Rattle.frame_script.specs.declared.reader.Mode.{Mode}
use Rattle.frame_script.specs.declared.reader.Mode.TheVariants.{Replay, Live}
use Rattle.script_lines.specs.declared.step.Step.{Step}
use Rattle.script_lines.specs.declared.step.Step.TheVariants as step
use Rattle.frame_script.specs.Script.{is_within, rounds_after}
use Rattle.script_lines.specs.Script.{Draft, IsSeedDue, AtVersion, AtHeader, AtNodes, InRound, Said, Goes, ListsAp, ListsSta, Adds, Asks, BeginsRound, EndsRound}
use Rattle.frame_script.specs.Headers.{Reading, HasSeen, HasSeenAll, HasSeenBy, TakesIn, TakesLine, TakesLive, sizes_of}

-- before its first line it has seen nothing
pub HasSeen-start : (r : Reading) (j : List Entry) → r.seen ≡ 0 → r.sizes ≡ [] → HasSeen r j
unfolding sizes_of
HasSeen-start r j none empty = record { later = j; earlier = []; is = sym (append-nil j); seen = none; sizes = empty }

pub HasSeen-all : (r : Reading) (j : List Entry) → HasSeenAll r j → HasSeen r j
HasSeen-all r j all = record { later = []; earlier = j; is = refl; seen = all.seen; sizes = all.sizes }

-- what it has seen stays seen as the journal grows
pub HasSeen-push : (r : Reading) (e : Entry) (j : List Entry) → HasSeen r j → HasSeen r (e ∷ j)
HasSeen-push r e j h = record {
  later = e ∷ h.later;
  earlier = h.earlier;
  is = ap (λ (past : List Entry). e ∷ past) h.is;
  seen = h.seen;
  sizes = h.sizes;
}

-- in a round it has seen no more than before
pub HasSeen-by : (draft : Draft) (r : Reading) (j : List Entry) → HasSeenBy draft r j → HasSeen r j
HasSeen-by AtVersion r j by = HasSeen-all r j by
HasSeen-by (AtHeader awaited h) r j by = HasSeen-all r j by
HasSeen-by (AtNodes h) r j by = HasSeen-all r j by
HasSeen-by (InRound h count) r j by = by

-- after a line, taken or not
pub HasSeen-after : (draft : Draft) (r : Reading) (j : List Entry) (answer : Result Step LineFault) → OnOk answer (HasSeenBy draft r j) → OnErr answer (HasSeen r j) → HasSeen r j
HasSeen-after draft r j (Ok s) by kept = HasSeen-by draft r j by
HasSeen-after draft r j (Err fault) by kept = kept

at_most : (within : Bool) (rounds : ℕ) → (if within then rounds else suc rounds) ≤ rounds + 1
at_most true rounds = omega arith
at_most false rounds = omega arith

one_more : (draft : Draft) (rounds : ℕ) (said : Said) → rounds_after draft rounds said ≤ rounds + 1
one_more draft rounds (Goes next) = omega arith
one_more draft rounds (ListsAp address r0kh_id) = omega arith
one_more draft rounds (ListsSta address psk) = omega arith
one_more draft rounds (Adds extra) = omega arith
one_more draft rounds (Asks event) = at_most (is_within draft) rounds
one_more draft rounds BeginsRound = omega arith
one_more draft rounds EndsRound = omega arith

-- a line asks for one round at most: in a replay
asks_one : (old new : Reading) (sizes line : List ℕ) (answer : Result Step LineFault) → TakesLine old new sizes line answer → new.rounds ≤ old.rounds + 1
asks_one old new sizes line (Ok s) t = omega (arith, one_more old.draft old.rounds t.0, t.1.1.1.0)
asks_one old new sizes line (Err (answered.Script reason)) t = omega (arith, t.1.1)
asks_one old new sizes line (Err (answered.Limit limit)) t = omega (arith, t.1.1)
asks_one old new sizes line (Err answered.NoMemory) t = omega (arith, t.1)

-- in a live run
turns_one : (old new : Reading) (sizes line : List ℕ) (answer : Result Step LineFault) → TakesLive old new sizes line answer → new.rounds ≤ old.rounds + 1
turns_one old new sizes line (Ok step.Nothing) t = asks_one old new sizes line (Ok step.Nothing) t.1
turns_one old new sizes line (Ok step.Draw) t = omega (arith, t.1.1.1)
turns_one old new sizes line (Ok step.Network) t = asks_one old new sizes line (Ok step.Network) t.1
turns_one old new sizes line (Ok (step.Ap a id)) t = asks_one old new sizes line (Ok (step.Ap a id)) t.1
turns_one old new sizes line (Ok (step.Sta a psk)) t = asks_one old new sizes line (Ok (step.Sta a psk)) t.1
turns_one old new sizes line (Ok (step.Extra extra)) t = asks_one old new sizes line (Ok (step.Extra extra)) t.1
turns_one old new sizes line (Ok (step.Event event)) t = asks_one old new sizes line (Ok (step.Event event)) t.1
turns_one old new sizes line (Ok step.Round) t = asks_one old new sizes line (Ok step.Round) t.1
turns_one old new sizes line (Ok step.End) t = asks_one old new sizes line (Ok step.End) t.1
turns_one old new sizes line (Ok step.Turn) (h, (says, (at, (few, (same, rounds))))) = omega (arith, rounds)
turns_one old new sizes line (Err (answered.Script reason)) t = omega (arith, t.1.1)
turns_one old new sizes line (Err (answered.Limit limit)) t = omega (arith, t.1.1)
turns_one old new sizes line (Err answered.NoMemory) t = omega (arith, t.1)

pub rounds-after : (mode : Mode) (old new : Reading) (sizes line : List ℕ) (answer : Result Step LineFault) → TakesIn mode old new sizes line answer → new.rounds ≤ old.rounds + 1
rounds-after Replay old new sizes line answer t = asks_one old new sizes line answer t
rounds-after Live old new sizes line answer t = turns_one old new sizes line answer t

-- where the seed is to be drawn it is due
pub draws-due : (mode : Mode) (old new : Reading) (sizes line : List ℕ) → TakesIn mode old new sizes line (Ok step.Draw) → IsSeedDue new.draft
draws-due Replay old new sizes line t = absurd t.1.1.1.1
draws-due Live old new sizes line t = subst IsSeedDue (sym t.1.1.0) t.1.0

pub ruleset feeding = (HasSeen-start, HasSeen-push, HasSeen-after, rounds-after)

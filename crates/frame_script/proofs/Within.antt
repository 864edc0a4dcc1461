-- What is seen of a journal, in a round and outside.
use Rattle.std.proofs.Common.{◌≡◌, ℕ, true, false, List, refl, sym}
use Rattle.std.proofs.lemmas.Bool.{false≢true}
use Rattle.run_journal.specs.declared.acts.Entry.{Entry}
use Rattle.frame_script.specs.Script.{is_within}
use Rattle.script_lines.specs.Script.{Draft, AtVersion, AtHeader, AtNodes, InRound}
use Rattle.frame_script.specs.Headers.{HasSeen, HasSeenAll, HasSeenBy, sizes_by, sizes_of}
use Rattle.frame_script.specs.Sentences.{seeing}

pub within_named : (draft : Draft) (seen all : List ℕ) → is_within draft ≡ true → seen ≡ sizes_by draft seen all
within_named AtVersion seen all e = absurd (false≢true e)
within_named (AtHeader awaited header) seen all e = absurd (false≢true e)
within_named (AtNodes header) seen all e = absurd (false≢true e)
within_named (InRound header count) seen all e = refl

pub within_seen : (draft : Draft) (n : ℕ) (sizes : List ℕ) (j : List Entry) → is_within draft ≡ true → HasSeen (seeing n sizes) j → HasSeenBy draft (seeing n sizes) j
within_seen AtVersion n sizes j e h = absurd (false≢true e)
within_seen (AtHeader awaited header) n sizes j e h = absurd (false≢true e)
within_seen (AtNodes header) n sizes j e h = absurd (false≢true e)
within_seen (InRound header count) n sizes j e h = h

pub outside_named : (draft : Draft) (n : ℕ) (seen sizes : List ℕ) (j : List Entry) → is_within draft ≡ false → HasSeenAll (seeing n sizes) j → sizes ≡ sizes_by draft seen (sizes_of j)
outside_named AtVersion n seen sizes j e h = h.sizes
outside_named (AtHeader awaited header) n seen sizes j e h = h.sizes
outside_named (AtNodes header) n seen sizes j e h = h.sizes
outside_named (InRound header count) n seen sizes j e h = absurd (false≢true (sym e))

pub outside_seen : (draft : Draft) (n : ℕ) (sizes : List ℕ) (j : List Entry) → is_within draft ≡ false → HasSeenAll (seeing n sizes) j → HasSeenBy draft (seeing n sizes) j
outside_seen AtVersion n sizes j e h = h
outside_seen (AtHeader awaited header) n sizes j e h = h
outside_seen (AtNodes header) n sizes j e h = h
outside_seen (InRound header count) n sizes j e h = absurd (false≢true (sym e))

pub ruleset seeing_by = (within_named, within_seen, outside_named, outside_seen)

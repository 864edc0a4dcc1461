-- What the reader keeps behind a line, and what the first line says.
use Rattle.std.proofs.Common.{◌≡◌, ℕ, false, List, None, Some, Result, Ok, Err, sym, ap}
use Rattle.std.specs.Prelude.{is_err, OnOk, OnErr}
use Rattle.std.proofs.lemmas.Bool.{false≢true}
use Rattle.run_journal.specs.declared.acts.Entry.{Entry}
use Rattle.script_lines.specs.declared.header.HeaderLine.TheVariants as due
use Rattle.frame_script.specs.declared.reader.Mode.{Mode}
use Rattle.frame_script.specs.declared.reader.Mode.TheVariants.{Replay, Live}
use Rattle.script_lines.specs.declared.step.Step.{Step}
use Rattle.script_lines.specs.declared.refusal.Untaken.{Untaken}
use Rattle.script_lines.specs.declared.refusal.Untaken.TheVariants as untaken
use Rattle.run_journal.specs.declared.domain.Version.{Version}
use Rattle.frame_script.specs.Script.{line_says, version_of, version_line}
use Rattle.script_lines.specs.Script.{Draft, AtVersion, AtHeader, blank, Goes, version_}
use Rattle.frame_script.specs.Headers.{Reading, HasSeen, OnRead, ReadsIn}
use Rattle.frame_script.specs.Sentences.{seeing}

abbrev pub reading_at : Mode → Draft → ℕ → ℕ → List ℕ → Reading
reading_at mode draft rounds seen sizes = record { mode = mode; draft = draft; rounds = rounds; seen = seen; sizes = sizes }

pub where_ok : {T E : Type 0} (r : Result T E) (P : Type 0) → is_err r ≡ false → OnOk r P → P
where_ok (Ok x) P e p = p
where_ok (Err x) P e p = absurd (false≢true (sym e))

pub on_read : (r : Result Step Untaken) (P : Type 0) → P → OnRead r P
on_read (Ok x) P p = p
on_read (Err (untaken.Refused refusal)) P p = p
on_read (Err untaken.NoMemory) P p = tt

-- what was seen of the journal stays
pub seen_in : (r : Reading) (j : List Entry) → HasSeen r j → HasSeen (seeing r.seen r.sizes) j
seen_in r j h = record { later = h.later; earlier = h.earlier; is = h.is; seen = h.seen; sizes = h.sizes }

pub seen_as : (r : Reading) (j : List Entry) → HasSeen (seeing r.seen r.sizes) j → HasSeen r j
seen_as r j h = record { later = h.later; earlier = h.earlier; is = h.is; seen = h.seen; sizes = h.sizes }

pub kept_on : {T E : Type 0} (r : Result T E) (new : Reading) (j : List Entry) → HasSeen (seeing new.seen new.sizes) j → OnErr r (HasSeen new j)
kept_on (Ok x) new j h = tt
kept_on (Err x) new j h = seen_as new j h

-- where memory runs out
pub no_memory : (mode : Mode) (old new : Reading) (sizes line : List ℕ) → new.draft ≡ old.draft → new.rounds ≡ old.rounds → ReadsIn mode old new sizes line (Err untaken.NoMemory)
no_memory Replay old new sizes line draft rounds = (draft, rounds)
no_memory Live old new sizes line draft rounds = (draft, rounds)

-- the first line
pub version_said : (rounds : ℕ) (sizes line : List ℕ) (version : Version) → version_of line ≡ Some version → line_says AtVersion rounds sizes line ≡ Ok (Goes (AtHeader due.Seed (blank version)))
unfolding line_says
version_said rounds sizes line version e = ap version_line e

pub version_missing : (rounds : ℕ) (sizes line : List ℕ) → version_of line ≡ None → line_says AtVersion rounds sizes line ≡ Err version_
unfolding line_says
version_missing rounds sizes line e = ap version_line e

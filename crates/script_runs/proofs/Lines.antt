-- Octets of a script as lines, and what stops its reading.
use Rattle.std.proofs.Common.{◌≡◌, ◌≢◌, ℕ, suc, ◌+◌, ◌*◌, ◌<◌, ◌≤◌, Bool, true, false, take, drop, List, [], ◌∷◌, ◌++◌, length, Option, Some, None, Ok, ◌⊎◌, refl, sym, ap, subst, ◌∙◌, append_assoc, inl, inr, arith}
use Rattle.std.proofs.lemmas.List.{append-nil, length-append, length-drop, take-append-drop}
use Rattle.std.proofs.lemmas.Bool.{false≢true}
use Rattle.std.specs.Io.KnownBytes.{Consumes, Keeps}
use Rattle.domain_base.specs.Told.{LinkStory}
use Rattle.run_journal.specs.declared.acts.Entry.{Entry}
use Rattle.frame_script.specs.declared.mistakes.Mistake.{Mistake}
use Rattle.script_lines.specs.declared.refusal.Refusal.TheVariants.{LongLine, ManyLines}
use Rattle.script_lines.specs.declared.refusal.Refusal.{Refusal}
use Rattle.frame_script.specs.declared.reader.Mode.{Mode}
use Rattle.frame_script.specs.declared.reader.Mode.TheVariants.{Replay, Live}
use Rattle.frame_script.specs.Mistakes.{mistake_in}
use Rattle.frame_script.specs.Live.{Heard, own_says}
use Rattle.script_lines.specs.Refusals.{fault_of}
use Rattle.frame_script.specs.Script.{line_says}
use Rattle.script_lines.specs.Script.{Fault, Draft, AtVersion}
use Rattle.domain_base.specs.declared.outside.LinkError.{LinkError}
use Rattle.domain_links.specs.declared.breaks.Break.TheVariants.{ByLink, ByWrite}
use Rattle.script_runs.specs.declared.state.ScriptState.{ScriptState}
use Rattle.script_runs.specs.declared.stops.Stop.{Stop}
use Rattle.script_runs.specs.declared.stops.Stop.TheVariants as stops
use Rattle.script_runs.specs.declared.stops.Undone.TheVariants as undone
use Rattle.script_runs.specs.Outer.{Outer, IsMet}
use Rattle.script_runs.specs.Script.{Rounds, no_rounds, sizes_before, says_in, Says, Refuses, Spells, most_lines, most_in_line, too_many, AreLines, Begins, IsScript, IsWrong, HasFault, HasMistake, Point, mistake_of, point_of, script_limits}
use Rattle.text_lines.specs.Texts.{TellsIn, AreLinesIn, IsLastIn, NoFeed, without_return, joined, texts, Ends}
use Rattle.script_runs.specs.States.{BreaksLine, FailsToDraw, LeavesLine, Stands}
use Rattle.script_runs.specs.Stops.{Closes, EndsAt, Halts, MetBy, Stopped, StopsLine}
use Rattle.script_runs.specs.Story.{Explains, IsFaulty, IsPrefix, StoppedBy, most_read}
use Rattle.script_runs.specs.declared.stops.Found.{Found}
use Rattle.script_runs.specs.declared.stops.Found.TheVariants as founds
use Rattle.script_runs.proofs.Sent.{Spells-more}
use Rattle.text_lines.proofs.Texts.{Begins-more}

-- ---- octets and lines

-- no more octets than the limits allow
length-joined : (lines : List (List ℕ)) → AreLines lines → length (joined lines) ≤ 8193 * length lines
unfolding joined AreLinesIn
length-joined [] each = omega arith
length-joined (line ∷ lines) each =
    omega (arith, each.1, length-append (joined lines ++ line) (10 ∷ []), length-append (joined lines) line, length-joined lines each.3)

pub length-read : (octets : List ℕ) (good : List (List ℕ)) (rest : List ℕ) → Begins octets good rest → length rest ≤ 8192 → length good ≤ 65536 → length octets ≤ 536944640
length-read octets good rest b short few =
    omega (arith, ap (λ (w : List ℕ). length w) b.whole, length-append (joined good) rest, length-joined good b.each)

-- ---- faults

pub Spells-line : (m : Mode) (j : List Entry) (line : List ℕ) (said : List (List ℕ)) (before draft : Draft) (earlier rounds : Rounds) → Spells m j said before earlier → Says m j line before earlier draft rounds → Spells m j (line ∷ said) draft rounds
unfolding TellsIn
Spells-line m j line said before draft earlier rounds spelled says = ((before, earlier), (spelled, says))

-- whatever comes after a line that is at its end
Ends-more : (more : List ℕ) (ended : Bool) (good : List (List ℕ)) (line after text : List ℕ) → Ends false good line after text → Ends ended good line (after ++ more) text
Ends-more more ended good line after text (inl feed) = inl ((feed.0.0 ++ more, ap (λ (x : List ℕ). x ++ more) feed.0.1), feed.1)
Ends-more more ended good line after text (inr last) = absurd (false≢true last.0)

IsWrong-more : (more : List ℕ) (ended : Bool) (good : List (List ℕ)) (line after : List ℕ) (p : Point) (fault : Fault) → IsWrong false good line after p fault → IsWrong ended good line (after ++ more) p fault
IsWrong-more more ended good line after p fault w = record {
  text = w.text;
  ends = Ends-more more ended good line after w.text w.ends;
  short = w.short;
  why = w.why;
}

abbrev wrong_more : (more : List ℕ) (ended : Bool) (good : List (List ℕ)) (line after : List ℕ) (p : Point) (fault : Fault) {A : Type 0} → A ⊎ IsWrong false good line after p fault → A ⊎ IsWrong ended good line (after ++ more) p fault
wrong_more more ended good line after p fault (inl long) = inl long
wrong_more more ended good line after p fault (inr w) = inr (IsWrong-more more ended good line after p fault w)

mistake_more : (more : List ℕ) (ended : Bool) (good : List (List ℕ)) (line after : List ℕ) (p : Point) (fault : Fault) (mistake : Mistake) {A : Type 0} (wrong : A ⊎ IsWrong false good line after p fault) → HasMistake p fault mistake wrong
    → HasMistake p fault mistake (wrong_more more ended good line after p fault wrong)
unfolding IsWrong-more
mistake_more more ended good line after p fault mistake (inl long) has = tt
mistake_more more ended good line after p fault mistake (inr w) has = has

begins_more : (octets more : List ℕ) (good : List (List ℕ)) (line after : List ℕ) → Begins octets good (line ++ after) → Begins (octets ++ more) good (line ++ (after ++ more))
begins_more octets more good line after b = subst (λ (w : List ℕ). Begins (octets ++ more) good w) (append_assoc line after more) (Begins-more script_limits octets more good (line ++ after) b)

abbrev HasFault-more : (octets more : List ℕ) (ended : Bool) (good : List (List ℕ)) (p : Point) (fault : Fault) → HasFault octets false good p fault → HasFault (octets ++ more) ended good p fault
HasFault-more octets more ended good p fault f = record {
  line = f.line;
  after = f.after ++ more;
  begins = begins_more octets more good f.line f.after f.begins;
  open_line = f.open_line;
  wrong = wrong_more more ended good f.line f.after p fault f.wrong;
}

IsFaulty-more : (fault : Fault) (mistake : Mistake) (number : ℕ) (octets more : List ℕ) (p : Point) → IsFaulty fault mistake number octets false p → IsFaulty fault mistake number (octets ++ more) false p
IsFaulty-more fault mistake number octets more p f = record {
  good = f.good;
  number_is = f.number_is;
  is = HasFault-more octets more false f.good p fault f.is;
  mistaken = mistake_more more false f.good f.is.line f.is.after p fault mistake f.is.wrong f.mistaken;
  explains = f.explains;
}

IsLast-more : (most bound : ℕ) (octets more : List ℕ) (good : List (List ℕ)) (text : List ℕ) (p : Point) → most + length more ≤ bound → IsLastIn script_limits most octets false good text → IsLastIn script_limits bound (octets ++ more) false good text
IsLast-more most bound octets more good text p few l = record {
  line = l.line;
  after = l.after ++ more;
  begins = begins_more octets more good l.line l.after l.begins;
  open_line = l.open_line;
  ends = Ends-more more false good l.line l.after text l.ends;
  short = l.short;
  few = l.few;
  near = omega (arith, few, l.near, length-append l.after more);
}

Stopped-more : (most bound : ℕ) (stop : Stop) (octets more : List ℕ) (p : Point) → most + length more ≤ bound → Stopped most stop octets p → Stopped bound stop (octets ++ more) p
Stopped-more most bound (stops.Refused number refusal mistake) octets more p few f = IsFaulty-more (fault_of refusal) mistake number octets more p f
Stopped-more most bound stops.NoMemory octets more p few f = record {
  good = f.good;
  line = f.line;
  after = f.after ++ more;
  begins = begins_more octets more f.good f.line f.after f.begins;
  open_line = f.open_line;
  short = f.short;
  near = omega (arith, few, f.near, length-append f.after more);
  explains = f.explains;
}
Stopped-more most bound stops.DrawFault octets more p few f = record {
  good = f.good;
  text = f.text;
  last = IsLast-more most bound octets more f.good f.text p few f.last;
  live = f.live;
  asks = f.asks;
  none = f.none;
  explains = f.explains;
}
Stopped-more most bound (stops.Broken error) octets more p few f = record {
  good = f.good;
  text = f.text;
  last = IsLast-more most bound octets more f.good f.text p few f.last;
  live = f.live;
  explains = f.explains;
}
Stopped-more most bound stops.Unwritten octets more p few f = record {
  good = f.good;
  text = f.text;
  last = IsLast-more most bound octets more f.good f.text p few f.last;
  ran = f.ran;
  explains = f.explains;
}

-- octets too many
pub Stopped-long : (octets more : List ℕ) (lines : ℕ) (mistake : Mistake) (good : List (List ℕ)) (line : List ℕ) (p : Point) → Begins octets good line → NoFeed (line ++ more) → most_in_line < length line + length more → lines ≡ length good
    → Explains (texts good) p → Stopped 1 (stops.Refused (suc lines) LongLine mistake) (octets ++ more) p
Stopped-long octets more lines mistake good line p b none long count explains = record {
  good = good;
  number_is = ap suc count;
  is = record {
    line = line ++ more;
    after = [];
    begins = subst (λ (w : List ℕ). Begins (octets ++ more) good w) (sym (append-nil (line ++ more))) (Begins-more script_limits octets more good line b);
    open_line = none;
    wrong = inl (refl, omega (arith, long, length-append line more));
  };
  mistaken = tt;
  explains = explains;
}

-- a line stopped it: where it ends, and what it says
record IsAt (whole : List ℕ) (ended : Bool) (good : List (List ℕ)) (line after text : List ℕ) : Type 0 where
  begins : Begins whole good (line ++ after)
  open_line : NoFeed line
  ends : Ends ended good line after text
  short : length line ≤ most_in_line

faulty : (fault : Fault) (mistake : Mistake) (number lines : ℕ) (whole : List ℕ) (ended : Bool) (good : List (List ℕ)) (line after text : List ℕ) (p : Point) → IsAt whole ended good line after text → lines ≡ length good
    → number ≡ suc lines → mistake ≡ mistake_of p fault text → ((fault ≡ too_many) × (most_lines ≤ lines)) ⊎ ((lines < most_lines) × Refuses p.mode p.journal text p.draft p.rounds fault) → Explains (texts good) p → IsFaulty fault mistake number whole ended p
faulty fault mistake number lines whole ended good line after text p at count next asked why explains = record {
  good = good;
  number_is = next ∙ ap suc count;
  is = record {
    line = line;
    after = after;
    begins = at.begins;
    open_line = at.open_line;
    wrong = inr (record {
      text = text;
      ends = at.ends;
      short = at.short;
      why = subst (λ (n : ℕ). ((fault ≡ too_many) × (most_lines ≤ n)) ⊎ ((n < most_lines) × Refuses p.mode p.journal text p.draft p.rounds fault)) count why;
    });
  };
  mistaken = asked;
  explains = explains;
}

last_line : (most lines : ℕ) (whole : List ℕ) (ended : Bool) (good : List (List ℕ)) (line after text : List ℕ) (p : Point) → IsAt whole ended good line after text → lines < most_lines → lines ≡ length good → length after ≤ most
    → IsLastIn script_limits most whole ended good text
last_line most lines whole ended good line after text p at few count near = record {
  line = line;
  after = after;
  begins = at.begins;
  open_line = at.open_line;
  ends = at.ends;
  short = at.short;
  few = omega (arith, few, count);
  near = near;
}

-- the reading stopped there, whether or not the source ended
record HaltsBy {L : Type 0} (told : L → Option LinkStory) (first o : Outer L) (m : Mode) (most : ℕ) (stop : Stop) (octets : List ℕ) (ended : Bool) (j : List Entry) : Type 0 where
  draft : Draft
  rounds : Rounds
  stopped : StoppedBy most stop octets ended (point_of m j draft rounds)
  met : MetBy stop told first o m draft rounds j

-- and all is as it was
halts_same : {L : Type 0} (told : L → Option LinkStory) (first old new : Outer L) (m : Mode) (most : ℕ) (stop : Stop) (octets : List ℕ) (ended : Bool) (j k : List Entry) → k ≡ j → new ≡ old → HaltsBy told first old m most stop octets ended j
    → HaltsBy told first new m most stop octets ended k
halts_same told first old new m most stop octets ended j k same outside h =
    subst (λ (x : List Entry). HaltsBy told first new m most stop octets ended x) (sym same) (subst (λ (o : Outer _). HaltsBy told first o m most stop octets ended j) (sym outside) h)

stopped_at : {L : Type 0} (told : L → Option LinkStory) (first old new : Outer L) (m : Mode) (most : ℕ) (stop : Stop) (lines : ℕ) (whole : List ℕ) (ended : Bool) (good : List (List ℕ)) (line after text : List ℕ) (draft : Draft) (rounds : Rounds) (j k : List Entry)
    → IsAt whole ended good line after text → lines ≡ length good → length after ≤ most → StopsLine stop told first old new m lines text draft rounds j k → Explains (texts good) (point_of m j draft rounds) → IsMet told first old m draft rounds j
    → HaltsBy told first new m most stop whole ended k
stopped_at told first old new m most (stops.Refused number refusal mistake) lines whole ended good line after text draft rounds j k at count near why explains met =
    halts_same told first old new m most (stops.Refused number refusal mistake) whole ended j k why.1.1.1.0 why.1.1.1.1 (record {
      draft = draft;
      rounds = rounds;
      stopped = faulty (fault_of refusal) mistake number lines whole ended good line after text (point_of m j draft rounds) at count why.0 why.1.0 why.1.1.0 explains;
      met = met;
    })
stopped_at told first old new m most stops.NoMemory lines whole ended good line after text draft rounds j k at count near why explains met =
    halts_same told first old new m most stops.NoMemory whole ended j k why.0 why.1 (record {
      draft = draft;
      rounds = rounds;
      stopped = record { good = good; line = line; after = after; begins = at.begins; open_line = at.open_line; short = at.short; near = near; explains = explains };
      met = met;
    })
stopped_at told first old new m most stops.DrawFault lines whole ended good line after text draft rounds j k at count near why explains met =
    halts_same told first old new m most stops.DrawFault whole ended j k why.1.0.kept why.1.1 (record {
      draft = draft;
      rounds = rounds;
      stopped = record {
        good = good;
        text = text;
        last = last_line most lines whole ended good line after text (point_of m j draft rounds) at why.0 count near;
        live = why.1.0.live;
        asks = why.1.0.asks;
        none = why.1.0.none;
        explains = explains;
      };
      met = met;
    })
stopped_at told first old new m most (stops.Broken error) lines whole ended good line after text draft rounds j k at count near why explains met =
    let b = why.1 in
    record {
      draft = b.draft;
      rounds = b.rounds;
      stopped = record {
        good = good;
        text = text;
        last = last_line most lines whole ended good line after text (point_of m k b.draft b.rounds) at why.0 count near;
        live = b.broken;
        explains = record { spelled = Spells-line m k text (texts good) draft b.draft rounds b.rounds (Spells-more m j k (texts good) draft rounds b.same explains.spelled) b.says; journal = b.journal };
      };
      met = b.met;
    }
stopped_at told first old new m most stops.Unwritten lines whole ended good line after text draft rounds j k at count near why explains met =
    let b = why.1 in
    record {
      draft = b.draft;
      rounds = b.rounds;
      stopped = record {
        good = good;
        text = text;
        last = last_line most lines whole ended good line after text (point_of m k b.draft b.rounds) at why.0 count near;
        ran = b.broken;
        explains = record { spelled = Spells-line m k text (texts good) draft b.draft rounds b.rounds (Spells-more m j k (texts good) draft rounds b.same explains.spelled) b.says; journal = b.journal };
      };
      met = b.met;
    }

-- ---- what a line that was not done stops

mistake_there : (m n : Mode) (old draft : Draft) (a b : ℕ) (seen sizes : List ℕ) (fault : Fault) (line : List ℕ) → m ≡ n → old ≡ draft → a ≡ b → seen ≡ sizes → mistake_in m old a seen fault line ≡ mistake_in n draft b sizes fault line
mistake_there m n old draft a b seen sizes fault line kind same count sent =
    subst (λ (x : Mode). mistake_in m old a seen fault line ≡ mistake_in x draft b sizes fault line) kind
    (subst (λ (x : Draft). mistake_in m old a seen fault line ≡ mistake_in m x b sizes fault line) same
    (subst (λ (x : List ℕ). mistake_in m old a seen fault line ≡ mistake_in m old b x fault line) sent
    (ap (λ (n : ℕ). mistake_in m old n seen fault line) count)))

-- one that is refused, and one too many
pub refused-line : {L : Type 0} (told : L → Option LinkStory) (first old new : Outer L) (s : ScriptState) (m : Mode) (j k : List Entry) (lines : ℕ) (line : List ℕ) (draft : Draft) (rounds : Rounds) (refusal : Refusal)
    → LeavesLine (undone.Refused refusal) told first old new s line draft rounds j k → s.reader.mode ≡ m → lines < most_lines
    → StopsLine (stops.Refused (suc lines) refusal (mistake_in s.reader.mode s.reader.draft s.reader.rounds s.reader.sizes (fault_of refusal) line)) told first old new m lines line draft rounds j k
refused-line told first old new s m j k lines line draft rounds refusal leaves kind few = (
  refl,
  (
    mistake_there s.reader.mode m s.reader.draft draft s.reader.rounds rounds.asked s.reader.sizes (sizes_before (length rounds.run) j) (fault_of refusal) line kind leaves.0.draft_is leaves.0.rounds_are leaves.0.sizes_are,
    (inr (few, subst (λ (n : Mode). Refuses n j line draft rounds (fault_of refusal)) kind leaves.0.refuses), leaves.1),
  ),
)

pub many-lines : {L : Type 0} (told : L → Option LinkStory) (first o : Outer L) (s : ScriptState) (j : List Entry) (lines : ℕ) (line : List ℕ) (draft : Draft) (rounds : Rounds) → Stands s draft rounds j → most_lines ≤ lines
    → StopsLine (stops.Refused (suc lines) ManyLines (mistake_in s.reader.mode s.reader.draft s.reader.rounds s.reader.sizes (fault_of ManyLines) line)) told first o o s.reader.mode lines line draft rounds j j
many-lines told first o s j lines line draft rounds stands many =
    (refl, (mistake_there s.reader.mode s.reader.mode s.reader.draft draft s.reader.rounds rounds.asked s.reader.sizes s.reader.sizes (fault_of ManyLines) line refl stands.draft_is stands.rounds_are refl, (inl (refl, many), (refl, refl))))

-- one whose seed could not be drawn, and one that was broken
pub undrawn-line : {L : Type 0} (told : L → Option LinkStory) (first old new : Outer L) (s : ScriptState) (m : Mode) (j k : List Entry) (lines : ℕ) (line : List ℕ) (draft : Draft) (rounds : Rounds)
    → LeavesLine undone.DrawFault told first old new s line draft rounds j k → s.reader.mode ≡ m → lines < most_lines → StopsLine stops.DrawFault told first old new m lines line draft rounds j k
undrawn-line told first old new s m j k lines line draft rounds leaves kind few = (few, (subst (λ (n : Mode). FailsToDraw n line draft rounds j k) kind leaves.0, leaves.1))

pub broken-line : {L : Type 0} (told : L → Option LinkStory) (first old new : Outer L) (s : ScriptState) (m : Mode) (j k : List Entry) (lines : ℕ) (line : List ℕ) (draft : Draft) (rounds : Rounds) (error : LinkError)
    → LeavesLine (undone.Broken error) told first old new s line draft rounds j k → s.reader.mode ≡ m → lines < most_lines → StopsLine (stops.Broken error) told first old new m lines line draft rounds j k
broken-line told first old new s m j k lines line draft rounds error leaves kind few = (few, subst (λ (n : Mode). BreaksLine told (ByLink error) first new n line draft rounds j k) kind leaves)

pub unwritten-line : {L : Type 0} (told : L → Option LinkStory) (first old new : Outer L) (s : ScriptState) (m : Mode) (j k : List Entry) (lines : ℕ) (line : List ℕ) (draft : Draft) (rounds : Rounds)
    → LeavesLine undone.Unwritten told first old new s line draft rounds j k → s.reader.mode ≡ m → lines < most_lines → StopsLine stops.Unwritten told first old new m lines line draft rounds j k
unwritten-line told first old new s m j k lines line draft rounds leaves kind few = (few, subst (λ (n : Mode). BreaksLine told ByWrite first new n line draft rounds j k) kind leaves)

pub ruleset stopping = (refused-line, many-lines, undrawn-line, broken-line, unwritten-line)

-- ---- where a line stops the reading

-- before a line feed
pub Halts-line : {L : Type 0} (told : L → Option LinkStory) (first old new : Outer L) (m : Mode) (stop : Stop) (lines : ℕ) (octets : List ℕ) (good : List (List ℕ)) (line : List ℕ) (draft : Draft) (rounds : Rounds) (j k : List Entry)
    → Begins octets good line → NoFeed line → length line ≤ most_in_line → lines ≡ length good → Explains (texts good) (point_of m j draft rounds) → IsMet told first old m draft rounds j → StopsLine stop told first old new m lines (without_return line) draft rounds j k
    → Halts told first new m 1 stop (octets ++ 10 ∷ []) k
Halts-line told first old new m stop lines octets good line draft rounds j k b none short count explains met why =
    let at : IsAt (octets ++ 10 ∷ []) false good line (10 ∷ []) (without_return line) = record {
      begins = Begins-more script_limits octets (10 ∷ []) good line b;
      open_line = none;
      ends = inl (([], refl), refl);
      short = short;
    } in
    let h = stopped_at told first old new m 1 stop lines (octets ++ 10 ∷ []) false good line (10 ∷ []) (without_return line) draft rounds j k at count (omega arith) why explains met in
    record { draft = h.draft; rounds = h.rounds; stopped = h.stopped; met = h.met }

-- at the end of the source
pub Closes-last : {L : Type 0} (told : L → Option LinkStory) (first old new : Outer L) (m : Mode) (stop : Stop) (lines : ℕ) (octets : List ℕ) (good : List (List ℕ)) (line : List ℕ) (draft : Draft) (rounds : Rounds) (j k : List Entry)
    → Begins octets good line → NoFeed line → length line ≤ most_in_line → lines ≡ length good → (line ≢ []) ⊎ (good ≡ []) → Explains (texts good) (point_of m j draft rounds) → IsMet told first old m draft rounds j
    → StopsLine stop told first old new m lines line draft rounds j k → Closes told first new m (founds.Stopped stop) octets true k
Closes-last told first old new m stop lines octets good line draft rounds j k b none short count some explains met why =
    let at : IsAt octets true good line [] line = record {
      begins = subst (λ (w : List ℕ). Begins octets good w) (sym (append-nil line)) b;
      open_line = none;
      ends = inr (refl, (refl, (refl, some)));
      short = short;
    } in
    let h = stopped_at told first old new m most_read stop lines octets true good line [] line draft rounds j k at count (omega arith) why explains met in
    record { draft = h.draft; rounds = h.rounds; tells = h.stopped; met = h.met }

-- ---- whole scripts

-- the last line has its line feed
pub IsScript-closed : (octets : List ℕ) (good : List (List ℕ)) (line : List ℕ) → Begins octets good line → line ≡ [] → 0 < length good → IsScript octets (texts good)
IsScript-closed octets good line b closed some = inl (record {
  lines = good;
  begins = subst (λ (w : List ℕ). Begins octets good w) closed b;
  some = λ none. omega (arith, some, ap (λ (g : List (List ℕ)). length g) none);
  says = refl;
})

-- an empty source says nothing that can be taken
no_empty : (m : Mode) (n : ℕ) (sizes : List ℕ) (said : Heard) → says_in m AtVersion n sizes [] ≡ Ok said → ⊥
unfolding line_says own_says
no_empty Replay n sizes said says = cc
no_empty Live n sizes said says = cc

nothing_first : (m : Mode) (j : List Entry) (good : List (List ℕ)) (before draft : Draft) (earlier rounds : Rounds) → good ≡ [] → Spells m j (texts good) before earlier → Says m j [] before earlier draft rounds → ⊥
unfolding TellsIn
nothing_first m j [] before draft earlier rounds none spelled says =
    no_empty m earlier.asked (sizes_before (length earlier.run) j) says.said (subst (λ (x : Draft). says_in m x earlier.asked (sizes_before (length earlier.run) j) [] ≡ Ok says.said) spelled.0 says.says)
nothing_first m j (line ∷ good) before draft earlier rounds none spelled says = cc

-- or lacks it
pub IsScript-open : (m : Mode) (octets : List ℕ) (good : List (List ℕ)) (line : List ℕ) (before draft : Draft) (earlier rounds : Rounds) (j : List Entry) → Begins octets good line → NoFeed line → length line ≤ most_in_line → length good < most_lines
    → (line ≢ []) ⊎ (good ≡ []) → Spells m j (texts good) before earlier → Says m j line before earlier draft rounds → IsScript octets (line ∷ texts good)
IsScript-open m octets good line before draft earlier rounds j b none short few some spelled says = inr (record {
  lines = good;
  last = line;
  begins = b;
  some = elim some [
    | inl some_octets ↦ some_octets
    | inr first ↦ λ empty. nothing_first m j good before draft earlier rounds first spelled (subst (λ (w : List ℕ). Says m j w before earlier draft rounds) empty says)
  ];
  line = none;
  short = short;
  few = few;
  says = refl;
})

-- there are as many texts as lines
pub length-texts : (lines : List (List ℕ)) → length (texts lines) ≡ length lines
length-texts [] = refl
length-texts (line ∷ lines) = ap suc (length-texts lines)

-- the end of the source behind a whole script
pub Closes-end : {L : Type 0} (told : L → Option LinkStory) (first o : Outer L) (m : Mode) (found : Found) (lines : ℕ) (octets : List ℕ) (script : List (List ℕ)) (draft : Draft) (rounds : Rounds) (j : List Entry)
    → EndsAt found lines draft → lines ≡ length script → IsScript octets script → Explains script (point_of m j draft rounds) → IsMet told first o m draft rounds j → Closes told first o m found octets true j
Closes-end told first o m founds.Whole lines octets script draft rounds j end count is explains met = record {
  draft = draft;
  rounds = rounds;
  tells = record { script = script; is = is; end = refl; closed = end; explains = explains };
  met = met;
}
Closes-end told first o m (founds.Unended number refusal) lines octets script draft rounds j end count is explains met = record {
  draft = draft;
  rounds = rounds;
  tells = record { script = script; is = is; end = refl; fault_is = end.1; number_is = end.0 ∙ ap suc count; explains = explains };
  met = met;
}
Closes-end told first o m (founds.Stopped stop) lines octets script draft rounds j end count is explains met = absurd end
Closes-end told first o m founds.ReadFault lines octets script draft rounds j end count is explains met = absurd end

pub not_read : (found : Found) (lines : ℕ) (draft : Draft) → EndsAt found lines draft → found ≢ founds.ReadFault
not_read found lines draft end fault = subst (λ (f : Found). EndsAt f lines draft) fault end

-- behind a front of the octets that were read
Stopped-behind : (most : ℕ) (stop : Stop) (before octets : List ℕ) (i : ℕ) (p : Point) → 0 < i → i ≤ length octets → length octets ≤ most → Stopped 1 stop (before ++ take i octets) p → Stopped most stop (before ++ octets) p
Stopped-behind most stop before octets i p some within few s =
    subst (λ (w : List ℕ). Stopped most stop w p) (append_assoc before (take i octets) (drop i octets) ∙ ap (λ (w : List ℕ). before ++ w) (take-append-drop i octets))
    (Stopped-more 1 most stop (before ++ take i octets) (drop i octets) p (omega (arith, length-drop {A = ℕ}, some, within, few)) s)

pub Halts-behind : {L : Type 0} (told : L → Option LinkStory) (first o : Outer L) (m : Mode) (most : ℕ) (stop : Stop) (before octets : List ℕ) (i : ℕ) (j : List Entry) → 0 < i → i ≤ length octets → length octets ≤ most
    → Halts told first o m 1 stop (before ++ take i octets) j → Halts told first o m most stop (before ++ octets) j
Halts-behind told first o m most stop before octets i j some within few h = record {
  draft = h.draft;
  rounds = h.rounds;
  stopped = Stopped-behind most stop before octets i (point_of m j h.draft h.rounds) some within few h.stopped;
  met = h.met;
}

-- before any octet
pub nothing_yet : (m : Mode) (j : List Entry) → j ≡ [] → IsPrefix most_read [] (point_of m j AtVersion no_rounds)
unfolding TellsIn joined AreLinesIn
nothing_yet m j empty = record {
  good = [];
  line = [];
  after = [];
  begins = record { whole = refl; each = tt };
  open_line = tt;
  short = omega arith;
  near = omega arith;
  explains = record { spelled = (refl, refl); journal = (refl, empty) };
}

-- ---- what a source gives

pub Consumes-nil : (a : Option (List ℕ)) → Consumes a a []
Consumes-nil None = tt
Consumes-nil (Some x) = refl

pub Consumes-then : (a b c : Option (List ℕ)) (xs ys : List ℕ) → Consumes a b xs → Consumes b c ys → Consumes a c (xs ++ ys)
Consumes-then None b c xs ys p q = tt
Consumes-then (Some x) None c xs ys p q = absurd p
Consumes-then (Some x) (Some y) None xs ys p q = absurd q
Consumes-then (Some x) (Some y) (Some z) xs ys p q = p ∙ ap (λ (w : List ℕ). xs ++ w) q ∙ sym (append_assoc xs ys z)

pub Consumes-none : (a b c : Option (List ℕ)) (xs buf : List ℕ) (count : ℕ) → Consumes a b xs → Consumes b c (take count buf) → count ≡ 0 → Consumes a c xs
Consumes-none a b c xs buf count p q n =
    subst (λ (w : List ℕ). Consumes a c w) (append-nil xs) (Consumes-then a b c xs [] p (subst (λ (k : ℕ). Consumes b c (take k buf)) n q))

pub Consumes-kept : (a b c : Option (List ℕ)) (xs : List ℕ) → Consumes a b xs → Keeps b c → Consumes a c xs
Consumes-kept None b c xs p q = tt
Consumes-kept (Some x) None c xs p q = absurd p
Consumes-kept (Some x) (Some y) None xs p q = absurd q
Consumes-kept (Some x) (Some y) (Some z) xs p q = p ∙ ap (λ (w : List ℕ). xs ++ w) (sym q)

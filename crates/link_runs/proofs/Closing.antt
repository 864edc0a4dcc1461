-- How the reading of the script of an end ends.
use Rattle.std.proofs.Common.{◌≡◌, ◌≢◌, ℕ, ◌<◌, ◌≤◌, ◌+◌, ◌⊎◌, inl, inr, Bool, true, false, List, [], ◌∷◌, ◌++◌, length, Option, None, Some, Ok, refl, sym, ap, subst, ◌∙◌, append_assoc, arith}
use Rattle.std.specs.Io.KnownBytes.{Consumes, IsAtEnd}
use Rattle.std.proofs.lemmas.Bool.{false≢true}
use Rattle.domain_base.specs.Told.{LinkStory}
use Rattle.run_journal.specs.declared.acts.Entry.{Entry}
use Rattle.link_steps.specs.declared.ends.LinkEnd.{LinkEnd}
use Rattle.link_lines.specs.declared.refusal.LinkRefusal.{LinkRefusal}
use Rattle.link_lines.specs.declared.refusal.LinkRefusal.TheVariants.{LongLine, ManyLines}
use Rattle.link_lines.specs.declared.mistakes.Slip.{Slip}
use Rattle.link_lines.specs.Drafts.{LinkDraft, no_lines}
use Rattle.link_lines.specs.Lines.{Says, line_says}
use Rattle.link_lines.specs.Slips.{slip_in}
use Rattle.text_lines.specs.declared.reader.LineReader.{LineReader}
use Rattle.text_lines.specs.declared.reader.Next.TheVariants as next
use Rattle.text_lines.specs.Reads.{Comes, HasRead, IsAt, IsLast}
use Rattle.text_lines.specs.Texts.{TellsIn, texts, without_return}
use Rattle.text_lines.proofs.Endings.{last_at, last_text, line_cut, line_done, line_dropped, over_text}
use Rattle.link_runs.specs.declared.found.LinkFound.{LinkFound}
use Rattle.link_runs.specs.declared.found.LinkFound.TheVariants as found
use Rattle.link_runs.specs.declared.state.LinkState.{LinkState}
use Rattle.link_runs.specs.Endings.{IsFaulty, TellBy}
use Rattle.link_runs.specs.Reading.{Closes, Ends, IsRefused, Reached, StopsLine}
use Rattle.link_runs.specs.Standing.{Outer, Stands, TellsLine, asked_of}
use Rattle.link_runs.specs.Told.{Hears, Refuses, Told, asked_by, nothing_told, script_limits}
use Rattle.link_runs.proofs.Standing.{asked_stands, journal_of, unmoved}

-- ---- what was read of the source

pub Consumes-nil : (a : Option (List ℕ)) → Consumes a a []
Consumes-nil None = tt
Consumes-nil (Some x) = refl

pub Consumes-then : (a b c : Option (List ℕ)) (xs ys : List ℕ) → Consumes a b xs → Consumes b c ys → Consumes a c (xs ++ ys)
Consumes-then None b c xs ys p q = tt
Consumes-then (Some x) None c xs ys p q = absurd p
Consumes-then (Some x) (Some y) None xs ys p q = absurd q
Consumes-then (Some x) (Some y) (Some z) xs ys p q = p ∙ ap (λ (w : List ℕ). xs ++ w) q ∙ sym (append_assoc xs ys z)

-- ---- a line that ends the reading

-- what is wrong in it, by what its lines told
pub slip_stands : {L : Type 0} (told : L → Option LinkStory) (first now : Outer) (s : LinkState L) (j : List Entry) (t : Told) (refusal : LinkRefusal) (line : List ℕ) (slip : Slip) → Stands told first now s j t → slip ≡ slip_in s.reader (asked_of s.running) refusal line → slip ≡ slip_in t.draft (asked_by t) refusal line
slip_stands told first now s j t refusal line slip stands is =
    is
    ∙ ap (λ (d : LinkDraft). slip_in d (asked_of s.running) refusal line) stands.draft_is
    ∙ ap (λ (n : ℕ). slip_in t.draft n refusal line) (asked_stands s.running t j stands.steps)

-- one too many
pub stops_many : {L : Type 0} (told : L → Option LinkStory) (first now : Outer) (s : LinkState L) (lines : ℕ) (line : List ℕ) (j : List Entry) (t : Told) (found_ : LinkFound) → 65536 ≤ lines → Stands told first now s j t → found_ ≡ found.Refused (lines + 1) ManyLines (slip_in s.reader (asked_of s.running) ManyLines line) → StopsLine told first now s lines line j t found_
stops_many told first now s lines line j t found_ many stands is =
    subst (λ (f : LinkFound). StopsLine told first now s lines line j t f) (sym is)
    (refl, (slip_stands told first now s j t ManyLines line _ stands refl, (inl (refl, many), unmoved told first now s s j j t refl refl refl stands)))

-- one that is refused
pub stops_refused : {L : Type 0} (told : L → Option LinkStory) (first now : Outer) (s : LinkState L) (lines : ℕ) (line : List ℕ) (k : List Entry) (t : Told) (refusal : LinkRefusal) (found_ : LinkFound) → lines < 65536 → Refuses line t refusal × Stands told first now s k t → found_ ≡ found.Refused (lines + 1) refusal (slip_in s.reader (asked_of s.running) refusal line) → StopsLine told first now s lines line k t found_
stops_refused told first now s lines line k t refusal found_ few left is =
    subst (λ (f : LinkFound). StopsLine told first now s lines line k t f) (sym is)
    (refl, (slip_stands told first now s k t refusal line _ left.1 refl, (inr (few, left.0), unmoved told first now s s k k t refl refl refl left.1)))

-- ---- the reading before it

-- with its lines it told this; the next line has come to its end
pub record Before {L : Type 0} (told : L → Option LinkStory) (end : LinkEnd) (first now : Outer) (r : LineReader) (s : LinkState L) (octets : List ℕ) (j : List Entry) (ended : Bool) (line text : List ℕ) : Type 0 where
  pub good : List (List ℕ)
  pub t : Told
  pub at : IsAt script_limits ended octets good line text
  pub count : r.cutter.lines ≡ length good
  pub end_is : s.reader.end ≡ end
  pub tells : TellBy end t (texts good)
  pub stands : Stands told first now s j t

-- a line tells one line more
more_told : (end : LinkEnd) (good : List (List ℕ)) (text : List ℕ) (t u : Told) → TellBy end t good → Hears text t u → TellBy end u (text ∷ good)
unfolding TellsIn
more_told end good text t u tells hears = (t, (tells, hears))

module _ {L : Type 0} (told : L → Option LinkStory) (end : LinkEnd) (first now was : Outer) (r : LineReader) (s n : LinkState L) (octets : List ℕ) (j k : List Entry) (ended : Bool) (line text : List ℕ) (b : Before told end first was r s octets j ended line text) where
  wrong_why : (number : ℕ) (refusal : LinkRefusal) → IsRefused refusal r.cutter.lines text b.t → ((refusal ≡ ManyLines) × (65536 ≤ length b.good)) ⊎ ((length b.good < 65536) × Refuses text b.t refusal)
  wrong_why number refusal (inl many) = inl (many.0, omega (arith, many.1, b.count))
  wrong_why number refusal (inr refused) = inr (omega (arith, refused.0, b.count), refused.1)

  faulty : (number : ℕ) (refusal : LinkRefusal) (slip : Slip) → number ≡ r.cutter.lines + 1 → slip ≡ slip_in b.t.draft (asked_by b.t) refusal text → IsRefused refusal r.cutter.lines text b.t → IsFaulty end number refusal slip octets ended b.t
  faulty number refusal slip number_is slip_is why = record {
    good = b.good;
    number_is = omega (arith, number_is, b.count);
    is = record {
      line = line;
      after = b.at.after;
      begins = b.at.begins;
      open_line = b.at.open_line;
      wrong = inr (record { text = text; ends = b.at.ends; short = b.at.short; why = wrong_why number refusal why });
    };
    slipped = slip_is;
    told = b.tells;
  }

  -- by why it was not done
  stopped : (found_ : LinkFound) → n.reader.end ≡ s.reader.end → StopsLine told first now n r.cutter.lines text k b.t found_ → Closes told end first now n octets ended k found_
  stopped (found.Refused number refusal slip) same stop = record {
    t = b.t;
    end_is = stop.1.1.1.end_is ∙ same ∙ b.end_is;
    tells = faulty number refusal slip stop.0 stop.1.0 stop.1.1.0;
    journal = stop.1.1.1.journal;
    met = stop.1.1.1.met;
  }
  stopped found.NoMemory same stop = record {
    t = b.t;
    end_is = stop.end_is ∙ same ∙ b.end_is;
    tells = line_dropped script_limits (TellBy end b.t) octets ended b.good line text b.at b.tells;
    journal = stop.journal;
    met = stop.met;
  }
  stopped found.DrawFault same stop = record {
    t = b.t;
    end_is = stop.1.1.1.end_is ∙ same ∙ b.end_is;
    tells = record { good = b.good; text = text; last = line_done script_limits octets ended b.good line text b.at (omega (arith, stop.0, b.count)); asks = stop.1.0; told = b.tells; none = stop.1.1.0 };
    journal = stop.1.1.1.journal;
    met = stop.1.1.1.met;
  }
  stopped (found.Broken why) same stop = record {
    t = stop.1.t;
    end_is = stop.1.end_is ∙ same ∙ b.end_is;
    tells = record {
      good = b.good;
      text = text;
      last = line_done script_limits octets ended b.good line text b.at (omega (arith, stop.0, b.count));
      breaks = stop.1.breaks;
      told = more_told end (texts b.good) text b.t stop.1.t b.tells stop.1.hears;
    };
    journal = stop.1.journal;
    met = stop.1.met;
  }
  stopped found.Whole same stop = absurd stop
  stopped found.ReadFault same stop = absurd stop

-- ---- the next line, after what was read

pub before_line : {L : Type 0} (told : L → Option LinkStory) (end : LinkEnd) (first now : Outer) (r q : LineReader) (s : LinkState L) (left after : Option (List ℕ)) (octets : List ℕ) (j : List Entry) (reached : Reached told end first now r s octets j) (comes : Comes next.Line script_limits q left after octets reached.good) → Before told end first now q s (octets ++ comes.more) j false q.cutter.line.items (without_return q.cutter.line.items)
before_line told end first now r q s left after octets j reached comes = record {
  good = reached.good;
  t = reached.t;
  at = comes.next_is.0;
  count = comes.has.cut.count;
  end_is = reached.end_is;
  tells = reached.tells;
  stands = reached.stands;
}

pub before_last : {L : Type 0} (told : L → Option LinkStory) (end : LinkEnd) (first now : Outer) (r q : LineReader) (s : LinkState L) (left after : Option (List ℕ)) (octets : List ℕ) (j : List Entry) (reached : Reached told end first now r s octets j) (comes : Comes next.Last script_limits q left after octets reached.good) → Before told end first now q s (octets ++ comes.more) j true q.cutter.line.items q.cutter.line.items
before_last told end first now r q s left after octets j reached comes = record {
  good = reached.good;
  t = reached.t;
  at = last_at script_limits (octets ++ comes.more) reached.good q.cutter.line.items comes.next_is.0;
  count = comes.has.cut.count;
  end_is = reached.end_is;
  tells = reached.tells;
  stands = reached.stands;
}

-- ---- how the reading ends

-- what was read until then: so many octets, and more
pub record SoFar {L : Type 0} (told : L → Option LinkStory) (end : LinkEnd) (first now : Outer) (r : LineReader) (s : LinkState L) (start left : Option (List ℕ)) (j : List Entry) : Type 0 where
  pub octets : List ℕ
  pub read : Consumes start left octets
  pub reached : Reached told end first now r s octets j

ended_false : (left : Option (List ℕ)) → false ≡ true → IsAtEnd left
ended_false left e = absurd (false≢true e)

-- at a line that was not done
pub ends_line : {L : Type 0} (told : L → Option LinkStory) (end : LinkEnd) (first was now : Outer) (r q : LineReader) (s n : LinkState L) (start left after : Option (List ℕ)) (j k : List Entry) (found_ : LinkFound) (so_far : SoFar told end first was r s start left j) → Comes next.Line script_limits q left after so_far.octets so_far.reached.good → n.reader.end ≡ s.reader.end
    → StopsLine told first now n q.cutter.lines (without_return q.cutter.line.items) k so_far.reached.t found_ → Ends told end first now n start after k found_
unfolding before_line
ends_line told end first was now r q s n start left after j k found_ so_far comes same stop = record {
  octets = so_far.octets ++ comes.more;
  ended = false;
  read = Consumes-then start left after so_far.octets comes.more so_far.read comes.read;
  at_end = ended_false after;
  closes = stopped told end first now was q s n (so_far.octets ++ comes.more) j k false q.cutter.line.items (without_return q.cutter.line.items)
      (before_line told end first was r q s left after so_far.octets j so_far.reached comes) found_ same stop;
}

-- at the last one
pub ends_last : {L : Type 0} (told : L → Option LinkStory) (end : LinkEnd) (first was now : Outer) (r q : LineReader) (s n : LinkState L) (start left after : Option (List ℕ)) (j k : List Entry) (found_ : LinkFound) (so_far : SoFar told end first was r s start left j) → Comes next.Last script_limits q left after so_far.octets so_far.reached.good → n.reader.end ≡ s.reader.end
    → StopsLine told first now n q.cutter.lines q.cutter.line.items k so_far.reached.t found_ → Ends told end first now n start after k found_
unfolding before_last
ends_last told end first was now r q s n start left after j k found_ so_far comes same stop = record {
  octets = so_far.octets ++ comes.more;
  ended = true;
  read = Consumes-then start left after so_far.octets comes.more so_far.read comes.read;
  at_end = λ e. comes.next_is.1;
  closes = stopped told end first now was q s n (so_far.octets ++ comes.more) j k true q.cutter.line.items q.cutter.line.items
      (before_last told end first was r q s left after so_far.octets j so_far.reached comes) found_ same stop;
}

-- a line that says something is some, where it is not the first
first_says : (d : LinkDraft) (end : LinkEnd) (asked : ℕ) (says : Says) → d ≡ no_lines end → line_says d asked [] ≡ Ok says → ⊥
unfolding line_says
first_says d end asked says is e =
    let here : line_says (no_lines end) asked [] ≡ Ok says = subst (λ (x : LinkDraft). line_says x asked [] ≡ Ok says) is e in
    absurd cc

last_some : (end : LinkEnd) (octets : List ℕ) (good : List (List ℕ)) (line : List ℕ) (t u : Told) → IsLast script_limits octets good line → TellBy end t (texts good) → Hears line t u → line ≢ []
unfolding TellsIn
last_some end octets good line t u last tells hears none = elim last.some [
  | inl some ↦ some none
  | inr empty ↦
      let begun : t ≡ nothing_told end = subst (λ (g : List (List ℕ)). TellBy end t (texts g)) empty tells in
      first_says t.draft end (asked_by t) hears.says (ap (λ (x : Told). x.draft) begun) (subst (λ (l : List ℕ). line_says t.draft (asked_by t) l ≡ Ok hears.says) none hears.line_is)
]

-- the last line was done
pub ends_whole : {L : Type 0} (told : L → Option LinkStory) (end : LinkEnd) (first was now : Outer) (r q : LineReader) (s n : LinkState L) (start left after : Option (List ℕ)) (j k : List Entry) (so_far : SoFar told end first was r s start left j) → Comes next.Last script_limits q left after so_far.octets so_far.reached.good → n.reader.end ≡ s.reader.end → q.cutter.lines < 65536
    → TellsLine told first now n q.cutter.line.items k so_far.reached.t → Ends told end first now n start after k found.Whole
ends_whole told end first was now r q s n start left after j k so_far comes same few line =
    let reached = so_far.reached in
    let octets = so_far.octets ++ comes.more in
    let text = q.cutter.line.items in
    record {
      octets = octets;
      ended = true;
      read = Consumes-then start left after so_far.octets comes.more so_far.read comes.read;
      at_end = λ e. comes.next_is.1;
      closes = record {
        t = line.t;
        end_is = sym (ap (λ (d : LinkDraft). d.end) line.stands.draft_is) ∙ same ∙ reached.end_is;
        tells = record {
          script = text ∷ texts reached.good;
          is = last_text script_limits octets reached.good text comes.next_is.0 (last_some end octets reached.good text reached.t line.t comes.next_is.0 reached.tells line.hears) (omega (arith, few, comes.has.cut.count));
          end = refl;
          closed = refl;
          explains = more_told end (texts reached.good) text reached.t line.t reached.tells line.hears;
        };
        journal = journal_of n.running line.t k line.stands.steps;
        met = line.stands.met;
      };
    }

-- it had its line feed
pub ends_over : {L : Type 0} (told : L → Option LinkStory) (end : LinkEnd) (first was : Outer) (r q : LineReader) (s : LinkState L) (start left after : Option (List ℕ)) (j : List Entry) (so_far : SoFar told end first was r s start left j) → Comes next.End script_limits q left after so_far.octets so_far.reached.good → Ends told end first was s start after j found.Whole
ends_over told end first was r q s start left after j so_far comes =
    let reached = so_far.reached in
    let octets = so_far.octets ++ comes.more in
    record {
      octets = octets;
      ended = true;
      read = Consumes-then start left after so_far.octets comes.more so_far.read comes.read;
      at_end = λ e. comes.next_is.1;
      closes = record {
        t = reached.t;
        end_is = sym (ap (λ (d : LinkDraft). d.end) reached.stands.draft_is) ∙ reached.end_is;
        tells = record { script = texts reached.good; is = over_text script_limits octets reached.good comes.next_is.0; end = refl; closed = refl; explains = reached.tells };
        journal = journal_of s.running reached.t j reached.stands.steps;
        met = reached.stands.met;
      };
    }

-- at a line that is too long
pub ends_long : {L : Type 0} (told : L → Option LinkStory) (end : LinkEnd) (first was : Outer) (r q : LineReader) (s : LinkState L) (start left after : Option (List ℕ)) (j : List Entry) (slip : Slip) (found_ : LinkFound) (so_far : SoFar told end first was r s start left j) → Comes next.Long script_limits q left after so_far.octets so_far.reached.good → found_ ≡ found.Refused (q.cutter.lines + 1) LongLine slip → Ends told end first was s start after j found_
ends_long told end first was r q s start left after j slip found_ so_far comes is =
    let reached = so_far.reached in
    let octets = so_far.octets ++ comes.more in
    subst (λ (f : LinkFound). Ends told end first was s start after j f) (sym is) (record {
      octets = octets;
      ended = false;
      read = Consumes-then start left after so_far.octets comes.more so_far.read comes.read;
      at_end = ended_false after;
      closes = record {
        t = reached.t;
        end_is = sym (ap (λ (d : LinkDraft). d.end) reached.stands.draft_is) ∙ reached.end_is;
        tells = record {
          good = reached.good;
          number_is = omega (arith, comes.has.cut.count);
          is = record {
            line = comes.next_is.line;
            after = comes.next_is.after;
            begins = comes.next_is.begins;
            open_line = comes.next_is.open_line;
            wrong = inl (refl, comes.next_is.long);
          };
          slipped = tt;
          told = reached.tells;
        };
        journal = journal_of s.running reached.t j reached.stands.steps;
        met = reached.stands.met;
      };
    })

-- as the source failed
pub ends_failed : {L : Type 0} (told : L → Option LinkStory) (end : LinkEnd) (first was : Outer) (r q : LineReader) (s : LinkState L) (start left after : Option (List ℕ)) (j : List Entry) (so_far : SoFar told end first was r s start left j) → Comes next.Failed script_limits q left after so_far.octets so_far.reached.good → Ends told end first was s start after j found.ReadFault
ends_failed told end first was r q s start left after j so_far comes =
    let reached = so_far.reached in
    let octets = so_far.octets ++ comes.more in
    record {
      octets = octets;
      ended = false;
      read = Consumes-then start left after so_far.octets comes.more so_far.read comes.read;
      at_end = ended_false after;
      closes = record {
        t = reached.t;
        end_is = sym (ap (λ (d : LinkDraft). d.end) reached.stands.draft_is) ∙ reached.end_is;
        tells = line_cut script_limits (TellBy end reached.t) octets reached.good comes.next_is reached.tells;
        journal = journal_of s.running reached.t j reached.stands.steps;
        met = reached.stands.met;
      };
    }

-- ---- one line more

pub further : {L : Type 0} (told : L → Option LinkStory) (end : LinkEnd) (first was now : Outer) (r q p : LineReader) (s n : LinkState L) (start left after : Option (List ℕ)) (j k : List Entry) (so_far : SoFar told end first was r s start left j) (comes : Comes next.Line script_limits q left after so_far.octets so_far.reached.good) → n.reader.end ≡ s.reader.end → TellsLine told first now n (without_return q.cutter.line.items) k so_far.reached.t
    → HasRead script_limits p (so_far.octets ++ comes.more) (q.cutter.line.items ∷ so_far.reached.good) → SoFar told end first now p n start after k
further told end first was now r q p s n start left after j k so_far comes same line has = record {
  octets = so_far.octets ++ comes.more;
  read = Consumes-then start left after so_far.octets comes.more so_far.read comes.read;
  reached = record {
    good = q.cutter.line.items ∷ so_far.reached.good;
    t = line.t;
    has = has;
    end_is = same ∙ so_far.reached.end_is;
    tells = more_told end (texts so_far.reached.good) (without_return q.cutter.line.items) so_far.reached.t line.t so_far.reached.tells line.hears;
    stands = line.stands;
  };
}

-- nothing was read yet
pub Reached-first : {L : Type 0} (told : L → Option LinkStory) (end : LinkEnd) (first : Outer) (r : LineReader) (s : LinkState L) (j : List Entry) → HasRead script_limits r [] [] → s.reader.end ≡ end → Stands told first first s j (nothing_told end) → Reached told end first first r s [] j
unfolding TellsIn
Reached-first told end first r s j has same stands = record { good = []; t = nothing_told end; has = has; end_is = same; tells = refl; stands = stands }

-- What steps write, one after another, and how often the link failed.
use Rattle.std.proofs.Common.{◌≡◌, ℕ, Bool, true, false, List, ◌∷◌, length, Option, refl, sym, ap, subst, ◌∙◌}
use Rattle.std.specs.Io.KnownBytes.{Appends}
use Rattle.std.proofs.lemmas.Bool.{false≢true, true≢false}
use Rattle.domain_base.specs.Causes.{AppendsPart, Rose}
use Rattle.domain_base.proofs.Taken.{Appends-then}
use Rattle.journal_report.proofs.Taken.{part-then}
use Rattle.run_journal.specs.declared.acts.Entry.{Entry}
use Rattle.run_journal.specs.Report.{answer_line, line, lines}
use Rattle.domain_base.specs.declared.names.Mac.{Mac}
use Rattle.holder_link.specs.Between.{state_of_ends}
use Rattle.link_steps.specs.Ends.{node_of}
use Rattle.link_steps.specs.declared.ends.LinkEnd.{LinkEnd}
use Rattle.link_steps.specs.declared.steps.LinkEvent.{LinkEvent}
use Rattle.link_steps.specs.declared.steps.Step.{Step}
use Rattle.link_runs.specs.declared.steps.Running.{Running}
use Rattle.link_runs.specs.Stepping.{DidStep, GoesOut, Happens, IsHurt, OutBy, entry_at}

-- ---- the sink

-- nothing more
pub goes_none : (out : Option (List ℕ)) (faults : ℕ) (j : List Entry) → GoesOut false out out faults faults j j
goes_none out faults j = record { out = λ first was. was; failed = λ e. absurd (false≢true e); kept = λ e. refl }

-- one line more
pub goes_line : (old new : Option (List ℕ)) (before now : ℕ) (j : List Entry) (e : Entry) → Appends old new (line e) → now ≡ before → GoesOut false old new before now j (e ∷ j)
unfolding lines
goes_line old new before now j e wrote faults = record {
  out = λ first was. Appends-then first old new (lines j) (line e) was wrote;
  failed = λ no_. absurd (false≢true no_);
  kept = λ yes_. faults;
}

-- or a part of it
pub goes_part : (old new : Option (List ℕ)) (before now : ℕ) (j : List Entry) (e : Entry) → AppendsPart old new (line e) → Rose before now → GoesOut true old new before now j (e ∷ j)
unfolding lines
goes_part old new before now j e wrote faults = record {
  out = λ first was. part-then first old new (lines j) (line e) was wrote;
  failed = λ yes_. faults;
  kept = λ no_. absurd (true≢false no_);
}

-- the line of a step
journal_noted : (end : LinkEnd) (sta : Option Mac) (s : Step) (i j k : List Entry) → i ≡ j → k ≡ entry_at (length i) end sta s ∷ i → k ≡ entry_at (length j) end sta s ∷ j
journal_noted end sta s i j k same is = is ∙ ap (λ (x : List Entry). entry_at (length x) end sta s ∷ x) same

pub wrote_step : (end : LinkEnd) (sta : Option Mac) (s : Step) (old new : Option (List ℕ)) (before now : ℕ) (i j k : List Entry) → i ≡ j → k ≡ entry_at (length i) end sta s ∷ i → Appends old new (answer_line (node_of end) sta (length s.sent) s.answer) → now ≡ before → GoesOut false old new before now j k
wrote_step end sta s old new before now i j k same is wrote faults =
    subst (λ (x : List Entry). GoesOut false old new before now j x) (sym (journal_noted end sta s i j k same is)) (goes_line old new before now j (entry_at (length j) end sta s) wrote faults)

pub wrote_step_part : (end : LinkEnd) (sta : Option Mac) (s : Step) (old new : Option (List ℕ)) (before now : ℕ) (i j k : List Entry) → i ≡ j → k ≡ entry_at (length i) end sta s ∷ i → AppendsPart old new (answer_line (node_of end) sta (length s.sent) s.answer) → Rose before now → GoesOut true old new before now j k
wrote_step_part end sta s old new before now i j k same is wrote faults =
    subst (λ (x : List Entry). GoesOut true old new before now j x) (sym (journal_noted end sta s i j k same is)) (goes_part old new before now j (entry_at (length j) end sta s) wrote faults)

-- and what it did
pub did_step : {L : Type 0} (end : LinkEnd) (sta : Option Mac) (event : LinkEvent) (old new : Running L) (i j k : List Entry) (s : Step) → Happens (state_of_ends old.ends) event s (state_of_ends new.ends) → length new.ends.holders.ids ≡ 1 → i ≡ j → k ≡ entry_at (length i) end sta s ∷ i → DidStep end sta event old new j k s
did_step end sta event old new i j k s happens one same is = record { happens = happens; one = one; journal = journal_noted end sta s i j k same is }

-- that, and then that
out_then : (short : Bool) (a b c : Option (List ℕ)) (i j k : List Entry) → ((first : Option (List ℕ)) → Appends first a (lines i) → Appends first b (lines j)) → ((first : Option (List ℕ)) → Appends first b (lines j) → OutBy short first c (lines k)) → (first : Option (List ℕ)) → Appends first a (lines i) → OutBy short first c (lines k)
out_then short a b c i j k one two first was = two first (one first was)

pub goes_then : (short : Bool) (a b c : Option (List ℕ)) (l m n : ℕ) (i j k : List Entry) → GoesOut false a b l m i j → GoesOut short b c m n j k → GoesOut short a c l n i k
goes_then short a b c l m n i j k one two = record {
  out = out_then short a b c i j k one.out two.out;
  failed = λ e. subst (λ (x : ℕ). Rose x n) (one.kept refl) (two.failed e);
  kept = λ e. two.kept e ∙ one.kept refl;
}

-- ---- the link

pub unhurt : (old new : ℕ) → new ≡ old → IsHurt false old new
unhurt old new same = record { failed = λ e. absurd (false≢true e); kept = λ e. same }

pub hurt_then : (is : Bool) (a b c : ℕ) → IsHurt false a b → IsHurt is b c → IsHurt is a c
hurt_then is a b c one two = record { failed = λ e. two.failed e; kept = λ e. two.kept e ∙ one.kept refl }

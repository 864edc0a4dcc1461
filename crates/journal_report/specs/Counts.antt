-- What a summary counts, as the code keeps it.
-- For the code alone: no public contract speaks of it.
use Rattle.std.specs.Prelude.{ℕ, ◌+◌, ◌-◌, ◌^◌, ◌<◌, Bool, cond, List, [], ◌∷◌, ◌++◌, codes}
use Rattle.run_journal.specs.Acts.{is_sent}
use Rattle.run_journal.specs.Report.{count, is_accepted, is_answered, is_handed_up, is_ignored, is_installed, is_refused, is_resumed, is_used, numbered, words, yes_no}
use Rattle.run_journal.specs.declared.acts.Act.{Act}
use Rattle.run_journal.specs.declared.acts.Entry.{Entry}
use Rattle.run_journal.specs.declared.premises.Premises.{Premises}
use Rattle.journal_report.specs.declared.summary.Counts.{Counts}

-- the counts of a journal
abbrev pub counts_of : List Entry → Counts
counts_of j = record {
  frames = count is_sent j;
  accepted = count is_accepted j;
  answered = count is_answered j;
  refused = count is_refused j;
  ignored = count is_ignored j;
  installed = count is_installed j;
  resumed = count is_resumed j;
  used = count is_used j;
  handed_up = count is_handed_up j;
}

-- one more where the answer is yes
abbrev pub with_answer : ℕ → Bool → ℕ
with_answer n counted = cond counted (n + 1) n

-- the counts with one act more
abbrev pub counts_with : Act → Counts → Counts
counts_with a c = record {
  frames = with_answer c.frames (is_sent a);
  accepted = with_answer c.accepted (is_accepted a);
  answered = with_answer c.answered (is_answered a);
  refused = with_answer c.refused (is_refused a);
  ignored = with_answer c.ignored (is_ignored a);
  installed = with_answer c.installed (is_installed a);
  resumed = with_answer c.resumed (is_resumed a);
  used = with_answer c.used (is_used a);
  handed_up = with_answer c.handed_up (is_handed_up a);
}

-- no count is at the end of 64 bits
pub record HasRoom (c : Counts) : Type 0 where
  pub frames : c.frames < 2 ^ 64 - 1
  pub accepted : c.accepted < 2 ^ 64 - 1
  pub answered : c.answered < 2 ^ 64 - 1
  pub refused : c.refused < 2 ^ 64 - 1
  pub ignored : c.ignored < 2 ^ 64 - 1
  pub installed : c.installed < 2 ^ 64 - 1
  pub resumed : c.resumed < 2 ^ 64 - 1
  pub used : c.used < 2 ^ 64 - 1
  pub handed_up : c.handed_up < 2 ^ 64 - 1

-- the three lines of these counts and answers
abbrev pub summary_text : Counts → Premises → List ℕ
summary_text c p =
    words (codes "end" ∷ numbered (codes "frames") c.frames ∷ numbered (codes "accepted") c.accepted ∷ numbered (codes "answered") c.answered ∷ numbered (codes "refused") c.refused ∷ numbered (codes "ignored") c.ignored ∷ [])
    ++ words (codes "keys" ∷ numbered (codes "installed") c.installed ∷ numbered (codes "resumed") c.resumed ∷ numbered (codes "used") c.used ∷ numbered (codes "handed-up") c.handed_up ∷ [])
    ++ words (codes "premises" ∷ codes "fresh" ∷ yes_no p.fresh ∷ codes "no-collision" ∷ yes_no p.no_collision ∷ codes "unforged" ∷ yes_no p.unforged ∷ [])

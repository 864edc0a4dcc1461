-- What the program promises, by what it ran.
use Rattle.std.proofs.Common.{◌≡◌, ℕ, List, None, refl, subst, inl, inr}
use Rattle.run_journal.specs.declared.acts.Entry.{Entry}
use Rattle.command_words.specs.Words.{command_of}
use Rattle.domain_cli.specs.declared.status.Status.{Status}
use Rattle.domain_cli.specs.Promises.{Outside, Promises}
use Rattle.domain_cli.specs.Machine.{HasRun, OnMachine, Ran, Streams, streams_of}

-- words that are these were run
pub has_ran : (words these : List (List ℕ)) (first last : Outside) (s : Status) (entries : List Entry) → these ≡ words → first.link_faults ≡ 0 → first.draw_faults ≡ 0 → first.last ≡ None → Promises (command_of these) first last s entries → OnMachine words (streams_of first) (streams_of last) s
has_ran words these first last s entries same links draws none promises =
    let ran : Ran words (streams_of first) (streams_of last) s = record {
      first = first;
      last = last;
      entries = entries;
      from = refl;
      to = refl;
      unfailed = (links, draws);
      undrawn = none;
      promises = subst (λ (w : List (List ℕ)). Promises (command_of w) first last s entries) same promises;
    } in inl ran

-- some words were
pub has_run : (words : List (List ℕ)) (old new : Streams) (s : Status) → OnMachine words old new s → HasRun old new s
has_run words old new s = elim [ inl ran ↦ inl (words, ran) | inr out ↦ inr (inr out.0, out.1) ]

-- What a command kept, of what its parts did.
use Rattle.std.proofs.Common.{◌≡◌, ◌≢◌, ℕ, List, Option, refl}
use Rattle.std.proofs.lemmas.Bool.{true≢false}
use Rattle.domain_base.specs.Causes.{Rose}
use Rattle.run_journal.specs.declared.acts.Entry.{Entry}
use Rattle.command_words.specs.declared.Command.TheVariants as ask
use Rattle.domain_cli.specs.declared.status.Status.{Status}
use Rattle.domain_cli.specs.declared.status.Status.TheVariants.{Done, Usage, Script, Limit, ReadFault, WriteFault, NoMemory, LinkFault, DrawFault}
use Rattle.domain_cli.specs.Promises.{EndsStorm, IsCaused, Keeps, Outside, over, over_sink}
use Rattle.domain_cli.specs.Safety.{RunsAreSafe}
use Rattle.domain_cli.specs.Journals.{Journals}
use Rattle.domain_cli.specs.Story.{Lives, Runs}
use Rattle.domain_cli.specs.Storms.{StormReports}
use Rattle.domain_cli.proofs.Safety.{run_safe}
use Rattle.domain_cli.proofs.Stormed.{storm_safe}
use Rattle.domain_cli.proofs.Unasked.{answered, caused, draws_unfiled, links_unfiled, never_draws, never_links}

pub replay_keeps : (safe : RunsAreSafe) (rest : Outside) (left_old left_new out_old out_new : Option (List ℕ)) (reads_old reads_new writes_old writes_new : ℕ) (s : Status) (j : List Entry)
    → Runs left_old left_new out_old out_new s j → s ≢ Usage → (s ≡ ReadFault → Rose reads_old reads_new) → (s ≡ WriteFault → Rose writes_old writes_new)
    → (writes_new ≢ writes_old → s ≡ WriteFault) → (reads_new ≢ reads_old → ¬ Rose writes_old writes_new → s ≡ ReadFault)
    → Keeps ask.Replay (over rest left_old reads_old out_old writes_old) (over rest left_new reads_new out_new writes_new) s j
replay_keeps safe rest left_old left_new out_old out_new reads_old reads_new writes_old writes_new s j ran meant read write write_told read_told =
    let old = over rest left_old reads_old out_old writes_old in
    let new = over rest left_new reads_new out_new writes_new in
    let no_link = never_links left_old left_new out_old out_new s j ran in
    let no_draw = never_draws left_old left_new out_old out_new s j ran in
    record {
      meant = meant;
      did = ran;
      unasked = record { source = λ e. absurd (true≢false e); sink = λ e. absurd (true≢false e); air = λ e. (refl, refl); draws = λ e. (refl, refl) };
      caused = caused s old new read write (λ is. absurd (no_link is)) (λ is. absurd (no_draw is));
      told = record { write = write_told; read = read_told; link = λ differs unfailed. absurd (differs refl); draw = λ differs unfailed. absurd (differs refl) };
      complete = λ unfailed. answered s meant (λ is. unfailed.source refl (read is)) (λ is. unfailed.sink refl (write is)) no_link no_draw;
      safe = run_safe safe ran.found_ ran.runs.octets ran.runs.ended _ ran.runs.tells;
    }

-- a run whose journal goes into a file
pub journal_keeps : (safe : RunsAreSafe) (rest : Outside) (left_old left_new out_old out_new : Option (List ℕ)) (reads_old reads_new writes_old writes_new : ℕ) (s : Status) (j : List Entry)
    → Journals left_old left_new out_old out_new s j → s ≢ Usage → (s ≡ ReadFault → Rose reads_old reads_new) → (s ≡ WriteFault → Rose writes_old writes_new)
    → (writes_new ≢ writes_old → s ≡ WriteFault) → (reads_new ≢ reads_old → ¬ Rose writes_old writes_new → s ≡ ReadFault)
    → Keeps ask.Journal (over rest left_old reads_old out_old writes_old) (over rest left_new reads_new out_new writes_new) s j
journal_keeps safe rest left_old left_new out_old out_new reads_old reads_new writes_old writes_new s j ran meant read write write_told read_told =
    let old = over rest left_old reads_old out_old writes_old in
    let new = over rest left_new reads_new out_new writes_new in
    let no_link = links_unfiled left_old left_new out_old out_new s j ran in
    let no_draw = draws_unfiled left_old left_new out_old out_new s j ran in
    record {
      meant = meant;
      did = ran;
      unasked = record { source = λ e. absurd (true≢false e); sink = λ e. absurd (true≢false e); air = λ e. (refl, refl); draws = λ e. (refl, refl) };
      caused = caused s old new read write (λ is. absurd (no_link is)) (λ is. absurd (no_draw is));
      told = record { write = write_told; read = read_told; link = λ differs unfailed. absurd (differs refl); draw = λ differs unfailed. absurd (differs refl) };
      complete = λ unfailed. answered s meant (λ is. unfailed.source refl (read is)) (λ is. unfailed.sink refl (write is)) no_link no_draw;
      safe = run_safe safe ran.found_ ran.octets ran.ended _ ran.tells;
    }

-- what a live run did by the objects that it asked, which are all
pub live_keeps : (safe : RunsAreSafe) (port : ℕ) (old new : Outside) (s : Status) (j : List Entry)
    → Lives old.left new.left old.out new.out old.air new.air old.last new.last s j → s ≢ Usage
    → (s ≡ ReadFault → Rose old.read_faults new.read_faults) → (s ≡ WriteFault → Rose old.write_faults new.write_faults)
    → (s ≡ LinkFault → Rose old.link_faults new.link_faults) → (s ≡ DrawFault → Rose old.draw_faults new.draw_faults)
    → (new.write_faults ≢ old.write_faults → s ≡ WriteFault) → (new.read_faults ≢ old.read_faults → ¬ Rose old.write_faults new.write_faults → s ≡ ReadFault)
    → (new.link_faults ≢ old.link_faults → ¬ Rose old.write_faults new.write_faults → s ≡ LinkFault)
    → (new.draw_faults ≢ old.draw_faults → ¬ Rose old.write_faults new.write_faults → s ≡ DrawFault)
    → Keeps (ask.Live port) old new s j
live_keeps safe port old new s j lived meant read write link draw write_told read_told link_told draw_told = record {
  meant = meant;
  did = lived;
  unasked = record { source = λ e. absurd (true≢false e); sink = λ e. absurd (true≢false e); air = λ e. absurd (true≢false e); draws = λ e. absurd (true≢false e) };
  caused = caused s old new read write link draw;
  told = record { write = write_told; read = read_told; link = link_told; draw = draw_told };
  complete = λ unfailed. answered s meant (λ is. unfailed.source refl (read is)) (λ is. unfailed.sink refl (write is)) (λ is. unfailed.air refl (link is)) (λ is. unfailed.draws refl (draw is));
  safe = run_safe safe lived.found_ lived.runs.octets lived.runs.ended _ lived.runs.tells;
}

pub memory_write : NoMemory ≡ WriteFault → ⊥
memory_write is = cc

pub done_write : Done ≡ WriteFault → ⊥
done_write is = cc

-- a storm ends in no other way
storm_means : (number : ℕ) (s : Status) (j : List Entry) (old new : Option (List ℕ)) → StormReports number s j old new → s ≢ Usage
storm_means number Usage j old new r = absurd r
storm_means number Done j old new r = λ is. cc
storm_means number WriteFault j old new r = λ is. cc
storm_means number NoMemory j old new r = λ is. cc
storm_means number ReadFault j old new r = absurd r
storm_means number (Script line reason mistake) j old new r = absurd r
storm_means number (Limit which) j old new r = absurd r
storm_means number LinkFault j old new r = absurd r
storm_means number DrawFault j old new r = absurd r

storm_caused : (number : ℕ) (s : Status) (j : List Entry) (old new : Outside) → StormReports number s j old.out new.out → (s ≡ WriteFault → Rose old.write_faults new.write_faults) → IsCaused s old new
storm_caused number Done j old new r write = tt
storm_caused number NoMemory j old new r write = tt
storm_caused number WriteFault j old new r write = write refl
storm_caused number Usage j old new r write = tt
storm_caused number ReadFault j old new r write = absurd r
storm_caused number (Script line reason mistake) j old new r write = tt
storm_caused number (Limit which) j old new r write = tt
storm_caused number LinkFault j old new r write = absurd r
storm_caused number DrawFault j old new r write = absurd r

storm_answered : (number : ℕ) (s : Status) (j : List Entry) (old new : Option (List ℕ)) → StormReports number s j old new → s ≢ WriteFault → EndsStorm s
storm_answered number Done j old new r write = tt
storm_answered number NoMemory j old new r write = tt
storm_answered number WriteFault j old new r write = absurd (write refl)
storm_answered number Usage j old new r write = absurd r
storm_answered number ReadFault j old new r write = absurd r
storm_answered number (Script line reason mistake) j old new r write = absurd r
storm_answered number (Limit which) j old new r write = absurd r
storm_answered number LinkFault j old new r write = absurd r
storm_answered number DrawFault j old new r write = absurd r

pub storm_keeps : (safe : RunsAreSafe) (number : ℕ) (rest : Outside) (out_old out_new : Option (List ℕ)) (writes_old writes_new : ℕ) (s : Status) (j : List Entry)
    → StormReports number s j out_old out_new → (s ≡ WriteFault → Rose writes_old writes_new) → (writes_new ≢ writes_old → s ≡ WriteFault)
    → Keeps (ask.Storm number) (over_sink rest out_old writes_old) (over_sink rest out_new writes_new) s j
storm_keeps safe number rest out_old out_new writes_old writes_new s j reports write write_told =
    let old = over_sink rest out_old writes_old in
    let new = over_sink rest out_new writes_new in
    record {
      meant = storm_means number s j out_old out_new reports;
      did = reports;
      unasked = record { source = λ e. (refl, refl); sink = λ e. absurd (true≢false e); air = λ e. (refl, refl); draws = λ e. (refl, refl) };
      caused = storm_caused number s j old new reports write;
      told = record { write = write_told; read = λ differs unfailed. absurd (differs refl); link = λ differs unfailed. absurd (differs refl); draw = λ differs unfailed. absurd (differs refl) };
      complete = λ unfailed. storm_answered number s j out_old out_new reports (λ is. unfailed.sink refl (write is));
      safe = storm_safe safe number s j out_old out_new reports;
    }

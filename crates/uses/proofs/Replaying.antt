-- What `run` promises of a replay, where the script and the report are in memory.
use Rattle.std.proofs.Common.{◌≡◌, ℕ, List, [], Option, Some, refl, subst, arith}
use Rattle.run_journal.specs.declared.acts.Entry.{Entry}
use Rattle.command_words.specs.declared.Command.{Command}
use Rattle.command_words.specs.declared.Command.TheVariants.{Replay}
use Rattle.domain_base.specs.Causes.{Rose}
use Rattle.domain_cli.specs.declared.status.Status.{Status}
use Rattle.domain_cli.specs.declared.status.Status.TheVariants as status
use Rattle.domain_cli.specs.Promises.{Outside, Promises, Keeps}
use Rattle.domain_cli.specs.Story.{Runs}
use Rattle.uses.specs.Replays.{EndsInMemory, IsReplayed}

-- where the count stands at 0, no call failed
unfailed : (before now : ℕ) → now ≡ 0 → Rose before now → ⊥
unfailed before now none rose = omega (arith, none, rose)

ends : (s : Status) (old new : Outside) (j : List Entry) → new.read_faults ≡ 0 → new.link_faults ≡ 0 → new.draw_faults ≡ 0 → Keeps Replay old new s j → EndsInMemory s
ends status.Done old new j reads links draws k = tt
ends status.Usage old new j reads links draws k = absurd (k.meant refl)
ends (status.Script number reason mistake) old new j reads links draws k = tt
ends (status.Limit which) old new j reads links draws k = tt
ends status.ReadFault old new j reads links draws k = unfailed old.read_faults new.read_faults reads k.caused
ends status.WriteFault old new j reads links draws k = tt
ends status.NoMemory old new j reads links draws k = tt
ends status.LinkFault old new j reads links draws k = unfailed old.link_faults new.link_faults links k.caused
ends status.DrawFault old new j reads links draws k = unfailed old.draw_faults new.draw_faults draws k.caused

pub is_replayed : (command : Option Command) (script out : List ℕ) (old new : Outside) (s : Status) (j : List Entry) → command ≡ Some Replay → Promises command old new s j
    → old.left ≡ Some script → old.out ≡ Some [] → new.out ≡ Some out → new.read_faults ≡ 0 → new.link_faults ≡ 0 → new.draw_faults ≡ 0 → IsReplayed script s out j
is_replayed command script out old new s j is promises from begun written reads links draws =
    let k : Keeps Replay old new s j = subst (λ (c : Option Command). Promises c old new s j) is promises in record {
      left = new.left;
      runs = subst (λ (o : Option (List ℕ)). Runs (Some script) new.left (Some []) o s j) written
          (subst (λ (o : Option (List ℕ)). Runs (Some script) new.left o new.out s j) begun
          (subst (λ (o : Option (List ℕ)). Runs o new.left old.out new.out s j) from k.did));
      ends = ends s old new j reads links draws k;
      safe = k.safe;
    }

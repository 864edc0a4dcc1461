-- Steps of a turn that go no further.
use Rattle.std.proofs.Common.{◌≡◌, ◌≢◌, ℕ, suc, List, length, Result, Err, refl, ap, arith}
use Rattle.domain_base.specs.declared.outside.LinkError.{LinkError}
use Rattle.domain_base.specs.declared.outside.LinkError.TheVariants as link
use Rattle.domain_links.specs.declared.breaks.Break.{Break}
use Rattle.domain_links.specs.declared.breaks.Break.TheVariants.{ByLink, ByWrite}
use Rattle.domain_links.specs.Telling.{HasFailed, SameFaults}
use Rattle.domain_world.specs.State.{State}
use Rattle.run_journal.specs.declared.domain.Domain.{Domain}
use Rattle.domain_world.specs.Owning.{Owns, IsSince}
use Rattle.run_journal.specs.declared.acts.Entry.{Entry}
use Rattle.script_runs.specs.Turning.{Stage, stage, IsFurther, IsLaid}

-- a link has failed
pub laid_failed : {L V : Type 0} (faults : L → ℕ) (old new : List L) → length new ≡ length old → HasFailed faults new → IsLaid {L = L} {T = V} faults old new (Err (ByLink link.Failed))
laid_failed faults old new len failed = record { len = len; failed = λ e. failed; kept = λ h. absurd (h refl) }

-- memory ran out before a link was asked
no_memory : {V : Type 0} → ◌≡◌ {A = Result V Break} (Err (ByLink link.NoMemory)) (Err (ByLink link.Failed)) → ⊥
no_memory e = absurd cc

pub laid_unasked : {L V : Type 0} (faults : L → ℕ) (links : List L) → IsLaid {L = L} {T = V} faults links links (Err (ByLink link.NoMemory))
laid_unasked faults links = record { len = refl; failed = λ e. absurd (no_memory e); kept = λ h. refl }

-- or lines could not be written
no_write : {V : Type 0} → ◌≡◌ {A = Result V Break} (Err ByWrite) (Err (ByLink link.Failed)) → ⊥
no_write e = absurd cc

pub laid_unsent : {L V : Type 0} (faults : L → ℕ) (links : List L) → IsLaid {L = L} {T = V} faults links links (Err ByWrite)
laid_unsent faults links = record { len = refl; failed = λ e. absurd (no_write e); kept = λ h. refl }

-- nothing was run
pub further_none : (more : ℕ) (s : Stage) → Owns s.world s.journal → IsFurther more s s
further_none more s own = record { network = refl; few = omega arith; own = own; since = λ c is. is }

pub further_same : (more : ℕ) (w v : State) (j k : List Entry) → v ≡ w → ((c : Domain) → IsSince c w j → IsSince c v k) → Owns v k → IsFurther more (stage w j) (stage v k)
further_same more w v j k same since own = record { network = ap (λ (x : State). x.domain) same; few = omega (arith, ap (λ (x : State). x.rounds) same); own = own; since = since }

pub further_round : (w v : State) (j k : List Entry) → v.domain ≡ w.domain → v.rounds ≡ suc w.rounds → ((c : Domain) → IsSince c w j → IsSince c v k) → Owns v k → IsFurther 1 (stage w j) (stage v k)
further_round w v j k network rounds since own = record { network = network; few = omega (arith, rounds); own = own; since = since }

-- the sending ended with an error, that was not a link's, or was
pub sends_kept : {L V T : Type 0} (faults : L → ℕ) (old new : List L) (error : LinkError) → (◌≡◌ {A = Result T LinkError} (Err error) (Err link.NoMemory) → SameFaults faults old new)
    → ◌≢◌ {A = Result V Break} (Err (ByLink error)) (Err (ByLink link.Failed)) → SameFaults faults old new
sends_kept faults old new link.Failed kept h = absurd (h refl)
sends_kept faults old new link.NoMemory kept h = kept refl

pub sends_failed : {L V T : Type 0} (faults : L → ℕ) (new : List L) (error : LinkError) → (◌≡◌ {A = Result T LinkError} (Err error) (Err link.Failed) → HasFailed faults new)
    → ◌≡◌ {A = Result V Break} (Err (ByLink error)) (Err (ByLink link.Failed)) → HasFailed faults new
sends_failed faults new link.Failed cause e = cause refl
sends_failed faults new link.NoMemory cause e = absurd (no_memory e)

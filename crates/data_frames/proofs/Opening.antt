-- What opening a body under a key comes to.
use Rattle.std.proofs.Common.{◌≡◌, ◌∙◌, ◌≤◌, ◌++◌, ℕ, List, [], ◌∷◌, Option, Some, None, refl, sym, ap, subst, length, take}
use Rattle.std.proofs.Math.Seq.{take-append_seam}
use Rattle.std.specs.Prelude.{IfSome, option_map}
use Rattle.std.proofs.lemmas.List.{take_all}
use Rattle.domain_base.specs.Octets.{AreOctets}
use Rattle.domain_base.specs.declared.names.Node.{Node}
use Rattle.ccmp_guard.specs.declared.guard.GuardFault.{GuardFault}
use Rattle.ccmp_guard.specs.declared.guard.GuardFault.TheVariants as fault
use Rattle.ccmp_guard.specs.Ccmp.{packet_number, Protected}
use Rattle.ccmp_guard.specs.Roles.{key_id, counter_of}
use Rattle.ccmp_guard.specs.Faults.{unprotect_fault}
use Rattle.ccmp_guard.specs.Held.{Held, with_taken}
use Rattle.data_frames.specs.Holding.{held_in}
use Rattle.run_journal.specs.declared.acts.Kind.TheVariants.{Data}
use Rattle.run_journal.specs.declared.acts.Outcome.TheVariants.{Accepted}
use Rattle.run_journal.specs.declared.acts.Act.{Act}
use Rattle.run_journal.specs.declared.acts.Act.TheVariants.{Took, HandedUp}
use Rattle.domain_rules.specs.DataFrames.{data_seal}
use Rattle.node_base.specs.Events.{seen}
use Rattle.frame_intake.specs.SealedFields.{SealedFields}
use Rattle.data_frames.specs.Taking.{IsOpenedTo, IsStoppedBy, Before, Unsealed, IsOpenedUnder, HandsUp}

-- what was written over all of the front
pub whole : (n : ℕ) (xs ys : List ℕ) → length xs ≡ n → take n (xs ++ ys) ≡ xs
whole n xs ys is = ap (λ (k : ℕ). take k (xs ++ ys)) (sym is) ∙ take-append_seam xs ys

pub handed_up : (p : Node) (octets taken : List ℕ) (f : SealedFields) (old new : Held) (plain : List ℕ) (waited mid waits : List Act) (tk : List ℕ) (id tid : ℕ) → IsOpenedTo f old new plain → mid ≡ waited → taken ≡ octets
    → tk ≡ old.key → id ≡ key_id old.role → tid ≡ counter_of old.role f.header.octets
    → waits ≡ mid ++ Took (Some p) taken Data Accepted (Some (data_seal tk f.header.octets (packet_number f.body) plain)) ∷ HandedUp p tk id tid (packet_number f.body) plain ∷ []
    → IsOpenedUnder p octets f old new (seen waited waits Accepted)
handed_up p octets taken f old new plain waited mid waits tk id tid o same is key_is id_is tid_is w = HandsUp plain o refl (w ∙ rw (same, is, key_is, id_is, tid_is) refl)

-- nothing is refused before the seal is tried, where what came is no such refusal
faultless : (R : GuardFault → Type 0) (o : Option GuardFault) → ((e : GuardFault) → o ≡ Some e → R e) → ((e : GuardFault) → R e → ⊥) → o ≡ None
faultless R None first other = refl
faultless R (Some e) first other = absurd (other e (first e refl))

pub opened_to : (f : SealedFields) (guard after : Option Held) (R : GuardFault → Type 0) (size : ℕ) (out : List ℕ) → guard ≡ Some (held_in guard)
    → ((e : GuardFault) → unprotect_fault guard f.header.octets f.body ≡ Some e → R e) → ((e : GuardFault) → R e → ⊥)
    → IfSome guard (λ h. Protected h.key f.header.octets (key_id h.role) (packet_number f.body) (take size out) f.body)
    → after ≡ option_map (with_taken f.header.octets (packet_number f.body)) guard → length out ≤ size → AreOctets (f.header.octets ++ f.body)
    → IsOpenedTo f (held_in guard) (held_in after) out
opened_to f None after R size out is first other opened taken whole octets = absurd (cc is)
opened_to f (Some k) after R size out is first other opened taken whole octets = record {
  faultless = faultless R (unprotect_fault (Some k) f.header.octets f.body) first other;
  opened = (octets, subst (λ (x : List ℕ). Protected k.key f.header.octets (key_id k.role) (packet_number f.body) x f.body) (take_all size out whole) opened);
  taken = ap held_in taken;
}

stopped_at : (f : SealedFields) (k : Held) (why : GuardFault) (R : GuardFault → Type 0) (o : Option GuardFault) → unprotect_fault (Some k) f.header.octets f.body ≡ o
    → ((e : GuardFault) → o ≡ Some e → R e) → ((e : GuardFault) → R e → e ≡ why)
    → (o ≡ None → (why ≡ fault.Seal) × ((id pn : ℕ) (plain : List ℕ) → Protected k.key f.header.octets id pn plain f.body → ⊥))
    → IsStoppedBy f k why
stopped_at f k why R None is first same seal = Unsealed is (seal refl).0 (λ plain octets p. (seal refl).1 _ _ plain p)
stopped_at f k why R (Some e) is first same seal = Before (is ∙ ap (λ (x : GuardFault). Some x) (same e (first e refl)))

pub stopped_by : (f : SealedFields) (guard : Option Held) (why : GuardFault) (R : GuardFault → Type 0) → guard ≡ Some (held_in guard)
    → ((e : GuardFault) → unprotect_fault guard f.header.octets f.body ≡ Some e → R e) → ((e : GuardFault) → R e → e ≡ why)
    → IfSome guard (λ h. unprotect_fault guard f.header.octets f.body ≡ None → (why ≡ fault.Seal) × ((id pn : ℕ) (plain : List ℕ) → Protected h.key f.header.octets id pn plain f.body → ⊥))
    → IsStoppedBy f (held_in guard) why
stopped_by f None why R is first same seal = absurd (cc is)
stopped_by f (Some k) why R is first same seal = stopped_at f k why R (unprotect_fault (Some k) f.header.octets f.body) refl first same seal

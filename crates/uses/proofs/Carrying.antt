-- A payload that one guard seals is refused by no test of another that has the key.
use Rattle.std.proofs.Common.{◌≡◌, ℕ, suc, ◌<◌, ◌≤◌, Bool, true, false, List, Option, Some, None, refl, ap, subst, length, replicate, arith}
use Rattle.std.specs.Prelude.{◌%◌, not, ◌||◌, ◌==◌, nat_lt, nat_le, if◌then◌else◌, IfSome, slice_index}
use Rattle.std.proofs.lemmas.List.{get_or-replicate}
use Rattle.ccmp_guard.specs.declared.guard.Role.TheVariants.{Pairwise}
use Rattle.ccmp_guard.specs.declared.guard.GuardFault.{GuardFault}
use Rattle.ccmp_guard.specs.declared.guard.GuardFault.TheVariants as fault
use Rattle.ccmp_guard.specs.Ccmp.{Protected, traffic_identifier, packet_number, key_id_in, ext_iv}
use Rattle.ccmp_guard.specs.Held.{Held, kept_number}
use Rattle.ccmp_guard.specs.Faults.{unprotect_fault}

-- a pairwise key of which that number was used last, and which takes numbers above that
abbrev pub pairwise : List ℕ → ℕ → ℕ → Held
pairwise tk used rsc = record { role = Pairwise; key = tk; used = used; kept = replicate 16 rsc }

low_mod : (n : ℕ) → n % 16 < 16
low_mod n = omega arith

tid_low : (header : List ℕ) → traffic_identifier header < 16
tid_low header = by (length header == 26) (slice_index header 24)
  where
    by : (b : Bool) (n : ℕ) → (if b then n % 16 else 0) < 16
    by true n = low_mod n
    by false n = omega arith

-- a number above the kept one
above : (a k u : ℕ) → a ≡ suc u → k ≡ u → nat_le a k ≡ false
above a k u e f = grind (arith, e, f)

no_short : (a : ℕ) → 16 ≤ a → nat_lt a 16 ≡ false
no_short a long = grind (arith, long)

pub not_refused : (tk header plain body : List ℕ) (used : ℕ) → Protected tk header 0 (suc used) plain body → 16 ≤ length body
    → unprotect_fault (Some (pairwise tk 0 used)) header body ≡ None
not_refused tk header plain body used p long =
    let kept : kept_number (pairwise tk 0 used) header ≡ used = get_or-replicate 16 (traffic_identifier header) used 0 (tid_low header) in
    by (nat_lt (length body) 16) (ext_iv body == 1) (key_id_in body == 0) (nat_le (packet_number body) (kept_number (pairwise tk 0 used) header))
    (no_short (length body) long) (ap (λ (x : ℕ). x == 1) p.extended) (ap (λ (x : ℕ). x == 0) p.key_id)
    (above (packet_number body) (kept_number (pairwise tk 0 used) header) used p.number kept)
  where
    by : (a b c d : Bool) → a ≡ false → b ≡ true → c ≡ true → d ≡ false
        → (if a || not b then Some fault.Header else if not c then Some fault.KeyId else if d then Some (fault.Replayed (kept_number (pairwise tk 0 used) header)) else None) ≡ None
    by a b c d e f g i = rw (e, f, g, i) refl

-- what a guard promises where it refuses at the seal
abbrev pub Unsealed : Option Held → List ℕ → List ℕ → GuardFault → Type 0
Unsealed g header body why =
    IfSome g (λ (h : Held). unprotect_fault g header body ≡ None → (why ≡ fault.Seal) × ((id pn : ℕ) (p : List ℕ) → ¬ Protected h.key header id pn p body))

pub opens : (g : Option Held) (tk header plain body : List ℕ) (used : ℕ) (why : GuardFault) → g ≡ Some (pairwise tk 0 used)
    → Protected tk header 0 (suc used) plain body → 16 ≤ length body → Unsealed g header body why → ⊥
opens g tk header plain body used why is p long seal =
    (subst (λ (o : Option Held). Unsealed o header body why) is seal (not_refused tk header plain body used p long)).1 0 (suc used) plain p

-- what is said of a key that is there
pub of_some : (g : Option Held) (h : Held) (P : Held → Type 0) → g ≡ Some h → IfSome g P → P h
of_some g h P is at = subst (λ (o : Option Held). IfSome o P) is at

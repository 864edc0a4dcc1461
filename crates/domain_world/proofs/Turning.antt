-- The events of a round, one more at a time.
use Rattle.std.proofs.Common.{◌≡◌, ℕ, zero, suc, ◌<◌, ◌+◌, Bool, true, false, true≢false, cond, List, [], ◌∷◌, ◌++◌, length, take, map, refl, sym, ap, ◌∙◌, subst, arith}
use Rattle.std.specs.Prelude.{slice_index_or}
use Rattle.std.specs.List.{AllByRecursion}
use Rattle.std.proofs.lemmas.List.{append-nil, map-append}
use Rattle.domain_base.specs.declared.names.Node.{Node}
use Rattle.domain_base.specs.declared.names.Node.TheVariants.{Ap, Sta}
use Rattle.rsn_elements.proofs.Cuts.{All-push}
use Rattle.run_journal.specs.Acts.{same}
use Rattle.run_journal.specs.Secrets.{changes_keys}
use Rattle.run_journal.specs.declared.domain.Domain.{Domain}
use Rattle.run_journal.specs.declared.domain.Event.{Event}
use Rattle.run_journal.specs.declared.domain.Event.TheVariants.{Connect, Roam, Deliver, Alter, Cut, Inject, Retry, Rekey, Send, Expire, Revoke, Leave, Secret, Renew, Announce}
use Rattle.run_journal.specs.declared.acts.Entry.{Entry}
use Rattle.domain_world.specs.Ordering.{node_of}
use Rattle.domain_rules.proofs.Parts.{same-true}
use Rattle.domain_rules.proofs.Unchanged.{changes}
use Rattle.domain_rules.specs.Rows.{NodeEvent}
use Rattle.domain_rules.specs.Rows as again
use Rattle.node_base.specs.Changing.{IsStill}
use Rattle.node_base.specs.Events.{IsEventAt}
use Rattle.domain_world.specs.declared.working.Turn.{Turn}
use Rattle.domain_world.specs.Owning.{IsOneIn}
use Rattle.domain_world.specs.Comings.{event_at}
use Rattle.domain_world.specs.Working.{turns_at, turn_event, IsFor}
use Rattle.domain_world.proofs.Played.{next_taken}

pub map_more : {A B : Type 0} (f : A → B) (xs ys : List A) (x : A) → ys ≡ xs ++ x ∷ [] → map f ys ≡ map f xs ++ f x ∷ []
map_more f xs ys x is = ap (map f) is ∙ map-append f xs (x ∷ [])

pub all_more : {A : Type 0} (P : A → Type 0) (xs ys : List A) (x : A) → ys ≡ xs ++ x ∷ [] → AllByRecursion P xs → P x → AllByRecursion P ys
all_more P xs ys x is all last = subst (AllByRecursion P) (sym is) (All-push P xs x all last)

pub all_at : {A : Type 0} (P : A → Type 0) (xs : List A) (i : ℕ) (x : A) → AllByRecursion P xs → i < length xs → x ≡ slice_index_or xs i x → P x
all_at P [] i x all low is = absurd (omega (arith, low))
all_at P (y ∷ xs) zero x all low is = subst P (sym is) all.0
all_at P (y ∷ xs) (suc i) x all low is = all_at P xs i x all.1 (omega (arith, low)) is

pub one_taken : {A : Type 0} (xs : List A) (i : ℕ) (x : A) → i < length xs → x ≡ slice_index_or xs i x → take (i + 1) xs ≡ take i xs ++ x ∷ []
one_taken xs i x low is = let e : i + 1 ≡ suc i = omega arith in ap (λ n. take n xs) e ∙ next_taken xs i x low is

turns_append : (k : ℕ) (xs ys : List Turn) → turns_at k (xs ++ ys) ≡ turns_at k xs ++ turns_at k ys
turns_append k [] ys = refl
turns_append k (t ∷ xs) ys = by_test (same (Ap k) (node_of t.event.now)) (turns_append k xs ys)
  where
    by_test : (b : Bool) → turns_at k (xs ++ ys) ≡ turns_at k xs ++ turns_at k ys → cond b (t ∷ turns_at k (xs ++ ys)) (turns_at k (xs ++ ys)) ≡ cond b (t ∷ turns_at k xs) (turns_at k xs) ++ turns_at k ys
    by_test true is = ap (λ (l : List Turn). t ∷ l) is
    by_test false is = is

one_turn : (k : ℕ) (t : Turn) (b : Bool) → same (Ap k) (node_of t.event.now) ≡ b → turns_at k (t ∷ []) ≡ cond b (t ∷ []) []
one_turn k t b is = ap (λ x. cond x (t ∷ []) []) is

pub turns_here : (k : ℕ) (ts : List Turn) (i : ℕ) (t : Turn) → i < length ts → t ≡ slice_index_or ts i t → same (Ap k) (node_of t.event.now) ≡ true → turns_at k (take (i + 1) ts) ≡ turns_at k (take i ts) ++ t ∷ []
turns_here k ts i t low is here = ap (turns_at k) (one_taken ts i t low is) ∙ turns_append k (take i ts) (t ∷ []) ∙ ap (λ (l : List Turn). turns_at k (take i ts) ++ l) (one_turn k t true here)

pub turns_other : (k : ℕ) (ts : List Turn) (i : ℕ) (t : Turn) → i < length ts → t ≡ slice_index_or ts i t → same (Ap k) (node_of t.event.now) ≡ false → turns_at k (take (i + 1) ts) ≡ turns_at k (take i ts)
turns_other k ts i t low is other = ap (turns_at k) (one_taken ts i t low is) ∙ turns_append k (take i ts) (t ∷ []) ∙ ap (λ (l : List Turn). turns_at k (take i ts) ++ l) (one_turn k t false other) ∙ append-nil (turns_at k (take i ts))

-- at its access point it may come
pub for_here : (d : Domain) (k : ℕ) (t : Turn) → same (Ap k) (node_of t.event.now) ≡ true → IsFor d t → IsEventAt d (Ap k) (turn_event t)
for_here d k t here is = subst (λ n. IsEventAt d n (turn_event t)) (sym (same-true (Ap k) (node_of t.event.now) here)) is.1

-- ---- an event that may happen may come to its node

pub comes_there : (d : Domain) (sent : ℕ) (j : List Entry) (event : Event) (comes : List ℕ) → IsOneIn d sent j event → IsEventAt d (node_of event) (event_at event comes)
comes_there d sent j (Connect s a) comes is = is.0.1
comes_there d sent j (Roam s a) comes is = (is.0.1, is.0.2)
comes_there d sent j (Deliver number (Ap k)) comes is = tt
comes_there d sent j (Deliver number (Sta k)) comes is = tt
comes_there d sent j (Alter number place mask (Ap k)) comes is = tt
comes_there d sent j (Alter number place mask (Sta k)) comes is = tt
comes_there d sent j (Cut number size (Ap k)) comes is = tt
comes_there d sent j (Cut number size (Sta k)) comes is = tt
comes_there d sent j (Inject (Ap k) octets) comes is = tt
comes_there d sent j (Inject (Sta k) octets) comes is = tt
comes_there d sent j (Retry a s) comes is = is.0.1
comes_there d sent j (Rekey a) comes is = tt
comes_there d sent j (Send (Ap k) to tid octets) comes is = (is.0.1, is.0.2)
comes_there d sent j (Send (Sta k) to tid octets) comes is = (is.0.1, is.0.2)
comes_there d sent j (Expire a s) comes is = is.0.1
comes_there d sent j (Revoke a s) comes is = is.0.1
comes_there d sent j (Leave s) comes is = tt
comes_there d sent j (Secret named psk) comes is = absurd (true≢false is.1)
comes_there d sent j (Renew a s) comes is = (is.0.1, is.0.2)
comes_there d sent j (Announce a octets) comes is = (is.0.1, is.0.2)

-- and it changes no key there
pub comes_stays : (event : Event) (comes : List ℕ) → changes_keys event ≡ false → IsStill (event_at event comes)
comes_stays (Secret named psk) comes is = absurd (true≢false is)
comes_stays _ comes is = tt

pub stays : (at : NodeEvent) → changes at ≡ false → IsStill at
stays (again.Secret named psk) is = absurd (true≢false is)
stays _ is = tt

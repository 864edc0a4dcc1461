-- After the round of a changed key the network is the one before it, with that key: its nodes come in order, and the station's own
-- group tells of it.
use Rattle.std.proofs.Common.{◌≡◌, ℕ, zero, suc, ◌+◌, ◌<◌, ◌≤◌, Bool, true, false, true≢false, cond, List, [], ◌∷◌, ◌++◌, append_assoc, append-nil, length, Option, Some, None, refl, sym, ap, ap₂, subst, ◌∙◌, arith}
use Rattle.std.specs.Prelude.{unwrap_or, ◌==◌}
use Rattle.std.specs.List.{AllByRecursion}
use Rattle.std.proofs.lemmas.Bool.{eqb-true, le-leb}
use Rattle.domain_base.specs.declared.names.Node.{Node}
use Rattle.domain_base.specs.declared.names.Node.TheVariants.{Ap, Sta}
use Rattle.run_journal.specs.declared.domain.Domain.{Domain}
use Rattle.run_journal.specs.declared.domain.ListedSta.{ListedSta}
use Rattle.run_journal.specs.declared.acts.Entry.{Entry}
use Rattle.run_journal.specs.Changed.{is_named, rekeyed, changed}
use Rattle.run_journal.specs.Secrets.{last_secret_in}
use Rattle.domain_rules.specs.Present.{keyed, present}
use Rattle.domain_rules.specs.Rounds.{Place, is_not_behind, put_place, in_order, at_aps, at_stas, secret_places}
use Rattle.domain_rules.specs.Rows.{NodeEvent, Secret}
use Rattle.domain_rules.specs.Explained.{AddsAll}
use Rattle.domain_rules.proofs.KeysPresent.{everyone, of_journal, Named, IsPlace, round_tells, round_skips, sta_there, in_ordered, all_places}
use Rattle.domain_rules.proofs.Parts.{same-refl}
use Rattle.domain_rules.proofs.PresentNetwork.{length_keyed}
use Rattle.domain_rules.proofs.Unchanged.{all_ordered}

-- ---- the places of a changed key are in order as they are listed

-- each is not behind the next one
abbrev Rises : List Place → Type 0
Rises [] = Unit {0}
Rises (p ∷ []) = Unit {0}
Rises (p ∷ q ∷ places) = (is_not_behind p.node q.node ≡ true) × Rises (q ∷ places)

put_first : (p : Place) (places : List Place) → Rises (p ∷ places) → put_place p places ≡ p ∷ places
put_first p [] rises = refl
put_first p (q ∷ places) rises = ap (λ (b : Bool). cond b (p ∷ q ∷ places) (q ∷ put_place p places)) rises.0

rises_on : (p : Place) (places : List Place) → Rises (p ∷ places) → Rises places
rises_on p [] rises = tt
rises_on p (q ∷ places) rises = rises.1

still_in_order : (places : List Place) → Rises places → in_order places ≡ places
still_in_order [] rises = refl
still_in_order (p ∷ places) rises = ap (put_place p) (still_in_order places (rises_on p places rises)) ∙ put_first p places rises

-- at that node or before it
abbrev IsBefore : Node → Place → Type 0
IsBefore n p = is_not_behind p.node n ≡ true

-- one more, of which none is behind
rises_then : (places : List Place) (q : Place) → Rises places → AllByRecursion (IsBefore q.node) places → Rises (places ++ q ∷ [])
rises_then [] q rises before = tt
rises_then (p ∷ []) q rises before = (before.0, tt)
rises_then (p ∷ o ∷ places) q rises before = (rises.0, rises_then (o ∷ places) q rises.1 before.1)

all_append : (n : Node) (xs ys : List Place) → AllByRecursion (IsBefore n) xs → AllByRecursion (IsBefore n) ys → AllByRecursion (IsBefore n) (xs ++ ys)
all_append n [] ys one more = more
all_append n (x ∷ xs) ys one more = (one.0, all_append n xs ys one.1 more)

abbrev placed : Node → NodeEvent → Place
placed n x = record { node = n; event = x }

aps_before : (x : NodeEvent) (k m : ℕ) → k ≤ m → AllByRecursion (IsBefore (Ap m)) (at_aps x k)
aps_before x zero m low = tt
aps_before x (suc k) m low = all_append (Ap m) (at_aps x k) (placed (Ap k) x ∷ []) (aps_before x k m (omega (arith, low))) (le-leb k m (omega (arith, low)), tt)

aps_first : (x : NodeEvent) (k s : ℕ) → AllByRecursion (IsBefore (Sta s)) (at_aps x k)
aps_first x zero s = tt
aps_first x (suc k) s = all_append (Sta s) (at_aps x k) (placed (Ap k) x ∷ []) (aps_first x k s) (refl, tt)

stas_before : (x : NodeEvent) (k m : ℕ) → k ≤ m → AllByRecursion (IsBefore (Sta m)) (at_stas x k)
stas_before x zero m low = tt
stas_before x (suc k) m low = all_append (Sta m) (at_stas x k) (placed (Sta k) x ∷ []) (stas_before x k m (omega (arith, low))) (le-leb k m (omega (arith, low)), tt)

aps_rise : (x : NodeEvent) (k : ℕ) → Rises (at_aps x k)
aps_rise x zero = tt
aps_rise x (suc k) = rises_then (at_aps x k) (placed (Ap k) x) (aps_rise x k) (aps_before x k k (omega arith))

then_stas : (x : NodeEvent) (aps k : ℕ) → Rises (at_aps x aps ++ at_stas x k)
then_stas x aps zero = subst Rises (sym (append-nil (at_aps x aps))) (aps_rise x aps)
then_stas x aps (suc k) =
    subst Rises (append_assoc (at_aps x aps) (at_stas x k) (placed (Sta k) x ∷ []))
    (rises_then (at_aps x aps ++ at_stas x k) (placed (Sta k) x) (then_stas x aps k) (all_append (Sta k) (at_aps x aps) (at_stas x k) (aps_first x aps k) (stas_before x k k (omega arith))))

secret_rises : (d : Domain) (named : Option ℕ) (psk : List ℕ) → Rises (secret_places d named psk)
secret_rises d (Some s) psk = rises_then (at_aps (Secret (Some s) psk) (length d.aps)) (placed (Sta s) (Secret (Some s) psk)) (aps_rise (Secret (Some s) psk) (length d.aps)) (aps_first (Secret (Some s) psk) (length d.aps) s)
secret_rises d None psk = then_stas (Secret None psk) (length d.aps) (length d.stas)

pub secret_in_order : (d : Domain) (named : Option ℕ) (psk : List ℕ) → in_order (secret_places d named psk) ≡ secret_places d named psk
secret_in_order d named psk = still_in_order (secret_places d named psk) (secret_rises d named psk)

-- they are the same in the network as it is then
pub same_places : (d : Domain) (j : List Entry) (named : Option ℕ) (psk : List ℕ) → secret_places (present d j) named psk ≡ secret_places d named psk
same_places d j (Some s) psk = refl
same_places d j None psk = ap (λ (n : ℕ). at_aps (Secret None psk) (length d.aps) ++ at_stas (Secret None psk) n) (length_keyed j zero d.stas)

-- ---- the keys

-- after the round the last key of each station named is the new one, and that of another is as it was
abbrev Follows : Option ℕ → List ℕ → ℕ → List Entry → List Entry → Type 0
Follows named psk count old new = (s : ℕ) → s < count → (y : List ℕ) → unwrap_or (last_secret_in (Sta s) new) y ≡ cond (is_named named s) psk (unwrap_or (last_secret_in (Sta s) old) y)

module _ (d : Domain) (r : ℕ) (psk : List ℕ) (old new : List Entry) where
  low_now : (s : ℕ) → s < length d.stas → s < length (present d old).stas
  low_now s low = subst (λ (k : ℕ). s < k) (sym (length_keyed old zero d.stas)) low

  is_told : (named : Option ℕ) (s : ℕ) → s < length d.stas → Named named s → AddsAll (present d old) r (in_order (secret_places d named psk)) old new → last_secret_in (Sta s) new ≡ Some psk
  is_told named s low is adds =
      of_journal (Sta s) new
      ∙ round_tells (present d old) r named psk everyone s (Sta s) (in_order (secret_places d named psk)) old new (low_now s low) is refl refl (in_ordered _ (secret_places d named psk) (sta_there d named psk s low is))
      (all_ordered (IsPlace named psk) (secret_places d named psk) (all_places d named psk)) adds

  is_kept : (k s : ℕ) → (s ≡ k → ⊥) → AddsAll (present d old) r (in_order (secret_places d (Some k) psk)) old new → last_secret_in (Sta s) new ≡ last_secret_in (Sta s) old
  is_kept k s other adds =
      of_journal (Sta s) new
      ∙ round_skips (present d old) r k s psk everyone (in_order (secret_places d (Some k) psk)) old new other (all_ordered (IsPlace (Some k) psk) (secret_places d (Some k) psk) (all_places d (Some k) psk)) adds
      ∙ sym (of_journal (Sta s) old)

  keys_follow : (named : Option ℕ) → AddsAll (present d old) r (in_order (secret_places d named psk)) old new → Follows named psk (length d.stas) old new
  keys_follow None adds s low y = ap (λ (o : Option (List ℕ)). unwrap_or o y) (is_told None s low tt adds)
  keys_follow (Some k) adds s low y = by (k == s) refl
    where
      same_sta : k ≡ s → s ≡ k
      same_sta is = sym is

      by : (b : Bool) → (k == s) ≡ b → unwrap_or (last_secret_in (Sta s) new) y ≡ cond b psk (unwrap_or (last_secret_in (Sta s) old) y)
      by true is = ap (λ (o : Option (List ℕ)). unwrap_or o y) (is_told (Some k) s low (same_sta (eqb-true k s is)) adds)
      by false is = ap (λ (o : Option (List ℕ)). unwrap_or o y) (is_kept k s (λ one. absurd (true≢false (sym (same-refl (Sta s)) ∙ ap (λ (x : ℕ). x == s) one ∙ is))) adds)

-- ---- the network

keyed_then : (named : Option ℕ) (psk : List ℕ) (count : ℕ) (old new : List Entry) (k : ℕ) (stas : List ListedSta) → Follows named psk count old new → k + length stas ≤ count
    → keyed new k stas ≡ rekeyed named psk k (keyed old k stas)
keyed_then named psk count old new k [] follows low = refl
keyed_then named psk count old new k (s ∷ stas) follows low =
    ap₂ (λ (key : List ℕ) (more : List ListedSta). record { address = s.address; psk = key } ∷ more) (follows k (omega (arith, low)) s.psk) (keyed_then named psk count old new (suc k) stas follows (omega (arith, low)))

pub present_changed : (d : Domain) (r : ℕ) (named : Option ℕ) (psk : List ℕ) (old new : List Entry) → AddsAll (present d old) r (in_order (secret_places d named psk)) old new → present d new ≡ changed (present d old) named psk
present_changed d r named psk old new adds = ap (λ (stas : List ListedSta). record d { stas = stas }) (keyed_then named psk (length d.stas) old new zero d.stas (keys_follow d r psk old new named adds) (omega arith))

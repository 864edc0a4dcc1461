-- The key of a station by the history of a node is that of the present network: at access points of all stations, at a
-- station its own. After a round in which it is changed no row of the key before it is live.
use Rattle.std.proofs.Common.{◌≡◌, ◌⊎◌, ℕ, zero, suc, ◌<◌, Bool, true, false, true≢false, cond, List, [], ◌∷◌, ◌++◌, length, Option, Some, None, refl, sym, ap, subst, ◌∙◌, arith, inl, inr}
use Rattle.std.specs.Prelude.{unwrap_or, ◌==◌, ◌||◌}
use Rattle.std.specs.List.{AllByRecursion}
use Rattle.std.proofs.lemmas.Bool.{cases_lt, eqb-true}
use Rattle.std.proofs.lemmas.List.{append-nil}
use Rattle.domain_base.specs.declared.names.Akm.{Akm}
use Rattle.domain_base.specs.declared.names.Akm.TheVariants.{Psk, PskSha256, FtPsk}
use Rattle.domain_base.specs.declared.names.Node.{Node}
use Rattle.domain_base.specs.declared.names.Node.TheVariants.{Ap, Sta}
use Rattle.run_journal.specs.declared.domain.Domain.{Domain}
use Rattle.run_journal.specs.declared.domain.Event.{Event}
use Rattle.run_journal.specs.declared.domain.Event.TheVariants as asks
use Rattle.run_journal.specs.declared.acts.Act.{Act}
use Rattle.run_journal.specs.declared.acts.Act.TheVariants as act
use Rattle.run_journal.specs.declared.acts.Entry.{Entry}
use Rattle.run_journal.specs.Acts.{same}
use Rattle.run_journal.specs.Holders.{row}
use Rattle.run_journal.specs.Premises.{In}
use Rattle.run_journal.specs.Questions.{history, or_else, add, attempt, session, pending, associated}
use Rattle.run_journal.specs.Secrets.{secret_for, last_secret, last_secret_in, changes_keys, change_keys, ChangesAlone}
use Rattle.domain_rules.specs.Network.{psk_of}
use Rattle.domain_rules.specs.Here.{here}
use Rattle.domain_rules.specs.Closing.{close_attempt, close_session, close_pending, close_associated}
use Rattle.domain_rules.specs.Owing.{and_switch, switch_acts}
use Rattle.domain_rules.specs.ChangedKeys.{r0_name_of, old_row_by, secret_of, secret_of_each, secret_acts, IsNamedSta}
use Rattle.domain_rules.specs.Rows.{NodeEvent, Secret, Adds}
use Rattle.domain_rules.specs.Rounds.{Place, is_not_behind, put_place, in_order, at_aps, at_stas, at_named, secret_places}
use Rattle.domain_rules.specs.Present.{secret, present}
use Rattle.domain_rules.specs.Explained.{Happens, At_one, At_many, AddsAll, number_of, push, Follows, Step, Explained}
use Rattle.domain_rules.proofs.Journals.{history-push, history-other}
use Rattle.domain_rules.proofs.OldKeys.{ends_at_ap}
use Rattle.domain_rules.proofs.Parts.{same-refl, same-other, same-true}
use Rattle.domain_rules.proofs.PresentNetwork.{length_keyed, psk_present}
use Rattle.domain_rules.proofs.Unchanged.{NoSecrets, attempt_closed, session_closed, pending_closed, associated_closed, row_revoked, switches, adds_no_secret, changes, no_secret, Unchanged, unchanged_started, Still, still_all, all_ordered}

-- ---- the last change by the nodes that pass a test

abbrev pub last_where : (Node → Bool) → Node → List Entry → Option (List ℕ)
last_where f p [] = None
last_where f p (e ∷ past) = cond (f e.node) (or_else (secret_for p e.act) (last_where f p past)) (last_where f p past)

-- one node has its history
of_history : (n p : Node) (j : List Entry) → last_secret p (history n j) ≡ last_where (same n) p j
of_history n p [] = refl
of_history n p (e ∷ past) = by (same n e.node) (of_history n p past)
  where
    by : (b : Bool) → last_secret p (history n past) ≡ last_where (same n) p past
        → last_secret p (cond b (e.act ∷ history n past) (history n past)) ≡ cond b (or_else (secret_for p e.act) (last_where (same n) p past)) (last_where (same n) p past)
    by true is = ap (or_else (secret_for p e.act)) is
    by false is = is

abbrev pub everyone : Node → Bool
everyone n = true

-- all nodes have the journal
pub of_journal : (p : Node) (j : List Entry) → last_secret_in p j ≡ last_where everyone p j
of_journal p [] = refl
of_journal p (e ∷ past) = ap (or_else (secret_for p e.act)) (of_journal p past)

abbrev entry_of : ℕ → Node → Act → List Entry → Entry
entry_of r n e past = record { round = r; node = n; number = number_of e past; act = e }

-- ---- acts that do not change the key of p

abbrev NoneTo : Node → List Act → Type 0
NoneTo p g = AllByRecursion (λ (e : Act). secret_for p e ≡ None) g

none_of : (p : Node) (g : List Act) → NoSecrets g → NoneTo p g
none_of p [] none = tt
none_of p (e ∷ g) none = (no_secret p e none.0, none_of p g none.1)

none_append : (p : Node) (f g : List Act) → NoneTo p f → NoneTo p g → NoneTo p (f ++ g)
none_append p [] g none more = more
none_append p (e ∷ f) g none more = (none.0, none_append p f g none.1 more)

module _ (f : Node → Bool) (p : Node) where
  skipped : (r : ℕ) (n : Node) (e : Act) (past : List Entry) → secret_for p e ≡ None → last_where f p (entry_of r n e past ∷ past) ≡ last_where f p past
  skipped r n e past none = by (f n)
    where
      by : (b : Bool) → cond b (or_else (secret_for p e) (last_where f p past)) (last_where f p past) ≡ last_where f p past
      by true = ap (λ (o : Option (List ℕ)). or_else o (last_where f p past)) none
      by false = refl

  none_pushed : (r : ℕ) (n : Node) (g : List Act) (past : List Entry) → NoneTo p g → last_where f p (push r n g past) ≡ last_where f p past
  none_pushed r n [] past none = refl
  none_pushed r n (e ∷ g) past none = none_pushed r n g (entry_of r n e past ∷ past) none.1 ∙ skipped r n e past none.0

-- ---- acts that change it to one key

abbrev OnlyTo : Node → List ℕ → List Act → Type 0
OnlyTo p psk g = AllByRecursion (λ (e : Act). (secret_for p e ≡ None) ⊎ (secret_for p e ≡ Some psk)) g

abbrev HasTo : Node → List ℕ → List Act → Type 0
HasTo p psk [] = ⊥
HasTo p psk (e ∷ g) = (secret_for p e ≡ Some psk) ⊎ HasTo p psk g

only_of : (p : Node) (psk : List ℕ) (g : List Act) → NoSecrets g → OnlyTo p psk g
only_of p psk [] none = tt
only_of p psk (e ∷ g) none = (inl (no_secret p e none.0), only_of p psk g none.1)

only_append : (p : Node) (psk : List ℕ) (f g : List Act) → OnlyTo p psk f → OnlyTo p psk g → OnlyTo p psk (f ++ g)
only_append p psk [] g only more = more
only_append p psk (e ∷ f) g only more = (only.0, only_append p psk f g only.1 more)

has_right : (p : Node) (psk : List ℕ) (f g : List Act) → HasTo p psk g → HasTo p psk (f ++ g)
has_right p psk [] g has = has
has_right p psk (e ∷ f) g has = inr (has_right p psk f g has)

has_left : (p : Node) (psk : List ℕ) (f g : List Act) → HasTo p psk f → HasTo p psk (f ++ g)
has_left p psk [] g has = absurd has
has_left p psk (e ∷ f) g (inl here_) = inl here_
has_left p psk (e ∷ f) g (inr later) = inr (has_left p psk f g later)

module _ (f : Node → Bool) (p : Node) (psk : List ℕ) where
  abbrev Told : List Entry → Type 0
  Told j = last_where f p j ≡ Some psk

  still_told : (r : ℕ) (n : Node) (e : Act) (past : List Entry) → (secret_for p e ≡ None) ⊎ (secret_for p e ≡ Some psk) → Told past → Told (entry_of r n e past ∷ past)
  still_told r n e past (inl none) told = skipped f p r n e past none ∙ told
  still_told r n e past (inr some) told = by (f n)
    where
      by : (b : Bool) → cond b (or_else (secret_for p e) (last_where f p past)) (last_where f p past) ≡ Some psk
      by true = ap (λ (o : Option (List ℕ)). or_else o (last_where f p past)) some
      by false = told

  keeps : (r : ℕ) (n : Node) (g : List Act) (past : List Entry) → OnlyTo p psk g → Told past → Told (push r n g past)
  keeps r n [] past only told = told
  keeps r n (e ∷ g) past only told = keeps r n g (entry_of r n e past ∷ past) only.1 (still_told r n e past only.0 told)

  tells : (r : ℕ) (n : Node) (g : List Act) (past : List Entry) → f n ≡ true → OnlyTo p psk g → HasTo p psk g → Told (push r n g past)
  tells r n [] past passes only has = absurd has
  tells r n (e ∷ g) past passes only (inl here_) = keeps r n g (entry_of r n e past ∷ past) only.1 (by (f n) passes)
    where
      by : (b : Bool) → b ≡ true → cond b (or_else (secret_for p e) (last_where f p past)) (last_where f p past) ≡ Some psk
      by true is = ap (λ (o : Option (List ℕ)). or_else o (last_where f p past)) here_
      by false is = absurd (true≢false (sym is))
  tells r n (e ∷ g) past passes only (inr later) = tells r n g (entry_of r n e past ∷ past) passes only.1 later

-- ---- the acts of a changed key

old_row : (akm : Akm) (d : Domain) (n : Node) (h : List Act) (p : Node) → NoSecrets (old_row_by akm d n h p)
old_row FtPsk d n h p = row_revoked d.akm d n h p
old_row Psk d n h p = tt
old_row PskSha256 d n h p = tt

-- it sets the key of one station
own_set : (p q : Node) (psk : List ℕ) → (secret_for p (act.Secret q psk) ≡ None) ⊎ (secret_for p (act.Secret q psk) ≡ Some psk)
own_set p q psk = by (same p q)
  where
    by : (b : Bool) → (cond b (Some psk) None ≡ None) ⊎ (cond b (Some psk) None ≡ Some psk)
    by true = inr refl
    by false = inl refl

only_secret : (d : Domain) (n : Node) (h : List Act) (psk : List ℕ) (p q : Node) → OnlyTo p psk (secret_of d n h psk q)
only_secret d n h psk p q =
    only_append p psk (old_row_by d.akm d n h q) _ (only_of p psk (old_row_by d.akm d n h q) (old_row d.akm d n h q))
    (only_append p psk (close_attempt q (attempt q h)) _ (only_of p psk (close_attempt q (attempt q h)) (attempt_closed q (attempt q h)))
    (only_append p psk (close_session q (session q h)) _ (only_of p psk (close_session q (session q h)) (session_closed q (session q h))) (own_set p q psk, tt)))

has_secret : (d : Domain) (n : Node) (h : List Act) (psk : List ℕ) (p : Node) → HasTo p psk (secret_of d n h psk p)
has_secret d n h psk p =
    has_right p psk (old_row_by d.akm d n h p) _ (has_right p psk (close_attempt p (attempt p h)) _ (has_right p psk (close_session p (session p h)) _ (inl (rw (same-refl p) refl))))

none_secret : (d : Domain) (n : Node) (h : List Act) (psk : List ℕ) (p q : Node) → same p q ≡ false → NoneTo p (secret_of d n h psk q)
none_secret d n h psk p q other =
    none_append p (old_row_by d.akm d n h q) _ (none_of p (old_row_by d.akm d n h q) (old_row d.akm d n h q))
    (none_append p (close_attempt q (attempt q h)) _ (none_of p (close_attempt q (attempt q h)) (attempt_closed q (attempt q h)))
    (none_append p (close_session q (session q h)) _ (none_of p (close_session q (session q h)) (session_closed q (session q h))) (rw other refl, tt)))

only_each : (d : Domain) (n : Node) (h : List Act) (psk : List ℕ) (k : ℕ) (p : Node) → OnlyTo p psk (secret_of_each d n h psk k)
only_each d n h psk zero p = tt
only_each d n h psk (suc k) p =
    only_append p psk (secret_of_each d n h psk k) _ (only_each d n h psk k p) (only_secret d n (add (secret_of_each d n h psk k) h) psk p (Sta k))

has_each : (d : Domain) (n : Node) (h : List Act) (psk : List ℕ) (k s : ℕ) → s < k → HasTo (Sta s) psk (secret_of_each d n h psk k)
has_each d n h psk zero s low = absurd (omega (arith, low))
has_each d n h psk (suc k) s low = elim (cases_lt s k) [
  | inl less ↦ has_left (Sta s) psk (secret_of_each d n h psk k) _ (has_each d n h psk k s less)
  | inr high ↦ (let one : s ≡ k = omega (arith, low, high) in
      has_right (Sta s) psk (secret_of_each d n h psk k) _
      (subst (λ (x : ℕ). HasTo (Sta s) psk (secret_of d n (add (secret_of_each d n h psk k) h) psk (Sta x))) one (has_secret d n (add (secret_of_each d n h psk k) h) psk (Sta s))))
]

only_acts : (d : Domain) (n : Node) (h : List Act) (named : Option ℕ) (psk : List ℕ) (p : Node) → OnlyTo p psk (secret_acts d n h named psk)
only_acts d (Ap a) h (Some s) psk p = only_secret d (Ap a) h psk p (Sta s)
only_acts d (Ap a) h None psk p = only_each d (Ap a) h psk (length d.stas) p
only_acts d (Sta s) h named psk p =
    only_append p psk (close_pending (pending h)) _ (only_of p psk (close_pending (pending h)) (pending_closed (pending h)))
    (only_append p psk (close_associated (associated h)) _ (only_of p psk (close_associated (associated h)) (associated_closed (associated h))) (own_set p (Sta s) psk, tt))

-- the switch behind them changes none
only_switched : (d : Domain) (n : Node) (h acts : List Act) (p : Node) (psk : List ℕ) → OnlyTo p psk acts → OnlyTo p psk (and_switch d n h acts)
only_switched d (Sta s) h acts p psk only = only
only_switched d (Ap a) h acts p psk only = only_append p psk acts _ only (only_of p psk (switch_acts d a (add acts h)) (switches d a (add acts h)))

has_switched : (d : Domain) (n : Node) (h acts : List Act) (p : Node) (psk : List ℕ) → HasTo p psk acts → HasTo p psk (and_switch d n h acts)
has_switched d (Sta s) h acts p psk has = has
has_switched d (Ap a) h acts p psk has = has_left p psk acts _ has

none_switched : (d : Domain) (n : Node) (h acts : List Act) (p : Node) → NoneTo p acts → NoneTo p (and_switch d n h acts)
none_switched d (Sta s) h acts p none = none
none_switched d (Ap a) h acts p none = none_append p acts _ none (none_of p (switch_acts d a (add acts h)) (switches d a (add acts h)))

-- the station is among those whose key is changed
abbrev pub Named : Option ℕ → ℕ → Type 0
Named None s = Unit {0}
Named (Some k) s = s ≡ k

-- at access points, and at these stations
abbrev pub IsAt : Option ℕ → Node → Type 0
IsAt named (Ap a) = Unit {0}
IsAt named (Sta s) = Named named s

abbrev pub IsPlace : Option ℕ → List ℕ → Place → Type 0
IsPlace named psk q = (q.event ≡ Secret named psk) × IsAt named q.node

abbrev placed : Node → NodeEvent → Place
placed n x = record { node = n; event = x }

-- where the key of station s is set: at each access point, and at the station
abbrev Sets : Node → ℕ → Type 0
Sets (Ap a) s = Unit {0}
Sets (Sta m) s = m ≡ s

has_acts : (d : Domain) (n : Node) (h : List Act) (named : Option ℕ) (psk : List ℕ) (s : ℕ) → s < length d.stas → Named named s → Sets n s → HasTo (Sta s) psk (secret_acts d n h named psk)
has_acts d (Ap a) h (Some k) psk s low is sets = subst (λ (x : ℕ). HasTo (Sta s) psk (secret_of d (Ap a) h psk (Sta x))) is (has_secret d (Ap a) h psk (Sta s))
has_acts d (Ap a) h None psk s low is sets = has_each d (Ap a) h psk (length d.stas) s low
has_acts d (Sta m) h named psk s low is sets =
    has_right (Sta s) psk (close_pending (pending h)) _ (has_right (Sta s) psk (close_associated (associated h)) _
    (inl (subst (λ (x : ℕ). secret_for (Sta s) (act.Secret (Sta x) psk) ≡ Some psk) (sym sets) (rw (same-refl (Sta s)) refl))))

other_sta : (s k : ℕ) → (s ≡ k → ⊥) → same (Sta s) (Sta k) ≡ false
other_sta s k other = same-other (Sta s) (Sta k) (λ (e : Sta s ≡ Sta k). other (cc e))

none_acts : (d : Domain) (n : Node) (h : List Act) (k s : ℕ) (psk : List ℕ) → (s ≡ k → ⊥) → IsAt (Some k) n → NoneTo (Sta s) (secret_acts d n h (Some k) psk)
none_acts d (Ap a) h k s psk other at = none_secret d (Ap a) h psk (Sta s) (Sta k) (other_sta s k other)
none_acts d (Sta m) h k s psk other at =
    none_append (Sta s) (close_pending (pending h)) _ (none_of (Sta s) (close_pending (pending h)) (pending_closed (pending h)))
    (none_append (Sta s) (close_associated (associated h)) _ (none_of (Sta s) (close_associated (associated h)) (associated_closed (associated h)))
    (subst (λ (x : ℕ). secret_for (Sta s) (act.Secret (Sta x) psk) ≡ None) (sym at) (rw (other_sta s k other) refl), tt))

-- ---- the round of a changed key

-- what a node adds
group_is : (d : Domain) (n : Node) (h : List Act) (x : NodeEvent) (named : Option ℕ) (psk : List ℕ) (g : List Act) → x ≡ Secret named psk → Adds (here d 0 n) h x g → g ≡ and_switch d n h (secret_acts d n h named psk)
group_is d n h x named psk g is adds =
    let w : Adds (here d 0 n) h (Secret named psk) g = subst (λ (y : NodeEvent). Adds (here d 0 n) h y g) is adds in
    w.is ∙ ap (and_switch d n h) w.row

module _ (d : Domain) (r : ℕ) (named : Option ℕ) (psk : List ℕ) (f : Node → Bool) where
  round_keeps : (s : ℕ) (places : List Place) (old new : List Entry) → AllByRecursion (IsPlace named psk) places → AddsAll d r places old new → Told f (Sta s) psk old → Told f (Sta s) psk new
  round_keeps s [] old new all is told = subst (λ (j : List Entry). Told f (Sta s) psk j) (sym is) told
  round_keeps s (q ∷ places) old new all (acts, (adds, rest)) told =
      let h = history q.node old in
      let g = group_is d q.node h q.event named psk acts all.0.0 adds in
      let only : OnlyTo (Sta s) psk acts = subst (λ (x : List Act). OnlyTo (Sta s) psk x) (sym g) (only_switched d q.node h _ (Sta s) psk (only_acts d q.node h named psk (Sta s))) in
      round_keeps s places (push r q.node acts old) new all.1 rest (keeps f (Sta s) psk r q.node acts old only told)

  pub round_tells : (s : ℕ) (n : Node) (places : List Place) (old new : List Entry) → s < length d.stas → Named named s → Sets n s → f n ≡ true → In (placed n (Secret named psk)) places
      → AllByRecursion (IsPlace named psk) places → AddsAll d r places old new → Told f (Sta s) psk new
  round_tells s n [] old new low is sets passes there all adds_all = absurd there
  round_tells s n (q ∷ places) old new low is sets passes (inl here_) all (acts, (adds, rest)) =
      let at : n ≡ q.node = ap (λ (x : Place). x.node) here_ in
      let h = history q.node old in
      let g = group_is d q.node h q.event named psk acts all.0.0 adds in
      let only : OnlyTo (Sta s) psk acts = subst (λ (x : List Act). OnlyTo (Sta s) psk x) (sym g) (only_switched d q.node h _ (Sta s) psk (only_acts d q.node h named psk (Sta s))) in
      let has : HasTo (Sta s) psk acts = subst (λ (x : List Act). HasTo (Sta s) psk x) (sym g) (has_switched d q.node h _ (Sta s) psk (has_acts d q.node h named psk s low is (subst (λ (x : Node). Sets x s) at sets))) in
      round_keeps s places (push r q.node acts old) new all.1 rest (tells f (Sta s) psk r q.node acts old (subst (λ (x : Node). f x ≡ true) at passes) only has)
  round_tells s n (q ∷ places) old new low is sets passes (inr later) all (acts, (adds, rest)) = round_tells s n places (push r q.node acts old) new low is sets passes later all.1 rest

-- and of another's
pub round_skips : (d : Domain) (r k s : ℕ) (psk : List ℕ) (f : Node → Bool) (places : List Place) (old new : List Entry) → (s ≡ k → ⊥) → AllByRecursion (IsPlace (Some k) psk) places → AddsAll d r places old new
    → last_where f (Sta s) new ≡ last_where f (Sta s) old
round_skips d r k s psk f [] old new other all is = ap (last_where f (Sta s)) is
round_skips d r k s psk f (q ∷ places) old new other all (acts, (adds, rest)) =
    let h = history q.node old in
    let g = group_is d q.node h q.event (Some k) psk acts all.0.0 adds in
    let none : NoneTo (Sta s) acts = subst (λ (x : List Act). NoneTo (Sta s) x) (sym g) (none_switched d q.node h _ (Sta s) (none_acts d q.node h k s psk other all.0.1)) in
    round_skips d r k s psk f places (push r q.node acts old) new other all.1 rest ∙ none_pushed f (Sta s) r q.node acts old none

-- and of events that change none
round_leaves : (d : Domain) (r s : ℕ) (f : Node → Bool) (places : List Place) (old new : List Entry) → Still places → AddsAll d r places old new → last_where f (Sta s) new ≡ last_where f (Sta s) old
round_leaves d r s f [] old new still is = ap (last_where f (Sta s)) is
round_leaves d r s f (q ∷ places) old new still (acts, (adds, rest)) =
    let none : NoneTo (Sta s) acts = none_of (Sta s) acts (adds_no_secret d 0 q.node (history q.node old) q.event acts still.0 adds) in
    round_leaves d r s f places (push r q.node acts old) new still.1 rest ∙ none_pushed f (Sta s) r q.node acts old none

-- ---- the places of a changed key

in_append_left : (x : Place) (xs ys : List Place) → In x xs → In x (xs ++ ys)
in_append_left x [] ys there = absurd there
in_append_left x (y ∷ xs) ys (inl here_) = inl here_
in_append_left x (y ∷ xs) ys (inr later) = inr (in_append_left x xs ys later)

in_append_right : (x : Place) (xs ys : List Place) → In x ys → In x (xs ++ ys)
in_append_right x [] ys there = there
in_append_right x (y ∷ xs) ys there = inr (in_append_right x xs ys there)

all_append : (P : Place → Type 0) (xs ys : List Place) → AllByRecursion P xs → AllByRecursion P ys → AllByRecursion P (xs ++ ys)
all_append P [] ys one more = more
all_append P (x ∷ xs) ys one more = (one.0, all_append P xs ys one.1 more)

aps_there : (x : NodeEvent) (k a : ℕ) → a < k → In (placed (Ap a) x) (at_aps x k)
aps_there x zero a low = absurd (omega (arith, low))
aps_there x (suc k) a low = elim (cases_lt a k) [
  | inl less ↦ in_append_left _ (at_aps x k) _ (aps_there x k a less)
  | inr high ↦ (let one : a ≡ k = omega (arith, low, high) in in_append_right _ (at_aps x k) _ (inl (ap (λ (m : ℕ). placed (Ap m) x) one)))
]

stas_there : (x : NodeEvent) (k s : ℕ) → s < k → In (placed (Sta s) x) (at_stas x k)
stas_there x zero s low = absurd (omega (arith, low))
stas_there x (suc k) s low = elim (cases_lt s k) [
  | inl less ↦ in_append_left _ (at_stas x k) _ (stas_there x k s less)
  | inr high ↦ (let one : s ≡ k = omega (arith, low, high) in in_append_right _ (at_stas x k) _ (inl (ap (λ (m : ℕ). placed (Sta m) x) one)))
]

named_there : (d : Domain) (x : NodeEvent) (named : Option ℕ) (s : ℕ) → s < length d.stas → Named named s → In (placed (Sta s) x) (at_named d x named)
named_there d x (Some k) s low is = inl (ap (λ (m : ℕ). placed (Sta m) x) is)
named_there d x None s low is = stas_there x (length d.stas) s low

ap_there : (d : Domain) (named : Option ℕ) (psk : List ℕ) (a : ℕ) → a < length d.aps → In (placed (Ap a) (Secret named psk)) (secret_places d named psk)
ap_there d named psk a low = in_append_left _ (at_aps (Secret named psk) (length d.aps)) _ (aps_there (Secret named psk) (length d.aps) a low)

pub sta_there : (d : Domain) (named : Option ℕ) (psk : List ℕ) (s : ℕ) → s < length d.stas → Named named s → In (placed (Sta s) (Secret named psk)) (secret_places d named psk)
sta_there d named psk s low is = in_append_right _ (at_aps (Secret named psk) (length d.aps)) _ (named_there d (Secret named psk) named s low is)

put_there : (p : Place) (places : List Place) → In p (put_place p places)
put_there p [] = inl refl
put_there p (q ∷ places) = by (is_not_behind p.node q.node) (put_there p places)
  where
    by : (b : Bool) → In p (put_place p places) → In p (cond b (p ∷ q ∷ places) (q ∷ put_place p places))
    by true w = inl refl
    by false w = inr w

put_keeps : (x p : Place) (places : List Place) → In x places → In x (put_place p places)
put_keeps x p [] there = absurd there
put_keeps x p (q ∷ places) there = by (is_not_behind p.node q.node) (put_keeps x p places) there
  where
    by : (b : Bool) → (In x places → In x (put_place p places)) → In x (q ∷ places) → In x (cond b (p ∷ q ∷ places) (q ∷ put_place p places))
    by true more w = inr w
    by false more (inl here_) = inl here_
    by false more (inr later) = inr (more later)

pub in_ordered : (x : Place) (places : List Place) → In x places → In x (in_order places)
in_ordered x [] there = absurd there
in_ordered x (p ∷ places) (inl here_) = subst (λ (y : Place). In y (put_place p (in_order places))) (sym here_) (put_there p (in_order places))
in_ordered x (p ∷ places) (inr later) = put_keeps x p (in_order places) (in_ordered x places later)

all_aps : (named : Option ℕ) (psk : List ℕ) (k : ℕ) → AllByRecursion (IsPlace named psk) (at_aps (Secret named psk) k)
all_aps named psk zero = tt
all_aps named psk (suc k) = all_append (IsPlace named psk) (at_aps (Secret named psk) k) _ (all_aps named psk k) ((refl, tt), tt)

all_stas : (psk : List ℕ) (k : ℕ) → AllByRecursion (IsPlace None psk) (at_stas (Secret None psk) k)
all_stas psk zero = tt
all_stas psk (suc k) = all_append (IsPlace None psk) (at_stas (Secret None psk) k) _ (all_stas psk k) ((refl, tt), tt)

all_named : (d : Domain) (named : Option ℕ) (psk : List ℕ) → AllByRecursion (IsPlace named psk) (at_named d (Secret named psk) named)
all_named d (Some k) psk = ((refl, refl), tt)
all_named d None psk = all_stas psk (length d.stas)

pub all_places : (d : Domain) (named : Option ℕ) (psk : List ℕ) → AllByRecursion (IsPlace named psk) (secret_places d named psk)
all_places d named psk = all_append (IsPlace named psk) (at_aps (Secret named psk) (length d.aps)) _ (all_aps named psk (length d.aps)) (all_named d named psk)

-- ---- round by round

-- the node hears of each change of the key of station s
abbrev Hears : Domain → Node → ℕ → Type 0
Hears d (Ap a) s = a < length d.aps
Hears d (Sta m) s = m ≡ s

there : (d : Domain) (n : Node) (named : Option ℕ) (psk : List ℕ) (s : ℕ) → Hears d n s → s < length d.stas → Named named s → In (placed n (Secret named psk)) (secret_places d named psk)
there d (Ap a) named psk s hears low is = ap_there d named psk a hears
there d (Sta m) named psk s hears low is = subst (λ (x : ℕ). In (placed (Sta x) (Secret named psk)) (secret_places d named psk)) (sym hears) (sta_there d named psk s low is)

sets : (d : Domain) (n : Node) (s : ℕ) → Hears d n s → Sets n s
sets d (Ap a) s hears = tt
sets d (Sta m) s hears = hears

module _ (d : Domain) (n : Node) (s : ℕ) (hears : Hears d n s) (low : s < length d.stas) where
  abbrev Agrees : List Entry → Type 0
  Agrees j = last_where (same n) (Sta s) j ≡ last_where everyone (Sta s) j

  low_now : (old : List Entry) → s < length (present d old).stas
  low_now old = subst (λ (k : ℕ). s < k) (sym (length_keyed old zero d.stas)) low

  -- both hear of it
  both : (r : ℕ) (named : Option ℕ) (psk : List ℕ) (old new : List Entry) → Named named s → AddsAll (present d old) r (in_order (secret_places d named psk)) old new → Agrees new
  both r named psk old new is adds =
      let e = present d old in
      let all = all_ordered (IsPlace named psk) (secret_places d named psk) (all_places d named psk) in
      let own = round_tells e r named psk (same n) s n (in_order (secret_places d named psk)) old new (low_now old) is (sets d n s hears) (same-refl n) (in_ordered _ (secret_places d named psk) (there d n named psk s hears low is)) all adds in
      let whole = round_tells e r named psk everyone s n (in_order (secret_places d named psk)) old new (low_now old) is (sets d n s hears) refl (in_ordered _ (secret_places d named psk) (there d n named psk s hears low is)) all adds in
      own ∙ sym whole

  -- or neither
  neither : (r k : ℕ) (psk : List ℕ) (old new : List Entry) → (s ≡ k → ⊥) → AddsAll (present d old) r (in_order (secret_places d (Some k) psk)) old new → Agrees old → Agrees new
  neither r k psk old new other adds before =
      let all = all_ordered (IsPlace (Some k) psk) (secret_places d (Some k) psk) (all_places d (Some k) psk) in
      round_skips (present d old) r k s psk (same n) (in_order (secret_places d (Some k) psk)) old new other all adds ∙ before
      ∙ sym (round_skips (present d old) r k s psk everyone (in_order (secret_places d (Some k) psk)) old new other all adds)

  changed : (r : ℕ) (named : Option ℕ) (psk : List ℕ) (old new : List Entry) → AddsAll (present d old) r (in_order (secret_places d named psk)) old new → Agrees old → Agrees new
  changed r None psk old new adds before = both r None psk old new tt adds
  changed r (Some k) psk old new adds before = by (s == k) refl
    where
      by : (b : Bool) → (s == k) ≡ b → Agrees new
      by true is = both r (Some k) psk old new (eqb-true s k is) adds
      by false is = neither r k psk old new (λ one. absurd (true≢false (sym (same-refl (Sta s)) ∙ ap (λ (x : ℕ). s == x) one ∙ is))) adds before

  alone : (r : ℕ) (e : Event) (old new : List Entry) → changes_keys e ≡ true → Follows d r (e ∷ []) old new → Agrees old → Agrees new
  alone r (asks.Secret named psk) old new is follows before =
      let (places, (others, (happens, (none, cut)))) = follows.happen in
      by places happens (cut ∙ ap (λ (l : List Place). places ++ l) none ∙ append-nil places)
    where
      by : (places : List Place) → Happens d (asks.Secret named psk) old r places → follows.places ≡ places → Agrees new
      by places (At_one p happens one) at = absurd happens
      by places (At_many other key same_ one) at =
          let these : follows.places ≡ secret_places d other key = at ∙ one in
          changed r other key old new (subst (λ (l : List Place). AddsAll (present d old) r (in_order l) old new) these follows.adds) before
  alone r _ old new is follows before = absurd (true≢false (sym is))

  by_round : (r : ℕ) (events : List Event) (old new : List Entry) → ChangesAlone events → (b : Bool) → change_keys events ≡ b → Follows d r events old new → Agrees old → Agrees new
  by_round r events old new apart false still follows before =
      let places = all_ordered (λ (p : Place). changes p.event ≡ false) follows.places (still_all d events old r follows.places still follows.happen) in
      round_leaves (present d old) r s (same n) (in_order follows.places) old new places follows.adds ∙ before ∙ sym (round_leaves (present d old) r s everyone (in_order follows.places) old new places follows.adds)
  by_round r [] old new apart true is follows before = absurd (true≢false (sym is))
  by_round r (e ∷ []) old new apart true is follows before = alone r e old new (one (changes_keys e) is) follows before
    where
      one : (b : Bool) → (b || false) ≡ true → b ≡ true
      one true w = refl
      one false w = w
  by_round r (e ∷ f ∷ events) old new apart true is follows before = let size = apart is in absurd (omega (arith, size))

  none_where : (f : Node → Bool) (j : List Entry) → Unchanged j → last_where f (Sta s) j ≡ None
  none_where f [] all = refl
  none_where f (e ∷ past) all = skip (f e.node) ∙ none_where f past all.1
    where
      skip : (b : Bool) → cond b (or_else (secret_for (Sta s) e.act) (last_where f (Sta s) past)) (last_where f (Sta s) past) ≡ last_where f (Sta s) past
      skip true = ap (λ (o : Option (List ℕ)). or_else o (last_where f (Sta s) past)) (no_secret (Sta s) e.act all.0)
      skip false = refl

  agrees : (rounds : List (List Event)) (j : List Entry) → AllByRecursion ChangesAlone rounds → Explained d rounds j → Agrees j
  unfolding Explained
  agrees [] j apart is =
      let all : Unchanged j = subst Unchanged (sym is) (unchanged_started d (length d.aps)) in
      none_where (same n) j all ∙ sym (none_where everyone j all)
  agrees (events ∷ rounds) j apart (old, (before, follows)) =
      by_round (suc (length rounds)) events old j apart.0 (change_keys events) refl follows (agrees rounds old apart.1 before)

  -- the key by the history is that of the network
  key_present : (rounds : List (List Event)) (j : List Entry) → AllByRecursion ChangesAlone rounds → Explained d rounds j → secret d (Sta s) (history n j) ≡ psk_of (present d j) (Sta s)
  key_present rounds j apart explained =
      ap (λ (o : Option (List ℕ)). unwrap_or o (psk_of d (Sta s))) (of_history n (Sta s) j ∙ agrees rounds j apart explained ∙ sym (of_journal (Sta s) j)) ∙ sym (psk_present d j s low)

pub key_at_ap : (d : Domain) (rounds : List (List Event)) (j : List Entry) (a s : ℕ) → AllByRecursion ChangesAlone rounds → Explained d rounds j → a < length d.aps → s < length d.stas → secret d (Sta s) (history (Ap a) j) ≡ psk_of (present d j) (Sta s)
key_at_ap d rounds j a s apart explained hears low = key_present d (Ap a) s hears low rounds j apart explained

pub key_at_sta : (d : Domain) (rounds : List (List Event)) (j : List Entry) (s : ℕ) → AllByRecursion ChangesAlone rounds → Explained d rounds j → s < length d.stas → secret d (Sta s) (history (Sta s) j) ≡ psk_of (present d j) (Sta s)
key_at_sta d rounds j s apart explained low = key_present d (Sta s) s refl low rounds j apart explained

-- ---- no row of an old key is live after the round

-- at access point a of the network, where the key of station s is changed
module _ (e : Domain) (r a : ℕ) (named : Option ℕ) (psk : List ℕ) (s : ℕ) (is : IsNamedSta e named s) (suite : e.akm ≡ FtPsk) where
  abbrev Gone : List Entry → Type 0
  Gone j = row (r0_name_of e (Ap a) (Sta s)) (history (Ap a) j) ≡ None

  gone_here : (q : Place) (acts : List Act) (old : List Entry) → Ap a ≡ q.node → q.event ≡ Secret named psk → Adds (here e 0 q.node) (history q.node old) q.event acts → Gone (push r q.node acts old)
  gone_here q acts old at event adds =
      let own : Adds (here e 0 (Ap a)) (history (Ap a) old) (Secret named psk) acts =
      subst (λ (x : NodeEvent). Adds (here e 0 (Ap a)) (history (Ap a) old) x acts) event (subst (λ (n : Node). Adds (here e 0 n) (history n old) q.event acts) (sym at) adds) in
      let over = (ends_at_ap e 0 a (history (Ap a) old) named psk s acts is own).2 suite in
      subst (λ (n : Node). Gone (push r n acts old)) at (ap (row (r0_name_of e (Ap a) (Sta s))) (history-push r (Ap a) acts old) ∙ over)

  gone_still : (places : List Place) (old new : List Entry) → AllByRecursion (IsPlace named psk) places → AddsAll e r places old new → Gone old → Gone new
  gone_still [] old new all same_ gone = subst Gone (sym same_) gone
  gone_still (q ∷ places) old new all (acts, (adds, rest)) gone = gone_still places (push r q.node acts old) new all.1 rest (by (same (Ap a) q.node) refl)
    where
      by : (b : Bool) → same (Ap a) q.node ≡ b → Gone (push r q.node acts old)
      by true at = gone_here q acts old (same-true (Ap a) q.node at) all.0.0 adds
      by false other = ap (row (r0_name_of e (Ap a) (Sta s))) (history-other r q.node (Ap a) acts old other) ∙ gone

  gone_then : (places : List Place) (old new : List Entry) → In (placed (Ap a) (Secret named psk)) places → AllByRecursion (IsPlace named psk) places → AddsAll e r places old new → Gone new
  gone_then [] old new at all adds = absurd at
  gone_then (q ∷ places) old new (inl here_) all (acts, (adds, rest)) =
      gone_still places (push r q.node acts old) new all.1 rest (gone_here q acts old (ap (λ (x : Place). x.node) here_) all.0.0 adds)
  gone_then (q ∷ places) old new (inr later) all (acts, (adds, rest)) = gone_then places (push r q.node acts old) new later all.1 rest

-- it is named in the network as it is now
named_now : (d : Domain) (old : List Entry) (named : Option ℕ) (s : ℕ) → IsNamedSta d named s → IsNamedSta (present d old) named s
named_now d old None s low = subst (λ (k : ℕ). s < k) (sym (length_keyed old zero d.stas)) low
named_now d old (Some k) s is = is

abbrev named_in : Event → Option ℕ
named_in (asks.Secret named psk) = named
named_in _ = None

pub ends_in_round : (d : Domain) (r : ℕ) (named : Option ℕ) (psk : List ℕ) (old new : List Entry) (a s : ℕ) → Step d r (asks.Secret named psk) old new → a < length d.aps → IsNamedSta d named s → d.akm ≡ FtPsk
    → row (r0_name_of (present d old) (Ap a) (Sta s)) (history (Ap a) new) ≡ None
ends_in_round d r named psk old new a s step low is suite =
    let (places, (others, (happens, (none, cut)))) = step.happen in
    by places happens (cut ∙ ap (λ (l : List Place). places ++ l) none ∙ append-nil places)
  where
    by : (places : List Place) → Happens d (asks.Secret named psk) old r places → step.places ≡ places → row (r0_name_of (present d old) (Ap a) (Sta s)) (history (Ap a) new) ≡ None
    by places (At_one p happens one) at = absurd happens
    by places (At_many other key same_ one) at =
        let these : step.places ≡ secret_places d other key = at ∙ one in
        let its = subst (λ (o : Option ℕ). IsNamedSta (present d old) o s) (ap named_in same_) (named_now d old named s is) in
        let all = all_ordered (IsPlace other key) (secret_places d other key) (all_places d other key) in
        gone_then (present d old) r a other key s its suite (in_order (secret_places d other key)) old new (in_ordered _ (secret_places d other key) (ap_there d other key a low)) all
        (subst (λ (l : List Place). AddsAll (present d old) r (in_order l) old new) these step.adds)

-- A round of all workers, as it stands in the journal.
use Rattle.std.proofs.Common.{◌≡◌, ℕ, zero, suc, ◌<◌, ◌≤◌, Bool, true, false, cond, List, [], ◌∷◌, ◌++◌, length, map, Some, refl, sym, ap, subst, ◌∙◌, arith, inl, inr, length-append}
use Rattle.std.specs.Prelude.{slice_get}
use Rattle.std.specs.List.{AllByRecursion}
use Rattle.std.proofs.lemmas.Bool.{cases_lt}
use Rattle.std.proofs.lemmas.Option.{slice_get_within}
use Rattle.domain_base.specs.declared.names.Node.{Node}
use Rattle.domain_base.specs.declared.names.Node.TheVariants.{Ap, Sta}
use Rattle.key_holders.specs.declared.rows.HeldRow.{HeldRow}
use Rattle.key_holders.specs.Listed.{rows_at}
use Rattle.run_journal.specs.declared.domain.Domain.{Domain}
use Rattle.run_journal.specs.declared.domain.Event.{Event}
use Rattle.run_journal.specs.declared.acts.Entry.{Entry}
use Rattle.run_journal.specs.Acts.{same}
use Rattle.run_journal.specs.Questions.{history}
use Rattle.domain_rules.specs.Network.{InForm, IsNamed}
use Rattle.run_journal.specs.Events.{IsListed}
use Rattle.domain_rules.proofs.Peers.{named}
use Rattle.domain_world.specs.Ordering.{InTurn, node_of}
use Rattle.domain_rules.specs.HeldRight.{AllInTime}
use Rattle.domain_rules.specs.Explained.{push, HappensAt}
use Rattle.domain_rules.proofs.Parts.{same-true}
use Rattle.domain_rules.proofs.Journals.{history-other}
use Rattle.domain_world.proofs.Moments.{UpTo, Below, below_up, Moment, moment_grown, right_grown, now_grown}
use Rattle.domain_rules.specs.Present.{present, earlier}
use Rattle.domain_rules.proofs.Unchanged.{changes, happens_still}
use Rattle.holder_table.specs.declared.history.HolderEvent.{HolderEvent}
use Rattle.holder_table.specs.Histories.{held_at, Follows}
use Rattle.ap_node.specs.State.{State as ApState}
use Rattle.ap_node.specs.Stands.{StandsWith as ApStands}
use Rattle.station_node.specs.Stands.{Stands as StationStands}
use Rattle.domain_world.specs.declared.part.Part.{Part}
use Rattle.domain_world.specs.declared.working.Turn.{Turn}
use Rattle.domain_world.specs.State.{Nodes, rows_below}
use Rattle.domain_world.specs.Owning.{AreListed, Stand}
use Rattle.domain_world.specs.Acting.{Played}
use Rattle.domain_world.specs.Waiting.{joined, AreShort, events_at, events_below}
use Rattle.domain_world.specs.Working.{IsTurn, turn_event, turns_at, Worked, AreNumbered, AllWorked}
use Rattle.domain_world.proofs.Lists.{get_push, get_front, get_last}
use Rattle.domain_world.proofs.Standing.{other_ap, below_at}
use Rattle.domain_world.proofs.Played.{happens_joined, low_joined}
use Rattle.domain_world.proofs.Workers.{same_history, grown_joined, joined_append, worked_stands, worked_follows, worked_short, worked_moment, worked_right, AtAllMoments}

-- ---- whose acts they are

worked_nodes : (d : Domain) (a : ℕ) (es : List Turn) (s t : ApState) (old new : List HolderEvent) (ps : List Part) → Worked d a es s t old new ps → AllByRecursion (λ (p : Part). p.node ≡ Ap a) ps
unfolding Worked
worked_nodes d a [] s t old new [] w = tt
worked_nodes d a [] s t old new (p ∷ ps) w = absurd w
worked_nodes d a (e ∷ es) s t old new [] w = absurd w
worked_nodes d a (e ∷ es) s t old new (p ∷ ps) w = (w.6, worked_nodes d a es w.0 t w.2 new ps w.8)

-- at one of the first n access points
abbrev pub AtFirst : ℕ → List Part → Type 0
AtFirst n parts = AllByRecursion (λ (p : Part). (k : ℕ) × (k < n) × (p.node ≡ Ap k)) parts

first_more : (n : ℕ) (front mine : List Part) → AtFirst n front → AllByRecursion (λ (p : Part). p.node ≡ Ap n) mine → AtFirst (suc n) (front ++ mine)
first_more n [] [] a b = tt
first_more n [] (p ∷ mine) a b = ((n, omega arith, b.0), first_more n [] mine tt b.1)
first_more n (p ∷ front) mine a b = ((a.0.0, omega (arith, a.0.1), a.0.2), first_more n front mine a.1 b)

all_first : (d : Domain) (n : ℕ) (ts : List Turn) (old new : List HolderEvent) (aps back : List ApState) (parts : List Part) → AllWorked d n ts old new aps back parts → AtFirst n parts
unfolding AllWorked
all_first d zero ts old new aps back parts w = subst (AtFirst 0) (sym w.2) tt
all_first d (suc n) ts old new aps back parts w =
    subst (AtFirst (suc n)) (sym w.8) (first_more n w.4 w.5 (all_first d n ts old new w.2 w.3 w.4 w.9) (worked_nodes d n (turns_at n ts) w.0 w.1 old new w.5 w.10))

all_count : (d : Domain) (n : ℕ) (ts : List Turn) (old new : List HolderEvent) (aps back : List ApState) (parts : List Part) → AllWorked d n ts old new aps back parts → (length aps ≡ n) × (length back ≡ n)
unfolding AllWorked
all_count d zero ts old new aps back parts w = (ap length w.0, ap length w.1)
all_count d (suc n) ts old new aps back parts w =
    let rest = all_count d n ts old new w.2 w.3 w.4 w.9 in
    (omega (arith, ap length w.6, length-append w.2 (w.0 ∷ []), rest.0), omega (arith, ap length w.7, length-append w.3 (w.1 ∷ []), rest.1))

history_joined : (round : ℕ) (m : Node) (parts : List Part) (j : List Entry) → AllByRecursion (λ (p : Part). same m p.node ≡ false) parts → history m (joined round parts j) ≡ history m j
history_joined round m [] j all = refl
history_joined round m (p ∷ parts) j all = history_joined round m parts (push round p.node p.out.acts j) all.1 ∙ history-other round p.node m p.out.acts j all.0

others_first : (n a : ℕ) (parts : List Part) → n ≤ a → AtFirst n parts → AllByRecursion (λ (p : Part). same (Ap a) p.node ≡ false) parts
others_first n a [] low all = tt
others_first n a (p ∷ parts) low all =
    (ap (same (Ap a)) all.0.2 ∙ other_ap a all.0.0 (λ here. omega (arith, here, all.0.1, low)), others_first n a parts low all.1)

others_mine : (n a : ℕ) (parts : List Part) → (a ≡ n → ⊥) → AllByRecursion (λ (p : Part). p.node ≡ Ap n) parts → AllByRecursion (λ (p : Part). same (Ap a) p.node ≡ false) parts
others_mine n a [] other all = tt
others_mine n a (p ∷ parts) other all = (ap (same (Ap a)) all.0 ∙ other_ap a n other, others_mine n a parts other all.1)

no_stations : (n k : ℕ) (parts : List Part) → AtFirst n parts → AllByRecursion (λ (p : Part). same (Sta k) p.node ≡ false) parts
no_stations n k [] all = tt
no_stations n k (p ∷ parts) all = (ap (same (Sta k)) all.0.2, no_stations n k parts all.1)

listed_parts : (d : Domain) (n : ℕ) (parts : List Part) → n ≤ length d.aps → AtFirst n parts → AllByRecursion (λ (p : Part). IsListed d p.node) parts
listed_parts d n [] low all = tt
listed_parts d n (p ∷ parts) low all = (subst (IsListed d) (sym all.0.2) (omega (arith, all.0.1, low)), listed_parts d n parts low all.1)

-- ---- the events of one access point

events_there : (k : ℕ) (ts : List Turn) → map (λ (t : Turn). t.event.now) (turns_at k ts) ≡ events_at k (map (λ (t : Turn). t.event.now) ts)
events_there k [] = refl
events_there k (t ∷ ts) = by_test (same (Ap k) (node_of t.event.now)) (events_there k ts)
  where
    by_test : (b : Bool) → map (λ (t : Turn). t.event.now) (turns_at k ts) ≡ events_at k (map (λ (t : Turn). t.event.now) ts)
        → map (λ (x : Turn). x.event.now) (cond b (t ∷ turns_at k ts) (turns_at k ts)) ≡ cond b (t.event.now ∷ events_at k (map (λ (x : Turn). x.event.now) ts)) (events_at k (map (λ (x : Turn). x.event.now) ts))
    by_test true is = ap (λ (es : List Event). t.event.now ∷ es) is
    by_test false is = is

abbrev pub HappenAll : ℕ → ℕ → List Entry → List Turn → Type 0
HappenAll round k i ts = AllByRecursion (λ (e : Turn). HappensAt e.event.now i round (Ap k) (turn_event e)) ts

happen_there : (d : Domain) (round k : ℕ) (front : List Part) (j : List Entry) (ts : List Turn) → AllByRecursion (IsTurn d j round) ts → HappenAll round k (joined round front j) (turns_at k ts)
happen_there d round k front j [] all = tt
happen_there d round k front j (t ∷ ts) all = by_test (same (Ap k) (node_of t.event.now)) refl (happen_there d round k front j ts all.1)
  where
    by_test : (b : Bool) → same (Ap k) (node_of t.event.now) ≡ b → HappenAll round k (joined round front j) (turns_at k ts) → HappenAll round k (joined round front j) (cond b (t ∷ turns_at k ts) (turns_at k ts))
    by_test true is rest = (happens_joined t.event.now round (Ap k) (turn_event t) round front j (subst (λ (n : Node). HappensAt t.event.now j round n (turn_event t)) (sym (same-true (Ap k) (node_of t.event.now) is)) all.0.0), rest)
    by_test false is rest = rest

-- none of them changes keys
still_there : (round k : ℕ) (i : List Entry) (ts : List Turn) → HappenAll round k i ts → AllByRecursion (λ (e : Turn). changes (turn_event e) ≡ false) ts
still_there round k i [] all = tt
still_there round k i (t ∷ ts) all = ((happens_still t.event.now i round (Ap k) (turn_event t) all.0).1, still_there round k i ts all.1)

steps_on : (d : Domain) (round : ℕ) (es fs : List Event) (i j k : List Entry) → InTurn d round es i j → InTurn d round fs j k → InTurn d round (es ++ fs) i k
steps_on d round [] fs i j k a b = subst (λ (l : List Entry). InTurn d round fs l k) a b
steps_on d round (e ∷ es) fs i j k a b = (a.0, (a.1.0, steps_on d round es fs a.0 j k a.1.1 b))

-- ---- all workers

module _ (d : Domain) (round : ℕ) (ts : List Turn) (old new : List HolderEvent) (j : List Entry) where
  -- each stands for its part of the journal before the round
  abbrev pub AllStand : List ApState → Type 0
  AllStand aps = (k : ℕ) (s : ApState) → slice_get aps k ≡ Some s → ApStands d 0 s (held_at k old) (history (Ap k) j)

  front_stand : (before : List ApState) (s : ApState) (aps : List ApState) → aps ≡ before ++ s ∷ [] → AllStand aps → AllStand before
  front_stand before s aps is all k x at = all k x (subst (λ (l : List ApState). slice_get l k ≡ Some x) (sym is) (get_front before (s ∷ []) k x at))

  front_numbered : (before : List ApState) (s : ApState) (aps : List ApState) → aps ≡ before ++ s ∷ [] → AreNumbered aps → AreNumbered before
  front_numbered before s aps is all k x at = all k x (subst (λ (l : List ApState). slice_get l k ≡ Some x) (sym is) (get_front before (s ∷ []) k x at))

  last_at : (n : ℕ) (before : List ApState) (s : ApState) (aps : List ApState) → aps ≡ before ++ s ∷ [] → length before ≡ n → slice_get aps n ≡ Some s
  last_at n before s aps is count = ap (λ (l : List ApState). slice_get l n) is ∙ ap (slice_get (before ++ s ∷ [])) (sym count) ∙ get_last before s

  last_stand : (n : ℕ) (before : List ApState) (s : ApState) (aps : List ApState) (front : List Part) → aps ≡ before ++ s ∷ [] → length before ≡ n → AllStand aps → AtFirst n front
      → ApStands d 0 s (held_at n old) (history (Ap n) (joined round front j))
  last_stand n before s aps front is count all first =
      subst (ApStands d 0 s (held_at n old)) (sym (history_joined round (Ap n) front j (others_first n n front (omega arith) first))) (all n s (last_at n before s aps is count))

  pub all_stand : (n : ℕ) (aps back : List ApState) (parts : List Part) → AllWorked d n ts old new aps back parts → AllStand aps
      → (k : ℕ) (t : ApState) → slice_get back k ≡ Some t → ApStands d 0 t (held_at k new) (history (Ap k) (joined round parts j))
  unfolding AllWorked
  all_stand zero aps back parts w all k t at = let none : slice_get [] k ≡ Some t = subst (λ (l : List ApState). slice_get l k ≡ Some t) w.1 at in absurd (cc)
  all_stand (suc n) aps back parts w all k t at =
      let count = all_count d n ts old new w.2 w.3 w.4 w.9 in
      let first = all_first d n ts old new w.2 w.3 w.4 w.9 in
      let whole : joined round parts j ≡ joined round w.5 (joined round w.4 j) = ap (λ (ps : List Part). joined round ps j) w.8 ∙ joined_append round w.4 w.5 j in
      subst (λ (l : List Entry). ApStands d 0 t (held_at k new) (history (Ap k) l)) (sym whole)
      (elim (get_push w.3 k w.1 t (subst (λ (l : List ApState). slice_get l k ≡ Some t) w.7 at)) [
        | inl here ↦
            let is : k ≡ n = here.0 ∙ count.1 in
            subst (λ i. ApStands d 0 t (held_at i new) (history (Ap i) (joined round w.5 (joined round w.4 j)))) (sym is)
            (subst (λ (x : ApState). ApStands d 0 x (held_at n new) (history (Ap n) (joined round w.5 (joined round w.4 j)))) (sym here.1)
            (worked_stands d n round (turns_at n ts) w.0 w.1 old new w.5 (joined round w.4 j) w.10 (last_stand n w.2 w.0 aps w.4 w.6 count.0 all first)))
        | inr there ↦
            let low : k < n = omega (arith, slice_get_within w.3 k t there, count.1) in
            let mine = others_mine n k w.5 (λ (is : k ≡ n). omega (arith, is, low)) (worked_nodes d n (turns_at n ts) w.0 w.1 old new w.5 w.10) in
            subst (ApStands d 0 t (held_at k new)) (sym (history_joined round (Ap k) w.5 (joined round w.4 j) mine))
            (all_stand n w.2 w.3 w.4 w.9 (front_stand w.2 w.0 aps w.6 all) k t there)
      ])

  pub all_follow : (n : ℕ) (aps back : List ApState) (parts : List Part) → AllWorked d n ts old new aps back parts → AllStand aps → AllByRecursion (IsTurn d j round) ts
      → InTurn d round (events_below n (map (λ (t : Turn). t.event.now) ts)) j (joined round parts j)
  unfolding AllWorked
  all_follow zero aps back parts w all turns = ap (λ (ps : List Part). joined round ps j) w.2
  all_follow (suc n) aps back parts w all turns =
      let count = all_count d n ts old new w.2 w.3 w.4 w.9 in
      let first = all_first d n ts old new w.2 w.3 w.4 w.9 in
      let events = map (λ (t : Turn). t.event.now) ts in
      let whole : joined round parts j ≡ joined round w.5 (joined round w.4 j) = ap (λ (ps : List Part). joined round ps j) w.8 ∙ joined_append round w.4 w.5 j in
      let one = worked_follows d n round (turns_at n ts) w.0 w.1 old new w.5 (joined round w.4 j) (happen_there d round n w.4 j ts turns) w.10 (last_stand n w.2 w.0 aps w.4 w.6 count.0 all first) in
      subst (InTurn d round (events_below (suc n) events) j) (sym whole)
      (steps_on d round (events_below n events) (events_at n events) j (joined round w.4 j) (joined round w.5 (joined round w.4 j)) (all_follow n w.2 w.3 w.4 w.9 (front_stand w.2 w.0 aps w.6 all) turns)
      (subst (λ (es : List Event). InTurn d round es (joined round w.4 j) (joined round w.5 (joined round w.4 j))) (events_there n ts) one))

  pub all_moment : (n : ℕ) (aps back : List ApState) (parts : List Part) → AllWorked d n ts old new aps back parts → AllStand aps → AreNumbered aps → UpTo round j → (at : List HolderEvent) → Follows old at → Follows at new
      → (r : ℕ) → r < n → (name : List ℕ) (k : ℕ) → k < length d.stas → Moment d r (held_at r at) name k round (joined round parts j)
  unfolding AllWorked
  all_moment zero aps back parts w all numbers up at f g r low name k listed = absurd (omega (arith, low))
  all_moment (suc n) aps back parts w all numbers up at f g r low name k listed =
      let count = all_count d n ts old new w.2 w.3 w.4 w.9 in
      let first = all_first d n ts old new w.2 w.3 w.4 w.9 in
      let whole : joined round parts j ≡ joined round w.5 (joined round w.4 j) = ap (λ (ps : List Part). joined round ps j) w.8 ∙ joined_append round w.4 w.5 j in
      subst (Moment d r (held_at r at) name k round) (sym whole)
      (elim (cases_lt r n) [
        | inl less ↦ moment_grown d r (held_at r at) name k round (joined round w.4 j) (joined round w.5 (joined round w.4 j)) (grown_joined round w.5 (joined round w.4 j))
            (all_moment n w.2 w.3 w.4 w.9 (front_stand w.2 w.0 aps w.6 all) (front_numbered w.2 w.0 aps w.6 numbers) up at f g r less name k listed)
        | inr more ↦
            let is : n ≡ r = omega (arith, low, more) in
            subst (λ i. Moment d i (held_at i at) name k round (joined round w.5 (joined round w.4 j))) is
            (worked_moment d n round name k (turns_at n ts) w.0 w.1 old new at w.5 (joined round w.4 j) listed (low_joined round w.4 j up) (numbers n w.0 (last_at n w.2 w.0 aps w.6 count.0)) w.10
            (last_stand n w.2 w.0 aps w.4 w.6 count.0 all first) f g)
      ])

  pub all_right : (c : Domain) (whole : List Entry) (n : ℕ) (aps back : List ApState) (parts : List Part) → AllWorked d n ts old new aps back parts → AllStand aps → AreNumbered aps → IsNamed d → present c (earlier round whole) ≡ d → AtAllMoments d 0 round old new whole → AllInTime c whole j
      → AllInTime c whole (joined round parts j)
  unfolding AllWorked
  all_right c whole zero aps back parts w all numbers names still moments before = subst (λ (ps : List Part). AllInTime c whole (joined round ps j)) (sym w.2) before
  all_right c whole (suc n) aps back parts w all numbers names still moments before =
      let count = all_count d n ts old new w.2 w.3 w.4 w.9 in
      let first = all_first d n ts old new w.2 w.3 w.4 w.9 in
      let rest = all_right c whole n w.2 w.3 w.4 w.9 (front_stand w.2 w.0 aps w.6 all) (front_numbered w.2 w.0 aps w.6 numbers) names still moments before in
      let is : joined round parts j ≡ joined round w.5 (joined round w.4 j) = ap (λ (ps : List Part). joined round ps j) w.8 ∙ joined_append round w.4 w.5 j in
      subst (AllInTime c whole) (sym is)
      (worked_right d n round old new whole c (turns_at n ts) w.0 w.1 old new w.5 (joined round w.4 j) names still moments (numbers n w.0 (last_at n w.2 w.0 aps w.6 count.0)) w.10 (last_stand n w.2 w.0 aps w.4 w.6 count.0 all first)
      (same_history old) (same_history new) rest)

  short_append : (stas : ℕ) (front mine : List Part) → AreShort stas front → AreShort stas mine → AreShort stas (front ++ mine)
  short_append stas [] mine a b = b
  short_append stas (p ∷ front) mine a b = (a.0, short_append stas front mine a.1 b)

  pub all_short : (n : ℕ) (aps back : List ApState) (parts : List Part) → AllByRecursion (IsTurn d j round) ts → AllWorked d n ts old new aps back parts → AllStand aps → AreShort (length d.stas) parts
  unfolding AllWorked
  all_short zero aps back parts turns w all = subst (AreShort (length d.stas)) (sym w.2) tt
  all_short (suc n) aps back parts turns w all =
      let count = all_count d n ts old new w.2 w.3 w.4 w.9 in
      let first = all_first d n ts old new w.2 w.3 w.4 w.9 in
      subst (AreShort (length d.stas)) (sym w.8)
      (short_append (length d.stas) w.4 w.5 (all_short n w.2 w.3 w.4 turns w.9 (front_stand w.2 w.0 aps w.6 all))
      (worked_short d n round (turns_at n ts) w.0 w.1 old new w.5 (joined round w.4 j) (still_there round n (joined round w.4 j) (turns_at n ts) (happen_there d round n w.4 j ts turns)) w.10 (last_stand n w.2 w.0 aps w.4 w.6 count.0 all first)))

-- ---- the round

-- the nodes behind the round
abbrev pub with_aps : Nodes → List ApState → List HolderEvent → Nodes
with_aps n back seen = record { domain = n.domain; aps = back; stas = n.stas; rows = rows_below (length back) seen }

pub round_played : (n : Nodes) (round : ℕ) (ts : List Turn) (old new : List HolderEvent) (back : List ApState) (parts : List Part) (j : List Entry) → InForm n.domain → AreListed n → n.rows ≡ rows_below (length n.aps) old → AllWorked n.domain (length n.aps) ts old new n.aps back parts
    → Stand n j → Below round j → AllByRecursion (IsTurn n.domain j round) ts
    → Played round (events_below (length n.domain.aps) (map (λ (t : Turn). t.event.now) ts)) j n (with_aps n back new) parts
round_played n round ts old new back parts j form listed rows worked stand low_j turns =
    let d = n.domain in
    let up = below_up round j low_j in
    let k = length n.aps in
    let whole = joined round parts j in
    let first = all_first d k ts old new n.aps back parts worked in
    let count = all_count d k ts old new n.aps back parts worked in
    let all : AllStand d round ts old new j n.aps = λ i s at.
    (let low = slice_get_within n.aps i s at in
    subst (λ (xs : List HeldRow). ApStands d 0 s xs (history (Ap i) j)) (ap (λ (l : List (List HeldRow)). rows_at l i) rows ∙ below_at k i old low) (stand.aps i s at)) in
    let moments : AtAllMoments d 0 round old new whole = λ at f g r low name i there. all_moment d round ts old new j k n.aps back parts worked all listed.aps up at f g r (omega (arith, low, listed.count_aps)) name i there in
    record {
      follows = subst (λ m. InTurn d round (events_below m (map (λ (t : Turn). t.event.now) ts)) j whole) listed.count_aps (all_follow d round ts old new j k n.aps back parts worked all turns);
      stand = record {
        aps = λ i t at.
            (let low = slice_get_within back i t at in
            subst (λ (xs : List HeldRow). ApStands d 0 t xs (history (Ap i) whole)) (sym (below_at (length back) i new low)) (all_stand d round ts old new j k n.aps back parts worked all i t at));
        stas = λ i t at. subst (StationStands d 0 t) (sym (history_joined round (Sta i) parts j (no_stations k i parts first))) (stand.stas i t at);
      };
      right = λ c is right.
          all_right d round ts old new j c whole k n.aps back parts worked all listed.aps (named d form) (now_grown c round j whole (grown_joined round parts j) low_j ∙ is) moments
          (right_grown c round j whole (grown_joined round parts j) up right);
      listed = listed_parts d k parts (omega (arith, listed.count_aps)) first;
      domain = refl;
      count = refl;
      short = subst (λ m. AreShort m parts) (sym listed.count_stas) (all_short d round ts old new j k n.aps back parts turns worked all);
    }

-- What an event at a node does to all nodes.
use Rattle.run_journal.specs.declared.domain.Domain.{Domain}
use Rattle.std.proofs.Common.{◌≡◌, ◌≢◌, ℕ, zero, suc, ◌<◌, length, List, [], ◌∷◌, ◌++◌, Some, refl, sym, ap, subst, ◌∙◌, arith, inl, inr}
use Rattle.std.specs.Prelude.{slice_index_or, slice_get, slice_set}
use Rattle.std.proofs.lemmas.List.{length-set}
use Rattle.std.proofs.lemmas.Bool.Decides.{eqb_tells}
use Rattle.domain_base.specs.declared.names.Node.TheVariants.{Ap, Sta}
use Rattle.key_holders.specs.declared.rows.HeldRow.{HeldRow}
use Rattle.key_holders.specs.Listed.{rows_at}
use Rattle.run_journal.specs.declared.acts.Act.{Act}
use Rattle.run_journal.specs.declared.acts.Outcome.{Outcome}
use Rattle.run_journal.specs.declared.acts.Entry.{Entry}
use Rattle.run_journal.specs.Questions.{history, add}
use Rattle.domain_rules.specs.Network.{InForm}
use Rattle.domain_rules.proofs.Peers.{named}
use Rattle.domain_rules.proofs.Journals.{history-push}
use Rattle.domain_rules.specs.HeldRight.{AnsweredInTime}
use Rattle.domain_rules.specs.Rows.{NodeEvent, Adds}
use Rattle.domain_rules.specs.Explained.{push}
use Rattle.domain_rules.specs.Here.{here}
use Rattle.held_rows.specs.Knows.{KnowsRows}
use Rattle.held_rows.proofs.NoLooks.{station_no_looks}
use Rattle.domain_world.proofs.Moments.{Below, below_up, Moment, moment_now, moment_grown, AllMoments, grown_push, right_grown, now_grown, right_asked, right_unasked}
use Rattle.node_base.specs.Events.{Steps, seen}
use Rattle.holder_table.specs.declared.history.HolderEvent.{HolderEvent}
use Rattle.holder_table.specs.Histories.{held_at}
use Rattle.station_node.specs.State.{State as StationState}
use Rattle.station_node.specs.Stands.{Stands as StationStands}
use Rattle.ap_node.specs.State.{State as ApState}
use Rattle.ap_node.specs.Stands.{StandsWith as ApStands}
use Rattle.domain_world.specs.State.{Nodes, rows_below}
use Rattle.domain_world.specs.Owning.{AreListed, Stand}
use Rattle.domain_rules.specs.Present.{present}
use Rattle.domain_world.specs.Acting.{Acted}
use Rattle.domain_world.specs.Working.{Turned, Turns}
use Rattle.domain_world.proofs.Standing.{with_ap_node, with_station_node, at_ap, at_sta, stand_ap, stand_sta, below_same, below_at}
use Rattle.domain_world.proofs.Workers.{looks_both}
use Rattle.domain_world.proofs.Played.{low_push}

got_within : {A : Type 0} (xs : List A) (r : ℕ) → r < length xs → (x : A) × (slice_get xs r ≡ Some x)
got_within [] r low = absurd (omega arith)
got_within (x ∷ xs) zero low = (x, refl)
got_within (x ∷ xs) (suc r) low = got_within xs r (omega arith)

-- each key holder has the rows of its history
all_know : (n : Nodes) (old : List HolderEvent) (j : List Entry) → AreListed n → n.rows ≡ rows_below (length n.aps) old → Stand n j → (r : ℕ) → r < length n.domain.aps → KnowsRows n.domain (Ap r) (held_at r old) (history (Ap r) j)
all_know n old j is rows stand r low =
    let within : r < length n.aps = omega (arith, low, is.count_aps) in
    let read = got_within n.aps r within in
    let number : read.0.number ≡ r = is.aps r read.0 read.1 in
    subst (λ (xs : List HeldRow). KnowsRows n.domain (Ap r) xs (history (Ap r) j)) (ap (λ (l : List (List HeldRow)). rows_at l r) rows ∙ below_at (length n.aps) r old within)
    (subst (λ k. KnowsRows n.domain (Ap k) (rows_at n.rows r) (history (Ap r) j)) number (stand.aps r read.0 read.1).rows)

-- beside those of access point k all rows are as they were
abbrev pub LeavesAll : Nodes → ℕ → List HolderEvent → List HolderEvent → Type 0
LeavesAll n k old new = (r : ℕ) → r ≢ k → r < length n.domain.aps → held_at r new ≡ held_at r old

set_same : (xs : List ApState) (k : ℕ) (x : ApState) → x ≡ slice_index_or xs k x → slice_set xs k x ≡ xs
set_same [] k x is = refl
set_same (y ∷ xs) zero x is = ap (λ (z : ApState). z ∷ xs) is
set_same (y ∷ xs) (suc k) x is = ap (λ (l : List ApState). y ∷ l) (set_same xs k x is)

-- where a step fails all is as it was
pub unchanged : (n : Nodes) (old new : List HolderEvent) (k : ℕ) (s t : ApState) → AreListed n → n.rows ≡ rows_below (length n.aps) old → s ≡ slice_index_or n.aps k s → t ≡ s → LeavesAll n k old new → held_at k new ≡ held_at k old
    → with_ap_node n k t (rows_below (length (slice_set n.aps k t)) new) ≡ n
unchanged n old new k s t listed rows at same leaves own =
    let aps : slice_set n.aps k t ≡ n.aps = ap (slice_set n.aps k) same ∙ set_same n.aps k s at in
    let held : rows_below (length n.aps) new ≡ n.rows = below_same (length n.aps) old new (λ r low. elim (eqb_tells r k) [
      | inl is ↦ ap (λ i. held_at i new) is.1 ∙ own ∙ ap (λ i. held_at i old) (sym is.1)
      | inr other ↦ leaves r other.1 (omega (arith, low, listed.count_aps))
    ]) ∙ sym rows in
    ap (λ (l : List ApState). record { domain = n.domain; aps = l; stas = n.stas; rows = rows_below (length l) new }) aps
    ∙ ap (λ (l : List (List HeldRow)). record { domain = n.domain; aps = n.aps; stas = n.stas; rows = l }) held

module _ (n : Nodes) (old new : List HolderEvent) (k : ℕ) (s t : ApState) (event : NodeEvent) (g : List Act) (j : List Entry) where
  -- what it asked is answered rightly
  right_ap : InForm n.domain → AreListed n → n.rows ≡ rows_below (length n.aps) old → k < length n.domain.aps → t.number ≡ k → LeavesAll n k old new → Stand n j → Turns n.domain k event t old new g (history (Ap k) j)
      → (round : ℕ) → Below round j → (c : Domain) → present c j ≡ n.domain → AnsweredInTime c j → AnsweredInTime c (push round (Ap k) g j)
  right_ap form listed rows low number leaves stand now round low_j c is right =
      let d = n.domain in
      let up = below_up round j low_j in
      let whole = push round (Ap k) g j in
      let know = all_know n old j listed rows stand in
      let there : KnowsRows d (Ap k) (held_at k new) (history (Ap k) whole) =
      subst (KnowsRows d (Ap k) (held_at k new)) (sym (history-push round (Ap k) g j)) (subst (λ i. KnowsRows d (Ap i) (held_at k new) (add g (history (Ap k) j))) number now.stands.rows) in
      let moments : AllMoments d (λ r. held_at r new) round whole = λ r listed_r name i low_i. elim (eqb_tells r k) [
        | inl is ↦ subst (λ m. Moment d m (held_at m new) name i round whole) (sym is.1) (moment_now d k (held_at k new) name i round whole low_i (low_push round (Ap k) g j up) there)
        | inr other ↦ subst (λ (xs : List HeldRow). Moment d r xs name i round whole) (sym (leaves r other.1 listed_r))
            (moment_grown d r (held_at r old) name i round j whole (grown_push round (Ap k) g j) (moment_now d r (held_at r old) name i round j low_i up (know r listed_r)))
      ] in
      right_asked c d k round (λ r. held_at r old) (λ r. held_at r new) whole g j (named d form) (now_grown c round j whole (grown_push round (Ap k) g j) low_j ∙ is) moments (know k low) (looks_both d k old new g now.looks) (right_grown c round j whole (grown_push round (Ap k) g j) up right)

  pub acted_ap : InForm n.domain → AreListed n → n.rows ≡ rows_below (length n.aps) old → k < length n.domain.aps → s ≡ slice_index_or n.aps k s → t.number ≡ s.number → Turned n.domain s.number event s t old new g → LeavesAll n s.number old new → Stand n j
      → Acted (Ap k) event j n (with_ap_node n k t (rows_below (length (slice_set n.aps k t)) new)) g
  acted_ap form listed rows low here same turned leaves stand =
      let d = n.domain in
      let at = at_ap n k s listed low here in
      let number = listed.aps k s at in
      let within : k < length n.aps = omega (arith, low, listed.count_aps) in
      let first : ApStands d 0 s (held_at k old) (history (Ap k) j) = subst (λ (xs : List HeldRow). ApStands d 0 s xs (history (Ap k) j)) (ap (λ (l : List (List HeldRow)). rows_at l k) rows ∙ below_at (length n.aps) k old within) (stand.aps k s at) in
      let one = subst (λ i. Turned d i event s t old new g) number turned in
      let others = subst (λ i. LeavesAll n i old new) number leaves in
      let now = one.turns (history (Ap k) j) first in
      let behind = rows_below (length (slice_set n.aps k t)) new in
      let reads : (r : ℕ) → r < length d.aps → rows_at behind r ≡ held_at r new = λ r listed_r. below_at (length (slice_set n.aps k t)) r new (omega (arith, listed_r, listed.count_aps, length-set n.aps k t)) in
      record {
        adds = now.adds;
        stand = λ round. stand_ap n k t behind g j stand (subst (λ (xs : List HeldRow). ApStands d 0 t xs (add g (history (Ap k) j))) (sym (reads k low)) now.stands)
            (λ r listed_r other. reads r listed_r ∙ others r other listed_r ∙ sym (ap (λ (l : List (List HeldRow)). rows_at l r) rows ∙ below_at (length n.aps) r old (omega (arith, listed_r, listed.count_aps)))) listed round;
        right = right_ap form listed rows low (same ∙ number) others stand now;
      }

pub acted_sta : (old : Nodes) (k : ℕ) (s t : StationState) (event : NodeEvent) (waited waits : List Act) (outcome : Outcome) (j : List Entry) → AreListed old → k < length old.domain.stas → s ≡ slice_index_or old.stas k s → waited ≡ []
    → ((first : ℕ) (h : List Act) → StationStands old.domain first s h → Steps (here old.domain first (Sta s.number)) event (StationStands old.domain first t) h (seen waited waits outcome))
    → Stand old j → Acted (Sta k) event j old (with_station_node old k t) waits
acted_sta old k s t event waited waits outcome j listed low stands empty steps is =
    let at = at_sta old k s listed low stands in
    let number = listed.stas k s at in
    let h = history (Sta k) j in
    let done = steps 0 h (is.stas k s at) in
    let acts : done.acts ≡ waits = sym (done.waiting ∙ ap (λ (l : List Act). l ++ done.acts) empty) in
    let adds : Adds (here old.domain 0 (Sta k)) h event done.acts = subst (λ (i : ℕ). Adds (here old.domain 0 (Sta i)) h event done.acts) number done.adds in
    let says = subst (Adds (here old.domain 0 (Sta k)) h event) acts adds in
    record {
      adds = says;
      stand = λ round. subst (λ (g : List Act). Stand (with_station_node old k t) (push round (Sta k) g j)) acts (stand_sta old k t done.acts j is done.stands round);
      right = λ round low_j c present_is right.
          (let whole = push round (Sta k) waits j in
          right_unasked c round (Sta k) waits whole j (station_no_looks old.domain 0 k h event waits says) (right_grown c round j whole (grown_push round (Sta k) waits j) (below_up round j low_j) right));
    }

-- Nodes where one takes an event, with one node more, and as they were.
use Rattle.std.proofs.Common.{◌≡◌, Bool, ℕ, zero, suc, ◌<◌, ◌≤◌, Result, Ok, Err, OnErr, inl, inr, List, [], ◌∷◌, ◌++◌, length, Option, Some, None, refl, sym, ap, subst, ◌∙◌, arith, length-append}
use Rattle.std.specs.Prelude.{slice_get, slice_index_or, slice_set}
use Rattle.domain_base.specs.declared.names.Mac.{Mac}
use Rattle.domain_base.specs.declared.names.Node.{Node}
use Rattle.domain_base.specs.declared.names.Node.TheVariants.{Ap, Sta}
use Rattle.key_holders.specs.declared.rows.HeldRow.{HeldRow}
use Rattle.run_journal.specs.declared.domain.Domain.{Domain}
use Rattle.run_journal.specs.declared.domain.ListedAp.{ListedAp}
use Rattle.run_journal.specs.declared.domain.ListedSta.{ListedSta}
use Rattle.run_journal.specs.declared.domain.Event.{Event}
use Rattle.run_journal.specs.declared.acts.Act.{Act}
use Rattle.run_journal.specs.declared.acts.Entry.{Entry}
use Rattle.run_journal.specs.declared.domain.Extras.{Extras}
use Rattle.run_journal.specs.Listing.{with_ap, with_sta}
use Rattle.run_journal.specs.Events.{IsListed}
use Rattle.domain_rules.specs.Rows.{NodeEvent}
use Rattle.node_base.specs.Events.{IsEventAt}
use Rattle.holder_table.specs.declared.history.HolderEvent.{HolderEvent}
use Rattle.station_node.specs.State.{State as StationState}
use Rattle.ap_node.specs.State.{State as ApState}
use Rattle.domain_world.specs.declared.shared.Shared.{Shared}
use Rattle.domain_world.specs.State.{State, Nodes, rows_below}
use Rattle.domain_world.specs.Holding.{seen_of, HoldersFit}
use Rattle.domain_world.specs.Owning.{AreListed, Stand, Places, IsOneIn, Owns, nodes_of}
use Rattle.domain_world.proofs.Lists.{get_push}
use Rattle.domain_world.proofs.Standing.{listed_sta, at_ap, at_sta}

-- ---- one of the nodes, by its number; the nodes are as they are inside, and as contracts see them

pub below_ap : (n m : Nodes) (k : ℕ) (node : Node) → n ≡ m → Ap k ≡ node → IsListed m.domain node → k < length n.domain.aps
below_ap n m k node view is listed = subst (λ (x : Nodes). k < length x.domain.aps) (sym view) (subst (IsListed m.domain) (sym is) listed)

pub number_ap : (n : Nodes) (k : ℕ) (s : ApState) → AreListed n → k < length n.domain.aps → s ≡ slice_index_or n.aps k s → s.number ≡ k
number_ap n k s listed low here = listed.aps k s (at_ap n k s listed low here)

pub low_ap : (n : Nodes) (k : ℕ) (s : ApState) → AreListed n → k < length n.domain.aps → s ≡ slice_index_or n.aps k s → s.number < length n.domain.aps
low_ap n k s listed low here = subst (λ x. x < length n.domain.aps) (sym (number_ap n k s listed low here)) low

pub event_ap : (n m : Nodes) (k : ℕ) (s : ApState) (node : Node) (event : NodeEvent) → n ≡ m → Ap k ≡ node → s.number ≡ k → IsEventAt m.domain node event → IsEventAt n.domain (Ap s.number) event
event_ap n m k s node event view is number may =
    subst (λ x. IsEventAt n.domain (Ap x) event) (sym number) (subst (λ (x : Nodes). IsEventAt x.domain (Ap k) event) (sym view) (subst (λ (x : Node). IsEventAt m.domain x event) (sym is) may))

pub below_sta : (n m : Nodes) (k : ℕ) (node : Node) → n ≡ m → Sta k ≡ node → IsListed m.domain node → k < length n.domain.stas
below_sta n m k node view is listed = subst (λ (x : Nodes). k < length x.domain.stas) (sym view) (subst (IsListed m.domain) (sym is) listed)

pub number_sta : (n : Nodes) (k : ℕ) (s : StationState) → AreListed n → k < length n.domain.stas → s ≡ slice_index_or n.stas k s → s.number ≡ k
number_sta n k s listed low here = listed.stas k s (at_sta n k s listed low here)

pub low_sta : (n : Nodes) (k : ℕ) (s : StationState) → AreListed n → k < length n.domain.stas → s ≡ slice_index_or n.stas k s → s.number < length n.domain.stas
low_sta n k s listed low here = subst (λ x. x < length n.domain.stas) (sym (number_sta n k s listed low here)) low

pub event_sta : (n m : Nodes) (k : ℕ) (s : StationState) (node : Node) (event : NodeEvent) → n ≡ m → Sta k ≡ node → s.number ≡ k → IsEventAt m.domain node event → IsEventAt n.domain (Sta s.number) event
event_sta n m k s node event view is number may =
    subst (λ x. IsEventAt n.domain (Sta x) event) (sym number) (subst (λ (x : Nodes). IsEventAt x.domain (Sta k) event) (sym view) (subst (λ (x : Node). IsEventAt m.domain x event) (sym is) may))

-- where a station took one
abbrev pub with_station : Nodes → ℕ → StationState → List (List HeldRow) → Nodes
with_station n k t rows = record { domain = n.domain; aps = n.aps; stas = slice_set n.stas k t; rows = rows }

pub station_listed : (n : Nodes) (k : ℕ) (s t : StationState) (rows : List (List HeldRow)) → AreListed n → k < length n.domain.stas → s ≡ slice_index_or n.stas k s → t.number ≡ s.number → AreListed (with_station n k t rows)
station_listed n k s t rows listed low here same =
    let all = listed_sta n k t listed (same ∙ number_sta n k s listed low here) in
    record { count_aps = all.count_aps; count_stas = all.count_stas; aps = all.aps; stas = all.stas }

set_same : (xs : List StationState) (k : ℕ) (x : StationState) → x ≡ slice_index_or xs k x → slice_set xs k x ≡ xs
set_same [] k x is = refl
set_same (y ∷ xs) zero x is = ap (λ (z : StationState). z ∷ xs) is
set_same (y ∷ xs) (suc k) x is = ap (λ (l : List StationState). y ∷ l) (set_same xs k x is)

pub station_same : (n m : Nodes) (k : ℕ) (s t : StationState) (rows : List (List HeldRow)) → n ≡ m → s ≡ slice_index_or n.stas k s → rows ≡ n.rows → t ≡ s → with_station n k t rows ≡ m
station_same n m k s t rows view here held same =
    ap (λ (l : List StationState). record { domain = n.domain; aps = n.aps; stas = l; rows = rows }) (ap (slice_set n.stas k) same ∙ set_same n.stas k s here)
    ∙ ap (λ (l : List (List HeldRow)). record { domain = n.domain; aps = n.aps; stas = n.stas; rows = l }) held ∙ view

-- ---- one node more

-- the network, with these nodes listed
abbrev pub with_lists : Domain → List ListedAp → List ListedSta → Domain
with_lists d aps stas = record d { aps = aps; stas = stas }

pub added_ap : (d m : Domain) (address : Mac) (r0kh_id : List ℕ) (l : List ListedAp) → d ≡ m → l ≡ d.aps ++ record { address = address; r0kh_id = r0kh_id } ∷ [] → with_lists d l d.stas ≡ with_ap m address r0kh_id
added_ap d m address r0kh_id l view is = ap (λ (x : List ListedAp). with_lists d x d.stas) is ∙ ap (λ (x : Domain). with_ap x address r0kh_id) view

pub added_sta : (d m : Domain) (address : Mac) (psk : List ℕ) (l : List ListedSta) → d ≡ m → l ≡ d.stas ++ record { address = address; psk = psk } ∷ [] → with_lists d d.aps l ≡ with_sta m address psk
added_sta d m address psk l view is = ap (with_lists d d.aps) is ∙ ap (λ (x : Domain). with_sta x address psk) view

pub one_more : {A : Type 0} (xs ys : List A) (x : A) → ys ≡ xs ++ x ∷ [] → length ys ≡ suc (length xs)
one_more xs ys x is = omega (arith, ap length is, length-append xs (x ∷ []))

-- the last has the number that was next
pub last_low : {A : Type 0} (xs ys : List A) (x : A) (k : ℕ) → ys ≡ xs ++ x ∷ [] → length xs ≡ k → k < length ys
last_low xs ys x k is count = omega (arith, one_more xs ys x is, count)

pub put_alone : (acts waited starts : List Act) → waited ≡ [] → acts ≡ waited ++ starts → acts ≡ starts
put_alone acts waited starts empty put = put ∙ ap (λ (l : List Act). l ++ starts) empty

pub listed_more_sta : (old new : Nodes) (k : ℕ) (s : StationState) → length new.domain.stas ≡ suc (length old.domain.stas) → length new.domain.aps ≡ length old.domain.aps → new.stas ≡ old.stas ++ s ∷ [] → new.aps ≡ old.aps → length old.stas ≡ k
    → s.number ≡ k → AreListed old → AreListed new
listed_more_sta old new k s more same_aps stas aps count number is = record {
  count_aps = ap length aps ∙ is.count_aps ∙ sym same_aps;
  count_stas = omega (arith, ap length stas, length-append old.stas (s ∷ []), is.count_stas, more);
  aps = λ i t at. is.aps i t (subst (λ (l : List ApState). slice_get l i ≡ Some t) aps at);
  stas = λ i t at. elim (get_push old.stas i s t (subst (λ (l : List StationState). slice_get l i ≡ Some t) stas at)) [
    | inl here ↦ ap (λ (x : StationState). x.number) here.1 ∙ number ∙ sym (here.0 ∙ count)
    | inr earlier ↦ is.stas i t earlier
  ];
}

-- a station is none of the key holders'
pub fit_more_sta : (d : Domain) (stas : List ListedSta) (o : Option Shared) → HoldersFit d o → HoldersFit (with_lists d d.aps stas) o
fit_more_sta d stas None fit = tt
fit_more_sta d stas (Some s) fit = fit

-- what a header may have is told of a network alone
pub listed_extra : (d : Domain) (x : Extras) (aps : List ApState) (stas : List StationState) (rows : List (List HeldRow)) → AreListed (record { domain = d; aps = aps; stas = stas; rows = rows }) → AreListed (record { domain = record d { extras = x }; aps = aps; stas = stas; rows = rows })
listed_extra d x aps stas rows is = record { count_aps = is.count_aps; count_stas = is.count_stas; aps = is.aps; stas = is.stas }

-- of no nodes nothing is listed
pub none_listed : {A B : Type 0} (xs : List A) (ys : List B) → length xs ≡ length ys → ys ≡ [] → xs ≡ []
none_listed [] ys count none = refl
none_listed (x ∷ xs) ys count none = absurd (omega (arith, count, ap length none))

-- ---- nodes as they were

pub on_err : {A B : Type 0} (r : Result A B) (P : Type 0) → P → OnErr r P
on_err (Ok a) P is = tt
on_err (Err b) P is = is

abbrev pub Closed : Domain → List ApState → List StationState → Option Shared → Type 0
Closed d aps stas o = AreListed (record { domain = d; aps = aps; stas = stas; rows = rows_below (length aps) (seen_of o) }) × HoldersFit d o

pub ap_before : (d : Domain) (old nodes : List ApState) (stas : List StationState) (h : List HolderEvent) (aps : List ListedAp) (m : Nodes) → record { domain = d; aps = old; stas = stas; rows = rows_below (length old) h } ≡ m → aps ≡ d.aps → nodes ≡ old
    → record { domain = with_lists d aps d.stas; aps = nodes; stas = stas; rows = rows_below (length nodes) h } ≡ m
ap_before d old nodes stas h aps m view listed same =
    let one : List ListedAp → Nodes = λ l. record { domain = with_lists d l d.stas; aps = nodes; stas = stas; rows = rows_below (length nodes) h } in
    let two : List ApState → Nodes = λ l. record { domain = d; aps = l; stas = stas; rows = rows_below (length l) h } in
    ap one listed ∙ ap two same ∙ view

pub ap_closed : (d : Domain) (old nodes : List ApState) (stas : List StationState) (o : Option Shared) (aps : List ListedAp) → aps ≡ d.aps → nodes ≡ old → Closed d old stas o → Closed (with_lists d aps d.stas) nodes stas o
ap_closed d old nodes stas o aps listed same was =
    subst (λ (l : List ListedAp). Closed (with_lists d l d.stas) nodes stas o) (sym listed) (subst (λ (l : List ApState). Closed d l stas o) (sym same) was)

pub sta_before : (d : Domain) (aps : List ApState) (old nodes : List StationState) (h : List HolderEvent) (stas : List ListedSta) (m : Nodes) → record { domain = d; aps = aps; stas = old; rows = rows_below (length aps) h } ≡ m → stas ≡ d.stas → nodes ≡ old
    → record { domain = with_lists d d.aps stas; aps = aps; stas = nodes; rows = rows_below (length aps) h } ≡ m
sta_before d aps old nodes h stas m view listed same =
    let one : List ListedSta → Nodes = λ l. record { domain = with_lists d d.aps l; aps = aps; stas = nodes; rows = rows_below (length aps) h } in
    let two : List StationState → Nodes = λ l. record { domain = d; aps = aps; stas = l; rows = rows_below (length aps) h } in
    ap one listed ∙ ap two same ∙ view

pub sta_closed : (d : Domain) (aps : List ApState) (old nodes : List StationState) (o : Option Shared) (stas : List ListedSta) → stas ≡ d.stas → nodes ≡ old → Closed d aps old o → Closed (with_lists d d.aps stas) aps nodes o
sta_closed d aps old nodes o stas listed same was =
    subst (λ (l : List ListedSta). Closed (with_lists d d.aps l) aps nodes o) (sym listed) (subst (λ (l : List StationState). Closed d aps l o) (sym same) was)

-- where there are no key holders
pub none_closed : (d : Domain) (aps : List ApState) (stas : List StationState) (o p : Option Shared) → p ≡ None → Closed d aps stas o → Closed d aps stas p
none_closed d aps stas o p none was = (record { count_aps = was.0.count_aps; count_stas = was.0.count_stas; aps = was.0.aps; stas = was.0.stas }, subst (HoldersFit d) (sym none) tt)

pub at_most : (m n : ℕ) → m ≡ n → m ≤ n
at_most m n is = omega (arith, is)

-- no nodes stand for any journal
pub stand_none : (n : Nodes) (j : List Entry) → n.aps ≡ [] → n.stas ≡ [] → Stand n j
stand_none n j aps stas = record {
  aps = λ k s at. absurd (none_of k s (subst (λ (l : List ApState). slice_get l k ≡ Some s) aps at));
  stas = λ k s at. absurd (none_of k s (subst (λ (l : List StationState). slice_get l k ≡ Some s) stas at));
}
  where
    none_of : {A : Type 0} (k : ℕ) (s : A) → slice_get [] k ≡ Some s → ⊥
    none_of k s at = cc

-- ---- the world as it was

abbrev pub with_frames : State → Nodes → List ℕ → State
with_frames w n frames = record { domain = n.domain; aps = n.aps; stas = n.stas; rows = n.rows; frames = frames; rounds = w.rounds; usable = w.usable }

pub world_before : (w m : State) (n : Nodes) (frames : List ℕ) → w ≡ m → n ≡ nodes_of w → frames ≡ w.frames → with_frames w n frames ≡ m
world_before w m n frames view nodes same = ap (λ (x : Nodes). with_frames w x frames) nodes ∙ ap (with_frames w (nodes_of w)) same ∙ view

pub own_before : (w m : State) (n : Nodes) (frames : List ℕ) (j k : List Entry) → w ≡ m → n ≡ nodes_of w → frames ≡ w.frames → k ≡ j → Owns m j → Owns (with_frames w n frames) k
own_before w m n frames j k view nodes same entries own = subst (λ (x : State). Owns x k) (sym (world_before w m n frames view nodes same)) (subst (Owns m) (sym entries) own)

pub placed_before : (w m : State) (frames : List ℕ) (j k : List Entry) → w ≡ m → frames ≡ w.frames → k ≡ j → Places m j → Places (with_frames w (nodes_of w) frames) k
placed_before w m frames j k view same entries held = subst (λ (x : State). Places x k) (sym (world_before w m (nodes_of w) frames view refl same)) (subst (Places m) (sym entries) held)

pub event_before : (w m : State) (frames : List ℕ) (j k : List Entry) (event : Event) → w ≡ m → frames ≡ w.frames → k ≡ j → IsOneIn m.domain (length m.frames) j event → IsOneIn w.domain (length frames) k event
event_before w m frames j k event view same entries may =
    subst (λ (i : List Entry). IsOneIn w.domain (length frames) i event) (sym entries)
    (subst (λ (l : List ℕ). IsOneIn w.domain (length l) j event) (sym same) (subst (λ (x : State). IsOneIn x.domain (length x.frames) j event) (sym view) may))

-- whether it is of use or not, its frames stand where they did
pub placed_unusable : (w m : State) (u : Bool) (j : List Entry) → w ≡ m → Places m j → Places (record { domain = w.domain; aps = w.aps; stas = w.stas; rows = w.rows; frames = w.frames; rounds = w.rounds; usable = u }) j
placed_unusable w m u j view held =
    let was = subst (λ (x : State). Places x j) (sym view) held in
    record { count = was.count; numbered = was.numbered; places = was.places; past = was.past }

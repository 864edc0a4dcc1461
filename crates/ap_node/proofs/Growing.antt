-- The network grows, or keys of stations change with which it has nothing: an access point of it stands for the same
-- histories.
use Rattle.std.proofs.Common.{◌≡◌, ◌∙◌, ℕ, ◌+◌, ◌<◌, ◌≤◌, Bool, true, false, List, length, Option, Some, None, inl, inr, refl, sym, ap, subst, arith, length-append}
use Rattle.std.specs.Prelude.{◌≢◌, ◌⊎◌, ◌&&◌, nat_lt}
use Rattle.std.proofs.lemmas.Bool.{ltb-true, ltb-false}
use Rattle.domain_base.specs.declared.names.Node.{Node}
use Rattle.domain_base.specs.declared.names.Node.TheVariants.{Ap, Sta}
use Rattle.key_holders.specs.declared.rows.HeldRow.{HeldRow}
use Rattle.run_journal.specs.declared.domain.Domain.{Domain}
use Rattle.run_journal.specs.declared.domain.ListedSta.{ListedSta}
use Rattle.run_journal.specs.declared.acts.Act.{Act}
use Rattle.domain_rules.specs.Network.{IsNamed, renews}
use Rattle.run_journal.specs.declared.domain.Extras.{Extras}
use Rattle.run_journal.specs.Events.{is_second, can_renew, protects}
use Rattle.node_base.specs.Changing.{Rekeys}
use Rattle.node_base.specs.Growing.{Grows}
use Rattle.node_base.proofs.Grown.{Alike, AreSame, grows_alike, rekeys_alike}
use Rattle.group_key.specs.Holds.{HoldsAll}
use Rattle.authenticator.proofs.Growing.{grown as authenticator_grown}
use Rattle.targets.specs.State.{no_moves}
use Rattle.targets.proofs.Growing.{each_grown}
use Rattle.ap_node.specs.declared.station.Station.{Station}
use Rattle.ap_node.specs.declared.station.Attempt.{Attempt as Trying}
use Rattle.ap_node.specs.declared.station.Attempt.TheVariants.{Association, Transition}
use Rattle.ap_node.specs.declared.station.Session.{Session as Kept}
use Rattle.ap_node.specs.State.{State, no_station, station_at, moves_in}
use Rattle.ap_node.specs.Counts.{owes_part, owing_below}
use Rattle.authenticator.specs.Kinds.{Kinds, kinds}
use Rattle.ap_node.specs.Stands.{IsTried, IsRenewing, IsOfSession, IsKept, HasPart, HoldsInUse, StandsSoFar, Stands, StandsWith}
use Rattle.ap_node.proofs.Owed.{count_on}
use Rattle.ap_node.proofs.Standing.{ends_of, part_with, stands_with, part_of, has_part}
use Rattle.ap_node.proofs.GrowingRows.{rows_grown}

module _ {S : Node → Type 0} (d e : Domain) (n : Node) (sta : ℕ) (g : Alike d e S) (here : S n) where
  tried_alike : (x : Station) (o : Option Trying) (h : List Act) → S (Sta sta) → HasPart d n sta x h → IsTried d n (Sta sta) o → IsTried e n (Sta sta) o
  tried_alike x None h there at tried = tt
  tried_alike x (Some (Association a)) h there at tried = ((authenticator_grown d e n (Sta sta) (part_with a.ends x) h g here there (stands_with d n sta a.ends x h tried.0 at)).ends, tried.1)
  tried_alike x (Some (Transition t)) h there at tried = tt

  renews_alike : renews e ≡ renews d
  renews_alike = same (ap (λ (x : Extras). is_second x.version) g.extras) (ap can_renew g.akm)
    where
      same : {a b c f : Bool} → a ≡ b → c ≡ f → (a && c) ≡ (b && f)
      same is also = rw (is, also) refl

  renewing_alike : (t : Option Trying) (k : Kinds) → IsRenewing d t k → IsRenewing e t k
  renewing_alike t k r = record { begun = r.begun; alone = r.alone; renewed = renews_alike ∙ r.renewed }

  of_alike : (t : Option Trying) (k : Kinds) → IsOfSession d t k → IsOfSession e t k
  of_alike t k of = record { attempt = by of.attempt; session = λ renewed. of.session (sym renews_alike ∙ renewed) }
    where
      by : (k.attempt ≡ None) ⊎ IsRenewing d t k → (k.attempt ≡ None) ⊎ IsRenewing e t k
      by (inl none) = inl none
      by (inr renewing) = inr (renewing_alike t k renewing)

  kept_alike : (x : Station) (t : Option Trying) (o : Option Kept) (h : List Act) → S (Sta sta) → HasPart d n sta x h → IsKept d n (Sta sta) t o → IsKept e n (Sta sta) t o
  kept_alike x t None h there at kept = tt
  kept_alike x t (Some s) h there at kept = ((authenticator_grown d e n (Sta sta) (part_with s.part.ends x) h g here there (stands_with d n sta s.part.ends x h kept.0 at)).ends, of_alike t (kinds s.part) kept.1)

  part_same : (x : Station) (h : List Act) → S (Sta sta) → HasPart d n sta x h → HasPart e n sta x h
  part_same x h there at =
      let l = ends_of d n (Sta sta) in
      has_part e n sta l x h (tried_alike x x.attempt h there at at.tried) (kept_alike x x.attempt x.session h there at at.kept)
      (authenticator_grown d e n (Sta sta) (part_with l x) h g here there (part_of d n sta x h at)) at.key

protects_alike : {S : Node → Type 0} (d e : Domain) → Alike d e S → protects d ≡ protects e
protects_alike d e g = sym (ap (λ (x : Extras). x.mfp) g.extras)

-- of a station with which there is nothing the network does not matter
part_none : (d e : Domain) (n : Node) (sta : ℕ) (x : Station) (h : List Act) → x ≡ no_station → HasPart d n sta x h → HasPart e n sta x h
part_none d e n sta x h none at =
    let y : HasPart d n sta no_station h = subst (λ (z : Station). HasPart d n sta z h) none at in
    subst (λ (z : Station). HasPart e n sta z h) (sym none) (record { tried = tt; kept = tt; attempt_is = y.attempt_is; session_is = y.session_is; key = y.key })

-- it tells the same of the station, or there is nothing with it
part_alike : {S : Node → Type 0} (d e : Domain) (n : Node) (sta : ℕ) (x : Station) (h : List Act) → Alike d e S → S n → S (Sta sta) ⊎ (x ≡ no_station) → HasPart d n sta x h → HasPart e n sta x h
part_alike d e n sta x h g here (inl there) at = part_same d e n sta g here x h there at
part_alike d e n sta x h g here (inr none) at = part_none d e n sta x h none at

moves_or_none : {P : Type 0} (x : Station) → P ⊎ (x ≡ no_station) → P ⊎ (moves_in x ≡ no_moves)
moves_or_none x (inl there) = inl there
moves_or_none x (inr none) = inr (ap moves_in none)

-- ---- the network grows

-- a station is listed, or there is nothing with it
listed_or_none : (d : Domain) (first : ℕ) (s : State) (h : List Act) (sta : ℕ) → StandsSoFar d first s h → (sta < length d.stas) ⊎ (station_at s.stations sta ≡ no_station)
listed_or_none d first s h sta stands = by (nat_lt sta (length d.stas)) refl
  where
    by : (b : Bool) → nat_lt sta (length d.stas) ≡ b → (sta < length d.stas) ⊎ (station_at s.stations sta ≡ no_station)
    by true is = inl (ltb-true sta (length d.stas) is)
    by false is = inr (stands.listed sta (ltb-false sta (length d.stas) is))

more_stas : (d e : Domain) → Grows d e → (more : ℕ) × (length e.stas ≡ more + length d.stas)
more_stas d e g = (length g.more_stas, joined (ap (λ (l : List ListedSta). length l) g.stas) (length-append d.stas g.more_stas))
  where
    joined : {n m : ℕ} → n ≡ m → m ≡ length d.stas + length g.more_stas → n ≡ length g.more_stas + length d.stas
    joined e f = omega (arith, e, f)

count_grown : (d e : Domain) (place : ℕ) (xs : List (ℕ × Station)) → Grows d e → ((k : ℕ) → length d.stas ≤ k → station_at xs k ≡ no_station) → owing_below place xs (length d.stas) ≡ owing_below place xs (length e.stas)
count_grown d e place xs g none =
    let more = more_stas d e g in
    sym (ap (owing_below place xs) more.1 ∙ count_on place xs (length d.stas) more.0 (λ k past. ap (owes_part place) (none k past)))

so_far_grown : (d e : Domain) (first : ℕ) (s : State) (h : List Act) → Grows d e → s.number < length d.aps → StandsSoFar d first s h → StandsSoFar e first s h
so_far_grown d e first s h g low stands = record {
  draws_are = stands.draws_are;
  draws_low = stands.draws_low;
  group_is = subst (λ (b : Bool). HoldsAll b s.group h) (protects_alike d e (grows_alike d e g)) stands.group_is;
  pending = stands.pending;
  sending_is = subst (λ (b : Bool). HoldsInUse b s.sending h) (protects_alike d e (grows_alike d e g)) stands.sending_is;
  listed = λ k past. stands.listed k (omega (arith, past, (more_stas d e g).1));
  counted = stands.counted ∙ count_grown d e s.group.gtk.newest.place s.stations g stands.listed;
  parts = λ sta. part_alike d e (Ap s.number) sta (station_at s.stations sta) h (grows_alike d e g) low (listed_or_none d first s h sta stands) (stands.parts sta);
  moves = λ sta. each_grown d e s.number sta (moves_in (station_at s.stations sta)) h (grows_alike d e g) low (moves_or_none (station_at s.stations sta) (listed_or_none d first s h sta stands)) (stands.moves sta);
}

pub grown : (d e : Domain) (first : ℕ) (s : State) (h : List Act) → Grows d e → s.number < length d.aps → Stands d first s h → Stands e first s h
grown d e first s h g low stands = record { so_far = so_far_grown d e first s h g low stands.so_far; settled = stands.settled }

pub grown_with : (d e : Domain) (first : ℕ) (s : State) (xs : List HeldRow) (h : List Act) → Grows d e → IsNamed e → s.number < length d.aps → StandsWith d first s xs h → StandsWith e first s xs h
grown_with d e first s xs h g names low at = record { stands = grown d e first s h g low at.stands; rows = rows_grown d e (Ap s.number) g names xs h low at.rows }

-- ---- keys of stations change

-- there is nothing with a station, or there is something
none_or_some : (x : Station) → (x ≡ no_station) ⊎ (x ≢ no_station)
none_or_some x = by x x.attempt x.session refl refl
  where
    some_attempt : (x : Station) (a : Trying) → x.attempt ≡ Some a → x ≢ no_station
    some_attempt x a is none = cc (sym is ∙ ap (λ (y : Station). y.attempt) none)

    some_session : (x : Station) (s : Kept) → x.session ≡ Some s → x ≢ no_station
    some_session x s is none = cc (sym is ∙ ap (λ (y : Station). y.session) none)

    by : (x : Station) (a : Option Trying) (s : Option Kept) → x.attempt ≡ a → x.session ≡ s → (x ≡ no_station) ⊎ (x ≢ no_station)
    by x None None a s = inl (λ i. record { attempt = a i; session = s i })
    by x (Some t) o a s = inr (some_attempt x t a)
    by x None (Some k) a s = inr (some_session x k s)

-- it is one whose key is as it was, or there is nothing with it
same_or_none : (stations : List (ℕ × Station)) (sta : ℕ) → AreSame (λ k. station_at stations k ≢ no_station) (Sta sta) ⊎ (station_at stations sta ≡ no_station)
same_or_none stations sta = elim (none_or_some (station_at stations sta)) [
  | inl none ↦ inr none
  | inr some ↦ inl some
]

pub so_far_rekeyed : (d e : Domain) (first : ℕ) (s : State) (h : List Act) → Rekeys d e (λ k. station_at s.stations k ≢ no_station) → StandsSoFar d first s h → StandsSoFar e first s h
so_far_rekeyed d e first s h r stands =
    let g = rekeys_alike d e (λ (k : ℕ). station_at s.stations k ≢ no_station) r in
    record {
      draws_are = stands.draws_are;
      draws_low = stands.draws_low;
      group_is = subst (λ (b : Bool). HoldsAll b s.group h) (protects_alike d e g) stands.group_is;
      pending = stands.pending;
      sending_is = subst (λ (b : Bool). HoldsInUse b s.sending h) (protects_alike d e g) stands.sending_is;
      listed = λ k past. stands.listed k (omega (arith, past, r.count));
      counted = stands.counted ∙ ap (owing_below s.group.gtk.newest.place s.stations) (sym r.count);
      parts = λ sta. part_alike d e (Ap s.number) sta (station_at s.stations sta) h g tt (same_or_none s.stations sta) (stands.parts sta);
      moves = λ sta. each_grown d e s.number sta (moves_in (station_at s.stations sta)) h g tt (moves_or_none (station_at s.stations sta) (same_or_none s.stations sta)) (stands.moves sta);
    }

pub rekeyed : (d e : Domain) (first : ℕ) (s : State) (h : List Act) → Rekeys d e (λ k. station_at s.stations k ≢ no_station) → s.number < length d.aps → Stands d first s h → Stands e first s h
rekeyed d e first s h r low stands = record { so_far = so_far_rekeyed d e first s h r stands.so_far; settled = stands.settled }

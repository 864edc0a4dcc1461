-- The rows behind a put.
use Rattle.std.proofs.Common.{◌≡◌, ℕ, suc, ◌+◌, ◌<◌, ◌≤◌, Bool, true, false, cond, true≢false, List, [], ◌∷◌, ◌++◌, length, Option, Some, None, refl, sym, ap, ◌∙◌, subst, arith, inl, inr}
use Rattle.std.specs.Prelude.{◌&&◌, ◌||◌, is_some, bytes_eq, nat_lt, if◌then◌else◌}
use Rattle.std.specs.List.{AllByRecursion, list_any}
use Rattle.std.proofs.lemmas.Bool.{cases_Bool, ltb-true, ltb-false}
use Rattle.std.proofs.lemmas.List.{length-append}
use Rattle.std.proofs.lemmas.List.Folds.{list_any-append}
use Rattle.std.proofs.lemmas.Slice.Eq.{bytes_eq-Decides}
use Rattle.domain_base.specs.declared.names.Akm.TheVariants.{FtPsk}
use Rattle.domain_base.specs.declared.names.Mac.{Mac}
use Rattle.domain_base.specs.declared.names.Node.{Node}
use Rattle.domain_base.specs.declared.names.Node.TheVariants.{Ap, Sta}
use Rattle.key_hierarchy.specs.declared.answers.PutAnswer.{PutAnswer}
use Rattle.key_hierarchy.specs.declared.answers.PutAnswer.TheVariants.{Held, HeldAlready, Full, NoMemory}
use Rattle.key_holders.specs.declared.rows.HeldRow.{HeldRow}
use Rattle.key_holders.specs.Rows.{live, holds_live, after_put, put_answer as put_by}
use Rattle.key_holders.specs.Pulls.{is_match}
use Rattle.key_holders.proofs.Lives.{put_again, put_full, put_held, held_none}
use Rattle.run_journal.specs.declared.domain.Domain.{Domain}
use Rattle.run_journal.specs.declared.acts.Act.{Act}
use Rattle.run_journal.specs.declared.acts.Act.TheVariants.{Put}
use Rattle.run_journal.specs.Acts.{same}
use Rattle.run_journal.specs.Questions.{or_else}
use Rattle.run_journal.specs.Holders.{row, rows}
use Rattle.domain_rules.specs.Network.{IsNamed, mac, psk_of, address, peer_of}
use Rattle.domain_rules.specs.KeyHolders.{put_answer}
use Rattle.domain_rules.specs.HeldRight.{is_of}
use Rattle.domain_rules.proofs.Parts.{same-true, same-refl}
use Rattle.domain_rules.proofs.Peers.{finds-sta, not_same}
use Rattle.held_rows.specs.Knows.{own_row, IsOwn, IsListedSta, stands_in, KnowsRows}

-- ---- the answer

by_row : (name : List ℕ) (xs : List HeldRow) (o : Option Node) (count : ℕ) → length xs ≡ count → holds_live name xs ≡ is_some o → put_by name xs ≡ put_answer o count
by_row name xs (Some p) count is e = put_again name xs e
by_row name xs None count is e = elim (cases_Bool (nat_lt count 64)) [
  | inl few ↦ (let low : count < 64 = ltb-true count 64 few in put_held name xs e (omega (arith, low, is)) ∙ sym (ap (λ (b : Bool). if b then Held else Full) few))
  | inr many ↦ (let high : 64 ≤ count = ltb-false count 64 many in put_full name xs e (omega (arith, high, is)) ∙ sym (ap (λ (b : Bool). if b then Held else Full) many))
]

pub put_told : (d : Domain) (n : Node) (xs : List HeldRow) (h : List Act) (name : List ℕ) → KnowsRows d n xs h → put_by name xs ≡ put_answer (row name h) (rows h)
put_told d n xs h name at = by_row name xs (row name h) (rows h) at.count (at.live_is name)

-- ---- addresses tell stations apart

apart : (k i : ℕ) → Some (Sta k) ≡ Some (Sta i) → Sta i ≡ Sta k
apart k i e = cc

pub one_station : (d : Domain) (k i : ℕ) → IsNamed d → k < length d.stas → i < length d.stas → mac d (Sta k) ≡ mac d (Sta i) → Sta i ≡ Sta k
one_station d k i names low there same_mac =
    apart k i (sym (finds-sta d 0 k names low) ∙ (ap (λ (m : Mac). peer_of d (Ap 0) m.0) same_mac ∙ finds-sta d 0 i names there))

same_address : (d : Domain) (k i : ℕ) → IsNamed d → k < length d.stas → i < length d.stas → bytes_eq (mac d (Sta k)).0 (mac d (Sta i)).0 ≡ same (Sta i) (Sta k)
same_address d k i names low there = elim (cases_Bool (same (Sta i) (Sta k))) [
  | inl is ↦ (bytes_eq-Decides (mac d (Sta k)).0 (mac d (Sta i)).0).1 (ap (address d) (sym (same-true (Sta i) (Sta k) is))) ∙ sym is
  | inr other ↦ not_same (mac d (Sta k)).0 (mac d (Sta i)).0
      (λ e. true≢false (sym (subst (λ (q : Node). same (Sta i) q ≡ true)
      (apart k i (sym (finds-sta d 0 k names low) ∙ (ap (peer_of d (Ap 0)) e ∙ finds-sta d 0 i names there))) (same-refl (Sta i))) ∙ other)) ∙ sym other
]

-- ---- one row more

all_behind : {A : Type 0} (P : A → Type 0) (xs : List A) (x : A) → AllByRecursion P xs → P x → AllByRecursion P (xs ++ x ∷ [])
all_behind P [] x all is = (is, tt)
all_behind P (y ∷ ys) x all is = (all.0, all_behind P ys x all.1 is)

live_more : (b s : Bool) (o : Option Node) (p : Node) → s ≡ is_some o → (s || (b || false)) ≡ is_some (or_else (cond b (Some p) None) o)
live_more true true o p is = refl
live_more true false o p is = refl
live_more false true o p is = is
live_more false false o p is = is

station_more : (b s m : Bool) (o : Option Node) (i p : Node) → s ≡ is_of i o → (b ≡ true → o ≡ None) → m ≡ same i p → (s || ((b && m) || false)) ≡ is_of i (or_else (cond b (Some p) None) o)
station_more true true m o i p is none here = absurd (true≢false (is ∙ ap (is_of i) (none refl)))
station_more true false true o i p is none here = here
station_more true false false o i p is none here = here
station_more false true m o i p is none here = is
station_more false false m o i p is none here = is

last_more : (b s : Bool) (o : Option Node) (i p : Node) → s ≡ is_of i o → (b ≡ true → o ≡ None) → (is_of i (cond b (Some p) None) || s) ≡ is_of i (or_else (cond b (Some p) None) o)
last_more true s o i p is none = no_more (same i p) s (is ∙ ap (is_of i) (none refl))
  where
    no_more : (a s : Bool) → s ≡ false → (a || s) ≡ a
    no_more true s e = refl
    no_more false s e = e
last_more false s o i p is none = is

listed_more : (d : Domain) (b : Bool) (o : Option Node) (p : Node) → IsListedSta d (Some p) → IsListedSta d o → IsListedSta d (or_else (cond b (Some p) None) o)
listed_more d true o p there at = there
listed_more d false o p there at = at

no_row : (o : Option Node) → is_some o ≡ false → o ≡ None
no_row None e = refl
no_row (Some p) e = absurd (true≢false e)

module _ (d : Domain) (n : Node) (xs : List HeldRow) (h : List Act) (id name : List ℕ) (k : ℕ) where
  abbrev station : Mac
  station = mac d (Sta k)

  abbrev new : HeldRow
  new = live (own_row d n (Sta k))

  held : IsNamed d → d.akm ≡ FtPsk → k < length d.stas → KnowsRows d n xs h → name ≡ (own_row d n (Sta k)).name → Held ≡ put_by name xs → KnowsRows d n (xs ++ new ∷ []) (Put id name (Sta k) Held ∷ h)
  held names suite low at named is =
      let none : row name h ≡ None = no_row (row name h) (sym (at.live_is name) ∙ held_none name xs (sym is)) in
      let none_of : (m : List ℕ) → bytes_eq name m ≡ true → row m h ≡ None = λ m e. subst (λ (x : List ℕ). row x h ≡ None) ((bytes_eq-Decides name m).0 e) none in
      record {
        count = length-append xs (new ∷ []) ∙ (ap (λ (c : ℕ). c + 1) at.count ∙ one_more (rows h));
        live_is = λ m. list_any-append (λ (x : HeldRow). x.live && bytes_eq x.row.name m) xs (new ∷ [])
            ∙ (ap (λ (x : List ℕ). holds_live m xs || (bytes_eq x m || false)) (sym named) ∙ live_more (bytes_eq name m) (holds_live m xs) (row m h) (Sta k) (at.live_is m));
        station_is = λ m i there. list_any-append (is_match m (mac d (Sta i))) xs (new ∷ [])
            ∙ (ap (λ (x : List ℕ). list_any (is_match m (mac d (Sta i))) xs || ((bytes_eq x m && bytes_eq station.0 (mac d (Sta i)).0) || false)) (sym named)
            ∙ station_more (bytes_eq name m) (list_any (is_match m (mac d (Sta i))) xs) (bytes_eq station.0 (mac d (Sta i)).0) (row m h) (Sta i) (Sta k) (at.station_is m i there) (none_of m) (same_address d k i names low there));
        last = λ m i. last_more (bytes_eq name m) (stands_in m (Sta i) h) (row m h) (Sta i) (Sta k) (at.last m i) (none_of m);
        listed = λ m. listed_more d (bytes_eq name m) (row m h) (Sta k) (k, low, refl) (at.listed m);
        own = all_behind (IsOwn d n) xs new at.own (record { sta = k; listed = low; psk = psk_of d (Sta k); is = refl; present = λ live. refl });
        suite = λ other. absurd (other suite);
      }
    where
      one_more : (c : ℕ) → c + 1 ≡ suc c
      one_more c = omega arith

  pub behind_put : (answer : PutAnswer) → IsNamed d → d.akm ≡ FtPsk → k < length d.stas → KnowsRows d n xs h → name ≡ (own_row d n (Sta k)).name → answer ≡ put_by name xs → KnowsRows d n (after_put (own_row d n (Sta k)) answer xs) (Put id name (Sta k) answer ∷ h)
  behind_put Held names suite low at named is = held names suite low at named is
  behind_put HeldAlready names suite low at named is = record { count = at.count; live_is = at.live_is; station_is = at.station_is; last = at.last; listed = at.listed; own = at.own; suite = at.suite }
  behind_put Full names suite low at named is = record { count = at.count; live_is = at.live_is; station_is = at.station_is; last = at.last; listed = at.listed; own = at.own; suite = at.suite }
  behind_put NoMemory names suite low at named is = record { count = at.count; live_is = at.live_is; station_is = at.station_is; last = at.last; listed = at.listed; own = at.own; suite = at.suite }

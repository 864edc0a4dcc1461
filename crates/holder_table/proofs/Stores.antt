-- Stores keep the rule.
use Rattle.std.proofs.Common.{◌≡◌, ◌≢◌, ◌⊎◌, ℕ, zero, suc, ◌+◌, ◌*◌, ◌<◌, ◌≤◌, eq-eqb, ne_eqb, Bool, true, false, cond, true≢false, List, [], ◌∷◌, ◌++◌, length, take, set, get_or, Some, refl, sym, ap, ◌∙◌, subst, inl, inr, ⊎_elim, arith, get_or-set_other, get_or-set_same, length-append}
use Rattle.std.specs.Prelude.{slice_get}
use Rattle.std.proofs.lemmas.List.{length-set}
use Rattle.std.proofs.lemmas.Option.{slice_get_within, slice_get-get_or}
use mathlib.Core.Option.{some, none}
use mathlib.Core.Logic.{dite}
use native.Mathlib.Decide.{ℕ_discrete}
use lib.Bits.{bit_or}
use lib.ListN.{get_elem?}
use Rattle.atomic_table.specs.Table.{State, Me, step, Allows}
use Rattle.atomic_table.specs.Table.Act.{keeps}
use Rattle.key_holders.specs.declared.rows.HolderRow.{HolderRow}
use Rattle.holder_table.specs.declared.words.RowWords.{RowWords}
use Rattle.holder_table.specs.declared.history.HolderEvent.{HolderEvent}
use Rattle.holder_table.specs.declared.history.HolderEvent.TheVariants.{Put, Revoke}
use Rattle.holder_table.specs.Histories.{HeldRow, live, ended_at, held_at}
use Rattle.holder_table.specs.declared.view.View.{View}
use Rattle.holder_table.specs.Words.{state_word, data_word, octets_in, piece, state_of, live_word, row_words, row_of, Shows}
use Rattle.holder_table.specs.Rule.{is_in, Owns, Fits, Kept}
use Rattle.holder_table.specs.Steps.{drafted, GoesOn, Wrote, Adds, Published, Ended}
use Rattle.holder_table.proofs.Places.{one_state, one_data, state_data, state_row, state_more, state_last, get_more, length-ended, state_ended, state_at_end, get_ended}
use Rattle.holder_table.proofs.Loads.{nil_end}
use Rattle.holder_table.proofs.Lasting.{all_last_on}
use Rattle.holder_table.proofs.Views.{alone_after, fits_after}
use Rattle.holder_table.proofs.Pieces.{piece_back}

-- where n words of a row were written and the k-th comes next, there is none but those
pub draft_get : (xs : List ℕ) (k n i m : ℕ) → k ≤ length xs → slice_get (take k xs ++ n ∷ []) i ≡ Some m → ((i < k) × (slice_get xs i ≡ Some m)) ⊎ ((i ≡ k) × (n ≡ m))
draft_get xs zero n zero m h e = inr (refl, is n m e)
  where
    is : (x y : ℕ) → Some x ≡ Some y → x ≡ y
    is x y e = cc
draft_get xs zero n (suc i) m h e = absurd (cc)
draft_get [] (suc k) n i m h e = absurd (omega arith)
draft_get (x ∷ xs) (suc k) n zero m h e = inl (omega arith, e)
draft_get (x ∷ xs) (suc k) n (suc i) m h e = ⊎_elim (λ (a : (i < k) × (slice_get xs i ≡ Some m)). inl (omega (arith, a.0), a.1)) (λ (b : (i ≡ k) × (n ≡ m)). inr (ap suc b.0, b.1)) (draft_get xs k n i m (omega arith) e)

length-draft : (xs : List ℕ) (k n : ℕ) → k ≤ length xs → length (take k xs ++ n ∷ []) ≡ suc k
length-draft xs zero n h = refl
length-draft [] (suc k) n h = absurd (omega arith)
length-draft (x ∷ xs) (suc k) n h = ap suc (length-draft xs k n (omega arith))

-- the words of the row to come are no words of the rows that are there
fresh_word : (r s j k m : ℕ) (ps qs : List HeldRow) → length ps < 64 → length qs ≤ 64 → j < length qs → k < 7 → m < 7 → (r ≡ s → ps ≡ qs) → data_word s j m ≢ data_word r (length ps) k
fresh_word r s j k m ps qs a b c d e same is =
    let one = one_data s r j (length ps) m k (omega arith) a e d is in
    let both : length ps ≡ length qs = ap length (same (sym one.0)) in
    omega (arith, one.1, both, c)

shows_draft : (aps : ℕ) (words : List ℕ) (log : List HolderEvent) (r k n : ℕ) → length (held_at r log) < 64 → k < 7 → Shows aps words log → Shows aps (set words (data_word r (length (held_at r log)) k) n) log
shows_draft aps words log r k n small few shows = record {
  size = length-set words (data_word r (length (held_at r log)) k) n ∙ shows.size;
  room = shows.room;
  states = λ s j h. get_or-set_other words (data_word r (length (held_at r log)) k) (state_word s j) n 0 (λ e. state_data s r j (length (held_at r log)) k few e) ∙ shows.states s j h;
  rows = λ s j m p there h. ap (λ (x : ℕ). octets_in m x) (get_or-set_other words (data_word r (length (held_at r log)) k) (data_word s j m) n 0 (fresh_word r s j k m (held_at r log) (held_at s log) small (shows.room s) (slice_get_within (held_at s log) j p there) few h (λ e. ap (λ (x : ℕ). held_at x log) e))) ∙ shows.rows s j m p there h;
}

-- other passes are not concerned
draft_others : (aps : ℕ) (words : List ℕ) (log : List HolderEvent) (r k n : ℕ) (u : View) → length (held_at r log) < 64 → k < 7 → (is_in r u.has ≡ true → ⊥) → Fits aps words log u → Fits aps (set words (data_word r (length (held_at r log)) k) n) log u
draft_others aps words log r k n u small few apart f = record {
  seen = f.seen;
  told = f.told;
  own = f.own;
  brought = f.brought;
  listed = f.listed;
  loads = f.loads;
  short = f.short;
  draft = λ i m e.
      let d = f.draft i m e in
      let i7 : i < 7 = omega (arith, slice_get_within u.draft i m e, f.short) in (
        d.0,
        d.1,
        get_or-set_other words (data_word r (length (held_at r log)) k) (data_word u.writes (length (held_at u.writes log)) i) n 0
            (λ e'. apart (subst (λ (x : ℕ). is_in x u.has ≡ true) (one_data u.writes r (length (held_at u.writes log)) (length (held_at r log)) i k d.1 small i7 few e').0 d.0)) ∙ d.2,
      );
}

draft_mine : (aps : ℕ) (words : List ℕ) (log : List HolderEvent) (r k n : ℕ) (v : View) → data_word r (length (held_at r log)) k < length words → length (held_at r log) < 64 → k < 7 → is_in r v.has ≡ true → GoesOn v r k → Fits aps words log v
    → Fits aps (set words (data_word r (length (held_at r log)) k) n) log (drafted v r k n)
draft_mine aps words log r k n v within small few has on f = record {
  seen = f.seen;
  told = f.told;
  own = f.own;
  brought = f.brought;
  listed = f.listed;
  loads = f.loads;
  short = subst (λ (l : ℕ). l ≤ 7) (sym (length-draft v.draft k n on.0)) (omega arith);
  draft = λ i m e. (has, small, ⊎_elim (λ (a : (i < k) × (slice_get v.draft i ≡ Some m)). before i m a) (λ (b : (i ≡ k) × (n ≡ m)). here i m b) (draft_get v.draft k n i m on.0 e));
}
  where
    before : (i m : ℕ) → (i < k) × (slice_get v.draft i ≡ Some m) → get_or (set words (data_word r (length (held_at r log)) k) n) (data_word r (length (held_at r log)) i) 0 ≡ m
    before i m a =
        let at : v.writes ≡ r = on.1 (omega (arith, a.0)) in
        let d = f.draft i m a.1 in
        let i7 : i < 7 = omega (arith, a.0, few) in
        get_or-set_other words (data_word r (length (held_at r log)) k) (data_word r (length (held_at r log)) i) n 0
        (λ e. let x = (one_data r r (length (held_at r log)) (length (held_at r log)) i k small small i7 few e).2 in omega (arith, x, a.0))
        ∙ subst (λ (x : ℕ). get_or words (data_word x (length (held_at x log)) i) 0 ≡ m) at d.2

    here : (i m : ℕ) → (i ≡ k) × (n ≡ m) → get_or (set words (data_word r (length (held_at r log)) k) n) (data_word r (length (held_at r log)) i) 0 ≡ m
    here i m b =
        subst (λ (x : ℕ). get_or (set words (data_word r (length (held_at r log)) k) n) (data_word r (length (held_at r log)) x) 0 ≡ m) (sym b.0)
        (get_or-set_same words (data_word r (length (held_at r log)) k) n 0 within ∙ b.1)

in_words : (aps r j k : ℕ) (words : List ℕ) → length words ≡ 1 + 512 * aps → r < aps → j < 64 → k < 7 → data_word r j k < length words
in_words aps r j k words size a b c = omega arith

state_in : (aps r j : ℕ) (words : List ℕ) → length words ≡ 1 + 512 * aps → r < aps → j < 64 → state_word r j < length words
state_in aps r j words size a b = omega arith

pub writes : (aps slots id word r k n : ℕ) (me : Me (Unit {0}) View) → k < 7 → length (held_at r me.0.seen) < 64 → is_in r me.0.has ≡ true → GoesOn me.0 r k → word ≡ data_word r (length (held_at r me.0.seen)) k
    → Allows (Kept aps) slots id me word (λ _. n) (λ _. Wrote (step slots word n 0 none) me n)
writes aps slots id word r k n me few small has on is s h homes at range =
    let v = me.0 in
    let f = h.fits id v at in
    let same : held_at r v.seen ≡ held_at r h.log = sym (f.own r has) in
    let small' : length (held_at r h.log) < 64 = subst (λ (ps : List HeldRow). length ps < 64) same small in
    let is' : word ≡ data_word r (length (held_at r h.log)) k = is ∙ ap (λ (ps : List HeldRow). data_word r (length ps) k) same in
    let w = drafted v r k n in
    let now : List ℕ = set s.words (data_word r (length (held_at r h.log)) k) n in
    let within = in_words aps r (length (held_at r h.log)) k s.words h.shows.size (f.listed r (inl has)) small' few in
    let Q : List ℕ → Type 0 = λ ws. Kept aps (record { words = ws; homes = s.homes; views = set s.views id w }) in (
      w,
      keeps,
      tt,
      subst (λ (i : ℕ). Q (set s.words i n)) (sym is') (record {
        log = h.log;
        shows = shows_draft aps s.words h.log r k n small' few h.shows;
        fits = fits_after aps now h.log s.views id w (λ j u apart e. draft_others aps s.words h.log r k n u small' few (λ owns. apart (h.alone j id u v r e at (inl owns) (inl has))) (h.fits j u e)) (draft_mine aps s.words h.log r k n v within small' few has on f);
        alone = alone_after s.views id v w at (λ s o. o) h.alone;
      }),
      λ r' k' few' small'' is''.
          let one = one_data r r' (length (held_at r v.seen)) (length (held_at r' v.seen)) k k' small small'' few few' (sym is ∙ is'') in
          λ i. (drafted v (one.0 i) (one.2 i) n, me.1),
    )

-- An event at one access point.

-- what holds of the rows of each access point after it
at_ap : (r : ℕ) (e : HolderEvent) (log : List HolderEvent) (after : List HeldRow) (F : ℕ → List HeldRow → Type 0) → held_at r (e ∷ log) ≡ after → ((s : ℕ) → r ≢ s → held_at s (e ∷ log) ≡ held_at s log) → F r after → ((s : ℕ) → r ≢ s → F s (held_at s log)) → (s : ℕ) → F s (held_at s (e ∷ log))
at_ap r e log after F here other mine rest s =
    dite (ℕ_discrete r s)
    (λ is. subst (λ (x : ℕ). F x (held_at x (e ∷ log))) is (subst (F r) (sym here) mine))
    (λ ne. subst (F s) (sym (other s ne)) (rest s ne))

pub put_here : (r : ℕ) (row : HolderRow) (log : List HolderEvent) → held_at r (Put r row ∷ log) ≡ held_at r log ++ live row ∷ []
put_here r row log = ap (λ (b : Bool). cond b (held_at r log ++ live row ∷ []) (held_at r log)) (eq-eqb r r refl)

pub put_other : (r : ℕ) (row : HolderRow) (log : List HolderEvent) (s : ℕ) → r ≢ s → held_at s (Put r row ∷ log) ≡ held_at s log
put_other r row log s ne = ap (λ (b : Bool). cond b (held_at s log ++ live row ∷ []) (held_at s log)) (ne_eqb r s ne)

pub end_here : (r j : ℕ) (log : List HolderEvent) → held_at r (Revoke r j ∷ log) ≡ ended_at j (held_at r log)
end_here r j log = ap (λ (b : Bool). cond b (ended_at j (held_at r log)) (held_at r log)) (eq-eqb r r refl)

pub end_other : (r j : ℕ) (log : List HolderEvent) (s : ℕ) → r ≢ s → held_at s (Revoke r j ∷ log) ≡ held_at s log
end_other r j log s ne = ap (λ (b : Bool). cond b (ended_at j (held_at s log)) (held_at s log)) (ne_eqb r s ne)

-- the words of rows stay where a state word is stored
data_stay : (words : List ℕ) (r j n s i k : ℕ) → k < 7 → get_or (set words (state_word r j) n) (data_word s i k) 0 ≡ get_or words (data_word s i k) 0
data_stay words r j n s i k few = get_or-set_other words (state_word r j) (data_word s i k) n 0 (λ e. state_data r s j i k few (sym e))

shows_put : (aps : ℕ) (words : List ℕ) (log : List HolderEvent) (r : ℕ) (row : HolderRow) → r < aps → length (held_at r log) < 64 → ((k : ℕ) → k < 7 → octets_in k (get_or words (data_word r (length (held_at r log)) k) 0) ≡ piece row k) → Shows aps words log
    → Shows aps (set words (state_word r (length (held_at r log))) 1) (Put r row ∷ log)
shows_put aps words log r row listed small written shows =
    let ps = held_at r log in
    let m : ℕ = length ps in
    let now : List ℕ = set words (state_word r m) 1 in
    let within = state_in aps r m words shows.size listed small in
    record {
      size = length-set words (state_word r m) 1 ∙ shows.size;
      room = at_ap r (Put r row) log (ps ++ live row ∷ []) (λ s qs. length qs ≤ 64) (put_here r row log) (put_other r row log) (omega (arith, length-append ps (live row ∷ []), small)) (λ s ne. shows.room s);
      states = at_ap r (Put r row) log (ps ++ live row ∷ []) (λ s qs. (j : ℕ) → j < 64 → get_or now (state_word s j) 0 ≡ state_of qs j) (put_here r row log) (put_other r row log)
          (λ j h. dite (ℕ_discrete j m)
          (λ is. subst (λ (x : ℕ). get_or now (state_word r x) 0 ≡ state_of (ps ++ live row ∷ []) x) (sym is) (get_or-set_same words (state_word r m) 1 0 within ∙ sym (state_last ps row)))
          (λ ne. get_or-set_other words (state_word r m) (state_word r j) 1 0 (λ e. ne (one_state r r j m h small e).1) ∙ (shows.states r j h ∙ sym (state_more ps row j ne))))
          (λ s ne j h. get_or-set_other words (state_word r m) (state_word s j) 1 0 (λ e. ne (sym (one_state s r j m h small e).0)) ∙ shows.states s j h);
      rows = at_ap r (Put r row) log (ps ++ live row ∷ []) (λ s qs. (j k : ℕ) (p : HeldRow) → slice_get qs j ≡ Some p → k < 7 → octets_in k (get_or now (data_word s j k) 0) ≡ piece p.row k) (put_here r row log) (put_other r row log)
          (λ j k p there few. ap (λ (x : ℕ). octets_in k x) (data_stay words r m 1 r j k few) ∙ ⊎_elim
          (λ (old : slice_get ps j ≡ Some p). shows.rows r j k p old few)
          (λ (new : (j ≡ m) × (p.row ≡ row)). subst (λ (x : ℕ). octets_in k (get_or words (data_word r x k) 0) ≡ piece p.row k) (sym new.0) (written k few ∙ ap (λ (x : HolderRow). piece x k) (sym new.1)))
          (get_more ps row j p there))
          (λ s ne j k p there few. ap (λ (x : ℕ). octets_in k x) (data_stay words r m 1 s j k few) ∙ shows.rows s j k p there few);
    }

shows_end : (aps : ℕ) (words : List ℕ) (log : List HolderEvent) (r j : ℕ) → r < aps → j < length (held_at r log) → Shows aps words log → Shows aps (set words (state_word r j) 3) (Revoke r j ∷ log)
shows_end aps words log r j listed there shows =
    let ps = held_at r log in
    let now : List ℕ = set words (state_word r j) 3 in
    let room = shows.room r in
    let small : j < 64 = omega (arith, room, there) in
    let within = state_in aps r j words shows.size listed small in
    record {
      size = length-set words (state_word r j) 3 ∙ shows.size;
      room = at_ap r (Revoke r j) log (ended_at j ps) (λ s qs. length qs ≤ 64) (end_here r j log) (end_other r j log) (subst (λ (l : ℕ). l ≤ 64) (sym (length-ended j ps)) room) (λ s ne. shows.room s);
      states = at_ap r (Revoke r j) log (ended_at j ps) (λ s qs. (i : ℕ) → i < 64 → get_or now (state_word s i) 0 ≡ state_of qs i) (end_here r j log) (end_other r j log)
          (λ i h. dite (ℕ_discrete i j)
          (λ is. subst (λ (x : ℕ). get_or now (state_word r x) 0 ≡ state_of (ended_at j ps) x) (sym is) (get_or-set_same words (state_word r j) 3 0 within ∙ sym (state_at_end j ps there)))
          (λ ne. get_or-set_other words (state_word r j) (state_word r i) 3 0 (λ e. ne (one_state r r i j h small e).1) ∙ (shows.states r i h ∙ sym (state_ended j ps i ne))))
          (λ s ne i h. get_or-set_other words (state_word r j) (state_word s i) 3 0 (λ e. ne (sym (one_state s r i j h small e).0)) ∙ shows.states s i h);
      rows = at_ap r (Revoke r j) log (ended_at j ps) (λ s qs. (i k : ℕ) (p : HeldRow) → slice_get qs i ≡ Some p → k < 7 → octets_in k (get_or now (data_word s i k) 0) ≡ piece p.row k) (end_here r j log) (end_other r j log)
          (λ i k p there few. let old = get_ended j ps i p there in ap (λ (x : ℕ). octets_in k x) (data_stay words r j 3 r i k few) ∙ (shows.rows r i k old.0 old.1 few ∙ ap (λ (x : HolderRow). piece x k) old.2))
          (λ s ne i k p there few. ap (λ (x : ℕ). octets_in k x) (data_stay words r j 3 s i k few) ∙ shows.rows s i k p there few);
    }

-- what other passes know stays so
others_after : (aps : ℕ) (words now : List ℕ) (log : List HolderEvent) (r : ℕ) (e : HolderEvent) (u : View) → ((s : ℕ) → r ≢ s → held_at s (e ∷ log) ≡ held_at s log) → ((s i k : ℕ) → k < 7 → get_or now (data_word s i k) 0 ≡ get_or words (data_word s i k) 0) → (Owns u r → ⊥) → Fits aps words log u → Fits aps now (e ∷ log) u
others_after aps words now log r e u other stay apart f = record {
  seen = (e ∷ f.seen.0, ap (λ (l : List HolderEvent). e ∷ l) f.seen.1);
  told = (e ∷ f.told.0, ap (λ (l : List HolderEvent). e ∷ l) f.told.1);
  own = λ s has. other s (λ is. apart (inl (subst (λ (x : ℕ). is_in x u.has ≡ true) (sym is) has))) ∙ f.own s has;
  brought = λ s has. other s (λ is. apart (inr (subst (λ (x : ℕ). is_in x u.brought ≡ true) (sym is) has))) ∙ f.brought s has;
  listed = f.listed;
  loads = all_last_on log (e ∷ log) u.loads (e ∷ [], refl) f.loads;
  short = f.short;
  draft = λ i m d.
      let was = f.draft i m d in
      let same = other u.writes (λ is. apart (inl (subst (λ (x : ℕ). is_in x u.has ≡ true) (sym is) was.0))) in
      let i7 : i < 7 = omega (arith, slice_get_within u.draft i m d, f.short) in
      (was.0, subst (λ (ps : List HeldRow). length ps < 64) (sym same) was.1, subst (λ (ps : List HeldRow). get_or now (data_word u.writes (length ps) i) 0 ≡ m) (sym same) (stay u.writes (length (held_at u.writes log)) i i7 ∙ was.2));
}

-- what the pass knows that adds an event
abbrev pub added : HolderEvent → List HolderEvent → View → View
added e log v = record v { seen = e ∷ log; draft = []; brought = []; told = [] }

added_fits : (aps : ℕ) (words now : List ℕ) (log : List HolderEvent) (e : HolderEvent) (v : View) → Fits aps words log v → Fits aps now (e ∷ log) (added e log v)
added_fits aps words now log e v f = record {
  seen = ([], refl);
  told = (e ∷ log, nil_end (e ∷ log));
  own = λ s has. refl;
  brought = λ s has. absurd (true≢false (sym has));
  listed = λ s o. f.listed s (added_owns e log v s o);
  loads = all_last_on log (e ∷ log) v.loads (e ∷ [], refl) f.loads;
  short = omega arith;
  draft = λ i m d. absurd (cc);
}
  where
    added_owns : (e : HolderEvent) (log : List HolderEvent) (v : View) (s : ℕ) → Owns (added e log v) s → Owns v s
    added_owns e log v s o = ⊎_elim (λ (a : is_in s v.has ≡ true). inl a) (λ (b : false ≡ true). absurd (true≢false (sym b))) o

adds : (aps : ℕ) (words : List ℕ) (log : List HolderEvent) (e : HolderEvent) (v : View) → Fits aps words log v → Adds e v (added e log v)
adds aps words log e v f = record {
  between = f.seen.0;
  seen = ap (λ (l : List HolderEvent). e ∷ l) f.seen.1;
  same = λ s has. ap (λ (l : List HolderEvent). held_at s l) (sym f.seen.1) ∙ f.own s has;
  has = refl;
  loads = refl;
  settled = (refl, refl);
}

kept_after : (aps : ℕ) (s : State (Unit {0}) View) (h : Kept aps s) (id : ℕ) (v : View) (r j n : ℕ) (e : HolderEvent) → get_elem? s.views id ≡ some v → is_in r v.has ≡ true → ((x : ℕ) → r ≢ x → held_at x (e ∷ h.log) ≡ held_at x h.log) → Shows aps (set s.words (state_word r j) n) (e ∷ h.log)
    → Kept aps (record { words = set s.words (state_word r j) n; homes = s.homes; views = set s.views id (added e h.log v) })
kept_after aps s h id v r j n e at has other shows =
    let now : List ℕ = set s.words (state_word r j) n in
    record {
      log = e ∷ h.log;
      shows = shows;
      fits = fits_after aps now (e ∷ h.log) s.views id (added e h.log v)
          (λ i u apart at_u. others_after aps s.words now h.log r e u other (λ x y k few. data_stay s.words r j n x y k few) (λ owns. apart (h.alone i id u v r at_u at owns (inl has))) (h.fits i u at_u))
          (added_fits aps s.words now h.log e v (h.fits id v at));
      alone = alone_after s.views id v (added e h.log v) at (λ x o. ⊎_elim (λ (a : is_in x v.has ≡ true). inl a) (λ (b : false ≡ true). absurd (true≢false (sym b))) o) h.alone;
    }

pub publishes : (aps slots id word r : ℕ) (new : RowWords) (me : Me (Unit {0}) View) → length (held_at r me.0.seen) < 64 → is_in r me.0.has ≡ true → me.0.writes ≡ r → me.0.draft ≡ row_words new → word ≡ state_word r (length (held_at r me.0.seen))
    → Allows (Kept aps) slots id me word (λ _. 1) (λ _. Published (step slots word 1 0 none) me 1)
publishes aps slots id word r new me small has writes whole is s h homes at range =
    let v = me.0 in
    let row : HolderRow = row_of (row_words new) in
    let f = h.fits id v at in
    let same : held_at r v.seen ≡ held_at r h.log = sym (f.own r has) in
    let m : ℕ = length (held_at r h.log) in
    let small' : m < 64 = subst (λ (ps : List HeldRow). length ps < 64) same small in
    let is' : word ≡ state_word r m = is ∙ ap (λ (ps : List HeldRow). state_word r (length ps)) same in
    let row_is : row ≡ row_of v.draft = sym (ap row_of whole) in
    let Q : List ℕ → Type 0 = λ ws. Kept aps (record { words = ws; homes = s.homes; views = set s.views id (added (Put r row) h.log v) }) in (
      added (Put r row) h.log v,
      keeps,
      tt,
      subst (λ (i : ℕ). Q (set s.words i 1)) (sym is')
          (kept_after aps s h id v r m 1 (Put r row) at has (put_other r row h.log) (shows_put aps s.words h.log r row (f.listed r (inl has)) small' (λ k few. written k few s h at) h.shows)),
      λ r' small'' is''.
          let here = one_state r r' (length (held_at r v.seen)) (length (held_at r' v.seen)) small small'' (sym is ∙ is'') in
          (subst (λ (e : HolderEvent). Adds e v (added (Put r row) h.log v)) (λ i. Put (here.0 i) (row_is i)) (adds aps s.words h.log (Put r row) v f), refl),
    )
  where
    written : (k : ℕ) → k < 7 → (s : State (Unit {0}) View) (h : Kept aps s) → get_elem? s.views id ≡ some me.0 → octets_in k (get_or s.words (data_word r (length (held_at r h.log)) k) 0) ≡ piece (row_of (row_words new)) k
    written k few s h at =
        let f = h.fits id me.0 at in
        let there : slice_get (row_words new) k ≡ Some (get_or (row_words new) k 0) = slice_get-get_or (row_words new) k 0 few in
        let d = f.draft k (get_or (row_words new) k 0) (subst (λ (xs : List ℕ). slice_get xs k ≡ Some (get_or (row_words new) k 0)) (sym whole) there) in
        ap (λ (x : ℕ). octets_in k x) (subst (λ (x : ℕ). get_or s.words (data_word x (length (held_at x h.log)) k) 0 ≡ get_or (row_words new) k 0) writes d.2) ∙ piece_back (row_words new) k few

pub revokes : (aps slots id word r j : ℕ) (p : HeldRow) (me : Me (Unit {0}) View) → j < 64 → is_in r me.0.has ≡ true → slice_get (held_at r me.0.seen) j ≡ Some p → word ≡ state_word r j
    → Allows (Kept aps) slots id me word (λ n. bit_or n 2) (Ended (step slots word 2 0 none) me)
revokes aps slots id word r j p me small has there is s h homes at range =
    let v = me.0 in
    let f = h.fits id v at in
    let there' : slice_get (held_at r h.log) j ≡ Some p = subst (λ (ps : List HeldRow). slice_get ps j ≡ Some p) (sym (f.own r has)) there in
    let was : get_or s.words word 0 ≡ live_word p.live = ap (λ (i : ℕ). get_or s.words i 0) is ∙ (h.shows.states r j small ∙ state_row (held_at r h.log) j p there') in
    let three : bit_or (get_or s.words word 0) 2 ≡ 3 = ap (λ (k : ℕ). bit_or k 2) was ∙ both p.live in
    let Q : List ℕ → Type 0 = λ ws. Kept aps (record { words = ws; homes = s.homes; views = set s.views id (added (Revoke r j) h.log v) }) in (
      added (Revoke r j) h.log v,
      keeps,
      tt,
      subst (λ (k : ℕ). Q (set s.words word k)) (sym three) (subst (λ (i : ℕ). Q (set s.words i 3)) (sym is)
          (kept_after aps s h id v r j 3 (Revoke r j) at has (end_other r j h.log) (shows_end aps s.words h.log r j (f.listed r (inl has)) (slice_get_within (held_at r h.log) j p there') h.shows))),
      λ r' j' small' is'.
          let here = one_state r r' j j' small small' (sym is ∙ is') in
          (subst (λ (e : HolderEvent). Adds e v (added (Revoke r j) h.log v)) (λ i. Revoke (here.0 i) (here.1 i)) (adds aps s.words h.log (Revoke r j) v f), refl),
    )
  where
    both : (b : Bool) → bit_or (live_word b) 2 ≡ 3
    both true = refl
    both false = refl

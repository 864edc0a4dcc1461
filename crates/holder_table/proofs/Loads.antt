-- Loads keep the rule.
use Rattle.std.proofs.Common.{◌≡◌, ℕ, ◌<◌, true, false, true≢false, List, [], ◌∷◌, ◌++◌, set, get_or, refl, sym, ap, ◌∙◌, subst, ⊎_elim, arith}
use Rattle.std.specs.Prelude.{All}
use Rattle.std.proofs.lemmas.List.{set-get_or}
use mathlib.Core.Option.{some, none}
use lib.ListN.{get_elem?}
use Rattle.atomic_table.specs.Table.{State, Me, step, Allows}
use Rattle.atomic_table.specs.Table.Act.{keeps}
use Rattle.key_holders.specs.declared.rows.HolderRow.{HolderRow}
use Rattle.holder_table.specs.declared.history.HolderEvent.{HolderEvent}
use Rattle.holder_table.specs.Histories.{held_at}
use Rattle.holder_table.proofs.Growth.{follows_grows}
use Rattle.holder_table.specs.declared.view.View.{View}
use Rattle.holder_table.specs.declared.view.Load.{Load}
use Rattle.holder_table.specs.Words.{state_word, state_of, octets_in, piece, Shows}
use Rattle.holder_table.specs.Rule.{is_in, Owns, Lasts, Fits, Kept}
use Rattle.holder_table.specs.Steps.{load_of, Sees, Looked, Settled, ReadWord}
use Rattle.holder_table.proofs.Places.{one_state}
use Rattle.holder_table.proofs.Lasting.{look_lasts}
use Rattle.holder_table.proofs.Views.{is_in-append, alone_after, fits_after}

-- what a pass knows once it has seen the history as it is
abbrev pub seen_now : List HolderEvent → List Load → ℕ → View → View
seen_now log loads r v = record { has = v.has ++ v.brought; seen = log; loads = loads; writes = 0; draft = []; brought = []; told = []; gives = r }

pub nil_end : (xs : List HolderEvent) → xs ≡ xs ++ []
nil_end [] = refl
nil_end (x ∷ xs) = ap (λ ys. x ∷ ys) (nil_end xs)

seen_owns : (log : List HolderEvent) (loads : List Load) (r : ℕ) (v : View) (s : ℕ) → Owns (seen_now log loads r v) s → Owns v s
seen_owns log loads r v s o =
    ⊎_elim
    (λ (e : is_in s (v.has ++ v.brought) ≡ true). is_in-append s v.has v.brought e)
    (λ (e : false ≡ true). absurd (true≢false (sym e)))
    o

seen_fits : (aps : ℕ) (words : List ℕ) (log : List HolderEvent) (loads : List Load) (r : ℕ) (v : View) → All (Lasts log) loads → Fits aps words log v → Fits aps words log (seen_now log loads r v)
seen_fits aps words log loads r v last f = record {
  seen = ([], refl);
  told = (log, nil_end log);
  own = λ s e. refl;
  brought = λ s e. absurd (true≢false (sym e));
  listed = λ s o. f.listed s (seen_owns log loads r v s o);
  loads = last;
  short = omega arith;
  draft = λ k m e. absurd (cc);
}

-- the rule where the words stay
pub kept_same : (aps : ℕ) (s : State (Unit {0}) View) (h : Kept aps s) (id word : ℕ) (v w : View) → get_elem? s.views id ≡ some v → Fits aps s.words h.log w → ((r : ℕ) → Owns w r → Owns v r)
    → Kept aps (record { words = set s.words word (get_or s.words word 0); homes = s.homes; views = set s.views id w })
kept_same aps s h id word v w at mine owns =
    let same : set s.words word (get_or s.words word 0) ≡ s.words = set-get_or s.words word 0 in
    record {
      log = h.log;
      shows = subst (λ (ws : List ℕ). Shows aps ws h.log) (sym same) h.shows;
      fits = subst (λ (ws : List ℕ). (j : ℕ) (u : View) → get_elem? (set s.views id w) j ≡ some u → Fits aps ws h.log u) (sym same) (fits_after aps s.words h.log s.views id w (λ j u _ e. h.fits j u e) mine);
      alone = alone_after s.views id v w at owns h.alone;
    }

-- a look sees the history as it is
pub sees : (aps : ℕ) (words : List ℕ) (log : List HolderEvent) (loads : List Load) (r : ℕ) (v : View) → Fits aps words log v → Sees v (seen_now log loads r v)
sees aps words log loads r v f = record {
  seen = f.seen;
  told = f.told;
  has = refl;
  own = λ s e. f.own s e;
  brought = λ s e. f.brought s e;
  loads = f.loads;
  settled = (refl, refl);
}

pub looks : (aps slots id word r j : ℕ) (me : Me (Unit {0}) View) → j < 64 → word ≡ state_word r j → Allows (Kept aps) slots id me word (λ n. n) (Looked (step slots word 0 0 none) me)
looks aps slots id word r j me small is s h homes at range =
    let v = me.0 in
    let f = h.fits id v at in
    let n : ℕ = get_or s.words word 0 in
    let loads = load_of r j n ∷ v.loads in
    let states : n ≡ state_of (held_at r h.log) j = subst (λ (k : ℕ). get_or s.words k 0 ≡ state_of (held_at r h.log) j) (sym is) (h.shows.states r j small) in
    let w = seen_now h.log loads r v in (
      w,
      keeps,
      tt,
      kept_same aps s h id word v w at (seen_fits aps s.words h.log loads r v (look_lasts h.log r j n v.loads states f.loads) f) (seen_owns h.log loads r v),
      λ r' j' small' is'.
          let one = one_state r r' j j' small small' (sym is ∙ is') in (
            sees aps s.words h.log loads r v f,
            subst (λ (k : ℕ). get_or s.words k 0 ≡ state_of (held_at r' h.log) j') (sym is') (h.shows.states r' j' small'),
            (λ i. load_of (one.0 i) (one.1 i) n ∷ v.loads),
            one.0,
            h.shows.room r',
            refl,
          ),
    )

pub settles : (aps slots id word : ℕ) (me : Me (Unit {0}) View) → Allows (Kept aps) slots id me word (λ n. n) (Settled (step slots word 0 0 none) me)
settles aps slots id word me s h homes at range =
    let v = me.0 in
    let f = h.fits id v at in
    let w = seen_now h.log v.loads v.gives v in
    (w, keeps, tt, kept_same aps s h id word v w at (seen_fits aps s.words h.log v.loads v.gives v f.loads f) (seen_owns h.log v.loads v.gives v), (sees aps s.words h.log v.loads v.gives v f, refl, refl))

pub reads : (aps slots id word : ℕ) (me : Me (Unit {0}) View) → Allows (Kept aps) slots id me word (λ n. n) (ReadWord (step slots word 0 0 none) me)
reads aps slots id word me s h homes at range =
    let v = me.0 in
    let f = h.fits id v at in (
      v,
      keeps,
      tt,
      kept_same aps s h id word v v at f (λ r o. o),
      (
        refl,
        λ r j k p small few is there.
            let now = follows_grows r v.seen h.log f.seen j p there in
            subst (λ (i : ℕ). octets_in k (get_or s.words i 0) ≡ piece p.row k) (sym is) (h.shows.rows r j k now.0 now.1 few ∙ ap (λ (row : HolderRow). piece row k) now.2),
      ),
    )

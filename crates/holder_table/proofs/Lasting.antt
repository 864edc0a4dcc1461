-- What lasts of loads, as a history goes on.
use Rattle.std.proofs.Common.{◌≡◌, ℕ, zero, suc, true, false, List, ◌∷◌, ◌++◌, refl, sym, subst, ⊎_elim, arith}
use Rattle.std.specs.Prelude.{All}
use Rattle.holder_table.specs.declared.history.HolderEvent.{HolderEvent}
use Rattle.holder_table.specs.declared.view.View.{View}
use Rattle.holder_table.specs.declared.view.Load.{Load}
use Rattle.holder_table.specs.Histories.{held_at, Follows}
use Rattle.holder_table.specs.Words.{state_of}
use Rattle.holder_table.specs.Rule.{Lasts, LoadsLast}
use Rattle.holder_table.specs.Steps.{load_of, Sees, Adds}
use Rattle.holder_table.proofs.Growth.{follows_grows}
use Rattle.holder_table.proofs.Places.{row_state}

lasts_on : (earlier later : List HolderEvent) → Follows earlier later → (l : Load) → Lasts earlier l → Lasts later l
lasts_on earlier later f l h there =
    let p = h there in
    let q = follows_grows l.ap earlier later f l.place p.0 p.1 in
    (q.0, q.1, λ three. q.3 (p.2 three))

pub all_last_on : (earlier later : List HolderEvent) (loads : List Load) → Follows earlier later → All (Lasts earlier) loads → All (Lasts later) loads
all_last_on earlier later loads f all k d h = lasts_on earlier later f _ (all k d h)

-- a look, whose state is as the history says
looked_lasts : (log : List HolderEvent) (r j n : ℕ) → n ≡ state_of (held_at r log) j → Lasts log (load_of r j n)
looked_lasts log r j n is there =
    let here = row_state (held_at r log) j n (sym is) there in (
      here.0,
      here.1,
      λ three. ⊎_elim
          (λ (one : (n ≡ 1) × (here.0.live ≡ true)). absurd (omega (arith, one.0, three)))
          (λ (other : (n ≡ 3) × (here.0.live ≡ false)). other.1)
          here.2,
    )

pub look_lasts : (log : List HolderEvent) (r j n : ℕ) (loads : List Load) → n ≡ state_of (held_at r log) j → All (Lasts log) loads → All (Lasts log) (load_of r j n ∷ loads)
look_lasts log r j n loads is all zero d h = looked_lasts log r j n is
look_lasts log r j n loads is all (suc k) d h = all k d (omega arith)

module _ (v w : View) where
  -- after a look, after a join's look, and after an event
  pub seen_lasts : (r j n : ℕ) → Sees v w → n ≡ state_of (held_at r w.seen) j → w.loads ≡ load_of r j n ∷ v.loads → LoadsLast w
  seen_lasts r j n s is loads = subst (λ (ls : List Load). All (Lasts w.seen) ls) (sym loads) (look_lasts w.seen r j n v.loads is s.loads)

  pub settled_lasts : Sees v w → w.loads ≡ v.loads → LoadsLast w
  settled_lasts s loads = subst (λ (ls : List Load). All (Lasts w.seen) ls) (sym loads) s.loads

  pub added_lasts : (e : HolderEvent) → Adds e v w → LoadsLast v → LoadsLast w
  added_lasts e a last =
      subst (λ (h : List HolderEvent). All (Lasts h) w.loads) (sym a.seen)
      (subst (λ (ls : List Load). All (Lasts (e ∷ a.between ++ v.seen)) ls) (sym a.loads)
      (all_last_on v.seen (e ∷ a.between ++ v.seen) v.loads (e ∷ a.between, refl) last))

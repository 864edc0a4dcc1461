-- What a walk says of the rows of an access point of the pass, and of any.
use Rattle.std.proofs.Common.{◌≡◌, ℕ, ◌<◌, true, false, List, length, Some, None, refl, sym, ap, ◌∙◌, subst}
use Rattle.std.specs.Prelude.{slice_get}
use Rattle.domain_base.specs.declared.names.Mac.{Mac}
use Rattle.key_holders.specs.declared.rows.HolderRow.{HolderRow}
use Rattle.key_holders.specs.Rows.{holds_live}
use Rattle.key_holders.proofs.Lives.{same_some, live_holds, none_holds}
use Rattle.holder_table.specs.declared.row_table.Spot.TheVariants.{Live, Free}
use Rattle.holder_table.specs.declared.view.View.{View}
use Rattle.holder_table.specs.Histories.{HeldRow, is_in, live, held_at}
use Rattle.holder_table.specs.Steps.{load_of}
use Rattle.holder_table.specs.Knowledge.{KnowsMore, LastLoad, Finds}
use Rattle.holder_table.specs.Scans.{Spotted}

module _ (r : ℕ) (name : List ℕ) (v w : View) (m : KnowsMore v w) (has : is_in r v.has ≡ true) where
  pub spot_lives : (j : ℕ) → Spotted r name None v w (Live j) → holds_live name (held_at r v.seen) ≡ true
  spot_lives j s =
      let row = s.1.0 in
      live_holds name (held_at r v.seen) j (live row) (subst (λ (ps : List HeldRow). slice_get ps j ≡ Some (live row)) (m.own r has) s.1.1) refl s.1.2.0

  pub spot_none : (n : ℕ) → Spotted r name None v w (Free n) → holds_live name (held_at r v.seen) ≡ false
  spot_none n s = none_holds name (held_at r v.seen) (λ j h e is. s.0 j h (subst (λ (ps : List HeldRow). slice_get ps j ≡ Some h) (sym (m.own r has)) e) (is, tt))

  pub spot_length : (n : ℕ) → Spotted r name None v w (Free n) → length (held_at r v.seen) ≡ n
  spot_length n s = ap (λ (ps : List HeldRow). length ps) (sym (m.own r has)) ∙ s.1

module _ (r : ℕ) (name : List ℕ) (sta : Mac) (v w : View) where
  pub finds_row : (j : ℕ) (row : HolderRow) → Spotted r name (Some sta) v w (Live j) → slice_get (held_at r w.seen) j ≡ Some (live row) → Finds r name sta v w (Some row)
  finds_row j row s there =
      let same : s.1.0 ≡ row = same_live s.1.0 row (sym s.1.1 ∙ there) in
      (j, there, (ap (λ (x : HolderRow). x.name) (sym same) ∙ s.1.2.0, ap (λ (x : HolderRow). x.sta) (sym same) ∙ s.1.2.1), s.2)
    where
      same_live : (a b : HolderRow) → Some (live a) ≡ Some (live b) → a ≡ b
      same_live a b e = ap (λ (h : HeldRow). h.row) (same_some (live a) (live b) e)

  pub finds_none : (n : ℕ) → Spotted r name (Some sta) v w (Free n) → Finds r name sta v w None
  finds_none n s = (
    λ j h e is. s.0 j h e is,
    λ few. subst (λ (k : ℕ). LastLoad (load_of r k 0) v w) (sym s.1) (s.3 (subst (λ (k : ℕ). k < 64) s.1 few)),
  )

-- Rows stay, and stay revoked, as a history goes on.
use Rattle.std.proofs.Common.{◌≡◌, ℕ, zero, suc, eqb, Bool, true, false, cond, List, [], ◌∷◌, ◌++◌, Some, refl, sym, ap, ◌∙◌, subst}
use Rattle.holder_table.specs.declared.history.HolderEvent.{HolderEvent}
use Rattle.holder_table.specs.declared.history.HolderEvent.TheVariants.{Put, Revoke}
use Rattle.holder_table.specs.Histories.{HeldRow, live, ended_at, held_at, Follows, Grows}

pub same_grows : (ps : List HeldRow) → Grows ps ps
same_grows ps j p e = (p, e, refl, λ h. h)

pub grows_on : (ps qs rs : List HeldRow) → Grows ps qs → Grows qs rs → Grows ps rs
grows_on ps qs rs a b j p e =
    let x = a j p e in
    let y = b j x.0 x.1 in
    (y.0, y.1, y.2 ∙ x.2, λ h. y.3 (x.3 h))

more_grows : (ps qs : List HeldRow) → Grows ps (ps ++ qs)
more_grows [] qs j p e = absurd (cc)
more_grows (x ∷ ps) qs zero p e = (p, e, refl, λ h. h)
more_grows (x ∷ ps) qs (suc j) p e = more_grows ps qs j p e

ended_grows : (k : ℕ) (ps : List HeldRow) → Grows ps (ended_at k ps)
ended_grows k [] j p e = absurd (cc)
ended_grows zero (x ∷ ps) zero p e = (record { row = x.row; live = false }, refl, ap (λ (o : HeldRow). o.row) (some_is x p e), λ h. refl)
  where
    some_is : (x p : HeldRow) → Some x ≡ Some p → x ≡ p
    some_is x p e = cc
ended_grows zero (x ∷ ps) (suc j) p e = (p, e, refl, λ h. h)
ended_grows (suc k) (x ∷ ps) zero p e = (p, e, refl, λ h. h)
ended_grows (suc k) (x ∷ ps) (suc j) p e = ended_grows k ps j p e

grows_if : (b : Bool) (ps qs rs : List HeldRow) → Grows ps qs → Grows ps rs → Grows ps (cond b qs rs)
grows_if true ps qs rs yes' no' = yes'
grows_if false ps qs rs yes' no' = no'

event_grows : (r : ℕ) (e : HolderEvent) (h : List HolderEvent) → Grows (held_at r h) (held_at r (e ∷ h))
event_grows r (Put at row) h = grows_if (eqb at r) (held_at r h) (held_at r h ++ live row ∷ []) (held_at r h) (more_grows (held_at r h) (live row ∷ [])) (same_grows (held_at r h))
event_grows r (Revoke at j) h = grows_if (eqb at r) (held_at r h) (ended_at j (held_at r h)) (held_at r h) (ended_grows j (held_at r h)) (same_grows (held_at r h))

events_grow : (r : ℕ) (since h : List HolderEvent) → Grows (held_at r h) (held_at r (since ++ h))
events_grow r [] h = same_grows (held_at r h)
events_grow r (e ∷ since) h = grows_on (held_at r h) (held_at r (since ++ h)) (held_at r (e ∷ since ++ h)) (events_grow r since h) (event_grows r e (since ++ h))

pub follows_grows : (r : ℕ) (earlier later : List HolderEvent) → Follows earlier later → Grows (held_at r earlier) (held_at r later)
follows_grows r earlier later f = subst (λ (h : List HolderEvent). Grows (held_at r earlier) (held_at r h)) (sym f.1) (events_grow r f.0 earlier)

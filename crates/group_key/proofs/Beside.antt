-- The IGTKs of an access point beside its GTKs.
use Rattle.std.proofs.Common.{◌≡◌, ℕ, suc, ◌<◌, List, Option, Some, None, refl, sym, ap, subst, inl, inr}
use Rattle.std.specs.Prelude.{◌^◌, is_some, option_map}
use Rattle.std.specs.Option.{ForSome}
use Rattle.run_journal.specs.declared.acts.GroupKind.TheVariants as groups
use Rattle.group_key.specs.declared.keys.Pair.{Pair}
use Rattle.group_key.specs.Keys.{started, drawn, drawn_beside, switched, IsInTurn, AreBeside}

pub beside_started : (first : List ℕ) (igtk : Option (List ℕ)) → AreBeside (started groups.Gtk first) (option_map (started groups.Igtk) igtk)
beside_started first None = tt
beside_started first (Some key) = (refl, refl)

pub places_low : (s : Pair) (o : Option Pair) → AreBeside s o → s.newest.place < 2 ^ 60 → ForSome o (λ (t : Pair). t.newest.place < 2 ^ 60)
places_low s None beside low = λ x e. absurd (cc e)
places_low s (Some t) beside low = λ x e. let is : t ≡ x = cc e in subst (λ (y : Pair). y.newest.place < 2 ^ 60) is (subst (λ (n : ℕ). n < 2 ^ 60) (sym beside.0) low)

pub turn_drawn : (s : Pair) (next : List ℕ) → s.newest.place ≡ s.current.place → IsInTurn (drawn groups.Gtk next s)
turn_drawn s next in_use = inr (ap suc in_use)

pub beside_drawn : (s : Pair) (next : List ℕ) (igtk : Option (List ℕ)) (o : Option Pair) → is_some igtk ≡ is_some o → AreBeside s o → AreBeside (drawn groups.Gtk next s) (drawn_beside igtk o)
beside_drawn s next None None both beside = tt
beside_drawn s next (Some key) None both beside = tt
beside_drawn s next None (Some t) both beside = absurd (cc both)
beside_drawn s next (Some key) (Some t) both beside = (ap suc beside.0, beside.1)

pub beside_switched : (s : Pair) (o : Option Pair) → AreBeside s o → AreBeside (switched s) (option_map switched o)
beside_switched s None beside = tt
beside_switched s (Some t) beside = (beside.0, beside.0)

-- ---- by other names

pub turn_started : (s : Pair) (first : List ℕ) → s ≡ started groups.Gtk first → IsInTurn s
turn_started s first is = subst IsInTurn (sym is) (inl refl)

pub started_beside : (s : Pair) (o : Option Pair) (first : List ℕ) (igtk : Option (List ℕ)) → s ≡ started groups.Gtk first → o ≡ option_map (started groups.Igtk) igtk → AreBeside s o
started_beside s o first igtk is are = subst (λ (x : Pair). AreBeside x o) (sym is) (subst (AreBeside (started groups.Gtk first)) (sym are) (beside_started first igtk))

pub turn_drawn_as : (s t : Pair) (next : List ℕ) → s.newest.place ≡ s.current.place → t ≡ drawn groups.Gtk next s → IsInTurn t
turn_drawn_as s t next in_use is = subst IsInTurn (sym is) (turn_drawn s next in_use)

pub drawn_beside_as : (s t : Pair) (o q : Option Pair) (next : List ℕ) (igtk : Option (List ℕ)) → is_some igtk ≡ is_some o → AreBeside s o → t ≡ drawn groups.Gtk next s → q ≡ drawn_beside igtk o → AreBeside t q
drawn_beside_as s t o q next igtk both beside is are =
    subst (λ (x : Pair). AreBeside x q) (sym is) (subst (AreBeside (drawn groups.Gtk next s)) (sym are) (beside_drawn s next igtk o both beside))

pub turn_switched : (s t : Pair) → t ≡ switched s → IsInTurn t
turn_switched s t is = subst IsInTurn (sym is) (inl refl)

pub switched_beside : (s t : Pair) (o q : Option Pair) → AreBeside s o → t ≡ switched s → q ≡ option_map switched o → AreBeside t q
switched_beside s t o q beside is are = subst (λ (x : Pair). AreBeside x q) (sym is) (subst (AreBeside (switched s)) (sym are) (beside_switched s o beside))

-- An access point that draws no new group keys.
use Rattle.std.proofs.Common.{◌≡◌, ◌+◌, ◌≤◌, ℕ, suc, false, List, [], ◌∷◌, ◌++◌, is_some, refl, ap₂, subst, ◌∙◌}
use Rattle.std.specs.Prelude.{nat_lt}
use Rattle.std.proofs.lemmas.Bool.{eq-eqb, ltb-false}
use Rattle.run_journal.specs.declared.acts.GroupKind.TheVariants as groups
use Rattle.run_journal.specs.declared.domain.Domain.{Domain}
use Rattle.run_journal.specs.declared.acts.Why.TheVariants as why
use Rattle.run_journal.specs.declared.acts.Outcome.TheVariants.{Idle as IdleBy}
use Rattle.run_journal.specs.declared.acts.Act.{Act}
use Rattle.run_journal.specs.declared.acts.Act.TheVariants.{Idle}
use Rattle.domain_rules.specs.Network.{draw_end}
use Rattle.domain_rules.specs.AccessPointRows.{Pending, Spent}
use Rattle.domain_rules.specs.Rows.{Rekey}
use Rattle.node_base.specs.Events.{seen}
use Rattle.group_key.proofs.Drawing.{in_use}
use Rattle.ap_node.specs.Drawing.{last_of}
use Rattle.ap_node.specs.State.{State}
use Rattle.ap_node.specs.Takes.{IsTaken}
use Rattle.ap_node.proofs.BothDrawn.{next_apart}
use Rattle.ap_node.proofs.Others.{same-idle}
use Rattle.ap_node.proofs.Standing.{so_far_as_before, has_igtk}
use Rattle.ap_node.proofs.Refusing.{stays}

-- the last one is not in use yet
pub takes_pending : (d : Domain) (s : State) (waited waits : List Act) → s.group.gtk.newest.place ≡ suc s.group.gtk.current.place → waits ≡ waited ++ Idle why.RekeyPending ∷ [] → IsTaken d Rekey s s (seen waited waits (IdleBy why.RekeyPending))
takes_pending d s waited waits next waiting = stays d s Rekey (seen waited waits (IdleBy why.RekeyPending)) (λ first h stands. record {
  acts = Idle why.RekeyPending ∷ [];
  row = Pending (in_use groups.Gtk s.group.gtk h stands.so_far.group_is.gtk ∙ next_apart s.group.gtk.newest.place s.group.gtk.current.place next) refl;
  waiting = waiting;
  came = refl;
  stands = so_far_as_before d first s h (Idle why.RekeyPending ∷ h) (same-idle why.RekeyPending h) stands.so_far;
  marks = ((tt, refl), tt);
})

-- no value is left to be drawn
pub takes_no_draw : (d : Domain) (s : State) (waited waits : List Act) → s.group.gtk.newest.place ≡ s.group.gtk.current.place → nat_lt (last_of (is_some s.group.igtk) s.drawn) draw_end ≡ false → waits ≡ waited ++ Idle why.Spent ∷ [] → IsTaken d Rekey s s (seen waited waits (IdleBy why.Spent))
takes_no_draw d s waited waits same spent waiting = stays d s Rekey (seen waited waits (IdleBy why.Spent)) (λ first h stands. record {
  acts = Idle why.Spent ∷ [];
  row = Spent (in_use groups.Gtk s.group.gtk h stands.so_far.group_is.gtk ∙ eq-eqb s.group.gtk.newest.place s.group.gtk.current.place same)
      (subst (λ (n : ℕ). draw_end ≤ n) (ap₂ last_of (has_igtk d first s h stands.so_far) stands.so_far.draws_are) (ltb-false (last_of (is_some s.group.igtk) s.drawn) draw_end spent)) refl;
  waiting = waiting;
  came = refl;
  stands = so_far_as_before d first s h (Idle why.Spent ∷ h) (same-idle why.Spent h) stands.so_far;
  marks = ((tt, refl), tt);
})

use Rattle.std.proofs.Common.{◌≡◌, ◌≢◌, ◌<◌, ◌^◌, ℕ, Bool, false, List, ◌++◌, append_assoc, arith, refl, sym, ap, subst, ◌∙◌}
use Rattle.std.specs.Prelude.{◌-◌}
use Rattle.domain_base.specs.declared.names.Node.TheVariants.{Sta}
use Rattle.run_journal.specs.declared.acts.Act.{Act}
use Rattle.ap_node.specs.State.{State, station_at, has_attempt, has_session}
use Rattle.ap_node.specs.Counts.{owes_part, recounted}
use Rattle.ap_node.specs.Changing.{RevokesOld, changed_acts}
use Rattle.ap_node.specs.Putting.{LeavesRest}
use Rattle.ap_node.specs.Takes.{IsBeside}
use Rattle.ap_node.proofs.Messaging.{the_state, owes_same, beside_count}
use Rattle.ap_node.proofs.Rows.{rest}
use Rattle.ap_node.proofs.access_point.ApNode.change_one.Goals as goal

joined : (waited g k mid waits : List Act) → mid ≡ waited ++ g → waits ≡ mid ++ k → waits ≡ waited ++ (g ++ k)
joined waited g k mid waits first then = then ∙ ap (λ (l : List Act). l ++ k) first ∙ append_assoc waited g k

pub returns-clause-rekeyed : goal.returns-clause-rekeyed
returns-clause-rekeyed over c =
    let d = c.args.here.domain.now in
    let old = c.args.self.now in
    let sta = c.args.station in
    let psk = c.args.psk.now in
    let before = over.H.Holders.rows c.args.holders.now in
    let after = over.H.Holders.rows c.revoke_old.new.holders in
    let number : c.self.inside.number ≡ old.number = ap (λ (s : State). s.number) c.self.view_is in
    let r = c.revoke_old.ensures.revoked in
    let g = c.newest-newest.result in
    let newest_is : g ≡ old.group.gtk.newest = c.newest-newest.ensures ∙ ap (λ (s : State). s.group.gtk.newest) c.self.view_is in
    let was : station_at c.self.inside.stations.entries sta ≡ station_at old.stations sta = ap (λ (s : State). station_at s.stations sta) c.self.view_is in
    let new : State = the_state c.self.inside.number c.self.inside.drawn c.self.inside.group c.self.inside.sending c.drop_part-had_attempt.new.stations.entries c.recounted-self-inside.result in
    let others = λ (k : ℕ) (other : k ≢ sta). c.drop_part-had_attempt.ensures.others k other ∙ ap (λ (s : State). station_at s.stations k) c.self.view_is in
    let owed_is = c.owes-owed.ensures ∙ owes_same g old.group.gtk.newest (station_at c.self.inside.stations.entries sta) (station_at old.stations sta) newest_is was in
    let owes_is = sym (ap (owes_part old.group.gtk.newest.place) c.drop_part-had_attempt.ensures.left) in
    let exact = subst (λ (n : ℕ). n < 2 ^ 64 - 1 → c.recounted-self-inside.result ≡ recounted n c.owes-owed.result false) (ap (λ (s : State). s.owing) c.self.view_is) c.recounted-self-inside.ensures.exact in
    let beside : IsBeside old new sta = record {
      number = number;
      drawn = ap (λ (s : State). s.drawn) c.self.view_is;
      group = ap (λ (s : State). s.group) c.self.view_is;
      sending = ap (λ (s : State). s.sending) c.self.view_is;
      counts = beside_count old new sta c.owes-owed.result false others owed_is owes_is exact;
      others = others;
    } in
    let a = c.drop_part-had_attempt.result.0 in
    let s = c.drop_part-had_attempt.result.1 in
    let ended = changed_acts (Sta sta) a s psk in (
      r.0 ++ ended,
      joined c.args.out.now.acts r.0 ended c.revoke_old.new.out.acts c.add_changed.new.out.acts r.1 c.add_changed.ensures.acts,
      record {
        beside = beside;
        left = c.drop_part-had_attempt.ensures.left;
        revoked = r.0;
        revokes = subst (λ (k : ℕ). RevokesOld d.akm d k sta (before k) (after k) r.0) number r.2;
        says = ap (λ (k : List Act). r.0 ++ k) (same_ended (c.drop_part-had_attempt.ensures.attempt ∙ ap has_attempt was) (c.drop_part-had_attempt.ensures.session ∙ ap has_session was));
      },
    )
  where
    same_ended : {a b e f : Bool} → a ≡ b → e ≡ f → changed_acts (Sta c.args.station) a e c.args.psk.now ≡ changed_acts (Sta c.args.station) b f c.args.psk.now
    same_ended is also = rw (is, also) refl

pub returns-clause-others : goal.returns-clause-others
returns-clause-others over c =
    let before = c.args.holders.now in
    let after = c.revoke_old.new.holders in
    subst (λ (k : ℕ). LeavesRest k (over.H.Holders.ids before) (over.H.Holders.ids after) (over.H.Holders.has before) (over.H.Holders.has after) (over.H.Holders.rows before) (over.H.Holders.rows after)) (ap (λ (t : State). t.number) c.self.view_is) (rest c.revoke_old.ensures.others)

pub returns-clause-number : goal.returns-clause-number
returns-clause-number over c = ap (λ (s : State). s.number) c.self.view_is

pub returns-clause-spare : goal.returns-clause-spare
returns-clause-spare over c = omega (arith, c.revoke_old.ensures.spare, c.add_changed.ensures.spare)

pub add_changed-requires : goal.add_changed-requires
add_changed-requires over c = omega (arith, c.requires.room, c.revoke_old.ensures.spare)

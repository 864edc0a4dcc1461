use Rattle.std.proofs.Common.{◌≡◌, ◌<◌, ℕ, suc, List, length, ◌++◌, [], append_assoc, append-nil, Option, arith, refl, sym, ap, subst, ◌∙◌}
use Rattle.key_holders.specs.Rows.{is_in}
use Rattle.key_holders.specs.declared.rows.HeldRow.{HeldRow}
use Rattle.run_journal.specs.declared.acts.Act.{Act}
use Rattle.run_journal.specs.declared.domain.Domain.{Domain}
use Rattle.run_journal.specs.Events.{NamesSta}
use Rattle.domain_rules.specs.Network.{InForm}
use Rattle.ap_node.specs.State.{State}
use Rattle.ap_node.specs.Changing.{AreRekeyed, IsRekeyed, RekeysNamed}
use Rattle.ap_node.specs.Putting.{LeavesRest}
use Rattle.ap_node.proofs.access_point.ApNode.change_named.Goals as goal

small : (d : Domain) → InForm d → length d.stas < 65536
small d form = omega (arith, form.few_stas)

-- one after the other leaves what both leave
both_rest : {a : ℕ} {ids_old ids_mid ids_new : List (List ℕ)} {has_old has_mid has_new : List ℕ} {old mid new : ℕ → List HeldRow}
    → LeavesRest a ids_old ids_mid has_old has_mid old mid → LeavesRest a ids_mid ids_new has_mid has_new mid new → LeavesRest a ids_old ids_new has_old has_new old new
both_rest one two = record {
  ids = two.ids ∙ one.ids;
  still_has = two.still_has ∙ one.still_has;
  others = λ r other in_has. two.others r other (ap (is_in r) one.still_has ∙ in_has) ∙ one.others r other in_has;
}

next_rekeyed : (d : Domain) (psk : List ℕ) (k next : ℕ) → next ≡ suc k → (old mid new : State) (xs zs ys : List HeldRow) (waited half waits : List Act)
    → (g : List Act) × (half ≡ waited ++ g) × AreRekeyed d psk k old mid xs zs g → (g : List Act) × (waits ≡ half ++ g) × IsRekeyed d k psk mid new zs ys g
    → (g : List Act) × (waits ≡ waited ++ g) × AreRekeyed d psk next old new xs ys g
next_rekeyed d psk k next is old mid new xs zs ys waited half waits before one =
    subst (λ (n : ℕ). (g : List Act) × (waits ≡ waited ++ g) × AreRekeyed d psk n old new xs ys g) (sym is)
    (before.0 ++ one.0, one.1 ∙ ap (λ (l : List Act). l ++ one.0) before.1 ∙ append_assoc waited before.0 one.0, (mid, zs, before.0, one.0, refl, before.2, one.2))

pub loop-station-init : goal.loop-station-init
loop-station-init over c = record {
  count = c.len-count.ensures;
  in_range = omega arith;
  rekeyed = ([], sym (append-nil _), (refl, refl, refl));
  number = refl;
  others = record { ids = refl; still_has = refl; others = λ r other in_has. refl };
  no_less = over.met.H.Holders.same c.args.holders.now;
  spare = omega arith;
}

pub loop-station-preserved : goal.loop-station-preserved
loop-station-preserved over c =
    let l = c.loop-station.invariant in
    let d = c.args.here.domain.now in
    let a = c.args.self.now.number in
    let rows = over.H.Holders.rows in
    let one = c.change_one-in-loop-station.ensures in
    let was = c.loop-station.holders in
    let is = c.change_one-in-loop-station.new.holders in
    let k = c.loop-station.station in
    let rekeyed_at = subst (λ (n : ℕ). (g : List Act) × (c.change_one-in-loop-station.new.out.acts ≡ c.loop-station.out.acts ++ g) × IsRekeyed d k c.args.psk.now c.loop-station.self c.change_one-in-loop-station.new.self (rows was n) (rows is n) g) l.number one.rekeyed in
    record {
      count = l.count;
      in_range = omega (arith, c.loop-station-test.true);
      rekeyed = next_rekeyed d c.args.psk.now k _ (omega arith) c.args.self.now c.loop-station.self c.change_one-in-loop-station.new.self _ _ _ c.args.out.now.acts c.loop-station.out.acts c.change_one-in-loop-station.new.out.acts l.rekeyed rekeyed_at;
      number = one.number ∙ l.number;
      others = both_rest l.others (subst (λ (n : ℕ). LeavesRest n (over.H.Holders.ids was) (over.H.Holders.ids is) (over.H.Holders.has was) (over.H.Holders.has is) (rows was) (rows is)) l.number one.others);
      no_less = over.met.H.Holders.chain c.args.holders.now was is l.no_less one.no_less;
      spare = omega (arith, l.spare, one.spare);
    }

-- ---- what it returns, for all stations

pub returns-after-loop-station-clause-rekeyed : goal.returns-after-loop-station-clause-rekeyed
returns-after-loop-station-clause-rekeyed over c =
    let l = c.loop-station.invariant in
    let d = c.args.here.domain.now in
    let n = c.args.self.now.number in
    let before = over.H.Holders.rows c.args.holders.now n in
    let after = over.H.Holders.rows c.loop-station.holders n in
    let at_end : c.loop-station.station ≡ length d.stas = omega (arith, l.in_range, l.count, c.loop-station-test.false) in
    let r = l.rekeyed in
    subst (λ (named : Option ℕ). (g : List Act) × (c.loop-station.out.acts ≡ c.args.out.now.acts ++ g) × RekeysNamed d named c.args.psk.now c.args.self.now c.loop-station.self before after g) (sym c.in-None.is)
    (r.0, r.1, subst (λ (k : ℕ). AreRekeyed d c.args.psk.now k c.args.self.now c.loop-station.self before after r.0) at_end r.2)

pub returns-after-loop-station-clause-number : goal.returns-after-loop-station-clause-number
returns-after-loop-station-clause-number over c = c.loop-station.invariant.number

pub returns-after-loop-station-clause-others : goal.returns-after-loop-station-clause-others
returns-after-loop-station-clause-others over c = c.loop-station.invariant.others

pub returns-after-loop-station-clause-no_less : goal.returns-after-loop-station-clause-no_less
returns-after-loop-station-clause-no_less over c = c.loop-station.invariant.no_less

pub returns-after-loop-station-clause-room : goal.returns-after-loop-station-clause-room
returns-after-loop-station-clause-room over c = omega (arith, c.requires.room, c.loop-station.invariant.spare, c.loop-station.invariant.in_range, c.loop-station.invariant.count)

pub returns-after-loop-station-clause-spare : goal.returns-after-loop-station-clause-spare
returns-after-loop-station-clause-spare over c = omega (arith, c.loop-station.invariant.spare, c.loop-station.invariant.in_range, c.loop-station.invariant.count)

-- ---- and for one

pub returns-in-Some-clause-rekeyed : goal.returns-in-Some-clause-rekeyed
returns-in-Some-clause-rekeyed over c =
    let n = c.args.self.now.number in
    subst (λ (named : Option ℕ). (g : List Act) × (c.change_one.new.out.acts ≡ c.args.out.now.acts ++ g) × RekeysNamed c.args.here.domain.now named c.args.psk.now c.args.self.now c.change_one.new.self
    (over.H.Holders.rows c.args.holders.now n) (over.H.Holders.rows c.change_one.new.holders n) g) (sym c.in-Some.is) c.change_one.ensures.rekeyed

pub returns-in-Some-clause-room : goal.returns-in-Some-clause-room
returns-in-Some-clause-room over c = omega (arith, c.requires.room, c.change_one.ensures.spare)

pub returns-in-Some-clause-spare : goal.returns-in-Some-clause-spare
returns-in-Some-clause-spare over c = omega (arith, c.change_one.ensures.spare)

pub change_one-requires-clause-station : goal.change_one-requires-clause-station
change_one-requires-clause-station over c = subst (NamesSta c.args.here.domain.now) c.in-Some.is c.requires.sta

pub change_one-requires-clause-room : goal.change_one-requires-clause-room
change_one-requires-clause-room over c = omega (arith, c.requires.room)

-- ---- what each of all needs

pub overflow_cast-count : goal.overflow_cast-count
overflow_cast-count over c = omega (arith, c.len-count.ensures, small c.args.here.domain.now c.requires.form)

pub change_one-requires-in-loop-station-clause-listed : goal.change_one-requires-in-loop-station-clause-listed
change_one-requires-in-loop-station-clause-listed over c = subst (λ (n : ℕ). n < length c.args.here.domain.now.aps) (sym c.loop-station.invariant.number) c.requires.listed

pub change_one-requires-in-loop-station-clause-station : goal.change_one-requires-in-loop-station-clause-station
change_one-requires-in-loop-station-clause-station over c = omega (arith, c.loop-station-test.true, c.loop-station.invariant.count)

pub change_one-requires-in-loop-station-clause-has : goal.change_one-requires-in-loop-station-clause-has
change_one-requires-in-loop-station-clause-has over c =
    ap (λ (n : ℕ). is_in n (over.H.Holders.has c.loop-station.holders)) c.loop-station.invariant.number ∙ ap (is_in c.args.self.now.number) c.loop-station.invariant.others.still_has ∙ c.requires.has

pub change_one-requires-in-loop-station-clause-room : goal.change_one-requires-in-loop-station-clause-room
change_one-requires-in-loop-station-clause-room over c =
    omega (arith, c.requires.room, c.loop-station.invariant.spare, c.loop-station.invariant.count, c.loop-station-test.true)

use Rattle.std.proofs.Common.{◌≡◌, ◌<◌, ℕ, IfOk, List, length, map, sym, ap, subst, ◌∙◌}
use Rattle.std.specs.List.{AllByRecursion}
use Rattle.run_journal.specs.declared.acts.Entry.{Entry}
use Rattle.domain_rules.specs.Network.{InForm}
use Rattle.domain_world.specs.Acting.{Played}
use Rattle.domain_world.specs.Owning.{Stand, AreListed}
use Rattle.domain_world.specs.Waiting.{events_below}
use Rattle.domain_world.specs.Working.{IsTurn, AllWorked, AreNumbered, IsFor}
use Rattle.domain_world.specs.State.{Nodes, rows_below}
use Rattle.domain_world.specs.Holding.{seen_of}
use Rattle.domain_world.proofs.Running.{if_ok}
use Rattle.domain_world.proofs.Rounds.{round_played, with_aps}
use Rattle.domain_world.proofs.Stepping.{none_closed, at_most}
use Rattle.domain_world.proofs.nodes.Nodes.round.Goals as goal

pub returns-clause-played : goal.returns-clause-played
returns-clause-played g c =
    let old : Nodes = record { domain = c.self.inside.domain; aps = c.self.inside.aps.items; stas = c.self.inside.stas.items; rows = rows_below (length c.self.inside.aps.items) (seen_of c.self.inside.holders) } in
    let begun = c.in_ok-table.field-0.pass.knows.seen in
    let rows : old.rows ≡ rows_below (length old.aps) begun = ap (rows_below (length old.aps)) (sym c.in_ok-table.ensures.seen) in
    let form = subst (λ (n : Nodes). InForm n.domain) (sym c.self.view_is) c.requires.form in
    if_ok c.run-aps.result.parts _ _
    (λ parts w. subst (λ (n : Nodes). (round : ℕ) (j : List Entry) → Stand n j → AllByRecursion (λ (e : Entry). e.round < round) j → AllByRecursion (IsTurn n.domain j round) c.args.turns.now
    → Played round (events_below (length n.domain.aps) (map (λ t. t.event.now) c.args.turns.now)) j n (with_aps old c.run-aps.result.aps.items c.run-aps.result.pass.knows.seen) parts.items) c.self.view_is
    (λ round j stand low turns. round_played old round c.args.turns.now begun c.run-aps.result.pass.knows.seen c.run-aps.result.aps.items parts.items j form c.self.invariant.0 rows w stand low turns))
    (subst (λ v. IfOk c.run-aps.result.parts (λ parts. AllWorked old.domain (length v.items) c.args.turns.now begun c.run-aps.result.pass.knows.seen v.items c.run-aps.result.aps.items parts.items)) c.replace-aps.ensures.value
    c.run-aps.ensures.worked)

pub held-requires-clause-form : goal.held-requires-clause-form
held-requires-clause-form g c = subst (λ (n : Nodes). InForm n.domain) (sym c.self.view_is) c.requires.form

pub returns-clause-domain : goal.returns-clause-domain
returns-clause-domain g c = ap (λ (n : Nodes). n.domain) c.self.view_is

pub returns-clause-listed : goal.returns-clause-listed
returns-clause-listed g c =
    record {
      count_aps = c.run-aps.ensures.back.count ∙ ap (λ v. length v.items) c.replace-aps.ensures.value ∙ c.self.invariant.0.count_aps;
      count_stas = c.self.invariant.0.count_stas;
      aps = c.run-aps.ensures.back.numbered;
      stas = c.self.invariant.0.stas;
    }

pub invariant_of-self-2 : goal.invariant_of-self-2
invariant_of-self-2 g c =
    let listed : AreListed _ = record {
      count_aps = c.run-aps.ensures.back.count ∙ ap (λ v. length v.items) c.replace-aps.ensures.value ∙ c.self.invariant.0.count_aps;
      count_stas = c.self.invariant.0.count_stas;
      aps = c.run-aps.ensures.back.numbered;
      stas = c.self.invariant.0.stas;
    } in
    (listed, (c.in_ok-table.ensures.held.0, λ r l. c.run-aps.ensures.back.has r (c.in_ok-table.ensures.held.1 r l)))

pub run-aps-requires-clause-numbered : goal.run-aps-requires-clause-numbered
run-aps-requires-clause-numbered g c = λ κs bounds. subst (λ v. AreNumbered v.items) (sym c.replace-aps.ensures.value) c.self.invariant.0.aps

pub run-aps-requires-clause-round : goal.run-aps-requires-clause-round
run-aps-requires-clause-round g c = λ κs bounds. record {
  form = subst (λ (n : Nodes). InForm n.domain) (sym c.self.view_is) c.requires.form;
  ids_are = c.in_ok-table.ensures.held.0;
  turns_are = subst (λ (n : Nodes). AllByRecursion (IsFor n.domain) c.args.turns.now) (sym c.self.view_is) c.requires.turns;
}

pub invariant_of-self : goal.invariant_of-self
invariant_of-self g c = none_closed c.self.inside.domain c.self.inside.aps.items c.self.inside.stas.items c.self.inside.holders _ c.held.ensures.taken c.self.invariant

pub run-aps-requires-clause-few : goal.run-aps-requires-clause-few
run-aps-requires-clause-few g c = λ κs bounds. at_most _ _ (ap (λ v. length v.items) c.replace-aps.ensures.value ∙ c.self.invariant.0.count_aps)

use Rattle.std.proofs.Common.{◌≡◌, ◌+◌, suc, ℕ, List, Option, sym, ap, subst, ◌∙◌, arith}
use Rattle.run_journal.specs.declared.acts.Entry.{Entry}
use Rattle.run_journal.specs.Events.{NamesSta}
use Rattle.domain_rules.specs.Network.{InForm}
use Rattle.domain_world.specs.State.{State, Nodes}
use Rattle.domain_world.specs.Changing.{AreChanged}
use Rattle.domain_world.specs.Owning.{AreListed, Stand, nodes_of, places}
use Rattle.domain_world.proofs.ChangedRound.{step_changed, since_changed, own_changed}
use Rattle.domain_world.proofs.Owned.{all_below, still_since}
use Rattle.domain_world.proofs.Stepping.{on_err, world_before, own_before}
use Rattle.domain_world.proofs.world.World.change.Goals as goal

-- what the nodes did, by the round and the state as callers see them
done_by : (old inside : State) (new : Nodes) (named : Option ℕ) (psk : List ℕ) (j k : List Entry) → inside ≡ old → AreChanged (record { round = inside.rounds + 1; named = named; psk = psk }) (nodes_of inside) new j k
    → AreChanged (record { round = suc old.rounds; named = named; psk = psk }) (nodes_of old) new j k
done_by old inside new named psk j k is did =
    let round : old.rounds + 1 ≡ suc old.rounds = omega arith in
    subst (λ (r : ℕ). AreChanged (record { round = r; named = named; psk = psk }) (nodes_of old) new j k) round
    (subst (λ (w : State). AreChanged (record { round = w.rounds + 1; named = named; psk = psk }) (nodes_of w) new j k) is did)

pub returns-clause-step : goal.returns-clause-step
returns-clause-step c =
    let old = c.args.self.now in
    let j = c.args.journal.now.entries in
    let done = done_by old _ c.change.new.self c.args.sta c.args.psk.now j c.change.new.journal.entries c.self.view_is c.in_ok-change.ensures.changed in
    λ d since. step_changed d old.domain (suc old.rounds) c.args.sta c.args.psk.now j c.change.new.journal.entries since.is_present done.adds

pub returns-clause-since : goal.returns-clause-since
returns-clause-since c =
    let old = c.args.self.now in
    let j = c.args.journal.now.entries in
    let done = done_by old _ c.change.new.self c.args.sta c.args.psk.now j c.change.new.journal.entries c.self.view_is c.in_ok-change.ensures.changed in
    λ d since. since_changed d old _ (suc old.rounds) c.args.sta c.args.psk.now j c.change.new.journal.entries since (all_below old.domain old.rounds j c.requires.own.placed.past) done.adds done.domain

pub returns-clause-own : goal.returns-clause-own
returns-clause-own c =
    let old = c.args.self.now in
    let j = c.args.journal.now.entries in
    let done = done_by old _ c.change.new.self c.args.sta c.args.psk.now j c.change.new.journal.entries c.self.view_is c.in_ok-change.ensures.changed in
    let rounds : c.self.inside.rounds ≡ old.rounds = ap (λ (w : State). w.rounds) c.self.view_is in
    own_changed old _ c.args.sta c.args.psk.now j c.change.new.journal.entries c.requires.own c.requires.sta done c.change.ensures.listed (omega (arith, rounds)) (ap (λ (w : State). w.usable) c.self.view_is) c.change.ensures.noted

pub returns-clause-rounds : goal.returns-clause-rounds
returns-clause-rounds c =
    let rounds : c.self.inside.rounds ≡ c.args.self.now.rounds = ap (λ (w : State). w.rounds) c.self.view_is in
    omega (arith, rounds)

pub returns-clause-domain : goal.returns-clause-domain
returns-clause-domain c =
    (done_by c.args.self.now _ c.change.new.self c.args.sta c.args.psk.now c.args.journal.now.entries c.change.new.journal.entries c.self.view_is c.in_ok-change.ensures.changed).domain

pub change-requires-clause-form : goal.change-requires-clause-form
change-requires-clause-form c = subst (λ (w : State). InForm w.domain) (sym c.self.view_is) c.requires.own.form

pub change-requires-clause-stand : goal.change-requires-clause-stand
change-requires-clause-stand c = subst (λ (w : State). Stand (nodes_of w) c.args.journal.now.entries) (sym c.self.view_is) c.requires.own.stand

pub change-requires-clause-listed : goal.change-requires-clause-listed
change-requires-clause-listed c = subst (λ (w : State). AreListed (nodes_of w)) (sym c.self.view_is) c.requires.own.listed

pub change-requires-clause-sta : goal.change-requires-clause-sta
change-requires-clause-sta c = subst (λ (w : State). NamesSta w.domain c.args.sta) (sym c.self.view_is) c.requires.sta

pub change-requires-clause-noted : goal.change-requires-clause-noted
change-requires-clause-noted c = ap (λ (w : State). w.frames) c.self.view_is ∙ c.requires.own.placed.places

pub overflow_add-round : goal.overflow_add-round
overflow_add-round c =
    let rounds : c.self.inside.rounds ≡ c.args.self.now.rounds = ap (λ (w : State). w.rounds) c.self.view_is in
    omega (arith, rounds, c.requires.few)

-- ---- where memory is wanted all is as it was

pub returns-in_err-change-clause-own : goal.returns-in_err-change-clause-own
returns-in_err-change-clause-own c =
    let old : State = record { domain = c.self.inside.nodes.domain; aps = c.self.inside.nodes.aps; stas = c.self.inside.nodes.stas; rows = c.self.inside.nodes.rows; frames = c.self.inside.frames.items; rounds = c.self.inside.rounds; usable = c.self.inside.usable } in
    let frames = c.change.ensures.noted ∙ ap places c.in_err-change.ensures.kept ∙ sym (ap (λ (w : State). w.frames) c.self.view_is ∙ c.requires.own.placed.places) in
    own_before old c.args.self.now c.change.new.self c.change.new.frames.items c.args.journal.now.entries c.change.new.journal.entries c.self.view_is c.in_err-change.ensures.same frames c.in_err-change.ensures.kept c.requires.own

pub returns-in_err-change-clause-since : goal.returns-in_err-change-clause-since
returns-in_err-change-clause-since c = λ d since.
    let old : State = record { domain = c.self.inside.nodes.domain; aps = c.self.inside.nodes.aps; stas = c.self.inside.nodes.stas; rows = c.self.inside.nodes.rows; frames = c.self.inside.frames.items; rounds = c.self.inside.rounds; usable = c.self.inside.usable } in
    let frames = c.change.ensures.noted ∙ ap places c.in_err-change.ensures.kept ∙ sym (ap (λ (w : State). w.frames) c.self.view_is ∙ c.requires.own.placed.places) in
    still_since d c.args.self.now _ c.args.journal.now.entries _ (world_before old c.args.self.now c.change.new.self c.change.new.frames.items c.self.view_is c.in_err-change.ensures.same frames) c.in_err-change.ensures.kept since

pub returns-in_err-change-clause-same : goal.returns-in_err-change-clause-same
returns-in_err-change-clause-same c =
    let old : State = record { domain = c.self.inside.nodes.domain; aps = c.self.inside.nodes.aps; stas = c.self.inside.nodes.stas; rows = c.self.inside.nodes.rows; frames = c.self.inside.frames.items; rounds = c.self.inside.rounds; usable = c.self.inside.usable } in
    let frames = c.change.ensures.noted ∙ ap places c.in_err-change.ensures.kept ∙ sym (ap (λ (w : State). w.frames) c.self.view_is ∙ c.requires.own.placed.places) in
    on_err c.from_residual.result _ (world_before old c.args.self.now c.change.new.self c.change.new.frames.items c.self.view_is c.in_err-change.ensures.same frames)

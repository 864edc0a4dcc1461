use Rattle.std.proofs.Common.{◌≡◌, ◌≤◌, ◌+◌, ◌*◌, false, suc, List, length, refl, sym, ap, subst, ◌∙◌, arith}
use Rattle.run_journal.specs.declared.domain.Event.{Event}
use Rattle.run_journal.specs.Secrets.{changes_keys}
use Rattle.domain_rules.specs.Explained.{Follows}
use Rattle.domain_rules.specs.Rounds.{most_acts}
use Rattle.domain_world.specs.Ordering.{InTurn}
use Rattle.domain_world.specs.State.{State}
use Rattle.domain_world.specs.Owning.{AreListed, AreEventsIn, Stand, nodes_of}
use Rattle.domain_world.specs.Waiting.{joined, events_below}
use Rattle.domain_world.specs.Acting.{Played}
use Rattle.domain_world.proofs.InTurn.{follows_in_turn}
use Rattle.domain_world.proofs.Ordered.{in_order}
use Rattle.domain_world.proofs.Played.{at_aps, own_round, since_round, waiting_short}
use Rattle.domain_rules.specs.Network.{InForm}
use Rattle.domain_world.proofs.Stepping.{placed_unusable}
use Rattle.domain_world.proofs.world.World.round_with.Goals as goal

pub play-requires-clause-events : goal.play-requires-clause-events
play-requires-clause-events g c = λ κs bounds. subst (λ (w : State). AreEventsIn w.domain (length w.frames) c.args.journal.now.entries c.args.events.now) (sym c.self.view_is) c.requires.events

pub journal_parts-requires-clause-room : goal.journal_parts-requires-clause-room
journal_parts-requires-clause-room g c =
    let parts = c.in_ok-parts.parts.items in
    let stas = length c.self.inside.nodes.stas in
    let same : length c.self-2.inside.nodes.stas ≡ stas = ap (λ (w : State). length w.stas) c.self-2.view_is ∙ c.in_ok-parts.ensures.played.count in
    let high : (event : Event) → changes_keys event ≡ false → most_acts event stas ≤ c.most_acts.result = λ event still. subst (λ n. most_acts event n ≤ c.most_acts.result) same (c.most_acts.ensures.most event still) in
    let short = waiting_short stas c.most_acts.result parts high c.in_ok-parts.ensures.played.short in
    let count : c.len.result ≡ length parts = omega (arith, c.len.ensures, c.in_ok-parts.parts.ok.0) in
    let most : c.most_acts.result * length parts ≡ c.most_acts.result * c.len.result = ap (λ n. c.most_acts.result * n) (sym count) in
    omega (arith, short, most, c.saturating_mul-most.ensures, c.in_ok-reserve.ensures.spare, c.in_ok-reserve-2.ensures.ok, c.reserve-2.new.self.small)

pub journal_parts-requires-clause-places : goal.journal_parts-requires-clause-places
journal_parts-requires-clause-places g c =
    let parts = c.in_ok-parts.parts.items in
    let stas = length c.self.inside.nodes.stas in
    let same : length c.self-2.inside.nodes.stas ≡ stas = ap (λ (w : State). length w.stas) c.self-2.view_is ∙ c.in_ok-parts.ensures.played.count in
    let high : (event : Event) → changes_keys event ≡ false → most_acts event stas ≤ c.most_acts.result = λ event still. subst (λ n. most_acts event n ≤ c.most_acts.result) same (c.most_acts.ensures.most event still) in
    let short = waiting_short stas c.most_acts.result parts high c.in_ok-parts.ensures.played.short in
    let count : c.len.result ≡ length parts = omega (arith, c.len.ensures, c.in_ok-parts.parts.ok.0) in
    let most : c.most_acts.result * length parts ≡ c.most_acts.result * c.len.result = ap (λ n. c.most_acts.result * n) (sym count) in
    omega (arith, short, most, c.saturating_mul-most.ensures, c.in_ok-reserve-2.ensures.ok, c.reserve-2.new.self.small)

pub returns-clause-steps : goal.returns-clause-steps
returns-clause-steps g c =
    let old = c.args.self.now in
    let j = c.args.journal.now.entries in
    let parts = c.in_ok-parts.parts.items in
    let events = c.args.events.now in
    let rounds : c.self.inside.rounds ≡ old.rounds = ap (λ (w : State). w.rounds) c.self.view_is in
    let later : c.self-2.inside.rounds ≡ c.self.inside.rounds = ap (λ (w : State). w.rounds) c.self-2.view_is ∙ c.in_ok-parts.ensures.rounds in
    let round : c.self-2.inside.rounds + 1 ≡ suc old.rounds = omega (arith, rounds, later) in
    let order = in_order (length old.domain.aps) events (at_aps old.domain (length old.frames) j events c.requires.events) in
    let played = subst (λ (w : State). Played (suc w.rounds) (events_below (length w.domain.aps) events) j (nodes_of w) (nodes_of c.play.new.self) parts) c.self.view_is c.in_ok-parts.ensures.played in
    let is = c.journal_parts.ensures.entries ∙ ap (joined (c.self-2.inside.rounds + 1) parts) c.in_ok-reserve.ensures.entries ∙ ap (λ r. joined r parts j) round in
    let turn = subst (λ (es : List Event). InTurn old.domain (suc old.rounds) es j (joined (suc old.rounds) parts j)) order played.follows in
    λ d since. subst (Follows d (suc old.rounds) events j) (sym is) (follows_in_turn d old.domain (suc old.rounds) events j (joined (suc old.rounds) parts j) since.is_present turn)

pub returns-clause-since : goal.returns-clause-since
returns-clause-since g c =
    let old = c.args.self.now in
    let j = c.args.journal.now.entries in
    let parts = c.in_ok-parts.parts.items in
    let events = events_below (length old.domain.aps) c.args.events.now in
    let rounds : c.self.inside.rounds ≡ old.rounds = ap (λ (w : State). w.rounds) c.self.view_is in
    let later : c.self-2.inside.rounds ≡ c.self.inside.rounds = ap (λ (w : State). w.rounds) c.self-2.view_is ∙ c.in_ok-parts.ensures.rounds in
    let round : c.self-2.inside.rounds + 1 ≡ suc old.rounds = omega (arith, rounds, later) in
    let played = subst (λ (w : State). Played (suc w.rounds) (events_below (length w.domain.aps) c.args.events.now) j (nodes_of w) (nodes_of c.play.new.self) parts) c.self.view_is c.in_ok-parts.ensures.played in
    let stood = subst (λ (w : State). Played (suc old.rounds) events j (nodes_of old) (nodes_of w) parts) (sym c.self-2.view_is) played in
    let is = c.journal_parts.ensures.entries ∙ ap (joined (c.self-2.inside.rounds + 1) parts) c.in_ok-reserve.ensures.entries ∙ ap (λ r. joined r parts j) round in
    λ d since. since_round d old _ events parts j c.journal_parts.new.journal.entries since stood is

pub returns-clause-own : goal.returns-clause-own
returns-clause-own g c =
    let old = c.args.self.now in
    let j = c.args.journal.now.entries in
    let parts = c.in_ok-parts.parts.items in
    let events = events_below (length old.domain.aps) c.args.events.now in
    let rounds : c.self.inside.rounds ≡ old.rounds = ap (λ (w : State). w.rounds) c.self.view_is in
    let later : c.self-2.inside.rounds ≡ c.self.inside.rounds = ap (λ (w : State). w.rounds) c.self-2.view_is ∙ c.in_ok-parts.ensures.rounds in
    let round : c.self-2.inside.rounds + 1 ≡ suc old.rounds = omega (arith, rounds, later) in
    let played = subst (λ (w : State). Played (suc w.rounds) (events_below (length w.domain.aps) c.args.events.now) j (nodes_of w) (nodes_of c.play.new.self) parts) c.self.view_is c.in_ok-parts.ensures.played in
    let stood = subst (λ (w : State). Played (suc old.rounds) events j (nodes_of old) (nodes_of w) parts) (sym c.self-2.view_is) played in
    let listed = subst (λ (w : State). AreListed (nodes_of w)) (sym c.self-2.view_is) c.in_ok-parts.ensures.listed in
    let is = c.journal_parts.ensures.entries ∙ ap (joined (c.self-2.inside.rounds + 1) parts) c.in_ok-reserve.ensures.entries ∙ ap (λ r. joined r parts j) round in
    own_round old _ events parts j c.journal_parts.new.journal.entries c.requires.own stood listed round refl c.journal_parts.ensures.noted is

pub play-requires-clause-stand : goal.play-requires-clause-stand
play-requires-clause-stand g c = λ κs bounds. subst (λ (w : State). Stand (nodes_of w) c.args.journal.now.entries) (sym c.self.view_is) c.requires.own.stand

pub play-requires-clause-form : goal.play-requires-clause-form
play-requires-clause-form g c = λ κs bounds. subst (λ (w : State). InForm w.domain) (sym c.self.view_is) c.requires.own.form

pub returns-clause-rounds : goal.returns-clause-rounds
returns-clause-rounds g c =
    let old = c.args.self.now in
    let rounds : c.self.inside.rounds ≡ old.rounds = ap (λ (w : State). w.rounds) c.self.view_is in
    let later : c.self-2.inside.rounds ≡ c.self.inside.rounds = ap (λ (w : State). w.rounds) c.self-2.view_is ∙ c.in_ok-parts.ensures.rounds in
    omega (arith, rounds, later)

pub returns-clause-domain : goal.returns-clause-domain
returns-clause-domain g c = ap (λ (w : State). w.domain) c.self-2.view_is ∙ c.in_ok-parts.ensures.domain ∙ ap (λ (w : State). w.domain) c.self.view_is

pub play-requires-clause-placed : goal.play-requires-clause-placed
play-requires-clause-placed g c =
    let old : State = record { domain = c.self.inside.nodes.domain; aps = c.self.inside.nodes.aps; stas = c.self.inside.nodes.stas; rows = c.self.inside.nodes.rows; frames = c.self.inside.frames.items; rounds = c.self.inside.rounds; usable = c.self.inside.usable } in
    λ κs bounds. placed_unusable old c.args.self.now false c.args.journal.now.entries c.self.view_is c.requires.own.placed

pub overflow_add-round : goal.overflow_add-round
overflow_add-round g c =
    let old = c.args.self.now in
    let rounds : c.self.inside.rounds ≡ old.rounds = ap (λ (w : State). w.rounds) c.self.view_is in
    let later : c.self-2.inside.rounds ≡ c.self.inside.rounds = ap (λ (w : State). w.rounds) c.self-2.view_is ∙ c.in_ok-parts.ensures.rounds in
    omega (arith, rounds, later, c.requires.few)

use Rattle.std.proofs.Common.{◌≡◌, ◌-◌, suc, sym, subst}
use Rattle.std.specs.Prelude.{slice_index_or}
use Rattle.domain_rules.specs.Explained.{WasSent}
use Rattle.domain_world.specs.State.{State}
use Rattle.domain_world.proofs.Owned.{frame_at, place_low, is_frame, not_other, was_sent}
use Rattle.domain_world.proofs.world.World.octets.Goals as goal

pub at-requires : goal.at-requires
at-requires c =
    let place = c.index-place.result.now in
    let read = subst (λ (w : State). place ≡ slice_index_or w.frames (c.args.number - 1) place) c.self.view_is c.index-place.ensures in
    let there = frame_at c.args.self.now c.args.journal.now.entries c.args.number place c.requires.placed c.requires.some c.requires.sent read in
    place_low c.args.journal.now.entries c.args.number place there

pub unreachable-requires : goal.unreachable-requires
unreachable-requires c =
    let place = c.index-place.result.now in
    let read = subst (λ (w : State). place ≡ slice_index_or w.frames (c.args.number - 1) place) c.self.view_is c.index-place.ensures in
    let there = frame_at c.args.self.now c.args.journal.now.entries c.args.number place c.requires.placed c.requires.some c.requires.sent read in
    not_other c.at.result.now.act (is_frame c.args.journal.now.entries c.args.number place c.at.result.now there c.at.ensures) c.in_default.not-Sent

pub returns : goal.returns
returns c =
    let place = c.index-place.result.now in
    let read = subst (λ (w : State). place ≡ slice_index_or w.frames (c.args.number - 1) place) c.self.view_is c.index-place.ensures in
    let there = frame_at c.args.self.now c.args.journal.now.entries c.args.number place c.requires.placed c.requires.some c.requires.sent read in
    subst (WasSent c.args.journal.now.entries (suc c.args.self.now.rounds) c.args.number) (sym c.as_slice.ensures)
    (was_sent c.args.self.now c.args.journal.now.entries c.args.number place c.at.result.now c.in-Sent.peer c.in-Sent.kind c.in-Sent.octets c.in-Sent.seal c.requires.placed there c.at.ensures c.in-Sent.is)

use Rattle.std.proofs.Common.{◌≡◌, ◌<◌, ◌-◌, ℕ, List, length, drop, arith, length-drop}
use Rattle.std.proofs.lemmas.List.{take_all}
use Rattle.std.proofs.lemmas.List.Elements.{All-drop}
use Rattle.key_wrap.proofs.OutLemmas.{wrapped_in_place, Wraps-made}
use Rattle.key_wrap.proofs.wrap_in_place.Goals as goal

pub returns-clause-wrapped : goal.returns-clause-wrapped
returns-clause-wrapped c =
    let octets = c.args.octets.now in
    let plain : List ℕ = drop 8 octets in
    let size : length plain ≡ length octets - 8 = length-drop 8 octets in
    let blocks = c.wrap_blocks-check.new.blocks in
    let check = c.copy_from_slice.new.self in
    let made = Wraps-made c.args.kek.now c.new.result plain _ c.wrap_blocks-check.result check blocks (omega (arith, size)) (omega (arith, size))
    (All-drop (λ (x : ℕ). x < 256) 8 octets c.show_octets.ensures) c.new.ensures.value
    (take_all (length octets - 8) plain (omega (arith, size))) c.copy_from_slice.ensures.after c.wrap_blocks-check.ensures in
    rw (wrapped_in_place octets blocks check (length octets - 8) (omega arith) (omega arith)) made

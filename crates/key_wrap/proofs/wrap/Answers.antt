use Rattle.std.proofs.Common.{◌≡◌, ◌+◌, ◌-◌, ◌++◌, ℕ, List, length, take, drop, ap, arith, ◌∙◌, sym, length-append, length-take, length-drop}
use Rattle.key_wrap.proofs.OutLemmas.{copied_behind, copied_rest, take_wrapped, drop_joined}
use Rattle.key_wrap.proofs.wrap.Goals as goal
use Rattle.key_wrap.proofs.wrap.Goals.{After-wrap_in_place}

-- the number of octets that are wrapped
wrapped_size : (c : After-wrap_in_place) → length c.wrap_in_place.new.octets ≡ length c.args.plain.now + 8
wrapped_size c = omega (arith, c.wrap_in_place.ensures.len, length-take {A = ℕ}, length-append {A = ℕ}, length-drop {A = ℕ}, ap length c.copy_from_slice.ensures.after)

pub returns-clause-wrapped : goal.returns-clause-wrapped
returns-clause-wrapped c =
    let at = (goal.at.returns-clause-wrapped c).After-wrap_in_place in
    let plain = c.args.plain.now in
    let n : ℕ = length plain in
    let copy = c.copy_from_slice.new.self in
    let same : copy ≡ plain = c.copy_from_slice.ensures.after in
    let out : List ℕ = take 8 c.args.out.now ++ (copy ++ drop (n + 8 - 8) (drop 8 c.args.out.now)) in
    let from : drop 8 (take (n + 8) out) ≡ plain = copied_behind c.args.out.now copy n (n + 8 - 8) (omega arith) (omega arith) (ap length same) ∙ same in
    let to : take (n + 8) (c.wrap_in_place.new.octets ++ drop (n + 8) out) ≡ c.wrap_in_place.new.octets = take_wrapped c.wrap_in_place.new.octets out (n + 8) (wrapped_size at) in
    rw (to, sym from) c.wrap_in_place.ensures.wrapped

pub returns-clause-rest : goal.returns-clause-rest
returns-clause-rest c = λ m h.
    let at = (goal.at.returns-clause-rest c).After-wrap_in_place in
    let n : ℕ = length c.args.plain.now in
    let copy = c.copy_from_slice.new.self in
    drop_joined c.wrap_in_place.new.octets (take 8 c.args.out.now ++ (copy ++ drop (n + 8 - 8) (drop 8 c.args.out.now))) (n + 8) m (wrapped_size at) h
    ∙ copied_rest c.args.out.now copy n (n + 8 - 8) m (omega arith) (omega arith) (ap length c.copy_from_slice.ensures.after) h

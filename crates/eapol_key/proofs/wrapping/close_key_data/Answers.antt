use Rattle.std.proofs.Common.{◌≡◌, ◌+◌, ◌-◌, ◌++◌, ℕ, List, length, take, drop, ap, arith, ◌∙◌, sym, length-append, length-take, length-drop}
use Rattle.key_wrap.proofs.OutLemmas.{copied_behind, copied_rest, take_wrapped, drop_joined}
use Rattle.eapol_key.specs.KeyData.{padded}
use Rattle.eapol_key.proofs.Wrapped.{length-padded}
use Rattle.eapol_key.proofs.wrapping.close_key_data.Goals as goal
use Rattle.eapol_key.proofs.wrapping.close_key_data.Goals.{After-wrap_in_place}

-- the padded key data, as it stands to be wrapped
padded_size : (c : After-wrap_in_place) → length c.put_padded.new.out ≡ length c.args.plain.now + c.padding.result
padded_size c = ap length c.put_padded.ensures ∙ length-padded c.args.plain.now ∙ ap (λ (n : ℕ). length c.args.plain.now + n) (sym c.padding.ensures)

wrapped_size : (c : After-wrap_in_place) → length c.wrap_in_place.new.octets ≡ length c.args.plain.now + c.padding.result + 8
wrapped_size c = omega (arith, c.wrap_in_place.ensures.len, length-take {A = ℕ}, length-append {A = ℕ}, length-drop {A = ℕ}, padded_size c)

pub returns-clause-wrapped : goal.returns-clause-wrapped
returns-clause-wrapped c =
    let at = (goal.at.returns-clause-wrapped c).After-wrap_in_place in
    let n : ℕ = length c.args.plain.now + c.padding.result in
    let copy = c.put_padded.new.out in
    let out : List ℕ = take 8 c.args.out.now ++ (copy ++ drop (n + 8 - 8) (drop 8 c.args.out.now)) in
    let from : drop 8 (take (n + 8) out) ≡ padded c.args.plain.now = copied_behind c.args.out.now copy n (n + 8 - 8) (omega arith) (omega arith) (padded_size at) ∙ c.put_padded.ensures in
    let to : take (n + 8) (c.wrap_in_place.new.octets ++ drop (n + 8) out) ≡ c.wrap_in_place.new.octets = take_wrapped c.wrap_in_place.new.octets out (n + 8) (wrapped_size at) in
    rw (to, sym from) c.wrap_in_place.ensures.wrapped

pub returns-clause-rest : goal.returns-clause-rest
returns-clause-rest c = λ m h.
    let at = (goal.at.returns-clause-rest c).After-wrap_in_place in
    let n : ℕ = length c.args.plain.now + c.padding.result in
    let copy = c.put_padded.new.out in
    drop_joined c.wrap_in_place.new.octets (take 8 c.args.out.now ++ (copy ++ drop (n + 8 - 8) (drop 8 c.args.out.now))) (n + 8) m (wrapped_size at) h
    ∙ copied_rest c.args.out.now copy n (n + 8 - 8) m (omega arith) (omega arith) (padded_size at) h

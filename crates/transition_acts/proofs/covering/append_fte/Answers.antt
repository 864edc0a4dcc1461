use Rattle.std.proofs.Common.{◌≡◌, ◌∙◌, ◌≤◌, ◌+◌, ◌-◌, ◌++◌, ℕ, List, length, take, ap, arith, length-take, length-drop}
use Rattle.std.specs.Prelude.{min, replicate}
use Rattle.transition_acts.proofs.Parting.{three_parts}
use Rattle.transition_acts.proofs.covering.append_fte.Goals as goal

-- what is left of the room is enough for what stands behind the MIC field
fits : (len cap len1 cap1 len2 cap2 front behind fte : ℕ) → len + (min 4 fte + 16 + (fte - 20)) ≤ cap → len1 ≡ len + front → len2 ≡ len1 + 16 → cap ≤ cap1 → cap1 ≤ cap2 → front ≡ min 4 fte → behind ≡ fte - 20 → len2 + behind ≤ cap2
fits len cap len1 cap1 len2 cap2 front behind fte room one two first then_ f b = omega (arith, room, one, two, first, then_, f, b)

-- and enough for the field
field_fits : (len cap len1 cap1 front fte : ℕ) → len + (min 4 fte + 16 + (fte - 20)) ≤ cap → len1 ≡ len + front → cap ≤ cap1 → front ≡ min 4 fte → len1 + 16 ≤ cap1
field_fits len cap len1 cap1 front fte room one first f = omega (arith, room, one, first, f)

pub append-requires-2 : goal.append-requires-2
append-requires-2 c =
    field_fits _ _ _ _ _ (length c.args.fte.now) c.requires c.append.ensures.len c.append.ensures.capacity (ap length c.cut.ensures.front ∙ length-take 4 c.args.fte.now)

pub append-requires-3 : goal.append-requires-3
append-requires-3 c =
    fits _ _ _ _ _ _ _ _ (length c.args.fte.now) c.requires c.append.ensures.len c.append-2.ensures.len c.append.ensures.capacity c.append-2.ensures.capacity
    (ap length c.cut.ensures.front ∙ length-take 4 c.args.fte.now) (ap length c.cut-2.ensures.back ∙ length-drop 20 c.args.fte.now)

pub returns : goal.returns
returns c =
    three_parts _ _ _ _ _ _ _ c.append.ensures.items c.append-2.ensures.items c.append-3.ensures.items
    ∙ ap (λ (x : List ℕ). c.args.octets.now.items ++ (x ++ (replicate 16 0 ++ c.cut-2.result.1.now))) c.cut.ensures.front
    ∙ ap (λ (x : List ℕ). c.args.octets.now.items ++ (take 4 c.args.fte.now ++ (replicate 16 0 ++ x))) c.cut-2.ensures.back

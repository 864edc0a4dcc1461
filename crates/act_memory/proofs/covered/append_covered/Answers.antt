use Rattle.std.proofs.Common.{◌≡◌, ◌∙◌, ◌++◌, ℕ, List, [], ◌∷◌, take, drop, replicate, ap, append_assoc}
use Rattle.std.proofs.lemmas.List.{take_min, drop_min}
use Rattle.mac_prf.specs.Mic.{without_mic}
use Rattle.act_memory.proofs.covered.append_covered.Goals as goal

joined : (old frame front behind first second third all : List ℕ) → front ≡ take 81 frame → behind ≡ drop 97 frame → first ≡ old ++ 1 ∷ [] → second ≡ first ++ front → third ≡ second ++ replicate 16 0 → all ≡ third ++ behind
    → all ≡ old ++ 1 ∷ without_mic frame
joined old frame front behind first second third all f b p q r s = rw (s, r, q, p, f, b) (simp append_assoc)

pub returns : goal.returns
returns c =
    let frame = c.args.frame.now in
    let front = c.split_at.ensures.front ∙ ap (λ (n : ℕ). take n frame) c.min.ensures ∙ take_min 81 frame in
    let behind = c.split_at-2.ensures.back ∙ ap (λ (n : ℕ). drop n frame) c.min-2.ensures ∙ drop_min 97 frame in
    joined c.args.octets.now.items frame _ _ _ _ _ _ front behind c.append.ensures.items c.append-2.ensures.items c.append-3.ensures.items c.append-4.ensures.items

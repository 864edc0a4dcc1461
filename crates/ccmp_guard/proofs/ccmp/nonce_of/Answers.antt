use Rattle.std.proofs.Common.{◌∙◌, ◌∷◌, ◌++◌, [], ℕ, List, ap, ap₂, sym, arith, take, drop}
use Rattle.std.proofs.lemmas.List.{take_all}
use Rattle.domain_base.specs.Places.{part}
use Rattle.ccmp_guard.specs.Ccmp.{ccm_nonce}
use Rattle.ccmp_guard.proofs.ccmp.nonce_of.Goals as goal

pub returns : goal.returns
unfolding ccm_nonce
returns c =
    let header = c.args.header.now in
    sym (take_all c.put.result c.put.new.out (omega (arith, c.put.auto.out, c.put-at-2.auto.out, c.put-at.auto.out, c.put.ensures.end, c.put-at-2.ensures.end, c.put-at.ensures.end)))
    ∙ c.put.ensures.front
    ∙ ap₂ (λ (v w : List ℕ). v ++ w)
    (c.put-at-2.ensures.front ∙ ap (λ (w : List ℕ). w ++ part 10 6 header) (c.put-at.ensures.front ∙ ap (λ (n : ℕ). n ∷ []) c.traffic_identifier.ensures.value))
    (ap (λ (w : List ℕ). take 6 (drop 2 w)) c.to_be_bytes.ensures)

use Rattle.std.proofs.Common.{◌≡◌, ◌==◌, ◌∙◌, ◌∷◌, ◌++◌, [], ℕ, List, true, false, length, ap, refl, arith, take, slice_index, bit_and, bit_or, ◌%◌}
use Rattle.std.proofs.lemmas.Bool.{eq-eqb, ne_eqb}
use Rattle.std.proofs.lemmas.List.{append_assoc}
use Rattle.domain_base.specs.Places.{part}
use Rattle.ccmp_guard.specs.Ccmp.{ccm_aad}
use Rattle.ccmp_guard.proofs.ccmp.aad_of.Goals as goal
use Rattle.ccmp_guard.proofs.ccmp.aad_of.Goals.{After-put-at-3}

-- the octets that every header gives
without_qos : List ℕ → List ℕ
without_qos header =
    (bit_and (slice_index header 0) 0x8f ∷ bit_or (bit_and (slice_index header 1) 0xc7) 0x40 ∷ part 4 18 header) ++ (slice_index header 22 % 16) ∷ 0 ∷ []

three_written : (c : After-put-at-3) → take c.put-at-3.result c.put-at-3.new.out ≡ without_qos c.args.header.now
unfolding without_qos
three_written c =
    let header = c.args.header.now in
    c.put-at-3.ensures.front
    ∙ ap (λ (w : List ℕ). w ++ (slice_index header 22 % 16) ∷ 0 ∷ [])
    (c.put-at-2.ensures.front ∙ ap (λ (w : List ℕ). w ++ part 4 18 header) c.put-at.ensures.front)

pub returns-then-header-eq-QOS_HEADER_LEN-clause-written : goal.returns-then-header-eq-QOS_HEADER_LEN-clause-written
unfolding ccm_aad without_qos
returns-then-header-eq-QOS_HEADER_LEN-clause-written c =
    let header = c.args.header.now in
    let qos : List ℕ = (slice_index header 24 % 16) ∷ 0 ∷ [] in
    let test : (length header == 26) ≡ true = eq-eqb (length header) 26 (omega (arith, c.if-header-eq-QOS_HEADER_LEN.true)) in
    c.put.ensures.front
    ∙ ap (λ (w : List ℕ). w ++ qos) (three_written (goal.at.returns-then-header-eq-QOS_HEADER_LEN-clause-written c).After-put-at-3)
    ∙ append_assoc (bit_and (slice_index header 0) 0x8f ∷ bit_or (bit_and (slice_index header 1) 0xc7) 0x40 ∷ part 4 18 header) ((slice_index header 22 % 16) ∷ 0 ∷ []) qos
    ∙ rw test refl

pub returns-else-header-eq-QOS_HEADER_LEN-clause-written : goal.returns-else-header-eq-QOS_HEADER_LEN-clause-written
unfolding ccm_aad without_qos
returns-else-header-eq-QOS_HEADER_LEN-clause-written c =
    let header = c.args.header.now in
    let test : (length header == 26) ≡ false = ne_eqb (length header) 26 (λ e. absurd (omega (arith, c.if-header-eq-QOS_HEADER_LEN.false))) in
    three_written (goal.at.returns-else-header-eq-QOS_HEADER_LEN-clause-written c).After-put-at-3 ∙ rw test refl

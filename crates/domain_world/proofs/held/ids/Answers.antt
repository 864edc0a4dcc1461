use Rattle.std.proofs.Common.{◌≡◌, ◌∙◌, ◌+◌, ◌++◌, [], ◌∷◌, List, ℕ, length, map, take, sym, ap, subst, arith}
use Rattle.std.proofs.lemmas.List.{take_all}
use Rattle.run_journal.specs.declared.domain.Domain.{Domain}
use Rattle.run_journal.specs.declared.domain.ListedAp.{ListedAp}
use Rattle.domain_world.proofs.Played.{map_taken}
use Rattle.domain_world.proofs.held.ids.Goals as goal

pub loop-ap-preserved : goal.loop-ap-preserved
loop-ap-preserved c =
    let aps = c.deref-ap-items.result.now in
    let at = c.loop-ap.ap-index in
    let item = c.ap-item.result in
    c.in_ok-push.ensures.items ∙ ap (λ (l : List (List ℕ)). l ++ c.in_ok-copied.field-0 ∷ []) c.loop-ap.invariant
    ∙ ap (λ (id : List ℕ). map (λ (a : ListedAp). a.r0kh_id) (take at c.args.domain.now.aps) ++ id ∷ []) c.in_ok-copied.ensures
    ∙ subst (λ (l : List ListedAp). map (λ (a : ListedAp). a.r0kh_id) (take at l) ++ item.r0kh_id ∷ [] ≡ map (λ (a : ListedAp). a.r0kh_id) (take (at + 1) l)) (c.deref-ap-items.ensures.value ∙ ap (λ (d : Domain). d.aps) c.domain.view_is)
    (sym (map_taken (λ (a : ListedAp). a.r0kh_id) aps at item c.loop-ap-test.true c.ap-item.is))

pub returns : goal.returns
returns c =
    let same : c.deref-ap-items.result.now ≡ c.args.domain.now.aps = c.deref-ap-items.ensures.value ∙ ap (λ (d : Domain). d.aps) c.domain.view_is in
    c.loop-ap.invariant ∙ ap (map (λ (a : ListedAp). a.r0kh_id)) (take_all c.loop-ap.ap-index c.args.domain.now.aps (omega (arith, c.loop-ap-test.false, ap (λ (l : List ListedAp). length l) same)))

use Rattle.std.proofs.Common.{◌<◌, ◌≤◌, ℕ, List, length, set, ap, ◌∙◌, arith, rules}
use Rattle.key_holders.specs.Listed.{Listed}
use Rattle.embedded_node.specs.declared.holders.PushedKey.{PushedKey}
use Rattle.embedded_node.specs.Pushed.{Holding, forgotten, with_keys}
use Rattle.embedded_node.proofs.Forgetting.{forgotten_next, forgotten_all}
use Rattle.embedded_node.proofs.Pulled.{held}
use Rattle.embedded_node.proofs.holders.PushedHolders.forget.Goals as goal

pub loop-place-preserved : goal.loop-place-preserved
loop-place-preserved c =
    let within : c.loop-place.place < length c.self.inside.pushed.items = search rules in
    let i = c.loop-place.invariant in (
      i.0,
      i.1,
      ap (λ (x : PushedKey). set c.loop-place.self-inside.pushed.items c.loop-place.place x) c.forgotten_key.ensures
          ∙ forgotten_next c.args.sta c.self.inside.pushed.items c.loop-place.self-inside.pushed.items c.loop-place.place c.index.result.now within i.2 c.index.ensures,
    )

-- the own key holder is as before
pub invariant_of-self : goal.invariant_of-self
invariant_of-self c = ap (λ (h : Listed). length h.ids) c.loop-place.invariant.0 ∙ c.self.invariant

pub returns : goal.returns
returns c =
    let s = c.self.inside in let t = c.loop-place.self-inside in let i = c.loop-place.invariant in
    let all : length s.pushed.items ≤ c.loop-place.place = omega (arith, c.len-place-end.ensures, c.loop-place-test.false) in
    ap (λ (h : Listed). held h t.others.items t.pushed.items) i.0
    ∙ ap (λ (ids : List (List ℕ)). held s.own ids t.pushed.items) i.1
    ∙ ap (λ (xs : List PushedKey). held s.own s.others.items xs) (forgotten_all c.args.sta s.pushed.items t.pushed.items c.loop-place.place all i.2)
    ∙ ap (λ (h : Holding). with_keys (forgotten c.args.sta h.pushed) h) c.self.view_is

use Rattle.std.proofs.Common.{ℕ, List, Ok, take, drop, ap, sym, ◌∙◌, arith}
use Rattle.std.specs.Prelude.{length, min}
use Rattle.std.proofs.lemmas.List.{take_all, length-drop}
use Rattle.domain_base.proofs.memory.SteadySourceSource.read.Goals as goal

pub returns-clause-full : goal.returns-clause-full
returns-clause-full c =
    let p = c.self.inside.place in
    let d = c.deref.result.now in
    ap (λ n. Ok n)
    (c.copy_front-count.ensures.count
    ∙ ap (λ (l : List ℕ). min (length l) (length c.args.buf.now))
    (ap (λ n. take n (drop p d)) (sym (length-drop p d)) ∙ (take_all (length (drop p d)) (drop p d) (omega arith) ∙ (ap (λ (l : List ℕ). drop p l) c.deref.ensures.value ∙ c.self.view_is))))

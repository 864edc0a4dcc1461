use Rattle.std.proofs.Common.{◌≡◌, None, sym, ◌∙◌, subst}
use Rattle.std.specs.Map.{lookup}
use Rattle.key_hierarchy.specs.declared.fast_transition.PmkR1.{PmkR1}
use Rattle.key_holders.specs.declared.r1_cache.CacheAnswer.{CacheAnswer}
use Rattle.key_holders.specs.Cached.{is_pair, pair_of, CacheAfter}
use Rattle.key_holders.proofs.Caching.{derived_found, derived-promoted, derived-after, after_hit, after_kept, after_not_kept, cache_view}
use Rattle.lru.specs.LruCache.{LruCache}
use Rattle.key_holders.specs.declared.r1_cache.R1Pair.{R1Pair}
use Rattle.key_holders.specs.Cached.{AreDerived}
use Rattle.key_holders.proofs.r1_cache.R1Cache.r1.Goals as goal
use Rattle.key_holders.proofs.r1_cache.R1Cache.r1.Goals.{in-Ok, in-Err}

pub invariant_of-self : goal.invariant_of-self
invariant_of-self c =
    subst (λ (l : LruCache R1Pair PmkR1). AreDerived l.entries) (sym c.promote.ensures.entries)
    (derived-promoted (pair_of c.args.row.now c.args.r1kh) c.self.inside.keys.entries c.self.invariant)

pub returns-in-Some-clause-key : goal.returns-in-Some-clause-key
returns-in-Some-clause-key c =
    derived_found (pair_of c.args.row.now c.args.r1kh) c.self.inside.keys.entries c.in-Some.key c.self.invariant (sym c.peek.ensures ∙ (sym c.copied.ensures ∙ c.in-Some.is))

pub returns-in-Some-clause-after : goal.returns-in-Some-clause-after
returns-in-Some-clause-after c =
    after_hit (pair_of c.args.row.now c.args.r1kh) c.self.inside.keys c.args.self.now c.self.view_is c.promote.new.self c.in-Some.key (sym c.peek.ensures ∙ (sym c.copied.ensures ∙ c.in-Some.is)) c.promote.ensures.entries

pub invariant_of-self-2 : goal.invariant_of-self-2
invariant_of-self-2 c =
    derived-after c.put.result (pair_of c.args.row.now c.args.r1kh) c.self.inside.keys c.put.new.self c.r1-key.result c.put.ensures.entries c.put.ensures.err c.r1-key.ensures c.self.invariant

pub returns-clause-after : goal.returns-clause-after
returns-clause-after c =
    let p = pair_of c.args.row.now c.args.r1kh in
    let none : lookup (is_pair p) c.self.inside.keys.entries ≡ None = sym c.peek.ensures ∙ (sym c.copied.ensures ∙ c.in_default.is) in
    elim c.match-put.branch [
      | in-Ok w ↦ subst (λ (r : PmkR1 × CacheAnswer). CacheAfter p c.args.self.now r.1 (cache_view c.put.new.self)) (sym w.result-is)
          (after_kept p c.self.inside.keys c.args.self.now c.self.view_is c.put.new.self c.r1-key.result none w.in-Ok.ensures.entries)
      | in-Err w ↦ subst (λ (r : PmkR1 × CacheAnswer). CacheAfter p c.args.self.now r.1 (cache_view c.put.new.self)) (sym w.result-is)
          (after_not_kept p c.self.inside.keys c.args.self.now c.self.view_is c.put.new.self none w.in-Err.ensures.err)
    ]

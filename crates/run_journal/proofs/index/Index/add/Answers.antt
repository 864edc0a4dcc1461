use Rattle.std.proofs.Common.{◌<◌, ◌≤◌, ℕ, List, [], ◌∷◌, ◌++◌, map, Option, Some, None, IfSome, ap, ◌∙◌, sym, subst, arith}
use Rattle.std.proofs.lemmas.List.{map-append}
use Rattle.run_journal.specs.declared.acts.Entry.{Entry}
use Rattle.run_journal.specs.Chained.{Chained}
use Rattle.run_journal.specs.Looking.{value_chain, kck_chain}
use Rattle.run_journal.proofs.index.Index.add.Goals as goal

pub returns-clause-room : goal.returns-clause-room
returns-clause-room c n h = record {
  values = c.add.ensures.room n h.values;
  kcks = c.add-2.ensures.room n h.kcks;
  values_made = λ some. omega (arith, h.values_made (omega arith), c.add.ensures.lasts);
  kcks_made = λ some. omega (arith, h.kcks_made (omega arith), c.add-2.ensures.lasts);
}

add_within : (o : Option ℕ) (chains places : ℕ) → chains ≤ places → IfSome o (λ n. n < chains) → IfSome o (λ n. n < places)
add_within None chains places made low = low
add_within (Some n) chains places made low = omega (arith, low)

pub add-requires-clause-within : goal.add-requires-clause-within
add-requires-clause-within c = add_within _ _ _ (c.requires.values_made (omega arith)) c.value_chain.ensures.within

pub add-requires-2-clause-within : goal.add-requires-2-clause-within
add-requires-2-clause-within c = add_within _ _ _ (c.requires.kcks_made (omega arith)) c.kck_chain.ensures.within

pub returns-clause-indexed : goal.returns-clause-indexed
returns-clause-indexed c entries h =
    let values = λ (e : Entry). value_chain c.args.self.now.breadth e.act in
    let kcks = λ (e : Entry). kck_chain c.args.self.now.breadth e.act in
    let more = c.args.entry.now ∷ [] in record {
      values = subst (λ (cs : List (Option ℕ)). Chained cs c.add.new.self) (ap (λ (o : Option ℕ). map values entries ++ o ∷ []) c.value_chain.ensures.chain ∙ sym (map-append values entries more)) (c.add.ensures.chained (map values entries) h.values);
      kcks = subst (λ (cs : List (Option ℕ)). Chained cs c.add-2.new.self) (ap (λ (o : Option ℕ). map kcks entries ++ o ∷ []) c.kck_chain.ensures.chain ∙ sym (map-append kcks entries more)) (c.add-2.ensures.chained (map kcks entries) h.kcks);
    }

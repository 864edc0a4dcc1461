-- What waits in a round is put on the journal part by part.
use Rattle.std.proofs.Common.{◌≡◌, ℕ, ◌+◌, List, ◌∷◌, length, sym, ap, ◌∙◌}
use Rattle.run_journal.specs.declared.acts.Entry.{Entry}
use Rattle.domain_rules.specs.Explained.{push}
use Rattle.domain_world.specs.declared.part.Part.{Part}
use Rattle.domain_world.specs.Waiting.{joined, waiting}

pub joined_next : (round : ℕ) (part : Part) (rest parts : List Part) (i k j : List Entry) → parts ≡ part ∷ rest → k ≡ push round part.node part.out.acts i → joined round parts i ≡ j → joined round rest k ≡ j
joined_next round part rest parts i k j is pushed all = ap (joined round rest) pushed ∙ sym (ap (λ (l : List Part). joined round l i) is) ∙ all

pub waiting_next : (part : Part) (rest parts : List Part) → parts ≡ part ∷ rest → waiting parts ≡ length part.out.acts + waiting rest
waiting_next part rest parts is = ap waiting is

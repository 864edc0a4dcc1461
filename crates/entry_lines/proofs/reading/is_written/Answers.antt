use Rattle.std.specs.Prelude.{IsTrue, ◌↔◌}
use Rattle.std.proofs.Common.{◌≡◌, ℕ, List, subst, ◌∙◌}
use Rattle.entry_lines.proofs.reading.is_written.Goals as goal

pub returns : goal.returns
returns c =
    subst (λ (line : List ℕ). IsTrue c.is_word.result ↔ (c.args.octets.now ≡ line)) (c.split_at.ensures.front ∙ c.write_entry-count.ensures.text) c.is_word.ensures

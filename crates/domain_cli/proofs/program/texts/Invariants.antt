use Rattle.std.specs.Prelude.{◌≡◌, map, take, string_bytes}
use Rattle.domain_cli.proofs.program.texts.Given as goal

-- the words so far
abbrev pub invariant-loop-word : goal.invariant-loop-word
invariant-loop-word l = map (λ w. w.now) l.words.items ≡ map string_bytes (take l.word-index l.owned)

use Rattle.std.proofs.Common.{◌≡◌, drop}
use Rattle.entry_lines.specs.Names.{listed, named}
use Rattle.entry_lines.proofs.names.named.Given as goal

-- the word is none of the names so far
abbrev pub invariant-loop-text : goal.invariant-loop-text
invariant-loop-text g l = named (listed (drop l.text-index l.names)) l.word l.other ≡ named (listed l.names) l.word l.other

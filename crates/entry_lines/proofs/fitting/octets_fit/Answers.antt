use Rattle.std.proofs.Common.{ℕ, ◌<◌}
use Rattle.std.proofs.lemmas.List.Elements.{All-from_get_or}
use Rattle.entry_lines.proofs.fitting.octets_fit.Goals as goal

pub returns : goal.returns
returns c = All-from_get_or (λ (x : ℕ). x < 256) c.args.octets.now 0 (λ k h. (c.type_inv.octets k).fits)

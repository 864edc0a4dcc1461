use Rattle.std.proofs.Common.{true≢false, refl, sym, ◌∙◌}
use Rattle.std.specs.Option.{option_copied}
use Rattle.authenticator.proofs.KeyData.{plain_same, plain_other}
use Rattle.authenticator.proofs.m2.plain_fault.Goals as goal

pub returns-then-is_same_rsne : goal.returns-then-is_same_rsne
returns-then-is_same_rsne c = plain_same c.args.rsne.now (option_copied c.args.found) (c.if-is_same_rsne.ensures.0 refl)

pub returns-else-is_same_rsne : goal.returns-else-is_same_rsne
returns-else-is_same_rsne c = plain_other c.args.rsne.now (option_copied c.args.found) (λ same. true≢false (sym (c.is_same_rsne.ensures.1 same) ∙ c.if-is_same_rsne.false))

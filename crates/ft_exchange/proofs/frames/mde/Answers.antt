use Rattle.std.proofs.Common.{◌≡◌, List, ℕ, length, sym, ap, ◌∙◌, arith}
use Rattle.std.proofs.lemmas.Grind.{common_steps}
use Rattle.rsn_elements.specs.Sent.{mde_octets}
use Rattle.ft_exchange.proofs.Covers.{mde_len}
use Rattle.ft_exchange.proofs.Written.{written_whole, whole_is}
use Rattle.ft_exchange.proofs.frames.mde.Goals as goal

pub returns : goal.returns
returns c =
    let size : length c.over.result.out.now ≡ 5 = ap (λ (l : List ℕ). length l) c.over.ensures.before in
    whole_is c.mde.new.self (written_whole (mde_octets c.args.mdid) c.over.ensures.empty c.mde.ensures.written (size ∙ sym (mde_len c.args.mdid c.mde.ensures.fits))) (grind (arith, common_steps))

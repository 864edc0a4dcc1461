use Rattle.std.proofs.Common.{◌<◌, ◌∙◌, ◌++◌, ℕ, List, ap, ap₂, take}
use Rattle.std.proofs.lemmas.List.Elements.{All-from_get_or}
use Rattle.aes_block.specs.Octets.{exclusive_or}
use Rattle.ccmp_guard.specs.Ccm.{chained_all, key_block}
use Rattle.ccmp_guard.proofs.ccm.seal.Goals as goal

pub returns : goal.returns
returns c =
    let key = c.args.key.now in
    let plain = c.args.plain.now in record {
      octets = All-from_get_or (λ (x : ℕ). x < 256) plain 0 (λ k h. (c.type_inv.plain k).fits);
      short = c.requires.short;
      sealed = ap₂ (λ (v w : List ℕ). v ++ w) c.seal_blocks-last.ensures.encrypted
          (c.copy_from_slice.ensures.after ∙ c.mic_of.ensures
          ∙ ap (λ (w : List ℕ). exclusive_or (take 8 w) (key_block key c.args.nonce.now 0))
          (c.seal_blocks-last.ensures.chained ∙ ap (λ (w : List ℕ). chained_all key w plain) c.begin-start.ensures));
    }

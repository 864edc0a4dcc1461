use Rattle.std.proofs.Common.{◌<◌, ◌∙◌, ◌-◌, ◌++◌, ℕ, List, ap₂, sym, arith, length}
use Rattle.std.proofs.lemmas.List.{take-append-drop}
use Rattle.std.proofs.lemmas.List.Elements.{All-from_get_or}
use Rattle.std.proofs.lemmas.Slice.Eq.{slice_eq-Decides}
use Rattle.std.proofs.lemmas.Bool.Decides.{Decides-eqb}
use Rattle.ccmp_guard.proofs.Sealing.{opened, opened_only}
use Rattle.ccmp_guard.proofs.ccm.open.Goals as goal

pub returns-clause-sealed : goal.returns-clause-sealed
returns-clause-sealed c = λ verified.
    let sealed = c.args.sealed.now in
    let out = c.open_blocks-last.new.out in
    let text = c.split_at.result.0.now in
    let mic = c.split_at.result.1.now in
    let test = slice_eq-Decides Decides-eqb c.mic_of-expected.result mic c.eq.result c.eq.ensures in record {
      octets = All-from_get_or (λ (x : ℕ). x < 256) out 0 (λ k h. (c.type_inv.out k).fits);
      short = omega (arith, c.open_blocks-last.auto.out);
      sealed = sym (ap₂ (λ (v w : List ℕ). v ++ w) c.split_at.ensures.front c.split_at.ensures.back ∙ take-append-drop (length sealed - 8) sealed)
          ∙ opened c.args.key.now c.args.nonce.now c.args.aad.now text mic out c.begin-start.result c.open_blocks-last.result
          c.open_blocks-last.ensures.decrypted c.begin-start.ensures c.open_blocks-last.ensures.chained (sym c.mic_of-expected.ensures ∙ test.0 verified);
    }

pub returns-clause-only : goal.returns-clause-only
returns-clause-only c = λ plain h.
    let sealed = c.args.sealed.now in
    let text = c.split_at.result.0.now in
    let mic = c.split_at.result.1.now in
    let test = slice_eq-Decides Decides-eqb c.mic_of-expected.result mic c.eq.result c.eq.ensures in
    let both = opened_only c.args.key.now c.args.nonce.now c.args.aad.now plain sealed text mic c.open_blocks-last.new.out c.begin-start.result c.open_blocks-last.result h
    c.split_at.ensures.front c.split_at.ensures.back c.open_blocks-last.ensures.decrypted c.begin-start.ensures c.open_blocks-last.ensures.chained in
    (test.1 (c.mic_of-expected.ensures ∙ both.0), both.1)

use Rattle.std.proofs.Common.{◌≡◌, ◌∙◌, ◌++◌, ℕ, List, ap, ap₂, take, arith}
use Rattle.bip_guard.specs.Bip.{mme_front, bip_mic}
use Rattle.bip_guard.proofs.frame.seal_frame.Goals as goal

pub returns-clause-sealed : goal.returns-clause-sealed
returns-clause-sealed c =
    let igtk = c.args.igtk.now in
    let header = c.args.header.now in
    let front : List ℕ = c.args.body.now ++ mme_front c.args.id c.args.ipn in
    let written : take c.put-at-2.result c.put-at-2.new.out ≡ front =
    c.put-at-2.ensures.front ∙ ap₂ (λ (v w : List ℕ). v ++ w) c.put-at.ensures.front c.mme_front.ensures in
    let mic : c.mic_of-mic.result ≡ bip_mic igtk header front = c.mic_of-mic.ensures ∙ ap (bip_mic igtk header) written in record {
      mac_header = c.requires.header;
      key_id = omega arith;
      number = c.requires.number;
      sealed = c.put.ensures.front ∙ ap₂ (λ (v w : List ℕ). v ++ w) written mic;
    }

pub returns-clause-rest : goal.returns-clause-rest
returns-clause-rest c = λ n h.
    c.put.ensures.rest n h
    ∙ c.put-at-2.ensures.rest n (omega (arith, c.put.ensures.end))
    ∙ c.put-at.ensures.rest n (omega (arith, c.put.ensures.end, c.put-at-2.ensures.end))

use Rattle.std.proofs.Common.{◌≡◌, ◌∙◌, ◌++◌, ℕ, List, sym, ap, take, drop, length, refl, arith}
use Rattle.std.proofs.lemmas.List.{take_all, length-take, length-drop}
use Rattle.std.proofs.lemmas.Slice.{put_mid-paste}
use Rattle.mac_prf.specs.Mic.{mic}
use Rattle.eapol_key.proofs.sealing.seal.Goals as goal

pub returns : goal.returns
returns c =
    let new = mic c.args.akm c.args.kck.now c.args.frame.now in
    let code : c.copy_from_slice.new.self ≡ new = c.copy_from_slice.ensures.after ∙ c.mic-code.ensures in
    let size : length new ≡ 16 = ap length (sym code) ∙ c.copy_from_slice.auto.self ∙ omega (arith, length-take 16 (drop 81 c.args.frame.now), length-drop 81 c.args.frame.now) in
    put_mid-paste 81 16 c.args.frame.now _ _ 16 code refl (sym size)
    ∙ ap (λ (w : List ℕ). take 81 c.args.frame.now ++ w ++ drop 97 c.args.frame.now) (take_all 16 new (omega arith))

use Rattle.frame_script.proofs.body.placed.Goals as goal

pub returns-in-Aps-clause-can : goal.returns-in-Aps-clause-can
returns-in-Aps-clause-can c = c.early_ap.ensures.can c.args.sizes.now

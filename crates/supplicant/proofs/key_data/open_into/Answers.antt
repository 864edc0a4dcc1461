use Rattle.std.specs.Option.{option_copied}
use Rattle.supplicant.proofs.KeyDataRead.{opened_key, opened_fault}
use Rattle.supplicant.proofs.key_data.open_into.Goals as goal

pub returns-in-Ok-carried : goal.returns-in-Ok-carried
returns-in-Ok-carried c = opened_key c.args.mfp (option_copied c.args.asked) c.args.kek.now c.args.key_data.now _ _ c.in-Ok-carried.keys c.fits-kek c.in-Ok.ensures.unwrapped c.split_at.ensures.front c.in-Ok-carried.ensures

pub returns-in-Err : goal.returns-in-Err
returns-in-Err c = opened_fault c.args.mfp (option_copied c.args.asked) c.args.kek.now c.args.key_data.now _ _ c.in-Err.fault c.fits-kek c.in-Ok.ensures.unwrapped c.split_at.ensures.front c.in-Err.ensures

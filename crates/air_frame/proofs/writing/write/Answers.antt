use Rattle.std.proofs.Common.{List, ℕ, sym, subst}
use Rattle.air_frame.specs.Spelled.{SpellsAir}
use Rattle.air_frame.specs.Views.{fields_of}
use Rattle.air_frame.proofs.Written.{spelled_again, kept}
use Rattle.air_frame.proofs.writing.write.Goals as goal

pub returns-clause-spelled : goal.returns-clause-spelled
returns-clause-spelled c =
    subst (λ (w : List ℕ). SpellsAir w (fields_of c.args.frame.now)) (sym c.put_octets.ensures.octets)
    (spelled_again (fields_of c.args.frame.now) c.requires.spelled (kept c.args.frame.now c.requires.kind))

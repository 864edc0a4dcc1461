use Rattle.std.proofs.Common.{refl, ap}
use Rattle.key_hierarchy.specs.declared.answers.PutAnswer.{PutAnswer}
use Rattle.link_steps.specs.declared.steps.LinkAnswer.TheVariants.{Put}
use Rattle.holder_link.specs.Acts.{Puts}
use Rattle.holder_link.proofs.ends.Ends.row.Goals as goal

pub returns-in_default : goal.returns-in_default
returns-in_default c = record {
  acts = Puts c.args.row refl (ap (λ (a : PutAnswer). Put a) (c.put.ensures.answer c.in_default.not-NoMemory)) refl;
  state = rw (c.put.ensures.ids, c.put.ensures.rows) refl;
  err = tt;
}

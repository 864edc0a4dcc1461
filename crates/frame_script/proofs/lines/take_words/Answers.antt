use Rattle.std.proofs.Common.{refl, sym, subst}
use Rattle.script_lines.specs.declared.header.Due.{Due}
use Rattle.script_lines.specs.Sentences.{IsKept}
use Rattle.frame_script.specs.Sentences.{IsHead}
use Rattle.frame_script.proofs.lines.take_words.Goals as goal

pub returns-in-Version-clause-takes : goal.returns-in-Version-clause-takes
returns-in-Version-clause-takes c = rw c.in-Version.is (refl, refl)

pub take_head-requires-clause-head : goal.take_head-requires-clause-head
take_head-requires-clause-head c = subst (λ (d : Due). IsHead d) (sym c.in-Header.is) tt

pub returns-in-Header-clause-takes : goal.returns-in-Header-clause-takes
returns-in-Header-clause-takes c = c.take_head.ensures.takes c.args.rounds c.args.sizes.now

pub take_body-requires : goal.take_body-requires
take_body-requires c = subst (λ (d : Due). IsKept d) c.in-Nodes.is c.requires

pub returns-in-Nodes-clause-takes : goal.returns-in-Nodes-clause-takes
returns-in-Nodes-clause-takes c = rw c.in-Nodes.is c.take_body.ensures.takes

pub take_inner-requires-clause-few : goal.take_inner-requires-clause-few
take_inner-requires-clause-few c = (subst (λ (d : Due). IsKept d) c.in-Round.is c.requires).0

pub take_inner-requires-clause-room : goal.take_inner-requires-clause-room
take_inner-requires-clause-room c = (subst (λ (d : Due). IsKept d) c.in-Round.is c.requires).1

pub returns-in-Round-clause-kept : goal.returns-in-Round-clause-kept
returns-in-Round-clause-kept c = ((subst (λ (d : Due). IsKept d) c.in-Round.is c.requires).0, c.take_inner.ensures.room)

pub returns-in-Round-clause-takes : goal.returns-in-Round-clause-takes
returns-in-Round-clause-takes c = rw c.in-Round.is (c.take_inner.ensures.takes c.args.rounds)

use Rattle.std.proofs.Common.{◌∷◌, arith}
use Rattle.std.proofs.lemmas.List.{length-append}
use Rattle.rsn_elements.specs.Fields.{wrapped_igtk_fields}
use Rattle.rsn_elements.proofs.Appending.{igtk_written}
use Rattle.rsn_elements.proofs.writing.ElementWriter.wrapped_igtk.Goals as goal

pub returns-clause-written : goal.returns-clause-written
returns-clause-written c =
    igtk_written (wrapped_igtk_fields c.args.igtk.now) _ _ _ _ _ _ (omega (arith, length-append c.args.igtk.now.ipn (c.args.igtk.now.key_length ∷ c.args.igtk.now.wrapped.now))) c.append.ensures c.igtk_front.ensures c.append-2.ensures c.append-3.ensures

pub overflow_cast-wrapped : goal.overflow_cast-wrapped
overflow_cast-wrapped c = omega (arith, length-append c.args.igtk.now.ipn (c.args.igtk.now.key_length ∷ c.args.igtk.now.wrapped.now))

pub overflow_add-wrapped : goal.overflow_add-wrapped
overflow_add-wrapped c = omega (arith, length-append c.args.igtk.now.ipn (c.args.igtk.now.key_length ∷ c.args.igtk.now.wrapped.now))

pub append-requires-2 : goal.append-requires-2
append-requires-2 c = omega (arith, length-append c.args.igtk.now.ipn (c.args.igtk.now.key_length ∷ c.args.igtk.now.wrapped.now))

pub append-requires-3 : goal.append-requires-3
append-requires-3 c = omega (arith, length-append c.args.igtk.now.ipn (c.args.igtk.now.key_length ∷ c.args.igtk.now.wrapped.now))

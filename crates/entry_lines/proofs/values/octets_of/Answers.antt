use Rattle.std.proofs.Common.{◌∙◌, refl}
use Rattle.entry_lines.proofs.Digits.{none_written, some_written}
use Rattle.entry_lines.proofs.values.octets_of.Goals as goal

pub returns-then-is_word : goal.returns-then-is_word
returns-then-is_word c = λ octets are is. c.new.ensures.items ∙ none_written c.args.word.now octets (c.if-is_word.ensures.0 refl) is

pub returns-in_ok-octets : goal.returns-in_ok-octets
returns-in_ok-octets c = λ octets are is. c.in_ok-octets.ensures octets are (some_written c.args.word.now octets (λ same. cc (c.if-is_word.ensures.1 same)) is)

use Rattle.hex.specs.declared.error.FromHexError.TheVariants.{OutOfMemory}
use Rattle.entry_lines.proofs.Digits.{decoded_same, decoded_fails}
use Rattle.entry_lines.proofs.values.decoded.Goals as goal

pub returns-in-Ok : goal.returns-in-Ok
returns-in-Ok c = λ octets are is. decoded_same c.args.word.now octets _ are is c.in-Ok.ensures.ok

pub returns-else-is_memory : goal.returns-else-is_memory
returns-else-is_memory c = λ octets are is. absurd (decoded_fails c.args.word.now octets _ OutOfMemory are is (λ same. cc (c.if-is_memory.ensures.1 same)) c.in-Err.ensures.err)

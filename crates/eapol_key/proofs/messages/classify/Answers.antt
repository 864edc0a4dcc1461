use Rattle.std.proofs.Common.{rules}
use Rattle.eapol_key.proofs.messages.classify.Goals as goal

pub returns-then-is_message-clause-found : goal.returns-then-is_message-clause-found
returns-then-is_message-clause-found c = search rules

pub returns-then-is_message-clause-none : goal.returns-then-is_message-clause-none
returns-then-is_message-clause-none c = search rules

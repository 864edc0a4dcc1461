use Rattle.std.proofs.Common.{ℕ, ◌<◌}
use Rattle.std.specs.Prelude.{slice_index_or}
use Rattle.eapol_key.specs.declared.messages.Message.{Message}
use Rattle.eapol_key.specs.Fields.{fields_of}
use Rattle.eapol_key.specs.Messages.{IsMessage}
use Rattle.eapol_key.proofs.messages.classify.Given as goal

-- it is none of the messages so far
abbrev pub invariant-loop-message : goal.invariant-loop-message
invariant-loop-message l =
    (k : ℕ) (m : Message) → k < l.message-index → ¬ (IsMessage l.akm (slice_index_or l.message-items k m) (fields_of l.frame))

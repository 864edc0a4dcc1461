-- A reply that tells of no key that its message cannot derive or install.
use Rattle.std.proofs.Common.{◌≡◌, None, sym}
use Rattle.std.proofs.lemmas.Bool.{false≢true}
use Rattle.eapol_key.specs.declared.messages.Message.{Message}
use Rattle.eapol_key.specs.declared.messages.Message.TheVariants.{M2, M4}
use Rattle.run_journal.specs.declared.reply.Reply.{Reply}
use Rattle.group_key.specs.Replied.{HasKeysOf}

pub no_keys : (m : Message) (r : Reply) → r.derived ≡ None → r.installed ≡ None → HasKeysOf m r
no_keys m r derived installed = record { derived = λ no. derived; installed = λ no. installed }

pub derived_by : (r : Reply) → r.installed ≡ None → HasKeysOf M2 r
derived_by r is = record { derived = λ no. absurd (false≢true (sym no)); installed = λ no. is }

pub installed_by : (r : Reply) → r.derived ≡ None → HasKeysOf M4 r
installed_by r is = record { derived = λ no. is; installed = λ no. absurd (false≢true (sym no)) }

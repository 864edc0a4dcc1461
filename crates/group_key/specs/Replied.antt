-- Which pairwise keys the reply to a message may tell of (profile).
use Rattle.std.specs.Prelude.{◌≡◌, Bool, true, false, None}
use Rattle.eapol_key.specs.declared.messages.Message.{Message}
use Rattle.eapol_key.specs.declared.messages.Message.TheVariants.{M1, M2, M3, M4}
use Rattle.run_journal.specs.declared.reply.Reply.{Reply}

-- by M1 at a station, by M2 at an access point
abbrev pub may_derive : Message → Bool
may_derive M1 = true
may_derive M2 = true
may_derive m = false

-- by M3 at a station, by M4 at an access point
abbrev pub may_install : Message → Bool
may_install M3 = true
may_install M4 = true
may_install m = false

-- it tells of no key that the message cannot derive or install
pub record HasKeysOf (m : Message) (r : Reply) : Type 0 where
  pub derived : may_derive m ≡ false → r.derived ≡ None
  pub installed : may_install m ≡ false → r.installed ≡ None

-- What a station has after the messages of its four-way handshake (IEEE Std 802.11-2020, 12.7.6, profile).
use Rattle.std.specs.Prelude.{◌≡◌, ℕ, List, [], Some, None}
use Rattle.domain_base.specs.declared.names.Akm.{Akm}
use Rattle.domain_base.specs.declared.names.Node.TheVariants.{Ap, Sta}
use Rattle.eapol_key.specs.declared.frame.KeyFrame.{KeyFrame}
use Rattle.eapol_key.specs.declared.messages.Message.{Message}
use Rattle.eapol_key.specs.Fields.{fields_of}
use Rattle.eapol_key.specs.KeyFrame.{SpellsKeyFrame}
use Rattle.eapol_key.specs.Messages.{IsMessage}
use Rattle.run_journal.specs.declared.domain.Domain.{Domain}
use Rattle.run_journal.specs.declared.acts.Outcome.TheVariants.{Accepted}
use Rattle.run_journal.specs.declared.reply.Reply.{Reply}
use Rattle.group_key.specs.Keys.{Memories}
use Rattle.node_base.specs.Ends.{AreEnds}
use Rattle.supplicant.specs.State.{State, Both, both}
use Rattle.supplicant.specs.Taken.{IsTaken}

-- the octets begin with an EAPOL-Key frame, which is a message under that suite; it was accepted, and took supplicant
-- and group keys from the one to the other
pub record Accepts (akm : Akm) (octets : List ℕ) (old new : Both) (r : Reply) : Type 0 where
  pub frame : KeyFrame
  pub used : ℕ
  pub spells : SpellsKeyFrame octets (fields_of frame) used
  pub message : Message
  pub is : IsMessage akm message (fields_of frame)
  pub taken : IsTaken message frame old new Accepted r

-- no group keys
abbrev pub no_keys : Memories
no_keys = record { gtks = []; igtks = [] }

-- the supplicant of a station as its association is accepted (13.4.2)
pub record IsAssociated (d : Domain) (sta ap : ℕ) (snonce : List ℕ) (s : State) : Type 0 where
  pub ends : AreEnds d (Sta sta) (Ap ap) s.ends
  pub attempt : s.attempt ≡ Some (record { snonce = snonce; key = None })
  pub session : s.session ≡ None

-- and what the two messages of the access point, one after the other, made of it, with the replies
pub record HasJoined (d : Domain) (sta ap : ℕ) (snonce m1 m3 : List ℕ) (last : Both) (r2 r4 : Reply) : Type 0 where
  pub first : State
  pub begun : IsAssociated d sta ap snonce first
  pub between : Both
  pub by_m1 : Accepts d.akm m1 (both first no_keys) between r2
  pub by_m3 : Accepts d.akm m3 between last r4

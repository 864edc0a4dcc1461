-- What an access point has after the messages of a four-way handshake (IEEE Std 802.11-2020, 12.7.6, profile).
use Rattle.std.specs.Prelude.{◌≡◌, ℕ, List, [], ◌∷◌, None, Some}
use Rattle.domain_base.specs.declared.names.Akm.{Akm}
use Rattle.domain_base.specs.declared.names.Node.TheVariants.{Ap, Sta}
use Rattle.eapol_key.specs.declared.frame.KeyFrame.{KeyFrame}
use Rattle.eapol_key.specs.declared.messages.Message.{Message}
use Rattle.eapol_key.specs.Fields.{fields_of}
use Rattle.eapol_key.specs.KeyFrame.{SpellsKeyFrame}
use Rattle.eapol_key.specs.Messages.{IsMessage}
use Rattle.group_key.specs.declared.keys.GroupKey.{GroupKey}
use Rattle.group_key.specs.News.{news_of}
use Rattle.run_journal.specs.declared.domain.Domain.{Domain}
use Rattle.run_journal.specs.declared.acts.Outcome.TheVariants.{Accepted}
use Rattle.run_journal.specs.declared.reply.Reply.{Reply}
use Rattle.run_journal.specs.declared.reply.Keyed.{Keyed}
use Rattle.domain_rules.specs.Frames.{sent_m1}
use Rattle.domain_rules.specs.Replies.{sent_acts}
use Rattle.authenticator.specs.declared.authenticator.ApStart.TheVariants.{Connect}
use Rattle.authenticator.specs.declared.session.Session.{Session}
use Rattle.authenticator.specs.Begins.{StandsAtFirst}
use Rattle.authenticator.specs.Judged.{frame_of}
use Rattle.authenticator.specs.State.{State}
use Rattle.authenticator.specs.Taken.{StepsFrom, Installs, given}
use Rattle.uses.specs.declared.access_point.Client.{Client}

-- the octets begin with an EAPOL-Key frame, which is a message under that suite; it was accepted, with that group key,
-- under which no packet number was used yet, and no IGTK, and took the authenticator from the one to the other
pub record Takes (akm : Akm) (octets : List ℕ) (group : GroupKey) (old new : State) (r : Reply) : Type 0 where
  pub frame : KeyFrame
  pub used : ℕ
  pub spells : SpellsKeyFrame octets (fields_of frame) used
  pub message : Message
  pub is : IsMessage akm message (fields_of frame)
  pub steps : StepsFrom old new (given message (frame_of frame) (news_of group 0 None)) Accepted r
  pub installs : Installs Accepted r new

-- message 1 was sent; the two messages of the station, one after the other, took the authenticator on, and the last one
-- installed that key, which is that of its session
pub record HasServed (d : Domain) (client : Client) (group : GroupKey) (m2 m4 : List ℕ) (last : State) (r1 r3 : Reply) (key : Keyed) : Type 0 where
  pub first : State
  pub begun : StandsAtFirst d (Ap client.ap) (Sta client.sta) (Connect client.anonce client.rsne) first
  pub sends : sent_acts (Sta client.sta) r1 ≡ sent_m1 d (Ap client.ap) (Sta client.sta) 1 client.anonce.now ∷ []
  pub between : State
  pub by_m2 : Takes d.akm m2 group first between r3
  pub r : Reply
  pub by_m4 : Takes d.akm m4 group between last r
  pub installed : r.installed ≡ Some key
  pub session : Session
  pub is : last.session ≡ Some session
  pub same : session.ptk ≡ key.ptk

-- What room for the acts of a frame of a fast transition holds (profile).
use Rattle.std.specs.Prelude.{◌≡◌, ℕ, List, Option, option_map}
use Rattle.domain_base.specs.declared.names.Node.{Node}
use Rattle.mac_prf.specs.declared.reassociation.Reassociation.{Reassociation}
use Rattle.rsn_elements.specs.Elements.{ElementFields}
use Rattle.run_journal.specs.declared.domain.Domain.{Domain}
use Rattle.domain_rules.specs.Network.{Root}
use Rattle.domain_rules.specs.TransitionKeys.{asked}
use Rattle.act_memory.specs.Templates.{IsTemplate}
use Rattle.transition_acts.specs.Seals.{IsSide, covered_by, formed}
use Rattle.transition_acts.specs.Looks.{look_asked}
use Rattle.transition_acts.specs.declared.sending.TransitionSend.{TransitionSend}
use Rattle.transition_acts.specs.declared.taken.TakenRoom.{TakenRoom}
use Rattle.transition_acts.specs.declared.room.TransitionRoom.{TransitionRoom}

-- it is room for what node n sends to p
pub record IsSendRoom (d : Domain) (n p : Node) (s : TransitionSend) : Type 0 where
  pub peer : s.peer ≡ p
  pub side : IsSide d n p s.side

-- it is room for taking those octets, whose MIC covers that, if anything
pub record IsTakenRoom (octets : List ℕ) (input : Option (List ℕ)) (r : TakenRoom) : Type 0 where
  pub octets_are : r.octets.items ≡ octets
  pub covered : option_map (λ v. v.items) r.covered ≡ formed input

-- it is room at node n for taking these octets of p with those elements, where keys go back to that root; as frame of reassociation
-- they are that one
pub record IsRoom (d : Domain) (root : Root) (n p : Node) (octets : List ℕ) (e : ElementFields) (frame : Reassociation)
    (r : TransitionRoom) : Type 0 where
  pub peer : r.peer ≡ p
  pub taken : IsTakenRoom octets (covered_by frame d n p e) r.taken
  pub looked : r.looked ≡ look_asked (asked e)
  pub key : IsTemplate d root n p r.key
  pub finished : IsTemplate d root n p r.finished
  pub sent : IsSendRoom d n p r.sent

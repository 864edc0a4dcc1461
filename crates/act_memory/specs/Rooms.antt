-- What room for the acts of a message holds (profile).
use Rattle.std.specs.Prelude.{◌≡◌, ℕ, List, ◌∷◌}
use Rattle.domain_base.specs.declared.names.Node.{Node}
use Rattle.mac_prf.specs.Mic.{without_mic}
use Rattle.run_journal.specs.declared.domain.Domain.{Domain}
use Rattle.domain_rules.specs.Network.{mac}
use Rattle.domain_rules.specs.Reading.{KeyMessage}
use Rattle.domain_rules.specs.Replies.{Between as Acts}
use Rattle.group_key.specs.Replied.{may_derive, may_install}
use Rattle.act_memory.specs.declared.room.Between.{Between}
use Rattle.act_memory.specs.Templates.{TemplateWhere}
use Rattle.act_memory.specs.declared.room.Room.{Room}

-- it is room at node n for taking these octets of p, which are that message, where keys go back to that R0KH-ID
pub record IsRoom (d : Domain) (id : List ℕ) (n p : Node) (octets : List ℕ) (k : KeyMessage)
    (r : Room) : Type 0 where
  pub peer : r.peer ≡ p
  pub address : r.address ≡ mac d p
  pub message : r.message ≡ k.message
  pub taken : r.taken.items ≡ octets
  pub covered : r.covered.items ≡ 1 ∷ without_mic k.octets
  pub derived : TemplateWhere (may_derive k.message) d n p id r.derived
  pub installed : TemplateWhere (may_install k.message) d n p id r.installed
  pub finished : TemplateWhere (may_install k.message) d n p id r.finished

-- acts that take their place among those of a reply, as the rules see them
abbrev pub between_of : Between → Acts
between_of b = record { opened = b.opened.items; put = b.put.items }

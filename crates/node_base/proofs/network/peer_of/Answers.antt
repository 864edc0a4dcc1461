use Rattle.std.proofs.Common.{◌≡◌, ℕ, List, None, sym, ap, ◌∙◌, rules}
use Rattle.std.specs.Prelude.{option_map, bytes_eq, position}
use Rattle.domain_base.specs.declared.names.Node.{Node}
use Rattle.domain_base.specs.declared.names.Node.TheVariants.{Ap, Sta}
use Rattle.run_journal.specs.declared.domain.Domain.{Domain}
use Rattle.run_journal.specs.declared.domain.ListedAp.{ListedAp}
use Rattle.run_journal.specs.declared.domain.ListedSta.{ListedSta}
use Rattle.domain_rules.specs.Network.{peer_of}
use Rattle.node_base.proofs.network.peer_of.Goals as goal

no_sta : (d : Domain) (n : Node) (k : ℕ) (octets : List ℕ) → n ≡ Ap k → None ≡ position (λ (s : ListedSta). bytes_eq s.address.0 octets) d.stas → None ≡ peer_of d n octets
no_sta d n k octets is none = ap (option_map (λ i. Sta i)) none ∙ sym (ap (λ (m : Node). peer_of d m octets) is)

no_ap : (d : Domain) (n : Node) (k : ℕ) (octets : List ℕ) → n ≡ Sta k → None ≡ position (λ (a : ListedAp). bytes_eq a.address.0 octets) d.aps → None ≡ peer_of d n octets
no_ap d n k octets is none = ap (option_map (λ i. Ap i)) none ∙ sym (ap (λ (m : Node). peer_of d m octets) is)

pub returns-in-None : goal.returns-in-None
returns-in-None c = no_sta c.args.domain.now c.args.node c.in-Ap.field-0 c.args.address.0 c.in-Ap.is (search rules)

pub returns-in-None-place_of : goal.returns-in-None-place_of
returns-in-None-place_of c = no_ap c.args.domain.now c.args.node c.in-Sta.field-0 c.args.address.0 c.in-Sta.is (search rules)

pub returns-in-Some : goal.returns-in-Some
returns-in-Some c = search rules steps 500000

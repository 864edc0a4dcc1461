-- What a node is told of its network as it starts (profile).
use Rattle.std.specs.Prelude.{ℕ, List, [], ◌∷◌}
use Rattle.domain_base.specs.declared.names.Akm.{Akm}
use Rattle.domain_base.specs.declared.names.Akm.TheVariants.{FtPsk}
use Rattle.run_journal.specs.declared.domain.Domain.{Domain}
use Rattle.embedded_node.specs.declared.header.Header.{Header}

-- the mobility domain that a network of that suite has
abbrev pub mdid_by : Akm → List ℕ → List ℕ
mdid_by FtPsk mdid = mdid
mdid_by _ mdid = 0 ∷ 0 ∷ []

-- the network with that header, and no nodes
abbrev pub bare : Header → Domain
bare h = record {
  seed = h.seed.now;
  ssid = h.ssid.now;
  akm = h.akm;
  mdid = mdid_by h.akm h.mdid;
  extras = h.extras;
  aps = [];
  stas = [];
}

-- What the attempts of a supplicant go back to (IEEE Std 802.11-2020, 12.7.1.6, 13.4.2).
use Rattle.std.specs.Prelude.{◌≡◌, ℕ, Bool, true, false, List, [], Option, Some, None, option_map, unwrap_or}
use Rattle.domain_base.specs.declared.names.Node.{Node}
use Rattle.rsn_elements.specs.declared.framing.Within.TheVariants.{Body}
use Rattle.rsn_elements.specs.Elements.{ElementFields, SpellsElements}
use Rattle.key_hierarchy.specs.Sizes.{IsR0khId}
use Rattle.run_journal.specs.declared.domain.Domain.{Domain}
use Rattle.domain_rules.specs.Network.{renews, root_at, inputs_at, station_of}
use Rattle.domain_rules.specs.TransitionKeyData.{responded_r0kh_id}
use Rattle.node_base.specs.declared.pairwise.Pmk.{Pmk}
use Rattle.node_base.specs.declared.pairwise.Pmk.TheVariants.{Psk, PskSha256, R1}
use Rattle.node_base.specs.PairwiseKeys.{pmk_of}
use Rattle.frame_making.specs.Mobile.{Mobility}
use Rattle.frame_making.specs.KeyData.{IsMobility}
use Rattle.supplicant.specs.declared.base.Base.{Base}

-- what suite 4 adds to key data under a PMK-R1
abbrev pub mobility_with : List ℕ → Pmk → List ℕ → Option Mobility
mobility_with mdid (Psk psk) fte = None
mobility_with mdid (PskSha256 psk) fte = None
mobility_with mdid (R1 r1) fte = Some (record { name = r1.name; mdid = mdid; fte = fte })

-- the octets are an FTE with an R0KH-ID (13.4.2)
abbrev pub NamesHolder : List ℕ → Type 0
NamesHolder fte = (e : ElementFields) × (SpellsElements Body fte e × IsR0khId (responded_r0kh_id (Some e)))

-- of node n with its peer p, by the FTE of the association response (13.4.2)
pub record IsBaseOf (d : Domain) (n p : Node) (fte : List ℕ) (b : Base) : Type 0 where
  pub akm : b.akm ≡ d.akm
  pub pmk : b.pmk ≡ pmk_of d (root_at d (station_of n p) b.r0kh_id) n p
  pub mobility : IsMobility d (inputs_at d n p b.r0kh_id [] []) fte b.mobility
  pub id : (e : ElementFields) → SpellsElements Body fte e → b.r0kh_id ≡ responded_r0kh_id (Some e)

-- the FTE of the association response, with suite 4 (13.4.2)
abbrev pub fte_in : Base → List ℕ
fte_in b = unwrap_or (option_map (λ (m : Mobility). m.fte) b.mobility) []

-- M2 is sent with Secure set in a network that renews pairwise keys alone (12.7.6.3, profile)
abbrev pub RenewsWhere : Bool → Domain → Type 0
RenewsWhere false d = Unit {0}
RenewsWhere true d = renews d ≡ true

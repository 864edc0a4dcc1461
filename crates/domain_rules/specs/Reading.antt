-- What the octets of a delivered frame are to a node, by the grammars of air frames, elements and EAPOL-Key frames
-- (profile).
use Rattle.std.specs.Prelude.{◌≡◌, ℕ, Bool, true, false, not, ◌&&◌, List, take, Option, Some, None}
use Rattle.domain_base.specs.declared.names.Akm.{Akm}
use Rattle.air_frame.specs.declared.frame.AirFault.{AirFault}
use Rattle.air_frame.specs.declared.frame.Direction.{Direction}
use Rattle.air_frame.specs.Fields.{AirFields, HeaderFields, assoc_req, assoc_resp, ft_req, ft_resp, re_req, re_resp, action, eapol, protected, ignored}
use Rattle.air_frame.specs.Spelled.{SpellsAir}
use Rattle.air_frame.specs.Faults.{air_fault}
use Rattle.air_frame.specs.Control.{is_action}
use Rattle.rsn_elements.specs.declared.framing.Within.TheVariants.{Body}
use Rattle.rsn_elements.specs.declared.faults.ElementFault.{ElementFault}
use Rattle.rsn_elements.specs.Elements.{ElementFields, SpellsElements}
use Rattle.rsn_elements.specs.Faults.{HasElementFault}
use Rattle.eapol_key.specs.declared.messages.Message.{Message}
use Rattle.eapol_key.specs.declared.frame.FrameFault.{FrameFault}
use Rattle.eapol_key.specs.KeyFrame.{KeyFields, SpellsKeyFrame, key_frame_fault}
use Rattle.eapol_key.specs.Messages.{IsMessage}
use Rattle.run_journal.specs.declared.domain.Domain.{Domain}
use Rattle.run_journal.specs.Events.{protects}
use Rattle.run_journal.specs.declared.acts.Kind.{Kind}
use Rattle.run_journal.specs.declared.acts.Kind.TheVariants.{AssocReq, AssocResp, FtReq, FtResp, ReReq, ReResp, Key, Data, Action, Ignored, Unread, Eapol}

-- a management frame: its kind, its header, its status (0 in a request) and the octets of its elements
pub record Management : Type 0 where
  pub kind : Kind
  pub header : HeaderFields
  pub status : ℕ
  pub elements : List ℕ

-- a management frame by what it says, where a node takes such a one
abbrev pub management_of : AirFields → Option Management
management_of (assoc_req h capability interval elements) = Some (record { kind = AssocReq; header = h; status = 0; elements = elements })
management_of (assoc_resp h capability status aid elements) = Some (record { kind = AssocResp; header = h; status = status; elements = elements })
management_of (ft_req h status elements) = Some (record { kind = FtReq; header = h; status = 0; elements = elements })
management_of (ft_resp h status elements) = Some (record { kind = FtResp; header = h; status = status; elements = elements })
management_of (re_req h capability interval current elements) = Some (record { kind = ReReq; header = h; status = 0; elements = elements })
management_of (re_resp h capability status aid elements) = Some (record { kind = ReResp; header = h; status = status; elements = elements })
management_of (action h body) = None
management_of (eapol h direction tid octets) = None
management_of (protected h direction tid body) = None
management_of ignored = None

-- an EAPOL-Key message: the header and the way of its data frame, its fields, and its octets to the end of its body
pub record KeyMessage : Type 0 where
  pub header : HeaderFields
  pub direction : Direction
  pub message : Message
  pub fields : KeyFields
  pub octets : List ℕ

-- what octets are to a node: no frame; a frame that is passed over; a management frame with its elements or their
-- fault; an EAPOL-Key message, or why there is none; protected data; an Action frame to a group
pub data Reading : Type 0 where
  -- the octets are no air frame of the profile
  NoFrame : AirFault → Reading
  -- they are a frame that the profile passes over
  PassedOver : Reading
  -- a management frame whose elements cannot be read
  NoElements : Management → ElementFault → Reading
  -- a management frame and what its elements say
  Managed : Management → ElementFields → Reading
  -- an EAPOL data frame whose body is no EAPOL-Key frame
  NoKeyFrame : HeaderFields → FrameFault → Reading
  -- an EAPOL-Key frame that is no message of the profile
  NoMessage : HeaderFields → Reading
  -- an EAPOL-Key message
  Keyed : KeyMessage → Reading
  -- a protected data frame: its header, its way, its TID, and its body
  Sealed : HeaderFields → Direction → Option ℕ → List ℕ → Reading
  -- an Action frame to a group: its header, and its body, which ends in an MME
  Acting : HeaderFields → List ℕ → Reading

-- the octets are such a frame, of that body
pub record IsManaged (octets : List ℕ) (b : Management) : Type 0 where
  pub frame : AirFields
  pub spelled : SpellsAir octets frame
  pub is : management_of frame ≡ Some b

-- the octets are a data frame with such an EAPOL frame
pub record IsEapol (octets : List ℕ) (h : HeaderFields) (way : Direction) (body : List ℕ) : Type 0 where
  pub tid : Option ℕ
  pub spelled : SpellsAir octets (eapol h way tid body)

-- the octets are data with an EAPOL frame that is no EAPOL-Key frame, for that fault
pub record HasNoKeyFrame (octets : List ℕ) (h : HeaderFields) (fault : FrameFault) : Type 0 where
  pub way : Direction
  pub body : List ℕ
  pub frame : IsEapol octets h way body
  pub is : key_frame_fault body ≡ Some fault

-- the octets are data with an EAPOL-Key frame that is none of the messages
pub record HasNoMessage (akm : Akm) (octets : List ℕ) (h : HeaderFields) : Type 0 where
  pub way : Direction
  pub body : List ℕ
  pub frame : IsEapol octets h way body
  pub fields : KeyFields
  pub used : ℕ
  pub spelled : SpellsKeyFrame body fields used
  pub none : (m : Message) → IsMessage akm m fields → ⊥

-- the octets are data with that EAPOL-Key message
pub record HasMessage (akm : Akm) (octets : List ℕ) (k : KeyMessage) : Type 0 where
  pub body : List ℕ
  pub frame : IsEapol octets k.header k.direction body
  pub used : ℕ
  pub spelled : SpellsKeyFrame body k.fields used
  pub is : IsMessage akm k.message k.fields
  pub octets_are : k.octets ≡ take used body

-- under a suite the octets read so
abbrev pub Reads : Akm → List ℕ → Reading → Type 0
Reads akm octets (NoFrame fault) = air_fault octets ≡ Some fault
Reads akm octets PassedOver = SpellsAir octets ignored
Reads akm octets (NoElements b fault) = IsManaged octets b × HasElementFault Body b.elements fault.place fault.kind
Reads akm octets (Managed b e) = IsManaged octets b × SpellsElements Body b.elements e
Reads akm octets (NoKeyFrame h fault) = HasNoKeyFrame octets h fault
Reads akm octets (NoMessage h) = HasNoMessage akm octets h
Reads akm octets (Keyed k) = HasMessage akm octets k
Reads akm octets (Sealed h way tid body) = SpellsAir octets (protected h way tid body)
Reads akm octets (Acting h body) = SpellsAir octets (action h body)

-- every frame of subtype 13 is passed over, whatever follows its first octet, where management frames are not protected
abbrev pub passes_over : Domain → List ℕ → Bool
passes_over d octets = is_action octets && not (protects d)

-- octets that are passed over so, or else what they read as
abbrev pub ReadsBy : Bool → Akm → List ℕ → Reading → Type 0
ReadsBy true akm octets r = r ≡ PassedOver
ReadsBy false akm octets r = Reads akm octets r

-- what octets are to a node of the network
abbrev pub ReadsAt : Domain → List ℕ → Reading → Type 0
ReadsAt d octets r = ReadsBy (passes_over d octets) d.akm octets r

-- the kind under which it stands in the journal
abbrev pub kind_of : Reading → Kind
kind_of (NoFrame fault) = Unread
kind_of PassedOver = Ignored
kind_of (NoElements b fault) = b.kind
kind_of (Managed b e) = b.kind
kind_of (NoKeyFrame h fault) = Eapol
kind_of (NoMessage h) = Eapol
kind_of (Keyed k) = Key k.message
kind_of (Sealed h way tid body) = Data
kind_of (Acting h body) = Action

-- its header, where it has one
abbrev pub header_of : Reading → Option HeaderFields
header_of (NoFrame fault) = None
header_of PassedOver = None
header_of (NoElements b fault) = Some b.header
header_of (Managed b e) = Some b.header
header_of (NoKeyFrame h fault) = Some h
header_of (NoMessage h) = Some h
header_of (Keyed k) = Some k.header
header_of (Sealed h way tid body) = Some h
header_of (Acting h body) = Some h

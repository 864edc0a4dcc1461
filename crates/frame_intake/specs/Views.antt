-- What delivered frames are, without where they lie in memory (profile).
use Rattle.air_frame.specs.declared.frame.Action.{Action}
use Rattle.air_frame.specs.Views.{header_of}
use Rattle.rsn_elements.specs.Elements.{HasRaw}
use Rattle.rsn_elements.specs.Fields.{element_fields}
use Rattle.eapol_key.specs.Fields.{fields_of, IsKeyFrame}
use Rattle.domain_rules.specs.Reading.{Reading, NoFrame, PassedOver, NoElements, Managed}
use Rattle.domain_rules.specs.Reading.{NoKeyFrame, NoMessage, Keyed}
use Rattle.domain_rules.specs.Reading.{Management as ManagementFields, KeyMessage as MessageFields}
use Rattle.frame_intake.specs.SealedFields.{SealedFields, sealed_reading, IsSealedData}
use Rattle.frame_intake.specs.ActionFields.{ActionFields, action_reading, IsActionFrame}
use Rattle.frame_intake.specs.declared.delivered.Management.{Management}
use Rattle.frame_intake.specs.declared.delivered.KeyMessage.{KeyMessage}
use Rattle.frame_intake.specs.declared.delivered.SealedData.{SealedData}
use Rattle.frame_intake.specs.declared.delivered.Delivered.{Delivered}
use Rattle.frame_intake.specs.declared.delivered.Delivered.TheVariants as delivered

-- what a management frame says
abbrev pub management_fields : Management → ManagementFields
management_fields m = record {
  kind = m.kind;
  header = header_of m.header;
  status = m.status;
  elements = m.elements.now;
}

-- what an EAPOL-Key message says
abbrev pub message_fields : KeyMessage → MessageFields
message_fields k = record {
  header = header_of k.header;
  direction = k.direction;
  message = k.message;
  fields = fields_of k.frame;
  octets = k.frame.octets.now;
}

-- what protected data says
abbrev pub sealed_fields : SealedData → SealedFields
sealed_fields s = record {
  header = header_of s.header;
  direction = s.direction;
  tid = s.tid;
  body = s.body.now;
}

-- what an Action frame says
abbrev pub action_fields : Action → ActionFields
action_fields a = record { header = header_of a.header; body = a.body.now }

-- what a delivered frame is to a node
abbrev pub reading_of : Delivered → Reading
reading_of (delivered.NoFrame fault) = NoFrame fault
reading_of delivered.PassedOver = PassedOver
reading_of (delivered.NoElements m fault) = NoElements (management_fields m) fault
reading_of (delivered.Managed m e) = Managed (management_fields m) (element_fields e)
reading_of (delivered.NoKeyFrame h fault) = NoKeyFrame (header_of h) fault
reading_of (delivered.NoMessage h) = NoMessage (header_of h)
reading_of (delivered.Keyed k) = Keyed (message_fields k)
reading_of (delivered.Sealed s) = sealed_reading (sealed_fields s)
reading_of (delivered.Acting a) = action_reading (action_fields a)

-- what its reader vouches for: of elements that the octets kept are theirs, of a message that its
-- octets are its frame, of protected data and of an Action frame what header and body are
abbrev pub IsWhole : Delivered → Type 0
IsWhole (delivered.NoFrame fault) = Unit {0}
IsWhole delivered.PassedOver = Unit {0}
IsWhole (delivered.NoElements m fault) = Unit {0}
IsWhole (delivered.Managed m e) = HasRaw (element_fields e)
IsWhole (delivered.NoKeyFrame h fault) = Unit {0}
IsWhole (delivered.NoMessage h) = Unit {0}
IsWhole (delivered.Keyed k) = IsKeyFrame k.frame
IsWhole (delivered.Sealed s) = IsSealedData (sealed_fields s)
IsWhole (delivered.Acting a) = IsActionFrame (action_fields a)

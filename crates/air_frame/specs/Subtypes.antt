-- The numbers of management frames (IEEE Std 802.11-2020, 9.2.4.1.3).
use Rattle.std.specs.Prelude.{ℕ}
use Rattle.air_frame.specs.declared.sending.Subtype.{Subtype}
use Rattle.air_frame.specs.declared.sending.Subtype.TheVariants.{AssocReq, AssocResp, ReReq, ReResp, Authentication, Action}

-- a management frame's subtype: association request 0 and response 1, reassociation request 2 and response 3,
-- authentication 11, action 13
abbrev pub subtype_number : Subtype → ℕ
subtype_number AssocReq = 0
subtype_number AssocResp = 1
subtype_number ReReq = 2
subtype_number ReResp = 3
subtype_number Authentication = 11
subtype_number Action = 13

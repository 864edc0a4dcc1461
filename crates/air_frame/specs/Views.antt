-- What the values of the code say, without where they lie in memory (profile).
use Rattle.air_frame.specs.declared.frame.Header.{Header}
use Rattle.air_frame.specs.declared.frame.AirFrame.{AirFrame}
use Rattle.air_frame.specs.declared.frame.AirFrame.TheVariants.{AssocReq, AssocResp, FtReq, FtResp, ReReq, ReResp, Action, Eapol, Protected, Ignored}
use Rattle.air_frame.specs.Fields.{HeaderFields, AirFields, assoc_req, assoc_resp, ft_req, ft_resp, re_req, re_resp, action, eapol, protected, ignored}

-- what the code's header says, without where it lies in memory
abbrev pub header_of : Header → HeaderFields
header_of h = record { octets = h.octets.now; a1 = h.a1.0; a2 = h.a2.0; a3 = h.a3.0 }

-- what the code's frame says, without where it lies in memory
abbrev pub fields_of : AirFrame → AirFields
fields_of (AssocReq f) = assoc_req (header_of f.header) f.capability f.listen_interval f.elements.now
fields_of (AssocResp f) = assoc_resp (header_of f.header) f.capability f.status f.aid f.elements.now
fields_of (FtReq f) = ft_req (header_of f.header) f.status f.elements.now
fields_of (FtResp f) = ft_resp (header_of f.header) f.status f.elements.now
fields_of (ReReq f) = re_req (header_of f.header) f.capability f.listen_interval f.current_ap.0 f.elements.now
fields_of (ReResp f) = re_resp (header_of f.header) f.capability f.status f.aid f.elements.now
fields_of (Action f) = action (header_of f.header) f.body.now
fields_of (Eapol f) = eapol (header_of f.header) f.direction f.tid f.body.now
fields_of (Protected f) = protected (header_of f.header) f.direction f.tid f.body.now
fields_of Ignored = ignored

-- a management frame
abbrev pub IsManagement : AirFrame → Type 0
IsManagement (Eapol f) = ⊥
IsManagement (Protected f) = ⊥
IsManagement Ignored = ⊥
IsManagement _ = Unit {0}

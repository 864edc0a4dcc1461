use Rattle.std.proofs.Common.{ap, subst}
use Rattle.air_frame.specs.declared.frame.AirFrame.{AirFrame}
use Rattle.air_frame.specs.Spelled.{SpellsAir}
use Rattle.air_frame.specs.Views.{fields_of, header_of}
use Rattle.domain_rules.specs.Reading.{management_of}
use Rattle.domain_base.proofs.OctetLemmas.{octets_by_entries}
use Rattle.frame_intake.proofs.Actions.{action_frame}
use Rattle.frame_intake.proofs.SealedHeaders.{sealed_data}
use Rattle.frame_intake.proofs.reading.read_frame.Goals as goal

pub returns-in-AssocReq-clause-reads : goal.returns-in-AssocReq-clause-reads
returns-in-AssocReq-clause-reads c =
    c.managed.ensures.reads c.args.akm c.args.octets.now (fields_of c.in-Ok.frame) c.in-Ok.ensures.found (ap (λ (x : AirFrame). management_of (fields_of x)) c.in-AssocReq.is)

pub returns-in-AssocResp-clause-reads : goal.returns-in-AssocResp-clause-reads
returns-in-AssocResp-clause-reads c =
    c.managed-in-AssocResp.ensures.reads c.args.akm c.args.octets.now (fields_of c.in-Ok.frame) c.in-Ok.ensures.found (ap (λ (x : AirFrame). management_of (fields_of x)) c.in-AssocResp.is)

pub returns-in-FtReq-clause-reads : goal.returns-in-FtReq-clause-reads
returns-in-FtReq-clause-reads c =
    c.managed-in-FtReq.ensures.reads c.args.akm c.args.octets.now (fields_of c.in-Ok.frame) c.in-Ok.ensures.found (ap (λ (x : AirFrame). management_of (fields_of x)) c.in-FtReq.is)

pub returns-in-FtResp-clause-reads : goal.returns-in-FtResp-clause-reads
returns-in-FtResp-clause-reads c =
    c.managed-in-FtResp.ensures.reads c.args.akm c.args.octets.now (fields_of c.in-Ok.frame) c.in-Ok.ensures.found (ap (λ (x : AirFrame). management_of (fields_of x)) c.in-FtResp.is)

pub returns-in-ReReq-clause-reads : goal.returns-in-ReReq-clause-reads
returns-in-ReReq-clause-reads c =
    c.managed-in-ReReq.ensures.reads c.args.akm c.args.octets.now (fields_of c.in-Ok.frame) c.in-Ok.ensures.found (ap (λ (x : AirFrame). management_of (fields_of x)) c.in-ReReq.is)

pub returns-in-ReResp-clause-reads : goal.returns-in-ReResp-clause-reads
returns-in-ReResp-clause-reads c =
    c.managed-in-ReResp.ensures.reads c.args.akm c.args.octets.now (fields_of c.in-Ok.frame) c.in-Ok.ensures.found (ap (λ (x : AirFrame). management_of (fields_of x)) c.in-ReResp.is)

pub returns-in-Action-clause-reads : goal.returns-in-Action-clause-reads
returns-in-Action-clause-reads c = subst (λ (x : AirFrame). SpellsAir c.args.octets.now (fields_of x)) c.in-Action.is c.in-Ok.ensures.found

pub returns-in-Action-clause-whole : goal.returns-in-Action-clause-whole
returns-in-Action-clause-whole c =
    let f = c.in-Action.f in
    let s = subst (λ (x : AirFrame). SpellsAir c.args.octets.now (fields_of x)) c.in-Action.is c.in-Ok.ensures.found in
    action_frame c.args.octets.now (header_of f.header) f.body.now (octets_by_entries c.args.octets.now (λ k. (c.type_inv.octets k).fits)) s

pub returns-in-Ignored-clause-reads : goal.returns-in-Ignored-clause-reads
returns-in-Ignored-clause-reads c = subst (λ (x : AirFrame). SpellsAir c.args.octets.now (fields_of x)) c.in-Ignored.is c.in-Ok.ensures.found

pub returns-in-Eapol-clause-reads : goal.returns-in-Eapol-clause-reads
returns-in-Eapol-clause-reads c =
    c.keyed.ensures.reads c.args.octets.now (record {
      tid = c.in-Eapol.f.tid;
      spelled = subst (λ (x : AirFrame). SpellsAir c.args.octets.now (fields_of x)) c.in-Eapol.is c.in-Ok.ensures.found;
    })

pub returns-in-Protected-clause-reads : goal.returns-in-Protected-clause-reads
returns-in-Protected-clause-reads c =
    rw c.number_of.ensures (subst (λ (x : AirFrame). SpellsAir c.args.octets.now (fields_of x)) c.in-Protected.is c.in-Ok.ensures.found)

pub returns-in-Protected-clause-whole : goal.returns-in-Protected-clause-whole
returns-in-Protected-clause-whole c =
    let f = c.in-Protected.f in
    let s = subst (λ (x : AirFrame). SpellsAir c.args.octets.now (fields_of x)) c.in-Protected.is c.in-Ok.ensures.found in
    rw c.number_of.ensures (sealed_data c.args.octets.now (header_of f.header) f.direction f.tid f.body.now (octets_by_entries c.args.octets.now (λ k. (c.type_inv.octets k).fits)) s)

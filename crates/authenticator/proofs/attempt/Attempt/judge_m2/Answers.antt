use Rattle.std.proofs.Common.{◌∙◌, sym, ap, subst}
use Rattle.std.specs.Prelude.{Some, None}
use Rattle.eapol_key.specs.Fields.{fields_of}
use Rattle.node_base.specs.PairwiseKeys.{key_with}
use Rattle.authenticator.specs.KeyData.{IsKeyDataOf}
use Rattle.authenticator.specs.Judged.{frame_of}
use Rattle.authenticator.specs.declared.base.Base.{Base}
use Rattle.authenticator.proofs.Deciding.{awaits, forged, verifies}
use Rattle.authenticator.proofs.attempt.Attempt.judge_m2.Goals as goal

pub returns-then-not-awaits_m2 : goal.returns-then-not-awaits_m2
returns-then-not-awaits_m2 c = sym c.awaits_m2.ensures ∙ c.if-not-awaits_m2.true

pub returns-then-not-is_offered : goal.returns-then-not-is_offered
returns-then-not-is_offered c = record {
  awaited = sym c.awaits_m2.ensures ∙ c.if-not-awaits_m2.false;
  offer = sym c.is_offered.ensures ∙ c.if-not-is_offered.true;
  is = c.greatest.ensures;
}

pub returns-then-not-verify : goal.returns-then-not-verify
returns-then-not-verify c =
    let a = c.args.self.now in
    let f = frame_of c.args.frame.now in
    forged c.args.ends.now a f c.pairwise_key-key.result c.verify.result
    (awaits c.args.ends.now a (fields_of c.args.frame.now) c.awaits_m2.result c.is_offered.result c.awaits_m2.ensures c.if-not-awaits_m2.false c.is_offered.ensures c.if-not-is_offered.false)
    (c.pairwise_key-key.ensures ∙ ap (λ (b : Base). key_with c.args.ends.now b.pmk a.anonce f.fields.nonce) c.base-base.ensures.same) c.verify.ensures c.if-not-verify.true

pub returns-in-Some : goal.returns-in-Some
returns-in-Some c =
    let a = c.args.self.now in
    let f = frame_of c.args.frame.now in
    verifies c.args.ends.now a f c.pairwise_key-key.result c.verify.result c.rsne.result.now c.key_data_fault.result (Some c.in-Some.fault)
    (awaits c.args.ends.now a (fields_of c.args.frame.now) c.awaits_m2.result c.is_offered.result c.awaits_m2.ensures c.if-not-awaits_m2.false c.is_offered.ensures c.if-not-is_offered.false)
    (c.pairwise_key-key.ensures ∙ ap (λ (b : Base). key_with c.args.ends.now b.pmk a.anonce f.fields.nonce) c.base-base.ensures.same) c.verify.ensures c.if-not-verify.false c.rsne.ensures.octets c.in-Some.is
    (subst (λ (b : Base). IsKeyDataOf b.mobility c.rsne.result.now f.fields.key_data c.key_data_fault.result) c.base-base.ensures.same c.key_data_fault.ensures)

pub returns-in-None : goal.returns-in-None
returns-in-None c =
    let a = c.args.self.now in
    let f = frame_of c.args.frame.now in
    verifies c.args.ends.now a f c.pairwise_key-key.result c.verify.result c.rsne.result.now c.key_data_fault.result None
    (awaits c.args.ends.now a (fields_of c.args.frame.now) c.awaits_m2.result c.is_offered.result c.awaits_m2.ensures c.if-not-awaits_m2.false c.is_offered.ensures c.if-not-is_offered.false)
    (c.pairwise_key-key.ensures ∙ ap (λ (b : Base). key_with c.args.ends.now b.pmk a.anonce f.fields.nonce) c.base-base.ensures.same) c.verify.ensures c.if-not-verify.false c.rsne.ensures.octets c.in-None.is
    (subst (λ (b : Base). IsKeyDataOf b.mobility c.rsne.result.now f.fields.key_data c.key_data_fault.result) c.base-base.ensures.same c.key_data_fault.ensures)

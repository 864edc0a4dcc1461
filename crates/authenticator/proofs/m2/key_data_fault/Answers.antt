use Rattle.std.proofs.Common.{Option, Some, None, option_map, sym, subst}
use Rattle.rsn_elements.specs.Fields.{rsne_fields, element_fields}
use Rattle.run_journal.specs.declared.acts.KeyDataFault.{KeyDataFault}
use Rattle.frame_making.specs.Mobile.{Mobility}
use Rattle.authenticator.specs.KeyData.{IsKeyDataOf}
use Rattle.authenticator.proofs.KeyData.{key_data_plain, key_data_mobile}
use Rattle.authenticator.proofs.m2.key_data_fault.Goals as goal

pub returns-in-Some : goal.returns-in-Some
returns-in-Some c =
    let rsne = c.args.rsne.now in
    let octets = c.args.key_data.now in
    subst (λ (m : Option Mobility). IsKeyDataOf m rsne octets c.mobile_fault.result) (sym c.in-Some.is)
    (subst (λ (x : Option KeyDataFault). IsKeyDataOf (Some c.in-Some.mobility) rsne octets x) (sym c.mobile_fault.ensures)
    (key_data_mobile c.in-Some.mobility rsne octets (option_map rsne_fields c.read_rsne.result) (element_fields c.in-Ok.elements) c.in-Ok.ensures.found c.read_rsne.ensures))

pub returns-in-None : goal.returns-in-None
returns-in-None c =
    let rsne = c.args.rsne.now in
    let octets = c.args.key_data.now in
    subst (λ (m : Option Mobility). IsKeyDataOf m rsne octets c.plain_fault.result) (sym c.in-None.is)
    (subst (λ (x : Option KeyDataFault). IsKeyDataOf None rsne octets x) (sym c.plain_fault.ensures)
    (key_data_plain rsne octets (element_fields c.in-Ok.elements) c.in-Ok.ensures.found))

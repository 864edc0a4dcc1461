use Rattle.std.proofs.Common.{refl}
use Rattle.rsn_elements.specs.Rsne.{IsSuite, IsNumber, IsList}
use Rattle.rsn_elements.proofs.RsneLaws.{at_version, leads, at_leading, at_capabilities, at_pmkids, broken}
use Rattle.rsn_elements.proofs.security.fields_at.Goals as goal

pub returns-in_default : goal.returns-in_default
returns-in_default c f s =
    c.in_default.ensures f.group f.pairwise f.akms s.behind_akms (leads _ _ f s (at_version _ f s c.args.octets.now refl))

pub returns-in_default-number_at : goal.returns-in_default-number_at
returns-in_default-number_at c f s =
    let akms = at_leading _ _ f s _ _ _ c.in-Some.ensures in
    broken IsNumber _ _ _ f.capabilities akms s.capabilities c.in_default-number_at.ensures

pub returns-in_default-pmkids_at : goal.returns-in_default-pmkids_at
returns-in_default-pmkids_at c f s =
    let akms = at_leading _ _ f s _ _ _ c.in-Some.ensures in
    let capabilities = at_capabilities _ f s _ _ _ akms c.in-Some-number_at.ensures in
    broken (IsList 16) _ _ _ f.pmkids capabilities.1 s.pmkids c.in_default-pmkids_at.ensures

pub returns-in_default-management_at : goal.returns-in_default-management_at
returns-in_default-management_at c f s =
    let akms = at_leading _ _ f s _ _ _ c.in-Some.ensures in
    let capabilities = at_capabilities _ f s _ _ _ akms c.in-Some-number_at.ensures in
    let pmkids = at_pmkids _ f s _ _ _ capabilities.1 c.in-Some-pmkids_at.ensures in
    broken IsSuite _ _ _ f.management pmkids.1 s.management c.in_default-management_at.ensures

pub returns : goal.returns
returns c =
    let l = c.in-Some.ensures in
    record {
      behind_version = c.args.octets.now;
      behind_group = l.behind_group;
      behind_pairwise = l.behind_pairwise;
      behind_akms = _;
      behind_capabilities = _;
      behind_pmkids = _;
      behind_management = c.in-Some-management_at.ensures.0;
      one = refl;
      version = refl;
      group = l.group;
      pairwise = l.pairwise;
      akms = l.akms;
      capabilities = c.in-Some-number_at.ensures;
      pmkids = c.in-Some-pmkids_at.ensures;
      management = c.in-Some-management_at.ensures.1;
    }

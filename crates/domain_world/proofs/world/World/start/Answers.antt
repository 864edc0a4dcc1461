use Rattle.std.proofs.Common.{◌≡◌, List, [], refl, sym, ap, subst, ◌∙◌, length}
use Rattle.std.specs.List.{AllByRecursion}
use Rattle.key_holders.specs.declared.rows.HeldRow.{HeldRow}
use Rattle.domain_rules.specs.InOctets.{InOctets}
use Rattle.domain_rules.specs.Network.{InForm}
use Rattle.domain_rules.proofs.Unchanged.{present_none}
use Rattle.domain_world.proofs.Placed.{places_none, numbered_none}
use Rattle.domain_world.proofs.Owned.{octets_none, right_none}
use Rattle.domain_world.proofs.world.World.start.Goals as goal

pub returns-clause-since : goal.returns-clause-since
returns-clause-since c = record {
  is_present = present_none _ [] tt;
  right = right_none _;
}

pub returns-clause-own : goal.returns-clause-own
returns-clause-own c =
    let nodes = c.in_ok-nodes.ensures in
    record {
      usable = refl;
      form = subst InForm (sym nodes.domain) c.requires.form;
      octets = subst InOctets (sym nodes.domain) (octets_none c.args.domain.now c.requires.no_aps c.requires.no_stas c.pair.ensures.size c.pair.ensures.octets);
      listed = nodes.listed;
      stand = nodes.stand;
      placed = record {
        count = ap length c.new-2.ensures.items;
        numbered = numbered_none;
        places = c.new-2.ensures.items ∙ sym places_none;
        past = tt;
      };
      unchanged = λ first. tt;
      quiet = λ first. subst (AllByRecursion (λ (xs : List HeldRow). xs ≡ [])) (sym nodes.quiet) tt;
      asked = λ first. tt;
      header = (_, returns-clause-since c);
    }

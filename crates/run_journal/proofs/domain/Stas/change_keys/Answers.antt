use Rattle.std.proofs.Common.{◌<◌, Bool, cond, List, length, set, refl, sym, ap, subst, ◌∙◌, rules}
use Rattle.run_journal.specs.declared.domain.ListedSta.{ListedSta}
use Rattle.run_journal.specs.Changed.{rekeyed}
use Rattle.run_journal.specs.Places.{IsIndexOf}
use Rattle.run_journal.specs.declared.places.Places.{Places}
use Rattle.run_journal.proofs.Rekeying.{keyed_next, all_keyed, still_indexes}
use Rattle.run_journal.proofs.domain.Stas.change_keys.Goals as goal

pub loop-place-init : goal.loop-place-init
loop-place-init c = record { keyed = refl; places = refl }

pub loop-place-preserved : goal.loop-place-preserved
loop-place-preserved c =
    let l = c.loop-place in
    let within : l.place < length c.self.inside.listed.items = search rules in
    record {
      keyed = ap (λ (s : ListedSta). set l.self-inside.listed.items l.place s) (c.keyed.ensures ∙ ap (λ (b : Bool). record { address = c.index.result.now.address; psk = cond b c.args.psk.now c.index.result.now.psk }) c.is_named.ensures)
          ∙ keyed_next c.args.sta c.args.psk.now c.self.inside.listed.items l.self-inside.listed.items l.place c.index.result.now within l.invariant.keyed c.index.ensures;
      places = l.invariant.places;
    }

pub returns : goal.returns
returns c =
    all_keyed c.args.sta c.args.psk.now c.self.inside.listed.items c.loop-place.self-inside.listed.items c.loop-place.place (search rules) c.loop-place.invariant.keyed
    ∙ ap (rekeyed c.args.sta c.args.psk.now 0) c.self.view_is

pub invariant_of-self : goal.invariant_of-self
invariant_of-self c =
    let l = c.loop-place in
    let all = all_keyed c.args.sta c.args.psk.now c.self.inside.listed.items l.self-inside.listed.items l.place (search rules) l.invariant.keyed in
    subst (λ (places : Places). IsIndexOf l.self-inside.listed.items places) (sym l.invariant.places)
    (subst (λ (stas : List ListedSta). IsIndexOf stas c.self.inside.places) (sym all)
    (still_indexes c.args.sta c.args.psk.now 0 c.self.inside.listed.items c.self.inside.places.numbers.items c.self.inside.places.places.items c.self.invariant))

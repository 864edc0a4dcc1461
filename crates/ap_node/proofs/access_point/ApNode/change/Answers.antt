use Rattle.std.proofs.Common.{◌≡◌, ◌∙◌, ◌++◌, ◌<◌, ℕ, List, length, Option, Some, arith, refl, sym, ap, subst}
use Rattle.run_journal.specs.declared.acts.Act.{Act}
use Rattle.run_journal.specs.declared.acts.Outcome.TheVariants.{Done}
use Rattle.run_journal.specs.declared.domain.Domain.{Domain}
use Rattle.run_journal.specs.Events.{NamesSta}
use Rattle.domain_rules.specs.Rows.{Secret}
use Rattle.node_base.specs.Events.{seen}
use Rattle.ap_node.proofs.Ending.{ends_with}
use Rattle.ap_node.proofs.Messaging.{few_stas}
use Rattle.ap_node.proofs.Rows.{rest, same_others}
use Rattle.ap_node.proofs.Rekeying.{does_rekey, has_changed, left_named, left_switched}
use Rattle.ap_node.proofs.access_point.ApNode.change.Goals as goal

low : (d : Domain) (named : Option ℕ) → NamesSta d named → (s : ℕ) → named ≡ Some s → s < length d.stas
low d named names s is = subst (NamesSta d) is names

pub returns-clause-changed : goal.returns-clause-changed
returns-clause-changed over c =
    let d = c.args.here.domain.now in
    let old = c.args.self.now in
    let mid = c.change_named.new.self in
    let sta = c.args.sta in
    let psk = c.args.psk.now in
    let xs = over.H.Holders.rows c.args.holders.now old.number in
    let ys = over.H.Holders.rows c.change_named.new.holders old.number in
    let waited = c.args.out.now.acts in
    let half = c.change_named.new.out.acts in
    let r = c.change_named.ensures.rekeyed in
    let waiting : half ≡ waited ++ r.0 = r.1 ∙ ap (λ (l : List Act). l ++ r.0) c.in_ok-reserve.ensures.acts in
    let done = does_rekey d sta psk old mid xs ys waited half r.0 (few_stas d c.requires.form) (low d sta c.requires.sta) waiting r.2 c.change_named.ensures.number in
    has_changed d sta psk old c.end.new.self xs ys (seen waited c.end.new.out.acts c.end.result) c.requires.listed c.end.ensures.outcome
    (left_switched d sta mid c.end.new.self c.end.ensures.state (left_named d psk sta old mid xs ys r.0 r.2))
    (ends_with d (Secret sta psk) old mid c.end.new.self xs ys waited half c.end.new.out.acts Done c.end.result done c.end.ensures.state c.end.ensures.acts c.end.ensures.outcome)

pub returns-clause-always : goal.returns-clause-always
returns-clause-always over c room = refl

pub returns-clause-spare : goal.returns-clause-spare
returns-clause-spare over c room = omega (arith, c.change_named.ensures.spare, c.in_ok-reserve.ensures.spare, c.end.ensures.spare)

pub end-requires-clause-listed : goal.end-requires-clause-listed
end-requires-clause-listed over c = subst (λ (n : ℕ). n < length c.args.here.domain.now.aps) (sym c.change_named.ensures.number) c.requires.listed

pub returns-in_err-reserve-clause-others : goal.returns-in_err-reserve-clause-others
returns-in_err-reserve-clause-others over c = rest (same_others _ _ _ _)

pub returns-in_err-reserve-clause-no_less : goal.returns-in_err-reserve-clause-no_less
returns-in_err-reserve-clause-no_less over c = over.met.H.Holders.same c.args.holders.now

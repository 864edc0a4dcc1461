use Rattle.std.proofs.Common.{◌≡◌, true, length, sym, ap, subst, ◌∙◌, arith}
use Rattle.std.proofs.lemmas.List.{length-map}
use Rattle.key_holders.specs.Rows.{is_in}
use Rattle.key_holders.proofs.Listing.{below_in}
use Rattle.run_journal.specs.declared.domain.ListedAp.{ListedAp}
use Rattle.holder_table.specs.declared.view.View.{View}
use Rattle.domain_world.proofs.held.start.Goals as goal

pub returns-clause-held : goal.returns-clause-held
returns-clause-held c =
    let made = c.in_ok-table.ensures in
    let count = ap length c.in_ok-ids.ensures ∙ length-map c.args.domain.now.aps (λ (a : ListedAp). a.r0kh_id) in
    (made.0 ∙ c.in_ok-ids.ensures, λ r low. subst (λ (v : View). is_in r v.has ≡ true) (sym made.2) (below_in r _ (omega (arith, low, count))))

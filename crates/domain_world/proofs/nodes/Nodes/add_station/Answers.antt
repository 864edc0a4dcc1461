use Rattle.std.proofs.Common.{◌≡◌, ◌≤◌, ℕ, List, [], ◌∷◌, ◌++◌, length, length-append, refl, ap, subst, sym, ◌∙◌, arith}
use Rattle.run_journal.specs.Limits.{most_stas}
use Rattle.station_node.specs.State.{State as StationState}
use Rattle.domain_rules.specs.Network.{IsNamed}
use Rattle.domain_rules.proofs.Peers.{named}
use Rattle.domain_world.specs.State.{Nodes, rows_below}
use Rattle.domain_world.specs.Holding.{seen_of}
use Rattle.domain_world.specs.Owning.{AreListed}
use Rattle.domain_world.proofs.Standing.{stand_more_sta, grows_sta}
use Rattle.domain_world.proofs.Stepping.{added_sta, fit_more_sta, one_more, listed_more_sta, sta_closed}
use Rattle.domain_world.proofs.nodes.Nodes.add_station.Goals as goal

pub returns-clause-stand : goal.returns-clause-stand
returns-clause-stand c = λ j is none.
    let last = c.start-station.result in
    let stas : c.self.inside.stas.items ≡ c.args.self.now.stas = ap (λ (n : Nodes). n.stas) c.self.view_is in
    let pushed = c.push_reserved.ensures.items in
    let count : length c.args.self.now.stas ≡ length c.args.self.now.domain.stas = ap (λ (n : Nodes). length n.stas) (sym c.self.view_is) ∙ c.self.invariant.0.count_stas ∙ ap (λ (n : Nodes). length n.domain.stas) c.self.view_is in
    let listed : AreListed c.args.self.now = subst AreListed c.self.view_is c.self.invariant.0 in
    let domain = added_sta _ _ c.args.address c.args.psk _ (ap (λ (n : Nodes). n.domain) c.self.view_is) c.in_ok-list_station.ensures.ok in
    let names = subst IsNamed (sym domain) (named _ c.requires.form) in
    stand_more_sta c.args.self.now _ _ last j (grows_sta c.args.self.now.domain _ c.args.address c.args.psk domain) names listed (ap (λ (n : Nodes). n.aps) c.self.view_is) (ap (λ (n : Nodes). n.rows) c.self.view_is)
    (pushed ∙ ap (λ (l : List StationState). l ++ last ∷ []) (c.reserve.ensures.items ∙ stas)) count (c.start-station.ensures.stands _) is none

pub returns-clause-domain : goal.returns-clause-domain
returns-clause-domain c = added_sta _ _ c.args.address c.args.psk _ (ap (λ (n : Nodes). n.domain) c.self.view_is) c.in_ok-list_station.ensures.ok

pub returns-clause-listed : goal.returns-clause-listed
returns-clause-listed c =
    let old : Nodes = record { domain = c.self.inside.domain; aps = c.self.inside.aps.items; stas = c.self.inside.stas.items; rows = rows_below (length c.self.inside.aps.items) (seen_of c.self.inside.holders) } in
    let last = c.start-station.result in
    let count : length old.stas ≡ c.len-number.result = omega (arith, c.len-number.ensures, c.self.inside.stas.ok.0) in
    let stas = c.push_reserved.ensures.items ∙ ap (λ (l : List StationState). l ++ last ∷ []) c.reserve.ensures.items in
    listed_more_sta old _ _ last (one_more _ _ _ c.in_ok-list_station.ensures.ok) refl stas refl count c.start-station.ensures.number c.self.invariant.0

pub invariant_of-self-2 : goal.invariant_of-self-2
invariant_of-self-2 c =
    let old : Nodes = record { domain = c.self.inside.domain; aps = c.self.inside.aps.items; stas = c.self.inside.stas.items; rows = rows_below (length c.self.inside.aps.items) (seen_of c.self.inside.holders) } in
    let last = c.start-station.result in
    let count : length old.stas ≡ c.len-number.result = omega (arith, c.len-number.ensures, c.self.inside.stas.ok.0) in
    let stas = c.push_reserved.ensures.items ∙ ap (λ (l : List StationState). l ++ last ∷ []) c.reserve.ensures.items in
    (listed_more_sta old _ _ last (one_more _ _ _ c.in_ok-list_station.ensures.ok) refl stas refl count c.start-station.ensures.number c.self.invariant.0, fit_more_sta c.self.inside.domain c.list_station.new.stas c.self.inside.holders c.self.invariant.1)

pub invariant_of-self-in_err-list_station : goal.invariant_of-self-in_err-list_station
invariant_of-self-in_err-list_station c = sta_closed c.self.inside.domain c.self.inside.aps.items c.self.inside.stas.items _ c.self.inside.holders _ c.in_err-list_station.ensures.err c.reserve.ensures.items c.self.invariant

pub invariant_of-self : goal.invariant_of-self
invariant_of-self c = sta_closed c.self.inside.domain c.self.inside.aps.items c.self.inside.stas.items _ c.self.inside.holders _ refl c.reserve.ensures.items c.self.invariant

few_before : {A : Type 0} (xs : List A) (x : A) (n : ℕ) → length (xs ++ x ∷ []) ≤ n → length xs ≤ n
few_before xs x n few = omega (arith, length-append xs (x ∷ []), few)

pub overflow_cast-number : goal.overflow_cast-number
overflow_cast-number c =
    omega (arith, few_before c.args.self.now.domain.stas _ most_stas c.requires.form.few_stas, ap (λ (n : Nodes). length n.domain.stas) c.self.view_is, c.self.invariant.0.count_stas, c.len-number.ensures, c.self.inside.stas.ok.0)

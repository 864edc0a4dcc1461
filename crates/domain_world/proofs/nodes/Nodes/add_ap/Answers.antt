use Rattle.std.proofs.Common.{◌≡◌, ◌≤◌, ℕ, List, [], ◌∷◌, ◌++◌, length, length-append, refl, sym, ap, subst, ◌∙◌, arith}
use Rattle.domain_base.specs.declared.names.Node.TheVariants.{Ap}
use Rattle.run_journal.specs.Limits.{most_aps}
use Rattle.domain_rules.specs.Network.{IsNamed}
use Rattle.domain_rules.proofs.Peers.{named}
use Rattle.ap_node.specs.State.{State as ApState}
use Rattle.domain_world.specs.State.{Nodes, rows_below}
use Rattle.domain_world.specs.Holding.{seen_of}
use Rattle.domain_world.specs.Owning.{AreListed}
use Rattle.domain_world.proofs.Standing.{listed_more_ap, stand_more_ap, grows_ap, none_below}
use Rattle.domain_world.proofs.Stepping.{added_ap, one_more, last_low, put_alone, ap_before, ap_closed}
use Rattle.domain_world.proofs.nodes.Nodes.add_ap.Goals as goal

pub invariant_of-self-in-Ok : goal.invariant_of-self-in-Ok
invariant_of-self-in-Ok c =
    let old : Nodes = record { domain = c.self.inside.domain; aps = c.self.inside.aps.items; stas = c.self.inside.stas.items; rows = rows_below (length c.self.inside.aps.items) (seen_of c.self.inside.holders) } in
    let last = c.in-Ok.node in
    let count : length old.aps ≡ c.len-number.result = omega (arith, c.len-number.ensures, c.self.inside.aps.ok.0) in (
      listed_more_ap old _ _ last (one_more _ _ _ c.in_ok-list_ap.ensures.ok) refl (c.push_reserved.ensures.items ∙ ap (λ (l : List ApState). l ++ last ∷ []) c.reserve.ensures.items) refl
          count c.in-Ok.ensures.number c.self.invariant.0,
      tt,
    )

pub returns-in-Ok-clause-listed : goal.returns-in-Ok-clause-listed
returns-in-Ok-clause-listed c =
    let old : Nodes = record { domain = c.self.inside.domain; aps = c.self.inside.aps.items; stas = c.self.inside.stas.items; rows = rows_below (length c.self.inside.aps.items) (seen_of c.self.inside.holders) } in
    let last = c.in-Ok.node in
    let count : length old.aps ≡ c.len-number.result = omega (arith, c.len-number.ensures, c.self.inside.aps.ok.0) in
    listed_more_ap old _ _ last (one_more _ _ _ c.in_ok-list_ap.ensures.ok) refl (c.push_reserved.ensures.items ∙ ap (λ (l : List ApState). l ++ last ∷ []) c.reserve.ensures.items) refl
    count c.in-Ok.ensures.number c.self.invariant.0

pub returns-in-Ok-clause-stand : goal.returns-in-Ok-clause-stand
returns-in-Ok-clause-stand c = λ j is before none.
    let last = c.in-Ok.node in
    let aps : c.self.inside.aps.items ≡ c.args.self.now.aps = ap (λ (n : Nodes). n.aps) c.self.view_is in
    let pushed = c.push_reserved.ensures.items in
    let count : length c.args.self.now.aps ≡ c.len-number.result = omega (arith, c.len-number.ensures, c.self.inside.aps.ok.0, ap (λ (l : List ApState). length l) aps) in
    let listed : AreListed c.args.self.now = subst AreListed c.self.view_is c.self.invariant.0 in
    let domain = added_ap _ _ c.args.address c.args.r0kh_id _ (ap (λ (n : Nodes). n.domain) c.self.view_is) c.in_ok-list_ap.ensures.ok in
    let names = subst IsNamed (sym domain) (named _ c.requires.form) in
    let holds = none_below (length c.push_reserved.new.self.items) in
    stand_more_ap c.args.self.now _ _ last _ c.args.out.now.acts _ j (grows_ap c.args.self.now.domain _ c.args.address c.args.r0kh_id domain) names listed
    (pushed ∙ ap (λ (l : List ApState). l ++ last ∷ []) (c.reserve.ensures.items ∙ aps)) (ap (λ (n : Nodes). n.stas) c.self.view_is)
    count c.requires.waiting c.in-Ok.ensures.acts holds c.in-Ok.ensures.stands is before none

pub returns-in-Ok-clause-quiet : goal.returns-in-Ok-clause-quiet
returns-in-Ok-clause-quiet c = none_below (length c.push_reserved.new.self.items)

pub returns-in-Ok-clause-domain : goal.returns-in-Ok-clause-domain
returns-in-Ok-clause-domain c = added_ap _ _ c.args.address c.args.r0kh_id _ (ap (λ (n : Nodes). n.domain) c.self.view_is) c.in_ok-list_ap.ensures.ok

pub returns-in-Ok-clause-acts : goal.returns-in-Ok-clause-acts
returns-in-Ok-clause-acts c = put_alone _ _ _ c.requires.waiting c.in-Ok.ensures.acts

pub start-requires : goal.start-requires
start-requires c =
    let count : length c.self.inside.aps.items ≡ c.len-number.result = omega (arith, c.len-number.ensures, c.self.inside.aps.ok.0) in
    record { listed = last_low _ _ _ _ c.in_ok-list_ap.ensures.ok (sym c.self.invariant.0.count_aps ∙ count) }

pub invariant_of-self-in-Err : goal.invariant_of-self-in-Err
invariant_of-self-in-Err c = ap_closed c.self.inside.domain c.self.inside.aps.items _ c.self.inside.stas.items c.self.inside.holders _ (c.unlist_ap.ensures _ _ c.in_ok-list_ap.ensures.ok) c.reserve.ensures.items c.self.invariant

pub invariant_of-self-in_err-list_ap : goal.invariant_of-self-in_err-list_ap
invariant_of-self-in_err-list_ap c = ap_closed c.self.inside.domain c.self.inside.aps.items _ c.self.inside.stas.items c.self.inside.holders _ c.in_err-list_ap.ensures.err c.reserve.ensures.items c.self.invariant

pub invariant_of-self : goal.invariant_of-self
invariant_of-self c = ap_closed c.self.inside.domain c.self.inside.aps.items _ c.self.inside.stas.items c.self.inside.holders _ refl c.reserve.ensures.items c.self.invariant

pub returns-in-Err-clause-same : goal.returns-in-Err-clause-same
returns-in-Err-clause-same c = ap_before c.self.inside.domain c.self.inside.aps.items _ c.self.inside.stas.items (seen_of c.self.inside.holders) _ _ c.self.view_is (c.unlist_ap.ensures _ _ c.in_ok-list_ap.ensures.ok) c.reserve.ensures.items

pub returns-in-Err-clause-listed : goal.returns-in-Err-clause-listed
returns-in-Err-clause-listed c = (ap_closed c.self.inside.domain c.self.inside.aps.items _ c.self.inside.stas.items c.self.inside.holders _ (c.unlist_ap.ensures _ _ c.in_ok-list_ap.ensures.ok) c.reserve.ensures.items c.self.invariant).0

pub returns-in_err-list_ap-clause-listed : goal.returns-in_err-list_ap-clause-listed
returns-in_err-list_ap-clause-listed c = (ap_closed c.self.inside.domain c.self.inside.aps.items _ c.self.inside.stas.items c.self.inside.holders _ c.in_err-list_ap.ensures.err c.reserve.ensures.items c.self.invariant).0

pub returns-in-Err-clause-kept : goal.returns-in-Err-clause-kept
returns-in-Err-clause-kept c = c.in-Err.ensures.kept ∙ c.requires.waiting

few_before : {A : Type 0} (xs : List A) (x : A) (n : ℕ) → length (xs ++ x ∷ []) ≤ n → length xs ≤ n
few_before xs x n few = omega (arith, length-append xs (x ∷ []), few)

pub overflow_cast-number : goal.overflow_cast-number
overflow_cast-number c =
    omega (arith, few_before c.args.self.now.domain.aps _ most_aps c.requires.form.few_aps, ap (λ (n : Nodes). length n.domain.aps) c.self.view_is, c.self.invariant.0.count_aps, c.len-number.ensures, c.self.inside.aps.ok.0)

pub returns-in-Ok-clause-node : goal.returns-in-Ok-clause-node
returns-in-Ok-clause-node c =
    let count : c.len-number.result ≡ length c.args.self.now.domain.aps = omega (arith, ap (λ (n : Nodes). length n.domain.aps) c.self.view_is, c.self.invariant.0.count_aps, c.len-number.ensures, c.self.inside.aps.ok.0) in
    ap Ap count

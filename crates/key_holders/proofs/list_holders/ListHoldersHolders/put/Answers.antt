use Rattle.std.proofs.Common.{◌≡◌, ◌<◌, true, ℕ, List, [], length, get_or-set_same, get_or-set_other, sym, ap, ◌∙◌, subst, arith, rules}
use Rattle.key_holders.specs.declared.rows.HeldRow.{HeldRow}
use Rattle.key_holders.specs.Rows.{is_in, put_answer, after_put}
use Rattle.key_holders.specs.Listed.{Listed, below, rows_at}
use Rattle.key_holders.proofs.Listing.{in_below}
use Rattle.key_holders.proofs.Holding.{rows_here}
use Rattle.key_holders.proofs.list_holders.ListHoldersHolders.put.Goals as goal

-- the access point is listed
listed : (h : Listed) (rows : List (List HeldRow)) (ids : List (List ℕ)) (r : ℕ) → record { ids = ids; rows = rows } ≡ h → length rows ≡ length ids → is_in r (below (length h.ids)) ≡ true → r < length rows
listed h rows ids r is same has =
    let low = in_below r (length ids) (subst (λ (l : Listed). is_in r (below (length l.ids)) ≡ true) (sym is) has) in
    omega (arith, low, same)

pub index_mut-requires : goal.index_mut-requires
index_mut-requires c =
    let low : c.args.r0kh < length c.self.inside.holders.items = listed c.args.self.now c.self.inside.holders.items c.self.inside.ids.items c.args.r0kh c.self.view_is c.self.invariant c.requires.has in
    search rules

pub returns-clause-answer : goal.returns-clause-answer
returns-clause-answer c = λ some.
    let rows = c.self.inside.holders.items in
    let low : c.args.r0kh < length rows = listed c.args.self.now rows c.self.inside.ids.items c.args.r0kh c.self.view_is c.self.invariant c.requires.has in
    c.put.ensures.answer some
    ∙ ap (λ (x : List HeldRow). put_answer c.args.row.name x) (rows_here rows c.args.r0kh c.index_mut.result.now low c.index_mut.ensures.value ∙ ap (λ (h : Listed). rows_at h.rows c.args.r0kh) c.self.view_is)

pub returns-clause-rows : goal.returns-clause-rows
returns-clause-rows c =
    let rows = c.self.inside.holders.items in
    let low : c.args.r0kh < length rows = listed c.args.self.now rows c.self.inside.ids.items c.args.r0kh c.self.view_is c.self.invariant c.requires.has in
    get_or-set_same rows c.args.r0kh c.put.new.self [] low
    ∙ (c.put.ensures.rows
    ∙ ap (λ (x : List HeldRow). after_put c.args.row c.put.result x) (rows_here rows c.args.r0kh c.index_mut.result.now low c.index_mut.ensures.value ∙ ap (λ (h : Listed). rows_at h.rows c.args.r0kh) c.self.view_is))

pub returns-clause-puts : goal.returns-clause-puts
returns-clause-puts c =
    let rows = c.self.inside.holders.items in
    record {
      ids = ap (λ (h : Listed). h.ids) c.self.view_is;
      here = returns-clause-rows c;
      others = λ s other. get_or-set_other rows c.args.r0kh s c.put.new.self [] other ∙ ap (λ (h : Listed). rows_at h.rows s) c.self.view_is;
    }

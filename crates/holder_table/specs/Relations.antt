-- What the holders by a pass say of one another (profile).
use Rattle.std.specs.Prelude.{◌≡◌, ℕ, List, [], ◌++◌, refl}
use Rattle.std.proofs.Common.{sym, ap, ◌∙◌, append_assoc}
use Rattle.domain_base.specs.declared.names.Mac.{Mac}
use Rattle.key_hierarchy.specs.declared.answers.PullAnswer.{PullAnswer}
use Rattle.key_hierarchy.specs.declared.answers.PutAnswer.{PutAnswer}
use Rattle.key_hierarchy.specs.declared.answers.RevokeAnswer.{RevokeAnswer}
use Rattle.key_holders.specs.declared.rows.HolderRow.{HolderRow}
use Rattle.holder_table.specs.declared.history.HolderEvent.{HolderEvent}
use Rattle.holder_table.specs.declared.view.View.{View}
use Rattle.holder_table.specs.declared.view.Load.{Load}
use Rattle.holder_table.specs.Histories.{Follows}
use Rattle.holder_table.specs.Pass.{Holders, Pass}
use Rattle.holder_table.specs.Knowledge.{NoLess, Pulled, AfterPut, AfterRevoke}

-- A pull at the same holders, by the pass as it was and as it is.
pub record Pulls (h : Holders) (p : Pass) (r0kh_id name : List ℕ) (r1kh sta : Mac) (k : Holders) (q : Pass) (answer : PullAnswer) : Type 0 where
  pub holders : k ≡ h
  pub pulled : Pulled h.ids r0kh_id name r1kh sta p.knows q.knows answer

-- A put at the same holders, by the pass as it was and as it is.
pub record Puts (h : Holders) (p : Pass) (r0kh : ℕ) (row : HolderRow) (k : Holders) (q : Pass) (answer : PutAnswer) : Type 0 where
  pub holders : k ≡ h
  pub effect : AfterPut r0kh row p.knows q.knows answer

-- A revocation at the same holders, by the pass as it was and as it is.
pub record Revokes (h : Holders) (p : Pass) (r0kh : ℕ) (name : List ℕ) (k : Holders) (q : Pass) (answer : RevokeAnswer) : Type 0 where
  pub holders : k ≡ h
  pub effect : AfterRevoke r0kh name p.knows q.knows answer

-- The same table and access points, and each row, revocation and load that was known.
pub record KnowsNoLess (h : Holders) (p : Pass) (k : Holders) (q : Pass) : Type 0 where
  pub holders : k ≡ h
  pub table : q.table ≡ p.table
  pub knows : NoLess p.knows q.knows

pub follows_on : (a b c : List HolderEvent) → Follows a b → Follows b c → Follows a c
follows_on a b c f g = (g.0 ++ f.0, g.1 ∙ (ap (λ (h : List HolderEvent). g.0 ++ h) f.1 ∙ sym (append_assoc g.0 f.0 a)))

pub gained_on : (xs ys zs a b : List Load) → ys ≡ a ++ xs → zs ≡ b ++ ys → zs ≡ (b ++ a) ++ xs
gained_on xs ys zs a b e f = f ∙ (ap (λ (h : List Load). b ++ h) e ∙ sym (append_assoc b a xs))

pub no_less_same : (v : View) → NoLess v v
no_less_same v = record { seen = ([], refl); has = refl; loads = ([], refl) }

pub no_less_on : (u v w : View) → NoLess u v → NoLess v w → NoLess u w
no_less_on u v w a b = record {
  seen = follows_on u.seen v.seen w.seen a.seen b.seen;
  has = b.has ∙ a.has;
  loads = (b.loads.0 ++ a.loads.0, gained_on u.loads v.loads w.loads a.loads.0 b.loads.0 a.loads.1 b.loads.1);
}

pub no_less_here : (h : Holders) (p : Pass) → KnowsNoLess h p h p
no_less_here h p = record { holders = refl; table = refl; knows = no_less_same p.knows }

pub no_less_then : (g : Holders) (o : Pass) (h : Holders) (p : Pass) (k : Holders) (q : Pass) → KnowsNoLess g o h p → KnowsNoLess h p k q → KnowsNoLess g o k q
no_less_then g o h p k q a b = record {
  holders = b.holders ∙ a.holders;
  table = b.table ∙ a.table;
  knows = no_less_on o.knows p.knows q.knows a.knows b.knows;
}

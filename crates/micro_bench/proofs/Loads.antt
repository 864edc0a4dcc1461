-- A key that a pull finds was found by a load of that pull.
use Rattle.std.proofs.Common.{◌≡◌, ℕ, ◌<◌, List, Option, None, Some, IfSome, length, ap, subst, arith}
use Rattle.std.proofs.lemmas.List.{length-append}
use Rattle.domain_base.specs.declared.names.Mac.{Mac}
use Rattle.key_hierarchy.specs.declared.fast_transition.PmkR1.{PmkR1}
use Rattle.key_hierarchy.specs.declared.answers.PullAnswer.{PullAnswer}
use Rattle.key_hierarchy.specs.declared.answers.PullAnswer.TheVariants.{Found}
use Rattle.key_holders.specs.declared.rows.HolderRow.{HolderRow}
use Rattle.holder_table.specs.declared.view.View.{View}
use Rattle.holder_table.specs.declared.view.Load.{Load}
use Rattle.holder_table.specs.Steps.{load_of}
use Rattle.holder_table.specs.Knowledge.{LastLoad, Finds, PullsAt, Pulled}

after_load : (load : Load) (v w : View) → LastLoad load v w → length v.loads < length w.loads
after_load load v w l = omega (arith, ap length l.1, length-append l.0 v.loads)

after_walk : (r : ℕ) (name : List ℕ) (sta : Mac) (v w : View) (row : HolderRow) → Finds r name sta v w (Some row) → length v.loads < length w.loads
after_walk r name sta v w row f = after_load (load_of r f.0 1) v w f.3

after_pull : (r : ℕ) (name : List ℕ) (r1kh sta : Mac) (v w : View) (r1 : PmkR1) → PullsAt r name r1kh sta v w (Found r1) → length v.loads < length w.loads
after_pull r name r1kh sta v w r1 p = after_walk r name sta v w p.0 p.2

after_found : (ids : List (List ℕ)) (r0kh_id name : List ℕ) (r1kh sta : Mac) (v w : View) (r1 : PmkR1) → Pulled ids r0kh_id name r1kh sta v w (Found r1) → length v.loads < length w.loads
after_found ids r0kh_id name r1kh sta v w r1 p = after_pull p.found.0 name r1kh sta v w r1 p.found.2

pub octet_loads : (o : Option ℕ) (answer : PullAnswer) (ids : List (List ℕ)) (r0kh_id name : List ℕ) (r1kh sta : Mac) (v w : View) → IfSome o (λ _. (r1 : PmkR1) × (answer ≡ Found r1)) → Pulled ids r0kh_id name r1kh sta v w answer → IfSome o (λ _. length v.loads < length w.loads)
octet_loads None answer ids r0kh_id name r1kh sta v w is p = tt
octet_loads (Some x) answer ids r0kh_id name r1kh sta v w is p = after_found ids r0kh_id name r1kh sta v w is.0 (subst (λ (a : PullAnswer). Pulled ids r0kh_id name r1kh sta v w a) is.1 p)

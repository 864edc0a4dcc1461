-- The keys of a row are those of its PMK-R0.
use Rattle.std.proofs.Common.{◌≡◌, List, ℕ, refl, ap, ◌∙◌}
use Rattle.domain_base.specs.declared.names.Mac.{Mac}
use Rattle.key_hierarchy.specs.declared.fast_transition.PmkR0.{PmkR0}
use Rattle.key_hierarchy.specs.declared.fast_transition.PmkR1.{PmkR1}
use Rattle.key_hierarchy.specs.FastTransition.{pmk_r1, pmk_r1_name}
use Rattle.key_holders.specs.declared.rows.HolderRow.{HolderRow}
use Rattle.key_holders.specs.Keys.{row_of, row_r1}
use Rattle.key_holders.specs.Pulls.{Matches}

pub r1-row_of : (r0 : PmkR0) (sta r1kh : Mac) → row_r1 (row_of r0 sta) r1kh ≡ pmk_r1 r0 r1kh sta
unfolding row_r1 pmk_r1
r1-row_of r0 sta r1kh = refl

pub name-row_r1 : (row : HolderRow) (r1kh : Mac) → (row_r1 row r1kh).name ≡ pmk_r1_name row.name r1kh row.sta
unfolding row_r1
name-row_r1 row r1kh = refl

pub name_found : (name : List ℕ) (r1kh sta : Mac) (row : HolderRow) (r1 : PmkR1) → Matches name sta row → r1 ≡ row_r1 row r1kh → r1.name ≡ pmk_r1_name name r1kh sta
name_found name r1kh sta row r1 m is =
    ap (λ (k : PmkR1). k.name) is ∙ (name-row_r1 row r1kh ∙ (λ i. pmk_r1_name (m.0 i) r1kh (m.1 i)))

-- The keys of a row. The access point with which a station associates first holds its PMK-R0, as R0 key holder; other
-- access points pull PMK-R1s from it. How key holders talk to one another the standard leaves open (IEEE Std
-- 802.11-2020, 13.2, 12.7.1.6).
use Rattle.domain_base.specs.declared.names.Mac.{Mac}
use Rattle.key_hierarchy.specs.declared.fast_transition.PmkR0.{PmkR0}
use Rattle.key_hierarchy.specs.declared.fast_transition.PmkR1.{PmkR1}
use Rattle.key_hierarchy.specs.FastTransition.{pmk_r0_name, pmk_r1_of}
use Rattle.key_holders.specs.declared.rows.HolderRow.{HolderRow}

-- the row of a station's PMK-R0 (12.7.1.6.3)
abbrev pub row_of : PmkR0 → Mac → HolderRow
row_of r0 sta = record { name = pmk_r0_name r0; key = r0.key; sta = sta }

-- the PMK-R1 that the row makes for an R1 key holder, with its name (12.7.1.6.4)
unfoldable pub row_r1 : HolderRow → Mac → PmkR1
row_r1 row r1kh = pmk_r1_of row.key row.name r1kh row.sta

-- The numbers of faults in reports (profile).
use Rattle.std.specs.Prelude.{ℕ}
use Rattle.rsn_elements.specs.declared.faults.FaultKind.{FaultKind}
use Rattle.rsn_elements.specs.declared.faults.FaultKind.TheVariants.{Truncated, Length, Version, Repeated, SubelementLength}

-- the faults' numbers in reports, from 1 to 5
abbrev pub code_of : FaultKind → ℕ
code_of Truncated = 1
code_of Length = 2
code_of Version = 3
code_of Repeated = 4
code_of SubelementLength = 5

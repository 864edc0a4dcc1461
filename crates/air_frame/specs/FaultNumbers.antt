-- The numbers of faults (profile).
use Rattle.std.specs.Prelude.{ℕ}
use Rattle.air_frame.specs.declared.frame.AirFault.{AirFault}
use Rattle.air_frame.specs.declared.frame.AirFault.TheVariants.{Short, Version, OutOfProfile, Body}

-- 1 too short, 2 version, 3 outside the profile, 4 body
abbrev pub fault_number : AirFault → ℕ
fault_number (Short place) = 1
fault_number Version = 2
fault_number (OutOfProfile code) = 3
fault_number (Body place) = 4

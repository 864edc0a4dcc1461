-- What the code that reads a script keeps, as what the script has said (profile).
use Rattle.std.specs.Prelude.{◌&&◌, Bool, true, nat_le, length}
use Rattle.script_lines.specs.declared.header.Due.{Due}
use Rattle.script_lines.specs.declared.header.Due.TheVariants as dues
use Rattle.script_lines.specs.declared.header.Header.{Header}
use Rattle.script_lines.specs.declared.header.HeaderLine.{HeaderLine}
use Rattle.script_lines.specs.declared.header.HeaderLine.TheVariants as due
use Rattle.script_lines.specs.Script.{Draft, AtVersion, AtHeader, AtNodes, InRound}

-- what the script has said, by what is kept
abbrev pub draft_of : Due → Draft
draft_of dues.Version = AtVersion
draft_of (dues.Header awaited header) = AtHeader awaited header
draft_of (dues.Nodes header) = AtNodes header
draft_of (dues.Round header count) = InRound header count

-- whether the SSID, where the header has told it, has 1 to 32 octets
abbrev pub is_fit : HeaderLine → Header → Bool
is_fit due.Seed h = true
is_fit due.Ssid h = true
is_fit due.Psk h = nat_le 1 (length h.network.ssid) && nat_le (length h.network.ssid) 32
is_fit due.Akm h = nat_le 1 (length h.network.ssid) && nat_le (length h.network.ssid) 32
is_fit due.Mdid h = nat_le 1 (length h.network.ssid) && nat_le (length h.network.ssid) 32

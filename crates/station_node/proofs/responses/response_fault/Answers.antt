use Rattle.std.proofs.Common.{◌≡◌, arith, rules}
use Rattle.station_node.proofs.responses.response_fault.Goals as goal

pub returns-in-FtPsk : goal.returns-in-FtPsk
returns-in-FtPsk c =
    let zero : c.args.status ≡ 0 = omega arith in
    search rules

pub returns-in-Psk : goal.returns-in-Psk
returns-in-Psk c =
    let zero : c.args.status ≡ 0 = omega arith in
    search rules

pub returns-in-PskSha256 : goal.returns-in-PskSha256
returns-in-PskSha256 c =
    let zero : c.args.status ≡ 0 = omega arith in
    search rules

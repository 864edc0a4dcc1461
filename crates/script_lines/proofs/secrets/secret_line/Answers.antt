use Rattle.std.proofs.Common.{sym}
use Rattle.script_lines.proofs.Listing.{secret_said, key_at}
use Rattle.script_lines.proofs.Versions.{second_version}
use Rattle.script_lines.proofs.secrets.secret_line.Goals as goal

pub returns-clause-can : goal.returns-clause-can
returns-clause-can c sizes = (second_version _ c.requires.version, c.in-Some-named_sta.ensures.inside)

pub returns-clause-says : goal.returns-clause-says
returns-clause-says c =
    secret_said c.args.domain.now c.args.text.now _ _ _ _ _ c.in-Some.ensures (sym c.in-Some-peer_name.ensures) (key_at _ _ _ _ c.as_slice.ensures c.in_ok-psk.ensures) (sym c.in-Some-named_sta.ensures.value)

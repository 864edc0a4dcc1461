use Rattle.script_lines.proofs.Saying.{session_rest}
use Rattle.script_lines.proofs.Worded.{tells_as}
use Rattle.script_lines.proofs.events.session_event.Goals as goal

pub returns-in_default-clause-says : goal.returns-in_default-clause-says
returns-in_default-clause-says c =
    tells_as _ _ _ (session_rest c.args.domain.now c.args.line c.args.text.now c.in_default.not-Retry c.in_default.not-Expire c.in_default.not-Revoke c.in_default.not-Renew c.in_default.not-Rekey) c.station_event.ensures.says

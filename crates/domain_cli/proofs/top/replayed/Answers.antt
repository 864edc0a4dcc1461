use Rattle.domain_cli.proofs.Kept.{replay_keeps}
use Rattle.domain_cli.proofs.top.replayed.Goals as goal

pub returns : goal.returns
returns g c rest =
    let read = c.replay-ending.ensures in
    let told = read.told in
    let r = c.report.ensures in
    let out = r.reports _ read.written in
    replay_keeps c.runs_are_safe.ensures rest _ _ _ _ _ _ _ _ c.report.result _
    (record {
      draft = told.2;
      rounds = told.3;
      found_ = c.replay-ending.result.found;
      runs = record { octets = told.0; ended = told.1; text = out.text; read = told.4; end = told.5; tells = told.6; is_text = out.is_text; reports = out.reports };
    })
    r.asked (λ is. read.fault (r.read_fault is)) out.write_fault out.write_told (λ differs. out.read_told (read.fault_told differs))

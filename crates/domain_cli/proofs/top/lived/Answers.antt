use Rattle.domain_cli.proofs.Kept.{live_keeps}
use Rattle.domain_cli.proofs.top.lived.Goals as goal

pub returns : goal.returns
returns g c port =
    let read = c.live-ending.ensures in
    let told = read.told in
    let r = c.report.ensures in
    let out = r.reports _ read.written in
    live_keeps c.runs_are_safe.ensures port _ _ c.report.result _
    (record {
      draft = told.2;
      rounds = told.3;
      found_ = c.live-ending.result.found;
      runs = record { octets = told.0; ended = told.1; text = out.text; read = told.4; end = told.5; tells = told.6; is_text = out.is_text; reports = out.reports };
      meets = told.7;
    })
    r.asked (λ is. read.fault (r.read_fault is)) out.write_fault (λ is. read.link_fault (r.link_fault is)) (λ is. read.draw_fault (r.draw_fault is))
    out.write_told (λ differs. out.read_told (read.fault_told differs)) (λ differs. out.link_told (read.link_told differs)) (λ differs. out.draw_told (read.draw_told differs))

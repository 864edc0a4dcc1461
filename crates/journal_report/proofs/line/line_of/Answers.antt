use Rattle.std.proofs.Common.{◌∷◌, [], ℕ, List, length, ap, ◌∙◌, codes, sym, arith}
use Rattle.domain_base.specs.Names.{node_text, peer_text}
use Rattle.run_journal.specs.declared.acts.Act.{Act}
use Rattle.link_steps.specs.declared.steps.Step.{Step}
use Rattle.run_journal.specs.Report.{act_line, answer_line, outcome_text, words}
use Rattle.journal_report.proofs.Putting.{Writes-as}
use Rattle.journal_report.proofs.line.line_of.Goals as goal

pub returns-in-Installed-clause-count : goal.returns-in-Installed-clause-count
returns-in-Installed-clause-count c =
    let node = c.args.entry.now.node in
    let is = ap (λ (a : Act). act_line c.args.entry.now.number node a) c.in-Installed.is ∙ ap (λ (x : List ℕ). words (codes "install" ∷ node_text node ∷ peer_text c.in-Installed.peer ∷ x ∷ [])) (sym c.key_word.ensures.text) in
    let w = Writes-as _ _ _ _ _ _ is c.put_pair.ensures.written in
    omega (arith, w.end)

pub returns-in-Installed-clause-text : goal.returns-in-Installed-clause-text
returns-in-Installed-clause-text c =
    let node = c.args.entry.now.node in
    let is = ap (λ (a : Act). act_line c.args.entry.now.number node a) c.in-Installed.is ∙ ap (λ (x : List ℕ). words (codes "install" ∷ node_text node ∷ peer_text c.in-Installed.peer ∷ x ∷ [])) (sym c.key_word.ensures.text) in
    let w = Writes-as _ _ _ _ _ _ is c.put_pair.ensures.written in
    w.front

pub returns-in-Installed-clause-rest : goal.returns-in-Installed-clause-rest
returns-in-Installed-clause-rest c =
    let node = c.args.entry.now.node in
    let is = ap (λ (a : Act). act_line c.args.entry.now.number node a) c.in-Installed.is ∙ ap (λ (x : List ℕ). words (codes "install" ∷ node_text node ∷ peer_text c.in-Installed.peer ∷ x ∷ [])) (sym c.key_word.ensures.text) in
    let w = Writes-as _ _ _ _ _ _ is c.put_pair.ensures.written in
    w.rest

pub returns-in-Installed-clause-len : goal.returns-in-Installed-clause-len
returns-in-Installed-clause-len c =
    let node = c.args.entry.now.node in
    let is = ap (λ (a : Act). act_line c.args.entry.now.number node a) c.in-Installed.is ∙ ap (λ (x : List ℕ). words (codes "install" ∷ node_text node ∷ peer_text c.in-Installed.peer ∷ x ∷ [])) (sym c.key_word.ensures.text) in
    let w = Writes-as _ _ _ _ _ _ is c.put_pair.ensures.written in
    w.len

pub returns-in-Resumed-clause-count : goal.returns-in-Resumed-clause-count
returns-in-Resumed-clause-count c =
    let node = c.args.entry.now.node in
    let is = ap (λ (a : Act). act_line c.args.entry.now.number node a) c.in-Resumed.is ∙ ap (λ (x : List ℕ). words (codes "resume" ∷ node_text node ∷ node_text c.in-Resumed.peer ∷ x ∷ [])) (sym c.key_word-in-Resumed.ensures.text) in
    let w = Writes-as _ _ _ _ _ _ is c.put_pair-in-Resumed.ensures.written in
    omega (arith, w.end)

pub returns-in-Resumed-clause-text : goal.returns-in-Resumed-clause-text
returns-in-Resumed-clause-text c =
    let node = c.args.entry.now.node in
    let is = ap (λ (a : Act). act_line c.args.entry.now.number node a) c.in-Resumed.is ∙ ap (λ (x : List ℕ). words (codes "resume" ∷ node_text node ∷ node_text c.in-Resumed.peer ∷ x ∷ [])) (sym c.key_word-in-Resumed.ensures.text) in
    let w = Writes-as _ _ _ _ _ _ is c.put_pair-in-Resumed.ensures.written in
    w.front

pub returns-in-Resumed-clause-rest : goal.returns-in-Resumed-clause-rest
returns-in-Resumed-clause-rest c =
    let node = c.args.entry.now.node in
    let is = ap (λ (a : Act). act_line c.args.entry.now.number node a) c.in-Resumed.is ∙ ap (λ (x : List ℕ). words (codes "resume" ∷ node_text node ∷ node_text c.in-Resumed.peer ∷ x ∷ [])) (sym c.key_word-in-Resumed.ensures.text) in
    let w = Writes-as _ _ _ _ _ _ is c.put_pair-in-Resumed.ensures.written in
    w.rest

pub returns-in-Resumed-clause-len : goal.returns-in-Resumed-clause-len
returns-in-Resumed-clause-len c =
    let node = c.args.entry.now.node in
    let is = ap (λ (a : Act). act_line c.args.entry.now.number node a) c.in-Resumed.is ∙ ap (λ (x : List ℕ). words (codes "resume" ∷ node_text node ∷ node_text c.in-Resumed.peer ∷ x ∷ [])) (sym c.key_word-in-Resumed.ensures.text) in
    let w = Writes-as _ _ _ _ _ _ is c.put_pair-in-Resumed.ensures.written in
    w.len

pub returns-in-Took-clause-count : goal.returns-in-Took-clause-count
returns-in-Took-clause-count c =
    let node = c.args.entry.now.node in
    let is = ap (λ (a : Act). act_line c.args.entry.now.number node a) c.in-Took.is ∙ ap (λ (x : List ℕ). words (codes "took" ∷ node_text node ∷ x ∷ outcome_text c.in-Took.outcome ∷ [])) (sym c.kind_word.ensures.text) in
    let w = Writes-as _ _ _ _ _ _ is c.put_line.ensures.written in
    omega (arith, w.end)

pub returns-in-Took-clause-text : goal.returns-in-Took-clause-text
returns-in-Took-clause-text c =
    let node = c.args.entry.now.node in
    let is = ap (λ (a : Act). act_line c.args.entry.now.number node a) c.in-Took.is ∙ ap (λ (x : List ℕ). words (codes "took" ∷ node_text node ∷ x ∷ outcome_text c.in-Took.outcome ∷ [])) (sym c.kind_word.ensures.text) in
    let w = Writes-as _ _ _ _ _ _ is c.put_line.ensures.written in
    w.front

pub returns-in-Took-clause-rest : goal.returns-in-Took-clause-rest
returns-in-Took-clause-rest c =
    let node = c.args.entry.now.node in
    let is = ap (λ (a : Act). act_line c.args.entry.now.number node a) c.in-Took.is ∙ ap (λ (x : List ℕ). words (codes "took" ∷ node_text node ∷ x ∷ outcome_text c.in-Took.outcome ∷ [])) (sym c.kind_word.ensures.text) in
    let w = Writes-as _ _ _ _ _ _ is c.put_line.ensures.written in
    w.rest

pub returns-in-Took-clause-len : goal.returns-in-Took-clause-len
returns-in-Took-clause-len c =
    let node = c.args.entry.now.node in
    let is = ap (λ (a : Act). act_line c.args.entry.now.number node a) c.in-Took.is ∙ ap (λ (x : List ℕ). words (codes "took" ∷ node_text node ∷ x ∷ outcome_text c.in-Took.outcome ∷ [])) (sym c.kind_word.ensures.text) in
    let w = Writes-as _ _ _ _ _ _ is c.put_line.ensures.written in
    w.len

pub returns-in-Idle-clause-count : goal.returns-in-Idle-clause-count
returns-in-Idle-clause-count c =
    let node = c.args.entry.now.node in
    let is = ap (λ (a : Act). act_line c.args.entry.now.number node a) c.in-Idle.is ∙ ap (λ (x : List ℕ). words (codes "idle" ∷ node_text node ∷ x ∷ [])) (sym c.why_word.ensures.text) in
    let w = Writes-as _ _ _ _ _ _ is c.put_line-in-Idle.ensures.written in
    omega (arith, w.end)

pub returns-in-Idle-clause-text : goal.returns-in-Idle-clause-text
returns-in-Idle-clause-text c =
    let node = c.args.entry.now.node in
    let is = ap (λ (a : Act). act_line c.args.entry.now.number node a) c.in-Idle.is ∙ ap (λ (x : List ℕ). words (codes "idle" ∷ node_text node ∷ x ∷ [])) (sym c.why_word.ensures.text) in
    let w = Writes-as _ _ _ _ _ _ is c.put_line-in-Idle.ensures.written in
    w.front

pub returns-in-Idle-clause-rest : goal.returns-in-Idle-clause-rest
returns-in-Idle-clause-rest c =
    let node = c.args.entry.now.node in
    let is = ap (λ (a : Act). act_line c.args.entry.now.number node a) c.in-Idle.is ∙ ap (λ (x : List ℕ). words (codes "idle" ∷ node_text node ∷ x ∷ [])) (sym c.why_word.ensures.text) in
    let w = Writes-as _ _ _ _ _ _ is c.put_line-in-Idle.ensures.written in
    w.rest

pub returns-in-Idle-clause-len : goal.returns-in-Idle-clause-len
returns-in-Idle-clause-len c =
    let node = c.args.entry.now.node in
    let is = ap (λ (a : Act). act_line c.args.entry.now.number node a) c.in-Idle.is ∙ ap (λ (x : List ℕ). words (codes "idle" ∷ node_text node ∷ x ∷ [])) (sym c.why_word.ensures.text) in
    let w = Writes-as _ _ _ _ _ _ is c.put_line-in-Idle.ensures.written in
    w.len

pub returns-in-Link-clause-count : goal.returns-in-Link-clause-count
returns-in-Link-clause-count c =
    let node = c.args.entry.now.node in
    let is = ap (λ (a : Act). act_line c.args.entry.now.number node a) c.in-Link.is ∙ ap (λ (s : Step). answer_line node c.in-Link.sta (length s.sent) s.answer) (sym c.step.ensures) in
    let w = Writes-as _ _ _ _ _ _ is c.link_line.ensures.written in
    omega (arith, w.end)

pub returns-in-Link-clause-text : goal.returns-in-Link-clause-text
returns-in-Link-clause-text c =
    let node = c.args.entry.now.node in
    let is = ap (λ (a : Act). act_line c.args.entry.now.number node a) c.in-Link.is ∙ ap (λ (s : Step). answer_line node c.in-Link.sta (length s.sent) s.answer) (sym c.step.ensures) in
    let w = Writes-as _ _ _ _ _ _ is c.link_line.ensures.written in
    w.front

pub returns-in-Link-clause-rest : goal.returns-in-Link-clause-rest
returns-in-Link-clause-rest c =
    let node = c.args.entry.now.node in
    let is = ap (λ (a : Act). act_line c.args.entry.now.number node a) c.in-Link.is ∙ ap (λ (s : Step). answer_line node c.in-Link.sta (length s.sent) s.answer) (sym c.step.ensures) in
    let w = Writes-as _ _ _ _ _ _ is c.link_line.ensures.written in
    w.rest

pub returns-in-Link-clause-len : goal.returns-in-Link-clause-len
returns-in-Link-clause-len c =
    let node = c.args.entry.now.node in
    let is = ap (λ (a : Act). act_line c.args.entry.now.number node a) c.in-Link.is ∙ ap (λ (s : Step). answer_line node c.in-Link.sta (length s.sent) s.answer) (sym c.step.ensures) in
    let w = Writes-as _ _ _ _ _ _ is c.link_line.ensures.written in
    w.len

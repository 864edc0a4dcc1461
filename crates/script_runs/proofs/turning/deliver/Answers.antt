use Rattle.std.proofs.Common.{◌≡◌, ◌≢◌, ℕ, Bool, true, false, List, [], ◌++◌, drop, length, Result, Err, refl, ap, subst, ◌∙◌, arith}
use Rattle.std.specs.Prelude.{reverse}
use Rattle.run_journal.specs.declared.domain.Domain.{Domain}
use Rattle.domain_links.specs.NodeOrder.{node_at}
use Rattle.domain_links.specs.Sends.{Send, sends}
use Rattle.domain_links.specs.Telling.{Tell}
use Rattle.domain_links.proofs.Taking.{delivers_cut, delivers_err, delivers_none, delivers_ok}
use Rattle.script_runs.specs.declared.session.Session.{Session}
use Rattle.script_runs.specs.declared.session.SessionFault.{SessionFault}
use Rattle.script_runs.specs.Written.{session_short}
use Rattle.script_runs.specs.Turning.{IsTaken, sent_by_then, stage}
use Rattle.script_runs.proofs.Turned.{same_stage, step_longer, step_sends, taken_round}
use Rattle.script_runs.proofs.Staying.{further_none, further_same, further_round, laid_unasked, laid_unsent, sends_failed, sends_kept}
use Rattle.script_runs.proofs.Owned.{ran_fault, unrun_fault}
use Rattle.script_runs.proofs.Writings.{goes_as, later_event, went_on}
use Rattle.script_runs.proofs.turning.deliver.Goals as goal

pub returns-in_default-clause-delivers : goal.returns-in_default-clause-delivers
returns-in_default-clause-delivers g c = delivers_none g.L.Link.told (node_at c.args.session.now.world.domain) IsTaken (sent_by_then c.args.session.now.world.domain) c.args.place c.args.octets.now _ _ _ refl

pub returns-in-Err-NoMemory-clause-delivers : goal.returns-in-Err-NoMemory-clause-delivers
returns-in-Err-NoMemory-clause-delivers g c =
    let same = unrun_fault c.in-Err-NoMemory.field-0 _ c.in-Err-NoMemory.field-0-is c.in-Err-NoMemory.ensures.same in
    let kept = unrun_fault c.in-Err-NoMemory.field-0 _ c.in-Err-NoMemory.field-0-is c.in-Err-NoMemory.ensures.kept in
    delivers_none g.L.Link.told (node_at c.args.session.now.world.domain) IsTaken (sent_by_then c.args.session.now.world.domain) c.args.place c.args.octets.now _ _ _ (same_stage _ _ _ _ (ap (λ (s : Session). s.world) same) kept)

pub returns-in-Err-WriteFault-clause-delivers : goal.returns-in-Err-WriteFault-clause-delivers
returns-in-Err-WriteFault-clause-delivers g c =
    let w = c.args.session.now.world in
    let j = c.args.journal.now.entries in
    let k = c.event.new.journal.entries in
    let fault = c.in-Err-WriteFault.field-0 in
    let is = c.in-Err-WriteFault.field-0-is in
    let step = ran_fault fault _ is c.in-Err-WriteFault.ensures.step in
    delivers_cut g.L.Link.told (node_at w.domain) IsTaken (sent_by_then w.domain) c.args.place c.args.octets.now _ (stage w j) (stage c.event.new.self.world k) (sends w.domain (drop (length j) (reverse k)))
    (taken_round w c.event.new.self.world _ c.node_at-to.result c.args.octets.now c.in-Ok.octets j k (c.node_at-to.ensures ∙ ap (λ (d : Domain). node_at d c.args.place) c.domain.ensures) c.in-Ok.ensures (ran_fault fault _ is c.in-Err-WriteFault.ensures.domain) (ran_fault fault _ is c.in-Err-WriteFault.ensures.rounds)
    c.requires.own.header step c.event.ensures.since c.requires.own)
    (step_sends w.domain c.requires.own.header.0 w.rounds _ j k (drop (length j) (reverse k)) (step c.requires.own.header.0 c.requires.own.header.1) refl)

pub news-requires : goal.news-requires
news-requires g c = omega (arith, c.len-from.ensures, step_longer c.requires.own.header.0 c.args.session.now.world.rounds _ c.args.journal.now.entries c.event.new.journal.entries (c.in-Ok-event.ensures.step c.requires.own.header.0 c.requires.own.header.1))

pub returns-in-Ok-send_entries-clause-delivers : goal.returns-in-Ok-send_entries-clause-delivers
returns-in-Ok-send_entries-clause-delivers g c =
    let w = c.args.session.now.world in
    let j = c.args.journal.now.entries in
    let k = c.event.new.journal.entries in
    let news = c.news.result.now in
    let out = subst (λ (d : Domain). (left : ℕ → List (List ℕ)) (b : List Send) → Tell g.L.Link.told (node_at d) c.args.links.now.items left b → Tell g.L.Link.told (node_at d) c.send_entries.new.links.items left (b ++ sends d news))
    (c.domain-2.ensures ∙ c.in-Ok-event.ensures.domain) c.in-Ok-send_entries.ensures.sent in
    delivers_ok g.L.Link.told (node_at w.domain) IsTaken (sent_by_then w.domain) c.args.place c.args.octets.now _ _ (stage w j) (stage c.event.new.self.world k) (sends w.domain news) _
    (taken_round w c.event.new.self.world _ c.node_at-to.result c.args.octets.now c.in-Ok.octets j k (c.node_at-to.ensures ∙ ap (λ (d : Domain). node_at d c.args.place) c.domain.ensures) c.in-Ok.ensures c.in-Ok-event.ensures.domain c.in-Ok-event.ensures.rounds c.requires.own.header c.in-Ok-event.ensures.step c.event.ensures.since c.requires.own)
    (step_sends w.domain c.requires.own.header.0 w.rounds _ j k news (c.in-Ok-event.ensures.step c.requires.own.header.0 c.requires.own.header.1) (c.news.ensures ∙ ap (λ (n : ℕ). drop n (reverse k)) c.len-from.ensures)) out

pub returns-clause-delivers : goal.returns-clause-delivers
returns-clause-delivers g c =
    let w = c.args.session.now.world in
    let j = c.args.journal.now.entries in
    let k = c.event.new.journal.entries in
    let news = c.news.result.now in
    let out = subst (λ (d : Domain). (left : ℕ → List (List ℕ)) (b : List Send) → Tell g.L.Link.told (node_at d) c.args.links.now.items left b
    → (front rest : List Send) × (front ++ rest ≡ sends d news) × (rest ≢ []) × Tell g.L.Link.told (node_at d) c.send_entries.new.links.items left (b ++ front))
    (c.domain-2.ensures ∙ c.in-Ok-event.ensures.domain) c.in-Err.ensures.sent in
    delivers_err g.L.Link.told (node_at w.domain) IsTaken (sent_by_then w.domain) c.args.place c.args.octets.now _ _ (stage w j) (stage c.event.new.self.world k) (sends w.domain news) _
    (taken_round w c.event.new.self.world _ c.node_at-to.result c.args.octets.now c.in-Ok.octets j k (c.node_at-to.ensures ∙ ap (λ (d : Domain). node_at d c.args.place) c.domain.ensures) c.in-Ok.ensures c.in-Ok-event.ensures.domain c.in-Ok-event.ensures.rounds c.requires.own.header c.in-Ok-event.ensures.step c.event.ensures.since c.requires.own)
    (step_sends w.domain c.requires.own.header.0 w.rounds _ j k news (c.in-Ok-event.ensures.step c.requires.own.header.0 c.requires.own.header.1) (c.news.ensures ∙ ap (λ (n : ℕ). drop n (reverse k)) c.len-from.ensures)) out

pub returns-in_default-clause-further : goal.returns-in_default-clause-further
returns-in_default-clause-further g c = further_none 1 _ c.requires.own

pub returns-in_default-clause-laid : goal.returns-in_default-clause-laid
returns-in_default-clause-laid g c = laid_unasked g.L.Link.faults c.args.links.now.items

pub returns-in-Err-NoMemory-clause-further : goal.returns-in-Err-NoMemory-clause-further
returns-in-Err-NoMemory-clause-further g c =
    further_same 1 _ _ _ _ (ap (λ (s : Session). s.world) (unrun_fault c.in-Err-NoMemory.field-0 _ c.in-Err-NoMemory.field-0-is c.in-Err-NoMemory.ensures.same)) c.event.ensures.since c.event.ensures.own

pub returns-in-Err-NoMemory-clause-laid : goal.returns-in-Err-NoMemory-clause-laid
returns-in-Err-NoMemory-clause-laid g c = laid_unasked g.L.Link.faults c.args.links.now.items

pub returns-in-Err-WriteFault-clause-further : goal.returns-in-Err-WriteFault-clause-further
returns-in-Err-WriteFault-clause-further g c =
    let fault = c.in-Err-WriteFault.field-0 in
    let is = c.in-Err-WriteFault.field-0-is in
    further_round _ _ _ _ (ran_fault fault _ is c.in-Err-WriteFault.ensures.domain) (ran_fault fault _ is c.in-Err-WriteFault.ensures.rounds) c.event.ensures.since c.event.ensures.own

pub returns-in-Err-WriteFault-clause-laid : goal.returns-in-Err-WriteFault-clause-laid
returns-in-Err-WriteFault-clause-laid g c = laid_unsent g.L.Link.faults c.args.links.now.items

-- what was written
abbrev short : Result (Unit {0}) SessionFault → Bool
short r = session_short r

pub returns-in-Err-WriteFault-clause-wrote : goal.returns-in-Err-WriteFault-clause-wrote
returns-in-Err-WriteFault-clause-wrote g c =
    goes_as _ true _ _ _ _ _ _ (ap short c.in-Err-WriteFault.is ∙ ap (λ (x : SessionFault). short (Err x)) c.in-Err-WriteFault.field-0-is)
    (went_on c.event.result _ _ _ _ _ _ c.requires.written (later_event c.event.result c.args.session.now.world _ _ _ c.requires.own c.event.ensures.step) c.event.ensures.kept c.event.ensures.writes)

pub returns-in-Ok-send_entries-clause-wrote : goal.returns-in-Ok-send_entries-clause-wrote
returns-in-Ok-send_entries-clause-wrote g c =
    goes_as _ false _ _ _ _ _ _ (ap short c.in-Ok-event.is)
    (went_on c.event.result _ _ _ _ _ _ c.requires.written (later_event c.event.result c.args.session.now.world _ _ _ c.requires.own c.event.ensures.step) c.event.ensures.kept c.event.ensures.writes)

pub returns-clause-wrote : goal.returns-clause-wrote
returns-clause-wrote g c =
    goes_as _ false _ _ _ _ _ _ (ap short c.in-Ok-event.is)
    (went_on c.event.result _ _ _ _ _ _ c.requires.written (later_event c.event.result c.args.session.now.world _ _ _ c.requires.own c.event.ensures.step) c.event.ensures.kept c.event.ensures.writes)

pub returns-in-Ok-send_entries-clause-further : goal.returns-in-Ok-send_entries-clause-further
returns-in-Ok-send_entries-clause-further g c = further_round _ _ _ _ c.in-Ok-event.ensures.domain c.in-Ok-event.ensures.rounds c.event.ensures.since c.event.ensures.own

pub returns-clause-further : goal.returns-clause-further
returns-clause-further g c = further_round _ _ _ _ c.in-Ok-event.ensures.domain c.in-Ok-event.ensures.rounds c.event.ensures.since c.event.ensures.own

pub returns-clause-laid : goal.returns-clause-laid
returns-clause-laid g c = record {
  len = c.send_entries.ensures.len;
  failed = λ e. sends_failed g.L.Link.faults _ c.in-Err.error c.in-Err.ensures.cause e;
  kept = λ h. sends_kept g.L.Link.faults _ _ c.in-Err.error c.in-Err.ensures.kept h;
}

pub send_entries-requires-clause-aps : goal.send_entries-requires-clause-aps
send_entries-requires-clause-aps g c = omega (arith, c.event.ensures.own.form.few_aps, ap (λ (d : Domain). length d.aps) c.domain-2.ensures)

pub send_entries-requires-clause-stas : goal.send_entries-requires-clause-stas
send_entries-requires-clause-stas g c = omega (arith, c.event.ensures.own.form.few_stas, ap (λ (d : Domain). length d.stas) c.domain-2.ensures)

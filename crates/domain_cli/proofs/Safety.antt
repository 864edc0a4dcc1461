-- The journal of a run is safe.
use Rattle.std.proofs.Common.{◌≡◌, ℕ, Bool, true, false, if◌then◌else◌, List, [], ◌∷◌, Some, None, refl, sym, ap, ◌∙◌, subst}
use Rattle.domain_base.specs.declared.names.Akm.TheVariants.{FtPsk}
use Rattle.domain_base.specs.declared.names.Node.{Node}
use Rattle.run_journal.specs.declared.domain.Domain.{Domain}
use Rattle.run_journal.specs.declared.domain.Event.{Event}
use Rattle.run_journal.specs.declared.acts.Act.{Act}
use Rattle.run_journal.specs.declared.acts.Act.TheVariants.{HandedUp}
use Rattle.run_journal.specs.declared.acts.Entry.{Entry}
use Rattle.run_journal.specs.Premises.{Fresh, NoCollision, Unforged}
use Rattle.run_journal.specs.Safe.{InstalledOnce, Joined, Once, Safe, Sourced, Use, UsesNew, up_from, up_of, use_of}
use Rattle.domain_rules.specs.Network.{InForm, IsNamed}
use Rattle.domain_rules.specs.Explained.{Explained}
use Rattle.domain_rules.specs.HeldRight.{HeldRight}
use Rattle.domain_rules.specs.InOctets.{InOctets}
use Rattle.journal_safety.specs.NeverBack.{NeverBack}
use Rattle.journal_safety.specs.Renewed.{FollowsOthers, FormerUnused}
use Rattle.journal_safety.specs.SentFrames.{FromFrames, SentAt}
use Rattle.script_lines.specs.Script.{Draft, AtVersion, AtHeader, AtNodes, InRound}
use Rattle.script_runs.specs.declared.stops.Found.{Found}
use Rattle.script_runs.specs.declared.stops.Found.TheVariants as found
use Rattle.script_runs.specs.declared.stops.Stop.TheVariants as stop
use Rattle.script_runs.specs.Script.{IsJournal, Point}
use Rattle.domain_cli.specs.Safety.{Announced, AnnouncedAt, RunsAreSafe, SafeRun, announcement_of, is_igtk_id}
use Rattle.script_runs.specs.Story.{Tells}

nothing_unsafe : Safe []
nothing_unsafe = record { installed_once = tt; used_once = tt; joined = tt; handed_up_once = tt; sourced = tt }

none_safe : SafeRun []
none_safe = record { safe = nothing_unsafe; never_back = tt; follows = tt; former_unused = tt; announced = tt }

-- what is announced is handed up as payloads are
by_id : (b : Bool) (v u : Use) → (if b then Some v else None) ≡ Some u → Some v ≡ Some u
by_id true v u is = is
by_id false v u is = absurd cc

handed_up : (a : Act) (u : Use) → announcement_of a ≡ Some u → up_of a ≡ Some u
handed_up (HandedUp p key id tid number octets) u is = by_id (is_igtk_id id) (record { key = key; number = number; octets = octets }) u is
handed_up _ u is = absurd cc

-- its key id is that of an IGTK, so no pairwise key's
igtk_id : (b : Bool) (v u : Use) → (if b then Some v else None) ≡ Some u → b ≡ true
igtk_id true v u is = refl
igtk_id false v u is = absurd cc

not_pairwise : (id : ℕ) → is_igtk_id id ≡ true → id ≡ 0 → ⊥
not_pairwise id is zero = let w : is_igtk_id 0 ≡ true = subst (λ (x : ℕ). is_igtk_id x ≡ true) zero is in cc w

record Announces (a : Act) (p : Node) (u : Use) : Type 0 where
  id : ℕ
  tid : ℕ
  is : a ≡ HandedUp p u.key id tid u.number u.octets
  other : id ≡ 0 → ⊥

announces : (a : Act) (p : Node) (u : Use) → announcement_of a ≡ Some u → up_from a ≡ Some p → Announces a p u
announces (HandedUp q key id tid number octets) p u is from =
    let v : Use = record { key = key; number = number; octets = octets } in
    let there : Some v ≡ Some u = by_id (is_igtk_id id) v u is in
    let one : v ≡ u = cc there in
    let same : q ≡ p = cc from in
    let uses : HandedUp q key id tid number octets ≡ HandedUp q u.key id tid u.number u.octets = ap (λ (x : Use). HandedUp q x.key id tid x.number x.octets) one in
    let peers : HandedUp q u.key id tid u.number u.octets ≡ HandedUp p u.key id tid u.number u.octets = ap (λ (x : Node). HandedUp x u.key id tid u.number u.octets) same in
    record { id = id; tid = tid; is = uses ∙ peers; other = not_pairwise id (igtk_id (is_igtk_id id) v u is) }
announces _ p u is from = absurd cc

announced_at : (e : Entry) (past : List Entry) → SentAt e past → UsesNew up_of e past → AnnouncedAt e past
announced_at e past sent once p u is from =
    let up : up_of e.act ≡ Some u = handed_up e.act u is in
    let w = announces e.act p u is from in
    let by = sent p u w.id w.tid w.is in
    record { access_point = by.access_point w.other; sent = by.frame; once = λ m v there same that key number. once m u v there same up (handed_up m.act v that) key number }

announced_once : (j : List Entry) → FromFrames j → Once up_of j → Announced j
announced_once [] sent once = tt
announced_once (e ∷ past) sent once = (announced_at e past sent.0 once.0, announced_once past sent.1 once.1)

named : (d : Domain) → InForm d → IsNamed d
named d form = record { aps = form.aps; stas = form.stas }

pub empty_safe : (j : List Entry) → j ≡ [] → SafeRun j
empty_safe j none = subst SafeRun (sym none) none_safe

-- what the laws of safety say of one part of it
abbrev pub Law : (List Entry → Type 0) → Type 0
Law P =
    (d : Domain) (rounds : List (List Event)) (j : List Entry) → (d.akm ≡ FtPsk → InOctets d) → (d.akm ≡ FtPsk → HeldRight d j) → IsNamed d → Explained d rounds j
    → Fresh j → NoCollision j → Unforged j → P j

-- and of all of them
pub record Laws : Type 0 where
  pub joins : Law Joined
  pub installs : Law InstalledOnce
  pub uses : Law (Once use_of)
  pub sourced : Law Sourced
  pub sent : Law FromFrames
  pub ups : Law (Once up_of)
  pub onward : Law NeverBack
  pub follows : Law FollowsOthers
  pub former : Law FormerUnused

pub run_safely : (laws : Laws) → RunsAreSafe
run_safely laws d run j told fresh apart unforged =
    let octets : d.akm ≡ FtPsk → InOctets d = λ same. told.octets in
    let held : d.akm ≡ FtPsk → HeldRight d j = λ same. told.held in
    let is = named d told.form in
    let safe : Safe j = record {
      installed_once = laws.installs d run j octets held is told.explained fresh apart unforged;
      used_once = laws.uses d run j octets held is told.explained fresh apart unforged;
      joined = laws.joins d run j octets held is told.explained fresh apart unforged;
      handed_up_once = laws.ups d run j octets held is told.explained fresh apart unforged;
      sourced = laws.sourced d run j octets held is told.explained fresh apart unforged;
    } in
    record {
      safe = safe;
      never_back = laws.onward d run j octets held is told.explained fresh apart unforged;
      follows = laws.follows d run j octets held is told.explained fresh apart unforged;
      former_unused = laws.former d run j octets held is told.explained fresh apart unforged;
      announced = announced_once j (laws.sent d run j octets held is told.explained fresh apart unforged) safe.handed_up_once;
    }

told_safe : (safe : RunsAreSafe) (draft : Draft) (run : List (List Event)) (j : List Entry) → IsJournal draft run j → Fresh j → NoCollision j → Unforged j → SafeRun j
told_safe safe (AtNodes h) run j told fresh apart unforged = safe h.network run j told fresh apart unforged
told_safe safe (InRound h count) run j told fresh apart unforged = safe h.network run j told fresh apart unforged
told_safe safe AtVersion run j told fresh apart unforged = empty_safe j told.1
told_safe safe (AtHeader awaited h) run j told fresh apart unforged = empty_safe j told.1

-- however the reading ended
pub run_safe : (safe : RunsAreSafe) (f : Found) (octets : List ℕ) (ended : Bool) (p : Point) → Tells f octets ended p → Fresh p.journal → NoCollision p.journal → Unforged p.journal → SafeRun p.journal
run_safe safe found.Whole octets ended p t = told_safe safe p.draft p.rounds.run p.journal t.explains.journal
run_safe safe (found.Stopped (stop.Refused number refusal mistake)) octets ended p t = told_safe safe p.draft p.rounds.run p.journal t.explains.journal
run_safe safe (found.Stopped stop.NoMemory) octets ended p t = told_safe safe p.draft p.rounds.run p.journal t.explains.journal
run_safe safe (found.Stopped stop.DrawFault) octets ended p t = told_safe safe p.draft p.rounds.run p.journal t.explains.journal
run_safe safe (found.Stopped (stop.Broken error)) octets ended p t = told_safe safe p.draft p.rounds.run p.journal t.explains.journal
run_safe safe (found.Stopped stop.Unwritten) octets ended p t = told_safe safe p.draft p.rounds.run p.journal t.explains.journal
run_safe safe (found.Unended number refusal) octets ended p t = told_safe safe p.draft p.rounds.run p.journal t.explains.journal
run_safe safe found.ReadFault octets ended p t = told_safe safe p.draft p.rounds.run p.journal t.explains.journal

-- What a line leaves that asks for an event, or for a turn.
use Rattle.std.proofs.Common.{◌≡◌, ◌≢◌, ℕ, suc, ◌*◌, inl, inr, true, List, [], ◌∷◌, length, drop, Option, None, Some, Result, Ok, Err, refl, sym, ap, subst, ◌∙◌, arith}
use Rattle.std.proofs.lemmas.List.{drop-drop}
use Rattle.domain_base.specs.Told.{AirStory, LinkStory}
use Rattle.domain_base.specs.declared.names.Mac.{Mac}
use Rattle.domain_base.specs.declared.radio.SentFrame.{SentFrame}
use Rattle.run_journal.specs.Limits.{most_polls}
use Rattle.run_journal.specs.declared.acts.Entry.{Entry}
use Rattle.link_steps.specs.Ends.{node_of}
use Rattle.link_steps.specs.declared.ends.LinkEnd.{LinkEnd}
use Rattle.link_steps.specs.declared.steps.LinkEvent.{LinkEvent}
use Rattle.link_steps.specs.declared.steps.Step.{Step}
use Rattle.link_lines.specs.declared.draft.LinkHeader.{LinkHeader}
use Rattle.link_lines.specs.declared.said.LinkSaid.{LinkSaid}
use Rattle.link_lines.specs.declared.said.LinkSaid.TheVariants as said
use Rattle.link_lines.specs.Asked.{event_of, revoked_of}
use Rattle.link_lines.specs.Drafts.{Goes, IsAsked, LinkDraft, is_whole}
use Rattle.link_lines.specs.Lines.{line_says}
use Rattle.link_runs.specs.declared.found.Breach.{Breach}
use Rattle.link_runs.specs.declared.found.Breach.TheVariants.{ByLink, ByWrite}
use Rattle.link_runs.specs.declared.found.Undone.{Undone}
use Rattle.link_runs.specs.declared.found.Undone.TheVariants.{Refused, NoMemory, DrawFault, Broken}
use Rattle.link_runs.specs.declared.state.LinkState.{LinkState}
use Rattle.link_runs.specs.declared.steps.Running.{Running}
use Rattle.link_runs.specs.Endings.{Breaks, MayBreak}
use Rattle.link_runs.specs.Outer.{AreHeard, HasStepped, IsDueToSend, IsUnsent, SentPart, frames_sent, left_after, story_of, tale}
use Rattle.link_runs.specs.Standing.{BreaksLine, HasLink, IsEvent, IsMet, IsMetPart, IsUnstepped, LeavesLine, Met, MetBy, MetPartBy, Outer, Stands, StandsBy, StepsAs, StepsBy, StepsIn, TellsLine, TurnsBy, TurnsIn, Unmoved, asked_of}
use Rattle.link_runs.specs.Stepping.{DidStep, IsAfter, OnWrite, SendsStep, StaysTold, Takes, TalePart}
use Rattle.link_runs.specs.Told.{Hears, LastLine, Means, Note, Stepped, StepsOn, Told, Turned, asked_by, with_line}
use Rattle.link_runs.proofs.Standing.{asked_stands, says_at}
use Rattle.link_runs.proofs.Notes.{after_step, end_asked, is_noted, noted_as}

-- ---- what the line leaves of the reading

-- an end that goes on from a whole header: the reading says that still, and the end is that of the steps
pub record GoesOn {L : Type 0} (told : L → Option LinkStory) (first now : Outer) (d : LinkDraft) (t : Told) (r : Running L) (j : List Entry) (line : List ℕ) (said_ : LinkSaid) : Type 0 where
  pub end : d.end ≡ t.draft.end
  pub whole : is_whole d.due ≡ true
  pub header : d.header ≡ t.draft.header
  pub asks : IsAsked said_ d.end
  pub says : line_says t.draft (asked_by t) line ≡ Ok (d, said_)
  pub stands : IsAfter d.header r t.notes j
  pub met : (start : AirStory) → first.air ≡ Some start → IsMet told start r now.air (with_line t d t.last)
  pub drawn : Met told first now (Some r) t

goes_met : {L : Type 0} (told : L → Option LinkStory) (start : AirStory) (air : Option AirStory) (r : Running L) (t : Told) (d : LinkDraft) → d.end ≡ t.draft.end → IsMet told start r air t → IsMet told start r air (with_line t d t.last)
goes_met told start air r t d end m = record {
  has = subst (λ (e : LinkEnd). HasLink e start air) (sym end) m.has;
  heard = subst (λ (e : LinkEnd). AreHeard (start.frames (node_of e)) t.turns) (sym end) m.heard;
  tells = subst (λ (e : LinkEnd). told r.link ≡ Some (story_of e (start.frames (node_of e)) t)) (sym end) m.tells;
}

-- by how a line goes that asks for an event, or for a turn
abbrev pub GoesAt : LinkSaid → LinkDraft → LinkDraft → Type 0
GoesAt said_ old new = (new.end ≡ old.end) × ((is_whole old.due ≡ true) × ((is_whole new.due ≡ true) × ((new.header ≡ old.header) × IsAsked said_ old.end)))

pub goes_at : (said_ : LinkSaid) (old new : LinkDraft) → IsEvent said_ → Goes said_ old new → GoesAt said_ old new
goes_at (said.Row sta) old new event goes = goes
goes_at (said.Revoke sta) old new event goes = goes
goes_at (said.Ask sta r1kh) old new event goes = goes
goes_at (said.Forget n) old new event goes = goes
goes_at said.Turn old new event goes = absurd event
goes_at said.Nothing old new event goes = absurd event
goes_at said.Draw old new event goes = absurd event
goes_at said.Begin old new event goes = absurd event

goes_some : {L : Type 0} (told : L → Option LinkStory) (first now : Outer) (s m : LinkState L) (r : Running L) (asked : ℕ) (line : List ℕ) (j : List Entry) (t : Told) (said_ : LinkSaid) → s.running ≡ Some r → Stands told first now s j t → asked ≡ asked_of s.running → line_says s.reader asked line ≡ Ok (m.reader, said_) → GoesAt said_ s.reader m.reader → GoesOn told first now m.reader t r j line said_
goes_some told first now s m r asked line j t said_ is stands count says goes =
    let end : m.reader.end ≡ t.draft.end = goes.0 ∙ ap (λ (d : LinkDraft). d.end) stands.draft_is in
    let header : m.reader.header ≡ t.draft.header = goes.1.1.1.0 ∙ ap (λ (d : LinkDraft). d.header) stands.draft_is in
    let met = subst (λ (w : Option (Running _)). Met told first now w t) is stands.met in
    let steps = subst (λ (w : Option (Running _)). StandsBy w t j) is stands.steps in
    record {
      end = end;
      whole = goes.1.1.0;
      header = header;
      asks = subst (λ (e : LinkEnd). IsAsked said_ e) (sym goes.0) goes.1.1.1.1;
      says = says_at told first now s j t asked line (Ok (m.reader, said_)) stands count says;
      stands = subst (λ (h : LinkHeader). IsAfter h r t.notes j) (sym header) steps;
      met = λ start air. goes_met told start now.air r t m.reader end (met.met.1 start air);
      drawn = met;
    }

-- ---- an event

-- the notes with that step
abbrev after_event : Told → LinkDraft → Option Mac → Step → Told
after_event t d sta s = record (with_line t d Stepped) { notes = noted_as sta s ∷ t.notes }

is_event : (said_ : LinkSaid) (d : LinkDraft) (before t : Told) → IsEvent said_ → StepsOn said_ d before t → Means said_ d before t
is_event (said.Row sta) d before t event on = on
is_event (said.Revoke sta) d before t event on = on
is_event (said.Ask sta r1kh) d before t event on = on
is_event (said.Forget n) d before t event on = on
is_event said.Turn d before t event on = absurd event
is_event said.Nothing d before t event on = absurd event
is_event said.Draw d before t event on = absurd event
is_event said.Begin d before t event on = absurd event

-- a step of the end, as the line means it
record DidEvent {L : Type 0} (d : LinkDraft) (t : Told) (r q : Running L) (k : List Entry) (said_ : LinkSaid) (line : List ℕ) (s : Step) : Type 0 where
  hears : Hears line t (after_event t d (revoked_of said_) s)
  stands : IsAfter d.header q (noted_as (revoked_of said_) s ∷ t.notes) k

did_event : {L : Type 0} (told : L → Option LinkStory) (first now : Outer) (d : LinkDraft) (t : Told) (r q : Running L) (j k : List Entry) (line : List ℕ) (said_ : LinkSaid) (asked : ℕ) (event : LinkEvent) (s : Step) → IsEvent said_ → GoesOn told first now d t r j line said_ → asked ≡ asked_by t → event_of d.header asked said_ ≡ Some event → DidStep d.end (revoked_of said_) event r q j k s → DidEvent d t r q k said_ line s
did_event told first now d t r q j k line said_ asked event s is on count asks did =
    let notes = noted_as (revoked_of said_) s ∷ t.notes in
    record {
      hears = record {
        says = (d, said_);
        line_is = on.says;
        means = is_event said_ d t (after_event t d (revoked_of said_) s) is (record {
          event = event;
          asks = ap (λ (n : ℕ). event_of d.header n said_) (sym count) ∙ asks;
          notes = notes;
          noted = is_noted d.header (revoked_of said_) event t.notes _ _ s on.stands.both did.happens;
          told = refl;
        });
      };
      stands = after_step d.header d.end (revoked_of said_) event r q t.notes j k s on.stands did (end_asked d.header asked said_ event d.end on.asks asks);
    }

event_met : {L : Type 0} (told : L → Option LinkStory) (first now : Outer) (d : LinkDraft) (t : Told) (r q : Running L) (j : List Entry) (line : List ℕ) (said_ : LinkSaid) (s : Step) (start : AirStory) → GoesOn told first now d t r j line said_ → SendsStep d.end s (told r.link) (told q.link) → first.air ≡ Some start → IsMet told start q now.air (after_event t d (revoked_of said_) s)
unfolding frames_sent
event_met told first now d t r q j line said_ s start on sends is =
    let m = on.met start is in
    record { has = m.has; heard = m.heard; tells = sends (story_of d.end (start.frames (node_of d.end)) t) m.tells }

pub event_ok : {L T : Type 0} (told : L → Option LinkStory) (first now : Outer) (n : LinkState L) (t : Told) (r q : Running L) (j k : List Entry) (line : List ℕ) (said_ : LinkSaid) (asked : ℕ) (x : T) → IsEvent said_ → GoesOn told first now n.reader t r j line said_ → n.running ≡ Some q → asked ≡ asked_by t → StepsAs {L = L} {T = T} told n.reader.header n.reader.end r q asked said_ j k (Ok x) → TellsLine told first now n line k t
event_ok told first now n t r q j k line said_ asked x is on running count step =
    let s = step.steps.0 in
    let d = did_event told first now n.reader t r q j k line said_ asked step.event s is on count step.asks step.steps.1.0 in
    let u = after_event t n.reader (revoked_of said_) s in
    record {
      t = u;
      hears = d.hears;
      stands = record {
        draft_is = refl;
        steps = subst (λ (w : Option (Running _)). StandsBy w u k) (sym running) d.stands;
        met = record {
          drawn = on.drawn.drawn;
          met = subst (λ (w : Option (Running _)). MetBy told first.air w now.air u) (sym running) (on.whole, λ start is_. event_met told first now n.reader t r q j line said_ s start on step.steps.1.1 is_);
        };
      };
    }

same_link : {L : Type 0} (told : L → Option LinkStory) (first air : Option AirStory) (r q : Running L) (t : Told) → StaysTold (told r.link) (told q.link) → MetBy told first (Some r) air t → MetBy told first (Some q) air t
same_link told first air r q t same met = (met.0, λ start is. (let m = met.1 start is in record { has = m.has; heard = m.heard; tells = same _ m.tells }))

-- its datagram was not sent
event_unsent : (why : Breach) (end : LinkEnd) (t : Told) (sent : List SentFrame) → HasStepped t.last t.turns → IsUnsent why end t.notes sent → SentPart why end t sent
event_unsent (ByLink error) end t sent stepped unsent = inr (stepped, unsent)
event_unsent ByWrite end t sent stepped unsent = (stepped, unsent)

event_part : {L : Type 0} (told : L → Option LinkStory) (why : Breach) (first now : Outer) (d : LinkDraft) (t : Told) (r q : Running L) (j : List Entry) (line : List ℕ) (said_ : LinkSaid) (s : Step) (start : AirStory) → GoesOn told first now d t r j line said_ → IsDueToSend why s → StaysTold (told r.link) (told q.link) → first.air ≡ Some start → IsMetPart told why start q now.air (after_event t d (revoked_of said_) s)
event_part told why first now d t r q j line said_ s start on due same is =
    let m = on.met start is in
    record {
      has = m.has;
      story = story_of d.end (start.frames (node_of d.end)) t;
      tells = same _ m.tells;
      part = record {
        node_is = refl;
        sent = event_unsent why d.end (after_event t d (revoked_of said_) s) (frames_sent d.end t.notes) tt (record { note = noted_as (revoked_of said_) s; before = t.notes; notes_are = refl; sent_are = refl; due = due });
        heard = (m.heard, refl);
      };
    }

event_breaks : (why : Breach) (t : Told) (n : Note) (before : List Note) → t.last ≡ Stepped → t.notes ≡ n ∷ before → IsDueToSend why n.step → Breaks why t
event_breaks (ByLink error) t n before last are due =
    subst (λ (l : LastLine). MayBreak l t.notes) (sym last) (subst (λ (w : List Note). MayBreak Stepped w) (sym are) due)
event_breaks ByWrite t n before last are due = subst (λ (l : LastLine). HasStepped l t.turns) (sym last) tt

pub event_broken : {L : Type 0} (told : L → Option LinkStory) (why : Breach) (first now : Outer) (n : LinkState L) (t : Told) (r q : Running L) (j k : List Entry) (line : List ℕ) (said_ : LinkSaid) (asked : ℕ) (event : LinkEvent) (s : Step) → IsEvent said_ → GoesOn told first now n.reader t r j line said_ → n.running ≡ Some q → asked ≡ asked_by t → event_of n.reader.header asked said_ ≡ Some event → DidStep n.reader.end (revoked_of said_) event r q j k s → IsDueToSend why s → StaysTold (told r.link) (told q.link) → BreaksLine told why first now n line k t
event_broken told why first now n t r q j k line said_ asked event s is on running count asks did due same =
    let d = did_event told first now n.reader t r q j k line said_ asked event s is on count asks did in
    let u = after_event t n.reader (revoked_of said_) s in
    record {
      t = u;
      hears = d.hears;
      end_is = refl;
      breaks = event_breaks why u (noted_as (revoked_of said_) s) t.notes refl refl due;
      journal = d.stands.journal;
      met = record {
        drawn = on.drawn.drawn;
        met = subst (λ (w : Option (Running _)). MetPartBy told why first.air w now.air u) (sym running)
            (on.whole, (λ e. absurd cc, λ start is_. event_part told why first now n.reader t r q j line said_ s start on due same is_));
      };
    }

event_unmoved : {L : Type 0} (told : L → Option LinkStory) (first now : Outer) (n : LinkState L) (t : Told) (r q : Running L) (j k : List Entry) {line : List ℕ} {said_ : LinkSaid} → n.running ≡ Some q → GoesOn told first now n.reader t r j line said_ → IsUnstepped told r q j k → Unmoved told first now n k t
event_unmoved told first now n t r q j k running on step = record {
  end_is = sym on.end;
  journal = step.1.0 ∙ on.stands.journal;
  met = record {
    drawn = on.drawn.drawn;
    met = subst (λ (w : Option (Running _)). MetBy told first.air w now.air t) (sym running) (same_link told first.air now.air r q t step.1.1 on.drawn.met);
  };
}

event_in : {L T : Type 0} (told : L → Option LinkStory) (first now : Outer) (n : LinkState L) (t : Told) (r q : Running L) (j k : List Entry) (line : List ℕ) (said_ : LinkSaid) (asked : ℕ) (result : Result T Undone) → IsEvent said_ → GoesOn told first now n.reader t r j line said_ → n.running ≡ Some q → asked ≡ asked_by t → StepsIn {L = L} {T = T} told n.reader.header n.reader.end r q asked said_ j k result → LeavesLine {T = T} told first now n line k t result
event_in {L = L} {T = T} told first now n t r q j k line said_ asked (Ok x) is on running count step = event_ok {L = L} {T = T} told first now n t r q j k line said_ asked x is on running count step
event_in told first now n t r q j k line said_ asked (Err (Broken ByWrite)) is on running count step =
    event_broken told ByWrite first now n t r q j k line said_ asked step.event step.steps.0 is on running count step.asks step.steps.1.0 tt step.steps.1.1
event_in told first now n t r q j k line said_ asked (Err (Broken (ByLink error))) is on running count step =
    event_broken told (ByLink error) first now n t r q j k line said_ asked step.event step.steps.0 is on running count step.asks step.steps.1.0 step.steps.1.2 step.steps.1.1
event_in told first now n t r q j k line said_ asked (Err NoMemory) is on running count step = event_unmoved told first now n t r q j k running on step
event_in told first now n t r q j k line said_ asked (Err (Refused refusal)) is on running count step = absurd step
event_in told first now n t r q j k line said_ asked (Err DrawFault) is on running count step = absurd step

event_by : {L T : Type 0} (told : L → Option LinkStory) (first now : Outer) (s n : LinkState L) (old new : Option (Running L)) (asked : ℕ) (line : List ℕ) (said_ : LinkSaid) (j k : List Entry) (t : Told) (result : Result T Undone) → Stands told first now s j t → old ≡ s.running → n.running ≡ new → asked ≡ asked_of s.running → IsEvent said_ → line_says s.reader asked line ≡ Ok (n.reader, said_) → Goes said_ s.reader n.reader → StepsBy {L = L} {T = T} told n.reader old new asked said_ j k result → LeavesLine {T = T} told first now n line k t result
event_by {L = L} {T = T} told first now s n (Some r) (Some q) asked line said_ j k t result stands old new count is says goes step =
    event_in {L = L} {T = T} told first now n t r q j k line said_ asked result is
    (goes_some told first now s n r asked line j t said_ (sym old) stands count says (goes_at said_ s.reader n.reader is goes)) new (count ∙ asked_stands s.running t j stands.steps) step
event_by told first now s n None new asked line said_ j k t result stands old new_ count is says goes step = absurd step
event_by told first now s n (Some r) None asked line said_ j k t result stands old new_ count is says goes step = absurd step

-- by how the event was done
pub leaves_event : {L T : Type 0} (told : L → Option LinkStory) (first now : Outer) (s m n : LinkState L) (asked : ℕ) (line : List ℕ) (said_ : LinkSaid) (j k : List Entry) (t : Told) (result : Result T Undone) → Stands told first now s j t → m.running ≡ s.running → n.reader ≡ m.reader → asked ≡ asked_of s.running → IsEvent said_ → line_says s.reader asked line ≡ Ok (m.reader, said_) → Goes said_ s.reader m.reader → StepsBy {L = L} {T = T} told m.reader m.running n.running asked said_ j k result → LeavesLine {T = T} told first now n line k t result
leaves_event {L = L} {T = T} told first now s m n asked line said_ j k t result stands old reader count is says goes step =
    event_by {L = L} {T = T} told first now s n m.running n.running asked line said_ j k t result stands old refl count is
    (subst (λ (d : LinkDraft). line_says s.reader asked line ≡ Ok (d, said_)) (sym reader) says)
    (subst (λ (d : LinkDraft). Goes said_ s.reader d) (sym reader) goes)
    (subst (λ (d : LinkDraft). StepsBy {L = L} {T = T} told d m.running n.running asked said_ j k result) (sym reader) step)

-- ---- a turn

-- a list of datagrams after another
turn_left : (frames : List (List ℕ)) (turns : ℕ) → drop most_polls (left_after frames turns) ≡ left_after frames (suc turns)
turn_left frames turns = drop-drop most_polls (most_polls * turns) frames ∙ ap (λ (n : ℕ). drop n frames) (omega arith)

abbrev after_turn : Told → LinkDraft → List (List ℕ) → List Note → Told
after_turn t d given notes = record (with_line t d Turned) { notes = notes; turns = given ∷ t.turns }

turn_hears : {L T : Type 0} (told : L → Option LinkStory) (first now : Outer) (d : LinkDraft) (t : Told) (r q : Running L) (j k : List Entry) (line : List ℕ) (result : Result T Breach) → GoesOn told first now d t r j line said.Turn → (takes : Takes {L = L} {T = T} told d.end d.header most_polls r q t.notes k result) → Hears line t (after_turn t d takes.given takes.notes)
turn_hears told first now d t r q j k line result on takes = record {
  says = (d, said.Turn);
  line_is = on.says;
  means = record { given = takes.given; few = takes.few; notes = takes.notes; taken = takes.taken; told = refl };
}

-- a whole one
turn_met : {L T : Type 0} (told : L → Option LinkStory) (first now : Outer) (d : LinkDraft) (t : Told) (r q : Running L) (j k : List Entry) (line : List ℕ) (x : T) (start : AirStory) → GoesOn told first now d t r j line said.Turn → (takes : Takes {L = L} {T = T} told d.end d.header most_polls r q t.notes k (Ok x)) → first.air ≡ Some start → IsMet told start q now.air (after_turn t d takes.given takes.notes)
unfolding AreHeard
turn_met told first now d t r q j k line x start on takes is =
    let m = on.met start is in
    let frames = start.frames (node_of d.end) in
    let took = takes.tells (left_after frames (length t.turns)) m.tells in
    record {
      has = m.has;
      heard = (m.heard, took.all_of);
      tells = took.tells ∙ ap (λ (w : List (List ℕ)). Some (tale d.end takes.notes w)) (turn_left frames (length t.turns));
    }

pub turn_ok : {L T : Type 0} (told : L → Option LinkStory) (first now : Outer) (n : LinkState L) (t : Told) (r q : Running L) (j k : List Entry) (line : List ℕ) (x : T) → GoesOn told first now n.reader t r j line said.Turn → n.running ≡ Some q → Takes {L = L} {T = T} told n.reader.end n.reader.header most_polls r q t.notes k (Ok x) → TellsLine told first now n line k t
turn_ok {L = L} {T = T} told first now n t r q j k line x on running takes =
    let u = after_turn t n.reader takes.given takes.notes in
    record {
      t = u;
      hears = turn_hears {L = L} {T = T} told first now n.reader t r q j k line (Ok x) on takes;
      stands = record {
        draft_is = refl;
        steps = subst (λ (w : Option (Running _)). StandsBy w u k) (sym running) takes.after_;
        met = record {
          drawn = on.drawn.drawn;
          met = subst (λ (w : Option (Running _)). MetBy told first.air w now.air u) (sym running) (on.whole, λ start is. turn_met {L = L} {T = T} told first now n.reader t r q j k line x start on takes is);
        };
      };
    }

-- a turn that took something
turned_some : (t : Told) (given : List (List ℕ)) (turns : List (List (List ℕ))) → t.last ≡ Turned → t.turns ≡ given ∷ turns → given ≢ [] → HasStepped t.last t.turns
turned_some t given turns last are some =
    subst (λ (l : LastLine). HasStepped l t.turns) (sym last) (subst (λ (w : List (List (List ℕ))). HasStepped Turned w) (sym are) some)

-- a part of one
turn_sent : (why : Breach) (end : LinkEnd) (t : Told) (given left : List (List ℕ)) (turns : List (List (List ℕ))) (now : Option LinkStory) → t.last ≡ Turned → t.turns ≡ given ∷ turns → TalePart why end t.notes given left now → (story : LinkStory) × ((now ≡ Some story) × ((story.node ≡ node_of end) × (SentPart why end t story.sent × (story.left ≡ left))))
turn_sent (ByLink error) end t given left turns now last are (inl tell) = (tale end t.notes left, (tell, (refl, (inl (last, refl), refl))))
turn_sent (ByLink error) end t given left turns now last are (inr part) = (part.1.story, (part.1.now_is, (part.1.node_is, (inr (turned_some t given turns last are part.0, part.1.unsent), part.1.left_is))))
turn_sent ByWrite end t given left turns now last are part = (part.1.story, (part.1.now_is, (part.1.node_is, ((turned_some t given turns last are part.0, part.1.unsent), part.1.left_is))))

turn_part : {L T : Type 0} (told : L → Option LinkStory) (why : Breach) (first now : Outer) (d : LinkDraft) (t : Told) (r q : Running L) (j k : List Entry) (line : List ℕ) (start : AirStory) → GoesOn told first now d t r j line said.Turn → (takes : Takes {L = L} {T = T} told d.end d.header most_polls r q t.notes k (Err why)) → first.air ≡ Some start → IsMetPart told why start q now.air (after_turn t d takes.given takes.notes)
turn_part told why first now d t r q j k line start on takes is =
    let m = on.met start is in
    let frames = start.frames (node_of d.end) in
    let took = takes.tells (left_after frames (length t.turns)) m.tells in
    let sent = turn_sent why d.end (after_turn t d takes.given takes.notes) takes.given _ t.turns (told q.link) refl refl took.tells in
    record {
      has = m.has;
      story = sent.0;
      tells = sent.1.0;
      part = record {
        node_is = sent.1.1.0;
        sent = sent.1.1.1.0;
        heard = (m.heard, record { rest = took.rest; front = took.front; lost = took.lost; few_lost = took.few_lost; left_is = sent.1.1.1.1 });
      };
    }

turn_breaks : (why : Breach) (t : Told) (given : List (List ℕ)) (turns : List (List (List ℕ))) → t.last ≡ Turned → t.turns ≡ given ∷ turns → OnWrite why (given ≢ []) → Breaks why t
turn_breaks (ByLink error) t given turns last are on = subst (λ (l : LastLine). MayBreak l t.notes) (sym last) tt
turn_breaks ByWrite t given turns last are on = turned_some t given turns last are on

pub turn_broken : {L T : Type 0} (told : L → Option LinkStory) (why : Breach) (first now : Outer) (n : LinkState L) (t : Told) (r q : Running L) (j k : List Entry) (line : List ℕ) → GoesOn told first now n.reader t r j line said.Turn → n.running ≡ Some q → Takes {L = L} {T = T} told n.reader.end n.reader.header most_polls r q t.notes k (Err why) → BreaksLine told why first now n line k t
turn_broken {L = L} {T = T} told why first now n t r q j k line on running takes =
    let u = after_turn t n.reader takes.given takes.notes in
    record {
      t = u;
      hears = turn_hears {L = L} {T = T} told first now n.reader t r q j k line (Err why) on takes;
      end_is = refl;
      breaks = turn_breaks why u takes.given t.turns refl refl takes.some;
      journal = takes.after_.journal;
      met = record {
        drawn = on.drawn.drawn;
        met = subst (λ (w : Option (Running _)). MetPartBy told why first.air w now.air u) (sym running)
            (on.whole, (λ e. absurd cc, λ start is. turn_part {L = L} {T = T} told why first now n.reader t r q j k line start on takes is));
      };
    }

turn_in : {L T : Type 0} (told : L → Option LinkStory) (first now : Outer) (n : LinkState L) (t : Told) (r q : Running L) (j k : List Entry) (line : List ℕ) (result : Result T Undone) → GoesOn told first now n.reader t r j line said.Turn → n.running ≡ Some q → TurnsIn {L = L} {T = T} told n.reader.end r q j k result → LeavesLine {T = T} told first now n line k t result
turn_in {L = L} {T = T} told first now n t r q j k line (Ok x) on running turns = turn_ok {L = L} {T = T} told first now n t r q j k line x on running (turns n.reader.header t.notes on.stands)
turn_in {L = L} {T = T} told first now n t r q j k line (Err (Broken why)) on running turns = turn_broken {L = L} {T = T} told why first now n t r q j k line on running (turns n.reader.header t.notes on.stands)
turn_in told first now n t r q j k line (Err NoMemory) on running turns = absurd turns
turn_in told first now n t r q j k line (Err (Refused refusal)) on running turns = absurd turns
turn_in told first now n t r q j k line (Err DrawFault) on running turns = absurd turns

turn_by : {L T : Type 0} (told : L → Option LinkStory) (first now : Outer) (s n : LinkState L) (old new : Option (Running L)) (asked : ℕ) (line : List ℕ) (j k : List Entry) (t : Told) (result : Result T Undone) → Stands told first now s j t → old ≡ s.running → n.running ≡ new → asked ≡ asked_of s.running → line_says s.reader asked line ≡ Ok (n.reader, said.Turn) → Goes said.Turn s.reader n.reader → TurnsBy {L = L} {T = T} told n.reader.end old new j k result → LeavesLine {T = T} told first now n line k t result
turn_by {L = L} {T = T} told first now s n (Some r) (Some q) asked line j k t result stands old new count says goes turns =
    turn_in {L = L} {T = T} told first now n t r q j k line result (goes_some told first now s n r asked line j t said.Turn (sym old) stands count says goes) new turns
turn_by told first now s n None new asked line j k t result stands old new_ count says goes turns = absurd turns
turn_by told first now s n (Some r) None asked line j k t result stands old new_ count says goes turns = absurd turns

pub leaves_turn : {L T : Type 0} (told : L → Option LinkStory) (first now : Outer) (s m n : LinkState L) (asked : ℕ) (line : List ℕ) (j k : List Entry) (t : Told) (result : Result T Undone) → Stands told first now s j t → m.running ≡ s.running → n.reader ≡ m.reader → asked ≡ asked_of s.running → line_says s.reader asked line ≡ Ok (m.reader, said.Turn) → Goes said.Turn s.reader m.reader → TurnsBy {L = L} {T = T} told m.reader.end m.running n.running j k result → LeavesLine {T = T} told first now n line k t result
leaves_turn {L = L} {T = T} told first now s m n asked line j k t result stands old reader count says goes turns =
    turn_by {L = L} {T = T} told first now s n m.running n.running asked line j k t result stands old refl count
    (subst (λ (d : LinkDraft). line_says s.reader asked line ≡ Ok (d, said.Turn)) (sym reader) says)
    (subst (λ (d : LinkDraft). Goes said.Turn s.reader d) (sym reader) goes)
    (subst (λ (d : LinkDraft). TurnsBy {L = L} {T = T} told d.end m.running n.running j k result) (sym reader) turns)

-- Where an end stands after a line.
use Rattle.std.proofs.Common.{◌≡◌, ℕ, Bool, true, false, List, [], length, Option, None, Some, Result, Ok, Err, refl, sym, ap, subst, ◌∙◌}
use Rattle.std.specs.Prelude.{IfErr, OnErr, OnOk}
use Rattle.std.proofs.lemmas.Bool.{true≢false}
use Rattle.domain_base.specs.Told.{Attaches, AirStory, LinkStory, new_link}
use Rattle.domain_base.specs.declared.outside.LinkError.TheVariants as link
use Rattle.domain_base.proofs.Stories.{Attaches-told}
use Rattle.run_journal.specs.declared.acts.Entry.{Entry}
use Rattle.holder_link.specs.Acts.{BothHave}
use Rattle.link_steps.specs.Ends.{node_of}
use Rattle.link_steps.specs.declared.ends.LinkEnd.{LinkEnd}
use Rattle.link_lines.specs.declared.draft.LinkDue.{LinkDue}
use Rattle.link_lines.specs.declared.draft.LinkDue.TheVariants as due
use Rattle.link_lines.specs.declared.draft.LinkHeader.{LinkHeader}
use Rattle.link_lines.specs.declared.refusal.LinkRefusal.{LinkRefusal}
use Rattle.link_lines.specs.declared.said.LinkSaid.TheVariants as said
use Rattle.link_lines.specs.Drafts.{Goes, LinkDraft, Stays, is_whole, seeded}
use Rattle.link_lines.specs.Lines.{Says, line_says}
use Rattle.link_runs.specs.declared.found.Undone.{Undone}
use Rattle.link_runs.specs.declared.found.Undone.TheVariants.{Refused, NoMemory, DrawFault, Broken}
use Rattle.link_runs.specs.declared.found.Breach.TheVariants.{ByLink, ByWrite}
use Rattle.link_runs.specs.declared.state.LinkState.{LinkState}
use Rattle.link_runs.specs.declared.steps.Running.{Running}
use Rattle.link_runs.specs.Outer.{AreHeard, frames_sent, left_after, story_of, tale}
use Rattle.link_runs.specs.Standing.{Begins, HasLink, IsBegun, IsIdle, IsMet, IsSeeded, IsUnbegun, IsUnmet, LeavesLine, Met, MetBy, MetPartBy, Outer, Stands, StandsBy, Unmoved, asked_of, outer}
use Rattle.link_runs.specs.Stepping.{IsAfter}
use Rattle.link_runs.specs.Told.{LastLine, Note, Other, Began, Told, asked_by, both_of, entries_of, with_line}

-- ---- what a line says

-- how many questions were asked, by the steps
pub asked_stands : {L : Type 0} (running : Option (Running L)) (t : Told) (j : List Entry) → StandsBy running t j → asked_of running ≡ asked_by t
asked_stands None t j idle = sym (ap (λ (n : List Note). (both_of t.draft.header n).asking.asked) idle.notes_are)
asked_stands (Some r) t j stands = ap (λ (b : BothHave). b.asking.asked) stands.both

-- what the line says that was taken
pub says_at : {L : Type 0} (told : L → Option LinkStory) (first now : Outer) (s : LinkState L) (j : List Entry) (t : Told) (asked : ℕ) (line : List ℕ) (says : Result Says LinkRefusal) → Stands told first now s j t → asked ≡ asked_of s.running → line_says s.reader asked line ≡ says → line_says t.draft (asked_by t) line ≡ says
says_at told first now s j t asked line says stands count e =
    ap (λ (d : LinkDraft). line_says d (asked_by t) line) (sym stands.draft_is)
    ∙ ap (λ (n : ℕ). line_says s.reader n line) (sym (count ∙ asked_stands s.running t j stands.steps))
    ∙ e

-- ---- what stays as a line is taken

pub journal_of : {L : Type 0} (running : Option (Running L)) (t : Told) (j : List Entry) → StandsBy running t j → j ≡ entries_of t.notes
unfolding entries_of
journal_of None t j idle = idle.journal ∙ sym (ap (λ (n : List Note). entries_of n) idle.notes_are)
journal_of (Some r) t j stands = stands.journal

-- nothing was done
pub unmoved : {L : Type 0} (told : L → Option LinkStory) (first now : Outer) (s n : LinkState L) (j k : List Entry) (t : Told) → n.reader.end ≡ s.reader.end → n.running ≡ s.running → k ≡ j → Stands told first now s j t → Unmoved told first now n k t
unmoved told first now s n j k t end running journal stands = record {
  end_is = sym (ap (λ (d : LinkDraft). d.end) stands.draft_is) ∙ sym end;
  journal = journal ∙ journal_of s.running t j stands.steps;
  met = subst (λ (r : Option (Running _)). Met told first now r t) (sym running) stands.met;
}

met_by : {L : Type 0} (told : L → Option LinkStory) (first air : Option AirStory) (running : Option (Running L)) (t : Told) (d : LinkDraft) (last : LastLine) → MetBy told first running air t → d.end ≡ t.draft.end → is_whole d.due ≡ is_whole t.draft.due → MetBy told first running air (with_line t d last)
met_by told first air None t d last met end whole = record { due_is = whole ∙ met.due_is; same = met.same }
met_by told first air (Some r) t d last met end whole = (
  whole ∙ met.0,
  λ start is.
      let m = met.1 start is in
      record {
        has = subst (λ (e : LinkEnd). HasLink e start air) (sym end) m.has;
        heard = subst (λ (e : LinkEnd). AreHeard (start.frames (node_of e)) t.turns) (sym end) m.heard;
        tells = subst (λ (e : LinkEnd). told r.link ≡ Some (story_of e (start.frames (node_of e)) t)) (sym end) m.tells;
      },
)

steps_by : {L : Type 0} (told : L → Option LinkStory) (first air : Option AirStory) (running : Option (Running L)) (t : Told) (j : List Entry) (d : LinkDraft) (last : LastLine) → StandsBy running t j → MetBy told first running air t → (is_whole t.draft.due ≡ true → d.header ≡ t.draft.header) → StandsBy running (with_line t d last) j
steps_by told first air None t j d last idle met header = record { notes_are = idle.notes_are; turns_are = idle.turns_are; journal = idle.journal }
steps_by told first air (Some r) t j d last stands met header = subst (λ (h : LinkHeader). IsAfter h r t.notes j) (sym (header met.0)) stands

-- a line that moves neither the end nor a whole header
pub stands_line : {L : Type 0} (told : L → Option LinkStory) (first now : Outer) (s n : LinkState L) (j : List Entry) (t : Told) (last : LastLine) → Stands told first now s j t → n.running ≡ s.running → n.reader.end ≡ s.reader.end → is_whole n.reader.due ≡ is_whole s.reader.due → (is_whole s.reader.due ≡ true → n.reader.header ≡ s.reader.header) → Stands told first now n j (with_line t n.reader last)
stands_line told first now s n j t last stands running end whole header =
    let end_ : n.reader.end ≡ t.draft.end = end ∙ ap (λ (d : LinkDraft). d.end) stands.draft_is in
    let whole_ : is_whole n.reader.due ≡ is_whole t.draft.due = whole ∙ ap (λ (d : LinkDraft). is_whole d.due) stands.draft_is in
    let header_ : is_whole t.draft.due ≡ true → n.reader.header ≡ t.draft.header =
    λ is. header (ap (λ (d : LinkDraft). is_whole d.due) stands.draft_is ∙ is) ∙ ap (λ (d : LinkDraft). d.header) stands.draft_is in
    record {
      draft_is = refl;
      steps = subst (λ (r : Option (Running _)). StandsBy r (with_line t n.reader last) j) (sym running) (steps_by told first.air now.air s.running t j n.reader last stands.steps stands.met.met header_);
      met = record {
        drawn = stands.met.drawn;
        met = subst (λ (r : Option (Running _)). MetBy told first.air r now.air (with_line t n.reader last)) (sym running) (met_by told first.air now.air s.running t n.reader last stands.met.met end_ whole_);
      };
    }

-- ---- a line that asks for nothing

stays : (b : Bool) (old new : LinkHeader) → Stays b old new → b ≡ true → new ≡ old
stays true old new same e = same
stays false old new same e = absurd cc

pub leaves_nothing : {L T : Type 0} (told : L → Option LinkStory) (first now : Outer) (s n : LinkState L) (asked : ℕ) (line : List ℕ) (j : List Entry) (t : Told) (x : T) → Stands told first now s j t → n.running ≡ s.running → asked ≡ asked_of s.running → line_says s.reader asked line ≡ Ok (n.reader, said.Nothing) → Goes said.Nothing s.reader n.reader → LeavesLine {T = T} told first now n line j t (Ok x)
leaves_nothing told first now s n asked line j t x stands running count says goes = record {
  t = with_line t n.reader Other;
  hears = record { says = (n.reader, said.Nothing); line_is = says_at told first now s j t asked line (Ok (n.reader, said.Nothing)) stands count says; means = refl };
  stands = stands_line told first now s n j t Other stands running goes.0 goes.1.0 (λ e. stays (is_whole s.reader.due) s.reader.header n.reader.header goes.1.1 e);
}

-- ---- a seed that is drawn

seeded_idle : {L : Type 0} (running : Option (Running L)) (d : LinkDue) (t u : Told) (j : List Entry) → IsBegun d running → d ≡ due.Seed → u.notes ≡ t.notes → u.turns ≡ t.turns → StandsBy running t j → StandsBy running u j
seeded_idle None d t u j begun is notes turns idle = record { notes_are = notes ∙ idle.notes_are; turns_are = turns ∙ idle.turns_are; journal = idle.journal }
seeded_idle (Some r) d t u j begun is notes turns stands = absurd (true≢false (sym begun.0 ∙ ap is_whole is))

-- of which nothing was done
unseeded : {L : Type 0} (running : Option (Running L)) (d : LinkDue) (t : Told) (j : List Entry) → IsBegun d running → d ≡ due.Seed → StandsBy running t j → t.notes ≡ []
unseeded None d t j begun is idle = idle.notes_are
unseeded (Some r) d t j begun is stands = absurd (true≢false (sym begun.0 ∙ ap is_whole is))

seeded_met : {L : Type 0} (told : L → Option LinkStory) (first air : Option AirStory) (running : Option (Running L)) (d : LinkDue) (t u : Told) → IsBegun d running → d ≡ due.Seed → is_whole u.draft.due ≡ false → MetBy told first running air t → MetBy told first running air u
seeded_met told first air None d t u begun is whole met = record { due_is = whole; same = met.same }
seeded_met told first air (Some r) d t u begun is whole met = absurd (true≢false (sym begun.0 ∙ ap is_whole is))

pub leaves_draw : {L T : Type 0} (told : L → Option LinkStory) (first : Outer) (air : Option AirStory) (before after : Option (List ℕ)) (s m n : LinkState L) (asked : ℕ) (line : List ℕ) (j : List Entry) (t : Told) (result : Result T Undone) → Stands told first (outer air before) s j t → IsBegun s.reader.due s.running → n.running ≡ s.running → asked ≡ asked_of s.running → line_says s.reader asked line ≡ Ok (m.reader, said.Draw) → Goes said.Draw s.reader m.reader
    → n.reader.end ≡ s.reader.end → OnOk result (IsSeeded m.reader n.reader after) → OnErr result (after ≡ before) → OnErr result (result ≡ Err DrawFault) → LeavesLine told first (outer air after) n line j t result
leaves_draw told first air before after s m n asked line j t (Ok x) stands begun running count says goes end drawn same fault =
    let told_ : Told = record (with_line t (seeded m.reader drawn.0) Other) { drawn = Some drawn.0 } in
    record {
      t = told_;
      hears = record {
        says = (m.reader, said.Draw);
        line_is = says_at told first (outer air before) s j t asked line (Ok (m.reader, said.Draw)) stands count says;
        means = (drawn.0, refl);
      };
      stands = record {
        draft_is = drawn.1.1;
        steps = subst (λ (r : Option (Running _)). StandsBy r told_ j) (sym running) (seeded_idle s.running s.reader.due t told_ j begun goes.0 refl refl stands.steps);
        met = record {
          drawn = drawn.1.0;
          met = subst (λ (r : Option (Running _)). MetBy told first.air r air told_) (sym running) (seeded_met told first.air air s.running s.reader.due t told_ begun goes.0 refl stands.met.met);
        };
      };
    }
leaves_draw {L = L} {T = T} told first air before after s m n asked line j t (Err undone) stands begun running count says goes end drawn same fault =
    let is : undone ≡ DrawFault = cc fault in
    let here : Result Says LinkRefusal = Ok (t.draft, said.Draw) in
    let said_ : line_says t.draft (asked_by t) line ≡ here =
    says_at told first (outer air before) s j t asked line (Ok (m.reader, said.Draw)) stands count says ∙ ap (λ (d : LinkDraft). Ok (d, said.Draw)) (goes.1 ∙ stands.draft_is) in
    subst (λ (u : Undone). LeavesLine {T = T} told first (outer air after) n line j t (Err u)) (sym is)
    (said_, (unseeded s.running s.reader.due t j begun goes.0 stands.steps, subst (λ (l : Option (List ℕ)). Unmoved told first (outer air l) n j t) (sym same) (unmoved told first (outer air before) s n j j t end running refl stands)))

-- ---- the end begins

-- of a header that is not whole there is no end
pub unbegun : {L : Type 0} (d : LinkDue) (running : Option (Running L)) → IsBegun d running → is_whole d ≡ false → running ≡ None
unbegun d None begun e = refl
unbegun d (Some r) begun e = absurd (true≢false (sym begun.0 ∙ e))

begun_tale : (end : LinkEnd) (frames : List (List ℕ)) (t : Told) → t.notes ≡ [] → t.turns ≡ [] → Some (new_link (node_of end) frames) ≡ Some (story_of end frames t)
unfolding frames_sent
begun_tale end frames t notes turns =
    ap (λ (n : List Note). Some (tale end n frames)) (sym notes)
    ∙ ap (λ (w : List (List (List ℕ))). Some (tale end t.notes (left_after frames (length w)))) (sym turns)

begun_met : {L : Type 0} (told : L → Option LinkStory) (start : AirStory) (r : Running L) (before after : Option AirStory) (t : Told) → t.notes ≡ [] → t.turns ≡ [] → before ≡ Some start → Attaches before after (node_of t.draft.end) (told r.link) → IsMet told start r after t
unfolding AreHeard
begun_met told start r before after t notes turns is attached =
    let a = Attaches-told start after (node_of t.draft.end) (told r.link) (subst (λ (b : Option AirStory). Attaches b after (node_of t.draft.end) (told r.link)) is attached) in
    record {
      has = record { now = a.0; is = a.2; others = a.4.others; returned = a.4.returned };
      heard = subst (λ (w : List (List (List ℕ))). AreHeard (start.frames (node_of t.draft.end)) w) (sym turns) tt;
      tells = a.3 ∙ ap Some a.4.begins ∙ begun_tale t.draft.end (start.frames (node_of t.draft.end)) t notes turns;
    }

begun_by : {L : Type 0} (told : L → Option LinkStory) (first before after : Option AirStory) (r : Running L) (t u : Told) → u.draft.end ≡ t.draft.end → IsUnmet first before t → is_whole u.draft.due ≡ true → u.notes ≡ [] → u.turns ≡ [] → Attaches before after (node_of t.draft.end) (told r.link) → MetBy told first (Some r) after u
begun_by told first before after r t u end met whole notes turns attached = (
  whole,
  λ start is. begun_met told start r before after u notes turns (met.same ∙ is) (subst (λ (e : LinkEnd). Attaches before after (node_of e) (told r.link)) (sym end) attached),
)

begun_steps : {L : Type 0} (h : LinkHeader) (r : Running L) (t : Told) (j : List Entry) → IsIdle t j → IsAfter h r [] [] → IsAfter h r t.notes j
begun_steps h r t j idle at = subst (λ (n : List Note). IsAfter h r n j) (sym idle.notes_are) (subst (λ (x : List Entry). IsAfter h r [] x) (sym idle.journal) at)

-- what stands before it
record Ready {L : Type 0} (told : L → Option LinkStory) (first now : Outer) (t : Told) (j : List Entry) : Type 0 where
  idle : IsIdle t j
  drawn : Met told first now None t
  unmet : IsUnmet first.air now.air t

ready : {L : Type 0} (told : L → Option LinkStory) (first now : Outer) (s : LinkState L) (j : List Entry) (t : Told) → IsBegun s.reader.due s.running → is_whole s.reader.due ≡ false → Stands told first now s j t → Ready told first now t j
ready told first now s j t begun whole stands =
    let none = unbegun s.reader.due s.running begun whole in
    let met = subst (λ (r : Option (Running _)). Met told first now r t) none stands.met in
    record { idle = subst (λ (r : Option (Running _)). StandsBy r t j) none stands.steps; drawn = met; unmet = met.met }

pub leaves_begin : {L T : Type 0} (told : L → Option LinkStory) (first : Outer) (before after : Option AirStory) (last : Option (List ℕ)) (s m n : LinkState L) (asked : ℕ) (line : List ℕ) (j : List Entry) (t : Told) (result : Result T Undone) → Stands told first (outer before last) s j t → IsBegun s.reader.due s.running → m.running ≡ s.running → n.reader ≡ m.reader → asked ≡ asked_of s.running → line_says s.reader asked line ≡ Ok (m.reader, said.Begin) → Goes said.Begin s.reader m.reader
    → OnOk result ((r : Running L) × (n.running ≡ Some r) × Begins told m.reader.end m.reader.header r before after) → OnErr result (after ≡ before) → OnErr result (n.running ≡ m.running) → IfErr result IsUnbegun → LeavesLine told first (outer after last) n line j t result
leaves_begin told first before after last s m n asked line j t (Ok x) stands begun old reader count says goes began same running error =
    let was = ready told first (outer before last) s j t begun goes.1.0 stands in
    let end : m.reader.end ≡ t.draft.end = goes.0 ∙ ap (λ (d : LinkDraft). d.end) stands.draft_is in
    let u : Told = with_line t m.reader Began in
    let r = began.0 in
    let at : Begins told m.reader.end m.reader.header r before after = began.2 in
    record {
      t = u;
      hears = record { says = (m.reader, said.Begin); line_is = says_at told first (outer before last) s j t asked line (Ok (m.reader, said.Begin)) stands count says; means = refl };
      stands = record {
        draft_is = reader;
        steps = subst (λ (w : Option (Running _)). StandsBy w u j) (sym began.1) (begun_steps m.reader.header r t j was.idle at.after_);
        met = record {
          drawn = stands.met.drawn;
          met = subst (λ (w : Option (Running _)). MetBy told first.air w after u) (sym began.1)
              (begun_by told first.air before after r t u end was.unmet goes.1.1 was.idle.notes_are was.idle.turns_are (subst (λ (e : LinkEnd). Attaches before after (node_of e) (told r.link)) end at.attached));
        };
      };
    }
leaves_begin told first before after last s m n asked line j t (Err NoMemory) stands begun old reader count says goes began same running error =
    subst (λ (a : Option AirStory). Unmoved told first (outer a last) n j t) (sym same) (unmoved told first (outer before last) s n j j t (ap (λ (d : LinkDraft). d.end) reader ∙ goes.0) (running ∙ old) refl stands)
leaves_begin told first before after last s m n asked line j t (Err (Broken (ByLink link.Failed))) stands begun old reader count says goes began same running error =
    let was = ready told first (outer before last) s j t begun goes.1.0 stands in
    let none = running ∙ old ∙ unbegun s.reader.due s.running begun goes.1.0 in
    let u : Told = with_line t m.reader Began in
    record {
      t = u;
      hears = record { says = (m.reader, said.Begin); line_is = says_at told first (outer before last) s j t asked line (Ok (m.reader, said.Begin)) stands count says; means = refl };
      end_is = sym (ap (λ (d : LinkDraft). d.end) reader);
      breaks = was.idle.notes_are;
      journal = journal_of s.running t j stands.steps;
      met = record {
        drawn = stands.met.drawn;
        met = subst (λ (w : Option (Running _)). MetPartBy told (ByLink link.Failed) first.air w after u) (sym none) (record { began = refl; due_is = goes.1.1; same = same ∙ was.unmet.same });
      };
    }
leaves_begin told first before after last s m n asked line j t (Err (Broken (ByLink link.NoMemory))) stands begun old reader count says goes began same running error = absurd error
leaves_begin told first before after last s m n asked line j t (Err (Broken ByWrite)) stands begun old reader count says goes began same running error = absurd error
leaves_begin told first before after last s m n asked line j t (Err (Refused refusal)) stands begun old reader count says goes began same running error = absurd error
leaves_begin told first before after last s m n asked line j t (Err DrawFault) stands begun old reader count says goes began same running error = absurd error

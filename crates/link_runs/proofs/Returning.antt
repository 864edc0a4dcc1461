-- What the outside had of a whole run, as its end's link went back.
use Rattle.std.proofs.Common.{◌≡◌, ◌≢◌, ℕ, ◌&&◌, not, Bool, true, false, List, [], ◌∷◌, ◌++◌, Option, None, Some, refl, sym, ap, subst, ◌∙◌}
use Rattle.std.specs.Io.KnownBytes.{Appends}
use Rattle.std.proofs.lemmas.Bool.{false≢true}
use Rattle.domain_base.specs.Told.{AirStory, LinkStory, TakesBack}
use Rattle.domain_base.specs.declared.outside.LinkError.TheVariants as link
use Rattle.domain_base.proofs.Stories.{TakesBack-told}
use Rattle.journal_report.proofs.Taken.{none-gone}
use Rattle.run_journal.specs.declared.acts.Entry.{Entry}
use Rattle.run_journal.specs.Report.{lines}
use Rattle.link_steps.specs.Ends.{node_of}
use Rattle.link_steps.specs.declared.ends.LinkEnd.{LinkEnd}
use Rattle.link_lines.specs.Drafts.{is_whole}
use Rattle.link_runs.specs.declared.found.Breach.{Breach}
use Rattle.link_runs.specs.declared.found.Breach.TheVariants.{ByLink, ByWrite}
use Rattle.link_runs.specs.declared.found.LinkFound.{LinkFound}
use Rattle.link_runs.specs.declared.found.LinkFound.TheVariants as found
use Rattle.link_runs.specs.declared.steps.Running.{Running}
use Rattle.link_runs.specs.declared.state.LinkState.{LinkState}
use Rattle.link_runs.specs.Linked.{GaveBack, GivesBack, IsEnded, IsLinked, Meets, Wrote, is_beginning, is_linked}
use Rattle.link_runs.specs.Outer.{AreHeard, StoryPart, story_of}
use Rattle.link_runs.specs.Reading.{Ends, MetAfter, found_short}
use Rattle.link_runs.specs.Standing.{HasLink, MetBy, MetPartBy, Outer}
use Rattle.link_runs.specs.Stepping.{GoesOut, OutBy}
use Rattle.text_lines.specs.Texts.{TellsIn}
use Rattle.text_lines.proofs.Endings.{none_read}
use Rattle.link_runs.specs.Endings.{TellBy}
use Rattle.link_runs.specs.Told.{Began, LastLine, Other, Stepped, Told, Turned, entries_of, nothing_told, script_limits}
use Rattle.link_runs.proofs.Closing.{Consumes-nil}

-- ---- what was written

wrote_by : (found_ : LinkFound) (old new : Option (List ℕ)) (j : List Entry) → OutBy (found_short found_) old new (lines j) → Wrote found_ old new j
wrote_by (found.Broken ByWrite) old new j out = out
wrote_by (found.Broken (ByLink link.Failed)) old new j out = out
wrote_by (found.Broken (ByLink link.NoMemory)) old new j out = out
wrote_by found.Whole old new j out = out
wrote_by (found.Refused number refusal slip) old new j out = out
wrote_by found.NoMemory old new j out = out
wrote_by found.DrawFault old new j out = out
wrote_by found.ReadFault old new j out = out

pub wrote_all : (found_ : LinkFound) (old new : Option (List ℕ)) (before now : ℕ) (j k : List Entry) → j ≡ [] → GoesOut (found_short found_) old new before now j k → Wrote found_ old new k
unfolding lines
wrote_all found_ old new before now j k none goes =
    wrote_by found_ old new k (goes.out old (subst (λ (x : List Entry). Appends old old (lines x)) (sym none) (none-gone old)))

-- ---- the link

-- which link went back, where there is one
abbrev pub Returns : {L : Type 0} → (L → Option LinkStory) → Option (Running L) → Option AirStory → Option AirStory → Type 0
Returns told None before after = after ≡ before
Returns told (Some r) before after = TakesBack before after (told r.link)

one_story : (x y : LinkStory) → Some x ≡ Some y → x ≡ y
one_story x y e = cc e

one_air : (x y : AirStory) → Some x ≡ Some y → x ≡ y
one_air x y e = cc e

-- an end without a link leaves the air
same_air : (first before after : Option AirStory) (start now : AirStory) → before ≡ first → after ≡ before → first ≡ Some start → after ≡ Some now → now ≡ start
same_air first before after start now same kept is there = one_air now start (sym there ∙ kept ∙ same ∙ is)

-- and one that has a link gives it back
gave_back : {L : Type 0} (told : L → Option LinkStory) (found_ : LinkFound) (end : LinkEnd) (r : Running L) (before after : Option AirStory) (start now : AirStory) (t : Told) (story : LinkStory) → HasLink end start before → TakesBack before after (told r.link) → after ≡ Some now → told r.link ≡ Some story → IsEnded found_ end (start.frames (node_of end)) t story → GaveBack found_ end t start now
gave_back told found_ end r before after start now t story has back there tells ended =
    let b = TakesBack-told before now (told r.link) (subst (λ (a : Option AirStory). TakesBack before a (told r.link)) there back) in
    let was : b.0 ≡ has.now = one_air b.0 has.now (sym b.2 ∙ has.is) in
    let tale_ : b.1 ≡ story = one_story b.1 story (sym b.3 ∙ tells) in
    record {
      story = story;
      returned =
          ap (λ (a : AirStory). a.returned) b.4
          ∙ ap (λ (a : AirStory). a.returned ++ b.1 ∷ []) was
          ∙ ap (λ (w : List LinkStory). w ++ b.1 ∷ []) has.returned
          ∙ ap (λ (s : LinkStory). start.returned ++ s ∷ []) tale_;
      others = λ node apart. ap (λ (a : AirStory). a.frames node) b.4 ∙ ap (λ (a : AirStory). a.frames node) was ∙ has.others node apart;
      ended = ended;
    }

-- where every line was done, or nothing of the last one
met_whole : {L : Type 0} (told : L → Option LinkStory) (found_ : LinkFound) (end : LinkEnd) (first before after : Option AirStory) (running : Option (Running L)) (start now : AirStory) (t : Told) → t.draft.end ≡ end → MetBy told first running before t → Returns told running before after → first ≡ Some start → after ≡ Some now
    → ((story : LinkStory) → AreHeard (start.frames (node_of end)) t.turns → story ≡ story_of end (start.frames (node_of end)) t → IsEnded found_ end (start.frames (node_of end)) t story) → GivesBack (is_whole t.draft.due) found_ end t start now
met_whole told found_ end first before after None start now t same met back is there ended =
    subst (λ (b : Bool). GivesBack b found_ end t start now) (sym met.due_is) (same_air first before after start now met.same back is there)
met_whole told found_ end first before after (Some r) start now t same met back is there ended =
    let m = met.1 start is in
    let frames = start.frames (node_of end) in
    let has = subst (λ (e : LinkEnd). HasLink e start before) same m.has in
    let heard = subst (λ (e : LinkEnd). AreHeard (start.frames (node_of e)) t.turns) same m.heard in
    let tells = subst (λ (e : LinkEnd). told r.link ≡ Some (story_of e (start.frames (node_of e)) t)) same m.tells in
    subst (λ (b : Bool). GivesBack b found_ end t start now) (sym met.0)
    (gave_back told found_ end r before after start now t (story_of end frames t) has back there tells (ended (story_of end frames t) heard refl))

not_began : (last : LastLine) → last ≢ Began → not (is_beginning last) ≡ true
not_began Began some = absurd (some refl)
not_began Stepped some = refl
not_began Turned some = refl
not_began Other some = refl

linked_part : (b : Bool) (last : LastLine) → b ≡ true → last ≢ Began → (b && not (is_beginning last)) ≡ true
linked_part b last whole some = ap (λ (x : Bool). x && not (is_beginning last)) whole ∙ not_began last some

unlinked_part : (b : Bool) (last : LastLine) → b ≡ true → last ≡ Began → (b && not (is_beginning last)) ≡ false
unlinked_part b last whole began = ap (λ (x : Bool). x && not (is_beginning last)) whole ∙ ap (λ (x : LastLine). not (is_beginning x)) began

-- or a part of it
met_part : {L : Type 0} (told : L → Option LinkStory) (why : Breach) (end : LinkEnd) (first before after : Option AirStory) (running : Option (Running L)) (start now : AirStory) (t : Told) → t.draft.end ≡ end → MetPartBy told why first running before t → Returns told running before after → first ≡ Some start → after ≡ Some now → GivesBack (is_linked (found.Broken why) t) (found.Broken why) end t start now
met_part told why end first before after None start now t same met back is there =
    subst (λ (b : Bool). GivesBack b (found.Broken why) end t start now) (sym (unlinked_part (is_whole t.draft.due) t.last met.due_is met.began)) (same_air first before after start now met.same back is there)
met_part told why end first before after (Some r) start now t same met back is there =
    let m = met.1.1 start is in
    let has = subst (λ (e : LinkEnd). HasLink e start before) same m.has in
    let part = subst (λ (e : LinkEnd). StoryPart why e (start.frames (node_of e)) t m.story) same m.part in
    subst (λ (b : Bool). GivesBack b (found.Broken why) end t start now) (sym (linked_part (is_whole t.draft.due) t.last met.0 met.1.0))
    (gave_back told (found.Broken why) end r before after start now t m.story has back there m.tells part)

-- by how the reading ended
pub meets : {L : Type 0} (told : L → Option LinkStory) (found_ : LinkFound) (end : LinkEnd) (first now : Outer) (after : Option AirStory) (running : Option (Running L)) (t : Told) → t.draft.end ≡ end → MetAfter found_ told first now running t → Returns told running now.air after → Meets found_ end t first.air after first.last now.last
meets told (found.Broken why) end first now after running t same met back = record {
  drawn = met.drawn;
  linked = λ start ends is there. met_part told why end first.air now.air after running start ends t same met.met back is there;
}
meets told found.Whole end first now after running t same met back = record {
  drawn = met.drawn;
  linked = λ start ends is there. met_whole told found.Whole end first.air now.air after running start ends t same met.met back is there (λ story heard e. (heard, e));
}
meets told (found.Refused number refusal slip) end first now after running t same met back = record {
  drawn = met.drawn;
  linked = λ start ends is there. met_whole told (found.Refused number refusal slip) end first.air now.air after running start ends t same met.met back is there (λ story heard e. (heard, e));
}
meets told found.NoMemory end first now after running t same met back = record {
  drawn = met.drawn;
  linked = λ start ends is there. met_whole told found.NoMemory end first.air now.air after running start ends t same met.met back is there (λ story heard e. (heard, e));
}
meets told found.DrawFault end first now after running t same met back = record {
  drawn = met.drawn;
  linked = λ start ends is there. met_whole told found.DrawFault end first.air now.air after running start ends t same met.met back is there (λ story heard e. (heard, e));
}
meets told found.ReadFault end first now after running t same met back = record {
  drawn = met.drawn;
  linked = λ start ends is there. met_whole told found.ReadFault end first.air now.air after running start ends t same met.met back is there (λ story heard e. (heard, e));
}

-- ---- all of it

pub linked : {L : Type 0} (told : L → Option LinkStory) (end : LinkEnd) (found_ : LinkFound) (first now : Outer) (air : Option AirStory) (s : LinkState L) (left_old left_new out_old out_new : Option (List ℕ)) (before after : ℕ) (j k : List Entry) → j ≡ [] → Ends told end first now s left_old left_new k found_ → GoesOut (found_short found_) out_old out_new before after j k → Returns told s.running now.air air → IsLinked end found_ left_old left_new out_old out_new first.air air first.last now.last k
linked told end found_ first now air s left_old left_new out_old out_new before after j k none ends goes back = record {
  told = ends.closes.t;
  octets = ends.octets;
  ended = ends.ended;
  read = ends.read;
  at_end = ends.at_end;
  tells = ends.closes.tells;
  journal = ends.closes.journal;
  wrote = wrote_all found_ out_old out_new before after j k none goes;
  meets = meets told found_ end first now air s.running ends.closes.t ends.closes.end_is ends.closes.met back;
}

-- ---- by whether there is a link

pub returns_by : {L : Type 0} (told : L → Option LinkStory) (running : Option (Running L)) (before after : Option AirStory) → (running ≡ None → after ≡ before) → ((r : Running L) → running ≡ Some r → TakesBack before after (told r.link)) → Returns told running before after
returns_by told None before after none some = none refl
returns_by told (Some r) before after none some = some r refl

-- ---- memory ran out before the first line

pub linked_none : (end : LinkEnd) (left out : Option (List ℕ)) (air : Option AirStory) (last : Option (List ℕ)) (j : List Entry) → j ≡ [] → IsLinked end found.NoMemory left left out out air air last last j
unfolding lines entries_of TellsIn
linked_none end left out air last j none = record {
  told = nothing_told end;
  octets = [];
  ended = false;
  read = Consumes-nil left;
  at_end = λ e. absurd (false≢true e);
  tells = none_read script_limits (TellBy end (nothing_told end)) refl;
  journal = none;
  wrote = subst (λ (x : List Entry). Appends out out (lines x)) (sym none) (none-gone out);
  meets = record {
    drawn = refl;
    linked = λ start now is there. one_air now start (sym there ∙ is);
  };
}

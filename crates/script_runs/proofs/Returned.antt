-- What the links of a live run were sent and gave, once they are taken back.
use Rattle.std.proofs.Common.{◌≡◌, ℕ, List, [], ◌++◌, length, map, Option, Some, refl, sym, ap, subst, ◌∙◌}
use Rattle.std.proofs.lemmas.List.{append-nil, nil_from_length}
use Rattle.domain_base.specs.declared.names.Node.{Node}
use Rattle.domain_base.specs.Told.{LinkStory, AirStory}
use Rattle.domain_links.specs.declared.breaks.Break.{Break}
use Rattle.domain_links.specs.declared.breaks.Break.TheVariants.{ByLink, ByWrite}
use Rattle.domain_links.specs.NodeOrder.{count, node_at}
use Rattle.domain_links.specs.Attached.{IsBehind, TakenBack}
use Rattle.domain_links.specs.Turns.{Delivery}
use Rattle.domain_links.proofs.Returned.{Tell-ended, len_ended}
use Rattle.run_journal.specs.declared.domain.Domain.{Domain}
use Rattle.run_journal.specs.declared.acts.Entry.{Entry}
use Rattle.script_lines.specs.Script.{Draft, AtVersion, AtHeader, AtNodes, InRound}
use Rattle.frame_script.specs.declared.reader.Mode.TheVariants.{Live}
use Rattle.script_runs.specs.declared.stops.Found.{Found}
use Rattle.script_runs.specs.declared.stops.Found.TheVariants as found
use Rattle.script_runs.specs.declared.stops.Stop.TheVariants as stop
use Rattle.script_runs.specs.Script.{Rounds, no_rounds}
use Rattle.script_runs.specs.Outer.{outer, AllButNew, TellLast, IsLinked, IsLinkedPart, IsUnlinked, IsLinkedAt, IsLinkedPartAt, IsMet, IsMetPart}
use Rattle.script_runs.specs.Stops.{MetBefore}
use Rattle.script_runs.specs.Lives.{itself, AreEnded, AreEndedPart, EndsAll, EndsPart, EndsBy, IsOther, GaveBack, Meets}

-- before the links were taken back the air told this: it had taken back what it had at first, and had for other nodes what it had at
-- first; and so they end
pub record Came (start : AirStory) (air : Option AirStory) (Other : Node → Type 0) (Ends : Type 0) : Type 0 where
  pub mid : AirStory
  pub is : air ≡ Some mid
  pub returned : mid.returned ≡ start.returned
  pub others : (node : Node) → Other node → mid.frames node ≡ start.frames node
  pub ends : Ends

all_ended : {L : Type 0} (told : L → Option LinkStory) (d : Domain) (start now : AirStory) (links : List L) (air : Option AirStory) (last : Option (List ℕ)) (turns : List (List Delivery)) (j : List Entry)
    → IsLinked told d start (outer links air last) turns j → (t : TakenBack told links air now) → Came start air (λ (node : Node). IsBehind (node_at d) (length t.ended) node) (AreEnded d start turns j t.ended)
all_ended told d start now links air last turns j l t = record {
  mid = l.attached.now;
  is = l.attached.is;
  returned = l.attached.returned;
  others = λ node behind. l.attached.others node (subst (λ (n : ℕ). IsBehind (node_at d) n node) (len_ended told links t.ended t.stories) behind);
  ends = record {
    all = len_ended told links t.ended t.stories ∙ l.all;
    heard = l.heard;
    tell = Tell-ended told (node_at d) links t.ended _ _ t.stories l.tell;
  };
}

-- what links told of the last round stands in the stories of those taken back
last_ended : {L : Type 0} (told : L → Option LinkStory) (why : Break) (d : Domain) (links : List L) (ended : List LinkStory) (rounds : Rounds) (j : List Entry) (left : ℕ → List (List ℕ)) → map told links ≡ map (λ (s : LinkStory). Some s) ended → TellLast told why d links rounds j left → TellLast itself why d ended rounds j left
last_ended told why d links ended rounds j left stories part = record {
  late = part.late;
  early = part.early;
  whole = part.whole;
  last = part.last;
  front = part.front;
  rest = part.rest;
  parts = part.parts;
  cause = part.cause;
  tell = Tell-ended told (node_at d) links ended _ _ stories part.tell;
}

part_ended : {L : Type 0} (told : L → Option LinkStory) (why : Break) (d : Domain) (start now : AirStory) (links : List L) (air : Option AirStory) (last : Option (List ℕ)) (rounds : Rounds) (j : List Entry)
    → IsLinkedPart told why d start (outer links air last) rounds j → (t : TakenBack told links air now) → Came start air (λ (node : Node). IsBehind (node_at d) (length t.ended) node) (AreEndedPart why d start rounds j t.ended)
part_ended told why d start now links air last rounds j l t =
    let len = len_ended told links t.ended t.stories in
    record {
      mid = l.attached.now;
      is = l.attached.is;
      returned = l.attached.returned;
      others = λ node behind. l.attached.others node (subst (λ (n : ℕ). IsBehind (node_at d) n node) len behind);
      ends = record {
        all = subst (λ (n : ℕ). AllButNew rounds.last (count d) n) (sym len) l.all;
        heard = l.heard;
        left = l.left;
        kept = l.kept;
        part = last_ended told why d links t.ended rounds j l.left t.stories l.part;
      };
    }

none_ended : {L : Type 0} (told : L → Option LinkStory) (start now : AirStory) (links : List L) (air : Option AirStory) (last : Option (List ℕ)) (turns : List (List Delivery))
    → IsUnlinked start (outer links air last) turns → (t : TakenBack told links air now) → Came start air (λ (node : Node). Unit {0}) ((t.ended ≡ []) × (turns ≡ []))
none_ended told start now links air last turns l t = record {
  mid = start;
  is = l.same;
  returned = refl;
  others = λ node other. refl;
  ends = (nil_from_length t.ended (len_ended told links t.ended t.stories ∙ ap length l.none), l.no_turns);
}

-- by what the lines have said
came_all : {L : Type 0} (told : L → Option LinkStory) (draft : Draft) (start now : AirStory) (links : List L) (air : Option AirStory) (last : Option (List ℕ)) (turns : List (List Delivery)) (j : List Entry)
    → IsLinkedAt told draft start (outer links air last) turns j → (t : TakenBack told links air now) → Came start air (λ (node : Node). IsOther draft (length t.ended) node) (EndsAll draft start turns j t.ended)
came_all told (AtNodes h) start now links air last turns j l t = all_ended told h.network start now links air last turns j l t
came_all told (InRound h n) start now links air last turns j l t = all_ended told h.network start now links air last turns j l t
came_all told AtVersion start now links air last turns j l t = none_ended told start now links air last turns l t
came_all told (AtHeader awaited h) start now links air last turns j l t = none_ended told start now links air last turns l t

came_part : {L : Type 0} (told : L → Option LinkStory) (why : Break) (draft : Draft) (start now : AirStory) (links : List L) (air : Option AirStory) (last : Option (List ℕ)) (rounds : Rounds) (j : List Entry)
    → IsLinkedPartAt told why draft start (outer links air last) rounds j → (t : TakenBack told links air now) → Came start air (λ (node : Node). IsOther draft (length t.ended) node) (EndsPart why draft start rounds j t.ended)
came_part told why (AtNodes h) start now links air last rounds j l t = part_ended told why h.network start now links air last rounds j l t
came_part told why (InRound h n) start now links air last rounds j l t = part_ended told why h.network start now links air last rounds j l t
came_part told why AtVersion start now links air last rounds j l t = absurd l
came_part told why (AtHeader awaited h) start now links air last rounds j l t = absurd l

gave : {L : Type 0} (told : L → Option LinkStory) (found_ : Found) (draft : Draft) (start now : AirStory) (links : List L) (air : Option AirStory) (rounds : Rounds) (j : List Entry)
    → (t : TakenBack told links air now) → Came start air (λ (node : Node). IsOther draft (length t.ended) node) (EndsBy found_ draft start rounds j t.ended) → GaveBack found_ draft rounds j start now
gave told found_ draft start now links air rounds j t c =
    let same : t.was ≡ c.mid = cc (t.is, c.is) in
    record {
      ended = t.ended;
      returned = t.returned ∙ ap (λ (s : AirStory). s.returned ++ t.ended) same ∙ ap (λ (w : List LinkStory). w ++ t.ended) c.returned;
      others = λ node other. t.frames node ∙ ap (λ (s : AirStory). s.frames node) same ∙ c.others node other;
      ends = c.ends;
    }

-- links that are taken back, where the air tells at the end
abbrev pub AreBack : {L : Type 0} → (L → Option LinkStory) → List L → Option AirStory → Option AirStory → Type 0
AreBack told links mid new = (now : AirStory) → new ≡ Some now → TakenBack told links mid now

whole_met : {L : Type 0} (told : L → Option LinkStory) (draft : Draft) (rounds : Rounds) (links : List L) (old mid new : Option AirStory) (last_old last_new : Option (List ℕ)) (j : List Entry)
    → IsMet told (outer [] old last_old) (outer links mid last_new) Live draft rounds j → (back : AreBack told links mid new) → (start now : AirStory) → old ≡ Some start → (e : new ≡ Some now)
    → Came start mid (λ (node : Node). IsOther draft (length (back now e).ended) node) (EndsAll draft start rounds.turns j (back now e).ended)
whole_met told draft rounds links old mid new last_old last_new j m back start now is e = came_all told draft start now links mid last_new rounds.turns j (m.linked refl start is) (back now e)

part_met : {L : Type 0} (told : L → Option LinkStory) (why : Break) (draft : Draft) (rounds : Rounds) (links : List L) (old mid new : Option AirStory) (last_old last_new : Option (List ℕ)) (j : List Entry)
    → IsMetPart told why (outer [] old last_old) (outer links mid last_new) Live draft rounds j → (back : AreBack told links mid new) → (start now : AirStory) → old ≡ Some start → (e : new ≡ Some now)
    → Came start mid (λ (node : Node). IsOther draft (length (back now e).ended) node) (EndsPart why draft start rounds j (back now e).ended)
part_met told why draft rounds links old mid new last_old last_new j m back start now is e = came_part told why draft start now links mid last_new rounds j (m.linked refl start is) (back now e)

-- however the reading ended
pub meets : {L : Type 0} (told : L → Option LinkStory) (found_ : Found) (draft : Draft) (rounds : Rounds) (links : List L) (old mid new : Option AirStory) (last_old last_new : Option (List ℕ)) (j : List Entry)
    → MetBefore found_ told (outer [] old last_old) (outer links mid last_new) Live draft rounds j → AreBack told links mid new → Meets found_ draft rounds old new last_old last_new j
meets told found.Whole draft rounds links old mid new last_old last_new j m back = record {
  drawn = m.drawn;
  linked = λ start now is e. gave told found.Whole draft start now links mid rounds j (back now e) (whole_met told draft rounds links old mid new last_old last_new j m back start now is e);
}
meets told (found.Unended number refusal) draft rounds links old mid new last_old last_new j m back = record {
  drawn = m.drawn;
  linked = λ start now is e. gave told (found.Unended number refusal) draft start now links mid rounds j (back now e) (whole_met told draft rounds links old mid new last_old last_new j m back start now is e);
}
meets told found.ReadFault draft rounds links old mid new last_old last_new j m back = record {
  drawn = m.drawn;
  linked = λ start now is e. gave told found.ReadFault draft start now links mid rounds j (back now e) (whole_met told draft rounds links old mid new last_old last_new j m back start now is e);
}
meets told (found.Stopped (stop.Refused number refusal mistake)) draft rounds links old mid new last_old last_new j m back = record {
  drawn = m.drawn;
  linked = λ start now is e. gave told (found.Stopped (stop.Refused number refusal mistake)) draft start now links mid rounds j (back now e) (whole_met told draft rounds links old mid new last_old last_new j m back start now is e);
}
meets told (found.Stopped stop.NoMemory) draft rounds links old mid new last_old last_new j m back = record {
  drawn = m.drawn;
  linked = λ start now is e. gave told (found.Stopped stop.NoMemory) draft start now links mid rounds j (back now e) (whole_met told draft rounds links old mid new last_old last_new j m back start now is e);
}
meets told (found.Stopped stop.DrawFault) draft rounds links old mid new last_old last_new j m back = record {
  drawn = m.drawn;
  linked = λ start now is e. gave told (found.Stopped stop.DrawFault) draft start now links mid rounds j (back now e) (whole_met told draft rounds links old mid new last_old last_new j m back start now is e);
}
meets told (found.Stopped (stop.Broken error)) draft rounds links old mid new last_old last_new j m back = record {
  drawn = m.drawn;
  linked = λ start now is e. gave told (found.Stopped (stop.Broken error)) draft start now links mid rounds j (back now e) (part_met told (ByLink error) draft rounds links old mid new last_old last_new j m back start now is e);
}
meets told (found.Stopped stop.Unwritten) draft rounds links old mid new last_old last_new j m back = record {
  drawn = m.drawn;
  linked = λ start now is e. gave told (found.Stopped stop.Unwritten) draft start now links mid rounds j (back now e) (part_met told ByWrite draft rounds links old mid new last_old last_new j m back start now is e);
}

-- nothing was read, and nothing asked for
pub meets_nothing : (air : Option AirStory) (last : Option (List ℕ)) (j : List Entry) → Meets (found.Stopped stop.NoMemory) AtVersion no_rounds air air last last j
meets_nothing air last j = record {
  drawn = refl;
  linked = λ start now is e.
      let same : start ≡ now = cc (is, e) in
      record { ended = []; returned = ap (λ (s : AirStory). s.returned) (sym same) ∙ sym (append-nil start.returned); others = λ node other. ap (λ (s : AirStory). s.frames node) (sym same); ends = (refl, refl) };
}

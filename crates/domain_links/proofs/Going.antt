-- Frames that go out by links, one after another.
use Rattle.std.proofs.Common.{◌≡◌, ◌≢◌, ℕ, zero, suc, add-one, ◌+◌, ◌-◌, ◌<◌, ◌≤◌, ◌==◌, ◌⊎◌, List, [], ◌∷◌, ◌++◌, length, take, drop, Option, Some, Result, Ok, Err, refl, sym, ap, subst, ◌∙◌, append_assoc, arith, get_or, set, map, true, false, inl, inr}
use Rattle.std.proofs.Math.Seq.{split_at}
use Rattle.std.proofs.lemmas.Grind.{common_steps, flat_map-append}
use Rattle.std.proofs.lemmas.List.{append-nil, map-append, take_more, get_or-set_same, get_or-set_other, flat_map_more}
use Rattle.std.proofs.lemmas.Bool.Decides.{eqb_tells}
use Rattle.std.specs.Prelude.{MatchResult, OnOk}
use Rattle.domain_base.specs.declared.names.Node.{Node}
use Rattle.domain_base.specs.declared.names.Node.TheVariants.{Sta}
use Rattle.domain_base.specs.declared.radio.SentFrame.{SentFrame}
use Rattle.domain_base.specs.Told.{LinkStory, Sends}
use Rattle.domain_base.proofs.Stories.{Sends-told}
use Rattle.run_journal.specs.declared.domain.Domain.{Domain}
use Rattle.run_journal.specs.declared.acts.Entry.{Entry}
use Rattle.domain_links.specs.NodeOrder.{stations, place_of}
use Rattle.domain_links.specs.Sends.{Send, SendsFront, after_frames, frames_to, frame_sent, frames_out, sends, sends_of, sends_by, of_place, sent_by}
use Rattle.domain_links.specs.Telling.{Tell, TellFront, story_at, HasFailed, SameFaults}

pub after_two : (story : LinkStory) (xs ys : List SentFrame) → after_frames (after_frames story xs) ys ≡ after_frames story (xs ++ ys)
after_two story xs ys = ap (λ (w : List SentFrame). record story { sent = w }) (append_assoc story.sent xs ys)

pub after_none : (story : LinkStory) → after_frames story [] ≡ story
after_none story = ap (λ (w : List SentFrame). record story { sent = w }) (append-nil story.sent)

went : {T E : Type 0} (story now : LinkStory) (new : Option LinkStory) (frames : List SentFrame) (result : Result T E) → new ≡ Some now → MatchResult result (λ _. now ≡ after_frames story frames) (λ _. now ≡ story) → MatchResult result (λ _. new ≡ Some (after_frames story frames)) (λ _. new ≡ Some story)
went story now new frames (Ok x) e h = e ∙ ap Some h
went story now new frames (Err x) e h = e ∙ ap Some h

-- one send of a link that tells
pub sends_one : {T E : Type 0} (story : LinkStory) (old new : Option LinkStory) (to : Node) (octets : List ℕ) (result : Result T E) → old ≡ Some story → Sends old new to octets result → MatchResult result (λ _. new ≡ Some (after_frames story (frames_to (to ∷ []) octets))) (λ _. new ≡ Some story)
sends_one story old new to octets result e h =
    let t = Sends-told story new to octets result (subst (λ (o : Option LinkStory). Sends o new to octets result) e h) in
    went story t.0 new (frames_to (to ∷ []) octets) result t.1 t.2

stations_more : (n : ℕ) → stations (n + 1) ≡ stations n ++ Sta n ∷ []
unfolding stations
stations_more n = rw add-one refl

-- the first stations are a front of more
front_by : (n k : ℕ) → (rest : List Node) × (stations n ++ rest ≡ stations (n + k))
front_by n zero = ([], append-nil (stations n) ∙ ap stations (omega arith))
front_by n (suc k) =
    let more = front_by n k in
    let last : List Node = Sta (n + k) ∷ [] in
    let next : n + k + 1 ≡ n + suc k = omega arith in
    (more.0 ++ last, sym (append_assoc (stations n) more.0 last) ∙ ap (λ (w : List Node). w ++ last) more.1 ∙ sym (stations_more (n + k)) ∙ ap stations next)

pub stations_front : (n m : ℕ) → n ≤ m → (rest : List Node) × (stations n ++ rest ≡ stations m)
stations_front n m h =
    let f = front_by n (m - n) in
    let whole : n + (m - n) ≡ m = omega (arith, h) in
    (f.0, f.1 ∙ ap stations whole)

-- behind the first stations the next one stands in more
pub stations_next : (n m : ℕ) → n < m → (rest : List Node) × (stations n ++ Sta n ∷ rest ≡ stations m)
stations_next n m h =
    let f = stations_front (n + 1) m (omega (arith, h)) in
    (f.0, sym (append_assoc (stations n) (Sta n ∷ []) f.0) ∙ ap (λ (w : List Node). w ++ f.0) (sym (stations_more n)) ∙ f.1)

pub frames_two : (xs ys : List Node) (octets : List ℕ) → frames_to (xs ++ ys) octets ≡ frames_to xs octets ++ frames_to ys octets
frames_two xs ys octets = map-append _ xs ys

-- one more station
pub all_more : (story : LinkStory) (n : ℕ) (octets : List ℕ) → after_frames (after_frames story (frames_to (stations n) octets)) (frames_to (Sta n ∷ []) octets) ≡ after_frames story (frames_to (stations (n + 1)) octets)
all_more story n octets =
    after_two story (frames_to (stations n) octets) (frames_to (Sta n ∷ []) octets)
    ∙ ap (after_frames story) (sym (frames_two (stations n) (Sta n ∷ []) octets) ∙ ap (λ (w : List Node). frames_to w octets) (sym (stations_more n)))

pub all_none : (story : LinkStory) (octets : List ℕ) → after_frames story (frames_to (stations 0) octets) ≡ story
unfolding stations
all_none story octets = after_none story

-- a list with an item has one
pub has_item : {A : Type 0} (x : A) (xs : List A) → x ∷ xs ≢ []
has_item x xs e = cc

-- what one place sent among more
pub sent_by-more : (i : ℕ) (before more : List Send) → sent_by i (before ++ more) ≡ sent_by i before ++ sent_by i more
sent_by-more i before more = flat_map-append (of_place i) before more

of_own : (p : ℕ) (f : SentFrame) → of_place p (record { by = p; frame = f }) ≡ f ∷ []
of_own p f = grind (arith, common_steps)

of_other : (i p : ℕ) (f : SentFrame) → i ≢ p → of_place i (record { by = p; frame = f }) ≡ []
of_other i p f apart = grind (arith, common_steps)

pub sent_by-own : (p : ℕ) (fs : List SentFrame) → sent_by p (sends_by p fs) ≡ fs
sent_by-own p [] = refl
sent_by-own p (f ∷ fs) = ap (λ (w : List SentFrame). w ++ sent_by p (sends_by p fs)) (of_own p f) ∙ ap (λ (w : List SentFrame). f ∷ w) (sent_by-own p fs)

pub sent_by-other : (i p : ℕ) (fs : List SentFrame) → i ≢ p → sent_by i (sends_by p fs) ≡ []
sent_by-other i p [] apart = refl
sent_by-other i p (f ∷ fs) apart = ap (λ (w : List SentFrame). w ++ sent_by i (sends_by p fs)) (of_other i p f apart) ∙ sent_by-other i p fs apart

story_own : (nodes : ℕ → Node) (left : ℕ → List (List ℕ)) (before : List Send) (p : ℕ) (fs : List SentFrame) → after_frames (story_at nodes left before p) fs ≡ story_at nodes left (before ++ sends_by p fs) p
story_own nodes left before p fs = ap (λ (w : List SentFrame). record (story_at nodes left before p) { sent = w }) (ap (λ (w : List SentFrame). sent_by p before ++ w) (sym (sent_by-own p fs)) ∙ sym (sent_by-more p before (sends_by p fs)))

story_other : (nodes : ℕ → Node) (left : ℕ → List (List ℕ)) (before : List Send) (i p : ℕ) (fs : List SentFrame) → i ≢ p → story_at nodes left before i ≡ story_at nodes left (before ++ sends_by p fs) i
story_other nodes left before i p fs apart = ap (λ (w : List SentFrame). record (story_at nodes left before i) { sent = w }) (sym (append-nil (sent_by i before)) ∙ ap (λ (w : List SentFrame). sent_by i before ++ w) (sym (sent_by-other i p fs apart)) ∙ sym (sent_by-more i before (sends_by p fs)))

pub some_sends : (p : ℕ) (fs : List SentFrame) → fs ≢ [] → sends_by p fs ≢ []
some_sends p [] some e = some refl
some_sends p (f ∷ fs) some e = has_item {A = Send} (record { by = p; frame = f }) (sends_by p fs) e

pub some_with : (xs ys : List Send) → xs ≢ [] → xs ++ ys ≢ []
some_with [] ys some e = some refl
some_with (x ∷ xs) ys some e = has_item x (xs ++ ys) e

-- the link at a place sent more, and the others are as they were
pub Tell-set : {L : Type 0} (told : L → Option LinkStory) (nodes : ℕ → Node) (links : List L) (left : ℕ → List (List ℕ)) (before : List Send) (p : ℕ) (link : L) (fs : List SentFrame) → Tell told nodes links left before → told link ≡ Some (after_frames (story_at nodes left before p) fs) → Tell told nodes (set links p link) left (before ++ sends_by p fs)
Tell-set told nodes links left before p link fs tell e = record {
  each = λ i l within.
      let inside : i < length links = grind (arith, common_steps) in
      let cases : ((i == p) ≡ true) × (i ≡ p) ⊎ ((i == p) ≡ false) × (i ≢ p) → told (get_or (set links p link) i l) ≡ Some (story_at nodes left (before ++ sends_by p fs) i) =
      elim [
        | inl same ↦ rw same.1 (ap told (get_or-set_same links p link l (subst (λ (n : ℕ). n < length links) same.1 inside)) ∙ e ∙ ap Some (story_own nodes left before p fs))
        | inr apart ↦ ap told (get_or-set_other links p i link l apart.1) ∙ tell.each i l inside ∙ ap Some (story_other nodes left before i p fs apart.1)
      ] in cases (eqb_tells i p);
}

-- an entry whose node has no link sends nothing
pub Tell-past : {L : Type 0} (told : L → Option LinkStory) (nodes : ℕ → Node) (links : List L) (left : ℕ → List (List ℕ)) (before : List Send) (p : ℕ) (fs : List SentFrame) → (p < length links → ⊥) → Tell told nodes links left before → Tell told nodes links left (before ++ sends_by p fs)
Tell-past told nodes links left before p fs past tell = record { each = λ i l within. tell.each i l within ∙ ap Some (story_other nodes left before i p fs (λ e. past (subst (λ (n : ℕ). n < length links) e within))) }

pub Tell-same : {L : Type 0} (told : L → Option LinkStory) (nodes : ℕ → Node) (links : List L) (left : ℕ → List (List ℕ)) (before after : List Send) → before ≡ after → Tell told nodes links left before → Tell told nodes links left after
Tell-same told nodes links left before after e tell = record { each = λ i l within. tell.each i l within ∙ ap (λ (w : List Send). Some (story_at nodes left w i)) e }

-- what goes out for an entry goes out by its node's link
pub TellFront-set : {L T E : Type 0} (told : L → Option LinkStory) (nodes : ℕ → Node) (links : List L) (left : ℕ → List (List ℕ)) (before : List Send) (p : ℕ) (link : L) (fs : List SentFrame) (result : Result T E) → Tell told nodes links left before → SendsFront (story_at nodes left before p) (told link) fs result → TellFront told nodes (set links p link) left before (sends_by p fs) result
TellFront-set told nodes links left before p link fs (Ok x) tell e = Tell-set told nodes links left before p link fs tell e
TellFront-set told nodes links left before p link fs (Err x) tell e = (
  sends_by p e.0,
  sends_by p e.1,
  sym (map-append _ e.0 e.1) ∙ ap (sends_by p) e.2,
  some_sends p e.1 e.3,
  Tell-set told nodes links left before p link e.0 tell e.4,
)

-- one send by the link at a place
pub sends_to : {L T E : Type 0} (told : L → Option LinkStory) (nodes : ℕ → Node) (links : List L) (left : ℕ → List (List ℕ)) (before : List Send) (p : ℕ) (link : L) (old : Option LinkStory) (to : Node) (octets : List ℕ) (result : Result T E) → Tell told nodes links left before → old ≡ Some (story_at nodes left before p)
    → Sends old (told link) to octets result → TellFront told nodes (set links p link) left before (sends_by p (frames_to (to ∷ []) octets)) result
sends_to {L} {T} {E} told nodes links left before p link old to octets (Ok x) tell e h =
    Tell-set told nodes links left before p link (frames_to (to ∷ []) octets) tell (sends_one {T = T} {E = E} (story_at nodes left before p) old (told link) to octets (Ok x) e h)
sends_to {L} {T} {E} told nodes links left before p link old to octets (Err x) tell e h = (
  [],
  sends_by p (frames_to (to ∷ []) octets),
  refl,
  has_item {A = Send} (record { by = p; frame = record { to = to; octets = octets } }) [],
  Tell-set told nodes links left before p link [] tell (sends_one {T = T} {E = E} (story_at nodes left before p) old (told link) to octets (Err x) e h ∙ ap Some (sym (after_none (story_at nodes left before p)))),
)

-- what goes out for an entry, by its node's place and the frame that it sent
pub sends_as : (d : Domain) (entry : Entry) (frame : Option (List ℕ)) (p : ℕ) → p ≡ place_of d entry.node → frame_sent entry.act ≡ frame → sends_by p (frames_out d frame) ≡ sends_of d entry
sends_as d entry frame p e h = ap (λ (n : ℕ). sends_by n (frames_out d frame)) e ∙ ap (λ (o : Option (List ℕ)). sends_by (place_of d entry.node) (frames_out d o)) (sym h)

-- the sends of a journal, cut at an entry
pub sends-more : (d : Domain) (before : List Send) (es : List Entry) (i : ℕ) (e : Entry) → i < length es → (before ++ sends d (take i es)) ++ sends_of d (get_or es i e) ≡ before ++ sends d (take (i + 1) es)
sends-more d before es i e within = rw (take_more es i e within) (flat_map_more (sends_of d) before (take i es) (get_or es i e))

pub sends-cut : (d : Domain) (es : List Entry) (i : ℕ) (e : Entry) → i < length es → sends d (take i es) ++ (sends_of d (get_or es i e) ++ sends d (drop (suc i) es)) ≡ sends d es
sends-cut d es i e within = sym (ap (sends d) (split_at es i e within) ∙ flat_map-append (sends_of d) (take i es) (get_or es i e ∷ drop (suc i) es))

pub sends-two : (d : Domain) (before news after : List Entry) → after ≡ before ++ news → sends d before ++ sends d news ≡ sends d after
sends-two d before news after e = sym (ap (sends d) e ∙ flat_map-append (sends_of d) before news)

pub front_more : (a front rest b c all : List Send) → front ++ rest ≡ b → a ++ (b ++ c) ≡ all → (a ++ front) ++ (rest ++ c) ≡ all
front_more a front rest b c all e h =
    append_assoc a front (rest ++ c) ∙ ap (λ (w : List Send). a ++ w) (sym (append_assoc front rest c) ∙ ap (λ (w : List Send). w ++ c) e) ∙ h

-- ---- counts of faults

map_set : {A B : Type 0} (f : A → B) (xs : List A) (p : ℕ) (x y : A) → p < length xs → f x ≡ f (get_or xs p y) → map f (set xs p x) ≡ map f xs
map_set f [] p x y h e = refl
map_set f (a ∷ xs) zero x y h e = ap (λ (w : _). w ∷ map f xs) e
map_set f (a ∷ xs) (suc p) x y h e = ap (λ (w : _). f a ∷ w) (map_set f xs p x y (omega (arith, h)) e)

-- a link that has not failed stands where it stood
pub SameFaults-set : {L : Type 0} (faults : L → ℕ) (links : List L) (p : ℕ) (old link : L) → p < length links → old ≡ get_or links p old → faults link ≡ faults old → SameFaults faults links (set links p link)
SameFaults-set faults links p old link within is e = map_set faults links p link old within (e ∙ ap faults is)

-- one that has stands among the others
pub HasFailed-set : {L : Type 0} (faults : L → ℕ) (links : List L) (p : ℕ) (link : L) → p < length links → 0 < faults link → HasFailed faults (set links p link)
HasFailed-set faults links p link within h = record {
  place = p;
  within = grind (arith, common_steps);
  failed = λ l. rw (get_or-set_same links p link l within) h;
}

-- so after a call that left its count
pub SameFaults-call : {L T E : Type 0} (faults : L → ℕ) (links : List L) (p : ℕ) (old link : L) (result : Result T E) → p < length links → old ≡ get_or links p old → OnOk result (faults link ≡ faults old) → OnOk result (SameFaults faults links (set links p link))
SameFaults-call faults links p old link (Ok x) within is e = SameFaults-set faults links p old link within is e
SameFaults-call faults links p old link (Err x) within is e = tt

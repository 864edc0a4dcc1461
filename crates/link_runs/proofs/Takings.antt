-- What an end takes of its link, one datagram after another.
use Rattle.std.proofs.Common.{◌≡◌, ◌≢◌, ℕ, zero, suc, ◌≤◌, ◌+◌, ◌-◌, inl, inr, List, [], ◌∷◌, ◌++◌, length, take, drop, Option, None, Some, Ok, Err, refl, sym, ap, subst, ◌∙◌, append_assoc, arith}
use Rattle.std.proofs.lemmas.List.{append-nil, map-append, length-append, drop-drop}
use Rattle.std.proofs.Math.Seq.{take-add}
use Rattle.domain_base.specs.Told.{Gives, GivesFirst, LinkStory}
use Rattle.domain_base.specs.declared.outside.Failed.{Failed}
use Rattle.domain_base.specs.declared.outside.LinkError.{LinkError}
use Rattle.domain_base.specs.declared.outside.LinkError.TheVariants as link
use Rattle.domain_base.proofs.Stories.{Gives-told}
use Rattle.run_journal.specs.Limits.{most_octets}
use Rattle.run_journal.specs.declared.acts.Entry.{Entry}
use Rattle.holder_link.specs.declared.ends.Ends.{Ends}
use Rattle.holder_link.specs.Between.{state_of_ends}
use Rattle.link_steps.specs.declared.ends.LinkEnd.{LinkEnd}
use Rattle.link_steps.specs.declared.steps.Step.{Step}
use Rattle.link_lines.specs.declared.draft.LinkHeader.{LinkHeader}
use Rattle.link_runs.specs.declared.found.Breach.{Breach}
use Rattle.link_runs.specs.declared.found.Breach.TheVariants.{ByLink, ByWrite}
use Rattle.link_runs.specs.declared.found.Halt.{Halt}
use Rattle.link_runs.specs.declared.found.Halt.TheVariants as halt
use Rattle.link_runs.specs.declared.steps.Running.{Running}
use Rattle.link_runs.specs.Outer.{IsDueToSend, IsLost, IsUnsent, cut, frames_sent, tale}
use Rattle.link_runs.specs.Stepping.{DidStep, IsAfter, OnWrite, StaysTold, Steps, Takes, TalePart, TaleUnsent, TookAll, TookPart, breach_of}
use Rattle.link_runs.specs.Told.{AreTaken, Note, comes_to}
use Rattle.link_runs.proofs.Notes.{after_step, end_coming, is_noted, noted_as}

pub has_item : {A : Type 0} (x : A) (xs : List A) → x ∷ xs ≢ []
has_item x xs e = cc

-- ---- a poll

-- what a poll gave, of what was left: none, or the first, cut
pub record Polled {L : Type 0} (told : L → Option LinkStory) (end : LinkEnd) (r : Running L) (notes : List Note) (left : List (List ℕ)) (octets : List ℕ) : Type 0 where
  pub first : octets ∷ [] ≡ cut (take 1 left)
  pub tells : told r.link ≡ Some (tale end notes (drop 1 left))

first_cut : (end : LinkEnd) (notes : List Note) (left : List (List ℕ)) (now : LinkStory) (size : ℕ) (buf : List ℕ) → GivesFirst (tale end notes left) now size buf → length buf ≡ most_octets → take size buf ∷ [] ≡ cut (take 1 left)
first_cut end notes left now size buf h room =
    ap (λ (w : List ℕ). w ∷ []) (h.octets ∙ ap (λ (n : ℕ). take n h.frame) room)
    ∙ sym (ap (λ (s : LinkStory). cut (take 1 s.left)) h.first)

first_left : (end : LinkEnd) (notes : List Note) (left : List (List ℕ)) (now : LinkStory) (size : ℕ) (buf : List ℕ) → GivesFirst (tale end notes left) now size buf → now ≡ tale end notes (drop 1 left)
first_left end notes left now size buf h = sym (ap (λ (s : LinkStory). record s { left = drop 1 s.left }) h.first)

-- a datagram came
pub polled_some : {L : Type 0} (told : L → Option LinkStory) (end : LinkEnd) (old : Option LinkStory) (r : Running L) (notes : List Note) (left : List (List ℕ)) (given : Option ℕ) (size : ℕ) (buf : List ℕ) → given ≡ Some size → Gives {E = Failed} old (told r.link) (Ok given) buf → length buf ≡ most_octets → old ≡ Some (tale end notes left) → Polled told end r notes left (take size buf)
polled_some told end old r notes left given size buf came gives room is =
    let g = subst (λ (x : Option ℕ). Gives {E = Failed} (Some (tale end notes left)) (told r.link) (Ok x) buf) came (subst (λ (o : Option LinkStory). Gives {E = Failed} o (told r.link) (Ok given) buf) is gives) in
    let t = Gives-told {E = Failed} (tale end notes left) (told r.link) (Ok (Some size)) buf g in
    record {
      first = first_cut end notes left t.0 size buf t.2 room;
      tells = t.1 ∙ ap Some (first_left end notes left t.0 size buf t.2);
    }

-- none came
pub polled_none : {L : Type 0} (told : L → Option LinkStory) (end : LinkEnd) (old : Option LinkStory) (l : L) (notes : List Note) (left : List (List ℕ)) (given : Option ℕ) (buf : List ℕ) → given ≡ None → Gives {E = Failed} old (told l) (Ok given) buf → old ≡ Some (tale end notes left) → (left ≡ []) × (told l ≡ Some (tale end notes left))
polled_none told end old l notes left given buf came gives is =
    let g = subst (λ (x : Option ℕ). Gives {E = Failed} (Some (tale end notes left)) (told l) (Ok x) buf) came (subst (λ (o : Option LinkStory). Gives {E = Failed} o (told l) (Ok given) buf) is gives) in
    let t = Gives-told {E = Failed} (tale end notes left) (told l) (Ok None) buf g in
    (t.2.none, t.1 ∙ ap Some t.2.same)

-- it failed
pub polled_err : {L : Type 0} (told : L → Option LinkStory) (end : LinkEnd) (old : Option LinkStory) (l : L) (notes : List Note) (left : List (List ℕ)) (error : Failed) (buf : List ℕ) → Gives {E = Failed} old (told l) (Err error) buf → old ≡ Some (tale end notes left) → told l ≡ Some (tale end notes left)
polled_err told end old l notes left error buf gives is =
    let t = Gives-told {E = Failed} (tale end notes left) (told l) (Err error) buf (subst (λ (o : Option LinkStory). Gives {E = Failed} o (told l) (Err error) buf) is gives) in
    t.1 ∙ ap Some t.2

-- ---- one datagram

none_lost : (error : Breach) → IsLost error 0
none_lost (ByLink link.Failed) = refl
none_lost (ByLink link.NoMemory) = omega arith
none_lost ByWrite = refl

-- the end stands as it did, with a link that was polled
same_end : {L : Type 0} (h : LinkHeader) (old mid : Running L) (notes : List Note) (j : List Entry) → mid.ends ≡ old.ends → IsAfter h old notes j → IsAfter h mid notes j
same_end h old mid notes j same stands = record {
  both = ap (λ (e : Ends). state_of_ends e) same ∙ stands.both;
  one = subst (λ (e : Ends). length e.holders.ids ≡ 1) (sym same) stands.one;
  journal = stands.journal;
}

-- nothing was taken
pub takes_none : {L V : Type 0} (told : L → Option LinkStory) (end : LinkEnd) (h : LinkHeader) (old new : Running L) (notes : List Note) (j : List Entry) (x : V) → new.ends ≡ old.ends → IsAfter h old notes j → ((left : List (List ℕ)) → told old.link ≡ Some (tale end notes left) → (left ≡ []) × (told new.link ≡ Some (tale end notes left))) → Takes {L = L} {T = V} told end h 1 old new notes j (Ok x)
unfolding AreTaken
takes_none told end h old new notes j x same stands none = record {
  given = [];
  few = omega arith;
  some = tt;
  notes = notes;
  taken = refl;
  after_ = same_end h old new notes j same stands;
  tells = λ left tell.
      let n = none left tell in
      record {
        all_of = sym (ap (λ (w : List (List ℕ)). cut (take 1 w)) n.0);
        tells = n.1 ∙ ap (λ (w : List (List ℕ)). Some (tale end notes w)) (n.0 ∙ sym (ap (λ (w : List (List ℕ)). drop 1 w) n.0));
      };
}

-- the link failed
pub takes_fault : {L V : Type 0} (told : L → Option LinkStory) (end : LinkEnd) (h : LinkHeader) (old new : Running L) (notes : List Note) (j : List Entry) → new.ends ≡ old.ends → IsAfter h old notes j → ((left : List (List ℕ)) → told old.link ≡ Some (tale end notes left) → told new.link ≡ Some (tale end notes left)) → Takes {L = L} {T = V} told end h 1 old new notes j (Err (ByLink link.Failed))
unfolding AreTaken
takes_fault told end h old new notes j same stands kept = record {
  given = [];
  few = omega arith;
  some = tt;
  notes = notes;
  taken = refl;
  after_ = same_end h old new notes j same stands;
  tells = λ left tell. record { rest = cut (take 1 left); front = refl; lost = 0; few_lost = refl; tells = inl (kept left tell) };
}

-- a datagram that was taken
record TookOne {L : Type 0} (told : L → Option LinkStory) (end : LinkEnd) (h : LinkHeader) (mid new : Running L) (octets : List ℕ) (before notes : List Note) (s : Step) (k : List Entry) : Type 0 where
  notes_are : notes ≡ noted_as None s ∷ before
  taken : AreTaken h end (octets ∷ []) before notes
  after_ : IsAfter h new notes k

took_one : {L : Type 0} (told : L → Option LinkStory) (end : LinkEnd) (h : LinkHeader) (mid new : Running L) (octets : List ℕ) (before : List Note) (j k : List Entry) (s : Step) → IsAfter h mid before j → DidStep end None (comes_to end octets) mid new j k s → TookOne told end h mid new octets before (noted_as None s ∷ before) s k
unfolding AreTaken
took_one told end h mid new octets before j k s stands did = record {
  notes_are = refl;
  taken = (noted_as None s ∷ before, (is_noted h None (comes_to end octets) before _ _ s stands.both did.happens, refl));
  after_ = after_step h end None (comes_to end octets) mid new before j k s stands did (end_coming end octets);
}

-- and answered
pub takes_ok : {L V : Type 0} (told : L → Option LinkStory) (end : LinkEnd) (h : LinkHeader) (old mid new : Running L) (octets : List ℕ) (before : List Note) (j k : List Entry) (x : Unit {0}) (y : V) → mid.ends ≡ old.ends → IsAfter h old before j → ((left : List (List ℕ)) → told old.link ≡ Some (tale end before left) → Polled told end mid before left octets) → Steps {L = L} {T = Unit {0}} told end None (comes_to end octets) mid new j k (Ok x) → Takes {L = L} {T = V} told end h 1 old new before k (Ok y)
unfolding frames_sent
takes_ok told end h old mid new octets before j k x y same stands polled step =
    let t = took_one told end h mid new octets before j k step.0 (same_end h old mid before j same stands) step.1.0 in
    record {
      given = octets ∷ [];
      few = omega arith;
      some = tt;
      notes = noted_as None step.0 ∷ before;
      taken = t.taken;
      after_ = t.after_;
      tells = λ left tell.
          let p = polled left tell in
          record { all_of = p.first; tells = step.1.1 (tale end before (drop 1 left)) p.tells };
    }

-- its line or its datagram did not go out
unsent_one : (why : Breach) (end : LinkEnd) (before : List Note) (s : Step) → IsDueToSend why s → IsUnsent why end (noted_as None s ∷ before) (frames_sent end before)
unsent_one why end before s due = record { note = noted_as None s; before = before; notes_are = refl; sent_are = refl; due = due }

unsent_tale : {L : Type 0} (told : L → Option LinkStory) (why : Breach) (end : LinkEnd) (before : List Note) (s : Step) (left : List (List ℕ)) (mid new : Option LinkStory) → IsDueToSend why s → StaysTold mid new → mid ≡ Some (tale end before left) → TaleUnsent why end (noted_as None s ∷ before) left new
unsent_tale told why end before s left mid new due same tell = record { story = tale end before left; now_is = same (tale end before left) tell; node_is = refl; unsent = unsent_one why end before s due; left_is = refl }

pub takes_unwritten : {L V : Type 0} (told : L → Option LinkStory) (end : LinkEnd) (h : LinkHeader) (old mid new : Running L) (octets : List ℕ) (before : List Note) (j k : List Entry) → mid.ends ≡ old.ends → IsAfter h old before j → ((left : List (List ℕ)) → told old.link ≡ Some (tale end before left) → Polled told end mid before left octets) → Steps {L = L} {T = Unit {0}} told end None (comes_to end octets) mid new j k (Err halt.Unwritten) → Takes {L = L} {T = V} told end h 1 old new before k (Err ByWrite)
takes_unwritten told end h old mid new octets before j k same stands polled step =
    let t = took_one told end h mid new octets before j k step.0 (same_end h old mid before j same stands) step.1.0 in
    record {
      given = octets ∷ [];
      few = omega arith;
      some = has_item octets [];
      notes = noted_as None step.0 ∷ before;
      taken = t.taken;
      after_ = t.after_;
      tells = λ left tell.
          let p = polled left tell in
          record {
            rest = [];
            front = p.first;
            lost = 0;
            few_lost = refl;
            tells = (has_item octets [], unsent_tale told ByWrite end before step.0 (drop 1 left) (told mid.link) (told new.link) tt step.1.1 p.tells);
          };
    }

pub takes_unsent : {L V : Type 0} (told : L → Option LinkStory) (end : LinkEnd) (h : LinkHeader) (old mid new : Running L) (octets : List ℕ) (before : List Note) (j k : List Entry) (error : LinkError) → mid.ends ≡ old.ends → IsAfter h old before j → ((left : List (List ℕ)) → told old.link ≡ Some (tale end before left) → Polled told end mid before left octets) → Steps {L = L} {T = Unit {0}} told end None (comes_to end octets) mid new j k (Err (halt.Unsent error)) → Takes {L = L} {T = V} told end h 1 old new before k (Err (ByLink error))
takes_unsent told end h old mid new octets before j k error same stands polled step =
    let t = took_one told end h mid new octets before j k step.0 (same_end h old mid before j same stands) step.1.0 in
    record {
      given = octets ∷ [];
      few = omega arith;
      some = tt;
      notes = noted_as None step.0 ∷ before;
      taken = t.taken;
      after_ = t.after_;
      tells = λ left tell.
          let p = polled left tell in
          record {
            rest = [];
            front = p.first;
            lost = 0;
            few_lost = none_lost (ByLink error);
            tells = inr (has_item octets [], unsent_tale told (ByLink error) end before step.0 (drop 1 left) (told mid.link) (told new.link) step.1.2 step.1.1 p.tells);
          };
    }

-- memory ran out over it
pub takes_lost : {L V : Type 0} (told : L → Option LinkStory) (end : LinkEnd) (h : LinkHeader) (old mid new : Running L) (octets : List ℕ) (before : List Note) (j k : List Entry) → mid.ends ≡ old.ends → IsAfter h old before j → length new.ends.holders.ids ≡ 1 → ((left : List (List ℕ)) → told old.link ≡ Some (tale end before left) → Polled told end mid before left octets) → Steps {L = L} {T = Unit {0}} told end None (comes_to end octets) mid new j k (Err halt.NoMemory) → Takes {L = L} {T = V} told end h 1 old new before k (Err (ByLink link.NoMemory))
unfolding AreTaken
takes_lost told end h old mid new octets before j k same stands one polled step = record {
  given = [];
  few = omega arith;
  some = tt;
  notes = before;
  taken = refl;
  after_ = record {
    both = step.0 ∙ (same_end h old mid before j same stands).both;
    one = one;
    journal = step.1.0 ∙ stands.journal;
  };
  tells = λ left tell.
      let p = polled left tell in
      record { rest = octets ∷ []; front = p.first; lost = 1; few_lost = omega arith; tells = inl (step.1.1 (tale end before (drop 1 left)) p.tells) };
}

-- by how the datagram was taken
pub takes_err : {L V : Type 0} (told : L → Option LinkStory) (end : LinkEnd) (h : LinkHeader) (old mid new : Running L) (octets : List ℕ) (before : List Note) (j k : List Entry) (halt_ : Halt) → mid.ends ≡ old.ends → IsAfter h old before j → length new.ends.holders.ids ≡ 1 → ((left : List (List ℕ)) → told old.link ≡ Some (tale end before left) → Polled told end mid before left octets) → Steps {L = L} {T = Unit {0}} told end None (comes_to end octets) mid new j k (Err halt_) → Takes {L = L} {T = V} told end h 1 old new before k (Err (breach_of halt_))
takes_err {L = L} {V = V} told end h old mid new octets before j k halt.NoMemory same stands one polled step = takes_lost {L = L} {V = V} told end h old mid new octets before j k same stands one polled step
takes_err {L = L} {V = V} told end h old mid new octets before j k halt.Unwritten same stands one polled step = takes_unwritten {L = L} {V = V} told end h old mid new octets before j k same stands polled step
takes_err {L = L} {V = V} told end h old mid new octets before j k (halt.Unsent error) same stands one polled step = takes_unsent {L = L} {V = V} told end h old mid new octets before j k error same stands polled step

-- ---- up to so many

cut_two : (n m : ℕ) (frames : List (List ℕ)) → cut (take n frames) ++ cut (take m (drop n frames)) ≡ cut (take (n + m) frames)
cut_two n m frames = sym (ap cut (take-add n m frames) ∙ map-append _ (take n frames) (take m (drop n frames)))

-- so many datagrams dropped, or as many as were taken of so many
drop_taken : (n : ℕ) (frames : List (List ℕ)) → drop (length (cut (take n frames))) frames ≡ drop n frames
drop_taken zero frames = refl
drop_taken (suc n) [] = refl
drop_taken (suc n) (x ∷ frames) = drop_taken n frames

-- some after others are some
some_after : {A : Type 0} (xs ys : List A) → ys ≢ [] → xs ++ ys ≢ []
some_after [] ys some e = some e
some_after (x ∷ xs) ys some e = has_item x (xs ++ ys) e

-- what came after what came
pub taken_two : (h : LinkHeader) (end : LinkEnd) (xs ys : List (List ℕ)) (before mid after : List Note) → AreTaken h end xs before mid → AreTaken h end ys mid after → AreTaken h end (xs ++ ys) before after
unfolding AreTaken
taken_two h end [] ys before mid after one two = subst (λ (n : List Note). AreTaken h end ys n after) one two
taken_two h end (x ∷ xs) ys before mid after one two = (one.0, (one.1.0, taken_two h end xs ys one.0 mid after one.1.1 two))

-- nothing was taken yet
pub Takes-start : {L V : Type 0} (told : L → Option LinkStory) (end : LinkEnd) (h : LinkHeader) (r : Running L) (notes : List Note) (j : List Entry) (x : V) → IsAfter h r notes j → Takes {L = L} {T = V} told end h 0 r r notes j (Ok x)
unfolding AreTaken
Takes-start told end h r notes j x stands = record {
  given = [];
  few = omega arith;
  some = tt;
  notes = notes;
  taken = refl;
  after_ = stands;
  tells = λ left tell. record { all_of = refl; tells = tell };
}

all_two : {L : Type 0} (told : L → Option LinkStory) (end : LinkEnd) (n m : ℕ) (new : Running L) (notes : List Note) (left xs ys : List (List ℕ)) → xs ≡ cut (take n left) → TookAll told end m new notes (drop n left) ys → TookAll told end (n + m) new notes left (xs ++ ys)
all_two told end n m new notes left xs ys e t = record {
  all_of = ap (λ (w : List (List ℕ)). w ++ ys) e ∙ ap (λ (w : List (List ℕ)). cut (take n left) ++ w) t.all_of ∙ cut_two n m left;
  tells = t.tells ∙ ap (λ (w : List (List ℕ)). Some (tale end notes w)) (drop-drop m n left);
}

part_left : (n : ℕ) (left xs ys : List (List ℕ)) (lost : ℕ) → xs ≡ cut (take n left) → drop (length ys + lost) (drop n left) ≡ drop (length (xs ++ ys) + lost) left
part_left n left xs ys lost e =
    let now : drop n left ≡ drop (length xs) left = sym (drop_taken n left) ∙ ap (λ (w : List (List ℕ)). drop (length w) left) (sym e) in
    let sum : length xs + (length ys + lost) ≡ length (xs ++ ys) + lost = omega (arith, length-append xs ys) in
    ap (λ (w : List (List ℕ)). drop (length ys + lost) w) now ∙ drop-drop (length ys + lost) (length xs) left ∙ ap (λ (k : ℕ). drop k left) sum

unsent_left : (why : Breach) (end : LinkEnd) (notes : List Note) (left other : List (List ℕ)) (now : Option LinkStory) → left ≡ other → TaleUnsent why end notes left now → TaleUnsent why end notes other now
unsent_left why end notes left other now e t = record { story = t.story; now_is = t.now_is; node_is = t.node_is; unsent = t.unsent; left_is = t.left_is ∙ e }

part_tale : (why : Breach) (end : LinkEnd) (notes : List Note) (xs ys left other : List (List ℕ)) (now : Option LinkStory) → left ≡ other → TalePart why end notes ys left now → TalePart why end notes (xs ++ ys) other now
part_tale (ByLink error) end notes xs ys left other now e = elim [
  | inl tell ↦ inl (tell ∙ ap (λ (w : List (List ℕ)). Some (tale end notes w)) e)
  | inr part ↦ inr (some_after xs ys part.0, unsent_left (ByLink error) end notes left other now e part.1)
]
part_tale ByWrite end notes xs ys left other now e = λ part. (some_after xs ys part.0, unsent_left ByWrite end notes left other now e part.1)

part_two : {L : Type 0} (told : L → Option LinkStory) (why : Breach) (end : LinkEnd) (n m : ℕ) (new : Running L) (notes : List Note) (left xs ys : List (List ℕ)) → xs ≡ cut (take n left) → TookPart told why end m new notes (drop n left) ys → TookPart told why end (n + m) new notes left (xs ++ ys)
part_two told why end n m new notes left xs ys e t = record {
  rest = t.rest;
  front = append_assoc xs ys t.rest ∙ ap (λ (w : List (List ℕ)). w ++ (ys ++ t.rest)) e ∙ ap (λ (w : List (List ℕ)). cut (take n left) ++ w) t.front ∙ cut_two n m left;
  lost = t.lost;
  few_lost = t.few_lost;
  tells = part_tale why end notes xs ys _ _ (told new.link) (part_left n left xs ys t.lost e) t.tells;
}

on_after : (why : Breach) (xs ys : List (List ℕ)) → OnWrite why (ys ≢ []) → OnWrite why (xs ++ ys ≢ [])
on_after (ByLink error) xs ys on = tt
on_after ByWrite xs ys on = some_after xs ys on

-- and more
pub Takes-more : {L T U V : Type 0} (told : L → Option LinkStory) (end : LinkEnd) (h : LinkHeader) (n : ℕ) (old mid new : Running L) (before : List Note) (j k : List Entry) (x : T) (y : U) (z : V) → Takes {L = L} {T = T} told end h n old mid before j (Ok x) → ((notes : List Note) → IsAfter h mid notes j → Takes {L = L} {T = U} told end h 1 mid new notes k (Ok y)) → Takes {L = L} {T = V} told end h (n + 1) old new before k (Ok z)
Takes-more told end h n old mid new before j k x y z one next =
    let two = next one.notes one.after_ in
    record {
      given = one.given ++ two.given;
      few = omega (arith, one.few, two.few, length-append one.given two.given);
      some = tt;
      notes = two.notes;
      taken = taken_two h end one.given two.given before one.notes two.notes one.taken two.taken;
      after_ = two.after_;
      tells = λ left tell.
          let o = one.tells left tell in
          all_two told end n 1 new two.notes left one.given two.given o.all_of (two.tells (drop n left) o.tells);
    }

-- and then no more, as a line was not done
pub Takes-stop : {L T U V : Type 0} (told : L → Option LinkStory) (end : LinkEnd) (h : LinkHeader) (n : ℕ) (old mid new : Running L) (before : List Note) (j k : List Entry) (x : T) (why : Breach) → Takes {L = L} {T = T} told end h n old mid before j (Ok x) → ((notes : List Note) → IsAfter h mid notes j → Takes {L = L} {T = U} told end h 1 mid new notes k (Err why)) → Takes {L = L} {T = V} told end h (n + 1) old new before k (Err why)
Takes-stop told end h n old mid new before j k x why one next =
    let two = next one.notes one.after_ in
    record {
      given = one.given ++ two.given;
      few = omega (arith, one.few, two.few, length-append one.given two.given);
      some = on_after why one.given two.given two.some;
      notes = two.notes;
      taken = taken_two h end one.given two.given before one.notes two.notes one.taken two.taken;
      after_ = two.after_;
      tells = λ left tell.
          let o = one.tells left tell in
          part_two told why end n 1 new two.notes left one.given two.given o.all_of (two.tells (drop n left) o.tells);
    }

cut_none : (n : ℕ) → cut (take {A = List ℕ} n []) ≡ []
cut_none zero = refl
cut_none (suc n) = refl

drop_none : (n : ℕ) → drop {A = List ℕ} n [] ≡ []
drop_none zero = refl
drop_none (suc n) = refl

-- of a link that has no more, or of so many more: those are all
pub drop_more : (n m : ℕ) (left : List (List ℕ)) → n ≤ m → drop n left ≡ [] → (cut (take n left) ≡ cut (take m left)) × (drop n left ≡ drop m left)
drop_more n m left h e =
    let whole : n + (m - n) ≡ m = omega (arith, h) in
    let none : cut (take (m - n) (drop n left)) ≡ [] = ap (λ (w : List (List ℕ)). cut (take (m - n) w)) e ∙ cut_none (m - n) in
    let over : drop (m - n) (drop n left) ≡ [] = ap (λ (w : List (List ℕ)). drop (m - n) w) e ∙ drop_none (m - n) in (
      sym (append-nil (cut (take n left))) ∙ ap (λ (w : List (List ℕ)). cut (take n left) ++ w) (sym none) ∙ cut_two n (m - n) left ∙ ap (λ (i : ℕ). cut (take i left)) whole,
      e ∙ sym over ∙ drop-drop (m - n) n left ∙ ap (λ (i : ℕ). drop i left) whole,
    )

-- the link had no more, so that is all of a whole turn
pub Takes-past : {L V : Type 0} (told : L → Option LinkStory) (end : LinkEnd) (h : LinkHeader) (n m : ℕ) (old new : Running L) (before : List Note) (k : List Entry) (x : V) → n ≤ m → ((left : List (List ℕ)) → told old.link ≡ Some (tale end before left) → drop n left ≡ []) → Takes {L = L} {T = V} told end h n old new before k (Ok x) → Takes {L = L} {T = V} told end h m old new before k (Ok x)
Takes-past told end h n m old new before k x within over t = record {
  given = t.given;
  few = omega (arith, t.few, within);
  some = tt;
  notes = t.notes;
  taken = t.taken;
  after_ = t.after_;
  tells = λ left tell.
      let o = t.tells left tell in
      let past = drop_more n m left within (over left tell) in
      record {
        all_of = o.all_of ∙ past.0;
        tells = o.tells ∙ ap (λ (w : List (List ℕ)). Some (tale end t.notes w)) past.1;
      };
}

-- the same of a turn that breaks off
pub Takes-wide : {L V : Type 0} (told : L → Option LinkStory) (end : LinkEnd) (h : LinkHeader) (n m : ℕ) (old new : Running L) (before : List Note) (k : List Entry) (why : Breach) → n ≤ m → Takes {L = L} {T = V} told end h n old new before k (Err why) → Takes {L = L} {T = V} told end h m old new before k (Err why)
Takes-wide told end h n m old new before k why within t = record {
  given = t.given;
  few = omega (arith, t.few, within);
  some = t.some;
  notes = t.notes;
  taken = t.taken;
  after_ = t.after_;
  tells = λ left tell.
      let o = t.tells left tell in
      let rest = m - n in
      let whole : n + rest ≡ m = omega (arith, within) in
      record {
        rest = o.rest ++ cut (take rest (drop n left));
        front = sym (append_assoc t.given o.rest (cut (take rest (drop n left)))) ∙ ap (λ (w : List (List ℕ)). w ++ cut (take rest (drop n left))) o.front ∙ cut_two n rest left ∙ ap (λ (i : ℕ). cut (take i left)) whole;
        lost = o.lost;
        few_lost = o.few_lost;
        tells = o.tells;
      };
}

-- as many, said otherwise
pub Takes-same : {L V : Type 0} (told : L → Option LinkStory) (end : LinkEnd) (h : LinkHeader) (n m : ℕ) (old new : Running L) (before : List Note) (k : List Entry) (x : V) → n ≡ m → Takes {L = L} {T = V} told end h n old new before k (Ok x) → Takes {L = L} {T = V} told end h m old new before k (Ok x)
Takes-same {L = L} {V = V} told end h n m old new before k x same t = subst (λ (i : ℕ). Takes {L = L} {T = V} told end h i old new before k (Ok x)) same t

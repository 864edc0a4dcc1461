-- The frames in the first entries of a journal.
use Rattle.std.proofs.Common.{◌≡◌, ℕ, ◌+◌, ◌<◌, ◌≤◌, List, [], ◌∷◌, ◌++◌, length, take, drop, get_or, reverse, refl, ap, sym, ◌∙◌, add-one, arith, length-append, length-take}
use Rattle.std.proofs.Math.Seq.{take-suc, take-append_seam}
use Rattle.std.proofs.lemmas.List.{append-nil, reverse-append, reverse-reverse, length-reverse, take-append-drop, take_all}
use Rattle.run_journal.specs.declared.acts.Entry.{Entry}
use Rattle.storm.specs.declared.seen.Frame.{Frame}
use Rattle.storm.specs.Frames.{frame_sent, frames_of}
use Rattle.storm.specs.Course.{HasSeen, HasSeenAll}

-- of the entries in their order, the first i were seen
pub record Fronts (entries : List Entry) (i seen : ℕ) (frames : List Frame) : Type 0 where
  pub place : seen ≡ i
  pub within : i ≤ length entries
  pub front : frames ≡ frames_of (reverse (take i entries))

-- at first
pub Fronts-start : (j entries : List Entry) (seen : ℕ) (frames : List Frame) → entries ≡ reverse j → HasSeen seen frames j → Fronts entries seen seen frames
Fronts-start j entries seen frames is h =
    let parts : entries ≡ reverse h.earlier ++ reverse h.later = is ∙ ap (λ (xs : List Entry). reverse xs) h.is ∙ reverse-append h.later h.earlier in
    let size : length (reverse h.earlier) ≡ seen = length-reverse h.earlier ∙ sym h.count in
    let front : take seen entries ≡ reverse h.earlier = rw (parts, ← size) (take-append_seam (reverse h.earlier) (reverse h.later)) in
    record {
      place = refl;
      within = omega (arith, ap (λ (xs : List Entry). length xs) parts, length-append (reverse h.earlier) (reverse h.later), size);
      front = h.frames_are ∙ ap frames_of (sym (reverse-reverse h.earlier) ∙ ap (λ (xs : List Entry). reverse xs) (sym front));
    }

-- the frames with one entry more
frames-step : (es : List Entry) (i : ℕ) (e : Entry) → i < length es → e ≡ get_or es i e → frames_of (reverse (take (i + 1) es)) ≡ frames_of (reverse (take i es)) ++ frame_sent e.act
unfolding frames_of
frames-step es i e h is =
    let newest : reverse (take (i + 1) es) ≡ e ∷ reverse (take i es) = rw (add-one, take-suc es i e h, reverse-append) (rw (← is) refl) in
    ap frames_of newest

-- one entry more
pub Fronts-step : (entries : List Entry) (i seen : ℕ) (e : Entry) (frames more : List Frame) → i < length entries → e ≡ get_or entries i e → Fronts entries i seen frames → more ≡ frames ++ frame_sent e.act → Fronts entries (i + 1) (i + 1) more
Fronts-step entries i seen e frames more inside is f grown = record {
  place = refl;
  within = omega (arith, inside);
  front = grown ∙ ap (λ (xs : List Frame). xs ++ frame_sent e.act) f.front ∙ sym (frames-step entries i e inside is);
}

-- so much was seen
pub Fronts-seen : (j entries : List Entry) (i seen : ℕ) (frames : List Frame) → entries ≡ reverse j → Fronts entries i seen frames → HasSeen seen frames j
Fronts-seen j entries i seen frames is f =
    let whole : j ≡ reverse entries = sym (reverse-reverse j) ∙ ap (λ (xs : List Entry). reverse xs) (sym is) in
    let parts = ap (λ (xs : List Entry). reverse xs) (sym (take-append-drop i entries)) ∙ reverse-append (take i entries) (drop i entries) in
    record {
      later = reverse (drop i entries);
      earlier = reverse (take i entries);
      is = whole ∙ parts;
      count = f.place ∙ sym (omega (arith, length-reverse (take i entries), length-take i entries, f.within));
      frames_are = f.front;
    }

-- and in the end all
pub Fronts-all : (j entries : List Entry) (i seen : ℕ) (frames : List Frame) → entries ≡ reverse j → i ≡ length entries → Fronts entries i seen frames → HasSeenAll seen frames j
Fronts-all j entries i seen frames is end f =
    let whole : j ≡ reverse entries = sym (reverse-reverse j) ∙ ap (λ (xs : List Entry). reverse xs) (sym is) in
    let all : take i entries ≡ entries = take_all i entries (omega (arith, end)) in
    record {
      count = omega (arith, f.place, end, ap (λ (xs : List Entry). length xs) is, length-reverse j);
      frames_are = f.front ∙ ap (λ (xs : List Entry). frames_of (reverse xs)) all ∙ ap frames_of (sym whole);
    }

-- ---- a storm while the journal grows

-- before its first event it has seen nothing
pub HasSeen-none : (seen : ℕ) (frames : List Frame) (j : List Entry) → seen ≡ 0 → frames ≡ [] → HasSeen seen frames j
unfolding frames_of
HasSeen-none seen frames j none empty = record { later = j; earlier = []; is = sym (append-nil j); count = none; frames_are = empty }

-- what it has seen stays seen as the journal grows
pub HasSeen-push : (seen : ℕ) (frames : List Frame) (e : Entry) (j : List Entry) → HasSeen seen frames j → HasSeen seen frames (e ∷ j)
HasSeen-push seen frames e j h = record {
  later = e ∷ h.later;
  earlier = h.earlier;
  is = ap (λ (past : List Entry). e ∷ past) h.is;
  count = h.count;
  frames_are = h.frames_are;
}

pub ruleset seeing = (HasSeen-none, HasSeen-push)

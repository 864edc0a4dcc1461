-- What a link gives.
use Rattle.std.proofs.Common.{◌≡◌, ◌≢◌, ℕ, ◌<◌, ◌==◌, ◌⊎◌, List, length, take, drop, Option, Some, None, Result, Ok, Err, refl, sym, ap, subst, ◌∙◌, arith, get_or, set, true, false, inl, inr}
use Rattle.std.proofs.lemmas.Grind.{common_steps}
use Rattle.std.proofs.lemmas.List.{get_or-set_same, get_or-set_other}
use Rattle.std.proofs.lemmas.Bool.Decides.{eqb_tells}
use Rattle.std.specs.Prelude.{MatchResult, MatchOption, OnErr}
use Rattle.domain_base.specs.declared.names.Node.{Node}
use Rattle.domain_base.specs.Causes.{HasCause}
use Rattle.domain_base.specs.Told.{LinkStory, Gives, GivesNone, GivesFirst}
use Rattle.domain_base.proofs.Stories.{Gives-told}
use Rattle.run_journal.specs.Limits.{most_octets}
use Rattle.domain_links.specs.Sends.{Send}
use Rattle.domain_links.specs.Telling.{Tell, HasFailed, Polls, left_after, story_at}
use Rattle.domain_links.proofs.Going.{HasFailed-set}

pub Tell-left : {L : Type 0} (told : L → Option LinkStory) (nodes : ℕ → Node) (links : List L) (left other : ℕ → List (List ℕ)) (all : List Send) → ((i : ℕ) → i < length links → left i ≡ other i) → Tell told nodes links left all → Tell told nodes links other all
Tell-left told nodes links left other all same tell = record {
  each = λ i l within. tell.each i l within ∙ ap (λ (w : List (List ℕ)). Some (record (story_at nodes left all i) { left = w })) (same i within);
}

-- one link was changed in what it has left
Tell-changed : {L : Type 0} (told : L → Option LinkStory) (nodes : ℕ → Node) (links : List L) (left other : ℕ → List (List ℕ)) (all : List Send) (p : ℕ) (link : L) → Tell told nodes links left all → told link ≡ Some (story_at nodes other all p) → ((i : ℕ) → i ≢ p → left i ≡ other i) → Tell told nodes (set links p link) other all
Tell-changed told nodes links left other all p link tell e same = record {
  each = λ i l within.
      let inside : i < length links = grind (arith, common_steps) in
      let cases : ((i == p) ≡ true) × (i ≡ p) ⊎ ((i == p) ≡ false) × (i ≢ p) → told (get_or (set links p link) i l) ≡ Some (story_at nodes other all i) =
      elim [
        | inl at ↦ rw at.1 (ap told (get_or-set_same links p link l (subst (λ (n : ℕ). n < length links) at.1 inside)) ∙ e)
        | inr apart ↦ ap told (get_or-set_other links p i link l apart.1) ∙ tell.each i l inside ∙ ap (λ (w : List (List ℕ)). Some (record (story_at nodes left all i) { left = w })) (same i apart.1)
      ] in cases (eqb_tells i p);
}

pub left_own : (left : ℕ → List (List ℕ)) (p n : ℕ) → left_after left p n p ≡ drop n (left p)
left_own left p n = grind (arith, common_steps)

pub left_other : (left : ℕ → List (List ℕ)) (p n i : ℕ) → i ≢ p → left_after left p n i ≡ left i
left_other left p n i apart = grind (arith, common_steps)

polled_first : (nodes : ℕ → Node) (left : ℕ → List (List ℕ)) (all : List Send) (p size : ℕ) (now : LinkStory) (buf : List ℕ) → GivesFirst (story_at nodes left all p) now size buf → now ≡ story_at nodes (left_after left p 1) all p
polled_first nodes left all p size now buf h =
    sym (ap (λ (s : LinkStory). record s { left = drop 1 s.left }) h.first)
    ∙ ap (λ (w : List (List ℕ)). record (story_at nodes left all p) { left = w }) (sym (left_own left p 1))

polled_by : {L E : Type 0} (told : L → Option LinkStory) (nodes : ℕ → Node) (links : List L) (p : ℕ) (link : L) (left : ℕ → List (List ℕ)) (all : List Send) (now : LinkStory) (result : Result (Option ℕ) E) (buf : List ℕ) → Tell told nodes links left all → told link ≡ Some now → MatchResult result (λ given. MatchOption given (GivesNone (story_at nodes left all p) now) (λ size. GivesFirst (story_at nodes left all p) now size buf)) (λ _. now ≡ story_at nodes left all p) → length buf ≡ most_octets → Polls told nodes (set links p link) p left all result buf
polled_by told nodes links p link left all now (Ok None) buf tell e h room = (h.none, Tell-changed told nodes links left left all p link tell (e ∙ ap Some h.same) (λ i apart. refl))
polled_by told nodes links p link left all now (Ok (Some size)) buf tell e h room = record {
  frame = h.frame;
  first = ap (λ (s : LinkStory). take 1 s.left) h.first;
  octets_are = h.octets ∙ ap (λ (n : ℕ). take n h.frame) room;
  tell = Tell-changed told nodes links left (left_after left p 1) all p link tell (e ∙ ap Some (polled_first nodes left all p size now buf h)) (λ i apart. sym (left_other left p 1 i apart));
}
polled_by told nodes links p link left all now (Err x) buf tell e h room = Tell-changed told nodes links left left all p link tell (e ∙ ap Some h) (λ i apart. refl)

pub polls : {L E : Type 0} (told : L → Option LinkStory) (nodes : ℕ → Node) (links : List L) (p : ℕ) (link : L) (left : ℕ → List (List ℕ)) (all : List Send) (old : Option LinkStory) (result : Result (Option ℕ) E) (buf : List ℕ) → Tell told nodes links left all → old ≡ Some (story_at nodes left all p) → Gives old (told link) result buf → length buf ≡ most_octets → Polls told nodes (set links p link) p left all result buf
polls told nodes links p link left all old result buf tell e h room =
    let t = Gives-told (story_at nodes left all p) (told link) result buf (subst (λ (o : Option LinkStory). Gives o (told link) result buf) e h) in
    polled_by told nodes links p link left all t.0 result buf tell t.1 t.2 room

-- a poll that failed
pub poll_failed : {L T E : Type 0} (faults : L → ℕ) (links : List L) (p : ℕ) (link : L) (before : ℕ) (result : Result T E) → p < length links → HasCause before (faults link) result → OnErr result (HasFailed faults (set links p link))
poll_failed faults links p link before (Ok x) within h = tt
poll_failed faults links p link before (Err x) within h = HasFailed-set faults links p link within (omega (arith, h.failed))

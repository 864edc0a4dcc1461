-- Links given back, one after another.
use Rattle.std.proofs.Common.{◌≡◌, ℕ, ◌<◌, ◌≤◌, ◌⊎◌, List, [], ◌∷◌, ◌++◌, length, map, Option, Some, refl, sym, ap, subst, ◌∙◌, append_assoc, arith, get_or, inl, inr}
use Rattle.std.proofs.lemmas.List.{append-nil, map-append, length-append, length-map, get_or-map, get_or_push, get_or_append_left}
use Rattle.std.proofs.lemmas.Bool.{cases_lt}
use Rattle.domain_base.specs.declared.names.Node.{Node}
use Rattle.domain_base.specs.Told.{LinkStory, AirStory, TakesBack}
use Rattle.domain_base.specs.Causes.{HandsOn, Rose}
use Rattle.domain_base.proofs.Stories.{TakesBack-told}
use Rattle.domain_links.specs.Sends.{Send}
use Rattle.domain_links.specs.Telling.{Tell, HasFailed, NoneFailed}
use Rattle.domain_links.specs.Attached.{TakenBack}

pub TakenBack-none : {L : Type 0} (told : L → Option LinkStory) (old : Option AirStory) (now : AirStory) → old ≡ Some now → TakenBack told [] old now
TakenBack-none told old now e = record { was = now; ended = []; is = e; returned = sym (append-nil now.returned); frames = λ node. refl; stories = refl }

pub TakenBack-more : {L : Type 0} (told : L → Option LinkStory) (links : List L) (link : L) (old mid new : Option AirStory) (now : AirStory) → ((was : AirStory) → mid ≡ Some was → TakenBack told links old was) → TakesBack mid new (told link) → new ≡ Some now → TakenBack told (links ++ link ∷ []) old now
TakenBack-more told links link old mid new now before h e =
    let t = TakesBack-told mid now (told link) (subst (λ (o : Option AirStory). TakesBack mid o (told link)) e h) in
    let b = before t.0 t.2 in
    record {
      was = b.was;
      ended = b.ended ++ t.1 ∷ [];
      is = b.is;
      returned = ap (λ (s : AirStory). s.returned) t.4 ∙ ap (λ (w : List LinkStory). w ++ t.1 ∷ []) b.returned ∙ append_assoc b.was.returned b.ended (t.1 ∷ []);
      frames = λ node. ap (λ (s : AirStory). s.frames node) t.4 ∙ b.frames node;
      stories = map-append told links (link ∷ []) ∙ ap (λ (w : List (Option LinkStory)). w ++ told link ∷ []) b.stories ∙ ap (λ (w : Option LinkStory). map (λ (s : LinkStory). Some s) b.ended ++ w ∷ []) t.3 ∙ sym (map-append (λ (s : LinkStory). Some s) b.ended (t.1 ∷ []));
    }

-- a link of more failed, so one of the first did, or the last
pub HasFailed-last : {L : Type 0} (faults : L → ℕ) (links : List L) (link : L) → HasFailed faults (links ++ link ∷ []) → HasFailed faults links ⊎ (0 < faults link)
HasFailed-last faults links link h =
    let sides : (h.place < length links) ⊎ (length links ≤ h.place) → HasFailed faults links ⊎ (0 < faults link) =
    elim [
      | inl below ↦ inl (record { place = h.place; within = below; failed = λ l. subst (λ (x : _). 0 < faults x) (get_or_append_left links (link ∷ []) l h.place below) (h.failed l) })
      | inr above ↦ inr (subst (λ (x : _). 0 < faults x) (get_or_push links link link h.place (omega (arith, above, h.within, length-append links (link ∷ [])))) (h.failed link))
    ] in sides (cases_lt h.place (length links))

pub Rose-more : {L : Type 0} (faults : L → ℕ) (links : List L) (link : L) (first before now : ℕ) → first ≤ before → (HasFailed faults links → Rose first before) → HandsOn (faults link) before now → HasFailed faults (links ++ link ∷ []) → Rose first now
Rose-more faults links link first before now later so_far h failed =
    let sides : HasFailed faults links ⊎ (0 < faults link) → Rose first now =
    elim [
      | inl one ↦ omega (arith, so_far one, h.later)
      | inr last ↦ omega (arith, h.rose last, later)
    ] in sides (HasFailed-last faults links link failed)

pub no_failed : {L : Type 0} (faults : L → ℕ) (before now : ℕ) → HasFailed faults [] → Rose before now
no_failed faults before now h = omega (arith, h.within)

-- none of more has failed, so none of the first, nor the last
front_none : {L : Type 0} (faults : L → ℕ) (links : List L) (link : L) → NoneFailed faults (links ++ link ∷ []) → NoneFailed faults links
front_none faults links link h = record {
  each = λ i l within. subst (λ (x : _). faults x ≡ 0) (get_or_append_left links (link ∷ []) l i within) (h.each i l (omega (arith, within, length-append links (link ∷ []))));
}

last_none : {L : Type 0} (faults : L → ℕ) (links : List L) (link : L) → NoneFailed faults (links ++ link ∷ []) → faults link ≡ 0
last_none faults links link h = subst (λ (x : _). faults x ≡ 0) (get_or_push links link link (length links) refl) (h.each (length links) link (omega (arith, length-append links (link ∷ []))))

pub unfailed-more : {L : Type 0} (faults : L → ℕ) (links : List L) (link : L) (first before now : ℕ) → (NoneFailed faults links → before ≡ first) → HandsOn (faults link) before now → NoneFailed faults (links ++ link ∷ []) → now ≡ first
unfailed-more faults links link first before now so_far h none = h.same (last_none faults links link none) ∙ so_far (front_none faults links link none)

none_below : (i : ℕ) → i < 0 → ⊥
none_below i h = omega (arith, h)

some_item : {A : Type 0} (xs : List A) (i : ℕ) → i < length xs → A
some_item [] i h = absurd (none_below i h)
some_item (x ∷ xs) i h = x

-- what links told stands in the stories of those taken back
pub Tell-ended : {L : Type 0} (told : L → Option LinkStory) (nodes : ℕ → Node) (links : List L) (ended : List LinkStory) (left : ℕ → List (List ℕ)) (all : List Send) → map told links ≡ map (λ (s : LinkStory). Some s) ended → Tell told nodes links left all → Tell (λ (s : LinkStory). Some s) nodes ended left all
Tell-ended told nodes links ended left all e tell = record {
  each = λ i s within.
      let len : length links ≡ length ended = sym (length-map links told) ∙ ap length e ∙ length-map ended (λ (s : LinkStory). Some s) in
      let inside : i < length links = omega (arith, len, within) in
      let l = some_item links i inside in
      sym (get_or-map (λ (x : LinkStory). Some x) ended i s (Some s) within) ∙ ap (λ (w : List (Option LinkStory)). get_or w i (Some s)) (sym e) ∙ get_or-map told links i l (Some s) inside ∙ tell.each i l inside;
}

pub len_ended : {L : Type 0} (told : L → Option LinkStory) (links : List L) (ended : List LinkStory) → map told links ≡ map (λ (s : LinkStory). Some s) ended → length ended ≡ length links
len_ended told links ended e = sym (length-map ended (λ (s : LinkStory). Some s)) ∙ sym (ap length e) ∙ length-map links told

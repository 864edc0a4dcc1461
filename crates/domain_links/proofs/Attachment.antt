-- One more link attached.
use Rattle.std.proofs.Common.{◌≡◌, ◌≢◌, ℕ, ◌<◌, ◌≤◌, ◌⊎◌, List, [], ◌∷◌, ◌++◌, length, Option, Some, sym, ap, subst, ◌∙◌, arith, get_or, map, inl, inr}
use Rattle.std.proofs.lemmas.Grind.{common_steps}
use Rattle.std.proofs.lemmas.List.{length-append, map-append, get_or_push, get_or_append_left}
use Rattle.std.proofs.lemmas.Bool.{cases_lt}
use Rattle.domain_base.specs.declared.names.Node.{Node}
use Rattle.domain_base.specs.Told.{LinkStory, AirStory, Attaches, AttachesLink, new_link}
use Rattle.domain_base.proofs.Stories.{Attaches-told}
use Rattle.run_journal.specs.declared.domain.Domain.{Domain}
use Rattle.domain_links.specs.NodeOrder.{node_at}
use Rattle.domain_links.specs.Telling.{Tell, story_at}
use Rattle.domain_links.specs.Attached.{Attached, IsBehind, frames_at}

-- nodes of a network at different places differ
apart : (d : Domain) (i j : ℕ) → i < j → node_at d i ≢ node_at d j
apart d i j h = grind (arith, common_steps)

-- so each stands behind those before it
pub node_behind : (d : Domain) (places : ℕ) → IsBehind (node_at d) places (node_at d places)
node_behind d places i within = apart d i places within

-- one more link, at the end of those that tell
Tell-push : {L : Type 0} (told : L → Option LinkStory) (nodes : ℕ → Node) (links : List L) (link : L) (left : ℕ → List (List ℕ)) → Tell told nodes links left [] → told link ≡ Some (story_at nodes left [] (length links)) → Tell told nodes (links ++ link ∷ []) left []
Tell-push told nodes links link left tell e = record {
  each = λ i l within.
      let sides : (i < length links) ⊎ (length links ≤ i) → told (get_or (links ++ link ∷ []) i l) ≡ Some (story_at nodes left [] i) =
      elim [
        | inl below ↦ ap told (get_or_append_left links (link ∷ []) l i below) ∙ tell.each i l below
        | inr above ↦
            let here : i ≡ length links = omega (arith, above, within, length-append links (link ∷ [])) in
            ap told (get_or_push links link l i (sym here)) ∙ e ∙ ap (λ (n : ℕ). Some (story_at nodes left [] n)) (sym here)
      ] in sides (cases_lt i (length links));
}

begun : {L : Type 0} (told : L → Option LinkStory) (nodes : ℕ → Node) (start was now : AirStory) (links : List L) (link : L) (story : LinkStory) (air : Option AirStory) → air ≡ Some now → told link ≡ Some story → AttachesLink was now (nodes (length links)) story → IsBehind nodes (length links) (nodes (length links))
    → ((node : Node) → IsBehind nodes (length links) node → was.frames node ≡ start.frames node) → was.returned ≡ start.returned → Tell told nodes links (frames_at nodes start) [] → Attached told nodes start (links ++ link ∷ []) air
begun told nodes start was now links link story air is tells a new frames returned tell = record {
  now = now;
  is = is;
  frames = λ node behind.
      let other : node ≢ nodes (length links) = λ e. behind (length links) (omega (arith, length-append links (link ∷ []))) (sym e) in
      a.others node other ∙ frames node (λ i within. behind i (omega (arith, within, length-append links (link ∷ []))));
  returned = a.returned ∙ returned;
  tell = Tell-push told nodes links link (frames_at nodes start) tell (tells ∙ ap Some (a.begins ∙ ap (new_link (nodes (length links))) (frames (nodes (length links)) new)));
}

-- a node that stands behind those attached was attached
Attached-more : {L : Type 0} (told : L → Option LinkStory) (nodes : ℕ → Node) (start : AirStory) (links : List L) (link : L) (node : Node) (old new : Option AirStory) → nodes (length links) ≡ node → IsBehind nodes (length links) node → Attaches old new node (told link) → Attached told nodes start links old
    → Attached told nodes start (links ++ link ∷ []) new
Attached-more told nodes start links link node old new is behind h a =
    let here : node ≡ nodes (length links) = sym is in
    let t = Attaches-told a.now new (nodes (length links)) (told link) (subst (λ (m : Node). Attaches (Some a.now) new m (told link)) here (subst (λ (o : Option AirStory). Attaches o new node (told link)) a.is h)) in
    begun told nodes start a.now t.0 links link t.1 new t.2 t.3 t.4 (subst (λ (m : Node). IsBehind nodes (length links) m) here behind) a.frames a.returned a.tell

-- the same of links that were kept, and then had one more behind them
pub Attached-pushed : {L : Type 0} (told : L → Option LinkStory) (nodes : ℕ → Node) (start : AirStory) (links kept more : List L) (link : L) (node : Node) (old new : Option AirStory) → kept ≡ links → more ≡ kept ++ link ∷ [] → nodes (length links) ≡ node → IsBehind nodes (length links) node → Attaches old new node (told link)
    → Attached told nodes start links old → Attached told nodes start more new
Attached-pushed told nodes start links kept more link node old new same push is behind h a =
    subst (λ (w : List _). Attached told nodes start w new) (sym (push ∙ ap (λ (w : List _). w ++ link ∷ []) same)) (Attached-more told nodes start links link node old new is behind h a)

pub faults_pushed : {L : Type 0} (faults : L → ℕ) (links kept more : List L) (link : L) → kept ≡ links → more ≡ kept ++ link ∷ [] → faults link ≡ 0 → map faults more ≡ map faults links ++ 0 ∷ []
faults_pushed faults links kept more link same push e =
    ap (map faults) (push ∙ ap (λ (w : List _). w ++ link ∷ []) same) ∙ map-append faults links (link ∷ []) ∙ ap (λ (n : ℕ). map faults links ++ n ∷ []) e

-- nothing changed
pub Attached-same : {L : Type 0} (told : L → Option LinkStory) (nodes : ℕ → Node) (start : AirStory) (links : List L) (old new : Option AirStory) → new ≡ old → Attached told nodes start links old → Attached told nodes start links new
Attached-same told nodes start links old new e a = record { now = a.now; is = e ∙ a.is; frames = a.frames; returned = a.returned; tell = a.tell }

-- What the plan of a node has for its link, as the first plan for it is found and emptied.
use Rattle.std.proofs.Common.{◌≡◌, ◌≢◌, ◌<◌, ℕ, Bool, true, false, List, [], Option, Some, None, position, length, ◌≤◌, get_or, set, refl, sym, ap, ◌∙◌, arith}
use Rattle.std.specs.List.{position_or_len, slice_get}
use Rattle.std.specs.Prelude.{if◌then◌else◌}
use Rattle.std.specs.Option.{option_and_then, option_map_or}
use Rattle.std.proofs.lemmas.Grind.{common_steps}
use Rattle.std.proofs.lemmas.List.{set-get_or}
use Rattle.std.proofs.lemmas.List.Folds.{find_at, find-set, find_past}
use Rattle.std.proofs.lemmas.List.Quantifiers.{position-Some}
use Rattle.std.proofs.lemmas.Option.{slice_get-get_or, slice_get_cases}
use Rattle.domain_base.specs.declared.names.Node.{Node}
use Rattle.domain_base.specs.Told.{AirStory, LinkStory, Attaches, AttachesLink, new_link}
use Rattle.domain_base.specs.Memory.{PlannedLink, PlannedParts, SamePartsForOthers, is_plan_of, parts_for, planned_frames}
use Rattle.domain_base.proofs.Frames.{same_node-true}

-- what the plan that was found has
abbrev parts_of : Option PlannedLink → Option PlannedParts
parts_of found = option_and_then (λ (plan : PlannedLink). plan.parts) found

-- a plan that is for one node is for no other
not_for : (node other : Node) (plan : PlannedLink) → is_plan_of node plan ≡ true → other ≢ node → is_plan_of other plan ≡ false
not_for node other plan h apart =
    let cases : (b : Bool) → is_plan_of other plan ≡ b → is_plan_of other plan ≡ false =
    elim [ true ↦ λ t. absurd (apart (sym (same_node-true _ _ t) ∙ same_node-true _ _ h)) | false ↦ λ f. f ]
    in cases (is_plan_of other plan) refl

place_is : {X : Type 0} (p : X → Bool) (xs : List X) (i : ℕ) → position p xs ≡ Some i → position_or_len p xs ≡ i
place_is p xs i h = grind (arith, common_steps)

-- those of the plan found
pub parts_for-found : (node : Node) (plans : List PlannedLink) (i : ℕ) (d : PlannedLink) → position (is_plan_of node) plans ≡ Some i → parts_for node plans ≡ (get_or plans i d).parts
parts_for-found node plans i d h =
    let within : i < length plans = (position-Some (is_plan_of node) plans i d h).0 in
    ap parts_of
    (find_at (is_plan_of node) plans ∙ ap (λ (k : ℕ). slice_get plans k) (place_is (is_plan_of node) plans i h) ∙ slice_get-get_or plans i d within)

-- none where no plan is found
pub parts_for-none : (node : Node) (plans : List PlannedLink) → position (is_plan_of node) plans ≡ None → parts_for node plans ≡ None
parts_for-none node plans h =
    let past : length plans ≤ position_or_len (is_plan_of node) plans = grind (arith, common_steps) in
    let none : slice_get plans (position_or_len (is_plan_of node) plans) ≡ None =
    grind (arith, common_steps, slice_get_cases plans (position_or_len (is_plan_of node) plans))
    in ap parts_of (find_at (is_plan_of node) plans ∙ none)

-- none for the node whose plan is emptied
pub parts_for-taken : (node : Node) (plans : List PlannedLink) (i : ℕ) (plan : PlannedLink) → position (is_plan_of node) plans ≡ Some i → plan ≡ get_or plans i plan → parts_for node (set plans i (record plan { parts = None })) ≡ None
parts_for-taken node plans i plan h e =
    let at = position-Some (is_plan_of node) plans i plan h in
    let passes : is_plan_of node plan ≡ true = ap (λ (x : PlannedLink). is_plan_of node x) e ∙ at.1 in
    ap parts_of
    (find-set (is_plan_of node) plans i (record plan { parts = None }) (sym (place_is (is_plan_of node) plans i h)) at.0 passes)

-- those of the others stay
pub parts_for-others : (node other : Node) (plans : List PlannedLink) (i : ℕ) (plan : PlannedLink) → other ≢ node → position (is_plan_of node) plans ≡ Some i → plan ≡ get_or plans i plan → parts_for other (set plans i (record plan { parts = None })) ≡ parts_for other plans
parts_for-others node other plans i plan apart h e =
    let at = position-Some (is_plan_of node) plans i plan h in
    let passes : is_plan_of node plan ≡ true = ap (λ (x : PlannedLink). is_plan_of node x) e ∙ at.1 in
    ap parts_of
    (find_past (is_plan_of other) plans i (record plan { parts = None }) plan
    (not_for node other (get_or plans i plan) at.1 apart) (not_for node other plan passes apart))

-- nothing changes where there were none
pub parts_for-same : (plans : List PlannedLink) (i : ℕ) (plan : PlannedLink) → plan ≡ get_or plans i plan → plan.parts ≡ None → set plans i (record plan { parts = None }) ≡ plans
parts_for-same plans i plan e none =
    ap (λ (p : Option PlannedParts). set plans i (record plan { parts = p })) (sym none) ∙ ap (λ (x : PlannedLink). set plans i x) e ∙ set-get_or plans i plan

-- what an air tells as it attaches: nothing before and after, or both
attaches_by : (tells : Bool) (old new : AirStory) (node : Node) (link : LinkStory) → AttachesLink old new node link → Attaches (if tells then Some old else None) (if tells then Some new else None) node (Some link)
attaches_by true old new node link h = h
attaches_by false old new node link h = tt

-- a link made of what the plan of its node has
pub plan_attaches : (plans left : List PlannedLink) (returned : List LinkStory) (tells : Bool) (node : Node) (parts : PlannedParts) (link : LinkStory) → parts_for node plans ≡ Some parts → parts_for node left ≡ None → SamePartsForOthers node plans left → link ≡ new_link node parts.frames
    → Attaches (if tells then Some (record { frames = λ (n : Node). planned_frames n plans; returned = returned }) else None)
    (if tells then Some (record { frames = λ (n : Node). planned_frames n left; returned = returned }) else None) node (Some link)
plan_attaches plans left returned tells node parts link had gone others made =
    let frames : Option PlannedParts → List (List ℕ) = λ o. option_map_or (λ (p : PlannedParts). p.frames) o [] in
    attaches_by tells _ _ node link (record {
      begins = made ∙ ap (λ (o : Option PlannedParts). new_link node (frames o)) (sym had);
      given = ap frames gone;
      others = λ other apart. ap frames (others other apart);
      returned = refl;
    })

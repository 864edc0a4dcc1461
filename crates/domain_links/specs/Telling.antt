-- What the links of a list of nodes tell, which is told by the node at each place, and how often they failed (profile).
use Rattle.std.specs.Prelude.{◌≡◌, ◌≢◌, ℕ, ◌<◌, List, [], ◌∷◌, ◌++◌, ◌==◌, Option, Some, if◌then◌else◌, map, length, take, drop, slice_index_or, Result, MatchResult, MatchOption}
use Rattle.domain_base.specs.declared.names.Node.{Node}
use Rattle.domain_base.specs.Told.{LinkStory}
use Rattle.run_journal.specs.Limits.{most_octets}
use Rattle.domain_links.specs.Sends.{Send, sent_by}

-- the link at a place: its node's, by which its frames among these went, and which has that left
abbrev pub story_at : (ℕ → Node) → (ℕ → List (List ℕ)) → List Send → ℕ → LinkStory
story_at nodes left all i = record { node = nodes i; sent = sent_by i all; left = left i }

-- all the links tell so, each at its node's place
pub record Tell {L : Type 0} (told : L → Option LinkStory) (nodes : ℕ → Node) (links : List L) (left : ℕ → List (List ℕ)) (all : List Send) : Type 0 where
  pub each : (i : ℕ) (l : L) → i < length links → told (slice_index_or links i l) ≡ Some (story_at nodes left all i)

-- what links tell after these sends: all of them went out, or at an error a front that is not the whole
abbrev pub TellFront : {L T E : Type 0} → (L → Option LinkStory) → (ℕ → Node) → List L → (ℕ → List (List ℕ)) → List Send → List Send → Result T E → Type 0
TellFront told nodes links left before more result =
    MatchResult result
    (λ _. Tell told nodes links left (before ++ more))
    (λ _. (front rest : List Send) × (front ++ rest ≡ more) × (rest ≢ []) × Tell told nodes links left (before ++ front))

-- one of the links has failed
pub record HasFailed {L : Type 0} (faults : L → ℕ) (links : List L) : Type 0 where
  pub place : ℕ
  pub within : place < length links
  pub failed : (l : L) → 0 < faults (slice_index_or links place l)

-- no link has failed
pub record NoneFailed {L : Type 0} (faults : L → ℕ) (links : List L) : Type 0 where
  pub each : (i : ℕ) (l : L) → i < length links → faults (slice_index_or links i l) ≡ 0

-- as many links, and each has failed as often as before
abbrev pub SameFaults : {L : Type 0} → (L → ℕ) → List L → List L → Type 0
SameFaults faults old new = map faults new ≡ map faults old

-- what the links have left once that place took some
abbrev pub left_after : (ℕ → List (List ℕ)) → ℕ → ℕ → ℕ → List (List ℕ)
left_after left place n i = if i == place then drop n (left i) else left i

-- the link at a place gave a frame, which stands in the octets, cut to 2,400
pub record Polled {L : Type 0} (told : L → Option LinkStory) (nodes : ℕ → Node) (links : List L) (place : ℕ) (left : ℕ → List (List ℕ)) (all : List Send) (octets : List ℕ) : Type 0 where
  pub frame : List ℕ
  pub first : take 1 (left place) ≡ frame ∷ []
  pub octets_are : octets ≡ take most_octets frame
  pub tell : Tell told nodes links (left_after left place 1) all

-- it gave a frame, whose octets stand in the buffer's front, or none, as it had none; or it failed, and all is as it was
abbrev pub Polls : {L E : Type 0} → (L → Option LinkStory) → (ℕ → Node) → List L → ℕ → (ℕ → List (List ℕ)) → List Send → Result (Option ℕ) E → List ℕ → Type 0
Polls told nodes links place left all result buf =
    MatchResult result
    (λ given. MatchOption given ((left place ≡ []) × Tell told nodes links left all) (λ size. Polled told nodes links place left all (take size buf)))
    (λ _. Tell told nodes links left all)

-- What the nodes of a list take of their links in a turn, whatever the round of one delivery does (profile).
use Rattle.std.specs.Prelude.{◌≡◌, ◌≢◌, ℕ, zero, suc, ◌+◌, ◌<◌, ◌≤◌, List, [], ◌∷◌, ◌++◌, ◌⊎◌, Option, if◌then◌else◌, nat_lt, map, length, take, drop, Result, MatchResult}
use Rattle.domain_base.specs.declared.names.Node.{Node}
use Rattle.domain_base.specs.declared.outside.LinkError.TheVariants.{Failed, NoMemory}
use Rattle.domain_base.specs.Told.{LinkStory}
use Rattle.run_journal.specs.Limits.{most_octets, most_polls}
use Rattle.domain_links.specs.declared.breaks.Break.{Break}
use Rattle.domain_links.specs.declared.breaks.Break.TheVariants.{ByLink, ByWrite}
use Rattle.domain_links.specs.Sends.{Send}
use Rattle.domain_links.specs.Telling.{Tell, left_after}

-- a frame that a node takes
pub record Delivery : Type 0 where
  pub node : Node
  pub octets : List ℕ

-- the deliveries of frames to one node
abbrev pub of_node : Node → List (List ℕ) → List Delivery
of_node node given = map (λ (octets : List ℕ). record { node = node; octets = octets }) given

-- the first of these is a round, in which that node takes those octets, and the rest follow
pub record RoundFirst {S : Type 0} (Round : Node → List ℕ → S → S → Type 0) (first : Delivery) (Rest : S → Type 0) (before : S) : Type 0 where
  pub mid : S
  pub round : Round first.node first.octets before mid
  pub rest : Rest mid

-- each of these is a round, one after another
unfoldable pub Rounds : {S : Type 0} → (Node → List ℕ → S → S → Type 0) → List Delivery → S → S → Type 0
Rounds Round [] before after = after ≡ before
Rounds Round (first ∷ given) before after = RoundFirst Round first (λ mid. Rounds Round given mid after) before

-- frames as they are taken: the first octets of each
abbrev pub cut : List (List ℕ) → List (List ℕ)
cut frames = map (take most_octets) frames

-- what the links have left once the nodes of the first places took theirs in a turn
abbrev pub left_past : (ℕ → List (List ℕ)) → ℕ → ℕ → List (List ℕ)
left_past left places i = if nat_lt i places then drop most_polls (left i) else left i

-- what the nodes of the first places take, in order, where the link at each place gives these
unfoldable pub in_order : (ℕ → Node) → (ℕ → List (List ℕ)) → ℕ → List Delivery
in_order nodes heard zero = []
in_order nodes heard (suc n) = in_order nodes heard n ++ of_node (nodes n) (heard n)

-- in a turn a link that has so many left gives a node its share of them
abbrev pub heard_of : (ℕ → List (List ℕ)) → ℕ → List (List ℕ)
heard_of left i = cut (take most_polls (left i))

-- what the first so many nodes take in a turn of links that tell
abbrev pub turn_of : (ℕ → Node) → (ℕ → List (List ℕ)) → ℕ → List Delivery
turn_of nodes left n = in_order nodes (heard_of left) n

-- so many frames were polled that no node took: where memory ran out one at most, else none
abbrev pub IsLost : Break → ℕ → Type 0
IsLost (ByLink NoMemory) lost = lost ≤ 1
IsLost (ByLink Failed) lost = lost ≡ 0
IsLost ByWrite lost = lost ≡ 0

-- it is for a link
abbrev pub IsByLink : Break → Type 0
IsByLink (ByLink error) = Unit {0}
IsByLink ByWrite = ⊥

-- where lines could not be written, that is so
abbrev pub OnWrite : Break → Type 0 → Type 0
OnWrite (ByLink error) P = Unit {0}
OnWrite ByWrite P = P

-- what of the last round's frames went out: a front that is not the whole; and none where its lines could not be written, which go
-- before them
abbrev pub IsCut : Break → List Send → List Send → Type 0
IsCut (ByLink error) front rest = rest ≢ []
IsCut ByWrite front rest = front ≡ []

-- what links have left once the node at each place took these of the frames that stood in front
abbrev pub left_heard : (ℕ → List (List ℕ)) → (ℕ → List (List ℕ)) → ℕ → List (List ℕ)
left_heard left heard i = drop (length (heard i)) (left i)

-- of what the last round sent a front went out that is not the whole, or none, and all that was sent before it; links have that left, and
-- `all` is what was sent so far
pub record TellRound {S L : Type 0} (told : L → Option LinkStory) (nodes : ℕ → Node) (Round : Node → List ℕ → S → S → Type 0) (all : S → List Send) (why : Break) (links : List L) (after : S) (left : ℕ → List (List ℕ)) : Type 0 where
  pub was : S
  pub node : Node
  pub octets : List ℕ
  pub round : Round node octets was after
  pub front : List Send
  pub rest : List Send
  pub whole : all was ++ (front ++ rest) ≡ all after
  pub missed : IsCut why front rest
  pub tell : Tell told nodes links left (all was ++ front)

-- links have that left, and all that was sent went out, which is so only where a link broke it, or a front of what the last round sent; the
-- second only where frames were taken, as else the last round was run before
abbrev pub TellCut : {S L : Type 0} → (L → Option LinkStory) → (ℕ → Node) → (Node → List ℕ → S → S → Type 0) → (S → List Send) → Break → List L → S → (ℕ → List (List ℕ)) → Type 0 → Type 0
TellCut told nodes Round all why links after left Took =
    (IsByLink why × Tell told nodes links left (all after)) ⊎ (Took × TellRound told nodes Round all why links after left)

-- a node took these octets, which its link gave, in a round, and what it sent went out; or at an error a front of it or none, and where
-- memory ran out it may have taken none
pub record Delivers {S L T : Type 0} (told : L → Option LinkStory) (nodes : ℕ → Node) (Round : Node → List ℕ → S → S → Type 0) (all : S → List Send) (place : ℕ) (octets : List ℕ) (links_old links_new : List L) (before after : S) (result : Result T Break) : Type 0 where
  pub given : List (List ℕ)
  pub few : (given ≡ octets ∷ []) ⊎ (given ≡ [])
  pub took : MatchResult result (λ _. Unit {0}) (λ why. OnWrite why (given ≢ []))
  pub rounds : Rounds Round (of_node (nodes place) given) before after
  pub tells : (left : ℕ → List (List ℕ)) → Tell told nodes links_old left (all before)
      → MatchResult result (λ _. (given ≡ octets ∷ []) × Tell told nodes links_new left (all after)) (λ error. (lost : ℕ) × IsLost error lost × (length given + lost ≡ 1) × TellCut told nodes Round all error links_new after left (given ≢ []))

-- a node took all of these frames, each cut
pub record TookAll {S L : Type 0} (told : L → Option LinkStory) (nodes : ℕ → Node) (all : S → List Send) (place n : ℕ) (links : List L) (after : S) (left : ℕ → List (List ℕ)) (given : List (List ℕ)) : Type 0 where
  pub all_of : given ≡ cut (take n (left place))
  pub tell : Tell told nodes links (left_after left place n) (all after)

-- a node took a front of the frames, and what it sent went out; its link has those left that it did not take, but for one that was lost
pub record TookPart {S L : Type 0} (told : L → Option LinkStory) (nodes : ℕ → Node) (Round : Node → List ℕ → S → S → Type 0) (all : S → List Send) (error : Break) (place n : ℕ) (links : List L) (after : S) (left : ℕ → List (List ℕ)) (given : List (List ℕ)) : Type 0 where
  pub rest : List (List ℕ)
  pub whole : given ++ rest ≡ cut (take n (left place))
  pub lost : ℕ
  pub few_lost : IsLost error lost
  pub part : TellCut told nodes Round all error links after (left_after left place (length given + lost)) (given ≢ [])

-- the node at a place took up to n frames of its link
pub record Takes {S L T : Type 0} (told : L → Option LinkStory) (nodes : ℕ → Node) (Round : Node → List ℕ → S → S → Type 0) (all : S → List Send) (place n : ℕ) (links_old links_new : List L) (before after : S) (result : Result T Break) : Type 0 where
  pub given : List (List ℕ)
  pub few : length given ≤ n
  pub took : MatchResult result (λ _. Unit {0}) (λ why. OnWrite why (given ≢ []))
  pub rounds : Rounds Round (of_node (nodes place) given) before after
  pub tells : (left : ℕ → List (List ℕ)) → Tell told nodes links_old left (all before)
      → MatchResult result (λ _. TookAll told nodes all place n links_new after left given) (λ error. TookPart told nodes Round all error place n links_new after left given)

-- what the nodes of the first places take in a turn, all of it
pub record TurnAll {S L : Type 0} (told : L → Option LinkStory) (nodes : ℕ → Node) (all : S → List Send) (places : ℕ) (links : List L) (after : S) (left heard : ℕ → List (List ℕ)) (given : List Delivery) : Type 0 where
  pub all_of : given ≡ turn_of nodes left places
  pub each : (i : ℕ) → i < places → heard i ≡ heard_of left i
  pub tell : Tell told nodes links (left_past left places) (all after)

-- or a front of it: each link has those left that its node did not take, but for one that was lost
pub record TurnPart {S L : Type 0} (told : L → Option LinkStory) (nodes : ℕ → Node) (Round : Node → List ℕ → S → S → Type 0) (all : S → List Send) (error : Break) (places : ℕ) (links : List L) (after : S) (left heard : ℕ → List (List ℕ)) (given : List Delivery) : Type 0 where
  pub rest : List Delivery
  pub whole : given ++ rest ≡ turn_of nodes left places
  pub place : ℕ
  pub lost : ℕ
  pub few_lost : IsLost error lost
  pub part : TellCut told nodes Round all error links after (left_after (left_heard left heard) place lost) (given ≢ [])

-- the nodes of the first places took frames of their links, in node order and up to that many each, whether or not these tell; where they
-- tell, what they had in front
pub record TakesTurn {S L T : Type 0} (told : L → Option LinkStory) (nodes : ℕ → Node) (Round : Node → List ℕ → S → S → Type 0) (all : S → List Send) (places : ℕ) (links_old links_new : List L) (before after : S) (result : Result T Break) : Type 0 where
  pub given : List Delivery
  pub heard : ℕ → List (List ℕ)
  pub few : (i : ℕ) → length (heard i) ≤ most_polls
  pub order : given ≡ in_order nodes heard places
  pub took : MatchResult result (λ _. Unit {0}) (λ why. OnWrite why (given ≢ []))
  pub rounds : Rounds Round given before after
  pub tells : (left : ℕ → List (List ℕ)) → Tell told nodes links_old left (all before)
      → MatchResult result (λ _. TurnAll told nodes all places links_new after left heard given) (λ error. TurnPart told nodes Round all error places links_new after left heard given)

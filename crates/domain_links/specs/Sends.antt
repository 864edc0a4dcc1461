-- Which frames go out for the entries of a journal, and by whose link (profile).
use Rattle.std.specs.Prelude.{◌≡◌, ◌≢◌, ℕ, List, [], ◌∷◌, ◌++◌, ◌==◌, Option, Some, None, if◌then◌else◌, map, flat_map, Result, MatchResult}
use Rattle.domain_base.specs.declared.names.Node.{Node}
use Rattle.domain_base.specs.declared.radio.SentFrame.{SentFrame}
use Rattle.domain_base.specs.Told.{LinkStory}
use Rattle.run_journal.specs.declared.domain.Domain.{Domain}
use Rattle.run_journal.specs.declared.acts.Act.{Act}
use Rattle.run_journal.specs.declared.acts.Act.TheVariants.{Sent}
use Rattle.run_journal.specs.declared.acts.Entry.{Entry}
use Rattle.domain_links.specs.NodeOrder.{place_of, nodes_of, receiver_of}

-- a frame for each of these nodes
abbrev pub frames_to : List Node → List ℕ → List SentFrame
frames_to nodes octets = map (λ (to : Node). record { to = to; octets = octets }) nodes

-- the frame that an act sends
abbrev pub frame_sent : Act → Option (List ℕ)
frame_sent (Sent peer kind octets seal) = Some octets
frame_sent _ = None

-- what goes out for a frame: it goes to whom it is for
abbrev pub frames_out : Domain → Option (List ℕ) → List SentFrame
frames_out d (Some octets) = frames_to (nodes_of d (receiver_of d octets)) octets
frames_out d None = []

-- a frame, and the place of the node by whose link it goes
pub record Send : Type 0 where
  pub by : ℕ
  pub frame : SentFrame

-- frames that go out by the link of one place
abbrev pub sends_by : ℕ → List SentFrame → List Send
sends_by place frames = map (λ (f : SentFrame). record { by = place; frame = f }) frames

-- what goes out for an entry: by the link of its node
abbrev pub sends_of : Domain → Entry → List Send
sends_of d entry = sends_by (place_of d entry.node) (frames_out d (frame_sent entry.act))

-- what goes out for entries, in order
abbrev pub sends : Domain → List Entry → List Send
sends d entries = flat_map (sends_of d) entries

-- the frames of one place among them, in order
abbrev pub of_place : ℕ → Send → List SentFrame
of_place place s = if s.by == place then s.frame ∷ [] else []

abbrev pub sent_by : ℕ → List Send → List SentFrame
sent_by place all = flat_map (of_place place) all

-- a link that sent more: those frames stand at the end of those sent
abbrev pub after_frames : LinkStory → List SentFrame → LinkStory
after_frames story frames = record story { sent = story.sent ++ frames }

-- all of these frames went out by a link, or at an error a front of them that is not the whole
abbrev pub SendsFront : {T E : Type 0} → LinkStory → Option LinkStory → List SentFrame → Result T E → Type 0
SendsFront story new frames result =
    MatchResult result
    (λ _. new ≡ Some (after_frames story frames))
    (λ _. (front rest : List SentFrame) × (front ++ rest ≡ frames) × (rest ≢ []) × (new ≡ Some (after_frames story front)))

-- The events of a storm. Of what an event names, each is drawn in the order of the lines (profile).
use Rattle.std.specs.Prelude.{ℕ, ◌+◌, ◌-◌, ◌==◌, Bool, min, nat_le, nat_lt, if◌then◌else◌, Some, None, List, codes, length}
use Rattle.domain_base.specs.declared.names.Node.{Node}
use Rattle.domain_base.specs.declared.names.Node.TheVariants.{Ap, Sta}
use Rattle.domain_base.specs.declared.names.Peer.{Peer}
use Rattle.domain_base.specs.declared.names.Peer.TheVariants.{One, All}
use Rattle.run_journal.specs.declared.domain.Event.{Event}
use Rattle.run_journal.specs.declared.domain.Event.TheVariants.{Connect, Roam, Deliver, Alter, Retry, Rekey, Send, Expire, Revoke, Leave}
use Rattle.storm.specs.declared.seen.Frame.{Frame}
use Rattle.storm.specs.Drawing.{Draws, ◌>>=◌, given, next}
use Rattle.storm.specs.Frames.{frame_at}

-- a station and an access point, by their places from 0: the station is drawn first
abbrev pub sta_and_ap : (ℕ → ℕ → Draws Event) → Draws Event
sta_and_ap event = do
  sta ← next 8
  ap ← next 4
  event sta ap

-- the station connects to the access point
unfoldable pub connect : Draws Event
connect = sta_and_ap (λ sta ap. given (Connect sta ap))

-- the station roams to the access point
unfoldable pub roam : Draws Event
roam = sta_and_ap (λ sta ap. given (Roam sta ap))

-- the node is one of the storm's
abbrev pub is_listed : Node → Bool
is_listed (Ap k) = nat_lt k 4
is_listed (Sta k) = nat_lt k 8

-- any station, drawn
abbrev pub any_sta : Draws Node
any_sta = do
  sta ← next 8
  given (Sta sta)

-- to whom a frame comes: to whom it was sent, and where that is all, to a station; nodes of the storm send to no others
unfoldable pub receiver : Peer → Draws Node
receiver (One node) = if is_listed node then given node else any_sta
receiver All = any_sta

-- the number of one of the last eight frames
unfoldable pub late_number : List Frame → Draws ℕ
late_number frames = do
  back ← next (min (length frames) 8)
  given (length frames - back)

-- the number of any frame, drawn
unfoldable pub any_number : List Frame → Draws ℕ
any_number frames = do
  earlier ← next (length frames)
  given (1 + earlier)

-- the frame of that number comes as it was sent
unfoldable pub deliver : List Frame → ℕ → Draws Event
deliver frames number = do
  to ← receiver (frame_at frames number).to
  given (Deliver number to)

-- or with one octet changed; nodes send no frame without octets, which would come as it was sent
abbrev pub alter_octet : Frame → ℕ → Draws Event
alter_octet frame number = do
  place ← next frame.size
  more ← next 255
  to ← receiver frame.to
  given (Alter number place (1 + more) to)

-- a frame that was sent, with one octet changed; one without octets comes as it was
unfoldable pub alter : List Frame → ℕ → Draws Event
alter frames number =
    if (frame_at frames number).size == 0 then deliver frames number else alter_octet (frame_at frames number) number

-- the access point sends again what it waits to have answered of the station
unfoldable pub retry : Draws Event
retry = sta_and_ap (λ sta ap. given (Retry ap sta))

-- a payload of one octet: from the station as QoS data, from the access point to the station, or to all
abbrev pub send_of : ℕ → ℕ → ℕ → Event
send_of sta ap way =
    if way == 0 then Send (Sta sta) (One (Ap ap)) (Some 3) (codes "s")
    else if way == 1 then Send (Ap ap) (One (Sta sta)) None (codes "a")
    else Send (Ap ap) All None (codes "g")

-- a payload, drawn
unfoldable pub send : Draws Event
send = sta_and_ap (λ sta ap. do
  way ← next 3
  given (send_of sta ap way))

-- an access point draws a new group key
unfoldable pub rekey : Draws Event
rekey = do
  ap ← next 4
  given (Rekey ap)

-- what ends something, or again what waits for an answer
abbrev pub other_of : ℕ → ℕ → ℕ → Event
other_of sta ap way =
    if way == 0 then Revoke ap sta
    else if way == 1 then Expire ap sta
    else if way == 2 then Leave sta
    else Retry ap sta

-- one of these, drawn
unfoldable pub other : Draws Event
other = sta_and_ap (λ sta ap. do
  way ← next 4
  given (other_of sta ap way))

-- the event by a number below 16
unfoldable pub event_by : List Frame → ℕ → Draws Event
event_by frames choice =
    if choice == 0 then connect
    else if nat_le choice 2 then roam
    else if nat_le choice 9 then late_number frames >>= deliver frames
    else if choice == 10 then any_number frames >>= deliver frames
    else if choice == 11 then late_number frames >>= alter frames
    else if choice == 12 then retry
    else if choice == 13 then send
    else if choice == 14 then rekey
    else other

-- the next event, where these frames were sent; where none was, a station connects
unfoldable pub event_of : List Frame → Draws Event
event_of frames = do
  choice ← next 16
  event_by frames (if length frames == 0 then 0 else choice)

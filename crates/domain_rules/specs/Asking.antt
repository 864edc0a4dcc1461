-- What a verdict asks of the history of a node, and the tests that messages have in common (profile).
use Rattle.std.specs.Prelude.{ℕ, ◌+◌, max, Bool, true, false, ◌==◌, nat_lt, List, [], ◌∷◌, ◌++◌, drop, map, Option, Some, None, is_some, option_and_then, unwrap_or, bytes_eq, if◌then◌else◌}
use Rattle.std.specs.List.{list_any}
use Rattle.std.specs.Int.{w64}
use Rattle.domain_base.specs.declared.names.Akm.{Akm}
use Rattle.domain_base.specs.declared.names.Node.{Node}
use Rattle.domain_base.specs.Places.{big_endian_at}
use Rattle.air_frame.specs.Control.{data_header_length}
use Rattle.mac_prf.specs.Mic.{mic}
use Rattle.eapol_key.specs.declared.messages.Message.{Message}
use Rattle.eapol_key.specs.declared.messages.Message.TheVariants.{M3, G1}
use Rattle.eapol_key.specs.Messages.{has_bit}
use Rattle.run_journal.specs.declared.acts.Start.{Start}
use Rattle.run_journal.specs.declared.acts.Start.TheVariants.{Connect, Roam, Renew}
use Rattle.run_journal.specs.declared.acts.Kind.{Kind}
use Rattle.run_journal.specs.declared.acts.Kind.TheVariants as kind
use Rattle.run_journal.specs.declared.acts.Reason.TheVariants as reason
use Rattle.run_journal.specs.declared.acts.Outcome.{Outcome}
use Rattle.run_journal.specs.declared.acts.Outcome.TheVariants.{Refused}
use Rattle.run_journal.specs.declared.acts.Act.{Act}
use Rattle.run_journal.specs.declared.acts.Act.TheVariants.{Opened}
use Rattle.run_journal.specs.Questions.{attempt, own_nonce, heard, all_replied, all_sent}
use Rattle.run_journal.specs.Holders.{before_finished}
use Rattle.domain_rules.specs.Reading.{KeyMessage}

-- the replay counter of an EAPOL-Key frame in data (IEEE Std 802.11-2020, 12.7.2)
abbrev pub replay_counter : List ℕ → ℕ
replay_counter octets = big_endian_at w64 9 (drop (data_header_length octets + 8) octets)

-- the greater of a number and one that may be there
abbrev pub at_least : ℕ → Option ℕ → Option ℕ
at_least x None = Some x
at_least x (Some y) = Some (max x y)

-- the greatest of numbers, where there is one
abbrev pub greatest : List ℕ → Option ℕ
greatest [] = None
greatest (x ∷ xs) = at_least x (greatest xs)

-- at a station: the greatest replay counter of an M3 or G1 accepted or answered from p, in the part of the history that
-- is given (IEEE Std 802.11-2020, 12.7.2, profile)
abbrev pub kept_counter : Node → List Act → Option ℕ
kept_counter p part =
    greatest (map replay_counter (all_replied p (kind.Key M3) part ++ all_replied p (kind.Key G1) part))

-- at an access point: the replay counters of the messages of that kind sent to p, in that part (IEEE Std 802.11-2020,
-- 12.7.2, profile)
abbrev pub offered : Node → Message → List Act → List ℕ
offered p m part = map replay_counter (all_sent p (kind.Key m) part)

-- how the attempt began that an act opens
abbrev pub start_in : Act → Option Start
start_in (Opened p start) = Some start
start_in _ = None

-- how the attempt began, of which this is the history
abbrev pub start_of : List Act → Option Start
start_of [] = None
start_of (e ∷ []) = start_in e
start_of (e ∷ f ∷ h) = start_of (f ∷ h)

-- an attempt that began so began by connect, and so did one of that history
abbrev pub is_connect : Option Start → Bool
is_connect (Some Connect) = true
is_connect _ = false

abbrev pub by_connect : List Act → Bool
by_connect part = is_connect (start_of part)

-- it has a four-way handshake
abbrev pub has_four_way : Option Start → Bool
has_four_way (Some Connect) = true
has_four_way (Some Renew) = true
has_four_way _ = false

abbrev pub is_four_way : List Act → Bool
is_four_way part = has_four_way (start_of part)

-- it began by fast transition
abbrev pub is_roam : Option Start → Bool
is_roam (Some Roam) = true
is_roam _ = false

abbrev pub is_by_roam : List Act → Bool
is_by_roam part = is_roam (start_of part)

-- it renews the key of a session
abbrev pub is_renewal : Option Start → Bool
is_renewal (Some Renew) = true
is_renewal _ = false

abbrev pub is_by_renewal : List Act → Bool
is_by_renewal part = is_renewal (start_of part)

-- an attempt goes on that renews the key of a session
abbrev pub in_renewal : Option (List Act) → Bool
in_renewal None = false
in_renewal (Some part) = is_by_renewal part

-- how the session with p began: as the attempt that its final message ended
abbrev pub session_start : Node → List Act → Option Start
session_start p h =
    option_and_then start_of (option_and_then (λ (before : List Act). attempt p before) (before_finished p h))

-- a frame of that kind was accepted in it
abbrev pub has_heard : Node → Kind → List Act → Bool
has_heard p k part = is_some (heard p k part)

-- the attempt's own nonce
abbrev pub own : List Act → List ℕ
own part = unwrap_or (own_nonce part) []

-- the Secure bit of an EAPOL-Key frame is set (IEEE Std 802.11-2020, 12.7.2)
abbrev pub is_secure : KeyMessage → Bool
is_secure k = has_bit k.fields.information 9

-- refused as unawaited where there is no attempt
abbrev pub in_attempt : Option (List Act) → (List Act → Outcome) → Outcome
in_attempt None then_ = Refused reason.Unawaited
in_attempt (Some part) then_ = then_ part

-- refused where the counter is not above the kept one (IEEE Std 802.11-2020, 12.7.2, profile)
abbrev pub above : Option ℕ → ℕ → Outcome → Outcome
above None counter then_ = then_
above (Some kept) counter then_ = if nat_lt kept counter then then_ else Refused (reason.Counter kept)

-- refused where the counter is none of those offered (IEEE Std 802.11-2020, 12.7.2, profile)
abbrev pub among : List ℕ → ℕ → Outcome → Outcome
among counters counter then_ =
    if list_any (λ c. c == counter) counters then then_ else Refused (reason.Counter (unwrap_or (greatest counters) 0))

-- refused where the MIC does not verify
abbrev pub verified : Akm → List ℕ → KeyMessage → Outcome → Outcome
verified akm kck k then_ = if bytes_eq k.fields.mic (mic akm kck k.octets) then then_ else Refused reason.Mic

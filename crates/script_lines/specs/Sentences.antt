-- What is found in a line before memory is taken for it, and what is kept of the lines before (profile).
use Rattle.std.specs.Prelude.{◌≡◌, ℕ, ◌<◌, ◌≤◌, ◌&&◌, Bool, nat_le, IsTrue, List, [], length, is_some, Result, Ok, Err, MatchResult}
use Rattle.run_journal.specs.Limits.{most_aps, most_stas, most_events}
use Rattle.run_journal.specs.Events.{IsListed}
use Rattle.run_journal.specs.declared.domain.Domain.{Domain}
use Rattle.run_journal.specs.declared.domain.ListedSta.{ListedSta}
use Rattle.run_journal.specs.declared.domain.Event.{Event}
use Rattle.run_journal.specs.declared.domain.Event.TheVariants.{Inject, Send, Announce}
use Rattle.script_lines.specs.declared.step.Step.{Step}
use Rattle.script_lines.specs.declared.step.Step.TheVariants as step
use Rattle.script_lines.specs.declared.refusal.Refusal.{Refusal}
use Rattle.script_lines.specs.declared.refusal.Untaken.{Untaken}
use Rattle.script_lines.specs.declared.refusal.Untaken.TheVariants as untaken
use Rattle.script_lines.specs.declared.header.Due.{Due}
use Rattle.script_lines.specs.declared.header.Due.TheVariants as dues
use Rattle.script_lines.specs.declared.header.Header.{Header}
use Rattle.script_lines.specs.declared.header.HeaderLine.{HeaderLine}
use Rattle.script_lines.specs.declared.events.Asked.{Asked}
use Rattle.script_lines.specs.declared.events.Asked.TheVariants as asked
use Rattle.script_lines.specs.Due.{is_fit}
use Rattle.script_lines.specs.Refusals.{fault_of}
use Rattle.script_words.specs.Tokens.{hex_value}
use Rattle.script_words.specs.Names.{octets_of}
use Rattle.script_lines.specs.Script.{Fault, Draft, AtHeader, AtNodes, Said, ListsSta, header_line}
use Rattle.script_lines.specs.Headers.{CanHappen, IsAtAp, IsHeaderStep, IsNetwork}

-- ---- what is found in a line

-- what is found is what is meant
abbrev pub TellsBy : {A B : Type 0} → (A → B) → Result A Refusal → Result B Fault → Type 0
TellsBy view found meant = MatchResult found (λ a. meant ≡ Ok (view a)) (λ r. meant ≡ Err (fault_of r))

abbrev pub Tells : {A : Type 0} → Result A Refusal → Result A Fault → Type 0
Tells found meant = MatchResult found (λ a. meant ≡ Ok a) (λ r. meant ≡ Err (fault_of r))

-- the event that is asked for
abbrev pub event_of : Asked → Event
event_of (asked.Event event) = event
event_of (asked.Inject to digits) = Inject to (octets_of digits.now)
event_of (asked.Send from to tid digits) = Send from to tid (octets_of digits.now)
event_of (asked.Announce ap digits) = Announce ap (octets_of digits.now)

-- that the station is listed, with its key
abbrev pub lists_sta : ListedSta → Said
lists_sta s = ListsSta s.address s.psk

-- it can be asked in the network, and digits are digits
abbrev pub CanAsk : Domain → List ℕ → Asked → Type 0
CanAsk d sizes (asked.Event event) = CanHappen d sizes event
CanAsk d sizes (asked.Inject to digits) = IsListed d to × IsTrue (is_some (hex_value digits.now))
CanAsk d sizes (asked.Send from to tid digits) =
    IsTrue (is_some (hex_value digits.now)) × CanHappen d sizes (Send from to tid (octets_of digits.now))
CanAsk d sizes (asked.Announce ap digits) =
    IsTrue (is_some (hex_value digits.now)) × CanHappen d sizes (Announce ap (octets_of digits.now))

-- it can be asked in a round that has so many events
abbrev pub CanJoin : Domain → ℕ → List ℕ → Asked → Type 0
CanJoin d count sizes a = CanHappen d sizes (event_of a) × (IsAtAp (event_of a) × (count < most_events))

-- ---- what is kept

-- so few nodes are listed that a number of 16 bits counts them
abbrev pub is_few : Domain → Bool
is_few d = nat_le (length d.aps) most_aps && nat_le (length d.stas) most_stas

-- a header lists no node before it is whole
abbrev pub IsAhead : HeaderLine → Header → Type 0
IsAhead awaited h = IsTrue (is_fit awaited h) × ((h.network.aps ≡ []) × (h.network.stas ≡ []))

-- what is kept: that of a header, few nodes once it is whole, and at most so many events in a round
abbrev pub IsKept : Due → Type 0
IsKept dues.Version = Unit {0}
IsKept (dues.Header awaited header) = IsAhead awaited header
IsKept (dues.Nodes header) = IsTrue (is_few header.network)
IsKept (dues.Round header count) = IsTrue (is_few header.network) × (count ≤ most_events)

-- ---- a line of the header

-- what a line of the header says is taken, or it is refused for its fault
abbrev pub TakesHeader : HeaderLine → Header → Draft → List ℕ → List ℕ → Result Step Untaken → Type 0
TakesHeader awaited h new word text (Ok step.Nothing) = (header_line awaited h word text ≡ Ok new) × IsHeaderStep (AtHeader awaited h) new
TakesHeader awaited h new word text (Ok step.Network) = (e : Header) × ((header_line awaited h word text ≡ Ok new) × ((new ≡ AtNodes e) × IsNetwork e.network))
TakesHeader awaited h new word text (Ok _) = ⊥
TakesHeader awaited h new word text (Err (untaken.Refused refusal)) = (header_line awaited h word text ≡ Err (fault_of refusal)) × (new ≡ AtHeader awaited h)
TakesHeader awaited h new word text (Err untaken.NoMemory) = new ≡ AtHeader awaited h

-- What a line can list, or ask for, in the network so far (profile).
use Rattle.std.specs.Prelude.{◌≡◌, ◌≢◌, ℕ, ◌<◌, ◌≤◌, true, List, [], length, Some}
use Rattle.std.specs.List.{AllByRecursion}
use Rattle.domain_base.specs.declared.names.Mac.{Mac}
use Rattle.domain_base.specs.declared.names.Node.TheVariants.{Ap}
use Rattle.run_journal.specs.declared.domain.Domain.{Domain}
use Rattle.run_journal.specs.Limits.{most_aps, most_stas}
use Rattle.run_journal.specs.Events.{IsEventOf}
use Rattle.run_journal.specs.declared.domain.ListedAp.{ListedAp}
use Rattle.run_journal.specs.declared.domain.ListedSta.{ListedSta}
use Rattle.run_journal.specs.declared.domain.Event.{Event}
use Rattle.run_journal.specs.declared.domain.Event.TheVariants.{Deliver, Alter, Cut, Inject, Retry, Rekey, Send, Expire, Revoke}
use Rattle.script_words.specs.Tokens.{is_single}
use Rattle.script_lines.specs.Script.{Draft, AtNodes, InRound, size_of}

-- a line that tells no more does not end the header, and after the header changes nothing
abbrev pub IsHeaderStep : Draft → Draft → Type 0
IsHeaderStep old (AtNodes h) = old ≡ AtNodes h
IsHeaderStep old (InRound h count) = old ≡ InRound h count
IsHeaderStep old new = Unit {0}

-- the network of a header, without nodes: its SSID has 1 to 32 octets
pub record IsNetwork (d : Domain) : Type 0 where
  pub some : 1 ≤ length d.ssid
  pub few : length d.ssid ≤ 32
  pub no_aps : d.aps ≡ []
  pub no_stas : d.stas ≡ []

-- an address of one node that no listed node has
pub record IsFreeAddress (d : Domain) (address : Mac) : Type 0 where
  pub single : is_single address.0 ≡ true
  pub no_ap : AllByRecursion (λ (a : ListedAp). a.address ≢ address) d.aps
  pub no_sta : AllByRecursion (λ (s : ListedSta). s.address ≢ address) d.stas

-- an access point can be listed so
pub record CanListAp (d : Domain) (address : Mac) (r0kh_id : List ℕ) : Type 0 where
  pub address_ : IsFreeAddress d address
  pub some : 1 ≤ length r0kh_id
  pub few : length r0kh_id ≤ 48
  pub other : AllByRecursion (λ (a : ListedAp). a.r0kh_id ≢ r0kh_id) d.aps
  pub room : length d.aps < most_aps

-- a station can be listed so
pub record CanListSta (d : Domain) (address : Mac) : Type 0 where
  pub address_ : IsFreeAddress d address
  pub room : length d.stas < most_stas

-- one line of the header that may be left out can come yet: no node is listed
pub record CanAddExtra (d : Domain) : Type 0 where
  pub no_aps : d.aps ≡ []
  pub no_stas : d.stas ≡ []

-- the frame of that number was sent with that many octets at least
pub record IsSized (sizes : List ℕ) (number size : ℕ) : Type 0 where
  pub some : 1 ≤ number
  pub sent : number ≤ length sizes
  pub whole : ℕ
  pub is : size_of sizes number ≡ Some whole
  pub within : size ≤ whole

-- the nodes of an event are listed, and of its frame, that was sent, so much is asked as there is
abbrev pub CanHappen : Domain → List ℕ → Event → Type 0
CanHappen d sizes = IsEventOf d (IsSized sizes)

-- the event is one at an access point, so that it can stand in a round
abbrev pub IsAtAp : Event → Type 0
IsAtAp (Deliver number (Ap k)) = Unit {0}
IsAtAp (Alter number place mask (Ap k)) = Unit {0}
IsAtAp (Cut number size (Ap k)) = Unit {0}
IsAtAp (Inject (Ap k) octets) = Unit {0}
IsAtAp (Send (Ap k) to tid octets) = Unit {0}
IsAtAp (Retry a s) = Unit {0}
IsAtAp (Rekey a) = Unit {0}
IsAtAp (Expire a s) = Unit {0}
IsAtAp (Revoke a s) = Unit {0}
IsAtAp event = ⊥

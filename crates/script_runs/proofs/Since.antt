-- The header of a script, where its world has the network as it is now.
use Rattle.std.proofs.Common.{◌≡◌, ◌≢◌, ◌∙◌, ℕ, zero, suc, ◌<◌, ◌≤◌, List, [], ◌∷◌, length, Option, Some, None, refl, sym, subst}
use Rattle.std.specs.List.{AllByRecursion}
use Rattle.domain_base.specs.Octets.{AreOctets}
use Rattle.domain_base.specs.declared.names.Mac.{Mac}
use Rattle.domain_base.specs.declared.names.Node.{Node}
use Rattle.domain_base.specs.declared.names.Node.TheVariants.{Ap, Sta}
use Rattle.domain_base.specs.declared.names.Peer.{Peer}
use Rattle.domain_base.specs.declared.names.Peer.TheVariants.{One, All}
use Rattle.run_journal.specs.declared.domain.Domain.{Domain}
use Rattle.run_journal.specs.declared.domain.ListedAp.{ListedAp}
use Rattle.run_journal.specs.declared.domain.ListedSta.{ListedSta}
use Rattle.run_journal.specs.declared.domain.Event.{Event}
use Rattle.run_journal.specs.declared.domain.Event.TheVariants.{Connect, Roam, Deliver, Alter, Cut, Inject, Retry, Rekey, Send, Expire, Revoke, Leave, Secret, Renew, Announce}
use Rattle.run_journal.specs.declared.acts.Entry.{Entry}
use Rattle.run_journal.specs.Events.{IsListed, IsPeerOf, IsReceiverOf, IsEventOf}
use Rattle.run_journal.specs.Limits.{most_stas}
use Rattle.domain_rules.specs.InOctets.{InOctets}
use Rattle.domain_rules.specs.Network.{InForm, AreStas}
use Rattle.domain_rules.specs.Present.{keyed, present}
use Rattle.domain_rules.proofs.PresentNetwork.{length_keyed}
use Rattle.domain_rules.proofs.Unchanged.{present_none}
use Rattle.domain_world.specs.State.{State}
use Rattle.domain_world.specs.Owning.{Owns, IsSince}
use Rattle.script_lines.specs.Headers.{CanHappen, IsSized}
use Rattle.script_lines.specs.Script.{Draft, AtVersion, AtHeader, AtNodes, InRound}
use Rattle.script_runs.specs.States.{Waiting, IsAt}

-- ---- what can happen

low_now : (c : Domain) (j : List Entry) (s : ℕ) → s < length c.stas → s < length (present c j).stas
low_now c j s low = subst (λ (n : ℕ). s < n) (sym (length_keyed j zero c.stas)) low

listed_now : (c : Domain) (j : List Entry) (n : Node) → IsListed c n → IsListed (present c j) n
listed_now c j (Ap k) low = low
listed_now c j (Sta k) low = low_now c j k low

peer_now : (c : Domain) (j : List Entry) (n p : Node) → IsPeerOf c n p → IsPeerOf (present c j) n p
peer_now c j (Ap k) (Sta i) low = low_now c j i low
peer_now c j (Sta k) (Ap i) low = low
peer_now c j (Ap k) (Ap i) low = absurd low
peer_now c j (Sta k) (Sta i) low = absurd low

receiver_now : (c : Domain) (j : List Entry) (n : Node) (q : Peer) → IsReceiverOf c n q → IsReceiverOf (present c j) n q
receiver_now c j n (One p) is = peer_now c j n p is
receiver_now c j (Ap k) All is = is
receiver_now c j (Sta k) All is = absurd is

event_now : (c : Domain) (j : List Entry) (There : ℕ → ℕ → Type 0) (e : Event) → IsEventOf c There e → IsEventOf (present c j) There e
event_now c j There (Connect s a) can = (low_now c j s can.0, can.1)
event_now c j There (Roam s a) can = (low_now c j s can.0, can.1, can.2)
event_now c j There (Deliver number to) can = (listed_now c j to can.0, can.1)
event_now c j There (Alter number place mask to) can = (listed_now c j to can.0, can.1)
event_now c j There (Cut number size to) can = (listed_now c j to can.0, can.1)
event_now c j There (Inject to octets) can = listed_now c j to can
event_now c j There (Retry a s) can = (can.0, low_now c j s can.1)
event_now c j There (Rekey a) can = can
event_now c j There (Send from to tid octets) can = (listed_now c j from can.0, receiver_now c j from to can.1, can.2)
event_now c j There (Expire a s) can = (can.0, low_now c j s can.1)
event_now c j There (Revoke a s) can = (can.0, low_now c j s can.1)
event_now c j There (Leave s) can = low_now c j s can
event_now c j There (Secret None psk) can = can
event_now c j There (Secret (Some s) psk) can = (can.0, low_now c j s can.1)
event_now c j There (Renew a s) can = (can.0, low_now c j s can.1, can.2)
event_now c j There (Announce a octets) can = can

-- what can happen by the header can in the world
pub can_since : (c : Domain) (w : State) (j : List Entry) (sizes : List ℕ) (e : Event) → IsSince c w j → CanHappen c sizes e → CanHappen w.domain sizes e
can_since c w j sizes e since can = subst (λ (d : Domain). CanHappen d sizes e) since.is_present (event_now c j (IsSized sizes) e can)

-- ---- the header is in form where the network is

all_before : (P : Mac → Type 0) (j : List Entry) (k : ℕ) (stas : List ListedSta) → AllByRecursion (λ (s : ListedSta). P s.address) (keyed j k stas) → AllByRecursion (λ (s : ListedSta). P s.address) stas
all_before P j k [] all = tt
all_before P j k (s ∷ stas) all = (all.0, all_before P j (suc k) stas all.1)

stas_before : (aps : List ListedAp) (j : List Entry) (k : ℕ) (stas : List ListedSta) → AreStas aps (keyed j k stas) → AreStas aps stas
stas_before aps j k [] are = tt
stas_before aps j k (s ∷ stas) are = (
  are.0,
  record { no_ap = are.1.no_ap; no_sta = all_before (λ (m : Mac). m ≢ s.address) j (suc k) stas are.1.no_sta },
  stas_before aps j (suc k) stas are.2,
)

form_before : (c : Domain) (j : List Entry) → InForm (present c j) → InForm c
form_before c j form = record {
  some = form.some;
  few = form.few;
  aps = form.aps;
  stas = stas_before c.aps j zero c.stas form.stas;
  few_aps = form.few_aps;
  few_stas = subst (λ (n : ℕ). n ≤ most_stas) (length_keyed j zero c.stas) form.few_stas;
}

pub form_since : (c : Domain) (w : State) (j : List Entry) → IsSince c w j → InForm w.domain → InForm c
form_since c w j since form = form_before c j (subst InForm (sym since.is_present) form)

octets_before : (c : Domain) (j : List Entry) → InOctets (present c j) → InOctets c
octets_before c j octets = record {
  mdid = octets.mdid;
  ap_sizes = octets.ap_sizes;
  sta_sizes = all_before (λ (m : Mac). length m.0 ≡ 6) j zero c.stas octets.sta_sizes;
  mdid_octets = octets.mdid_octets;
  ap_octets = octets.ap_octets;
  sta_octets = all_before (λ (m : Mac). AreOctets m.0) j zero c.stas octets.sta_octets;
  id_octets = octets.id_octets;
}

pub octets_since : (c : Domain) (w : State) (j : List Entry) → IsSince c w j → InOctets w.domain → InOctets c
octets_since c w j since octets = octets_before c j (subst InOctets (sym since.is_present) octets)

-- ---- before the first round they are one

pub since_first : (c : Domain) (w : State) (j : List Entry) → Owns w j → w.rounds ≡ 0 → IsSince c w j → c ≡ w.domain
since_first c w j own first since = sym (present_none c j (own.unchanged first)) ∙ since.is_present

-- ---- where the script stands

abbrev pub network_in : Draft → Option Domain
network_in (AtNodes h) = Some h.network
network_in (InRound h count) = Some h.network
network_in AtVersion = None
network_in (AtHeader awaited h) = None

pub record HasHeader (draft : Draft) (w : State) (j : List Entry) : Type 0 where
  pub header : Domain
  pub is : network_in draft ≡ Some header
  pub since : IsSince header w j

pub header_at : (draft : Draft) (w : State) (a : Waiting) (sizes : List ℕ) (j : List Entry) → IsAt draft w a sizes j → HasHeader draft w j
header_at AtVersion w a sizes j at = absurd at
header_at (AtHeader awaited h) w a sizes j at = absurd at
header_at (AtNodes h) w a sizes j at = record { header = h.network; is = refl; since = at.0 }
header_at (InRound h count) w None sizes j at = absurd at
header_at (InRound h count) w (Some events) sizes j at = record { header = h.network; is = refl; since = at.since }

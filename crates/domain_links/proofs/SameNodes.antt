-- Networks that have the same nodes in the same order, whatever their keys: frames go out to the same nodes in both.
use Rattle.std.proofs.Common.{◌≡◌, ◌∙◌, ℕ, ◌+◌, ◌-◌, Bool, List, [], ◌∷◌, ◌++◌, length, Option, Some, None, if◌then◌else◌, refl, sym, ap, ap₂, subst, arith}
use Rattle.std.specs.Prelude.{position, bytes_eq, nat_lt}
use Rattle.domain_base.specs.declared.names.Node.{Node}
use Rattle.domain_base.specs.declared.names.Node.TheVariants.{Ap, Sta}
use Rattle.domain_base.specs.Places.{part}
use Rattle.run_journal.specs.Addresses.{is_group}
use Rattle.run_journal.specs.declared.domain.Domain.{Domain}
use Rattle.run_journal.specs.declared.domain.ListedAp.{ListedAp}
use Rattle.run_journal.specs.declared.domain.ListedSta.{ListedSta}
use Rattle.run_journal.specs.declared.acts.Entry.{Entry}
use Rattle.domain_links.specs.declared.node_order.Receiver.{Receiver}
use Rattle.domain_links.specs.declared.node_order.Receiver.TheVariants.{Stations, One, Nobody}
use Rattle.domain_links.specs.NodeOrder.{count, node_at, place_of, stations, found_at, with_address, receiver_of, nodes_of}
use Rattle.domain_links.specs.Sends.{Send, frames_to, frame_sent, frames_out, sends_by, sends}

-- a station has that address
abbrev pub has_address : List ℕ → ListedSta → Bool
has_address address s = bytes_eq s.address.0 address

pub record HasNodes (c d : Domain) : Type 0 where
  pub aps : d.aps ≡ c.aps
  pub stas : length d.stas ≡ length c.stas
  pub places : (address : List ℕ) → position (has_address address) d.stas ≡ position (has_address address) c.stas

pub same_nodes : (d : Domain) → HasNodes d d
same_nodes d = record { aps = refl; stas = refl; places = λ address. refl }

pub back : (c d : Domain) → HasNodes c d → HasNodes d c
back c d w = record { aps = sym w.aps; stas = sym w.stas; places = λ address. sym (w.places address) }

pub then_nodes : (c d e : Domain) → HasNodes c d → HasNodes d e → HasNodes c e
then_nodes c d e v w = record { aps = w.aps ∙ v.aps; stas = w.stas ∙ v.stas; places = λ address. w.places address ∙ v.places address }

pub nodes_at : (c d : Domain) → c ≡ d → HasNodes c d
nodes_at c d is = subst (HasNodes c) is (same_nodes c)

-- ---- what goes out

module _ (c d : Domain) (w : HasNodes c d) where
  pub count_same : count d ≡ count c
  count_same = omega (arith, ap (λ (aps : List ListedAp). length aps) w.aps, w.stas)

  pub node_same : node_at d ≡ node_at c
  node_same = ap (λ (aps : List ListedAp). λ (i : ℕ). if nat_lt i (length aps) then Ap i else Sta (i - length aps)) w.aps

  place_same : (n : Node) → place_of d n ≡ place_of c n
  place_same (Ap k) = refl
  place_same (Sta k) = ap (λ (aps : List ListedAp). length aps + k) w.aps

  receivers_same : (r : Receiver) → nodes_of d r ≡ nodes_of c r
  receivers_same Stations = ap stations w.stas
  receivers_same (One node) = refl
  receivers_same Nobody = refl

  address_same : (address : List ℕ) → with_address d address ≡ with_address c address
  address_same address = ap₂ found_at (ap (position (λ (a : ListedAp). bytes_eq a.address.0 address)) w.aps) (w.places address)

  receiver_same : (octets : List ℕ) → receiver_of d octets ≡ receiver_of c octets
  receiver_same octets = ap (λ (r : Receiver). if nat_lt (length octets) 10 then Nobody else if is_group (part 4 6 octets) then Stations else r) (address_same (part 4 6 octets))

  out_same : (o : Option (List ℕ)) → frames_out d o ≡ frames_out c o
  out_same None = refl
  out_same (Some octets) = ap (λ (nodes : List Node). frames_to nodes octets) (ap (nodes_of d) (receiver_same octets) ∙ receivers_same (receiver_of c octets))

  pub sends_same : (j : List Entry) → sends d j ≡ sends c j
  sends_same [] = refl
  sends_same (e ∷ j) = ap₂ (λ (a b : List Send). a ++ b) (ap₂ sends_by (place_same e.node) (out_same (frame_sent e.act))) (sends_same j)

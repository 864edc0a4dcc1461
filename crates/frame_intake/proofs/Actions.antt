-- What is known of an Action frame to a group: of one that octets spell, and that none is for an access point.
use Rattle.std.proofs.Common.{◌≡◌, ℕ, zero, suc, ◌<◌, ◌≤◌, true, false, List, [], ◌∷◌, get_or, length, refl, sym, subst, arith}
use Rattle.std.specs.Prelude.{◌%◌, slice_index}
use Rattle.std.proofs.lemmas.Bool.{and_parts, eq-eqb, eqb-true}
use Rattle.std.proofs.lemmas.Slice.Eq.{bytes_eq-Decides}
use Rattle.domain_base.specs.Octets.{AreOctets}
use Rattle.domain_base.specs.declared.names.Node.{Node}
use Rattle.domain_base.specs.declared.names.Node.TheVariants.{Ap, Sta}
use Rattle.air_frame.specs.Control.{ends_in_mme}
use Rattle.air_frame.specs.Fields.{HeaderFields, action}
use Rattle.air_frame.specs.Spelled.{SpellsAir, IsSpelled}
use Rattle.air_frame.proofs.Shapes.{IsActionShape, action-shape}
use Rattle.bip_guard.specs.Bip.{EndsInMme}
use Rattle.run_journal.specs.Addresses.{is_group}
use Rattle.run_journal.specs.Events.{IsListed}
use Rattle.run_journal.specs.declared.domain.Domain.{Domain}
use Rattle.run_journal.specs.declared.domain.ListedAp.{ListedAp}
use Rattle.domain_rules.specs.Network.{address, is_ap, AreAps, IsUnicast, InForm}
use Rattle.domain_rules.specs.Verdict.{is_mine_or_group}
use Rattle.domain_rules.proofs.Peers.{ap_address}
use Rattle.frame_intake.specs.ActionFields.{IsActionFrame}

-- ---- the parts

ends : (body : List ℕ) → 19 ≤ length body → ends_in_mme body ≡ true → EndsInMme body
ends body long is =
    let w = and_parts _ _ is in
    (omega (arith, long), eqb-true _ _ w.0, eqb-true _ _ w.1)

pub action_frame : (octets : List ℕ) (header : HeaderFields) (body : List ℕ) → AreOctets octets → SpellsAir octets (action header body) → IsActionFrame (record { header = header; body = body })
action_frame octets header body small s =
    let spelled : IsSpelled (action header body) = record { octets = octets; bound = small; spelled = s } in
    let shape : IsActionShape header body = action-shape header body spelled in
    record {
      header = shape.header_size;
      group = eq-eqb (slice_index header.a1 0 % 2) 1 shape.group;
      mme = ends body shape.body_size shape.mme;
    }

-- ---- the receiver

no_ap : ListedAp
no_ap = record { address = record { 0 = [] }; r0kh_id = [] }

ap_unicast : (aps : List ListedAp) (k : ℕ) → AreAps aps → k < length aps → IsUnicast (get_or aps k no_ap).address.0
ap_unicast [] k are low = absurd (omega (arith, low))
ap_unicast (a ∷ aps) zero are low = are.0
ap_unicast (a ∷ aps) (suc k) are low = ap_unicast aps k are.5 (omega (arith, low))

listed_unicast : (d : Domain) (k : ℕ) → InForm d → k < length d.aps → IsUnicast (address d (Ap k))
listed_unicast d k form low = subst IsUnicast (sym (ap_address d k low no_ap)) (ap_unicast d.aps k form.aps low)

no_group : (octets : List ℕ) → IsUnicast octets → is_group octets ≡ true → ⊥
no_group octets one group = let odd : slice_index octets 0 % 2 ≡ 1 = eqb-true _ _ group in omega (arith, one.1, odd)

-- a frame to a group is for no access point: its address is that of one node
pub is_station : (d : Domain) (n : Node) (h : HeaderFields) → InForm d → IsListed d n → is_group h.a1 ≡ true → is_mine_or_group d n h ≡ true → is_ap n ≡ false
is_station d (Ap k) h form low group mine =
    let same : h.a1 ≡ address d (Ap k) = (bytes_eq-Decides h.a1 (address d (Ap k))).0 mine in
    absurd (no_group (address d (Ap k)) (listed_unicast d k form low) (subst (λ (x : List ℕ). is_group x ≡ true) same group))
is_station d (Sta k) h form low group mine = refl

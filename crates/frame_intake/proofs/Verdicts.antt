-- Frames that are judged to be for the node, and those from no listed node of the other kind.
use Rattle.std.proofs.Common.{◌≡◌, ◌<◌, ℕ, ◌+◌, ltb, Bool, true, false, cond, not, ◌||◌, Option, Some, None, option_map, List, length, inr, refl, sym, ap, subst, ◌∙◌, arith}
use Rattle.std.specs.Prelude.{bytes_eq, position, if◌then◌else◌}
use Rattle.std.specs.List.{position_or_len}
use Rattle.std.proofs.lemmas.Bool.Decides.{Decides-ltb}
use Rattle.std.proofs.lemmas.Option.{none-some, same_Some}
use Rattle.domain_base.specs.declared.names.Node.{Node}
use Rattle.domain_base.specs.declared.names.Node.TheVariants.{Ap, Sta}
use Rattle.air_frame.specs.declared.frame.Action.{Action}
use Rattle.air_frame.specs.Views.{header_of}
use Rattle.eapol_key.specs.Fields.{IsKeyFrame}
use Rattle.rsn_elements.specs.declared.reading.Elements.{Elements}
use Rattle.rsn_elements.specs.Fields.{element_fields}
use Rattle.run_journal.specs.declared.domain.Domain.{Domain}
use Rattle.run_journal.specs.declared.domain.ListedAp.{ListedAp}
use Rattle.run_journal.specs.declared.domain.ListedSta.{ListedSta}
use Rattle.run_journal.specs.declared.acts.Act.{Act}
use Rattle.run_journal.specs.declared.acts.Reason.TheVariants as reason
use Rattle.run_journal.specs.declared.acts.Outcome.{Outcome}
use Rattle.run_journal.specs.declared.acts.Outcome.TheVariants.{Refused}
use Rattle.run_journal.specs.Questions.{draws}
use Rattle.domain_rules.specs.Network.{bssid, direction, goes_like, is_ap, peer_of}
use Rattle.domain_rules.specs.Reading.{Managed, Keyed, Acting}
use Rattle.domain_rules.specs.Associating.{management_verdict}
use Rattle.domain_rules.specs.ManagementFrames.{action_verdict}
use Rattle.domain_rules.specs.Verdict.{from_peer, is_mine, is_mine_or_group, key_verdict, management_sender, sender_in}
use Rattle.run_journal.specs.Events.{IsPeerOf}
use Rattle.frame_intake.specs.declared.delivered.Management.{Management}
use Rattle.frame_intake.specs.declared.delivered.KeyMessage.{KeyMessage}
use Rattle.frame_intake.specs.declared.judging.Judged.TheVariants as judged
use Rattle.frame_intake.specs.ActionFields.{IsActionFrame}
use Rattle.frame_intake.specs.Views.{management_fields, message_fields, action_fields}
use Rattle.frame_intake.specs.Judging.{IsJudged}
use Rattle.frame_intake.proofs.Silence.{silent_sender}

pub not_false : (a b : Bool) → a ≡ not b → a ≡ false → b ≡ true
not_false a true is off = refl
not_false a false is off = sym (sym is ∙ off)

some_if : (b : Bool) (n i : ℕ) → cond b (Some n) None ≡ Some i → (b ≡ true) × (n ≡ i)
some_if true n i e = (refl, same_Some _ _ e)
some_if false n i e = absurd (none-some _ e)

found_below : {X : Type 0} (p : X → Bool) (xs : List X) (i : ℕ) → position p xs ≡ Some i → i < length xs
found_below p xs i e =
    let t = some_if (ltb (position_or_len p xs) (length xs)) (position_or_len p xs) i e in
    let low = (Decides-ltb (position_or_len p xs) (length xs)).0 t.0 in
    omega (arith, low, t.1)

listed : {X : Type 0} (P : Node → Type 0) (make : ℕ → Node) (p : X → Bool) (xs : List X) → ((i : ℕ) → i < length xs → P (make i)) → (o : Option ℕ) → position p xs ≡ o → (q : Node) → option_map (λ i. make i) o ≡ Some q → P q
listed P make p xs each None is q e = absurd (none-some _ e)
listed P make p xs each (Some i) is q e = subst P (same_Some _ _ e) (each i (found_below p xs i is))

-- a sender that is found is a listed node of the other kind
pub is_peer : (d : Domain) (n : Node) (octets : List ℕ) (q : Node) → peer_of d n octets ≡ Some q → IsPeerOf d n q
is_peer d (Ap k) octets q e = listed (IsPeerOf d (Ap k)) (λ i. Sta i) (λ (s : ListedSta). bytes_eq s.address.0 octets) d.stas (λ i low. low) _ refl q e
is_peer d (Sta k) octets q e = listed (IsPeerOf d (Sta k)) (λ i. Ap i) (λ (a : ListedAp). bytes_eq a.address.0 octets) d.aps (λ i low. low) _ refl q e

module _ (d : Domain) (n : Node) where
  module _ (m : Management) (elements : Elements) (mine : is_mine d n (header_of m.header) ≡ true) where
    then_by : ℕ → List Act → Node → Outcome
    then_by first h p = management_verdict d (first + draws h) n h p m.kind (management_fields m) (element_fields elements)

    pub is_managed : (p : Node) → peer_of d n m.header.a2.0 ≡ Some p → bytes_eq m.header.a3.0 (bssid d n p) ≡ true → IsPeerOf d n p
        → IsJudged d n (Managed (management_fields m) (element_fields elements)) (judged.Managed p m elements)
    unfolding then_by
    is_managed p from at_bssid peer =
        let sent : management_sender d n (header_of m.header) ≡ Some p = ap (sender_in d n (header_of m.header)) from ∙ ap (λ (b : Bool). if b then Some p else None) at_bssid in (
          refl,
          from,
          peer,
          λ first h. ap (λ (b : Bool). if not b then Refused reason.NotForMe else from_peer (management_sender d n (header_of m.header)) (then_by first h)) mine
              ∙ ap (λ (o : Option Node). from_peer o (then_by first h)) sent,
        )

    pub is_from_none : peer_of d n m.header.a2.0 ≡ None → IsJudged d n (Managed (management_fields m) (element_fields elements)) (judged.Settled None (Refused reason.UnknownPeer))
    unfolding then_by
    is_from_none none = (
      sym none,
      λ first h. ap (λ (b : Bool). if not b then Refused reason.NotForMe else from_peer (management_sender d n (header_of m.header)) (then_by first h)) mine
          ∙ ap (λ (o : Option Node). from_peer (sender_in d n (header_of m.header) o) (then_by first h)) none,
      inr (reason.UnknownPeer, refl, silent_sender d n),
    )

  module _ (k : KeyMessage) (mine : is_mine d n (header_of k.header) ≡ true) (other_way : goes_like k.direction (direction n) ≡ false) where
    key_then_by : ℕ → List Act → Node → Outcome
    key_then_by first h p = key_verdict d (first + draws h) n h p (message_fields k) k.message

    pub is_keyed : (p : Node) → peer_of d n k.header.a2.0 ≡ Some p → IsPeerOf d n p → IsKeyFrame k.frame → IsJudged d n (Keyed (message_fields k)) (judged.Keyed p k)
    unfolding key_then_by
    is_keyed p from peer whole = (
      refl,
      from,
      peer,
      whole,
      λ first h. ap (λ (b : Bool). if not b || goes_like k.direction (direction n) then Refused reason.NotForMe else from_peer (peer_of d n k.header.a2.0) (key_then_by first h)) mine
          ∙ ap (λ (b : Bool). if b then Refused reason.NotForMe else from_peer (peer_of d n k.header.a2.0) (key_then_by first h)) other_way
          ∙ ap (λ (o : Option Node). from_peer o (key_then_by first h)) from,
    )

    pub is_keyed_from_none : peer_of d n k.header.a2.0 ≡ None → IsJudged d n (Keyed (message_fields k)) (judged.Settled None (Refused reason.UnknownPeer))
    unfolding key_then_by
    is_keyed_from_none none = (
      sym none,
      λ first h. ap (λ (b : Bool). if not b || goes_like k.direction (direction n) then Refused reason.NotForMe else from_peer (peer_of d n k.header.a2.0) (key_then_by first h)) mine
          ∙ ap (λ (b : Bool). if b then Refused reason.NotForMe else from_peer (peer_of d n k.header.a2.0) (key_then_by first h)) other_way
          ∙ ap (λ (o : Option Node). from_peer o (key_then_by first h)) none,
      inr (reason.UnknownPeer, refl, silent_sender d n),
    )

  module _ (a : Action) (mine : is_mine_or_group d n (header_of a.header) ≡ true) where
    action_then_by : List Act → Node → Outcome
    action_then_by h p = action_verdict h p a.body.now

    pub is_acting : (p : Node) → peer_of d n a.header.a2.0 ≡ Some p → bytes_eq a.header.a3.0 (bssid d n p) ≡ true → IsPeerOf d n p → IsActionFrame (action_fields a) → is_ap n ≡ false
        → IsJudged d n (Acting (header_of a.header) a.body.now) (judged.Acting p a)
    unfolding action_then_by
    is_acting p from at_bssid peer whole station =
        let sent : management_sender d n (header_of a.header) ≡ Some p = ap (sender_in d n (header_of a.header)) from ∙ ap (λ (b : Bool). if b then Some p else None) at_bssid in (
          refl,
          from,
          peer,
          whole,
          station,
          sent,
          λ first h. ap (λ (b : Bool). if not b then Refused reason.NotForMe else from_peer (management_sender d n (header_of a.header)) (action_then_by h)) mine
              ∙ ap (λ (o : Option Node). from_peer o (action_then_by h)) sent,
        )

    pub is_acting_from_none : peer_of d n a.header.a2.0 ≡ None → IsJudged d n (Acting (header_of a.header) a.body.now) (judged.Settled None (Refused reason.UnknownPeer))
    unfolding action_then_by
    is_acting_from_none none = (
      sym none,
      λ first h. ap (λ (b : Bool). if not b then Refused reason.NotForMe else from_peer (management_sender d n (header_of a.header)) (action_then_by h)) mine
          ∙ ap (λ (o : Option Node). from_peer (sender_in d n (header_of a.header) o) (action_then_by h)) none,
      inr (reason.UnknownPeer, refl, silent_sender d n),
    )

-- The network grows, or keys of other stations change: the fast transitions of an access point stand for the same histories.
use Rattle.std.proofs.Common.{◌≡◌, ◌∙◌, ℕ, true, false, List, Option, Some, None, inl, inr, sym, ap, subst, Bool}
use Rattle.std.specs.Prelude.{◌⊎◌}
use Rattle.domain_base.specs.declared.names.Mac.{Mac}
use Rattle.domain_base.specs.declared.names.Node.{Node}
use Rattle.domain_base.specs.declared.names.Node.TheVariants.{Ap, Sta}
use Rattle.run_journal.specs.declared.domain.Domain.{Domain}
use Rattle.run_journal.specs.declared.domain.Extras.{Extras}
use Rattle.run_journal.specs.Events.{protects}
use Rattle.run_journal.specs.declared.acts.Kind.TheVariants as kind
use Rattle.run_journal.specs.declared.acts.Seal.{Seal}
use Rattle.run_journal.specs.declared.acts.Act.{Act}
use Rattle.run_journal.specs.Acts.{Derivation}
use Rattle.run_journal.specs.Holders.{Stored}
use Rattle.domain_rules.specs.Network.{address}
use Rattle.domain_rules.specs.FastTransition.{fte_seal, response_number}
use Rattle.domain_rules.specs.TransitionKeys.{Transition}
use Rattle.node_base.proofs.Grown.{Alike, mac_grown, key_grown}
use Rattle.ft_exchange.specs.Sent.{named_rsne_len, covered_in}
use Rattle.ft_exchange.specs.State.{TargetState}
use Rattle.ft_exchange.specs.Stands.{transition_of, IsPlace, IsHeldOrPending, TargetStands, PendingStands}
use Rattle.ft_exchange.specs.Told.{sent_seal}
use Rattle.ft_exchange.specs.declared.place.Place.{Place}
use Rattle.targets.specs.declared.moves.Moves.{Moves}
use Rattle.targets.specs.State.{no_moves}
use Rattle.targets.specs.Stands.{HeldStands, HasMoves}

abbrev transition_as : TargetState → Derivation → Transition
transition_as s x = record { key = x; asked = s.asked; r1_name = s.name }

transition_grown : {S : Node → Type 0} (d e : Domain) (a sta : ℕ) (s : TargetState) → Alike d e S → S (Ap a) → S (Sta sta) → transition_of d (Ap a) (Sta sta) s ≡ transition_of e (Ap a) (Sta sta) s
transition_grown d e a sta s g here there = ap (λ (x : Derivation). transition_as s x) (key_grown d e (Ap a) (Sta sta) s.r0kh_id s.key g here there)

place_grown : {S : Node → Type 0} (d e : Domain) (a sta : ℕ) (w : Place) → Alike d e S → S (Ap a) → S (Sta sta) → IsPlace d (Ap a) (Sta sta) w → IsPlace e (Ap a) (Sta sta) w
place_grown d e a sta w g here there at = record {
  own = at.own ∙ sym (mac_grown d e (Ap a) g here);
  peer = at.peer ∙ sym (mac_grown d e (Sta sta) g there);
  aid_is = at.aid_is;
  mdid = at.mdid ∙ sym g.mdid;
  mfp_is = at.mfp_is ∙ sym (ap (λ (x : Extras). x.mfp) g.extras);
}

seal_grown : {S : Node → Type 0} (d e : Domain) (a sta : ℕ) (kck octets : List ℕ) → Alike d e S → S (Ap a) → S (Sta sta)
    → sent_seal d (Ap a) (Sta sta) kind.ReResp (Some kck) octets ≡ sent_seal e (Ap a) (Sta sta) kind.ReResp (Some kck) octets
seal_grown d e a sta kck octets g here there =
    ap (λ (m : Mac). Some (fte_seal kck (covered_in m.0 (address d (Ap a)) response_number 36 (named_rsne_len (protects d)) octets))) (sym (mac_grown d e (Sta sta) g there))
    ∙ ap (λ (m : Mac). Some (fte_seal kck (covered_in (address e (Sta sta)) m.0 response_number 36 (named_rsne_len (protects d)) octets))) (sym (mac_grown d e (Ap a) g here))
    ∙ ap (λ (x : Extras). Some (fte_seal kck (covered_in (address e (Sta sta)) (address e (Ap a)) response_number 36 (named_rsne_len x.mfp) octets))) (sym g.extras)

abbrev stored_as : List ℕ → Option Seal → Option Stored
stored_as octets seal = Some (record { octets = octets; seal = seal })

holds_grown : {S : Node → Type 0} (d e : Domain) (a sta : ℕ) (s : TargetState) (b : Bool) (h : List Act) → Alike d e S → S (Ap a) → S (Sta sta) → IsHeldOrPending b d (Ap a) (Sta sta) s h → IsHeldOrPending b e (Ap a) (Sta sta) s h
holds_grown d e a sta s false h g here there i = record {
  is = i.is ∙ ap (λ (t : Transition). Some t) (transition_grown d e a sta s g here there);
  part = i.part;
  awaited = i.awaited;
  stored = i.stored;
}
holds_grown d e a sta s true h g here there i = record {
  is = i.is ∙ ap (λ (t : Transition). Some t) (transition_grown d e a sta s g here there);
  stored = i.stored ∙ ap (λ (x : Option Seal). stored_as s.stored x) (seal_grown d e a sta s.key.ptk.kck s.stored g here there);
}

target_grown : {S : Node → Type 0} (d e : Domain) (a sta : ℕ) (s : TargetState) (h : List Act) → Alike d e S → S (Ap a) → S (Sta sta) → TargetStands d (Ap a) (Sta sta) s h → TargetStands e (Ap a) (Sta sta) s h
target_grown d e a sta s h g here there st = record {
  suite = g.akm ∙ st.suite;
  place = place_grown d e a sta s.place g here there st.place;
  holds = holds_grown d e a sta s s.is_installed h g here there st.holds;
}

pending_grown : {S : Node → Type 0} (d e : Domain) (a sta : ℕ) (o : Option TargetState) (h : List Act) → Alike d e S → S (Ap a) → S (Sta sta) → PendingStands d (Ap a) (Sta sta) o h → PendingStands e (Ap a) (Sta sta) o h
pending_grown d e a sta None h g here there st = st
pending_grown d e a sta (Some s) h g here there st = (st.0, target_grown d e a sta s h g here there st.1)

held_grown : {S : Node → Type 0} (d e : Domain) (a sta : ℕ) (o : Option TargetState) (h : List Act) → Alike d e S → S (Ap a) → S (Sta sta) → HeldStands d (Ap a) (Sta sta) o h → HeldStands e (Ap a) (Sta sta) o h
held_grown d e a sta None h g here there st = st
held_grown d e a sta (Some s) h g here there st = (st.0, target_grown d e a sta s h g here there st.1)

pub moves_grown : {S : Node → Type 0} (d e : Domain) (a sta : ℕ) (m : Moves) (h : List Act) → Alike d e S → S (Ap a) → S (Sta sta) → HasMoves d (Ap a) (Sta sta) m h → HasMoves e (Ap a) (Sta sta) m h
moves_grown d e a sta m h g here there has = record {
  pending = pending_grown d e a sta m.pending h g here there has.pending;
  held = held_grown d e a sta m.held h g here there has.held;
  other = has.other;
}

-- where there is none the network does not matter
none_grown : (d e : Domain) (a sta : ℕ) (m : Moves) (h : List Act) → m ≡ no_moves → HasMoves d (Ap a) (Sta sta) m h → HasMoves e (Ap a) (Sta sta) m h
none_grown d e a sta m h none has =
    let old : HasMoves d (Ap a) (Sta sta) no_moves h = subst (λ (x : Moves). HasMoves d (Ap a) (Sta sta) x h) none has in
    subst (λ (x : Moves). HasMoves e (Ap a) (Sta sta) x h) (sym none) (record { pending = old.pending; held = old.held; other = old.other })

-- with each station: it is one of which the network tells the same, or there is none
pub each_grown : {S : Node → Type 0} (d e : Domain) (a sta : ℕ) (m : Moves) (h : List Act) → Alike d e S → S (Ap a) → S (Sta sta) ⊎ (m ≡ no_moves) → HasMoves d (Ap a) (Sta sta) m h → HasMoves e (Ap a) (Sta sta) m h
each_grown d e a sta m h g here (inl there) has = moves_grown d e a sta m h g here there has
each_grown d e a sta m h g here (inr none) has = none_grown d e a sta m h none has

-- What room holds, by the node and its peer.
use Rattle.std.proofs.Common.{◌≡◌, ◌∙◌, ◌≤◌, ℕ, Bool, false, cond, List, [], ◌∷◌, take, Option, Result, Ok, Err, sym, ap, subst, arith}
use Rattle.std.specs.Prelude.{◌==◌, IfOk}
use Rattle.std.proofs.lemmas.Bool.{ne_eqb}
use Rattle.domain_base.specs.declared.names.Node.{Node}
use Rattle.domain_base.specs.declared.names.Peer.TheVariants.{One}
use Rattle.mac_prf.specs.declared.reassociation.Reassociation.{Reassociation}
use Rattle.rsn_elements.specs.Elements.{ElementFields}
use Rattle.run_journal.specs.declared.domain.Domain.{Domain}
use Rattle.run_journal.specs.declared.acts.Act.TheVariants.{Sent}
use Rattle.run_journal.specs.declared.acts.Seal.{Seal}
use Rattle.run_journal.specs.declared.reply.Reply.{Reply}
use Rattle.ft_exchange.specs.Told.{sent_octets, transition_sent}
use Rattle.transition_acts.specs.Seals.{place_in, seal_at, came_covered, covered_by}
use Rattle.transition_acts.specs.Rooms.{IsSendRoom, IsTakenRoom}
use Rattle.transition_acts.specs.declared.sending.TransitionSend.{TransitionSend}
use Rattle.transition_acts.specs.declared.sides.Place.{Place}
use Rattle.transition_acts.specs.declared.taken.TakenRoom.{TakenRoom}
use Rattle.transition_acts.proofs.Sealing.{seal_sent, covered_is}

taken_room : (d : Domain) (n p : Node) (s : TransitionSend) (frame : Reassociation) (e : ElementFields) (octets : List ℕ) (input : Option (List ℕ)) (r : TakenRoom) → IsSendRoom d n p s → input ≡ came_covered s.side frame e
    → IsTakenRoom octets input r → IsTakenRoom octets (covered_by frame d n p e) r
taken_room d n p s frame e octets input r here is room = subst (λ (x : Option (List ℕ)). IsTakenRoom octets x r) (is ∙ covered_is d n p s.side frame e here.side) room

pub room_for : {E : Type 0} (r : Result TakenRoom E) (octets : List ℕ) (input : Option (List ℕ)) (s : TransitionSend) (frame : Reassociation) (e : ElementFields) → IfOk r (λ room. IsTakenRoom octets input room) → input ≡ came_covered s.side frame e
    → IfOk r (λ room. (d : Domain) (n p : Node) → IsSendRoom d n p s → IsTakenRoom octets (covered_by frame d n p e) room)
room_for (Ok room) octets input s frame e holds is = λ d n p here. taken_room d n p s frame e octets input room here is holds
room_for (Err x) octets input s frame e holds is = tt

pub nothing_sent : (d : Domain) (n p : Node) (r : Reply) → r.len ≡ 0 → transition_sent d n p r ≡ []
nothing_sent d n p r none = ap (λ (k : ℕ). cond (k == 0) [] (sent_octets d n p r (take r.len r.octets))) none

some_len : (n : ℕ) → 1 ≤ n → (n == 0) ≡ false
some_len n some = ne_eqb n 0 (λ is. absurd (omega (arith, some, is)))

pub frame_sent : (d : Domain) (n p : Node) (s : TransitionSend) (r : Reply) (frame octets : List ℕ) (place : Option Place) (seal : Option Seal) → IsSendRoom d n p s → 1 ≤ r.len → frame ≡ take r.len r.octets → octets ≡ frame
    → place ≡ place_in s.side r.kind → seal ≡ seal_at r.sealed place frame → Sent (One s.peer) r.kind octets seal ∷ [] ≡ transition_sent d n p r
frame_sent d n p s r frame octets place seal here some front is placed sealed =
    let octets_are : octets ≡ take r.len r.octets = is ∙ front in
    let seal_is : seal ≡ seal_at r.sealed (place_in s.side r.kind) (take r.len r.octets) =
    sealed ∙ ap (λ (w : Option Place). seal_at r.sealed w frame) placed ∙ ap (λ (x : List ℕ). seal_at r.sealed (place_in s.side r.kind) x) front in
    ap (λ (q : Node). Sent (One q) r.kind octets seal ∷ []) here.peer ∙ ap (λ (x : List ℕ). Sent (One p) r.kind x seal ∷ []) octets_are
    ∙ ap (λ (x : Option Seal). Sent (One p) r.kind (take r.len r.octets) x ∷ []) (seal_is ∙ seal_sent d n p s.side r.kind r.sealed (take r.len r.octets) here.side)
    ∙ sym (ap (λ (b : Bool). cond b [] (sent_octets d n p r (take r.len r.octets))) (some_len r.len some))

-- What is written between two ends is what is sent between their nodes.
use Rattle.std.proofs.Common.{◌≡◌, ◌∙◌, ℕ, ◌+◌, Bool, false, cond, List, [], ◌∷◌, ◌++◌, length, take, drop, Option, refl, sym, ap, arith, length-append, drop-drop}
use Rattle.std.proofs.lemmas.Bool.{ne_eqb}
use Rattle.std.proofs.lemmas.List.{drop_at}
use Rattle.std.specs.Prelude.{◌==◌, option_map}
use Rattle.domain_base.specs.declared.names.Node.{Node}
use Rattle.domain_base.specs.declared.names.Node.TheVariants.{Ap, Sta}
use Rattle.domain_base.specs.declared.names.Peer.TheVariants.{One}
use Rattle.air_frame.specs.declared.frame.Direction.{Direction}
use Rattle.air_frame.specs.declared.frame.Direction.TheVariants.{ToDs, FromDs}
use Rattle.air_frame.specs.Control.{eapol_llc}
use Rattle.air_frame.specs.Sent.{header_octets, eapol_data_octets}
use Rattle.eapol_key.specs.declared.messages.Message.{Message}
use Rattle.run_journal.specs.declared.domain.Domain.{Domain}
use Rattle.run_journal.specs.declared.reply.Reply.{Reply}
use Rattle.run_journal.specs.declared.acts.Kind.TheVariants.{Key}
use Rattle.run_journal.specs.declared.acts.Act.TheVariants.{Sent}
use Rattle.domain_rules.specs.Frames.{in_data, frame_seal}
use Rattle.domain_rules.specs.Replies.{frame_acts, sent_acts}
use Rattle.node_base.specs.declared.ends.Ends.{Ends}
use Rattle.frame_making.specs.Between.{octets_between}
use Rattle.node_base.specs.Ends.{AreEnds}

-- ---- the octets before an EAPOL frame

header_size : (first second : ℕ) (a1 a2 a3 : List ℕ) → length a1 ≡ 6 → length a2 ≡ 6 → length a3 ≡ 6 → length (header_octets first second a1 a2 a3 []) ≡ 24
header_size first second a1 a2 a3 l1 l2 l3 =
    omega (arith, length-append a1 (a2 ++ (a3 ++ (0 ∷ 0 ∷ []))), length-append a2 (a3 ++ (0 ∷ 0 ∷ [])), length-append a3 (0 ∷ 0 ∷ []))

behind : (first second : ℕ) (a1 a2 a3 frame : List ℕ) → length a1 ≡ 6 → length a2 ≡ 6 → length a3 ≡ 6
    → drop 32 (header_octets first second a1 a2 a3 [] ++ (eapol_llc ++ frame)) ≡ frame
behind first second a1 a2 a3 frame l1 l2 l3 =
    let head = header_octets first second a1 a2 a3 [] in
    sym (drop-drop 8 24 (head ++ (eapol_llc ++ frame))) ∙ ap (λ (w : List ℕ). drop 8 w) (drop_at head (eapol_llc ++ frame) 24 (header_size first second a1 a2 a3 l1 l2 l3))

data_behind : (direction : Direction) (a1 a2 a3 frame : List ℕ) → length a1 ≡ 6 → length a2 ≡ 6 → length a3 ≡ 6 → drop 32 (eapol_data_octets direction a1 a2 a3 frame) ≡ frame
data_behind ToDs a1 a2 a3 frame l1 l2 l3 = behind 8 1 a1 a2 a3 frame l1 l2 l3
data_behind FromDs a1 a2 a3 frame l1 l2 l3 = behind 8 2 a1 a2 a3 frame l1 l2 l3

between_behind : (direction : Direction) (l : Ends) (frame : List ℕ) → l.direction ≡ direction → length l.own.0 ≡ 6 → length l.peer.0 ≡ 6 → drop 32 (octets_between l frame) ≡ frame
between_behind ToDs l frame way own peer = rw way (data_behind ToDs l.peer.0 l.own.0 l.peer.0 frame peer own peer)
between_behind FromDs l frame way own peer = rw way (data_behind FromDs l.peer.0 l.own.0 l.own.0 frame peer own own)

between_is : (d : Domain) (n p : Node) (l : Ends) (frame : List ℕ) → AreEnds d n p l → octets_between l frame ≡ in_data d n p frame
between_is d (Ap k) p l frame ends = rw (ends.direction_is, ends.own, ends.peer) refl
between_is d (Sta k) p l frame ends = rw (ends.direction_is, ends.own, ends.peer) refl

-- ---- the act of a reply

sends : (p : Node) (message : Message) (sealed : Option (List ℕ)) (frame wire : List ℕ) (r : Reply) → r.len ≡ 32 + length frame → take r.len r.octets ≡ wire → drop 32 wire ≡ frame
    → r.kind ≡ Key message → r.sealed ≡ sealed → sent_acts p r ≡ Sent (One p) (Key message) wire (option_map (λ (kck : List ℕ). frame_seal kck frame) sealed) ∷ []
sends p message sealed frame wire r size octets eapol kind seal =
    let some : (r.len == 0) ≡ false = ne_eqb r.len 0 (λ e. absurd (omega (arith, e, size))) in
    ap (λ (b : Bool). cond b [] (frame_acts p r (take r.len r.octets))) some
    ∙ ap (λ (w : List ℕ). frame_acts p r w) octets
    ∙ ap (λ (f : List ℕ). Sent (One p) r.kind wire (option_map (λ (kck : List ℕ). frame_seal kck f) r.sealed) ∷ []) eapol
    ∙ rw (kind, seal) refl

-- the frame between two ends is that between their nodes
pub between_sends : (d : Domain) (n p : Node) (l : Ends) (message : Message) (sealed : Option (List ℕ)) (frame : List ℕ) (r : Reply) → AreEnds d n p l → length l.own.0 ≡ 6 → length l.peer.0 ≡ 6
    → r.len ≡ 32 + length frame → take r.len r.octets ≡ octets_between l frame → r.kind ≡ Key message → r.sealed ≡ sealed
    → sent_acts p r ≡ Sent (One p) (Key message) (in_data d n p frame) (option_map (λ (kck : List ℕ). frame_seal kck frame) sealed) ∷ []
between_sends d n p l message sealed frame r ends own peer size octets kind seal =
    let is = between_is d n p l frame ends in
    sends p message sealed frame (in_data d n p frame) r size (octets ∙ is) (ap (λ (w : List ℕ). drop 32 w) (sym is) ∙ between_behind l.direction l frame refl own peer) kind seal

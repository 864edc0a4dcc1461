-- Acts that begin and end nothing leave the fast transitions of an access point with a station as they are.
use Rattle.std.proofs.Common.{◌≡◌, ◌∙◌, ℕ, Bool, true, false, List, [], ◌∷◌, ◌++◌, Option, Some, None, refl, sym, subst, ap}
use Rattle.std.specs.List.{AllByRecursion}
use Rattle.domain_base.specs.declared.names.Node.{Node}
use Rattle.domain_base.specs.declared.names.Peer.{Peer}
use Rattle.key_hierarchy.specs.declared.answers.PutAnswer.{PutAnswer}
use Rattle.key_hierarchy.specs.declared.answers.RevokeAnswer.{RevokeAnswer}
use Rattle.eapol_key.specs.declared.messages.Message.{Message}
use Rattle.run_journal.specs.declared.domain.Domain.{Domain}
use Rattle.run_journal.specs.declared.acts.Drawn.{Drawn}
use Rattle.run_journal.specs.declared.acts.Kind.{Kind}
use Rattle.run_journal.specs.declared.acts.Key.{Key}
use Rattle.run_journal.specs.declared.acts.Seal.{Seal}
use Rattle.run_journal.specs.declared.acts.Why.{Why}
use Rattle.run_journal.specs.declared.acts.Act.{Act}
use Rattle.run_journal.specs.declared.acts.Act.TheVariants.{Drew, Sent, Installed, Used, HandedUp, GaveUp, Idle, Put, Revoked}
use Rattle.run_journal.specs.Acts.{opens, ends}
use Rattle.run_journal.specs.Questions.{attempt, add}
use Rattle.domain_rules.specs.Asking.{has_four_way}
use Rattle.domain_rules.proofs.Parts.{attempt_none, attempt_more, attempt_some, start_more, IsApart}
use Rattle.ft_exchange.specs.State.{TargetState}
use Rattle.ft_exchange.specs.Stands.{IsHeld, IsHeldOrPending, TargetStands}
use Rattle.ft_exchange.proofs.TargetStanding.{Passes, Leaves, leaves, session_more, held_more, pending_stands_more}
use Rattle.targets.specs.declared.moves.Moves.{Moves}
use Rattle.targets.specs.Stands.{HeldStands, IsOther, HasMoves}

-- ---- acts that leave the session with p

-- a target that is installed holds by the session
pub installed : (d : Domain) (n p : Node) (s : TargetState) (h : List Act) → s.is_installed ≡ true → TargetStands d n p s h → IsHeld d n p s h
installed d n p s h is st = subst (λ (b : Bool). IsHeldOrPending b d n p s h) is st.holds

as_target : (d : Domain) (n p : Node) (s : TargetState) (old h : List Act) → s.is_installed ≡ true → TargetStands d n p s old → IsHeld d n p s h → TargetStands d n p s h
as_target d n p s old h is st i = record { suite = st.suite; place = st.place; holds = subst (λ (b : Bool). IsHeldOrPending b d n p s h) (sym is) i }

pub held_stands_more : (d : Domain) (n p : Node) (o : Option TargetState) (e : Act) (h : List Act) → Leaves p e → HeldStands d n p o h → HeldStands d n p o (e ∷ h)
held_stands_more d n p None e h x none = session_more p e h x ∙ none
held_stands_more d n p (Some s) e h x st = (st.0, as_target d n p s h (e ∷ h) st.0 st.1 (held_more d n p s e h x (installed d n p s h st.0 st.1)))

pub held_stands_add : (d : Domain) (n p : Node) (o : Option TargetState) (g h : List Act) → AllByRecursion (Leaves p) g → HeldStands d n p o h → HeldStands d n p o (add g h)
held_stands_add d n p o [] h all st = st
held_stands_add d n p o (e ∷ g) h all st = held_stands_add d n p o g (e ∷ h) all.1 (held_stands_more d n p o e h all.0 st)

-- ---- acts that leave the attempt with p

pub other_more : (p : Node) (o : Option TargetState) (e : Act) (h : List Act) → opens p e ≡ false → ends p e ≡ false → IsOther o (attempt p h) → IsOther o (attempt p (e ∷ h))
other_more p (Some s) e h opens_none ends_none at = tt
other_more p None e h opens_none ends_none at = by (attempt p h) refl at
  where
    by : (a : Option (List Act)) → attempt p h ≡ a → IsOther None a → IsOther None (attempt p (e ∷ h))
    by None is at = subst (λ (z : Option (List Act)). IsOther None z) (sym (attempt_none p e h opens_none is)) tt
    by (Some part) is at = subst (λ (z : Option (List Act)). IsOther None z) (sym (attempt_more p e h part opens_none ends_none is)) (ap has_four_way (start_more e part (attempt_some p h part is)) ∙ at)

pub other_add : (p : Node) (o : Option TargetState) (g h : List Act) → AllByRecursion (Passes p) g → IsOther o (attempt p h) → IsOther o (attempt p (add g h))
other_add p o [] h all at = at
other_add p o (e ∷ g) h all at = other_add p o g (e ∷ h) all.1 (other_more p o e h all.0.opens_none all.0.ends_none at)

-- ---- acts that leave both

pub moves_more : (d : Domain) (n p : Node) (m : Moves) (e : Act) (h : List Act) → Passes p e → HasMoves d n p m h → HasMoves d n p m (e ∷ h)
moves_more d n p m e h x has = record {
  pending = pending_stands_more d n p m.pending e h x has.pending;
  held = held_stands_more d n p m.held e h (leaves p e x) has.held;
  other = other_more p m.pending e h x.opens_none x.ends_none has.other;
}

pub moves_add : (d : Domain) (n p : Node) (m : Moves) (g h : List Act) → AllByRecursion (Passes p) g → HasMoves d n p m h → HasMoves d n p m (add g h)
moves_add d n p m [] h all has = has
moves_add d n p m (e ∷ g) h all has = moves_add d n p m g (e ∷ h) all.1 (moves_more d n p m e h all.0 has)

-- acts about other peers
pub apart_passes : (p : Node) (e : Act) → IsApart p e → Passes p e
apart_passes p e x = record { opens_none = x.opens_none; ends_none = x.ends_none; closes_none = x.closes_none; finishes_none = x.finishes_none; derives_none = x.derives_none }

pub apart_all : (p : Node) (g : List Act) → AllByRecursion (IsApart p) g → AllByRecursion (Passes p) g
apart_all p [] all = tt
apart_all p (e ∷ g) all = (apart_passes p e all.0, apart_all p g all.1)

pub moves_apart : (d : Domain) (n p : Node) (m : Moves) (g h : List Act) → AllByRecursion (IsApart p) g → HasMoves d n p m h → HasMoves d n p m (add g h)
moves_apart d n p m g h all has = moves_add d n p m g h (apart_all p g all) has

-- and acts about p that begin and end nothing: beside frames that are sent and taken, and looks
pub drew_passes : (p : Node) (v : Drawn) → Passes p (Drew v)
drew_passes p v = record { opens_none = refl; ends_none = refl; closes_none = refl; finishes_none = refl; derives_none = refl }

pub sent_any_passes : (p : Node) (q : Peer) (k : Kind) (octets : List ℕ) (s : Option Seal) → Passes p (Sent q k octets s)
sent_any_passes p q k octets s = record { opens_none = refl; ends_none = refl; closes_none = refl; finishes_none = refl; derives_none = refl }

pub installed_passes : (p : Node) (q : Peer) (k : Key) → Passes p (Installed q k)
installed_passes p q k = record { opens_none = refl; ends_none = refl; closes_none = refl; finishes_none = refl; derives_none = refl }

pub used_passes : (p : Node) (q : Peer) (key : List ℕ) (id number : ℕ) (octets : List ℕ) → Passes p (Used q key id number octets)
used_passes p q key id number octets = record { opens_none = refl; ends_none = refl; closes_none = refl; finishes_none = refl; derives_none = refl }

pub handed_up_passes : (p q : Node) (key : List ℕ) (id tid number : ℕ) (octets : List ℕ) → Passes p (HandedUp q key id tid number octets)
handed_up_passes p q key id tid number octets = record { opens_none = refl; ends_none = refl; closes_none = refl; finishes_none = refl; derives_none = refl }

pub gave_up_passes : (p q : Node) (m : Message) → Passes p (GaveUp q m)
gave_up_passes p q m = record { opens_none = refl; ends_none = refl; closes_none = refl; finishes_none = refl; derives_none = refl }

pub idle_passes : (p : Node) (w : Why) → Passes p (Idle w)
idle_passes p w = record { opens_none = refl; ends_none = refl; closes_none = refl; finishes_none = refl; derives_none = refl }

pub put_passes : (p : Node) (id name : List ℕ) (q : Node) (answer : PutAnswer) → Passes p (Put id name q answer)
put_passes p id name q answer = record { opens_none = refl; ends_none = refl; closes_none = refl; finishes_none = refl; derives_none = refl }

pub revoked_passes : (p : Node) (id name : List ℕ) (q : Node) (answer : RevokeAnswer) → Passes p (Revoked id name q answer)
revoked_passes p id name q answer = record { opens_none = refl; ends_none = refl; closes_none = refl; finishes_none = refl; derives_none = refl }

-- ---- lists of acts

pub all_leave : (p : Node) (f g : List Act) → AllByRecursion (Leaves p) f → AllByRecursion (Leaves p) g → AllByRecursion (Leaves p) (f ++ g)
all_leave p [] g all more = more
all_leave p (e ∷ f) g all more = (all.0, all_leave p f g all.1 more)

pub all_pass : (p : Node) (f g : List Act) → AllByRecursion (Passes p) f → AllByRecursion (Passes p) g → AllByRecursion (Passes p) (f ++ g)
all_pass p [] g all more = more
all_pass p (e ∷ f) g all more = (all.0, all_pass p f g all.1 more)

pub pass_leave : (p : Node) (g : List Act) → AllByRecursion (Passes p) g → AllByRecursion (Leaves p) g
pass_leave p [] all = tt
pass_leave p (e ∷ g) all = (leaves p e all.0, pass_leave p g all.1)

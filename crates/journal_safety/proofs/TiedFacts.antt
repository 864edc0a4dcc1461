-- The facts that tie the nodes of a run together, on which its safety rests, each by its name.
use Rattle.std.proofs.Common.{ℕ, ◌≡◌, ◌≤◌, false, not, List, Some, sym, ap, ◌∙◌}
use Rattle.domain_base.specs.declared.names.Mac.{Mac}
use Rattle.domain_base.specs.declared.names.Node.{Node}
use Rattle.domain_base.specs.declared.names.Peer.TheVariants.{One}
use Rattle.key_hierarchy.specs.Keys.{ptk}
use Rattle.key_hierarchy.specs.declared.inputs.Inputs.{Inputs}
use Rattle.run_journal.specs.declared.acts.GroupKind.{GroupKind}
use Rattle.run_journal.specs.declared.domain.Domain.{Domain}
use Rattle.run_journal.specs.declared.acts.Kind.{Kind}
use Rattle.run_journal.specs.declared.acts.Seal.{Seal}
use Rattle.run_journal.specs.declared.acts.Key.TheVariants.{Group}
use Rattle.run_journal.specs.declared.acts.Act.{Act}
use Rattle.run_journal.specs.declared.acts.Act.TheVariants.{Installed, Used}
use Rattle.run_journal.specs.declared.acts.Entry.{Entry}
use Rattle.run_journal.specs.Questions.{history, session, pairwise_uses}
use Rattle.run_journal.specs.Premises.{In}
use Rattle.air_frame.specs.Sent.{IsAddress}
use Rattle.domain_rules.specs.Network.{address, is_ap}
use Rattle.domain_rules.specs.Frames.{keyed_by}
use Rattle.journal_safety.proofs.Ends.{Tail}
use Rattle.journal_safety.proofs.Legal.{goes_down, nonce_of, IsNewest, LegalSeal, IsReceiver, LegalData, LegalPairwise, Given, LegalGroup}
use Rattle.journal_safety.proofs.CoversFrame.{frame_down}
use Rattle.journal_safety.proofs.Places.{Good, good_tail, Draws, draws_wider, apart_draws, DerivedAt}
use Rattle.journal_safety.proofs.Seals.{verified_by, sealed_tail}
use Rattle.journal_safety.proofs.Pairwise.{installs, pairwise_once}
use Rattle.journal_safety.proofs.Built.{BuiltAt, built_at, built_tail}
use Rattle.journal_safety.proofs.GroupOrder.{Later, never_back}
use Rattle.journal_safety.proofs.Numbers.{counted}

-- A frame with a group key that a station accepts was built after the station drew the nonce of that attempt or session.
pub built_after_the_nonce : (which : GroupKind) (d : Domain) (n s : Node) (i : Inputs) (g : List ℕ) (past : List Entry) → Good d past → is_ap s ≡ false → Given d which s (history s past) n i g
    → (then_ : List Entry) × (Tail then_ past × (IsNewest which g (history n then_) × Draws s (nonce_of s i) then_))
built_after_the_nonce which d n s i g past good station v =
    let b : BuiltAt which d n s i v.covered g past = built_at which d n s i g past good station v in
    let inside = built_tail which d n s i v.covered g past b in
    let w = verified_by d n s i b.lines (good_tail d b.lines past inside good) b.verified in
    (b.lines, (inside, (b.newest, draws_wider s (nonce_of s i) w.earlier b.lines (sealed_tail d n s i b.verified.covered b.lines w) w.facts.draw)))

-- The group keys that a station accepts from one access point, to install or to resume them, never go back in the order of drawing, over all
-- its associations.
pub never_back_in_drawing : (which : GroupKind) (d : Domain) (n s : Node) (g1 g2 : List ℕ) (id : ℕ) (m : Mac) (past : List Entry) → Good d past → LegalGroup d which s (history s past) n g2 → In (Installed (One n) (Group which g1 id m)) (history s past) → Later which n g1 g2 past
never_back_in_drawing = never_back

-- An attempt is consumed by its one installation, though its request may verify any number of times.
pub consumed_once : (d : Domain) (n p q : Node) (tk : List ℕ) (i k : Inputs) (past : List Entry) → Good d past → LegalPairwise n (history n past) p tk i → In (installs q tk k) (history n past) → ⊥
consumed_once = pairwise_once

-- Numbers are counted from the last installation on, and none was used under the key before it.
pub counted_from_installation : (d : Domain) (n p : Node) (i : Inputs) (id number : ℕ) (plain : List ℕ) (past : List Entry) → Good d past → session p (history n past) ≡ Some (keyed_by i) → In (Used (One p) (ptk i).tk id number plain) (history n past)
    → number ≤ pairwise_uses p (history n past)
counted_from_installation = counted

-- What is sealed in the two directions is never the same: by the Ack bit of an EAPOL-Key frame and the number of a reassociation frame ..
pub directions_apart : (d e : Domain) (n m p q : Node) (h g : List Act) (k l : Kind) (s t : Seal) → LegalSeal d n h p k s → LegalSeal e m g q l t → s.octets ≡ t.octets → is_ap n ≡ is_ap m
directions_apart d e n m p q h g k l s t a b same = sym a.direction ∙ ap goes_down same ∙ b.direction

-- .. and by the addresses that CCM covers
pub data_apart : (d : Domain) (n m : Node) (h g : List Act) (s t : Seal) → (a : LegalData d n h s) → (b : LegalData d m g t) → IsAddress (address d n) → IsReceiver d a.peer → IsAddress (address d m) → IsReceiver d b.peer → s.octets ≡ t.octets → is_ap n ≡ is_ap m
data_apart d n m h g s t a b own to theirs back same =
    let x = a.covers own to in
    let y = b.covers theirs back in
    sym x.way ∙ ap frame_down same ∙ y.way

-- With sorted nonces, as with suites 2 and 6, that draws are fresh tells the two roles apart: nonces do not cross.
pub roles_apart : (d : Domain) (n m p q : Node) (i k : Inputs) (past : List Entry) → Good d past → is_ap m ≡ not (is_ap n) → DerivedAt d n p i past → DerivedAt d m q k past → nonce_of n i ≡ nonce_of m k → ⊥
roles_apart d n m p q i k past good roles a b same = apart_draws n m (nonce_of n i) (nonce_of m k) past good.fresh roles a.draw b.draw same

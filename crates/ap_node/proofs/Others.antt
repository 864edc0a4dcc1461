-- What acts leave of what is asked of a history: of the group keys, and of a station that they are not about.
use Rattle.std.proofs.Common.{◌≡◌, ◌∙◌, ℕ, Bool, true, false, List, [], ◌∷◌, Option, Some, None, refl, sym, ap, subst}
use Rattle.std.specs.List.{AllByRecursion}
use Rattle.domain_base.specs.declared.names.Node.{Node}
use Rattle.domain_base.specs.declared.names.Node.TheVariants.{Ap, Sta}
use Rattle.run_journal.specs.declared.domain.Domain.{Domain}
use Rattle.run_journal.specs.declared.acts.Kind.{Kind}
use Rattle.run_journal.specs.declared.acts.Kind.TheVariants as kind
use Rattle.run_journal.specs.declared.acts.Reason.{Reason}
use Rattle.run_journal.specs.declared.acts.Why.{Why}
use Rattle.run_journal.specs.declared.acts.Outcome.TheVariants.{Ignored, Refused}
use Rattle.run_journal.specs.declared.acts.Seal.{Seal}
use Rattle.run_journal.specs.declared.acts.Act.{Act}
use Rattle.run_journal.specs.declared.acts.Act.TheVariants.{Took, Idle}
use Rattle.run_journal.specs.Acts.{Derivation}
use Rattle.run_journal.specs.Questions.{group_keys, switches, group_uses, draws, add}
use Rattle.domain_rules.specs.PacketNumbers.{SendKey, current_of}
use Rattle.domain_rules.specs.Rows.{refused_status, response_by, response}
use Rattle.domain_rules.proofs.Parts.{IsApart, apart-refused, apart-ignored, apart-idle}
use Rattle.domain_rules.proofs.Effects.{response-apart, refused_acts, as_before-refused}
use Rattle.run_journal.specs.declared.acts.GroupKind.{GroupKind}
use Rattle.run_journal.specs.declared.acts.GroupKind.TheVariants as groups
use Rattle.group_key.specs.declared.keys.Pair.{Pair}
use Rattle.group_key.specs.Keys.{Pairs}
use Rattle.group_key.specs.Holds.{IsLast, Holds, HoldsIgtk, HoldsAll}
use Rattle.act_memory.proofs.RepliedActs.{IsAbout, about_keys, about_switches, about_uses}
use Rattle.ccmp_guard.specs.Held.{Held}
use Rattle.data_frames.specs.Holding.{HoldsPairwise, HoldsGroup, HoldsIntegrity, LeavesPairwise}
use Rattle.data_frames.proofs.Standing.{others}
use Rattle.authenticator.proofs.Standing.{IsOther, other_on}
use Rattle.targets.specs.declared.moves.Moves.{Moves}
use Rattle.targets.specs.Stands.{HasMoves}
use Rattle.targets.proofs.Passing.{moves_apart}
use Rattle.ap_node.specs.declared.sending.Sending.{Sending}
use Rattle.ap_node.specs.Keys.{HasKey}
use Rattle.ap_node.specs.Stands.{HoldsAnnouncing, HoldsInUse}

-- ---- the group keys

-- no group key was drawn or made current, and no packet number was used
pub record IsSameGroup (old new : List Act) : Type 0 where
  pub keys_are : (k : GroupKind) → group_keys k new ≡ group_keys k old
  pub switches_are : (k : GroupKind) → switches k new ≡ switches k old
  pub uses_are : (k : GroupKind) → group_uses k new ≡ group_uses k old

pub same_group : (h : List Act) → IsSameGroup h h
same_group h = record { keys_are = λ x. refl; switches_are = λ x. refl; uses_are = λ x. refl }

holds_of : (k : GroupKind) (g : Pair) (old new : List Act) → IsSameGroup old new → Holds k g old → Holds k g new
holds_of k g old new same holds = record {
  newest = subst (λ (keys : List (List ℕ)). IsLast k g.newest keys) (sym (same.keys_are k)) holds.newest;
  current = subst (λ (keys : List (List ℕ)). IsLast k g.current keys) (sym (same.switches_are k)) holds.current;
}

igtk_on : (b : Bool) (o : Option Pair) (old new : List Act) → IsSameGroup old new → HoldsIgtk b o old → HoldsIgtk b o new
igtk_on false None old new same holds = tt
igtk_on false (Some g) old new same holds = absurd holds
igtk_on true None old new same holds = absurd holds
igtk_on true (Some g) old new same holds = holds_of groups.Igtk g old new same holds

pub holds_on : (b : Bool) (g : Pairs) (old new : List Act) → IsSameGroup old new → HoldsAll b g old → HoldsAll b g new
holds_on b g old new same holds = record {
  gtk = holds_of groups.Gtk g.gtk old new same holds.gtk;
  igtk = igtk_on b g.igtk old new same holds.igtk;
  beside = holds.beside;
}

-- so the current ones in use are still
group_in_use_on : (k : Held) (old new : List Act) → IsSameGroup old new → HoldsGroup k old → HoldsGroup k new
group_in_use_on k old new same holds = record {
  id = holds.id;
  role = holds.role;
  current_is = ap (current_of groups.Gtk) (same.switches_are groups.Gtk) ∙ holds.current_is;
  used = holds.used ∙ sym (same.uses_are groups.Gtk);
}

integrity_in_use_on : (k : SendKey) (old new : List Act) → IsSameGroup old new → HoldsIntegrity k old → HoldsIntegrity k new
integrity_in_use_on k old new same holds = record {
  current_is = ap (current_of groups.Igtk) (same.switches_are groups.Igtk) ∙ holds.current_is;
  used = holds.used ∙ sym (same.uses_are groups.Igtk);
}

announcing_on : (b : Bool) (o : Option SendKey) (old new : List Act) → IsSameGroup old new → HoldsAnnouncing b o old → HoldsAnnouncing b o new
announcing_on false None old new same holds = tt
announcing_on false (Some k) old new same holds = absurd holds
announcing_on true None old new same holds = absurd holds
announcing_on true (Some k) old new same holds = integrity_in_use_on k old new same holds

pub in_use_on : (b : Bool) (s : Sending) (old new : List Act) → IsSameGroup old new → HoldsInUse b s old → HoldsInUse b s new
in_use_on b s old new same holds = record { gtk = group_in_use_on s.gtk old new same holds.gtk; igtk = announcing_on b s.igtk old new same holds.igtk }

-- acts about one node leave them
pub about_group : (p : Node) (g h : List Act) → AllByRecursion (IsAbout p) g → IsSameGroup h (add g h)
about_group p g h all = record { keys_are = λ k. about_keys k p g h all; switches_are = λ k. about_switches k p g h all; uses_are = λ k. about_uses k p g h all }

-- ---- a station that they are not about

-- a pairwise key in use with p is so still
abbrev pub KeepsKey : Node → List Act → List Act → Type 0
KeepsKey p old new = (tk : List ℕ) (k : Held) → HoldsPairwise p tk k old → HoldsPairwise p tk k new

abbrev pub AllLeave : Node → List Act → Type 0
AllLeave p g = (tk : List ℕ) → AllByRecursion (LeavesPairwise p tk) g

pub keeps : (p : Node) (g h : List Act) → AllLeave p g → KeepsKey p h (add g h)
keeps p g h leave tk k at = others p tk k g h at (leave tk)

pub key_on : (p : Node) (o : Option Derivation) (k : Option Held) (old new : List Act) → KeepsKey p old new → HasKey p o k old → HasKey p o k new
key_on p None None old new keep at = tt
key_on p None (Some k) old new keep at = at
key_on p (Some x) None old new keep at = at
key_on p (Some x) (Some k) old new keep at = keep x.ptk.tk k at

-- and for another session or none
pub key_as : (p : Node) (o q : Option Derivation) (k : Option Held) (old new : List Act) → q ≡ o → KeepsKey p old new → HasKey p o k old → HasKey p q k new
key_as p o q k old new same keep at = subst (λ (x : Option Derivation). HasKey p x k new) (sym same) (key_on p o k old new keep at)

-- the fast transitions with p stand as they did
abbrev pub KeepsMoves : Node → List Act → List Act → Type 0
KeepsMoves p old new = (d : Domain) (n : Node) (m : Moves) → HasMoves d n p m old → HasMoves d n p m new

-- from the one history to the other lead acts that are not about p
pub record IsFar (p : Node) (old new : List Act) : Type 0 where
  pub other : IsOther p old new
  pub keeps_key : KeepsKey p old new
  pub keeps_moves : KeepsMoves p old new

pub far_on : (p : Node) (g h : List Act) → AllByRecursion (IsApart p) g → AllLeave p g → IsFar p h (add g h)
far_on p g h apart leave = record { other = other_on p g h apart; keeps_key = keeps p g h leave; keeps_moves = λ d n m has. moves_apart d n p m g h apart has }

-- ---- a frame that was refused or ignored, or an event that did nothing

pub record IsSame (old new : List Act) : Type 0 where
  pub each : (p : Node) → IsFar p old new
  pub draws_are : draws new ≡ draws old
  pub group : IsSameGroup old new

group_by : (d : Domain) (n q : Node) (k : Kind) (o : Option ℕ) (h : List Act) → IsSameGroup h (add (response_by d n q k o) h)
group_by d n q kind.AssocReq (Some code) h = record { keys_are = λ x. refl; switches_are = λ x. refl; uses_are = λ x. refl }
group_by d n q kind.FtReq (Some code) h = record { keys_are = λ x. refl; switches_are = λ x. refl; uses_are = λ x. refl }
group_by d n q kind.ReReq (Some code) h = record { keys_are = λ x. refl; switches_are = λ x. refl; uses_are = λ x. refl }
group_by d n q k _ h = same_group h

response-group : (d : Domain) (n : Node) (from : Option Node) (k : Kind) (why : Reason) (h : List Act) → IsSameGroup h (add (response d n from k why) h)
response-group d (Ap a) (Some q) k why h = group_by d (Ap a) q k (refused_status why) h
response-group d (Ap a) None k why h = same_group h
response-group d (Sta s) from k why h = same_group h

refused-group : (d : Domain) (n : Node) (from : Option Node) (octets : List ℕ) (k : Kind) (why : Reason) (s : Option Seal) (h : List Act) → IsSameGroup h (add (refused_acts d n from octets k why s) h)
refused-group d n from octets k why s h =
    let after = response-group d n from k why (Took from octets k (Refused why) s ∷ h) in
    record { keys_are = after.keys_are; switches_are = after.switches_are; uses_are = after.uses_are }

leaves_by : (d : Domain) (n p q : Node) (k : Kind) (o : Option ℕ) → AllLeave p (response_by d n q k o)
leaves_by d n p q kind.AssocReq (Some code) tk = (record { used = λ h. refl; got = λ tid h. refl }, tt)
leaves_by d n p q kind.FtReq (Some code) tk = (record { used = λ h. refl; got = λ tid h. refl }, tt)
leaves_by d n p q kind.ReReq (Some code) tk = (record { used = λ h. refl; got = λ tid h. refl }, tt)
leaves_by d n p q k _ tk = tt

response-leaves : (d : Domain) (n p : Node) (from : Option Node) (k : Kind) (why : Reason) → AllLeave p (response d n from k why)
response-leaves d (Ap a) p (Some q) k why tk = leaves_by d (Ap a) p q k (refused_status why) tk
response-leaves d (Ap a) p None k why tk = tt
response-leaves d (Sta s) p from k why tk = tt

pub same-refused : (d : Domain) (n : Node) (from : Option Node) (octets : List ℕ) (k : Kind) (why : Reason) (s : Option Seal) (h : List Act) → IsSame h (add (refused_acts d n from octets k why s) h)
same-refused d n from octets k why s h = record {
  each = λ p. far_on p (refused_acts d n from octets k why s) h (apart-refused p from octets k why s, response-apart d n from k why p)
      (λ tk. (record { used = λ l. refl; got = λ tid l. refl }, response-leaves d n p from k why tk));
  draws_are = (as_before-refused d n from octets k why s h).draws_are;
  group = refused-group d n from octets k why s h;
}

pub same-ignored : (octets : List ℕ) (h : List Act) → IsSame h (Took None octets kind.Ignored Ignored None ∷ h)
same-ignored octets h = record {
  each = λ p. far_on p (Took None octets kind.Ignored Ignored None ∷ []) h (apart-ignored p None octets kind.Ignored None, tt)
      (λ tk. (record { used = λ l. refl; got = λ tid l. refl }, tt));
  draws_are = refl;
  group = record { keys_are = λ x. refl; switches_are = λ x. refl; uses_are = λ x. refl };
}

pub same-idle : (w : Why) (h : List Act) → IsSame h (Idle w ∷ h)
same-idle w h = record {
  each = λ p. far_on p (Idle w ∷ []) h (apart-idle p w, tt) (λ tk. (record { used = λ l. refl; got = λ tid l. refl }, tt));
  draws_are = refl;
  group = record { keys_are = λ x. refl; switches_are = λ x. refl; uses_are = λ x. refl };
}

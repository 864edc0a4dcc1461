-- What is sent to a station may be followed by the acts that begin to renew the key of its session.
use Rattle.std.proofs.Common.{◌≡◌, ℕ, suc, Bool, true, false, cond, List, ◌++◌, Option, Some, None, refl}
use Rattle.std.specs.Prelude.{nat_lt}
use Rattle.domain_base.specs.declared.names.Node.{Node}
use Rattle.domain_base.specs.declared.names.Node.TheVariants.{Ap, Sta}
use Rattle.domain_base.specs.declared.names.Peer.{Peer}
use Rattle.domain_base.specs.declared.names.Peer.TheVariants.{One, All}
use Rattle.replay_window.specs.Numbers.{last_number}
use Rattle.run_journal.specs.declared.acts.Act.{Act}
use Rattle.domain_rules.specs.PacketNumbers.{SendKey, send_key}
use Rattle.domain_rules.specs.PairwiseRenewal.{renew_acts, is_due}
use Rattle.domain_rules.specs.DataRows.{send_acts_by, and_due, send_acts}
use Rattle.domain_rules.specs.Here.{Here}

-- they are due
pub record FollowsSent (w : Here) (h : List Act) (p : Node) (k : SendKey) : Type 0 where
  pub room : nat_lt k.used last_number ≡ true
  pub due : is_due w h p (suc k.used) ≡ true

module _ (P : List Act → Type 0) (w : Here) (h acts : List Act) where
  by_due : (p : Node) (k : SendKey) (b c : Bool) → nat_lt k.used last_number ≡ b → is_due w h p (suc k.used) ≡ c → P acts → (FollowsSent w h p k → P (acts ++ renew_acts w.domain w.first w.node h p))
      → P (cond b (cond c (acts ++ renew_acts w.domain w.first w.node h p) acts) acts)
  by_due p k true true room due one more = more (record { room = room; due = due })
  by_due p k true false room due one more = one
  by_due p k false c room due one more = one

  -- whatever holds of what is sent, and of that with those acts behind it where they are due, holds of both together
  pub due_by : (n : Node) (q : Peer) (o : Option SendKey) → P acts
      → ((a : ℕ) (p : Node) (k : SendKey) → n ≡ Ap a → q ≡ One p → o ≡ Some k → FollowsSent w h p k → P (acts ++ renew_acts w.domain w.first w.node h p)) → P (and_due w n h q o acts)
  due_by (Sta s) q o one more = one
  due_by (Ap a) All o one more = one
  due_by (Ap a) (One p) None one more = one
  due_by (Ap a) (One p) (Some k) one more = by_due p k (nat_lt k.used last_number) (is_due w h p (suc k.used)) refl refl one (more a p k refl refl refl)

-- of all that an event adds by which something is sent
pub sent_by : (P : List Act → Type 0) (w : Here) (h : List Act) (q : Peer) (tid : Option ℕ) (plain : List ℕ) → P (send_acts_by w.domain w.node q tid plain (send_key h q))
    → ((a : ℕ) (p : Node) (k : SendKey) → w.node ≡ Ap a → q ≡ One p → send_key h q ≡ Some k → FollowsSent w h p k → P (send_acts_by w.domain w.node q tid plain (send_key h q) ++ renew_acts w.domain w.first w.node h p))
    → P (send_acts w h q tid plain)
sent_by P w h q tid plain one more = due_by P w h (send_acts_by w.domain w.node q tid plain (send_key h q)) w.node q (send_key h q) one more

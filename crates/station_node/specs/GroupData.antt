-- Protected data and Action frames for a group that a station takes under a group key that it keeps (IEEE Std 802.11-2020,
-- 12.5.3.4, 12.5.4.6, profile).
use Rattle.std.specs.Prelude.{◌≡◌, ℕ, List, [], ◌∷◌, ◌++◌, Some, None}
use Rattle.domain_base.specs.declared.names.Node.TheVariants.{Ap}
use Rattle.ccmp_guard.specs.Ccmp.{packet_number, key_id_in}
use Rattle.ccmp_guard.specs.Held.{Held}
use Rattle.bip_guard.specs.Bip.{ipn_in}
use Rattle.bip_guard.specs.Bip as bip
use Rattle.run_journal.specs.declared.acts.GroupKind.TheVariants as groups
use Rattle.run_journal.specs.declared.acts.Reason.TheVariants as reason
use Rattle.run_journal.specs.declared.acts.Outcome.{Outcome}
use Rattle.run_journal.specs.declared.acts.Outcome.TheVariants.{Accepted, Refused}
use Rattle.run_journal.specs.declared.acts.Kind.TheVariants.{Action}
use Rattle.run_journal.specs.declared.acts.Act.TheVariants.{Took}
use Rattle.node_base.specs.Events.{Seen}
use Rattle.frame_intake.specs.SealedFields.{SealedFields}
use Rattle.frame_intake.specs.ActionFields.{ActionFields}
use Rattle.data_frames.specs.Holding.{kept_key}
use Rattle.data_frames.specs.Taking.{refusal, IsOpenedUnder}
use Rattle.data_frames.specs.Actions.{integrity, action_outcome, action_acts}
use Rattle.group_key.specs.Keys.{Kept, Memories, found, taken}
use Rattle.group_key.specs.Holds.{AreOfKind}

-- the counters after a frame of which that came: the number is taken where it was accepted
abbrev pub counters_after : Outcome → ℕ → ℕ → List Kept → List Kept
counters_after Accepted id number ks = taken id number ks
counters_after _ id number ks = ks

-- the same group keys, with those GTKs, or with those IGTKs
abbrev pub with_gtks : List Kept → Memories → Memories
with_gtks ks m = record { gtks = ks; igtks = m.igtks }

abbrev pub with_igtks : List Kept → Memories → Memories
with_igtks ks m = record { gtks = m.gtks; igtks = ks }

-- the group keys that are kept of access point ap before and after these octets of it, and what is seen of it
pub data IsGroupTaken (ap : ℕ) (octets : List ℕ) (f : SealedFields) (old new : Memories) (s : Seen) : Type 0 where
  -- no GTK is kept with that key id
  Without : found (key_id_in f.body) old.gtks ≡ None → new ≡ old → s.outcome ≡ Refused reason.NoKey
      → s.waits ≡ s.waited ++ refusal (Ap ap) octets reason.NoKey → IsGroupTaken ap octets f old new s
  -- the later of those with that key id
  Under : (k : Kept) (after : Held) → found (key_id_in f.body) old.gtks ≡ Some k
      → IsOpenedUnder (Ap ap) octets f (kept_key k.key k.id k.counter) after s
      → new ≡ with_gtks (counters_after s.outcome (key_id_in f.body) (packet_number f.body) old.gtks) old → IsGroupTaken ap octets f old new s

-- the group keys that are kept of access point ap before and after these octets of it, which are that Action frame, and what is
-- seen of it
pub data IsActionTaken (ap : ℕ) (octets : List ℕ) (f : ActionFields) (old new : Memories) (s : Seen) : Type 0 where
  -- no IGTK is kept with that key id
  Keyless : (AreOfKind groups.Igtk old.igtks → found (bip.key_id_in f.body) old.igtks ≡ None) → new ≡ old → s.outcome ≡ Refused reason.NoKey
      → s.waits ≡ s.waited ++ Took (Some (Ap ap)) octets Action (Refused reason.NoKey) None ∷ [] → IsActionTaken ap octets f old new s
  -- the later of those with that key id
  Tried : (k : Kept) → found (bip.key_id_in f.body) old.igtks ≡ Some k → s.outcome ≡ action_outcome f (integrity k.key k.id) k.counter
      → s.waits ≡ s.waited ++ action_acts (Ap ap) octets f (integrity k.key k.id) s.outcome
      → new ≡ with_igtks (counters_after s.outcome (bip.key_id_in f.body) (ipn_in f.body) old.igtks) old → IsActionTaken ap octets f old new s

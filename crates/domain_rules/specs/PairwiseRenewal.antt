-- How an access point begins to renew the pairwise key of a session (IEEE Std 802.11-2020, 12.7.6.2, profile).
use Rattle.std.specs.Prelude.{◌≡◌, ℕ, ◌+◌, ◌<◌, ◌≤◌, Bool, true, not, ◌&&◌, cond, List, [], ◌∷◌, ◌++◌, Some, None, is_some, nat_lt}
use Rattle.domain_base.specs.declared.names.Node.{Node}
use Rattle.run_journal.specs.declared.domain.Domain.{Domain}
use Rattle.run_journal.specs.declared.acts.Start.TheVariants.{Renew}
use Rattle.run_journal.specs.declared.acts.Drawn.TheVariants.{Nonce}
use Rattle.run_journal.specs.declared.acts.Why.TheVariants as why
use Rattle.run_journal.specs.declared.acts.Act.{Act}
use Rattle.run_journal.specs.declared.acts.Act.TheVariants.{Opened, Drew, Idle}
use Rattle.run_journal.specs.Acts.{Derivation}
use Rattle.run_journal.specs.Questions.{attempt, session, draws}
use Rattle.domain_rules.specs.Network.{is_ap, renews, renews_at, draw_end}
use Rattle.domain_rules.specs.Frames.{sent_m1}
use Rattle.domain_rules.specs.Counters.{next_in_session}
use Rattle.domain_rules.specs.Closing.{next_nonce}
use Rattle.domain_rules.specs.Here.{Here}

-- an access point begins to renew the key of its session with p: it draws a nonce, and M1 has the next counter of the
-- session (IEEE Std 802.11-2020, 12.7.6.2, profile)
abbrev pub renew_acts : Domain → ℕ → Node → List Act → Node → List Act
renew_acts d first n h p =
    Opened p Renew ∷ Drew (Nonce (next_nonce d first n h)) ∷ sent_m1 d n p (next_in_session p h) (next_nonce d first n h) ∷ []

-- it does so in a session beside which there is no attempt (IEEE Std 802.11-2020, 12.7.6.2, profile)
pub data RenewRow (w : Here) (h : List Act) (p : Node) (g : List Act) : Type 0 where
  NoSession : session p h ≡ None → g ≡ Idle why.NoSession ∷ [] → RenewRow w h p g
  Nothing : (x : Derivation) → session p h ≡ Some x → (part : List Act) → attempt p h ≡ Some part → g ≡ Idle why.Nothing ∷ [] → RenewRow w h p g
  Spent : (x : Derivation) → session p h ≡ Some x → attempt p h ≡ None → draw_end ≤ w.first + draws h → g ≡ Idle why.Spent ∷ [] → RenewRow w h p g
  Begins : is_ap w.node ≡ true → renews w.domain ≡ true → (x : Derivation) → session p h ≡ Some x → attempt p h ≡ None → w.first + draws h < draw_end
      → g ≡ renew_acts w.domain w.first w.node h p → RenewRow w h p g

-- an access point begins so as it uses that packet number of the session's key, where the network says so of the number,
-- there is no attempt, and a nonce can be drawn (profile)
abbrev pub is_due : Here → List Act → Node → ℕ → Bool
is_due w h p number = renews_at w.domain number && (not (is_some (attempt p h)) && nat_lt (w.first + draws h) draw_end)

-- the acts of sending to p, and those by which the renewal of the key begins that is due with that packet number. It is
-- asked of the history before them: what is sent changes nothing of it (profile)
abbrev pub and_renewal : Here → List Act → Node → ℕ → List Act → List Act
and_renewal w h p number acts = cond (is_due w h p number) (acts ++ renew_acts w.domain w.first w.node h p) acts

-- A station begins an attempt, or has drawn as often as it may.
use Rattle.std.proofs.Common.{◌≡◌, ℕ, ◌<◌, ◌≤◌, List, [], ◌∷◌, ◌++◌, length, Option, Some, None, refl, ap, subst, ◌∙◌, append_assoc}
use Rattle.domain_base.specs.declared.names.Node.{Node}
use Rattle.domain_base.specs.declared.names.Node.TheVariants.{Ap, Sta}
use Rattle.run_journal.specs.declared.domain.Domain.{Domain}
use Rattle.run_journal.specs.declared.acts.Start.TheVariants.{Connect}
use Rattle.run_journal.specs.declared.acts.Drawn.TheVariants.{Nonce}
use Rattle.run_journal.specs.declared.acts.Why.TheVariants as why
use Rattle.run_journal.specs.declared.acts.Outcome.TheVariants.{Done}
use Rattle.run_journal.specs.declared.acts.Outcome.TheVariants.{Idle as IdleBy}
use Rattle.run_journal.specs.declared.acts.Act.{Act}
use Rattle.run_journal.specs.declared.acts.Act.TheVariants.{Opened, Drew, Idle}
use Rattle.run_journal.specs.Questions.{pending, associated}
use Rattle.domain_rules.specs.Here.{here}
use Rattle.domain_rules.specs.Network.{nonce, draw_end}
use Rattle.domain_rules.specs.Frames.{sent_assoc_req}
use Rattle.domain_rules.specs.Rows.{Begin, outcome_of}
use Rattle.domain_rules.specs.Closing.{close_pending, close_associated}
use Rattle.domain_rules.specs.StationRows.{Spent, Asks}
use Rattle.domain_rules.proofs.Effects.{asking_acts}
use Rattle.domain_rules.proofs.Switching.{station_adds}
use Rattle.node_base.specs.Events.{Steps, seen}
use Rattle.station_node.specs.State.{State}
use Rattle.station_node.specs.Parts.{peer_of_session, peer_pending}
use Rattle.station_node.specs.Stands.{Stands}
use Rattle.station_node.proofs.Acts.{plain-idle}
use Rattle.station_node.proofs.Standing.{stands-plain}
use Rattle.station_node.proofs.Beginning.{asked_state, stands-asked}

pub steps-spent : (d : Domain) (first sta : ℕ) (s : State) (h : List Act) (p : ℕ) (waited : List Act) → Stands d first s h → draw_end ≤ s.drawn
    → Steps (here d first (Sta sta)) (Begin p) (Stands d first s) h (seen waited (waited ++ Idle why.Spent ∷ []) (IdleBy why.Spent))
steps-spent d first sta s h p waited st spent = record {
  acts = Idle why.Spent ∷ [];
  adds = station_adds d first sta h (Begin p) (Idle why.Spent ∷ []) (Spent (subst (λ (m : ℕ). draw_end ≤ m) st.draws_are spent) refl);
  waiting = refl;
  came = refl;
  stands = stands-plain d first s h (Idle why.Spent) (plain-idle why.Spent) st;
}

asking-waits : (d : Domain) (sta : ℕ) (was had : Option Node) (p : ℕ) (v : List ℕ) (waited : List Act)
    → ((((waited ++ close_pending was) ++ close_associated had) ++ (Opened (Ap p) Connect ∷ [])) ++ (Drew (Nonce v) ∷ [])) ++ sent_assoc_req d (Sta sta) (Ap p) ∷ [] ≡ waited ++ asking_acts d (Sta sta) was had p v
asking-waits d sta None None p v waited = simp append_assoc
asking-waits d sta (Some q) None p v waited = simp append_assoc
asking-waits d sta None (Some r) p v waited = simp append_assoc
asking-waits d sta (Some q) (Some r) p v waited = simp append_assoc

asking-done : (d : Domain) (sta : ℕ) (was had : Option Node) (p : ℕ) (v : List ℕ) → Done ≡ outcome_of (asking_acts d (Sta sta) was had p v)
asking-done d sta None None p v = refl
asking-done d sta (Some q) None p v = refl
asking-done d sta None (Some r) p v = refl
asking-done d sta (Some q) (Some r) p v = refl

pub steps-asked : (d : Domain) (first sta : ℕ) (s : State) (h : List Act) (p : ℕ) (v : List ℕ) (waited : List Act) → Stands d first s h → p < length d.aps → s.drawn < draw_end → v ≡ nonce d (Sta sta) s.drawn
    → Steps (here d first (Sta sta)) (Begin p) (Stands d first (asked_state s p v)) h (seen waited (((((waited ++ close_pending (peer_pending s.attempt s.session)) ++ close_associated (peer_of_session s.session)) ++ (Opened (Ap p) Connect ∷ [])) ++ (Drew (Nonce v) ∷ [])) ++ sent_assoc_req d (Sta sta) (Ap p) ∷ []) Done)
steps-asked d first sta s h p v waited st listed low v_is = record {
  acts = asking_acts d (Sta sta) (pending h) (associated h) p v;
  adds = station_adds d first sta h (Begin p) (asking_acts d (Sta sta) (pending h) (associated h) p v) (Asks (subst (λ (m : ℕ). m < draw_end) st.draws_are low) (ap (asking_acts d (Sta sta) (pending h) (associated h) p) (v_is ∙ ap (nonce d (Sta sta)) st.draws_are)));
  waiting = rw (st.pending_is, st.associated_is) (asking-waits d sta (peer_pending s.attempt s.session) (peer_of_session s.session) p v waited);
  came = rw (st.pending_is, st.associated_is) (asking-done d sta (peer_pending s.attempt s.session) (peer_of_session s.session) p v);
  stands = stands-asked d first s h (Sta sta) p v st listed;
}

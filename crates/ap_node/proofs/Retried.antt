-- A retry, by what there is in the place of the station.
use Rattle.std.proofs.Common.{◌≡◌, ℕ, List, [], ◌∷◌, ◌++◌, Result, Ok, Err, refl, sym, subst, inr}
use Rattle.std.specs.Prelude.{IfOk, OnOk}
use Rattle.run_journal.specs.declared.acts.Why.TheVariants as why
use Rattle.run_journal.specs.declared.acts.Outcome.{Outcome}
use Rattle.run_journal.specs.declared.acts.Outcome.TheVariants.{Idle as IdleBy}
use Rattle.run_journal.specs.declared.acts.Act.{Act}
use Rattle.run_journal.specs.declared.acts.Act.TheVariants.{Idle}
use Rattle.domain_rules.specs.Rows.{outcome_of}
use Rattle.group_key.specs.declared.news.News.{News}
use Rattle.ap_node.specs.declared.station.Station.{Station}
use Rattle.ap_node.specs.State.{no_station}
use Rattle.ap_node.specs.Parts.{StaysIdle, IsResent}

idle_there : (o new : Station) → o ≡ no_station → new ≡ no_station → StaysIdle o new (Idle why.Nothing ∷ [])
idle_there o new was now = subst (λ (x : Station). StaysIdle x new (Idle why.Nothing ∷ [])) (sym was) (record { none = refl; alone = tt; is = now; says = refl })

-- there is none, and nothing is done
pub idles_at : {E : Type 0} (r : Result Outcome E) (station : ℕ) (newest : News) (old new : Station) (waited waits : List Act) → old ≡ no_station → new ≡ no_station
    → IfOk r (λ came. came ≡ IdleBy why.Nothing) → OnOk r (waits ≡ waited ++ Idle why.Nothing ∷ [])
    → IfOk r (λ outcome. (acts : List Act) × (waits ≡ waited ++ acts) × (outcome ≡ outcome_of acts) × IsResent station newest old new acts)
idles_at (Ok came) station newest old new waited waits was now is waiting = (Idle why.Nothing ∷ [], waiting, is, inr (idle_there old new was now))
idles_at (Err e) station newest old new waited waits was now is waiting = tt

-- there is one
pub resent_at : {E : Type 0} (r : Result Outcome E) (station : ℕ) (newest : News) (old new a b : Station) (waited waits : List Act) → old ≡ a → new ≡ b
    → IfOk r (λ outcome. (acts : List Act) × (waits ≡ waited ++ acts) × (outcome ≡ outcome_of acts) × IsResent station newest a b acts)
    → IfOk r (λ outcome. (acts : List Act) × (waits ≡ waited ++ acts) × (outcome ≡ outcome_of acts) × IsResent station newest old new acts)
resent_at (Ok came) station newest old new a b waited waits was now w = (
  w.0,
  w.1,
  w.2,
  subst (λ (x : Station). IsResent station newest x new w.0) (sym was) (subst (λ (x : Station). IsResent station newest a x w.0) (sym now) w.3),
)
resent_at (Err e) station newest old new a b waited waits was now w = tt

-- What taking an Action frame under a kept IGTK comes to, in parts.
use Rattle.std.proofs.Common.{◌≡◌, ◌∙◌, ◌++◌, ℕ, ◌<◌, true, false, List, [], ◌∷◌, Some, Result, Ok, Err, refl, sym, subst}
use Rattle.std.specs.Prelude.{nat_lt, IfOk, OnOk}
use Rattle.std.proofs.lemmas.Bool.{ltb-true}
use Rattle.domain_base.specs.declared.names.Node.{Node}
use Rattle.bip_guard.specs.Bip.{ipn_in, mic_verifies}
use Rattle.run_journal.specs.declared.acts.Kind.TheVariants.{Action}
use Rattle.run_journal.specs.declared.acts.Reason.{Reason}
use Rattle.run_journal.specs.declared.acts.Reason.TheVariants as reason
use Rattle.run_journal.specs.declared.acts.Outcome.{Outcome}
use Rattle.run_journal.specs.declared.acts.Outcome.TheVariants.{Accepted, Refused}
use Rattle.run_journal.specs.declared.acts.Act.{Act}
use Rattle.run_journal.specs.declared.acts.Act.TheVariants.{Took, HandedUp}
use Rattle.run_journal.specs.Acts.{GroupKey}
use Rattle.domain_rules.specs.ManagementFrames.{bip_input, before_mic, before_mme}
use Rattle.act_memory.specs.Templates.{seal_over}
use Rattle.frame_intake.specs.ActionFields.{ActionFields}
use Rattle.data_frames.specs.Actions.{action_outcome, action_acts}

-- ---- what comes of it

pub replayed : (f : ActionFields) (g : GroupKey) (kept : ℕ) → nat_lt kept (ipn_in f.body) ≡ false → action_outcome f g kept ≡ Refused (reason.Replayed kept)
replayed f g kept low = rw low refl

pub opened : (f : ActionFields) (g : GroupKey) (kept : ℕ) → nat_lt kept (ipn_in f.body) ≡ true → mic_verifies g.key f.header.octets f.body ≡ true → action_outcome f g kept ≡ Accepted
opened f g kept above mic = rw (above, mic) refl

pub forged : (f : ActionFields) (g : GroupKey) (kept : ℕ) → nat_lt kept (ipn_in f.body) ≡ true → mic_verifies g.key f.header.octets f.body ≡ false → action_outcome f g kept ≡ Refused reason.Seal
forged f g kept above mic = rw (above, mic) refl

pub above_is : (kept n : ℕ) → nat_lt kept n ≡ true → kept < n
above_is kept n is = ltb-true kept n is

-- ---- its acts

pub handed_as : (p : Node) (tk key : List ℕ) (id key_id tid number : ℕ) (content : List ℕ) → tk ≡ key → id ≡ key_id → tid ≡ 0 → HandedUp p tk id tid number content ≡ HandedUp p key key_id 0 number content
handed_as p tk key id key_id tid number content k i t = rw (k, i, t) refl

pub handed_up : (p : Node) (octets : List ℕ) (f : ActionFields) (g : GroupKey) (taken covered content : List ℕ) (number : ℕ) (old mid new : List Act) → taken ≡ octets → covered ≡ 4 ∷ bip_input f.header.octets (before_mic f.body) → content ≡ before_mme f.body
    → number ≡ ipn_in f.body → mid ≡ old
    → new ≡ mid ++ Took (Some p) taken Action Accepted (Some (seal_over covered g.key)) ∷ HandedUp p g.key g.id 0 number content ∷ []
    → new ≡ old ++ action_acts p octets f g Accepted
handed_up p octets f g taken covered content number old mid new t c s n same is = is ∙ rw (same, t, c, s, n) refl

-- by what came of it
pub outcome_as : {E : Type 0} (r : Result Outcome E) (o came : Outcome) → came ≡ o → IfOk r (λ x. x ≡ o) → IfOk r (λ x. x ≡ came)
outcome_as r o came is x = subst (λ (y : Outcome). IfOk r (λ z. z ≡ y)) (sym is) x

pub acts_as : {E : Type 0} (r : Result Outcome E) (p : Node) (octets : List ℕ) (f : ActionFields) (g : GroupKey) (o came : Outcome) (old new : List Act) → came ≡ o → OnOk r (new ≡ old ++ action_acts p octets f g o) → OnOk r (new ≡ old ++ action_acts p octets f g came)
acts_as r p octets f g o came old new is x = subst (λ (y : Outcome). OnOk r (new ≡ old ++ action_acts p octets f g y)) (sym is) x

pub always_above : {E : Type 0} (r : Result Outcome E) (A : Type 0) → A → IfOk r (λ o. o ≡ Accepted → A)
always_above (Ok o) A a = λ is. a
always_above (Err e) A a = tt

pub never_accepted : {E : Type 0} (r : Result Outcome E) (why : Reason) (A : Type 0) → IfOk r (λ o. o ≡ Refused why) → IfOk r (λ o. o ≡ Accepted → A)
never_accepted (Ok o) why A refused = λ is. absurd (cc (refused, is))
never_accepted (Err e) why A refused = tt

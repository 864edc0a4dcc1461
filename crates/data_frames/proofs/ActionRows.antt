-- What an Action frame comes to is the row of the rules.
use Rattle.std.proofs.Common.{◌≡◌, ◌∙◌, ◌++◌, ℕ, Bool, true, false, cond, List, [], ◌∷◌, Option, Some, None, refl, sym, ap, subst}
use Rattle.std.specs.Prelude.{nat_lt, if◌then◌else◌}
use Rattle.domain_base.specs.declared.names.Node.{Node}
use Rattle.domain_base.specs.declared.names.Node.TheVariants.{Ap, Sta}
use Rattle.bip_guard.specs.Bip.{ipn_in, mic_verifies}
use Rattle.key_hierarchy.specs.declared.fast_transition.PmkR1.{PmkR1}
use Rattle.run_journal.specs.declared.acts.GroupKind.TheVariants as groups
use Rattle.run_journal.specs.declared.acts.Kind.TheVariants.{Action}
use Rattle.run_journal.specs.declared.acts.Reason.{Reason}
use Rattle.run_journal.specs.declared.acts.Reason.TheVariants as reason
use Rattle.run_journal.specs.declared.acts.Outcome.{Outcome}
use Rattle.run_journal.specs.declared.acts.Outcome.TheVariants.{Accepted, Refused}
use Rattle.run_journal.specs.declared.acts.Seal.{Seal}
use Rattle.run_journal.specs.declared.acts.Act.{Act}
use Rattle.run_journal.specs.declared.acts.Act.TheVariants.{Took}
use Rattle.run_journal.specs.Acts.{GroupKey}
use Rattle.domain_rules.specs.Facts.{Facts}
use Rattle.domain_rules.specs.Here.{Here}
use Rattle.domain_rules.specs.IntegrityKeys.{IsGot}
use Rattle.domain_rules.specs.ManagementFrames.{integrity_key, action_verdict_by, action_further_by, action_further}
use Rattle.domain_rules.specs.Reading.{Reading}
use Rattle.domain_rules.specs.Rows.{TakeRow, By_action, By_refusal, response}
use Rattle.domain_rules.specs.TransitionRows.{refused_look}
use Rattle.domain_rules.specs.Verdict.{Knows, first_verdict, further, further_from, verdict, and_then, unless_refused, comes_so_far, ComesSoFar}
use Rattle.frame_intake.specs.ActionFields.{ActionFields, action_reading}
use Rattle.data_frames.specs.Actions.{IsActionFrom, action_outcome, action_acts}

abbrev facts_at : ℕ → Facts
facts_at kept = record { requested = None; responded = None; unwrapped = None; data_ = None; pulled = None; opened = None; unwrapped_igtk = None; kept = kept }

-- the act of refusing it
abbrev pub action_refusal : Node → List ℕ → Reason → List Act
action_refusal p octets why = Took (Some p) octets Action (Refused why) None ∷ []

-- it is answered by nothing
silent : (w : Here) (p : Node) (why : Reason) → response w.domain w.node (Some p) Action why ≡ []
silent w p why = by w.node
  where
    by : (n : Node) → response w.domain n (Some p) Action why ≡ []
    by (Ap a) = refl
    by (Sta s) = refl

-- of one that is refused nothing is noted as sealed
unsealed_always : (b : Bool) → cond {A = Option Seal} b None None ≡ None
unsealed_always true = refl
unsealed_always false = refl

-- and no key holder is asked
unasked : (n : Node) (o : Option Node) (f : ActionFields) (pulled : Option PmkR1) (why : Reason) → refused_look n o (action_reading f) pulled why ≡ []
unasked (Ap a) (Some p) f pulled why = refl
unasked (Ap a) None f pulled why = refl
unasked (Sta s) o f pulled why = refl

says_by : (w : Here) (p : Node) (octets : List ℕ) (f : ActionFields) (pulled : Option PmkR1) (why : Reason) (o : Option Node) (s : Option Seal) → o ≡ Some p → s ≡ None
    → action_refusal p octets why ≡ Took o octets Action (Refused why) s ∷ refused_look w.node o (action_reading f) pulled why ++ response w.domain w.node o Action why
says_by w p octets f pulled why o s from none =
    rw (from, none) (ap (λ (g : List Act). Took (Some p) octets Action (Refused why) None ∷ g) (sym (ap (λ (g : List Act). g ++ response w.domain w.node (Some p) Action why) (unasked w.node (Some p) f pulled why) ∙ silent w p why)))

module _ (w : Here) (h : List Act) (p : Node) (octets : List ℕ) (f : ActionFields) (d : IsActionFrom w h p octets f) where
  abbrev reading : Reading
  reading = action_reading f

  abbrev first : Outcome
  first = first_verdict w.domain w.first w.node h reading

  refuses : (facts : Facts) (why : Reason) → Knows w.domain w.first w.node h reading facts → verdict w.domain w.first w.node h reading facts ≡ Refused why → TakeRow w h octets (action_refusal p octets why)
  refuses facts why knows refused = record {
    r = reading;
    reads = d.reads;
    facts = facts;
    knows = knows;
    row = By_refusal (record {
      why = why;
      refused = refused;
      says = says_by w p octets f facts.pulled why _ _ d.from (unsealed_always (comes_so_far first));
    });
  }

  -- there is no key
  pub keyless_row : integrity_key p h f.body ≡ None → TakeRow w h octets (action_refusal p octets reason.NoKey)
  keyless_row none =
      let out : first ≡ Refused reason.NoKey = d.verdict_is ∙ ap action_verdict_by none in
      refuses (facts_at 0) reason.NoKey (λ came. absurd (subst ComesSoFar out came)) (ap (λ (o : Outcome). and_then o (further w.domain w.first w.node h reading (facts_at 0))) out)

  module _ (g : GroupKey) (under : integrity_key p h f.body ≡ Some g) (kept : ℕ) (got : IsGot groups.Igtk p g.key g.id h kept) where
    accepted : first ≡ Accepted
    accepted = d.verdict_is ∙ ap action_verdict_by under

    -- whoever sent it, and whatever it is tried under, are these
    known : Knows w.domain w.first w.node h reading (facts_at kept)
    known = λ came q from other is.
        let one : p ≡ q = cc (d.named, from) in
        let key : g ≡ other = cc (under, subst (λ (x : Node). integrity_key x h f.body ≡ Some other) (sym one) is) in
        subst (λ (x : Node). IsGot groups.Igtk x other.key other.id h kept) one (subst (λ (x : GroupKey). IsGot groups.Igtk p x.key x.id h kept) key got)

    comes : verdict w.domain w.first w.node h reading (facts_at kept) ≡ unless_refused Accepted (action_outcome f g kept)
    comes =
        ap (λ (o : Outcome). and_then o (further w.domain w.first w.node h reading (facts_at kept))) accepted
        ∙ ap (λ (o : Option Node). unless_refused Accepted (further_from o (λ q. action_further h q f.header f.body kept))) d.named
        ∙ ap (λ (o : Option GroupKey). unless_refused Accepted (action_further_by f.header f.body kept o)) under

    -- what stands in it is handed up
    handed_up : verdict w.domain w.first w.node h reading (facts_at kept) ≡ Accepted → TakeRow w h octets (action_acts p octets f g Accepted)
    handed_up is = record {
      r = reading;
      reads = d.reads;
      facts = facts_at kept;
      knows = known;
      row = By_action (record {
        header = f.header;
        body = f.body;
        is = refl;
        p = p;
        from = d.from;
        accepted = is;
        k = g;
        under = under;
        says = refl;
      });
    }

    abbrev outcome_by : Bool → Bool → Outcome
    outcome_by above mic = if above then (if mic then Accepted else Refused reason.Seal) else Refused (reason.Replayed kept)

    row_by : (above mic : Bool) → verdict w.domain w.first w.node h reading (facts_at kept) ≡ unless_refused Accepted (outcome_by above mic) → TakeRow w h octets (action_acts p octets f g (outcome_by above mic))
    row_by true true is = handed_up is
    row_by true false is = refuses (facts_at kept) reason.Seal known is
    row_by false mic is = refuses (facts_at kept) (reason.Replayed kept) known is

    pub action_row : TakeRow w h octets (action_acts p octets f g (action_outcome f g kept))
    action_row = row_by (nat_lt kept (ipn_in f.body)) (mic_verifies g.key f.header.octets f.body) comes

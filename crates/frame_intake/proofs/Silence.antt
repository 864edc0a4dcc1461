-- Which refusals nothing answers.
use Rattle.std.proofs.Common.{◌≡◌, ℕ, List, [], Option, Some, None, refl, ap, ◌∙◌}
use Rattle.domain_base.specs.declared.names.Node.{Node}
use Rattle.domain_base.specs.declared.names.Node.TheVariants.{Ap, Sta}
use Rattle.key_hierarchy.specs.declared.fast_transition.PmkR1.{PmkR1}
use Rattle.rsn_elements.specs.Elements.{ElementFields}
use Rattle.air_frame.specs.declared.frame.AirFault.{AirFault}
use Rattle.air_frame.specs.declared.frame.AirFault.TheVariants as air
use Rattle.run_journal.specs.declared.domain.Domain.{Domain}
use Rattle.run_journal.specs.declared.acts.Kind.{Kind}
use Rattle.run_journal.specs.declared.acts.Kind.TheVariants as kind
use Rattle.run_journal.specs.declared.acts.Malformed.{Malformed}
use Rattle.run_journal.specs.declared.acts.Reason.{Reason}
use Rattle.run_journal.specs.declared.acts.Reason.TheVariants as reason
use Rattle.domain_rules.specs.FastTransition.{single}
use Rattle.domain_rules.specs.Reading.{Reading, Managed}
use Rattle.domain_rules.specs.TransitionKeys.{Asked, asked}
use Rattle.domain_rules.specs.TransitionRows.{look_answer, looked_by, looked_for, look_of_kind, refused_look}
use Rattle.domain_rules.specs.Rows.{refused_status, response_by, response}
use Rattle.domain_rules.specs.Verdict.{air_reason}
use Rattle.frame_intake.specs.Judging.{IsSilent}

by_no_status : (d : Domain) (n p : Node) (k : Kind) → response_by d n p k None ≡ []
by_no_status d n p kind.AssocReq = refl
by_no_status d n p kind.FtReq = refl
by_no_status d n p kind.ReReq = refl
by_no_status d n p _ = refl

no_answer : (d : Domain) (n : Node) (from : Option Node) (k : Kind) (why : Reason) → refused_status why ≡ None → response d n from k why ≡ []
no_answer d (Ap a) (Some p) k why none = ap (response_by d (Ap a) p k) none ∙ by_no_status d (Ap a) p k
no_answer d (Ap a) None k why none = refl
no_answer d (Sta s) from k why none = refl

asked_none : (p : Node) (a : Asked) (name : Option (List ℕ)) → looked_by p a name None ≡ []
asked_none p a None = refl
asked_none p a (Some name) = refl

looked_none : (p : Node) (a : Option Asked) → looked_for p a None ≡ []
looked_none p None = refl
looked_none p (Some a) = asked_none p a (single a.names)

of_kind_none : (k : Kind) (p : Node) (e : ElementFields) → look_of_kind k p e None ≡ []
of_kind_none kind.FtReq p e = looked_none p (asked e)
of_kind_none _ p e = refl

no_look : (n : Node) (from : Option Node) (r : Reading) (pulled : Option PmkR1) (why : Reason) → look_answer why pulled ≡ None → refused_look n from r pulled why ≡ []
no_look (Ap a) (Some p) (Managed b e) pulled why none = ap (look_of_kind b.kind p e) none ∙ of_kind_none b.kind p e
no_look n from r pulled why none = refl

silent_by : (d : Domain) (n : Node) (why : Reason) → refused_status why ≡ None → ((pulled : Option PmkR1) → look_answer why pulled ≡ None) → IsSilent d n why
silent_by d n why plain unasked = record { answer = λ from k. no_answer d n from k why plain; look = λ from r pulled. no_look n from r pulled why (unasked pulled) }

pub silent_malformed : (d : Domain) (n : Node) (fault : Malformed) → IsSilent d n (reason.Malformed fault)
silent_malformed d n fault = silent_by d n (reason.Malformed fault) refl (λ pulled. refl)

pub silent_profile : (d : Domain) (n : Node) (code : ℕ) → IsSilent d n (reason.OutOfProfile code)
silent_profile d n code = silent_by d n (reason.OutOfProfile code) refl (λ pulled. refl)

pub silent_receiver : (d : Domain) (n : Node) → IsSilent d n reason.NotForMe
silent_receiver d n = silent_by d n reason.NotForMe refl (λ pulled. refl)

pub silent_sender : (d : Domain) (n : Node) → IsSilent d n reason.UnknownPeer
silent_sender d n = silent_by d n reason.UnknownPeer refl (λ pulled. refl)

pub silent_unawaited : (d : Domain) (n : Node) → IsSilent d n reason.Unawaited
silent_unawaited d n = silent_by d n reason.Unawaited refl (λ pulled. refl)

pub silent_no_key : (d : Domain) (n : Node) → IsSilent d n reason.NoKey
silent_no_key d n = silent_by d n reason.NoKey refl (λ pulled. refl)

pub silent_air : (d : Domain) (n : Node) (fault : AirFault) → IsSilent d n (air_reason fault)
silent_air d n (air.OutOfProfile code) = silent_profile d n code
silent_air d n (air.Short place) = silent_malformed d n _
silent_air d n air.Version = silent_malformed d n _
silent_air d n (air.Body place) = silent_malformed d n _

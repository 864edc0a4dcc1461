-- What comes of association frames, and of management frames altogether (IEEE Std 802.11-2020, 9.4.1.9, 9.4.2.24,
-- 11.3.5, 13.4.2, profile).
use Rattle.std.specs.Prelude.{ℕ, not, ◌||◌, ◌==◌, nat_lt, List, if◌then◌else◌}
use Rattle.domain_base.specs.declared.names.Akm.{Akm}
use Rattle.domain_base.specs.declared.names.Akm.TheVariants.{FtPsk}
use Rattle.domain_base.specs.declared.names.Node.{Node}
use Rattle.domain_base.specs.declared.names.Node.TheVariants.{Ap, Sta}
use Rattle.rsn_elements.specs.Elements.{ElementFields}
use Rattle.run_journal.specs.declared.domain.Domain.{Domain}
use Rattle.run_journal.specs.declared.acts.Kind.{Kind}
use Rattle.run_journal.specs.declared.acts.Kind.TheVariants as kind
use Rattle.run_journal.specs.declared.acts.Reason.TheVariants as reason
use Rattle.run_journal.specs.declared.acts.Outcome.{Outcome}
use Rattle.run_journal.specs.declared.acts.Outcome.TheVariants.{Accepted, Refused}
use Rattle.run_journal.specs.declared.acts.Act.{Act}
use Rattle.run_journal.specs.Questions.{attempt}
use Rattle.domain_rules.specs.Network.{address, draw_end}
use Rattle.domain_rules.specs.Reading.{Management}
use Rattle.domain_rules.specs.Asking.{by_connect, has_heard, in_attempt}
use Rattle.domain_rules.specs.FastTransition.{mde_status, mobility_status, fte_status, or_status, names_r1kh}
use Rattle.domain_rules.specs.TransitionKeys.{ft_req_verdict, ft_resp_verdict, re_req_verdict, re_resp_verdict}
pub use Rattle.domain_rules.specs.Suites.{rsne_status, without_status}

-- an association request at an access point that has drawn so often (11.3.5, profile)
abbrev pub assoc_req_verdict : Domain → ℕ → ElementFields → Outcome
assoc_req_verdict d drawn e =
    without_status (rsne_status d e.rsne) (without_status (mobility_status d.akm d e.mde) (if nat_lt drawn draw_end then Accepted else Refused reason.Spent))

-- with suite 4 a response names the mobility domain, and in its FTE the access point as R1KH and an R0KH (13.4.2,
-- profile)
abbrev pub response_fields : Akm → Domain → Node → ElementFields → Outcome
response_fields FtPsk d p e = without_status (mde_status d e.mde) (or_status fte_status (names_r1kh (address d p) e.fte) Accepted)
response_fields _ d p e = Accepted

-- an association response at a station (11.3.5, profile)
abbrev pub assoc_resp_verdict : Domain → List Act → Node → Management → ElementFields → Outcome
assoc_resp_verdict d h p b e =
    in_attempt (attempt p h) (λ part. (
    if not (by_connect part) || has_heard p kind.AssocResp part then Refused reason.Unawaited
    else if b.status == 0 then response_fields d.akm d p e
    else Refused (reason.Status b.status)))

-- a management frame from p at a node that has drawn so often, as far as the frame and the history decide (profile)
abbrev pub management_verdict : Domain → ℕ → Node → List Act → Node → Kind → Management → ElementFields → Outcome
management_verdict d drawn (Ap a) h p kind.AssocReq b e = assoc_req_verdict d drawn e
management_verdict d drawn (Sta s) h p kind.AssocResp b e = assoc_resp_verdict d h p b e
management_verdict d drawn (Ap a) h p kind.FtReq b e = ft_req_verdict d h p e
management_verdict d drawn (Sta s) h p kind.FtResp b e = ft_resp_verdict d (Sta s) h p b e
management_verdict d drawn (Ap a) h p kind.ReReq b e = re_req_verdict d (Ap a) h p e
management_verdict d drawn (Sta s) h p kind.ReResp b e = re_resp_verdict d (Sta s) h p b e
management_verdict d drawn n h p _ b e = Refused reason.Unawaited

-- Why frames of a fast transition are refused, by what a part of a node has (IEEE Std 802.11-2020, 13.8; the order of the checks is
-- this project's choice).
-- For the code alone: no public contract speaks of it.
use Rattle.std.specs.Prelude.{◌≡◌, ℕ, Bool, false, not, ◌&&◌, ◌==◌, List, Option, Some, None, is_some, bytes_eq, if◌then◌else◌, Result, Ok, Err}
use Rattle.rsn_elements.specs.Transition.{FteFields}
use Rattle.rsn_elements.specs.Elements.{ElementFields}
use Rattle.run_journal.specs.declared.acts.Reason.{Reason}
use Rattle.run_journal.specs.declared.acts.Reason.TheVariants as reason
use Rattle.run_journal.specs.declared.acts.Outcome.{Outcome}
use Rattle.run_journal.specs.declared.acts.Outcome.TheVariants.{Accepted, Refused}
use Rattle.domain_rules.specs.FastTransition.{names_both, counts_three, is_named}
use Rattle.domain_rules.specs.TransitionKeys.{asked}
use Rattle.ft_exchange.specs.Elements.{elements_status}
use Rattle.ft_exchange.specs.Group.{AreOpened, has_bad, carries_keys, AreCarried}
use Rattle.ft_exchange.specs.declared.group.CarriedKeys.{CarriedKeys}
use Rattle.ft_exchange.specs.declared.group.Unwrapped.{Unwrapped}
use Rattle.ft_exchange.specs.declared.expected.Expected.{Expected}

-- a status refuses, or else that does
abbrev pub status_first : Option ℕ → Option Reason → Option Reason
status_first (Some code) then_ = Some (reason.Status code)
status_first None then_ = then_

-- refused for that reason where the test fails, or else that refuses
abbrev pub unless : Bool → Reason → Option Reason → Option Reason
unless holds why then_ = if holds then then_ else Some why

-- what came of a frame for which that is why it is refused
abbrev pub outcome_by : Option Reason → Outcome
outcome_by None = Accepted
outcome_by (Some why) = Refused why

-- what the elements have to say: that management frames are protected or not, the mobility domain, both key holders, and the name of a
-- key
pub record Wanted : Type 0 where
  pub mfp : Bool
  pub mdid : List ℕ
  pub r1kh_id : List ℕ
  pub r0kh_id : List ℕ
  pub name : List ℕ

abbrev pub wanted : Expected → Wanted
wanted x = record { mfp = x.mfp; mdid = x.mdid; r1kh_id = x.r1kh_id; r0kh_id = x.r0kh_id.now; name = x.name }

-- an authentication response
abbrev pub response_reason : Wanted → ElementFields → Option Reason
response_reason x e =
    status_first (elements_status x.mfp x.mdid e)
    (unless (names_both x.r1kh_id x.r0kh_id e.fte) (reason.Status 55) (unless (is_named x.name e) reason.Name None))

-- a frame of reassociation after its MIC; a response carries the group keys
abbrev pub reassociation_reason : Wanted → ElementFields → Bool → Option Reason
reassociation_reason x e carries =
    status_first (elements_status x.mfp x.mdid e)
    (unless (counts_three e.fte && names_both x.r1kh_id x.r0kh_id e.fte && carries) (reason.Status 55) (unless (is_named x.name e) reason.Name None))

-- an authentication response, first by its nonce and its status
abbrev pub has_other_nonce : List ℕ → Option FteFields → Bool
has_other_nonce snonce None = false
has_other_nonce snonce (Some f) = not (bytes_eq f.snonce snonce)

abbrev pub auth_response_reason : Wanted → List ℕ → ℕ → ElementFields → Option Reason
auth_response_reason x snonce status e =
    unless (status == 0) (reason.Status status) (unless (not (has_other_nonce snonce e.fte)) reason.Nonce (response_reason x e))

-- a reassociation response after its MIC, by what came of its wrapped octets
abbrev pub opened_reason : Wanted → ℕ → ElementFields → Unwrapped → Option Reason
opened_reason x status e u =
    unless (not (has_bad u)) reason.Wrap
    (unless (status == 0) (reason.Status status) (reassociation_reason x e (carries_keys x.mfp e.fte)))

-- its group keys, or why it is refused
abbrev pub AreKeysOf : Bool → ElementFields → Unwrapped → Option Reason → Result CarriedKeys Reason → Type 0
AreKeysOf protected e u why (Ok c) = (why ≡ None) × AreCarried protected e.fte u c
AreKeysOf protected e u why (Err r) = why ≡ Some r

pub record IsJudged (x : Wanted) (kek : List ℕ) (status : ℕ) (e : ElementFields) (r : Result CarriedKeys Reason) : Type 0 where
  pub opened : Unwrapped
  pub is : AreOpened kek x.mfp e.fte opened
  pub keys : AreKeysOf x.mfp e opened (opened_reason x status e opened) r

-- an authentication request, as far as its elements decide
abbrev pub request_reason : Bool → List ℕ → ElementFields → Option Reason
request_reason protected mdid e = status_first (elements_status protected mdid e) (unless (is_some (asked e)) (reason.Status 55) None)

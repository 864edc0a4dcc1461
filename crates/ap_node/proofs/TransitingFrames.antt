-- The frames that an access point sends as it takes requests of fast transition are no EAPOL-Key messages, and what a refused request leaves.
use Rattle.std.proofs.Common.{◌≡◌, ◌∙◌, ℕ, Bool, true, false, cond, List, [], ◌∷◌, ◌++◌, Option, Some, None, refl, sym, ap, subst}
use Rattle.std.specs.List.{AllByRecursion}
use Rattle.domain_base.specs.declared.names.Akm.TheVariants.{FtPsk}
use Rattle.domain_base.specs.declared.names.Node.{Node}
use Rattle.domain_base.specs.declared.names.Node.TheVariants.{Ap, Sta}
use Rattle.domain_base.specs.declared.names.Peer.{Peer}
use Rattle.domain_base.specs.declared.names.Peer.TheVariants.{One}
use Rattle.eapol_key.specs.declared.messages.Message.{Message}
use Rattle.eapol_key.specs.declared.messages.Message.TheVariants.{M1, M2, M3, M4, G1, G2}
use Rattle.key_hierarchy.specs.declared.answers.PullAnswer.{PullAnswer}
use Rattle.key_hierarchy.specs.declared.fast_transition.PmkR1.{PmkR1}
use Rattle.run_journal.specs.declared.domain.Domain.{Domain}
use Rattle.run_journal.specs.declared.acts.Kind.{Kind}
use Rattle.run_journal.specs.declared.acts.Kind.TheVariants as kind
use Rattle.run_journal.specs.declared.acts.Reason.{Reason}
use Rattle.run_journal.specs.declared.acts.Outcome.{Outcome}
use Rattle.run_journal.specs.declared.acts.Outcome.TheVariants.{Refused}
use Rattle.run_journal.specs.declared.acts.Act.{Act}
use Rattle.run_journal.specs.declared.acts.Act.TheVariants.{Opened, Sent, Took, Finished}
use Rattle.run_journal.specs.declared.reply.Reply.{Reply}
use Rattle.run_journal.specs.declared.reply.Keyed.{Keyed}
use Rattle.run_journal.specs.declared.acts.GroupKind.TheVariants as groups
use Rattle.run_journal.specs.Acts.{is_one, same_kind, Derivation}
use Rattle.run_journal.specs.Questions.{attempt, session, group_keys, add}
use Rattle.run_journal.specs.Holders.{Stored}
use Rattle.domain_rules.specs.Network.{Root}
use Rattle.domain_rules.specs.Closing.{close_attempt, close_session}
use Rattle.domain_rules.specs.FastTransition.{single}
use Rattle.domain_rules.specs.Facts.{Facts}
use Rattle.domain_rules.specs.Here.{Here, here}
use Rattle.domain_rules.specs.Reading.{Reading, Managed}
use Rattle.domain_rules.specs.Replies.{derived_acts, replaced_acts, installed_acts, finished_acts}
use Rattle.domain_rules.specs.Rows.{refused_status, response_by, response, TakeRows, TakeRow, outcome_of}
use Rattle.domain_rules.specs.Rows.{By_assoc_req, By_assoc_resp, By_m1, By_opening_m1, By_m2, By_m3, By_repeated_m3, By_m4, By_g1, By_g2, By_ft_req, By_repeated_ft_req, By_ft_resp, By_re_req, By_repeated_re_req, By_re_resp, By_data, By_action, By_ignored, By_refusal}
use Rattle.domain_rules.specs.TransitionKeys.{Asked, asked}
use Rattle.domain_rules.specs.TransitionRows.{sent_again, look_answer, looked_by, looked_for, look_of_kind, refused_look}
use Rattle.group_key.specs.declared.keys.GroupKey.{GroupKey}
use Rattle.group_key.specs.Holds.{IsLast}
use Rattle.act_memory.proofs.RepliedActs.{all_joined}
use Rattle.ft_exchange.specs.Told.{Came, transition_sent, begun_acts, auth_request_acts, reassoc_request_acts}
use Rattle.targets.specs.declared.moves.Moves.{Moves}
use Rattle.targets.specs.Stands.{HasMoves}
use Rattle.targets.specs.Steps.{HasMoved}
use Rattle.ap_node.specs.declared.station.Station.{Station}
use Rattle.ft_exchange.specs.State.{TargetState}
use Rattle.ft_exchange.specs.TargetSteps.{HasBegun}
use Rattle.ap_node.specs.declared.station.Attempt.{Attempt as Trying}
use Rattle.ap_node.specs.declared.station.Attempt.TheVariants.{Association, Transition}
use Rattle.ap_node.specs.State.{pending_by, associated, with_pending}
use Rattle.ap_node.specs.Moving.{begun_key, pending_beside, IsSeated}
use Rattle.ap_node.specs.Stands.{HasPart}
use Rattle.ap_node.proofs.Transiting.{part_calm, part_quiet, SendsNoMessage, auth_calm, auth_quiet, auth_begun, auth_leaves}
use Rattle.ap_node.proofs.InUse.{the_station}
use Rattle.ap_node.proofs.TransitingKeys.{reassoc_leaves_part, reassoc_installs}

split : (P : Act → Type 0) (f g : List Act) → AllByRecursion P (f ++ g) → AllByRecursion P f × AllByRecursion P g
split P [] g all = (tt, all)
split P (e ∷ f) g all = let w = split P f g all.1 in ((all.0, w.0), w.1)

-- ---- single acts

none_either : (b : Bool) {c : Bool} (octets : List ℕ) → c ≡ false → cond b (cond c (Some octets) None) None ≡ None
none_either true octets e = rw e refl
none_either false octets e = refl

abbrev IsNoKey : Kind → Type 0
IsNoKey k = (m : Message) → same_kind (kind.Key m) k ≡ false

no_assoc_resp : IsNoKey kind.AssocResp
no_assoc_resp M1 = refl
no_assoc_resp M2 = refl
no_assoc_resp M3 = refl
no_assoc_resp M4 = refl
no_assoc_resp G1 = refl
no_assoc_resp G2 = refl

no_ft_resp : IsNoKey kind.FtResp
no_ft_resp M1 = refl
no_ft_resp M2 = refl
no_ft_resp M3 = refl
no_ft_resp M4 = refl
no_ft_resp G1 = refl
no_ft_resp G2 = refl

no_re_resp : IsNoKey kind.ReResp
no_re_resp M1 = refl
no_re_resp M2 = refl
no_re_resp M3 = refl
no_re_resp M4 = refl
no_re_resp G1 = refl
no_re_resp G2 = refl

sends : (p : Peer) (k : Kind) (octets : List ℕ) → IsNoKey k → SendsNoMessage (Sent p k octets None)
sends p k octets none q m = none_either (is_one q p) octets (none m)

silent_again : (p : Node) (k : Kind) (o : Option Stored) → IsNoKey k → AllByRecursion SendsNoMessage (sent_again p k o)
silent_again p k None none = tt
silent_again p k (Some s) none = (sends (One p) k s.octets none, tt)

silent_closed : (p : Node) (o : Option (List Act)) → AllByRecursion SendsNoMessage (close_attempt p o)
silent_closed p None = tt
silent_closed p (Some part) = (λ q m. refl, tt)

silent_ended : (p : Node) (o : Option Derivation) → AllByRecursion SendsNoMessage (close_session p o)
silent_ended p None = tt
silent_ended p (Some x) = (λ q m. refl, tt)

silent_looked : (p : Node) (x : Option Asked) (answer : Option PullAnswer) → AllByRecursion SendsNoMessage (looked_for p x answer)
silent_looked p None answer = tt
silent_looked p (Some a) answer = by (single a.names) answer
  where
    by : (name : Option (List ℕ)) (answer : Option PullAnswer) → AllByRecursion SendsNoMessage (looked_by p a name answer)
    by None answer = tt
    by (Some name) None = tt
    by (Some name) (Some y) = (λ q m. refl, tt)

silent_look : (n : Node) (from : Option Node) (r : Reading) (pulled : Option PmkR1) (why : Reason) → AllByRecursion SendsNoMessage (refused_look n from r pulled why)
silent_look (Ap a) (Some p) (Managed b e) pulled why = by b.kind
  where
    by : (k : Kind) → AllByRecursion SendsNoMessage (look_of_kind k p e (look_answer why pulled))
    by kind.FtReq = silent_looked p (asked e) (look_answer why pulled)
    by _ = tt
silent_look n from r pulled why = tt

silent_status : (d : Domain) (n p : Node) (k : Kind) (o : Option ℕ) → AllByRecursion SendsNoMessage (response_by d n p k o)
silent_status d n p kind.AssocReq (Some code) = (sends (One p) kind.AssocResp _ no_assoc_resp, tt)
silent_status d n p kind.FtReq (Some code) = (sends (One p) kind.FtResp _ no_ft_resp, tt)
silent_status d n p kind.ReReq (Some code) = (sends (One p) kind.ReResp _ no_re_resp, tt)
silent_status d n p k _ = tt

silent_response : (d : Domain) (n : Node) (from : Option Node) (k : Kind) (why : Reason) → AllByRecursion SendsNoMessage (response d n from k why)
silent_response d (Ap a) (Some p) k why = silent_status d (Ap a) p k (refused_status why)
silent_response d (Ap a) None k why = tt
silent_response d (Sta s) from k why = tt

-- ---- the rows of requests

-- the kind of the frame that was taken
abbrev first_kind : List Act → Option Kind
first_kind (Took from octets k o s ∷ g) = Some k
first_kind _ = None

abbrev number_of : Option Kind → ℕ
number_of None = 0
number_of (Some kind.FtReq) = 1
number_of (Some kind.ReReq) = 1
number_of (Some _) = 2

-- it is an authentication or a reassociation request
abbrev IsRequestOf : List Act → Type 0
IsRequestOf g = number_of (first_kind g) ≡ 1

-- so it is no other row
other_row : (g l : List Act) → g ≡ l → IsRequestOf g → number_of (first_kind l) ≡ 2 → AllByRecursion SendsNoMessage g
other_row g l says request other = absurd (cc (sym request ∙ ap (λ (x : List Act). number_of (first_kind x)) says ∙ other))

as_said : (g l : List Act) → g ≡ l → AllByRecursion SendsNoMessage l → AllByRecursion SendsNoMessage g
as_said g l says all = subst (λ (x : List Act). AllByRecursion SendsNoMessage x) (sym says) all

silent_rows : (w : Here) (h : List Act) (octets : List ℕ) (r : Reading) (facts : Facts) (g : List Act) → IsRequestOf g → TakeRows w h octets r facts g → AllByRecursion SendsNoMessage g
silent_rows w h octets r facts g request (By_assoc_req x) = other_row g _ x.says request refl
silent_rows w h octets r facts g request (By_assoc_resp x) = other_row g _ x.says request refl
silent_rows w h octets r facts g request (By_m1 x) = other_row g _ x.says request refl
silent_rows w h octets r facts g request (By_opening_m1 x) = other_row g _ x.says request refl
silent_rows w h octets r facts g request (By_m2 x) = other_row g _ x.says request refl
silent_rows w h octets r facts g request (By_m3 x) = other_row g _ x.says request refl
silent_rows w h octets r facts g request (By_repeated_m3 x) = other_row g _ x.says request refl
silent_rows w h octets r facts g request (By_m4 x) = other_row g _ x.says request refl
silent_rows w h octets r facts g request (By_g1 x) = other_row g _ x.says request refl
silent_rows w h octets r facts g request (By_g2 x) = other_row g _ x.says request refl
silent_rows w h octets r facts g request (By_ft_req x) = as_said g _ x.says (
  λ q m. refl,
  (
    λ q m. refl,
    all_joined SendsNoMessage (close_attempt x.p (attempt x.p h)) _ (silent_closed x.p (attempt x.p h))
        (λ q m. refl, (λ q m. refl, (λ q m. refl, (sends (One x.p) kind.FtResp _ no_ft_resp, tt)))),
  ),
)
silent_rows w h octets r facts g request (By_repeated_ft_req x) = as_said g _ x.says (λ q m. refl, silent_again x.p kind.FtResp _ no_ft_resp)
silent_rows w h octets r facts g request (By_ft_resp x) = other_row g _ x.says request refl
silent_rows w h octets r facts g request (By_re_req x) = as_said g _ x.says (
  λ q m. refl,
  all_joined SendsNoMessage (close_session x.p (session x.p h)) _ (silent_ended x.p (session x.p h)) (λ q m. refl, (λ q m. refl, (sends (One x.p) kind.ReResp _ no_re_resp, tt))),
)
silent_rows w h octets r facts g request (By_repeated_re_req x) = as_said g _ x.says (λ q m. refl, silent_again x.p kind.ReResp _ no_re_resp)
silent_rows w h octets r facts g request (By_re_resp x) = other_row g _ x.says request refl
silent_rows w h octets r facts g request (By_data x) = other_row g _ x.says request refl
silent_rows w h octets r facts g request (By_action x) = other_row g _ x.says request refl
silent_rows w h octets r facts g request (By_ignored x) = other_row g _ x.says request refl
silent_rows w h octets r facts g request (By_refusal x) = as_said g _ x.says (
  λ q m. refl,
  all_joined SendsNoMessage (refused_look w.node _ r facts.pulled x.why) _ (silent_look w.node _ r facts.pulled x.why) (silent_response w.domain w.node _ _ x.why),
)

-- ---- what is sent in answer to a request

pub auth_silent : (w : Here) (h : List Act) (octets : List ℕ) (d : Domain) (root : Root) (n p : Node) (part : Option (List Act)) (t : Came) (r : Reply) → TakeRow w h octets (auth_request_acts d root n p part t r)
    → AllByRecursion SendsNoMessage (transition_sent d n p r)
auth_silent w h octets d root n p part t r row =
    let all = silent_rows w h octets row.r row.facts (auth_request_acts d root n p part t r) refl row.row in
    (split SendsNoMessage (looked_for p (asked t.fields) r.looked ++ begun_acts p part r.derived ++ derived_acts d root n p r.derived) (transition_sent d n p r) all.1).1

pub reassoc_silent : (w : Here) (h : List Act) (octets : List ℕ) (d : Domain) (root : Root) (n p : Node) (had : Bool) (t : Came) (r : Reply) → TakeRow w h octets (reassoc_request_acts d root n p had t r)
    → AllByRecursion SendsNoMessage (transition_sent d n p r)
reassoc_silent w h octets d root n p had t r row =
    let all = silent_rows w h octets row.r row.facts (reassoc_request_acts d root n p had t r) refl row.row in
    (split SendsNoMessage (replaced_acts p had r.installed ++ installed_acts d root n p r.installed ++ finished_acts d root n p r.installed) (transition_sent d n p r) all.1).1

-- ---- a refused request derives and installs no key

-- it neither begins nor ends an attempt
abbrev BeginsNothing : Act → Type 0
BeginsNothing (Opened p s) = ⊥
BeginsNothing (Finished p i) = ⊥
BeginsNothing _ = Unit {0}

abbrev refuses : Outcome → Bool
refuses (Refused why) = true
refuses _ = false

nothing_looked : (p : Node) (x : Option Asked) (answer : Option PullAnswer) → AllByRecursion BeginsNothing (looked_for p x answer)
nothing_looked p None answer = tt
nothing_looked p (Some a) answer = by (single a.names) answer
  where
    by : (name : Option (List ℕ)) (answer : Option PullAnswer) → AllByRecursion BeginsNothing (looked_by p a name answer)
    by None answer = tt
    by (Some name) None = tt
    by (Some name) (Some y) = (tt, tt)

nothing_look : (n : Node) (from : Option Node) (r : Reading) (pulled : Option PmkR1) (why : Reason) → AllByRecursion BeginsNothing (refused_look n from r pulled why)
nothing_look (Ap a) (Some p) (Managed b e) pulled why = by b.kind
  where
    by : (k : Kind) → AllByRecursion BeginsNothing (look_of_kind k p e (look_answer why pulled))
    by kind.FtReq = nothing_looked p (asked e) (look_answer why pulled)
    by _ = tt
nothing_look n from r pulled why = tt

nothing_status : (d : Domain) (n p : Node) (k : Kind) (o : Option ℕ) → AllByRecursion BeginsNothing (response_by d n p k o)
nothing_status d n p kind.AssocReq (Some code) = (tt, tt)
nothing_status d n p kind.FtReq (Some code) = (tt, tt)
nothing_status d n p kind.ReReq (Some code) = (tt, tt)
nothing_status d n p k _ = tt

nothing_response : (d : Domain) (n : Node) (from : Option Node) (k : Kind) (why : Reason) → AllByRecursion BeginsNothing (response d n from k why)
nothing_response d (Ap a) (Some p) k why = nothing_status d (Ap a) p k (refused_status why)
nothing_response d (Ap a) None k why = tt
nothing_response d (Sta s) from k why = tt

no_refusal : (g l : List Act) → g ≡ l → refuses (outcome_of g) ≡ true → refuses (outcome_of l) ≡ false → AllByRecursion BeginsNothing g
no_refusal g l says refused other = absurd (cc (sym refused ∙ ap (λ (x : List Act). refuses (outcome_of x)) says ∙ other))

nothing_rows : (w : Here) (h : List Act) (octets : List ℕ) (r : Reading) (facts : Facts) (g : List Act) → refuses (outcome_of g) ≡ true → TakeRows w h octets r facts g → AllByRecursion BeginsNothing g
nothing_rows w h octets r facts g refused (By_assoc_req x) = no_refusal g _ x.says refused refl
nothing_rows w h octets r facts g refused (By_assoc_resp x) = no_refusal g _ x.says refused refl
nothing_rows w h octets r facts g refused (By_m1 x) = no_refusal g _ x.says refused refl
nothing_rows w h octets r facts g refused (By_opening_m1 x) = no_refusal g _ x.says refused refl
nothing_rows w h octets r facts g refused (By_m2 x) = no_refusal g _ x.says refused refl
nothing_rows w h octets r facts g refused (By_m3 x) = no_refusal g _ x.says refused refl
nothing_rows w h octets r facts g refused (By_repeated_m3 x) = no_refusal g _ x.says refused refl
nothing_rows w h octets r facts g refused (By_m4 x) = no_refusal g _ x.says refused refl
nothing_rows w h octets r facts g refused (By_g1 x) = no_refusal g _ x.says refused refl
nothing_rows w h octets r facts g refused (By_g2 x) = no_refusal g _ x.says refused refl
nothing_rows w h octets r facts g refused (By_ft_req x) = no_refusal g _ x.says refused refl
nothing_rows w h octets r facts g refused (By_repeated_ft_req x) = no_refusal g _ x.says refused refl
nothing_rows w h octets r facts g refused (By_ft_resp x) = no_refusal g _ x.says refused refl
nothing_rows w h octets r facts g refused (By_re_req x) = no_refusal g _ x.says refused refl
nothing_rows w h octets r facts g refused (By_repeated_re_req x) = no_refusal g _ x.says refused refl
nothing_rows w h octets r facts g refused (By_re_resp x) = no_refusal g _ x.says refused refl
nothing_rows w h octets r facts g refused (By_data x) = no_refusal g _ x.says refused refl
nothing_rows w h octets r facts g refused (By_action x) = no_refusal g _ x.says refused refl
nothing_rows w h octets r facts g refused (By_ignored x) = no_refusal g _ x.says refused refl
nothing_rows w h octets r facts g refused (By_refusal x) =
    subst (λ (l : List Act). AllByRecursion BeginsNothing l) (sym x.says)
    (tt, all_joined BeginsNothing (refused_look w.node _ r facts.pulled x.why) _ (nothing_look w.node _ r facts.pulled x.why) (nothing_response w.domain w.node _ _ x.why))

none_begun : (p : Node) (part : Option (List Act)) (y : Option Keyed) → AllByRecursion BeginsNothing (begun_acts p part y) → y ≡ None
none_begun p part None all = refl
none_begun p None (Some y) all = absurd all.0
none_begun p (Some old) (Some y) all = absurd all.1.0

none_finished : (d : Domain) (root : Root) (n p : Node) (y : Option Keyed) → AllByRecursion BeginsNothing (finished_acts d root n p y) → y ≡ None
none_finished d root n p None all = refl
none_finished d root n p (Some y) all = absurd all.0

pub refused_derives_none : (w : Here) (h : List Act) (octets : List ℕ) (d : Domain) (root : Root) (n p : Node) (part : Option (List Act)) (t : Came) (r : Reply) (why : Reason) → TakeRow w h octets (auth_request_acts d root n p part t r)
    → t.outcome ≡ Refused why → r.derived ≡ None
refused_derives_none w h octets d root n p part t r why row is =
    let all = nothing_rows w h octets row.r row.facts (auth_request_acts d root n p part t r) (ap refuses is) row.row in
    let before = (split BeginsNothing (looked_for p (asked t.fields) r.looked ++ begun_acts p part r.derived ++ derived_acts d root n p r.derived) (transition_sent d n p r) all.1).0 in
    let begun = (split BeginsNothing (looked_for p (asked t.fields) r.looked ++ begun_acts p part r.derived) (derived_acts d root n p r.derived) before).0 in
    none_begun p part r.derived (split BeginsNothing (looked_for p (asked t.fields) r.looked) (begun_acts p part r.derived) begun).1

pub refused_installs_none : (w : Here) (h : List Act) (octets : List ℕ) (d : Domain) (root : Root) (n p : Node) (had : Bool) (t : Came) (r : Reply) (why : Reason) → TakeRow w h octets (reassoc_request_acts d root n p had t r)
    → t.outcome ≡ Refused why → r.installed ≡ None
refused_installs_none w h octets d root n p had t r why row is =
    let all = nothing_rows w h octets row.r row.facts (reassoc_request_acts d root n p had t r) (ap refuses is) row.row in
    let before = (split BeginsNothing (replaced_acts p had r.installed ++ installed_acts d root n p r.installed ++ finished_acts d root n p r.installed) (transition_sent d n p r) all.1).0 in
    none_finished d root n p r.installed (split BeginsNothing (replaced_acts p had r.installed ++ installed_acts d root n p r.installed) (finished_acts d root n p r.installed) before).1

-- ---- what there is with the station after a request

-- its own attempt by fast transition back in its place changes nothing
pub same_beside : (x : Station) → pending_beside (pending_by x.attempt) x ≡ x
same_beside x = ap (λ (o : Option Trying). the_station o x.session) (by x.attempt)
  where
    by : (o : Option Trying) → with_pending (pending_by o) (associated o) ≡ o
    by None = refl
    by (Some (Association a)) = refl
    by (Some (Transition t)) = refl

module _ (d : Domain) (root : Root) (n : Node) (sta : ℕ) (part : Option (List Act)) (t : Came) (r : Reply) (o : Station) (h : List Act) (silent : AllByRecursion SendsNoMessage (transition_sent d n (Sta sta) r)) where
  -- by which no key is derived: all stands on
  auth_leaves_part : r.derived ≡ None → HasPart d n sta o h → HasPart d n sta o (add (auth_request_acts d root n (Sta sta) part t r) h)
  auth_leaves_part none at =
      part_calm d n sta o (auth_request_acts d root n (Sta sta) part t r) h (auth_calm d root n (Sta sta) part t r none silent) (auth_leaves (Sta sta) d root n (Sta sta) part t r) at

  -- by which one is derived: all stands on but for the attempt
  auth_ends_attempt : (y : Keyed) (s : TargetState) → d.akm ≡ FtPsk → r.derived ≡ Some y → HasPart d n sta o h → HasPart d n sta (pending_beside (Some s) o) (add (auth_request_acts d root n (Sta sta) part t r) h)
  auth_ends_attempt y s suite some at =
      part_quiet d n sta s o (auth_request_acts d root n (Sta sta) part t r) h suite (auth_quiet d root n (Sta sta) part t r silent) (auth_begun d root n (Sta sta) part t r y h some silent)
      (auth_leaves (Sta sta) d root n (Sta sta) part t r) at

  -- either way
  auth_part_by : (q : Option TargetState) → ((s : TargetState) → q ≡ Some s → d.akm ≡ FtPsk) → HasBegun r.derived (pending_by o.attempt) q → HasPart d n sta o h → HasPart d n sta (pending_beside q o) (add (auth_request_acts d root n (Sta sta) part t r) h)
  auth_part_by q suite begun at = by r.derived refl begun
    where
      by : (y : Option Keyed) → r.derived ≡ y → HasBegun y (pending_by o.attempt) q → HasPart d n sta (pending_beside q o) (add (auth_request_acts d root n (Sta sta) part t r) h)
      by None none same =
          subst (λ (x : Station). HasPart d n sta x (add (auth_request_acts d root n (Sta sta) part t r) h)) (sym (ap (λ (z : Option TargetState). pending_beside z o) same ∙ same_beside o)) (auth_leaves_part none at)
      by (Some y) some has =
          subst (λ (z : Option TargetState). HasPart d n sta (pending_beside z o) (add (auth_request_acts d root n (Sta sta) part t r) h)) (sym has.1) (auth_ends_attempt y has.0 (suite has.0 has.1) some at)

pub auth_part : (first : ℕ) (octets : List ℕ) (d : Domain) (a sta : ℕ) (root : Root) (part : Option (List Act)) (t : Came) (r : Reply) (o : Station) (q : Option TargetState) (h : List Act)
    → TakeRow (here d first (Ap a)) h octets (auth_request_acts d root (Ap a) (Sta sta) part t r) → ((s : TargetState) → q ≡ Some s → d.akm ≡ FtPsk) → HasBegun r.derived (pending_by o.attempt) q
    → HasPart d (Ap a) sta o h → HasPart d (Ap a) sta (pending_beside q o) (add (auth_request_acts d root (Ap a) (Sta sta) part t r) h)
auth_part first octets d a sta root part t r o q h row suite begun at =
    auth_part_by d root (Ap a) sta part t r o h (auth_silent (here d first (Ap a)) h octets d root (Ap a) (Sta sta) part t r row) q suite begun at

pub reassoc_same_part : (first : ℕ) (octets : List ℕ) (d : Domain) (a sta : ℕ) (root : Root) (had : Bool) (t : Came) (r : Reply) (o : Station) (h : List Act)
    → TakeRow (here d first (Ap a)) h octets (reassoc_request_acts d root (Ap a) (Sta sta) had t r) → r.installed ≡ None
    → HasPart d (Ap a) sta o h → HasPart d (Ap a) sta o (add (reassoc_request_acts d root (Ap a) (Sta sta) had t r) h)
reassoc_same_part first octets d a sta root had t r o h row none at =
    reassoc_leaves_part d root (Ap a) sta had t r o h (reassoc_silent (here d first (Ap a)) h octets d root (Ap a) (Sta sta) had t r row) none at

-- the key is that of the transition, which is the session's from then on
pub reassoc_part : (first : ℕ) (octets : List ℕ) (d : Domain) (a sta : ℕ) (root : Root) (had : Bool) (t : Came) (r : Reply) (y : Keyed) (old new : Moves) (newest : GroupKey) (x : Station) (h : List Act)
    → TakeRow (here d first (Ap a)) h octets (reassoc_request_acts d root (Ap a) (Sta sta) had t r) → r.installed ≡ Some y
    → HasMoves d (Ap a) (Sta sta) new (add (reassoc_request_acts d root (Ap a) (Sta sta) had t r) h) → HasMoved (Some y) old new → IsLast groups.Gtk newest (group_keys groups.Gtk h) → IsSeated d (Ap a) (Sta sta) y.ptk new.held x
    → HasPart d (Ap a) sta x (add (reassoc_request_acts d root (Ap a) (Sta sta) had t r) h)
reassoc_part first octets d a sta root had t r y old new newest x h row some has moved last seat =
    subst (λ (z : Station). HasPart d (Ap a) sta z (add (reassoc_request_acts d root (Ap a) (Sta sta) had t r) h)) (sym seat.is)
    (reassoc_installs d root (Ap a) sta had t r y h some old new newest seat.part new.held (reassoc_silent (here d first (Ap a)) h octets d root (Ap a) (Sta sta) had t r row) has moved last seat.none seat.stands)

-- the key that the code takes from a request is the one of the reply
derived_by : (o : Outcome) (y : Option Keyed) → ((why : Reason) → o ≡ Refused why → y ≡ None) → begun_key o y ≡ y
derived_by (Refused why) y none = sym (none why refl)
derived_by _ y none = refl

pub auth_begun_key : (w : Here) (h : List Act) (octets : List ℕ) (d : Domain) (root : Root) (n p : Node) (part : Option (List Act)) (t : Came) (r : Reply) → TakeRow w h octets (auth_request_acts d root n p part t r)
    → begun_key t.outcome r.derived ≡ r.derived
auth_begun_key w h octets d root n p part t r row = derived_by t.outcome r.derived (λ why is. refused_derives_none w h octets d root n p part t r why row is)

pub reassoc_begun_key : (w : Here) (h : List Act) (octets : List ℕ) (d : Domain) (root : Root) (n p : Node) (had : Bool) (t : Came) (r : Reply) → TakeRow w h octets (reassoc_request_acts d root n p had t r)
    → begun_key t.outcome r.installed ≡ r.installed
reassoc_begun_key w h octets d root n p had t r row = derived_by t.outcome r.installed (λ why is. refused_installs_none w h octets d root n p had t r why row is)

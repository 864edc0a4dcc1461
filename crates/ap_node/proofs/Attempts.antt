-- Whether an attempt is under way with a station, by what an access point has of it.
use Rattle.std.proofs.Common.{◌≡◌, ◌≢◌, ◌∙◌, ℕ, Bool, true, false, List, Option, Some, None, is_some, refl, sym, ap, subst}
use Rattle.std.specs.Prelude.{◌||◌, option_map}
use Rattle.domain_base.specs.declared.names.Node.{Node}
use Rattle.domain_base.specs.declared.names.Node.TheVariants.{Ap, Sta}
use Rattle.rsn_elements.specs.Elements.{ElementFields}
use Rattle.run_journal.specs.declared.domain.Domain.{Domain}
use Rattle.run_journal.specs.declared.acts.Kind.{Kind}
use Rattle.run_journal.specs.declared.acts.Kind.TheVariants as kind
use Rattle.run_journal.specs.declared.acts.Reason.TheVariants as reason
use Rattle.run_journal.specs.declared.acts.Outcome.TheVariants.{Refused}
use Rattle.run_journal.specs.declared.acts.Act.{Act}
use Rattle.run_journal.specs.Questions.{attempt}
use Rattle.domain_rules.specs.Asking.{start_of, is_four_way}
use Rattle.domain_rules.proofs.Starts.{roam_no_four_way}
use Rattle.domain_rules.specs.Associating.{management_verdict}
use Rattle.domain_rules.specs.Reading.{Management}
use Rattle.authenticator.specs.Kinds.{kinds, renews_in}
use Rattle.authenticator.specs.State.{State as Part}
use Rattle.authenticator.specs.Stands.{IsNoConnect, HasAttempt}
use Rattle.authenticator.proofs.Standing.{four_way_by}
use Rattle.authenticator.specs.declared.attempt.Attempt.{Attempt}
use Rattle.ft_exchange.specs.State.{TargetState}
use Rattle.ft_exchange.specs.Stands.{PendingStands}
use Rattle.targets.specs.declared.moves.Moves.{Moves}
use Rattle.targets.specs.Stands.{IsOther, HasMoves}
use Rattle.targets.proofs.Beginning.{no_other, pending_roams}
use Rattle.ap_node.specs.declared.station.Station.{Station}
use Rattle.ap_node.specs.declared.station.Attempt.{Attempt as Trying}
use Rattle.ap_node.specs.declared.station.Attempt.TheVariants.{Association, Transition}
use Rattle.ap_node.specs.declared.station.Session.{Session as Kept}
use Rattle.ap_node.specs.State.{attempt_in, attempt_by, renewal_by, pending_by, moves_in, has_attempt}
use Rattle.ap_node.specs.Stands.{IsTried, HasPart}

any_by : (d : Domain) (n p : Node) (x : Option Attempt) (m : Option TargetState) (h : List Act) → HasAttempt d n p x h → PendingStands d n p m h → IsOther m (attempt p h) → is_some (attempt p h) ≡ (is_some x || is_some m)
any_by d n p (Some a) m h at stands other = ap (λ (o : Option (List Act)). is_some o) at.is
any_by d n p None (Some s) h at stands other = let roams = pending_roams d n p s h stands in ap (λ (o : Option (List Act)). is_some o) roams.awaited
any_by d n p None None h at stands other =
    ap (λ (o : Option (List Act)). is_some o) (no_other (attempt p h) other (λ part is. subst (λ (o : Option (List Act)). IsNoConnect o) is at))

or_false : (b : Bool) → (b || false) ≡ b
or_false true = refl
or_false false = refl

-- by its kind there is one or none
renews_by : (o : Option Attempt) (b : Bool) → option_map (λ (a : Attempt). a.renews) o ≡ Some b → (is_some o ≡ true) × (renews_in o ≡ b)
renews_by None b is = absurd (cc is)
renews_by (Some a) b is = (refl, cc is)

pub kind_some : (x : Part) (b : Bool) → (kinds x).attempt ≡ Some b → is_some x.attempt ≡ true
kind_some x b is = (renews_by x.attempt b is).0

pub kind_renews : (x : Part) (b : Bool) → (kinds x).attempt ≡ Some b → renews_in x.attempt ≡ b
kind_renews x b is = (renews_by x.attempt b is).1

none_by : {A : Type 0} {B : Type 0} (f : A → B) (o : Option A) → option_map f o ≡ None → o ≡ None
none_by f None is = refl
none_by f (Some a) is = absurd (cc is)

pub kind_none : (x : Part) → (kinds x).attempt ≡ None → x.attempt ≡ None
kind_none x is = none_by (λ (a : Attempt). a.renews) x.attempt is

attempt_of : (d : Domain) (n p : Node) (o : Option Trying) (s : Option Kept) → IsTried d n p o → (is_some (attempt_by o s) || is_some (pending_by o)) ≡ (is_some o || is_some (renewal_by s))
attempt_of d n p None s tried = or_false (is_some (renewal_by s))
attempt_of d n p (Some (Association a)) s tried = ap (λ (b : Bool). b || false) (kind_some a false tried.1)
attempt_of d n p (Some (Transition t)) s tried = refl

pub any_attempt : (d : Domain) (n : Node) (sta : ℕ) (x : Station) (h : List Act) → HasPart d n sta x h → HasMoves d n (Sta sta) (moves_in x) h → is_some (attempt (Sta sta) h) ≡ has_attempt x
any_attempt d n sta x h part moves = any_by d n (Sta sta) (attempt_in x) (pending_by x.attempt) h part.attempt_is moves.pending moves.other ∙ attempt_of d n (Sta sta) x.attempt x.session part.tried

-- a part in an attempt by a four-way handshake has none by fast transition beside it
pub none_pending : (d : Domain) (n p : Node) (x : Option Attempt) (m : Moves) (h : List Act) → HasAttempt d n p x h → HasMoves d n p m h → is_some x ≡ true → m.pending ≡ None
none_pending d n p x m h at moves some = by x m.pending at moves.pending some
  where
    by : (x : Option Attempt) (o : Option TargetState) → HasAttempt d n p x h → PendingStands d n p o h → is_some x ≡ true → o ≡ None
    by x None at stands some = refl
    by None (Some s) at stands some = absurd (cc some)
    by (Some a) (Some s) at stands some =
        let roams = pending_roams d n p s h stands in
        let same : roams.part ≡ at.part = cc (roams.awaited, at.is) in
        absurd (let both : false ≡ true = sym (roam_no_four_way (start_of roams.part) roams.begun) ∙ ap is_four_way same ∙ four_way_by a.renews at.part at.begun in cc both)

-- other frames than requests are unawaited
pub other_kind : (d : Domain) (drawn a : ℕ) (h : List Act) (p : Node) (k : Kind) (b : Management) (e : ElementFields) → k ≢ kind.AssocReq → k ≢ kind.FtReq → k ≢ kind.ReReq → management_verdict d drawn (Ap a) h p k b e ≡ Refused reason.Unawaited
other_kind d drawn a h p kind.AssocReq b e no_association no_auth no_reassociation = absurd (no_association refl)
other_kind d drawn a h p kind.FtReq b e no_association no_auth no_reassociation = absurd (no_auth refl)
other_kind d drawn a h p kind.ReReq b e no_association no_auth no_reassociation = absurd (no_reassociation refl)
other_kind d drawn a h p _ b e no_association no_auth no_reassociation = refl

-- What the acts by which an access point takes frames of fast transition do to what it has with the same station beside the transition.
use Rattle.std.proofs.Common.{◌≡◌, ◌∙◌, ℕ, Bool, true, false, cond, List, [], ◌∷◌, ◌++◌, map, Option, Some, None, refl, sym, ap, subst, inl, inr}
use Rattle.std.specs.Prelude.{◌==◌, ◌&&◌, ◌⊎◌, take, is_some}
use Rattle.std.specs.List.{AllByRecursion}
use Rattle.domain_base.specs.declared.names.Akm.{Akm}
use Rattle.domain_base.specs.declared.names.Akm.TheVariants.{FtPsk}
use Rattle.domain_base.specs.declared.names.Node.{Node}
use Rattle.domain_base.specs.declared.names.Node.TheVariants.{Sta}
use Rattle.domain_base.specs.declared.names.Peer.{Peer}
use Rattle.domain_base.specs.declared.names.Peer.TheVariants.{One}
use Rattle.eapol_key.specs.declared.messages.Message.{Message}
use Rattle.eapol_key.specs.declared.messages.Message.TheVariants.{M1, M2, M3, M4, G1, G2}
use Rattle.key_hierarchy.specs.declared.answers.PullAnswer.{PullAnswer}
use Rattle.key_hierarchy.specs.declared.inputs.Inputs.{Inputs}
use Rattle.key_hierarchy.specs.declared.inputs.Ptk.{Ptk}
use Rattle.run_journal.specs.declared.domain.Domain.{Domain}
use Rattle.run_journal.specs.declared.acts.Start.TheVariants.{Roam}
use Rattle.run_journal.specs.declared.acts.Part.TheVariants.{Attempt as OfAttempt}
use Rattle.run_journal.specs.declared.acts.Drawn.TheVariants.{Nonce}
use Rattle.run_journal.specs.declared.acts.Kind.{Kind}
use Rattle.run_journal.specs.declared.acts.Kind.TheVariants as kind
use Rattle.run_journal.specs.declared.acts.Outcome.{Outcome}
use Rattle.run_journal.specs.declared.acts.Outcome.TheVariants.{Accepted}
use Rattle.run_journal.specs.declared.acts.Seal.{Seal}
use Rattle.run_journal.specs.declared.acts.Act.{Act}
use Rattle.run_journal.specs.declared.acts.Act.TheVariants.{Opened, Closed, Drew, Derived, Sent, Took, Looked}
use Rattle.run_journal.specs.declared.reply.Reply.{Reply}
use Rattle.run_journal.specs.declared.reply.Keyed.{Keyed}
use Rattle.run_journal.specs.declared.acts.GroupKind.TheVariants as groups
use Rattle.run_journal.specs.Acts.{is_from, same_kind, opens, begins as begins_chain, ends, finishes, closes, key_drawn, derived, accepted, sent}
use Rattle.run_journal.specs.Questions.{attempt, session, before_sent, add}
use Rattle.run_journal.specs.Events.{can_renew}
use Rattle.domain_rules.specs.Network.{Root, has_renewals, renews}
use Rattle.domain_rules.specs.AccessPointKeys.{session_origin}
use Rattle.domain_rules.specs.Asking.{is_roam, in_renewal, replay_counter}
use Rattle.domain_rules.specs.Closing.{close_attempt}
use Rattle.domain_rules.specs.FastTransition.{single}
use Rattle.domain_rules.specs.Replies.{derived_acts}
use Rattle.domain_rules.specs.TransitionKeys.{Asked, asked}
use Rattle.domain_rules.specs.TransitionRows.{looked_by, looked_for}
use Rattle.domain_rules.proofs.Parts.{same-refl, attempt_begins, attempt_more, attempt_none, attempt_some, start_more, request_more, own_nonce_more, heard_more, sent_more, derivation_more, session_more, session_origin_more, add_append}
use Rattle.act_memory.proofs.RepliedActs.{all_joined}
use Rattle.data_frames.specs.Holding.{LeavesPairwise}
use Rattle.ft_exchange.specs.Told.{Came, sent_octets, transition_sent, begun_acts, auth_request_acts}
use Rattle.authenticator.specs.Bases.{own_pair}
use Rattle.authenticator.specs.Kinds.{Kinds, kinds}
use Rattle.authenticator.specs.State.{State as Part, with_attempt}
use Rattle.authenticator.specs.Stands.{IsUnderWay, Counts, IsNoConnect, HasAttempt, HasSession, AuthenticatorStands}
use Rattle.authenticator.specs.declared.attempt.Attempt.{Attempt}
use Rattle.authenticator.specs.declared.session.Session.{Session}
use Rattle.authenticator.proofs.Handshaking.{takes_none, counts_on}
use Rattle.authenticator.proofs.Standing.{or_none, agreed_on, begun_as, beside_as, association_as, request_as, no_connect, session_on}
use Rattle.ft_exchange.specs.State.{TargetState}
use Rattle.ap_node.specs.declared.station.Station.{Station}
use Rattle.ap_node.specs.State.{key_in}
use Rattle.ap_node.specs.Moving.{pending_beside}
use Rattle.ap_node.specs.declared.station.Attempt.{Attempt as Trying}
use Rattle.ap_node.specs.declared.station.Attempt.TheVariants.{Transition}
use Rattle.ap_node.specs.declared.station.Session.{Session as Kept}
use Rattle.ap_node.specs.Stands.{IsRenewing, IsOfSession, IsKept, HasPart}
use Rattle.ap_node.proofs.Others.{AllLeave, keeps, key_as}
use Rattle.ap_node.proofs.Standing.{ends_of, part_with, part_of, has_part}

-- ---- acts that leave the session

-- an act that neither begins nor ends a session with p, draws no group key, and is no EAPOL-Key message between the node and p
pub record IsQuiet (p : Node) (e : Act) : Type 0 where
  pub draws_none : key_drawn groups.Gtk e ≡ None
  pub hears_none : (m : Message) → accepted p (kind.Key m) e ≡ None
  pub sends_none : (m : Message) → sent p (kind.Key m) e ≡ None
  pub finishes_none : finishes p e ≡ false
  pub closes_none : closes p e ≡ false
  -- and begins no attempt that renews a key
  pub plain : opens p e ≡ begins_chain p e

pub session_quiet : (p : Node) (g h : List Act) → AllByRecursion (IsQuiet p) g → session p (add g h) ≡ session p h
session_quiet p [] h all = refl
session_quiet p (e ∷ g) h all = session_quiet p g (e ∷ h) all.1 ∙ session_more p e h all.0.finishes_none all.0.closes_none

origin_quiet : (p : Node) (g h : List Act) → AllByRecursion (IsQuiet p) g → session_origin p (add g h) ≡ session_origin p h
origin_quiet p [] h all = refl
origin_quiet p (e ∷ g) h all = origin_quiet p g (e ∷ h) all.1 ∙ session_origin_more p e h all.0.finishes_none

counts_quiet : (p : Node) (s : Session) (g h : List Act) → AllByRecursion (IsQuiet p) g → Counts p s h → Counts p s (add g h)
counts_quiet p s [] h all at = at
counts_quiet p s (e ∷ g) h all at =
    counts_quiet p s g (e ∷ h) all.1 (counts_on p s e h all.0.finishes_none all.0.draws_none (all.0.sends_none G1) (takes_none p e (in_renewal (attempt p h)) all.0.sends_none) (all.0.hears_none G2) all.0.plain at)

pub session_goes_on : (d : Domain) (n p : Node) (o : Option Session) (g h : List Act) → AllByRecursion (IsQuiet p) g → HasSession d n p o h → HasSession d n p o (add g h)
session_goes_on d n p o g h all at = session_on d n p o h (add g h) (session_quiet p g h all) (request_as p h (add g h) (origin_quiet p g h all)) (λ s. counts_quiet p s g h all) at

-- ---- acts that leave the attempt too

-- and that neither begins nor ends an attempt with p, and derives no key
pub record IsCalm (p : Node) (e : Act) : Type 0 where
  pub quiet : IsQuiet p e
  pub opens_none : opens p e ≡ false
  pub ends_none : ends p e ≡ false
  pub derives_none : derived p e ≡ None

pub calm_quiet : (p : Node) (g : List Act) → AllByRecursion (IsCalm p) g → AllByRecursion (IsQuiet p) g
calm_quiet p [] all = tt
calm_quiet p (e ∷ g) all = (all.0.quiet, calm_quiet p g all.1)

first_calm : (p : Node) (e : Act) (h : List Act) → IsCalm p e → before_sent p (kind.Key M3) (e ∷ h) ≡ before_sent p (kind.Key M3) h
first_calm p e h x = rw (x.opens_none, x.quiet.sends_none M3) (or_none (before_sent p (kind.Key M3) h))

under_way_calm : (d : Domain) (n p : Node) (a : Attempt) (e : Act) (h : List Act) → IsCalm p e → IsUnderWay d n p a h → IsUnderWay d n p a (e ∷ h)
under_way_calm d n p a e h x at = record {
  part = e ∷ at.part;
  is = attempt_more p e h at.part x.opens_none x.ends_none at.is;
  begun = begun_as a.renews at.part (e ∷ at.part) (start_more e at.part (attempt_some p h at.part at.is)) at.begun;
  beside = beside_as a.renews (session p h) (session p (e ∷ h)) (session_more p e h x.quiet.finishes_none x.quiet.closes_none) at.beside;
  nonce = own_nonce_more e at.part a.anonce at.nonce;
  m1_offers = ap (map replay_counter) (sent_more p (kind.Key M1) e at.part (x.quiet.sends_none M1)) ∙ at.m1_offers;
  m3_offers = ap (map replay_counter) (sent_more p (kind.Key M3) e at.part (x.quiet.sends_none M3)) ∙ at.m3_offers;
  answered = ap (λ (o : Option (List ℕ)). is_some o) (heard_more p (kind.Key M2) e at.part (x.quiet.hears_none M2)) ∙ at.answered;
  agreed = agreed_on (own_pair d n p) a.agreed a.m3s at.part (e ∷ at.part) h (e ∷ h) (derivation_more p e at.part x.derives_none) (first_calm p e h x) at.agreed;
  associated = association_as d n p a.association _ _ (request_more p e h x.opens_none x.ends_none x.quiet.finishes_none) at.associated;
}

-- an act that neither begins nor ends an attempt with p
abbrev pub LeavesAttempt : Node → Act → Type 0
LeavesAttempt p e = (opens p e ≡ false) × (ends p e ≡ false)

no_connect_by : (p : Node) (e : Act) (h : List Act) (o : Option (List Act)) → LeavesAttempt p e → attempt p h ≡ o → IsNoConnect o → IsNoConnect (attempt p (e ∷ h))
no_connect_by p e h None x is at = no_connect p (e ∷ h) (attempt_none p e h x.0 is)
no_connect_by p e h (Some part) x is at =
    subst (λ (o : Option (List Act)). IsNoConnect o) (sym (attempt_more p e h part x.0 x.1 is)) (ap is_roam (start_more e part (attempt_some p h part is)) ∙ at)

pub no_connect_more : (p : Node) (g h : List Act) → AllByRecursion (LeavesAttempt p) g → IsNoConnect (attempt p h) → IsNoConnect (attempt p (add g h))
no_connect_more p [] h all at = at
no_connect_more p (e ∷ g) h all at = no_connect_more p g (e ∷ h) all.1 (no_connect_by p e h (attempt p h) all.0 refl at)

pub calm_leaves : (p : Node) (g : List Act) → AllByRecursion (IsCalm p) g → AllByRecursion (LeavesAttempt p) g
calm_leaves p [] all = tt
calm_leaves p (e ∷ g) all = ((all.0.opens_none, all.0.ends_none), calm_leaves p g all.1)

under_way_on : (d : Domain) (n p : Node) (a : Attempt) (g h : List Act) → AllByRecursion (IsCalm p) g → IsUnderWay d n p a h → IsUnderWay d n p a (add g h)
under_way_on d n p a [] h all at = at
under_way_on d n p a (e ∷ g) h all at = under_way_on d n p a g (e ∷ h) all.1 (under_way_calm d n p a e h all.0 at)

attempt_goes_on : (d : Domain) (n p : Node) (o : Option Attempt) (g h : List Act) → AllByRecursion (IsCalm p) g → HasAttempt d n p o h → HasAttempt d n p o (add g h)
attempt_goes_on d n p None g h all at = no_connect_more p g h (calm_leaves p g all) at
attempt_goes_on d n p (Some a) g h all at = under_way_on d n p a g h all at

-- ---- what there is with the station

-- calm acts leave the part in the handshakes
pub stands_calm : (d : Domain) (n p : Node) (s : Part) (g h : List Act) → AllByRecursion (IsCalm p) g → AuthenticatorStands d n p s h → AuthenticatorStands d n p s (add g h)
stands_calm d n p s g h all at = record {
  ends = at.ends;
  attempt_is = attempt_goes_on d n p s.attempt g h all at.attempt_is;
  session_is = session_goes_on d n p s.session g h (calm_quiet p g all) at.session_is;
}

-- and all that there is, where no pairwise key is installed or used
pub part_calm : (d : Domain) (n : Node) (sta : ℕ) (x : Station) (g h : List Act) → AllByRecursion (IsCalm (Sta sta)) g → AllLeave (Sta sta) g → HasPart d n sta x h → HasPart d n sta x (add g h)
part_calm d n sta x g h all leave at =
    let l = ends_of d n (Sta sta) in
    has_part d n sta l x (add g h) at.tried at.kept (stands_calm d n (Sta sta) (part_with l x) g h all (part_of d n sta x h at))
    (key_as (Sta sta) (session (Sta sta) h) (session (Sta sta) (add g h)) (key_in x) h (add g h) (session_quiet (Sta sta) g h (calm_quiet (Sta sta) g all)) (keeps (Sta sta) g h leave) at.key)

-- quiet acts behind which there is none leave the rest
pub stands_quiet : (d : Domain) (n p : Node) (s : Part) (g h : List Act) → AllByRecursion (IsQuiet p) g → IsNoConnect (attempt p (add g h)) → AuthenticatorStands d n p s h → AuthenticatorStands d n p (with_attempt None s) (add g h)
stands_quiet d n p s g h all none at = record {
  ends = at.ends;
  attempt_is = none;
  session_is = session_goes_on d n p s.session g h all at.session_is;
}

-- with suite 4 no key is renewed
pub mobile_renews : (d : Domain) → d.akm ≡ FtPsk → renews d ≡ false
mobile_renews d suite = ap (λ (akm : Akm). has_renewals d && can_renew akm) suite ∙ and_false (has_renewals d)
  where
    and_false : (b : Bool) → (b && false) ≡ false
    and_false true = refl
    and_false false = refl

never_renews : (d : Domain) → d.akm ≡ FtPsk → renews d ≡ true → ⊥
never_renews d suite renewed = cc (sym (mobile_renews d suite) ∙ renewed)

-- so beside whatever attempt there is no other renews the key of the session
kept_mobile : (d : Domain) (n p : Node) (o t : Option Trying) (s : Option Kept) → d.akm ≡ FtPsk → IsKept d n p o s → IsKept d n p t s
kept_mobile d n p o t None suite kept = tt
kept_mobile d n p o t (Some s) suite kept = (kept.0, record { attempt = by kept.1.attempt; session = kept.1.session })
  where
    by : ((kinds s.part).attempt ≡ None) ⊎ IsRenewing d o (kinds s.part) → ((kinds s.part).attempt ≡ None) ⊎ IsRenewing d t (kinds s.part)
    by (inl none) = inl none
    by (inr renewing) = absurd (never_renews d suite renewing.renewed)

-- the session that a fast transition installed goes back to no association
pub of_transferred : (d : Domain) (o : Option Trying) (k : Kinds) → d.akm ≡ FtPsk → k.attempt ≡ None → IsOfSession d o k
of_transferred d o k suite none = record { attempt = inl none; session = λ renewed. absurd (never_renews d suite renewed) }

-- an attempt by fast transition took the place of the one that there was
pub part_quiet : (d : Domain) (n : Node) (sta : ℕ) (s : TargetState) (x : Station) (g h : List Act) → d.akm ≡ FtPsk → AllByRecursion (IsQuiet (Sta sta)) g → IsNoConnect (attempt (Sta sta) (add g h)) → AllLeave (Sta sta) g → HasPart d n sta x h
    → HasPart d n sta (pending_beside (Some s) x) (add g h)
part_quiet d n sta s x g h suite all none leave at =
    let y = stands_quiet d n (Sta sta) (part_with (ends_of d n (Sta sta)) x) g h all none (part_of d n sta x h at) in
    record {
      tried = tt;
      kept = kept_mobile d n (Sta sta) x.attempt (Some (Transition s)) x.session suite at.kept;
      attempt_is = none;
      session_is = y.session_is;
      key = key_as (Sta sta) (session (Sta sta) h) (session (Sta sta) (add g h)) (key_in x) h (add g h) (session_quiet (Sta sta) g h all) (keeps (Sta sta) g h leave) at.key;
    }

-- ---- single acts

-- it sends no EAPOL-Key message
abbrev pub SendsNoMessage : Act → Type 0
SendsNoMessage e = (q : Node) (m : Message) → sent q (kind.Key m) e ≡ None

none_either : (b : Bool) {c : Bool} (octets : List ℕ) → c ≡ false → cond b (cond c (Some octets) None) None ≡ None
none_either true octets e = rw e refl
none_either false octets e = refl

pub not_heard : (p : Node) (k : Kind) (from : Option Node) (octets : List ℕ) (m : Kind) (o : Outcome) (s : Option Seal) → same_kind k m ≡ false → accepted p k (Took from octets m o s) ≡ None
not_heard p k from octets m Accepted s other = none_either (is_from p from) octets other
not_heard p k from octets m _ s other = refl

calm_took : (p : Node) (from : Option Node) (octets : List ℕ) (k : Kind) (o : Outcome) (s : Option Seal) → ((m : Message) → same_kind (kind.Key m) k ≡ false) → IsCalm p (Took from octets k o s)
calm_took p from octets k o s other = record {
  quiet = record {
    draws_none = refl;
    hears_none = λ m. not_heard p (kind.Key m) from octets k o s (other m);
    sends_none = λ m. refl;
    finishes_none = refl;
    closes_none = refl;
    plain = refl;
  };
  opens_none = refl;
  ends_none = refl;
  derives_none = refl;
}

no_ft_req : (m : Message) → same_kind (kind.Key m) kind.FtReq ≡ false
no_ft_req M1 = refl
no_ft_req M2 = refl
no_ft_req M3 = refl
no_ft_req M4 = refl
no_ft_req G1 = refl
no_ft_req G2 = refl

no_re_req : (m : Message) → same_kind (kind.Key m) kind.ReReq ≡ false
no_re_req M1 = refl
no_re_req M2 = refl
no_re_req M3 = refl
no_re_req M4 = refl
no_re_req G1 = refl
no_re_req G2 = refl

pub took_auth : (p : Node) (from : Option Node) (octets : List ℕ) (o : Outcome) (s : Option Seal) → IsCalm p (Took from octets kind.FtReq o s)
took_auth p from octets o s = calm_took p from octets kind.FtReq o s no_ft_req

pub took_reassoc : (p : Node) (from : Option Node) (octets : List ℕ) (o : Outcome) (s : Option Seal) → IsCalm p (Took from octets kind.ReReq o s)
took_reassoc p from octets o s = calm_took p from octets kind.ReReq o s no_re_req

calm_looked : (p : Node) (id name : List ℕ) (q : Node) (answer : PullAnswer) → IsCalm p (Looked id name q answer)
calm_looked p id name q answer = record {
  quiet = record { draws_none = refl; hears_none = λ m. refl; sends_none = λ m. refl; finishes_none = refl; closes_none = refl; plain = refl };
  opens_none = refl;
  ends_none = refl;
  derives_none = refl;
}

calm_sent : (p : Node) (q : Peer) (k : Kind) (octets : List ℕ) (s : Option Seal) → SendsNoMessage (Sent q k octets s) → IsCalm p (Sent q k octets s)
calm_sent p q k octets s none = record {
  quiet = record { draws_none = refl; hears_none = λ m. refl; sends_none = λ m. none p m; finishes_none = refl; closes_none = refl; plain = refl };
  opens_none = refl;
  ends_none = refl;
  derives_none = refl;
}

quiet_closed : (p q : Node) → IsQuiet p (Closed q OfAttempt)
quiet_closed p q = record { draws_none = refl; hears_none = λ m. refl; sends_none = λ m. refl; finishes_none = refl; closes_none = refl; plain = refl }

quiet_opened : (p q : Node) → IsQuiet p (Opened q Roam)
quiet_opened p q = record { draws_none = refl; hears_none = λ m. refl; sends_none = λ m. refl; finishes_none = refl; closes_none = refl; plain = refl }

quiet_drew : (p : Node) (v : List ℕ) → IsQuiet p (Drew (Nonce v))
quiet_drew p v = record { draws_none = refl; hears_none = λ m. refl; sends_none = λ m. refl; finishes_none = refl; closes_none = refl; plain = refl }

quiet_derived : (p q : Node) (i : Inputs) (k : Ptk) → IsQuiet p (Derived q i k)
quiet_derived p q i k = record { draws_none = refl; hears_none = λ m. refl; sends_none = λ m. refl; finishes_none = refl; closes_none = refl; plain = refl }

-- ---- the acts of an authentication request

pub looked_calm : (p q : Node) (x : Option Asked) (answer : Option PullAnswer) → AllByRecursion (IsCalm p) (looked_for q x answer)
looked_calm p q None answer = tt
looked_calm p q (Some a) answer = by (single a.names) answer
  where
    by : (name : Option (List ℕ)) (answer : Option PullAnswer) → AllByRecursion (IsCalm p) (looked_by q a name answer)
    by None answer = tt
    by (Some name) None = tt
    by (Some name) (Some y) = (calm_looked p a.r0kh_id name q y, tt)

pub sent_calm : (d : Domain) (n q p : Node) (r : Reply) → AllByRecursion SendsNoMessage (transition_sent d n q r) → AllByRecursion (IsCalm p) (transition_sent d n q r)
sent_calm d n q p r none = by (r.len == 0) none
  where
    by : (b : Bool) → AllByRecursion SendsNoMessage (cond b [] (sent_octets d n q r (take r.len r.octets))) → AllByRecursion (IsCalm p) (cond b [] (sent_octets d n q r (take r.len r.octets)))
    by true all = tt
    by false all = (calm_sent p (One q) r.kind _ _ all.0, tt)

closed_quiet : (p q : Node) (part : Option (List Act)) → AllByRecursion (IsQuiet p) (close_attempt q part)
closed_quiet p q None = tt
closed_quiet p q (Some part) = (quiet_closed p q, tt)

begun_quiet : (p q : Node) (part : Option (List Act)) (y : Option Keyed) → AllByRecursion (IsQuiet p) (begun_acts q part y)
begun_quiet p q part None = tt
begun_quiet p q part (Some y) = all_joined (IsQuiet p) (close_attempt q part) _ (closed_quiet p q part) (quiet_opened p q, (quiet_drew p y.anonce, tt))

derived_quiet : (d : Domain) (root : Root) (n q p : Node) (y : Option Keyed) → AllByRecursion (IsQuiet p) (derived_acts d root n q y)
derived_quiet d root n q p None = tt
derived_quiet d root n q p (Some y) = (quiet_derived p q _ y.ptk, tt)

derived_leaves_attempt : (d : Domain) (root : Root) (n q p : Node) (y : Option Keyed) → AllByRecursion (LeavesAttempt p) (derived_acts d root n q y)
derived_leaves_attempt d root n q p None = tt
derived_leaves_attempt d root n q p (Some y) = ((refl, refl), tt)

-- behind its Opened the attempt is one by fast transition
begun_none : (p : Node) (part : Option (List Act)) (y : Keyed) (h : List Act) → IsNoConnect (attempt p (add (begun_acts p part (Some y)) h))
begun_none p part y h = by part
  where
    opened : (l : List Act) → IsNoConnect (attempt p (Drew (Nonce y.anonce) ∷ Opened p Roam ∷ l))
    opened l = subst (λ (o : Option (List Act)). IsNoConnect o)
        (sym (attempt_more p (Drew (Nonce y.anonce)) (Opened p Roam ∷ l) (Opened p Roam ∷ []) refl refl (attempt_begins p (Opened p Roam) l (same-refl p)))) refl

    by : (part : Option (List Act)) → IsNoConnect (attempt p (add (begun_acts p part (Some y)) h))
    by None = opened h
    by (Some old) = opened (Closed p OfAttempt ∷ h)

module _ (d : Domain) (root : Root) (n p : Node) (part : Option (List Act)) (t : Came) (r : Reply) where
  abbrev took_first : Act
  took_first = Took (Some p) t.octets kind.FtReq t.outcome None

  abbrev looks : List Act
  looks = looked_for p (asked t.fields) r.looked

  abbrev begins : List Act
  begins = begun_acts p part r.derived

  abbrev derives : List Act
  derives = derived_acts d root n p r.derived

  abbrev sends : List Act
  sends = transition_sent d n p r

  -- without a key they leave all
  pub auth_calm : r.derived ≡ None → AllByRecursion SendsNoMessage (transition_sent d n p r) → AllByRecursion (IsCalm p) (auth_request_acts d root n p part t r)
  auth_calm none silent = (
    took_auth p (Some p) t.octets t.outcome None,
    all_joined (IsCalm p) (looks ++ begins ++ derives) sends
        (all_joined (IsCalm p) (looks ++ begins) derives
        (all_joined (IsCalm p) looks begins (looked_calm p p (asked t.fields) r.looked) (subst (λ (y : Option Keyed). AllByRecursion (IsCalm p) (begun_acts p part y)) (sym none) tt))
        (subst (λ (y : Option Keyed). AllByRecursion (IsCalm p) (derived_acts d root n p y)) (sym none) tt))
        (sent_calm d n p p r silent),
  )

  -- and at least the session
  pub auth_quiet : AllByRecursion SendsNoMessage (transition_sent d n p r) → AllByRecursion (IsQuiet p) (auth_request_acts d root n p part t r)
  auth_quiet silent = (
    (took_auth p (Some p) t.octets t.outcome None).quiet,
    all_joined (IsQuiet p) (looks ++ begins ++ derives) sends
        (all_joined (IsQuiet p) (looks ++ begins) derives
        (all_joined (IsQuiet p) looks begins (calm_quiet p looks (looked_calm p p (asked t.fields) r.looked)) (begun_quiet p p part r.derived))
        (derived_quiet d root n p p r.derived))
        (calm_quiet p sends (sent_calm d n p p r silent)),
  )

  -- with a key there is an attempt by fast transition then
  pub auth_begun : (y : Keyed) (h : List Act) → r.derived ≡ Some y → AllByRecursion SendsNoMessage (transition_sent d n p r) → IsNoConnect (attempt p (add (auth_request_acts d root n p part t r) h))
  auth_begun y h some silent =
      subst (λ (l : List Act). IsNoConnect (attempt p l)) (sym in_turn)
      (no_connect_more p sends _ (calm_leaves p sends (sent_calm d n p p r silent))
      (no_connect_more p derives _ (derived_leaves_attempt d root n p p r.derived)
      (subst (λ (o : Option Keyed). IsNoConnect (attempt p (add (begun_acts p part o) (add looks (took_first ∷ h))))) (sym some) (begun_none p part y (add looks (took_first ∷ h))))))
    where
      in_turn : add (auth_request_acts d root n p part t r) h ≡ add sends (add derives (add begins (add looks (took_first ∷ h))))
      in_turn =
          add_append (looks ++ begins ++ derives) sends (took_first ∷ h)
          ∙ ap (λ (l : List Act). add sends l) (add_append (looks ++ begins) derives (took_first ∷ h) ∙ ap (λ (l : List Act). add derives l) (add_append looks begins (took_first ∷ h)))

-- no pairwise key is installed or used
leaves_one : (q : Node) (e : Act) → ((tk : List ℕ) → LeavesPairwise q tk e) → AllLeave q (e ∷ [])
leaves_one q e leave tk = (leave tk, tt)

looked_leave : (q p : Node) (x : Option Asked) (answer : Option PullAnswer) → AllLeave q (looked_for p x answer)
looked_leave q p None answer tk = tt
looked_leave q p (Some a) answer tk = by (single a.names) answer
  where
    by : (name : Option (List ℕ)) (answer : Option PullAnswer) → AllByRecursion (LeavesPairwise q tk) (looked_by p a name answer)
    by None answer = tt
    by (Some name) None = tt
    by (Some name) (Some y) = (record { used = λ h. refl; got = λ tid h. refl }, tt)

pub sent_leave : (d : Domain) (n p q : Node) (r : Reply) → AllLeave q (transition_sent d n p r)
sent_leave d n p q r tk = by (r.len == 0)
  where
    by : (b : Bool) → AllByRecursion (LeavesPairwise q tk) (cond b [] (sent_octets d n p r (take r.len r.octets)))
    by true = tt
    by false = (record { used = λ h. refl; got = λ tid h. refl }, tt)

begun_leave : (q p : Node) (part : Option (List Act)) (y : Option Keyed) → AllLeave q (begun_acts p part y)
begun_leave q p part None tk = tt
begun_leave q p None (Some y) tk = (record { used = λ h. refl; got = λ tid h. refl }, (record { used = λ h. refl; got = λ tid h. refl }, tt))
begun_leave q p (Some old) (Some y) tk =
    (record { used = λ h. refl; got = λ tid h. refl }, (record { used = λ h. refl; got = λ tid h. refl }, (record { used = λ h. refl; got = λ tid h. refl }, tt)))

derived_leave : (d : Domain) (root : Root) (n p q : Node) (y : Option Keyed) → AllLeave q (derived_acts d root n p y)
derived_leave d root n p q None tk = tt
derived_leave d root n p q (Some y) tk = (record { used = λ h. refl; got = λ tid h. refl }, tt)

pub auth_leaves : (q : Node) (d : Domain) (root : Root) (n p : Node) (part : Option (List Act)) (t : Came) (r : Reply) → AllLeave q (auth_request_acts d root n p part t r)
auth_leaves q d root n p part t r tk = (
  record { used = λ h. refl; got = λ tid h. refl },
  all_joined (LeavesPairwise q tk) _ (transition_sent d n p r)
      (all_joined (LeavesPairwise q tk) _ (derived_acts d root n p r.derived)
      (all_joined (LeavesPairwise q tk) (looked_for p (asked t.fields) r.looked) (begun_acts p part r.derived) (looked_leave q p (asked t.fields) r.looked tk) (begun_leave q p part r.derived tk))
      (derived_leave d root n p q r.derived tk))
      (sent_leave d n p q r tk),
)

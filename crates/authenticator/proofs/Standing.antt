-- How an authenticator goes on to stand for a history with more acts that are not about its peer.
use Rattle.std.proofs.Common.{◌≡◌, ℕ, suc, ◌+◌, ◌≤◌, Bool, true, false, List, [], ◌∷◌, Option, Some, None, map, refl, sym, ap, subst, ◌∙◌}
use Rattle.std.specs.Prelude.{is_some}
use Rattle.std.specs.List.{AllByRecursion}
use Rattle.domain_base.specs.declared.names.Node.{Node}
use Rattle.eapol_key.specs.declared.messages.Message.TheVariants.{M1, M2, M3}
use Rattle.run_journal.specs.declared.domain.Domain.{Domain}
use Rattle.run_journal.specs.declared.acts.Kind.TheVariants as kind
use Rattle.run_journal.specs.declared.acts.Act.{Act}
use Rattle.run_journal.specs.Acts.{Derivation, closes}
use Rattle.run_journal.specs.Questions.{or_else, attempt, derivation, session, heard, before_sent, add}
use Rattle.domain_rules.specs.Asking.{start_of, is_connect, has_four_way, is_four_way, is_roam, is_renewal, is_by_renewal, in_renewal, replay_counter}
use Rattle.domain_rules.specs.AccessPointKeys.{session_origin}
use Rattle.domain_rules.specs.Counters.{sent_count}
use Rattle.domain_rules.specs.Replies.{Pair}
use Rattle.authenticator.specs.Bases.{own_pair}
use Rattle.domain_rules.proofs.Parts.{IsApart, GoesOn, goes_on, session_more, session_origin_more}
use Rattle.domain_rules.proofs.Starts.{four_way_by_connect, renewal_is, connect_no_renewal}
use Rattle.authenticator.specs.Agreed.{Agreed}
use Rattle.authenticator.specs.Associated.{Associated}
use Rattle.authenticator.specs.Counters.{last_in, moved}
use Rattle.authenticator.specs.State.{State}
use Rattle.authenticator.specs.Stands.{IsAgreed, IsAssociationOf, IsAssociated, session_request, is_begun_by, IsBeside, IsUnderWay, Counts, IsHeld, IsNoConnect, HasAttempt, HasSession, AuthenticatorStands}
use Rattle.authenticator.specs.declared.attempt.Attempt.{Attempt}
use Rattle.authenticator.specs.declared.counters.Offers.{Offers}
use Rattle.authenticator.specs.declared.session.Session.{Session}
use Rattle.authenticator.proofs.Handshaking.{IsOneMore, counts_apart, counts_plain, counts_taken}

-- ---- the first M3

pub or_none : {A : Type 0} (o : Option A) → or_else o None ≡ o
or_none None = refl
or_none (Some x) = refl

first_more : (p : Node) (e : Act) (h : List Act) → IsApart p e → before_sent p (kind.Key M3) (e ∷ h) ≡ before_sent p (kind.Key M3) h
first_more p e h apart = rw (apart.opens_none, apart.sends_none M3) (or_none (before_sent p (kind.Key M3) h))

first_on : (p : Node) (g h : List Act) → AllByRecursion (IsApart p) g → before_sent p (kind.Key M3) (add g h) ≡ before_sent p (kind.Key M3) h
first_on p [] h all = refl
first_on p (e ∷ g) h all = first_on p g (e ∷ h) all.1 ∙ first_more p e h all.0

-- ---- the replay counters of a session

counts_more : (p : Node) (s : Session) (g h : List Act) → AllByRecursion (IsApart p) g → Counts p s h → Counts p s (add g h)
counts_more p s [] h all at = at
counts_more p s (e ∷ g) h all at = counts_more p s g (e ∷ h) all.1 (counts_apart p s e h all.0 at)

-- ---- acts that are not about the peer

origin_on : (p : Node) (g h : List Act) → AllByRecursion (IsApart p) g → session_origin p (add g h) ≡ session_origin p h
origin_on p [] h all = refl
origin_on p (e ∷ g) h all = origin_on p g (e ∷ h) all.1 ∙ session_origin_more p e h all.0.finishes_none

-- from the one history to the other lead acts that are not about p
pub record IsOther (p : Node) (old new : List Act) : Type 0 where
  pub goes : GoesOn p old new
  pub origin : session_origin p new ≡ session_origin p old
  pub first : before_sent p (kind.Key M3) new ≡ before_sent p (kind.Key M3) old
  pub counts : (s : Session) → Counts p s old → Counts p s new

pub other_on : (p : Node) (g h : List Act) → AllByRecursion (IsApart p) g → IsOther p h (add g h)
other_on p g h all = record { goes = goes_on p g h all; origin = origin_on p g h all; first = first_on p g h all; counts = λ s at. counts_more p s g h all at }

pub agreed_on : (w : Pair) (o : Option Agreed) (m3s : Offers) (part more old new : List Act) → derivation w.peer more ≡ derivation w.peer part → before_sent w.peer (kind.Key M3) new ≡ before_sent w.peer (kind.Key M3) old
    → IsAgreed w o m3s part old → IsAgreed w o m3s more new
agreed_on w None m3s part more old new derives first at = (at.0, first ∙ at.1)
agreed_on w (Some y) m3s part more old new derives first at = (
  derives ∙ at.0,
  record { past = at.1.past; is = first ∙ at.1.is; newest = at.1.newest },
  at.2,
)

-- how an attempt began stays
pub begun_as : (b : Bool) (part more : List Act) → start_of more ≡ start_of part → is_begun_by b part ≡ true → is_begun_by b more ≡ true
begun_as false part more same begun = ap is_connect same ∙ begun
begun_as true part more same begun = ap is_renewal same ∙ begun

pub renewal_by : (b : Bool) (part : List Act) → is_begun_by b part ≡ true → is_by_renewal part ≡ b
renewal_by false part begun = connect_no_renewal (start_of part) begun
renewal_by true part begun = begun

pub four_way_by : (b : Bool) (part : List Act) → is_begun_by b part ≡ true → is_four_way part ≡ true
four_way_by false part begun = four_way_by_connect (start_of part) begun
four_way_by true part begun = ap has_four_way (renewal_is (start_of part) begun)

pub beside_as : (b : Bool) (x y : Option Derivation) → y ≡ x → IsBeside b x → IsBeside b y
beside_as b x y same at = subst (λ (o : Option Derivation). IsBeside b o) (sym same) at

-- and what it goes back to
pub association_as : (d : Domain) (n p : Node) (a : Associated) (o q : Option (List ℕ)) → q ≡ o → IsAssociationOf d n p a o → IsAssociationOf d n p a q
association_as d n p a o q same at = record { request = at.request; heard_last = same ∙ at.heard_last; rsne = at.rsne; base = at.base }

pub associated_as : (d : Domain) (n p : Node) (a : Option Associated) (o q : Option (List ℕ)) → q ≡ o → IsAssociated d n p a o → IsAssociated d n p a q
associated_as d n p None o q same at = tt
associated_as d n p (Some a) o q same at = association_as d n p a o q same at

under_way_on : (d : Domain) (n p : Node) (a : Attempt) (old new : List Act) → IsOther p old new → IsUnderWay d n p a old → IsUnderWay d n p a new
under_way_on d n p a old new other at =
    let c = other.goes.carries at.part at.is in
    record {
      part = c.more;
      is = c.is;
      begun = begun_as a.renews at.part c.more c.begun at.begun;
      beside = beside_as a.renews (session p old) (session p new) other.goes.has at.beside;
      nonce = c.nonce a.anonce at.nonce;
      m1_offers = ap (map replay_counter) (c.sends M1) ∙ at.m1_offers;
      m3_offers = ap (map replay_counter) (c.sends M3) ∙ at.m3_offers;
      answered = ap (λ (o : Option (List ℕ)). is_some o) (c.hears (kind.Key M2)) ∙ at.answered;
      agreed = agreed_on (own_pair d n p) a.agreed a.m3s at.part c.more old new c.derives other.first at.agreed;
      associated = association_as d n p a.association _ _ other.goes.requests at.associated;
    }

pub no_connect : (p : Node) (h : List Act) → attempt p h ≡ None → IsNoConnect (attempt p h)
no_connect p h none = subst (λ (o : Option (List Act)). IsNoConnect o) (sym none) tt

no_connect_by : (p : Node) (old new : List Act) (o : Option (List Act)) → GoesOn p old new → attempt p old ≡ o → IsNoConnect o → IsNoConnect (attempt p new)
no_connect_by p old new None goes is at = no_connect p new (goes.none is)
no_connect_by p old new (Some part) goes is at =
    let c = goes.carries part is in
    subst (λ (o : Option (List Act)). IsNoConnect o) (sym c.is) (ap is_roam c.begun ∙ at)

pub no_connect_on : (p : Node) (old new : List Act) → GoesOn p old new → IsNoConnect (attempt p old) → IsNoConnect (attempt p new)
no_connect_on p old new goes at = no_connect_by p old new (attempt p old) goes refl at

attempt_on : (d : Domain) (n p : Node) (o : Option Attempt) (old new : List Act) → IsOther p old new → HasAttempt d n p o old → HasAttempt d n p o new
attempt_on d n p None old new other at = no_connect_on p old new other.goes at
attempt_on d n p (Some a) old new other at = under_way_on d n p a old new other at

-- a session stays where its key, what it goes back to and its counters do
pub session_on : (d : Domain) (n p : Node) (o : Option Session) (old new : List Act) → session p new ≡ session p old → session_request p new ≡ session_request p old → ((s : Session) → Counts p s old → Counts p s new) → HasSession d n p o old → HasSession d n p o new
session_on d n p None old new has request counts at = has ∙ at
session_on d n p (Some s) old new has request counts at = record {
  x = at.x;
  is = has ∙ at.is;
  key = at.key;
  counts = counts s at.counts;
  associated = associated_as d n p s.association (session_request p old) (session_request p new) request at.associated;
}

-- the same where an act does not end an attempt
pub request_as : (p : Node) (old new : List Act) → session_origin p new ≡ session_origin p old → session_request p new ≡ session_request p old
request_as p old new same = ap (heard p kind.AssocReq) same

pub stands_on : (d : Domain) (n p : Node) (s : State) (old new : List Act) → IsOther p old new → AuthenticatorStands d n p s old → AuthenticatorStands d n p s new
stands_on d n p s old new other at = record {
  ends = at.ends;
  attempt_is = attempt_on d n p s.attempt old new other at.attempt_is;
  session_is = session_on d n p s.session old new other.goes.has (request_as p old new other.origin) other.counts at.session_is;
}

-- and by one act
pub stands_more : (d : Domain) (n p : Node) (s : State) (e : Act) (h : List Act) → IsApart p e → AuthenticatorStands d n p s h → AuthenticatorStands d n p s (e ∷ h)
stands_more d n p s e h apart = stands_on d n p s h (e ∷ h) (other_on p (e ∷ []) h (apart, tt))

-- ---- what there is, by whether there is

pub no_attempt : (d : Domain) (n p : Node) (o : Option Attempt) (h : List Act) → o ≡ None → HasAttempt d n p o h → IsNoConnect (attempt p h)
no_attempt d n p o h none at = subst (λ (x : Option Attempt). HasAttempt d n p x h) none at

pub under_way : (d : Domain) (n p : Node) (o : Option Attempt) (a : Attempt) (h : List Act) → o ≡ Some a → HasAttempt d n p o h → IsUnderWay d n p a h
under_way d n p o a h is at = subst (λ (x : Option Attempt). HasAttempt d n p x h) is at

-- whether it renews a key
pub renews_is : (d : Domain) (n p : Node) (a : Attempt) (h : List Act) → IsUnderWay d n p a h → in_renewal (attempt p h) ≡ a.renews
renews_is d n p a h at = ap in_renewal at.is ∙ renewal_by a.renews at.part at.begun

pub no_session : (d : Domain) (n p : Node) (o : Option Session) (h : List Act) → o ≡ None → HasSession d n p o h → session p h ≡ None
no_session d n p o h none at = subst (λ (x : Option Session). HasSession d n p x h) none at

pub held : (d : Domain) (n p : Node) (o : Option Session) (s : Session) (h : List Act) → o ≡ Some s → HasSession d n p o h → IsHeld d n p s h
held d n p o s h is at = subst (λ (x : Option Session). HasSession d n p x h) is at

pub has_session : (d : Domain) (n p : Node) (o : Option Session) (h : List Act) → HasSession d n p o h → is_some (session p h) ≡ is_some o
has_session d n p None h at = rw at refl
has_session d n p (Some s) h at = rw at.is refl

-- ---- M1 and M3 take a counter of the session whose key the attempt renews

held_taken : (d : Domain) (n p : Node) (s : Session) (e : Act) (h part : List Act) (counter : ℕ) → IsOneMore p e → closes p e ≡ false → attempt p h ≡ Some part → is_by_renewal part ≡ true → sent_count p M1 part + sent_count p M3 part ≤ 7 → counter ≡ suc s.last → IsHeld d n p s h
    → IsHeld d n p (record s { last = counter }) (e ∷ h)
held_taken d n p s e h part counter one closed is renews less next at = record {
  x = at.x;
  is = session_more p e h one.finishes_none closed ∙ at.is;
  key = at.key;
  counts = counts_taken p s e h part counter one is renews less next at.counts;
  associated = associated_as d n p s.association (session_request p h) (session_request p (e ∷ h)) (request_as p h (e ∷ h) (session_origin_more p e h one.finishes_none)) at.associated;
}

pub session_moved : (d : Domain) (n p : Node) (renews : Bool) (counter : ℕ) (o : Option Session) (e : Act) (h part : List Act) → IsOneMore p e → closes p e ≡ false → attempt p h ≡ Some part → is_by_renewal part ≡ renews → sent_count p M1 part + sent_count p M3 part ≤ 7
    → (renews ≡ true → counter ≡ suc (last_in o)) → HasSession d n p o h → HasSession d n p (moved renews counter o) (e ∷ h)
session_moved d n p false counter o e h part one closed is renews less next at =
    session_on d n p o h (e ∷ h) (session_more p e h one.finishes_none closed) (request_as p h (e ∷ h) (session_origin_more p e h one.finishes_none))
    (λ s counts. counts_plain p s e h one (ap in_renewal is ∙ renews) counts) at
session_moved d n p true counter None e h part one closed is renews less next at = session_more p e h one.finishes_none closed ∙ at
session_moved d n p true counter (Some s) e h part one closed is renews less next at = held_taken d n p s e h part counter one closed is renews less (next refl) at

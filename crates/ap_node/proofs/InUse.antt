-- The pairwise key in use with a station, beside the session.
use Rattle.std.proofs.Common.{◌≡◌, ◌∙◌, ℕ, Bool, true, false, List, Option, Some, None, Result, Ok, Err, refl, sym, ap, subst, inl, inr}
use Rattle.std.specs.Prelude.{◌⊎◌, is_some, option_map, OnOk}
use Rattle.domain_base.specs.declared.names.Node.{Node}
use Rattle.domain_base.specs.declared.names.Peer.TheVariants.{One}
use Rattle.eapol_key.specs.declared.messages.Message.TheVariants.{M1, M2, M3, M4, G1, G2}
use Rattle.ccmp_guard.specs.Held.{Held}
use Rattle.run_journal.specs.declared.domain.Domain.{Domain}
use Rattle.run_journal.specs.declared.acts.Outcome.{Outcome}
use Rattle.run_journal.specs.declared.acts.Outcome.TheVariants.{Refused}
use Rattle.run_journal.specs.declared.acts.Reason.{Reason}
use Rattle.run_journal.specs.declared.acts.Act.{Act}
use Rattle.run_journal.specs.declared.reply.Keyed.{Keyed}
use Rattle.run_journal.specs.declared.reply.Reply.{Reply}
use Rattle.run_journal.specs.Acts.{Derivation}
use Rattle.run_journal.specs.Questions.{session, add}
use Rattle.domain_rules.specs.Network.{Root}
use Rattle.key_hierarchy.specs.declared.inputs.Ptk.{Ptk}
use Rattle.domain_rules.specs.PacketNumbers.{send_key}
use Rattle.domain_rules.specs.Reading.{KeyMessage}
use Rattle.domain_rules.specs.Replies.{taken_as, reply_acts, sent_acts}
use Rattle.node_base.specs.Pairs.{pair_of}
use Rattle.domain_rules.proofs.Parts.{same-refl}
use Rattle.act_memory.proofs.RepliedActs.{replied_ends, sent_ends, ends_session}
use Rattle.authenticator.specs.Stands.{HasSession}
use Rattle.authenticator.specs.State.{State as Part}
use Rattle.authenticator.specs.Steps.{again_acts}
use Rattle.authenticator.specs.Taken.{Installs}
use Rattle.authenticator.specs.declared.authenticator.Again.{Again}
use Rattle.authenticator.specs.declared.authenticator.Again.TheVariants as again
use Rattle.authenticator.proofs.Standing.{held}
use Rattle.data_frames.specs.Holding.{HoldsPairwise}
use Rattle.data_frames.specs.Sending.{send_key_of}
use Rattle.data_frames.proofs.RepliedKeys.{replied_leaves, replied_holds, sent_leaves}
use Rattle.data_frames.proofs.Using.{pairwise_sends}
use Rattle.ap_node.specs.Keys.{fresh, key_after, key_of_session, used_in, HasKey}
use Rattle.ap_node.specs.declared.station.Station.{Station}
use Rattle.ap_node.specs.declared.station.Attempt.{Attempt as Trying}
use Rattle.ap_node.specs.declared.station.Session.{Session as Kept}
use Rattle.ap_node.specs.State.{no_station, key_by, key_in, rekeyed, with_key}
use Rattle.ap_node.proofs.Others.{AllLeave, KeepsKey, keeps, key_as}

-- ---- a message

-- that installs a key or not
pub key_replied : (d : Domain) (t : Root) (n p : Node) (had : Bool) (octets : List ℕ) (k : KeyMessage) (o : Outcome) (r : Reply) (new : Part) (old now : Option Held) (h : List Act) → now ≡ key_after r.installed old → Installs o r new
    → HasSession d n p new.session (add (reply_acts (pair_of d t n p) had (taken_as octets k o) r) h) → HasKey p (session p h) old h
    → HasKey p (session p (add (reply_acts (pair_of d t n p) had (taken_as octets k o) r) h)) now (add (reply_acts (pair_of d t n p) had (taken_as octets k o) r) h)
key_replied d t n p had octets k o r new old now h now_is installs there at = by r.installed refl
  where
    by : (i : Option Keyed) → r.installed ≡ i → HasKey p (session p (add (reply_acts (pair_of d t n p) had (taken_as octets k o) r) h)) now (add (reply_acts (pair_of d t n p) had (taken_as octets k o) r) h)
    by None none =
        let said = reply_acts (pair_of d t n p) had (taken_as octets k o) r in
        subst (λ (m : Option Held). HasKey p (session p (add said h)) m (add said h)) (sym (now_is ∙ ap (λ (i : Option Keyed). key_after i old) none))
        (key_as p (session p h) (session p (add said h)) old h (add said h) (ends_session p said h (replied_ends d t n p had octets k o r none))
        (keeps p said h (λ tk. replied_leaves d t n p p tk had octets k o r none)) at)
    by (Some y) some =
        let said = reply_acts (pair_of d t n p) had (taken_as octets k o) r in
        let i = installs y some in
        let there_is = held d n p new.session i.1 (add said h) i.2 there in
        let is : session p (add said h) ≡ Some there_is.x = there_is.is in
        let holds : HoldsPairwise p there_is.x.ptk.tk (fresh y.ptk.tk) (add said h) =
        subst (λ (z : Ptk). HoldsPairwise p z.tk (fresh y.ptk.tk) (add said h)) (sym (there_is.key ∙ i.3)) (replied_holds d t n p had octets k o r y h some) in
        subst (λ (m : Option Held). HasKey p (session p (add said h)) m (add said h)) (sym (now_is ∙ ap (λ (z : Option Keyed). key_after z old) some))
        (subst (λ (x : Option Derivation). HasKey p x (Some (fresh y.ptk.tk)) (add said h)) (sym is) holds)

-- where it is refused, none is installed
pub refused_key : (o : Outcome) (r : Reply) (new : Part) (k : Option Held) (why : Reason) → Installs o r new → o ≡ Refused why → key_after r.installed k ≡ k
refused_key o r new k why installs is = by r.installed refl
  where
    by : (i : Option Keyed) → r.installed ≡ i → key_after r.installed k ≡ k
    by None none = ap (λ (i : Option Keyed). key_after i k) none
    by (Some y) some = absurd (cc (is, (installs y some).0))

-- ---- a retry

-- the session goes on, or is at its end
again_session : (p : Node) (came : Again) (r : Reply) (h : List Act) → (session p (add (again_acts p came r) h) ≡ session p h) ⊎ (session p (add (again_acts p came r) h) ≡ None)
again_session p again.Sent r h = inl (ends_session p (sent_acts p r) h (sent_ends p r))
again_session p (again.GaveUp M1) r h = inl refl
again_session p (again.GaveUp M2) r h = inl refl
again_session p (again.GaveUp M3) r h = inl refl
again_session p (again.GaveUp M4) r h = inl refl
again_session p (again.GaveUp G1) r h = inr (rw (same-refl p) refl)
again_session p (again.GaveUp G2) r h = inl refl
again_session p again.Nothing r h = inl refl

pub again_leaves : (q p : Node) (came : Again) (r : Reply) → AllLeave q (again_acts p came r)
again_leaves q p again.Sent r tk = sent_leaves p q tk r
again_leaves q p (again.GaveUp m) r tk = (record { used = λ h. refl; got = λ tid h. refl }, (record { used = λ h. refl; got = λ tid h. refl }, tt))
again_leaves q p again.Nothing r tk = (record { used = λ h. refl; got = λ tid h. refl }, tt)

key_left : (p : Node) (there : Bool) (k : Option Held) (old new : List Act) → is_some (session p new) ≡ there → (session p new ≡ session p old) ⊎ (session p new ≡ None) → KeepsKey p old new
    → HasKey p (session p old) k old → HasKey p (session p new) (key_of_session there k) new
key_left p true k old new there (inl same) keep at = key_as p (session p old) (session p new) k old new same keep at
key_left p true k old new there (inr none) keep at = absurd (cc (sym there ∙ ap (λ (x : Option Derivation). is_some x) none))
key_left p false k old new there goes keep at = subst (λ (x : Option Derivation). HasKey p x None new) (sym (none_by (session p new) there)) tt
  where
    none_by : (x : Option Derivation) → is_some x ≡ false → x ≡ None
    none_by None is = refl
    none_by (Some x) is = absurd (cc is)

pub key_again : (p : Node) (there : Bool) (came : Again) (r : Reply) (old now : Option Held) (h : List Act) → now ≡ key_of_session there old → is_some (session p (add (again_acts p came r) h)) ≡ there
    → HasKey p (session p h) old h → HasKey p (session p (add (again_acts p came r) h)) now (add (again_acts p came r) h)
key_again p there came r old now h now_is is at =
    let new = add (again_acts p came r) h in
    subst (λ (m : Option Held). HasKey p (session p new) m new) (sym now_is)
    (key_left p there old h new is (again_session p came r h) (keeps p (again_acts p came r) h (again_leaves p p came r)) at)

-- ---- sending

-- a node sends under the key in use, or not without one
pub sends_by : (p : Node) (k : Option Held) (h : List Act) → HasKey p (session p h) k h → send_key h (One p) ≡ option_map send_key_of k
sends_by p k h at = by (session p h) k refl at
  where
    by : (o : Option Derivation) (m : Option Held) → session p h ≡ o → HasKey p o m h → send_key h (One p) ≡ option_map send_key_of m
    by None None is has = rw is refl
    by None (Some m) is has = absurd has
    by (Some x) None is has = absurd has
    by (Some x) (Some m) is has = pairwise_sends p m x h is has

-- ---- what a key in use leaves of it

abbrev pub the_station : Option Trying → Option Kept → Station
the_station attempt session = record { attempt = attempt; session = session }

pub station_as : (x : Station) (s : Option Kept) → s ≡ x.session → the_station x.attempt s ≡ x
station_as x s same = ap (λ (o : Option Kept). the_station x.attempt o) same

-- where the session has that key then
pub rekeyed_as : (now was : Station) (x : Station) (s : Option Kept) (k : Option Held) → now ≡ the_station x.attempt s → was ≡ x → s ≡ rekeyed k x.session → now ≡ with_key k was
rekeyed_as now was x s k now_is was_is is = rw (now_is, was_is, is) refl

pub rekeyed_same : (o : Option Kept) → o ≡ rekeyed (key_by o) o
rekeyed_same None = refl
rekeyed_same (Some s) = refl

pub none_as : (now was : Station) (k : Option Held) → now ≡ no_station → was ≡ no_station → now ≡ with_key k was
none_as now was k now_is was_is = rw (now_is, was_is) (by k)
  where
    by : (k : Option Held) → no_station ≡ with_key k no_station
    by None = refl
    by (Some h) = refl

pub used_as : {A E : Type 0} (r : Result A E) (now was : Station) (x : Station) (s : Option Kept) → now ≡ the_station x.attempt s → was ≡ x → OnOk r (s ≡ rekeyed (used_in (key_by x.session)) x.session) → OnOk r (now ≡ with_key (used_in (key_in was)) was)
used_as (Ok a) now was x s now_is was_is used = rw (now_is, was_is, used) refl
used_as (Err e) now was x s now_is was_is used = tt

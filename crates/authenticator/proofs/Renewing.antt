-- The renewal of the key of a session begins, and is abandoned.
use Rattle.std.proofs.Common.{◌≡◌, ◌<◌, ◌≤◌, ◌+◌, ◌*◌, ◌^◌, ℕ, suc, Bool, true, false, cond, List, [], ◌∷◌, Option, Some, None, is_some, refl, sym, ap, subst, ◌∙◌, arith}
use Rattle.std.specs.Prelude.{◌-◌}
use Rattle.domain_base.specs.declared.names.Node.{Node}
use Rattle.domain_base.specs.declared.names.Node.TheVariants.{Ap, Sta}
use Rattle.air_frame.specs.Sent.{IsAddress}
use Rattle.eapol_key.specs.declared.messages.Message.TheVariants.{M1, M3}
use Rattle.eapol_key.specs.Sent.{sent_fields}
use Rattle.run_journal.specs.declared.domain.Domain.{Domain}
use Rattle.run_journal.specs.declared.acts.Drawn.TheVariants.{Nonce}
use Rattle.run_journal.specs.declared.acts.Kind.TheVariants as kind
use Rattle.run_journal.specs.declared.acts.Part.TheVariants.{Attempt as OfAttempt}
use Rattle.run_journal.specs.declared.acts.Start.TheVariants.{Renew}
use Rattle.run_journal.specs.declared.acts.Act.{Act}
use Rattle.run_journal.specs.declared.acts.Act.TheVariants.{Opened, Closed, Drew}
use Rattle.run_journal.specs.declared.reply.Reply.{Reply}
use Rattle.run_journal.specs.Acts.{Derivation}
use Rattle.run_journal.specs.Questions.{attempt, session, heard, draws, add}
use Rattle.domain_rules.specs.Network.{address}
use Rattle.domain_rules.specs.Frames.{sent_m1}
use Rattle.domain_rules.specs.Asking.{is_by_renewal, in_renewal}
use Rattle.domain_rules.specs.AccessPointKeys.{origin, session_origin, request}
use Rattle.domain_rules.specs.Counters.{sent_count, next_in_session}
use Rattle.domain_rules.proofs.Parts.{same-refl, attempt_begins, attempt_more, attempt_ends}
use Rattle.authenticator.specs.Associated.{Associated}
use Rattle.authenticator.specs.Groups.{sent_for}
use Rattle.authenticator.specs.Judged.{begun, IsRenewal}
use Rattle.authenticator.specs.Kinds.{renews_in, abandoned_in, abandoned}
use Rattle.authenticator.specs.State.{State}
use Rattle.authenticator.specs.Stands.{left_in, IsAssociationOf, IsAssociated, session_request, IsUnderWay, Counts, IsHeld, HasAttempt, HasSession, AuthenticatorStands}
use Rattle.authenticator.specs.Taken.{RenewsFrom, AbandonsFrom}
use Rattle.authenticator.specs.declared.attempt.Attempt.{Attempt}
use Rattle.authenticator.specs.declared.session.Session.{Session}
use Rattle.authenticator.proofs.Addresses.{own_address, peer_address}
use Rattle.authenticator.proofs.Counting.{replay_plain}
use Rattle.authenticator.proofs.Handshaking.{counts_on, one_m1}
use Rattle.authenticator.proofs.Standing.{association_as, session_on, session_moved, no_connect, held}
use Rattle.authenticator.proofs.Agreeing.{cons_is}

-- ---- the acts before M1

-- an attempt to renew the key of the session was opened, and its nonce drawn
abbrev opened_after : Node → List ℕ → List Act → List Act
opened_after p anonce h = Drew (Nonce anonce) ∷ Opened p Renew ∷ h

opened_is : (p : Node) (anonce : List ℕ) (h : List Act) → attempt p (opened_after p anonce h) ≡ Some (opened_after p anonce [])
opened_is p anonce h = attempt_more p (Drew (Nonce anonce)) (Opened p Renew ∷ h) (Opened p Renew ∷ []) refl refl (attempt_begins p (Opened p Renew) h (same-refl p))

cond_most : (b : Bool) (m n : ℕ) → m ≤ n → cond b m 0 ≤ n
cond_most true m n most = most
cond_most false m n most = omega arith

left_most : (p : Node) (o : Option (List Act)) → left_in p o ≤ 12
left_most p None = omega arith
left_most p (Some part) = cond_most (is_by_renewal part) (12 - (sent_count p M1 part + sent_count p M3 part)) 12 (omega arith)

low_opened : (last left now d n : ℕ) → now ≤ 12 → last + (4 + left) ≤ 12 * d + n → last + (4 + now) ≤ 12 * suc d + n
low_opened last left now d n most low = omega (arith, most, low)

counts_opened : (p : Node) (anonce : List ℕ) (s : Session) (h : List Act) → Counts p s h → Counts p s (opened_after p anonce h)
counts_opened p anonce s h at =
    let w = at.here in
    record {
      place = at.place;
      here = record {
        next = w.next;
        newest = w.newest;
        drawn = w.drawn;
        offers = w.offers;
        answered = w.answered;
        low = low_opened s.last (left_in p (attempt p h)) (left_in p (attempt p (opened_after p anonce h))) (draws h) (sent_for at.place s) (left_most p (attempt p (opened_after p anonce h))) w.low;
      };
    }

session_opened : (d : Domain) (n p : Node) (anonce : List ℕ) (o : Option Session) (h : List Act) → HasSession d n p o h → HasSession d n p o (opened_after p anonce h)
session_opened d n p anonce o h at = session_on d n p o h (opened_after p anonce h) refl refl (λ s counts. counts_opened p anonce s h counts) at

-- ---- M1

-- the attempt goes back to what the session does
request_renewed : (p : Node) (h part past : List Act) → attempt p past ≡ Some part → is_by_renewal part ≡ true → session_origin p past ≡ session_origin p h → request p past ≡ session_request p h
request_renewed p h part past is renews same =
    ap (λ (o : Option (List Act)). heard p kind.AssocReq (cond (in_renewal o) (session_origin p past) (origin p past))) is
    ∙ ap (λ (b : Bool). heard p kind.AssocReq (cond b (session_origin p past) (origin p past))) renews
    ∙ ap (heard p kind.AssocReq) same

attempt_renewed : (d : Domain) (n p : Node) (a : Associated) (counter : ℕ) (anonce : List ℕ) (h : List Act) → IsAddress (address d n) → IsAddress (address d p) → counter < 2 ^ 64 → is_some (session p h) ≡ true → IsAssociationOf d n p a (session_request p h)
    → IsUnderWay d n p (begun a true counter anonce) (sent_m1 d n p counter anonce ∷ opened_after p anonce h)
attempt_renewed d n p a counter anonce h l m low some associated =
    let m1 = sent_m1 d n p counter anonce in
    let past = opened_after p anonce h in
    let part = opened_after p anonce [] in
    let is : attempt p (m1 ∷ past) ≡ Some (m1 ∷ part) = attempt_more p m1 past part refl refl (opened_is p anonce h) in
    record {
      part = m1 ∷ part;
      is = is;
      begun = refl;
      beside = some;
      nonce = refl;
      m1_offers = rw (same-refl p) (cons_is (replay_plain d n p (sent_fields M1 d.akm counter anonce 0 []) l m low) refl);
      m3_offers = rw (same-refl p) refl;
      answered = refl;
      agreed = (refl, rw (same-refl p) refl);
      associated = association_as d n p a (session_request p h) (request p (m1 ∷ past)) (request_renewed p h (m1 ∷ part) (m1 ∷ past) is refl refl) associated;
    }

low_next : (next last : ℕ) → next ≡ suc last → next < 2 ^ 64 - 1 → suc last < 2 ^ 64
low_next next last is low = omega (arith, is, low)

pub renews : (s : State) (t u : Session) (anonce : List ℕ) (a : Attempt) (r : Reply) → s.session ≡ Some t → IsRenewal s.ends t u anonce a r → RenewsFrom s (record s { attempt = Some a; session = Some u }) anonce r
renews s t u anonce a r some w = λ d k sta h stands counters.
    (let n = Ap k in
    let p = Sta sta in
    let at = held d n p s.session t h some stands.session_is in
    let counts = at.counts.here in
    let next_low = low_next (next_in_session p h) t.last counts.next (counters at.x at.is) in
    let counter_is : w.counter ≡ suc t.last = w.next next_low in
    let low : w.counter < 2 ^ 64 = subst (λ (c : ℕ). c < 2 ^ 64) (sym counter_is) next_low in
    let m1 = sent_m1 d n p w.counter anonce in
    let past = opened_after p anonce h in
    let sends = w.sends d n p stands.ends in
    let associated : IsAssociationOf d n p w.association (session_request p h) = subst (λ (o : Option Associated). IsAssociated d n p o (session_request p h)) w.has at.associated in
    let begun_now = attempt_renewed d n p w.association w.counter anonce h (own_address d n p s.ends stands.ends w.whole.own) (peer_address d n p s.ends stands.ends w.whole.peer) low (ap (λ (x : Option Derivation). is_some x) at.is) associated in
    let held_now : HasSession d n p (Some (record t { last = w.counter })) (m1 ∷ past) = session_moved d n p true w.counter (Some t) m1 past (opened_after p anonce []) (one_m1 p _ _) refl (opened_is p anonce h) refl (omega arith) (λ renews. counter_is) (session_opened d n p anonce (Some t) h at) in
    record {
      adds = sends ∙ ap (λ (c : ℕ). sent_m1 d n p c anonce ∷ []) (counter_is ∙ sym counts.next);
      stands = subst (λ (g : List Act). AuthenticatorStands d n p (record s { attempt = Some a; session = Some u }) (add g past)) (sym sends) (record {
        ends = stands.ends;
        attempt_is = subst (λ (x : Attempt). IsUnderWay d n p x (m1 ∷ past)) (sym w.value) begun_now;
        session_is = subst (λ (x : Session). IsHeld d n p x (m1 ∷ past)) (sym w.now) held_now;
      });
    })

-- ---- abandoned

pub abandons : (s : State) → AbandonsFrom s (abandoned s)
abandons s = λ d k sta h stands renews.
    (let n = Ap k in
    let p = Sta sta in
    let closed = Closed p OfAttempt in
    let gone = no_connect p (closed ∷ h) (attempt_ends p closed h refl (same-refl p)) in
    let none : abandoned_in (renews_in s.attempt) s.attempt ≡ None = ap (λ (b : Bool). abandoned_in b s.attempt) renews in
    record {
      ends = stands.ends;
      attempt_is = subst (λ (o : Option Attempt). HasAttempt d n p o (closed ∷ h)) (sym none) gone;
      session_is = session_on d n p s.session h (closed ∷ h) refl refl (λ t counts. counts_on p t closed h refl refl refl refl refl refl counts) stands.session_is;
    })

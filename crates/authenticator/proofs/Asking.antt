-- G1 to a session: once more, or as a group key was drawn.
use Rattle.std.proofs.Common.{◌≡◌, ◌<◌, ◌≤◌, ◌^◌, ℕ, suc, true, false, List, [], ◌∷◌, map, Option, Some, None, is_some, refl, sym, ap, subst, ◌∙◌, arith}
use Rattle.std.specs.Prelude.{leb}
use Rattle.std.proofs.lemmas.Bool.{lt-ltb, le-ltb, leb-true, leb-false}
use Rattle.domain_base.specs.declared.names.Node.{Node}
use Rattle.domain_base.specs.declared.names.Node.TheVariants.{Ap, Sta}
use Rattle.domain_base.specs.declared.names.Peer.TheVariants.{One}
use Rattle.eapol_key.specs.declared.messages.Message.TheVariants.{M1, M2, M3, G1}
use Rattle.run_journal.specs.declared.domain.Domain.{Domain}
use Rattle.run_journal.specs.declared.acts.Kind.TheVariants as kind
use Rattle.run_journal.specs.declared.acts.Part.TheVariants.{Session as OfSession}
use Rattle.run_journal.specs.declared.acts.Why.TheVariants as why
use Rattle.run_journal.specs.declared.acts.Seal.{Seal}
use Rattle.run_journal.specs.declared.acts.Act.{Act}
use Rattle.run_journal.specs.declared.acts.Act.TheVariants.{Closed, Sent, GaveUp, Idle}
use Rattle.run_journal.specs.declared.reply.Reply.{Reply}
use Rattle.run_journal.specs.declared.acts.GroupKind.TheVariants as groups
use Rattle.run_journal.specs.Acts.{Derivation, opens, ends, closes, finishes, sent, accepted, derived}
use Rattle.run_journal.specs.Questions.{attempt, session, before_sent, group_keys, handshake, add}
use Rattle.domain_rules.specs.Frames.{sent_g1}
use Rattle.authenticator.specs.Bases.{own_pair}
use Rattle.domain_rules.specs.Asking.{start_of, is_roam, replay_counter}
use Rattle.domain_rules.specs.Counters.{sent_count, next_in_session}
use Rattle.domain_rules.specs.GroupKeys.{News as CarriedNews}
use Rattle.domain_rules.specs.Owing.{owing}
use Rattle.domain_rules.specs.AccessPointRows.{g1_to, again_or_close, retry_session, retry_acts}
use Rattle.domain_rules.proofs.Parts.{same-refl, attempt_more, attempt_none, attempt_some, start_more, own_nonce_more, heard_more, sent_more, derivation_more, session_more, apart-idle, request_more}
use Rattle.domain_rules.proofs.Starts.{roam_no_four_way}
use Rattle.group_key.specs.declared.news.News.{News}
use Rattle.group_key.specs.Holds.{IsLast}
use Rattle.group_key.specs.News.{carried_news, IsNewest}
use Rattle.group_key.proofs.Newest.{news_is}
use Rattle.authenticator.specs.Counters.{listed}
use Rattle.authenticator.specs.Groups.{offers_for, sent_for, owes, SendsG1, Asks}
use Rattle.authenticator.specs.State.{State}
use Rattle.authenticator.specs.Stands.{IsAssociated, session_request, IsUnderWay, IsNoConnect, HasAttempt, CountsAt, IsHeld, AuthenticatorStands}
use Rattle.authenticator.specs.Taken.{Newest, RetriesFrom, GivesFrom}
use Rattle.authenticator.specs.declared.authenticator.Again.{Again}
use Rattle.authenticator.specs.declared.authenticator.Again.TheVariants as again
use Rattle.authenticator.specs.declared.attempt.Attempt.{Attempt}
use Rattle.authenticator.specs.declared.session.Session.{Session}
use Rattle.authenticator.proofs.Addresses.{own_address, peer_address}
use Rattle.authenticator.proofs.Counting.{count_is}
use Rattle.authenticator.proofs.Handshaking.{counts_newest, counts_asked, owing_none, owing_some, owing_no_session}
use Rattle.authenticator.proofs.Standing.{or_none, agreed_on, begun_as, beside_as, association_as, stands_more, no_connect, no_attempt, no_session, held}

-- ---- acts that leave an attempt, though they are about the peer

pub record IsQuiet (p : Node) (e : Act) : Type 0 where
  pub opens_none : opens p e ≡ false
  pub ends_none : ends p e ≡ false
  pub finishes_none : finishes p e ≡ false
  pub closes_none : closes p e ≡ false
  pub no_m1 : sent p (kind.Key M1) e ≡ None
  pub no_m3 : sent p (kind.Key M3) e ≡ None
  pub no_m2 : accepted p (kind.Key M2) e ≡ None
  pub no_request : accepted p kind.AssocReq e ≡ None
  pub derives_none : derived p e ≡ None

first_quiet : (p : Node) (e : Act) (h : List Act) → IsQuiet p e → before_sent p (kind.Key M3) (e ∷ h) ≡ before_sent p (kind.Key M3) h
first_quiet p e h quiet = rw (quiet.opens_none, quiet.no_m3) (or_none (before_sent p (kind.Key M3) h))

under_way_quiet : (d : Domain) (n p : Node) (a : Attempt) (e : Act) (h : List Act) → IsQuiet p e → IsUnderWay d n p a h → IsUnderWay d n p a (e ∷ h)
under_way_quiet d n p a e h quiet at = record {
  part = e ∷ at.part;
  is = attempt_more p e h at.part quiet.opens_none quiet.ends_none at.is;
  begun = begun_as a.renews at.part (e ∷ at.part) (start_more e at.part (attempt_some p h at.part at.is)) at.begun;
  beside = beside_as a.renews (session p h) (session p (e ∷ h)) (session_more p e h quiet.finishes_none quiet.closes_none) at.beside;
  nonce = own_nonce_more e at.part a.anonce at.nonce;
  m1_offers = ap (map replay_counter) (sent_more p (kind.Key M1) e at.part quiet.no_m1) ∙ at.m1_offers;
  m3_offers = ap (map replay_counter) (sent_more p (kind.Key M3) e at.part quiet.no_m3) ∙ at.m3_offers;
  answered = ap (λ (o : Option (List ℕ)). is_some o) (heard_more p (kind.Key M2) e at.part quiet.no_m2) ∙ at.answered;
  agreed = agreed_on (own_pair d n p) a.agreed a.m3s at.part (e ∷ at.part) h (e ∷ h) (derivation_more p e at.part quiet.derives_none) (first_quiet p e h quiet) at.agreed;
  associated = association_as d n p a.association _ _ (request_more p e h quiet.opens_none quiet.ends_none quiet.finishes_none) at.associated;
}

pub no_connect_more : (p : Node) (e : Act) (h : List Act) (o : Option (List Act)) → opens p e ≡ false → ends p e ≡ false → attempt p h ≡ o → IsNoConnect o → IsNoConnect (attempt p (e ∷ h))
no_connect_more p e h None opens_none ends_none is at = no_connect p (e ∷ h) (attempt_none p e h opens_none is)
no_connect_more p e h (Some part) opens_none ends_none is at =
    subst (λ (o : Option (List Act)). IsNoConnect o) (sym (attempt_more p e h part opens_none ends_none is)) (ap is_roam (start_more e part (attempt_some p h part is)) ∙ at)

pub attempt_quiet : (d : Domain) (n p : Node) (o : Option Attempt) (e : Act) (h : List Act) → IsQuiet p e → HasAttempt d n p o h → HasAttempt d n p o (e ∷ h)
attempt_quiet d n p None e h quiet at = no_connect_more p e h (attempt p h) quiet.opens_none quiet.ends_none refl at
attempt_quiet d n p (Some a) e h quiet at = under_way_quiet d n p a e h quiet at

quiet_g1 : (p : Node) (octets : List ℕ) (v : Option Seal) → IsQuiet p (Sent (One p) (kind.Key G1) octets v)
quiet_g1 p octets v = record { opens_none = refl; ends_none = refl; finishes_none = refl; closes_none = refl; no_m1 = rw (same-refl p) refl; no_m3 = rw (same-refl p) refl; no_m2 = refl; no_request = refl; derives_none = refl }

-- ---- G1 is sent

-- as the rows send it
pub g1_is : (d : Domain) (n p : Node) (x : Derivation) (g : News) (last : ℕ) (h : List Act) → IsNewest d g h → next_in_session p h ≡ suc last → g1_to d n p h x ≡ sent_g1 d n p x (suc last) (carried_news g)
g1_is d n p x g last h newest next =
    ap (λ (keys : CarriedNews). sent_g1 d n p x (next_in_session p h) keys) (news_is d g h newest) ∙ ap (λ (c : ℕ). sent_g1 d n p x c (carried_news g)) next

-- the authenticator goes on
pub stands_asked : (d : Domain) (a : ℕ) (p : Node) (s : State) (t u : Session) (g : News) (r : Reply) (x : Derivation) (h : List Act) → AuthenticatorStands d (Ap a) p s h → session p h ≡ Some x → x.ptk ≡ t.ptk → CountsAt p t g.gtk.place h → IsAssociated d (Ap a) p t.association (session_request p h) → sent_for g.gtk.place t < 4 → Asks s.ends g t u r
    → AuthenticatorStands d (Ap a) p (record s { session = Some u }) (sent_g1 d (Ap a) p x (suc t.last) (carried_news g) ∷ h)
stands_asked d a p s t u g r x h stands is key counts associated few w =
    let n = Ap a in
    let g1 = sent_g1 d n p x (suc t.last) (carried_news g) in
    let more = counts_asked d n p x g t h (own_address d n p s.ends stands.ends w.own) (peer_address d n p s.ends stands.ends w.peer) w.low few counts in
    record {
      ends = stands.ends;
      attempt_is = attempt_quiet d n p s.attempt g1 h (quiet_g1 p _ _) stands.attempt_is;
      session_is = subst (λ (z : Session). IsHeld d n p z (g1 ∷ h)) (sym w.now) (record { x = x; is = is; key = key; counts = record { place = g.gtk.place; here = more }; associated = associated });
    }

-- the replay counter is one
low_by : (d : Domain) (p : Node) (t : Session) (x : Derivation) (g : News) (h : List Act) → Newest d p g h → session p h ≡ Some x → next_in_session p h ≡ suc t.last → suc t.last < 2 ^ 64
low_by d p t x g h w is next = omega (arith, w.low x is, next)

-- where so few were sent
abbrev pub AsksIf : State → News → Session → Session → Reply → Type 0
AsksIf s g t u r = suc t.last < 2 ^ 64 → sent_for g.gtk.place t < 4 → Asks s.ends g t u r

-- ---- once more

close_few : (p : Node) (sends n : ℕ) (act : Act) → sends ≡ n → n < 4 → again_or_close p sends act ≡ act ∷ []
close_few p sends n act is few = rw (is, lt-ltb n 4 few) refl

close_many : (p : Node) (sends n : ℕ) (act : Act) → sends ≡ n → 4 ≤ n → again_or_close p sends act ≡ GaveUp p G1 ∷ Closed p OfSession ∷ []
close_many p sends n act is many = rw (is, le-ltb n 4 many) refl

pub no_retry : (d : Domain) (n p : Node) (h : List Act) (o : Option (List Act)) → IsNoConnect o → retry_acts d n h p o ≡ retry_session d n h p (owing groups.Gtk p h)
no_retry d n p h None at = refl
no_retry d n p h (Some part) at = rw (roam_no_four_way (start_of part) at) refl

retry_owed : (d : Domain) (n p : Node) (x : Derivation) (h : List Act) → IsNoConnect (attempt p h) → owing groups.Gtk p h ≡ Some x → retry_acts d n h p (attempt p h) ≡ again_or_close p (sent_count p G1 (handshake groups.Gtk p h)) (g1_to d n p h x)
retry_owed d n p x h none is = no_retry d n p h (attempt p h) none ∙ ap (retry_session d n h p) is

retry_idle : (d : Domain) (n p : Node) (h : List Act) → IsNoConnect (attempt p h) → owing groups.Gtk p h ≡ None → retry_acts d n h p (attempt p h) ≡ Idle why.Nothing ∷ []
retry_idle d n p h none is = no_retry d n p h (attempt p h) none ∙ ap (retry_session d n h p) is

pub retries_asked : (s : State) (t u : Session) (g : News) (r : Reply) → s.attempt ≡ None → s.session ≡ Some t → owes g.gtk.place t ≡ true → leb 4 (sent_for g.gtk.place t) ≡ false → AsksIf s g t u r
    → RetriesFrom s (record s { session = Some u }) g again.Sent r
retries_asked s t u g r none some owed few asks = λ d a sta h stands w.
    (let n = Ap a in
    let p = Sta sta in
    let at = held d n p s.session t h some stands.session_is in
    let x = at.x in
    let counts = counts_newest p t g.gtk h w.newest.last at.counts in
    let less : sent_for g.gtk.place t < 4 = leb-false 4 (sent_for g.gtk.place t) few in
    let asked_by = asks (low_by d p t x g h w at.is counts.next) less in
    let sends = asked_by.sends d n p x stands.ends (sym at.key) in
    record {
      adds = retry_owed d n p x h (no_attempt d n p s.attempt h none stands.attempt_is) (owing_some p t g.gtk.place x h counts owed at.is)
          ∙ close_few p (sent_count p G1 (handshake groups.Gtk p h)) (sent_for g.gtk.place t) (g1_to d n p h x) (count_is p G1 (handshake groups.Gtk p h) (listed (offers_for g.gtk.place t)) counts.offers) less
          ∙ ap (λ (e : Act). e ∷ []) (g1_is d n p x g t.last h w.newest counts.next) ∙ sym sends;
      stands = subst (λ (acts : List Act). AuthenticatorStands d n p (record s { session = Some u }) (add acts h)) (sym sends) (stands_asked d a p s t u g r x h stands at.is at.key counts at.associated less asked_by);
    })

closed_session : (p : Node) (h : List Act) → session p (Closed p OfSession ∷ GaveUp p G1 ∷ h) ≡ None
closed_session p h = rw (same-refl p) refl

-- ---- the session is given up

pub retries_session_given_up : (s : State) (t : Session) (g : News) (r : Reply) → s.attempt ≡ None → s.session ≡ Some t → owes g.gtk.place t ≡ true → leb 4 (sent_for g.gtk.place t) ≡ true
    → RetriesFrom s (record s { session = None }) g (again.GaveUp G1) r
retries_session_given_up s t g r none some owed many = λ d a sta h stands w.
    (let n = Ap a in
    let p = Sta sta in
    let at = held d n p s.session t h some stands.session_is in
    let x = at.x in
    let counts = counts_newest p t g.gtk h w.newest.last at.counts in
    let unbegun = no_attempt d n p s.attempt h none stands.attempt_is in
    let given_up : IsNoConnect (attempt p (GaveUp p G1 ∷ h)) = no_connect_more p (GaveUp p G1) h (attempt p h) refl refl refl unbegun in
    let gone : IsNoConnect (attempt p (Closed p OfSession ∷ GaveUp p G1 ∷ h)) = no_connect_more p (Closed p OfSession) (GaveUp p G1 ∷ h) (attempt p (GaveUp p G1 ∷ h)) refl refl refl given_up in
    record {
      adds = retry_owed d n p x h unbegun (owing_some p t g.gtk.place x h counts owed at.is)
          ∙ close_many p (sent_count p G1 (handshake groups.Gtk p h)) (sent_for g.gtk.place t) (g1_to d n p h x) (count_is p G1 (handshake groups.Gtk p h) (listed (offers_for g.gtk.place t)) counts.offers) (leb-true 4 (sent_for g.gtk.place t) many);
      stands = record {
        ends = stands.ends;
        attempt_is = subst (λ (o : Option Attempt). HasAttempt d n p o (Closed p OfSession ∷ GaveUp p G1 ∷ h)) (sym none) gone;
        session_is = closed_session p h;
      };
    })

-- ---- nothing to send

idle_by : (s : State) (g : News) (r : Reply) → s.attempt ≡ None → ((d : Domain) (n p : Node) (h : List Act) → AuthenticatorStands d n p s h → IsLast groups.Gtk g.gtk (group_keys groups.Gtk h) → owing groups.Gtk p h ≡ None)
    → RetriesFrom s s g again.Nothing r
idle_by s g r none unowed = λ d a sta h stands w. record {
  adds = retry_idle d (Ap a) (Sta sta) h (no_attempt d (Ap a) (Sta sta) s.attempt h none stands.attempt_is) (unowed d (Ap a) (Sta sta) h stands w.newest.last);
  stands = stands_more d (Ap a) (Sta sta) s (Idle why.Nothing) h (apart-idle (Sta sta) why.Nothing) stands;
}

pub retries_no_session : (s : State) (g : News) (r : Reply) → s.attempt ≡ None → s.session ≡ None → RetriesFrom s s g again.Nothing r
retries_no_session s g r none empty = idle_by s g r none (λ d n p h stands last. owing_no_session p h (no_session d n p s.session h empty stands.session_is))

pub retries_unowed : (s : State) (t : Session) (g : News) (r : Reply) → s.attempt ≡ None → s.session ≡ Some t → owes g.gtk.place t ≡ false → RetriesFrom s s g again.Nothing r
retries_unowed s t g r none some unowed =
    idle_by s g r none (λ d n p h stands last. owing_none p t g.gtk.place h (counts_newest p t g.gtk h last (held d n p s.session t h some stands.session_is).counts) unowed)

-- ---- a group key was drawn

pub gives_asked : (s : State) (t u : Session) (g : News) (r : Reply) → s.session ≡ Some t → (suc t.last < 2 ^ 64 → SendsG1 s.ends t.ptk (suc t.last) g r) → AsksIf s g t u r → GivesFrom s (record s { session = Some u }) g r
gives_asked s t u g r some sends_if asks = λ d a sta h stands w.
    (let n = Ap a in
    let p = Sta sta in
    let at = held d n p s.session t h some stands.session_is in
    let x = at.x in
    let counts = counts_newest p t g.gtk h w.newest.last at.counts in
    let low = low_by d p t x g h w at.is counts.next in
    let sends = sends_if low d n p x stands.ends (sym at.key) in
    let is_few : sent_count p G1 (handshake groups.Gtk p h) < 4 → sent_for g.gtk.place t < 4 = λ few. subst (λ (n : ℕ). n < 4) (count_is p G1 (handshake groups.Gtk p h) (listed (offers_for g.gtk.place t)) counts.offers) few in
    record {
      x = x;
      has = at.is;
      adds = ap (λ (e : Act). e ∷ []) (g1_is d n p x g t.last h w.newest counts.next) ∙ sym sends;
      stands = λ few. subst (λ (acts : List Act). AuthenticatorStands d n p (record s { session = Some u }) (add acts h)) (sym sends) (stands_asked d a p s t u g r x h stands at.is at.key counts at.associated (is_few few) (asks low (is_few few)));
    })

-- by another name of what the authenticator is then
pub retries_to : (old s t : State) (g : News) (came : Again) (r : Reply) → s ≡ t → RetriesFrom old s g came r → RetriesFrom old t g came r
retries_to old s t g came r is retries = subst (λ (z : State). RetriesFrom old z g came r) is retries

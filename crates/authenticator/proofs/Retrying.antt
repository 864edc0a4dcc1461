-- What an attempt sends once more, and that it is given up.
use Rattle.std.proofs.Common.{◌≡◌, ◌<◌, ◌≤◌, ◌+◌, ◌^◌, ℕ, suc, Bool, true, false, cond, List, [], ◌∷◌, Option, Some, None, refl, sym, ap, subst, ◌∙◌, arith, inl, inr}
use Rattle.std.specs.Prelude.{is_some, unwrap_or, if◌then◌else◌}
use Rattle.std.proofs.lemmas.Bool.{lt-ltb, le-ltb}
use Rattle.domain_base.specs.declared.names.Node.{Node}
use Rattle.domain_base.specs.declared.names.Node.TheVariants.{Ap, Sta}
use Rattle.domain_base.specs.declared.names.Peer.TheVariants.{One}
use Rattle.eapol_key.specs.KeyData.{padded}
use Rattle.eapol_key.specs.declared.messages.Message.{Message}
use Rattle.eapol_key.specs.declared.messages.Message.TheVariants.{M1, M2, M3}
use Rattle.eapol_key.specs.Octets.{frame_octets}
use Rattle.eapol_key.specs.Sent.{sent_fields}
use Rattle.run_journal.specs.declared.domain.Domain.{Domain}
use Rattle.run_journal.specs.declared.acts.Kind.TheVariants as kind
use Rattle.run_journal.specs.declared.acts.Part.{Part}
use Rattle.run_journal.specs.declared.acts.Part.TheVariants.{Attempt as OfAttempt}
use Rattle.run_journal.specs.declared.acts.Seal.{Seal}
use Rattle.run_journal.specs.declared.acts.Act.{Act}
use Rattle.run_journal.specs.declared.acts.Act.TheVariants.{Closed, Sent, GaveUp}
use Rattle.run_journal.specs.declared.reply.Reply.{Reply}
use Rattle.run_journal.specs.Acts.{Derivation}
use Rattle.run_journal.specs.Questions.{attempt, derivation, before_sent, add}
use Rattle.group_key.specs.declared.news.News.{News}
use Rattle.group_key.specs.News.{carried_news, IsNewest}
use Rattle.group_key.proofs.Newest.{news_is}
use Rattle.node_base.specs.declared.ends.Ends.{Ends}
use Rattle.node_base.specs.Ends.{AreEnds}
use Rattle.domain_rules.specs.Frames.{frame_seal, in_data, m3_frame, m3_key_data, sent_m1, sent_m3}
use Rattle.authenticator.specs.Bases.{home, own_pair}
use Rattle.domain_rules.specs.Replies.{pair, key_by}
use Rattle.domain_rules.specs.Asking.{own, is_four_way, is_by_renewal, has_heard, offered, replay_counter}
use Rattle.domain_rules.specs.Counters.{sent_count, next_counter}
use Rattle.domain_rules.specs.GroupKeys.{News as CarriedNews, news}
use Rattle.domain_rules.specs.AccessPointRows.{again_or_give_up, m3_again, retry_acts}
use Rattle.domain_rules.proofs.Parts.{same-refl, same_kind-refl, attempt_more, attempt_ends, attempt_some, start_more, own_nonce_more, request_more}
use Rattle.authenticator.specs.Agreed.{Agreed}
use Rattle.authenticator.specs.Counters.{listed, added, count, last_for, moved}
use Rattle.authenticator.specs.State.{State}
use Rattle.authenticator.specs.Stands.{IsAgreed, IsUnderWay, Counts, HasSession, AuthenticatorStands}
use Rattle.authenticator.specs.Steps.{Retries, part_of, again_acts}
use Rattle.authenticator.specs.Judged.{sent_m1_again, sent_m3_again, carried_by, remade, IsM1Again, IsM3Again, IsAgain, IsInVain}
use Rattle.authenticator.specs.Taken.{HasCounters, Newest, RetriesFrom}
use Rattle.authenticator.specs.declared.authenticator.Again.TheVariants as again
use Rattle.authenticator.specs.declared.attempt.Attempt.{Attempt}
use Rattle.authenticator.specs.declared.counters.Offers.{Offers}
use Rattle.authenticator.specs.declared.session.Session.{Session}
use Rattle.authenticator.proofs.Addresses.{own_address, peer_address}
use Rattle.authenticator.proofs.Counting.{count_is, few, listed_added, replay_plain}
use Rattle.authenticator.proofs.Handshaking.{counts_on, one_m1, one_m3}
use Rattle.authenticator.proofs.Standing.{agreed_on, begun_as, renewal_by, four_way_by, association_as, session_on, session_moved, no_connect}
use Rattle.authenticator.proofs.Agreeing.{m3_counter, few_sent, last_shared, next_of, none_sent, some_sent, data_is, cons_is}
use Rattle.authenticator.proofs.Verified.{IsOn, on_by}

-- ---- what is to be sent

retry_in : (d : Domain) (n p : Node) (h part : List Act) (heard : Bool) → attempt p h ≡ Some part → is_four_way part ≡ true → has_heard p (kind.Key M2) part ≡ heard
    → retry_acts d n h p (attempt p h)
    ≡ (if heard then again_or_give_up p M3 (sent_count p M3 part) (m3_again d n h p part (derivation p part) (before_sent p (kind.Key M3) h))
    else again_or_give_up p M1 (sent_count p M1 part) (sent_m1 d n p (next_counter p h part) (own part)))
retry_in d n p h part heard is begun has = rw (is, begun, has) refl

again_few : (p : Node) (m : Message) (sends n : ℕ) (act : Act) → sends ≡ n → n < 4 → again_or_give_up p m sends act ≡ act ∷ []
again_few p m sends n act is few = rw (is, lt-ltb n 4 few) refl

again_many : (p : Node) (m : Message) (sends n : ℕ) (act : Act) → sends ≡ n → 4 ≤ n → again_or_give_up p m sends act ≡ GaveUp p m ∷ Closed p OfAttempt ∷ []
again_many p m sends n act is many = rw (is, le-ltb n 4 many) refl

retry_m1 : (d : Domain) (n p : Node) (h : List Act) (a : Attempt) (counter : ℕ) (at : IsUnderWay d n p a h) → a.agreed ≡ None → next_counter p h at.part ≡ counter
    → retry_acts d n h p (attempt p h) ≡ again_or_give_up p M1 (sent_count p M1 at.part) (sent_m1 d n p counter a.anonce)
retry_m1 d n p h a counter at none next =
    retry_in d n p h at.part false at.is (four_way_by a.renews at.part at.begun) (at.answered ∙ ap (λ (o : Option Agreed). is_some o) none)
    ∙ says next (ap (λ (o : Option (List ℕ)). unwrap_or o []) at.nonce)
  where
    says : {next counter : ℕ} {v w : List ℕ} → next ≡ counter → v ≡ w → again_or_give_up p M1 (sent_count p M1 at.part) (sent_m1 d n p next v) ≡ again_or_give_up p M1 (sent_count p M1 at.part) (sent_m1 d n p counter w)
    says e f = rw (e, f) refl

-- what M3 carries as it is sent again, under that key
record Carries (d : Domain) (n : Node) (h part past : List Act) (x : Derivation) (z : Agreed) : Type 0 where
  ptk_is : z.key.ptk ≡ x.ptk
  nonce : x.inputs.anonce ≡ z.key.anonce
  data_ : padded z.plain ≡ m3_key_data d n x (carried_news z.news)
  news_are : news d (cond (is_by_renewal part) h past) ≡ carried_news z.news

carries : (d : Domain) (a : ℕ) (p : Node) (l : Ends) (t : Attempt) (y : Agreed) (g : News) (h part past : List Act) (b : Bool) → is_by_renewal part ≡ b → AreEnds d (Ap a) p l → IsUnderWay d (Ap a) p t h
    → padded y.plain ≡ m3_key_data d (Ap a) (key_by d (home d (Ap a) p) (Ap a) p y.key) (carried_news y.news) → IsNewest d y.news past → IsNewest d g h
    → Carries d (Ap a) h part past (key_by d (home d (Ap a) p) (Ap a) p y.key) (carried_by b y (remade l t y g))
carries d a p l t y g h part past false plain ends at data_ first now = record {
  ptk_is = refl;
  nonce = refl;
  data_ = data_;
  news_are = ap (λ (c : Bool). news d (cond c h past)) plain ∙ news_is d y.news past first;
}
carries d a p l t y g h part past true renews ends at data_ first now = record {
  ptk_is = refl;
  nonce = refl;
  data_ = data_is d a p l y.key t g h ends at;
  news_are = ap (λ (c : Bool). news d (cond c h past)) renews ∙ news_is d g h now;
}

retry_m3 : (d : Domain) (n p : Node) (h : List Act) (a : Attempt) (y z : Agreed) (counter : ℕ) (at : IsUnderWay d n p a h) → a.agreed ≡ Some y → (has : IsAgreed (own_pair d n p) (Some y) a.m3s at.part h) → next_counter p h at.part ≡ counter → Carries d n h at.part has.1.past (key_by d (home d n p) n p y.key) z
    → retry_acts d n h p (attempt p h) ≡ again_or_give_up p M3 (sent_count p M3 at.part) (sent_m3 d n p (key_by d (home d n p) n p y.key) counter (carried_news z.news))
retry_m3 d n p h a y z counter at is has next w =
    retry_in d n p h at.part true at.is (four_way_by a.renews at.part at.begun) (at.answered ∙ ap (λ (o : Option Agreed). is_some o) is)
    ∙ says at.part (sent_count p M3 at.part) (derivation p at.part) (before_sent p (kind.Key M3) h) has.1.past (carried_news z.news) has.0 has.1.is next w.news_are
  where
    says : (part : List Act) (sends : ℕ) (o : Option Derivation) (b : Option (List Act)) (past : List Act) (keys : CarriedNews) → o ≡ Some (key_by d (home d n p) n p y.key) → b ≡ Some past → next_counter p h part ≡ counter → news d (cond (is_by_renewal part) h past) ≡ keys
        → again_or_give_up p M3 sends (m3_again d n h p part o b) ≡ again_or_give_up p M3 sends (sent_m3 d n p (key_by d (home d n p) n p y.key) counter keys)
    says part sends o b past keys derives first next are =
        rw (derives, first, next) (ap (λ (k : CarriedNews). again_or_give_up p M3 sends (sent_m3 d n p (key_by d (home d n p) n p y.key) counter k)) are)

-- ---- how the attempt goes on

-- one more was sent of a message
offers_more : (p : Node) (m : Message) (octets : List ℕ) (v : Option Seal) (part : List Act) (counter : ℕ) (o : Offers) → count o < 4 → replay_counter octets ≡ counter → offered p m part ≡ listed o → offered p m (Sent (One p) (kind.Key m) octets v ∷ part) ≡ listed (added counter o)
offers_more p m octets v part counter o less is at = rw (same-refl p, same_kind-refl (kind.Key m)) (cons_is is at) ∙ sym (listed_added counter o less)

sent_one : (d : Domain) (n p : Node) (h : List Act) (a : Attempt) (counter : ℕ) (octets : List ℕ) → IsUnderWay d n p a h → a.agreed ≡ None → count a.m1s < 4 → replay_counter octets ≡ counter
    → IsUnderWay d n p (sent_m1_again counter a) (Sent (One p) (kind.Key M1) octets None ∷ h)
sent_one d n p h a counter octets at none less is =
    let w = none_sent (own_pair d n p) a.agreed a.m3s at.part h none at.agreed in
    let m1 = Sent (One p) (kind.Key M1) octets None in
    record {
      part = m1 ∷ at.part;
      is = attempt_more p m1 h at.part refl refl at.is;
      begun = begun_as a.renews at.part (m1 ∷ at.part) (start_more m1 at.part (attempt_some p h at.part at.is)) at.begun;
      beside = at.beside;
      nonce = own_nonce_more m1 at.part a.anonce at.nonce;
      m1_offers = offers_more p M1 octets None at.part counter a.m1s less is at.m1_offers;
      m3_offers = rw (same-refl p) at.m3_offers;
      answered = at.answered;
      agreed = agreed_on (own_pair d n p) a.agreed a.m3s at.part (m1 ∷ at.part) h (m1 ∷ h) refl (rw (same-refl p, w.1) refl) at.agreed;
      associated = association_as d n p a.association _ _ (request_more p m1 h refl refl refl) at.associated;
    }

first_again : (p : Node) (h past : List Act) (octets : List ℕ) (s : Option Seal) → before_sent p (kind.Key M3) h ≡ Some past → before_sent p (kind.Key M3) (Sent (One p) (kind.Key M3) octets s ∷ h) ≡ Some past
first_again p h past octets s is = rw is refl

sent_three : (d : Domain) (n p : Node) (h : List Act) (a : Attempt) (y : Agreed) (counter : ℕ) (octets : List ℕ) (s : Option Seal) (at : IsUnderWay d n p a h) → a.agreed ≡ Some y → IsAgreed (own_pair d n p) (Some y) a.m3s at.part h → count a.m3s < 4 → replay_counter octets ≡ counter
    → IsUnderWay d n p (sent_m3_again counter a) (Sent (One p) (kind.Key M3) octets s ∷ h)
sent_three d n p h a y counter octets s at some has less is =
    let m3 = Sent (One p) (kind.Key M3) octets s in
    record {
      part = m3 ∷ at.part;
      is = attempt_more p m3 h at.part refl refl at.is;
      begun = begun_as a.renews at.part (m3 ∷ at.part) (start_more m3 at.part (attempt_some p h at.part at.is)) at.begun;
      beside = at.beside;
      nonce = own_nonce_more m3 at.part a.anonce at.nonce;
      m1_offers = rw (same-refl p) at.m1_offers;
      m3_offers = offers_more p M3 octets s at.part counter a.m3s less is at.m3_offers;
      answered = at.answered;
      agreed = subst (λ (o : Option Agreed). IsAgreed (own_pair d n p) o (added counter a.m3s) (m3 ∷ at.part) (m3 ∷ h)) (sym some)
          (has.0, record { past = has.1.past; is = first_again p h has.1.past octets s has.1.is; newest = has.1.newest }, has.2);
      associated = association_as d n p a.association _ _ (request_more p m3 h refl refl refl) at.associated;
    }

-- ---- sent once more

-- after these acts the attempt goes on, and the session
abbrev Goes : Domain → ℕ → Node → State → Attempt → Option Session → Reply → List Act → Type 0
Goes d a p s b u r h = Retries (pair d (Ap a) p) (again_acts p again.Sent r) (record s { attempt = Some b; session = u }) h

few_first : (a b : ℕ) → a < 4 → b ≡ 0 → a + b ≤ 7
few_first a b less none = omega (arith, less, none)

few_later : (a b : ℕ) → a ≤ 4 → b < 4 → a + b ≤ 7
few_later a b is less = omega (arith, is, less)

retries_m1 : (d : Domain) (a : ℕ) (p : Node) (s : State) (t b : Attempt) (counter : ℕ) (r : Reply) (h : List Act) → AuthenticatorStands d (Ap a) p s h → IsOn d a p s t h → HasCounters p h → (suc (last_for t s.session) < 2 ^ 64 → counter ≡ suc (last_for t s.session)) → IsM1Again s.ends counter t b r
    → Goes d a p s b (moved t.renews counter s.session) r h
retries_m1 d a p s t b counter r h stands on counters counter_by w =
    let n = Ap a in
    let at = on.trial in
    let next = next_of d n p t s.session h at stands.session_is counters in
    let counter_is = counter_by next.low in
    let low : counter < 2 ^ 64 = subst (λ (c : ℕ). c < 2 ^ 64) (sym counter_is) next.low in
    let sends = w.sends d n p on.ends in
    let octets = in_data d n p (frame_octets (sent_fields M1 d.akm counter t.anonce 0 [])) in
    let m1 = sent_m1 d n p counter t.anonce in
    let goes = sent_one d n p h t counter octets at w.none w.few (replay_plain d n p (sent_fields M1 d.akm counter t.anonce 0 []) (own_address d n p s.ends on.ends w.whole.own) (peer_address d n p s.ends on.ends w.whole.peer) low) in
    let unsent = none_sent (own_pair d n p) t.agreed t.m3s at.part h w.none at.agreed in
    let session_now = session_moved d n p t.renews counter s.session m1 h at.part (one_m1 p octets None) refl at.is (renewal_by t.renews at.part at.begun)
    (few_sent d n p t h at (few_first (count t.m1s) (count t.m3s) w.few (ap count unsent.0))) (λ renews. counter_is ∙ ap suc (last_shared t s.session renews)) stands.session_is in
    record {
      adds = retry_m1 d n p h t counter at w.none (next.next ∙ sym counter_is) ∙ again_few p M1 (sent_count p M1 at.part) (count t.m1s) m1 (count_is p M1 at.part (listed t.m1s) at.m1_offers) w.few ∙ sym sends;
      stands = record {
        ends = on.ends;
        attempt_is = subst (λ (g : List Act). IsUnderWay d n p b (add g h)) (sym sends) (subst (λ (x : Attempt). IsUnderWay d n p x (m1 ∷ h)) (sym w.now) goes);
        session_is = subst (λ (g : List Act). HasSession d n p (moved t.renews counter s.session) (add g h)) (sym sends) session_now;
      };
    }

retries_m3 : (d : Domain) (a : ℕ) (p : Node) (s : State) (t b : Attempt) (g : News) (counter : ℕ) (r : Reply) (h : List Act) → AuthenticatorStands d (Ap a) p s h → IsOn d a p s t h → Newest d p g h → (suc (last_for t s.session) < 2 ^ 64 → counter ≡ suc (last_for t s.session)) → IsM3Again s.ends g counter t b r
    → Goes d a p s b (moved t.renews counter s.session) r h
retries_m3 d a p s t b g counter r h stands on new counter_by w =
    let n = Ap a in
    let at = on.trial in
    let y = w.y in
    let z = carried_by t.renews y (remade s.ends t y g) in
    let x = key_by d (home d n p) n p y.key in
    let next = next_of d n p t s.session h at stands.session_is new.low in
    let counter_is = counter_by next.low in
    let low : counter < 2 ^ 64 = subst (λ (c : ℕ). c < 2 ^ 64) (sym counter_is) next.low in
    let has = some_sent (own_pair d n p) t.agreed y t.m3s at.part h w.some at.agreed in
    let carry = carries d a p s.ends t y g h at.part has.1.past t.renews (renewal_by t.renews at.part at.begun) on.ends at has.2 has.1.newest new.newest in
    let sends = w.sends d n p x on.ends carry.ptk_is carry.nonce carry.data_ in
    let frame = m3_frame d n x counter (carried_news z.news) in
    let octets = in_data d n p frame in
    let seal = Some (frame_seal x.ptk.kck frame) in
    let m3 = sent_m3 d n p x counter (carried_news z.news) in
    let goes = sent_three d n p h t y counter octets seal at w.some has w.few
    (m3_counter d n p x counter (carried_news z.news) (own_address d n p s.ends on.ends w.whole.own) (peer_address d n p s.ends on.ends w.whole.peer) low) in
    let session_now = session_moved d n p t.renews counter s.session m3 h at.part (one_m3 p octets seal) refl at.is (renewal_by t.renews at.part at.begun)
    (few_sent d n p t h at (few_later (count t.m1s) (count t.m3s) (few t.m1s) w.few)) (λ renews. counter_is ∙ ap suc (last_shared t s.session renews)) stands.session_is in
    record {
      adds = retry_m3 d n p h t y z counter at w.some has (next.next ∙ sym counter_is) carry
          ∙ again_few p M3 (sent_count p M3 at.part) (count t.m3s) m3 (count_is p M3 at.part (listed t.m3s) at.m3_offers) w.few ∙ sym sends;
      stands = record {
        ends = on.ends;
        attempt_is = subst (λ (l : List Act). IsUnderWay d n p b (add l h)) (sym sends) (subst (λ (v : Attempt). IsUnderWay d n p v (m3 ∷ h)) (sym w.now) goes);
        session_is = subst (λ (l : List Act). HasSession d n p (moved t.renews counter s.session) (add l h)) (sym sends) session_now;
      };
    }

retries_by : (d : Domain) (a : ℕ) (p : Node) (s : State) (t b : Attempt) (g : News) (counter : ℕ) (r : Reply) (h : List Act) → AuthenticatorStands d (Ap a) p s h → IsOn d a p s t h → Newest d p g h → (suc (last_for t s.session) < 2 ^ 64 → counter ≡ suc (last_for t s.session)) → IsAgain s.ends g counter t b r
    → Goes d a p s b (moved t.renews counter s.session) r h
retries_by d a p s t b g counter r h stands on new next (inl w) = retries_m1 d a p s t b counter r h stands on new.low next w
retries_by d a p s t b g counter r h stands on new next (inr w) = retries_m3 d a p s t b g counter r h stands on new next w

pub retries_sent : (s : State) (t b : Attempt) (g : News) (counter : ℕ) (r : Reply) → s.attempt ≡ Some t → (suc (last_for t s.session) < 2 ^ 64 → counter ≡ suc (last_for t s.session)) → IsAgain s.ends g counter t b r
    → RetriesFrom s (record s { attempt = Some b; session = moved t.renews counter s.session }) g again.Sent r
retries_sent s t b g counter r is next by = λ d a sta h stands w. retries_by d a (Sta sta) s t b g counter r h stands (on_by d a (Sta sta) s t h is stands) w next by

-- ---- given up

given_acts : (d : Domain) (n p : Node) (h : List Act) (t : Attempt) (m : Message) → IsUnderWay d n p t h → IsInVain t m → retry_acts d n h p (attempt p h) ≡ GaveUp p m ∷ Closed p OfAttempt ∷ []
given_acts d n p h t M1 at w =
    retry_in d n p h at.part false at.is (four_way_by t.renews at.part at.begun) (at.answered ∙ ap (λ (o : Option Agreed). is_some o) w.0)
    ∙ again_many p M1 (sent_count p M1 at.part) (count t.m1s) (sent_m1 d n p (next_counter p h at.part) (own at.part)) (count_is p M1 at.part (listed t.m1s) at.m1_offers) w.1
given_acts d n p h t M3 at w =
    retry_in d n p h at.part true at.is (four_way_by t.renews at.part at.begun) (at.answered ∙ w.0)
    ∙ again_many p M3 (sent_count p M3 at.part) (count t.m3s) (m3_again d n h p at.part (derivation p at.part) (before_sent p (kind.Key M3) h)) (count_is p M3 at.part (listed t.m3s) at.m3_offers) w.1
given_acts d n p h t m at w = absurd w

given_none : (sta : ℕ) (m : Message) (h : List Act) → attempt (Sta sta) (Closed (Sta sta) OfAttempt ∷ GaveUp (Sta sta) m ∷ h) ≡ None
given_none sta m h = attempt_ends (Sta sta) (Closed (Sta sta) OfAttempt) (GaveUp (Sta sta) m ∷ h) refl (same-refl (Sta sta))

-- and what is given up is an attempt
given_part : (t : Attempt) (m : Message) → IsInVain t m → part_of m ≡ OfAttempt
given_part t M1 w = refl
given_part t M3 w = refl
given_part t m w = absurd w

counts_given : (p : Node) (m : Message) (h : List Act) (s : Session) → Counts p s h → Counts p s (Closed p OfAttempt ∷ GaveUp p m ∷ h)
counts_given p m h s at = counts_on p s (Closed p OfAttempt) (GaveUp p m ∷ h) refl refl refl refl refl refl (counts_on p s (GaveUp p m) h refl refl refl refl refl refl at)

pub retries_given_up : (s : State) (t : Attempt) (m : Message) (g : News) (r : Reply) → s.attempt ≡ Some t → IsInVain t m → RetriesFrom s (record s { attempt = None }) g (again.GaveUp m) r
retries_given_up s t m g r is by = λ d a sta h stands w.
    (let p = Sta sta in
    let on = on_by d a p s t h is stands in
    subst (λ (q : Part). Retries (pair d (Ap a) p) (GaveUp p m ∷ Closed p q ∷ []) (record s { attempt = None }) h) (sym (given_part t m by))
    (record {
      adds = given_acts d (Ap a) p h t m on.trial by;
      stands = record {
        ends = on.ends;
        attempt_is = no_connect p (Closed p OfAttempt ∷ GaveUp p m ∷ h) (given_none sta m h);
        session_is = session_on d (Ap a) p s.session h (Closed p OfAttempt ∷ GaveUp p m ∷ h) refl refl (counts_given p m h) stands.session_is;
      };
    }))

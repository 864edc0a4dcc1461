-- How the attempt goes on as M2 is accepted and M3 is sent.
use Rattle.std.proofs.Common.{◌≡◌, ℕ, suc, ◌+◌, ◌<◌, ◌≤◌, ◌^◌, Bool, true, false, true≢false, cond, List, [], ◌∷◌, Option, Some, None, is_some, refl, sym, ap, subst, ◌∙◌, arith}
use Rattle.std.specs.Prelude.{◌-◌}
use Rattle.domain_base.specs.declared.names.Akm.{Akm}
use Rattle.domain_base.specs.declared.names.Node.{Node}
use Rattle.domain_base.specs.declared.names.Node.TheVariants.{Ap}
use Rattle.rsn_elements.specs.Sent.{fte_octets}
use Rattle.air_frame.specs.Sent.{IsAddress}
use Rattle.eapol_key.specs.declared.messages.Message.TheVariants.{M1, M2, M3}
use Rattle.eapol_key.specs.Sent.{sent_fields}
use Rattle.run_journal.specs.declared.domain.Domain.{Domain}
use Rattle.run_journal.specs.declared.acts.Kind.TheVariants as kind
use Rattle.run_journal.specs.declared.acts.Outcome.TheVariants.{Accepted}
use Rattle.run_journal.specs.declared.acts.Seal.{Seal}
use Rattle.run_journal.specs.declared.reply.Keyed.{Keyed}
use Rattle.run_journal.specs.declared.acts.Act.{Act}
use Rattle.run_journal.specs.declared.acts.Act.TheVariants.{Took, Derived}
use Rattle.run_journal.specs.Questions.{session, before_sent}
use Rattle.domain_rules.specs.Network.{address, inputs}
use Rattle.domain_rules.specs.FastTransition.{assoc_fte}
use Rattle.frame_making.specs.Mobile.{Mobility}
use Rattle.frame_making.specs.KeyData.{m3_data, IsMobility}
use Rattle.frame_making.proofs.MobileData.{m3_data_is}
use Rattle.domain_rules.specs.Frames.{in_data, m3_frame, m3_key_data, wrapped, sent_m3}
use Rattle.domain_rules.specs.Asking.{replay_counter}
use Rattle.domain_rules.specs.Counters.{sent_count, next_in_attempt, next_in_session, next_counter}
use Rattle.domain_rules.specs.GroupKeys.{igtk_news, News as CarriedNews}
use Rattle.domain_rules.specs.Replies.{Pair, inputs_by, key_by}
use Rattle.eapol_key.specs.KeyData.{padded}
use Rattle.authenticator.specs.Bases.{home, own_pair}
use Rattle.domain_rules.proofs.Parts.{same-refl, attempt_more, attempt_some, start_more, own_nonce_more, request_more}
use Rattle.run_journal.specs.Events.{protects}
use Rattle.run_journal.specs.Acts.{Derivation}
use Rattle.key_hierarchy.specs.declared.inputs.Ptk.{Ptk}
use Rattle.key_hierarchy.specs.declared.inputs.Inputs.{Inputs}
use Rattle.node_base.specs.declared.ends.Ends.{Ends}
use Rattle.node_base.specs.Ends.{AreEnds}
use Rattle.group_key.specs.declared.news.News.{News}
use Rattle.group_key.specs.News.{carried_news, IsNewest}
use Rattle.group_key.proofs.Newest.{newest_as}
use Rattle.authenticator.specs.Agreed.{Agreed}
use Rattle.authenticator.specs.Counters.{listed, count, last_in, last_for}
use Rattle.authenticator.specs.Stands.{IsAgreed, IsBeside, IsUnderWay, HasSession}
use Rattle.authenticator.specs.Judged.{answered}
use Rattle.authenticator.specs.Taken.{HasCounters}
use Rattle.authenticator.specs.declared.attempt.Attempt.{Attempt}
use Rattle.authenticator.specs.declared.counters.Offers.{Offers}
use Rattle.authenticator.specs.declared.counters.Offers.TheVariants.{Zero}
use Rattle.authenticator.specs.declared.session.Session.{Session}
use Rattle.authenticator.proofs.Counting.{count_is, few, replay_sealed}
use Rattle.authenticator.proofs.Standing.{begun_as, renewal_by, association_as}

-- the counter of M3
pub m3_counter : (d : Domain) (n p : Node) (x : Derivation) (counter : ℕ) (keys : CarriedNews) → IsAddress (address d n) → IsAddress (address d p) → counter < 2 ^ 64
    → replay_counter (in_data d n p (m3_frame d n x counter keys)) ≡ counter
m3_counter d n p x counter keys l m low = replay_sealed d n p d.akm x.ptk.kck (sent_fields M3 d.akm counter x.inputs.anonce keys.rsc (wrapped x.ptk.kek (m3_key_data d n x keys))) l m low

-- how many M1 and M3 were sent in it
pub sends_are : (d : Domain) (n p : Node) (a : Attempt) (h : List Act) (at : IsUnderWay d n p a h) → sent_count p M1 at.part + sent_count p M3 at.part ≡ count a.m1s + count a.m3s
sends_are d n p a h at = rw (count_is p M1 at.part (listed a.m1s) at.m1_offers, count_is p M3 at.part (listed a.m3s) at.m3_offers) refl

pub few_sent : (d : Domain) (n p : Node) (a : Attempt) (h : List Act) (at : IsUnderWay d n p a h) → count a.m1s + count a.m3s ≤ 7 → sent_count p M1 at.part + sent_count p M3 at.part ≤ 7
few_sent d n p a h at less = subst (λ (x : ℕ). x ≤ 7) (sym (sends_are d n p a h at)) less

-- the next counter of an attempt that renews no key
pub next_is : (d : Domain) (n p : Node) (a : Attempt) (h : List Act) (at : IsUnderWay d n p a h) → next_in_attempt p at.part ≡ suc (count a.m1s + count a.m3s)
next_is d n p a h at = ap suc (sends_are d n p a h at)

-- the counter that M1 or M3 takes next is the one after the last, and there is one
pub record IsNext (p : Node) (a : Attempt) (o : Option Session) (part h : List Act) : Type 0 where
  pub low : suc (last_for a o) < 2 ^ 64
  pub next : next_counter p h part ≡ suc (last_for a o)

pub last_own : (a : Attempt) (o : Option Session) → a.renews ≡ false → last_for a o ≡ count a.m1s + count a.m3s
last_own a o plain = ap (λ (b : Bool). cond b (last_in o) (count a.m1s + count a.m3s)) plain

pub last_shared : (a : Attempt) (o : Option Session) → a.renews ≡ true → last_for a o ≡ last_in o
last_shared a o renews = ap (λ (b : Bool). cond b (last_in o) (count a.m1s + count a.m3s)) renews

few_low : (x a b : ℕ) → x ≡ a + b → a ≤ 4 → b ≤ 4 → suc x < 2 ^ 64
few_low x a b is one other = omega (arith, is, one, other)

-- the session whose key it renews is there
shared_next : (d : Domain) (n p : Node) (o : Option Session) (h : List Act) → is_some (session p h) ≡ true → HasSession d n p o h → HasCounters p h → (next_in_session p h ≡ suc (last_in o)) × (suc (last_in o) < 2 ^ 64)
shared_next d n p None h some at low = absurd (true≢false (sym some ∙ ap (λ (x : Option Derivation). is_some x) at))
shared_next d n p (Some s) h some at low = (at.counts.here.next, less (next_in_session p h) s.last at.counts.here.next (low at.x at.is))
  where
    less : (next last : ℕ) → next ≡ suc last → next < 2 ^ 64 - 1 → suc last < 2 ^ 64
    less next last is under = omega (arith, is, under)

next_by : (d : Domain) (n p : Node) (a : Attempt) (o : Option Session) (h : List Act) (at : IsUnderWay d n p a h) → HasSession d n p o h → HasCounters p h → (b : Bool) → a.renews ≡ b → IsNext p a o at.part h
next_by d n p a o h at has counters false plain = record {
  low = few_low (last_for a o) (count a.m1s) (count a.m3s) (last_own a o plain) (few a.m1s) (few a.m3s);
  next = ap (λ (b : Bool). cond b (next_in_session p h) (next_in_attempt p at.part)) (renewal_by a.renews at.part at.begun ∙ plain) ∙ next_is d n p a h at ∙ sym (ap suc (last_own a o plain));
}
next_by d n p a o h at has counters true renews =
    let beside : is_some (session p h) ≡ true = subst (λ (b : Bool). IsBeside b (session p h)) renews at.beside in
    let shared = shared_next d n p o h beside has counters in
    record {
      low = subst (λ (x : ℕ). suc x < 2 ^ 64) (sym (last_shared a o renews)) shared.1;
      next = ap (λ (b : Bool). cond b (next_in_session p h) (next_in_attempt p at.part)) (renewal_by a.renews at.part at.begun ∙ renews) ∙ shared.0 ∙ sym (ap suc (last_shared a o renews));
    }

pub next_of : (d : Domain) (n p : Node) (a : Attempt) (o : Option Session) (h : List Act) (at : IsUnderWay d n p a h) → HasSession d n p o h → HasCounters p h → IsNext p a o at.part h
next_of d n p a o h at has counters = next_by d n p a o h at has counters a.renews refl

-- before M2 no M3 was sent
pub none_sent : (w : Pair) (o : Option Agreed) (m3s : Offers) (part h : List Act) → o ≡ None → IsAgreed w o m3s part h → (m3s ≡ Zero) × (before_sent w.peer (kind.Key M3) h ≡ None)
none_sent w o m3s part h none at = subst (λ (x : Option Agreed). IsAgreed w x m3s part h) none at

-- and from M2 on one was
pub some_sent : (w : Pair) (o : Option Agreed) (y : Agreed) (m3s : Offers) (part h : List Act) → o ≡ Some y → IsAgreed w o m3s part h → IsAgreed w (Some y) m3s part h
some_sent w o y m3s part h is at = subst (λ (x : Option Agreed). IsAgreed w x m3s part h) is at

-- names of keys do not go back to nonces
mobile_by : (d : Domain) (a : ℕ) (p : Node) (y : Keyed) (o : Option Mobility) → IsMobility d (inputs d (home d (Ap a) p) (Ap a) p [] []) (fte_octets (assoc_fte d (Ap a))) o → IsMobility d (inputs_by d (home d (Ap a) p) (Ap a) p y) (fte_octets (assoc_fte d (Ap a))) o
mobile_by d a p y None is = is
mobile_by d a p y (Some m) is = is

-- the key data of M3 is as the code makes it
pub data_is : (d : Domain) (a : ℕ) (p : Node) (l : Ends) (y : Keyed) (t : Attempt) (g : News) (h : List Act) → AreEnds d (Ap a) p l → IsUnderWay d (Ap a) p t h
    → padded (m3_data l.mfp l.akm t.association.base.mobility (carried_news g)) ≡ m3_key_data d (Ap a) (key_by d (home d (Ap a) p) (Ap a) p y) (carried_news g)
data_is d a p l y t g h ends at =
    let mobility = t.association.base.mobility in
    ap (λ (b : Bool). padded (m3_data b l.akm mobility (carried_news g))) ends.mfp_is ∙ ap (λ (z : Akm). padded (m3_data (protects d) z mobility (carried_news g))) ends.akm
    ∙ m3_data_is d (Ap a) (key_by d (home d (Ap a) p) (Ap a) p y) (carried_news g) mobility (mobile_by d a p y mobility at.associated.base.mobility)

pub cons_is : {x y : ℕ} {xs ys : List ℕ} → x ≡ y → xs ≡ ys → x ∷ xs ≡ y ∷ ys
cons_is e f = rw (e, f) refl

-- the acts of accepting M2, the last first
abbrev pub agreed_after : Domain → Node → Node → List ℕ → Option Seal → Agreed → ℕ → List Act → List Act
agreed_after d n p octets s y counter h =
    sent_m3 d n p (key_by d (home d n p) n p y.key) counter (carried_news y.news) ∷ Derived p (inputs_by d (home d n p) n p y.key) y.key.ptk ∷ Took (Some p) octets (kind.Key M2) Accepted s ∷ h

igtk_agreed : (b : Bool) (p : Node) (i : Inputs) (k : Ptk) (octets : List ℕ) (s : Option Seal) (h : List Act) → igtk_news b (Derived p i k ∷ Took (Some p) octets (kind.Key M2) Accepted s ∷ h) ≡ igtk_news b h
igtk_agreed false p i k octets s h = refl
igtk_agreed true p i k octets s h = refl

pub has_agreed : (d : Domain) (n p : Node) (octets : List ℕ) (s : Option Seal) (y : Agreed) (a : Attempt) (counter : ℕ) (h : List Act) → IsAddress (address d n) → IsAddress (address d p) → counter < 2 ^ 64
    → IsUnderWay d n p a h → a.agreed ≡ None → IsNewest d y.news h → padded y.plain ≡ m3_key_data d n (key_by d (home d n p) n p y.key) (carried_news y.news)
    → IsUnderWay d n p (answered counter y a) (agreed_after d n p octets s y counter h)
has_agreed d n p octets s y a counter h l m low at none newest data_ =
    let took = Took (Some p) octets (kind.Key M2) Accepted s in
    let derived = Derived p (inputs_by d (home d n p) n p y.key) y.key.ptk in
    let x = key_by d (home d n p) n p y.key in
    let m3 = sent_m3 d n p x counter (carried_news y.news) in
    let w = none_sent (own_pair d n p) a.agreed a.m3s at.part h none at.agreed in
    let first = attempt_more p took h at.part refl refl at.is in
    let second = attempt_more p derived (took ∷ h) (took ∷ at.part) refl refl first in
    record {
      part = m3 ∷ derived ∷ took ∷ at.part;
      is = attempt_more p m3 (derived ∷ took ∷ h) (derived ∷ took ∷ at.part) refl refl second;
      begun = begun_as a.renews at.part (m3 ∷ derived ∷ took ∷ at.part) (start_more took at.part (attempt_some p h at.part at.is)) at.begun;
      beside = at.beside;
      nonce = own_nonce_more m3 (derived ∷ took ∷ at.part) a.anonce (own_nonce_more derived (took ∷ at.part) a.anonce (own_nonce_more took at.part a.anonce at.nonce));
      m1_offers = rw (same-refl p) at.m1_offers;
      m3_offers = rw (same-refl p) (cons_is (m3_counter d n p x counter (carried_news y.news) l m low) (at.m3_offers ∙ ap listed w.0));
      answered = rw (same-refl p) refl;
      agreed = (
        rw (same-refl p) refl,
        record { past = derived ∷ took ∷ h; is = rw (same-refl p, w.1) refl; newest = newest_as d y.news h (derived ∷ took ∷ h) refl refl (λ b. igtk_agreed b p (inputs_by d (home d n p) n p y.key) y.key.ptk octets s h) newest },
        data_,
      );
      associated = association_as d n p a.association _ _ (request_more p m3 (derived ∷ took ∷ h) refl refl refl ∙ request_more p derived (took ∷ h) refl refl refl ∙ request_more p took h refl refl refl) at.associated;
    }

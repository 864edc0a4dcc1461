-- Message 2 of the four-way handshake.
use Rattle.std.proofs.Common.{◌≡◌, ◌+◌, ◌<◌, ◌≤◌, ◌^◌, suc, ℕ, List, [], ◌∷◌, Option, Some, None, refl, sym, ap, subst, ◌∙◌, arith}
use Rattle.std.specs.Prelude.{is_some}
use Rattle.domain_base.specs.declared.names.Node.{Node}
use Rattle.domain_base.specs.declared.names.Node.TheVariants.{Ap, Sta}
use Rattle.eapol_key.specs.declared.messages.Message.{Message}
use Rattle.eapol_key.specs.declared.messages.Message.TheVariants.{M2}
use Rattle.key_hierarchy.specs.declared.inputs.Inputs.{Inputs}
use Rattle.key_hierarchy.specs.Keys.{ptk}
use Rattle.run_journal.specs.declared.domain.Domain.{Domain}
use Rattle.run_journal.specs.declared.acts.Kind.TheVariants as kind
use Rattle.run_journal.specs.declared.acts.KeyDataFault.{KeyDataFault}
use Rattle.run_journal.specs.declared.acts.Reason.{Reason}
use Rattle.run_journal.specs.declared.acts.Reason.TheVariants as reason
use Rattle.run_journal.specs.declared.acts.Outcome.TheVariants.{Accepted, Refused}
use Rattle.run_journal.specs.declared.acts.Seal.{Seal}
use Rattle.run_journal.specs.declared.acts.Act.{Act}
use Rattle.run_journal.specs.declared.acts.Act.TheVariants.{Took, Derived}
use Rattle.run_journal.specs.declared.reply.Reply.{Reply}
use Rattle.run_journal.specs.declared.reply.Keyed.{Keyed}
use Rattle.run_journal.specs.Replies.{IsEmpty}
use Rattle.run_journal.specs.Questions.{attempt, add, draws}
use Rattle.group_key.specs.declared.news.News.{News}
use Rattle.group_key.specs.News.{carried_news}
use Rattle.group_key.proofs.Newest.{news_is}
use Rattle.domain_rules.specs.Counters.{next_counter}
use Rattle.domain_rules.specs.Frames.{frame_seal, m3_key_data, sent_m3, keyed_by}
use Rattle.domain_rules.specs.GroupKeys.{News as CarriedNews, news}
use Rattle.domain_rules.specs.Here.{here}
use Rattle.eapol_key.specs.KeyData.{padded}
use Rattle.frame_making.specs.KeyData.{m3_data}
use Rattle.authenticator.specs.Bases.{home, own_pair}
use Rattle.domain_rules.specs.Reading.{KeyMessage, Keyed as KeyedReading}
use Rattle.domain_rules.specs.Replies.{IsMessageFrom, inputs_by, key_by}
use Rattle.domain_rules.specs.Verdict.{first_verdict, key_verdict}
use Rattle.domain_rules.specs.AccessPointKeys.{m2_verdict}
use Rattle.domain_rules.specs.Rows.{By_m2}
use Rattle.domain_rules.proofs.Parts.{same-refl, attempt_more, attempt_some, start_more}
use Rattle.domain_rules.proofs.Refused.{far_seal}
use Rattle.authenticator.specs.Agreed.{Agreed}
use Rattle.authenticator.specs.Counters.{count, last_for, moved}
use Rattle.authenticator.specs.State.{State}
use Rattle.authenticator.specs.Stands.{IsUnderWay, Counts, HasSession, AuthenticatorStands}
use Rattle.authenticator.specs.Steps.{Steps}
use Rattle.authenticator.specs.Judged.{Frame, answered, IsVerified, IsRefusedM2, TellsDerived, Answers}
use Rattle.authenticator.specs.Taken.{given, frame_in, told_acts, Comes, StepsFrom}
use Rattle.authenticator.specs.declared.attempt.Attempt.{Attempt}
use Rattle.authenticator.specs.declared.session.Session.{Session}
use Rattle.authenticator.proofs.Addresses.{own_address, peer_address}
use Rattle.authenticator.proofs.Counting.{few}
use Rattle.authenticator.proofs.Handshaking.{counts_on, one_m3}
use Rattle.authenticator.proofs.Standing.{begun_as, renewal_by, session_on, session_moved}
use Rattle.authenticator.proofs.Replying.{only_took, answer_took}
use Rattle.authenticator.proofs.Refusing.{steps_refused, refused_as}
use Rattle.authenticator.proofs.Verified.{IsOn, on_by, none_agreed, refused_m2, accepted_m2, key_by_m2, inputs_of_m2, told, knows_from, verdict_by, seal_by}
use Rattle.authenticator.proofs.Agreeing.{few_sent, last_shared, next_of, none_sent, data_is, agreed_after, has_agreed}

first_is : (d : Domain) (first a : ℕ) (p : Node) (octets : List ℕ) (k : KeyMessage) (h : List Act) → IsMessageFrom d (Ap a) p octets k → k.message ≡ M2 → first_verdict d first (Ap a) h (KeyedReading k) ≡ m2_verdict d (Ap a) h p k
first_is d first a p octets k h from is = from.verdict_is first h ∙ ap (λ (m : Message). key_verdict d (first + draws h) (Ap a) h p k m) is

-- ---- refused before its MIC verified

pub takes_refused_m2 : (s : State) (t : Attempt) (f : Frame) (g : News) (why : Reason) (r : Reply) → s.attempt ≡ Some t → IsRefusedM2 s.ends t f why → IsEmpty r
    → StepsFrom s s (given M2 f g) (Refused why) r
takes_refused_m2 s t f g why r is by e =
    refused_as s (given M2 f g) M2 why r refl e
    (λ d drawn a sta k h stands same last. refused_m2 d a (Sta sta) s t h k why (on_by d a (Sta sta) s t h is stands) (subst (λ (x : Frame). IsRefusedM2 s.ends t x why) (sym same) by))

-- ---- refused by its key data

other_m2 : (d : Domain) (first a : ℕ) (p : Node) (octets : List ℕ) (k : KeyMessage) (s : State) (t : Attempt) (y : Keyed) (fault : KeyDataFault) (r : Reply) (h : List Act) → IsMessageFrom d (Ap a) p octets k → k.message ≡ M2
    → AuthenticatorStands d (Ap a) p s h → IsOn d a p s t h → IsVerified s.ends t (frame_in k) y (Some fault) → IsEmpty r
    → Steps (here d first (Ap a)) p octets (told_acts d (Ap a) p (is_some s.session) octets k (Refused (reason.KeyData fault)) (record r { verified = Some y.ptk.kck }) h) s h
other_m2 d first a p octets k s t y fault r h from is stands on w e =
    let facts = told d (Ap a) p t h k (Some fault) on.trial w.key_data in
    let accepted = first_is d first a p octets k h from is ∙ accepted_m2 d a p s t h k y (Some fault) on w in
    steps_refused d first a p octets k s (reason.KeyData fault) (Some (frame_seal y.ptk.kck k.octets)) (record r { verified = Some y.ptk.kck }) h from stands
    (only_took d (Ap a) p (is_some s.session) octets k (Refused (reason.KeyData fault)) (record r { verified = Some y.ptk.kck }) (Some y.ptk.kck) h e.len refl e.derived e.installed e.gtk e.igtk)
    (record {
      facts = facts.facts;
      knows = λ far. knows_from d (Ap a) p h k facts.facts is from.from facts.knows;
      refused = verdict_by d first (Ap a) p h k (Some fault) facts is from.from accepted;
      seal_is = seal_by d a p s t h k y (Some fault) on w is from.from ∙ far_seal d first (Ap a) h (KeyedReading k) Accepted accepted refl;
    })

pub takes_other_m2 : (s : State) (t : Attempt) (f : Frame) (g : News) (fault : KeyDataFault) (y : Keyed) (r : Reply) → s.attempt ≡ Some t → IsVerified s.ends t f y (Some fault) → IsEmpty r
    → StepsFrom s s (given M2 f g) (Refused (reason.KeyData fault)) (record r { verified = Some y.ptk.kck })
takes_other_m2 s t f g fault y r is by e = λ d first a sta octets k h stands w.
    other_m2 d first a (Sta sta) octets k s t y fault r h w.from w.message stands (on_by d a (Sta sta) s t h is stands) (subst (λ (x : Frame). IsVerified s.ends t x y (Some fault)) (sym w.frame) by) e

-- ---- accepted

says_m2 : (d : Domain) (n p : Node) (octets : List ℕ) (y : Keyed) (i : Inputs) (k : KeyMessage) (counter next : ℕ) (g keys : CarriedNews) → y.ptk ≡ ptk i → next ≡ counter → keys ≡ g
    → Took (Some p) octets (kind.Key M2) Accepted (Some (frame_seal y.ptk.kck k.octets)) ∷ Derived p i y.ptk ∷ sent_m3 d n p (record { inputs = i; ptk = y.ptk }) counter g ∷ []
    ≡ Took (Some p) octets (kind.Key M2) Accepted (Some (frame_seal (ptk i).kck k.octets)) ∷ Derived p i (ptk i) ∷ sent_m3 d n p (keyed_by i) next keys ∷ []
says_m2 d n p octets y i k counter next g keys ptk_is next_is keys_are = rw (ptk_is, next_is, keys_are) refl

counts_agreed : (d : Domain) (n p : Node) (octets : List ℕ) (v : Option Seal) (y : Agreed) (h : List Act) (s : Session) → Counts p s h → Counts p s (Derived p (inputs_by d (home d n p) n p y.key) y.key.ptk ∷ Took (Some p) octets (kind.Key M2) Accepted v ∷ h)
counts_agreed d n p octets v y h s at =
    let took = Took (Some p) octets (kind.Key M2) Accepted v in
    let derived = Derived p (inputs_by d (home d n p) n p y.key) y.key.ptk in
    counts_on p s derived (took ∷ h) refl refl refl refl refl refl (counts_on p s took h refl refl refl refl (rw (same-refl p) refl) refl at)

few_first : (a b : ℕ) → a ≤ 4 → b ≡ 0 → a + b ≤ 7
few_first a b is none = omega (arith, is, none)

-- M3 takes the next counter of the session whose key the attempt renews; else the session stays
session_agreed : (d : Domain) (n p : Node) (octets : List ℕ) (v : Option Seal) (y : Agreed) (t : Attempt) (counter : ℕ) (o : Option Session) (h : List Act) → IsUnderWay d n p t h → t.agreed ≡ None → counter ≡ suc (last_for t o) → HasSession d n p o h
    → HasSession d n p (moved t.renews counter o) (agreed_after d n p octets v y counter h)
session_agreed d n p octets v y t counter o h at none next has =
    let took = Took (Some p) octets (kind.Key M2) Accepted v in
    let derived = Derived p (inputs_by d (home d n p) n p y.key) y.key.ptk in
    let m3 = sent_m3 d n p (key_by d (home d n p) n p y.key) counter (carried_news y.news) in
    let past = derived ∷ took ∷ h in
    let part = derived ∷ took ∷ at.part in
    let is : attempt p past ≡ Some part = attempt_more p derived (took ∷ h) (took ∷ at.part) refl refl (attempt_more p took h at.part refl refl at.is) in
    let begun = begun_as t.renews at.part part (start_more took at.part (attempt_some p h at.part at.is)) at.begun in
    let unsent = none_sent (own_pair d n p) t.agreed t.m3s at.part h none at.agreed in
    session_moved d n p t.renews counter o m3 past part (one_m3 p _ _) refl is (renewal_by t.renews part begun)
    (few_sent d n p t h at (few_first (count t.m1s) (count t.m3s) (few t.m1s) (ap count unsent.0)))
    (λ renews. next ∙ ap suc (last_shared t o renews))
    (session_on d n p o h past refl refl (counts_agreed d n p octets v y h) has)

agreed_m2 : (d : Domain) (first a : ℕ) (p : Node) (octets : List ℕ) (k : KeyMessage) (s : State) (t : Attempt) (y : Agreed) (counter : ℕ) (r : Reply) (h : List Act) → Comes (here d first (Ap a)) p (given M2 (frame_in k) y.news) octets k h
    → AuthenticatorStands d (Ap a) p s h → IsOn d a p s t h → IsVerified s.ends t (frame_in k) y.key None → (suc (last_for t s.session) < 2 ^ 64 → counter ≡ suc (last_for t s.session)) → Answers s.ends counter y r → TellsDerived y.key r
    → y.plain ≡ m3_data s.ends.mfp s.ends.akm t.association.base.mobility (carried_news y.news)
    → Steps (here d first (Ap a)) p octets (told_acts d (Ap a) p (is_some s.session) octets k Accepted r h) (record s { attempt = Some (answered counter y t); session = moved t.renews counter s.session }) h
agreed_m2 d first a p octets k s t y counter r h come stands on w next_is sends told_keys plain =
    let n = Ap a in
    let from = come.from in
    let is = come.message in
    let i = inputs_by d (home d n p) n p y.key in
    let next = next_of d n p t s.session h on.trial stands.session_is come.low in
    let counter_is : counter ≡ suc (last_for t s.session) = next_is next.low in
    let low : counter < 2 ^ 64 = subst (λ (c : ℕ). c < 2 ^ 64) (sym counter_is) next.low in
    let none = none_agreed s.ends t k.fields w.awaited.awaited in
    let x = key_by d (home d n p) n p y.key in
    let data_ : padded y.plain ≡ m3_key_data d n x (carried_news y.news) = ap padded plain ∙ data_is d a p s.ends y.key t y.news h on.ends on.trial in
    let ptk_is = key_by_m2 d a p s t h k y.key None on w in
    let facts = told d n p t h k None on.trial w.key_data in
    let accepted = first_is d first a p octets k h from is ∙ accepted_m2 d a p s t h k y.key None on w in
    let seal = Some (frame_seal y.key.ptk.kck k.octets) in
    let acts = answer_took d n p (is_some s.session) octets k M2 Accepted r y.key (sent_m3 d n p (key_by d (home d n p) n p y.key) counter (carried_news y.news)) h is told_keys (sends.sends d n p x on.ends refl refl data_) in
    record {
      adds = record {
        r = KeyedReading k;
        reads = from.reads;
        facts = facts.facts;
        knows = λ far. knows_from d n p h k facts.facts is from.from facts.knows;
        row = By_m2 (record {
          k = k;
          is = refl;
          message_is = is;
          p = p;
          from = from.from;
          accepted = verdict_by d first n p h k None facts is from.from accepted;
          part = on.trial.part;
          awaited = on.trial.is;
          i = i;
          inputs_are = inputs_of_m2 d a p s t h k y.key None on w;
          says = acts ∙ says_m2 d n p octets y.key i k counter (next_counter p h on.trial.part) (carried_news y.news) (news d h) ptk_is (next.next ∙ sym counter_is) (news_is d y.news h come.newest);
        });
      };
      stands = record {
        ends = on.ends;
        attempt_is = subst (λ (x : List Act). IsUnderWay d n p (answered counter y t) (add x h)) (sym acts)
            (has_agreed d n p octets seal y t counter h (own_address d n p s.ends on.ends sends.whole.own) (peer_address d n p s.ends on.ends sends.whole.peer) low on.trial none come.newest data_);
        session_is = subst (λ (x : List Act). HasSession d n p (moved t.renews counter s.session) (add x h)) (sym acts) (session_agreed d n p octets seal y t counter s.session h on.trial none counter_is stands.session_is);
      };
    }

-- what comes, by its own frame
come_by : (d : Domain) (first a : ℕ) (p : Node) (f : Frame) (g : News) (octets : List ℕ) (k : KeyMessage) (h : List Act) → Comes (here d first (Ap a)) p (given M2 f g) octets k h → Comes (here d first (Ap a)) p (given M2 (frame_in k) g) octets k h
come_by d first a p f g octets k h w = record { from = w.from; message = w.message; frame = refl; newest = w.newest; low = w.low }

pub takes_agreed : (s : State) (t : Attempt) (f : Frame) (y : Agreed) (counter : ℕ) (r : Reply) → s.attempt ≡ Some t → IsVerified s.ends t f y.key None → (suc (last_for t s.session) < 2 ^ 64 → counter ≡ suc (last_for t s.session)) → Answers s.ends counter y r → TellsDerived y.key r
    → y.plain ≡ m3_data s.ends.mfp s.ends.akm t.association.base.mobility (carried_news y.news)
    → StepsFrom s (record s { attempt = Some (answered counter y t); session = moved t.renews counter s.session }) (given M2 f y.news) Accepted r
takes_agreed s t f y counter r is by next sends told_keys plain = λ d first a sta octets k h stands w.
    agreed_m2 d first a (Sta sta) octets k s t y counter r h (come_by d first a (Sta sta) f y.news octets k h w) stands (on_by d a (Sta sta) s t h is stands) (subst (λ (x : Frame). IsVerified s.ends t x y.key None) (sym w.frame) by) next sends told_keys plain

-- Message 4 of the four-way handshake.
use Rattle.std.proofs.Common.{◌+◌, ◌*◌, ◌≡◌, ◌<◌, ◌≤◌, ◌^◌, ℕ, suc, Bool, true, false, true≢false, List, [], ◌∷◌, ◌++◌, Option, Some, None, refl, sym, ap, subst, ◌∙◌, arith}
use Rattle.std.specs.Prelude.{◌-◌, is_some, cond, nat_lt}
use Rattle.domain_base.specs.declared.names.Akm.{Akm}
use Rattle.domain_base.specs.declared.names.Akm.TheVariants.{Psk, PskSha256, FtPsk}
use Rattle.std.specs.List.{AllByRecursion}
use Rattle.domain_base.specs.declared.names.Node.{Node}
use Rattle.domain_base.specs.declared.names.Node.TheVariants.{Ap, Sta}
use Rattle.domain_base.specs.declared.names.Peer.TheVariants.{One}
use Rattle.eapol_key.specs.declared.messages.Message.{Message}
use Rattle.eapol_key.specs.declared.messages.Message.TheVariants.{M1, M3, M4}
use Rattle.key_hierarchy.specs.declared.inputs.Inputs.{Inputs}
use Rattle.run_journal.specs.declared.domain.Domain.{Domain}
use Rattle.run_journal.specs.declared.acts.Kind.TheVariants as kind
use Rattle.run_journal.specs.declared.acts.Key.{Key}
use Rattle.run_journal.specs.declared.acts.Key.TheVariants.{Pairwise}
use Rattle.run_journal.specs.declared.acts.Seal.{Seal}
use Rattle.run_journal.specs.declared.acts.Part.TheVariants.{Session as OfSession}
use Rattle.run_journal.specs.declared.acts.Reason.{Reason}
use Rattle.run_journal.specs.declared.acts.Reason.TheVariants as reason
use Rattle.run_journal.specs.declared.acts.Outcome.TheVariants.{Accepted, Refused}
use Rattle.run_journal.specs.declared.acts.Act.{Act}
use Rattle.run_journal.specs.declared.acts.Act.TheVariants.{Took, Closed, Installed, Finished}
use Rattle.run_journal.specs.declared.reply.Reply.{Reply}
use Rattle.run_journal.specs.declared.reply.Keyed.{Keyed}
use Rattle.run_journal.specs.Replies.{IsEmpty}
use Rattle.run_journal.specs.declared.acts.GroupKind.TheVariants as groups
use Rattle.run_journal.specs.Acts.{derived, Derivation}
use Rattle.run_journal.specs.Questions.{or_else, attempt, derivation, session, before_sent, group_keys, add, draws}
use Rattle.group_key.specs.declared.keys.GroupKey.{GroupKey}
use Rattle.group_key.specs.Holds.{IsLast}
use Rattle.group_key.specs.declared.news.News.{News}
use Rattle.group_key.specs.News.{IsNewest}
use Rattle.group_key.proofs.Drawing.{older, place_low}
use Rattle.group_key.proofs.Newest.{newest_as}
use Rattle.domain_rules.specs.Counters.{sent_count, next_in_attempt, next_in_session, next_counter}
use Rattle.domain_rules.specs.Frames.{frame_seal}
use Rattle.domain_rules.specs.GroupKeys.{newest_uses, igtk_news}
use Rattle.domain_rules.specs.Here.{here}
use Rattle.authenticator.specs.Bases.{home, own_pair}
use Rattle.domain_rules.specs.Reading.{KeyMessage, Keyed as KeyedReading}
use Rattle.domain_rules.specs.Replies.{inputs_by, replaced_acts, key_by, sent_acts}
use Rattle.domain_rules.specs.Verdict.{KnowsOf, KnowsResponse, key_further, and_then, key_verdict}
use Rattle.domain_rules.specs.Asking.{is_renewal, among, verified}
use Rattle.domain_rules.specs.AccessPointKeys.{m4_keying, m4_verdict_by, m4_verdict, request}
use Rattle.domain_rules.specs.AccessPointRows.{m4_acts, carried_older, newer_acts}
use Rattle.domain_rules.specs.Rows.{By_m4}
use Rattle.domain_rules.specs.Closing.{close_session}
use Rattle.domain_rules.proofs.Refused.{no_facts}
use Rattle.domain_rules.specs.KeyHolders.{put_acts_by}
use Rattle.domain_rules.proofs.Parts.{IsApart, same-refl, Grows, Begins, Goes_on, grows, attempt_more, attempt_ends, attempt_some, start_more, request_more, add_append}
use Rattle.domain_rules.proofs.Verdicts.{among-one, among-none, verified-same, verified-other}
use Rattle.authenticator.specs.Agreed.{Agreed}
use Rattle.authenticator.specs.Associated.{Associated}
use Rattle.authenticator.specs.Counters.{listed, count, last_for}
use Rattle.authenticator.specs.Groups.{offers_for, sent_for, Asks}
use Rattle.authenticator.specs.Installed.{AsksWhere, IsInstalled}
use Rattle.authenticator.specs.State.{State}
use Rattle.authenticator.specs.Stands.{IsAgreed, IsAssociated, session_request, is_begun_by, IsBeside, IsUnderWay, left_in, IsHeld, HasSession, AuthenticatorStands}
use Rattle.authenticator.specs.Steps.{Steps}
use Rattle.authenticator.specs.Judged.{Frame, IsUncounted, IsForgedM4, IsFresh, IsFinish, IsRefusedM4}
use Rattle.authenticator.specs.Taken.{given, frame_in, told_acts, Comes, StepsFrom}
use Rattle.authenticator.specs.declared.attempt.Attempt.{Attempt}
use Rattle.authenticator.specs.declared.attempt.Finish.{Finish}
use Rattle.authenticator.specs.declared.counters.Offers.{Offers}
use Rattle.authenticator.specs.declared.session.Session.{Session}
use Rattle.authenticator.proofs.Counting.{few}
use Rattle.authenticator.proofs.Standing.{or_none, begun_as, renewal_by, four_way_by, association_as, other_on, stands_on, no_connect, under_way, has_session}
use Rattle.authenticator.proofs.Replying.{put_by, finish_took, nothing_sent}
use Rattle.authenticator.proofs.Refusing.{refused_as}
use Rattle.authenticator.proofs.Verified.{same_mic, unresponded_m4, further_none}
use Rattle.authenticator.proofs.Agreeing.{sends_are, last_own, last_shared, next_of, some_sent}
use Rattle.authenticator.proofs.Handshaking.{left_now, counts_newest, counts_fresh, fresh_none}
use Rattle.authenticator.proofs.Asking.{g1_is, stands_asked}

-- ---- its verdict

m4-in : (d : Domain) (h : List Act) (p : Node) (k : KeyMessage) (part : List Act) → attempt p h ≡ Some part → m4_verdict d h p k ≡ m4_verdict_by d p k part (m4_keying p part)
m4-in d h p k part is = rw is refl

abbrev keying_of : Domain → Node → Node → Option Agreed → Option Derivation
keying_of d n p None = None
keying_of d n p (Some y) = Some (key_by d (home d n p) n p y.key)

keying_by : (d : Domain) (n p : Node) (o : Option Agreed) (m3s : Offers) (part h : List Act) → IsAgreed (own_pair d n p) o m3s part h → cond (is_some o) (derivation p part) None ≡ keying_of d n p o
keying_by d n p None m3s part h at = refl
keying_by d n p (Some y) m3s part h at = at.0

keying_is : (d : Domain) (n p : Node) (a : Attempt) (h : List Act) (at : IsUnderWay d n p a h) → m4_keying p at.part ≡ keying_of d n p a.agreed
keying_is d n p a h at = rw (four_way_by a.renews at.part at.begun, at.answered) (keying_by d n p a.agreed a.m3s at.part h at.agreed)

verdict_in : (d : Domain) (n p : Node) (h : List Act) (k : KeyMessage) (a : Attempt) (at : IsUnderWay d n p a h) (o : Option Agreed) → a.agreed ≡ o → m4_verdict d h p k ≡ m4_verdict_by d p k at.part (keying_of d n p o)
verdict_in d n p h k a at o is = m4-in d h p k at.part at.is ∙ ap (m4_verdict_by d p k at.part) (keying_is d n p a h at ∙ ap (keying_of d n p) is)

verdict_keyed : (d : Domain) (n p : Node) (h : List Act) (k : KeyMessage) (a : Attempt) (y : Agreed) → IsUnderWay d n p a h → a.agreed ≡ Some y
    → m4_verdict d h p k ≡ among (listed a.m3s) k.fields.counter (verified d.akm y.key.ptk.kck k Accepted)
verdict_keyed d n p h k a y at is =
    verdict_in d n p h k a at (Some y) is ∙ ap (λ (l : List ℕ). among l k.fields.counter (verified d.akm y.key.ptk.kck k Accepted)) at.m3_offers

counted_m4 : (d : Domain) (n p : Node) (h : List Act) (k : KeyMessage) (a : Attempt) (last : ℕ) → IsUnderWay d n p a h → IsUncounted a k.fields last → m4_verdict d h p k ≡ Refused (reason.Counter last)
counted_m4 d n p h k a last at w =
    verdict_keyed d n p h k a w.y at w.some ∙ among-none (listed a.m3s) k.fields.counter (verified d.akm w.y.key.ptk.kck k Accepted) w.offer
    ∙ ap (λ (x : ℕ). Refused (reason.Counter x)) (sym w.is)

forged_m4 : (d : Domain) (n p : Node) (h : List Act) (k : KeyMessage) (a : Attempt) (akm : Akm) → akm ≡ d.akm → IsUnderWay d n p a h → IsForgedM4 akm a (frame_in k) → m4_verdict d h p k ≡ Refused reason.Mic
forged_m4 d n p h k a akm suite at w =
    verdict_keyed d n p h k a w.y at w.answered.some ∙ among-one (listed a.m3s) k.fields.counter (verified d.akm w.y.key.ptk.kck k Accepted) w.answered.offer
    ∙ verified-other d.akm w.y.key.ptk.kck k Accepted (λ same. w.other (same ∙ sym (same_mic k.octets suite refl)))

pub refused_m4 : (d : Domain) (n p : Node) (h : List Act) (k : KeyMessage) (a : Attempt) (akm : Akm) (why : Reason) → akm ≡ d.akm → IsUnderWay d n p a h → IsRefusedM4 akm a (frame_in k) why → m4_verdict d h p k ≡ Refused why
refused_m4 d n p h k a akm reason.Unawaited suite at w = verdict_in d n p h k a at None w
refused_m4 d n p h k a akm (reason.Counter last) suite at w = counted_m4 d n p h k a last at w
refused_m4 d n p h k a akm reason.Mic suite at w = forged_m4 d n p h k a akm suite at w
refused_m4 d n p h k a akm why suite at w = absurd w

accepted_m4 : (d : Domain) (n p : Node) (h : List Act) (k : KeyMessage) (a : Attempt) (akm : Akm) (g : GroupKey) (last : ℕ) (x : Finish) → akm ≡ d.akm → IsUnderWay d n p a h → IsFinish akm g last a (frame_in k) x → m4_verdict d h p k ≡ Accepted
accepted_m4 d n p h k a akm g last x suite at w =
    verdict_keyed d n p h k a w.y at w.answered.some ∙ among-one (listed a.m3s) k.fields.counter (verified d.akm w.y.key.ptk.kck k Accepted) w.answered.offer
    ∙ verified-same d.akm w.y.key.ptk.kck k Accepted (w.mic_is ∙ same_mic k.octets suite refl)

-- ---- refused

pub takes_refused_m4 : (s : State) (t : Attempt) (f : Frame) (g : News) (why : Reason) (r : Reply) → s.attempt ≡ Some t → IsRefusedM4 s.ends.akm t f why → IsEmpty r → StepsFrom s s (given M4 f g) (Refused why) r
takes_refused_m4 s t f g why r is by e =
    refused_as s (given M4 f g) M4 why r refl e
    (λ d drawn a sta k h stands same last.
    refused_m4 d (Ap a) (Sta sta) h k t s.ends.akm why stands.ends.akm (under_way d (Ap a) (Sta sta) s.attempt t h is stands.attempt_is) (subst (λ (x : Frame). IsRefusedM4 s.ends.akm t x why) (sym same) by))

-- ---- accepted: the session

-- the key in the attempt is the one derived last
first_of : (o was : Option Derivation) (x : Derivation) → o ≡ Some x → or_else o was ≡ Some x
first_of o was x is = rw is refl

later_of : (o part was : Option Derivation) (x : Derivation) → or_else o part ≡ Some x → (part ≡ Some x → was ≡ Some x) → or_else o was ≡ Some x
later_of None part was x is more = more is
later_of (Some y) part was x is more = is

derived_in : (p : Node) (h part : List Act) (x : Derivation) → attempt p h ≡ Some part → derivation p part ≡ Some x → derivation p h ≡ Some x
derived_in p [] part x is has = cc
derived_in p (e ∷ h) part x is has = derived_by p e h part x (grows p e h part is) (λ old was had. derived_in p h old x was had) has
  where
    derived_by : (p : Node) (e : Act) (h part : List Act) (x : Derivation) → Grows p e h part → ((old : List Act) → attempt p h ≡ Some old → derivation p old ≡ Some x → derivation p h ≡ Some x) → derivation p part ≡ Some x → derivation p (e ∷ h) ≡ Some x
    derived_by p e h part x (Begins o is) more has = first_of (derived p e) (derivation p h) x (sym (or_none (derived p e)) ∙ ap (derivation p) (sym is) ∙ has)
    derived_by p e h part x (Goes_on old o n was is) more has = later_of (derived p e) (derivation p old) (derivation p h) x (ap (derivation p) (sym is) ∙ has) (more old was)

finished_key : (p : Node) (i : Inputs) (h : List Act) (x : Derivation) → derivation p h ≡ Some x → session p (Finished p i ∷ h) ≡ Some x
finished_key p i h x is = rw (same-refl p) is

-- the counters go on, and the session goes back to what the attempt did
finished_next : (p : Node) (i : Inputs) (b : Bool) (h part : List Act) → attempt p h ≡ Some part → is_begun_by b part ≡ true → next_in_session p (Finished p i ∷ h) ≡ next_counter p h part
finished_next p i b h part is begun = rw (same-refl p, is, four_way_by b part begun) refl

finished_request : (p : Node) (i : Inputs) (h : List Act) → session_request p (Finished p i ∷ h) ≡ request p h
finished_request p i h = rw (same-refl p) refl

-- the session that was there
replaced_is : (p : Node) (o : Option Derivation) (had : Bool) (y : Keyed) → is_some o ≡ had → replaced_acts p had (Some y) ≡ close_session p o
replaced_is p None true y is = absurd (cc is)
replaced_is p None false y is = refl
replaced_is p (Some x) true y is = refl
replaced_is p (Some x) false y is = absurd (cc is)

-- ---- the history with the acts of M4, where that was the session

-- as far as the key is installed
abbrev installed_after : Domain → Node → Node → List ℕ → KeyMessage → Keyed → Option Derivation → List Act → List Act
installed_after d n p octets k y o h = add (m4_acts octets k p (key_by d (home d n p) n p y) o []) h

-- and with what is put with the key holder
abbrev after : Domain → Node → Node → List ℕ → KeyMessage → Keyed → Option Derivation → List Act → List Act
after d n p octets k y o h = add (m4_acts octets k p (key_by d (home d n p) n p y) o (put_by d n h p y)) h

put_then : (d : Domain) (n p : Node) (octets : List ℕ) (k : KeyMessage) (y : Keyed) (o : Option Derivation) (h : List Act) → add (put_by d n h p y) (installed_after d n p octets k y o h) ≡ after d n p octets k y o h
put_then d n p octets k y None h = refl
put_then d n p octets k y (Some old) h = refl

-- what is put is not about the peer, nor about group keys
apart_put : (akm : Akm) (d : Domain) (n : Node) (h : List Act) (p : Node) (x : Derivation) → AllByRecursion (IsApart p) (put_acts_by akm d n h p x)
apart_put Psk d n h p x = tt
apart_put PskSha256 d n h p x = tt
apart_put FtPsk d n h p x = (record { opens_none = refl; ends_none = refl; accepts_none = λ k. refl; replies_none = λ k. refl; sends_none = λ m. refl; derives_none = refl; finishes_none = refl; closes_none = refl }, tt)

keys_put : (akm : Akm) (d : Domain) (n : Node) (h : List Act) (p : Node) (x : Derivation) (past : List Act) → group_keys groups.Gtk (add (put_acts_by akm d n h p x) past) ≡ group_keys groups.Gtk past
keys_put Psk d n h p x past = refl
keys_put PskSha256 d n h p x past = refl
keys_put FtPsk d n h p x past = refl

uses_put : (akm : Akm) (d : Domain) (n : Node) (h : List Act) (p : Node) (x : Derivation) (past : List Act) → newest_uses groups.Gtk (add (put_acts_by akm d n h p x) past) ≡ newest_uses groups.Gtk past
uses_put Psk d n h p x past = refl
uses_put PskSha256 d n h p x past = refl
uses_put FtPsk d n h p x past = refl

igtk_put : (b : Bool) (akm : Akm) (d : Domain) (n : Node) (h : List Act) (p : Node) (x : Derivation) (past : List Act) → igtk_news b (add (put_acts_by akm d n h p x) past) ≡ igtk_news b past
igtk_put false akm d n h p x past = refl
igtk_put true Psk d n h p x past = refl
igtk_put true PskSha256 d n h p x past = refl
igtk_put true FtPsk d n h p x past = refl

-- the attempt goes on by the acts before its final one
record IsPast (p : Node) (b : Bool) (part h past : List Act) : Type 0 where
  now : List Act
  is : attempt p past ≡ Some now
  begun : is_begun_by b now ≡ true
  next : next_counter p past now ≡ next_counter p h part
  requests : request p past ≡ request p h

past_none : (p : Node) (b : Bool) (octets : List ℕ) (v : Option Seal) (key : Key) (part h : List Act) → attempt p h ≡ Some part → is_begun_by b part ≡ true → IsPast p b part h (Installed (One p) key ∷ Took (Some p) octets (kind.Key M4) Accepted v ∷ h)
past_none p b octets v key part h is begun =
    let took = Took (Some p) octets (kind.Key M4) Accepted v in
    let installed = Installed (One p) key in
    let same = start_more took part (attempt_some p h part is) in
    record {
      now = installed ∷ took ∷ part;
      is = attempt_more p installed (took ∷ h) (took ∷ part) refl refl (attempt_more p took h part refl refl is);
      begun = begun_as b part (installed ∷ took ∷ part) same begun;
      next = ap (λ (c : Bool). cond c (next_in_session p h) (next_in_attempt p part)) (ap is_renewal same);
      requests = request_more p installed (took ∷ h) refl refl refl ∙ request_more p took h refl refl refl;
    }

past_some : (p : Node) (b : Bool) (octets : List ℕ) (v : Option Seal) (key : Key) (part h : List Act) → attempt p h ≡ Some part → is_begun_by b part ≡ true → IsPast p b part h (Installed (One p) key ∷ Closed p OfSession ∷ Took (Some p) octets (kind.Key M4) Accepted v ∷ h)
past_some p b octets v key part h is begun =
    let took = Took (Some p) octets (kind.Key M4) Accepted v in
    let closed = Closed p OfSession in
    let installed = Installed (One p) key in
    let same = start_more took part (attempt_some p h part is) in
    record {
      now = installed ∷ closed ∷ took ∷ part;
      is = attempt_more p installed (closed ∷ took ∷ h) (closed ∷ took ∷ part) refl refl (attempt_more p closed (took ∷ h) (took ∷ part) refl refl (attempt_more p took h part refl refl is));
      begun = begun_as b part (installed ∷ closed ∷ took ∷ part) same begun;
      next = ap (λ (c : Bool). cond c (next_in_session p h) (next_in_attempt p part)) (ap is_renewal same);
      requests = request_more p installed (closed ∷ took ∷ h) refl refl refl ∙ request_more p closed (took ∷ h) refl refl refl ∙ request_more p took h refl refl refl;
    }

-- what the session is that the attempt becomes
record IsNew (d : Domain) (n p : Node) (x : Derivation) (s : Session) (g : GroupKey) (t : Attempt) (u : Option Session) (h : List Act) : Type 0 where
  at : IsUnderWay d n p t h
  key : derivation p h ≡ Some x
  same : x.ptk ≡ s.ptk
  next : next_counter p h at.part ≡ suc (last_for t u)
  last : s.last ≡ last_for t u
  low : s.last + 4 ≤ 12 * draws h
  associated : s.association ≡ Some t.association
  newest : IsLast groups.Gtk g (group_keys groups.Gtk h)
  fresh : IsFresh g.place s

begun_held : (d : Domain) (n p : Node) (i : Inputs) (x : Derivation) (s : Session) (g : GroupKey) (t : Attempt) (u : Option Session) (h past : List Act) (w : IsNew d n p x s g t u h) → IsPast p t.renews w.at.part h past → derivation p past ≡ Some x → IsLast groups.Gtk g (group_keys groups.Gtk past)
    → s.last + 4 ≤ 12 * draws past → attempt p (Finished p i ∷ past) ≡ None → IsHeld d n p s (Finished p i ∷ past)
begun_held d n p i x s g t u h past w goes key newest low gone = record {
  x = x;
  is = finished_key p i past x key;
  key = w.same;
  counts = record {
    place = g.place;
    here = counts_fresh p i s g past newest w.fresh (finished_next p i t.renews past goes.now goes.is goes.begun ∙ goes.next ∙ w.next ∙ sym (ap suc w.last)) gone low;
  };
  associated = subst (λ (a : Option Associated). IsAssociated d n p a (session_request p (Finished p i ∷ past))) (sym w.associated)
      (association_as d n p t.association (request p h) (session_request p (Finished p i ∷ past)) (finished_request p i past ∙ goes.requests) w.at.associated);
}

begun_session : (d : Domain) (n p : Node) (octets : List ℕ) (k : KeyMessage) (o : Option Derivation) (y : Keyed) (s : Session) (g : GroupKey) (t : Attempt) (u : Option Session) (h : List Act) → IsNew d n p (key_by d (home d n p) n p y) s g t u h → attempt p (installed_after d n p octets k y o h) ≡ None
    → IsHeld d n p s (installed_after d n p octets k y o h)
begun_session d n p octets k (Some old) y s g t u h w gone =
    let i = inputs_by d (home d n p) n p y in
    let key = Pairwise y.ptk.tk i in
    let seal = Some (frame_seal y.ptk.kck k.octets) in
    begun_held d n p i (key_by d (home d n p) n p y) s g t u h (Installed (One p) key ∷ Closed p OfSession ∷ Took (Some p) octets (kind.Key M4) Accepted seal ∷ h) w (past_some p t.renews octets seal key w.at.part h w.at.is w.at.begun) w.key w.newest w.low gone
begun_session d n p octets k None y s g t u h w gone =
    let i = inputs_by d (home d n p) n p y in
    let key = Pairwise y.ptk.tk i in
    let seal = Some (frame_seal y.ptk.kck k.octets) in
    begun_held d n p i (key_by d (home d n p) n p y) s g t u h (Installed (One p) key ∷ Took (Some p) octets (kind.Key M4) Accepted seal ∷ h) w (past_none p t.renews octets seal key w.at.part h w.at.is w.at.begun) w.key w.newest w.low gone

-- how far the counters have come
low_own : (x a b d place : ℕ) → x ≡ a + b → a ≤ 4 → b ≤ 4 → place < d → x + 4 ≤ 12 * d
low_own x a b d place is one other some = omega (arith, is, one, other, some)

low_shared : (last left d n sent a b : ℕ) → left ≡ 12 - sent → sent ≡ a + b → a ≤ 4 → b ≤ 4 → n ≤ 4 → last + (4 + left) ≤ 12 * d + n → last + 4 ≤ 12 * d
low_shared last left d n sent a b left_is sent_is one other sends low = omega (arith, left_is, sent_is, one, other, sends, low)

low_by : (d : Domain) (n p : Node) (t : Attempt) (u : Option Session) (g : GroupKey) (h : List Act) → IsUnderWay d n p t h → HasSession d n p u h → IsLast groups.Gtk g (group_keys groups.Gtk h) → (b : Bool) → t.renews ≡ b → last_for t u + 4 ≤ 12 * draws h
low_by d n p t u g h at has newest false plain =
    low_own (last_for t u) (count t.m1s) (count t.m3s) (draws h) g.place (last_own t u plain) (few t.m1s) (few t.m3s) (place_low groups.Gtk g h newest)
low_by d n p t None g h at has newest true renews =
    let beside : is_some (session p h) ≡ true = subst (λ (b : Bool). IsBeside b (session p h)) renews at.beside in
    absurd (true≢false (sym beside ∙ ap (λ (x : Option Derivation). is_some x) has))
low_by d n p t (Some s) g h at has newest true renews =
    let w = has.counts.here in
    let shared = low_shared s.last (left_in p (attempt p h)) (draws h) (sent_for has.counts.place s) (sent_count p M1 at.part + sent_count p M3 at.part) (count t.m1s) (count t.m3s) (left_now p h at.part at.is (renewal_by t.renews at.part at.begun ∙ renews)) (sends_are d n p t h at)
    (few t.m1s) (few t.m3s) (few (offers_for has.counts.place s)) w.low in
    subst (λ (x : ℕ). x + 4 ≤ 12 * draws h) (sym (last_shared t (Some s) renews)) shared

-- its key
session_after : (d : Domain) (n p : Node) (octets : List ℕ) (k : KeyMessage) (o : Option Derivation) (y : Keyed) (h : List Act) → derivation p h ≡ Some (key_by d (home d n p) n p y) → session p (installed_after d n p octets k y o h) ≡ Some (key_by d (home d n p) n p y)
session_after d n p octets k None y h key =
    let i = inputs_by d (home d n p) n p y in
    finished_key p i (Installed (One p) (Pairwise y.ptk.tk i) ∷ Took (Some p) octets (kind.Key M4) Accepted (Some (frame_seal y.ptk.kck k.octets)) ∷ h) (key_by d (home d n p) n p y) key
session_after d n p octets k (Some old) y h key =
    let i = inputs_by d (home d n p) n p y in
    finished_key p i (Installed (One p) (Pairwise y.ptk.tk i) ∷ Closed p OfSession ∷ Took (Some p) octets (kind.Key M4) Accepted (Some (frame_seal y.ptk.kck k.octets)) ∷ h) (key_by d (home d n p) n p y) key

-- the attempt is none any more
left : (d : Domain) (n : Node) (sta : ℕ) (octets : List ℕ) (k : KeyMessage) (o : Option Derivation) (y : Keyed) (h : List Act) → attempt (Sta sta) (installed_after d n (Sta sta) octets k y o h) ≡ None
left d n sta octets k (Some old) y h =
    let p = Sta sta in
    let i = inputs_by d (home d n p) n p y in
    attempt_ends p (Finished p i) (Installed (One p) (Pairwise y.ptk.tk i) ∷ Closed p OfSession ∷ Took (Some p) octets (kind.Key M4) Accepted (Some (frame_seal y.ptk.kck k.octets)) ∷ h) refl (same-refl p)
left d n sta octets k None y h =
    let p = Sta sta in
    let i = inputs_by d (home d n p) n p y in
    attempt_ends p (Finished p i) (Installed (One p) (Pairwise y.ptk.tk i) ∷ Took (Some p) octets (kind.Key M4) Accepted (Some (frame_seal y.ptk.kck k.octets)) ∷ h) refl (same-refl p)

-- the newest group key stays, and the count of its uses
keys_installed : (d : Domain) (n p : Node) (octets : List ℕ) (k : KeyMessage) (o : Option Derivation) (y : Keyed) (h : List Act) → group_keys groups.Gtk (installed_after d n p octets k y o h) ≡ group_keys groups.Gtk h
keys_installed d n p octets k (Some old) y h = refl
keys_installed d n p octets k None y h = refl

uses_installed : (d : Domain) (n p : Node) (octets : List ℕ) (k : KeyMessage) (o : Option Derivation) (y : Keyed) (h : List Act) → newest_uses groups.Gtk (installed_after d n p octets k y o h) ≡ newest_uses groups.Gtk h
uses_installed d n p octets k (Some old) y h = refl
uses_installed d n p octets k None y h = refl

after_keys : (d : Domain) (n p : Node) (octets : List ℕ) (k : KeyMessage) (o : Option Derivation) (y : Keyed) (h : List Act) → group_keys groups.Gtk (after d n p octets k y o h) ≡ group_keys groups.Gtk h
after_keys d n p octets k o y h =
    ap (group_keys groups.Gtk) (sym (put_then d n p octets k y o h)) ∙ keys_put d.akm d n h p (key_by d (home d n p) n p y) (installed_after d n p octets k y o h) ∙ keys_installed d n p octets k o y h

after_uses : (d : Domain) (n p : Node) (octets : List ℕ) (k : KeyMessage) (o : Option Derivation) (y : Keyed) (h : List Act) → newest_uses groups.Gtk (after d n p octets k y o h) ≡ newest_uses groups.Gtk h
after_uses d n p octets k o y h =
    ap (newest_uses groups.Gtk) (sym (put_then d n p octets k y o h)) ∙ uses_put d.akm d n h p (key_by d (home d n p) n p y) (installed_after d n p octets k y o h) ∙ uses_installed d n p octets k o y h

igtk_installed : (b : Bool) (d : Domain) (n p : Node) (octets : List ℕ) (k : KeyMessage) (o : Option Derivation) (y : Keyed) (h : List Act) → igtk_news b (installed_after d n p octets k y o h) ≡ igtk_news b h
igtk_installed false d n p octets k o y h = refl
igtk_installed true d n p octets k (Some old) y h = refl
igtk_installed true d n p octets k None y h = refl

after_igtk : (d : Domain) (n p : Node) (octets : List ℕ) (k : KeyMessage) (o : Option Derivation) (y : Keyed) (h : List Act) (b : Bool) → igtk_news b (after d n p octets k y o h) ≡ igtk_news b h
after_igtk d n p octets k o y h b =
    ap (igtk_news b) (sym (put_then d n p octets k y o h)) ∙ igtk_put b d.akm d n h p (key_by d (home d n p) n p y) (installed_after d n p octets k y o h) ∙ igtk_installed b d n p octets k o y h

-- what the authenticator stands for there, it stands for behind what is put
stands_put : (d : Domain) (n p : Node) (octets : List ℕ) (k : KeyMessage) (o : Option Derivation) (y : Keyed) (s : State) (h : List Act) → AuthenticatorStands d n p s (installed_after d n p octets k y o h) → AuthenticatorStands d n p s (after d n p octets k y o h)
stands_put d n p octets k o y s h stands =
    let past = installed_after d n p octets k y o h in
    let put = put_by d n h p y in
    subst (λ (g : List Act). AuthenticatorStands d n p s g) (put_then d n p octets k y o h) (stands_on d n p s past (add put past) (other_on p put past (apart_put d.akm d n h p (key_by d (home d n p) n p y))) stands)

session_put : (d : Domain) (n p : Node) (octets : List ℕ) (k : KeyMessage) (o : Option Derivation) (y : Keyed) (h : List Act) → session p (after d n p octets k y o h) ≡ session p (installed_after d n p octets k y o h)
session_put d n p octets k o y h =
    let past = installed_after d n p octets k y o h in
    let put = put_by d n h p y in
    ap (session p) (sym (put_then d n p octets k y o h)) ∙ (other_on p put past (apart_put d.akm d n h p (key_by d (home d n p) n p y))).goes.has

-- ---- accepted

-- the group key that M3 carried is older as the code finds it
older_is : (d : Domain) (n p : Node) (t : Attempt) (y : Agreed) (g : GroupKey) (part h : List Act) → IsAgreed (own_pair d n p) (Some y) t.m3s part h → IsLast groups.Gtk g (group_keys groups.Gtk h) → carried_older p h (before_sent p (kind.Key M3) h) ≡ nat_lt y.news.gtk.place g.place
older_is d n p t y g part h has last = ap (carried_older p h) has.1.is ∙ older groups.Gtk y.news.gtk g has.1.past h has.1.newest.last last

-- what follows the acts of M4
abbrev tail_acts : Domain → Node → Node → List ℕ → KeyMessage → Keyed → List Act → List Act
tail_acts d n p octets k y h =
    newer_acts d n p (after d n p octets k y (session p h) h) (key_by d (home d n p) n p y) (carried_older p h (before_sent p (kind.Key M3) h))

-- what M4 makes of the attempt and of the history
record Ends (d : Domain) (a sta : ℕ) (octets : List ℕ) (k : KeyMessage) (s : State) (x : Finish) (t : Session) (r : Reply) (h : List Act) : Type 0 where
  sends : sent_acts (Sta sta) r ≡ tail_acts d (Ap a) (Sta sta) octets k x.key h
  stands : AuthenticatorStands d (Ap a) (Sta sta) (record s { attempt = None; session = Some t }) (add (sent_acts (Sta sta) r) (after d (Ap a) (Sta sta) octets k x.key (session (Sta sta) h) h))

-- no G1 follows
ends_quiet : (d : Domain) (a sta : ℕ) (octets : List ℕ) (k : KeyMessage) (s : State) (x : Finish) (t : Session) (r : Reply) (h : List Act) → t ≡ x.session → r.len ≡ 0
    → carried_older (Sta sta) h (before_sent (Sta sta) (kind.Key M3) h) ≡ false
    → AuthenticatorStands d (Ap a) (Sta sta) (record s { attempt = None; session = Some x.session }) (after d (Ap a) (Sta sta) octets k x.key (session (Sta sta) h) h)
    → Ends d a sta octets k s x t r h
ends_quiet d a sta octets k s x t r h same len older_no stands =
    let p = Sta sta in
    let none = nothing_sent p r len in
    let past = after d (Ap a) p octets k x.key (session p h) h in
    record {
      sends = none ∙ sym (ap (newer_acts d (Ap a) p past (key_by d (home d (Ap a) p) (Ap a) p x.key)) older_no);
      stands = subst (λ (g : List Act). AuthenticatorStands d (Ap a) p (record s { attempt = None; session = Some t }) (add g past)) (sym none)
          (subst (λ (z : Session). AuthenticatorStands d (Ap a) p (record s { attempt = None; session = Some z }) past) (sym same) stands);
    }

-- G1 follows
ends_asked : (d : Domain) (a sta : ℕ) (octets : List ℕ) (k : KeyMessage) (s : State) (x : Finish) (t : Session) (g : News) (r : Reply) (h : List Act) → Asks s.ends g x.session t r → sent_for g.gtk.place x.session ≡ 0
    → IsNewest d g h
    → carried_older (Sta sta) h (before_sent (Sta sta) (kind.Key M3) h) ≡ true
    → session (Sta sta) (after d (Ap a) (Sta sta) octets k x.key (session (Sta sta) h) h) ≡ Some (key_by d (home d (Ap a) (Sta sta)) (Ap a) (Sta sta) x.key) → x.key.ptk ≡ x.session.ptk
    → IsHeld d (Ap a) (Sta sta) x.session (after d (Ap a) (Sta sta) octets k x.key (session (Sta sta) h) h)
    → AuthenticatorStands d (Ap a) (Sta sta) (record s { attempt = None; session = Some x.session }) (after d (Ap a) (Sta sta) octets k x.key (session (Sta sta) h) h)
    → Ends d a sta octets k s x t r h
ends_asked d a sta octets k s x t g r h w none_yet newest older_yes has same at stands =
    let n = Ap a in
    let p = Sta sta in
    let y = x.key in
    let i = key_by d (home d n p) n p y in
    let past = after d n p octets k y (session p h) h in
    let sends = w.sends d n p i stands.ends (sym same) in
    let newest_now = newest_as d g h past (after_keys d n p octets k (session p h) y h) (after_uses d n p octets k (session p h) y h) (after_igtk d n p octets k (session p h) y h) newest in
    let counts = counts_newest p x.session g.gtk past newest_now.last at.counts in
    let less : sent_for g.gtk.place x.session < 4 = omega (arith, none_yet) in
    record {
      sends = sends ∙ ap (λ (e : Act). e ∷ []) (sym (g1_is d n p i g x.session.last past newest_now counts.next)) ∙ sym (ap (newer_acts d n p past i) older_yes);
      stands = subst (λ (acts : List Act). AuthenticatorStands d n p (record s { attempt = None; session = Some t }) (add acts past)) (sym sends)
          (stands_asked d a p (record s { attempt = None; session = Some x.session }) x.session t g r i past stands has same counts at.associated less w);
    }

ends_by : (d : Domain) (a sta : ℕ) (octets : List ℕ) (k : KeyMessage) (s : State) (x : Finish) (t : Session) (g : News) (r : Reply) (h : List Act) (b : Bool) → AsksWhere b s.ends g x.session t r → suc x.session.last < 2 ^ 64 → IsFresh g.gtk.place x.session
    → IsNewest d g h
    → carried_older (Sta sta) h (before_sent (Sta sta) (kind.Key M3) h) ≡ b
    → session (Sta sta) (after d (Ap a) (Sta sta) octets k x.key (session (Sta sta) h) h) ≡ Some (key_by d (home d (Ap a) (Sta sta)) (Ap a) (Sta sta) x.key) → x.key.ptk ≡ x.session.ptk
    → IsHeld d (Ap a) (Sta sta) x.session (after d (Ap a) (Sta sta) octets k x.key (session (Sta sta) h) h)
    → AuthenticatorStands d (Ap a) (Sta sta) (record s { attempt = None; session = Some x.session }) (after d (Ap a) (Sta sta) octets k x.key (session (Sta sta) h) h)
    → Ends d a sta octets k s x t r h
ends_by d a sta octets k s x t g r h false w low fresh newest older_no has same at stands = ends_quiet d a sta octets k s x t r h w.0 w.1 older_no stands
ends_by d a sta octets k s x t g r h true w low fresh newest older_yes has same at stands = ends_asked d a sta octets k s x t g r h (w low) (fresh_none x.session g.gtk.place fresh) newest older_yes has same at stands

-- the acts, as the row says them
says_m4 : (p : Node) (took i f : Act) (o : Option Derivation) (closed put sends more : List Act) → closed ≡ close_session p o → sends ≡ more → took ∷ ((closed ++ i ∷ f ∷ []) ++ (put ++ sends)) ≡ (took ∷ close_session p o ++ i ∷ f ∷ put) ++ more
says_m4 p took i f None closed put sends more closed_is sends_is = rw (closed_is, sends_is) refl
says_m4 p took i f (Some x) closed put sends more closed_is sends_is = rw (closed_is, sends_is) refl

finished_m4 : (d : Domain) (first a sta : ℕ) (octets : List ℕ) (k : KeyMessage) (s : State) (t : Attempt) (last : ℕ) (x : Finish) (u : Session) (g : News) (r : Reply) (h : List Act) → Comes (here d first (Ap a)) (Sta sta) (given M4 (frame_in k) g) octets k h
    → AuthenticatorStands d (Ap a) (Sta sta) s h → IsUnderWay d (Ap a) (Sta sta) t h → last ≡ last_for t s.session → IsFinish s.ends.akm g.gtk last t (frame_in k) x → IsInstalled s.ends g x u r
    → Steps (here d first (Ap a)) (Sta sta) octets (told_acts d (Ap a) (Sta sta) (is_some s.session) octets k Accepted r h) (record s { attempt = None; session = Some u }) h
finished_m4 d first a sta octets k s t last x u g r h come stands at last_is w told =
    let n = Ap a in
    let p = Sta sta in
    let from = come.from in
    let is = come.message in
    let had = is_some s.session in
    let y = x.key in
    let z = key_by d (home d n p) n p y in
    let i = inputs_by d (home d n p) n p y in
    let seal = Some (frame_seal y.ptk.kck k.octets) in
    let put = put_by d n h p y in
    let key = some_sent (own_pair d n p) t.agreed w.y t.m3s at.part h w.answered.some at.agreed in
    let same : Some (key_by d (home d n p) n p w.y.key) ≡ Some z = ap (λ (v : Keyed). Some (key_by d (home d n p) n p v)) (sym w.key_is) in
    let held_by : y.ptk ≡ x.session.ptk = ap (λ (v : Keyed). v.ptk) w.key_is ∙ sym w.ptk_is in
    let accepted = from.verdict_is first h ∙ ap (λ (m : Message). key_verdict d (first + draws h) n h p k m) is ∙ accepted_m4 d n p h k t s.ends.akm g.gtk last x stands.ends.akm at w in
    let derived_is = derived_in p h at.part z at.is (key.0 ∙ same) in
    let next = next_of d n p t s.session h at stands.session_is come.low in
    let ended = w.last_is ∙ last_is in
    let low : suc x.session.last < 2 ^ 64 = subst (λ (c : ℕ). suc c < 2 ^ 64) (sym ended) next.low in
    let drawn : x.session.last + 4 ≤ 12 * draws h = subst (λ (c : ℕ). c + 4 ≤ 12 * draws h) (sym ended) (low_by d n p t s.session g.gtk h at stands.session_is come.newest.last t.renews refl) in
    let gone = left d n sta octets k (session p h) y h in
    let held_now = begun_session d n p octets k (session p h) y x.session g.gtk t s.session h
    (record { at = at; key = derived_is; same = held_by; next = next.next; last = ended; low = drawn; associated = w.associated; newest = come.newest.last; fresh = w.fresh }) gone in
    let past = after d n p octets k y (session p h) h in
    let begun_now : AuthenticatorStands d n p (record s { attempt = None; session = Some x.session }) (installed_after d n p octets k y (session p h) h) =
    record { ends = stands.ends; attempt_is = no_connect p (installed_after d n p octets k y (session p h) h) gone; session_is = held_now } in
    let stands_now : AuthenticatorStands d n p (record s { attempt = None; session = Some x.session }) past = stands_put d n p octets k (session p h) y (record s { attempt = None; session = Some x.session }) h begun_now in
    let has_now = session_put d n p octets k (session p h) y h ∙ session_after d n p octets k (session p h) y h derived_is in
    let end = ends_by d a sta octets k s x u g r h x.is_older told.asks low w.fresh come.newest (older_is d n p t w.y g.gtk at.part h key come.newest.last ∙ sym w.older) has_now held_by stands_now.session_is stands_now in
    let closed = replaced_is p (session p h) had y (has_session d n p s.session h stands.session_is) in
    let took = Took (Some p) octets (kind.Key M4) Accepted seal in
    let installed = Installed (One p) (Pairwise y.ptk.tk i) in
    let acts = finish_took d n p had octets k M4 Accepted r y h is told.verified told.derived told.installed told.gtk told.igtk in
    let so_far = acts ∙ says_m4 p took installed (Finished p i) (session p h) (replaced_acts p had (Some y)) put (sent_acts p r) (sent_acts p r) closed refl in
    record {
      adds = record {
        r = KeyedReading k;
        reads = from.reads;
        facts = no_facts;
        knows = λ far q other. subst (λ (m : Message). KnowsOf d.akm h q m k no_facts × KnowsResponse d.akm h q m no_facts) (sym is) (tt, unresponded_m4 d.akm h q no_facts);
        row = By_m4 (record {
          k = k;
          is = refl;
          message_is = is;
          p = p;
          from = from.from;
          accepted = further_none d first n p h k accepted from.from ∙ ap (λ (m : Message). and_then Accepted (key_further d n h p k m no_facts)) is;
          part = at.part;
          awaited = at.is;
          x = z;
          keyed = keying_is d n p t h at ∙ ap (keying_of d n p) w.answered.some ∙ same;
          says = acts ∙ says_m4 p took installed (Finished p i) (session p h) (replaced_acts p had (Some y)) put (sent_acts p r) (tail_acts d n p octets k y h) closed end.sends;
        });
      };
      stands = subst (λ (e : List Act). AuthenticatorStands d n p (record s { attempt = None; session = Some u }) (add e h)) (sym so_far)
          (subst (λ (e : List Act). AuthenticatorStands d n p (record s { attempt = None; session = Some u }) e) (sym (add_append (m4_acts octets k p z (session p h) put) (sent_acts p r) h)) end.stands);
    }

-- what comes, by its own frame
come_by : (d : Domain) (first a : ℕ) (p : Node) (f : Frame) (g : News) (octets : List ℕ) (k : KeyMessage) (h : List Act) → Comes (here d first (Ap a)) p (given M4 f g) octets k h → Comes (here d first (Ap a)) p (given M4 (frame_in k) g) octets k h
come_by d first a p f g octets k h w = record { from = w.from; message = w.message; frame = refl; newest = w.newest; low = w.low }

pub takes_finished : (s : State) (t : Attempt) (f : Frame) (g : News) (last : ℕ) (x : Finish) (u : Session) (r : Reply) → s.attempt ≡ Some t → last ≡ last_for t s.session → IsFinish s.ends.akm g.gtk last t f x → IsInstalled s.ends g x u r
    → StepsFrom s (record s { attempt = None; session = Some u }) (given M4 f g) Accepted r
takes_finished s t f g last x u r is last_is by told = λ d first a sta octets k h stands w.
    finished_m4 d first a sta octets k s t last x u g r h (come_by d first a (Sta sta) f g octets k h w) stands (under_way d (Ap a) (Sta sta) s.attempt t h is stands.attempt_is) last_is
    (subst (λ (z : Frame). IsFinish s.ends.akm g.gtk last t z x) (sym w.frame) by) told

-- Message 2 of the group key handshake.
use Rattle.std.proofs.Common.{◌≡◌, ◌+◌, ℕ, true, List, Option, Some, None, refl, sym, ap, subst, ◌∙◌, [], ◌∷◌}
use Rattle.std.specs.Prelude.{is_some}
use Rattle.domain_base.specs.declared.names.Akm.{Akm}
use Rattle.domain_base.specs.declared.names.Node.{Node}
use Rattle.domain_base.specs.declared.names.Node.TheVariants.{Ap, Sta}
use Rattle.eapol_key.specs.declared.messages.Message.{Message}
use Rattle.eapol_key.specs.declared.messages.Message.TheVariants.{G1, G2}
use Rattle.run_journal.specs.declared.domain.Domain.{Domain}
use Rattle.run_journal.specs.declared.acts.Kind.TheVariants as kind
use Rattle.run_journal.specs.declared.acts.Reason.{Reason}
use Rattle.run_journal.specs.declared.acts.Reason.TheVariants as reason
use Rattle.run_journal.specs.declared.acts.Outcome.TheVariants.{Accepted, Refused}
use Rattle.run_journal.specs.declared.acts.Seal.{Seal}
use Rattle.run_journal.specs.declared.acts.Act.{Act}
use Rattle.run_journal.specs.declared.acts.Act.TheVariants.{Took}
use Rattle.run_journal.specs.declared.reply.Reply.{Reply}
use Rattle.run_journal.specs.Replies.{IsEmpty}
use Rattle.run_journal.specs.declared.acts.GroupKind.TheVariants as groups
use Rattle.run_journal.specs.Acts.{Derivation}
use Rattle.run_journal.specs.Questions.{handshake, add, draws}
use Rattle.group_key.specs.declared.news.News.{News}
use Rattle.domain_rules.specs.Frames.{frame_seal}
use Rattle.domain_rules.specs.Here.{here}
use Rattle.key_hierarchy.specs.declared.inputs.Ptk.{Ptk}
use Rattle.domain_rules.specs.Reading.{KeyMessage, Keyed as KeyedReading}
use Rattle.domain_rules.specs.Verdict.{KnowsOf, KnowsResponse, key_further, and_then, key_verdict}
use Rattle.domain_rules.specs.Asking.{offered, among, verified}
use Rattle.domain_rules.specs.Owing.{owing}
use Rattle.domain_rules.specs.AccessPointKeys.{g2_verdict}
use Rattle.domain_rules.specs.Rows.{By_g2}
use Rattle.domain_rules.proofs.Refused.{no_facts}
use Rattle.domain_rules.proofs.Parts.{same-refl}
use Rattle.domain_rules.proofs.Verdicts.{among-one, among-none, verified-same, verified-other}
use Rattle.authenticator.specs.Counters.{listed}
use Rattle.authenticator.specs.Groups.{offers_for, owes, replied_to, IsUnoffered, IsForgedG2, IsG2, IsRefusedG2}
use Rattle.authenticator.specs.Judged.{Frame}
use Rattle.authenticator.specs.State.{State}
use Rattle.authenticator.specs.Stands.{CountsAt, IsHeld, AuthenticatorStands}
use Rattle.authenticator.specs.Steps.{Steps}
use Rattle.authenticator.specs.Taken.{given, frame_in, told_acts, Comes, StepsFrom}
use Rattle.authenticator.specs.declared.session.Session.{Session}
use Rattle.authenticator.proofs.Handshaking.{counts_newest, counts_answered, owing_none, owing_some, owing_no_session}
use Rattle.authenticator.proofs.Standing.{no_session, held}
use Rattle.authenticator.proofs.Replying.{took_only}
use Rattle.authenticator.proofs.Refusing.{refused_as}
use Rattle.authenticator.proofs.Verified.{same_mic, unresponded_g2, further_none}
use Rattle.authenticator.proofs.Asking.{IsQuiet, attempt_quiet}

-- ---- its verdict

unowed : (d : Domain) (h : List Act) (p : Node) (k : KeyMessage) → owing groups.Gtk p h ≡ None → g2_verdict d h p k ≡ Refused reason.Unawaited
unowed d h p k none = rw none refl

owed_by : (d : Domain) (h : List Act) (p : Node) (k : KeyMessage) (x : Derivation) (offers : List ℕ) → owing groups.Gtk p h ≡ Some x → offered p G1 (handshake groups.Gtk p h) ≡ offers
    → g2_verdict d h p k ≡ among offers k.fields.counter (verified d.akm x.ptk.kck k Accepted)
owed_by d h p k x offers some is = rw (some, is) refl

verdict_held : (d : Domain) (n p : Node) (h : List Act) (k : KeyMessage) (s : Session) (place : ℕ) → IsHeld d n p s h → (at : CountsAt p s place h) → owes place s ≡ true
    → g2_verdict d h p k ≡ among (listed (offers_for place s)) k.fields.counter (verified d.akm s.ptk.kck k Accepted)
verdict_held d n p h k s place has at owed =
    owed_by d h p k has.x (listed (offers_for place s)) (owing_some p s place has.x h at owed has.is) at.offers
    ∙ ap (λ (q : Ptk). among (listed (offers_for place s)) k.fields.counter (verified d.akm q.kck k Accepted)) has.key

counted_g2 : (d : Domain) (n p : Node) (h : List Act) (k : KeyMessage) (s : Session) (place last : ℕ) → IsHeld d n p s h → CountsAt p s place h → IsUnoffered place s k.fields last → g2_verdict d h p k ≡ Refused (reason.Counter last)
counted_g2 d n p h k s place last has at w =
    verdict_held d n p h k s place has at w.owed
    ∙ among-none (listed (offers_for place s)) k.fields.counter (verified d.akm s.ptk.kck k Accepted) w.offer
    ∙ ap (λ (x : ℕ). Refused (reason.Counter x)) (sym w.is)

forged_g2 : (d : Domain) (n p : Node) (h : List Act) (k : KeyMessage) (s : Session) (place : ℕ) (akm : Akm) → akm ≡ d.akm → IsHeld d n p s h → CountsAt p s place h → IsForgedG2 akm place s (frame_in k) → g2_verdict d h p k ≡ Refused reason.Mic
forged_g2 d n p h k s place akm suite has at w =
    verdict_held d n p h k s place has at w.offered.owed
    ∙ among-one (listed (offers_for place s)) k.fields.counter (verified d.akm s.ptk.kck k Accepted) w.offered.offer
    ∙ verified-other d.akm s.ptk.kck k Accepted (λ same. w.other (same ∙ sym (same_mic k.octets suite refl)))

accepted_g2 : (d : Domain) (n p : Node) (h : List Act) (k : KeyMessage) (s : Session) (place : ℕ) (akm : Akm) → akm ≡ d.akm → IsHeld d n p s h → CountsAt p s place h → IsG2 akm place s (frame_in k) → g2_verdict d h p k ≡ Accepted
accepted_g2 d n p h k s place akm suite has at w =
    verdict_held d n p h k s place has at w.offered.owed
    ∙ among-one (listed (offers_for place s)) k.fields.counter (verified d.akm s.ptk.kck k Accepted) w.offered.offer
    ∙ verified-same d.akm s.ptk.kck k Accepted (w.mic_is ∙ same_mic k.octets suite refl)

refused_g2 : (d : Domain) (n p : Node) (h : List Act) (k : KeyMessage) (s : Session) (place : ℕ) (akm : Akm) (why : Reason) → akm ≡ d.akm → IsHeld d n p s h → CountsAt p s place h → IsRefusedG2 akm place s (frame_in k) why → g2_verdict d h p k ≡ Refused why
refused_g2 d n p h k s place akm reason.Unawaited suite has at w = unowed d h p k (owing_none p s place h at w)
refused_g2 d n p h k s place akm (reason.Counter last) suite has at w = counted_g2 d n p h k s place last has at w
refused_g2 d n p h k s place akm reason.Mic suite has at w = forged_g2 d n p h k s place akm suite has at w
refused_g2 d n p h k s place akm why suite has at w = absurd w

-- ---- refused

pub no_g2 : (s : State) (f : Frame) (g : News) (r : Reply) → s.session ≡ None → IsEmpty r → StepsFrom s s (given G2 f g) (Refused reason.Unawaited) r
no_g2 s f g r none e =
    refused_as s (given G2 f g) G2 reason.Unawaited r refl e
    (λ d drawn a sta k h stands same last. unowed d h (Sta sta) k (owing_no_session (Sta sta) h (no_session d (Ap a) (Sta sta) s.session h none stands.session_is)))

pub takes_refused_g2 : (s : State) (t : Session) (f : Frame) (g : News) (why : Reason) (r : Reply) → s.session ≡ Some t → IsRefusedG2 s.ends.akm g.gtk.place t f why → IsEmpty r → StepsFrom s s (given G2 f g) (Refused why) r
takes_refused_g2 s t f g why r some by e =
    refused_as s (given G2 f g) G2 why r refl e
    (λ d drawn a sta k h stands same last.
    (let at = held d (Ap a) (Sta sta) s.session t h some stands.session_is in
    refused_g2 d (Ap a) (Sta sta) h k t g.gtk.place s.ends.akm why stands.ends.akm at (counts_newest (Sta sta) t g.gtk h last at.counts) (subst (λ (x : Frame). IsRefusedG2 s.ends.akm g.gtk.place t x why) (sym same) by)))

-- ---- accepted

quiet_g2 : (p : Node) (octets : List ℕ) (v : Option Seal) → IsQuiet p (Took (Some p) octets (kind.Key G2) Accepted v)
quiet_g2 p octets v = record { opens_none = refl; ends_none = refl; finishes_none = refl; closes_none = refl; no_m1 = refl; no_m3 = refl; no_m2 = rw (same-refl p) refl; no_request = rw (same-refl p) refl; derives_none = refl }

answered_g2 : (d : Domain) (first a : ℕ) (p : Node) (octets : List ℕ) (k : KeyMessage) (s : State) (t : Session) (g : News) (r : Reply) (h : List Act) → Comes (here d first (Ap a)) p (given G2 (frame_in k) g) octets k h
    → AuthenticatorStands d (Ap a) p s h → s.session ≡ Some t → IsG2 s.ends.akm g.gtk.place t (frame_in k) → IsEmpty r
    → Steps (here d first (Ap a)) p octets (told_acts d (Ap a) p (is_some s.session) octets k Accepted (record r { verified = Some t.ptk.kck }) h) (record s { session = Some (replied_to t) }) h
answered_g2 d first a p octets k s t g r h come stands some w e =
    let n = Ap a in
    let from = come.from in
    let is = come.message in
    let at = held d n p s.session t h some stands.session_is in
    let x = at.x in
    let counts = counts_newest p t g.gtk h come.newest.last at.counts in
    let seal = Some (frame_seal t.ptk.kck k.octets) in
    let took = Took (Some p) octets (kind.Key G2) Accepted seal in
    let acts = took_only d n p (is_some s.session) octets k G2 Accepted (record r { verified = Some t.ptk.kck }) (Some t.ptk.kck) h is e.len refl e.derived e.installed e.gtk e.igtk in
    let accepted = from.verdict_is first h ∙ ap (λ (m : Message). key_verdict d (first + draws h) n h p k m) is ∙ accepted_g2 d n p h k t g.gtk.place s.ends.akm stands.ends.akm at counts w in
    record {
      adds = record {
        r = KeyedReading k;
        reads = from.reads;
        facts = no_facts;
        knows = λ far q other. subst (λ (m : Message). KnowsOf d.akm h q m k no_facts × KnowsResponse d.akm h q m no_facts) (sym is) (tt, unresponded_g2 d.akm h q no_facts);
        row = By_g2 (record {
          k = k;
          is = refl;
          message_is = is;
          p = p;
          from = from.from;
          accepted = further_none d first n p h k accepted from.from ∙ ap (λ (m : Message). and_then Accepted (key_further d n h p k m no_facts)) is;
          x = x;
          awaited = owing_some p t g.gtk.place x h counts w.offered.owed at.is;
          says = acts ∙ ap (λ (q : Ptk). Took (Some p) octets (kind.Key G2) Accepted (Some (frame_seal q.kck k.octets)) ∷ []) (sym at.key);
        });
      };
      stands = subst (λ (z : List Act). AuthenticatorStands d n p (record s { session = Some (replied_to t) }) (add z h)) (sym acts)
          (record {
            ends = stands.ends;
            attempt_is = attempt_quiet d n p s.attempt took h (quiet_g2 p octets seal) stands.attempt_is;
            session_is = record { x = x; is = at.is; key = at.key; counts = record { place = g.gtk.place; here = counts_answered p octets seal t g.gtk.place h w.offered.owed counts }; associated = at.associated };
          });
    }

-- what comes, by its own frame
come_by : (d : Domain) (first a : ℕ) (p : Node) (f : Frame) (g : News) (octets : List ℕ) (k : KeyMessage) (h : List Act) → Comes (here d first (Ap a)) p (given G2 f g) octets k h → Comes (here d first (Ap a)) p (given G2 (frame_in k) g) octets k h
come_by d first a p f g octets k h w = record { from = w.from; message = w.message; frame = refl; newest = w.newest; low = w.low }

pub takes_answered : (s : State) (t : Session) (f : Frame) (g : News) (r : Reply) → s.session ≡ Some t → IsG2 s.ends.akm g.gtk.place t f → IsEmpty r
    → StepsFrom s (record s { session = Some (replied_to t) }) (given G2 f g) Accepted (record r { verified = Some t.ptk.kck })
takes_answered s t f g r some by e = λ d first a sta octets k h stands w.
    answered_g2 d first a (Sta sta) octets k s t g r h (come_by d first a (Sta sta) f g octets k h w) stands some (subst (λ (x : Frame). IsG2 s.ends.akm g.gtk.place t x) (sym w.frame) by) e

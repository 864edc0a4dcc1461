-- Messages that change nothing.
use Rattle.std.proofs.Common.{◌+◌, ◌≡◌, ℕ, List, [], ◌∷◌, ◌++◌, Option, Some, None, refl, sym, ap, subst, ◌∙◌}
use Rattle.std.specs.Prelude.{is_some, not, ◌||◌, if◌then◌else◌}
use Rattle.domain_base.specs.declared.names.Node.{Node}
use Rattle.domain_base.specs.declared.names.Node.TheVariants.{Ap, Sta}
use Rattle.eapol_key.specs.declared.messages.Message.{Message}
use Rattle.eapol_key.specs.declared.messages.Message.TheVariants.{M1, M2, M4, G2}
use Rattle.run_journal.specs.declared.domain.Domain.{Domain}
use Rattle.run_journal.specs.declared.acts.Kind.{Kind}
use Rattle.run_journal.specs.declared.acts.Kind.TheVariants as kind
use Rattle.run_journal.specs.declared.acts.Reason.{Reason}
use Rattle.run_journal.specs.declared.acts.Reason.TheVariants as reason
use Rattle.run_journal.specs.declared.acts.Outcome.{Outcome}
use Rattle.run_journal.specs.declared.acts.Outcome.TheVariants.{Accepted, Refused}
use Rattle.run_journal.specs.declared.acts.Seal.{Seal}
use Rattle.run_journal.specs.declared.acts.Act.{Act}
use Rattle.run_journal.specs.declared.acts.Act.TheVariants.{Took}
use Rattle.run_journal.specs.declared.reply.Reply.{Reply}
use Rattle.run_journal.specs.Replies.{IsEmpty}
use Rattle.run_journal.specs.Questions.{attempt, add, draws, group_keys}
use Rattle.run_journal.specs.declared.acts.GroupKind.TheVariants as groups
use Rattle.group_key.specs.Holds.{IsLast}
use Rattle.group_key.specs.declared.keys.GroupKey.{GroupKey}
use Rattle.group_key.specs.declared.news.News.{News}
use Rattle.domain_rules.specs.Here.{here}
use Rattle.domain_rules.specs.Reading.{KeyMessage, Keyed as KeyedReading}
use Rattle.domain_rules.specs.Replies.{IsMessageFrom}
use Rattle.key_hierarchy.specs.Keys.{ptk}
use Rattle.domain_rules.specs.Network.{r0kh_id, inputs_at}
use Rattle.domain_rules.specs.Asking.{start_of, is_four_way, offered, has_heard, own, in_attempt, among, verified}
use Rattle.domain_rules.specs.AccessPointKeys.{secured_rightly, m4_keying, m4_verdict_by}
use Rattle.domain_rules.specs.Verdict.{key_verdict}
use Rattle.domain_rules.specs.Rows.{By_refusal, refused_seal, response}
use Rattle.domain_rules.specs.TransitionRows.{refused_look}
use Rattle.key_hierarchy.specs.declared.fast_transition.PmkR1.{PmkR1}
use Rattle.domain_rules.specs.Closing.{sender}
use Rattle.domain_rules.proofs.Parts.{apart-refused}
use Rattle.domain_rules.proofs.Starts.{roam_no_four_way}
use Rattle.domain_rules.proofs.Refused.{IsRefused, refused_first}
use Rattle.authenticator.specs.State.{State}
use Rattle.authenticator.specs.Stands.{IsNoConnect, AuthenticatorStands}
use Rattle.authenticator.specs.Steps.{Steps}
use Rattle.authenticator.specs.Taken.{Given, given, frame_in, told_acts, StepsFrom}
use Rattle.authenticator.specs.Judged.{Frame}
use Rattle.authenticator.proofs.Standing.{stands_more, no_attempt}
use Rattle.authenticator.proofs.Replying.{only_took}

-- ---- refused, whatever was sealed

-- no message is answered with a response, and no key holder is asked
no_response : (d : Domain) (a : ℕ) (p : Node) (k : KeyMessage) (pulled : Option PmkR1) (why : Reason) → refused_look (Ap a) (Some p) (KeyedReading k) pulled why ++ response d (Ap a) (Some p) (kind.Key k.message) why ≡ []
no_response d a p k pulled why = refl

silent : (d : Domain) (a : ℕ) (p : Node) (from : Option Node) (k : KeyMessage) (pulled : Option PmkR1) (why : Reason) → from ≡ Some p → refused_look (Ap a) from (KeyedReading k) pulled why ++ response d (Ap a) from (kind.Key k.message) why ≡ []
silent d a p from k pulled why is = ap (λ (o : Option Node). refused_look (Ap a) o (KeyedReading k) pulled why ++ response d (Ap a) o (kind.Key k.message) why) is ∙ no_response d a p k pulled why

says_refused : (p : Node) (octets : List ℕ) (m : Kind) (why : Reason) (s other : Option Seal) (from : Option Node) (answer : List Act) → from ≡ Some p → s ≡ other → answer ≡ []
    → Took (Some p) octets m (Refused why) s ∷ [] ≡ Took from octets m (Refused why) other ∷ answer
says_refused p octets m why s other from answer from_is seal_is answer_is = cc

pub steps_refused : (d : Domain) (first a : ℕ) (p : Node) (octets : List ℕ) (k : KeyMessage) (s : State) (why : Reason) (seal : Option Seal) (r : Reply) (h : List Act) → IsMessageFrom d (Ap a) p octets k → AuthenticatorStands d (Ap a) p s h
    → told_acts d (Ap a) p (is_some s.session) octets k (Refused why) r h ≡ Took (Some p) octets (kind.Key k.message) (Refused why) seal ∷ []
    → IsRefused d first (Ap a) h (KeyedReading k) why seal → Steps (here d first (Ap a)) p octets (told_acts d (Ap a) p (is_some s.session) octets k (Refused why) r h) s h
steps_refused d first a p octets k s why seal r h w stands acts refused = record {
  adds = record {
    r = KeyedReading k;
    reads = w.reads;
    facts = refused.facts;
    knows = refused.knows;
    row = By_refusal (record {
      why = why;
      refused = refused.refused;
      says = acts
          ∙ says_refused p octets (kind.Key k.message) why seal (refused_seal d first (Ap a) h (KeyedReading k)) (sender d (Ap a) (KeyedReading k))
          (refused_look (Ap a) (sender d (Ap a) (KeyedReading k)) (KeyedReading k) refused.facts.pulled why ++ response d (Ap a) (sender d (Ap a) (KeyedReading k)) (kind.Key k.message) why) w.from refused.seal_is
          (silent d a p (sender d (Ap a) (KeyedReading k)) k refused.facts.pulled why w.from);
    });
  };
  stands = subst (λ (g : List Act). AuthenticatorStands d (Ap a) p s (add g h)) (sym acts)
      (stands_more d (Ap a) p s (Took (Some p) octets (kind.Key k.message) (Refused why) seal) h (apart-refused p (Some p) octets (kind.Key k.message) why seal) stands);
}

-- ---- refused by the frame and the history alone

pub steps_quiet : (d : Domain) (first a : ℕ) (p : Node) (octets : List ℕ) (k : KeyMessage) (s : State) (why : Reason) (r : Reply) (h : List Act) → IsMessageFrom d (Ap a) p octets k → AuthenticatorStands d (Ap a) p s h → IsEmpty r
    → key_verdict d (first + draws h) (Ap a) h p k k.message ≡ Refused why → Steps (here d first (Ap a)) p octets (told_acts d (Ap a) p (is_some s.session) octets k (Refused why) r h) s h
steps_quiet d first a p octets k s why r h w stands e refused =
    steps_refused d first a p octets k s why None r h w stands (only_took d (Ap a) p (is_some s.session) octets k (Refused why) r None h e.len e.verified e.derived e.installed e.gtk e.igtk)
    (refused_first d first (Ap a) h (KeyedReading k) why (w.verdict_is first h ∙ refused))

-- a message of that name and frame is refused by that newest group key, whatever it came as
abbrev pub IsRefusedAs : State → Message → Frame → GroupKey → Reason → Type 0
IsRefusedAs s m f g why =
    (d : Domain) (drawn a sta : ℕ) (k : KeyMessage) (h : List Act) → AuthenticatorStands d (Ap a) (Sta sta) s h → frame_in k ≡ f → IsLast groups.Gtk g (group_keys groups.Gtk h) → key_verdict d drawn (Ap a) h (Sta sta) k m ≡ Refused why

pub refused_as : (s : State) (x : Given) (m : Message) (why : Reason) (r : Reply) → x.message ≡ m → IsEmpty r → IsRefusedAs s m x.frame x.news.gtk why → StepsFrom s s x (Refused why) r
refused_as s x m why r named e refused = λ d first a sta octets k h stands w.
    steps_quiet d first a (Sta sta) octets k s why r h w.from stands e
    (ap (λ (y : Message). key_verdict d (first + draws h) (Ap a) h (Sta sta) k y) (w.message ∙ named) ∙ refused d (first + draws h) a sta k h stands w.frame w.newest.last)

-- ---- without an attempt by association nothing is awaited

pub unawaited_m2 : (d : Domain) (n : Node) (h : List Act) (p : Node) (k : KeyMessage) (o : Option (List Act)) → IsNoConnect o
    → in_attempt o (λ part. (
    if not (is_four_way part) || has_heard p (kind.Key M2) part then Refused reason.Unawaited
    else secured_rightly d part k (among (offered p M1 part) k.fields.counter
    (verified d.akm (ptk (inputs_at d n p (r0kh_id d n) (own part) k.fields.nonce)).kck k Accepted)))) ≡ Refused reason.Unawaited
unawaited_m2 d n h p k None at = refl
unawaited_m2 d n h p k (Some part) at = rw (roam_no_four_way (start_of part) at) refl

pub no_m2 : (s : State) (f : Frame) (g : News) (r : Reply) → s.attempt ≡ None → IsEmpty r → StepsFrom s s (given M2 f g) (Refused reason.Unawaited) r
no_m2 s f g r none e =
    refused_as s (given M2 f g) M2 reason.Unawaited r refl e
    (λ d drawn a sta k h stands same newest. unawaited_m2 d (Ap a) h (Sta sta) k (attempt (Sta sta) h) (no_attempt d (Ap a) (Sta sta) s.attempt h none stands.attempt_is))

pub unawaited_m4 : (d : Domain) (p : Node) (k : KeyMessage) (o : Option (List Act)) → IsNoConnect o → in_attempt o (λ part. m4_verdict_by d p k part (m4_keying p part)) ≡ Refused reason.Unawaited
unawaited_m4 d p k None at = refl
unawaited_m4 d p k (Some part) at = rw (roam_no_four_way (start_of part) at) refl

pub no_m4 : (s : State) (f : Frame) (g : News) (r : Reply) → s.attempt ≡ None → IsEmpty r → StepsFrom s s (given M4 f g) (Refused reason.Unawaited) r
no_m4 s f g r none e =
    refused_as s (given M4 f g) M4 reason.Unawaited r refl e
    (λ d drawn a sta k h stands same newest. unawaited_m4 d (Sta sta) k (attempt (Sta sta) h) (no_attempt d (Ap a) (Sta sta) s.attempt h none stands.attempt_is))

-- ---- other messages are unawaited

other_message : (d : Domain) (drawn a : ℕ) (h : List Act) (p : Node) (k : KeyMessage) (m : Message) → (m ≡ M2 → ⊥) → (m ≡ M4 → ⊥) → (m ≡ G2 → ⊥) → key_verdict d drawn (Ap a) h p k m ≡ Refused reason.Unawaited
other_message d drawn a h p k M2 other last group = absurd (other refl)
other_message d drawn a h p k M4 other last group = absurd (last refl)
other_message d drawn a h p k G2 other last group = absurd (group refl)
other_message d drawn a h p k m other last group = refl

pub no_other : (s : State) (x : Given) (r : Reply) → (x.message ≡ M2 → ⊥) → (x.message ≡ M4 → ⊥) → (x.message ≡ G2 → ⊥) → IsEmpty r → StepsFrom s s x (Refused reason.Unawaited) r
no_other s x r other last group e = refused_as s x x.message reason.Unawaited r refl e (λ d drawn a sta k h stands same newest. other_message d drawn a h (Sta sta) k x.message other last group)

-- ---- by another name of the message

pub as_message : (old new : State) (m n : Message) (f : Frame) (g : News) (o : Outcome) (r : Reply) → m ≡ n → StepsFrom old new (given n f g) o r → StepsFrom old new (given m f g) o r
as_message old new m n f g o r is steps = subst (λ (x : Message). StepsFrom old new (given x f g) o r) (sym is) steps

-- and by another name of what the authenticator is then
pub steps_to : (old s t : State) (x : Given) (o : Outcome) (r : Reply) → s ≡ t → StepsFrom old s x o r → StepsFrom old t x o r
steps_to old s t x o r is steps = subst (λ (z : State). StepsFrom old z x o r) is steps

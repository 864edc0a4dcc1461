-- How an M2 is judged after the history of an attempt.
use Rattle.std.proofs.Common.{◌≡◌, ℕ, Bool, true, false, cond, List, [], Option, Some, None, refl, sym, ap, subst, ◌∙◌}
use Rattle.std.specs.Prelude.{unwrap_or, is_some, option_map, not, ◌&&◌, if◌then◌else◌}
use Rattle.domain_base.specs.declared.names.Akm.{Akm}
use Rattle.domain_base.specs.declared.names.Akm.TheVariants.{Psk, PskSha256, FtPsk}
use Rattle.domain_base.specs.declared.names.Node.{Node}
use Rattle.domain_base.specs.declared.names.Node.TheVariants.{Ap}
use Rattle.mac_prf.specs.Mic.{mic}
use Rattle.eapol_key.specs.KeyFrame.{KeyFields}
use Rattle.eapol_key.specs.declared.messages.Message.{Message}
use Rattle.eapol_key.specs.declared.messages.Message.TheVariants.{M2, M4, G2}
use Rattle.key_hierarchy.specs.declared.inputs.Inputs.{Inputs}
use Rattle.key_hierarchy.specs.declared.inputs.Ptk.{Ptk}
use Rattle.key_hierarchy.specs.Keys.{ptk}
use Rattle.run_journal.specs.declared.domain.Domain.{Domain}
use Rattle.run_journal.specs.declared.domain.Version.{Version}
use Rattle.run_journal.specs.declared.acts.Kind.TheVariants as kind
use Rattle.run_journal.specs.Questions.{attempt}
use Rattle.run_journal.specs.declared.acts.KeyDataFault.{KeyDataFault}
use Rattle.run_journal.specs.declared.acts.KeyDataFault.TheVariants as fault
use Rattle.run_journal.specs.declared.acts.Outcome.{Outcome}
use Rattle.run_journal.specs.declared.acts.Outcome.TheVariants.{Accepted, Refused}
use Rattle.run_journal.specs.declared.acts.Reason.{Reason}
use Rattle.run_journal.specs.declared.acts.Reason.TheVariants as reason
use Rattle.run_journal.specs.declared.acts.Act.{Act}
use Rattle.run_journal.specs.declared.reply.Keyed.{Keyed}
use Rattle.node_base.specs.declared.ends.Ends.{Ends}
use Rattle.node_base.specs.Ends.{AreEnds}
use Rattle.domain_rules.specs.Network.{has_renewals, inputs, peer_of}
use Rattle.domain_rules.specs.FastTransition.{r1_name, assoc_fte, is_named}
use Rattle.domain_rules.specs.TransitionKeyData.{is_domain, has_same_suites, requested_suites, ft_m2_key_data}
use Rattle.rsn_elements.specs.declared.framing.Within.TheVariants.{Body}
use Rattle.rsn_elements.specs.Rsne.{RsneFields}
use Rattle.rsn_elements.specs.Transition.{MdeFields}
use Rattle.rsn_elements.specs.Elements.{ElementFields, SpellsElements}
use Rattle.rsn_elements.specs.Sent.{fte_octets}
use Rattle.domain_rules.specs.Reading.{KeyMessage, Keyed as KeyedReading}
use Rattle.domain_rules.specs.Replies.{inputs_by}
use Rattle.domain_rules.specs.Frames.{frame_seal}
use Rattle.domain_rules.specs.Facts.{Facts, is_same}
use Rattle.domain_rules.specs.AccessPointKeys.{is_secured_rightly, KnowsM2, IsRequested, m2_verdict, m2_key_data}
use Rattle.domain_rules.specs.Verdict.{KnowsOf, KnowsResponse, first_verdict, m2_further, key_further, further_from, further, and_then, verdict}
use Rattle.domain_rules.specs.Asking.{is_four_way, is_secure, has_heard, own, among, verified}
use Rattle.domain_rules.specs.Closing.{sender}
use Rattle.domain_rules.specs.Rows.{seal_in, message_seal}
use Rattle.domain_rules.proofs.Refused.{no_facts}
use Rattle.domain_rules.proofs.SuiteWords.{m2_further_suite}
use Rattle.domain_rules.proofs.Verdicts.{m2-in, among-one, among-none, verified-same, verified-other}
use Rattle.authenticator.specs.Counters.{listed}
use Rattle.frame_making.specs.Mobile.{Mobility}
use Rattle.frame_making.proofs.MobileData.{same_mobility}
use Rattle.frame_making.specs.KeyData.{IsMobility}
use Rattle.authenticator.specs.Bases.{home}
use Rattle.authenticator.specs.KeyData.{key_data_outcome, is_named_by, has_mdid, mobile_fault, mobile_data, SaysKeyData, IsKeyDataOf}
use Rattle.authenticator.proofs.RsneAlone.{rsne_alone}
use Rattle.authenticator.specs.State.{State}
use Rattle.authenticator.specs.Stands.{IsUnderWay, AuthenticatorStands}
use Rattle.authenticator.specs.Taken.{frame_in}
use Rattle.authenticator.specs.declared.attempt.Attempt.{Attempt}
use Rattle.node_base.specs.PairwiseKeys.{key_with}
use Rattle.authenticator.specs.Judged.{is_secured_by, awaits_m2, IsCounted, IsForged, IsVerified, IsRefusedM2}
use Rattle.node_base.proofs.EndsKeys.{key_is, is_key_of}
use Rattle.authenticator.proofs.Deciding.{none_by}
use Rattle.authenticator.proofs.Standing.{renewal_by, four_way_by, under_way}

-- the attempt of an access point's authenticator is under way
pub record IsOn (d : Domain) (a : ℕ) (p : Node) (s : State) (t : Attempt) (h : List Act) : Type 0 where
  pub ends : AreEnds d (Ap a) p s.ends
  pub trial : IsUnderWay d (Ap a) p t h

pub on_by : (d : Domain) (a : ℕ) (p : Node) (s : State) (t : Attempt) (h : List Act) → s.attempt ≡ Some t → AuthenticatorStands d (Ap a) p s h → IsOn d a p s t h
on_by d a p s t h is stands = record { ends = stands.ends; trial = under_way d (Ap a) p s.attempt t h is stands.attempt_is }

-- the key that both sides derive
kck_is : (d : Domain) (a : ℕ) (p : Node) (s : State) (t : Attempt) (snonce : List ℕ) (h : List Act) → IsOn d a p s t h → (key_with s.ends t.association.base.pmk t.anonce snonce).ptk.kck ≡ (ptk (inputs d (home d (Ap a) p) (Ap a) p t.anonce snonce)).kck
kck_is d a p s t snonce h on = ap (λ (x : Ptk). x.kck) (key_is d (home d (Ap a) p) (Ap a) p s.ends t.association.base.pmk (key_with s.ends t.association.base.pmk t.anonce snonce) on.ends on.trial.associated.base.pmk refl)

pub same_mic : {x y : Akm} {u v : List ℕ} (octets : List ℕ) → x ≡ y → u ≡ v → mic x u octets ≡ mic y v octets
same_mic octets e f = rw (e, f) refl

-- ---- refusals before its MIC verified

-- Secure stands as the code finds it
secured_is : (d : Domain) (n p : Node) (l : Ends) (t : Attempt) (h : List Act) (k : KeyMessage) → AreEnds d n p l → (at : IsUnderWay d n p t h) → is_secured_rightly d at.part k ≡ is_secured_by l.version t.renews k.fields.information
secured_is d n p l t h k ends at =
    ap (λ (b : Bool). cond (has_renewals d) (cond b (is_secure k) (not (is_secure k))) true) (renewal_by t.renews at.part at.begun)
    ∙ sym (ap (λ (v : Version). is_secured_by v t.renews k.fields.information) ends.version)

both_of : (b c : Bool) → (not b && c) ≡ true → (b ≡ false) × (c ≡ true)
both_of false true is = (refl, refl)
both_of false false is = absurd (cc is)
both_of true c is = absurd (cc is)

-- no M2 was accepted
pub none_agreed : (l : Ends) (a : Attempt) (f : KeyFields) → awaits_m2 l a f ≡ true → a.agreed ≡ None
none_agreed l a f awaited = none_by a.agreed (both_of (is_some a.agreed) (is_secured_by l.version a.renews f.information) awaited).0

m2_by : (d : Domain) (a : ℕ) (p : Node) (s : State) (t : Attempt) (h : List Act) (k : KeyMessage) → IsOn d a p s t h → awaits_m2 s.ends t k.fields ≡ true
    → m2_verdict d (Ap a) h p k ≡ among (listed t.m1s) k.fields.counter (verified d.akm (ptk (inputs d (home d (Ap a) p) (Ap a) p t.anonce k.fields.nonce)).kck k Accepted)
m2_by d a p s t h k on awaited =
    let w = both_of (is_some t.agreed) (is_secured_by s.ends.version t.renews k.fields.information) awaited in
    m2-in d (Ap a) h p k on.trial.part false (listed t.m1s) t.anonce on.trial.is (four_way_by t.renews on.trial.part on.trial.begun) (on.trial.answered ∙ w.0) (secured_is d (Ap a) p s.ends t h k on.ends on.trial ∙ w.1) on.trial.m1_offers on.trial.nonce

unawaited_by : (o : Outcome) (a s : Bool) → (not a && s) ≡ false → (if a then Refused reason.Unawaited else (if s then o else Refused reason.Unawaited)) ≡ Refused reason.Unawaited
unawaited_by o true s none = refl
unawaited_by o false true none = absurd (cc none)
unawaited_by o false false none = refl

m2_unawaited : (d : Domain) (n : Node) (h : List Act) (p : Node) (k : KeyMessage) (part : List Act) (a s : Bool) → attempt p h ≡ Some part → is_four_way part ≡ true → has_heard p (kind.Key M2) part ≡ a → is_secured_rightly d part k ≡ s → (not a && s) ≡ false
    → m2_verdict d n h p k ≡ Refused reason.Unawaited
m2_unawaited d n h p k part a s is begun heard secured none = rw (is, begun, heard, secured) (unawaited_by _ a s none)

unawaited_m2 : (d : Domain) (a : ℕ) (p : Node) (s : State) (t : Attempt) (h : List Act) (k : KeyMessage) → IsOn d a p s t h → awaits_m2 s.ends t k.fields ≡ false → m2_verdict d (Ap a) h p k ≡ Refused reason.Unawaited
unawaited_m2 d a p s t h k on none =
    m2_unawaited d (Ap a) h p k on.trial.part (is_some t.agreed) (is_secured_by s.ends.version t.renews k.fields.information) on.trial.is (four_way_by t.renews on.trial.part on.trial.begun) on.trial.answered (secured_is d (Ap a) p s.ends t h k on.ends on.trial) none

counted_m2 : (d : Domain) (a : ℕ) (p : Node) (s : State) (t : Attempt) (h : List Act) (k : KeyMessage) (last : ℕ) → IsOn d a p s t h → IsCounted s.ends t k.fields last → m2_verdict d (Ap a) h p k ≡ Refused (reason.Counter last)
counted_m2 d a p s t h k last on w =
    m2_by d a p s t h k on w.awaited ∙ among-none (listed t.m1s) k.fields.counter (verified d.akm (ptk (inputs d (home d (Ap a) p) (Ap a) p t.anonce k.fields.nonce)).kck k Accepted) w.offer
    ∙ ap (λ (x : ℕ). Refused (reason.Counter x)) (sym w.is)

forged_m2 : (d : Domain) (a : ℕ) (p : Node) (s : State) (t : Attempt) (h : List Act) (k : KeyMessage) → IsOn d a p s t h → IsForged s.ends t (frame_in k) → m2_verdict d (Ap a) h p k ≡ Refused reason.Mic
forged_m2 d a p s t h k on w =
    m2_by d a p s t h k on w.awaited.awaited
    ∙ among-one (listed t.m1s) k.fields.counter (verified d.akm (ptk (inputs d (home d (Ap a) p) (Ap a) p t.anonce k.fields.nonce)).kck k Accepted) w.awaited.offer
    ∙ verified-other d.akm (ptk (inputs d (home d (Ap a) p) (Ap a) p t.anonce k.fields.nonce)).kck k Accepted (λ same. w.other (same ∙ sym (same_mic k.octets on.ends.akm (kck_is d a p s t k.fields.nonce h on))))

pub refused_m2 : (d : Domain) (a : ℕ) (p : Node) (s : State) (t : Attempt) (h : List Act) (k : KeyMessage) (why : Reason) → IsOn d a p s t h → IsRefusedM2 s.ends t (frame_in k) why
    → m2_verdict d (Ap a) h p k ≡ Refused why
refused_m2 d a p s t h k reason.Unawaited on w = unawaited_m2 d a p s t h k on w
refused_m2 d a p s t h k (reason.Counter last) on w = counted_m2 d a p s t h k last on w
refused_m2 d a p s t h k reason.Mic on w = forged_m2 d a p s t h k on w
refused_m2 d a p s t h k why on w = absurd w

-- ---- its MIC verified

pub accepted_m2 : (d : Domain) (a : ℕ) (p : Node) (s : State) (t : Attempt) (h : List Act) (k : KeyMessage) (y : Keyed) (fault : Option KeyDataFault) → IsOn d a p s t h → IsVerified s.ends t (frame_in k) y fault
    → m2_verdict d (Ap a) h p k ≡ Accepted
accepted_m2 d a p s t h k y fault on w =
    m2_by d a p s t h k on w.awaited.awaited
    ∙ among-one (listed t.m1s) k.fields.counter (verified d.akm (ptk (inputs d (home d (Ap a) p) (Ap a) p t.anonce k.fields.nonce)).kck k Accepted) w.awaited.offer
    ∙ verified-same d.akm (ptk (inputs d (home d (Ap a) p) (Ap a) p t.anonce k.fields.nonce)).kck k Accepted (w.mic_is ∙ same_mic k.octets on.ends.akm (kck_is d a p s t k.fields.nonce h on))

-- the key of the reply
pub key_by_m2 : (d : Domain) (a : ℕ) (p : Node) (s : State) (t : Attempt) (h : List Act) (k : KeyMessage) (y : Keyed) (fault : Option KeyDataFault) → IsOn d a p s t h → IsVerified s.ends t (frame_in k) y fault
    → y.ptk ≡ ptk (inputs_by d (home d (Ap a) p) (Ap a) p y)
key_by_m2 d a p s t h k y fault on w = key_is d (home d (Ap a) p) (Ap a) p s.ends t.association.base.pmk y on.ends on.trial.associated.base.pmk (is_key_of s.ends t.association.base.pmk t.anonce k.fields.nonce y w.key)

pub inputs_of_m2 : (d : Domain) (a : ℕ) (p : Node) (s : State) (t : Attempt) (h : List Act) (k : KeyMessage) (y : Keyed) (fault : Option KeyDataFault) (on : IsOn d a p s t h) → IsVerified s.ends t (frame_in k) y fault
    → inputs_by d (home d (Ap a) p) (Ap a) p y ≡ inputs d (home d (Ap a) p) (Ap a) p (own on.trial.part) k.fields.nonce
inputs_of_m2 d a p s t h k y fault on w =
    ap (inputs_by d (home d (Ap a) p) (Ap a) p) w.key ∙ sym (ap (λ (o : Option (List ℕ)). inputs d (home d (Ap a) p) (Ap a) p (unwrap_or o []) k.fields.nonce) on.trial.nonce)

-- what comes of the key data with suite 4, as the definitions have it
named_is : (name : List ℕ) (e : ElementFields) → is_named_by name e.rsne ≡ is_named name e
named_is name e = refl

domain_is : (d : Domain) (o : Option MdeFields) → has_mdid d.mdid o ≡ is_domain d o
domain_is d None = refl
domain_is d (Some f) = refl

three : (a b c : Bool) → (if not a then Refused (reason.KeyData fault.Rsne) else if not b then Refused (reason.KeyData fault.Mde) else if c then Accepted else Refused (reason.KeyData fault.Fte))
    ≡ key_data_outcome (if not a then Some fault.Rsne else if not b then Some fault.Mde else if c then None else Some fault.Fte)
three false b c = refl
three true false c = refl
three true true false = refl
three true true true = refl

mobile_said : (d : Domain) (n : Node) (name : List ℕ) (requested : Option ElementFields) (e : ElementFields)
    → ft_m2_key_data d n name requested (Some e) ≡ key_data_outcome (mobile_fault (record { name = name; mdid = d.mdid; fte = fte_octets (assoc_fte d n) }) (requested_suites requested) e)
mobile_said d n name requested e =
    let suites : Bool = has_same_suites e.rsne (requested_suites requested) && is_named_by name e.rsne in
    let fte : Bool = is_same e.fte_octets (Some (fte_octets (assoc_fte d n))) in
    ap (λ (b : Bool). (if not suites then Refused (reason.KeyData fault.Rsne) else if not b then Refused (reason.KeyData fault.Mde) else if fte then Accepted else Refused (reason.KeyData fault.Fte))) (sym (domain_is d e.mde))
    ∙ three suites (has_mdid d.mdid e.mde) fte

mobile_data_said : (d : Domain) (n : Node) (name : List ℕ) (requested says : Option ElementFields)
    → ft_m2_key_data d n name requested says ≡ key_data_outcome (mobile_data (record { name = name; mdid = d.mdid; fte = fte_octets (assoc_fte d n) }) (requested_suites requested) says)
mobile_data_said d n name requested None = refl
mobile_data_said d n name requested (Some e) = mobile_said d n name requested e

-- what reading further tells of it
pub record IsTold (d : Domain) (n p : Node) (h : List Act) (k : KeyMessage) (fault : Option KeyDataFault) : Type 0 where
  pub facts : Facts
  pub knows : KnowsM2 d.akm h p k facts
  pub outcome : m2_further d.akm d n p facts ≡ key_data_outcome fault

abbrev m2_facts : ElementFields → Option ElementFields → Facts
m2_facts e says = record { requested = Some e; responded = None; unwrapped = None; data_ = says; pulled = None; opened = None; unwrapped_igtk = None; kept = 0 }

-- by suite: where there is nothing to add, and with suite 4
said_by : (d : Domain) (n p : Node) (o : Option Mobility) (rsne : List ℕ) (e : ElementFields) (says : Option ElementFields) (fault : Option KeyDataFault) → IsMobility d (inputs d (home d n p) n p [] []) (fte_octets (assoc_fte d n)) o → Some rsne ≡ e.rsne_octets
    → (f : ElementFields) → SpellsElements Body rsne f → f.rsne ≡ e.rsne → SaysKeyData o rsne says fault → m2_further d.akm d n p (m2_facts e says) ≡ key_data_outcome fault
said_by d n p None rsne e says fault other is f spelled same says_is =
    m2_further_suite d.akm d n p (m2_facts e says) other ∙ ap (λ (x : Option (List ℕ)). m2_key_data x says) (sym is) ∙ says_is
said_by d n p (Some m) rsne e says fault mobile is f spelled same says_is =
    let name : List ℕ = r1_name (inputs d (home d n p) n p [] []) in
    let m_is : m ≡ record { name = name; mdid = d.mdid; fte = fte_octets (assoc_fte d n) } = same_mobility m name d.mdid (fte_octets (assoc_fte d n)) mobile.1 mobile.2 mobile.3 in
    ap (λ (akm : Akm). m2_further akm d n p (m2_facts e says)) mobile.0
    ∙ mobile_data_said d n name (Some e) says
    ∙ ap key_data_outcome (
    ap (λ (x : Mobility). mobile_data x e.rsne says) (sym m_is) ∙ ap (λ (x : Option RsneFields). mobile_data m x says) (sym same) ∙ says_is f spelled
    )

pub told : (d : Domain) (n p : Node) (t : Attempt) (h : List Act) (k : KeyMessage) (fault : Option KeyDataFault) → IsUnderWay d n p t h → IsKeyDataOf t.association.base.mobility t.association.rsne k.fields.key_data fault → IsTold d n p h k fault
told d n p t h k fault at says =
    let w = at.associated in
    let e : ElementFields = w.rsne.0 in
    let alone = rsne_alone d.akm w.request e t.association.rsne w.rsne.1.0 w.rsne.1.1 in
    record {
      facts = m2_facts e says.says;
      knows = record { requested = subst (λ (x : Option (List ℕ)). IsRequested d.akm x (Some e)) (sym w.heard_last) w.rsne.1.0; data_ = says.reads };
      outcome = said_by d n p t.association.base.mobility t.association.rsne e says.says fault w.base.mobility w.rsne.1.1 alone.0 alone.1.0 alone.1.1 says.is;
    }

-- M2, M4 and G2 are not taken by an association response
pub unresponded_m2 : (akm : Akm) (h : List Act) (p : Node) (facts : Facts) → KnowsResponse akm h p M2 facts
unresponded_m2 Psk h p facts = tt
unresponded_m2 PskSha256 h p facts = tt
unresponded_m2 FtPsk h p facts = tt

pub unresponded_m4 : (akm : Akm) (h : List Act) (p : Node) (facts : Facts) → KnowsResponse akm h p M4 facts
unresponded_m4 Psk h p facts = tt
unresponded_m4 PskSha256 h p facts = tt
unresponded_m4 FtPsk h p facts = tt

pub unresponded_g2 : (akm : Akm) (h : List Act) (p : Node) (facts : Facts) → KnowsResponse akm h p G2 facts
unresponded_g2 Psk h p facts = tt
unresponded_g2 PskSha256 h p facts = tt
unresponded_g2 FtPsk h p facts = tt

pub knows_from : (d : Domain) (n p : Node) (h : List Act) (k : KeyMessage) (facts : Facts) → k.message ≡ M2 → sender d n (KeyedReading k) ≡ Some p → KnowsM2 d.akm h p k facts
    → (q : Node) → peer_of d n k.header.a2 ≡ Some q → KnowsOf d.akm h q k.message k facts × KnowsResponse d.akm h q k.message facts
knows_from d n p h k facts is from knows q other =
    let same : p ≡ q = cc (sym from ∙ other) in (
      subst (λ (x : Node). KnowsOf d.akm h x k.message k facts) same (subst (λ (x : Message). KnowsOf d.akm h p x k facts) (sym is) knows),
      subst (λ (x : Message). KnowsResponse d.akm h q x facts) (sym is) (unresponded_m2 d.akm h q facts),
    )

judged_then : (fault : Option KeyDataFault) → and_then Accepted (key_data_outcome fault) ≡ key_data_outcome fault
judged_then None = refl
judged_then (Some f) = refl

pub verdict_by : (d : Domain) (first : ℕ) (n p : Node) (h : List Act) (k : KeyMessage) (fault : Option KeyDataFault) (w : IsTold d n p h k fault) → k.message ≡ M2 → peer_of d n k.header.a2 ≡ Some p
    → first_verdict d first n h (KeyedReading k) ≡ Accepted → verdict d first n h (KeyedReading k) w.facts ≡ key_data_outcome fault
verdict_by d first n p h k fault w is from first_is =
    ap (λ (o : Outcome). and_then o (further d first n h (KeyedReading k) w.facts)) first_is
    ∙ ap (λ (q : Option Node). and_then Accepted (further_from q (λ (z : Node). key_further d n h z k k.message w.facts))) from
    ∙ ap (λ (m : Message). and_then Accepted (key_further d n h p k m w.facts)) is
    ∙ ap (λ (o : Outcome). and_then Accepted o) w.outcome ∙ judged_then fault

-- where reading tells nothing further of the message
pub further_none : (d : Domain) (first : ℕ) (n p : Node) (h : List Act) (k : KeyMessage) → first_verdict d first n h (KeyedReading k) ≡ Accepted → peer_of d n k.header.a2 ≡ Some p
    → verdict d first n h (KeyedReading k) no_facts ≡ and_then Accepted (key_further d n h p k k.message no_facts)
further_none d first n p h k accepted from =
    ap (λ (o : Outcome). and_then o (further d first n h (KeyedReading k) no_facts)) accepted
    ∙ ap (λ (q : Option Node). and_then Accepted (further_from q (λ (z : Node). key_further d n h z k k.message no_facts))) from

-- what was sealed
pub seal_by : (d : Domain) (a : ℕ) (p : Node) (s : State) (t : Attempt) (h : List Act) (k : KeyMessage) (y : Keyed) (fault : Option KeyDataFault) (on : IsOn d a p s t h) → IsVerified s.ends t (frame_in k) y fault
    → k.message ≡ M2 → sender d (Ap a) (KeyedReading k) ≡ Some p → Some (frame_seal y.ptk.kck k.octets) ≡ seal_in d (Ap a) h (KeyedReading k)
seal_by d a p s t h k y fault on w is from =
    ap (λ (x : Ptk). Some (frame_seal x.kck k.octets)) (key_by_m2 d a p s t h k y fault on w) ∙ ap (λ (x : Inputs). Some (frame_seal (ptk x).kck k.octets)) (inputs_of_m2 d a p s t h k y fault on w)
    ∙ sym (
    ap (λ (o : Option Node). message_seal d (Ap a) h k k.message o) from ∙ ap (λ (m : Message). message_seal d (Ap a) h k m (Some p)) is
    ∙ ap (option_map (λ (part : List Act). frame_seal (ptk (inputs d (home d (Ap a) p) (Ap a) p (own part) k.fields.nonce)).kck k.octets)) on.trial.is
    )

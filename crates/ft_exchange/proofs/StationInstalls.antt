-- What a reassociation response is judged as, by the originator that stands for the history of its station.
use Rattle.std.proofs.Common.{◌≡◌, ◌∙◌, ℕ, Bool, true, false, cond, List, Option, Some, None, refl, sym, ap, subst}
use Rattle.std.specs.Prelude.{◌==◌, ◌&&◌, ◌||◌, not, if◌then◌else◌}
use Rattle.domain_base.specs.declared.names.Node.TheVariants.{Ap, Sta}
use Rattle.rsn_elements.specs.Transition.{FteFields}
use Rattle.rsn_elements.specs.Elements.{ElementFields}
use Rattle.run_journal.specs.declared.domain.Domain.{Domain}
use Rattle.run_journal.specs.Events.{protects}
use Rattle.run_journal.specs.declared.acts.Reason.{Reason}
use Rattle.run_journal.specs.declared.acts.Reason.TheVariants as reason
use Rattle.run_journal.specs.declared.acts.Outcome.{Outcome}
use Rattle.run_journal.specs.declared.acts.Outcome.TheVariants.{Accepted, Refused}
use Rattle.run_journal.specs.declared.acts.Seal.{Seal}
use Rattle.run_journal.specs.declared.reply.Keyed.{Keyed}
use Rattle.run_journal.specs.declared.acts.Act.{Act}
use Rattle.run_journal.specs.Acts.{Derivation}
use Rattle.domain_rules.specs.Network.{address, root_at}
use Rattle.domain_rules.specs.Reading.{Management}
use Rattle.domain_rules.specs.Facts.{IsUnwrapped}
use Rattle.domain_rules.specs.Replies.{key_by}
use Rattle.domain_rules.specs.Suites.{without_status}
use Rattle.domain_base.specs.declared.names.Mac.{Mac}
use Rattle.domain_rules.specs.FastTransition.{r1_name, names_both, counts_three, is_named, named, or_status, to_unwrap, gtk_in, igtk_to_unwrap, is_wrapped_gtk, has_igtk, fte_verified}
use Rattle.domain_rules.specs.TransitionKeys.{re_resp_keying, re_resp_covered, re_resp_mic, re_resp_verdict, unwraps, re_resp_names, re_resp_further, re_resp_sealed, re_resp_seal, KnowsGtk}
use Rattle.ft_exchange.specs.Elements.{elements_status}
use Rattle.ft_exchange.specs.Group.{IsOpened, AreOpened, plain_of, is_bad, has_bad, carries_keys}
use Rattle.ft_exchange.specs.Judged.{Wanted, unless, outcome_by, reassociation_reason, opened_reason}
use Rattle.ft_exchange.specs.State.{OriginatorState}
use Rattle.ft_exchange.specs.Stands.{IsUnderWay, HasStage, OriginatorStands}
use Rattle.ft_exchange.specs.Exchange.{wanted_by, response_between, response_tried}
use Rattle.ft_exchange.specs.Told.{taken_seal}
use Rattle.ft_exchange.specs.Tried.{input_of, has_nonces_of, tried, tried_reason, verified_key}
use Rattle.ft_exchange.specs.declared.group.Opened.{Opened}
use Rattle.ft_exchange.specs.declared.group.Opened.TheVariants.{Nothing, Bad, Plain}
use Rattle.ft_exchange.specs.declared.group.Unwrapped.{Unwrapped}
use Rattle.ft_exchange.specs.declared.mic.Tried.{Tried}
use Rattle.ft_exchange.specs.declared.mic.Tried.TheVariants as tries
use Rattle.ft_exchange.specs.declared.originator.Stage.{Stage}
use Rattle.ft_exchange.specs.declared.originator.Stage.TheVariants as stage
use Rattle.ft_exchange.specs.declared.originator.Transit.{Transit}
use Rattle.ft_exchange.proofs.Outcomes.{out_unless, out_status, elements_are}
use Rattle.ft_exchange.proofs.Trying.{out_or, tried_out, noted_by, tried_noted}
use Rattle.ft_exchange.proofs.StationFrames.{root_is}

-- the key of the attempt
abbrev pub key_in : Domain → ℕ → ℕ → OriginatorState → Transit → Derivation
key_in d sta a s t = key_by d (root_at d (Sta sta) s.r0kh_id) (Sta sta) (Ap a) t.key

pub under_way : (d : Domain) (sta a : ℕ) (s : OriginatorState) (t : Transit) (h : List Act) → OriginatorStands d (Sta sta) (Ap a) s h → s.stage ≡ stage.Keyed t → IsUnderWay d (Sta sta) (Ap a) s (Some t) h
under_way d sta a s t h st at = subst (λ (x : Stage). HasStage d (Sta sta) (Ap a) s x h) at st.stage_is

pub keying_is : (d : Domain) (sta a : ℕ) (s : OriginatorState) (t : Transit) (h : List Act) → OriginatorStands d (Sta sta) (Ap a) s h → s.stage ≡ stage.Keyed t → re_resp_keying (Ap a) h ≡ Some (key_in d sta a s t)
keying_is d sta a s t h st at =
    let u : IsUnderWay d (Sta sta) (Ap a) s (Some t) h = under_way d sta a s t h st at in
    rw (u.is, u.begun, u.hears) u.keyed.0

-- ---- nonces and MIC

covered_is : (d : Domain) (sta a : ℕ) (s : OriginatorState) (h : List Act) (e : ElementFields) → OriginatorStands d (Sta sta) (Ap a) s h → input_of (response_between s) e ≡ re_resp_covered d (Sta sta) (Ap a) e
covered_is d sta a s h e st = rw (st.own, st.peer) refl

mic_reason : (d : Domain) (sta a : ℕ) (s : OriginatorState) (t : Transit) (e : ElementFields) (o : Option FteFields) → e.fte ≡ o
    → re_resp_mic d (Sta sta) (Ap a) e (key_in d sta a s t) o ≡ out_or Accepted (tried_reason (tried t.key o (re_resp_covered d (Sta sta) (Ap a) e)))
mic_reason d sta a s t e None has = refl
mic_reason d sta a s t e (Some f) has =
    ap (λ (x : Option FteFields). if has_nonces_of f t.key then fte_verified t.key.ptk.kck x (re_resp_covered d (Sta sta) (Ap a) e) Accepted else Refused reason.Nonce) has
    ∙ sym (tried_out t.key f (re_resp_covered d (Sta sta) (Ap a) e) Accepted)

by_status : (b : Bool) (x : Outcome) (t : Tried) → x ≡ out_or Accepted (tried_reason t) → (if b then x else Accepted) ≡ out_or Accepted (tried_reason (if b then t else tries.Nothing))
by_status true x t is = is
by_status false x t is = refl

pub resp_tried : (d : Domain) (sta a : ℕ) (s : OriginatorState) (t : Transit) (h : List Act) (b : Management) (e : ElementFields) → OriginatorStands d (Sta sta) (Ap a) s h → s.stage ≡ stage.Keyed t
    → re_resp_verdict d (Sta sta) h (Ap a) b e ≡ out_or Accepted (tried_reason (response_tried s t.key b.status e))
resp_tried d sta a s t h b e st at =
    rw (keying_is d sta a s t h st at, covered_is d sta a s h e st)
    (by_status (b.status == 0) (re_resp_mic d (Sta sta) (Ap a) e (key_in d sta a s t) e.fte) (tried t.key e.fte (re_resp_covered d (Sta sta) (Ap a) e)) (mic_reason d sta a s t e e.fte refl))

pub resp_none : (d : Domain) (sta a : ℕ) (s : OriginatorState) (h : List Act) (b : Management) (e : ElementFields) → OriginatorStands d (Sta sta) (Ap a) s h → ((t : Transit) → s.stage ≡ stage.Keyed t → ⊥)
    → re_resp_verdict d (Sta sta) h (Ap a) b e ≡ Refused reason.Unawaited
resp_none d sta a s h b e st other = by s.stage refl st.stage_is
  where
    by : (x : Stage) → s.stage ≡ x → HasStage d (Sta sta) (Ap a) s x h → re_resp_verdict d (Sta sta) h (Ap a) b e ≡ Refused reason.Unawaited
    by stage.Asked is u = rw (u.is, u.begun, u.hears) refl
    by (stage.Keyed t) is u = absurd (other t is)
    by stage.Done is none = rw none refl

-- its seal
seal_by : (b : Bool) (y : Keyed) (f : Option FteFields) (c : Option (List ℕ)) → tried_reason (if b then tried y f c else tries.Nothing) ≡ None
    → taken_seal c (verified_key y (if b then tried y f c else tries.Nothing)) ≡ cond b (noted_by y.ptk.kck f c) None
seal_by true y f c right = tried_noted y f c right
seal_by false y f None right = refl
seal_by false y f (Some input) right = refl

sealed_is : (x : Derivation) (f : Option FteFields) (c : Option (List ℕ)) → re_resp_sealed (Some x) f c ≡ noted_by x.ptk.kck f c
sealed_is x None c = refl
sealed_is x (Some f) None = refl
sealed_is x (Some f) (Some input) = refl

pub resp_seal : (d : Domain) (sta a : ℕ) (s : OriginatorState) (t : Transit) (h : List Act) (b : Management) (e : ElementFields) → OriginatorStands d (Sta sta) (Ap a) s h → s.stage ≡ stage.Keyed t
    → tried_reason (response_tried s t.key b.status e) ≡ None
    → taken_seal (re_resp_covered d (Sta sta) (Ap a) e) (verified_key t.key (response_tried s t.key b.status e)) ≡ re_resp_seal d (Sta sta) h (Ap a) b e
resp_seal d sta a s t h b e st at right =
    let c : Option (List ℕ) = re_resp_covered d (Sta sta) (Ap a) e in
    let same : response_tried s t.key b.status e ≡ (if b.status == 0 then tried t.key e.fte c else tries.Nothing) = ap (λ (x : Option (List ℕ)). if b.status == 0 then tried t.key e.fte x else tries.Nothing) (covered_is d sta a s h e st) in
    ap (λ (x : Tried). taken_seal c (verified_key t.key x)) same
    ∙ seal_by (b.status == 0) t.key e.fte c (ap tried_reason (sym same) ∙ right)
    ∙ ap (λ (x : Option Seal). cond (b.status == 0) x None) (sym (sealed_is (key_in d sta a s t) e.fte c))
    ∙ ap (λ (x : Option Derivation). cond (b.status == 0) (re_resp_sealed x e.fte c) None) (sym (keying_is d sta a s t h st at))

-- ---- behind the MIC

three_tests : (b c : Bool) (x y : Reason) → (if b then (if c then Accepted else Refused y) else Refused x) ≡ outcome_by (unless b x (unless c y None))
three_tests true true x y = refl
three_tests true false x y = refl
three_tests false c x y = refl

pub names_by : (x : Wanted) (e : ElementFields) (carries : Bool)
    → without_status (elements_status x.mfp x.mdid e) (or_status 55 (counts_three e.fte && names_both x.r1kh_id x.r0kh_id e.fte && carries) (named x.name e Accepted)) ≡ outcome_by (reassociation_reason x e carries)
names_by x e carries =
    ap (λ (o : Outcome). without_status (elements_status x.mfp x.mdid e) o) (three_tests (counts_three e.fte && names_both x.r1kh_id x.r0kh_id e.fte && carries) (is_named x.name e) (reason.Status 55) reason.Name)
    ∙ sym (out_status (elements_status x.mfp x.mdid e) (unless (counts_three e.fte && names_both x.r1kh_id x.r0kh_id e.fte && carries) (reason.Status 55) (unless (is_named x.name e) reason.Name None)))

all_tests : (a b c : Bool) → (a && b && c) ≡ (a && (b && c))
all_tests true b c = refl
all_tests false b c = refl

names_reason : (d : Domain) (sta a : ℕ) (s : OriginatorState) (t : Transit) (h : List Act) (e : ElementFields) → OriginatorStands d (Sta sta) (Ap a) s h → s.stage ≡ stage.Keyed t
    → re_resp_names d (Sta sta) (Ap a) e (Some (key_in d sta a s t)) ≡ outcome_by (reassociation_reason (wanted_by s t.name) e (carries_keys s.mfp e.fte))
names_reason d sta a s t h e st at =
    let u : IsUnderWay d (Sta sta) (Ap a) s (Some t) h = under_way d sta a s t h st at in
    let names : Bool = counts_three e.fte && names_both (address d (Ap a)) (key_in d sta a s t).inputs.r0kh_id e.fte in
    let fits : Bool → Outcome = λ c. without_status (elements_status s.mfp s.mdid e) (or_status 55 c (named (r1_name (key_in d sta a s t).inputs) e Accepted)) in
    elements_are d s.mfp s.mdid e
    (or_status 55 (counts_three e.fte && names_both (address d (Ap a)) (key_in d sta a s t).inputs.r0kh_id e.fte && is_wrapped_gtk (gtk_in e.fte) && has_igtk (protects d) e.fte) (named (r1_name (key_in d sta a s t).inputs) e Accepted))
    st.suite st.mfp_is st.mdid
    ∙ ap (λ (b : Bool). fits (names && is_wrapped_gtk (gtk_in e.fte) && has_igtk b e.fte)) (sym st.mfp_is)
    ∙ ap fits (all_tests names (is_wrapped_gtk (gtk_in e.fte)) (has_igtk s.mfp e.fte))
    ∙ rw (sym u.keyed.1, root_is d (Sta sta) s.r0kh_id st.suite)
    (ap (λ (m : Mac). without_status (elements_status s.mfp s.mdid e) (or_status 55 (counts_three e.fte && names_both m.0 s.r0kh_id e.fte && carries_keys s.mfp e.fte) (named t.name e Accepted))) (sym st.peer)
    ∙ names_by (wanted_by s t.name) e (carries_keys s.mfp e.fte))

-- refused where there is no plain text
abbrev wrap_out : Bool → Outcome → Outcome
wrap_out bad x = if not bad then x else Refused reason.Wrap

some_inj : {x y : List ℕ} → Some x ≡ Some y → y ≡ x
some_inj is = cc

unwraps_by : (kek : List ℕ) (octets : Option (List ℕ)) (o : Opened) (x : Outcome) → IsOpened kek octets o → unwraps octets (plain_of o) x ≡ wrap_out (is_bad o) x
unwraps_by kek octets Nothing x none = rw none refl
unwraps_by kek octets Bad x has = rw has.1 refl
unwraps_by kek octets (Plain key) x has = rw has.1 refl

both_out : (a b : Bool) (x : Outcome) → wrap_out a (wrap_out b x) ≡ wrap_out (a || b) x
both_out true b x = refl
both_out false b x = refl

status_by : (b : Bool) (x : Outcome) (y : Option Reason) (status : ℕ) → x ≡ outcome_by y → (if b then x else Refused (reason.Status status)) ≡ outcome_by (unless b (reason.Status status) y)
status_by true x y status is = is
status_by false x y status is = refl

-- what came of the wrapped octets, by what the network protects
pub opened_at : (d : Domain) (sta a : ℕ) (s : OriginatorState) (h : List Act) (kek : List ℕ) (e : ElementFields) (u : Unwrapped) → OriginatorStands d (Sta sta) (Ap a) s h → AreOpened kek s.mfp e.fte u → AreOpened kek (protects d) e.fte u
opened_at d sta a s h kek e u st is = subst (λ (b : Bool). AreOpened kek b e.fte u) st.mfp_is is

pub resp_behind : (d : Domain) (sta a : ℕ) (s : OriginatorState) (t : Transit) (h : List Act) (b : Management) (e : ElementFields) (u : Unwrapped) → OriginatorStands d (Sta sta) (Ap a) s h → s.stage ≡ stage.Keyed t
    → AreOpened t.key.ptk.kek s.mfp e.fte u → re_resp_further d (Sta sta) h (Ap a) b e (plain_of u.gtk) (plain_of u.igtk) ≡ outcome_by (opened_reason (wanted_by s t.name) b.status e u)
resp_behind d sta a s t h b e u st at is =
    let there : AreOpened t.key.ptk.kek (protects d) e.fte u = opened_at d sta a s h t.key.ptk.kek e u st is in
    let right : Option Reason = reassociation_reason (wanted_by s t.name) e (carries_keys s.mfp e.fte) in
    let rest : Outcome = if b.status == 0 then re_resp_names d (Sta sta) (Ap a) e (re_resp_keying (Ap a) h) else Refused (reason.Status b.status) in
    unwraps_by t.key.ptk.kek (to_unwrap e.fte) u.gtk (unwraps (igtk_to_unwrap (protects d) e.fte) (plain_of u.igtk) rest) there.gtk
    ∙ ap (λ (x : Outcome). wrap_out (is_bad u.gtk) x) (unwraps_by t.key.ptk.kek (igtk_to_unwrap (protects d) e.fte) u.igtk rest there.igtk)
    ∙ both_out (is_bad u.gtk) (is_bad u.igtk) rest
    ∙ ap (λ (x : Outcome). wrap_out (has_bad u) x)
    (ap (λ (x : Option Derivation). if b.status == 0 then re_resp_names d (Sta sta) (Ap a) e x else Refused (reason.Status b.status)) (keying_is d sta a s t h st at)
    ∙ status_by (b.status == 0) (re_resp_names d (Sta sta) (Ap a) e (Some (key_in d sta a s t))) right b.status (names_reason d sta a s t h e st at))
    ∙ sym (out_unless (not (has_bad u)) reason.Wrap (unless (b.status == 0) (reason.Status b.status) right))

knows_by : (x : Derivation) (kek : List ℕ) (octets : Option (List ℕ)) (o : Opened) → x.ptk.kek ≡ kek → IsOpened kek octets o → KnowsGtk (Some x) octets (plain_of o)
knows_by x kek None o same is = tt
knows_by x kek (Some wrapped) Nothing same none = absurd cc
knows_by x kek (Some wrapped) Bad same has = rw same (subst (λ (w : List ℕ). IsUnwrapped kek w None) (some_inj has.1) has.2)
knows_by x kek (Some wrapped) (Plain key) same has = rw same (subst (λ (w : List ℕ). IsUnwrapped kek w (Some key)) (some_inj has.1) has.2)

pub resp_knows : (d : Domain) (sta a : ℕ) (s : OriginatorState) (t : Transit) (h : List Act) (octets : Option (List ℕ)) (o : Opened) → OriginatorStands d (Sta sta) (Ap a) s h → s.stage ≡ stage.Keyed t
    → IsOpened t.key.ptk.kek octets o → KnowsGtk (re_resp_keying (Ap a) h) octets (plain_of o)
resp_knows d sta a s t h octets o st at is = rw (keying_is d sta a s t h st at) (knows_by (key_in d sta a s t) t.key.ptk.kek octets o refl is)

-- A station accepts an authentication response.
use Rattle.std.proofs.Common.{◌≡◌, ◌∙◌, ℕ, Bool, cond, List, [], ◌∷◌, ◌++◌, Option, Some, None, refl, sym, ap, subst}
use Rattle.std.specs.Prelude.{unwrap_or}
use Rattle.domain_base.specs.declared.names.Node.{Node}
use Rattle.domain_base.specs.declared.names.Node.TheVariants.{Ap, Sta}
use Rattle.key_hierarchy.specs.Keys.{ptk}
use Rattle.key_hierarchy.specs.FastTransition.{pmk_r0_name}
use Rattle.key_hierarchy.specs.declared.inputs.Inputs.{Inputs}
use Rattle.key_hierarchy.specs.declared.inputs.Ptk.{Ptk}
use Rattle.rsn_elements.specs.Transition.{FteFields}
use Rattle.rsn_elements.specs.Elements.{ElementFields}
use Rattle.run_journal.specs.declared.domain.Domain.{Domain}
use Rattle.run_journal.specs.declared.acts.Kind.{Kind}
use Rattle.run_journal.specs.declared.acts.Kind.TheVariants as kind
use Rattle.run_journal.specs.declared.acts.Outcome.TheVariants.{Accepted}
use Rattle.run_journal.specs.declared.acts.Act.{Act}
use Rattle.run_journal.specs.declared.acts.Act.TheVariants.{Took, Derived}
use Rattle.run_journal.specs.declared.reply.Reply.{Reply}
use Rattle.run_journal.specs.declared.reply.Keyed.{Keyed}
use Rattle.run_journal.specs.Acts.{Derivation}
use Rattle.run_journal.specs.Questions.{attempt, derivation, or_else, add}
use Rattle.domain_rules.specs.Network.{Root, mac, root_at}
use Rattle.domain_rules.specs.Frames.{keyed_by}
use Rattle.domain_rules.specs.Reading.{Management, Managed}
use Rattle.domain_rules.specs.Verdict.{KnowsManaged}
use Rattle.domain_rules.specs.Rows.{TakeRow, By_ft_resp}
use Rattle.domain_rules.specs.Here.{here}
use Rattle.domain_rules.specs.Replies.{derived_acts}
use Rattle.domain_rules.specs.TransitionFrames.{sent_re_req}
use Rattle.domain_rules.specs.TransitionKeys.{ft_resp_verdict}
use Rattle.domain_rules.proofs.Refused.{no_facts}
use Rattle.domain_rules.specs.Asking.{is_roam}
use Rattle.domain_rules.proofs.Parts.{same-refl, attempt_more, attempt_some, start_more, own_nonce_more}
use Rattle.domain_rules.proofs.Unprotected.{reads_so}
use Rattle.ft_exchange.specs.Comes.{IsManagementFrom}
use Rattle.ft_exchange.specs.Judged.{auth_response_reason, outcome_by}
use Rattle.ft_exchange.specs.State.{OriginatorState}
use Rattle.ft_exchange.specs.Stands.{IsUnderWay, HasStage, OriginatorStands}
use Rattle.ft_exchange.specs.Exchange.{wanted_by, at_stage, transit_in, GoesOn}
use Rattle.ft_exchange.specs.OriginatorSteps.{IsAuthTaken}
use Rattle.ft_exchange.specs.Told.{came, transition_sent, auth_response_acts}
use Rattle.ft_exchange.specs.declared.originator.Stage.{Stage}
use Rattle.ft_exchange.specs.declared.originator.Stage.TheVariants as stage
use Rattle.ft_exchange.proofs.StationFrames.{IsOf, IsMadeOf, inputs_in, key_is, name_is, root_is, requesting_is}
use Rattle.ft_exchange.proofs.StationRows.{first_kind, verdict_kind}
use Rattle.ft_exchange.proofs.StationVerdicts.{resp_reason}

pub is_of : (d : Domain) (n p : Node) (s : OriginatorState) (h : List Act) → OriginatorStands d n p s h → IsOf d n p s
is_of d n p s h st = record { suite = st.suite; mfp_is = st.mfp_is; own = st.own; peer = st.peer; ssid = st.ssid; mdid = st.mdid; r0 = st.r0 }

-- the acts, with the inputs of the key
abbrev pub going_acts : Domain → Node → Node → Node → List ℕ → Inputs → List Act
going_acts d n p q octets i = Took (Some p) octets kind.FtResp Accepted None ∷ Derived p i (ptk i) ∷ sent_re_req d n p q (keyed_by i) ∷ []

made_of : (d : Domain) (sta a : ℕ) (s : OriginatorState) (anonce : List ℕ) → IsOf d (Sta sta) (Ap a) s → IsMadeOf s (transit_in s anonce) (keyed_by (inputs_in d sta a s anonce))
made_of d sta a s anonce o = record {
  ptk_is = key_is d sta a s anonce o;
  name = name_is d sta a s anonce o;
  anonce = refl;
  snonce = refl;
  r0kh_id = sym (ap (λ (r : Root). r.r0kh_id) (root_is d (Sta sta) s.r0kh_id o.suite));
}

going_is : (d : Domain) (sta a : ℕ) (q : Node) (s t : OriginatorState) (f : FteFields) (octets : List ℕ) (e : ElementFields) (r : Reply) → IsOf d (Sta sta) (Ap a) s → s.current ≡ mac d q → GoesOn f.anonce s t r
    → auth_response_acts d (root_at d (Sta sta) s.r0kh_id) (Sta sta) (Ap a) (came octets e Accepted) r ≡ going_acts d (Sta sta) (Ap a) q octets (inputs_in d sta a s f.anonce)
going_is d sta a q s t f octets e r o current g =
    let p : Node = Ap a in
    let i : Inputs = inputs_in d sta a s f.anonce in
    ap (λ (y : Option Keyed). Took (Some p) octets kind.FtResp Accepted None ∷ derived_acts d (root_at d (Sta sta) s.r0kh_id) (Sta sta) p y ++ transition_sent d (Sta sta) p r) g.derived
    ∙ ap (λ (k : Ptk). Took (Some p) octets kind.FtResp Accepted None ∷ Derived p i k ∷ transition_sent d (Sta sta) p r) (key_is d sta a s f.anonce o)
    ∙ ap (λ (l : List Act). Took (Some p) octets kind.FtResp Accepted None ∷ Derived p i (ptk i) ∷ l)
    (requesting_is d (Sta sta) p q s (transit_in s f.anonce) (keyed_by i) r o current (made_of d sta a s f.anonce o) g.covers g.sends)

-- the originator stands for the history with these acts
keyed_stage : (d : Domain) (sta a : ℕ) (q : Node) (s : OriginatorState) (anonce octets : List ℕ) (h : List Act) → IsOf d (Sta sta) (Ap a) s → IsUnderWay d (Sta sta) (Ap a) s None h
    → IsUnderWay d (Sta sta) (Ap a) (at_stage (stage.Keyed (transit_in s anonce)) s) (Some (transit_in s anonce)) (add (going_acts d (Sta sta) (Ap a) q octets (inputs_in d sta a s anonce)) h)
keyed_stage d sta a q s anonce octets h o u =
    let p : Node = Ap a in
    let i : Inputs = inputs_in d sta a s anonce in
    let took : Act = Took (Some p) octets kind.FtResp Accepted None in
    let has : Act = Derived p i (ptk i) in
    let says : Act = sent_re_req d (Sta sta) p q (keyed_by i) in
    let derive : Ptk → Option Derivation = λ k. Some (record { inputs = i; ptk = k }) in
    let one : attempt p (took ∷ h) ≡ Some (took ∷ u.part) = attempt_more p took h u.part refl refl u.is in
    let two : attempt p (has ∷ took ∷ h) ≡ Some (has ∷ took ∷ u.part) = attempt_more p has (took ∷ h) (took ∷ u.part) refl refl one in
    record {
      q = u.q;
      from = u.from;
      current = u.current;
      part = says ∷ has ∷ took ∷ u.part;
      is = attempt_more p says (has ∷ took ∷ h) (has ∷ took ∷ u.part) refl refl two;
      begun = ap is_roam (start_more took u.part (attempt_some p h u.part u.is)) ∙ u.begun;
      nonce = own_nonce_more says (has ∷ took ∷ u.part) s.snonce (own_nonce_more has (took ∷ u.part) s.snonce (own_nonce_more took u.part s.snonce u.nonce));
      hears = rw (same-refl p) refl;
      keyed = (
        ap (λ (b : Bool). or_else (cond b (derive (ptk i)) None) (derivation p (took ∷ u.part))) (same-refl p) ∙ ap derive (sym (key_is d sta a s anonce o)),
        name_is d sta a s anonce o,
      );
    }

stands_keyed : (d : Domain) (sta a : ℕ) (q : Node) (s : OriginatorState) (anonce octets : List ℕ) (h : List Act) → OriginatorStands d (Sta sta) (Ap a) s h → IsUnderWay d (Sta sta) (Ap a) s None h
    → OriginatorStands d (Sta sta) (Ap a) (at_stage (stage.Keyed (transit_in s anonce)) s) (add (going_acts d (Sta sta) (Ap a) q octets (inputs_in d sta a s anonce)) h)
stands_keyed d sta a q s anonce octets h st u = record {
  suite = st.suite;
  mfp_is = st.mfp_is;
  own = st.own;
  peer = st.peer;
  ssid = st.ssid;
  mdid = st.mdid;
  r0kh_id = st.r0kh_id;
  r0 = st.r0;
  stage_is = keyed_stage d sta a q s anonce octets h (is_of d (Sta sta) (Ap a) s h st) u;
}

adds_going : (d : Domain) (first sta a : ℕ) (s : OriginatorState) (f : FteFields) (octets : List ℕ) (b : Management) (e : ElementFields) (h : List Act) → OriginatorStands d (Sta sta) (Ap a) s h → (u : IsUnderWay d (Sta sta) (Ap a) s None h)
    → IsManagementFrom d (Sta sta) (Ap a) octets b e → b.kind ≡ kind.FtResp → e.fte ≡ Some f → ft_resp_verdict d (Sta sta) h (Ap a) b e ≡ Accepted
    → TakeRow (here d first (Sta sta)) h octets (going_acts d (Sta sta) (Ap a) u.q octets (inputs_in d sta a s f.anonce))
adds_going d first sta a s f octets b e h st u from is has accepted = record {
  r = Managed b e;
  reads = reads_so d octets (Managed b e) refl from.reads;
  facts = no_facts;
  knows = λ so q peer. knows_nothing q;
  row = By_ft_resp (record {
    b = b;
    e = e;
    is = refl;
    kind_is = is;
    p = Ap a;
    from = from.from;
    accepted = verdict_kind d first (Sta sta) (Ap a) octets b e h kind.FtResp no_facts Accepted Accepted from is (first_kind d first (Sta sta) (Ap a) octets b e h kind.FtResp from is ∙ accepted) refl;
    part = u.part;
    awaited = u.is;
    f = f;
    fte = has;
    i = inputs_in d sta a s f.anonce;
    inputs_are = rw (st.r0kh_id, u.nonce) refl;
    says = ap (λ (o : Option Node). Took (Some (Ap a)) octets kind.FtResp Accepted None ∷ Derived (Ap a) (inputs_in d sta a s f.anonce) (ptk (inputs_in d sta a s f.anonce)) ∷ sent_re_req d (Sta sta) (Ap a) (unwrap_or o (Ap a)) (keyed_by (inputs_in d sta a s f.anonce)) ∷ []) (sym u.from);
  });
}
  where
    knows_nothing : (q : Node) → KnowsManaged d (Sta sta) h q e no_facts b.kind
    knows_nothing q = subst (λ (k : Kind). KnowsManaged d (Sta sta) h q e no_facts k) (sym is) tt

pub auth_accepted : (status : ℕ) (e : ElementFields) (s t : OriginatorState) (f : FteFields) (r : Reply) → s.stage ≡ stage.Asked → e.fte ≡ Some f
    → auth_response_reason (wanted_by s (pmk_r0_name s.r0)) s.snonce status e ≡ None → GoesOn f.anonce s t r → IsAuthTaken status e s t Accepted r
auth_accepted status e s t f r at has right g = record {
  steps = λ d first sta a octets b h st from is of_status.
      (let u : IsUnderWay d (Sta sta) (Ap a) s None h = subst (λ (x : Stage). HasStage d (Sta sta) (Ap a) s x h) at st.stage_is in
      let o : IsOf d (Sta sta) (Ap a) s = is_of d (Sta sta) (Ap a) s h st in
      let acts = sym (going_is d sta a u.q s t f octets e r o u.current g) in
      let accepted : ft_resp_verdict d (Sta sta) h (Ap a) b e ≡ Accepted =
      resp_reason d sta a s h b e st at ∙ ap (λ (x : ℕ). outcome_by (auth_response_reason (wanted_by s (pmk_r0_name s.r0)) s.snonce x e)) of_status ∙ ap outcome_by right
      in
      record {
        adds = subst (λ (l : List Act). TakeRow (here d first (Sta sta)) h octets l) acts (adds_going d first sta a s f octets b e h st u from is has accepted);
        stands = subst (λ (l : List Act). OriginatorStands d (Sta sta) (Ap a) t (add l h)) acts
            (subst (λ (x : OriginatorState). OriginatorStands d (Sta sta) (Ap a) x (add (going_acts d (Sta sta) (Ap a) u.q octets (inputs_in d sta a s f.anonce)) h)) (sym g.is) (stands_keyed d sta a u.q s f.anonce octets h st u));
      });
  refused = λ w is. absurd cc;
  tells = record { frame = tt; sealed = tt; verified = g.verified; derived = tt; installed = g.installed; gtk = g.gtk; igtk = g.igtk; looked = g.looked };
  whole = g.sends.whole;
}

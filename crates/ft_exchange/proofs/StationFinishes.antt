-- A station takes a reassociation response.
use Rattle.std.proofs.Common.{◌≡◌, ◌∙◌, inl, inr, ℕ, Bool, true, false, List, [], ◌∷◌, ◌++◌, Option, Some, None, refl, sym, ap, subst}
use Rattle.std.specs.Prelude.{◌==◌, ◌&&◌, not, Result, Ok, Err}
use Rattle.domain_base.specs.declared.names.Node.{Node}
use Rattle.domain_base.specs.declared.names.Node.TheVariants.{Ap, Sta}
use Rattle.domain_base.specs.declared.names.Peer.TheVariants.{One}
use Rattle.rsn_elements.specs.Elements.{ElementFields}
use Rattle.run_journal.specs.declared.domain.Domain.{Domain}
use Rattle.run_journal.specs.Events.{protects}
use Rattle.run_journal.specs.declared.acts.Kind.{Kind}
use Rattle.run_journal.specs.declared.acts.Kind.TheVariants as kind
use Rattle.run_journal.specs.declared.acts.Key.TheVariants.{Pairwise}
use Rattle.run_journal.specs.declared.acts.Reason.{Reason}
use Rattle.run_journal.specs.declared.acts.Reason.TheVariants as reason
use Rattle.run_journal.specs.declared.acts.Outcome.TheVariants.{Accepted, Refused}
use Rattle.run_journal.specs.declared.acts.Seal.{Seal}
use Rattle.run_journal.specs.declared.acts.Act.{Act}
use Rattle.run_journal.specs.declared.acts.Act.TheVariants.{Took, Installed, Finished}
use Rattle.run_journal.specs.declared.reply.Reply.{Reply}
use Rattle.run_journal.specs.declared.reply.Keyed.{Keyed}
use Rattle.run_journal.specs.declared.reply.GtkNews.{GtkNews}
use Rattle.run_journal.specs.Replies.{IsWhole}
use Rattle.run_journal.specs.Acts.{Derivation}
use Rattle.run_journal.specs.declared.acts.GroupKind.TheVariants as groups
use Rattle.run_journal.specs.Questions.{associated, add}
use Rattle.domain_rules.specs.Network.{Root, mac, root_at}
use Rattle.domain_rules.specs.Closing.{close_associated}
use Rattle.domain_rules.specs.Reading.{Management, Managed}
use Rattle.domain_rules.specs.GroupKeys.{GivenKeys, give_all}
use Rattle.domain_rules.specs.FastTransition.{to_unwrap, igtk_to_unwrap, gtk_in, counts_three, names_both, is_named}
use Rattle.domain_rules.specs.TransitionKeys.{re_resp_keying, re_resp_covered, re_resp_seal, KnowsGtk}
use Rattle.domain_rules.specs.TransitionRows.{keys_by}
use Rattle.domain_rules.specs.Verdict.{Knows, KnowsManaged, first_verdict}
use Rattle.domain_rules.specs.Rows.{TakeRow, By_re_resp, seal_in, management_seal}
use Rattle.domain_rules.specs.Here.{here}
use Rattle.domain_rules.specs.Replies.{group_acts}
use Rattle.domain_rules.proofs.Parts.{add_append}
use Rattle.domain_rules.proofs.Refused.{IsRefused, refused_first, far_seal}
use Rattle.domain_rules.proofs.Unprotected.{reads_so}
use Rattle.group_key.specs.Keys.{Memories}
use Rattle.group_key.specs.Holds.{RemembersAll}
use Rattle.group_key.proofs.BothKinds.{all_keep}
use Rattle.ft_exchange.specs.Elements.{elements_status}
use Rattle.ft_exchange.specs.Comes.{IsManagementFrom}
use Rattle.ft_exchange.specs.Group.{AreOpened, plain_of, has_bad, carries_keys, became}
use Rattle.ft_exchange.specs.Judged.{Wanted, status_first, unless, outcome_by, reassociation_reason, opened_reason, IsJudged}
use Rattle.ft_exchange.specs.State.{OriginatorState}
use Rattle.ft_exchange.specs.Stands.{OriginatorStands}
use Rattle.ft_exchange.specs.Exchange.{wanted_by, at_stage, response_tried, IsQuiet, IsTriedFirst, IsResponse, Both, both, Finishes}
use Rattle.ft_exchange.specs.OriginatorSteps.{IsUnder, IsReassocTaken}
use Rattle.ft_exchange.specs.Told.{came, taken_seal, reassoc_response_acts}
use Rattle.ft_exchange.specs.Topics.{TellsOnly, reassoc_response_topics, response_verified}
use Rattle.ft_exchange.specs.Tried.{tried_reason, verified_key}
use Rattle.ft_exchange.specs.declared.group.CarriedKeys.{CarriedKeys}
use Rattle.ft_exchange.specs.declared.group.Unwrapped.{Unwrapped}
use Rattle.ft_exchange.specs.declared.originator.Stage.{Stage}
use Rattle.ft_exchange.specs.declared.originator.Stage.TheVariants as stage
use Rattle.ft_exchange.specs.declared.originator.Transit.{Transit}
use Rattle.ft_exchange.proofs.GivenKeys.{AreKeys, keys_acts, before_keys, remembers_finished, gtks_given}
use Rattle.ft_exchange.proofs.KeysCarried.{facts_by, gtk_there, carried_id, are_keys, rsc_told, ipn_told}
use Rattle.ft_exchange.proofs.StationFrames.{root_is}
use Rattle.ft_exchange.proofs.StationRows.{first_kind, verdict_kind, adds_refusal, stands_refused, whole_quiet}
use Rattle.ft_exchange.proofs.StationInstalls.{key_in, keying_is, resp_tried, resp_none, resp_seal, opened_at, resp_behind, resp_knows}
use Rattle.ft_exchange.proofs.Trying.{out_or, none_sealed, no_key}

-- ---- refusals

-- the acts of a refusal that nothing answers
quiet_acts : (d : Domain) (root : Root) (n p : Node) (q : Option Node) (octets : List ℕ) (e : ElementFields) (why : Reason) (v : Option (List ℕ)) (r : Reply) → IsQuiet v r
    → reassoc_response_acts d root n p q (came octets e (Refused why)) r ≡ Took (Some p) octets kind.ReResp (Refused why) (taken_seal (re_resp_covered d n p e) v) ∷ []
quiet_acts d root n p q octets e why v r quiet = rw (quiet.verified, quiet.installed, quiet.gtk, quiet.igtk) refl

remembers_refused : (p q : Node) (octets : List ℕ) (k : Kind) (why : Reason) (s : Option Seal) (m : Memories) (h : List Act) → RemembersAll p m h → RemembersAll p m (Took (Some q) octets k (Refused why) s ∷ h)
remembers_refused p q octets k why s m h r = all_keep p (Took (Some q) octets k (Refused why) s) m h r (λ group. refl) (λ group key id heard n. refl)

-- after each history it is refused so, with what it had sealed
abbrev pub RefusesReassoc : ℕ → ElementFields → OriginatorState → Reason → Option (List ℕ) → Type 0
RefusesReassoc status e s why v =
    (d : Domain) (first sta a : ℕ) (octets : List ℕ) (b : Management) (h : List Act) → OriginatorStands d (Sta sta) (Ap a) s h → IsManagementFrom d (Sta sta) (Ap a) octets b e
    → b.kind ≡ kind.ReResp → b.status ≡ status → IsRefused d first (Sta sta) h (Managed b e) why (taken_seal (re_resp_covered d (Sta sta) (Ap a) e) v)

pub reassoc_refused : (status : ℕ) (e : ElementFields) (s : OriginatorState) (m : Memories) (why : Reason) (v : Option (List ℕ)) (r : Reply) → IsQuiet v r → v ≡ response_verified s s.stage status e → RefusesReassoc status e s why v
    → IsReassocTaken status e (both s m) (both s m) (Refused why) r
reassoc_refused status e s m why v r q verified refuses = record {
  steps = λ d first sta a octets b h st remembers from is has.
      (let seal : Option Seal = taken_seal (re_resp_covered d (Sta sta) (Ap a) e) v in
      let acts = sym (quiet_acts d (root_at d (Sta sta) s.r0kh_id) (Sta sta) (Ap a) (associated h) octets e why v r q) in
      record {
        step = record {
          adds = subst (λ (l : List Act). TakeRow (here d first (Sta sta)) h octets l) acts (adds_refusal d first sta (Ap a) octets b e h kind.ReResp why seal from is (refuses d first sta a octets b h st from is has));
          stands = subst (λ (l : List Act). OriginatorStands d (Sta sta) (Ap a) s (add l h)) acts (stands_refused d (Sta sta) (Ap a) s octets kind.ReResp why seal h st);
        };
        remembers = subst (λ (l : List Act). RemembersAll (Ap a) m (add l h)) acts (remembers_refused (Ap a) (Ap a) octets kind.ReResp why seal m h remembers);
      });
  refused = λ w is. (refl, q.len, q.installed);
  tells = record { frame = q.len; sealed = q.sealed; verified = tt; derived = q.derived; installed = q.installed; gtk = q.gtk; igtk = q.igtk; looked = q.looked };
  verified = q.verified ∙ verified;
  whole = whole_quiet v r q;
  under = subst (λ (o : Option Keyed). IsUnder o s) (sym q.installed) tt;
  keys = inl refl;
}

none_verified : (s : OriginatorState) (x : Stage) (status : ℕ) (e : ElementFields) → ((t : Transit) → x ≡ stage.Keyed t → ⊥) → None ≡ response_verified s x status e
none_verified s stage.Asked status e other = refl
none_verified s (stage.Keyed t) status e other = absurd (other t refl)
none_verified s stage.Done status e other = refl

-- no key was derived yet
pub reassoc_unawaited : (status : ℕ) (e : ElementFields) (s : OriginatorState) (m : Memories) (r : Reply) → IsQuiet None r → ((t : Transit) → s.stage ≡ stage.Keyed t → ⊥)
    → IsReassocTaken status e (both s m) (both s m) (Refused reason.Unawaited) r
reassoc_unawaited status e s m r q other = reassoc_refused status e s m reason.Unawaited None r q (none_verified s s.stage status e other)
    (λ d first sta a octets b h st from is has.
    subst (λ (x : Option Seal). IsRefused d first (Sta sta) h (Managed b e) reason.Unawaited x) (sym (none_sealed (re_resp_covered d (Sta sta) (Ap a) e)))
    (refused_first d first (Sta sta) h (Managed b e) reason.Unawaited (first_kind d first (Sta sta) (Ap a) octets b e h kind.ReResp from is ∙ resp_none d sta a s h b e st other)))

-- refused by its nonces or its MIC
refuses_tried : (status : ℕ) (e : ElementFields) (s : OriginatorState) (t : Transit) (why : Reason) → s.stage ≡ stage.Keyed t → tried_reason (response_tried s t.key status e) ≡ Some why
    → RefusesReassoc status e s why (verified_key t.key (response_tried s t.key status e))
refuses_tried status e s t why at tries d first sta a octets b h st from is has =
    let first_is : first_verdict d first (Sta sta) h (Managed b e) ≡ Refused why =
    first_kind d first (Sta sta) (Ap a) octets b e h kind.ReResp from is ∙ resp_tried d sta a s t h b e st at
    ∙ ap (λ (x : ℕ). out_or Accepted (tried_reason (response_tried s t.key x e))) has ∙ ap (λ (x : Option Reason). out_or Accepted x) tries
    in
    subst (λ (x : Option Seal). IsRefused d first (Sta sta) h (Managed b e) why x)
    (sym (ap (λ (v : Option (List ℕ)). taken_seal (re_resp_covered d (Sta sta) (Ap a) e) v) (no_key t.key (response_tried s t.key status e) why tries) ∙ none_sealed (re_resp_covered d (Sta sta) (Ap a) e)))
    (refused_first d first (Sta sta) h (Managed b e) why first_is)

resp_knows_all : (d : Domain) (first sta a : ℕ) (s : OriginatorState) (t : Transit) (octets : List ℕ) (b : Management) (e : ElementFields) (h : List Act) (u : Unwrapped) → OriginatorStands d (Sta sta) (Ap a) s h → s.stage ≡ stage.Keyed t
    → IsManagementFrom d (Sta sta) (Ap a) octets b e → b.kind ≡ kind.ReResp → AreOpened t.key.ptk.kek s.mfp e.fte u → Knows d first (Sta sta) h (Managed b e) (facts_by u)
resp_knows_all d first sta a s t octets b e h u st at from is opened = λ so q peer.
    (let same : Ap a ≡ q = some_inj (sym from.sender_is ∙ peer) in
    let there : AreOpened t.key.ptk.kek (protects d) e.fte u = opened_at d sta a s h t.key.ptk.kek e u st opened in
    subst (λ (k : Kind). KnowsManaged d (Sta sta) h q e (facts_by u) k) (sym is) (
      subst (λ (z : Node). KnowsGtk (re_resp_keying z h) (to_unwrap e.fte) (plain_of u.gtk)) same (resp_knows d sta a s t h (to_unwrap e.fte) u.gtk st at there.gtk),
      subst (λ (z : Node). KnowsGtk (re_resp_keying z h) (igtk_to_unwrap (protects d) e.fte) (plain_of u.igtk)) same (resp_knows d sta a s t h (igtk_to_unwrap (protects d) e.fte) u.igtk st at there.igtk),
    ))
  where
    some_inj : {x y : Node} → Some x ≡ Some y → x ≡ y
    some_inj is = cc

-- what is sealed in it where nonces and MIC refuse nothing
first_accepted : (d : Domain) (first sta a : ℕ) (s : OriginatorState) (t : Transit) (octets : List ℕ) (b : Management) (e : ElementFields) (h : List Act) → OriginatorStands d (Sta sta) (Ap a) s h → s.stage ≡ stage.Keyed t
    → IsManagementFrom d (Sta sta) (Ap a) octets b e → b.kind ≡ kind.ReResp → tried_reason (response_tried s t.key b.status e) ≡ None → first_verdict d first (Sta sta) h (Managed b e) ≡ Accepted
first_accepted d first sta a s t octets b e h st at from is right =
    first_kind d first (Sta sta) (Ap a) octets b e h kind.ReResp from is ∙ resp_tried d sta a s t h b e st at ∙ ap (λ (x : Option Reason). out_or Accepted x) right

sealed_in : (d : Domain) (sta : ℕ) (p : Node) (octets : List ℕ) (b : Management) (e : ElementFields) (h : List Act) → IsManagementFrom d (Sta sta) p octets b e → b.kind ≡ kind.ReResp
    → seal_in d (Sta sta) h (Managed b e) ≡ re_resp_seal d (Sta sta) h p b e
sealed_in d sta p octets b e h from is =
    ap (λ (q : Option Node). management_seal d (Sta sta) h b e b.kind q) from.sender_is ∙ ap (λ (k : Kind). management_seal d (Sta sta) h b e k (Some p)) is

refuses_behind : (status : ℕ) (e : ElementFields) (s : OriginatorState) (t : Transit) (u : Unwrapped) (why : Reason) → s.stage ≡ stage.Keyed t → tried_reason (response_tried s t.key status e) ≡ None
    → AreOpened t.key.ptk.kek s.mfp e.fte u → opened_reason (wanted_by s t.name) status e u ≡ Some why → RefusesReassoc status e s why (verified_key t.key (response_tried s t.key status e))
refuses_behind status e s t u why at right opened refuses d first sta a octets b h st from is has =
    let right_b : tried_reason (response_tried s t.key b.status e) ≡ None = ap (λ (x : ℕ). tried_reason (response_tried s t.key x e)) has ∙ right in
    let first_is : first_verdict d first (Sta sta) h (Managed b e) ≡ Accepted = first_accepted d first sta a s t octets b e h st at from is right_b in
    record {
      facts = facts_by u;
      knows = resp_knows_all d first sta a s t octets b e h u st at from is opened;
      refused = verdict_kind d first (Sta sta) (Ap a) octets b e h kind.ReResp (facts_by u) Accepted (Refused why) from is first_is
          (resp_behind d sta a s t h b e u st at opened ∙ ap (λ (x : ℕ). outcome_by (opened_reason (wanted_by s t.name) x e u)) has ∙ ap outcome_by refuses);
      seal_is = ap (λ (x : ℕ). taken_seal (re_resp_covered d (Sta sta) (Ap a) e) (verified_key t.key (response_tried s t.key x e))) (sym has)
          ∙ resp_seal d sta a s t h b e st at right_b ∙ sym (sealed_in d sta (Ap a) octets b e h from is) ∙ far_seal d first (Sta sta) h (Managed b e) Accepted first_is refl;
    }

abbrev pub err : Reason → Result CarriedKeys Reason
err why = Err why

same_err : (x y : Reason) → err x ≡ err y → x ≡ y
same_err x y is = cc

-- the KCK under which it verified, where a key was derived
verified_at : (status : ℕ) (e : ElementFields) (s : OriginatorState) (t : Transit) → s.stage ≡ stage.Keyed t → verified_key t.key (response_tried s t.key status e) ≡ response_verified s s.stage status e
verified_at status e s t at = sym (ap (λ (x : Stage). response_verified s x status e) at)

-- each refusal
pub reassoc_judged : (status : ℕ) (e : ElementFields) (s : OriginatorState) (t : Transit) (m : Memories) (why : Reason) (r : Reply) → s.stage ≡ stage.Keyed t → IsResponse s t status e r (Err why)
    → IsReassocTaken status e (both s m) (both s m) (Refused why) r
reassoc_judged status e s t m why r at i = by (tried_reason (response_tried s t.key status e)) refl i.judged
  where
    by : (o : Option Reason) → tried_reason (response_tried s t.key status e) ≡ o → IsTriedFirst o (IsJudged (wanted_by s t.name) t.key.ptk.kek status e) (Err why) → IsReassocTaken status e (both s m) (both s m) (Refused why) r
    by (Some w) tries is = reassoc_refused status e s m why (verified_key t.key (response_tried s t.key status e)) r i.quiet (verified_at status e s t at)
        (refuses_tried status e s t why at (tries ∙ ap (λ (y : Reason). Some y) (sym (same_err why w is))))
    by None tries j = reassoc_refused status e s m why (verified_key t.key (response_tried s t.key status e)) r i.quiet (verified_at status e s t at) (refuses_behind status e s t j.opened why at tries j.is j.keys)

-- ---- acceptance

-- the acts, with the key
abbrev pub finishing_acts : Node → Option Node → List ℕ → Option Seal → Derivation → List Act → List Act
finishing_acts p q octets seal x gives = Took (Some p) octets kind.ReResp Accepted seal ∷ close_associated q ++ Installed (One p) (Pairwise x.ptk.tk x.inputs) ∷ (gives ++ Finished p x.inputs ∷ [])

finishing_add : (p : Node) (q : Option Node) (octets : List ℕ) (seal : Option Seal) (x : Derivation) (gives h : List Act)
    → add (finishing_acts p q octets seal x gives) h ≡ Finished p x.inputs ∷ add gives (before_keys p q octets seal x h)
finishing_add p None octets seal x gives h = add_append gives (Finished p x.inputs ∷ []) (before_keys p None octets seal x h)
finishing_add p (Some q) octets seal x gives h = add_append gives (Finished p x.inputs ∷ []) (before_keys p (Some q) octets seal x h)

acts_shape : (t i f : Act) (q : Option Node) (k l : List Act) → t ∷ close_associated q ++ (i ∷ []) ++ k ++ l ++ (f ∷ []) ≡ t ∷ close_associated q ++ i ∷ ((k ++ l) ++ f ∷ [])
acts_shape t i f None k l = refl
acts_shape t i f (Some q) k l = refl

finishing_is : (d : Domain) (sta a : ℕ) (s : OriginatorState) (t : Transit) (q : Option Node) (octets : List ℕ) (e : ElementFields) (c : CarriedKeys) (m : Memories) (keys : GivenKeys) (v : Option (List ℕ)) (before r : Reply) (h : List Act) → RemembersAll (Ap a) m h → AreKeys (protects d) keys c
    → IsQuiet v before → r ≡ record before { installed = Some t.key; gtk = Some (became c m).gtk; igtk = (became c m).igtk }
    → reassoc_response_acts d (root_at d (Sta sta) s.r0kh_id) (Sta sta) (Ap a) q (came octets e Accepted) r
    ≡ finishing_acts (Ap a) q octets (taken_seal (re_resp_covered d (Sta sta) (Ap a) e) v) (key_in d sta a s t) (give_all d (Ap a) (mac d (Ap a)) keys h)
finishing_is d sta a s t q octets e c m keys v before r h remembers are quiet is =
    let p : Node = Ap a in
    let x : Derivation = key_in d sta a s t in
    let k : List Act = group_acts groups.Gtk d p (Some (became c m).gtk) in
    let l : List Act = group_acts groups.Igtk d p (became c m).igtk in
    ap (λ (y : Reply). reassoc_response_acts d (root_at d (Sta sta) s.r0kh_id) (Sta sta) p q (came octets e Accepted) y) is
    ∙ acts_shape (Took (Some p) octets kind.ReResp Accepted (taken_seal (re_resp_covered d (Sta sta) p e) before.verified)) (Installed (One p) (Pairwise x.ptk.tk x.inputs)) (Finished p x.inputs) q k l
    ∙ ap (λ (z : Option (List ℕ)). finishing_acts p q octets (taken_seal (re_resp_covered d (Sta sta) p e) z) x (k ++ l)) quiet.verified
    ∙ ap (λ (gives : List Act). finishing_acts p q octets (taken_seal (re_resp_covered d (Sta sta) p e) v) x gives) (keys_acts d p c m keys h remembers are)

stands_done : (d : Domain) (sta a : ℕ) (s : OriginatorState) (t : Transit) (h before : List Act) → OriginatorStands d (Sta sta) (Ap a) s h
    → OriginatorStands d (Sta sta) (Ap a) (at_stage stage.Done s) (Finished (Ap a) (key_in d sta a s t).inputs ∷ before)
stands_done d sta a s t h before st = record {
  suite = st.suite;
  mfp_is = st.mfp_is;
  own = st.own;
  peer = st.peer;
  ssid = st.ssid;
  mdid = st.mdid;
  r0kh_id = rw (root_is d (Sta sta) s.r0kh_id st.suite) refl;
  r0 = st.r0;
  stage_is = refl;
}

adds_finishing : (d : Domain) (first sta a : ℕ) (s : OriginatorState) (t : Transit) (octets : List ℕ) (b : Management) (e : ElementFields) (h : List Act) (u : Unwrapped) → OriginatorStands d (Sta sta) (Ap a) s h → s.stage ≡ stage.Keyed t
    → IsManagementFrom d (Sta sta) (Ap a) octets b e → b.kind ≡ kind.ReResp → tried_reason (response_tried s t.key b.status e) ≡ None
    → AreOpened t.key.ptk.kek s.mfp e.fte u → opened_reason (wanted_by s t.name) b.status e u ≡ None
    → TakeRow (here d first (Sta sta)) h octets (finishing_acts (Ap a) (associated h) octets (taken_seal (re_resp_covered d (Sta sta) (Ap a) e) (verified_key t.key (response_tried s t.key b.status e))) (key_in d sta a s t) (give_all d (Ap a) (mac d (Ap a)) (keys_by e.fte (facts_by u)) h))
adds_finishing d first sta a s t octets b e h u st at from is right opened accepts = record {
  r = Managed b e;
  reads = reads_so d octets (Managed b e) refl from.reads;
  facts = facts_by u;
  knows = resp_knows_all d first sta a s t octets b e h u st at from is opened;
  row = By_re_resp (record {
    b = b;
    e = e;
    is = refl;
    kind_is = is;
    p = Ap a;
    from = from.from;
    accepted = verdict_kind d first (Sta sta) (Ap a) octets b e h kind.ReResp (facts_by u) Accepted Accepted from is (first_accepted d first sta a s t octets b e h st at from is right) (resp_behind d sta a s t h b e u st at opened ∙ ap outcome_by accepts);
    x = key_in d sta a s t;
    awaited = keying_is d sta a s t h st at;
    says = ap (λ (z : Option Seal). finishing_acts (Ap a) (associated h) octets z (key_in d sta a s t) (give_all d (Ap a) (mac d (Ap a)) (keys_by e.fte (facts_by u)) h)) (resp_seal d sta a s t h b e st at right);
  });
}

-- a response that is accepted carries the group keys
carries_by : (x : Wanted) (e : ElementFields) (carries : Bool) → reassociation_reason x e carries ≡ None → carries ≡ true
carries_by x e carries accepts = by_statuses (elements_status x.mfp x.mdid e) accepts
  where
    by_tests : (b c : Bool) (why : Option Reason) → unless (b && c) (reason.Status 55) why ≡ None → c ≡ true
    by_tests true true why is = refl
    by_tests true false why is = absurd cc
    by_tests false c why is = absurd cc

    by_three : (b c z : Bool) (why : Option Reason) → unless (b && c && z) (reason.Status 55) why ≡ None → z ≡ true
    by_three true c z why is = by_tests c z why is
    by_three false c z why is = absurd cc

    by_statuses : (o : Option ℕ) → status_first o (unless (counts_three e.fte && names_both x.r1kh_id x.r0kh_id e.fte && carries) (reason.Status 55) (unless (is_named x.name e) reason.Name None)) ≡ None → carries ≡ true
    by_statuses (Some code) is = absurd cc
    by_statuses None is = by_three (counts_three e.fte) (names_both x.r1kh_id x.r0kh_id e.fte) carries (unless (is_named x.name e) reason.Name None) is

accepted_carries : (x : Wanted) (status : ℕ) (e : ElementFields) (u : Unwrapped) → opened_reason x status e u ≡ None → carries_keys x.mfp e.fte ≡ true
accepted_carries x status e u accepts = by_bad (has_bad u) accepts
  where
    by_status : (b : Bool) → unless b (reason.Status status) (reassociation_reason x e (carries_keys x.mfp e.fte)) ≡ None → carries_keys x.mfp e.fte ≡ true
    by_status true is = carries_by x e (carries_keys x.mfp e.fte) is
    by_status false is = absurd cc

    by_bad : (b : Bool) → unless (not b) reason.Wrap (unless (status == 0) (reason.Status status) (reassociation_reason x e (carries_keys x.mfp e.fte))) ≡ None → carries_keys x.mfp e.fte ≡ true
    by_bad true is = absurd cc
    by_bad false is = by_status (status == 0) is

-- the response is accepted under that key, with those group keys
pub record Accepts (status : ℕ) (e : ElementFields) (s : OriginatorState) (t : Transit) (c : CarriedKeys) : Type 0 where
  pub right : tried_reason (response_tried s t.key status e) ≡ None
  pub judged : IsJudged (wanted_by s t.name) t.key.ptk.kek status e (Ok c)

accepts_by : (status : ℕ) (e : ElementFields) (s : OriginatorState) (t : Transit) (c : CarriedKeys) (r : Reply) → IsResponse s t status e r (Ok c) → Accepts status e s t c
accepts_by status e s t c r i = by (tried_reason (response_tried s t.key status e)) refl i.judged
  where
    by : (o : Option Reason) → tried_reason (response_tried s t.key status e) ≡ o → IsTriedFirst o (IsJudged (wanted_by s t.name) t.key.ptk.kek status e) (Ok c) → Accepts status e s t c
    by (Some why) tries is = absurd cc
    by None tries j = record { right = tries; judged = j }

-- what is told, once the keys are told of
abbrev told_keys : Reply → Keyed → GtkNews → Option GtkNews → Reply
told_keys before y g k = record before { installed = Some y; gtk = Some g; igtk = k }

whole_before : (v : Option (List ℕ)) (y : Keyed) (g : GtkNews) (k : Option GtkNews) (before r : Reply) → IsQuiet v before → r ≡ told_keys before y g k → IsWhole r
whole_before v y g k before r quiet is = subst (λ (x : Reply). IsWhole x) (sym is) (record { few = (whole_quiet v before quiet).few; sealed = (whole_quiet v before quiet).sealed })

tells_before : (v : Option (List ℕ)) (y : Keyed) (g : GtkNews) (k : Option GtkNews) (before r : Reply) → IsQuiet v before → r ≡ told_keys before y g k → TellsOnly (reassoc_response_topics Accepted) r × (r.verified ≡ v)
tells_before v y g k before r quiet is = subst (λ (x : Reply). TellsOnly (reassoc_response_topics Accepted) x × (x.verified ≡ v)) (sym is)
    (record { frame = quiet.len; sealed = quiet.sealed; verified = tt; derived = quiet.derived; installed = tt; gtk = tt; igtk = tt; looked = quiet.looked }, quiet.verified)

pub reassoc_accepted : (status : ℕ) (e : ElementFields) (s : OriginatorState) (t : Transit) (c : CarriedKeys) (m : Memories) (new : Both) (before r : Reply) → s.stage ≡ stage.Keyed t → IsResponse s t status e before (Ok c)
    → Finishes t c (both s m) new before r → IsReassocTaken status e (both s m) new Accepted r
reassoc_accepted status e s t c m new before r at i f = record {
  steps = λ d first sta a octets b h st remembers from is has.
      (let p : Node = Ap a in
      let x : Derivation = key_in d sta a s t in
      let v : Option (List ℕ) = verified_key t.key (response_tried s t.key status e) in
      let seal : Option Seal = taken_seal (re_resp_covered d (Sta sta) p e) v in
      let k : Accepts status e s t c = accepts_by status e s t c before i in
      let u : Unwrapped = k.judged.opened in
      let keys : GivenKeys = keys_by e.fte (facts_by u) in
      let gives : List Act = give_all d p (mac d p) keys h in
      let carries : carries_keys s.mfp e.fte ≡ true = accepted_carries (wanted_by s t.name) status e u k.judged.keys.0 in
      let are : AreKeys (protects d) keys c = subst (λ (y : Bool). AreKeys y keys c) st.mfp_is (are_keys s.mfp e.fte u c carries k.judged.keys.1) in
      let acts = sym (finishing_is d sta a s t (associated h) octets e c m keys v before r h remembers are i.quiet f.reply) in
      let adds = subst (λ (y : ℕ). TakeRow (here d first (Sta sta)) h octets (finishing_acts p (associated h) octets (taken_seal (re_resp_covered d (Sta sta) p e) (verified_key t.key (response_tried s t.key y e))) x gives)) has
      (adds_finishing d first sta a s t octets b e h u st at from is
      (ap (λ (y : ℕ). tried_reason (response_tried s t.key y e)) has ∙ k.right) k.judged.is
      (ap (λ (y : ℕ). opened_reason (wanted_by s t.name) y e u) has ∙ k.judged.keys.0))
      in
      let longer = finishing_add p (associated h) octets seal x gives h in
      let before_end : List Act = add gives (before_keys p (associated h) octets seal x h) in
      record {
        step = record {
          adds = subst (λ (l : List Act). TakeRow (here d first (Sta sta)) h octets l) acts adds;
          stands = subst (λ (l : List Act). OriginatorStands d (Sta sta) p new.part (add l h)) acts
              (subst (λ (l : List Act). OriginatorStands d (Sta sta) p new.part l) (sym longer)
              (subst (λ (z : OriginatorState). OriginatorStands d (Sta sta) p z (Finished p x.inputs ∷ before_end)) (sym f.is) (stands_done d sta a s t h before_end st)));
        };
        remembers = subst (λ (l : List Act). RemembersAll p new.keys (add l h)) acts
            (subst (λ (l : List Act). RemembersAll p new.keys l) (sym longer)
            (subst (λ (z : Memories). RemembersAll p z (Finished p x.inputs ∷ before_end)) (sym f.memory)
            (remembers_finished d p (associated h) octets seal x c keys m h remembers are (rsc_told d.akm octets b e s.mfp u c from.reads is carries k.judged.keys.1) (ipn_told d.akm octets b e s.mfp u c from.reads is k.judged.keys.1))));
      });
  refused = λ w is. absurd cc;
  tells = (tells_before (verified_key t.key (response_tried s t.key status e)) t.key (became c m).gtk (became c m).igtk before r i.quiet f.reply).0;
  verified = (tells_before (verified_key t.key (response_tried s t.key status e)) t.key (became c m).gtk (became c m).igtk before r i.quiet f.reply).1 ∙ verified_at status e s t at;
  whole = whole_before (verified_key t.key (response_tried s t.key status e)) t.key (became c m).gtk (became c m).igtk before r i.quiet f.reply;
  under = subst (λ (x : Reply). IsUnder x.installed s) (sym f.reply) (t, at, refl);
  keys = (let k : Accepts status e s t c = accepts_by status e s t c before i in
      let u : Unwrapped = k.judged.opened in
      let carries : carries_keys s.mfp e.fte ≡ true = accepted_carries (wanted_by s t.name) status e u k.judged.keys.0 in
      let are : AreKeys s.mfp (keys_by e.fte (facts_by u)) c = are_keys s.mfp e.fte u c carries k.judged.keys.1 in
      inr (c.gtk.key, c.gtk.id, c.gtk.rsc, ap (λ (z : Memories). z.gtks) f.memory ∙ gtks_given s.mfp (keys_by e.fte (facts_by u)) c m are, carried_id (gtk_in e.fte) (plain_of u.gtk) c.gtk (gtk_there s.mfp e.fte carries) k.judged.keys.1.gtk.is));
}

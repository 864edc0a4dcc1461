-- A reassociation frame that is accepted has all that the MIC in its FTE covers.
use Rattle.std.proofs.Common.{◌≡◌, ℕ, ◌+◌, Bool, true, false, List, [], ◌∷◌, length, Option, Some, None, is_some, refl, sym, ap, subst, ◌∙◌, inl}
use Rattle.std.proofs.lemmas.Bool.{and_parts}
use Rattle.std.specs.Prelude.{◌&&◌, ◌==◌}
use Rattle.domain_base.specs.declared.names.Node.{Node}
use Rattle.domain_base.specs.declared.names.Node.TheVariants.{Ap}
use Rattle.rsn_elements.specs.declared.framing.Within.TheVariants.{Body}
use Rattle.rsn_elements.specs.Rsne.{RsneFields, SpellsRsne}
use Rattle.rsn_elements.specs.Transition.{MdeFields, SpellsMde, FteFields, SpellsFte}
use Rattle.rsn_elements.specs.Elements.{ElementFields, IsRaw, HasRaw}
use Rattle.rsn_elements.proofs.Unique.{has_raw}
use Rattle.run_journal.specs.declared.domain.Domain.{Domain}
use Rattle.run_journal.specs.Events.{protects}
use Rattle.run_journal.specs.declared.acts.Kind.{Kind}
use Rattle.run_journal.specs.declared.acts.Kind.TheVariants as kind
use Rattle.run_journal.specs.declared.acts.Reason.TheVariants as reason
use Rattle.run_journal.specs.declared.acts.Outcome.TheVariants.{Accepted}
use Rattle.run_journal.specs.declared.acts.Act.{Act}
use Rattle.run_journal.specs.Acts.{Derivation}
use Rattle.run_journal.specs.Questions.{draws}
use Rattle.domain_rules.specs.Network.{address}
use Rattle.domain_rules.specs.Reading.{Management, Reading, Managed, Reads}
use Rattle.domain_rules.specs.Facts.{Facts}
use Rattle.domain_rules.specs.Suites.{rsne_status}
use Rattle.domain_rules.specs.FastTransition.{mic_input, mde_status, fte_status, names_both, counts_three, to_unwrap, igtk_to_unwrap, gtk_in, is_wrapped_gtk, has_igtk}
use Rattle.domain_rules.specs.TransitionKeys.{Judged, judged, re_req_names, re_req_further, re_resp_keying, re_resp_names, re_resp_further}
use Rattle.domain_rules.specs.Verdict.{unless_refused, management_further, verdict}
use Rattle.domain_rules.specs.Verified.{is_covered, is_with_mic}
use Rattle.domain_rules.proofs.Deciding.{IsTaken, never, taken_passed, taken_status}
use Rattle.domain_rules.proofs.OneOutcome.{FrameAwaited, Is_assoc_req, Is_assoc_resp, Is_ft_req, Is_ft_resp, Is_re_req, Is_re_resp, frame_kind, frame_accepted, resp_accepted, unwraps_taken}
use Rattle.domain_rules.proofs.SomeGroup.{opened_names}

-- an FTE that counts three elements is there
counted_some : (o : Option FteFields) → counts_three o ≡ true → (f : FteFields) × (o ≡ Some f)
counted_some None s = absurd (cc s)
counted_some (Some f) s = (f, refl)

raw_octets : {F : Type 0} (id : ℕ) (Spells : List ℕ → F → Type 0) (o : Option F) (x : F) (octets : Option (List ℕ)) → o ≡ Some x → IsRaw id Spells o octets → (v : List ℕ) × (octets ≡ Some v)
raw_octets id Spells None x octets is raw = absurd (cc is)
raw_octets id Spells (Some y) x octets is raw = (id ∷ length raw.0 ∷ raw.0, raw.1)

rsne_there : (d : Domain) (o : Option RsneFields) → rsne_status d o ≡ None → (r : RsneFields) × (o ≡ Some r)
rsne_there d None s = absurd (cc s)
rsne_there d (Some r) s = (r, refl)

mde_there : (d : Domain) (o : Option MdeFields) → mde_status d o ≡ None → (m : MdeFields) × (o ≡ Some m)
mde_there d None s = absurd (cc s)
mde_there d (Some m) s = (m, refl)

input_there : (e : ElementFields) (r m f : List ℕ) → e.rsne_octets ≡ Some r → e.mde_octets ≡ Some m → e.fte_octets ≡ Some f → is_some (mic_input [] [] 0 e) ≡ true
input_there e r m f x y z = rw (x, y, z) refl

pub elements_there : (d : Domain) (e : ElementFields) (f : FteFields) → HasRaw e → rsne_status d e.rsne ≡ None → mde_status d e.mde ≡ None → e.fte ≡ Some f → is_some (mic_input [] [] 0 e) ≡ true
elements_there d e f raw rsne mde fte =
    let r = rsne_there d e.rsne rsne in
    let m = mde_there d e.mde mde in
    let x = raw_octets 0x30 SpellsRsne e.rsne r.0 e.rsne_octets r.1 raw.rsne in
    let y = raw_octets 0x36 SpellsMde e.mde m.0 e.mde_octets m.1 raw.mde in
    let z = raw_octets 0x37 SpellsFte e.fte f e.fte_octets fte raw.fte in
    input_there e x.0 y.0 z.0 x.1 y.1 z.1

both_are : (b c : Bool) → b ≡ true → c ≡ true → (b && c) ≡ true
both_are true c x y = y
both_are false c x y = absurd (cc x)

-- what is known of a request that was accepted
pub record ReqAccepted (d : Domain) (n : Node) (h : List Act) (p : Node) (e : ElementFields) : Type 0 where
  pub y : Judged
  pub by : judged p h e ≡ Some y
  pub rsne : rsne_status d e.rsne ≡ None
  pub mde : mde_status d e.mde ≡ None
  pub f : FteFields
  pub fte : e.fte ≡ Some f
  pub ids : names_both (address d n) y.by_.key.inputs.r0kh_id e.fte ≡ true

names_taken : (d : Domain) (n : Node) (h : List Act) (p : Node) (e : ElementFields) (o : Option Judged) → judged p h e ≡ o → rsne_status d e.rsne ≡ None → mde_status d e.mde ≡ None → IsTaken (re_req_names d n e o) → ReqAccepted d n h p e
names_taken d n h p e None is rsne mde s = never (reason.Status fte_status) s
names_taken d n h p e (Some y) is rsne mde s =
    let w = and_parts (counts_three e.fte) _ (taken_passed (counts_three e.fte && names_both (address d n) y.by_.key.inputs.r0kh_id e.fte) (reason.Status fte_status) _ s).0 in
    let f = counted_some e.fte w.0 in
    record { y = y; by = is; rsne = rsne; mde = mde; f = f.0; fte = f.1; ids = w.1 }

pub req_opened : (d : Domain) (n : Node) (h : List Act) (p : Node) (e : ElementFields) → re_req_further d n h p e ≡ Accepted → ReqAccepted d n h p e
req_opened d n h p e s =
    let one = taken_status (rsne_status d e.rsne) _ (inl s) in
    let two = taken_status (mde_status d e.mde) _ one.1 in
    names_taken d n h p e (judged p h e) refl one.0 two.0 two.1

further_req : (d : Domain) (drawn : ℕ) (n : Node) (h : List Act) (p : Node) (b : Management) (e : ElementFields) (facts : Facts) (k : Kind) → k ≡ kind.ReReq → FrameAwaited d n h p e k → unless_refused Accepted (management_further d drawn n h p b e facts k) ≡ Accepted
    → (a : ℕ) × ((n ≡ Ap a) × (re_req_further d n h p e ≡ Accepted))
further_req d drawn n h p b e facts k is (Is_re_req a at w) s =
    let one : unless_refused Accepted (re_req_further d (Ap a) h p e) ≡ Accepted =
    subst (λ (m : Node). unless_refused Accepted (management_further d drawn m h p b e facts kind.ReReq) ≡ Accepted) at (subst (λ (v : Kind). unless_refused Accepted (management_further d drawn n h p b e facts v) ≡ Accepted) w s) in
    (a, (at, subst (λ (m : Node). re_req_further d m h p e ≡ Accepted) (sym at) (opened_names d (Ap a) h p e one)))
further_req d drawn n h p b e facts k is (Is_assoc_req w) s = absurd (cc (is, w))
further_req d drawn n h p b e facts k is (Is_assoc_resp w) s = absurd (cc (is, w))
further_req d drawn n h p b e facts k is (Is_ft_req a at w t) s = absurd (cc (is, w))
further_req d drawn n h p b e facts k is (Is_ft_resp w t) s = absurd (cc (is, w))
further_req d drawn n h p b e facts k is (Is_re_resp a at w t) s = absurd (cc (is, w))

-- a request that was accepted, of whom it is
pub record ReqFrom (d : Domain) (first : ℕ) (n : Node) (h : List Act) (b : Management) (e : ElementFields) : Type 0 where
  pub a : ℕ
  pub at : n ≡ Ap a
  pub p : Node
  pub accepted : ReqAccepted d n h p e

pub req_accepted : (d : Domain) (first : ℕ) (n : Node) (h : List Act) (b : Management) (e : ElementFields) (facts : Facts) → b.kind ≡ kind.ReReq → verdict d first n h (Managed b e) facts ≡ Accepted → ReqFrom d first n h b e
req_accepted d first n h b e facts k accepted =
    let x = frame_accepted d first n h b e facts accepted in
    let w = further_req d (first + draws h) n h x.p b e facts b.kind k (frame_kind d (first + draws h) n h x.p b.kind b e (inl x.verdict_is)) x.opened in
    record { a = w.0; at = w.1.0; p = x.p; accepted = req_opened d n h x.p e w.1.1 }

pub req_covered : (d : Domain) (first : ℕ) (n : Node) (h : List Act) (octets : List ℕ) (r : Reading) (b : Management) (e : ElementFields) (facts : Facts) → Reads d.akm octets r → r ≡ Managed b e → b.kind ≡ kind.ReReq → verdict d first n h r facts ≡ Accepted
    → is_with_mic r ≡ true
req_covered d first n h octets r b e facts reads is k accepted =
    let x = (req_accepted d first n h b e facts k (subst (λ (v : Reading). verdict d first n h v facts ≡ Accepted) is accepted)).accepted in
    let spelled : Reads d.akm octets (Managed b e) = subst (λ (v : Reading). Reads d.akm octets v) is reads in
    ap is_with_mic is ∙ ap (λ (v : Kind). is_covered v b e) k
    ∙ both_are (is_some e.fte) _ (ap is_some x.fte) (elements_there d e x.f (has_raw Body b.elements e spelled.1) x.rsne x.mde x.fte)

-- what is known of a response that was accepted
pub record RespOpened (d : Domain) (n : Node) (h : List Act) (p : Node) (b : Management) (e : ElementFields) : Type 0 where
  pub x : Derivation
  pub keyed : re_resp_keying p h ≡ Some x
  pub zero_ : (b.status == 0) ≡ true
  pub rsne : rsne_status d e.rsne ≡ None
  pub mde : mde_status d e.mde ≡ None
  pub f : FteFields
  pub fte : e.fte ≡ Some f
  pub ids : names_both (address d p) x.inputs.r0kh_id e.fte ≡ true
  pub carries : is_wrapped_gtk (gtk_in e.fte) ≡ true
  pub carries_igtk : has_igtk (protects d) e.fte ≡ true

resp_names : (d : Domain) (n : Node) (h : List Act) (p : Node) (b : Management) (e : ElementFields) (o : Option Derivation) → re_resp_keying p h ≡ o → (b.status == 0) ≡ true → IsTaken (re_resp_names d n p e o) → RespOpened d n h p b e
resp_names d n h p b e None is z s = never reason.Unawaited s
resp_names d n h p b e (Some x) is z s =
    let one = taken_status (rsne_status d e.rsne) _ s in
    let two = taken_status (mde_status d e.mde) _ one.1 in
    let all = (taken_passed (counts_three e.fte && names_both (address d p) x.inputs.r0kh_id e.fte && is_wrapped_gtk (gtk_in e.fte) && has_igtk (protects d) e.fte) (reason.Status fte_status) _ two.1).0 in
    let keys = and_parts (counts_three e.fte && names_both (address d p) x.inputs.r0kh_id e.fte && is_wrapped_gtk (gtk_in e.fte)) _ all in
    let w = and_parts (counts_three e.fte && names_both (address d p) x.inputs.r0kh_id e.fte) _ keys.0 in
    let v = and_parts (counts_three e.fte) _ w.0 in
    let f = counted_some e.fte v.0 in
    record { x = x; keyed = is; zero_ = z; rsne = one.0; mde = two.0; f = f.0; fte = f.1; ids = v.1; carries = w.1; carries_igtk = keys.1 }

pub resp_opened_by : (d : Domain) (n : Node) (h : List Act) (p : Node) (b : Management) (e : ElementFields) (u v : Option (List ℕ)) → IsTaken (re_resp_further d n h p b e u v) → RespOpened d n h p b e
resp_opened_by d n h p b e u v s =
    let w = taken_passed (b.status == 0) (reason.Status b.status) _ (unwraps_taken (igtk_to_unwrap (protects d) e.fte) v _ (unwraps_taken (to_unwrap e.fte) u _ s)) in
    resp_names d n h p b e (re_resp_keying p h) refl w.0 w.1

pub resp_covered : (d : Domain) (first : ℕ) (n : Node) (h : List Act) (octets : List ℕ) (r : Reading) (b : Management) (e : ElementFields) (facts : Facts) → Reads d.akm octets r → r ≡ Managed b e → b.kind ≡ kind.ReResp → verdict d first n h r facts ≡ Accepted
    → is_with_mic r ≡ true
resp_covered d first n h octets r b e facts reads is k accepted =
    let z = resp_accepted d first n h b e facts k (subst (λ (v : Reading). verdict d first n h v facts ≡ Accepted) is accepted) in
    let x = resp_opened_by d n h z.p b e facts.unwrapped facts.unwrapped_igtk z.opened in
    let spelled : Reads d.akm octets (Managed b e) = subst (λ (v : Reading). Reads d.akm octets v) is reads in
    ap is_with_mic is ∙ ap (λ (v : Kind). is_covered v b e) k
    ∙ both_are ((b.status == 0) && is_some e.fte) _ (both_are (b.status == 0) _ x.zero_ (ap is_some x.fte)) (elements_there d e x.f (has_raw Body b.elements e spelled.1) x.rsne x.mde x.fte)

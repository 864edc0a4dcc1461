-- The seal of a reassociation frame is noted where the MIC in its FTE verified.
use Rattle.std.proofs.Common.{◌≡◌, ℕ, ◌+◌, Bool, true, false, cond, List, [], Option, Some, None, is_some, refl, sym, ap, subst, ◌∙◌}
use Rattle.std.proofs.lemmas.Bool.{and_parts}
use Rattle.std.specs.Prelude.{not, ◌||◌, ◌&&◌, ◌==◌, bytes_eq, option_map, option_and_then, if◌then◌else◌}
use Rattle.std.proofs.lemmas.Slice.Eq.{bytes_eq-Decides}
use Rattle.domain_base.specs.declared.names.Node.{Node}
use Rattle.domain_base.specs.declared.names.Node.TheVariants.{Ap, Sta}
use Rattle.mac_prf.specs.Cmac.{cmac}
use Rattle.air_frame.specs.Fields.{HeaderFields}
use Rattle.rsn_elements.specs.declared.framing.Within.TheVariants.{Body}
use Rattle.rsn_elements.specs.Transition.{FteFields}
use Rattle.rsn_elements.specs.Elements.{ElementFields, SpellsElements}
use Rattle.run_journal.specs.declared.domain.Domain.{Domain}
use Rattle.run_journal.specs.declared.acts.Kind.{Kind}
use Rattle.run_journal.specs.declared.acts.Kind.TheVariants as kind
use Rattle.run_journal.specs.declared.acts.Reason.TheVariants as reason
use Rattle.run_journal.specs.declared.acts.Outcome.{Outcome}
use Rattle.run_journal.specs.declared.acts.Outcome.TheVariants.{Accepted, Refused}
use Rattle.run_journal.specs.declared.acts.Seal.{Seal}
use Rattle.run_journal.specs.declared.acts.Act.{Act}
use Rattle.run_journal.specs.Acts.{Derivation}
use Rattle.run_journal.specs.Questions.{draws}
use Rattle.domain_rules.specs.Network.{address, peer_of}
use Rattle.domain_rules.specs.Reading.{Management, Reading, Managed, IsManaged, Reads}
use Rattle.domain_rules.specs.FastTransition.{mic_input, request_number, response_number, fte_seal, fte_verified}
use Rattle.mac_prf.specs.FteMic.{fte_mic_input}
use Rattle.domain_rules.specs.TransitionKeys.{Judged, judged, transition, session_transition, re_req_covered, re_req_mic, re_req_verdict, re_req_sealed, re_req_seal, re_resp_keying, re_resp_covered, re_resp_mic, re_resp_verdict_by, re_resp_sealed, re_resp_seal, has_nonces}
use Rattle.domain_rules.specs.StationKeys.{taken_in}
use Rattle.domain_rules.specs.Associating.{management_verdict}
use Rattle.domain_rules.specs.Verdict.{first_verdict, is_mine, management_sender}
use Rattle.domain_rules.specs.Rows.{management_seal, seal_in}
use Rattle.domain_rules.specs.Closing.{sender}
use Rattle.domain_rules.specs.Verified.{covered_by, IsVerifiedFte, is_covered, is_with_mic}
use Rattle.domain_rules.proofs.Deciding.{IsTaken, never, taken_passed}
use Rattle.domain_rules.proofs.OneOutcome.{FrameAwaited, Is_assoc_req, Is_assoc_resp, Is_ft_req, Is_ft_resp, Is_re_req, Is_re_resp, frame_kind, taken_from, sender-some}
use Rattle.domain_rules.proofs.Peers.{peer_is}

-- what a MIC was tried under, and what it covers
pub record IsTried (o : Option FteFields) (c : Option (List ℕ)) (kck : List ℕ) (s : Seal) : Type 0 where
  pub f : FteFields
  pub fte : o ≡ Some f
  pub input : List ℕ
  pub covers : c ≡ Some input
  pub is : s ≡ fte_seal kck input

pub req_tried : (y : Option Judged) (o : Option FteFields) (c : Option (List ℕ)) (s : Seal) → re_req_sealed y o c ≡ Some s → (z : Judged) × ((y ≡ Some z) × IsTried o c z.by_.key.ptk.kck s)
req_tried None o c s is = absurd (cc is)
req_tried (Some y) None c s is = absurd (cc is)
req_tried (Some y) (Some f) None s is = absurd (cc is)
req_tried (Some y) (Some f) (Some input) s is = (y, (refl, record { f = f; fte = refl; input = input; covers = refl; is = cc is }))

pub resp_tried : (x : Option Derivation) (o : Option FteFields) (c : Option (List ℕ)) (s : Seal) → re_resp_sealed x o c ≡ Some s → (z : Derivation) × ((x ≡ Some z) × IsTried o c z.ptk.kck s)
resp_tried None o c s is = absurd (cc is)
resp_tried (Some y) None c s is = absurd (cc is)
resp_tried (Some y) (Some f) None s is = absurd (cc is)
resp_tried (Some y) (Some f) (Some input) s is = (y, (refl, record { f = f; fte = refl; input = input; covers = refl; is = cc is }))

-- the MIC that was tried verified
pub tried_mic : (o : Option FteFields) (c : Option (List ℕ)) (kck : List ℕ) (s : Seal) (a : Outcome) (t : IsTried o c kck s) → IsTaken (fte_verified kck o c a) → (t.f.mic ≡ cmac kck t.input) × IsTaken a
tried_mic o c kck s a t taken =
    let at : IsTaken (fte_verified kck (Some t.f) (Some t.input) a) =
    subst (λ (v : Option (List ℕ)). IsTaken (fte_verified kck (Some t.f) v a)) t.covers (subst (λ (v : Option FteFields). IsTaken (fte_verified kck v c a)) t.fte taken) in
    let w = taken_passed (bytes_eq t.f.mic (cmac kck t.input)) reason.Mic a at in
    ((bytes_eq-Decides t.f.mic (cmac kck t.input)).0 w.0, w.1)

passed_if : (c : Bool) (a : Outcome) → IsTaken (if c then a else Refused reason.Unawaited) → IsTaken a
passed_if c a s = (taken_passed c reason.Unawaited a s).1

-- of a request
pub req_mic : (d : Domain) (n : Node) (h : List Act) (p : Node) (e : ElementFields) (s : Seal) → IsTaken (re_req_verdict d n h p e) → re_req_seal d n h p e ≡ Some s
    → (y : Judged) × ((judged p h e ≡ Some y) × ((t : IsTried e.fte (re_req_covered d n p e) y.by_.key.ptk.kck s) × ((t.f.mic ≡ cmac y.by_.key.ptk.kck t.input) × IsTaken (taken_in y.is_session))))
req_mic d n h p e s taken is =
    let y = req_tried (judged p h e) e.fte (re_req_covered d n p e) s is in
    let at = subst (λ (o : Option Judged). IsTaken (re_req_mic d n p e o)) y.1.0 (passed_if (is_some (transition p h) || is_some (session_transition p h)) _ taken) in
    (y.0, (y.1.0, (y.1.1, tried_mic e.fte (re_req_covered d n p e) y.0.by_.key.ptk.kck s (taken_in y.0.is_session) y.1.1 at)))

pub status_seal : (c : Bool) (o : Option Seal) (s : Seal) → cond c o None ≡ Some s → (c ≡ true) × (o ≡ Some s)
status_seal true o s is = (refl, is)
status_seal false o s is = absurd (cc is)

-- of a response
pub resp_mic : (d : Domain) (n : Node) (h : List Act) (p : Node) (b : Management) (e : ElementFields) (s : Seal) → IsTaken (re_resp_verdict_by d n p b e (re_resp_keying p h)) → re_resp_seal d n h p b e ≡ Some s
    → (x : Derivation) × ((re_resp_keying p h ≡ Some x) × ((t : IsTried e.fte (re_resp_covered d n p e) x.ptk.kck s) × ((t.f.mic ≡ cmac x.ptk.kck t.input) × (has_nonces t.f x ≡ true))))
resp_mic d n h p b e s taken is =
    let w = status_seal (b.status == 0) _ s is in
    let x = resp_tried (re_resp_keying p h) e.fte (re_resp_covered d n p e) s w.1 in
    let one : IsTaken (if b.status == 0 then re_resp_mic d n p e x.0 e.fte else Accepted) = subst (λ (o : Option Derivation). IsTaken (re_resp_verdict_by d n p b e o)) x.1.0 taken in
    let two : IsTaken (re_resp_mic d n p e x.0 e.fte) = subst (λ (c : Bool). IsTaken (if c then re_resp_mic d n p e x.0 e.fte else Accepted)) w.0 one in
    let three : IsTaken (if has_nonces x.1.1.f x.0 then fte_verified x.0.ptk.kck e.fte (re_resp_covered d n p e) Accepted else Refused reason.Nonce) = subst (λ (o : Option FteFields). IsTaken (re_resp_mic d n p e x.0 o)) x.1.1.fte two in
    let four = taken_passed (has_nonces x.1.1.f x.0) reason.Nonce _ three in
    (x.0, (x.1.0, (x.1.1, ((tried_mic e.fte (re_resp_covered d n p e) x.0.ptk.kck s Accepted x.1.1 four.1).0, four.0))))

-- ---- the frame itself

-- a management frame that was taken: for whom it is, and from whom
pub record FrameFrom (d : Domain) (first : ℕ) (n : Node) (h : List Act) (b : Management) (e : ElementFields) : Type 0 where
  pub mine : b.header.a1 ≡ address d n
  pub p : Node
  pub from : management_sender d n b.header ≡ Some p
  pub peer : peer_of d n b.header.a2 ≡ Some p
  pub theirs : address d p ≡ b.header.a2
  pub taken : IsTaken (management_verdict d (first + draws h) n h p b.kind b e)

mine_by : (c : Bool) (o : Outcome) → IsTaken (if not c then Refused reason.NotForMe else o) → (c ≡ true) × IsTaken o
mine_by true o s = (refl, s)
mine_by false o s = never reason.NotForMe s

pub frame_from : (d : Domain) (first : ℕ) (n : Node) (h : List Act) (b : Management) (e : ElementFields) → IsTaken (first_verdict d first n h (Managed b e)) → FrameFrom d first n h b e
frame_from d first n h b e t =
    let m = mine_by (is_mine d n b.header) _ t in
    let behind = taken_from (management_sender d n b.header) (λ p. management_verdict d (first + draws h) n h p b.kind b e) m.1 in
    let peer = sender-some d n behind.0 b.header (peer_of d n b.header.a2) behind.1.0 in
    record { mine = (bytes_eq-Decides b.header.a1 (address d n)).0 m.0; p = behind.0; from = behind.1.0; peer = peer; theirs = (peer_is d n behind.0 b.header.a2 peer).has; taken = behind.1.1 }

covers_request : (d : Domain) (n p : Node) (b : Management) (e : ElementFields) (input : List ℕ) → b.kind ≡ kind.ReReq → b.header.a1 ≡ address d n → address d p ≡ b.header.a2 → re_req_covered d n p e ≡ Some input → covered_by b.kind b.header e ≡ Some input
covers_request d n p b e input k mine theirs is =
    ap (λ (v : Kind). covered_by v b.header e) k ∙ ap (λ (v : List ℕ). mic_input v b.header.a1 request_number e) (sym theirs) ∙ ap (λ (v : List ℕ). mic_input (address d p) v request_number e) mine ∙ is

covers_response : (d : Domain) (n p : Node) (b : Management) (e : ElementFields) (input : List ℕ) → b.kind ≡ kind.ReResp → b.header.a1 ≡ address d n → address d p ≡ b.header.a2 → re_resp_covered d n p e ≡ Some input → covered_by b.kind b.header e ≡ Some input
covers_response d n p b e input k mine theirs is =
    ap (λ (v : Kind). covered_by v b.header e) k ∙ ap (λ (v : List ℕ). mic_input v b.header.a2 response_number e) mine ∙ ap (λ (v : List ℕ). mic_input (address d n) v response_number e) (sym theirs) ∙ is

verified_fte : (octets : List ℕ) (b : Management) (e : ElementFields) (c : Option (List ℕ)) (kck : List ℕ) (s : Seal) → IsManaged octets b → SpellsElements Body b.elements e → (t : IsTried e.fte c kck s) → covered_by b.kind b.header e ≡ Some t.input → t.f.mic ≡ cmac kck t.input → IsVerifiedFte octets s
verified_fte octets b e c kck s managed spelled t covers mic = record {
  b = b;
  e = e;
  managed = managed;
  spelled = spelled;
  f = t.f;
  fte = t.fte;
  input = t.input;
  covers = covers;
  verifies = mic ∙ ap (λ (v : Seal). cmac v.key t.input) (sym t.is);
  is = t.is ∙ ap (λ (v : Seal). fte_seal v.key t.input) (sym t.is);
}

-- the seal that is noted of it
managed_by : (d : Domain) (first : ℕ) (n : Node) (h : List Act) (octets : List ℕ) (b : Management) (e : ElementFields) (s : Seal) (x : FrameFrom d first n h b e) → IsManaged octets b → SpellsElements Body b.elements e
    → FrameAwaited d n h x.p e b.kind → management_seal d n h b e b.kind (Some x.p) ≡ Some s → IsVerifiedFte octets s
managed_by d first n h octets b e s x managed spelled (Is_re_req a at k) is =
    let seal : re_req_seal d n h x.p e ≡ Some s = ap (λ (m : Node). re_req_seal d m h x.p e) at ∙ sym (ap (λ (m : Node). management_seal d m h b e kind.ReReq (Some x.p)) at) ∙ sym (ap (λ (v : Kind). management_seal d n h b e v (Some x.p)) k) ∙ is in
    let taken : IsTaken (re_req_verdict d n h x.p e) = subst (λ (m : Node). IsTaken (re_req_verdict d m h x.p e)) (sym at)
    (subst (λ (m : Node). IsTaken (management_verdict d (first + draws h) m h x.p kind.ReReq b e)) at (subst (λ (v : Kind). IsTaken (management_verdict d (first + draws h) n h x.p v b e)) k x.taken)) in
    let m = req_mic d n h x.p e s taken seal in
    verified_fte octets b e (re_req_covered d n x.p e) m.0.by_.key.ptk.kck s managed spelled m.1.1.0 (covers_request d n x.p b e m.1.1.0.input k x.mine x.theirs m.1.1.0.covers) m.1.1.1.0
managed_by d first n h octets b e s x managed spelled (Is_re_resp sta at k y) is =
    let seal : re_resp_seal d n h x.p b e ≡ Some s = ap (λ (m : Node). re_resp_seal d m h x.p b e) at ∙ sym (ap (λ (m : Node). management_seal d m h b e kind.ReResp (Some x.p)) at) ∙ sym (ap (λ (v : Kind). management_seal d n h b e v (Some x.p)) k) ∙ is in
    let taken : IsTaken (re_resp_verdict_by d n x.p b e (re_resp_keying x.p h)) = subst (λ (m : Node). IsTaken (re_resp_verdict_by d m x.p b e (re_resp_keying x.p h))) (sym at)
    (subst (λ (m : Node). IsTaken (management_verdict d (first + draws h) m h x.p kind.ReResp b e)) at (subst (λ (v : Kind). IsTaken (management_verdict d (first + draws h) n h x.p v b e)) k x.taken)) in
    let m = resp_mic d n h x.p b e s taken seal in
    verified_fte octets b e (re_resp_covered d n x.p e) m.0.ptk.kck s managed spelled m.1.1.0 (covers_response d n x.p b e m.1.1.0.input k x.mine x.theirs m.1.1.0.covers) m.1.1.1.0
managed_by d first n h octets b e s x managed spelled (Is_assoc_req k) is = absurd (no_seal n (sym (ap (λ (v : Kind). management_seal d n h b e v (Some x.p)) k) ∙ is))
  where
    no_seal : (m : Node) → management_seal d m h b e kind.AssocReq (Some x.p) ≡ Some s → ⊥
    no_seal (Ap a) t = cc t
    no_seal (Sta a) t = cc t
managed_by d first n h octets b e s x managed spelled (Is_assoc_resp k) is = absurd (no_seal n (sym (ap (λ (v : Kind). management_seal d n h b e v (Some x.p)) k) ∙ is))
  where
    no_seal : (m : Node) → management_seal d m h b e kind.AssocResp (Some x.p) ≡ Some s → ⊥
    no_seal (Ap a) t = cc t
    no_seal (Sta a) t = cc t
managed_by d first n h octets b e s x managed spelled (Is_ft_req a at k y) is = absurd (no_seal n (sym (ap (λ (v : Kind). management_seal d n h b e v (Some x.p)) k) ∙ is))
  where
    no_seal : (m : Node) → management_seal d m h b e kind.FtReq (Some x.p) ≡ Some s → ⊥
    no_seal (Ap z) t = cc t
    no_seal (Sta z) t = cc t
managed_by d first n h octets b e s x managed spelled (Is_ft_resp k y) is = absurd (no_seal n (sym (ap (λ (v : Kind). management_seal d n h b e v (Some x.p)) k) ∙ is))
  where
    no_seal : (m : Node) → management_seal d m h b e kind.FtResp (Some x.p) ≡ Some s → ⊥
    no_seal (Ap a) t = cc t
    no_seal (Sta a) t = cc t

pub managed_verified : (d : Domain) (first : ℕ) (n : Node) (h : List Act) (octets : List ℕ) (b : Management) (e : ElementFields) (s : Seal) → Reads d.akm octets (Managed b e) → IsTaken (first_verdict d first n h (Managed b e)) → seal_in d n h (Managed b e) ≡ Some s
    → IsVerifiedFte octets s
managed_verified d first n h octets b e s reads t is =
    let x = frame_from d first n h b e t in
    managed_by d first n h octets b e s x reads.0 reads.1 (frame_kind d (first + draws h) n h x.p b.kind b e x.taken) (sym (ap (λ (o : Option Node). management_seal d n h b e b.kind o) x.from) ∙ is)

-- ---- where a frame comes so far, and all that its MIC covers is there, there is a seal

-- what is covered is there whatever the addresses
pub input_some : (sta ap' sta_too ap_too : List ℕ) (k m : ℕ) (e : ElementFields) → is_some (mic_input sta ap' k e) ≡ true → (input : List ℕ) × (mic_input sta_too ap_too m e ≡ Some input)
input_some sta ap' sta_too ap_too k m e s = by e.rsne_octets e.mde_octets e.fte_octets s
  where
    by : (r q f : Option (List ℕ)) → is_some (option_and_then (λ rsne. option_and_then (λ mde. option_map (λ fte. fte_mic_input sta ap' k rsne mde fte) f) q) r) ≡ true
        → (input : List ℕ) × (option_and_then (λ rsne. option_and_then (λ mde. option_map (λ fte. fte_mic_input sta_too ap_too m rsne mde fte) f) q) r ≡ Some input)
    by (Some r) (Some q) (Some f) t = (_, refl)
    by (Some r) (Some q) None t = absurd (cc t)
    by (Some r) None f t = absurd (cc t)
    by None q f t = absurd (cc t)

some_of : {A : Type 0} (o : Option A) → is_some o ≡ true → (x : A) × (o ≡ Some x)
some_of None s = absurd (cc s)
some_of (Some x) s = (x, refl)

judged_some : (d : Domain) (n p : Node) (e : ElementFields) (f : FteFields) (o : Option Judged) → e.fte ≡ Some f → IsTaken (re_req_mic d n p e o) → (y : Judged) × (o ≡ Some y)
judged_some d n p e f (Some y) is s = (y, refl)
judged_some d n p e f None is s = never reason.Nonce (subst (λ (o : Option FteFields). IsTaken (cond (is_some o) (Refused reason.Nonce) Accepted)) is s)

req_sealed : (d : Domain) (n : Node) (h : List Act) (p : Node) (e : ElementFields) → (is_some e.fte && is_some (mic_input [] [] 0 e)) ≡ true → IsTaken (re_req_verdict d n h p e) → (s : Seal) × (re_req_seal d n h p e ≡ Some s)
req_sealed d n h p e has taken =
    let w = and_parts (is_some e.fte) _ has in
    let f = some_of e.fte w.0 in
    let input = input_some [] [] (address d p) (address d n) 0 request_number e w.1 in
    let y = judged_some d n p e f.0 (judged p h e) f.1 (passed_if (is_some (transition p h) || is_some (session_transition p h)) _ taken) in (
      fte_seal y.0.by_.key.ptk.kck input.0,
      ap (λ (o : Option Judged). re_req_sealed o e.fte (re_req_covered d n p e)) y.1 ∙ ap (λ (o : Option FteFields). re_req_sealed (Some y.0) o (re_req_covered d n p e)) f.1 ∙ ap (re_req_sealed (Some y.0) (Some f.0)) input.1,
    )

resp_sealed : (d : Domain) (n : Node) (h : List Act) (p : Node) (b : Management) (e : ElementFields) (x : Derivation) → ((b.status == 0) && is_some e.fte && is_some (mic_input [] [] 0 e)) ≡ true → re_resp_keying p h ≡ Some x → (s : Seal) × (re_resp_seal d n h p b e ≡ Some s)
resp_sealed d n h p b e x has keyed =
    let w = and_parts ((b.status == 0) && is_some e.fte) _ has in
    let v = and_parts (b.status == 0) _ w.0 in
    let f = some_of e.fte v.1 in
    let input = input_some [] [] (address d n) (address d p) 0 response_number e w.1 in (
      fte_seal x.ptk.kck input.0,
      ap (λ (c : Bool). cond c (re_resp_sealed (re_resp_keying p h) e.fte (re_resp_covered d n p e)) None) v.0
          ∙ ap (λ (o : Option Derivation). re_resp_sealed o e.fte (re_resp_covered d n p e)) keyed ∙ ap (λ (o : Option FteFields). re_resp_sealed (Some x) o (re_resp_covered d n p e)) f.1 ∙ ap (re_resp_sealed (Some x) (Some f.0)) input.1,
    )

has_by : (d : Domain) (first : ℕ) (n : Node) (h : List Act) (b : Management) (e : ElementFields) (x : FrameFrom d first n h b e) → FrameAwaited d n h x.p e b.kind → is_covered b.kind b e ≡ true → (s : Seal) × (management_seal d n h b e b.kind (Some x.p) ≡ Some s)
has_by d first n h b e x (Is_re_req a at k) has =
    let taken : IsTaken (re_req_verdict d (Ap a) h x.p e) =
    subst (λ (m : Node). IsTaken (management_verdict d (first + draws h) m h x.p kind.ReReq b e)) at (subst (λ (v : Kind). IsTaken (management_verdict d (first + draws h) n h x.p v b e)) k x.taken) in
    let w = req_sealed d (Ap a) h x.p e (sym (ap (λ (v : Kind). is_covered v b e) k) ∙ has) taken in
    (w.0, ap (λ (v : Kind). management_seal d n h b e v (Some x.p)) k ∙ ap (λ (m : Node). management_seal d m h b e kind.ReReq (Some x.p)) at ∙ w.1)
has_by d first n h b e x (Is_re_resp sta at k y) has =
    let w = resp_sealed d (Sta sta) h x.p b e y.0 (sym (ap (λ (v : Kind). is_covered v b e) k) ∙ has) y.1 in
    (w.0, ap (λ (v : Kind). management_seal d n h b e v (Some x.p)) k ∙ ap (λ (m : Node). management_seal d m h b e kind.ReResp (Some x.p)) at ∙ w.1)
has_by d first n h b e x (Is_assoc_req k) has = absurd (cc (sym (ap (λ (v : Kind). is_covered v b e) k) ∙ has))
has_by d first n h b e x (Is_assoc_resp k) has = absurd (cc (sym (ap (λ (v : Kind). is_covered v b e) k) ∙ has))
has_by d first n h b e x (Is_ft_req a at k y) has = absurd (cc (sym (ap (λ (v : Kind). is_covered v b e) k) ∙ has))
has_by d first n h b e x (Is_ft_resp k y) has = absurd (cc (sym (ap (λ (v : Kind). is_covered v b e) k) ∙ has))

pub managed_has : (d : Domain) (first : ℕ) (n : Node) (h : List Act) (b : Management) (e : ElementFields) → IsTaken (first_verdict d first n h (Managed b e)) → is_covered b.kind b e ≡ true → (s : Seal) × (seal_in d n h (Managed b e) ≡ Some s)
managed_has d first n h b e t has =
    let x = frame_from d first n h b e t in
    let w = has_by d first n h b e x (frame_kind d (first + draws h) n h x.p b.kind b e x.taken) has in
    (w.0, ap (λ (o : Option Node). management_seal d n h b e b.kind o) x.from ∙ w.1)

-- ---- by the peer that a row names

req_role : (d : Domain) (n : Node) (h : List Act) (p : Node) (e : ElementFields) (k : Kind) → k ≡ kind.ReReq → FrameAwaited d n h p e k → (a : ℕ) × (n ≡ Ap a)
req_role d n h p e k is (Is_re_req a at w) = (a, at)
req_role d n h p e k is (Is_assoc_req w) = absurd (cc (is, w))
req_role d n h p e k is (Is_assoc_resp w) = absurd (cc (is, w))
req_role d n h p e k is (Is_ft_req a at w t) = absurd (cc (is, w))
req_role d n h p e k is (Is_ft_resp w t) = absurd (cc (is, w))
req_role d n h p e k is (Is_re_resp a at w t) = absurd (cc (is, w))

resp_role : (d : Domain) (n : Node) (h : List Act) (p : Node) (e : ElementFields) (k : Kind) → k ≡ kind.ReResp → FrameAwaited d n h p e k → (a : ℕ) × (n ≡ Sta a)
resp_role d n h p e k is (Is_re_resp a at w t) = (a, at)
resp_role d n h p e k is (Is_assoc_req w) = absurd (cc (is, w))
resp_role d n h p e k is (Is_assoc_resp w) = absurd (cc (is, w))
resp_role d n h p e k is (Is_ft_req a at w t) = absurd (cc (is, w))
resp_role d n h p e k is (Is_ft_resp w t) = absurd (cc (is, w))
resp_role d n h p e k is (Is_re_req a at w) = absurd (cc (is, w))

-- the seal that is noted is that of the row
pub record NotedOf (d : Domain) (first : ℕ) (n : Node) (h : List Act) (b : Management) (e : ElementFields) (p : Node) (o : Option Seal) : Type 0 where
  pub taken : IsTaken (first_verdict d first n h (Managed b e))
  pub same : seal_in d n h (Managed b e) ≡ o

one_sender : (d : Domain) (n p q : Node) (header : HeaderFields) → management_sender d n header ≡ Some q → peer_of d n header.a2 ≡ Some p → management_sender d n header ≡ Some p
one_sender d n p q header from peer = let same : q ≡ p = cc (sym (sender-some d n q header (peer_of d n header.a2) from) ∙ peer) in from ∙ ap (λ (x : Node). Some x) same

request_of : (d : Domain) (first : ℕ) (n : Node) (h : List Act) (r : Reading) (b : Management) (e : ElementFields) (p : Node) → r ≡ Managed b e → b.kind ≡ kind.ReReq → sender d n r ≡ Some p → IsTaken (first_verdict d first n h r)
    → NotedOf d first n h b e p (re_req_seal d n h p e)
request_of d first n h r b e p is k from taken =
    let t : IsTaken (first_verdict d first n h (Managed b e)) = subst (λ (v : Reading). IsTaken (first_verdict d first n h v)) is taken in
    let x = frame_from d first n h b e t in
    let role = req_role d n h x.p e b.kind k (frame_kind d (first + draws h) n h x.p b.kind b e x.taken) in
    record {
      taken = t;
      same = ap (λ (o : Option Node). management_seal d n h b e b.kind o) (one_sender d n p x.p b.header x.from (subst (λ (v : Reading). sender d n v ≡ Some p) is from))
          ∙ ap (λ (v : Kind). management_seal d n h b e v (Some p)) k ∙ ap (λ (m : Node). management_seal d m h b e kind.ReReq (Some p)) role.1 ∙ sym (ap (λ (m : Node). re_req_seal d m h p e) role.1);
    }

response_of : (d : Domain) (first : ℕ) (n : Node) (h : List Act) (r : Reading) (b : Management) (e : ElementFields) (p : Node) → r ≡ Managed b e → b.kind ≡ kind.ReResp → sender d n r ≡ Some p → IsTaken (first_verdict d first n h r)
    → NotedOf d first n h b e p (re_resp_seal d n h p b e)
response_of d first n h r b e p is k from taken =
    let t : IsTaken (first_verdict d first n h (Managed b e)) = subst (λ (v : Reading). IsTaken (first_verdict d first n h v)) is taken in
    let x = frame_from d first n h b e t in
    let role = resp_role d n h x.p e b.kind k (frame_kind d (first + draws h) n h x.p b.kind b e x.taken) in
    record {
      taken = t;
      same = ap (λ (o : Option Node). management_seal d n h b e b.kind o) (one_sender d n p x.p b.header x.from (subst (λ (v : Reading). sender d n v ≡ Some p) is from))
          ∙ ap (λ (v : Kind). management_seal d n h b e v (Some p)) k ∙ ap (λ (m : Node). management_seal d m h b e kind.ReResp (Some p)) role.1 ∙ sym (ap (λ (m : Node). re_resp_seal d m h p b e) role.1);
    }

pub request_noted : (d : Domain) (first : ℕ) (n : Node) (h : List Act) (octets : List ℕ) (r : Reading) (b : Management) (e : ElementFields) (p : Node) (s : Seal) → Reads d.akm octets r → r ≡ Managed b e → b.kind ≡ kind.ReReq → sender d n r ≡ Some p
    → IsTaken (first_verdict d first n h r) → re_req_seal d n h p e ≡ Some s → IsVerifiedFte octets s
request_noted d first n h octets r b e p s reads is k from taken seal =
    let w = request_of d first n h r b e p is k from taken in
    managed_verified d first n h octets b e s (subst (λ (v : Reading). Reads d.akm octets v) is reads) w.taken (w.same ∙ seal)

pub response_noted : (d : Domain) (first : ℕ) (n : Node) (h : List Act) (octets : List ℕ) (r : Reading) (b : Management) (e : ElementFields) (p : Node) (s : Seal) → Reads d.akm octets r → r ≡ Managed b e → b.kind ≡ kind.ReResp → sender d n r ≡ Some p
    → IsTaken (first_verdict d first n h r) → re_resp_seal d n h p b e ≡ Some s → IsVerifiedFte octets s
response_noted d first n h octets r b e p s reads is k from taken seal =
    let w = response_of d first n h r b e p is k from taken in
    managed_verified d first n h octets b e s (subst (λ (v : Reading). Reads d.akm octets v) is reads) w.taken (w.same ∙ seal)

covered_in : (r : Reading) (b : Management) (e : ElementFields) → r ≡ Managed b e → is_with_mic r ≡ true → is_covered b.kind b e ≡ true
covered_in r b e is s = sym (ap is_with_mic is) ∙ s

pub request_has : (d : Domain) (first : ℕ) (n : Node) (h : List Act) (r : Reading) (b : Management) (e : ElementFields) (p : Node) → r ≡ Managed b e → b.kind ≡ kind.ReReq → sender d n r ≡ Some p → IsTaken (first_verdict d first n h r)
    → is_with_mic r ≡ true → (s : Seal) × (re_req_seal d n h p e ≡ Some s)
request_has d first n h r b e p is k from taken has =
    let w = request_of d first n h r b e p is k from taken in
    let s = managed_has d first n h b e w.taken (covered_in r b e is has) in
    (s.0, sym w.same ∙ s.1)

pub response_has : (d : Domain) (first : ℕ) (n : Node) (h : List Act) (r : Reading) (b : Management) (e : ElementFields) (p : Node) → r ≡ Managed b e → b.kind ≡ kind.ReResp → sender d n r ≡ Some p → IsTaken (first_verdict d first n h r)
    → is_with_mic r ≡ true → (s : Seal) × (re_resp_seal d n h p b e ≡ Some s)
response_has d first n h r b e p is k from taken has =
    let w = response_of d first n h r b e p is k from taken in
    let s = managed_has d first n h b e w.taken (covered_in r b e is has) in
    (s.0, sym w.same ∙ s.1)

-- What an accepted or answered frame of a fast transition tells of the node, its peer and the history.
use Rattle.std.proofs.Common.{ℕ, ◌≡◌, ◌+◌, ◌<◌, ◌≤◌, inl, inr, Bool, true, false, cond, List, [], ◌∷◌, length, take, drop, Option, Some, None, is_some, refl, sym, ap, ◌∙◌, subst, arith}
use Rattle.std.proofs.lemmas.Bool.{and_parts, ltb-true}
use Rattle.std.specs.Prelude.{not, nat_lt, ◌&&◌, ◌||◌, ◌==◌, bytes_eq, option_and_then, option_map, if◌then◌else◌}
use Rattle.std.proofs.lemmas.List.{length-take, length-drop}
use Rattle.std.proofs.lemmas.Slice.Eq.{bytes_eq-Decides}
use Rattle.domain_base.specs.declared.names.Akm.{Akm}
use Rattle.domain_base.specs.declared.names.Akm.TheVariants.{Psk, PskSha256, FtPsk}
use Rattle.domain_base.specs.declared.names.Node.{Node}
use Rattle.domain_base.specs.declared.names.Node.TheVariants.{Ap, Sta}
use Rattle.key_wrap.specs.KeyWrap.{Wraps}
use Rattle.key_hierarchy.specs.declared.fast_transition.PmkR1.{PmkR1}
use Rattle.key_hierarchy.specs.declared.answers.PullAnswer.{PullAnswer}
use Rattle.key_hierarchy.specs.declared.answers.PullAnswer.TheVariants.{Found, NoHolder, Absent}
use Rattle.air_frame.specs.Fields.{AirFields, assoc_req, assoc_resp, ft_req, ft_resp, re_req, re_resp, action, eapol, protected, ignored, HeaderFields, header_in, header_at}
use Rattle.air_frame.specs.Spelled.{SpellsAir}
use Rattle.rsn_elements.specs.declared.framing.Within.TheVariants.{Body}
use Rattle.rsn_elements.specs.Transition.{WrappedGtkFields, WrappedIgtkFields, FteFields}
use Rattle.rsn_elements.specs.Elements.{ElementFields, HasRaw}
use Rattle.rsn_elements.proofs.Unique.{has_raw}
use Rattle.run_journal.specs.declared.domain.Domain.{Domain}
use Rattle.run_journal.specs.declared.acts.Kind.{Kind}
use Rattle.run_journal.specs.declared.acts.Kind.TheVariants as kind
use Rattle.run_journal.specs.declared.acts.Reason.TheVariants as reason
use Rattle.run_journal.specs.declared.acts.Outcome.{Outcome}
use Rattle.run_journal.specs.declared.acts.Outcome.TheVariants.{Accepted, Refused}
use Rattle.run_journal.specs.declared.acts.Act.{Act}
use Rattle.run_journal.specs.declared.acts.Act.TheVariants.{Looked}
use Rattle.run_journal.specs.Acts.{same, opens, Derivation}
use Rattle.run_journal.specs.Questions.{or_else, attempt, derivation, draws}
use Rattle.run_journal.specs.Holders.{Look, looked, last_look, look, found_in, last_r0kh_id}
use Rattle.run_journal.specs.Premises.{In}
use Rattle.domain_rules.specs.Network.{address, peer_of, is_ap, draw_end}
use Rattle.run_journal.specs.Events.{IsListed, protects}
use Rattle.domain_rules.specs.Reading.{Management, Reading, Managed, Reads, management_of}
use Rattle.domain_rules.specs.Facts.{Facts, is_same}
use Rattle.mac_prf.specs.Cmac.{cmac}
use Rattle.domain_rules.specs.Asking.{is_by_roam, has_heard, own}
use Rattle.domain_rules.specs.Suites.{rsne_status, without_status}
use Rattle.domain_rules.specs.Associating.{management_verdict}
use Rattle.domain_rules.specs.FastTransition.{request_number, response_number, mic_input, fte_seal, fte_verified, mde_status, fte_status, names_both, to_unwrap, igtk_to_unwrap, gtk_in, gtk_id, igtk_in, is_wrapped_gtk, is_wrapped_igtk, has_igtk}
use Rattle.domain_rules.specs.TransitionKeys.{Asked, asked, repeats, ft_req_asked, ft_req_verdict_by, ft_req_verdict, pulled_verdict, ft_req_pulled, ft_req_further, Transition, made_of, transition_in, transition, session_transition, has_nonces, Judged, judged_session, judged_attempt, judged_by, judged, re_req_covered, re_req_mic, re_req_seal, re_req_sealed, re_resp_keying_in, re_resp_keying, re_resp_covered, re_resp_seal, re_resp_sealed, KnowsGtk, own_nonce_in, ft_resp_fields, ft_resp_verdict, re_req_further, re_req_verdict, unwraps, re_resp_names, re_resp_further}
use Rattle.domain_rules.specs.StationKeys.{taken_in}
use Rattle.domain_rules.specs.Verdict.{is_mine, management_sender, first_verdict, unless_refused, management_further, verdict, KnowsManaged, Knows}
use Rattle.domain_rules.specs.Closing.{sender}
use Rattle.domain_rules.proofs.Deciding.{IsTaken, never, taken_behind, taken_passed, taken_attempt, taken_status}
use Rattle.domain_rules.proofs.OneOutcome.{FrameAwaited, Is_assoc_req, Is_assoc_resp, Is_ft_req, Is_ft_resp, Is_re_req, Is_re_resp, frame_kind, frame_accepted, resp_accepted}
use Rattle.domain_rules.proofs.TransitionOutcome.{asked_accepted}
use Rattle.domain_rules.proofs.SomeGroup.{opened_names}
use Rattle.domain_rules.proofs.Parts.{same-true}
use Rattle.domain_rules.proofs.Derivations.{made_is}
use Rattle.domain_rules.proofs.Peers.{IsPeer, peer_is}
use Rattle.domain_rules.proofs.FteSeals.{frame_from, input_some}
use Rattle.domain_rules.proofs.Covered.{elements_there, req_opened, resp_opened_by}
use Rattle.journal_safety.proofs.Names.{listed_by}

-- ---- for whom it is and from whom

behind : (octets : List ℕ) → 24 ≤ length octets → 1 ≤ length (take 6 (drop 4 octets))
behind octets long = omega (arith, long, length-take 6 (drop 4 octets), length-drop 4 octets)

header_here : (octets : List ℕ) (header : HeaderFields) → header ≡ header_at 24 octets → 24 ≤ length octets → 1 ≤ length header.a1
header_here octets header is long = subst (λ (x : HeaderFields). 1 ≤ length x.a1) (sym is) (behind octets long)

-- an address in a management frame is there
some_by : (octets : List ℕ) (frame : AirFields) (b : Management) → SpellsAir octets frame → management_of frame ≡ Some b → 1 ≤ length b.header.a1
some_by octets (assoc_req h c i e) b s is = let l = s.1.long in let one : Some h ≡ Some (header_at 24 octets) = ap header_in s.0 in let w : h ≡ b.header = cc (ap (λ (o : Option Management). option_map (λ (x : Management). x.header) o) is) in subst (λ (x : HeaderFields). 1 ≤ length x.a1) w (header_here octets h (cc one) (omega (arith, l)))
some_by octets (assoc_resp h c t i e) b s is = let l = s.1.long in let one : Some h ≡ Some (header_at 24 octets) = ap header_in s.0 in let w : h ≡ b.header = cc (ap (λ (o : Option Management). option_map (λ (x : Management). x.header) o) is) in subst (λ (x : HeaderFields). 1 ≤ length x.a1) w (header_here octets h (cc one) (omega (arith, l)))
some_by octets (ft_req h t e) b s is = let l = s.1.authentication.long in let one : Some h ≡ Some (header_at 24 octets) = ap header_in s.0 in let w : h ≡ b.header = cc (ap (λ (o : Option Management). option_map (λ (x : Management). x.header) o) is) in subst (λ (x : HeaderFields). 1 ≤ length x.a1) w (header_here octets h (cc one) (omega (arith, l)))
some_by octets (ft_resp h t e) b s is = let l = s.1.authentication.long in let one : Some h ≡ Some (header_at 24 octets) = ap header_in s.0 in let w : h ≡ b.header = cc (ap (λ (o : Option Management). option_map (λ (x : Management). x.header) o) is) in subst (λ (x : HeaderFields). 1 ≤ length x.a1) w (header_here octets h (cc one) (omega (arith, l)))
some_by octets (re_req h c i u e) b s is = let l = s.1.long in let one : Some h ≡ Some (header_at 24 octets) = ap header_in s.0 in let w : h ≡ b.header = cc (ap (λ (o : Option Management). option_map (λ (x : Management). x.header) o) is) in subst (λ (x : HeaderFields). 1 ≤ length x.a1) w (header_here octets h (cc one) (omega (arith, l)))
some_by octets (re_resp h c t i e) b s is = let l = s.1.long in let one : Some h ≡ Some (header_at 24 octets) = ap header_in s.0 in let w : h ≡ b.header = cc (ap (λ (o : Option Management). option_map (λ (x : Management). x.header) o) is) in subst (λ (x : HeaderFields). 1 ≤ length x.a1) w (header_here octets h (cc one) (omega (arith, l)))
some_by octets (action h body) b s is = absurd (cc is)
some_by octets (eapol h way tid body) b s is = absurd (cc is)
some_by octets (protected h way tid body) b s is = absurd (cc is)
some_by octets ignored b s is = absurd (cc is)

-- of a frame that was accepted or answered at n from p
pub record Came (d : Domain) (first : ℕ) (n p : Node) (h : List Act) (b : Management) (e : ElementFields) (o : Outcome) : Type 0 where
  pub roles : is_ap p ≡ not (is_ap n)
  pub listed : IsListed d n
  pub peer_listed : IsListed d p
  pub raw : HasRaw e
  pub from : management_sender d n b.header ≡ Some p
  pub is : management_verdict d (first + draws h) n h p b.kind b e ≡ o

same_peer : (o : Option Node) (p q : Node) → o ≡ Some q → o ≡ Some p → q ≡ p
same_peer o p q a b = cc (a, b)

pub came : (d : Domain) (first : ℕ) (n p : Node) (h : List Act) (octets : List ℕ) (r : Reading) (b : Management) (e : ElementFields) (o : Outcome) → r ≡ Managed b e → Reads d.akm octets r → sender d n r ≡ Some p → IsTaken o → first_verdict d first n h r ≡ o → Came d first n p h b e o
came d first n p h octets r b e o is reads from taken verdict_is =
    let v : first_verdict d first n h (Managed b e) ≡ o = subst (λ (x : Reading). first_verdict d first n h x ≡ o) is verdict_is in
    let x = frame_from d first n h b e (subst IsTaken (sym v) taken) in
    let spelled : Reads d.akm octets (Managed b e) = subst (λ (x : Reading). Reads d.akm octets x) is reads in
    let a2 : peer_of d n b.header.a2 ≡ Some p = subst (λ (x : Reading). sender d n x ≡ Some p) is from in
    let one : x.p ≡ p = same_peer (peer_of d n b.header.a2) p x.p x.peer a2 in
    let peer : IsPeer d n p b.header.a2 = peer_is d n p b.header.a2 a2 in
    let mine : is_mine d n b.header ≡ true = (bytes_eq-Decides b.header.a1 (address d n)).1 x.mine in
    let sent : management_sender d n b.header ≡ Some p = x.from ∙ ap Some one in
    record {
      roles = peer.other;
      listed = listed_by d n (subst (λ (y : List ℕ). 1 ≤ length y) x.mine (some_by octets spelled.0.frame b spelled.0.spelled spelled.0.is));
      peer_listed = peer.listed;
      raw = has_raw Body b.elements e spelled.1;
      from = sent;
      is = sym (taken_verdict d first n p h b e mine sent) ∙ v;
    }
  where
    taken_verdict : (d : Domain) (first : ℕ) (n p : Node) (h : List Act) (b : Management) (e : ElementFields) → is_mine d n b.header ≡ true → management_sender d n b.header ≡ Some p → first_verdict d first n h (Managed b e) ≡ management_verdict d (first + draws h) n h p b.kind b e
    taken_verdict d first n p h b e mine sent = rw (mine, sent) refl

-- ---- the attempt that a transition is of

-- an attempt by fast transition, and what was derived last in it
pub record Moving (p : Node) (h : List Act) (x : Derivation) : Type 0 where
  pub part : List Act
  pub awaited : attempt p h ≡ Some part
  pub moves : is_by_roam part ≡ true
  pub last : derivation p part ≡ Some x

-- and what the key holder gave for it
pub record Held (p : Node) (h : List Act) (z : Transition) : Type 0 where
  pub l : Look
  pub asked : look p h ≡ Some l
  pub k : PmkR1
  pub found : found_in l.answer ≡ Some k
  pub name : z.r1_name ≡ k.name

found_by : (o : Option Look) (l : Look) (m : PmkR1) → o ≡ Some l → option_and_then (λ (y : Look). found_in y.answer) o ≡ Some m → found_in l.answer ≡ Some m
found_by None l m is s = absurd (cc is)
found_by (Some y) l m is s = let one : y ≡ l = cc is in subst (λ (v : Look). found_in v.answer ≡ Some m) one s

moving_by : (p : Node) (h : List Act) (o : Option (List Act)) (z : Transition) → attempt p h ≡ o → transition_in p h o ≡ Some z → Moving p h z.key × Held p h z
moving_by p h None z a is = absurd (cc is)
moving_by p h (Some part) z a is = go (is_by_roam part) refl is
  where
    go : (b : Bool) → is_by_roam part ≡ b → cond b (made_of p h part) None ≡ Some z → Moving p h z.key × Held p h z
    go false begun none = absurd (cc none)
    go true begun made =
        let w = made_is (derivation p part) (look p h) (option_and_then (λ (l : Look). found_in l.answer) (look p h)) z made in (
          record { part = part; awaited = a; moves = begun; last = w.0 },
          record { l = w.1.0; asked = w.1.1.0; k = w.1.1.1.0; found = found_by (look p h) w.1.0 w.1.1.1.0 w.1.1.0 w.1.1.1.1.0; name = w.1.1.1.1.1 },
        )

pub moving : (p : Node) (h : List Act) (z : Transition) → transition p h ≡ Some z → Moving p h z.key × Held p h z
moving p h z is = moving_by p h (attempt p h) z refl is

-- ---- looks

looked_same : (p q : Node) (id name : List ℕ) (answer : PullAnswer) (l : Look) (b : Bool) → same p q ≡ b → cond b (Some (record { r0kh_id = id; name = name; answer = answer })) None ≡ Some l → Looked id name q answer ≡ Looked l.r0kh_id l.name p l.answer
looked_same p q id name answer l true s is =
    let one : record { r0kh_id = id; name = name; answer = answer } ≡ l = cc is in
    ap (λ (x : Node). Looked id name x answer) (sym (same-true p q s)) ∙ ap (λ (x : Look). Looked x.r0kh_id x.name p x.answer) one
looked_same p q id name answer l false s is = absurd (cc is)

looked-is : (p : Node) (e : Act) (l : Look) → looked p e ≡ Some l → e ≡ Looked l.r0kh_id l.name p l.answer
looked-is p (Looked id name q answer) l is = looked_same p q id name answer l (same p q) refl is
looked-is p _ l is = cc

last_by : (p : Node) (e : Act) (h : List Act) (l : Look) → (last_look p h ≡ Some l → In (Looked l.r0kh_id l.name p l.answer) h) → (o : Option Look) → looked p e ≡ o → or_else o (last_look p h) ≡ Some l → In (Looked l.r0kh_id l.name p l.answer) (e ∷ h)
last_by p e h l more None is s = inr (more s)
last_by p e h l more (Some y) is s = inl (sym (looked-is p e l (is ∙ s)))

last_in : (p : Node) (h : List Act) (l : Look) → last_look p h ≡ Some l → In (Looked l.r0kh_id l.name p l.answer) h
last_in p [] l is = absurd (cc is)
last_in p (e ∷ h) l is = last_by p e h l (last_in p h l) (looked p e) refl is

look_by : (p : Node) (e : Act) (h : List Act) (l : Look) → (look p h ≡ Some l → In (Looked l.r0kh_id l.name p l.answer) h) → (b : Bool) → cond b (last_look p h) (look p h) ≡ Some l → In (Looked l.r0kh_id l.name p l.answer) (e ∷ h)
look_by p e h l more true is = inr (last_in p h l is)
look_by p e h l more false is = inr (more is)

pub look_in : (p : Node) (h : List Act) (l : Look) → look p h ≡ Some l → In (Looked l.r0kh_id l.name p l.answer) h
look_in p [] l is = absurd (cc is)
look_in p (e ∷ h) l is = look_by p e h l (look_in p h l) (opens p e) is

pub found-is : (answer : PullAnswer) (k : PmkR1) → found_in answer ≡ Some k → answer ≡ Found k
found-is (Found m) k is = ap Found (cc is)
found-is NoHolder k is = absurd (cc is)
found-is Absent k is = absurd (cc is)

-- ---- authentication request

pub request_suite : (d : Domain) (first : ℕ) (n p : Node) (h : List Act) (b : Management) (e : ElementFields) (o : Outcome) → IsTaken o → b.kind ≡ kind.FtReq → Came d first n p h b e o → (a : ℕ) × ((n ≡ Ap a) × (d.akm ≡ FtPsk))
request_suite d first n p h b e o taken k c = go (frame_kind d (first + draws h) n h p b.kind b e (subst IsTaken (sym c.is) taken))
  where
    go : FrameAwaited d n h p e b.kind → (a : ℕ) × ((n ≡ Ap a) × (d.akm ≡ FtPsk))
    go (Is_ft_req a at w t) = (a, (at, t.suite))
    go (Is_assoc_req w) = absurd (cc (k, w))
    go (Is_assoc_resp w) = absurd (cc (k, w))
    go (Is_ft_resp w t) = absurd (cc (k, w))
    go (Is_re_req a at w) = absurd (cc (k, w))
    go (Is_re_resp a at w t) = absurd (cc (k, w))

-- where a nonce can be drawn
status_passed : (o : Option ℕ) (x : Outcome) → without_status o x ≡ Accepted → x ≡ Accepted
status_passed None x s = s
status_passed (Some code) x s = cc s

no_repeat_by : (akm : Akm) (d : Domain) (y : Option Transition) (e : ElementFields) (a : Asked) → asked e ≡ Some a → ft_req_verdict_by akm d y e ≡ Accepted → repeats a y ≡ false
no_repeat_by FtPsk d y e a is s =
    let w = status_passed (mde_status d e.mde) (ft_req_asked d (asked e) y) (status_passed (rsne_status d e.rsne) (without_status (mde_status d e.mde) (ft_req_asked d (asked e) y)) s) in
    (asked_accepted d a (repeats a y) (subst (λ (o : Option Asked). ft_req_asked d o y ≡ Accepted) is w)).0
no_repeat_by Psk d y e a is s = absurd (cc s)
no_repeat_by PskSha256 d y e a is s = absurd (cc s)

pulled_few : (drawn : ℕ) (o : Option PmkR1) → unless_refused Accepted (pulled_verdict drawn o) ≡ Accepted → drawn < draw_end
pulled_few drawn None s = absurd (cc s)
pulled_few drawn (Some k) s = go (nat_lt drawn draw_end) refl s
  where
    go : (b : Bool) → nat_lt drawn draw_end ≡ b → unless_refused Accepted (if b then Accepted else Refused reason.Spent) ≡ Accepted → drawn < draw_end
    go true is w = ltb-true drawn draw_end is
    go false is w = absurd (cc w)

asked_few : (drawn : ℕ) (o : Option Asked) (a : Asked) (y : Option Transition) (pulled : Option PmkR1) → o ≡ Some a → repeats a y ≡ false → unless_refused Accepted (ft_req_pulled drawn o y pulled) ≡ Accepted → drawn < draw_end
asked_few drawn o a y pulled is first_time s =
    let w : unless_refused Accepted (cond (repeats a y) Accepted (pulled_verdict drawn pulled)) ≡ Accepted = subst (λ (x : Option Asked). unless_refused Accepted (ft_req_pulled drawn x y pulled) ≡ Accepted) is s in
    pulled_few drawn pulled (subst (λ (b : Bool). unless_refused Accepted (cond b Accepted (pulled_verdict drawn pulled)) ≡ Accepted) first_time w)

request_few_at : (d : Domain) (drawn : ℕ) (n : Node) (h : List Act) (p : Node) (k : Kind) (b : Management) (e : ElementFields) (facts : Facts) (a : Asked) → k ≡ kind.FtReq → asked e ≡ Some a → management_verdict d drawn n h p k b e ≡ Accepted → unless_refused Accepted (management_further d drawn n h p b e facts k) ≡ Accepted → drawn < draw_end
request_few_at d drawn (Ap x) h p k b e facts a is asks s t =
    let v : ft_req_verdict d h p e ≡ Accepted = subst (λ (m : Kind). management_verdict d drawn (Ap x) h p m b e ≡ Accepted) is s in
    let f : unless_refused Accepted (ft_req_further drawn h p e facts.pulled) ≡ Accepted = subst (λ (m : Kind). unless_refused Accepted (management_further d drawn (Ap x) h p b e facts m) ≡ Accepted) is t in
    asked_few drawn (asked e) a (transition p h) facts.pulled asks (no_repeat_by d.akm d (transition p h) e a asks v) f
request_few_at d drawn (Sta x) h p k b e facts a is asks s t =
    let v : management_verdict d drawn (Sta x) h p kind.FtReq b e ≡ Accepted = subst (λ (m : Kind). management_verdict d drawn (Sta x) h p m b e ≡ Accepted) is s in absurd (cc v)

pub request_draws : (d : Domain) (first : ℕ) (n : Node) (h : List Act) (b : Management) (e : ElementFields) (facts : Facts) (a : Asked) → b.kind ≡ kind.FtReq → asked e ≡ Some a → verdict d first n h (Managed b e) facts ≡ Accepted → draws h < draw_end
request_draws d first n h b e facts a is asks accepted =
    let x = frame_accepted d first n h b e facts accepted in
    let low : first + draws h < draw_end = request_few_at d (first + draws h) n h x.p b.kind b e facts a is asks x.verdict_is x.opened in
    omega (arith, low)

-- ---- authentication response

names_by : (r1kh r0kh : List ℕ) (f : FteFields) → names_both r1kh r0kh (Some f) ≡ true → f.r0kh_id ≡ Some r0kh
names_by r1kh r0kh f is = go f.r0kh_id (and_parts (is_same f.r1kh_id (Some r1kh)) (is_same f.r0kh_id (Some r0kh)) is).1
  where
    go : (o : Option (List ℕ)) → is_same o (Some r0kh) ≡ true → o ≡ Some r0kh
    go None w = absurd (cc w)
    go (Some x) w = ap Some ((bytes_eq-Decides x r0kh).0 w)

pub named_holder : (r1kh r0kh : List ℕ) (o : Option FteFields) (f : FteFields) → o ≡ Some f → names_both r1kh r0kh o ≡ true → f.r0kh_id ≡ Some r0kh
named_holder r1kh r0kh o f is w = names_by r1kh r0kh f (subst (λ (x : Option FteFields). names_both r1kh r0kh x ≡ true) is w)

own_through : (v : List ℕ) (o : Option FteFields) (a : Outcome) → IsTaken (own_nonce_in v o a) → IsTaken a
own_through v None a s = s
own_through v (Some f) a s = (taken_passed (bytes_eq f.snonce v) reason.Nonce a s).1

-- of a response that a station accepted
pub record RespTaken (d : Domain) (n p : Node) (h : List Act) (e : ElementFields) (part : List Act) : Type 0 where
  pub station : is_ap n ≡ false
  pub moves : is_by_roam part ≡ true
  pub ids : names_both (address d p) (last_r0kh_id h) e.fte ≡ true

not_or : (a b : Bool) → (not a || b) ≡ false → a ≡ true
not_or true b s = refl
not_or false b s = absurd (cc s)

not_passed : (c : Bool) (o : Outcome) → IsTaken (if c then Refused reason.Unawaited else o) → c ≡ false
not_passed true o s = never reason.Unawaited s
not_passed false o s = refl

response_by : (d : Domain) (n p : Node) (h : List Act) (b : Management) (e : ElementFields) (part : List Act) → is_ap n ≡ false → attempt p h ≡ Some part → IsTaken (ft_resp_verdict d n h p b e) → RespTaken d n p h e part
response_by d n p h b e part role awaited s =
    let w = taken_attempt (attempt p h) _ s in
    let one : w.0 ≡ part = cc (w.1.0, awaited) in
    let first_ = not_passed (not (is_by_roam w.0) || has_heard p kind.FtResp w.0) _ w.1.1 in
    let behind_first = taken_behind (not (is_by_roam w.0) || has_heard p kind.FtResp w.0) reason.Unawaited _ w.1.1 in
    let behind_status = taken_behind (not (b.status == 0)) (reason.Status b.status) _ behind_first in
    let fields = own_through (own w.0) e.fte (ft_resp_fields d n h p e) behind_status in
    let suites = taken_status (rsne_status d e.rsne) _ fields in
    let domain_ = taken_status (mde_status d e.mde) _ suites.1 in
    record {
      station = role;
      moves = subst (λ (x : List Act). is_by_roam x ≡ true) one (not_or (is_by_roam w.0) _ first_);
      ids = (taken_passed (names_both (address d p) (last_r0kh_id h) e.fte) (reason.Status fte_status) _ domain_.1).0;
    }

pub response_taken : (d : Domain) (first : ℕ) (n p : Node) (h : List Act) (b : Management) (e : ElementFields) (part : List Act) → b.kind ≡ kind.FtResp → Came d first n p h b e Accepted → attempt p h ≡ Some part → RespTaken d n p h e part
response_taken d first (Sta s) p h b e part k c awaited =
    response_by d (Sta s) p h b e part refl awaited (inl (subst (λ (x : Kind). management_verdict d (first + draws h) (Sta s) h p x b e ≡ Accepted) k c.is))
response_taken d first (Ap a) p h b e part k c awaited =
    let w : management_verdict d (first + draws h) (Ap a) h p kind.FtResp b e ≡ Accepted = subst (λ (x : Kind). management_verdict d (first + draws h) (Ap a) h p x b e ≡ Accepted) k c.is in absurd (cc w)

-- ---- reassociation request

through_verified : (kck : List ℕ) (f : Option FteFields) (input : Option (List ℕ)) (a : Outcome) → fte_verified kck f input a ≡ Accepted → a ≡ Accepted
through_verified kck (Some f) (Some input) a is = go (bytes_eq f.mic (cmac kck input)) is
  where
    go : (b : Bool) → (if b then a else Refused reason.Mic) ≡ Accepted → a ≡ Accepted
    go true w = w
    go false w = absurd (cc w)
through_verified kck (Some f) None a is = is
through_verified kck None input a is = is

taken_first : (b : Bool) → taken_in b ≡ Accepted → b ≡ false
taken_first false is = refl
taken_first true is = absurd (cc is)

passed_then : (c : Bool) (a : Outcome) → (if c then a else Refused reason.Unawaited) ≡ Accepted → a ≡ Accepted
passed_then true a is = is
passed_then false a is = absurd (cc is)

of_session : (f : FteFields) (s : Option Transition) (y : Judged) → judged_session f s ≡ Some y → y.is_session ≡ true
of_session f None y is = absurd (cc is)
of_session f (Some z) y is = go (has_nonces f z.key) is
  where
    go : (b : Bool) → cond b (Some (record { by_ = z; is_session = true })) None ≡ Some y → y.is_session ≡ true
    go true w = let one : record { by_ = z; is_session = true } ≡ y = cc w in ap (λ (x : Judged). x.is_session) (sym one)
    go false w = absurd (cc w)

of_attempt : (f : FteFields) (t s : Option Transition) (y : Judged) → judged_attempt f t s ≡ Some y → y.is_session ≡ false → (t ≡ Some y.by_) × (has_nonces f y.by_.key ≡ true)
of_attempt f None s y is left_ = let right_ = of_session f s y is in absurd (cc (right_, left_))
of_attempt f (Some z) s y is left_ = go (has_nonces f z.key) refl is
  where
    go : (b : Bool) → has_nonces f z.key ≡ b → cond b (Some (record { by_ = z; is_session = false })) (judged_session f s) ≡ Some y → (Some z ≡ Some y.by_) × (has_nonces f y.by_.key ≡ true)
    go true nonces w = let one : record { by_ = z; is_session = false } ≡ y = cc w in (ap (λ (x : Judged). Some x.by_) one, subst (λ (x : Judged). has_nonces f x.by_.key ≡ true) one nonces)
    go false nonces w = let right_ = of_session f s y w in absurd (cc (right_, left_))

judged_at : (p : Node) (h : List Act) (e : ElementFields) (f : FteFields) (y : Judged) → e.fte ≡ Some f → judged p h e ≡ Some y → y.is_session ≡ false → (transition p h ≡ Some y.by_) × (has_nonces f y.by_.key ≡ true)
judged_at p h e f y fte is left_ = of_attempt f (transition p h) (session_transition p h) y (subst (λ (o : Option FteFields). judged_by o (transition p h) (session_transition p h) ≡ Some y) fte is) left_

-- of a request that an access point accepted: what it is judged by, and what its MIC covers
pub record ReqTaken (d : Domain) (n p : Node) (h : List Act) (e : ElementFields) (y : Judged) : Type 0 where
  pub role : is_ap n ≡ true
  pub is_attempt : transition p h ≡ Some y.by_
  pub f : FteFields
  pub fte : e.fte ≡ Some f
  pub nonces : has_nonces f y.by_.key ≡ true
  pub holder : f.r0kh_id ≡ Some y.by_.key.inputs.r0kh_id
  pub input : List ℕ
  pub covered : mic_input (address d p) (address d n) request_number e ≡ Some input
  pub seal : re_req_seal d n h p e ≡ Some (fte_seal y.by_.key.ptk.kck input)

req_seal_is : (o : Option Judged) (q : Option FteFields) (c : Option (List ℕ)) (y : Judged) (f : FteFields) (input : List ℕ) → o ≡ Some y → q ≡ Some f → c ≡ Some input → re_req_sealed o q c ≡ Some (fte_seal y.by_.key.ptk.kck input)
req_seal_is o q c y f input a b i = rw (a, b, i) refl

req_by : (d : Domain) (first a : ℕ) (p : Node) (h : List Act) (b : Management) (e : ElementFields) (facts : Facts) (y : Judged) → b.kind ≡ kind.ReReq → Came d first (Ap a) p h b e Accepted → verdict d first (Ap a) h (Managed b e) facts ≡ Accepted → judged p h e ≡ Some y → ReqTaken d (Ap a) p h e y
req_by d first a p h b e facts y k c accepted awaited =
    let x = frame_accepted d first (Ap a) h b e facts accepted in
    let one : x.p ≡ p = same_peer (management_sender d (Ap a) b.header) p x.p x.from c.from in
    let opened : unless_refused Accepted (re_req_further d (Ap a) h p e) ≡ Accepted =
    subst (λ (q : Node). unless_refused Accepted (re_req_further d (Ap a) h q e) ≡ Accepted) one (subst (λ (v : Kind). unless_refused Accepted (management_further d (first + draws h) (Ap a) h x.p b e facts v) ≡ Accepted) k x.opened) in
    let w = req_opened d (Ap a) h p e (opened_names d (Ap a) h p e opened) in
    let same_y : w.y ≡ y = cc (w.by, awaited) in
    let at : re_req_verdict d (Ap a) h p e ≡ Accepted = subst (λ (v : Kind). management_verdict d (first + draws h) (Ap a) h p v b e ≡ Accepted) k c.is in
    let mic_at : re_req_mic d (Ap a) p e (judged p h e) ≡ Accepted = passed_then (is_some (transition p h) || is_some (session_transition p h)) _ at in
    let mic_of : re_req_mic d (Ap a) p e (Some y) ≡ Accepted = subst (λ (o : Option Judged). re_req_mic d (Ap a) p e o ≡ Accepted) awaited mic_at in
    let left_ : y.is_session ≡ false = taken_first y.is_session (through_verified y.by_.key.ptk.kck e.fte (re_req_covered d (Ap a) p e) (taken_in y.is_session) mic_of) in
    let j = judged_at p h e w.f y w.fte awaited left_ in
    let there = elements_there d e w.f c.raw w.rsne w.mde w.fte in
    let input = input_some [] [] (address d p) (address d (Ap a)) 0 request_number e there in
    record {
      role = refl;
      is_attempt = j.0;
      f = w.f;
      fte = w.fte;
      nonces = j.1;
      holder = named_holder (address d (Ap a)) y.by_.key.inputs.r0kh_id e.fte w.f w.fte (subst (λ (v : Judged). names_both (address d (Ap a)) v.by_.key.inputs.r0kh_id e.fte ≡ true) same_y w.ids);
      input = input.0;
      covered = input.1;
      seal = req_seal_is (judged p h e) e.fte (re_req_covered d (Ap a) p e) y w.f input.0 awaited w.fte input.1;
    }

pub req_taken : (d : Domain) (first : ℕ) (n p : Node) (h : List Act) (b : Management) (e : ElementFields) (facts : Facts) (y : Judged) → b.kind ≡ kind.ReReq → Came d first n p h b e Accepted → verdict d first n h (Managed b e) facts ≡ Accepted → judged p h e ≡ Some y → ReqTaken d n p h e y
req_taken d first (Ap a) p h b e facts y k c accepted awaited = req_by d first a p h b e facts y k c accepted awaited
req_taken d first (Sta s) p h b e facts y k c accepted awaited =
    let w : management_verdict d (first + draws h) (Sta s) h p kind.ReReq b e ≡ Accepted = subst (λ (v : Kind). management_verdict d (first + draws h) (Sta s) h p v b e ≡ Accepted) k c.is in absurd (cc w)

pub same_nonces : (f : FteFields) (x : Derivation) → has_nonces f x ≡ true → (f.anonce ≡ x.inputs.anonce) × (f.snonce ≡ x.inputs.snonce)
same_nonces f x is =
    let w = and_parts (bytes_eq f.anonce x.inputs.anonce) (bytes_eq f.snonce x.inputs.snonce) is in
    ((bytes_eq-Decides f.anonce x.inputs.anonce).0 w.0, (bytes_eq-Decides f.snonce x.inputs.snonce).0 w.1)

-- ---- reassociation response

keying_by : (p : Node) (h part : List Act) (x : Derivation) → attempt p h ≡ Some part → (b c : Bool) → is_by_roam part ≡ b → cond b (cond c (derivation p part) None) None ≡ Some x → Moving p h x
keying_by p h part x a false c begun v = absurd (cc v)
keying_by p h part x a true true begun v = record { part = part; awaited = a; moves = begun; last = v }
keying_by p h part x a true false begun v = absurd (cc v)

keying_at : (p : Node) (h : List Act) (x : Derivation) (o : Option (List Act)) → attempt p h ≡ o → re_resp_keying_in p o ≡ Some x → Moving p h x
keying_at p h x None a w = absurd (cc w)
keying_at p h x (Some part) a w = keying_by p h part x a (is_by_roam part) (has_heard p kind.FtResp part) refl w

pub keying_moves : (p : Node) (h : List Act) (x : Derivation) → re_resp_keying p h ≡ Some x → Moving p h x
keying_moves p h x is = keying_at p h x (attempt p h) refl is

-- the IGTK that an FTE carries, as it was unwrapped
pub record IgtkTaken (facts : Facts) (x : Derivation) (f : FteFields) : Type 0 where
  pub w : WrappedIgtkFields
  pub igtk : f.igtk ≡ Some w
  pub plain : List ℕ
  pub unwrapped : facts.unwrapped_igtk ≡ Some plain
  pub wraps : Wraps x.ptk.kek plain w.wrapped

-- of a response that a station accepted: what its MIC covers, and the keys that its FTE carries
pub record ReRespTaken (d : Domain) (n p : Node) (h : List Act) (b : Management) (e : ElementFields) (facts : Facts) (x : Derivation) : Type 0 where
  pub station : is_ap n ≡ false
  pub f : FteFields
  pub fte : e.fte ≡ Some f
  pub input : List ℕ
  pub covered : mic_input (address d n) (address d p) response_number e ≡ Some input
  pub seal : re_resp_seal d n h p b e ≡ Some (fte_seal x.ptk.kck input)
  pub w : WrappedGtkFields
  pub gtk : f.gtk ≡ Some w
  pub plain : List ℕ
  pub unwrapped : facts.unwrapped ≡ Some plain
  pub wraps : Wraps x.ptk.kek plain w.wrapped
  pub igtk : protects d ≡ true → IgtkTaken facts x f

carried_gtk : (o : Option WrappedGtkFields) → is_wrapped_gtk o ≡ true → (g : WrappedGtkFields) × ((o ≡ Some g) × ((length g.wrapped == 24) ≡ true))
carried_gtk None is = absurd (cc is)
carried_gtk (Some g) is = (g, (refl, (and_parts (g.key_length == 16) (length g.wrapped == 24) (and_parts ((g.key_length == 16) && (length g.wrapped == 24)) (not (gtk_id g == 0)) is).0).1))

unwrap_gtk : (o : Option FteFields) (f : FteFields) (g : WrappedGtkFields) → o ≡ Some f → f.gtk ≡ Some g → (length g.wrapped == 24) ≡ true → to_unwrap o ≡ Some g.wrapped
unwrap_gtk o f g is gtk size = rw (is, gtk, size) refl

plain_there : (octets : List ℕ) (u : Option (List ℕ)) (a : Outcome) → IsTaken (unwraps (Some octets) u a) → (plain : List ℕ) × (u ≡ Some plain)
plain_there octets None a s = never reason.Wrap s
plain_there octets (Some plain) a s = (plain, refl)

knows_key : (o : Option Derivation) (t u : Option (List ℕ)) (x : Derivation) (wrapped plain : List ℕ) → o ≡ Some x → t ≡ Some wrapped → u ≡ Some plain → KnowsGtk o t u → KnowsGtk (Some x) (Some wrapped) (Some plain)
knows_key o t u x wrapped plain a b c k =
    subst (λ (z : Option (List ℕ)). KnowsGtk (Some x) (Some wrapped) z) c (subst (λ (y : Option (List ℕ)). KnowsGtk (Some x) y u) b (subst (λ (q : Option Derivation). KnowsGtk q t u) a k))

carried_wrapped : (o : Option WrappedIgtkFields) → is_wrapped_igtk o ≡ true → (g : WrappedIgtkFields) × ((o ≡ Some g) × ((length g.wrapped == 24) ≡ true))
carried_wrapped None is = absurd (cc is)
carried_wrapped (Some g) is = (g, (refl, (and_parts (g.key_length == 16) (length g.wrapped == 24) (and_parts ((g.key_length == 16) && (length g.wrapped == 24)) ((g.id == 4) || (g.id == 5)) is).0).1))

unwrap_igtk : (o : Option FteFields) (f : FteFields) (g : WrappedIgtkFields) → o ≡ Some f → f.igtk ≡ Some g → (length g.wrapped == 24) ≡ true → igtk_to_unwrap true o ≡ Some g.wrapped
unwrap_igtk o f g is igtk size = rw (is, igtk, size) refl

behind_wrap : (o u : Option (List ℕ)) (a : Outcome) → IsTaken (unwraps o u a) → IsTaken a
behind_wrap (Some octets) None a s = never reason.Wrap s
behind_wrap (Some octets) (Some plain) a s = s
behind_wrap None u a s = s

igtk_taken : (d : Domain) (e : ElementFields) (f : FteFields) (facts : Facts) (x : Derivation) (a : Outcome) → e.fte ≡ Some f → has_igtk (protects d) e.fte ≡ true → IsTaken (unwraps (igtk_to_unwrap (protects d) e.fte) facts.unwrapped_igtk a) → KnowsGtk (Some x) (igtk_to_unwrap (protects d) e.fte) facts.unwrapped_igtk
    → protects d ≡ true → IgtkTaken facts x f
igtk_taken d e f facts x a fte carries opened known on =
    let has : is_wrapped_igtk (igtk_in e.fte) ≡ true = subst (λ (b : Bool). has_igtk b e.fte ≡ true) on carries in
    let g = carried_wrapped (igtk_in e.fte) has in
    let igtk : f.igtk ≡ Some g.0 = ap igtk_in (sym fte) ∙ g.1.0 in
    let to : igtk_to_unwrap (protects d) e.fte ≡ Some g.0.wrapped = ap (λ (b : Bool). igtk_to_unwrap b e.fte) on ∙ unwrap_igtk e.fte f g.0 fte igtk g.1.1 in
    let plain = plain_there g.0.wrapped facts.unwrapped_igtk a (subst (λ (o : Option (List ℕ)). IsTaken (unwraps o facts.unwrapped_igtk a)) to opened) in
    let of_key : KnowsGtk (Some x) (Some g.0.wrapped) (Some plain.0) = knows_key (Some x) (igtk_to_unwrap (protects d) e.fte) facts.unwrapped_igtk x g.0.wrapped plain.0 refl to plain.1 known in
    record { w = g.0; igtk = igtk; plain = plain.0; unwrapped = plain.1; wraps = of_key.1 }

resp_seal_is : (o : Option Derivation) (q : Option FteFields) (c : Option (List ℕ)) (x : Derivation) (f : FteFields) (input : List ℕ) → o ≡ Some x → q ≡ Some f → c ≡ Some input → re_resp_sealed o q c ≡ Some (fte_seal x.ptk.kck input)
resp_seal_is o q c x f input a b i = rw (a, b, i) refl

re_resp_by : (d : Domain) (first s : ℕ) (p : Node) (h : List Act) (b : Management) (e : ElementFields) (facts : Facts) (x : Derivation) → b.kind ≡ kind.ReResp → Came d first (Sta s) p h b e Accepted → verdict d first (Sta s) h (Managed b e) facts ≡ Accepted → Knows d first (Sta s) h (Managed b e) facts → re_resp_keying p h ≡ Some x
    → ReRespTaken d (Sta s) p h b e facts x
re_resp_by d first s p h b e facts x k c accepted knows awaited =
    let z = resp_accepted d first (Sta s) h b e facts k accepted in
    let one : z.p ≡ p = same_peer (management_sender d (Sta s) b.header) p z.p z.from c.from in
    let opened : IsTaken (re_resp_further d (Sta s) h p b e facts.unwrapped facts.unwrapped_igtk) = subst (λ (q : Node). IsTaken (re_resp_further d (Sta s) h q b e facts.unwrapped facts.unwrapped_igtk)) one z.opened in
    let w = resp_opened_by d (Sta s) h p b e facts.unwrapped facts.unwrapped_igtk opened in
    let there = elements_there d e w.f c.raw w.rsne w.mde w.fte in
    let input = input_some [] [] (address d (Sta s)) (address d p) 0 response_number e there in
    let g = carried_gtk (gtk_in e.fte) w.carries in
    let gtk : w.f.gtk ≡ Some g.0 = ap gtk_in (sym w.fte) ∙ g.1.0 in
    let to : to_unwrap e.fte ≡ Some g.0.wrapped = unwrap_gtk e.fte w.f g.0 w.fte gtk g.1.1 in
    let rest : Outcome = if b.status == 0 then re_resp_names d (Sta s) p e (re_resp_keying p h) else Refused (reason.Status b.status) in
    let then_ : Outcome = unwraps (igtk_to_unwrap (protects d) e.fte) facts.unwrapped_igtk rest in
    let plain = plain_there g.0.wrapped facts.unwrapped then_ (subst (λ (o : Option (List ℕ)). IsTaken (unwraps o facts.unwrapped then_)) to opened) in
    let known : KnowsManaged d (Sta s) h p e facts b.kind = subst (λ (q : Node). KnowsManaged d (Sta s) h q e facts b.kind) one (knows z.far z.p z.from) in
    let of_kind : KnowsManaged d (Sta s) h p e facts kind.ReResp = subst (λ (v : Kind). KnowsManaged d (Sta s) h p e facts v) k known in
    let of_key : KnowsGtk (Some x) (Some g.0.wrapped) (Some plain.0) = knows_key (re_resp_keying p h) (to_unwrap e.fte) facts.unwrapped x g.0.wrapped plain.0 awaited to plain.1 of_kind.0 in
    let of_igtk : KnowsGtk (Some x) (igtk_to_unwrap (protects d) e.fte) facts.unwrapped_igtk = subst (λ (o : Option Derivation). KnowsGtk o (igtk_to_unwrap (protects d) e.fte) facts.unwrapped_igtk) awaited of_kind.1 in
    record {
      station = refl;
      f = w.f;
      fte = w.fte;
      input = input.0;
      covered = input.1;
      seal = ap (λ (v : Bool). cond v (re_resp_sealed (re_resp_keying p h) e.fte (re_resp_covered d (Sta s) p e)) None) w.zero_
          ∙ resp_seal_is (re_resp_keying p h) e.fte (re_resp_covered d (Sta s) p e) x w.f input.0 awaited w.fte input.1;
      w = g.0;
      gtk = gtk;
      plain = plain.0;
      unwrapped = plain.1;
      wraps = of_key.1;
      igtk = λ on. igtk_taken d e w.f facts x rest w.fte w.carries_igtk (behind_wrap (to_unwrap e.fte) facts.unwrapped then_ opened) of_igtk on;
    }

pub re_resp_taken : (d : Domain) (first : ℕ) (n p : Node) (h : List Act) (b : Management) (e : ElementFields) (facts : Facts) (x : Derivation) → b.kind ≡ kind.ReResp → Came d first n p h b e Accepted → verdict d first n h (Managed b e) facts ≡ Accepted → Knows d first n h (Managed b e) facts → re_resp_keying p h ≡ Some x
    → ReRespTaken d n p h b e facts x
re_resp_taken d first (Sta s) p h b e facts x k c accepted knows awaited = re_resp_by d first s p h b e facts x k c accepted knows awaited
re_resp_taken d first (Ap a) p h b e facts x k c accepted knows awaited =
    let w : management_verdict d (first + draws h) (Ap a) h p kind.ReResp b e ≡ Accepted = subst (λ (v : Kind). management_verdict d (first + draws h) (Ap a) h p v b e ≡ Accepted) k c.is in absurd (cc w)

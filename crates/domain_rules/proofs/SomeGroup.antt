-- Whatever octets read as, an event adds a group of acts.
use Rattle.std.proofs.Common.{◌≡◌, ◌⊎◌, ℕ, ◌+◌, Bool, true, false, List, [], Option, Some, None, refl, sym, ap, subst, ◌∙◌, inl, inr}
use Rattle.std.specs.Prelude.{not, ◌||◌}
use Rattle.std.proofs.lemmas.Bool.{cases_lt}
use Rattle.domain_base.specs.declared.names.Akm.TheVariants.{FtPsk}
use Rattle.domain_base.specs.declared.names.Node.{Node}
use Rattle.domain_base.specs.declared.names.Node.TheVariants.{Ap}
use Rattle.run_journal.specs.declared.acts.GroupKind.TheVariants as groups
use Rattle.domain_rules.specs.GroupKeys.{is_current}
use Rattle.domain_rules.specs.AccessPointRows.{last_draw, RekeyRow, Pending, Renews}
use Rattle.domain_rules.specs.AccessPointRows as rekey
use Rattle.domain_rules.specs.PairwiseRenewal.{RenewRow}
use Rattle.domain_rules.specs.PairwiseRenewal as renew
use Rattle.rsn_elements.specs.Elements.{ElementFields}
use Rattle.eapol_key.specs.declared.messages.Message.TheVariants.{M3}
use Rattle.run_journal.specs.declared.domain.Domain.{Domain}
use Rattle.run_journal.specs.declared.acts.Kind.TheVariants as kind
use Rattle.run_journal.specs.declared.acts.Reason.TheVariants as reason
use Rattle.run_journal.specs.declared.acts.Outcome.TheVariants.{Accepted, Answered}
use Rattle.run_journal.specs.declared.acts.Act.{Act}
use Rattle.run_journal.specs.Questions.{attempt, session, draws}
use Rattle.domain_rules.specs.Network.{is_ap, renews, direction, goes_like, peer_of, r0kh_id, draw_end, inputs_at}
use Rattle.domain_rules.specs.Reading.{Management, KeyMessage, Reading, Managed, Keyed, Sealed, Acting}
use Rattle.domain_rules.specs.Facts.{Facts}
use Rattle.key_hierarchy.specs.declared.fast_transition.PmkR1.{PmkR1}
use Rattle.run_journal.specs.declared.acts.Kind.{Kind}
use Rattle.run_journal.specs.declared.acts.Outcome.{Outcome}
use Rattle.run_journal.specs.Questions.{associated}
use Rattle.run_journal.specs.Acts.{same, Derivation}
use Rattle.run_journal.specs.Holders.{last_r0kh_id}
use Rattle.domain_rules.specs.TransitionKeyData.{responded_r0kh_id}
use Rattle.domain_rules.specs.TransitionKeys.{transition, asked, repeats, pulled_verdict, ft_req_verdict, ft_req_further, re_req_further}
use Rattle.domain_rules.specs.Closing.{next_nonce}
use Rattle.domain_rules.specs.TransitionRows.{RoamRow, NoSession, SamePeer}
use Rattle.domain_rules.specs.TransitionRows as roam
use Rattle.domain_rules.proofs.TransitionOutcome.{FtReqTaken, asked_accepted, asked_answered, repeated_part, re_req_judged, re_req_never, decided_re_req_further}
use Rattle.domain_rules.proofs.Pulled.{not_repeated}
use Rattle.domain_rules.specs.Verdict.{unless_refused, and_then, management_further, first_verdict, further, verdict, is_mine, management_sender, key_verdict}
use Rattle.domain_rules.specs.Asking.{own}
use Rattle.domain_rules.specs.Associating.{management_verdict}
use Rattle.domain_rules.specs.StationRows.{connect_acts, ConnectRow, Spent, Asks}
use Rattle.domain_rules.specs.Rows.{TakeRows, By_assoc_req, By_assoc_resp, By_m1, By_opening_m1, By_m2, By_m3, By_repeated_m3, By_m4, By_g1, By_g2, By_data, By_action, By_ft_req, By_repeated_ft_req, By_ft_resp, By_re_req, By_repeated_re_req, By_re_resp, By_ignored, By_refusal}
use Rattle.domain_rules.specs.Here.{here}
use Rattle.domain_rules.proofs.Outcomes.{decided}
use Rattle.domain_rules.proofs.OneOutcome.{Decided, Took_in, Repeated, Passed, Thrown, Awaited, Is_m1, Is_opening_m1, Is_m2, Is_m3, Is_m4, Is_g1, Is_g2, HasKeying, taken_behind, taken_from, not_thrown, from_some, sender-some, FrameAwaited, Is_assoc_req, Is_assoc_resp, Is_ft_req, Is_ft_resp, Is_re_req, Is_re_resp, frame_kind, frame_accepted, answered_frame, unless_passed, from_named, key_kind, and_accepted, and_answered, answered_behind, answered_from, answered_kind, sealed_unanswered, payload_in, action_from, action_unanswered}

-- ---- a row for each

abbrev pub HasRow : Domain → ℕ → Node → List Act → List ℕ → Reading → Facts → Type 0
HasRow d first n h octets r facts = (g : List Act) × TakeRows (here d first n) h octets r facts g

pub opened_names : (d : Domain) (n : Node) (h : List Act) (p : Node) (e : ElementFields) → unless_refused Accepted (re_req_further d n h p e) ≡ Accepted → re_req_further d n h p e ≡ Accepted
opened_names d n h p e s = by (decided_re_req_further d n h p e) s
  where
    by : Decided (re_req_further d n h p e) → unless_refused Accepted (re_req_further d n h p e) ≡ Accepted → re_req_further d n h p e ≡ Accepted
    by (Took_in is) t = is
    by (Repeated is) t = absurd (re_req_never d n h p e (inl is))
    by (Passed is) t = absurd (re_req_never d n h p e (inr is))
    by (Thrown why is) t = absurd (unless_passed why _ t is)

-- a request for authentication that was accepted: what was asked, and given
request_row : (d : Domain) (first a : ℕ) (h : List Act) (octets : List ℕ) (b : Management) (e : ElementFields) (facts : Facts) (p : Node) → peer_of d (Ap a) b.header.a2 ≡ Some p → b.kind ≡ kind.FtReq → (t : FtReqTaken d h p e)
    → ft_req_verdict d h p e ≡ Accepted → unless_refused Accepted (ft_req_further (first + draws h) h p e facts.pulled) ≡ Accepted → verdict d first (Ap a) h (Managed b e) facts ≡ Accepted → HasRow d first (Ap a) h octets (Managed b e) facts
request_row d first a h octets b e facts p from k t accepted opened s =
    let w = asked_accepted d t.a (repeats t.a (transition p h)) (sym t.verdict_is ∙ accepted) in
    let given_ = pulled_some (first + draws h) facts.pulled (subst (λ (o : Outcome). unless_refused Accepted o ≡ Accepted) (not_repeated (first + draws h) (asked e) t.a (transition p h) facts.pulled t.asks w.0) opened) in
    (_, By_ft_req (record { b = b; e = e; is = refl; kind_is = k; p = p; from = from; accepted = s; a = t.a; asks = t.asks; name = w.1.1.0; named = w.1.1.1; k = given_.0; pulled = given_.1; i = inputs_at d (Ap a) p t.a.r0kh_id (next_nonce d first (Ap a) h) t.a.snonce; inputs_are = refl; says = refl }))
  where
    pulled_some : (drawn : ℕ) (o : Option PmkR1) → unless_refused Accepted (pulled_verdict drawn o) ≡ Accepted → (x : PmkR1) × (o ≡ Some x)
    pulled_some drawn None v = cc
    pulled_some drawn (Some x) v = (x, refl)

managed_row : (d : Domain) (first : ℕ) (n : Node) (h : List Act) (octets : List ℕ) (b : Management) (e : ElementFields) (facts : Facts) (p : Node) → peer_of d n b.header.a2 ≡ Some p → FrameAwaited d n h p e b.kind
    → management_verdict d (first + draws h) n h p b.kind b e ≡ Accepted → unless_refused Accepted (management_further d (first + draws h) n h p b e facts b.kind) ≡ Accepted
    → verdict d first n h (Managed b e) facts ≡ Accepted → HasRow d first n h octets (Managed b e) facts
managed_row d first n h octets b e facts p from (Is_assoc_req k) v o s = (_, By_assoc_req (record { b = b; e = e; is = refl; kind_is = k; p = p; from = from; accepted = s; says = refl }))
managed_row d first n h octets b e facts p from (Is_assoc_resp k) v o s = (_, By_assoc_resp (record { b = b; e = e; is = refl; kind_is = k; p = p; from = from; accepted = s; says = refl }))
managed_row d first n h octets b e facts p from (Is_ft_req a at k t) v o s =
    subst (λ (m : Node). HasRow d first m h octets (Managed b e) facts) (sym at)
    (request_row d first a h octets b e facts p (subst (λ (m : Node). peer_of d m b.header.a2 ≡ Some p) at from) k t
    (subst (λ (m : Node). management_verdict d (first + draws h) m h p kind.FtReq b e ≡ Accepted) at (subst (λ (x : Kind). management_verdict d (first + draws h) n h p x b e ≡ Accepted) k v))
    (subst (λ (m : Node). unless_refused Accepted (management_further d (first + draws h) m h p b e facts kind.FtReq) ≡ Accepted) at (subst (λ (x : Kind). unless_refused Accepted (management_further d (first + draws h) n h p b e facts x) ≡ Accepted) k o))
    (subst (λ (m : Node). verdict d first m h (Managed b e) facts ≡ Accepted) at s))
managed_row d first n h octets b e facts p from (Is_ft_resp k t) v o s =
    (_, By_ft_resp (record { b = b; e = e; is = refl; kind_is = k; p = p; from = from; accepted = s; part = t.part; awaited = t.awaited; f = t.f; fte = t.fte; i = inputs_at d n p (last_r0kh_id h) (own t.part) t.f.anonce; inputs_are = refl; says = refl }))
managed_row d first n h octets b e facts p from (Is_re_req a at k) v o s =
    let opened : unless_refused Accepted (re_req_further d (Ap a) h p e) ≡ Accepted =
    subst (λ (m : Node). unless_refused Accepted (management_further d (first + draws h) m h p b e facts kind.ReReq) ≡ Accepted) at (subst (λ (x : Kind). unless_refused Accepted (management_further d (first + draws h) n h p b e facts x) ≡ Accepted) k o) in
    let y = re_req_judged d (Ap a) h p e (opened_names d (Ap a) h p e opened) in
    (_, By_re_req (record { b = b; e = e; is = refl; kind_is = k; p = p; from = from; accepted = s; y = y.0; awaited = y.1; x = y.0.by_.key; keyed = refl; says = refl }))
managed_row d first n h octets b e facts p from (Is_re_resp sta at k x) v o s =
    (_, By_re_resp (record { b = b; e = e; is = refl; kind_is = k; p = p; from = from; accepted = s; x = x.0; awaited = x.1; says = refl }))

keyed_row : (d : Domain) (first : ℕ) (n : Node) (h : List Act) (octets : List ℕ) (k : KeyMessage) (facts : Facts) (p : Node) → peer_of d n k.header.a2 ≡ Some p → Awaited p h k k.message
    → verdict d first n h (Keyed k) facts ≡ Accepted → HasRow d first n h octets (Keyed k) facts
keyed_row d first n h octets k facts p from (Is_m1 m a) s =
    (_, By_m1 (record { k = k; is = refl; message_is = m; p = p; from = from; accepted = s; part = a.0; awaited = a.1; i = inputs_at d n p (responded_r0kh_id facts.responded) (own a.0) k.fields.nonce; inputs_are = refl; says = refl }))
keyed_row d first n h octets k facts p from (Is_opening_m1 m none) s =
    (_, By_opening_m1 (record { k = k; is = refl; message_is = m; p = p; from = from; accepted = s; none = none; i = inputs_at d n p [] (next_nonce d first n h) k.fields.nonce; inputs_are = refl; says = refl }))
keyed_row d first n h octets k facts p from (Is_m2 m a) s =
    (_, By_m2 (record { k = k; is = refl; message_is = m; p = p; from = from; accepted = s; part = a.0; awaited = a.1; i = inputs_at d n p (r0kh_id d n) (own a.0) k.fields.nonce; inputs_are = refl; says = refl }))
keyed_row d first n h octets k facts p from (Is_m3 m a) s = (_, By_m3 (record { k = k; is = refl; message_is = m; p = p; from = from; accepted = s; y = a.0; awaited = a.1; says = refl }))
keyed_row d first n h octets k facts p from (Is_m4 m a) s =
    (_, By_m4 (record { k = k; is = refl; message_is = m; p = p; from = from; accepted = s; part = a.part; awaited = a.awaited; x = a.x; keyed = a.keyed; says = refl }))
keyed_row d first n h octets k facts p from (Is_g1 m a) s =
    (_, By_g1 (record { k = k; is = refl; message_is = m; p = p; from = from; accepted = s; x = a.0; awaited = a.1; says = refl }))
keyed_row d first n h octets k facts p from (Is_g2 m a) s =
    (_, By_g2 (record { k = k; is = refl; message_is = m; p = p; from = from; accepted = s; x = a.0; awaited = a.1; says = refl }))

-- an M3 that is answered was awaited in a session
answered_row : (d : Domain) (first : ℕ) (n : Node) (h : List Act) (octets : List ℕ) (k : KeyMessage) (facts : Facts) (p : Node) → peer_of d n k.header.a2 ≡ Some p → (k.message ≡ M3) × HasKeying p h k
    → verdict d first n h (Keyed k) facts ≡ Answered → HasRow d first n h octets (Keyed k) facts
answered_row d first n h octets k facts p from m s =
    (_, By_repeated_m3 (record { k = k; is = refl; message_is = m.0; p = p; from = from; answered = s; y = m.1.0; awaited = m.1.1; says = refl }))

first_row : (d : Domain) (first : ℕ) (n : Node) (h : List Act) (octets : List ℕ) (r : Reading) (facts : Facts) → first_verdict d first n h r ≡ Accepted → verdict d first n h r facts ≡ Accepted → HasRow d first n h octets r facts
first_row d first n h octets (Managed b e) facts a s =
    let x = frame_accepted d first n h b e facts s in
    managed_row d first n h octets b e facts x.p (sender-some d n x.p b.header (peer_of d n b.header.a2) x.from) (frame_kind d (first + draws h) n h x.p b.kind b e (inl x.verdict_is)) x.verdict_is x.opened s
first_row d first n h octets (Keyed k) facts a s =
    let behind = from_some (peer_of d n k.header.a2) (λ p. key_verdict d (first + draws h) n h p k k.message) (not_thrown (not (is_mine d n k.header) || goes_like k.direction (direction n)) reason.NotForMe _ a) in
    keyed_row d first n h octets k facts behind.0 behind.1.0 (key_kind d (first + draws h) n h behind.0 k k.message (inl behind.1.1)) s
first_row d first n h octets (Sealed header way tid body) facts a s =
    let o = payload_in d first n h header way tid body facts s in
    (_, By_data (record { header = header; way = way; tid = tid; body = body; is = refl; p = o.p; from = o.from; accepted = s; k = o.k; under = o.under; plain = o.plain; opened = o.opened; says = refl }))
first_row d first n h octets (Acting header body) facts a s =
    let o = action_from d first n h header body (inl a) in
    (_, By_action (record { header = header; body = body; is = refl; p = o.p; from = sender-some d n o.p header (peer_of d n header.a2) o.from; accepted = s; k = o.g; under = o.under; says = refl }))
first_row d first n h octets _ facts a s = cc

-- a request that is answered repeats that of the attempt, or came to the session
repeated_ft_req_row : (d : Domain) (first a : ℕ) (h : List Act) (octets : List ℕ) (b : Management) (e : ElementFields) (facts : Facts) (p : Node) → peer_of d (Ap a) b.header.a2 ≡ Some p → b.kind ≡ kind.FtReq → (t : FtReqTaken d h p e)
    → ft_req_verdict d h p e ≡ Answered → verdict d first (Ap a) h (Managed b e) facts ≡ Answered → HasRow d first (Ap a) h octets (Managed b e) facts
repeated_ft_req_row d first a h octets b e facts p from k t answered_ s =
    let part = repeated_part p h t.a (asked_answered d t.a (repeats t.a (transition p h)) (sym t.verdict_is ∙ answered_)) in
    (_, By_repeated_ft_req (record { b = b; e = e; is = refl; kind_is = k; p = p; from = from; answered = s; part = part.0; awaited = part.1; says = refl }))

answered_names : (d : Domain) (n : Node) (h : List Act) (p : Node) (e : ElementFields) → unless_refused Answered (re_req_further d n h p e) ≡ Answered → re_req_further d n h p e ≡ Accepted
answered_names d n h p e s = by (decided_re_req_further d n h p e) s
  where
    by : Decided (re_req_further d n h p e) → unless_refused Answered (re_req_further d n h p e) ≡ Answered → re_req_further d n h p e ≡ Accepted
    by (Took_in is) t = is
    by (Repeated is) t = absurd (re_req_never d n h p e (inl is))
    by (Passed is) t = absurd (re_req_never d n h p e (inr is))
    by (Thrown why is) t = absurd (cc (sym (ap (unless_refused Answered) is) ∙ t))

repeated_frame : (d : Domain) (first : ℕ) (n : Node) (h : List Act) (octets : List ℕ) (b : Management) (e : ElementFields) (facts : Facts) (p : Node) → peer_of d n b.header.a2 ≡ Some p → (b.kind ≡ kind.FtReq) ⊎ (b.kind ≡ kind.ReReq)
    → FrameAwaited d n h p e b.kind → management_verdict d (first + draws h) n h p b.kind b e ≡ Answered → unless_refused Answered (management_further d (first + draws h) n h p b e facts b.kind) ≡ Answered
    → verdict d first n h (Managed b e) facts ≡ Answered → HasRow d first n h octets (Managed b e) facts
repeated_frame d first n h octets b e facts p from which (Is_ft_req a at k t) v o s =
    subst (λ (m : Node). HasRow d first m h octets (Managed b e) facts) (sym at)
    (repeated_ft_req_row d first a h octets b e facts p (subst (λ (m : Node). peer_of d m b.header.a2 ≡ Some p) at from) k t
    (subst (λ (m : Node). management_verdict d (first + draws h) m h p kind.FtReq b e ≡ Answered) at (subst (λ (x : Kind). management_verdict d (first + draws h) n h p x b e ≡ Answered) k v))
    (subst (λ (m : Node). verdict d first m h (Managed b e) facts ≡ Answered) at s))
repeated_frame d first n h octets b e facts p from which (Is_re_req a at k) v o s =
    let opened : unless_refused Answered (re_req_further d (Ap a) h p e) ≡ Answered =
    subst (λ (m : Node). unless_refused Answered (management_further d (first + draws h) m h p b e facts kind.ReReq) ≡ Answered) at (subst (λ (x : Kind). unless_refused Answered (management_further d (first + draws h) n h p b e facts x) ≡ Answered) k o) in
    let y = re_req_judged d (Ap a) h p e (answered_names d (Ap a) h p e opened) in
    (_, By_repeated_re_req (record { b = b; e = e; is = refl; kind_is = k; p = p; from = from; answered = s; y = y.0; awaited = y.1; says = refl }))
repeated_frame d first n h octets b e facts p from (inl w) (Is_assoc_req k) v o s = cc
repeated_frame d first n h octets b e facts p from (inr w) (Is_assoc_req k) v o s = cc
repeated_frame d first n h octets b e facts p from (inl w) (Is_assoc_resp k) v o s = cc
repeated_frame d first n h octets b e facts p from (inr w) (Is_assoc_resp k) v o s = cc
repeated_frame d first n h octets b e facts p from (inl w) (Is_ft_resp k t) v o s = cc
repeated_frame d first n h octets b e facts p from (inr w) (Is_ft_resp k t) v o s = cc
repeated_frame d first n h octets b e facts p from (inl w) (Is_re_resp sta at k x) v o s = cc
repeated_frame d first n h octets b e facts p from (inr w) (Is_re_resp sta at k x) v o s = cc

repeated_row : (d : Domain) (first : ℕ) (n : Node) (h : List Act) (octets : List ℕ) (r : Reading) (facts : Facts) → first_verdict d first n h r ≡ Answered → verdict d first n h r facts ≡ Answered → HasRow d first n h octets r facts
repeated_row d first n h octets (Managed b e) facts a s =
    let behind = taken_from (management_sender d n b.header) (λ p. management_verdict d (first + draws h) n h p b.kind b e) (taken_behind (not (is_mine d n b.header)) reason.NotForMe _ (inr a)) in
    let answered_ = answered_from (management_sender d n b.header) behind.0 (λ p. management_verdict d (first + draws h) n h p b.kind b e) behind.1.0 (answered_behind (not (is_mine d n b.header)) reason.NotForMe _ a) in
    let opened : unless_refused Answered (further d first n h (Managed b e) facts) ≡ Answered = subst (λ (x : Outcome). and_then x (further d first n h (Managed b e) facts) ≡ Answered) a s in
    repeated_frame d first n h octets b e facts behind.0 (sender-some d n behind.0 b.header (peer_of d n b.header.a2) behind.1.0) (answered_frame d (first + draws h) n h behind.0 b.kind b e answered_)
    (frame_kind d (first + draws h) n h behind.0 b.kind b e behind.1.1) answered_
    (subst (λ (o : Outcome). unless_refused Answered o ≡ Answered) (from_named (management_sender d n b.header) behind.0 (λ p. management_further d (first + draws h) n h p b e facts b.kind) behind.1.0) opened) s
repeated_row d first n h octets (Keyed k) facts a s =
    let behind = taken_from (peer_of d n k.header.a2) (λ p. key_verdict d (first + draws h) n h p k k.message) (taken_behind (not (is_mine d n k.header) || goes_like k.direction (direction n)) reason.NotForMe _ (inr a)) in
    answered_row d first n h octets k facts behind.0 behind.1.0 (answered_kind d (first + draws h) n h behind.0 k k.message (answered_from (peer_of d n k.header.a2) behind.0 (λ p. key_verdict d (first + draws h) n h p k k.message) behind.1.0 (answered_behind (not (is_mine d n k.header) || goes_like k.direction (direction n)) reason.NotForMe _ a))) s
repeated_row d first n h octets (Sealed header way tid body) facts a s = absurd (sealed_unanswered d first n h header way tid body a)
repeated_row d first n h octets (Acting header body) facts a s = absurd (action_unanswered d first n h header body a)
repeated_row d first n h octets _ facts a s = cc

by_outcome : (d : Domain) (first : ℕ) (n : Node) (h : List Act) (octets : List ℕ) (r : Reading) (facts : Facts) → Decided (verdict d first n h r facts) → HasRow d first n h octets r facts
by_outcome d first n h octets r facts (Took_in s) = first_row d first n h octets r facts (and_accepted (first_verdict d first n h r) (further d first n h r facts) s) s
by_outcome d first n h octets r facts (Repeated s) = repeated_row d first n h octets r facts (and_answered (first_verdict d first n h r) (further d first n h r facts) s) s
by_outcome d first n h octets r facts (Passed s) = (_, By_ignored (record { ignored = s; says = refl }))
by_outcome d first n h octets r facts (Thrown why s) = (_, By_refusal (record { why = why; refused = s; says = refl }))

pub some_rows : (d : Domain) (first : ℕ) (n : Node) (h : List Act) (octets : List ℕ) (r : Reading) (facts : Facts) → HasRow d first n h octets r facts
some_rows d first n h octets r facts = by_outcome d first n h octets r facts (decided d first n h r facts)

pub some_connect : (d : Domain) (first : ℕ) (n : Node) (h : List Act) (p : Node) → (g : List Act) × ConnectRow (here d first n) h p g
some_connect d first n h p = elim (cases_lt (first + draws h) draw_end) [ inl few ↦ (connect_acts d first n h p, Asks few refl) | inr many ↦ (_, Spent many refl) ]

some_roam_by : (d : Domain) (first : ℕ) (n : Node) (h : List Act) (p q : Node) (b : Bool) → d.akm ≡ FtPsk → associated h ≡ Some q → same p q ≡ b → (g : List Act) × RoamRow (here d first n) h p g
some_roam_by d first n h p q true suite is alike = (_, SamePeer q is alike refl)
some_roam_by d first n h p q false suite is other = elim (cases_lt (first + draws h) draw_end) [ inl few ↦ (_, roam.Asks suite q is other few refl) | inr many ↦ (_, roam.Spent q is other many refl) ]

pub some_roam : (d : Domain) (first : ℕ) (n : Node) (h : List Act) (p : Node) → d.akm ≡ FtPsk → (g : List Act) × RoamRow (here d first n) h p g
some_roam d first n h p suite = by (associated h) refl
  where
    by : (o : Option Node) → associated h ≡ o → (g : List Act) × RoamRow (here d first n) h p g
    by None is = (_, NoSession is refl)
    by (Some q) is = some_roam_by d first n h p q (same p q) suite is refl

pub some_rekey : (d : Domain) (first a : ℕ) (h : List Act) → (g : List Act) × RekeyRow (here d first (Ap a)) h g
some_rekey d first a h = go (is_current groups.Gtk h) refl
  where
    go : (b : Bool) → is_current groups.Gtk h ≡ b → (g : List Act) × RekeyRow (here d first (Ap a)) h g
    go false is = (_, Pending is refl)
    go true is = elim (cases_lt (last_draw d (first + draws h)) draw_end) [ inl few ↦ (_, Renews refl is few refl) | inr many ↦ (_, rekey.Spent is many refl) ]

some_renew_in : (d : Domain) (first : ℕ) (n : Node) (h : List Act) (p : Node) (x : Derivation) (o : Option (List Act)) → is_ap n ≡ true → renews d ≡ true → session p h ≡ Some x → attempt p h ≡ o → (g : List Act) × RenewRow (here d first n) h p g
some_renew_in d first n h p x (Some part) role on some is = (_, renew.Nothing x some part is refl)
some_renew_in d first n h p x None role on some is = elim (cases_lt (first + draws h) draw_end) [ inl few ↦ (_, renew.Begins role on x some is few refl) | inr many ↦ (_, renew.Spent x some is many refl) ]

pub some_renew : (d : Domain) (first : ℕ) (n : Node) (h : List Act) (p : Node) → is_ap n ≡ true → renews d ≡ true → (g : List Act) × RenewRow (here d first n) h p g
some_renew d first n h p role on = by (session p h) refl
  where
    by : (o : Option Derivation) → session p h ≡ o → (g : List Act) × RenewRow (here d first n) h p g
    by None is = (_, renew.NoSession is refl)
    by (Some x) is = some_renew_in d first n h p x (attempt p h) role on is refl

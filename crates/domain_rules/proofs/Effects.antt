-- What the acts of each event do to what is asked of the history of the node.
use Rattle.std.proofs.Common.{◌≡◌, ℕ, suc, true, false, List, [], ◌∷◌, ◌++◌, length, Option, Some, None, refl, sym, ap, subst, ◌∙◌, arith}
use Rattle.std.specs.List.{AllByRecursion}
use Rattle.domain_base.specs.declared.names.Node.{Node}
use Rattle.domain_base.specs.declared.names.Node.TheVariants.{Ap, Sta}
use Rattle.domain_base.specs.declared.names.Peer.TheVariants.{One}
use Rattle.air_frame.specs.Sent.{IsAddress}
use Rattle.eapol_key.specs.declared.messages.Message.{Message}
use Rattle.eapol_key.specs.declared.messages.Message.TheVariants.{M1, M2, M3, M4, G1, G2}
use Rattle.eapol_key.specs.Octets.{frame_octets}
use Rattle.eapol_key.specs.Sent.{sent_fields}
use Rattle.key_hierarchy.specs.declared.inputs.Inputs.{Inputs}
use Rattle.key_hierarchy.specs.declared.inputs.Ptk.{Ptk}
use Rattle.run_journal.specs.declared.domain.Domain.{Domain}
use Rattle.run_journal.specs.declared.acts.Start.TheVariants.{Connect}
use Rattle.run_journal.specs.declared.acts.Part.TheVariants.{Session}
use Rattle.run_journal.specs.declared.acts.Drawn.TheVariants.{Nonce}
use Rattle.run_journal.specs.declared.acts.Kind.{Kind}
use Rattle.run_journal.specs.declared.acts.Kind.TheVariants as kind
use Rattle.run_journal.specs.declared.acts.Reason.{Reason}
use Rattle.run_journal.specs.declared.acts.Why.{Why}
use Rattle.run_journal.specs.declared.acts.Outcome.TheVariants.{Accepted, Ignored, Refused}
use Rattle.run_journal.specs.declared.acts.Seal.{Seal}
use Rattle.run_journal.specs.declared.acts.Act.{Act}
use Rattle.run_journal.specs.declared.acts.Act.TheVariants.{Opened, Closed, Drew, Derived, Took, Idle}
use Rattle.run_journal.specs.Acts.{same, same_kind, Derivation}
use Rattle.run_journal.specs.Questions.{attempt, own_nonce, derivation, pending, associated, heard, all_replied, draws, add}
use Rattle.domain_rules.specs.Network.{address}
use Rattle.domain_rules.specs.Frames.{in_data, sent_assoc_req, sent_assoc_resp, sent_m1, sent_m2}
use Rattle.domain_rules.specs.Asking.{start_of, kept_counter, offered, has_heard}
use Rattle.domain_rules.specs.AccessPointKeys.{request}
use Rattle.domain_rules.specs.Closing.{close_attempt, close_pending, close_associated}
use Rattle.domain_rules.specs.Rows.{refused_status, response_by, response}
use Rattle.domain_rules.proofs.Parts.{same-refl, attempt_none, attempt_more, start_more, request_more, request_opened, attempt_some, own_nonce_more, IsApart, apart-opened, apart-closed, apart-drew, apart-derived, apart-sent, apart-sent_kind, apart-took, apart-refused, apart-ignored, apart-idle, GoesOn, goes_on, draws_add, pending_add, associated_add, leaves_pending, leaves_associated}
use Rattle.domain_rules.proofs.SentReads.{m1_message, reads-m1, reads-counter}

-- ---- a frame that was refused, with the response that goes out, or ignored, changes nothing

no_response : (m : Message) → same_kind (kind.Key m) kind.AssocResp ≡ false
no_response M1 = refl
no_response M2 = refl
no_response M3 = refl
no_response M4 = refl
no_response G1 = refl
no_response G2 = refl

no_ft_response : (m : Message) → same_kind (kind.Key m) kind.FtResp ≡ false
no_ft_response M1 = refl
no_ft_response M2 = refl
no_ft_response M3 = refl
no_ft_response M4 = refl
no_ft_response G1 = refl
no_ft_response G2 = refl

no_re_response : (m : Message) → same_kind (kind.Key m) kind.ReResp ≡ false
no_re_response M1 = refl
no_re_response M2 = refl
no_re_response M3 = refl
no_re_response M4 = refl
no_re_response G1 = refl
no_re_response G2 = refl

apart_by : (d : Domain) (n q : Node) (k : Kind) (o : Option ℕ) (p : Node) → AllByRecursion (IsApart p) (response_by d n q k o)
apart_by d n q kind.AssocReq (Some code) p = (apart-sent_kind p (One q) kind.AssocResp _ None no_response, tt)
apart_by d n q kind.FtReq (Some code) p = (apart-sent_kind p (One q) kind.FtResp _ None no_ft_response, tt)
apart_by d n q kind.ReReq (Some code) p = (apart-sent_kind p (One q) kind.ReResp _ None no_re_response, tt)
apart_by d n q k _ p = tt

pub response-apart : (d : Domain) (n : Node) (from : Option Node) (k : Kind) (why : Reason) (p : Node) → AllByRecursion (IsApart p) (response d n from k why)
response-apart d (Ap a) (Some q) k why p = apart_by d (Ap a) q k (refused_status why) p
response-apart d (Ap a) None k why p = tt
response-apart d (Sta s) from k why p = tt

draws_by : (d : Domain) (n q : Node) (k : Kind) (o : Option ℕ) → draws (response_by d n q k o) ≡ 0
draws_by d n q kind.AssocReq (Some code) = refl
draws_by d n q kind.FtReq (Some code) = refl
draws_by d n q kind.ReReq (Some code) = refl
draws_by d n q k _ = refl

response-draws : (d : Domain) (n : Node) (from : Option Node) (k : Kind) (why : Reason) → draws (response d n from k why) ≡ 0
response-draws d (Ap a) (Some q) k why = draws_by d (Ap a) q k (refused_status why)
response-draws d (Ap a) None k why = refl
response-draws d (Sta s) from k why = refl

leaves_by : (d : Domain) (n q : Node) (k : Kind) (o : Option ℕ) → AllByRecursion (λ e. leaves_pending e ≡ true) (response_by d n q k o) × AllByRecursion (λ e. leaves_associated e ≡ true) (response_by d n q k o)
leaves_by d n q kind.AssocReq (Some code) = ((refl, tt), (refl, tt))
leaves_by d n q kind.FtReq (Some code) = ((refl, tt), (refl, tt))
leaves_by d n q kind.ReReq (Some code) = ((refl, tt), (refl, tt))
leaves_by d n q k _ = (tt, tt)

response-leaves : (d : Domain) (n : Node) (from : Option Node) (k : Kind) (why : Reason)
    → AllByRecursion (λ e. leaves_pending e ≡ true) (response d n from k why) × AllByRecursion (λ e. leaves_associated e ≡ true) (response d n from k why)
response-leaves d (Ap a) (Some q) k why = leaves_by d (Ap a) q k (refused_status why)
response-leaves d (Ap a) None k why = (tt, tt)
response-leaves d (Sta s) from k why = (tt, tt)

-- nothing that is asked is answered otherwise
pub record IsAsBefore (old new : List Act) : Type 0 where
  pub goes_on : (p : Node) → GoesOn p old new
  pub draws_are : draws new ≡ draws old
  pub pending_is : pending new ≡ pending old
  pub associated_is : associated new ≡ associated old

abbrev pub refused_acts : Domain → Node → Option Node → List ℕ → Kind → Reason → Option Seal → List Act
refused_acts d n from octets k why s = Took from octets k (Refused why) s ∷ response d n from k why

pub as_before-refused : (d : Domain) (n : Node) (from : Option Node) (octets : List ℕ) (k : Kind) (why : Reason) (s : Option Seal) (h : List Act) → IsAsBefore h (add (refused_acts d n from octets k why s) h)
as_before-refused d n from octets k why s h = record {
  goes_on = λ p. goes_on p (refused_acts d n from octets k why s) h (apart-refused p from octets k why s, response-apart d n from k why p);
  draws_are = omega (arith, draws_add (refused_acts d n from octets k why s) h, response-draws d n from k why);
  pending_is = pending_add (refused_acts d n from octets k why s) h (refl, (response-leaves d n from k why).0);
  associated_is = associated_add (refused_acts d n from octets k why s) h (refl, (response-leaves d n from k why).1);
}

pub as_before-ignored : (octets : List ℕ) (h : List Act) → IsAsBefore h (Took None octets kind.Ignored Ignored None ∷ h)
as_before-ignored octets h = record {
  goes_on = λ p. goes_on p (Took None octets kind.Ignored Ignored None ∷ []) h (apart-ignored p None octets kind.Ignored None, tt);
  draws_are = refl;
  pending_is = refl;
  associated_is = refl;
}

pub as_before-idle : (w : Why) (h : List Act) → IsAsBefore h (Idle w ∷ h)
as_before-idle w h = record {
  goes_on = λ p. goes_on p (Idle w ∷ []) h (apart-idle p w, tt);
  draws_are = refl;
  pending_is = refl;
  associated_is = refl;
}

-- ---- an access point answers an association request of p, by the attempt that it had with it

abbrev pub answer_acts : Domain → Node → Node → List ℕ → Option (List Act) → List ℕ → List Act
answer_acts d n p octets o v =
    Took (Some p) octets kind.AssocReq Accepted None ∷ close_attempt p o ++ Opened p Connect ∷ Drew (Nonce v) ∷ sent_assoc_resp d n p ∷ sent_m1 d n p 1 v ∷ []

-- an attempt by connect with that nonce in which nothing was heard yet
pub record IsBegun (p : Node) (v : List ℕ) (h : List Act) : Type 0 where
  pub part : List Act
  pub is : attempt p h ≡ Some part
  pub begun : start_of part ≡ Some Connect
  pub nonce : own_nonce part ≡ Some v
  pub hears : (k : Kind) → heard p k part ≡ None
  pub replies : (k : Kind) → all_replied p k part ≡ []
  pub derives : derivation p part ≡ None

pub begun-counter : (p : Node) (v : List ℕ) (h : List Act) (b : IsBegun p v h) → kept_counter p b.part ≡ None
begun-counter p v h b = rw (b.replies (kind.Key M3), b.replies (kind.Key G1)) refl

pub begun-silent : (p : Node) (v : List ℕ) (h : List Act) (b : IsBegun p v h) (k : Kind) → has_heard p k b.part ≡ false
begun-silent p v h b k = rw (b.hears k) refl

-- and M1 was sent once
pub record HasAnswered (p : Node) (octets v : List ℕ) (h : List Act) : Type 0 where
  pub attempt_is : IsBegun p v h
  pub request_is : request p h ≡ Some octets
  pub offers : offered p M1 attempt_is.part ≡ 1 ∷ []

abbrev opened_part : Domain → Node → Node → List ℕ → List Act
opened_part d n p v = sent_m1 d n p 1 v ∷ sent_assoc_resp d n p ∷ Drew (Nonce v) ∷ Opened p Connect ∷ []

-- in the acts before its Opened
pub heard-request : (p : Node) (octets : List ℕ) (o : Option (List Act)) (h : List Act) → heard p kind.AssocReq (add (close_attempt p o) (Took (Some p) octets kind.AssocReq Accepted None ∷ h)) ≡ Some octets
heard-request p octets None h = rw (same-refl p) refl
heard-request p octets (Some part) h = rw (same-refl p) refl

-- the request of an attempt that was answered stands before its Opened
pub request-begun : (d : Domain) (n p : Node) (v : List ℕ) (h : List Act) → request p (sent_m1 d n p 1 v ∷ sent_assoc_resp d n p ∷ Drew (Nonce v) ∷ Opened p Connect ∷ h) ≡ heard p kind.AssocReq h
request-begun d n p v h =
    let drew = Drew (Nonce v) ∷ Opened p Connect ∷ h in
    request_more p (sent_m1 d n p 1 v) (sent_assoc_resp d n p ∷ drew) refl refl refl ∙ request_more p (sent_assoc_resp d n p) drew refl refl refl
    ∙ request_more p (Drew (Nonce v)) (Opened p Connect ∷ h) refl refl refl ∙ request_opened p (Opened p Connect) h (same-refl p)

pub answer-add : (d : Domain) (n p : Node) (octets : List ℕ) (o : Option (List Act)) (v : List ℕ) (h : List Act)
    → add (answer_acts d n p octets o v) h ≡ sent_m1 d n p 1 v ∷ sent_assoc_resp d n p ∷ Drew (Nonce v) ∷ Opened p Connect ∷ add (close_attempt p o) (Took (Some p) octets kind.AssocReq Accepted None ∷ h)
answer-add d n p octets None v h = refl
answer-add d n p octets (Some part) v h = refl

begun-answer : (d : Domain) (n p : Node) (v : List ℕ) (h : List Act) → IsBegun p v (sent_m1 d n p 1 v ∷ sent_assoc_resp d n p ∷ Drew (Nonce v) ∷ Opened p Connect ∷ h)
begun-answer d n p v h = record {
  part = opened_part d n p v;
  is = rw (same-refl p) refl;
  begun = refl;
  nonce = refl;
  hears = λ k. refl;
  replies = λ k. refl;
  derives = refl;
}

pub has_answered : (d : Domain) (n p : Node) (octets : List ℕ) (o : Option (List Act)) (v : List ℕ) (h : List Act) → IsAddress (address d n) → IsAddress (address d p) → length v ≡ 32
    → HasAnswered p octets v (add (answer_acts d n p octets o v) h)
unfolding begun-answer
has_answered d n p octets o v h l m w =
    subst (λ (x : List Act). HasAnswered p octets v x) (sym (answer-add d n p octets o v h)) (record {
      attempt_is = begun-answer d n p v (add (close_attempt p o) (Took (Some p) octets kind.AssocReq Accepted None ∷ h));
      request_is = request-begun d n p v (add (close_attempt p o) (Took (Some p) octets kind.AssocReq Accepted None ∷ h)) ∙ heard-request p octets o h;
      offers = rw (same-refl p) (ap (λ (c : ℕ). c ∷ []) (reads-counter d.akm (in_data d n p (frame_octets (sent_fields M1 d.akm 1 v 0 []))) (m1_message d n p 1 v) (reads-m1 d n p 1 v l m (omega arith) w)));
    })

close-apart : (sta : ℕ) (p : Node) (o : Option (List Act)) → same (Sta sta) p ≡ false → AllByRecursion (IsApart (Sta sta)) (close_attempt p o)
close-apart sta p None other = tt
close-apart sta p (Some part) other = (apart-closed sta p other, tt)

pub answer-apart : (d : Domain) (n p : Node) (octets : List ℕ) (o : Option (List Act)) (v : List ℕ) (sta : ℕ) → same (Sta sta) p ≡ false → AllByRecursion (IsApart (Sta sta)) (answer_acts d n p octets o v)
answer-apart d n p octets None v sta other = (
  apart-took (Sta sta) (Some p) octets kind.AssocReq Accepted None other,
  (apart-opened (Sta sta) p Connect other, (apart-drew (Sta sta) (Nonce v), (apart-sent (Sta sta) p kind.AssocResp _ None other, (apart-sent (Sta sta) p (kind.Key M1) _ None other, tt)))),
)
answer-apart d n p octets (Some part) v sta other = (
  apart-took (Sta sta) (Some p) octets kind.AssocReq Accepted None other,
  (
    apart-closed sta p other,
    (apart-opened (Sta sta) p Connect other, (apart-drew (Sta sta) (Nonce v), (apart-sent (Sta sta) p kind.AssocResp _ None other, (apart-sent (Sta sta) p (kind.Key M1) _ None other, tt)))),
  ),
)

-- for every other station nothing is changed
pub answer-others : (d : Domain) (n p : Node) (octets : List ℕ) (o : Option (List Act)) (v : List ℕ) (h : List Act) (sta : ℕ) → same (Sta sta) p ≡ false → GoesOn (Sta sta) h (add (answer_acts d n p octets o v) h)
answer-others d n p octets o v h sta other = goes_on (Sta sta) (answer_acts d n p octets o v) h (answer-apart d n p octets o v sta other)

pub answer-draws : (d : Domain) (n p : Node) (octets : List ℕ) (o : Option (List Act)) (v : List ℕ) (h : List Act) → draws (add (answer_acts d n p octets o v) h) ≡ suc (draws h)
answer-draws d n p octets None v h = refl
answer-draws d n p octets (Some part) v h = refl

-- ---- an access point derives the key by M2 of p

abbrev pub derived_acts : Node → List ℕ → Seal → Inputs → Ptk → List Act
derived_acts p octets s i k = Took (Some p) octets (kind.Key M2) Accepted (Some s) ∷ Derived p i k ∷ []

pub record HasDerivedBy (p : Node) (part : List Act) (i : Inputs) (k : Ptk) (octets : List ℕ) (old new : List Act) : Type 0 where
  pub more : List Act
  pub is : attempt p new ≡ Some more
  pub begun : start_of more ≡ start_of part
  pub nonce : (v : List ℕ) → own_nonce part ≡ Some v → own_nonce more ≡ Some v
  pub request_is : request p new ≡ request p old
  pub offers : offered p M1 more ≡ offered p M1 part
  pub answered : heard p (kind.Key M2) more ≡ Some octets
  pub derives : derivation p more ≡ Some (record { inputs = i; ptk = k })

pub has_derived : (p : Node) (octets : List ℕ) (s : Seal) (i : Inputs) (k : Ptk) (h part : List Act) → attempt p h ≡ Some part → HasDerivedBy p part i k octets h (add (derived_acts p octets s i k) h)
has_derived p octets s i k h part is = record {
  more = Derived p i k ∷ Took (Some p) octets (kind.Key M2) Accepted (Some s) ∷ part;
  is = attempt_more p (Derived p i k) (Took (Some p) octets (kind.Key M2) Accepted (Some s) ∷ h) (Took (Some p) octets (kind.Key M2) Accepted (Some s) ∷ part) refl refl (attempt_more p (Took (Some p) octets (kind.Key M2) Accepted (Some s)) h part refl refl is);
  begun = start_more (Took (Some p) octets (kind.Key M2) Accepted (Some s)) part (attempt_some p h part is);
  nonce = λ v w. own_nonce_more (Derived p i k) (Took (Some p) octets (kind.Key M2) Accepted (Some s) ∷ part) v (own_nonce_more (Took (Some p) octets (kind.Key M2) Accepted (Some s)) part v w);
  request_is = request_more p (Derived p i k) (Took (Some p) octets (kind.Key M2) Accepted (Some s) ∷ h) refl refl refl ∙ request_more p (Took (Some p) octets (kind.Key M2) Accepted (Some s)) h refl refl refl;
  offers = refl;
  answered = rw (same-refl p) refl;
  derives = rw (same-refl p) refl;
}

pub derived-others : (p : Node) (octets : List ℕ) (s : Seal) (i : Inputs) (k : Ptk) (h : List Act) (q : Node) → same q p ≡ false → GoesOn q h (add (derived_acts p octets s i k) h)
derived-others p octets s i k h q other = goes_on q (derived_acts p octets s i k) h (apart-took q (Some p) octets (kind.Key M2) Accepted (Some s) other, (apart-derived q p i k other, tt))

pub derived-draws : (p : Node) (octets : List ℕ) (s : Seal) (i : Inputs) (k : Ptk) (h : List Act) → draws (add (derived_acts p octets s i k) h) ≡ draws h
derived-draws p octets s i k h = refl

-- ---- a station asks access point a for association, by the attempt and the session that it had

abbrev pub asking_acts : Domain → Node → Option Node → Option Node → ℕ → List ℕ → List Act
asking_acts d n was had a v = close_pending was ++ close_associated had ++ Opened (Ap a) Connect ∷ Drew (Nonce v) ∷ sent_assoc_req d n (Ap a) ∷ []

asking-add : (d : Domain) (n : Node) (was had : Option Node) (a : ℕ) (v : List ℕ) (h : List Act)
    → add (asking_acts d n was had a v) h ≡ sent_assoc_req d n (Ap a) ∷ Drew (Nonce v) ∷ Opened (Ap a) Connect ∷ add (close_associated had) (add (close_pending was) h)
asking-add d n None None a v h = refl
asking-add d n None (Some q) a v h = refl
asking-add d n (Some p) None a v h = refl
asking-add d n (Some p) (Some q) a v h = refl

begun-asking : (d : Domain) (n : Node) (a : ℕ) (v : List ℕ) (h : List Act) → IsBegun (Ap a) v (sent_assoc_req d n (Ap a) ∷ Drew (Nonce v) ∷ Opened (Ap a) Connect ∷ h)
begun-asking d n a v h = record {
  part = sent_assoc_req d n (Ap a) ∷ Drew (Nonce v) ∷ Opened (Ap a) Connect ∷ [];
  is = rw (same-refl (Ap a)) refl;
  begun = refl;
  nonce = refl;
  hears = λ k. refl;
  replies = λ k. refl;
  derives = refl;
}

pub has_asked : (d : Domain) (n : Node) (was had : Option Node) (a : ℕ) (v : List ℕ) (h : List Act) → IsBegun (Ap a) v (add (asking_acts d n was had a v) h)
has_asked d n was had a v h = subst (λ (x : List Act). IsBegun (Ap a) v x) (sym (asking-add d n was had a v h)) (begun-asking d n a v (add (close_associated had) (add (close_pending was) h)))

pub asked-pending : (d : Domain) (n : Node) (was had : Option Node) (a : ℕ) (v : List ℕ) (h : List Act) → pending (add (asking_acts d n was had a v) h) ≡ Some (Ap a)
asked-pending d n was had a v h = ap pending (asking-add d n was had a v h)

-- no session is left
pub asked-associated : (d : Domain) (n : Node) (was : Option Node) (a : ℕ) (v : List ℕ) (h : List Act) → associated (add (asking_acts d n was (associated h) a v) h) ≡ None
asked-associated d n was a v h = ap associated (asking-add d n was (associated h) a v h) ∙ closed (associated h) refl
  where
    before : (w : Option Node) → associated (add (close_pending w) h) ≡ associated h
    before None = refl
    before (Some p) = refl

    closed : (o : Option Node) → associated h ≡ o → associated (add (close_associated o) (add (close_pending was) h)) ≡ None
    closed None is = before was ∙ is
    closed (Some q) is = refl

asked-none : (d : Domain) (n : Node) (a : ℕ) (v : List ℕ) (q : ℕ) (h : List Act) → same (Ap q) (Ap a) ≡ false → attempt (Ap q) h ≡ None → attempt (Ap q) (sent_assoc_req d n (Ap a) ∷ Drew (Nonce v) ∷ Opened (Ap a) Connect ∷ h) ≡ None
asked-none d n a v q h other s =
    let opened = attempt_none (Ap q) (Opened (Ap a) Connect) h other s in
    let drawn = attempt_none (Ap q) (Drew (Nonce v)) (Opened (Ap a) Connect ∷ h) refl opened in
    attempt_none (Ap q) (sent_assoc_req d n (Ap a)) (Drew (Nonce v) ∷ Opened (Ap a) Connect ∷ h) refl drawn

left_session : (q : ℕ) (o : Option Node) (h : List Act) → attempt (Ap q) h ≡ None → attempt (Ap q) (add (close_associated o) h) ≡ None
left_session q None h s = s
left_session q (Some p) h s = attempt_none (Ap q) (Closed p Session) h refl s

left_attempt : (q : ℕ) (o : Option Node) (h : List Act) → (o ≡ None → attempt (Ap q) h ≡ None) → attempt (Ap q) (add (close_pending o) h) ≡ None
left_attempt q None h alone = alone refl
left_attempt q (Some p) h alone = refl

-- no other attempt is left, where without a pending one there was none
pub asked-others : (d : Domain) (n : Node) (had : Option Node) (a : ℕ) (v : List ℕ) (h : List Act) (q : ℕ) → same (Ap q) (Ap a) ≡ false → (pending h ≡ None → attempt (Ap q) h ≡ None)
    → attempt (Ap q) (add (asking_acts d n (pending h) had a v) h) ≡ None
asked-others d n had a v h q other alone =
    ap (attempt (Ap q)) (asking-add d n (pending h) had a v h)
    ∙ asked-none d n a v q (add (close_associated had) (add (close_pending (pending h)) h)) other (left_session q had (add (close_pending (pending h)) h) (left_attempt q (pending h) h alone))

pub asked-draws : (d : Domain) (n : Node) (was had : Option Node) (a : ℕ) (v : List ℕ) (h : List Act) → draws (add (asking_acts d n was had a v) h) ≡ suc (draws h)
asked-draws d n None None a v h = refl
asked-draws d n None (Some q) a v h = refl
asked-draws d n (Some p) None a v h = refl
asked-draws d n (Some p) (Some q) a v h = refl

-- ---- a station takes an association response of access point p

abbrev pub associated_acts : Node → List ℕ → List Act
associated_acts p octets = Took (Some p) octets kind.AssocResp Accepted None ∷ []

-- the attempt goes on, and whom it is with stays
pub record IsTaken (p : Node) (part old new : List Act) : Type 0 where
  pub more : List Act
  pub is : attempt p new ≡ Some more
  pub begun : start_of more ≡ start_of part
  pub nonce : (v : List ℕ) → own_nonce part ≡ Some v → own_nonce more ≡ Some v
  pub counter : kept_counter p more ≡ kept_counter p part
  pub pending_is : pending new ≡ pending old
  pub associated_is : associated new ≡ associated old
  pub draws_are : draws new ≡ draws old
  pub others : (q : Node) → attempt q old ≡ None → attempt q new ≡ None

pub has_associated : (p : Node) (octets : List ℕ) (h part : List Act) → attempt p h ≡ Some part → (t : IsTaken p part h (add (associated_acts p octets) h)) × (heard p kind.AssocResp t.more ≡ Some octets)
has_associated p octets h part is = (
  record {
    more = Took (Some p) octets kind.AssocResp Accepted None ∷ part;
    is = attempt_more p (Took (Some p) octets kind.AssocResp Accepted None) h part refl refl is;
    begun = start_more (Took (Some p) octets kind.AssocResp Accepted None) part (attempt_some p h part is);
    nonce = own_nonce_more (Took (Some p) octets kind.AssocResp Accepted None) part;
    counter = rw (same-refl p) refl;
    pending_is = refl;
    associated_is = refl;
    draws_are = refl;
    others = λ q s. attempt_none q (Took (Some p) octets kind.AssocResp Accepted None) h refl s;
  },
  rw (same-refl p) refl,
)

-- ---- a station derives the key by M1 of access point p

abbrev pub replying_acts : Domain → Node → Node → List ℕ → Derivation → ℕ → List ℕ → List Act
replying_acts d n p octets x counter fte = Took (Some p) octets (kind.Key M1) Accepted None ∷ Derived p x.inputs x.ptk ∷ sent_m2 d n p x counter fte ∷ []

pub has_replied : (d : Domain) (n p : Node) (octets : List ℕ) (x : Derivation) (counter : ℕ) (fte : List ℕ) (h part : List Act) → attempt p h ≡ Some part
    → (t : IsTaken p part h (add (replying_acts d n p octets x counter fte) h)) × (heard p kind.AssocResp t.more ≡ heard p kind.AssocResp part) × (heard p (kind.Key M1) t.more ≡ Some octets) × (derivation p t.more ≡ Some x)
has_replied d n p octets x counter fte h part is =
    let took = Took (Some p) octets (kind.Key M1) Accepted None in
    let m2 = sent_m2 d n p x counter fte in
    let first = attempt_more p took h part refl refl is in
    let second = attempt_more p (Derived p x.inputs x.ptk) (took ∷ h) (took ∷ part) refl refl first in (
      record {
        more = m2 ∷ Derived p x.inputs x.ptk ∷ took ∷ part;
        is = attempt_more p m2 (Derived p x.inputs x.ptk ∷ took ∷ h) (Derived p x.inputs x.ptk ∷ took ∷ part) refl refl second;
        begun = start_more took part (attempt_some p h part is);
        nonce = λ v s. own_nonce_more m2 (Derived p x.inputs x.ptk ∷ took ∷ part) v (own_nonce_more (Derived p x.inputs x.ptk) (took ∷ part) v (own_nonce_more took part v s));
        counter = rw (same-refl p) refl;
        pending_is = refl;
        associated_is = refl;
        draws_are = refl;
        others = λ q s. attempt_none q m2 (Derived p x.inputs x.ptk ∷ took ∷ h) refl (attempt_none q (Derived p x.inputs x.ptk) (took ∷ h) refl (attempt_none q took h refl s));
      },
      rw (same-refl p) refl,
      rw (same-refl p) refl,
      rw (same-refl p) refl,
    )

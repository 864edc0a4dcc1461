-- What a key holder gives matters where it was asked, and there the acts tell it.
use Rattle.std.proofs.Common.{◌≡◌, ◌⊎◌, ℕ, ◌+◌, Bool, true, false, List, [], ◌∷◌, ◌++◌, Option, Some, None, is_some, refl, sym, ap, subst, ◌∙◌, inl, inr}
use Rattle.std.specs.Prelude.{not, nat_lt, if◌then◌else◌}
use Rattle.domain_base.specs.declared.names.Akm.{Akm}
use Rattle.domain_base.specs.declared.names.Akm.TheVariants.{Psk, PskSha256, FtPsk}
use Rattle.domain_base.specs.declared.names.Node.{Node}
use Rattle.domain_base.specs.declared.names.Node.TheVariants.{Ap, Sta}
use Rattle.key_hierarchy.specs.declared.answers.PullAnswer.{PullAnswer}
use Rattle.key_hierarchy.specs.declared.answers.PullAnswer.TheVariants.{Found, Absent}
use Rattle.key_hierarchy.specs.declared.fast_transition.PmkR1.{PmkR1}
use Rattle.rsn_elements.specs.Elements.{ElementFields}
use Rattle.eapol_key.specs.declared.messages.Message.{Message}
use Rattle.eapol_key.specs.declared.messages.Message.TheVariants.{M1, M2, M3, M4, G1, G2}
use Rattle.run_journal.specs.declared.domain.Domain.{Domain}
use Rattle.run_journal.specs.declared.acts.Kind.{Kind}
use Rattle.run_journal.specs.declared.acts.Kind.TheVariants as kind
use Rattle.run_journal.specs.declared.acts.Reason.{Reason}
use Rattle.run_journal.specs.declared.acts.Reason.TheVariants as reason
use Rattle.run_journal.specs.declared.acts.Outcome.{Outcome}
use Rattle.run_journal.specs.declared.acts.Outcome.TheVariants.{Accepted, Answered, Ignored, Refused}
use Rattle.run_journal.specs.declared.acts.Act.{Act}
use Rattle.run_journal.specs.declared.acts.Act.TheVariants.{Took}
use Rattle.run_journal.specs.Questions.{attempt, draws}
use Rattle.run_journal.specs.Holders.{answers}
use Rattle.domain_rules.specs.Network.{holder_of, peer_of, draw_end}
use Rattle.domain_rules.specs.Reading.{Management, KeyMessage, Reading, NoFrame, PassedOver, NoElements, Managed, NoKeyFrame, NoMessage, Keyed, Sealed, Acting, kind_of}
use Rattle.domain_rules.specs.Facts.{Facts}
use Rattle.domain_rules.specs.Suites.{rsne_status, without_status}
use Rattle.domain_rules.specs.FastTransition.{mde_status, single}
use Rattle.domain_rules.specs.TransitionKeys.{Transition, transition, Asked, asked, repeats, asked_verdict, ft_req_asked, ft_req_verdict_by, pulled_verdict, ft_req_pulled}
use Rattle.domain_rules.specs.TransitionRows.{look_answer, looked_by, looked_for, look_of_kind, refused_look}
use Rattle.domain_rules.specs.StationKeys.{Keying, m3_keying}
use Rattle.domain_rules.specs.Associating.{management_verdict}
use Rattle.domain_rules.specs.Verdict.{KnowsFrom, KnowsOf, KnowsResponse, KnowsManaged, first_verdict, further, further_from, m2_further, m3_further, key_further, management_further, and_then, unless_refused, verdict, from_peer, is_mine, management_sender}
use Rattle.domain_rules.specs.Closing.{close_attempt, sender}
use Rattle.domain_rules.specs.Rows.{refused_status, response_by, response, refused_seal, RefusedRow, TakeRows, By_assoc_req, By_assoc_resp, By_m1, By_opening_m1, By_m2, By_m3, By_repeated_m3, By_m4, By_g1, By_g2, By_data, By_action, By_ft_req, By_repeated_ft_req, By_ft_resp, By_re_req, By_repeated_re_req, By_re_resp, By_ignored, By_refusal, TakeRow}
use Rattle.domain_rules.specs.Here.{here}
use Rattle.domain_rules.proofs.Deciding.{Decided, Took_in, Repeated, Passed, Thrown, IsTaken, never, taken_behind}
use Rattle.domain_rules.proofs.TransitionOutcome.{ft_req_taken, asked_accepted, asked_answered}
use Rattle.domain_rules.proofs.Outcomes.{decided_first}
use Rattle.domain_rules.proofs.OneOutcome.{taken_from, from_named, and_answered, sender-some}

-- the same facts, with another answer of the key holder
abbrev pub with_pulled : Facts → Option PmkR1 → Facts
with_pulled f x = record { requested = f.requested; responded = f.responded; unwrapped = f.unwrapped; data_ = f.data_; pulled = x; opened = f.opened; unwrapped_igtk = f.unwrapped_igtk; kept = f.kept }

-- what the first answer gave
abbrev pub given_first : List PullAnswer → Option PmkR1
given_first [] = None
given_first (Found k ∷ more) = Some k
given_first (_ ∷ more) = None

-- ---- of what is known it is no part

knows_message : (akm : Akm) (h : List Act) (p : Node) (m : Message) (k : KeyMessage) (f : Facts) (x : Option PmkR1) → KnowsOf akm h p m k f → KnowsOf akm h p m k (with_pulled f x)
knows_message akm h p M1 k f x s = tt
knows_message akm h p M2 k f x s = record { requested = s.requested; data_ = s.data_ }
knows_message akm h p M3 k f x s = λ y is. (let w = s y is in record { unwrapped = w.unwrapped; data_ = w.data_ })
knows_message akm h p M4 k f x s = tt
knows_message akm h p G1 k f x s = λ y is. (let w = s y is in record { unwrapped = w.unwrapped; data_ = w.data_ })
knows_message akm h p G2 k f x s = tt

knows_response : (akm : Akm) (h : List Act) (p : Node) (m : Message) (f : Facts) (x : Option PmkR1) → KnowsResponse akm h p m f → KnowsResponse akm h p m (with_pulled f x)
knows_response FtPsk h p M1 f x s = s
knows_response FtPsk h p M3 f x s = s
knows_response akm h p m f x s = tt

knows_managed : (d : Domain) (n : Node) (h : List Act) (p : Node) (e : ElementFields) (f : Facts) (x : Option PmkR1) (k : Kind) → KnowsManaged d n h p e f k → KnowsManaged d n h p e (with_pulled f x) k
knows_managed d (Sta s) h p e f x kind.ReResp t = t
knows_managed d n h p e f x _ t = tt

pub knows_from : (d : Domain) (n : Node) (h : List Act) (r : Reading) (f : Facts) (x : Option PmkR1) → KnowsFrom d n h r f → KnowsFrom d n h r (with_pulled f x)
knows_from d n h (Keyed k) f x s = λ p from. (knows_message d.akm h p k.message k f x (s p from).0, knows_response d.akm h p k.message f x (s p from).1)
knows_from d n h (Managed b e) f x s = λ p from. knows_managed d n h p e f x b.kind (s p from)
knows_from d n h (Sealed header way tid body) f x s = s
knows_from d n h (Acting header body) f x s = s
knows_from d n h _ f x s = tt

-- ---- only a request for authentication is judged by it

m2_free : (akm : Akm) (d : Domain) (n p : Node) (f : Facts) (x : Option PmkR1) → m2_further akm d n p (with_pulled f x) ≡ m2_further akm d n p f
m2_free FtPsk d n p f x = refl
m2_free Psk d n p f x = refl
m2_free PskSha256 d n p f x = refl

m3_free : (akm : Akm) (d : Domain) (y : Option Keying) (f : Facts) (x : Option PmkR1) → m3_further akm d y (with_pulled f x) ≡ m3_further akm d y f
m3_free FtPsk d (Some y) f x = refl
m3_free FtPsk d None f x = refl
m3_free Psk d y f x = refl
m3_free PskSha256 d y f x = refl

key_free : (d : Domain) (n : Node) (h : List Act) (p : Node) (k : KeyMessage) (m : Message) (f : Facts) (x : Option PmkR1) → key_further d n h p k m (with_pulled f x) ≡ key_further d n h p k m f
key_free d n h p k M2 f x = m2_free d.akm d n p f x
key_free d n h p k M3 f x = m3_free d.akm d (m3_keying p h k) f x
key_free d n h p k _ f x = refl

management_free : (d : Domain) (drawn : ℕ) (n : Node) (h : List Act) (p : Node) (b : Management) (e : ElementFields) (f : Facts) (x : Option PmkR1) (k : Kind) → (k ≡ kind.FtReq → ⊥)
    → management_further d drawn n h p b e (with_pulled f x) k ≡ management_further d drawn n h p b e f k
management_free d drawn (Ap a) h p b e f x kind.FtReq other = absurd (other refl)
management_free d drawn n h p b e f x _ other = refl

from_same : (o : Option Node) (f g : Node → Outcome) → ((p : Node) → f p ≡ g p) → further_from o f ≡ further_from o g
from_same None f g all = refl
from_same (Some p) f g all = all p

abbrev pub IsFree : Reading → Type 0
IsFree (Managed b e) = b.kind ≡ kind.FtReq → ⊥
IsFree r = Unit {0}

further_free : (d : Domain) (first : ℕ) (n : Node) (h : List Act) (r : Reading) (f : Facts) (x : Option PmkR1) → IsFree r → further d first n h r (with_pulled f x) ≡ further d first n h r f
further_free d first n h (Keyed k) f x free = from_same (peer_of d n k.header.a2) _ _ (λ p. key_free d n h p k k.message f x)
further_free d first n h (Managed b e) f x free = from_same (management_sender d n b.header) _ _ (λ p. management_free d (first + draws h) n h p b e f x b.kind free)
further_free d first n h _ f x free = refl

pub verdict_free : (d : Domain) (first : ℕ) (n : Node) (h : List Act) (r : Reading) (f : Facts) (x : Option PmkR1) → IsFree r → verdict d first n h r (with_pulled f x) ≡ verdict d first n h r f
verdict_free d first n h r f x free = ap (and_then (first_verdict d first n h r)) (further_free d first n h r f x free)

-- ---- a request for authentication

abbrev FromManaged : Domain → ℕ → Node → List Act → Management → ElementFields → Node → Kind → Outcome
FromManaged d first n h b e p k = management_verdict d (first + draws h) n h p k b e

-- it was taken as far as the frame and the history decide, by an access point
record Asking (d : Domain) (first : ℕ) (n : Node) (h : List Act) (b : Management) (e : ElementFields) : Type 0 where
  p : Node
  from : management_sender d n b.header ≡ Some p
  taken : IsTaken (management_verdict d (first + draws h) n h p kind.FtReq b e)
  same : first_verdict d first n h (Managed b e) ≡ management_verdict d (first + draws h) n h p kind.FtReq b e

behind_mine : (c : Bool) (why : Reason) (a : Outcome) → IsTaken (if c then Refused why else a) → (if c then Refused why else a) ≡ a
behind_mine true why a (inl s) = cc
behind_mine true why a (inr s) = cc
behind_mine false why a s = refl

peer_at : (o : Option Node) (p : Node) (f : Node → Outcome) → o ≡ Some p → from_peer o f ≡ f p
peer_at o p f is = ap (λ (x : Option Node). from_peer x f) is

asking : (d : Domain) (first : ℕ) (n : Node) (h : List Act) (b : Management) (e : ElementFields) → b.kind ≡ kind.FtReq → IsTaken (first_verdict d first n h (Managed b e)) → Asking d first n h b e
asking d first n h b e k s =
    let t = taken_behind (not (is_mine d n b.header)) reason.NotForMe _ s in
    let behind = taken_from (management_sender d n b.header) (λ p. management_verdict d (first + draws h) n h p b.kind b e) t in
    let kind_is : management_verdict d (first + draws h) n h behind.0 b.kind b e ≡ management_verdict d (first + draws h) n h behind.0 kind.FtReq b e = ap (λ (v : Kind). management_verdict d (first + draws h) n h behind.0 v b e) k in
    record {
      p = behind.0;
      from = behind.1.0;
      taken = subst IsTaken kind_is behind.1.1;
      same = behind_mine (not (is_mine d n b.header)) reason.NotForMe _ s ∙ peer_at (management_sender d n b.header) behind.0 _ behind.1.0 ∙ kind_is;
    }

further_asked : (d : Domain) (first : ℕ) (n : Node) (h : List Act) (b : Management) (e : ElementFields) (f : Facts) (a : Asking d first n h b e) → b.kind ≡ kind.FtReq
    → further d first n h (Managed b e) f ≡ management_further d (first + draws h) n h a.p b e f kind.FtReq
further_asked d first n h b e f a k =
    from_named (management_sender d n b.header) a.p _ a.from ∙ ap (management_further d (first + draws h) n h a.p b e f) k

-- what is repeated is answered whatever a key holder would give
repeated_free : (drawn : ℕ) (o : Option Asked) (a : Asked) (y : Option Transition) (x : Option PmkR1) → o ≡ Some a → repeats a y ≡ true → ft_req_pulled drawn o y x ≡ Accepted
repeated_free drawn o a y x is again = ap (λ (v : Option Asked). ft_req_pulled drawn v y x) is ∙ rw again refl

unless_taken : (o : Outcome) → o ≡ Accepted → unless_refused Answered o ≡ Answered
unless_taken o is = ap (unless_refused Answered) is

answered_request : (d : Domain) (first : ℕ) (n : Node) (h : List Act) (b : Management) (e : ElementFields) (f : Facts) → b.kind ≡ kind.FtReq → first_verdict d first n h (Managed b e) ≡ Answered
    → verdict d first n h (Managed b e) f ≡ Answered
answered_request d first (Sta s) h b e f k is = let a = asking d first (Sta s) h b e k (inr is) in absurd (cc (sym is ∙ a.same))
answered_request d first (Ap z) h b e f k is =
    let a = asking d first (Ap z) h b e k (inr is) in
    let t = ft_req_taken d h a.p e a.taken in
    let again : repeats t.a (transition a.p h) ≡ true = asked_answered d t.a (repeats t.a (transition a.p h)) (sym t.verdict_is ∙ sym a.same ∙ is) in
    ap (λ (o : Outcome). and_then o (further d first (Ap z) h (Managed b e) f)) is
    ∙ unless_taken _ (further_asked d first (Ap z) h b e f a k ∙ repeated_free (first + draws h) (asked e) t.a (transition a.p h) f.pulled t.asks again)

-- ---- what the acts tell

pub answers_close : (p : Node) (o : Option (List Act)) (g : List Act) → answers (close_attempt p o ++ g) ≡ answers g
answers_close p None g = refl
answers_close p (Some part) g = refl

answers_by : (d : Domain) (n q : Node) (k : Kind) (o : Option ℕ) → answers (response_by d n q k o) ≡ []
answers_by d n q kind.AssocReq (Some code) = refl
answers_by d n q kind.FtReq (Some code) = refl
answers_by d n q kind.ReReq (Some code) = refl
answers_by d n q k _ = refl

pub answers_response : (d : Domain) (n : Node) (from : Option Node) (k : Kind) (why : Reason) → answers (response d n from k why) ≡ []
answers_response d (Ap a) (Some p) k why = answers_by d (Ap a) p k (refused_status why)
answers_response d (Ap a) None k why = refl
answers_response d (Sta s) from k why = refl

-- the acts have one look, which gave that
abbrev pub LooksOnce : List Act → Option PmkR1 → Type 0
LooksOnce g x = (answer : PullAnswer) × ((answers g ≡ answer ∷ []) × (given_first (answer ∷ []) ≡ x))

-- the row tells what was given, or is the same whatever is given
abbrev pub Tells : Domain → ℕ → Node → List Act → List ℕ → Reading → Facts → List Act → Type 0
Tells d first n h octets r f g = LooksOnce g f.pulled ⊎ ((x : Option PmkR1) → TakeRows (here d first n) h octets r (with_pulled f x) g)

and_ignored : (a b : Outcome) → and_then a b ≡ Ignored → a ≡ Ignored
and_ignored Accepted (Refused why) s = cc
and_ignored Accepted _ s = cc
and_ignored Answered (Refused why) s = cc
and_ignored Answered _ s = cc
and_ignored a b s = s

free_kind : (r : Reading) (b : Management) (e : ElementFields) (k : Kind) → r ≡ Managed b e → b.kind ≡ k → (k ≡ kind.FtReq → ⊥) → IsFree r
free_kind r b e k is kind_is other = subst IsFree (sym is) (λ w. other (sym kind_is ∙ w))

free_key : (r : Reading) (k : KeyMessage) → r ≡ Keyed k → IsFree r
free_key r k is = subst IsFree (sym is) tt

-- ---- a refusal

look_same : (k : Kind) (p : Node) (e : ElementFields) (why : Reason) (x y : Option PmkR1) → (k ≡ kind.FtReq → why ≡ reason.Spent → ⊥) → look_of_kind k p e (look_answer why x) ≡ look_of_kind k p e (look_answer why y)
look_same kind.FtReq p e reason.Spent x y other = absurd (other refl refl)
look_same kind.FtReq p e _ x y other = refl
look_same _ p e why x y other = refl

looks_same : (n : Node) (from : Option Node) (r : Reading) (why : Reason) (x y : Option PmkR1) → ((b : Management) (e : ElementFields) (a : ℕ) → n ≡ Ap a → r ≡ Managed b e → b.kind ≡ kind.FtReq → why ≡ reason.Spent → ⊥)
    → refused_look n from r x why ≡ refused_look n from r y why
looks_same (Ap a) (Some p) (Managed b e) why x y other = look_same b.kind p e why x y (other b e a refl refl)
looks_same (Ap a) (Some p) (NoFrame fault) why x y other = refl
looks_same (Ap a) (Some p) PassedOver why x y other = refl
looks_same (Ap a) (Some p) (NoElements b fault) why x y other = refl
looks_same (Ap a) (Some p) (NoKeyFrame header fault) why x y other = refl
looks_same (Ap a) (Some p) (NoMessage header) why x y other = refl
looks_same (Ap a) (Some p) (Keyed k) why x y other = refl
looks_same (Ap a) (Some p) (Sealed header way tid body) why x y other = refl
looks_same (Ap a) (Some p) (Acting header body) why x y other = refl
looks_same (Ap a) None r why x y other = refl
looks_same (Sta s) from r why x y other = refl

if_spent : (c : Bool) (why : Reason) (o : Outcome) → (why ≡ reason.Spent → ⊥) → (if c then Refused why else o) ≡ Refused reason.Spent → o ≡ Refused reason.Spent
if_spent true why o other s = absurd (other (cc s))
if_spent false why o other s = s

peer_spent : (o : Option Node) (f : Node → Outcome) → from_peer o f ≡ Refused reason.Spent → (p : Node) × (f p ≡ Refused reason.Spent)
peer_spent None f s = cc
peer_spent (Some p) f s = (p, s)

status_spent : (o : Option ℕ) (a : Outcome) → without_status o a ≡ Refused reason.Spent → a ≡ Refused reason.Spent
status_spent None a s = s
status_spent (Some code) a s = cc

name_spent : (c : Bool) → (if c then Accepted else Refused reason.Name) ≡ Refused reason.Spent → ⊥
name_spent true s = cc
name_spent false s = cc

again_spent : (c : Bool) (o : Outcome) → (if c then Answered else o) ≡ Refused reason.Spent → o ≡ Refused reason.Spent
again_spent true o s = cc
again_spent false o s = s

request_spent : (d : Domain) (o : Option Asked) (y : Option Transition) → ft_req_asked d o y ≡ Refused reason.Spent → ⊥
request_spent d None y s = cc
request_spent d (Some a) y s =
    name_spent (is_some (single a.names)) (if_spent (not (is_some (holder_of d a.r0kh_id))) reason.NoHolder _ (λ w. cc w) (again_spent (repeats a y) _ s))

ft_req_spent : (akm : Akm) (d : Domain) (y : Option Transition) (e : ElementFields) → ft_req_verdict_by akm d y e ≡ Refused reason.Spent → ⊥
ft_req_spent Psk d y e s = cc
ft_req_spent PskSha256 d y e s = cc
ft_req_spent FtPsk d y e s = request_spent d (asked e) y (status_spent (mde_status d e.mde) _ (status_spent (rsne_status d e.rsne) _ s))

first_spent : (d : Domain) (first a : ℕ) (h : List Act) (b : Management) (e : ElementFields) → b.kind ≡ kind.FtReq → first_verdict d first (Ap a) h (Managed b e) ≡ Refused reason.Spent → ⊥
first_spent d first a h b e k s =
    let behind = peer_spent (management_sender d (Ap a) b.header) (λ p. management_verdict d (first + draws h) (Ap a) h p b.kind b e) (if_spent (not (is_mine d (Ap a) b.header)) reason.NotForMe _ (λ w. cc w) s) in
    ft_req_spent d.akm d (transition behind.0 h) e (sym (ap (λ (v : Kind). management_verdict d (first + draws h) (Ap a) h behind.0 v b e) k) ∙ behind.1)

refused_why : (w why : Reason) → Refused w ≡ Refused why → w ≡ why
refused_why w why s = cc s

look_is : (p : Node) (b : Management) (e : ElementFields) (why : Reason) (x : Option PmkR1) (a : Asked) (name : List ℕ) (answer : PullAnswer) (rest : List Act) → b.kind ≡ kind.FtReq → asked e ≡ Some a → single a.names ≡ Some name → look_answer why x ≡ Some answer
    → answers (look_of_kind b.kind p e (look_answer why x) ++ rest) ≡ answer ∷ answers rest
look_is p b e why x a name answer rest k asks named is =
    ap (λ (v : Kind). answers (look_of_kind v p e (look_answer why x) ++ rest)) k
    ∙ ap (λ (o : Option PullAnswer). answers (looked_for p (asked e) o ++ rest)) is
    ∙ ap (λ (o : Option Asked). answers (looked_for p o (Some answer) ++ rest)) asks
    ∙ ap (λ (o : Option (List ℕ)). answers (looked_by p a o (Some answer) ++ rest)) named

-- by what was given the request is refused, and the look tells it
pulled_tells : (drawn : ℕ) (x y : Option PmkR1) (why : Reason) → x ≡ y → unless_refused Accepted (pulled_verdict drawn x) ≡ Refused why → (answer : PullAnswer) × ((look_answer why x ≡ Some answer) × (given_first (answer ∷ []) ≡ y))
pulled_tells drawn None y why is s = (Absent, (ap (λ (w : Reason). look_answer w None) (sym (refused_why reason.Name why s)), is))
pulled_tells drawn (Some k) y why is s = by (nat_lt drawn draw_end) s
  where
    by : (c : Bool) → unless_refused Accepted (if c then Accepted else Refused reason.Spent) ≡ Refused why → (answer : PullAnswer) × ((look_answer why (Some k) ≡ Some answer) × (given_first (answer ∷ []) ≡ y))
    by true t = cc
    by false t = (Found k, (ap (λ (w : Reason). look_answer w (Some k)) (sym (refused_why reason.Spent why t)), is))

pub not_repeated : (drawn : ℕ) (o : Option Asked) (a : Asked) (y : Option Transition) (x : Option PmkR1) → o ≡ Some a → repeats a y ≡ false → ft_req_pulled drawn o y x ≡ pulled_verdict drawn x
not_repeated drawn o a y x is again = ap (λ (v : Option Asked). ft_req_pulled drawn v y x) is ∙ rw again refl

kind_free : (k : Kind) → (k ≡ kind.FtReq → ⊥) ⊎ (k ≡ kind.FtReq)
kind_free kind.FtReq = inr refl
kind_free _ = inl (λ e. cc e)

free_or : (r : Reading) → IsFree r ⊎ ((b : Management) × ((e : ElementFields) × ((r ≡ Managed b e) × (b.kind ≡ kind.FtReq))))
free_or (Managed b e) = elim (kind_free b.kind) [ inl other ↦ inl other | inr k ↦ inr (b, (e, (refl, k))) ]
free_or (NoFrame fault) = inl tt
free_or PassedOver = inl tt
free_or (NoElements b fault) = inl tt
free_or (NoKeyFrame header fault) = inl tt
free_or (NoMessage header) = inl tt
free_or (Keyed k) = inl tt
free_or (Sealed header way tid body) = inl tt
free_or (Acting header body) = inl tt

module _ (d : Domain) (first : ℕ) (n : Node) (h : List Act) (octets : List ℕ) (f : Facts) (g : List Act) where
  refusal_free : (r : Reading) (why : Reason) (seal_ : RefusedRow (here d first n) h octets r f g) → seal_.why ≡ why → ((x : Option PmkR1) → verdict d first n h r (with_pulled f x) ≡ Refused why)
      → ((b : Management) (e : ElementFields) (a : ℕ) → n ≡ Ap a → r ≡ Managed b e → b.kind ≡ kind.FtReq → why ≡ reason.Spent → ⊥) → Tells d first n h octets r f g
  refusal_free r why row is all other = inr (λ x. By_refusal (record {
    why = why;
    refused = all x;
    says = row.says
        ∙ ap (λ (w : Reason). Took (sender d n r) octets (kind_of r) (Refused w) (refused_seal d first n h r) ∷ refused_look n (sender d n r) r f.pulled w ++ response d n (sender d n r) (kind_of r) w) is
        ∙ ap (λ (l : List Act). Took (sender d n r) octets (kind_of r) (Refused why) (refused_seal d first n h r) ∷ l ++ response d n (sender d n r) (kind_of r) why) (looks_same n (sender d n r) r why f.pulled x other);
  }))

  refused_ask : (b : Management) (e : ElementFields) (row : RefusedRow (here d first n) h octets (Managed b e) f g) → b.kind ≡ kind.FtReq → first_verdict d first n h (Managed b e) ≡ Accepted → (z : ℕ) → n ≡ Ap z
      → Tells d first n h octets (Managed b e) f g
  refused_ask b e row k is z at =
      let a = asking d first n h b e k (inl is) in
      let t = ft_req_taken d h a.p e (subst (λ (m : Node). IsTaken (management_verdict d (first + draws h) m h a.p kind.FtReq b e)) at a.taken) in
      let accepted : asked_verdict d t.a (repeats t.a (transition a.p h)) ≡ Accepted =
      sym t.verdict_is ∙ sym (ap (λ (m : Node). management_verdict d (first + draws h) m h a.p kind.FtReq b e) at) ∙ sym a.same ∙ is in
      let w = asked_accepted d t.a (repeats t.a (transition a.p h)) accepted in
      let further_is : further d first n h (Managed b e) f ≡ pulled_verdict (first + draws h) f.pulled =
      further_asked d first n h b e f a k ∙ ap (λ (m : Node). management_further d (first + draws h) m h a.p b e f kind.FtReq) at
      ∙ not_repeated (first + draws h) (asked e) t.a (transition a.p h) f.pulled t.asks w.0 in
      let refused : unless_refused Accepted (pulled_verdict (first + draws h) f.pulled) ≡ Refused row.why =
      sym (ap (λ (o : Outcome). and_then o (further d first n h (Managed b e) f)) is ∙ ap (and_then Accepted) further_is) ∙ row.refused in
      let told = pulled_tells (first + draws h) f.pulled f.pulled row.why refl refused in
      let from : sender d n (Managed b e) ≡ Some a.p = sender-some d n a.p b.header (peer_of d n b.header.a2) a.from in
      let rest : List Act = response d n (sender d n (Managed b e)) b.kind row.why in
      inl (
        told.0,
        (
          ap answers row.says
              ∙ ap (λ (m : Node). answers (refused_look m (sender d n (Managed b e)) (Managed b e) f.pulled row.why ++ rest)) at
              ∙ ap (λ (o : Option Node). answers (refused_look (Ap z) o (Managed b e) f.pulled row.why ++ rest)) from
              ∙ look_is a.p b e row.why f.pulled t.a w.1.1.0 told.0 rest k t.asks w.1.1.1 told.1.0
              ∙ ap (λ (l : List PullAnswer). told.0 ∷ l) (answers_response d n (sender d n (Managed b e)) b.kind row.why),
          told.1.1,
        ),
      )

  refusal_tells : (r : Reading) (row : RefusedRow (here d first n) h octets r f g) → Decided (first_verdict d first n h r) → IsFree r ⊎ ((b : Management) × ((e : ElementFields) × ((r ≡ Managed b e) × (b.kind ≡ kind.FtReq)))) → Tells d first n h octets r f g
  refusal_tells r row decided_ (inl free) =
      refusal_free r row.why row refl (λ x. verdict_free d first n h r f x free ∙ row.refused) (λ b e a at is k spent. subst IsFree is free k)
  refusal_tells r row (Thrown w is) (inr x) =
      let same : Refused w ≡ Refused row.why = sym (ap (λ (o : Outcome). and_then o (further d first n h r f)) is) ∙ row.refused in
      refusal_free r row.why row refl (λ y. ap (λ (o : Outcome). and_then o (further d first n h r (with_pulled f y))) is ∙ same)
      (λ b e a at reads k spent. first_spent d first a h b e k (ap (λ (m : Node). first_verdict d first m h (Managed b e)) (sym at) ∙ ap (first_verdict d first n h) (sym reads) ∙ is ∙ same ∙ ap (λ (v : Reason). Refused v) spent))
  refusal_tells r row (Passed is) (inr x) = absurd (cc (sym (ap (λ (o : Outcome). and_then o (further d first n h r f)) is) ∙ row.refused))
  refusal_tells r row (Repeated is) (inr x) =
      absurd (cc (sym (answered_request d first n h x.0 x.1.0 f x.1.1.1 (ap (first_verdict d first n h) (sym x.1.1.0) ∙ is)) ∙ ap (λ (v : Reading). verdict d first n h v f) (sym x.1.1.0) ∙ row.refused))
  refusal_tells r row (Took_in is) (inr x) =
      let first_is : first_verdict d first n h (Managed x.0 x.1.0) ≡ Accepted = ap (first_verdict d first n h) (sym x.1.1.0) ∙ is in
      subst (λ (v : Reading). Tells d first n h octets v f g) (sym x.1.1.0)
      (by n refl (subst (λ (v : Reading). RefusedRow (here d first n) h octets v f g) x.1.1.0 row) first_is)
    where
      by : (m : Node) → n ≡ m → RefusedRow (here d first n) h octets (Managed x.0 x.1.0) f g → first_verdict d first n h (Managed x.0 x.1.0) ≡ Accepted → Tells d first n h octets (Managed x.0 x.1.0) f g
      by (Ap z) at row_ first_is = refused_ask x.0 x.1.0 row_ x.1.1.1 first_is z at
      by (Sta z) at row_ first_is =
          let a = asking d first n h x.0 x.1.0 x.1.1.1 (inl first_is) in
          never reason.Unawaited (subst (λ (m : Node). IsTaken (management_verdict d (first + draws h) m h a.p kind.FtReq x.0 x.1.0)) at a.taken)

  free_verdict : (r : Reading) (o : Outcome) → verdict d first n h r f ≡ o → IsFree r → (x : Option PmkR1) → verdict d first n h r (with_pulled f x) ≡ o
  free_verdict r o is free x = verdict_free d first n h r f x free ∙ is

  pub tells : (r : Reading) → TakeRows (here d first n) h octets r f g → Tells d first n h octets r f g
  tells r (By_assoc_req row) = inr (λ x. By_assoc_req (record { b = row.b; e = row.e; is = row.is; kind_is = row.kind_is; p = row.p; from = row.from; accepted = free_verdict r Accepted row.accepted (free_kind r row.b row.e kind.AssocReq row.is row.kind_is (λ w. cc w)) x; says = row.says }))
  tells r (By_assoc_resp row) = inr (λ x. By_assoc_resp (record { b = row.b; e = row.e; is = row.is; kind_is = row.kind_is; p = row.p; from = row.from; accepted = free_verdict r Accepted row.accepted (free_kind r row.b row.e kind.AssocResp row.is row.kind_is (λ w. cc w)) x; says = row.says }))
  tells r (By_m1 row) = inr (λ x. By_m1 (record { k = row.k; is = row.is; message_is = row.message_is; p = row.p; from = row.from; accepted = free_verdict r Accepted row.accepted (free_key r row.k row.is) x; part = row.part; awaited = row.awaited; i = row.i; inputs_are = row.inputs_are; says = row.says }))
  tells r (By_opening_m1 row) = inr (λ x. By_opening_m1 (record { k = row.k; is = row.is; message_is = row.message_is; p = row.p; from = row.from; accepted = free_verdict r Accepted row.accepted (free_key r row.k row.is) x; none = row.none; i = row.i; inputs_are = row.inputs_are; says = row.says }))
  tells r (By_m2 row) = inr (λ x. By_m2 (record { k = row.k; is = row.is; message_is = row.message_is; p = row.p; from = row.from; accepted = free_verdict r Accepted row.accepted (free_key r row.k row.is) x; part = row.part; awaited = row.awaited; i = row.i; inputs_are = row.inputs_are; says = row.says }))
  tells r (By_m3 row) = inr (λ x. By_m3 (record { k = row.k; is = row.is; message_is = row.message_is; p = row.p; from = row.from; accepted = free_verdict r Accepted row.accepted (free_key r row.k row.is) x; y = row.y; awaited = row.awaited; says = row.says }))
  tells r (By_repeated_m3 row) = inr (λ x. By_repeated_m3 (record { k = row.k; is = row.is; message_is = row.message_is; p = row.p; from = row.from; answered = free_verdict r Answered row.answered (free_key r row.k row.is) x; y = row.y; awaited = row.awaited; says = row.says }))
  tells r (By_m4 row) = inr (λ x. By_m4 (record { k = row.k; is = row.is; message_is = row.message_is; p = row.p; from = row.from; accepted = free_verdict r Accepted row.accepted (free_key r row.k row.is) x; part = row.part; awaited = row.awaited; x = row.x; keyed = row.keyed; says = row.says }))
  tells r (By_g1 row) = inr (λ x. By_g1 (record { k = row.k; is = row.is; message_is = row.message_is; p = row.p; from = row.from; accepted = free_verdict r Accepted row.accepted (free_key r row.k row.is) x; x = row.x; awaited = row.awaited; says = row.says }))
  tells r (By_g2 row) = inr (λ x. By_g2 (record { k = row.k; is = row.is; message_is = row.message_is; p = row.p; from = row.from; accepted = free_verdict r Accepted row.accepted (free_key r row.k row.is) x; x = row.x; awaited = row.awaited; says = row.says }))
  tells r (By_data row) = inr (λ x. By_data (record { header = row.header; way = row.way; tid = row.tid; body = row.body; is = row.is; p = row.p; from = row.from; accepted = free_verdict r Accepted row.accepted (subst IsFree (sym row.is) tt) x; k = row.k; under = row.under; plain = row.plain; opened = row.opened; says = row.says }))
  tells r (By_action row) = inr (λ x. By_action (record { header = row.header; body = row.body; is = row.is; p = row.p; from = row.from; accepted = free_verdict r Accepted row.accepted (subst IsFree (sym row.is) tt) x; k = row.k; under = row.under; says = row.says }))
  tells r (By_ft_req row) = inl (Found row.k, (ap answers row.says ∙ ap (λ (l : List PullAnswer). Found row.k ∷ l) (answers_close row.p (attempt row.p h) _), sym row.pulled))
  tells r (By_repeated_ft_req row) =
      let first_is : first_verdict d first n h (Managed row.b row.e) ≡ Answered = ap (first_verdict d first n h) (sym row.is) ∙ and_answered _ _ row.answered in
      inr (λ x. By_repeated_ft_req (record { b = row.b; e = row.e; is = row.is; kind_is = row.kind_is; p = row.p; from = row.from; answered = ap (λ (v : Reading). verdict d first n h v (with_pulled f x)) row.is ∙ answered_request d first n h row.b row.e (with_pulled f x) row.kind_is first_is; part = row.part; awaited = row.awaited; says = row.says }))
  tells r (By_ft_resp row) = inr (λ x. By_ft_resp (record { b = row.b; e = row.e; is = row.is; kind_is = row.kind_is; p = row.p; from = row.from; accepted = free_verdict r Accepted row.accepted (free_kind r row.b row.e kind.FtResp row.is row.kind_is (λ w. cc w)) x; part = row.part; awaited = row.awaited; f = row.f; fte = row.fte; i = row.i; inputs_are = row.inputs_are; says = row.says }))
  tells r (By_re_req row) = inr (λ x. By_re_req (record { b = row.b; e = row.e; is = row.is; kind_is = row.kind_is; p = row.p; from = row.from; accepted = free_verdict r Accepted row.accepted (free_kind r row.b row.e kind.ReReq row.is row.kind_is (λ w. cc w)) x; y = row.y; awaited = row.awaited; x = row.x; keyed = row.keyed; says = row.says }))
  tells r (By_repeated_re_req row) = inr (λ x. By_repeated_re_req (record { b = row.b; e = row.e; is = row.is; kind_is = row.kind_is; p = row.p; from = row.from; answered = free_verdict r Answered row.answered (free_kind r row.b row.e kind.ReReq row.is row.kind_is (λ w. cc w)) x; y = row.y; awaited = row.awaited; says = row.says }))
  tells r (By_re_resp row) = inr (λ x. By_re_resp (record { b = row.b; e = row.e; is = row.is; kind_is = row.kind_is; p = row.p; from = row.from; accepted = free_verdict r Accepted row.accepted (free_kind r row.b row.e kind.ReResp row.is row.kind_is (λ w. cc w)) x; x = row.x; awaited = row.awaited; says = row.says }))
  tells r (By_ignored row) =
      let first_is : first_verdict d first n h r ≡ Ignored = and_ignored _ (further d first n h r f) row.ignored in
      inr (λ x. By_ignored (record { ignored = ap (λ (o : Outcome). and_then o (further d first n h r (with_pulled f x))) first_is; says = row.says }))
  tells r (By_refusal row) = refusal_tells r row (decided_first d first n h r) (free_or r)

-- so it may be taken to be what the acts tell
pub settled : (d : Domain) (first : ℕ) (n : Node) (h : List Act) (octets : List ℕ) (g : List Act) → TakeRow (here d first n) h octets g → (u : TakeRow (here d first n) h octets g) × (u.facts.pulled ≡ given_first (answers g))
settled d first n h octets g t = elim (tells d first n h octets t.facts g t.r t.row) [
  | inl told ↦ (t, sym told.1.1 ∙ sym (ap given_first told.1.0))
  | inr free ↦ (record { r = t.r; reads = t.reads; facts = with_pulled t.facts (given_first (answers g)); knows = λ far. knows_from d n h t.r t.facts (given_first (answers g)) (t.knows far); row = free (given_first (answers g)) }, refl)
]

-- where another answer was given the acts are others only with one look
pub freed : (d : Domain) (first : ℕ) (n : Node) (h : List Act) (octets : List ℕ) (g : List Act) (t : TakeRow (here d first n) h octets g) → LooksOnce g t.facts.pulled ⊎ ((x : Option PmkR1) → (u : TakeRow (here d first n) h octets g) × (u.facts.pulled ≡ x))
freed d first n h octets g t = elim (tells d first n h octets t.facts g t.r t.row) [
  | inl told ↦ inl told
  | inr free ↦ inr (λ x. (record { r = t.r; reads = t.reads; facts = with_pulled t.facts x; knows = λ far. knows_from d n h t.r t.facts x (t.knows far); row = free x }, refl))
]

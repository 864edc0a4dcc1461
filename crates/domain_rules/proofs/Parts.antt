-- What one more act does to the questions that are asked of a history, and what a group of acts does.
use Rattle.std.proofs.Common.{◌≡◌, ◌⊎◌, ℕ, suc, ◌+◌, Bool, true, false, cond, List, [], ◌∷◌, ◌++◌, Option, Some, None, refl, sym, ap, subst, ◌∙◌, arith, inl, inr}
use Rattle.std.specs.List.{AllByRecursion}
use Rattle.std.proofs.lemmas.Bool.{eqb-true, eq-eqb, cases_Bool}
use Rattle.domain_base.specs.declared.names.Node.{Node}
use Rattle.domain_base.specs.declared.names.Node.TheVariants.{Ap, Sta}
use Rattle.domain_base.specs.declared.names.Peer.{Peer}
use Rattle.domain_base.specs.declared.names.Peer.TheVariants.{One, All}
use Rattle.eapol_key.specs.declared.messages.Message.{Message}
use Rattle.key_hierarchy.specs.declared.inputs.Inputs.{Inputs}
use Rattle.key_hierarchy.specs.declared.inputs.Ptk.{Ptk}
use Rattle.run_journal.specs.declared.acts.Start.{Start}
use Rattle.run_journal.specs.declared.acts.Start.TheVariants.{Connect, Roam, Renew}
use Rattle.run_journal.specs.declared.acts.Part.TheVariants.{Attempt, Session}
use Rattle.run_journal.specs.declared.acts.Drawn.{Drawn}
use Rattle.run_journal.specs.declared.acts.Kind.{Kind}
use Rattle.run_journal.specs.declared.acts.Kind.TheVariants as kind
use Rattle.run_journal.specs.declared.acts.Reason.{Reason}
use Rattle.run_journal.specs.declared.acts.Why.{Why}
use Rattle.run_journal.specs.declared.acts.Outcome.{Outcome}
use Rattle.run_journal.specs.declared.acts.Outcome.TheVariants.{Accepted, Answered, Ignored, Refused}
use Rattle.run_journal.specs.declared.acts.Seal.{Seal}
use Rattle.run_journal.specs.declared.acts.Act.{Act}
use Rattle.run_journal.specs.declared.acts.Act.TheVariants.{Opened, Closed, Drew, Derived, Sent, Took, Finished, Idle}
use Rattle.run_journal.specs.Acts.{same, is_one, is_from, same_kind, kind_number, opens, begins, ends, closes, finishes, nonce_drawn, Derivation, derived, accepted, replied, sent}
use Rattle.run_journal.specs.Questions.{also, attempt, since, chain, own_nonce, derivation, session, pending, associated, heard, all_replied, all_sent, is_draw, draws, add}
use Rattle.run_journal.specs.Premises.{In}
use Rattle.domain_rules.specs.Asking.{start_in, start_of, is_renewal, is_by_renewal, in_renewal, session_start}
use Rattle.domain_rules.specs.AccessPointKeys.{origin, session_origin, chain_origin, request}

-- ---- nodes and kinds

pub same-true : (p q : Node) → same p q ≡ true → p ≡ q
same-true (Ap k) (Ap m) e = ap Ap (eqb-true k m e)
same-true (Sta k) (Sta m) e = ap Sta (eqb-true k m e)
same-true (Ap k) (Sta m) e = cc
same-true (Sta k) (Ap m) e = cc

pub same-refl : (p : Node) → same p p ≡ true
same-refl (Ap k) = eq-eqb k k refl
same-refl (Sta k) = eq-eqb k k refl

pub same-other : (p q : Node) → (p ≡ q → ⊥) → same p q ≡ false
same-other p q other = elim (cases_Bool (same p q)) [ inl is ↦ absurd (other (same-true p q is)) | inr none ↦ none ]

pub same-false : (p q : Node) → same p q ≡ false → p ≡ q → ⊥
same-false p q none is = let here : same p q ≡ true = subst (λ (x : Node). same p x ≡ true) is (same-refl p) in cc (none, here)

pub is_same : (p q : Node) → (p ≡ q) ⊎ (same p q ≡ false)
is_same p q = elim (cases_Bool (same p q)) [ inl is ↦ inl (same-true p q is) | inr none ↦ inr none ]

pub same_kind-refl : (k : Kind) → same_kind k k ≡ true
same_kind-refl k = eq-eqb (kind_number k) (kind_number k) refl

-- ---- the attempt

-- how it goes on by one act
pub data Grows (p : Node) (e : Act) (h part : List Act) : Type 0 where
  Begins : opens p e ≡ true → part ≡ e ∷ [] → Grows p e h part
  Goes_on : (old : List Act) → opens p e ≡ false → ends p e ≡ false → attempt p h ≡ Some old → part ≡ e ∷ old → Grows p e h part

grows_also : (p : Node) (e : Act) (h part : List Act) → opens p e ≡ false → ends p e ≡ false → (o : Option (List Act)) → attempt p h ≡ o → also e o ≡ Some part → Grows p e h part
grows_also p e h part o n None is s = cc
grows_also p e h part o n (Some old) is s = Goes_on old o n is (cc)

grows_by : (p : Node) (e : Act) (h part : List Act) (b c : Bool) → opens p e ≡ b → ends p e ≡ c → cond b (Some (e ∷ [])) (cond c None (also e (attempt p h))) ≡ Some part → Grows p e h part
grows_by p e h part true c o n s = Begins o (cc)
grows_by p e h part false true o n s = cc
grows_by p e h part false false o n s = grows_also p e h part o n (attempt p h) refl s

pub grows : (p : Node) (e : Act) (h part : List Act) → attempt p (e ∷ h) ≡ Some part → Grows p e h part
grows p e h part s = grows_by p e h part (opens p e) (ends p e) refl refl s

-- ---- the part of an attempt is the history since it began

since_grows : (p : Node) (e : Act) (h part : List Act) → ((old : List Act) → attempt p h ≡ Some old → since p h ≡ old) → Grows p e h part → since p (e ∷ h) ≡ part
since_grows p e h part more (Begins o is) = rw o (sym is)
since_grows p e h part more (Goes_on old o n was is) = rw o (ap (λ (l : List Act). e ∷ l) (more old was) ∙ sym is)

pub since_part : (p : Node) (h part : List Act) → attempt p h ≡ Some part → since p h ≡ part
since_part p [] part s = cc
since_part p (e ∷ h) part s = since_grows p e h part (λ old was. since_part p h old was) (grows p e h part s)

-- ---- and the chain, where it does not renew the key of a session

pub begins_by : (p : Node) (e : Act) → opens p e ≡ true → is_renewal (start_in e) ≡ false → begins p e ≡ true
begins_by p (Opened q Connect) o other = o
begins_by p (Opened q Roam) o other = o
begins_by p (Opened q Renew) o other = absurd (cc other)
begins_by p _ o other = absurd (cc o)

pub begins_none : (p : Node) (e : Act) → opens p e ≡ false → begins p e ≡ false
begins_none p (Opened q Connect) o = o
begins_none p (Opened q Roam) o = o
begins_none p (Opened q Renew) o = refl
begins_none p _ o = refl

pub chain_more : (p : Node) (e : Act) (h : List Act) → begins p e ≡ false → chain p (e ∷ h) ≡ e ∷ chain p h
chain_more p e h b = rw b refl

older_start : (e : Act) (part : List Act) → is_by_renewal (e ∷ part) ≡ false → is_by_renewal part ≡ false
older_start e [] other = refl
older_start e (f ∷ part) other = other

chain_by : (p : Node) (e : Act) (h : List Act) → (is_by_renewal (since p h) ≡ false → chain p h ≡ since p h) → (b : Bool) → opens p e ≡ b → is_by_renewal (cond b (e ∷ []) (e ∷ since p h)) ≡ false → chain p (e ∷ h) ≡ cond b (e ∷ []) (e ∷ since p h)
chain_by p e h more true o other = rw (begins_by p e o other) refl
chain_by p e h more false o other = chain_more p e h (begins_none p e o) ∙ ap (λ (l : List Act). e ∷ l) (more (older_start e (since p h) other))

pub chain_since : (p : Node) (h : List Act) → is_by_renewal (since p h) ≡ false → chain p h ≡ since p h
chain_since p [] other = refl
chain_since p (e ∷ h) other = chain_by p e h (chain_since p h) (opens p e) refl other

pub chain_part : (p : Node) (h part : List Act) → attempt p h ≡ Some part → is_by_renewal part ≡ false → chain p h ≡ part
chain_part p h part is other = chain_since p h (ap is_by_renewal (since_part p h part is) ∙ other) ∙ since_part p h part is

-- the other way round
pub attempt_begins : (p : Node) (e : Act) (h : List Act) → opens p e ≡ true → attempt p (e ∷ h) ≡ Some (e ∷ [])
attempt_begins p e h o = rw o refl

pub attempt_goes : (p : Node) (e : Act) (h : List Act) → opens p e ≡ false → ends p e ≡ false → attempt p (e ∷ h) ≡ also e (attempt p h)
attempt_goes p e h o n = rw (o, n) refl

pub attempt_more : (p : Node) (e : Act) (h part : List Act) → opens p e ≡ false → ends p e ≡ false → attempt p h ≡ Some part → attempt p (e ∷ h) ≡ Some (e ∷ part)
attempt_more p e h part o n s = rw (o, n, s) refl

pub attempt_ends : (p : Node) (e : Act) (h : List Act) → opens p e ≡ false → ends p e ≡ true → attempt p (e ∷ h) ≡ None
attempt_ends p e h o n = rw (o, n) refl

none_by : (e : Act) (b : Bool) (o : Option (List Act)) → o ≡ None → cond b None (also e o) ≡ None
none_by e true o s = refl
none_by e false o s = rw s refl

pub attempt_none : (p : Node) (e : Act) (h : List Act) → opens p e ≡ false → attempt p h ≡ None → attempt p (e ∷ h) ≡ None
attempt_none p e h o s = rw o (none_by e (ends p e) (attempt p h) s)

-- it has its Opened at least
pub attempt_some : (p : Node) (h part : List Act) → attempt p h ≡ Some part → part ≡ [] → ⊥
attempt_some p [] part s none = cc
attempt_some p (e ∷ h) part s none = elim (grows p e h part s) [ Begins o is ↦ cc (is, none) | Goes_on old o n was is ↦ cc (is, none) ]

in_part_by : (p : Node) (e : Act) (h part : List Act) (x : Act) → Grows p e h part → ((old : List Act) → attempt p h ≡ Some old → In x old → In x h) → In x part → In x (e ∷ h)
in_part_by p e h part x (Begins o is) more there = elim (subst (λ (l : List Act). In x l) is there) [ inl here ↦ inl here | inr none ↦ absurd none ]
in_part_by p e h part x (Goes_on old o n s is) more there = elim (subst (λ (l : List Act). In x l) is there) [ inl here ↦ inl here | inr later ↦ inr (more old s later) ]

-- what stands in it stands in the history
pub in_part : (p : Node) (h part : List Act) (x : Act) → attempt p h ≡ Some part → In x part → In x h
in_part p [] part x s there = cc
in_part p (e ∷ h) part x s there = in_part_by p e h part x (grows p e h part s) (λ old was. in_part p h old x was) there

-- how it began stays
pub start_more : (e : Act) (part : List Act) → (part ≡ [] → ⊥) → start_of (e ∷ part) ≡ start_of part
start_more e [] some = absurd (some refl)
start_more e (f ∷ part) some = refl

-- and it began in some way
opens_start : (p : Node) (e : Act) → opens p e ≡ true → (s : Start) × (start_in e ≡ Some s)
opens_start p (Opened q s) is = (s, refl)
opens_start p _ is = absurd (cc is)

start_by : (p : Node) (e : Act) (h part : List Act) → Grows p e h part → ((old : List Act) → attempt p h ≡ Some old → (s : Start) × (start_of old ≡ Some s)) → (s : Start) × (start_of part ≡ Some s)
start_by p e h part (Begins opened is) more = let w = opens_start p e opened in (w.0, ap start_of is ∙ w.1)
start_by p e h part (Goes_on old opened ended was is) more = let w = more old was in (w.0, ap start_of is ∙ start_more e old (attempt_some p h old was) ∙ w.1)

pub attempt_start : (p : Node) (h part : List Act) → attempt p h ≡ Some part → (s : Start) × (start_of part ≡ Some s)
attempt_start p [] part is = absurd (cc is)
attempt_start p (e ∷ h) part is = start_by p e h part (grows p e h part is) (attempt_start p h)

-- ---- the history before its Opened, and the request that was accepted there

origin_more : (p : Node) (e : Act) (h : List Act) → opens p e ≡ false → origin p (e ∷ h) ≡ origin p h
origin_more p e h s = rw s refl

renewal_also : (p : Node) (e : Act) (h : List Act) (o : Option (List Act)) → attempt p h ≡ o → in_renewal (also e o) ≡ in_renewal o
renewal_also p e h None is = refl
renewal_also p e h (Some part) is = ap is_renewal (start_more e part (attempt_some p h part is))

-- whether the attempt renews a key stays
pub renewal_more : (p : Node) (e : Act) (h : List Act) → opens p e ≡ false → ends p e ≡ false → in_renewal (attempt p (e ∷ h)) ≡ in_renewal (attempt p h)
renewal_more p e h o n = ap in_renewal (attempt_goes p e h o n) ∙ renewal_also p e h (attempt p h) refl

pub session_origin_more : (p : Node) (e : Act) (h : List Act) → finishes p e ≡ false → session_origin p (e ∷ h) ≡ session_origin p h
session_origin_more p e h f = rw f refl

chain_origin_more : (p : Node) (e : Act) (h : List Act) → opens p e ≡ false → ends p e ≡ false → finishes p e ≡ false → chain_origin p (e ∷ h) ≡ chain_origin p h
chain_origin_more p e h o n f =
    ap (λ (b : Bool). cond b (session_origin p (e ∷ h)) (origin p (e ∷ h))) (renewal_more p e h o n)
    ∙ ap (λ (l : List Act). cond (in_renewal (attempt p h)) l (origin p (e ∷ h))) (session_origin_more p e h f)
    ∙ ap (λ (l : List Act). cond (in_renewal (attempt p h)) (session_origin p h) l) (origin_more p e h o)

pub request_more : (p : Node) (e : Act) (h : List Act) → opens p e ≡ false → ends p e ≡ false → finishes p e ≡ false → request p (e ∷ h) ≡ request p h
request_more p e h o n f = ap (heard p kind.AssocReq) (chain_origin_more p e h o n f)

pub request_opened : (p : Node) (e : Act) (h : List Act) → begins p e ≡ true → request p (e ∷ h) ≡ heard p kind.AssocReq h
request_opened p (Opened q Connect) h s = let at : same p q ≡ true = s in rw at refl
request_opened p (Opened q Roam) h s = let at : same p q ≡ true = s in rw at refl
request_opened p (Opened q Renew) h s = absurd (cc s)
request_opened p _ h s = absurd (cc s)

-- ---- its nonce

pub own_nonce_more : (e : Act) (part : List Act) (v : List ℕ) → own_nonce part ≡ Some v → own_nonce (e ∷ part) ≡ Some v
own_nonce_more e part v s = rw s refl

pub own_nonce_first : (e : Act) (part : List Act) → own_nonce part ≡ None → own_nonce (e ∷ part) ≡ nonce_drawn e
own_nonce_first e part s = rw s refl

-- ---- what was heard, replied to, sent, and derived

pub heard_more : (p : Node) (k : Kind) (e : Act) (h : List Act) → accepted p k e ≡ None → heard p k (e ∷ h) ≡ heard p k h
heard_more p k e h s = rw s refl

pub heard_new : (p : Node) (k : Kind) (e : Act) (h : List Act) (octets : List ℕ) → accepted p k e ≡ Some octets → heard p k (e ∷ h) ≡ Some octets
heard_new p k e h octets s = rw s refl

pub replied_more : (p : Node) (k : Kind) (e : Act) (h : List Act) → replied p k e ≡ None → all_replied p k (e ∷ h) ≡ all_replied p k h
replied_more p k e h s = rw s refl

pub replied_new : (p : Node) (k : Kind) (e : Act) (h : List Act) (octets : List ℕ) → replied p k e ≡ Some octets → all_replied p k (e ∷ h) ≡ octets ∷ all_replied p k h
replied_new p k e h octets s = rw s refl

pub sent_more : (p : Node) (k : Kind) (e : Act) (h : List Act) → sent p k e ≡ None → all_sent p k (e ∷ h) ≡ all_sent p k h
sent_more p k e h s = rw s refl

pub sent_new : (p : Node) (k : Kind) (e : Act) (h : List Act) (octets : List ℕ) → sent p k e ≡ Some octets → all_sent p k (e ∷ h) ≡ octets ∷ all_sent p k h
sent_new p k e h octets s = rw s refl

pub derivation_more : (p : Node) (e : Act) (h : List Act) → derived p e ≡ None → derivation p (e ∷ h) ≡ derivation p h
derivation_more p e h s = rw s refl

pub derivation_new : (p : Node) (e : Act) (h : List Act) (k : Derivation) → derived p e ≡ Some k → derivation p (e ∷ h) ≡ Some k
derivation_new p e h k s = rw s refl

pub session_more : (p : Node) (e : Act) (h : List Act) → finishes p e ≡ false → closes p e ≡ false → session p (e ∷ h) ≡ session p h
session_more p e h f c = rw (f, c) refl

pub started_more : (p : Node) (e : Act) (h : List Act) → finishes p e ≡ false → closes p e ≡ false → session_start p (e ∷ h) ≡ session_start p h
started_more p e h f c = rw (f, c) refl

-- ---- how many values were drawn

pub draws_more : (e : Act) (h : List Act) → is_draw e ≡ false → draws (e ∷ h) ≡ draws h
draws_more e h s = rw s refl

pub draws_new : (v : Drawn) (h : List Act) → draws (Drew v ∷ h) ≡ suc (draws h)
draws_new v h = refl

draws_by : (b : Bool) (n m : ℕ) → n + cond b (suc m) m ≡ cond b (suc n) n + m
draws_by true n m = omega arith
draws_by false n m = refl

pub draws_add : (g h : List Act) → draws (add g h) ≡ draws g + draws h
draws_add [] h = omega arith
draws_add (e ∷ g) h = draws_add g (e ∷ h) ∙ draws_by (is_draw e) (draws g) (draws h)

pub add_append : (f g h : List Act) → add (f ++ g) h ≡ add g (add f h)
add_append [] g h = refl
add_append (e ∷ f) g h = add_append f g (e ∷ h)

-- ---- whom a station has an attempt and a session with

abbrev pub leaves_pending : Act → Bool
leaves_pending (Opened p s) = false
leaves_pending (Closed p Attempt) = false
leaves_pending (Finished p i) = false
leaves_pending _ = true

abbrev pub leaves_associated : Act → Bool
leaves_associated (Closed p Session) = false
leaves_associated (Finished p i) = false
leaves_associated _ = true

pub pending_more : (e : Act) (h : List Act) → leaves_pending e ≡ true → pending (e ∷ h) ≡ pending h
pending_more (Opened p s) h l = cc
pending_more (Closed p Attempt) h l = cc
pending_more (Finished p i) h l = cc
pending_more _ h l = refl

pub associated_more : (e : Act) (h : List Act) → leaves_associated e ≡ true → associated (e ∷ h) ≡ associated h
associated_more (Closed p Session) h l = cc
associated_more (Finished p i) h l = cc
associated_more _ h l = refl

pub pending_add : (g h : List Act) → AllByRecursion (λ e. leaves_pending e ≡ true) g → pending (add g h) ≡ pending h
pending_add [] h all = refl
pending_add (e ∷ g) h all = pending_add g (e ∷ h) all.1 ∙ pending_more e h all.0

pub associated_add : (g h : List Act) → AllByRecursion (λ e. leaves_associated e ≡ true) g → associated (add g h) ≡ associated h
associated_add [] h all = refl
associated_add (e ∷ g) h all = associated_add g (e ∷ h) all.1 ∙ associated_more e h all.0

-- ---- acts that are not about a node

-- no test on the act finds that node in it
pub record IsApart (p : Node) (e : Act) : Type 0 where
  pub opens_none : opens p e ≡ false
  pub ends_none : ends p e ≡ false
  pub accepts_none : (k : Kind) → accepted p k e ≡ None
  pub replies_none : (k : Kind) → replied p k e ≡ None
  pub sends_none : (m : Message) → sent p (kind.Key m) e ≡ None
  pub derives_none : derived p e ≡ None
  pub finishes_none : finishes p e ≡ false
  pub closes_none : closes p e ≡ false

pub apart-opened : (p q : Node) (s : Start) → same p q ≡ false → IsApart p (Opened q s)
apart-opened p q s other = record { opens_none = other; ends_none = refl; accepts_none = λ k. refl; replies_none = λ k. refl; sends_none = λ m. refl; derives_none = refl; finishes_none = refl; closes_none = refl }

-- at an access point attempts end one by one
pub apart-closed : (sta : ℕ) (q : Node) → same (Sta sta) q ≡ false → IsApart (Sta sta) (Closed q Attempt)
apart-closed sta q other = record { opens_none = refl; ends_none = other; accepts_none = λ k. refl; replies_none = λ k. refl; sends_none = λ m. refl; derives_none = refl; finishes_none = refl; closes_none = refl }

pub apart-closed_session : (p q : Node) → same p q ≡ false → IsApart p (Closed q Session)
apart-closed_session p q other = record { opens_none = refl; ends_none = refl; accepts_none = λ k. refl; replies_none = λ k. refl; sends_none = λ m. refl; derives_none = refl; finishes_none = refl; closes_none = other }

pub apart-drew : (p : Node) (v : Drawn) → IsApart p (Drew v)
apart-drew p v = record { opens_none = refl; ends_none = refl; accepts_none = λ k. refl; replies_none = λ k. refl; sends_none = λ m. refl; derives_none = refl; finishes_none = refl; closes_none = refl }

pub apart-derived : (p q : Node) (i : Inputs) (k : Ptk) → same p q ≡ false → IsApart p (Derived q i k)
apart-derived p q i k other = record { opens_none = refl; ends_none = refl; accepts_none = λ k. refl; replies_none = λ k. refl; sends_none = λ m. refl; derives_none = rw other refl; finishes_none = refl; closes_none = refl }

-- frames to another node
pub apart-sent : (p q : Node) (k : Kind) (octets : List ℕ) (s : Option Seal) → same p q ≡ false → IsApart p (Sent (One q) k octets s)
apart-sent p q k octets s other = record { opens_none = refl; ends_none = refl; accepts_none = λ k. refl; replies_none = λ k. refl; sends_none = λ m. rw other refl; derives_none = refl; finishes_none = refl; closes_none = refl }

pub apart-sent_all : (p : Node) (k : Kind) (octets : List ℕ) (s : Option Seal) → IsApart p (Sent All k octets s)
apart-sent_all p k octets s = record { opens_none = refl; ends_none = refl; accepts_none = λ k. refl; replies_none = λ k. refl; sends_none = λ m. refl; derives_none = refl; finishes_none = refl; closes_none = refl }

-- and frames other than EAPOL-Key frames
pub apart-sent_kind : (p : Node) (q : Peer) (k : Kind) (octets : List ℕ) (s : Option Seal) → ((m : Message) → same_kind (kind.Key m) k ≡ false) → IsApart p (Sent q k octets s)
apart-sent_kind p q k octets s other = record { opens_none = refl; ends_none = refl; accepts_none = λ k. refl; replies_none = λ k. refl; sends_none = λ m. no_sent (is_one p q) (other m); derives_none = refl; finishes_none = refl; closes_none = refl }
  where
    no_sent : (b : Bool) {c : Bool} → c ≡ false → cond b (cond c (Some octets) None) None ≡ None
    no_sent true e = rw e refl
    no_sent false e = refl

not_accepted : (p : Node) (k : Kind) (from : Option Node) (octets : List ℕ) (m : Kind) (o : Outcome) (s : Option Seal) → is_from p from ≡ false → accepted p k (Took from octets m o s) ≡ None
not_accepted p k from octets m Accepted s other = rw other refl
not_accepted p k from octets m _ s other = refl

not_replied : (p : Node) (k : Kind) (from : Option Node) (octets : List ℕ) (m : Kind) (o : Outcome) (s : Option Seal) → is_from p from ≡ false → replied p k (Took from octets m o s) ≡ None
not_replied p k from octets m Accepted s other = rw other refl
not_replied p k from octets m Answered s other = rw other refl
not_replied p k from octets m _ s other = refl

-- frames from another node
pub apart-took : (p : Node) (from : Option Node) (octets : List ℕ) (k : Kind) (o : Outcome) (s : Option Seal) → is_from p from ≡ false → IsApart p (Took from octets k o s)
apart-took p from octets k o s other = record { opens_none = refl; ends_none = refl; accepts_none = λ m. not_accepted p m from octets k o s other; replies_none = λ m. not_replied p m from octets k o s other; sends_none = λ m. refl; derives_none = refl; finishes_none = refl; closes_none = refl }

-- what was refused or ignored
pub apart-refused : (p : Node) (from : Option Node) (octets : List ℕ) (k : Kind) (why : Reason) (s : Option Seal) → IsApart p (Took from octets k (Refused why) s)
apart-refused p from octets k why s = record { opens_none = refl; ends_none = refl; accepts_none = λ k. refl; replies_none = λ k. refl; sends_none = λ m. refl; derives_none = refl; finishes_none = refl; closes_none = refl }

pub apart-ignored : (p : Node) (from : Option Node) (octets : List ℕ) (k : Kind) (s : Option Seal) → IsApart p (Took from octets k Ignored s)
apart-ignored p from octets k s = record { opens_none = refl; ends_none = refl; accepts_none = λ k. refl; replies_none = λ k. refl; sends_none = λ m. refl; derives_none = refl; finishes_none = refl; closes_none = refl }

pub apart-idle : (p : Node) (w : Why) → IsApart p (Idle w)
apart-idle p w = record { opens_none = refl; ends_none = refl; accepts_none = λ k. refl; replies_none = λ k. refl; sends_none = λ m. refl; derives_none = refl; finishes_none = refl; closes_none = refl }

-- ---- after acts that are not about it nothing is changed for a node

-- the attempt goes on
pub record IsCarried (p : Node) (part new : List Act) : Type 0 where
  pub more : List Act
  pub is : attempt p new ≡ Some more
  pub begun : start_of more ≡ start_of part
  pub nonce : (v : List ℕ) → own_nonce part ≡ Some v → own_nonce more ≡ Some v
  pub hears : (k : Kind) → heard p k more ≡ heard p k part
  pub replies : (k : Kind) → all_replied p k more ≡ all_replied p k part
  pub sends : (m : Message) → all_sent p (kind.Key m) more ≡ all_sent p (kind.Key m) part
  pub derives : derivation p more ≡ derivation p part

pub record GoesOn (p : Node) (old new : List Act) : Type 0 where
  pub carries : (part : List Act) → attempt p old ≡ Some part → IsCarried p part new
  pub none : attempt p old ≡ None → attempt p new ≡ None
  pub hears : (k : Kind) → heard p k new ≡ heard p k old
  pub replies : (k : Kind) → all_replied p k new ≡ all_replied p k old
  pub sends : (m : Message) → all_sent p (kind.Key m) new ≡ all_sent p (kind.Key m) old
  pub derives : derivation p new ≡ derivation p old
  pub has : session p new ≡ session p old
  pub requests : request p new ≡ request p old
  pub started : session_start p new ≡ session_start p old

carried_one : (p : Node) (e : Act) (h part : List Act) → IsApart p e → attempt p h ≡ Some part → IsCarried p part (e ∷ h)
carried_one p e h part apart is = record {
  more = e ∷ part;
  is = attempt_more p e h part apart.opens_none apart.ends_none is;
  begun = start_more e part (attempt_some p h part is);
  nonce = own_nonce_more e part;
  hears = λ k. heard_more p k e part (apart.accepts_none k);
  replies = λ k. replied_more p k e part (apart.replies_none k);
  sends = λ m. sent_more p (kind.Key m) e part (apart.sends_none m);
  derives = derivation_more p e part apart.derives_none;
}

goes_on_one : (p : Node) (e : Act) (h : List Act) → IsApart p e → GoesOn p h (e ∷ h)
goes_on_one p e h apart = record {
  carries = λ part is. carried_one p e h part apart is;
  none = attempt_none p e h apart.opens_none;
  hears = λ k. heard_more p k e h (apart.accepts_none k);
  replies = λ k. replied_more p k e h (apart.replies_none k);
  sends = λ m. sent_more p (kind.Key m) e h (apart.sends_none m);
  derives = derivation_more p e h apart.derives_none;
  has = session_more p e h apart.finishes_none apart.closes_none;
  requests = request_more p e h apart.opens_none apart.ends_none apart.finishes_none;
  started = started_more p e h apart.finishes_none apart.closes_none;
}

pub goes_on_none : (p : Node) (h : List Act) → GoesOn p h h
goes_on_none p h = record {
  carries = λ part is. (record { more = part; is = is; begun = refl; nonce = λ v s. s; hears = λ k. refl; replies = λ k. refl; sends = λ m. refl; derives = refl });
  none = λ s. s;
  hears = λ k. refl;
  replies = λ k. refl;
  sends = λ m. refl;
  derives = refl;
  has = refl;
  requests = refl;
  started = refl;
}

carried_on : (p : Node) (part mid new : List Act) (old : IsCarried p part mid) → IsCarried p old.more new → IsCarried p part new
carried_on p part mid new old last = record {
  more = last.more;
  is = last.is;
  begun = last.begun ∙ old.begun;
  nonce = λ v s. last.nonce v (old.nonce v s);
  hears = λ k. last.hears k ∙ old.hears k;
  replies = λ k. last.replies k ∙ old.replies k;
  sends = λ m. last.sends m ∙ old.sends m;
  derives = last.derives ∙ old.derives;
}

pub goes_on_then : (p : Node) (old mid new : List Act) → GoesOn p old mid → GoesOn p mid new → GoesOn p old new
goes_on_then p old mid new first last = record {
  carries = λ part is. (let c = first.carries part is in carried_on p part mid new c (last.carries c.more c.is));
  none = λ s. last.none (first.none s);
  hears = λ k. last.hears k ∙ first.hears k;
  replies = λ k. last.replies k ∙ first.replies k;
  sends = λ m. last.sends m ∙ first.sends m;
  derives = last.derives ∙ first.derives;
  has = last.has ∙ first.has;
  requests = last.requests ∙ first.requests;
  started = last.started ∙ first.started;
}

pub goes_on : (p : Node) (g h : List Act) → AllByRecursion (IsApart p) g → GoesOn p h (add g h)
goes_on p [] h all = goes_on_none p h
goes_on p (e ∷ g) h all = goes_on_then p h (e ∷ h) (add g (e ∷ h)) (goes_on_one p e h all.0) (goes_on p g (e ∷ h) all.1)

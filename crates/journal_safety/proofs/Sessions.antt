-- What is so of sessions in a history where each act was legal.
use Rattle.std.proofs.Common.{ℕ, ◌≡◌, ◌⊎◌, inl, inr, Bool, true, false, not, cond, List, [], ◌∷◌, Some, None, is_some, refl, sym, ap, ◌∙◌, subst}
use Rattle.domain_base.specs.declared.names.Node.{Node}
use Rattle.domain_base.specs.declared.names.Node.TheVariants.{Ap, Sta}
use Rattle.domain_base.specs.declared.names.Peer.TheVariants.{One, All}
use Rattle.eapol_key.specs.declared.messages.Message.{Message}
use Rattle.eapol_key.specs.declared.messages.Message.TheVariants.{M1, M2, M3, M4, G1, G2}
use Rattle.key_hierarchy.specs.Keys.{ptk}
use Rattle.key_hierarchy.specs.declared.inputs.Inputs.{Inputs}
use Rattle.key_hierarchy.specs.declared.inputs.Ptk.{Ptk}
use Rattle.run_journal.specs.declared.domain.Domain.{Domain}
use Rattle.run_journal.specs.declared.acts.Part.TheVariants.{Session}
use Rattle.run_journal.specs.declared.acts.Kind.{Kind}
use Rattle.run_journal.specs.declared.acts.Kind.TheVariants as kind
use Rattle.run_journal.specs.declared.acts.Act.{Act}
use Rattle.run_journal.specs.declared.acts.Act.TheVariants.{Opened, Closed, Derived, Sent, Finished}
use Rattle.run_journal.specs.Acts.{same, same_kind, ends, finishes, closes, sent, Derivation}
use Rattle.run_journal.specs.Questions.{attempt, derivation, session, associated}
use Rattle.run_journal.specs.Premises.{In}
use Rattle.domain_rules.specs.Network.{is_ap, renews}
use Rattle.domain_rules.specs.Frames.{keyed_by}
use Rattle.run_journal.specs.declared.acts.Start.{Start}
use Rattle.run_journal.specs.declared.acts.Start.TheVariants.{Connect, Roam, Renew}
use Rattle.domain_rules.specs.Asking.{is_connect, by_connect, is_renewal, is_by_renewal}
use Rattle.domain_rules.proofs.Parts.{same-true, same-refl, Grows, Begins, Goes_on, grows, start_more, attempt_some}
use Rattle.journal_safety.proofs.Legal.{derives, LegalDerived, Verified, Sends, LegalKind, LegalFinished, LegalRenewal, LegalOpened, Legal, LegalHistory, verified_more}
use Rattle.journal_safety.proofs.Histories.{legal_in, opens-is, session_in, derived_key}

-- ---- what an act is by the tests on it

pub finishes-is : (p : Node) (e : Act) → finishes p e ≡ true → (i : Inputs) × (e ≡ Finished p i)
finishes-is p (Finished q i) o = (i, ap (λ (x : Node). Finished x i) (sym (same-true p q o)))
finishes-is p _ o = cc

pub same_kind-is : (m : Message) (k : Kind) → same_kind (kind.Key m) k ≡ true → k ≡ kind.Key m
same_kind-is M1 (kind.Key M1) e = refl
same_kind-is M1 _ e = cc
same_kind-is M2 (kind.Key M2) e = refl
same_kind-is M2 _ e = cc
same_kind-is M3 (kind.Key M3) e = refl
same_kind-is M3 _ e = cc
same_kind-is M4 (kind.Key M4) e = refl
same_kind-is M4 _ e = cc
same_kind-is G1 (kind.Key G1) e = refl
same_kind-is G1 _ e = cc
same_kind-is G2 (kind.Key G2) e = refl
same_kind-is G2 _ e = cc

-- what was sent to p as that message might be
kind_by : (d : Domain) (n p : Node) (h : List Act) (m : Message) (q : Node) (k : Kind) (octets : List ℕ) → LegalKind d n h (One q) k → (b c : Bool) → same p q ≡ b → same_kind (kind.Key m) k ≡ c → is_some (cond b (cond c (Some octets) None) None) ≡ true → Sends d n h p m
kind_by d n p h m q k octets l true true s is e = subst (λ (x : Node). LegalKind d n h (One x) (kind.Key m)) (sym (same-true p q s)) (subst (λ (x : Kind). LegalKind d n h (One q) x) (same_kind-is m k is) l)
kind_by d n p h m q k octets l true false s is e = cc
kind_by d n p h m q k octets l false c s is e = cc

pub sends_by : (d : Domain) (n p : Node) (e : Act) (h : List Act) (m : Message) → Legal d n h e → is_some (sent p (kind.Key m) e) ≡ true → Sends d n h p m
sends_by d n p (Sent (One q) k octets s) h m legal e = kind_by d n p h m q k octets legal.1 (same p q) (same_kind (kind.Key m) k) refl refl e
sends_by d n p (Sent All k octets s) h m legal e = cc
sends_by d n p _ h m legal e = cc

-- ---- a session was finished, and a message of the peer had verified

pub session_older : (p : Node) (h : List Act) (x : Derivation) (b : Bool) → cond b None (session p h) ≡ Some x → session p h ≡ Some x
session_older p h x true s = cc
session_older p h x false s = s

pub finished_of : (d : Domain) (n p : Node) (e : Act) (h : List Act) (x : Derivation) → Legal d n h e → finishes p e ≡ true → derivation p h ≡ Some x → e ≡ Finished p x.inputs
finished_of d n p e h x legal o s =
    let w = finishes-is p e o in
    let l : LegalFinished d n h p w.0 = subst (λ (y : Act). Legal d n h y) w.1 legal in
    let one : keyed_by w.0 ≡ x = cc (l.last, s) in
    w.1 ∙ ap (λ (y : Derivation). Finished p y.inputs) one

finished_by : (d : Domain) (n p : Node) (e : Act) (h : List Act) (x : Derivation) → Legal d n h e → (session p h ≡ Some x → In (Finished p x.inputs) h) → (b : Bool) → finishes p e ≡ b → cond b (derivation p h) (cond (closes p e) None (session p h)) ≡ Some x → In (Finished p x.inputs) (e ∷ h)
finished_by d n p e h x legal more true is s = inl (sym (finished_of d n p e h x legal is s))
finished_by d n p e h x legal more false is s = inr (more (session_older p h x (closes p e) s))

pub session_finished : (d : Domain) (n p : Node) (h : List Act) (x : Derivation) → LegalHistory d n h → session p h ≡ Some x → In (Finished p x.inputs) h
session_finished d n p [] x legal s = cc
session_finished d n p (e ∷ h) x legal s = finished_by d n p e h x legal.0 (session_finished d n p h x legal.1) (finishes p e) refl s

pub finished_verified : (d : Domain) (n p : Node) (i : Inputs) (h : List Act) → LegalHistory d n h → In (Finished p i) h → Verified n h p i
finished_verified d n p i [] legal there = absurd there
finished_verified d n p i (e ∷ h) legal (inl here) = verified_more n p h e i (let l : LegalFinished d n h p i = subst (λ (x : Act). Legal d n h x) (sym here) legal.0 in l.verified)
finished_verified d n p i (e ∷ h) legal (inr later) = verified_more n p h e i (finished_verified d n p i h legal.1 later)

-- its key is that of its inputs, and they were derived
pub session_key : (d : Domain) (n p : Node) (h : List Act) (x : Derivation) → LegalHistory d n h → session p h ≡ Some x → (x.ptk ≡ ptk x.inputs) × In (derives p x.inputs) h
session_key d n p h x legal s =
    let there : In (Derived p x.inputs x.ptk) h = session_in p h x s in
    let key : x.ptk ≡ ptk x.inputs = derived_key d n p x.inputs x.ptk h legal there in
    (key, subst (λ (k : Ptk). In (Derived p x.inputs k) h) key there)

-- and its peer is of the other kind
pub session_role : (d : Domain) (n p : Node) (h : List Act) (x : Derivation) → LegalHistory d n h → session p h ≡ Some x → is_ap p ≡ not (is_ap n)
session_role d n p h x legal s =
    let w = legal_in d n (Derived p x.inputs x.ptk) h legal (session_in p h x s) in
    let l : LegalDerived d n w.before p x.inputs x.ptk = w.legal in l.roles

-- ---- a station has one session at most, and beside it with the same access point no attempt but one that renews its key

-- what is closed is the session that it has
closed_by : (p q : Node) (h : List Act) → (associated h ≡ None) ⊎ (associated h ≡ Some q) → associated h ≡ Some p → same p q ≡ false → ⊥
closed_by p q h (inl none) was c = cc (none, was)
closed_by p q h (inr is) was c =
    let one : q ≡ p = cc (is, was) in
    let self : same p q ≡ true = subst (λ (x : Node). same p x ≡ true) (sym one) (same-refl p) in cc (self, c)

sole_on : (d : Domain) (n p : Node) (e : Act) (h : List Act) → is_ap n ≡ false → Legal d n h e → associated h ≡ Some p → finishes p e ≡ false → closes p e ≡ false → associated (e ∷ h) ≡ Some p
sole_on d n p (Finished q i) h station legal was f c = let none : associated h ≡ None = legal.alone station in cc
sole_on d n p (Closed q Session) h station legal was f c = absurd (closed_by p q h (legal station) was c)
sole_on d n p _ h station legal was f c = was

sole_by : (d : Domain) (n p : Node) (e : Act) (h : List Act) (x : Derivation) → is_ap n ≡ false → Legal d n h e → (session p h ≡ Some x → associated h ≡ Some p) → (b c : Bool) → finishes p e ≡ b → closes p e ≡ c → cond b (derivation p h) (cond c None (session p h)) ≡ Some x → associated (e ∷ h) ≡ Some p
sole_by d n p e h x station legal more true c f is s = let w = finishes-is p e f in subst (λ (y : Act). associated (y ∷ h) ≡ Some p) (sym w.1) refl
sole_by d n p e h x station legal more false true f is s = cc
sole_by d n p e h x station legal more false false f is s = sole_on d n p e h station legal (more s) f is

pub sole : (d : Domain) (n p : Node) (h : List Act) (x : Derivation) → is_ap n ≡ false → LegalHistory d n h → session p h ≡ Some x → associated h ≡ Some p
sole d n p [] x station legal s = cc
sole d n p (e ∷ h) x station legal s = sole_by d n p e h x station legal.0 (sole d n p h x station legal.1) (finishes p e) (closes p e) refl refl s

-- how an attempt began
begun_other : (p : Node) (s : Start) → is_by_renewal (Opened p s ∷ []) ≡ false → s ≡ Renew → ⊥
begun_other p Connect is renews_ = cc renews_
begun_other p Roam is renews_ = cc renews_
begun_other p Renew is renews_ = cc is

pub begun_renewal : (p : Node) (s : Start) → is_by_renewal (Opened p s ∷ []) ≡ true → s ≡ Renew
begun_renewal p Connect is = cc is
begun_renewal p Roam is = cc is
begun_renewal p Renew is = refl

pub renewal_more : (p : Node) (e : Act) (h old : List Act) → attempt p h ≡ Some old → is_by_renewal (e ∷ old) ≡ is_by_renewal old
renewal_more p e h old a = ap is_renewal (start_more e old (attempt_some p h old a))

-- with whom a station has an attempt that does not renew a key it has no session
without_on : (p : Node) (e : Act) (h : List Act) → is_ap p ≡ true → ends p e ≡ false → (associated h ≡ Some p → ⊥) → associated (e ∷ h) ≡ Some p → ⊥
without_on (Ap k) (Finished q i) h role goes was is = cc
without_on (Sta k) (Finished q i) h role goes was is = cc
without_on p (Closed q Session) h role goes was is = cc
without_on p _ h role goes was is = was is

without_by : (d : Domain) (n p : Node) (e : Act) (h part : List Act) → is_ap n ≡ false → is_ap p ≡ true → Legal d n h e → ((old : List Act) → attempt p h ≡ Some old → is_by_renewal old ≡ false → associated h ≡ Some p → ⊥) → Grows p e h part → is_by_renewal part ≡ false → associated (e ∷ h) ≡ Some p → ⊥
without_by d n p e h part station role legal more (Begins o is) begun some =
    let w = opens-is p e o in
    let l : LegalOpened d n h p w.0 = subst (λ (y : Act). Legal d n h y) w.1 legal in
    let one : is_by_renewal (Opened p w.0 ∷ []) ≡ false = subst (λ (y : Act). is_by_renewal (y ∷ []) ≡ false) w.1 (subst (λ (y : List Act). is_by_renewal y ≡ false) is begun) in
    l.alone (begun_other p w.0 one) station (subst (λ (y : Act). associated (y ∷ h) ≡ Some p) w.1 some)
without_by d n p e h part station role legal more (Goes_on old o goes a is) begun some =
    without_on p e h role goes (more old a (sym (renewal_more p e h old a) ∙ subst (λ (y : List Act). is_by_renewal y ≡ false) is begun)) some

without : (d : Domain) (n p : Node) (h part : List Act) → is_ap n ≡ false → is_ap p ≡ true → LegalHistory d n h → attempt p h ≡ Some part → is_by_renewal part ≡ false → associated h ≡ Some p → ⊥
without d n p [] part station role legal a begun = cc
without d n p (e ∷ h) part station role legal a begun = without_by d n p e h part station role legal.0 (λ old was other. without d n p h old station role legal.1 was other) (grows p e h part a) begun

-- in an attempt that renews a key it has that session, or none
beside_on : (p : Node) (e : Act) (h : List Act) → is_ap p ≡ true → ends p e ≡ false → (associated h ≡ None) ⊎ (associated h ≡ Some p) → (associated (e ∷ h) ≡ None) ⊎ (associated (e ∷ h) ≡ Some p)
beside_on (Ap k) (Finished q i) h role goes was = cc
beside_on (Sta k) (Finished q i) h role goes was = cc
beside_on p (Closed q Session) h role goes was = inl refl
beside_on p _ h role goes was = was

beside_by : (d : Domain) (n p : Node) (e : Act) (h part : List Act) → is_ap n ≡ false → is_ap p ≡ true → LegalHistory d n (e ∷ h) → ((old : List Act) → attempt p h ≡ Some old → is_by_renewal old ≡ true → (associated h ≡ None) ⊎ (associated h ≡ Some p)) → Grows p e h part → is_by_renewal part ≡ true
    → (associated (e ∷ h) ≡ None) ⊎ (associated (e ∷ h) ≡ Some p)
beside_by d n p e h part station role legal more (Begins o is) begun =
    let w = opens-is p e o in
    let l : LegalOpened d n h p w.0 = subst (λ (y : Act). Legal d n h y) w.1 legal.0 in
    let one : is_by_renewal (Opened p w.0 ∷ []) ≡ true = subst (λ (y : Act). is_by_renewal (y ∷ []) ≡ true) w.1 (subst (λ (y : List Act). is_by_renewal y ≡ true) is begun) in
    let r : LegalRenewal d h p = l.renewed (begun_renewal p w.0 one) in
    inr (subst (λ (y : Act). associated (y ∷ h) ≡ Some p) (sym w.1) (sole d n p h r.x station legal.1 r.awaited))
beside_by d n p e h part station role legal more (Goes_on old o goes a is) begun =
    beside_on p e h role goes (more old a (sym (renewal_more p e h old a) ∙ subst (λ (y : List Act). is_by_renewal y ≡ true) is begun))

pub beside : (d : Domain) (n p : Node) (h part : List Act) → is_ap n ≡ false → is_ap p ≡ true → LegalHistory d n h → attempt p h ≡ Some part → is_by_renewal part ≡ true → (associated h ≡ None) ⊎ (associated h ≡ Some p)
beside d n p [] part station role legal a begun = cc
beside d n p (e ∷ h) part station role legal a begun = beside_by d n p e h part station role legal (λ old was renews_. beside d n p h old station role legal.1 was renews_) (grows p e h part a) begun

-- such an attempt is there where keys are renewed alone
renewing_by : (d : Domain) (n p : Node) (e : Act) (h part : List Act) → Legal d n h e → ((old : List Act) → attempt p h ≡ Some old → is_by_renewal old ≡ true → renews d ≡ true) → Grows p e h part → is_by_renewal part ≡ true → renews d ≡ true
renewing_by d n p e h part legal more (Begins o is) begun =
    let w = opens-is p e o in
    let l : LegalOpened d n h p w.0 = subst (λ (y : Act). Legal d n h y) w.1 legal in
    let one : is_by_renewal (Opened p w.0 ∷ []) ≡ true = subst (λ (y : Act). is_by_renewal (y ∷ []) ≡ true) w.1 (subst (λ (y : List Act). is_by_renewal y ≡ true) is begun) in
    let r : LegalRenewal d h p = l.renewed (begun_renewal p w.0 one) in r.renewing
renewing_by d n p e h part legal more (Goes_on old o goes a is) begun = more old a (sym (renewal_more p e h old a) ∙ subst (λ (y : List Act). is_by_renewal y ≡ true) is begun)

pub renewing : (d : Domain) (n p : Node) (h part : List Act) → LegalHistory d n h → attempt p h ≡ Some part → is_by_renewal part ≡ true → renews d ≡ true
renewing d n p [] part legal a begun = cc
renewing d n p (e ∷ h) part legal a begun = renewing_by d n p e h part legal.0 (λ old was renews_. renewing d n p h old legal.1 was renews_) (grows p e h part a) begun

-- and in an attempt by connect it has none at all
alone_on : (p : Node) (e : Act) (h : List Act) → is_ap p ≡ true → ends p e ≡ false → associated h ≡ None → associated (e ∷ h) ≡ None
alone_on (Ap k) (Finished q i) h role goes was = cc
alone_on (Sta k) (Finished q i) h role goes was = cc
alone_on p (Closed q Session) h role goes was = refl
alone_on p _ h role goes was = was

begun_as : (p : Node) (s : Start) → by_connect (Opened p s ∷ []) ≡ true → s ≡ Connect
begun_as p Connect is = refl
begun_as p Roam is = cc
begun_as p Renew is = cc

begun_older : (p : Node) (e : Act) (h old : List Act) → attempt p h ≡ Some old → by_connect (e ∷ old) ≡ true → by_connect old ≡ true
begun_older p e h old a is = sym (ap is_connect (start_more e old (attempt_some p h old a))) ∙ is

alone_by : (d : Domain) (n p : Node) (e : Act) (h part : List Act) → is_ap n ≡ false → is_ap p ≡ true → Legal d n h e → ((old : List Act) → attempt p h ≡ Some old → by_connect old ≡ true → associated h ≡ None) → Grows p e h part → by_connect part ≡ true → associated (e ∷ h) ≡ None
alone_by d n p e h part station role legal more (Begins o is) begun =
    let w = opens-is p e o in
    let l : LegalOpened d n h p w.0 = subst (λ (y : Act). Legal d n h y) w.1 legal in
    let one : by_connect (Opened p w.0 ∷ []) ≡ true = subst (λ (y : Act). by_connect (y ∷ []) ≡ true) w.1 (subst (λ (y : List Act). by_connect y ≡ true) is begun) in
    subst (λ (y : Act). associated (y ∷ h) ≡ None) (sym w.1) (l.none (begun_as p w.0 one) station)
alone_by d n p e h part station role legal more (Goes_on old o goes a is) begun = alone_on p e h role goes (more old a (begun_older p e h old a (subst (λ (y : List Act). by_connect y ≡ true) is begun)))

pub alone_in : (d : Domain) (n p : Node) (h part : List Act) → is_ap n ≡ false → is_ap p ≡ true → LegalHistory d n h → attempt p h ≡ Some part → by_connect part ≡ true → associated h ≡ None
alone_in d n p [] part station role legal a begun = cc
alone_in d n p (e ∷ h) part station role legal a begun = alone_by d n p e h part station role legal.0 (λ old was by_connect_old. alone_in d n p h old station role legal.1 was by_connect_old) (grows p e h part a) begun

other_side : (a b : Bool) → a ≡ not b → b ≡ false → a ≡ true
other_side true b e f = refl
other_side false true e f = cc
other_side false false e f = cc

single_by : (d : Domain) (n p : Node) (h part : List Act) (x : Derivation) → is_ap n ≡ false → LegalHistory d n h → session p h ≡ Some x → attempt p h ≡ Some part → (b : Bool) → is_by_renewal part ≡ b → is_by_renewal part ≡ true
single_by d n p h part x station legal s a true is = is
single_by d n p h part x station legal s a false is =
    absurd (without d n p h part station (other_side (is_ap p) (is_ap n) (session_role d n p h x legal s) station) legal a is (sole d n p h x station legal s))

pub single : (d : Domain) (n p : Node) (h part : List Act) (x : Derivation) → is_ap n ≡ false → LegalHistory d n h → session p h ≡ Some x → attempt p h ≡ Some part → is_by_renewal part ≡ true
single d n p h part x station legal s a = single_by d n p h part x station legal s a (is_by_renewal part) refl

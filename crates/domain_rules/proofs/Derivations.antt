-- A key that a history is asked for was derived in it.
use Rattle.std.proofs.Common.{◌≡◌, Bool, true, false, cond, List, [], ◌∷◌, Option, Some, None, refl, sym, ap, subst, ◌∙◌, inl, inr}
use Rattle.std.specs.Prelude.{option_and_then, bytes_eq}
use Rattle.domain_base.specs.declared.names.Node.{Node}
use Rattle.key_hierarchy.specs.declared.inputs.Inputs.{Inputs}
use Rattle.key_hierarchy.specs.declared.inputs.Ptk.{Ptk}
use Rattle.key_hierarchy.specs.declared.fast_transition.PmkR1.{PmkR1}
use Rattle.eapol_key.specs.declared.messages.Message.TheVariants.{M1, M2}
use Rattle.rsn_elements.specs.Transition.{FteFields}
use Rattle.rsn_elements.specs.Elements.{ElementFields}
use Rattle.run_journal.specs.declared.acts.Kind.TheVariants as kind
use Rattle.run_journal.specs.declared.acts.Act.{Act}
use Rattle.run_journal.specs.declared.acts.Act.TheVariants.{Derived}
use Rattle.run_journal.specs.Acts.{same, finishes, closes, Derivation, derived}
use Rattle.run_journal.specs.Questions.{or_else, attempt, derivation, session}
use Rattle.run_journal.specs.Holders.{Look, look, found_in, before_finished}
use Rattle.run_journal.specs.Premises.{In}
use Rattle.domain_rules.specs.Asking.{is_four_way, has_four_way, is_by_roam, is_by_renewal, session_start, has_heard}
use Rattle.domain_rules.specs.Reading.{KeyMessage}
use Rattle.domain_rules.specs.StationKeys.{Keying, keying_by, session_keying, renewal_keying, attempt_keying, m3_keying}
use Rattle.domain_rules.specs.AccessPointKeys.{m4_keying}
use Rattle.domain_rules.specs.TransitionKeys.{Transition, made_by, made_of, transition_in, transition, session_transition, has_nonces, Judged, judged_session, judged_by, judged, re_resp_keying_in, re_resp_keying}
use Rattle.domain_rules.proofs.Parts.{same-true, in_part}

derived_same : (p q : Node) (i : Inputs) (k : Ptk) (x : Derivation) (b : Bool) → same p q ≡ b → cond b (Some (record { inputs = i; ptk = k })) None ≡ Some x → Derived q i k ≡ Derived p x.inputs x.ptk
derived_same p q i k x true s e =
    let w : q ≡ p = sym (same-true p q s) in
    let one : record { inputs = i; ptk = k } ≡ x = cc e in
    ap (λ (y : Node). Derived y i k) w ∙ ap (λ (y : Derivation). Derived p y.inputs y.ptk) one
derived_same p q i k x false s e = cc

pub derived-is : (p : Node) (e : Act) (x : Derivation) → derived p e ≡ Some x → e ≡ Derived p x.inputs x.ptk
derived-is p (Derived q i k) x o = derived_same p q i k x (same p q) refl o
derived-is p _ x o = cc

derivation_by : (p : Node) (e : Act) (h : List Act) (x : Derivation) (o : Option Derivation) → derived p e ≡ o → (derivation p h ≡ Some x → In (Derived p x.inputs x.ptk) h) → or_else o (derivation p h) ≡ Some x → In (Derived p x.inputs x.ptk) (e ∷ h)
derivation_by p e h x None is more s = inr (more s)
derivation_by p e h x (Some y) is more s = inl (sym (derived-is p e x (is ∙ s)))

pub derivation_in : (p : Node) (h : List Act) (x : Derivation) → derivation p h ≡ Some x → In (Derived p x.inputs x.ptk) h
derivation_in p [] x s = cc
derivation_in p (e ∷ h) x s = derivation_by p e h x (derived p e) refl (derivation_in p h x) s

-- of an attempt
attempt_derived : (p : Node) (h part : List Act) (x : Derivation) → attempt p h ≡ Some part → derivation p part ≡ Some x → In (Derived p x.inputs x.ptk) h
attempt_derived p h part x a s = in_part p h part (Derived p x.inputs x.ptk) a (derivation_in p part x s)

-- of a session
held_by : (p : Node) (e : Act) (h : List Act) (x : Derivation) (b c : Bool) → (session p h ≡ Some x → In (Derived p x.inputs x.ptk) h) → cond b (derivation p h) (cond c None (session p h)) ≡ Some x → In (Derived p x.inputs x.ptk) (e ∷ h)
held_by p e h x true c more is = inr (derivation_in p h x is)
held_by p e h x false true more is = absurd (cc is)
held_by p e h x false false more is = inr (more is)

pub held_in : (p : Node) (h : List Act) (x : Derivation) → session p h ≡ Some x → In (Derived p x.inputs x.ptk) h
held_in p [] x is = absurd (cc is)
held_in p (e ∷ h) x is = held_by p e h x (finishes p e) (closes p e) (held_in p h x) is

-- ---- by which an M3 is judged

pub keying_is : (b : Bool) (o : Option Derivation) (y : Keying) → keying_by b o ≡ Some y → (o ≡ Some y.key) × (y.is_session ≡ b)
keying_is b None y is = absurd (cc is)
keying_is b (Some x) y is =
    let one : record { key = x; is_session = b } ≡ y = cc is in
    (ap (λ (z : Keying). Some z.key) one, ap (λ (z : Keying). z.is_session) (sym one))

session_keyed : (p : Node) (h : List Act) (y : Keying) (b : Bool) → cond b (keying_by true (session p h)) None ≡ Some y → In (Derived p y.key.inputs y.key.ptk) h
session_keyed p h y true is = held_in p h y.key (keying_is true (session p h) y is).0
session_keyed p h y false is = absurd (cc is)

renewal_keyed : (p : Node) (h part : List Act) (k : KeyMessage) (y : Keying) (o : Option Derivation) → attempt p h ≡ Some part → derivation p part ≡ o → renewal_keying p h k o ≡ Some y → In (Derived p y.key.inputs y.key.ptk) h
renewal_keyed p h part k y None a at is = session_keyed p h y (has_four_way (session_start p h)) is
renewal_keyed p h part k y (Some x) a at is = by (bytes_eq k.fields.nonce x.inputs.anonce) is
  where
    by : (b : Bool) → cond b (keying_by false (Some x)) (session_keying p h) ≡ Some y → In (Derived p y.key.inputs y.key.ptk) h
    by true s = attempt_derived p h part y.key a (at ∙ (keying_is false (Some x) y s).0)
    by false s = session_keyed p h y (has_four_way (session_start p h)) s

attempt_keyed : (p : Node) (h : List Act) (k : KeyMessage) (y : Keying) (o : Option (List Act)) → attempt p h ≡ o → attempt_keying p h k o ≡ Some y → In (Derived p y.key.inputs y.key.ptk) h
attempt_keyed p h k y None a is = session_keyed p h y (has_four_way (session_start p h)) is
attempt_keyed p h k y (Some part) a is = by (is_by_renewal part) (is_four_way part) (has_heard p (kind.Key M1) part) is
  where
    by : (b c e : Bool) → cond b (renewal_keying p h k (derivation p part)) (cond c (cond e (keying_by false (derivation p part)) None) (session_keying p h)) ≡ Some y → In (Derived p y.key.inputs y.key.ptk) h
    by true c e s = renewal_keyed p h part k y (derivation p part) a refl s
    by false true true s = attempt_derived p h part y.key a (keying_is false (derivation p part) y s).0
    by false true false s = absurd (cc s)
    by false false e s = session_keyed p h y (has_four_way (session_start p h)) s

pub m3_derived : (p : Node) (h : List Act) (k : KeyMessage) (y : Keying) → m3_keying p h k ≡ Some y → In (Derived p y.key.inputs y.key.ptk) h
m3_derived p h k y is = attempt_keyed p h k y (attempt p h) refl is

-- ---- by which an M4 is judged

m4_by : (b c : Bool) (o : Option Derivation) (x : Derivation) → cond b (cond c o None) None ≡ Some x → o ≡ Some x
m4_by true true o x e = e
m4_by true false o x e = cc
m4_by false c o x e = cc

pub m4_derivation : (p : Node) (part : List Act) (x : Derivation) → m4_keying p part ≡ Some x → derivation p part ≡ Some x
m4_derivation p part x e = m4_by (is_four_way part) (has_heard p (kind.Key M2) part) (derivation p part) x e

pub m4_derived : (p : Node) (h part : List Act) (x : Derivation) → attempt p h ≡ Some part → m4_keying p part ≡ Some x → In (Derived p x.inputs x.ptk) h
m4_derived p h part x a s = attempt_derived p h part x a (m4_derivation p part x s)

-- ---- by which a reassociation request is judged

pub made_is : (o : Option Derivation) (q : Option Look) (k : Option PmkR1) (z : Transition) → made_by o q k ≡ Some z → (o ≡ Some z.key) × ((l : Look) × ((q ≡ Some l) × ((m : PmkR1) × ((k ≡ Some m) × (z.r1_name ≡ m.name)))))
made_is (Some x) (Some l) (Some k) z is =
    let one : record { key = x; asked = l.name; r1_name = k.name } ≡ z = cc is in
    (ap (λ (y : Transition). Some y.key) one, (l, (refl, (k, (refl, ap (λ (y : Transition). y.r1_name) (sym one))))))
made_is None q k z is = absurd (cc is)
made_is (Some x) None k z is = absurd (cc is)
made_is (Some x) (Some l) None z is = absurd (cc is)

transition_by : (p : Node) (h part : List Act) (z : Transition) (b : Bool) → attempt p h ≡ Some part → cond b (made_of p h part) None ≡ Some z → In (Derived p z.key.inputs z.key.ptk) h
transition_by p h part z false a is = absurd (cc is)
transition_by p h part z true a is =
    attempt_derived p h part z.key a (made_is (derivation p part) (look p h) (option_and_then (λ (l : Look). found_in l.answer) (look p h)) z is).0

transition_of : (p : Node) (h : List Act) (z : Transition) (o : Option (List Act)) → attempt p h ≡ o → transition_in p h o ≡ Some z → In (Derived p z.key.inputs z.key.ptk) h
transition_of p h z None a is = absurd (cc is)
transition_of p h z (Some part) a is = transition_by p h part z (is_by_roam part) a is

transition_derived : (p : Node) (h : List Act) (z : Transition) → transition p h ≡ Some z → In (Derived p z.key.inputs z.key.ptk) h
transition_derived p h z is = transition_of p h z (attempt p h) refl is

before_by : (p : Node) (x e : Act) (h before : List Act) (b c : Bool) → (before_finished p h ≡ Some before → In x h) → cond b (Some h) (cond c None (before_finished p h)) ≡ Some before → In x before → In x (e ∷ h)
before_by p x e h before true c more is there = let one : before ≡ h = cc is in inr (subst (λ (y : List Act). In x y) one there)
before_by p x e h before false true more is there = absurd (cc is)
before_by p x e h before false false more is there = inr (more is)

before_in : (p : Node) (x : Act) (h before : List Act) → before_finished p h ≡ Some before → In x before → In x h
before_in p x [] before is there = absurd (cc is)
before_in p x (e ∷ h) before is there = before_by p x e h before (finishes p e) (closes p e) (λ at. before_in p x h before at there) is there

session_of : (p : Node) (h : List Act) (z : Transition) (o : Option (List Act)) → before_finished p h ≡ o → option_and_then (λ (before : List Act). transition p before) o ≡ Some z → In (Derived p z.key.inputs z.key.ptk) h
session_of p h z None at is = absurd (cc is)
session_of p h z (Some before) at is = before_in p (Derived p z.key.inputs z.key.ptk) h before at (transition_derived p before z is)

session_derived : (p : Node) (h : List Act) (z : Transition) → session_transition p h ≡ Some z → In (Derived p z.key.inputs z.key.ptk) h
session_derived p h z is = session_of p h z (before_finished p h) refl is

-- the key of what is judged by
abbrev WasDerived : Node → List Act → Judged → Type 0
WasDerived p h y = In (Derived p y.by_.key.inputs y.by_.key.ptk) h

judged_as : (p : Node) (h : List Act) (z : Transition) (b : Bool) (y : Judged) → Some (record { by_ = z; is_session = b }) ≡ Some y → In (Derived p z.key.inputs z.key.ptk) h → WasDerived p h y
judged_as p h z b y is there = let one : record { by_ = z; is_session = b } ≡ y = cc is in subst (λ (w : Judged). WasDerived p h w) one there

of_session : (p : Node) (h : List Act) (f : FteFields) (y : Judged) (t : Option Transition) → session_transition p h ≡ t → judged_session f t ≡ Some y → WasDerived p h y
of_session p h f y None at is = absurd (cc is)
of_session p h f y (Some z) at is = by (has_nonces f z.key) is
  where
    by : (b : Bool) → cond b (Some (record { by_ = z; is_session = true })) None ≡ Some y → WasDerived p h y
    by true s = judged_as p h z true y s (session_derived p h z at)
    by false s = absurd (cc s)

judged_of : (p : Node) (h : List Act) (y : Judged) (o : Option FteFields) (a : Option Transition) → transition p h ≡ a → judged_by o a (session_transition p h) ≡ Some y → WasDerived p h y
judged_of p h y None a at is = absurd (cc is)
judged_of p h y (Some f) None at is = of_session p h f y (session_transition p h) refl is
judged_of p h y (Some f) (Some z) at is = by (has_nonces f z.key) is
  where
    by : (b : Bool) → cond b (Some (record { by_ = z; is_session = false })) (judged_session f (session_transition p h)) ≡ Some y → WasDerived p h y
    by true s = judged_as p h z false y s (transition_derived p h z at)
    by false s = of_session p h f y (session_transition p h) refl s

pub judged_derived : (p : Node) (h : List Act) (e : ElementFields) (y : Judged) → judged p h e ≡ Some y → WasDerived p h y
judged_derived p h e y is = judged_of p h y e.fte (transition p h) refl is

-- ---- by which a reassociation response is judged

resp_of : (p : Node) (h : List Act) (x : Derivation) (o : Option (List Act)) → attempt p h ≡ o → re_resp_keying_in p o ≡ Some x → In (Derived p x.inputs x.ptk) h
resp_of p h x None a is = absurd (cc is)
resp_of p h x (Some part) a is = by (is_by_roam part) (has_heard p kind.FtResp part) is
  where
    by : (b c : Bool) → cond b (cond c (derivation p part) None) None ≡ Some x → In (Derived p x.inputs x.ptk) h
    by false c s = absurd (cc s)
    by true true s = attempt_derived p h part x a s
    by true false s = absurd (cc s)

pub resp_derived : (p : Node) (h : List Act) (x : Derivation) → re_resp_keying p h ≡ Some x → In (Derived p x.inputs x.ptk) h
resp_derived p h x is = resp_of p h x (attempt p h) refl is

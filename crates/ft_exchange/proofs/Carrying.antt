-- The group keys that an FTE carries, where it carries those that are asked for.
use Rattle.std.proofs.Common.{◌≡◌, ◌∙◌, ℕ, Bool, true, false, Option, Some, None, refl, sym, ap, subst}
use Rattle.std.specs.Prelude.{◌==◌, ◌&&◌, ◌||◌, length, is_some, MatchOption}
use Rattle.std.proofs.lemmas.Bool.{eq-eqb}
use Rattle.rsn_elements.specs.Transition.{WrappedIgtkFields, FteFields}
use Rattle.domain_rules.specs.FastTransition.{igtk_to_unwrap, gtk_in, igtk_in, is_wrapped_gtk, is_wrapped_igtk, has_igtk}
use Rattle.domain_rules.specs.TransitionRows.{carried_igtk_by}
use Rattle.ft_exchange.specs.Group.{plain_of, igtk_ipn, group_key, carries_keys, IsGtkIn, IsIgtkIn, AreCarried}
use Rattle.ft_exchange.specs.declared.group.CarriedKey.{CarriedKey}
use Rattle.ft_exchange.specs.declared.group.CarriedKeys.{CarriedKeys}
use Rattle.ft_exchange.specs.declared.group.Opened.{Opened}
use Rattle.ft_exchange.specs.declared.group.Unwrapped.{Unwrapped}

pub without_gtk : (protected : Bool) (f : Option FteFields) → is_wrapped_gtk (gtk_in f) ≡ false → carries_keys protected f ≡ false
without_gtk protected f none = ap (λ (b : Bool). b && has_igtk protected f) none

pub some_protected : (protected : Bool) (f : Option FteFields) (o : Opened) → protected ≡ true → is_some (plain_of o) ≡ is_some (igtk_to_unwrap protected f) → is_some (plain_of o) ≡ is_some (igtk_to_unwrap true f)
some_protected protected f o mfp is = is ∙ ap (λ (b : Bool). is_some (igtk_to_unwrap b f)) mfp

both_false : (b : Bool) → (b && false) ≡ false
both_false true = refl
both_false false = refl

-- what comes of it, as a code answers
abbrev pub Found : Bool → Option FteFields → Unwrapped → Option CarriedKeys → Type 0
Found protected f u o = MatchOption o (carries_keys protected f ≡ false) (λ (c : CarriedKeys). (carries_keys protected f ≡ true) × AreCarried protected f u c)

-- where management frames are not protected it carries a GTK, and no IGTK is looked at
plain_found : (f : Option FteFields) (u : Unwrapped) (c : CarriedKey) → is_wrapped_gtk (gtk_in f) ≡ true → IsGtkIn f u.gtk c → Found false f u (Some (record { gtk = c; igtk = None }))
plain_found f u c wraps is = (ap (λ (b : Bool). b && true) wraps, record { gtk = is; igtk = refl })

pub found_plain : (protected : Bool) (f : Option FteFields) (u : Unwrapped) (c : CarriedKey) → protected ≡ false → is_wrapped_gtk (gtk_in f) ≡ true → IsGtkIn f u.gtk c → Found protected f u (Some (record { gtk = c; igtk = None }))
found_plain protected f u c mfp wraps is = subst (λ (b : Bool). Found b f u (Some (record { gtk = c; igtk = None }))) (sym mfp) (plain_found f u c wraps is)

-- the key id of an IGTK of 16 octets
abbrev is_id : ℕ → Bool
is_id id = (id == 4) || (id == 5)

pub id_found : (g : WrappedIgtkFields) (o : Option ℕ) → g.key_length ≡ 16 → length g.wrapped ≡ 24 → MatchOption o (is_id g.id ≡ false) (λ (i : ℕ). (is_id g.id ≡ true) × (i ≡ g.id))
    → MatchOption o (is_wrapped_igtk (Some g) ≡ false) (λ (i : ℕ). (is_wrapped_igtk (Some g) ≡ true) × (i ≡ g.id))
id_found g o size wraps found = by o found
  where
    tests : is_wrapped_igtk (Some g) ≡ is_id g.id
    tests =
        ap (λ (b : Bool). b && (length g.wrapped == 24) && is_id g.id) (eq-eqb g.key_length 16 size)
        ∙ ap (λ (b : Bool). b && is_id g.id) (eq-eqb (length g.wrapped) 24 wraps)

    by : (o : Option ℕ) → MatchOption o (is_id g.id ≡ false) (λ (i : ℕ). (is_id g.id ≡ true) × (i ≡ g.id)) → MatchOption o (is_wrapped_igtk (Some g) ≡ false) (λ (i : ℕ). (is_wrapped_igtk (Some g) ≡ true) × (i ≡ g.id))
    by None none = tests ∙ none
    by (Some i) some = (tests ∙ some.0, some.1)

-- an IGTK that is carried
pub igtk_of : (f : Option FteFields) (o : Opened) (c : CarriedKey) → is_wrapped_igtk (igtk_in f) ≡ true → carried_igtk_by (igtk_in f) (plain_of o) ≡ group_key c → c.rsc ≡ igtk_ipn (igtk_in f) → IsIgtkIn true f o (Some c)
igtk_of f o c wraps is ipn = record { wraps = wraps; is = is; ipn = ipn }

-- and where they are protected, with the IGTK
abbrev pub WithIgtk : Option FteFields → Unwrapped → CarriedKey → Option CarriedKeys → Type 0
WithIgtk f u c o = MatchOption o (is_wrapped_igtk (igtk_in f) ≡ false) (λ (k : CarriedKeys). (k.gtk ≡ c) × IsIgtkIn true f u.igtk k.igtk)

igtk_wraps : (f : Option FteFields) (o : Opened) (k : Option CarriedKey) → IsIgtkIn true f o k → is_wrapped_igtk (igtk_in f) ≡ true
igtk_wraps f o None is = absurd is
igtk_wraps f o (Some c) is = is.wraps

protected_found : (f : Option FteFields) (u : Unwrapped) (c : CarriedKey) (o : Option CarriedKeys) → is_wrapped_gtk (gtk_in f) ≡ true → IsGtkIn f u.gtk c → WithIgtk f u c o → Found true f u o
protected_found f u c None wraps is none = ap (λ (b : Bool). is_wrapped_gtk (gtk_in f) && b) none ∙ both_false (is_wrapped_gtk (gtk_in f))
protected_found f u c (Some k) wraps is has = (
  ap (λ (b : Bool). b && is_wrapped_igtk (igtk_in f)) wraps ∙ igtk_wraps f u.igtk k.igtk has.1,
  record { gtk = subst (λ (x : CarriedKey). IsGtkIn f u.gtk x) (sym has.0) is; igtk = has.1 },
)

pub found_protected : (protected : Bool) (f : Option FteFields) (u : Unwrapped) (c : CarriedKey) (o : Option CarriedKeys) → protected ≡ true → is_wrapped_gtk (gtk_in f) ≡ true → IsGtkIn f u.gtk c → WithIgtk f u c o → Found protected f u o
found_protected protected f u c o mfp wraps is has = subst (λ (b : Bool). Found b f u o) (sym mfp) (protected_found f u c o wraps is has)

-- The group keys that a reassociation response carries, by the definitions.
use Rattle.std.proofs.Common.{◌≡◌, ◌∙◌, ℕ, Bool, true, false, List, Option, Some, None, refl, sym, ap, subst, arith}
use Rattle.std.specs.Prelude.{◌==◌, ◌%◌, ◌&&◌, ◌||◌, not, length}
use Rattle.std.proofs.lemmas.Bool.{ne_eqb}
use Rattle.domain_base.specs.declared.names.Akm.{Akm}
use Rattle.rsn_elements.specs.Transition.{WrappedGtkFields, WrappedIgtkFields, FteFields}
use Rattle.rsn_elements.specs.Elements.{ElementFields}
use Rattle.run_journal.specs.declared.acts.Kind.TheVariants as kind
use Rattle.run_journal.specs.Acts.{GroupKey}
use Rattle.domain_rules.specs.Facts.{Facts}
use Rattle.domain_rules.specs.FastTransition.{gtk_in, igtk_in, gtk_id, is_wrapped_gtk, is_wrapped_igtk, has_igtk}
use Rattle.domain_rules.specs.GroupKeys.{rsc_in_response}
use Rattle.domain_rules.specs.Reading.{Management, Managed, Reads}
use Rattle.domain_rules.specs.TransitionRows.{carried_by, carried_igtk_by, keys_by}
use Rattle.group_key.specs.Keys.{is_integrity_id}
use Rattle.ft_exchange.specs.Group.{plain_of, group_key, gtk_rsc, igtk_ipn, carries_keys, IsIgtkIn, AreCarried}
use Rattle.ft_exchange.specs.declared.group.CarriedKey.{CarriedKey}
use Rattle.ft_exchange.specs.declared.group.CarriedKeys.{CarriedKeys}
use Rattle.ft_exchange.specs.declared.group.Opened.{Opened}
use Rattle.ft_exchange.specs.declared.group.Unwrapped.{Unwrapped}
use Rattle.ft_exchange.proofs.GivenKeys.{IsKey, AreKeys, TellsIpn}
use Rattle.ft_exchange.proofs.ToldRsc.{told_rsc, told_ipn}

-- what is known of a response
abbrev pub facts_by : Unwrapped → Facts
facts_by u = record { requested = None; responded = None; unwrapped = plain_of u.gtk; data_ = None; pulled = None; opened = None; unwrapped_igtk = plain_of u.igtk; kept = 0 }

-- ---- a GTK is there

carries_first : (a b : Bool) → (a && b) ≡ true → a ≡ true
carries_first true b is = refl
carries_first false b is = absurd (cc is)

pub gtk_there : (protected : Bool) (f : Option FteFields) → carries_keys protected f ≡ true → is_wrapped_gtk (gtk_in f) ≡ true
gtk_there protected f is = carries_first (is_wrapped_gtk (gtk_in f)) (has_igtk protected f) is

pub wrapped_some : (o : Option WrappedGtkFields) → is_wrapped_gtk o ≡ true → (g : WrappedGtkFields) × (o ≡ Some g)
wrapped_some None is = absurd (cc is)
wrapped_some (Some g) is = (g, refl)

-- ---- key ids

-- that of a GTK is other than 0, and none of IGTKs
wrapped_id : (g : WrappedGtkFields) → is_wrapped_gtk (Some g) ≡ true → (gtk_id g == 0) ≡ false
wrapped_id g is = by (g.key_length == 16) (length g.wrapped == 24) (gtk_id g == 0) is
  where
    by : (a b c : Bool) → (a && b && not c) ≡ true → c ≡ false
    by true true false is = refl
    by true true true is = absurd (cc is)
    by true false c is = absurd (cc is)
    by false b c is = absurd (cc is)

pub carried_id : (o : Option WrappedGtkFields) (plain : Option (List ℕ)) (c : CarriedKey) → is_wrapped_gtk o ≡ true → carried_by o plain ≡ group_key c → (c.id == 0) ≡ false
carried_id None plain c wraps is = absurd (cc wraps)
carried_id (Some g) plain c wraps is = subst (λ (i : ℕ). (i == 0) ≡ false) (ap (λ (x : GroupKey). x.id) is) (wrapped_id g wraps)

low_id : (n : ℕ) → is_integrity_id (n % 4) ≡ false
low_id n =
    ap (λ (b : Bool). b || (n % 4 == 5)) (ne_eqb (n % 4) 4 (λ same. absurd (omega (arith, same))))
    ∙ ne_eqb (n % 4) 5 (λ same. absurd (omega (arith, same)))

gtk_kind : (o : Option WrappedGtkFields) (plain : Option (List ℕ)) (c : CarriedKey) → is_wrapped_gtk o ≡ true → carried_by o plain ≡ group_key c → is_integrity_id c.id ≡ false
gtk_kind None plain c wraps is = absurd (cc wraps)
gtk_kind (Some g) plain c wraps is = subst (λ (i : ℕ). is_integrity_id i ≡ false) (ap (λ (x : GroupKey). x.id) is) (low_id g.information)

-- that of an IGTK is one of IGTKs
wrapped_kind : (g : WrappedIgtkFields) → is_wrapped_igtk (Some g) ≡ true → is_integrity_id g.id ≡ true
wrapped_kind g is = by (g.key_length == 16) (length g.wrapped == 24) (is_integrity_id g.id) is
  where
    by : (a b c : Bool) → (a && b && c) ≡ true → c ≡ true
    by true true c is = is
    by true false c is = absurd (cc is)
    by false b c is = absurd (cc is)

igtk_kind : (o : Option WrappedIgtkFields) (plain : Option (List ℕ)) (c : CarriedKey) → is_wrapped_igtk o ≡ true → carried_igtk_by o plain ≡ group_key c → is_integrity_id c.id ≡ true
igtk_kind None plain c wraps is = absurd (cc wraps)
igtk_kind (Some g) plain c wraps is = subst (λ (i : ℕ). is_integrity_id i ≡ true) (ap (λ (x : GroupKey). x.id) is) (wrapped_kind g wraps)

-- ---- they are those of the definitions

is_key : (b : Bool) (f : Option FteFields) (o : Opened) (k : Option CarriedKey) → IsIgtkIn b f o k → IsKey b (carried_igtk_by (igtk_in f) (plain_of o)) k
is_key false f o k is = is
is_key true f o None is = is
is_key true f o (Some c) is = (is.is, igtk_kind (igtk_in f) (plain_of o) c is.wraps is.is)

pub are_keys : (protected : Bool) (f : Option FteFields) (u : Unwrapped) (c : CarriedKeys) → carries_keys protected f ≡ true → AreCarried protected f u c → AreKeys protected (keys_by f (facts_by u)) c
are_keys protected f u c carries are = record {
  gtk = are.gtk.is;
  gtk_id = gtk_kind (gtk_in f) (plain_of u.gtk) c.gtk (gtk_there protected f carries) are.gtk.is;
  igtk = is_key protected f u.igtk c.igtk are.igtk;
}

-- ---- and so are their packet numbers

pub rsc_told : (akm : Akm) (octets : List ℕ) (b : Management) (e : ElementFields) (protected : Bool) (u : Unwrapped) (c : CarriedKeys) → Reads akm octets (Managed b e) → b.kind ≡ kind.ReResp → carries_keys protected e.fte ≡ true → AreCarried protected e.fte u c
    → rsc_in_response octets ≡ c.gtk.rsc
rsc_told akm octets b e protected u c reads is carries are =
    let gtk = wrapped_some (gtk_in e.fte) (gtk_there protected e.fte carries) in
    told_rsc akm octets b e gtk.0 reads is gtk.1 ∙ sym (are.gtk.rsc ∙ ap gtk_rsc gtk.1)

igtk_some : (o : Option WrappedIgtkFields) → is_wrapped_igtk o ≡ true → (g : WrappedIgtkFields) × (o ≡ Some g)
igtk_some None is = absurd (cc is)
igtk_some (Some g) is = (g, refl)

ipn_by : (akm : Akm) (octets : List ℕ) (b : Management) (e : ElementFields) (protected : Bool) (o : Opened) (k : Option CarriedKey) → Reads akm octets (Managed b e) → b.kind ≡ kind.ReResp → IsIgtkIn protected e.fte o k → TellsIpn k octets
ipn_by akm octets b e protected o None reads is has = tt
ipn_by akm octets b e false o (Some c) reads is has = absurd (cc has)
ipn_by akm octets b e true o (Some c) reads is has =
    let igtk = igtk_some (igtk_in e.fte) has.wraps in
    told_ipn akm octets b e igtk.0 reads is igtk.1 ∙ sym (has.ipn ∙ ap igtk_ipn igtk.1)

pub ipn_told : (akm : Akm) (octets : List ℕ) (b : Management) (e : ElementFields) (protected : Bool) (u : Unwrapped) (c : CarriedKeys) → Reads akm octets (Managed b e) → b.kind ≡ kind.ReResp → AreCarried protected e.fte u c → TellsIpn c.igtk octets
ipn_told akm octets b e protected u c reads is are = ipn_by akm octets b e protected u.igtk c.igtk reads is are.igtk

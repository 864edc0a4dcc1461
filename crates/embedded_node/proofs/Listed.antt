-- A network with no nodes is in form, and stays so with one more node that can be listed, and after an event at a node.
use Rattle.std.proofs.Common.{◌≡◌, ◌≢◌, ◌≤◌, ℕ, Bool, true, false, if◌then◌else◌, length, refl, List, [], ◌∷◌, ◌++◌, bytes_eq, sym, ap, subst, ◌∙◌, arith, inl, inr}
use Rattle.std.specs.Prelude.{Option, Some, None, not, nat_le, nat_lt}
use Rattle.std.specs.List.{AllByRecursion, list_any, position, position_or_len}
use Rattle.std.specs.Option.{is_some}
use Rattle.std.proofs.lemmas.Bool.{cases_Bool, false≢true, eqb-true, and_parts, or_parts, not-true, not-false, leb-true, leb-false}
use Rattle.std.proofs.lemmas.Grind.{common_steps}
use Rattle.std.proofs.lemmas.List.{append-nil, length-append}
use Rattle.std.proofs.lemmas.Slice.Eq.{bytes_eq-Decides}
use Rattle.domain_base.specs.declared.names.Mac.{Mac}
use Rattle.run_journal.specs.Limits.{most_aps, most_stas}
use Rattle.run_journal.specs.declared.domain.Domain.{Domain}
use Rattle.run_journal.specs.declared.domain.ListedAp.{ListedAp}
use Rattle.run_journal.specs.declared.domain.ListedSta.{ListedSta}
use Rattle.run_journal.specs.Listing.{with_ap, with_sta}
use Rattle.domain_rules.specs.Network.{IsUnicast, IsNew, AreAps, AreStas, InForm}
use Rattle.domain_rules.specs.Rows.{NodeEvent, Secret}
use Rattle.domain_rules.proofs.ChangedNetwork.{in_form_changed}
use Rattle.node_base.specs.Changing.{after}
use Rattle.node_base.specs.Growing.{Grows}
use Rattle.embedded_node.specs.declared.untaken.Untaken.{Untaken}
use Rattle.embedded_node.specs.declared.untaken.Untaken.TheVariants.{Unfit, Full}
use Rattle.embedded_node.specs.Free.{is_same, is_single, is_used, is_used_id, is_id, ap_fault, sta_fault}
use Rattle.embedded_node.specs.Starts.{is_ssid}

-- where one passes, there is a first that does
passes-position : {X : Type 0} (p : X → Bool) (xs : List X) → nat_lt (position_or_len p xs) (length xs) ≡ list_any p xs
passes-position p [] = refl
passes-position p (x ∷ xs) = let rest = passes-position p xs in elim (cases_Bool (p x)) [
  | inl passes ↦ grind (arith, common_steps)
  | inr fails ↦ grind (arith, common_steps)
]

pub is_some-position : {X : Type 0} (p : X → Bool) (xs : List X) → is_some (position p xs) ≡ list_any p xs
is_some-position p xs = let is = passes-position p xs in elim (cases_Bool (list_any p xs)) [
  | inl passes ↦ grind (arith, common_steps)
  | inr fails ↦ grind (arith, common_steps)
]

all_push : {A : Type 0} (P : A → Type 0) (xs : List A) (x : A) → AllByRecursion P xs → P x → AllByRecursion P (xs ++ x ∷ [])
all_push P [] x all here = (here, tt)
all_push P (y ∷ xs) x all here = (all.0, all_push P xs x all.1 here)

pub in_form_bare : (d : Domain) → is_ssid d.ssid ≡ true → d.aps ≡ [] → d.stas ≡ [] → InForm d
in_form_bare d named no_aps no_stas = let sizes = and_parts _ _ named in record {
  some = leb-true 1 (length d.ssid) sizes.0;
  few = leb-true (length d.ssid) 32 sizes.1;
  aps = subst AreAps (sym no_aps) tt;
  stas = subst (AreStas d.aps) (sym no_stas) tt;
  few_aps = omega (arith, ap (λ (aps : List ListedAp). length aps) no_aps);
  few_stas = omega (arith, ap (λ (stas : List ListedSta). length stas) no_stas);
}

not_equal : (xs ys : List ℕ) → bytes_eq xs ys ≡ false → xs ≢ ys
not_equal xs ys e q = false≢true (sym e ∙ (bytes_eq-Decides xs ys).1 q)

not_same : (a b : Mac) → is_same a b ≡ false → a ≢ b
not_same a b e q = not_equal a.0 b.0 e (ap (λ (m : Mac). m.0) q)

none_of_aps : (address : Mac) (aps : List ListedAp) → list_any (λ (a : ListedAp). is_same a.address address) aps ≡ false → AllByRecursion (λ (a : ListedAp). a.address ≢ address) aps
none_of_aps address [] e = tt
none_of_aps address (a ∷ aps) e =
    let parts = or_parts (is_same a.address address) (list_any (λ (b : ListedAp). is_same b.address address) aps) e in
    (not_same a.address address parts.0, none_of_aps address aps parts.1)

none_of_stas : (address : Mac) (stas : List ListedSta) → list_any (λ (s : ListedSta). is_same s.address address) stas ≡ false → AllByRecursion (λ (s : ListedSta). s.address ≢ address) stas
none_of_stas address [] e = tt
none_of_stas address (s ∷ stas) e =
    let parts = or_parts (is_same s.address address) (list_any (λ (t : ListedSta). is_same t.address address) stas) e in
    (not_same s.address address parts.0, none_of_stas address stas parts.1)

none_of_ids : (r0kh_id : List ℕ) (aps : List ListedAp) → list_any (λ (a : ListedAp). bytes_eq a.r0kh_id r0kh_id) aps ≡ false → AllByRecursion (λ (a : ListedAp). a.r0kh_id ≢ r0kh_id) aps
none_of_ids r0kh_id [] e = tt
none_of_ids r0kh_id (a ∷ aps) e =
    let parts = or_parts (bytes_eq a.r0kh_id r0kh_id) (list_any (λ (b : ListedAp). bytes_eq b.r0kh_id r0kh_id) aps) e in
    (not_equal a.r0kh_id r0kh_id parts.0, none_of_ids r0kh_id aps parts.1)

none_of : (x y : Bool) → (if x then true else y) ≡ false → (x ≡ false) × (y ≡ false)
none_of true y e = absurd (false≢true (sym e))
none_of false y e = (refl, e)

-- ---- what follows where there is no cause

passed : (b : Bool) (why : Untaken) (o : Option Untaken) → (if b then Some why else o) ≡ None → (b ≡ false) × (o ≡ None)
passed true why o e = absurd cc
passed false why o e = (refl, e)

is_unicast : (octets : List ℕ) → is_single octets ≡ true → IsUnicast octets
is_unicast octets is =
    let parts = and_parts _ _ is in
    (not_equal octets _ (not-true _ parts.0), eqb-true _ _ parts.1)

-- ---- one more access point

AreAps-push : (aps : List ListedAp) (a : ListedAp) → AreAps aps → IsUnicast a.address.0 → 1 ≤ length a.r0kh_id → length a.r0kh_id ≤ 48
    → AllByRecursion (λ (b : ListedAp). b.address ≢ a.address) aps → AllByRecursion (λ (b : ListedAp). b.r0kh_id ≢ a.r0kh_id) aps → AreAps (aps ++ a ∷ [])
AreAps-push [] a are unicast some few addresses ids = (unicast, some, few, tt, tt, tt)
AreAps-push (x ∷ aps) a are unicast some few addresses ids = (
  are.0,
  are.1,
  are.2,
  all_push (λ (b : ListedAp). b.address ≢ x.address) aps a are.3 (λ same. addresses.0 (sym same)),
  all_push (λ (b : ListedAp). b.r0kh_id ≢ x.r0kh_id) aps a are.4 (λ same. ids.0 (sym same)),
  AreAps-push aps a are.5 unicast some few addresses.1 ids.1,
)

AreStas-ap : (aps : List ListedAp) (stas : List ListedSta) (a : ListedAp) → AreStas aps stas → AllByRecursion (λ (s : ListedSta). s.address ≢ a.address) stas → AreStas (aps ++ a ∷ []) stas
AreStas-ap aps [] a are others = tt
AreStas-ap aps (s ∷ stas) a are others = (
  are.0,
  record { no_ap = all_push (λ (b : ListedAp). b.address ≢ s.address) aps a are.1.no_ap (λ same. others.0 (sym same)); no_sta = are.1.no_sta },
  AreStas-ap aps stas a are.2 others.1,
)

pub in_form_ap : (d : Domain) (address : Mac) (id : List ℕ) → ap_fault d address id ≡ None → InForm d → InForm (with_ap d address id)
in_form_ap d address id free form =
    let a : ListedAp = record { address = address; r0kh_id = id } in
    let room = passed (nat_le most_aps (length d.aps)) Full _ free in
    let one = passed (not (is_single address.0)) Unfit _ room.1 in
    let sized = passed (not (is_id id)) Unfit _ one.1 in
    let new = passed (is_used d address) Unfit _ sized.1 in
    let other = passed (is_used_id d id) Unfit None new.1 in
    let sizes = and_parts _ _ (not-false _ sized.0) in
    let parts = none_of (list_any (λ (b : ListedAp). is_same b.address address) d.aps) (list_any (λ (s : ListedSta). is_same s.address address) d.stas) new.0 in
    record {
      some = form.some;
      few = form.few;
      aps = AreAps-push d.aps a form.aps (is_unicast address.0 (not-false _ one.0)) (leb-true 1 (length id) sizes.0) (leb-true (length id) 48 sizes.1)
          (none_of_aps address d.aps parts.0) (none_of_ids id d.aps other.0);
      stas = AreStas-ap d.aps d.stas a form.stas (none_of_stas address d.stas parts.1);
      few_aps = omega (arith, leb-false most_aps (length d.aps) room.0, length-append d.aps (a ∷ []));
      few_stas = form.few_stas;
    }

-- ---- one more station

AreStas-push : (aps : List ListedAp) (stas : List ListedSta) (s : ListedSta) → AreStas aps stas → IsUnicast s.address.0 → IsNew aps stas s.address → AreStas aps (stas ++ s ∷ [])
AreStas-push aps [] s are unicast new = (unicast, new, tt)
AreStas-push aps (x ∷ stas) s are unicast new = (
  are.0,
  record { no_ap = are.1.no_ap; no_sta = all_push (λ (y : ListedSta). y.address ≢ x.address) stas s are.1.no_sta (λ same. new.no_sta.0 (sym same)) },
  AreStas-push aps stas s are.2 unicast (record { no_ap = new.no_ap; no_sta = new.no_sta.1 }),
)

pub in_form_sta : (d : Domain) (address : Mac) (psk : List ℕ) → sta_fault d address ≡ None → InForm d → InForm (with_sta d address psk)
in_form_sta d address psk free form =
    let s : ListedSta = record { address = address; psk = psk } in
    let room = passed (nat_le most_stas (length d.stas)) Full _ free in
    let one = passed (not (is_single address.0)) Unfit _ room.1 in
    let new = passed (is_used d address) Unfit None one.1 in
    let parts = none_of (list_any (λ (b : ListedAp). is_same b.address address) d.aps) (list_any (λ (t : ListedSta). is_same t.address address) d.stas) new.0 in
    record {
      some = form.some;
      few = form.few;
      aps = form.aps;
      stas = AreStas-push d.aps d.stas s form.stas (is_unicast address.0 (not-false _ one.0))
          (record { no_ap = none_of_aps address d.aps parts.0; no_sta = none_of_stas address d.stas parts.1 });
      few_aps = form.few_aps;
      few_stas = omega (arith, leb-false most_stas (length d.stas) room.0, length-append d.stas (s ∷ []));
    }

-- ---- the larger network

pub grows_ap : (d : Domain) (address : Mac) (id : List ℕ) → Grows d (with_ap d address id)
grows_ap d address id = record {
  seed = refl;
  ssid = refl;
  akm = refl;
  mdid = refl;
  extras = refl;
  more_aps = record { address = address; r0kh_id = id } ∷ [];
  aps = refl;
  more_stas = [];
  stas = sym (append-nil d.stas);
}

pub grows_sta : (d : Domain) (address : Mac) (psk : List ℕ) → Grows d (with_sta d address psk)
grows_sta d address psk = record {
  seed = refl;
  ssid = refl;
  akm = refl;
  mdid = refl;
  extras = refl;
  more_aps = [];
  aps = sym (append-nil d.aps);
  more_stas = record { address = address; psk = psk } ∷ [];
  stas = refl;
}

-- ---- the network after an event

pub in_form_after : (d : Domain) (event : NodeEvent) → InForm d → InForm (after d event)
in_form_after d (Secret named psk) form = in_form_changed named psk d form
in_form_after d _ form = form

-- The network of a header is in form, and stays so with one more node that can be listed.
use Rattle.std.proofs.Common.{◌≡◌, ◌≢◌, ℕ, ◌≤◌, true, false, List, [], ◌∷◌, ◌++◌, length, bytes_eq, sym, ap, subst, ◌∙◌, arith}
use Rattle.std.specs.List.{AllByRecursion}
use Rattle.std.proofs.lemmas.Bool.{false≢true, eqb-true, and_parts, not-true}
use Rattle.std.proofs.lemmas.List.{length-append}
use Rattle.std.proofs.lemmas.Slice.Eq.{bytes_eq-Decides}
use Rattle.domain_base.specs.declared.names.Mac.{Mac}
use Rattle.run_journal.specs.declared.domain.Domain.{Domain}
use Rattle.run_journal.specs.declared.domain.ListedAp.{ListedAp}
use Rattle.run_journal.specs.declared.domain.ListedSta.{ListedSta}
use Rattle.domain_rules.specs.Network.{IsUnicast, IsNew, AreAps, AreStas, InForm}
use Rattle.run_journal.specs.Listing.{with_ap, with_sta}
use Rattle.script_words.specs.Tokens.{is_single}
use Rattle.script_lines.specs.Headers.{IsNetwork, CanListAp, CanListSta}

pub all_push : {A : Type 0} (P : A → Type 0) (xs : List A) (x : A) → AllByRecursion P xs → P x → AllByRecursion P (xs ++ x ∷ [])
all_push P [] x all here = (here, tt)
all_push P (y ∷ xs) x all here = (all.0, all_push P xs x all.1 here)

pub InForm-new : (d : Domain) → IsNetwork d → InForm d
InForm-new d n = record {
  some = n.some;
  few = n.few;
  aps = subst AreAps (sym n.no_aps) tt;
  stas = subst (AreStas d.aps) (sym n.no_stas) tt;
  few_aps = omega (arith, ap (λ (aps : List ListedAp). length aps) n.no_aps);
  few_stas = omega (arith, ap (λ (stas : List ListedSta). length stas) n.no_stas);
}

not_equal : (xs ys : List ℕ) → bytes_eq xs ys ≡ false → xs ≢ ys
not_equal xs ys e q = false≢true (sym e ∙ (bytes_eq-Decides xs ys).1 q)

is_unicast : (octets : List ℕ) → is_single octets ≡ true → IsUnicast octets
unfolding is_single
is_unicast octets is =
    let parts = and_parts _ _ is in
    (not_equal octets _ (not-true _ parts.0), eqb-true _ _ parts.1)

-- ---- one more access point

AreAps-push : (aps : List ListedAp) (a : ListedAp) → AreAps aps → IsUnicast a.address.0 → 1 ≤ length a.r0kh_id → length a.r0kh_id ≤ 48
    → AllByRecursion (λ (b : ListedAp). b.address ≢ a.address) aps → AllByRecursion (λ (b : ListedAp). b.r0kh_id ≢ a.r0kh_id) aps → AreAps (aps ++ a ∷ [])
AreAps-push [] a are unicast some few addresses ids = (unicast, some, few, tt, tt, tt)
AreAps-push (x ∷ aps) a are unicast some few addresses ids = (
  are.0,
  are.1,
  are.2,
  all_push (λ (b : ListedAp). b.address ≢ x.address) aps a are.3 (λ same. addresses.0 (sym same)),
  all_push (λ (b : ListedAp). b.r0kh_id ≢ x.r0kh_id) aps a are.4 (λ same. ids.0 (sym same)),
  AreAps-push aps a are.5 unicast some few addresses.1 ids.1,
)

-- the stations are none of them
AreStas-ap : (aps : List ListedAp) (stas : List ListedSta) (a : ListedAp) → AreStas aps stas → AllByRecursion (λ (s : ListedSta). s.address ≢ a.address) stas → AreStas (aps ++ a ∷ []) stas
AreStas-ap aps [] a are others = tt
AreStas-ap aps (s ∷ stas) a are others = (
  are.0,
  record { no_ap = all_push (λ (b : ListedAp). b.address ≢ s.address) aps a are.1.no_ap (λ same. others.0 (sym same)); no_sta = are.1.no_sta },
  AreStas-ap aps stas a are.2 others.1,
)

pub InForm-ap : (d : Domain) (address : Mac) (id : List ℕ) → InForm d → CanListAp d address id → InForm (with_ap d address id)
InForm-ap d address id form can =
    let a : ListedAp = record { address = address; r0kh_id = id } in
    record {
      some = form.some;
      few = form.few;
      aps = AreAps-push d.aps a form.aps (is_unicast address.0 can.address_.single) can.some can.few can.address_.no_ap can.other;
      stas = AreStas-ap d.aps d.stas a form.stas can.address_.no_sta;
      few_aps = omega (arith, can.room, length-append d.aps (a ∷ []));
      few_stas = form.few_stas;
    }

-- ---- one more station

AreStas-push : (aps : List ListedAp) (stas : List ListedSta) (s : ListedSta) → AreStas aps stas → IsUnicast s.address.0 → IsNew aps stas s.address → AreStas aps (stas ++ s ∷ [])
AreStas-push aps [] s are unicast new = (unicast, new, tt)
AreStas-push aps (x ∷ stas) s are unicast new = (
  are.0,
  record { no_ap = are.1.no_ap; no_sta = all_push (λ (y : ListedSta). y.address ≢ x.address) stas s are.1.no_sta (λ same. new.no_sta.0 (sym same)) },
  AreStas-push aps stas s are.2 unicast (record { no_ap = new.no_ap; no_sta = new.no_sta.1 }),
)

pub InForm-sta : (d : Domain) (address : Mac) (psk : List ℕ) → InForm d → CanListSta d address → InForm (with_sta d address psk)
InForm-sta d address psk form can =
    let s : ListedSta = record { address = address; psk = psk } in
    record {
      some = form.some;
      few = form.few;
      aps = form.aps;
      stas = AreStas-push d.aps d.stas s form.stas (is_unicast address.0 can.address_.single) (record { no_ap = can.address_.no_ap; no_sta = can.address_.no_sta });
      few_aps = form.few_aps;
      few_stas = omega (arith, can.room, length-append d.stas (s ∷ []));
    }

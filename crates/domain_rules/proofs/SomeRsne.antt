-- A body is one RSNE, or has a fault.
use Rattle.std.proofs.Common.{◌≡◌, ◌⊎◌, ℕ, ◌+◌, ◌*◌, ◌<◌, ◌≤◌, List, [], ◌∷◌, ◌++◌, length, take, drop, Option, Some, None, Err, refl, sym, ap, subst, ◌∙◌, arith, inl, inr}
use Rattle.std.specs.Int.{w16}
use Rattle.std.proofs.lemmas.Bool.{cases_lt}
use Rattle.std.proofs.lemmas.List.{take-append-drop, length-append}
use Rattle.domain_base.specs.Places.{little_endian_at}
use Rattle.rsn_elements.specs.declared.faults.FaultKind.{FaultKind}
use Rattle.rsn_elements.specs.declared.faults.FaultKind.TheVariants.{Length, Version}
use Rattle.rsn_elements.specs.Rsne.{RsneFields, IsSuite, IsNumber, IsList, Field, SpellsRsne}
use Rattle.rsn_elements.specs.RsneSteps.{IsBroken, IsRsneRead}
use Rattle.rsn_elements.proofs.FieldsRead.{suite_read, suite_short, number_read, list_read, list_short}
use Rattle.rsn_elements.proofs.RsneLaws.{at_version, at_group, at_pairwise, at_akms, at_capabilities, at_pmkids, broken}
use Rattle.domain_rules.proofs.Searching.{OrNot, same_lists}

-- ---- one field at the front

-- a field stands there, or none does
abbrev IsField : {A : Type 0} → (List ℕ → A → Type 0) → List ℕ → Type 0
IsField {A} Spells octets = ((o : Option A) × ((rest : List ℕ) × Field Spells octets o rest)) ⊎ IsBroken Spells octets

suite_field : (octets : List ℕ) → IsField IsSuite octets
suite_field [] = inl (None, ([], (refl, refl)))
suite_field (x ∷ xs) = by (cases_lt (length (x ∷ xs)) 4)
  where
    by : (length (x ∷ xs) < 4) ⊎ (4 ≤ length (x ∷ xs)) → IsField IsSuite (x ∷ xs)
    by (inl few) = inr (suite_short (x ∷ xs) (omega arith) few)
    by (inr long) = inl (Some (take 4 (x ∷ xs)), (drop 4 (x ∷ xs), suite_read (x ∷ xs) (drop 4 (x ∷ xs)) (take 4 (x ∷ xs)) long refl refl))

number_short : (x : ℕ) → IsBroken IsNumber (x ∷ [])
number_short x None rest h = cc (h.0)
number_short x (Some a) rest h =
    let spelled : IsNumber h.0 a = h.2 in
    omega (arith, spelled.0, ap length h.1, length-append h.0 rest)

number_field : (octets : List ℕ) → IsField IsNumber octets
number_field [] = inl (None, ([], (refl, refl)))
number_field (x ∷ []) = inr (number_short x)
number_field (x ∷ y ∷ xs) = inl (Some (little_endian_at w16 0 (x ∷ y ∷ xs)), (drop 2 (x ∷ y ∷ xs), number_read (x ∷ y ∷ xs) (drop 2 (x ∷ y ∷ xs)) (little_endian_at w16 0 (x ∷ y ∷ xs)) (omega arith) refl refl))

list_field : (n : ℕ) (octets : List ℕ) → IsField (IsList n) octets
list_field n [] = inl (None, ([], (refl, refl)))
list_field n (x ∷ xs) = by (cases_lt (length (x ∷ xs)) (2 + n * little_endian_at w16 0 (x ∷ xs)))
  where
    by : (length (x ∷ xs) < 2 + n * little_endian_at w16 0 (x ∷ xs)) ⊎ (2 + n * little_endian_at w16 0 (x ∷ xs) ≤ length (x ∷ xs)) → IsField (IsList n) (x ∷ xs)
    by (inl few) = inr (list_short n (2 + n * little_endian_at w16 0 (x ∷ xs)) (x ∷ xs) (omega arith) refl few)
    by (inr long) =
        let size : ℕ = 2 + n * little_endian_at w16 0 (x ∷ xs) in
        let front : List ℕ = take size (x ∷ xs) in
        inl (Some (drop 2 front), (drop size (x ∷ xs), list_read n size (x ∷ xs) front (drop size (x ∷ xs)) (drop 2 front) refl long refl refl refl))

-- ---- the fields after the version, one after the other

module _ (r0 : List ℕ) where
  abbrev whole : List ℕ
  whole = 1 ∷ 0 ∷ r0

  abbrev Told : Type 0
  Told = OrNot ((f : RsneFields) × SpellsRsne whole f)

  management : (r1 r2 r3 r4 r5 : List ℕ) (g p a : Option (List ℕ)) (c : Option ℕ) (n : Option (List ℕ)) → Field IsSuite r0 g r1 → Field (IsList 4) r1 p r2 → Field (IsList 4) r2 a r3 → Field IsNumber r3 c r4 → Field (IsList 16) r4 n r5
      → ((f : RsneFields) (s : SpellsRsne whole f) → s.behind_pmkids ≡ r5) → IsField IsSuite r5 → Told
  management r1 r2 r3 r4 r5 g p a c n group_is pairwise_is akms_is capabilities_is pmkids_is at (inl (m, (r6, management_is))) =
      inl (
        record { version = 1; group = g; pairwise = p; akms = a; capabilities = c; pmkids = n; management = m },
        record {
          behind_version = r0;
          behind_group = r1;
          behind_pairwise = r2;
          behind_akms = r3;
          behind_capabilities = r4;
          behind_pmkids = r5;
          behind_management = r6;
          one = refl;
          version = refl;
          group = group_is;
          pairwise = pairwise_is;
          akms = akms_is;
          capabilities = capabilities_is;
          pmkids = pmkids_is;
          management = management_is;
        },
      )
  management r1 r2 r3 r4 r5 g p a c n group_is pairwise_is akms_is capabilities_is pmkids_is at (inr none) =
      inr (λ w. broken IsSuite w.1.behind_pmkids r5 w.1.behind_management w.0.management (at w.0 w.1) w.1.management none)

  pmkids : (r1 r2 r3 r4 : List ℕ) (g p a : Option (List ℕ)) (c : Option ℕ) → Field IsSuite r0 g r1 → Field (IsList 4) r1 p r2 → Field (IsList 4) r2 a r3 → Field IsNumber r3 c r4
      → ((f : RsneFields) (s : SpellsRsne whole f) → s.behind_capabilities ≡ r4) → IsField (IsList 16) r4 → Told
  pmkids r1 r2 r3 r4 g p a c group_is pairwise_is akms_is capabilities_is at (inl (n, (r5, is))) =
      management r1 r2 r3 r4 r5 g p a c n group_is pairwise_is akms_is capabilities_is is (λ f s. (at_pmkids whole f s r4 r5 n (at f s) is).1) (suite_field r5)
  pmkids r1 r2 r3 r4 g p a c group_is pairwise_is akms_is capabilities_is at (inr none) =
      inr (λ w. broken (IsList 16) w.1.behind_capabilities r4 w.1.behind_pmkids w.0.pmkids (at w.0 w.1) w.1.pmkids none)

  capabilities : (r1 r2 r3 : List ℕ) (g p a : Option (List ℕ)) → Field IsSuite r0 g r1 → Field (IsList 4) r1 p r2 → Field (IsList 4) r2 a r3 → ((f : RsneFields) (s : SpellsRsne whole f) → s.behind_akms ≡ r3) → IsField IsNumber r3 → Told
  capabilities r1 r2 r3 g p a group_is pairwise_is akms_is at (inl (c, (r4, is))) =
      pmkids r1 r2 r3 r4 g p a c group_is pairwise_is akms_is is (λ f s. (at_capabilities whole f s r3 r4 c (at f s) is).1) (list_field 16 r4)
  capabilities r1 r2 r3 g p a group_is pairwise_is akms_is at (inr none) =
      inr (λ w. broken IsNumber w.1.behind_akms r3 w.1.behind_capabilities w.0.capabilities (at w.0 w.1) w.1.capabilities none)

  akms : (r1 r2 : List ℕ) (g p : Option (List ℕ)) → Field IsSuite r0 g r1 → Field (IsList 4) r1 p r2 → ((f : RsneFields) (s : SpellsRsne whole f) → s.behind_pairwise ≡ r2) → IsField (IsList 4) r2 → Told
  akms r1 r2 g p group_is pairwise_is at (inl (a, (r3, is))) =
      capabilities r1 r2 r3 g p a group_is pairwise_is is (λ f s. (at_akms whole f s r2 r3 a (at f s) is).1) (number_field r3)
  akms r1 r2 g p group_is pairwise_is at (inr none) =
      inr (λ w. broken (IsList 4) w.1.behind_pairwise r2 w.1.behind_akms w.0.akms (at w.0 w.1) w.1.akms none)

  pairwise : (r1 : List ℕ) (g : Option (List ℕ)) → Field IsSuite r0 g r1 → ((f : RsneFields) (s : SpellsRsne whole f) → s.behind_group ≡ r1) → IsField (IsList 4) r1 → Told
  pairwise r1 g group_is at (inl (p, (r2, is))) =
      akms r1 r2 g p group_is is (λ f s. (at_pairwise whole f s r1 r2 p (at f s) is).1) (list_field 4 r2)
  pairwise r1 g group_is at (inr none) =
      inr (λ w. broken (IsList 4) w.1.behind_group r1 w.1.behind_pairwise w.0.pairwise (at w.0 w.1) w.1.pairwise none)

  group : IsField IsSuite r0 → Told
  group (inl (g, (r1, is))) = pairwise r1 g is (λ f s. (at_group whole f s r0 r1 g (at_version whole f s r0 refl) is).1) (list_field 4 r1)
  group (inr none) = inr (λ w. broken IsSuite w.1.behind_version r0 w.1.behind_group w.0.group (at_version whole w.0 w.1 r0 refl) w.1.group none)

-- ---- the body

abbrev pub RsneTold : List ℕ → Type 0
RsneTold body = ((f : RsneFields) × SpellsRsne body f) ⊎ ((kind : FaultKind) × IsRsneRead body (Err kind))

pub rsne_told : (body : List ℕ) → RsneTold body
rsne_told body = by (cases_lt (length body) 2)
  where
    fields : take 2 body ≡ 1 ∷ 0 ∷ [] → body ≡ 1 ∷ 0 ∷ drop 2 body → OrNot ((f : RsneFields) × SpellsRsne (1 ∷ 0 ∷ drop 2 body) f) → RsneTold body
    fields one is (inl (f, s)) = inl (f, subst (λ (x : List ℕ). SpellsRsne x f) (sym is) s)
    fields one is (inr none) = inr (Length, ((λ other. other.1 one), (λ f s. none (f, subst (λ (x : List ℕ). SpellsRsne x f) is s))))

    version : 2 ≤ length body → OrNot (take 2 body ≡ 1 ∷ 0 ∷ []) → RsneTold body
    version long (inl one) = fields one (sym (take-append-drop 2 body) ∙ ap (λ (x : List ℕ). x ++ drop 2 body) one) (group (drop 2 body) (suite_field (drop 2 body)))
    version long (inr other) = inr (Version, (long, other))

    by : (length body < 2) ⊎ (2 ≤ length body) → RsneTold body
    by (inl few) = inr (Length, ((λ other. omega (arith, other.0, few)), (λ f s. omega (arith, few, ap length s.version))))
    by (inr long) = version long (same_lists (take 2 body) (1 ∷ 0 ∷ []))

-- A body spells one RSNE at most.
use Rattle.std.proofs.Common.{◌≡◌, ℕ, ◌+◌, ◌-◌, ◌*◌, ◌<◌, ◌≤◌, List, [], ◌∷◌, ◌++◌, length, take, drop, get_or, Option, Some, None, refl, sym, ap, subst, ◌∙◌, arith}
use Rattle.std.specs.Int.{w16, from_le_bytes}
use Rattle.std.proofs.lemmas.List.{take-append-le, length-append, take_all}
use Rattle.domain_base.specs.Places.{little_endian_at}
use Rattle.rsn_elements.specs.Rsne.{RsneFields, IsSuite, IsNumber, IsList, Field, SpellsRsne}
use Rattle.rsn_elements.specs.RsneSteps.{IsBroken, LeadsBy}
use Rattle.rsn_elements.proofs.Cuts.{same_cut}

-- a field that is there has octets, and its octets end at one place and have one value
pub record IsCut {A : Type 0} (Spells : List ℕ → A → Type 0) : Type 0 where
  pub some : (x : List ℕ) (a : A) → Spells x a → 0 < length x
  pub long : (x y xs ys : List ℕ) (a b : A) → x ++ xs ≡ y ++ ys → Spells x a → Spells y b → length x ≡ length y
  pub value : (x : List ℕ) (a b : A) → Spells x a → Spells x b → a ≡ b

none_some : (x xs : List ℕ) → [] ≡ x ++ xs → 0 < length x → ⊥
none_some x xs e h = omega (arith, h, ap length e, length-append x xs)

pub same_field : {A : Type 0} (Spells : List ℕ → A → Type 0) → IsCut Spells → (octets r s : List ℕ) (o p : Option A) → Field Spells octets o r → Field Spells octets p s → (o ≡ p) × (r ≡ s)
same_field Spells cut octets r s None None a b = (refl, a.1 ∙ sym b.1)
same_field Spells cut octets r s None (Some y) a b = absurd (none_some b.0 s (sym a.0 ∙ b.1) (cut.some b.0 y b.2))
same_field Spells cut octets r s (Some x) None a b = absurd (none_some a.0 r (sym b.0 ∙ a.1) (cut.some a.0 x a.2))
same_field {A} Spells cut octets r s (Some x) (Some y) a b =
    let whole : a.0 ++ r ≡ b.0 ++ s = sym a.1 ∙ b.1 in
    let both = same_cut a.0 b.0 r s (cut.long a.0 b.0 r s x y whole a.2 b.2) whole in
    (ap (λ (z : A). Some z) (cut.value b.0 x y (subst (λ (w : List ℕ). Spells w x) both.0 a.2) b.2), both.1)

pub suite_cut : IsCut IsSuite
suite_cut = record {
  some = λ x a h. omega (arith, h.0);
  long = λ x y xs ys a b e h k. h.0 ∙ sym k.0;
  value = λ x a b h k. h.1 ∙ sym k.1;
}

pub number_cut : IsCut IsNumber
number_cut = record {
  some = λ x a h. omega (arith, h.0);
  long = λ x y xs ys a b e h k. h.0 ∙ sym k.0;
  value = λ x a b h k. h.1 ∙ sym k.1;
}

count_at_front : (x xs : List ℕ) → 2 ≤ length x → little_endian_at w16 0 (x ++ xs) ≡ little_endian_at w16 0 x
count_at_front x xs h = ap (λ (w : List ℕ). from_le_bytes w16 w) (take-append-le 2 x xs h)

same_count : (x y xs ys : List ℕ) → 2 ≤ length x → 2 ≤ length y → x ++ xs ≡ y ++ ys → little_endian_at w16 0 x ≡ little_endian_at w16 0 y
same_count x y xs ys h k e = sym (count_at_front x xs h) ∙ ap (λ (w : List ℕ). little_endian_at w16 0 w) e ∙ count_at_front y ys k

pub list_cut : (n : ℕ) → IsCut (IsList n)
list_cut n = record {
  some = λ x a h. omega (arith, h.0);
  long = λ x y xs ys a b e h k. h.1 ∙ ap (λ (count : ℕ). 2 + n * count) (same_count x y xs ys h.0 k.0 e) ∙ sym k.1;
  value = λ x a b h k. h.2 ∙ sym k.2;
}

-- The fields read so far are those of any RSNE that the body spells, and so is the rest behind them.
module _ (body : List ℕ) (f : RsneFields) (s : SpellsRsne body f) where
  pub at_version : (r0 : List ℕ) → body ≡ 1 ∷ 0 ∷ r0 → s.behind_version ≡ r0
  at_version r0 e = cc (s.version, e)

  pub at_group : (r0 r1 : List ℕ) (g : Option (List ℕ)) → s.behind_version ≡ r0 → Field IsSuite r0 g r1 → (f.group ≡ g) × (s.behind_group ≡ r1)
  at_group r0 r1 g e h = same_field IsSuite suite_cut r0 _ r1 f.group g (subst (λ (w : List ℕ). Field IsSuite w f.group s.behind_group) e s.group) h

  pub at_pairwise : (r1 r2 : List ℕ) (p : Option (List ℕ)) → s.behind_group ≡ r1 → Field (IsList 4) r1 p r2 → (f.pairwise ≡ p) × (s.behind_pairwise ≡ r2)
  at_pairwise r1 r2 p e h = same_field (IsList 4) (list_cut 4) r1 _ r2 f.pairwise p (subst (λ (w : List ℕ). Field (IsList 4) w f.pairwise s.behind_pairwise) e s.pairwise) h

  pub at_akms : (r2 r3 : List ℕ) (a : Option (List ℕ)) → s.behind_pairwise ≡ r2 → Field (IsList 4) r2 a r3 → (f.akms ≡ a) × (s.behind_akms ≡ r3)
  at_akms r2 r3 a e h = same_field (IsList 4) (list_cut 4) r2 _ r3 f.akms a (subst (λ (w : List ℕ). Field (IsList 4) w f.akms s.behind_akms) e s.akms) h

  pub at_capabilities : (r3 r4 : List ℕ) (c : Option ℕ) → s.behind_akms ≡ r3 → Field IsNumber r3 c r4 → (f.capabilities ≡ c) × (s.behind_capabilities ≡ r4)
  at_capabilities r3 r4 c e h = same_field IsNumber number_cut r3 _ r4 f.capabilities c (subst (λ (w : List ℕ). Field IsNumber w f.capabilities s.behind_capabilities) e s.capabilities) h

  pub at_pmkids : (r4 r5 : List ℕ) (p : Option (List ℕ)) → s.behind_capabilities ≡ r4 → Field (IsList 16) r4 p r5 → (f.pmkids ≡ p) × (s.behind_pmkids ≡ r5)
  at_pmkids r4 r5 p e h = same_field (IsList 16) (list_cut 16) r4 _ r5 f.pmkids p (subst (λ (w : List ℕ). Field (IsList 16) w f.pmkids s.behind_pmkids) e s.pmkids) h

  pub at_management : (r5 r6 : List ℕ) (m : Option (List ℕ)) → s.behind_pmkids ≡ r5 → Field IsSuite r5 m r6 → f.management ≡ m
  at_management r5 r6 m e h = (same_field IsSuite suite_cut r5 _ r6 f.management m (subst (λ (w : List ℕ). Field IsSuite w f.management s.behind_management) e s.management) h).0

-- The suites at the front of two readings are the same, and so are those of an RSNE that the body spells.
pub same_leading : (octets r s : List ℕ) (g h p q a b : Option (List ℕ)) → LeadsBy octets g p a r → LeadsBy octets h q b s → ((g ≡ h) × (p ≡ q)) × ((a ≡ b) × (r ≡ s))
same_leading octets r s g h p q a b l m =
    let group = same_field IsSuite suite_cut octets _ _ g h l.group m.group in
    let pairwise = same_field (IsList 4) (list_cut 4) _ _ _ p q (subst (λ (w : List ℕ). Field (IsList 4) w p l.behind_pairwise) group.1 l.pairwise) m.pairwise in
    let akms = same_field (IsList 4) (list_cut 4) _ r s a b (subst (λ (w : List ℕ). Field (IsList 4) w a r) pairwise.1 l.akms) m.akms in
    ((group.0, pairwise.0), (akms.0, akms.1))

pub leads : (body octets : List ℕ) (f : RsneFields) (s : SpellsRsne body f) → s.behind_version ≡ octets → LeadsBy octets f.group f.pairwise f.akms s.behind_akms
leads body octets f s e = record {
  behind_group = s.behind_group;
  behind_pairwise = s.behind_pairwise;
  group = subst (λ (w : List ℕ). Field IsSuite w f.group s.behind_group) e s.group;
  pairwise = s.pairwise;
  akms = s.akms;
}

pub at_leading : (octets r : List ℕ) (f : RsneFields) (s : SpellsRsne (1 ∷ 0 ∷ octets) f) (g p a : Option (List ℕ)) → LeadsBy octets g p a r → s.behind_akms ≡ r
at_leading octets r f s g p a l = (same_leading octets _ r f.group g f.pairwise p f.akms a (leads _ octets f s (at_version _ f s octets refl)) l).1.1

made : ℕ → Option (List ℕ) → Option (List ℕ) → Option (List ℕ) → Option ℕ → Option (List ℕ) → Option (List ℕ) → RsneFields
made v g p a c n m = record { version = v; group = g; pairwise = p; akms = a; capabilities = c; pmkids = n; management = m }

same_made : (f g : RsneFields) → f.version ≡ g.version → f.group ≡ g.group → f.pairwise ≡ g.pairwise → f.akms ≡ g.akms → f.capabilities ≡ g.capabilities → f.pmkids ≡ g.pmkids → f.management ≡ g.management
    → made f.version f.group f.pairwise f.akms f.capabilities f.pmkids f.management ≡ made g.version g.group g.pairwise g.akms g.capabilities g.pmkids g.management
same_made f g a b c d e h k = cc

same_parts : (f g : RsneFields) → f.version ≡ g.version → f.group ≡ g.group → f.pairwise ≡ g.pairwise → f.akms ≡ g.akms → f.capabilities ≡ g.capabilities → f.pmkids ≡ g.pmkids → f.management ≡ g.management → f ≡ g
unfolding made
same_parts f g a b c d e h k = same_made f g a b c d e h k

pub same_rsne : (body : List ℕ) (f g : RsneFields) → SpellsRsne body f → SpellsRsne body g → f ≡ g
same_rsne body f g s t =
    let version = at_version body f s _ t.version in
    let group = at_group body f s _ _ _ version t.group in
    let pairwise = at_pairwise body f s _ _ _ group.1 t.pairwise in
    let akms = at_akms body f s _ _ _ pairwise.1 t.akms in
    let capabilities = at_capabilities body f s _ _ _ akms.1 t.capabilities in
    let pmkids = at_pmkids body f s _ _ _ capabilities.1 t.pmkids in
    let management = at_management body f s _ _ _ pmkids.1 t.management in
    same_parts f g (s.one ∙ sym t.one) group.0 pairwise.0 akms.0 capabilities.0 pmkids.0 management

-- where the body spells an RSNE, each field stands
pub broken : {A : Type 0} (Spells : List ℕ → A → Type 0) (octets now rest : List ℕ) (o : Option A) → octets ≡ now → Field Spells octets o rest → IsBroken Spells now → ⊥
broken Spells octets now rest o e h b = b o rest (subst (λ (w : List ℕ). Field Spells w o rest) e h)

-- the two octets of a version, and the rest
pub begins : (body : List ℕ) → 2 ≤ length body → get_or body 0 0 ≡ 1 → get_or body 1 0 ≡ 0 → body ≡ 1 ∷ 0 ∷ take (length body - 2) (drop 2 body)
begins [] h a b = absurd (omega arith)
begins (x ∷ []) h a b = absurd (omega arith)
begins (x ∷ y ∷ rest) h a b =
    let size : length (x ∷ y ∷ rest) - 2 ≡ length rest = omega arith in
    rw (a, b, size, take_all (length rest) rest (omega arith)) refl

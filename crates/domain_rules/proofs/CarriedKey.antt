-- The group key in the wrapped key data of M3 is read back as it was sent.
use Rattle.std.proofs.Common.{◌≡◌, ℕ, zero, suc, ◌<◌, ◌≤◌, ◌%◌, List, [], ◌∷◌, ◌++◌, length, Some, None, refl, sym, ap, subst, ◌∙◌, arith, Bool, true, false, cond, ltb}
use Rattle.std.specs.Prelude.{replicate}
use Rattle.std.proofs.lemmas.Bool.{ltb-true}
use Rattle.std.proofs.lemmas.List.{append-nil, length-append}
use Rattle.std.proofs.lemmas.List.Elements.{All-nil, All-cons, All-append, All-replicate}
use Rattle.domain_base.specs.Octets.{AreOctets}
use Rattle.key_wrap.specs.KeyWrap.{Wraps}
use Rattle.key_wrap.proofs.UniqueLemmas.{Wraps-unique, length-Wraps}
use Rattle.domain_base.specs.declared.names.Akm.{Akm}
use Rattle.domain_base.specs.declared.names.Akm.TheVariants.{Psk, PskSha256, FtPsk}
use Rattle.rsn_elements.specs.declared.framing.Within.TheVariants.{KeyData}
use Rattle.rsn_elements.specs.Elements.{ElementFields, SpellsElements}
use Rattle.rsn_elements.specs.Sent.{rsne_octets, gtk_kde_octets}
use Rattle.rsn_elements.specs.Pieces.{SentRsne, SentGtkKde, said}
use Rattle.rsn_elements.proofs.Apart.{one_value}
use Rattle.rsn_elements.proofs.PiecesTell.{pieces_spelled}
use Rattle.domain_base.specs.Padding.{padding, padding_octets}
use Rattle.key_hierarchy.specs.Keys.{ptk}
use Rattle.key_hierarchy.specs.declared.inputs.Inputs.{Inputs}
use Rattle.run_journal.specs.declared.domain.Domain.{Domain}
use Rattle.run_journal.specs.Acts.{GroupKey}
use Rattle.domain_rules.specs.Frames.{wrapped, g1_key_data}
use Rattle.domain_rules.proofs.SuiteWords.{plain_key_data}
use Rattle.domain_rules.specs.StationRows.{carried}
use Rattle.domain_rules.proofs.KeyOctets.{octets-kek}
use Rattle.domain_rules.specs.GroupKeys.{gtk_news}

-- a group key as access points have it
pub record IsGroupKey (g : GroupKey) : Type 0 where
  pub octets : AreOctets g.key
  pub size : length g.key ≡ 16
  pub low : g.id < 4

-- ---- lists of octets

abbrev pub are_few : List ℕ → Bool
are_few [] = true
are_few (x ∷ xs) = cond (ltb x 256) (are_few xs) false

few_by : (x : ℕ) (xs : List ℕ) (b : Bool) → ltb x 256 ≡ b → (are_few xs ≡ true → AreOctets xs) → cond b (are_few xs) false ≡ true → AreOctets (x ∷ xs)
few_by x xs true low more few = All-cons (λ y. y < 256) x xs (ltb-true x 256 low) (more few)
few_by x xs false low more few = cc

pub octets_few : (xs : List ℕ) → are_few xs ≡ true → AreOctets xs
octets_few [] few = All-nil (λ y. y < 256)
octets_few (x ∷ xs) few = few_by x xs (ltb x 256) refl (octets_few xs) few

pub octets_both : (xs ys : List ℕ) → AreOctets xs → AreOctets ys → AreOctets (xs ++ ys)
octets_both xs ys a b = All-append (λ x. x < 256) xs ys a b

pub octets_more : (x : ℕ) (xs : List ℕ) → x < 256 → AreOctets xs → AreOctets (x ∷ xs)
octets_more x xs low all = All-cons (λ y. y < 256) x xs low all

pub octets_pad : (n : ℕ) → AreOctets (padding_octets n)
octets_pad zero = All-nil (λ y. y < 256)
octets_pad (suc n) = octets_more 0xdd (replicate n 0x00) (omega arith) (All-replicate (λ y. y < 256) n 0 (omega arith))

-- ---- the key data of M3

octets_rsne : (akm : Akm) → AreOctets (rsne_octets akm None)
octets_rsne Psk = octets_few (rsne_octets Psk None) refl
octets_rsne PskSha256 = octets_few (rsne_octets PskSha256 None) refl
octets_rsne FtPsk = octets_few (rsne_octets FtPsk None) refl

abbrev plain_octets : Domain → GroupKey → List ℕ
plain_octets d g = rsne_octets d.akm None ++ gtk_kde_octets g.id g.key

size_of : (d : Domain) (g : GroupKey) → IsGroupKey g → length (plain_octets d g) ≡ 46
size_of d g is = omega (arith, is.size)

pad_is : (n : ℕ) → n ≡ 46 → padding_octets (padding n) ≡ 0xdd ∷ 0x00 ∷ []
pad_is n e = rw e refl

data_is : (d : Domain) (g : GroupKey) → IsGroupKey g → plain_key_data d g ≡ plain_octets d g ++ 0xdd ∷ 0x00 ∷ []
data_is d g is = ap (λ (x : List ℕ). plain_octets d g ++ x) (pad_is (length (plain_octets d g)) (size_of d g is))

length-data : (d : Domain) (g : GroupKey) → IsGroupKey g → length (plain_key_data d g) ≡ 48
length-data d g is = ap length (data_is d g is) ∙ length-append (plain_octets d g) (0xdd ∷ 0x00 ∷ []) ∙ omega (arith, size_of d g is)

pub octets_kde : (g : GroupKey) → IsGroupKey g → AreOctets (gtk_kde_octets g.id g.key)
octets_kde g is = All-append (λ x. x < 256) (0xdd ∷ 0x16 ∷ 0x00 ∷ 0x0f ∷ 0xac ∷ 0x01 ∷ []) (g.id ∷ 0x00 ∷ g.key) (octets_few (0xdd ∷ 0x16 ∷ 0x00 ∷ 0x0f ∷ 0xac ∷ 0x01 ∷ []) refl)
    (All-cons (λ x. x < 256) g.id (0x00 ∷ g.key) (omega (arith, is.low)) (All-cons (λ x. x < 256) 0 g.key (omega arith) is.octets))

octets_data : (d : Domain) (g : GroupKey) → IsGroupKey g → AreOctets (plain_key_data d g)
octets_data d g is = subst AreOctets (sym (data_is d g is))
    (All-append (λ x. x < 256) (plain_octets d g) (0xdd ∷ 0x00 ∷ []) (All-append (λ x. x < 256) (rsne_octets d.akm None) (gtk_kde_octets g.id g.key) (octets_rsne d.akm) (octets_kde g is)) (octets_few (0xdd ∷ 0x00 ∷ []) refl))

pub wrapped_is : (d : Domain) (kek : List ℕ) (g : GroupKey) → IsGroupKey g → Wraps kek (plain_key_data d g) (wrapped kek (plain_key_data d g))
wrapped_is d kek g is = record {
  whole_blocks = ap (λ (n : ℕ). n % 8) (length-data d g is);
  two_blocks = omega (arith, length-data d g is);
  are_octets = octets_data d g is;
  wrapped = refl;
}

pub few_wrapped : (d : Domain) (kek : List ℕ) (g : GroupKey) → AreOctets kek → IsGroupKey g → length (wrapped kek (plain_key_data d g)) ≤ 65440
few_wrapped d kek g octets is = omega (arith, (length-Wraps kek (plain_key_data d g) (wrapped kek (plain_key_data d g)) octets (wrapped_is d kek g is)).0, length-data d g is)

pub says : (d : Domain) (g : GroupKey) → IsGroupKey g → SpellsElements KeyData (plain_key_data d g) (said KeyData (SentRsne d.akm None ∷ SentGtkKde g.id g.key ∷ []))
says d g is = subst (λ (x : List ℕ). SpellsElements KeyData x (said KeyData (SentRsne d.akm None ∷ SentGtkKde g.id g.key ∷ [])))
    (ap (λ (x : List ℕ). (rsne_octets d.akm None ++ x) ++ 0xdd ∷ 0x00 ∷ []) (append-nil (gtk_kde_octets g.id g.key)) ∙ sym (data_is d g is))
    (pieces_spelled KeyData (SentRsne d.akm None ∷ SentGtkKde g.id g.key ∷ []) [] (0xdd ∷ 0x00 ∷ []) (tt, ((is.low, is.size), tt)) ((refl, tt), (tt, tt)) tt (refl, refl))

-- whoever unwraps what was wrapped has the key that was put in
pub one_carried : (d : Domain) (i : Inputs) (g : GroupKey) (plain : List ℕ) (e : ElementFields) → IsGroupKey g → Wraps (ptk i).kek plain (wrapped (ptk i).kek (plain_key_data d g)) → SpellsElements KeyData plain e → carried (Some e) ≡ g
one_carried d i g plain e is wraps spelled =
    let one : plain ≡ plain_key_data d g = Wraps-unique (ptk i).kek plain (plain_key_data d g) (wrapped (ptk i).kek (plain_key_data d g)) (octets-kek i) wraps (wrapped_is d (ptk i).kek g is) in
    let value = one_value KeyData (plain_key_data d g) e (said KeyData (SentRsne d.akm None ∷ SentGtkKde g.id g.key ∷ [])) (subst (λ (x : List ℕ). SpellsElements KeyData x e) one spelled) (says d g is) in
    ap (λ (x : ElementFields). carried (Some x)) value

-- ---- the same of G1, whose key data is a group key alone, and needs no padding

pub size_kde : (g : GroupKey) → IsGroupKey g → length (gtk_kde_octets g.id g.key) ≡ 24
size_kde g is = omega (arith, is.size)

no_pad : (n : ℕ) → n ≡ 24 → padding_octets (padding n) ≡ []
no_pad n e = rw e refl

g1_data_is : (g : GroupKey) → IsGroupKey g → g1_key_data (gtk_news g 0) ≡ gtk_kde_octets g.id g.key
g1_data_is g is = ap (λ (x : List ℕ). gtk_kde_octets g.id g.key ++ x) (no_pad (length (gtk_kde_octets g.id g.key)) (size_kde g is)) ∙ append-nil (gtk_kde_octets g.id g.key)

length-g1_data : (g : GroupKey) → IsGroupKey g → length (g1_key_data (gtk_news g 0)) ≡ 24
length-g1_data g is = ap length (g1_data_is g is) ∙ size_kde g is

pub wrapped_g1 : (kek : List ℕ) (g : GroupKey) → IsGroupKey g → Wraps kek (g1_key_data (gtk_news g 0)) (wrapped kek (g1_key_data (gtk_news g 0)))
wrapped_g1 kek g is = record {
  whole_blocks = ap (λ (n : ℕ). n % 8) (length-g1_data g is);
  two_blocks = omega (arith, length-g1_data g is);
  are_octets = subst AreOctets (sym (g1_data_is g is)) (octets_kde g is);
  wrapped = refl;
}

pub few_wrapped_g1 : (kek : List ℕ) (g : GroupKey) → AreOctets kek → IsGroupKey g → length (wrapped kek (g1_key_data (gtk_news g 0))) ≤ 65440
few_wrapped_g1 kek g octets is = omega (arith, (length-Wraps kek (g1_key_data (gtk_news g 0)) (wrapped kek (g1_key_data (gtk_news g 0))) octets (wrapped_g1 kek g is)).0, length-g1_data g is)

pub says_g1 : (g : GroupKey) → IsGroupKey g → SpellsElements KeyData (g1_key_data (gtk_news g 0)) (said KeyData (SentGtkKde g.id g.key ∷ []))
says_g1 g is = subst (λ (x : List ℕ). SpellsElements KeyData x (said KeyData (SentGtkKde g.id g.key ∷ [])))
    (append-nil (gtk_kde_octets g.id g.key ++ []) ∙ append-nil (gtk_kde_octets g.id g.key) ∙ sym (g1_data_is g is))
    (pieces_spelled KeyData (SentGtkKde g.id g.key ∷ []) [] [] ((is.low, is.size), tt) (tt, tt) tt tt)

pub one_carried_g1 : (i : Inputs) (g : GroupKey) (plain : List ℕ) (e : ElementFields) → IsGroupKey g → Wraps (ptk i).kek plain (wrapped (ptk i).kek (g1_key_data (gtk_news g 0))) → SpellsElements KeyData plain e → carried (Some e) ≡ g
one_carried_g1 i g plain e is wraps spelled =
    let one : plain ≡ g1_key_data (gtk_news g 0) = Wraps-unique (ptk i).kek plain (g1_key_data (gtk_news g 0)) (wrapped (ptk i).kek (g1_key_data (gtk_news g 0))) (octets-kek i) wraps (wrapped_g1 (ptk i).kek g is) in
    let value = one_value KeyData (g1_key_data (gtk_news g 0)) e (said KeyData (SentGtkKde g.id g.key ∷ [])) (subst (λ (x : List ℕ). SpellsElements KeyData x e) one spelled) (says_g1 g is) in
    ap (λ (x : ElementFields). carried (Some x)) value

-- The key data of M3 and G1 in every network: whoever unwraps it has the group keys that were put in, a GTK, and where management frames
-- are protected an IGTK.
use Rattle.std.proofs.Common.{◌≡◌, ℕ, zero, suc, ◌+◌, ◌-◌, ◌<◌, ◌≤◌, ◌%◌, Bool, true, false, cond, List, [], ◌∷◌, ◌++◌, length, Option, Some, None, refl, ap, subst, ◌∙◌, arith}
use Rattle.std.specs.Prelude.{nat_lt, if◌then◌else◌}
use Rattle.std.specs.Int.{w16, w64, bytes_low_first, to_le_bytes}
use Rattle.std.specs.List.{AllByRecursion}
use Rattle.std.proofs.lemmas.Bool.{le-ltb, ltb-true}
use Rattle.std.proofs.lemmas.List.{append-nil, length-append, length-replicate}
use Rattle.std.proofs.lemmas.List.Elements.{All-nil, All-cons, All-take}
use Rattle.std.proofs.lemmas.Grind.{flat_map-append}
use Rattle.domain_base.specs.Octets.{AreOctets}
use Rattle.domain_base.specs.Padding.{padding, padding_octets}
use Rattle.domain_base.specs.declared.names.Akm.{Akm}
use Rattle.domain_base.specs.declared.names.Akm.TheVariants.{Psk, PskSha256, FtPsk}
use Rattle.key_wrap.specs.KeyWrap.{Wraps}
use Rattle.key_wrap.proofs.UniqueLemmas.{Wraps-unique, length-Wraps}
use Rattle.rsn_elements.specs.declared.framing.Within.TheVariants.{KeyData}
use Rattle.rsn_elements.specs.Framing.{EndsReading}
use Rattle.rsn_elements.specs.Elements.{ElementFields, SpellsElements}
use Rattle.rsn_elements.specs.Sent.{rsne_start, rsne_octets, rsne_mfp_start, rsne_mfp_octets, gtk_kde_octets, ipn_octets, igtk_kde_octets}
use Rattle.rsn_elements.specs.Pieces.{Piece, SentRsne, SentRsneMfp, SentGtkKde, SentIgtkKde, piece_octets, pieces_octets, FitsPiece, AreApart, said}
use Rattle.rsn_elements.proofs.Apart.{one_value}
use Rattle.rsn_elements.proofs.PiecesTell.{pieces_spelled}
use Rattle.eapol_key.specs.KeyData.{padded}
use Rattle.key_hierarchy.specs.Keys.{ptk}
use Rattle.key_hierarchy.specs.declared.inputs.Inputs.{Inputs}
use Rattle.run_journal.specs.declared.acts.GroupKind.{GroupKind}
use Rattle.run_journal.specs.declared.acts.GroupKind.TheVariants as groups
use Rattle.run_journal.specs.declared.domain.Domain.{Domain}
use Rattle.run_journal.specs.Events.{protects}
use Rattle.run_journal.specs.Acts.{GroupKey}
use Rattle.run_journal.specs.GroupKinds.{kind_of_id}
use Rattle.domain_rules.specs.GroupKeys.{IgtkNews, News}
use Rattle.domain_rules.specs.Frames.{wrapped, and_igtk_kde, group_kdes}
use Rattle.domain_rules.specs.Suites.{network_rsne_by}
use Rattle.domain_rules.proofs.KeyOctets.{byte_below, octets-kek}
use Rattle.domain_rules.proofs.CarriedKey.{octets_few, octets_both, octets_more, octets_pad}
use Rattle.journal_safety.proofs.Legal.{carried_as}
use Rattle.journal_safety.proofs.Histories.{IsKey, is_gtk}

-- ---- group keys as access points have them

-- an IGTK's key id is below 6
pub igtk_low : (id : ℕ) → kind_of_id id ≡ Some groups.Igtk → id < 6
igtk_low zero is = absurd (cc is)
igtk_low (suc before) is = by (nat_lt before 3) is
  where
    after : (b : Bool) → nat_lt before 5 ≡ b → cond b (Some groups.Igtk) None ≡ Some groups.Igtk → suc before < 6
    after true low e = let w : before < 5 = ltb-true before 5 low in omega (arith, w)
    after false low e = absurd (cc e)

    by : (b : Bool) → cond b (Some groups.Gtk) (cond (nat_lt before 5) (Some groups.Igtk) None) ≡ Some groups.Igtk → suc before < 6
    by true e = absurd (cc e)
    by false e = after (nat_lt before 5) refl e

abbrev pub IsIgtk : Option IgtkNews → Type 0
IsIgtk None = Unit {0}
IsIgtk (Some k) = IsKey groups.Igtk k.igtk

-- the group keys that a message carries
pub record AreKeys (keys : News) : Type 0 where
  pub gtk : IsKey groups.Gtk keys.gtk
  pub igtk : IsIgtk keys.igtk

-- the octets of an IGTK, where there is one
abbrev pub igtk_key : Option IgtkNews → List ℕ
igtk_key None = []
igtk_key (Some k) = k.igtk.key

-- the octets of the group key of a kind that a message carries
abbrev pub key_of : GroupKind → News → List ℕ
key_of groups.Gtk keys = keys.gtk.key
key_of groups.Igtk keys = igtk_key keys.igtk

-- ---- octets that are made of elements

-- elements that make these octets, of so many at least and so many at most
pub record IsMade (ps : List Piece) (octets : List ℕ) (low high : ℕ) : Type 0 where
  pub is : pieces_octets ps ≡ octets
  pub fits : AllByRecursion FitsPiece ps
  pub are_octets : AreOctets octets
  pub least : low ≤ length octets
  pub most : length octets ≤ high

pub made_one : (p : Piece) (octets : List ℕ) (low high : ℕ) → piece_octets p ≡ octets → FitsPiece p → AreOctets octets → low ≤ length octets → length octets ≤ high → IsMade (p ∷ []) octets low high
made_one p octets low high is fits are least most = record { is = append-nil (piece_octets p) ∙ is; fits = (fits, tt); are_octets = are; least = least; most = most }

fits_both : (ps qs : List Piece) → AllByRecursion FitsPiece ps → AllByRecursion FitsPiece qs → AllByRecursion FitsPiece (ps ++ qs)
fits_both [] qs a b = b
fits_both (p ∷ ps) qs a b = (a.0, fits_both ps qs a.1 b)

pub made_both : (ps qs : List Piece) (a b : List ℕ) (l m k n : ℕ) → IsMade ps a l m → IsMade qs b k n → IsMade (ps ++ qs) (a ++ b) (l + k) (m + n)
made_both ps qs a b l m k n x y = record {
  is = flat_map-append piece_octets ps qs ∙ ap (λ (v : List ℕ). v ++ pieces_octets qs) x.is ∙ ap (λ (v : List ℕ). a ++ v) y.is;
  fits = fits_both ps qs x.fits y.fits;
  are_octets = octets_both a b x.are_octets y.are_octets;
  least = omega (arith, length-append a b, x.least, y.least);
  most = omega (arith, length-append a b, x.most, y.most);
}

-- within wider bounds
pub made_wider : (ps : List Piece) (a : List ℕ) (l m k n : ℕ) → k ≤ l → m ≤ n → IsMade ps a l m → IsMade ps a k n
made_wider ps a l m k n low high x = record { is = x.is; fits = x.fits; are_octets = x.are_octets; least = omega (arith, x.least, low); most = omega (arith, x.most, high) }

-- ---- key data that is made of elements

-- its octets before they are padded
abbrev pub IsText : List Piece → List ℕ → Type 0
IsText ps text = IsMade ps text 24 500

count : (n : ℕ) → length (padding_octets n) ≡ n
count zero = refl
count (suc n) = ap suc (length-replicate n 0)

pad_by : (n : ℕ) → 16 ≤ n → n ≤ 500 → ((n + length (padding_octets (padding n))) % 8 ≡ 0) × (n + length (padding_octets (padding n)) ≤ n + 8)
pad_by n low high =
    let is : length (padding_octets (padding n)) ≡ (8 - n % 8) % 8 = count (padding n) ∙ rw (le-ltb n 16 low) refl in
    (omega (arith, is), omega (arith, is))

pub text_wraps : (kek : List ℕ) (ps : List Piece) (text : List ℕ) → IsText ps text → Wraps kek (padded text) (wrapped kek (padded text))
text_wraps kek ps text made =
    let pad = pad_by (length text) (omega (arith, made.least)) made.most in
    let whole : length (padded text) ≡ length text + length (padding_octets (padding (length text))) = length-append text (padding_octets (padding (length text))) in
    record {
      whole_blocks = ap (λ (n : ℕ). n % 8) whole ∙ pad.0;
      two_blocks = omega (arith, whole, made.least);
      are_octets = octets_both text (padding_octets (padding (length text))) made.are_octets (octets_pad (padding (length text)));
      wrapped = refl;
    }

pub few_text : (kek : List ℕ) (ps : List Piece) (text : List ℕ) → AreOctets kek → IsText ps text → length (wrapped kek (padded text)) ≤ 65440
few_text kek ps text octets made =
    let pad = pad_by (length text) (omega (arith, made.least)) made.most in
    let whole : length (padded text) ≡ length text + length (padding_octets (padding (length text))) = length-append text (padding_octets (padding (length text))) in
    omega (arith, (length-Wraps kek (padded text) (wrapped kek (padded text)) octets (text_wraps kek ps text made)).0, whole, made.most, pad.1)

ends : (n : ℕ) → EndsReading KeyData (padding_octets n)
ends zero = tt
ends (suc zero) = refl
ends (suc (suc n)) = (refl, refl)

text_says : (ps : List Piece) (text : List ℕ) → IsText ps text → AreApart ps → SpellsElements KeyData (padded text) (said KeyData ps)
text_says ps text made apart =
    subst (λ (x : List ℕ). SpellsElements KeyData (x ++ padding_octets (padding (length text))) (said KeyData ps)) made.is
    (pieces_spelled KeyData ps [] (padding_octets (padding (length text))) made.fits apart tt (ends (padding (length text))))

-- whoever unwraps what was wrapped reads the elements that were put in
pub one_text : (i : Inputs) (ps : List Piece) (text plain : List ℕ) (e : ElementFields) → IsText ps text → AreApart ps → Wraps (ptk i).kek plain (wrapped (ptk i).kek (padded text)) → SpellsElements KeyData plain e → e ≡ said KeyData ps
one_text i ps text plain e made apart wraps spelled =
    let one : plain ≡ padded text = Wraps-unique (ptk i).kek plain (padded text) (wrapped (ptk i).kek (padded text)) (octets-kek i) wraps (text_wraps (ptk i).kek ps text made) in
    one_value KeyData (padded text) e (said KeyData ps) (subst (λ (x : List ℕ). SpellsElements KeyData x e) one spelled) (text_says ps text made apart)

-- ---- the RSNE of a network

abbrev pub rsne_piece : Bool → Akm → Option (List ℕ) → Piece
rsne_piece false akm name = SentRsne akm name
rsne_piece true akm name = SentRsneMfp akm name

-- a name of a key
abbrev pub IsName : Option (List ℕ) → Type 0
IsName None = Unit {0}
IsName (Some name) = (length name ≡ 16) × AreOctets name

octets_start : (akm : Akm) → AreOctets (rsne_start akm)
octets_start Psk = octets_few (rsne_start Psk) refl
octets_start PskSha256 = octets_few (rsne_start PskSha256) refl
octets_start FtPsk = octets_few (rsne_start FtPsk) refl

octets_mfp_start : (akm : Akm) → AreOctets (rsne_mfp_start akm)
octets_mfp_start Psk = octets_few (rsne_mfp_start Psk) refl
octets_mfp_start PskSha256 = octets_few (rsne_mfp_start PskSha256) refl
octets_mfp_start FtPsk = octets_few (rsne_mfp_start FtPsk) refl

octets_two : (x y : ℕ) (xs : List ℕ) → x < 256 → y < 256 → AreOctets xs → AreOctets (x ∷ y ∷ xs)
octets_two x y xs low also all = octets_more x (y ∷ xs) low (octets_more y xs also all)

abbrev cipher : List ℕ
cipher = 0x00 ∷ 0x0f ∷ 0xac ∷ 0x06 ∷ []

pub made_rsne : (b : Bool) (akm : Akm) (name : Option (List ℕ)) → IsName name → IsMade (rsne_piece b akm name ∷ []) (if b then rsne_mfp_octets akm name else rsne_octets akm name) 22 44
made_rsne false akm None is = made_one (SentRsne akm None) (rsne_octets akm None) 22 44 refl tt (octets_two 0x30 0x14 (rsne_start akm) (omega arith) (omega arith) (octets_start akm)) (omega arith) (omega arith)
made_rsne false akm (Some name) is =
    made_one (SentRsne akm (Some name)) (rsne_octets akm (Some name)) 22 44 refl is.0
    (octets_two 0x30 0x26 (rsne_start akm ++ 0x01 ∷ 0x00 ∷ name) (omega arith) (omega arith) (octets_both (rsne_start akm) (0x01 ∷ 0x00 ∷ name) (octets_start akm) (octets_two 0x01 0x00 name (omega arith) (omega arith) is.1)))
    (omega (arith, is.0)) (omega (arith, is.0))
made_rsne true akm None is =
    made_one (SentRsneMfp akm None) (rsne_mfp_octets akm None) 22 44 refl tt
    (octets_two 0x30 0x1a (rsne_mfp_start akm ++ 0x00 ∷ 0x00 ∷ cipher) (omega arith) (omega arith) (octets_both (rsne_mfp_start akm) (0x00 ∷ 0x00 ∷ cipher) (octets_mfp_start akm) (octets_few (0x00 ∷ 0x00 ∷ cipher) refl)))
    (omega arith) (omega arith)
made_rsne true akm (Some name) is =
    made_one (SentRsneMfp akm (Some name)) (rsne_mfp_octets akm (Some name)) 22 44 refl is.0
    (octets_two 0x30 0x2a (rsne_mfp_start akm ++ 0x01 ∷ 0x00 ∷ (name ++ cipher)) (omega arith) (omega arith)
    (octets_both (rsne_mfp_start akm) (0x01 ∷ 0x00 ∷ (name ++ cipher)) (octets_mfp_start akm) (octets_two 0x01 0x00 (name ++ cipher) (omega arith) (omega arith) (octets_both name cipher is.1 (octets_few cipher refl)))))
    (omega (arith, is.0, length-append name cipher)) (omega (arith, is.0, length-append name cipher))

-- ---- the KDEs of group keys

octets_low_first : (at n k : ℕ) → AreOctets (bytes_low_first at n k)
octets_low_first at zero k = All-nil (λ x. x < 256)
octets_low_first at (suc n) k = All-cons (λ x. x < 256) _ (bytes_low_first (suc at) n k) (byte_below at k) (octets_low_first (suc at) n k)

octets_number : (n : ℕ) → AreOctets (to_le_bytes w16 n)
octets_number n = octets_low_first 0 2 n

octets_ipn : (n : ℕ) → AreOctets (ipn_octets n)
octets_ipn n = All-take (λ x. x < 256) 6 (to_le_bytes w64 n) (octets_low_first 0 8 n)

octets_gtk : (g : GroupKey) → IsKey groups.Gtk g → AreOctets (gtk_kde_octets g.id g.key)
octets_gtk g is =
    octets_both (0xdd ∷ 0x16 ∷ 0x00 ∷ 0x0f ∷ 0xac ∷ 0x01 ∷ []) (g.id ∷ 0x00 ∷ g.key) (octets_few (0xdd ∷ 0x16 ∷ 0x00 ∷ 0x0f ∷ 0xac ∷ 0x01 ∷ []) refl)
    (octets_two g.id 0x00 g.key (let low = (is_gtk g is).low in omega (arith, low)) (omega arith) is.octets)

octets_igtk : (g : GroupKey) (ipn : ℕ) → IsKey groups.Igtk g → AreOctets (igtk_kde_octets g.id ipn g.key)
octets_igtk g ipn is =
    octets_both (0xdd ∷ 0x1c ∷ 0x00 ∷ 0x0f ∷ 0xac ∷ 0x09 ∷ []) (to_le_bytes w16 g.id ++ (ipn_octets ipn ++ g.key)) (octets_few (0xdd ∷ 0x1c ∷ 0x00 ∷ 0x0f ∷ 0xac ∷ 0x09 ∷ []) refl)
    (octets_both (to_le_bytes w16 g.id) (ipn_octets ipn ++ g.key) (octets_number g.id) (octets_both (ipn_octets ipn) g.key (octets_ipn ipn) is.octets))

abbrev pub igtk_pieces : Option IgtkNews → List Piece
igtk_pieces None = []
igtk_pieces (Some k) = SentIgtkKde k.igtk.id k.ipn k.igtk.key ∷ []

abbrev pub kde_pieces : News → List Piece
kde_pieces keys = SentGtkKde keys.gtk.id keys.gtk.key ∷ igtk_pieces keys.igtk

made_gtk : (g : GroupKey) → IsKey groups.Gtk g → IsMade (SentGtkKde g.id g.key ∷ []) (gtk_kde_octets g.id g.key) 24 24
made_gtk g is = made_one (SentGtkKde g.id g.key) (gtk_kde_octets g.id g.key) 24 24 refl ((is_gtk g is).low, is.size) (octets_gtk g is) (omega (arith, is.size)) (omega (arith, is.size))

made_igtk : (k : IgtkNews) → IsKey groups.Igtk k.igtk → IsMade (SentIgtkKde k.igtk.id k.ipn k.igtk.key ∷ []) (igtk_kde_octets k.igtk.id k.ipn k.igtk.key) 30 30
made_igtk k is =
    made_one (SentIgtkKde k.igtk.id k.ipn k.igtk.key) (igtk_kde_octets k.igtk.id k.ipn k.igtk.key) 30 30 refl ((let low = igtk_low k.igtk.id is.kind_is in omega (arith, low)), is.size) (octets_igtk k.igtk k.ipn is) (omega (arith, is.size)) (omega (arith, is.size))

made_by : (g : GroupKey) (o : Option IgtkNews) → IsKey groups.Gtk g → IsIgtk o → IsMade (SentGtkKde g.id g.key ∷ igtk_pieces o) (and_igtk_kde o (gtk_kde_octets g.id g.key)) 24 54
made_by g None is none = made_wider (SentGtkKde g.id g.key ∷ []) (gtk_kde_octets g.id g.key) 24 24 24 54 (omega arith) (omega arith) (made_gtk g is)
made_by g (Some k) is also =
    made_wider (SentGtkKde g.id g.key ∷ SentIgtkKde k.igtk.id k.ipn k.igtk.key ∷ []) (gtk_kde_octets g.id g.key ++ igtk_kde_octets k.igtk.id k.ipn k.igtk.key) 54 54 24 54 (omega arith) (omega arith)
    (made_both (SentGtkKde g.id g.key ∷ []) (SentIgtkKde k.igtk.id k.ipn k.igtk.key ∷ []) (gtk_kde_octets g.id g.key) (igtk_kde_octets k.igtk.id k.ipn k.igtk.key) 24 24 30 30 (made_gtk g is) (made_igtk k also))

pub made_kdes : (keys : News) → AreKeys keys → IsMade (kde_pieces keys) (group_kdes keys) 24 54
made_kdes keys are = made_by keys.gtk keys.igtk are.gtk are.igtk

-- ---- the key data of G1

pub g1_text : (keys : News) → AreKeys keys → IsText (kde_pieces keys) (group_kdes keys)
g1_text keys are = made_wider (kde_pieces keys) (group_kdes keys) 24 54 24 500 (omega arith) (omega arith) (made_kdes keys are)

g1_apart_by : (g : GroupKey) (o : Option IgtkNews) → AreApart (SentGtkKde g.id g.key ∷ igtk_pieces o)
g1_apart_by g None = (tt, tt)
g1_apart_by g (Some k) = ((refl, tt), (tt, tt))

pub g1_apart : (keys : News) → AreApart (kde_pieces keys)
g1_apart keys = g1_apart_by keys.gtk keys.igtk

g1_says_by : (which : GroupKind) (g : GroupKey) (rsc : ℕ) (o : Option IgtkNews) → (carried_as which (Some (said KeyData (SentGtkKde g.id g.key ∷ igtk_pieces o)))).key ≡ key_of which (record { gtk = g; rsc = rsc; igtk = o })
g1_says_by groups.Gtk g rsc None = refl
g1_says_by groups.Gtk g rsc (Some k) = refl
g1_says_by groups.Igtk g rsc None = refl
g1_says_by groups.Igtk g rsc (Some k) = refl

pub g1_says : (which : GroupKind) (keys : News) → (carried_as which (Some (said KeyData (kde_pieces keys)))).key ≡ key_of which keys
g1_says which keys = g1_says_by which keys.gtk keys.rsc keys.igtk

-- ---- that of M3, with suites 2 and 6

abbrev pub m3_pieces : Bool → Akm → News → List Piece
m3_pieces b akm keys = rsne_piece b akm None ∷ kde_pieces keys

pub m3_text : (d : Domain) (akm : Akm) (keys : News) → AreKeys keys → IsText (m3_pieces (protects d) akm keys) (network_rsne_by akm d None ++ group_kdes keys)
m3_text d akm keys are =
    made_wider (m3_pieces (protects d) akm keys) (network_rsne_by akm d None ++ group_kdes keys) 46 98 24 500 (omega arith) (omega arith)
    (made_both (rsne_piece (protects d) akm None ∷ []) (kde_pieces keys) (network_rsne_by akm d None) (group_kdes keys) 22 44 24 54 (made_rsne (protects d) akm None tt) (made_kdes keys are))

m3_apart_by : (b : Bool) (akm : Akm) (g : GroupKey) (o : Option IgtkNews) → AreApart (rsne_piece b akm None ∷ SentGtkKde g.id g.key ∷ igtk_pieces o)
m3_apart_by true akm g None = ((refl, tt), (tt, tt))
m3_apart_by false akm g None = ((refl, tt), (tt, tt))
m3_apart_by true akm g (Some k) = ((refl, (refl, tt)), ((refl, tt), (tt, tt)))
m3_apart_by false akm g (Some k) = ((refl, (refl, tt)), ((refl, tt), (tt, tt)))

pub m3_apart : (b : Bool) (akm : Akm) (keys : News) → AreApart (m3_pieces b akm keys)
m3_apart b akm keys = m3_apart_by b akm keys.gtk keys.igtk

m3_says_by : (which : GroupKind) (b : Bool) (akm : Akm) (g : GroupKey) (rsc : ℕ) (o : Option IgtkNews) → (carried_as which (Some (said KeyData (rsne_piece b akm None ∷ SentGtkKde g.id g.key ∷ igtk_pieces o)))).key ≡ key_of which (record { gtk = g; rsc = rsc; igtk = o })
m3_says_by groups.Gtk true akm g rsc None = refl
m3_says_by groups.Gtk false akm g rsc None = refl
m3_says_by groups.Gtk true akm g rsc (Some k) = refl
m3_says_by groups.Gtk false akm g rsc (Some k) = refl
m3_says_by groups.Igtk true akm g rsc None = refl
m3_says_by groups.Igtk false akm g rsc None = refl
m3_says_by groups.Igtk true akm g rsc (Some k) = refl
m3_says_by groups.Igtk false akm g rsc (Some k) = refl

pub m3_says : (which : GroupKind) (b : Bool) (akm : Akm) (keys : News) → (carried_as which (Some (said KeyData (m3_pieces b akm keys)))).key ≡ key_of which keys
m3_says which b akm keys = m3_says_by which b akm keys.gtk keys.rsc keys.igtk

-- The elements of fast transition as they are sent read as what they carry.
use Rattle.std.proofs.Common.{◌≡◌, ℕ, suc, ◌≤◌, List, [], ◌∷◌, ◌++◌, length, drop, Some, None, refl, sym, ap, subst, ◌∙◌, arith}
use Rattle.std.specs.List.{AllByRecursion}
use Rattle.std.proofs.lemmas.List.{append-nil, append_assoc, length-append, drop_at}
use Rattle.std.proofs.lemmas.Slice.Eq.{bytes_eq-Decides}
use Rattle.std.specs.Prelude.{true, bytes_eq, Option, IfSome}
use Rattle.aes_block.proofs.CipherLemmas.{length-cipher}
use Rattle.air_frame.specs.Sent.{IsAddress}
use Rattle.domain_base.specs.declared.names.Akm.TheVariants.{FtPsk}
use Rattle.domain_rules.specs.FastTransition.{no_nonce, no_mic, plain_fte}
use Rattle.mac_prf.specs.FteMic.{without_mic_field}
use Rattle.domain_rules.specs.TransitionFrames.{counted_fte, with_mic, with_igtk}
use Rattle.key_hierarchy.specs.declared.inputs.Inputs.{Inputs}
use Rattle.mac_prf.specs.Cmac.{cmac}
use Rattle.rsn_elements.proofs.PiecesTell.{pieces_spelled}
use Rattle.rsn_elements.specs.Elements.{ElementFields, SpellsElements}
use Rattle.rsn_elements.specs.Pieces.{Piece, SentSsid, SentRates, SentRsne, SentMde, SentFte, FitsPiece, FitsFte, FitsWrappedGtk, FitsWrappedIgtk, AreApart, pieces_octets, said, sent_rsne}
use Rattle.rsn_elements.specs.Sent.{ssid_octets, rates_octets, rsne_octets, mde_octets, fte_octets, fte_body, subelement_octets, wrapped_keys}
use Rattle.rsn_elements.specs.Transition.{FteFields, WrappedGtkFields, WrappedIgtkFields}
use Rattle.rsn_elements.specs.declared.framing.Within.TheVariants.{Body}
use Rattle.rsn_elements.specs.declared.framing.Within.{Within}

pub same_bytes : (x : List ℕ) → bytes_eq x x ≡ true
same_bytes x = (bytes_eq-Decides x x).1 refl

pub length-cmac : (key text : List ℕ) → length (cmac key text) ≡ 16
unfolding cmac
length-cmac key text = length-cipher _ _

-- ---- some elements, one after the other

pub spelled_as : (within : Within) (ps : List Piece) (octets : List ℕ) → pieces_octets ps ≡ octets → AllByRecursion FitsPiece ps → AreApart ps → SpellsElements within octets (said within ps)
spelled_as within ps octets is fits apart =
    subst (λ (x : List ℕ). SpellsElements within x (said within ps)) (append-nil (pieces_octets ps) ∙ is) (pieces_spelled within ps [] [] fits apart tt tt)

pub three : (a b c : List ℕ) → a ++ (b ++ (c ++ [])) ≡ a ++ b ++ c
three a b c = ap (λ (x : List ℕ). a ++ (b ++ x)) (append-nil c) ∙ sym (append_assoc a b c)

pub four : (a b c e : List ℕ) → a ++ (b ++ (c ++ (e ++ []))) ≡ a ++ b ++ c ++ e
four a b c e = ap (λ (x : List ℕ). a ++ (b ++ (c ++ x))) (append-nil e) ∙ sym (append_assoc (a ++ b) c e ∙ append_assoc a b (c ++ e))

pub five : (a b c e f : List ℕ) → a ++ (b ++ (c ++ (e ++ (f ++ [])))) ≡ a ++ b ++ c ++ e ++ f
five a b c e f =
    ap (λ (x : List ℕ). a ++ (b ++ (c ++ (e ++ x)))) (append-nil f) ∙ sym (append_assoc (a ++ b ++ c) e f ∙ append_assoc (a ++ b) c (e ++ f) ∙ append_assoc a b (c ++ (e ++ f)))

-- ---- what they say

-- an RSNE with that name of a key, an MDE and an FTE, and nothing else
abbrev pub told : List ℕ → List ℕ → FteFields → ElementFields
told name mdid f = record {
  rsne = Some (sent_rsne FtPsk (Some name));
  mde = Some (record { mdid = mdid; capability = 0 });
  fte = Some f;
  gtk = None;
  igtk = None;
  deadline = None;
  lifetime = None;
  rsne_octets = Some (rsne_octets FtPsk (Some name));
  mde_octets = Some (mde_octets mdid);
  fte_octets = Some (fte_octets f);
}

-- an RSNE without a name and an MDE
abbrev pub requested : List ℕ → ElementFields
requested mdid = record {
  rsne = Some (sent_rsne FtPsk None);
  mde = Some (record { mdid = mdid; capability = 0 });
  fte = None;
  gtk = None;
  igtk = None;
  deadline = None;
  lifetime = None;
  rsne_octets = Some (rsne_octets FtPsk None);
  mde_octets = Some (mde_octets mdid);
  fte_octets = None;
}

-- an MDE and an FTE
abbrev pub responded : List ℕ → FteFields → ElementFields
responded mdid f = record {
  rsne = None;
  mde = Some (record { mdid = mdid; capability = 0 });
  fte = Some f;
  gtk = None;
  igtk = None;
  deadline = None;
  lifetime = None;
  rsne_octets = None;
  mde_octets = Some (mde_octets mdid);
  fte_octets = Some (fte_octets f);
}

pub three_spelled : (within : Within) (name mdid : List ℕ) (f : FteFields) → length name ≡ 16 → length mdid ≡ 2 → FitsFte f
    → SpellsElements within (rsne_octets FtPsk (Some name) ++ mde_octets mdid ++ fte_octets f) (told name mdid f)
three_spelled within name mdid f size two fits =
    spelled_as within (SentRsne FtPsk (Some name) ∷ SentMde mdid ∷ SentFte f ∷ []) (rsne_octets FtPsk (Some name) ++ mde_octets mdid ++ fte_octets f)
    (three (rsne_octets FtPsk (Some name)) (mde_octets mdid) (fte_octets f)) (size, (two, (fits, tt))) ((refl, (refl, tt)), ((refl, tt), (tt, tt)))

pub four_spelled : (name mdid : List ℕ) (f : FteFields) → length name ≡ 16 → length mdid ≡ 2 → FitsFte f
    → SpellsElements Body (rates_octets ++ rsne_octets FtPsk (Some name) ++ mde_octets mdid ++ fte_octets f) (told name mdid f)
four_spelled name mdid f size two fits =
    spelled_as Body (SentRates ∷ SentRsne FtPsk (Some name) ∷ SentMde mdid ∷ SentFte f ∷ []) (rates_octets ++ rsne_octets FtPsk (Some name) ++ mde_octets mdid ++ fte_octets f)
    (four rates_octets (rsne_octets FtPsk (Some name)) (mde_octets mdid) (fte_octets f)) (tt, (size, (two, (fits, tt)))) ((refl, (refl, (refl, tt))), ((refl, (refl, tt)), ((refl, tt), (tt, tt))))

pub five_spelled : (ssid name mdid : List ℕ) (f : FteFields) → length name ≡ 16 → length mdid ≡ 2 → FitsFte f
    → SpellsElements Body (ssid_octets ssid ++ rates_octets ++ rsne_octets FtPsk (Some name) ++ mde_octets mdid ++ fte_octets f) (told name mdid f)
five_spelled ssid name mdid f size two fits =
    spelled_as Body (SentSsid ssid ∷ SentRates ∷ SentRsne FtPsk (Some name) ∷ SentMde mdid ∷ SentFte f ∷ []) (ssid_octets ssid ++ rates_octets ++ rsne_octets FtPsk (Some name) ++ mde_octets mdid ++ fte_octets f)
    (five (ssid_octets ssid) rates_octets (rsne_octets FtPsk (Some name)) (mde_octets mdid) (fte_octets f)) (tt, (tt, (size, (two, (fits, tt))))) ((refl, (refl, (refl, (refl, tt)))), ((refl, (refl, (refl, tt))), ((refl, (refl, tt)), ((refl, tt), (tt, tt)))))

pub request_spelled : (ssid mdid : List ℕ) → length mdid ≡ 2 → SpellsElements Body (ssid_octets ssid ++ rates_octets ++ rsne_octets FtPsk None ++ mde_octets mdid) (requested mdid)
request_spelled ssid mdid two =
    spelled_as Body (SentSsid ssid ∷ SentRates ∷ SentRsne FtPsk None ∷ SentMde mdid ∷ []) (ssid_octets ssid ++ rates_octets ++ rsne_octets FtPsk None ++ mde_octets mdid)
    (four (ssid_octets ssid) rates_octets (rsne_octets FtPsk None) (mde_octets mdid)) (tt, (tt, (tt, (two, tt)))) ((refl, (refl, (refl, tt))), ((refl, (refl, tt)), ((refl, tt), (tt, tt))))

pub response_spelled : (mdid : List ℕ) (f : FteFields) → length mdid ≡ 2 → FitsFte f → SpellsElements Body (rates_octets ++ mde_octets mdid ++ fte_octets f) (responded mdid f)
response_spelled mdid f two fits =
    spelled_as Body (SentRates ∷ SentMde mdid ∷ SentFte f ∷ []) (rates_octets ++ mde_octets mdid ++ fte_octets f)
    (three rates_octets (mde_octets mdid) (fte_octets f)) (tt, (two, (fits, tt))) ((refl, (refl, tt)), ((refl, tt), (tt, tt)))

-- ---- FTEs that are sent

-- an R0KH-ID has 1 to 48 octets
pub record IsHolder (id : List ℕ) : Type 0 where
  pub some : 1 ≤ length id
  pub few : length id ≤ 48

pub fits-plain : (anonce snonce r1kh id : List ℕ) → length anonce ≡ 32 → length snonce ≡ 32 → IsAddress r1kh → IsHolder id → FitsFte (plain_fte anonce snonce (Some r1kh) id)
fits-plain anonce snonce r1kh id l m six is = record { mic_control = refl; mic = refl; anonce = l; snonce = m; r1kh_id = six; gtk = tt; r0kh_id = (is.some, is.few); igtk = tt }

pub fits-asking : (snonce id : List ℕ) → length snonce ≡ 32 → IsHolder id → FitsFte (plain_fte no_nonce snonce None id)
fits-asking snonce id m is = record { mic_control = refl; mic = refl; anonce = refl; snonce = m; r1kh_id = tt; gtk = tt; r0kh_id = (is.some, is.few); igtk = tt }

pub fits-sealed : (mic r1kh : List ℕ) (i : Inputs) → length mic ≡ 16 → length i.anonce ≡ 32 → length i.snonce ≡ 32 → IsAddress r1kh → IsHolder i.r0kh_id → FitsFte (with_mic mic (counted_fte r1kh i None))
fits-sealed mic r1kh i size l m six is = record { mic_control = refl; mic = size; anonce = l; snonce = m; r1kh_id = six; gtk = tt; r0kh_id = (is.some, is.few); igtk = tt }

pub fits-carrying : (mic r1kh : List ℕ) (i : Inputs) (g : WrappedGtkFields) (igtk : Option WrappedIgtkFields) → length mic ≡ 16 → length i.anonce ≡ 32 → length i.snonce ≡ 32 → IsAddress r1kh → FitsWrappedGtk g → IfSome igtk FitsWrappedIgtk → IsHolder i.r0kh_id
    → FitsFte (with_mic mic (with_igtk igtk (counted_fte r1kh i (Some g))))
fits-carrying mic r1kh i g igtk size l m six fits also is = record { mic_control = refl; mic = size; anonce = l; snonce = m; r1kh_id = six; gtk = fits; r0kh_id = (is.some, is.few); igtk = also }

-- the MIC of an FTE is not covered
abbrev tail_of : FteFields → List ℕ
tail_of f = f.anonce ++ (f.snonce ++ (subelement_octets 1 f.r1kh_id ++ (subelement_octets 3 f.r0kh_id ++ wrapped_keys f.gtk f.igtk)))

behind : (mic rest : List ℕ) → length mic ≡ 16 → drop 16 (mic ++ rest) ≡ rest
behind mic rest size = drop_at mic rest 16 size

free : (a b size : ℕ) (mic rest : List ℕ) → length mic ≡ 16 → without_mic_field (0x37 ∷ size ∷ a ∷ b ∷ (mic ++ rest)) ≡ 0x37 ∷ size ∷ a ∷ b ∷ (no_mic ++ rest)
free a b size mic rest l = ap (λ (x : List ℕ). 0x37 ∷ size ∷ a ∷ b ∷ (no_mic ++ x)) (behind mic rest l)

same_size : (mic rest : List ℕ) → length mic ≡ 16 → length (mic ++ rest) ≡ length (no_mic ++ rest)
same_size mic rest l = length-append mic rest ∙ omega (arith, l, length-append no_mic rest)

pub mic_free : (r1kh : List ℕ) (i : Inputs) (gtk : Option WrappedGtkFields) (igtk : Option WrappedIgtkFields) (mic : List ℕ) → length mic ≡ 16
    → without_mic_field (fte_octets (with_mic mic (with_igtk igtk (counted_fte r1kh i gtk)))) ≡ without_mic_field (fte_octets (with_igtk igtk (counted_fte r1kh i gtk)))
mic_free r1kh i gtk igtk mic l =
    let f : FteFields = with_igtk igtk (counted_fte r1kh i gtk) in
    let size : length (fte_body (with_mic mic f)) ≡ length (fte_body f) = ap (λ (n : ℕ). suc (suc n)) (same_size mic (tail_of f) l) in
    free 0 3 (length (fte_body (with_mic mic f))) mic (tail_of f) l
    ∙ ap (λ (n : ℕ). 0x37 ∷ n ∷ 0 ∷ 3 ∷ (no_mic ++ tail_of f)) size
    ∙ sym (free 0 3 (length (fte_body f)) no_mic (tail_of f) refl)

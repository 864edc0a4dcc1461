-- What the octets under the MIC of a reassociation frame say: the number of the frame, and all of its FTE but the MIC. Octets that are
-- sealed alike say the same.
use Rattle.std.proofs.Common.{ℕ, ◌≡◌, ◌+◌, ◌≤◌, Bool, true, false, List, [], ◌∷◌, ◌++◌, length, take, drop, get_or, Option, Some, None, refl, sym, ap, ◌∙◌, subst, arith}
use Rattle.std.specs.Prelude.{option_and_then, option_map, if◌then◌else◌}
use Rattle.std.proofs.lemmas.List.{drop-drop, get_or-append-add, length-append, length-take, length-drop}
use Rattle.air_frame.specs.Sent.{IsAddress}
use Rattle.rsn_elements.specs.Framing.{Says}
use Rattle.rsn_elements.specs.Rsne.{SpellsRsne}
use Rattle.rsn_elements.specs.Transition.{has_id, SpellsMde, SpellsR0khId, FteFields, SpellsFte}
use Rattle.rsn_elements.specs.Elements.{ElementFields, IsRaw, HasRaw}
use Rattle.rsn_elements.specs.Sent.{rsne_start, rsne_octets, rsne_mfp_start, rsne_mfp_octets, mde_octets, fte_octets, fte_body}
use Rattle.rsn_elements.specs.Pieces.{suite, FitsFte}
use Rattle.rsn_elements.proofs.Cuts.{same_cut, same_first}
use Rattle.rsn_elements.proofs.Unique.{one_fte}
use Rattle.rsn_elements.proofs.SentSpelled.{rsne_size, rsne_mfp_size, fte_spelled}
use Rattle.run_journal.specs.declared.domain.Domain.{Domain}
use Rattle.run_journal.specs.Events.{protects}
use Rattle.domain_base.specs.declared.names.Node.{Node}
use Rattle.domain_rules.specs.Network.{address}
use Rattle.domain_rules.specs.FastTransition.{no_mic, mic_input}
use Rattle.mac_prf.specs.FteMic.{fte_mic_input, without_mic_field}
use Rattle.domain_rules.specs.TransitionFrames.{with_mic, sent_input}
use Rattle.journal_safety.proofs.CoversData.{covered_form}

-- the number of the frame, behind the form and two addresses
pub fte_number : List ℕ → ℕ
fte_number octets = get_or octets 13 0

pub record CoversFte (covered : List ℕ) (number : ℕ) (f : FteFields) : Type 0 where
  pub sta : List ℕ
  pub ap_ : List ℕ
  pub rsne : List ℕ
  pub mde : List ℕ
  pub body : List ℕ
  pub sta_size : length sta ≡ 6
  pub ap_size : length ap_ ≡ 6
  pub is : covered ≡ 2 ∷ fte_mic_input sta ap_ number (0x30 ∷ length rsne ∷ rsne) (0x36 ∷ length mde ∷ mde) (0x37 ∷ length body ∷ body)
  pub spelled : SpellsFte body f

pub form_fte : (c : List ℕ) (number : ℕ) (f : FteFields) → CoversFte c number f → covered_form c ≡ 2
form_fte c number f w = ap covered_form w.is

behind_six : (a b : List ℕ) (n : ℕ) → length a ≡ 6 → get_or (a ++ b) (6 + n) 0 ≡ get_or b n 0
behind_six a b n size = ap (λ k. get_or (a ++ b) (k + n) 0) (sym size) ∙ get_or-append-add a b n 0

pub number_fte : (c : List ℕ) (number : ℕ) (f : FteFields) → CoversFte c number f → fte_number c ≡ number
unfolding fte_number
number_fte c number f w =
    let rest : List ℕ = (0x30 ∷ length w.rsne ∷ w.rsne) ++ ((0x36 ∷ length w.mde ∷ w.mde) ++ without_mic_field (0x37 ∷ length w.body ∷ w.body)) in
    ap (λ x. get_or x 13 0) w.is ∙ behind_six w.sta (w.ap_ ++ number ∷ rest) 6 w.sta_size ∙ behind_six w.ap_ (number ∷ rest) 0 w.ap_size

-- ---- the FTE but for its MIC

-- a body with its MIC zero
abbrev zeroed : List ℕ → List ℕ
zeroed body = take 2 body ++ (no_mic ++ drop 18 body)

zero_by : (x y : ℕ) (b : List ℕ) (f : FteFields) → SpellsFte (x ∷ y ∷ b) f → SpellsFte (zeroed (x ∷ y ∷ b)) (with_mic no_mic f)
zero_by x y b f s = record {
  subelements = s.subelements;
  long = (let l = s.long in omega (arith, l, length-drop 16 b));
  mic_control = s.mic_control;
  mic = refl;
  anonce = s.anonce;
  snonce = s.snonce ∙ ap (λ z. take 32 z) (sym (drop-drop 32 16 b));
  rest = drop-drop 64 16 b ∙ s.rest;
  say = s.say;
}

zero_spelled : (b : List ℕ) (f : FteFields) → SpellsFte b f → SpellsFte (zeroed b) (with_mic no_mic f)
zero_spelled [] f s = let l = s.long in absurd (omega (arith, l))
zero_spelled (x ∷ []) f s = let l = s.long in absurd (omega (arith, l))
zero_spelled (x ∷ y ∷ b) f s = zero_by x y b f s

-- what octets cover is one
pub one_covered : (c : List ℕ) (m k : ℕ) (f g : FteFields) → CoversFte c m f → CoversFte c k g → (m ≡ k) × (with_mic no_mic f ≡ with_mic no_mic g)
one_covered c m k f g a b =
    let all : 2 ∷ fte_mic_input a.sta a.ap_ m (0x30 ∷ length a.rsne ∷ a.rsne) (0x36 ∷ length a.mde ∷ a.mde) (0x37 ∷ length a.body ∷ a.body) ≡ 2 ∷ fte_mic_input b.sta b.ap_ k (0x30 ∷ length b.rsne ∷ b.rsne) (0x36 ∷ length b.mde ∷ b.mde) (0x37 ∷ length b.body ∷ b.body) = sym a.is ∙ b.is in
    let inner : fte_mic_input a.sta a.ap_ m (0x30 ∷ length a.rsne ∷ a.rsne) (0x36 ∷ length a.mde ∷ a.mde) (0x37 ∷ length a.body ∷ a.body) ≡ fte_mic_input b.sta b.ap_ k (0x30 ∷ length b.rsne ∷ b.rsne) (0x36 ∷ length b.mde ∷ b.mde) (0x37 ∷ length b.body ∷ b.body) = cc all in
    let one = same_cut a.sta b.sta _ _ (a.sta_size ∙ sym b.sta_size) inner in
    let two = same_cut a.ap_ b.ap_ _ _ (a.ap_size ∙ sym b.ap_size) one.1 in
    let number : m ≡ k = cc two.1 in
    let rest : (0x30 ∷ length a.rsne ∷ a.rsne) ++ ((0x36 ∷ length a.mde ∷ a.mde) ++ without_mic_field (0x37 ∷ length a.body ∷ a.body)) ≡ (0x30 ∷ length b.rsne ∷ b.rsne) ++ ((0x36 ∷ length b.mde ∷ b.mde) ++ without_mic_field (0x37 ∷ length b.body ∷ b.body)) = cc two.1 in
    let three = same_first (record { id = 0x30; body = a.rsne }) (record { id = 0x30; body = b.rsne }) _ _ rest in
    let four = same_first (record { id = 0x36; body = a.mde }) (record { id = 0x36; body = b.mde }) _ _ three.1 in
    let bodies : zeroed a.body ≡ zeroed b.body = cc four.1 in
    (number, one_fte (zeroed a.body) (with_mic no_mic f) (with_mic no_mic g) (zero_spelled a.body f a.spelled) (subst (λ x. SpellsFte x (with_mic no_mic g)) (sym bodies) (zero_spelled b.body g b.spelled)))

pub one_gtk : (c : List ℕ) (m k : ℕ) (f g : FteFields) → CoversFte c m f → CoversFte c k g → f.gtk ≡ g.gtk
one_gtk c m k f g a b = ap (λ (x : FteFields). x.gtk) (one_covered c m k f g a b).1

pub one_igtk : (c : List ℕ) (m k : ℕ) (f g : FteFields) → CoversFte c m f → CoversFte c k g → f.igtk ≡ g.igtk
one_igtk c m k f g a b = ap (λ (x : FteFields). x.igtk) (one_covered c m k f g a b).1

-- ---- what was taken

whole_of : {F : Type 0} (id : ℕ) (Spells : List ℕ → F → Type 0) (o : Option F) (octets : Option (List ℕ)) (v : List ℕ) → IsRaw id Spells o octets → octets ≡ Some v → (body : List ℕ) × (v ≡ id ∷ length body ∷ body)
whole_of id Spells None octets v raw is = absurd (cc (raw, is))
whole_of id Spells (Some x) octets v raw is = (raw.0, cc (is, raw.1))

fte_of : (o : Option FteFields) (octets : Option (List ℕ)) (f : FteFields) (v : List ℕ) → IsRaw 0x37 SpellsFte o octets → o ≡ Some f → octets ≡ Some v → (body : List ℕ) × ((v ≡ 0x37 ∷ length body ∷ body) × SpellsFte body f)
fte_of None octets f v raw is has = absurd (cc is)
fte_of (Some x) octets f v raw is has = let one : x ≡ f = cc is in (raw.0, (cc (has, raw.1), subst (λ (y : FteFields). SpellsFte raw.0 y) one raw.2))

took_by : (sta ap_ : List ℕ) (number : ℕ) (e : ElementFields) (f : FteFields) (input : List ℕ) → HasRaw e → e.fte ≡ Some f → IsAddress sta → IsAddress ap_ → (r m o : Option (List ℕ)) → e.rsne_octets ≡ r → e.mde_octets ≡ m → e.fte_octets ≡ o
    → option_and_then (λ rsne. option_and_then (λ mde. option_map (λ fte. fte_mic_input sta ap_ number rsne mde fte) o) m) r ≡ Some input → CoversFte (2 ∷ input) number f
took_by sta ap_ number e f input raw fte s a (Some r) (Some m) (Some o) rs ms os is =
    let x = whole_of 0x30 SpellsRsne e.rsne e.rsne_octets r raw.rsne rs in
    let y = whole_of 0x36 SpellsMde e.mde e.mde_octets m raw.mde ms in
    let z = fte_of e.fte e.fte_octets f o raw.fte fte os in
    let input_is : fte_mic_input sta ap_ number r m o ≡ input = cc is in
    record {
      sta = sta;
      ap_ = ap_;
      rsne = x.0;
      mde = y.0;
      body = z.0;
      sta_size = s;
      ap_size = a;
      is = ap (λ w. 2 ∷ w) (sym input_is ∙ ap (λ w. fte_mic_input sta ap_ number w m o) x.1 ∙ ap (λ w. fte_mic_input sta ap_ number (0x30 ∷ length x.0 ∷ x.0) w o) y.1 ∙ ap (λ w. fte_mic_input sta ap_ number (0x30 ∷ length x.0 ∷ x.0) (0x36 ∷ length y.0 ∷ y.0) w) z.1.0);
      spelled = z.1.1;
    }
took_by sta ap_ number e f input raw fte s a None m o rs ms os is = absurd (cc is)
took_by sta ap_ number e f input raw fte s a (Some r) None o rs ms os is = absurd (cc is)
took_by sta ap_ number e f input raw fte s a (Some r) (Some m) None rs ms os is = absurd (cc is)

pub took_fte : (sta ap_ : List ℕ) (number : ℕ) (e : ElementFields) (f : FteFields) (input : List ℕ) → HasRaw e → e.fte ≡ Some f → IsAddress sta → IsAddress ap_ → mic_input sta ap_ number e ≡ Some input → CoversFte (2 ∷ input) number f
took_fte sta ap_ number e f input raw fte s a is = took_by sta ap_ number e f input raw fte s a e.rsne_octets e.mde_octets e.fte_octets refl refl refl is

-- of an FTE as it was read
pub fte_raw : (e : ElementFields) (f : FteFields) → HasRaw e → e.fte ≡ Some f → (body : List ℕ) × SpellsFte body f
fte_raw e f raw fte = go e.fte raw.fte fte
  where
    go : (o : Option FteFields) → IsRaw 0x37 SpellsFte o e.fte_octets → o ≡ Some f → (body : List ℕ) × SpellsFte body f
    go None r is = absurd (cc is)
    go (Some x) r is = let one : x ≡ f = cc is in (r.0, subst (λ (y : FteFields). SpellsFte r.0 y) one r.2)

pub fte_nonces : (b : List ℕ) (f : FteFields) → SpellsFte b f → (length f.anonce ≡ 32) × (length f.snonce ≡ 32)
fte_nonces b f s = (
  ap length s.anonce ∙ omega (arith, s.long, length-take 32 (drop 18 b), length-drop 18 b),
  ap length s.snonce ∙ omega (arith, s.long, length-take 32 (drop 50 b), length-drop 50 b),
)

pub fte_holder : (b : List ℕ) (f : FteFields) (id : List ℕ) → SpellsFte b f → f.r0kh_id ≡ Some id → (1 ≤ length id) × (length id ≤ 48)
fte_holder b f id s is = go f.r0kh_id s.say.third is
  where
    go : (o : Option (List ℕ)) → Says (has_id 3) SpellsR0khId s.subelements o → o ≡ Some id → (1 ≤ length id) × (length id ≤ 48)
    go None w none = absurd (cc none)
    go (Some x) w one =
        let same : x ≡ id = cc one in
        let v : SpellsR0khId w.0.body x = w.2 in
        let size : length x ≡ length w.0.body = ap length v.2 in
        subst (λ (y : List ℕ). (1 ≤ length y) × (length y ≤ 48)) same (omega (arith, v.0, size), omega (arith, v.1, size))

-- ---- what was sent

mde_size : (mdid : List ℕ) → length mdid ≡ 2 → 0x03 ≡ length (mdid ++ 0x00 ∷ [])
mde_size mdid h = omega (arith, h, length-append mdid (0x00 ∷ []))

-- the body of an RSNE that names a key
abbrev named_rsne : Bool → Domain → List ℕ → List ℕ
named_rsne false d name = rsne_start d.akm ++ 0x01 ∷ 0x00 ∷ name
named_rsne true d name = rsne_mfp_start d.akm ++ 0x01 ∷ 0x00 ∷ (name ++ suite 6)

rsne_whole : (b : Bool) (d : Domain) (name : List ℕ) → length name ≡ 16 → (if b then rsne_mfp_octets d.akm (Some name) else rsne_octets d.akm (Some name)) ≡ 0x30 ∷ length (named_rsne b d name) ∷ named_rsne b d name
rsne_whole false d name n = ap (λ (w : ℕ). 0x30 ∷ w ∷ (rsne_start d.akm ++ 0x01 ∷ 0x00 ∷ name)) (sym (rsne_size d.akm name n))
rsne_whole true d name n = ap (λ (w : ℕ). 0x30 ∷ w ∷ (rsne_mfp_start d.akm ++ 0x01 ∷ 0x00 ∷ (name ++ suite 6))) (sym (rsne_mfp_size d.akm name n))

pub sent_fte : (d : Domain) (sta ap_ : Node) (number : ℕ) (name : List ℕ) (f : FteFields) → IsAddress (address d sta) → IsAddress (address d ap_) → length name ≡ 16 → length d.mdid ≡ 2 → FitsFte f → CoversFte (2 ∷ sent_input d sta ap_ number name f) number f
sent_fte d sta ap_ number name f s a n m fits =
    let rsne : List ℕ = named_rsne (protects d) d name in
    record {
      sta = address d sta;
      ap_ = address d ap_;
      rsne = rsne;
      mde = d.mdid ++ 0x00 ∷ [];
      body = fte_body f;
      sta_size = s;
      ap_size = a;
      is = ap (λ (w : List ℕ). 2 ∷ fte_mic_input (address d sta) (address d ap_) number w (mde_octets d.mdid) (fte_octets f)) (rsne_whole (protects d) d name n)
          ∙ ap (λ (w : ℕ). 2 ∷ fte_mic_input (address d sta) (address d ap_) number (0x30 ∷ length rsne ∷ rsne) (0x36 ∷ w ∷ (d.mdid ++ 0x00 ∷ [])) (fte_octets f)) (mde_size d.mdid m);
      spelled = fte_spelled f fits;
    }

-- The packet numbers that a reassociation response tells of its group keys are read at their places.
use Rattle.std.proofs.Common.{◌≡◌, ◌∙◌, ℕ, Bool, true, false, cond, List, [], ◌∷◌, ◌++◌, length, take, drop, Option, Some, None, refl, sym, ap, subst, arith}
use Rattle.std.specs.Prelude.{◌==◌, filter}
use Rattle.std.specs.Int.{w64, from_le_bytes}
use Rattle.std.proofs.lemmas.List.{take-take, append-nil}
use Rattle.std.proofs.Math.Seq.{take-append_seam}
use Rattle.domain_base.specs.declared.names.Akm.{Akm}
use Rattle.domain_base.specs.Places.{part}
use Rattle.air_frame.specs.Fields.{AirFields, assoc_req, assoc_resp, ft_req, ft_resp, re_req, re_resp, action, eapol, protected, ignored}
use Rattle.air_frame.specs.Spelled.{SpellsAir}
use Rattle.rsn_elements.specs.declared.framing.Within.TheVariants.{Body}
use Rattle.rsn_elements.specs.Framing.{Element, joined, EndsReading, Says}
use Rattle.rsn_elements.specs.Transition.{WrappedGtkFields, WrappedIgtkFields, FteFields, SpellsFte, SpellsWrappedGtk, SpellsWrappedIgtk, has_id}
use Rattle.rsn_elements.specs.Elements.{ElementFields, AnFte, is}
use Rattle.run_journal.specs.declared.acts.Kind.TheVariants as kind
use Rattle.domain_rules.specs.GroupKeys.{body_of, rsc_in_response}
use Rattle.domain_rules.specs.Reading.{Management, Managed, Reads, management_of}
use Rattle.domain_rules.specs.FastTransition.{gtk_in, igtk_in}
use Rattle.domain_rules.specs.IntegrityKeys.{ipn_value, ipn_in_response}
use Rattle.ft_exchange.specs.Group.{packet_number_of}

-- ---- the first element of an id

skipped : (id : ℕ) (xs ys : List ℕ) → body_of id (length xs) (xs ++ ys) ≡ body_of id 0 ys
skipped id [] ys = refl
skipped id (x ∷ xs) ys = skipped id xs ys

heads : (x e : Element) (xs ys : List Element) → x ∷ xs ≡ e ∷ ys → x ≡ e
heads x e xs ys is = cc

-- one element more before the others
first_step : (id : ℕ) (p : Element → Bool) (x : Element) (es : List Element) (e : Element) (more : List Element) → p x ≡ (x.id == id) → filter p (x ∷ es) ≡ e ∷ more
    → (filter p es ≡ e ∷ more → body_of id 0 (joined es) ≡ e.body) → body_of id 0 (joined (x ∷ es)) ≡ e.body
first_step id p x es e more tests is later = by (x.id == id) refl
  where
    chosen : (b : Bool) → (x.id == id) ≡ b → cond b (x ∷ filter p es) (filter p es) ≡ e ∷ more
    chosen b same = sym (ap (λ (c : Bool). cond c (x ∷ filter p es) (filter p es)) (tests ∙ same)) ∙ is

    by : (b : Bool) → (x.id == id) ≡ b → body_of id 0 (joined (x ∷ es)) ≡ e.body
    by true same =
        ap (λ (b : Bool). cond b (take (length x.body) (x.body ++ joined es)) (body_of id (length x.body) (x.body ++ joined es))) same
        ∙ take-append_seam x.body (joined es)
        ∙ ap (λ (y : Element). y.body) (heads x e (filter p es) more (chosen true same))
    by false other =
        ap (λ (b : Bool). cond b (take (length x.body) (x.body ++ joined es)) (body_of id (length x.body) (x.body ++ joined es))) other
        ∙ skipped id x.body (joined es)
        ∙ later (chosen false other)

none_first : (e : Element) (more : List Element) → [] ≡ e ∷ more → ⊥
none_first e more is = cc

first_body : (id : ℕ) (p : Element → Bool) → ((x : Element) → p x ≡ (x.id == id)) → (es : List Element) (e : Element) (more : List Element) → filter p es ≡ e ∷ more → body_of id 0 (joined es) ≡ e.body
first_body id p tests [] e more is = absurd (none_first e more is)
first_body id p tests (x ∷ es) e more is = first_step id p x es e more (tests x) is (λ later. first_body id p tests es e more later)

-- ---- in a response

ended : (rest : List ℕ) → EndsReading Body rest → rest ≡ []
ended [] ends = refl
ended (x ∷ rest) ends = absurd ends

same_management : (m b : Management) → Some m ≡ Some b → m ≡ b
same_management m b is = cc

no_management : (b : Management) → None ≡ Some b → ⊥
no_management b is = cc

kind_at : (m b : Management) → Some m ≡ Some b → b.kind ≡ kind.ReResp → m.kind ≡ kind.ReResp
kind_at m b is of = ap (λ (x : Management). x.kind) (same_management m b is) ∙ of

-- no other frame is one
not_assoc_req : kind.AssocReq ≡ kind.ReResp → ⊥
not_assoc_req is = cc

not_assoc_resp : kind.AssocResp ≡ kind.ReResp → ⊥
not_assoc_resp is = cc

not_ft_req : kind.FtReq ≡ kind.ReResp → ⊥
not_ft_req is = cc

not_ft_resp : kind.FtResp ≡ kind.ReResp → ⊥
not_ft_resp is = cc

not_re_req : kind.ReReq ≡ kind.ReResp → ⊥
not_re_req is = cc

abbrev elements_of : AirFields → List ℕ
elements_of (re_resp header capability status aid elements) = elements
elements_of frame = []

elements_at : (frame : AirFields) (b : Management) (octets : List ℕ) → SpellsAir octets frame → management_of frame ≡ Some b → b.kind ≡ kind.ReResp → b.elements ≡ drop 30 octets
elements_at (re_resp header capability status aid elements) b octets spelled is of =
    sym (ap (λ (x : Management). x.elements) (same_management _ b is)) ∙ ap elements_of spelled.0
elements_at (assoc_req header capability interval elements) b octets spelled is of = absurd (not_assoc_req (kind_at _ b is of))
elements_at (assoc_resp header capability status aid elements) b octets spelled is of = absurd (not_assoc_resp (kind_at _ b is of))
elements_at (ft_req header status elements) b octets spelled is of = absurd (not_ft_req (kind_at _ b is of))
elements_at (ft_resp header status elements) b octets spelled is of = absurd (not_ft_resp (kind_at _ b is of))
elements_at (re_req header capability interval current elements) b octets spelled is of = absurd (not_re_req (kind_at _ b is of))
elements_at (action header body) b octets spelled is of = absurd (no_management b is)
elements_at (eapol header direction tid body) b octets spelled is of = absurd (no_management b is)
elements_at (protected header direction tid body) b octets spelled is of = absurd (no_management b is)
elements_at ignored b octets spelled is of = absurd (no_management b is)

in_fte : (fte : Option FteFields) (g : WrappedGtkFields) → gtk_in fte ≡ Some g → (f : FteFields) × (fte ≡ Some f) × (f.gtk ≡ Some g)
in_fte None g is = absurd (cc is)
in_fte (Some f) g is = (f, refl, is)

igtk_in_fte : (fte : Option FteFields) (g : WrappedIgtkFields) → igtk_in fte ≡ Some g → (f : FteFields) × (fte ≡ Some f) × (f.igtk ≡ Some g)
igtk_in_fte None g is = absurd (cc is)
igtk_in_fte (Some f) g is = (f, refl, is)

gtk_body : (body : List ℕ) (f : FteFields) (g : WrappedGtkFields) → SpellsFte body f → f.gtk ≡ Some g → part 3 6 (body_of 2 0 (drop 82 body)) ≡ take 6 g.rsc
gtk_body body f g s has =
    let say : Says (has_id 2) SpellsWrappedGtk s.subelements (Some g) = subst (λ (o : Option WrappedGtkFields). Says (has_id 2) SpellsWrappedGtk s.subelements o) has s.say.second in
    let read : body_of 2 0 (drop 82 body) ≡ say.0.body = ap (λ (x : List ℕ). body_of 2 0 x) s.rest ∙ first_body 2 (has_id 2) (λ x. refl) s.subelements say.0 [] say.1 in
    ap (λ (x : List ℕ). part 3 6 x) read
    ∙ sym (ap (λ (x : WrappedGtkFields). take 6 x.rsc) say.2.1 ∙ take-take 6 8 (drop 3 say.0.body) (omega arith))

igtk_body : (body : List ℕ) (f : FteFields) (g : WrappedIgtkFields) → SpellsFte body f → f.igtk ≡ Some g → part 2 6 (body_of 4 0 (drop 82 body)) ≡ g.ipn
igtk_body body f g s has =
    let say : Says (has_id 4) SpellsWrappedIgtk s.subelements (Some g) = subst (λ (o : Option WrappedIgtkFields). Says (has_id 4) SpellsWrappedIgtk s.subelements o) has s.say.fourth in
    let read : body_of 4 0 (drop 82 body) ≡ say.0.body = ap (λ (x : List ℕ). body_of 4 0 x) s.rest ∙ first_body 4 (has_id 4) (λ x. refl) s.subelements say.0 [] say.1 in
    ap (λ (x : List ℕ). part 2 6 x) read ∙ sym (ap (λ (x : WrappedIgtkFields). x.ipn) say.2.1)

-- the body of the FTE of a response
record HasFte (octets : List ℕ) (f : FteFields) : Type 0 where
  body : List ℕ
  spelled : SpellsFte body f
  read : body_of 0x37 0 (drop 30 octets) ≡ body

has_fte : (akm : Akm) (octets : List ℕ) (b : Management) (e : ElementFields) (f : FteFields) → Reads akm octets (Managed b e) → b.kind ≡ kind.ReResp → e.fte ≡ Some f → HasFte octets f
has_fte akm octets b e f reads of has =
    let at : b.elements ≡ drop 30 octets = elements_at reads.0.frame b octets reads.0.spelled reads.0.is of in
    let say : Says (is Body AnFte) SpellsFte reads.1.elements (Some f) = subst (λ (o : Option FteFields). Says (is Body AnFte) SpellsFte reads.1.elements o) has reads.1.tells.fte in
    let cut : drop 30 octets ≡ joined reads.1.elements = sym at ∙ reads.1.cut ∙ ap (λ (r : List ℕ). joined reads.1.elements ++ r) (ended reads.1.rest reads.1.ends) ∙ append-nil (joined reads.1.elements) in
    record {
      body = say.0.body;
      spelled = say.2;
      read = ap (λ (r : List ℕ). body_of 0x37 0 r) cut ∙ first_body 0x37 (is Body AnFte) (λ x. refl) reads.1.elements say.0 [] say.1;
    }

pub told_rsc : (akm : Akm) (octets : List ℕ) (b : Management) (e : ElementFields) (g : WrappedGtkFields) → Reads akm octets (Managed b e) → b.kind ≡ kind.ReResp → gtk_in e.fte ≡ Some g
    → rsc_in_response octets ≡ packet_number_of g.rsc
told_rsc akm octets b e g reads of has =
    let x = in_fte e.fte g has in
    let fte : HasFte octets x.0 = has_fte akm octets b e x.0 reads of x.1 in
    ap (λ (r : List ℕ). from_le_bytes w64 (part 3 6 (body_of 2 0 (drop 82 r)) ++ 0 ∷ 0 ∷ [])) fte.read
    ∙ ap (λ (r : List ℕ). from_le_bytes w64 (r ++ 0 ∷ 0 ∷ [])) (gtk_body fte.body x.0 g fte.spelled x.2)

-- and of the IGTK
pub told_ipn : (akm : Akm) (octets : List ℕ) (b : Management) (e : ElementFields) (g : WrappedIgtkFields) → Reads akm octets (Managed b e) → b.kind ≡ kind.ReResp → igtk_in e.fte ≡ Some g
    → ipn_in_response octets ≡ ipn_value g.ipn
told_ipn akm octets b e g reads of has =
    let x = igtk_in_fte e.fte g has in
    let fte : HasFte octets x.0 = has_fte akm octets b e x.0 reads of x.1 in
    ap (λ (r : List ℕ). ipn_value (part 2 6 (body_of 4 0 (drop 82 r)))) fte.read ∙ ap (λ (r : List ℕ). ipn_value r) (igtk_body fte.body x.0 g fte.spelled x.2)

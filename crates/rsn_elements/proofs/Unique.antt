-- Elements say one thing.
use Rattle.std.proofs.Common.{◌≡◌, ℕ, Bool, List, [], ◌∷◌, ◌++◌, length, Option, Some, None, refl, sym, ap, subst, ◌∙◌, inl, inr}
use Rattle.std.proofs.lemmas.List.{append-nil}
use Rattle.rsn_elements.specs.declared.framing.Within.{Within}
use Rattle.rsn_elements.specs.Framing.{Element, joined, Says}
use Rattle.rsn_elements.specs.Rsne.{RsneFields, SpellsRsne}
use Rattle.rsn_elements.specs.Transition.{MdeFields, SpellsMde, SpellsTimeout, SpellsR1khId, SpellsWrappedGtk, SpellsR0khId, SpellsWrappedIgtk, SubelementsSay, FteFields, WrappedGtkFields, WrappedIgtkFields, SpellsFte}
use Rattle.rsn_elements.specs.KeyData.{GtkKdeFields, SpellsGtkKde, IgtkKdeFields, SpellsIgtkKde}
use Rattle.rsn_elements.specs.Elements.{ElementFields, AnRsne, AnMde, AnFte, is, IsWhole, Tells, SpellsElements, IsRaw, HasRaw}
use Rattle.rsn_elements.proofs.Cuts.{compare}
use Rattle.rsn_elements.proofs.RsneLaws.{same_rsne}

-- a body spells one value at most
abbrev pub IsOne : {F : Type 0} → (List ℕ → F → Type 0) → Type 0
IsOne {F} Spells = (body : List ℕ) (f g : F) → Spells body f → Spells body g → f ≡ g

pub same_says : {F : Type 0} (kind : Element → Bool) (Spells : List ℕ → F → Type 0) → IsOne Spells → (es : List Element) (o p : Option F) → Says kind Spells es o → Says kind Spells es p → o ≡ p
same_says kind Spells one es None None s t = refl
same_says kind Spells one es None (Some g) s t = absurd (cc (s, t.1))
same_says kind Spells one es (Some f) None s t = absurd (cc (s.1, t))
same_says {F} kind Spells one es (Some f) (Some g) s t =
    let e : s.0 ≡ t.0 = cc (s.1, t.1) in
    ap (λ (x : F). Some x) (one t.0.body f g (subst (λ (x : Element). Spells x.body f) e s.2) t.2)

-- whole elements are cut in one way
pub same_joined : (es fs : List Element) → joined es ≡ joined fs → es ≡ fs
same_joined es fs h =
    elim (compare es fs [] [] (append-nil (joined es) ∙ h ∙ sym (append-nil (joined fs)))) [
      | inl l ↦ sym (l.1 ∙ ap (λ (x : List Element). es ++ x) (none l.0 l.2) ∙ append-nil es)
      | inr l ↦ l.1 ∙ ap (λ (x : List Element). fs ++ x) (none l.0 l.2) ∙ append-nil fs
    ]
  where
    none : (more : List Element) → [] ≡ joined more ++ [] → more ≡ []
    none [] e = refl
    none (s ∷ more) e = absurd cc

one_mde : IsOne SpellsMde
one_mde body f g s t = s.1 ∙ sym t.1

one_gtk : IsOne SpellsGtkKde
one_gtk body f g s t = s.1 ∙ sym t.1

one_igtk : IsOne SpellsIgtkKde
one_igtk body f g s t = s.1 ∙ sym t.1

one_timeout : IsOne SpellsTimeout
one_timeout body f g s t = s.1 ∙ sym t.1

one_whole : (id : ℕ) → IsOne (IsWhole id)
one_whole id body f g s t = s ∙ sym t

made_fte : List ℕ → List ℕ → List ℕ → List ℕ → Option (List ℕ) → Option WrappedGtkFields → Option (List ℕ) → Option WrappedIgtkFields → FteFields
made_fte c m a s r g h i = record { mic_control = c; mic = m; anonce = a; snonce = s; r1kh_id = r; gtk = g; r0kh_id = h; igtk = i }

same_made_fte : (f g : FteFields) → f.mic_control ≡ g.mic_control → f.mic ≡ g.mic → f.anonce ≡ g.anonce → f.snonce ≡ g.snonce → f.r1kh_id ≡ g.r1kh_id → f.gtk ≡ g.gtk → f.r0kh_id ≡ g.r0kh_id → f.igtk ≡ g.igtk
    → made_fte f.mic_control f.mic f.anonce f.snonce f.r1kh_id f.gtk f.r0kh_id f.igtk ≡ made_fte g.mic_control g.mic g.anonce g.snonce g.r1kh_id g.gtk g.r0kh_id g.igtk
same_made_fte f g a b c d e h k m = cc

same_fte_parts : (f g : FteFields) → f.mic_control ≡ g.mic_control → f.mic ≡ g.mic → f.anonce ≡ g.anonce → f.snonce ≡ g.snonce → f.r1kh_id ≡ g.r1kh_id → f.gtk ≡ g.gtk → f.r0kh_id ≡ g.r0kh_id → f.igtk ≡ g.igtk → f ≡ g
unfolding made_fte
same_fte_parts f g a b c d e h k m = same_made_fte f g a b c d e h k m

pub one_fte : IsOne SpellsFte
one_fte body f g s t =
    let subelements : s.subelements ≡ t.subelements = same_joined s.subelements t.subelements (sym s.rest ∙ t.rest) in
    let say : SubelementsSay t.subelements f.r1kh_id f.gtk f.r0kh_id f.igtk = subst (λ (es : List Element). SubelementsSay es f.r1kh_id f.gtk f.r0kh_id f.igtk) subelements s.say in
    same_fte_parts f g (s.mic_control ∙ sym t.mic_control) (s.mic ∙ sym t.mic) (s.anonce ∙ sym t.anonce) (s.snonce ∙ sym t.snonce)
    (same_says _ SpellsR1khId (λ b x y p q. p.1 ∙ sym q.1) t.subelements _ _ say.first t.say.first)
    (same_says _ SpellsWrappedGtk (λ b x y p q. p.1 ∙ sym q.1) t.subelements _ _ say.second t.say.second)
    (same_says _ SpellsR0khId (λ b x y p q. p.2 ∙ sym q.2) t.subelements _ _ say.third t.say.third)
    (same_says _ SpellsWrappedIgtk (λ b x y p q. p.1 ∙ sym q.1) t.subelements _ _ say.fourth t.say.fourth)

made : Option RsneFields → Option MdeFields → Option FteFields → Option GtkKdeFields → Option IgtkKdeFields → Option ℕ → Option ℕ → Option (List ℕ) → Option (List ℕ) → Option (List ℕ) → ElementFields
made r m f g i d l x y z = record { rsne = r; mde = m; fte = f; gtk = g; igtk = i; deadline = d; lifetime = l; rsne_octets = x; mde_octets = y; fte_octets = z }

-- those of one element each, and then their octets
same_made : (f g : ElementFields) → f.rsne ≡ g.rsne → f.mde ≡ g.mde → f.fte ≡ g.fte → f.gtk ≡ g.gtk → f.igtk ≡ g.igtk → f.deadline ≡ g.deadline → f.lifetime ≡ g.lifetime
    → made f.rsne f.mde f.fte f.gtk f.igtk f.deadline f.lifetime f.rsne_octets f.mde_octets f.fte_octets ≡ made g.rsne g.mde g.fte g.gtk g.igtk g.deadline g.lifetime f.rsne_octets f.mde_octets f.fte_octets
same_made f g a b c d i e h = cc

same_octets : (f g : ElementFields) → f.rsne_octets ≡ g.rsne_octets → f.mde_octets ≡ g.mde_octets → f.fte_octets ≡ g.fte_octets
    → made g.rsne g.mde g.fte g.gtk g.igtk g.deadline g.lifetime f.rsne_octets f.mde_octets f.fte_octets ≡ made g.rsne g.mde g.fte g.gtk g.igtk g.deadline g.lifetime g.rsne_octets g.mde_octets g.fte_octets
same_octets f g k m n = cc

same_parts : (f g : ElementFields) → f.rsne ≡ g.rsne → f.mde ≡ g.mde → f.fte ≡ g.fte → f.gtk ≡ g.gtk → f.igtk ≡ g.igtk → f.deadline ≡ g.deadline → f.lifetime ≡ g.lifetime → f.rsne_octets ≡ g.rsne_octets → f.mde_octets ≡ g.mde_octets → f.fte_octets ≡ g.fte_octets → f ≡ g
unfolding made
same_parts f g a b c d i e h k m n = same_made f g a b c d i e h ∙ same_octets f g k m n

pub same_tells : (within : Within) (es : List Element) (f g : ElementFields) → Tells within es f → Tells within es g → f ≡ g
same_tells within es f g s t =
    same_parts f g
    (same_says _ SpellsRsne same_rsne es _ _ s.rsne t.rsne)
    (same_says _ SpellsMde one_mde es _ _ s.mde t.mde)
    (same_says _ SpellsFte one_fte es _ _ s.fte t.fte)
    (same_says _ SpellsGtkKde one_gtk es _ _ s.gtk t.gtk)
    (same_says _ SpellsIgtkKde one_igtk es _ _ s.igtk t.igtk)
    (same_says _ SpellsTimeout one_timeout es _ _ s.deadline t.deadline)
    (same_says _ SpellsTimeout one_timeout es _ _ s.lifetime t.lifetime)
    (same_says _ (IsWhole 0x30) (one_whole 0x30) es _ _ s.rsne_octets t.rsne_octets)
    (same_says _ (IsWhole 0x36) (one_whole 0x36) es _ _ s.mde_octets t.mde_octets)
    (same_says _ (IsWhole 0x37) (one_whole 0x37) es _ _ s.fte_octets t.fte_octets)

-- the octets that are kept are those of the element
says_raw : {F : Type 0} (kind : Element → Bool) (id : ℕ) (Spells : List ℕ → F → Type 0) (es : List Element) (o : Option F) (r : Option (List ℕ)) → Says kind Spells es o → Says kind (IsWhole id) es r → IsRaw id Spells o r
says_raw kind id Spells es None None s t = refl
says_raw kind id Spells es None (Some w) s t = absurd (cc (s, t.1))
says_raw kind id Spells es (Some f) None s t = absurd (cc (s.1, t))
says_raw kind id Spells es (Some f) (Some w) s t =
    let e : s.0 ≡ t.0 = cc (s.1, t.1) in
    (s.0.body, ap (λ (x : List ℕ). Some x) (t.2 ∙ ap (λ (x : Element). id ∷ length x.body ∷ x.body) (sym e)), s.2)

pub has_raw : (within : Within) (octets : List ℕ) (f : ElementFields) → SpellsElements within octets f → HasRaw f
has_raw within octets f s = record {
  rsne = says_raw (is within AnRsne) 0x30 SpellsRsne s.elements _ _ s.tells.rsne s.tells.rsne_octets;
  mde = says_raw (is within AnMde) 0x36 SpellsMde s.elements _ _ s.tells.mde s.tells.mde_octets;
  fte = says_raw (is within AnFte) 0x37 SpellsFte s.elements _ _ s.tells.fte s.tells.fte_octets;
}

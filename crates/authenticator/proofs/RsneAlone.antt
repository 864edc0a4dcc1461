-- The RSNE of an association request, read alone, says what it says in the request.
use Rattle.std.proofs.Common.{◌≡◌, ℕ, List, [], ◌∷◌, ◌++◌, length, Option, Some, None, refl, sym, ◌∙◌}
use Rattle.std.proofs.lemmas.List.{append-nil}
use Rattle.domain_base.specs.declared.names.Akm.{Akm}
use Rattle.rsn_elements.specs.declared.framing.Within.TheVariants.{Body}
use Rattle.rsn_elements.specs.Framing.{Element, element_octets}
use Rattle.rsn_elements.specs.Rsne.{RsneFields, SpellsRsne}
use Rattle.rsn_elements.specs.Elements.{ElementFields, SpellsElements, IsRaw}
use Rattle.rsn_elements.proofs.Unique.{has_raw}
use Rattle.domain_rules.specs.AccessPointKeys.{HasElements}

abbrev alone : Option RsneFields → List ℕ → ElementFields
alone v raw = record { rsne = v; mde = None; fte = None; gtk = None; igtk = None; deadline = None; lifetime = None; rsne_octets = Some raw; mde_octets = None; fte_octets = None }

spelled : (body : List ℕ) (v : RsneFields) (raw : List ℕ) → SpellsRsne body v → raw ≡ 0x30 ∷ length body ∷ body → SpellsElements Body raw (alone (Some v) raw)
spelled body v raw spells whole =
    let e : Element = record { id = 0x30; body = body } in
    record {
      elements = e ∷ [];
      rest = [];
      cut = whole ∙ sym (append-nil (element_octets e)) ∙ sym (append-nil (element_octets e ++ []));
      ends = tt;
      tells = record {
        going = ((λ ended. ended), tt);
        rsne = (e, refl, spells);
        mde = refl;
        fte = refl;
        gtk = refl;
        igtk = refl;
        timeouts = λ kind. (None, refl);
        deadline = refl;
        lifetime = refl;
        rsne_octets = (e, refl, whole);
        mde_octets = refl;
        fte_octets = refl;
      };
    }

by_raw : (o : Option RsneFields) (r : Option (List ℕ)) (raw : List ℕ) → IsRaw 0x30 SpellsRsne o r → Some raw ≡ r → (f : ElementFields) × (SpellsElements Body raw f × (f.rsne ≡ o))
by_raw None r raw is some = absurd (cc (is, some))
by_raw (Some v) r raw is some =
    let whole : raw ≡ 0x30 ∷ length is.0 ∷ is.0 = cc (some, is.1) in
    (alone (Some v) raw, (spelled is.0 v raw is.2 whole, refl))

pub rsne_alone : (akm : Akm) (octets : List ℕ) (e : ElementFields) (raw : List ℕ) → HasElements akm octets e → Some raw ≡ e.rsne_octets → (f : ElementFields) × (SpellsElements Body raw f × (f.rsne ≡ e.rsne))
rsne_alone akm octets e raw has is = by_raw e.rsne e.rsne_octets raw (has_raw Body has.0.elements e has.1.1).rsne is

-- What a supplicant is given of an association response.
use Rattle.std.proofs.Common.{◌≡◌, ◌≢◌, ◌∙◌, ℕ, Bool, true, false, List, [], ◌∷◌, ◌++◌, length, Option, Some, None, refl, sym, ap, subst}
use Rattle.std.specs.Prelude.{◌==◌, ◌&&◌, is_some, if◌then◌else◌}
use Rattle.std.proofs.lemmas.List.{append-nil}
use Rattle.domain_base.specs.declared.names.Akm.{Akm}
use Rattle.domain_base.specs.declared.names.Akm.TheVariants.{Psk, PskSha256, FtPsk}
use Rattle.domain_base.specs.declared.names.Node.TheVariants.{Ap, Sta}
use Rattle.key_hierarchy.specs.Sizes.{IsR0khId}
use Rattle.rsn_elements.specs.declared.framing.Within.TheVariants.{Body}
use Rattle.rsn_elements.specs.Framing.{Element, element_octets, Says}
use Rattle.rsn_elements.specs.Transition.{FteFields, SpellsFte, SpellsR0khId, has_id}
use Rattle.rsn_elements.specs.Elements.{ElementFields, SpellsElements, IsRaw, HasRaw}
use Rattle.run_journal.specs.declared.domain.Domain.{Domain}
use Rattle.run_journal.specs.declared.acts.Reason.TheVariants as reason
use Rattle.run_journal.specs.declared.acts.Outcome.{Outcome}
use Rattle.run_journal.specs.declared.acts.Outcome.TheVariants.{Accepted, Refused}
use Rattle.domain_rules.specs.Network.{address, inputs_at}
use Rattle.domain_rules.specs.Reading.{Management, Managed, Reads}
use Rattle.domain_rules.specs.Facts.{is_same}
use Rattle.domain_rules.specs.FastTransition.{mde_status, or_status, fte_status, names_r1kh}
use Rattle.domain_rules.specs.Suites.{without_status}
use Rattle.domain_rules.specs.Associating.{response_fields}
use Rattle.domain_rules.specs.TransitionKeyData.{responded_r0kh_id}
use Rattle.frame_making.specs.Mobile.{Mobility}
use Rattle.frame_making.specs.KeyData.{IsMobility}
use Rattle.key_hierarchy.specs.declared.inputs.Inputs.{Inputs}
use Rattle.supplicant.specs.declared.base.Base.{Base}
use Rattle.supplicant.specs.Bases.{NamesHolder, IsBaseOf, fte_in}
use Rattle.supplicant.specs.Stands.{Responds}
use Rattle.station_node.specs.Responses.{response_outcome, fte_with}
use Rattle.station_node.specs.Stands.{NamesHolder as NamesHolderWith}
use Rattle.station_node.proofs.Beginning.{IsBasedOn}

-- ---- the FTE of an association response, read alone

abbrev pub alone : FteFields → List ℕ → ElementFields
alone f raw = record { rsne = None; mde = None; fte = Some f; gtk = None; igtk = None; deadline = None; lifetime = None; rsne_octets = None; mde_octets = None; fte_octets = Some raw }

spelled : (body : List ℕ) (f : FteFields) (raw : List ℕ) → SpellsFte body f → raw ≡ 0x37 ∷ length body ∷ body → SpellsElements Body raw (alone f raw)
spelled body f raw spells whole =
    let e : Element = record { id = 0x37; body = body } in
    record {
      elements = e ∷ [];
      rest = [];
      cut = whole ∙ sym (append-nil (element_octets e)) ∙ sym (append-nil (element_octets e ++ []));
      ends = tt;
      tells = record {
        going = ((λ ended. ended), tt);
        rsne = refl;
        mde = refl;
        fte = (e, refl, spells);
        gtk = refl;
        igtk = refl;
        timeouts = λ kind. (None, refl);
        deadline = refl;
        lifetime = refl;
        rsne_octets = refl;
        mde_octets = refl;
        fte_octets = (e, refl, whole);
      };
    }

-- it stands there, with an R0KH-ID
pub record HasFte (e : ElementFields) : Type 0 where
  pub f : FteFields
  pub fte : e.fte ≡ Some f
  pub raw : List ℕ
  pub octets : e.fte_octets ≡ Some raw
  pub id : List ℕ
  pub id_is : f.r0kh_id ≡ Some id
  pub sized : IsR0khId id
  pub spells : SpellsElements Body raw (alone f raw)

some_id : (f : FteFields) (r1 : List ℕ) → (is_same f.r1kh_id (Some r1) && is_some f.r0kh_id) ≡ true → (id : List ℕ) × (f.r0kh_id ≡ Some id)
some_id f r1 is = by f.r0kh_id refl (second (is_same f.r1kh_id (Some r1)) (is_some f.r0kh_id) is)
  where
    second : (a b : Bool) → (a && b) ≡ true → b ≡ true
    second true b is = is
    second false b is = absurd (cc is)

    by : (o : Option (List ℕ)) → f.r0kh_id ≡ o → is_some o ≡ true → (id : List ℕ) × (f.r0kh_id ≡ Some id)
    by None is some = absurd (cc some)
    by (Some id) is some = (id, is)

sized_id : (body : List ℕ) (f : FteFields) (id : List ℕ) → SpellsFte body f → f.r0kh_id ≡ Some id → IsR0khId id
sized_id body f id spells is =
    let third : Says (has_id 3) SpellsR0khId spells.subelements (Some id) = subst (λ (o : Option (List ℕ)). Says (has_id 3) SpellsR0khId spells.subelements o) is spells.say.third in
    subst IsR0khId (sym third.2.2) (record { least = third.2.0; most = third.2.1 })

fte_by : (e : ElementFields) (o : Option FteFields) (r1 : List ℕ) → e.fte ≡ o → IsRaw 0x37 SpellsFte o e.fte_octets → names_r1kh r1 o ≡ true → HasFte e
fte_by e None r1 is raw names = absurd (cc names)
fte_by e (Some f) r1 is raw names =
    let named = some_id f r1 names in
    record {
      f = f;
      fte = is;
      raw = 0x37 ∷ length raw.0 ∷ raw.0;
      octets = raw.1;
      id = named.0;
      id_is = named.1;
      sized = sized_id raw.0 f named.0 raw.2 named.1;
      spells = spelled raw.0 f (0x37 ∷ length raw.0 ∷ raw.0) raw.2 refl;
    }

-- ---- a response that is accepted with suite 4

by_status : (status : ℕ) (o : Outcome) → Accepted ≡ (if status == 0 then o else Refused (reason.Status status)) → Accepted ≡ o
by_status status o is = by (status == 0) is
  where
    by : (b : Bool) → Accepted ≡ (if b then o else Refused (reason.Status status)) → Accepted ≡ o
    by true is = is
    by false is = absurd (cc is)

by_elements : (m : Option ℕ) (b : Bool) → Accepted ≡ without_status m (or_status fte_status b Accepted) → b ≡ true
by_elements None true is = refl
by_elements None false is = absurd (cc is)
by_elements (Some code) b is = absurd (cc is)

pub has_fte : (d : Domain) (p status : ℕ) (e : ElementFields) → d.akm ≡ FtPsk → HasRaw e → Accepted ≡ response_outcome d p status e → HasFte e
has_fte d p status e suite raw accepts =
    let fields : Accepted ≡ response_fields FtPsk d (Ap p) e = by_status status (response_fields d.akm d (Ap p) e) accepts ∙ ap (λ (a : Akm). response_fields a d (Ap p) e) suite in
    fte_by e e.fte (address d (Ap p)) refl raw.fte (by_elements (mde_status d e.mde) (names_r1kh (address d (Ap p)) e.fte) fields)

responded : (e : ElementFields) (x : HasFte e) → responded_r0kh_id (Some e) ≡ x.id
responded e x = rw (x.fte, x.id_is) refl

alone_responded : (e : ElementFields) (x : HasFte e) → responded_r0kh_id (Some (alone x.f x.raw)) ≡ x.id
alone_responded e x = rw (x.id_is) refl

with_mobile : (akm : Akm) (e : ElementFields) (x : HasFte e) → akm ≡ FtPsk → fte_with akm e ≡ x.raw
with_mobile akm e x suite = ap (λ (a : Akm). fte_with a e) suite ∙ rw (x.octets) refl

-- its FTE names a key holder
pub names_holder : (d : Domain) (p status : ℕ) (e : ElementFields) → HasRaw e → Accepted ≡ response_outcome d p status e → d.akm ≡ FtPsk → NamesHolder (fte_with d.akm e)
names_holder d p status e raw accepts suite =
    let x = has_fte d p status e suite raw accepts in
    subst NamesHolder (sym (with_mobile d.akm e x suite)) (alone x.f x.raw, (x.spells, subst IsR0khId (sym (alone_responded e x)) x.sized))

-- ---- what the supplicant's attempt goes back to

same_fte : (d : Domain) (i : Inputs) (fte : List ℕ) (b : Base) → (d.akm ≢ FtPsk → fte ≡ []) → IsMobility d i fte b.mobility → fte_in b ≡ fte
same_fte d i fte b none at = by b.mobility refl at
  where
    by : (o : Option Mobility) → b.mobility ≡ o → IsMobility d i fte o → fte_in b ≡ fte
    by None is other = rw is (sym (none other))
    by (Some m) is has = rw is has.3

without : (akm : Akm) (e : ElementFields) → akm ≢ FtPsk → fte_with akm e ≡ []
without Psk e other = refl
without PskSha256 e other = refl
without FtPsk e other = absurd (other refl)

abbrev says_with : Akm → ElementFields → Option ElementFields
says_with FtPsk e = Some e
says_with _ e = None

responds : (akm : Akm) (octets : List ℕ) (b : Management) (e : ElementFields) (base : Base) → Reads akm octets (Managed b e) → (akm ≡ FtPsk → (e.fte_octets ≡ Some (fte_in base)) × (base.r0kh_id ≡ responded_r0kh_id (Some e))) → Responds akm (Some octets) (says_with akm e) base
responds Psk octets b e base reads mobile = refl
responds PskSha256 octets b e base reads mobile = refl
responds FtPsk octets b e base reads mobile = ((b, reads), (mobile refl).0, (mobile refl).1)

pub based_on : (d : Domain) (sta p status : ℕ) (octets : List ℕ) (b : Management) (e : ElementFields) (base : Base) → Reads d.akm octets (Managed b e) → HasRaw e → Accepted ≡ response_outcome d p status e → IsBaseOf d (Sta sta) (Ap p) (fte_with d.akm e) base
    → IsBasedOn d (Sta sta) (Ap p) octets base × NamesHolderWith d base.r0kh_id
based_on d sta p status octets b e base reads raw accepts of =
    let same : fte_in base ≡ fte_with d.akm e = same_fte d (inputs_at d (Sta sta) (Ap p) base.r0kh_id [] []) (fte_with d.akm e) base (without d.akm e) of.mobility in
    let id_is : (suite : d.akm ≡ FtPsk) → base.r0kh_id ≡ (has_fte d p status e suite raw accepts).id =
    λ suite. (let x = has_fte d p status e suite raw accepts in of.id (alone x.f x.raw) (subst (λ (l : List ℕ). SpellsElements Body l (alone x.f x.raw)) (sym (with_mobile d.akm e x suite)) x.spells) ∙ alone_responded e x) in (
      record {
        of = subst (λ (l : List ℕ). IsBaseOf d (Sta sta) (Ap p) l base) (sym same) of;
        says = says_with d.akm e;
        responds = responds d.akm octets b e base reads (λ suite. (let x = has_fte d p status e suite raw accepts in
            (x.octets ∙ ap (λ (l : List ℕ). Some l) (sym (same ∙ with_mobile d.akm e x suite)), id_is suite ∙ sym (responded e x))));
      },
      (λ suite. subst IsR0khId (sym (id_is suite)) (has_fte d p status e suite raw accepts).sized),
    )

-- Group keys under key wrap.
use Rattle.std.proofs.Common.{◌≡◌, ◌∙◌, ◌+◌, ◌<◌, ℕ, Bool, true, false, List, [], length, take, get_or, Option, Some, refl, sym, ap, subst, arith}
use Rattle.std.proofs.lemmas.List.{append-nil, take_all}
use Rattle.domain_base.specs.Octets.{AreOctets}
use Rattle.key_wrap.specs.KeyWrap.{Wraps}
use Rattle.key_wrap.proofs.OutLemmas.{octets_unwrapped}
use Rattle.rsn_elements.specs.Transition.{FteFields}
use Rattle.domain_rules.specs.Frames.{wrapped}
use Rattle.domain_rules.specs.FastTransition.{igtk_to_unwrap}
use Rattle.ft_exchange.specs.Group.{IsOpened}
use Rattle.ft_exchange.specs.declared.group.Opened.{Opened}
use Rattle.ft_exchange.specs.declared.group.Opened.TheVariants.{Nothing, Bad, Plain}

are_octets : (kek : List ℕ) → ((k : ℕ) → get_or kek k 0 < 256) → AreOctets kek
are_octets kek low = octets_unwrapped kek [] (subst (λ (x : List ℕ). (k : ℕ) → get_or x k 0 < 256) (sym (append-nil kek)) low)

pub opened_plain : (kek octets out : List ℕ) (end : ℕ) → ((k : ℕ) → get_or kek k 0 < 256) → end + 8 ≡ length octets → length octets ≡ 24 → length out ≡ 16 → Wraps kek (take end out) octets → IsOpened kek (Some octets) (Plain out)
opened_plain kek octets out end low size len room wraps =
    (octets, refl, (are_octets kek low, subst (λ (x : List ℕ). Wraps kek x octets) (take_all end out (omega (arith, size, len, room))) wraps))

pub opened_bad : (kek octets : List ℕ) → ((plain : List ℕ) → Wraps kek plain octets → ⊥) → IsOpened kek (Some octets) Bad
opened_bad kek octets none = (octets, refl, λ plain are wraps. none plain wraps)

pub wrapped_is : (kek plain out : List ℕ) (end : ℕ) → end ≡ length plain + 8 → length plain ≡ 16 → length out ≡ 24 → Wraps kek plain (take end out) → out ≡ wrapped kek plain
wrapped_is kek plain out end size len room wraps = sym (take_all end out (omega (arith, size, len, room))) ∙ wraps.wrapped

-- of an IGTK nothing is to be unwrapped where management frames are not protected
pub opened_protected : (kek : List ℕ) (protected : Bool) (f : Option FteFields) (o : Opened) → protected ≡ true → IsOpened kek (igtk_to_unwrap true f) o → IsOpened kek (igtk_to_unwrap protected f) o
opened_protected kek protected f o mfp is = subst (λ (b : Bool). IsOpened kek (igtk_to_unwrap b f) o) (sym mfp) is

pub opened_unprotected : (kek : List ℕ) (protected : Bool) (f : Option FteFields) → protected ≡ false → IsOpened kek (igtk_to_unwrap protected f) Nothing
opened_unprotected kek protected f off = ap (λ (b : Bool). igtk_to_unwrap b f) off

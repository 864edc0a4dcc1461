use Rattle.std.proofs.Common.{◌≡◌, ◌<◌, ℕ, [], true, false, get_or, refl, sym, ap, ◌∙◌, arith}
use Rattle.std.specs.Prelude.{filter}
use Rattle.rsn_elements.specs.Fields.{element_of}
use Rattle.rsn_elements.specs.Elements.{ATimeout, is}
use Rattle.rsn_elements.proofs.Gathering.{gathers_timeout, tells_timeout, says_this, says_other, of_type}
use Rattle.rsn_elements.proofs.Refusing.{no_version, sized_timeout, refuses_length, refuses_second}
use Rattle.rsn_elements.proofs.reading.Gathered.take_timeout.Goals as goal

pub returns-in_default-clause-err : goal.returns-in_default-clause-err
returns-in_default-clause-err c within es g =
    let e = element_of c.args.element in
    refuses_length within es e _ (ATimeout (get_or e.body 0 0)) c.fault_of.ensures (no_version within e 0x38 c.requires (λ h. omega (arith, h))) (of_type within e c.requires _ refl) c.in_default.ensures

pub returns-then-has_type-clause-err : goal.returns-then-has_type-clause-err
returns-then-has_type-clause-err c within es g =
    let e = element_of c.args.element in
    let first = get_or e.body 0 0 in
    let marked : get_or c.args.self.now.types first false ≡ true = sym c.has_type.ensures ∙ c.if-has_type.true in
    refuses_second within es e _ (ATimeout first) c.fault_of-then-has_type.ensures (sized_timeout within e c.requires c.in-Some.ensures.0) (of_type within e c.requires first refl) (g.seen first marked)

pub returns-in-1-clause-ok : goal.returns-in-1-clause-ok
returns-in-1-clause-ok c within es going g =
    let e = element_of c.args.element in
    let first = get_or e.body 0 0 in
    let low : first < 256 = omega (arith, c.from.ensures) in
    let free : filter (is within (ATimeout first)) es ≡ [] = g.unseen first low (sym c.has_type.ensures ∙ c.if-has_type.false) in
    let this = says_this within es e c.in-Some.value c.requires c.in-Some.ensures 1 c.in-1.is (ap (λ (k : ℕ). filter (is within (ATimeout k)) es) (sym c.in-1.is) ∙ free) in
    let that = says_other within es e c.in-Some.value c.requires c.in-Some.ensures 2 _ (λ h. omega (arith, h, c.in-1.is)) g.tells.lifetime in
    gathers_timeout within es e c.in-Some.value c.requires c.in-Some.ensures c.args.self.now _ c.from.result (sym c.from.ensures) (omega (arith, c.from.ensures)) refl g
    (tells_timeout within es e c.in-Some.value c.requires c.in-Some.ensures _ going g.tells free _ _ this that)

pub returns-in-2-clause-ok : goal.returns-in-2-clause-ok
returns-in-2-clause-ok c within es going g =
    let e = element_of c.args.element in
    let first = get_or e.body 0 0 in
    let low : first < 256 = omega (arith, c.from.ensures) in
    let free : filter (is within (ATimeout first)) es ≡ [] = g.unseen first low (sym c.has_type.ensures ∙ c.if-has_type.false) in
    let this = says_other within es e c.in-Some.value c.requires c.in-Some.ensures 1 _ (λ h. omega (arith, h, c.in-2.is)) g.tells.deadline in
    let that = says_this within es e c.in-Some.value c.requires c.in-Some.ensures 2 c.in-2.is (ap (λ (k : ℕ). filter (is within (ATimeout k)) es) (sym c.in-2.is) ∙ free) in
    gathers_timeout within es e c.in-Some.value c.requires c.in-Some.ensures c.args.self.now _ c.from.result (sym c.from.ensures) (omega (arith, c.from.ensures)) refl g
    (tells_timeout within es e c.in-Some.value c.requires c.in-Some.ensures _ going g.tells free _ _ this that)

pub returns-in_default-kind-clause-ok : goal.returns-in_default-kind-clause-ok
returns-in_default-kind-clause-ok c within es going g =
    let e = element_of c.args.element in
    let first = get_or e.body 0 0 in
    let low : first < 256 = omega (arith, c.from.ensures) in
    let free : filter (is within (ATimeout first)) es ≡ [] = g.unseen first low (sym c.has_type.ensures ∙ c.if-has_type.false) in
    let this = says_other within es e c.in-Some.value c.requires c.in-Some.ensures 1 _ (λ h. omega (arith, h)) g.tells.deadline in
    let that = says_other within es e c.in-Some.value c.requires c.in-Some.ensures 2 _ (λ h. omega (arith, h)) g.tells.lifetime in
    gathers_timeout within es e c.in-Some.value c.requires c.in-Some.ensures c.args.self.now _ c.from.result (sym c.from.ensures) (omega (arith, c.from.ensures)) refl g
    (tells_timeout within es e c.in-Some.value c.requires c.in-Some.ensures _ going g.tells free _ _ this that)

use Rattle.std.proofs.Common.{◌≡◌, ◌++◌, ◌<◌, ◌+◌, ℕ, List, length, length-append, rules, refl, ap, subst, arith}
use Rattle.text_lines.specs.declared.limits.Limits.{Limits}
use Rattle.text_lines.proofs.Texts.{cut_more}
use Rattle.text_lines.proofs.cutter.LineCutter.add.Goals as goal

pub returns-then-octets-self-clause-cut : goal.returns-then-octets-self-clause-cut
returns-then-octets-self-clause-cut c l before good h =
    let s = c.args.self.now in
    subst (λ (x : Limits). x.octets < length s.line.items + length c.args.octets.now) h.limits_are (omega (arith, c.if-octets-self.true, s.short, s.line.ok.0))

pub returns-clause-cut : goal.returns-clause-cut
returns-clause-cut c l before good h =
    let s = c.args.self.now in
    let items : c.extend_from_slice.new.self.items ≡ s.line.items ++ c.args.octets.now = search rules in
    cut_more l s _ before c.args.octets.now good h c.requires refl refl items (omega (arith, ap (λ (w : List ℕ). length w) items, length-append s.line.items c.args.octets.now, c.if-octets-self.false, s.short, s.line.ok.0))

-- Octets of a text as lines.
use Rattle.std.proofs.Common.{◌≡◌, ◌≢◌, ℕ, zero, suc, ◌+◌, ◌-◌, ◌<◌, ◌≤◌, get_or, take, drop, List, [], ◌∷◌, ◌++◌, length, sym, ap, subst, ◌∙◌, append_assoc, arith}
use Rattle.std.proofs.lemmas.Bool.{eqb-true}
use Rattle.std.proofs.lemmas.List.{append-nil, get_or-drop}
use Rattle.memchr.specs.Find.{Nowhere, Passes, is_byte}
use Rattle.text_lines.specs.declared.limits.Limits.{Limits}
use Rattle.text_lines.specs.declared.cutter.LineCutter.{LineCutter}
use Rattle.text_lines.specs.Cuts.{HasCut}
use Rattle.text_lines.specs.Texts.{AreLinesIn, BeginsIn, NoFeed, joined}

pub Begins-more : (l : Limits) (octets more : List ℕ) (good : List (List ℕ)) (rest : List ℕ) → BeginsIn l octets good rest → BeginsIn l (octets ++ more) good (rest ++ more)
Begins-more l octets more good rest b = record {
  whole = ap (λ (w : List ℕ). w ++ more) b.whole ∙ append_assoc (joined good) rest more;
  each = b.each;
}

Begins-line : (l : Limits) (octets : List ℕ) (good : List (List ℕ)) (line : List ℕ) → BeginsIn l octets good line → NoFeed line → length line ≤ l.octets → length good < l.lines → BeginsIn l (octets ++ 10 ∷ []) (line ∷ good) []
unfolding joined AreLinesIn
Begins-line l octets good line b none short few = record {
  whole = ap (λ (w : List ℕ). w ++ 10 ∷ []) b.whole ∙ sym (append-nil ((joined good ++ line) ++ 10 ∷ []));
  each = (none, short, few, b.each);
}

pub NoFeed-append : (line more : List ℕ) → NoFeed line → NoFeed more → NoFeed (line ++ more)
NoFeed-append [] more none other = other
NoFeed-append (o ∷ line) more none other = (none.0, NoFeed-append line more none.1 other)

-- the octets before a place at which, and before which, none is a line feed
pub NoFeed-take : (octets : List ℕ) (n : ℕ) → Nowhere (Passes (is_byte 10) octets) 0 n → NoFeed (take n octets)
NoFeed-take octets zero none = tt
NoFeed-take [] (suc n) none = tt
NoFeed-take (o ∷ octets) (suc n) none =
    (λ is. none 0 (omega arith) (omega arith) (ap (is_byte 10) is), NoFeed-take octets n (λ i low high. none (suc i) (omega arith) (omega (arith, high))))

-- the same from another place on
pub NoFeed-from : (octets rest : List ℕ) (at end n : ℕ) → rest ≡ drop at octets → end ≡ at + n → Nowhere (Passes (is_byte 10) rest) 0 n → NoFeed (take (end - at) (drop at octets))
NoFeed-from octets rest at end n is place none =
    let count : n ≡ end - at = omega (arith, place) in
    subst (λ (w : List ℕ). NoFeed w) (ap (λ (w : List ℕ). take n w) is ∙ ap (λ (k : ℕ). take k (drop at octets)) count) (NoFeed-take rest n none)

-- a place that has no line feed is not the first that has one
pub feed_behind : (octets rest : List ℕ) (at k : ℕ) → rest ≡ drop at octets → Passes (is_byte 10) rest k → get_or octets at 0 ≢ 10 → 0 < k
feed_behind octets rest at zero is passes other =
    let here : get_or rest 0 0 ≡ get_or octets at 0 = ap (λ (w : List ℕ). get_or w 0 0) is ∙ get_or-drop at octets 0 0 ∙ ap (λ (n : ℕ). get_or octets n 0) (omega arith) in
    absurd (other (sym here ∙ eqb-true _ _ passes))
feed_behind octets rest at (suc k) is passes other = omega arith

-- ---- octets that are cut into lines

-- more octets of the open line
pub cut_more : (l : Limits) (c d : LineCutter) (before more : List ℕ) (good : List (List ℕ)) → HasCut l c before good → NoFeed more → d.limits ≡ c.limits → d.lines ≡ c.lines → d.line.items ≡ c.line.items ++ more → length d.line.items ≤ d.limits.octets → HasCut l d (before ++ more) good
cut_more l c d before more good h none limits lines items short = record {
  limits_are = limits ∙ h.limits_are;
  begins = subst (λ (w : List ℕ). BeginsIn l (before ++ more) good w) (sym items) (Begins-more l before more good c.line.items h.begins);
  open_line = subst (λ (w : List ℕ). NoFeed w) (sym items) (NoFeed-append c.line.items more h.open_line none);
  short = subst (λ (x : Limits). length d.line.items ≤ x.octets) (limits ∙ h.limits_are) short;
  count = lines ∙ h.count;
  few = h.few;
}

-- its end
pub cut_line : (l : Limits) (c d : LineCutter) (before : List ℕ) (good : List (List ℕ)) → HasCut l c before good → c.lines < c.limits.lines → d.limits ≡ c.limits → d.lines ≡ c.lines + 1 → d.line.items ≡ [] → HasCut l d (before ++ 10 ∷ []) (c.line.items ∷ good)
cut_line l c d before good h room limits lines empty =
    let room_ : c.lines < l.lines = subst (λ (x : Limits). c.lines < x.lines) h.limits_are room in
    record {
      limits_are = limits ∙ h.limits_are;
      begins = subst (λ (w : List ℕ). BeginsIn l (before ++ 10 ∷ []) (c.line.items ∷ good) w) (sym empty) (Begins-line l before good c.line.items h.begins h.open_line h.short (omega (arith, room_, h.count)));
      open_line = subst (λ (w : List ℕ). NoFeed w) (sym empty) tt;
      short = subst (λ (w : List ℕ). length w ≤ l.octets) (sym empty) (omega arith);
      count = omega (arith, lines, h.count);
      few = omega (arith, room_, h.count);
    }

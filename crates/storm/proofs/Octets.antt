-- Octets drawn one after the other.
use Rattle.std.proofs.Common.{◌≡◌, ℕ, ◌+◌, ◌*◌, ◌%◌, ◌^◌, ◌<◌, List, [], ◌∷◌, ◌++◌, length, take, set, refl, ap, sym, ◌∙◌, add-one, arith}
use Rattle.std.proofs.Math.Nat.{mod-add-mod}
use Rattle.std.proofs.lemmas.Grind.{take-set_at}
use Rattle.std.proofs.lemmas.List.{length-set, take_all}
use Rattle.storm.specs.Drawing.{after, drawn, octets}

-- two numbers that wrap are one that does
pub wrapped : (x : ℕ) → (x * 6364136223846793005 % 2 ^ 64 + 1442695040888963407) % 2 ^ 64 ≡ (x * 6364136223846793005 + 1442695040888963407) % 2 ^ 64
wrapped x = mod-add-mod (x * 6364136223846793005) (2 ^ 64) 1442695040888963407

-- the first so many of these are drawn from x on, up to that state
pub record Fills (x place : ℕ) (out : List ℕ) (state : ℕ) : Type 0 where
  pub front : take place out ≡ (octets place x).0
  pub state_is : state ≡ (octets place x).1
  pub len : length out ≡ 32

pub Fills-none : (x state : ℕ) (out : List ℕ) → state ≡ x → length out ≡ 32 → Fills x 0 out state
unfolding octets
Fills-none x state out is long = record { front = refl; state_is = is; len = long }

-- one more
octets-front : (x n : ℕ) → (octets (n + 1) x).0 ≡ (octets n x).0 ++ drawn 256 (octets n x).1 ∷ []
unfolding octets
octets-front x n = rw add-one refl

octets-state : (x n : ℕ) → (octets (n + 1) x).1 ≡ after (octets n x).1
unfolding octets
octets-state x n = rw add-one refl

pub Fills-step : (x place state octet next : ℕ) (out : List ℕ) → Fills x place out state → octet ≡ drawn 256 state → next ≡ after state → place < 32 → Fills x (place + 1) (set out place octet) next
Fills-step x place state octet next out f o s inside =
    let is : octet ≡ drawn 256 (octets place x).1 = o ∙ ap (drawn 256) f.state_is in
    let front : take (place + 1) (set out place octet) ≡ take place out ++ octet ∷ [] = take-set_at out place (place + 1) octet refl (omega (arith, inside, f.len)) in
    let same : take place out ++ octet ∷ [] ≡ (octets place x).0 ++ drawn 256 (octets place x).1 ∷ [] = rw (f.front, is) refl in
    record {
      front = front ∙ same ∙ sym (octets-front x place);
      state_is = s ∙ ap after f.state_is ∙ sym (octets-state x place);
      len = length-set out place octet ∙ f.len;
    }

-- all
pub Fills-octets : (x place state : ℕ) (out : List ℕ) → Fills x place out state → place ≡ 32 → out ≡ (octets 32 x).0
Fills-octets x place state out f all =
    let whole : take place out ≡ out = take_all place out (omega (arith, f.len, all)) in
    sym whole ∙ f.front ∙ ap (λ (n : ℕ). (octets n x).0) all

pub Fills-state : (x place state : ℕ) (out : List ℕ) → Fills x place out state → place ≡ 32 → state ≡ (octets 32 x).1
Fills-state x place state out f all = f.state_is ∙ ap (λ (n : ℕ). (octets n x).1) all

pub ruleset filling = (Fills-none, Fills-step, Fills-octets, Fills-state)

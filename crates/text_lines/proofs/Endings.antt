-- How a reading ends, by what came next in its text.
use Rattle.std.proofs.Common.{◌≡◌, ◌≢◌, ℕ, ◌<◌, ◌≤◌, ◌⊎◌, inl, inr, Bool, true, false, List, [], ◌∷◌, length, refl, sym, subst, arith}
use Rattle.std.proofs.lemmas.List.{append-nil}
use Rattle.text_lines.specs.declared.limits.Limits.{Limits}
use Rattle.text_lines.specs.Longs.{IsLong}
use Rattle.text_lines.specs.Reads.{IsAt, IsLast, IsOver, IsShort, most_read}
use Rattle.text_lines.specs.Texts.{AreLinesIn, BeginsIn, Grammar, HasFaultIn, IsCutIn, IsLastIn, IsPrefixIn, IsTextIn, joined, texts}

-- a last line is at its end
pub last_at : (l : Limits) (octets : List ℕ) (good : List (List ℕ)) (line : List ℕ) → IsLast l octets good line → IsAt l true octets good line line
last_at l octets good line last = record {
  after = [];
  begins = subst (λ (w : List ℕ). BeginsIn l octets good w) (sym (append-nil line)) last.begins;
  open_line = last.open_line;
  ends = inr (refl, (refl, (refl, last.some)));
  short = last.short;
  near = omega arith;
}

-- ---- whole texts

pub over_text : (l : Limits) (octets : List ℕ) (good : List (List ℕ)) → IsOver l octets good → IsTextIn l octets (texts good)
over_text l octets good over = inl (record { lines = good; begins = over.begins; some = over.some; says = refl })

pub last_text : (l : Limits) (octets : List ℕ) (good : List (List ℕ)) (line : List ℕ) → IsLast l octets good line → line ≢ [] → length good < l.lines → IsTextIn l octets (line ∷ texts good)
last_text l octets good line last some few =
    inr (record { lines = good; last = line; begins = last.begins; some = some; line = last.open_line; short = last.short; few = few; says = refl })

-- ---- faults

-- a line that is refused, or one too many
pub wrong_line : {T F : Type 0} (g : Grammar T F) (octets : List ℕ) (ended : Bool) (good : List (List ℕ)) (line text : List ℕ) (told : T) (fault : F) → IsAt g.limits ended octets good line text
    → ((fault ≡ g.too_many) × (g.limits.lines ≤ length good)) ⊎ ((length good < g.limits.lines) × g.refuses text told fault) → HasFaultIn g octets ended good told fault
wrong_line g octets ended good line text told fault at why = record {
  line = line;
  after = at.after;
  begins = at.begins;
  open_line = at.open_line;
  wrong = inr (record { text = text; ends = at.ends; short = at.short; why = why });
}

-- one that is too long
pub long_line : {T F : Type 0} (g : Grammar T F) (octets : List ℕ) (good : List (List ℕ)) (told : T) → IsLong g.limits octets good → HasFaultIn g octets false good told g.too_long
long_line g octets good told long = record {
  line = long.line;
  after = long.after;
  begins = long.begins;
  open_line = long.open_line;
  wrong = inl (refl, long.long);
}

-- ---- other ends

-- the last line that was done
pub line_done : (l : Limits) (octets : List ℕ) (ended : Bool) (good : List (List ℕ)) (line text : List ℕ) → IsAt l ended octets good line text → length good < l.lines → IsLastIn l most_read octets ended good text
line_done l octets ended good line text at few = record {
  line = line;
  after = at.after;
  begins = at.begins;
  open_line = at.open_line;
  ends = at.ends;
  short = at.short;
  few = few;
  near = at.near;
}

-- one over which memory ran out
pub line_dropped : (l : Limits) (P : List (List ℕ) → Type 0) (octets : List ℕ) (ended : Bool) (good : List (List ℕ)) (line text : List ℕ) → IsAt l ended octets good line text → P (texts good) → IsPrefixIn l P most_read octets
line_dropped l P octets ended good line text at told = record {
  good = good;
  line = line;
  after = at.after;
  begins = at.begins;
  open_line = at.open_line;
  short = at.short;
  near = at.near;
  explains = told;
}

-- before any octet
pub none_read : (l : Limits) (P : List (List ℕ) → Type 0) → P [] → IsPrefixIn l P most_read []
unfolding joined AreLinesIn
none_read l P told = record {
  good = [];
  line = [];
  after = [];
  begins = record { whole = refl; each = tt };
  open_line = tt;
  short = omega arith;
  near = omega arith;
  explains = told;
}

-- the source failed
pub line_cut : (l : Limits) (P : List (List ℕ) → Type 0) (octets : List ℕ) (good : List (List ℕ)) → IsShort l octets good → P (texts good) → IsCutIn l P octets
line_cut l P octets good short told = record { good = good; rest = short.rest; begins = short.begins; open_line = short.open_line; short = short.short; explains = told }

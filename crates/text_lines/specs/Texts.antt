-- Texts by lines, whatever their lines tell: scripts, and what later commands read. Lists of lines are NEWEST FIRST (profile).
use Rattle.std.specs.Prelude.{◌≡◌, ◌≢◌, ◌⊎◌, ℕ, suc, ◌<◌, ◌≤◌, ◌-◌, ◌==◌, ◌&&◌, nat_lt, if◌then◌else◌, Bool, true, List, [], ◌∷◌, ◌++◌, length, take, map, slice_index, Option, None, Some}
use Rattle.std.specs.List.{AllByRecursion}
use Rattle.text_lines.specs.declared.limits.Limits.{Limits}

-- what a text by lines is: what is told before its first line; what one more line tells after that; the fault for which a line is
-- refused there; the fault for which the text may not end there; its limits, and the faults of one line too many and of one that is
-- too long
pub record Grammar (Told Fault : Type 0) : Type 1 where
  pub begin : Told → Type 0
  pub next : List ℕ → Told → Told → Type 0
  pub refuses : List ℕ → Told → Fault → Type 0
  pub end : Told → Option Fault
  pub limits : Limits
  pub too_many : Fault
  pub too_long : Fault

-- the lines, the last first, tell this
unfoldable pub TellsIn : {T F : Type 0} → Grammar T F → List (List ℕ) → T → Type 0
TellsIn g [] told = g.begin told
TellsIn {T} g (line ∷ lines) told = (before : T) × (TellsIn g lines before × g.next line before told)

-- ---- lines in octets

-- a line has no line feed
abbrev pub NoFeed : List ℕ → Type 0
NoFeed line = AllByRecursion (λ octet. octet ≢ 10) line

-- what stood before a line feed, without a carriage return at its end
unfoldable pub without_return : List ℕ → List ℕ
without_return line =
    if nat_lt 0 (length line) && slice_index line (length line - 1) == 13 then take (length line - 1) line else line

-- the lines as octets, each with its line feed; the list has the last line first
unfoldable pub joined : List (List ℕ) → List ℕ
joined [] = []
joined (line ∷ lines) = joined lines ++ line ++ 10 ∷ []

-- whole lines within the limits
unfoldable pub AreLinesIn : Limits → List (List ℕ) → Type 0
AreLinesIn l [] = Unit {0}
AreLinesIn l (line ∷ lines) = NoFeed line × (length line ≤ l.octets) × (length lines < l.lines) × AreLinesIn l lines

-- the octets begin with these lines
pub record BeginsIn (l : Limits) (octets : List ℕ) (lines : List (List ℕ)) (rest : List ℕ) : Type 0 where
  pub whole : octets ≡ joined lines ++ rest
  pub each : AreLinesIn l lines

-- what the lines say, each without its end
abbrev pub texts : List (List ℕ) → List (List ℕ)
texts lines = map without_return lines

-- the octets are lines that say this: each has its line feed, or the last one lacks it
pub record IsClosedIn (l : Limits) (octets : List ℕ) (said : List (List ℕ)) : Type 0 where
  pub lines : List (List ℕ)
  pub begins : BeginsIn l octets lines []
  pub some : lines ≢ []
  pub says : said ≡ texts lines

pub record IsOpenIn (l : Limits) (octets : List ℕ) (said : List (List ℕ)) : Type 0 where
  pub lines : List (List ℕ)
  pub last : List ℕ
  pub begins : BeginsIn l octets lines last
  pub some : last ≢ []
  pub line : NoFeed last
  pub short : length last ≤ l.octets
  pub few : length lines < l.lines
  pub says : said ≡ last ∷ texts lines

-- the octets are these lines, at least one, of which the last may lack its line feed
abbrev pub IsTextIn : Limits → List ℕ → List (List ℕ) → Type 0
IsTextIn l octets said = IsClosedIn l octets said ⊎ IsOpenIn l octets said

-- the line after the good ones is at its end, and says this: before a line feed, or at the end of the source, where an
-- empty one is a line only if it is the first
abbrev pub Ends : Bool → List (List ℕ) → List ℕ → List ℕ → List ℕ → Type 0
Ends ended good line after text =
    (((more : List ℕ) × (after ≡ 10 ∷ more)) × (text ≡ without_return line))
    ⊎ ((ended ≡ true) × ((after ≡ []) × ((text ≡ line) × ((line ≢ []) ⊎ (good ≡ [])))))

-- ---- faults

-- a line that is at its end and not too long: one too many, or refused
pub record IsWrongIn {T F : Type 0} (g : Grammar T F) (ended : Bool) (good : List (List ℕ)) (line after : List ℕ) (told : T) (fault : F) : Type 0 where
  pub text : List ℕ
  pub ends : Ends ended good line after text
  pub short : length line ≤ g.limits.octets
  pub why : ((fault ≡ g.too_many) × (g.limits.lines ≤ length good)) ⊎ ((length good < g.limits.lines) × g.refuses text told fault)

-- the line after the good ones, which told this, is the first that is wrong
pub record HasFaultIn {T F : Type 0} (g : Grammar T F) (octets : List ℕ) (ended : Bool) (good : List (List ℕ)) (told : T) (fault : F) : Type 0 where
  pub line : List ℕ
  pub after : List ℕ
  pub begins : BeginsIn g.limits octets good (line ++ after)
  pub open_line : NoFeed line
  pub wrong : ((fault ≡ g.too_long) × (g.limits.octets < length line)) ⊎ IsWrongIn g ended good line after told fault

-- ---- how a reading ended, by what the lines that it took explain

-- the whole text was read, and may end there
pub record IsWholeIn {T F : Type 0} (g : Grammar T F) (Explained : List (List ℕ) → Type 0) (octets : List ℕ) (ended : Bool) (told : T) : Type 0 where
  pub script : List (List ℕ)
  pub is : IsTextIn g.limits octets script
  pub end : ended ≡ true
  pub closed : g.end told ≡ None
  pub explains : Explained script

-- the whole text was read, but may not end there, for that fault, which stands at the line after its last one
pub record IsUnendedIn {T F : Type 0} (g : Grammar T F) (Explained : List (List ℕ) → Type 0) (fault : F) (number : ℕ) (octets : List ℕ) (ended : Bool) (told : T) : Type 0 where
  pub script : List (List ℕ)
  pub is : IsTextIn g.limits octets script
  pub end : ended ≡ true
  pub fault_is : g.end told ≡ Some fault
  pub number_is : number ≡ suc (length script)
  pub explains : Explained script

-- the source failed: all whole lines were read, and the line after them is not too long so far
pub record IsCutIn (l : Limits) (Explained : List (List ℕ) → Type 0) (octets : List ℕ) : Type 0 where
  pub good : List (List ℕ)
  pub rest : List ℕ
  pub begins : BeginsIn l octets good rest
  pub open_line : NoFeed rest
  pub short : length rest ≤ l.octets
  pub explains : Explained (texts good)

-- the reading ended over a line, or before the first, and after it at most so many octets were read, its line feed among them
pub record IsPrefixIn (l : Limits) (Explained : List (List ℕ) → Type 0) (most : ℕ) (octets : List ℕ) : Type 0 where
  pub good : List (List ℕ)
  pub line : List ℕ
  pub after : List ℕ
  pub begins : BeginsIn l octets good (line ++ after)
  pub open_line : NoFeed line
  pub short : length line ≤ l.octets
  pub near : length after ≤ most
  pub explains : Explained (texts good)

-- the line after the good ones is at its end and was the last that was done: it was done as soon as it was read, so that
-- at most so many octets came after it
pub record IsLastIn (l : Limits) (most : ℕ) (octets : List ℕ) (ended : Bool) (good : List (List ℕ)) (text : List ℕ) : Type 0 where
  pub line : List ℕ
  pub after : List ℕ
  pub begins : BeginsIn l octets good (line ++ after)
  pub open_line : NoFeed line
  pub ends : Ends ended good line after text
  pub short : length line ≤ l.octets
  pub few : length good < l.lines
  pub near : length after ≤ most

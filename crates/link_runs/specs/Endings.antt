-- What a run of one end told, by how its reading ended (profile).
use Rattle.std.specs.Prelude.{◌≡◌, ◌≢◌, ◌⊎◌, ℕ, suc, Bool, List, [], ◌∷◌, length, Ok}
use Rattle.std.proofs.Common.{inl, inr}
use Rattle.link_steps.specs.declared.ends.LinkEnd.{LinkEnd}
use Rattle.link_lines.specs.declared.mistakes.Slip.{Slip}
use Rattle.link_lines.specs.declared.refusal.LinkRefusal.{LinkRefusal}
use Rattle.link_lines.specs.declared.said.LinkSaid.TheVariants as said
use Rattle.link_lines.specs.Lines.{line_says}
use Rattle.link_lines.specs.Slips.{slip_in}
use Rattle.text_lines.specs.Texts.{HasFaultIn, IsCutIn, IsLastIn, IsPrefixIn, IsWholeIn, IsWrongIn, TellsIn, texts}
use Rattle.link_runs.specs.declared.found.Breach.{Breach}
use Rattle.link_runs.specs.declared.found.Breach.TheVariants.{ByLink, ByWrite}
use Rattle.link_runs.specs.declared.found.LinkFound.{LinkFound}
use Rattle.link_runs.specs.declared.found.LinkFound.TheVariants as found
use Rattle.link_runs.specs.Outer.{HasStepped}
use Rattle.link_runs.specs.Told.{LastLine, Note, Told, Began, Stepped, Turned, asked_by, script_limits, script_of}

-- a read asks for so many octets
abbrev pub most_read : ℕ
most_read = 512

-- the lines, the last first, told this
abbrev pub TellBy : LinkEnd → Told → List (List ℕ) → Type 0
TellBy end t lines = TellsIn (script_of end) lines t

-- that is what is wrong in a line that is refused, by its words; of one that is too long nothing is said
abbrev pub HasSlip : {A : Type 0} {end : LinkEnd} {ended : Bool} {good : List (List ℕ)} {line after : List ℕ} (t : Told) (refusal : LinkRefusal)
    → Slip → A ⊎ IsWrongIn (script_of end) ended good line after t refusal → Type 0
HasSlip t refusal slip (inl long) = Unit {0}
HasSlip t refusal slip (inr w) = slip ≡ slip_in t.draft (asked_by t) refusal w.text

-- the script has its first fault in the line of that number, in which that is wrong; the lines before it told the steps
pub record IsFaulty (end : LinkEnd) (number : ℕ) (refusal : LinkRefusal) (slip : Slip) (octets : List ℕ) (ended : Bool) (t : Told) : Type 0 where
  pub good : List (List ℕ)
  pub number_is : number ≡ suc (length good)
  pub is : HasFaultIn (script_of end) octets ended good t refusal
  pub slipped : HasSlip t refusal slip is.wrong
  pub told : TellBy end t (texts good)

-- the seed could not be drawn, for which that line asks: the lines before it told the steps, and there are none
pub record IsUndrawn (end : LinkEnd) (octets : List ℕ) (ended : Bool) (t : Told) : Type 0 where
  pub good : List (List ℕ)
  pub text : List ℕ
  pub last : IsLastIn script_limits most_read octets ended good text
  pub asks : line_says t.draft (asked_by t) text ≡ Ok (t.draft, said.Draw)
  pub told : TellBy end t (texts good)
  pub none : t.notes ≡ []

-- the link was to be attached, and nothing was done; the step of the last line has a datagram; or it is a turn
abbrev pub MayBreak : LastLine → List Note → Type 0
MayBreak Began notes = notes ≡ []
MayBreak Stepped (n ∷ notes) = n.step.sent ≢ []
MayBreak Turned notes = Unit {0}
MayBreak _ notes = ⊥

-- or a line could not be written: a step was done
abbrev pub Breaks : Breach → Told → Type 0
Breaks (ByLink error) t = MayBreak t.last t.notes
Breaks ByWrite t = HasStepped t.last t.turns

-- a line was not done wholly: the lines up to it, itself among them, told the steps; of a turn those that came before
pub record IsBroken (why : Breach) (end : LinkEnd) (octets : List ℕ) (ended : Bool) (t : Told) : Type 0 where
  pub good : List (List ℕ)
  pub text : List ℕ
  pub last : IsLastIn script_limits most_read octets ended good text
  pub breaks : Breaks why t
  pub told : TellBy end t (text ∷ texts good)

-- the steps, by the octets read
abbrev pub Tells : LinkFound → LinkEnd → List ℕ → Bool → Told → Type 0
Tells found.Whole end octets ended t = IsWholeIn (script_of end) (TellBy end t) octets ended t
Tells (found.Refused number refusal slip) end octets ended t = IsFaulty end number refusal slip octets ended t
Tells found.NoMemory end octets ended t = IsPrefixIn script_limits (TellBy end t) most_read octets
Tells found.DrawFault end octets ended t = IsUndrawn end octets ended t
Tells (found.Broken why) end octets ended t = IsBroken why end octets ended t
Tells found.ReadFault end octets ended t = IsCutIn script_limits (TellBy end t) octets

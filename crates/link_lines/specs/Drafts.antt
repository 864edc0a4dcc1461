-- What the script of one end of a link has said so far (profile).
use Rattle.std.specs.Prelude.{◌≡◌, ℕ, ◌+◌, ◌≤◌, Bool, true, false, List, [], length, replicate}
use Rattle.domain_base.specs.Places.{part}
use Rattle.link_steps.specs.declared.ends.LinkEnd.{LinkEnd}
use Rattle.link_steps.specs.declared.ends.LinkEnd.TheVariants.{Holder, Asker}
use Rattle.link_lines.specs.declared.draft.LinkDue.{LinkDue}
use Rattle.link_lines.specs.declared.draft.LinkDue.TheVariants as due
use Rattle.link_lines.specs.declared.draft.LinkHeader.{LinkHeader}
use Rattle.link_lines.specs.declared.said.LinkSaid.{LinkSaid}
use Rattle.link_lines.specs.declared.said.LinkSaid.TheVariants.{Nothing, Draw, Begin, Row, Revoke, Ask, Forget, Turn}

-- a header that said nothing
abbrev pub no_header : LinkHeader
no_header = record {
  kck = replicate 16 0;
  kek = replicate 16 0;
  seed = replicate 32 0;
  ssid = [];
  psk = replicate 32 0;
  mdid = replicate 2 0;
  r0kh_id = [];
}

-- at which end it is, which line is due, what the header said, and how many rows were asked for
pub record LinkDraft : Type 0 where
  pub end : LinkEnd
  pub due : LinkDue
  pub header : LinkHeader
  pub rows : ℕ

-- no line has come
abbrev pub no_lines : LinkEnd → LinkDraft
no_lines end = record { end = end; due = due.Version; header = no_header; rows = 0 }

-- the header is whole
abbrev pub is_whole : LinkDue → Bool
is_whole due.Events = true
is_whole other = false

-- once the header is whole, its SSID has 1 to 32 octets, and its R0KH-ID 1 to 48
pub record IsWholeHeader (h : LinkHeader) : Type 0 where
  pub some_ssid : 1 ≤ length h.ssid
  pub few_ssid : length h.ssid ≤ 32
  pub some_id : 1 ≤ length h.r0kh_id
  pub few_id : length h.r0kh_id ≤ 48

-- an SSID that was told has 1 to 32 octets
pub record HasSsid (h : LinkHeader) : Type 0 where
  pub some : 1 ≤ length h.ssid
  pub few : length h.ssid ≤ 32

-- by the line that is due
abbrev pub IsFit : LinkDue → LinkHeader → Type 0
IsFit due.Psk h = HasSsid h
IsFit due.Mdid h = HasSsid h
IsFit due.Holder h = HasSsid h
IsFit due.Events h = IsWholeHeader h
IsFit other h = Unit {0}

-- ---- the header, with one line more

-- a link key is KCK, and then KEK
abbrev pub with_key : LinkHeader → List ℕ → LinkHeader
with_key h key = record h { kck = part 0 16 key; kek = part 16 16 key }

abbrev pub with_seed : LinkHeader → List ℕ → LinkHeader
with_seed h seed = record h { seed = seed }

abbrev pub with_ssid : LinkHeader → List ℕ → LinkHeader
with_ssid h ssid = record h { ssid = ssid }

abbrev pub with_psk : LinkHeader → List ℕ → LinkHeader
with_psk h psk = record h { psk = psk }

abbrev pub with_mdid : LinkHeader → List ℕ → LinkHeader
with_mdid h mdid = record h { mdid = mdid }

abbrev pub with_holder : LinkHeader → List ℕ → LinkHeader
with_holder h id = record h { r0kh_id = id }

-- what was said, with that line due next, and that header
abbrev pub goes_on : LinkDraft → LinkDue → LinkHeader → LinkDraft
goes_on d next h = record d { due = next; header = h }

-- the seed was drawn
abbrev pub seeded : LinkDraft → List ℕ → LinkDraft
seeded d seed = goes_on d due.Ssid (with_seed d.header seed)

-- how many rows were asked for after that event
abbrev pub rows_after : ℕ → LinkSaid → ℕ
rows_after rows (Row sta) = rows + 1
rows_after rows said = rows

abbrev pub with_event : LinkDraft → LinkSaid → LinkDraft
with_event d said = record d { rows = rows_after d.rows said }

-- ---- what a line moves

-- what a line after the header asks for, at that end
abbrev pub IsAsked : LinkSaid → LinkEnd → Type 0
IsAsked (Row sta) end = end ≡ Holder
IsAsked (Revoke sta) end = end ≡ Holder
IsAsked (Ask sta r1kh) end = end ≡ Asker
IsAsked (Forget n) end = end ≡ Asker
IsAsked Turn end = Unit {0}
IsAsked said end = ⊥

-- a whole header stays
abbrev pub Stays : Bool → LinkHeader → LinkHeader → Type 0
Stays true old new = new ≡ old
Stays false old new = Unit {0}

-- by what a line asks for: with the last line of a header the end begins, and it goes on from there
abbrev pub Goes : LinkSaid → LinkDraft → LinkDraft → Type 0
Goes Nothing old new = (new.end ≡ old.end) × ((is_whole new.due ≡ is_whole old.due) × Stays (is_whole old.due) old.header new.header)
Goes Draw old new = (old.due ≡ due.Seed) × (new ≡ old)
Goes Begin old new = (new.end ≡ old.end) × ((is_whole old.due ≡ false) × (is_whole new.due ≡ true))
Goes said old new = (new.end ≡ old.end) × ((is_whole old.due ≡ true) × ((is_whole new.due ≡ true) × ((new.header ≡ old.header) × IsAsked said old.end)))

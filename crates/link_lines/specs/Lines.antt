-- What a line of the script of one end of a link says, after those before it (profile).
use Rattle.std.specs.Prelude.{◌≡◌, ℕ, ◌==◌, nat_lt, if◌then◌else◌, Bool, true, false, List, [], ◌∷◌, bytes_eq, codes, Option, None, Some, Result, Ok, Err}
use Rattle.domain_base.specs.declared.names.Mac.{Mac}
use Rattle.script_words.specs.Tokens.{first_word, hex_octets, is_single, is_text, number_of_digits, split_word}
use Rattle.link_steps.specs.declared.ends.LinkEnd.{LinkEnd}
use Rattle.link_steps.specs.declared.ends.LinkEnd.TheVariants as ends
use Rattle.link_lines.specs.declared.draft.LinkDue.{LinkDue}
use Rattle.link_lines.specs.declared.draft.LinkDue.TheVariants as due
use Rattle.link_lines.specs.declared.refusal.LinkRefusal.{LinkRefusal}
use Rattle.link_lines.specs.declared.refusal.LinkRefusal.TheVariants.{Version, Word, Arguments, Question, ManyRows}
use Rattle.link_lines.specs.declared.said.LinkSaid.{LinkSaid}
use Rattle.link_lines.specs.declared.said.LinkSaid.TheVariants as said
use Rattle.link_lines.specs.Drafts.{LinkDraft, goes_on, seeded, with_event, with_holder, with_key, with_mdid, with_psk, with_ssid}

-- the second form with what the first one gave, or the fault of the first
infixl 10 ◌>>=◌
abbrev pub ◌>>=◌ : {A B : Type 0} → Result A LinkRefusal → (A → Result B LinkRefusal) → Result B LinkRefusal
(Ok a) >>= f = f a
(Err refusal) >>= f = Err refusal

-- arguments of that form
abbrev pub formed : {A : Type 0} → Option A → Result A LinkRefusal
formed None = Err Arguments
formed (Some a) = Ok a

-- a line without octets, and one that begins with `#`, are passed over, from line 2 on
abbrev pub is_passed_over : List ℕ → Bool
is_passed_over [] = true
is_passed_over (c ∷ line) = c == 35

-- ---- the header: each line by its word and what stands after it

-- a link key, a seed and a pre-shared key in 64 hexadecimal digits
unfoldable pub digits_line : List ℕ → List ℕ → List ℕ → Result (List ℕ) LinkRefusal
digits_line own word text = if bytes_eq word own then formed (hex_octets 32 text) else Err Word

-- the name of the network: 1 to 32 octets with codes from 32 to 126
unfoldable pub ssid_line : List ℕ → List ℕ → Result (List ℕ) LinkRefusal
ssid_line word text =
    if bytes_eq word (codes "ssid") then (if is_text 32 32 text then Ok text else Err Arguments) else Err Word

-- the mobility domain: four hexadecimal digits (IEEE Std 802.11-2020, 9.4.2.46)
unfoldable pub mdid_line : List ℕ → List ℕ → Result (List ℕ) LinkRefusal
mdid_line word text = if bytes_eq word (codes "mdid") then formed (hex_octets 2 text) else Err Word

-- the R0KH-ID: 1 to 48 octets with codes from 33 to 126
unfoldable pub holder_line : List ℕ → List ℕ → Result (List ℕ) LinkRefusal
holder_line word text =
    if bytes_eq word (codes "holder") then (if is_text 48 33 text then Ok text else Err Arguments) else Err Word

-- ---- events

-- twelve hexadecimal digits: an address of one node
unfoldable pub address_of : List ℕ → Result Mac LinkRefusal
address_of word = do
  octets ← formed (hex_octets 6 word)
  if is_single octets then Ok (record { 0 = octets }) else Err Arguments

-- a key holder keeps so many rows, revoked ones counted
abbrev pub most_rows : ℕ
most_rows = 64

-- the row of a station, where there are not too many; also one that is held already counts
unfoldable pub row_line : ℕ → List ℕ → Result LinkSaid LinkRefusal
row_line rows text = do
  sta ← address_of text
  if nat_lt rows most_rows then Ok (said.Row sta) else Err ManyRows

unfoldable pub revoke_line : List ℕ → Result LinkSaid LinkRefusal
revoke_line text = do
  sta ← address_of text
  Ok (said.Revoke sta)

-- a station, and the R1 key holder for which its key is asked
unfoldable pub ask_line : List ℕ → Result LinkSaid LinkRefusal
ask_line text = do
  words ← formed (split_word text)
  sta ← address_of words.0
  r1kh ← address_of words.1
  Ok (said.Ask sta r1kh)

-- the number of a question that was asked, from 0
unfoldable pub forget_line : ℕ → List ℕ → Result LinkSaid LinkRefusal
forget_line asked text = do
  number ← formed (number_of_digits text)
  if nat_lt number asked then Ok (said.Forget number) else Err Question

-- by the end
unfoldable pub end_line : LinkEnd → ℕ → ℕ → List ℕ → List ℕ → Result LinkSaid LinkRefusal
end_line ends.Holder rows asked word text =
    if bytes_eq word (codes "row") then row_line rows text
    else if bytes_eq word (codes "revoke") then revoke_line text
    else Err Word
end_line ends.Asker rows asked word text =
    if bytes_eq word (codes "ask") then ask_line text
    else if bytes_eq word (codes "forget") then forget_line asked text
    else Err Word

-- after `turn` stands nothing
unfoldable pub event_line : LinkEnd → ℕ → ℕ → List ℕ → List ℕ → List ℕ → Result LinkSaid LinkRefusal
event_line end rows asked line word text =
    if bytes_eq line (codes "turn") then Ok said.Turn
    else if bytes_eq word (codes "turn") then Err Arguments
    else end_line end rows asked word text

-- ---- a line

-- what was said with it, and what it asks for
abbrev pub Says : Type 0
Says = LinkDraft × LinkSaid

abbrev pub told : LinkDraft → Result Says LinkRefusal
told d = Ok (d, said.Nothing)

-- each line of the header, where it is due
abbrev pub key_says : LinkDraft → List ℕ → List ℕ → Result Says LinkRefusal
key_says d word text = digits_line (codes "key") word text >>= (λ key. told (goes_on d due.Seed (with_key d.header key)))

abbrev pub seed_says : LinkDraft → List ℕ → List ℕ → List ℕ → Result Says LinkRefusal
seed_says d line word text =
    if bytes_eq line (codes "seed draw") then Ok (d, said.Draw)
    else digits_line (codes "seed") word text >>= (λ seed. told (seeded d seed))

abbrev pub ssid_says : LinkDraft → List ℕ → List ℕ → Result Says LinkRefusal
ssid_says d word text = ssid_line word text >>= (λ ssid. told (goes_on d due.Psk (with_ssid d.header ssid)))

abbrev pub psk_says : LinkDraft → List ℕ → List ℕ → Result Says LinkRefusal
psk_says d word text = digits_line (codes "psk") word text >>= (λ psk. told (goes_on d due.Mdid (with_psk d.header psk)))

abbrev pub mdid_says : LinkDraft → List ℕ → List ℕ → Result Says LinkRefusal
mdid_says d word text = mdid_line word text >>= (λ mdid. told (goes_on d due.Holder (with_mdid d.header mdid)))

-- with the R0KH-ID the header is whole
abbrev pub holder_says : LinkDraft → List ℕ → List ℕ → Result Says LinkRefusal
holder_says d word text = holder_line word text >>= (λ id. Ok (goes_on d due.Events (with_holder d.header id), said.Begin))

abbrev pub event_says : LinkDraft → ℕ → List ℕ → List ℕ → List ℕ → Result Says LinkRefusal
event_says d asked line word text = event_line d.end d.rows asked line word text >>= (λ s. Ok (with_event d s, s))

-- the line that is due, by its first word and what stands after it
unfoldable pub due_line : LinkDue → LinkDraft → ℕ → List ℕ → List ℕ → List ℕ → Result Says LinkRefusal
due_line due.Version d asked line word text = Err Version
due_line due.Key d asked line word text = key_says d word text
due_line due.Seed d asked line word text = seed_says d line word text
due_line due.Ssid d asked line word text = ssid_says d word text
due_line due.Psk d asked line word text = psk_says d word text
due_line due.Mdid d asked line word text = mdid_says d word text
due_line due.Holder d asked line word text = holder_says d word text
due_line due.Events d asked line word text = event_says d asked line word text

-- no line has come
abbrev pub is_first : LinkDue → Bool
is_first due.Version = true
is_first other = false

-- the first line tells the version, and is not passed over
abbrev pub first_line : LinkDraft → List ℕ → Result Says LinkRefusal
first_line d line = if bytes_eq line (codes "link 1") then told (goes_on d due.Key d.header) else Err Version

abbrev pub later_line : LinkDraft → ℕ → List ℕ → Result Says LinkRefusal
later_line d asked line =
    if is_passed_over line then told d else due_line d.due d asked line (first_word line).0 (first_word line).1

-- a line without its end, after the script has said so much, where so many questions were asked
unfoldable pub line_says : LinkDraft → ℕ → List ℕ → Result Says LinkRefusal
line_says d asked line = if is_first d.due then first_line d line else later_line d asked line

-- a line was taken, and that was said with it; or it is refused, and nothing was
abbrev pub Heard : LinkDraft → LinkDraft → Result Says LinkRefusal → Result LinkSaid LinkRefusal → Type 0
Heard old new meant (Ok s) = meant ≡ Ok (new, s)
Heard old new meant (Err refusal) = (meant ≡ Err refusal) × (new ≡ old)

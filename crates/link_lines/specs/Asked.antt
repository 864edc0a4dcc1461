-- The event that a line of the script of one end asks for (profile).
use Rattle.std.specs.Prelude.{◌≡◌, ℕ, ◌≤◌, List, ◌++◌, codes, length, Option, None, Some}
use Rattle.std.specs.Int.{w64, to_be_bytes}
use Rattle.domain_base.specs.Places.{part}
use Rattle.domain_base.specs.declared.names.Mac.{Mac}
use Rattle.mac_prf.specs.Prf.{kdf}
use Rattle.key_hierarchy.specs.FastTransition.{pmk_r0}
use Rattle.key_holders.specs.Keys as keys
use Rattle.key_holders.specs.declared.rows.HolderRow.{HolderRow}
use Rattle.link_steps.specs.declared.questions.Question.{Question}
use Rattle.link_steps.specs.declared.steps.LinkEvent.{LinkEvent}
use Rattle.link_steps.specs.declared.steps.LinkEvent.TheVariants as event
use Rattle.link_lines.specs.declared.draft.LinkHeader.{LinkHeader}
use Rattle.link_lines.specs.declared.said.LinkSaid.{LinkSaid}
use Rattle.link_lines.specs.declared.said.LinkSaid.TheVariants.{Row, Revoke, Ask, Forget}

-- the row of a station with the pre-shared key of the header, at its R0 key holder (IEEE Std 802.11-2020, 12.7.1.6.3)
abbrev pub row_of : LinkHeader → Mac → HolderRow
row_of h sta = keys.row_of (pmk_r0 h.psk h.ssid h.mdid h.r0kh_id sta) sta

-- what is asked of a station for an R1 key holder: the R0KH-ID and PMKR0Name are those of its row
abbrev pub question_of : LinkHeader → Mac → Mac → Question
question_of h sta r1kh = record { r0kh_id = h.r0kh_id; name = (row_of h sta).name; r1kh = r1kh; sta = sta }

-- the nonce of question n, counted from 0: the first 16 octets of a value that its R1KH-ID and number make (profile)
unfoldable pub nonce_of : List ℕ → Mac → ℕ → List ℕ
nonce_of seed r1kh n = part 0 16 (kdf seed (codes "Init Counter") (r1kh.0 ++ to_be_bytes w64 n) 32)

-- what a line asks for, where so many questions were asked
abbrev pub event_of : LinkHeader → ℕ → LinkSaid → Option LinkEvent
event_of h asked (Row sta) = Some (event.Row (row_of h sta))
event_of h asked (Revoke sta) = Some (event.Revoke (row_of h sta).name)
event_of h asked (Ask sta r1kh) = Some (event.Ask (question_of h sta r1kh) (nonce_of h.seed r1kh asked))
event_of h asked (Forget n) = Some (event.Forget n)
event_of h asked said = None

-- the station of a revocation, which the report names
abbrev pub revoked_of : LinkSaid → Option Mac
revoked_of (Revoke sta) = Some sta
revoked_of said = None

-- a question has an R0KH-ID of 1 to 48 octets, a name of 16, and addresses of 6
pub record IsAskable (q : Question) : Type 0 where
  pub least : 1 ≤ length q.r0kh_id
  pub most : length q.r0kh_id ≤ 48
  pub name : length q.name ≡ 16
  pub r1kh : length q.r1kh.0 ≡ 6
  pub sta : length q.sta.0 ≡ 6

-- an event that asks has such a question
abbrev pub HasSizes : LinkEvent → Type 0
HasSizes (event.Ask q nonce) = IsAskable q
HasSizes event_ = Unit {0}

-- What one line of a script says: a line of the header, one that lists a node, or one that asks for an event (profile).
use Rattle.std.specs.Prelude.{ℕ, ◌-◌, ◌&&◌, Bool, true, false, nat_lt, nat_le, if◌then◌else◌, List, [], ◌∷◌, length, replicate, slice_index, bytes_eq, codes, Option, None, Some, option_map, option_and_then, Result, Ok, Err}
use Rattle.std.specs.List.{list_any}
use Rattle.domain_base.specs.declared.names.Akm.{Akm}
use Rattle.domain_base.specs.declared.names.Akm.TheVariants.{Psk, PskSha256, FtPsk}
use Rattle.domain_base.specs.declared.names.Mac.{Mac}
use Rattle.domain_base.specs.declared.names.Node.{Node}
use Rattle.domain_base.specs.declared.names.Node.TheVariants.{Ap, Sta}
use Rattle.domain_base.specs.declared.names.Peer.{Peer}
use Rattle.domain_base.specs.declared.names.Peer.TheVariants.{One, All}
use Rattle.mac_prf.specs.Pbkdf2.{pbkdf2}
use Rattle.run_journal.specs.declared.domain.Domain.{Domain}
use Rattle.run_journal.specs.Limits.{most_aps, most_stas, most_events, most_frames, most_octets}
use Rattle.run_journal.specs.Events.{most_payload}
pub use Rattle.run_journal.specs.Events.{is_second}
use Rattle.run_journal.specs.declared.domain.Version.{Version}
use Rattle.run_journal.specs.declared.domain.Extra.{Extra}
use Rattle.run_journal.specs.declared.domain.Extra.TheVariants.{RenewAt, Mfp}
use Rattle.run_journal.specs.declared.domain.ListedAp.{ListedAp}
use Rattle.run_journal.specs.declared.domain.ListedSta.{ListedSta}
use Rattle.run_journal.specs.declared.domain.Event.{Event}
use Rattle.run_journal.specs.declared.domain.Event.TheVariants.{Connect, Roam, Deliver, Alter, Cut, Inject, Retry, Rekey, Send, Expire, Revoke, Leave, Secret, Renew, Announce}
use Rattle.script_lines.specs.declared.header.Header.{Header}
use Rattle.script_lines.specs.declared.header.HeaderLine.{HeaderLine}
use Rattle.script_lines.specs.declared.header.HeaderLine.TheVariants as due
use Rattle.script_words.specs.declared.forms.Form.{Form}
use Rattle.script_words.specs.declared.forms.Form.TheVariants as form
use Rattle.script_words.specs.declared.grammar.Row.{Row}
use Rattle.script_words.specs.Tokens.{NodeWord, PeerWord, ToAll, ToOne, behind, split_word, hex_octets, some_octets, number_of_digits, packet_number, node_word, peer_word, tid_word, is_single, is_text}
use Rattle.script_words.specs.Grammar.{word_of, row_of, stands_in, goes_with, in_version, in_replay}

-- ---- why a line is refused

-- it is outside the grammar for a reason, or goes past a limit
pub data Fault : Type 0 where
  Outside : (reason : ℕ) → Fault
  Past : (limit : ℕ) → Fault

-- the reasons: neither `domain 1` nor `domain 2` in line 1; no such word in this place; the number or form of the arguments. A node that
-- is not listed, of the other kind, or a station to whom or from whom nothing goes in a round. A frame that was not
-- sent, or not before the round; a place or length outside the frame; a round that is open at the script's end. An
-- address or R0KH-ID used before. A line of the other kind of run: only a live run has `seed draw` and `turn`, only a
-- replay `deliver`, `alter` and `cut`
abbrev pub version_ : Fault
version_ = Outside 1

abbrev pub word_ : Fault
word_ = Outside 2

abbrev pub arguments : Fault
arguments = Outside 3

abbrev pub node_ : Fault
node_ = Outside 4

abbrev pub frame_ : Fault
frame_ = Outside 5

abbrev pub place_ : Fault
place_ = Outside 6

abbrev pub unclosed : Fault
unclosed = Outside 7

abbrev pub duplicate : Fault
duplicate = Outside 8

abbrev pub mode : Fault
mode = Outside 9

-- the limits: lines of a script; octets of a line; octets of an injected frame. Frames sent before the line of an
-- event, the begin of a round or a turn. Access points; stations; octets of a payload; events in a round
abbrev pub many_lines : Fault
many_lines = Past 1

abbrev pub long_line : Fault
long_line = Past 2

abbrev pub long_frame : Fault
long_frame = Past 3

abbrev pub many_frames : Fault
many_frames = Past 4

abbrev pub many_aps : Fault
many_aps = Past 5

abbrev pub many_stas : Fault
many_stas = Past 6

abbrev pub long_payload : Fault
long_payload = Past 7

abbrev pub many_events : Fault
many_events = Past 8

-- the second form with what the first one gave, or the fault of the first
infixl 10 ◌>>=◌
abbrev pub ◌>>=◌ : {A B : Type 0} → Result A Fault → (A → Result B Fault) → Result B Fault
(Ok a) >>= f = f a
(Err fault) >>= f = Err fault

-- what is there, or the fault
abbrev pub need : {A : Type 0} → Fault → Option A → Result A Fault
need fault None = Err fault
need fault (Some a) = Ok a

-- ---- the header

-- what a script has said so far: nothing; what its header said and which line of it is due; from its end on the header
-- with the nodes listed in its network. In a round also how many events it has so far
pub data Draft : Type 0 where
  AtVersion : Draft
  AtHeader : (awaited : HeaderLine) (h : Header) → Draft
  AtNodes : (h : Header) → Draft
  InRound : (h : Header) (count : ℕ) → Draft

-- the network of a header that said its version alone
abbrev pub no_nodes : Version → Domain
no_nodes version = record {
  seed = replicate 32 0;
  ssid = [];
  akm = Psk;
  mdid = 0 ∷ 0 ∷ [];
  extras = record { version = version; renew_at = None; mfp = false };
  aps = [];
  stas = [];
}

-- a header that said its version alone
abbrev pub blank : Version → Header
blank version = record { psk = replicate 32 0; network = no_nodes version }

-- the header with that seed
abbrev pub with_seed : Header → List ℕ → Header
with_seed h seed = record h { network = record h.network { seed = seed } }

abbrev pub with_ssid : Header → List ℕ → Header
with_ssid h ssid = record h { network = record h.network { ssid = ssid } }

abbrev pub with_psk : Header → List ℕ → Header
with_psk h psk = record h { psk = psk }

abbrev pub with_akm : Header → Akm → Header
with_akm h akm = record h { network = record h.network { akm = akm } }

abbrev pub with_mdid : Header → List ℕ → Header
with_mdid h mdid = record h { network = record h.network { mdid = mdid } }

-- whether the seed is due
abbrev pub IsSeedDue : Draft → Type 0
IsSeedDue (AtHeader due.Seed h) = Unit {0}
IsSeedDue draft = ⊥

-- what the script said once the seed is drawn
abbrev pub seeded : Draft → List ℕ → Draft
seeded (AtHeader awaited h) seed = AtHeader due.Ssid (with_seed h seed)
seeded draft seed = draft

-- 64 hexadecimal digits, or `draw`, which only a live run has
unfoldable pub seed_of : List ℕ → Result (List ℕ) Fault
seed_of text = if bytes_eq text (codes "draw") then Err mode else need arguments (hex_octets 32 text)

-- the name of the network: 1 to 32 octets with codes from 32 to 126
unfoldable pub ssid_of : List ℕ → Result (List ℕ) Fault
ssid_of text = if is_text 32 32 text then Ok text else Err arguments

-- the pre-shared key: 64 hexadecimal digits, or from a passphrase of 8 to 63 octets with codes from 32 to 126
unfoldable pub passphrase_of : List ℕ → List ℕ → Result (List ℕ) Fault
passphrase_of ssid text =
    if nat_le 8 (length text) && is_text 63 32 text then Ok (pbkdf2 text ssid) else Err arguments

-- by the word of its form and what stands after that, or the fault of another word
unfoldable pub psk_by : Fault → List ℕ → List ℕ → List ℕ → Result (List ℕ) Fault
psk_by other ssid word text =
    if bytes_eq word (word_of form.Psk) then need arguments (hex_octets 32 text)
    else if bytes_eq word (word_of form.Passphrase) then passphrase_of ssid text
    else Err other

-- that of the header
unfoldable pub psk_of : List ℕ → List ℕ → List ℕ → Result (List ℕ) Fault
psk_of ssid word text = psk_by word_ ssid word text

-- that of a station, in the network of that SSID
unfoldable pub own_psk : List ℕ → List ℕ → Result (List ℕ) Fault
own_psk ssid text = do
  words ← need arguments (split_word text)
  psk_by arguments ssid words.0 words.1

-- the suite by its name
unfoldable pub akm_of : List ℕ → Result Akm Fault
akm_of text =
    if bytes_eq text (codes "psk") then Ok Psk
    else if bytes_eq text (codes "psk-sha256") then Ok PskSha256
    else if bytes_eq text (codes "ft-psk") then Ok FtPsk
    else Err arguments

-- the mobility domain: four hexadecimal digits (IEEE Std 802.11-2020, 9.4.2.46)
unfoldable pub mdid_of : List ℕ → Result (List ℕ) Fault
mdid_of text = need arguments (hex_octets 2 text)

-- with the suite the header is whole; with that of fast transition once the mobility domain is told
abbrev pub after_suite : Header → Akm → Draft
after_suite h FtPsk = AtHeader due.Mdid (with_akm h FtPsk)
after_suite h Psk = AtNodes (with_akm h Psk)
after_suite h PskSha256 = AtNodes (with_akm h PskSha256)

-- the line that is due in the header, by its first word and what stands after it
unfoldable pub header_line : HeaderLine → Header → List ℕ → List ℕ → Result Draft Fault
header_line due.Seed h word text =
    if bytes_eq word (word_of form.Seed) then seed_of text >>= (λ seed. Ok (AtHeader due.Ssid (with_seed h seed))) else Err word_
header_line due.Ssid h word text =
    if bytes_eq word (word_of form.Ssid) then ssid_of text >>= (λ ssid. Ok (AtHeader due.Psk (with_ssid h ssid))) else Err word_
header_line due.Psk h word text = psk_of h.network.ssid word text >>= (λ psk. Ok (AtHeader due.Akm (with_psk h psk)))
header_line due.Akm h word text = if bytes_eq word (word_of form.Akm) then akm_of text >>= (λ akm. Ok (after_suite h akm)) else Err word_
header_line due.Mdid h word text =
    if bytes_eq word (word_of form.Mdid) then mdid_of text >>= (λ mdid. Ok (AtNodes (with_mdid h mdid))) else Err word_

-- ---- the nodes

-- whether two addresses are the same
abbrev pub is_same : Mac → Mac → Bool
is_same address other = bytes_eq address.0 other.0

-- whether a listed node has the address
unfoldable pub is_used : Domain → Mac → Bool
is_used d address = if list_any (λ (a : ListedAp). is_same a.address address) d.aps then true else
    list_any (λ (s : ListedSta). is_same s.address address) d.stas

-- whether a listed access point has the R0KH-ID
unfoldable pub is_used_id : Domain → List ℕ → Bool
is_used_id d r0kh_id = list_any (λ (a : ListedAp). bytes_eq a.r0kh_id r0kh_id) d.aps

-- twelve hexadecimal digits: an address of one node
unfoldable pub address_of : List ℕ → Result Mac Fault
address_of word = do
  octets ← need arguments (hex_octets 6 word)
  if is_single octets then Ok (record { 0 = octets }) else Err arguments

-- what a line after the header says
pub data Said : Type 0 where
  -- what the script has said so far is this now
  Goes : Draft → Said
  ListsAp : (address : Mac) (r0kh_id : List ℕ) → Said
  ListsSta : (address : Mac) (psk : List ℕ) → Said
  -- the header has that line too
  Adds : (extra : Extra) → Said
  Asks : Event → Said
  BeginsRound : Said
  EndsRound : Said

-- an access point with that address and R0KH-ID, where there is room and no listed node has them
unfoldable pub new_ap : Domain → Mac → List ℕ → Result Said Fault
new_ap d address r0kh_id =
    if nat_le most_aps (length d.aps) then Err many_aps
    else if is_used d address then Err duplicate
    else if is_used_id d r0kh_id then Err duplicate
    else Ok (ListsAp address r0kh_id)

-- `ap`, an address, and an R0KH-ID of 1 to 48 octets with codes from 33 to 126
unfoldable pub ap_line : Domain → List ℕ → Result Said Fault
ap_line d text = do
  words ← need arguments (split_word text)
  address ← address_of words.0
  if is_text 48 33 words.1 then new_ap d address words.1 else Err arguments

-- a station with that address and key, where there is room and no listed node has the address
unfoldable pub new_sta : Domain → Mac → List ℕ → Result Said Fault
new_sta d address psk =
    if nat_le most_stas (length d.stas) then Err many_stas
    else if is_used d address then Err duplicate
    else Ok (ListsSta address psk)

-- `sta`, and an address; the station has the header's key
unfoldable pub bare_sta : Header → List ℕ → Result Said Fault
bare_sta h text = do
  address ← address_of text
  new_sta h.network address h.psk

-- with a key of its own: `psk` and 64 hexadecimal digits, or `passphrase` and 8 to 63 octets
unfoldable pub keyed_sta : Header → List ℕ → List ℕ → Result Said Fault
keyed_sta h word text = do
  address ← address_of word
  psk ← own_psk h.network.ssid text
  new_sta h.network address psk

-- the one or the other, by whether more stands after the address
abbrev pub either_sta : Header → List ℕ → Option (List ℕ × List ℕ) → Result Said Fault
either_sta h text None = bare_sta h text
either_sta h text (Some words) = keyed_sta h words.0 words.1

-- in version 1 no station has a key of its own
unfoldable pub sta_line : Header → List ℕ → Result Said Fault
sta_line h text = if is_second h.network.extras.version then either_sta h text (split_word text) else bare_sta h text

-- `renew-at`, and the packet number, where by the row of the line it goes with the suite and the version
abbrev pub renewal_by : Row → Domain → List ℕ → Result Said Fault
renewal_by row d text =
    if goes_with row.suites d.akm && in_version row.versions (is_second d.extras.version) d.extras.mfp
    then need arguments (packet_number text) >>= (λ at. Ok (Adds (RenewAt at)))
    else Err word_

-- in a network
unfoldable pub renewal_line : Domain → List ℕ → Result Said Fault
renewal_line d text = renewal_by (row_of form.RenewAt) d text

-- `mfp`, where by the row of the line it goes with the suite and the version
abbrev pub protection_by : Row → Domain → Result Said Fault
protection_by row d =
    if goes_with row.suites d.akm && in_version row.versions (is_second d.extras.version) d.extras.mfp then Ok (Adds Mfp) else Err word_

-- in a network
unfoldable pub protection_line : Domain → Result Said Fault
protection_line d = protection_by (row_of form.Mfp) d

-- ---- the events

-- the place from 0 of the number from 1, where so many are listed
unfoldable pub place_in : ℕ → ℕ → Option ℕ
place_in count number = if nat_le 1 number && nat_le number count then Some (number - 1) else None

unfoldable pub listed_ap : Domain → NodeWord → Option ℕ
listed_ap d w = if w.is_ap then place_in (length d.aps) w.number else None

unfoldable pub listed_sta : Domain → NodeWord → Option ℕ
listed_sta d w = if w.is_ap then None else place_in (length d.stas) w.number

unfoldable pub listed : Domain → NodeWord → Option Node
listed d w = if w.is_ap then option_map Ap (listed_ap d w) else option_map Sta (listed_sta d w)

-- a listed node that takes a frame or sends a payload: in a round an access point alone
unfoldable pub event_node : Bool → Domain → NodeWord → Option Node
event_node within d w = if w.is_ap then listed d w else if within then None else listed d w

-- the size of the frame of that number, from 1, out of the sizes of the frames that were sent, in order
unfoldable pub size_of : List ℕ → ℕ → Option ℕ
size_of sizes number =
    if nat_le 1 number && nat_le number (length sizes) then Some (slice_index sizes (number - 1)) else None

-- `to` and a node, in the words of a line
unfoldable pub to_word : List ℕ → Option NodeWord
to_word text = option_and_then node_word (behind (codes "to ") text)

-- the names of two nodes, with one space between them
abbrev pub both_names : Option NodeWord → Option NodeWord → Option (NodeWord × NodeWord)
both_names (Some first) (Some second) = Some (first, second)
both_names first second = None

abbrev pub both_words : Option (List ℕ × List ℕ) → Option (NodeWord × NodeWord)
both_words None = None
both_words (Some words) = both_names (node_word words.0) (node_word words.1)

unfoldable pub two_words : List ℕ → Option (NodeWord × NodeWord)
two_words text = both_words (split_word text)

-- a station and an access point, in this order
unfoldable pub sta_and_ap : Domain → List ℕ → Result (ℕ × ℕ) Fault
sta_and_ap d text = do
  names ← need arguments (two_words text)
  sta ← need node_ (listed_sta d names.0)
  ap ← need node_ (listed_ap d names.1)
  Ok (sta, ap)

-- an access point and a station, in this order
unfoldable pub ap_and_sta : Domain → List ℕ → Result (ℕ × ℕ) Fault
ap_and_sta d text = do
  names ← need arguments (two_words text)
  ap ← need node_ (listed_ap d names.0)
  sta ← need node_ (listed_sta d names.1)
  Ok (ap, sta)

-- `deliver`, the number of a frame that was sent, `to` and a node
unfoldable pub deliver_line : Domain → Bool → List ℕ → List ℕ → Result Event Fault
deliver_line d within sizes text = do
  words ← need arguments (split_word text)
  number ← need arguments (number_of_digits words.0)
  w ← need arguments (to_word words.1)
  to ← need node_ (event_node within d w)
  size ← need frame_ (size_of sizes number)
  Ok (Deliver number to)

-- `alter`, the number of a frame that was sent, the place of one of its octets, from 0, two hexadecimal digits, `to` and a node
unfoldable pub alter_line : Domain → Bool → List ℕ → List ℕ → Result Event Fault
alter_line d within sizes text = do
  words ← need arguments (split_word text)
  number ← need arguments (number_of_digits words.0)
  more ← need arguments (split_word words.1)
  place ← need arguments (number_of_digits more.0)
  last ← need arguments (split_word more.1)
  mask ← need arguments (hex_octets 1 last.0)
  w ← need arguments (to_word last.1)
  to ← need node_ (event_node within d w)
  size ← need frame_ (size_of sizes number)
  if nat_lt place size then Ok (Alter number place (slice_index mask 0) to) else Err place_

-- `cut`, the number of a frame that was sent, how many of its octets come, `to` and a node
unfoldable pub cut_line : Domain → Bool → List ℕ → List ℕ → Result Event Fault
cut_line d within sizes text = do
  words ← need arguments (split_word text)
  number ← need arguments (number_of_digits words.0)
  more ← need arguments (split_word words.1)
  count ← need arguments (number_of_digits more.0)
  w ← need arguments (to_word more.1)
  to ← need node_ (event_node within d w)
  size ← need frame_ (size_of sizes number)
  if nat_le count size then Ok (Cut number count to) else Err place_

-- octets, at most so many, or that fault
unfoldable pub octets_within : ℕ → Fault → List ℕ → Result (List ℕ) Fault
octets_within most fault text = do
  octets ← need arguments (some_octets text)
  if nat_le (length octets) most then Ok octets else Err fault

-- octets that are not too many for a frame
abbrev pub frame_octets : List ℕ → Result (List ℕ) Fault
frame_octets text = octets_within most_octets long_frame text

-- octets that are not too many for a payload (IEEE Std 802.11-2020, 9.2.4.8.1)
abbrev pub payload_octets : List ℕ → Result (List ℕ) Fault
payload_octets text = octets_within most_payload long_payload text

-- `inject`, a node and octets, at most 2400
unfoldable pub inject_line : Domain → Bool → List ℕ → Result Event Fault
inject_line d within text = do
  words ← need arguments (split_word text)
  w ← need arguments (node_word words.0)
  octets ← frame_octets words.1
  to ← need node_ (event_node within d w)
  Ok (Inject to octets)

-- `announce`, an access point and a payload of at most 2304 octets
unfoldable pub announce_line : Domain → List ℕ → Result Event Fault
announce_line d text = do
  words ← need arguments (split_word text)
  w ← need arguments (node_word words.0)
  octets ← payload_octets words.1
  ap ← need node_ (listed_ap d w)
  Ok (Announce ap octets)

-- `rekey`, and an access point
unfoldable pub rekey_line : Domain → List ℕ → Result Event Fault
rekey_line d text = do
  a ← need arguments (node_word text)
  ap ← need node_ (listed_ap d a)
  Ok (Rekey ap)

-- to whom a node sends: a station to a listed access point, an access point to a listed station or to all
abbrev pub receiver_by : Domain → Node → PeerWord → Option Peer
receiver_by d (Ap k) ToAll = Some All
receiver_by d (Ap k) (ToOne w) = option_map (λ s. One (Sta s)) (listed_sta d w)
receiver_by d (Sta k) ToAll = None
receiver_by d (Sta k) (ToOne w) = option_map (λ a. One (Ap a)) (listed_ap d w)

-- `send`, a node, and to whom: a node or `all`; then a traffic identifier or `-`, and a payload of at most 2304 octets
unfoldable pub send_payload : Domain → Bool → NodeWord → PeerWord → Option ℕ → List ℕ → Result Event Fault
send_payload d within f t tid text = do
  octets ← payload_octets text
  from ← need node_ (event_node within d f)
  to ← need node_ (receiver_by d from t)
  Ok (Send from to tid octets)

unfoldable pub send_between : Domain → Bool → NodeWord → PeerWord → List ℕ → Result Event Fault
send_between d within f t text = do
  words ← need arguments (split_word text)
  tid ← need arguments (tid_word words.0)
  send_payload d within f t tid words.1

unfoldable pub send_line : Domain → Bool → List ℕ → Result Event Fault
send_line d within text = do
  words ← need arguments (split_word text)
  f ← need arguments (node_word words.0)
  more ← need arguments (split_word words.1)
  t ← need arguments (peer_word more.0)
  send_between d within f t more.1

-- `leave`, and a station
unfoldable pub leave_line : Domain → List ℕ → Result Event Fault
leave_line d text = do
  s ← need arguments (node_word text)
  sta ← need node_ (listed_sta d s)
  Ok (Leave sta)

-- a listed station, or all: none is named then
abbrev pub named_sta : Domain → PeerWord → Option (Option ℕ)
named_sta d ToAll = Some None
named_sta d (ToOne w) = option_map (λ (s : ℕ). Some s) (listed_sta d w)

-- `secret`, a station or `all`, and the new key: `psk` and 64 hexadecimal digits, or `passphrase` and 8 to 63 octets
unfoldable pub secret_line : Domain → List ℕ → Result Event Fault
secret_line d text = do
  words ← need arguments (split_word text)
  w ← need arguments (peer_word words.0)
  psk ← own_psk d.ssid words.1
  named ← need node_ (named_sta d w)
  Ok (Secret named psk)

-- an event that a station begins: `connect` and `roam` with a station and an access point, and `leave`; or a changed key
abbrev pub station_event : Domain → Form → List ℕ → Result Event Fault
station_event d form.Connect text = sta_and_ap d text >>= (λ nodes. Ok (Connect nodes.0 nodes.1))
station_event d form.Roam text = sta_and_ap d text >>= (λ nodes. Ok (Roam nodes.0 nodes.1))
station_event d form.Leave text = leave_line d text
station_event d form.Secret text = secret_line d text
station_event d other text = Err word_

-- an event of an access point's sessions: `retry`, `expire`, `revoke` and `renew` with an access point and a station, and
-- `rekey`
abbrev pub session_event : Domain → Form → List ℕ → Result Event Fault
session_event d form.Retry text = ap_and_sta d text >>= (λ nodes. Ok (Retry nodes.0 nodes.1))
session_event d form.Expire text = ap_and_sta d text >>= (λ nodes. Ok (Expire nodes.0 nodes.1))
session_event d form.Revoke text = ap_and_sta d text >>= (λ nodes. Ok (Revoke nodes.0 nodes.1))
session_event d form.Renew text = ap_and_sta d text >>= (λ nodes. Ok (Renew nodes.0 nodes.1))
session_event d form.Rekey text = rekey_line d text
session_event d other text = station_event d other text

-- a frame that was sent comes to a node
abbrev pub frame_event : Domain → Bool → List ℕ → Form → List ℕ → Result Event Fault
frame_event d within sizes form.Deliver text = deliver_line d within sizes text
frame_event d within sizes form.Alter text = alter_line d within sizes text
frame_event d within sizes form.Cut text = cut_line d within sizes text
frame_event d within sizes other text = session_event d other text

-- an event by its line
abbrev pub any_event : Domain → Bool → List ℕ → Form → List ℕ → Result Event Fault
any_event d within sizes form.Inject text = inject_line d within text
any_event d within sizes form.Send text = send_line d within text
any_event d within sizes form.Announce text = announce_line d text
any_event d within sizes other text = frame_event d within sizes other text

-- within a round or not, where by its row it may stand there, in this version and network; in a replay
abbrev pub event_by : Row → Domain → Bool → List ℕ → Form → List ℕ → Result Event Fault
event_by row d within sizes line text =
    if stands_in row.position within && goes_with row.suites d.akm && in_version row.versions (is_second d.extras.version) d.extras.mfp
    then (if in_replay row.runs then any_event d within sizes line text else Err mode)
    else Err word_

unfoldable pub event_of : Domain → Bool → List ℕ → Form → List ℕ → Result Event Fault
event_of d within sizes line text = event_by (row_of line) d within sizes line text

-- an event that is a round by itself, where no more frames were sent than a run can number
unfoldable pub event_line : Domain → List ℕ → Form → List ℕ → Result Said Fault
event_line d sizes line text = do
  event ← event_of d false sizes line text
  if nat_le (length sizes) most_frames then Ok (Asks event) else Err many_frames

-- an event in a round that has so many, where it is not one too many
unfoldable pub part_line : Domain → ℕ → List ℕ → Form → List ℕ → Result Said Fault
part_line d count sizes line text = do
  event ← event_of d true sizes line text
  if nat_lt count most_events then Ok (Asks event) else Err many_events

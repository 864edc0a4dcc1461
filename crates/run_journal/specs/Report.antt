-- The report of a run: a line for each printed entry, then the summary (profile).
use Rattle.std.specs.Prelude.{ℕ, suc, ◌≡◌, ◌+◌, ◌↔◌, IsTrue, Bool, true, false, cond, ◌/◌, ◌%◌, nat_lt, List, [], ◌∷◌, ◌++◌, length, codes, Option, None, Some}
use Rattle.std.specs.List.{flat_map}
use Rattle.std.specs.Fmt.{decimal}
use Rattle.domain_base.specs.Names.{node_text, peer_text}
use Rattle.domain_base.specs.declared.names.Mac.{Mac}
use Rattle.domain_base.specs.declared.names.Node.{Node}
use Rattle.eapol_key.specs.KeyFrame.{fault_code}
use Rattle.key_hierarchy.specs.declared.answers.PutAnswer.{PutAnswer}
use Rattle.key_hierarchy.specs.declared.answers.PutAnswer.TheVariants as put
use Rattle.key_hierarchy.specs.declared.answers.PullAnswer.{PullAnswer}
use Rattle.key_hierarchy.specs.declared.answers.PullAnswer.TheVariants as pulled
use Rattle.key_hierarchy.specs.declared.answers.RevokeAnswer.{RevokeAnswer}
use Rattle.key_hierarchy.specs.declared.answers.RevokeAnswer.TheVariants as revoke
use Rattle.eapol_key.specs.declared.messages.Message.{Message}
use Rattle.eapol_key.specs.declared.messages.Message.TheVariants.{M1, M2, M3, M4, G1, G2}
use Rattle.link_steps.specs.declared.faults.LinkFault.{LinkFault}
use Rattle.link_steps.specs.declared.faults.LinkFault.TheVariants as fault
use Rattle.link_steps.specs.declared.questions.Forgetting.TheVariants as forget
use Rattle.link_steps.specs.declared.steps.LinkAnswer.{LinkAnswer}
use Rattle.link_steps.specs.declared.steps.LinkAnswer.TheVariants as answer
use Rattle.rsn_elements.specs.Codes.{code_of}
use Rattle.run_journal.specs.declared.acts.GroupKind.{GroupKind}
use Rattle.run_journal.specs.declared.acts.GroupKind.TheVariants as groups
use Rattle.run_journal.specs.declared.acts.Start.{Start}
use Rattle.run_journal.specs.declared.acts.Start.TheVariants.{Connect, Roam, Renew}
use Rattle.run_journal.specs.declared.acts.Part.{Part}
use Rattle.run_journal.specs.declared.acts.Part.TheVariants.{Attempt, Session}
use Rattle.run_journal.specs.declared.acts.Kind.{Kind}
use Rattle.run_journal.specs.declared.acts.Kind.TheVariants as kind
use Rattle.run_journal.specs.declared.acts.MalformedFrame.{MalformedFrame}
use Rattle.run_journal.specs.declared.acts.MalformedFrame.TheVariants as air
use Rattle.run_journal.specs.declared.acts.Malformed.{Malformed}
use Rattle.run_journal.specs.declared.acts.Malformed.TheVariants as malformed
use Rattle.run_journal.specs.declared.acts.KeyDataFault.{KeyDataFault}
use Rattle.run_journal.specs.declared.acts.KeyDataFault.TheVariants as key_data
use Rattle.run_journal.specs.declared.acts.Reason.{Reason}
use Rattle.run_journal.specs.declared.acts.Reason.TheVariants as reason
use Rattle.run_journal.specs.declared.acts.Why.{Why}
use Rattle.run_journal.specs.declared.acts.Why.TheVariants as why
use Rattle.run_journal.specs.declared.acts.Outcome.{Outcome}
use Rattle.run_journal.specs.declared.acts.Outcome.TheVariants.{Accepted, Answered, Ignored, Refused}
use Rattle.run_journal.specs.declared.acts.Key.{Key}
use Rattle.run_journal.specs.declared.acts.Key.TheVariants.{Pairwise, Group}
use Rattle.run_journal.specs.declared.acts.Act.{Act}
use Rattle.run_journal.specs.declared.acts.Act.TheVariants.{Opened, Closed, Drew, Derived, Sent, Took, Installed, Resumed, Used, HandedUp, Finished, Put, Looked, Revoked, Secret, GaveUp, Idle, Link}
use Rattle.run_journal.specs.declared.acts.Entry.{Entry}
use Rattle.run_journal.specs.declared.premises.Premises.{Premises}
use Rattle.run_journal.specs.Acts.{is_sent}
use Rattle.run_journal.specs.Premises.{Fresh, NoCollision, Unforged}

-- how an attempt began, in a word
abbrev pub start_text : Start → List ℕ
start_text Connect = codes "connect"
start_text Roam = codes "roam"
start_text Renew = codes "renew"

-- an attempt or a session, in a word
abbrev pub part_text : Part → List ℕ
part_text Attempt = codes "attempt"
part_text Session = codes "session"

-- an EAPOL-Key message, in a word
abbrev pub message_text : Message → List ℕ
message_text M1 = codes "m1"
message_text M2 = codes "m2"
message_text M3 = codes "m3"
message_text M4 = codes "m4"
message_text G1 = codes "g1"
message_text G2 = codes "g2"

-- a kind of frames, in a word
abbrev pub kind_text : Kind → List ℕ
kind_text kind.AssocReq = codes "assoc-req"
kind_text kind.AssocResp = codes "assoc-resp"
kind_text kind.FtReq = codes "ft-req"
kind_text kind.FtResp = codes "ft-resp"
kind_text kind.ReReq = codes "re-req"
kind_text kind.ReResp = codes "re-resp"
kind_text (kind.Key m) = message_text m
kind_text kind.Data = codes "data"
kind_text kind.Action = codes "action"
kind_text kind.Ignored = codes "ignored"
kind_text kind.Unread = codes "unread"
kind_text kind.Eapol = codes "eapol"

-- a word, and a number after it
abbrev pub numbered : List ℕ → ℕ → List ℕ
numbered word n = word ++ 32 ∷ decimal n

-- the place and the number of the fault. 3 is the air reader's number of a frame out of profile, which is refused with a code of its own
abbrev pub air_fault_text : MalformedFrame → List ℕ
air_fault_text (air.Short place) = decimal place ++ codes " 1"
air_fault_text air.Version = codes "0 2"
air_fault_text (air.Body place) = decimal place ++ codes " 4"

-- the layer, the place and the number of the fault
abbrev pub malformed_text : Malformed → List ℕ
malformed_text (malformed.Air f) = codes "1 " ++ air_fault_text f
malformed_text (malformed.Key f) = codes "2 " ++ numbered (decimal f.place) (fault_code f.kind)
malformed_text (malformed.Elements f) = codes "3 " ++ numbered (decimal f.place) (code_of f.kind)

-- the number of a fault of key data
abbrev pub key_data_code : KeyDataFault → ℕ
key_data_code key_data.Unreadable = 1
key_data_code key_data.Rsne = 2
key_data_code key_data.Mde = 3
key_data_code key_data.Fte = 4
key_data_code key_data.Gtk = 5
key_data_code key_data.Igtk = 6

-- why a frame is refused, in words and numbers
abbrev pub reason_text : Reason → List ℕ
reason_text (reason.Malformed m) = codes "malformed " ++ malformed_text m
reason_text (reason.OutOfProfile code) = numbered (codes "out-of-profile") code
reason_text reason.NotForMe = codes "not-for-me"
reason_text reason.UnknownPeer = codes "unknown-peer"
reason_text reason.Unawaited = codes "unawaited"
reason_text (reason.Counter kept) = numbered (codes "counter") kept
reason_text reason.Nonce = codes "nonce"
reason_text reason.Mic = codes "mic"
reason_text reason.Wrap = codes "wrap"
reason_text (reason.KeyData f) = numbered (codes "key-data") (key_data_code f)
reason_text (reason.Status code) = numbered (codes "status") code
reason_text reason.NoHolder = codes "no-holder"
reason_text reason.Name = codes "name"
reason_text reason.NoKey = codes "no-key"
reason_text (reason.Replayed kept) = numbered (codes "replayed") kept
reason_text reason.Seal = codes "seal"
reason_text reason.Spent = codes "spent"

-- what came of a frame, in a word, with the reason where it is refused
abbrev pub outcome_text : Outcome → List ℕ
outcome_text Accepted = codes "accepted"
outcome_text Answered = codes "answered"
outcome_text Ignored = codes "ignored"
outcome_text (Refused r) = codes "refused " ++ reason_text r
outcome_text _ = []

-- why nothing was done, in a word
abbrev pub why_text : Why → List ℕ
why_text why.NoSession = codes "no-session"
why_text why.SamePeer = codes "same-peer"
why_text why.Nothing = codes "nothing"
why_text why.RekeyPending = codes "rekey-pending"
why_text why.NoKey = codes "no-key"
why_text why.Spent = codes "spent"

-- what a key holder answers. A put for which memory runs out is never journaled
abbrev pub put_text : PutAnswer → List ℕ
put_text put.Held = codes "held"
put_text put.HeldAlready = codes "held-already"
put_text put.Full = codes "full"
put_text put.NoMemory = codes "no-memory"

-- what a key holder answers to a pull
abbrev pub pull_text : PullAnswer → List ℕ
pull_text (pulled.Found k) = codes "found"
pull_text pulled.NoHolder = codes "no-holder"
pull_text pulled.Absent = codes "absent"

-- what a key holder answers to a revocation
abbrev pub revoke_text : RevokeAnswer → List ℕ
revoke_text revoke.Revoked = codes "revoked"
revoke_text revoke.Absent = codes "absent"

-- the word for the group keys of a kind
abbrev pub group_text : GroupKind → List ℕ
group_text groups.Gtk = codes "gtk"
group_text groups.Igtk = codes "igtk"

-- a pairwise key, or a group key with its key id
abbrev pub key_text : Key → List ℕ
key_text (Pairwise tk i) = codes "ptk"
key_text (Group kind key id b) = numbered (group_text kind) id

-- the code of a hexadecimal digit
abbrev pub hex_digit : ℕ → ℕ
hex_digit n = cond (nat_lt n 10) (48 + n) (87 + n)

-- octets as hexadecimal digits in lower case
abbrev pub hex : List ℕ → List ℕ
hex octets = flat_map (λ octet. hex_digit (octet / 16) ∷ hex_digit (octet % 16) ∷ []) octets

-- a payload in hexadecimal digits, or - where it has no octets
abbrev pub payload_text : List ℕ → List ℕ
payload_text [] = codes "-"
payload_text (octet ∷ octets) = hex (octet ∷ octets)

-- words with a space between them, and a line feed
abbrev pub words : List (List ℕ) → List ℕ
words [] = 10 ∷ []
words (w ∷ []) = w ++ 10 ∷ []
words (w ∷ v ∷ vs) = w ++ 32 ∷ words (v ∷ vs)

-- why octets are not taken at an end of a link, in words
abbrev pub link_fault_words : LinkFault → List (List ℕ)
link_fault_words (fault.Form place) = codes "form" ∷ decimal place ∷ []
link_fault_words fault.Unasked = codes "unasked" ∷ []
link_fault_words fault.Mac = codes "mac" ∷ []
link_fault_words fault.Wrap = codes "wrap" ∷ []

-- an address in twelve digits, where there is one
abbrev pub address_text : Option Mac → List ℕ
address_text None = []
address_text (Some m) = hex m.0

-- the line of a step of node n, which is an end of a link, by what became of it, where so many octets were sent: with a question its
-- number, and with a revocation its station. Empty for a question that is open no longer, and for a row
abbrev pub answer_line : Node → Option Mac → ℕ → LinkAnswer → List ℕ
answer_line n sta sent (answer.Asked k) = words (codes "ask" ∷ node_text n ∷ decimal k ∷ decimal sent ∷ [])
answer_line n sta sent answer.Full = words (codes "idle" ∷ node_text n ∷ codes "full" ∷ [])
answer_line n sta sent (answer.Closed forget.Forgot) = []
answer_line n sta sent (answer.Closed forget.Nothing) = words (codes "idle" ∷ node_text n ∷ codes "nothing" ∷ [])
answer_line n sta sent (answer.Put a) = []
answer_line n sta sent (answer.Revoked a) = words (codes "revoke" ∷ node_text n ∷ address_text sta ∷ revoke_text a ∷ [])
answer_line n sta sent (answer.Learnt k a) = words (codes "learn" ∷ node_text n ∷ decimal k ∷ pull_text a ∷ [])
answer_line n sta sent (answer.Told a) = words (codes "told" ∷ node_text n ∷ pull_text a ∷ decimal sent ∷ [])
answer_line n sta sent (answer.Refused f) = words (codes "link-refused" ∷ node_text n ∷ link_fault_words f)

-- the line of an act of node n; for a frame sent, of that number. Empty where nothing is printed.
abbrev pub act_line : ℕ → Node → Act → List ℕ
act_line number n (Opened p s) = words (codes "open" ∷ node_text n ∷ node_text p ∷ start_text s ∷ [])
act_line number n (Closed p part) = words (codes "close" ∷ node_text n ∷ node_text p ∷ part_text part ∷ [])
act_line number n (Drew v) = []
act_line number n (Derived p i k) = []
act_line number n (Sent p k octets s) = words (codes "sent" ∷ decimal number ∷ node_text n ∷ peer_text p ∷ kind_text k ∷ decimal (length octets) ∷ [])
act_line number n (Took from octets k o s) = words (codes "took" ∷ node_text n ∷ kind_text k ∷ outcome_text o ∷ [])
act_line number n (Installed p key) = words (codes "install" ∷ node_text n ∷ peer_text p ∷ key_text key ∷ [])
act_line number n (Resumed p key) = words (codes "resume" ∷ node_text n ∷ node_text p ∷ key_text key ∷ [])
act_line number n (Used p key id pn octets) = words (codes "used" ∷ node_text n ∷ peer_text p ∷ decimal id ∷ decimal pn ∷ [])
act_line number n (HandedUp p key id tid pn octets) = words (codes "up" ∷ node_text n ∷ node_text p ∷ decimal id ∷ decimal tid ∷ decimal pn ∷ payload_text octets ∷ [])
act_line number n (Finished p i) = words (codes "finish" ∷ node_text n ∷ node_text p ∷ [])
act_line number n (Put x m p answer) = words (codes "put" ∷ node_text n ∷ node_text p ∷ put_text answer ∷ [])
act_line number n (Looked x m p answer) = words (codes "look" ∷ node_text n ∷ node_text p ∷ pull_text answer ∷ [])
act_line number n (Revoked x m p answer) = words (codes "revoke" ∷ node_text n ∷ node_text p ∷ revoke_text answer ∷ [])
act_line number n (Secret p psk) = words (codes "secret" ∷ node_text n ∷ node_text p ∷ [])
act_line number n (GaveUp p m) = words (codes "gave-up" ∷ node_text n ∷ node_text p ∷ message_text m ∷ [])
act_line number n (Idle y) = words (codes "idle" ∷ node_text n ∷ why_text y ∷ [])
act_line number n (Link sta s) = answer_line n sta (length s.sent) s.answer

-- the line of an entry: empty for a value drawn and a key derived
abbrev pub line : Entry → List ℕ
line e = act_line e.number e.node e.act

-- the lines of a journal, newest first, in the order of its entries
unfoldable pub lines : List Entry → List ℕ
lines [] = []
lines (e ∷ past) = lines past ++ line e

-- how many entries pass the test
unfoldable pub count : (Act → Bool) → List Entry → ℕ
count test [] = 0
count test (e ∷ past) = cond (test e.act) (suc (count test past)) (count test past)

abbrev pub is_accepted : Act → Bool
is_accepted (Took from octets k Accepted s) = true
is_accepted _ = false

abbrev pub is_answered : Act → Bool
is_answered (Took from octets k Answered s) = true
is_answered _ = false

abbrev pub is_refused : Act → Bool
is_refused (Took from octets k (Refused r) s) = true
is_refused _ = false

abbrev pub is_ignored : Act → Bool
is_ignored (Took from octets k Ignored s) = true
is_ignored _ = false

abbrev pub is_installed : Act → Bool
is_installed (Installed p key) = true
is_installed _ = false

abbrev pub is_resumed : Act → Bool
is_resumed (Resumed p key) = true
is_resumed _ = false

abbrev pub is_used : Act → Bool
is_used (Used p key id pn octets) = true
is_used _ = false

abbrev pub is_handed_up : Act → Bool
is_handed_up (HandedUp p key id tid pn octets) = true
is_handed_up _ = false

-- yes or no
abbrev pub yes_no : Bool → List ℕ
yes_no true = codes "yes"
yes_no false = codes "no"

-- the three lines that end a report
unfoldable pub summary : List Entry → Premises → List ℕ
summary j p =
    words (codes "end" ∷ numbered (codes "frames") (count is_sent j) ∷ numbered (codes "accepted") (count is_accepted j) ∷ numbered (codes "answered") (count is_answered j) ∷ numbered (codes "refused") (count is_refused j) ∷ numbered (codes "ignored") (count is_ignored j) ∷ [])
    ++ words (codes "keys" ∷ numbered (codes "installed") (count is_installed j) ∷ numbered (codes "resumed") (count is_resumed j) ∷ numbered (codes "used") (count is_used j) ∷ numbered (codes "handed-up") (count is_handed_up j) ∷ [])
    ++ words (codes "premises" ∷ codes "fresh" ∷ yes_no p.fresh ∷ codes "no-collision" ∷ yes_no p.no_collision ∷ codes "unforged" ∷ yes_no p.unforged ∷ [])

-- the answers say which premises hold of the journal
pub record Decides (j : List Entry) (p : Premises) : Type 0 where
  pub fresh : IsTrue p.fresh ↔ Fresh j
  pub no_collision : IsTrue p.no_collision ↔ NoCollision j
  pub unforged : IsTrue p.unforged ↔ Unforged j

-- the whole report: all lines, and a summary whose answers are right
abbrev pub IsReport : List Entry → List ℕ → Type 0
IsReport j text = (p : Premises) × (Decides j p × (text ≡ lines j ++ summary j p))

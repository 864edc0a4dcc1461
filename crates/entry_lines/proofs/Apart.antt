-- No separator stands in a word.
use Rattle.std.proofs.Common.{◌≡◌, ℕ, ◌+◌, ◌/◌, ◌%◌, ◌^◌, ◌<◌, ◌≤◌, Bool, true, false, not, cond, List, [], ◌∷◌, ◌++◌, refl, arith}
use Rattle.std.specs.Prelude.{codes, ◌==◌, nat_lt, Option, Some, None}
use Rattle.std.specs.Fmt.{decimal}
use Rattle.std.specs.List.{AllByRecursion, list_all}
use Rattle.std.specs.Str.Parse.{AllDigits}
use Rattle.std.proofs.lemmas.Bool.{and_parts, eqb-false}
use Rattle.std.proofs.lemmas.Fmt.{decimal_is_IsNumeral}
use Rattle.std.proofs.lemmas.Str.Parse.{digit_from_value}
use Rattle.domain_base.specs.Names.{node_text, peer_text}
use Rattle.domain_base.specs.declared.names.Akm.{Akm}
use Rattle.domain_base.specs.declared.names.Akm.TheVariants.{Psk, PskSha256, FtPsk}
use Rattle.domain_base.specs.declared.names.Node.{Node}
use Rattle.domain_base.specs.declared.names.Node.TheVariants.{Ap, Sta}
use Rattle.domain_base.specs.declared.names.Peer.{Peer}
use Rattle.domain_base.specs.declared.names.Peer.TheVariants as peer
use Rattle.eapol_key.specs.declared.messages.Message.{Message}
use Rattle.eapol_key.specs.declared.messages.Message.TheVariants.{M1, M2, M3, M4, G1, G2}
use Rattle.key_hierarchy.specs.declared.inputs.Inputs.{Inputs}
use Rattle.key_hierarchy.specs.declared.answers.PutAnswer.{PutAnswer}
use Rattle.key_hierarchy.specs.declared.answers.PutAnswer.TheVariants as puts
use Rattle.key_hierarchy.specs.declared.answers.PullAnswer.{PullAnswer}
use Rattle.key_hierarchy.specs.declared.answers.PullAnswer.TheVariants as pulls
use Rattle.key_hierarchy.specs.declared.answers.RevokeAnswer.{RevokeAnswer}
use Rattle.key_hierarchy.specs.declared.answers.RevokeAnswer.TheVariants as revokes
use Rattle.run_journal.specs.declared.acts.GroupKind.{GroupKind}
use Rattle.run_journal.specs.declared.acts.GroupKind.TheVariants as groups
use Rattle.run_journal.specs.declared.acts.Start.{Start}
use Rattle.run_journal.specs.declared.acts.Start.TheVariants.{Connect, Roam, Renew}
use Rattle.run_journal.specs.declared.acts.Part.{Part}
use Rattle.run_journal.specs.declared.acts.Part.TheVariants.{Attempt, Session}
use Rattle.run_journal.specs.declared.acts.Drawn.{Drawn}
use Rattle.run_journal.specs.declared.acts.Drawn.TheVariants as draw
use Rattle.run_journal.specs.declared.acts.Drawn.TheVariants.{Nonce}
use Rattle.run_journal.specs.declared.acts.Kind.{Kind}
use Rattle.run_journal.specs.declared.acts.Kind.TheVariants as kinds
use Rattle.run_journal.specs.declared.acts.Why.{Why}
use Rattle.run_journal.specs.declared.acts.Why.TheVariants as whys
use Rattle.run_journal.specs.declared.acts.Seal.{Seal}
use Rattle.run_journal.specs.declared.acts.Key.{Key}
use Rattle.run_journal.specs.declared.acts.Key.TheVariants.{Pairwise, Group}
use Rattle.run_journal.specs.declared.acts.Act.{Act}
use Rattle.run_journal.specs.declared.acts.Act.TheVariants.{Opened, Closed, Drew, Derived, Sent, Took, Installed, Resumed, Used, HandedUp, Finished, Put, Looked, Revoked, Secret, GaveUp, Idle, Link}
use Rattle.run_journal.specs.declared.acts.Entry.{Entry}
use Rattle.run_journal.specs.Report.{group_text, hex, hex_digit, kind_text, message_text, outcome_text, part_text, payload_text, pull_text, put_text, revoke_text, start_text, why_text}
use Rattle.entry_lines.specs.Lines.{act_words, akm_text, drawn_words, entry_line, inputs_words, key_words, pointed, ptk_octets, r1_text, seal_words}
use Rattle.entry_lines.specs.Entries.{Fits, FitsAct, FitsKey, FitsNode, FitsPeer}
use Rattle.entry_lines.specs.Splitting.{IsWord, Joins}

not_is : (b : Bool) → not b ≡ true → b ≡ false
not_is true e = absurd cc
not_is false e = refl

-- a word that stands as it is
pub literal : (sep : ℕ) (word : List ℕ) → list_all (λ c. not (c == sep)) word ≡ true → IsWord sep word
literal sep [] e = tt
literal sep (c ∷ word) e =
    let parts = and_parts (not (c == sep)) (list_all (λ d. not (d == sep)) word) e in
    (eqb-false c sep (not_is (c == sep) parts.0), literal sep word parts.1)

digits_word : (sep : ℕ) (ds : List ℕ) → sep < 48 → AllDigits 10 ds → IsWord sep ds
digits_word sep [] low d = tt
digits_word sep (c ∷ cs) low d = (λ e. omega (arith, digit_from_value c d.0), digits_word sep cs low d.1)

pub decimal_word : (sep n : ℕ) → sep < 48 → n < 2 ^ 64 → IsWord sep (decimal n)
decimal_word sep n low few = digits_word sep (decimal n) low (decimal_is_IsNumeral n few).0.1

digit_high : (n : ℕ) → 48 ≤ hex_digit n
digit_high n = elim (nat_lt n 10) as (λ b. 48 ≤ cond b (48 + n) (87 + n)) [ true ↦ omega arith | false ↦ omega arith ]

hex_word : (octets : List ℕ) → IsWord 32 (hex octets)
hex_word [] = tt
hex_word (o ∷ os) = (λ e. omega (arith, digit_high (o / 16)), (λ e. omega (arith, digit_high (o % 16)), hex_word os))

payload_word : (octets : List ℕ) → IsWord 32 (payload_text octets)
payload_word [] = literal 32 (codes "-") refl
payload_word (o ∷ os) = hex_word (o ∷ os)

node_word : (n : Node) → FitsNode n → IsWord 32 (node_text n)
node_word (Ap n) fits = (λ e. omega arith, decimal_word 32 (n + 1) (omega arith) (omega (arith, fits)))
node_word (Sta n) fits = (λ e. omega arith, decimal_word 32 (n + 1) (omega arith) (omega (arith, fits)))

peer_word : (p : Peer) → FitsPeer p → IsWord 32 (peer_text p)
peer_word (peer.One n) fits = node_word n fits
peer_word peer.All fits = literal 32 (codes "all") refl

pointed_word : (text : List ℕ) → IsWord 32 (pointed text)
pointed_word [] = tt
pointed_word (c ∷ text) = (one (c == 32) (λ e. eqb-false c 32 e), pointed_word text)
  where
    one : (b : Bool) → (b ≡ false → c ≡ 32 → ⊥) → cond b 46 c ≡ 32 → ⊥
    one true other e = omega arith
    one false other e = other refl e

akm_word : (a : Akm) → IsWord 32 (akm_text a)
akm_word Psk = literal 32 (codes "psk") refl
akm_word PskSha256 = literal 32 (codes "psk-sha256") refl
akm_word FtPsk = literal 32 (codes "ft-psk") refl

start_word : (s : Start) → IsWord 32 (start_text s)
start_word Connect = literal 32 (codes "connect") refl
start_word Roam = literal 32 (codes "roam") refl
start_word Renew = literal 32 (codes "renew") refl

part_word : (p : Part) → IsWord 32 (part_text p)
part_word Attempt = literal 32 (codes "attempt") refl
part_word Session = literal 32 (codes "session") refl

message_word : (m : Message) → IsWord 32 (message_text m)
message_word M1 = literal 32 (codes "m1") refl
message_word M2 = literal 32 (codes "m2") refl
message_word M3 = literal 32 (codes "m3") refl
message_word M4 = literal 32 (codes "m4") refl
message_word G1 = literal 32 (codes "g1") refl
message_word G2 = literal 32 (codes "g2") refl

kind_word : (k : Kind) → IsWord 32 (kind_text k)
kind_word kinds.AssocReq = literal 32 (codes "assoc-req") refl
kind_word kinds.AssocResp = literal 32 (codes "assoc-resp") refl
kind_word kinds.FtReq = literal 32 (codes "ft-req") refl
kind_word kinds.FtResp = literal 32 (codes "ft-resp") refl
kind_word kinds.ReReq = literal 32 (codes "re-req") refl
kind_word kinds.ReResp = literal 32 (codes "re-resp") refl
kind_word (kinds.Key m) = message_word m
kind_word kinds.Data = literal 32 (codes "data") refl
kind_word kinds.Action = literal 32 (codes "action") refl
kind_word kinds.Ignored = literal 32 (codes "ignored") refl
kind_word kinds.Unread = literal 32 (codes "unread") refl
kind_word kinds.Eapol = literal 32 (codes "eapol") refl

group_word : (k : GroupKind) → IsWord 32 (group_text k)
group_word groups.Gtk = literal 32 (codes "gtk") refl
group_word groups.Igtk = literal 32 (codes "igtk") refl

why_word : (y : Why) → IsWord 32 (why_text y)
why_word whys.NoSession = literal 32 (codes "no-session") refl
why_word whys.SamePeer = literal 32 (codes "same-peer") refl
why_word whys.Nothing = literal 32 (codes "nothing") refl
why_word whys.RekeyPending = literal 32 (codes "rekey-pending") refl
why_word whys.NoKey = literal 32 (codes "no-key") refl
why_word whys.Spent = literal 32 (codes "spent") refl

put_word : (a : PutAnswer) → IsWord 32 (put_text a)
put_word puts.Held = literal 32 (codes "held") refl
put_word puts.HeldAlready = literal 32 (codes "held-already") refl
put_word puts.Full = literal 32 (codes "full") refl
put_word puts.NoMemory = literal 32 (codes "no-memory") refl

pull_word : (a : PullAnswer) → IsWord 32 (pull_text a)
pull_word (pulls.Found k) = literal 32 (codes "found") refl
pull_word pulls.NoHolder = literal 32 (codes "no-holder") refl
pull_word pulls.Absent = literal 32 (codes "absent") refl

r1_word : (a : PullAnswer) → IsWord 32 (r1_text a)
r1_word (pulls.Found k) = hex_word k.key
r1_word pulls.NoHolder = literal 32 (codes "-") refl
r1_word pulls.Absent = literal 32 (codes "-") refl

revoke_word : (a : RevokeAnswer) → IsWord 32 (revoke_text a)
revoke_word revokes.Revoked = literal 32 (codes "revoked") refl
revoke_word revokes.Absent = literal 32 (codes "absent") refl

-- words of several fields
abbrev Apart : List (List ℕ) → Type 0
Apart words = AllByRecursion (IsWord 32) words

inputs_apart : (i : Inputs) (words : List (List ℕ)) → Apart words → Apart (inputs_words i ++ words)
inputs_apart i words rest = (
  akm_word i.akm,
  (hex_word i.psk, (payload_word i.ssid, (hex_word i.mdid, (payload_word i.r0kh_id, (hex_word i.aa.0, (hex_word i.spa.0, (hex_word i.anonce, (hex_word i.snonce, rest)))))))),
)

drawn_apart : (v : Drawn) → Apart (drawn_words v)
drawn_apart (Nonce v) = (hex_word v, (literal 32 (codes "nonce") refl, tt))
drawn_apart (draw.Group kind v) = (hex_word v, (group_word kind, tt))

seal_apart : (s : Option Seal) → Apart (seal_words s)
seal_apart None = (literal 32 (codes "-") refl, (literal 32 (codes "-") refl, tt))
seal_apart (Some s) = (payload_word s.octets, (hex_word s.key, tt))

key_apart : (k : Key) → FitsKey k → Apart (key_words k)
key_apart (Pairwise tk i) fits = (literal 32 (codes "ptk") refl, (hex_word tk, (literal 32 (codes "0") refl, inputs_apart i [] tt)))
key_apart (Group kind key id bssid) fits = (group_word kind, (hex_word key, (decimal_word 32 id (omega arith) (omega (arith, fits.1)), (hex_word bssid.0, tt))))

act_apart : (number : ℕ) (a : Act) → number < 2 ^ 64 → FitsAct a → Apart (act_words number a)
act_apart number (Opened p s) few f = (literal 32 (codes "opened") refl, (node_word p f, (start_word s, tt)))
act_apart number (Closed p part) few f = (literal 32 (codes "closed") refl, (node_word p f, (part_word part, tt)))
act_apart number (Drew v) few f = (literal 32 (codes "drew") refl, drawn_apart v)
act_apart number (Derived p i k) few f = (literal 32 (codes "derived") refl, inputs_apart i (hex (ptk_octets k) ∷ []) (hex_word (ptk_octets k), tt))
act_apart number (Sent p k octets s) few f = (literal 32 (codes "sent") refl, (decimal_word 32 number (omega arith) few, (peer_word p f.0, (kind_word k, (payload_word octets, seal_apart s)))))
act_apart number (Took from octets k o s) few f = (literal 32 (codes "took") refl, (kind_word k, (pointed_word (outcome_text o), (payload_word octets, seal_apart s))))
act_apart number (Installed p key) few f = (literal 32 (codes "installed") refl, (peer_word p f.0, key_apart key f.1))
act_apart number (Resumed p key) few f = (literal 32 (codes "resumed") refl, (node_word p f.0, key_apart key f.1))
act_apart number (Used p key id n octets) few f =
    (literal 32 (codes "used") refl, (peer_word p f.0, (hex_word key, (decimal_word 32 id (omega arith) (omega (arith, f.2)), (decimal_word 32 n (omega arith) f.3, (payload_word octets, tt))))))
act_apart number (HandedUp p key id tid n octets) few f = (
  literal 32 (codes "handed") refl,
  (node_word p f.0, (hex_word key, (decimal_word 32 id (omega arith) (omega (arith, f.2)), (decimal_word 32 tid (omega arith) (omega (arith, f.3)), (decimal_word 32 n (omega arith) f.4, (payload_word octets, tt)))))),
)
act_apart number (Finished p i) few f = (literal 32 (codes "finished") refl, (node_word p f.0, inputs_apart i [] tt))
act_apart number (Put x m p answer) few f = (literal 32 (codes "put") refl, (payload_word x, (hex_word m, (node_word p f.2, (put_word answer, (literal 32 (codes "-") refl, tt))))))
act_apart number (Looked x m p answer) few f = (literal 32 (codes "looked") refl, (payload_word x, (hex_word m, (node_word p f.2, (pull_word answer, (r1_word answer, tt))))))
act_apart number (Revoked x m p answer) few f = (literal 32 (codes "revoked") refl, (payload_word x, (hex_word m, (node_word p f.2, (revoke_word answer, (literal 32 (codes "-") refl, tt))))))
act_apart number (Secret p psk) few f = (literal 32 (codes "secret") refl, (node_word p f.0, (hex_word psk, tt)))
act_apart number (GaveUp p m) few f = (literal 32 (codes "gave-up") refl, (message_word m, (node_word p f, tt)))
act_apart number (Idle y) few f = (literal 32 (codes "idle") refl, (why_word y, tt))
act_apart number (Link sta s) few f = tt

-- the words of a line
pub entry_joins : (octets : List ℕ) (e : Entry) → octets ≡ entry_line e → Fits e → Joins 32 octets (decimal e.round ∷ node_text e.node ∷ act_words e.number e.act)
entry_joins octets e is fits = record {
  text_ = is;
  apart = (decimal_word 32 e.round (omega arith) fits.round, (node_word e.node fits.node, act_apart e.number e.act fits.number fits.act));
}

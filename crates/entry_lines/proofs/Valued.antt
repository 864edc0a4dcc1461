-- Nodes, peers, seals, keys and answers by their words, one exit at a time.
use Rattle.std.proofs.Common.{◌≡◌, ℕ, ◌+◌, ◌^◌, ◌<◌, List, [], ◌∷◌, ◌++◌, length, drop, get_or, Option, Some, None, refl, sym, ap, subst, ◌∙◌, arith, codes}
use Rattle.std.specs.Prelude.{replicate, slice_index}
use Rattle.std.specs.Fmt.{decimal}
use Rattle.std.specs.Str.Parse.{AllDigits}
use Rattle.std.proofs.lemmas.Fmt.{decimal_is_IsNumeral}
use Rattle.std.proofs.lemmas.Str.Parse.{digit_from_value}
use Rattle.domain_base.specs.Octets.{AreOctets}
use Rattle.domain_base.specs.Names.{node_text, peer_text}
use Rattle.domain_base.specs.declared.names.Mac.{Mac}
use Rattle.domain_base.specs.declared.names.Node.{Node}
use Rattle.domain_base.specs.declared.names.Node.TheVariants.{Ap, Sta}
use Rattle.domain_base.specs.declared.names.Peer.{Peer}
use Rattle.domain_base.specs.declared.names.Peer.TheVariants.{One, All}
use Rattle.key_hierarchy.specs.declared.inputs.Inputs.{Inputs}
use Rattle.key_hierarchy.specs.declared.answers.PullAnswer.{PullAnswer}
use Rattle.key_hierarchy.specs.declared.answers.PullAnswer.TheVariants as pulls
use Rattle.run_journal.specs.declared.acts.GroupKind.{GroupKind}
use Rattle.run_journal.specs.declared.acts.GroupKind.TheVariants as groups
use Rattle.run_journal.specs.declared.acts.Drawn.{Drawn}
use Rattle.run_journal.specs.declared.acts.Drawn.TheVariants as draw
use Rattle.run_journal.specs.declared.acts.Drawn.TheVariants.{Nonce}
use Rattle.run_journal.specs.declared.acts.Seal.{Seal}
use Rattle.run_journal.specs.declared.acts.Key.{Key}
use Rattle.run_journal.specs.declared.acts.Key.TheVariants.{Pairwise, Group}
use Rattle.run_journal.specs.Report.{group_text, hex, payload_text, pull_text}
use Rattle.entry_lines.specs.Entries.{FitsAnswer, FitsDrawn, FitsKey, FitsNode, FitsPeer, FitsSeal, IsArray, bare_answer}
use Rattle.entry_lines.specs.Lines.{drawn_words, key_words, r1_text, seal_words}

-- ---- nodes

-- the place that the digits write
abbrev pub ReadsPlace : List ℕ → ℕ → Type 0
ReadsPlace digits place = (k : ℕ) → k < 2 ^ 16 → digits ≡ decimal (k + 1) → place ≡ k

pub node_none : (n : Node) (word : List ℕ) (found : Node) → length word ≡ 0 → word ≡ node_text n → found ≡ n
node_none (Ap k) word found none is = absurd (omega (arith, none, ap length is))
node_none (Sta k) word found none is = absurd (omega (arith, none, ap length is))

pub node_ap : (n : Node) (word digits : List ℕ) (place : ℕ) → FitsNode n → word ≡ node_text n → slice_index word 0 ≡ 97 → digits ≡ drop 1 word → ReadsPlace digits place → Ap place ≡ n
node_ap (Ap k) word digits place fits is letter rest read = ap Ap (read k fits (rest ∙ ap (drop 1) is))
node_ap (Sta k) word digits place fits is letter rest read = absurd (omega (arith, letter, ap (λ (w : List ℕ). slice_index w 0) is))

pub node_sta : (n : Node) (word digits : List ℕ) (place : ℕ) → FitsNode n → word ≡ node_text n → (slice_index word 0 ≡ 97 → ⊥) → digits ≡ drop 1 word → ReadsPlace digits place → Sta place ≡ n
node_sta (Ap k) word digits place fits is letter rest read = absurd (letter (ap (λ (w : List ℕ). slice_index w 0) is))
node_sta (Sta k) word digits place fits is letter rest read = ap Sta (read k fits (rest ∙ ap (drop 1) is))

-- ---- peers

no_digits : (n : ℕ) → n < 2 ^ 64 → decimal n ≡ codes "ll" → ⊥
no_digits n few is = omega (arith, digit_from_value 108 (subst (AllDigits 10) is (decimal_is_IsNumeral n few).0.1).0)

no_node : (n : Node) → FitsNode n → codes "all" ≡ node_text n → ⊥
no_node (Ap k) fits is = no_digits (k + 1) (omega (arith, fits)) (sym (ap (drop 1) is))
no_node (Sta k) fits is = omega (arith, ap (λ (w : List ℕ). slice_index w 0) is)

pub peer_all : (p : Peer) (word : List ℕ) → FitsPeer p → word ≡ codes "all" → word ≡ peer_text p → All ≡ p
peer_all (One n) word fits all is = absurd (no_node n fits (sym all ∙ is))
peer_all All word fits all is = refl

pub peer_one : (p : Peer) (word : List ℕ) (n : Node) → FitsPeer p → (word ≡ codes "all" → ⊥) → word ≡ peer_text p → ((m : Node) → FitsNode m → word ≡ node_text m → n ≡ m) → One n ≡ p
peer_one (One m) word n fits other is read = ap One (read m fits is)
peer_one All word n fits other is read = absurd (other is)

-- ---- values drawn

pub drawn_nonce : (v : Drawn) (rest : List (List ℕ)) (word kind octets : List ℕ) → FitsDrawn v → word ≡ get_or (drawn_words v ++ rest) 0 [] → kind ≡ get_or (drawn_words v ++ rest) 1 [] → kind ≡ codes "nonce"
    → ((xs : List ℕ) → IsArray 32 xs → word ≡ hex xs → octets ≡ xs) → Nonce octets ≡ v
drawn_nonce (Nonce x) rest word kind octets fits w k is read = ap Nonce (read x fits w)
drawn_nonce (draw.Group groups.Gtk x) rest word kind octets fits w k is read = (let both = sym k ∙ is in absurd (cc both))
drawn_nonce (draw.Group groups.Igtk x) rest word kind octets fits w k is read = (let both = sym k ∙ is in absurd (cc both))

pub drawn_group : (v : Drawn) (rest : List (List ℕ)) (word kind octets : List ℕ) (group : GroupKind) → FitsDrawn v → word ≡ get_or (drawn_words v ++ rest) 0 [] → kind ≡ get_or (drawn_words v ++ rest) 1 [] → (kind ≡ codes "nonce" → ⊥)
    → ((which : GroupKind) → kind ≡ group_text which → group ≡ which) → ((xs : List ℕ) → IsArray 16 xs → word ≡ hex xs → octets ≡ xs) → draw.Group group octets ≡ v
drawn_group (Nonce x) rest word kind octets group fits w k other names read = absurd (other k)
drawn_group (draw.Group which x) rest word kind octets group fits w k other names read =
    let kinds_are : group ≡ which = names which k in
    let octets_are : octets ≡ x = read x fits w in
    λ t. draw.Group (kinds_are t) (octets_are t)

-- ---- seals

key_written : (key : List ℕ) → IsArray 16 key → hex key ≡ codes "-" → ⊥
key_written [] is same = omega (arith, is.0)
key_written (x ∷ xs) is same = cc same

pub seal_none : (s : Option Seal) (rest : List (List ℕ)) (key : List ℕ) → FitsSeal s → key ≡ get_or (seal_words s ++ rest) 1 [] → key ≡ codes "-" → None ≡ s
seal_none None rest key fits k is = refl
seal_none (Some s) rest key fits k is = absurd (key_written s.key fits.1 (sym k ∙ is))

pub seal_some : (s : Option Seal) (rest : List (List ℕ)) (word key octets found : List ℕ) → FitsSeal s → word ≡ get_or (seal_words s ++ rest) 0 [] → key ≡ get_or (seal_words s ++ rest) 1 [] → (key ≡ codes "-" → ⊥)
    → ((xs : List ℕ) → AreOctets xs → word ≡ payload_text xs → octets ≡ xs) → ((xs : List ℕ) → IsArray 16 xs → key ≡ hex xs → found ≡ xs) → Some (record { octets = octets; key = found }) ≡ s
seal_some None rest word key octets found fits w k other reads read = absurd (other k)
seal_some (Some s) rest word key octets found fits w k other reads read =
    let o : octets ≡ s.octets = reads s.octets fits.0 w in
    let f : found ≡ s.key = read s.key fits.1 k in
    ap Some (λ t. record { octets = o t; key = f t })

-- ---- keys

pub key_pairwise : (k : Key) (rest : List (List ℕ)) (kind : List ℕ) (found : Key) → FitsKey k → kind ≡ get_or (key_words k ++ rest) 0 [] → kind ≡ codes "ptk"
    → ((tk : List ℕ) (i : Inputs) → k ≡ Pairwise tk i → found ≡ k) → found ≡ k
key_pairwise (Pairwise tk i) rest kind found fits w is read = read tk i refl
key_pairwise (Group groups.Gtk key id bssid) rest kind found fits w is read = absurd (omega (arith, ap (λ (l : List ℕ). slice_index l 0) (sym w ∙ is)))
key_pairwise (Group groups.Igtk key id bssid) rest kind found fits w is read = absurd (omega (arith, ap (λ (l : List ℕ). slice_index l 0) (sym w ∙ is)))

pub key_group : (k : Key) (rest : List (List ℕ)) (kind : List ℕ) (found : Key) → FitsKey k → kind ≡ get_or (key_words k ++ rest) 0 [] → (kind ≡ codes "ptk" → ⊥)
    → ((which : GroupKind) (key : List ℕ) (id : ℕ) (bssid : Mac) → k ≡ Group which key id bssid → found ≡ k) → found ≡ k
key_group (Pairwise tk i) rest kind found fits w other read = absurd (other w)
key_group (Group which key id bssid) rest kind found fits w other read = read which key id bssid refl

-- ---- answers

pub answer_found : (a : PullAnswer) (answer key octets : List ℕ) → FitsAnswer a → answer ≡ pull_text a → key ≡ r1_text a → answer ≡ codes "found"
    → ((xs : List ℕ) → IsArray 32 xs → key ≡ hex xs → octets ≡ xs) → pulls.Found (record { key = octets; name = replicate 16 0 }) ≡ bare_answer a
answer_found (pulls.Found k) answer key octets fits w x is read =
    let o : octets ≡ k.key = read k.key fits.0 x in
    ap (λ (l : List ℕ). pulls.Found (record { key = l; name = replicate 16 0 })) o
answer_found pulls.NoHolder answer key octets fits w x is read = (let both = sym w ∙ is in absurd (cc both))
answer_found pulls.Absent answer key octets fits w x is read = (let both = sym w ∙ is in absurd (cc both))

pub answer_no_holder : (a : PullAnswer) (answer : List ℕ) → answer ≡ pull_text a → answer ≡ codes "no-holder" → pulls.NoHolder ≡ bare_answer a
answer_no_holder (pulls.Found k) answer w is = (let both = sym w ∙ is in absurd (cc both))
answer_no_holder pulls.NoHolder answer w is = refl
answer_no_holder pulls.Absent answer w is = (let both = sym w ∙ is in absurd (cc both))

pub answer_absent : (a : PullAnswer) (answer : List ℕ) → answer ≡ pull_text a → (answer ≡ codes "found" → ⊥) → (answer ≡ codes "no-holder" → ⊥) → pulls.Absent ≡ bare_answer a
answer_absent (pulls.Found k) answer w other another = absurd (other w)
answer_absent pulls.NoHolder answer w other another = absurd (another w)
answer_absent pulls.Absent answer w other another = refl

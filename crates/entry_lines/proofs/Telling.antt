-- What came of a frame, by its words.
use Rattle.std.proofs.Common.{◌≡◌, ℕ, ◌+◌, ◌^◌, ◌<◌, ◌==◌, Bool, cond, List, [], ◌∷◌, ◌++◌, get_or, refl, sym, ap, ◌∙◌, arith, lt-ltb, codes}
use Rattle.std.specs.Fmt.{decimal}
use Rattle.std.specs.List.{AllByRecursion}
use Rattle.std.proofs.lemmas.Bool.{ne_eqb}
use Rattle.std.proofs.lemmas.Fmt.{decimal_digit}
use Rattle.std.proofs.lemmas.List.{append-nil, map-append}
use Rattle.eapol_key.specs.KeyFrame.{fault_code}
use Rattle.eapol_key.specs.declared.frame.FaultKind.{FaultKind as KeyFault}
use Rattle.eapol_key.specs.declared.frame.FaultKind.TheVariants as frame
use Rattle.rsn_elements.specs.Codes.{code_of}
use Rattle.rsn_elements.specs.declared.faults.FaultKind.{FaultKind as ElementKind}
use Rattle.rsn_elements.specs.declared.faults.FaultKind.TheVariants as element
use Rattle.run_journal.specs.declared.acts.MalformedFrame.TheVariants as air
use Rattle.run_journal.specs.declared.acts.Malformed.{Malformed}
use Rattle.run_journal.specs.declared.acts.Malformed.TheVariants as malformed
use Rattle.run_journal.specs.declared.acts.KeyDataFault.{KeyDataFault}
use Rattle.run_journal.specs.declared.acts.KeyDataFault.TheVariants as key_data
use Rattle.run_journal.specs.declared.acts.Reason.{Reason}
use Rattle.run_journal.specs.declared.acts.Reason.TheVariants as reason
use Rattle.run_journal.specs.declared.acts.Outcome.{Outcome}
use Rattle.run_journal.specs.declared.acts.Outcome.TheVariants.{Accepted, Answered, Ignored, Refused, Done, GaveUp, Idle}
use Rattle.run_journal.specs.Report.{key_data_code, outcome_text}
use Rattle.entry_lines.specs.Entries.{FitsOutcome, FitsReason, HasOutcomeLine}
use Rattle.entry_lines.specs.Lines.{pointed}
use Rattle.entry_lines.specs.Names.{element_fault, filled, frame_fault, key_data_fault, named, outcomes, reasons}
use Rattle.entry_lines.specs.Splitting.{IsWord, Joins, joined}
use Rattle.entry_lines.proofs.Apart.{decimal_word, literal}
use Rattle.entry_lines.proofs.Naming.{named_all}

-- ---- the words

-- the layer, the place and the number of the fault
abbrev malformed_words : Malformed → List (List ℕ)
malformed_words (malformed.Air (air.Short place)) = codes "1" ∷ decimal place ∷ codes "1" ∷ []
malformed_words (malformed.Air air.Version) = codes "1" ∷ codes "0" ∷ codes "2" ∷ []
malformed_words (malformed.Air (air.Body place)) = codes "1" ∷ decimal place ∷ codes "4" ∷ []
malformed_words (malformed.Key f) = codes "2" ∷ decimal f.place ∷ decimal (fault_code f.kind) ∷ []
malformed_words (malformed.Elements f) = codes "3" ∷ decimal f.place ∷ decimal (code_of f.kind) ∷ []

-- the name of the reason, and what it tells
abbrev pub reason_words : Reason → List (List ℕ)
reason_words (reason.Malformed m) = codes "malformed" ∷ malformed_words m
reason_words (reason.OutOfProfile code) = codes "out-of-profile" ∷ decimal code ∷ []
reason_words reason.NotForMe = codes "not-for-me" ∷ []
reason_words reason.UnknownPeer = codes "unknown-peer" ∷ []
reason_words reason.Unawaited = codes "unawaited" ∷ []
reason_words (reason.Counter kept) = codes "counter" ∷ decimal kept ∷ []
reason_words reason.Nonce = codes "nonce" ∷ []
reason_words reason.Mic = codes "mic" ∷ []
reason_words reason.Wrap = codes "wrap" ∷ []
reason_words (reason.KeyData f) = codes "key-data" ∷ decimal (key_data_code f) ∷ []
reason_words (reason.Status code) = codes "status" ∷ decimal code ∷ []
reason_words reason.NoHolder = codes "no-holder" ∷ []
reason_words reason.Name = codes "name" ∷ []
reason_words reason.NoKey = codes "no-key" ∷ []
reason_words (reason.Replayed kept) = codes "replayed" ∷ decimal kept ∷ []
reason_words reason.Seal = codes "seal" ∷ []
reason_words reason.Spent = codes "spent" ∷ []

-- ---- with points between them

-- there is no space in a number
no_space : (word : List ℕ) → IsWord 32 word → pointed word ≡ word
no_space [] none = refl
no_space (c ∷ word) none = ap (λ (b : Bool). cond b 46 c ∷ pointed word) (ne_eqb c 32 none.0) ∙ ap (λ (l : List ℕ). c ∷ l) (no_space word none.1)

last_number : (n : ℕ) → n < 2 ^ 64 → pointed (decimal n) ≡ decimal n ++ []
last_number n few = no_space (decimal n) (decimal_word 32 n (omega arith) few) ∙ sym (append-nil (decimal n))

number_before : (n : ℕ) (rest after : List ℕ) → n < 2 ^ 64 → pointed rest ≡ after → pointed (decimal n ++ rest) ≡ decimal n ++ after
number_before n rest after few is = map-append (λ c. cond (c == 32) 46 c) (decimal n) rest ∙ ap (λ (l : List ℕ). l ++ pointed rest) (no_space (decimal n) (decimal_word 32 n (omega arith) few)) ∙ ap (λ (l : List ℕ). decimal n ++ l) is

key_few : (k : KeyFault) → fault_code k < 2 ^ 64
key_few frame.Short = omega arith
key_few frame.PacketType = omega arith
key_few frame.Descriptor = omega arith
key_few frame.BodyLength = omega arith
key_few frame.KeyDataLength = omega arith

element_few : (k : ElementKind) → code_of k < 2 ^ 64
element_few element.Truncated = omega arith
element_few element.Length = omega arith
element_few element.Version = omega arith
element_few element.Repeated = omega arith
element_few element.SubelementLength = omega arith

data_few : (f : KeyDataFault) → key_data_code f < 2 ^ 64
data_few key_data.Unreadable = omega arith
data_few key_data.Rsne = omega arith
data_few key_data.Mde = omega arith
data_few key_data.Fte = omega arith
data_few key_data.Gtk = omega arith
data_few key_data.Igtk = omega arith

two_numbers : (n m : ℕ) → n < 2 ^ 64 → m < 2 ^ 64 → pointed (decimal n ++ 32 ∷ decimal m) ≡ decimal n ++ (46 ∷ (decimal m ++ []))
two_numbers n m few small = number_before n (32 ∷ decimal m) (46 ∷ (decimal m ++ [])) few (ap (λ (l : List ℕ). 46 ∷ l) (last_number m small))

refused_text : (r : Reason) → FitsReason r → pointed (outcome_text (Refused r)) ≡ joined 46 (codes "refused" ∷ reason_words r)
refused_text (reason.Malformed (malformed.Air (air.Short place))) fits = ap (λ (l : List ℕ). codes "refused.malformed.1." ++ l) (number_before place (codes " 1") (codes ".1") fits refl)
refused_text (reason.Malformed (malformed.Air air.Version)) fits = refl
refused_text (reason.Malformed (malformed.Air (air.Body place))) fits = ap (λ (l : List ℕ). codes "refused.malformed.1." ++ l) (number_before place (codes " 4") (codes ".4") fits refl)
refused_text (reason.Malformed (malformed.Key f)) fits = ap (λ (l : List ℕ). codes "refused.malformed.2." ++ l) (two_numbers f.place (fault_code f.kind) fits (key_few f.kind))
refused_text (reason.Malformed (malformed.Elements f)) fits = ap (λ (l : List ℕ). codes "refused.malformed.3." ++ l) (two_numbers f.place (code_of f.kind) fits (element_few f.kind))
refused_text (reason.OutOfProfile code) fits = ap (λ (l : List ℕ). codes "refused.out-of-profile." ++ l) (last_number code (omega (arith, fits)))
refused_text reason.NotForMe fits = refl
refused_text reason.UnknownPeer fits = refl
refused_text reason.Unawaited fits = refl
refused_text (reason.Counter kept) fits = ap (λ (l : List ℕ). codes "refused.counter." ++ l) (last_number kept fits)
refused_text reason.Nonce fits = refl
refused_text reason.Mic fits = refl
refused_text reason.Wrap fits = refl
refused_text (reason.KeyData f) fits = ap (λ (l : List ℕ). codes "refused.key-data." ++ l) (last_number (key_data_code f) (data_few f))
refused_text (reason.Status code) fits = ap (λ (l : List ℕ). codes "refused.status." ++ l) (last_number code (omega (arith, fits)))
refused_text reason.NoHolder fits = refl
refused_text reason.Name fits = refl
refused_text reason.NoKey fits = refl
refused_text (reason.Replayed kept) fits = ap (λ (l : List ℕ). codes "refused.replayed." ++ l) (last_number kept fits)
refused_text reason.Seal fits = refl
refused_text reason.Spent fits = refl

number_word : (n : ℕ) → n < 2 ^ 64 → IsWord 46 (decimal n)
number_word n few = decimal_word 46 n (omega arith) few

refused_apart : (r : Reason) → FitsReason r → AllByRecursion (IsWord 46) (reason_words r)
refused_apart (reason.Malformed (malformed.Air (air.Short place))) fits = (literal 46 (codes "malformed") refl, (literal 46 (codes "1") refl, (number_word place fits, (literal 46 (codes "1") refl, tt))))
refused_apart (reason.Malformed (malformed.Air air.Version)) fits = (literal 46 (codes "malformed") refl, (literal 46 (codes "1") refl, (literal 46 (codes "0") refl, (literal 46 (codes "2") refl, tt))))
refused_apart (reason.Malformed (malformed.Air (air.Body place))) fits = (literal 46 (codes "malformed") refl, (literal 46 (codes "1") refl, (number_word place fits, (literal 46 (codes "4") refl, tt))))
refused_apart (reason.Malformed (malformed.Key f)) fits = (literal 46 (codes "malformed") refl, (literal 46 (codes "2") refl, (number_word f.place fits, (number_word (fault_code f.kind) (key_few f.kind), tt))))
refused_apart (reason.Malformed (malformed.Elements f)) fits = (literal 46 (codes "malformed") refl, (literal 46 (codes "3") refl, (number_word f.place fits, (number_word (code_of f.kind) (element_few f.kind), tt))))
refused_apart (reason.OutOfProfile code) fits = (literal 46 (codes "out-of-profile") refl, (number_word code (omega (arith, fits)), tt))
refused_apart reason.NotForMe fits = (literal 46 (codes "not-for-me") refl, tt)
refused_apart reason.UnknownPeer fits = (literal 46 (codes "unknown-peer") refl, tt)
refused_apart reason.Unawaited fits = (literal 46 (codes "unawaited") refl, tt)
refused_apart (reason.Counter kept) fits = (literal 46 (codes "counter") refl, (number_word kept fits, tt))
refused_apart reason.Nonce fits = (literal 46 (codes "nonce") refl, tt)
refused_apart reason.Mic fits = (literal 46 (codes "mic") refl, tt)
refused_apart reason.Wrap fits = (literal 46 (codes "wrap") refl, tt)
refused_apart (reason.KeyData f) fits = (literal 46 (codes "key-data") refl, (number_word (key_data_code f) (data_few f), tt))
refused_apart (reason.Status code) fits = (literal 46 (codes "status") refl, (number_word code (omega (arith, fits)), tt))
refused_apart reason.NoHolder fits = (literal 46 (codes "no-holder") refl, tt)
refused_apart reason.Name fits = (literal 46 (codes "name") refl, tt)
refused_apart reason.NoKey fits = (literal 46 (codes "no-key") refl, tt)
refused_apart (reason.Replayed kept) fits = (literal 46 (codes "replayed") refl, (number_word kept fits, tt))
refused_apart reason.Seal fits = (literal 46 (codes "seal") refl, tt)
refused_apart reason.Spent fits = (literal 46 (codes "spent") refl, tt)

pub refused_joins : (word : List ℕ) (r : Reason) → FitsReason r → word ≡ pointed (outcome_text (Refused r)) → Joins 46 word (codes "refused" ∷ reason_words r)
refused_joins word r fits is = record {
  text_ = is ∙ refused_text r fits;
  apart = (literal 46 (codes "refused") refl, refused_apart r fits);
}

-- ---- read again

key_back : (k : KeyFault) → frame_fault (fault_code k) ≡ k
key_back frame.Short = refl
key_back frame.PacketType = refl
key_back frame.Descriptor = refl
key_back frame.BodyLength = refl
key_back frame.KeyDataLength = refl

element_back : (k : ElementKind) → element_fault (code_of k) ≡ k
element_back element.Truncated = refl
element_back element.Length = refl
element_back element.Version = refl
element_back element.Repeated = refl
element_back element.SubelementLength = refl

data_back : (f : KeyDataFault) → key_data_fault (key_data_code f) ≡ f
data_back key_data.Unreadable = refl
data_back key_data.Rsne = refl
data_back key_data.Mde = refl
data_back key_data.Fte = refl
data_back key_data.Gtk = refl
data_back key_data.Igtk = refl

-- the word writes no other number than that
abbrev Reads : List ℕ → ℕ → Type 0
Reads word a = (n : ℕ) → n < 2 ^ 64 → word ≡ decimal n → a ≡ n

reads_digit : (word : List ℕ) (a n : ℕ) → Reads word a → n < 10 → word ≡ (48 + n) ∷ [] → a ≡ n
reads_digit word a n read small is = read n (omega arith) (is ∙ sym (decimal_digit n small))

-- the reason that its words tell
pub reason_read : (r : Reason) (name first second third : List ℕ) (o : Reason) (a b c : ℕ) → FitsReason r
    → name ≡ get_or (reason_words r) 0 [] → first ≡ get_or (reason_words r) 1 [] → second ≡ get_or (reason_words r) 2 [] → third ≡ get_or (reason_words r) 3 []
    → o ≡ named reasons name reason.Spent → Reads first a → Reads second b → Reads third c → filled o a b c ≡ r
reason_read (reason.Malformed (malformed.Air (air.Short place))) name first second third o a b c fits n w x y is p q r =
    rw (is ∙ ap (λ (l : List ℕ). named reasons l reason.Spent) n, reads_digit first a 1 p (omega arith) w, q place fits x, reads_digit third c 1 r (omega arith) y) refl
reason_read (reason.Malformed (malformed.Air air.Version)) name first second third o a b c fits n w x y is p q r =
    rw (is ∙ ap (λ (l : List ℕ). named reasons l reason.Spent) n, reads_digit first a 1 p (omega arith) w, reads_digit second b 0 q (omega arith) x, reads_digit third c 2 r (omega arith) y) refl
reason_read (reason.Malformed (malformed.Air (air.Body place))) name first second third o a b c fits n w x y is p q r =
    rw (is ∙ ap (λ (l : List ℕ). named reasons l reason.Spent) n, reads_digit first a 1 p (omega arith) w, q place fits x, reads_digit third c 4 r (omega arith) y) refl
reason_read (reason.Malformed (malformed.Key f)) name first second third o a b c fits n w x y is p q r =
    rw (is ∙ ap (λ (l : List ℕ). named reasons l reason.Spent) n, reads_digit first a 2 p (omega arith) w, q f.place fits x, r (fault_code f.kind) (key_few f.kind) y)
    (ap (λ (k : KeyFault). reason.Malformed (malformed.Key (record { place = f.place; kind = k }))) (key_back f.kind))
reason_read (reason.Malformed (malformed.Elements f)) name first second third o a b c fits n w x y is p q r =
    rw (is ∙ ap (λ (l : List ℕ). named reasons l reason.Spent) n, reads_digit first a 3 p (omega arith) w, q f.place fits x, r (code_of f.kind) (element_few f.kind) y)
    (ap (λ (k : ElementKind). reason.Malformed (malformed.Elements (record { place = f.place; kind = k }))) (element_back f.kind))
reason_read (reason.OutOfProfile code) name first second third o a b c fits n w x y is p q r =
    rw (is ∙ ap (λ (l : List ℕ). named reasons l reason.Spent) n, p code (omega (arith, fits)) w) (ap reason.OutOfProfile (ap (λ (t : Bool). cond t code 0) (lt-ltb code 256 fits)))
reason_read reason.NotForMe name first second third o a b c fits n w x y is p q r = rw (is ∙ ap (λ (l : List ℕ). named reasons l reason.Spent) n) refl
reason_read reason.UnknownPeer name first second third o a b c fits n w x y is p q r = rw (is ∙ ap (λ (l : List ℕ). named reasons l reason.Spent) n) refl
reason_read reason.Unawaited name first second third o a b c fits n w x y is p q r = rw (is ∙ ap (λ (l : List ℕ). named reasons l reason.Spent) n) refl
reason_read (reason.Counter kept) name first second third o a b c fits n w x y is p q r = rw (is ∙ ap (λ (l : List ℕ). named reasons l reason.Spent) n, p kept fits w) refl
reason_read reason.Nonce name first second third o a b c fits n w x y is p q r = rw (is ∙ ap (λ (l : List ℕ). named reasons l reason.Spent) n) refl
reason_read reason.Mic name first second third o a b c fits n w x y is p q r = rw (is ∙ ap (λ (l : List ℕ). named reasons l reason.Spent) n) refl
reason_read reason.Wrap name first second third o a b c fits n w x y is p q r = rw (is ∙ ap (λ (l : List ℕ). named reasons l reason.Spent) n) refl
reason_read (reason.KeyData f) name first second third o a b c fits n w x y is p q r =
    rw (is ∙ ap (λ (l : List ℕ). named reasons l reason.Spent) n, p (key_data_code f) (data_few f) w) (ap reason.KeyData (data_back f))
reason_read (reason.Status code) name first second third o a b c fits n w x y is p q r =
    rw (is ∙ ap (λ (l : List ℕ). named reasons l reason.Spent) n, p code (omega (arith, fits)) w) (ap reason.Status (ap (λ (t : Bool). cond t code 0) (lt-ltb code 65536 fits)))
reason_read reason.NoHolder name first second third o a b c fits n w x y is p q r = rw (is ∙ ap (λ (l : List ℕ). named reasons l reason.Spent) n) refl
reason_read reason.Name name first second third o a b c fits n w x y is p q r = rw (is ∙ ap (λ (l : List ℕ). named reasons l reason.Spent) n) refl
reason_read reason.NoKey name first second third o a b c fits n w x y is p q r = rw (is ∙ ap (λ (l : List ℕ). named reasons l reason.Spent) n) refl
reason_read (reason.Replayed kept) name first second third o a b c fits n w x y is p q r = rw (is ∙ ap (λ (l : List ℕ). named reasons l reason.Spent) n, p kept fits w) refl
reason_read reason.Seal name first second third o a b c fits n w x y is p q r = rw (is ∙ ap (λ (l : List ℕ). named reasons l reason.Spent) n) refl
reason_read reason.Spent name first second third o a b c fits n w x y is p q r = rw (is ∙ ap (λ (l : List ℕ). named reasons l reason.Spent) n) refl

-- ---- outcomes

pub outcome_read : (o : Outcome) (word : List ℕ) (r : Reason) → HasOutcomeLine o → FitsOutcome o → word ≡ pointed (outcome_text o)
    → ((s : Reason) → FitsReason s → word ≡ pointed (outcome_text (Refused s)) → r ≡ s) → named outcomes word (Refused r) ≡ o
outcome_read Accepted word r has fits is back = ap (λ (l : List ℕ). named outcomes l (Refused r)) is
outcome_read Answered word r has fits is back = ap (λ (l : List ℕ). named outcomes l (Refused r)) is
outcome_read Ignored word r has fits is back = ap (λ (l : List ℕ). named outcomes l (Refused r)) is
outcome_read (Refused s) word r has fits is back = ap (λ (l : List ℕ). named outcomes l (Refused r)) is ∙ ap Refused (back s fits is)
outcome_read Done word r has fits is back = absurd has
outcome_read (GaveUp m) word r has fits is back = absurd has
outcome_read (Idle y) word r has fits is back = absurd has

pub outcome_has : (word : List ℕ) (r : Reason) → HasOutcomeLine (named outcomes word (Refused r))
outcome_has word r = named_all HasOutcomeLine outcomes word (Refused r) (tt, (tt, (tt, tt))) tt

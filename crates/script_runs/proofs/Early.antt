-- A seed is drawn before all else, once.
use Rattle.std.proofs.Common.{◌≡◌, ℕ, Bool, true, false, if◌then◌else◌, List, [], ◌∷◌, ◌++◌, length, bytes_eq, codes, Option, Some, None, Result, Ok, Err, ◌⊎◌, inl, inr, refl, sym, ap, subst, ◌∙◌, append_assoc}
use Rattle.std.specs.Prelude.{nat_le}
use Rattle.domain_base.specs.declared.names.Akm.{Akm}
use Rattle.domain_base.specs.declared.names.Akm.TheVariants.{Psk, FtPsk, PskSha256}
use Rattle.run_journal.specs.Limits.{most_frames}
use Rattle.run_journal.specs.declared.acts.Entry.{Entry}
use Rattle.domain_links.specs.Turns.{Delivery}
use Rattle.script_lines.specs.declared.header.Header.{Header}
use Rattle.script_lines.specs.declared.header.HeaderLine.{HeaderLine}
use Rattle.script_lines.specs.declared.header.HeaderLine.TheVariants as awaits
use Rattle.script_words.specs.Tokens.{first_word}
use Rattle.frame_script.specs.Script.{is_passed_over, is_within, line_says, said_after}
use Rattle.script_lines.specs.Script.{◌>>=◌, Fault, arguments, mode, many_frames, Draft, AtVersion, AtHeader, AtNodes, InRound, Said, Goes, ListsAp, ListsSta, Adds, Asks, BeginsRound, EndsRound, after_suite, akm_of, header_line, mdid_of, psk_of, seeded, ssid_of, with_mdid, with_psk, with_ssid}
use Rattle.frame_script.specs.Live.{Heard, Plain, Draws, Turns, brings, own_says, plain, heard, turn_line}
use Rattle.frame_script.specs.declared.reader.Mode.{Mode}
use Rattle.frame_script.specs.declared.reader.Mode.TheVariants.{Replay, Live}
use Rattle.script_runs.specs.Script.{Rounds, rounds_with, with_round, with_waiting, with_turn, IsTurnAt, Means, Says, IsOf, Spells, says_in}
use Rattle.text_lines.specs.Texts.{TellsIn}
use Rattle.script_runs.proofs.Goings.{same_network, same_round}

-- no seed was told
abbrev pub IsEarly : Draft → Type 0
IsEarly AtVersion = Unit {0}
IsEarly (AtHeader awaits.Seed h) = Unit {0}
IsEarly draft = ⊥

abbrev IsLate : Draft → Type 0
IsLate draft = IsEarly draft → ⊥

is_early : (draft : Draft) → IsEarly draft ⊎ IsLate draft
is_early AtVersion = inl tt
is_early (AtHeader awaits.Seed h) = inl tt
is_early (AtHeader awaits.Ssid h) = inr (λ e. e)
is_early (AtHeader awaits.Psk h) = inr (λ e. e)
is_early (AtHeader awaits.Akm h) = inr (λ e. e)
is_early (AtHeader awaits.Mdid h) = inr (λ e. e)
is_early (AtNodes h) = inr (λ e. e)
is_early (InRound h count) = inr (λ e. e)

-- ---- what a line says behind it

-- of a line as in a replay
abbrev StaysLate : Draft → Result Said Fault → Type 0
StaysLate before (Ok said) = IsLate (said_after before said)
StaysLate before (Err fault) = Unit {0}

-- and whatever it says
abbrev HearsLate : Draft → Result Heard Fault → Type 0
HearsLate before (Ok (Plain said)) = IsLate (said_after before said)
HearsLate before (Ok Draws) = ⊥
HearsLate before (Ok Turns) = Unit {0}
HearsLate before (Err fault) = Unit {0}

abbrev OwnLate : Draft → Option (Result Heard Fault) → Type 0
OwnLate before None = Unit {0}
OwnLate before (Some own) = HearsLate before own

abbrev DueLate : Result Draft Fault → Type 0
DueLate (Ok next) = IsLate next
DueLate (Err fault) = Unit {0}

either_line : (before : Draft) (b : Bool) (x y : Result Said Fault) → StaysLate before x → StaysLate before y → StaysLate before (if b then x else y)
either_line before true x y p q = p
either_line before false x y p q = q

either_due : (b : Bool) (x y : Result Draft Fault) → DueLate x → DueLate y → DueLate (if b then x else y)
either_due true x y p q = p
either_due false x y p q = q

either_own : (before : Draft) (b : Bool) (x y : Option (Result Heard Fault)) → OwnLate before x → OwnLate before y → OwnLate before (if b then x else y)
either_own before true x y p q = p
either_own before false x y p q = q

-- a word of the header
next_due : {A : Type 0} (r : Result A Fault) (f : A → Draft) → ((a : A) → IsLate (f a)) → DueLate (r >>= (λ a. Ok (f a)))
next_due (Ok a) f late = late a
next_due (Err fault) f late = tt

goes_due : (before : Draft) (r : Result Draft Fault) → DueLate r → StaysLate before (r >>= (λ next. Ok (Goes next)))
goes_due before (Ok next) late = late
goes_due before (Err fault) late = tt

suite_late : (h : Header) (akm : Akm) → IsLate (after_suite h akm)
suite_late h FtPsk = λ e. e
suite_late h Psk = λ e. e
suite_late h PskSha256 = λ e. e

line_due : (awaited : HeaderLine) (h : Header) (word text : List ℕ) → IsLate (AtHeader awaited h) → DueLate (header_line awaited h word text)
unfolding header_line
line_due awaits.Seed h word text late = absurd (late tt)
line_due awaits.Ssid h word text late = either_due (bytes_eq word (codes "ssid")) _ _ (next_due (ssid_of text) (λ ssid. AtHeader awaits.Psk (with_ssid h ssid)) (λ ssid. λ e. e)) tt
line_due awaits.Psk h word text late = next_due (psk_of h.network.ssid word text) (λ psk. AtHeader awaits.Akm (with_psk h psk)) (λ psk. λ e. e)
line_due awaits.Akm h word text late = either_due (bytes_eq word (codes "akm")) _ _ (next_due (akm_of text) (λ akm. after_suite h akm) (suite_late h)) tt
line_due awaits.Mdid h word text late = either_due (bytes_eq word (codes "mdid")) _ _ (next_due (mdid_of text) (λ mdid. AtNodes (with_mdid h mdid)) (λ mdid. λ e. e)) tt

nodes_late : (h : Header) (r : Result Said Fault) → ((next : Draft) → r ≡ Ok (Goes next) → next ≡ AtNodes h) → StaysLate (AtNodes h) r
nodes_late h (Ok (Goes next)) same = λ e. subst IsEarly (same next refl) e
nodes_late h (Ok (ListsAp address id)) same = λ e. e
nodes_late h (Ok (ListsSta address psk)) same = λ e. e
nodes_late h (Ok (Adds extra)) same = λ e. e
nodes_late h (Ok (Asks event)) same = λ e. e
nodes_late h (Ok BeginsRound) same = λ e. e
nodes_late h (Ok EndsRound) same = λ e. e
nodes_late h (Err fault) same = tt

round_late : (h : Header) (count : ℕ) (r : Result Said Fault) → ((next : Draft) → r ≡ Ok (Goes next) → next ≡ InRound h count) → StaysLate (InRound h count) r
round_late h count (Ok (Goes next)) same = λ e. subst IsEarly (same next refl) e
round_late h count (Ok (ListsAp address id)) same = λ e. e
round_late h count (Ok (ListsSta address psk)) same = λ e. e
round_late h count (Ok (Adds extra)) same = λ e. e
round_late h count (Ok (Asks event)) same = λ e. e
round_late h count (Ok BeginsRound) same = λ e. e
round_late h count (Ok EndsRound) same = λ e. e
round_late h count (Err fault) same = tt

line_late : (before : Draft) (n : ℕ) (sizes line : List ℕ) → IsLate before → StaysLate before (line_says before n sizes line)
unfolding line_says
line_late AtVersion n sizes line late = absurd (late tt)
line_late (AtHeader awaited h) n sizes line late =
    either_line (AtHeader awaited h) (is_passed_over line) _ _ late (goes_due (AtHeader awaited h) _ (line_due awaited h (first_word line).0 (first_word line).1 late))
line_late (AtNodes h) n sizes line late = nodes_late h (line_says (AtNodes h) n sizes line) (λ next is. same_network h n sizes line next is)
line_late (InRound h count) n sizes line late = round_late h count (line_says (InRound h count) n sizes line) (λ next is. same_round h count n sizes line next is)

-- a line with a meaning of its own
turn_late : (before : Draft) (sizes : List ℕ) (b : Bool) → HearsLate before (if b then Ok Turns else Err many_frames)
turn_late before sizes true = tt
turn_late before sizes false = tt

word_late : (before : Draft) (b : Bool) → OwnLate before (if b then Some (Err mode) else None)
word_late before true = tt
word_late before false = tt

own_late : (before : Draft) (sizes line : List ℕ) → IsLate before → OwnLate before (own_says before sizes line)
unfolding own_says
own_late AtVersion sizes line late = absurd (late tt)
own_late (AtHeader awaits.Seed h) sizes line late = absurd (late tt)
own_late (AtHeader awaits.Ssid h) sizes line late = tt
own_late (AtHeader awaits.Psk h) sizes line late = tt
own_late (AtHeader awaits.Akm h) sizes line late = tt
own_late (AtHeader awaits.Mdid h) sizes line late = tt
own_late (AtNodes h) sizes line late =
    either_own (AtNodes h) (bytes_eq line (codes "turn")) (Some (turn_line sizes)) _ (turn_late (AtNodes h) sizes (nat_le (length sizes) most_frames))
    (either_own (AtNodes h) (bytes_eq (first_word line).0 (codes "turn")) (Some (Err arguments)) _ tt (word_late (AtNodes h) (brings (first_word line).0)))
own_late (InRound h count) sizes line late = word_late (InRound h count) (brings (first_word line).0)

plain_late : (before : Draft) (r : Result Said Fault) → StaysLate before r → HearsLate before (plain r)
plain_late before (Ok said) late = late
plain_late before (Err fault) late = tt

heard_late : (before : Draft) (own : Option (Result Heard Fault)) (r : Result Said Fault) → OwnLate before own → StaysLate before r → HearsLate before (heard own r)
heard_late before None r own line = plain_late before r line
heard_late before (Some x) r own line = own

says_late : (m : Mode) (before : Draft) (n : ℕ) (sizes line : List ℕ) → IsLate before → HearsLate before (says_in m before n sizes line)
says_late Replay before n sizes line late = plain_late before (line_says before n sizes line) (line_late before n sizes line late)
says_late Live before n sizes line late = heard_late before (own_says before sizes line) (line_says before n sizes line) (own_late before sizes line late) (line_late before n sizes line late)

-- ---- what the lines before have told of the outside

-- a line that has its meaning in a replay tells nothing of it
record IsInside (earlier rounds : Rounds) : Type 0 where
  drawn : rounds.drawn ≡ earlier.drawn
  turns : rounds.turns ≡ earlier.turns

either_inside : (earlier : Rounds) (b : Bool) (x y : Rounds) → IsInside earlier x → IsInside earlier y → IsInside earlier (if b then x else y)
either_inside earlier true x y p q = p
either_inside earlier false x y p q = q

plain_inside : (before : Draft) (earlier : Rounds) (said : Said) → IsInside earlier (rounds_with before earlier said)
plain_inside before earlier (Goes next) = record { drawn = refl; turns = refl }
plain_inside before earlier (ListsAp address id) = record { drawn = refl; turns = refl }
plain_inside before earlier (ListsSta address psk) = record { drawn = refl; turns = refl }
plain_inside before earlier (Adds extra) = record { drawn = refl; turns = refl }
plain_inside before earlier (Asks event) =
    let is = either_inside earlier (is_within before) (with_waiting earlier (earlier.waiting ++ event ∷ [])) (with_round earlier (event ∷ [])) (record { drawn = refl; turns = refl }) (record { drawn = refl; turns = refl }) in
    record { drawn = is.drawn; turns = is.turns }
plain_inside before earlier BeginsRound = record { drawn = refl; turns = refl }
plain_inside before earlier EndsRound = record { drawn = refl; turns = refl }

turn_outside : (before : Draft) (given : List Delivery) → IsTurnAt before given → IsLate before
turn_outside AtVersion given at early = at
turn_outside (AtHeader awaited h) given at early = at
turn_outside (AtNodes h) given at early = early
turn_outside (InRound h count) given at early = at

-- a seed that is drawn was told
no_draws : (r : Result Said Fault) → plain r ≡ Ok Draws → ⊥
no_draws (Ok said) e = absurd cc
no_draws (Err fault) e = absurd cc

seed_told : (m : Mode) (before : Draft) (n : ℕ) (sizes line seed : List ℕ) → says_in m before n sizes line ≡ Ok Draws → IsLate (seeded before seed)
unfolding own_says
seed_told Replay AtVersion n sizes line seed says early = no_draws (line_says AtVersion n sizes line) says
seed_told Live AtVersion n sizes line seed says early = no_draws (line_says AtVersion n sizes line) says
seed_told m (AtHeader awaited h) n sizes line seed says early = early
seed_told m (AtNodes h) n sizes line seed says early = early
seed_told m (InRound h count) n sizes line seed says early = early

-- where no seed was told, none was before, and none drawn
record WasEarly (before : Draft) (earlier rounds : Rounds) : Type 0 where
  early : IsEarly before
  drawn : rounds.drawn ≡ earlier.drawn

early_before : (m : Mode) (before draft : Draft) (earlier rounds : Rounds) (n : ℕ) (sizes line : List ℕ) (said : Heard) → says_in m before n sizes line ≡ Ok said → Means said before earlier draft rounds → IsEarly draft → WasEarly before earlier rounds
early_before m before draft earlier rounds n sizes line (Plain said) says means early = record {
  early = elim (is_early before) [
    | inl early_ ↦ early_
    | inr late ↦ absurd (subst (HearsLate before) says (says_late m before n sizes line late) (subst IsEarly means.0 early))
  ];
  drawn = ap (λ (r : Rounds). r.drawn) means.1 ∙ (plain_inside before earlier said).drawn;
}
early_before m before draft earlier rounds n sizes line Draws says means early = absurd (seed_told m before n sizes line means.0 says (subst IsEarly means.1.0 early))
early_before m before draft earlier rounds n sizes line Turns says means early =
    absurd (turn_outside before means.0 means.1.0 (subst IsEarly means.1.1.0 early))

undrawn : (m : Mode) (j : List Entry) (lines : List (List ℕ)) (draft : Draft) (rounds : Rounds) → Spells m j lines draft rounds → IsEarly draft → rounds.drawn ≡ None
unfolding TellsIn
undrawn m j [] draft rounds p early = ap (λ (r : Rounds). r.drawn) p.1
undrawn m j (line ∷ lines) draft rounds ((before, earlier), (p, says)) early =
    let was = early_before m before draft earlier rounds _ _ line says.said says.says says.means early in
    was.drawn ∙ undrawn m j lines before earlier p was.early

-- a seed is drawn where none was
pub draws_first : (m : Mode) (j : List Entry) (lines : List (List ℕ)) (before : Draft) (earlier : Rounds) (n : ℕ) (sizes line : List ℕ) → Spells m j lines before earlier → says_in m before n sizes line ≡ Ok Draws → earlier.drawn ≡ None
draws_first m j lines before earlier n sizes line p says =
    undrawn m j lines before earlier p (elim (is_early before) [
      | inl early_ ↦ early_
      | inr late ↦ absurd (subst (HearsLate before) says (says_late m before n sizes line late))
    ])

-- ---- what came from outside by the lines before is of the same seed and turns

means_of : (seed : Option (List ℕ)) (turns : List (List Delivery)) (said : Heard) (before draft : Draft) (earlier rounds : Rounds) → (said ≡ Draws → earlier.drawn ≡ None) → Means said before earlier draft rounds → IsOf seed turns rounds → IsOf seed turns earlier
means_of seed turns (Plain said) before draft earlier rounds first means told =
    let inside : IsInside earlier rounds = subst (λ (r : Rounds). IsInside earlier r) (sym means.1) (plain_inside before earlier said) in
    record {
      drawn = elim told.drawn [
        | inl none ↦ inl (sym inside.drawn ∙ none)
        | inr same ↦ inr (sym inside.drawn ∙ same)
      ];
      later = told.later;
      first = ap (λ (t : List (List Delivery)). told.later ++ t) (sym inside.turns) ∙ told.first;
    }
means_of seed turns Draws before draft earlier rounds first means told = record {
  drawn = inl (first refl);
  later = told.later;
  first = ap (λ (r : Rounds). told.later ++ r.turns) (sym means.1.1) ∙ told.first;
}
means_of seed turns Turns before draft earlier rounds first means told =
    let here : rounds ≡ with_turn earlier means.0 = means.1.1.1 in
    let drawn : rounds.drawn ≡ earlier.drawn = ap (λ (r : Rounds). r.drawn) here in
    record {
      drawn = elim told.drawn [
        | inl none ↦ inl (sym drawn ∙ none)
        | inr same ↦ inr (sym drawn ∙ same)
      ];
      later = told.later ++ means.0 ∷ [];
      first = append_assoc told.later (means.0 ∷ []) earlier.turns ∙ ap (λ (r : Rounds). told.later ++ r.turns) (sym here) ∙ told.first;
    }

pub of_before : (m : Mode) (j : List Entry) (seed : Option (List ℕ)) (turns : List (List Delivery)) (lines : List (List ℕ)) (line : List ℕ) (before draft : Draft) (earlier rounds : Rounds)
    → Spells m j lines before earlier → Says m j line before earlier draft rounds → IsOf seed turns rounds → IsOf seed turns earlier
of_before m j seed turns lines line before draft earlier rounds p says told =
    means_of seed turns says.said before draft earlier rounds (λ draws. draws_first m j lines before earlier _ _ line p (says.says ∙ ap Ok draws)) says.means told

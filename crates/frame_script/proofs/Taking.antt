-- A line that is taken, by its exits.
use Rattle.std.proofs.Common.{◌≡◌, ◌≢◌, ℕ, ◌≤◌, Bool, true, false, if◌then◌else◌, List, length, Result, Ok, Err, OnOk, refl, sym, ap, subst, ◌∙◌}
use Rattle.std.proofs.lemmas.Bool.{false≢true, le-leb}
use Rattle.run_journal.specs.declared.acts.Entry.{Entry}
use Rattle.run_journal.specs.Limits.{most_frames}
use Rattle.script_lines.specs.declared.header.Due.{Due}
use Rattle.script_lines.specs.declared.header.Due.TheVariants as dues
use Rattle.script_lines.specs.declared.header.Header.{Header}
use Rattle.script_lines.specs.Due.{draft_of}
use Rattle.script_lines.specs.declared.header.HeaderLine.{HeaderLine}
use Rattle.script_lines.specs.declared.refusal.Untaken.{Untaken}
use Rattle.script_lines.specs.declared.refusal.Untaken.TheVariants as untaken
use Rattle.script_lines.specs.declared.step.Step.{Step}
use Rattle.script_lines.specs.declared.step.Step.TheVariants as step
use Rattle.run_journal.specs.declared.domain.Extra.TheVariants.{Mfp}
use Rattle.run_journal.specs.Listing.{with_extra}
use Rattle.frame_script.specs.Script.{body_line, early_protection, inner_line, is_passed_over, is_border, border_line, is_mfp, mfp_line, is_within, line_says, listing, said_after, rounds_after}
use Rattle.script_lines.specs.Script.{◌>>=◌, Fault, word_, many_frames, Draft, AtVersion, AtHeader, AtNodes, InRound, Said, Goes, ListsAp, ListsSta, Adds, Asks, BeginsRound, EndsRound, header_line}
use Rattle.frame_script.specs.Headers.{Reading, HasSeenBy, TakesStep, HasRead, ReadsLine}
use Rattle.script_lines.specs.Headers.{CanAddExtra, IsHeaderStep}
use Rattle.frame_script.specs.Sentences.{IsHead, Takes, rounds_with, seeing, words_say}
use Rattle.script_lines.specs.Sentences.{TakesHeader}
use Rattle.script_words.specs.Tokens.{first_word}

pub went : (old new : Draft) (rounds : ℕ) (sizes : List ℕ) (meant : Result Said Fault) → meant ≡ Ok (Goes new) → IsHeaderStep old new → Takes old new rounds sizes meant (Ok step.Nothing)
went old new rounds sizes meant e h = (Goes new, (e, (refl, (e, h))))

-- a line that begins a round, and one that ends it
pub begins : (h : Header) (rounds : ℕ) (sizes : List ℕ) → length sizes ≤ most_frames → Takes (AtNodes h) (InRound h 0) rounds sizes (border_line (AtNodes h) sizes) (Ok step.Round)
begins h rounds sizes few =
    let says : border_line (AtNodes h) sizes ≡ Ok BeginsRound = ap (λ b. if b then Ok BeginsRound else Err many_frames) (le-leb (length sizes) most_frames few) in
    (BeginsRound, (says, (refl, (h, (says, (refl, few))))))

pub ends : (h : Header) (count rounds : ℕ) (sizes : List ℕ) → Takes (InRound h count) (AtNodes h) rounds sizes (border_line (InRound h count) sizes) (Ok step.End)
ends h count rounds sizes = (EndsRound, (refl, (refl, (h, (count, (refl, refl))))))

-- the line `mfp`
pub protects : (h : Header) (new : Draft) (rounds : ℕ) (sizes : List ℕ) (s : Step) → early_protection h.network rounds ≡ Ok (Adds Mfp) → CanAddExtra h.network × (rounds ≡ 0) → s ≡ step.Extra Mfp → new ≡ listing (AtNodes h) (λ d. with_extra d Mfp)
    → Takes (AtNodes h) new rounds sizes (early_protection h.network rounds) (Ok s)
protects h new rounds sizes s says can is added =
    subst (λ (x : Step). Takes (AtNodes h) new rounds sizes (early_protection h.network rounds) (Ok x)) (sym is) (Adds Mfp, (says, (added, (h, (says, (refl, can))))))

-- it stands after the header, outside rounds
pub no_mfp : (d : Due) (rounds : ℕ) → ((h : Header) → d ≢ dues.Nodes h) → mfp_line (draft_of d) rounds ≡ Err word_
no_mfp dues.Version rounds n = refl
no_mfp (dues.Header awaited h) rounds n = refl
no_mfp (dues.Nodes h) rounds n = absurd (n h refl)
no_mfp (dues.Round h count) rounds n = refl

-- a header with a line due is not whole
was_due : (awaited : HeaderLine) (h e : Header) → AtHeader awaited h ≢ AtNodes e
was_due awaited h e is = absurd cc

-- a line of the header
pub header : (awaited : HeaderLine) (h : Header) (new : Draft) (rounds : ℕ) (sizes word text : List ℕ) (answer : Result Step Untaken) → TakesHeader awaited h new word text answer
    → Takes (AtHeader awaited h) new rounds sizes (header_line awaited h word text >>= (λ next. Ok (Goes next))) answer
header awaited h new rounds sizes word text (Ok step.Nothing) t = went (AtHeader awaited h) new rounds sizes _ (rw t.0 refl) t.1
header awaited h new rounds sizes word text (Ok step.Network) t =
    let goes : (header_line awaited h word text >>= (λ next. Ok (Goes next))) ≡ Ok (Goes new) = rw t.1.0 refl in
    (Goes new, (goes, (refl, (t.0, (goes, (t.1.1.0, (t.1.1.1, was_due awaited h)))))))
header awaited h new rounds sizes word text (Ok (step.Ap address r0kh_id)) t = absurd t
header awaited h new rounds sizes word text (Ok (step.Sta address psk)) t = absurd t
header awaited h new rounds sizes word text (Ok (step.Extra extra)) t = absurd t
header awaited h new rounds sizes word text (Ok (step.Event event)) t = absurd t
header awaited h new rounds sizes word text (Ok step.Round) t = absurd t
header awaited h new rounds sizes word text (Ok step.End) t = absurd t
header awaited h new rounds sizes word text (Ok step.Draw) t = absurd t
header awaited h new rounds sizes word text (Ok step.Turn) t = absurd t
header awaited h new rounds sizes word text (Err (untaken.Refused refusal)) t = (rw t.0 refl, t.1)
header awaited h new rounds sizes word text (Err untaken.NoMemory) t = t

-- where one is due, what was kept is that header
pub is_head : (d : Due) → IsHead d → ((awaited : HeaderLine) (h : Header) → d ≢ dues.Header awaited h) → ⊥
is_head dues.Version head n = head
is_head (dues.Header awaited h) head n = n awaited h refl
is_head (dues.Nodes h) head n = head
is_head (dues.Round h count) head n = head

-- a line that is passed over
pub passed : (draft : Draft) (rounds : ℕ) (sizes line : List ℕ) → draft ≢ AtVersion → is_passed_over line ≡ true → Takes draft draft rounds sizes (line_says draft rounds sizes line) (Ok step.Nothing)
unfolding line_says
passed AtVersion rounds sizes line later e = absurd (later refl)
passed (AtHeader awaited h) rounds sizes line later e = went (AtHeader awaited h) (AtHeader awaited h) rounds sizes _ (rw e refl) tt
passed (AtNodes h) rounds sizes line later e = went (AtNodes h) (AtNodes h) rounds sizes _ (rw e refl) refl
passed (InRound h count) rounds sizes line later e = went (InRound h count) (InRound h count) rounds sizes _ (rw e refl) refl

-- the second and the third of three
second : (p b : Bool) (x y z : Result Said Fault) → p ≡ false → b ≡ true → (if p then x else if b then y else z) ≡ y
second true b x y z e f = absurd (false≢true (sym e))
second false true x y z e f = refl
second false false x y z e f = absurd (false≢true f)

third : (p b : Bool) (x y z : Result Said Fault) → p ≡ false → b ≡ false → (if p then x else if b then y else z) ≡ z
third true b x y z e f = absurd (false≢true (sym e))
third false true x y z e f = absurd (false≢true (sym f))
third false false x y z e f = refl

fourth : (p b m : Bool) (x y z w : Result Said Fault) → p ≡ false → b ≡ false → m ≡ true → (if p then x else if b then y else if m then z else w) ≡ z
fourth true b m x y z w e f g = absurd (false≢true (sym e))
fourth false true m x y z w e f g = absurd (false≢true (sym f))
fourth false false true x y z w e f g = refl
fourth false false false x y z w e f g = absurd (false≢true g)

last : (p b m : Bool) (x y z w : Result Said Fault) → p ≡ false → b ≡ false → m ≡ false → (if p then x else if b then y else if m then z else w) ≡ w
last true b m x y z w e f g = absurd (false≢true (sym e))
last false true m x y z w e f g = absurd (false≢true (sym f))
last false false true x y z w e f g = absurd (false≢true (sym g))
last false false false x y z w e f g = refl

-- one that begins or ends a round
by_border : (draft : Draft) (rounds : ℕ) (sizes line : List ℕ) → is_passed_over line ≡ false → is_border draft line ≡ true → line_says draft rounds sizes line ≡ border_line draft sizes
unfolding line_says
by_border AtVersion rounds sizes line e b = absurd (false≢true b)
by_border (AtHeader awaited h) rounds sizes line e b = absurd (false≢true b)
by_border (AtNodes h) rounds sizes line e b = second (is_passed_over line) (is_border (AtNodes h) line) _ _ _ e b
by_border (InRound h count) rounds sizes line e b = second (is_passed_over line) (is_border (InRound h count) line) _ _ _ e b

pub bordered : (draft new : Draft) (rounds : ℕ) (sizes line : List ℕ) (answer : Result Step Untaken) → is_passed_over line ≡ false → is_border draft line ≡ true
    → ((r : ℕ) → Takes draft new r sizes (border_line draft sizes) answer) → Takes draft new rounds sizes (line_says draft rounds sizes line) answer
bordered draft new rounds sizes line answer e b t =
    subst (λ (meant : Result Said Fault). Takes draft new rounds sizes meant answer) (sym (by_border draft rounds sizes line e b)) (t rounds)

-- `mfp`
by_mfp : (draft : Draft) (rounds : ℕ) (sizes line : List ℕ) → is_passed_over line ≡ false → is_border draft line ≡ false → is_mfp draft line ≡ true → line_says draft rounds sizes line ≡ mfp_line draft rounds
unfolding line_says
by_mfp AtVersion rounds sizes line e b m = absurd (false≢true m)
by_mfp (AtHeader awaited h) rounds sizes line e b m = absurd (false≢true m)
by_mfp (AtNodes h) rounds sizes line e b m = fourth (is_passed_over line) (is_border (AtNodes h) line) (is_mfp (AtNodes h) line) _ _ _ _ e b m
by_mfp (InRound h count) rounds sizes line e b m = absurd (false≢true m)

pub protected : (draft new : Draft) (rounds : ℕ) (sizes line : List ℕ) (answer : Result Step Untaken) → is_passed_over line ≡ false → is_border draft line ≡ false → is_mfp draft line ≡ true
    → ((s : List ℕ) → Takes draft new rounds s (mfp_line draft rounds) answer) → Takes draft new rounds sizes (line_says draft rounds sizes line) answer
protected draft new rounds sizes line answer e b m t =
    subst (λ (meant : Result Said Fault). Takes draft new rounds sizes meant answer) (sym (by_mfp draft rounds sizes line e b m)) (t sizes)

-- and one that is neither
by_words : (draft : Draft) (rounds : ℕ) (sizes line word text : List ℕ) → draft ≢ AtVersion → is_passed_over line ≡ false → is_border draft line ≡ false → is_mfp draft line ≡ false → first_word line ≡ (word, text)
    → line_says draft rounds sizes line ≡ words_say draft rounds sizes word text
unfolding line_says
by_words AtVersion rounds sizes line word text later e b m is = absurd (later refl)
by_words (AtHeader awaited h) rounds sizes line word text later e b m is = rw (e, is) refl
by_words (AtNodes h) rounds sizes line word text later e b m is =
    last (is_passed_over line) (is_border (AtNodes h) line) (is_mfp (AtNodes h) line) _ _ _ _ e b m ∙ ap (λ (w : List ℕ × List ℕ). body_line h rounds sizes w.0 w.1) is
by_words (InRound h count) rounds sizes line word text later e b m is =
    third (is_passed_over line) (is_border (InRound h count) line) _ _ _ e b ∙ ap (λ (w : List ℕ × List ℕ). inner_line h.network count sizes w.0 w.1) is

pub worded : (draft new : Draft) (rounds : ℕ) (sizes line word text : List ℕ) (answer : Result Step Untaken) → draft ≢ AtVersion → is_passed_over line ≡ false → is_border draft line ≡ false → is_mfp draft line ≡ false → first_word line ≡ (word, text)
    → Takes draft new rounds sizes (words_say draft rounds sizes word text) answer → Takes draft new rounds sizes (line_says draft rounds sizes line) answer
worded draft new rounds sizes line word text answer later e b m is t =
    let same = by_words draft rounds sizes line word text later e b m is in
    subst (λ (meant : Result Said Fault). Takes draft new rounds sizes meant answer) (sym same) t

pub ruleset later = (passed, bordered, protected, worded)

-- ---- what the reader keeps

told : (old new : Reading) (sizes line : List ℕ) (s : Step) (said other : Said) → line_says old.draft old.rounds sizes line ≡ Ok said → new.draft ≡ said_after old.draft said
    → TakesStep old.draft new.draft old.rounds sizes (line_says old.draft old.rounds sizes line) s → line_says old.draft old.rounds sizes line ≡ Ok other → new.rounds ≡ rounds_after old.draft old.rounds other
    → HasRead old new sizes line s
told old new sizes line s said other says draft takes means rounds =
    let same : other ≡ said = cc (means, says) in
    (said, (says, (draft, (rounds ∙ ap (λ (x : Said). rounds_after old.draft old.rounds x) same, takes))))

pub answered : (old new : Reading) (sizes line : List ℕ) (answer : Result Step Untaken) → Takes old.draft new.draft old.rounds sizes (line_says old.draft old.rounds sizes line) answer
    → new.rounds ≡ rounds_with (is_within old.draft) old.rounds answer → ReadsLine old new sizes line answer
answered old new sizes line (Ok step.Nothing) (said, (says, (draft, takes))) rounds = told old new sizes line step.Nothing said (Goes new.draft) says draft takes takes.0 rounds
answered old new sizes line (Ok step.Network) (said, (says, (draft, takes))) rounds = told old new sizes line step.Network said (Goes new.draft) says draft takes takes.1.0 rounds
answered old new sizes line (Ok (step.Ap a id)) (said, (says, (draft, takes))) rounds = told old new sizes line (step.Ap a id) said (ListsAp a id) says draft takes takes.1.0 rounds
answered old new sizes line (Ok (step.Sta a psk)) (said, (says, (draft, takes))) rounds = told old new sizes line (step.Sta a psk) said (ListsSta a psk) says draft takes takes.1.0 rounds
answered old new sizes line (Ok (step.Extra extra)) (said, (says, (draft, takes))) rounds = told old new sizes line (step.Extra extra) said (Adds extra) says draft takes takes.1.0 rounds
answered old new sizes line (Ok (step.Event e)) (said, (says, (draft, takes))) rounds = told old new sizes line (step.Event e) said (Asks e) says draft takes takes.0 rounds
answered old new sizes line (Ok step.Round) (said, (says, (draft, takes))) rounds = told old new sizes line step.Round said BeginsRound says draft takes takes.1.0 rounds
answered old new sizes line (Ok step.End) (said, (says, (draft, takes))) rounds = told old new sizes line step.End said EndsRound says draft takes takes.1.1.0 rounds
answered old new sizes line (Ok step.Draw) (said, (says, (draft, takes))) rounds = absurd takes
answered old new sizes line (Ok step.Turn) (said, (says, (draft, takes))) rounds = absurd takes
answered old new sizes line (Err (untaken.Refused refusal)) t rounds = (t.0, (t.1, rounds))
answered old new sizes line (Err untaken.NoMemory) t rounds = (t, rounds)

seen_by : (draft : Draft) (r : Reading) (j : List Entry) → HasSeenBy draft (seeing r.seen r.sizes) j → HasSeenBy draft r j
seen_by AtVersion r j by = record { seen = by.seen; sizes = by.sizes }
seen_by (AtHeader awaited h) r j by = record { seen = by.seen; sizes = by.sizes }
seen_by (AtNodes h) r j by = record { seen = by.seen; sizes = by.sizes }
seen_by (InRound h count) r j by = record { later = by.later; earlier = by.earlier; is = by.is; seen = by.seen; sizes = by.sizes }

pub seen_on : (draft : Draft) (r : Reading) (j : List Entry) (answer : Result Step Untaken) → HasSeenBy draft (seeing r.seen r.sizes) j → OnOk answer (HasSeenBy draft r j)
seen_on draft r j (Ok s) by = seen_by draft r j by
seen_on draft r j (Err untaken) by = tt

-- A line of a script of a live run that is taken, by its exits.
use Rattle.std.proofs.Common.{◌≡◌, ℕ, ◌≤◌, nat_le, Bool, true, false, if◌then◌else◌, List, length, bytes_eq, codes, Option, None, Some, Result, Ok, Err, refl, ap, subst, ◌∙◌}
use Rattle.std.proofs.lemmas.Bool.{leb-true}
use Rattle.script_lines.specs.declared.header.Header.{Header}
use Rattle.script_lines.specs.declared.header.HeaderLine.TheVariants as due
use Rattle.frame_script.specs.declared.reader.Mode.{Mode}
use Rattle.frame_script.specs.declared.reader.Mode.TheVariants.{Replay, Live}
use Rattle.script_lines.specs.declared.step.Step.{Step}
use Rattle.script_lines.specs.declared.step.Step.TheVariants as step
use Rattle.script_lines.specs.declared.refusal.Refusal.{Refusal}
use Rattle.script_lines.specs.declared.refusal.Untaken.{Untaken}
use Rattle.script_lines.specs.declared.refusal.Untaken.TheVariants as untaken
use Rattle.script_words.specs.Tokens.{first_word}
use Rattle.frame_script.specs.Script.{is_within, line_says}
use Rattle.script_lines.specs.Script.{Fault, arguments, mode, many_frames, Draft, IsSeedDue, AtVersion, AtHeader, AtNodes, InRound}
use Rattle.frame_script.specs.Live.{Heard, Draws, Turns, brings, own_word, turn_line, own_says, plain, heard, live_says}
use Rattle.script_lines.specs.Refusals.{fault_of}
use Rattle.frame_script.specs.Headers.{Reading, HearsLine, ReadsIn}
use Rattle.frame_script.specs.Sentences.{Takes, TakesHeard, TakesBy, rounds_with}
use Rattle.frame_script.proofs.Taking.{answered}

-- ---- where a line has a meaning of its own

-- a line that brings a frame is refused
no_word : (b : Bool) (said : Heard) → (if b then Some (Err mode) else None) ≡ Some (Ok said) → ⊥
no_word true said e = absurd cc
no_word false said e = absurd cc

-- the draw of the seed is no turn
abbrev where_drawn : Bool → Option (Result Heard Fault)
where_drawn b = if b then Some (Ok Draws) else None

no_turn : (b : Bool) → where_drawn b ≡ Some (Ok Turns) → ⊥
no_turn true e = absurd cc
no_turn false e = absurd cc

-- and a turn draws no seed
no_draw : (b : Bool) → (if b then Ok Turns else Err many_frames) ≡ Ok Draws → ⊥
no_draw true e = absurd cc
no_draw false e = absurd cc

has_room : (b : Bool) → (if b then Ok Turns else Err many_frames) ≡ Ok Turns → b ≡ true
has_room true e = refl
has_room false e = absurd cc

no_line : (b c : Bool) (sizes word : List ℕ) → (if b then Some (turn_line sizes) else if c then Some (Err arguments) else own_word word) ≡ Some (Ok Draws) → ⊥
no_line true c sizes word e =
    let is : turn_line sizes ≡ Ok Draws = cc in
    no_draw (nat_le (length sizes) 65535) is
no_line false true sizes word e = absurd cc
no_line false false sizes word e = no_word (brings word) Draws e

room_line : (b c : Bool) (sizes word : List ℕ) → (if b then Some (turn_line sizes) else if c then Some (Err arguments) else own_word word) ≡ Some (Ok Turns) → length sizes ≤ 65535
room_line true c sizes word e =
    let is : turn_line sizes ≡ Ok Turns = cc in
    leb-true (length sizes) 65535 (has_room (nat_le (length sizes) 65535) is)
room_line false true sizes word e = absurd cc
room_line false false sizes word e = absurd (no_word (brings word) Turns e)

-- where the seed is drawn it is due
draws_at : (draft : Draft) (sizes line : List ℕ) → own_says draft sizes line ≡ Some (Ok Draws) → IsSeedDue draft
unfolding own_says
draws_at AtVersion sizes line e = absurd cc
draws_at (AtHeader due.Seed h) sizes line e = tt
draws_at (AtHeader due.Ssid h) sizes line e = absurd cc
draws_at (AtHeader due.Psk h) sizes line e = absurd cc
draws_at (AtHeader due.Akm h) sizes line e = absurd cc
draws_at (AtHeader due.Mdid h) sizes line e = absurd cc
draws_at (AtNodes h) sizes line e = absurd (no_line (bytes_eq line (codes "turn")) (bytes_eq (first_word line).0 (codes "turn")) sizes (first_word line).0 e)
draws_at (InRound h count) sizes line e = absurd (no_word (brings (first_word line).0) Draws e)

-- a turn stands behind the header, outside rounds
turns_at : (draft : Draft) (sizes line : List ℕ) → own_says draft sizes line ≡ Some (Ok Turns) → (h : Header) × ((draft ≡ AtNodes h) × (length sizes ≤ 65535))
unfolding own_says
turns_at AtVersion sizes line e = absurd cc
turns_at (AtHeader due.Seed h) sizes line e = absurd (no_turn (bytes_eq line (codes "seed draw")) e)
turns_at (AtHeader due.Ssid h) sizes line e = absurd cc
turns_at (AtHeader due.Psk h) sizes line e = absurd cc
turns_at (AtHeader due.Akm h) sizes line e = absurd cc
turns_at (AtHeader due.Mdid h) sizes line e = absurd cc
turns_at (AtNodes h) sizes line e = (h, (refl, room_line (bytes_eq line (codes "turn")) (bytes_eq (first_word line).0 (codes "turn")) sizes (first_word line).0 e))
turns_at (InRound h count) sizes line e = absurd (no_word (brings (first_word line).0) Turns e)

-- ---- a line that is taken

says_so : (draft : Draft) (rounds : ℕ) (sizes line : List ℕ) (own : Option (Result Heard Fault)) → own_says draft sizes line ≡ own → live_says draft rounds sizes line ≡ heard own (line_says draft rounds sizes line)
says_so draft rounds sizes line own e = ap (λ (x : Option (Result Heard Fault)). heard x (line_says draft rounds sizes line)) e

pub drawn : (draft : Draft) (rounds : ℕ) (sizes line : List ℕ) → own_says draft sizes line ≡ Some (Ok Draws) → TakesHeard draft draft rounds sizes line (Ok step.Draw)
drawn draft rounds sizes line e = (says_so draft rounds sizes line (Some (Ok Draws)) e, (draws_at draft sizes line e, refl))

pub turned : (draft : Draft) (rounds : ℕ) (sizes line : List ℕ) → own_says draft sizes line ≡ Some (Ok Turns) → TakesHeard draft draft rounds sizes line (Ok step.Turn)
turned draft rounds sizes line e =
    let (h, (at, few)) = turns_at draft sizes line e in
    (h, (says_so draft rounds sizes line (Some (Ok Turns)) e, (at, (few, refl))))

pub refused : (draft : Draft) (rounds : ℕ) (sizes line : List ℕ) (refusal : Refusal) → own_says draft sizes line ≡ Some (Err (fault_of refusal)) → TakesHeard draft draft rounds sizes line (Err (untaken.Refused refusal))
refused draft rounds sizes line refusal e = (says_so draft rounds sizes line (Some (Err (fault_of refusal))) e, refl)

-- one that says what it says in a replay
pub plainly : (draft new : Draft) (rounds : ℕ) (sizes line : List ℕ) (answer : Result Step Untaken) → own_says draft sizes line ≡ None → Takes draft new rounds sizes (line_says draft rounds sizes line) answer
    → TakesHeard draft new rounds sizes line answer
plainly draft new rounds sizes line (Ok step.Nothing) e t = (says_so draft rounds sizes line None e, t)
plainly draft new rounds sizes line (Ok step.Draw) e (said, (says, (is, takes))) = absurd takes
plainly draft new rounds sizes line (Ok step.Network) e t = (says_so draft rounds sizes line None e, t)
plainly draft new rounds sizes line (Ok (step.Ap a id)) e t = (says_so draft rounds sizes line None e, t)
plainly draft new rounds sizes line (Ok (step.Sta a psk)) e t = (says_so draft rounds sizes line None e, t)
plainly draft new rounds sizes line (Ok (step.Extra extra)) e t = (says_so draft rounds sizes line None e, t)
plainly draft new rounds sizes line (Ok (step.Event event)) e t = (says_so draft rounds sizes line None e, t)
plainly draft new rounds sizes line (Ok step.Round) e t = (says_so draft rounds sizes line None e, t)
plainly draft new rounds sizes line (Ok step.End) e t = (says_so draft rounds sizes line None e, t)
plainly draft new rounds sizes line (Ok step.Turn) e (said, (says, (is, takes))) = absurd takes
plainly draft new rounds sizes line (Err (untaken.Refused refusal)) e t = (says_so draft rounds sizes line None e ∙ ap plain t.0, t.1)
plainly draft new rounds sizes line (Err untaken.NoMemory) e t = t

pub ruleset own = (drawn, turned, refused, plainly)

-- ---- what the reader keeps

hears : (old new : Reading) (sizes line : List ℕ) (answer : Result Step Untaken) → TakesHeard old.draft new.draft old.rounds sizes line answer → new.rounds ≡ rounds_with (is_within old.draft) old.rounds answer → HearsLine old new sizes line answer
hears old new sizes line (Ok step.Nothing) t rounds = (t.0, answered old new sizes line (Ok step.Nothing) t.1 rounds)
hears old new sizes line (Ok step.Draw) t rounds = (t.0, (t.1.0, (t.1.1, rounds)))
hears old new sizes line (Ok step.Network) t rounds = (t.0, answered old new sizes line (Ok step.Network) t.1 rounds)
hears old new sizes line (Ok (step.Ap a id)) t rounds = (t.0, answered old new sizes line (Ok (step.Ap a id)) t.1 rounds)
hears old new sizes line (Ok (step.Sta a psk)) t rounds = (t.0, answered old new sizes line (Ok (step.Sta a psk)) t.1 rounds)
hears old new sizes line (Ok (step.Extra extra)) t rounds = (t.0, answered old new sizes line (Ok (step.Extra extra)) t.1 rounds)
hears old new sizes line (Ok (step.Event event)) t rounds = (t.0, answered old new sizes line (Ok (step.Event event)) t.1 rounds)
hears old new sizes line (Ok step.Round) t rounds = (t.0, answered old new sizes line (Ok step.Round) t.1 rounds)
hears old new sizes line (Ok step.End) t rounds = (t.0, answered old new sizes line (Ok step.End) t.1 rounds)
hears old new sizes line (Ok step.Turn) (h, (says, (at, (few, same)))) rounds = (h, (says, (at, (few, (same, rounds)))))
hears old new sizes line (Err (untaken.Refused refusal)) t rounds = (t.0, (t.1, rounds))
hears old new sizes line (Err untaken.NoMemory) t rounds = (t, rounds)

pub reads : (mode : Mode) (old new : Reading) (seen sizes line : List ℕ) (answer : Result Step Untaken) → TakesBy mode old.draft new.draft old.rounds seen line answer → new.rounds ≡ rounds_with (is_within old.draft) old.rounds answer → seen ≡ sizes
    → ReadsIn mode old new sizes line answer
reads Replay old new seen sizes line answer takes rounds same =
    answered old new sizes line answer (subst (λ (x : List ℕ). Takes old.draft new.draft old.rounds x (line_says old.draft old.rounds x line) answer) same takes) rounds
reads Live old new seen sizes line answer takes rounds same =
    hears old new sizes line answer (subst (λ (x : List ℕ). TakesHeard old.draft new.draft old.rounds x line answer) same takes) rounds

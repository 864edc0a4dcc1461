-- The frames that a journal has sent in the rounds up to some number.
use Rattle.std.proofs.Common.{◌≡◌, ℕ, ◌<◌, ◌≤◌, Bool, true, false, if◌then◌else◌, cond, nat_le, List, [], ◌∷◌, ◌++◌, length, Option, None, Some, Ok, refl, sym, ap, subst, ◌∙◌, arith}
use Rattle.std.specs.List.{AllByRecursion}
use Rattle.std.proofs.lemmas.Bool.{le-leb, lt-leb}
use Rattle.std.proofs.lemmas.List.{append-nil}
use Rattle.domain_base.specs.declared.names.Node.{Node}
use Rattle.run_journal.specs.declared.domain.Domain.{Domain}
use Rattle.run_journal.specs.declared.domain.Event.{Event}
use Rattle.run_journal.specs.declared.domain.Event.TheVariants.{Inject}
use Rattle.run_journal.specs.declared.acts.Act.{Act}
use Rattle.run_journal.specs.declared.acts.Entry.{Entry}
use Rattle.domain_rules.specs.Explained.{number_of, push}
use Rattle.domain_world.specs.State.{State}
use Rattle.domain_world.specs.Owning.{IsPast}
use Rattle.frame_script.specs.Script.{is_within}
use Rattle.script_lines.specs.Script.{Draft, Said, Goes, ListsAp, ListsSta, Adds, Asks, BeginsRound, EndsRound}
use Rattle.frame_script.specs.Headers.{Reading, size_sent, sizes_of}
use Rattle.frame_script.specs.Live.{Heard, Plain, Draws, Turns}
use Rattle.frame_script.specs.declared.reader.Mode.{Mode}
use Rattle.domain_links.specs.Turns.{Delivery}
use Rattle.script_runs.specs.Script.{Rounds, sizes_before, with_round, with_waiting, with_deliveries, rounds_with, Means, Says, Spells, says_in}
use Rattle.text_lines.specs.Texts.{TellsIn}
use Rattle.script_runs.specs.States.{Waiting, IsWorldOf, HasSame, run_count}

-- ---- all frames

-- of a journal whose entries all have rounds up to that number
sizes_all : (d : Domain) (rounds : ℕ) (j : List Entry) → AllByRecursion (IsPast d rounds) j → sizes_before rounds j ≡ sizes_of j
unfolding sizes_before sizes_of
sizes_all d rounds [] past = refl
sizes_all d rounds (e ∷ j) past =
    ap (λ (b : Bool). cond b (sizes_before rounds j ++ size_sent e.act) (sizes_before rounds j)) (le-leb e.round rounds past.0.round)
    ∙ ap (λ (sizes : List ℕ). sizes ++ size_sent e.act) (sizes_all d rounds j past.1)

sizes_none : (rounds : ℕ) → sizes_before rounds [] ≡ sizes_of []
unfolding sizes_before sizes_of
sizes_none rounds = refl

-- before a line: those of the rounds so far
pub sizes_so_far : (world : Option State) (waiting : Waiting) (r : Reading) (j : List Entry) (rounds : ℕ) → IsWorldOf world waiting r j → run_count world ≡ rounds → sizes_before rounds j ≡ sizes_of j
sizes_so_far None waiting r j rounds is count = subst (λ (x : List Entry). sizes_before rounds x ≡ sizes_of x) (sym is.no_entries) (sizes_none rounds)
sizes_so_far (Some w) waiting r j rounds is count =
    subst (λ (n : ℕ). sizes_before n j ≡ sizes_of j) count (sizes_all w.domain w.rounds j is.own.placed.past)

-- ---- a journal that grows

pub same-journal : (rounds : ℕ) (j k : List Entry) → k ≡ j → HasSame rounds j k
same-journal rounds j k same m few = ap (sizes_before m) same

later_entry : (rounds : ℕ) (e : Entry) (past : List Entry) → rounds < e.round → sizes_before rounds (e ∷ past) ≡ sizes_before rounds past
unfolding sizes_before
later_entry rounds e past later =
    ap (λ (b : Bool). cond b (sizes_before rounds past ++ size_sent e.act) (sizes_before rounds past)) (lt-leb e.round rounds later)

-- acts of a later round
pub same-push : (rounds round : ℕ) (n : Node) (acts : List Act) (past : List Entry) → rounds < round → sizes_before rounds (push round n acts past) ≡ sizes_before rounds past
same-push rounds round n [] past later = refl
same-push rounds round n (act ∷ g) past later =
    let e : Entry = record { round = round; node = n; number = number_of act past; act = act } in
    same-push rounds round n g (e ∷ past) later ∙ later_entry rounds e past later

either : (b : Bool) (xs ys : List ℕ) → xs ≡ ys → cond b xs ys ≡ ys
either true xs ys same = same
either false xs ys same = refl

quiet_entry : (rounds : ℕ) (e : Entry) (past : List Entry) → size_sent e.act ≡ [] → sizes_before rounds (e ∷ past) ≡ sizes_before rounds past
unfolding sizes_before
quiet_entry rounds e past quiet =
    either (nat_le e.round rounds) (sizes_before rounds past ++ size_sent e.act) (sizes_before rounds past)
    (ap (λ (sizes : List ℕ). sizes_before rounds past ++ sizes) quiet ∙ append-nil (sizes_before rounds past))

-- acts that send nothing
pub same-quiet : (rounds round : ℕ) (n : Node) (acts : List Act) (past : List Entry) → AllByRecursion (λ (act : Act). size_sent act ≡ []) acts → sizes_before rounds (push round n acts past) ≡ sizes_before rounds past
same-quiet rounds round n [] past quiet = refl
same-quiet rounds round n (act ∷ g) past quiet =
    let e : Entry = record { round = round; node = n; number = number_of act past; act = act } in
    same-quiet rounds round n g (e ∷ past) quiet.1 ∙ quiet_entry rounds e past quiet.0

-- ---- what the lines told stays told

fewer_by : (b : Bool) (n : ℕ) (x y : Rounds) → n ≤ length x.run → n ≤ length y.run → n ≤ length (if b then x else y).run
fewer_by true n x y p q = p
fewer_by false n x y p q = q

no_fewer : (before : Draft) (earlier : Rounds) (said : Said) → length earlier.run ≤ length (rounds_with before earlier said).run
no_fewer before earlier (Goes next) = omega arith
no_fewer before earlier (ListsAp address id) = omega arith
no_fewer before earlier (ListsSta address psk) = omega arith
no_fewer before earlier (Adds extra) = omega arith
no_fewer before earlier (Asks event) =
    fewer_by (is_within before) (length earlier.run) (with_waiting earlier (earlier.waiting ++ event ∷ [])) (with_round earlier (event ∷ [])) (omega arith) (omega arith)
no_fewer before earlier BeginsRound = omega arith
no_fewer before earlier EndsRound = omega arith

-- deliveries of a turn are rounds behind those before
no_fewer_taken : (given : List Delivery) (run : List (List Event)) → length run ≤ length (with_deliveries given run)
unfolding with_deliveries
no_fewer_taken [] run = omega arith
no_fewer_taken (first ∷ given) run = omega (arith, no_fewer_taken given ((Inject first.node first.octets ∷ []) ∷ run))

no_fewer_meant : (said : Heard) (before draft : Draft) (earlier rounds : Rounds) → Means said before earlier draft rounds → length earlier.run ≤ length rounds.run
no_fewer_meant (Plain said) before draft earlier rounds means = omega (arith, no_fewer before earlier said, ap (λ (x : Rounds). length x.run) means.1)
no_fewer_meant Draws before draft earlier rounds (seed, (is, same)) = omega (arith, ap (λ (x : Rounds). length x.run) same)
no_fewer_meant Turns before draft earlier rounds (given, (turn, (is, same))) = omega (arith, no_fewer_taken given earlier.run, ap (λ (x : Rounds). length x.run) same)

Says-more : (m : Mode) (j k : List Entry) (line : List ℕ) (before draft : Draft) (earlier rounds : Rounds) → HasSame (length earlier.run) j k → Says m j line before earlier draft rounds → Says m k line before earlier draft rounds
Says-more m j k line before draft earlier rounds same s = record {
  said = s.said;
  says = subst (λ (sizes : List ℕ). says_in m before earlier.asked sizes line ≡ Ok s.said) (sym (same (length earlier.run) (omega arith))) s.says;
  means = s.means;
}

pub Spells-more : (m : Mode) (j k : List Entry) (lines : List (List ℕ)) (draft : Draft) (rounds : Rounds) → HasSame (length rounds.run) j k → Spells m j lines draft rounds → Spells m k lines draft rounds
unfolding TellsIn
Spells-more m j k [] draft rounds same told = told
Spells-more m j k (line ∷ lines) draft rounds same ((before, earlier), (told, says)) =
    let few : length earlier.run ≤ length rounds.run = no_fewer_meant says.said before draft earlier rounds says.means in
    let so_far : HasSame (length earlier.run) j k = λ n low. same n (omega (arith, low, few)) in
    ((before, earlier), (Spells-more m j k lines before earlier so_far told, Says-more m j k line before draft earlier rounds so_far says))

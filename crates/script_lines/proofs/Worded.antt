-- A line that asks for an event, one exit at a time.
use Rattle.std.proofs.Common.{◌≤◌, ◌<◌, length, Ok, ◌≡◌, true, false, List, ℕ, Result, Err, refl, sym, subst}
use Rattle.std.proofs.lemmas.Bool.{le-leb, lt-leb, lt-ltb, le-ltb}
use Rattle.run_journal.specs.Limits.{most_events}
use Rattle.run_journal.specs.declared.domain.Domain.{Domain}
use Rattle.run_journal.specs.declared.domain.Event.{Event}
use Rattle.script_lines.specs.declared.refusal.Refusal.{Refusal}
use Rattle.script_words.specs.declared.forms.Form.{Form}
use Rattle.script_lines.specs.Script.{Fault, Asks, many_frames, many_events, event_of, event_line, part_line}
use Rattle.script_lines.specs.Sentences.{Tells}

pub tells_as : {A : Type 0} (found : Result A Refusal) (m n : Result A Fault) → n ≡ m → Tells found m → Tells found n
tells_as {A} found m n e t = subst (λ (x : Result A Fault). Tells found x) (sym e) t

-- an event outside a round, and one in it
pub event_said : (d : Domain) (sizes : List ℕ) (line : Form) (text : List ℕ) (e : Event) → event_of d false sizes line text ≡ Ok e → length sizes ≤ 65535 → event_line d sizes line text ≡ Ok (Asks e)
unfolding event_line
event_said d sizes line text e is few = rw (is, le-leb (length sizes) 65535 few) refl

pub event_many : (d : Domain) (sizes : List ℕ) (line : Form) (text : List ℕ) (e : Event) → event_of d false sizes line text ≡ Ok e → 65535 < length sizes → event_line d sizes line text ≡ Err many_frames
unfolding event_line
event_many d sizes line text e is many = rw (is, lt-leb (length sizes) 65535 many) refl

pub part_said : (d : Domain) (count : ℕ) (sizes : List ℕ) (line : Form) (text : List ℕ) (e : Event) → event_of d true sizes line text ≡ Ok e → count < most_events → part_line d count sizes line text ≡ Ok (Asks e)
unfolding part_line
part_said d count sizes line text e is few = rw (is, lt-ltb count most_events few) refl

pub part_many : (d : Domain) (count : ℕ) (sizes : List ℕ) (line : Form) (text : List ℕ) (e : Event) → event_of d true sizes line text ≡ Ok e → most_events ≤ count → part_line d count sizes line text ≡ Err many_events
unfolding part_line
part_many d count sizes line text e is many = rw (is, le-ltb count most_events many) refl

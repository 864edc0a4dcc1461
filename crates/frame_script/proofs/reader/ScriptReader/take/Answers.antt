use Rattle.std.proofs.Common.{◌<◌, ◌^◌, Bool, List, ℕ, sym, ap, subst, ◌∙◌, refl}
use Rattle.script_lines.specs.Due.{draft_of}
use Rattle.frame_script.specs.Headers.{Reading, HasSeen, ReadsIn, sizes_named}
use Rattle.frame_script.specs.Sentences.{TakesBy, rounds_with}
use Rattle.frame_script.proofs.Living.{reads}
use Rattle.frame_script.proofs.Keeping.{reading_at, where_ok, on_read, seen_in, kept_on, no_memory}
use Rattle.frame_script.proofs.reader.ScriptReader.take.Goals as goal

pub see_by-requires : goal.see_by-requires
see_by-requires c =
    let old : Reading = reading_at c.self.inside.mode (draft_of c.self.inside.due) c.self.inside.rounds c.self.inside.seen c.self.inside.sizes.items in
    let j = c.args.journal.now.entries in
    seen_in old j (subst (λ (r : Reading). HasSeen r j) (sym c.self.view_is) c.requires.seen)

pub returns-then-is_err-clause-takes : goal.returns-then-is_err-clause-takes
returns-then-is_err-clause-takes c =
    let old : Reading = reading_at c.self.inside.mode (draft_of c.self.inside.due) c.self.inside.rounds c.self.inside.seen c.self.inside.sizes.items in
    let new : Reading = reading_at c.self.inside.mode (draft_of c.self.inside.due) c.self.inside.rounds c.see_by.new.seen c.see_by.new.sizes.items in
    let j = c.args.journal.now.entries in
    subst (λ (r : Reading). ReadsIn r.mode r new (sizes_named r j) c.args.line.now _) c.self.view_is
    (no_memory c.self.inside.mode old new (sizes_named old j) c.args.line.now refl refl)

pub rounds_with-self-inside-requires : goal.rounds_with-self-inside-requires
rounds_with-self-inside-requires c = subst (λ (r : Reading). r.rounds < 2 ^ 63) (sym c.self.view_is) c.requires.few

pub returns-clause-takes : goal.returns-clause-takes
returns-clause-takes c =
    let inside = c.self.inside in
    let answer = c.take_by-answer.result in
    let old : Reading = reading_at inside.mode (draft_of inside.due) inside.rounds inside.seen inside.sizes.items in
    let new : Reading = reading_at inside.mode (draft_of c.take_by-answer.new.due) c.rounds_with-self-inside.result c.see_by.new.seen c.see_by.new.sizes.items in
    let j = c.args.journal.now.entries in
    let named = where_ok c.see_by.result _ (sym c.is_err.ensures.value ∙ c.if-is_err.false) c.see_by.ensures.named in
    let by = subst (λ (sizes : List ℕ). TakesBy inside.mode old.draft new.draft inside.rounds sizes c.args.line.now answer) c.deref.ensures.value c.take_by-answer.ensures.takes in
    let rounds = c.rounds_with-self-inside.ensures ∙ ap (λ (b : Bool). rounds_with b inside.rounds answer) c.is_within-within.ensures in
    subst (λ (r : Reading). ReadsIn r.mode r new (sizes_named r j) c.args.line.now answer) c.self.view_is
    (reads inside.mode old new c.see_by.new.sizes.items (sizes_named old j) c.args.line.now answer by rounds named)

pub returns-clause-mode : goal.returns-clause-mode
returns-clause-mode c = ap (λ (r : Reading). r.mode) c.self.view_is

pub returns-clause-sizes : goal.returns-clause-sizes
returns-clause-sizes c =
    let j = c.args.journal.now.entries in
    let named = where_ok c.see_by.result _ (sym c.is_err.ensures.value ∙ c.if-is_err.false) c.see_by.ensures.named in
    on_read c.take_by-answer.result _ (named ∙ ap (λ (r : Reading). sizes_named r j) c.self.view_is)

pub returns-clause-kept : goal.returns-clause-kept
returns-clause-kept c =
    let new : Reading = reading_at c.self.inside.mode (draft_of c.take_by-answer.new.due) c.rounds_with-self-inside.result c.see_by.new.seen c.see_by.new.sizes.items in
    kept_on c.take_by-answer.result new c.args.journal.now.entries c.see_by.ensures.kept

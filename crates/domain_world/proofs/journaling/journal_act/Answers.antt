use Rattle.std.proofs.Common.{◌≡◌, ℕ, Bool, cond, List, [], ◌∷◌, ◌++◌, length, refl, ap, sym, ◌∙◌}
use Rattle.run_journal.specs.declared.acts.Entry.{Entry}
use Rattle.run_journal.specs.Acts.{is_sent}
use Rattle.domain_world.specs.Owning.{places}
use Rattle.domain_world.proofs.Placed.{next_number, places_more}
use Rattle.domain_world.proofs.journaling.journal_act.Goals as goal

pub returns-clause-entries : goal.returns-clause-entries
returns-clause-entries c =
    let number = c.number-number.ensures.number ∙ next_number c.args.act c.args.frames.now.items c.args.journal.now.entries c.requires.noted in
    c.add.ensures.entries ∙ ap (λ n. record { round = c.args.round; node = c.args.node; number = n; act = c.args.act } ∷ c.args.journal.now.entries) number

noted_as : (b : Bool) (xs ys : List ℕ) (p q : ℕ) → xs ≡ ys → p ≡ q → cond b (xs ++ p ∷ []) xs ≡ cond b (ys ++ q ∷ []) ys
noted_as b xs ys p q same at = rw (same, at) refl

pub returns-clause-noted : goal.returns-clause-noted
returns-clause-noted c =
    let past = c.args.journal.now.entries in
    let entry : Entry = record { round = c.args.round; node = c.args.node; number = c.number-number.result; act = c.args.act } in
    let there : c.number-number.new.frames.items ≡ cond (is_sent c.args.act) (places past ++ length past ∷ []) (places past) =
    c.number-number.ensures.noted ∙ noted_as (is_sent c.args.act) _ _ _ _ c.requires.noted c.len.ensures in
    there ∙ sym (places_more entry past) ∙ ap places (sym c.add.ensures.entries)

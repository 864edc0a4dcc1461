use Rattle.std.proofs.Common.{List, Bool, cond, sym, ap, ◌∙◌}
use Rattle.std.specs.Prelude.{position}
use Rattle.link_steps.specs.declared.questions.Forgetting.TheVariants.{Forgot, Nothing}
use Rattle.holder_link.specs.declared.open_questions.OpenQuestion.{OpenQuestion}
use Rattle.holder_link.specs.Asker.{Asking, forgotten, forget_answer}
use Rattle.holder_link.specs.Questions.{has_number}
use Rattle.holder_link.proofs.Firsts.{at_position, none_at}
use Rattle.holder_link.proofs.asker.Asker.forget.Goals as goal

pub returns-in-Some-clause-answer : goal.returns-in-Some-clause-answer
returns-in-Some-clause-answer c =
    sym (ap (λ (s : Asking). forget_answer c.args.n s) (sym c.self.view_is) ∙ ap (λ (b : Bool). cond b Forgot Nothing) (at_position (has_number c.args.n) c.self.inside.questions.items c.in-Some.place
    (sym c.in-Some.is ∙ c.place_of_number.ensures ∙ ap (λ (w : List OpenQuestion). position (has_number c.args.n) w) c.as_slice.ensures.value)).any)

pub returns-in-Some-clause-state : goal.returns-in-Some-clause-state
returns-in-Some-clause-state c =
    let f = at_position (has_number c.args.n) c.self.inside.questions.items c.in-Some.place
    (sym c.in-Some.is ∙ c.place_of_number.ensures ∙ ap (λ (w : List OpenQuestion). position (has_number c.args.n) w) c.as_slice.ensures.value) in
    ap (λ (w : List OpenQuestion). record { kck = c.self.inside.kck; kek = c.self.inside.kek; asked = c.self.inside.asked; questions = w }) (c.remove.ensures.items ∙ f.without_is)
    ∙ ap (λ (s : Asking). forgotten c.args.n s) c.self.view_is

pub returns-in-None-clause-answer : goal.returns-in-None-clause-answer
returns-in-None-clause-answer c =
    let f = none_at (has_number c.args.n) c.self.inside.questions.items
    (sym c.in-None.is ∙ c.place_of_number.ensures ∙ ap (λ (w : List OpenQuestion). position (has_number c.args.n) w) c.as_slice.ensures.value) in
    sym (ap (λ (s : Asking). forget_answer c.args.n s) (sym c.self.view_is) ∙ ap (λ (b : Bool). cond b Forgot Nothing) f.any)

pub returns-in-None-clause-state : goal.returns-in-None-clause-state
returns-in-None-clause-state c =
    let f = none_at (has_number c.args.n) c.self.inside.questions.items
    (sym c.in-None.is ∙ c.place_of_number.ensures ∙ ap (λ (w : List OpenQuestion). position (has_number c.args.n) w) c.as_slice.ensures.value) in
    sym c.self.view_is
    ∙ ap (λ (w : List OpenQuestion). record { kck = c.self.inside.kck; kek = c.self.inside.kek; asked = c.self.inside.asked; questions = w }) f.without_is
    ∙ ap (λ (s : Asking). forgotten c.args.n s) c.self.view_is

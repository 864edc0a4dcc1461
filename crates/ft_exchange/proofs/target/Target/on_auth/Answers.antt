use Rattle.std.proofs.Common.{◌≡◌, ◌∙◌, ℕ, true, List, None, refl, sym, subst}
use Rattle.std.specs.Prelude.{Ok}
use Rattle.std.specs.Option.{option_copied}
use Rattle.domain_base.specs.declared.names.Mac.{Mac}
use Rattle.key_hierarchy.specs.declared.answers.PullAnswer.{PullAnswer}
use Rattle.key_holders.specs.Rows.{is_in}
use Rattle.key_holders.specs.Pulls.{MayPull, Answers, IsNamed}
use Rattle.rsn_elements.specs.Fields.{element_fields}
use Rattle.run_journal.specs.declared.acts.Outcome.{Outcome}
use Rattle.ft_exchange.specs.Asking.{asked_fields, IsRequest}
use Rattle.ft_exchange.specs.TargetSteps.{IsAuthTaken}
use Rattle.ft_exchange.proofs.TargetAuths.{Asks, known_by}
use Rattle.ft_exchange.proofs.AuthExits.{exit_other, exit_elements, exit_repeated, exit_granted, exit_refused, exit_looks, looks_none, looks_repeated, looked_len, asked_id, reason_at}
use Rattle.ft_exchange.proofs.target.Target.on_auth.Goals as goal

pub returns-in_default-clause-taken : goal.returns-in_default-clause-taken
returns-in_default-clause-taken g c = exit_other c.args.domain.now c.args.ap c.args.sta (element_fields c.args.elements.now) (option_copied c.args.anonce) c.args.pending.now c.empty.result c.in_default.not-FtPsk c.empty.ensures

pub returns-in-Err-clause-taken : goal.returns-in-Err-clause-taken
returns-in-Err-clause-taken g c =
    subst (λ (o : Outcome). IsAuthTaken c.args.domain.now c.args.ap c.args.sta (element_fields c.args.elements.now) (option_copied c.args.anonce) c.args.pending.now c.args.pending.now o c.refuse_auth.new.reply) (sym c.refuse_auth.ensures.outcome)
    (exit_elements c.args.domain.now c.args.ap c.args.sta (element_fields c.args.elements.now) (option_copied c.args.anonce) c.args.pending.now c.in-Err.why c.of-place.result c.empty.result c.refuse_auth.new.reply c.in-FtPsk.is c.in-Err.ensures c.of-place.ensures c.empty.ensures c.refuse_auth.ensures.refuses)

pub returns-then-repeats-clause-taken : goal.returns-then-repeats-clause-taken
returns-then-repeats-clause-taken g c =
    let q : IsRequest c.of-place.result.mfp c.args.domain.now.mdid (element_fields c.args.elements.now) (Ok c.in-Ok.asked) = c.in-Ok.ensures in
    exit_repeated c.args.domain.now c.args.ap c.args.sta (element_fields c.args.elements.now) (option_copied c.args.anonce) c.args.pending.now (asked_fields c.in-Ok.asked) c.empty.result c.answer_pending.new.reply c.in-FtPsk.is (reason_at c.args.domain.now c.args.ap c.args.sta (element_fields c.args.elements.now) c.of-place.result None c.of-place.ensures q.0) q.1 (sym c.repeats.ensures ∙ c.if-repeats.true) c.empty.ensures c.answer_pending.ensures

pub returns-in-Ok-look-clause-taken : goal.returns-in-Ok-look-clause-taken
returns-in-Ok-look-clause-taken g c =
    let q : IsRequest c.of-place.result.mfp c.args.domain.now.mdid (element_fields c.args.elements.now) (Ok c.in-Ok.asked) = c.in-Ok.ensures in
    let k : Asks c.args.domain.now (element_fields c.args.elements.now) c.args.pending.now (asked_fields c.in-Ok.asked) =
    record { suite = c.in-FtPsk.is; right = reason_at c.args.domain.now c.args.ap c.args.sta (element_fields c.args.elements.now) c.of-place.result None c.of-place.ensures q.0; asks = q.1; fresh = sym c.repeats.ensures ∙ c.if-repeats.false }
    in
    exit_granted c.args.domain.now c.args.ap c.args.sta (element_fields c.args.elements.now) (option_copied c.args.anonce) c.args.pending.now (asked_fields c.in-Ok.asked) c.in-Ok-look.granted c.of-place.result c.begin.result _ _ c.empty.result c.look.new.reply c.begin.new.reply k c.empty.ensures c.in-Ok-look.ensures.looked
    (λ name answer y.
    known_by c.args.domain.now (g.H.Holders.ids c.args.holders.now) c.in-Ok.asked.r0kh_id.now
    (λ (r : ℕ) (z : PullAnswer). is_in r (g.H.Holders.has c.args.holders.now) ≡ true → MayPull (g.H.Holders.rows c.args.holders.now r) name c.of-place.result.own c.of-place.result.peer z) answer c.requires.ids y.1)
    c.of-place.ensures c.begin.ensures.begins

pub returns-in-Ok-look-clause-looks : goal.returns-in-Ok-look-clause-looks
returns-in-Ok-look-clause-looks g c =
    let q : IsRequest c.of-place.result.mfp c.args.domain.now.mdid (element_fields c.args.elements.now) (Ok c.in-Ok.asked) = c.in-Ok.ensures in
    exit_looks c.args.domain.now c.args.ap c.args.sta (element_fields c.args.elements.now) (option_copied c.args.anonce) (asked_fields c.in-Ok.asked) c.of-place.result
    (λ (id : List ℕ) (own peer : Mac) (name : List ℕ) (answer : PullAnswer).
    g.H.Holders.pulls c.args.holders.now id name own peer c.look.new.holders answer
    × Answers (g.H.Holders.ids c.args.holders.now) (g.H.Holders.has c.args.holders.now) (g.H.Holders.rows c.args.holders.now) id name own peer answer
    × IsNamed name own peer answer)
    _ c.empty.result c.look.new.reply c.begin.new.reply _ c.of-place.ensures q.1 c.empty.ensures c.in-Ok-look.ensures.looked c.begin.ensures.begins.looked

pub returns-in-Err-look-clause-taken : goal.returns-in-Err-look-clause-taken
returns-in-Err-look-clause-taken g c =
    let q : IsRequest c.of-place.result.mfp c.args.domain.now.mdid (element_fields c.args.elements.now) (Ok c.in-Ok.asked) = c.in-Ok.ensures in
    let k : Asks c.args.domain.now (element_fields c.args.elements.now) c.args.pending.now (asked_fields c.in-Ok.asked) =
    record { suite = c.in-FtPsk.is; right = reason_at c.args.domain.now c.args.ap c.args.sta (element_fields c.args.elements.now) c.of-place.result None c.of-place.ensures q.0; asks = q.1; fresh = sym c.repeats.ensures ∙ c.if-repeats.false }
    in
    subst (λ (o : Outcome). IsAuthTaken c.args.domain.now c.args.ap c.args.sta (element_fields c.args.elements.now) (option_copied c.args.anonce) c.args.pending.now c.args.pending.now o c.refuse_auth-in-Err-look.new.reply) (sym c.refuse_auth-in-Err-look.ensures.outcome)
    (exit_refused c.args.domain.now c.args.ap c.args.sta (element_fields c.args.elements.now) (option_copied c.args.anonce) c.args.pending.now (asked_fields c.in-Ok.asked) c.in-Err-look.why c.of-place.result _ _ c.empty.result c.look.new.reply c.refuse_auth-in-Err-look.new.reply k c.empty.ensures c.in-Err-look.ensures.looked
    (λ name answer y.
    known_by c.args.domain.now (g.H.Holders.ids c.args.holders.now) c.in-Ok.asked.r0kh_id.now
    (λ (r : ℕ) (z : PullAnswer). is_in r (g.H.Holders.has c.args.holders.now) ≡ true → MayPull (g.H.Holders.rows c.args.holders.now r) name c.of-place.result.own c.of-place.result.peer z) answer c.requires.ids y.1)
    c.of-place.ensures c.refuse_auth-in-Err-look.ensures.refuses)

pub returns-in-Err-look-clause-looks : goal.returns-in-Err-look-clause-looks
returns-in-Err-look-clause-looks g c =
    let q : IsRequest c.of-place.result.mfp c.args.domain.now.mdid (element_fields c.args.elements.now) (Ok c.in-Ok.asked) = c.in-Ok.ensures in
    exit_looks c.args.domain.now c.args.ap c.args.sta (element_fields c.args.elements.now) (option_copied c.args.anonce) (asked_fields c.in-Ok.asked) c.of-place.result
    (λ (id : List ℕ) (own peer : Mac) (name : List ℕ) (answer : PullAnswer).
    g.H.Holders.pulls c.args.holders.now id name own peer c.look.new.holders answer
    × Answers (g.H.Holders.ids c.args.holders.now) (g.H.Holders.has c.args.holders.now) (g.H.Holders.rows c.args.holders.now) id name own peer answer
    × IsNamed name own peer answer)
    _ c.empty.result c.look.new.reply c.refuse_auth-in-Err-look.new.reply _ c.of-place.ensures q.1 c.empty.ensures c.in-Err-look.ensures.looked c.refuse_auth-in-Err-look.ensures.looked

-- nothing was looked up
pub returns-in_default-clause-looks : goal.returns-in_default-clause-looks
returns-in_default-clause-looks g c = looks_none (element_fields c.args.elements.now) _ _ c.empty.result.looked c.empty.ensures.looked refl

pub returns-in_default-clause-no_less : goal.returns-in_default-clause-no_less
returns-in_default-clause-no_less g c = g.met.H.Holders.same c.args.holders.now

pub returns-in-Err-clause-looks : goal.returns-in-Err-clause-looks
returns-in-Err-clause-looks g c = looks_none (element_fields c.args.elements.now) _ _ c.refuse_auth.new.reply.looked (c.refuse_auth.ensures.looked ∙ c.empty.ensures.looked) refl

pub returns-in-Err-clause-no_less : goal.returns-in-Err-clause-no_less
returns-in-Err-clause-no_less g c = g.met.H.Holders.same c.args.holders.now

pub returns-then-repeats-clause-looks : goal.returns-then-repeats-clause-looks
returns-then-repeats-clause-looks g c =
    looks_repeated (element_fields c.args.elements.now) _ _ c.args.pending.now c.empty.result c.answer_pending.new.reply c.empty.ensures c.answer_pending.ensures refl

pub returns-then-repeats-clause-no_less : goal.returns-then-repeats-clause-no_less
returns-then-repeats-clause-no_less g c = g.met.H.Holders.same c.args.holders.now

-- a look leaves the holders as it says
pub begin-requires : goal.begin-requires
begin-requires g c =
    let q : IsRequest c.of-place.result.mfp c.args.domain.now.mdid (element_fields c.args.elements.now) (Ok c.in-Ok.asked) = c.in-Ok.ensures in
    asked_id (element_fields c.args.elements.now) (asked_fields c.in-Ok.asked) c.requires.raw q.1

pub returns-in-Ok-look-clause-rows : goal.returns-in-Ok-look-clause-rows
returns-in-Ok-look-clause-rows g c = c.look.ensures.rows

pub returns-in-Ok-look-clause-ids : goal.returns-in-Ok-look-clause-ids
returns-in-Ok-look-clause-ids g c = c.look.ensures.ids

pub returns-in-Ok-look-clause-still_has : goal.returns-in-Ok-look-clause-still_has
returns-in-Ok-look-clause-still_has g c = c.look.ensures.still_has

pub returns-in-Ok-look-clause-no_less : goal.returns-in-Ok-look-clause-no_less
returns-in-Ok-look-clause-no_less g c = c.look.ensures.no_less

pub refuse_auth-requires-in-Err-look : goal.refuse_auth-requires-in-Err-look
refuse_auth-requires-in-Err-look g c =
    record { quiet = looked_len c.args.domain.now (asked_fields c.in-Ok.asked) (option_copied c.args.anonce) _ _ c.empty.result c.look.new.reply _ c.in-Err-look.ensures.looked c.empty.ensures.len }

pub returns-in-Err-look-clause-rows : goal.returns-in-Err-look-clause-rows
returns-in-Err-look-clause-rows g c = c.look.ensures.rows

pub returns-in-Err-look-clause-ids : goal.returns-in-Err-look-clause-ids
returns-in-Err-look-clause-ids g c = c.look.ensures.ids

pub returns-in-Err-look-clause-still_has : goal.returns-in-Err-look-clause-still_has
returns-in-Err-look-clause-still_has g c = c.look.ensures.still_has

pub returns-in-Err-look-clause-no_less : goal.returns-in-Err-look-clause-no_less
returns-in-Err-look-clause-no_less g c = c.look.ensures.no_less

use Rattle.std.proofs.Common.{reverse, refl, sym, ◌∙◌}
use Rattle.std.proofs.lemmas.Bool.{false≢true}
use Rattle.run_journal.proofs.Agreement.{agree_on_tk, agree_on_kck, apart_more, apart_on_tk, apart_on_kck}
use Rattle.run_journal.proofs.judging.keeps_apart.Goals as goal

pub returns-then-agrees_on_tk : goal.returns-then-agrees_on_tk
returns-then-agrees_on_tk c n =
    let past = reverse c.args.entries.now in
    let on_tk = c.if-agrees_on_tk.ensures (agree_on_tk past n) in
    let on_kck = c.agrees_on_kck.ensures (agree_on_kck past n) in
    (λ t. apart_more c.args.entry.now past n (on_tk.0 refl) (on_kck.0 t), λ m. on_kck.1 (apart_on_kck c.args.entry.now past m))

pub returns-else-agrees_on_tk : goal.returns-else-agrees_on_tk
returns-else-agrees_on_tk c n =
    let past = reverse c.args.entries.now in
    let on_tk = c.agrees_on_tk.ensures (agree_on_tk past n) in
    (λ t. absurd (false≢true (sym c.if-agrees_on_tk.false ∙ t)), λ m. on_tk.1 (apart_on_tk c.args.entry.now past m))

-- An accepted final message joins equal derivations.
use Rattle.std.proofs.Common.{◌≡◌, ◌<◌, ◌≤◌, inl, inr, List, [], ◌∷◌, subst, arith}
use Rattle.domain_base.specs.declared.names.Node.{Node}
use Rattle.key_hierarchy.specs.Keys.{ptk}
use Rattle.key_hierarchy.specs.declared.inputs.Inputs.{Inputs}
use Rattle.run_journal.specs.declared.domain.Domain.{Domain}
use Rattle.run_journal.specs.declared.acts.Act.{Act}
use Rattle.run_journal.specs.declared.acts.Act.TheVariants.{Finished}
use Rattle.run_journal.specs.declared.acts.Entry.{Entry}
use Rattle.run_journal.specs.Questions.{history}
use Rattle.run_journal.specs.Premises.{In}
use Rattle.run_journal.specs.Safe.{DerivedBefore, Joined}
use Rattle.journal_safety.proofs.Ends.{tail_refl, tail_in, tail_head}
use Rattle.journal_safety.proofs.Legal.{derives, LegalFinished, Legal}
use Rattle.journal_safety.proofs.Places.{Good, good_tail, entry_in}
use Rattle.journal_safety.proofs.Seals.{verified_by, sealed_tail}

joined_now : (d : Domain) (l : Entry) (past : List Entry) → Good d (l ∷ past) → (p : Node) (i : Inputs) → l.act ≡ Finished p i → DerivedBefore p i l past
joined_now d l past g p i is =
    let fin : LegalFinished d l.node (history l.node past) p i = subst (λ (x : Act). Legal d l.node (history l.node past) x) is g.legal.0 in
    let r = verified_by d l.node p i past (good_tail d past (l ∷ past) (inr (tail_refl past)) g) fin.verified in
    let w = r.facts.at in
    let there : In w.entry r.earlier = entry_in p (derives l.node i) r.earlier w in
    let a : r.taken.round ≤ l.round = g.legal.1 r.taken (tail_head r.taken r.before past r.taken_tail) in
    let b : w.entry.round ≤ r.sent.round = r.until w.entry there in
    let c : r.sent.round < r.taken.round = r.rounds in
    record {
      entry = w.entry;
      there = tail_in r.earlier past w.entry (sealed_tail d l.node p i fin.verified.covered past r) there;
      before = inl (omega (arith, a, b, c));
      at = w.at;
      is = (l.node, (ptk i, w.is));
    }

pub joined : (d : Domain) (past : List Entry) → Good d past → Joined past
joined d [] g = tt
joined d (l ∷ past) g = (joined_now d l past g, joined d past (good_tail d past (l ∷ past) (inr (tail_refl past)) g))

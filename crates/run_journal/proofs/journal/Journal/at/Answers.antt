use Rattle.std.proofs.Common.{ap, arith}
use Rattle.run_journal.specs.Kept.{Kept}
use Rattle.run_journal.proofs.Reversed.{place_within, entry_at}
use Rattle.run_journal.proofs.journal.Journal.at.Goals as goal

pub index-requires : goal.index-requires
index-requires c =
    let within = place_within c.self.inside.entries.items c.args.self.now.entries c.args.place (ap (λ (v : Kept). v.entries) c.self.view_is) c.requires in
    omega (arith, within)

pub returns : goal.returns
returns c = entry_at c.self.inside.entries.items c.args.self.now.entries c.args.place _ (ap (λ (v : Kept). v.entries) c.self.view_is) c.requires c.index.ensures

use Rattle.std.proofs.Common.{refl, arith, rules}
use Rattle.loopback.proofs.random.OsDrawsDraws.seed.Goals.{in-Ok, in-Err}
use Rattle.loopback.proofs.random.OsDrawsDraws.seed.Goals as goal

pub returns-clause-cause : goal.returns-clause-cause
returns-clause-cause g c = elim c.match-try_fill_bytes.branch [
  | in-Ok w ↦ rw (w.result-is, w.self-is) (record { later = omega arith; failed = tt })
  | in-Err w ↦ rw (w.result-is, w.self-is) (record { later = search rules; failed = omega (arith, w.saturating_add-self.ensures) })
]

pub returns-clause-given : goal.returns-clause-given
returns-clause-given g c = elim c.match-try_fill_bytes.branch [
  | in-Ok w ↦ rw (w.result-is, w.self-is) refl
  | in-Err w ↦ rw w.result-is tt
]

pub returns-clause-kept : goal.returns-clause-kept
returns-clause-kept g c = elim c.match-try_fill_bytes.branch [
  | in-Ok w ↦ rw w.result-is tt
  | in-Err w ↦ rw (w.result-is, w.self-is) refl
]

use Rattle.std.proofs.Common.{◌≡◌, ℕ, add-one, subst, arith}
use Rattle.script_runs.specs.Courses.{IsListing}
use Rattle.script_runs.proofs.storming.list_stas.Goals as goal

pub loop-place-preserved : goal.loop-place-preserved
loop-place-preserved c = rw add-one c.in_ok-list_sta.ensures.listing

pub returns-clause-listing : goal.returns-clause-listing
returns-clause-listing c =
    let all : c.loop-place.place ≡ 8 = omega (arith, c.loop-place.auto.place-end, c.loop-place-test.false) in
    subst (λ (n : ℕ). IsListing c.args.storm.now.number 4 n c.loop-place.world c.args.journal.now.entries) all c.loop-place.invariant

-- The version of a script.
use Rattle.std.proofs.Common.{◌≡◌, IsTrue, refl}
use Rattle.std.proofs.lemmas.Bool.{false≢true}
use Rattle.run_journal.specs.declared.domain.Version.{Version}
use Rattle.run_journal.specs.declared.domain.Version.TheVariants.{One, Two}
use Rattle.script_lines.specs.Script.{is_second}

pub second_version : (v : Version) → IsTrue (is_second v) → v ≡ Two
second_version One t = absurd (false≢true t)
second_version Two t = refl

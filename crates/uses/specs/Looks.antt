-- What an access point finds at a key holder while another thread puts a key there (profile).
use Rattle.std.specs.Prelude.{◌≡◌}
use Rattle.key_hierarchy.specs.declared.fast_transition.PmkR1.{PmkR1}
use Rattle.key_hierarchy.specs.declared.answers.PullAnswer.{PullAnswer}
use Rattle.key_hierarchy.specs.declared.answers.PullAnswer.TheVariants.{Found, NoHolder, Absent}

-- that key, or none yet
abbrev pub IsThatOrNone : PmkR1 → PullAnswer → Type 0
IsThatOrNone key (Found r1) = r1 ≡ key
IsThatOrNone key Absent = Unit {0}
IsThatOrNone key NoHolder = ⊥

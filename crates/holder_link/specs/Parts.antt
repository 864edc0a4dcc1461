-- What is read, as definitions have it (profile).
use Rattle.std.specs.Prelude.{ℕ, List, ◌==◌, slice_index, if◌then◌else◌}
use Rattle.domain_base.specs.Places.{part}
use Rattle.holder_link.specs.declared.fields.Ask.{Ask}
use Rattle.link_steps.specs.declared.questions.Question.{Question}
use Rattle.holder_link.specs.declared.fields.Said.{Said}
use Rattle.holder_link.specs.declared.fields.Said.TheVariants.{Found, NoHolder, Absent}

-- the question of an Ask
abbrev pub question_of : Ask → Question
question_of a = record { r0kh_id = a.r0kh_id.now; name = a.name; r1kh = a.r1kh; sta = a.sta }

-- what octets 17 and those after it say
abbrev pub said_at : List ℕ → Said
said_at octets =
    if slice_index octets 17 == 0 then Found (part 18 40 octets)
    else if slice_index octets 17 == 1 then NoHolder else Absent

-- What key holders are asked for (IEEE Std 802.11-2020, 13.8.2).
use Rattle.std.specs.Prelude.{ℕ, List, [], ◌∷◌, Option, Some, None, option_and_then}
use Rattle.domain_base.specs.declared.names.Node.{Node}
use Rattle.key_hierarchy.specs.declared.answers.PullAnswer.{PullAnswer}
use Rattle.rsn_elements.specs.Rsne.{RsneFields}
use Rattle.run_journal.specs.declared.acts.Act.{Act}
use Rattle.run_journal.specs.declared.acts.Act.TheVariants.{Looked}
use Rattle.domain_rules.specs.FastTransition.{single}
use Rattle.domain_rules.specs.TransitionKeys.{Asked}
use Rattle.transition_acts.specs.declared.looking.Look.{Look}

-- the PMKIDs of an RSNE, one after the other
abbrev pub pmkids_of : Option RsneFields → Option (List ℕ)
pmkids_of rsne = option_and_then (λ (r : RsneFields). r.pmkids) rsne

-- a request asks for the key of one name, at the holder with an R0KH-ID
abbrev pub look_named : List ℕ → Option (List ℕ) → Option Look
look_named id None = None
look_named id (Some name) = Some (record { r0kh_id = id; name = name })

-- what a request asks key holders for
abbrev pub look_asked : Option Asked → Option Look
look_asked None = None
look_asked (Some a) = look_named a.r0kh_id (single a.names)

-- the act of that, where an answer came
abbrev pub look_acts : Node → Option Look → Option PullAnswer → List Act
look_acts p (Some l) (Some answer) = Looked l.r0kh_id l.name p answer ∷ []
look_acts p l answer = []

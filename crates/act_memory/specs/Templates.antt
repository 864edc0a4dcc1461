-- What a pairwise key is made of, before its nonces are known (profile).
use Rattle.std.specs.Prelude.{◌≡◌, ℕ, Bool, true, false, List, Option, None, Some}
use Rattle.domain_base.specs.declared.names.Node.{Node}
use Rattle.key_hierarchy.specs.declared.inputs.Inputs.{Inputs}
use Rattle.run_journal.specs.declared.domain.Domain.{Domain}
use Rattle.run_journal.specs.declared.acts.Seal.{Seal}
use Rattle.run_journal.specs.declared.reply.Keyed.{Keyed}
use Rattle.domain_rules.specs.Replies.{inputs_by}
use Rattle.domain_rules.specs.Network.{Root, root_at, station_of}

-- the inputs with the nonces of that key
abbrev pub with_nonces : Inputs → Keyed → Inputs
with_nonces i y = record i { anonce = y.anonce; snonce = y.snonce }

-- but for their nonces they are what the pairwise key of n with p is made of, by that root
pub record IsTemplate (d : Domain) (r : Root) (n p : Node) (i : Inputs) : Type 0 where
  pub is : (y : Keyed) → with_nonces i y ≡ inputs_by d r n p y

-- by the station among the two and an R0KH-ID, which suites 2 and 6 do not look at
abbrev pub IsTemplateAt : Domain → Node → Node → List ℕ → Inputs → Type 0
IsTemplateAt d n p id i = IsTemplate d (root_at d (station_of n p) id) n p i

-- where it may be asked for there is one, by the station among the two and an R0KH-ID
abbrev pub TemplateWhere : Bool → Domain → Node → Node → List ℕ → Option Inputs → Type 0
TemplateWhere false d n p id i = i ≡ None
TemplateWhere true d n p id None = ⊥
TemplateWhere true d n p id (Some i) = IsTemplateAt d n p id i

-- it is one, or there is none and no key
abbrev pub TemplateFor : Domain → Root → Node → Node → Option Inputs → Option Keyed → Type 0
TemplateFor d r n p None y = y ≡ None
TemplateFor d r n p (Some i) y = IsTemplate d r n p i

-- octets under a key
abbrev pub seal_over : List ℕ → List ℕ → Seal
seal_over covered kck = record { octets = covered; key = kck }

-- Looks as the code has them (profile).
use Rattle.std.specs.Prelude.{ℕ, suc, ◌≡◌, cond}
use Rattle.domain_base.specs.declared.names.Node.TheVariants.{Ap, Sta}
use Rattle.run_journal.specs.declared.domain.Domain.{Domain}
use Rattle.run_journal.specs.Events.{IsListed}
use Rattle.domain_rules.specs.HeldRight.{Looking}
use Rattle.look_audit.specs.declared.looks.Look.{Look}
use Rattle.look_audit.specs.declared.rows.Bound.{Bound}

-- a look without its R0KH-ID and answer
abbrev pub looking_of : Look → Looking
looking_of l = record { node = l.node; round = l.round; name = l.name.now; sta = l.sta }

-- a listed access point asks for a listed station
pub record IsAskable (d : Domain) (l : Look) : Type 0 where
  pub ap : ℕ
  pub sta : ℕ
  pub at_ap : l.node ≡ Ap ap
  pub for_sta : l.sta ≡ Sta sta
  pub ap_listed : IsListed d (Ap ap)
  pub sta_listed : IsListed d (Sta sta)

-- rounds below that number
abbrev pub bound_of : Bound → ℕ
bound_of b = cond b.itself (suc b.round) b.round

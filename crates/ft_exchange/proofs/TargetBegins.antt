-- An attempt of a target as it begins, by its parts.
use Rattle.std.proofs.Common.{◌≡◌, ℕ, true, false, List, ap, ◌∙◌}
use Rattle.key_hierarchy.specs.declared.inputs.Ptk.{Ptk}
use Rattle.key_hierarchy.specs.FastTransition.{ft_ptk}
use Rattle.run_journal.specs.declared.reply.Keyed.{Keyed}
use Rattle.domain_rules.specs.TransitionKeys.{Asked}
use Rattle.ft_exchange.specs.declared.looking.Granted.{Granted}
use Rattle.ft_exchange.specs.declared.place.Place.{Place}
use Rattle.group_key.specs.declared.news.News.{News}
use Rattle.ft_exchange.specs.Exchange.{granting_octets, target_granted, installing_octets, target_installed}
use Rattle.ft_exchange.specs.State.{TargetState}

abbrev pub keyed_by : Ptk → List ℕ → List ℕ → Keyed
keyed_by ptk anonce snonce = record { ptk = ptk; anonce = anonce; snonce = snonce }

abbrev pub target_by : Place → Asked → Granted → Ptk → List ℕ → List ℕ → TargetState
target_by w a g ptk id stored = record {
  place = w;
  r0kh_id = id;
  asked = g.asked;
  name = g.r1.name;
  key = keyed_by ptk g.anonce a.snonce;
  is_installed = false;
  stored = stored;
}

pub target_is : (w : Place) (a : Asked) (g : Granted) (ptk : Ptk) (id stored : List ℕ) → ptk ≡ ft_ptk g.r1 a.snonce g.anonce w.own w.peer → id ≡ a.r0kh_id → stored ≡ granting_octets w a g
    → target_by w a g ptk id stored ≡ target_granted w a g
target_is w a g ptk id stored p i s =
    ap (λ (x : Ptk). target_by w a g x id stored) p
    ∙ (ap (λ (x : List ℕ). target_by w a g (ft_ptk g.r1 a.snonce g.anonce w.own w.peer) x stored) i
    ∙ ap (λ (x : List ℕ). target_by w a g (ft_ptk g.r1 a.snonce g.anonce w.own w.peer) a.r0kh_id x) s)

pub installed_is : (s t : TargetState) (n : News) (stored : List ℕ) → s ≡ t → stored ≡ installing_octets t n → record s { is_installed = true; stored = stored } ≡ target_installed t n
installed_is s t n stored same is =
    ap (λ (x : TargetState). record x { is_installed = true; stored = stored }) same ∙ ap (λ (x : List ℕ). record t { is_installed = true; stored = x }) is

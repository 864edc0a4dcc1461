-- Group keys given to the memory of a station, and what it tells of them.
use Rattle.std.proofs.Common.{◌≡◌, ◌∙◌, Option, Some, ap}
use Rattle.run_journal.specs.declared.reply.Reply.{Reply}
use Rattle.run_journal.specs.declared.reply.GtkNews.{GtkNews}
use Rattle.group_key.specs.Keys.{Memories}
use Rattle.ft_exchange.specs.Exchange.{at_stage, both, Finishes}
use Rattle.ft_exchange.specs.Group.{news_in, given_to, igtk_news_in, igtk_given, became, all_given}
use Rattle.ft_exchange.specs.State.{OriginatorState}
use Rattle.ft_exchange.specs.declared.group.CarriedKeys.{CarriedKeys}
use Rattle.ft_exchange.specs.declared.group.Became.{Became}
use Rattle.ft_exchange.specs.declared.originator.Transit.{Transit}
use Rattle.ft_exchange.specs.declared.originator.Stage.TheVariants as stage

abbrev became_by : GtkNews → Option GtkNews → Became
became_by g k = record { gtk = g; igtk = k }

-- one after the other
pub became_is : (c : CarriedKeys) (m mid : Memories) (g : GtkNews) (k : Option GtkNews) → g ≡ news_in c.gtk m → mid ≡ given_to c.gtk m → k ≡ igtk_news_in c.igtk mid → became_by g k ≡ became c m
became_is c m mid g k gtk between igtk =
    ap (λ (x : GtkNews). became_by x k) gtk ∙ ap (λ (x : Option GtkNews). became_by (news_in c.gtk m) x) (igtk ∙ ap (λ (x : Memories). igtk_news_in c.igtk x) between)

pub memory_is : (c : CarriedKeys) (m mid new : Memories) → mid ≡ given_to c.gtk m → new ≡ igtk_given c.igtk mid → new ≡ all_given c m
memory_is c m mid new between is = is ∙ ap (λ (x : Memories). igtk_given c.igtk x) between

-- the response is accepted
abbrev told_by : Transit → Reply → Became → Reply
told_by t before b = record before { installed = Some t.key; gtk = Some b.gtk; igtk = b.igtk }

pub finished : (t : Transit) (c : CarriedKeys) (s u : OriginatorState) (m n : Memories) (before : Reply) (b : Became) → u ≡ at_stage stage.Done s → n ≡ all_given c m → b ≡ became c m
    → Finishes t c (both s m) (both u n) before (told_by t before b)
finished t c s u m n before b is memory news = record { is = is; memory = memory; reply = ap (λ (x : Became). told_by t before x) news }

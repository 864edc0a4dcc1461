use Rattle.std.proofs.Common.{◌≡◌, ◌<◌, ◌∙◌, sym, ap, subst}
use Rattle.replay_window.specs.Numbers.{last_number}
use Rattle.ccmp_guard.specs.Held.{Held}
use Rattle.ap_node.specs.State.{key_by}
use Rattle.ap_node.proofs.AtPlaces.{ok_then, ok_at}
use Rattle.ap_node.proofs.protected.send_under.Goals as goal

pub returns-in-Some-clause-spare : goal.returns-in-Some-clause-spare
returns-in-Some-clause-spare c =
    ok_then c.send.result _ _ (λ few k is low. few (subst (λ (h : Held). h.used < last_number) (let same : c.in-Some.session.key ≡ k = cc (sym (ap key_by c.in-Some.is) ∙ is) in sym same) low)) c.send.ensures.spare

pub returns-in-None-clause-spare : goal.returns-in-None-clause-spare
returns-in-None-clause-spare c = ok_at c.idle.result _ (λ k is low. absurd (cc (ap key_by c.in-None.is, is)))

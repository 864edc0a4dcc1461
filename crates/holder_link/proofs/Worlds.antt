-- A world and its history.
use Rattle.std.proofs.Common.{◌≡◌, ℕ, List, ◌∷◌, sym, ap, ◌∙◌, subst}
use Rattle.domain_base.specs.Octets.{AreOctets}
use Rattle.link_steps.specs.declared.steps.LinkAnswer.{LinkAnswer}
use Rattle.link_steps.specs.declared.steps.LinkEvent.{LinkEvent}
use Rattle.link_steps.specs.declared.steps.Step.{Step}
use Rattle.holder_link.specs.Acts.{BothHave, Acts, after}
use Rattle.holder_link.specs.History.{Link, both_after, IsRun}
use Rattle.holder_link.specs.Learning.{NoncesDiffer, Unforged, LearntRight}
use Rattle.holder_link.specs.World.{Linked, IsOf, Happens}
use Rattle.holder_link.proofs.Learnt.{learnt_right}
use Rattle.holder_link.proofs.Runs.{same_key}

key_octets : (link : Link) (w : Linked) → AreOctets w.both.server.kek → IsOf link w → AreOctets link.kek
key_octets link w few is = subst (λ (k : List ℕ). AreOctets k) (ap (λ (b : BothHave). b.server.kek) is.both ∙ (same_key link w.steps is.run).server_kek) few

pub right_of : (link : Link) (w : Linked) → AreOctets w.both.server.kek → IsOf link w → NoncesDiffer w.steps → Unforged w.steps → LearntRight link w.steps
right_of link w few is differ unforged = learnt_right link w.steps (key_octets link w few is) is.run differ unforged

pub stands_of : (link : Link) (old new : Linked) (event : LinkEvent) → Happens old event new → IsOf link old → IsOf link new
stands_of link old new event h is =
    let run : IsRun link (h.step ∷ old.steps) = (subst (λ (b : BothHave). Acts b h.step.event h.step.sent h.step.answer) is.both h.acts, is.run) in
    record {
      both = h.both ∙ ap (λ (b : BothHave). after h.step.event h.step.answer b) is.both ∙ ap (λ (s : List Step). both_after link s) (sym h.steps);
      run = subst (λ (s : List Step). IsRun link s) (sym h.steps) run;
    }

pub right_after : (link : Link) (old new : Linked) (event : LinkEvent) → AreOctets old.both.server.kek → Happens old event new → IsOf link old → NoncesDiffer new.steps → Unforged new.steps → LearntRight link new.steps
right_after link old new event few h is differ unforged = learnt_right link new.steps (key_octets link old few is) (stands_of link old new event h is).run differ unforged

pub right_same : (link : Link) (w : Linked) (steps : List Step) → AreOctets w.both.server.kek → steps ≡ w.steps → IsOf link w → NoncesDiffer steps → Unforged steps → LearntRight link steps
right_same link w steps few e is differ unforged =
    subst (λ (s : List Step). LearntRight link s) (sym e) (right_of link w few is (subst (λ (s : List Step). NoncesDiffer s) e differ) (subst (λ (s : List Step). Unforged s) e unforged))

pub acts_at : (b c : BothHave) (event at : LinkEvent) (sent gone : List ℕ) (answer told : LinkAnswer) → b ≡ c → event ≡ at → sent ≡ gone → answer ≡ told → Acts b event sent answer → Acts c at gone told
acts_at b c event at sent gone answer told e f g h a = rw (← e, ← f, ← g, ← h) a

pub after_at : (b c : BothHave) (event at : LinkEvent) (answer told : LinkAnswer) → b ≡ c → event ≡ at → answer ≡ told → after event answer b ≡ after at told c
after_at b c event at answer told e f h = ap (λ (x : BothHave). after event answer x) e ∙ ap (λ (x : LinkEvent). after x answer c) f ∙ ap (λ (x : LinkAnswer). after at x c) h

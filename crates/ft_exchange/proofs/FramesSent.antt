-- The frames of a fast transition as acts of sending them.
use Rattle.std.proofs.Common.{◌≡◌, ◌≤◌, ℕ, false, cond, List, [], ◌∷◌, take, Option, refl, ap, arith}
use Rattle.std.specs.Prelude.{◌==◌}
use Rattle.std.proofs.lemmas.Bool.{ne_eqb}
use Rattle.domain_base.specs.declared.names.Node.{Node}
use Rattle.domain_base.specs.declared.names.Peer.TheVariants.{One}
use Rattle.run_journal.specs.declared.domain.Domain.{Domain}
use Rattle.run_journal.specs.declared.reply.Reply.{Reply}
use Rattle.run_journal.specs.declared.acts.Kind.{Kind}
use Rattle.run_journal.specs.declared.acts.Act.TheVariants.{Sent}
use Rattle.ft_exchange.specs.Sent.{HasFrame}
use Rattle.ft_exchange.specs.Told.{sent_seal, sent_octets, transition_sent}

some_sent : (n : ℕ) → 1 ≤ n → (n == 0) ≡ false
some_sent n some = ne_eqb n 0 (λ is. absurd (omega (arith, some, is)))

pub frame_sent : (d : Domain) (n p : Node) (octets : List ℕ) (k : Kind) (sealed : Option (List ℕ)) (r : Reply) → HasFrame octets k sealed r
    → transition_sent d n p r ≡ Sent (One p) k octets (sent_seal d n p k sealed octets) ∷ []
frame_sent d n p octets k sealed r f = rw (some_sent r.len f.some, f.front, f.kind_is, f.sealed_is) refl

pub nothing_sent : (d : Domain) (n p : Node) (r : Reply) → r.len ≡ 0 → transition_sent d n p r ≡ []
nothing_sent d n p r none = ap (λ (m : ℕ). cond (m == 0) [] (sent_octets d n p r (take m r.octets))) none

-- Acts that were added one after the other.
use Rattle.std.proofs.Common.{◌≡◌, ℕ, List, [], ◌∷◌, ◌++◌, append_assoc, ap, ◌∙◌}
use Rattle.domain_base.specs.declared.names.Node.{Node}
use Rattle.run_journal.specs.declared.acts.Act.{Act}
use Rattle.run_journal.specs.declared.acts.Act.TheVariants.{Opened, Drew}
use Rattle.run_journal.specs.declared.acts.Start.TheVariants.{Renew}
use Rattle.run_journal.specs.declared.reply.Reply.{Reply}
use Rattle.run_journal.specs.declared.acts.Drawn.TheVariants as draw
use Rattle.domain_rules.specs.Replies.{sent_acts}
use Rattle.ap_node.specs.Renewing.{renewal_acts}

pub two_added : (a b c : List Act) (x y : Act) → b ≡ a ++ x ∷ [] → c ≡ b ++ y ∷ [] → c ≡ a ++ x ∷ y ∷ []
two_added a b c x y b_is c_is = c_is ∙ ap (λ (l : List Act). l ++ y ∷ []) b_is ∙ append_assoc a (x ∷ []) (y ∷ [])

pub three_added : (a b c d : List Act) (x y z : Act) → b ≡ a ++ x ∷ [] → c ≡ b ++ y ∷ [] → d ≡ c ++ z ∷ [] → d ≡ a ++ x ∷ y ∷ z ∷ []
three_added a b c d x y z b_is c_is d_is = d_is ∙ ap (λ (l : List Act). l ++ z ∷ []) (two_added a b c x y b_is c_is) ∙ append_assoc a (x ∷ y ∷ []) (z ∷ [])

-- the renewal of a key begins
pub renewal_added : (a b c e : List Act) (p : Node) (v : List ℕ) (r : Reply) → b ≡ a ++ Opened p Renew ∷ [] → c ≡ b ++ Drew (draw.Nonce v) ∷ [] → e ≡ c ++ sent_acts p r → e ≡ a ++ renewal_acts p v r
renewal_added a b c e p v r b_is c_is e_is =
    e_is ∙ ap (λ (l : List Act). l ++ sent_acts p r) (two_added a b c _ _ b_is c_is) ∙ append_assoc a (Opened p Renew ∷ Drew (draw.Nonce v) ∷ []) (sent_acts p r)

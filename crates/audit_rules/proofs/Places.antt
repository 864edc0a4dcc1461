-- What the events of a round are, at which nodes: one list of places.
use Rattle.std.proofs.Common.{◌≡◌, ℕ, List, [], ◌∷◌, ◌++◌, Option, sym, ap, subst, ◌∙◌}
use Rattle.std.specs.Prelude.{take}
use Rattle.domain_base.specs.declared.names.Node.{Node}
use Rattle.run_journal.specs.declared.domain.Domain.{Domain}
use Rattle.run_journal.specs.declared.domain.Event.{Event}
use Rattle.run_journal.specs.declared.domain.Event.TheVariants.{Connect, Roam, Deliver, Alter, Cut, Inject, Retry, Rekey, Send, Expire, Revoke, Leave, Secret, Renew, Announce}
use Rattle.run_journal.specs.declared.acts.Entry.{Entry}
use Rattle.domain_rules.specs.Rows.{NodeEvent, Take}
use Rattle.domain_rules.specs.Rounds.{Place, secret_places}
use Rattle.domain_rules.specs.Explained.{HappensAt, Happens, At_one, At_many, AllHappen, altered}
use Rattle.domain_rules.proofs.Journals.{IsNumbered, one_frame}

-- what an event is, at which node
same_happens : (event : Event) (past : List Entry) (round : ℕ) (n m : Node) (x y : NodeEvent) → IsNumbered past → HappensAt event past round n x → HappensAt event past round m y → (n ≡ m) × (x ≡ y)
same_happens (Connect s a) past round n m x y is one two = (one.0 ∙ sym two.0, one.1 ∙ sym two.1)
same_happens (Roam s a) past round n m x y is one two = (one.0 ∙ sym two.0, one.1 ∙ sym two.1)
same_happens (Deliver number to) past round n m x y is (octets, (was, (at, event))) (others, (was_too, (at_too, event_too))) =
    (at ∙ sym at_too, event ∙ ap Take (one_frame past round number octets others is was was_too) ∙ sym event_too)
same_happens (Alter number place mask to) past round n m x y is (octets, (was, (at, event))) (others, (was_too, (at_too, event_too))) =
    (at ∙ sym at_too, event ∙ ap (λ (v : List ℕ). Take (altered place mask v)) (one_frame past round number octets others is was was_too) ∙ sym event_too)
same_happens (Cut number size to) past round n m x y is (octets, (was, (at, event))) (others, (was_too, (at_too, event_too))) =
    (at ∙ sym at_too, event ∙ ap (λ (v : List ℕ). Take (take size v)) (one_frame past round number octets others is was was_too) ∙ sym event_too)
same_happens (Inject to octets) past round n m x y is one two = (one.0 ∙ sym two.0, one.1 ∙ sym two.1)
same_happens (Retry a s) past round n m x y is one two = (one.0 ∙ sym two.0, one.1 ∙ sym two.1)
same_happens (Rekey a) past round n m x y is one two = (one.0 ∙ sym two.0, one.1 ∙ sym two.1)
same_happens (Send from to tid octets) past round n m x y is one two = (one.0 ∙ sym two.0, one.1 ∙ sym two.1)
same_happens (Expire a s) past round n m x y is one two = (one.0 ∙ sym two.0, one.1 ∙ sym two.1)
same_happens (Revoke a s) past round n m x y is one two = (one.0 ∙ sym two.0, one.1 ∙ sym two.1)
same_happens (Leave s) past round n m x y is one two = (one.0 ∙ sym two.0, one.1 ∙ sym two.1)
same_happens (Renew a s) past round n m x y is one two = (one.0 ∙ sym two.0, one.1 ∙ sym two.1)
same_happens (Announce a octets) past round n m x y is one two = (one.0 ∙ sym two.0, one.1 ∙ sym two.1)
same_happens (Secret named psk) past round n m x y is one two = absurd one

same_place : (p q : Place) → (p.node ≡ q.node) × (p.event ≡ q.event) → p ≡ q
same_place p q same = ap (λ (n : Node). place_at n p.event) same.0 ∙ ap (λ (e : NodeEvent). place_at q.node e) same.1
  where
    place_at : Node → NodeEvent → Place
    place_at n e = record { node = n; event = e }

-- a changed key is at no single node
at_no_node : (event : Event) (past : List Entry) (round : ℕ) (n : Node) (x : NodeEvent) (named : Option ℕ) (psk : List ℕ) → HappensAt event past round n x → event ≡ Secret named psk → ⊥
at_no_node event past round n x named psk happens is = subst (λ (e : Event). HappensAt e past round n x) is happens

abbrev places_of : Domain → Event → List Place
places_of d (Secret named psk) = secret_places d named psk
places_of d _ = []

one_places : (d : Domain) (event : Event) (past : List Entry) (round : ℕ) (xs ys : List Place) → IsNumbered past → Happens d event past round xs → Happens d event past round ys → xs ≡ ys
one_places d event past round xs ys is (At_one p one here_) (At_one q two there) =
    here_ ∙ ap (λ (x : Place). x ∷ []) (same_place p q (same_happens event past round p.node q.node p.event q.event is one two)) ∙ sym there
one_places d event past round xs ys is (At_one p one here_) (At_many named psk at there) = absurd (at_no_node event past round p.node p.event named psk one at)
one_places d event past round xs ys is (At_many named psk at here_) (At_one q two there) = absurd (at_no_node event past round q.node q.event named psk two at)
one_places d event past round xs ys is (At_many named psk at here_) (At_many other key at_too there) =
    let alike : Secret named psk ≡ Secret other key = sym at ∙ at_too in
    here_ ∙ ap (places_of d) alike ∙ sym there

pub all_places : (d : Domain) (events : List Event) (past : List Entry) (round : ℕ) (xs ys : List Place) → IsNumbered past → AllHappen d events past round xs → AllHappen d events past round ys → xs ≡ ys
all_places d [] past round xs ys is one two = one ∙ sym two
all_places d (event ∷ events) past round xs ys is (here_, (others, (one, (rest, cut)))) (here_too, (others_too, (two, (rest_too, cut_too)))) =
    cut ∙ ap (λ (l : List Place). l ++ others) (one_places d event past round here_ here_too is one two)
    ∙ ap (λ (l : List Place). here_too ++ l) (all_places d events past round others others_too is rest rest_too) ∙ sym cut_too

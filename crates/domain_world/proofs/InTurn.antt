-- Where events come one after the other by their nodes, they are the round that the definitions explain.
use Rattle.std.proofs.Common.{◌≡◌, ℕ, ◌<◌, Bool, true, false, cond, List, [], ◌∷◌, refl, sym, ap, subst, ◌∙◌, arith, inl, inr}
use Rattle.domain_base.specs.declared.names.Node.{Node}
use Rattle.run_journal.specs.declared.domain.Domain.{Domain}
use Rattle.run_journal.specs.declared.domain.Event.{Event}
use Rattle.run_journal.specs.declared.domain.Event.TheVariants.{Connect, Roam, Deliver, Alter, Cut, Inject, Retry, Rekey, Send, Expire, Revoke, Leave, Secret, Renew, Announce}
use Rattle.run_journal.specs.declared.acts.Act.{Act}
use Rattle.run_journal.specs.declared.acts.Entry.{Entry}
use Rattle.run_journal.specs.Premises.{In}
use Rattle.run_journal.specs.Questions.{history}
use Rattle.run_journal.specs.Secrets.{last_secret_in}
use Rattle.domain_rules.specs.Rows.{NodeEvent}
use Rattle.domain_rules.specs.Rounds.{Place, is_not_behind, put_place, in_order, secret_places}
use Rattle.domain_rules.specs.Explained.{HappensAt, Happens, At_one, At_many, AllHappen, AddsAll, number_of, push, WasSent, Follows}
use Rattle.domain_rules.specs.Present.{present}
use Rattle.domain_rules.proofs.Unchanged.{adds_no_secret, happens_still, last_push, present_same}
use Rattle.domain_rules.proofs.ChangedPresent.{same_places}
use Rattle.domain_world.specs.Ordering.{node_of, put_in, by_nodes, InTurn}

-- ---- what was sent before the round

-- the journal went on from the old one in that round alone
abbrev Since : ℕ → List Entry → List Entry → Type 0
Since round old new = (m : Entry) → In m new → m.round < round → In m old

since_push : (round : ℕ) (n : Node) (g : List Act) (old mid : List Entry) → Since round old mid → Since round old (push round n g mid)
since_push round n [] old mid since = since
since_push round n (e ∷ g) old mid since =
    since_push round n g old (record { round = round; node = n; number = number_of e mid; act = e } ∷ mid) (λ m there low. by m there low)
  where
    by : (m : Entry) → In m (record { round = round; node = n; number = number_of e mid; act = e } ∷ mid) → m.round < round → In m old
    by m (inl here) low = let same_round : m.round ≡ round = ap (λ (x : Entry). x.round) here in absurd (omega (arith, same_round, low))
    by m (inr there) low = since m there low

sent_before : (round number : ℕ) (octets : List ℕ) (old mid : List Entry) → Since round old mid → WasSent mid round number octets → WasSent old round number octets
sent_before round number octets old mid since w = record { entry = w.entry; there = since w.entry w.there w.earlier; earlier = w.earlier; is = w.is; act = w.act }

happens_before : (event : Event) (round : ℕ) (n : Node) (here : NodeEvent) (old mid : List Entry) → Since round old mid → HappensAt event mid round n here → HappensAt event old round n here
happens_before (Connect s a) round n here old mid since is = is
happens_before (Roam s a) round n here old mid since is = is
happens_before (Deliver number to) round n here old mid since is = (is.0, (sent_before round number is.0 old mid since is.1.0, is.1.1))
happens_before (Alter number place mask to) round n here old mid since is = (is.0, (sent_before round number is.0 old mid since is.1.0, is.1.1))
happens_before (Cut number size to) round n here old mid since is = (is.0, (sent_before round number is.0 old mid since is.1.0, is.1.1))
happens_before (Inject to octets) round n here old mid since is = is
happens_before (Retry a s) round n here old mid since is = is
happens_before (Rekey a) round n here old mid since is = is
happens_before (Send from to tid octets) round n here old mid since is = is
happens_before (Expire a s) round n here old mid since is = is
happens_before (Revoke a s) round n here old mid since is = is
happens_before (Leave s) round n here old mid since is = is
happens_before (Secret named psk) round n here old mid since is = is
happens_before (Renew a s) round n here old mid since is = is
happens_before (Announce a octets) round n here old mid since is = is

-- the node at which it is
happens_there : (event : Event) (past : List Entry) (round : ℕ) (n : Node) (here : NodeEvent) → HappensAt event past round n here → n ≡ node_of event
happens_there (Connect s a) past round n here is = is.0
happens_there (Roam s a) past round n here is = is.0
happens_there (Deliver number to) past round n here is = is.1.1.0
happens_there (Alter number place mask to) past round n here is = is.1.1.0
happens_there (Cut number size to) past round n here is = is.1.1.0
happens_there (Inject to octets) past round n here is = is.0
happens_there (Retry a s) past round n here is = is.0
happens_there (Rekey a) past round n here is = is.0
happens_there (Send from to tid octets) past round n here is = is.0
happens_there (Expire a s) past round n here is = is.0
happens_there (Revoke a s) past round n here is = is.0
happens_there (Leave s) past round n here is = is.0
happens_there (Secret named psk) past round n here is = absurd is
happens_there (Renew a s) past round n here is = is.0
happens_there (Announce a octets) past round n here is = is.0

-- ---- each event has its place

module _ (d : Domain) (round : ℕ) (old : List Entry) where
  abbrev Paired : List Event → List Place → Type 0
  Paired [] [] = Unit {0}
  Paired [] (p ∷ places) = ⊥
  Paired (event ∷ events) [] = ⊥
  Paired (event ∷ events) (p ∷ places) = HappensAt event old round p.node p.event × Paired events places

  -- one after the other
  record Run (events : List Event) (mid new : List Entry) : Type 0 where
    places : List Place
    paired : Paired events places
    adds : AddsAll d round places mid new

  run_of : (events : List Event) (mid new : List Entry) → Since round old mid → InTurn d round events mid new → Run events mid new
  run_of [] mid new since is = record { places = []; paired = tt; adds = is }
  run_of (event ∷ events) mid new since (next, (s, rest)) =
      let more : Since round old next = subst (λ (x : List Entry). Since round old x) (sym s.is) (since_push round s.node s.acts old mid since) in
      let w = run_of events next new more rest in
      record {
        places = record { node = s.node; event = s.at_node } ∷ w.places;
        paired = (happens_before event round s.node s.at_node old mid since s.happens, w.paired);
        adds = (s.acts, (s.group, subst (λ (x : List Entry). AddsAll d round w.places x new) s.is w.adds));
      }

  -- the places of an event and of others, from those of all of them in order
  record Split (event : Event) (events : List Event) (places : List Place) : Type 0 where
    p : Place
    rest : List Place
    happens : HappensAt event old round p.node p.event
    paired : Paired events rest
    is : places ≡ put_place p rest

  split_by : (event other : Event) (events : List Event) (places : List Place) → (b : Bool) → is_not_behind (node_of event) (node_of other) ≡ b
      → ((rest : List Place) → Paired (put_in event events) rest → Split event events rest)
      → Paired (cond b (event ∷ other ∷ events) (other ∷ put_in event events)) places → Split event (other ∷ events) places
  split_by event other events [] true is more paired = absurd paired
  split_by event other events (p ∷ []) true is more paired = absurd paired.1
  split_by event other events (p ∷ q ∷ places) true is more paired = record {
    p = p;
    rest = q ∷ places;
    happens = paired.0;
    paired = paired.1;
    is = sym (ap (λ (x : Bool). cond x (p ∷ q ∷ places) (q ∷ put_place p places)) (at p q paired.0 paired.1.0 ∙ is));
  }
    where
      at : (x y : Place) → HappensAt event old round x.node x.event → HappensAt other old round y.node y.event → is_not_behind x.node y.node ≡ is_not_behind (node_of event) (node_of other)
      at x y a b = ap (λ (n : Node). is_not_behind n y.node) (happens_there event old round x.node x.event a) ∙ ap (is_not_behind (node_of event)) (happens_there other old round y.node y.event b)
  split_by event other events [] false is more paired = absurd paired
  split_by event other events (q ∷ places) false is more paired =
      let w = more places paired.1 in
      record {
        p = w.p;
        rest = q ∷ w.rest;
        happens = w.happens;
        paired = (paired.0, w.paired);
        is = ap (λ (l : List Place). q ∷ l) w.is ∙ sym (ap (λ (x : Bool). cond x (w.p ∷ q ∷ w.rest) (q ∷ put_place w.p w.rest)) (at w.p q w.happens paired.0 ∙ is));
      }
    where
      at : (x y : Place) → HappensAt event old round x.node x.event → HappensAt other old round y.node y.event → is_not_behind x.node y.node ≡ is_not_behind (node_of event) (node_of other)
      at x y a b = ap (λ (n : Node). is_not_behind n y.node) (happens_there event old round x.node x.event a) ∙ ap (is_not_behind (node_of event)) (happens_there other old round y.node y.event b)

  split : (event : Event) (events : List Event) (places : List Place) → Paired (put_in event events) places → Split event events places
  split event [] [] paired = absurd paired
  split event [] (p ∷ []) paired = record { p = p; rest = []; happens = paired.0; paired = tt; is = refl }
  split event [] (p ∷ q ∷ places) paired = absurd paired.1
  split event (other ∷ events) places paired = split_by event other events places (is_not_behind (node_of event) (node_of other)) refl (split event events) paired

  record Sorted (events : List Event) (places : List Place) : Type 0 where
    rest : List Place
    paired : Paired events rest
    is : in_order rest ≡ places

  sorted : (events : List Event) (places : List Place) → Paired (by_nodes events) places → Sorted events places
  sorted [] [] paired = record { rest = []; paired = tt; is = refl }
  sorted [] (p ∷ places) paired = absurd paired
  sorted (event ∷ events) places paired =
      let w = split event (by_nodes events) places paired in
      let s = sorted events w.rest w.paired in
      record { rest = w.p ∷ s.rest; paired = (w.happens, s.paired); is = ap (put_place w.p) s.is ∙ sym w.is }

  all_happen : (events : List Event) (places : List Place) → Paired events places → AllHappen d events old round places
  all_happen [] [] paired = refl
  all_happen [] (p ∷ places) paired = absurd paired
  all_happen (event ∷ events) [] paired = absurd paired
  all_happen (event ∷ events) (p ∷ places) paired = (p ∷ [], (places, (At_one p paired.0 refl, (all_happen events places paired.1, refl))))

-- no key changes: the network is as it was
pub same_in_turn : (c d : Domain) (round : ℕ) (events : List Event) (old new : List Entry) → InTurn d round events old new → present c new ≡ present c old
same_in_turn c d round [] old new is = ap (present c) is
same_in_turn c d round (event ∷ events) old new (mid, (s, rest)) =
    let still = (happens_still event old round s.node s.at_node s.happens).1 in
    let none = adds_no_secret d 0 s.node (history s.node old) s.at_node s.acts still s.group in
    same_in_turn c d round events mid new rest
    ∙ present_same c mid old (λ p. ap (last_secret_in p) s.is ∙ last_push p round s.node s.acts old none)

pub follows_in_turn : (c d : Domain) (round : ℕ) (events : List Event) (old new : List Entry) → present c old ≡ d → InTurn d round (by_nodes events) old new → Follows c round events old new
follows_in_turn c d round events old new network turn =
    let w = run_of d round old (by_nodes events) old new (λ m there low. there) turn in
    let s = sorted d round old events w.places w.paired in
    record {
      places = s.rest;
      happen = at_header events s.rest (all_happen d round old events s.rest s.paired);
      adds = subst (λ (x : Domain). AddsAll x round (in_order s.rest) old new) (sym network) (subst (λ (l : List Place). AddsAll d round l old new) (sym s.is) w.adds);
    }
  where
    -- each is at one node, whatever the network
    at_header : (events : List Event) (places : List Place) → AllHappen d events old round places → AllHappen c events old round places
    at_header [] places is = is
    at_header (event ∷ events) places (here_, (others, (happens, (more, is)))) = (here_, (others, (one here_ happens, (at_header events others more, is))))
      where
        one : (here_ : List Place) → Happens d event old round here_ → Happens c event old round here_
        one here_ (At_one p at is) = At_one p at is
        one here_ (At_many named psk event_is is) = At_many named psk event_is (is ∙ places_same)
          where
            places_same : secret_places d named psk ≡ secret_places c named psk
            places_same = ap (λ (x : Domain). secret_places x named psk) (sym network) ∙ same_places c old named psk

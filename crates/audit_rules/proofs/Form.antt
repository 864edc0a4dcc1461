-- Events in form happen, each at nodes that can have it.
use Rattle.std.proofs.Common.{ℕ, zero, suc, Bool, true, false, cond, List, [], ◌∷◌, ◌++◌, length, Option, None, Some, refl}
use Rattle.std.specs.Prelude.{take}
use Rattle.std.specs.List.{AllByRecursion}
use Rattle.domain_base.specs.declared.names.Node.{Node}
use Rattle.domain_base.specs.declared.names.Node.TheVariants.{Ap, Sta}
use Rattle.run_journal.specs.declared.domain.Domain.{Domain}
use Rattle.run_journal.specs.declared.domain.Event.{Event}
use Rattle.run_journal.specs.declared.domain.Event.TheVariants.{Connect, Roam, Deliver, Alter, Cut, Inject, Retry, Rekey, Send, Expire, Revoke, Leave, Secret, Renew, Announce}
use Rattle.run_journal.specs.declared.acts.Entry.{Entry}
use Rattle.run_journal.specs.Events.{IsEventOf}
use Rattle.domain_rules.specs.Rows.{NodeEvent, Take, Begin}
use Rattle.domain_rules.specs.Rows as again
use Rattle.domain_rules.specs.Due.{AllCanCome, CanCome}
use Rattle.domain_rules.specs.Present.{present}
use Rattle.domain_rules.specs.Rounds.{Place, is_not_behind, put_place, in_order, at_aps, at_stas, at_named, secret_places}
use Rattle.domain_rules.specs.Explained.{HappensAt, Happens, At_one, At_many, AllHappen, altered}
use Rattle.audit_rules.specs.Files.{IsThere, AreInForm}

abbrev place : Node → NodeEvent → Place
place n event = record { node = n; event = event }

-- at these places an event happens, and each can have it
abbrev Comes : Domain → Event → List Entry → ℕ → Type 0
Comes d event j round = (places : List Place) × (Happens d event j round places × AllCanCome (present d j) places)

one : (d : Domain) (event : Event) (j : List Entry) (round : ℕ) (n : Node) (e : NodeEvent) → HappensAt event j round n e → CanCome (present d j) n e → Comes d event j round
one d event j round n e is can = (place n e ∷ [], (At_one (place n e) is refl, (can, tt)))

both_come : (d : Domain) (xs ys : List Place) → AllCanCome d xs → AllCanCome d ys → AllCanCome d (xs ++ ys)
both_come d [] ys a b = b
both_come d (x ∷ xs) ys a b = (a.0, both_come d xs ys a.1 b)

aps_come : (d : Domain) (named : Option ℕ) (psk : List ℕ) (m : ℕ) → AllCanCome d (at_aps (again.Secret named psk) m)
aps_come d named psk zero = tt
aps_come d named psk (suc m) = both_come d (at_aps (again.Secret named psk) m) (place (Ap m) (again.Secret named psk) ∷ []) (aps_come d named psk m) (tt, tt)

stas_come : (d : Domain) (named : Option ℕ) (psk : List ℕ) (m : ℕ) → AllCanCome d (at_stas (again.Secret named psk) m)
stas_come d named psk zero = tt
stas_come d named psk (suc m) = both_come d (at_stas (again.Secret named psk) m) (place (Sta m) (again.Secret named psk) ∷ []) (stas_come d named psk m) (tt, tt)

named_come : (c d : Domain) (named of : Option ℕ) (psk : List ℕ) → AllCanCome c (at_named d (again.Secret named psk) of)
named_come c d named None psk = stas_come c named psk (length d.stas)
named_come c d named (Some s) psk = (tt, tt)

comes : (d : Domain) (event : Event) (j : List Entry) (round : ℕ) → IsEventOf d (IsThere j round) event → Comes d event j round
comes d (Connect s a) j round is = one d (Connect s a) j round (Sta s) (Begin a) (refl, refl) tt
comes d (Roam s a) j round is = one d (Roam s a) j round (Sta s) (again.Roam a) (refl, refl) is.2
comes d (Deliver number to) j round is = (let (octets, (was, long)) = is.1 in one d (Deliver number to) j round to (Take octets) (octets, (was, (refl, refl))) tt)
comes d (Alter number at mask to) j round is = (let (octets, (was, long)) = is.1 in one d (Alter number at mask to) j round to (Take (altered at mask octets)) (octets, (was, (refl, refl))) tt)
comes d (Cut number size to) j round is = (let (octets, (was, long)) = is.1 in one d (Cut number size to) j round to (Take (take size octets)) (octets, (was, (refl, refl))) tt)
comes d (Inject to octets) j round is = one d (Inject to octets) j round to (Take octets) (refl, refl) tt
comes d (Retry a s) j round is = one d (Retry a s) j round (Ap a) (again.Retry s) (refl, refl) tt
comes d (Rekey a) j round is = one d (Rekey a) j round (Ap a) again.Rekey (refl, refl) refl
comes d (Send from to tid octets) j round is = one d (Send from to tid octets) j round from (again.Send to tid octets) (refl, refl) tt
comes d (Expire a s) j round is = one d (Expire a s) j round (Ap a) (again.Expire s) (refl, refl) tt
comes d (Revoke a s) j round is = one d (Revoke a s) j round (Ap a) (again.Revoke s) (refl, refl) tt
comes d (Leave s) j round is = one d (Leave s) j round (Sta s) again.Leave (refl, refl) tt
comes d (Secret named psk) j round is =
    (secret_places d named psk, (At_many named psk refl refl, both_come (present d j) (at_aps (again.Secret named psk) (length d.aps)) (at_named d (again.Secret named psk) named) (aps_come (present d j) named psk (length d.aps)) (named_come (present d j) d named named psk)))
comes d (Renew a s) j round is = one d (Renew a s) j round (Ap a) (again.Renew s) (refl, refl) (refl, is.2)
comes d (Announce a octets) j round is = one d (Announce a octets) j round (Ap a) (again.Announce octets) (refl, refl) (refl, is.2)

all_come : (d : Domain) (events : List Event) (j : List Entry) (round : ℕ) → AllByRecursion (IsEventOf d (IsThere j round)) events → (places : List Place) × (AllHappen d events j round places × AllCanCome (present d j) places)
all_come d [] j round form = ([], (refl, tt))
all_come d (event ∷ events) j round form =
    let (here_, (happens, can)) = comes d event j round form.0 in
    let (others, (rest, more)) = all_come d events j round form.1 in
    (here_ ++ others, ((here_, (others, (happens, (rest, refl)))), both_come (present d j) here_ others can more))

put_come : (d : Domain) (p : Place) (places : List Place) → CanCome d p.node p.event → AllCanCome d places → AllCanCome d (put_place p places)
put_come d p [] can all = (can, tt)
put_come d p (q ∷ places) can all = by (is_not_behind p.node q.node) (put_come d p places can all.1)
  where
    by : (b : Bool) → AllCanCome d (put_place p places) → AllCanCome d (cond b (p ∷ q ∷ places) (q ∷ put_place p places))
    by true rest = (can, all)
    by false rest = (all.0, rest)

order_come : (d : Domain) (places : List Place) → AllCanCome d places → AllCanCome d (in_order places)
order_come d [] all = tt
order_come d (p ∷ places) all = put_come d p (in_order places) all.0 (order_come d places all.1)

pub form_happens : (d : Domain) (j : List Entry) (round : ℕ) (events : List Event) → AreInForm d j round events → (places : List Place) × (AllHappen d events j round places × AllCanCome (present d j) (in_order places))
form_happens d j round events form =
    let (places, (happen, can)) = all_come d events j round form in
    (places, (happen, order_come (present d j) places can))

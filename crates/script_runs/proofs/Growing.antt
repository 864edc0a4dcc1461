-- A journal grows at its newer end.
use Rattle.std.proofs.Common.{◌≡◌, ℕ, ◌<◌, List, [], ◌∷◌, ◌++◌, length, append_assoc, refl, sym, ap, ◌∙◌, arith}
use Rattle.std.specs.List.{AllByRecursion}
use Rattle.script_runs.proofs.Sent.{same-journal, same-push, same-quiet}
use Rattle.script_runs.specs.Script.{sizes_before}
use Rattle.frame_script.specs.Headers.{size_sent}
use Rattle.script_runs.specs.States.{HasSame}
use Rattle.domain_base.specs.declared.names.Mac.{Mac}
use Rattle.domain_base.specs.declared.names.Node.{Node}
use Rattle.domain_base.specs.declared.names.Node.TheVariants.{Ap}
use Rattle.run_journal.specs.declared.domain.Domain.{Domain}
use Rattle.run_journal.specs.declared.domain.Event.{Event}
use Rattle.run_journal.specs.declared.acts.Act.{Act}
use Rattle.run_journal.specs.declared.acts.Entry.{Entry}
use Rattle.domain_rules.specs.AccessPointRows.{start_acts}
use Rattle.domain_rules.specs.Rounds.{Place, in_order}
use Rattle.domain_rules.specs.Present.{present}
use Rattle.domain_rules.specs.Explained.{AddsAll, number_of, push, Step, Follows, started}
use Rattle.run_journal.specs.Listing.{with_ap}
use Rattle.domain_rules.proofs.GroupActs.{all_started}
use Rattle.domain_world.proofs.Begun.{started_ap}
use Rattle.frame_script.specs.Headers.{Reading, HasSeen}

-- the new journal has the old one behind what is later, and has sent no frame more in the rounds up to that number
pub record Grows (rounds : ℕ) (old new : List Entry) : Type 0 where
  pub later : List Entry
  pub is : new ≡ later ++ old
  pub same : HasSame rounds old new

pub Grows-same : (rounds : ℕ) (j k : List Entry) → k ≡ j → Grows rounds j k
Grows-same rounds j k same = record { later = []; is = same; same = same-journal rounds j k same }

-- ---- what is later

-- what the new journal has before the old one is all of that round
pub record Late (round : ℕ) (old new : List Entry) : Type 0 where
  pub later : List Entry
  pub is : new ≡ later ++ old
  pub all : AllByRecursion (λ (e : Entry). e.round ≡ round) later

pub all_two : (round : ℕ) (xs ys : List Entry) → AllByRecursion (λ (e : Entry). e.round ≡ round) xs → AllByRecursion (λ (e : Entry). e.round ≡ round) ys → AllByRecursion (λ (e : Entry). e.round ≡ round) (xs ++ ys)
all_two round [] ys first then_ = then_
all_two round (e ∷ xs) ys first then_ = (first.0, all_two round xs ys first.1 then_)

pub Late-same : (round : ℕ) (j k : List Entry) → k ≡ j → Late round j k
Late-same round j k same = record { later = []; is = same; all = tt }

-- acts of one node
pub Late-push : (round : ℕ) (n : Node) (acts : List Act) (past : List Entry) → Late round past (push round n acts past)
Late-push round n [] past = record { later = []; is = refl; all = tt }
Late-push round n (act ∷ g) past =
    let e : Entry = record { round = round; node = n; number = number_of act past; act = act } in
    let more = Late-push round n g (e ∷ past) in
    record {
      later = more.later ++ e ∷ [];
      is = more.is ∙ sym (append_assoc more.later (e ∷ []) past);
      all = all_two round more.later (e ∷ []) more.all (refl, tt);
    }

-- and again
Late-more : (round : ℕ) (i j k : List Entry) → Late round i j → Late round j k → Late round i k
Late-more round i j k first then_ = record {
  later = then_.later ++ first.later;
  is = then_.is ∙ ap (λ (past : List Entry). then_.later ++ past) first.is ∙ sym (append_assoc then_.later first.later i);
  all = all_two round then_.later first.later then_.all first.all;
}

-- the events of a round
Late-adds : (d : Domain) (round : ℕ) (places : List Place) (j k : List Entry) → AddsAll d round places j k → Late round j k
Late-adds d round [] j k same = Late-same round j k same
Late-adds d round (p ∷ places) j k (acts, (adds, rest)) =
    let mid = push round p.node acts j in
    Late-more round j mid k (Late-push round p.node acts j) (Late-adds d round places mid k rest)

pub Late-follows : (d : Domain) (round : ℕ) (events : List Event) (j k : List Entry) → Follows d round events j k → Late round j k
Late-follows d round events j k follows = Late-adds (present d j) round (in_order follows.places) j k follows.adds

-- ---- a journal that grows

-- acts of one node, in a later round
Grows-push : (rounds round : ℕ) (n : Node) (acts : List Act) (past : List Entry) → rounds < round → Grows rounds past (push round n acts past)
Grows-push rounds round n acts past later =
    let more = Late-push round n acts past in
    record { later = more.later; is = more.is; same = λ m few. same-push m round n acts past (omega (arith, few, later)) }

-- and again
pub Grows-more : (rounds : ℕ) (i j k : List Entry) → Grows rounds i j → Grows rounds j k → Grows rounds i k
Grows-more rounds i j k first then_ = record {
  later = then_.later ++ first.later;
  is = then_.is ∙ ap (λ (past : List Entry). then_.later ++ past) first.is ∙ sym (append_assoc then_.later first.later i);
  same = λ m few. then_.same m few ∙ first.same m few;
}

-- the events of a later round
Grows-adds : (d : Domain) (rounds round : ℕ) (places : List Place) (j k : List Entry) → AddsAll d round places j k → rounds < round → Grows rounds j k
Grows-adds d rounds round [] j k same later = Grows-same rounds j k same
Grows-adds d rounds round (p ∷ places) j k (acts, (adds, rest)) later =
    let mid = push round p.node acts j in
    Grows-more rounds j mid k (Grows-push rounds round p.node acts j later) (Grows-adds d rounds round places mid k rest later)

pub Grows-follows : (d : Domain) (rounds round : ℕ) (events : List Event) (j k : List Entry) → Follows d round events j k → rounds < round → Grows rounds j k
Grows-follows d rounds round events j k follows later = Grows-adds (present d j) rounds round (in_order follows.places) j k follows.adds later

-- one alone
pub Grows-step : (d : Domain) (rounds round : ℕ) (event : Event) (j k : List Entry) → Step d round event j k → rounds < round → Grows rounds j k
Grows-step d rounds round event j k step later = Grows-follows d rounds round (event ∷ []) j k step later

-- an access point starts, which sends nothing
pub Grows-started : (d e : Domain) (rounds : ℕ) (address : Mac) (id : List ℕ) (j k : List Entry) → e ≡ with_ap d address id → j ≡ started d (length d.aps) → k ≡ started e (length e.aps) → Grows rounds j k
Grows-started d e rounds address id j k network before after =
    let acts = start_acts e 0 (Ap (length d.aps)) in
    let is = started_ap d e address id (Ap (length d.aps)) acts j (push 0 (Ap (length d.aps)) acts j) network refl refl refl before in
    let more = Late-push 0 (Ap (length d.aps)) acts j in
    record {
      later = more.later;
      is = after ∙ sym is ∙ more.is;
      same = λ m few. ap (sizes_before m) (after ∙ sym is) ∙ same-quiet m 0 (Ap (length d.aps)) acts j (all_started (λ (act : Act). size_sent act ≡ []) (λ which key. refl) (λ which key id b. refl) e 0 (Ap (length d.aps)));
    }

-- a reader that has seen its front has seen the front of what it grows to
pub HasSeen-more : (r : Reading) (rounds : ℕ) (j k : List Entry) → HasSeen r j → Grows rounds j k → HasSeen r k
HasSeen-more r rounds j k has more = record {
  later = more.later ++ has.later;
  earlier = has.earlier;
  is = more.is ∙ ap (λ (past : List Entry). more.later ++ past) has.is ∙ sym (append_assoc more.later has.later has.earlier);
  seen = has.seen;
  sizes = has.sizes;
}

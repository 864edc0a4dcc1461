-- A round in which the key of the station is changed, of examples with suite 4: at both access points, and at the station.
use Rattle.std.proofs.Common.{◌≡◌, ℕ, suc, ◌≤◌, List, [], ◌∷◌, length, Some, refl, sym, ap, subst, ◌∙◌, arith}
use Rattle.domain_base.specs.declared.names.Node.TheVariants.{Ap, Sta}
use Rattle.domain_base.specs.declared.names.Node.{Node}
use Rattle.domain_rules.proofs.Journals.{history-push, history-other, explained_round}
use Rattle.domain_rules.proofs.PresentNetwork.{earlier_push, earlier_below}
use Rattle.domain_rules.specs.Explained.{At_many, AddsAll, push, Explained, Follows}
use Rattle.domain_rules.specs.HeldRight.{AnsweredInTime}
use Rattle.domain_rules.specs.Here.{here}
use Rattle.domain_rules.specs.Present.{present, earlier}
use Rattle.domain_rules.specs.Rounds.{Place}
use Rattle.domain_rules.specs.Rows as event
use Rattle.domain_rules.specs.Rows.{Adds}
use Rattle.run_journal.specs.Holders.{answers}
use Rattle.run_journal.specs.Questions.{history, add}
use Rattle.run_journal.specs.declared.acts.Act.{Act}
use Rattle.run_journal.specs.declared.acts.Entry.{Entry}
use Rattle.run_journal.specs.declared.domain.Domain.{Domain}
use Rattle.run_journal.specs.declared.domain.Event.TheVariants as asks
use Rattle.run_journal.specs.declared.domain.Event.{Event}
use Rattle.example_domains.proofs.Moments.{IsLow, quiet, low_push, right_push}
use Rattle.example_domains.proofs.RoamingActs as w
use Rattle.example_domains.proofs.Stages.{Stage, Sending, sending_push, sent_after, more_rounds, more_low}
use Rattle.example_domains.specs.ChangedKey.{second_pair}

-- the header has the key psk. The station's key is `was`, and is changed to `key`: these are the acts of the first access point, of the second one
-- and of the station
module _ (seed ssid psk mdid was key : List ℕ) (rounds : List (List Event)) (sta aps to : List Act) (sent : List (List ℕ)) (st : Stage (w.d (second_pair seed ssid psk mdid) 0 1 0) (w.d (second_pair seed ssid was mdid) 0 1 0) 0 1 0 rounds sta aps to sent) (first second own : List Act) where
  abbrev h : Domain
  h = w.d (second_pair seed ssid psk mdid) 0 1 0

  abbrev d : Domain
  d = w.d (second_pair seed ssid was mdid) 0 1 0

  abbrev e : Domain
  e = w.d (second_pair seed ssid key mdid) 0 1 0

  abbrev a : Node
  a = Ap 0

  abbrev b : Node
  b = Ap 1

  abbrev s : Node
  s = Sta 0

  abbrev now : ℕ
  now = suc (length rounds)

  abbrev x : event.NodeEvent
  x = event.Secret (Some 0) key

  abbrev one : List Entry
  one = push now a first st.journal

  abbrev two : List Entry
  two = push now b second one

  abbrev pub after : List Entry
  after = push now s own two

  -- ---- the histories

  second_is : history b one ≡ to
  second_is = history-other now a b first st.journal refl ∙ st.to_is

  own_is : history s two ≡ sta
  own_is = history-other now b s second one refl ∙ history-other now a s first st.journal refl ∙ st.sta_is

  pub sta_after : history s after ≡ add own sta
  sta_after = history-push now s own two ∙ ap (add own) own_is

  pub ap_after : history a after ≡ add first aps
  ap_after = history-other now s a own two refl ∙ history-other now b a second one refl ∙ history-push now a first st.journal ∙ ap (add first) st.ap_is

  pub to_after : history b after ≡ add second to
  to_after = history-other now s b own two refl ∙ history-push now b second one ∙ ap (add second) second_is

  -- ---- what was before

  pub earlier_after : (round : ℕ) → round ≤ now → earlier round after ≡ earlier round st.journal
  earlier_after round low = earlier_push round now s own two low ∙ earlier_push round now b second one low ∙ earlier_push round now a first st.journal low

  pub before_after : earlier now after ≡ st.journal
  before_after = earlier_after now (omega arith) ∙ earlier_below now (length rounds) st.journal (omega arith) st.low

  low_old : IsLow now st.journal
  low_old = more_low (length rounds) st.journal st.low

  low_one : IsLow now one
  low_one = low_push now a first st.journal low_old

  low_two : IsLow now two
  low_two = low_push now b second one low_one

  -- ---- no key is looked up

  pub right_after : answers first ≡ [] → answers second ≡ [] → answers own ≡ [] → AnsweredInTime h after
  right_after quiet_first quiet_second quiet_own =
      let right_one : AnsweredInTime h one = right_push h now a first st.journal st.right low_old (quiet h now a first st.journal quiet_first) in
      let right_two : AnsweredInTime h two = right_push h now b second one right_one low_one (quiet h now b second one quiet_second) in
      right_push h now s own two right_two low_two (quiet h now s own two quiet_own)

  sending : Sending after (suc now) (sent_after own (sent_after second (sent_after first sent)))
  sending = sending_push two now s own (sent_after second (sent_after first sent))
      (sending_push one now b second (sent_after first sent) (sending_push st.journal now a first sent (record { count = st.count; were = more_rounds st.journal now sent st.were })))

  -- ---- the round

  abbrev rounds_after : List (List Event)
  rounds_after = (asks.Secret (Some 0) key ∷ []) ∷ rounds

  abbrev places : List Place
  places = record { node = a; event = x } ∷ record { node = b; event = x } ∷ record { node = s; event = x } ∷ []

  module _ (first_adds : Adds (here d 0 a) aps x first) (second_adds : Adds (here d 0 b) to x second) (own_adds : Adds (here d 0 s) sta x own) where
    adds : AddsAll d now places st.journal after
    adds = (
      first,
      (
        subst (λ (g : List Act). Adds (here d 0 a) g x first) (sym st.ap_is) first_adds,
        (
          second,
          (
            subst (λ (g : List Act). Adds (here d 0 b) g x second) (sym second_is) second_adds,
            (own, (subst (λ (g : List Act). Adds (here d 0 s) g x own) (sym own_is) own_adds, refl)),
          ),
        ),
      ),
    )

    follows : Follows h now (asks.Secret (Some 0) key ∷ []) st.journal after
    follows = record {
      places = places;
      happen = (places, ([], (At_many (Some 0) key refl refl, (refl, refl))));
      adds = subst (λ (n : Domain). AddsAll n now places st.journal after) (sym st.network) adds;
    }

    pub explained_after : Explained h rounds_after after
    explained_after = explained_round h rounds (asks.Secret (Some 0) key ∷ []) st.journal after st.explained follows

    pub stage_after : answers first ≡ [] → answers second ≡ [] → answers own ≡ [] → present h after ≡ e
        → Stage h e 0 1 0 rounds_after (add own sta) (add first aps) (add second to) (sent_after own (sent_after second (sent_after first sent)))
    stage_after quiet_first quiet_second quiet_own network = record {
      journal = after;
      explained = explained_after;
      network = network;
      sta_is = sta_after;
      ap_is = ap_after;
      to_is = to_after;
      count = sending.count;
      were = sending.were;
      right = right_after quiet_first quiet_second quiet_own;
      low = low_push now s own two low_two;
    }

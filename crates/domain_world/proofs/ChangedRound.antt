-- What the round of a changed key is: how many acts a node adds, and that the journal goes on by it in the network with that key.
use Rattle.std.proofs.Common.{◌≡◌, ◌∙◌, ℕ, zero, suc, ◌+◌, ◌*◌, ◌≤◌, ◌<◌, List, [], ◌∷◌, ◌++◌, append-nil, length, length-append, true≢false, Option, Some, None, Result, Ok, Err, refl, sym, ap, subst, arith, false}
use Rattle.std.specs.Prelude.{OnOk}
use Rattle.std.specs.List.{AllByRecursion}
use Rattle.domain_base.specs.declared.names.Akm.{Akm}
use Rattle.domain_base.specs.declared.names.Akm.TheVariants.{Psk, PskSha256, FtPsk}
use Rattle.domain_base.specs.declared.names.Node.{Node}
use Rattle.domain_base.specs.declared.names.Node.TheVariants.{Ap, Sta}
use Rattle.run_journal.specs.declared.domain.Domain.{Domain}
use Rattle.run_journal.specs.declared.domain.Event.{Event}
use Rattle.run_journal.specs.declared.domain.Event.TheVariants as asks
use Rattle.run_journal.specs.declared.acts.Act.{Act}
use Rattle.run_journal.specs.declared.acts.Act.TheVariants.{Secret as Changes}
use Rattle.run_journal.specs.declared.acts.Entry.{Entry}
use Rattle.run_journal.specs.Acts.{Derivation}
use Rattle.run_journal.specs.Changed.{changed, changed_by}
use Rattle.run_journal.specs.Secrets.{changes_keys}
use Rattle.run_journal.specs.Questions.{history, add, attempt, session, pending, associated}
use Rattle.domain_rules.specs.Here.{here}
use Rattle.domain_rules.specs.Closing.{close_attempt, close_session, close_pending, close_associated}
use Rattle.domain_rules.specs.ChangedKeys.{old_row_by, secret_of, secret_of_each, secret_acts}
use Rattle.domain_rules.specs.KeyHolders.{revoke_acts_by}
use Rattle.domain_rules.specs.Owing.{and_switch}
use Rattle.domain_rules.specs.Rows.{NodeEvent, Secret, Adds}
use Rattle.domain_rules.specs.Rounds.{Place, in_order, at_aps, at_stas, secret_places}
use Rattle.domain_rules.specs.Network.{InForm}
use Rattle.domain_rules.specs.InOctets.{InOctets}
use Rattle.run_journal.specs.Events.{IsListed, NamesSta}
use Rattle.domain_rules.proofs.ChangedNetwork.{length_rekeyed, in_form_changed, octets_changed}
use Rattle.domain_rules.specs.Present.{present}
use Rattle.domain_rules.specs.HeldRight.{AllInTime, AnsweredInTime}
use Rattle.domain_rules.specs.Explained.{push, At_many, AddsAll, Step}
use Rattle.domain_rules.proofs.ChangedPresent.{secret_in_order, same_places, present_changed}
use Rattle.domain_rules.proofs.KeysPresent.{IsPlace, all_places}
use Rattle.node_base.specs.Changing.{most_changed}
use Rattle.held_rows.proofs.NoLooks.{secret_no_looks}
use Rattle.domain_world.specs.State.{State}
use Rattle.domain_world.specs.Changing.{AreChanged}
use Rattle.domain_world.specs.Owning.{AreListed, IsNumbered, IsPast, Owns, IsSince, nodes_of, places}
use Rattle.domain_world.proofs.Placed.{places_count, numbered_push}
use Rattle.domain_world.proofs.Standing.{past_push, past_more}
use Rattle.domain_world.proofs.Few.{short_switched}
use Rattle.domain_world.proofs.Owned.{all_below}
use Rattle.domain_world.proofs.Moments.{Below, below_up, Grown, same_grown, grown_on, grown_push, right_grown, right_unasked}

-- ---- how many acts there are

short_row : (akm : Akm) (d : Domain) (n : Node) (h : List Act) (p : Node) → length (old_row_by akm d n h p) ≤ 1
short_row Psk d n h p = omega arith
short_row PskSha256 d n h p = omega arith
short_row FtPsk d n h p = revoked d.akm
  where
    revoked : (akm : Akm) → length (revoke_acts_by akm d n h p) ≤ 1
    revoked Psk = omega arith
    revoked PskSha256 = omega arith
    revoked FtPsk = omega arith

short_ends : (p : Node) (psk : List ℕ) (a : Option (List Act)) (s : Option Derivation) → length (close_attempt p a ++ (close_session p s ++ Changes p psk ∷ [])) ≤ 3
short_ends p psk None None = omega arith
short_ends p psk None (Some x) = omega arith
short_ends p psk (Some part) None = omega arith
short_ends p psk (Some part) (Some x) = omega arith

short_one : (d : Domain) (n : Node) (h : List Act) (psk : List ℕ) (p : Node) → length (secret_of d n h psk p) ≤ 4
short_one d n h psk p = omega (arith, length-append (old_row_by d.akm d n h p) (close_attempt p (attempt p h) ++ (close_session p (session p h) ++ Changes p psk ∷ [])), short_row d.akm d n h p, short_ends p psk (attempt p h) (session p h))

short_each : (d : Domain) (n : Node) (h : List Act) (psk : List ℕ) (k : ℕ) → length (secret_of_each d n h psk k) ≤ 4 * k
short_each d n h psk zero = omega arith
short_each d n h psk (suc k) = omega (arith, length-append (secret_of_each d n h psk k) (secret_of d n (add (secret_of_each d n h psk k) h) psk (Sta k)), short_each d n h psk k, short_one d n (add (secret_of_each d n h psk k) h) psk (Sta k))

short_drop : (s : ℕ) (psk : List ℕ) (o q : Option Node) → length (close_pending o ++ (close_associated q ++ Changes (Sta s) psk ∷ [])) ≤ 3
short_drop s psk None None = omega arith
short_drop s psk None (Some q) = omega arith
short_drop s psk (Some o) None = omega arith
short_drop s psk (Some o) (Some q) = omega arith

short_acts : (d : Domain) (n : Node) (h : List Act) (named : Option ℕ) (psk : List ℕ) → length (secret_acts d n h named psk) ≤ 4 + 4 * length d.stas
short_acts d (Ap a) h (Some s) psk = omega (arith, short_one d (Ap a) h psk (Sta s))
short_acts d (Ap a) h None psk = omega (arith, short_each d (Ap a) h psk (length d.stas))
short_acts d (Sta s) h named psk = omega (arith, short_drop s psk (pending h) (associated h))

pub few_changed : (d : Domain) (first : ℕ) (n : Node) (h : List Act) (named : Option ℕ) (psk : List ℕ) (g : List Act) → Adds (here d first n) h (Secret named psk) g → length g ≤ most_changed (length d.stas)
few_changed d first n h named psk g adds =
    omega (arith, ap length (adds.is ∙ ap (and_switch d n h) adds.row), short_switched d n h (secret_acts d n h named psk), short_acts d n h named psk)

-- ---- one place after the other

pub adds_append : (d : Domain) (round : ℕ) (f g : List Place) (i j k : List Entry) → AddsAll d round f i j → AddsAll d round g j k → AddsAll d round (f ++ g) i k
adds_append d round [] g i j k is rest = subst (λ (l : List Entry). AddsAll d round g l k) is rest
adds_append d round (p ∷ f) g i j k (acts, (adds, more)) rest = (acts, (adds, adds_append d round f g (push round p.node acts i) j k more rest))

-- one more at the end
pub adds_one : (d : Domain) (round : ℕ) (f : List Place) (p : Place) (acts : List Act) (i j k : List Entry) → AddsAll d round f i j → Adds (here d 0 p.node) (history p.node j) p.event acts → k ≡ push round p.node acts j → AddsAll d round (f ++ p ∷ []) i k
adds_one d round f p acts i j k before adds is = adds_append d round f (p ∷ []) i j k before (acts, (adds, is))

grown_adds : (d : Domain) (round : ℕ) (places : List Place) (j k : List Entry) → AddsAll d round places j k → Grown round j k
grown_adds d round [] j k is = subst (Grown round j) (sym is) (same_grown round j)
grown_adds d round (p ∷ places) j k (acts, (adds, rest)) = grown_on round j (push round p.node acts j) k (grown_push round p.node acts j) (grown_adds d round places (push round p.node acts j) k rest)

-- ---- no key holder is asked

right_places : (c d : Domain) (round : ℕ) (named : Option ℕ) (psk : List ℕ) (places : List Place) (j k whole : List Entry) → AllByRecursion (IsPlace named psk) places → AddsAll d round places j k → AllInTime c whole j → AllInTime c whole k
right_places c d round named psk [] j k whole all is before = subst (AllInTime c whole) (sym is) before
right_places c d round named psk (p ∷ places) j k whole all (acts, (adds, rest)) before =
    let none = secret_no_looks d 0 p.node (history p.node j) named psk acts (subst (λ (e : NodeEvent). Adds (here d 0 p.node) (history p.node j) e acts) all.0.0 adds) in
    right_places c d round named psk places (push round p.node acts j) k whole all.1 rest (right_unasked c round p.node acts whole j none before)

pub right_changed : (c d : Domain) (round : ℕ) (named : Option ℕ) (psk : List ℕ) (j k : List Entry) → Below round j → AddsAll d round (secret_places d named psk) j k → AnsweredInTime c j → AnsweredInTime c k
right_changed c d round named psk j k below adds right =
    right_places c d round named psk (secret_places d named psk) j k k (all_places d named psk) adds (right_grown c round j k (grown_adds d round (secret_places d named psk) j k adds) (below_up round j below) right)

-- ---- the round, by a header

-- the places as the header has them
by_header : (c d : Domain) (round : ℕ) (named : Option ℕ) (psk : List ℕ) (j k : List Entry) → present c j ≡ d → AddsAll d round (secret_places d named psk) j k → AddsAll (present c j) round (in_order (secret_places c named psk)) j k
by_header c d round named psk j k network adds =
    subst (λ (l : List Place). AddsAll (present c j) round l j k) (same_places c j named psk ∙ sym (secret_in_order c named psk))
    (subst (λ (x : Domain). AddsAll x round (secret_places x named psk) j k) (sym network) adds)

pub step_changed : (c d : Domain) (round : ℕ) (named : Option ℕ) (psk : List ℕ) (j k : List Entry) → present c j ≡ d → AddsAll d round (secret_places d named psk) j k → Step c round (asks.Secret named psk) j k
step_changed c d round named psk j k network adds = record {
  places = secret_places c named psk;
  happen = (secret_places c named psk, ([], (At_many named psk refl refl, (refl, sym (append-nil (secret_places c named psk))))));
  adds = by_header c d round named psk j k network adds;
}

pub since_changed : (c : Domain) (old new : State) (round : ℕ) (named : Option ℕ) (psk : List ℕ) (j k : List Entry) → IsSince c old j → Below round j → AddsAll old.domain round (secret_places old.domain named psk) j k → new.domain ≡ changed old.domain named psk → IsSince c new k
since_changed c old new round named psk j k since below adds domain = record {
  is_present = present_changed c round named psk j k (by_header c old.domain round named psk j k since.is_present adds) ∙ ap (λ (d : Domain). changed d named psk) since.is_present ∙ sym domain;
  right = right_changed c old.domain round named psk j k below adds since.right;
}

-- ---- the world

still_listed : (d : Domain) (named : Option ℕ) (psk : List ℕ) (n : Node) → IsListed d n → IsListed (changed d named psk) n
still_listed d named psk (Ap k) low = low
still_listed d named psk (Sta k) low = subst (λ (m : ℕ). k < m) (sym (length_rekeyed named psk 0 d.stas)) low

all_append : (P : Place → Type 0) (xs ys : List Place) → AllByRecursion P xs → AllByRecursion P ys → AllByRecursion P (xs ++ ys)
all_append P [] ys one more = more
all_append P (x ∷ xs) ys one more = (one.0, all_append P xs ys one.1 more)

listed_aps : (d : Domain) (x : NodeEvent) (k : ℕ) → k ≤ length d.aps → AllByRecursion (λ (p : Place). IsListed d p.node) (at_aps x k)
listed_aps d x zero low = tt
listed_aps d x (suc k) low = all_append _ (at_aps x k) _ (listed_aps d x k (omega (arith, low))) (omega (arith, low), tt)

listed_stas : (d : Domain) (x : NodeEvent) (k : ℕ) → k ≤ length d.stas → AllByRecursion (λ (p : Place). IsListed d p.node) (at_stas x k)
listed_stas d x zero low = tt
listed_stas d x (suc k) low = all_append _ (at_stas x k) _ (listed_stas d x k (omega (arith, low))) (omega (arith, low), tt)

listed_places : (d : Domain) (named : Option ℕ) (psk : List ℕ) → NamesSta d named → AllByRecursion (λ (p : Place). IsListed d p.node) (secret_places d named psk)
listed_places d (Some s) psk low = all_append _ (at_aps (Secret (Some s) psk) (length d.aps)) _ (listed_aps d (Secret (Some s) psk) (length d.aps) (omega arith)) (low, tt)
listed_places d None psk low = all_append _ (at_aps (Secret None psk) (length d.aps)) _ (listed_aps d (Secret None psk) (length d.aps) (omega arith)) (listed_stas d (Secret None psk) (length d.stas) (omega arith))

placed_adds : (d : Domain) (rounds round : ℕ) (places : List Place) (j k : List Entry) → round ≤ rounds → AllByRecursion (λ (p : Place). IsListed d p.node) places → AddsAll d round places j k → IsNumbered j → AllByRecursion (IsPast d rounds) j
    → IsNumbered k × AllByRecursion (IsPast d rounds) k
placed_adds d rounds round [] j k low listed is numbered past = (subst IsNumbered (sym is) numbered, subst (AllByRecursion (IsPast d rounds)) (sym is) past)
placed_adds d rounds round (p ∷ places) j k low listed (acts, (adds, rest)) numbered past =
    placed_adds d rounds round places (push round p.node acts j) k low listed.1 rest (numbered_push round p.node acts j numbered) (past_push d rounds round p.node acts j low listed.0 past)

pub own_changed : (old new : State) (named : Option ℕ) (psk : List ℕ) (j k : List Entry) → Owns old j → NamesSta old.domain named → AreChanged (record { round = suc old.rounds; named = named; psk = psk }) (nodes_of old) (nodes_of new) j k → AreListed (nodes_of new)
    → new.rounds ≡ suc old.rounds → new.usable ≡ old.usable → new.frames ≡ places k → Owns new k
own_changed old new named psk j k own names done all rounds usable noted =
    let more : (n : Node) → IsListed old.domain n → IsListed new.domain n = λ n l. subst (λ (d : Domain). IsListed d n) (sym done.domain) (still_listed old.domain named psk n l) in
    let past = past_more old.domain old.domain old.rounds (suc old.rounds) j (omega arith) (λ n l. l) own.placed.past in
    let placed = placed_adds old.domain (suc old.rounds) (suc old.rounds) (secret_places old.domain named psk) j k (omega arith) (listed_places old.domain named psk names) done.adds own.placed.numbered past in
    record {
      usable = usable ∙ own.usable;
      form = subst InForm (sym done.domain) (in_form_changed named psk old.domain own.form);
      octets = subst InOctets (sym done.domain) (octets_changed named psk old.domain own.octets);
      listed = all;
      stand = done.stand;
      placed = record {
        count = ap length noted ∙ places_count k;
        numbered = placed.0;
        places = noted;
        past = subst (λ (r : ℕ). AllByRecursion (IsPast new.domain r) k) (sym rounds) (past_more old.domain new.domain (suc old.rounds) (suc old.rounds) k (omega arith) more placed.1);
      };
      unchanged = λ none. absurd (omega (arith, none, rounds));
      quiet = λ none. absurd (omega (arith, none, rounds));
      asked = λ none. absurd (omega (arith, none, rounds));
      header = (own.header.0, since_changed own.header.0 old new (suc old.rounds) named psk j k own.header.1 (all_below old.domain old.rounds j own.placed.past) done.adds done.domain);
    }

-- ---- an event that changes a key, or none

pub by_event : {A E : Type 0} (r : Result A E) (event other : Event) (P : Event → Type 0) → event ≡ other → OnOk r (P other) → OnOk r (P event)
by_event r event other P is at = subst (λ (e : Event). OnOk r (P e)) (sym is) at

pub not_secret : (event : Event) → ((named : Option ℕ) (psk : List ℕ) → event ≡ asks.Secret named psk → ⊥) → changes_keys event ≡ false
not_secret (asks.Secret named psk) other = absurd (other named psk refl)
not_secret _ other = refl

-- without a changed key the network is as it was
pub still_network : {A E : Type 0} (r : Result A E) (old new : Domain) (event : Event) → changes_keys event ≡ false → new ≡ old → OnOk r (new ≡ changed_by old event)
still_network r old new (asks.Secret named psk) still same = absurd (true≢false still)
still_network (Ok x) old new _ still same = same
still_network (Err e) old new _ still same = tt

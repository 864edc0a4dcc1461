-- What acts that are put on a journal do to histories, and the one journal of some rounds.
use Rattle.std.proofs.Common.{◌≡◌, ℕ, zero, suc, ◌<◌, ◌≤◌, Bool, true, false, true≢false, cond, List, [], ◌∷◌, ◌++◌, length, Option, Some, None, refl, sym, ap, subst, ◌∙◌, arith, inl, inr}
use Rattle.std.specs.Prelude.{codes, take}
use Rattle.std.specs.Int.{w64, to_be_bytes}
use Rattle.std.specs.List.{AllByRecursion}
use Rattle.std.proofs.lemmas.Bool.{cases_lt}
use Rattle.domain_base.specs.declared.names.Mac.{Mac}
use Rattle.domain_base.specs.declared.names.Peer.TheVariants.{All}
use Rattle.mac_prf.specs.Prf.{kdf}
use Rattle.run_journal.specs.declared.acts.GroupKind.TheVariants as groups
use Rattle.run_journal.specs.declared.acts.Drawn.TheVariants as draw
use Rattle.run_journal.specs.declared.acts.Key.TheVariants.{Group}
use Rattle.domain_rules.specs.Network.{mac, gtk}
use Rattle.domain_base.specs.declared.names.Node.{Node}
use Rattle.domain_base.specs.declared.names.Node.TheVariants.{Ap, Sta}
use Rattle.run_journal.specs.declared.domain.Domain.{Domain}
use Rattle.run_journal.specs.Events.{protects}
use Rattle.run_journal.specs.declared.domain.Event.{Event}
use Rattle.run_journal.specs.declared.domain.Event.TheVariants.{Connect, Roam, Deliver, Alter, Cut, Inject, Retry, Rekey, Send, Expire, Revoke, Leave, Secret, Renew, Announce}
use Rattle.run_journal.specs.declared.acts.Act.{Act}
use Rattle.run_journal.specs.declared.acts.Act.TheVariants.{Drew, Installed}
use Rattle.run_journal.specs.declared.acts.Entry.{Entry}
use Rattle.run_journal.specs.Acts.{same, is_sent}
use Rattle.run_journal.specs.Questions.{history, listed, add}
use Rattle.run_journal.specs.Premises.{In}
use Rattle.domain_rules.specs.Rows.{NodeEvent, Take, Adds}
use Rattle.domain_rules.specs.Owing.{current_act, current_igtk}
use Rattle.domain_rules.specs.AccessPointRows.{draw_igtk, start_acts}
use Rattle.domain_rules.specs.Explained.{HappensAt, Happens, At_one, At_many, AllHappen, AddsAll, frames, number_of, push, altered, WasSent, Step, Follows, started, Explained}
use Rattle.domain_rules.specs.Here.{here}
use Rattle.domain_rules.proofs.Parts.{same-refl, same-other}
use Rattle.domain_rules.proofs.OneGroup.{one_group, group_looks}
use Rattle.domain_rules.specs.Rounds.{Place, in_order, secret_places}
use Rattle.domain_rules.specs.Present.{present}
use Rattle.run_journal.specs.Secrets.{last_secret_in, changes_keys, rounds_change_keys}
use Rattle.domain_rules.proofs.Unchanged.{adds_no_secret, last_push, present_same, happens_still, same_network}
use Rattle.key_hierarchy.specs.declared.answers.PullAnswer.{PullAnswer}
use Rattle.run_journal.specs.Holders.{answer_of, answers, answers_in}
use Rattle.std.proofs.lemmas.List.{append-nil, append_assoc, length-append}

-- ---- histories

-- of the node itself
pub history-push : (round : ℕ) (n : Node) (g : List Act) (past : List Entry) → history n (push round n g past) ≡ add g (history n past)
history-push round n [] past = refl
history-push round n (e ∷ g) past = history-push round n g (record { round = round; node = n; number = number_of e past; act = e } ∷ past) ∙ ap (add g) (rw (same-refl n) refl)

-- of every other node
pub history-other : (round : ℕ) (n m : Node) (g : List Act) (past : List Entry) → same m n ≡ false → history m (push round n g past) ≡ history m past
history-other round n m [] past other = refl
history-other round n m (e ∷ g) past other = history-other round n m g (record { round = round; node = n; number = number_of e past; act = e } ∷ past) other ∙ rw other refl

-- ---- frames sent are numbered one after the other

abbrev pub IsNumbered : List Entry → Type 0
IsNumbered [] = Unit {0}
IsNumbered (e ∷ past) = (e.number ≡ number_of e.act past) × IsNumbered past

numbered-push : (round : ℕ) (n : Node) (g : List Act) (past : List Entry) → IsNumbered past → IsNumbered (push round n g past)
numbered-push round n [] past is = is
numbered-push round n (e ∷ g) past is = numbered-push round n g (record { round = round; node = n; number = number_of e past; act = e } ∷ past) (refl, is)

numbered-all : (d : Domain) (round : ℕ) (places : List Place) (old new : List Entry) → AddsAll d round places old new → IsNumbered old → IsNumbered new
numbered-all d round [] old new is numbered = subst IsNumbered (sym is) numbered
numbered-all d round (p ∷ places) old new (acts, (adds, rest)) numbered = numbered-all d round places (push round p.node acts old) new rest (numbered-push round p.node acts old numbered)

pub numbered-follows : (d : Domain) (round : ℕ) (events : List Event) (old new : List Entry) → Follows d round events old new → IsNumbered old → IsNumbered new
numbered-follows d round events old new f numbered = numbered-all (present d old) round (in_order f.places) old new f.adds numbered

numbered-started : (d : Domain) (k : ℕ) → IsNumbered (started d k)
unfolding started
numbered-started d zero = tt
numbered-started d (suc k) = numbered-push 0 (Ap k) (start_acts d 0 (Ap k)) (started d k) (numbered-started d k)

pub numbered : (d : Domain) (rounds : List (List Event)) (j : List Entry) → Explained d rounds j → IsNumbered j
unfolding Explained
numbered d [] j is = subst IsNumbered (sym is) (numbered-started d (length d.aps))
numbered d (round ∷ rounds) j (old, (before, follows)) = numbered-follows d (suc (length rounds)) round old j follows (numbered d rounds old before)

frames-sent : (e : Entry) (past : List Entry) → is_sent e.act ≡ true → (number_of e.act past ≡ suc (frames past)) × (frames (e ∷ past) ≡ suc (frames past))
frames-sent e past s = (rw s refl, rw s refl)

frames_by : (b : Bool) (n : ℕ) → n ≤ cond b (suc n) n
frames_by true n = omega arith
frames_by false n = omega arith

-- a frame in the journal has a number up to the count
number_low : (past : List Entry) (f : Entry) → IsNumbered past → In f past → is_sent f.act ≡ true → f.number ≤ frames past
number_low [] f is there s = absurd there
number_low (e ∷ past) f is (inl here) s =
    let sent : is_sent e.act ≡ true = ap (λ (x : Entry). is_sent x.act) (sym here) ∙ s in
    let counts = frames-sent e past sent in
    let number : f.number ≡ number_of e.act past = ap (λ (x : Entry). x.number) here ∙ is.0 in
    omega (arith, counts.0, counts.1, number)
number_low (e ∷ past) f is (inr later) s = omega (arith, number_low past f is.1 later s, frames_by (is_sent e.act) (frames past))

newest_apart : (e : Entry) (past : List Entry) (f : Entry) → e.number ≡ number_of e.act past → IsNumbered past → is_sent e.act ≡ true → In f past → is_sent f.act ≡ true → e.number ≡ f.number → ⊥
newest_apart e past f is numbered s there t same = omega (arith, is, (frames-sent e past s).0, number_low past f numbered there t, same)

-- and no other has that number
pub one_number : (past : List Entry) (e f : Entry) → IsNumbered past → In e past → In f past → is_sent e.act ≡ true → is_sent f.act ≡ true → e.number ≡ f.number → e ≡ f
one_number [] e f is there also s t same = absurd there
one_number (x ∷ past) e f is (inl here) (inl also) s t same = here ∙ sym also
one_number (x ∷ past) e f is (inl here) (inr later) s t same =
    absurd (newest_apart x past f is.0 is.1 (ap (λ (y : Entry). is_sent y.act) (sym here) ∙ s) later t (ap (λ (y : Entry). y.number) (sym here) ∙ same))
one_number (x ∷ past) e f is (inr later) (inl also) s t same =
    absurd (newest_apart x past e is.0 is.1 (ap (λ (y : Entry). is_sent y.act) (sym also) ∙ t) later s (ap (λ (y : Entry). y.number) (sym also) ∙ sym same))
one_number (x ∷ past) e f is (inr later) (inr too) s t same = one_number past e f is.1 later too s t same

pub one_frame : (past : List Entry) (round number : ℕ) (x y : List ℕ) → IsNumbered past → WasSent past round number x → WasSent past round number y → x ≡ y
one_frame past round number x y is s t =
    let (p, (k, (seal, act))) = s.act in
    let (q, (m, (other, also))) = t.act in
    let same : s.entry ≡ t.entry = one_number past s.entry t.entry is s.there t.there (ap is_sent act) (ap is_sent also) (s.is ∙ sym t.is) in
    cc (ap (λ (e : Entry). e.act) same, act, also)

-- ---- one journal

-- a step at one node of a network
pub record AtOne (d : Domain) (round : ℕ) (event : Event) (old new : List Entry) : Type 0 where
  pub node : Node
  pub at_node : NodeEvent
  pub happens : HappensAt event old round node at_node
  pub acts : List Act
  pub group : Adds (here d 0 node) (history node old) at_node acts
  pub is : new ≡ push round node acts old

-- which that of header c was before the step
pub step_at : (c d : Domain) (round : ℕ) (event : Event) (old new : List Entry) → present c old ≡ d → AtOne d round event old new → Step c round event old new
step_at c d round event old new network s = let p : Place = record { node = s.node; event = s.at_node } in record {
  places = p ∷ [];
  happen = (p ∷ [], ([], (At_one p s.happens refl, (refl, refl))));
  adds = subst (λ (x : Domain). AddsAll x round (p ∷ []) old new) (sym network) (s.acts, (s.group, s.is));
}

one_by : (c d : Domain) (round : ℕ) (event : Event) (old new : List Entry) (places : List Place) → changes_keys event ≡ false → Happens c event old round places → AddsAll d round (in_order places) old new → AtOne d round event old new
one_by c d round event old new places still (At_one p happens one) adds =
    let alone : AddsAll d round (p ∷ []) old new = subst (λ (l : List Place). AddsAll d round (in_order l) old new) one adds in
    record { node = p.node; at_node = p.event; happens = happens; acts = alone.0; group = alone.1.0; is = alone.1.1 }
one_by c d round event old new places still (At_many named psk is at) adds = absurd (true≢false (sym (ap changes_keys is) ∙ still))

-- a step of an event that changes no key is at one node
pub at_one : (c d : Domain) (round : ℕ) (event : Event) (old new : List Entry) → changes_keys event ≡ false → present c old ≡ d → Step c round event old new → AtOne d round event old new
at_one c d round event old new still network s =
    let (here_, (others, (happens, (none, is)))) = s.happen in
    let alone : s.places ≡ here_ = is ∙ ap (λ (l : List Place). here_ ++ l) none ∙ append-nil here_ in
    one_by c d round event old new here_ still happens
    (subst (λ (x : Domain). AddsAll x round (in_order here_) old new) network (subst (λ (l : List Place). AddsAll (present c old) round (in_order l) old new) alone s.adds))

-- and leaves the network as it is
pub same_at_one : (c d : Domain) (round : ℕ) (event : Event) (old new : List Entry) → AtOne d round event old new → present c new ≡ present c old
same_at_one c d round event old new s =
    let still = (happens_still event old round s.node s.at_node s.happens).1 in
    present_same c new old (λ p. (ap (last_secret_in p) s.is ∙ last_push p round s.node s.acts old (adds_no_secret d 0 s.node (history s.node old) s.at_node s.acts still s.group)))

-- what an event is, at which node
same_happens : (event : Event) (past : List Entry) (round : ℕ) (n m : Node) (x y : NodeEvent) → IsNumbered past → HappensAt event past round n x → HappensAt event past round m y → (n ≡ m) × (x ≡ y)
same_happens (Connect s a) past round n m x y is one two = (one.0 ∙ sym two.0, one.1 ∙ sym two.1)
same_happens (Roam s a) past round n m x y is one two = (one.0 ∙ sym two.0, one.1 ∙ sym two.1)
same_happens (Deliver number to) past round n m x y is (octets, (was, (at, event))) (others, (was_too, (at_too, event_too))) =
    (at ∙ sym at_too, event ∙ ap Take (one_frame past round number octets others is was was_too) ∙ sym event_too)
same_happens (Alter number place mask to) past round n m x y is (octets, (was, (at, event))) (others, (was_too, (at_too, event_too))) =
    (at ∙ sym at_too, event ∙ ap (λ (v : List ℕ). Take (altered place mask v)) (one_frame past round number octets others is was was_too) ∙ sym event_too)
same_happens (Cut number size to) past round n m x y is (octets, (was, (at, event))) (others, (was_too, (at_too, event_too))) =
    (at ∙ sym at_too, event ∙ ap (λ (v : List ℕ). Take (take size v)) (one_frame past round number octets others is was was_too) ∙ sym event_too)
same_happens (Inject to octets) past round n m x y is one two = (one.0 ∙ sym two.0, one.1 ∙ sym two.1)
same_happens (Retry a s) past round n m x y is one two = (one.0 ∙ sym two.0, one.1 ∙ sym two.1)
same_happens (Rekey a) past round n m x y is one two = (one.0 ∙ sym two.0, one.1 ∙ sym two.1)
same_happens (Send from to tid octets) past round n m x y is one two = (one.0 ∙ sym two.0, one.1 ∙ sym two.1)
same_happens (Expire a s) past round n m x y is one two = (one.0 ∙ sym two.0, one.1 ∙ sym two.1)
same_happens (Revoke a s) past round n m x y is one two = (one.0 ∙ sym two.0, one.1 ∙ sym two.1)
same_happens (Leave s) past round n m x y is one two = (one.0 ∙ sym two.0, one.1 ∙ sym two.1)
same_happens (Renew a s) past round n m x y is one two = (one.0 ∙ sym two.0, one.1 ∙ sym two.1)
same_happens (Announce a octets) past round n m x y is one two = (one.0 ∙ sym two.0, one.1 ∙ sym two.1)
same_happens (Secret named psk) past round n m x y is one two = absurd one

same_place : (p q : Place) → (p.node ≡ q.node) × (p.event ≡ q.event) → p ≡ q
same_place p q same = ap (λ (n : Node). place_at n p.event) same.0 ∙ ap (λ (e : NodeEvent). place_at q.node e) same.1
  where
    place_at : Node → NodeEvent → Place
    place_at n e = record { node = n; event = e }

-- a changed key is at no single node
at_no_node : (event : Event) (past : List Entry) (round : ℕ) (n : Node) (x : NodeEvent) (named : Option ℕ) (psk : List ℕ) → HappensAt event past round n x → event ≡ Secret named psk → ⊥
at_no_node event past round n x named psk happens is = subst (λ (e : Event). HappensAt e past round n x) is happens

abbrev places_of : Domain → Event → List Place
places_of d (Secret named psk) = secret_places d named psk
places_of d _ = []

one_places : (d : Domain) (event : Event) (past : List Entry) (round : ℕ) (xs ys : List Place) → IsNumbered past → Happens d event past round xs → Happens d event past round ys → xs ≡ ys
one_places d event past round xs ys is (At_one p one here_) (At_one q two there) =
    here_ ∙ ap (λ (x : Place). x ∷ []) (same_place p q (same_happens event past round p.node q.node p.event q.event is one two)) ∙ sym there
one_places d event past round xs ys is (At_one p one here_) (At_many named psk at there) = absurd (at_no_node event past round p.node p.event named psk one at)
one_places d event past round xs ys is (At_many named psk at here_) (At_one q two there) = absurd (at_no_node event past round q.node q.event named psk two at)
one_places d event past round xs ys is (At_many named psk at here_) (At_many other key at_too there) =
    let alike : Secret named psk ≡ Secret other key = sym at ∙ at_too in
    here_ ∙ ap (places_of d) alike ∙ sym there

all_places : (d : Domain) (events : List Event) (past : List Entry) (round : ℕ) (xs ys : List Place) → IsNumbered past → AllHappen d events past round xs → AllHappen d events past round ys → xs ≡ ys
all_places d [] past round xs ys is one two = one ∙ sym two
all_places d (event ∷ events) past round xs ys is (here_, (others, (one, (rest, cut)))) (here_too, (others_too, (two, (rest_too, cut_too)))) =
    cut ∙ ap (λ (l : List Place). l ++ others) (one_places d event past round here_ here_too is one two)
    ∙ ap (λ (l : List Place). here_too ++ l) (all_places d events past round others others_too is rest rest_too) ∙ sym cut_too

-- ---- the answers of key holders, the last first

-- these before those
abbrev turned : List PullAnswer → List PullAnswer → List PullAnswer
turned [] l = l
turned (x ∷ xs) l = turned xs (x ∷ l)

turned_some : (xs l : List PullAnswer) → (zs : List PullAnswer) × (turned xs l ≡ zs ++ l)
turned_some [] l = ([], refl)
turned_some (x ∷ xs) l = let w = turned_some xs (x ∷ l) in (w.0 ++ x ∷ [], w.1 ∙ sym (append_assoc w.0 (x ∷ []) l))

answers_next : (o : Option PullAnswer) (g : List PullAnswer) (l : List PullAnswer) → turned g (listed o l) ≡ turned (listed o g) l
answers_next None g l = refl
answers_next (Some x) g l = refl

answers-push : (round : ℕ) (n : Node) (g : List Act) (past : List Entry) → answers_in (push round n g past) ≡ turned (answers g) (answers_in past)
answers-push round n [] past = refl
answers-push round n (e ∷ g) past =
    answers-push round n g (record { round = round; node = n; number = number_of e past; act = e } ∷ past) ∙ answers_next (answer_of e) (answers g) (answers_in past)

-- a journal goes on from another
abbrev GoesOnFrom : List Entry → List Entry → Type 0
GoesOnFrom old new = (zs : List PullAnswer) × (answers_in new ≡ zs ++ answers_in old)

from_on : (a b c : List Entry) → GoesOnFrom a b → GoesOnFrom b c → GoesOnFrom a c
from_on a b c x y = (y.0 ++ x.0, y.1 ∙ ap (λ (l : List PullAnswer). y.0 ++ l) x.1 ∙ sym (append_assoc y.0 x.0 (answers_in a)))

push_on : (round : ℕ) (n : Node) (g : List Act) (old : List Entry) → GoesOnFrom old (push round n g old)
push_on round n g old = let w = turned_some (answers g) (answers_in old) in (w.0, answers-push round n g old ∙ w.1)

adds_on : (d : Domain) (round : ℕ) (places : List Place) (old new : List Entry) → AddsAll d round places old new → GoesOnFrom old new
adds_on d round [] old new is = ([], ap answers_in is)
adds_on d round (p ∷ places) old new (acts, (adds, rest)) =
    from_on old (push round p.node acts old) new (push_on round p.node acts old) (adds_on d round places (push round p.node acts old) new rest)

follows_on : (d : Domain) (round : ℕ) (events : List Event) (old new : List Entry) → Follows d round events old new → GoesOnFrom old new
follows_on d round events old new f = adds_on (present d old) round (in_order f.places) old new f.adds

-- the answers of two journals are one list as far as both go
abbrev Agree : List Entry → List Entry → Type 0
Agree j k = (xs : List PullAnswer) × ((ys : List PullAnswer) × (xs ++ answers_in j ≡ ys ++ answers_in k))

agree_before : (j k a b : List Entry) → GoesOnFrom a j → GoesOnFrom b k → Agree j k → Agree a b
agree_before j k a b x y (xs, (ys, is)) = (
  xs ++ x.0,
  (
    ys ++ y.0,
    append_assoc xs x.0 (answers_in a) ∙ sym (ap (λ (l : List PullAnswer). xs ++ l) x.1) ∙ is ∙ ap (λ (l : List PullAnswer). ys ++ l) y.1 ∙ sym (append_assoc ys y.0 (answers_in b)),
  ),
)

-- what stands right before a common end is the same
length_same : (xs ys : List PullAnswer) → xs ≡ ys → length xs ≡ length ys
length_same xs ys is = ap length is

before_end : (xs ys l : List PullAnswer) (a b : PullAnswer) → xs ++ a ∷ l ≡ ys ++ b ∷ l → a ≡ b
before_end [] [] l a b is = cc is
before_end (x ∷ xs) (y ∷ ys) l a b is = before_end xs ys l a b (cc is)
before_end [] (y ∷ ys) l a b is =
    let size = length_same (a ∷ l) (y ∷ ys ++ b ∷ l) is in
    let more = length-append ys (b ∷ l) in absurd (omega (arith, size, more))
before_end (x ∷ xs) [] l a b is =
    let size = length_same (x ∷ xs ++ a ∷ l) (b ∷ l) is in
    let more = length-append xs (a ∷ l) in absurd (omega (arith, size, more))

-- what a node adds in its part of an event
one_part : (d : Domain) (round : ℕ) (p : Place) (old : List Entry) (f g : List Act) → Adds (here d 0 p.node) (history p.node old) p.event f → Adds (here d 0 p.node) (history p.node old) p.event g
    → Agree (push round p.node f old) (push round p.node g old) → f ≡ g
one_part d round p old f g one two (xs, (ys, agree)) =
    elim (group_looks d 0 p.node (history p.node old) p.event f g one two) [
      | inl alike ↦ alike
      | inr looks ↦ (
          let left : answers_in (push round p.node f old) ≡ looks.0 ∷ answers_in old = answers-push round p.node f old ∙ ap (λ (l : List PullAnswer). turned l (answers_in old)) looks.1.1.0 in
          let right : answers_in (push round p.node g old) ≡ looks.1.0 ∷ answers_in old = answers-push round p.node g old ∙ ap (λ (l : List PullAnswer). turned l (answers_in old)) looks.1.1.1 in
          let alike : looks.0 ≡ looks.1.0 = before_end xs ys (answers_in old) looks.0 looks.1.0 (sym (ap (λ (l : List PullAnswer). xs ++ l) left) ∙ agree ∙ ap (λ (l : List PullAnswer). ys ++ l) right) in
          one_group d 0 p.node (history p.node old) p.event f g one two (looks.1.1.0 ∙ ap (λ (x : PullAnswer). x ∷ []) alike ∙ sym looks.1.1.1))
    ]

one_adds : (d : Domain) (round : ℕ) (places : List Place) (old new other : List Entry) → AddsAll d round places old new → AddsAll d round places old other → Agree new other → new ≡ other
one_adds d round [] old new other s t agree = s ∙ sym t
one_adds d round (p ∷ places) old new other (acts, (adds, rest)) (acts_too, (adds_too, rest_too)) agree =
    let mid = push round p.node acts old in
    let mid_too = push round p.node acts_too old in
    let acts_same : acts ≡ acts_too = one_part d round p old acts acts_too adds adds_too
    (agree_before new other mid mid_too (adds_on d round places mid new rest) (adds_on d round places mid_too other rest_too) agree) in
    one_adds d round places mid_too new other (subst (λ (x : List Act). AddsAll d round places (push round p.node x old) new) acts_same rest) rest_too agree

pub one_follows : (d : Domain) (round : ℕ) (events : List Event) (old new other : List Entry) → IsNumbered old → Follows d round events old new → Follows d round events old other → Agree new other → new ≡ other
one_follows d round events old new other is s t agree =
    let places : s.places ≡ t.places = all_places d events old round s.places t.places is s.happen t.happen in
    one_adds (present d old) round (in_order t.places) old new other (subst (λ (l : List Place). AddsAll (present d old) round (in_order l) old new) places s.adds) t.adds agree

one_journal_by : (d : Domain) (rounds : List (List Event)) (j k : List Entry) → Explained d rounds j → Explained d rounds k → Agree j k → j ≡ k
unfolding Explained
one_journal_by d [] j k s t agree = s ∙ sym t
one_journal_by d (round ∷ rounds) j k (old, (before, follows)) (old_too, (before_too, follows_too)) agree =
    let n = suc (length rounds) in
    let same : old ≡ old_too = one_journal_by d rounds old old_too before before_too (agree_before j k old old_too (follows_on d n round old j follows) (follows_on d n round old_too k follows_too) agree) in
    one_follows d n round old_too j k (numbered d rounds old_too before_too) (subst (λ (x : List Entry). Follows d n round x j) same follows) follows_too agree

pub one_journal : (d : Domain) (rounds : List (List Event)) (j k : List Entry) → Explained d rounds j → Explained d rounds k → answers_in j ≡ answers_in k → j ≡ k
one_journal d rounds j k s t same = one_journal_by d rounds j k s t ([], ([], same))

-- ---- a journal grows by events

pub explained_start : (d : Domain) → Explained d [] (started d (length d.aps))
unfolding Explained
explained_start d = refl

pub explained_event : (d : Domain) (rounds : List (List Event)) (event : Event) (old new : List Entry) → Explained d rounds old → Step d (suc (length rounds)) event old new → Explained d ((event ∷ []) ∷ rounds) new
unfolding Explained
explained_event d rounds event old new explained step = (old, (explained, step))

-- of one that is at one node, where none changes a key
pub explained_still : (d : Domain) (rounds : List (List Event)) (event : Event) (old new : List Entry) → Explained d rounds old → rounds_change_keys rounds ≡ false → AtOne d (suc (length rounds)) event old new → Explained d ((event ∷ []) ∷ rounds) new
explained_still d rounds event old new explained still s =
    explained_event d rounds event old new explained (step_at d d (suc (length rounds)) event old new (same_network d rounds old still explained) s)

pub explained_round : (d : Domain) (rounds : List (List Event)) (events : List Event) (old new : List Entry) → Explained d rounds old → Follows d (suc (length rounds)) events old new → Explained d (events ∷ rounds) new
unfolding Explained
explained_round d rounds events old new explained follows = (old, (explained, follows))

pub explained_by_round : (d : Domain) (events : List Event) (rounds : List (List Event)) (j : List Entry) → Explained d (events ∷ rounds) j → (old : List Entry) × (Explained d rounds old × Follows d (suc (length rounds)) events old j)
unfolding Explained
explained_by_round d events rounds j explained = explained

-- acts that send nothing
abbrev pub IsUnsent : Act → Type 0
IsUnsent e = is_sent e ≡ false

pub frames-unsent : (round : ℕ) (n : Node) (g : List Act) (past : List Entry) → AllByRecursion IsUnsent g → frames (push round n g past) ≡ frames past
frames-unsent round n [] past none = refl
frames-unsent round n (e ∷ g) past none =
    let entry : Entry = record { round = round; node = n; number = number_of e past; act = e } in
    frames-unsent round n g (entry ∷ past) none.1 ∙ ap (λ (b : Bool). cond b (suc (frames past)) (frames past)) none.0

-- ---- round 0

pub started_none : (d : Domain) → started d 0 ≡ []
unfolding started
started_none d = refl

pub started_more : (d : Domain) (k : ℕ) → started d (suc k) ≡ push 0 (Ap k) (start_acts d 0 (Ap k)) (started d k)
unfolding started
started_more d k = refl

pub history-started_sta : (d : Domain) (s n : ℕ) → history (Sta s) (started d n) ≡ []
history-started_sta d s zero = ap (history (Sta s)) (started_none d)
history-started_sta d s (suc n) = ap (history (Sta s)) (started_more d n) ∙ history-other 0 (Ap n) (Sta s) (start_acts d 0 (Ap n)) (started d n) refl ∙ history-started_sta d s n

other_ap : (a b : ℕ) → (a ≡ b → ⊥) → same (Ap a) (Ap b) ≡ false
other_ap a b other = same-other (Ap a) (Ap b) (λ (e : Ap a ≡ Ap b). other (cc e))

-- an access point that has not started
pub history-not_started : (d : Domain) (a n : ℕ) → n ≤ a → history (Ap a) (started d n) ≡ []
history-not_started d a zero high = ap (history (Ap a)) (started_none d)
history-not_started d a (suc n) high =
    ap (history (Ap a)) (started_more d n) ∙ history-other 0 (Ap n) (Ap a) (start_acts d 0 (Ap n)) (started d n) (other_ap a n (λ e. omega arith)) ∙ history-not_started d a n (omega arith)

-- and one that has
pub history-started : (d : Domain) (a n : ℕ) → a < n → history (Ap a) (started d n) ≡ add (start_acts d 0 (Ap a)) []
history-started d a zero low = absurd (omega arith)
history-started d a (suc n) low =
    elim (cases_lt a n) [
      | inl less ↦ ap (history (Ap a)) (started_more d n) ∙ history-other 0 (Ap n) (Ap a) (start_acts d 0 (Ap n)) (started d n) (other_ap a n (λ e. omega arith)) ∙ history-started d a n less
      | inr last ↦ (let here : n ≡ a = omega arith in
          ap (history (Ap a)) (started_more d n) ∙ ap (λ (k : ℕ). history (Ap a) (push 0 (Ap k) (start_acts d 0 (Ap k)) (started d n))) here
          ∙ history-push 0 (Ap a) (start_acts d 0 (Ap a)) (started d n) ∙ ap (add (start_acts d 0 (Ap a))) (history-not_started d a n last))
    ]

-- the value that is drawn so
abbrev drawn_with : List ℕ → Mac → ℕ → List ℕ
drawn_with seed m number = kdf seed (codes "Group key expansion") (m.0 ++ to_be_bytes w64 number) 16

-- what is drawn and made current, by whether management frames are protected
abbrev starts_with : Bool → List ℕ → Mac → List Act
starts_with false seed m = Drew (draw.Group groups.Gtk (drawn_with seed m 0)) ∷ Installed All (Group groups.Gtk (drawn_with seed m 0) 1 m) ∷ []
starts_with true seed m =
    Drew (draw.Group groups.Gtk (drawn_with seed m 0)) ∷ Drew (draw.Group groups.Igtk (drawn_with seed m 1))
    ∷ Installed All (Group groups.Gtk (drawn_with seed m 0) 1 m) ∷ Installed All (Group groups.Igtk (drawn_with seed m 1) 4 m) ∷ []

abbrev drawn_by : Bool → Domain → ℕ → List Act
drawn_by mfp d a = Drew (draw.Group groups.Gtk (gtk d (Ap a) 0)) ∷ draw_igtk mfp d (Ap a) 1

abbrev starts_by : Bool → Domain → ℕ → List Act
starts_by mfp d a = drawn_by mfp d a ++ current_act groups.Gtk d (Ap a) (add (drawn_by mfp d a) []) ∷ current_igtk mfp d (Ap a) (add (drawn_by mfp d a) [])

starts_by-is : (mfp : Bool) (d : Domain) (a : ℕ) → starts_by mfp d a ≡ starts_with mfp d.seed (mac d (Ap a))
unfolding gtk
starts_by-is false d a = refl
starts_by-is true d a = refl

-- nothing is sent
starts_unsent_by : (mfp : Bool) (d : Domain) (a : ℕ) → AllByRecursion IsUnsent (starts_by mfp d a)
starts_unsent_by false d a = (refl, (refl, tt))
starts_unsent_by true d a = (refl, (refl, (refl, (refl, tt))))

pub starts_unsent : (d : Domain) (a : ℕ) → AllByRecursion IsUnsent (start_acts d 0 (Ap a))
starts_unsent d a = starts_unsent_by (protects d) d a

-- where they are not
pub starts_off : (d : Domain) (a : ℕ) → protects d ≡ false → start_acts d 0 (Ap a) ≡ Drew (draw.Group groups.Gtk (gtk d (Ap a) 0)) ∷ Installed All (Group groups.Gtk (gtk d (Ap a) 0) 1 (mac d (Ap a))) ∷ []
starts_off d a off = ap (λ (mfp : Bool). starts_by mfp d a) off

start_acts-is : (d : Domain) (a : ℕ) → start_acts d 0 (Ap a) ≡ starts_with (protects d) d.seed (mac d (Ap a))
start_acts-is d a = starts_by-is (protects d) d a

same-start : (d e : Domain) (a : ℕ) → d.seed ≡ e.seed → protects d ≡ protects e → mac d (Ap a) ≡ mac e (Ap a) → start_acts d 0 (Ap a) ≡ start_acts e 0 (Ap a)
same-start d e a seed mfp m =
    start_acts-is d a ∙ ap (λ (b : Bool). starts_with b d.seed (mac d (Ap a))) mfp ∙ ap (λ (x : List ℕ). starts_with (protects e) x (mac d (Ap a))) seed
    ∙ ap (starts_with (protects e) e.seed) m ∙ sym (start_acts-is e a)

-- it is the same in two networks of one seed, with management frames protected in both or in none, in which the access
-- points have the same addresses
pub same-started : (d e : Domain) (n : ℕ) → d.seed ≡ e.seed → protects d ≡ protects e → ((k : ℕ) → k < n → mac d (Ap k) ≡ mac e (Ap k)) → started d n ≡ started e n
same-started d e zero seed mfp addresses = started_none d ∙ sym (started_none e)
same-started d e (suc n) seed mfp addresses =
    started_more d n ∙ ap (push 0 (Ap n) (start_acts d 0 (Ap n))) (same-started d e n seed mfp (λ k low. addresses k (omega arith)))
    ∙ ap (λ (g : List Act). push 0 (Ap n) g (started e n)) (same-start d e n seed mfp (addresses n (omega arith))) ∙ sym (started_more e n)

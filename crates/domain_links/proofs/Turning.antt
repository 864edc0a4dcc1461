-- Nodes that take what their links give, one after another.
use Rattle.std.proofs.Common.{◌≡◌, ◌≢◌, ℕ, zero, suc, add-one, ◌+◌, ◌-◌, ◌<◌, ◌≤◌, ◌==◌, ◌⊎◌, List, [], ◌++◌, length, take, drop, Option, Ok, Err, refl, sym, ap, subst, ◌∙◌, append_assoc, arith, true, false, inl, inr}
use Rattle.std.specs.Prelude.{if◌then◌else◌, nat_lt}
use Rattle.std.proofs.lemmas.Grind.{common_steps}
use Rattle.std.proofs.lemmas.List.{append-nil, drop-drop}
use Rattle.std.proofs.lemmas.Bool.Decides.{eqb_tells}
use Rattle.std.proofs.lemmas.Bool.{cases_lt}
use Rattle.domain_base.specs.declared.names.Node.{Node}
use Rattle.domain_base.specs.Told.{LinkStory}
use Rattle.run_journal.specs.Limits.{most_polls}
use Rattle.domain_links.specs.declared.breaks.Break.{Break}
use Rattle.domain_links.specs.Sends.{Send}
use Rattle.domain_links.specs.Telling.{left_after}
use Rattle.domain_links.specs.Turns.{Delivery, Takes, TakesTurn, of_node, cut, left_heard, left_past, in_order, heard_of, turn_of}
use Rattle.domain_links.proofs.OnePoll.{Tell-left, left_own, left_other}
use Rattle.domain_links.proofs.Taking.{Rounds-none, Rounds-two, of_two, split, cut_left, cut_behind, cut_node, drop_taken, on_write, some_behind, some_of_node}

-- ---- deliveries in node order

order_more : (nodes : ℕ → Node) (heard : ℕ → List (List ℕ)) (n : ℕ) → in_order nodes heard (n + 1) ≡ in_order nodes heard n ++ of_node (nodes n) (heard n)
unfolding in_order
order_more nodes heard n = rw add-one refl

order_none : (nodes : ℕ → Node) (heard : ℕ → List (List ℕ)) → in_order nodes heard 0 ≡ []
unfolding in_order
order_none nodes heard = refl

front_by : (nodes : ℕ → Node) (heard : ℕ → List (List ℕ)) (n k : ℕ) → (rest : List Delivery) × (in_order nodes heard n ++ rest ≡ in_order nodes heard (n + k))
front_by nodes heard n zero = ([], append-nil (in_order nodes heard n) ∙ ap (in_order nodes heard) (omega arith))
front_by nodes heard n (suc k) =
    let more = front_by nodes heard n k in
    let last : List Delivery = of_node (nodes (n + k)) (heard (n + k)) in
    let next : n + k + 1 ≡ n + suc k = omega arith in
    (more.0 ++ last, sym (append_assoc (in_order nodes heard n) more.0 last) ∙ ap (λ (w : List Delivery). w ++ last) more.1 ∙ sym (order_more nodes heard (n + k)) ∙ ap (in_order nodes heard) next)

-- what the first places take is a front of what more take
order_front : (nodes : ℕ → Node) (heard : ℕ → List (List ℕ)) (n m : ℕ) → n ≤ m → (rest : List Delivery) × (in_order nodes heard n ++ rest ≡ in_order nodes heard m)
order_front nodes heard n m h =
    let f = front_by nodes heard n (m - n) in
    (f.0, f.1 ∙ ap (in_order nodes heard) (split n m h))

-- it is told by what these places give
order_same : (nodes : ℕ → Node) (heard other : ℕ → List (List ℕ)) (n : ℕ) → ((i : ℕ) → i < n → heard i ≡ other i) → in_order nodes heard n ≡ in_order nodes other n
unfolding in_order
order_same nodes heard other zero same = refl
order_same nodes heard other (suc n) same =
    ap (λ (w : List Delivery). w ++ of_node (nodes n) (heard n)) (order_same nodes heard other n (λ i h. same i (omega (arith, h))))
    ∙ ap (λ (w : List (List ℕ)). in_order nodes other n ++ of_node (nodes n) w) (same n (omega arith))

-- places that give nothing add nothing
order_past_by : (nodes : ℕ → Node) (heard : ℕ → List (List ℕ)) (n k : ℕ) → ((i : ℕ) → n ≤ i → heard i ≡ []) → in_order nodes heard (n + k) ≡ in_order nodes heard n
order_past_by nodes heard n zero none = ap (in_order nodes heard) (omega arith)
order_past_by nodes heard n (suc k) none =
    let next : n + suc k ≡ n + k + 1 = omega arith in
    ap (in_order nodes heard) next ∙ order_more nodes heard (n + k)
    ∙ ap (λ (w : List (List ℕ)). in_order nodes heard (n + k) ++ of_node (nodes (n + k)) w) (none (n + k) (omega arith))
    ∙ append-nil (in_order nodes heard (n + k)) ∙ order_past_by nodes heard n k none

order_past : (nodes : ℕ → Node) (heard : ℕ → List (List ℕ)) (n m : ℕ) → n ≤ m → ((i : ℕ) → n ≤ i → heard i ≡ []) → in_order nodes heard m ≡ in_order nodes heard n
order_past nodes heard n m h none = sym (ap (in_order nodes heard) (split n m h)) ∙ order_past_by nodes heard n (m - n) none

-- what the first places gave, what the next gave, and nothing behind
abbrev heard_with : (ℕ → List (List ℕ)) → ℕ → List (List ℕ) → ℕ → List (List ℕ)
heard_with heard n given i = if nat_lt i n then heard i else if i == n then given else []

with_below : (heard : ℕ → List (List ℕ)) (n : ℕ) (given : List (List ℕ)) (i : ℕ) → i < n → heard i ≡ heard_with heard n given i
with_below heard n given i h = grind (arith, common_steps)

with_own : (heard : ℕ → List (List ℕ)) (n : ℕ) (given : List (List ℕ)) → heard_with heard n given n ≡ given
with_own heard n given = grind (arith, common_steps)

with_above : (heard : ℕ → List (List ℕ)) (n : ℕ) (given : List (List ℕ)) (i : ℕ) → n + 1 ≤ i → heard_with heard n given i ≡ []
with_above heard n given i h = grind (arith, common_steps)

with_few : (heard : ℕ → List (List ℕ)) (n : ℕ) (given : List (List ℕ)) (i : ℕ) → ((i : ℕ) → length (heard i) ≤ most_polls) → length given ≤ most_polls → length (heard_with heard n given i) ≤ most_polls
with_few heard n given i few one =
    let sides : (i < n) ⊎ (n ≤ i) → length (heard_with heard n given i) ≤ most_polls =
    elim [
      | inl below ↦ rw (← with_below heard n given i below) (few i)
      | inr above ↦
          let ends : ((i == n) ≡ true) × (i ≡ n) ⊎ ((i == n) ≡ false) × (i ≢ n) → length (heard_with heard n given i) ≤ most_polls =
          elim [
            | inl at ↦ rw at.1 (rw (with_own heard n given) one)
            | inr apart ↦ rw (with_above heard n given i (grind (arith, common_steps))) (omega arith)
          ] in ends (eqb_tells i n)
    ] in sides (cases_lt i n)

with_order : (nodes : ℕ → Node) (heard : ℕ → List (List ℕ)) (n : ℕ) (given : List (List ℕ)) → in_order nodes heard n ++ of_node (nodes n) given ≡ in_order nodes (heard_with heard n given) (n + 1)
with_order nodes heard n given =
    ap (λ (w : List Delivery). w ++ of_node (nodes n) given) (order_same nodes heard (heard_with heard n given) n (λ i h. with_below heard n given i h))
    ∙ ap (λ (w : List (List ℕ)). in_order nodes (heard_with heard n given) n ++ of_node (nodes n) w) (sym (with_own heard n given))
    ∙ sym (order_more nodes (heard_with heard n given) n)

-- ---- what is left

past_own : (left : ℕ → List (List ℕ)) (n : ℕ) → left_past left n n ≡ left n
past_own left n = grind (arith, common_steps)

past_zero : (left : ℕ → List (List ℕ)) (i : ℕ) → left i ≡ left_past left 0 i
past_zero left i = grind (arith, common_steps)

pub past_below : (left : ℕ → List (List ℕ)) (n i : ℕ) → i < n → left_past left n i ≡ drop most_polls (left i)
past_below left n i h = grind (arith, common_steps)

past_above : (left : ℕ → List (List ℕ)) (n i : ℕ) → n ≤ i → left_past left n i ≡ left i
past_above left n i h = grind (arith, common_steps)

past_more : (left : ℕ → List (List ℕ)) (n i : ℕ) → left_after (left_past left n) n most_polls i ≡ left_past left (n + 1) i
past_more left n i =
    let cases : ((i == n) ≡ true) × (i ≡ n) ⊎ ((i == n) ≡ false) × (i ≢ n) → left_after (left_past left n) n most_polls i ≡ left_past left (n + 1) i =
    elim [
      | inl at ↦ rw at.1 (left_own (left_past left n) n most_polls ∙ ap (drop most_polls) (past_own left n) ∙ sym (past_below left (n + 1) n (omega arith)))
      | inr apart ↦
          let sides : (i < n) ⊎ (n ≤ i) → left_past left n i ≡ left_past left (n + 1) i =
          elim [
            | inl below ↦ past_below left n i below ∙ sym (past_below left (n + 1) i (omega (arith, below)))
            | inr above ↦ past_above left n i above ∙ sym (past_above left (n + 1) i (grind (arith, common_steps)))
          ] in left_other (left_past left n) n most_polls i apart.1 ∙ sides (cases_lt i n)
    ] in cases (eqb_tells i n)

-- what a place has in front is as at the turn's beginning
own_part : (left : ℕ → List (List ℕ)) (n : ℕ) → cut (take most_polls (left_past left n n)) ≡ heard_of left n
own_part left n = ap (λ (w : List (List ℕ)). cut (take most_polls w)) (past_own left n)

none_below : (i : ℕ) → i < 0 → ⊥
none_below i h = omega (arith, h)

-- what each of the first places and the next gave
with_each : (heard : ℕ → List (List ℕ)) (n : ℕ) (given : List (List ℕ)) (left : ℕ → List (List ℕ)) (i : ℕ) → i < n + 1 → ((i : ℕ) → i < n → heard i ≡ heard_of left i) → given ≡ heard_of left n → heard_with heard n given i ≡ heard_of left i
with_each heard n given left i h each is =
    let sides : (i < n) ⊎ (n ≤ i) → heard_with heard n given i ≡ heard_of left i =
    elim [
      | inl below ↦ sym (with_below heard n given i below) ∙ each i below
      | inr above ↦
          let at : n ≡ i = omega (arith, h, above) in
          subst (λ (k : ℕ). heard_with heard n given k ≡ heard_of left k) at (with_own heard n given ∙ is)
    ] in sides (cases_lt i n)

-- where the next gave a part, the links have what their nodes did not take, but for frames that were lost
stop_left : (left heard : ℕ → List (List ℕ)) (n : ℕ) (given : List (List ℕ)) (lost i : ℕ) → ((i : ℕ) → i < n → heard i ≡ heard_of left i) → left_after (left_past left n) n (length given + lost) i ≡ left_after (left_heard left (heard_with heard n given)) n lost i
stop_left left heard n given lost i each =
    let all = heard_with heard n given in
    let cases : ((i == n) ≡ true) × (i ≡ n) ⊎ ((i == n) ≡ false) × (i ≢ n) → left_after (left_past left n) n (length given + lost) i ≡ left_after (left_heard left all) n lost i =
    elim [
      | inl at ↦ rw at.1 (left_own (left_past left n) n (length given + lost) ∙ ap (drop (length given + lost)) (past_own left n) ∙ sym (drop-drop lost (length given) (left n))
          ∙ ap (λ (w : List (List ℕ)). drop lost (drop (length w) (left n))) (sym (with_own heard n given)) ∙ sym (left_own (left_heard left all) n lost))
      | inr apart ↦
          let sides : (i < n) ⊎ (n ≤ i) → left_past left n i ≡ left_heard left all i =
          elim [
            | inl below ↦ past_below left n i below ∙ sym (drop_taken most_polls (left i)) ∙ ap (λ (w : List (List ℕ)). drop (length w) (left i)) (sym (each i below) ∙ with_below heard n given i below)
            | inr above ↦ past_above left n i above ∙ ap (λ (w : List (List ℕ)). drop (length w) (left i)) (sym (with_above heard n given i (grind (arith, common_steps))))
          ] in left_other (left_past left n) n (length given + lost) i apart.1 ∙ sides (cases_lt i n) ∙ sym (left_other (left_heard left all) n lost i apart.1)
    ] in cases (eqb_tells i n)

-- ---- steps of a turn

-- no place took any
pub TakesTurn-start : {S L T : Type 0} (told : L → Option LinkStory) (nodes : ℕ → Node) (Round : Node → List ℕ → S → S → Type 0) (all : S → List Send) (links : List L) (before : S) (x : T) → TakesTurn {S = S} {L = L} {T = T} told nodes Round all 0 links links before before (Ok x)
TakesTurn-start told nodes Round all links before x = record {
  given = [];
  heard = λ i. [];
  few = λ i. omega arith;
  order = sym (order_none nodes (λ i. []));
  took = tt;
  rounds = Rounds-none Round before before refl;
  tells = λ left tell. record { all_of = sym (order_none nodes (heard_of left)); each = λ i h. absurd (none_below i h); tell = Tell-left told nodes links left (left_past left 0) (all before) (λ i within. past_zero left i) tell };
}

-- the next place took all of its frames
pub TakesTurn-more : {S L T U V : Type 0} (told : L → Option LinkStory) (nodes : ℕ → Node) (Round : Node → List ℕ → S → S → Type 0) (all : S → List Send) (n : ℕ) (links_old links_mid links_new : List L) (before mid after : S) (x : T) (y : U) (z : V) → TakesTurn {S = S} {L = L} {T = T} told nodes Round all n links_old links_mid before mid (Ok x) → Takes {S = S} {L = L} {T = U} told nodes Round all n most_polls links_mid links_new mid after (Ok y) → TakesTurn {S = S} {L = L} {T = V} told nodes Round all (n + 1) links_old links_new before after (Ok z)
TakesTurn-more told nodes Round all n links_old links_mid links_new before mid after x y z a b = record {
  given = a.given ++ of_node (nodes n) b.given;
  heard = heard_with a.heard n b.given;
  few = λ i. with_few a.heard n b.given i a.few b.few;
  order = ap (λ (w : List Delivery). w ++ of_node (nodes n) b.given) a.order ∙ with_order nodes a.heard n b.given;
  took = tt;
  rounds = Rounds-two Round a.given (of_node (nodes n) b.given) before mid after a.rounds b.rounds;
  tells = λ left tell.
      let t = a.tells left tell in
      let u = b.tells (left_past left n) t.tell in
      record {
        all_of = ap (λ (w : List Delivery). w ++ of_node (nodes n) b.given) t.all_of
            ∙ ap (λ (w : List (List ℕ)). turn_of nodes left n ++ of_node (nodes n) w) (u.all_of ∙ own_part left n)
            ∙ sym (order_more nodes (heard_of left) n);
        each = λ i h. with_each a.heard n b.given left i h t.each (u.all_of ∙ own_part left n);
        tell = Tell-left told nodes links_new (left_after (left_past left n) n most_polls) (left_past left (n + 1)) (all after) (λ i within. past_more left n i) u.tell;
      };
}

-- or a part of them, and no more places took any
pub TakesTurn-stop : {S L T U V : Type 0} (told : L → Option LinkStory) (nodes : ℕ → Node) (Round : Node → List ℕ → S → S → Type 0) (all : S → List Send) (n m : ℕ) (links_old links_mid links_new : List L) (before mid after : S) (x : T) (error : Break) → n < m → TakesTurn {S = S} {L = L} {T = T} told nodes Round all n links_old links_mid before mid (Ok x) → Takes {S = S} {L = L} {T = U} told nodes Round all n most_polls links_mid links_new mid after (Err error) → TakesTurn {S = S} {L = L} {T = V} told nodes Round all m links_old links_new before after (Err error)
TakesTurn-stop told nodes Round all n m links_old links_mid links_new before mid after x error h a b = record {
  given = a.given ++ of_node (nodes n) b.given;
  heard = heard_with a.heard n b.given;
  few = λ i. with_few a.heard n b.given i a.few b.few;
  order = ap (λ (w : List Delivery). w ++ of_node (nodes n) b.given) a.order ∙ with_order nodes a.heard n b.given
      ∙ sym (order_past nodes (heard_with a.heard n b.given) (n + 1) m (omega (arith, h)) (λ i above. with_above a.heard n b.given i above));
  took = on_write error (b.given ≢ []) (a.given ++ of_node (nodes n) b.given ≢ []) (λ some. some_behind a.given (of_node (nodes n) b.given) (some_of_node (nodes n) b.given some)) b.took;
  rounds = Rounds-two Round a.given (of_node (nodes n) b.given) before mid after a.rounds b.rounds;
  tells = λ left tell.
      let t = a.tells left tell in
      let u = b.tells (left_past left n) t.tell in
      let f = order_front nodes (heard_of left) (n + 1) m (omega (arith, h)) in
      let own : List Delivery = of_node (nodes n) b.given in
      let lost : List Delivery = of_node (nodes n) u.rest in
      let now : ℕ → List (List ℕ) = left_after (left_past left n) n (length b.given + u.lost) in
      let here : own ++ lost ≡ of_node (nodes n) (heard_of left n) =
      sym (of_two (nodes n) b.given u.rest) ∙ ap (of_node (nodes n)) (u.whole ∙ own_part left n) in
      record {
        rest = lost ++ f.0;
        whole = append_assoc a.given own (lost ++ f.0)
            ∙ ap (λ (w : List Delivery). w ++ (own ++ (lost ++ f.0))) t.all_of
            ∙ ap (λ (w : List Delivery). turn_of nodes left n ++ w) (sym (append_assoc own lost f.0) ∙ ap (λ (w : List Delivery). w ++ f.0) here)
            ∙ sym (append_assoc (turn_of nodes left n) (of_node (nodes n) (heard_of left n)) f.0)
            ∙ ap (λ (w : List Delivery). w ++ f.0) (sym (order_more nodes (heard_of left) n)) ∙ f.1;
        place = n;
        lost = u.lost;
        few_lost = u.few_lost;
        part = cut_left told nodes Round all error links_new after now (left_after (left_heard left (heard_with a.heard n b.given)) n u.lost) (a.given ++ own ≢ []) (λ i. stop_left left a.heard n b.given u.lost i t.each)
            (cut_behind told nodes Round all error links_new after now a.given own (cut_node told nodes Round all error links_new after now (nodes n) b.given u.part));
      };
}

pub TakesTurn-same : {S L T V : Type 0} (told : L → Option LinkStory) (nodes : ℕ → Node) (Round : Node → List ℕ → S → S → Type 0) (all : S → List Send) (n m : ℕ) (links_old links_new : List L) (before after : S) (x : T) (y : V) → n ≡ m → TakesTurn {S = S} {L = L} {T = T} told nodes Round all n links_old links_new before after (Ok x) → TakesTurn {S = S} {L = L} {T = V} told nodes Round all m links_old links_new before after (Ok y)
TakesTurn-same told nodes Round all n m links_old links_new before after x y e a = rw (← e) (record { given = a.given; heard = a.heard; few = a.few; order = a.order; took = tt; rounds = a.rounds; tells = a.tells })

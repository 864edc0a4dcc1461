-- Deliveries to one node put together, each a frame that its link gave.
use Rattle.std.proofs.Common.{◌≡◌, ◌≢◌, ℕ, zero, suc, ◌+◌, ◌-◌, ◌≤◌, ◌==◌, ◌⊎◌, List, [], ◌∷◌, ◌++◌, length, take, drop, Option, Some, None, Ok, Err, refl, sym, ap, subst, ◌∙◌, append_assoc, arith, true, false, inl, inr}
use Rattle.std.proofs.lemmas.Grind.{common_steps}
use Rattle.std.proofs.lemmas.List.{append-nil, map-append, length-append, drop-drop}
use Rattle.std.proofs.lemmas.Bool.Decides.{eqb_tells}
use Rattle.std.proofs.Math.Seq.{take-add, take-nil, drop-nil}
use Rattle.std.specs.Prelude.{MatchOption}
use Rattle.domain_base.specs.declared.names.Node.{Node}
use Rattle.domain_base.specs.declared.outside.LinkError.{LinkError}
use Rattle.domain_base.specs.declared.outside.LinkError.TheVariants.{Failed, NoMemory}
use Rattle.domain_base.specs.Told.{LinkStory}
use Rattle.domain_links.specs.declared.breaks.Break.{Break}
use Rattle.domain_links.specs.declared.breaks.Break.TheVariants.{ByLink, ByWrite}
use Rattle.domain_links.specs.Sends.{Send}
use Rattle.domain_links.specs.Telling.{Tell, Polled, left_after}
use Rattle.domain_links.specs.Turns.{Delivery, Rounds, IsLost, OnWrite, TellRound, TellCut, Delivers, Takes, TookAll, TookPart, of_node, cut}
use Rattle.domain_links.proofs.Going.{Tell-same, has_item}
use Rattle.domain_links.proofs.OnePoll.{Tell-left, left_own, left_other}

pub some_of : {A : Type 0} (P : Type 0) (Q : A → Type 0) (o : Option A) (x : A) → o ≡ Some x → MatchOption o P Q → Q x
some_of P Q o x e h = subst (λ (w : Option _). MatchOption w P Q) e h

pub none_of : {A : Type 0} (P : Type 0) (Q : A → Type 0) (o : Option A) → o ≡ None → MatchOption o P Q → P
none_of P Q o e h = subst (λ (w : Option _). MatchOption w P Q) e h

-- ---- rounds

pub Rounds-none : {S : Type 0} (Round : Node → List ℕ → S → S → Type 0) (before after : S) → after ≡ before → Rounds Round [] before after
unfolding Rounds
Rounds-none Round before after e = e

pub Rounds-one : {S : Type 0} (Round : Node → List ℕ → S → S → Type 0) (node : Node) (octets : List ℕ) (before after : S) → Round node octets before after → Rounds Round (of_node node (octets ∷ [])) before after
unfolding Rounds
Rounds-one Round node octets before after h = record { mid = after; round = h; rest = refl }

pub Rounds-two : {S : Type 0} (Round : Node → List ℕ → S → S → Type 0) (xs ys : List Delivery) (before mid after : S) → Rounds Round xs before mid → Rounds Round ys mid after → Rounds Round (xs ++ ys) before after
unfolding Rounds
Rounds-two Round [] ys before mid after h k = subst (λ (s : _). Rounds Round ys s after) h k
Rounds-two Round (x ∷ xs) ys before mid after h k = record { mid = h.mid; round = h.round; rest = Rounds-two Round xs ys h.mid mid after h.rest k }

pub Rounds-same : {S : Type 0} (Round : Node → List ℕ → S → S → Type 0) (xs ys : List Delivery) (before after : S) → xs ≡ ys → Rounds Round xs before after → Rounds Round ys before after
Rounds-same Round xs ys before after e h = subst (λ (w : List Delivery). Rounds Round w before after) e h

pub of_two : (node : Node) (xs ys : List (List ℕ)) → of_node node (xs ++ ys) ≡ of_node node xs ++ of_node node ys
of_two node xs ys = map-append _ xs ys

-- ---- one delivery

-- nothing was lost
none_lost : (error : Break) → IsLost error 0
none_lost (ByLink Failed) = refl
none_lost (ByLink NoMemory) = omega arith
none_lost ByWrite = refl

-- a node that took nothing, as memory ran out
pub delivers_none : {S L T : Type 0} (told : L → Option LinkStory) (nodes : ℕ → Node) (Round : Node → List ℕ → S → S → Type 0) (all : S → List Send) (place : ℕ) (octets : List ℕ) (links : List L) (before after : S) → after ≡ before → Delivers {S = S} {L = L} {T = T} told nodes Round all place octets links links before after (Err (ByLink NoMemory))
delivers_none told nodes Round all place octets links before after same = record {
  given = [];
  few = inr refl;
  took = tt;
  rounds = Rounds-none Round before after same;
  tells = λ left tell. (1, omega arith, refl, inl (tt, Tell-same told nodes links left _ _ (ap all (sym same)) tell));
}

-- one that took the octets, and all that it sent went out
pub delivers_ok : {S L T : Type 0} (told : L → Option LinkStory) (nodes : ℕ → Node) (Round : Node → List ℕ → S → S → Type 0) (all : S → List Send) (place : ℕ) (octets : List ℕ) (links_old links_new : List L) (before after : S) (news : List Send) (x : T) → Round (nodes place) octets before after → all before ++ news ≡ all after → ((left : ℕ → List (List ℕ)) (b : List Send) → Tell told nodes links_old left b → Tell told nodes links_new left (b ++ news)) → Delivers {S = S} {L = L} {T = T} told nodes Round all place octets links_old links_new before after (Ok x)
delivers_ok told nodes Round all place octets links_old links_new before after news x round is out = record {
  given = octets ∷ [];
  few = inl refl;
  took = tt;
  rounds = Rounds-one Round (nodes place) octets before after round;
  tells = λ left tell. (refl, Tell-same told nodes links_new left _ _ is (out left (all before) tell));
}

-- or a front of it
pub delivers_err : {S L T : Type 0} (told : L → Option LinkStory) (nodes : ℕ → Node) (Round : Node → List ℕ → S → S → Type 0) (all : S → List Send) (place : ℕ) (octets : List ℕ) (links_old links_new : List L) (before after : S) (news : List Send) (x : LinkError) → Round (nodes place) octets before after → all before ++ news ≡ all after → ((left : ℕ → List (List ℕ)) (b : List Send) → Tell told nodes links_old left b → (front rest : List Send) × (front ++ rest ≡ news) × (rest ≢ []) × Tell told nodes links_new left (b ++ front)) → Delivers {S = S} {L = L} {T = T} told nodes Round all place octets links_old links_new before after (Err (ByLink x))
delivers_err told nodes Round all place octets links_old links_new before after news x round is out = record {
  given = octets ∷ [];
  few = inl refl;
  took = tt;
  rounds = Rounds-one Round (nodes place) octets before after round;
  tells = λ left tell.
      let o = out left (all before) tell in
      let part : TellRound told nodes Round all (ByLink x) links_new after left = record {
        was = before;
        node = nodes place;
        octets = octets;
        round = round;
        front = o.0;
        rest = o.1;
        whole = ap (λ (w : List Send). all before ++ w) o.2 ∙ is;
        missed = o.3;
        tell = o.4;
      } in (0, none_lost (ByLink x), refl, inr (has_item octets [], part));
}

-- or none of it, as the lines of its round could not be written
pub delivers_cut : {S L T : Type 0} (told : L → Option LinkStory) (nodes : ℕ → Node) (Round : Node → List ℕ → S → S → Type 0) (all : S → List Send) (place : ℕ) (octets : List ℕ) (links : List L) (before after : S) (news : List Send) → Round (nodes place) octets before after → all before ++ news ≡ all after → Delivers {S = S} {L = L} {T = T} told nodes Round all place octets links links before after (Err ByWrite)
delivers_cut told nodes Round all place octets links before after news round is = record {
  given = octets ∷ [];
  few = inl refl;
  took = has_item octets [];
  rounds = Rounds-one Round (nodes place) octets before after round;
  tells = λ left tell.
      let part : TellRound told nodes Round all ByWrite links after left = record {
        was = before;
        node = nodes place;
        octets = octets;
        round = round;
        front = [];
        rest = news;
        whole = is;
        missed = refl;
        tell = Tell-same told nodes links left (all before) (all before ++ []) (sym (append-nil (all before))) tell;
      } in (0, none_lost ByWrite, refl, inr (has_item octets [], part));
}

-- ---- one poll

-- a frame that came, as it is taken
came : {L : Type 0} (told : L → Option LinkStory) (nodes : ℕ → Node) (links : List L) (place : ℕ) (left : ℕ → List (List ℕ)) (all : List Send) (octets : List ℕ) → Polled told nodes links place left all octets → octets ∷ [] ≡ cut (take 1 (left place))
came told nodes links place left all octets p = ap (λ (w : List ℕ). w ∷ []) p.octets_are ∙ sym (ap cut p.first)

few_one : (given : List (List ℕ)) (octets : List ℕ) → (given ≡ octets ∷ []) ⊎ (given ≡ []) → length given ≤ 1
few_one given octets = elim [ inl e ↦ omega (arith, ap length e) | inr e ↦ omega (arith, ap length e) ]

pub takes_ok : {S L T V : Type 0} (told : L → Option LinkStory) (nodes : ℕ → Node) (Round : Node → List ℕ → S → S → Type 0) (all : S → List Send) (place : ℕ) (octets : List ℕ) (links_old links_mid links_new : List L) (before after : S) (x : V) (y : T) → ((left : ℕ → List (List ℕ)) → Tell told nodes links_old left (all before) → Polled told nodes links_mid place left (all before) octets) → Delivers {S = S} {L = L} {T = T} told nodes Round all place octets links_mid links_new before after (Ok y) → Takes {S = S} {L = L} {T = V} told nodes Round all place 1 links_old links_new before after (Ok x)
takes_ok told nodes Round all place octets links_old links_mid links_new before after x y polled v = record {
  given = v.given;
  few = few_one v.given octets v.few;
  took = tt;
  rounds = v.rounds;
  tells = λ left tell.
      let p = polled left tell in
      let t = v.tells (left_after left place 1) p.tell in
      record { all_of = t.0 ∙ came told nodes links_mid place left (all before) octets p; tell = t.1 };
}

-- links that have the same left
pub cut_left : {S L : Type 0} (told : L → Option LinkStory) (nodes : ℕ → Node) (Round : Node → List ℕ → S → S → Type 0) (all : S → List Send) (why : Break) (links : List L) (after : S) (left other : ℕ → List (List ℕ)) (Took : Type 0) → ((i : ℕ) → left i ≡ other i) → TellCut told nodes Round all why links after left Took → TellCut told nodes Round all why links after other Took
cut_left told nodes Round all why links after left other Took same = elim [
  | inl tell ↦ inl (tell.0, Tell-left told nodes links left other (all after) (λ i within. same i) tell.1)
  | inr part ↦
      let p = part.1 in
      inr (
        part.0,
        record {
          was = p.was;
          node = p.node;
          octets = p.octets;
          round = p.round;
          front = p.front;
          rest = p.rest;
          whole = p.whole;
          missed = p.missed;
          tell = Tell-left told nodes links left other (all p.was ++ p.front) (λ i within. same i) p.tell;
        },
      )
]

took_part : {S L : Type 0} (told : L → Option LinkStory) (nodes : ℕ → Node) (Round : Node → List ℕ → S → S → Type 0) (all : S → List Send) (error : Break) (place : ℕ) (octets : List ℕ) (links_mid links_new : List L) (before after : S) (left : ℕ → List (List ℕ)) (given : List (List ℕ)) (lost : ℕ) → Polled told nodes links_mid place left (all before) octets → IsLost error lost → length given + lost ≡ 1
    → TellCut told nodes Round all error links_new after (left_after left place 1) (given ≢ []) → (given ≡ octets ∷ []) ⊎ (given ≡ []) → TookPart told nodes Round all error place 1 links_new after left given
took_part told nodes Round all error place octets links_mid links_new before after left given lost p is_lost one part =
    let now : TellCut told nodes Round all error links_new after (left_after left place (length given + lost)) (given ≢ []) =
    subst (λ (n : ℕ). TellCut told nodes Round all error links_new after (left_after left place n) (given ≢ [])) (sym one) part in
    elim [
      | inl e ↦ record { rest = []; whole = append-nil given ∙ e ∙ came told nodes links_mid place left (all before) octets p; lost = lost; few_lost = is_lost; part = now }
      | inr e ↦ record { rest = octets ∷ []; whole = ap (λ (w : List (List ℕ)). w ++ octets ∷ []) e ∙ came told nodes links_mid place left (all before) octets p; lost = lost; few_lost = is_lost; part = now }
    ]

pub takes_err : {S L T V : Type 0} (told : L → Option LinkStory) (nodes : ℕ → Node) (Round : Node → List ℕ → S → S → Type 0) (all : S → List Send) (place : ℕ) (octets : List ℕ) (links_old links_mid links_new : List L) (before after : S) (error : Break) → ((left : ℕ → List (List ℕ)) → Tell told nodes links_old left (all before) → Polled told nodes links_mid place left (all before) octets)
    → Delivers {S = S} {L = L} {T = T} told nodes Round all place octets links_mid links_new before after (Err error) → Takes {S = S} {L = L} {T = V} told nodes Round all place 1 links_old links_new before after (Err error)
takes_err told nodes Round all place octets links_old links_mid links_new before after error polled v = record {
  given = v.given;
  few = few_one v.given octets v.few;
  took = v.took;
  rounds = v.rounds;
  tells = λ left tell.
      let p = polled left tell in
      let t = v.tells (left_after left place 1) p.tell in
      took_part told nodes Round all error place octets links_mid links_new before after left v.given t.0 p t.1 t.2 t.3 v.few;
}

after_zero : (left : ℕ → List (List ℕ)) (p i : ℕ) → left_after left p 0 i ≡ left i
after_zero left p i = grind (arith, common_steps)

-- a link that has none left stays as it is
left_empty : (left : ℕ → List (List ℕ)) (p n i : ℕ) → drop n (left p) ≡ left p → left i ≡ left_after left p n i
left_empty left p n i e =
    let cases : ((i == p) ≡ true) × (i ≡ p) ⊎ ((i == p) ≡ false) × (i ≢ p) → left i ≡ left_after left p n i =
    elim [ inl at ↦ rw at.1 (sym (left_own left p n ∙ e)) | inr apart ↦ sym (left_other left p n i apart.1) ]
    in cases (eqb_tells i p)

pub takes_none : {S L V : Type 0} (told : L → Option LinkStory) (nodes : ℕ → Node) (Round : Node → List ℕ → S → S → Type 0) (all : S → List Send) (place : ℕ) (links_old links_new : List L) (before : S) (x : V) → ((left : ℕ → List (List ℕ)) → Tell told nodes links_old left (all before) → (left place ≡ []) × Tell told nodes links_new left (all before)) → Takes {S = S} {L = L} {T = V} told nodes Round all place 1 links_old links_new before before (Ok x)
takes_none told nodes Round all place links_old links_new before x none = record {
  given = [];
  few = omega arith;
  took = tt;
  rounds = Rounds-none Round before before refl;
  tells = λ left tell.
      let n = none left tell in
      record {
        all_of = sym (ap (λ (w : List (List ℕ)). cut (take 1 w)) n.0);
        tell = Tell-left told nodes links_new left (left_after left place 1) (all before) (λ i within. left_empty left place 1 i (ap (drop 1) n.0 ∙ sym n.0)) n.1;
      };
}

pub takes_fault : {S L V : Type 0} (told : L → Option LinkStory) (nodes : ℕ → Node) (Round : Node → List ℕ → S → S → Type 0) (all : S → List Send) (place : ℕ) (links_old links_new : List L) (before : S) → ((left : ℕ → List (List ℕ)) → Tell told nodes links_old left (all before) → Tell told nodes links_new left (all before)) → Takes {S = S} {L = L} {T = V} told nodes Round all place 1 links_old links_new before before (Err (ByLink Failed))
takes_fault told nodes Round all place links_old links_new before kept = record {
  given = [];
  few = omega arith;
  took = tt;
  rounds = Rounds-none Round before before refl;
  tells = λ left tell. record {
    rest = cut (take 1 (left place));
    whole = refl;
    lost = 0;
    few_lost = refl;
    part = inl (tt, Tell-left told nodes links_new left (left_after left place 0) (all before) (λ i within. sym (after_zero left place i)) (kept left tell));
  };
}

-- ---- up to so many polls of one link

cut_two : (n m : ℕ) (frames : List (List ℕ)) → cut (take n frames) ++ cut (take m (drop n frames)) ≡ cut (take (n + m) frames)
cut_two n m frames = sym (ap cut (take-add n m frames) ∙ map-append _ (take n frames) (take m (drop n frames)))

after_two : (left : ℕ → List (List ℕ)) (p n m i : ℕ) → left_after (left_after left p n) p m i ≡ left_after left p (n + m) i
after_two left p n m i =
    let cases : ((i == p) ≡ true) × (i ≡ p) ⊎ ((i == p) ≡ false) × (i ≢ p) → left_after (left_after left p n) p m i ≡ left_after left p (n + m) i =
    elim [
      | inl at ↦ rw at.1 (left_own (left_after left p n) p m ∙ ap (drop m) (left_own left p n) ∙ drop-drop m n (left p) ∙ sym (left_own left p (n + m)))
      | inr apart ↦ left_other (left_after left p n) p m i apart.1 ∙ left_other left p n i apart.1 ∙ sym (left_other left p (n + m) i apart.1)
    ] in cases (eqb_tells i p)

-- nothing was taken yet
pub Takes-start : {S L T : Type 0} (told : L → Option LinkStory) (nodes : ℕ → Node) (Round : Node → List ℕ → S → S → Type 0) (all : S → List Send) (p : ℕ) (links : List L) (before : S) (x : T) → Takes {S = S} {L = L} {T = T} told nodes Round all p 0 links links before before (Ok x)
Takes-start told nodes Round all p links before x = record {
  given = [];
  few = omega arith;
  took = tt;
  rounds = Rounds-none Round before before refl;
  tells = λ left tell. record { all_of = refl; tell = Tell-left told nodes links left (left_after left p 0) (all before) (λ i within. sym (after_zero left p i)) tell };
}

more_all : {S L : Type 0} (told : L → Option LinkStory) (nodes : ℕ → Node) (all : S → List Send) (p n m : ℕ) (links : List L) (after : S) (left : ℕ → List (List ℕ)) (xs ys : List (List ℕ)) → xs ≡ cut (take n (left p)) → TookAll told nodes all p m links after (left_after left p n) ys → TookAll told nodes all p (n + m) links after left (xs ++ ys)
more_all told nodes all p n m links after left xs ys e t = record {
  all_of = ap (λ (w : List (List ℕ)). w ++ ys) e ∙ ap (λ (w : List (List ℕ)). cut (take n (left p)) ++ w) (t.all_of ∙ ap (λ (w : List (List ℕ)). cut (take m w)) (left_own left p n)) ∙ cut_two n m (left p);
  tell = Tell-left told nodes links (left_after (left_after left p n) p m) (left_after left p (n + m)) (all after) (λ i within. after_two left p n m i) t.tell;
}

-- some behind others are some
pub some_behind : {A : Type 0} (xs ys : List A) → ys ≢ [] → xs ++ ys ≢ []
some_behind [] ys some e = some e
some_behind (x ∷ xs) ys some e = has_item x (xs ++ ys) e

pub some_of_node : (node : Node) (given : List (List ℕ)) → given ≢ [] → of_node node given ≢ []
some_of_node node [] some e = absurd (some refl)
some_of_node node (octets ∷ given) some e = absurd cc

-- what is so where lines could not be written
pub on_write : (why : Break) (A B : Type 0) → (A → B) → OnWrite why A → OnWrite why B
on_write (ByLink error) A B less on = tt
on_write ByWrite A B less on = less on

-- where the second case asks for less
cut_by : {S L : Type 0} (told : L → Option LinkStory) (nodes : ℕ → Node) (Round : Node → List ℕ → S → S → Type 0) (all : S → List Send) (why : Break) (links : List L) (after : S) (left : ℕ → List (List ℕ)) (A B : Type 0) → (A → B) → TellCut told nodes Round all why links after left A → TellCut told nodes Round all why links after left B
cut_by told nodes Round all why links after left A B less = elim [ inl whole ↦ inl whole | inr part ↦ inr (less part.0, part.1) ]

pub cut_behind : {S L X : Type 0} (told : L → Option LinkStory) (nodes : ℕ → Node) (Round : Node → List ℕ → S → S → Type 0) (all : S → List Send) (why : Break) (links : List L) (after : S) (left : ℕ → List (List ℕ)) (xs ys : List X) → TellCut told nodes Round all why links after left (ys ≢ []) → TellCut told nodes Round all why links after left (xs ++ ys ≢ [])
cut_behind told nodes Round all why links after left xs ys = cut_by told nodes Round all why links after left (ys ≢ []) (xs ++ ys ≢ []) (some_behind xs ys)

pub cut_node : {S L : Type 0} (told : L → Option LinkStory) (nodes : ℕ → Node) (Round : Node → List ℕ → S → S → Type 0) (all : S → List Send) (why : Break) (links : List L) (after : S) (left : ℕ → List (List ℕ)) (node : Node) (given : List (List ℕ)) → TellCut told nodes Round all why links after left (given ≢ []) → TellCut told nodes Round all why links after left (of_node node given ≢ [])
cut_node told nodes Round all why links after left node given = cut_by told nodes Round all why links after left (given ≢ []) (of_node node given ≢ []) (some_of_node node given)

-- so many frames dropped, or as many as were taken of so many
pub drop_taken : (n : ℕ) (frames : List (List ℕ)) → drop (length (cut (take n frames))) frames ≡ drop n frames
drop_taken zero frames = refl
drop_taken (suc n) [] = refl
drop_taken (suc n) (x ∷ frames) = drop_taken n frames

-- what is left behind those that were taken before and those taken now
part_left : (left : ℕ → List (List ℕ)) (p n : ℕ) (xs ys : List (List ℕ)) (lost i : ℕ) → xs ≡ cut (take n (left p)) → left_after (left_after left p n) p (length ys + lost) i ≡ left_after left p (length (xs ++ ys) + lost) i
part_left left p n xs ys lost i e =
    let now : drop n (left p) ≡ drop (length xs) (left p) = sym (drop_taken n (left p)) ∙ ap (λ (w : List (List ℕ)). drop (length w) (left p)) (sym e) in
    let sum : length xs + (length ys + lost) ≡ length (xs ++ ys) + lost = omega (arith, length-append xs ys) in
    let cases : ((i == p) ≡ true) × (i ≡ p) ⊎ ((i == p) ≡ false) × (i ≢ p) → left_after (left_after left p n) p (length ys + lost) i ≡ left_after left p (length (xs ++ ys) + lost) i =
    elim [
      | inl at ↦ rw at.1 (left_own (left_after left p n) p (length ys + lost) ∙ ap (drop (length ys + lost)) (left_own left p n ∙ now) ∙ drop-drop (length ys + lost) (length xs) (left p)
          ∙ ap (λ (k : ℕ). drop k (left p)) sum ∙ sym (left_own left p (length (xs ++ ys) + lost)))
      | inr apart ↦ left_other (left_after left p n) p (length ys + lost) i apart.1 ∙ left_other left p n i apart.1 ∙ sym (left_other left p (length (xs ++ ys) + lost) i apart.1)
    ] in cases (eqb_tells i p)

more_part : {S L : Type 0} (told : L → Option LinkStory) (nodes : ℕ → Node) (Round : Node → List ℕ → S → S → Type 0) (all : S → List Send) (error : Break) (p n m : ℕ) (links : List L) (after : S) (left : ℕ → List (List ℕ)) (xs ys : List (List ℕ)) → xs ≡ cut (take n (left p)) → TookPart told nodes Round all error p m links after (left_after left p n) ys → TookPart told nodes Round all error p (n + m) links after left (xs ++ ys)
more_part told nodes Round all error p n m links after left xs ys e t = record {
  rest = t.rest;
  whole = append_assoc xs ys t.rest ∙ ap (λ (w : List (List ℕ)). w ++ (ys ++ t.rest)) e ∙ ap (λ (w : List (List ℕ)). cut (take n (left p)) ++ w) (t.whole ∙ ap (λ (w : List (List ℕ)). cut (take m w)) (left_own left p n)) ∙ cut_two n m (left p);
  lost = t.lost;
  few_lost = t.few_lost;
  part = cut_left told nodes Round all error links after (left_after (left_after left p n) p (length ys + t.lost)) (left_after left p (length (xs ++ ys) + t.lost)) (xs ++ ys ≢ []) (λ i. part_left left p n xs ys t.lost i e)
      (cut_behind told nodes Round all error links after (left_after (left_after left p n) p (length ys + t.lost)) xs ys t.part);
}

rounds_more : {S : Type 0} (Round : Node → List ℕ → S → S → Type 0) (node : Node) (xs ys : List (List ℕ)) (before mid after : S) → Rounds Round (of_node node xs) before mid → Rounds Round (of_node node ys) mid after → Rounds Round (of_node node (xs ++ ys)) before after
rounds_more Round node xs ys before mid after h k = Rounds-same Round _ _ before after (sym (of_two node xs ys)) (Rounds-two Round (of_node node xs) (of_node node ys) before mid after h k)

-- so many more were taken
pub Takes-more : {S L T U V : Type 0} (told : L → Option LinkStory) (nodes : ℕ → Node) (Round : Node → List ℕ → S → S → Type 0) (all : S → List Send) (p n m : ℕ) (links_old links_mid links_new : List L) (before mid after : S) (x : T) (y : U) (z : V) → Takes {S = S} {L = L} {T = T} told nodes Round all p n links_old links_mid before mid (Ok x) → Takes {S = S} {L = L} {T = U} told nodes Round all p m links_mid links_new mid after (Ok y) → Takes {S = S} {L = L} {T = V} told nodes Round all p (n + m) links_old links_new before after (Ok z)
Takes-more told nodes Round all p n m links_old links_mid links_new before mid after x y z a b = record {
  given = a.given ++ b.given;
  few = omega (arith, a.few, b.few, length-append a.given b.given);
  took = tt;
  rounds = rounds_more Round (nodes p) a.given b.given before mid after a.rounds b.rounds;
  tells = λ left tell.
      let t = a.tells left tell in
      more_all told nodes all p n m links_new after left a.given b.given t.all_of (b.tells (left_after left p n) t.tell);
}

-- or a part of so many more
pub Takes-stop : {S L T U V : Type 0} (told : L → Option LinkStory) (nodes : ℕ → Node) (Round : Node → List ℕ → S → S → Type 0) (all : S → List Send) (p n m : ℕ) (links_old links_mid links_new : List L) (before mid after : S) (x : T) (error : Break) → Takes {S = S} {L = L} {T = T} told nodes Round all p n links_old links_mid before mid (Ok x) → Takes {S = S} {L = L} {T = U} told nodes Round all p m links_mid links_new mid after (Err error) → Takes {S = S} {L = L} {T = V} told nodes Round all p (n + m) links_old links_new before after (Err error)
Takes-stop told nodes Round all p n m links_old links_mid links_new before mid after x error a b = record {
  given = a.given ++ b.given;
  few = omega (arith, a.few, b.few, length-append a.given b.given);
  took = on_write error (b.given ≢ []) (a.given ++ b.given ≢ []) (some_behind a.given b.given) b.took;
  rounds = rounds_more Round (nodes p) a.given b.given before mid after a.rounds b.rounds;
  tells = λ left tell.
      let t = a.tells left tell in
      more_part told nodes Round all error p n m links_new after left a.given b.given t.all_of (b.tells (left_after left p n) t.tell);
}

pub split : (n m : ℕ) → n ≤ m → n + (m - n) ≡ m
split n m h = omega (arith, h)

take_past : (n m : ℕ) (frames : List (List ℕ)) → n ≤ m → drop n frames ≡ [] → take n frames ≡ take m frames
take_past n m frames h e =
    sym (append-nil (take n frames))
    ∙ ap (λ (w : List (List ℕ)). take n frames ++ w) (sym (ap (take (m - n)) e ∙ take-nil (m - n)))
    ∙ sym (take-add n (m - n) frames) ∙ ap (λ (k : ℕ). take k frames) (split n m h)

drop_past : (n m : ℕ) (frames : List (List ℕ)) → n ≤ m → drop n frames ≡ [] → drop n frames ≡ drop m frames
drop_past n m frames h e =
    e ∙ sym (ap (drop (m - n)) e ∙ drop-nil (m - n)) ∙ drop-drop (m - n) n frames ∙ ap (λ (k : ℕ). drop k frames) (split n m h)

after_past : (left : ℕ → List (List ℕ)) (p n m i : ℕ) → n ≤ m → drop n (left p) ≡ [] → left_after left p n i ≡ left_after left p m i
after_past left p n m i h e =
    let cases : ((i == p) ≡ true) × (i ≡ p) ⊎ ((i == p) ≡ false) × (i ≢ p) → left_after left p n i ≡ left_after left p m i =
    elim [
      | inl at ↦ rw at.1 (left_own left p n ∙ drop_past n m (left p) h e ∙ sym (left_own left p m))
      | inr apart ↦ left_other left p n i apart.1 ∙ sym (left_other left p m i apart.1)
    ] in cases (eqb_tells i p)

-- none are left, so any more were taken
pub Takes-past : {S L T V : Type 0} (told : L → Option LinkStory) (nodes : ℕ → Node) (Round : Node → List ℕ → S → S → Type 0) (all : S → List Send) (p n m : ℕ) (links_old links_new : List L) (before after : S) (x : T) (y : V) → n ≤ m → ((left : ℕ → List (List ℕ)) → Tell told nodes links_old left (all before) → drop n (left p) ≡ []) → Takes {S = S} {L = L} {T = T} told nodes Round all p n links_old links_new before after (Ok x) → Takes {S = S} {L = L} {T = V} told nodes Round all p m links_old links_new before after (Ok y)
Takes-past told nodes Round all p n m links_old links_new before after x y h none a = record {
  given = a.given;
  few = omega (arith, a.few, h);
  took = tt;
  rounds = a.rounds;
  tells = λ left tell.
      let t = a.tells left tell in
      let e = none left tell in
      record {
        all_of = t.all_of ∙ ap cut (take_past n m (left p) h e);
        tell = Tell-left told nodes links_new (left_after left p n) (left_after left p m) (all after) (λ i within. after_past left p n m i h e) t.tell;
      };
}

-- a part of so many is a part of more
pub Takes-wide : {S L T V : Type 0} (told : L → Option LinkStory) (nodes : ℕ → Node) (Round : Node → List ℕ → S → S → Type 0) (all : S → List Send) (p n m : ℕ) (links_old links_new : List L) (before after : S) (error : Break) → n ≤ m → Takes {S = S} {L = L} {T = T} told nodes Round all p n links_old links_new before after (Err error) → Takes {S = S} {L = L} {T = V} told nodes Round all p m links_old links_new before after (Err error)
Takes-wide told nodes Round all p n m links_old links_new before after error h a = record {
  given = a.given;
  few = omega (arith, a.few, h);
  took = a.took;
  rounds = a.rounds;
  tells = λ left tell.
      let t = a.tells left tell in
      let more = cut (take (m - n) (drop n (left p))) in
      record {
        rest = t.rest ++ more;
        whole = sym (append_assoc a.given t.rest more) ∙ ap (λ (w : List (List ℕ)). w ++ more) t.whole ∙ cut_two n (m - n) (left p) ∙ ap (λ (k : ℕ). cut (take k (left p))) (split n m h);
        lost = t.lost;
        few_lost = t.few_lost;
        part = t.part;
      };
}

pub none_left : (left : ℕ → List (List ℕ)) (p n : ℕ) → left_after left p n p ≡ [] → drop (n + 1) (left p) ≡ []
none_left left p n e = sym (drop-drop 1 n (left p)) ∙ ap (drop 1) (sym (left_own left p n) ∙ e)

-- so many is that many
pub Takes-same : {S L T V : Type 0} (told : L → Option LinkStory) (nodes : ℕ → Node) (Round : Node → List ℕ → S → S → Type 0) (all : S → List Send) (p n m : ℕ) (links_old links_new : List L) (before after : S) (x : T) (y : V) → n ≡ m → Takes {S = S} {L = L} {T = T} told nodes Round all p n links_old links_new before after (Ok x) → Takes {S = S} {L = L} {T = V} told nodes Round all p m links_old links_new before after (Ok y)
Takes-same told nodes Round all p n m links_old links_new before after x y e a = rw (← e) (record { given = a.given; few = a.few; took = tt; rounds = a.rounds; tells = a.tells })

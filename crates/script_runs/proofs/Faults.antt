-- The octets of a script fall into lines in one way, and what the lines tell is one thing.
use Rattle.std.proofs.Common.{◌≡◌, ◌≢◌, ℕ, ◌<◌, ◌≤◌, Bool, List, [], ◌∷◌, ◌++◌, drop, length, Option, Some, None, inl, inr, refl, sym, ap, subst, ◌∙◌, append_assoc, arith}
use Rattle.std.proofs.lemmas.List.{append-nil, length-append}
use Rattle.std.proofs.lemmas.Bool.{cases_lt}
use Rattle.std.proofs.Math.Seq.{drop-append_seam}
use Rattle.run_journal.specs.declared.acts.Entry.{Entry}
use Rattle.domain_links.specs.Turns.{Delivery}
use Rattle.frame_script.specs.Script.{end_fault}
use Rattle.script_lines.specs.Script.{Fault, Draft, seeded}
use Rattle.frame_script.specs.Live.{Heard, Plain, Draws, Turns}
use Rattle.frame_script.specs.declared.reader.Mode.{Mode}
use Rattle.frame_script.specs.declared.reader.Mode.TheVariants.{Replay}
use Rattle.script_runs.specs.Script.{Rounds, with_seed, with_turn, Means, Says, IsOf, Refuses, Spells, most_lines, most_in_line, AreLines, IsClosed, IsOpen, IsScript, HasFault, point_of}
use Rattle.text_lines.specs.Texts.{TellsIn, AreLinesIn, NoFeed, without_return, joined, texts, Ends}
use Rattle.script_runs.proofs.Early.{of_before}

-- ---- what a line tells

-- what judges the lines: a kind of run, a journal, a seed, and turns
pub record Judge : Type 0 where
  pub mode : Mode
  pub journal : List Entry
  pub seed : Option (List ℕ)
  pub turns : List (List Delivery)

abbrev judge : Mode → List Entry → Option (List ℕ) → List (List Delivery) → Judge
judge m j seed turns = record { mode = m; journal = j; seed = seed; turns = turns }

nobody : Judge
nobody = judge Replay [] None []

-- what came from outside by a line is of that seed and these turns
abbrev Gives : Judge → Rounds → Type 0
Gives k rounds = IsOf k.seed k.turns rounds

-- the lines tell this by them
record Told (k : Judge) (lines : List (List ℕ)) (draft : Draft) (rounds : Rounds) : Type 0 where
  spelled : Spells k.mode k.journal lines draft rounds
  gives : Gives k rounds

-- the same network and the same rounds
abbrev pub AreSame : Draft → Rounds → Draft → Rounds → Type 0
AreSame d rounds e others = (d ≡ e) × (rounds ≡ others)

one_seed : (seed : Option (List ℕ)) (turns : List (List Delivery)) (earlier rounds : Rounds) (drawn : List ℕ) → rounds ≡ with_seed earlier drawn → IsOf seed turns rounds → Some drawn ≡ seed
one_seed seed turns earlier rounds drawn is gives =
    let here : rounds.drawn ≡ Some drawn = ap (λ (r : Rounds). r.drawn) is in
    elim gives.drawn [
      | inl none ↦ absurd cc
      | inr same ↦ sym here ∙ same
    ]

same_seed : (one other : List ℕ) (seed : Option (List ℕ)) → Some one ≡ seed → Some other ≡ seed → one ≡ other
same_seed one other seed p q = cc (p, q)

-- the last of turns in front of the same ones
last_turn : (later others past turns : List (List Delivery)) (one other : List Delivery) → later ++ one ∷ past ≡ turns → others ++ other ∷ past ≡ turns → one ≡ other
last_turn later others past turns one other p q =
    let same : length later ≡ length others = omega (arith, ap (λ (t : List (List Delivery)). length t) p, ap (λ (t : List (List Delivery)). length t) q, length-append later (one ∷ past), length-append others (other ∷ past)) in
    let both : one ∷ past ≡ other ∷ past =
    sym (drop-append_seam later (one ∷ past)) ∙ ap (λ (t : List (List Delivery)). drop (length later) t) (p ∙ sym q) ∙ ap (λ (n : ℕ). drop n (others ++ other ∷ past)) same ∙ drop-append_seam others (other ∷ past) in
    cc

one_turn : (seed : Option (List ℕ)) (turns : List (List Delivery)) (earlier r s : Rounds) (one other : List Delivery) → r ≡ with_turn earlier one → s ≡ with_turn earlier other → IsOf seed turns r → IsOf seed turns s → one ≡ other
one_turn seed turns earlier r s one other p q x y =
    last_turn x.later y.later earlier.turns turns one other (ap (λ (t : Rounds). x.later ++ t.turns) (sym p) ∙ x.first) (ap (λ (t : Rounds). y.later ++ t.turns) (sym q) ∙ y.first)

-- what a line says has one meaning
same_meaning : (k : Judge) (said : Heard) (before x y : Draft) (earlier r s : Rounds) → Means said before earlier x r → Means said before earlier y s → Gives k r → Gives k s → AreSame x r y s
same_meaning k (Plain said) before x y earlier r s p q of_r of_s = (p.0 ∙ sym q.0, p.1 ∙ sym q.1)
same_meaning k Draws before x y earlier r s p q of_r of_s =
    let same = same_seed p.0 q.0 k.seed (one_seed k.seed k.turns earlier r p.0 p.1.1 of_r) (one_seed k.seed k.turns earlier s q.0 q.1.1 of_s) in
    (p.1.0 ∙ ap (λ (z : List ℕ). seeded before z) same ∙ sym q.1.0, p.1.1 ∙ ap (λ (z : List ℕ). with_seed earlier z) same ∙ sym q.1.1)
same_meaning k Turns before x y earlier r s p q of_r of_s =
    let same = one_turn k.seed k.turns earlier r s p.0 q.0 p.1.1.1 q.1.1.1 of_r of_s in
    (p.1.1.0 ∙ sym q.1.1.0, p.1.1.1 ∙ ap (λ (z : List Delivery). with_turn earlier z) same ∙ sym q.1.1.1)

one_meaning : (k : Judge) (line : List ℕ) (before x y : Draft) (earlier r s : Rounds) → Says k.mode k.journal line before earlier x r → Says k.mode k.journal line before earlier y s → Gives k r → Gives k s → AreSame x r y s
one_meaning k line before x y earlier r s p q of_r of_s =
    let said : p.said ≡ q.said = cc (p.says, q.says) in
    same_meaning k q.said before x y earlier r s (subst (λ (z : Heard). Means z before earlier x r) said p.means) q.means of_r of_s

-- a line is not both taken and refused
taken_or_refused : (k : Judge) (line : List ℕ) (before draft : Draft) (earlier rounds : Rounds) (fault : Fault) → Says k.mode k.journal line before earlier draft rounds → Refuses k.mode k.journal line before earlier fault → ⊥
taken_or_refused k line before draft earlier rounds fault p q = cc (p.says, q.says)

-- and is refused for one fault
one_refusal : (k : Judge) (line : List ℕ) (draft : Draft) (rounds : Rounds) (fault other : Fault) → Refuses k.mode k.journal line draft rounds fault → Refuses k.mode k.journal line draft rounds other → fault ≡ other
one_refusal k line draft rounds fault other p q = cc (p.says, q.says)

one_told : (k : Judge) (lines : List (List ℕ)) (x y : Draft) (r s : Rounds) → Spells k.mode k.journal lines x r → Gives k r → Spells k.mode k.journal lines y s → Gives k s → AreSame x r y s
unfolding TellsIn
one_told k [] x y r s p of_r q of_s = (p.0 ∙ sym q.0, p.1 ∙ sym q.1)
one_told k (line ∷ lines) x y r s ((before, earlier), (p, says)) of_r ((before', earlier'), (q, says')) of_s =
    let first = of_before k.mode k.journal k.seed k.turns lines line before x earlier r p says of_r in
    let second = of_before k.mode k.journal k.seed k.turns lines line before' y earlier' s q says' of_s in
    let same = one_told k lines before before' earlier earlier' p first q second in
    one_meaning k line before' x y earlier' r s (subst (λ (e : Rounds). Says k.mode k.journal line before' e x r) same.1 (subst (λ (b : Draft). Says k.mode k.journal line b earlier x r) same.0 says)) says' of_r of_s

one_telling : (k : Judge) (lines : List (List ℕ)) (x y : Draft) (r s : Rounds) → Told k lines x r → Told k lines y s → AreSame x r y s
one_telling k lines x y r s p q = one_told k lines x y r s p.spelled p.gives q.spelled q.gives

-- the lines before a line
record Before (k : Judge) (line : List ℕ) (said : List (List ℕ)) (draft : Draft) (rounds : Rounds) : Type 0 where
  draft_ : Draft
  rounds_ : Rounds
  told : Told k said draft_ rounds_
  says : Says k.mode k.journal line draft_ rounds_ draft rounds

line_before : (k : Judge) (line : List ℕ) (said : List (List ℕ)) (draft : Draft) (rounds : Rounds) → Spells k.mode k.journal (line ∷ said) draft rounds → Gives k rounds → Before k line said draft rounds
unfolding TellsIn
line_before k line said draft rounds ((before, earlier), (p, says)) gives = record {
  draft_ = before;
  rounds_ = earlier;
  told = record { spelled = p; gives = of_before k.mode k.journal k.seed k.turns said line before draft earlier rounds p says gives };
  says = says;
}

-- a line that is taken behind lines that told this is not refused there
not_taken : (k : Judge) (said : List (List ℕ)) (line : List ℕ) (before draft : Draft) (earlier rounds : Rounds) (fault : Fault) → Told k said before earlier → Told k (line ∷ said) draft rounds → Refuses k.mode k.journal line before earlier fault → ⊥
not_taken k said line before draft earlier rounds fault p q refuses =
    let b = line_before k line said draft rounds q.spelled q.gives in
    let one = one_telling k said b.draft_ before b.rounds_ earlier b.told p in
    let taken = subst (λ (x : Rounds). Says k.mode k.journal line before x draft rounds) one.1 (subst (λ (x : Draft). Says k.mode k.journal line x b.rounds_ draft rounds) one.0 b.says) in
    taken_or_refused k line before draft earlier rounds fault taken refuses

before_last : (k : Judge) (line : List ℕ) (said : List (List ℕ)) (draft : Draft) (rounds : Rounds) → Told k (line ∷ said) draft rounds → (before : Draft) × ((earlier : Rounds) × Told k said before earlier)
before_last k line said draft rounds t = (let b = line_before k line said draft rounds t.spelled t.gives in (b.draft_, (b.rounds_, b.told)))

-- ---- lines in octets

cut_line : (a b xs ys : List ℕ) → NoFeed a → NoFeed b → a ++ 10 ∷ xs ≡ b ++ 10 ∷ ys → (a ≡ b) × (xs ≡ ys)
cut_line [] [] xs ys p q e = (refl, cc)
cut_line [] (y ∷ b) xs ys p q e = absurd (q.0 cc)
cut_line (x ∷ a) [] xs ys p q e = absurd (p.0 cc)
cut_line (x ∷ a) (y ∷ b) xs ys p q e =
    let first : x ≡ y = cc in
    let rest : a ++ 10 ∷ xs ≡ b ++ 10 ∷ ys = cc in
    let same = cut_line a b xs ys p.1 q.1 rest in
    (cc (first, same.0), same.1)

-- a line without a feed ends no later than the first feed
short_line : (a b xs ys : List ℕ) → NoFeed a → a ++ xs ≡ b ++ 10 ∷ ys → length a ≤ length b
short_line [] b xs ys p e = omega arith
short_line (x ∷ a) [] xs ys p e = absurd (p.0 cc)
short_line (x ∷ a) (y ∷ b) xs ys p e =
    let rest : a ++ xs ≡ b ++ 10 ∷ ys = cc in
    omega (arith, short_line a b xs ys p.1 rest)

-- and has none
no_feed : (a b ys : List ℕ) → NoFeed a → a ≡ b ++ 10 ∷ ys → ⊥
no_feed a b ys p e = omega (arith, short_line a b [] ys p (append-nil a ∙ e), ap (λ (w : List ℕ). length w) e, length-append b (10 ∷ ys))

joined_step : (line : List ℕ) (lines : List (List ℕ)) (rest : List ℕ) → joined (line ∷ lines) ++ rest ≡ joined lines ++ (line ++ 10 ∷ rest)
unfolding joined
joined_step line lines rest = append_assoc (joined lines ++ line) (10 ∷ []) rest ∙ append_assoc (joined lines) line (10 ∷ rest)

-- as many lines at the front of the same octets are the same
same_lines : (good other : List (List ℕ)) (rest more : List ℕ) → AreLines good → AreLines other → length good ≡ length other → joined good ++ rest ≡ joined other ++ more → (good ≡ other) × (rest ≡ more)
unfolding AreLinesIn joined
same_lines [] [] rest more p q n e = (refl, e)
same_lines [] (y ∷ other) rest more p q n e = absurd (omega (arith, n))
same_lines (x ∷ good) [] rest more p q n e = absurd (omega (arith, n))
same_lines (x ∷ good) (y ∷ other) rest more p q n e =
    let same = same_lines good other (x ++ 10 ∷ rest) (y ++ 10 ∷ more) p.3 q.3 (omega (arith, n)) (sym (joined_step x good rest) ∙ e ∙ joined_step y other more) in
    let lines = cut_line x y rest more p.0 q.0 same.1 in
    (cc (same.0, lines.0), lines.1)

-- the next line behind the good ones is whole, within the limits, and where the lines tell something it is taken
record Next (k : Judge) (good other : List (List ℕ)) (rest : List ℕ) : Type 0 where
  line : List ℕ
  behind : List ℕ
  is : rest ≡ line ++ 10 ∷ behind
  none : NoFeed line
  short : length line ≤ most_in_line
  few : length good < most_lines
  told : (draft : Draft) (rounds : Rounds) → Told k (texts other) draft rounds → (d : Draft) × ((r : Rounds) × Told k (without_return line ∷ texts good) d r)

next_line : (k : Judge) (good other : List (List ℕ)) (rest more : List ℕ) → AreLines good → AreLines other → length good < length other → joined good ++ rest ≡ joined other ++ more → Next k good other rest
unfolding AreLinesIn
next_line k good [] rest more p q n e = absurd (omega (arith, n))
next_line k good (y ∷ other) rest more p q n e =
    elim (cases_lt (length good) (length other)) [
      | inl longer ↦ let next = next_line k good other rest (y ++ 10 ∷ more) p q.3 longer (e ∙ joined_step y other more) in record {
        line = next.line;
        behind = next.behind;
        is = next.is;
        none = next.none;
        short = next.short;
        few = next.few;
        told = λ draft rounds s. (let before = before_last k (without_return y) (texts other) draft rounds s in next.told before.0 before.1.0 before.1.1);
      }
      | inr last ↦ let same = same_lines good other rest (y ++ 10 ∷ more) p q.3 (omega (arith, n, last)) (e ∙ joined_step y other more) in record {
        line = y;
        behind = more;
        is = same.1;
        none = q.0;
        short = q.1;
        few = omega (arith, q.2, ap (λ (l : List (List ℕ)). length l) same.0);
        told = λ draft rounds s. (draft, (rounds, subst (λ (l : List (List ℕ)). Told k (without_return y ∷ texts l) draft rounds) (sym same.0) s));
      }
    ]

-- ---- a fault, and a line that is taken

-- where a line is at its end and the next one is whole, it is that one
same_next : (k : Judge) (ended : Bool) (good other : List (List ℕ)) (line after text : List ℕ) → NoFeed line → Ends ended good line after text → (n : Next k good other (line ++ after)) → text ≡ without_return n.line
same_next k ended good other line after text none (inl feed) n =
    let same = cut_line line n.line feed.0.0 n.behind none n.none (sym (ap (λ (w : List ℕ). line ++ w) feed.0.1) ∙ n.is) in
    feed.1 ∙ ap without_return same.0
same_next k ended good other line after text none (inr last) n =
    absurd (no_feed line n.line n.behind none (sym (append-nil line) ∙ sym (ap (λ (w : List ℕ). line ++ w) last.1.0) ∙ n.is))

fault_or_next : (k : Judge) (octets : List ℕ) (ended : Bool) (good other : List (List ℕ)) (before draft : Draft) (earlier rounds : Rounds) (fault : Fault) → (f : HasFault octets ended good (point_of k.mode k.journal before earlier) fault) → Told k (texts good) before earlier
    → Next k good other (f.line ++ f.after) → Told k (texts other) draft rounds → ⊥
fault_or_next k octets ended good other before draft earlier rounds fault f spelled n told =
    elim f.wrong [
      | inl long ↦ omega (arith, long.1, n.short, short_line f.line n.line f.after n.behind f.open_line n.is)
      | inr w ↦ elim w.why [
        | inl many ↦ omega (arith, many.1, n.few)
        | inr why ↦
            let text = same_next k ended good other f.line f.after w.text f.open_line w.ends n in
            let next = n.told draft rounds told in
            not_taken k (texts good) (without_return n.line) before next.0 earlier next.1.0 fault spelled next.1.1 (subst (λ (t : List ℕ). Refuses k.mode k.journal t before earlier fault) text why.1)
      ]
    ]

-- nothing is left for a fault behind whole lines
nothing_left : (k : Judge) (octets : List ℕ) (ended : Bool) (good : List (List ℕ)) (before : Draft) (earlier : Rounds) (fault : Fault) → (f : HasFault octets ended good (point_of k.mode k.journal before earlier) fault) → good ≢ [] → f.line ++ f.after ≡ [] → ⊥
nothing_left k octets ended good before earlier fault f some none =
    let no_octets : length (f.line ++ f.after) ≡ 0 = ap (λ (w : List ℕ). length w) none in
    elim f.wrong [
      | inl long ↦ omega (arith, long.1, no_octets, length-append f.line f.after)
      | inr w ↦ elim w.ends [
        | inl feed ↦ omega (arith, no_octets, length-append f.line f.after, ap (λ (x : List ℕ). length x) feed.0.1)
        | inr last ↦ elim last.1.1.1 [
          | inl octets_there ↦ octets_there (sym (append-nil f.line) ∙ sym (ap (λ (x : List ℕ). f.line ++ x) last.1.0) ∙ none)
          | inr first ↦ some first
        ]
      ]
    ]

-- no octets are left behind as many lines as there are
no_rest : (good lines : List (List ℕ)) (rest : List ℕ) → AreLines good → AreLines lines → length lines ≤ length good → joined good ++ rest ≡ joined lines ++ [] → (rest ≡ []) × (good ≡ lines)
unfolding AreLinesIn
no_rest [] [] rest p q n e = (let same = same_lines [] [] rest [] tt tt refl e in (same.1, same.0))
no_rest [] (y ∷ lines) rest p q n e = absurd (omega (arith, n))
no_rest (x ∷ good) lines rest p q n e =
    elim (cases_lt (length good) (length lines)) [
      | inl last ↦ let same = same_lines (x ∷ good) lines rest [] p q (omega (arith, n, last)) e in (same.1, same.0)
      | inr more ↦ let none = no_rest good lines (x ++ 10 ∷ rest) p.3 q more (sym (joined_step x good rest) ∙ e) in
          absurd (omega (arith, ap (λ (w : List ℕ). length w) none.0, length-append x (10 ∷ rest)))
    ]

fault_or_closed : (k : Judge) (octets : List ℕ) (ended : Bool) (good : List (List ℕ)) (before : Draft) (earlier : Rounds) (fault : Fault) (said : List (List ℕ)) (draft : Draft) (rounds : Rounds) → HasFault octets ended good (point_of k.mode k.journal before earlier) fault
    → Told k (texts good) before earlier → IsClosed octets said → Told k said draft rounds → ⊥
fault_or_closed k octets ended good before earlier fault said draft rounds f spelled s told =
    let same = sym f.begins.whole ∙ s.begins.whole in
    elim (cases_lt (length good) (length s.lines)) [
      | inl longer ↦ fault_or_next k octets ended good s.lines before draft earlier rounds fault f spelled (next_line k good s.lines (f.line ++ f.after) [] f.begins.each s.begins.each longer same)
          (subst (λ (l : List (List ℕ)). Told k l draft rounds) s.says told)
      | inr fewer ↦
          let none = no_rest good s.lines (f.line ++ f.after) f.begins.each s.begins.each fewer same in
          nothing_left k octets ended good before earlier fault f (λ empty. s.some (sym none.1 ∙ empty)) none.0
    ]

-- a fault in the last line, which has no line feed and is taken
fault_or_last : (k : Judge) (octets : List ℕ) (ended : Bool) (good : List (List ℕ)) (before : Draft) (earlier : Rounds) (fault : Fault) (last : List ℕ) (draft : Draft) (rounds : Rounds) → (f : HasFault octets ended good (point_of k.mode k.journal before earlier) fault)
    → Told k (texts good) before earlier → f.line ++ f.after ≡ last → NoFeed last → length last ≤ most_in_line → length good < most_lines → Told k (last ∷ texts good) draft rounds → ⊥
fault_or_last k octets ended good before earlier fault last draft rounds f spelled same none short few told =
    elim f.wrong [
      | inl long ↦ omega (arith, long.1, short, ap (λ (w : List ℕ). length w) same, length-append f.line f.after)
      | inr w ↦ elim w.ends [
        | inl feed ↦ no_feed last f.line feed.0.0 none (sym same ∙ ap (λ (x : List ℕ). f.line ++ x) feed.0.1)
        | inr end ↦ elim w.why [
          | inl many ↦ omega (arith, many.1, few)
          | inr why ↦
              let text : w.text ≡ last = end.1.1.0 ∙ sym (append-nil f.line) ∙ sym (ap (λ (x : List ℕ). f.line ++ x) end.1.0) ∙ same in
              not_taken k (texts good) last before draft earlier rounds fault spelled told (subst (λ (t : List ℕ). Refuses k.mode k.journal t before earlier fault) text why.1)
        ]
      ]
    ]

fault_or_open : (k : Judge) (octets : List ℕ) (ended : Bool) (good : List (List ℕ)) (before : Draft) (earlier : Rounds) (fault : Fault) (said : List (List ℕ)) (draft : Draft) (rounds : Rounds) → HasFault octets ended good (point_of k.mode k.journal before earlier) fault
    → Told k (texts good) before earlier → IsOpen octets said → Told k said draft rounds → ⊥
fault_or_open k octets ended good before earlier fault said draft rounds f spelled s told =
    let same = sym f.begins.whole ∙ s.begins.whole in
    let told_last = subst (λ (l : List (List ℕ)). Told k l draft rounds) s.says told in
    elim (cases_lt (length good) (length s.lines)) [
      | inl longer ↦
          let front = before_last k s.last (texts s.lines) draft rounds told_last in
          fault_or_next k octets ended good s.lines before front.0 earlier front.1.0 fault f spelled (next_line k good s.lines (f.line ++ f.after) s.last f.begins.each s.begins.each longer same) front.1.1
      | inr fewer ↦ elim (cases_lt (length s.lines) (length good)) [
        | inl longer ↦
            let next = next_line k s.lines good s.last (f.line ++ f.after) s.begins.each f.begins.each longer (sym same) in
            no_feed s.last next.line next.behind s.line next.is
        | inr also ↦
            let lines = same_lines good s.lines (f.line ++ f.after) s.last f.begins.each s.begins.each (omega (arith, fewer, also)) same in
            fault_or_last k octets ended good before earlier fault s.last draft rounds f spelled lines.1 s.line s.short (omega (arith, s.few, ap (λ (l : List (List ℕ)). length l) lines.0))
            (subst (λ (l : List (List ℕ)). Told k (s.last ∷ texts l) draft rounds) (sym lines.0) told_last)
      ]
    ]

fault_or_told : (k : Judge) (octets : List ℕ) (ended : Bool) (good said : List (List ℕ)) (before draft : Draft) (earlier rounds : Rounds) (fault : Fault) → HasFault octets ended good (point_of k.mode k.journal before earlier) fault → Told k (texts good) before earlier
    → IsScript octets said → Told k said draft rounds → ⊥
fault_or_told k octets ended good said before draft earlier rounds fault f spelled (inl s) told = fault_or_closed k octets ended good before earlier fault said draft rounds f spelled s told
fault_or_told k octets ended good said before draft earlier rounds fault f spelled (inr s) told = fault_or_open k octets ended good before earlier fault said draft rounds f spelled s told

-- ---- one list of lines

-- whatever has no feed stands behind the same lines
same_rest : (good other : List (List ℕ)) (rest more : List ℕ) → AreLines good → AreLines other → NoFeed rest → NoFeed more → joined good ++ rest ≡ joined other ++ more → (good ≡ other) × (rest ≡ more)
same_rest good other rest more p q none nothing same =
    elim (cases_lt (length good) (length other)) [
      | inl longer ↦ let next = next_line nobody good other rest more p q longer same in absurd (no_feed rest next.line next.behind none next.is)
      | inr few ↦ elim (cases_lt (length other) (length good)) [
        | inl longer ↦ let next = next_line nobody other good more rest q p longer (sym same) in absurd (no_feed more next.line next.behind nothing next.is)
        | inr also ↦ same_lines good other rest more p q (omega (arith, few, also)) same
      ]
    ]

pub one_script : (octets : List ℕ) (said other : List (List ℕ)) → IsScript octets said → IsScript octets other → said ≡ other
one_script octets said other (inl s) (inl t) =
    let same = same_rest s.lines t.lines [] [] s.begins.each t.begins.each tt tt (sym s.begins.whole ∙ t.begins.whole) in
    s.says ∙ ap texts same.0 ∙ sym t.says
one_script octets said other (inl s) (inr t) =
    let same = same_rest s.lines t.lines [] t.last s.begins.each t.begins.each tt t.line (sym s.begins.whole ∙ t.begins.whole) in
    absurd (t.some (sym same.1))
one_script octets said other (inr s) (inl t) =
    let same = same_rest s.lines t.lines s.last [] s.begins.each t.begins.each s.line tt (sym s.begins.whole ∙ t.begins.whole) in
    absurd (s.some same.1)
one_script octets said other (inr s) (inr t) =
    let same = same_rest s.lines t.lines s.last t.last s.begins.each t.begins.each s.line t.line (sym s.begins.whole ∙ t.begins.whole) in
    s.says ∙ ap (λ (w : List ℕ). w ∷ texts s.lines) same.1 ∙ ap (λ (l : List (List ℕ)). t.last ∷ texts l) same.0 ∙ sym t.says

-- ---- one fault

-- a line that is at its end is no longer than what has no feed at the same place
no_longer : (ended : Bool) (good : List (List ℕ)) (line after text other more : List ℕ) → NoFeed other → Ends ended good line after text → other ++ more ≡ line ++ after → length other ≤ length line
no_longer ended good line after text other more none (inl feed) same =
    short_line other line more feed.0.0 none (same ∙ ap (λ (w : List ℕ). line ++ w) feed.0.1)
no_longer ended good line after text other more none (inr last) same =
    omega (arith, ap (λ (w : List ℕ). length w) same, length-append other more, length-append line after, ap (λ (w : List ℕ). length w) last.1.0)

-- both ends of one line give one text
one_text : (ended over : Bool) (good lines : List (List ℕ)) (line after text other more words : List ℕ) → NoFeed line → NoFeed other → line ++ after ≡ other ++ more → Ends ended good line after text → Ends over lines other more words → text ≡ words
one_text ended over good lines line after text other more words none nothing same (inl feed) (inl end) =
    let one = cut_line line other feed.0.0 end.0.0 none nothing (sym (ap (λ (w : List ℕ). line ++ w) feed.0.1) ∙ same ∙ ap (λ (w : List ℕ). other ++ w) end.0.1) in
    feed.1 ∙ ap without_return one.0 ∙ sym end.1
one_text ended over good lines line after text other more words none nothing same (inl feed) (inr end) =
    absurd (no_feed other line feed.0.0 nothing (sym (append-nil other) ∙ sym (ap (λ (w : List ℕ). other ++ w) end.1.0) ∙ sym same ∙ ap (λ (w : List ℕ). line ++ w) feed.0.1))
one_text ended over good lines line after text other more words none nothing same (inr last) (inl end) =
    absurd (no_feed line other end.0.0 none (sym (append-nil line) ∙ sym (ap (λ (w : List ℕ). line ++ w) last.1.0) ∙ same ∙ ap (λ (w : List ℕ). other ++ w) end.0.1))
one_text ended over good lines line after text other more words none nothing same (inr last) (inr end) =
    last.1.1.0 ∙ sym (append-nil line) ∙ sym (ap (λ (w : List ℕ). line ++ w) last.1.0) ∙ same ∙ ap (λ (w : List ℕ). other ++ w) end.1.0 ∙ append-nil other ∙ sym end.1.1.0

-- behind the same lines
one_fault : (k : Judge) (octets : List ℕ) (ended over : Bool) (good : List (List ℕ)) (draft : Draft) (rounds : Rounds) (fault other : Fault) → (f : HasFault octets ended good (point_of k.mode k.journal draft rounds) fault) → (g : HasFault octets over good (point_of k.mode k.journal draft rounds) other)
    → f.line ++ f.after ≡ g.line ++ g.after → fault ≡ other
one_fault k octets ended over good draft rounds fault other f g same =
    elim f.wrong [
      | inl long ↦ elim g.wrong [
        | inl long_too ↦ long.0 ∙ sym long_too.0
        | inr v ↦ absurd (omega (arith, long.1, v.short, no_longer over good g.line g.after v.text f.line f.after f.open_line v.ends same))
      ]
      | inr w ↦ elim g.wrong [
        | inl long ↦ absurd (omega (arith, long.1, w.short, no_longer ended good f.line f.after w.text g.line g.after g.open_line w.ends (sym same)))
        | inr v ↦ elim w.why [
          | inl many ↦ elim v.why [
            | inl many_too ↦ many.0 ∙ sym many_too.0
            | inr why ↦ absurd (omega (arith, many.1, why.0))
          ]
          | inr why ↦ elim v.why [
            | inl many ↦ absurd (omega (arith, many.1, why.0))
            | inr why_too ↦
                let text = one_text ended over good good f.line f.after w.text g.line g.after v.text f.open_line g.open_line same w.ends v.ends in
                one_refusal k v.text draft rounds fault other (subst (λ (t : List ℕ). Refuses k.mode k.journal t draft rounds fault) text why.1) why_too.1
          ]
        ]
      ]
    ]

-- two faults of the same octets
record AreFaults (k : Judge) (octets : List ℕ) (ended over : Bool) (good lines : List (List ℕ)) (before draft : Draft) (earlier rounds : Rounds) (fault other : Fault) : Type 0 where
  f : HasFault octets ended good (point_of k.mode k.journal before earlier) fault
  spelled : Told k (texts good) before earlier
  g : HasFault octets over lines (point_of k.mode k.journal draft rounds) other
  told : Told k (texts lines) draft rounds

same_place : (k : Judge) (octets : List ℕ) (ended over : Bool) (good lines : List (List ℕ)) (before draft : Draft) (earlier rounds : Rounds) (fault other : Fault) → (a : AreFaults k octets ended over good lines before draft earlier rounds fault other)
    → (good ≡ lines) × (a.f.line ++ a.f.after ≡ a.g.line ++ a.g.after)
same_place k octets ended over good lines before draft earlier rounds fault other a =
    let same : joined good ++ (a.f.line ++ a.f.after) ≡ joined lines ++ (a.g.line ++ a.g.after) = sym a.f.begins.whole ∙ a.g.begins.whole in
    elim (cases_lt (length good) (length lines)) [
      | inl longer ↦ absurd (fault_or_next k octets ended good lines before draft earlier rounds fault a.f a.spelled
          (next_line k good lines (a.f.line ++ a.f.after) (a.g.line ++ a.g.after) a.f.begins.each a.g.begins.each longer same) a.told)
      | inr few ↦ elim (cases_lt (length lines) (length good)) [
        | inl longer ↦ absurd (fault_or_next k octets over lines good draft before rounds earlier other a.g a.told
            (next_line k lines good (a.g.line ++ a.g.after) (a.f.line ++ a.f.after) a.g.begins.each a.f.begins.each longer (sym same)) a.spelled)
        | inr also ↦ same_lines good lines (a.f.line ++ a.f.after) (a.g.line ++ a.g.after) a.f.begins.each a.g.begins.each (omega (arith, few, also)) same
      ]
    ]

-- a fault behind lines that tell this, behind the same lines
moved : (k : Judge) (octets : List ℕ) (ended : Bool) (good lines : List (List ℕ)) (before draft : Draft) (earlier rounds : Rounds) (fault : Fault) → lines ≡ good → draft ≡ before → rounds ≡ earlier → (g : HasFault octets ended lines (point_of k.mode k.journal draft rounds) fault)
    → (h : HasFault octets ended good (point_of k.mode k.journal before earlier) fault) × ((h.line ≡ g.line) × (h.after ≡ g.after))
moved k octets ended good lines before draft earlier rounds fault same network asked g =
    let to_good = subst (λ (l : List (List ℕ)). (h : HasFault octets ended l (point_of k.mode k.journal draft rounds) fault) × ((h.line ≡ g.line) × (h.after ≡ g.after))) same (g, (refl, refl)) in
    let to_network = subst (λ (x : Draft). (h : HasFault octets ended good (point_of k.mode k.journal x rounds) fault) × ((h.line ≡ g.line) × (h.after ≡ g.after))) network to_good in
    subst (λ (x : Rounds). (h : HasFault octets ended good (point_of k.mode k.journal before x) fault) × ((h.line ≡ g.line) × (h.after ≡ g.after))) asked to_network

place_of_one : (k : Judge) (octets : List ℕ) (ended over : Bool) (good lines : List (List ℕ)) (before draft : Draft) (earlier rounds : Rounds) (fault other : Fault) → HasFault octets ended good (point_of k.mode k.journal before earlier) fault → Told k (texts good) before earlier
    → HasFault octets over lines (point_of k.mode k.journal draft rounds) other → Told k (texts lines) draft rounds → (good ≡ lines) × (fault ≡ other)
place_of_one k octets ended over good lines before draft earlier rounds fault other f spelled g told =
    let place = same_place k octets ended over good lines before draft earlier rounds fault other (record { f = f; spelled = spelled; g = g; told = told }) in
    let tells = one_telling k (texts good) draft before rounds earlier (subst (λ (l : List (List ℕ)). Told k (texts l) draft rounds) (sym place.0) told) spelled in
    let here = moved k octets over good lines before draft earlier rounds other (sym place.0) tells.0 tells.1 g in
    let octets_there : g.line ++ g.after ≡ here.0.line ++ here.0.after = cc (here.1.0, here.1.1) in
    (place.0, one_fault k octets ended over good before earlier fault other f here.0 (place.1 ∙ octets_there))

-- a script may end where its octets do, or not, for one cause
end_of_one : (k : Judge) (octets : List ℕ) (said lines : List (List ℕ)) (one other : Draft) (rounds others : Rounds) → IsScript octets said → Told k said one rounds → IsScript octets lines → Told k lines other others → end_fault one ≡ end_fault other
end_of_one k octets said lines one other rounds others is spelled also told =
    let same = one_script octets said lines is also in
    ap (λ (x : Draft). end_fault x) (one_telling k lines one other rounds others (subst (λ (l : List (List ℕ)). Told k l one rounds) same spelled) told).0

-- ---- the laws

pub fault_or_script : (m : Mode) (j : List Entry) (seed : Option (List ℕ)) (turns : List (List Delivery)) (octets : List ℕ) (ended : Bool) (good said : List (List ℕ)) (before draft : Draft) (earlier rounds : Rounds) (fault : Fault)
    → HasFault octets ended good (point_of m j before earlier) fault → Spells m j (texts good) before earlier → IsOf seed turns earlier → IsScript octets said → Spells m j said draft rounds → IsOf seed turns rounds → ⊥
fault_or_script m j seed turns octets ended good said before draft earlier rounds fault f spelled gives s told given =
    fault_or_told (judge m j seed turns) octets ended good said before draft earlier rounds fault f (record { spelled = spelled; gives = gives }) s (record { spelled = told; gives = given })

pub one_place : (m : Mode) (j : List Entry) (seed : Option (List ℕ)) (turns : List (List Delivery)) (octets : List ℕ) (ended over : Bool) (good lines : List (List ℕ)) (before draft : Draft) (earlier rounds : Rounds) (fault other : Fault)
    → HasFault octets ended good (point_of m j before earlier) fault → Spells m j (texts good) before earlier → IsOf seed turns earlier → HasFault octets over lines (point_of m j draft rounds) other → Spells m j (texts lines) draft rounds → IsOf seed turns rounds
    → (good ≡ lines) × (fault ≡ other)
one_place m j seed turns octets ended over good lines before draft earlier rounds fault other f spelled gives g told given =
    place_of_one (judge m j seed turns) octets ended over good lines before draft earlier rounds fault other f (record { spelled = spelled; gives = gives }) g (record { spelled = told; gives = given })

pub one_account : (m : Mode) (j : List Entry) (seed : Option (List ℕ)) (turns : List (List Delivery)) (said : List (List ℕ)) (one other : Draft) (rounds others : Rounds)
    → Spells m j said one rounds → IsOf seed turns rounds → Spells m j said other others → IsOf seed turns others → (one ≡ other) × (rounds ≡ others)
one_account m j seed turns said one other rounds others p gives q given = one_told (judge m j seed turns) said one other rounds others p gives q given

pub one_end : (m : Mode) (j : List Entry) (seed : Option (List ℕ)) (turns : List (List Delivery)) (octets : List ℕ) (said lines : List (List ℕ)) (one other : Draft) (rounds others : Rounds)
    → IsScript octets said → Spells m j said one rounds → IsOf seed turns rounds → IsScript octets lines → Spells m j lines other others → IsOf seed turns others → end_fault one ≡ end_fault other
one_end m j seed turns octets said lines one other rounds others is spelled gives also told given =
    end_of_one (judge m j seed turns) octets said lines one other rounds others is (record { spelled = spelled; gives = gives }) also (record { spelled = told; gives = given })

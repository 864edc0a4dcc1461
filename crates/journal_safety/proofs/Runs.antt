-- The journal of a run: each act of each node was legal when it was added.
use Rattle.std.specs.List.{AllByRecursion}
use Rattle.key_hierarchy.specs.declared.answers.PullAnswer.{PullAnswer}
use Rattle.key_hierarchy.specs.declared.answers.PullAnswer.TheVariants.{Found, NoHolder, Absent}
use Rattle.run_journal.specs.declared.acts.Act.TheVariants.{Drew, Looked}
use Rattle.run_journal.specs.declared.acts.Drawn.TheVariants as draw
use Rattle.run_journal.specs.declared.acts.GroupKind.{GroupKind}
use Rattle.run_journal.specs.declared.acts.GroupKind.TheVariants as groups
use Rattle.domain_rules.specs.HeldRight.{GivesRightKey, looking, AllHeld, HeldRight}
use Rattle.std.proofs.Common.{ℕ, zero, suc, ◌≡◌, ◌<◌, ◌≤◌, ◌∙◌, inl, inr, Bool, true, false, cond, List, [], ◌∷◌, ◌++◌, length, refl, sym, ap, subst, arith}
use Rattle.std.proofs.lemmas.Bool.{cases_lt}
use Rattle.domain_base.specs.declared.names.Akm.TheVariants.{FtPsk}
use Rattle.domain_base.specs.declared.names.Node.{Node}
use Rattle.domain_base.specs.declared.names.Node.TheVariants.{Ap, Sta}
use Rattle.key_hierarchy.proofs.Lengths.{length-kdf}
use Rattle.run_journal.specs.declared.domain.Domain.{Domain}
use Rattle.run_journal.specs.declared.domain.Event.{Event}
use Rattle.run_journal.specs.declared.acts.Act.{Act}
use Rattle.run_journal.specs.declared.acts.Entry.{Entry}
use Rattle.run_journal.specs.Acts.{same}
use Rattle.run_journal.specs.Questions.{history, draws, add}
use Rattle.run_journal.specs.Premises.{In}
use Rattle.domain_rules.specs.Network.{gtk, is_ap, draw_end}
use Rattle.run_journal.specs.Events.{IsListed, protects}
use Rattle.domain_rules.specs.AccessPointRows.{draw_igtk, start_acts}
use Rattle.domain_rules.specs.Owing.{current_act, current_igtk}
use Rattle.domain_rules.specs.Rounds.{Place, in_order}
use Rattle.domain_rules.specs.Present.{present, earlier}
use Rattle.domain_rules.specs.Explained.{AddsAll, number_of, push, Follows, started, Explained}
use Rattle.domain_rules.proofs.Parts.{same-true, same-refl}
use Rattle.domain_rules.proofs.Journals.{history-started_sta, history-not_started, history-started}
use Rattle.domain_rules.proofs.KeyOctets.{octets-kdf}
use Rattle.domain_rules.proofs.PresentNetwork.{earlier_push, earlier_below}
use Rattle.journal_safety.proofs.Legal.{for_used, HasDrawn, LegalGroupKey, Legal, LegalHistory, Chain}
use Rattle.journal_safety.proofs.Settled.{Settled, Fine, AllCurrent}
use Rattle.journal_safety.proofs.Rows.{RightLook, RightAct, RightActs}
use Rattle.journal_safety.proofs.Likenesses.{IsLike, like_back, like_present, ground_present, history_like, settled_like, fine_like}
use Rattle.journal_safety.proofs.Settled.{Ground}
use Rattle.journal_safety.proofs.Renewals.{adds_fine}

-- no entry is of a later round
abbrev pub Until : ℕ → List Entry → Type 0
Until r past = (m : Entry) → In m past → m.round ≤ r

abbrev pub LegalJournal : Domain → List Entry → Type 0
LegalJournal d [] = Unit {0}
LegalJournal d (l ∷ past) = Legal d l.node (history l.node past) l.act × Until l.round past × LegalJournal d past

abbrev entry_of : ℕ → Node → Act → List Entry → Entry
entry_of r n e past = record { round = r; node = n; number = number_of e past; act = e }

history_own : (r : ℕ) (n : Node) (e : Act) (past : List Entry) → history n (entry_of r n e past ∷ past) ≡ e ∷ history n past
history_own r n e past = rw (same-refl n) refl

other_history : (r : ℕ) (n m : Node) (e : Act) (past : List Entry) → same m n ≡ false → history m (entry_of r n e past ∷ past) ≡ history m past
other_history r n m e past is = rw is refl

history_by : (d : Domain) (n : Node) (l : Entry) (past : List Entry) → Legal d l.node (history l.node past) l.act → LegalHistory d n (history n past) → (b : Bool) → same n l.node ≡ b → LegalHistory d n (cond b (l.act ∷ history n past) (history n past))
history_by d n l past legal more true is = let e : n ≡ l.node = same-true n l.node is in (subst (λ (x : Node). Legal d x (history x past) l.act) (sym e) legal, more)
history_by d n l past legal more false is = more

pub legal_history : (d : Domain) (n : Node) (past : List Entry) → LegalJournal d past → LegalHistory d n (history n past)
legal_history d n [] j = tt
legal_history d n (l ∷ past) j = history_by d n l past j.0 (legal_history d n past j.2) (same n l.node) refl

-- what holds after each round
pub record Sound (d : Domain) (r : ℕ) (past : List Entry) : Type 0 where
  pub legal : LegalJournal d past
  pub until : Until r past
  pub settled : (n : Node) → Settled d n (history n past)

-- what holds of one group, halfway
pub record Halfway (d : Domain) (r : ℕ) (n : Node) (g : List Act) (past : List Entry) : Type 0 where
  pub legal : LegalJournal d past
  pub until : Until r past
  pub chain : Chain d n (history n past) g
  pub own : Settled d n (add g (history n past))
  pub others : (m : Node) → same m n ≡ false → Settled d m (history m past)

push_sound_at : (d : Domain) (r : ℕ) (n m : Node) (past : List Entry) → Halfway d r n [] past → (b : Bool) → same m n ≡ b → Settled d m (history m past)
push_sound_at d r n m past w true is = subst (λ (x : Node). Settled d x (history x past)) (sym (same-true m n is)) w.own
push_sound_at d r n m past w false is = w.others m is

until_more : (r : ℕ) (l : Entry) (past : List Entry) → l.round ≡ r → Until r past → Until r (l ∷ past)
until_more r l past is until m (inl here) = let k : m.round ≡ l.round = ap (λ (x : Entry). x.round) here in omega (arith, k, is)
until_more r l past is until m (inr later) = until m later

push_sound : (d : Domain) (r : ℕ) (n : Node) (g : List Act) (past : List Entry) → Halfway d r n g past → Sound d r (push r n g past)
push_sound d r n [] past w = record { legal = w.legal; until = w.until; settled = λ m. push_sound_at d r n m past w (same m n) refl }
push_sound d r n (e ∷ g) past w =
    let l : Entry = entry_of r n e past in
    push_sound d r n g (l ∷ past) (record {
      legal = (w.chain.0, w.until, w.legal);
      until = until_more r l past refl w.until;
      chain = subst (λ (x : List Act). Chain d n x g) (sym (history_own r n e past)) w.chain.1;
      own = subst (λ (x : List Act). Settled d n (add g x)) (sym (history_own r n e past)) w.own;
      others = λ m is. subst (λ (x : List Act). Settled d m x) (sym (other_history r n m e past is)) (w.others m is);
    })

-- ---- key holders gave the right keys, as far as the journal goes: those of the network as it was before the round, by the whole journal

abbrev pub RightJournal : Domain → List Entry → List Entry → Type 0
RightJournal d whole past = AllByRecursion (λ (e : Entry). RightAct (present d (earlier e.round whole)) e.node e.act) past

right_push : (d : Domain) (whole : List Entry) (r : ℕ) (n : Node) (g : List Act) (past : List Entry) → RightJournal d whole (push r n g past) → RightActs (present d (earlier r whole)) n g × RightJournal d whole past
right_push d whole r n [] past w = (tt, w)
right_push d whole r n (e ∷ g) past w = let v = right_push d whole r n g (entry_of r n e past ∷ past) w in ((v.1.0, v.0), v.1.1)

right_places : (d e : Domain) (whole : List Entry) (r : ℕ) (places : List Place) (old new : List Entry) → AddsAll e r places old new → RightJournal d whole new → RightJournal d whole old
right_places d e whole r [] old new is w = subst (λ (x : List Entry). RightJournal d whole x) is w
right_places d e whole r (p ∷ places) old new (acts, (adds, rest)) w = (right_push d whole r p.node acts old (right_places d e whole r places (push r p.node acts old) new rest w)).1

right_follows : (d : Domain) (whole : List Entry) (r : ℕ) (events : List Event) (old new : List Entry) → Follows d r events old new → RightJournal d whole new → RightJournal d whole old
right_follows d whole r events old new f w = right_places d (present d old) whole r (in_order f.places) old new f.adds w

right_act : (e : Domain) (l : Entry) (a : Act) → l.act ≡ a → ((id name : List ℕ) (p : Node) (answer : PullAnswer) → l.act ≡ Looked id name p answer → e.akm ≡ FtPsk → GivesRightKey e id (looking l name p) answer) → RightAct e l.node a
right_act e l (Looked id name p answer) is gives = right_by answer (gives id name p answer is)
  where
    right_by : (x : PullAnswer) → (e.akm ≡ FtPsk → GivesRightKey e id (looking l name p) x) → RightLook e l.node id p x
    right_by (Found k) w = w
    right_by NoHolder w = λ suite. tt
    right_by Absent w = λ suite. tt
right_act e l _ is gives = tt

right_all : (d : Domain) (j end : List Entry) → (d.akm ≡ FtPsk → AllHeld d j end) → RightJournal d j end
unfolding AllHeld
right_all d j [] held = tt
right_all d j (e ∷ past) held = (
  right_act (present d (earlier e.round j)) e e.act refl (λ id name p answer is suite. ((held suite).0 id name p answer is).1),
  right_all d j past (λ suite. (held suite).1),
)

pub held_right : (d : Domain) (j : List Entry) → (d.akm ≡ FtPsk → HeldRight d j) → RightJournal d j j
held_right d j held = right_all d j j held

-- ---- the entries of earlier rounds

earlier_places : (e : Domain) (k r : ℕ) (places : List Place) (old new : List Entry) → k ≤ r → AddsAll e r places old new → earlier k new ≡ earlier k old
earlier_places e k r [] old new late is = ap (earlier k) is
earlier_places e k r (p ∷ places) old new late (acts, (adds, rest)) = earlier_places e k r places (push r p.node acts old) new late rest ∙ earlier_push k r p.node acts old late

-- each node in turn, in the network e of the round
all_sound : (d e : Domain) (whole : List Entry) (r : ℕ) (places : List Place) (old new : List Entry) → IsLike d e → Ground d → Ground e → present d (earlier r whole) ≡ e → RightJournal d whole new → AddsAll e r places old new → Sound d r old → Sound d r new
all_sound d e whole r [] old new like ground own network right is s = subst (λ (x : List Entry). Sound d r x) (sym is) s
all_sound d e whole r (p ∷ places) old new like ground own network right (acts, (adds, rest)) s =
    let so_far = right_push d whole r p.node acts old (right_places d e whole r places (push r p.node acts old) new rest right) in
    let answered : RightActs e p.node acts = subst (λ (x : Domain). RightActs x p.node acts) network so_far.0 in
    let h : List Act = history p.node old in
    let there : Fine e p.node h acts = adds_fine e 0 p.node h p.event acts answered (history_like d e like p.node h (legal_history d p.node old s.legal)) (settled_like d e like own p.node h (s.settled p.node)) adds in
    let fine : Fine d p.node h acts = fine_like e d (like_back d e like) ground p.node h acts there in
    let next : Sound d r (push r p.node acts old) = push_sound d r p.node acts old (record { legal = s.legal; until = s.until; chain = fine.chain; own = fine.settled; others = λ m is. s.settled m }) in
    all_sound d e whole r places (push r p.node acts old) new like ground own network right rest next

follows_sound : (d : Domain) (whole : List Entry) (r : ℕ) (events : List Event) (old new : List Entry) → Ground d → earlier r whole ≡ old → RightJournal d whole new → Follows d r events old new → Sound d r old → Sound d r new
follows_sound d whole r events old new ground is right f s =
    all_sound d (present d old) whole r (in_order f.places) old new (like_present d old) ground (ground_present d old ground) (ap (present d) is) right f.adds s

-- ---- the start

-- the acts of the start, by whether IGTKs are in use
abbrev drawn_by : Bool → Domain → Node → List Act
drawn_by b d n = Drew (draw.Group groups.Gtk (gtk d n 0)) ∷ draw_igtk b d n (suc 0)

abbrev start_by : Bool → Domain → Node → List Act
start_by b d n = drawn_by b d n ++ (current_act groups.Gtk d n (add (drawn_by b d n) []) ∷ current_igtk b d n (add (drawn_by b d n) []))

start_key : (d : Domain) (k number : ℕ) (which : GroupKind) (h : List Act) → draws h < draw_end → LegalGroupKey which (Ap k) h (gtk d (Ap k) number)
unfolding gtk
start_key d k number which h few = record { ap = refl; octets = octets-kdf _ _ _ 16; size = length-kdf _ _ _ 16; few = few }

chain_by : (d : Domain) (k : ℕ) (b : Bool) → Chain d (Ap k) [] (start_by b d (Ap k))
chain_by d k false = (start_key d k 0 groups.Gtk [] (omega arith), (record { ap = refl; newest = refl }, tt))
chain_by d k true = (
  start_key d k 0 groups.Gtk [] (omega arith),
  (
    start_key d k (suc 0) groups.Igtk (Drew (draw.Group groups.Gtk (gtk d (Ap k) 0)) ∷ []) (omega arith),
    (record { ap = refl; newest = refl }, (record { ap = refl; newest = refl }, tt)),
  ),
)

start_chain : (d : Domain) (k : ℕ) → Chain d (Ap k) [] (start_acts d 0 (Ap k))
start_chain d k = chain_by d k (protects d)

-- legal as far as it goes, in round 0
pub record Begun (d : Domain) (past : List Entry) : Type 0 where
  pub legal : LegalJournal d past
  pub until : Until 0 past

begun_push : (d : Domain) (n : Node) (g : List Act) (past : List Entry) → Chain d n (history n past) g → Begun d past → Begun d (push 0 n g past)
begun_push d n [] past chain w = w
begun_push d n (e ∷ g) past chain w =
    let l : Entry = entry_of 0 n e past in
    begun_push d n g (l ∷ past) (subst (λ (x : List Act). Chain d n x g) (sym (history_own 0 n e past)) chain.1) (record { legal = (chain.0, w.until, w.legal); until = until_more 0 l past refl w.until })

started_begun : (d : Domain) (k : ℕ) → Begun d (started d k)
unfolding started
started_begun d zero = record { legal = tt; until = λ m there. absurd there }
started_begun d (suc k) = begun_push d (Ap k) (start_acts d 0 (Ap k)) (started d k) (subst (λ (x : List Act). Chain d (Ap k) x (start_acts d 0 (Ap k))) (sym (history-not_started d k k (omega arith))) (start_chain d k)) (started_begun d k)

settled_none : (d : Domain) (n : Node) → Ground d → (is_ap n ≡ true → IsListed d n → ⊥) → Settled d n []
settled_none d n ground other = record { ground = ground; bare = λ p part a. cc a; nonced = λ p part a. cc a; started = λ role listed. absurd (other role listed); nearly = inl (λ which used. refl); paid = omega arith }

settled_by : (d : Domain) (k : ℕ) → Ground d → (b : Bool) → protects d ≡ b → Settled d (Ap k) (add (start_by b d (Ap k)) [])
settled_by d k ground false off =
    let h : List Act = add (start_by false d (Ap k)) [] in
    record {
      ground = ground;
      bare = λ p part a. cc a;
      nonced = λ p part a. cc a;
      started = λ role listed. for_used d (λ which. HasDrawn which h) (gtk d (Ap k) 0, inl refl) (λ on. absurd (cc (on, off)));
      nearly = inl (for_used d (λ which. AllCurrent which h) refl (λ on. absurd (cc (on, off))));
      paid = omega arith;
    }
settled_by d k ground true on =
    let h : List Act = add (start_by true d (Ap k)) [] in
    record {
      ground = ground;
      bare = λ p part a. cc a;
      nonced = λ p part a. cc a;
      started = λ role listed. for_used d (λ which. HasDrawn which h) (gtk d (Ap k) 0, inl refl) (λ used. (gtk d (Ap k) (suc 0), inl refl));
      nearly = inl (for_used d (λ which. AllCurrent which h) refl (λ used. refl));
      paid = omega arith;
    }

settled_start : (d : Domain) (k : ℕ) → Ground d → Settled d (Ap k) (add (start_acts d 0 (Ap k)) [])
settled_start d k ground = settled_by d k ground (protects d) refl

settled_started : (d : Domain) (n : Node) → Ground d → Settled d n (history n (started d (length d.aps)))
settled_started d (Sta s) ground = subst (λ (x : List Act). Settled d (Sta s) x) (sym (history-started_sta d s (length d.aps))) (settled_none d (Sta s) ground (λ role listed. cc role))
settled_started d (Ap k) ground = elim (cases_lt k (length d.aps)) [
  | inl low ↦ subst (λ (x : List Act). Settled d (Ap k) x) (sym (history-started d k (length d.aps) low)) (settled_start d k ground)
  | inr high ↦ subst (λ (x : List Act). Settled d (Ap k) x) (sym (history-not_started d k (length d.aps) high)) (settled_none d (Ap k) ground (λ role listed. omega (arith, listed, high)))
]

sound_start : (d : Domain) → Ground d → Sound d 0 (started d (length d.aps))
sound_start d ground = let w = started_begun d (length d.aps) in record { legal = w.legal; until = w.until; settled = λ n. settled_started d n ground }

-- ---- a run

later_round : (d : Domain) (r : ℕ) (past : List Entry) → Sound d r past → Sound d (suc r) past
later_round d r past s = record { legal = s.legal; until = λ m there. omega (arith, s.until m there); settled = s.settled }

-- the whole journal has, of the rounds so far, what this part has
run_by : (d : Domain) (rounds : List (List Event)) (j whole : List Entry) → Ground d → ((k : ℕ) → k ≤ suc (length rounds) → earlier k whole ≡ earlier k j) → RightJournal d whole j → Explained d rounds j → Sound d (length rounds) j
unfolding Explained
run_by d [] j whole ground same_ right is = subst (λ (x : List Entry). Sound d 0 x) (sym is) (sound_start d ground)
run_by d (round ∷ rounds) j whole ground same_ right (old, (before, follows)) =
    let n : ℕ = length rounds in
    let front : (k : ℕ) → k ≤ suc n → earlier k whole ≡ earlier k old = λ k low. (same_ k (omega (arith, low)) ∙ earlier_places (present d old) k (suc n) (in_order follows.places) old j low follows.adds) in
    let s : Sound d n old = run_by d rounds old whole ground front (right_follows d whole (suc n) round old j follows right) before in
    let is : earlier (suc n) whole ≡ old = front (suc n) (omega arith) ∙ earlier_below (suc n) n old (omega arith) s.until in
    follows_sound d whole (suc n) round old j ground is right follows (later_round d n old s)

pub run_sound : (d : Domain) (rounds : List (List Event)) (j : List Entry) → Ground d → (d.akm ≡ FtPsk → HeldRight d j) → Explained d rounds j → Sound d (length rounds) j
run_sound d rounds j ground held run = run_by d rounds j j ground (λ k low. refl) (held_right d j held) run

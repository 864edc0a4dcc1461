-- How many frames were sent: a replay counter stays below 2^64, as no more values are drawn than 2^60.
use Rattle.std.proofs.Common.{ℕ, suc, ◌≡◌, ◌∙◌, ◌+◌, ◌*◌, ◌^◌, ◌<◌, ◌≤◌, Bool, true, false, cond, List, [], ◌∷◌, length, Option, Some, None, is_some, refl, sym, ap, subst, arith}
use Rattle.std.specs.Prelude.{if◌then◌else◌}
use Rattle.domain_base.specs.declared.names.Node.{Node}
use Rattle.eapol_key.specs.declared.messages.Message.{Message}
use Rattle.eapol_key.specs.declared.messages.Message.TheVariants.{M1, M3, G1}
use Rattle.run_journal.specs.declared.acts.GroupKind.TheVariants as groups
use Rattle.run_journal.specs.declared.domain.Domain.{Domain}
use Rattle.run_journal.specs.declared.acts.Kind.TheVariants as kind
use Rattle.run_journal.specs.declared.acts.Act.{Act}
use Rattle.run_journal.specs.declared.acts.Drawn.TheVariants as draw
use Rattle.run_journal.specs.declared.acts.Drawn.TheVariants.{Nonce}
use Rattle.run_journal.specs.declared.acts.Act.TheVariants.{Opened, Drew}
use Rattle.run_journal.specs.Acts.{opens, ends, finishes, key_drawn, sent}
use Rattle.run_journal.specs.GroupKinds.{same_group_kind}
use Rattle.run_journal.specs.Questions.{listed, also, attempt, since, all_sent, group_keys, handshake, before_sent, draws, or_else}
use Rattle.domain_rules.specs.Network.{draw_end}
use Rattle.domain_rules.specs.Asking.{is_four_way, in_renewal}
use Rattle.domain_rules.specs.Counters.{sent_count, next_in_attempt, first_in_session, takes_counter, next_in_session}
use Rattle.domain_rules.specs.AccessPointRows.{most_sends}
use Rattle.domain_rules.proofs.Parts.{same-refl, since_part}
use Rattle.run_journal.specs.declared.acts.Kind.{Kind}
use Rattle.journal_safety.proofs.Legal.{SendsM3, is_opened, openings, LegalFinished, Legal, LegalHistory}
use Rattle.journal_safety.proofs.Histories.{opens-is, group_key_drawn-is}
use Rattle.journal_safety.proofs.Sessions.{finishes-is, sends_by}
use Rattle.journal_safety.proofs.Settled.{same_attempt}

-- ---- in an attempt

-- each send of the message came after fewer than four
abbrev IsFew : Domain → Node → Node → Message → Type 0
IsFew d n p m = (e : Act) (h : List Act) → Legal d n h e → is_some (sent p (kind.Key m) e) ≡ true → sent_count p m (since p h) < most_sends

few_by : (d : Domain) (n p : Node) (m : Message) (e : Act) (h : List Act) → IsFew d n p m → Legal d n h e → sent_count p m (since p h) ≤ most_sends → (b : Bool) → opens p e ≡ b → (o : Option (List ℕ)) → sent p (kind.Key m) e ≡ o
    → length (all_sent p (kind.Key m) (cond b (e ∷ []) (e ∷ since p h))) ≤ most_sends
few_by d n p m e h few legal more true is None s = rw s (omega arith)
few_by d n p m e h few legal more true is (Some x) s = let w = opens-is p e is in let none : None ≡ Some x = subst (λ (y : Act). sent p (kind.Key m) y ≡ Some x) w.1 s in absurd (cc none)
few_by d n p m e h few legal more false is None s = rw s more
few_by d n p m e h few legal more false is (Some x) s = rw s (few e h legal (ap (λ (y : Option (List ℕ)). is_some y) s))

few_sent : (d : Domain) (n p : Node) (m : Message) (h : List Act) → IsFew d n p m → LegalHistory d n h → sent_count p m (since p h) ≤ most_sends
few_sent d n p m [] few legal = omega arith
few_sent d n p m (e ∷ h) few legal = few_by d n p m e h few legal.0 (few_sent d n p m h few legal.1) (opens p e) refl (sent p (kind.Key m) e) refl

few_m1 : (d : Domain) (n p : Node) → IsFew d n p M1
few_m1 d n p e h legal is = sends_by d n p e h M1 legal is

few_m3 : (d : Domain) (n p : Node) → IsFew d n p M3
few_m3 d n p e h legal is = let w : SendsM3 d n h p = sends_by d n p e h M3 legal is in w.few

-- ---- how often attempts were begun and finished with p, and what was sent to p in all

abbrev opened_with : Node → List Act → ℕ
opened_with p [] = 0
opened_with p (e ∷ h) = cond (opens p e) (suc (opened_with p h)) (opened_with p h)

abbrev finished_with : Node → List Act → ℕ
finished_with p [] = 0
finished_with p (e ∷ h) = cond (finishes p e) (suc (finished_with p h)) (finished_with p h)

-- each attempt sends a message four times at most
in_all_by : (d : Domain) (n p : Node) (m : Message) (e : Act) (h : List Act) → sent_count p m (since p h) ≤ most_sends → sent_count p m h ≤ 4 * opened_with p h + sent_count p m (since p h) → (b : Bool) → opens p e ≡ b → (o : Option (List ℕ)) → sent p (kind.Key m) e ≡ o
    → length (listed o (all_sent p (kind.Key m) h)) ≤ 4 * cond b (suc (opened_with p h)) (opened_with p h) + length (all_sent p (kind.Key m) (cond b (e ∷ []) (e ∷ since p h)))
in_all_by d n p m e h few more true is None s = omega (arith, few, more)
in_all_by d n p m e h few more true is (Some x) s = let w = opens-is p e is in let none : None ≡ Some x = subst (λ (y : Act). sent p (kind.Key m) y ≡ Some x) w.1 s in absurd (cc none)
in_all_by d n p m e h few more false is None s = rw s more
in_all_by d n p m e h few more false is (Some x) s = rw s (omega (arith, more))

in_all : (d : Domain) (n p : Node) (m : Message) (h : List Act) → IsFew d n p m → LegalHistory d n h → sent_count p m h ≤ 4 * opened_with p h + sent_count p m (since p h)
in_all d n p m [] few legal = omega arith
in_all d n p m (e ∷ h) few legal = in_all_by d n p m e h (few_sent d n p m h few legal.1) (in_all d n p m h few legal.1) (opens p e) refl (sent p (kind.Key m) e) refl

-- ---- each attempt is finished once at most

-- one that goes on is counted as well
abbrev going : Option (List Act) → ℕ
going None = 0
going (Some part) = 1

going_also : (e : Act) (o : Option (List Act)) → going (also e o) ≡ going o
going_also e None = refl
going_also e (Some part) = refl

over_by : (d : Domain) (n p : Node) (e : Act) (h : List Act) → Legal d n h e → finished_with p h + going (attempt p h) ≤ opened_with p h → (b c f : Bool) → opens p e ≡ b → ends p e ≡ c → finishes p e ≡ f
    → cond f (suc (finished_with p h)) (finished_with p h) + going (cond b (Some (e ∷ [])) (cond c None (also e (attempt p h)))) ≤ cond b (suc (opened_with p h)) (opened_with p h)
over_by d n p e h legal more true c true o s f = let w = opens-is p e o in let none : false ≡ true = subst (λ (y : Act). finishes p y ≡ true) w.1 f in absurd (cc none)
over_by d n p e h legal more true c false o s f = omega (arith, more)
over_by d n p e h legal more false c true o s f =
    let w = finishes-is p e f in
    let l : LegalFinished d n h p w.0 = subst (λ (y : Act). Legal d n h y) w.1 legal in
    let over : ends p e ≡ true = subst (λ (y : Act). ends p y ≡ true) (sym w.1) (same_attempt p) in
    let gone : c ≡ true = sym s ∙ over in
    let going_on : going (attempt p h) ≡ 1 = ap going l.alive.awaited in
    rw gone (omega (arith, more, going_on))
over_by d n p e h legal more false true false o s f = omega (arith, more)
over_by d n p e h legal more false false false o s f = rw (going_also e (attempt p h)) more

over : (d : Domain) (n p : Node) (h : List Act) → LegalHistory d n h → finished_with p h + going (attempt p h) ≤ opened_with p h
over d n p [] legal = omega arith
over d n p (e ∷ h) legal = over_by d n p e h legal.0 (over d n p h legal.1) (opens p e) (ends p e) (finishes p e) refl refl refl

-- ---- for each attempt and each group key a value was drawn

opened_one : (p : Node) (e : Act) (h : List Act) → opened_with p h ≤ openings h → (b : Bool) → opens p e ≡ b → cond b (suc (opened_with p h)) (opened_with p h) ≤ cond (is_opened e) (suc (openings h)) (openings h)
opened_one p (Opened q s) h more true is = omega (arith, more)
opened_one p (Opened q s) h more false is = omega (arith, more)
opened_one p _ h more true is = cc is
opened_one p _ h more false is = more

opened_few : (p : Node) (h : List Act) → opened_with p h ≤ openings h
opened_few p [] = omega arith
opened_few p (e ∷ h) = opened_one p e h (opened_few p h) (opens p e) refl

-- but for the last attempt, whose nonce is drawn just after it
drawn_for_by : (d : Domain) (n : Node) (e : Act) (h : List Act) → Legal d n h e → openings h + length (group_keys groups.Gtk h) ≤ suc (draws h) → openings (e ∷ h) + length (group_keys groups.Gtk (e ∷ h)) ≤ suc (draws (e ∷ h))
drawn_for_by d n (Opened q s) h legal more = let paid : openings h + length (group_keys groups.Gtk h) ≤ draws h = legal.paid in omega (arith, paid)
drawn_for_by d n (Drew (Nonce v)) h legal more = omega (arith, more)
drawn_for_by d n (Drew (draw.Group which v)) h legal more = go (same_group_kind groups.Gtk which)
  where
    go : (b : Bool) → openings h + length (listed (cond b (Some v) None) (group_keys groups.Gtk h)) ≤ suc (suc (draws h))
    go true = omega (arith, more)
    go false = omega (arith, more)
drawn_for_by d n _ h legal more = more

drawn_for : (d : Domain) (n : Node) (h : List Act) → LegalHistory d n h → openings h + length (group_keys groups.Gtk h) ≤ suc (draws h)
drawn_for d n [] legal = omega arith
drawn_for d n (e ∷ h) legal = drawn_for_by d n e h legal.0 (drawn_for d n h legal.1)

few_draws_by : (d : Domain) (n : Node) (e : Act) (h : List Act) → Legal d n h e → draws h ≤ draw_end → draws (e ∷ h) ≤ draw_end
few_draws_by d n (Drew (Nonce v)) h legal more = legal.few
few_draws_by d n (Drew (draw.Group which v)) h legal more = legal.few
few_draws_by d n _ h legal more = more

few_draws : (d : Domain) (n : Node) (h : List Act) → LegalHistory d n h → draws h ≤ draw_end
few_draws d n [] legal = omega arith
few_draws d n (e ∷ h) legal = few_draws_by d n e h legal.0 (few_draws d n h legal.1)

-- ---- G1 is sent four times at most for a group key in a session

pub record Low (p : Node) (h : List Act) : Type 0 where
  pub few : sent_count p G1 (handshake groups.Gtk p h) ≤ most_sends
  pub all : sent_count p G1 h ≤ 4 * (finished_with p h + length (group_keys groups.Gtk h)) + sent_count p G1 (handshake groups.Gtk p h)

-- by where the session begins, a group key is drawn, or G1 is sent
low_drew : (p : Node) (e : Act) (h : List Act) (key : List ℕ) → Low p h → key_drawn groups.Gtk e ≡ Some key → Low p (e ∷ h)
low_drew p e h key low is =
    subst (λ (x : Act). Low p (x ∷ h)) (sym (group_key_drawn-is groups.Gtk e key is)) (record { few = omega arith; all = omega (arith, low.few, low.all) })

low_other : (d : Domain) (n p : Node) (e : Act) (h : List Act) → Legal d n h e → Low p h → finishes p e ≡ false → key_drawn groups.Gtk e ≡ None → (q : Option (List ℕ)) → sent p (kind.Key G1) e ≡ q → Low p (e ∷ h)
low_other d n p e h legal low f k None s = record { few = rw (f, k, s) low.few; all = rw (f, k, s) low.all }
low_other d n p e h legal low f k (Some x) s =
    let few : sent_count p G1 (handshake groups.Gtk p h) < most_sends = sends_by d n p e h G1 legal (ap (λ (y : Option (List ℕ)). is_some y) s) in
    record { few = rw (f, k, s) few; all = rw (f, k, s) (omega (arith, low.all)) }

low_key : (d : Domain) (n p : Node) (e : Act) (h : List Act) → Legal d n h e → Low p h → finishes p e ≡ false → (o : Option (List ℕ)) → key_drawn groups.Gtk e ≡ o → Low p (e ∷ h)
low_key d n p e h legal low f None k = low_other d n p e h legal low f k (sent p (kind.Key G1) e) refl
low_key d n p e h legal low f (Some key) k = low_drew p e h key low k

low_by : (d : Domain) (n p : Node) (e : Act) (h : List Act) → Low p h → (f : Bool) → finishes p e ≡ f → Legal d n h e → Low p (e ∷ h)
low_by d n p e h low true is legal =
    let w = finishes-is p e is in
    subst (λ (x : Act). Low p (x ∷ h)) (sym w.1) (record { few = rw (same-refl p) (omega arith); all = rw (same-refl p) (omega (arith, low.few, low.all)) })
low_by d n p e h low false is legal = low_key d n p e h legal low is (key_drawn groups.Gtk e) refl

pub low_in : (d : Domain) (n p : Node) (h : List Act) → LegalHistory d n h → Low p h
low_in d n p [] legal = record { few = omega arith; all = omega arith }
low_in d n p (e ∷ h) legal = low_by d n p e h (low_in d n p h legal.1) (finishes p e) refl legal.0

-- ---- a replay counter is not above the frames that were sent

abbrev sum : Node → List Act → ℕ
sum p h = suc (sent_count p M1 h + sent_count p M3 h + sent_count p G1 h)

-- the counter with which a session goes on
part_few_by : (e : Act) (xs ys : List (List ℕ)) → length xs ≤ length ys → (o : Option (List ℕ)) → length (listed o xs) ≤ length (listed o ys)
part_few_by e xs ys more None = more
part_few_by e xs ys more (Some x) = omega (arith, more)

since_few_by : (p : Node) (k : Kind) (e : Act) (h : List Act) → length (all_sent p k (since p h)) ≤ length (all_sent p k h) → (b : Bool) → length (all_sent p k (cond b (e ∷ []) (e ∷ since p h))) ≤ length (all_sent p k (e ∷ h))
since_few_by p k e h more true = part_few_by e [] (all_sent p k h) (omega arith) (sent p k e)
since_few_by p k e h more false = part_few_by e (all_sent p k (since p h)) (all_sent p k h) more (sent p k e)

since_few : (p : Node) (k : Kind) (h : List Act) → length (all_sent p k (since p h)) ≤ length (all_sent p k h)
since_few p k [] = omega arith
since_few p k (e ∷ h) = since_few_by p k e h (since_few p k h) (opens p e)

first_low : (p : Node) (h : List Act) (o : Option (List Act)) → attempt p h ≡ o → first_in_session p o ≤ sum p h
first_low p h None is = omega arith
first_low p h (Some part) is = go (is_four_way part)
  where
    few : (m : Message) → sent_count p m part ≤ sent_count p m h
    few m = subst (λ (x : List Act). sent_count p m x ≤ sent_count p m h) (since_part p h part is) (since_few p (kind.Key m) h)

    go : (b : Bool) → (if b then next_in_attempt p part else 1) ≤ suc (sent_count p M1 h + sent_count p M3 h + sent_count p G1 h)
    go true = omega (arith, few M1, few M3)
    go false = omega arith

-- a message that is sent is of one kind
one_more : (p : Node) (e : Act) (h : List Act) (renewing : Bool) → takes_counter p renewing e ≡ true → suc (sum p h) ≤ sum p (e ∷ h)
one_more p e h renewing is = go (sent p (kind.Key G1) e) (sent p (kind.Key M1) e) (sent p (kind.Key M3) e) is
  where
    go : (g m1 m3 : Option (List ℕ)) → cond (is_some g) true (cond (is_some m1) renewing (cond (is_some m3) renewing false)) ≡ true
        → suc (suc (sent_count p M1 h + sent_count p M3 h + sent_count p G1 h)) ≤ suc (length (listed m1 (all_sent p (kind.Key M1) h)) + length (listed m3 (all_sent p (kind.Key M3) h)) + length (listed g (all_sent p (kind.Key G1) h)))
    go (Some x) None None w = omega arith
    go (Some x) None (Some z) w = omega arith
    go (Some x) (Some y) None w = omega arith
    go (Some x) (Some y) (Some z) w = omega arith
    go None (Some y) None w = omega arith
    go None (Some y) (Some z) w = omega arith
    go None None (Some z) w = omega arith
    go None None None w = absurd (cc w)

no_less : (p : Node) (e : Act) (h : List Act) → sum p h ≤ sum p (e ∷ h)
no_less p e h = go (sent p (kind.Key G1) e) (sent p (kind.Key M1) e) (sent p (kind.Key M3) e)
  where
    longer : (o : Option (List ℕ)) (xs : List (List ℕ)) → length xs ≤ length (listed o xs)
    longer None xs = omega arith
    longer (Some x) xs = omega arith

    go : (g m1 m3 : Option (List ℕ)) → suc (sent_count p M1 h + sent_count p M3 h + sent_count p G1 h) ≤ suc (length (listed m1 (all_sent p (kind.Key M1) h)) + length (listed m3 (all_sent p (kind.Key M3) h)) + length (listed g (all_sent p (kind.Key G1) h)))
    go g m1 m3 = omega (arith, longer m1 (all_sent p (kind.Key M1) h), longer m3 (all_sent p (kind.Key M3) h), longer g (all_sent p (kind.Key G1) h))

next_by : (p : Node) (e : Act) (h : List Act) → next_in_session p h ≤ sum p h → (f r c : Bool) → takes_counter p (in_renewal (attempt p h)) e ≡ c
    → cond f (cond r (next_in_session p h) (first_in_session p (attempt p h))) (cond c (suc (next_in_session p h)) (next_in_session p h)) ≤ sum p (e ∷ h)
next_by p e h more true true c t = omega (arith, more, no_less p e h)
next_by p e h more true false c t = omega (arith, first_low p h (attempt p h) refl, no_less p e h)
next_by p e h more false r true t = omega (arith, more, one_more p e h (in_renewal (attempt p h)) t)
next_by p e h more false r false t = omega (arith, more, no_less p e h)

next_few : (p : Node) (h : List Act) → next_in_session p h ≤ sum p h
next_few p [] = omega arith
next_few p (e ∷ h) = next_by p e h (next_few p h) (finishes p e) (in_renewal (attempt p h)) (takes_counter p (in_renewal (attempt p h)) e) refl

-- the next replay counter of a session fits its field
pub next_fits : (d : Domain) (n p : Node) (h : List Act) → LegalHistory d n h → next_in_session p h < 2 ^ 64
next_fits d n p h legal =
    let low = low_in d n p h legal in
    omega (
      arith,
      next_few p h,
      in_all d n p M1 h (few_m1 d n p) legal,
      in_all d n p M3 h (few_m3 d n p) legal,
      few_sent d n p M1 h (few_m1 d n p) legal,
      few_sent d n p M3 h (few_m3 d n p) legal,
      low.few,
      low.all,
      over d n p h legal,
      opened_few p h,
      drawn_for d n h legal,
      few_draws d n h legal,
    )

-- ---- what was not sent

count_by : (p : Node) (k : Kind) (e : Act) (h : List Act) → (before_sent p k h ≡ None → all_sent p k (since p h) ≡ []) → (b : Bool) → opens p e ≡ b → (o : Option (List Act)) → before_sent p k h ≡ o → (q : Option (List ℕ)) → sent p k e ≡ q
    → cond b None (or_else o (cond (is_some q) (Some h) None)) ≡ None → all_sent p k (cond b (e ∷ []) (e ∷ since p h)) ≡ []
count_by p k e h more true is o was None s t = rw s refl
count_by p k e h more true is o was (Some x) s t = let w = opens-is p e is in let none : None ≡ Some x = subst (λ (y : Act). sent p k y ≡ Some x) w.1 s in absurd (cc none)
count_by p k e h more false is None was None s t = rw s (more was)
count_by p k e h more false is None was (Some x) s t = cc
count_by p k e h more false is (Some past) was q s t = cc

-- nothing of that kind, where none was sent first
pub none_sent : (p : Node) (k : Kind) (h : List Act) → before_sent p k h ≡ None → all_sent p k (since p h) ≡ []
none_sent p k [] s = refl
none_sent p k (e ∷ h) s = count_by p k e h (none_sent p k h) (opens p e) refl (before_sent p k h) refl (sent p k e) refl s

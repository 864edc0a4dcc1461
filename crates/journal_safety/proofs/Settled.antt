-- What holds of a history between events: in each attempt that goes on a nonce was drawn and no key installed, but for group keys beside
-- one that renews a key, an access point of the network has drawn a group key of each kind in use, of the group keys drawn all are
-- current, or all but the newest of each kind, and for each attempt a nonce was drawn. And what a group of acts has to show.
use Rattle.std.proofs.Common.{ℕ, suc, ◌≡◌, ◌+◌, ◌<◌, ◌≤◌, ◌⊎◌, inl, inr, Bool, true, false, cond, List, [], ◌∷◌, ◌++◌, length, Option, Some, None, refl, sym, ap, ◌∙◌, subst, arith}
use Rattle.std.specs.List.{AllByRecursion}
use Rattle.domain_base.specs.declared.names.Node.{Node}
use Rattle.domain_base.specs.declared.names.Node.TheVariants.{Ap, Sta}
use Rattle.domain_base.specs.declared.names.Peer.TheVariants.{One, All}
use Rattle.key_hierarchy.specs.declared.inputs.Inputs.{Inputs}
use Rattle.run_journal.specs.declared.domain.Domain.{Domain}
use Rattle.run_journal.specs.declared.acts.Start.{Start}
use Rattle.run_journal.specs.declared.acts.Drawn.TheVariants as draw
use Rattle.run_journal.specs.declared.acts.Drawn.TheVariants.{Nonce}
use Rattle.run_journal.specs.declared.acts.GroupKind.{GroupKind}
use Rattle.run_journal.specs.declared.acts.GroupKind.TheVariants as groups
use Rattle.domain_base.specs.declared.names.Mac.{Mac}
use Rattle.run_journal.specs.declared.acts.Key.TheVariants.{Group}
use Rattle.run_journal.specs.declared.acts.Act.{Act}
use Rattle.run_journal.specs.declared.acts.Act.TheVariants.{Opened, Drew, Installed, Finished}
use Rattle.run_journal.specs.Acts.{same, is_same_attempt, opens, ends, key_drawn, switched}
use Rattle.run_journal.specs.Questions.{attempt, own_nonce, listed, group_keys, switches, draws, is_draw, add}
use Rattle.domain_base.specs.declared.names.Akm.TheVariants.{FtPsk}
use Rattle.domain_rules.specs.Asking.{is_by_renewal}
use Rattle.domain_rules.specs.Network.{is_ap, IsNamed, draw_end}
use Rattle.run_journal.specs.Events.{IsListed, protects}
use Rattle.domain_rules.specs.InOctets.{InOctets}
use Rattle.domain_rules.proofs.Parts.{same-true, same-refl, Grows, Begins, Goes_on, grows, attempt_ends, own_nonce_more, add_append}
use Rattle.journal_safety.proofs.Legal.{gives, Uninstalled, HaveDrawn, IsUsed, for_used, is_opened, openings, ArePaid, LegalOpened, Legal, Chain}
use Rattle.journal_safety.proofs.Histories.{opens-is, has_drawn_more}
use Rattle.journal_safety.proofs.Sessions.{renewal_more}

abbrev pub Bare : List Act → Type 0
Bare h = (p : Node) (part : List Act) → attempt p h ≡ Some part → Uninstalled p (is_by_renewal part) part

abbrev pub Nonced : List Act → Type 0
Nonced h = (p : Node) (part : List Act) → attempt p h ≡ Some part → (v : List ℕ) × (own_nonce part ≡ Some v)

abbrev pub Started : Domain → Node → List Act → Type 0
Started d n h = is_ap n ≡ true → IsListed d n → HaveDrawn d h

-- all group keys drawn are current
abbrev pub AllCurrent : GroupKind → List Act → Type 0
AllCurrent which h = group_keys which h ≡ switches which h

-- all but the newest are
abbrev pub OneAhead : GroupKind → List Act → Type 0
OneAhead which h = (k : List ℕ) × (group_keys which h ≡ k ∷ switches which h)

-- one of both is so, of all kinds in use alike
abbrev pub Nearly : Domain → List Act → Type 0
Nearly d h = ((which : GroupKind) → IsUsed d which → AllCurrent which h) ⊎ ((which : GroupKind) → IsUsed d which → OneAhead which h)

-- what the network is: named, and with suite 4 of octets
pub record Ground (d : Domain) : Type 0 where
  pub names : IsNamed d
  pub octets : d.akm ≡ FtPsk → InOctets d

pub record Settled (d : Domain) (n : Node) (h : List Act) : Type 0 where
  pub ground : Ground d
  pub bare : Bare h
  pub nonced : Nonced h
  pub started : Started d n h
  pub nearly : Nearly d h
  pub paid : ArePaid h

-- acts that change neither list of group keys
none_listed : (xs : List (List ℕ)) (o : Option (List ℕ)) → o ≡ None → listed o xs ≡ xs
none_listed xs None is = refl
none_listed xs (Some x) is = absurd (cc is)

all_more : (which : GroupKind) (e : Act) (h : List Act) → key_drawn which e ≡ None → switched which e ≡ None → AllCurrent which h → AllCurrent which (e ∷ h)
all_more which e h s t w = none_listed (group_keys which h) (key_drawn which e) s ∙ w ∙ sym (none_listed (switches which h) (switched which e) t)

ahead_more : (which : GroupKind) (e : Act) (h : List Act) → key_drawn which e ≡ None → switched which e ≡ None → OneAhead which h → OneAhead which (e ∷ h)
ahead_more which e h s t w = (w.0, none_listed (group_keys which h) (key_drawn which e) s ∙ w.1 ∙ ap (λ (x : List (List ℕ)). w.0 ∷ x) (sym (none_listed (switches which h) (switched which e) t)))

nearly_more : (d : Domain) (e : Act) (h : List Act) → ((which : GroupKind) → (key_drawn which e ≡ None) × (switched which e ≡ None)) → Nearly d h → Nearly d (e ∷ h)
nearly_more d e h s (inl all) = inl (λ which used. all_more which e h (s which).0 (s which).1 (all which used))
nearly_more d e h s (inr ahead) = inr (λ which used. ahead_more which e h (s which).0 (s which).1 (ahead which used))

-- ---- one act more

unlike_none : (p : Node) (renewal : Bool) (e : Act) (part : List Act) → gives p renewal e ≡ false → Uninstalled p renewal part → Uninstalled p renewal (e ∷ part)
unlike_none p renewal e part no_gift s x (inl here) = subst (λ (y : Act). gives p renewal y ≡ false) (sym here) no_gift
unlike_none p renewal e part no_gift s x (inr later) = s x later

opened_gives : (p : Node) (renewal : Bool) (e : Act) → opens p e ≡ true → gives p renewal e ≡ false
opened_gives p renewal e o = let w = opens-is p e o in subst (λ (x : Act). gives p renewal x ≡ false) (sym w.1) refl

-- what installs no key at all
abbrev pub IsFree : Node → Act → Type 0
IsFree p e = (renewal : Bool) → gives p renewal e ≡ false

bare_goes : (p : Node) (e : Act) (h old : List Act) → attempt p h ≡ Some old → gives p (is_by_renewal old) e ≡ false → Uninstalled p (is_by_renewal old) old → Uninstalled p (is_by_renewal (e ∷ old)) (e ∷ old)
bare_goes p e h old a free s = subst (λ (b : Bool). Uninstalled p b (e ∷ old)) (sym (renewal_more p e h old a)) (unlike_none p (is_by_renewal old) e old free s)

bare_by : (e : Act) (h : List Act) (p : Node) (part : List Act) → IsFree p e → ((old : List Act) → attempt p h ≡ Some old → Uninstalled p (is_by_renewal old) old) → Grows p e h part → Uninstalled p (is_by_renewal part) part
bare_by e h p part free s (Begins o is) = subst (λ (x : List Act). Uninstalled p (is_by_renewal x) x) (sym is) (unlike_none p (is_by_renewal (e ∷ [])) e [] (opened_gives p (is_by_renewal (e ∷ [])) e o) (λ x none. absurd none))
bare_by e h p part free s (Goes_on old o goes a is) = subst (λ (x : List Act). Uninstalled p (is_by_renewal x) x) (sym is) (bare_goes p e h old a (free (is_by_renewal old)) (s old a))

nonced_by : (e : Act) (h : List Act) (p : Node) (part : List Act) → opens p e ≡ false → ((old : List Act) → attempt p h ≡ Some old → (v : List ℕ) × (own_nonce old ≡ Some v)) → Grows p e h part → (v : List ℕ) × (own_nonce part ≡ Some v)
nonced_by e h p part apart s (Begins o is) = cc
nonced_by e h p part apart s (Goes_on old o goes a is) = let w = s old a in (w.0, subst (λ (x : List Act). own_nonce x ≡ Some w.0) (sym is) (own_nonce_more e old w.0 w.1))

started_more : (d : Domain) (n : Node) (e : Act) (h : List Act) → Started d n h → Started d n (e ∷ h)
started_more d n e h s = λ role listed which used. has_drawn_more which e h (s role listed which used)

-- it neither opens an attempt nor installs a key, and draws no group key
abbrev pub is_quiet : Act → Bool
is_quiet (Opened p s) = false
is_quiet (Installed q key) = false
is_quiet (Drew (draw.Group which v)) = false
is_quiet _ = true

quiet-gives : (p : Node) (e : Act) → is_quiet e ≡ true → IsFree p e
quiet-gives p (Installed q key) is renewal = cc
quiet-gives p (Opened q s) is renewal = cc
quiet-gives p (Drew (draw.Group which v)) is renewal = cc
quiet-gives p _ is renewal = refl

-- it begins no attempt, and what was drawn is counted
quiet-opened : (e : Act) → is_quiet e ≡ true → is_opened e ≡ false
quiet-opened (Opened q s) is = cc
quiet-opened _ is = refl

paid_by : (e : Act) (h : List Act) → ArePaid h → is_opened e ≡ false → (o : Option (List ℕ)) → key_drawn groups.Gtk e ≡ o → o ≡ None → (b : Bool) → is_draw e ≡ b → cond (is_opened e) (suc (openings h)) (openings h) + length (listed o (group_keys groups.Gtk h)) ≤ cond b (suc (draws h)) (draws h)
paid_by e h paid opened None is none true d = rw opened (omega (arith, paid))
paid_by e h paid opened None is none false d = rw opened paid
paid_by e h paid opened (Some x) is none b d = cc

pub paid_more : (e : Act) (h : List Act) → is_opened e ≡ false → key_drawn groups.Gtk e ≡ None → ArePaid h → ArePaid (e ∷ h)
paid_more e h opened none paid = paid_by e h paid opened (key_drawn groups.Gtk e) refl none (is_draw e) refl

quiet-opens : (p : Node) (e : Act) → is_quiet e ≡ true → opens p e ≡ false
quiet-opens p (Opened q s) is = cc
quiet-opens p (Installed q key) is = cc
quiet-opens p (Drew (draw.Group which v)) is = cc
quiet-opens p _ is = refl

quiet-drawn : (which : GroupKind) (e : Act) → is_quiet e ≡ true → key_drawn which e ≡ None
quiet-drawn which (Drew (draw.Group other v)) is = cc
quiet-drawn which (Drew (Nonce v)) is = refl
quiet-drawn which _ is = refl

quiet-switched : (which : GroupKind) (e : Act) → is_quiet e ≡ true → switched which e ≡ None
quiet-switched which (Installed q key) is = cc
quiet-switched which _ is = refl

pub settled_quiet : (d : Domain) (n : Node) (e : Act) (h : List Act) → is_quiet e ≡ true → Settled d n h → Settled d n (e ∷ h)
settled_quiet d n e h is s = record {
  ground = s.ground;
  bare = λ p part a. bare_by e h p part (quiet-gives p e is) (s.bare p) (grows p e h part a);
  nonced = λ p part a. nonced_by e h p part (quiet-opens p e is) (s.nonced p) (grows p e h part a);
  started = started_more d n e h s.started;
  nearly = nearly_more d e h (λ which. (quiet-drawn which e is, quiet-switched which e is)) s.nearly;
  paid = paid_more e h (quiet-opened e is) (quiet-drawn groups.Gtk e is) s.paid;
}

abbrev pub Quiet : List Act → Type 0
Quiet g = AllByRecursion (λ e. is_quiet e ≡ true) g

pub settled_add : (d : Domain) (n : Node) (g h : List Act) → Quiet g → Settled d n h → Settled d n (add g h)
settled_add d n [] h q s = s
settled_add d n (e ∷ g) h q s = settled_add d n g (e ∷ h) q.1 (settled_quiet d n e h q.0 s)

-- ---- an attempt opens, and its nonce is drawn

opened_by : (v : List ℕ) (q : Node) (s : Start) (h : List Act) (p : Node) (old : List Act) → ((x : List Act) → attempt p h ≡ Some x → (w : List ℕ) × (own_nonce x ≡ Some w)) → Grows p (Opened q s) h old → (w : List ℕ) × (own_nonce (Drew (Nonce v) ∷ old) ≡ Some w)
opened_by v q s h p old more (Begins o is) = (v, subst (λ (x : List Act). own_nonce (Drew (Nonce v) ∷ x) ≡ Some v) (sym is) refl)
opened_by v q s h p old more (Goes_on x o goes a is) =
    let w = more x a in
    let first : own_nonce old ≡ Some w.0 = subst (λ (y : List Act). own_nonce y ≡ Some w.0) (sym is) (own_nonce_more (Opened q s) x w.0 w.1) in
    (w.0, own_nonce_more (Drew (Nonce v)) old w.0 first)

drew_by : (v : List ℕ) (q : Node) (s : Start) (h : List Act) (p : Node) (part : List Act) → ((x : List Act) → attempt p h ≡ Some x → (w : List ℕ) × (own_nonce x ≡ Some w)) → Grows p (Drew (Nonce v)) (Opened q s ∷ h) part → (w : List ℕ) × (own_nonce part ≡ Some w)
drew_by v q s h p part more (Begins o is) = cc
drew_by v q s h p part more (Goes_on old o goes a is) =
    let w = opened_by v q s h p old more (grows p (Opened q s) h old a) in
    (w.0, subst (λ (x : List Act). own_nonce x ≡ Some w.0) (sym is) w.1)

pub settled_opened : (d : Domain) (n q : Node) (s : Start) (v : List ℕ) (h : List Act) → Settled d n h → Settled d n (Drew (Nonce v) ∷ Opened q s ∷ h)
settled_opened d n q s v h w =
    let opened : Bare (Opened q s ∷ h) = λ p part a. bare_by (Opened q s) h p part (λ renewal. refl) (w.bare p) (grows p (Opened q s) h part a) in
    record {
      ground = w.ground;
      bare = λ p part a. bare_by (Drew (Nonce v)) (Opened q s ∷ h) p part (λ renewal. refl) (opened p) (grows p (Drew (Nonce v)) (Opened q s ∷ h) part a);
      nonced = λ p part a. drew_by v q s h p part (w.nonced p) (grows p (Drew (Nonce v)) (Opened q s ∷ h) part a);
      started = started_more d n (Drew (Nonce v)) (Opened q s ∷ h) (started_more d n (Opened q s) h w.started);
      nearly = w.nearly;
      paid = (let all = w.paid in omega (arith, all));
    }

-- ---- a pairwise key is installed, and the attempt is finished

-- settled but for the attempt with p
pub record SettledBut (d : Domain) (n p : Node) (h : List Act) : Type 0 where
  pub ground : Ground d
  pub but : (q : Node) (part : List Act) → same q p ≡ false → attempt q h ≡ Some part → Uninstalled q (is_by_renewal part) part
  pub nonced : Nonced h
  pub started : Started d n h
  pub nearly : Nearly d h
  pub paid : ArePaid h

pub but_of : (d : Domain) (n p : Node) (h : List Act) → Settled d n h → SettledBut d n p h
but_of d n p h s = record { ground = s.ground; but = λ q part apart a. s.bare q part a; nonced = s.nonced; started = s.started; nearly = s.nearly; paid = s.paid }

pub but_more : (d : Domain) (n p : Node) (e : Act) (h : List Act) → ((q : Node) → same q p ≡ false → IsFree q e) → ((q : Node) → opens q e ≡ false) → is_opened e ≡ false → ((which : GroupKind) → (key_drawn which e ≡ None) × (switched which e ≡ None)) → SettledBut d n p h → SettledBut d n p (e ∷ h)
but_more d n p e h free apart_all opened keys s = record {
  ground = s.ground;
  but = λ q part apart a. bare_by e h q part (free q apart) (λ old was. s.but q old apart was) (grows q e h part a);
  nonced = λ q part a. nonced_by e h q part (apart_all q) (s.nonced q) (grows q e h part a);
  started = started_more d n e h s.started;
  nearly = nearly_more d e h keys s.nearly;
  paid = paid_more e h opened (keys groups.Gtk).0 s.paid;
}

pub same_attempt : (p : Node) → is_same_attempt p p ≡ true
same_attempt (Ap k) = refl
same_attempt (Sta k) = same-refl (Sta k)

finished_by : (d : Domain) (n p q : Node) (i : Inputs) (h part : List Act) → SettledBut d n p h → (b : Bool) → same q p ≡ b → attempt q (Finished p i ∷ h) ≡ Some part → Uninstalled q (is_by_renewal part) part
finished_by d n p q i h part s true is a =
    let w : q ≡ p = same-true q p is in
    let over : ends q (Finished p i) ≡ true = subst (λ (x : Node). ends x (Finished p i) ≡ true) (sym w) (same_attempt p) in
    let none : attempt q (Finished p i ∷ h) ≡ None = attempt_ends q (Finished p i) h refl over in cc (none, a)
finished_by d n p q i h part s false is a = bare_by (Finished p i) h q part (λ renewal. refl) (λ old was. s.but q old is was) (grows q (Finished p i) h part a)

pub settled_finished : (d : Domain) (n p : Node) (i : Inputs) (h : List Act) → SettledBut d n p h → Settled d n (Finished p i ∷ h)
settled_finished d n p i h s = record {
  ground = s.ground;
  bare = λ q part a. finished_by d n p q i h part s (same q p) refl a;
  nonced = λ q part a. nonced_by (Finished p i) h q part refl (s.nonced q) (grows q (Finished p i) h part a);
  started = started_more d n (Finished p i) h s.started;
  nearly = s.nearly;
  paid = s.paid;
}

-- ---- group keys are drawn, and become current

-- settled but for group keys that are not current
pub record Steady (d : Domain) (n : Node) (h : List Act) : Type 0 where
  pub ground : Ground d
  pub bare : Bare h
  pub nonced : Nonced h
  pub started : Started d n h
  pub paid : ArePaid h

steady_of : (d : Domain) (n : Node) (h : List Act) → Settled d n h → Steady d n h
steady_of d n h s = record { ground = s.ground; bare = s.bare; nonced = s.nonced; started = s.started; paid = s.paid }

settled_of : (d : Domain) (n : Node) (h : List Act) → Steady d n h → Nearly d h → Settled d n h
settled_of d n h s nearly = record { ground = s.ground; bare = s.bare; nonced = s.nonced; started = s.started; nearly = nearly; paid = s.paid }

paid_drew : (which : GroupKind) (v : List ℕ) (h : List Act) → ArePaid h → ArePaid (Drew (draw.Group which v) ∷ h)
paid_drew groups.Gtk v h paid = omega (arith, paid)
paid_drew groups.Igtk v h paid = omega (arith, paid)

steady_drew : (d : Domain) (n : Node) (which : GroupKind) (v : List ℕ) (h : List Act) → Steady d n h → Steady d n (Drew (draw.Group which v) ∷ h)
steady_drew d n which v h s = record {
  ground = s.ground;
  bare = λ p part a. bare_by (Drew (draw.Group which v)) h p part (λ renewal. refl) (s.bare p) (grows p (Drew (draw.Group which v)) h part a);
  nonced = λ p part a. nonced_by (Drew (draw.Group which v)) h p part refl (s.nonced p) (grows p (Drew (draw.Group which v)) h part a);
  started = started_more d n (Drew (draw.Group which v)) h s.started;
  paid = paid_drew which v h s.paid;
}

steady_switched : (d : Domain) (n : Node) (which : GroupKind) (g : List ℕ) (id : ℕ) (b : Mac) (h : List Act) → Steady d n h → Steady d n (Installed All (Group which g id b) ∷ h)
steady_switched d n which g id b h s = record {
  ground = s.ground;
  bare = λ p part a. bare_by (Installed All (Group which g id b)) h p part (λ renewal. refl) (s.bare p) (grows p (Installed All (Group which g id b)) h part a);
  nonced = λ p part a. nonced_by (Installed All (Group which g id b)) h p part refl (s.nonced p) (grows p (Installed All (Group which g id b)) h part a);
  started = started_more d n (Installed All (Group which g id b)) h s.started;
  paid = s.paid;
}

-- a GTK is drawn where no IGTKs are in use, else a GTK and an IGTK
pub settled_drew : (d : Domain) (n : Node) (v : List ℕ) (h : List Act) → protects d ≡ false → ((which : GroupKind) → IsUsed d which → AllCurrent which h) → Settled d n h → Settled d n (Drew (draw.Group groups.Gtk v) ∷ h)
settled_drew d n v h off all s =
    settled_of d n (Drew (draw.Group groups.Gtk v) ∷ h) (steady_drew d n groups.Gtk v h (steady_of d n h s))
    (inr (for_used d (λ which. OneAhead which (Drew (draw.Group groups.Gtk v) ∷ h)) (v, ap (λ (x : List (List ℕ)). v ∷ x) (all groups.Gtk tt)) (λ on. absurd (cc (on, off)))))

pub settled_drew_both : (d : Domain) (n : Node) (v w : List ℕ) (h : List Act) → ((which : GroupKind) → IsUsed d which → AllCurrent which h) → Settled d n h → Settled d n (Drew (draw.Group groups.Igtk w) ∷ Drew (draw.Group groups.Gtk v) ∷ h)
settled_drew_both d n v w h all s =
    let gtk_ : Act = Drew (draw.Group groups.Gtk v) in
    let igtk_ : Act = Drew (draw.Group groups.Igtk w) in
    settled_of d n (igtk_ ∷ gtk_ ∷ h) (steady_drew d n groups.Igtk w (gtk_ ∷ h) (steady_drew d n groups.Gtk v h (steady_of d n h s)))
    (inr (for_used d (λ which. OneAhead which (igtk_ ∷ gtk_ ∷ h)) (v, ap (λ (x : List (List ℕ)). v ∷ x) (all groups.Gtk tt)) (λ on. (w, ap (λ (x : List (List ℕ)). w ∷ x) (all groups.Igtk on)))))

-- and so they become current
pub settled_switched : (d : Domain) (n : Node) (g : List ℕ) (id : ℕ) (b : Mac) (h : List Act) → protects d ≡ false → group_keys groups.Gtk h ≡ g ∷ switches groups.Gtk h → Settled d n h → Settled d n (Installed All (Group groups.Gtk g id b) ∷ h)
settled_switched d n g id b h off all s =
    settled_of d n (Installed All (Group groups.Gtk g id b) ∷ h) (steady_switched d n groups.Gtk g id b h (steady_of d n h s))
    (inl (for_used d (λ which. AllCurrent which (Installed All (Group groups.Gtk g id b) ∷ h)) all (λ on. absurd (cc (on, off)))))

pub settled_switched_both : (d : Domain) (n : Node) (g i : List ℕ) (id other : ℕ) (b c : Mac) (h : List Act) → group_keys groups.Gtk h ≡ g ∷ switches groups.Gtk h → group_keys groups.Igtk h ≡ i ∷ switches groups.Igtk h → Settled d n h
    → Settled d n (Installed All (Group groups.Igtk i other c) ∷ Installed All (Group groups.Gtk g id b) ∷ h)
settled_switched_both d n g i id other b c h all igtks s =
    let gtk_ : Act = Installed All (Group groups.Gtk g id b) in
    let igtk_ : Act = Installed All (Group groups.Igtk i other c) in
    settled_of d n (igtk_ ∷ gtk_ ∷ h) (steady_switched d n groups.Igtk i other c (gtk_ ∷ h) (steady_switched d n groups.Gtk g id b h (steady_of d n h s)))
    (inl (for_used d (λ which. AllCurrent which (igtk_ ∷ gtk_ ∷ h)) all (λ on. igtks)))

-- ---- a station is given a group key in a session, beside which it has no attempt with the same access point but one that renews its key

given_by : (which : GroupKind) (p q : Node) (g : List ℕ) (id : ℕ) (b : Mac) (h part : List Act) → ((old : List Act) → attempt p h ≡ Some old → is_by_renewal old ≡ true) → (c : Bool) → same q p ≡ c → ((old : List Act) → attempt q h ≡ Some old → Uninstalled q (is_by_renewal old) old) → Grows q (Installed (One p) (Group which g id b)) h part → Uninstalled q (is_by_renewal part) part
given_by which p q g id b h part beside true is s (Begins o are) = cc
given_by which p q g id b h part beside true is s (Goes_on old o goes a are) =
    let begun : is_by_renewal old ≡ true = beside old (subst (λ (x : Node). attempt x h ≡ Some old) (same-true q p is) a) in
    subst (λ (x : List Act). Uninstalled q (is_by_renewal x) x) (sym are) (bare_goes q (Installed (One p) (Group which g id b)) h old a (rw begun refl) (s old a))
given_by which p q g id b h part beside false is s grown = bare_by (Installed (One p) (Group which g id b)) h q part (λ renewal. given_free renewal (same q p) is) s grown
  where
    given_free : (renewal c : Bool) → c ≡ false → cond renewal false c ≡ false
    given_free true c none = refl
    given_free false c none = none

pub settled_given : (which : GroupKind) (d : Domain) (n p : Node) (g : List ℕ) (id : ℕ) (b : Mac) (h : List Act) → ((old : List Act) → attempt p h ≡ Some old → is_by_renewal old ≡ true) → Settled d n h → Settled d n (Installed (One p) (Group which g id b) ∷ h)
settled_given which d n p g id b h beside s = record {
  ground = s.ground;
  bare = λ q part a. given_by which p q g id b h part beside (same q p) refl (s.bare q) (grows q (Installed (One p) (Group which g id b)) h part a);
  nonced = λ q part a. nonced_by (Installed (One p) (Group which g id b)) h q part refl (s.nonced q) (grows q (Installed (One p) (Group which g id b)) h part a);
  started = started_more d n (Installed (One p) (Group which g id b)) h s.started;
  nearly = s.nearly;
  paid = s.paid;
}

-- ---- what each group of acts has to show

pub record Fine (d : Domain) (n : Node) (h g : List Act) : Type 0 where
  pub chain : Chain d n h g
  pub settled : Settled d n (add g h)

pub fine_none : (d : Domain) (n : Node) (h : List Act) → Settled d n h → Fine d n h []
fine_none d n h s = record { chain = tt; settled = s }

pub fine_cons : (d : Domain) (n : Node) (h : List Act) (e : Act) (g : List Act) → Legal d n h e → Fine d n (e ∷ h) g → Fine d n h (e ∷ g)
fine_cons d n h e g l w = record { chain = (l, w.chain); settled = w.settled }

-- one more quiet act
pub fine_quiet : (d : Domain) (n : Node) (h : List Act) (e : Act) (g : List Act) → Legal d n h e → is_quiet e ≡ true → Settled d n h → (Settled d n (e ∷ h) → Fine d n (e ∷ h) g) → Fine d n h (e ∷ g)
fine_quiet d n h e g l q s more = fine_cons d n h e g l (more (settled_quiet d n e h q s))

chain_append : (d : Domain) (n : Node) (h a b : List Act) → Chain d n h a → Chain d n (add a h) b → Chain d n h (a ++ b)
chain_append d n h [] b q r = r
chain_append d n h (e ∷ a) b q r = (q.0, chain_append d n (e ∷ h) a b q.1 r)

pub fine_append : (d : Domain) (n : Node) (h a b : List Act) → Fine d n h a → Fine d n (add a h) b → Fine d n h (a ++ b)
fine_append d n h a b v w = record {
  chain = chain_append d n h a b v.chain w.chain;
  settled = subst (λ (x : List Act). Settled d n x) (sym (add_append a b h)) w.settled;
}

pub fine_opened : (d : Domain) (n : Node) (h : List Act) (q : Node) (s : Start) (v : List ℕ) (g : List Act) → LegalOpened d n h q s → length v ≡ 32 → draws h < draw_end → Settled d n h → (Settled d n (Drew (Nonce v) ∷ Opened q s ∷ h) → Fine d n (Drew (Nonce v) ∷ Opened q s ∷ h) g)
    → Fine d n h (Opened q s ∷ Drew (Nonce v) ∷ g)
fine_opened d n h q s v g legal size few w more = fine_cons d n h (Opened q s) (Drew (Nonce v) ∷ g) legal (fine_cons d n (Opened q s ∷ h) (Drew (Nonce v)) g (record { size = size; few = few }) (more (settled_opened d n q s v h w)))

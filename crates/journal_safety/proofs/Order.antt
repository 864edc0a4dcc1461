-- The group keys that a station takes from one access point go on in the order of drawing.
use Rattle.std.proofs.Common.{ℕ, ◌≡◌, ◌⊎◌, ⊎_elim, inl, inr, Bool, true, false, cond, List, [], ◌∷◌, ◌++◌, Some, None, refl, sym, ap, ◌∙◌, subst}
use Rattle.domain_base.specs.declared.names.Akm.TheVariants.{FtPsk}
use Rattle.std.specs.Prelude.{option_map, bytes_eq}
use Rattle.std.proofs.lemmas.Bool.{cases_Bool}
use Rattle.std.proofs.lemmas.Slice.Eq.{bytes_eq-Decides}
use Rattle.domain_base.specs.declared.names.Mac.{Mac}
use Rattle.domain_base.specs.declared.names.Node.{Node}
use Rattle.domain_base.specs.declared.names.Peer.TheVariants.{One}
use Rattle.run_journal.specs.declared.acts.GroupKind.{GroupKind}
use Rattle.run_journal.specs.declared.acts.GroupKind.TheVariants as groups
use Rattle.run_journal.specs.declared.domain.Domain.{Domain}
use Rattle.run_journal.specs.declared.domain.Event.{Event}
use Rattle.run_journal.specs.declared.acts.Key.TheVariants.{Group}
use Rattle.run_journal.specs.declared.acts.Act.{Act}
use Rattle.run_journal.specs.declared.acts.Act.TheVariants.{Installed, Resumed}
use Rattle.run_journal.specs.declared.acts.Entry.{Entry}
use Rattle.run_journal.specs.Acts.{same, GroupKey}
use Rattle.run_journal.specs.Questions.{history, group_keys}
use Rattle.run_journal.specs.Premises.{In, Fresh, NoCollision, Unforged}
use Rattle.domain_rules.specs.Network.{IsNamed}
use Rattle.domain_rules.specs.Explained.{Explained}
use Rattle.domain_rules.specs.HeldRight.{HeldRight}
use Rattle.domain_rules.specs.InOctets.{InOctets}
use Rattle.journal_safety.specs.NeverBack.{DrawnBefore, key_from, GoesOn, GoesOnAt, NeverBack}
use Rattle.journal_safety.proofs.Ends.{Tail, front_of, tail_refl, tail_in, history_tail}
use Rattle.journal_safety.proofs.Legal.{LegalGroup, LegalNew, Legal, LegalHistory}
use Rattle.journal_safety.proofs.Places.{Good, good_tail, in_history}
use Rattle.domain_rules.proofs.Parts.{same-true}
use Rattle.journal_safety.proofs.Runs.{legal_history}
use Rattle.journal_safety.proofs.Given.{given_in}
use Rattle.journal_safety.proofs.GroupOrder.{Later, never_back}
use Rattle.journal_safety.proofs.GroupKeys.{group_once, keys_tail}
use Rattle.journal_safety.proofs.AllParts.{good_run}

drawn_before : (which : GroupKind) (n : Node) (g1 g2 : List ℕ) (past : List Entry) → Later which n g1 g2 past → (g1 ≡ g2 → ⊥) → DrawnBefore which g1 g2 (history n past)
drawn_before which n g1 g2 past w differ = (front.0, (w.second.0, (front.1, before nested)))
  where
    inside : Tail (g2 ∷ w.second.0) (group_keys which (history n past))
    inside = subst (λ (x : List (List ℕ)). Tail x (group_keys which (history n past))) w.second.1 (keys_tail which (history n w.two) (history n past) (history_tail n w.two past w.inside))

    front : (later : List (List ℕ)) × (group_keys which (history n past) ≡ later ++ (g2 ∷ w.second.0))
    front = front_of (g2 ∷ w.second.0) (group_keys which (history n past)) inside

    nested : Tail (g1 ∷ w.first.0) (g2 ∷ w.second.0)
    nested = subst (λ (x : List (List ℕ)). Tail (g1 ∷ w.first.0) x) w.second.1 (subst (λ (x : List (List ℕ)). Tail x (group_keys which (history n w.two))) w.first.1 (keys_tail which (history n w.one) (history n w.two) (history_tail n w.one w.two w.order)))

    before : Tail (g1 ∷ w.first.0) (g2 ∷ w.second.0) → In g1 w.second.0
    before (inl is) = absurd (differ (cc is))
    before (inr t) = tail_in (g1 ∷ w.first.0) w.second.0 g1 t (inl refl)

-- the act takes that key
data Takes (which : GroupKind) (p : Node) (e : Act) (key : List ℕ) : Type 0 where
  Installs : (id : ℕ) (b : Mac) → e ≡ Installed (One p) (Group which key id b) → Takes which p e key
  Resumes : (id : ℕ) (b : Mac) → e ≡ Resumed p (Group which key id b) → Takes which p e key

installs_by : (which : GroupKind) (p q : Node) (g key : List ℕ) (id : ℕ) (b : Mac) (c : Bool) → same p q ≡ c → option_map (λ (x : GroupKey). x.key) (cond c (Some (record { key = g; id = id })) None) ≡ Some key → Takes which p (Installed (One q) (Group which g id b)) key
installs_by which p q g key id b true is s =
    let one : g ≡ key = cc s in
    Installs id b (ap (λ (n : Node). Installed (One n) (Group which g id b)) (sym (same-true p q is)) ∙ ap (λ (k : List ℕ). Installed (One p) (Group which k id b)) one)
installs_by which p q g key id b false is s = absurd (cc s)

resumes_by : (which : GroupKind) (p q : Node) (g key : List ℕ) (id : ℕ) (b : Mac) (c : Bool) → same p q ≡ c → option_map (λ (x : GroupKey). x.key) (cond c (Some (record { key = g; id = id })) None) ≡ Some key → Takes which p (Resumed q (Group which g id b)) key
resumes_by which p q g key id b true is s =
    let one : g ≡ key = cc s in
    Resumes id b (ap (λ (n : Node). Resumed n (Group which g id b)) (sym (same-true p q is)) ∙ ap (λ (k : List ℕ). Resumed p (Group which k id b)) one)
resumes_by which p q g key id b false is s = absurd (cc s)

takes : (which : GroupKind) (p : Node) (e : Act) (key : List ℕ) → key_from which p e ≡ Some key → Takes which p e key
takes groups.Gtk p (Installed (One q) (Group groups.Gtk g id b)) key s = installs_by groups.Gtk p q g key id b (same p q) refl s
takes groups.Gtk p (Resumed q (Group groups.Gtk g id b)) key s = resumes_by groups.Gtk p q g key id b (same p q) refl s
takes groups.Igtk p (Installed (One q) (Group groups.Igtk g id b)) key s = installs_by groups.Igtk p q g key id b (same p q) refl s
takes groups.Igtk p (Resumed q (Group groups.Igtk g id b)) key s = resumes_by groups.Igtk p q g key id b (same p q) refl s
takes which p _ key s = absurd (cc s)

-- what was resumed was installed before
resumed_had : (which : GroupKind) (d : Domain) (s p : Node) (g : List ℕ) (id : ℕ) (b : Mac) (h : List Act) → Legal d s h (Resumed p (Group which g id b)) → (m : Mac) × In (Installed (One p) (Group which g id m)) h
resumed_had which d s p g id b h legal = given_in which p (record { key = g; id = id }) h legal.had

resumed_group : (which : GroupKind) (d : Domain) (s p : Node) (g : List ℕ) (id : ℕ) (b : Mac) (h : List Act) → Legal d s h (Resumed p (Group which g id b)) → LegalGroup d which s h p g
resumed_group which d s p g id b h legal = legal.group

-- a key that was taken from p, by its installation
record WasInstalled (which : GroupKind) (p : Node) (h : List Act) (key : List ℕ) : Type 0 where
  id : ℕ
  b : Mac
  there : In (Installed (One p) (Group which key id b)) h

once_resumed : (which : GroupKind) (d : Domain) (s p : Node) (g : List ℕ) (id : ℕ) (b : Mac) (h : List Act) → LegalHistory d s h → In (Resumed p (Group which g id b)) h → WasInstalled which p h g
once_resumed which d s p g id b [] legal there = absurd there
once_resumed which d s p g id b (e ∷ h) legal (inl here) =
    let w = resumed_had which d s p g id b h (subst (λ (y : Act). Legal d s h y) (sym here) legal.0) in
    record { id = id; b = w.0; there = inr w.1 }
once_resumed which d s p g id b (e ∷ h) legal (inr later) =
    let w = once_resumed which d s p g id b h legal.1 later in
    record { id = w.id; b = w.b; there = inr w.there }

was_installed : (which : GroupKind) (d : Domain) (s p : Node) (e : Act) (key : List ℕ) (h : List Act) → LegalHistory d s h → In e h → Takes which p e key → WasInstalled which p h key
was_installed which d s p e key h legal there (Installs id b is) = record { id = id; b = b; there = subst (λ (y : Act). In y h) is there }
was_installed which d s p e key h legal there (Resumes id b is) = once_resumed which d s p key id b h legal (subst (λ (y : Act). In y h) is there)

either_key : (old new : List ℕ) → (old ≡ new) ⊎ (old ≡ new → ⊥)
either_key old new = elim (cases_Bool (bytes_eq old new)) [
  | inl is ↦ inl ((bytes_eq-Decides old new).0 is)
  | inr other ↦ inr (λ e. let is = (bytes_eq-Decides old new).1 e in cc (is, other))
]

never_by : (which : GroupKind) (d : Domain) (s p : Node) (e : Act) (new old : List ℕ) (past : List Entry) → Good d past → Legal d s (history s past) e → WasInstalled which p (history s past) old → Takes which p e new → GoesOn which e old new (history p past)
never_by which d s p e new old past good legal was (Installs id b is) =
    let legal_new : LegalNew d which s (history s past) p new = subst (λ (y : Act). Legal d s (history s past) y) is legal in
    subst (λ (y : Act). GoesOn which y old new (history p past)) (sym is)
    (drawn_before which p old new past (never_back which d p s old new was.id was.b past good legal_new.group was.there)
    (λ same_key. group_once which d s p p new was.id was.b past good legal_new (subst (λ (k : List ℕ). In (Installed (One p) (Group which k was.id was.b)) (history s past)) same_key was.there)))
never_by which d s p e new old past good legal was (Resumes id b is) =
    let group = resumed_group which d s p new id b (history s past) (subst (λ (y : Act). Legal d s (history s past) y) is legal) in
    subst (λ (y : Act). GoesOn which y old new (history p past)) (sym is)
    (⊎_elim
    (λ alike. inl alike)
    (λ differ. inr (drawn_before which p old new past (never_back which d p s old new was.id was.b past good group was.there) differ))
    (either_key old new))

never_now : (d : Domain) (l : Entry) (past : List Entry) → Good d (l ∷ past) → GoesOnAt l past
never_now d l past g which p m new old there at is was =
    let good = good_tail d past (l ∷ past) (inr (tail_refl past)) g in
    let here : In m.act (history l.node past) = subst (λ (x : Node). In m.act (history x past)) at (in_history m past there) in
    never_by which d l.node p l.act new old past good g.legal.0
    (was_installed which d l.node p m.act old (history l.node past) (legal_history d l.node past good.legal) here (takes which p m.act old was)) (takes which p l.act new is)

never : (d : Domain) (past : List Entry) → Good d past → NeverBack past
never d [] g = tt
never d (l ∷ past) g = (never_now d l past g, never d past (good_tail d past (l ∷ past) (inr (tail_refl past)) g))

pub never_back_run : (d : Domain) (rounds : List (List Event)) (j : List Entry) → (d.akm ≡ FtPsk → InOctets d) → (d.akm ≡ FtPsk → HeldRight d j) → IsNamed d → Explained d rounds j → Fresh j → NoCollision j → Unforged j → NeverBack j
never_back_run d rounds j octets held names run fresh apart unforged = never d j (good_run d rounds j octets held names run fresh apart unforged)

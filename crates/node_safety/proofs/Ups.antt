-- One node hands up no payload twice between two installations of its key, whatever its peers are.
use Rattle.std.proofs.Common.{⊎_elim, ℕ, ◌≡◌, ◌≤◌, ◌<◌, ◌⊎◌, inl, inr, Bool, true, false, cond, List, [], ◌∷◌, ◌++◌, Some, None, refl, sym, ap, ◌∙◌, subst, arith}
use Rattle.std.specs.Prelude.{◌==◌, ◌&&◌, max, bytes_eq}
use Rattle.std.proofs.lemmas.Bool.{and_parts, eqb-true, eq-eqb}
use Rattle.std.proofs.lemmas.Slice.Eq.{bytes_eq-Decides}
use Rattle.domain_base.specs.declared.names.Mac.{Mac}
use Rattle.domain_base.specs.declared.names.Node.{Node}
use Rattle.domain_base.specs.declared.names.Peer.TheVariants.{One}
use Rattle.key_hierarchy.specs.declared.inputs.Inputs.{Inputs}
use Rattle.run_journal.specs.declared.domain.Domain.{Domain}
use Rattle.run_journal.specs.declared.acts.Key.TheVariants.{Pairwise, Group}
use Rattle.run_journal.specs.declared.acts.Act.{Act}
use Rattle.run_journal.specs.declared.acts.Act.TheVariants.{Installed, Resumed, HandedUp}
use Rattle.run_journal.specs.GroupKinds.{same_group_kind}
use Rattle.run_journal.specs.Acts.{same}
use Rattle.run_journal.specs.declared.acts.GroupKind.{GroupKind}
use Rattle.run_journal.specs.declared.acts.GroupKind.TheVariants as groups
use Rattle.run_journal.specs.Premises.{In}
use Rattle.run_journal.specs.Safe.{up_of}
use Rattle.domain_rules.specs.GroupKeys.{is_key, told, got_by, got}
use Rattle.domain_rules.specs.IntegrityKeys.{IsGot}
use Rattle.domain_rules.specs.PacketNumbers.{pairwise_got_by, pairwise_got}
use Rattle.domain_rules.proofs.Parts.{same-true, same-refl}
use Rattle.journal_safety.proofs.Legal.{OpensUnder, With_session, With_group, IsAbove, LegalUp, Legal, LegalHistory}
use Rattle.node_safety.specs.Alone.{IsInstalled, UpNew, UpOnce}

-- ---- pairwise keys

abbrev WithPeer : Node → List ℕ → Act → Type 0
WithPeer p key e = (i : Inputs) × (Installed (One p) (Pairwise key i) ≡ e)

-- an act that does not install the key leaves its counter no lower
pairwise_step : (p : Node) (key : List ℕ) (tid : ℕ) (e : Act) (before : ℕ) → WithPeer p key e ⊎ (before ≤ pairwise_got_by p key tid e before)
pairwise_step p key tid (Installed (One q) (Pairwise k i)) before = go (same p q && bytes_eq key k) refl
  where
    go : (b : Bool) → (same p q && bytes_eq key k) ≡ b → WithPeer p key (Installed (One q) (Pairwise k i)) ⊎ (before ≤ cond b 0 before)
    go false is = inr (omega arith)
    go true is =
        let w = and_parts (same p q) (bytes_eq key k) is in
        let one : key ≡ k = (bytes_eq-Decides key k).0 w.1 in
        inl (i, ap (λ (x : Node). Installed (One x) (Pairwise key i)) (same-true p q w.0) ∙ ap (λ (x : List ℕ). Installed (One q) (Pairwise x i)) one)
pairwise_step p key tid (HandedUp q k i t number plain) before = inr (go (is_key p key 0 q k i && (tid == t)))
  where
    go : (b : Bool) → before ≤ cond b (max number before) before
    go true = omega arith
    go false = omega arith
pairwise_step p key tid _ before = inr (omega arith)

pairwise_own : (p : Node) (key : List ℕ) (tid number : ℕ) (plain : List ℕ) (before : ℕ) → number ≤ pairwise_got_by p key tid (HandedUp p key 0 tid number plain) before
pairwise_own p key tid number plain before = rw (same-refl p, (bytes_eq-Decides key key).1 refl, eq-eqb tid tid refl) (omega arith)

-- since it was handed up the key was installed again, or the counter is no lower
pairwise_since : (p : Node) (key : List ℕ) (tid number : ℕ) (plain : List ℕ) (later earlier : List Act)
    → ((i : Inputs) × In (Installed (One p) (Pairwise key i)) later) ⊎ (number ≤ pairwise_got p key tid (later ++ HandedUp p key 0 tid number plain ∷ earlier))
pairwise_since p key tid number plain [] earlier = inr (pairwise_own p key tid number plain (pairwise_got p key tid earlier))
pairwise_since p key tid number plain (e ∷ later) earlier =
    ⊎_elim
    (λ (again : WithPeer p key e). inl (again.0, inl again.1))
    (λ (keeps : pairwise_got p key tid (later ++ HandedUp p key 0 tid number plain ∷ earlier) ≤ pairwise_got p key tid (e ∷ later ++ HandedUp p key 0 tid number plain ∷ earlier)).
    ⊎_elim
    (λ (had : (i : Inputs) × In (Installed (One p) (Pairwise key i)) later). inl (had.0, inr had.1))
    (λ (low : number ≤ pairwise_got p key tid (later ++ HandedUp p key 0 tid number plain ∷ earlier)). inr (omega (arith, keeps, low)))
    (pairwise_since p key tid number plain later earlier))
    (pairwise_step p key tid e (pairwise_got p key tid (later ++ HandedUp p key 0 tid number plain ∷ earlier)))

-- ---- group keys

abbrev FromPeer : Node → List ℕ → ℕ → Act → Type 0
FromPeer p key id e = (kind : GroupKind) × ((b : Mac) × (Installed (One p) (Group kind key id b) ≡ e))

group_step : (which : GroupKind) (p : Node) (key : List ℕ) (id : ℕ) (e : Act) → FromPeer p key id e ⊎ ((heard before : ℕ) → before ≤ got_by which p key id e heard before)
group_step which p key id (Installed (One q) (Group other k i b)) = go (same_group_kind which other) (is_key p key id q k i) refl
  where
    go : (t c : Bool) → is_key p key id q k i ≡ c → FromPeer p key id (Installed (One q) (Group other k i b)) ⊎ ((heard before : ℕ) → before ≤ cond t (cond c heard before) before)
    go false c is = inr (λ heard before. omega arith)
    go true false is = inr (λ heard before. omega arith)
    go true true is =
        let w = and_parts (same p q && bytes_eq key k) (id == i) is in
        let v = and_parts (same p q) (bytes_eq key k) w.0 in
        let one : key ≡ k = (bytes_eq-Decides key k).0 v.1 in
        inl (
          other,
          (
            b,
            ap (λ (x : Node). Installed (One x) (Group other key id b)) (same-true p q v.0) ∙ ap (λ (x : List ℕ). Installed (One q) (Group other x id b)) one
                ∙ ap (λ (x : ℕ). Installed (One q) (Group other k x b)) (eqb-true id i w.1),
          ),
        )
group_step which p key id (Resumed q (Group other k i b)) = inr (λ heard before. go (same_group_kind which other) (is_key p key id q k i) heard before)
  where
    go : (t c : Bool) (heard before : ℕ) → before ≤ cond t (cond c (max heard before) before) before
    go false c heard before = omega arith
    go true true heard before = omega arith
    go true false heard before = omega arith
group_step which p key id (HandedUp q k i tid number plain) = inr (λ heard before. go (is_key p key id q k i) before)
  where
    go : (c : Bool) (before : ℕ) → before ≤ cond c (max number before) before
    go true before = omega arith
    go false before = omega arith
group_step which p key id _ = inr (λ heard before. omega arith)

group_own : (which : GroupKind) (p : Node) (key : List ℕ) (id tid number : ℕ) (plain : List ℕ) (heard before : ℕ) → number ≤ got_by which p key id (HandedUp p key id tid number plain) heard before
group_own which p key id tid number plain heard before = rw (same-refl p, (bytes_eq-Decides key key).1 refl, eq-eqb id id refl) (omega arith)

-- a kept number, by the last act and by the number before it
got_before : (which : GroupKind) (p : Node) (key : List ℕ) (id : ℕ) (e : Act) (h : List Act) (kept : ℕ) → IsGot which p key id (e ∷ h) kept → (heard : ℕ) × ((before : ℕ) × (IsGot which p key id h before × (kept ≡ got_by which p key id e heard before)))
got_before groups.Gtk p key id e h kept is = (told p h, (got p key id h, (refl, is)))
got_before groups.Igtk p key id e h kept is = (is.0, (is.1.1.0, (is.1.1.1.0, is.1.1.1.1)))

-- no number that is kept is below this
abbrev KeepsAll : GroupKind → Node → List ℕ → ℕ → ℕ → List Act → Type 0
KeepsAll which p key id number h = (kept : ℕ) → IsGot which p key id h kept → number ≤ kept

-- a group key with that key id was installed from p
abbrev WasGiven : Node → List ℕ → ℕ → List Act → Type 0
WasGiven p key id h = (kind : GroupKind) × ((b : Mac) × In (Installed (One p) (Group kind key id b)) h)

group_since : (which : GroupKind) (p : Node) (key : List ℕ) (id tid number : ℕ) (plain : List ℕ) (later earlier : List Act) → WasGiven p key id later ⊎ KeepsAll which p key id number (later ++ HandedUp p key id tid number plain ∷ earlier)
group_since which p key id tid number plain [] earlier = inr (λ kept is.
    (let w = got_before which p key id (HandedUp p key id tid number plain) earlier kept is in
    let own : number ≤ got_by which p key id (HandedUp p key id tid number plain) w.0 w.1.0 = group_own which p key id tid number plain w.0 w.1.0 in
    omega (arith, own, w.1.1.1)))
group_since which p key id tid number plain (e ∷ later) earlier =
    ⊎_elim
    (λ (again : FromPeer p key id e). inl (again.0, (again.1.0, inl again.1.1)))
    (λ (keeps : (heard before : ℕ) → before ≤ got_by which p key id e heard before).
    ⊎_elim
    (λ (had : WasGiven p key id later). inl (had.0, (had.1.0, inr had.1.1)))
    (λ (low : KeepsAll which p key id number (later ++ HandedUp p key id tid number plain ∷ earlier)). inr (λ kept is.
    (let w = got_before which p key id e (later ++ HandedUp p key id tid number plain ∷ earlier) kept is in
    let more : w.1.0 ≤ got_by which p key id e w.0 w.1.0 = keeps w.0 w.1.0 in
    let least : number ≤ w.1.0 = low w.1.0 w.1.1.0 in
    omega (arith, more, least, w.1.1.1))))
    (group_since which p key id tid number plain later earlier))
    (group_step which p key id e)

-- a number above the one that was kept before an act by which nothing was handed up
given_since : (which : GroupKind) (p : Node) (key : List ℕ) (id tid number : ℕ) (plain : List ℕ) (later earlier h : List Act) → h ≡ later ++ HandedUp p key id tid number plain ∷ earlier → IsAbove which p key id number h → WasGiven p key id later
given_since which p key id tid number plain [] earlier h is a =
    let both : a.act ∷ a.before ≡ HandedUp p key id tid number plain ∷ earlier = sym a.is ∙ is in
    let head : a.act ≡ HandedUp p key id tid number plain = cc both in
    let w : None ≡ Some (record { key = key; number = number; octets = plain }) = sym a.no_up ∙ ap up_of head in
    absurd (cc w)
given_since which p key id tid number plain (e ∷ later) earlier h is a =
    let both : a.act ∷ a.before ≡ e ∷ (later ++ HandedUp p key id tid number plain ∷ earlier) = sym a.is ∙ is in
    let rest : a.before ≡ later ++ HandedUp p key id tid number plain ∷ earlier = cc both in
    ⊎_elim
    (λ (had : WasGiven p key id later). (had.0, (had.1.0, inr had.1.1)))
    (λ (low : KeepsAll which p key id number (later ++ HandedUp p key id tid number plain ∷ earlier)).
    (let least : number ≤ a.kept = low a.kept (subst (λ (l : List Act). IsGot which p key id l a.kept) rest a.got) in
    let above : a.kept < number = a.above in
    absurd (omega (arith, least, above))))
    (group_since which p key id tid number plain later earlier)

-- ---- what is handed up

up_by : (d : Domain) (n p : Node) (key : List ℕ) (id tid number : ℕ) (other covered : List ℕ) (h later earlier : List Act) → h ≡ later ++ HandedUp p key id tid number other ∷ earlier
    → OpensUnder d n h p key id tid number covered → IsInstalled p key id later
up_by d n p key id tid number other covered h later earlier is (With_session i s key_is none tid_is own above) =
    let was : h ≡ later ++ HandedUp p key 0 tid number other ∷ earlier = is ∙ ap (λ (x : ℕ). later ++ HandedUp p key x tid number other ∷ earlier) none in
    let high : pairwise_got p key tid (later ++ HandedUp p key 0 tid number other ∷ earlier) < number = subst (λ (x : List Act). pairwise_got p key tid x < number) was above in
    ⊎_elim
    (λ (again : (m : Inputs) × In (Installed (One p) (Pairwise key m)) later). inl again)
    (λ (low : number ≤ pairwise_got p key tid (later ++ HandedUp p key 0 tid number other ∷ earlier)). absurd (omega (arith, high, low)))
    (pairwise_since p key tid number other later earlier)
up_by d n p key id tid number other covered h later earlier is (With_group role which b there tid_is above) = inr (given_since which p key id tid number other later earlier h is above)

up_new : (d : Domain) (n : Node) (e : Act) (h : List Act) → Legal d n h e → UpNew e h
up_new d n e h legal p key id tid number plain other later earlier is was =
    let l : LegalUp d n h p key id tid number plain = subst (λ (x : Act). Legal d n h x) is legal in
    up_by d n p key id tid number other l.covered h later earlier was l.under

pub up_once : (d : Domain) (n : Node) (h : List Act) → LegalHistory d n h → UpOnce h
up_once d n [] legal = tt
up_once d n (e ∷ h) legal = (up_new d n e h legal.0, up_once d n h legal.1)

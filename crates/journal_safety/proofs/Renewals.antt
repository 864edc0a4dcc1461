-- A new group key, what is dropped, and the switch: each event adds a chain of legal acts.
use Rattle.std.proofs.Common.{ℕ, zero, suc, ◌≡◌, ◌+◌, ◌<◌, ◌≤◌, inl, inr, Bool, true, false, not, cond, List, [], ◌∷◌, ◌++◌, length, Option, Some, None, refl, sym, ap, ◌∙◌, subst, arith}
use Rattle.std.specs.Prelude.{◌==◌, ◌||◌, if◌then◌else◌}
use Rattle.std.proofs.lemmas.Bool.{eqb-true, eq-eqb}
use Rattle.domain_base.specs.declared.names.Akm.{Akm}
use Rattle.domain_base.specs.declared.names.Akm.TheVariants.{Psk, PskSha256, FtPsk}
use Rattle.domain_base.specs.declared.names.Node.{Node}
use Rattle.domain_base.specs.declared.names.Node.TheVariants.{Ap, Sta}
use Rattle.eapol_key.specs.declared.messages.Message.TheVariants.{G1}
use Rattle.key_hierarchy.proofs.Lengths.{length-kdf}
use Rattle.run_journal.specs.declared.acts.GroupKind.{GroupKind}
use Rattle.run_journal.specs.declared.acts.GroupKind.TheVariants as groups
use Rattle.run_journal.specs.Events.{protects}
use Rattle.run_journal.specs.declared.domain.Domain.{Domain}
use Rattle.run_journal.specs.declared.acts.Part.TheVariants.{Session}
use Rattle.run_journal.specs.declared.acts.Drawn.TheVariants as draw
use Rattle.run_journal.specs.declared.acts.Why.TheVariants as why
use Rattle.run_journal.specs.declared.acts.Act.{Act}
use Rattle.run_journal.specs.declared.acts.Act.TheVariants.{Closed, Drew, Idle}
use Rattle.run_journal.specs.declared.acts.Act.TheVariants as act
use Rattle.run_journal.specs.Acts.{Derivation}
use Rattle.run_journal.specs.Questions.{attempt, session, associated, pending, group_keys, switches, handshake, draws, add}
use Rattle.domain_rules.specs.Network.{mac, gtk, is_ap, draw_end}
use Rattle.domain_rules.specs.Counters.{sent_count, next_in_session}
use Rattle.domain_rules.specs.GroupKeys.{newest_of, newest, is_current}
use Rattle.domain_rules.specs.Owing.{any_owes, current_act, current_igtk, current_acts, switch_acts, and_switch}
use Rattle.domain_rules.specs.Closing.{close_attempt, close_session, close_pending, close_associated, or_nothing, next_nonce}
use Rattle.domain_rules.specs.StationRows.{leave_acts}
use Rattle.domain_rules.specs.AccessPointRows.{g1_to, to_session, to_sessions, draw_igtk, draw_acts, RekeyRow, Pending, Spent, Renews, expire_acts}
use Rattle.domain_rules.specs.PairwiseRenewal.{RenewRow, NoSession, Nothing, Spent as NoDraw, Begins}
use Rattle.domain_rules.specs.Rows.{NodeEvent, Take, Begin, Retry, Rekey, Send, Expire, Leave, Roam, Revoke, Secret, Renew, Announce, RowOf, Adds}
use Rattle.domain_rules.specs.KeyHolders.{revoke_acts_by}
use Rattle.domain_rules.specs.ChangedKeys.{old_row_by, secret_of, secret_of_each, secret_acts}
use Rattle.domain_rules.specs.Here.{here}
use Rattle.domain_rules.proofs.Parts.{add_append}
use Rattle.domain_rules.proofs.KeyOctets.{octets-kdf}
use Rattle.journal_safety.proofs.Legal.{IsUsed, LegalGroupKey, LegalHistory}
use Rattle.journal_safety.proofs.Settled.{AllCurrent, Nearly, Settled, settled_drew, settled_drew_both, settled_switched, settled_switched_both, Fine, fine_none, fine_cons, fine_quiet, fine_append}
use Rattle.journal_safety.proofs.Sessions.{session_role}
use Rattle.journal_safety.proofs.Rows.{connect_fine, fine_attempt, fine_pending, fine_associated, left_pending, fine_dropped, not_station, size_nonce, renew_fine, RightActs, right_front}
use Rattle.journal_safety.proofs.RowsKeys.{legal_add, g1_legal}
use Rattle.journal_safety.proofs.RowsTransition.{roam_fine, take_fine}
use Rattle.journal_safety.proofs.Retries.{retry_fine}
use Rattle.journal_safety.proofs.RowsData.{send_fine, announce_fine}

-- ---- a new group key

legal_key : (which : GroupKind) (d : Domain) (number : ℕ) (n : Node) (h : List Act) → is_ap n ≡ true → draws h < draw_end → LegalGroupKey which n h (gtk d n number)
unfolding gtk
legal_key which d number n h role few = record { ap = role; octets = octets-kdf _ _ _ 16; size = length-kdf _ _ _ 16; few = few }

-- no G1 was sent to the stations from the k-th on for the newest group key
abbrev Silent : ℕ → List Act → Type 0
Silent k h = (j : ℕ) → k ≤ j → sent_count (Sta j) G1 (handshake groups.Gtk (Sta j) h) ≡ 0

silent_more : (d : Domain) (n : Node) (k : ℕ) (h : List Act) (o : Option Derivation) → Silent k h → Silent (suc k) (add (to_session d n (Sta k) h o) h)
silent_more d n k h None s = λ j low. s j (omega (arith, low))
silent_more d n k h (Some x) s = λ j low. silent_other j (j == k) refl low
  where
    silent_other : (j : ℕ) (b : Bool) → (j == k) ≡ b → suc k ≤ j → sent_count (Sta j) G1 (handshake groups.Gtk (Sta j) (g1_to d n (Sta k) h x ∷ h)) ≡ 0
    silent_other j true is low = let one : j ≡ k = eqb-true j k is in absurd (omega (arith, one, low))
    silent_other j false is low = rw is (s j (omega (arith, low)))

pub record AllSent (d : Domain) (n : Node) (k : ℕ) (h : List Act) : Type 0 where
  pub fine : Fine d n h (to_sessions d n k h)
  pub silent : Silent k (add (to_sessions d n k h) h)

to_one : (d : Domain) (n : Node) (k : ℕ) (h : List Act) → is_ap n ≡ true → LegalHistory d n h → Settled d n h → Silent k h → (o : Option Derivation) → session (Sta k) h ≡ o → Fine d n h (to_session d n (Sta k) h o)
to_one d n k h role legal s silent None is = fine_none d n h s
to_one d n k h role legal s silent (Some x) is =
    let none : sent_count (Sta k) G1 (handshake groups.Gtk (Sta k) h) ≡ 0 = silent k (omega arith) in
    fine_quiet d n h (g1_to d n (Sta k) h x) [] (g1_legal d n (Sta k) h x role legal s is (omega (arith, none))) refl s (fine_none d n _)

all_sent_fine : (d : Domain) (n : Node) (k : ℕ) (h : List Act) → is_ap n ≡ true → LegalHistory d n h → Settled d n h → Silent 0 h → AllSent d n k h
all_sent_fine d n zero h role legal s silent = record { fine = fine_none d n h s; silent = silent }
all_sent_fine d n (suc k) h role legal s silent =
    let w = all_sent_fine d n k h role legal s silent in
    let mid : List Act = add (to_sessions d n k h) h in
    let mid_legal : LegalHistory d n mid = legal_add d n h (to_sessions d n k h) legal w.fine.chain in
    let o : Option Derivation = session (Sta k) mid in
    record {
      fine = fine_append d n h (to_sessions d n k h) (to_session d n (Sta k) mid o) w.fine (to_one d n k mid role mid_legal w.fine.settled w.silent o refl);
      silent = subst (λ (x : List Act). Silent (suc k) x) (sym (add_append (to_sessions d n k h) (to_session d n (Sta k) mid o) h)) (silent_more d n k mid o w.silent);
    }

-- all are current where as many GTKs are
all_current : (d : Domain) (h : List Act) → Nearly d h → is_current groups.Gtk h ≡ true → (which : GroupKind) → IsUsed d which → AllCurrent which h
all_current d h (inl all) is = all
all_current d h (inr ahead) is =
    let more = ahead groups.Gtk tt in
    let same : length (switches groups.Gtk h) ≡ length (group_keys groups.Gtk h) = eqb-true (length (switches groups.Gtk h)) (length (group_keys groups.Gtk h)) is in
    absurd (omega (arith, same, ap length more.1))

-- a GTK is drawn, and after it an IGTK where they are in use
drawn_fine : (d : Domain) (number : ℕ) (n : Node) (h : List Act) → is_ap n ≡ true → draws h ≤ number → Settled d n h → ((which : GroupKind) → IsUsed d which → AllCurrent which h) → (b : Bool) → protects d ≡ b → (if b then suc number else number) < draw_end
    → Fine d n h (Drew (draw.Group groups.Gtk (gtk d n number)) ∷ draw_igtk b d n (suc number))
drawn_fine d number n h role low s all false off few =
    let gtk_ : Act = Drew (draw.Group groups.Gtk (gtk d n number)) in
    fine_cons d n h gtk_ [] (legal_key groups.Gtk d number n h role (omega (arith, few, low)))
    (fine_none d n (gtk_ ∷ h) (settled_drew d n (gtk d n number) h off all s))
drawn_fine d number n h role low s all true on few =
    let gtk_ : Act = Drew (draw.Group groups.Gtk (gtk d n number)) in
    let igtk_ : Act = Drew (draw.Group groups.Igtk (gtk d n (suc number))) in
    fine_cons d n h gtk_ (igtk_ ∷ []) (legal_key groups.Gtk d number n h role (omega (arith, few, low)))
    (fine_cons d n (gtk_ ∷ h) igtk_ [] (legal_key groups.Igtk d (suc number) n (gtk_ ∷ h) role (omega (arith, few, low)))
    (fine_none d n (igtk_ ∷ gtk_ ∷ h) (settled_drew_both d n (gtk d n number) (gtk d n (suc number)) h all s)))

-- for these no G1 was sent
drawn_silent : (d : Domain) (number : ℕ) (n : Node) (h : List Act) (b : Bool) → Silent 0 (add (Drew (draw.Group groups.Gtk (gtk d n number)) ∷ draw_igtk b d n (suc number)) h)
drawn_silent d number n h false = λ j low. refl
drawn_silent d number n h true = λ j low. refl

rekey_fine : (d : Domain) (first : ℕ) (n : Node) (h g : List Act) → LegalHistory d n h → Settled d n h → RekeyRow (here d first n) h g → Fine d n h g
rekey_fine d first n h g legal s (Pending late is) = subst (λ (x : List Act). Fine d n h x) (sym is) (fine_quiet d n h (Idle why.RekeyPending) [] tt refl s (fine_none d n _))
rekey_fine d first n h g legal s (Spent all many is) = subst (λ (x : List Act). Fine d n h x) (sym is) (fine_quiet d n h (Idle why.Spent) [] tt refl s (fine_none d n _))
rekey_fine d first n h g legal s (Renews role all few is) =
    let keys : List Act = draw_acts d n (first + draws h) in
    let fine : Fine d n h keys = drawn_fine d (first + draws h) n h role (omega arith) s (all_current d h s.nearly all) (protects d) refl few in
    let after : List Act = add keys h in
    let sent_all = all_sent_fine d n (length d.stas) after role (legal_add d n h keys legal fine.chain) fine.settled (drawn_silent d (first + draws h) n h (protects d)) in
    subst (λ (x : List Act). Fine d n h x) (sym is) (fine_append d n h keys (to_sessions d n (length d.stas) after) fine sent_all.fine)

-- ---- what is dropped

fine_nothing : (d : Domain) (n : Node) (h g : List Act) → Settled d n h → Fine d n h g → Fine d n h (or_nothing g)
fine_nothing d n h [] s w = fine_quiet d n h (Idle why.Nothing) [] tt refl s (fine_none d n _)
fine_nothing d n h (e ∷ g) s w = w

opposite : (b : Bool) → false ≡ not b → b ≡ true
opposite true e = refl
opposite false e = cc

-- the session with a station is an access point's
fine_session : (d : Domain) (n : Node) (s : ℕ) (h mid : List Act) → LegalHistory d n h → Settled d n mid → (o : Option Derivation) → session (Sta s) h ≡ o → Fine d n mid (close_session (Sta s) o)
fine_session d n s h mid legal settled None is = fine_none d n mid settled
fine_session d n s h mid legal settled (Some x) is =
    fine_quiet d n mid (Closed (Sta s) Session) [] (not_station n (opposite (is_ap n) (session_role d n (Sta s) h x legal is))) refl settled (fine_none d n _)

expire_fine : (d : Domain) (n : Node) (s : ℕ) (h : List Act) → LegalHistory d n h → Settled d n h → Fine d n h (expire_acts (Sta s) h)
expire_fine d n s h legal settled =
    let a = fine_attempt d n h (Sta s) (attempt (Sta s) h) settled in
    fine_nothing d n h (close_attempt (Sta s) (attempt (Sta s) h) ++ close_session (Sta s) (session (Sta s) h)) settled
    (fine_append d n h (close_attempt (Sta s) (attempt (Sta s) h)) (close_session (Sta s) (session (Sta s) h)) a
    (fine_session d n s h (add (close_attempt (Sta s) (attempt (Sta s) h)) h) legal a.settled (session (Sta s) h) refl))

leave_fine : (d : Domain) (n : Node) (h : List Act) → Settled d n h → Fine d n h (leave_acts h)
leave_fine d n h s = fine_nothing d n h (close_pending (pending h) ++ close_associated (associated h)) s (fine_dropped d n h s)

-- ---- a revocation

revoke_fine : (akm : Akm) (d : Domain) (n : Node) (h : List Act) (p : Node) → Settled d n h → Fine d n h (revoke_acts_by akm d n h p)
revoke_fine Psk d n h p s = fine_quiet d n h _ [] tt refl s (fine_none d n _)
revoke_fine PskSha256 d n h p s = fine_quiet d n h _ [] tt refl s (fine_none d n _)
revoke_fine FtPsk d n h p s = fine_quiet d n h _ [] tt refl s (fine_none d n _)

-- ---- a changed key

old_fine : (akm : Akm) (d : Domain) (n : Node) (h : List Act) (p : Node) → Settled d n h → Fine d n h (old_row_by akm d n h p)
old_fine FtPsk d n h p s = revoke_fine d.akm d n h p s
old_fine Psk d n h p s = fine_none d n h s
old_fine PskSha256 d n h p s = fine_none d n h s

secret_fine : (d : Domain) (n : Node) (h : List Act) (psk : List ℕ) (s : ℕ) → LegalHistory d n h → Settled d n h → Fine d n h (secret_of d n h psk (Sta s))
secret_fine d n h psk s legal settled =
    let p : Node = Sta s in
    let row : List Act = old_row_by d.akm d n h p in
    let part : List Act = close_attempt p (attempt p h) in
    let rest : List Act = close_session p (session p h) in
    let a = old_fine d.akm d n h p settled in
    let b = fine_attempt d n (add row h) p (attempt p h) a.settled in
    let c = fine_session d n s h (add part (add row h)) legal b.settled (session p h) refl in
    fine_append d n h row (part ++ (rest ++ act.Secret p psk ∷ [])) a
    (fine_append d n (add row h) part (rest ++ act.Secret p psk ∷ []) b
    (fine_append d n (add part (add row h)) rest (act.Secret p psk ∷ []) c
    (fine_quiet d n (add rest (add part (add row h))) (act.Secret p psk) [] tt refl c.settled (fine_none d n _))))

each_fine : (d : Domain) (n : Node) (h : List Act) (psk : List ℕ) (k : ℕ) → LegalHistory d n h → Settled d n h → Fine d n h (secret_of_each d n h psk k)
each_fine d n h psk zero legal settled = fine_none d n h settled
each_fine d n h psk (suc k) legal settled =
    let w = each_fine d n h psk k legal settled in
    let mid : List Act = add (secret_of_each d n h psk k) h in
    fine_append d n h (secret_of_each d n h psk k) (secret_of d n mid psk (Sta k)) w
    (secret_fine d n mid psk k (legal_add d n h (secret_of_each d n h psk k) legal w.chain) w.settled)

changed_fine : (d : Domain) (n : Node) (h : List Act) (named : Option ℕ) (psk : List ℕ) → LegalHistory d n h → Settled d n h → Fine d n h (secret_acts d n h named psk)
changed_fine d (Ap a) h (Some s) psk legal settled = secret_fine d (Ap a) h psk s legal settled
changed_fine d (Ap a) h None psk legal settled = each_fine d (Ap a) h psk (length d.stas) legal settled
changed_fine d (Sta s) h named psk legal settled =
    let n : Node = Sta s in
    let a = fine_pending d n h (pending h) settled in
    let mid : List Act = add (close_pending (pending h)) h in
    let b = fine_associated d n mid (associated h) (left_pending h (pending h)) a.settled in
    fine_append d n h (close_pending (pending h)) (close_associated (associated h) ++ act.Secret n psk ∷ []) a
    (fine_append d n mid (close_associated (associated h)) (act.Secret n psk ∷ []) b
    (fine_quiet d n (add (close_associated (associated h)) mid) (act.Secret n psk) [] tt refl b.settled (fine_none d n _)))

-- ---- the switch

-- the newest is the one that is not current yet
one_ahead : (d : Domain) (h : List Act) → Nearly d h → is_current groups.Gtk h ≡ false → (which : GroupKind) → IsUsed d which → group_keys which h ≡ (newest which h).key ∷ switches which h
one_ahead d h (inl all) late which used =
    let current : is_current groups.Gtk h ≡ true = eq-eqb (length (switches groups.Gtk h)) (length (group_keys groups.Gtk h)) (sym (ap length (all groups.Gtk tt))) in absurd (cc (current, late))
one_ahead d h (inr ahead) late which used =
    let more = ahead which used in
    let key : (newest which h).key ≡ more.0 = ap (λ (xs : List (List ℕ)). (newest_of which xs).key) more.1 in
    more.1 ∙ ap (λ (x : List ℕ). x ∷ switches which h) (sym key)

-- the GTK becomes current, and after it the IGTK where they are in use
current_fine : (d : Domain) (a : ℕ) (h : List Act) → Settled d (Ap a) h → ((which : GroupKind) → IsUsed d which → group_keys which h ≡ (newest which h).key ∷ switches which h) → (b : Bool) → protects d ≡ b
    → Fine d (Ap a) h (current_act groups.Gtk d (Ap a) h ∷ current_igtk b d (Ap a) h)
current_fine d a h s new false off =
    let n : Node = Ap a in
    let gtk_ : Act = current_act groups.Gtk d n h in
    fine_cons d n h gtk_ [] (record { ap = refl; newest = new groups.Gtk tt })
    (fine_none d n (gtk_ ∷ h) (settled_switched d n (newest groups.Gtk h).key (newest groups.Gtk h).id (mac d n) h off (new groups.Gtk tt) s))
current_fine d a h s new true on =
    let n : Node = Ap a in
    let gtk_ : Act = current_act groups.Gtk d n h in
    let igtk_ : Act = current_act groups.Igtk d n h in
    fine_cons d n h gtk_ (igtk_ ∷ []) (record { ap = refl; newest = new groups.Gtk tt })
    (fine_cons d n (gtk_ ∷ h) igtk_ [] (record { ap = refl; newest = new groups.Igtk on })
    (fine_none d n (igtk_ ∷ gtk_ ∷ h)
    (settled_switched_both d n (newest groups.Gtk h).key (newest groups.Igtk h).key (newest groups.Gtk h).id (newest groups.Igtk h).id (mac d n) (mac d n) h (new groups.Gtk tt) (new groups.Igtk on) s)))

switch_by : (d : Domain) (a : ℕ) (h : List Act) → Settled d (Ap a) h → (b c : Bool) → is_current groups.Gtk h ≡ b → Fine d (Ap a) h (cond (b || c) [] (current_acts d (Ap a) h))
switch_by d a h s true c is = fine_none d (Ap a) h s
switch_by d a h s false true is = fine_none d (Ap a) h s
switch_by d a h s false false is = current_fine d a h s (one_ahead d h s.nearly is) (protects d) refl

switch_fine : (d : Domain) (a : ℕ) (h : List Act) → Settled d (Ap a) h → Fine d (Ap a) h (switch_acts d a h)
switch_fine d a h s = switch_by d a h s (is_current groups.Gtk h) (any_owes groups.Gtk (length d.stas) h) refl

and_switch_fine : (d : Domain) (n : Node) (h acts : List Act) → Fine d n h acts → Fine d n h (and_switch d n h acts)
and_switch_fine d (Sta s) h acts w = w
and_switch_fine d (Ap a) h acts w = fine_append d (Ap a) h acts (switch_acts d a (add acts h)) w (switch_fine d a (add acts h) w.settled)

-- ---- the renewal of a pairwise key

renewal_fine : (d : Domain) (first : ℕ) (n : Node) (h : List Act) (p : Node) (g : List Act) → Settled d n h → RenewRow (here d first n) h p g → Fine d n h g
renewal_fine d first n h p g s (NoSession none is) = subst (λ (x : List Act). Fine d n h x) (sym is) (fine_quiet d n h (Idle why.NoSession) [] tt refl s (fine_none d n _))
renewal_fine d first n h p g s (Nothing x awaited part a is) = subst (λ (x : List Act). Fine d n h x) (sym is) (fine_quiet d n h (Idle why.Nothing) [] tt refl s (fine_none d n _))
renewal_fine d first n h p g s (NoDraw x awaited none many is) = subst (λ (x : List Act). Fine d n h x) (sym is) (fine_quiet d n h (Idle why.Spent) [] tt refl s (fine_none d n _))
renewal_fine d first n h p g s (Begins role renewing x awaited none few is) =
    subst (λ (x : List Act). Fine d n h x) (sym is) (renew_fine d n h p x (next_in_session p h) (next_nonce d first n h) role renewing awaited none (omega (arith, few)) (size_nonce d n _) s)

-- ---- each event

row_fine : (d : Domain) (first : ℕ) (n : Node) (h : List Act) (event : NodeEvent) (g : List Act) → RightActs d n g → LegalHistory d n h → Settled d n h → RowOf (here d first n) h event g → Fine d n h g
row_fine d first n h (Send q tid octets) g right legal s is = subst (λ (x : List Act). Fine d n h x) (sym is) (send_fine d first n h q tid octets legal s)
row_fine d first n h (Take octets) g right legal s row = take_fine d first n h octets row.r row.facts g row.reads row.knows right legal s row.row
row_fine d first n h (Begin a) g right legal s row = connect_fine d first n h (Ap a) g refl s row
row_fine d first n h (Retry s) g right legal settled is = subst (λ (x : List Act). Fine d n h x) (sym is) (retry_fine d n s h (attempt (Sta s) h) legal settled refl)
row_fine d first n h Rekey g right legal s row = rekey_fine d first n h g legal s row
row_fine d first n h (Expire s) g right legal settled is = subst (λ (x : List Act). Fine d n h x) (sym is) (expire_fine d n s h legal settled)
row_fine d first n h (Roam a) g right legal s row = roam_fine d first n h (Ap a) g refl s row
row_fine d first n h (Revoke m) g right legal s is = subst (λ (x : List Act). Fine d n h x) (sym is) (revoke_fine d.akm d n h (Sta m) s)
row_fine d first n h (Secret named psk) g right legal s is = subst (λ (x : List Act). Fine d n h x) (sym is) (changed_fine d n h named psk legal s)
row_fine d first n h (Renew m) g right legal s row = renewal_fine d first n h (Sta m) g s row
row_fine d first n h (Announce octets) g right legal s is = subst (λ (x : List Act). Fine d n h x) (sym is) (announce_fine d n h octets legal s)
row_fine d first n h Leave g right legal s is = subst (λ (x : List Act). Fine d n h x) (sym is) (leave_fine d n h s)

-- the event's own acts are right where all are
own_right : (d : Domain) (n : Node) (h acts g : List Act) → g ≡ and_switch d n h acts → RightActs d n g → RightActs d n acts
own_right d (Sta s) h acts g is w = subst (λ (x : List Act). RightActs d (Sta s) x) is w
own_right d (Ap a) h acts g is w = right_front d (Ap a) acts (switch_acts d a (add acts h)) (subst (λ (x : List Act). RightActs d (Ap a) x) is w)

pub adds_fine : (d : Domain) (first : ℕ) (n : Node) (h : List Act) (event : NodeEvent) (g : List Act) → RightActs d n g → LegalHistory d n h → Settled d n h → Adds (here d first n) h event g → Fine d n h g
adds_fine d first n h event g right legal s adds =
    subst (λ (x : List Act). Fine d n h x) (sym adds.is) (and_switch_fine d n h adds.acts (row_fine d first n h event adds.acts (own_right d n h adds.acts g adds.is right) legal s adds.row))

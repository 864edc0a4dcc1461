-- The key of a station is changed at an access point: the row of the old key and what there is with the station end.
use Rattle.std.proofs.Common.{◌≡◌, ◌≢◌, ◌⊎◌, inl, inr, ◌∙◌, ℕ, zero, suc, ◌+◌, ◌<◌, ◌≤◌, ◌^◌, Bool, true, false, List, length, [], ◌∷◌, ◌++◌, append_assoc, append-nil, Option, Some, None, refl, sym, ap, subst, arith}
use Rattle.std.specs.Prelude.{◌-◌, is_some}
use Rattle.std.proofs.lemmas.Bool.{cases_Bool, cases_lt, eqb-true}
use Rattle.std.specs.List.{AllByRecursion}
use Rattle.domain_base.specs.declared.names.Akm.{Akm}
use Rattle.domain_base.specs.declared.names.Akm.TheVariants.{Psk, PskSha256, FtPsk}
use Rattle.domain_base.specs.declared.names.Node.{Node}
use Rattle.domain_base.specs.declared.names.Node.TheVariants.{Ap, Sta}
use Rattle.key_holders.specs.declared.rows.HeldRow.{HeldRow}
use Rattle.run_journal.specs.declared.domain.Domain.{Domain}
use Rattle.run_journal.specs.declared.acts.Part.TheVariants.{Attempt as OfAttempt, Session as OfSession}
use Rattle.run_journal.specs.declared.acts.Outcome.TheVariants.{Done}
use Rattle.run_journal.specs.declared.acts.Act.{Act}
use Rattle.run_journal.specs.declared.acts.Act.TheVariants.{Closed, Revoked, Secret}
use Rattle.run_journal.specs.Acts.{same, Derivation}
use Rattle.run_journal.specs.Holders.{row}
use Rattle.run_journal.specs.Questions.{attempt, session, draws, add}
use Rattle.run_journal.specs.Changed.{is_named, changed}
use Rattle.domain_rules.specs.ChangedKeys.{old_row_by, secret_of, secret_of_each, secret_acts, IsNamedSta}
use Rattle.domain_rules.specs.Closing.{close_attempt, close_session}
use Rattle.domain_rules.specs.Here.{here}
use Rattle.domain_rules.specs.KeyHolders.{revoke_acts_by}
use Rattle.domain_rules.specs.Network.{r0kh_id, draw_end}
use Rattle.domain_rules.specs.Rows.{outcome_of}
use Rattle.domain_rules.specs.Rows as rows
use Rattle.domain_rules.proofs.OldKeys.{ends_at_ap}
use Rattle.domain_rules.proofs.Parts.{same-refl, IsApart, apart-closed, apart-closed_session, attempt_ends, attempt_none, add_append}
use Rattle.node_base.specs.Changing.{Rekeys}
use Rattle.node_base.specs.Events.{Seen, seen}
use Rattle.node_base.proofs.Grown.{changed_rekeys}
use Rattle.held_rows.specs.Knows.{own_row, KnowsRows}
use Rattle.held_rows.specs.Looks.{NoLooks}
use Rattle.held_rows.proofs.Changing.{rows_changed}
use Rattle.held_rows.proofs.Leaving.{left}
use Rattle.held_rows.proofs.Revoking.{revocation_told, behind_revocation}
use Rattle.targets.specs.Stands.{HasMoves}
use Rattle.targets.proofs.Beginning.{nothing_stands}
use Rattle.ap_node.specs.declared.station.Station.{Station}
use Rattle.ap_node.specs.State.{State, no_station, station_at, has_attempt, has_session, moves_in}
use Rattle.ap_node.specs.Stands.{HasPart, StandsSoFar}
use Rattle.ap_node.specs.Putting.{row_at}
use Rattle.ap_node.specs.Switching.{switched}
use Rattle.ap_node.specs.Changing.{RevokesOld, changed_acts, IsRekeyed, AreRekeyed, RekeysNamed, HasChanged}
use Rattle.ap_node.specs.Takes.{IsDoneWith, IsTakenWith}
use Rattle.ap_node.proofs.Dropping.{none_of, nothing_left}
use Rattle.ap_node.proofs.Growing.{rekeyed}
use Rattle.ap_node.proofs.Others.{IsSameGroup, AllLeave, far_on}
use Rattle.ap_node.proofs.RevokedKeys.{named as name_of_row, same-revoked, revoked_is}
use Rattle.ap_node.proofs.Standing.{any_session, so_far_as_before, stands_with_one}
use Rattle.ap_node.proofs.Attempts.{any_attempt}

-- ---- what ends, and the new key, by whether there was an attempt and a session

by_history : (p : Node) (psk : List ℕ) (a : Option (List Act)) (s : Option Derivation) → changed_acts p (is_some a) (is_some s) psk ≡ close_attempt p a ++ (close_session p s ++ Secret p psk ∷ [])
by_history p psk None None = refl
by_history p psk None (Some x) = refl
by_history p psk (Some part) None = refl
by_history p psk (Some part) (Some x) = refl

changed_is : (d : Domain) (n : Node) (sta : ℕ) (psk : List ℕ) (x : Station) (h : List Act) → HasPart d n sta x h → HasMoves d n (Sta sta) (moves_in x) h
    → changed_acts (Sta sta) (has_attempt x) (has_session x) psk ≡ close_attempt (Sta sta) (attempt (Sta sta) h) ++ (close_session (Sta sta) (session (Sta sta) h) ++ Secret (Sta sta) psk ∷ [])
changed_is d n sta psk x h at moves =
    same_tests (sym (any_attempt d n sta x h at moves)) (sym (any_session d n sta x h at))
    ∙ by_history (Sta sta) psk (attempt (Sta sta) h) (session (Sta sta) h)
  where
    same_tests : {a b c e : Bool} → a ≡ b → c ≡ e → changed_acts (Sta sta) a c psk ≡ changed_acts (Sta sta) b e psk
    same_tests f g = rw (f, g) refl

apart-secret : (p q : Node) (psk : List ℕ) → IsApart p (Secret q psk)
apart-secret p q psk = record { opens_none = refl; ends_none = refl; accepts_none = λ k. refl; replies_none = λ k. refl; sends_none = λ m. refl; derives_none = refl; finishes_none = refl; closes_none = refl }

no_attempt_kept : (sta : ℕ) (psk : List ℕ) (h : List Act) (a s : Bool) → is_some (attempt (Sta sta) h) ≡ a → attempt (Sta sta) (add (changed_acts (Sta sta) a s psk) h) ≡ None
no_attempt_kept sta psk h false false is = attempt_none (Sta sta) (Secret (Sta sta) psk) h refl (none_of (attempt (Sta sta) h) is)
no_attempt_kept sta psk h false true is =
    attempt_none (Sta sta) (Secret (Sta sta) psk) (Closed (Sta sta) OfSession ∷ h) refl (attempt_none (Sta sta) (Closed (Sta sta) OfSession) h refl (none_of (attempt (Sta sta) h) is))
no_attempt_kept sta psk h true false is =
    attempt_none (Sta sta) (Secret (Sta sta) psk) (Closed (Sta sta) OfAttempt ∷ h) refl (attempt_ends (Sta sta) (Closed (Sta sta) OfAttempt) h refl (same-refl (Sta sta)))
no_attempt_kept sta psk h true true is =
    attempt_none (Sta sta) (Secret (Sta sta) psk) (Closed (Sta sta) OfSession ∷ Closed (Sta sta) OfAttempt ∷ h) refl
    (attempt_none (Sta sta) (Closed (Sta sta) OfSession) (Closed (Sta sta) OfAttempt ∷ h) refl (attempt_ends (Sta sta) (Closed (Sta sta) OfAttempt) h refl (same-refl (Sta sta))))

no_session_kept : (p : Node) (psk : List ℕ) (h : List Act) (a s : Bool) → is_some (session p h) ≡ s → session p (add (changed_acts p a s psk) h) ≡ None
no_session_kept p psk h false false is = none_of (session p h) is
no_session_kept p psk h false true is = rw (same-refl p) refl
no_session_kept p psk h true false is = none_of (session p h) is
no_session_kept p psk h true true is = rw (same-refl p) refl

changed-group : (p : Node) (psk : List ℕ) (a s : Bool) (h : List Act) → IsSameGroup h (add (changed_acts p a s psk) h)
changed-group p psk false false h = record { keys_are = λ x. refl; switches_are = λ x. refl; uses_are = λ x. refl }
changed-group p psk false true h = record { keys_are = λ x. refl; switches_are = λ x. refl; uses_are = λ x. refl }
changed-group p psk true false h = record { keys_are = λ x. refl; switches_are = λ x. refl; uses_are = λ x. refl }
changed-group p psk true true h = record { keys_are = λ x. refl; switches_are = λ x. refl; uses_are = λ x. refl }

changed-draws : (p : Node) (psk : List ℕ) (a s : Bool) (h : List Act) → draws (add (changed_acts p a s psk) h) ≡ draws h
changed-draws p psk false false h = refl
changed-draws p psk false true h = refl
changed-draws p psk true false h = refl
changed-draws p psk true true h = refl

changed-apart : (q : ℕ) (p : Node) (psk : List ℕ) (a s : Bool) → same (Sta q) p ≡ false → AllByRecursion (IsApart (Sta q)) (changed_acts p a s psk)
changed-apart q p psk false false other = (apart-secret (Sta q) p psk, tt)
changed-apart q p psk false true other = (apart-closed_session (Sta q) p other, (apart-secret (Sta q) p psk, tt))
changed-apart q p psk true false other = (apart-closed q p other, (apart-secret (Sta q) p psk, tt))
changed-apart q p psk true true other = (apart-closed q p other, (apart-closed_session (Sta q) p other, (apart-secret (Sta q) p psk, tt)))

changed-leaves : (q p : Node) (psk : List ℕ) (a s : Bool) → AllLeave q (changed_acts p a s psk)
changed-leaves q p psk false false tk = (record { used = λ h. refl; got = λ tid h. refl }, tt)
changed-leaves q p psk false true tk = (record { used = λ h. refl; got = λ tid h. refl }, (record { used = λ h. refl; got = λ tid h. refl }, tt))
changed-leaves q p psk true false tk = (record { used = λ h. refl; got = λ tid h. refl }, (record { used = λ h. refl; got = λ tid h. refl }, tt))
changed-leaves q p psk true true tk =
    (record { used = λ h. refl; got = λ tid h. refl }, (record { used = λ h. refl; got = λ tid h. refl }, (record { used = λ h. refl; got = λ tid h. refl }, tt)))

-- they move no rows and ask no key holder
changed-looks : (p : Node) (psk : List ℕ) (a s : Bool) → NoLooks (changed_acts p a s psk)
changed-looks p psk false false = (tt, tt)
changed-looks p psk false true = (tt, (tt, tt))
changed-looks p psk true false = (tt, (tt, tt))
changed-looks p psk true true = (tt, (tt, (tt, tt)))

changed-rows : (d : Domain) (n p : Node) (psk : List ℕ) (a s : Bool) (xs : List HeldRow) (h : List Act) → KnowsRows d n xs h → KnowsRows d n xs (add (changed_acts p a s psk) h)
changed-rows d n p psk false false xs h at = left d n xs (changed_acts p false false psk) h (refl, tt) at
changed-rows d n p psk false true xs h at = left d n xs (changed_acts p false true psk) h (refl, (refl, tt)) at
changed-rows d n p psk true false xs h at = left d n xs (changed_acts p true false psk) h (refl, (refl, tt)) at
changed-rows d n p psk true true xs h at = left d n xs (changed_acts p true true psk) h (refl, (refl, (refl, tt))) at

-- ---- the row of the old key

-- what it leaves after the history h
pub record Leaves (d : Domain) (first : ℕ) (s : State) (ys : List HeldRow) (g h : List Act) : Type 0 where
  pub stands : StandsSoFar d first s (add g h)
  pub known : KnowsRows d (Ap s.number) ys (add g h)
  pub looks : NoLooks g

revoked_old : (akm : Akm) (d : Domain) (first : ℕ) (s : State) (sta : ℕ) (xs ys : List HeldRow) (g h : List Act) → d.akm ≡ akm → RevokesOld akm d s.number sta xs ys g
    → StandsSoFar d first s h → KnowsRows d (Ap s.number) xs h → (g ≡ old_row_by akm d (Ap s.number) h (Sta sta)) × Leaves d first s ys g h
revoked_old FtPsk d first s sta xs ys g h suite w stands known =
    let n = Ap s.number in
    let id = r0kh_id d n in
    let name = (row_at d s.number sta).name in
    let r = w.2 in
    let revoked : Act = Revoked id name (Sta sta) r.answer in
    let says : g ≡ revoked ∷ [] = w.1 ∙ ap (λ (e : Act). e ∷ []) r.is in (
      says ∙ revoked_is d s.number sta h r.answer suite (r.by_rows ∙ revocation_told d n xs h name known),
      subst (λ (l : List Act). Leaves d first s ys l h) (sym says) (record {
        stands = so_far_as_before d first s h (revoked ∷ h) (same-revoked id name (Sta sta) r.answer h) stands;
        known = subst (λ (zs : List HeldRow). KnowsRows d n zs (revoked ∷ h)) (sym r.behind) (behind_revocation d n (Sta sta) xs h id name r.answer known r.by_rows);
        looks = (tt, tt);
      }),
    )
revoked_old Psk d first s sta xs ys g h suite w stands known =
    (w.0, subst (λ (l : List Act). Leaves d first s ys l h) (sym w.0) (record { stands = stands; known = subst (λ (zs : List HeldRow). KnowsRows d (Ap s.number) zs h) (sym w.1) known; looks = tt }))
revoked_old PskSha256 d first s sta xs ys g h suite w stands known =
    (w.0, subst (λ (l : List Act). Leaves d first s ys l h) (sym w.0) (record { stands = stands; known = subst (λ (zs : List HeldRow). KnowsRows d (Ap s.number) zs h) (sym w.1) known; looks = tt }))

-- ---- one station

both_looks : (g k : List Act) → NoLooks g → NoLooks k → NoLooks (g ++ k)
both_looks [] k all more = more
both_looks (e ∷ g) k all more = (all.0, both_looks g k all.1 more)

module _ (d : Domain) (first : ℕ) (psk : List ℕ) (few : length d.stas < 2 ^ 64 - 1) where
  -- it did what the definitions say of that station, and stands for it still in the network with the old key
  pub record Ends (old new : State) (ys : List HeldRow) (says g h : List Act) : Type 0 where
    pub number : new.number ≡ old.number
    pub is : g ≡ says
    pub leaves : Leaves d first new ys g h

  one_rekeyed : (sta : ℕ) (old new : State) (xs ys : List HeldRow) (g h : List Act) → sta < length d.stas → IsRekeyed d sta psk old new xs ys g
      → StandsSoFar d first old h → KnowsRows d (Ap old.number) xs h → Ends old new ys (secret_of d (Ap old.number) h psk (Sta sta)) g h
  one_rekeyed sta old new xs ys g h low w stands known =
      let n = Ap old.number in
      let p = Sta sta in
      let o = station_at old.stations sta in
      let a = has_attempt o in
      let s = has_session o in
      let said = changed_acts p a s psk in
      let row = revoked_old d.akm d first old sta xs ys w.revoked h refl w.revokes stands known in
      let l : List Act = add w.revoked h in
      let was = row.1 in
      let at = was.stands.parts sta in
      let has = was.stands.moves sta in
      let has_a : is_some (attempt p l) ≡ a = any_attempt d n sta o l at has in
      let has_s : is_some (session p l) ≡ s = any_session d n sta o l at in
      let no_attempt = no_attempt_kept sta psk l a s has_a in
      let no_session = no_session_kept p psk l a s has_s in
      let stood : StandsSoFar d first new (add said l) = stands_with_one d first old new l (add said l) sta was.stands (record {
        number = w.beside.number;
        drawn = w.beside.drawn ∙ was.stands.draws_are ∙ ap (λ (m : ℕ). first + m) (sym (changed-draws p psk a s l));
        drawn_low = subst (λ (m : ℕ). m ≤ draw_end) (sym w.beside.drawn) was.stands.draws_low;
        group = w.beside.group;
        sending = w.beside.sending;
        listed = λ past. absurd (omega (arith, past, low));
        counted = w.beside.counts (length d.stas) low few was.stands.counted;
        same_group = changed-group p psk a s l;
        here = subst (λ (x : Station). HasPart d n sta x (add said l)) (sym w.left) (nothing_left d n sta (add said l) no_attempt no_session);
        others = w.beside.others;
        goes = λ k other. far_on (Sta k) said l (changed-apart k p psk a s other) (changed-leaves (Sta k) p psk a s);
        moves = subst (λ (x : Station). HasMoves d n p (moves_in x) (add said l)) (sym w.left) (nothing_stands d n p (add said l) no_attempt no_session);
      }) in
      let both : add g h ≡ add said l = ap (λ (k : List Act). add k h) w.says ∙ add_append w.revoked said h in
      record {
        number = w.beside.number;
        is = w.says ∙ ap (λ (k : List Act). k ++ said) row.0 ∙ ap (λ (k : List Act). old_row_by d.akm d n h p ++ k) (changed_is d n sta psk o h (stands.parts sta) (stands.moves sta));
        leaves = record {
          stands = subst (StandsSoFar d first new) (sym both) stood;
          known = subst (λ (k : ℕ). KnowsRows d (Ap k) ys (add g h)) (sym w.beside.number)
              (subst (KnowsRows d n ys) (sym both) (changed-rows d n p psk a s ys l was.known));
          looks = subst NoLooks (sym w.says) (both_looks w.revoked said was.looks (changed-looks p psk a s));
        };
      }

  -- ---- the first so many

  all_rekeyed : (k : ℕ) (old new : State) (xs ys : List HeldRow) (g h : List Act) → k ≤ length d.stas → AreRekeyed d psk k old new xs ys g
      → StandsSoFar d first old h → KnowsRows d (Ap old.number) xs h → Ends old new ys (secret_of_each d (Ap old.number) h psk k) g h
  all_rekeyed zero old new xs ys g h low w stands known = record {
    number = ap (λ (s : State). s.number) w.0;
    is = w.2;
    leaves = subst (λ (l : List Act). Leaves d first new ys l h) (sym w.2) (subst (λ (s : State). Leaves d first s ys [] h) (sym w.0)
        (record { stands = stands; known = subst (λ (zs : List HeldRow). KnowsRows d (Ap old.number) zs h) (sym w.1) known; looks = tt }));
  }
  all_rekeyed (suc k) old new xs ys g h low w stands known =
      let mid = w.0 in
      let zs = w.1 in
      let before = w.2 in
      let one = w.3 in
      let first_ones = all_rekeyed k old mid xs zs before h (omega (arith, low)) w.5 stands known in
      let last = one_rekeyed k mid new zs ys one (add before h) (omega (arith, low)) w.6 first_ones.leaves.stands first_ones.leaves.known in
      let same_node : Ap mid.number ≡ Ap old.number = ap (λ (a : ℕ). Ap a) first_ones.number in
      let both : add g h ≡ add one (add before h) = ap (λ (l : List Act). add l h) w.4 ∙ add_append before one h in
      record {
        number = last.number ∙ first_ones.number;
        is = w.4 ∙ ap (λ (l : List Act). l ++ one) first_ones.is
            ∙ ap (λ (l : List Act). secret_of_each d (Ap old.number) h psk k ++ l) (last.is ∙ ap (λ (n : Node). secret_of d n (add before h) psk (Sta k)) same_node
            ∙ ap (λ (l : List Act). secret_of d (Ap old.number) (add l h) psk (Sta k)) first_ones.is);
        leaves = record {
          stands = subst (StandsSoFar d first new) (sym both) last.leaves.stands;
          known = subst (KnowsRows d (Ap new.number) ys) (sym both) last.leaves.known;
          looks = subst NoLooks (sym w.4) (both_looks before one first_ones.leaves.looks last.leaves.looks);
        };
      }

  -- that of one, or of all
  named_rekeyed : (named : Option ℕ) (old new : State) (xs ys : List HeldRow) (g h : List Act) → ((s : ℕ) → named ≡ Some s → s < length d.stas) → RekeysNamed d named psk old new xs ys g
      → StandsSoFar d first old h → KnowsRows d (Ap old.number) xs h → Ends old new ys (secret_acts d (Ap old.number) h named psk) g h
  named_rekeyed None old new xs ys g h low w stands known = all_rekeyed (length d.stas) old new xs ys g h (omega arith) w stands known
  named_rekeyed (Some s) old new xs ys g h low w stands known = one_rekeyed s old new xs ys g h (low s refl) w stands known

-- ---- there is nothing with a station whose key was changed

left_each : (d : Domain) (psk : List ℕ) (k : ℕ) (old new : State) (xs ys : List HeldRow) (g : List Act) → AreRekeyed d psk k old new xs ys g → (i : ℕ) → i < k → station_at new.stations i ≡ no_station
left_each d psk zero old new xs ys g w i low = absurd (omega (arith, low))
left_each d psk (suc k) old new xs ys g w i low = by (cases_lt i k) (left_each d psk k old w.0 xs w.1 w.2 w.5 i)
  where
    is_last : (i k : ℕ) → i < suc k → k ≤ i → i ≡ k
    is_last i k low most = omega (arith, low, most)

    by : (i < k) ⊎ (k ≤ i) → (i < k → station_at w.0.stations i ≡ no_station) → station_at new.stations i ≡ no_station
    by (inr most) before = ap (station_at new.stations) (is_last i k low most) ∙ w.6.left
    by (inl less) before = w.6.beside.others i (λ (is : i ≡ k). absurd (omega (arith, is, less))) ∙ before less

pub left_named : (d : Domain) (psk : List ℕ) (named : Option ℕ) (old new : State) (xs ys : List HeldRow) (g : List Act) → RekeysNamed d named psk old new xs ys g → (i : ℕ) → IsNamedSta d named i → station_at new.stations i ≡ no_station
left_named d psk None old new xs ys g w i low = left_each d psk (length d.stas) old new xs ys g w i low
left_named d psk (Some s) old new xs ys g w i is = ap (station_at new.stations) is ∙ w.left

-- the switch at the end of the event leaves that
pub left_switched : (d : Domain) (named : Option ℕ) (mid new : State) → new ≡ switched mid → ((i : ℕ) → IsNamedSta d named i → station_at mid.stations i ≡ no_station) → (i : ℕ) → IsNamedSta d named i → station_at new.stations i ≡ no_station
left_switched d named mid new is left i named_ = ap (λ (s : State). station_at s.stations i) is ∙ left i named_

-- ---- the event

-- acts of which the first tells of no frame, of nothing idle and of nothing given up
abbrev GoesDone : List Act → Type 0
GoesDone g = (k : List Act) → outcome_of k ≡ Done → outcome_of (g ++ k) ≡ Done

both_do : (g k : List Act) → GoesDone g → GoesDone k → GoesDone (g ++ k)
both_do g k one more l done = ap outcome_of (append_assoc g k l) ∙ one (k ++ l) (more l done)

ends_do : (p : Node) (psk : List ℕ) (a : Option (List Act)) (s : Option Derivation) → GoesDone (close_attempt p a ++ (close_session p s ++ Secret p psk ∷ []))
ends_do p psk None None l done = refl
ends_do p psk None (Some x) l done = refl
ends_do p psk (Some part) None l done = refl
ends_do p psk (Some part) (Some x) l done = refl

revoked_do : (akm : Akm) (d : Domain) (n p : Node) (h : List Act) → GoesDone (revoke_acts_by akm d n h p)
revoked_do Psk d n p h l done = refl
revoked_do PskSha256 d n p h l done = refl
revoked_do FtPsk d n p h l done = refl

row_does : (akm : Akm) (d : Domain) (n p : Node) (h : List Act) → GoesDone (old_row_by akm d n h p)
row_does Psk d n p h l done = done
row_does PskSha256 d n p h l done = done
row_does FtPsk d n p h l done = revoked_do d.akm d n p h l done

one_does : (d : Domain) (n p : Node) (h : List Act) (psk : List ℕ) → GoesDone (secret_of d n h psk p)
one_does d n p h psk = both_do (old_row_by d.akm d n h p) _ (row_does d.akm d n p h) (ends_do p psk (attempt p h) (session p h))

each_does : (d : Domain) (n : Node) (h : List Act) (psk : List ℕ) (k : ℕ) → GoesDone (secret_of_each d n h psk k)
each_does d n h psk zero l done = done
each_does d n h psk (suc k) l done = both_do (secret_of_each d n h psk k) _ (each_does d n h psk k) (one_does d n (Sta k) (add (secret_of_each d n h psk k) h) psk) l done

secret_does : (d : Domain) (a : ℕ) (h : List Act) (named : Option ℕ) (psk : List ℕ) → GoesDone (secret_acts d (Ap a) h named psk)
secret_does d a h None psk = each_does d (Ap a) h psk (length d.stas)
secret_does d a h (Some s) psk = one_does d (Ap a) (Sta s) h psk

outcome_done : (d : Domain) (a : ℕ) (h : List Act) (named : Option ℕ) (psk : List ℕ) → Done ≡ outcome_of (secret_acts d (Ap a) h named psk)
outcome_done d a h named psk = sym (ap outcome_of (sym (append-nil (secret_acts d (Ap a) h named psk))) ∙ secret_does d a h named psk [] refl)

pub does_rekey : (d : Domain) (named : Option ℕ) (psk : List ℕ) (old new : State) (xs ys : List HeldRow) (waited waits g : List Act) → length d.stas < 2 ^ 64 - 1
    → ((s : ℕ) → named ≡ Some s → s < length d.stas) → waits ≡ waited ++ g → RekeysNamed d named psk old new xs ys g → new.number ≡ old.number → IsDoneWith d (rows.Secret named psk) old new xs ys (seen waited waits Done)
does_rekey d named psk old new xs ys waited waits g few low waiting w number = record {
  number = number;
  does = λ first h stands known.
      (let e = named_rekeyed d first psk few named old new xs ys g h low w stands.so_far known in
      record {
        acts = g;
        row = e.is;
        waiting = waiting;
        came = outcome_done d old.number h named psk ∙ ap outcome_of (sym e.is);
        stands = e.leaves.stands;
        marks = (e.leaves.looks, subst (λ (a : ℕ). KnowsRows d (Ap a) ys (add g h)) number e.leaves.known);
      });
  refused = λ why is. cc is;
}

-- with the switch at its end it stands for all in the network with the changed key, and so do the rows
named_low : (d : Domain) (named : Option ℕ) (i : ℕ) → i < length d.stas → is_named named i ≡ true → IsNamedSta d named i
named_low d None i low is = low
named_low d (Some s) i low is = sym (eqb-true s i is)

pub has_changed : (d : Domain) (named : Option ℕ) (psk : List ℕ) (old new : State) (xs ys : List HeldRow) (x : Seen) → old.number < length d.aps → x.outcome ≡ Done
    → ((i : ℕ) → IsNamedSta d named i → station_at new.stations i ≡ no_station) → IsTakenWith NoLooks d (rows.Secret named psk) old new xs ys x → HasChanged d named psk old new xs ys x
has_changed d named psk old new xs ys x listed came left w = record {
  number = w.number;
  steps = λ first h stands known.
      (let m = w.steps first h stands known in
      let e = changed d named psk in
      let l = add m.steps.acts h in
      let other : Rekeys d e (λ k. station_at new.stations k ≢ no_station) = other_keys first l m.steps.stands.so_far in
      record {
        steps = record {
          acts = m.steps.acts;
          adds = m.steps.adds;
          waiting = m.steps.waiting;
          came = m.steps.came;
          stands = rekeyed d e first new l other (subst (λ (a : ℕ). a < length d.aps) (sym w.number) listed) m.steps.stands;
        };
        marks = (m.marks.0, rows_changed d (Ap old.number) named psk ys l m.marks.1 (λ k is suite. old_row_gone first h m.steps.acts m.steps.adds k is suite));
      });
  came = came;
}
  where
    other_keys : (first : ℕ) (l : List Act) → StandsSoFar d first new l → Rekeys d (changed d named psk) (λ k. station_at new.stations k ≢ no_station)
    other_keys first l stands =
        let r = changed_rekeys d named psk in
        record {
          seed = r.seed;
          ssid = r.ssid;
          akm = r.akm;
          mdid = r.mdid;
          extras = r.extras;
          aps = r.aps;
          count = r.count;
          macs = r.macs;
          keys = λ k some. elim (cases_Bool (is_named named k)) [
            | inl yes_ ↦ absurd (some (by_listing k yes_ (cases_lt k (length d.stas))))
            | inr no_ ↦ r.keys k no_
          ];
        }
      where
        by_listing : (k : ℕ) → is_named named k ≡ true → (k < length d.stas) ⊎ (length d.stas ≤ k) → station_at new.stations k ≡ no_station
        by_listing k yes_ (inl low) = left k (named_low d named k low yes_)
        by_listing k yes_ (inr past) = stands.listed k past

    old_row_gone : (first : ℕ) (h g : List Act) → rows.Adds (here d first (Ap old.number)) h (rows.Secret named psk) g → (k : ℕ) → IsNamedSta d named k → d.akm ≡ FtPsk → row (own_row d (Ap old.number) (Sta k)).name (add g h) ≡ None
    old_row_gone first h g adds k is suite =
        subst (λ (name : List ℕ). row name (add g h) ≡ None) (name_of_row d old.number k suite) ((ends_at_ap d first old.number h named psk k g is adds).2 suite)

-- An access point revokes the key of a station; with suites 2 and 6 no key holder holds any.
use Rattle.std.proofs.Common.{◌≡◌, ◌≢◌, ℕ, List, [], ◌∷◌, ◌++◌, replicate, refl, sym, ap, subst, ◌∙◌}
use Rattle.domain_base.specs.declared.names.Akm.{Akm}
use Rattle.domain_base.specs.declared.names.Akm.TheVariants.{Psk, PskSha256, FtPsk}
use Rattle.domain_base.specs.declared.names.Node.{Node}
use Rattle.domain_base.specs.declared.names.Node.TheVariants.{Ap, Sta}
use Rattle.key_hierarchy.specs.declared.answers.RevokeAnswer.{RevokeAnswer}
use Rattle.key_hierarchy.specs.declared.answers.RevokeAnswer.TheVariants.{Absent}
use Rattle.run_journal.specs.declared.domain.Domain.{Domain}
use Rattle.run_journal.specs.declared.acts.Outcome.TheVariants.{Done}
use Rattle.run_journal.specs.declared.acts.Act.{Act}
use Rattle.run_journal.specs.declared.acts.Act.TheVariants.{Revoked}
use Rattle.key_holders.specs.declared.rows.HeldRow.{HeldRow}
use Rattle.run_journal.specs.Holders.{row}
use Rattle.domain_rules.specs.Here.{here}
use Rattle.domain_rules.specs.Network.{r0kh_id, root_by, root_at}
use Rattle.domain_rules.specs.FastTransition.{root_name}
use Rattle.domain_rules.specs.KeyHolders.{revoke_answer, revoke_named, revoke_acts_by}
use Rattle.domain_rules.specs.Rows.{NodeEvent, Revoke}
use Rattle.domain_rules.proofs.Parts.{IsApart}
use Rattle.node_base.specs.Events.{Seen, seen}
use Rattle.held_rows.specs.Knows.{KnowsRows}
use Rattle.held_rows.proofs.Leaving.{one_left}
use Rattle.held_rows.proofs.Revoking.{revocation_told, behind_revocation}
use Rattle.ap_node.specs.State.{State}
use Rattle.ap_node.specs.Putting.{row_at, Revokes, RevokesWhere}
use Rattle.ap_node.specs.Stands.{StandsSoFar, Stands}
use Rattle.ap_node.specs.Takes.{Does, RowsOn, IsTakenWith}
use Rattle.ap_node.proofs.Others.{IsSame, far_on}
use Rattle.ap_node.proofs.Standing.{so_far_as_before}
use Rattle.held_rows.specs.Looks.{NoLooks}
use Rattle.ap_node.proofs.Ending.{settled_marked}

-- nothing that is asked of a history is answered otherwise
apart-revoked : (p : Node) (id name : List ℕ) (q : Node) (answer : RevokeAnswer) → IsApart p (Revoked id name q answer)
apart-revoked p id name q answer = record { opens_none = refl; ends_none = refl; accepts_none = λ k. refl; replies_none = λ k. refl; sends_none = λ m. refl; derives_none = refl; finishes_none = refl; closes_none = refl }

pub same-revoked : (id name : List ℕ) (q : Node) (answer : RevokeAnswer) (h : List Act) → IsSame h (Revoked id name q answer ∷ h)
same-revoked id name q answer h = record {
  each = λ p. far_on p (Revoked id name q answer ∷ []) h (apart-revoked p id name q answer, tt) (λ tk. (record { used = λ l. refl; got = λ tid l. refl }, tt));
  draws_are = refl;
  group = record { keys_are = λ x. refl; switches_are = λ x. refl; uses_are = λ x. refl };
}

-- it is as it was, and its key holder has these rows then
stays_with : (d : Domain) (s : State) (event : NodeEvent) (xs ys : List HeldRow) (x : Seen)
    → ((first : ℕ) (h : List Act) → Stands d first s h → KnowsRows d (Ap s.number) xs h → Does (here d first (Ap s.number)) event (StandsSoFar d first s) (RowsOn NoLooks d s.number ys h) h x) → IsTakenWith NoLooks d event s s xs ys x
stays_with d s event xs ys x does = record {
  number = refl;
  steps = λ first h stands known. settled_marked d first event s s (RowsOn NoLooks d s.number ys h) x h refl stands.settled (does first h stands known);
  refused = λ why is. refl;
}

-- ---- with suite 4 the name is that of the PMK-R0 of the station

pub named : (d : Domain) (a sta : ℕ) → d.akm ≡ FtPsk → root_name d (root_at d (Sta sta) (r0kh_id d (Ap a))) (Sta sta) ≡ (row_at d a sta).name
named d a sta suite = ap (λ (akm : Akm). root_name d (root_by akm d (Sta sta) (r0kh_id d (Ap a))) (Sta sta)) suite

pub revoked_is : (d : Domain) (a sta : ℕ) (h : List Act) (answer : RevokeAnswer) → d.akm ≡ FtPsk → answer ≡ revoke_answer (row (row_at d a sta).name h)
    → Revoked (r0kh_id d (Ap a)) (row_at d a sta).name (Sta sta) answer ∷ [] ≡ revoke_acts_by d.akm d (Ap a) h (Sta sta)
revoked_is d a sta h answer suite is =
    ap (λ (x : RevokeAnswer). Revoked (r0kh_id d (Ap a)) (row_at d a sta).name (Sta sta) x ∷ []) is
    ∙ sym (ap (λ (m : List ℕ). revoke_named d (Ap a) h (Sta sta) m ∷ []) (named d a sta suite))
    ∙ sym (ap (λ (akm : Akm). revoke_acts_by akm d (Ap a) h (Sta sta)) suite)

takes_row : (d : Domain) (s : State) (sta : ℕ) (xs ys : List HeldRow) (waited waits : List Act) (act : Act) → d.akm ≡ FtPsk → waits ≡ waited ++ act ∷ [] → Revokes d s.number sta xs ys act → IsTakenWith NoLooks d (Revoke sta) s s xs ys (seen waited waits Done)
takes_row d s sta xs ys waited waits act suite waiting w =
    let n = Ap s.number in
    let id = r0kh_id d n in
    let name = (row_at d s.number sta).name in
    let revoked = Revoked id name (Sta sta) w.answer in
    stays_with d s (Revoke sta) xs ys (seen waited waits Done) (λ first h stands known. record {
      acts = revoked ∷ [];
      row = revoked_is d s.number sta h w.answer suite (w.by_rows ∙ revocation_told d n xs h name known);
      waiting = waiting ∙ ap (λ (e : Act). waited ++ e ∷ []) w.is;
      came = refl;
      stands = so_far_as_before d first s h (revoked ∷ h) (same-revoked id name (Sta sta) w.answer h) stands.so_far;
      marks = ((tt, tt), subst (λ (zs : List HeldRow). KnowsRows d n zs (revoked ∷ h)) (sym w.behind) (behind_revocation d n (Sta sta) xs h id name w.answer known w.by_rows));
    })

-- ---- with suites 2 and 6 there is none

none_held : (akm : Akm) (d : Domain) (n : Node) (h : List Act) (p : Node) → akm ≢ FtPsk → revoke_acts_by akm d n h p ≡ Revoked (r0kh_id d n) (replicate 16 0) p Absent ∷ []
none_held Psk d n h p suite = refl
none_held PskSha256 d n h p suite = refl
none_held FtPsk d n h p suite = absurd (suite refl)

takes_none : (d : Domain) (s : State) (sta : ℕ) (xs ys : List HeldRow) (waited waits : List Act) → d.akm ≢ FtPsk → waits ≡ waited ++ Revoked (r0kh_id d (Ap s.number)) (replicate 16 0) (Sta sta) Absent ∷ [] → ys ≡ xs
    → IsTakenWith NoLooks d (Revoke sta) s s xs ys (seen waited waits Done)
takes_none d s sta xs ys waited waits suite waiting same =
    let n = Ap s.number in
    let id = r0kh_id d n in
    let revoked : Act = Revoked id (replicate 16 0) (Sta sta) Absent in
    stays_with d s (Revoke sta) xs ys (seen waited waits Done) (λ first h stands known. record {
      acts = revoked ∷ [];
      row = sym (none_held d.akm d n h (Sta sta) suite);
      waiting = waiting;
      came = refl;
      stands = so_far_as_before d first s h (revoked ∷ h) (same-revoked id (replicate 16 0) (Sta sta) Absent h) stands.so_far;
      marks = ((tt, tt), subst (λ (zs : List HeldRow). KnowsRows d n zs (revoked ∷ h)) (sym same) (one_left d n xs revoked h refl known));
    })

by_suite : (akm : Akm) (d : Domain) (s : State) (sta : ℕ) (xs ys : List HeldRow) (waited waits : List Act) → d.akm ≡ akm → RevokesWhere akm d s.number sta xs ys waited waits → IsTakenWith NoLooks d (Revoke sta) s s xs ys (seen waited waits Done)
by_suite FtPsk d s sta xs ys waited waits suite w = takes_row d s sta xs ys waited waits w.0 suite w.1 w.2
by_suite Psk d s sta xs ys waited waits suite w = takes_none d s sta xs ys waited waits (λ (e : d.akm ≡ FtPsk). absurd (cc (suite, e))) w.0 w.1
by_suite PskSha256 d s sta xs ys waited waits suite w = takes_none d s sta xs ys waited waits (λ (e : d.akm ≡ FtPsk). absurd (cc (suite, e))) w.0 w.1

pub takes_revoked : (d : Domain) (s : State) (a sta : ℕ) (xs ys : List HeldRow) (waited waits : List Act) → a ≡ s.number → RevokesWhere d.akm d a sta xs ys waited waits → IsTakenWith NoLooks d (Revoke sta) s s xs ys (seen waited waits Done)
takes_revoked d s a sta xs ys waited waits number w =
    by_suite d.akm d s sta xs ys waited waits refl (subst (λ (k : ℕ). RevokesWhere d.akm d k sta xs ys waited waits) number w)

-- A file in which something is wrong is not the journal of its rounds.
use Rattle.std.proofs.Common.{◌≡◌, ◌⊎◌, ℕ, zero, suc, ◌≤◌, List, [], ◌∷◌, length, reverse, Some, sym, subst, ◌∙◌, arith, inl, inr}
use Rattle.std.specs.Prelude.{slice_get, take}
use Rattle.std.specs.List.{AllByRecursion}
use Rattle.std.proofs.lemmas.List.{reverse-reverse}
use Rattle.run_journal.specs.declared.domain.Domain.{Domain}
use Rattle.run_journal.specs.declared.domain.Event.{Event}
use Rattle.run_journal.specs.declared.domain.Event.TheVariants.{Connect, Roam, Deliver, Alter, Cut, Inject, Retry, Rekey, Send, Expire, Revoke, Leave, Secret, Renew, Announce}
use Rattle.run_journal.specs.declared.acts.Entry.{Entry}
use Rattle.run_journal.specs.Events.{IsEventOf}
use Rattle.run_journal.specs.Premises.{In}
use Rattle.run_journal.specs.Safe.{Safe}
use Rattle.domain_rules.specs.Due.{DueInRound, onto}
use Rattle.domain_rules.specs.Explained.{Explained}
use Rattle.domain_rules.specs.HeldRight.{HeldRight}
use Rattle.domain_rules.proofs.Journals.{numbered}
use Rattle.audit_rules.specs.Wrong.{IsSound, IsFine, DiffersAt, WrongAt, FailsRound, first_due}
use Rattle.audit_rules.specs.Files.{told_of, left_after, IsThere, AreInForm, AllInForm, FailsHere, FailsFrom, FailsFile, At_start, Later}
use Rattle.audit_rules.proofs.Dues.{due_explained, due_in_round, one_due_in}
use Rattle.audit_rules.proofs.Files.{onto_whole}
use Rattle.audit_rules.proofs.First.{no_difference, not_broken}
use Rattle.audit_rules.proofs.Going.{start_explained}
use Rattle.audit_rules.proofs.Parts.{fine_in}
use Rattle.audit_rules.proofs.Told.{TellsFrom, Tells, first_rounds, tells, one_list, late_left}

-- ---- events in form

onto_in : (left old : List Entry) (m : Entry) → In m (onto left old) → In m left ⊎ In m old
onto_in [] old m there = inr there
onto_in (e ∷ left) old m there = elim (onto_in left (e ∷ old) m there) [
  | inl a ↦ inl (inr a)
  | inr (inl b) ↦ inl (inl b)
  | inr (inr b) ↦ inr b
]

-- frames of earlier rounds are not among the later entries
there_before : (left old : List Entry) (k number size : ℕ) → ((m : Entry) → In m left → k ≤ m.round) → IsThere (onto left old) k number size → IsThere old k number size
there_before left old k number size late_ (octets, (was, long)) = (
  octets,
  (
    record {
      entry = was.entry;
      there = elim (onto_in left old was.entry was.there) [ inl a ↦ absurd (let high = late_ was.entry a in let less = was.earlier in omega (arith, high, less)) | inr b ↦ b ];
      earlier = was.earlier;
      is = was.is;
      act = was.act;
    },
    long,
  ),
)

module _ (d : Domain) (Then Before : ℕ → ℕ → Type 0) (back : (number size : ℕ) → Then number size → Before number size) where
  event_before : (event : Event) → IsEventOf d Then event → IsEventOf d Before event
  event_before (Connect s a) is = is
  event_before (Roam s a) is = is
  event_before (Deliver number to) is = (is.0, back number zero is.1)
  event_before (Alter number place mask to) is = (is.0, back number (suc place) is.1)
  event_before (Cut number size to) is = (is.0, back number size is.1)
  event_before (Inject to octets) is = is
  event_before (Retry a s) is = is
  event_before (Rekey a) is = is
  event_before (Send from to tid octets) is = is
  event_before (Expire a s) is = is
  event_before (Revoke a s) is = is
  event_before (Leave s) is = is
  event_before (Secret named psk) is = is
  event_before (Renew a s) is = is
  event_before (Announce a octets) is = is

  events_before : (events : List Event) → AllByRecursion (IsEventOf d Then) events → AllByRecursion (IsEventOf d Before) events
  events_before [] all = tt
  events_before (event ∷ events) all = (event_before event all.0, events_before events all.1)

-- ---- a round

at_in : (told : List Entry) (place : ℕ) (e : Entry) → slice_get told place ≡ Some e → In e told
at_in [] place e at = absurd (cc at)
at_in (x ∷ told) zero e at = inl (let same : e ≡ x = cc at in same)
at_in (x ∷ told) (suc place) e at = inr (at_in told place e at)

-- nothing is wrong where what is told is due, and as it has to be
round_fails : (d : Domain) (rounds : List (List Event)) (events : List Event) (old told : List Entry) (place cause : ℕ) → Explained d rounds old → DueInRound d (suc (length rounds)) events old told told
    → ((q : ℕ) (e : Entry) → slice_get told q ≡ Some e → IsFine d (onto told old) e (onto (take q told) old)) → FailsRound d (suc (length rounds)) events old told place cause → ⊥
round_fails d rounds events old told place cause before due fine fails = by fails.first.wrong
  where
    same : fails.due ≡ told
    same = one_due_in d (suc (length rounds)) events old told fails.due told (numbered d rounds old before) fails.is_due due

    by : WrongAt d old told fails.due place cause → ⊥
    by (inl differs) = no_difference told place cause (subst (λ (l : List Entry). DiffersAt told l place cause) same differs)
    by (inr b) = not_broken d (onto told old) b.entry (onto (take place told) old) cause (fine place b.entry b.at) b.breaks

-- ---- from a round on

fails_from : (d : Domain) (done rounds : List (List Event)) (old left j : List Entry) (place cause : ℕ) → onto left old ≡ j → Explained d done old → TellsFrom d (suc (length done)) rounds old left → AllInForm d (suc (length done)) rounds j → HeldRight d j → Safe j
    → FailsFrom d (suc (length done)) rounds old left place cause → ⊥
fails_from d done [] old [] j place cause is before t form held safe fails = fails
fails_from d done [] old (e ∷ left) j place cause is before t form held safe fails = cc t
fails_from d done (events ∷ rounds) old left j place cause is before (due, rest) (form, forms) held safe fails =
    by (λ later a. fails_from d (events ∷ done) rounds (onto (told_of (suc (length done)) left) old) (left_after (suc (length done)) left) j later cause whole_is next rest forms held safe a) fails
  where
    whole_is : onto (left_after (suc (length done)) left) (onto (told_of (suc (length done)) left) old) ≡ j
    whole_is = onto_whole (suc (length done)) left old ∙ is

    in_form : AreInForm d old (suc (length done)) events
    in_form = events_before d (IsThere j (suc (length done))) (IsThere old (suc (length done)))
        (λ number size there. there_before left old (suc (length done)) number size (λ m a. late_left d (suc (length done)) (events ∷ rounds) old left m (due, rest) a) (subst (λ (l : List Entry). IsThere l (suc (length done)) number size) (sym is) there))
        events form

    next : Explained d (events ∷ done) (onto (told_of (suc (length done)) left) old)
    next = due_explained d done events old (told_of (suc (length done)) left) before due

    fine : (q : ℕ) (e : Entry) → slice_get (told_of (suc (length done)) left) q ≡ Some e → IsFine d (onto (told_of (suc (length done)) left) old) e (onto (take q (told_of (suc (length done)) left)) old)
    fine q e at = fine_in d (told_of (suc (length done)) left) (left_after (suc (length done)) left) old q e (subst (λ (l : List Entry). HeldRight d l) (sym whole_is) held) (subst Safe (sym whole_is) safe) at
        (λ m a.
        (let high : suc (suc (length done)) ≤ m.round = late_left d (suc (suc (length done))) rounds (onto (told_of (suc (length done)) left) old) (left_after (suc (length done)) left) m rest a in
        let here_ : e.round ≡ (suc (length done)) = due_in_round d (suc (length done)) events old (told_of (suc (length done)) left) (told_of (suc (length done)) left) e due (at_in (told_of (suc (length done)) left) q e at) in
        omega (arith, high, here_)))

    here_fails : FailsHere d (suc (length done)) events old left place cause → ⊥
    here_fails (inl a) = a.0 in_form
    here_fails (inr a) = round_fails d done events old (told_of (suc (length done)) left) place cause before due fine a.1

    by : ((later : ℕ) → FailsFrom d (suc (suc (length done))) rounds (onto (told_of (suc (length done)) left) old) (left_after (suc (length done)) left) later cause → ⊥) → FailsFrom d (suc (length done)) (events ∷ rounds) old left place cause → ⊥
    by later_ones (inl a) = here_fails a
    by later_ones (inr (meets, (later, (size, a)))) = later_ones later a

-- ---- a file

pub fails_file : (d : Domain) (rounds : List (List Event)) (entries : List Entry) (place cause : ℕ) → AllInForm d 1 rounds (onto entries []) → FailsFile d rounds entries place cause → IsSound d (reverse rounds) (onto entries []) → ⊥
fails_file d rounds entries place cause form fails s = by fails
  where
    w : (found : List Entry) × ((onto entries [] ≡ onto found []) × Tells d (reverse (reverse rounds)) found)
    w = tells d (reverse rounds) (onto entries []) s.explained

    t : Tells d rounds entries
    t = subst (λ (l : List Entry). Tells d rounds l) (sym (one_list entries w.0 w.1.0)) (subst (λ (r : List (List Event)). Tells d r w.0) (reverse-reverse rounds) w.1.1)

    whole_is : onto (left_after 0 entries) (onto (told_of 0 entries) []) ≡ onto entries []
    whole_is = onto_whole 0 entries []

    fine : (q : ℕ) (e : Entry) → slice_get (told_of 0 entries) q ≡ Some e → IsFine d (onto (told_of 0 entries) []) e (onto (take q (told_of 0 entries)) [])
    fine q e at = fine_in d (told_of 0 entries) (left_after 0 entries) [] q e (subst (λ (l : List Entry). HeldRight d l) (sym whole_is) s.held) (subst Safe (sym whole_is) s.safe) at
        (λ m a.
        (let high : 1 ≤ m.round = late_left d 1 rounds (onto (told_of 0 entries) []) (left_after 0 entries) m t.later a in
        let here_ : e.round ≡ 0 = first_rounds d e (subst (λ (l : List Entry). In e l) t.first (at_in (told_of 0 entries) q e at)) in
        omega (arith, high, here_)))

    first_fails : WrongAt d [] (told_of 0 entries) (first_due d) place cause → ⊥
    first_fails (inl differs) = no_difference (first_due d) place cause (subst (λ (l : List Entry). DiffersAt l (first_due d) place cause) t.first differs)
    first_fails (inr b) = not_broken d (onto (told_of 0 entries) []) b.entry (onto (take place (told_of 0 entries)) []) cause (fine place b.entry b.at) b.breaks

    by : FailsFile d rounds entries place cause → ⊥
    by (At_start first) = first_fails first.wrong
    by (Later later right size a) =
        fails_from d [] rounds (onto (told_of 0 entries) []) (left_after 0 entries) (onto entries []) later cause whole_is (start_explained d (told_of 0 entries) t.first) t.later form s.held s.safe a

-- A reassociation request and the fast transitions of an access point with a station.
use Rattle.std.proofs.Common.{◌≡◌, ◌∙◌, ℕ, Bool, true, false, cond, List, [], ◌∷◌, ◌++◌, Option, Some, None, refl, sym, ap, subst, arith}
use Rattle.std.specs.Prelude.{◌==◌, ◌||◌, take, is_some, if◌then◌else◌}
use Rattle.std.specs.List.{AllByRecursion}
use Rattle.domain_base.specs.declared.names.Node.{Node}
use Rattle.domain_base.specs.declared.names.Node.TheVariants.{Ap, Sta}
use Rattle.domain_base.specs.declared.names.Peer.TheVariants.{One}
use Rattle.rsn_elements.specs.Elements.{ElementFields}
use Rattle.run_journal.specs.declared.domain.Domain.{Domain}
use Rattle.run_journal.specs.declared.acts.Kind.TheVariants as kind
use Rattle.run_journal.specs.declared.acts.Reason.TheVariants as reason
use Rattle.run_journal.specs.declared.acts.Outcome.{Outcome}
use Rattle.run_journal.specs.declared.acts.Outcome.TheVariants.{Refused}
use Rattle.run_journal.specs.declared.acts.Seal.{Seal}
use Rattle.run_journal.specs.declared.acts.Part.TheVariants.{Session}
use Rattle.run_journal.specs.declared.acts.Key.TheVariants.{Pairwise}
use Rattle.run_journal.specs.declared.acts.Act.{Act}
use Rattle.run_journal.specs.declared.acts.Act.TheVariants.{Closed, Took, Sent, Installed, Finished}
use Rattle.run_journal.specs.declared.reply.Reply.{Reply}
use Rattle.run_journal.specs.declared.reply.Keyed.{Keyed}
use Rattle.run_journal.specs.Replies.{IsEmpty, IsWhole}
use Rattle.run_journal.specs.Questions.{attempt, session, add}
use Rattle.domain_rules.specs.Network.{Root, root_at}
use Rattle.domain_rules.specs.Here.{here}
use Rattle.domain_rules.specs.Reading.{Management, Managed}
use Rattle.domain_rules.specs.Replies.{inputs_by, replaced_acts, installed_acts, finished_acts}
use Rattle.domain_rules.specs.Rows.{TakeRow}
use Rattle.domain_rules.specs.TransitionKeys.{Transition, transition, session_transition, judged, re_req_covered, re_req_mic, re_req_verdict}
use Rattle.domain_rules.proofs.Parts.{same-refl, attempt_ends, attempt_none}
use Rattle.domain_rules.proofs.Refused.{refused_first}
use Rattle.group_key.specs.declared.news.News.{News}
use Rattle.group_key.specs.News.{IsNewest}
use Rattle.ft_exchange.specs.Comes.{IsManagementFrom}
use Rattle.ft_exchange.specs.State.{TargetState}
use Rattle.ft_exchange.specs.Stands.{PendingStands}
use Rattle.ft_exchange.specs.TargetSteps.{ReassocSteps, HasInstalled, IsReassocTaken}
use Rattle.ft_exchange.specs.Told.{Came, came, taken_seal, sent_seal, sent_octets, transition_sent, reassoc_request_acts}
use Rattle.ft_exchange.proofs.StationRows.{first_kind}
use Rattle.ft_exchange.proofs.TargetReassocs.{adds_refusal}
use Rattle.ft_exchange.proofs.TargetStanding.{Passes, took_passes}
use Rattle.targets.specs.declared.moves.Moves.{Moves}
use Rattle.targets.specs.declared.taken.Taken.{Taken}
use Rattle.targets.specs.State.{no_moves, without_pending, means_held, meant, id_of}
use Rattle.targets.specs.Stands.{HeldStands, IsOther, HasMoves}
use Rattle.targets.specs.Steps.{Request, put_back, IsUnawaited, ByHeld, ByPending, IsMovedBy, IsMoved, HasMoved, ReassocMoves, ReassocTaken}
use Rattle.targets.proofs.Passing.{moves_add}
use Rattle.targets.proofs.Beginning.{no_attempt}
use Rattle.targets.proofs.Choosing.{chosen, none_meant}
use Rattle.targets.proofs.Authing.{sent_pass, the_moves, same_moves}

-- ---- its acts

abbrev acts_by : Domain → Root → Node → Node → Bool → Came → Option (List ℕ) → Option Keyed → List Act → List Act
acts_by d root n p had t v y l =
    Took (Some p) t.octets kind.ReReq t.outcome (taken_seal (re_req_covered d n p t.fields) v) ∷ replaced_acts p had y ++ installed_acts d root n p y ++ finished_acts d root n p y ++ l

-- where no key is installed they begin and end nothing
quiet_pass : (d : Domain) (root : Root) (n p : Node) (had : Bool) (t : Came) (v : Option (List ℕ)) (l : List Act) → AllByRecursion (Passes p) l → AllByRecursion (Passes p) (acts_by d root n p had t v None l)
quiet_pass d root n p true t v l all = (took_passes p (Some p) t.octets kind.ReReq t.outcome _, all)
quiet_pass d root n p false t v l all = (took_passes p (Some p) t.octets kind.ReReq t.outcome _, all)

reassoc_pass : (d : Domain) (root : Root) (n p : Node) (had : Bool) (t : Came) (r : Reply) → r.installed ≡ None → AllByRecursion (Passes p) (reassoc_request_acts d root n p had t r)
reassoc_pass d root n p had t r none =
    subst (λ (y : Option Keyed). AllByRecursion (Passes p) (acts_by d root n p had t r.verified y (transition_sent d n p r))) (sym none) (quiet_pass d root n p had t r.verified (transition_sent d n p r) (sent_pass d n p p r))

-- where one is installed the attempt is at its end
sent_none : (d : Domain) (n p : Node) (r : Reply) (h : List Act) → attempt p h ≡ None → attempt p (add (transition_sent d n p r) h) ≡ None
sent_none d n p r h none = by (r.len == 0)
  where
    by : (b : Bool) → attempt p (add (cond b [] (sent_octets d n p r (take r.len r.octets))) h) ≡ None
    by true = none
    by false = attempt_none p (Sent (One p) r.kind (take r.len r.octets) (sent_seal d n p r.kind r.sealed (take r.len r.octets))) h refl none

finished_sent : (d : Domain) (root : Root) (n : Node) (sta : ℕ) (y : Keyed) (r : Reply) (h : List Act) → attempt (Sta sta) (add (transition_sent d n (Sta sta) r) (Finished (Sta sta) (inputs_by d root n (Sta sta) y) ∷ h)) ≡ None
finished_sent d root n sta y r h =
    sent_none d n (Sta sta) r (Finished (Sta sta) (inputs_by d root n (Sta sta) y) ∷ h) (attempt_ends (Sta sta) (Finished (Sta sta) (inputs_by d root n (Sta sta) y)) h refl (same-refl (Sta sta)))

ended_by : (d : Domain) (root : Root) (n : Node) (sta : ℕ) (had : Bool) (t : Came) (v : Option (List ℕ)) (y : Keyed) (r : Reply) (h : List Act)
    → attempt (Sta sta) (add (acts_by d root n (Sta sta) had t v (Some y) (transition_sent d n (Sta sta) r)) h) ≡ None
ended_by d root n sta true t v y r h = finished_sent d root n sta y r
    (Installed (One (Sta sta)) (Pairwise y.ptk.tk (inputs_by d root n (Sta sta) y)) ∷ Closed (Sta sta) Session ∷ Took (Some (Sta sta)) t.octets kind.ReReq t.outcome (taken_seal (re_req_covered d n (Sta sta) t.fields) v) ∷ h)
ended_by d root n sta false t v y r h = finished_sent d root n sta y r
    (Installed (One (Sta sta)) (Pairwise y.ptk.tk (inputs_by d root n (Sta sta) y)) ∷ Took (Some (Sta sta)) t.octets kind.ReReq t.outcome (taken_seal (re_req_covered d n (Sta sta) t.fields) v) ∷ h)

reassoc_ends : (d : Domain) (root : Root) (n : Node) (sta : ℕ) (had : Bool) (t : Came) (r : Reply) (y : Keyed) (h : List Act) → r.installed ≡ Some y → attempt (Sta sta) (add (reassoc_request_acts d root n (Sta sta) had t r) h) ≡ None
reassoc_ends d root n sta had t r y h some =
    subst (λ (z : Option Keyed). attempt (Sta sta) (add (acts_by d root n (Sta sta) had t r.verified z (transition_sent d n (Sta sta) r)) h) ≡ None) (sym some) (ended_by d root n sta had t r.verified y r h)

-- ---- for no fast transition

none_sealed : (c : Option (List ℕ)) → taken_seal c None ≡ None
none_sealed None = refl
none_sealed (Some input) = refl

nothing_done : (d : Domain) (root : Root) (n p : Node) (had : Bool) (octets : List ℕ) (e : ElementFields) → acts_by d root n p had (came octets e (Refused reason.Unawaited)) None None [] ≡ Took (Some p) octets kind.ReReq (Refused reason.Unawaited) None ∷ []
nothing_done d root n p true octets e = ap (λ (z : Option Seal). Took (Some p) octets kind.ReReq (Refused reason.Unawaited) z ∷ []) (none_sealed (re_req_covered d n p e))
nothing_done d root n p false octets e = ap (λ (z : Option Seal). Took (Some p) octets kind.ReReq (Refused reason.Unawaited) z ∷ []) (none_sealed (re_req_covered d n p e))

unawaited_acts : (d : Domain) (root : Root) (n p : Node) (had : Bool) (octets : List ℕ) (e : ElementFields) (o : Outcome) (r : Reply) → IsUnawaited o r
    → reassoc_request_acts d root n p had (came octets e o) r ≡ Took (Some p) octets kind.ReReq (Refused reason.Unawaited) None ∷ []
unawaited_acts d root n p had octets e o r f =
    ap (λ (z : Outcome). reassoc_request_acts d root n p had (came octets e z) r) f.outcome_is
    ∙ ap (λ (z : Option (List ℕ)). acts_by d root n p had (came octets e (Refused reason.Unawaited)) z r.installed (transition_sent d n p r)) f.empty.verified
    ∙ ap (λ (z : Option Keyed). acts_by d root n p had (came octets e (Refused reason.Unawaited)) None z (transition_sent d n p r)) f.empty.installed
    ∙ ap (λ (b : Bool). acts_by d root n p had (came octets e (Refused reason.Unawaited)) None None (cond b [] (sent_octets d n p r (take r.len r.octets)))) (ap (λ (k : ℕ). k == 0) f.empty.len)
    ∙ nothing_done d root n p had octets e

unawaited_verdict : (d : Domain) (n p : Node) (h : List Act) (e : ElementFields) → transition p h ≡ None → session_transition p h ≡ None → re_req_verdict d n h p e ≡ Refused reason.Unawaited
unawaited_verdict d n p h e none nothing =
    ap (λ (o : Option Transition). if is_some o || is_some (session_transition p h) then re_req_mic d n p e (judged p h e) else Refused reason.Unawaited) none
    ∙ ap (λ (o : Option Transition). if is_some o then re_req_mic d n p e (judged p h e) else Refused reason.Unawaited) nothing

pub unawaited_moves : (q : Request) (news : News) (had : Bool) (old new : Moves) (t : Taken) (r : Reply) → t.key ≡ r.installed → meant q.fields old ≡ None → new ≡ old → IsUnawaited t.outcome r
    → ReassocMoves q news had old new t r (reassoc_request_acts q.domain (root_at q.domain (Sta q.sta) (id_of (meant q.fields old))) (Ap q.ap) (Sta q.sta) had (came q.octets q.fields t.outcome) r)
unawaited_moves q news had old new t r key none same f = record {
  key = key;
  says = refl;
  refused = λ why is. same;
  steps = λ first b h has from is had_is newest.
      (let nothing = none_meant q.fields old none in
      let one : PendingStands q.domain n p None h = subst (λ (o : Option TargetState). PendingStands q.domain n p o h) nothing.0 has.pending in
      let other : HeldStands q.domain n p None h = subst (λ (o : Option TargetState). HeldStands q.domain n p o h) nothing.1 has.held in
      record {
        adds = subst (λ (l : List Act). TakeRow (here q.domain first n) h q.octets l) (sym (unawaited_acts q.domain root n p had q.octets q.fields t.outcome r f))
            (adds_refusal q.domain first q.ap q.sta q.octets b q.fields h reason.Unawaited None from is
            (refused_first q.domain first n h (Managed b q.fields) reason.Unawaited (first_kind q.domain first n p q.octets b q.fields h kind.ReReq from is ∙ unawaited_verdict q.domain n p h q.fields one other)));
        stands = subst (λ (m : Moves). HasMoves q.domain n p m (add (reassoc_request_acts q.domain root n p had (came q.octets q.fields t.outcome) r) h)) (sym same)
            (moves_add q.domain n p old (reassoc_request_acts q.domain root n p had (came q.octets q.fields t.outcome) r) h (reassoc_pass q.domain root n p had (came q.octets q.fields t.outcome) r f.empty.installed) has);
        moved = subst (λ (y : Option Keyed). HasMoved y old new) (sym f.empty.installed) same;
      });
}
  where
    n : Node
    n = Ap q.ap

    p : Node
    p = Sta q.sta

    root : Root
    root = root_at q.domain (Sta q.sta) (id_of (meant q.fields old))

-- ---- for one of them

-- the row of the event is that of the target that is meant
reassoc_adds : (q : Request) (news : News) (old : Moves) (s t : TargetState) (o : Outcome) (r : Reply) → meant q.fields old ≡ Some s → IsReassocTaken q.fields news s t o r → (had : Bool) (first : ℕ) (b : Management) (h : List Act)
    → HasMoves q.domain (Ap q.ap) (Sta q.sta) old h → IsManagementFrom q.domain (Ap q.ap) (Sta q.sta) q.octets b q.fields → b.kind ≡ kind.ReReq → is_some (session (Sta q.sta) h) ≡ had
    → IsNewest q.domain news h
    → ReassocSteps (here q.domain first (Ap q.ap)) (Sta q.sta) q.octets (reassoc_request_acts q.domain (root_at q.domain (Sta q.sta) (id_of (meant q.fields old))) (Ap q.ap) (Sta q.sta) had (came q.octets q.fields o) r) t h
reassoc_adds q news old s t o r is_meant f had first b h has from is had_is newest =
    subst (λ (x : Option TargetState). ReassocSteps (here q.domain first (Ap q.ap)) (Sta q.sta) q.octets (reassoc_request_acts q.domain (root_at q.domain (Sta q.sta) (id_of x)) (Ap q.ap) (Sta q.sta) had (came q.octets q.fields o) r) t h) (sym is_meant)
    (subst (λ (x : Bool). ReassocSteps (here q.domain first (Ap q.ap)) (Sta q.sta) q.octets (reassoc_request_acts q.domain (root_at q.domain (Sta q.sta) s.r0kh_id) (Ap q.ap) (Sta q.sta) x (came q.octets q.fields o) r) t h) had_is
    (f.steps q.domain first q.ap q.sta q.octets b h (chosen q.domain q.ap (Sta q.sta) q.fields old s h has is_meant) from is newest))

-- no key is installed
quiet_moves : (q : Request) (news : News) (had : Bool) (old new : Moves) (t : Taken) (r : Reply) (s u : TargetState) → t.key ≡ r.installed → meant q.fields old ≡ Some s → IsReassocTaken q.fields news s u t.outcome r
    → (u ≡ s → new ≡ old) → ((h : List Act) → HasMoves q.domain (Ap q.ap) (Sta q.sta) old h → (r.installed ≡ None) × (u ≡ s))
    → ReassocMoves q news had old new t r (reassoc_request_acts q.domain (root_at q.domain (Sta q.sta) (id_of (meant q.fields old))) (Ap q.ap) (Sta q.sta) had (came q.octets q.fields t.outcome) r)
quiet_moves q news had old new t r s u key is_meant f same quiet = record {
  key = key;
  says = refl;
  refused = λ why is. same (f.refused why is).0;
  steps = λ first b h has from is had_is newest.
      (let k = quiet h has in
      record {
        adds = (reassoc_adds q news old s u t.outcome r is_meant f had first b h has from is had_is newest).adds;
        stands = subst (λ (m : Moves). HasMoves q.domain (Ap q.ap) (Sta q.sta) m (add (reassoc_request_acts q.domain root (Ap q.ap) (Sta q.sta) had (came q.octets q.fields t.outcome) r) h)) (sym (same k.1))
            (moves_add q.domain (Ap q.ap) (Sta q.sta) old (reassoc_request_acts q.domain root (Ap q.ap) (Sta q.sta) had (came q.octets q.fields t.outcome) r) h (reassoc_pass q.domain root (Ap q.ap) (Sta q.sta) had (came q.octets q.fields t.outcome) r k.0) has);
        moved = subst (λ (y : Option Keyed). HasMoved y old new) (sym k.0) (same k.1);
      });
}
  where
    root : Root
    root = root_at q.domain (Sta q.sta) (id_of (meant q.fields old))

-- the key of the attempt is installed
installing_moves : (q : Request) (news : News) (had : Bool) (old new : Moves) (t : Taken) (r : Reply) (s u : TargetState) (y : Keyed) → t.key ≡ r.installed → meant q.fields old ≡ Some s → IsReassocTaken q.fields news s u t.outcome r → r.installed ≡ Some y
    → u.is_installed ≡ true → u.key ≡ y → new ≡ the_moves None (Some u)
    → ReassocMoves q news had old new t r (reassoc_request_acts q.domain (root_at q.domain (Sta q.sta) (id_of (meant q.fields old))) (Ap q.ap) (Sta q.sta) had (came q.octets q.fields t.outcome) r)
installing_moves q news had old new t r s u y key is_meant f some held key_is same = record {
  key = key;
  says = refl;
  refused = λ why is. absurd (let none : None ≡ Some y = sym (f.refused why is).1 ∙ some in cc none);
  steps = λ first b h has from is had_is newest.
      (let st = reassoc_adds q news old s u t.outcome r is_meant f had first b h has from is had_is newest in
      let after : List Act = add (reassoc_request_acts q.domain (root_at q.domain p (id_of (meant q.fields old))) (Ap q.ap) p had (came q.octets q.fields t.outcome) r) h in
      let none : attempt p after ≡ None = reassoc_ends q.domain (root_at q.domain (Sta q.sta) (id_of (meant q.fields old))) (Ap q.ap) q.sta had (came q.octets q.fields t.outcome) r y h some in
      let stands : HasMoves q.domain (Ap q.ap) p (the_moves None (Some u)) after = record {
        pending = no_attempt p after none;
        held = (held, st.stands);
        other = subst (λ (o : Option (List Act)). IsOther None o) (sym none) tt;
      } in
      record {
        adds = st.adds;
        stands = subst (λ (m : Moves). HasMoves q.domain (Ap q.ap) p m after) (sym same) stands;
        moved = subst (λ (z : Option Keyed). HasMoved z old new) (sym some) (u, same, key_is);
      });
}
  where
    p : Node
    p = Sta q.sta

-- ---- all ways

abbrev Says : Request → News → Bool → Moves → Moves → Taken → Reply → Type 0
Says q news had old new t r =
    ReassocMoves q news had old new t r (reassoc_request_acts q.domain (root_at q.domain (Sta q.sta) (id_of (meant q.fields old))) (Ap q.ap) (Sta q.sta) had (came q.octets q.fields t.outcome) r)

meant_is : (e : ElementFields) (m : Moves) (b : Bool) → means_held e m ≡ b → meant e m ≡ cond b m.held m.pending
meant_is e m b is = ap (λ (x : Bool). cond x m.held m.pending) is

-- the session's takes it: it stays as it is
held_installs : (s u : TargetState) (y : Option Keyed) → s.is_installed ≡ true → HasInstalled y s u → (y ≡ None) × (u ≡ s)
held_installs s u None holds same = (refl, same)
held_installs s u (Some y) holds new = absurd (let both : true ≡ false = sym holds ∙ new.0 in cc both)

held_moves : (q : Request) (news : News) (had : Bool) (old new : Moves) (t : Taken) (r : Reply) (o : Option TargetState) → t.key ≡ r.installed → meant q.fields old ≡ o → old.held ≡ o → new.pending ≡ old.pending
    → ByHeld q.fields news o new.held t.outcome r → Says q news had old new t r
held_moves q news had old new t r None key is_meant at beside f = unawaited_moves q news had old new t r key is_meant (same_moves new old beside (f.0 ∙ sym at)) f.1
held_moves q news had old new t r (Some s) key is_meant at beside f = quiet_moves q news had old new t r s f.0 key is_meant f.2
    (λ same. same_moves new old beside (f.1 ∙ ap (λ (x : TargetState). Some x) same ∙ sym at))
    (λ h has. (let st : HeldStands q.domain (Ap q.ap) (Sta q.sta) (Some s) h = subst (λ (x : Option TargetState). HeldStands q.domain (Ap q.ap) (Sta q.sta) x h) at has.held in held_installs s f.0 r.installed st.0 f.2.became))

pending_moves : (q : Request) (news : News) (had : Bool) (old new : Moves) (t : Taken) (r : Reply) (o : Option TargetState) → t.key ≡ r.installed → meant q.fields old ≡ o → old.pending ≡ o
    → ByPending q.fields news o old new t.outcome r → Says q news had old new t r
pending_moves q news had old new t r None key is_meant at f = unawaited_moves q news had old new t r key is_meant f.0 f.1
pending_moves q news had old new t r (Some s) key is_meant at f = by r.installed refl f.2.became
  where
    back : (y : Option Keyed) → r.installed ≡ y → new ≡ put_back f.0 (is_some y) (without_pending old)
    back y is = f.1 ∙ ap (λ (x : Option Keyed). put_back f.0 (is_some x) (without_pending old)) is

    by : (y : Option Keyed) → r.installed ≡ y → HasInstalled y s f.0 → Says q news had old new t r
    by None is same = quiet_moves q news had old new t r s f.0 key is_meant f.2
        (λ it. back None is ∙ same_moves (the_moves (Some f.0) old.held) old (ap (λ (x : TargetState). Some x) it ∙ sym at) refl) (λ h has. (is, same))
    by (Some y) is has = installing_moves q news had old new t r s f.0 y key is_meant f.2 is has.1 has.2 (back (Some y) is)

pub reassoc_moves : (q : Request) (news : News) (had : Bool) (old new : Moves) (t : Taken) (r : Reply) → t.key ≡ r.installed → IsMoved q.fields news old new t.outcome r
    → ReassocMoves q news had old new t r (reassoc_request_acts q.domain (root_at q.domain (Sta q.sta) (id_of (meant q.fields old))) (Ap q.ap) (Sta q.sta) had (came q.octets q.fields t.outcome) r)
reassoc_moves q news had old new t r key f = by (means_held q.fields old) refl f.by_meant
  where
    by : (b : Bool) → means_held q.fields old ≡ b → IsMovedBy b q.fields news old new t.outcome r → Says q news had old new t r
    by true is x = held_moves q news had old new t r old.held key (meant_is q.fields old true is) refl x.0 x.1
    by false is x = pending_moves q news had old new t r old.pending key (meant_is q.fields old false is) refl x

-- what came of it is told by that reply
pub reassoc_taken : (q : Request) (news : News) (had : Bool) (before mid after : List Act) (old new : Moves) (o : Outcome) (t : Taken) (r : Reply) → t.outcome ≡ o → t.key ≡ r.installed → mid ≡ before
    → after ≡ mid ++ reassoc_request_acts q.domain (root_at q.domain (Sta q.sta) (id_of (meant q.fields old))) (Ap q.ap) (Sta q.sta) had (came q.octets q.fields t.outcome) r
    → IsMoved q.fields news old new o r → ReassocTaken q news had before after old new t
reassoc_taken q news had before mid after old new o t r outcome key same adds f = record {
  reply = r;
  acts = acts;
  adds = adds ∙ ap (λ (l : List Act). l ++ acts) same;
  moves = reassoc_moves q news had old new t r key (subst (λ (x : Outcome). IsMoved q.fields news old new x r) (sym outcome) f);
}
  where
    acts : List Act
    acts = reassoc_request_acts q.domain (root_at q.domain (Sta q.sta) (id_of (meant q.fields old))) (Ap q.ap) (Sta q.sta) had (came q.octets q.fields t.outcome) r

-- the reply is whole
empty_whole : (r : Reply) → IsEmpty r → IsWhole r
empty_whole r x = record { few = omega (arith, x.len); sealed = λ kck some. (let none : None ≡ Some kck = sym x.sealed ∙ some in cc) }

whole_held : (e : ElementFields) (news : News) (o new : Option TargetState) (came_ : Outcome) (r : Reply) → ByHeld e news o new came_ r → IsWhole r
whole_held e news None new came_ r f = empty_whole r f.1.empty
whole_held e news (Some s) new came_ r f = f.2.whole

whole_pending : (e : ElementFields) (news : News) (o : Option TargetState) (old new : Moves) (came_ : Outcome) (r : Reply) → ByPending e news o old new came_ r → IsWhole r
whole_pending e news None old new came_ r f = empty_whole r f.1.empty
whole_pending e news (Some s) old new came_ r f = f.2.whole

pub moved_whole : (e : ElementFields) (news : News) (old new : Moves) (came_ : Outcome) (r : Reply) → IsMoved e news old new came_ r → IsWhole r
moved_whole e news old new came_ r f = by (means_held e old) f.by_meant
  where
    by : (b : Bool) → IsMovedBy b e news old new came_ r → IsWhole r
    by true x = whole_held e news old.held new.held came_ r x.1
    by false x = whole_pending e news old.pending old new came_ r x

-- where there is none, no key is installed, and there is none then
none_held : (e : ElementFields) (news : News) (new : Moves) (came_ : Outcome) (r : Reply) → new.pending ≡ None → ByHeld e news None new.held came_ r → (r.installed ≡ None) × (new ≡ no_moves)
none_held e news new came_ r pending f = (f.1.empty.installed, same_moves new no_moves pending f.0)

none_moved : (e : ElementFields) (news : News) (new : Moves) (came_ : Outcome) (r : Reply) → IsMovedBy true e news no_moves new came_ r → (r.installed ≡ None) × (new ≡ no_moves)
none_moved e news new came_ r x = none_held e news new came_ r x.0 x.1

pub none_taken : (e : ElementFields) (news : News) (old new : Moves) (came_ : Outcome) (r : Reply) (key : Option Keyed) → old ≡ no_moves → key ≡ r.installed → IsMoved e news old new came_ r → (key ≡ None) × (new ≡ no_moves)
none_taken e news old new came_ r key none is f =
    let at = none_moved e news new came_ r (subst (λ (m : Moves). IsMoved e news m new came_ r) none f).by_meant in
    (is ∙ at.0, at.1)

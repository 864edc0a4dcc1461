-- What the frames of fast transition do to the keys of an access point: the pairwise key that a reassociation request installs, the group
-- keys, the rows of its key holder, and what there is with other stations.
use Rattle.std.proofs.Common.{◌≡◌, ◌∙◌, ℕ, ◌+◌, Bool, true, false, cond, List, [], ◌∷◌, ◌++◌, Option, Some, None, refl, sym, ap, subst, take, arith}
use Rattle.std.specs.Prelude.{◌==◌, bytes_eq, option_and_then, option_map}
use Rattle.std.specs.List.{AllByRecursion}
use Rattle.std.proofs.lemmas.List.{get_or-replicate}
use Rattle.std.proofs.lemmas.Slice.Eq.{bytes_eq-Decides}
use Rattle.domain_base.specs.declared.names.Akm.TheVariants.{FtPsk}
use Rattle.domain_base.specs.declared.names.Node.{Node}
use Rattle.domain_base.specs.declared.names.Node.TheVariants.{Sta}
use Rattle.domain_base.specs.declared.names.Peer.TheVariants.{One}
use Rattle.key_hierarchy.specs.declared.answers.PullAnswer.{PullAnswer}
use Rattle.key_hierarchy.specs.declared.inputs.Inputs.{Inputs}
use Rattle.key_hierarchy.specs.declared.inputs.Ptk.{Ptk}
use Rattle.run_journal.specs.declared.domain.Domain.{Domain}
use Rattle.run_journal.specs.declared.acts.Kind.TheVariants as kind
use Rattle.run_journal.specs.declared.acts.Key.TheVariants.{Pairwise}
use Rattle.run_journal.specs.declared.acts.Act.{Act}
use Rattle.run_journal.specs.declared.acts.Act.TheVariants.{Took, Installed, Finished}
use Rattle.run_journal.specs.declared.reply.Reply.{Reply}
use Rattle.run_journal.specs.declared.reply.Keyed.{Keyed}
use Rattle.run_journal.specs.declared.acts.GroupKind.{GroupKind}
use Rattle.run_journal.specs.declared.acts.GroupKind.TheVariants as groups
use Rattle.run_journal.specs.Acts.{same, key_drawn, switched, uses_all, Derivation}
use Rattle.run_journal.specs.Questions.{attempt, session, group_keys, draws, add}
use Rattle.run_journal.specs.Holders.{before_finished}
use Rattle.domain_rules.specs.Network.{Root}
use Rattle.domain_rules.specs.Asking.{start_of, is_by_roam, in_renewal}
use Rattle.domain_rules.proofs.Starts.{roam_no_four_way, roam_no_renewal}
use Rattle.domain_rules.specs.Counters.{first_in_session, next_in_session}
use Rattle.domain_rules.specs.FastTransition.{single}
use Rattle.domain_rules.specs.Replies.{inputs_by, derived_acts, replaced_acts, installed_acts, finished_acts}
use Rattle.domain_rules.specs.TransitionKeys.{Transition, made_of, transition_in, transition, session_transition, Asked, asked, re_req_covered}
use Rattle.domain_rules.specs.TransitionRows.{looked_by, looked_for}
use Rattle.domain_rules.proofs.Parts.{same-refl, attempt_ends, draws_add, add_append}
use Rattle.group_key.specs.declared.keys.GroupKey.{GroupKey}
use Rattle.group_key.specs.Holds.{IsLast}
use Rattle.act_memory.proofs.RepliedActs.{all_joined}
use Rattle.data_frames.specs.Holding.{HoldsPairwise, LeavesPairwise}
use Rattle.data_frames.proofs.Standing.{others}
use Rattle.held_rows.specs.Knows.{moves_rows, LeaveRows}
use Rattle.ft_exchange.specs.Stands.{transition_of, IsHeld}
use Rattle.ft_exchange.specs.Told.{Came, taken_seal, sent_octets, transition_sent, begun_acts, auth_request_acts, reassoc_request_acts}
use Rattle.targets.specs.declared.moves.Moves.{Moves}
use Rattle.targets.specs.Stands.{HeldStands, HasMoves}
use Rattle.targets.specs.Steps.{HasMoved}
use Rattle.targets.proofs.Beginning.{held_session}
use Rattle.targets.proofs.Others.{auth_apart, reassoc_apart, drawn_for, auth_draws, reassoc_draws}
use Rattle.targets.proofs.Passing.{installed}
use Rattle.authenticator.specs.Begins.{IsTransferred}
use Rattle.authenticator.specs.Kinds.{kinds}
use Rattle.authenticator.specs.State.{State as Part}
use Rattle.authenticator.specs.Stands.{IsNoConnect, AuthenticatorStands}
use Rattle.authenticator.specs.declared.attempt.Attempt.{Attempt}
use Rattle.ft_exchange.specs.State.{TargetState}
use Rattle.ap_node.specs.declared.station.Station.{Station}
use Rattle.ap_node.specs.Keys.{fresh, HasKey}
use Rattle.ap_node.specs.Moving.{seated}
use Rattle.ap_node.specs.Stands.{HasPart}
use Rattle.ap_node.proofs.Others.{IsSameGroup, AllLeave, IsFar, far_on}
use Rattle.ap_node.proofs.Transiting.{IsCalm, calm_quiet, session_quiet, of_transferred, part_calm, SendsNoMessage, took_reassoc, sent_calm, sent_leave, auth_leaves}

-- ---- a reassociation request by which no key is installed

replaced_none : (p : Node) (had : Bool) → AllByRecursion (IsCalm p) (replaced_acts p had None)
replaced_none p true = tt
replaced_none p false = tt

pub reassoc_calm : (d : Domain) (root : Root) (n p : Node) (had : Bool) (t : Came) (r : Reply) → r.installed ≡ None → AllByRecursion SendsNoMessage (transition_sent d n p r) → AllByRecursion (IsCalm p) (reassoc_request_acts d root n p had t r)
reassoc_calm d root n p had t r none silent = (
  took_reassoc p (Some p) t.octets t.outcome (taken_seal (re_req_covered d n p t.fields) r.verified),
  all_joined (IsCalm p) _ (transition_sent d n p r)
      (all_joined (IsCalm p) _ (finished_acts d root n p r.installed)
      (all_joined (IsCalm p) (replaced_acts p had r.installed) (installed_acts d root n p r.installed)
      (subst (λ (y : Option Keyed). AllByRecursion (IsCalm p) (replaced_acts p had y)) (sym none) (replaced_none p had))
      (subst (λ (y : Option Keyed). AllByRecursion (IsCalm p) (installed_acts d root n p y)) (sym none) tt))
      (subst (λ (y : Option Keyed). AllByRecursion (IsCalm p) (finished_acts d root n p y)) (sym none) tt))
      (sent_calm d n p p r silent),
)

replaced_leave : (q p : Node) (had : Bool) (y : Option Keyed) → AllLeave q (replaced_acts p had y)
replaced_leave q p true None tk = tt
replaced_leave q p true (Some y) tk = (record { used = λ h. refl; got = λ tid h. refl }, tt)
replaced_leave q p false y tk = tt

finished_leave : (d : Domain) (root : Root) (n p q : Node) (y : Option Keyed) → AllLeave q (finished_acts d root n p y)
finished_leave d root n p q None tk = tt
finished_leave d root n p q (Some y) tk = (record { used = λ h. refl; got = λ tid h. refl }, tt)

reassoc_leave_by : (q : Node) (d : Domain) (root : Root) (n p : Node) (had : Bool) (t : Came) (r : Reply) → AllLeave q (installed_acts d root n p r.installed) → AllLeave q (reassoc_request_acts d root n p had t r)
reassoc_leave_by q d root n p had t r installs tk = (
  record { used = λ h. refl; got = λ tid h. refl },
  all_joined (LeavesPairwise q tk) _ (transition_sent d n p r)
      (all_joined (LeavesPairwise q tk) _ (finished_acts d root n p r.installed)
      (all_joined (LeavesPairwise q tk) (replaced_acts p had r.installed) (installed_acts d root n p r.installed) (replaced_leave q p had r.installed tk) (installs tk))
      (finished_leave d root n p q r.installed tk))
      (sent_leave d n p q r tk),
)

-- all stands on
pub reassoc_leaves_part : (d : Domain) (root : Root) (n : Node) (sta : ℕ) (had : Bool) (t : Came) (r : Reply) (o : Station) (h : List Act) → AllByRecursion SendsNoMessage (transition_sent d n (Sta sta) r) → r.installed ≡ None
    → HasPart d n sta o h → HasPart d n sta o (add (reassoc_request_acts d root n (Sta sta) had t r) h)
reassoc_leaves_part d root n sta had t r o h silent none at =
    part_calm d n sta o (reassoc_request_acts d root n (Sta sta) had t r) h (reassoc_calm d root n (Sta sta) had t r none silent)
    (reassoc_leave_by (Sta sta) d root n (Sta sta) had t r (subst (λ (y : Option Keyed). AllLeave (Sta sta) (installed_acts d root n (Sta sta) y)) (sym none) (λ tk. tt))) at

-- ---- a reassociation request by which one is installed

-- the session began by fast transition, so that its replay counters begin at 1
first_one : (p : Node) (next : ℕ) (o : Option (List Act)) → IsNoConnect o → cond (in_renewal o) next (first_in_session p o) ≡ 1
first_one p next None at = refl
first_one p next (Some part) at = rw (roam_no_renewal (start_of part) at, roam_no_four_way (start_of part) at) refl

roams_by : (b : Bool) (o : Option Transition) (x : Transition) → cond b o None ≡ Some x → b ≡ true
roams_by false o x is = absurd (cc is)
roams_by true o x is = refl

roams : (p : Node) (h : List Act) (x : Transition) (o : Option (List Act)) → transition_in p h o ≡ Some x → IsNoConnect o
roams p h x None is = tt
roams p h x (Some part) is = roams_by (is_by_roam part) (made_of p h part) x is

octets_same : (xs : List ℕ) → bytes_eq xs xs ≡ true
octets_same xs = (bytes_eq-Decides xs xs).1 refl

holds_installed : (p : Node) (tk : List ℕ) (i : Inputs) (h : List Act) → HoldsPairwise p tk (fresh tk) (Installed (One p) (Pairwise tk i) ∷ h)
holds_installed p tk i h = record {
  role = refl;
  key = refl;
  used = sym (rw (same-refl p) refl);
  size = refl;
  kept = λ tid low. get_or-replicate 16 tid 0 0 low ∙ sym (rw (same-refl p, octets_same tk) refl);
}

module _ (d : Domain) (root : Root) (n : Node) (sta : ℕ) (had : Bool) (t : Came) (r : Reply) (y : Keyed) (h : List Act) (some : r.installed ≡ Some y) where
  abbrev p : Node
  p = Sta sta

  abbrev i : Inputs
  i = inputs_by d root n p y

  abbrev said : List Act
  said = reassoc_request_acts d root n p had t r

  abbrev sends : List Act
  sends = transition_sent d n p r

  abbrev took_first : Act
  took_first = Took (Some p) t.octets kind.ReReq t.outcome (taken_seal (re_req_covered d n p t.fields) r.verified)

  -- the history up to the installation
  abbrev up_to_key : List Act
  up_to_key = Installed (One p) (Pairwise y.ptk.tk i) ∷ add (replaced_acts p had (Some y)) (took_first ∷ h)

  -- and up to the end of the attempt
  abbrev up_to_end : List Act
  up_to_end = Finished p i ∷ up_to_key

  abbrev replaced_so : Option Keyed → List Act
  replaced_so o = replaced_acts p had o ++ installed_acts d root n p o ++ finished_acts d root n p o

  pub installed_in_turn : add said h ≡ add sends up_to_end
  installed_in_turn =
      add_append (replaced_so r.installed) sends (took_first ∷ h)
      ∙ ap (λ (l : List Act). add sends l) (ap (λ (o : Option Keyed). add (replaced_so o) (took_first ∷ h)) some ∙ by had)
    where
      by : (b : Bool) → add (replaced_acts p b (Some y) ++ installed_acts d root n p (Some y) ++ finished_acts d root n p (Some y)) (took_first ∷ h)
          ≡ Finished p i ∷ Installed (One p) (Pairwise y.ptk.tk i) ∷ add (replaced_acts p b (Some y)) (took_first ∷ h)
      by true = refl
      by false = refl

  keys_are : group_keys groups.Gtk up_to_end ≡ group_keys groups.Gtk h
  keys_are = by had
    where
      by : (b : Bool) → group_keys groups.Gtk (add (replaced_acts p b (Some y)) (took_first ∷ h)) ≡ group_keys groups.Gtk h
      by true = refl
      by false = refl

  finished_before : before_finished p (add sends up_to_end) ≡ Some up_to_key
  finished_before = by (r.len == 0)
    where
      by : (b : Bool) → before_finished p (add (cond b [] (sent_octets d n p r (take r.len r.octets))) up_to_end) ≡ Some up_to_key
      by true = rw (same-refl p) refl
      by false = rw (same-refl p) refl

  -- a transition has just installed the key
  pub transferred_at : (x : Derivation) (newest : GroupKey) → IsNoConnect (attempt p up_to_key) → session p up_to_end ≡ Some x → x.ptk ≡ y.ptk → IsLast groups.Gtk newest (group_keys groups.Gtk h) → IsTransferred p y.ptk up_to_end
  transferred_at x newest roams is key last = record {
    none = attempt_ends p (Finished p i) up_to_key refl (same-refl p);
    x = x;
    is = is;
    key = key;
    next = rw (same-refl p) (first_one p (next_in_session p up_to_key) (attempt p up_to_key) roams);
    quiet = rw (same-refl p) refl;
    newest = newest;
    last = subst (λ (keys : List (List ℕ)). IsLast groups.Gtk newest keys) (sym keys_are) last;
  }

  -- so a part that begins with that key stands
  pub reassoc_begins : (x : Derivation) (newest : GroupKey) (part : Part) (m : Option TargetState) → d.akm ≡ FtPsk → AllByRecursion SendsNoMessage sends → IsNoConnect (attempt p up_to_key) → session p up_to_end ≡ Some x → x.ptk ≡ y.ptk
      → IsLast groups.Gtk newest (group_keys groups.Gtk h) → part.attempt ≡ None → ((l : List Act) → IsTransferred p y.ptk l → AuthenticatorStands d n p part l)
      → HasPart d n sta (seated part y.ptk.tk m) (add said h)
  reassoc_begins x newest part m suite silent none is key last no_attempt begins =
      subst (λ (l : List Act). HasPart d n sta (seated part y.ptk.tk m) l) (sym installed_in_turn)
      (part_calm d n sta (seated part y.ptk.tk m) sends up_to_end (sent_calm d n p p r silent) (sent_leave d n p p r)
      (record {
        tried = tt;
        kept = (stands.ends, of_transferred d None (kinds part) suite (ap (option_map (λ (a : Attempt). a.renews)) no_attempt));
        attempt_is = stands.attempt_is;
        session_is = stands.session_is;
        key = holds_key;
      }))
    where
      stands : AuthenticatorStands d n p part up_to_end
      stands = begins up_to_end (transferred_at x newest none is key last)

      holds : HoldsPairwise p y.ptk.tk (fresh y.ptk.tk) up_to_end
      holds = others p y.ptk.tk (fresh y.ptk.tk) (Finished p i ∷ []) up_to_key (holds_installed p y.ptk.tk i (add (replaced_acts p had (Some y)) (took_first ∷ h)))
          (record { used = λ l. refl; got = λ tid l. refl }, tt)

      holds_key : HasKey p (session p up_to_end) (Some (fresh y.ptk.tk)) up_to_end
      holds_key =
          subst (λ (o : Option Derivation). HasKey p o (Some (fresh y.ptk.tk)) up_to_end) (sym is)
          (subst (λ (q : Ptk). HoldsPairwise p q.tk (fresh y.ptk.tk) up_to_end) (sym key) holds)

  -- where the transition is the session's from then on
  pub reassoc_installs : (old new : Moves) (newest : GroupKey) (part : Part) (m : Option TargetState) → AllByRecursion SendsNoMessage sends → HasMoves d n p new (add said h) → HasMoved (Some y) old new
      → IsLast groups.Gtk newest (group_keys groups.Gtk h) → part.attempt ≡ None → ((l : List Act) → IsTransferred p y.ptk l → AuthenticatorStands d n p part l)
      → HasPart d n sta (seated part y.ptk.tk m) (add said h)
  reassoc_installs old new newest part m silent has moved last no_attempt begins =
      let s = moved.0 in
      let x = transition_of d n p s in
      let at : HeldStands d n p (Some s) (add sends up_to_end) = subst (λ (l : List Act). HeldStands d n p (Some s) l) installed_in_turn (subst (λ (m : Moves). HeldStands d n p m.held (add said h)) moved.1 has.held) in
      let held : IsHeld d n p s (add sends up_to_end) = installed d n p s (add sends up_to_end) at.0 at.1 in
      reassoc_begins x.key newest part m at.1.suite silent
      (roams p up_to_key x (attempt p up_to_key) (before_is x held.is))
      (sym (session_quiet p sends up_to_end (calm_quiet p sends (sent_calm d n p p r silent))) ∙ held_session d n p s (add sends up_to_end) at)
      (ap (λ (z : Keyed). z.ptk) moved.2)
      last no_attempt begins
    where
      before_is : (x : Transition) → session_transition p (add sends up_to_end) ≡ Some x → transition p up_to_key ≡ Some x
      before_is x is = subst (λ (o : Option (List Act)). option_and_then (λ (before : List Act). transition p before) o ≡ Some x) finished_before is

-- a pairwise key in use with another station stays so
installed_leave : (d : Domain) (root : Root) (n p q : Node) (y : Option Keyed) → same q p ≡ false → AllLeave q (installed_acts d root n p y)
installed_leave d root n p q None other tk = tt
installed_leave d root n p q (Some y) other tk = (record { used = λ h. rw other refl; got = λ tid h. rw other refl }, tt)

pub reassoc_leaves : (d : Domain) (root : Root) (n p q : Node) (had : Bool) (t : Came) (r : Reply) → same q p ≡ false → AllLeave q (reassoc_request_acts d root n p had t r)
reassoc_leaves d root n p q had t r other = reassoc_leave_by q d root n p had t r (installed_leave d root n p q r.installed other)

-- ---- the group keys, and the rows of the own key holder

-- an act that draws no group key and makes none current, uses no packet number of one, and changes no row
pub record IsAside (e : Act) : Type 0 where
  pub drawn : (k : GroupKind) → key_drawn k e ≡ None
  pub made : (k : GroupKind) → switched k e ≡ None
  pub used : (k : GroupKind) → uses_all k e ≡ false
  pub rows : moves_rows e ≡ false

aside_group : (g h : List Act) → AllByRecursion IsAside g → IsSameGroup h (add g h)
aside_group [] h all = record { keys_are = λ x. refl; switches_are = λ x. refl; uses_are = λ x. refl }
aside_group (e ∷ g) h all =
    let later = aside_group g (e ∷ h) all.1 in
    record { keys_are = λ k. later.keys_are k ∙ rw (all.0.drawn k) refl; switches_are = λ k. later.switches_are k ∙ rw (all.0.made k) refl; uses_are = λ k. later.uses_are k ∙ rw (all.0.made k, all.0.used k) refl }

aside_rows : (g : List Act) → AllByRecursion IsAside g → LeaveRows g
aside_rows [] all = tt
aside_rows (e ∷ g) all = (all.0.rows, aside_rows g all.1)

looked_aside : (p : Node) (x : Option Asked) (answer : Option PullAnswer) → AllByRecursion IsAside (looked_for p x answer)
looked_aside p None answer = tt
looked_aside p (Some a) answer = by (single a.names) answer
  where
    by : (name : Option (List ℕ)) (answer : Option PullAnswer) → AllByRecursion IsAside (looked_by p a name answer)
    by None answer = tt
    by (Some name) None = tt
    by (Some name) (Some y) = (record { drawn = λ x. refl; made = λ x. refl; used = λ x. refl; rows = refl }, tt)

sent_aside : (d : Domain) (n p : Node) (r : Reply) → AllByRecursion IsAside (transition_sent d n p r)
sent_aside d n p r = by (r.len == 0)
  where
    by : (b : Bool) → AllByRecursion IsAside (cond b [] (sent_octets d n p r (take r.len r.octets)))
    by true = tt
    by false = (record { drawn = λ x. refl; made = λ x. refl; used = λ x. refl; rows = refl }, tt)

begun_aside : (p : Node) (part : Option (List Act)) (y : Option Keyed) → AllByRecursion IsAside (begun_acts p part y)
begun_aside p part None = tt
begun_aside p None (Some y) = (record { drawn = λ x. refl; made = λ x. refl; used = λ x. refl; rows = refl }, (record { drawn = λ x. refl; made = λ x. refl; used = λ x. refl; rows = refl }, tt))
begun_aside p (Some old) (Some y) =
    (record { drawn = λ x. refl; made = λ x. refl; used = λ x. refl; rows = refl }, (record { drawn = λ x. refl; made = λ x. refl; used = λ x. refl; rows = refl }, (record { drawn = λ x. refl; made = λ x. refl; used = λ x. refl; rows = refl }, tt)))

derived_aside : (d : Domain) (root : Root) (n p : Node) (y : Option Keyed) → AllByRecursion IsAside (derived_acts d root n p y)
derived_aside d root n p None = tt
derived_aside d root n p (Some y) = (record { drawn = λ x. refl; made = λ x. refl; used = λ x. refl; rows = refl }, tt)

replaced_aside : (p : Node) (had : Bool) (y : Option Keyed) → AllByRecursion IsAside (replaced_acts p had y)
replaced_aside p true None = tt
replaced_aside p true (Some y) = (record { drawn = λ x. refl; made = λ x. refl; used = λ x. refl; rows = refl }, tt)
replaced_aside p false y = tt

installed_aside : (d : Domain) (root : Root) (n p : Node) (y : Option Keyed) → AllByRecursion IsAside (installed_acts d root n p y)
installed_aside d root n p None = tt
installed_aside d root n p (Some y) = (record { drawn = λ x. refl; made = λ x. refl; used = λ x. refl; rows = refl }, tt)

finished_aside : (d : Domain) (root : Root) (n p : Node) (y : Option Keyed) → AllByRecursion IsAside (finished_acts d root n p y)
finished_aside d root n p None = tt
finished_aside d root n p (Some y) = (record { drawn = λ x. refl; made = λ x. refl; used = λ x. refl; rows = refl }, tt)

auth_aside : (d : Domain) (root : Root) (n p : Node) (part : Option (List Act)) (t : Came) (r : Reply) → AllByRecursion IsAside (auth_request_acts d root n p part t r)
auth_aside d root n p part t r = (
  record { drawn = λ x. refl; made = λ x. refl; used = λ x. refl; rows = refl },
  all_joined IsAside _ (transition_sent d n p r)
      (all_joined IsAside _ (derived_acts d root n p r.derived)
      (all_joined IsAside (looked_for p (asked t.fields) r.looked) (begun_acts p part r.derived) (looked_aside p (asked t.fields) r.looked) (begun_aside p part r.derived))
      (derived_aside d root n p r.derived))
      (sent_aside d n p r),
)

reassoc_aside : (d : Domain) (root : Root) (n p : Node) (had : Bool) (t : Came) (r : Reply) → AllByRecursion IsAside (reassoc_request_acts d root n p had t r)
reassoc_aside d root n p had t r = (
  record { drawn = λ x. refl; made = λ x. refl; used = λ x. refl; rows = refl },
  all_joined IsAside _ (transition_sent d n p r)
      (all_joined IsAside _ (finished_acts d root n p r.installed)
      (all_joined IsAside (replaced_acts p had r.installed) (installed_acts d root n p r.installed) (replaced_aside p had r.installed) (installed_aside d root n p r.installed))
      (finished_aside d root n p r.installed))
      (sent_aside d n p r),
)

pub auth_group : (d : Domain) (root : Root) (n p : Node) (part : Option (List Act)) (t : Came) (r : Reply) (h : List Act) → IsSameGroup h (add (auth_request_acts d root n p part t r) h)
auth_group d root n p part t r h = aside_group (auth_request_acts d root n p part t r) h (auth_aside d root n p part t r)

pub reassoc_group : (d : Domain) (root : Root) (n p : Node) (had : Bool) (t : Came) (r : Reply) (h : List Act) → IsSameGroup h (add (reassoc_request_acts d root n p had t r) h)
reassoc_group d root n p had t r h = aside_group (reassoc_request_acts d root n p had t r) h (reassoc_aside d root n p had t r)

pub auth_rows : (d : Domain) (root : Root) (n p : Node) (part : Option (List Act)) (t : Came) (r : Reply) → LeaveRows (auth_request_acts d root n p part t r)
auth_rows d root n p part t r = aside_rows (auth_request_acts d root n p part t r) (auth_aside d root n p part t r)

pub reassoc_rows : (d : Domain) (root : Root) (n p : Node) (had : Bool) (t : Came) (r : Reply) → LeaveRows (reassoc_request_acts d root n p had t r)
reassoc_rows d root n p had t r = aside_rows (reassoc_request_acts d root n p had t r) (reassoc_aside d root n p had t r)

-- ---- how many values were drawn

pub auth_draws_one : (d : Domain) (root : Root) (n p : Node) (part : Option (List Act)) (t : Came) (r : Reply) (h : List Act) → draws (add (auth_request_acts d root n p part t r) h) ≡ drawn_for r.derived + draws h
auth_draws_one d root n p part t r h = draws_add (auth_request_acts d root n p part t r) h ∙ ap (λ (k : ℕ). k + draws h) (auth_draws d root n p part t r)

pub reassoc_draws_none : (d : Domain) (root : Root) (n p : Node) (had : Bool) (t : Came) (r : Reply) (h : List Act) → draws (add (reassoc_request_acts d root n p had t r) h) ≡ draws h
reassoc_draws_none d root n p had t r h = omega (arith, draws_add (reassoc_request_acts d root n p had t r) h, reassoc_draws d root n p had t r)

-- ---- other stations

pub auth_far : (d : Domain) (root : Root) (n q : Node) (part : Option (List Act)) (t : Came) (r : Reply) (k : ℕ) (h : List Act) → same (Sta k) q ≡ false → IsFar (Sta k) h (add (auth_request_acts d root n q part t r) h)
auth_far d root n q part t r k h other = far_on (Sta k) (auth_request_acts d root n q part t r) h (auth_apart d root n q part t r k other) (auth_leaves (Sta k) d root n q part t r)

pub reassoc_far : (d : Domain) (root : Root) (n q : Node) (had : Bool) (t : Came) (r : Reply) (k : ℕ) (h : List Act) → same (Sta k) q ≡ false → IsFar (Sta k) h (add (reassoc_request_acts d root n q had t r) h)
reassoc_far d root n q had t r k h other =
    far_on (Sta k) (reassoc_request_acts d root n q had t r) h (reassoc_apart d root n q had t r k other)
    (reassoc_leaves d root n q (Sta k) had t r other)

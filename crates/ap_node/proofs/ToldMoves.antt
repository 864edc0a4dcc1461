-- The acts of taking an EAPOL-Key message and of a retry, and what they do to the fast transitions of an access point with a station.
use Rattle.std.proofs.Common.{◌≡◌, ◌∙◌, ℕ, Bool, true, false, cond, List, [], ◌∷◌, ◌++◌, Option, Some, None, is_some, refl, sym, ap, subst}
use Rattle.std.specs.Prelude.{◌==◌, take, nat_lt, if◌then◌else◌}
use Rattle.std.specs.List.{AllByRecursion}
use Rattle.domain_base.specs.declared.names.Akm.{Akm}
use Rattle.domain_base.specs.declared.names.Akm.TheVariants.{Psk, PskSha256, FtPsk}
use Rattle.domain_base.specs.declared.names.Node.{Node}
use Rattle.domain_base.specs.declared.names.Node.TheVariants.{Sta}
use Rattle.eapol_key.specs.declared.messages.Message.{Message}
use Rattle.eapol_key.specs.declared.messages.Message.TheVariants as messages
use Rattle.run_journal.specs.declared.domain.Domain.{Domain}
use Rattle.domain_base.specs.declared.names.Peer.TheVariants.{One}
use Rattle.run_journal.specs.declared.acts.Key.{Key}
use Rattle.run_journal.specs.declared.acts.Key.TheVariants.{Group}
use Rattle.run_journal.specs.declared.acts.Kind.TheVariants as kind
use Rattle.run_journal.specs.declared.acts.Part.TheVariants.{Attempt as OfAttempt, Session as OfSession}
use Rattle.run_journal.specs.declared.acts.Why.TheVariants as why
use Rattle.run_journal.specs.declared.acts.Outcome.{Outcome}
use Rattle.run_journal.specs.declared.acts.Outcome.TheVariants.{Done}
use Rattle.run_journal.specs.declared.acts.Act.{Act}
use Rattle.run_journal.specs.declared.acts.Act.TheVariants.{Took, Closed, Installed, GaveUp, Idle, Resumed}
use Rattle.run_journal.specs.declared.reply.GtkNews.{GtkNews}
use Rattle.run_journal.specs.declared.reply.Keyed.{Keyed}
use Rattle.run_journal.specs.declared.reply.Reply.{Reply}
use Rattle.run_journal.specs.Acts.{Derivation}
use Rattle.run_journal.specs.Questions.{attempt, handshake, add}
use Rattle.run_journal.specs.declared.acts.GroupKind.{GroupKind}
use Rattle.run_journal.specs.declared.acts.GroupKind.TheVariants as groups
use Rattle.domain_rules.specs.Asking.{start_of, is_by_roam}
use Rattle.domain_rules.proofs.Starts.{roam_no_four_way}
use Rattle.domain_rules.specs.AccessPointRows.{g1_to, most_sends, retry_attempt, retry_session, retry_acts}
use Rattle.domain_rules.specs.Counters.{sent_count}
use Rattle.domain_rules.specs.Owing.{owing}
use Rattle.domain_rules.specs.KeyHolders.{put_acts_by}
use Rattle.domain_rules.specs.Network.{Root, mac}
use Rattle.domain_rules.specs.Reading.{KeyMessage}
use Rattle.domain_rules.specs.Replies.{key_by, derived_acts, replaced_acts, installed_acts, group_acts, finished_acts, frame_acts, sent_acts}
use Rattle.domain_rules.specs.Rows.{outcome_of}
use Rattle.domain_rules.proofs.Parts.{add_append}
use Rattle.authenticator.specs.Bases.{home}
use Rattle.authenticator.specs.Steps.{part_of, again_acts}
use Rattle.authenticator.specs.Taken.{put_for, told_acts}
use Rattle.authenticator.specs.declared.authenticator.Again.{Again}
use Rattle.authenticator.specs.declared.authenticator.Again.TheVariants as again
use Rattle.ft_exchange.specs.State.{TargetState}
use Rattle.ft_exchange.specs.Stands.{PendingStands}
use Rattle.ft_exchange.proofs.TargetStanding.{Passes, took_passes}
use Rattle.targets.specs.declared.moves.Moves.{Moves}
use Rattle.targets.specs.State.{without_held}
use Rattle.targets.specs.Stands.{HasMoves}
use Rattle.targets.proofs.Authing.{same_moves}
use Rattle.targets.proofs.Beginning.{pending_roams, derived_connect, closed_attempt, closed_session, finished_connect}
use Rattle.targets.proofs.Passing.{moves_more, moves_add, sent_any_passes, installed_passes, gave_up_passes, idle_passes, put_passes}
use Rattle.ap_node.specs.Moving.{finished_moves, given_up_moves}
use Rattle.ap_node.proofs.Plain.{middle}
use Rattle.ap_node.proofs.Told.{told_then}

-- ---- acts that begin and end nothing

resumed_passes : (p q : Node) (k : Key) → Passes p (Resumed q k)
resumed_passes p q k = record { opens_none = refl; ends_none = refl; closes_none = refl; finishes_none = refl; derives_none = refl }

pub sent_pass : (p q : Node) (r : Reply) → AllByRecursion (Passes p) (sent_acts q r)
sent_pass p q r = by (r.len == 0)
  where
    by : (b : Bool) → AllByRecursion (Passes p) (cond b [] (frame_acts q r (take r.len r.octets)))
    by true = tt
    by false = (sent_any_passes p _ _ _ _, tt)

group_pass : (which : GroupKind) (d : Domain) (p q : Node) (g : Option GtkNews) → AllByRecursion (Passes p) (group_acts which d q g)
group_pass which d p q None = tt
group_pass which d p q (Some g) = (by g.resumed, tt)
  where
    by : (b : Bool) → Passes p (cond b (Resumed q (Group which g.key g.id (mac d q))) (Installed (One q) (Group which g.key g.id (mac d q))))
    by true = resumed_passes p q _
    by false = installed_passes p _ _

put_pass_by : (akm : Akm) (d : Domain) (n : Node) (h : List Act) (p q : Node) (x : Derivation) → AllByRecursion (Passes p) (put_acts_by akm d n h q x)
put_pass_by Psk d n h p q x = tt
put_pass_by PskSha256 d n h p q x = tt
put_pass_by FtPsk d n h p q x = (put_passes p _ _ _ _, tt)

put_pass : (d : Domain) (n : Node) (h : List Act) (p q : Node) (o : Option Keyed) → AllByRecursion (Passes p) (put_for d n h q o)
put_pass d n h p q None = tt
put_pass d n h p q (Some y) = put_pass_by d.akm d n h p q (key_by d (home d n q) n q y)

-- ---- a message is taken

-- with none pending
abbrev unpending : Option TargetState → Moves
unpending held = record { pending = None; held = held }

as_unpending : (m : Moves) → m.pending ≡ None → m ≡ unpending m.held
as_unpending m none = same_moves m (unpending m.held) none refl

module _ (d : Domain) (n : Node) (sta : ℕ) where
  abbrev p : Node
  p = Sta sta

  derived_moves : (t : Root) (y : Option Keyed) (m : Moves) (h : List Act) → (is_some y ≡ true → m.pending ≡ None) → HasMoves d n p m h → HasMoves d n p m (add (derived_acts d t n p y) h)
  derived_moves t None m h none has = has
  derived_moves t (Some y) m h none has =
      let is = as_unpending m (none refl) in
      subst (λ (z : Moves). HasMoves d n p z (add (derived_acts d t n p (Some y)) h)) (sym is) (derived_connect d n p m.held _ _ h (subst (λ (z : Moves). HasMoves d n p z h) is has))

  -- a key is installed in a session that takes the place of the one there was, if there was one
  replaced_moves : (had : Bool) (y : Keyed) (m : Moves) (h : List Act) → m.pending ≡ None → HasMoves d n p m h → (o : Option TargetState) × HasMoves d n p (unpending o) (add (replaced_acts p had (Some y)) h)
  replaced_moves true y m h none has = (None, subst (λ (z : Moves). HasMoves d n p z (Closed p OfSession ∷ h)) (as_unpending (without_held m) none) (closed_session d n p m h has))
  replaced_moves false y m h none has = (m.held, subst (λ (z : Moves). HasMoves d n p z h) (as_unpending m none) has)

  given_by : (g j : Option GtkNews) (m : Moves) (h : List Act) → HasMoves d n p m h → HasMoves d n p m (add (group_acts groups.Igtk d p j) (add (group_acts groups.Gtk d p g) h))
  given_by g j m h has = moves_add d n p m (group_acts groups.Igtk d p j) _ (group_pass groups.Igtk d p p j) (moves_add d n p m (group_acts groups.Gtk d p g) h (group_pass groups.Gtk d p p g) has)

  finished_by : (t : Root) (had : Bool) (y : Option Keyed) (g j : Option GtkNews) (m : Moves) (h : List Act) → (is_some y ≡ true → m.pending ≡ None) → HasMoves d n p m h
      → HasMoves d n p (finished_moves (is_some y) m) (add (finished_acts d t n p y) (add (group_acts groups.Igtk d p j) (add (group_acts groups.Gtk d p g) (add (installed_acts d t n p y) (add (replaced_acts p had y) h)))))
  finished_by t true None g j m h none has = given_by g j m h has
  finished_by t false None g j m h none has = given_by g j m h has
  finished_by t had (Some y) g j m h none has =
      let before = add (replaced_acts p had (Some y)) h in
      let so = replaced_moves had y m h (none refl) has in
      let installs = moves_more d n p (unpending so.0) _ before (installed_passes p _ _) so.1 in
      let news = given_by g j (unpending so.0) _ installs in
      subst (λ (z : Moves). HasMoves d n p z (add (finished_acts d t n p (Some y)) (add (group_acts groups.Igtk d p j) (add (group_acts groups.Gtk d p g) (add (installed_acts d t n p (Some y)) before))))) (sym (as_unpending (without_held m) (none refl)))
      (finished_connect d n sta _ so.0 _ news)

  middle_then : (t : Root) (had : Bool) (r : Reply) (h : List Act)
      → add (middle d t n p had r) h ≡ add (finished_acts d t n p r.installed) (add (group_acts groups.Igtk d p r.igtk) (add (group_acts groups.Gtk d p r.gtk) (add (installed_acts d t n p r.installed) (add (replaced_acts p had r.installed) (add (derived_acts d t n p r.derived) h)))))
  middle_then t had r h =
      let derives = derived_acts d t n p r.derived in
      let replaces = replaced_acts p had r.installed in
      let installs = installed_acts d t n p r.installed in
      let gtk = group_acts groups.Gtk d p r.gtk in
      let igtk = group_acts groups.Igtk d p r.igtk in
      let finishes = finished_acts d t n p r.installed in
      add_append (derives ++ replaces ++ installs ++ gtk ++ igtk) finishes h
      ∙ ap (add finishes) (add_append (derives ++ replaces ++ installs ++ gtk) igtk h
      ∙ ap (add igtk) (add_append (derives ++ replaces ++ installs) gtk h
      ∙ ap (add gtk) (add_append (derives ++ replaces) installs h ∙ ap (add installs) (add_append derives replaces h))))

  pub told_moves : (had : Bool) (octets : List ℕ) (k : KeyMessage) (o : Outcome) (r : Reply) (m : Moves) (h : List Act) → (is_some r.derived ≡ true → m.pending ≡ None) → (is_some r.installed ≡ true → m.pending ≡ None) → HasMoves d n p m h
      → HasMoves d n p (finished_moves (is_some r.installed) m) (add (told_acts d n p had octets k o r h) h)
  told_moves had octets k o r m h derives installs has =
      let t = home d n p in
      let x = finished_moves (is_some r.installed) m in
      let took = moves_more d n p m (Took (Some p) octets (kind.Key k.message) o _) h (took_passes p (Some p) octets (kind.Key k.message) o _) has in
      let key = derived_moves t r.derived m _ derives took in
      let mid = subst (λ (l : List Act). HasMoves d n p x l) (sym (middle_then t had r _)) (finished_by t had r.installed r.gtk r.igtk m _ installs key) in
      let puts = moves_add d n p x (put_for d n h p r.installed) _ (put_pass d n h p p r.installed) mid in
      subst (λ (l : List Act). HasMoves d n p x l) (sym (told_then d n p had octets k o r h)) (moves_add d n p x (sent_acts p r) _ (sent_pass p p r) puts)

  -- ---- a retry

  -- an attempt that is given up is not one by fast transition
  not_closed : (h : List Act) (x : Option Derivation) (m : Message) → part_of m ≡ OfAttempt → retry_session d n h p x ≡ GaveUp p m ∷ Closed p (part_of m) ∷ [] → ⊥
  not_closed h None m of is = cc is
  not_closed h (Some x) m of is = by (nat_lt (sent_count p messages.G1 (handshake groups.Gtk p h)) most_sends) is
    where
      by : (b : Bool) → (if b then g1_to d n p h x ∷ [] else GaveUp p messages.G1 ∷ Closed p OfSession ∷ []) ≡ GaveUp p m ∷ Closed p (part_of m) ∷ [] → ⊥
      by true is = cc is
      by false is = cc (is, of)

  none_given_up : (m : Moves) (g : Message) (h : List Act) → part_of g ≡ OfAttempt → retry_acts d n h p (attempt p h) ≡ GaveUp p g ∷ Closed p (part_of g) ∷ [] → HasMoves d n p m h → m.pending ≡ None
  none_given_up m g h of is has = by m.pending refl
    where
      roams : (part : List Act) → is_by_roam part ≡ true → retry_acts d n h p (Some part) ≡ retry_session d n h p (owing groups.Gtk p h)
      roams part begun = ap (λ (b : Bool). if b then retry_attempt d n h p part else retry_session d n h p (owing groups.Gtk p h)) (roam_no_four_way (start_of part) begun)

      by : (o : Option TargetState) → m.pending ≡ o → m.pending ≡ None
      by None none = none
      by (Some s) some =
          let r = pending_roams d n p s h (subst (λ (o : Option TargetState). PendingStands d n p o h) some has.pending) in
          absurd (not_closed h (owing groups.Gtk p h) g of (sym (roams r.part r.begun) ∙ ap (retry_acts d n h p) (sym r.awaited) ∙ is))

  attempt_given_up : (m : Moves) (g : Message) (h : List Act) → m.pending ≡ None → HasMoves d n p m h → HasMoves d n p m (Closed p OfAttempt ∷ GaveUp p g ∷ h)
  attempt_given_up m g h none has =
      subst (λ (z : Moves). HasMoves d n p z (Closed p OfAttempt ∷ GaveUp p g ∷ h)) (sym (as_unpending m none)) (closed_attempt d n sta m (GaveUp p g ∷ h) (moves_more d n p m (GaveUp p g) h (gave_up_passes p p g) has))

  given_up_by : (m : Moves) (g : Message) (h : List Act) → retry_acts d n h p (attempt p h) ≡ GaveUp p g ∷ Closed p (part_of g) ∷ [] → HasMoves d n p m h
      → HasMoves d n p (given_up_moves (outcome_of (GaveUp p g ∷ Closed p (part_of g) ∷ [])) m) (Closed p (part_of g) ∷ GaveUp p g ∷ h)
  given_up_by m messages.G1 h is has = closed_session d n p m _ (moves_more d n p m (GaveUp p messages.G1) h (gave_up_passes p p messages.G1) has)
  given_up_by m messages.M1 h is has = attempt_given_up m messages.M1 h (none_given_up m messages.M1 h refl is has) has
  given_up_by m messages.M2 h is has = attempt_given_up m messages.M2 h (none_given_up m messages.M2 h refl is has) has
  given_up_by m messages.M3 h is has = attempt_given_up m messages.M3 h (none_given_up m messages.M3 h refl is has) has
  given_up_by m messages.M4 h is has = attempt_given_up m messages.M4 h (none_given_up m messages.M4 h refl is has) has
  given_up_by m messages.G2 h is has = attempt_given_up m messages.G2 h (none_given_up m messages.G2 h refl is has) has

  pub again_moves : (came : Again) (r : Reply) (m : Moves) (h : List Act) → Done ≡ outcome_of (sent_acts p r) → retry_acts d n h p (attempt p h) ≡ again_acts p came r → HasMoves d n p m h
      → HasMoves d n p (given_up_moves (outcome_of (again_acts p came r)) m) (add (again_acts p came r) h)
  again_moves again.Sent r m h done is has =
      subst (λ (o : Outcome). HasMoves d n p (given_up_moves o m) (add (sent_acts p r) h)) done (moves_add d n p m (sent_acts p r) h (sent_pass p p r) has)
  again_moves (again.GaveUp g) r m h done is has = given_up_by m g h is has
  again_moves again.Nothing r m h done is has = moves_more d n p m (Idle why.Nothing) h (idle_passes p why.Nothing) has

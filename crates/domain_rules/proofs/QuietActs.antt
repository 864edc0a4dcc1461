-- Acts that note no seal.
use Rattle.std.proofs.Common.{◌≡◌, ℕ, zero, suc, ◌+◌, Bool, true, false, cond, List, [], ◌∷◌, ◌++◌, length, Option, Some, None, refl, ap, subst, ◌∙◌, inl, inr}
use Rattle.std.proofs.lemmas.Bool.{and_parts}
use Rattle.std.specs.Prelude.{nat_lt, ◌||◌, ◌&&◌, if◌then◌else◌}
use Rattle.domain_base.specs.declared.names.Akm.{Akm}
use Rattle.domain_base.specs.declared.names.Mac.{Mac}
use Rattle.domain_base.specs.declared.names.Node.{Node}
use Rattle.domain_base.specs.declared.names.Node.TheVariants.{Ap, Sta}
use Rattle.rsn_elements.specs.Elements.{ElementFields}
use Rattle.eapol_key.specs.declared.messages.Message.{Message}
use Rattle.eapol_key.specs.declared.messages.Message.TheVariants.{M1, M2, M3, G1}
use Rattle.run_journal.specs.declared.domain.Domain.{Domain}
use Rattle.run_journal.specs.Events.{protects}
use Rattle.run_journal.specs.declared.acts.Start.TheVariants.{Connect}
use Rattle.run_journal.specs.declared.acts.Part.TheVariants.{Attempt, Session}
use Rattle.run_journal.specs.declared.acts.Drawn.TheVariants.{Nonce}
use Rattle.run_journal.specs.declared.acts.Why.TheVariants as why
use Rattle.run_journal.specs.declared.acts.Kind.{Kind}
use Rattle.run_journal.specs.declared.acts.Kind.TheVariants as kind
use Rattle.run_journal.specs.declared.acts.Reason.{Reason}
use Rattle.run_journal.specs.declared.acts.Outcome.{Outcome}
use Rattle.run_journal.specs.declared.acts.Seal.{Seal}
use Rattle.run_journal.specs.declared.acts.Act.{Act}
use Rattle.run_journal.specs.declared.acts.Act.TheVariants.{Opened, Closed, Drew, Took, Installed, Used, Finished, GaveUp, Idle}
use Rattle.run_journal.specs.Acts.{Derivation, GroupKey}
use Rattle.run_journal.specs.Questions.{attempt, session, pending, associated, before_sent, derivation, draws, handshake, add}
use Rattle.domain_base.specs.declared.names.Peer.{Peer}
use Rattle.domain_base.specs.declared.names.Peer.TheVariants.{One, All}
use Rattle.replay_window.specs.Numbers.{last_number}
use Rattle.domain_rules.specs.PacketNumbers.{SendKey}
use Rattle.domain_rules.specs.DataFrames.{sent_data}
use Rattle.domain_rules.specs.DataRows.{send_acts_by}
use Rattle.domain_rules.specs.ManagementFrames.{announce_acts_by, sent_action}
use Rattle.run_journal.specs.declared.acts.Key.TheVariants.{Pairwise}
use Rattle.run_journal.specs.Premises.{In}
use Rattle.domain_rules.specs.Frames.{sent_assoc_req, sent_m1}
use Rattle.domain_rules.specs.Reading.{KeyMessage, Reading, NoFrame, PassedOver, NoElements, Managed, NoKeyFrame, NoMessage, Keyed, Sealed, Acting}
use Rattle.domain_rules.specs.Owing.{owing, any_owes, current_act, current_igtk, current_acts, switch_acts}
use Rattle.domain_rules.specs.Asking.{is_four_way, has_heard, own}
use Rattle.domain_rules.specs.Counters.{sent_count, next_counter}
use Rattle.domain_rules.specs.GroupKeys.{memory, find_key, give_by, GivenKeys, give_igtk, give_all, is_current}
use Rattle.domain_rules.specs.Rows.{refused_status, response_by, response}
use Rattle.domain_rules.specs.Closing.{close_attempt, close_session, close_pending, close_associated, or_nothing, next_nonce}
use Rattle.domain_rules.specs.StationRows.{connect_acts, replaced}
use Rattle.domain_rules.specs.AccessPointRows.{m4_acts, newer_acts, carried_older, g1_to, most_sends, again_or_give_up, m3_again, retry_attempt, again_or_close, retry_session, retry_acts, to_session, to_sessions, draw_igtk, next_keys, RekeyRow, Pending, Renews}
use Rattle.domain_rules.specs.AccessPointRows as rekey
use Rattle.key_hierarchy.specs.declared.answers.PullAnswer.{PullAnswer}
use Rattle.key_hierarchy.specs.declared.fast_transition.PmkR1.{PmkR1}
use Rattle.domain_base.specs.declared.names.Akm.TheVariants.{Psk, PskSha256, FtPsk}
use Rattle.run_journal.specs.Holders.{Stored}
use Rattle.domain_rules.specs.FastTransition.{single}
use Rattle.domain_rules.specs.TransitionKeys.{Asked, asked}
use Rattle.domain_rules.specs.TransitionRows.{sent_again, look_answer, looked_by, looked_for, look_of_kind, refused_look}
use Rattle.domain_rules.specs.KeyHolders.{put_acts_by, put_acts, revoke_acts_by}
use Rattle.domain_rules.specs.ChangedKeys.{old_row_by, secret_of, secret_of_each, secret_acts}
use Rattle.domain_rules.specs.Here.{here}
use Rattle.run_journal.specs.declared.acts.GroupKind.{GroupKind}
use Rattle.run_journal.specs.declared.acts.GroupKind.TheVariants as groups

abbrev pub is_quiet : Act → Bool
is_quiet (Took from octets k o (Some s)) = false
is_quiet _ = true

abbrev pub are_quiet : List Act → Bool
are_quiet [] = true
are_quiet (e ∷ g) = is_quiet e && are_quiet g

abbrev pub noting : Option Node → List ℕ → Kind → Outcome → Seal → Act
noting from octets k o s = Took from octets k o (Some s)

pub none_noted : (from : Option Node) (octets : List ℕ) (k : Kind) (o : Outcome) (s : Seal) (g : List Act) → are_quiet g ≡ true → In (noting from octets k o s) g → ⊥
none_noted from octets k o s [] quiet there = there
none_noted from octets k o s (e ∷ g) quiet (inl here) = let q : is_quiet (noting from octets k o s) ≡ true = ap is_quiet here ∙ (and_parts (is_quiet e) (are_quiet g) quiet).0 in cc q
none_noted from octets k o s (e ∷ g) quiet (inr later) = none_noted from octets k o s g (and_parts (is_quiet e) (are_quiet g) quiet).1 later

pub head_noted : (from : Option Node) (octets : List ℕ) (k : Kind) (o : Outcome) (s : Seal) (a : Act) (rest g : List Act) → g ≡ a ∷ rest → are_quiet rest ≡ true → In (noting from octets k o s) g → noting from octets k o s ≡ a
head_noted from octets k o s a rest g says quiet there = by (subst (λ (x : List Act). In (noting from octets k o s) x) says there)
  where
    by : In (noting from octets k o s) (a ∷ rest) → noting from octets k o s ≡ a
    by (inl here) = here
    by (inr later) = absurd (none_noted from octets k o s rest quiet later)

quiet_if : (c : Bool) (a b : List Act) → are_quiet a ≡ true → are_quiet b ≡ true → are_quiet (if c then a else b) ≡ true
quiet_if true a b x y = x
quiet_if false a b x y = y

pub quiet_attempt : (p : Node) (o : Option (List Act)) (g : List Act) → are_quiet g ≡ true → are_quiet (close_attempt p o ++ g) ≡ true
quiet_attempt p None g quiet = quiet
quiet_attempt p (Some part) g quiet = quiet

pub quiet_session : (p : Node) (o : Option Derivation) (g : List Act) → are_quiet g ≡ true → are_quiet (close_session p o ++ g) ≡ true
quiet_session p None g quiet = quiet
quiet_session p (Some x) g quiet = quiet

quiet_dropped : (o p : Option Node) (g : List Act) → are_quiet g ≡ true → are_quiet ((close_pending o ++ close_associated p) ++ g) ≡ true
quiet_dropped None None g quiet = quiet
quiet_dropped None (Some p) g quiet = quiet
quiet_dropped (Some o) None g quiet = quiet
quiet_dropped (Some o) (Some p) g quiet = quiet

quiet_give : (kind_ : GroupKind) (p : Node) (b : Mac) (x : GroupKey) (o : Option GroupKey) (g : List Act) → are_quiet g ≡ true → are_quiet (give_by kind_ p b x o ∷ g) ≡ true
quiet_give kind_ p b x None g quiet = quiet
quiet_give kind_ p b x (Some kept) g quiet = quiet

quiet_igtk : (on : Bool) (p : Node) (b : Mac) (x : GroupKey) (h g : List Act) → are_quiet g ≡ true → are_quiet (give_igtk on p b x h ++ g) ≡ true
quiet_igtk false p b x h g quiet = quiet
quiet_igtk true p b x h g quiet = quiet_give groups.Igtk p b x (find_key x.key (memory groups.Igtk p h)) g quiet

pub quiet_keys : (d : Domain) (p : Node) (b : Mac) (keys : GivenKeys) (h g : List Act) → are_quiet g ≡ true → are_quiet (give_all d p b keys h ++ g) ≡ true
quiet_keys d p b keys h g quiet =
    quiet_give groups.Gtk p b keys.gtk (find_key keys.gtk.key (memory groups.Gtk p h)) (give_igtk (protects d) p b keys.igtk h ++ g) (quiet_igtk (protects d) p b keys.igtk h g quiet)

quiet_by : (d : Domain) (n q : Node) (k : Kind) (o : Option ℕ) → are_quiet (response_by d n q k o) ≡ true
quiet_by d n q kind.AssocReq (Some code) = refl
quiet_by d n q kind.FtReq (Some code) = refl
quiet_by d n q kind.ReReq (Some code) = refl
quiet_by d n q k _ = refl

pub quiet_response : (d : Domain) (n : Node) (from : Option Node) (k : Kind) (why : Reason) → are_quiet (response d n from k why) ≡ true
quiet_response d (Ap a) (Some p) k why = quiet_by d (Ap a) p k (refused_status why)
quiet_response d (Ap a) None k why = refl
quiet_response d (Sta s) from k why = refl

quiet_asked : (p : Node) (o : Option Asked) (x : Option PullAnswer) → are_quiet (looked_for p o x) ≡ true
quiet_asked p None x = refl
quiet_asked p (Some a) x = by (single a.names) x
  where
    by : (m : Option (List ℕ)) (y : Option PullAnswer) → are_quiet (looked_by p a m y) ≡ true
    by (Some name) (Some answer) = refl
    by (Some name) None = refl
    by None y = refl

quiet_kind : (k : Kind) (p : Node) (e : ElementFields) (x : Option PullAnswer) → are_quiet (look_of_kind k p e x) ≡ true
quiet_kind kind.FtReq p e x = quiet_asked p (asked e) x
quiet_kind _ p e x = refl

pub quiet_look : (n : Node) (from : Option Node) (r : Reading) (x : Option PmkR1) (why : Reason) → are_quiet (refused_look n from r x why) ≡ true
quiet_look (Ap a) (Some p) (Managed b e) x why = quiet_kind b.kind p e (look_answer why x)
quiet_look (Ap a) (Some p) (NoFrame fault) x why = refl
quiet_look (Ap a) (Some p) PassedOver x why = refl
quiet_look (Ap a) (Some p) (NoElements b fault) x why = refl
quiet_look (Ap a) (Some p) (NoKeyFrame header fault) x why = refl
quiet_look (Ap a) (Some p) (NoMessage header) x why = refl
quiet_look (Ap a) (Some p) (Keyed k) x why = refl
quiet_look (Ap a) (Some p) (Sealed header way tid body) x why = refl
quiet_look (Ap a) (Some p) (Acting header body) x why = refl
quiet_look (Ap a) None r x why = refl
quiet_look (Sta s) from r x why = refl

pub quiet_stored : (p : Node) (k : Kind) (o : Option Stored) → are_quiet (sent_again p k o) ≡ true
quiet_stored p k None = refl
quiet_stored p k (Some s) = refl

pub quiet_elsewhere : (o : Option Node) (g : List Act) → are_quiet g ≡ true → are_quiet (close_associated o ++ g) ≡ true
quiet_elsewhere None g quiet = quiet
quiet_elsewhere (Some p) g quiet = quiet

pub quiet_replaced : (p : Node) (b : Bool) (g : List Act) → are_quiet g ≡ true → are_quiet (replaced p b ++ g) ≡ true
quiet_replaced p true g quiet = quiet
quiet_replaced p false g quiet = quiet

pub quiet_pending : (o : Option Node) (g : List Act) → are_quiet g ≡ true → are_quiet (close_pending o ++ g) ≡ true
quiet_pending None g quiet = quiet
quiet_pending (Some p) g quiet = quiet

quiet_put : (akm : Akm) (d : Domain) (n : Node) (h : List Act) (p : Node) (x : Derivation) → are_quiet (put_acts_by akm d n h p x) ≡ true
quiet_put FtPsk d n h p x = refl
quiet_put Psk d n h p x = refl
quiet_put PskSha256 d n h p x = refl

pub quiet_revoke : (akm : Akm) (d : Domain) (n : Node) (h : List Act) (p : Node) → are_quiet (revoke_acts_by akm d n h p) ≡ true
quiet_revoke FtPsk d n h p = refl
quiet_revoke Psk d n h p = refl
quiet_revoke PskSha256 d n h p = refl

quiet_m3 : (d : Domain) (n : Node) (h : List Act) (p : Node) (part : List Act) (x : Option Derivation) (past : Option (List Act)) → is_quiet (m3_again d n h p part x past) ≡ true
quiet_m3 d n h p part (Some x) (Some past) = refl
quiet_m3 d n h p part x past = refl

quiet_again : (p : Node) (m : Message) (sends : ℕ) (e : Act) → is_quiet e ≡ true → are_quiet (again_or_give_up p m sends e) ≡ true
quiet_again p m sends e quiet = quiet_if (nat_lt sends most_sends) (e ∷ []) (GaveUp p m ∷ Closed p Attempt ∷ []) (ap (λ (b : Bool). b && true) quiet) refl

quiet_close : (p : Node) (sends : ℕ) (e : Act) → is_quiet e ≡ true → are_quiet (again_or_close p sends e) ≡ true
quiet_close p sends e quiet = quiet_if (nat_lt sends most_sends) (e ∷ []) (GaveUp p G1 ∷ Closed p Session ∷ []) (ap (λ (b : Bool). b && true) quiet) refl

quiet_retry_session : (d : Domain) (n : Node) (h : List Act) (p : Node) (o : Option Derivation) → are_quiet (retry_session d n h p o) ≡ true
quiet_retry_session d n h p None = refl
quiet_retry_session d n h p (Some x) = quiet_close p (sent_count p G1 (handshake groups.Gtk p h)) (g1_to d n p h x) refl

quiet_retry_attempt : (d : Domain) (n : Node) (h : List Act) (p : Node) (part : List Act) → are_quiet (retry_attempt d n h p part) ≡ true
quiet_retry_attempt d n h p part =
    quiet_if (has_heard p (kind.Key M2) part)
    (again_or_give_up p M3 (sent_count p M3 part) (m3_again d n h p part (derivation p part) (before_sent p (kind.Key M3) h)))
    (again_or_give_up p M1 (sent_count p M1 part) (sent_m1 d n p (next_counter p h part) (own part)))
    (quiet_again p M3 (sent_count p M3 part) (m3_again d n h p part (derivation p part) (before_sent p (kind.Key M3) h)) (quiet_m3 d n h p part (derivation p part) (before_sent p (kind.Key M3) h)))
    (quiet_again p M1 (sent_count p M1 part) (sent_m1 d n p (next_counter p h part) (own part)) refl)

pub quiet_retry : (d : Domain) (n : Node) (h : List Act) (p : Node) (o : Option (List Act)) → are_quiet (retry_acts d n h p o) ≡ true
quiet_retry d n h p None = quiet_retry_session d n h p (owing groups.Gtk p h)
quiet_retry d n h p (Some part) =
    quiet_if (is_four_way part) (retry_attempt d n h p part) (retry_session d n h p (owing groups.Gtk p h))
    (quiet_retry_attempt d n h p part) (quiet_retry_session d n h p (owing groups.Gtk p h))

-- what follows M4, and what an access point sends for a new group key
quiet_newer : (d : Domain) (n p : Node) (h : List Act) (x : Derivation) (b : Bool) → are_quiet (newer_acts d n p h x b) ≡ true
quiet_newer d n p h x false = refl
quiet_newer d n p h x true = refl

pub quiet_append : (f g : List Act) → are_quiet f ≡ true → are_quiet g ≡ true → are_quiet (f ++ g) ≡ true
quiet_append [] g one two = two
quiet_append (e ∷ f) g one two = let w = and_parts (is_quiet e) (are_quiet f) one in both_quiet (is_quiet e) (are_quiet (f ++ g)) w.0 (quiet_append f g w.1 two)
  where
    both_quiet : (b c : Bool) → b ≡ true → c ≡ true → (b && c) ≡ true
    both_quiet true c s t = t
    both_quiet false c s t = absurd (cc s)

quiet_old : (akm : Akm) (d : Domain) (n : Node) (h : List Act) (p : Node) → are_quiet (old_row_by akm d n h p) ≡ true
quiet_old FtPsk d n h p = quiet_revoke d.akm d n h p
quiet_old Psk d n h p = refl
quiet_old PskSha256 d n h p = refl

quiet_secret : (d : Domain) (n : Node) (h : List Act) (psk : List ℕ) (p : Node) → are_quiet (secret_of d n h psk p) ≡ true
quiet_secret d n h psk p =
    quiet_append (old_row_by d.akm d n h p) _ (quiet_old d.akm d n h p) (quiet_attempt p (attempt p h) _ (quiet_session p (session p h) _ refl))

quiet_each : (d : Domain) (n : Node) (h : List Act) (psk : List ℕ) (k : ℕ) → are_quiet (secret_of_each d n h psk k) ≡ true
quiet_each d n h psk zero = refl
quiet_each d n h psk (suc k) =
    quiet_append (secret_of_each d n h psk k) _ (quiet_each d n h psk k) (quiet_secret d n (add (secret_of_each d n h psk k) h) psk (Sta k))

pub quiet_changed : (d : Domain) (n : Node) (h : List Act) (named : Option ℕ) (psk : List ℕ) → are_quiet (secret_acts d n h named psk) ≡ true
quiet_changed d (Ap a) h (Some s) psk = quiet_secret d (Ap a) h psk (Sta s)
quiet_changed d (Ap a) h None psk = quiet_each d (Ap a) h psk (length d.stas)
quiet_changed d (Sta s) h named psk = quiet_pending (pending h) _ (quiet_elsewhere (associated h) _ refl)

-- what follows the Took of an M4
pub quiet_m4 : (d : Domain) (n p : Node) (h : List Act) (octets : List ℕ) (k : KeyMessage) (x : Derivation)
    → are_quiet ((close_session p (session p h) ++ Installed (One p) (Pairwise x.ptk.tk x.inputs) ∷ Finished p x.inputs ∷ put_acts d n h p x)
    ++ newer_acts d n p (add (m4_acts octets k p x (session p h) (put_acts d n h p x)) h) x (carried_older p h (before_sent p (kind.Key M3) h))) ≡ true
quiet_m4 d n p h octets k x =
    quiet_append (close_session p (session p h) ++ Installed (One p) (Pairwise x.ptk.tk x.inputs) ∷ Finished p x.inputs ∷ put_acts d n h p x)
    (newer_acts d n p (add (m4_acts octets k p x (session p h) (put_acts d n h p x)) h) x (carried_older p h (before_sent p (kind.Key M3) h)))
    (quiet_session p (session p h) (Installed (One p) (Pairwise x.ptk.tk x.inputs) ∷ Finished p x.inputs ∷ put_acts d n h p x) (quiet_put d.akm d n h p x))
    (quiet_newer d n p (add (m4_acts octets k p x (session p h) (put_acts d n h p x)) h) x (carried_older p h (before_sent p (kind.Key M3) h)))

quiet_to : (d : Domain) (n p : Node) (h : List Act) (o : Option Derivation) → are_quiet (to_session d n p h o) ≡ true
quiet_to d n p h None = refl
quiet_to d n p h (Some x) = refl

quiet_all : (d : Domain) (n : Node) (k : ℕ) (h : List Act) → are_quiet (to_sessions d n k h) ≡ true
quiet_all d n zero h = refl
quiet_all d n (suc k) h =
    quiet_append (to_sessions d n k h) (to_session d n (Sta k) (add (to_sessions d n k h) h) (session (Sta k) (add (to_sessions d n k h) h)))
    (quiet_all d n k h) (quiet_to d n (Sta k) (add (to_sessions d n k h) h) (session (Sta k) (add (to_sessions d n k h) h)))

quiet_draw : (on : Bool) (d : Domain) (n : Node) (number : ℕ) → are_quiet (draw_igtk on d n number) ≡ true
quiet_draw false d n number = refl
quiet_draw true d n number = refl

pub quiet_rekey : (d : Domain) (first : ℕ) (n : Node) (h g : List Act) → RekeyRow (here d first n) h g → are_quiet g ≡ true
quiet_rekey d first n h g (Pending late is) = ap are_quiet is
quiet_rekey d first n h g (rekey.Spent all many is) = ap are_quiet is
quiet_rekey d first n h g (Renews role all few is) =
    ap are_quiet is ∙ quiet_append (next_keys (here d first n) h) _ (quiet_draw (protects d) d n (suc (first + draws h))) (quiet_all d n (length d.stas) (add (next_keys (here d first n) h) h))

pub quiet_closed : (p : Node) (o : Option Derivation) → are_quiet (close_session p o) ≡ true
quiet_closed p None = refl
quiet_closed p (Some x) = refl

pub quiet_left : (o p : Option Node) → are_quiet (close_pending o ++ close_associated p) ≡ true
quiet_left None None = refl
quiet_left None (Some p) = refl
quiet_left (Some o) None = refl
quiet_left (Some o) (Some p) = refl

pub quiet_nothing : (g : List Act) → are_quiet g ≡ true → are_quiet (or_nothing g) ≡ true
quiet_nothing [] quiet = refl
quiet_nothing (e ∷ g) quiet = quiet

quiet_current : (on : Bool) (d : Domain) (n : Node) (h : List Act) → are_quiet (current_act groups.Gtk d n h ∷ current_igtk on d n h) ≡ true
quiet_current false d n h = refl
quiet_current true d n h = refl

quiet_switch_by : (b : Bool) (d : Domain) (a : ℕ) (h : List Act) → are_quiet (cond b [] (current_acts d (Ap a) h)) ≡ true
quiet_switch_by true d a h = refl
quiet_switch_by false d a h = quiet_current (protects d) d (Ap a) h

pub quiet_switch : (d : Domain) (a : ℕ) (h : List Act) → are_quiet (switch_acts d a h) ≡ true
quiet_switch d a h = quiet_switch_by (is_current groups.Gtk h || any_owes groups.Gtk (length d.stas) h) d a h

pub quiet_connect : (d : Domain) (first : ℕ) (n : Node) (h : List Act) (p : Node) → are_quiet (connect_acts d first n h p) ≡ true
quiet_connect d first n h p = quiet_dropped (pending h) (associated h) (Opened p Connect ∷ Drew (Nonce (next_nonce d first n h)) ∷ sent_assoc_req d n p ∷ []) refl

pub quiet_send : (d : Domain) (n : Node) (q : Peer) (tid : Option ℕ) (plain : List ℕ) (o : Option SendKey) → are_quiet (send_acts_by d n q tid plain o) ≡ true
quiet_send d n q tid plain None = refl
quiet_send d n q tid plain (Some k) = quiet_if (nat_lt k.used last_number) (Used q k.key k.id (suc k.used) plain ∷ sent_data d n q tid k.key k.id (suc k.used) plain ∷ []) (Idle why.Spent ∷ []) refl refl

pub quiet_announce : (d : Domain) (n : Node) (content : List ℕ) (o : Option SendKey) → are_quiet (announce_acts_by d n content o) ≡ true
quiet_announce d n content None = refl
quiet_announce d n content (Some k) =
    quiet_if (nat_lt k.used last_number) (Used All k.key k.id (suc k.used) content ∷ sent_action d n k.key k.id (suc k.used) content ∷ []) (Idle why.Spent ∷ []) refl refl

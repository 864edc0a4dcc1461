-- Rounds without a changed key leave the network as it is: no other event adds the act that changes one.
use Rattle.std.proofs.Common.{◌≡◌, ℕ, zero, suc, ◌+◌, Bool, true, false, true≢false, cond, List, [], ◌∷◌, ◌++◌, length, Option, Some, None, refl, sym, ap, subst, ◌∙◌}
use Rattle.std.specs.Prelude.{nat_lt, unwrap_or, ◌||◌, if◌then◌else◌}
use Rattle.std.specs.List.{AllByRecursion}
use Rattle.domain_base.specs.declared.names.Akm.{Akm}
use Rattle.domain_base.specs.declared.names.Akm.TheVariants.{Psk, PskSha256, FtPsk}
use Rattle.domain_base.specs.declared.names.Mac.{Mac}
use Rattle.domain_base.specs.declared.names.Node.{Node}
use Rattle.domain_base.specs.declared.names.Node.TheVariants.{Ap, Sta}
use Rattle.domain_base.specs.declared.names.Peer.{Peer}
use Rattle.rsn_elements.specs.Elements.{ElementFields}
use Rattle.key_hierarchy.specs.declared.answers.PullAnswer.{PullAnswer}
use Rattle.key_hierarchy.specs.declared.fast_transition.PmkR1.{PmkR1}
use Rattle.run_journal.specs.declared.domain.Domain.{Domain}
use Rattle.run_journal.specs.Events.{protects}
use Rattle.run_journal.specs.declared.domain.ListedSta.{ListedSta}
use Rattle.run_journal.specs.declared.domain.Event.{Event}
use Rattle.run_journal.specs.declared.domain.Event.TheVariants.{Connect, Deliver, Alter, Cut, Inject}
use Rattle.run_journal.specs.declared.domain.Event.TheVariants as asks
use Rattle.run_journal.specs.declared.acts.Kind.{Kind}
use Rattle.run_journal.specs.declared.acts.Kind.TheVariants as kind
use Rattle.run_journal.specs.declared.acts.Reason.{Reason}
use Rattle.run_journal.specs.declared.acts.Act.{Act}
use Rattle.run_journal.specs.declared.acts.Act.TheVariants as act
use Rattle.run_journal.specs.declared.acts.Entry.{Entry}
use Rattle.run_journal.specs.declared.acts.GroupKind.{GroupKind}
use Rattle.run_journal.specs.declared.acts.GroupKind.TheVariants as groups
use Rattle.run_journal.specs.Acts.{GroupKey, Derivation}
use Rattle.run_journal.specs.Holders.{Stored}
use Rattle.run_journal.specs.Questions.{history, or_else, add, attempt, pending, associated, session, draws}
use Rattle.run_journal.specs.Secrets.{secret_for, last_secret_in, is_secret, changes_keys, change_keys, rounds_change_keys}
use Rattle.domain_rules.specs.Network.{mac}
use Rattle.domain_rules.specs.Reading.{Reading, NoFrame, PassedOver, NoElements, Managed, NoKeyFrame, NoMessage, Keyed, Sealed, Acting, kind_of}
use Rattle.domain_rules.specs.Asking.{is_four_way, in_renewal, has_heard}
use Rattle.domain_rules.specs.Facts.{Facts}
use Rattle.domain_rules.specs.FastTransition.{single}
use Rattle.domain_rules.specs.PacketNumbers.{SendKey, send_key, current, group_send_key}
use Rattle.domain_rules.specs.ManagementFrames.{announced, announce_acts_by}
use Rattle.domain_rules.specs.GroupKeys.{memory, find_key, give_by, give, GivenKeys, give_igtk, give_all, is_current}
use Rattle.domain_rules.specs.KeyHolders.{put_acts_by, put_acts, revoke_acts_by}
use Rattle.domain_rules.specs.Closing.{close_attempt, close_session, close_pending, close_associated, or_nothing, sender}
use Rattle.domain_rules.specs.Owing.{owing, any_owes, current_igtk, current_acts, switch_acts, and_switch}
use Rattle.domain_rules.specs.StationRows.{carried_keys, replaced, ConnectRow, Spent, Asks}
use Rattle.domain_rules.specs.AccessPointRows.{most_sends, m4_acts, newer_acts, again_or_give_up, m3_again, retry_attempt, again_or_close, retry_session, retry_acts, to_session, to_sessions, draw_igtk, draw_acts, next_keys, RekeyRow, Pending, Renews, start_acts, g1_to}
use Rattle.domain_rules.specs.AccessPointRows as rekey
use Rattle.domain_rules.specs.PairwiseRenewal.{RenewRow}
use Rattle.domain_rules.specs.PairwiseRenewal as renew
use Rattle.domain_rules.specs.TransitionKeys.{Asked, asked}
use Rattle.domain_rules.specs.TransitionRows.{RoamRow, NoSession, SamePeer, keys_by, sent_again, look_answer, looked_by, looked_for, look_of_kind, refused_look}
use Rattle.domain_rules.specs.TransitionRows as roam
use Rattle.domain_rules.specs.DataRows.{send_acts_by}
use Rattle.domain_rules.proofs.Sending.{sent_by}
use Rattle.domain_rules.specs.Rows.{NodeEvent, Take, Begin, Retry, Rekey, Send, Expire, Leave, Roam as RoamEvent, Revoke, Secret, Renew as RenewEvent, Announce as AnnounceEvent, refused_status, response_by, response, TakeRows, By_assoc_req, By_assoc_resp, By_m1, By_opening_m1, By_m2, By_m3, By_repeated_m3, By_m4, By_g1, By_g2, By_ft_req, By_repeated_ft_req, By_ft_resp, By_re_req, By_repeated_re_req, By_re_resp, By_data, By_action, By_ignored, By_refusal, RowOf, Adds}
use Rattle.domain_rules.specs.Here.{here}
use Rattle.domain_rules.specs.Present.{keyed, present}
use Rattle.domain_rules.specs.Rounds.{Place, in_order, put_place, is_not_behind}
use Rattle.domain_rules.specs.Explained.{HappensAt, Happens, At_one, At_many, AllHappen, AddsAll, number_of, push, Follows, started, Explained}

-- ---- acts that change no key

abbrev pub NoSecrets : List Act → Type 0
NoSecrets g = AllByRecursion (λ (e : Act). is_secret e ≡ false) g

by_says : (f g : List Act) → g ≡ f → NoSecrets f → NoSecrets g
by_says f g says none = subst NoSecrets (sym says) none

pub no_secrets_append : (f g : List Act) → NoSecrets f → NoSecrets g → NoSecrets (f ++ g)
no_secrets_append [] g none more = more
no_secrets_append (e ∷ f) g none more = (none.0, no_secrets_append f g none.1 more)

by_either : (b : Bool) (f g : List Act) → NoSecrets f → NoSecrets g → NoSecrets (if b then f else g)
by_either true f g none more = none
by_either false f g none more = more

pub attempt_closed : (p : Node) (o : Option (List Act)) → NoSecrets (close_attempt p o)
attempt_closed p None = tt
attempt_closed p (Some part) = (refl, tt)

pub session_closed : (p : Node) (o : Option Derivation) → NoSecrets (close_session p o)
session_closed p None = tt
session_closed p (Some x) = (refl, tt)

pub pending_closed : (o : Option Node) → NoSecrets (close_pending o)
pending_closed None = tt
pending_closed (Some p) = (refl, tt)

pub associated_closed : (o : Option Node) → NoSecrets (close_associated o)
associated_closed None = tt
associated_closed (Some p) = (refl, tt)

nothing_else : (g : List Act) → NoSecrets g → NoSecrets (or_nothing g)
nothing_else [] none = (refl, tt)
nothing_else (e ∷ g) none = none

key_given : (kind : GroupKind) (p : Node) (b : Mac) (g : GroupKey) (o : Option GroupKey) → is_secret (give_by kind p b g o) ≡ false
key_given kind p b g None = refl
key_given kind p b g (Some kept) = refl

gives : (kind : GroupKind) (p : Node) (b : Mac) (g : GroupKey) (h : List Act) → is_secret (give kind p b g h) ≡ false
gives kind p b g h = key_given kind p b g (find_key g.key (memory kind p h))

gives_igtk : (mfp : Bool) (p : Node) (b : Mac) (g : GroupKey) (h : List Act) → NoSecrets (give_igtk mfp p b g h)
gives_igtk true p b g h = (gives groups.Igtk p b g h, tt)
gives_igtk false p b g h = tt

gives_all : (d : Domain) (p : Node) (b : Mac) (keys : GivenKeys) (h : List Act) → NoSecrets (give_all d p b keys h)
gives_all d p b keys h = (gives groups.Gtk p b keys.gtk h, gives_igtk (protects d) p b keys.igtk h)

again : (p : Node) (k : Kind) (o : Option Stored) → NoSecrets (sent_again p k o)
again p k None = tt
again p k (Some s) = (refl, tt)

row_put : (akm : Akm) (d : Domain) (n : Node) (h : List Act) (p : Node) (x : Derivation) → NoSecrets (put_acts_by akm d n h p x)
row_put FtPsk d n h p x = (refl, tt)
row_put Psk d n h p x = tt
row_put PskSha256 d n h p x = tt

pub row_revoked : (akm : Akm) (d : Domain) (n : Node) (h : List Act) (p : Node) → NoSecrets (revoke_acts_by akm d n h p)
row_revoked FtPsk d n h p = (refl, tt)
row_revoked Psk d n h p = (refl, tt)
row_revoked PskSha256 d n h p = (refl, tt)

newer : (d : Domain) (n p : Node) (h : List Act) (x : Derivation) (b : Bool) → NoSecrets (newer_acts d n p h x b)
newer d n p h x true = (refl, tt)
newer d n p h x false = tt

-- ---- what is sent once more

m3_sent : (d : Domain) (n : Node) (h : List Act) (p : Node) (part : List Act) (o : Option Derivation) (past : Option (List Act)) → is_secret (m3_again d n h p part o past) ≡ false
m3_sent d n h p part None past = refl
m3_sent d n h p part (Some x) None = refl
m3_sent d n h p part (Some x) (Some past) = refl

given_up : (p : Node) (sends : ℕ) (e : Act) → is_secret e ≡ false → (m : _) → NoSecrets (again_or_give_up p m sends e)
given_up p sends e none m = by_either (nat_lt sends most_sends) (e ∷ []) _ (none, tt) (refl, (refl, tt))

closed : (p : Node) (sends : ℕ) (e : Act) → is_secret e ≡ false → NoSecrets (again_or_close p sends e)
closed p sends e none = by_either (nat_lt sends most_sends) (e ∷ []) _ (none, tt) (refl, (refl, tt))

by_heard : (p : Node) (k : Kind) (part f g : List Act) → NoSecrets f → NoSecrets g → NoSecrets (if has_heard p k part then f else g)
by_heard p k part f g none more = by_either (has_heard p k part) f g none more

attempt_again : (d : Domain) (n : Node) (h : List Act) (p : Node) (part : List Act) → NoSecrets (retry_attempt d n h p part)
attempt_again d n h p part =
    search (by_heard, given_up, m3_sent, refl)

session_again : (d : Domain) (n : Node) (h : List Act) (p : Node) (o : Option Derivation) → NoSecrets (retry_session d n h p o)
session_again d n h p None = (refl, tt)
session_again d n h p (Some x) = closed p _ (g1_to d n p h x) refl

retried : (d : Domain) (n : Node) (h : List Act) (p : Node) (o : Option (List Act)) → NoSecrets (retry_acts d n h p o)
retried d n h p None = session_again d n h p (owing groups.Gtk p h)
retried d n h p (Some part) = by_either (is_four_way part) _ _ (attempt_again d n h p part) (session_again d n h p (owing groups.Gtk p h))

-- ---- a new group key, and the switch

to_one : (d : Domain) (n p : Node) (h : List Act) (o : Option Derivation) → NoSecrets (to_session d n p h o)
to_one d n p h None = tt
to_one d n p h (Some x) = (refl, tt)

to_all : (d : Domain) (n : Node) (k : ℕ) (h : List Act) → NoSecrets (to_sessions d n k h)
to_all d n zero h = tt
to_all d n (suc k) h =
    no_secrets_append (to_sessions d n k h) _ (to_all d n k h) (to_one d n (Sta k) (add (to_sessions d n k h) h) (session (Sta k) (add (to_sessions d n k h) h)))

igtk_drawn : (mfp : Bool) (d : Domain) (n : Node) (number : ℕ) → NoSecrets (draw_igtk mfp d n number)
igtk_drawn true d n number = (refl, tt)
igtk_drawn false d n number = tt

pub keys_drawn : (d : Domain) (n : Node) (number : ℕ) → NoSecrets (draw_acts d n number)
keys_drawn d n number = (refl, igtk_drawn (protects d) d n (suc number))

rekeys : (d : Domain) (first : ℕ) (n : Node) (h g : List Act) → RekeyRow (here d first n) h g → NoSecrets g
rekeys d first n h g (Pending late is) = by_says _ g is (refl, tt)
rekeys d first n h g (rekey.Spent all many is) = by_says _ g is (refl, tt)
rekeys d first n h g (Renews role all few is) =
    by_says _ g is (no_secrets_append (next_keys (here d first n) h) _ (keys_drawn d n (first + draws h)) (to_all d n (length d.stas) (add (next_keys (here d first n) h) h)))

switch_by : (b : Bool) (f : List Act) → NoSecrets f → NoSecrets (cond b [] f)
switch_by true f none = tt
switch_by false f none = none

igtk_current : (mfp : Bool) (d : Domain) (n : Node) (h : List Act) → NoSecrets (current_igtk mfp d n h)
igtk_current true d n h = (refl, tt)
igtk_current false d n h = tt

pub keys_current : (d : Domain) (n : Node) (h : List Act) → NoSecrets (current_acts d n h)
keys_current d n h = (refl, igtk_current (protects d) d n h)

pub switches : (d : Domain) (a : ℕ) (h : List Act) → NoSecrets (switch_acts d a h)
switches d a h = switch_by (is_current groups.Gtk h || any_owes groups.Gtk (length d.stas) h) (current_acts d (Ap a) h) (keys_current d (Ap a) h)

pub and_switches : (d : Domain) (n : Node) (h acts : List Act) → NoSecrets acts → NoSecrets (and_switch d n h acts)
and_switches d (Sta s) h acts none = none
and_switches d (Ap a) h acts none = no_secrets_append acts _ none (switches d a (add acts h))

-- ---- what is sent, asked and refused

by_room : (used last : ℕ) (f g : List Act) → NoSecrets f → NoSecrets g → NoSecrets (if nat_lt used last then f else g)
by_room used last f g none more = by_either (nat_lt used last) f g none more

data_sent : (d : Domain) (n : Node) (q : Peer) (tid : Option ℕ) (plain : List ℕ) (o : Option SendKey) → NoSecrets (send_acts_by d n q tid plain o)
data_sent d n q tid plain None = (refl, tt)
data_sent d n q tid plain (Some k) = by_room k.used _ _ _ (refl, (refl, tt)) (refl, tt)

announces : (d : Domain) (n : Node) (content : List ℕ) (o : Option SendKey) → NoSecrets (announce_acts_by d n content o)
announces d n content None = (refl, tt)
announces d n content (Some k) = by_room k.used _ _ _ (refl, (refl, tt)) (refl, tt)

session_replaced : (p : Node) (b : Bool) → NoSecrets (replaced p b)
session_replaced p true = (refl, tt)
session_replaced p false = tt

renews_key : (d : Domain) (first : ℕ) (n : Node) (h : List Act) (p : Node) (g : List Act) → RenewRow (here d first n) h p g → NoSecrets g
renews_key d first n h p g (renew.NoSession none is) = by_says _ g is (refl, tt)
renews_key d first n h p g (renew.Nothing x some part going is) = by_says _ g is (refl, tt)
renews_key d first n h p g (renew.Spent x some free many is) = by_says _ g is (refl, tt)
renews_key d first n h p g (renew.Begins role on x some free few is) = by_says _ g is (refl, (refl, (refl, tt)))

connects : (d : Domain) (first : ℕ) (n : Node) (h : List Act) (p : Node) (g : List Act) → ConnectRow (here d first n) h p g → NoSecrets g
connects d first n h p g (Spent many is) = by_says _ g is (refl, tt)
connects d first n h p g (Asks few is) =
    by_says _ g is (no_secrets_append (close_pending (pending h) ++ close_associated (associated h)) _ (no_secrets_append (close_pending (pending h)) (close_associated (associated h)) (pending_closed (pending h)) (associated_closed (associated h))) (refl, (refl, (refl, tt))))

roams : (d : Domain) (first : ℕ) (n : Node) (h : List Act) (p : Node) (g : List Act) → RoamRow (here d first n) h p g → NoSecrets g
roams d first n h p g (NoSession none is) = by_says _ g is (refl, tt)
roams d first n h p g (SamePeer q some same_ is) = by_says _ g is (refl, tt)
roams d first n h p g (roam.Spent q some other many is) = by_says _ g is (refl, tt)
roams d first n h p g (roam.Asks suite q some other few is) = by_says _ g is (no_secrets_append (close_pending (pending h)) _ (pending_closed (pending h)) (refl, (refl, (refl, tt))))

answers_by : (d : Domain) (n q : Node) (k : Kind) (o : Option ℕ) → NoSecrets (response_by d n q k o)
answers_by d n q kind.AssocReq (Some code) = (refl, tt)
answers_by d n q kind.FtReq (Some code) = (refl, tt)
answers_by d n q kind.ReReq (Some code) = (refl, tt)
answers_by d n q k _ = tt

answers : (d : Domain) (n : Node) (from : Option Node) (k : Kind) (why : Reason) → NoSecrets (response d n from k why)
answers d (Ap a) (Some p) k why = answers_by d (Ap a) p k (refused_status why)
answers d (Ap a) None k why = tt
answers d (Sta s) from k why = tt

asked_for : (p : Node) (o : Option Asked) (x : Option PullAnswer) → NoSecrets (looked_for p o x)
asked_for p None x = tt
asked_for p (Some a) x = by (single a.names) x
  where
    by : (m : Option (List ℕ)) (y : Option PullAnswer) → NoSecrets (looked_by p a m y)
    by (Some name) (Some answer) = (refl, tt)
    by (Some name) None = tt
    by None y = tt

look_kind : (k : Kind) (p : Node) (e : ElementFields) (x : Option PullAnswer) → NoSecrets (look_of_kind k p e x)
look_kind kind.FtReq p e x = asked_for p (asked e) x
look_kind _ p e x = tt

looks : (n : Node) (from : Option Node) (r : Reading) (x : Option PmkR1) (why : Reason) → NoSecrets (refused_look n from r x why)
looks (Ap a) (Some p) (Managed b e) x why = look_kind b.kind p e (look_answer why x)
looks (Ap a) (Some p) (NoFrame fault) x why = tt
looks (Ap a) (Some p) PassedOver x why = tt
looks (Ap a) (Some p) (NoElements b fault) x why = tt
looks (Ap a) (Some p) (NoKeyFrame header fault) x why = tt
looks (Ap a) (Some p) (NoMessage header) x why = tt
looks (Ap a) (Some p) (Keyed k) x why = tt
looks (Ap a) (Some p) (Sealed header way tid body) x why = tt
looks (Ap a) (Some p) (Acting header body) x why = tt
looks (Ap a) None r x why = tt
looks (Sta s) from r x why = tt

-- ---- each event but a changed key

module _ (d : Domain) (first : ℕ) (n : Node) (h : List Act) (octets : List ℕ) (r : Reading) (facts : Facts) (g : List Act) where
  takes : TakeRows (here d first n) h octets r facts g → NoSecrets g
  takes (By_assoc_req row) = by_says _ g row.says (refl, no_secrets_append (close_attempt row.p (attempt row.p h)) _ (attempt_closed row.p (attempt row.p h)) (refl, (refl, (refl, (refl, tt)))))
  takes (By_assoc_resp row) = by_says _ g row.says (refl, tt)
  takes (By_m1 row) = by_says _ g row.says (refl, (refl, (refl, tt)))
  takes (By_opening_m1 row) = by_says _ g row.says (refl, (refl, (refl, (refl, (refl, tt)))))
  takes (By_m2 row) = by_says _ g row.says (refl, (refl, (refl, tt)))
  takes (By_m3 row) = by_says _ g row.says (
    refl,
    no_secrets_append (replaced row.p (in_renewal (attempt row.p h))) _ (session_replaced row.p (in_renewal (attempt row.p h)))
        (refl, no_secrets_append (give_all d row.p (mac d row.p) (carried_keys facts.data_) h) _ (gives_all d row.p (mac d row.p) (carried_keys facts.data_) h) (refl, (refl, tt))),
  )
  takes (By_repeated_m3 row) = by_says _ g row.says (refl, (refl, tt))
  takes (By_m4 row) =
      by_says _ g row.says (no_secrets_append (m4_acts octets row.k row.p row.x (session row.p h) (put_acts d n h row.p row.x)) _
      (refl, no_secrets_append (close_session row.p (session row.p h)) _ (session_closed row.p (session row.p h)) (refl, (refl, row_put d.akm d n h row.p row.x)))
      (newer d n row.p (add (m4_acts octets row.k row.p row.x (session row.p h) (put_acts d n h row.p row.x)) h) row.x _))
  takes (By_g1 row) = by_says _ g row.says (refl, no_secrets_append (give_all d row.p (mac d row.p) (carried_keys facts.data_) h) _ (gives_all d row.p (mac d row.p) (carried_keys facts.data_) h) (refl, tt))
  takes (By_g2 row) = by_says _ g row.says (refl, tt)
  takes (By_ft_req row) = by_says _ g row.says (refl, (refl, no_secrets_append (close_attempt row.p (attempt row.p h)) _ (attempt_closed row.p (attempt row.p h)) (refl, (refl, (refl, (refl, tt))))))
  takes (By_repeated_ft_req row) = by_says _ g row.says (refl, again row.p kind.FtResp _)
  takes (By_ft_resp row) = by_says _ g row.says (refl, (refl, (refl, tt)))
  takes (By_re_req row) = by_says _ g row.says (refl, no_secrets_append (close_session row.p (session row.p h)) _ (session_closed row.p (session row.p h)) (refl, (refl, (refl, tt))))
  takes (By_repeated_re_req row) = by_says _ g row.says (refl, again row.p kind.ReResp _)
  takes (By_re_resp row) = by_says _ g row.says (
    refl,
    no_secrets_append (close_associated (associated h)) _ (associated_closed (associated h))
        (refl, no_secrets_append (give_all d row.p (mac d row.p) (keys_by row.e.fte facts) h) _ (gives_all d row.p (mac d row.p) (keys_by row.e.fte facts) h) (refl, tt)),
  )
  takes (By_data row) = by_says _ g row.says (refl, (refl, tt))
  takes (By_action row) = by_says _ g row.says (refl, (refl, tt))
  takes (By_ignored row) = by_says _ g row.says (refl, tt)
  takes (By_refusal row) =
      by_says _ g row.says (refl, no_secrets_append (refused_look n (sender d n r) r facts.pulled row.why) _ (looks n (sender d n r) r facts.pulled row.why) (answers d n (sender d n r) (kind_of r) row.why))

-- what an event is to a node changes no key
abbrev pub changes : NodeEvent → Bool
changes (Secret named psk) = true
changes _ = false

of_row : (d : Domain) (first : ℕ) (n : Node) (h : List Act) (event : NodeEvent) (g : List Act) → changes event ≡ false → RowOf (here d first n) h event g → NoSecrets g
of_row d first n h (Take octets) g still row = takes d first n h octets row.r row.facts g row.row
of_row d first n h (Begin a) g still row = connects d first n h (Ap a) g row
of_row d first n h (Retry s) g still row = by_says _ g row (retried d n h (Sta s) (attempt (Sta s) h))
of_row d first n h Rekey g still row = rekeys d first n h g row
of_row d first n h (Send q tid octets) g still row =
    by_says _ g row (sent_by NoSecrets (here d first n) h q tid octets (data_sent d n q tid octets (send_key h q))
    (λ a p k at to is due. no_secrets_append (send_acts_by d n q tid octets (send_key h q)) _ (data_sent d n q tid octets (send_key h q)) (refl, (refl, (refl, tt)))))
of_row d first n h (Expire s) g still row =
    by_says _ g row (nothing_else _ (no_secrets_append (close_attempt (Sta s) (attempt (Sta s) h)) _ (attempt_closed (Sta s) (attempt (Sta s) h)) (session_closed (Sta s) (session (Sta s) h))))
of_row d first n h Leave g still row = by_says _ g row (nothing_else _ (no_secrets_append (close_pending (pending h)) _ (pending_closed (pending h)) (associated_closed (associated h))))
of_row d first n h (RoamEvent a) g still row = roams d first n h (Ap a) g row
of_row d first n h (Revoke s) g still row = by_says _ g row (row_revoked d.akm d n h (Sta s))
of_row d first n h (Secret named psk) g still row = absurd (true≢false still)
of_row d first n h (RenewEvent s) g still row = renews_key d first n h (Sta s) g row
of_row d first n h (AnnounceEvent octets) g still row = by_says _ g row (announces d n (announced octets) (group_send_key groups.Igtk h (current groups.Igtk h)))

pub adds_no_secret : (d : Domain) (first : ℕ) (n : Node) (h : List Act) (event : NodeEvent) (g : List Act) → changes event ≡ false → Adds (here d first n) h event g → NoSecrets g
adds_no_secret d first n h event g still adds = by_says _ g adds.is (and_switches d n h adds.acts (of_row d first n h event adds.acts still adds.row))

-- ---- what comes of it in a journal

pub no_secret : (p : Node) (e : Act) → is_secret e ≡ false → secret_for p e ≡ None
no_secret p (act.Secret q psk) is = absurd (true≢false is)
no_secret p _ is = refl

-- no entry changes a key
abbrev pub Unchanged : List Entry → Type 0
Unchanged j = AllByRecursion (λ (e : Entry). is_secret e.act ≡ false) j

pub unchanged_push : (round : ℕ) (n : Node) (g : List Act) (past : List Entry) → NoSecrets g → Unchanged past → Unchanged (push round n g past)
unchanged_push round n [] past none all = all
unchanged_push round n (e ∷ g) past none all = unchanged_push round n g (record { round = round; node = n; number = number_of e past; act = e } ∷ past) none.1 (none.0, all)

last_none : (p : Node) (j : List Entry) → Unchanged j → last_secret_in p j ≡ None
last_none p [] all = refl
last_none p (e ∷ past) all = ap (λ (o : Option (List ℕ)). or_else o (last_secret_in p past)) (no_secret p e.act all.0) ∙ last_none p past all.1

pub last_push : (p : Node) (round : ℕ) (n : Node) (g : List Act) (past : List Entry) → NoSecrets g → last_secret_in p (push round n g past) ≡ last_secret_in p past
last_push p round n [] past none = refl
last_push p round n (e ∷ g) past none =
    last_push p round n g (record { round = round; node = n; number = number_of e past; act = e } ∷ past) none.1 ∙ ap (λ (o : Option (List ℕ)). or_else o (last_secret_in p past)) (no_secret p e none.0)

-- a station with another key
abbrev with_psk : ListedSta → Option (List ℕ) → ListedSta
with_psk s o = record { address = s.address; psk = unwrap_or o s.psk }

pub keyed_same : (i j : List Entry) (k : ℕ) (stas : List ListedSta) → ((p : Node) → last_secret_in p i ≡ last_secret_in p j) → keyed i k stas ≡ keyed j k stas
keyed_same i j k [] same_ = refl
keyed_same i j k (s ∷ stas) same_ =
    ap (λ (o : Option (List ℕ)). with_psk s o ∷ keyed i (suc k) stas) (same_ (Sta k)) ∙ ap (λ (l : List ListedSta). with_psk s (last_secret_in (Sta k) j) ∷ l) (keyed_same i j (suc k) stas same_)

keyed_none : (j : List Entry) (k : ℕ) (stas : List ListedSta) → Unchanged j → keyed j k stas ≡ stas
keyed_none j k [] all = refl
keyed_none j k (s ∷ stas) all =
    ap (λ (o : Option (List ℕ)). with_psk s o ∷ keyed j (suc k) stas) (last_none (Sta k) j all) ∙ ap (λ (l : List ListedSta). s ∷ l) (keyed_none j (suc k) stas all)

abbrev with_stas : Domain → List ListedSta → Domain
with_stas d stas = record d { stas = stas }

pub present_same : (d : Domain) (i j : List Entry) → ((p : Node) → last_secret_in p i ≡ last_secret_in p j) → present d i ≡ present d j
present_same d i j same_ = ap (with_stas d) (keyed_same i j zero d.stas same_)

pub present_none : (d : Domain) (j : List Entry) → Unchanged j → present d j ≡ d
present_none d j all = ap (with_stas d) (keyed_none j zero d.stas all)

-- ---- rounds of events that change none

either_false : (a b : Bool) → (a || b) ≡ false → (a ≡ false) × (b ≡ false)
either_false false b is = (refl, is)
either_false true b is = absurd (true≢false is)

pub happens_still : (e : Event) (past : List Entry) (round : ℕ) (n : Node) (x : NodeEvent) → HappensAt e past round n x → (changes_keys e ≡ false) × (changes x ≡ false)
happens_still (Connect s a) past round n x is = (refl, ap changes is.1)
happens_still (asks.Roam s a) past round n x is = (refl, ap changes is.1)
happens_still (Deliver number to) past round n x is = (refl, ap changes is.1.1.1)
happens_still (Alter number place mask to) past round n x is = (refl, ap changes is.1.1.1)
happens_still (Cut number size to) past round n x is = (refl, ap changes is.1.1.1)
happens_still (Inject to octets) past round n x is = (refl, ap changes is.1)
happens_still (asks.Retry a s) past round n x is = (refl, ap changes is.1)
happens_still (asks.Rekey a) past round n x is = (refl, ap changes is.1)
happens_still (asks.Send from to tid octets) past round n x is = (refl, ap changes is.1)
happens_still (asks.Expire a s) past round n x is = (refl, ap changes is.1)
happens_still (asks.Revoke a s) past round n x is = (refl, ap changes is.1)
happens_still (asks.Leave s) past round n x is = (refl, ap changes is.1)
happens_still (asks.Secret named psk) past round n x is = absurd is
happens_still (asks.Renew a s) past round n x is = (refl, ap changes is.1)
happens_still (asks.Announce a octets) past round n x is = (refl, ap changes is.1)

pub still_more : (e : Event) (rounds : List (List Event)) → changes_keys e ≡ false → rounds_change_keys rounds ≡ false → rounds_change_keys ((e ∷ []) ∷ rounds) ≡ false
still_more e rounds one all = rw (one, all) refl

abbrev pub Still : List Place → Type 0
Still places = AllByRecursion (λ (p : Place). changes p.event ≡ false) places

still_one : (d : Domain) (e : Event) (past : List Entry) (round : ℕ) (places : List Place) → changes_keys e ≡ false → Happens d e past round places → Still places
still_one d e past round places still (At_one p happens is) = subst Still (sym is) ((happens_still e past round p.node p.event happens).1, tt)
still_one d e past round places still (At_many named psk is at) = absurd (true≢false (sym (ap changes_keys is) ∙ still))

still_append : (xs ys : List Place) → Still xs → Still ys → Still (xs ++ ys)
still_append [] ys one more = more
still_append (p ∷ xs) ys one more = (one.0, still_append xs ys one.1 more)

pub still_all : (d : Domain) (events : List Event) (past : List Entry) (round : ℕ) (places : List Place) → change_keys events ≡ false → AllHappen d events past round places → Still places
still_all d [] past round places still is = subst Still (sym is) tt
still_all d (e ∷ events) past round places still (here_, (others, (one, (rest, cut)))) =
    let w = either_false (changes_keys e) (change_keys events) still in
    subst Still (sym cut) (still_append here_ others (still_one d e past round here_ w.0 one) (still_all d events past round others w.1 rest))

-- what all places have they have in order
all_put : (P : Place → Type 0) (p : Place) (places : List Place) → P p → AllByRecursion P places → AllByRecursion P (put_place p places)
all_put P p [] one all = (one, tt)
all_put P p (q ∷ places) one all = by (is_not_behind p.node q.node) (all_put P p places one all.1)
  where
    by : (b : Bool) → AllByRecursion P (put_place p places) → AllByRecursion P (cond b (p ∷ q ∷ places) (q ∷ put_place p places))
    by true rest = (one, all)
    by false rest = (all.0, rest)

pub all_ordered : (P : Place → Type 0) (places : List Place) → AllByRecursion P places → AllByRecursion P (in_order places)
all_ordered P [] all = tt
all_ordered P (p ∷ places) all = all_put P p (in_order places) all.0 (all_ordered P places all.1)

unchanged_all : (d : Domain) (round : ℕ) (places : List Place) (old new : List Entry) → Still places → AddsAll d round places old new → Unchanged old → Unchanged new
unchanged_all d round [] old new still is all = subst Unchanged (sym is) all
unchanged_all d round (p ∷ places) old new still (acts, (adds, rest)) all =
    unchanged_all d round places (push round p.node acts old) new still.1 rest (unchanged_push round p.node acts old (adds_no_secret d 0 p.node (history p.node old) p.event acts still.0 adds) all)

pub unchanged_follows : (d : Domain) (round : ℕ) (events : List Event) (old new : List Entry) → change_keys events ≡ false → Follows d round events old new → Unchanged old → Unchanged new
unchanged_follows d round events old new still f all =
    unchanged_all (present d old) round (in_order f.places) old new (all_ordered (λ (p : Place). changes p.event ≡ false) f.places (still_all d events old round f.places still f.happen)) f.adds all

-- an access point starts
pub starts_still : (d : Domain) (first : ℕ) (n : Node) → NoSecrets (start_acts d first n)
starts_still d first n = no_secrets_append (draw_acts d n first) _ (keys_drawn d n first) (keys_current d n (add (draw_acts d n first) []))

pub unchanged_started : (d : Domain) (k : ℕ) → Unchanged (started d k)
unfolding started
unchanged_started d zero = tt
unchanged_started d (suc k) = unchanged_push 0 (Ap k) (start_acts d 0 (Ap k)) (started d k) (starts_still d 0 (Ap k)) (unchanged_started d k)

pub unchanged : (d : Domain) (rounds : List (List Event)) (j : List Entry) → rounds_change_keys rounds ≡ false → Explained d rounds j → Unchanged j
unfolding Explained
unchanged d [] j still is = subst Unchanged (sym is) (unchanged_started d (length d.aps))
unchanged d (round ∷ rounds) j still (old, (before, follows)) =
    let w = either_false (change_keys round) (rounds_change_keys rounds) still in
    unchanged_follows d (suc (length rounds)) round old j w.0 follows (unchanged d rounds old w.1 before)

-- so the network stays that of the header
pub same_network : (d : Domain) (rounds : List (List Event)) (j : List Entry) → rounds_change_keys rounds ≡ false → Explained d rounds j → present d j ≡ d
same_network d rounds j still explained = present_none d j (unchanged d rounds j still explained)

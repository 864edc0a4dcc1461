-- Acts that ask no key holder: all of a station, and those by which an access point starts.
use Rattle.std.proofs.Common.{◌≡◌, ◌∙◌, ℕ, zero, suc, ◌+◌, Bool, true, false, true≢false, List, [], ◌∷◌, ◌++◌, length, Option, Some, None, refl, sym, ap, subst, inl}
use Rattle.std.specs.Prelude.{not, nat_lt, if◌then◌else◌}
use Rattle.domain_base.specs.declared.names.Akm.{Akm}
use Rattle.domain_base.specs.declared.names.Akm.TheVariants.{Psk, PskSha256, FtPsk}
use Rattle.domain_base.specs.declared.names.Mac.{Mac}
use Rattle.domain_base.specs.declared.names.Node.{Node}
use Rattle.domain_base.specs.declared.names.Node.TheVariants.{Ap, Sta}
use Rattle.domain_base.specs.declared.names.Peer.{Peer}
use Rattle.run_journal.specs.declared.domain.Domain.{Domain}
use Rattle.run_journal.specs.declared.acts.Kind.{Kind}
use Rattle.run_journal.specs.declared.acts.Kind.TheVariants as kind
use Rattle.run_journal.specs.declared.acts.Reason.TheVariants as reason
use Rattle.run_journal.specs.declared.acts.Outcome.TheVariants.{Accepted}
use Rattle.run_journal.specs.declared.acts.Act.{Act}
use Rattle.run_journal.specs.declared.acts.GroupKind.{GroupKind}
use Rattle.run_journal.specs.declared.acts.GroupKind.TheVariants as groups
use Rattle.run_journal.specs.Acts.{GroupKey, Derivation}
use Rattle.run_journal.specs.Holders.{Stored}
use Rattle.run_journal.specs.Questions.{add, attempt, pending, associated, session, draws}
use Rattle.domain_rules.specs.Reading.{Reading, Managed}
use Rattle.domain_rules.specs.Asking.{is_four_way, in_renewal, has_heard}
use Rattle.domain_rules.specs.Facts.{Facts}
use Rattle.domain_rules.specs.Associating.{management_verdict}
use Rattle.domain_rules.specs.Verdict.{first_verdict, further, is_mine, management_sender}
use Rattle.domain_rules.specs.Network.{mac}
use Rattle.domain_rules.specs.PacketNumbers.{SendKey, send_key, current, group_send_key}
use Rattle.domain_rules.specs.GroupKeys.{give_by, GivenKeys, give_all}
use Rattle.domain_rules.specs.KeyHolders.{put_acts_by, put_acts, revoke_acts_by}
use Rattle.domain_rules.specs.Closing.{close_attempt, close_session, close_pending, close_associated, or_nothing}
use Rattle.domain_rules.specs.ChangedKeys.{old_row_by, secret_of, secret_of_each, secret_acts}
use Rattle.domain_rules.specs.Owing.{owing, and_switch}
use Rattle.domain_rules.specs.StationRows.{replaced, carried_keys, ConnectRow, Spent, Asks}
use Rattle.domain_rules.specs.AccessPointRows.{most_sends, m4_acts, newer_acts, again_or_give_up, m3_again, retry_attempt, again_or_close, retry_session, retry_acts, RekeyRow, Pending, Renews, expire_acts, start_acts, g1_to}
use Rattle.domain_rules.specs.AccessPointRows as rekey
use Rattle.domain_rules.specs.PairwiseRenewal.{RenewRow}
use Rattle.domain_rules.specs.PairwiseRenewal as renewal
use Rattle.domain_rules.specs.TransitionRows.{RoamRow, NoSession, SamePeer, sent_again, keys_by, FtReqRow}
use Rattle.domain_rules.specs.TransitionRows as roam
use Rattle.domain_rules.specs.DataRows.{send_acts_by}
use Rattle.domain_rules.specs.ManagementFrames.{announced, announce_acts_by}
use Rattle.domain_rules.specs.Rows.{NodeEvent, Take, Begin, Retry, Rekey, Send, Expire, Leave, Roam as RoamEvent, Revoke, Secret, Renew, Announce, TakeRows, By_assoc_req, By_assoc_resp, By_m1, By_opening_m1, By_m2, By_m3, By_repeated_m3, By_m4, By_g1, By_g2, By_ft_req, By_repeated_ft_req, By_ft_resp, By_re_req, By_repeated_re_req, By_re_resp, By_data, By_action, By_ignored, By_refusal, RowOf, Adds}
use Rattle.domain_rules.specs.Here.{here}
use Rattle.domain_rules.proofs.Deciding.{IsTaken, never, taken_behind}
use Rattle.domain_rules.proofs.GroupActs.{all_given, all_switched, all_started}
use Rattle.domain_rules.proofs.OneOutcome.{taken_from, and_accepted}
use Rattle.held_rows.specs.Knows.{LeaveRows, moves_rows}
use Rattle.held_rows.specs.Looks.{IsNoLook, NoLooks}

-- ---- parts of the rows

by_says : (f g : List Act) → g ≡ f → NoLooks f → NoLooks g
by_says f g says none = subst NoLooks (sym says) none

append : (f g : List Act) → NoLooks f → NoLooks g → NoLooks (f ++ g)
append [] g none more = more
append (e ∷ f) g none more = (none.0, append f g none.1 more)

by_either : (b : Bool) (f g : List Act) → NoLooks f → NoLooks g → NoLooks (if b then f else g)
by_either true f g none more = none
by_either false f g none more = more

attempt_closed : (p : Node) (o : Option (List Act)) → NoLooks (close_attempt p o)
attempt_closed p None = tt
attempt_closed p (Some part) = (tt, tt)

session_closed : (p : Node) (o : Option Derivation) → NoLooks (close_session p o)
session_closed p None = tt
session_closed p (Some x) = (tt, tt)

pending_closed : (o : Option Node) → NoLooks (close_pending o)
pending_closed None = tt
pending_closed (Some p) = (tt, tt)

associated_closed : (o : Option Node) → NoLooks (close_associated o)
associated_closed None = tt
associated_closed (Some p) = (tt, tt)

nothing_else : (g : List Act) → NoLooks g → NoLooks (or_nothing g)
nothing_else [] none = (tt, tt)
nothing_else (e ∷ g) none = none

key_given : (which : GroupKind) (p : Node) (b : Mac) (g : GroupKey) (o : Option GroupKey) → IsNoLook (give_by which p b g o)
key_given which p b g None = tt
key_given which p b g (Some kept) = tt

gives : (d : Domain) (p : Node) (b : Mac) (keys : GivenKeys) (h : List Act) → NoLooks (give_all d p b keys h)
gives d p b keys h = all_given IsNoLook key_given d p b keys h

again : (p : Node) (k : Kind) (o : Option Stored) → NoLooks (sent_again p k o)
again p k None = tt
again p k (Some s) = (tt, tt)

row_put : (akm : Akm) (d : Domain) (n : Node) (h : List Act) (p : Node) (x : Derivation) → NoLooks (put_acts_by akm d n h p x)
row_put FtPsk d n h p x = (tt, tt)
row_put Psk d n h p x = tt
row_put PskSha256 d n h p x = tt

row_revoked : (akm : Akm) (d : Domain) (n : Node) (h : List Act) (p : Node) → NoLooks (revoke_acts_by akm d n h p)
row_revoked FtPsk d n h p = (tt, tt)
row_revoked Psk d n h p = (tt, tt)
row_revoked PskSha256 d n h p = (tt, tt)

newer : (d : Domain) (n p : Node) (h : List Act) (x : Derivation) (b : Bool) → NoLooks (newer_acts d n p h x b)
newer d n p h x true = (tt, tt)
newer d n p h x false = tt

key_replaced : (p : Node) (b : Bool) → NoLooks (replaced p b)
key_replaced p true = (tt, tt)
key_replaced p false = tt

-- ---- what is sent once more

m3_sent : (d : Domain) (n : Node) (h : List Act) (p : Node) (part : List Act) (o : Option Derivation) (past : Option (List Act)) → IsNoLook (m3_again d n h p part o past)
m3_sent d n h p part None past = tt
m3_sent d n h p part (Some x) None = tt
m3_sent d n h p part (Some x) (Some past) = tt

given_up : (p : Node) (sends : ℕ) (e : Act) → IsNoLook e → (m : _) → NoLooks (again_or_give_up p m sends e)
given_up p sends e none m = by_either (nat_lt sends most_sends) (e ∷ []) _ (none, tt) (tt, (tt, tt))

closed : (p : Node) (sends : ℕ) (e : Act) → IsNoLook e → NoLooks (again_or_close p sends e)
closed p sends e none = by_either (nat_lt sends most_sends) (e ∷ []) _ (none, tt) (tt, (tt, tt))

by_heard : (p : Node) (k : Kind) (part f g : List Act) → NoLooks f → NoLooks g → NoLooks (if has_heard p k part then f else g)
by_heard p k part f g none more = by_either (has_heard p k part) f g none more

attempt_again : (d : Domain) (n : Node) (h : List Act) (p : Node) (part : List Act) → NoLooks (retry_attempt d n h p part)
attempt_again d n h p part =
    search (by_heard, given_up, m3_sent, tt)

session_again : (d : Domain) (n : Node) (h : List Act) (p : Node) (o : Option Derivation) → NoLooks (retry_session d n h p o)
session_again d n h p None = (tt, tt)
session_again d n h p (Some x) = closed p _ (g1_to d n p h x) tt

retried : (d : Domain) (n : Node) (h : List Act) (p : Node) (o : Option (List Act)) → NoLooks (retry_acts d n h p o)
retried d n h p None = session_again d n h p (owing groups.Gtk p h)
retried d n h p (Some part) = by_either (is_four_way part) _ _ (attempt_again d n h p part) (session_again d n h p (owing groups.Gtk p h))

-- ---- events at a station

by_room : (used last : ℕ) (f g : List Act) → NoLooks f → NoLooks g → NoLooks (if nat_lt used last then f else g)
by_room used last f g none more = by_either (nat_lt used last) f g none more

data_sent : (d : Domain) (n : Node) (q : Peer) (tid : Option ℕ) (plain : List ℕ) (o : Option SendKey) → NoLooks (send_acts_by d n q tid plain o)
data_sent d n q tid plain None = (tt, tt)
data_sent d n q tid plain (Some k) = by_room k.used _ _ _ (tt, (tt, tt)) (tt, tt)

announces : (d : Domain) (n : Node) (content : List ℕ) (o : Option SendKey) → NoLooks (announce_acts_by d n content o)
announces d n content None = (tt, tt)
announces d n content (Some k) = by_room k.used _ _ _ (tt, (tt, tt)) (tt, tt)

connects : (d : Domain) (first : ℕ) (n : Node) (h : List Act) (p : Node) (g : List Act) → ConnectRow (here d first n) h p g → NoLooks g
connects d first n h p g (Spent many is) = by_says _ g is (tt, tt)
connects d first n h p g (Asks few is) =
    by_says _ g is (append (close_pending (pending h) ++ close_associated (associated h)) _ (append (close_pending (pending h)) (close_associated (associated h)) (pending_closed (pending h)) (associated_closed (associated h))) (tt, (tt, (tt, tt))))

roams : (d : Domain) (first : ℕ) (n : Node) (h : List Act) (p : Node) (g : List Act) → RoamRow (here d first n) h p g → NoLooks g
roams d first n h p g (NoSession none is) = by_says _ g is (tt, tt)
roams d first n h p g (SamePeer q some same is) = by_says _ g is (tt, tt)
roams d first n h p g (roam.Spent q some other many is) = by_says _ g is (tt, tt)
roams d first n h p g (roam.Asks suite q some other few is) = by_says _ g is (append (close_pending (pending h)) _ (pending_closed (pending h)) (tt, (tt, (tt, tt))))

rekeys : (d : Domain) (first k : ℕ) (h g : List Act) → RekeyRow (here d first (Sta k)) h g → NoLooks g
rekeys d first k h g (Pending late is) = by_says _ g is (tt, tt)
rekeys d first k h g (rekey.Spent all many is) = by_says _ g is (tt, tt)
rekeys d first k h g (Renews role all few is) = absurd (true≢false (sym role))

renews : (d : Domain) (first k : ℕ) (h : List Act) (p : Node) (g : List Act) → RenewRow (here d first (Sta k)) h p g → NoLooks g
renews d first k h p g (renewal.NoSession none is) = by_says _ g is (tt, tt)
renews d first k h p g (renewal.Nothing x some part going is) = by_says _ g is (tt, tt)
renews d first k h p g (renewal.Spent x some free many is) = by_says _ g is (tt, tt)
renews d first k h p g (renewal.Begins role on x some free few is) = absurd (true≢false (sym role))

-- a station accepts no request for authentication
no_request : (d : Domain) (first k : ℕ) (h : List Act) (octets : List ℕ) (r : Reading) (facts : Facts) (g : List Act) → FtReqRow (here d first (Sta k)) h octets r facts g → ⊥
no_request d first k h octets r facts g row =
    let accepted : first_verdict d first (Sta k) h r ≡ Accepted = and_accepted (first_verdict d first (Sta k) h r) (further d first (Sta k) h r facts) row.accepted in
    let taken : first_verdict d first (Sta k) h (Managed row.b row.e) ≡ Accepted = subst (λ (x : Reading). first_verdict d first (Sta k) h x ≡ Accepted) row.is accepted in
    let behind = taken_from (management_sender d (Sta k) row.b.header) (λ p. management_verdict d (first + draws h) (Sta k) h p row.b.kind row.b row.e) (taken_behind (not (is_mine d (Sta k) row.b.header)) reason.NotForMe _ (inl taken)) in
    never reason.Unawaited (subst (λ (x : Kind). IsTaken (management_verdict d (first + draws h) (Sta k) h behind.0 x row.b row.e)) row.kind_is behind.1.1)

module _ (d : Domain) (first k : ℕ) (h : List Act) (octets : List ℕ) (r : Reading) (facts : Facts) (g : List Act) where
  takes : TakeRows (here d first (Sta k)) h octets r facts g → NoLooks g
  takes (By_assoc_req row) = by_says _ g row.says (tt, append (close_attempt row.p (attempt row.p h)) _ (attempt_closed row.p (attempt row.p h)) (tt, (tt, (tt, (tt, tt)))))
  takes (By_assoc_resp row) = by_says _ g row.says (tt, tt)
  takes (By_m1 row) = by_says _ g row.says (tt, (tt, (tt, tt)))
  takes (By_opening_m1 row) = by_says _ g row.says (tt, (tt, (tt, (tt, (tt, tt)))))
  takes (By_m2 row) = by_says _ g row.says (tt, (tt, (tt, tt)))
  takes (By_m3 row) =
      let b = in_renewal (attempt row.p h) in
      by_says _ g row.says (tt, append (replaced row.p b) _ (key_replaced row.p b) (tt, append (give_all d row.p (mac d row.p) (carried_keys facts.data_) h) _ (gives d row.p (mac d row.p) (carried_keys facts.data_) h) (tt, (tt, tt))))
  takes (By_repeated_m3 row) = by_says _ g row.says (tt, (tt, tt))
  takes (By_m4 row) =
      by_says _ g row.says (append (m4_acts octets row.k row.p row.x (session row.p h) (put_acts d (Sta k) h row.p row.x)) _
      (tt, append (close_session row.p (session row.p h)) _ (session_closed row.p (session row.p h)) (tt, (tt, row_put d.akm d (Sta k) h row.p row.x)))
      (newer d (Sta k) row.p (add (m4_acts octets row.k row.p row.x (session row.p h) (put_acts d (Sta k) h row.p row.x)) h) row.x _))
  takes (By_g1 row) = by_says _ g row.says (tt, append (give_all d row.p (mac d row.p) (carried_keys facts.data_) h) _ (gives d row.p (mac d row.p) (carried_keys facts.data_) h) (tt, tt))
  takes (By_g2 row) = by_says _ g row.says (tt, tt)
  takes (By_ft_req row) = absurd (no_request d first k h octets r facts g row)
  takes (By_repeated_ft_req row) = by_says _ g row.says (tt, again row.p kind.FtResp _)
  takes (By_ft_resp row) = by_says _ g row.says (tt, (tt, (tt, tt)))
  takes (By_re_req row) = by_says _ g row.says (tt, append (close_session row.p (session row.p h)) _ (session_closed row.p (session row.p h)) (tt, (tt, (tt, tt))))
  takes (By_repeated_re_req row) = by_says _ g row.says (tt, again row.p kind.ReResp _)
  takes (By_re_resp row) =
      by_says _ g row.says (
        tt,
        append (close_associated (associated h)) _ (associated_closed (associated h))
            (tt, append (give_all d row.p (mac d row.p) (keys_by row.e.fte facts) h) _ (gives d row.p (mac d row.p) (keys_by row.e.fte facts) h) (tt, tt)),
      )
  takes (By_data row) = by_says _ g row.says (tt, (tt, tt))
  takes (By_action row) = by_says _ g row.says (tt, (tt, tt))
  takes (By_ignored row) = by_says _ g row.says (tt, tt)
  takes (By_refusal row) = by_says _ g row.says (tt, tt)

of_row : (d : Domain) (first k : ℕ) (h : List Act) (event : NodeEvent) (g : List Act) → RowOf (here d first (Sta k)) h event g → NoLooks g
of_row d first k h (Take octets) g row = takes d first k h octets row.r row.facts g row.row
of_row d first k h (Begin a) g row = connects d first (Sta k) h (Ap a) g row
of_row d first k h (Retry s) g row = by_says _ g row (retried d (Sta k) h (Sta s) (attempt (Sta s) h))
of_row d first k h Rekey g row = rekeys d first k h g row
of_row d first k h (Send q tid octets) g row = by_says _ g row (data_sent d (Sta k) q tid octets (send_key h q))
of_row d first k h (Expire s) g row =
    by_says _ g row (nothing_else _ (append (close_attempt (Sta s) (attempt (Sta s) h)) _ (attempt_closed (Sta s) (attempt (Sta s) h)) (session_closed (Sta s) (session (Sta s) h))))
of_row d first k h Leave g row = by_says _ g row (nothing_else _ (append (close_pending (pending h)) _ (pending_closed (pending h)) (associated_closed (associated h))))
of_row d first k h (RoamEvent a) g row = roams d first (Sta k) h (Ap a) g row
of_row d first k h (Revoke s) g row = by_says _ g row (row_revoked d.akm d (Sta k) h (Sta s))
of_row d first k h (Secret named psk) g row =
    by_says _ g row (append (close_pending (pending h)) _ (pending_closed (pending h)) (append (close_associated (associated h)) _ (associated_closed (associated h)) (tt, tt)))
of_row d first k h (Renew s) g row = renews d first k h (Sta s) g row
of_row d first k h (Announce octets) g row = by_says _ g row (announces d (Sta k) (announced octets) (group_send_key groups.Igtk h (current groups.Igtk h)))

pub station_no_looks : (d : Domain) (first k : ℕ) (h : List Act) (event : NodeEvent) (g : List Act) → Adds (here d first (Sta k)) h event g → NoLooks g
station_no_looks d first k h event g adds = by_says adds.acts g adds.is (of_row d first k h event adds.acts adds.row)

-- ---- a changed key

old_row : (akm : Akm) (d : Domain) (n : Node) (h : List Act) (p : Node) → NoLooks (old_row_by akm d n h p)
old_row FtPsk d n h p = row_revoked d.akm d n h p
old_row Psk d n h p = tt
old_row PskSha256 d n h p = tt

secret_one : (d : Domain) (n : Node) (h : List Act) (psk : List ℕ) (p : Node) → NoLooks (secret_of d n h psk p)
secret_one d n h psk p =
    append (old_row_by d.akm d n h p) _ (old_row d.akm d n h p) (append (close_attempt p (attempt p h)) _ (attempt_closed p (attempt p h)) (append (close_session p (session p h)) _ (session_closed p (session p h)) (tt, tt)))

secret_each : (d : Domain) (n : Node) (h : List Act) (psk : List ℕ) (k : ℕ) → NoLooks (secret_of_each d n h psk k)
secret_each d n h psk zero = tt
secret_each d n h psk (suc k) = append (secret_of_each d n h psk k) _ (secret_each d n h psk k) (secret_one d n (add (secret_of_each d n h psk k) h) psk (Sta k))

secret_named : (d : Domain) (a : ℕ) (h : List Act) (named : Option ℕ) (psk : List ℕ) → NoLooks (secret_acts d (Ap a) h named psk)
secret_named d a h (Some s) psk = secret_one d (Ap a) h psk (Sta s)
secret_named d a h None psk = secret_each d (Ap a) h psk (length d.stas)

pub secret_no_looks : (d : Domain) (first : ℕ) (n : Node) (h : List Act) (named : Option ℕ) (psk : List ℕ) (g : List Act) → Adds (here d first n) h (Secret named psk) g → NoLooks g
secret_no_looks d first (Sta k) h named psk g adds = station_no_looks d first k h (Secret named psk) g adds
secret_no_looks d first (Ap a) h named psk g adds =
    by_says _ g (adds.is ∙ ap (and_switch d (Ap a) h) adds.row)
    (append (secret_acts d (Ap a) h named psk) _ (secret_named d a h named psk) (all_switched IsNoLook (λ which key id b. tt) d a (add (secret_acts d (Ap a) h named psk) h)))

-- ---- the start of an access point

pub start_no_looks : (d : Domain) (first k : ℕ) → NoLooks (start_acts d first (Ap k)) × LeaveRows (start_acts d first (Ap k))
start_no_looks d first k = (
  all_started IsNoLook (λ which key. tt) (λ which key id b. tt) d first (Ap k),
  all_started (λ (e : Act). moves_rows e ≡ false) (λ which key. refl) (λ which key id b. refl) d first (Ap k),
)

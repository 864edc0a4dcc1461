-- How many acts an event adds.
use Rattle.std.proofs.Common.{◌≡◌, ℕ, zero, suc, ◌+◌, ◌≤◌, Bool, true, false, true≢false, List, [], ◌∷◌, ◌++◌, length, Option, Some, None, refl, ap, arith, length-append}
use Rattle.std.specs.Prelude.{cond, ◌||◌, if◌then◌else◌, nat_lt}
use Rattle.domain_base.specs.declared.names.Akm.{Akm}
use Rattle.domain_base.specs.declared.names.Akm.TheVariants.{Psk, PskSha256, FtPsk}
use Rattle.domain_base.specs.declared.names.Node.{Node}
use Rattle.domain_base.specs.declared.names.Node.TheVariants.{Ap}
use Rattle.domain_base.specs.declared.names.Mac.{Mac}
use Rattle.domain_base.specs.declared.names.Peer.{Peer}
use Rattle.domain_base.specs.declared.names.Peer.TheVariants.{All}
use Rattle.run_journal.specs.declared.domain.Domain.{Domain}
use Rattle.run_journal.specs.declared.domain.Event.{Event}
use Rattle.run_journal.specs.declared.acts.Kind.{Kind}
use Rattle.run_journal.specs.declared.acts.Kind.TheVariants as kind
use Rattle.run_journal.specs.declared.acts.Reason.{Reason}
use Rattle.run_journal.specs.declared.acts.Act.{Act}
use Rattle.run_journal.specs.declared.acts.Act.TheVariants.{GaveUp, Closed, Idle, Used}
use Rattle.run_journal.specs.declared.acts.Part.TheVariants.{Attempt, Session}
use Rattle.run_journal.specs.declared.acts.Why.TheVariants as why
use Rattle.run_journal.specs.declared.acts.GroupKind.TheVariants as groups
use Rattle.run_journal.specs.Questions.{attempt, derivation, before_sent, session, handshake, pending, associated, draws, add}
use Rattle.run_journal.specs.Acts.{Derivation, GroupKey}
use Rattle.run_journal.specs.Events.{protects}
use Rattle.run_journal.specs.Secrets.{changes_keys}
use Rattle.run_journal.specs.declared.domain.Event.TheVariants as asks
use Rattle.eapol_key.specs.declared.messages.Message.{Message}
use Rattle.eapol_key.specs.declared.messages.Message.TheVariants.{M1, M2, M3, G1}
use Rattle.domain_base.specs.declared.names.Node.TheVariants.{Sta}
use Rattle.key_hierarchy.specs.declared.answers.PullAnswer.{PullAnswer}
use Rattle.key_hierarchy.specs.declared.fast_transition.PmkR1.{PmkR1}
use Rattle.rsn_elements.specs.Elements.{ElementFields}
use Rattle.run_journal.specs.Holders.{Stored, first_stored, since_finished}
use Rattle.domain_rules.specs.FastTransition.{single}
use Rattle.domain_rules.specs.KeyHolders.{put_acts_by, put_acts, revoke_acts_by}
use Rattle.domain_rules.specs.TransitionKeys.{Asked, asked}
use Rattle.domain_rules.specs.TransitionRows.{RoamRow, NoSession, SamePeer, sent_again, look_answer, looked_by, looked_for, look_of_kind, refused_look, keys_by}
use Rattle.domain_rules.specs.TransitionRows as roam
use Rattle.domain_rules.specs.Reading.{Reading, Managed, KeyMessage, kind_of}
use Rattle.domain_rules.specs.Facts.{Facts}
use Rattle.domain_rules.specs.Network.{mac}
use Rattle.domain_rules.specs.Asking.{is_four_way, in_renewal, has_heard, own}
use Rattle.domain_rules.specs.Counters.{sent_count, next_counter}
use Rattle.domain_rules.specs.Frames.{sent_m1}
use Rattle.domain_rules.specs.Rows.{NodeEvent, Take, Begin, Roam, Retry, Rekey, Send, Expire, Revoke, Leave, Secret, Renew, Announce, RowOf, Adds, refused_status, response_by, response, TakeRows, By_assoc_req, By_assoc_resp, By_m1, By_opening_m1, By_m2, By_m3, By_repeated_m3, By_m4, By_g1, By_g2, By_ft_req, By_repeated_ft_req, By_ft_resp, By_re_req, By_repeated_re_req, By_re_resp, By_data, By_action, By_ignored, By_refusal}
use Rattle.domain_rules.specs.AccessPointRows.{again_or_give_up, most_sends, m3_again, retry_attempt, retry_session, retry_acts, g1_to, carried_older, m4_acts, newer_acts, to_session, to_sessions, draw_igtk, draw_acts, next_keys, start_acts, RekeyRow, Pending, Spent as NoDraw, Renews, expire_acts}
use Rattle.domain_rules.specs.PairwiseRenewal.{renew_acts, RenewRow}
use Rattle.domain_rules.specs.PairwiseRenewal as renewal
use Rattle.domain_rules.specs.Owing.{owing, any_owes, current_igtk, current_acts, switch_acts, and_switch}
use Rattle.domain_rules.specs.GroupKeys.{is_current, GivenKeys, give_igtk, give_all}
use Rattle.domain_rules.specs.Closing.{close_session, close_attempt, close_pending, close_associated, or_nothing, sender}
use Rattle.domain_rules.specs.StationRows.{replaced, carried_keys, ConnectRow, Spent, Asks, leave_acts}
use Rattle.domain_rules.specs.DataFrames.{sent_data}
use Rattle.domain_rules.specs.DataRows.{used_acts, send_acts_by, send_acts}
use Rattle.domain_rules.specs.ManagementFrames.{announced, announce_acts_by, sent_action}
use Rattle.domain_rules.specs.PacketNumbers.{SendKey, send_key, current, group_send_key}
use Rattle.domain_rules.specs.Rounds.{most_acts}
use Rattle.domain_rules.specs.Here.{here}
use Rattle.domain_rules.proofs.Unchanged.{changes}
use Rattle.domain_rules.proofs.Sending.{sent_by}

short_attempt : (p : Node) (part : Option (List Act)) → length (close_attempt p part) ≤ 1
short_attempt p None = omega arith
short_attempt p (Some part) = omega arith

short_pending : (p : Option Node) → length (close_pending p) ≤ 1
short_pending None = omega arith
short_pending (Some p) = omega arith

short_session : (p : Node) (x : Option Derivation) → length (close_session p x) ≤ 1
short_session p None = omega arith
short_session p (Some x) = omega arith

short_if : (b : Bool) (x y : List Act) → length x ≤ 2 → length y ≤ 2 → length (if b then x else y) ≤ 2
short_if true x y low other = low
short_if false x y other low = low

short_again_by : (b : Bool) (p : Node) (m : Message) (act : Act) → length (if b then act ∷ [] else GaveUp p m ∷ Closed p Attempt ∷ []) ≤ 2
short_again_by true p m act = omega arith
short_again_by false p m act = omega arith

short_again : (p : Node) (m : Message) (sends : ℕ) (act : Act) → length (again_or_give_up p m sends act) ≤ 2
short_again p m sends act = short_again_by (nat_lt sends most_sends) p m act

short_retry_attempt : (d : Domain) (n : Node) (h : List Act) (p : Node) (part : List Act) → length (retry_attempt d n h p part) ≤ 2
short_retry_attempt d n h p part =
    let m3 = m3_again d n h p part (derivation p part) (before_sent p (kind.Key M3) h) in
    let m1 = sent_m1 d n p (next_counter p h part) (own part) in
    short_if (has_heard p (kind.Key M2) part) (again_or_give_up p M3 (sent_count p M3 part) m3) (again_or_give_up p M1 (sent_count p M1 part) m1)
    (short_again p M3 (sent_count p M3 part) m3) (short_again p M1 (sent_count p M1 part) m1)

one_act : (act : Act) → length (act ∷ []) ≤ 2
one_act act = omega arith

short_close_by : (b : Bool) (p : Node) (act : Act) → length (if b then act ∷ [] else GaveUp p G1 ∷ Closed p Session ∷ []) ≤ 2
short_close_by true p act = omega arith
short_close_by false p act = omega arith

short_retry_session : (d : Domain) (n : Node) (h : List Act) (p : Node) (x : Option Derivation) → length (retry_session d n h p x) ≤ 2
short_retry_session d n h p None = one_act (Idle why.Nothing)
short_retry_session d n h p (Some x) = short_close_by (nat_lt (sent_count p G1 (handshake groups.Gtk p h)) most_sends) p (g1_to d n p h x)

short_retry : (d : Domain) (n : Node) (h : List Act) (p : Node) (part : Option (List Act)) → length (retry_acts d n h p part) ≤ 2
short_retry d n h p None = short_retry_session d n h p (owing groups.Gtk p h)
short_retry d n h p (Some part) =
    short_if (is_four_way part) (retry_attempt d n h p part) (retry_session d n h p (owing groups.Gtk p h)) (short_retry_attempt d n h p part) (short_retry_session d n h p (owing groups.Gtk p h))

short_associated : (p : Option Node) → length (close_associated p) ≤ 1
short_associated None = omega arith
short_associated (Some p) = omega arith

short_answer : (d : Domain) (n p : Node) (k : Kind) (o : Option ℕ) → length (response_by d n p k o) ≤ 1
short_answer d n p kind.AssocReq (Some code) = omega arith
short_answer d n p kind.FtReq (Some code) = omega arith
short_answer d n p kind.ReReq (Some code) = omega arith
short_answer d n p k _ = omega arith

short_response : (d : Domain) (n : Node) (from : Option Node) (k : Kind) (why : Reason) → length (response d n from k why) ≤ 1
short_response d (Ap a) (Some p) k why = short_answer d (Ap a) p k (refused_status why)
short_response d (Ap a) None k why = omega arith
short_response d (Sta s) from k why = omega arith

-- a look at a key holder
short_looked : (p : Node) (a : Asked) (name : Option (List ℕ)) (answer : Option PullAnswer) → length (looked_by p a name answer) ≤ 1
short_looked p a (Some name) (Some answer) = omega arith
short_looked p a (Some name) None = omega arith
short_looked p a None answer = omega arith

short_look_for : (p : Node) (a : Option Asked) (answer : Option PullAnswer) → length (looked_for p a answer) ≤ 1
short_look_for p None answer = omega arith
short_look_for p (Some a) answer = short_looked p a (single a.names) answer

short_look_of : (k : Kind) (p : Node) (e : ElementFields) (answer : Option PullAnswer) → length (look_of_kind k p e answer) ≤ 1
short_look_of kind.FtReq p e answer = short_look_for p (asked e) answer
short_look_of _ p e answer = omega arith

short_look : (n : Node) (from : Option Node) (r : Reading) (pulled : Option PmkR1) (why : Reason) → length (refused_look n from r pulled why) ≤ 1
short_look (Ap a) (Some p) (Managed b e) pulled why = short_look_of b.kind p e (look_answer why pulled)
short_look n from r pulled why = omega arith

short_again_sent : (p : Node) (k : Kind) (o : Option Stored) → length (sent_again p k o) ≤ 1
short_again_sent p k None = omega arith
short_again_sent p k (Some s) = omega arith

short_put : (akm : Akm) (d : Domain) (n : Node) (h : List Act) (p : Node) (x : Derivation) → length (put_acts_by akm d n h p x) ≤ 1
short_put Psk d n h p x = omega arith
short_put PskSha256 d n h p x = omega arith
short_put FtPsk d n h p x = omega arith

short_m4 : (octets : List ℕ) (k : KeyMessage) (p : Node) (x : Derivation) (old : Option Derivation) (put : List Act) → length put ≤ 1 → length (m4_acts octets k p x old put) ≤ 5
short_m4 octets k p x None put short = omega (arith, short)
short_m4 octets k p x (Some y) put short = omega (arith, short)

short_newer : (d : Domain) (n p : Node) (after : List Act) (x : Derivation) (b : Bool) → length (newer_acts d n p after x b) ≤ 1
short_newer d n p after x false = omega arith
short_newer d n p after x true = omega arith

-- an act or two, the end of an attempt or a session, and what stands behind it
few_behind : (a : Act) (close after g : List Act) → g ≡ a ∷ close ++ after → length close ≤ 1 → length after ≤ 4 → length g ≤ 7
few_behind a close after g says short four = omega (arith, ap length says, length-append close after, short, four)

few_behind_two : (a b : Act) (close after g : List Act) → g ≡ a ∷ b ∷ close ++ after → length close ≤ 1 → length after ≡ 4 → length g ≤ 7
few_behind_two a b close after g says short four = omega (arith, ap length says, length-append close after, short, four)

-- a session whose key is renewed ends
short_replaced : (p : Node) (b : Bool) → length (replaced p b) ≤ 1
short_replaced p true = omega arith
short_replaced p false = omega arith

-- the group keys of one message are two at most
short_igtk : (b : Bool) (p : Node) (m : Mac) (g : GroupKey) (h : List Act) → length (give_igtk b p m g h) ≤ 1
short_igtk true p m g h = omega arith
short_igtk false p m g h = omega arith

short_given : (d : Domain) (p : Node) (m : Mac) (keys : GivenKeys) (h : List Act) → length (give_all d p m keys h) ≤ 2
short_given d p m keys h = omega (arith, short_igtk (protects d) p m keys.igtk h)

few_given : (x y : Act) (keys g : List Act) → g ≡ x ∷ (keys ++ y ∷ []) → length keys ≤ 2 → length g ≤ 7
few_given x y keys g says short = omega (arith, ap length says, length-append keys (y ∷ []), short)

-- M3, and a reassociation response, may end a part before
few_with_keys : (a x y : Act) (close keys g : List Act) → g ≡ a ∷ close ++ x ∷ (keys ++ y ∷ []) → length close ≤ 1 → length keys ≤ 2 → length g ≤ 7
few_with_keys a x y close keys g says closed short = omega (arith, ap length says, length-append close (x ∷ (keys ++ y ∷ [])), length-append keys (y ∷ []), closed, short)

few_replaced : (a x y z : Act) (close keys g : List Act) → g ≡ a ∷ close ++ x ∷ (keys ++ y ∷ z ∷ []) → length close ≤ 1 → length keys ≤ 2 → length g ≤ 7
few_replaced a x y z close keys g says closed short = omega (arith, ap length says, length-append close (x ∷ (keys ++ y ∷ z ∷ [])), length-append keys (y ∷ z ∷ []), closed, short)

few_rows : (d : Domain) (first : ℕ) (n : Node) (h : List Act) (octets : List ℕ) (r : Reading) (facts : Facts) (g : List Act) → TakeRows (here d first n) h octets r facts g → length g ≤ 7
few_rows d first n h octets r facts g (By_assoc_req row) = let long = simp length-append at (ap length row.says) in omega (arith, long, short_attempt row.p (attempt row.p h))
few_rows d first n h octets r facts g (By_assoc_resp row) = omega (arith, ap length row.says)
few_rows d first n h octets r facts g (By_m1 row) = omega (arith, ap length row.says)
few_rows d first n h octets r facts g (By_opening_m1 row) = omega (arith, ap length row.says)
few_rows d first n h octets r facts g (By_m2 row) = omega (arith, ap length row.says)
few_rows d first n h octets r facts g (By_m3 row) =
    let b = in_renewal (attempt row.p h) in
    let keys = give_all d row.p (mac d row.p) (carried_keys facts.data_) h in
    few_replaced _ _ _ _ (replaced row.p b) keys g row.says (short_replaced row.p b) (short_given d row.p (mac d row.p) (carried_keys facts.data_) h)
few_rows d first n h octets r facts g (By_repeated_m3 row) = omega (arith, ap length row.says)
few_rows d first n h octets r facts g (By_m4 row) =
    let put = put_acts d n h row.p row.x in
    let acts = m4_acts octets row.k row.p row.x (session row.p h) put in
    let more = newer_acts d n row.p (add acts h) row.x (carried_older row.p h (before_sent row.p (kind.Key M3) h)) in
    let short = short_newer d n row.p (add acts h) row.x (carried_older row.p h (before_sent row.p (kind.Key M3) h)) in
    omega (arith, ap length row.says, length-append acts more, short_m4 octets row.k row.p row.x (session row.p h) put (short_put d.akm d n h row.p row.x), short)
few_rows d first n h octets r facts g (By_g1 row) = few_given _ _ (give_all d row.p (mac d row.p) (carried_keys facts.data_) h) g row.says (short_given d row.p (mac d row.p) (carried_keys facts.data_) h)
few_rows d first n h octets r facts g (By_g2 row) = omega (arith, ap length row.says)
few_rows d first n h octets r facts g (By_ft_req row) = few_behind_two _ _ (close_attempt row.p (attempt row.p h)) _ g row.says (short_attempt row.p (attempt row.p h)) refl
few_rows d first n h octets r facts g (By_repeated_ft_req row) = omega (arith, ap length row.says, short_again_sent row.p kind.FtResp (first_stored row.p kind.FtResp row.part))
few_rows d first n h octets r facts g (By_ft_resp row) = omega (arith, ap length row.says)
few_rows d first n h octets r facts g (By_re_req row) = few_behind _ (close_session row.p (session row.p h)) _ g row.says (short_session row.p (session row.p h)) (omega arith)
few_rows d first n h octets r facts g (By_repeated_re_req row) = omega (arith, ap length row.says, short_again_sent row.p kind.ReResp (first_stored row.p kind.ReResp (since_finished row.p h)))
few_rows d first n h octets r facts g (By_re_resp row) =
    let keys = give_all d row.p (mac d row.p) (keys_by row.e.fte facts) h in
    few_with_keys _ _ _ (close_associated (associated h)) keys g row.says (short_associated (associated h)) (short_given d row.p (mac d row.p) (keys_by row.e.fte facts) h)
few_rows d first n h octets r facts g (By_data row) = omega (arith, ap length row.says)
few_rows d first n h octets r facts g (By_action row) = omega (arith, ap length row.says)
few_rows d first n h octets r facts g (By_ignored row) = omega (arith, ap length row.says)
few_rows d first n h octets r facts g (By_refusal row) =
    let look = refused_look n (sender d n r) r facts.pulled row.why in
    let answer = response d n (sender d n r) (kind_of r) row.why in
    omega (arith, ap length row.says, length-append look answer, short_look n (sender d n r) r facts.pulled row.why, short_response d n (sender d n r) (kind_of r) row.why)

few_connect : (d : Domain) (first : ℕ) (n : Node) (h : List Act) (p : Node) (g : List Act) → ConnectRow (here d first n) h p g → length g ≤ 7
few_connect d first n h p g (Spent spent says) = omega (arith, ap length says)
few_connect d first n h p g (Asks asks says) = let long = simp length-append at (ap length says) in omega (arith, long, short_pending (pending h), short_associated (associated h))

few_roam : (d : Domain) (first : ℕ) (n : Node) (h : List Act) (p : Node) (g : List Act) → RoamRow (here d first n) h p g → length g ≤ 7
few_roam d first n h p g (NoSession none says) = omega (arith, ap length says)
few_roam d first n h p g (SamePeer q with_ same says) = omega (arith, ap length says)
few_roam d first n h p g (roam.Spent q with_ other spent says) = omega (arith, ap length says)
few_roam d first n h p g (roam.Asks mobile q with_ other low says) = let long = simp length-append at (ap length says) in omega (arith, long, short_pending (pending h))

short_revoke : (akm : Akm) (d : Domain) (n : Node) (h : List Act) (p : Node) → length (revoke_acts_by akm d n h p) ≤ 1
short_revoke Psk d n h p = omega arith
short_revoke PskSha256 d n h p = omega arith
short_revoke FtPsk d n h p = omega arith

-- a payload that is sent
short_used_by : (b : Bool) (x y z : Act) → length (if b then x ∷ y ∷ [] else z ∷ []) ≤ 2
short_used_by true x y z = omega arith
short_used_by false x y z = omega arith

short_used : (d : Domain) (n : Node) (q : Peer) (tid : Option ℕ) (plain : List ℕ) (k : SendKey) → length (used_acts d n q tid plain k) ≤ 2
short_used d n q tid plain k =
    short_used_by _ (Used q k.key k.id (suc k.used) plain) (sent_data d n q tid k.key k.id (suc k.used) plain) (Idle why.Spent)

short_send : (d : Domain) (n : Node) (q : Peer) (tid : Option ℕ) (plain : List ℕ) (o : Option SendKey) → length (send_acts_by d n q tid plain o) ≤ 2
short_send d n q tid plain None = one_act (Idle why.NoKey)
short_send d n q tid plain (Some k) = short_used d n q tid plain k

-- and behind it the acts that begin to renew a key
short_sent : (d : Domain) (first : ℕ) (n : Node) (h : List Act) (q : Peer) (tid : Option ℕ) (plain : List ℕ) → length (send_acts (here d first n) h q tid plain) ≤ 5
short_sent d first n h q tid plain =
    let sent = short_send d n q tid plain (send_key h q) in
    sent_by (λ (g : List Act). length g ≤ 5) (here d first n) h q tid plain (omega (arith, sent))
    (λ a p k node to key due. omega (arith, sent, length-append (send_acts_by d n q tid plain (send_key h q)) (renew_acts d first n h p)))

few_renew : (d : Domain) (first : ℕ) (n : Node) (h : List Act) (p : Node) (g : List Act) → RenewRow (here d first n) h p g → length g ≤ 7
few_renew d first n h p g (renewal.NoSession none says) = omega (arith, ap length says)
few_renew d first n h p g (renewal.Nothing x some part going says) = omega (arith, ap length says)
few_renew d first n h p g (renewal.Spent x some free spent says) = omega (arith, ap length says)
few_renew d first n h p g (renewal.Begins role on x some free low says) = omega (arith, ap length says)

-- an announcement that is sent
short_announce : (d : Domain) (n : Node) (content : List ℕ) (o : Option SendKey) → length (announce_acts_by d n content o) ≤ 2
short_announce d n content None = one_act (Idle why.NoKey)
short_announce d n content (Some k) = short_used_by _ (Used All k.key k.id (suc k.used) content) (sent_action d n k.key k.id (suc k.used) content) (Idle why.Spent)

-- by new group keys one for each station at most
short_to : (d : Domain) (n p : Node) (h : List Act) (x : Option Derivation) → length (to_session d n p h x) ≤ 1
short_to d n p h None = omega arith
short_to d n p h (Some x) = omega arith

short_sessions : (d : Domain) (n : Node) (k : ℕ) (h : List Act) → length (to_sessions d n k h) ≤ k
short_sessions d n zero h = omega arith
short_sessions d n (suc k) h =
    let after = add (to_sessions d n k h) h in
    omega (arith, length-append (to_sessions d n k h) (to_session d n (Sta k) after (session (Sta k) after)), short_sessions d n k h, short_to d n (Sta k) after (session (Sta k) after))

short_draw : (b : Bool) (d : Domain) (n : Node) (number : ℕ) → length (draw_igtk b d n number) ≤ 1
short_draw true d n number = omega arith
short_draw false d n number = omega arith

short_next : (d : Domain) (n : Node) (number : ℕ) → length (draw_acts d n number) ≤ 2
short_next d n number = omega (arith, short_draw (protects d) d n (suc number))

few_rekey : (d : Domain) (first : ℕ) (n : Node) (h g : List Act) → RekeyRow (here d first n) h g → length g ≤ 2 + length d.stas
few_rekey d first n h g (Pending pending says) = omega (arith, ap length says)
few_rekey d first n h g (NoDraw current spent says) = omega (arith, ap length says)
few_rekey d first n h g (Renews ap_ current low says) =
    let keys = next_keys (here d first n) h in
    omega (arith, ap length says, length-append keys (to_sessions d n (length d.stas) (add keys h)), short_next d n (first + draws h), short_sessions d n (length d.stas) (add keys h))

-- what is dropped
short_nothing : (g : List Act) → length g ≤ 2 → length (or_nothing g) ≤ 2
short_nothing [] short = omega arith
short_nothing (e ∷ g) short = short

short_expire : (p : Node) (h : List Act) → length (expire_acts p h) ≤ 2
short_expire p h =
    short_nothing (close_attempt p (attempt p h) ++ close_session p (session p h)) (omega (arith, length-append (close_attempt p (attempt p h)) (close_session p (session p h)), short_attempt p (attempt p h), short_session p (session p h)))

short_leave : (h : List Act) → length (leave_acts h) ≤ 2
short_leave h =
    short_nothing (close_pending (pending h) ++ close_associated (associated h)) (omega (arith, length-append (close_pending (pending h)) (close_associated (associated h)), short_pending (pending h), short_associated (associated h)))

few_row : (d : Domain) (first : ℕ) (n : Node) (h : List Act) (event : NodeEvent) (g : List Act) → changes event ≡ false → RowOf (here d first n) h event g → length g ≤ 7 + length d.stas
few_row d first n h (Take octets) g still row = omega (arith, few_rows d first n h octets row.r row.facts g row.row)
few_row d first n h (Begin a) g still row = omega (arith, few_connect d first n h (Ap a) g row)
few_row d first n h (Retry s) g still row = omega (arith, ap length row, short_retry d n h (Sta s) (attempt (Sta s) h))
few_row d first n h Rekey g still row = omega (arith, few_rekey d first n h g row)
few_row d first n h (Send q tid octets) g still row = omega (arith, ap length row, short_sent d first n h q tid octets)
few_row d first n h (Expire s) g still row = omega (arith, ap length row, short_expire (Sta s) h)
few_row d first n h Leave g still row = omega (arith, ap length row, short_leave h)
few_row d first n h (Roam a) g still row = omega (arith, few_roam d first n h (Ap a) g row)
few_row d first n h (Revoke s) g still row = omega (arith, ap length row, short_revoke d.akm d n h (Sta s))
few_row d first n h (Secret named psk) g still row = absurd (true≢false still)
few_row d first n h (Renew s) g still row = omega (arith, few_renew d first n h (Sta s) g row)
few_row d first n h (Announce octets) g still row = omega (arith, ap length row, short_announce d n (announced octets) (group_send_key groups.Igtk h (current groups.Igtk h)))

-- and the switch
short_switch_by : (b : Bool) (acts : List Act) → length acts ≤ 2 → length (cond b [] acts) ≤ 2
short_switch_by true acts short = omega arith
short_switch_by false acts short = short

short_current_igtk : (b : Bool) (d : Domain) (n : Node) (h : List Act) → length (current_igtk b d n h) ≤ 1
short_current_igtk true d n h = omega arith
short_current_igtk false d n h = omega arith

short_current : (d : Domain) (n : Node) (h : List Act) → length (current_acts d n h) ≤ 2
short_current d n h = omega (arith, short_current_igtk (protects d) d n h)

short_switch : (d : Domain) (a : ℕ) (h : List Act) → length (switch_acts d a h) ≤ 2
short_switch d a h = short_switch_by (is_current groups.Gtk h || any_owes groups.Gtk (length d.stas) h) (current_acts d (Ap a) h) (short_current d (Ap a) h)

-- an access point starts with four acts at most
short_start : (d : Domain) (first : ℕ) (n : Node) → length (start_acts d first n) ≤ 4
short_start d first n =
    let drawn = draw_acts d n first in
    omega (arith, length-append drawn (current_acts d n (add drawn [])), short_next d n first, short_current d n (add drawn []))

pub few_started : (d : Domain) (first : ℕ) (n : Node) (g : List Act) → g ≡ start_acts d first n → length g ≤ 4
few_started d first n g is = omega (arith, ap length is, short_start d first n)

pub short_switched : (d : Domain) (n : Node) (h acts : List Act) → length (and_switch d n h acts) ≤ length acts + 2
short_switched d (Sta s) h acts = omega arith
short_switched d (Ap a) h acts = omega (arith, length-append acts (switch_acts d a (add acts h)), short_switch d a (add acts h))

-- an event that changes no key comes to so many acts at most
pub most_still : (event : Event) (stas : ℕ) → changes_keys event ≡ false → most_acts event stas ≡ 9 + stas
most_still (asks.Secret named psk) stas still = absurd (true≢false still)
most_still _ stas still = refl

-- at most 9, and one more for each station: no more than any such event comes to
pub few : (d : Domain) (event : Event) (first : ℕ) (n : Node) (h : List Act) (at : NodeEvent) (g : List Act) → changes_keys event ≡ false → changes at ≡ false → Adds (here d first n) h at g → length g ≤ most_acts event (length d.stas)
few d event first n h at g still none adds =
    let short : length g ≤ 9 + length d.stas = omega (arith, ap length adds.is, short_switched d n h adds.acts, few_row d first n h at adds.acts none adds.row) in
    omega (arith, short, most_still event (length d.stas) still)

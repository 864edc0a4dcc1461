-- The rows of protected data add chains of legal acts.
use Rattle.std.proofs.Common.{ℕ, suc, ◌≡◌, ◌+◌, ◌^◌, ◌<◌, ◌≤◌, inl, inr, Bool, true, false, cond, List, [], ◌∷◌, ◌++◌, length, take, drop, Option, Some, None, refl, sym, ap, ◌∙◌, subst, arith}
use Rattle.std.specs.Prelude.{not, ◌&&◌, ◌||◌, ◌==◌, nat_lt, slice_index, is_some, unwrap_or, if◌then◌else◌}
use Rattle.std.proofs.lemmas.Bool.{ltb-true, and_parts}
use Rattle.std.proofs.lemmas.List.{length-take, length-drop, get_or-append-add}
use Rattle.std.proofs.lemmas.Slice.Eq.{bytes_eq-Decides}
use Rattle.domain_base.specs.Octets.{AreOctets}
use Rattle.domain_base.proofs.OctetLemmas.{get_or_below, octets_by_entries}
use Rattle.domain_base.specs.declared.names.Mac.{Mac}
use Rattle.domain_base.specs.declared.names.Node.{Node}
use Rattle.domain_base.specs.declared.names.Node.TheVariants.{Ap, Sta}
use Rattle.domain_base.specs.declared.names.Peer.{Peer}
use Rattle.domain_base.specs.declared.names.Peer.TheVariants.{One, All}
use Rattle.air_frame.specs.declared.frame.Direction.{Direction}
use Rattle.air_frame.specs.declared.frame.Direction.TheVariants.{ToDs, FromDs}
use Rattle.air_frame.specs.Control.{data_header_length}
use Rattle.air_frame.specs.Fields.{HeaderFields, action, protected, header_at, protected_at}
use Rattle.air_frame.specs.Sent.{IsAddress}
use Rattle.air_frame.specs.Spelled.{SpellsAir}
use Rattle.replay_window.specs.Numbers.{last_number}
use Rattle.ccmp_guard.specs.Ccmp.{packet_number, key_id_in, sealed_octets}
use Rattle.bip_guard.specs.Bip as bip
use Rattle.bip_guard.specs.Bip.{mme_front, ipn_in}
use Rattle.key_hierarchy.specs.declared.inputs.Ptk.{Ptk}
use Rattle.run_journal.specs.declared.acts.GroupKind.{GroupKind}
use Rattle.run_journal.specs.declared.acts.GroupKind.TheVariants as groups
use Rattle.run_journal.specs.declared.domain.Domain.{Domain}
use Rattle.run_journal.specs.declared.acts.Kind.TheVariants as kind
use Rattle.run_journal.specs.declared.acts.Reason.TheVariants as reason
use Rattle.run_journal.specs.declared.acts.Why.TheVariants as why
use Rattle.run_journal.specs.declared.acts.Outcome.{Outcome}
use Rattle.run_journal.specs.declared.acts.Seal.{Seal}
use Rattle.run_journal.specs.declared.acts.Outcome.TheVariants.{Accepted, Refused}
use Rattle.run_journal.specs.declared.acts.Act.{Act}
use Rattle.run_journal.specs.declared.acts.Key.TheVariants.{Group}
use Rattle.run_journal.specs.declared.acts.Act.TheVariants.{Took, Installed, Used, HandedUp, Idle}
use Rattle.run_journal.specs.Acts.{Derivation, GroupKey, switched}
use Rattle.run_journal.specs.Questions.{attempt, session, given, listed, switches, draws, pairwise_uses, group_uses}
use Rattle.run_journal.specs.Premises.{In}
use Rattle.domain_rules.specs.Network.{address, direction, goes_like, peer_of, is_ap, draw_end, renews, is_number, renews_at}
use Rattle.domain_rules.specs.Reading.{Reading, Sealed, Acting, Reads}
use Rattle.domain_rules.specs.Facts.{Facts}
use Rattle.domain_rules.specs.GroupKeys.{key_id, memory, got}
use Rattle.domain_rules.specs.IntegrityKeys.{IsGot}
use Rattle.domain_rules.specs.PacketNumbers.{pairwise_got, SendKey, pairwise_send_key, group_send_key, current_of, OpenKey, open_key_by, group_open_key_by, find_id}
use Rattle.domain_rules.specs.DataFrames.{broadcast, sent_data, data_header, data_seal, receiver, bssid_with}
use Rattle.domain_rules.specs.ManagementFrames.{action_header, announced, bip_input, action_seal, sent_action, announced_acts, announce_acts_by, announce_acts, integrity_key_by, integrity_key, before_mme, before_mic}
use Rattle.run_journal.specs.Addresses.{is_group}
use Rattle.domain_rules.specs.DataVerdict.{is_for_group, opened_by, data_verdict_by, data_verdict, IsOpened}
use Rattle.domain_rules.specs.PairwiseRenewal.{renew_acts, is_due, and_renewal}
use Rattle.domain_rules.specs.Counters.{next_in_session}
use Rattle.domain_rules.specs.DataRows.{used_acts, send_acts_by, and_due, send_acts, DataRow, ActionRow}
use Rattle.domain_rules.specs.Verdict.{ComesSoFar, KnowsFrom, Knows, management_sender, first_verdict, further, verdict, is_mine, is_mine_or_group, from_peer}
use Rattle.domain_rules.specs.Closing.{next_nonce, sender}
use Rattle.domain_rules.specs.Here.{here}
use Rattle.domain_rules.proofs.Parts.{attempt_none}
use Rattle.domain_rules.proofs.OneOutcome.{and_accepted, sender-some}
use Rattle.domain_rules.proofs.ActionSeals.{action_opened}
use Rattle.domain_rules.proofs.Noted.{data_opened}
use Rattle.domain_rules.proofs.Peers.{IsPeer, peer_is}
use Rattle.domain_rules.proofs.GroupKinds.{kind_of_place}
use Rattle.journal_safety.proofs.CoversData.{IsDataHeader, CoversData, covered_tid, data_covers, data_covers_own}
use Rattle.journal_safety.proofs.CoversFrame.{Of_data, Of_action, CoversFrame, data_frame, action_frame}
use Rattle.journal_safety.proofs.ReadData.{is_down, DataHeader, header_read, length-header, header_sent}
use Rattle.journal_safety.proofs.ReadAction.{sent_covers, taken_covers}
use Rattle.journal_safety.proofs.Given.{given_in, front_in}
use Rattle.journal_safety.proofs.Legal.{IsReceiver, With_frame, LegalKind, By_m3, By_g1, By_renewal, LegalGroup, LegalNew, LegalCurrent, LegalUsed, OpensUnder, With_session, With_group, LegalUp, Legal, LegalHistory}
use Rattle.journal_safety.proofs.Settled.{Settled, Fine, fine_none, fine_quiet, fine_append}
use Rattle.journal_safety.proofs.Rows.{size_nonce, renew_fine}
use Rattle.journal_safety.proofs.Sessions.{session_key}
use Rattle.journal_safety.proofs.Histories.{legal_in, keyed_as}

-- ---- what a frame that is taken is opened under

find_by : (id : ℕ) (x : GroupKey) (xs : List GroupKey) (g : GroupKey) → (find_id id xs ≡ Some g → In g xs) → (b : Bool) → cond b (Some x) (find_id id xs) ≡ Some g → In g (x ∷ xs)
find_by id x xs g more true e = inl (sym (cc e))
find_by id x xs g more false e = inr (more e)

find_in : (id : ℕ) (xs : List GroupKey) (g : GroupKey) → find_id id xs ≡ Some g → In g xs
find_in id [] g is = absurd (cc is)
find_in id (x ∷ xs) g is = find_by id x xs g (find_in id xs g) (id == x.id) is

-- the act that takes it
abbrev takes : Node → List ℕ → Option Seal → Act
takes p octets seal = Took (Some p) octets kind.Data Accepted seal

opens_group : (d : Domain) (n p : Node) (h : List Act) (octets : List ℕ) (seal : Option Seal) (id number : ℕ) (k : OpenKey) (covered : List ℕ) → is_ap n ≡ false → (o : Option GroupKey) → find_id id (memory groups.Gtk p h) ≡ o → group_open_key_by p h o ≡ Some k → k.kept < number → OpensUnder d n (takes p octets seal ∷ h) p k.key k.id k.tid number covered
opens_group d n p h octets seal id number k covered station None found is above = absurd (cc is)
opens_group d n p h octets seal id number k covered station (Some g) found is above =
    let one : record { key = g.key; id = g.id; tid = 0; kept = got p g.key g.id h } ≡ k = cc is in
    let there = given_in groups.Gtk p g h (front_in 2 (given groups.Gtk p h) g (find_in id (memory groups.Gtk p h) g found)) in
    subst (λ (x : OpenKey). x.kept < number → OpensUnder d n (takes p octets seal ∷ h) p x.key x.id x.tid number covered) one
    (λ low. With_group station groups.Gtk there.0 (inr there.1) refl (record { act = takes p octets seal; before = h; is = refl; no_up = refl; kept = got p g.key g.id h; got = refl; above = low })) above

-- the key of a session
opens_pairwise : (d : Domain) (n p : Node) (h : List Act) (octets : List ℕ) (seal : Option Seal) (id tid number : ℕ) (x : Derivation) (k : OpenKey) (covered : List ℕ) → LegalHistory d n h → session p h ≡ Some x → tid ≡ covered_tid covered → IsAddress (address d n) → (b : Bool)
    → (if b then Some (record { key = x.ptk.tk; id = 0; tid = tid; kept = pairwise_got p x.ptk.tk tid h }) else None) ≡ Some k → k.kept < number → OpensUnder d n (takes p octets seal ∷ h) p k.key k.id k.tid number covered
opens_pairwise d n p h octets seal id tid number x k covered legal s tid_is mine false is above = absurd (cc is)
opens_pairwise d n p h octets seal id tid number x k covered legal s tid_is mine true is above =
    let one : record { key = x.ptk.tk; id = 0; tid = tid; kept = pairwise_got p x.ptk.tk tid h } ≡ k = cc is in
    let key = session_key d n p h x legal s in
    subst (λ (y : OpenKey). y.kept < number → OpensUnder d n (takes p octets seal ∷ h) p y.key y.id y.tid number covered) one
    (λ low. With_session x.inputs (s ∙ ap Some (keyed_as x key.0)) (ap (λ (y : Ptk). y.tk) key.0) refl tid_is mine low) above

opens_at : (d : Domain) (n p : Node) (h : List Act) (octets : List ℕ) (seal : Option Seal) (to_group : Bool) (id tid number : ℕ) (k : OpenKey) (covered : List ℕ) → LegalHistory d n h → (to_group ≡ true → is_ap n ≡ false) → (to_group ≡ false → IsAddress (address d n)) → tid ≡ covered_tid covered
    → (o : Option Derivation) → session p h ≡ o → open_key_by p h to_group tid id o ≡ Some k → k.kept < number → OpensUnder d n (takes p octets seal ∷ h) p k.key k.id k.tid number covered
opens_at d n p h octets seal to_group id tid number k covered legal station mine tid_is None s is above = absurd (cc is)
opens_at d n p h octets seal true id tid number k covered legal station mine tid_is (Some x) s is above = opens_group d n p h octets seal id number k covered (station refl) (find_id id (memory groups.Gtk p h)) refl is above
opens_at d n p h octets seal false id tid number k covered legal station mine tid_is (Some x) s is above = opens_pairwise d n p h octets seal id tid number x k covered legal s tid_is (mine refl) (id == 0) is above

-- ---- what an accepted frame tells

either_false : (a b : Bool) → (a || b) ≡ false → (a ≡ false) × (b ≡ false)
either_false true b e = absurd (cc e)
either_false false b e = (refl, e)

not_false : (b : Bool) → not b ≡ false → b ≡ true
not_false true e = refl
not_false false e = absurd (cc e)

not_refused : (b : Bool) (o : Outcome) → (if b then Refused reason.NotForMe else o) ≡ Accepted → (b ≡ false) × (o ≡ Accepted)
not_refused true o e = absurd (cc e)
not_refused false o e = (refl, e)

from_it : (o : Option Node) (p : Node) (f : Node → Outcome) → o ≡ Some p → from_peer o f ≡ Accepted → f p ≡ Accepted
from_it None p f is e = absurd (cc is)
from_it (Some q) p f is e = subst (λ (x : Node). f x ≡ Accepted) (cc is) e

above_kept : (number : ℕ) (o : Option OpenKey) (k : OpenKey) → o ≡ Some k → data_verdict_by number o ≡ Accepted → k.kept < number
above_kept number None k is e = absurd (cc is)
above_kept number (Some x) k is e =
    let one : x ≡ k = cc is in
    subst (λ (y : OpenKey). y.kept < number) one (low (nat_lt x.kept number) refl e)
  where
    low : (b : Bool) → nat_lt x.kept number ≡ b → (if b then Accepted else Refused (reason.Replayed x.kept)) ≡ Accepted → x.kept < number
    low true is e = ltb-true x.kept number is
    low false is e = absurd (cc e)

-- the way is that of the other side
other_way : (n : Node) (way : Direction) → goes_like way (direction n) ≡ false → is_down way ≡ not (is_ap n)
other_way (Ap k) ToDs e = refl
other_way (Sta k) FromDs e = refl
other_way (Ap k) FromDs e = absurd (cc e)
other_way (Sta k) ToDs e = absurd (cc e)

own_way : (n : Node) → is_down (direction n) ≡ is_ap n
own_way (Ap k) = refl
own_way (Sta k) = refl

-- for whom it is
for_group : (n : Node) (header : HeaderFields) → is_for_group n header ≡ true → is_ap n ≡ false
for_group (Ap k) header e = absurd (cc e)
for_group (Sta k) header e = refl

or_it : (a b : Bool) → (a || b) ≡ true → b ≡ false → a ≡ true
or_it true b e f = refl
or_it false b e f = absurd (cc (e, f))

for_itself : (d : Domain) (n : Node) (header : HeaderFields) → is_mine_or_group d n header ≡ true → is_for_group n header ≡ false → is_mine d n header ≡ true
for_itself d (Ap k) header e f = e
for_itself d (Sta k) header e f = or_it (is_mine d (Sta k) header) (is_group header.a1) e f

-- addresses in a frame that was read have six octets
length-part : (octets : List ℕ) (at : ℕ) → at + 6 ≤ length octets → IsAddress (take 6 (drop at octets))
length-part octets at long = omega (arith, long, length-take 6 (drop at octets), length-drop at octets)

read_addresses : (octets : List ℕ) (header : HeaderFields) (way : Direction) (tid : Option ℕ) (body : List ℕ) → SpellsAir octets (protected header way tid body) → IsAddress header.a1 × IsAddress header.a2
read_addresses octets header way tid body s =
    let one : protected header way tid body ≡ protected_at octets = s.0 in
    let h : header ≡ header_at (data_header_length octets) octets = cc one in
    let long : data_header_length octets + 16 ≤ length octets = s.1.frame.long in (
      subst (λ (x : HeaderFields). IsAddress x.a1) (sym h) (length-part octets 4 (omega (arith, long))),
      subst (λ (x : HeaderFields). IsAddress x.a2) (sym h) (length-part octets 10 (omega (arith, long))),
    )

octets_behind : (a b : List ℕ) → AreOctets (a ++ b) → AreOctets b
octets_behind a b small = octets_by_entries b (λ k. subst (λ (x : ℕ). x < 256) (get_or-append-add a b k 0) (get_or_below (a ++ b) (length a + k) small))

low_number : (body : List ℕ) → AreOctets body → packet_number body < 2 ^ 48
unfolding packet_number
low_number body small =
    let at : (i : ℕ) → slice_index body i < 256 = λ i. get_or_below body i small in
    omega (arith, at 0, at 1, at 4, at 5, at 6, at 7)

-- what is known of data that was accepted from p, after the act that took it
pub record Payload (d : Domain) (n p : Node) (h : List Act) (header : HeaderFields) (body : List ℕ) (k : OpenKey) (plain : List ℕ) : Type 0 where
  pub covers : CoversData (3 ∷ sealed_octets header.octets (packet_number body) plain) (not (is_ap n)) (covered_tid (3 ∷ sealed_octets header.octets (packet_number body) plain)) (packet_number body) plain
  pub whole : IsAddress (address d p)
  pub roles : is_ap p ≡ not (is_ap n)
  pub under : OpensUnder d n h p k.key k.id k.tid (packet_number body) (3 ∷ sealed_octets header.octets (packet_number body) plain)

payload : (d : Domain) (first : ℕ) (n : Node) (h : List Act) (octets : List ℕ) (r : Reading) (facts : Facts) (g : List Act) (seal : Option Seal) → Reads d.akm octets r → Knows d first n h r facts → LegalHistory d n h → (row : DataRow (here d first n) h octets r facts g)
    → Payload d n row.p (takes row.p octets seal ∷ h) row.header row.body row.k row.plain
payload d first n h octets r facts g seal reads knows legal row =
    record {
      covers = data_covers_own row.header.octets (packet_number row.body) row.plain (not (is_ap n)) (subst (λ (b : Bool). IsDataHeader row.header.octets b) way_is read.is) low;
      whole = subst IsAddress (sym peer.has) sizes.1;
      roles = peer.other;
      under = opens_at d n row.p h octets seal (is_for_group n row.header) (key_id_in row.body) (unwrap_or row.tid 0) (packet_number row.body) row.k (3 ∷ sealed_octets row.header.octets (packet_number row.body) row.plain) legal
          (for_group n row.header) itself tid_is (session row.p h) refl row.under (above_kept (packet_number row.body) (opened_by n h row.p row.header row.tid row.body) row.k row.under judged);
    }
  where
    spelled : SpellsAir octets (protected row.header row.way row.tid row.body)
    spelled = subst (λ (x : Reading). Reads d.akm octets x) row.is reads

    opened : IsOpened row.k.key row.k.id row.header.octets row.body (Some row.plain)
    opened = data_opened d first n h octets r facts g knows row

    read : DataHeader row.header.octets (is_down row.way) row.tid
    read = header_read octets row.header row.way row.tid row.body spelled opened.0

    low : packet_number row.body < 2 ^ 48
    low = low_number row.body (octets_behind row.header.octets row.body opened.0)

    from : peer_of d n row.header.a2 ≡ Some row.p
    from = subst (λ (x : Reading). sender d n x ≡ Some row.p) row.is row.from

    peer : IsPeer d n row.p row.header.a2
    peer = peer_is d n row.p row.header.a2 from

    sizes : IsAddress row.header.a1 × IsAddress row.header.a2
    sizes = read_addresses octets row.header row.way row.tid row.body spelled

    accepted : first_verdict d first n h (Sealed row.header row.way row.tid row.body) ≡ Accepted
    accepted = subst (λ (x : Reading). first_verdict d first n h x ≡ Accepted) row.is (and_accepted (first_verdict d first n h r) (further d first n h r facts) row.accepted)

    passed : ((not (is_mine_or_group d n row.header) || goes_like row.way (direction n)) ≡ false) × (from_peer (peer_of d n row.header.a2) (λ p. data_verdict n h p row.header row.tid row.body) ≡ Accepted)
    passed = not_refused (not (is_mine_or_group d n row.header) || goes_like row.way (direction n)) (from_peer (peer_of d n row.header.a2) (λ p. data_verdict n h p row.header row.tid row.body)) accepted

    mine : (not (is_mine_or_group d n row.header) ≡ false) × (goes_like row.way (direction n) ≡ false)
    mine = either_false (not (is_mine_or_group d n row.header)) (goes_like row.way (direction n)) passed.0

    way_is : is_down row.way ≡ not (is_ap n)
    way_is = other_way n row.way mine.1

    judged : data_verdict n h row.p row.header row.tid row.body ≡ Accepted
    judged = from_it (peer_of d n row.header.a2) row.p (λ p. data_verdict n h p row.header row.tid row.body) from passed.1

    itself : is_for_group n row.header ≡ false → IsAddress (address d n)
    itself none =
        let same : row.header.a1 ≡ address d n = (bytes_eq-Decides row.header.a1 (address d n)).0 (for_itself d n row.header (not_false (is_mine_or_group d n row.header) mine.0) none) in
        subst IsAddress same sizes.0

    tid_is : unwrap_or row.tid 0 ≡ covered_tid (3 ∷ sealed_octets row.header.octets (packet_number row.body) row.plain)
    tid_is = sym read.tid_is ∙ sym (data_covers row.header.octets (packet_number row.body) row.plain (is_down row.way) read.is low).tid_is

pub data_fine : (d : Domain) (first : ℕ) (n : Node) (h : List Act) (octets : List ℕ) (r : Reading) (facts : Facts) (g : List Act) → Reads d.akm octets r → Knows d first n h r facts → LegalHistory d n h → Settled d n h → DataRow (here d first n) h octets r facts g → Fine d n h g
data_fine d first n h octets r facts g reads knows legal s row =
    let covered : List ℕ = 3 ∷ sealed_octets row.header.octets (packet_number row.body) row.plain in
    let seal : Option Seal = Some (data_seal row.k.key row.header.octets (packet_number row.body) row.plain) in
    let took : Act = takes row.p octets seal in
    let w = payload d first n h octets r facts g seal reads knows legal row in
    let up : LegalUp d n (took ∷ h) row.p row.k.key row.k.id row.k.tid (packet_number row.body) row.plain = record {
      covered = covered;
      octets = octets;
      kind = kind.Data;
      took = inl refl;
      covers = data_frame covered (not (is_ap n)) (covered_tid covered) (packet_number row.body) row.plain w.covers;
      whole = w.whole;
      roles = w.roles;
      under = w.under;
    } in
    subst (λ (x : List Act). Fine d n h x) (sym row.says)
    (fine_quiet d n h took _ tt refl s (λ t. fine_quiet d n (took ∷ h) (HandedUp row.p row.k.key row.k.id row.k.tid (packet_number row.body) row.plain) [] up refl t (fine_none d n _)))

-- ---- a payload is sent

low_used : (used : ℕ) → nat_lt used last_number ≡ true → suc used < 2 ^ 48
low_used used e = let low : used < last_number = ltb-true used last_number e in omega (arith, low)

receiver_whole : (d : Domain) (q : Peer) → IsReceiver d q → IsAddress (receiver d q)
receiver_whole d (One p) whole = whole
receiver_whole d All whole = refl

bssid_whole : (d : Domain) (n : Node) (q : Peer) → IsAddress (address d n) → IsReceiver d q → IsAddress (bssid_with d n q)
bssid_whole d (Ap k) (One p) own theirs = own
bssid_whole d (Sta k) (One p) own theirs = theirs
bssid_whole d n All own theirs = own

legal_sent : (d : Domain) (n : Node) (h : List Act) (q : Peer) (tid : Option ℕ) (key plain : List ℕ) (id number : ℕ) → number < 2 ^ 48 → Legal d n (Used q key id number plain ∷ h) (sent_data d n q tid key id number plain)
legal_sent d n h q tid key plain id number low = (
  With_frame refl (record {
    form = Of_data refl;
    peer = q;
    id = id;
    number = number;
    plain = plain;
    before = h;
    is = refl;
    covers = λ own theirs. data_frame covered (is_ap n) (covered_tid covered) number plain (data_covers_own (data_header d n q tid) number plain (is_ap n)
        (subst (λ (b : Bool). IsDataHeader (data_header d n q tid) b) (own_way n) (header_sent (direction n) tid (receiver d q) (address d n) (bssid_with d n q) (receiver_whole d q theirs) own (bssid_whole d n q own theirs))) low);
  }),
  kind_free q,
)
  where
    covered : List ℕ
    covered = 3 ∷ sealed_octets (data_header d n q tid) number plain

    kind_free : (q : Peer) → LegalKind d n (Used q key id number plain ∷ h) q kind.Data
    kind_free (One p) = tt
    kind_free All = tt

used_fine : (d : Domain) (n : Node) (h : List Act) (q : Peer) (tid : Option ℕ) (plain : List ℕ) (k : SendKey) → Settled d n h → LegalUsed h q k.key k.id (suc k.used) → Fine d n h (used_acts d n q tid plain k)
used_fine d n h q tid plain k s legal = go (nat_lt k.used last_number) refl
  where
    go : (b : Bool) → nat_lt k.used last_number ≡ b → Fine d n h (if b then Used q k.key k.id (suc k.used) plain ∷ sent_data d n q tid k.key k.id (suc k.used) plain ∷ [] else Idle why.Spent ∷ [])
    go true low = fine_quiet d n h (Used q k.key k.id (suc k.used) plain) _ legal refl s (λ t.
        fine_quiet d n _ (sent_data d n q tid k.key k.id (suc k.used) plain) [] (legal_sent d n h q tid k.key plain k.id (suc k.used) (low_used k.used low)) refl t (fine_none d n _))
    go false spent = fine_quiet d n h (Idle why.Spent) [] tt refl s (fine_none d n _)

send_none : (d : Domain) (n : Node) (h : List Act) → Settled d n h → Fine d n h (Idle why.NoKey ∷ [])
send_none d n h s = fine_quiet d n h (Idle why.NoKey) [] tt refl s (fine_none d n _)

send_one : (d : Domain) (n p : Node) (h : List Act) (tid : Option ℕ) (plain : List ℕ) → LegalHistory d n h → Settled d n h → (o : Option Derivation) → session p h ≡ o → Fine d n h (send_acts_by d n (One p) tid plain (pairwise_send_key p h o))
send_one d n p h tid plain legal s None is = send_none d n h s
send_one d n p h tid plain legal s (Some x) is =
    let key = session_key d n p h x legal is in
    used_fine d n h (One p) tid plain (record { key = x.ptk.tk; id = 0; used = pairwise_uses p h }) s
    (record { i = x.inputs; awaited = is ∙ ap Some (keyed_as x key.0); is = ap (λ (y : Ptk). y.tk) key.0; next = refl })

send_all : (d : Domain) (n : Node) (h : List Act) (tid : Option ℕ) (plain : List ℕ) → Settled d n h → (keys : List (List ℕ)) → switches groups.Gtk h ≡ keys → Fine d n h (send_acts_by d n All tid plain (group_send_key groups.Gtk h (current_of groups.Gtk keys)))
send_all d n h tid plain s [] is = send_none d n h s
send_all d n h tid plain s (key ∷ older) is =
    used_fine d n h All tid plain (record { key = key; id = key_id groups.Gtk (length older); used = group_uses groups.Gtk h }) s
    (record { which = groups.Gtk; kind_is = kind_of_place groups.Gtk (length older); older = older; current = is; next = refl })

-- with the number an access point begins to renew the key, where that is due
none_there : (o : Option (List Act)) → not (is_some o) ≡ true → o ≡ None
none_there None is = refl
none_there (Some part) is = absurd (cc is)

begin_fine : (d : Domain) (first a : ℕ) (p : Node) (h : List Act) (tid : Option ℕ) (plain : List ℕ) (k : SendKey) (x : Derivation) → session p h ≡ Some x → nat_lt k.used last_number ≡ true → is_due (here d first (Ap a)) h p (suc k.used) ≡ true → Fine d (Ap a) h (used_acts d (Ap a) (One p) tid plain k)
    → Fine d (Ap a) h (used_acts d (Ap a) (One p) tid plain k ++ renew_acts d first (Ap a) h p)
begin_fine d first a p h tid plain k x awaited low due used =
    let n : Node = Ap a in
    let use_ : Act = Used (One p) k.key k.id (suc k.used) plain in
    let sent_ : Act = sent_data d n (One p) tid k.key k.id (suc k.used) plain in
    let is : used_acts d n (One p) tid plain k ≡ use_ ∷ sent_ ∷ [] = rw low refl in
    let fine : Fine d n h (use_ ∷ sent_ ∷ []) = subst (λ (g : List Act). Fine d n h g) is used in
    let parts = and_parts (renews_at d (suc k.used)) (not (is_some (attempt p h)) && nat_lt (first + draws h) draw_end) due in
    let renewing = (and_parts (renews d) (is_number d.extras.renew_at (suc k.used)) parts.0).0 in
    let rest = and_parts (not (is_some (attempt p h))) (nat_lt (first + draws h) draw_end) parts.1 in
    let few : first + draws h < draw_end = ltb-true (first + draws h) draw_end rest.1 in
    let none : attempt p (sent_ ∷ use_ ∷ h) ≡ None = attempt_none p sent_ (use_ ∷ h) refl (attempt_none p use_ h refl (none_there (attempt p h) rest.0)) in
    subst (λ (g : List Act). Fine d n h (g ++ renew_acts d first n h p)) (sym is)
    (fine_append d n h (use_ ∷ sent_ ∷ []) (renew_acts d first n h p) fine
    (renew_fine d n (sent_ ∷ use_ ∷ h) p x (next_in_session p h) (next_nonce d first n h) refl renewing awaited none (omega (arith, few)) (size_nonce d n (first + draws h)) fine.settled))

due_fine : (d : Domain) (first a : ℕ) (p : Node) (h : List Act) (tid : Option ℕ) (plain : List ℕ) (k : SendKey) (x : Derivation) → session p h ≡ Some x → Fine d (Ap a) h (used_acts d (Ap a) (One p) tid plain k)
    → Fine d (Ap a) h (and_due (here d first (Ap a)) (Ap a) h (One p) (Some k) (used_acts d (Ap a) (One p) tid plain k))
due_fine d first a p h tid plain k x awaited used = go (nat_lt k.used last_number) refl
  where
    begins : (c : Bool) → is_due (here d first (Ap a)) h p (suc k.used) ≡ c → nat_lt k.used last_number ≡ true → Fine d (Ap a) h (cond c (used_acts d (Ap a) (One p) tid plain k ++ renew_acts d first (Ap a) h p) (used_acts d (Ap a) (One p) tid plain k))
    begins true due low = begin_fine d first a p h tid plain k x awaited low due used
    begins false due low = used

    go : (b : Bool) → nat_lt k.used last_number ≡ b → Fine d (Ap a) h (cond b (and_renewal (here d first (Ap a)) h p (suc k.used) (used_acts d (Ap a) (One p) tid plain k)) (used_acts d (Ap a) (One p) tid plain k))
    go true low = begins (is_due (here d first (Ap a)) h p (suc k.used)) refl low
    go false over = used

send_ap : (d : Domain) (first a : ℕ) (p : Node) (h : List Act) (tid : Option ℕ) (plain : List ℕ) → LegalHistory d (Ap a) h → Settled d (Ap a) h → (o : Option Derivation) → session p h ≡ o
    → Fine d (Ap a) h (and_due (here d first (Ap a)) (Ap a) h (One p) (pairwise_send_key p h o) (send_acts_by d (Ap a) (One p) tid plain (pairwise_send_key p h o)))
send_ap d first a p h tid plain legal s None is = send_none d (Ap a) h s
send_ap d first a p h tid plain legal s (Some x) is =
    due_fine d first a p h tid plain (record { key = x.ptk.tk; id = 0; used = pairwise_uses p h }) x is (send_one d (Ap a) p h tid plain legal s (Some x) is)

pub send_fine : (d : Domain) (first : ℕ) (n : Node) (h : List Act) (q : Peer) (tid : Option ℕ) (plain : List ℕ) → LegalHistory d n h → Settled d n h → Fine d n h (send_acts (here d first n) h q tid plain)
send_fine d first (Ap a) h (One p) tid plain legal s = send_ap d first a p h tid plain legal s (session p h) refl
send_fine d first (Sta k) h (One p) tid plain legal s = send_one d (Sta k) p h tid plain legal s (session p h) refl
send_fine d first (Ap a) h All tid plain legal s = send_all d (Ap a) h tid plain s (switches groups.Gtk h) refl
send_fine d first (Sta k) h All tid plain legal s = send_all d (Sta k) h tid plain s (switches groups.Gtk h) refl

-- ---- an announcement is sent

is_switched : (which : GroupKind) (e : Act) (key : List ℕ) → switched which e ≡ Some key → (id : ℕ) × ((b : Mac) × (e ≡ Installed All (Group which key id b)))
is_switched groups.Gtk (Installed All (Group groups.Gtk g id b)) key e = (id, (b, ap (λ (x : List ℕ). Installed All (Group groups.Gtk x id b)) (cc e)))
is_switched groups.Igtk (Installed All (Group groups.Igtk g id b)) key e = (id, (b, ap (λ (x : List ℕ). Installed All (Group groups.Igtk x id b)) (cc e)))
is_switched which _ key e = cc

-- a key is made current by access points alone
made_ap : (which : GroupKind) (d : Domain) (n : Node) (e : Act) (h : List Act) (x : List ℕ) → Legal d n h e → switched which e ≡ Some x → is_ap n ≡ true
made_ap which d n e h x legal is =
    let w = is_switched which e x is in
    let v : LegalCurrent which n h x = subst (λ (y : Act). Legal d n h y) w.1.1 legal in v.ap

switched_by : (which : GroupKind) (d : Domain) (n : Node) (e : Act) (h : List Act) (key : List ℕ) (older : List (List ℕ)) → Legal d n h e → (switches which h ≡ key ∷ older → is_ap n ≡ true) → (o : Option (List ℕ)) → switched which e ≡ o → listed o (switches which h) ≡ key ∷ older → is_ap n ≡ true
switched_by which d n e h key older legal more None none is = more is
switched_by which d n e h key older legal more (Some x) made is = made_ap which d n e h x legal made

switched_ap : (which : GroupKind) (d : Domain) (n : Node) (h : List Act) (key : List ℕ) (older : List (List ℕ)) → LegalHistory d n h → switches which h ≡ key ∷ older → is_ap n ≡ true
switched_ap which d n [] key older legal is = absurd (cc is)
switched_ap which d n (e ∷ h) key older legal is = switched_by which d n e h key older legal.0 (switched_ap which d n h key older legal.1) (switched which e) refl is

header_long : (d : Domain) (n : Node) → IsAddress (address d n) → 22 ≤ length (action_header d n)
header_long d n own = let is : length (action_header d n) ≡ 24 = length-header 208 0 broadcast (address d n) (address d n) [] refl own own in omega (arith, is)

legal_announced : (d : Domain) (n : Node) (h : List Act) (key content : List ℕ) (id number : ℕ) → is_ap n ≡ true → number < 2 ^ 48 → Legal d n (Used All key id number content ∷ h) (sent_action d n key id number content)
legal_announced d n h key content id number role low =
    let covered : List ℕ = 4 ∷ bip_input (action_header d n) (content ++ mme_front id number) in (
      With_frame refl (record {
        form = Of_action refl;
        peer = All;
        id = id;
        number = number;
        plain = content;
        before = h;
        is = refl;
        covers = λ own theirs. subst (λ (b : Bool). CoversFrame covered b (covered_tid covered) number content) (sym role) (action_frame covered number content (sent_covers (action_header d n) content id number (header_long d n own) low));
      }),
      tt,
    )

announced_fine : (d : Domain) (n : Node) (h : List Act) (content : List ℕ) (k : SendKey) → is_ap n ≡ true → Settled d n h → LegalUsed h All k.key k.id (suc k.used) → Fine d n h (announced_acts d n content k)
announced_fine d n h content k role s legal = go (nat_lt k.used last_number) refl
  where
    go : (b : Bool) → nat_lt k.used last_number ≡ b → Fine d n h (if b then Used All k.key k.id (suc k.used) content ∷ sent_action d n k.key k.id (suc k.used) content ∷ [] else Idle why.Spent ∷ [])
    go true low = fine_quiet d n h (Used All k.key k.id (suc k.used) content) _ legal refl s (λ t.
        fine_quiet d n _ (sent_action d n k.key k.id (suc k.used) content) [] (legal_announced d n h k.key content k.id (suc k.used) role (low_used k.used low)) refl t (fine_none d n _))
    go false spent = fine_quiet d n h (Idle why.Spent) [] tt refl s (fine_none d n _)

announce_by : (d : Domain) (n : Node) (h : List Act) (content : List ℕ) → LegalHistory d n h → Settled d n h → (keys : List (List ℕ)) → switches groups.Igtk h ≡ keys → Fine d n h (announce_acts_by d n content (group_send_key groups.Igtk h (current_of groups.Igtk keys)))
announce_by d n h content legal s [] is = send_none d n h s
announce_by d n h content legal s (key ∷ older) is =
    announced_fine d n h content (record { key = key; id = key_id groups.Igtk (length older); used = group_uses groups.Igtk h }) (switched_ap groups.Igtk d n h key older legal is) s
    (record { which = groups.Igtk; kind_is = kind_of_place groups.Igtk (length older); older = older; current = is; next = refl })

pub announce_fine : (d : Domain) (n : Node) (h : List Act) (payload : List ℕ) → LegalHistory d n h → Settled d n h → Fine d n h (announce_acts d n h payload)
announce_fine d n h payload legal s = announce_by d n h (announced payload) legal s (switches groups.Igtk h) refl

-- ---- an announcement is taken

-- it is tried under an IGTK that was installed
tried_in : (p : Node) (h : List Act) (id : ℕ) (k : GroupKey) (o : Option Derivation) → integrity_key_by p h id o ≡ Some k → (b : Mac) × In (Installed (One p) (Group groups.Igtk k.key k.id b)) h
tried_in p h id k None is = absurd (cc is)
tried_in p h id k (Some x) is = given_in groups.Igtk p k h (front_in 2 (given groups.Igtk p h) k (find_in id (memory groups.Igtk p h) k is))

-- such a key is installed at stations alone
group_station : (d : Domain) (which : GroupKind) (n : Node) (h : List Act) (p : Node) (g : List ℕ) → LegalGroup d which n h p g → is_ap n ≡ false
group_station d which n h p g (By_m3 v) = v.station
group_station d which n h p g (By_g1 v) = v.station
group_station d which n h p g (By_renewal v) = v.station

tried_station : (d : Domain) (n p : Node) (h : List Act) (k : GroupKey) (b : Mac) → LegalHistory d n h → In (Installed (One p) (Group groups.Igtk k.key k.id b)) h → is_ap n ≡ false
tried_station d n p h k b legal there =
    let w = legal_in d n (Installed (One p) (Group groups.Igtk k.key k.id b)) h legal there in
    let l : LegalNew d groups.Igtk n w.before p k.key = w.legal in
    group_station d groups.Igtk n w.before p k.key l.group

-- its header and its body, as they were read
record ActionRead (header : HeaderFields) (body : List ℕ) : Type 0 where
  front : 22 ≤ length header.octets
  from : IsAddress header.a2
  mme : 18 ≤ length body

action_read : (octets : List ℕ) (header : HeaderFields) (body : List ℕ) → SpellsAir octets (action header body) → ActionRead header body
action_read octets header body s =
    let one : action header body ≡ action (header_at 24 octets) (drop 24 octets) = s.0 in
    let h : header ≡ header_at 24 octets = cc one in
    let b : body ≡ drop 24 octets = cc one in
    let long : 24 + 19 ≤ length octets = s.1.frame.long in
    record {
      front = subst (λ (x : HeaderFields). 22 ≤ length x.octets) (sym h) (omega (arith, long, length-take 24 octets));
      from = subst (λ (x : HeaderFields). IsAddress x.a2) (sym h) (length-part octets 10 (omega (arith, long)));
      mme = subst (λ (x : List ℕ). 18 ≤ length x) (sym b) (omega (arith, long, length-drop 24 octets));
    }

abbrev took_action : Node → List ℕ → GroupKey → HeaderFields → List ℕ → Act
took_action p octets k header body = Took (Some p) octets kind.Action Accepted (Some (action_seal k.key header.octets (before_mic body)))

-- what is known of an announcement that was accepted: its kept number
kept_action : (d : Domain) (first : ℕ) (n p : Node) (h : List Act) (header : HeaderFields) (body : List ℕ) (facts : Facts) (k : GroupKey) → Knows d first n h (Acting header body) facts → verdict d first n h (Acting header body) facts ≡ Accepted → peer_of d n header.a2 ≡ Some p → integrity_key p h body ≡ Some k
    → IsGot groups.Igtk p k.key k.id h facts.kept × (facts.kept < ipn_in body)
kept_action d first n p h header body facts k knows accepted from under =
    let o = action_opened d first n h header body facts accepted in
    let other : peer_of d n header.a2 ≡ Some o.p = sender-some d n o.p header (peer_of d n header.a2) o.from in
    let same : o.p ≡ p = cc (other, from) in
    let named : management_sender d n header ≡ Some p = o.from ∙ ap (λ (x : Node). Some x) same in
    let far : first_verdict d first n h (Acting header body) ≡ Accepted = and_accepted (first_verdict d first n h (Acting header body)) (further d first n h (Acting header body) facts) accepted in
    let all : KnowsFrom d n h (Acting header body) facts = knows (subst ComesSoFar (sym far) tt) in
    (all p named k under, ltb-true facts.kept (ipn_in body) o.fresh)

pub action_fine : (d : Domain) (first : ℕ) (n : Node) (h : List Act) (octets : List ℕ) (r : Reading) (facts : Facts) (g : List Act) → Reads d.akm octets r → Knows d first n h r facts → LegalHistory d n h → Settled d n h → ActionRow (here d first n) h octets r facts g → Fine d n h g
action_fine d first n h octets r facts g reads knows legal s row =
    let p : Node = row.p in
    let k : GroupKey = row.k in
    let spelled : SpellsAir octets (action row.header row.body) = subst (λ (x : Reading). Reads d.akm octets x) row.is reads in
    let accepted : verdict d first n h (Acting row.header row.body) facts ≡ Accepted = subst (λ (x : Reading). verdict d first n h x facts ≡ Accepted) row.is row.accepted in
    let known : Knows d first n h (Acting row.header row.body) facts = subst (λ (x : Reading). Knows d first n h x facts) row.is knows in
    let from : peer_of d n row.header.a2 ≡ Some p = subst (λ (x : Reading). sender d n x ≡ Some p) row.is row.from in
    let peer : IsPeer d n p row.header.a2 = peer_is d n p row.header.a2 from in
    let read = action_read octets row.header row.body spelled in
    let kept = kept_action d first n p h row.header row.body facts k known accepted from row.under in
    let there = tried_in p h (bip.key_id_in row.body) k (session p h) row.under in
    let station : is_ap n ≡ false = tried_station d n p h k there.0 legal there.1 in
    let took : Act = took_action p octets k row.header row.body in
    let covered : List ℕ = 4 ∷ bip_input row.header.octets (before_mic row.body) in
    let up : LegalUp d n (took ∷ h) p k.key k.id 0 (ipn_in row.body) (before_mme row.body) = record {
      covered = covered;
      octets = octets;
      kind = kind.Action;
      took = inl refl;
      covers = subst (λ (b : Bool). CoversFrame covered (not b) (covered_tid covered) (ipn_in row.body) (before_mme row.body)) (sym station) (action_frame covered (ipn_in row.body) (before_mme row.body) (taken_covers row.header.octets row.body read.front read.mme));
      whole = subst IsAddress (sym peer.has) read.from;
      roles = peer.other;
      under = With_group station groups.Igtk there.0 (inr there.1) refl (record { act = took; before = h; is = refl; no_up = refl; kept = facts.kept; got = kept.0; above = kept.1 });
    } in
    subst (λ (x : List Act). Fine d n h x) (sym row.says)
    (fine_quiet d n h took _ tt refl s (λ t. fine_quiet d n (took ∷ h) (HandedUp p k.key k.id 0 (ipn_in row.body) (before_mme row.body)) [] up refl t (fine_none d n _)))

-- What an accepted or answered EAPOL-Key message tells of the node, its peer and the history.
use Rattle.std.proofs.Common.{◌∙◌, ℕ, ◌≡◌, ◌⊎◌, ◌+◌, ◌<◌, ◌≤◌, inl, inr, Bool, true, false, cond, List, [], ◌∷◌, ◌++◌, length, take, drop, map, Option, Some, None, refl, sym, ap, subst, arith}
use Rattle.std.specs.Prelude.{not, ◌&&◌, ◌||◌, max, nat_lt, bytes_eq, is_some, if◌then◌else◌}
use Rattle.std.proofs.lemmas.Bool.{ltb-true, and_parts}
use Rattle.std.proofs.lemmas.List.{length-take, length-drop}
use Rattle.std.proofs.lemmas.Slice.Eq.{bytes_eq-Decides}
use Rattle.key_wrap.specs.KeyWrap.{Wraps}
use Rattle.domain_base.specs.declared.names.Akm.{Akm}
use Rattle.domain_base.specs.declared.names.Akm.TheVariants.{Psk, PskSha256, FtPsk}
use Rattle.domain_base.specs.declared.names.Node.{Node}
use Rattle.domain_base.specs.declared.names.Node.TheVariants.{Ap, Sta}
use Rattle.air_frame.specs.Fields.{HeaderFields, header_in, header_at}
use Rattle.air_frame.specs.Control.{data_header_length}
use Rattle.rsn_elements.specs.declared.framing.Within.TheVariants.{KeyData}
use Rattle.rsn_elements.specs.Elements.{ElementFields, SpellsElements}
use Rattle.eapol_key.specs.declared.messages.Message.{Message}
use Rattle.eapol_key.specs.declared.messages.Message.TheVariants.{M1, M2, M3, M4, G1, G2}
use Rattle.run_journal.specs.declared.domain.Domain.{Domain}
use Rattle.run_journal.specs.declared.acts.Start.{Start}
use Rattle.run_journal.specs.declared.acts.Start.TheVariants.{Connect, Roam, Renew}
use Rattle.run_journal.specs.declared.acts.Kind.{Kind}
use Rattle.run_journal.specs.declared.acts.Kind.TheVariants as kind
use Rattle.run_journal.specs.declared.acts.Seal.{Seal}
use Rattle.run_journal.specs.declared.acts.KeyDataFault.TheVariants as key_data
use Rattle.run_journal.specs.declared.acts.Reason.{Reason}
use Rattle.run_journal.specs.declared.acts.Reason.TheVariants as reason
use Rattle.run_journal.specs.declared.acts.Outcome.{Outcome}
use Rattle.run_journal.specs.declared.acts.Outcome.TheVariants.{Accepted, Answered, Refused}
use Rattle.run_journal.specs.declared.acts.Act.{Act}
use Rattle.run_journal.specs.declared.acts.Act.TheVariants.{Derived, Took}
use Rattle.run_journal.specs.Acts.{Derivation, same_kind, replied}
use Rattle.run_journal.specs.Questions.{pending, attempt, derivation, session, chain, draws, listed, all_replied}
use Rattle.run_journal.specs.Premises.{In}
use Rattle.run_journal.proofs.Members.{In-append_right}
use Rattle.domain_rules.specs.Network.{address, peer_of, is_ap, direction, goes_like, r0kh_id, inputs_at, has_renewals, renews, draw_end}
use Rattle.run_journal.specs.Events.{IsListed}
use Rattle.key_hierarchy.specs.Keys.{ptk}
use Rattle.domain_rules.specs.Reading.{Management, KeyMessage, Managed, Keyed, HasMessage}
use Rattle.domain_rules.specs.Facts.{Facts, IsUnwrapped, ReadsKeyData}
use Rattle.domain_rules.specs.AccessPointKeys.{is_secured_rightly, secured_rightly}
use Rattle.domain_rules.specs.StationKeys.{opens_renewal, m1_verdict_opening, m1_verdict_in, Keying, keying_by, session_keying, renewal_keying, attempt_keying, m3_keying, taken_in, m3_verdict_by, g1_verdict_by, g1_wrapped, KnowsM3}
use Rattle.domain_rules.specs.FastTransition.{mobility_status}
use Rattle.domain_rules.specs.Suites.{rsne_status, without_status}
use Rattle.domain_rules.specs.Associating.{assoc_req_verdict, management_verdict}
use Rattle.domain_rules.specs.Asking.{replay_counter, at_least, greatest, in_attempt, above, among, verified, start_of, has_four_way, is_four_way, is_renewal, is_by_renewal, is_secure, session_start, has_heard, kept_counter, offered, own}
use Rattle.domain_rules.specs.Verdict.{is_mine, management_sender, from_peer, key_verdict, first_verdict, further, key_further, m3_further, and_then, unless_refused, verdict, ComesSoFar, KnowsOf, KnowsFrom, Knows}
use Rattle.domain_rules.proofs.Parts.{in_part, same-refl}
use Rattle.domain_rules.proofs.OneOutcome.{from_named}
use Rattle.domain_rules.proofs.Peers.{IsPeer, peer_is}
use Rattle.journal_safety.proofs.Legal.{ack, Above}
use Rattle.journal_safety.proofs.Names.{listed_by}
use Rattle.domain_rules.proofs.Derivations.{derivation_in}
use Rattle.journal_safety.proofs.Histories.{session_in}

-- ---- the two parts of a verdict

first_accepted : (x y : Outcome) → and_then x y ≡ Accepted → x ≡ Accepted
first_accepted Accepted y e = refl
first_accepted Answered (Refused why) e = cc
first_accepted Answered _ e = cc
first_accepted _ y e = e

first_answered : (x y : Outcome) → and_then x y ≡ Answered → x ≡ Answered
first_answered Answered y e = refl
first_answered Accepted (Refused why) e = cc
first_answered Accepted _ e = cc
first_answered _ y e = e

-- nothing is refused further on
further_unrefused : (x y : Outcome) → and_then x y ≡ Accepted → (why : Reason) → y ≡ Refused why → ⊥
further_unrefused Accepted y e why is = let w : unless_refused Accepted (Refused why) ≡ Accepted = subst (λ (z : Outcome). unless_refused Accepted z ≡ Accepted) is e in cc w
further_unrefused Answered y e why is = let w : unless_refused Answered (Refused why) ≡ Accepted = subst (λ (z : Outcome). unless_refused Answered z ≡ Accepted) is e in cc w
further_unrefused _ y e why is = cc

-- ---- whom a message is for and from

comes_as : (x y : Outcome) → x ≡ y → ComesSoFar y → ComesSoFar x
comes_as x y e c = subst ComesSoFar (sym e) c

pub record Sender (d : Domain) (n : Node) (h : List Act) (k : KeyMessage) (o : Outcome) : Type 0 where
  pub p : Node
  pub mine : is_mine d n k.header ≡ true
  pub from : peer_of d n k.header.a2 ≡ Some p
  pub drawn : ℕ
  pub over : draws h ≤ drawn
  pub is : key_verdict d drawn n h p k k.message ≡ o

mine_by : (a b : Bool) → (not a || b) ≡ false → a ≡ true
mine_by true b e = refl
mine_by false b e = cc

sender_peer : (d : Domain) (drawn : ℕ) (n : Node) (h : List Act) (k : KeyMessage) (o : Outcome) → draws h ≤ drawn → ComesSoFar o → is_mine d n k.header ≡ true → (q : Option Node) → peer_of d n k.header.a2 ≡ q → from_peer q (λ p. key_verdict d drawn n h p k k.message) ≡ o → Sender d n h k o
sender_peer d drawn n h k o most c mine None is e = absurd (comes_as (Refused reason.UnknownPeer) o e c)
sender_peer d drawn n h k o most c mine (Some p) is e = record { p = p; mine = mine; from = is; drawn = drawn; over = most; is = e }

sender_by : (d : Domain) (drawn : ℕ) (n : Node) (h : List Act) (k : KeyMessage) (o : Outcome) → draws h ≤ drawn → ComesSoFar o → (b : Bool) → (not (is_mine d n k.header) || goes_like k.direction (direction n)) ≡ b
    → cond b (Refused reason.NotForMe) (from_peer (peer_of d n k.header.a2) (λ p. key_verdict d drawn n h p k k.message)) ≡ o → Sender d n h k o
sender_by d drawn n h k o most c true is e = absurd (comes_as (Refused reason.NotForMe) o e c)
sender_by d drawn n h k o most c false is e = sender_peer d drawn n h k o most c (mine_by (is_mine d n k.header) (goes_like k.direction (direction n)) is) (peer_of d n k.header.a2) refl e

sender_of : (d : Domain) (first : ℕ) (n : Node) (h : List Act) (k : KeyMessage) (o : Outcome) → ComesSoFar o → first_verdict d first n h (Keyed k) ≡ o → Sender d n h k o
sender_of d first n h k o c e = sender_by d (first + draws h) n h k o (omega arith) c (not (is_mine d n k.header) || goes_like k.direction (direction n)) refl e

-- the direction is that of the other side
key_role : (d : Domain) (drawn : ℕ) (n : Node) (h : List Act) (p : Node) (k : KeyMessage) (m : Message) (o : Outcome) → ComesSoFar o → key_verdict d drawn n h p k m ≡ o → ack m ≡ not (is_ap n)
key_role d drawn (Sta s) h p k M1 o c e = refl
key_role d drawn (Ap a) h p k M2 o c e = refl
key_role d drawn (Sta s) h p k M3 o c e = refl
key_role d drawn (Ap a) h p k M4 o c e = refl
key_role d drawn (Ap a) h p k M1 o c e = absurd (comes_as _ o e c)
key_role d drawn (Sta s) h p k M2 o c e = absurd (comes_as _ o e c)
key_role d drawn (Ap a) h p k M3 o c e = absurd (comes_as _ o e c)
key_role d drawn (Sta s) h p k M4 o c e = absurd (comes_as _ o e c)
key_role d drawn (Ap a) h p k G1 o c e = absurd (comes_as _ o e c)
key_role d drawn (Sta s) h p k G1 o c e = refl
key_role d drawn (Ap a) h p k G2 o c e = refl
key_role d drawn (Sta s) h p k G2 o c e = absurd (comes_as _ o e c)

-- an address in a frame is there
pub some_address : (akm : Akm) (octets : List ℕ) (k : KeyMessage) → HasMessage akm octets k → 1 ≤ length k.header.a1
some_address akm octets k has =
    let long : data_header_length octets + 8 ≤ length octets = has.frame.spelled.1.frame.long in
    let header : Some k.header ≡ Some (header_at (data_header_length octets) octets) = ap header_in has.frame.spelled.0 in
    let is : k.header ≡ header_at (data_header_length octets) octets = cc header in
    let a1 : k.header.a1 ≡ take 6 (drop 4 octets) = ap (λ (x : HeaderFields). x.a1) is in
    omega (arith, long, ap length a1, length-take 6 (drop 4 octets), length-drop 4 octets)

-- of a message that was accepted or answered at n from p
pub record Taken (d : Domain) (n p : Node) (h : List Act) (k : KeyMessage) (o : Outcome) : Type 0 where
  pub direction : ack k.message ≡ not (is_ap n)
  pub roles : is_ap p ≡ not (is_ap n)
  pub listed : IsListed d n
  pub peer_listed : IsListed d p
  pub from : peer_of d n k.header.a2 ≡ Some p
  pub drawn : ℕ
  pub over : draws h ≤ drawn
  pub is : key_verdict d drawn n h p k k.message ≡ o

taken_by : (d : Domain) (first : ℕ) (n p : Node) (h : List Act) (octets : List ℕ) (k : KeyMessage) (o : Outcome) → ComesSoFar o → HasMessage d.akm octets k → peer_of d n k.header.a2 ≡ Some p → first_verdict d first n h (Keyed k) ≡ o → Taken d n p h k o
taken_by d first n p h octets k o c has from e =
    let s = sender_of d first n h k o c e in
    let one : s.p ≡ p = cc (s.from, from) in
    let peer : IsPeer d n p k.header.a2 = peer_is d n p k.header.a2 from in
    let mine : k.header.a1 ≡ address d n = (bytes_eq-Decides k.header.a1 (address d n)).0 s.mine in
    let is : key_verdict d s.drawn n h p k k.message ≡ o = subst (λ (x : Node). key_verdict d s.drawn n h x k k.message ≡ o) one s.is in
    record {
      direction = key_role d s.drawn n h p k k.message o c is;
      roles = peer.other;
      listed = listed_by d n (subst (λ (x : List ℕ). 1 ≤ length x) mine (some_address d.akm octets k has));
      peer_listed = peer.listed;
      from = from;
      drawn = s.drawn;
      over = s.over;
      is = is;
    }

pub taken_accepted : (d : Domain) (first : ℕ) (n p : Node) (h : List Act) (octets : List ℕ) (k : KeyMessage) (facts : Facts) → HasMessage d.akm octets k → peer_of d n k.header.a2 ≡ Some p → verdict d first n h (Keyed k) facts ≡ Accepted → Taken d n p h k Accepted
taken_accepted d first n p h octets k facts has from e = taken_by d first n p h octets k Accepted tt has from (first_accepted (first_verdict d first n h (Keyed k)) (further d first n h (Keyed k) facts) e)

pub taken_answered : (d : Domain) (first : ℕ) (n p : Node) (h : List Act) (octets : List ℕ) (k : KeyMessage) (facts : Facts) → HasMessage d.akm octets k → peer_of d n k.header.a2 ≡ Some p → verdict d first n h (Keyed k) facts ≡ Answered → Taken d n p h k Answered
taken_answered d first n p h octets k facts has from e = taken_by d first n p h octets k Answered tt has from (first_answered (first_verdict d first n h (Keyed k)) (further d first n h (Keyed k) facts) e)

-- ---- M3

verified_as : (b : Bool) (x : Outcome) → cond b x (Refused reason.Mic) ≡ Accepted → x ≡ Accepted
verified_as true x e = e
verified_as false x e = cc

nonce_as : (b : Bool) (x : Outcome) → cond b x (Refused reason.Nonce) ≡ Accepted → x ≡ Accepted
nonce_as true x e = e
nonce_as false x e = cc

above_by : (kept : ℕ) (b : Bool) (x : Outcome) → cond b x (Refused (reason.Counter kept)) ≡ Accepted → x ≡ Accepted
above_by kept true x e = e
above_by kept false x e = cc

above_as : (o : Option ℕ) (counter : ℕ) (x : Outcome) → above o counter x ≡ Accepted → x ≡ Accepted
above_as None counter x e = e
above_as (Some kept) counter x e = above_by kept _ x e

taken_as : (b : Bool) → taken_in b ≡ Accepted → b ≡ false
taken_as false e = refl
taken_as true e = cc

m3_first : (d : Domain) (kept : Option ℕ) (k : KeyMessage) (y : Keying) → m3_verdict_by d kept k (Some y) ≡ Accepted → y.is_session ≡ false
m3_first d kept k y e = taken_as y.is_session (verified_as _ (taken_in y.is_session) (nonce_as _ (verified d.akm y.key.ptk.kck k (taken_in y.is_session)) (above_as kept k.fields.counter _ e)))

answered_as : (b : Bool) → taken_in b ≡ Answered → b ≡ true
answered_as true e = refl
answered_as false e = cc

verified_so : (b : Bool) (x : Outcome) → cond b x (Refused reason.Mic) ≡ Answered → x ≡ Answered
verified_so true x e = e
verified_so false x e = cc

nonce_so : (b : Bool) (x : Outcome) → cond b x (Refused reason.Nonce) ≡ Answered → x ≡ Answered
nonce_so true x e = e
nonce_so false x e = cc

above_so_by : (kept : ℕ) (b : Bool) (x : Outcome) → cond b x (Refused (reason.Counter kept)) ≡ Answered → x ≡ Answered
above_so_by kept true x e = e
above_so_by kept false x e = cc

above_so : (o : Option ℕ) (counter : ℕ) (x : Outcome) → above o counter x ≡ Answered → x ≡ Answered
above_so None counter x e = e
above_so (Some kept) counter x e = above_so_by kept _ x e

m3_again : (d : Domain) (kept : Option ℕ) (k : KeyMessage) (y : Keying) → m3_verdict_by d kept k (Some y) ≡ Answered → y.is_session ≡ true
m3_again d kept k y e = answered_as y.is_session (verified_so _ (taken_in y.is_session) (nonce_so _ (verified d.akm y.key.ptk.kck k (taken_in y.is_session)) (above_so kept k.fields.counter _ e)))

m3_session : (d : Domain) (drawn : ℕ) (n : Node) (h : List Act) (p : Node) (k : KeyMessage) (y : Keying) → key_verdict d drawn n h p k M3 ≡ Answered → m3_keying p h k ≡ Some y → y.is_session ≡ true
m3_session d drawn (Sta s) h p k y e is = m3_again d (kept_counter p (chain p h)) k y (subst (λ (x : Option Keying). m3_verdict_by d (kept_counter p (chain p h)) k x ≡ Answered) is e)
m3_session d drawn (Ap a) h p k y e is = cc

m3_attempt : (d : Domain) (drawn : ℕ) (n : Node) (h : List Act) (p : Node) (k : KeyMessage) (y : Keying) → key_verdict d drawn n h p k M3 ≡ Accepted → m3_keying p h k ≡ Some y → y.is_session ≡ false
m3_attempt d drawn (Sta s) h p k y e is = m3_first d (kept_counter p (chain p h)) k y (subst (λ (x : Option Keying). m3_verdict_by d (kept_counter p (chain p h)) k x ≡ Accepted) is e)
m3_attempt d drawn (Ap a) h p k y e is = cc

-- the key by which an M3 is judged was derived, and in an attempt it is the last one of it
by_derivation : (b : Bool) (o : Option Derivation) (y : Keying) → keying_by b o ≡ Some y → (o ≡ Some y.key) × (y.is_session ≡ b)
by_derivation b None y e = cc
by_derivation b (Some x) y e =
    let one : record { key = x; is_session = b } ≡ y = cc e in
    (ap (λ (z : Keying). Some z.key) one, ap (λ (z : Keying). z.is_session) (sym one))

pub record KeyingIn (p : Node) (h : List Act) (y : Keying) : Type 0 where
  pub there : In (Derived p y.key.inputs y.key.ptk) h
  pub awaited : y.is_session ≡ false → (part : List Act) × ((attempt p h ≡ Some part) × ((derivation p part ≡ Some y.key) × (is_four_way part ≡ true)))
  pub held : y.is_session ≡ true → session p h ≡ Some y.key

in_session : (p : Node) (h : List Act) (y : Keying) (b : Bool) → cond b (keying_by true (session p h)) None ≡ Some y → KeyingIn p h y
in_session p h y false e = cc
in_session p h y true e =
    let w = by_derivation true (session p h) y e in
    record { there = session_in p h y.key w.0; awaited = λ no. (let z : y.is_session ≡ true = w.1 in cc (no, z)); held = λ sure. w.0 }

of_part : (p : Node) (h part : List Act) (y : Keying) → attempt p h ≡ Some part → is_four_way part ≡ true → derivation p part ≡ Some y.key → y.is_session ≡ false → KeyingIn p h y
of_part p h part y a begun last here = record {
  there = in_part p h part (Derived p y.key.inputs y.key.ptk) a (derivation_in p part y.key last);
  awaited = λ no. (part, (a, (last, begun)));
  held = λ sure. absurd (cc (here, sure));
}

-- in an attempt that renews a key it is that of the attempt or of the session
renewal_four_way : (o : Option Start) → is_renewal o ≡ true → has_four_way o ≡ true
renewal_four_way (Some Renew) is = refl
renewal_four_way (Some Connect) is = absurd (cc is)
renewal_four_way (Some Roam) is = absurd (cc is)
renewal_four_way None is = absurd (cc is)

in_renewal_by : (p : Node) (h part : List Act) (k : KeyMessage) (y : Keying) (o : Option Derivation) → attempt p h ≡ Some part → is_by_renewal part ≡ true → derivation p part ≡ o → renewal_keying p h k o ≡ Some y → KeyingIn p h y
in_renewal_by p h part k y None a begun at e = in_session p h y (has_four_way (session_start p h)) e
in_renewal_by p h part k y (Some x) a begun at e = go (bytes_eq k.fields.nonce x.inputs.anonce) e
  where
    go : (b : Bool) → cond b (keying_by false (Some x)) (session_keying p h) ≡ Some y → KeyingIn p h y
    go true s = let w = by_derivation false (Some x) y s in of_part p h part y a (renewal_four_way (start_of part) begun) (at ∙ w.0) w.1
    go false s = in_session p h y (has_four_way (session_start p h)) s

in_attempt_by : (p : Node) (h part : List Act) (y : Keying) → attempt p h ≡ Some part → (b c : Bool) → is_four_way part ≡ b → cond b (cond c (keying_by false (derivation p part)) None) (session_keying p h) ≡ Some y → KeyingIn p h y
in_attempt_by p h part y a false c begun e = in_session p h y (has_four_way (session_start p h)) e
in_attempt_by p h part y a true false begun e = cc
in_attempt_by p h part y a true true begun e =
    let w = by_derivation false (derivation p part) y e in of_part p h part y a begun w.0 w.1

keying_in_part : (p : Node) (h part : List Act) (k : KeyMessage) (y : Keying) → attempt p h ≡ Some part → (r : Bool) → is_by_renewal part ≡ r
    → cond r (renewal_keying p h k (derivation p part)) (cond (is_four_way part) (cond (has_heard p (kind.Key M1) part) (keying_by false (derivation p part)) None) (session_keying p h)) ≡ Some y → KeyingIn p h y
keying_in_part p h part k y a true begun e = in_renewal_by p h part k y (derivation p part) a begun refl e
keying_in_part p h part k y a false begun e = in_attempt_by p h part y a (is_four_way part) (has_heard p (kind.Key M1) part) refl e

keying_in_by : (p : Node) (h : List Act) (k : KeyMessage) (y : Keying) (o : Option (List Act)) → attempt p h ≡ o → attempt_keying p h k o ≡ Some y → KeyingIn p h y
keying_in_by p h k y None a e = in_session p h y (has_four_way (session_start p h)) e
keying_in_by p h k y (Some part) a e = keying_in_part p h part k y a (is_by_renewal part) refl e

pub keying_in : (p : Node) (h : List Act) (k : KeyMessage) (y : Keying) → m3_keying p h k ≡ Some y → KeyingIn p h y
keying_in p h k y e = keying_in_by p h k y (attempt p h) refl e

-- what an accepted M3 or G1 carries, under a KEK
pub record Unwrapped (kek : List ℕ) (k : KeyMessage) (facts : Facts) : Type 0 where
  pub plain : List ℕ
  pub e : ElementFields
  pub wraps : Wraps kek plain k.fields.key_data
  pub spelled : SpellsElements KeyData plain e
  pub is : facts.data_ ≡ Some e

-- by the suite: without plain text, or where it cannot be read, it is refused
no_plain : (akm : Akm) (d : Domain) (y : Keying) (facts : Facts) → facts.unwrapped ≡ None → m3_further akm d (Some y) facts ≡ Refused reason.Wrap
no_plain Psk d y facts is = rw is refl
no_plain PskSha256 d y facts is = rw is refl
no_plain FtPsk d y facts is = rw is refl

no_data : (akm : Akm) (d : Domain) (y : Keying) (facts : Facts) (plain : List ℕ) → facts.unwrapped ≡ Some plain → facts.data_ ≡ None → m3_further akm d (Some y) facts ≡ Refused (reason.KeyData key_data.Unreadable)
no_data Psk d y facts plain is none = rw (is, none) refl
no_data PskSha256 d y facts plain is none = rw (is, none) refl
no_data FtPsk d y facts plain is none = rw (is, none) refl

unwrapped_by : (d : Domain) (y : Keying) (k : KeyMessage) (facts : Facts) → KnowsM3 y.key.ptk.kek k facts → ((why : Reason) → m3_further d.akm d (Some y) facts ≡ Refused why → ⊥) → (u : Option (List ℕ)) → facts.unwrapped ≡ u → (o : Option ElementFields) → facts.data_ ≡ o → Unwrapped y.key.ptk.kek k facts
unwrapped_by d y k facts knows unrefused None is o none = absurd (unrefused reason.Wrap (no_plain d.akm d y facts is))
unwrapped_by d y k facts knows unrefused (Some plain) is None none = absurd (unrefused (reason.KeyData key_data.Unreadable) (no_data d.akm d y facts plain is none))
unwrapped_by d y k facts knows unrefused (Some plain) is (Some e) said = record {
  plain = plain;
  e = e;
  wraps = (subst (λ (x : Option (List ℕ)). IsUnwrapped y.key.ptk.kek k.fields.key_data x) is knows.unwrapped).1;
  spelled = subst (λ (x : Option ElementFields). ReadsKeyData plain x) said (knows.data_ plain is);
  is = said;
}

-- what is asked further of a message from p
further_named : (d : Domain) (first : ℕ) (n : Node) (h : List Act) (k : KeyMessage) (facts : Facts) (p : Node) → peer_of d n k.header.a2 ≡ Some p → further d first n h (Keyed k) facts ≡ key_further d n h p k k.message facts
further_named d first n h k facts p from = from_named (peer_of d n k.header.a2) p (λ p. key_further d n h p k k.message facts) from

-- the facts are known of a message that came so far
knows_m3 : (d : Domain) (first : ℕ) (n p : Node) (h : List Act) (k : KeyMessage) (facts : Facts) (y : Keying) → k.message ≡ M3 → peer_of d n k.header.a2 ≡ Some p → first_verdict d first n h (Keyed k) ≡ Accepted → Knows d first n h (Keyed k) facts → m3_keying p h k ≡ Some y → KnowsM3 y.key.ptk.kek k facts
knows_m3 d first n p h k facts y m3 from e knows awaited =
    let all : KnowsFrom d n h (Keyed k) facts = knows (comes_as (first_verdict d first n h (Keyed k)) Accepted e tt) in
    subst (λ (m : Message). KnowsOf d.akm h p m k facts) m3 (all p from).0 y awaited

pub unwrapped_m3 : (d : Domain) (first : ℕ) (n p : Node) (h : List Act) (k : KeyMessage) (facts : Facts) (y : Keying) → k.message ≡ M3 → peer_of d n k.header.a2 ≡ Some p → verdict d first n h (Keyed k) facts ≡ Accepted → Knows d first n h (Keyed k) facts → m3_keying p h k ≡ Some y → Unwrapped y.key.ptk.kek k facts
unwrapped_m3 d first n p h k facts y m3 from e knows awaited =
    let so_far = first_accepted (first_verdict d first n h (Keyed k)) (further d first n h (Keyed k) facts) e in
    unwrapped_by d y k facts (knows_m3 d first n p h k facts y m3 from so_far knows awaited)
    (λ why is. further_unrefused (first_verdict d first n h (Keyed k)) (further d first n h (Keyed k) facts) e why
    (further_named d first n h k facts p from ∙ ap (λ (m : Message). key_further d n h p k m facts) m3 ∙ ap (λ (o : Option Keying). m3_further d.akm d o facts) awaited ∙ is))
    facts.unwrapped refl facts.data_ refl

pub awaited_m3 : (d : Domain) (n p : Node) (h : List Act) (k : KeyMessage) (y : Keying) → k.message ≡ M3 → Taken d n p h k Accepted → m3_keying p h k ≡ Some y → y.is_session ≡ false
awaited_m3 d n p h k y m3 t awaited = m3_attempt d t.drawn n h p k y (subst (λ (m : Message). key_verdict d t.drawn n h p k m ≡ Accepted) m3 t.is) awaited

pub held_m3 : (d : Domain) (n p : Node) (h : List Act) (k : KeyMessage) (y : Keying) → k.message ≡ M3 → Taken d n p h k Answered → m3_keying p h k ≡ Some y → y.is_session ≡ true
held_m3 d n p h k y m3 t awaited = m3_session d t.drawn n h p k y (subst (λ (m : Message). key_verdict d t.drawn n h p k m ≡ Answered) m3 t.is) awaited

-- ---- G1: what it carries, and that its replay counter is above all before it

unwrapped_g1_by : (d : Domain) (kek : List ℕ) (k : KeyMessage) (facts : Facts) → KnowsM3 kek k facts → ((why : Reason) → g1_wrapped d facts.unwrapped facts.data_ ≡ Refused why → ⊥) → (u : Option (List ℕ)) → facts.unwrapped ≡ u → (o : Option ElementFields) → facts.data_ ≡ o → Unwrapped kek k facts
unwrapped_g1_by d kek k facts knows unrefused None is o none = absurd (unrefused reason.Wrap (rw is refl))
unwrapped_g1_by d kek k facts knows unrefused (Some plain) is None none = absurd (unrefused (reason.KeyData key_data.Unreadable) (rw (is, none) refl))
unwrapped_g1_by d kek k facts knows unrefused (Some plain) is (Some e) said = record {
  plain = plain;
  e = e;
  wraps = (subst (λ (x : Option (List ℕ)). IsUnwrapped kek k.fields.key_data x) is knows.unwrapped).1;
  spelled = subst (λ (x : Option ElementFields). ReadsKeyData plain x) said (knows.data_ plain is);
  is = said;
}

knows_g1 : (d : Domain) (first : ℕ) (n p : Node) (h : List Act) (k : KeyMessage) (facts : Facts) (x : Derivation) → k.message ≡ G1 → peer_of d n k.header.a2 ≡ Some p → first_verdict d first n h (Keyed k) ≡ Accepted → Knows d first n h (Keyed k) facts → session p h ≡ Some x → KnowsM3 x.ptk.kek k facts
knows_g1 d first n p h k facts x g1 from e knows awaited =
    let all : KnowsFrom d n h (Keyed k) facts = knows (comes_as (first_verdict d first n h (Keyed k)) Accepted e tt) in
    subst (λ (m : Message). KnowsOf d.akm h p m k facts) g1 (all p from).0 x awaited

pub unwrapped_g1 : (d : Domain) (first : ℕ) (n p : Node) (h : List Act) (k : KeyMessage) (facts : Facts) (x : Derivation) → k.message ≡ G1 → peer_of d n k.header.a2 ≡ Some p → verdict d first n h (Keyed k) facts ≡ Accepted → Knows d first n h (Keyed k) facts → session p h ≡ Some x → Unwrapped x.ptk.kek k facts
unwrapped_g1 d first n p h k facts x g1 from e knows awaited =
    let so_far = first_accepted (first_verdict d first n h (Keyed k)) (further d first n h (Keyed k) facts) e in
    unwrapped_g1_by d x.ptk.kek k facts (knows_g1 d first n p h k facts x g1 from so_far knows awaited)
    (λ why is. further_unrefused (first_verdict d first n h (Keyed k)) (further d first n h (Keyed k) facts) e why
    (further_named d first n h k facts p from ∙ ap (λ (m : Message). key_further d n h p k m facts) g1 ∙ is))
    facts.unwrapped refl facts.data_ refl

above_low_by : (y counter : ℕ) (b : Bool) (x : Outcome) → nat_lt y counter ≡ b → cond b x (Refused (reason.Counter y)) ≡ Accepted → y < counter
above_low_by y counter true x is e = ltb-true y counter is
above_low_by y counter false x is e = cc

above_low : (o : Option ℕ) (counter y : ℕ) (x : Outcome) → o ≡ Some y → above o counter x ≡ Accepted → y < counter
above_low o counter y x is e = let w : above (Some y) counter x ≡ Accepted = subst (λ (z : Option ℕ). above z counter x ≡ Accepted) is e in above_low_by y counter (nat_lt y counter) x refl w

-- the greatest is no less than each
over_by : (x z : ℕ) (o : Option ℕ) → (x ≡ z) ⊎ ((y : ℕ) × ((o ≡ Some y) × (x ≤ y))) → (y : ℕ) × ((at_least z o ≡ Some y) × (x ≤ y))
over_by x z None (inl is) = (z, (refl, omega (arith, is)))
over_by x z None (inr w) = cc (w.1.0)
over_by x z (Some v) (inl is) = (max z v, (refl, omega (arith, is)))
over_by x z (Some v) (inr w) = (max z v, (refl, (let one : v ≡ w.0 = cc (w.1.0) in omega (arith, one, w.1.1))))

over : (x : ℕ) (xs : List ℕ) → In x xs → (y : ℕ) × ((greatest xs ≡ Some y) × (x ≤ y))
over x [] there = absurd there
over x (z ∷ zs) (inl here) = over_by x z (greatest zs) (inl here)
over x (z ∷ zs) (inr later) = over_by x z (greatest zs) (inr (over x zs later))

mapped_in : (octets : List ℕ) (xs : List (List ℕ)) → In octets xs → In (replay_counter octets) (map replay_counter xs)
mapped_in octets [] there = there
mapped_in octets (x ∷ xs) (inl here) = inl (ap replay_counter here)
mapped_in octets (x ∷ xs) (inr later) = inr (mapped_in octets xs later)

listed_more : (octets : List ℕ) (o : Option (List ℕ)) (xs : List (List ℕ)) → In octets xs → In octets (listed o xs)
listed_more octets None xs there = there
listed_more octets (Some x) xs there = inr there

replied_in : (p : Node) (m : Message) (octets : List ℕ) (s : Option Seal) (part : List Act) → same_kind (kind.Key m) (kind.Key m) ≡ true → In (Took (Some p) octets (kind.Key m) Accepted s) part → In octets (all_replied p (kind.Key m) part)
replied_in p m octets s [] same there = absurd there
replied_in p m octets s (e ∷ part) same (inl here) =
    subst (λ (x : Act). In octets (listed (replied p (kind.Key m) x) (all_replied p (kind.Key m) part))) here (rw (same-refl p, same) (inl refl))
replied_in p m octets s (e ∷ part) same (inr later) = listed_more octets (replied p (kind.Key m) e) (all_replied p (kind.Key m) part) (replied_in p m octets s part same later)

kept_in : (p : Node) (octets : List ℕ) (s : Option Seal) (part : List Act) → In (Took (Some p) octets (kind.Key G1) Accepted s) part → In octets (all_replied p (kind.Key M3) part ++ all_replied p (kind.Key G1) part)
kept_in p octets s part there = In-append_right octets (all_replied p (kind.Key M3) part) (all_replied p (kind.Key G1) part) (replied_in p G1 octets s part refl there)

above_kept : (p : Node) (part : List Act) (counter : ℕ) (x : Outcome) → above (kept_counter p part) counter x ≡ Accepted → Above p counter part
above_kept p part counter x e octets s there =
    let w = over (replay_counter octets) (map replay_counter (all_replied p (kind.Key M3) part ++ all_replied p (kind.Key G1) part))
    (mapped_in octets (all_replied p (kind.Key M3) part ++ all_replied p (kind.Key G1) part) (kept_in p octets s part there)) in
    let low : w.0 < counter = above_low (kept_counter p part) counter w.0 x w.1.0 e in
    omega (arith, low, w.1.1)

g1_above_by : (d : Domain) (h : List Act) (p : Node) (k : KeyMessage) (x : Derivation) → g1_verdict_by d (kept_counter p (chain p h)) k (Some x) ≡ Accepted → Above p k.fields.counter (chain p h)
g1_above_by d h p k x e = above_kept p (chain p h) k.fields.counter (verified d.akm x.ptk.kck k Accepted) e

g1_above_at : (d : Domain) (drawn : ℕ) (n : Node) (h : List Act) (p : Node) (k : KeyMessage) (x : Derivation) → key_verdict d drawn n h p k G1 ≡ Accepted → session p h ≡ Some x → Above p k.fields.counter (chain p h)
g1_above_at d drawn (Sta s) h p k x e is = g1_above_by d h p k x (subst (λ (o : Option Derivation). g1_verdict_by d (kept_counter p (chain p h)) k o ≡ Accepted) is e)
g1_above_at d drawn (Ap a) h p k x e is = absurd (cc e)

pub g1_above : (d : Domain) (n p : Node) (h : List Act) (k : KeyMessage) (x : Derivation) → k.message ≡ G1 → Taken d n p h k Accepted → session p h ≡ Some x → Above p k.fields.counter (chain p h)
g1_above d n p h k x g1 t is = g1_above_at d t.drawn n h p k x (subst (λ (m : Message). key_verdict d t.drawn n h p k m ≡ Accepted) g1 t.is) is

-- and so is that of an M3
m3_above_at : (d : Domain) (drawn : ℕ) (n : Node) (h : List Act) (p : Node) (k : KeyMessage) (y : Keying) → key_verdict d drawn n h p k M3 ≡ Accepted → m3_keying p h k ≡ Some y → Above p k.fields.counter (chain p h)
m3_above_at d drawn (Sta s) h p k y e is =
    above_kept p (chain p h) k.fields.counter (if bytes_eq k.fields.nonce y.key.inputs.anonce then verified d.akm y.key.ptk.kck k (taken_in y.is_session) else Refused reason.Nonce)
    (subst (λ (o : Option Keying). m3_verdict_by d (kept_counter p (chain p h)) k o ≡ Accepted) is e)
m3_above_at d drawn (Ap a) h p k y e is = absurd (cc e)

pub m3_above : (d : Domain) (n p : Node) (h : List Act) (k : KeyMessage) (y : Keying) → k.message ≡ M3 → Taken d n p h k Accepted → m3_keying p h k ≡ Some y → Above p k.fields.counter (chain p h)
m3_above d n p h k y m3 t is = m3_above_at d t.drawn n h p k y (subst (λ (m : Message). key_verdict d t.drawn n h p k m ≡ Accepted) m3 t.is) is

-- ---- M2 is accepted once in an attempt, and where keys are renewed with a Secure bit that tells what attempt it is

silent_by : (a b : Bool) (x : Outcome) → cond (a || b) (Refused reason.Unawaited) x ≡ Accepted → b ≡ false
silent_by true b x e = cc
silent_by false true x e = cc
silent_by false false x e = refl

-- the verdict on M2 by the attempt
abbrev m2_by : Domain → ℕ → Node → KeyMessage → Option (List Act) → Outcome
m2_by d a p k o = in_attempt o (λ part. (
    if not (is_four_way part) || has_heard p (kind.Key M2) part then Refused reason.Unawaited
    else secured_rightly d part k (among (offered p M1 part) k.fields.counter
    (verified d.akm (ptk (inputs_at d (Ap a) p (r0kh_id d (Ap a)) (own part) k.fields.nonce)).kck k Accepted))))

rightly_by : (a b : Bool) (x : Outcome) → cond a (Refused reason.Unawaited) (cond b x (Refused reason.Unawaited)) ≡ Accepted → b ≡ true
rightly_by true b x e = cc
rightly_by false true x e = refl
rightly_by false false x e = cc

-- the Secure bit is set in an attempt that renews a key alone
tells_by : (a b c : Bool) → cond a (cond b c (not c)) true ≡ true → a ≡ true → c ≡ true → b ≡ true
tells_by true true c e some bit = refl
tells_by true false true e some bit = cc
tells_by true false false e some bit = cc
tells_by false b c e some bit = cc

m2_tells_at : (d : Domain) (drawn : ℕ) (n : Node) (h : List Act) (p : Node) (k : KeyMessage) (part : List Act) → key_verdict d drawn n h p k M2 ≡ Accepted → attempt p h ≡ Some part → has_renewals d ≡ true → is_secure k ≡ true → is_by_renewal part ≡ true
m2_tells_at d drawn (Ap a) h p k part e is some bit =
    tells_by (has_renewals d) (is_by_renewal part) (is_secure k)
    (rightly_by (not (is_four_way part) || has_heard p (kind.Key M2) part) (is_secured_rightly d part k) _ (subst (λ (o : Option (List Act)). m2_by d a p k o ≡ Accepted) is e)) some bit
m2_tells_at d drawn (Sta s) h p k part e is some bit = absurd (cc e)

pub m2_tells : (d : Domain) (n p : Node) (h : List Act) (k : KeyMessage) (part : List Act) → k.message ≡ M2 → Taken d n p h k Accepted → attempt p h ≡ Some part → has_renewals d ≡ true → is_secure k ≡ true → is_by_renewal part ≡ true
m2_tells d n p h k part m2 t is some bit = m2_tells_at d t.drawn n h p k part (subst (λ (m : Message). key_verdict d t.drawn n h p k m ≡ Accepted) m2 t.is) is some bit

m2_silent_at : (d : Domain) (drawn : ℕ) (n : Node) (h : List Act) (p : Node) (k : KeyMessage) (part : List Act) → key_verdict d drawn n h p k M2 ≡ Accepted → attempt p h ≡ Some part → has_heard p (kind.Key M2) part ≡ false
m2_silent_at d drawn (Ap a) h p k part e is = silent_by (not (is_four_way part)) (has_heard p (kind.Key M2) part) _ (subst (λ (o : Option (List Act)). m2_by d a p k o ≡ Accepted) is e)
m2_silent_at d drawn (Sta s) h p k part e is = absurd (cc e)

pub m2_silent : (d : Domain) (n p : Node) (h : List Act) (k : KeyMessage) (part : List Act) → k.message ≡ M2 → Taken d n p h k Accepted → attempt p h ≡ Some part → has_heard p (kind.Key M2) part ≡ false
m2_silent d n p h k part m2 t is = m2_silent_at d t.drawn n h p k part (subst (λ (m : Message). key_verdict d t.drawn n h p k m ≡ Accepted) m2 t.is) is

-- ---- by M1 a station begins to renew the key of a session

-- where a nonce can be drawn
unspent : (drawn : ℕ) → (if nat_lt drawn draw_end then Accepted else Refused reason.Spent) ≡ Accepted → drawn < draw_end
unspent drawn s = go (nat_lt drawn draw_end) refl s
  where
    go : (b : Bool) → nat_lt drawn draw_end ≡ b → cond b Accepted (Refused reason.Spent) ≡ Accepted → drawn < draw_end
    go true is w = ltb-true drawn draw_end is
    go false is w = cc w

pub record Opening (d : Domain) (p : Node) (h : List Act) : Type 0 where
  pub renewing : renews d ≡ true
  pub x : Derivation
  pub awaited : session p h ≡ Some x
  pub few : draws h < draw_end

opened_if : (b : Bool) (x : Outcome) → cond b x (Refused reason.Unawaited) ≡ Accepted → (b ≡ true) × (x ≡ Accepted)
opened_if true x e = (refl, e)
opened_if false x e = cc

some_session : (o : Option Derivation) → is_some o ≡ true → (x : Derivation) × (o ≡ Some x)
some_session None e = cc
some_session (Some x) e = (x, refl)

opening_by : (d : Domain) (drawn : ℕ) (h : List Act) (p : Node) (k : KeyMessage) → draws h ≤ drawn → m1_verdict_opening d drawn h p k ≡ Accepted → Opening d p h
opening_by d drawn h p k most e =
    let w = opened_if (opens_renewal d h p) (above (kept_counter p (chain p h)) k.fields.counter (if nat_lt drawn draw_end then Accepted else Refused reason.Spent)) e in
    let low = unspent drawn (above_as (kept_counter p (chain p h)) k.fields.counter (if nat_lt drawn draw_end then Accepted else Refused reason.Spent) w.1) in
    let parts = and_parts (renews d) (not (is_some (pending h)) && (is_some (session p h) && has_four_way (session_start p h))) w.0 in
    let within = (and_parts (not (is_some (pending h))) (is_some (session p h) && has_four_way (session_start p h)) parts.1).1 in
    let x = some_session (session p h) (and_parts (is_some (session p h)) (has_four_way (session_start p h)) within).0 in
    record { renewing = parts.0; x = x.0; awaited = x.1; few = omega (arith, most, low) }

opening_at : (d : Domain) (drawn : ℕ) (n : Node) (h : List Act) (p : Node) (k : KeyMessage) → draws h ≤ drawn → key_verdict d drawn n h p k M1 ≡ Accepted → attempt p h ≡ None → Opening d p h
opening_at d drawn (Sta s) h p k most e none = opening_by d drawn h p k most (subst (λ (o : Option (List Act)). m1_verdict_in d drawn h p k o ≡ Accepted) none e)
opening_at d drawn (Ap a) h p k most e none = absurd (cc e)

pub opening : (d : Domain) (n p : Node) (h : List Act) (k : KeyMessage) → k.message ≡ M1 → Taken d n p h k Accepted → attempt p h ≡ None → Opening d p h
opening d n p h k m1 t none = opening_at d t.drawn n h p k t.over (subst (λ (m : Message). key_verdict d t.drawn n h p k m ≡ Accepted) m1 t.is) none

-- ---- an association request is accepted by access points alone

not_thrown : (c : Bool) (why : Reason) (a : Outcome) → cond c (Refused why) a ≡ Accepted → a ≡ Accepted
not_thrown true why a s = cc
not_thrown false why a s = s

from_some : (o : Option Node) (f : Node → Outcome) → from_peer o f ≡ Accepted → (p : Node) × (f p ≡ Accepted)
from_some None f s = cc
from_some (Some p) f s = (p, s)

request_role_by : (d : Domain) (drawn : ℕ) (n : Node) (h : List Act) (p : Node) (k : Kind) (b : Management) (e : ElementFields) → k ≡ kind.AssocReq → management_verdict d drawn n h p k b e ≡ Accepted → is_ap n ≡ true
request_role_by d drawn (Ap a) h p k b e is s = refl
request_role_by d drawn (Sta sta) h p k b e is s = let w : management_verdict d drawn (Sta sta) h p kind.AssocReq b e ≡ Accepted = subst (λ (x : Kind). management_verdict d drawn (Sta sta) h p x b e ≡ Accepted) is s in absurd (cc w)

status_passed : (o : Option ℕ) (x : Outcome) → without_status o x ≡ Accepted → x ≡ Accepted
status_passed None x s = s
status_passed (Some code) x s = cc

request_few_by : (d : Domain) (drawn : ℕ) (n : Node) (h : List Act) (p : Node) (k : Kind) (b : Management) (e : ElementFields) → k ≡ kind.AssocReq → management_verdict d drawn n h p k b e ≡ Accepted → drawn < draw_end
request_few_by d drawn (Ap a) h p k b e is s =
    let w : assoc_req_verdict d drawn e ≡ Accepted = subst (λ (x : Kind). management_verdict d drawn (Ap a) h p x b e ≡ Accepted) is s in
    unspent drawn (status_passed (mobility_status d.akm d e.mde) _ (status_passed (rsne_status d e.rsne) _ w))
request_few_by d drawn (Sta sta) h p k b e is s = let w : management_verdict d drawn (Sta sta) h p kind.AssocReq b e ≡ Accepted = subst (λ (x : Kind). management_verdict d drawn (Sta sta) h p x b e ≡ Accepted) is s in absurd (cc w)

-- and where a nonce can be drawn
pub request_few : (d : Domain) (first : ℕ) (n : Node) (h : List Act) (b : Management) (e : ElementFields) (facts : Facts) → b.kind ≡ kind.AssocReq → verdict d first n h (Managed b e) facts ≡ Accepted → draws h < draw_end
request_few d first n h b e facts is accepted =
    let a : first_verdict d first n h (Managed b e) ≡ Accepted = first_accepted (first_verdict d first n h (Managed b e)) (further d first n h (Managed b e) facts) accepted in
    let behind = from_some (management_sender d n b.header) (λ p. management_verdict d (first + draws h) n h p b.kind b e) (not_thrown (not (is_mine d n b.header)) reason.NotForMe _ a) in
    let low : first + draws h < draw_end = request_few_by d (first + draws h) n h behind.0 b.kind b e is behind.1 in omega (arith, low)

pub request_role : (d : Domain) (first : ℕ) (n : Node) (h : List Act) (b : Management) (e : ElementFields) (facts : Facts) → b.kind ≡ kind.AssocReq → verdict d first n h (Managed b e) facts ≡ Accepted → is_ap n ≡ true
request_role d first n h b e facts is accepted =
    let a : first_verdict d first n h (Managed b e) ≡ Accepted = first_accepted (first_verdict d first n h (Managed b e)) (further d first n h (Managed b e) facts) accepted in
    let behind = from_some (management_sender d n b.header) (λ p. management_verdict d (first + draws h) n h p b.kind b e) (not_thrown (not (is_mine d n b.header)) reason.NotForMe _ a) in
    request_role_by d (first + draws h) n h behind.0 b.kind b e is behind.1

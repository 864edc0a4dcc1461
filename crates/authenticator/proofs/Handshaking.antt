-- The group key handshake of a session beside its history.
use Rattle.std.proofs.Common.{◌≡◌, ℕ, suc, ◌+◌, ◌*◌, ◌<◌, ◌≤◌, ◌^◌, Bool, true, false, cond, List, [], ◌∷◌, length, map, Option, Some, None, is_some, refl, sym, ap, subst, ◌∙◌, arith, inl, inr}
use Rattle.std.specs.Prelude.{◌==◌, ◌&&◌, ◌-◌, not, nat_lt}
use Rattle.std.proofs.lemmas.Bool.{cases_Bool, eqb-true, eq-eqb}
use Rattle.domain_base.specs.declared.names.Node.{Node}
use Rattle.domain_base.specs.declared.names.Peer.TheVariants.{One}
use Rattle.air_frame.specs.Sent.{IsAddress}
use Rattle.eapol_key.specs.declared.messages.Message.{Message}
use Rattle.eapol_key.specs.declared.messages.Message.TheVariants.{M1, M3, G1, G2}
use Rattle.eapol_key.specs.Sent.{sent_fields}
use Rattle.key_hierarchy.specs.declared.inputs.Inputs.{Inputs}
use Rattle.run_journal.specs.declared.domain.Domain.{Domain}
use Rattle.run_journal.specs.declared.acts.Kind.TheVariants as kind
use Rattle.run_journal.specs.declared.acts.Outcome.TheVariants.{Accepted}
use Rattle.run_journal.specs.declared.acts.Seal.{Seal}
use Rattle.run_journal.specs.declared.acts.Act.{Act}
use Rattle.run_journal.specs.declared.acts.Start.TheVariants.{Connect, Roam, Renew}
use Rattle.run_journal.specs.declared.acts.Act.TheVariants.{Opened, Drew, Took, Sent, Finished}
use Rattle.run_journal.specs.declared.acts.GroupKind.TheVariants as groups
use Rattle.run_journal.specs.Acts.{Derivation, opens, begins, ends, finishes, key_drawn, sent, accepted}
use Rattle.run_journal.specs.Questions.{also, attempt, session, all_sent, group_keys, handshake, is_draw, draws, listed as in_front}
use Rattle.domain_rules.specs.Network.{address}
use Rattle.domain_rules.specs.Frames.{in_data, frame_seal, g1_frame, g1_key_data, wrapped, sent_g1}
use Rattle.domain_rules.specs.Network.{draw_end}
use Rattle.domain_rules.specs.Asking.{start_in, is_renewal, is_by_renewal, in_renewal, offered, has_heard, replay_counter}
use Rattle.domain_rules.specs.Counters.{sent_count, takes_counter, next_in_session}
use Rattle.domain_rules.specs.Owing.{is_open, owing}
use Rattle.domain_rules.proofs.Parts.{same-refl, begins_none, attempt_begins, attempt_goes, attempt_more, attempt_ends, attempt_some, start_more, IsApart, heard_more, sent_more}
use Rattle.domain_rules.specs.GroupKeys.{News as CarriedNews}
use Rattle.group_key.specs.declared.keys.GroupKey.{GroupKey}
use Rattle.group_key.specs.declared.news.News.{News}
use Rattle.group_key.specs.Holds.{IsLast}
use Rattle.group_key.specs.News.{carried_news}
use Rattle.group_key.proofs.Drawing.{place_is, place_low}
use Rattle.authenticator.specs.Counters.{listed, added, count}
use Rattle.authenticator.specs.Groups.{offers_for, sent_for, is_answered_for, owes, owes_in, transferred, asked, replied_to}
use Rattle.key_hierarchy.specs.declared.inputs.Ptk.{Ptk}
use Rattle.authenticator.specs.Judged.{IsFresh}
use Rattle.authenticator.specs.Stands.{left_in, CountsAt, Counts, HasSession}
use Rattle.authenticator.specs.Taken.{HasCounters}
use Rattle.authenticator.specs.declared.counters.Offers.{Offers}
use Rattle.authenticator.specs.declared.counters.Offers.TheVariants.{Zero}
use Rattle.authenticator.specs.declared.session.Session.{Session}
use Rattle.authenticator.proofs.Counting.{count_is, few, listed_added, replay_sealed}

-- ---- one more act

handshake_more : (p : Node) (e : Act) (h : List Act) → finishes p e ≡ false → key_drawn groups.Gtk e ≡ None → handshake groups.Gtk p (e ∷ h) ≡ e ∷ handshake groups.Gtk p h
handshake_more p e h ends drawn = rw (ends, drawn) refl

handshake_drawn : (p : Node) (e : Act) (h : List Act) (v : List ℕ) → finishes p e ≡ false → key_drawn groups.Gtk e ≡ Some v → handshake groups.Gtk p (e ∷ h) ≡ []
handshake_drawn p e h v ends drawn = rw (ends, drawn) refl

-- an act that sends no message takes no counter of a session, and M1 and M3 take none in an attempt that renews no key
pub takes_none : (p : Node) (e : Act) (b : Bool) → ((m : Message) → sent p (kind.Key m) e ≡ None) → takes_counter p b e ≡ false
takes_none p e b none = rw (none G1, none M1, none M3) refl

pub takes_plain : (p : Node) (e : Act) (b : Bool) → b ≡ false → sent p (kind.Key G1) e ≡ None → takes_counter p b e ≡ false
takes_plain p e b plain none = rw (none, plain) (by (is_some (sent p (kind.Key M1) e)) (is_some (sent p (kind.Key M3) e)))
  where
    by : (c f : Bool) → cond c false (cond f false false) ≡ false
    by true f = refl
    by false true = refl
    by false false = refl

next_more : (p : Node) (e : Act) (h : List Act) → finishes p e ≡ false → takes_counter p (in_renewal (attempt p h)) e ≡ false → next_in_session p (e ∷ h) ≡ next_in_session p h
next_more p e h ends quiet = rw (ends, quiet) refl

keys_more : (e : Act) (h : List Act) → key_drawn groups.Gtk e ≡ None → length (group_keys groups.Gtk (e ∷ h)) ≡ length (group_keys groups.Gtk h)
keys_more e h drawn = rw drawn refl

keys_drawn : (e : Act) (h : List Act) (v : List ℕ) → key_drawn groups.Gtk e ≡ Some v → length (group_keys groups.Gtk (e ∷ h)) ≡ suc (length (group_keys groups.Gtk h))
keys_drawn e h v drawn = rw drawn refl

-- ---- how many replay counters are left

-- an attempt that begins a chain renews no key
begins_plain : (p : Node) (e : Act) → begins p e ≡ true → is_renewal (start_in e) ≡ false
begins_plain p (Opened q Connect) is = refl
begins_plain p (Opened q Roam) is = refl
begins_plain p (Opened q Renew) is = absurd (cc is)
begins_plain p _ is = absurd (cc is)

listed_grows : (o : Option (List ℕ)) (xs : List (List ℕ)) → length xs ≤ length (in_front o xs)
listed_grows None xs = omega arith
listed_grows (Some x) xs = omega arith

sent_grows : (p : Node) (m : Message) (e : Act) (part : List Act) → sent_count p m part ≤ sent_count p m (e ∷ part)
sent_grows p m e part = listed_grows (sent p (kind.Key m) e) (all_sent p (kind.Key m) part)

less_left : (a b c d : ℕ) → a ≤ c → b ≤ d → 12 - (c + d) ≤ 12 - (a + b)
less_left a b c d low high = omega (arith, low, high)

cond_less : (b : Bool) (m n : ℕ) → m ≤ n → cond b m 0 ≤ cond b n 0
cond_less true m n less = less
cond_less false m n less = omega arith

left_part : (p : Node) (e : Act) (h part : List Act) → attempt p h ≡ Some part → left_in p (Some (e ∷ part)) ≤ left_in p (Some part)
left_part p e h part is =
    let same : is_by_renewal (e ∷ part) ≡ is_by_renewal part = ap is_renewal (start_more e part (attempt_some p h part is)) in
    subst (λ (b : Bool). cond b (12 - (sent_count p M1 (e ∷ part) + sent_count p M3 (e ∷ part))) 0 ≤ left_in p (Some part)) (sym same)
    (cond_less (is_by_renewal part) (12 - (sent_count p M1 (e ∷ part) + sent_count p M3 (e ∷ part))) (12 - (sent_count p M1 part + sent_count p M3 part))
    (less_left (sent_count p M1 part) (sent_count p M3 part) (sent_count p M1 (e ∷ part)) (sent_count p M3 (e ∷ part)) (sent_grows p M1 e part) (sent_grows p M3 e part)))

left_also : (p : Node) (e : Act) (h : List Act) (o : Option (List Act)) → attempt p h ≡ o → left_in p (also e o) ≤ left_in p o
left_also p e h None is = omega arith
left_also p e h (Some part) is = left_part p e h part is

left_begun : (p : Node) (e : Act) (h : List Act) → begins p e ≡ true → opens p e ≡ true → left_in p (attempt p (e ∷ h)) ≡ 0
left_begun p e h begun opened =
    ap (left_in p) (attempt_begins p e h opened)
    ∙ ap (λ (b : Bool). cond b (12 - (sent_count p M1 (e ∷ []) + sent_count p M3 (e ∷ []))) 0) (begins_plain p e begun)

left_by : (p : Node) (e : Act) (h : List Act) → opens p e ≡ begins p e → (b c : Bool) → opens p e ≡ b → ends p e ≡ c → left_in p (attempt p (e ∷ h)) ≤ left_in p (attempt p h)
left_by p e h plain true c opened ended = omega (arith, left_begun p e h (sym plain ∙ opened) opened)
left_by p e h plain false true opened ended = omega (arith, ap (left_in p) (attempt_ends p e h opened ended))
left_by p e h plain false false opened ended =
    subst (λ (o : Option (List Act)). left_in p o ≤ left_in p (attempt p h)) (sym (attempt_goes p e h opened ended)) (left_also p e h (attempt p h) refl)

-- no act but one that opens an attempt to renew a key takes more for it
pub left_more : (p : Node) (e : Act) (h : List Act) → opens p e ≡ begins p e → left_in p (attempt p (e ∷ h)) ≤ left_in p (attempt p h)
left_more p e h plain = left_by p e h plain (opens p e) (ends p e) refl refl

pub plain_none : (p : Node) (e : Act) → opens p e ≡ false → opens p e ≡ begins p e
plain_none p e opened = opened ∙ sym (begins_none p e opened)

draws_by : (b : Bool) (n : ℕ) → n ≤ cond b (suc n) n
draws_by true n = omega arith
draws_by false n = omega arith

pub draws_grow : (e : Act) (h : List Act) → draws h ≤ draws (e ∷ h)
draws_grow e h = draws_by (is_draw e) (draws h)

drawn_one : (e : Act) (h : List Act) (v : List ℕ) → key_drawn groups.Gtk e ≡ Some v → draws (e ∷ h) ≡ suc (draws h)
drawn_one (Drew x) h v is = refl
drawn_one _ h v is = absurd (cc is)

low_more : (last left now d e n : ℕ) → now ≤ left → d ≤ e → last + (4 + left) ≤ 12 * d + n → last + (4 + now) ≤ 12 * e + n
low_more last left now d e n less grown low = omega (arith, less, grown, low)

low_drawn : (last left now d e n m : ℕ) → now ≤ left → e ≡ suc d → n ≤ 4 → last + (4 + left) ≤ 12 * d + n → last + (4 + now) ≤ 12 * e + m
low_drawn last left now d e n m less grown few_n low = omega (arith, less, grown, few_n, low)

low_asked : (last left now d n m : ℕ) → now ≤ left → m ≡ suc n → last + (4 + left) ≤ 12 * d + n → suc last + (4 + now) ≤ 12 * d + m
low_asked last left now d n m less more low = omega (arith, less, more, low)

-- ---- acts that leave the handshake, or draw a group key

-- an act that draws no group key, and neither sends G1 to p, takes a counter nor takes G2 of it, and opens no attempt to renew a key
pub counts_quiet : (p : Node) (s : Session) (place : ℕ) (e : Act) (h : List Act) → finishes p e ≡ false → key_drawn groups.Gtk e ≡ None → sent p (kind.Key G1) e ≡ None → takes_counter p (in_renewal (attempt p h)) e ≡ false → accepted p (kind.Key G2) e ≡ None
    → opens p e ≡ begins p e → CountsAt p s place h → CountsAt p s place (e ∷ h)
counts_quiet p s place e h ends drawn sends quiet hears plain at =
    let more = handshake_more p e h ends drawn in
    record {
      next = next_more p e h ends quiet ∙ at.next;
      newest = keys_more e h drawn ∙ at.newest;
      drawn = at.drawn;
      offers = ap (offered p G1) more ∙ ap (map replay_counter) (sent_more p (kind.Key G1) e (handshake groups.Gtk p h) sends) ∙ at.offers;
      answered = ap (has_heard p (kind.Key G2)) more ∙ ap (λ (o : Option (List ℕ)). is_some o) (heard_more p (kind.Key G2) e (handshake groups.Gtk p h) hears) ∙ at.answered;
      low = low_more s.last (left_in p (attempt p h)) (left_in p (attempt p (e ∷ h))) (draws h) (draws (e ∷ h)) (sent_for place s) (left_more p e h plain) (draws_grow e h) at.low;
    }

apart_places : (x y : ℕ) → x ≤ y → (x == suc y) ≡ false
apart_places x y low = elim (cases_Bool (x == suc y)) [ inl is ↦ absurd (omega (arith, eqb-true x (suc y) is, low)) | inr other ↦ other ]

-- nothing was sent yet for a newer one
none_sent : (s : Session) (place : ℕ) → (s.place == place) ≡ false → offers_for place s ≡ Zero
none_sent s place other = rw other refl

none_answered : (s : Session) (place : ℕ) → (s.place == place) ≡ false → is_answered_for place s ≡ false
none_answered s place other = rw other refl

-- a group key is drawn
counts_drawn : (p : Node) (s : Session) (place : ℕ) (e : Act) (h : List Act) (v : List ℕ) → finishes p e ≡ false → key_drawn groups.Gtk e ≡ Some v → takes_counter p (in_renewal (attempt p h)) e ≡ false → opens p e ≡ begins p e → CountsAt p s place h → CountsAt p s (suc place) (e ∷ h)
counts_drawn p s place e h v ends drawn quiet plain at =
    let gone = handshake_drawn p e h v ends drawn in
    let other = apart_places s.place place at.drawn in
    record {
      next = next_more p e h ends quiet ∙ at.next;
      newest = keys_drawn e h v drawn ∙ ap suc at.newest;
      drawn = omega (arith, at.drawn);
      offers = ap (offered p G1) gone ∙ sym (ap listed (none_sent s (suc place) other));
      answered = ap (has_heard p (kind.Key G2)) gone ∙ sym (none_answered s (suc place) other);
      low = low_drawn s.last (left_in p (attempt p h)) (left_in p (attempt p (e ∷ h))) (draws h) (draws (e ∷ h)) (sent_for place s) (sent_for (suc place) s) (left_more p e h plain) (drawn_one e h v drawn) (few (offers_for place s)) at.low;
    }

counts_by : (p : Node) (s : Session) (e : Act) (h : List Act) → IsApart p e → (o : Option (List ℕ)) → key_drawn groups.Gtk e ≡ o → Counts p s h → Counts p s (e ∷ h)
counts_by p s e h apart None is at = record { place = at.place; here = counts_quiet p s at.place e h apart.finishes_none is (apart.sends_none G1) (takes_none p e (in_renewal (attempt p h)) apart.sends_none) (apart.accepts_none (kind.Key G2)) (plain_none p e apart.opens_none) at.here }
counts_by p s e h apart (Some v) is at = record { place = suc at.place; here = counts_drawn p s at.place e h v apart.finishes_none is (takes_none p e (in_renewal (attempt p h)) apart.sends_none) (plain_none p e apart.opens_none) at.here }

-- an act that is not about the peer
pub counts_apart : (p : Node) (s : Session) (e : Act) (h : List Act) → IsApart p e → Counts p s h → Counts p s (e ∷ h)
counts_apart p s e h apart at = counts_by p s e h apart (key_drawn groups.Gtk e) refl at

-- an act that says nothing of group keys, takes no counter, and opens no attempt to renew a key
pub counts_on : (p : Node) (s : Session) (e : Act) (h : List Act) → finishes p e ≡ false → key_drawn groups.Gtk e ≡ None → sent p (kind.Key G1) e ≡ None → takes_counter p (in_renewal (attempt p h)) e ≡ false → accepted p (kind.Key G2) e ≡ None → opens p e ≡ begins p e → Counts p s h → Counts p s (e ∷ h)
counts_on p s e h ends drawn sends quiet hears plain at = record { place = at.place; here = counts_quiet p s at.place e h ends drawn sends quiet hears plain at.here }

-- ---- M1 and M3

-- the act sends M1 or M3 to the peer
pub record IsOneMore (p : Node) (e : Act) : Type 0 where
  pub opens_none : opens p e ≡ false
  pub ends_none : ends p e ≡ false
  pub finishes_none : finishes p e ≡ false
  pub draws_none : key_drawn groups.Gtk e ≡ None
  pub no_g1 : sent p (kind.Key G1) e ≡ None
  pub no_g2 : accepted p (kind.Key G2) e ≡ None
  pub takes : takes_counter p true e ≡ true
  pub more : (part : List Act) → sent_count p M1 (e ∷ part) + sent_count p M3 (e ∷ part) ≡ suc (sent_count p M1 part + sent_count p M3 part)

suc_plus : (a b : ℕ) → suc a + b ≡ suc (a + b)
suc_plus a b = omega arith

pub one_m1 : (p : Node) (octets : List ℕ) (v : Option Seal) → IsOneMore p (Sent (One p) (kind.Key M1) octets v)
one_m1 p octets v = record {
  opens_none = refl;
  ends_none = refl;
  finishes_none = refl;
  draws_none = refl;
  no_g1 = rw (same-refl p) refl;
  no_g2 = refl;
  takes = rw (same-refl p) refl;
  more = λ part. rw (same-refl p) (suc_plus (sent_count p M1 part) (sent_count p M3 part));
}

plus_suc : (a b : ℕ) → a + suc b ≡ suc (a + b)
plus_suc a b = omega arith

pub one_m3 : (p : Node) (octets : List ℕ) (v : Option Seal) → IsOneMore p (Sent (One p) (kind.Key M3) octets v)
one_m3 p octets v = record {
  opens_none = refl;
  ends_none = refl;
  finishes_none = refl;
  draws_none = refl;
  no_g1 = rw (same-refl p) refl;
  no_g2 = refl;
  takes = rw (same-refl p) refl;
  more = λ part. rw (same-refl p) (plus_suc (sent_count p M1 part) (sent_count p M3 part));
}

-- in an attempt that renews no key they leave the counters of the session
pub counts_plain : (p : Node) (s : Session) (e : Act) (h : List Act) → IsOneMore p e → in_renewal (attempt p h) ≡ false → Counts p s h → Counts p s (e ∷ h)
counts_plain p s e h one plain at =
    counts_on p s e h one.finishes_none one.draws_none one.no_g1 (takes_plain p e (in_renewal (attempt p h)) plain one.no_g1) one.no_g2 (plain_none p e one.opens_none) at

left_one : (p : Node) (e : Act) (h part : List Act) → IsOneMore p e → attempt p h ≡ Some part → is_by_renewal part ≡ true → left_in p (attempt p (e ∷ h)) ≡ 12 - (sent_count p M1 (e ∷ part) + sent_count p M3 (e ∷ part))
left_one p e h part one is renews =
    let same : is_by_renewal (e ∷ part) ≡ is_by_renewal part = ap is_renewal (start_more e part (attempt_some p h part is)) in
    ap (left_in p) (attempt_more p e h part one.opens_none one.ends_none is)
    ∙ ap (λ (b : Bool). cond b (12 - (sent_count p M1 (e ∷ part) + sent_count p M3 (e ∷ part))) 0) (same ∙ renews)

pub left_now : (p : Node) (h part : List Act) → attempt p h ≡ Some part → is_by_renewal part ≡ true → left_in p (attempt p h) ≡ 12 - (sent_count p M1 part + sent_count p M3 part)
left_now p h part is renews = ap (left_in p) is ∙ ap (λ (b : Bool). cond b (12 - (sent_count p M1 part + sent_count p M3 part)) 0) renews

next_taken : (p : Node) (e : Act) (h : List Act) → IsOneMore p e → in_renewal (attempt p h) ≡ true → next_in_session p (e ∷ h) ≡ suc (next_in_session p h)
next_taken p e h one renews = rw (one.finishes_none, renews, one.takes) refl

low_taken : (last next left now d n sent one : ℕ) → next ≡ suc last → left ≡ 12 - sent → now ≡ 12 - one → one ≡ suc sent → sent ≤ 7 → last + (4 + left) ≤ 12 * d + n → next + (4 + now) ≤ 12 * d + n
low_taken last next left now d n sent one next_is left_is now_is more less low = omega (arith, next_is, left_is, now_is, more, less, low)

-- and in one that renews its key they take the next one
pub counts_taken : (p : Node) (s : Session) (e : Act) (h part : List Act) (counter : ℕ) → IsOneMore p e → attempt p h ≡ Some part → is_by_renewal part ≡ true → sent_count p M1 part + sent_count p M3 part ≤ 7 → counter ≡ suc s.last → Counts p s h → Counts p (record s { last = counter }) (e ∷ h)
counts_taken p s e h part counter one is renews less next at =
    let w = at.here in
    let more = handshake_more p e h one.finishes_none one.draws_none in
    record {
      place = at.place;
      here = record {
        next = next_taken p e h one (ap in_renewal is ∙ renews) ∙ ap suc (w.next ∙ sym next);
        newest = keys_more e h one.draws_none ∙ w.newest;
        drawn = w.drawn;
        offers = ap (offered p G1) more ∙ ap (map replay_counter) (sent_more p (kind.Key G1) e (handshake groups.Gtk p h) one.no_g1) ∙ w.offers;
        answered = ap (has_heard p (kind.Key G2)) more ∙ ap (λ (o : Option (List ℕ)). is_some o) (heard_more p (kind.Key G2) e (handshake groups.Gtk p h) one.no_g2) ∙ w.answered;
        low = low_more counter (left_in p (attempt p (e ∷ h))) (left_in p (attempt p (e ∷ h))) (draws h) (draws (e ∷ h)) (sent_for at.place s) (omega arith) (draws_grow e h)
            (low_taken s.last counter (left_in p (attempt p h)) (left_in p (attempt p (e ∷ h))) (draws h) (sent_for at.place s) (sent_count p M1 part + sent_count p M3 part) (sent_count p M1 (e ∷ part) + sent_count p M3 (e ∷ part)) next (left_now p h part is renews) (left_one p e h part one is renews) (one.more part) less w.low);
      };
    }

-- ---- the newest group key

-- its place is the one that is asked for
pub counts_newest : (p : Node) (s : Session) (g : GroupKey) (h : List Act) → IsLast groups.Gtk g (group_keys groups.Gtk h) → Counts p s h → CountsAt p s g.place h
counts_newest p s g h last at =
    subst (λ (x : ℕ). CountsAt p s x h) (pred_is (sym at.here.newest ∙ sym (place_is groups.Gtk g (group_keys groups.Gtk h) last))) at.here
  where
    pred_is : {x y : ℕ} → suc x ≡ suc y → x ≡ y
    pred_is e = omega (arith, e)

-- ---- what is owed

open_is : (p : Node) (s : Session) (place : ℕ) (h : List Act) → CountsAt p s place h → is_open p (handshake groups.Gtk p h) ≡ owes place s
open_is p s place h at = rw (count_is p G1 (handshake groups.Gtk p h) (listed (offers_for place s)) at.offers, at.answered) refl

pub owing_is : (p : Node) (s : Session) (place : ℕ) (h : List Act) → CountsAt p s place h → owing groups.Gtk p h ≡ cond (owes place s) (session p h) None
owing_is p s place h at = ap (λ (b : Bool). cond b (session p h) None) (open_is p s place h at)

pub owing_none : (p : Node) (s : Session) (place : ℕ) (h : List Act) → CountsAt p s place h → owes place s ≡ false → owing groups.Gtk p h ≡ None
owing_none p s place h at none = owing_is p s place h at ∙ ap (λ (b : Bool). cond b (session p h) None) none

pub owing_some : (p : Node) (s : Session) (place : ℕ) (x : Derivation) (h : List Act) → CountsAt p s place h → owes place s ≡ true → session p h ≡ Some x → owing groups.Gtk p h ≡ Some x
owing_some p s place x h at some is = owing_is p s place h at ∙ ap (λ (b : Bool). cond b (session p h) None) some ∙ is

no_session : (b : Bool) (o : Option Derivation) → o ≡ None → cond b o None ≡ None
no_session true o none = none
no_session false o none = refl

pub owing_no_session : (p : Node) (h : List Act) → session p h ≡ None → owing groups.Gtk p h ≡ None
owing_no_session p h none = no_session (is_open p (handshake groups.Gtk p h)) (session p h) none

some_by : (b : Bool) (o : Option Derivation) (x : Derivation) → o ≡ Some x → is_some (cond b o None) ≡ b
some_by true o x is = rw is refl
some_by false o x is = refl

-- whether it owes, by the session
pub owes_is : (d : Domain) (n p : Node) (o : Option Session) (g : GroupKey) (h : List Act) → IsLast groups.Gtk g (group_keys groups.Gtk h) → HasSession d n p o h → is_some (owing groups.Gtk p h) ≡ owes_in g.place o
owes_is d n p None g h last at = ap (λ (x : Option Derivation). is_some x) (owing_no_session p h at)
owes_is d n p (Some s) g h last at =
    ap (λ (x : Option Derivation). is_some x) (owing_is p s g.place h (counts_newest p s g h last at.counts)) ∙ some_by (owes g.place s) (session p h) _ at.is

-- ---- G1 is sent

-- its replay counter
pub g1_counter : (d : Domain) (n p : Node) (x : Derivation) (counter : ℕ) (keys : CarriedNews) → IsAddress (address d n) → IsAddress (address d p) → counter < 2 ^ 64
    → replay_counter (in_data d n p (g1_frame d x counter keys)) ≡ counter
g1_counter d n p x counter keys l m low = replay_sealed d n p d.akm x.ptk.kck (sent_fields G1 d.akm counter [] keys.rsc (wrapped x.ptk.kek (g1_key_data keys))) l m low

asked_offers : (place : ℕ) (s : Session) → offers_for place (asked place s) ≡ added (suc s.last) (offers_for place s)
asked_offers place s = rw (eq-eqb place place refl) refl

listed_asked : (place : ℕ) (s : Session) → sent_for place s < 4 → listed (offers_for place (asked place s)) ≡ suc s.last ∷ listed (offers_for place s)
listed_asked place s less = ap listed (asked_offers place s) ∙ listed_added (suc s.last) (offers_for place s) less

sent_asked : (place : ℕ) (s : Session) → sent_for place s < 4 → sent_for place (asked place s) ≡ suc (sent_for place s)
sent_asked place s less = ap length (listed_asked place s less)

answered_asked : (place : ℕ) (s : Session) → is_answered_for place (asked place s) ≡ is_answered_for place s
answered_asked place s = rw (eq-eqb place place refl) refl

next_sent : (p : Node) (octets : List ℕ) (v : Option Seal) (h : List Act) → next_in_session p (Sent (One p) (kind.Key G1) octets v ∷ h) ≡ suc (next_in_session p h)
next_sent p octets v h = rw (same-refl p) refl

offered_sent : (p : Node) (octets : List ℕ) (v : Option Seal) (h : List Act) → offered p G1 (Sent (One p) (kind.Key G1) octets v ∷ h) ≡ replay_counter octets ∷ offered p G1 h
offered_sent p octets v h = rw (same-refl p) refl

cons_is : {x y : ℕ} {xs ys : List ℕ} → x ≡ y → xs ≡ ys → x ∷ xs ≡ y ∷ ys
cons_is e f = rw (e, f) refl

pub counts_asked : (d : Domain) (n p : Node) (x : Derivation) (g : News) (s : Session) (h : List Act) → IsAddress (address d n) → IsAddress (address d p) → suc s.last < 2 ^ 64 → sent_for g.gtk.place s < 4 → CountsAt p s g.gtk.place h
    → CountsAt p (asked g.gtk.place s) g.gtk.place (sent_g1 d n p x (suc s.last) (carried_news g) ∷ h)
counts_asked d n p x g s h l m low less at =
    let frame = g1_frame d x (suc s.last) (carried_news g) in
    let octets = in_data d n p frame in
    let seal = Some (frame_seal x.ptk.kck frame) in
    let g1 = sent_g1 d n p x (suc s.last) (carried_news g) in
    record {
      next = next_sent p octets seal h ∙ ap suc at.next;
      newest = at.newest;
      drawn = omega arith;
      offers = offered_sent p octets seal (handshake groups.Gtk p h) ∙ cons_is (g1_counter d n p x (suc s.last) (carried_news g) l m low) at.offers ∙ sym (listed_asked g.gtk.place s less);
      answered = at.answered ∙ sym (answered_asked g.gtk.place s);
      low = low_asked s.last (left_in p (attempt p h)) (left_in p (attempt p (g1 ∷ h))) (draws h) (sent_for g.gtk.place s) (sent_for g.gtk.place (asked g.gtk.place s)) (left_more p g1 h refl) (sent_asked g.gtk.place s less) at.low;
    }

-- ---- G2 is accepted

place_of : (place : ℕ) (s : Session) → owes place s ≡ true → (s.place == place) ≡ true
place_of place s some = elim (cases_Bool (s.place == place)) [ inl is ↦ is | inr other ↦ absurd (no_owing place s other some) ]
  where
    no_owing : (place : ℕ) (s : Session) → (s.place == place) ≡ false → owes place s ≡ true → ⊥
    no_owing place s other owed = cc (ap (λ (o : Offers). nat_lt 0 (count o) && not (is_answered_for place s)) (none_sent s place other), owed)

answered_now : (place : ℕ) (s : Session) → (s.place == place) ≡ true → is_answered_for place (replied_to s) ≡ true
answered_now place s is = rw is refl

heard_now : (p : Node) (octets : List ℕ) (v : Option Seal) (h : List Act) → has_heard p (kind.Key G2) (Took (Some p) octets (kind.Key G2) Accepted v ∷ h) ≡ true
heard_now p octets v h = rw (same-refl p) refl

pub counts_answered : (p : Node) (octets : List ℕ) (v : Option Seal) (s : Session) (place : ℕ) (h : List Act) → owes place s ≡ true → CountsAt p s place h → CountsAt p (replied_to s) place (Took (Some p) octets (kind.Key G2) Accepted v ∷ h)
counts_answered p octets v s place h owed at =
    let g2 = Took (Some p) octets (kind.Key G2) Accepted v in
    record {
      next = at.next;
      newest = at.newest;
      drawn = at.drawn;
      offers = at.offers;
      answered = heard_now p octets v (handshake groups.Gtk p h) ∙ sym (answered_now place s (place_of place s owed));
      low = low_more s.last (left_in p (attempt p h)) (left_in p (attempt p (g2 ∷ h))) (draws h) (draws h) (sent_for place s) (left_more p g2 h refl) (omega arith) at.low;
    }

-- ---- a session begins

cond_zero : (b : Bool) (o : Offers) → o ≡ Zero → cond b o Zero ≡ Zero
cond_zero true o none = none
cond_zero false o none = refl

cond_false : (b c : Bool) → c ≡ false → cond b c false ≡ false
cond_false true c none = none
cond_false false c none = refl

pub fresh_offers : (s : Session) (place : ℕ) → IsFresh place s → offers_for place s ≡ Zero
fresh_offers s place fresh = cond_zero (s.place == place) s.g1s fresh.no_g1

pub fresh_none : (s : Session) (place : ℕ) → IsFresh place s → sent_for place s ≡ 0
fresh_none s place fresh = ap count (fresh_offers s place fresh)

fresh_answered : (s : Session) (place : ℕ) → IsFresh place s → is_answered_for place s ≡ false
fresh_answered s place fresh = cond_false (s.place == place) s.is_answered fresh.unanswered

handshake_begins : (p : Node) (i : Inputs) (h : List Act) → handshake groups.Gtk p (Finished p i ∷ h) ≡ []
handshake_begins p i h = rw (same-refl p) refl

low_begun : (last left d n : ℕ) → left ≡ 0 → last + 4 ≤ 12 * d → last + (4 + left) ≤ 12 * d + n
low_begun last left d n none low = omega (arith, none, low)

pub counts_fresh : (p : Node) (i : Inputs) (s : Session) (g : GroupKey) (h : List Act) → IsLast groups.Gtk g (group_keys groups.Gtk h) → IsFresh g.place s → next_in_session p (Finished p i ∷ h) ≡ suc s.last → attempt p (Finished p i ∷ h) ≡ None → s.last + 4 ≤ 12 * draws h → CountsAt p s g.place (Finished p i ∷ h)
counts_fresh p i s g h last fresh next gone low = record {
  next = next;
  newest = sym (place_is groups.Gtk g (group_keys groups.Gtk h) last);
  drawn = omega (arith, fresh.place_is);
  offers = ap (offered p G1) (handshake_begins p i h) ∙ sym (ap listed (fresh_offers s g.place fresh));
  answered = ap (has_heard p (kind.Key G2)) (handshake_begins p i h) ∙ sym (fresh_answered s g.place fresh);
  low = low_begun s.last (left_in p (attempt p (Finished p i ∷ h))) (draws h) (sent_for g.place s) (ap (left_in p) gone) low;
}

-- ---- a fast transition begins it

some_drawn : (d place : ℕ) → place < d → 4 ≤ 12 * d
some_drawn d place less = omega (arith, less)

pub counts_transferred : (p : Node) (q : Ptk) (g : GroupKey) (h : List Act) → IsLast groups.Gtk g (group_keys groups.Gtk h) → next_in_session p h ≡ 1 → handshake groups.Gtk p h ≡ [] → attempt p h ≡ None → CountsAt p (transferred q) g.place h
counts_transferred p q g h last next quiet gone =
    let none : offers_for g.place (transferred q) ≡ Zero = cond_zero (0 == g.place) Zero refl in
    record {
      next = next;
      newest = sym (place_is groups.Gtk g (group_keys groups.Gtk h) last);
      drawn = omega arith;
      offers = ap (offered p G1) quiet ∙ sym (ap listed none);
      answered = ap (has_heard p (kind.Key G2)) quiet ∙ sym (cond_false (0 == g.place) false refl);
      low = low_begun 0 (left_in p (attempt p h)) (draws h) (sent_for g.place (transferred q)) (ap (left_in p) gone) (some_drawn (draws h) g.place (place_low groups.Gtk g h last));
    }

-- ---- the replay counters are far from their end

far : (next last left d n : ℕ) → next ≡ suc last → last + (4 + left) ≤ 12 * d + n → n ≤ 4 → d ≤ draw_end → next < 2 ^ 64 - 1
far next last left d n next_is low less few_d = omega (arith, next_is, low, less, few_d)

pub counters_low : (d : Domain) (n p : Node) (o : Option Session) (h : List Act) → HasSession d n p o h → draws h ≤ draw_end → HasCounters p h
counters_low d n p None h at low = λ x is. cc (at, is)
counters_low d n p (Some s) h at low = λ x is.
    (let w = at.counts.here in
    far (next_in_session p h) s.last (left_in p (attempt p h)) (draws h) (sent_for at.counts.place s) w.next w.low (few (offers_for at.counts.place s)) low)

-- The outcome by the answers to what is asked of the history, and what an accepted frame tells.
use Rattle.std.proofs.Common.{◌≡◌, ◌⊎◌, ℕ, ◌+◌, ◌<◌, ◌≤◌, length, Bool, true, false, cond, List, ◌∷◌, Option, Some, None, refl, ap, subst, ◌∙◌, inl, inr}
use Rattle.std.specs.Prelude.{not, ◌&&◌, ◌||◌, is_some, unwrap_or, ◌==◌, nat_lt, if◌then◌else◌}
use Rattle.std.proofs.Math.Bool.{and-false}
use Rattle.std.specs.List.{list_any}
use Rattle.std.proofs.lemmas.Bool.{lt-ltb, le-ltb}
use Rattle.std.proofs.lemmas.Slice.Eq.{bytes_eq-Decides}
use Rattle.domain_base.specs.declared.names.Akm.{Akm}
use Rattle.domain_base.specs.declared.names.Node.{Node}
use Rattle.rsn_elements.specs.declared.framing.Within.{Within}
use Rattle.rsn_elements.specs.Rsne.{RsneFields, SpellsRsne}
use Rattle.rsn_elements.specs.Elements.{ElementFields, SpellsElements, IsRaw}
use Rattle.rsn_elements.proofs.Unique.{has_raw}
use Rattle.domain_rules.proofs.Peers.{not_same}
use Rattle.domain_rules.proofs.Starts.{connect_is, connect_no_renewal}
use Rattle.mac_prf.specs.Mic.{mic}
use Rattle.eapol_key.specs.declared.messages.Message.TheVariants.{M1, M2}
use Rattle.key_hierarchy.specs.Keys.{ptk}
use Rattle.run_journal.specs.declared.domain.Domain.{Domain}
use Rattle.run_journal.specs.declared.acts.Kind.TheVariants as kind
use Rattle.run_journal.specs.declared.acts.Reason.TheVariants as reason
use Rattle.run_journal.specs.declared.acts.Outcome.{Outcome}
use Rattle.run_journal.specs.declared.acts.Outcome.TheVariants.{Accepted, Refused}
use Rattle.run_journal.specs.declared.acts.Act.{Act}
use Rattle.run_journal.specs.Questions.{pending, attempt, chain, session, own_nonce, draws}
use Rattle.air_frame.specs.Fields.{HeaderFields}
use Rattle.domain_rules.specs.Network.{has_renewals, renews, draw_end, peer_of, bssid, direction, goes_like, r0kh_id, inputs_at}
use Rattle.domain_rules.specs.Reading.{Management, KeyMessage, Managed, Keyed}
use Rattle.domain_rules.specs.Asking.{start_of, by_connect, is_four_way, is_secure, has_heard, kept_counter, offered, greatest, above, among, verified}
use Rattle.domain_rules.specs.Associating.{rsne_status, response_fields, assoc_resp_verdict, management_verdict}
use Rattle.domain_rules.specs.StationKeys.{opens_renewal, m1_verdict_in, m1_verdict}
use Rattle.domain_rules.specs.AccessPointKeys.{is_secured_rightly, m2_verdict}
use Rattle.domain_rules.specs.Verdict.{first_verdict, is_mine, management_sender, key_verdict}

-- ---- without an attempt nothing of it is awaited

pub unawaited-assoc_resp : (d : Domain) (h : List Act) (p : Node) (b : Management) (e : ElementFields) → attempt p h ≡ None → assoc_resp_verdict d h p b e ≡ Refused reason.Unawaited
unawaited-assoc_resp d h p b e s = rw s refl

-- nor of a session, where none is there, or where keys are not renewed
opens_none : (d : Domain) (h : List Act) (p : Node) → (session p h ≡ None) ⊎ (has_renewals d ≡ false) → opens_renewal d h p ≡ false
opens_none d h p (inl none) = rw none (ap (λ (b : Bool). renews d && b) (and-false (not (is_some (pending h)))) ∙ and-false (renews d))
opens_none d h p (inr never) = rw never refl

pub unawaited-m1 : (d : Domain) (drawn : ℕ) (h : List Act) (p : Node) (k : KeyMessage) → (session p h ≡ None) ⊎ (has_renewals d ≡ false) → attempt p h ≡ None → m1_verdict d drawn h p k ≡ Refused reason.Unawaited
unawaited-m1 d drawn h p k closed s = ap (m1_verdict_in d drawn h p k) s
    ∙ ap (λ (b : Bool). if b then above (kept_counter p (chain p h)) k.fields.counter (if nat_lt drawn draw_end then Accepted else Refused reason.Spent) else Refused reason.Unawaited) (opens_none d h p closed)

pub unawaited-m2 : (d : Domain) (n : Node) (h : List Act) (p : Node) (k : KeyMessage) → attempt p h ≡ None → m2_verdict d n h p k ≡ Refused reason.Unawaited
unawaited-m2 d n h p k s = rw s refl

-- ---- in an attempt by connect

pub assoc_resp-in : (d : Domain) (h : List Act) (p : Node) (b : Management) (e : ElementFields) (part : List Act) (associated : Bool) → attempt p h ≡ Some part → by_connect part ≡ true → has_heard p kind.AssocResp part ≡ associated
    → assoc_resp_verdict d h p b e ≡ (if associated then Refused reason.Unawaited else if b.status == 0 then response_fields d.akm d p e else Refused (reason.Status b.status))
assoc_resp-in d h p b e part associated s begun heard = rw (s, begun, heard) refl

pub m1-in : (d : Domain) (drawn : ℕ) (h : List Act) (p : Node) (k : KeyMessage) (part : List Act) (associated : Bool) (kept : Option ℕ) → attempt p h ≡ Some part → by_connect part ≡ true → has_heard p kind.AssocResp part ≡ associated → kept_counter p (chain p h) ≡ kept
    → m1_verdict d drawn h p k ≡ (if not associated then Refused reason.Unawaited else above kept k.fields.counter Accepted)
m1-in d drawn h p k part associated kept s begun heard counter = rw (s, connect_is (start_of part) begun, heard, counter) (by associated)
  where
    by : (b : Bool) → (if b then above kept k.fields.counter Accepted else Refused reason.Unawaited) ≡ (if not b then Refused reason.Unawaited else above kept k.fields.counter Accepted)
    by true = refl
    by false = refl

pub m2-in : (d : Domain) (n : Node) (h : List Act) (p : Node) (k : KeyMessage) (part : List Act) (answered : Bool) (counters : List ℕ) (nonce : List ℕ)
    → attempt p h ≡ Some part → is_four_way part ≡ true → has_heard p (kind.Key M2) part ≡ answered → is_secured_rightly d part k ≡ true → offered p M1 part ≡ counters → own_nonce part ≡ Some nonce
    → m2_verdict d n h p k ≡ (if answered then Refused reason.Unawaited else among counters k.fields.counter (verified d.akm (ptk (inputs_at d n p (r0kh_id d n) nonce k.fields.nonce)).kck k Accepted))
m2-in d n h p k part answered counters nonce s begun heard secured offers drawn = rw (s, begun, heard, secured, offers, drawn) refl

-- where keys are not renewed the Secure bit of M2 is not looked at
pub secured-never : (d : Domain) (part : List Act) (k : KeyMessage) → has_renewals d ≡ false → is_secured_rightly d part k ≡ true
secured-never d part k never = rw never refl

-- and in an attempt by connect it has to be clear, where they are
pub secured-connect : (d : Domain) (part : List Act) (k : KeyMessage) → by_connect part ≡ true → is_secure k ≡ false → is_secured_rightly d part k ≡ true
secured-connect d part k begun clear = rw (connect_no_renewal (start_of part) begun, clear) (cond_same (has_renewals d))
  where
    cond_same : (b : Bool) → cond b true true ≡ true
    cond_same true = refl
    cond_same false = refl

-- ---- the tests

pub above-low : (kept counter : ℕ) (o : Outcome) → counter ≤ kept → above (Some kept) counter o ≡ Refused (reason.Counter kept)
above-low kept counter o low = rw (le-ltb kept counter low) refl

pub above-high : (kept counter : ℕ) (o : Outcome) → kept < counter → above (Some kept) counter o ≡ o
above-high kept counter o high = rw (lt-ltb kept counter high) refl

pub among-one : (counters : List ℕ) (counter : ℕ) (o : Outcome) → list_any (λ c. c == counter) counters ≡ true → among counters counter o ≡ o
among-one counters counter o is = rw is refl

pub among-none : (counters : List ℕ) (counter : ℕ) (o : Outcome) → list_any (λ c. c == counter) counters ≡ false → among counters counter o ≡ Refused (reason.Counter (unwrap_or (greatest counters) 0))
among-none counters counter o none = rw none refl

pub verified-same : (akm : Akm) (kck : List ℕ) (k : KeyMessage) (o : Outcome) → k.fields.mic ≡ mic akm kck k.octets → verified akm kck k o ≡ o
verified-same akm kck k o same = rw ((bytes_eq-Decides k.fields.mic (mic akm kck k.octets)).1 same) refl

pub verified-other : (akm : Akm) (kck : List ℕ) (k : KeyMessage) (o : Outcome) → (k.fields.mic ≡ mic akm kck k.octets → ⊥) → verified akm kck k o ≡ Refused reason.Mic
verified-other akm kck k o other = rw (not_same k.fields.mic (mic akm kck k.octets) other) refl

-- ---- an RSNE that is not refused is there, and so are its octets

status-some : (d : Domain) (r : Option RsneFields) → rsne_status d r ≡ None → (f : RsneFields) × (r ≡ Some f)
status-some d None s = cc
status-some d (Some f) s = (f, refl)

pub accepted-rsne : (d : Domain) (within : Within) (octets : List ℕ) (e : ElementFields) → SpellsElements within octets e → rsne_status d e.rsne ≡ None → (rsne : List ℕ) × (e.rsne_octets ≡ Some rsne)
accepted-rsne d within octets e spelled s =
    let some = status-some d e.rsne s in
    let raw = subst (λ (o : Option RsneFields). IsRaw 0x30 SpellsRsne o e.rsne_octets) some.1 (has_raw within octets e spelled).rsne in
    (0x30 ∷ length raw.0 ∷ raw.0, raw.1)

-- ---- who a frame is for and from

pub managed-not_mine : (d : Domain) (first : ℕ) (n : Node) (h : List Act) (b : Management) (e : ElementFields) → is_mine d n b.header ≡ false → first_verdict d first n h (Managed b e) ≡ Refused reason.NotForMe
managed-not_mine d first n h b e mine = rw mine refl

pub managed-unknown : (d : Domain) (first : ℕ) (n : Node) (h : List Act) (b : Management) (e : ElementFields) → is_mine d n b.header ≡ true → management_sender d n b.header ≡ None → first_verdict d first n h (Managed b e) ≡ Refused reason.UnknownPeer
managed-unknown d first n h b e mine from = rw (mine, from) refl

pub managed-from : (d : Domain) (first : ℕ) (n : Node) (h : List Act) (b : Management) (e : ElementFields) (p : Node) → is_mine d n b.header ≡ true → management_sender d n b.header ≡ Some p
    → first_verdict d first n h (Managed b e) ≡ management_verdict d (first + draws h) n h p b.kind b e
managed-from d first n h b e p mine from = rw (mine, from) refl

pub keyed-not_mine : (d : Domain) (first : ℕ) (n : Node) (h : List Act) (k : KeyMessage) → (not (is_mine d n k.header) || goes_like k.direction (direction n)) ≡ true → first_verdict d first n h (Keyed k) ≡ Refused reason.NotForMe
keyed-not_mine d first n h k other = rw other refl

pub keyed-unknown : (d : Domain) (first : ℕ) (n : Node) (h : List Act) (k : KeyMessage) → (not (is_mine d n k.header) || goes_like k.direction (direction n)) ≡ false → peer_of d n k.header.a2 ≡ None → first_verdict d first n h (Keyed k) ≡ Refused reason.UnknownPeer
keyed-unknown d first n h k mine from = rw (mine, from) refl

pub keyed-from : (d : Domain) (first : ℕ) (n : Node) (h : List Act) (k : KeyMessage) (p : Node) → (not (is_mine d n k.header) || goes_like k.direction (direction n)) ≡ false → peer_of d n k.header.a2 ≡ Some p
    → first_verdict d first n h (Keyed k) ≡ key_verdict d (first + draws h) n h p k k.message
keyed-from d first n h k p mine from = rw (mine, from) refl

-- the sender of a management frame
pub management-from : (d : Domain) (n p : Node) (header : HeaderFields) → peer_of d n header.a2 ≡ Some p → header.a3 ≡ bssid d n p → management_sender d n header ≡ Some p
management-from d n p header from same = rw (from, (bytes_eq-Decides header.a3 (bssid d n p)).1 same) refl

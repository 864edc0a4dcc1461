-- What the rounds of an example handshake need: reading, judging and pushing in one step.
use Rattle.domain_base.specs.Octets.{AreOctets}
use Rattle.air_frame.specs.Sent.{IsAddress}
use Rattle.domain_base.specs.declared.names.Akm.TheVariants.{Psk, PskSha256, FtPsk}
use Rattle.domain_base.specs.declared.names.Akm.{Akm}
use Rattle.domain_base.specs.declared.names.Node.TheVariants.{Ap, Sta}
use Rattle.domain_base.specs.declared.names.Node.{Node}
use Rattle.domain_rules.proofs.Unchanged.{happens_still, still_more}
use Rattle.run_journal.specs.Secrets.{rounds_change_keys}
use Rattle.domain_rules.proofs.Journals.{AtOne, history-push, history-other, started_none, started_more, frames-unsent, starts_unsent, explained_still}
use Rattle.domain_rules.proofs.KeyOctets.{octets-kdf}
use Rattle.domain_rules.proofs.SentReads.{HasMic}
use Rattle.domain_rules.specs.Counters.{next_counter, sent_count}
use Rattle.domain_rules.specs.StationRows.{replaced}
use Rattle.domain_rules.specs.Explained.{frames, push, started, WasSent, Explained}
use Rattle.domain_rules.specs.Frames.{sent_m3}
use Rattle.domain_rules.specs.GroupKeys.{news}
use Rattle.domain_rules.specs.Network.{address, peer_of, nonce, gtk}
use Rattle.domain_rules.specs.Reading.{KeyMessage}
use Rattle.domain_rules.specs.Rows.{Take, TakeRow, Adds}
use Rattle.domain_rules.specs.Owing.{owing, and_switch}
use Rattle.domain_rules.specs.AccessPointRows.{retry_acts, most_sends, start_acts}
use Rattle.domain_rules.specs.StationKeys as keys
use Rattle.domain_rules.specs.Facts.{is_same}
use Rattle.domain_rules.specs.Asking.{start_of, in_renewal, is_by_renewal, is_four_way, has_four_way, session_start, has_heard, kept_counter, offered, verified}
use Rattle.domain_rules.specs.Verdict.{is_mine, further_from, and_then}
use Rattle.domain_rules.specs.Suites.{rsne_status}
use Rattle.domain_rules.proofs.Unprotected.{rsne_off, status_off, keys_data_off}
use Rattle.domain_rules.specs.StationKeys.{Keying, m3_keying, m3_verdict, g1_verdict, taken_in}
use Rattle.domain_rules.specs.AccessPointKeys.{m4_keying, m4_verdict, g2_verdict}
use Rattle.domain_rules.specs.Here.{here}
use Rattle.eapol_key.specs.declared.messages.Message.TheVariants.{M1, M2, M3, G1}
use Rattle.key_hierarchy.proofs.Lengths.{length-kdf}
use Rattle.rsn_elements.specs.Pieces.{SentRsne, SentGtkKde, sent_rsne, said}
use Rattle.rsn_elements.specs.Elements.{ElementFields}
use Rattle.rsn_elements.specs.Fits as fits
use Rattle.rsn_elements.specs.Sent.{rsne_octets}
use Rattle.rsn_elements.specs.declared.framing.Within.TheVariants.{KeyData}
use Rattle.run_journal.specs.Acts.{Derivation}
use Rattle.run_journal.specs.Questions.{attempt, derivation, history, add, session, before_sent, chain, handshake}
use Rattle.run_journal.specs.Holders.{before_finished}
use Rattle.run_journal.specs.declared.acts.Act.{Act}
use Rattle.run_journal.specs.declared.acts.Entry.{Entry}
use Rattle.run_journal.specs.declared.acts.Kind.TheVariants as kind
use Rattle.run_journal.specs.declared.acts.Outcome.{Outcome}
use Rattle.run_journal.specs.declared.acts.Outcome.TheVariants.{Accepted, Refused}
use Rattle.run_journal.specs.declared.acts.KeyDataFault.TheVariants as key_data
use Rattle.run_journal.specs.declared.acts.Reason.TheVariants as reason
use Rattle.run_journal.specs.declared.domain.Domain.{Domain}
use Rattle.run_journal.specs.Events.{protects}
use Rattle.run_journal.specs.declared.domain.Event.TheVariants.{Deliver}
use Rattle.run_journal.specs.declared.domain.Event.{Event}
use Rattle.run_journal.specs.declared.acts.GroupKind.TheVariants as groups
use Rattle.std.proofs.Common.{◌≡◌, ◌≢◌, ℕ, zero, suc, ◌<◌, true, false, List, [], ◌∷◌, length, Option, Some, None, refl, sym, ap, subst, ◌∙◌, Bool, cond, ◌++◌}
use Rattle.std.proofs.lemmas.Slice.Eq.{bytes_eq-Decides}
use Rattle.std.specs.List.{list_any}
use Rattle.std.specs.Prelude.{not, ◌==◌, nat_lt, if◌then◌else◌}

pub length-nonce : (d : Domain) (n : Node) (i : ℕ) → length (nonce d n i) ≡ 32
unfolding nonce
length-nonce d n i = length-kdf _ _ _ 32

pub length-gtk : (d : Domain) (n : Node) (i : ℕ) → length (gtk d n i) ≡ 16
unfolding gtk
length-gtk d n i = length-kdf _ _ _ 16

pub octets-gtk : (d : Domain) (n : Node) (i : ℕ) → AreOctets (gtk d n i)
unfolding gtk
octets-gtk d n i = octets-kdf _ _ _ 16

-- octets that come are one step
pub take_step : (d : Domain) (round number : ℕ) (n : Node) (octets : List ℕ) (past : List Entry) (h g : List Act) → history n past ≡ h → WasSent past round number octets → TakeRow (here d 0 n) h octets g → g ≡ and_switch d n h g
    → AtOne d round (Deliver number n) past (push round n g past)
take_step d round number n octets past h g is was row still = record {
  node = n;
  at_node = Take octets;
  happens = (octets, (was, (refl, refl)));
  acts = g;
  group = subst (λ (x : List Act). Adds (here d 0 n) x (Take octets) g) (sym is) (record { acts = g; row = row; is = still });
  is = refl;
}

pub some-injective : (x y : Keying) → Some x ≡ Some y → x ≡ y
some-injective x y e = cc e

-- the key of an attempt
pub m3-keyed : (p : Node) (h part : List Act) (k : KeyMessage) (x : Derivation) → attempt p h ≡ Some part → is_by_renewal part ≡ false → is_four_way part ≡ true → has_heard p (kind.Key M1) part ≡ true → derivation p part ≡ Some x
    → m3_keying p h k ≡ Some (record { key = x; is_session = false })
m3-keyed p h part k x s other begun hears derives = rw (s, other, begun, hears, derives) refl

pub m4-keyed : (p : Node) (part : List Act) (x : Derivation) → is_four_way part ≡ true → has_heard p (kind.Key M2) part ≡ true → derivation p part ≡ Some x → m4_keying p part ≡ Some x
m4-keyed p part x begun hears derives = rw (begun, hears, derives) refl

-- M3 and M4 by the answers to what is asked of the history
pub m3-in : (d : Domain) (h : List Act) (p : Node) (k : KeyMessage) (y : Keying) → m3_keying p h k ≡ Some y → kept_counter p (chain p h) ≡ None → k.fields.nonce ≡ y.key.inputs.anonce
    → m3_verdict d h p k ≡ verified d.akm y.key.ptk.kck k (taken_in y.is_session)
m3-in d h p k y s counter same = rw (s, counter, (bytes_eq-Decides k.fields.nonce y.key.inputs.anonce).1 same) refl

pub m4-in : (d : Domain) (h : List Act) (p : Node) (k : KeyMessage) (part : List Act) (x : Derivation) (offers : List ℕ) → attempt p h ≡ Some part → m4_keying p part ≡ Some x → offered p M3 part ≡ offers
    → list_any (λ c. c == k.fields.counter) offers ≡ true → m4_verdict d h p k ≡ verified d.akm x.ptk.kck k Accepted
m4-in d h p k part x offers s keyed is same = rw (s, keyed, is, same) refl

-- G1 and G2 by the answers to what is asked of the history
pub g1-in : (d : Domain) (h : List Act) (p : Node) (k : KeyMessage) (x : Derivation) (kept : ℕ) → session p h ≡ Some x → kept_counter p (chain p h) ≡ Some kept → nat_lt kept k.fields.counter ≡ true
    → g1_verdict d h p k ≡ verified d.akm x.ptk.kck k Accepted
g1-in d h p k x kept s counter low = rw (s, counter, low) refl

pub g2-in : (d : Domain) (h : List Act) (p : Node) (k : KeyMessage) (x : Derivation) (offers : List ℕ) → owing groups.Gtk p h ≡ Some x → offered p G1 (handshake groups.Gtk p h) ≡ offers → list_any (λ c. c == k.fields.counter) offers ≡ true
    → g2_verdict d h p k ≡ verified d.akm x.ptk.kck k Accepted
g2-in d h p k x offers s is same = rw (s, is, same) refl

-- how a session began
pub start-session : (p : Node) (h before part : List Act) → before_finished p h ≡ Some before → attempt p before ≡ Some part → session_start p h ≡ start_of part
start-session p h before part finished at = rw (finished, at) refl

-- the key of a session
pub m3-keyed_session : (p : Node) (h : List Act) (k : KeyMessage) (x : Derivation) → attempt p h ≡ None → has_four_way (session_start p h) ≡ true → session p h ≡ Some x
    → m3_keying p h k ≡ Some (record { key = x; is_session = true })
m3-keyed_session p h k x s begun has = rw (s, begun, has) refl

-- M3 with a counter above the last
pub m3-again : (d : Domain) (h : List Act) (p : Node) (k : KeyMessage) (y : Keying) (kept : ℕ) → m3_keying p h k ≡ Some y → kept_counter p (chain p h) ≡ Some kept → nat_lt kept k.fields.counter ≡ true → k.fields.nonce ≡ y.key.inputs.anonce
    → m3_verdict d h p k ≡ verified d.akm y.key.ptk.kck k (taken_in y.is_session)
m3-again d h p k y kept s counter low same = rw (s, counter, low, (bytes_eq-Decides k.fields.nonce y.key.inputs.anonce).1 same) refl

-- M3 is sent once more
pub retries-m3 : (d : Domain) (n : Node) (h : List Act) (p : Node) (part past : List Act) (x : Derivation) → attempt p h ≡ Some part → is_by_renewal part ≡ false → is_four_way part ≡ true → has_heard p (kind.Key M2) part ≡ true → nat_lt (sent_count p M3 part) most_sends ≡ true
    → derivation p part ≡ Some x → before_sent p (kind.Key M3) h ≡ Some past → retry_acts d n h p (attempt p h) ≡ sent_m3 d n p x (next_counter p h part) (news d past) ∷ []
retries-m3 d n h p part past x s other begun hears few derives before =
    rw (s, begun, hears, few, derives, before) (ap (λ (b : Bool). sent_m3 d n p x (next_counter p h part) (news d (cond b h past)) ∷ []) other)

-- no session is replaced in an attempt that renews no key
pub not-replaced : (p : Node) (h part : List Act) (took : Act) (rest : List Act) → attempt p h ≡ Some part → is_by_renewal part ≡ false → took ∷ rest ≡ took ∷ (replaced p (in_renewal (attempt p h)) ++ rest)
not-replaced p h part took rest a other = rw (a, other) refl

-- key data with the RSNE that is sent and a group key is accepted, where management frames are not protected
rsne_same : (akm : Akm) (d : Domain) (e : ElementFields) → e.rsne_octets ≡ Some (rsne_octets akm None) → keys.m3_key_data_with d (rsne_octets akm None) (Some e) ≡ keys.group_keys_data d e
rsne_same akm d e is =
    ap (λ (o : Option (List ℕ)). if not (is_same o (Some (rsne_octets akm None))) then Refused (reason.KeyData key_data.Rsne) else keys.group_keys_data d e) is
    ∙ ap (λ (b : Bool). if not b then Refused (reason.KeyData key_data.Rsne) else keys.group_keys_data d e) ((bytes_eq-Decides (rsne_octets akm None) (rsne_octets akm None)).1 refl)

pub gtk_same : (d : Domain) (e : ElementFields) → protects d ≡ false → keys.is_group_key e.gtk ≡ true → keys.group_keys_data d e ≡ Accepted
gtk_same d e off is = keys_data_off d e off ∙ ap (λ (b : Bool). if b then Accepted else Refused (reason.KeyData key_data.Gtk)) is

pub key_data-same : (akm : Akm) (d : Domain) (key : List ℕ) (id : ℕ) → protects d ≡ false → length key ≡ 16 → (id == 0) ≡ false
    → keys.m3_key_data akm d (Some (said KeyData (SentRsne akm None ∷ SentGtkKde id key ∷ []))) ≡ Accepted
key_data-same akm d key id off size other =
    let e : ElementFields = said KeyData (SentRsne akm None ∷ SentGtkKde id key ∷ []) in
    ap (λ (rsne : List ℕ). keys.m3_key_data_with d rsne (Some e)) (rsne_off akm d None off) ∙ rsne_same akm d e refl ∙ gtk_same d e off (rw (size, other) refl)

-- nothing further is asked of the frame
pub nothing_further : (o : Option Node) (f : Node → Outcome) → ((p : Node) → f p ≡ Accepted) → further_from o f ≡ Accepted
nothing_further None f none = refl
nothing_further (Some p) f none = none p

pub stands : (o first then_ : Outcome) → first ≡ o → then_ ≡ Accepted → and_then o Accepted ≡ o → and_then first then_ ≡ o
stands o first then_ one none keeps = ap (λ (x : Outcome). and_then x then_) one ∙ ap (and_then o) none ∙ keeps

-- no frame is sent as access points start
pub frames-started : (d : Domain) (n : ℕ) → frames (started d n) ≡ 0
frames-started d zero = ap frames (started_none d)
frames-started d (suc n) = ap frames (started_more d n) ∙ frames-unsent 0 (Ap n) (start_acts d 0 (Ap n)) (started d n) (starts_unsent d n) ∙ frames-started d n

-- the RSNE that is sent is accepted, where management frames are not protected
status_by : (akm : Akm) → fits.rsne_status false akm (Some (sent_rsne akm None)) ≡ None
status_by Psk = refl
status_by PskSha256 = refl
status_by FtPsk = refl

pub status-sent : (d : Domain) → protects d ≡ false → rsne_status d (Some (sent_rsne d.akm None)) ≡ None
status-sent d off = status_off d (Some (sent_rsne d.akm None)) off ∙ status_by d.akm

pub same_octets : (d : Domain) (n : Node) → is_mine d n (record { octets = []; a1 = address d n; a2 = []; a3 = [] }) ≡ true
same_octets d n = (bytes_eq-Decides (address d n) (address d n)).1 refl

-- a listed access point and a listed station of a network that does not protect management frames
pub record IsPair (d : Domain) (a s : ℕ) : Type 0 where
  pub ap_whole : IsAddress (address d (Ap a))
  pub sta_whole : IsAddress (address d (Sta s))
  pub finds_ap : peer_of d (Sta s) (address d (Ap a)) ≡ Some (Ap a)
  pub finds_sta : peer_of d (Ap a) (address d (Sta s)) ≡ Some (Sta s)
  pub ap_low : a < length d.aps
  pub sta_low : s < 1024
  pub has_mic : HasMic d.akm
  pub suite : d.akm ≢ FtPsk
  pub unprotected : protects d ≡ false

-- the journal of some rounds: the histories of both nodes, how many frames were sent, and the octets of the last of them
pub record Stage (d : Domain) (k m : ℕ) (rounds : List (List Event)) (sta ap : List Act) (sent : ℕ) (octets : List ℕ) : Type 0 where
  pub journal : List Entry
  pub still : rounds_change_keys rounds ≡ false
  pub explained : Explained d rounds journal
  pub sta_is : history (Sta m) journal ≡ sta
  pub ap_is : history (Ap k) journal ≡ ap
  pub count : frames journal ≡ sent
  pub was : WasSent journal (suc (length rounds)) sent octets

-- one more round, of one event at the station
pub after_sta : (d : Domain) (k m : ℕ) (rounds : List (List Event)) (sta ap : List Act) (sent : ℕ) (octets : List ℕ) (st : Stage d k m rounds sta ap sent octets) (event : Event) (g : List Act) (now : ℕ) (last : List ℕ)
    → AtOne d (suc (length rounds)) event st.journal (push (suc (length rounds)) (Sta m) g st.journal) → frames (push (suc (length rounds)) (Sta m) g st.journal) ≡ now
    → WasSent (push (suc (length rounds)) (Sta m) g st.journal) (suc (suc (length rounds))) now last → Stage d k m ((event ∷ []) ∷ rounds) (add g sta) ap now last
after_sta d k m rounds sta aps sent octets st event g now last step count was = record {
  journal = push (suc (length rounds)) (Sta m) g st.journal;
  still = still_more event rounds (happens_still event st.journal (suc (length rounds)) step.node step.at_node step.happens).0 st.still;
  explained = explained_still d rounds event st.journal (push (suc (length rounds)) (Sta m) g st.journal) st.explained st.still step;
  sta_is = history-push (suc (length rounds)) (Sta m) g st.journal ∙ ap (add g) st.sta_is;
  ap_is = history-other (suc (length rounds)) (Sta m) (Ap k) g st.journal refl ∙ st.ap_is;
  count = count;
  was = was;
}

-- and at the access point
pub after_ap : (d : Domain) (k m : ℕ) (rounds : List (List Event)) (sta ap : List Act) (sent : ℕ) (octets : List ℕ) (st : Stage d k m rounds sta ap sent octets) (event : Event) (g : List Act) (now : ℕ) (last : List ℕ)
    → AtOne d (suc (length rounds)) event st.journal (push (suc (length rounds)) (Ap k) g st.journal) → frames (push (suc (length rounds)) (Ap k) g st.journal) ≡ now
    → WasSent (push (suc (length rounds)) (Ap k) g st.journal) (suc (suc (length rounds))) now last → Stage d k m ((event ∷ []) ∷ rounds) sta (add g ap) now last
after_ap d k m rounds sta aps sent octets st event g now last step count was = record {
  journal = push (suc (length rounds)) (Ap k) g st.journal;
  still = still_more event rounds (happens_still event st.journal (suc (length rounds)) step.node step.at_node step.happens).0 st.still;
  explained = explained_still d rounds event st.journal (push (suc (length rounds)) (Ap k) g st.journal) st.explained st.still step;
  sta_is = history-other (suc (length rounds)) (Ap k) (Sta m) g st.journal refl ∙ st.sta_is;
  ap_is = history-push (suc (length rounds)) (Ap k) g st.journal ∙ ap (add g) st.ap_is;
  count = count;
  was = was;
}

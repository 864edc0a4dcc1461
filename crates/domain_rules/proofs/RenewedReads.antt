-- What the rounds of an example of the renewal of a pairwise key need: M2 with its Secure bit set reads as it was sent, the messages are judged
-- by the answers to what is asked of the history, and the counters of the session go on.
use Rattle.std.proofs.Common.{◌≡◌, ℕ, suc, ◌+◌, ◌^◌, ◌<◌, ◌≤◌, Bool, true, false, cond, List, [], ◌∷◌, ◌++◌, length, Some, None, refl, ap, arith}
use Rattle.std.specs.Prelude.{nat_lt}
use Rattle.std.proofs.lemmas.Bool.{lt-ltb}
use Rattle.std.proofs.lemmas.Slice.Eq.{bytes_eq-Decides}
use Rattle.domain_base.specs.declared.names.Akm.{Akm}
use Rattle.domain_base.specs.declared.names.Akm.TheVariants.{Psk, PskSha256, FtPsk}
use Rattle.domain_base.specs.declared.names.Node.{Node}
use Rattle.air_frame.specs.Sent.{IsAddress}
use Rattle.eapol_key.specs.declared.messages.Message.TheVariants.{M2, M3}
use Rattle.eapol_key.specs.KeyFrame.{KeyFields}
use Rattle.eapol_key.specs.Messages.{descriptor_version, has_bit, IsMessage}
use Rattle.eapol_key.specs.Octets.{FitsKeyFrame}
use Rattle.run_journal.specs.declared.domain.Domain.{Domain}
use Rattle.run_journal.specs.declared.acts.Part.TheVariants.{Session}
use Rattle.run_journal.specs.declared.acts.Kind.TheVariants as kind
use Rattle.run_journal.specs.declared.acts.Outcome.TheVariants.{Accepted}
use Rattle.run_journal.specs.declared.acts.Act.{Act}
use Rattle.run_journal.specs.declared.acts.Act.TheVariants.{Closed}
use Rattle.run_journal.specs.Acts.{finishes, Derivation}
use Rattle.run_journal.specs.Questions.{attempt, chain, derivation, before_sent}
use Rattle.domain_rules.specs.Network.{draw_end, address}
use Rattle.domain_rules.specs.Reading.{KeyMessage, Keyed, Reads}
use Rattle.domain_rules.specs.Frames.{in_data, sent_m2_key_data, secured, renewal_m2_frame, sent_m3}
use Rattle.domain_rules.specs.Asking.{in_renewal, is_by_renewal, is_four_way, is_secure, has_heard, kept_counter}
use Rattle.domain_rules.specs.Counters.{sent_count, takes_counter, next_in_attempt, next_in_session}
use Rattle.domain_rules.specs.GroupKeys.{news}
use Rattle.domain_rules.specs.StationRows.{replaced}
use Rattle.domain_rules.specs.StationKeys.{opens_renewal, m1_verdict, m3_keying}
use Rattle.domain_rules.specs.AccessPointKeys.{is_secured_rightly}
use Rattle.domain_rules.specs.AccessPointRows.{retry_acts, most_sends}
use Rattle.domain_rules.proofs.SentReads.{HasMic, with_mic, key_message, m2_fields, fits-m2, some-m2, reads-sealed}

-- ---- M2 with its Secure bit set

abbrev pub renewal_m2_fields : Domain → Derivation → ℕ → KeyFields
renewal_m2_fields d x counter = secured (m2_fields d x counter [])

abbrev pub renewal_m2_message : Domain → Node → Node → Derivation → ℕ → KeyMessage
renewal_m2_message d n p x counter = key_message d n p M2 (with_mic d.akm x.ptk.kck (renewal_m2_fields d x counter)) (renewal_m2_frame d x counter)

secured_low : (akm : Akm) → 512 + (0x0108 + descriptor_version akm) < 2 ^ 16
secured_low Psk = omega arith
secured_low PskSha256 = omega arith
secured_low FtPsk = omega arith

pub fits-renewal_m2 : (d : Domain) (x : Derivation) (counter : ℕ) → counter < 2 ^ 64 → length x.inputs.snonce ≡ 32 → length (sent_m2_key_data d.akm d x []) ≤ 65440 → FitsKeyFrame (renewal_m2_fields d x counter)
fits-renewal_m2 d x counter c h few =
    let fits = fits-m2 d x counter [] c h few in
    record {
      version_low = fits.version_low;
      version_high = fits.version_high;
      information = secured_low d.akm;
      key_length = fits.key_length;
      counter = fits.counter;
      nonce = fits.nonce;
      iv = fits.iv;
      rsc = fits.rsc;
      reserved = fits.reserved;
      mic = fits.mic;
      key_data = fits.key_data;
    }

secured_sent : (akm : Akm) (f : KeyFields) → f.information ≡ 512 + (0x0108 + descriptor_version akm) → 0 < length f.key_data → IsMessage akm M2 f
secured_sent akm f is some = by akm is
  where
    by : (v : Akm) → f.information ≡ 512 + (0x0108 + descriptor_version v) → IsMessage v M2 f
    by Psk e = rw e (record { version = refl; error = refl; request = refl; bits = record { pairwise = refl; install = refl; ack = refl; mic = refl; secure = tt; encrypted = refl }; key_data = lt-ltb 0 (length f.key_data) some })
    by PskSha256 e = rw e (record { version = refl; error = refl; request = refl; bits = record { pairwise = refl; install = refl; ack = refl; mic = refl; secure = tt; encrypted = refl }; key_data = lt-ltb 0 (length f.key_data) some })
    by FtPsk e = rw e (record { version = refl; error = refl; request = refl; bits = record { pairwise = refl; install = refl; ack = refl; mic = refl; secure = tt; encrypted = refl }; key_data = lt-ltb 0 (length f.key_data) some })

pub reads-renewal_m2 : (d : Domain) (n p : Node) (x : Derivation) (counter : ℕ) → HasMic d.akm → IsAddress (address d n) → IsAddress (address d p) → counter < 2 ^ 64 → length x.inputs.snonce ≡ 32
    → length (sent_m2_key_data d.akm d x []) ≤ 65440 → Reads d.akm (in_data d n p (renewal_m2_frame d x counter)) (Keyed (renewal_m2_message d n p x counter))
reads-renewal_m2 d n p x counter has l k c h few =
    reads-sealed d n p M2 x.ptk.kck (renewal_m2_fields d x counter) has l k (fits-renewal_m2 d x counter c h few) (secured_sent d.akm (renewal_m2_fields d x counter) refl (some-m2 d.akm d x []))

secure_bits : (akm : Akm) → has_bit (512 + (0x0108 + descriptor_version akm)) 9 ≡ true
secure_bits Psk = refl
secure_bits PskSha256 = refl
secure_bits FtPsk = refl

pub secure-renewal_m2 : (d : Domain) (n p : Node) (x : Derivation) (counter : ℕ) → is_secure (renewal_m2_message d n p x counter) ≡ true
secure-renewal_m2 d n p x counter = secure_bits d.akm

-- it is awaited in an attempt that renews a key
pub secured-renewal : (d : Domain) (part : List Act) (k : KeyMessage) → is_by_renewal part ≡ true → is_secure k ≡ true → is_secured_rightly d part k ≡ true
secured-renewal d part k renews set = rw (renews, set) (cond_same _)
  where
    cond_same : (b : Bool) → cond b true true ≡ true
    cond_same true = refl
    cond_same false = refl

-- ---- by the answers to what is asked of the history

-- M1 begins the renewal
pub m1-opening : (d : Domain) (drawn : ℕ) (h : List Act) (p : Node) (k : KeyMessage) (kept : ℕ) → attempt p h ≡ None → opens_renewal d h p ≡ true → kept_counter p (chain p h) ≡ Some kept → nat_lt kept k.fields.counter ≡ true → nat_lt drawn draw_end ≡ true
    → m1_verdict d drawn h p k ≡ Accepted
m1-opening d drawn h p k kept none opens counter low room = rw (none, opens, counter, low, room) refl

-- the key of an attempt that renews one
pub m3-keyed_renewal : (p : Node) (h part : List Act) (k : KeyMessage) (x : Derivation) → attempt p h ≡ Some part → is_by_renewal part ≡ true → derivation p part ≡ Some x → k.fields.nonce ≡ x.inputs.anonce
    → m3_keying p h k ≡ Some (record { key = x; is_session = false })
m3-keyed_renewal p h part k x s renews derives same = rw (s, renews, derives, (bytes_eq-Decides k.fields.nonce x.inputs.anonce).1 same) refl

-- the session is replaced
pub is-replaced : (p : Node) (h part : List Act) (took : Act) (rest : List Act) → attempt p h ≡ Some part → is_by_renewal part ≡ true → took ∷ Closed p Session ∷ rest ≡ took ∷ (replaced p (in_renewal (attempt p h)) ++ rest)
is-replaced p h part took rest a renews = rw (a, renews) refl

-- M3 is sent once more, with the group key as it is now
pub retries-renewal : (d : Domain) (n : Node) (h : List Act) (p : Node) (part past : List Act) (x : Derivation) → attempt p h ≡ Some part → is_by_renewal part ≡ true → is_four_way part ≡ true → has_heard p (kind.Key M2) part ≡ true → nat_lt (sent_count p M3 part) most_sends ≡ true
    → derivation p part ≡ Some x → before_sent p (kind.Key M3) h ≡ Some past → retry_acts d n h p (attempt p h) ≡ sent_m3 d n p x (next_in_session p h) (news d h) ∷ []
retries-renewal d n h p part past x s renews begun hears few derives before =
    rw (s, begun, hears, few, derives, before) (ap (λ (b : Bool). sent_m3 d n p x (cond b (next_in_session p h) (next_in_attempt p part)) (news d (cond b h past)) ∷ []) renews)

-- ---- the counters of a session

pub counter_taken : (p : Node) (e : Act) (h : List Act) (next : ℕ) → finishes p e ≡ false → takes_counter p (in_renewal (attempt p h)) e ≡ true → next_in_session p h ≡ next → next_in_session p (e ∷ h) ≡ suc next
counter_taken p e h next other takes is = rw (other, takes) (ap suc is)

pub counter_left : (p : Node) (e : Act) (h : List Act) (next : ℕ) → finishes p e ≡ false → takes_counter p (in_renewal (attempt p h)) e ≡ false → next_in_session p h ≡ next → next_in_session p (e ∷ h) ≡ next
counter_left p e h next other leaves is = rw (other, leaves) is

-- they go on as the attempt that renews its key ends
pub counter_kept : (p : Node) (e : Act) (h : List Act) (next : ℕ) → finishes p e ≡ true → in_renewal (attempt p h) ≡ true → next_in_session p h ≡ next → next_in_session p (e ∷ h) ≡ next
counter_kept p e h next ends renews is = rw (ends, renews) is

-- What comes of the EAPOL-Key messages at a station: M1, M3 and G1 (IEEE Std 802.11-2020, 12.7.6.2, 12.7.6.4, 12.7.7.2,
-- profile).
use Rattle.std.specs.Prelude.{◌≡◌, ℕ, Bool, true, false, cond, not, ◌&&◌, ◌||◌, ◌==◌, List, length, Option, Some, None, is_some, bytes_eq, nat_lt, if◌then◌else◌}
use Rattle.domain_base.specs.declared.names.Akm.{Akm}
use Rattle.domain_base.specs.declared.names.Node.{Node}
use Rattle.rsn_elements.specs.Elements.{ElementFields}
use Rattle.rsn_elements.specs.KeyData.{GtkKdeFields, IgtkKdeFields}
use Rattle.eapol_key.specs.declared.messages.Message.TheVariants.{M1}
use Rattle.run_journal.specs.declared.domain.Domain.{Domain}
use Rattle.run_journal.specs.Events.{protects}
use Rattle.run_journal.specs.declared.acts.Start.{Start}
use Rattle.run_journal.specs.declared.acts.Start.TheVariants.{Connect, Renew}
use Rattle.run_journal.specs.declared.acts.Kind.TheVariants as kind
use Rattle.run_journal.specs.declared.acts.KeyDataFault.TheVariants as key_data
use Rattle.run_journal.specs.declared.acts.Reason.TheVariants as reason
use Rattle.run_journal.specs.declared.acts.Outcome.{Outcome}
use Rattle.run_journal.specs.declared.acts.Outcome.TheVariants.{Accepted, Answered, Refused}
use Rattle.run_journal.specs.declared.acts.Act.{Act}
use Rattle.run_journal.specs.Acts.{Derivation}
use Rattle.run_journal.specs.Questions.{pending, attempt, chain, derivation, session}
use Rattle.domain_rules.specs.Network.{renews, draw_end}
use Rattle.domain_rules.specs.Reading.{KeyMessage}
use Rattle.domain_rules.specs.Suites.{network_rsne_by}
use Rattle.domain_rules.specs.Facts.{Facts, is_same, ReadsKeyData, IsUnwrapped}
use Rattle.domain_rules.specs.Asking.{kept_counter, start_of, has_four_way, is_four_way, is_by_renewal, session_start, has_heard, above, verified}

-- M1 is awaited in an attempt by connect in which the association response was accepted, and in one that renews a key
-- (12.7.6.2, profile)
abbrev pub awaits_m1 : Option Start → Bool → Bool
awaits_m1 (Some Connect) responded = responded
awaits_m1 (Some Renew) responded = true
awaits_m1 _ responded = false

-- M1 begins to renew the key of the session with p: with suites 2 and 6, without an attempt, in a session that began by
-- a four-way handshake (12.7.6.2, profile)
abbrev pub opens_renewal : Domain → List Act → Node → Bool
opens_renewal d h p = renews d && (not (is_some (pending h)) && (is_some (session p h) && has_four_way (session_start p h)))

-- without an attempt M1 is awaited where it begins to renew a key; it is refused where its counter is not above the kept
-- one, or where no nonce can be drawn (12.7.6.2, profile)
abbrev pub m1_verdict_opening : Domain → ℕ → List Act → Node → KeyMessage → Outcome
m1_verdict_opening d drawn h p k =
    if opens_renewal d h p then above (kept_counter p (chain p h)) k.fields.counter (if nat_lt drawn draw_end then Accepted else Refused reason.Spent)
    else Refused reason.Unawaited

-- by the attempt with p, or without one (12.7.6.2, profile)
abbrev pub m1_verdict_in : Domain → ℕ → List Act → Node → KeyMessage → Option (List Act) → Outcome
m1_verdict_in d drawn h p k None = m1_verdict_opening d drawn h p k
m1_verdict_in d drawn h p k (Some part) =
    if awaits_m1 (start_of part) (has_heard p kind.AssocResp part) then above (kept_counter p (chain p h)) k.fields.counter Accepted
    else Refused reason.Unawaited

-- M1 at a station that has drawn so often (12.7.6.2)
abbrev pub m1_verdict : Domain → ℕ → List Act → Node → KeyMessage → Outcome
m1_verdict d drawn h p k = m1_verdict_in d drawn h p k (attempt p h)

-- what M3 is judged by: the key derived last, and whether M3 was accepted under it already (12.7.6.4, profile)
pub record Keying : Type 0 where
  pub key : Derivation
  pub is_session : Bool

-- the key that was derived last, where there is one (12.7.6.4, profile)
abbrev pub keying_by : Bool → Option Derivation → Option Keying
keying_by is_session None = None
keying_by is_session (Some x) = Some (record { key = x; is_session = is_session })

-- the key of a session that began by a four-way handshake (12.7.6.4, profile)
abbrev pub session_keying : Node → List Act → Option Keying
session_keying p h = cond (has_four_way (session_start p h)) (keying_by true (session p h)) None

-- in an attempt that renews the key of a session: the key derived last in it, where the nonce of M3 is that of the last
-- M1 accepted, which that key was derived from, else that of the session (12.7.6.4, profile)
abbrev pub renewal_keying : Node → List Act → KeyMessage → Option Derivation → Option Keying
renewal_keying p h k None = session_keying p h
renewal_keying p h k (Some x) = cond (bytes_eq k.fields.nonce x.inputs.anonce) (keying_by false (Some x)) (session_keying p h)

-- in an attempt by connect in which M1 was accepted, in one that renews a key, else in a session (12.7.6.4, profile)
abbrev pub attempt_keying : Node → List Act → KeyMessage → Option (List Act) → Option Keying
attempt_keying p h k None = session_keying p h
attempt_keying p h k (Some part) =
    cond (is_by_renewal part) (renewal_keying p h k (derivation p part))
    (cond (is_four_way part) (cond (has_heard p (kind.Key M1) part) (keying_by false (derivation p part)) None) (session_keying p h))

-- the key by which M3 is judged (12.7.6.4, profile)
abbrev pub m3_keying : Node → List Act → KeyMessage → Option Keying
m3_keying p h k = attempt_keying p h k (attempt p h)

-- acceptance, or in a session an answer (12.7.6.4, profile)
abbrev pub taken_in : Bool → Outcome
taken_in false = Accepted
taken_in true = Answered

-- M3 at a station, as far as its fields and the history decide. The ANonce of the last M1 accepted is the one that the
-- key was derived from (12.7.6.4, profile).
abbrev pub m3_verdict_by : Domain → Option ℕ → KeyMessage → Option Keying → Outcome
m3_verdict_by d kept k None = Refused reason.Unawaited
m3_verdict_by d kept k (Some y) =
    above kept k.fields.counter
    (if bytes_eq k.fields.nonce y.key.inputs.anonce then verified d.akm y.key.ptk.kck k (taken_in y.is_session) else Refused reason.Nonce)

abbrev pub m3_verdict : Domain → List Act → Node → KeyMessage → Outcome
m3_verdict d h p k = m3_verdict_by d (kept_counter p (chain p h)) k (m3_keying p h k)

-- a GTK KDE with a key of 16 octets and a key id other than 0 (12.7.2, profile)
abbrev pub is_group_key : Option GtkKdeFields → Bool
is_group_key None = false
is_group_key (Some g) = (length g.key == 16) && not (g.id == 0)

-- an IGTK KDE with a key of 16 octets and the key id 4 or 5 (12.7.2, profile)
abbrev pub is_integrity_key : Option IgtkKdeFields → Bool
is_integrity_key None = false
is_integrity_key (Some k) = (length k.key == 16) && ((k.id == 4) || (k.id == 5))

-- where management frames are protected there is an IGTK too; where they are not, none is looked at (12.7.2, profile)
abbrev pub igtk_data : Bool → Option IgtkKdeFields → Outcome
igtk_data false k = Accepted
igtk_data true k = if is_integrity_key k then Accepted else Refused (reason.KeyData key_data.Igtk)

-- the group keys of key data: a GTK, and where management frames are protected an IGTK (12.7.2, profile)
abbrev pub group_keys_data : Domain → ElementFields → Outcome
group_keys_data d e = if is_group_key e.gtk then igtk_data (protects d) e.igtk else Refused (reason.KeyData key_data.Gtk)

-- the key data of M3: that RSNE, and the group keys (12.7.6.4, profile)
abbrev pub m3_key_data_with : Domain → List ℕ → Option ElementFields → Outcome
m3_key_data_with d rsne None = Refused (reason.KeyData key_data.Unreadable)
m3_key_data_with d rsne (Some e) =
    if not (is_same e.rsne_octets (Some rsne)) then Refused (reason.KeyData key_data.Rsne)
    else group_keys_data d e

-- the RSNE is as this network sends it (12.7.6.4, profile)
abbrev pub m3_key_data : Akm → Domain → Option ElementFields → Outcome
m3_key_data akm d data_ = m3_key_data_with d (network_rsne_by akm d None) data_

-- M3 is refused where its key data has no plain text (12.7.6.4, profile)
abbrev pub m3_wrapped : Akm → Domain → Option (List ℕ) → Option ElementFields → Outcome
m3_wrapped akm d None data_ = Refused reason.Wrap
m3_wrapped akm d (Some plain) data_ = m3_key_data akm d data_

-- G1 at a station, as far as its fields and the history decide: it is awaited in a session (12.7.7.2)
abbrev pub g1_verdict_by : Domain → Option ℕ → KeyMessage → Option Derivation → Outcome
g1_verdict_by d kept k None = Refused reason.Unawaited
g1_verdict_by d kept k (Some x) = above kept k.fields.counter (verified d.akm x.ptk.kck k Accepted)

abbrev pub g1_verdict : Domain → List Act → Node → KeyMessage → Outcome
g1_verdict d h p k = g1_verdict_by d (kept_counter p (chain p h)) k (session p h)

-- the key data of G1 in this network: the group keys (12.7.7.2, profile)
abbrev pub g1_key_data : Domain → Option ElementFields → Outcome
g1_key_data d None = Refused (reason.KeyData key_data.Unreadable)
g1_key_data d (Some e) = group_keys_data d e

-- G1 is refused where its key data has no plain text (12.7.7.2, profile)
abbrev pub g1_wrapped : Domain → Option (List ℕ) → Option ElementFields → Outcome
g1_wrapped d None data_ = Refused reason.Wrap
g1_wrapped d (Some plain) data_ = g1_key_data d data_

-- what further reading tells of M3, and of G1 (profile)
pub record KnowsM3 (kek : List ℕ) (k : KeyMessage) (facts : Facts) : Type 0 where
  pub unwrapped : IsUnwrapped kek k.fields.key_data facts.unwrapped
  pub data_ : (plain : List ℕ) → facts.unwrapped ≡ Some plain → ReadsKeyData plain facts.data_

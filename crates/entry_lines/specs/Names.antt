-- Values by their names, as the code looks them up.
-- For the code alone: no public contract speaks of it.
use Rattle.std.specs.Prelude.{ℕ, ◌==◌, nat_lt, cond, bytes_eq, List, [], ◌∷◌, codes}
use denote.Ref.{Bor}
use Rattle.domain_base.specs.declared.names.Akm.{Akm}
use Rattle.domain_base.specs.declared.names.Akm.TheVariants.{Psk, PskSha256, FtPsk}
use Rattle.eapol_key.specs.declared.messages.Message.{Message}
use Rattle.eapol_key.specs.declared.messages.Message.TheVariants.{M1, M2, M3, M4, G1, G2}
use Rattle.eapol_key.specs.declared.frame.FaultKind.{FaultKind as KeyFault}
use Rattle.eapol_key.specs.declared.frame.FaultKind.TheVariants as frame
use Rattle.rsn_elements.specs.declared.faults.FaultKind.{FaultKind as ElementKind}
use Rattle.rsn_elements.specs.declared.faults.FaultKind.TheVariants as element
use Rattle.key_hierarchy.specs.declared.answers.PutAnswer.{PutAnswer}
use Rattle.key_hierarchy.specs.declared.answers.PutAnswer.TheVariants as put
use Rattle.key_hierarchy.specs.declared.answers.RevokeAnswer.{RevokeAnswer}
use Rattle.key_hierarchy.specs.declared.answers.RevokeAnswer.TheVariants as revoke
use Rattle.run_journal.specs.declared.acts.GroupKind.{GroupKind}
use Rattle.run_journal.specs.declared.acts.GroupKind.TheVariants as groups
use Rattle.run_journal.specs.declared.acts.Start.{Start}
use Rattle.run_journal.specs.declared.acts.Start.TheVariants.{Connect, Roam, Renew}
use Rattle.run_journal.specs.declared.acts.Part.{Part}
use Rattle.run_journal.specs.declared.acts.Part.TheVariants.{Attempt, Session}
use Rattle.run_journal.specs.declared.acts.Kind.{Kind}
use Rattle.run_journal.specs.declared.acts.Kind.TheVariants as kind
use Rattle.run_journal.specs.declared.acts.MalformedFrame.TheVariants as air
use Rattle.run_journal.specs.declared.acts.Malformed.{Malformed}
use Rattle.run_journal.specs.declared.acts.Malformed.TheVariants as malformed
use Rattle.run_journal.specs.declared.acts.KeyDataFault.{KeyDataFault}
use Rattle.run_journal.specs.declared.acts.KeyDataFault.TheVariants as key_data
use Rattle.run_journal.specs.declared.acts.Reason.{Reason}
use Rattle.run_journal.specs.declared.acts.Reason.TheVariants as reason
use Rattle.run_journal.specs.declared.acts.Why.{Why}
use Rattle.run_journal.specs.declared.acts.Why.TheVariants as why
use Rattle.run_journal.specs.declared.acts.Outcome.{Outcome}
use Rattle.run_journal.specs.declared.acts.Outcome.TheVariants.{Accepted, Answered, Ignored}
use Rattle.entry_lines.specs.declared.names.ActKind.{ActKind}
use Rattle.entry_lines.specs.declared.names.ActKind.TheVariants as acts

-- names with their values, as the code has them in a table
abbrev pub listed : {A : Type 0} → List (Bor (List ℕ) × A) → List (List ℕ × A)
listed [] = []
listed (name ∷ names) = (name.0.now, name.1) ∷ listed names

-- the value of the first of these names that the word is, or another value where it is none
abbrev pub named : {A : Type 0} → List (List ℕ × A) → List ℕ → A → A
named [] word other = other
named (name ∷ names) word other = cond (bytes_eq word name.0) name.1 (named names word other)

abbrev pub starts : List (List ℕ × Start)
starts = (codes "connect", Connect) ∷ (codes "roam", Roam) ∷ (codes "renew", Renew) ∷ []

abbrev pub parts : List (List ℕ × Part)
parts = (codes "attempt", Attempt) ∷ (codes "session", Session) ∷ []

abbrev pub messages : List (List ℕ × Message)
messages = (codes "m1", M1) ∷ (codes "m2", M2) ∷ (codes "m3", M3) ∷ (codes "m4", M4) ∷ (codes "g1", G1) ∷ (codes "g2", G2) ∷ []

abbrev pub group_kinds : List (List ℕ × GroupKind)
group_kinds = (codes "gtk", groups.Gtk) ∷ (codes "igtk", groups.Igtk) ∷ []

abbrev pub kinds : List (List ℕ × Kind)
kinds =
    (codes "assoc-req", kind.AssocReq) ∷ (codes "assoc-resp", kind.AssocResp) ∷ (codes "ft-req", kind.FtReq) ∷ (codes "ft-resp", kind.FtResp)
    ∷ (codes "re-req", kind.ReReq) ∷ (codes "re-resp", kind.ReResp) ∷ (codes "m1", kind.Key M1) ∷ (codes "m2", kind.Key M2)
    ∷ (codes "m3", kind.Key M3) ∷ (codes "m4", kind.Key M4) ∷ (codes "g1", kind.Key G1) ∷ (codes "g2", kind.Key G2)
    ∷ (codes "data", kind.Data) ∷ (codes "action", kind.Action) ∷ (codes "ignored", kind.Ignored) ∷ (codes "unread", kind.Unread)
    ∷ (codes "eapol", kind.Eapol) ∷ []

abbrev pub akms : List (List ℕ × Akm)
akms = (codes "psk", Psk) ∷ (codes "psk-sha256", PskSha256) ∷ (codes "ft-psk", FtPsk) ∷ []

abbrev pub whys : List (List ℕ × Why)
whys =
    (codes "no-session", why.NoSession) ∷ (codes "same-peer", why.SamePeer) ∷ (codes "nothing", why.Nothing)
    ∷ (codes "rekey-pending", why.RekeyPending) ∷ (codes "no-key", why.NoKey) ∷ (codes "spent", why.Spent) ∷ []

abbrev pub puts : List (List ℕ × PutAnswer)
puts = (codes "held", put.Held) ∷ (codes "held-already", put.HeldAlready) ∷ (codes "full", put.Full) ∷ []

abbrev pub revokes : List (List ℕ × RevokeAnswer)
revokes = (codes "revoked", revoke.Revoked) ∷ (codes "absent", revoke.Absent) ∷ []

-- outcomes, those of a refusal without their reason
abbrev pub outcomes : List (List ℕ × Outcome)
outcomes = (codes "accepted", Accepted) ∷ (codes "answered", Answered) ∷ (codes "ignored", Ignored) ∷ []

-- reasons, without what they tell
abbrev pub reasons : List (List ℕ × Reason)
reasons =
    (codes "malformed", reason.Malformed (malformed.Air air.Version)) ∷ (codes "out-of-profile", reason.OutOfProfile 0)
    ∷ (codes "not-for-me", reason.NotForMe) ∷ (codes "unknown-peer", reason.UnknownPeer) ∷ (codes "unawaited", reason.Unawaited)
    ∷ (codes "counter", reason.Counter 0) ∷ (codes "nonce", reason.Nonce) ∷ (codes "mic", reason.Mic) ∷ (codes "wrap", reason.Wrap)
    ∷ (codes "key-data", reason.KeyData key_data.Unreadable) ∷ (codes "status", reason.Status 0) ∷ (codes "no-holder", reason.NoHolder)
    ∷ (codes "name", reason.Name) ∷ (codes "no-key", reason.NoKey) ∷ (codes "replayed", reason.Replayed 0) ∷ (codes "seal", reason.Seal)
    ∷ (codes "spent", reason.Spent) ∷ []

-- a reason without what it tells
abbrev pub outline : Reason → Reason
outline (reason.Malformed m) = reason.Malformed (malformed.Air air.Version)
outline (reason.OutOfProfile code) = reason.OutOfProfile 0
outline (reason.Counter kept) = reason.Counter 0
outline (reason.KeyData f) = reason.KeyData key_data.Unreadable
outline (reason.Status code) = reason.Status 0
outline (reason.Replayed kept) = reason.Replayed 0
outline r = r

-- faults by their numbers
abbrev pub frame_fault : ℕ → KeyFault
frame_fault n = cond (n == 1) frame.Short (cond (n == 2) frame.PacketType (cond (n == 3) frame.Descriptor (cond (n == 4) frame.BodyLength frame.KeyDataLength)))

abbrev pub element_fault : ℕ → ElementKind
element_fault n = cond (n == 1) element.Truncated (cond (n == 2) element.Length (cond (n == 3) element.Version (cond (n == 4) element.Repeated element.SubelementLength)))

abbrev pub key_data_fault : ℕ → KeyDataFault
key_data_fault n = cond (n == 1) key_data.Unreadable (cond (n == 2) key_data.Rsne (cond (n == 3) key_data.Mde (cond (n == 4) key_data.Fte (cond (n == 5) key_data.Gtk key_data.Igtk))))

-- what a reader refuses, by the layer, the place and the number of the fault
abbrev pub malformed_by : ℕ → ℕ → ℕ → Malformed
malformed_by layer place number =
    cond (layer == 1) (malformed.Air (cond (number == 1) (air.Short place) (cond (number == 2) air.Version (air.Body place))))
    (cond (layer == 2) (malformed.Key (record { place = place; kind = frame_fault number })) (malformed.Elements (record { place = place; kind = element_fault number })))

-- a number of so many values at most
abbrev pub within : ℕ → ℕ → ℕ
within bound n = cond (nat_lt n bound) n 0

-- the reason of that outline that tells these numbers
abbrev pub filled : Reason → ℕ → ℕ → ℕ → Reason
filled (reason.Malformed m) a b c = reason.Malformed (malformed_by a b c)
filled (reason.OutOfProfile code) a b c = reason.OutOfProfile (within 256 a)
filled (reason.Counter kept) a b c = reason.Counter a
filled (reason.KeyData f) a b c = reason.KeyData (key_data_fault a)
filled (reason.Status code) a b c = reason.Status (within 65536 a)
filled (reason.Replayed kept) a b c = reason.Replayed a
filled r a b c = r

abbrev pub act_kinds : List (List ℕ × ActKind)
act_kinds =
    (codes "opened", acts.Opened) ∷ (codes "closed", acts.Closed) ∷ (codes "drew", acts.Drew) ∷ (codes "derived", acts.Derived)
    ∷ (codes "sent", acts.Sent) ∷ (codes "took", acts.Took) ∷ (codes "installed", acts.Installed) ∷ (codes "resumed", acts.Resumed)
    ∷ (codes "used", acts.Used) ∷ (codes "handed", acts.HandedUp) ∷ (codes "finished", acts.Finished) ∷ (codes "put", acts.Put)
    ∷ (codes "looked", acts.Looked) ∷ (codes "revoked", acts.Revoked) ∷ (codes "secret", acts.Secret) ∷ (codes "gave-up", acts.GaveUp) ∷ (codes "idle", acts.Idle) ∷ []

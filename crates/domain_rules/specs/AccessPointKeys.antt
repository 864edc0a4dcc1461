-- What comes of the EAPOL-Key messages at an access point: M2, M4 and G2. The act of taking an association request
-- stands before the `Opened` that it causes. So the request is asked of the history before that Opened: the last one
-- accepted there is the attempt's. That of an attempt which renews the key of a session is the one that its chain began
-- with (IEEE Std 802.11-2020, 12.7.6.3, 12.7.6.5, 12.7.7.3, profile).
use Rattle.std.specs.Prelude.{◌≡◌, ℕ, Bool, true, cond, not, ◌||◌, List, [], ◌∷◌, Option, Some, None, if◌then◌else◌}
use Rattle.domain_base.specs.declared.names.Akm.{Akm}
use Rattle.domain_base.specs.declared.names.Node.{Node}
use Rattle.rsn_elements.specs.Elements.{ElementFields}
use Rattle.eapol_key.specs.declared.messages.Message.TheVariants.{M1, M2, M3, G1}
use Rattle.key_hierarchy.specs.Keys.{ptk}
use Rattle.run_journal.specs.declared.domain.Domain.{Domain}
use Rattle.run_journal.specs.declared.acts.Kind.TheVariants as kind
use Rattle.run_journal.specs.declared.acts.KeyDataFault.TheVariants as key_data
use Rattle.run_journal.specs.declared.acts.Reason.TheVariants as reason
use Rattle.run_journal.specs.declared.acts.Outcome.{Outcome}
use Rattle.run_journal.specs.declared.acts.Outcome.TheVariants.{Accepted, Refused}
use Rattle.run_journal.specs.declared.acts.Act.{Act}
use Rattle.run_journal.specs.Acts.{opens, finishes, Derivation}
use Rattle.run_journal.specs.declared.acts.GroupKind.TheVariants as groups
use Rattle.run_journal.specs.Questions.{attempt, derivation, heard, handshake}
use Rattle.domain_rules.specs.Network.{has_renewals, r0kh_id, inputs_at}
use Rattle.domain_rules.specs.Reading.{Management, KeyMessage, Managed, Reads}
use Rattle.domain_rules.specs.Facts.{Facts, is_same, ReadsKeyData}
use Rattle.domain_rules.specs.Owing.{owing}
use Rattle.domain_rules.specs.Asking.{offered, is_four_way, is_by_renewal, in_renewal, is_secure, has_heard, own, in_attempt, among, verified}

-- where the rules of renewed pairwise keys hold, with every suite: Secure is set in M2 exactly in an attempt that renews
-- a key (12.7.6.3, profile)
abbrev pub is_secured_rightly : Domain → List Act → KeyMessage → Bool
is_secured_rightly d part k = cond (has_renewals d) (cond (is_by_renewal part) (is_secure k) (not (is_secure k))) true

-- M2 whose Secure bit does not fit the attempt is not awaited (12.7.6.3, profile)
abbrev pub secured_rightly : Domain → List Act → KeyMessage → Outcome → Outcome
secured_rightly d part k then_ = if is_secured_rightly d part k then then_ else Refused reason.Unawaited

-- M2 at an access point, as far as its fields and the history decide. With suite 4 the access point is the R0KH
-- (12.7.6.3, profile)
abbrev pub m2_verdict : Domain → Node → List Act → Node → KeyMessage → Outcome
m2_verdict d n h p k =
    in_attempt (attempt p h) (λ part. (
    if not (is_four_way part) || has_heard p (kind.Key M2) part then Refused reason.Unawaited
    else secured_rightly d part k (among (offered p M1 part) k.fields.counter
    (verified d.akm (ptk (inputs_at d n p (r0kh_id d n) (own part) k.fields.nonce)).kck k Accepted))))

-- the key derived last in an attempt with a four-way handshake in which M2 was accepted (12.7.6.5, profile)
abbrev pub m4_keying : Node → List Act → Option Derivation
m4_keying p part = cond (is_four_way part) (cond (has_heard p (kind.Key M2) part) (derivation p part) None) None

-- M4 at an access point (12.7.6.5, profile)
abbrev pub m4_verdict_by : Domain → Node → KeyMessage → List Act → Option Derivation → Outcome
m4_verdict_by d p k part None = Refused reason.Unawaited
m4_verdict_by d p k part (Some x) = among (offered p M3 part) k.fields.counter (verified d.akm x.ptk.kck k Accepted)

abbrev pub m4_verdict : Domain → List Act → Node → KeyMessage → Outcome
m4_verdict d h p k = in_attempt (attempt p h) (λ part. m4_verdict_by d p k part (m4_keying p part))

-- G2 at an access point: it is awaited in a session that owes it, with a counter of the handshake for the newest group
-- key (12.7.7.3, profile)
abbrev pub g2_verdict_by : Domain → List Act → Node → KeyMessage → Option Derivation → Outcome
g2_verdict_by d h p k None = Refused reason.Unawaited
g2_verdict_by d h p k (Some x) = among (offered p G1 (handshake groups.Gtk p h)) k.fields.counter (verified d.akm x.ptk.kck k Accepted)

abbrev pub g2_verdict : Domain → List Act → Node → KeyMessage → Outcome
g2_verdict d h p k = g2_verdict_by d h p k (owing groups.Gtk p h)

-- the whole RSNE of an association request, where it has one (profile)
abbrev pub requested_rsne : Option ElementFields → Option (List ℕ)
requested_rsne None = None
requested_rsne (Some e) = e.rsne_octets

-- the key data of M2: the RSNE, octet by octet as in the association request (12.7.6.3, profile)
abbrev pub m2_key_data : Option (List ℕ) → Option ElementFields → Outcome
m2_key_data rsne None = Refused (reason.KeyData key_data.Unreadable)
m2_key_data rsne (Some e) = if is_same e.rsne_octets rsne then Accepted else Refused (reason.KeyData key_data.Rsne)

-- the octets read as a management frame whose elements say this (profile)
abbrev pub HasElements : Akm → List ℕ → ElementFields → Type 0
HasElements akm octets e = (b : Management) × Reads akm octets (Managed b e)

-- and this is its whole RSNE, or that it has none (profile)
abbrev pub HasRsne : Akm → List ℕ → Option (List ℕ) → Type 0
HasRsne akm octets rsne = (e : ElementFields) × (HasElements akm octets e × (rsne ≡ e.rsne_octets))

-- the history before the last Opened with p (profile)
abbrev pub origin : Node → List Act → List Act
origin p [] = []
origin p (e ∷ h) = cond (opens p e) h (origin p h)

-- the history before the Opened that the session with p goes back to: through all attempts that renewed its key (profile)
abbrev pub session_origin : Node → List Act → List Act
session_origin p [] = []
session_origin p (e ∷ h) = cond (finishes p e) (cond (in_renewal (attempt p h)) (session_origin p h) (origin p h)) (session_origin p h)

-- the history before the Opened with p that begins the chain of its attempt: its own, but for an attempt that renews the
-- key of a session the one that the session goes back to (profile)
abbrev pub chain_origin : Node → List Act → List Act
chain_origin p h = cond (in_renewal (attempt p h)) (session_origin p h) (origin p h)

-- the association request that an attempt of an access point answers: the last that it accepted from p before that
-- Opened (profile)
abbrev pub request : Node → List Act → Option (List ℕ)
request p h = heard p kind.AssocReq (chain_origin p h)

-- what a request says that was accepted, where there is one; that octets have no elements cannot be of one that was
-- accepted (profile)
abbrev pub IsRequested : Akm → Option (List ℕ) → Option ElementFields → Type 0
IsRequested akm None says = says ≡ None
IsRequested akm (Some octets) None = (e : ElementFields) → HasElements akm octets e → ⊥
IsRequested akm (Some octets) (Some e) = HasElements akm octets e

-- what further reading tells of M2 (profile)
pub record KnowsM2 (akm : Akm) (h : List Act) (p : Node) (k : KeyMessage) (facts : Facts) : Type 0 where
  pub requested : IsRequested akm (request p h) facts.requested
  pub data_ : ReadsKeyData k.fields.key_data facts.data_

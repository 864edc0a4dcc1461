-- Group-addressed management frames under BIP-CMAC-128: how an access point sends an announcement to all its stations, and
-- what comes of one at a station. What an announcement says is this project's choice (IEEE Std 802.11-2020, 12.5.4,
-- profile).
use Rattle.std.specs.Prelude.{ℕ, suc, ◌-◌, nat_lt, List, [], ◌∷◌, ◌++◌, length, take, replicate, Option, Some, None, if◌then◌else◌}
use Rattle.domain_base.specs.declared.names.Node.{Node}
use Rattle.domain_base.specs.declared.names.Peer.TheVariants.{All}
use Rattle.replay_window.specs.Numbers.{last_number}
use Rattle.bip_guard.specs.Bip.{bip_aad, mme_front, protected_body, key_id_in, ipn_in, mic_verifies}
use Rattle.air_frame.specs.Fields.{HeaderFields}
use Rattle.air_frame.specs.Sent.{management_header_octets, action_octets}
use Rattle.run_journal.specs.declared.domain.Domain.{Domain}
use Rattle.run_journal.specs.declared.acts.GroupKind.TheVariants as groups
use Rattle.run_journal.specs.declared.acts.Kind.TheVariants as kind
use Rattle.run_journal.specs.declared.acts.Why.TheVariants as why
use Rattle.run_journal.specs.declared.acts.Reason.TheVariants as reason
use Rattle.run_journal.specs.declared.acts.Outcome.{Outcome}
use Rattle.run_journal.specs.declared.acts.Outcome.TheVariants.{Accepted, Refused}
use Rattle.run_journal.specs.declared.acts.Seal.{Seal}
use Rattle.run_journal.specs.declared.acts.Act.{Act}
use Rattle.run_journal.specs.declared.acts.Act.TheVariants.{Sent, Used, Idle}
use Rattle.run_journal.specs.Acts.{Derivation, GroupKey}
use Rattle.run_journal.specs.Questions.{session}
use Rattle.domain_rules.specs.Network.{address}
use Rattle.domain_rules.specs.GroupKeys.{memory}
use Rattle.domain_rules.specs.PacketNumbers.{SendKey, current, group_send_key, find_id}
use Rattle.domain_rules.specs.DataFrames.{broadcast}

-- ---- as it is sent

-- the header of an announcement: to all, from the access point, whose address is A3 too (9.3.3.1, profile)
abbrev pub action_header : Domain → Node → List ℕ
action_header d n = management_header_octets 13 broadcast (address d n) (address d n)

-- what an announcement says before the MME: the category vendor-specific protected, and the payload (9.4.1.11, profile)
abbrev pub announced : List ℕ → List ℕ
announced payload = 0x7e ∷ payload

-- what the MIC of an MME covers, by the header and by the body before the MIC (12.5.4.5)
abbrev pub bip_input : List ℕ → List ℕ → List ℕ
bip_input header front = bip_aad header ++ (front ++ replicate 8 0)

-- the same as a seal: the octet 4 and these octets, under the IGTK (12.5.4.5, profile)
abbrev pub action_seal : List ℕ → List ℕ → List ℕ → Seal
action_seal igtk header front = record { octets = 4 ∷ bip_input header front; key = igtk }

-- an Action frame to all, under an IGTK with its key id and a packet number (9.3.3.13, 12.5.4, profile)
abbrev pub sent_action : Domain → Node → List ℕ → ℕ → ℕ → List ℕ → Act
sent_action d n igtk id ipn content =
    Sent All kind.Action (action_octets broadcast (address d n) (address d n) (protected_body igtk (action_header d n) id ipn content))
    (Some (action_seal igtk (action_header d n) (content ++ mme_front id ipn)))

-- the next packet number of an IGTK is used, and the frame is sent under it; of a key whose last number was used none is
-- used (12.5.4.4, profile)
abbrev pub announced_acts : Domain → Node → List ℕ → SendKey → List Act
announced_acts d n content k =
    if nat_lt k.used last_number then Used All k.key k.id (suc k.used) content ∷ sent_action d n k.key k.id (suc k.used) content ∷ []
    else Idle why.Spent ∷ []

-- an announcement is sent under the key, and without a key nothing is done (12.5.4.4, profile)
abbrev pub announce_acts_by : Domain → Node → List ℕ → Option SendKey → List Act
announce_acts_by d n content None = Idle why.NoKey ∷ []
announce_acts_by d n content (Some k) = announced_acts d n content k

-- an access point sends an announcement to all under its current IGTK (12.5.4.4, profile)
abbrev pub announce_acts : Domain → Node → List Act → List ℕ → List Act
announce_acts d n h payload = announce_acts_by d n (announced payload) (group_send_key groups.Igtk h (current groups.Igtk h))

-- ---- as it is taken

-- the remembered IGTK with that key id, the later of two; none without a session (12.5.4.4, profile)
abbrev pub integrity_key_by : Node → List Act → ℕ → Option Derivation → Option GroupKey
integrity_key_by p h id None = None
integrity_key_by p h id (Some x) = find_id id (memory groups.Igtk p h)

-- what the MIC of a body that ends in an MME is tried under, from p: by all 16 bits of its key id, and nothing without a
-- session with p (12.5.4.4, 12.5.4.6, profile)
abbrev pub integrity_key : Node → List Act → List ℕ → Option GroupKey
integrity_key p h body = integrity_key_by p h (key_id_in body) (session p h)

-- refused where there is no such key (12.5.4.6, profile)
abbrev pub action_verdict_by : Option GroupKey → Outcome
action_verdict_by None = Refused reason.NoKey
action_verdict_by (Some g) = Accepted

-- an Action frame from p, as far as the frame and the history decide: it is always awaited (12.5.4.6, profile)
abbrev pub action_verdict : List Act → Node → List ℕ → Outcome
action_verdict h p body = action_verdict_by (integrity_key p h body)

-- refused where its packet number is not above the kept one, then where its MIC does not verify (12.5.4.6)
abbrev pub action_further_by : HeaderFields → List ℕ → ℕ → Option GroupKey → Outcome
action_further_by header body kept None = Refused reason.NoKey
action_further_by header body kept (Some g) =
    if nat_lt kept (ipn_in body) then (if mic_verifies g.key header.octets body then Accepted else Refused reason.Seal)
    else Refused (reason.Replayed kept)

-- the rest of it, by the receive counter of the IGTK (12.5.4.6)
abbrev pub action_further : List Act → Node → HeaderFields → List ℕ → ℕ → Outcome
action_further h p header body kept = action_further_by header body kept (integrity_key p h body)

-- the body before its MME, and before the MIC of its MME (9.4.2.54)
abbrev pub before_mme : List ℕ → List ℕ
before_mme body = take (length body - 18) body

abbrev pub before_mic : List ℕ → List ℕ
before_mic body = take (length body - 8) body

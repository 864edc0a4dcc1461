-- What a reply of a part of a fast transition comes to: the acts of the node, in order (IEEE Std 802.11-2020, 13.8,
-- profile).
use Rattle.std.specs.Prelude.{ℕ, ◌+◌, ◌==◌, Bool, cond, List, [], ◌∷◌, ◌++◌, length, take, Option, Some, None}
use Rattle.domain_base.specs.declared.names.Node.{Node}
use Rattle.domain_base.specs.declared.names.Peer.TheVariants.{One}
use Rattle.rsn_elements.specs.Elements.{ElementFields}
use Rattle.run_journal.specs.declared.domain.Domain.{Domain}
use Rattle.run_journal.specs.Events.{protects}
use Rattle.run_journal.specs.declared.reply.Reply.{Reply}
use Rattle.run_journal.specs.declared.reply.Keyed.{Keyed}
use Rattle.run_journal.specs.declared.acts.Start.TheVariants.{Roam}
use Rattle.run_journal.specs.declared.acts.Drawn.TheVariants.{Nonce}
use Rattle.run_journal.specs.declared.acts.Kind.{Kind}
use Rattle.run_journal.specs.declared.acts.Kind.TheVariants as kind
use Rattle.run_journal.specs.declared.acts.Outcome.{Outcome}
use Rattle.run_journal.specs.declared.acts.Seal.{Seal}
use Rattle.run_journal.specs.declared.acts.Act.{Act}
use Rattle.run_journal.specs.declared.acts.Act.TheVariants.{Opened, Drew, Sent, Took}
use Rattle.domain_rules.specs.Network.{address, Root}
use Rattle.domain_rules.specs.Closing.{close_attempt, close_associated}
use Rattle.domain_rules.specs.FastTransition.{fte_seal, request_number, response_number}
use Rattle.domain_rules.specs.TransitionKeys.{asked, re_req_covered, re_resp_covered}
use Rattle.domain_rules.specs.TransitionRows.{looked_for}
use Rattle.run_journal.specs.declared.acts.GroupKind.TheVariants as groups
use Rattle.ft_exchange.specs.Sent.{named_rsne_len, covered_in}
use Rattle.domain_rules.specs.Replies.{derived_acts, replaced_acts, installed_acts, group_acts, finished_acts}

-- what is sealed in a frame as it is sent. The RSNE stands after 34 octets, SSID and rates in a request, and after 30
-- octets and rates in a response
abbrev pub sent_seal : Domain → Node → Node → Kind → Option (List ℕ) → List ℕ → Option Seal
sent_seal d n p kind.ReReq (Some kck) octets = Some (fte_seal kck (covered_in (address d n) (address d p) request_number (42 + length d.ssid) (named_rsne_len (protects d)) octets))
sent_seal d n p kind.ReResp (Some kck) octets = Some (fte_seal kck (covered_in (address d p) (address d n) response_number 36 (named_rsne_len (protects d)) octets))
sent_seal d n p k kck octets = None

-- the act of sending these octets, with what is sealed in them
abbrev pub sent_octets : Domain → Node → Node → Reply → List ℕ → List Act
sent_octets d n p r octets = Sent (One p) r.kind octets (sent_seal d n p r.kind r.sealed octets) ∷ []

-- the frame that node n sends to p
abbrev pub transition_sent : Domain → Node → Node → Reply → List Act
transition_sent d n p r = cond (r.len == 0) [] (sent_octets d n p r (take r.len r.octets))

-- of a frame of reassociation that came, what its MIC covers, where it verified under that KCK
abbrev pub taken_seal : Option (List ℕ) → Option (List ℕ) → Option Seal
taken_seal (Some input) (Some kck) = Some (fte_seal kck input)
taken_seal input kck = None

-- a node n takes such a frame from p (profile)
pub record Came : Type 0 where
  pub octets : List ℕ
  pub fields : ElementFields
  pub outcome : Outcome

-- that frame, with its elements and what came of it
abbrev pub came : List ℕ → ElementFields → Outcome → Came
came octets e outcome = record { octets = octets; fields = e; outcome = outcome }

-- a station takes an authentication response
abbrev pub auth_response_acts : Domain → Root → Node → Node → Came → Reply → List Act
auth_response_acts d root n p t r = Took (Some p) t.octets kind.FtResp t.outcome None ∷ derived_acts d root n p r.derived ++ transition_sent d n p r

-- the session with an access point ends as a key is installed
abbrev pub left_acts : Option Node → Option Keyed → List Act
left_acts q None = []
left_acts q (Some y) = close_associated q

-- a station takes a reassociation response, and had a session with that access point
abbrev pub reassoc_response_acts : Domain → Root → Node → Node → Option Node → Came → Reply → List Act
reassoc_response_acts d root n p q t r =
    Took (Some p) t.octets kind.ReResp t.outcome (taken_seal (re_resp_covered d n p t.fields) r.verified)
    ∷ left_acts q r.installed ++ installed_acts d root n p r.installed ++ group_acts groups.Gtk d p r.gtk
    ++ group_acts groups.Igtk d p r.igtk ++ finished_acts d root n p r.installed

-- an attempt begins in place of the one that there is, as a key is derived
abbrev pub begun_acts : Node → Option (List Act) → Option Keyed → List Act
begun_acts p part None = []
begun_acts p part (Some y) = close_attempt p part ++ Opened p Roam ∷ Drew (Nonce y.anonce) ∷ []

-- an access point takes an authentication request, and had an attempt
abbrev pub auth_request_acts : Domain → Root → Node → Node → Option (List Act) → Came → Reply → List Act
auth_request_acts d root n p part t r =
    Took (Some p) t.octets kind.FtReq t.outcome None ∷ looked_for p (asked t.fields) r.looked
    ++ begun_acts p part r.derived ++ derived_acts d root n p r.derived ++ transition_sent d n p r

-- an access point takes a reassociation request, and had a session or not
abbrev pub reassoc_request_acts : Domain → Root → Node → Node → Bool → Came → Reply → List Act
reassoc_request_acts d root n p had t r =
    Took (Some p) t.octets kind.ReReq t.outcome (taken_seal (re_req_covered d n p t.fields) r.verified)
    ∷ replaced_acts p had r.installed ++ installed_acts d root n p r.installed ++ finished_acts d root n p r.installed ++ transition_sent d n p r

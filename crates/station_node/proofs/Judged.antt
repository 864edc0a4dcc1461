-- What a station knows of a frame by what it was judged as.
use Rattle.std.proofs.Common.{◌+◌, ◌≡◌, ◌⊎◌, inl, inr, ℕ, ◌<◌, length, Bool, true, false, List, [], ◌∷◌, ◌++◌, Option, Some, None, refl, sym, ap, subst, ◌∙◌}
use Rattle.std.specs.Prelude.{bytes_eq}
use Rattle.domain_base.specs.declared.names.Node.{Node}
use Rattle.domain_base.specs.declared.names.Node.TheVariants.{Ap, Sta}
use Rattle.air_frame.specs.Fields.{HeaderFields}
use Rattle.air_frame.specs.declared.frame.Action.{Action}
use Rattle.air_frame.specs.Views.{header_of}
use Rattle.rsn_elements.specs.Elements.{ElementFields, HasRaw}
use Rattle.rsn_elements.specs.Fields.{element_fields}
use Rattle.rsn_elements.specs.declared.reading.Elements.{Elements}
use Rattle.run_journal.specs.declared.domain.Domain.{Domain}
use Rattle.run_journal.specs.declared.acts.Kind.{Kind}
use Rattle.run_journal.specs.declared.acts.Kind.TheVariants as kind
use Rattle.run_journal.specs.declared.acts.Reason.TheVariants as reason
use Rattle.run_journal.specs.declared.acts.Outcome.TheVariants.{Refused}
use Rattle.run_journal.specs.declared.acts.Outcome.{Outcome}
use Rattle.run_journal.specs.declared.acts.Act.{Act}
use Rattle.run_journal.specs.declared.acts.Act.TheVariants.{Took}
use Rattle.domain_rules.specs.Network.{is_ap, peer_of, bssid}
use Rattle.domain_rules.specs.Reading.{Reading, Managed, ReadsAt, kind_of}
use Rattle.domain_rules.specs.Reading.{Management as ManagementFields}
use Rattle.domain_rules.specs.Verdict.{is_mine, management_sender, first_verdict, key_verdict}
use Rattle.domain_rules.proofs.Unprotected.{reads_here}
use Rattle.domain_rules.proofs.Verdicts.{managed-not_mine, managed-unknown}
use Rattle.domain_rules.specs.Associating.{management_verdict}
use Rattle.domain_rules.specs.DataVerdict.{data_verdict}
use Rattle.domain_rules.specs.ManagementFrames.{action_verdict}
use Rattle.domain_rules.specs.Replies.{IsMessageFrom}
use Rattle.domain_rules.specs.Rows.{Take}
use Rattle.domain_rules.specs.Closing.{sender}
use Rattle.run_journal.specs.Questions.{draws}
use Rattle.frame_intake.specs.declared.delivered.Management.{Management}
use Rattle.frame_intake.specs.declared.delivered.KeyMessage.{KeyMessage}
use Rattle.frame_intake.specs.declared.judging.Judged.TheVariants as judged
use Rattle.frame_intake.specs.declared.delivered.SealedData.{SealedData}
use Rattle.frame_intake.specs.declared.delivered.Delivered.{Delivered}
use Rattle.frame_intake.specs.declared.delivered.Delivered.TheVariants as delivered
use Rattle.frame_intake.specs.SealedFields.{sealed_reading}
use Rattle.frame_intake.specs.Views.{management_fields, message_fields, sealed_fields, action_fields, reading_of, IsWhole}
use Rattle.ft_exchange.specs.Comes.{IsManagementFrom}
use Rattle.run_journal.specs.Events.{IsPeerOf}
use Rattle.frame_intake.specs.Judging.{IsJudged}
use Rattle.station_node.specs.State.{State}
use Rattle.station_node.specs.Steps.{IsTaken, turn, IsDataFrom, IsActionFrom}
use Rattle.station_node.proofs.Taken.{taken-settled}

-- the other node of a station is an access point
pub peer-is_ap : (d : Domain) (sta : ℕ) (p : Node) → IsPeerOf d (Sta sta) p → is_ap p ≡ true
peer-is_ap d sta (Ap k) peer = refl
peer-is_ap d sta (Sta k) peer = absurd peer

-- a management frame is judged by the history where its A3 is right
at_first : (d : Domain) (drawn sta : ℕ) (p : Node) (k : Kind) (b : ManagementFields) (e : ElementFields) → management_verdict d drawn (Sta sta) [] p k b e ≡ Refused reason.Unawaited
at_first d drawn sta p kind.AssocResp b e = refl
at_first d drawn sta p kind.FtResp b e = refl
at_first d drawn sta p kind.ReResp b e = refl
at_first d drawn sta p _ b e = refl

sender_by : (d : Domain) (n p : Node) (h : HeaderFields) → peer_of d n h.a2 ≡ Some p → (management_sender d n h ≡ Some p) ⊎ (management_sender d n h ≡ None)
sender_by d n p h is = by (bytes_eq h.a3 (bssid d n p)) refl
  where
    by : (b : Bool) → bytes_eq h.a3 (bssid d n p) ≡ b → (management_sender d n h ≡ Some p) ⊎ (management_sender d n h ≡ None)
    by true same = inl (rw (is, same) refl)
    by false other = inr (rw (is, other) refl)

sender_known : (d : Domain) (sta : ℕ) (p : Node) (b : ManagementFields) (e : ElementFields) → peer_of d (Sta sta) b.header.a2 ≡ Some p
    → ((first : ℕ) (h : List Act) → first_verdict d first (Sta sta) h (Managed b e) ≡ management_verdict d (first + draws h) (Sta sta) h p b.kind b e) → management_sender d (Sta sta) b.header ≡ Some p
sender_known d sta p b e peer verdict_is = elim (sender_by d (Sta sta) p b.header peer) [
  | inl is ↦ is
  | inr none ↦ absurd (silent (is_mine d (Sta sta) b.header) refl none (verdict_is 0 [] ∙ at_first d 0 sta p b.kind b e))
]
  where
    silent : (c : Bool) → is_mine d (Sta sta) b.header ≡ c → management_sender d (Sta sta) b.header ≡ None → first_verdict d 0 (Sta sta) [] (Managed b e) ≡ Refused reason.Unawaited → ⊥
    silent true mine none is = cc (sym (managed-unknown d 0 (Sta sta) [] b e mine none) ∙ is)
    silent false other none is = cc (sym (managed-not_mine d 0 (Sta sta) [] b e other) ∙ is)

managed_is : (d : Domain) (sta p : ℕ) (octets : List ℕ) (r : Reading) (frame : Management) (elements : Elements) (from : Node) → IsJudged d (Sta sta) r (judged.Managed from frame elements) → ReadsAt d octets r → from ≡ Ap p
    → IsManagementFrom d (Sta sta) (Ap p) octets (management_fields frame) (element_fields elements)
managed_is d sta p octets r frame elements from j reads from_is =
    let b : ManagementFields = management_fields frame in
    let e : ElementFields = element_fields elements in
    let peer : sender d (Sta sta) (Managed b e) ≡ Some (Ap p) = subst (λ (x : Reading). sender d (Sta sta) x ≡ Some (Ap p)) j.0 (j.1 ∙ ap (λ (x : Node). Some x) from_is) in
    let verdict_is : (first : ℕ) (h : List Act) → first_verdict d first (Sta sta) h (Managed b e) ≡ management_verdict d (first + draws h) (Sta sta) h (Ap p) frame.kind b e =
    λ first h. subst (λ (x : Reading). first_verdict d first (Sta sta) h x ≡ management_verdict d (first + draws h) (Sta sta) h (Ap p) frame.kind b e) j.0
    (j.3 first h ∙ ap (λ (x : Node). management_verdict d (first + draws h) (Sta sta) h x frame.kind b e) from_is) in
    record {
      reads = reads_here d octets (Managed b e) (λ is. cc is) (subst (λ (x : Reading). ReadsAt d octets x) j.0 reads);
      from = peer;
      sender_is = sender_known d sta (Ap p) b e peer verdict_is;
      verdict_is = verdict_is;
    }

pub judged-managed : (d : Domain) (n : Node) (sta p : ℕ) (octets : List ℕ) (r : Reading) (frame : Management) (elements : Elements) (from : Node) → IsJudged d n r (judged.Managed from frame elements) → ReadsAt d octets r → from ≡ Ap p → n ≡ Sta sta
    → IsManagementFrom d (Sta sta) (Ap p) octets (management_fields frame) (element_fields elements)
judged-managed d n sta p octets r frame elements from j reads from_is same = managed_is d sta p octets r frame elements from (subst (λ (x : Node). IsJudged d x r (judged.Managed from frame elements)) same j) reads from_is

-- and the octets that were kept of its elements are theirs
pub judged-raw : (x : Delivered) (b : ManagementFields) (e : ElementFields) → IsWhole x → reading_of x ≡ Managed b e → HasRaw e
judged-raw (delivered.Managed m f) b e whole is = subst HasRaw (same m f b e is) whole
  where
    same : (m : Management) (f : Elements) (b : ManagementFields) (e : ElementFields) → Managed (management_fields m) (element_fields f) ≡ Managed b e → element_fields f ≡ e
    same m f b e is = cc
judged-raw (delivered.NoFrame fault) b e whole is = absurd (cc is)
judged-raw delivered.PassedOver b e whole is = absurd (cc is)
judged-raw (delivered.NoElements m fault) b e whole is = absurd (cc is)
judged-raw (delivered.NoKeyFrame h fault) b e whole is = absurd (cc is)
judged-raw (delivered.NoMessage h) b e whole is = absurd (cc is)
judged-raw (delivered.Keyed k) b e whole is = absurd (cc is)
judged-raw (delivered.Sealed z) b e whole is = absurd (cc is)
judged-raw (delivered.Acting a) b e whole is = absurd (cc is)

keyed_is : (d : Domain) (sta p : ℕ) (octets : List ℕ) (r : Reading) (message : KeyMessage) (from : Node) → IsJudged d (Sta sta) r (judged.Keyed from message) → ReadsAt d octets r → from ≡ Ap p → IsMessageFrom d (Sta sta) (Ap p) octets (message_fields message)
keyed_is d sta p octets r message from j reads from_is = record {
  reads = subst (λ (x : Reading). ReadsAt d octets x) j.0 reads;
  from = subst (λ (x : Reading). sender d (Sta sta) x ≡ Some (Ap p)) j.0 (j.1 ∙ ap (λ (x : Node). Some x) from_is);
  verdict_is = λ first h. subst (λ (x : Reading). first_verdict d first (Sta sta) h x ≡ key_verdict d (first + draws h) (Sta sta) h (Ap p) (message_fields message) message.message) j.0
      (j.4 first h ∙ ap (λ (x : Node). key_verdict d (first + draws h) (Sta sta) h x (message_fields message) message.message) from_is);
}

pub judged-keyed : (d : Domain) (n : Node) (sta p : ℕ) (octets : List ℕ) (r : Reading) (message : KeyMessage) (from : Node) → IsJudged d n r (judged.Keyed from message) → ReadsAt d octets r → from ≡ Ap p → n ≡ Sta sta
    → IsMessageFrom d (Sta sta) (Ap p) octets (message_fields message)
judged-keyed d n sta p octets r message from j reads from_is same = keyed_is d sta p octets r message from (subst (λ (x : Node). IsJudged d x r (judged.Keyed from message)) same j) reads from_is

sealed_is : (d : Domain) (sta p : ℕ) (octets : List ℕ) (r : Reading) (frame : SealedData) (from : Node) → IsJudged d (Sta sta) r (judged.Sealed from frame) → ReadsAt d octets r → from ≡ Ap p → IsDataFrom d sta p octets (sealed_fields frame)
sealed_is d sta p octets r frame from j reads from_is = record {
  reads = reads_here d octets (sealed_reading (sealed_fields frame)) (λ is. cc is) (subst (λ (x : Reading). ReadsAt d octets x) j.0 reads);
  from = subst (λ (x : Reading). sender d (Sta sta) x ≡ Some (Ap p)) j.0 (j.1 ∙ ap (λ (x : Node). Some x) from_is);
  verdict_is = λ first h. subst (λ (x : Reading). first_verdict d first (Sta sta) h x ≡ data_verdict (Sta sta) h (Ap p) (header_of frame.header) frame.tid frame.body.now) j.0
      (j.4 first h ∙ ap (λ (x : Node). data_verdict (Sta sta) h x (header_of frame.header) frame.tid frame.body.now) from_is);
}

pub judged-sealed : (d : Domain) (n : Node) (sta p : ℕ) (octets : List ℕ) (r : Reading) (frame : SealedData) (from : Node) → IsJudged d n r (judged.Sealed from frame) → ReadsAt d octets r → from ≡ Ap p → n ≡ Sta sta
    → IsDataFrom d sta p octets (sealed_fields frame)
judged-sealed d n sta p octets r frame from j reads from_is same = sealed_is d sta p octets r frame from (subst (λ (x : Node). IsJudged d x r (judged.Sealed from frame)) same j) reads from_is

acting_is : (d : Domain) (sta p : ℕ) (octets : List ℕ) (r : Reading) (frame : Action) (from : Node) → IsJudged d (Sta sta) r (judged.Acting from frame) → ReadsAt d octets r → from ≡ Ap p → IsActionFrom d sta p octets (action_fields frame)
acting_is d sta p octets r frame from j reads from_is = record {
  reads = subst (λ (x : Reading). ReadsAt d octets x) j.0 reads;
  from = subst (λ (x : Reading). sender d (Sta sta) x ≡ Some (Ap p)) j.0 (j.1 ∙ ap (λ (x : Node). Some x) from_is);
  named = j.5 ∙ ap (λ (x : Node). Some x) from_is;
  verdict_is = λ first h. subst (λ (x : Reading). first_verdict d first (Sta sta) h x ≡ action_verdict h (Ap p) frame.body.now) j.0 (j.6 first h ∙ ap (λ (x : Node). action_verdict h x frame.body.now) from_is);
}

pub judged-acting : (d : Domain) (n : Node) (sta p : ℕ) (octets : List ℕ) (r : Reading) (frame : Action) (from : Node) → IsJudged d n r (judged.Acting from frame) → ReadsAt d octets r → from ≡ Ap p → n ≡ Sta sta
    → IsActionFrom d sta p octets (action_fields frame)
judged-acting d n sta p octets r frame from j reads from_is same = acting_is d sta p octets r frame from (subst (λ (x : Node). IsJudged d x r (judged.Acting from frame)) same j) reads from_is

-- the other node is listed
pub judged-listed : (d : Domain) (n : Node) (sta p : ℕ) (from : Node) → IsPeerOf d n from → from ≡ Ap p → n ≡ Sta sta → p < length d.aps
judged-listed d n sta p from peer from_is same = subst (λ (x : Node). IsPeerOf d (Sta sta) x) from_is (subst (λ (x : Node). IsPeerOf d x from) same peer)

pub judged-ap : (d : Domain) (n : Node) (sta : ℕ) (from : Node) → IsPeerOf d n from → n ≡ Sta sta → is_ap from ≡ true
judged-ap d n sta from peer same = peer-is_ap d sta from (subst (λ (x : Node). IsPeerOf d x from) same peer)

pub judged-settled : (d : Domain) (n : Node) (s : State) (octets : List ℕ) (r : Reading) (from : Option Node) (k : Kind) (outcome : Outcome) (waited waits : List Act) → IsJudged d n r (judged.Settled from outcome) → ReadsAt d octets r → k ≡ kind_of r → n ≡ Sta s.number
    → waits ≡ waited ++ Took from octets k outcome None ∷ [] → IsTaken d (Take octets) (turn s s waited waits) outcome
judged-settled d n s octets r from k outcome waited waits j reads kind_is same is =
    let here : IsJudged d (Sta s.number) r (judged.Settled from outcome) = subst (λ (x : Node). IsJudged d x r (judged.Settled from outcome)) same j in
    taken-settled d s octets r from outcome waited waits reads here.0 here.1 here.2 (is ∙ ap (λ (m : Kind). waited ++ Took from octets m outcome None ∷ []) kind_is)

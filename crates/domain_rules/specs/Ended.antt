-- What ends a session (profile).
use Rattle.std.specs.Prelude.{◌≡◌, ℕ, true, List, Option, Some}
use Rattle.domain_base.specs.declared.names.Node.{Node}
use Rattle.domain_base.specs.declared.names.Node.TheVariants.{Sta}
use Rattle.domain_base.specs.declared.names.Peer.TheVariants.{One}
use Rattle.key_hierarchy.specs.declared.inputs.Inputs.{Inputs}
use Rattle.key_hierarchy.specs.declared.inputs.Ptk.{Ptk}
use Rattle.eapol_key.specs.declared.messages.Message.TheVariants.{M3, M4, G1}
use Rattle.run_journal.specs.declared.domain.Domain.{Domain}
use Rattle.run_journal.specs.declared.acts.Kind.TheVariants.{Key, ReReq, ReResp}
use Rattle.run_journal.specs.declared.acts.Kind.{Kind}
use Rattle.run_journal.specs.declared.acts.Outcome.TheVariants.{Accepted}
use Rattle.run_journal.specs.declared.acts.Key.TheVariants.{Pairwise}
use Rattle.run_journal.specs.declared.acts.Seal.{Seal}
use Rattle.run_journal.specs.declared.acts.Act.{Act}
use Rattle.run_journal.specs.declared.acts.Act.TheVariants.{Derived, Took, Installed, GaveUp}
use Rattle.run_journal.specs.Premises.{In}
use Rattle.run_journal.specs.Questions.{attempt}
use Rattle.domain_rules.specs.Asking.{in_renewal}
use Rattle.domain_rules.specs.Rows.{NodeEvent, Take, Begin, Retry, Expire, Leave, Secret}
use Rattle.domain_rules.specs.ChangedKeys.{IsDropped}
use Rattle.domain_rules.specs.Verified.{IsVerified, IsVerifiedFte}

-- the key of the seal is the KCK of a PTK that the node had derived with p, and whose TK the event installs with p
pub record IsUnderDerived (h g : List Act) (p : Node) (seal : Seal) : Type 0 where
  pub inputs : Inputs
  pub ptk : Ptk
  pub derived : In (Derived p inputs ptk) h
  pub kck : seal.key ≡ ptk.kck
  pub installs : In (Installed (One p) (Pairwise ptk.tk inputs)) g

-- the event is octets that come and are accepted as the M4 of p, and their MIC verified, under such a key
pub record TakesM4 (d : Domain) (h : List Act) (event : NodeEvent) (g : List Act) (p : Node) : Type 0 where
  pub octets : List ℕ
  pub is : event ≡ Take octets
  pub seal : Seal
  pub accepted : In (Took (Some p) octets (Key M4) Accepted (Some seal)) g
  pub verified : IsVerified d.akm octets seal
  pub under : IsUnderDerived h g p seal

-- the event is octets that come and are accepted as the M3 of p in an attempt that renews the key of the session, and
-- their MIC verified, under such a key
pub record TakesM3 (d : Domain) (h : List Act) (event : NodeEvent) (g : List Act) (p : Node) : Type 0 where
  pub renewing : in_renewal (attempt p h) ≡ true
  pub octets : List ℕ
  pub is : event ≡ Take octets
  pub seal : Seal
  pub accepted : In (Took (Some p) octets (Key M3) Accepted (Some seal)) g
  pub verified : IsVerified d.akm octets seal
  pub under : IsUnderDerived h g p seal

-- the event is octets that come and are accepted as a frame of that kind, and the MIC in their FTE verified, under such a key
pub record TakesReassociation (h : List Act) (event : NodeEvent) (g : List Act) (p : Node) (k : Kind) : Type 0 where
  pub octets : List ℕ
  pub is : event ≡ Take octets
  pub seal : Seal
  pub accepted : In (Took (Some p) octets k Accepted (Some seal)) g
  pub verified : IsVerifiedFte octets seal
  pub under : IsUnderDerived h g p seal

-- the event may end the session with p: the node begins an attempt, takes an M4 of p, takes an M3 of p in an attempt that
-- renews the key, gives up at G1 to p, or is told to drop what it has with p, or all, or that the key of p is changed, or
-- its own. Or it takes a reassociation request of p, or a response to its own request to any access point
pub data EndsRightly (d : Domain) (n : Node) (h : List Act) (event : NodeEvent) (g : List Act) (p : Node) : Type 0 where
  By_begin : (a : ℕ) → event ≡ Begin a → EndsRightly d n h event g p
  By_m4 : TakesM4 d h event g p → EndsRightly d n h event g p
  By_m3 : TakesM3 d h event g p → EndsRightly d n h event g p
  By_retry : (s : ℕ) → event ≡ Retry s → p ≡ Sta s → In (GaveUp p G1) g → EndsRightly d n h event g p
  By_expire : (s : ℕ) → event ≡ Expire s → p ≡ Sta s → EndsRightly d n h event g p
  By_leave : event ≡ Leave → EndsRightly d n h event g p
  By_re_req : TakesReassociation h event g p ReReq → EndsRightly d n h event g p
  By_re_resp : (q : Node) → TakesReassociation h event g q ReResp → EndsRightly d n h event g p
  By_secret : (named : Option ℕ) (psk : List ℕ) → event ≡ Secret named psk → IsDropped d n named p → EndsRightly d n h event g p

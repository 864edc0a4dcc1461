-- What an announcement under an IGTK in use comes to, in parts.
use Rattle.std.proofs.Common.{◌≡◌, ◌∙◌, ◌++◌, ◌+◌, ◌≤◌, ℕ, suc, Bool, List, [], ◌∷◌, length, take, Some, Result, refl, sym, ap, ap₂, subst, append_assoc, arith}
use Rattle.std.specs.Prelude.{nat_lt, replicate, if◌then◌else◌, IfOk, OnOk}
use Rattle.std.proofs.lemmas.List.{take_at, take_all}
use Rattle.domain_base.specs.declared.names.Node.{Node}
use Rattle.domain_base.specs.declared.names.Peer.TheVariants.{All}
use Rattle.air_frame.specs.Sent.{management_header_octets}
use Rattle.bip_guard.specs.Bip.{bip_aad, mme_front, protected_body}
use Rattle.replay_window.specs.Numbers.{last_number}
use Rattle.run_journal.specs.declared.domain.Domain.{Domain}
use Rattle.run_journal.specs.declared.acts.Kind.TheVariants.{Action}
use Rattle.run_journal.specs.declared.acts.Why.TheVariants as why
use Rattle.run_journal.specs.declared.acts.Outcome.{Outcome}
use Rattle.run_journal.specs.declared.acts.Outcome.TheVariants as outcome
use Rattle.run_journal.specs.declared.acts.Seal.{Seal}
use Rattle.run_journal.specs.declared.acts.Act.{Act}
use Rattle.run_journal.specs.declared.acts.Act.TheVariants.{Idle, Used, Sent}
use Rattle.domain_rules.specs.Network.{address}
use Rattle.domain_rules.specs.PacketNumbers.{SendKey}
use Rattle.domain_rules.specs.DataFrames.{receiver}
use Rattle.domain_rules.specs.ManagementFrames.{action_header, announced, bip_input, sent_action, announced_acts}
use Rattle.act_memory.specs.Templates.{seal_over}
use Rattle.data_frames.specs.Announcing.{with_used, announced_once, announced_outcome}

-- the header: to all, from the access point, whose address is A3 too
pub header_as : (d : Domain) (n : Node) (to own header : List ℕ) → to ≡ receiver d All → own ≡ address d n → header ≡ management_header_octets 13 to own own → header ≡ action_header d n
header_as d n to own header t o is = is ∙ rw (t, o) refl

-- ---- what is covered, and what is sealed

pub covers : (old header front rest aad first second third fourth all : List ℕ) → aad ≡ bip_aad header → first ≡ old ++ 4 ∷ [] → second ≡ first ++ aad → third ≡ second ++ front → fourth ≡ third ++ rest → all ≡ fourth ++ replicate 8 0
    → all ≡ old ++ 4 ∷ bip_input header (front ++ rest)
covers old header front rest aad first second third fourth all a p q r s t = rw (t, s, r, q, p, a) (simp append_assoc)

-- as many zeros as the body has octets
pub room_long : (header content payload frame : List ℕ) → content ≡ announced payload → frame ≡ header ++ replicate (length payload + 19) 0 → frame ≡ header ++ replicate (length content + 18) 0
room_long header content payload frame c f =
    let long : length content ≡ suc (length payload) = ap (λ (l : List ℕ). length l) c in
    let same : length payload + 19 ≡ length content + 18 = omega (arith, long) in
    f ∙ ap (λ (n : ℕ). header ++ replicate n 0) same

-- the body behind its header
pub body_behind : (igtk header content front body zeros frame : List ℕ) (id ipn size : ℕ) → frame ≡ header ++ zeros → front ≡ take (length header) frame → take size body ≡ protected_body igtk header id ipn content → length body ≤ size
    → front ++ body ≡ header ++ protected_body igtk header id ipn content
body_behind igtk header content front body zeros frame id ipn size f g is low =
    ap₂ (λ (v w : List ℕ). v ++ w) (g ∙ ap (take (length header)) f ∙ take_at header zeros (length header) refl) (sym (take_all size body low) ∙ is)

pub sealed_as : (header igtk key content octets : List ℕ) (id key_id ipn number : ℕ) → igtk ≡ key → id ≡ key_id → ipn ≡ number → content ≡ octets → header ++ protected_body igtk header id ipn content ≡ header ++ protected_body key header key_id number octets
sealed_as header igtk key content octets id key_id ipn number k i n c = rw (k, i, n, c) refl

-- ---- the acts

pub sent_as : (igtk key frame octets covered : List ℕ) (seal : Seal) → igtk ≡ key → frame ≡ octets → seal ≡ seal_over covered igtk → Sent All Action frame (Some seal) ≡ Sent All Action octets (Some (seal_over covered key))
sent_as igtk key frame octets covered seal k f s = rw (s, k, f) refl

-- the acts of an announcement, with what was put into the room for them
pub announces : (d : Domain) (n : Node) (igtk : List ℕ) (id ipn : ℕ) (payload header content covered : List ℕ) (old mid new : List Act) → header ≡ action_header d n → content ≡ announced payload
    → covered ≡ 4 ∷ bip_input header (announced payload ++ mme_front id ipn) → mid ≡ old
    → new ≡ mid ++ Used All igtk id ipn content ∷ Sent All Action (header ++ protected_body igtk header id ipn content) (Some (seal_over covered igtk)) ∷ []
    → new ≡ old ++ Used All igtk id ipn (announced payload) ∷ sent_action d n igtk id ipn (announced payload) ∷ []
announces d n igtk id ipn payload header content covered old mid new h c s same is = is ∙ rw (same, c, s, h) refl

-- ---- the key

abbrev pub send_key : List ℕ → ℕ → ℕ → SendKey
send_key key id used = record { key = key; id = id; used = used }

pub key_as : (k : SendKey) (igtk : List ℕ) (id used : ℕ) → igtk ≡ k.key → id ≡ k.id → used ≡ suc k.used → send_key igtk id used ≡ with_used k
key_as k igtk id used a b c = rw (a, b, c) refl

-- by whether there is a number that was not used
pub acts_by : {E : Type 0} (r : Result Outcome E) (d : Domain) (n : Node) (content : List ℕ) (k : SendKey) (b : Bool) (old new : List Act) → nat_lt k.used last_number ≡ b
    → OnOk r (new ≡ old ++ (if b then Used All k.key k.id (suc k.used) content ∷ sent_action d n k.key k.id (suc k.used) content ∷ [] else Idle why.Spent ∷ []))
    → OnOk r (new ≡ old ++ announced_acts d n content k)
acts_by r d n content k b old new is x =
    subst (λ (c : Bool). OnOk r (new ≡ old ++ (if c then Used All k.key k.id (suc k.used) content ∷ sent_action d n k.key k.id (suc k.used) content ∷ [] else Idle why.Spent ∷ []))) (sym is) x

pub outcome_by : {E : Type 0} (r : Result Outcome E) (k : SendKey) (b : Bool) → nat_lt k.used last_number ≡ b → IfOk r (λ came. came ≡ (if b then outcome.Done else outcome.Idle why.Spent)) → IfOk r (λ came. came ≡ announced_outcome k)
outcome_by r k b is x = subst (λ (c : Bool). IfOk r (λ came. came ≡ (if c then outcome.Done else outcome.Idle why.Spent))) (sym is) x

pub used_by : {E : Type 0} (r : Result Outcome E) (k new : SendKey) (b : Bool) → nat_lt k.used last_number ≡ b → OnOk r (new ≡ (if b then with_used k else k)) → OnOk r (new ≡ announced_once k)
used_by r k new b is x = subst (λ (c : Bool). OnOk r (new ≡ (if c then with_used k else k))) (sym is) x

-- What the supplicant of a session stands for behind acts that tell nothing of its access point.
use Rattle.std.proofs.Common.{◌≡◌, ◌∙◌, ℕ, false, List, [], ◌∷◌, Option, Some, None, refl, ap}
use Rattle.std.specs.List.{AllByRecursion}
use Rattle.domain_base.specs.declared.names.Node.{Node}
use Rattle.eapol_key.specs.declared.messages.Message.TheVariants.{M3, G1}
use Rattle.key_hierarchy.specs.declared.inputs.Ptk.{Ptk}
use Rattle.run_journal.specs.declared.domain.Domain.{Domain}
use Rattle.run_journal.specs.declared.acts.Kind.TheVariants as kind
use Rattle.run_journal.specs.declared.acts.Act.{Act}
use Rattle.run_journal.specs.declared.reply.Keyed.{Keyed}
use Rattle.run_journal.specs.Acts.{opens, accepted, replied, finishes, closes}
use Rattle.run_journal.specs.Questions.{attempt, since, session, add}
use Rattle.domain_rules.specs.Asking.{has_four_way, is_roam}
use Rattle.domain_rules.proofs.Parts.{start_more, started_more, heard_more, session_more}
use Rattle.ccmp_guard.specs.Held.{Held}
use Rattle.data_frames.specs.Holding.{LeavesPairwise}
use Rattle.data_frames.proofs.Standing.{others}
use Rattle.supplicant.specs.declared.base.Base.{Base}
use Rattle.supplicant.specs.declared.attempt.Attempt.{Attempt as SupplicantAttempt}
use Rattle.supplicant.specs.declared.session.Session.{Session as SupplicantSession}
use Rattle.supplicant.specs.declared.session.Session.TheVariants.{Connect, Ft}
use Rattle.supplicant.specs.State.{State as Supplicant}
use Rattle.supplicant.specs.Stands.{SupplicantStands, IsHeld, IsTransferred, Holds, IsTrying, HasAttempt, HasSession}
use Rattle.supplicant.proofs.Standing.{based_on, kept_more, some_part}
use Rattle.station_node.specs.Stands.{IsKeyed}

-- an act that begins nothing with p, ends no session with it, and accepts nothing of a handshake with it
pub record IsMild (p : Node) (e : Act) : Type 0 where
  pub opens_none : opens p e ≡ false
  pub finishes_none : finishes p e ≡ false
  pub closes_none : closes p e ≡ false
  pub responds_none : accepted p kind.AssocResp e ≡ None
  pub third_none : replied p (kind.Key M3) e ≡ None
  pub group_none : replied p (kind.Key G1) e ≡ None

held_on : (d : Domain) (n p : Node) (b : Base) (y : Keyed) (counter : ℕ) (h : List Act) (e : Act) → IsMild p e → IsHeld d n p b y counter h → IsHeld d n p b y counter (e ∷ h)
held_on d n p b y counter h e q l = record {
  is = session_more p e h q.finishes_none q.closes_none ∙ l.is;
  begun = ap has_four_way (started_more p e h q.finishes_none q.closes_none) ∙ l.begun;
  based = rw (q.opens_none) (based_on d n p b (since p h) (e ∷ since p h) (heard_more p kind.AssocResp e (since p h) q.responds_none) l.based);
  keeps = kept_more p e h q.opens_none q.third_none q.group_none ∙ l.keeps;
}

transferred_on : (p : Node) (k : Ptk) (counter : Option ℕ) (h : List Act) (e : Act) → IsMild p e → IsTransferred p k counter h → IsTransferred p k counter (e ∷ h)
transferred_on p k counter h e q l = record {
  x = l.x;
  is = session_more p e h q.finishes_none q.closes_none ∙ l.is;
  key = l.key;
  begun = ap is_roam (started_more p e h q.finishes_none q.closes_none) ∙ l.begun;
  last = rw (q.opens_none) (ap is_roam (start_more e (since p h) (some_part (since p h) l.last)) ∙ l.last);
  keeps = rw (q.opens_none, q.third_none, q.group_none) l.keeps;
}

holds_on : (d : Domain) (n p : Node) (b : Base) (x : SupplicantSession) (h : List Act) (e : Act) → IsMild p e → Holds d n p b x h → Holds d n p b x (e ∷ h)
holds_on d n p b (Connect key counter) h e q l = held_on d n p b key counter h e q l
holds_on d n p b (Ft k counter) h e q l = transferred_on p k counter h e q l

pub session_on : (d : Domain) (n p : Node) (b : Base) (x : Option SupplicantSession) (h : List Act) (e : Act) → IsMild p e → HasSession d n p b x h → HasSession d n p b x (e ∷ h)
session_on d n p b None h e q none = session_more p e h q.finishes_none q.closes_none ∙ none
session_on d n p b (Some x) h e q l = holds_on d n p b x h e q l

-- of a supplicant without an attempt
trying_none : (d : Domain) (n p : Node) (b : Base) (x : Option SupplicantSession) (a : SupplicantAttempt) (h : List Act) → IsTrying d n p b x a h → attempt p h ≡ None → ⊥
trying_none d n p b None a h u none = cc (u.is, none)
trying_none d n p b (Some x) a h u none = cc (u.is, none)

attempt_none : (d : Domain) (n p : Node) (b : Base) (x : Option SupplicantSession) (a : Option SupplicantAttempt) (h l : List Act) → HasAttempt d n p b x a h → attempt p h ≡ None → attempt p l ≡ None → HasAttempt d n p b x a l
attempt_none d n p b x None h l st none behind = behind
attempt_none d n p b x (Some a) h l st none behind = absurd (trying_none d n p b x a h st none)

pub supplicant_on : (d : Domain) (n p : Node) (s : Supplicant) (g h : List Act) → AllByRecursion (IsMild p) g → attempt p h ≡ None → attempt p (add g h) ≡ None → SupplicantStands d n p s h → SupplicantStands d n p s (add g h)
supplicant_on d n p s g h mild none behind st = record {
  ends = st.ends;
  attempt_is = attempt_none d n p s.base s.session s.attempt h (add g h) st.attempt_is none behind;
  session_is = all_on d n p s.base s.session g h mild st.session_is;
}
  where
    all_on : (d : Domain) (n p : Node) (b : Base) (x : Option SupplicantSession) (g h : List Act) → AllByRecursion (IsMild p) g → HasSession d n p b x h → HasSession d n p b x (add g h)
    all_on d n p b x [] h all st = st
    all_on d n p b x (e ∷ g) h all st = all_on d n p b x g (e ∷ h) all.1 (session_on d n p b x h e all.0 st)

pub mild_session : (p : Node) (g h : List Act) → AllByRecursion (IsMild p) g → session p (add g h) ≡ session p h
mild_session p [] h all = refl
mild_session p (e ∷ g) h all = mild_session p g (e ∷ h) all.1 ∙ session_more p e h all.0.finishes_none all.0.closes_none

-- and the key in use
pub keyed_on : (p : Node) (k : Held) (g h : List Act) → AllByRecursion (IsMild p) g → ((tk : List ℕ) → AllByRecursion (LeavesPairwise p tk) g) → IsKeyed p k h → IsKeyed p k (add g h)
keyed_on p k g h mild leaves st = record {
  key = st.key;
  is = mild_session p g h mild ∙ st.is;
  holds = others p st.key.ptk.tk k g h st.holds (leaves st.key.ptk.tk);
}

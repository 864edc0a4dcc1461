-- What the messages of the four-way handshake and of the group key handshake do to an attempt and to a session (IEEE
-- Std 802.11-2020, 12.7.6.2, 12.7.6.4, 12.7.7.2).
use Rattle.std.specs.Prelude.{◌≡◌, ℕ, Bool, false, cond, List, [], ◌∷◌, Option, Some, None, Ok, Err, bytes_eq}
use Rattle.domain_base.specs.declared.names.Node.{Node}
use Rattle.eapol_key.specs.declared.frame.KeyFrame.{KeyFrame}
use Rattle.eapol_key.specs.Fields.{fields_of}
use Rattle.run_journal.specs.declared.domain.Domain.{Domain}
use Rattle.run_journal.specs.declared.acts.Reason.{Reason}
use Rattle.run_journal.specs.declared.acts.Reason.TheVariants.{Unawaited}
use Rattle.run_journal.specs.declared.reply.Reply.{Reply}
use Rattle.run_journal.specs.declared.reply.Keyed.{Keyed}
use Rattle.run_journal.specs.Acts.{Derivation}
use Rattle.run_journal.specs.Replies.{IsEmpty}
use Rattle.domain_rules.specs.Frames.{sent_m2_by, sent_m4, sent_g2}
use Rattle.group_key.specs.Keys.{Memories}
use Rattle.node_base.specs.declared.ends.Ends.{Ends}
use Rattle.node_base.specs.Ends.{AreEnds}
use Rattle.node_base.specs.PairwiseKeys.{key_with}
use Rattle.frame_making.specs.KeyData.{IsMobility}
use Rattle.supplicant.specs.declared.attempt.Attempt.{Attempt}
use Rattle.supplicant.specs.declared.session.Session.{Session}
use Rattle.supplicant.specs.declared.session.Session.TheVariants.{Connect, Ft}
use Rattle.supplicant.specs.declared.base.Base.{Base}
use Rattle.supplicant.specs.Bases.{fte_in, RenewsWhere}
use Rattle.supplicant.specs.Held.{ptk_of, kept_of, counted}
use Rattle.supplicant.specs.declared.key_data.CarriedKeys.{CarriedKeys}
use Rattle.supplicant.specs.KeyData.{packet_number_of, came, all_given}
use Rattle.supplicant.specs.M3.{under, IsVerified, IsM3}
use Rattle.supplicant.specs.G1.{under_g1, IsVerifiedG1, IsG1}
use Rattle.supplicant.specs.Told.{Tells, IsSilent, derives, repeats, installs, renews}

-- that key was derived from that ANonce (12.7.6.4)
abbrev pub is_under : List ℕ → Option Keyed → Bool
is_under nonce None = false
is_under nonce (Some y) = bytes_eq nonce y.anonce

-- the attempt under whose key an M3 with that ANonce is judged, beside a session only where the key was derived from
-- it; else it is judged under the key of the session (12.7.6.4, profile)
abbrev pub trying : List ℕ → Attempt → Option Session → Option Attempt
trying nonce a None = Some a
trying nonce a (Some x) = cond (is_under nonce a.key) (Some a) None

abbrev pub tried_by : List ℕ → Option Attempt → Option Session → Option Attempt
tried_by nonce None x = None
tried_by nonce (Some a) x = trying nonce a x

-- M1 in an attempt: its key is derived, and M2 answers, with Secure set or not (12.7.6.2, profile)
pub record Answers (l : Ends) (b : Base) (f : KeyFrame) (secure : Bool) (old new : Attempt) (r : Reply) : Type 0 where
  pub key : Keyed
  pub key_is : key ≡ key_with l b.pmk f.nonce old.snonce
  pub is : new ≡ record { snonce = old.snonce; key = Some key }
  pub tells : (d : Domain) (n p : Node) (x : Derivation) → AreEnds d n p l → key.ptk ≡ x.ptk
      → x.inputs.snonce ≡ key.snonce → IsMobility d x.inputs (fte_in b) b.mobility → RenewsWhere secure d
      → Tells p r (derives key (sent_m2_by secure d n p x f.counter (fte_in b) ∷ []))

-- M3 made an attempt that session, where that counter was kept: its group keys are given to the memory, all keys are
-- installed, and M4 answers (12.7.6.4)
pub record Finishes (l : Ends) (b : Base) (f : KeyFrame) (kept : Option ℕ) (had has : Memories) (x : Session) (r : Reply) : Type 0 where
  pub key : Keyed
  pub is : x ≡ Connect key f.counter
  pub group : CarriedKeys
  pub verified : IsVerified (under l.mfp b key kept) (fields_of f) f.octets.now (Ok group)
  pub memory : has ≡ all_given group (packet_number_of f.rsc) had
  pub tells : (d : Domain) (n p : Node) (z : Derivation) → AreEnds d n p l → key.ptk ≡ z.ptk
      → Tells p r
      (installs key (came group (packet_number_of f.rsc) had) (sent_m4 d n p z f.counter ∷ []))

-- M3 again in a session of a four-way handshake: M4 answers (12.7.6.4)
pub record Repeats (l : Ends) (b : Base) (f : KeyFrame) (old new : Session) (r : Reply) : Type 0 where
  pub key : Keyed
  pub was : ℕ
  pub is_old : old ≡ Connect key was
  pub group : CarriedKeys
  pub verified : IsVerified (under l.mfp b key (Some was)) (fields_of f) f.octets.now (Ok group)
  pub is : new ≡ Connect key f.counter
  pub tells : (d : Domain) (n p : Node) (z : Derivation) → AreEnds d n p l → key.ptk ≡ z.ptk
      → Tells p r (repeats key (sent_m4 d n p z f.counter ∷ []))

-- M3 was refused, under that key with the counter that is kept, or as there is no key; nothing answers (12.7.6.2,
-- 12.7.6.4)
abbrev pub IsRefusal : Ends → Base → Option Keyed → Option ℕ → KeyFrame → Reason → Reply → Type 0
IsRefusal l b None kept f why r = (why ≡ Unawaited) × IsEmpty r
IsRefusal l b (Some y) kept f why r =
    IsM3 (under l.mfp b y kept) (fields_of f) f.octets.now (Err why) r.verified × IsSilent r

-- in a session of a fast transition it is not awaited
abbrev pub IsRepeatRefusal : Ends → Base → Session → KeyFrame → Reason → Reply → Type 0
IsRepeatRefusal l b (Connect key counter) f why r = IsRefusal l b (Some key) (Some counter) f why r
IsRepeatRefusal l b (Ft ptk counter) f why r = (why ≡ Unawaited) × IsEmpty r

-- G1 in a session: its group keys are given to the memory, and G2 answers (12.7.7.2)
pub record Renews (l : Ends) (f : KeyFrame) (had has : Memories) (old new : Session) (r : Reply) : Type 0 where
  pub group : CarriedKeys
  pub verified : IsVerifiedG1 (under_g1 l.mfp l.akm (ptk_of old) (kept_of old)) (fields_of f) f.octets.now (Ok group)
  pub is : new ≡ counted f.counter old
  pub memory : has ≡ all_given group (packet_number_of f.rsc) had
  pub tells : (d : Domain) (n p : Node) (z : Derivation) → AreEnds d n p l → ptk_of old ≡ z.ptk
      → Tells p r (renews (ptk_of old) (came group (packet_number_of f.rsc) had) (sent_g2 d n p z f.counter ∷ []))

-- G1 was refused under its key with the counter that is kept; nothing answers (12.7.7.2)
abbrev pub IsG1Refusal : Ends → Session → KeyFrame → Reason → Reply → Type 0
IsG1Refusal l x f why r =
    IsG1 (under_g1 l.mfp l.akm (ptk_of x) (kept_of x)) (fields_of f) f.octets.now (Err why) r.verified × IsSilent r

-- The group key handshake in a session. Group keys are told apart by their place in the order of drawing. The order of
-- the checks, and how often G1 is sent, are this project's choice (IEEE Std 802.11-2020, 12.7.7, profile).
use Rattle.std.specs.Prelude.{◌≡◌, ◌<◌, ◌^◌, ◌==◌, ◌&&◌, ℕ, suc, Bool, true, false, cond, not, nat_lt, [], ◌∷◌, Option, Some, None, unwrap_or}
use Rattle.std.specs.List.{list_any}
use Rattle.domain_base.specs.declared.names.Akm.{Akm}
use Rattle.domain_base.specs.declared.names.Node.{Node}
use Rattle.air_frame.specs.Sent.{IsAddress}
use Rattle.mac_prf.specs.Mic.{mic}
use Rattle.eapol_key.specs.KeyFrame.{KeyFields}
use Rattle.run_journal.specs.declared.domain.Domain.{Domain}
use Rattle.run_journal.specs.declared.acts.Reason.{Reason}
use Rattle.run_journal.specs.declared.acts.Reason.TheVariants as reason
use Rattle.key_hierarchy.specs.declared.inputs.Ptk.{Ptk}
use Rattle.run_journal.specs.declared.reply.Reply.{Reply}
use Rattle.run_journal.specs.Acts.{Derivation}
use Rattle.domain_rules.specs.Asking.{greatest}
use Rattle.domain_rules.specs.Frames.{sent_g1}
use Rattle.domain_rules.specs.Replies.{sent_acts}
use Rattle.group_key.specs.declared.news.News.{News}
use Rattle.group_key.specs.News.{carried_news}
use Rattle.node_base.specs.declared.ends.Ends.{Ends}
use Rattle.node_base.specs.Ends.{AreEnds}
use Rattle.authenticator.specs.Counters.{listed, added, count}
use Rattle.authenticator.specs.Judged.{Frame}
use Rattle.authenticator.specs.declared.counters.Offers.{Offers}
use Rattle.authenticator.specs.declared.counters.Offers.TheVariants.{Zero}
use Rattle.authenticator.specs.declared.session.Session.{Session}

-- ---- the handshake for the group key of that place

-- the replay counters of the G1 that were sent for it in the session
abbrev pub offers_for : ℕ → Session → Offers
offers_for place s = cond (s.place == place) s.g1s Zero

-- how many there are
abbrev pub sent_for : ℕ → Session → ℕ
sent_for place s = count (offers_for place s)

-- a G2 was accepted for it
abbrev pub is_answered_for : ℕ → Session → Bool
is_answered_for place s = cond (s.place == place) s.is_answered false

-- the session owes a G2 for it
abbrev pub owes : ℕ → Session → Bool
owes place s = nat_lt 0 (sent_for place s) && not (is_answered_for place s)

-- a session owes a G2, where there is a session
abbrev pub owes_in : ℕ → Option Session → Bool
owes_in place None = false
owes_in place (Some s) = owes place s

-- ---- how the session begins and goes on

-- as a fast transition installs it: nothing was sent in it (profile)
abbrev pub transferred : Ptk → Session
transferred ptk = record { ptk = ptk; association = None; last = 0; place = 0; g1s = Zero; is_answered = false }

-- one more G1 was sent for it
abbrev pub asked : ℕ → Session → Session
asked place s = record {
  ptk = s.ptk;
  association = s.association;
  last = suc s.last;
  place = place;
  g1s = added (suc s.last) (offers_for place s);
  is_answered = is_answered_for place s;
}

-- the session as G2 is accepted
abbrev pub replied_to : Session → Session
replied_to s = record s { is_answered = true }

-- ---- G1

-- the reply sends G1 between the ends, under that key (12.7.7.2)
abbrev pub SendsG1 : Ends → Ptk → ℕ → News → Reply → Type 0
SendsG1 l y counter g r =
    (d : Domain) (n p : Node) (x : Derivation) → AreEnds d n p l → y ≡ x.ptk
    → sent_acts p r ≡ sent_g1 d n p x counter (carried_news g) ∷ []

-- it sends one with the next replay counter, and the session is t then (12.7.7.2, 12.7.7.3)
pub record Asks (l : Ends) (g : News) (s t : Session) (r : Reply) : Type 0 where
  pub low : suc s.last < 2 ^ 64
  pub sends : SendsG1 l s.ptk (suc s.last) g r
  pub own : IsAddress l.own.0
  pub peer : IsAddress l.peer.0
  pub now : t ≡ asked g.gtk.place s

-- ---- G2

-- it is owed, and its counter is one of those of the G1 (12.7.7.3, profile)
pub record IsOffered (place : ℕ) (s : Session) (f : KeyFields) : Type 0 where
  pub owed : owes place s ≡ true
  pub offer : list_any (λ c. c == f.counter) (listed (offers_for place s)) ≡ true

-- one is owed, but the counter is none of those of the G1 (12.7.7.3, profile)
pub record IsUnoffered (place : ℕ) (s : Session) (f : KeyFields) (last : ℕ) : Type 0 where
  pub owed : owes place s ≡ true
  pub offer : list_any (λ c. c == f.counter) (listed (offers_for place s)) ≡ false
  pub is : last ≡ unwrap_or (greatest (listed (offers_for place s))) 0

-- the MIC of a G2 does not verify (12.7.7.3, profile)
pub record IsForgedG2 (akm : Akm) (place : ℕ) (s : Session) (f : Frame) : Type 0 where
  pub offered : IsOffered place s f.fields
  pub other : f.fields.mic ≡ mic akm s.ptk.kck f.octets → ⊥

-- a G2 is accepted: one is owed, its counter is one of those of the G1 for that group key, and its MIC verifies
-- (12.7.7.3, profile)
pub record IsG2 (akm : Akm) (place : ℕ) (s : Session) (f : Frame) : Type 0 where
  pub offered : IsOffered place s f.fields
  pub mic_is : f.fields.mic ≡ mic akm s.ptk.kck f.octets

-- why a G2 is refused (12.7.7.3, profile)
abbrev pub IsRefusedG2 : Akm → ℕ → Session → Frame → Reason → Type 0
IsRefusedG2 akm place s f reason.Unawaited = owes place s ≡ false
IsRefusedG2 akm place s f (reason.Counter last) = IsUnoffered place s f.fields last
IsRefusedG2 akm place s f reason.Mic = IsForgedG2 akm place s f
IsRefusedG2 akm place s f _ = ⊥

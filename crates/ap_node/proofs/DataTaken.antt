-- Protected data that a station sent, beside what its part of the handshakes stands for: that is not changed.
use Rattle.std.proofs.Common.{◌≡◌, ◌∙◌, ℕ, false, List, ◌∷◌, map, Option, Some, None, refl, ap}
use Rattle.std.specs.Prelude.{is_some}
use Rattle.domain_base.specs.declared.names.Node.{Node}
use Rattle.eapol_key.specs.declared.messages.Message.TheVariants.{M1, M2, M3, G2}
use Rattle.run_journal.specs.declared.domain.Domain.{Domain}
use Rattle.run_journal.specs.declared.acts.Kind.{Kind}
use Rattle.run_journal.specs.declared.acts.Kind.TheVariants as kind
use Rattle.run_journal.specs.declared.acts.Outcome.TheVariants.{Accepted}
use Rattle.run_journal.specs.declared.acts.Seal.{Seal}
use Rattle.run_journal.specs.declared.acts.Act.{Act}
use Rattle.run_journal.specs.declared.acts.Act.TheVariants.{Took, HandedUp}
use Rattle.run_journal.specs.Acts.{same_kind, accepted}
use Rattle.run_journal.specs.Questions.{attempt, before_sent}
use Rattle.domain_rules.specs.Asking.{replay_counter}
use Rattle.authenticator.specs.Bases.{own_pair}
use Rattle.domain_rules.proofs.Parts.{IsApart, same-refl, attempt_more, attempt_some, start_more, own_nonce_more, heard_more, sent_more, derivation_more, request_more}
use Rattle.authenticator.specs.State.{State as Part}
use Rattle.authenticator.specs.Stands.{IsUnderWay, HasAttempt, AuthenticatorStands}
use Rattle.authenticator.specs.declared.attempt.Attempt.{Attempt}
use Rattle.authenticator.proofs.Handshaking.{counts_on}
use Rattle.authenticator.proofs.Asking.{no_connect_more}
use Rattle.authenticator.proofs.Standing.{agreed_on, begun_as, association_as, session_on, stands_more, or_none}

-- a frame of data is none of another kind
not_data : (p : Node) (k : Kind) (octets : List ℕ) (s : Option Seal) → same_kind k kind.Data ≡ false → accepted p k (Took (Some p) octets kind.Data Accepted s) ≡ None
not_data p k octets s other = rw (same-refl p, other) refl

pub apart-handed_up : (p q : Node) (key : List ℕ) (id tid number : ℕ) (plain : List ℕ) → IsApart p (HandedUp q key id tid number plain)
apart-handed_up p q key id tid number plain = record { opens_none = refl; ends_none = refl; accepts_none = λ k. refl; replies_none = λ k. refl; sends_none = λ m. refl; derives_none = refl; finishes_none = refl; closes_none = refl }

module _ (d : Domain) (n p : Node) (octets : List ℕ) (s : Option Seal) where
  abbrev took : Act
  took = Took (Some p) octets kind.Data Accepted s

  under_way_behind : (a : Attempt) (h : List Act) → IsUnderWay d n p a h → IsUnderWay d n p a (took ∷ h)
  under_way_behind a h at = record {
    part = took ∷ at.part;
    is = attempt_more p took h at.part refl refl at.is;
    begun = begun_as a.renews at.part (took ∷ at.part) (start_more took at.part (attempt_some p h at.part at.is)) at.begun;
    beside = at.beside;
    nonce = own_nonce_more took at.part a.anonce at.nonce;
    m1_offers = ap (map replay_counter) (sent_more p (kind.Key M1) took at.part refl) ∙ at.m1_offers;
    m3_offers = ap (map replay_counter) (sent_more p (kind.Key M3) took at.part refl) ∙ at.m3_offers;
    answered = ap (λ (o : Option (List ℕ)). is_some o) (heard_more p (kind.Key M2) took at.part (not_data p (kind.Key M2) octets s refl)) ∙ at.answered;
    agreed = agreed_on (own_pair d n p) a.agreed a.m3s at.part (took ∷ at.part) h (took ∷ h) (derivation_more p took at.part refl) (or_none (before_sent p (kind.Key M3) h)) at.agreed;
    associated = association_as d n p a.association _ _ (request_more p took h refl refl refl) at.associated;
  }

  attempt_behind : (o : Option Attempt) (h : List Act) → HasAttempt d n p o h → HasAttempt d n p o (took ∷ h)
  attempt_behind None h at = no_connect_more p took h (attempt p h) refl refl refl at
  attempt_behind (Some a) h at = under_way_behind a h at

  pub stands_behind : (x : Part) (h : List Act) → AuthenticatorStands d n p x h → AuthenticatorStands d n p x (took ∷ h)
  stands_behind x h at = record {
    ends = at.ends;
    attempt_is = attempt_behind x.attempt h at.attempt_is;
    session_is = session_on d n p x.session h (took ∷ h) refl refl (λ t counts. counts_on p t took h refl refl refl refl (not_data p (kind.Key G2) octets s refl) refl counts) at.session_is;
  }

  -- and with the payload handed up
  pub stands_handed_up : (x : Part) (key : List ℕ) (id tid number : ℕ) (plain : List ℕ) (h : List Act) → AuthenticatorStands d n p x h → AuthenticatorStands d n p x (HandedUp p key id tid number plain ∷ took ∷ h)
  stands_handed_up x key id tid number plain h at = stands_more d n p x (HandedUp p key id tid number plain) (took ∷ h) (apart-handed_up p p key id tid number plain) (stands_behind x h at)

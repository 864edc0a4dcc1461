-- How an attempt begins.
use Rattle.std.proofs.Common.{◌≡◌, ℕ, false, List, [], ◌∷◌, Option, Some, None, refl, sym, ap, subst, ◌∙◌, arith}
use Rattle.domain_base.specs.declared.names.Node.{Node}
use Rattle.air_frame.specs.Sent.{IsAddress}
use Rattle.eapol_key.specs.declared.messages.Message.TheVariants.{M1}
use Rattle.eapol_key.specs.Sent.{sent_fields}
use Rattle.run_journal.specs.declared.domain.Domain.{Domain}
use Rattle.run_journal.specs.declared.acts.Act.{Act}
use Rattle.domain_rules.specs.Network.{address}
use Rattle.domain_rules.specs.Frames.{sent_m1}
use Rattle.domain_rules.specs.Asking.{start_of, in_renewal}
use Rattle.domain_rules.proofs.Parts.{same-refl, attempt_more, attempt_some, start_more, own_nonce_more, request_more}
use Rattle.domain_rules.proofs.Starts.{connect_no_renewal}
use Rattle.node_base.specs.declared.ends.Ends.{Ends}
use Rattle.node_base.specs.Ends.{AreEnds}
use Rattle.key_hierarchy.specs.declared.inputs.Ptk.{Ptk}
use Rattle.authenticator.specs.declared.base.Base.{Base}
use Rattle.authenticator.specs.Bases.{IsBaseOf}
use Rattle.authenticator.specs.Begins.{IsTransferred}
use Rattle.authenticator.specs.Groups.{transferred}
use Rattle.authenticator.specs.Associated.{Associated}
use Rattle.authenticator.specs.Stands.{IsUnderWay, IsHeld, HasSession, AuthenticatorStands}
use Rattle.authenticator.specs.Steps.{IsBegun}
use Rattle.authenticator.specs.Judged.{begun}
use Rattle.authenticator.specs.declared.attempt.Attempt.{Attempt}
use Rattle.authenticator.specs.declared.session.Session.{Session}
use Rattle.authenticator.proofs.Addresses.{own_address, peer_address}
use Rattle.authenticator.proofs.Counting.{replay_plain}
use Rattle.authenticator.proofs.Handshaking.{one_m1, counts_plain, counts_transferred}
use Rattle.authenticator.proofs.Standing.{begun_as, session_on, no_connect}
use Rattle.authenticator.proofs.Agreeing.{cons_is}

abbrev pub association_of : Base → List ℕ → Associated
association_of base rsne = record { base = base; rsne = rsne }

is_begun : (d : Domain) (n p : Node) (base : Base) (anonce rsne : List ℕ) (h : List Act) → IsBaseOf d n p base → IsAddress (address d n) → IsAddress (address d p) → IsBegun d p anonce rsne h → IsUnderWay d n p (begun (association_of base rsne) false 1 anonce) (sent_m1 d n p 1 anonce ∷ h)
is_begun d n p base anonce rsne h base_is l m b =
    let m1 = sent_m1 d n p 1 anonce in
    record {
      part = m1 ∷ b.part;
      is = attempt_more p m1 h b.part refl refl b.is;
      begun = begun_as false b.part (m1 ∷ b.part) (start_more m1 b.part (attempt_some p h b.part b.is)) b.begun;
      beside = tt;
      nonce = own_nonce_more m1 b.part anonce b.nonce;
      m1_offers = rw (same-refl p) (cons_is (replay_plain d n p (sent_fields M1 d.akm 1 anonce 0 []) l m (omega arith)) b.no_m1);
      m3_offers = rw (same-refl p) b.no_m3;
      answered = b.no_m2;
      agreed = (refl, rw (same-refl p, b.no_first) refl);
      associated = record { request = b.request; heard_last = request_more p m1 h refl refl refl ∙ b.heard_last; rsne = b.has_rsne; base = base_is };
    }

-- beside that session
pub begins : (d : Domain) (n p : Node) (l : Ends) (b : Base) (anonce rsne : List ℕ) (a : Attempt) (o : Option Session) → AreEnds d n p l → IsBaseOf d n p b → IsAddress l.own.0 × IsAddress l.peer.0 → a ≡ begun (association_of b rsne) false 1 anonce → (h : List Act) → IsBegun d p anonce rsne h → HasSession d n p o h
    → AuthenticatorStands d n p (record { ends = l; attempt = Some a; session = o }) (sent_m1 d n p 1 anonce ∷ h)
begins d n p l b anonce rsne a o ends base addresses is h at has = record {
  ends = ends;
  attempt_is = subst (λ (x : Attempt). IsUnderWay d n p x (sent_m1 d n p 1 anonce ∷ h)) (sym is) (is_begun d n p b anonce rsne h base (own_address d n p l ends addresses.0) (peer_address d n p l ends addresses.1) at);
  session_is = session_on d n p o h (sent_m1 d n p 1 anonce ∷ h) refl refl
      (λ s counts. counts_plain p s (sent_m1 d n p 1 anonce) h (one_m1 p _ _) (ap in_renewal at.is ∙ connect_no_renewal (start_of at.part) at.begun) counts) has;
}

-- by fast transition
pub transfers : (d : Domain) (n p : Node) (l : Ends) (q : Ptk) (s : Session) → AreEnds d n p l → s ≡ transferred q → (h : List Act) → IsTransferred p q h
    → AuthenticatorStands d n p (record { ends = l; attempt = None; session = Some s }) h
transfers d n p l q s ends is h at = record {
  ends = ends;
  attempt_is = no_connect p h at.none;
  session_is = subst (λ (x : Session). IsHeld d n p x h) (sym is)
      (record { x = at.x; is = at.is; key = at.key; counts = record { place = at.newest.place; here = counts_transferred p q at.newest h at.last at.next at.quiet at.none }; associated = tt });
}

-- A station begins an attempt at a fast transition.
use Rattle.std.proofs.Common.{◌≡◌, ◌∙◌, ℕ, Bool, List, ◌∷◌, None, refl, sym, ap, subst}
use Rattle.domain_base.specs.declared.names.Akm.TheVariants.{FtPsk}
use Rattle.domain_base.specs.declared.names.Mac.{Mac}
use Rattle.key_hierarchy.specs.declared.fast_transition.PmkR0.{PmkR0}
use Rattle.domain_base.specs.declared.names.Node.TheVariants.{Ap, Sta}
use Rattle.key_hierarchy.specs.FastTransition.{pmk_r0}
use Rattle.run_journal.specs.declared.domain.Domain.{Domain}
use Rattle.run_journal.specs.Events.{protects}
use Rattle.run_journal.specs.declared.acts.Kind.TheVariants as kind
use Rattle.run_journal.specs.declared.acts.Act.{Act}
use Rattle.run_journal.specs.declared.reply.Reply.{Reply}
use Rattle.run_journal.specs.Replies.{IsEmpty}
use Rattle.domain_rules.specs.Network.{mac, psk_of, root_at}
use Rattle.domain_rules.specs.TransitionFrames.{sent_ft_req}
use Rattle.domain_rules.specs.Asking.{is_roam}
use Rattle.domain_rules.proofs.Parts.{attempt_more, attempt_some, start_more, own_nonce_more}
use Rattle.ft_exchange.specs.Sent.{HasFrame, Sends}
use Rattle.ft_exchange.specs.State.{OriginatorState}
use Rattle.ft_exchange.specs.Stands.{OriginatorStands}
use Rattle.ft_exchange.specs.Exchange.{asking_octets}
use Rattle.ft_exchange.specs.OriginatorSteps.{IsRoaming, IsBegun}
use Rattle.ft_exchange.specs.declared.originator.Stage.TheVariants as stage
use Rattle.ft_exchange.proofs.StationFrames.{IsOf, asking_is}

-- how an originator begins
abbrev pub begun_state : Domain → ℕ → ℕ → ℕ → List ℕ → List ℕ → OriginatorState
begun_state d sta a q id snonce = record {
  own = mac d (Sta sta);
  peer = mac d (Ap a);
  current = mac d (Ap q);
  ssid = d.ssid;
  mfp = protects d;
  mdid = d.mdid;
  r0kh_id = id;
  r0 = pmk_r0 (psk_of d (Sta sta)) d.ssid d.mdid id (mac d (Sta sta));
  snonce = snonce;
  stage = stage.Asked;
}

is_of : (d : Domain) (sta a q : ℕ) (id snonce : List ℕ) → d.akm ≡ FtPsk → IsOf d (Sta sta) (Ap a) (begun_state d sta a q id snonce)
is_of d sta a q id snonce suite = record { suite = suite; mfp_is = refl; own = refl; peer = refl; ssid = refl; mdid = refl; r0 = refl }

begun_stands : (d : Domain) (sta a q : ℕ) (id snonce : List ℕ) (h : List Act) → d.akm ≡ FtPsk → IsRoaming (Ap a) (Ap q) id snonce h
    → OriginatorStands d (Sta sta) (Ap a) (begun_state d sta a q id snonce) (sent_ft_req d (Sta sta) (Ap a) (root_at d (Sta sta) id) snonce ∷ h)
begun_stands d sta a q id snonce h suite u =
    let says : Act = sent_ft_req d (Sta sta) (Ap a) (root_at d (Sta sta) id) snonce in
    record {
      suite = suite;
      mfp_is = refl;
      own = refl;
      peer = refl;
      ssid = refl;
      mdid = refl;
      r0kh_id = u.r0kh_id;
      r0 = refl;
      stage_is = record {
        q = Ap q;
        from = u.from;
        current = refl;
        part = says ∷ u.part;
        is = attempt_more (Ap a) says h u.part refl refl u.is;
        begun = ap is_roam (start_more says u.part (attempt_some (Ap a) h u.part u.is)) ∙ u.begun;
        nonce = own_nonce_more says u.part snonce u.nonce;
        hears = u.hears;
        keyed = tt;
      };
    }

-- it begins so, part by part
abbrev pub state_by : Mac → Mac → Mac → List ℕ → Bool → List ℕ → List ℕ → PmkR0 → List ℕ → OriginatorState
state_by own peer current ssid mfp mdid id r0 snonce = record {
  own = own;
  peer = peer;
  current = current;
  ssid = ssid;
  mfp = mfp;
  mdid = mdid;
  r0kh_id = id;
  r0 = r0;
  snonce = snonce;
  stage = stage.Asked;
}

pub state_is : (d : Domain) (sta a q : ℕ) (id snonce : List ℕ) (own peer current : Mac) (slice ssid r0kh_id : List ℕ) (r0 : PmkR0) → own ≡ mac d (Sta sta) → peer ≡ mac d (Ap a) → current ≡ mac d (Ap q) → slice ≡ d.ssid → ssid ≡ slice → r0kh_id ≡ id
    → r0 ≡ pmk_r0 (psk_of d (Sta sta)) slice d.mdid id own → state_by own peer current ssid (protects d) d.mdid r0kh_id r0 snonce ≡ begun_state d sta a q id snonce
state_is d sta a q id snonce own peer current slice ssid r0kh_id r0 own_is peer_is current_is slice_is ssid_is id_is r0_is =
    ap (λ (m : Mac). state_by m peer current ssid (protects d) d.mdid r0kh_id r0 snonce) own_is
    ∙ ap (λ (m : Mac). state_by (mac d (Sta sta)) m current ssid (protects d) d.mdid r0kh_id r0 snonce) peer_is
    ∙ ap (λ (m : Mac). state_by (mac d (Sta sta)) (mac d (Ap a)) m ssid (protects d) d.mdid r0kh_id r0 snonce) current_is
    ∙ ap (λ (w : List ℕ). state_by (mac d (Sta sta)) (mac d (Ap a)) (mac d (Ap q)) w (protects d) d.mdid r0kh_id r0 snonce) (ssid_is ∙ slice_is)
    ∙ ap (λ (w : List ℕ). state_by (mac d (Sta sta)) (mac d (Ap a)) (mac d (Ap q)) d.ssid (protects d) d.mdid w r0 snonce) id_is
    ∙ ap (λ (k : PmkR0). state_by (mac d (Sta sta)) (mac d (Ap a)) (mac d (Ap q)) d.ssid (protects d) d.mdid id k snonce)
    (r0_is ∙ ap (λ (w : List ℕ). pmk_r0 (psk_of d (Sta sta)) w d.mdid id own) slice_is ∙ ap (λ (m : Mac). pmk_r0 (psk_of d (Sta sta)) d.ssid d.mdid id m) own_is)

pub begins : (d : Domain) (sta a q : ℕ) (id snonce : List ℕ) (s : OriginatorState) (old r : Reply) → d.akm ≡ FtPsk → s ≡ begun_state d sta a q id snonce → IsEmpty old → Sends (asking_octets s) kind.FtReq None old r
    → IsBegun d (Sta sta) (Ap a) (Ap q) id snonce s r
begins d sta a q id snonce s old r suite is empty sends = subst (λ (x : OriginatorState). IsBegun d (Sta sta) (Ap a) (Ap q) id snonce x r) (sym is) (record {
  sends = asking_is d sta a (begun_state d sta a q id snonce) r (is_of d sta a q id snonce suite) (subst (λ (x : OriginatorState). HasFrame (asking_octets x) kind.FtReq None r) is sends.frame);
  stands = λ h u. begun_stands d sta a q id snonce h suite u;
  tells = record {
    frame = tt;
    sealed = sends.frame.sealed_is;
    verified = sends.verified ∙ empty.verified;
    derived = sends.derived ∙ empty.derived;
    installed = sends.installed ∙ empty.installed;
    gtk = sends.gtk ∙ empty.gtk;
    igtk = sends.igtk ∙ empty.igtk;
    looked = sends.looked ∙ empty.looked;
  };
  whole = sends.frame.whole;
})

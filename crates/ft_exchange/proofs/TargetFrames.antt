-- The frames of an access point as acts of sending them.
use Rattle.std.proofs.Common.{◌≡◌, ◌∙◌, ℕ, Bool, List, [], ◌∷◌, Option, Some, None, refl, sym, ap}
use Rattle.domain_base.specs.declared.names.Akm.TheVariants.{FtPsk}
use Rattle.domain_base.specs.declared.names.Mac.{Mac}
use Rattle.domain_base.specs.declared.names.Node.{Node}
use Rattle.domain_base.specs.declared.names.Node.TheVariants.{Ap, Sta}
use Rattle.domain_base.specs.declared.names.Peer.TheVariants.{One}
use Rattle.air_frame.specs.Sent.{re_resp_octets}
use Rattle.rsn_elements.specs.Transition.{FteFields}
use Rattle.run_journal.specs.declared.domain.Domain.{Domain}
use Rattle.run_journal.specs.Events.{protects}
use Rattle.run_journal.specs.declared.reply.Reply.{Reply}
use Rattle.run_journal.specs.declared.acts.Kind.TheVariants as kind
use Rattle.run_journal.specs.declared.acts.Reason.{Reason}
use Rattle.run_journal.specs.declared.acts.Act.TheVariants.{Sent}
use Rattle.run_journal.specs.Acts.{Derivation}
use Rattle.domain_rules.specs.Network.{mac, address, root_at}
use Rattle.domain_rules.specs.Frames.{aid}
use Rattle.domain_rules.specs.Replies.{key_by}
use Rattle.domain_rules.specs.FastTransition.{response_number, fte_seal}
use Rattle.domain_rules.specs.TransitionFrames.{re_resp_fte, re_resp_input, re_resp_elements, sent_re_resp}
use Rattle.domain_rules.specs.Rows.{refused_status, response_by}
use Rattle.group_key.specs.declared.news.News.{News}
use Rattle.group_key.specs.News.{carried_news}
use Rattle.ft_exchange.specs.Sent.{named_rsne_len, covered_in, input_between, sealed_of, re_resp_elements_of, HasFrame}
use Rattle.ft_exchange.specs.Refusals.{RefusesAuthBy, RefusesAuth, RefusesReassocBy, RefusesReassoc}
use Rattle.ft_exchange.specs.State.{TargetState}
use Rattle.ft_exchange.specs.Stands.{IsPlace}
use Rattle.ft_exchange.specs.Exchange.{installing_fte, installing_octets, IsInstalling}
use Rattle.ft_exchange.specs.Told.{transition_sent}
use Rattle.ft_exchange.specs.declared.place.Place.{Place}
use Rattle.ft_exchange.proofs.FramesSent.{frame_sent, nothing_sent}
use Rattle.ft_exchange.proofs.StationFrames.{root_is}

-- ---- refusals

auth_refusal_by : (d : Domain) (n p : Node) (w : Place) (o : Option ℕ) (old r : Reply) → w.own ≡ mac d n → w.peer ≡ mac d p → old.len ≡ 0 → RefusesAuthBy w o old r → transition_sent d n p r ≡ response_by d n p kind.FtReq o
auth_refusal_by d n p w None old r own peer none same = nothing_sent d n p r (ap (λ (x : Reply). x.len) same ∙ none)
auth_refusal_by d n p w (Some code) old r own peer none sends = frame_sent d n p _ kind.FtResp None r sends.frame ∙ rw (own, peer) refl

pub auth_refusal : (d : Domain) (n p : Node) (w : Place) (why : Reason) (old r : Reply) → w.own ≡ mac d n → w.peer ≡ mac d p → old.len ≡ 0 → RefusesAuth w why old r → transition_sent d n p r ≡ response_by d n p kind.FtReq (refused_status why)
auth_refusal d n p w why old r own peer none refuses = auth_refusal_by d n p w (refused_status why) old r own peer none refuses

reassoc_refusal_by : (d : Domain) (n p : Node) (w : Place) (o : Option ℕ) (old r : Reply) → IsPlace d n p w → old.len ≡ 0 → RefusesReassocBy w o old r → transition_sent d n p r ≡ response_by d n p kind.ReReq o
reassoc_refusal_by d n p w None old r at none same = nothing_sent d n p r (ap (λ (x : Reply). x.len) same ∙ none)
reassoc_refusal_by d n p w (Some code) old r at none sends = frame_sent d n p _ kind.ReResp None r sends.frame ∙ rw (at.own, at.peer) refl

pub reassoc_refusal : (d : Domain) (n p : Node) (w : Place) (why : Reason) (old r : Reply) → IsPlace d n p w → old.len ≡ 0 → RefusesReassoc w why old r → transition_sent d n p r ≡ response_by d n p kind.ReReq (refused_status why)
reassoc_refusal d n p w why old r at none refuses = reassoc_refusal_by d n p w (refused_status why) old r at none refuses

-- ---- the reassociation response

abbrev pub key_at : Domain → ℕ → ℕ → TargetState → Derivation
key_at d a sta s = key_by d (root_at d (Sta sta) s.r0kh_id) (Ap a) (Sta sta) s.key

-- the FTE with the group keys, still without its MIC
abbrev pub fte_at : Domain → ℕ → ℕ → TargetState → News → FteFields
fte_at d a sta s n = re_resp_fte d (Ap a) (key_at d a sta s) (carried_news n)

input_is : (d : Domain) (a sta : ℕ) (s : TargetState) (n : News) → d.akm ≡ FtPsk → IsPlace d (Ap a) (Sta sta) s.place
    → input_between s.place.mfp s.place.peer s.place.own response_number s.name s.place.mdid (installing_fte s n) ≡ re_resp_input d (Ap a) (Sta sta) s.name (key_at d a sta s) (fte_at d a sta s n)
input_is d a sta s n suite at =
    ap (λ (b : Bool). input_between b s.place.peer s.place.own response_number s.name s.place.mdid (installing_fte s n)) at.mfp_is
    ∙ rw (root_is d (Sta sta) s.r0kh_id suite, suite, at.own, at.peer, at.mdid) refl

-- the frame, where management frames are protected or not
abbrev octets_by : Bool → TargetState → News → List ℕ
octets_by protected s n =
    re_resp_octets s.place.peer.0 s.place.own.0 s.place.own.0 0 s.place.aid
    (re_resp_elements_of protected s.name s.place.mdid (sealed_of protected s.key.ptk.kck s.place.peer s.place.own response_number s.name s.place.mdid (installing_fte s n)))

octets_are : (d : Domain) (a sta : ℕ) (s : TargetState) (n : News) → d.akm ≡ FtPsk → IsPlace d (Ap a) (Sta sta) s.place
    → installing_octets s n ≡ re_resp_octets (address d (Sta sta)) (address d (Ap a)) (address d (Ap a)) 0 (aid (Sta sta)) (re_resp_elements d (Ap a) (Sta sta) s.name (key_at d a sta s) (fte_at d a sta s n))
octets_are d a sta s n suite at =
    ap (λ (b : Bool). octets_by b s n) at.mfp_is
    ∙ rw (root_is d (Sta sta) s.r0kh_id suite, suite, at.own, at.peer, at.mdid, at.aid_is) refl

pub installing_is : (d : Domain) (a sta : ℕ) (s : TargetState) (n : News) (r : Reply) → d.akm ≡ FtPsk → IsPlace d (Ap a) (Sta sta) s.place → IsInstalling s n
    → HasFrame (installing_octets s n) kind.ReResp (Some s.key.ptk.kck) r
    → transition_sent d (Ap a) (Sta sta) r ≡ sent_re_resp d (Ap a) (Sta sta) s.name (key_at d a sta s) (fte_at d a sta s n) ∷ []
installing_is d a sta s n r suite at covers f =
    let o : Node = Ap a in
    let p : Node = Sta sta in
    let fte : FteFields = fte_at d a sta s n in
    let covered : covered_in (address d p) (address d o) response_number 36 (named_rsne_len (protects d)) (installing_octets s n) ≡ re_resp_input d o p s.name (key_at d a sta s) fte =
    ap (λ (w : Mac). covered_in w.0 (address d o) response_number 36 (named_rsne_len (protects d)) (installing_octets s n)) (sym at.peer)
    ∙ ap (λ (w : Mac). covered_in s.place.peer.0 w.0 response_number 36 (named_rsne_len (protects d)) (installing_octets s n)) (sym at.own)
    ∙ ap (λ (b : Bool). covered_in s.place.peer.0 s.place.own.0 response_number 36 (named_rsne_len b) (installing_octets s n)) (sym at.mfp_is)
    ∙ covers ∙ input_is d a sta s n suite at
    in
    frame_sent d o p (installing_octets s n) kind.ReResp (Some s.key.ptk.kck) r f
    ∙ ap (λ (z : List ℕ). Sent (One p) kind.ReResp (installing_octets s n) (Some (fte_seal s.key.ptk.kck z)) ∷ []) covered
    ∙ ap (λ (z : List ℕ). Sent (One p) kind.ReResp z (Some (fte_seal s.key.ptk.kck (re_resp_input d o p s.name (key_at d a sta s) fte))) ∷ []) (octets_are d a sta s n suite at)

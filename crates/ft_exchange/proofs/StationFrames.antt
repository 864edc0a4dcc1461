-- The frames of a station, by the key that it derives.
use Rattle.std.proofs.Common.{◌≡◌, ◌∙◌, ◌+◌, ℕ, Bool, List, [], ◌∷◌, ◌++◌, length, Some, None, refl, sym, ap}
use Rattle.std.specs.Prelude.{if◌then◌else◌}
use Rattle.std.proofs.lemmas.List.{append_assoc}
use Rattle.domain_base.specs.declared.names.Akm.{Akm}
use Rattle.domain_base.specs.declared.names.Akm.TheVariants.{FtPsk}
use Rattle.domain_base.specs.declared.names.Mac.{Mac}
use Rattle.domain_base.specs.declared.names.Node.{Node}
use Rattle.domain_base.specs.declared.names.Node.TheVariants.{Ap, Sta}
use Rattle.domain_base.specs.declared.names.Peer.TheVariants.{One}
use Rattle.air_frame.specs.Sent.{ft_req_octets, re_req_octets}
use Rattle.key_hierarchy.specs.Keys.{ptk}
use Rattle.key_hierarchy.specs.FastTransition.{pmk_r0, pmk_r0_name, ft_ptk}
use Rattle.key_hierarchy.specs.declared.inputs.Ptk.{Ptk}
use Rattle.key_hierarchy.specs.declared.inputs.Inputs.{Inputs}
use Rattle.key_hierarchy.specs.declared.fast_transition.PmkR1.{PmkR1}
use Rattle.rsn_elements.specs.Transition.{FteFields}
use Rattle.rsn_elements.specs.Sent.{ssid_octets, rates_octets, rsne_octets, rsne_mfp_octets, mde_octets, fte_octets}
use Rattle.run_journal.specs.declared.domain.Domain.{Domain}
use Rattle.run_journal.specs.Events.{protects}
use Rattle.run_journal.specs.declared.reply.Reply.{Reply}
use Rattle.run_journal.specs.declared.acts.Kind.TheVariants as kind
use Rattle.run_journal.specs.declared.acts.Act.TheVariants.{Sent}
use Rattle.run_journal.specs.Acts.{Derivation}
use Rattle.domain_rules.specs.Network.{mac, address, psk_of, root_at}
use Rattle.domain_rules.specs.Replies.{inputs_by}
use Rattle.domain_rules.specs.FastTransition.{no_nonce, no_mic, plain_fte, r1_of, r1_name, request_number, fte_seal}
use Rattle.mac_prf.specs.FteMic.{fte_mic_input}
use Rattle.domain_rules.specs.TransitionFrames.{counted_fte, sealed_fte, sent_ft_req, re_req_input, re_req_elements, sent_re_req}
use Rattle.ft_exchange.specs.Sent.{named_rsne, named_rsne_len, named_elements, covered_in, input_between, counted, sealed_of, re_req_elements_of, HasFrame}
use Rattle.ft_exchange.specs.State.{OriginatorState}
use Rattle.ft_exchange.specs.Exchange.{asking_octets, r1_in, transit_in, request_octets, IsRequesting}
use Rattle.ft_exchange.specs.Told.{transition_sent}
use Rattle.ft_exchange.specs.declared.originator.Transit.{Transit}
use Rattle.ft_exchange.proofs.FramesSent.{frame_sent}

-- the key of inputs of suite 4
pub ptk_ft : (i : Inputs) → i.akm ≡ FtPsk → ptk i ≡ ft_ptk (r1_of i) i.snonce i.anonce i.aa i.spa
unfolding ptk
ptk_ft i akm = rw akm refl

pub root_is : (d : Domain) (s : Node) (id : List ℕ) → d.akm ≡ FtPsk → root_at d s id ≡ record { psk = psk_of d s; mdid = d.mdid; r0kh_id = id }
root_is d s id suite = rw suite refl

-- an originator's addresses, network and keys are those of station n with access point p
pub record IsOf (d : Domain) (n p : Node) (s : OriginatorState) : Type 0 where
  pub suite : d.akm ≡ FtPsk
  pub mfp_is : s.mfp ≡ protects d
  pub own : s.own ≡ mac d n
  pub peer : s.peer ≡ mac d p
  pub ssid : s.ssid ≡ d.ssid
  pub mdid : s.mdid ≡ d.mdid
  pub r0 : s.r0 ≡ pmk_r0 (psk_of d n) d.ssid d.mdid s.r0kh_id (mac d n)

-- what the key of an ANonce is made of
abbrev pub inputs_in : Domain → ℕ → ℕ → OriginatorState → List ℕ → Inputs
inputs_in d sta a s anonce = inputs_by d (root_at d (Sta sta) s.r0kh_id) (Sta sta) (Ap a) (transit_in s anonce).key

r1_is : (d : Domain) (sta a : ℕ) (s : OriginatorState) (anonce : List ℕ) → IsOf d (Sta sta) (Ap a) s → r1_of (inputs_in d sta a s anonce) ≡ r1_in s
r1_is d sta a s anonce o = rw (root_is d (Sta sta) s.r0kh_id o.suite, o.r0, o.own, o.peer) refl

pub name_is : (d : Domain) (sta a : ℕ) (s : OriginatorState) (anonce : List ℕ) → IsOf d (Sta sta) (Ap a) s → (transit_in s anonce).name ≡ r1_name (inputs_in d sta a s anonce)
name_is d sta a s anonce o = sym (ap (λ (k : PmkR1). k.name) (r1_is d sta a s anonce o))

pub key_is : (d : Domain) (sta a : ℕ) (s : OriginatorState) (anonce : List ℕ) → IsOf d (Sta sta) (Ap a) s → (transit_in s anonce).key.ptk ≡ ptk (inputs_in d sta a s anonce)
key_is d sta a s anonce o =
    ap (λ (m : Mac). ft_ptk (r1_in s) s.snonce anonce m s.own) o.peer ∙ ap (λ (m : Mac). ft_ptk (r1_in s) s.snonce anonce (mac d (Ap a)) m) o.own
    ∙ sym (ptk_ft (inputs_in d sta a s anonce) o.suite ∙ ap (λ (k : PmkR1). ft_ptk k s.snonce anonce (mac d (Ap a)) (mac d (Sta sta))) (r1_is d sta a s anonce o))

-- ---- the authentication request

pub asking_is : (d : Domain) (sta a : ℕ) (s : OriginatorState) (r : Reply) → IsOf d (Sta sta) (Ap a) s → HasFrame (asking_octets s) kind.FtReq None r
    → transition_sent d (Sta sta) (Ap a) r ≡ sent_ft_req d (Sta sta) (Ap a) (root_at d (Sta sta) s.r0kh_id) s.snonce ∷ []
asking_is d sta a s r o f =
    frame_sent d (Sta sta) (Ap a) (asking_octets s) kind.FtReq None r f
    ∙ ap (λ (b : Bool). Sent (One (Ap a)) kind.FtReq (ft_req_octets s.peer.0 s.own.0 s.peer.0 (named_elements b (pmk_r0_name s.r0) s.mdid (plain_fte no_nonce s.snonce None s.r0kh_id))) None ∷ []) o.mfp_is
    ∙ rw (o.suite, o.own, o.peer, o.mdid, o.r0) refl

-- ---- the reassociation request

-- the key is that one, made of these inputs
pub record IsMadeOf (s : OriginatorState) (t : Transit) (x : Derivation) : Type 0 where
  pub ptk_is : t.key.ptk ≡ x.ptk
  pub name : t.name ≡ r1_name x.inputs
  pub anonce : t.key.anonce ≡ x.inputs.anonce
  pub snonce : t.key.snonce ≡ x.inputs.snonce
  pub r0kh_id : s.r0kh_id ≡ x.inputs.r0kh_id

-- the request by what it is made of
abbrev request_by : Bool → Mac → Mac → Mac → List ℕ → List ℕ → List ℕ → List ℕ → List ℕ → List ℕ → List ℕ → List ℕ
request_by protected own peer current ssid mdid name kck anonce snonce id =
    re_req_octets peer.0 own.0 peer.0 current.0
    (re_req_elements_of protected ssid name mdid
    (sealed_of protected kck own peer request_number name mdid
    (record { mic_control = 0 ∷ 3 ∷ []; mic = no_mic; anonce = anonce; snonce = snonce; r1kh_id = Some peer.0; gtk = None; r0kh_id = Some id; igtk = None })))

-- and by its RSNE, element by element
abbrev sealed_with : List ℕ → Domain → Node → Node → Derivation → FteFields
sealed_with rsne d n p x =
    sealed_fte x.ptk.kck
    (fte_mic_input (address d n) (address d p) request_number rsne (mde_octets d.mdid) (fte_octets (counted_fte (address d p) x.inputs None)))
    (counted_fte (address d p) x.inputs None)

abbrev request_with : List ℕ → Domain → Node → Node → Node → Derivation → List ℕ
request_with rsne d n p q x =
    re_req_octets (address d p) (address d n) (address d p) (address d q)
    ((((ssid_octets d.ssid ++ rates_octets) ++ rsne) ++ mde_octets d.mdid) ++ fte_octets (sealed_with rsne d n p x))

regroup : (start rsne mde fte : List ℕ) → start ++ ((rsne ++ mde) ++ fte) ≡ ((start ++ rsne) ++ mde) ++ fte
regroup start rsne mde fte =
    ap (λ (w : List ℕ). start ++ w) (append_assoc rsne mde fte) ∙ sym (append_assoc (start ++ rsne) mde fte ∙ append_assoc start rsne (mde ++ fte))

request_is : (d : Domain) (n p q : Node) (s : OriginatorState) (t : Transit) (x : Derivation) → IsOf d n p s → s.current ≡ mac d q → IsMadeOf s t x
    → request_octets s t ≡ re_req_octets (address d p) (address d n) (address d p) (address d q) (re_req_elements d n p x)
request_is d n p q s t x o current m =
    ap (λ (b : Bool). request_by b s.own s.peer s.current s.ssid s.mdid t.name t.key.ptk.kck t.key.anonce t.key.snonce s.r0kh_id) o.mfp_is
    ∙ ap (λ (w : Mac). request_by (protects d) w s.peer s.current s.ssid s.mdid t.name t.key.ptk.kck t.key.anonce t.key.snonce s.r0kh_id) o.own
    ∙ ap (λ (w : Mac). request_by (protects d) (mac d n) w s.current s.ssid s.mdid t.name t.key.ptk.kck t.key.anonce t.key.snonce s.r0kh_id) o.peer
    ∙ ap (λ (w : Mac). request_by (protects d) (mac d n) (mac d p) w s.ssid s.mdid t.name t.key.ptk.kck t.key.anonce t.key.snonce s.r0kh_id) current
    ∙ ap (λ (w : List ℕ). request_by (protects d) (mac d n) (mac d p) (mac d q) w s.mdid t.name t.key.ptk.kck t.key.anonce t.key.snonce s.r0kh_id) o.ssid
    ∙ ap (λ (w : List ℕ). request_by (protects d) (mac d n) (mac d p) (mac d q) d.ssid w t.name t.key.ptk.kck t.key.anonce t.key.snonce s.r0kh_id) o.mdid
    ∙ ap (λ (w : List ℕ). request_by (protects d) (mac d n) (mac d p) (mac d q) d.ssid d.mdid w t.key.ptk.kck t.key.anonce t.key.snonce s.r0kh_id) m.name
    ∙ ap (λ (k : Ptk). request_by (protects d) (mac d n) (mac d p) (mac d q) d.ssid d.mdid (r1_name x.inputs) k.kck t.key.anonce t.key.snonce s.r0kh_id) m.ptk_is
    ∙ ap (λ (w : List ℕ). request_by (protects d) (mac d n) (mac d p) (mac d q) d.ssid d.mdid (r1_name x.inputs) x.ptk.kck w t.key.snonce s.r0kh_id) m.anonce
    ∙ ap (λ (w : List ℕ). request_by (protects d) (mac d n) (mac d p) (mac d q) d.ssid d.mdid (r1_name x.inputs) x.ptk.kck x.inputs.anonce w s.r0kh_id) m.snonce
    ∙ ap (λ (w : List ℕ). request_by (protects d) (mac d n) (mac d p) (mac d q) d.ssid d.mdid (r1_name x.inputs) x.ptk.kck x.inputs.anonce x.inputs.snonce w) m.r0kh_id
    ∙ ap (λ (w : List ℕ). re_req_octets (address d p) (address d n) (address d p) (address d q) w)
    (regroup (ssid_octets d.ssid ++ rates_octets) (named_rsne (protects d) (r1_name x.inputs)) (mde_octets d.mdid) (fte_octets (sealed_with (named_rsne (protects d) (r1_name x.inputs)) d n p x)))
    ∙ ap (λ (m : Akm). request_with (if protects d then rsne_mfp_octets m (Some (r1_name x.inputs)) else rsne_octets m (Some (r1_name x.inputs))) d n p q x) (sym o.suite)

input_is : (d : Domain) (n p : Node) (s : OriginatorState) (t : Transit) (x : Derivation) → IsOf d n p s → IsMadeOf s t x
    → input_between s.mfp s.own s.peer request_number t.name s.mdid (counted s.peer.0 t.key s.r0kh_id None None) ≡ re_req_input d n p x
input_is d n p s t x o m =
    ap (λ (b : Bool). input_between b s.own s.peer request_number t.name s.mdid (counted s.peer.0 t.key s.r0kh_id None None)) o.mfp_is
    ∙ rw (o.suite, o.own, o.peer, o.mdid, m.name, m.anonce, m.snonce, m.r0kh_id) refl

covered_is : (d : Domain) (n p : Node) (s : OriginatorState) (t : Transit) (x : Derivation) → IsOf d n p s → IsMadeOf s t x → IsRequesting s t
    → covered_in (address d n) (address d p) request_number (42 + length d.ssid) (named_rsne_len (protects d)) (request_octets s t) ≡ re_req_input d n p x
covered_is d n p s t x o m covers =
    ap (λ (w : Mac). covered_in w.0 (address d p) request_number (42 + length d.ssid) (named_rsne_len (protects d)) (request_octets s t)) (sym o.own)
    ∙ ap (λ (w : Mac). covered_in s.own.0 w.0 request_number (42 + length d.ssid) (named_rsne_len (protects d)) (request_octets s t)) (sym o.peer)
    ∙ ap (λ (w : List ℕ). covered_in s.own.0 s.peer.0 request_number (42 + length w) (named_rsne_len (protects d)) (request_octets s t)) (sym o.ssid)
    ∙ ap (λ (b : Bool). covered_in s.own.0 s.peer.0 request_number (42 + length s.ssid) (named_rsne_len b) (request_octets s t)) (sym o.mfp_is)
    ∙ covers ∙ input_is d n p s t x o m

pub requesting_is : (d : Domain) (n p q : Node) (s : OriginatorState) (t : Transit) (x : Derivation) (r : Reply) → IsOf d n p s → s.current ≡ mac d q → IsMadeOf s t x → IsRequesting s t
    → HasFrame (request_octets s t) kind.ReReq (Some t.key.ptk.kck) r → transition_sent d n p r ≡ sent_re_req d n p q x ∷ []
requesting_is d n p q s t x r o current m covers f =
    frame_sent d n p (request_octets s t) kind.ReReq (Some t.key.ptk.kck) r f
    ∙ ap (λ (z : List ℕ). Sent (One p) kind.ReReq (request_octets s t) (Some (fte_seal t.key.ptk.kck z)) ∷ []) (covered_is d n p s t x o m covers)
    ∙ ap (λ (z : List ℕ). Sent (One p) kind.ReReq z (Some (fte_seal t.key.ptk.kck (re_req_input d n p x))) ∷ []) (request_is d n p q s t x o current m)
    ∙ ap (λ (k : Ptk). Sent (One p) kind.ReReq (re_req_octets (address d p) (address d n) (address d p) (address d q) (re_req_elements d n p x)) (Some (fte_seal k.kck (re_req_input d n p x))) ∷ []) m.ptk_is

-- The frames of reassociation by what a part of a node has, and what a station goes on with.
use Rattle.std.proofs.Common.{◌≡◌, ◌∙◌, ◌+◌, ◌≤◌, ℕ, Bool, List, length, take, Option, Some, None, refl, sym, ap, subst, arith}
use Rattle.std.specs.Prelude.{option_map, IfSome}
use Rattle.domain_base.specs.declared.names.Mac.{Mac}
use Rattle.air_frame.specs.Sent.{re_req_octets, re_resp_octets}
use Rattle.eapol_key.specs.Sent.{rsc_octets}
use Rattle.rsn_elements.specs.Transition.{WrappedGtkFields, WrappedIgtkFields}
use Rattle.run_journal.specs.declared.acts.Kind.{Kind}
use Rattle.run_journal.specs.declared.acts.Kind.TheVariants as kind
use Rattle.run_journal.specs.declared.acts.Reason.{Reason}
use Rattle.rsn_elements.specs.Elements.{ElementFields}
use Rattle.key_hierarchy.specs.FastTransition.{pmk_r0_name, pmk_r1, pmk_r1_of}
use Rattle.key_hierarchy.specs.declared.fast_transition.PmkR0.{PmkR0}
use Rattle.key_hierarchy.specs.declared.fast_transition.PmkR1.{PmkR1}
use Rattle.ft_exchange.specs.Judged.{Wanted, auth_response_reason}
use Rattle.run_journal.specs.declared.reply.Reply.{Reply}
use Rattle.run_journal.specs.Replies.{IsEmpty}
use Rattle.domain_rules.specs.Frames.{wrapped}
use Rattle.domain_rules.specs.FastTransition.{request_number, response_number}
use Rattle.domain_rules.specs.TransitionFrames.{sent_gtk, sent_igtk}
use Rattle.group_key.specs.declared.news.IgtkNews.{IgtkNews}
use Rattle.group_key.specs.declared.news.News.{News}
use Rattle.group_key.specs.Holds.{carried}
use Rattle.group_key.specs.News.{carried_igtk}
use Rattle.ft_exchange.specs.Group.{igtk_by}
use Rattle.ft_exchange.specs.Sent.{named_rsne_len, covered_in, input_between, counted, sealed_of, re_req_elements_of, re_resp_elements_of, HasFrame, Sends}
use Rattle.ft_exchange.specs.State.{OriginatorState, TargetState}
use Rattle.ft_exchange.specs.Exchange.{at_stage, wanted_by, r1_in, transit_in, request_octets, IsRequesting, GoesOn}
use Rattle.ft_exchange.specs.declared.originator.Transit.{Transit}
use Rattle.ft_exchange.specs.declared.originator.Stage.TheVariants as stage

-- the frame is in the reply
pub sends_it : (octets : List ℕ) (k : Kind) (sealed : Option (List ℕ)) (old new : Reply) (out : List ℕ) (len : ℕ) → new ≡ record old { octets = out; len = len; kind = k; sealed = sealed } → take len out ≡ octets → 131 ≤ len → len ≤ 512
    → Sends octets k sealed old new
sends_it octets k sealed old new out len told front least most = subst (λ (r : Reply). Sends octets k sealed old r) (sym told) (record {
  frame = record {
    front = front;
    some = omega (arith, least);
    kind_is = refl;
    sealed_is = refl;
    whole = record { few = most; sealed = λ kck some. least };
  };
  verified = refl;
  derived = refl;
  installed = refl;
  gtk = refl;
  igtk = refl;
  looked = refl;
})

-- ---- at a station

abbrev pub request_by : Bool → Transit → Mac → Mac → Mac → List ℕ → List ℕ → List ℕ → List ℕ
request_by protected t own peer current ssid mdid id =
    re_req_octets peer.0 own.0 peer.0 current.0
    (re_req_elements_of protected ssid t.name mdid (sealed_of protected t.key.ptk.kck own peer request_number t.name mdid (counted peer.0 t.key id None None)))

-- it is sent, and its MIC covers what it should
pub record Requests (protected : Bool) (t : Transit) (own peer current : Mac) (ssid mdid id : List ℕ) (old new : Reply) : Type 0 where
  pub sends : Sends (request_by protected t own peer current ssid mdid id) kind.ReReq (Some t.key.ptk.kck) old new
  pub covers : covered_in own.0 peer.0 request_number (42 + length ssid) (named_rsne_len protected) (request_by protected t own peer current ssid mdid id)
      ≡ input_between protected own peer request_number t.name mdid (counted peer.0 t.key id None None)

pub requests : (s : OriginatorState) (t : Transit) (protected : Bool) (own peer current : Mac) (ssid mdid id : List ℕ) (old new : Reply) → protected ≡ s.mfp → own ≡ s.own → peer ≡ s.peer → current ≡ s.current → ssid ≡ s.ssid → mdid ≡ s.mdid → id ≡ s.r0kh_id
    → Requests protected t own peer current ssid mdid id old new → Requests s.mfp t s.own s.peer s.current s.ssid s.mdid s.r0kh_id old new
requests s t protected own peer current ssid mdid id old new mfp_is own_is peer_is current_is ssid_is mdid_is id_is r =
    subst (λ (b : Bool). Requests b t s.own s.peer s.current s.ssid s.mdid s.r0kh_id old new) mfp_is
    (subst (λ (w : List ℕ). Requests protected t s.own s.peer s.current s.ssid s.mdid w old new) id_is
    (subst (λ (w : List ℕ). Requests protected t s.own s.peer s.current s.ssid w id old new) mdid_is
    (subst (λ (w : List ℕ). Requests protected t s.own s.peer s.current w mdid id old new) ssid_is
    (subst (λ (m : Mac). Requests protected t s.own s.peer m ssid mdid id old new) current_is
    (subst (λ (m : Mac). Requests protected t s.own m current ssid mdid id old new) peer_is
    (subst (λ (m : Mac). Requests protected t m peer current ssid mdid id old new) own_is r))))))

-- the PMK-R1, from the name that was kept
pub r1_is : (s : OriginatorState) (r0 : PmkR0) (name : List ℕ) (peer own : Mac) (x : PmkR1) → x ≡ pmk_r1_of r0.key name peer own → name ≡ pmk_r0_name s.r0 → r0 ≡ s.r0 → peer ≡ s.peer → own ≡ s.own → x ≡ r1_in s
unfolding pmk_r1
r1_is s r0 name peer own x is named r0_is peer_is own_is =
    is ∙ ap (λ (k : PmkR0). pmk_r1_of k.key name peer own) r0_is ∙ ap (λ (n : List ℕ). pmk_r1_of s.r0.key n peer own) named
    ∙ ap (λ (m : Mac). pmk_r1_of s.r0.key (pmk_r0_name s.r0) m own) peer_is ∙ ap (λ (m : Mac). pmk_r1_of s.r0.key (pmk_r0_name s.r0) s.peer m) own_is

-- an authentication response is refused for that, or for nothing
pub reason_is : (s : OriginatorState) (x : Wanted) (name snonce : List ℕ) (r0 : PmkR0) (status : ℕ) (e : ElementFields) (o : Option Reason) → o ≡ auth_response_reason x snonce status e → x ≡ wanted_by s name → name ≡ pmk_r0_name r0
    → r0 ≡ s.r0 → snonce ≡ s.snonce → auth_response_reason (wanted_by s (pmk_r0_name s.r0)) s.snonce status e ≡ o
reason_is s x name snonce r0 status e o is wants named r0_is snonce_is =
    sym (is ∙ ap (λ (y : Wanted). auth_response_reason y snonce status e) (wants ∙ ap (λ (n : List ℕ). wanted_by s n) (named ∙ ap (λ (k : PmkR0). pmk_r0_name k) r0_is))
    ∙ ap (λ (v : List ℕ). auth_response_reason (wanted_by s (pmk_r0_name s.r0)) v status e) snonce_is)

derived_too : (s t : OriginatorState) (x : Transit) (anonce : List ℕ) (old mid : Reply) → x ≡ transit_in s anonce → IsEmpty old → Sends (request_octets s x) kind.ReReq (Some x.key.ptk.kck) old mid → IsRequesting s x
    → t ≡ at_stage (stage.Keyed x) s → GoesOn anonce s t (record mid { derived = Some x.key })
derived_too s t x anonce old mid same empty sends covers is = record {
  is = is ∙ ap (λ (y : Transit). at_stage (stage.Keyed y) s) same;
  sends = subst (λ (y : Transit). HasFrame (request_octets s y) kind.ReReq (Some y.key.ptk.kck) (record mid { derived = Some x.key })) same (record {
    front = sends.frame.front;
    some = sends.frame.some;
    kind_is = sends.frame.kind_is;
    sealed_is = sends.frame.sealed_is;
    whole = record { few = sends.frame.whole.few; sealed = sends.frame.whole.sealed };
  });
  covers = subst (λ (y : Transit). IsRequesting s y) same covers;
  derived = ap (λ (y : Transit). Some y.key) same;
  verified = sends.verified ∙ empty.verified;
  installed = sends.installed ∙ empty.installed;
  gtk = sends.gtk ∙ empty.gtk;
  igtk = sends.igtk ∙ empty.igtk;
  looked = sends.looked ∙ empty.looked;
}

pub goes_on : (s t : OriginatorState) (x : Transit) (anonce : List ℕ) (old mid new : Reply) → x ≡ transit_in s anonce → IsEmpty old → Sends (request_octets s x) kind.ReReq (Some x.key.ptk.kck) old mid → IsRequesting s x
    → t ≡ at_stage (stage.Keyed x) s → new ≡ record mid { derived = Some x.key } → GoesOn anonce s t new
goes_on s t x anonce old mid new same empty sends covers is told = subst (λ (r : Reply). GoesOn anonce s t r) (sym told) (derived_too s t x anonce old mid same empty sends covers is)

-- ---- at an access point

abbrev pub response_by : TargetState → List ℕ → WrappedGtkFields → Option WrappedIgtkFields → List ℕ
response_by s id gtk igtk =
    re_resp_octets s.place.peer.0 s.place.own.0 s.place.own.0 0 s.place.aid
    (re_resp_elements_of s.place.mfp s.name s.place.mdid
    (sealed_of s.place.mfp s.key.ptk.kck s.place.peer s.place.own response_number s.name s.place.mdid (counted s.place.own.0 s.key id (Some gtk) igtk)))

pub record Responds (s : TargetState) (id : List ℕ) (gtk : WrappedGtkFields) (igtk : Option WrappedIgtkFields) (old new : Reply) : Type 0 where
  pub sends : Sends (response_by s id gtk igtk) kind.ReResp (Some s.key.ptk.kck) old new
  pub covers : covered_in s.place.peer.0 s.place.own.0 response_number 36 (named_rsne_len s.place.mfp) (response_by s id gtk igtk)
      ≡ input_between s.place.mfp s.place.peer s.place.own response_number s.name s.place.mdid (counted s.place.own.0 s.key id (Some gtk) igtk)

abbrev pub gtk_by : ℕ → ℕ → List ℕ → WrappedGtkFields
gtk_by id rsc octets = record { information = id; key_length = 16; rsc = rsc_octets rsc; wrapped = octets }

-- the IGTK under its wrap, where there is one
igtk_is : (kek octets : List ℕ) (o : Option IgtkNews) → IfSome o (λ (k : IgtkNews). octets ≡ wrapped kek k.igtk.key) → option_map (igtk_by octets) o ≡ option_map (sent_igtk kek) (carried_igtk o)
igtk_is kek octets None is = refl
igtk_is kek octets (Some k) is = ap (λ (w : List ℕ). Some (igtk_by w k)) is

-- with the group keys of an access point
abbrev pub RespondsWith : TargetState → News → Reply → Reply → Type 0
RespondsWith s n old new = Responds s s.r0kh_id (sent_gtk s.key.ptk.kek (carried n.gtk) n.rsc) (option_map (sent_igtk s.key.ptk.kek) (carried_igtk n.igtk)) old new

pub responds : (s : TargetState) (n : News) (id gtk_octets igtk_octets : List ℕ) (gtk : WrappedGtkFields) (igtk : Option WrappedIgtkFields) (old new : Reply) → id ≡ s.r0kh_id → gtk ≡ gtk_by n.gtk.id n.rsc gtk_octets → gtk_octets ≡ wrapped s.key.ptk.kek n.gtk.key
    → igtk ≡ option_map (igtk_by igtk_octets) n.igtk → IfSome n.igtk (λ (k : IgtkNews). igtk_octets ≡ wrapped s.key.ptk.kek k.igtk.key) → Responds s id gtk igtk old new → RespondsWith s n old new
responds s n id gtk_octets igtk_octets gtk igtk old new id_is gtk_is wraps igtk_at wraps_igtk r =
    subst (λ (o : Option WrappedIgtkFields). Responds s s.r0kh_id (sent_gtk s.key.ptk.kek (carried n.gtk) n.rsc) o old new) (igtk_at ∙ igtk_is s.key.ptk.kek igtk_octets n.igtk wraps_igtk)
    (subst (λ (w : List ℕ). Responds s s.r0kh_id (gtk_by n.gtk.id n.rsc w) igtk old new) wraps
    (subst (λ (w : WrappedGtkFields). Responds s s.r0kh_id w igtk old new) gtk_is
    (subst (λ (w : List ℕ). Responds s w gtk igtk old new) id_is r)))

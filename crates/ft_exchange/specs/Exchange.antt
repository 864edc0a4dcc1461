-- What the frames of a fast transition do to its parts (IEEE Std 802.11-2020, 13.8).
use Rattle.std.specs.Prelude.{◌≡◌, ◌+◌, ℕ, length, ◌==◌, true, false, List, Option, Some, None, option_map, if◌then◌else◌, Result, Err}
use Rattle.mac_prf.specs.declared.reassociation.Reassociation.TheVariants.{Request, Response}
use Rattle.air_frame.specs.Sent.{ft_req_octets, ft_resp_octets, re_req_octets, re_resp_octets}
use Rattle.key_hierarchy.specs.FastTransition.{pmk_r0_name, pmk_r1, ft_ptk}
use Rattle.key_hierarchy.specs.declared.fast_transition.PmkR1.{PmkR1}
use Rattle.rsn_elements.specs.Elements.{ElementFields}
use Rattle.run_journal.specs.declared.acts.Kind.TheVariants as kind
use Rattle.run_journal.specs.declared.acts.Reason.{Reason}
use Rattle.run_journal.specs.declared.reply.Reply.{Reply}
use Rattle.run_journal.specs.declared.reply.Keyed.{Keyed}
use Rattle.domain_rules.specs.FastTransition.{no_nonce, plain_fte, request_number, response_number}
use Rattle.domain_rules.specs.TransitionKeys.{Asked}
use Rattle.domain_rules.specs.TransitionFrames.{sent_gtk, sent_igtk}
use Rattle.group_key.specs.declared.news.News.{News}
use Rattle.group_key.specs.Holds.{carried}
use Rattle.group_key.specs.Keys.{Memories}
use Rattle.group_key.specs.News.{carried_igtk}
use Rattle.rsn_elements.specs.Transition.{FteFields}
use Rattle.ft_exchange.specs.declared.mic.Between.{Between}
use Rattle.ft_exchange.specs.declared.mic.Tried.{Tried}
use Rattle.ft_exchange.specs.declared.mic.Tried.TheVariants.{Nothing}
use Rattle.ft_exchange.specs.declared.group.CarriedKeys.{CarriedKeys}
use Rattle.ft_exchange.specs.declared.looking.Granted.{Granted}
use Rattle.ft_exchange.specs.declared.place.Place.{Place}
use Rattle.ft_exchange.specs.declared.originator.Transit.{Transit}
use Rattle.ft_exchange.specs.declared.originator.Stage.{Stage}
use Rattle.ft_exchange.specs.declared.originator.Stage.TheVariants as stage
use Rattle.ft_exchange.specs.Group.{became, all_given}
use Rattle.ft_exchange.specs.Judged.{Wanted, IsJudged}
use Rattle.ft_exchange.specs.Sent.{named_rsne_len, covered_in, input_between, counted, named_elements, sealed_of, re_req_elements_of, re_resp_elements_of, HasFrame}
use Rattle.ft_exchange.specs.State.{OriginatorState, TargetState}
use Rattle.ft_exchange.specs.Tried.{input_of, tried, tried_reason, verified_key}

-- ---- at a station

-- the same attempt, so far
abbrev pub at_stage : Stage → OriginatorState → OriginatorState
at_stage x s = record s { stage = x }

-- what a frame of the access point has to say that carries that name
abbrev pub wanted_by : OriginatorState → List ℕ → Wanted
wanted_by s name = record { mfp = s.mfp; mdid = s.mdid; r1kh_id = s.peer.0; r0kh_id = s.r0kh_id; name = name }

-- the authentication request
abbrev pub asking_octets : OriginatorState → List ℕ
asking_octets s =
    ft_req_octets s.peer.0 s.own.0 s.peer.0 (named_elements s.mfp (pmk_r0_name s.r0) s.mdid (plain_fte no_nonce s.snonce None s.r0kh_id))

-- the PMK-R1 at the access point, and the key of an ANonce
abbrev pub r1_in : OriginatorState → PmkR1
r1_in s = pmk_r1 s.r0 s.peer s.own

-- the fast transition with the nonce of a response
abbrev pub transit_in : OriginatorState → List ℕ → Transit
transit_in s anonce = record {
  key = record { ptk = ft_ptk (r1_in s) s.snonce anonce s.peer s.own; anonce = anonce; snonce = s.snonce };
  name = (r1_in s).name;
}

-- the reassociation request under that key
abbrev pub request_octets : OriginatorState → Transit → List ℕ
request_octets s t =
    re_req_octets s.peer.0 s.own.0 s.peer.0 s.current.0
    (re_req_elements_of s.mfp s.ssid t.name s.mdid
    (sealed_of s.mfp t.key.ptk.kck s.own s.peer request_number t.name s.mdid (counted s.peer.0 t.key s.r0kh_id None None)))

-- what the MIC of the reassociation request covers
abbrev pub IsRequesting : OriginatorState → Transit → Type 0
IsRequesting s t =
    covered_in s.own.0 s.peer.0 request_number (42 + length s.ssid) (named_rsne_len s.mfp) (request_octets s t)
    ≡ input_between s.mfp s.own s.peer request_number t.name s.mdid (counted s.peer.0 t.key s.r0kh_id None None)

-- the response is accepted: the key of its ANonce is derived, and the request sent
pub record GoesOn (anonce : List ℕ) (s t : OriginatorState) (r : Reply) : Type 0 where
  pub is : t ≡ at_stage (stage.Keyed (transit_in s anonce)) s
  pub sends : HasFrame (request_octets s (transit_in s anonce)) kind.ReReq (Some (transit_in s anonce).key.ptk.kck) r
  pub covers : IsRequesting s (transit_in s anonce)
  pub derived : r.derived ≡ Some (transit_in s anonce).key
  pub verified : r.verified ≡ None
  pub installed : r.installed ≡ None
  pub gtk : r.gtk ≡ None
  pub igtk : r.igtk ≡ None
  pub looked : r.looked ≡ None

-- the two ends of a response
abbrev pub response_between : OriginatorState → Between
response_between s = record { station = s.own; bssid = s.peer; frame = Response }

-- nonces and MIC of a response, which are tried where its status is 0 (13.8.4, 13.8.5)
abbrev pub response_tried : OriginatorState → Keyed → ℕ → ElementFields → Tried
response_tried s y status e = if status == 0 then tried y e.fte (input_of (response_between s) e) else Nothing

-- the reply tells under which KCK a frame verified, or that none did, and nothing else
pub record IsQuiet (v : Option (List ℕ)) (r : Reply) : Type 0 where
  pub len : r.len ≡ 0
  pub sealed : r.sealed ≡ None
  pub verified : r.verified ≡ v
  pub derived : r.derived ≡ None
  pub installed : r.installed ≡ None
  pub gtk : r.gtk ≡ None
  pub igtk : r.igtk ≡ None
  pub looked : r.looked ≡ None

-- a response judged under that key: refused by its nonces or its MIC, or else by what stands after them
abbrev pub IsTriedFirst : Option Reason → (Result CarriedKeys Reason → Type 0) → Result CarriedKeys Reason → Type 0
IsTriedFirst (Some why) Then result = result ≡ Err why
IsTriedFirst None Then result = Then result

-- what a reassociation response is judged as, and nothing is sent
pub record IsResponse (s : OriginatorState) (t : Transit) (status : ℕ) (e : ElementFields) (r : Reply)
    (result : Result CarriedKeys Reason) : Type 0 where
  pub judged : IsTriedFirst (tried_reason (response_tried s t.key status e)) (IsJudged (wanted_by s t.name) t.key.ptk.kek status e) result
  pub quiet : IsQuiet (verified_key t.key (response_tried s t.key status e)) r

-- an originator, and the group keys that are kept of its access point
pub record Both : Type 0 where
  pub part : OriginatorState
  pub keys : Memories

-- an originator with these group keys (profile)
abbrev pub both : OriginatorState → Memories → Both
both s m = record { part = s; keys = m }

-- the response is accepted: the key is installed, and the group keys given
pub record Finishes (t : Transit) (keys : CarriedKeys) (old new : Both) (before r : Reply) : Type 0 where
  pub is : new.part ≡ at_stage stage.Done old.part
  pub memory : new.keys ≡ all_given keys old.keys
  pub reply : r ≡ record before { installed = Some t.key; gtk = Some (became keys old.keys).gtk; igtk = (became keys old.keys).igtk }

-- ---- at an access point

-- what a reassociation request has to say
abbrev pub wanted_at : TargetState → Wanted
wanted_at s = record { mfp = s.place.mfp; mdid = s.place.mdid; r1kh_id = s.place.own.0; r0kh_id = s.r0kh_id; name = s.name }

-- the key of a new attempt
abbrev pub key_granted : Place → Asked → Granted → Keyed
key_granted w a g = record { ptk = ft_ptk g.r1 a.snonce g.anonce w.own w.peer; anonce = g.anonce; snonce = a.snonce }

-- its authentication response
abbrev pub granting_octets : Place → Asked → Granted → List ℕ
granting_octets w a g =
    ft_resp_octets w.peer.0 w.own.0 w.own.0 0 (named_elements w.mfp g.asked w.mdid (plain_fte g.anonce a.snonce (Some w.own.0) a.r0kh_id))

-- the new attempt, with that response
abbrev pub target_granted : Place → Asked → Granted → TargetState
target_granted w a g = record {
  place = w;
  r0kh_id = a.r0kh_id;
  asked = g.asked;
  name = g.r1.name;
  key = key_granted w a g;
  is_installed = false;
  stored = granting_octets w a g;
}

-- the request is accepted: the key is derived, and the response sent
pub record Begins (w : Place) (a : Asked) (g : Granted) (s : TargetState) (old r : Reply) : Type 0 where
  pub is : s ≡ target_granted w a g
  pub sends : HasFrame (granting_octets w a g) kind.FtResp None r
  pub derived : r.derived ≡ Some (key_granted w a g)
  pub verified : r.verified ≡ old.verified
  pub installed : r.installed ≡ old.installed
  pub gtk : r.gtk ≡ old.gtk
  pub igtk : r.igtk ≡ old.igtk
  pub looked : r.looked ≡ old.looked

-- the two ends of a request
abbrev pub request_between : TargetState → Between
request_between s = record { station = s.place.peer; bssid = s.place.own; frame = Request }

-- what comes of the nonces and the MIC of a reassociation request (13.8.4, 13.8.5)
abbrev pub request_tried : TargetState → ElementFields → Tried
request_tried s e = tried s.key e.fte (input_of (request_between s) e)

-- the FTE of a reassociation response with those group keys, still without its MIC
abbrev pub installing_fte : TargetState → News → FteFields
installing_fte s n =
    counted s.place.own.0 s.key s.r0kh_id (Some (sent_gtk s.key.ptk.kek (carried n.gtk) n.rsc)) (option_map (sent_igtk s.key.ptk.kek) (carried_igtk n.igtk))

-- the reassociation response with them
abbrev pub installing_octets : TargetState → News → List ℕ
installing_octets s n =
    re_resp_octets s.place.peer.0 s.place.own.0 s.place.own.0 0 s.place.aid
    (re_resp_elements_of s.place.mfp s.name s.place.mdid
    (sealed_of s.place.mfp s.key.ptk.kck s.place.peer s.place.own response_number s.name s.place.mdid (installing_fte s n)))

-- a target whose key was installed, with the response that was sent
abbrev pub target_installed : TargetState → News → TargetState
target_installed s n = record s { is_installed = true; stored = installing_octets s n }

-- what the MIC of the reassociation response covers
abbrev pub IsInstalling : TargetState → News → Type 0
IsInstalling s n =
    covered_in s.place.peer.0 s.place.own.0 response_number 36 (named_rsne_len s.place.mfp) (installing_octets s n)
    ≡ input_between s.place.mfp s.place.peer s.place.own response_number s.name s.place.mdid (installing_fte s n)

-- the request is accepted: the key is installed, and the response sent
pub record Installs (n : News) (s t : TargetState) (old r : Reply) : Type 0 where
  pub is : t ≡ target_installed s n
  pub sends : HasFrame (installing_octets s n) kind.ReResp (Some s.key.ptk.kck) r
  pub covers : IsInstalling s n
  pub installed : r.installed ≡ Some s.key
  pub verified : r.verified ≡ old.verified
  pub derived : r.derived ≡ old.derived
  pub gtk : r.gtk ≡ old.gtk
  pub igtk : r.igtk ≡ old.igtk
  pub looked : r.looked ≡ old.looked

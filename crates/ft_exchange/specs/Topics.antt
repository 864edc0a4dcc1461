-- Of what a reply tells, call by call and outcome by outcome, and of what it does not (profile).
use Rattle.std.specs.Prelude.{◌≡◌, ℕ, Bool, true, false, List, Option, None}
use Rattle.rsn_elements.specs.Elements.{ElementFields}
use Rattle.run_journal.specs.declared.acts.Outcome.{Outcome}
use Rattle.run_journal.specs.declared.acts.Outcome.TheVariants.{Accepted, Answered, Refused}
use Rattle.run_journal.specs.declared.reply.Reply.{Reply}
use Rattle.ft_exchange.specs.declared.originator.Stage.{Stage}
use Rattle.ft_exchange.specs.declared.originator.Stage.TheVariants as stage
use Rattle.ft_exchange.specs.Exchange.{response_tried, request_tried}
use Rattle.ft_exchange.specs.State.{OriginatorState, TargetState}
use Rattle.ft_exchange.specs.Tried.{verified_key}

-- what there is to tell of: a frame that is sent, the KCK that it is sealed under, and the KCK under which the frame
-- that was taken verified. A key that was derived, one that was installed, group keys, and what key holders answered
pub record Topics : Type 0 where
  pub frame : Bool
  pub sealed : Bool
  pub verified : Bool
  pub derived : Bool
  pub installed : Bool
  pub gtk : Bool
  pub looked : Bool

-- silent, unless it is named
abbrev pub Unless : Bool → Type 0 → Type 0
Unless true Silent = Unit {0}
Unless false Silent = Silent

-- a reply tells of nothing else than what is named
pub record TellsOnly (t : Topics) (r : Reply) : Type 0 where
  pub frame : Unless t.frame (r.len ≡ 0)
  pub sealed : Unless t.sealed (r.sealed ≡ None)
  pub verified : Unless t.verified (r.verified ≡ None)
  pub derived : Unless t.derived (r.derived ≡ None)
  pub installed : Unless t.installed (r.installed ≡ None)
  pub gtk : Unless t.gtk (r.gtk ≡ None)
  pub igtk : Unless t.gtk (r.igtk ≡ None)
  pub looked : Unless t.looked (r.looked ≡ None)

-- a frame that is not sealed, or nothing at all
abbrev pub only_frame : Bool → Topics
only_frame sends = record {
  frame = sends;
  sealed = false;
  verified = false;
  derived = false;
  installed = false;
  gtk = false;
  looked = false;
}

-- a station has an authentication response: it derives a key, and sends the reassociation request under it
abbrev pub auth_response_topics : Outcome → Topics
auth_response_topics Accepted = record (only_frame true) { sealed = true; derived = true }
auth_response_topics o = only_frame false

-- a reassociation response: no frame goes out
abbrev pub reassoc_response_topics : Outcome → Topics
reassoc_response_topics Accepted = record (only_frame false) { verified = true; installed = true; gtk = true }
reassoc_response_topics o = record (only_frame false) { verified = true }

-- an access point has an authentication request: nothing is sealed yet, and nothing installed
abbrev pub auth_request_topics : Outcome → Topics
auth_request_topics Accepted = record (only_frame true) { derived = true; looked = true }
auth_request_topics Answered = only_frame true
auth_request_topics (Refused why) = record (only_frame true) { looked = true }
auth_request_topics o = only_frame false

-- a reassociation request: no key holder is asked, and a refusal is not sealed
abbrev pub reassoc_request_topics : Outcome → Topics
reassoc_request_topics Accepted = record (only_frame true) { sealed = true; verified = true; installed = true }
reassoc_request_topics Answered = record (only_frame true) { sealed = true; verified = true }
reassoc_request_topics (Refused why) = record (only_frame true) { verified = true }
reassoc_request_topics o = only_frame false

-- the KCK under which a reassociation response verified: none where no key was derived yet, or the MIC was not tried
-- (IEEE Std 802.11-2020, 13.8.4, 13.8.5)
abbrev pub response_verified : OriginatorState → Stage → ℕ → ElementFields → Option (List ℕ)
response_verified s (stage.Keyed t) status e = verified_key t.key (response_tried s t.key status e)
response_verified s x status e = None

-- the KCK under which the MIC of a reassociation request verified (IEEE Std 802.11-2020, 13.8.4, 13.8.5)
abbrev pub request_verified : TargetState → ElementFields → Option (List ℕ)
request_verified s e = verified_key s.key (request_tried s e)

-- Why a node did not start: where it could, memory ran out.
use Rattle.std.proofs.Common.{◌≡◌, ◌<◌, ℕ, Bool, true, if◌then◌else◌, List, sym, ap, subst, ◌∙◌}
use Rattle.std.specs.Prelude.{Option, Some, None, not}
use Rattle.std.proofs.lemmas.Bool.{false≢true, and_parts}
use Rattle.domain_base.specs.declared.names.Mac.{Mac}
use Rattle.run_journal.specs.declared.domain.Domain.{Domain}
use Rattle.run_journal.specs.Listing.{with_ap}
use Rattle.domain_rules.specs.AccessPointRows.{last_draw}
use Rattle.domain_rules.specs.Network.{draw_end}
use Rattle.embedded_node.specs.declared.header.Header.{Header}
use Rattle.embedded_node.specs.declared.untaken.Untaken.{Untaken}
use Rattle.embedded_node.specs.declared.untaken.Untaken.TheVariants.{Unfit, Full, NoMemory}
use Rattle.embedded_node.specs.Free.{is_single, is_id, ap_fault, sta_fault, IsCause}
use Rattle.embedded_node.specs.Headers.{bare}
use Rattle.embedded_node.specs.Starts.{is_ssid, can_start, can_start_ap, IsStartCause}

named : (h : Header) (a : Mac) (first : ℕ) → can_start h a first ≡ true → is_ssid h.ssid.now ≡ true
named h a first can = (and_parts _ _ (and_parts _ _ can).0).1

-- a network with no nodes lists each that can start there
sta_free : (h : Header) (a : Mac) → is_single a.0 ≡ true → sta_fault (bare h) a ≡ None
sta_free h a single = ap (λ (b : Bool). if not b then Some Unfit else None) single

ap_free : (h : Header) (a : Mac) (id : List ℕ) → is_single a.0 ≡ true → is_id id ≡ true → ap_fault (bare h) a id ≡ None
ap_free h a id single sized =
    ap (λ (b : Bool). if not b then Some Unfit else if not (is_id id) then Some Unfit else None) single
    ∙ ap (λ (b : Bool). if not b then Some Unfit else None) sized

caused : (can : Bool) (fault : Option Untaken) (why : Untaken) → can ≡ true → fault ≡ None → IsCause fault why → IsStartCause can why
caused can fault Unfit is none cause = absurd cc
caused can fault Full is none cause = absurd cc
caused can fault NoMemory is none cause = is

-- ---- a station

pub station_unnamed : (h : Header) (a : Mac) (first : ℕ) (why : Untaken) → can_start h a first ≡ true → IsStartCause (is_ssid h.ssid.now) why → IsStartCause (can_start h a first) why
station_unnamed h a first Unfit can cause = absurd (false≢true (sym cause ∙ named h a first can))
station_unnamed h a first Full can cause = absurd cause
station_unnamed h a first NoMemory can cause = can

pub station_unlisted : (h : Header) (a : Mac) (first : ℕ) (d : Domain) (why : Untaken) → can_start h a first ≡ true → d ≡ bare h → IsCause (sta_fault d a) why → IsStartCause (can_start h a first) why
station_unlisted h a first d why can is cause =
    caused (can_start h a first) (sta_fault (bare h) a) why can (sta_free h a (and_parts _ _ can).1) (subst (λ (x : Domain). IsCause (sta_fault x a) why) is cause)

pub ruleset of_station = (station_unnamed, station_unlisted)

-- ---- an access point

-- its parts
ap_can : (h : Header) (a : Mac) (id : List ℕ) (first : ℕ) → can_start_ap h a id first ≡ true → (can_start h a first ≡ true) × (is_id id ≡ true)
ap_can h a id first can = and_parts _ _ (and_parts _ _ can).0

pub ap_unnamed : (h : Header) (a : Mac) (id : List ℕ) (first : ℕ) (why : Untaken) → can_start_ap h a id first ≡ true → IsStartCause (is_ssid h.ssid.now) why → IsStartCause (can_start_ap h a id first) why
ap_unnamed h a id first Unfit can cause = absurd (false≢true (sym cause ∙ named h a first (ap_can h a id first can).0))
ap_unnamed h a id first Full can cause = absurd cause
ap_unnamed h a id first NoMemory can cause = can

pub ap_unlisted : (h : Header) (a : Mac) (id : List ℕ) (first : ℕ) (d : Domain) (why : Untaken) → can_start_ap h a id first ≡ true → d ≡ bare h → IsCause (ap_fault d a id) why → IsStartCause (can_start_ap h a id first) why
ap_unlisted h a id first d why can is cause =
    let parts = ap_can h a id first can in
    caused (can_start_ap h a id first) (ap_fault (bare h) a id) why can (ap_free h a id (and_parts _ _ parts.0).1 parts.1)
    (subst (λ (x : Domain). IsCause (ap_fault x a id) why) is cause)

-- the first keys can be drawn in the network that has the access point too
pub draws_there : (h : Header) (a : Mac) (id : List ℕ) (first : ℕ) (d e : Domain) → d ≡ bare h → e ≡ with_ap d a id → last_draw (bare h) first < draw_end → last_draw e first < draw_end
draws_there h a id first d e is more low =
    subst (λ (x : Domain). last_draw x first < draw_end) (sym more) (subst (λ (x : Domain). last_draw (with_ap x a id) first < draw_end) (sym is) low)

pub ruleset of_access_point = (ap_unnamed, ap_unlisted, draws_there)

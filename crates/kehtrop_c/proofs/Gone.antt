-- What calls did to a node, from what is said of each kind.
use Rattle.std.proofs.Common.{◌≡◌, ℕ, suc, Bool, true, false, if◌then◌else◌, List, [], ◌∷◌, refl, sym, ap, ◌∙◌, subst}
use Rattle.std.specs.Prelude.{◌&&◌, ◌++◌, ◌<◌, nat_lt, nat_le, take, Option, None, Some, is_some, MatchOption, Result, Ok, Err, IfOk, IfErr, OnOk, OnErr, MatchResult}
use Rattle.std.proofs.lemmas.Bool.{false≢true, le-leb, lt-leb}
use Rattle.domain_base.specs.declared.names.Akm.{Akm}
use Rattle.domain_base.specs.declared.names.Mac.{Mac}
use Rattle.domain_base.specs.declared.names.Node.TheVariants.{Ap as ApOf, Sta as StaOf}
use Rattle.run_journal.specs.declared.acts.Act.{Act}
use Rattle.run_journal.specs.declared.acts.Outcome.{Outcome}
use Rattle.run_journal.specs.declared.domain.Domain.{Domain}
use Rattle.run_journal.specs.declared.domain.Extras.{Extras}
use Rattle.run_journal.specs.Listing.{with_ap, with_sta}
use Rattle.run_journal.specs.Questions.{add}
use Rattle.domain_rules.specs.AccessPointRows.{start_acts, last_draw}
use Rattle.domain_rules.specs.Network.{draw_end}
use Rattle.domain_rules.specs.Rows.{NodeEvent, Revoke, Secret}
use Rattle.domain_rules.specs.Here.{here}
use Rattle.key_holders.specs.declared.rows.HeldRow.{HeldRow}
use Rattle.key_holders.specs.Listed.{rows_at}
use Rattle.node_base.specs.Changing.{after}
use Rattle.node_base.specs.Events.{IsEventAt, Steps, seen}
use Rattle.station_node.specs.Stands.{Stands}
use Rattle.station_node.specs.State.{State as StationState}
use Rattle.ap_node.specs.Stands.{StandsWith}
use Rattle.ap_node.specs.State.{State as ApState}
use Rattle.embedded_node.specs.declared.header.Header.{Header}
use Rattle.embedded_node.specs.declared.untaken.Untaken.{Untaken}
use Rattle.embedded_node.specs.declared.untaken.Untaken.TheVariants.{Unfit, Full, NoMemory}
use Rattle.embedded_node.specs.Events.{IsCauseOf}
use Rattle.embedded_node.specs.Free.{is_single, is_id, ap_fault, sta_fault, IsCause}
use Rattle.embedded_node.specs.Headers.{bare, mdid_by}
use Rattle.embedded_node.specs.Pushed.{Holding as HoldingOf, alone, given, left_by}
use Rattle.embedded_node.specs.Starts.{is_ssid, can_start, can_start_ap, IsStartCause}
use Rattle.embedded_node.specs.States.{Station as StationOf, Ap as ApAt}
use Rattle.kehtrop_c.specs.declared.crossing.Config.{Config}
use Rattle.kehtrop_c.specs.declared.inner.Role.{Role}
use Rattle.kehtrop_c.specs.declared.inner.Role.TheVariants.{Station, Ap}
use Rattle.kehtrop_c.specs.declared.inner.Inner.{Inner}
use Rattle.kehtrop_c.specs.Crossing.{status_of, status_untaken, akm_of, has_mfp, is_config, last_of, can_station, can_access_point, IsHeaderOf, IsNetworkOf}
use Rattle.kehtrop_c.specs.declared.crossing.R1Key.{R1Key}
use Rattle.kehtrop_c.specs.Transfers.{mac_of, unpushed}
use Rattle.kehtrop_c.specs.Going.{LooksBy, Pushed, Was_pushed, Was_not_pushed, PushedIn, network, Stays, Became, Was_done, Was_not, Answered, Listed, Was_listed, Was_not_listed, ListedApIn, ListedStaIn, ap_unlisted, sta_unlisted, Tells, Holds, Started, Was_started, Was_not_started, IsStation, IsAccessPoint}

-- ---- nothing was done

pub stays : (r : Role) → Stays r r
stays r = record { same = refl; wait = refl; pushed = refl; stands = λ first h stands. stands }

station_stays : (s t : StationOf) → t ≡ s → Stays (Station s) (Station t)
station_stays s t same = subst (λ (x : StationOf). Stays (Station s) (Station x)) (sym same) (stays (Station s))

ap_stays : (s t : ApAt) → t.domain ≡ s.domain → t.node ≡ s.node → rows_at t.holders.rows 0 ≡ rows_at s.holders.rows 0 → t.holders.pushed ≡ s.holders.pushed → t.acts ≡ s.acts → Stays (Ap s) (Ap t)
ap_stays s t domain node rows pushed acts = record {
  same = domain;
  wait = acts;
  pushed = pushed;
  stands = λ first h stands.
      let one = subst (λ (d : Domain). StandsWith d first s.node (rows_at s.holders.rows 0) h) (sym domain) stands in
      let two = subst (λ (n : ApState). StandsWith t.domain first n (rows_at s.holders.rows 0) h) (sym node) one in
      subst (λ (xs : List HeldRow). StandsWith t.domain first t.node xs h) (sym rows) two;
}

-- ---- an event

-- a station has nothing to forget
nothing_left : (d : Domain) (event : NodeEvent) → [] ≡ left_by d event []
nothing_left d (Revoke k) = refl
nothing_left d (Secret (Some k) psk) = refl
nothing_left d (Secret None psk) = refl
nothing_left d _ = refl

pub station_became : (r : Result Outcome Untaken) (event : NodeEvent) (s t : StationOf) (status : ℕ)
    → MatchResult r (λ outcome. status ≡ status_of outcome) (λ why. status ≡ status_untaken why)
    → OnOk r (t.domain ≡ after s.domain event)
    → IfOk r (λ outcome. (first : ℕ) (h : List Act) → Stands s.domain first s.node h → Steps (here s.domain first (StaOf 0)) event (Stands t.domain first t.node) h (seen s.acts t.acts outcome))
    → IfErr r (IsCauseOf (IsEventAt s.domain (StaOf 0) event)) → OnErr r (t ≡ s) → Became (Station s) (Station t) event status
station_became (Ok outcome) event s t status says domain steps cause same = Was_done domain (nothing_left s.domain event) (λ first h stands.
    let x = steps first h stands in
    record { acts = x.acts; adds = x.adds; wait = x.waiting; says = says ∙ ap status_of x.came; stands = x.stands; looks = tt })
station_became (Err why) event s t status says domain steps cause same = Was_not why says cause (station_stays s t same)

pub ap_became : (r : Result Outcome Untaken) (event : NodeEvent) (s t : ApAt) (status : ℕ)
    → MatchResult r (λ outcome. status ≡ status_of outcome) (λ why. status ≡ status_untaken why)
    → OnOk r (t.domain ≡ after s.domain event) → OnErr r (t.domain ≡ s.domain)
    → IfOk r (λ outcome. (first : ℕ) (h : List Act) → StandsWith s.domain first s.node (rows_at s.holders.rows 0) h
    → Steps (here s.domain first (ApOf 0)) event (StandsWith t.domain first t.node (rows_at t.holders.rows 0)) h (seen s.acts t.acts outcome))
    → IfErr r (IsCauseOf (IsEventAt s.domain (ApOf 0) event))
    → OnErr r (t.node ≡ s.node) → OnErr r (rows_at t.holders.rows 0 ≡ rows_at s.holders.rows 0) → OnErr r (t.acts ≡ s.acts)
    → OnOk r ((first : ℕ) (h : List Act) → StandsWith s.domain first s.node (rows_at s.holders.rows 0) h → (g : List Act) → t.acts ≡ s.acts ++ g → LooksBy (Ap s) g)
    → OnOk r (t.holders.pushed ≡ left_by s.domain event s.holders.pushed) → OnErr r (t.holders.pushed ≡ s.holders.pushed) → Became (Ap s) (Ap t) event status
ap_became (Ok outcome) event s t status says domain same steps cause node rows acts looks left pushed = Was_done domain left (λ first h stands.
    let x = steps first h stands in
    record { acts = x.acts; adds = x.adds; wait = x.waiting; says = says ∙ ap status_of x.came; stands = x.stands; looks = looks first h stands x.acts x.waiting })
ap_became (Err why) event s t status says domain same steps cause node rows acts looks left pushed = Was_not why says cause (ap_stays s t same node rows pushed acts)

-- what was asked for
pub answered : (old new : Role) (o : Option NodeEvent) (event : NodeEvent) (status : ℕ) → o ≡ Some event → Became old new event status → Answered old new o status
answered old new o event status is became = subst (λ (x : Option NodeEvent). Answered old new x status) (sym is) became

pub unanswered : (r : Role) (o : Option NodeEvent) → o ≡ None → Answered r r o 2
unanswered r o none = subst (λ (x : Option NodeEvent). Answered r r x 2) (sym none) (refl, stays r)

-- ---- a listing

pub station_listed : (r : Result (Unit {0}) Untaken) (s t : StationOf) (address : Mac) (id : List ℕ) (status : ℕ)
    → MatchResult r (λ _. status ≡ 0) (λ why. status ≡ status_untaken why) → t.acts ≡ s.acts
    → ((first : ℕ) (h : List Act) → Stands s.domain first s.node h → Stands t.domain first t.node h)
    → OnOk r (t.domain ≡ with_ap s.domain address id) → IfErr r (IsCause (ap_fault s.domain address id)) → OnErr r (t ≡ s)
    → Listed (Station s) (Station t) (with_ap s.domain address id) (ap_fault s.domain address id) status
station_listed (Ok u) s t address id status says acts stands larger cause same = Was_listed says larger acts refl stands
station_listed (Err why) s t address id status says acts stands larger cause same = Was_not_listed why says cause (station_stays s t same)

pub ap_listed : (r : Result (Unit {0}) Untaken) (s t : ApAt) (address : Mac) (psk : List ℕ) (status : ℕ)
    → MatchResult r (λ _. status ≡ 0) (λ why. status ≡ status_untaken why) → t.acts ≡ s.acts
    → ((first : ℕ) (h : List Act) → StandsWith s.domain first s.node (rows_at s.holders.rows 0) h → StandsWith t.domain first t.node (rows_at t.holders.rows 0) h)
    → OnOk r (t.domain ≡ with_sta s.domain address psk) → t.holders.pushed ≡ s.holders.pushed → IfErr r (IsCause (sta_fault s.domain address)) → OnErr r (t ≡ s)
    → Listed (Ap s) (Ap t) (with_sta s.domain address psk) (sta_fault s.domain address) status
ap_listed (Ok u) s t address psk status says acts stands larger pushed cause same = Was_listed says larger acts pushed stands
ap_listed (Err why) s t address psk status says acts stands larger pushed cause same =
    Was_not_listed why says cause (subst (λ (x : ApAt). Stays (Ap s) (Ap x)) (sym same) (stays (Ap s)))

pub other_listed : (r : Result (Unit {0}) Untaken) (s t : ApAt) (address : Mac) (id : List ℕ) (status : ℕ)
    → MatchResult r (λ _. status ≡ 0) (λ why. status ≡ status_untaken why) → t.acts ≡ s.acts
    → ((first : ℕ) (h : List Act) → StandsWith s.domain first s.node (rows_at s.holders.rows 0) h → StandsWith t.domain first t.node (rows_at t.holders.rows 0) h)
    → OnOk r (t.domain ≡ with_ap s.domain address id) → t.holders.pushed ≡ s.holders.pushed → IfErr r (IsCause (ap_fault s.domain address id)) → OnErr r (t ≡ s)
    → Listed (Ap s) (Ap t) (with_ap s.domain address id) (ap_fault s.domain address id) status
other_listed (Ok u) s t address id status says acts stands larger pushed cause same = Was_listed says larger acts pushed stands
other_listed (Err why) s t address id status says acts stands larger pushed cause same =
    Was_not_listed why says cause (subst (λ (x : ApAt). Stays (Ap s) (Ap x)) (sym same) (stays (Ap s)))

-- ---- a PMK-R1 that another key holder gave

pub was_pushed : (r : Result (Unit {0}) Untaken) (s t : ApAt) (id : List ℕ) (k : R1Key) (status : ℕ)
    → MatchResult r (λ _. status ≡ 0) (λ why. status ≡ status_untaken why) → t.domain ≡ s.domain → t.node ≡ s.node → t.acts ≡ s.acts
    → OnOk r (t.holders ≡ given id k.r0_name (mac_of k.station) k.key s.holders) → OnOk r (unpushed (Ap s) id (mac_of k.station) ≡ None) → IfErr r (IsCause (unpushed (Ap s) id (mac_of k.station))) → OnErr r (t ≡ s)
    → Pushed (Ap s) (Ap t) id k status
was_pushed (Ok u) s t id k status says domain node acts is fit cause same = Was_pushed says fit domain acts
    (λ first h stands. subst (λ (l : HoldingOf). StandsWith t.domain first t.node (rows_at l.rows 0) h) (sym is)
    (subst (λ (x : ApState). StandsWith t.domain first x (rows_at s.holders.rows 0) h) (sym node)
    (subst (λ (d : Domain). StandsWith d first s.node (rows_at s.holders.rows 0) h) (sym domain) stands))) is
was_pushed (Err why) s t id k status says domain node acts is fit cause same =
    Was_not_pushed why says cause (subst (λ (x : ApAt). Stays (Ap s) (Ap x)) (sym same) (stays (Ap s)))

pub station_takes_none : (r : Role) (s : StationOf) (id : List ℕ) (k : R1Key) → r ≡ Station s → Pushed r r id k 2
station_takes_none r s id k is = subst (λ (x : Role). Pushed x x id k 2) (sym is) (Was_not_pushed Unfit refl refl (stays (Station s)))

pub pushed_in : (v w : Option Inner) (a b : Inner) (id : List ℕ) (k : R1Key) (status : ℕ) → v ≡ Some a → w ≡ Some b → Pushed a.role b.role id k status → PushedIn v w id k status
pushed_in v w a b id k status was is pushed =
    subst (λ (x : Option Inner). PushedIn x w id k status) (sym was) (subst (λ (y : Option Inner). PushedIn (Some a) y id k status) (sym is) pushed)

-- the node is of the other kind
unlisted : (r : Role) (larger : Domain) → Listed r r larger (Some Unfit) 2
unlisted r larger = Was_not_listed Unfit refl refl (stays r)

pub station_lists_no_station : (r : Role) (s : StationOf) (address : Mac) (psk : List ℕ) → r ≡ Station s → Listed r r (with_sta (network r) address psk) (sta_unlisted r address) 2
station_lists_no_station r s address psk is =
    subst (λ (x : Role). Listed x x (with_sta (network x) address psk) (sta_unlisted x address) 2) (sym is) (unlisted (Station s) (with_sta s.domain address psk))

-- of the node in a handle
pub listed_ap_in : (v w : Option Inner) (a b : Inner) (address : Mac) (id : List ℕ) (status : ℕ) → v ≡ Some a → w ≡ Some b
    → Listed a.role b.role (with_ap (network a.role) address id) (ap_unlisted a.role address id) status → ListedApIn v w address id status
listed_ap_in v w a b address id status was is listed =
    subst (λ (x : Option Inner). ListedApIn x w address id status) (sym was) (subst (λ (y : Option Inner). ListedApIn (Some a) y address id status) (sym is) listed)

pub listed_sta_in : (v w : Option Inner) (a b : Inner) (address : Mac) (psk : List ℕ) (status : ℕ) → v ≡ Some a → w ≡ Some b
    → Listed a.role b.role (with_sta (network a.role) address psk) (sta_unlisted a.role address) status → ListedStaIn v w address psk status
listed_sta_in v w a b address psk status was is listed =
    subst (λ (x : Option Inner). ListedStaIn x w address psk status) (sym was) (subst (λ (y : Option Inner). ListedStaIn (Some a) y address psk status) (sym is) listed)

-- ---- what is told

pub station_tells : (s t : StationOf) (told : Option Act) → t.domain ≡ s.domain → t.node ≡ s.node
    → MatchOption told (s.acts ≡ []) (λ act. s.acts ≡ act ∷ t.acts) → Tells (Station s) (Station t) told
station_tells s t told domain node first = record {
  same = domain;
  pushed = refl;
  stands = λ n h stands. subst (λ (x : StationState). Stands t.domain n x h) (sym node) (subst (λ (d : Domain). Stands d n s.node h) (sym domain) stands);
  is_first = first;
}

pub ap_tells : (s t : ApAt) (told : Option Act) → t.domain ≡ s.domain → t.node ≡ s.node → t.holders ≡ s.holders
    → MatchOption told (s.acts ≡ []) (λ act. s.acts ≡ act ∷ t.acts) → Tells (Ap s) (Ap t) told
ap_tells s t told domain node holders first = record {
  same = domain;
  pushed = ap (λ (l : HoldingOf). l.pushed) holders;
  stands = λ n h stands. subst (λ (l : HoldingOf). StandsWith t.domain n t.node (rows_at l.rows 0) h) (sym holders)
      (subst (λ (x : ApState). StandsWith t.domain n x (rows_at s.holders.rows 0) h) (sym node)
      (subst (λ (d : Domain). StandsWith d n s.node (rows_at s.holders.rows 0) h) (sym domain) stands));
  is_first = first;
}

-- ---- a start

network_of : (c : Config) (h : Header) → IsHeaderOf c h → IsNetworkOf c (bare h)
network_of c h is = record {
  seed = is.seed;
  ssid = is.ssid;
  akm = is.akm;
  mdid = ap (mdid_by h.akm) is.mdid;
  extras = is.extras;
}

is_station : (first : ℕ) (c : Config) (psk : List ℕ) (h : Header) (s : StationOf) → IsHeaderOf c h → s.acts ≡ [] → Stands s.domain first s.node []
    → s.domain ≡ with_sta (bare h) (record { 0 = c.address }) psk → IsStation c psk first (Station s)
is_station first c psk h s is empty stands larger =
    let configured = network_of c h is in
    record {
      begins = subst (λ (g : List Act). Stands s.domain first s.node (add g [])) (sym empty) stands;
      is = refl;
      configured = subst (IsNetworkOf c) (sym larger) (record { seed = configured.seed; ssid = configured.ssid; akm = configured.akm; mdid = configured.mdid; extras = configured.extras });
      no_aps = ap (λ (d : Domain). d.aps) larger;
      alone = ap (λ (d : Domain). d.stas) larger;
    }

is_access_point : (first : ℕ) (c : Config) (id : List ℕ) (h : Header) (s : ApAt) → IsHeaderOf c h → s.acts ≡ start_acts s.domain first (ApOf 0)
    → StandsWith s.domain first s.node (rows_at s.holders.rows 0) (add (start_acts s.domain first (ApOf 0)) [])
    → s.domain ≡ with_ap (bare h) (record { 0 = c.address }) id → s.holders ≡ alone id → IsAccessPoint c id first (Ap s)
is_access_point first c id h s is starts stands larger holders =
    let configured = network_of c h is in
    record {
      begins = subst (λ (g : List Act). StandsWith s.domain first s.node (rows_at s.holders.rows 0) (add g [])) (sym starts) stands;
      is = refl;
      configured = subst (IsNetworkOf c) (sym larger) (record { seed = configured.seed; ssid = configured.ssid; akm = configured.akm; mdid = configured.mdid; extras = configured.extras });
      alone = ap (λ (d : Domain). d.aps) larger;
      no_stas = ap (λ (d : Domain). d.stas) larger;
      none_pushed = ap (λ (l : HoldingOf). l.pushed) holders;
    }

-- the name of the network is longer than its room, the suite is none, or management frames are not protected with it
and_false : (b : Bool) → (b && false) ≡ false
and_false true = refl
and_false false = refl

pub too_long : (c : Config) → 32 < c.ssid_len → is_config c ≡ false
too_long c long = ap (λ (b : Bool). b && has_mfp c.akm c.mfp && is_some (akm_of c.akm)) (lt-leb c.ssid_len 32 long)

pub unprotected_suite : (c : Config) → has_mfp c.akm c.mfp ≡ false → is_config c ≡ false
unprotected_suite c not_with =
    ap (λ (b : Bool). nat_le c.ssid_len 32 && b && is_some (akm_of c.akm)) not_with
    ∙ ap (λ (b : Bool). b && is_some (akm_of c.akm)) (and_false (nat_le c.ssid_len 32))

pub no_suite : (c : Config) → akm_of c.akm ≡ None → is_config c ≡ false
no_suite c none =
    ap (λ (o : Option Akm). nat_le c.ssid_len 32 && has_mfp c.akm c.mfp && is_some o) none ∙ and_false (nat_le c.ssid_len 32 && has_mfp c.akm c.mfp)

pub ruleset unconfigured = (too_long, unprotected_suite, no_suite)

-- a configuration by which a node is told
is_such : (c : Config) (h : Header) → IsHeaderOf c h → is_config c ≡ true
is_such c h is =
    ap (λ (b : Bool). b && has_mfp c.akm c.mfp && is_some (akm_of c.akm)) (le-leb c.ssid_len 32 is.room)
    ∙ ap (λ (b : Bool). b && is_some (akm_of c.akm)) is.mfp ∙ ap (λ (o : Option Akm). is_some o) is.akm

can_station_by : (c : Config) (h : Header) (first : ℕ) → IsHeaderOf c h → can_start h (record { 0 = c.address }) first ≡ can_station c first
can_station_by c h first is =
    ap (λ (octets : List ℕ). nat_lt first draw_end && is_ssid octets && is_single c.address) is.ssid
    ∙ sym (ap (λ (b : Bool). b && (nat_lt first draw_end && is_ssid (take c.ssid_len c.ssid) && is_single c.address)) (is_such c h is))

can_ap_by : (c : Config) (h : Header) (id : List ℕ) (first : ℕ) → IsHeaderOf c h → can_start_ap h (record { 0 = c.address }) id first ≡ can_access_point c id first
can_ap_by c h id first is =
    ap (λ (octets : List ℕ). nat_lt first draw_end && is_ssid octets && is_single c.address && is_id id && nat_lt (last_draw (bare h) first) draw_end) is.ssid
    ∙ ap (λ (x : Extras). nat_lt first draw_end && is_ssid (take c.ssid_len c.ssid) && is_single c.address && is_id id && nat_lt (if x.mfp then suc first else first) draw_end) is.extras
    ∙ sym (ap (λ (b : Bool). b && (nat_lt first draw_end && is_ssid (take c.ssid_len c.ssid) && is_single c.address && is_id id && nat_lt (last_of c first) draw_end)) (is_such c h is))

-- what is put in is such
holds : (P : Role → Type 0) (r : Role) (v : Option Inner) → P r → Holds (λ x. x ≡ r) v → Holds P v
holds P r None is held = held
holds P r (Some a) is held = subst P (sym held) is

-- a node that can start so is put in, or memory runs out
put_by : (P : Role → Type 0) (r : Role) (can : Bool) (old new : Option Inner) (status : ℕ) → can ≡ true → P r → Started (λ x. x ≡ r) true old new status → Started P can old new status
put_by P r can old new status able is (Was_started says here held) = Was_started says able (holds P r new is held)
put_by P r can old new status able is (Was_not_started Unfit says cause same) = absurd (false≢true (sym cause))
put_by P r can old new status able is (Was_not_started Full says cause same) = absurd cause
put_by P r can old new status able is (Was_not_started NoMemory says cause same) = Was_not_started NoMemory says able same

pub was_put : (r : Role) (a : Inner) (old new : Option Inner) → a.role ≡ r → new ≡ Some a → Started (λ x. x ≡ r) true old new 0
was_put r a old new is put = Was_started refl refl (subst (λ (v : Option Inner). Holds (λ x. x ≡ r) v) (sym put) is)

pub was_not_put : (r : Role) (v : Option Inner) → Started (λ x. x ≡ r) true v v 3
was_not_put r v = Was_not_started NoMemory refl refl refl

-- no node is told by the configuration
pub no_station : (c : Config) (psk : List ℕ) (first : ℕ) (v : Option Inner) → is_config c ≡ false → Started (IsStation c psk first) (can_station c first) v v 2
no_station c psk first v none = Was_not_started Unfit refl (ap (λ (b : Bool). b && (nat_lt first draw_end && is_ssid (take c.ssid_len c.ssid) && is_single c.address)) none) refl

pub no_access_point : (c : Config) (id : List ℕ) (first : ℕ) (v : Option Inner) → is_config c ≡ false → Started (IsAccessPoint c id first) (can_access_point c id first) v v 2
no_access_point c id first v none =
    Was_not_started Unfit refl (ap (λ (b : Bool). b && (nat_lt first draw_end && is_ssid (take c.ssid_len c.ssid) && is_single c.address && is_id id && nat_lt (last_of c first) draw_end)) none) refl

-- a node did not start
pub station_not_begun : (n first : ℕ) (c : Config) (psk : List ℕ) (h : Header) (why : Untaken) (v : Option Inner) → IsHeaderOf c h → IsStartCause (can_start h (record { 0 = c.address }) first) why
    → n ≡ status_untaken why → Started (IsStation c psk first) (can_station c first) v v n
station_not_begun n first c psk h why v is cause says =
    Was_not_started why says (subst (λ (b : Bool). IsStartCause b why) (can_station_by c h first is) cause) refl

pub ap_not_begun : (n first : ℕ) (c : Config) (id : List ℕ) (h : Header) (why : Untaken) (v : Option Inner) → IsHeaderOf c h → IsStartCause (can_start_ap h (record { 0 = c.address }) id first) why
    → n ≡ status_untaken why → Started (IsAccessPoint c id first) (can_access_point c id first) v v n
ap_not_begun n first c id h why v is cause says =
    Was_not_started why says (subst (λ (b : Bool). IsStartCause b why) (can_ap_by c h id first is) cause) refl

-- a node started
pub station_begins : (n first : ℕ) (c : Config) (psk : List ℕ) (h : Header) (s : StationOf) (old new : Option Inner) → IsHeaderOf c h → s.acts ≡ []
    → Stands s.domain first s.node [] → s.domain ≡ with_sta (bare h) (record { 0 = c.address }) psk → can_start h (record { 0 = c.address }) first ≡ true
    → Started (λ x. x ≡ Station s) true old new n → Started (IsStation c psk first) (can_station c first) old new n
station_begins n first c psk h s old new is empty stands larger able put =
    put_by (IsStation c psk first) (Station s) (can_station c first) old new n (sym (can_station_by c h first is) ∙ able) (is_station first c psk h s is empty stands larger) put

pub ap_begins : (n first : ℕ) (c : Config) (id : List ℕ) (h : Header) (s : ApAt) (old new : Option Inner) → IsHeaderOf c h → s.acts ≡ start_acts s.domain first (ApOf 0)
    → StandsWith s.domain first s.node (rows_at s.holders.rows 0) (add (start_acts s.domain first (ApOf 0)) [])
    → s.domain ≡ with_ap (bare h) (record { 0 = c.address }) id → s.holders ≡ alone id → can_start_ap h (record { 0 = c.address }) id first ≡ true
    → Started (λ x. x ≡ Ap s) true old new n → Started (IsAccessPoint c id first) (can_access_point c id first) old new n
ap_begins n first c id h s old new is starts stands larger holders able put =
    put_by (IsAccessPoint c id first) (Ap s) (can_access_point c id first) old new n (sym (can_ap_by c h id first is) ∙ able) (is_access_point first c id h s is starts stands larger holders) put

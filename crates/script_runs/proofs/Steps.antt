-- A line that is taken, and what comes of it: what can be done, how the journal grows, and what the world is after it.
use Rattle.std.proofs.Common.{◌≡◌, ◌≢◌, ℕ, suc, ◌+◌, ◌^◌, ◌<◌, ◌≤◌, Bool, true, false, if◌then◌else◌, List, [], ◌∷◌, ◌++◌, length, length-append, Option, Some, None, Result, Ok, refl, sym, ap, subst, ◌∙◌, arith}
use Rattle.domain_base.specs.declared.names.Node.TheVariants.{Ap, Sta}
use Rattle.run_journal.specs.declared.domain.Domain.{Domain}
use Rattle.run_journal.specs.declared.domain.ListedAp.{ListedAp}
use Rattle.run_journal.specs.declared.domain.Event.{Event}
use Rattle.run_journal.specs.declared.domain.Event.TheVariants.{Connect, Roam, Deliver, Alter, Cut, Inject, Retry, Rekey, Send, Expire, Revoke, Leave, Secret, Renew, Announce}
use Rattle.run_journal.specs.declared.acts.Entry.{Entry}
use Rattle.domain_rules.specs.Network.{InForm, is_ap}
use Rattle.domain_rules.specs.Explained.{started}
use Rattle.domain_world.specs.Ordering.{node_of}
use Rattle.domain_rules.proofs.Journals.{started_none}
use Rattle.run_journal.specs.Listing.{with_ap, with_sta, with_extra}
use Rattle.domain_world.specs.State.{State}
use Rattle.run_journal.specs.Secrets.{changes_keys}
use Rattle.domain_world.specs.Owning.{Owns, IsOneIn, AreEventsIn, IsSince}
use Rattle.script_lines.specs.declared.header.Header.{Header}
use Rattle.frame_script.specs.Script.{is_within, line_says, said_after, rounds_after}
use Rattle.script_lines.specs.Script.{Fault, Draft, AtVersion, AtHeader, AtNodes, InRound, Said, Goes, ListsAp, ListsSta, Adds, Asks, BeginsRound, EndsRound}
use Rattle.frame_script.specs.Headers.{Reading, IsDomain, CanAskFor, TakesStep, HasRead, sizes_by, sizes_named, sizes_of}
use Rattle.script_lines.specs.Headers.{IsNetwork, CanAddExtra, IsHeaderStep, IsAtAp}
use Rattle.script_lines.specs.declared.step.Step.{Step as Asked}
use Rattle.script_lines.specs.declared.step.Step.TheVariants as step
use Rattle.script_runs.specs.States.{Waiting, IsHeader, Wait, IsAt, IsOwn, IsNone, IsWorldOf, CanBegin, CanAsk, CanEnd, CanDo, CanRun, Stays, Lists, DidAsk, HasBegun, DidEnd, Did, DidRun, run_count}
use Rattle.script_runs.proofs.Goings.{same_network, same_round}
use Rattle.script_runs.proofs.Growing.{Grows, Grows-same, Grows-step, Grows-follows, Grows-started}
use Rattle.script_runs.proofs.Networks.{all_push, InForm-ap, InForm-sta}
use Rattle.script_runs.proofs.Since.{can_since, since_first, header_at}
use Rattle.script_runs.proofs.Sizes.{event_in}

pub one_saying : (says : Result Said Fault) (said other : Said) → says ≡ Ok said → says ≡ Ok other → said ≡ other
one_saying says said other p q = cc (p, q)

-- ---- where the script stands

pub no_nodes : (draft : Draft) (h : Header) → IsHeader draft → draft ≡ AtNodes h → ⊥
no_nodes draft h due is = subst IsHeader is due

pub no_round : (draft : Draft) (h : Header) (count : ℕ) → IsHeader draft → draft ≡ InRound h count → ⊥
no_round draft h count due is = subst IsHeader is due

pub no_asking : (draft : Draft) (sizes : List ℕ) (event : Event) → IsHeader draft → CanAskFor draft sizes event → ⊥
no_asking AtVersion sizes event due can = can
no_asking (AtHeader awaited h) sizes event due can = can
no_asking (AtNodes h) sizes event due can = due
no_asking (InRound h count) sizes event due can = due

-- outside rounds
pub outside : (draft : Draft) (h : Header) (w : State) (a : Waiting) (sizes : List ℕ) (j : List Entry) → IsAt draft w a sizes j → draft ≡ AtNodes h → IsSince h.network w j × (a ≡ None)
outside draft h w a sizes j at is = subst (λ (x : Draft). IsAt x w a sizes j) is at

-- and in one
pub within : (draft : Draft) (h : Header) (count : ℕ) (w : State) (a : Waiting) (sizes : List ℕ) (j : List Entry) → IsAt draft w a sizes j → draft ≡ InRound h count → IsAt (InRound h count) w a sizes j
within draft h count w a sizes j at is = subst (λ (x : Draft). IsAt x w a sizes j) is at

-- whatever the reader has seen, a line names the frames of the whole journal
named_header : (draft : Draft) (sizes : List ℕ) (j : List Entry) → IsHeader draft → sizes_by draft sizes (sizes_of j) ≡ sizes_of j
named_header AtVersion sizes j due = refl
named_header (AtHeader awaited h) sizes j due = refl
named_header (AtNodes h) sizes j due = absurd due
named_header (InRound h count) sizes j due = absurd due

named_at : (draft : Draft) (w : State) (a : Waiting) (sizes : List ℕ) (j : List Entry) → IsAt draft w a sizes j → sizes_by draft sizes (sizes_of j) ≡ sizes_of j
named_at AtVersion w a sizes j at = refl
named_at (AtHeader awaited h) w a sizes j at = refl
named_at (AtNodes h) w a sizes j at = refl
named_at (InRound h count) w None sizes j at = absurd at
named_at (InRound h count) w (Some events) sizes j at = at.same

pub named : (world : Option State) (a : Waiting) (r : Reading) (j : List Entry) → IsWorldOf world a r j → sizes_named r j ≡ sizes_of j
named None a r j is = named_header r.draft r.sizes j is.due
named (Some w) a r j is = named_at r.draft w a r.sizes j is.at

-- a line that says only that the script goes on
pub same_draft : (old new : Draft) (w : State) (a : Waiting) (seen sizes line : List ℕ) (rounds : ℕ) (j : List Entry) → IsAt old w a seen j → line_says old rounds sizes line ≡ Ok (Goes new) → new ≡ old
same_draft AtVersion new w a seen sizes line rounds j at says = absurd at
same_draft (AtHeader awaited h) new w a seen sizes line rounds j at says = absurd at
same_draft (AtNodes h) new w a seen sizes line rounds j at says = same_network h rounds sizes line new says
same_draft (InRound h count) new w a seen sizes line rounds j at says = same_round h count rounds sizes line new says

-- ---- what a line asks for can be done

-- the network that the reader shows
shown_there : (draft : Draft) (h : Header) (o : Option Domain) → draft ≡ AtNodes h → IsDomain draft o → o ≡ Some h.network
shown_there draft h o is shown = subst (λ (x : Draft). IsDomain x o) is shown

pub one_network : (draft : Draft) (h : Header) (d : Domain) → draft ≡ AtNodes h → IsDomain draft (Some d) → h.network ≡ d
one_network draft h d is shown = let both : Some d ≡ Some h.network = shown_there draft h (Some d) is shown in cc

pub shown : (draft : Draft) (x : Domain) (asked : Asked) → asked ≡ step.Network → CanBegin draft asked → IsDomain draft (Some x) → IsNetwork x
shown draft x asked is can shows =
    let network = subst (λ (a : Asked). CanBegin draft a) is can in
    subst IsNetwork (one_network draft network.0 x network.1.0 shows) network.1.1

pub not_hidden : (draft : Draft) (asked : Asked) → asked ≡ step.Network → CanBegin draft asked → IsDomain draft None → ⊥
not_hidden draft asked is can shows =
    let network = subst (λ (a : Asked). CanBegin draft a) is can in
    let both : None ≡ Some network.0.network = shown_there draft network.0 None network.1.0 shows in cc

begins : (old new : Draft) (rounds : ℕ) (sizes : List ℕ) (says : Result Said Fault) (asked : Asked) → IsHeader old → TakesStep old new rounds sizes says asked → CanBegin new asked
begins old new rounds sizes says step.Nothing due takes = tt
begins old new rounds sizes says step.Network due takes = (takes.0, (takes.1.1.0, takes.1.1.1.0))
begins old new rounds sizes says (step.Ap address id) due takes = no_nodes old takes.0 due takes.1.1.0
begins old new rounds sizes says (step.Sta address psk) due takes = no_nodes old takes.0 due takes.1.1.0
begins old new rounds sizes says (step.Extra extra) due takes = no_nodes old takes.0 due takes.1.1.0
begins old new rounds sizes says (step.Event event) due takes = no_asking old sizes event due takes.1
begins old new rounds sizes says step.Round due takes = no_nodes old takes.0 due takes.1.1.0
begins old new rounds sizes says step.End due takes = no_round old takes.0 takes.1.0 due takes.1.1.1
begins old new rounds sizes says step.Draw due takes = absurd takes
begins old new rounds sizes says step.Turn due takes = absurd takes

-- behind the header no line tells of a network
no_network : (old new : Draft) (h : Header) (w : State) (a : Waiting) (seen sizes line : List ℕ) (rounds : ℕ) (j : List Entry) → IsAt old w a seen j → line_says old rounds sizes line ≡ Ok (Goes new) → new ≡ AtNodes h → ((e : Header) → old ≢ AtNodes e) → ⊥
no_network old new h w a seen sizes line rounds j at says is due = due h (sym (same_draft old new w a seen sizes line rounds j at says) ∙ is)

can_ask : (draft : Draft) (w : State) (a : Waiting) (seen : List ℕ) (j : List Entry) (event : Event) → Owns w j → IsAt draft w a seen j → w.rounds + 1 < 2 ^ 64 → CanAskFor draft (sizes_of j) event → CanAsk w a j event
can_ask draft w (Some events) seen j event own at few can = tt
can_ask (AtNodes h) w None seen j event own at few can = (few, event_in w j event own (can_since h.network w j (sizes_of j) event at.0 can.0))
can_ask (InRound h count) w None seen j event own at few can = absurd at
can_ask AtVersion w None seen j event own at few can = absurd at
can_ask (AtHeader awaited h) w None seen j event own at few can = absurd at

can_end : (h : Header) (count : ℕ) (w : State) (a : Waiting) (seen : List ℕ) (j : List Entry) → IsAt (InRound h count) w a seen j → w.rounds + 1 < 2 ^ 64 → CanEnd w a j
can_end h count w None seen j at few = absurd at
can_end h count w (Some events) seen j at few = record { each = at.each; few_events = omega (arith, at.count_is, at.few); few = few }

-- where no round was asked for none was run
pub none_run : (w : State) (a : Waiting) (r : Reading) (j : List Entry) → IsOwn w a r j → r.rounds ≡ 0 → w.rounds ≡ 0
none_run w a r j own none = omega (arith, own.rounds, none)

goes_on : (w : State) (a : Waiting) (r : Reading) (new : Draft) (line : List ℕ) (j : List Entry) (asked : Asked) → IsOwn w a r j → r.rounds ≤ 65536 → TakesStep r.draft new r.rounds (sizes_of j) (line_says r.draft r.rounds (sizes_of j) line) asked → CanDo w a j asked
goes_on w a r new line j step.Nothing own few takes = tt
goes_on w a r new line j step.Network own few takes = no_network r.draft new takes.0 w a r.sizes (sizes_of j) line r.rounds j own.at takes.1.0 takes.1.1.0 takes.1.1.1.1
goes_on w a r new line j (step.Ap address id) own few (h, (said, (old, (can, (no_stas, first))))) =
    let same = since_first h.network w j own.own (none_run w a r j own first) (outside r.draft h w a r.sizes j own.at old).0 in
    (none_run w a r j own first, subst (λ (x : Domain). InForm (with_ap x address id)) same (InForm-ap h.network address id (subst InForm (sym same) own.own.form) can))
goes_on w a r new line j (step.Sta address psk) own few (h, (said, (old, (can, first)))) =
    let same = since_first h.network w j own.own (none_run w a r j own first) (outside r.draft h w a r.sizes j own.at old).0 in
    (none_run w a r j own first, subst (λ (x : Domain). InForm (with_sta x address psk)) same (InForm-sta h.network address psk (subst InForm (sym same) own.own.form) can))
goes_on w a r new line j (step.Extra extra) own few (h, (said, (old, (can, first)))) =
    let same = since_first h.network w j own.own (none_run w a r j own first) (outside r.draft h w a r.sizes j own.at old).0 in
    (none_run w a r j own first, subst CanAddExtra same can)
goes_on w a r new line j (step.Event event) own few takes = can_ask r.draft w a r.sizes j event own.own own.at (omega (arith, own.rounds, few)) takes.1
goes_on w a r new line j step.Round own few takes = tt
goes_on w a r new line j step.End own few takes =
    can_end takes.0 takes.1.0 w a r.sizes j (within r.draft takes.0 takes.1.0 w a r.sizes j own.at takes.1.1.1) (omega (arith, own.rounds, few))
goes_on w a r new line j step.Draw own few takes = absurd takes
goes_on w a r new line j step.Turn own few takes = absurd takes

pub can_run : (r s : Reading) (world : Option State) (a : Waiting) (line : List ℕ) (j : List Entry) (asked : Asked) → IsWorldOf world a r j → r.rounds ≤ 65536 → HasRead r s (sizes_of j) line asked → CanRun world a s.draft j asked
can_run r s None a line j asked is few read = begins r.draft s.draft r.rounds (sizes_of j) _ asked is.due read.1.1.1.1
can_run r s (Some w) a line j asked is few read = (is.own, goes_on w a r s.draft line j asked is few read.1.1.1.1)

-- ---- the journal grows

grows_ask : (c : Domain) (w v : State) (a b : Waiting) (event : Event) (rounds : ℕ) (j k : List Entry) → IsSince c w j → rounds ≡ w.rounds → DidAsk w v a b event j k → Grows rounds j k
grows_ask c w v None None event rounds j k since count did = Grows-step c rounds (suc w.rounds) event j k (did.goes c since) (omega (arith, count))
grows_ask c w v None (Some new) event rounds j k since count did = absurd did
grows_ask c w v (Some old) None event rounds j k since count did = absurd did
grows_ask c w v (Some old) (Some new) event rounds j k since count did = Grows-same rounds j k did.0.1

grows_end : (c : Domain) (w v : State) (a b : Waiting) (rounds : ℕ) (j k : List Entry) → IsSince c w j → rounds ≡ w.rounds → DidEnd w v a b j k → Grows rounds j k
grows_end c w v None b rounds j k since count did = absurd did
grows_end c w v (Some old) None rounds j k since count did = Grows-follows c rounds (suc w.rounds) old.items j k (did.goes c since) (omega (arith, count))
grows_end c w v (Some old) (Some new) rounds j k since count did = absurd did

grows_own : (w v : State) (a b : Waiting) (r : Reading) (new : Draft) (j k : List Entry) (says : Result Said Fault) (asked : Asked) → IsOwn w a r j → TakesStep r.draft new r.rounds (sizes_of j) says asked → Did w v a b j k asked → Grows w.rounds j k
grows_own w v a b r new j k says step.Nothing own takes did = Grows-same w.rounds j k did.0.1
grows_own w v a b r new j k says step.Network own takes did = absurd did
grows_own w v a b r new j k says (step.Ap address id) own takes did =
    let before = own.first (none_run w a r j own takes.1.1.1.1.1) in
    Grows-started w.domain v.domain w.rounds address id j k did.0.network before (did.0.begins before)
grows_own w v a b r new j k says (step.Sta address psk) own takes did = Grows-same w.rounds j k did.1.0
grows_own w v a b r new j k says (step.Extra extra) own takes did = Grows-same w.rounds j k did.1.0
grows_own w v a b r new j k says (step.Event event) own takes did = (let x = header_at r.draft w a r.sizes j own.at in grows_ask x.header w v a b event w.rounds j k x.since refl did)
grows_own w v a b r new j k says step.Round own takes did = Grows-same w.rounds j k did.0.1
grows_own w v a b r new j k says step.End own takes did = (let x = header_at r.draft w a r.sizes j own.at in grows_end x.header w v a b w.rounds j k x.since refl did)
grows_own w v a b r new j k says step.Draw own takes did = absurd did
grows_own w v a b r new j k says step.Turn own takes did = absurd did

pub grows : (r s : Reading) (world v : Option State) (a b : Waiting) (j k : List Entry) (line : List ℕ) (asked : Asked) → IsWorldOf world a r j → HasRead r s (sizes_of j) line asked → DidRun world v a b s.draft j k asked → Grows (run_count world) j k
grows r s None v a b j k line asked is read did = Grows-same 0 j k did.1.0
grows r s (Some w) None a b j k line asked is read did = absurd did
grows r s (Some w) (Some v) a b j k line asked is read did = grows_own w v a b r s.draft j k _ asked is read.1.1.1.1 did.1

-- ---- what the world is after it

-- what the line says, and what the reader says then
record IsTaken (r s : Reading) (j : List Entry) (said : Said) : Type 0 where
  draft_is : s.draft ≡ said_after r.draft said
  rounds_are : s.rounds ≡ rounds_after r.draft r.rounds said
  sizes_are : s.sizes ≡ sizes_of j

taken : (r s : Reading) (j : List Entry) (line : List ℕ) (asked : Asked) (said : Said) → (read : HasRead r s (sizes_of j) line asked) → s.sizes ≡ sizes_of j → line_says r.draft r.rounds (sizes_of j) line ≡ Ok said → IsTaken r s j said
taken r s j line asked said read sizes says =
    let same = one_saying _ read.0 said read.1.0 says in
    record {
      draft_is = read.1.1.0 ∙ ap (λ (x : Said). said_after r.draft x) same;
      rounds_are = read.1.1.1.0 ∙ ap (λ (x : Said). rounds_after r.draft r.rounds x) same;
      sizes_are = sizes;
    }

still_due : (old new : Draft) → IsHeader old → IsHeaderStep old new → IsHeader new
still_due old AtVersion due goes = tt
still_due old (AtHeader awaited h) due goes = tt
still_due old (AtNodes h) due goes = no_nodes old h due goes
still_due old (InRound h count) due goes = no_round old h count due goes

begun_since : (c : Domain) (w : State) (k : List Entry) → c ≡ w.domain → k ≡ [] → IsSince w.domain w [] → IsSince c w k
begun_since c w k same none since = subst (λ (d : Domain). IsSince d w k) (sym same) (subst (IsSince w.domain w) (sym none) since)

begun : (r s : Reading) (v : Option State) (a b : Waiting) (line : List ℕ) (j k : List Entry) (asked : Asked) → IsNone a r j → HasRead r s (sizes_of j) line asked → s.sizes ≡ sizes_of j → DidRun None v a b s.draft j k asked → IsWorldOf v b s k
begun r s v a b line j k step.Nothing is read sizes did =
    let takes = read.1.1.1.1 in
    let t = taken r s j line step.Nothing (Goes s.draft) read sizes takes.0 in
    subst (λ (o : Option State). IsWorldOf o b s k) (sym did.0) (record {
      due = still_due r.draft s.draft is.due takes.1;
      no_rounds = t.rounds_are ∙ is.no_rounds;
      no_entries = did.1.0 ∙ is.no_entries;
      no_events = did.1.1 ∙ is.no_events;
    })
begun r s None a b line j k step.Network is read sizes did = absurd did.0
begun r s (Some w) a b line j k step.Network is read sizes did =
    let (h, (says, (new, (network, due)))) = read.1.1.1.1 in
    let t = taken r s j line step.Network (Goes s.draft) read sizes says in
    let same = one_network s.draft h w.domain new did.0.network in
    let none : w.domain.aps ≡ [] = ap (λ (x : Domain). x.aps) (sym same) ∙ network.no_aps in
    record {
      at = subst (λ (x : Draft). IsAt x w b s.sizes k) (sym new) (begun_since h.network w k same (did.1.0 ∙ is.no_entries) did.0.since, did.1.1 ∙ is.no_events);
      rounds = omega (arith, did.0.none);
      own = subst (λ (x : List Entry). Owns w x) (sym (did.1.0 ∙ is.no_entries)) did.0.own;
      first = λ zero. did.1.0 ∙ is.no_entries ∙ sym (started_none w.domain) ∙ ap (λ (aps : List ListedAp). started w.domain (length aps)) (sym none);
    }
begun r s v a b line j k (step.Ap address id) is read sizes did = absurd did.0
begun r s v a b line j k (step.Sta address psk) is read sizes did = absurd did.0
begun r s v a b line j k (step.Extra extra) is read sizes did = absurd did.0
begun r s v a b line j k (step.Event event) is read sizes did = absurd did.0
begun r s v a b line j k step.Round is read sizes did = absurd did.0
begun r s v a b line j k step.End is read sizes did = absurd did.0
begun r s v a b line j k step.Draw is read sizes did = absurd did.0
begun r s v a b line j k step.Turn is read sizes did = absurd did.0

-- the world, its journal and what waits are as before
unmoved : (w v : State) (a b : Waiting) (s : Reading) (j k : List Entry) → IsOwn w b s j → Stays w v j k → IsOwn v b s k
unmoved w v a b s j k own same = subst (λ (x : State). IsOwn x b s k) (sym same.0) (subst (λ (x : List Entry). IsOwn w b s x) (sym same.1) own)

at_again : (draft : Draft) (w : State) (a : Waiting) (seen sizes : List ℕ) (j : List Entry) → IsAt draft w a seen j → sizes ≡ sizes_of j → IsAt draft w a sizes j
at_again AtVersion w a seen sizes j at same = absurd at
at_again (AtHeader awaited h) w a seen sizes j at same = absurd at
at_again (AtNodes h) w a seen sizes j at same = at
at_again (InRound h count) w None seen sizes j at same = absurd at
at_again (InRound h count) w (Some events) seen sizes j at same = record { since = at.since; count_is = at.count_is; few = at.few; each = at.each; same = same }

-- a line that says only that the script goes on
stays : (w v : State) (a b : Waiting) (r s : Reading) (j k : List Entry) → IsOwn w a r j → s.draft ≡ r.draft → s.rounds ≡ r.rounds → s.sizes ≡ sizes_of j → Stays w v j k → b ≡ a → IsOwn v b s k
stays w v a b r s j k own draft rounds sizes same waits =
    let again : IsAt s.draft w a s.sizes j = subst (λ (x : Draft). IsAt x w a s.sizes j) (sym draft) (at_again r.draft w a r.sizes s.sizes j own.at sizes) in
    unmoved w v a b s j k
    (record { at = subst (λ (x : Waiting). IsAt s.draft w x s.sizes j) (sym waits) again; rounds = omega (arith, rounds, own.rounds); own = own.own; first = own.first }) same

-- a line that lists a node
listed : (w v : State) (a b : Waiting) (r s : Reading) (c : Domain) (h : Header) (f : Domain → Domain) (j k : List Entry) → IsOwn w a r j → a ≡ None → s.draft ≡ AtNodes h → h.network ≡ f c → IsSince c w j → s.rounds ≡ r.rounds → Owns v k → Lists w v f j k → b ≡ a → IsOwn v b s k
listed w v a b r s c h f j k own none draft network since rounds new lists waits = record {
  at = subst (λ (x : Draft). IsAt x v b s.sizes k) (sym draft) (subst (λ (d : Domain). IsSince d v k) (sym network) (lists.since c since), waits ∙ none);
  rounds = omega (arith, rounds, own.rounds, lists.rounds);
  own = new;
  first = λ zero. lists.begins (own.first (sym lists.rounds ∙ zero));
}

-- one more that waits
at_ap : (event : Event) → IsAtAp event → is_ap (node_of event) ≡ true
at_ap (Connect s a) at = absurd at
at_ap (Roam s a) at = absurd at
at_ap (Deliver number (Ap k)) at = refl
at_ap (Deliver number (Sta k)) at = absurd at
at_ap (Alter number place mask (Ap k)) at = refl
at_ap (Alter number place mask (Sta k)) at = absurd at
at_ap (Cut number size (Ap k)) at = refl
at_ap (Cut number size (Sta k)) at = absurd at
at_ap (Inject (Ap k) octets) at = refl
at_ap (Inject (Sta k) octets) at = absurd at
at_ap (Retry a s) at = refl
at_ap (Rekey a) at = refl
at_ap (Send (Ap k) to tid octets) at = refl
at_ap (Send (Sta k) to tid octets) at = absurd at
at_ap (Expire a s) at = refl
at_ap (Revoke a s) at = refl
at_ap (Leave s) at = absurd at
at_ap (Secret named psk) at = absurd at
at_ap (Renew a s) at = absurd at
at_ap (Announce a octets) at = absurd at

still_at_ap : (event : Event) → IsAtAp event → changes_keys event ≡ false
still_at_ap (Secret named psk) at = absurd at
still_at_ap _ at = refl

one_waits : (w : State) (h : Header) (count : ℕ) (events more : List Event) (event : Event) (seen sizes : List ℕ) (j : List Entry) → Owns w j → Wait w h.network count events seen j → CanAskFor (InRound h count) (sizes_of j) event → more ≡ events ++ event ∷ [] → sizes ≡ sizes_of j
    → Wait w h.network (suc count) more sizes j
one_waits w h count events more event seen sizes j own wait can is same =
    let here : IsOneIn w.domain (length w.frames) j event = (event_in w j event own (can_since h.network w j (sizes_of j) event wait.since can.0), still_at_ap event can.1.0) in
    record {
      since = wait.since;
      count_is = omega (arith, ap (λ (es : List Event). length es) is, length-append events (event ∷ []), wait.count_is);
      few = omega (arith, can.1.1);
      each = subst (λ (es : List Event). AreEventsIn w.domain (length w.frames) j es) (sym is)
          (all_push (λ (e : Event). IsOneIn w.domain (length w.frames) j e × (is_ap (node_of e) ≡ true)) events event wait.each (here, at_ap event can.1.0));
      same = same;
    }

-- a line that asks for an event
asked_for : (draft : Draft) (w v : State) (a b : Waiting) (r s : Reading) (event : Event) (j k : List Entry) → IsAt draft w a r.sizes j → IsOwn w a r j → CanAskFor draft (sizes_of j) event → s.draft ≡ said_after draft (Asks event)
    → s.rounds ≡ rounds_after draft r.rounds (Asks event) → s.sizes ≡ sizes_of j → Owns v k → DidAsk w v a b event j k → IsOwn v b s k
asked_for AtVersion w v a b r s event j k at own can after rounds sizes new did = absurd at
asked_for (AtHeader awaited h) w v a b r s event j k at own can after rounds sizes new did = absurd at
asked_for (AtNodes h) w v None None r s event j k at own can after rounds sizes new did =
    let next : s.rounds ≡ suc r.rounds = rounds in
    record {
      at = subst (λ (x : Draft). IsAt x v None s.sizes k) (sym after) (did.since h.network at.0, refl);
      rounds = omega (arith, next, own.rounds, did.rounds);
      own = new;
      first = λ zero. absurd (omega (arith, zero, did.rounds));
    }
asked_for (AtNodes h) w v None (Some more) r s event j k at own can after rounds sizes new did = absurd did
asked_for (AtNodes h) w v (Some events) b r s event j k at own can after rounds sizes new did = let some : Some events ≡ None = at.1 in absurd cc
asked_for (InRound h count) w v None b r s event j k at own can after rounds sizes new did = absurd at
asked_for (InRound h count) w v (Some events) None r s event j k at own can after rounds sizes new did = absurd did
asked_for (InRound h count) w v (Some events) (Some more) r s event j k at own can after rounds sizes new did =
    let same : s.rounds ≡ r.rounds = rounds in
    unmoved w v (Some events) (Some more) s j k (record {
      at = subst (λ (x : Draft). IsAt x w (Some more) s.sizes j) (sym after) (one_waits w h count events.items more.items event r.sizes s.sizes j own.own at can did.1 sizes);
      rounds = omega (arith, same, own.rounds);
      own = own.own;
      first = own.first;
    }) did.0

-- a line that begins a round
round_begun : (w v : State) (a b : Waiting) (r s : Reading) (h : Header) (j k : List Entry) → IsOwn w a r j → IsSince h.network w j → s.draft ≡ InRound h 0 → s.rounds ≡ r.rounds → s.sizes ≡ sizes_of j → Stays w v j k → HasBegun b → IsOwn v b s k
round_begun w v a None r s h j k own since draft rounds sizes same new = absurd new
round_begun w v a (Some events) r s h j k own since draft rounds sizes same new =
    let wait : Wait w h.network 0 events.items s.sizes j = record {
      since = since;
      count_is = ap (λ (es : List Event). length es) new;
      few = omega arith;
      each = subst (λ (es : List Event). AreEventsIn w.domain (length w.frames) j es) (sym new) tt;
      same = sizes;
    } in
    unmoved w v a (Some events) s j k
    (record { at = subst (λ (x : Draft). IsAt x w (Some events) s.sizes j) (sym draft) wait; rounds = omega (arith, rounds, own.rounds); own = own.own; first = own.first }) same

-- and one that ends it
round_ended : (w v : State) (a b : Waiting) (r s : Reading) (h : Header) (count : ℕ) (j k : List Entry) → IsOwn w a r j → IsAt (InRound h count) w a r.sizes j → s.draft ≡ AtNodes h → s.rounds ≡ suc r.rounds → Owns v k → DidEnd w v a b j k → IsOwn v b s k
round_ended w v None b r s h count j k own at draft rounds new did = absurd did
round_ended w v (Some events) (Some more) r s h count j k own at draft rounds new did = absurd did
round_ended w v (Some events) None r s h count j k own at draft rounds new did = record {
  at = subst (λ (x : Draft). IsAt x v None s.sizes k) (sym draft) (did.since h.network at.since, refl);
  rounds = omega (arith, rounds, own.rounds, did.rounds);
  own = new;
  first = λ zero. absurd (omega (arith, zero, did.rounds));
}

owned : (w v : State) (a b : Waiting) (r s : Reading) (line : List ℕ) (j k : List Entry) (asked : Asked) → IsOwn w a r j → HasRead r s (sizes_of j) line asked → s.sizes ≡ sizes_of j → Owns v k → Did w v a b j k asked → IsOwn v b s k
owned w v a b r s line j k step.Nothing own read sizes new did =
    let says = read.1.1.1.1.0 in
    let t = taken r s j line step.Nothing (Goes s.draft) read sizes says in
    stays w v a b r s j k own (same_draft r.draft s.draft w a r.sizes (sizes_of j) line r.rounds j own.at says) t.rounds_are sizes did.0 did.1
owned w v a b r s line j k step.Network own read sizes new did = absurd did
owned w v a b r s line j k step.Draw own read sizes new did = absurd did
owned w v a b r s line j k step.Turn own read sizes new did = absurd did
owned w v a b r s line j k (step.Ap address id) own read sizes new did =
    let (h, (says, (old, more))) = read.1.1.1.1 in
    let t = taken r s j line (step.Ap address id) (ListsAp address id) read sizes says in
    let (since, none) = outside r.draft h w a r.sizes j own.at old in
    let then_ : Header = record h { network = with_ap h.network address id } in
    listed w v a b r s h.network then_ (λ d. with_ap d address id) j k own none (t.draft_is ∙ ap (λ (x : Draft). said_after x (ListsAp address id)) old) refl since t.rounds_are new did.0 did.1
owned w v a b r s line j k (step.Sta address psk) own read sizes new did =
    let (h, (says, (old, more))) = read.1.1.1.1 in
    let t = taken r s j line (step.Sta address psk) (ListsSta address psk) read sizes says in
    let (since, none) = outside r.draft h w a r.sizes j own.at old in
    let then_ : Header = record h { network = with_sta h.network address psk } in
    listed w v a b r s h.network then_ (λ d. with_sta d address psk) j k own none (t.draft_is ∙ ap (λ (x : Draft). said_after x (ListsSta address psk)) old) refl since t.rounds_are new did.0 did.1.1
owned w v a b r s line j k (step.Extra extra) own read sizes new did =
    let (h, (says, (old, more))) = read.1.1.1.1 in
    let t = taken r s j line (step.Extra extra) (Adds extra) read sizes says in
    let (since, none) = outside r.draft h w a r.sizes j own.at old in
    let then_ : Header = record h { network = with_extra h.network extra } in
    listed w v a b r s h.network then_ (λ d. with_extra d extra) j k own none (t.draft_is ∙ ap (λ (x : Draft). said_after x (Adds extra)) old) refl since t.rounds_are new did.0 did.1.1
owned w v a b r s line j k (step.Event event) own read sizes new did =
    let takes = read.1.1.1.1 in
    let t = taken r s j line (step.Event event) (Asks event) read sizes takes.0 in
    asked_for r.draft w v a b r s event j k own.at own takes.1 t.draft_is t.rounds_are sizes new did
owned w v a b r s line j k step.Round own read sizes new did =
    let (h, (says, (old, room))) = read.1.1.1.1 in
    let t = taken r s j line step.Round BeginsRound read sizes says in
    round_begun w v a b r s h j k own (outside r.draft h w a r.sizes j own.at old).0 (t.draft_is ∙ ap (λ (x : Draft). said_after x BeginsRound) old) t.rounds_are sizes did.0 did.1
owned w v a b r s line j k step.End own read sizes new did =
    let (h, (count, (says, old))) = read.1.1.1.1 in
    let t = taken r s j line step.End EndsRound read sizes says in
    round_ended w v a b r s h count j k own (within r.draft h count w a r.sizes j own.at old) (t.draft_is ∙ ap (λ (x : Draft). said_after x EndsRound) old) t.rounds_are new did

pub world_then : (r s : Reading) (world v : Option State) (a b : Waiting) (line : List ℕ) (j k : List Entry) (asked : Asked) → IsWorldOf world a r j → HasRead r s (sizes_of j) line asked → s.sizes ≡ sizes_of j → DidRun world v a b s.draft j k asked → IsWorldOf v b s k
world_then r s None v a b line j k asked is read sizes did = begun r s v a b line j k asked is read sizes did
world_then r s (Some w) None a b line j k asked is read sizes did = absurd did
world_then r s (Some w) (Some v) a b line j k asked is read sizes did = owned w v a b r s line j k asked is read sizes did.0 did.1

-- one round more at most
at_most : (b : Bool) (rounds : ℕ) → (if b then rounds else suc rounds) ≤ suc rounds
at_most true rounds = omega arith
at_most false rounds = omega arith

one_more : (draft : Draft) (rounds : ℕ) (said : Said) → rounds_after draft rounds said ≤ suc rounds
one_more draft rounds (Goes next) = omega arith
one_more draft rounds (ListsAp address id) = omega arith
one_more draft rounds (ListsSta address psk) = omega arith
one_more draft rounds (Adds extra) = omega arith
one_more draft rounds (Asks event) = at_most (is_within draft) rounds
one_more draft rounds BeginsRound = omega arith
one_more draft rounds EndsRound = omega arith

pub rounds_then : (r s : Reading) (sizes line : List ℕ) (asked : Asked) → HasRead r s sizes line asked → s.rounds ≤ suc r.rounds
rounds_then r s sizes line asked t = omega (arith, t.1.1.1.0, one_more r.draft r.rounds t.0)

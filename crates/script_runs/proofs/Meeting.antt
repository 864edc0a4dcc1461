-- How the outside is met by a line of both kinds of run: a link is attached, or frames are sent.
use Rattle.std.proofs.Common.{◌≡◌, ◌≢◌, ℕ, zero, suc, ◌<◌, ◌+◌, ◌*◌, ◌⊎◌, List, [], ◌∷◌, ◌++◌, length, length-append, drop, Option, Some, None, Result, Ok, Err, refl, sym, ap, subst, ◌∙◌, inl, inr, arith}
use Rattle.std.specs.Prelude.{reverse}
use Rattle.std.specs.List.{AllByRecursion}
use Rattle.std.proofs.Math.Seq.{drop-nil}
use Rattle.std.proofs.lemmas.List.{append-nil, reverse-append}
use Rattle.std.proofs.lemmas.Grind.{common_steps}
use Rattle.domain_base.specs.declared.names.Mac.{Mac}
use Rattle.domain_base.specs.declared.names.Node.{Node}
use Rattle.domain_base.specs.declared.names.Node.TheVariants.{Ap}
use Rattle.domain_base.specs.declared.radio.SentFrame.{SentFrame}
use Rattle.domain_base.specs.declared.outside.LinkError.{LinkError}
use Rattle.domain_base.specs.Told.{LinkStory, AirStory}
use Rattle.run_journal.specs.declared.domain.Domain.{Domain}
use Rattle.run_journal.specs.Limits.{most_polls}
use Rattle.run_journal.specs.declared.domain.ListedAp.{ListedAp}
use Rattle.run_journal.specs.declared.domain.ListedSta.{ListedSta}
use Rattle.run_journal.specs.declared.domain.Event.{Event}
use Rattle.run_journal.specs.declared.acts.Act.{Act}
use Rattle.run_journal.specs.declared.acts.Entry.{Entry}
use Rattle.run_journal.specs.declared.domain.Extra.{Extra}
use Rattle.run_journal.specs.Listing.{with_ap, with_sta, with_extra}
use Rattle.domain_rules.specs.AccessPointRows.{start_acts}
use Rattle.domain_rules.specs.Explained.{started, push, number_of}
use Rattle.domain_rules.proofs.GroupActs.{all_started}
use Rattle.domain_world.specs.State.{State}
use Rattle.domain_links.specs.declared.breaks.Break.{Break}
use Rattle.domain_links.specs.declared.breaks.Break.TheVariants.{ByLink, ByWrite}
use Rattle.domain_links.specs.NodeOrder.{count, node_at, place_of}
use Rattle.domain_links.specs.Sends.{Send, sends, sends_of, sends_by, sent_by, frames_out, frame_sent}
use Rattle.domain_links.specs.Telling.{Tell}
use Rattle.domain_links.specs.Attached.{Attached, frames_at}
use Rattle.domain_links.specs.Turns.{Delivery}
use Rattle.domain_links.proofs.OnePoll.{Tell-left}
use Rattle.domain_links.proofs.Going.{Tell-same, sends-two}
use Rattle.script_lines.specs.Script.{Draft, AtVersion, AtHeader, AtNodes, InRound, Said, ListsAp, ListsSta, Adds, Asks, EndsRound, Fault}
use Rattle.frame_script.specs.Headers.{Reading, TakesStep, HasRead, sizes_of}
use Rattle.script_lines.specs.Headers.{IsNetwork}
use Rattle.frame_script.specs.declared.reader.Mode.{Mode}
use Rattle.frame_script.specs.declared.reader.Mode.TheVariants.{Replay, Live}
use Rattle.script_lines.specs.declared.step.Step.{Step as Asked}
use Rattle.script_lines.specs.declared.step.Step.TheVariants as step
use Rattle.script_runs.specs.Script.{Rounds, LastLine, Listed, Ran, Turned, Other, last_of}
use Rattle.script_runs.specs.Outer.{Outer, AreHeard, IsHeardPart, IsHeardBy, AllButNew, Cuts, HasRun, IsLeft, left_behind, sends_for, HasLinks, IsLinked, IsLinkedPart, IsUnlinked, IsLinkedAt, IsLinkedPartAt, links_due}
use Rattle.script_runs.specs.States.{Waiting, IsHeader, IsAt, IsOwn, IsWorldOf, IsBegun, DidAsk, DidEnd, Did, DidRun, run_count}
use Rattle.script_runs.specs.Ran.{IsRound}
use Rattle.script_runs.specs.Turning.{Carries, GoesOut}
use Rattle.domain_links.proofs.SameNodes.{HasNodes, back, then_nodes, nodes_at, count_same}
use Rattle.script_runs.proofs.SameNodes.{nodes_since, nodes_after, linked_same, part_same}
use Rattle.script_runs.proofs.Since.{since_first, header_at}
use Rattle.script_runs.proofs.Growing.{Grows, Late, Late-same, Late-follows}
use Rattle.script_runs.proofs.Cutting.{all_earlier, last_cut, late_sends, none_cut, none_gained, none_last}
use Rattle.script_runs.proofs.Steps.{none_run, one_network, one_saying, outside}
use Rattle.script_runs.proofs.Turned.{sends_more}

-- ---- drafts and networks

-- the script is behind its header, on a network with the same nodes
abbrev pub IsIn : Draft → Domain → Type 0
IsIn (AtNodes h) d = HasNodes h.network d
IsIn (InRound h n) d = HasNodes h.network d
IsIn draft d = ⊥

pub is_in : (draft : Draft) (w : State) (a : Waiting) (sizes : List ℕ) (j : List Entry) → IsAt draft w a sizes j → IsIn draft w.domain
is_in AtVersion w a sizes j at = absurd at
is_in (AtHeader awaited h) w a sizes j at = absurd at
is_in (AtNodes h) w a sizes j at = nodes_since h.network w j at.0
is_in (InRound h n) w None sizes j at = absurd at
is_in (InRound h n) w (Some events) sizes j at = nodes_since h.network w j at.since

in_more : (draft : Draft) (d e : Domain) → IsIn draft d → HasNodes d e → IsIn draft e
in_more AtVersion d e is more = absurd is
in_more (AtHeader awaited h) d e is more = absurd is
in_more (AtNodes h) d e is more = then_nodes h.network d e is more
in_more (InRound h n) d e is more = then_nodes h.network d e is more

-- its links, from the draft
pub linked_in : {L : Type 0} (told : L → Option LinkStory) (draft : Draft) (d : Domain) (start : AirStory) (o : Outer L) (turns : List (List Delivery)) (j : List Entry) → IsIn draft d → IsLinkedAt told draft start o turns j → IsLinked told d start o turns j
linked_in told AtVersion d start o turns j is l = absurd is
linked_in told (AtHeader awaited h) d start o turns j is l = absurd is
linked_in told (AtNodes h) d start o turns j is l = linked_same h.network d is told start o turns j l
linked_in told (InRound h n) d start o turns j is l = linked_same h.network d is told start o turns j l

-- and for it
pub linked_out : {L : Type 0} (told : L → Option LinkStory) (draft : Draft) (d : Domain) (start : AirStory) (o : Outer L) (turns : List (List Delivery)) (j : List Entry) → IsIn draft d → IsLinked told d start o turns j → IsLinkedAt told draft start o turns j
linked_out told AtVersion d start o turns j is l = absurd is
linked_out told (AtHeader awaited h) d start o turns j is l = absurd is
linked_out told (AtNodes h) d start o turns j is l = linked_same d h.network (back h.network d is) told start o turns j l
linked_out told (InRound h n) d start o turns j is l = linked_same d h.network (back h.network d is) told start o turns j l

pub part_out : {L : Type 0} (told : L → Option LinkStory) (why : Break) (draft : Draft) (d : Domain) (start : AirStory) (o : Outer L) (rounds : Rounds) (j : List Entry) → IsIn draft d → IsLinkedPart told why d start o rounds j → IsLinkedPartAt told why draft start o rounds j
part_out told why AtVersion d start o rounds j is l = absurd is
part_out told why (AtHeader awaited h) d start o rounds j is l = absurd is
part_out told why (AtNodes h) d start o rounds j is l = part_same d h.network (back h.network d is) told why start o rounds j l
part_out told why (InRound h n) d start o rounds j is l = part_same d h.network (back h.network d is) told why start o rounds j l

-- before the header is whole
pub unlinked_in : {L : Type 0} (told : L → Option LinkStory) (draft : Draft) (start : AirStory) (o : Outer L) (turns : List (List Delivery)) (j : List Entry) → IsHeader draft → IsLinkedAt told draft start o turns j → IsUnlinked start o turns
unlinked_in told AtVersion start o turns j due l = l
unlinked_in told (AtHeader awaited h) start o turns j due l = l
unlinked_in told (AtNodes h) start o turns j due l = absurd due
unlinked_in told (InRound h n) start o turns j due l = absurd due

pub unlinked_out : {L : Type 0} (told : L → Option LinkStory) (draft : Draft) (start : AirStory) (o : Outer L) (turns : List (List Delivery)) (j : List Entry) → IsHeader draft → IsUnlinked start o turns → IsLinkedAt told draft start o turns j
unlinked_out told AtVersion start o turns j due l = l
unlinked_out told (AtHeader awaited h) start o turns j due l = l
unlinked_out told (AtNodes h) start o turns j due l = absurd due
unlinked_out told (InRound h n) start o turns j due l = absurd due

-- ---- what a line does to the network

-- it lists one node, before any round: the journal is that of nodes that have started, and those before stand where they stood
pub record ListsOne (w v : State) (r : Reading) (said : Said) (j k : List Entry) : Type 0 where
  pub listed : last_of r.draft said ≡ Listed
  pub none : r.rounds ≡ 0
  pub before : j ≡ started w.domain (length w.domain.aps)
  pub after : k ≡ started v.domain (length v.domain.aps)
  pub one : count v.domain ≡ count w.domain + 1
  pub nodes : (i : ℕ) → i < count w.domain → node_at v.domain i ≡ node_at w.domain i

-- access points stand before stations, of which there are none
low_ap : (d : Domain) (i : ℕ) → i < length d.aps → node_at d i ≡ Ap i
low_ap d i h = grind (arith, common_steps)

one_ap : (d e : Domain) (address : Mac) (id : List ℕ) → e ≡ with_ap d address id → count e ≡ count d + 1
one_ap d e address id is =
    let a : ListedAp = record { address = address; r0kh_id = id } in
    omega (arith, ap (λ (x : Domain). length x.aps) is, ap (λ (x : Domain). length x.stas) is, length-append d.aps (a ∷ []))

nodes_ap : (d e : Domain) (address : Mac) (id : List ℕ) (i : ℕ) → e ≡ with_ap d address id → d.stas ≡ [] → i < count d → node_at e i ≡ node_at d i
nodes_ap d e address id i is none h =
    let a : ListedAp = record { address = address; r0kh_id = id } in
    let low : i < length d.aps = omega (arith, h, ap (λ (x : List ListedSta). length x) none) in
    let also : i < length e.aps = omega (arith, low, ap (λ (x : Domain). length x.aps) is, length-append d.aps (a ∷ [])) in
    low_ap e i also ∙ sym (low_ap d i low)

one_sta : (d e : Domain) (address : Mac) (psk : List ℕ) → e ≡ with_sta d address psk → count e ≡ count d + 1
one_sta d e address psk is =
    let s : ListedSta = record { address = address; psk = psk } in
    omega (arith, ap (λ (x : Domain). length x.aps) is, ap (λ (x : Domain). length x.stas) is, length-append d.stas (s ∷ []))

nodes_sta : (d e : Domain) (address : Mac) (psk : List ℕ) (i : ℕ) → e ≡ with_sta d address psk → node_at e i ≡ node_at d i
nodes_sta d e address psk i is = ap (λ (x : Domain). node_at x i) is

-- or it leaves the network as it was; what the journal gained is of the last round, and nothing where the line asked for none
pub record LeavesNodes (w v : State) (r : Reading) (said : Said) (j k : List Entry) : Type 0 where
  pub nodes : HasNodes w.domain v.domain
  pub late : Late v.rounds j k
  pub runs : (k ≡ j) ⊎ (last_of r.draft said ≡ Ran)

nodes_stay : (w v : State) (r : Reading) (said : Said) (j k : List Entry) → (v ≡ w) × (k ≡ j) → LeavesNodes w v r said j k
nodes_stay w v r said j k same = record { nodes = nodes_at w.domain v.domain (sym (ap (λ (x : State). x.domain) same.0)); late = Late-same v.rounds j k same.1; runs = inl same.1 }

nodes_extra : (d : Domain) (extra : Extra) → HasNodes d (with_extra d extra)
nodes_extra d extra = record { aps = refl; stas = refl; places = λ address. refl }

-- an event is a round by itself where no round is open
ran_outside : (draft : Draft) (w : State) (sizes : List ℕ) (event : Event) (j : List Entry) → IsAt draft w None sizes j → last_of draft (Asks event) ≡ Ran
ran_outside AtVersion w sizes event j at = absurd at
ran_outside (AtHeader awaited h) w sizes event j at = absurd at
ran_outside (AtNodes h) w sizes event j at = refl
ran_outside (InRound h n) w sizes event j at = absurd at

nodes_ask : (w v : State) (a b : Waiting) (r : Reading) (said : Said) (event : Event) (j k : List Entry) → IsAt r.draft w a r.sizes j → said ≡ Asks event → DidAsk w v a b event j k → LeavesNodes w v r said j k
nodes_ask w v None None r said event j k at asks did = let x = header_at r.draft w None r.sizes j at in record {
  nodes = subst (HasNodes w.domain) (sym did.network) (nodes_after w.domain event);
  late = subst (λ (n : ℕ). Late n j k) (sym did.rounds) (Late-follows x.header (suc w.rounds) (event ∷ []) j k (did.goes x.header x.since));
  runs = inr (ap (last_of r.draft) asks ∙ ran_outside r.draft w r.sizes event j at);
}
nodes_ask w v None (Some new) r said event j k at asks did = absurd did
nodes_ask w v (Some old) None r said event j k at asks did = absurd did
nodes_ask w v (Some old) (Some new) r said event j k at asks did = nodes_stay w v r said j k did.0

nodes_end : (w v : State) (a b : Waiting) (r : Reading) (said : Said) (j k : List Entry) → IsAt r.draft w a r.sizes j → said ≡ EndsRound → DidEnd w v a b j k → LeavesNodes w v r said j k
nodes_end w v None b r said j k at ends did = absurd did
nodes_end w v (Some old) None r said j k at ends did = let x = header_at r.draft w (Some old) r.sizes j at in record {
  nodes = nodes_at w.domain v.domain (sym did.network);
  late = subst (λ (n : ℕ). Late n j k) (sym did.rounds) (Late-follows x.header (suc w.rounds) old.items j k (did.goes x.header x.since));
  runs = inr (ap (last_of r.draft) ends);
}
nodes_end w v (Some old) (Some new) r said j k at ends did = absurd did

pub nodes_then : (w v : State) (a b : Waiting) (r s : Reading) (j k : List Entry) (says : Result Said Fault) (said : Said) (asked : Asked) → IsOwn w a r j → says ≡ Ok said → TakesStep r.draft s.draft r.rounds (sizes_of j) says asked → Did w v a b j k asked
    → LeavesNodes w v r said j k ⊎ ListsOne w v r said j k
nodes_then w v a b r s j k says said step.Nothing own is takes did = inl (nodes_stay w v r said j k did.0)
nodes_then w v a b r s j k says said step.Network own is takes did = absurd did
nodes_then w v a b r s j k says said (step.Ap address id) own is (h, (lists, (old, (can, (no_stas, first))))) did =
    let same = since_first h.network w j own.own (none_run w a r j own first) (outside r.draft h w a r.sizes j own.at old).0 in
    let before = own.first (none_run w a r j own first) in
    inr (record {
      listed = ap (last_of r.draft) (one_saying says said (ListsAp address id) is lists);
      none = first;
      before = before;
      after = did.0.begins before;
      one = one_ap w.domain v.domain address id did.0.network;
      nodes = λ i low. nodes_ap w.domain v.domain address id i did.0.network (ap (λ (x : Domain). x.stas) (sym same) ∙ no_stas) low;
    })
nodes_then w v a b r s j k says said (step.Sta address psk) own is (h, (lists, (old, (can, first)))) did =
    let before = own.first (none_run w a r j own first) in
    inr (record {
      listed = ap (last_of r.draft) (one_saying says said (ListsSta address psk) is lists);
      none = first;
      before = before;
      after = did.0.begins before;
      one = one_sta w.domain v.domain address psk did.0.network;
      nodes = λ i low. nodes_sta w.domain v.domain address psk i did.0.network;
    })
nodes_then w v a b r s j k says said (step.Extra extra) own is takes did = inl (record {
  nodes = subst (HasNodes w.domain) (sym did.0.network) (nodes_extra w.domain extra);
  late = Late-same v.rounds j k did.1.0;
  runs = inl did.1.0;
})
nodes_then w v a b r s j k says said (step.Event event) own is takes did = inl (nodes_ask w v a b r said event j k own.at (one_saying says said (Asks event) is takes.0) did)
nodes_then w v a b r s j k says said step.Round own is takes did = inl (nodes_stay w v r said j k did.0)
nodes_then w v a b r s j k says said step.End own is takes did = inl (nodes_end w v a b r said j k own.at (one_saying says said EndsRound is takes.1.1.0) did)
nodes_then w v a b r s j k says said step.Draw own is takes did = absurd did
nodes_then w v a b r s j k says said step.Turn own is takes did = absurd did

-- the world of a network that the header told
pub record IsFirst (v : State) : Type 0 where
  pub none : count v.domain ≡ 0
  pub no_rounds : v.rounds ≡ 0

no_count : (d : Domain) → IsNetwork d → count d ≡ 0
no_count d network = omega (arith, ap (λ (x : List ListedAp). length x) network.no_aps, ap (λ (x : List ListedSta). length x) network.no_stas)

pub first_then : (r : Reading) (new : Draft) (v : State) (j : List Entry) (says : Result Said Fault) (asked : Asked) → TakesStep r.draft new r.rounds (sizes_of j) says asked → IsBegun new asked (Some v) → IsFirst v
first_then r new v j says step.Nothing takes begun = let e : Some v ≡ None = begun in absurd cc
first_then r new v j says step.Network takes begun =
    let same = one_network new takes.0 v.domain takes.1.1.0 begun.network in
    record { none = ap count (sym same) ∙ no_count takes.0.network takes.1.1.1.0; no_rounds = begun.none }
first_then r new v j says (step.Ap address id) takes begun = absurd begun
first_then r new v j says (step.Sta address psk) takes begun = absurd begun
first_then r new v j says (step.Extra extra) takes begun = absurd begun
first_then r new v j says (step.Event event) takes begun = absurd begun
first_then r new v j says step.Round takes begun = absurd begun
first_then r new v j says step.End takes begun = absurd begun
first_then r new v j says step.Draw takes begun = absurd begun
first_then r new v j says step.Turn takes begun = absurd begun

-- ---- links by the answer

-- all went out, or a front of it
abbrev pub LinkedBy : {L T : Type 0} → (L → Option LinkStory) → Domain → AirStory → Outer L → Rounds → List Entry → Result T LinkError → Type 0
LinkedBy told d start o rounds k (Ok x) = IsLinked told d start o rounds.turns k
LinkedBy told d start o rounds k (Err error) = IsLinkedPart told (ByLink error) d start o rounds k

abbrev pub LinkedAtBy : {L T : Type 0} → (L → Option LinkStory) → Draft → AirStory → Outer L → Rounds → List Entry → Result T LinkError → Type 0
LinkedAtBy told draft start o rounds k (Ok x) = IsLinkedAt told draft start o rounds.turns k
LinkedAtBy told draft start o rounds k (Err error) = IsLinkedPartAt told (ByLink error) draft start o rounds k

by_out : {L T : Type 0} (told : L → Option LinkStory) (draft : Draft) (d : Domain) (start : AirStory) (o : Outer L) (rounds : Rounds) (k : List Entry) (result : Result T LinkError) → IsIn draft d → LinkedBy told d start o rounds k result → LinkedAtBy told draft start o rounds k result
by_out told draft d start o rounds k (Ok x) is l = linked_out told draft d start o rounds.turns k is l
by_out told draft d start o rounds k (Err error) is l = part_out told (ByLink error) draft d start o rounds k is l

pub heard_part : (d : Domain) (frames : ℕ → List (List ℕ)) (turns : List (List Delivery)) → AreHeard d frames turns → IsHeardPart d frames turns
unfolding AreHeard
heard_part d frames [] heard = tt
heard_part d frames (given ∷ turns) heard = (heard.0, ([], append-nil given ∙ heard.1))

-- and by the line
heard_by : (line : LastLine) (d : Domain) (frames : ℕ → List (List ℕ)) (turns : List (List Delivery)) → AreHeard d frames turns → IsHeardBy line d frames turns
heard_by Listed d frames turns heard = heard
heard_by Ran d frames turns heard = heard
heard_by Turned d frames turns heard = heard_part d frames turns heard
heard_by Other d frames turns heard = heard

-- and so is what links have left after a line that is no turn
left_listed : (line : LastLine) (why : Break) (d : Domain) (frames : ℕ → List (List ℕ)) (turns : List (List Delivery)) (left : ℕ → List (List ℕ)) → line ≡ Listed → ((i : ℕ) → left i ≡ left_behind frames (length turns) i) → IsLeft line why d frames turns left
left_listed line why d frames turns left is same = subst (λ (x : LastLine). IsLeft x why d frames turns left) (sym is) same

left_ran : (line : LastLine) (why : Break) (d : Domain) (frames : ℕ → List (List ℕ)) (turns : List (List Delivery)) (left : ℕ → List (List ℕ)) → line ≡ Ran → ((i : ℕ) → left i ≡ left_behind frames (length turns) i) → IsLeft line why d frames turns left
left_ran line why d frames turns left is same = subst (λ (x : LastLine). IsLeft x why d frames turns left) (sym is) same

pub heard_none : (d : Domain) (frames : ℕ → List (List ℕ)) (turns : List (List Delivery)) → turns ≡ [] → AreHeard d frames turns
unfolding AreHeard
heard_none d frames [] none = tt
heard_none d frames (given ∷ turns) none = absurd cc

-- as many links, of the same air
pub same_links : (d : Domain) (start : AirStory) (n m : ℕ) (air other : Option AirStory) → m ≡ n → other ≡ air → HasLinks d start n air → HasLinks d start m other
same_links d start n m air other links same was =
    subst (λ (x : ℕ). HasLinks d start x other) (sym links) (subst (λ (x : Option AirStory). HasLinks d start n x) (sym same) was)

-- ---- frames are sent

linked_sent : {L T : Type 0} (told : L → Option LinkStory) (d : Domain) (run : ℕ) (start : AirStory) (old new : Outer L) (rounds : Rounds) (j k : List Entry) (result : Result T LinkError) → Grows run j k → Late (length rounds.run) j k → (k ≡ j) ⊎ (rounds.last ≡ Ran) → IsLinked told d start old rounds.turns j → Carries told d (length j) k old new result
    → LinkedBy told d start new rounds k result
linked_sent told d run start old new rounds j k (Ok x) more late runs was c =
    let out = c.sends_out (omega (arith, was.all)) in
    record {
      all = out.len ∙ was.all;
      attached = same_links d start (length old.links) (length new.links) old.air new.air out.len out.air was.attached;
      heard = was.heard;
      tell = Tell-same told (node_at d) new.links (left_behind (frames_at (node_at d) start) (length rounds.turns)) _ (sends_for d k) (sends_more d run j k (drop (length j) (reverse k)) more refl)
          (out.sent (left_behind (frames_at (node_at d) start) (length rounds.turns)) (sends_for d j) was.tell);
    }
linked_sent told d run start old new rounds j k (Err error) more late runs was c =
    let out = c.sends_out (omega (arith, was.all)) in
    let left = left_behind (frames_at (node_at d) start) (length rounds.turns) in
    let news : List Send = sends d (drop (length j) (reverse k)) in
    let part : (front rest : List Send) × (front ++ rest ≡ news) × (rest ≢ []) × Tell told (node_at d) new.links left (sends_for d j ++ front) =
    out.sent left (sends_for d j) was.tell in
    let whole : sends_for d j ++ (part.0 ++ part.1) ≡ sends_for d k =
    ap (λ (w : List Send). sends_for d j ++ w) part.2 ∙ sends_more d run j k (drop (length j) (reverse k)) more refl in
    let cases : (k ≡ j) ⊎ (rounds.last ≡ Ran) → rounds.last ≡ Ran =
    elim [
      | inl same ↦ absurd (part.3 (none_gained d j k part.0 part.1 same whole))
      | inr ran ↦ ran
    ] in
    let ran : rounds.last ≡ Ran = cases runs in
    record {
      all = subst (λ (x : LastLine). AllButNew x (count d) (length new.links)) (sym ran) (out.len ∙ was.all);
      attached = same_links d start (length old.links) (length new.links) old.air new.air out.len out.air was.attached;
      heard = heard_by rounds.last d (frames_at (node_at d) start) rounds.turns was.heard;
      left = left;
      kept = left_ran rounds.last (ByLink error) d (frames_at (node_at d) start) rounds.turns left ran (λ i. refl);
      part = last_cut told (ByLink error) d new.links rounds j k left part.0 part.1 late whole (subst (λ (x : LastLine). Cuts x rounds.turns part.1) (sym ran) part.3) part.4;
    }

-- ---- a node is attached

-- an entry that sends nothing
one_quiet : (d : Domain) (e : Entry) (past : List Entry) → sends_of d e ≡ [] → sends_for d past ≡ [] → sends_for d (e ∷ past) ≡ []
one_quiet d e past quiet none =
    sym (sends-two d (reverse past) (e ∷ []) (reverse (e ∷ past)) (reverse-append (e ∷ []) past)) ∙ ap (λ (w : List Send). w ++ sends d (e ∷ [])) none ∙ ap (λ (w : List Send). w ++ []) quiet

push_quiet : (d : Domain) (n : Node) (acts : List Act) (past : List Entry) → AllByRecursion (λ (act : Act). frame_sent act ≡ None) acts → sends_for d past ≡ [] → sends_for d (push 0 n acts past) ≡ []
push_quiet d n [] past quiet none = none
push_quiet d n (act ∷ g) past quiet none =
    let e : Entry = record { round = 0; node = n; number = number_of act past; act = act } in
    push_quiet d n g (e ∷ past) quiet.1 (one_quiet d e past (ap (λ (o : Option (List ℕ)). sends_by (place_of d n) (frames_out d o)) quiet.0) none)

-- nodes that start send nothing
started_sends : (d e : Domain) (n : ℕ) → sends_for e (started d n) ≡ []
unfolding started
started_sends d e zero = refl
started_sends d e (suc n) = push_quiet e (Ap n) (start_acts d 0 (Ap n)) (started d n)
    (all_started (λ (act : Act). frame_sent act ≡ None) (λ which key. refl) (λ which key id b. refl) d 0 (Ap n)) (started_sends d e n)

start_quiet : (d e : Domain) (n : ℕ) (j : List Entry) → j ≡ started d n → sends_for e j ≡ []
start_quiet d e n j is = ap (λ (w : List Entry). sends_for e w) is ∙ started_sends d e n

-- no turn took any
none_left : (frames : List (List ℕ)) (turns : List (List Delivery)) → turns ≡ [] → drop (most_polls * length turns) frames ≡ frames
none_left frames [] none = refl
none_left frames (given ∷ turns) none = absurd cc

abbrev story : Node → List SentFrame → List (List ℕ) → LinkStory
story node sent left = record { node = node; sent = sent; left = left }

same_story : (n m : Node) (s t : List SentFrame) (x y : List (List ℕ)) → n ≡ m → s ≡ t → x ≡ y → story n s x ≡ story m t y
same_story n m s t x y node sent left = ap (λ (z : Node). story z s x) node ∙ ap (λ (z : List SentFrame). story m z x) sent ∙ ap (λ (z : List (List ℕ)). story m t z) left

-- the links so far are attached ones of the network with one more
attached_was : {L : Type 0} (told : L → Option LinkStory) (d e : Domain) (start : AirStory) (old : Outer L) (turns : List (List Delivery)) (j : List Entry) → ((i : ℕ) → i < count d → node_at e i ≡ node_at d i) → turns ≡ [] → sends_for d j ≡ [] → IsLinked told d start old turns j
    → Attached told (node_at e) start old.links old.air
attached_was told d e start old turns j nodes none quiet was = record {
  now = was.attached.now;
  is = was.attached.is;
  frames = λ node behind. was.attached.others node (λ i h same. behind i h (nodes i (omega (arith, h, was.all)) ∙ same));
  returned = was.attached.returned;
  tell = record {
    each = λ i l h. (let node : node_at d i ≡ node_at e i = sym (nodes i (omega (arith, h, was.all))) in
        was.tell.each i l h ∙ ap Some (same_story (node_at d i) (node_at e i) (sent_by i (sends_for d j)) (sent_by i []) (left_behind (frames_at (node_at d) start) (length turns) i) (frames_at (node_at e) start i)
        node (ap (sent_by i) quiet) (none_left (frames_at (node_at d) start i) turns none ∙ ap start.frames node)));
  };
}

-- one node more than links
unlinked : (links nodes more : ℕ) → links ≡ nodes → more ≡ nodes + 1 → links + 1 ≡ more
unlinked links nodes more all one = omega (arith, all, one)

linked_attached : {L T : Type 0} (told : L → Option LinkStory) (w v : State) (r : Reading) (said : Said) (start : AirStory) (old new : Outer L) (rounds : Rounds) (j k : List Entry) (result : Result T LinkError) → ListsOne w v r said j k → rounds.last ≡ Listed → rounds.turns ≡ [] → IsLinked told w.domain start old rounds.turns j
    → Carries told v.domain (length j) k old new result → LinkedBy told v.domain start new rounds k result
linked_attached told w v r said start old new rounds j k (Ok x) one listed none was c =
    let a = c.attaches (omega (arith, was.all, one.one)) in
    let more : length new.links ≡ length old.links + 1 = a.more in
    let now = a.attached start (attached_was told w.domain v.domain start old rounds.turns j one.nodes none (start_quiet w.domain w.domain (length w.domain.aps) j one.before) was) in
    let quiet = start_quiet v.domain v.domain (length v.domain.aps) k one.after in
    record {
      all = omega (arith, more, was.all, one.one);
      attached = record { now = now.now; is = now.is; others = now.frames; returned = now.returned };
      heard = heard_none v.domain (frames_at (node_at v.domain) start) rounds.turns none;
      tell = Tell-left told (node_at v.domain) new.links (frames_at (node_at v.domain) start) (left_behind (frames_at (node_at v.domain) start) (length rounds.turns)) (sends_for v.domain k) (λ i h. sym (none_left (frames_at (node_at v.domain) start i) rounds.turns none))
          (Tell-same told (node_at v.domain) new.links (frames_at (node_at v.domain) start) [] (sends_for v.domain k) (sym quiet) now.tell);
    }
linked_attached told w v r said start old new rounds j k (Err error) one listed none was c =
    let a = c.attaches (omega (arith, was.all, one.one)) in
    let same : new.links ≡ old.links = a.same in
    let long : length new.links ≡ length old.links = ap (λ (l : List _). length l) same in
    let now = a.attached start (attached_was told w.domain v.domain start old rounds.turns j one.nodes none (start_quiet w.domain w.domain (length w.domain.aps) j one.before) was) in
    let quiet = start_quiet v.domain v.domain (length v.domain.aps) k one.after in
    record {
      all = subst (λ (x : LastLine). AllButNew x (count v.domain) (length new.links)) (sym listed) (unlinked (length new.links) (count w.domain) (count v.domain) (long ∙ was.all) one.one);
      attached = record { now = now.now; is = now.is; others = now.frames; returned = now.returned };
      heard = heard_by rounds.last v.domain (frames_at (node_at v.domain) start) rounds.turns (heard_none v.domain (frames_at (node_at v.domain) start) rounds.turns none);
      left = frames_at (node_at v.domain) start;
      kept = left_listed rounds.last (ByLink error) v.domain (frames_at (node_at v.domain) start) rounds.turns (frames_at (node_at v.domain) start) listed (λ i. sym (none_left (frames_at (node_at v.domain) start i) rounds.turns none));
      part = none_cut told error v.domain new.links rounds k (frames_at (node_at v.domain) start) (subst (λ (x : LastLine). Cuts x rounds.turns []) (sym listed) refl) (Tell-same told (node_at v.domain) new.links (frames_at (node_at v.domain) start) [] (sends_for v.domain k) (sym quiet) now.tell);
    }

-- ---- the header is whole

-- of nothing nothing goes out
no_news : (d : Domain) (n : ℕ) (k : List Entry) → k ≡ [] → sends d (drop n (reverse k)) ≡ []
no_news d n k empty = ap (λ (w : List Entry). sends d (drop n (reverse w))) empty ∙ ap (sends d) (drop-nil n)

linked_first : {L T : Type 0} (told : L → Option LinkStory) (v : State) (start : AirStory) (old new : Outer L) (rounds : Rounds) (j k : List Entry) (result : Result T LinkError) → IsFirst v → k ≡ [] → IsUnlinked start old rounds.turns → Carries told v.domain (length j) k old new result
    → LinkedBy told v.domain start new rounds k result
linked_first told v start old new rounds j k (Ok x) first empty was c =
    let out = c.sends_out (omega (arith, first.none)) in
    let none : length new.links ≡ 0 = out.len ∙ ap (λ (l : List _). length l) was.none in
    record {
      all = none ∙ sym first.none;
      attached = record { now = start; is = out.air ∙ was.same; others = λ node behind. refl; returned = refl };
      heard = heard_none v.domain (frames_at (node_at v.domain) start) rounds.turns was.no_turns;
      tell = record { each = λ i l h. absurd (omega (arith, h, none)) };
    }
linked_first told v start old new rounds j k (Err error) first empty was c =
    let out = c.sends_out (omega (arith, first.none)) in
    let none : length old.links ≡ 0 = ap (λ (l : List _). length l) was.none in
    let left = frames_at (node_at v.domain) start in
    let part : (front rest : List Send) × (front ++ rest ≡ sends v.domain (drop (length j) (reverse k))) × (rest ≢ []) × Tell told (node_at v.domain) new.links left ([] ++ front) =
    out.sent left [] (record { each = λ i l h. absurd (omega (arith, h, none)) }) in
    absurd (part.3 (none_last [] part.0 part.1 (part.2 ∙ no_news v.domain (length j) k empty)))

-- ---- all of it

-- a line behind which the journal has gained asked for a round
runs_by : (rounds : Rounds) (line : LastLine) (j k : List Entry) → rounds.last ≡ line → (k ≡ j) ⊎ (line ≡ Ran) → (k ≡ j) ⊎ (rounds.last ≡ Ran)
runs_by rounds line j k last runs = subst (λ (x : LastLine). (k ≡ j) ⊎ (x ≡ Ran)) (sym last) runs

-- how links are met behind a line
pub linked_line : {L T : Type 0} (told : L → Option LinkStory) (r s : Reading) (world v : Option State) (a b : Waiting) (start : AirStory) (old new : Outer L) (rounds : Rounds) (line : List ℕ) (j k : List Entry) (asked : Asked) (result : Result T LinkError)
    → IsWorldOf world a r j → (read : HasRead r s (sizes_of j) line asked) → DidRun world v a b s.draft j k asked → IsWorldOf v b s k → rounds.last ≡ last_of r.draft read.0 → run_count v ≡ length rounds.run → (r.rounds ≡ 0 → rounds.turns ≡ []) → Grows (run_count world) j k → GoesOut told Live v (length j) k old new result → IsLinkedAt told r.draft start old rounds.turns j
    → LinkedAtBy told s.draft start new rounds k result
linked_line told r s None None a b start old new rounds line j k asked (Ok x) is read did after last run none more goes l =
    unlinked_out told s.draft start new rounds.turns k after.due (subst (λ (o : Outer _). IsUnlinked start o rounds.turns) (sym goes.0) (unlinked_in told r.draft start old rounds.turns j is.due l))
linked_line told r s None None a b start old new rounds line j k asked (Err error) is read did after last run none more goes l = absurd goes.1
linked_line told r s None (Some v) a b start old new rounds line j k asked result is read did after last run none more goes l =
    by_out told s.draft v.domain start new rounds k result (is_in s.draft v b s.sizes k after.at)
    (linked_first told v start old new rounds j k result (first_then r s.draft v j _ asked read.1.1.1.1 did.0) (did.1.0 ∙ is.no_entries) (unlinked_in told r.draft start old rounds.turns j is.due l) goes)
linked_line told r s (Some w) None a b start old new rounds line j k asked result is read did after last run none more goes l = absurd did
linked_line told r s (Some w) (Some v) a b start old new rounds line j k asked result is read did after last run none more goes l =
    let here_ = is_in r.draft w a r.sizes j is.at in
    by_out told s.draft v.domain start new rounds k result (is_in s.draft v b s.sizes k after.at) (elim (nodes_then w v a b r s j k _ read.0 asked is read.1.0 read.1.1.1.1 did.1) [
      | inl same ↦
          linked_sent told v.domain w.rounds start old new rounds j k result more (subst (λ (n : ℕ). Late n j k) run same.late) (runs_by rounds (last_of r.draft read.0) j k last same.runs)
          (linked_in told r.draft v.domain start old rounds.turns j (in_more r.draft w.domain v.domain here_ same.nodes) l) goes
      | inr one ↦ linked_attached told w v r read.0 start old new rounds j k result one (last ∙ one.listed) (none one.none) (linked_in told r.draft w.domain start old rounds.turns j here_ l) goes
    ])

-- ---- lines of the last round could not be written, so that nothing went out

-- such a line asks for a round
no_begun : (draft : Draft) (asked : Asked) (v : Option State) (a : Waiting) → IsRound asked a → IsBegun draft asked v → ⊥
no_begun draft step.Nothing v a round begun = round
no_begun draft step.Network v a round begun = round
no_begun draft (step.Ap address id) v a round begun = round
no_begun draft (step.Sta address psk) v a round begun = round
no_begun draft (step.Extra extra) v a round begun = round
no_begun draft (step.Event event) v a round begun = begun
no_begun draft step.Round v a round begun = round
no_begun draft step.End v a round begun = begun
no_begun draft step.Draw v a round begun = round
no_begun draft step.Turn v a round begun = round

round_last : (w : State) (a : Waiting) (r s : Reading) (j : List Entry) (says : Result Said Fault) (said : Said) (asked : Asked) → IsRound asked a → IsAt r.draft w a r.sizes j → says ≡ Ok said → TakesStep r.draft s.draft r.rounds (sizes_of j) says asked → last_of r.draft said ≡ Ran
round_last w None r s j says said (step.Event event) round at is takes = ap (last_of r.draft) (one_saying says said (Asks event) is takes.0) ∙ ran_outside r.draft w r.sizes event j at
round_last w (Some events) r s j says said (step.Event event) round at is takes = absurd round
round_last w a r s j says said step.End round at is takes = ap (last_of r.draft) (one_saying says said EndsRound is takes.1.1.0)
round_last w a r s j says said step.Nothing round at is takes = absurd round
round_last w a r s j says said step.Network round at is takes = absurd round
round_last w a r s j says said (step.Ap address id) round at is takes = absurd round
round_last w a r s j says said (step.Sta address psk) round at is takes = absurd round
round_last w a r s j says said (step.Extra extra) round at is takes = absurd round
round_last w a r s j says said step.Round round at is takes = absurd round
round_last w a r s j says said step.Draw round at is takes = absurd round
round_last w a r s j says said step.Turn round at is takes = absurd round

pub round_ran : (r s : Reading) (world v : Option State) (a b : Waiting) (line : List ℕ) (j k : List Entry) (asked : Asked) → IsWorldOf world a r j → (read : HasRead r s (sizes_of j) line asked) → DidRun world v a b s.draft j k asked → IsRound asked a → last_of r.draft read.0 ≡ Ran
round_ran r s None v a b line j k asked is read did round = absurd (no_begun s.draft asked v a round did.0)
round_ran r s (Some w) None a b line j k asked is read did round = absurd did
round_ran r s (Some w) (Some v) a b line j k asked is read did round = round_last w a r s j _ read.0 asked round is.at read.1.0 read.1.1.1.1

-- one round more was run
ask_more : (w v : State) (b : Waiting) (event : Event) (j k : List Entry) → DidAsk w v None b event j k → v.rounds ≡ suc w.rounds
ask_more w v None event j k did = did.rounds
ask_more w v (Some more) event j k did = absurd did

end_more : (w v : State) (a b : Waiting) (j k : List Entry) → DidEnd w v a b j k → v.rounds ≡ suc w.rounds
end_more w v None b j k did = absurd did
end_more w v (Some events) None j k did = did.rounds
end_more w v (Some events) (Some more) j k did = absurd did

round_more : (w v : State) (a b : Waiting) (j k : List Entry) (asked : Asked) → IsRound asked a → Did w v a b j k asked → v.rounds ≡ suc w.rounds
round_more w v None b j k (step.Event event) round did = ask_more w v b event j k did
round_more w v (Some events) b j k (step.Event event) round did = absurd round
round_more w v a b j k step.End round did = end_more w v a b j k did
round_more w v a b j k step.Nothing round did = absurd round
round_more w v a b j k step.Network round did = absurd round
round_more w v a b j k (step.Ap address id) round did = absurd round
round_more w v a b j k (step.Sta address psk) round did = absurd round
round_more w v a b j k (step.Extra extra) round did = absurd round
round_more w v a b j k step.Round round did = absurd round
round_more w v a b j k step.Draw round did = absurd round
round_more w v a b j k step.Turn round did = absurd round

-- what was sent before is all that went out
unsent : {L : Type 0} (told : L → Option LinkStory) (d : Domain) (start : AirStory) (o : Outer L) (rounds : Rounds) (j k : List Entry) → rounds.last ≡ Ran → Late (length rounds.run) j k → AllByRecursion (λ (e : Entry). e.round < length rounds.run) j → IsLinked told d start o rounds.turns j
    → IsLinkedPart told ByWrite d start o rounds k
unsent told d start o rounds j k ran late earlier was =
    let left = left_behind (frames_at (node_at d) start) (length rounds.turns) in
    record {
      all = subst (λ (x : LastLine). AllButNew x (count d) (length o.links)) (sym ran) was.all;
      attached = was.attached;
      heard = heard_by rounds.last d (frames_at (node_at d) start) rounds.turns was.heard;
      left = left;
      kept = left_ran rounds.last ByWrite d (frames_at (node_at d) start) rounds.turns left ran (λ i. refl);
      part = last_cut told ByWrite d o.links rounds j k left [] (sends_for d late.later) late (late_sends d (length rounds.run) j k late)
          (record { ran = subst (λ (x : LastLine). HasRun x rounds.turns) (sym ran) tt; earlier = earlier; none = refl })
          (Tell-same told (node_at d) o.links left (sends_for d j) (sends_for d j ++ []) (sym (append-nil (sends_for d j))) was.tell);
    }

listed_ran : (line : LastLine) → line ≡ Listed → line ≡ Ran → ⊥
listed_ran line listed ran = absurd cc

pub unsent_line : {L : Type 0} (told : L → Option LinkStory) (r s : Reading) (world v : Option State) (a b : Waiting) (start : AirStory) (o : Outer L) (rounds : Rounds) (line : List ℕ) (j k : List Entry) (asked : Asked)
    → IsWorldOf world a r j → (read : HasRead r s (sizes_of j) line asked) → DidRun world v a b s.draft j k asked → IsWorldOf v b s k → IsRound asked a → rounds.last ≡ last_of r.draft read.0 → run_count v ≡ length rounds.run → IsLinkedAt told r.draft start o rounds.turns j
    → IsLinkedPartAt told ByWrite s.draft start o rounds k
unsent_line told r s None v a b start o rounds line j k asked is read did after round last run l = absurd (no_begun s.draft asked v a round did.0)
unsent_line told r s (Some w) None a b start o rounds line j k asked is read did after round last run l = absurd did
unsent_line told r s (Some w) (Some v) a b start o rounds line j k asked is read did after round last run l =
    let ran : last_of r.draft read.0 ≡ Ran = round_last w a r s j _ read.0 asked round is.at read.1.0 read.1.1.1.1 in
    let more : v.rounds ≡ suc w.rounds = round_more w v a b j k asked round did.1 in
    let low : w.rounds < length rounds.run = omega (arith, more, run) in
    elim (nodes_then w v a b r s j k _ read.0 asked is read.1.0 read.1.1.1.1 did.1) [
      | inl same ↦
          part_out told ByWrite s.draft v.domain start o rounds k (is_in s.draft v b s.sizes k after.at)
          (unsent told v.domain start o rounds j k (last ∙ ran) (subst (λ (n : ℕ). Late n j k) run same.late) (all_earlier w.domain w.rounds (length rounds.run) j low is.own.placed.past)
          (linked_in told r.draft v.domain start o rounds.turns j (in_more r.draft w.domain v.domain (is_in r.draft w a r.sizes j is.at) same.nodes) l))
      | inr one ↦ absurd (listed_ran (last_of r.draft read.0) one.listed ran)
    ]

-- how many links there are then
pub links_then : {L T : Type 0} (told : L → Option LinkStory) (m : Mode) (r s : Reading) (world v : Option State) (a b : Waiting) (old new : Outer L) (line : List ℕ) (j k : List Entry) (asked : Asked) (x : T) → length old.links ≡ links_due m world
    → IsWorldOf world a r j → HasRead r s (sizes_of j) line asked → DidRun world v a b s.draft j k asked → GoesOut {L = L} {T = T} told m v (length j) k old new (Ok x) → length new.links ≡ links_due m v
links_then told Replay r s world v a b old new line j k asked x due is read did goes = ap (λ (o : Outer _). length o.links) goes.0 ∙ due
links_then told Live r s None None a b old new line j k asked x due is read did goes = ap (λ (o : Outer _). length o.links) goes.0 ∙ due
links_then told Live r s None (Some v) a b old new line j k asked x due is read did goes =
    let first = first_then r s.draft v j _ asked read.1.1.1.1 did.0 in
    (goes.sends_out (omega (arith, first.none))).len ∙ due ∙ sym first.none
links_then told Live r s (Some w) None a b old new line j k asked x due is read did goes = absurd did
links_then told Live r s (Some w) (Some v) a b old new line j k asked x due is read did goes =
    elim (nodes_then w v a b r s j k _ read.0 asked is read.1.0 read.1.1.1.1 did.1) [
      | inl same ↦ (let many : count v.domain ≡ count w.domain = count_same w.domain v.domain same.nodes in (goes.sends_out (omega (arith, due, many))).len ∙ due ∙ sym many)
      | inr one ↦ let more : length new.links ≡ length old.links + 1 = (goes.attaches (omega (arith, due, one.one))).more in omega (arith, more, due, one.one)
    ]

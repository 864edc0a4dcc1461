-- What goes out for a line that was done: there are links for it, and the journal has what is sent.
use Rattle.std.proofs.Common.{◌≡◌, ℕ, suc, ◌≤◌, List, [], ◌∷◌, length, length-append, Option, Some, None, Result, Err, refl, ap, subst, arith}
use Rattle.domain_base.specs.declared.names.Mac.{Mac}
use Rattle.domain_base.specs.Told.{LinkStory}
use Rattle.domain_base.specs.declared.outside.LinkError.{LinkError}
use Rattle.domain_base.specs.declared.outside.LinkError.TheVariants as link
use Rattle.run_journal.specs.declared.domain.Domain.{Domain}
use Rattle.run_journal.specs.declared.domain.ListedAp.{ListedAp}
use Rattle.run_journal.specs.declared.domain.ListedSta.{ListedSta}
use Rattle.run_journal.specs.declared.domain.Event.{Event}
use Rattle.run_journal.specs.declared.acts.Entry.{Entry}
use Rattle.run_journal.specs.declared.domain.Extra.{Extra}
use Rattle.run_journal.specs.Listing.{with_ap, with_sta, with_extra}
use Rattle.domain_rules.specs.Network.{InForm}
use Rattle.domain_world.specs.State.{State}
use Rattle.domain_links.specs.NodeOrder.{count}
use Rattle.script_lines.specs.Script.{Draft}
use Rattle.frame_script.specs.Headers.{Reading}
use Rattle.frame_script.specs.declared.reader.Mode.{Mode}
use Rattle.frame_script.specs.declared.reader.Mode.TheVariants.{Replay, Live}
use Rattle.script_lines.specs.declared.step.Step.{Step as Asked}
use Rattle.script_lines.specs.declared.step.Step.TheVariants as step
use Rattle.script_runs.specs.declared.session.Session.{Session}
use Rattle.script_runs.specs.declared.state.ScriptState.{ScriptState}
use Rattle.script_runs.specs.declared.stops.Undone.TheVariants.{Broken}
use Rattle.script_runs.specs.Outer.{Outer, links_due}
use Rattle.script_runs.specs.Ran.{HasDone, ran_blame}
use Rattle.script_runs.specs.States.{Waiting, IsWorldOf, IsBegun, CanRun, CanList, DidAsk, DidEnd, Did, DidRun, world_of}
use Rattle.script_runs.specs.Turning.{GoesOut, HasLinked, link_blame}
use Rattle.run_journal.specs.Changed.{changed_by}
use Rattle.domain_links.proofs.SameNodes.{count_same}
use Rattle.script_runs.proofs.SameNodes.{nodes_after}
use Rattle.script_runs.proofs.Growing.{Grows-step, Grows-follows, Grows-started}
use Rattle.script_runs.proofs.Turned.{longer}

-- ---- links

none_begun : (v : State) (draft : Draft) (asked : Asked) (links : ℕ) → links ≡ 0 → IsBegun draft asked (Some v) → HasLinked Live (Some v) links
none_begun v draft step.Nothing links none begun = let e : Some v ≡ None = begun in absurd cc
none_begun v draft step.Network links none begun = (omega (arith, none), begun.own.form)
none_begun v draft (step.Ap address id) links none begun = absurd begun
none_begun v draft (step.Sta address psk) links none begun = absurd begun
none_begun v draft (step.Extra extra) links none begun = absurd begun
none_begun v draft (step.Event event) links none begun = absurd begun
none_begun v draft step.Round links none begun = absurd begun
none_begun v draft step.End links none begun = absurd begun
none_begun v draft step.Draw links none begun = absurd begun
none_begun v draft step.Turn links none begun = absurd begun

same_count : (d e : Domain) → e ≡ d → count d ≤ count e
same_count d e same = omega (arith, ap (λ (x : Domain). length x.aps) same, ap (λ (x : Domain). length x.stas) same)

count_ap : (d e : Domain) (address : Mac) (id : List ℕ) → e ≡ with_ap d address id → count d ≤ count e
count_ap d e address id is =
    let a : ListedAp = record { address = address; r0kh_id = id } in
    omega (arith, ap (λ (x : Domain). length x.aps) is, ap (λ (x : Domain). length x.stas) is, length-append d.aps (a ∷ []))

count_sta : (d e : Domain) (address : Mac) (psk : List ℕ) → e ≡ with_sta d address psk → count d ≤ count e
count_sta d e address psk is =
    let s : ListedSta = record { address = address; psk = psk } in
    omega (arith, ap (λ (x : Domain). length x.aps) is, ap (λ (x : Domain). length x.stas) is, length-append d.stas (s ∷ []))

count_extra : (d e : Domain) (extra : Extra) → e ≡ with_extra d extra → count d ≤ count e
count_extra d e extra is = omega (arith, ap (λ (x : Domain). length x.aps) is, ap (λ (x : Domain). length x.stas) is)

asked_count : (w v : State) (a b : Waiting) (event : Event) (j k : List Entry) → DidAsk w v a b event j k → count w.domain ≤ count v.domain
asked_count w v None None event j k did = omega (arith, count_same w.domain (changed_by w.domain event) (nodes_after w.domain event), ap count did.network)
asked_count w v None (Some new) event j k did = absurd did
asked_count w v (Some old) None event j k did = absurd did
asked_count w v (Some old) (Some new) event j k did = same_count w.domain v.domain (ap (λ (x : State). x.domain) did.0.0)

ended_count : (w v : State) (a b : Waiting) (j k : List Entry) → DidEnd w v a b j k → count w.domain ≤ count v.domain
ended_count w v None b j k did = absurd did
ended_count w v (Some old) None j k did = same_count w.domain v.domain did.network
ended_count w v (Some old) (Some new) j k did = absurd did

done_count : (w v : State) (a b : Waiting) (j k : List Entry) (asked : Asked) → Did w v a b j k asked → count w.domain ≤ count v.domain
done_count w v a b j k step.Nothing did = same_count w.domain v.domain (ap (λ (x : State). x.domain) did.0.0)
done_count w v a b j k (step.Ap address id) did = count_ap w.domain v.domain address id did.0.network
done_count w v a b j k (step.Sta address psk) did = count_sta w.domain v.domain address psk did.0.network
done_count w v a b j k (step.Extra extra) did = count_extra w.domain v.domain extra did.0.network
done_count w v a b j k (step.Event event) did = asked_count w v a b event j k did
done_count w v a b j k step.Round did = same_count w.domain v.domain (ap (λ (x : State). x.domain) did.0.0)
done_count w v a b j k step.End did = ended_count w v a b j k did
done_count w v a b j k step.Network did = absurd did
done_count w v a b j k step.Draw did = absurd did
done_count w v a b j k step.Turn did = absurd did

-- behind a line there are no more links than nodes
pub linked_then : (m : Mode) (world v : Option State) (a b : Waiting) (draft : Draft) (j k : List Entry) (asked : Asked) (links : ℕ) → links ≡ links_due m world → DidRun world v a b draft j k asked → HasLinked m v links
linked_then Replay world v a b draft j k asked links due did = tt
linked_then Live None None a b draft j k asked links due did = tt
linked_then Live None (Some v) a b draft j k asked links due did = none_begun v draft asked links due did.0
linked_then Live (Some w) None a b draft j k asked links due did = absurd did
linked_then Live (Some w) (Some v) a b draft j k asked links due did =
    (omega (arith, due, done_count w v a b j k asked did.1), did.0.form)

-- in a live run, behind the header
pub linked_live : (m : Mode) (session : Option Session) (s : Session) (links : ℕ) → m ≡ Live → session ≡ Some s → HasLinked m (world_of session) links → (links ≤ count s.world.domain) × InForm s.world.domain
linked_live m session s links live some linked =
    subst (λ (x : Option Session). HasLinked Live (world_of x) links) some (subst (λ (x : Mode). HasLinked x (world_of session) links) live linked)

-- ---- the journal

same_long : (j k : List Entry) → k ≡ j → length j ≤ length k
same_long j k same = omega (arith, ap (λ (w : List Entry). length w) same)

asked_long : (w v : State) (a b : Waiting) (event : Event) (j k : List Entry) → DidAsk w v a b event j k → length j ≤ length k
asked_long w v None None event j k did = longer w.rounds j k (Grows-step did.header.0 w.rounds (suc w.rounds) event j k (did.goes did.header.0 did.header.1) (omega arith))
asked_long w v None (Some new) event j k did = absurd did
asked_long w v (Some old) None event j k did = absurd did
asked_long w v (Some old) (Some new) event j k did = same_long j k did.0.1

ended_long : (w v : State) (a b : Waiting) (j k : List Entry) → DidEnd w v a b j k → length j ≤ length k
ended_long w v None b j k did = absurd did
ended_long w v (Some old) None j k did = longer w.rounds j k (Grows-follows did.header.0 w.rounds (suc w.rounds) old.items j k (did.goes did.header.0 did.header.1) (omega arith))
ended_long w v (Some old) (Some new) j k did = absurd did

done_long : (w v : State) (a b : Waiting) (j k : List Entry) (asked : Asked) → CanList (Some w) j asked → Did w v a b j k asked → length j ≤ length k
done_long w v a b j k step.Nothing can did = same_long j k did.0.1
done_long w v a b j k (step.Ap address id) can did = longer 0 j k (Grows-started w.domain v.domain 0 address id j k did.0.network can (did.0.begins can))
done_long w v a b j k (step.Sta address psk) can did = same_long j k did.1.0
done_long w v a b j k (step.Extra extra) can did = same_long j k did.1.0
done_long w v a b j k (step.Event event) can did = asked_long w v a b event j k did
done_long w v a b j k step.Round can did = same_long j k did.0.1
done_long w v a b j k step.End can did = ended_long w v a b j k did
done_long w v a b j k step.Network can did = absurd did
done_long w v a b j k step.Draw can did = absurd did
done_long w v a b j k step.Turn can did = absurd did

pub long_then : (world v : Option State) (a b : Waiting) (draft : Draft) (j k : List Entry) (asked : Asked) → CanList world j asked → DidRun world v a b draft j k asked → length j ≤ length k
long_then None v a b draft j k asked can did = same_long j k did.1.0
long_then (Some w) None a b draft j k asked can did = absurd did
long_then (Some w) (Some v) a b draft j k asked can did = done_long w v a b j k asked can did.1

-- before any event the journal is that of nodes that have started
pub can_list : (world : Option State) (a : Waiting) (r : Reading) (draft : Draft) (j : List Entry) (asked : Asked) → IsWorldOf world a r j → CanRun world a draft j asked → CanList world j asked
can_list None a r draft j asked is can = tt
can_list (Some w) a r draft j step.Nothing is can = tt
can_list (Some w) a r draft j (step.Ap address id) is can = is.first can.1.0
can_list (Some w) a r draft j (step.Sta address psk) is can = tt
can_list (Some w) a r draft j (step.Extra extra) is can = tt
can_list (Some w) a r draft j (step.Event event) is can = tt
can_list (Some w) a r draft j step.Round is can = tt
can_list (Some w) a r draft j step.End is can = tt
can_list (Some w) a r draft j step.Network is can = tt
can_list (Some w) a r draft j step.Draw is can = tt
can_list (Some w) a r draft j step.Turn is can = tt

-- ---- blame

pub broken_blame : (T V : Type 0) (error : LinkError) → link_blame {T = T} (Err error) ≡ ran_blame {T = V} (Err (Broken error))
broken_blame T V link.Failed = refl
broken_blame T V link.NoMemory = refl

-- ---- what was done, and what went out for it

pub done_with : {L T : Type 0} (told : L → Option LinkStory) (s t : ScriptState) (old new : Outer L) (j k : List Entry) (asked : Asked) (from : ℕ) (kind : Mode) (result : Result T LinkError) → from ≡ length j → kind ≡ s.reader.mode → DidRun (world_of s.session) (world_of t.session) s.waiting t.waiting s.reader.draft j k asked → GoesOut told kind (world_of t.session) from k old new result → HasDone told s t old new j k asked result
done_with told s t old new j k asked from kind result is same did goes = record {
  did = did;
  goes = subst (λ (m : Mode). GoesOut told m (world_of t.session) (length j) k old new result) same (subst (λ (n : ℕ). GoesOut told kind (world_of t.session) n k old new result) is goes);
}

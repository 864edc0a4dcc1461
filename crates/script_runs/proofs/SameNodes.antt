-- Networks that have the same nodes in the same order, whatever their keys: links tell the same in both.
use Rattle.std.proofs.Common.{◌≡◌, ◌∙◌, ℕ, suc, ◌+◌, not, cond, List, [], ◌∷◌, ◌++◌, length, reverse, Option, Some, None, refl, sym, ap, ap₂, subst}
use Rattle.std.specs.Prelude.{nat_lt}
use Rattle.std.specs.List.{position_or_len}
use Rattle.domain_base.specs.Told.{LinkStory, AirStory}
use Rattle.domain_base.specs.declared.names.Node.{Node}
use Rattle.run_journal.specs.declared.domain.Domain.{Domain}
use Rattle.run_journal.specs.declared.domain.Event.{Event}
use Rattle.run_journal.specs.declared.domain.Event.TheVariants.{Secret}
use Rattle.run_journal.specs.declared.domain.ListedSta.{ListedSta}
use Rattle.run_journal.specs.declared.acts.Entry.{Entry}
use Rattle.run_journal.specs.Changed.{rekeyed, changed, changed_by}
use Rattle.domain_rules.specs.Present.{keyed, present}
use Rattle.domain_rules.proofs.ChangedNetwork.{length_rekeyed}
use Rattle.domain_rules.proofs.PresentNetwork.{length_keyed}
use Rattle.domain_links.specs.declared.breaks.Break.{Break}
use Rattle.domain_links.specs.NodeOrder.{count, node_at}
use Rattle.domain_links.specs.Sends.{Send}
use Rattle.domain_links.specs.Telling.{Tell}
use Rattle.domain_links.specs.Attached.{IsBehind, frames_at}
use Rattle.domain_links.specs.Turns.{Delivery, in_order, turn_of}
use Rattle.domain_links.proofs.SameNodes.{HasNodes, has_address, same_nodes, count_same, node_same, sends_same}
use Rattle.domain_world.specs.State.{State}
use Rattle.domain_world.specs.Owning.{IsSince}
use Rattle.script_runs.specs.Script.{Rounds, LastLine, Listed, Ran, Turned, Other, IsTurn}
use Rattle.script_runs.specs.Outer.{Outer, left_behind, AreHeard, IsHeardPart, IsHeardBy, AllButNew, HasLinks, IsLinked, IsLinkedPart, IsLeft, IsLeftTurn, IsPolled, TellLast, sends_for}

-- ---- keys leave them

keyed_place : (address : List ℕ) (j : List Entry) (k : ℕ) (stas : List ListedSta) → position_or_len (has_address address) (keyed j k stas) ≡ position_or_len (has_address address) stas
keyed_place address j k [] = refl
keyed_place address j k (s ∷ stas) = ap (λ (m : ℕ). cond (not (has_address address s)) (1 + m) 0) (keyed_place address j (suc k) stas)

rekeyed_place : (address : List ℕ) (named : Option ℕ) (psk : List ℕ) (k : ℕ) (stas : List ListedSta) → position_or_len (has_address address) (rekeyed named psk k stas) ≡ position_or_len (has_address address) stas
rekeyed_place address named psk k [] = refl
rekeyed_place address named psk k (s ∷ stas) = ap (λ (m : ℕ). cond (not (has_address address s)) (1 + m) 0) (rekeyed_place address named psk (suc k) stas)

found_below : (m n i k : ℕ) → m ≡ n → i ≡ k → cond (nat_lt m i) (Some m) None ≡ cond (nat_lt n k) (Some n) None
found_below m n i k is also = ap₂ (λ (x y : ℕ). cond (nat_lt x y) (Some x) None) is also

nodes_present : (c : Domain) (j : List Entry) → HasNodes c (present c j)
nodes_present c j = record {
  aps = refl;
  stas = length_keyed j 0 c.stas;
  places = λ address. found_below (position_or_len (has_address address) (keyed j 0 c.stas)) (position_or_len (has_address address) c.stas) (length (keyed j 0 c.stas)) (length c.stas) (keyed_place address j 0 c.stas) (length_keyed j 0 c.stas);
}

nodes_changed : (d : Domain) (named : Option ℕ) (psk : List ℕ) → HasNodes d (changed d named psk)
nodes_changed d named psk = record {
  aps = refl;
  stas = length_rekeyed named psk 0 d.stas;
  places = λ address. found_below (position_or_len (has_address address) (rekeyed named psk 0 d.stas)) (position_or_len (has_address address) d.stas) (length (rekeyed named psk 0 d.stas)) (length d.stas) (rekeyed_place address named psk 0 d.stas) (length_rekeyed named psk 0 d.stas);
}

-- those of the header are those of the world
pub nodes_since : (c : Domain) (w : State) (j : List Entry) → IsSince c w j → HasNodes c w.domain
nodes_since c w j since = subst (HasNodes c) since.is_present (nodes_present c j)

-- and no event changes them
pub nodes_after : (d : Domain) (event : Event) → HasNodes d (changed_by d event)
nodes_after d (Secret named psk) = nodes_changed d named psk
nodes_after d _ = same_nodes d

-- ---- what links tell

module _ (c d : Domain) (w : HasNodes c d) where
  links_same : (start : AirStory) (n : ℕ) (air : Option AirStory) → HasLinks c start n air → HasLinks d start n air
  links_same start n air l = record {
    now = l.now;
    is = l.is;
    others = λ node behind. l.others node (subst (λ (f : ℕ → Node). IsBehind f n node) (node_same c d w) behind);
    returned = l.returned;
  }

  turn_same : (left : ℕ → List (List ℕ)) → turn_of (node_at d) left (count d) ≡ turn_of (node_at c) left (count c)
  turn_same left = ap₂ (λ (f : ℕ → Node) (n : ℕ). turn_of f left n) (node_same c d w) (count_same c d w)

  heard_same : (frames : ℕ → List (List ℕ)) (turns : List (List Delivery)) → AreHeard c frames turns → AreHeard d frames turns
  unfolding AreHeard
  heard_same frames [] heard = tt
  heard_same frames (given ∷ turns) heard = (heard_same frames turns heard.0, heard.1 ∙ sym (turn_same (left_behind frames (length turns))))

  frames_same : (start : AirStory) → frames_at (node_at d) start ≡ frames_at (node_at c) start
  frames_same start = ap (λ (f : ℕ → Node). frames_at f start) (node_same c d w)

  tell_same : {L : Type 0} (told : L → Option LinkStory) (links : List L) (left : ℕ → List (List ℕ)) (f g : List Send) → f ≡ g → Tell told (node_at c) links left f → Tell told (node_at d) links left g
  tell_same told links left f g is tell = subst (Tell told (node_at d) links left) is (subst (λ (n : ℕ → Node). Tell told n links left f) (sym (node_same c d w)) tell)

  pub linked_same : {L : Type 0} (told : L → Option LinkStory) (start : AirStory) (o : Outer L) (turns : List (List Delivery)) (j : List Entry) → IsLinked told c start o turns j → IsLinked told d start o turns j
  linked_same told start o turns j l = record {
    all = l.all ∙ sym (count_same c d w);
    attached = links_same start (length o.links) o.air l.attached;
    heard = subst (λ (frames : ℕ → List (List ℕ)). AreHeard d frames turns) (sym (frames_same start)) (heard_same (frames_at (node_at c) start) turns l.heard);
    tell = subst (λ (frames : ℕ → List (List ℕ)). Tell told (node_at d) o.links (left_behind frames (length turns)) (sends_for d j)) (sym (frames_same start))
        (tell_same told o.links (left_behind (frames_at (node_at c) start) (length turns)) (sends_for c j) (sends_for d j) (sym (sends_same c d w (reverse j))) l.tell);
  }

  -- ---- and so after a line that broke

  part_heard : (frames : ℕ → List (List ℕ)) (turns : List (List Delivery)) → IsHeardPart c frames turns → IsHeardPart d frames turns
  part_heard frames [] heard = tt
  part_heard frames (given ∷ turns) heard = (heard_same frames turns heard.0, (heard.1.0, heard.1.1 ∙ sym (turn_same (left_behind frames (length turns)))))

  heard_by_same : (line : LastLine) (frames : ℕ → List (List ℕ)) (turns : List (List Delivery)) → IsHeardBy line c frames turns → IsHeardBy line d frames turns
  heard_by_same Turned frames turns heard = part_heard frames turns heard
  heard_by_same Listed frames turns heard = heard_same frames turns heard
  heard_by_same Ran frames turns heard = heard_same frames turns heard
  heard_by_same Other frames turns heard = heard_same frames turns heard

  order_same : (heard : ℕ → List (List ℕ)) → in_order (node_at c) heard (count c) ≡ in_order (node_at d) heard (count d)
  order_same heard = ap₂ (λ (f : ℕ → Node) (n : ℕ). in_order f heard n) (sym (node_same c d w)) (sym (count_same c d w))

  polled_same : (why : Break) (due left : ℕ → List (List ℕ)) (given : List Delivery) → IsPolled why c due left given → IsPolled why d due left given
  polled_same why due left given x = record { heard = x.heard; order = x.order ∙ order_same x.heard; place = x.place; lost = x.lost; few_lost = x.few_lost; left_are = x.left_are }

  left_turn_same : (why : Break) (frames : ℕ → List (List ℕ)) (turns : List (List Delivery)) (left : ℕ → List (List ℕ)) → IsLeftTurn why c frames turns left → IsLeftTurn why d frames turns left
  left_turn_same why frames [] left x = absurd x
  left_turn_same why frames (given ∷ turns) left x = polled_same why (left_behind frames (length turns)) left given x

  left_same : (line : LastLine) (why : Break) (frames : ℕ → List (List ℕ)) (turns : List (List Delivery)) (left : ℕ → List (List ℕ)) → IsLeft line why c frames turns left → IsLeft line why d frames turns left
  left_same Turned why frames turns left x = left_turn_same why frames turns left x
  left_same Listed why frames turns left x = x
  left_same Ran why frames turns left x = x
  left_same Other why frames turns left x = x

  last_same : {L : Type 0} (told : L → Option LinkStory) (why : Break) (links : List L) (rounds : Rounds) (j : List Entry) (left : ℕ → List (List ℕ)) → TellLast told why c links rounds j left → TellLast told why d links rounds j left
  last_same told why links rounds j left x = record {
    late = x.late;
    early = x.early;
    whole = x.whole;
    last = x.last;
    front = x.front;
    rest = x.rest;
    parts = x.parts ∙ sym (sends_same c d w (reverse x.late));
    cause = x.cause;
    tell = tell_same told links left (sends_for c x.early ++ x.front) (sends_for d x.early ++ x.front) (ap (λ (f : List Send). f ++ x.front) (sym (sends_same c d w (reverse x.early)))) x.tell;
  }

  pub part_same : {L : Type 0} (told : L → Option LinkStory) (why : Break) (start : AirStory) (o : Outer L) (rounds : Rounds) (j : List Entry) → IsLinkedPart told why c start o rounds j → IsLinkedPart told why d start o rounds j
  part_same told why start o rounds j l =
      let frames : ℕ → List (List ℕ) = frames_at (node_at c) start in
      record {
        all = subst (λ (n : ℕ). AllButNew rounds.last n (length o.links)) (sym (count_same c d w)) l.all;
        attached = links_same start (length o.links) o.air l.attached;
        heard = subst (λ (f : ℕ → List (List ℕ)). IsHeardBy rounds.last d f rounds.turns) (sym (frames_same start)) (heard_by_same rounds.last frames rounds.turns l.heard);
        left = l.left;
        kept = subst (λ (f : ℕ → List (List ℕ)). IsLeft rounds.last why d f rounds.turns l.left) (sym (frames_same start)) (left_same rounds.last why frames rounds.turns l.left l.kept);
        part = last_same told why o.links rounds j l.left l.part;
      }

  -- a turn of one is a turn of the other
  pub turn_same_nodes : (given : List Delivery) → IsTurn c given → IsTurn d given
  turn_same_nodes given x = record { heard = x.heard; few = x.few; order = x.order ∙ order_same x.heard }

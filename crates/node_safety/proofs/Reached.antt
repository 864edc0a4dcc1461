-- What a node reached alone: each of its acts was legal.
use Rattle.std.proofs.Common.{ℕ, suc, ◌≡◌, ◌<◌, inl, Bool, true, false, List, [], ◌∷◌, ◌++◌, refl, sym, subst, arith}
use Rattle.domain_base.specs.declared.names.Node.{Node}
use Rattle.domain_base.specs.declared.names.Node.TheVariants.{Ap, Sta}
use Rattle.key_hierarchy.proofs.Lengths.{length-kdf}
use Rattle.run_journal.specs.declared.domain.Domain.{Domain}
use Rattle.run_journal.specs.declared.acts.Act.{Act}
use Rattle.run_journal.specs.declared.acts.Act.TheVariants.{Drew}
use Rattle.run_journal.specs.declared.acts.Drawn.TheVariants as draw
use Rattle.run_journal.specs.declared.acts.GroupKind.{GroupKind}
use Rattle.run_journal.specs.declared.acts.GroupKind.TheVariants as groups
use Rattle.run_journal.specs.Events.{IsListed, protects}
use Rattle.run_journal.specs.Questions.{draws, add}
use Rattle.domain_rules.specs.AccessPointRows.{draw_igtk, start_acts}
use Rattle.domain_rules.specs.Owing.{current_act, current_igtk}
use Rattle.domain_rules.specs.Network.{gtk, draw_end}
use Rattle.domain_rules.proofs.KeyOctets.{octets-kdf}
use Rattle.domain_rules.specs.Rows.{NodeEvent}
use Rattle.node_base.specs.Changing.{after}
use Rattle.node_base.specs.Growing.{Grows}
use Rattle.journal_safety.proofs.Legal.{for_used, HasDrawn, LegalGroupKey, Chain, LegalHistory}
use Rattle.journal_safety.proofs.Likenesses.{protects_as, drawn_as, nearly_as, history_like, settled_like}
use Rattle.journal_safety.proofs.Renewals.{adds_fine}
use Rattle.journal_safety.proofs.RowsKeys.{legal_add}
use Rattle.journal_safety.proofs.Settled.{Ground, AllCurrent, Settled}
use Rattle.node_safety.specs.Alone.{Coming, Event, Listing, IsWhole, start_of, Comes, IsSound, PairwiseOnce, UsedOnce, UpOnce, GroupsNew}
use Rattle.node_safety.proofs.Grown.{right_acts, history_grown, listed_as, like_after, listed_after, whole_after}
use Rattle.node_safety.proofs.Sole.{Sole}
use Rattle.node_safety.proofs.Pairwise.{pairwise_once}
use Rattle.node_safety.proofs.Numbers.{used_once, groups_new}
use Rattle.node_safety.proofs.Ups.{up_once}

record Reached (d : Domain) (n : Node) (h : List Act) : Type 0 where
  pub listed : IsListed d n
  pub legal : LegalHistory d n h
  pub settled : Settled d n h

ground_of : (d : Domain) → IsWhole d → Ground d
ground_of d w = record { names = w.names; octets = w.octets }

-- ---- the start

-- the acts of the start, by whether management frames are protected
abbrev drawn_by : Bool → Domain → ℕ → Node → List Act
drawn_by b d first n = Drew (draw.Group groups.Gtk (gtk d n first)) ∷ draw_igtk b d n (suc first)

abbrev start_by : Bool → Domain → ℕ → Node → List Act
start_by b d first n = drawn_by b d first n ++ (current_act groups.Gtk d n (add (drawn_by b d first n) []) ∷ current_igtk b d n (add (drawn_by b d first n) []))

start_key : (d : Domain) (k number : ℕ) (which : GroupKind) (h : List Act) → draws h < draw_end → LegalGroupKey which (Ap k) h (gtk d (Ap k) number)
unfolding gtk
start_key d k number which h few = record { ap = refl; octets = octets-kdf _ _ _ 16; size = length-kdf _ _ _ 16; few = few }

chain_by : (d : Domain) (first k : ℕ) (b : Bool) → Chain d (Ap k) [] (start_by b d first (Ap k))
chain_by d first k false = (start_key d k first groups.Gtk [] (omega arith), (record { ap = refl; newest = refl }, tt))
chain_by d first k true = (
  start_key d k first groups.Gtk [] (omega arith),
  (
    start_key d k (suc first) groups.Igtk (Drew (draw.Group groups.Gtk (gtk d (Ap k) first)) ∷ []) (omega arith),
    (record { ap = refl; newest = refl }, (record { ap = refl; newest = refl }, tt)),
  ),
)

start_chain : (d : Domain) (first k : ℕ) → Chain d (Ap k) [] (start_acts d first (Ap k))
start_chain d first k = chain_by d first k (protects d)

settled_by : (d : Domain) (first k : ℕ) → Ground d → (b : Bool) → protects d ≡ b → Settled d (Ap k) (add (start_by b d first (Ap k)) [])
settled_by d first k ground false off =
    let h : List Act = add (start_by false d first (Ap k)) [] in
    record {
      ground = ground;
      bare = λ p part a. cc a;
      nonced = λ p part a. cc a;
      started = λ role listed. for_used d (λ which. HasDrawn which h) (gtk d (Ap k) first, inl refl) (λ on. absurd (cc (on, off)));
      nearly = inl (for_used d (λ which. AllCurrent which h) refl (λ on. absurd (cc (on, off))));
      paid = omega arith;
    }
settled_by d first k ground true on =
    let h : List Act = add (start_by true d first (Ap k)) [] in
    record {
      ground = ground;
      bare = λ p part a. cc a;
      nonced = λ p part a. cc a;
      started = λ role listed. for_used d (λ which. HasDrawn which h) (gtk d (Ap k) first, inl refl) (λ used. (gtk d (Ap k) (suc first), inl refl));
      nearly = inl (for_used d (λ which. AllCurrent which h) refl (λ used. refl));
      paid = omega arith;
    }

started : (d : Domain) (first : ℕ) (n : Node) → IsWhole d → IsListed d n → Reached d n (add (start_of d first n) [])
started d first (Sta s) w listed = record {
  listed = listed;
  legal = tt;
  settled = record { ground = ground_of d w; bare = λ p part a. cc a; nonced = λ p part a. cc a; started = λ role here. cc role; nearly = inl (λ which used. refl); paid = omega arith };
}
started d first (Ap k) w listed = record {
  listed = listed;
  legal = legal_add d (Ap k) [] (start_acts d first (Ap k)) tt (start_chain d first k);
  settled = settled_by d first k (ground_of d w) (protects d) refl;
}

-- ---- what came since

grown : (d e : Domain) (n : Node) (h : List Act) → Reached d n h → Grows d e → IsWhole e → LegalHistory e n h → Reached e n h
grown d e n h r g w legal = record {
  listed = listed_as d e n g r.listed;
  legal = legal;
  settled = record {
    ground = ground_of e w;
    bare = r.settled.bare;
    nonced = r.settled.nonced;
    started = λ role here. drawn_as d e (protects_as d e g.extras) h (r.settled.started role r.listed);
    nearly = nearly_as d e (protects_as d e g.extras) h r.settled.nearly;
    paid = r.settled.paid;
  };
}

-- a changed key takes nothing back
changed : (d : Domain) (n : Node) (event : NodeEvent) (h : List Act) → Reached d n h → Reached (after d event) n h
changed d n event h r =
    let w = like_after d event in
    let whole : IsWhole d = record { names = r.settled.ground.names; octets = r.settled.ground.octets } in
    record {
      listed = listed_after d event n r.listed;
      legal = history_like d (after d event) w n h r.legal;
      settled = settled_like d (after d event) w (ground_of (after d event) (whole_after d event whole)) n h r.settled;
    }

reached : (start : Domain) (first : ℕ) (n : Node) (comings : List Coming) (d : Domain) (h : List Act) → Comes start first n comings d h → Reached d n h
reached start first n [] d h comes = subst (Reached d n) (sym comes.3) (started d first n comes.0 comes.1)
reached start first n (Event event ∷ comings) d h comes =
    let was = comes.0 in
    let old = comes.1.0 in
    let g = comes.1.1.0 in
    let c = comes.1.1.1 in
    let r = reached start first n comings was old c.0 in
    let fine = adds_fine was first n old event g (right_acts was n g c.2) r.legal r.settled c.1 in
    subst (λ (x : Domain). Reached x n h) (sym c.4)
    (changed was n event h (subst (Reached was n) (sym c.3) (record { listed = r.listed; legal = legal_add was n old g r.legal fine.chain; settled = fine.settled })))
reached start first n (Listing ∷ comings) d h comes =
    let smaller = comes.0 in
    let r = reached start first n comings smaller h comes.1.0 in
    grown smaller d n h r comes.1.1 comes.1.2 (history_grown smaller d n h comes.1.1 r.listed comes.1.3 r.legal)

sole : (start d : Domain) (first : ℕ) (n : Node) (comings : List Coming) (h : List Act) → Comes start first n comings d h → IsSound h → Sole d n h
sole start d first n comings h comes sound =
    let r = reached start first n comings d h comes in
    record { names = r.settled.ground.names; legal = r.legal; fresh = sound.fresh; apart = sound.apart }

pub pairwise_reached : (start d : Domain) (first : ℕ) (n : Node) (comings : List Coming) (h : List Act) → Comes start first n comings d h → IsSound h → PairwiseOnce h
pairwise_reached start d first n comings h comes sound = pairwise_once d n h (sole start d first n comings h comes sound)

pub used_reached : (start d : Domain) (first : ℕ) (n : Node) (comings : List Coming) (h : List Act) → Comes start first n comings d h → IsSound h → UsedOnce h
used_reached start d first n comings h comes sound = used_once d n h (sole start d first n comings h comes sound)

pub up_reached : (start d : Domain) (first : ℕ) (n : Node) (comings : List Coming) (h : List Act) → Comes start first n comings d h → IsSound h → UpOnce h
up_reached start d first n comings h comes sound = up_once d n h (sole start d first n comings h comes sound).legal

pub groups_reached : (start d : Domain) (first : ℕ) (n : Node) (comings : List Coming) (h : List Act) → Comes start first n comings d h → IsSound h → GroupsNew h
groups_reached start d first n comings h comes sound = groups_new d n h (sole start d first n comings h comes sound)

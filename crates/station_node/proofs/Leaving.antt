-- A station drops what it has, or has nothing.
use Rattle.std.proofs.Common.{◌≡◌, ℕ, true, false, List, [], ◌∷◌, ◌++◌, Option, Some, None, refl, sym, ◌∙◌, append_assoc, arith}
use Rattle.std.specs.List.{AllByRecursion}
use Rattle.domain_base.specs.declared.names.Node.{Node}
use Rattle.domain_base.specs.declared.names.Node.TheVariants.{Ap, Sta}
use Rattle.run_journal.specs.declared.domain.Domain.{Domain}
use Rattle.run_journal.specs.declared.acts.Why.TheVariants as why
use Rattle.run_journal.specs.declared.acts.Outcome.TheVariants.{Done}
use Rattle.run_journal.specs.declared.acts.Outcome.TheVariants.{Idle as IdleBy}
use Rattle.run_journal.specs.declared.acts.Act.{Act}
use Rattle.run_journal.specs.declared.acts.Act.TheVariants.{Idle}
use Rattle.run_journal.specs.Questions.{session, pending, associated, draws, add}
use Rattle.domain_rules.specs.Here.{here}
use Rattle.domain_rules.specs.Rows.{Leave, outcome_of}
use Rattle.domain_rules.specs.Closing.{close_pending, close_associated, or_nothing}
use Rattle.domain_rules.proofs.Switching.{station_adds}
use Rattle.act_memory.proofs.RepliedActs.{LeavesKept, remembers_on}
use Rattle.node_base.specs.Events.{Steps, seen}
use Rattle.station_node.specs.declared.attempt.Attempt.{Attempt}
use Rattle.station_node.specs.declared.session.Session.{Session}
use Rattle.station_node.specs.State.{State, memory_at}
use Rattle.station_node.specs.Parts.{peer_of_session, peer_of_renewal, peer_pending, has_neither}
use Rattle.station_node.specs.Stands.{Stands}
use Rattle.station_node.proofs.Acts.{plain-idle, keeps-closed}
use Rattle.station_node.proofs.Standing.{stands-plain, nobody_pending}
use Rattle.station_node.proofs.Beginning.{left_session}

-- ---- it has something

-- what it had, by whom it was with
abbrev left_acts : Option Node → Option Node → List Act
left_acts was had = close_pending was ++ close_associated had

left-draws : (was had : Option Node) (h : List Act) → draws (add (left_acts was had) h) ≡ draws h
left-draws None None h = refl
left-draws None (Some r) h = refl
left-draws (Some q) None h = refl
left-draws (Some q) (Some r) h = refl

left-pending : (was had : Option Node) (h : List Act) → pending h ≡ was → pending (add (left_acts was had) h) ≡ None
left-pending None None h is = is
left-pending None (Some r) h is = is
left-pending (Some q) None h is = refl
left-pending (Some q) (Some r) h is = refl

left-associated : (was had : Option Node) (h : List Act) → associated h ≡ had → associated (add (left_acts was had) h) ≡ None
left-associated None None h is = is
left-associated None (Some r) h is = refl
left-associated (Some q) None h is = is
left-associated (Some q) (Some r) h is = refl

left-session : (was had : Option Node) (h : List Act) (p : Node) → session p (add (left_acts was had) h) ≡ session p (add (close_associated had) h)
left-session None None h p = refl
left-session None (Some r) h p = refl
left-session (Some q) None h p = refl
left-session (Some q) (Some r) h p = refl

left-keeps : (was had : Option Node) (p : Node) → AllByRecursion (LeavesKept p) (left_acts was had)
left-keeps None None p = tt
left-keeps None (Some r) p = (keeps-closed p r _, tt)
left-keeps (Some q) None p = (keeps-closed p q _, tt)
left-keeps (Some q) (Some r) p = (keeps-closed p q _, (keeps-closed p r _, tt))

-- its memories stay, and so does what it drew
abbrev pub left_state : State → State
left_state s = record { number = s.number; drawn = s.drawn; attempt = None; session = None; memories = s.memories; r0kh_id = s.r0kh_id }

stands-left : (d : Domain) (first : ℕ) (s : State) (h : List Act) → Stands d first s h → Stands d first (left_state s) (add (left_acts (pending h) (associated h)) h)
stands-left d first s h st =
    let l : List Act = add (left_acts (pending h) (associated h)) h in
    let nobody_left : pending l ≡ None = left-pending (pending h) (associated h) h refl in
    record {
      draws_are = omega (arith, st.draws_are, left-draws (pending h) (associated h) h);
      pending_is = nobody_left;
      associated_is = left-associated (pending h) (associated h) h refl;
      alone = tt;
      attempt_is = tt;
      session_is = tt;
      no_attempt = λ p other. nobody_pending p l nobody_left;
      no_session = λ p other. left-session (pending h) (associated h) h (Ap p) ∙ left_session d first s h p (associated h) st (sym st.associated_is);
      remembers = λ p. remembers_on (Ap p) (memory_at s.memories p) (left_acts (pending h) (associated h)) h (left-keeps (pending h) (associated h) (Ap p)) (st.remembers p);
      ids = st.ids;
      holder = λ suite. tt;
    }

left-some : (was : Option Node) (r : Node) → (left_acts was (Some r) ≡ or_nothing (left_acts was (Some r))) × (Done ≡ outcome_of (left_acts was (Some r)))
left-some None r = (refl, refl)
left-some (Some q) r = (refl, refl)

left-done : (a : Option Attempt) (x : Option Session) → has_neither a x ≡ false → (left_acts (peer_pending a x) (peer_of_session x) ≡ or_nothing (left_acts (peer_pending a x) (peer_of_session x))) × (Done ≡ outcome_of (left_acts (peer_pending a x) (peer_of_session x)))
left-done None None some = cc
left-done None (Some x) some = left-some (peer_of_renewal (Some x)) (Ap x.ap)
left-done (Some a) None some = (refl, refl)
left-done (Some a) (Some x) some = (refl, refl)

pub steps-left : (d : Domain) (first sta : ℕ) (s : State) (h waited : List Act) → Stands d first s h → has_neither s.attempt s.session ≡ false
    → Steps (here d first (Sta sta)) Leave (Stands d first (left_state s)) h (seen waited ((waited ++ close_pending (peer_pending s.attempt s.session)) ++ close_associated (peer_of_session s.session)) Done)
steps-left d first sta s h waited st some =
    let done = left-done s.attempt s.session some in
    record {
      acts = left_acts (pending h) (associated h);
      adds = station_adds d first sta h Leave (left_acts (pending h) (associated h)) (rw (st.pending_is, st.associated_is) done.0);
      waiting = rw (st.pending_is, st.associated_is) (append_assoc waited (close_pending (peer_pending s.attempt s.session)) (close_associated (peer_of_session s.session)));
      came = rw (st.pending_is, st.associated_is) done.1;
      stands = stands-left d first s h st;
    }

-- ---- it has nothing

nothing-left : (a : Option Attempt) (x : Option Session) → has_neither a x ≡ true → Idle why.Nothing ∷ [] ≡ or_nothing (left_acts (peer_pending a x) (peer_of_session x))
nothing-left None None none = refl
nothing-left None (Some x) none = cc
nothing-left (Some a) None none = cc
nothing-left (Some a) (Some x) none = cc

pub steps-nothing : (d : Domain) (first sta : ℕ) (s : State) (h waited : List Act) → Stands d first s h → has_neither s.attempt s.session ≡ true
    → Steps (here d first (Sta sta)) Leave (Stands d first s) h (seen waited (waited ++ Idle why.Nothing ∷ []) (IdleBy why.Nothing))
steps-nothing d first sta s h waited st none = record {
  acts = Idle why.Nothing ∷ [];
  adds = station_adds d first sta h Leave (Idle why.Nothing ∷ []) (rw (st.pending_is, st.associated_is) (nothing-left s.attempt s.session none));
  waiting = refl;
  came = refl;
  stands = stands-plain d first s h (Idle why.Nothing) (plain-idle why.Nothing) st;
}

-- Where a call cut what goes out: all of it went out before the last round, and of that a front.
use Rattle.std.proofs.Common.{◌≡◌, ℕ, suc, ◌<◌, List, [], ◌∷◌, ◌++◌, length, Option, refl, sym, ap, subst, ◌∙◌, inl, inr, arith}
use Rattle.std.specs.List.{AllByRecursion}
use Rattle.std.specs.Prelude.{reverse}
use Rattle.std.proofs.lemmas.List.{append-nil, append_cancel_left, reverse-append}
use Rattle.domain_base.specs.Told.{LinkStory}
use Rattle.domain_base.specs.declared.names.Node.{Node}
use Rattle.domain_base.specs.declared.outside.LinkError.{LinkError}
use Rattle.run_journal.specs.declared.domain.Domain.{Domain}
use Rattle.run_journal.specs.declared.domain.Event.TheVariants.{Inject}
use Rattle.run_journal.specs.declared.acts.Entry.{Entry}
use Rattle.domain_world.specs.State.{State}
use Rattle.domain_world.specs.Owning.{IsPast}
use Rattle.domain_links.specs.declared.breaks.Break.{Break}
use Rattle.domain_links.specs.declared.breaks.Break.TheVariants.{ByLink, ByWrite}
use Rattle.domain_links.specs.NodeOrder.{node_at}
use Rattle.domain_links.specs.Sends.{Send}
use Rattle.domain_links.specs.Telling.{Tell}
use Rattle.domain_links.specs.Turns.{TellCut}
use Rattle.domain_links.proofs.Going.{Tell-same, has_item, sends-two}
use Rattle.script_runs.specs.Script.{Rounds, LastLine, Turned}
use Rattle.script_runs.specs.Outer.{Cuts, HasRun, IsCutBy, TookSome, TellLast, sends_for}
use Rattle.script_runs.specs.Turning.{IsTaken, sent_by_then, stage}
use Rattle.script_runs.proofs.Growing.{Late, Late-follows}

-- ---- frames

-- what goes out for what is later
pub late_sends : (d : Domain) (round : ℕ) (j k : List Entry) → (late : Late round j k) → sends_for d j ++ sends_for d late.later ≡ sends_for d k
late_sends d round j k late = sends-two d (reverse j) (reverse late.later) (reverse k) (ap reverse late.is ∙ reverse-append late.later j)

-- nothing stands last among nothing
pub none_last : (xs ys zs : List Send) → xs ++ (ys ++ zs) ≡ [] → zs ≡ []
none_last [] [] zs e = e
none_last [] (y ∷ ys) zs e = absurd (has_item y (ys ++ zs) e)
none_last (x ∷ xs) ys zs e = absurd (has_item x (xs ++ (ys ++ zs)) e)

-- behind a journal that gained nothing none is
pub none_gained : (d : Domain) (j k : List Entry) (front rest : List Send) → k ≡ j → sends_for d j ++ (front ++ rest) ≡ sends_for d k → rest ≡ []
none_gained d j k front rest same whole =
    none_last [] front rest (append_cancel_left (sends_for d j) (front ++ rest) [] (whole ∙ ap (sends_for d) same ∙ sym (append-nil (sends_for d j))))

-- ---- cuts

-- the last round was cut
pub last_cut : {L : Type 0} (told : L → Option LinkStory) (why : Break) (d : Domain) (links : List L) (rounds : Rounds) (j k : List Entry) (left : ℕ → List (List ℕ)) (front rest : List Send) → Late (length rounds.run) j k → sends_for d j ++ (front ++ rest) ≡ sends_for d k
    → IsCutBy why rounds j front rest → Tell told (node_at d) links left (sends_for d j ++ front) → TellLast told why d links rounds k left
last_cut told why d links rounds j k left front rest late whole cause tell = record {
  late = late.later;
  early = j;
  whole = sym late.is;
  last = late.all;
  front = front;
  rest = rest;
  parts = append_cancel_left (sends_for d j) (front ++ rest) (sends_for d late.later) (whole ∙ sym (late_sends d (length rounds.run) j k late));
  cause = cause;
  tell = tell;
}

-- or none was
pub none_cut : {L : Type 0} (told : L → Option LinkStory) (error : LinkError) (d : Domain) (links : List L) (rounds : Rounds) (k : List Entry) (left : ℕ → List (List ℕ)) → Cuts rounds.last rounds.turns [] → Tell told (node_at d) links left (sends_for d k) → TellLast told (ByLink error) d links rounds k left
none_cut told error d links rounds k left cause tell = record {
  late = [];
  early = k;
  whole = refl;
  last = tt;
  front = [];
  rest = [];
  parts = refl;
  cause = cause;
  tell = Tell-same told (node_at d) links left (sends_for d k) (sends_for d k ++ []) (sym (append-nil (sends_for d k))) tell;
}

-- entries of rounds up to one are of rounds before a later one
pub all_earlier : (d : Domain) (rounds n : ℕ) (j : List Entry) → rounds < n → AllByRecursion (IsPast d rounds) j → AllByRecursion (λ (e : Entry). e.round < n) j
all_earlier d rounds n [] low past = tt
all_earlier d rounds n (e ∷ j) low past = (omega (arith, past.0.round, low), all_earlier d rounds n j low past.1)

-- by a turn, whose last delivery is the last round where it took any
turn_late : (w v : State) (node : Node) (octets : List ℕ) (j k : List Entry) (n : ℕ) → IsTaken node octets (stage w j) (stage v k) → v.rounds ≡ n → Late n j k
turn_late w v node octets j k n r count =
    subst (λ (m : ℕ). Late m j k) (sym r.rounds ∙ count) (Late-follows r.header.0 (suc w.rounds) (Inject node octets ∷ []) j k (r.goes r.header.0 r.header.1))

pub turn_cut : {L : Type 0} (told : L → Option LinkStory) (why : Break) (d : Domain) (links : List L) (rounds : Rounds) (v : State) (k : List Entry) (left : ℕ → List (List ℕ)) (Took : Type 0) → v.rounds ≡ length rounds.run → rounds.last ≡ Turned → (Took → TookSome rounds.turns)
    → TellCut told (node_at d) IsTaken (sent_by_then d) why links (stage v k) left Took → TellLast told why d links rounds k left
turn_cut told (ByLink error) d links rounds v k left Took count turned some = elim [
  | inl tell ↦ none_cut told error d links rounds k left (subst (λ (x : LastLine). Cuts x rounds.turns []) (sym turned) (inl refl)) tell.1
  | inr part ↦
      let t = part.1 in
      last_cut told (ByLink error) d links rounds t.was.journal k left t.front t.rest (turn_late t.was.world v t.node t.octets t.was.journal k (length rounds.run) t.round count) t.whole
      (subst (λ (x : LastLine). Cuts x rounds.turns t.rest) (sym turned) (inr (some part.0))) t.tell
]
turn_cut told ByWrite d links rounds v k left Took count turned some = elim [
  | inl tell ↦ absurd tell.0
  | inr part ↦
      let t = part.1 in
      let low : t.was.world.rounds < length rounds.run = omega (arith, t.round.rounds, count) in
      last_cut told ByWrite d links rounds t.was.journal k left t.front t.rest (turn_late t.was.world v t.node t.octets t.was.journal k (length rounds.run) t.round count) t.whole (record {
        ran = subst (λ (x : LastLine). HasRun x rounds.turns) (sym turned) (some part.0);
        earlier = all_earlier t.was.world.domain t.was.world.rounds (length rounds.run) t.was.journal low t.round.own.placed.past;
        none = t.missed;
      }) t.tell
]

-- How the journal of an example grows: by one event in each round, at one of two access points and a station.
use Rattle.std.proofs.Common.{◌≡◌, ℕ, zero, suc, ◌<◌, ◌≤◌, false, List, [], ◌∷◌, length, Option, Some, None, refl, sym, ap, subst, ◌∙◌, arith, inl, inr}
use Rattle.std.specs.Prelude.{◌==◌, ◌++◌, Bool, true}
use Rattle.domain_base.specs.declared.names.Node.TheVariants.{Ap, Sta}
use Rattle.domain_base.specs.declared.names.Node.{Node}
use Rattle.domain_base.specs.declared.names.Peer.{Peer}
use Rattle.domain_rules.proofs.Exchange.{frames-started}
use Rattle.domain_rules.proofs.Unchanged.{present_none, unchanged_started}
use Rattle.domain_rules.proofs.Journals.{AtOne, step_at, same_at_one, history-push, history-other, history-started, history-started_sta, explained_start, explained_event, started_none, started_more}
use Rattle.domain_rules.specs.AccessPointRows.{draw_igtk, draw_acts, start_acts}
use Rattle.domain_rules.specs.Explained.{frames, number_of, push, started, WasSent, HappensAt, Explained}
use Rattle.domain_rules.specs.HeldRight.{AnsweredInTime, HeldRight}
use Rattle.domain_rules.specs.Here.{here}
use Rattle.domain_rules.specs.Present.{present}
use Rattle.domain_rules.specs.Network.{gtk}
use Rattle.domain_rules.specs.Owing.{current_act, current_igtk, and_switch}
use Rattle.domain_rules.specs.Rows.{NodeEvent, RowOf, Adds}
use Rattle.run_journal.specs.Acts.{is_sent}
use Rattle.run_journal.specs.Events.{protects}
use Rattle.run_journal.specs.Holders.{answers}
use Rattle.run_journal.specs.Premises.{In}
use Rattle.run_journal.specs.Questions.{history, add}
use Rattle.run_journal.specs.declared.acts.Act.TheVariants as act
use Rattle.run_journal.specs.declared.acts.Act.{Act}
use Rattle.run_journal.specs.declared.acts.Drawn.TheVariants as draw
use Rattle.run_journal.specs.declared.acts.Entry.{Entry}
use Rattle.run_journal.specs.declared.acts.GroupKind.TheVariants as groups
use Rattle.run_journal.specs.declared.acts.Kind.{Kind}
use Rattle.run_journal.specs.declared.acts.Seal.{Seal}
use Rattle.run_journal.specs.declared.domain.Domain.{Domain}
use Rattle.run_journal.specs.declared.domain.Event.{Event}
use Rattle.example_domains.proofs.Moments.{IsLow, LooksRight, quiet, low_push, right_push, right_none}

-- ---- the frames that were sent, the last first

-- the octets that an act sends
abbrev pub octets_sent : Act → Option (List ℕ)
octets_sent (act.Sent q k octets s) = Some octets
octets_sent _ = None

abbrev pub one_more : Option (List ℕ) → List (List ℕ) → List (List ℕ)
one_more None f = f
one_more (Some octets) f = octets ∷ f

abbrev pub sent_after : List Act → List (List ℕ) → List (List ℕ)
sent_after [] f = f
sent_after (e ∷ g) f = sent_after g (one_more (octets_sent e) f)

-- of each its number
abbrev pub WereSent : List Entry → ℕ → List (List ℕ) → Type 0
WereSent past round [] = Unit {0}
WereSent past round (octets ∷ f) = WasSent past round (suc (length f)) octets × WereSent past round f

-- an act sends a frame or not
data Sends (e : Act) : Type 0 where
  One_more : (q : Peer) (k : Kind) (octets : List ℕ) (s : Option Seal) → e ≡ act.Sent q k octets s → Sends e
  None_more : octets_sent e ≡ None → is_sent e ≡ false → Sends e

sends : (e : Act) → Sends e
sends (act.Opened p s) = None_more refl refl
sends (act.Closed p s) = None_more refl refl
sends (act.Drew v) = None_more refl refl
sends (act.Derived p i k) = None_more refl refl
sends (act.Sent q k octets s) = One_more q k octets s refl
sends (act.Took f octets k o s) = None_more refl refl
sends (act.Installed q k) = None_more refl refl
sends (act.Resumed p k) = None_more refl refl
sends (act.Used q k i n octets) = None_more refl refl
sends (act.HandedUp p k i t n octets) = None_more refl refl
sends (act.Finished p i) = None_more refl refl
sends (act.Put x m p o) = None_more refl refl
sends (act.Looked x m p o) = None_more refl refl
sends (act.Revoked x m p o) = None_more refl refl
sends (act.Secret p psk) = None_more refl refl
sends (act.GaveUp p m) = None_more refl refl
sends (act.Idle y) = None_more refl refl
sends (act.Link x s) = None_more refl refl

were_entry : (past : List Entry) (e : Entry) (round more : ℕ) (f : List (List ℕ)) → round ≤ more → WereSent past round f → WereSent (e ∷ past) more f
were_entry past e round more [] low were = tt
were_entry past e round more (octets ∷ f) low were = (
  record { entry = were.0.entry; there = inr were.0.there; earlier = omega (arith, were.0.earlier, low); is = were.0.is; act = were.0.act },
  were_entry past e round more f low were.1,
)

-- as many as were numbered
pub record Sending (past : List Entry) (round : ℕ) (f : List (List ℕ)) : Type 0 where
  pub count : frames past ≡ length f
  pub were : WereSent past round f

sending_one : (past : List Entry) (round : ℕ) (n : Node) (e : Act) (f : List (List ℕ)) → Sends e → Sending past (suc round) f
    → Sending (record { round = round; node = n; number = number_of e past; act = e } ∷ past) (suc round) (one_more (octets_sent e) f)
sending_one past round n e f (One_more q k octets s is) w =
    subst (λ (x : Act). Sending (record { round = round; node = n; number = number_of x past; act = x } ∷ past) (suc round) (one_more (octets_sent x) f)) (sym is) (record {
      count = ap suc w.count;
      were = (
        record { entry = _; there = inl refl; earlier = omega arith; is = ap suc w.count; act = (q, (k, (s, refl))) },
        were_entry past _ (suc round) (suc round) f (omega arith) w.were,
      );
    })
sending_one past round n e f (None_more none not_sent) w = record {
  count = rw (none, not_sent) w.count;
  were = rw none (were_entry past _ (suc round) (suc round) f (omega arith) w.were);
}

pub sending_push : (past : List Entry) (round : ℕ) (n : Node) (g : List Act) (f : List (List ℕ)) → Sending past (suc round) f → Sending (push round n g past) (suc round) (sent_after g f)
sending_push past round n [] f w = w
sending_push past round n (e ∷ g) f w =
    sending_push (record { round = round; node = n; number = number_of e past; act = e } ∷ past) round n g (one_more (octets_sent e) f) (sending_one past round n e f (sends e) w)

pub more_rounds : (past : List Entry) (round : ℕ) (f : List (List ℕ)) → WereSent past round f → WereSent past (suc round) f
more_rounds past round [] were = tt
more_rounds past round (octets ∷ f) were =
    (record { entry = were.0.entry; there = were.0.there; earlier = omega (arith, were.0.earlier); is = were.0.is; act = were.0.act }, more_rounds past round f were.1)

-- ---- the journal of some rounds

-- the histories of a station and of two access points, and the frames that were sent: by rounds of the header c, after which the network is d
pub record Stage (c d : Domain) (k l m : ℕ) (rounds : List (List Event)) (sta ap to : List Act) (sent : List (List ℕ)) : Type 0 where
  pub journal : List Entry
  pub explained : Explained c rounds journal
  pub network : present c journal ≡ d
  pub sta_is : history (Sta m) journal ≡ sta
  pub ap_is : history (Ap k) journal ≡ ap
  pub to_is : history (Ap l) journal ≡ to
  pub count : frames journal ≡ length sent
  pub were : WereSent journal (suc (length rounds)) sent
  pub right : AnsweredInTime c journal
  pub low : IsLow (length rounds) journal

-- the law that says so
abbrev pub TimelyIsRight : Type 0
TimelyIsRight = (d : Domain) (j : List Entry) → AnsweredInTime d j → HeldRight d j

-- which access points and which station
pub record AreTwo (k l : ℕ) : Type 0 where
  pub one : (k == l) ≡ false
  pub other : (l == k) ≡ false

pub more_low : (round : ℕ) (j : List Entry) → IsLow round j → IsLow (suc round) j
more_low round j low = λ m there. (let is : m.round ≤ round = low m there in omega (arith, is))

module _ (c d : Domain) (k l m : ℕ) (apart : AreTwo k l) (rounds : List (List Event)) (sta aps to : List Act) (sent : List (List ℕ)) (st : Stage c d k l m rounds sta aps to sent) (event : Event) (g : List Act) where
  abbrev pub now : ℕ
  now = suc (length rounds)

  abbrev pub after : Node → List Entry
  after n = push now n g st.journal

  sending : (n : Node) → Sending (after n) (suc now) (sent_after g sent)
  sending n = sending_push st.journal now n g sent (record { count = st.count; were = more_rounds st.journal now sent st.were })

  pub grows_sta : AtOne d now event st.journal (after (Sta m)) → LooksRight c now (Sta m) g st.journal → Stage c d k l m ((event ∷ []) ∷ rounds) (add g sta) aps to (sent_after g sent)
  grows_sta step looks = record {
    journal = after (Sta m);
    explained = explained_event c rounds event st.journal (after (Sta m)) st.explained (step_at c d now event st.journal (after (Sta m)) st.network step);
    network = same_at_one c d now event st.journal (after (Sta m)) step ∙ st.network;
    sta_is = history-push now (Sta m) g st.journal ∙ ap (add g) st.sta_is;
    ap_is = history-other now (Sta m) (Ap k) g st.journal refl ∙ st.ap_is;
    to_is = history-other now (Sta m) (Ap l) g st.journal refl ∙ st.to_is;
    count = (sending (Sta m)).count;
    were = (sending (Sta m)).were;
    right = right_push c now (Sta m) g st.journal st.right (more_low (length rounds) st.journal st.low) looks;
    low = low_push now (Sta m) g st.journal (more_low (length rounds) st.journal st.low);
  }

  pub grows_ap : AtOne d now event st.journal (after (Ap k)) → LooksRight c now (Ap k) g st.journal → Stage c d k l m ((event ∷ []) ∷ rounds) sta (add g aps) to (sent_after g sent)
  grows_ap step looks = record {
    journal = after (Ap k);
    explained = explained_event c rounds event st.journal (after (Ap k)) st.explained (step_at c d now event st.journal (after (Ap k)) st.network step);
    network = same_at_one c d now event st.journal (after (Ap k)) step ∙ st.network;
    sta_is = history-other now (Ap k) (Sta m) g st.journal refl ∙ st.sta_is;
    ap_is = history-push now (Ap k) g st.journal ∙ ap (add g) st.ap_is;
    to_is = history-other now (Ap k) (Ap l) g st.journal apart.other ∙ st.to_is;
    count = (sending (Ap k)).count;
    were = (sending (Ap k)).were;
    right = right_push c now (Ap k) g st.journal st.right (more_low (length rounds) st.journal st.low) looks;
    low = low_push now (Ap k) g st.journal (more_low (length rounds) st.journal st.low);
  }

  pub grows_to : AtOne d now event st.journal (after (Ap l)) → LooksRight c now (Ap l) g st.journal → Stage c d k l m ((event ∷ []) ∷ rounds) sta aps (add g to) (sent_after g sent)
  grows_to step looks = record {
    journal = after (Ap l);
    explained = explained_event c rounds event st.journal (after (Ap l)) st.explained (step_at c d now event st.journal (after (Ap l)) st.network step);
    network = same_at_one c d now event st.journal (after (Ap l)) step ∙ st.network;
    sta_is = history-other now (Ap l) (Sta m) g st.journal refl ∙ st.sta_is;
    ap_is = history-other now (Ap l) (Ap k) g st.journal apart.one ∙ st.ap_is;
    to_is = history-push now (Ap l) g st.journal ∙ ap (add g) st.to_is;
    count = (sending (Ap l)).count;
    were = (sending (Ap l)).were;
    right = right_push c now (Ap l) g st.journal st.right (more_low (length rounds) st.journal st.low) looks;
    low = low_push now (Ap l) g st.journal (more_low (length rounds) st.journal st.low);
  }

  -- of a node with that history
  step_of : (n : Node) (at_node : NodeEvent) (h : List Act) → history n st.journal ≡ h → HappensAt event st.journal now n at_node → RowOf (here d 0 n) h at_node g → g ≡ and_switch d n h g → AtOne d now event st.journal (after n)
  step_of n at_node h is happens row still = record {
    node = n;
    at_node = at_node;
    happens = happens;
    acts = g;
    group = subst (λ (x : List Act). Adds (here d 0 n) x at_node g) (sym is) (record { acts = g; row = row; is = still });
    is = refl;
  }

  -- an event without a look
  pub by_sta : (at_node : NodeEvent) → HappensAt event st.journal now (Sta m) at_node → RowOf (here d 0 (Sta m)) sta at_node g → answers g ≡ [] → Stage c d k l m ((event ∷ []) ∷ rounds) (add g sta) aps to (sent_after g sent)
  by_sta at_node happens row none = grows_sta (step_of (Sta m) at_node sta st.sta_is happens row refl) (quiet c now (Sta m) g st.journal none)

  pub by_ap : (at_node : NodeEvent) → HappensAt event st.journal now (Ap k) at_node → RowOf (here d 0 (Ap k)) aps at_node g → g ≡ and_switch d (Ap k) aps g → answers g ≡ [] → Stage c d k l m ((event ∷ []) ∷ rounds) sta (add g aps) to (sent_after g sent)
  by_ap at_node happens row still none = grows_ap (step_of (Ap k) at_node aps st.ap_is happens row still) (quiet c now (Ap k) g st.journal none)

  pub by_to : (at_node : NodeEvent) → HappensAt event st.journal now (Ap l) at_node → RowOf (here d 0 (Ap l)) to at_node g → g ≡ and_switch d (Ap l) to g → answers g ≡ [] → Stage c d k l m ((event ∷ []) ∷ rounds) sta aps (add g to) (sent_after g sent)
  by_to at_node happens row still none = grows_to (step_of (Ap l) at_node to st.to_is happens row still) (quiet c now (Ap l) g st.journal none)

  -- and with one
  pub looks_ap : (at_node : NodeEvent) → HappensAt event st.journal now (Ap k) at_node → RowOf (here d 0 (Ap k)) aps at_node g → g ≡ and_switch d (Ap k) aps g → LooksRight c now (Ap k) g st.journal → Stage c d k l m ((event ∷ []) ∷ rounds) sta (add g aps) to (sent_after g sent)
  looks_ap at_node happens row still looks = grows_ap (step_of (Ap k) at_node aps st.ap_is happens row still) looks

  pub looks_to : (at_node : NodeEvent) → HappensAt event st.journal now (Ap l) at_node → RowOf (here d 0 (Ap l)) to at_node g → g ≡ and_switch d (Ap l) to g → LooksRight c now (Ap l) g st.journal → Stage c d k l m ((event ∷ []) ∷ rounds) sta aps (add g to) (sent_after g sent)
  looks_to at_node happens row still looks = grows_to (step_of (Ap l) at_node to st.to_is happens row still) looks

  -- the journal then
  pub looks_to-journal : (at_node : NodeEvent) (happens : HappensAt event st.journal now (Ap l) at_node) (row : RowOf (here d 0 (Ap l)) to at_node g) (still : g ≡ and_switch d (Ap l) to g) (looks : LooksRight c now (Ap l) g st.journal)
      → (looks_to at_node happens row still looks).journal ≡ after (Ap l)
  unfolding looks_to grows_to
  looks_to-journal at_node happens row still looks = refl

-- what stands in a history
module _ (c d : Domain) (k l m : ℕ) (rounds : List (List Event)) (sta aps to : List Act) (sent : List (List ℕ)) (st : Stage c d k l m rounds sta aps to sent) (e : Act) where
  pub at_sta : In e sta → In e (history (Sta m) st.journal)
  at_sta there = subst (λ (h : List Act). In e h) (sym st.sta_is) there

  pub at_ap : In e aps → In e (history (Ap k) st.journal)
  at_ap there = subst (λ (h : List Act). In e h) (sym st.ap_is) there

  pub at_to : In e to → In e (history (Ap l) st.journal)
  at_to there = subst (λ (h : List Act). In e h) (sym st.to_is) there

-- ---- round 0

low_started : (d : Domain) (n : ℕ) → IsLow 0 (started d n)
low_started d zero = subst (IsLow 0) (sym (started_none d)) (λ m there. absurd there)
low_started d (suc n) = subst (IsLow 0) (sym (started_more d n)) (low_push 0 (Ap n) (start_acts d 0 (Ap n)) (started d n) (low_started d n))

-- no holder is asked as access points start, whether management frames are protected or not
none_asked : (on : Bool) (d : Domain) (n : Node) (number : ℕ) (h : List Act) → answers ((act.Drew (draw.Group groups.Gtk (gtk d n 0)) ∷ draw_igtk on d n number) ++ current_act groups.Gtk d n h ∷ current_igtk on d n h) ≡ []
none_asked true d n number h = refl
none_asked false d n number h = refl

starts_quiet : (d : Domain) (n : Node) → answers (start_acts d 0 n) ≡ []
starts_quiet d n = none_asked (protects d) d n 1 (add (draw_acts d n 0) [])

right_started : (d : Domain) (n : ℕ) → AnsweredInTime d (started d n)
right_started d zero = subst (AnsweredInTime d) (sym (started_none d)) (right_none d)
right_started d (suc n) =
    subst (AnsweredInTime d) (sym (started_more d n)) (right_push d 0 (Ap n) (start_acts d 0 (Ap n)) (started d n) (right_started d n) (low_started d n) (quiet d 0 (Ap n) (start_acts d 0 (Ap n)) (started d n) (starts_quiet d (Ap n))))

pub begun : (d : Domain) (k l m : ℕ) → k < length d.aps → l < length d.aps → Stage d d k l m [] [] (add (start_acts d 0 (Ap k)) []) (add (start_acts d 0 (Ap l)) []) []
begun d k l m k_low l_low = record {
  journal = started d (length d.aps);
  explained = explained_start d;
  network = present_none d (started d (length d.aps)) (unchanged_started d (length d.aps));
  sta_is = history-started_sta d m (length d.aps);
  ap_is = history-started d k (length d.aps) k_low;
  to_is = history-started d l (length d.aps) l_low;
  count = frames-started d (length d.aps);
  were = tt;
  right = right_started d (length d.aps);
  low = low_started d (length d.aps);
}

-- How the journal of an example grows: by one event in each round, at one access point and one station.
use Rattle.std.proofs.Common.{◌≡◌, ℕ, suc, ◌<◌, false, List, [], ◌∷◌, length, Option, None, refl, sym, ap, subst, ◌∙◌}
use Rattle.domain_base.specs.declared.names.Node.TheVariants.{Ap, Sta}
use Rattle.domain_base.specs.declared.names.Node.{Node}
use Rattle.domain_rules.proofs.Exchange.{frames-started}
use Rattle.domain_rules.proofs.Unchanged.{happens_still, still_more}
use Rattle.domain_rules.proofs.Journals.{AtOne, history-push, history-other, history-started, history-started_sta, explained_start, explained_still}
use Rattle.domain_rules.specs.AccessPointRows.{start_acts}
use Rattle.domain_rules.specs.Explained.{frames, push, started, HappensAt, Explained}
use Rattle.domain_rules.specs.Here.{here}
use Rattle.domain_rules.specs.Owing.{and_switch}
use Rattle.domain_rules.specs.Rows.{NodeEvent, RowOf, Adds}
use Rattle.run_journal.specs.Premises.{In}
use Rattle.run_journal.specs.Questions.{history, add}
use Rattle.run_journal.specs.Secrets.{rounds_change_keys}
use Rattle.run_journal.specs.declared.acts.Act.{Act}
use Rattle.run_journal.specs.declared.acts.Entry.{Entry}
use Rattle.run_journal.specs.declared.domain.Domain.{Domain}
use Rattle.run_journal.specs.declared.domain.Event.{Event}
use Rattle.example_domains.proofs.Stages.{octets_sent, one_more, sent_after, WereSent, Sending, sending_push, more_rounds}

-- the histories of the station and of the access point, and the frames that were sent, the last first
pub record Stage (d : Domain) (rounds : List (List Event)) (sta aps : List Act) (sent : List (List ℕ)) : Type 0 where
  pub journal : List Entry
  pub still : rounds_change_keys rounds ≡ false
  pub explained : Explained d rounds journal
  pub sta_is : history (Sta 0) journal ≡ sta
  pub ap_is : history (Ap 0) journal ≡ aps
  pub count : frames journal ≡ length sent
  pub were : WereSent journal (suc (length rounds)) sent

module _ (d : Domain) (rounds : List (List Event)) (sta aps : List Act) (sent : List (List ℕ)) (st : Stage d rounds sta aps sent) (event : Event) where
  abbrev now : ℕ
  now = suc (length rounds)

  abbrev after : Node → List Act → List Entry
  after n g = push now n g st.journal

  sending : (n : Node) (g : List Act) → Sending (after n g) (suc now) (sent_after g sent)
  sending n g = sending_push st.journal now n g sent (record { count = st.count; were = more_rounds st.journal now sent st.were })

  -- of a node with that history
  step_of : (n : Node) (at_node : NodeEvent) (h acts g : List Act) → history n st.journal ≡ h → HappensAt event st.journal now n at_node → RowOf (here d 0 n) h at_node acts → g ≡ and_switch d n h acts → AtOne d now event st.journal (after n g)
  step_of n at_node h acts g is happens row says = record {
    node = n;
    at_node = at_node;
    happens = happens;
    acts = g;
    group = subst (λ (x : List Act). Adds (here d 0 n) x at_node g) (sym is) (record { acts = acts; row = row; is = says });
    is = refl;
  }

  pub by_sta : (at_node : NodeEvent) (acts : List Act) → HappensAt event st.journal now (Sta 0) at_node → RowOf (here d 0 (Sta 0)) sta at_node acts → Stage d ((event ∷ []) ∷ rounds) (add acts sta) aps (sent_after acts sent)
  by_sta at_node acts happens row = record {
    journal = after (Sta 0) acts;
    still = still_more event rounds (happens_still event st.journal now (Sta 0) at_node happens).0 st.still;
    explained = explained_still d rounds event st.journal (after (Sta 0) acts) st.explained st.still (step_of (Sta 0) at_node sta acts acts st.sta_is happens row refl);
    sta_is = history-push now (Sta 0) acts st.journal ∙ ap (add acts) st.sta_is;
    ap_is = history-other now (Sta 0) (Ap 0) acts st.journal refl ∙ st.ap_is;
    count = (sending (Sta 0) acts).count;
    were = (sending (Sta 0) acts).were;
  }

  -- with what the switch adds
  pub by_ap : (at_node : NodeEvent) (acts g : List Act) → HappensAt event st.journal now (Ap 0) at_node → RowOf (here d 0 (Ap 0)) aps at_node acts → g ≡ and_switch d (Ap 0) aps acts → Stage d ((event ∷ []) ∷ rounds) sta (add g aps) (sent_after g sent)
  by_ap at_node acts g happens row says = record {
    journal = after (Ap 0) g;
    still = still_more event rounds (happens_still event st.journal now (Ap 0) at_node happens).0 st.still;
    explained = explained_still d rounds event st.journal (after (Ap 0) g) st.explained st.still (step_of (Ap 0) at_node aps acts g st.ap_is happens row says);
    sta_is = history-other now (Ap 0) (Sta 0) g st.journal refl ∙ st.sta_is;
    ap_is = history-push now (Ap 0) g st.journal ∙ ap (add g) st.ap_is;
    count = (sending (Ap 0) g).count;
    were = (sending (Ap 0) g).were;
  }

-- two acts that send nothing, before one that does
pub quietly : (d : Domain) (rounds : List (List Event)) (sta aps : List Act) (sent : List (List ℕ)) (one two : Act) (octets : List ℕ) → octets_sent one ≡ None → octets_sent two ≡ None
    → Stage d rounds sta aps (octets ∷ one_more (octets_sent two) (one_more (octets_sent one) sent)) → Stage d rounds sta aps (octets ∷ sent)
quietly d rounds sta aps sent one two octets first second st =
    subst (λ (o : Option (List ℕ)). Stage d rounds sta aps (octets ∷ one_more o sent)) second
    (subst (λ (o : Option (List ℕ)). Stage d rounds sta aps (octets ∷ one_more (octets_sent two) (one_more o sent))) first st)

-- what stands in a history
module _ (d : Domain) (rounds : List (List Event)) (sta aps : List Act) (sent : List (List ℕ)) (st : Stage d rounds sta aps sent) (e : Act) where
  pub at_sta : In e sta → In e (history (Sta 0) st.journal)
  at_sta there = subst (λ (h : List Act). In e h) (sym st.sta_is) there

  pub at_ap : In e aps → In e (history (Ap 0) st.journal)
  at_ap there = subst (λ (h : List Act). In e h) (sym st.ap_is) there

-- round 0
pub begun : (d : Domain) → 0 < length d.aps → Stage d [] [] (add (start_acts d 0 (Ap 0)) []) []
begun d low = record {
  journal = started d (length d.aps);
  still = refl;
  explained = explained_start d;
  sta_is = history-started_sta d 0 (length d.aps);
  ap_is = history-started d 0 (length d.aps) low;
  count = frames-started d (length d.aps);
  were = tt;
}

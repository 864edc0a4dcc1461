-- A payload of a station is sent under the first packet number of a pairwise key and handed up, and so is one of an access point.
use Rattle.std.proofs.Common.{◌≡◌, ℕ, suc, true, false, List, [], ◌∷◌, length, Some, None, refl, ap, arith, inl, inr}
use Rattle.std.specs.Prelude.{not, ◌||◌}
use Rattle.air_frame.specs.Fields.{HeaderFields}
use Rattle.air_frame.specs.Sent.{data_header_octets, protected_data_octets, sent_header}
use Rattle.air_frame.specs.declared.frame.Direction.TheVariants.{ToDs, FromDs}
use Rattle.domain_base.specs.declared.names.Node.{Node}
use Rattle.domain_base.specs.declared.names.Node.TheVariants.{Ap, Sta}
use Rattle.domain_base.specs.declared.names.Peer.TheVariants.{One}
use Rattle.domain_rules.proofs.DataExchange.{send_step, alone_at_ap, sends_first, opens_pairwise, data_row}
use Rattle.domain_rules.proofs.DataReads.{IsMade, body_of, data_protected}
use Rattle.domain_rules.proofs.DataRounds.{IsSender}
use Rattle.domain_rules.proofs.Exchange.{take_step, same_octets, IsPair, Stage, after_sta, after_ap}
use Rattle.domain_rules.proofs.Journals.{AtOne}
use Rattle.domain_rules.proofs.KeyOctets.{octets-tk}
use Rattle.domain_rules.specs.DataExample.{IsPayload}
use Rattle.domain_rules.specs.DataFrames.{data_seal, sent_data}
use Rattle.domain_rules.specs.DataVerdict.{opened_by}
use Rattle.domain_rules.specs.Explained.{push}
use Rattle.domain_rules.specs.Here.{here}
use Rattle.domain_rules.specs.Network.{renews_at, address}
use Rattle.domain_rules.specs.Owing.{and_switch}
use Rattle.domain_rules.specs.PacketNumbers.{pairwise_got}
use Rattle.domain_rules.specs.Rows.{TakeRow}
use Rattle.domain_rules.specs.Verdict.{is_mine_or_group}
use Rattle.key_hierarchy.specs.Keys.{ptk}
use Rattle.key_hierarchy.specs.declared.inputs.Inputs.{Inputs}
use Rattle.run_journal.specs.Acts.{Derivation}
use Rattle.run_journal.specs.Questions.{session, pairwise_uses, add}
use Rattle.run_journal.specs.declared.acts.Act.TheVariants.{Took, Used, HandedUp}
use Rattle.run_journal.specs.declared.acts.Act.{Act}
use Rattle.run_journal.specs.declared.acts.Kind.TheVariants as kind
use Rattle.run_journal.specs.declared.acts.Outcome.TheVariants.{Accepted}
use Rattle.run_journal.specs.declared.domain.Domain.{Domain}
use Rattle.run_journal.specs.declared.domain.Event.TheVariants.{Deliver, Send}
use Rattle.run_journal.specs.declared.domain.Event.{Event}

-- ---- the frames, and the acts at both ends

module _ (d : Domain) (a s : Node) (tk plain : List ℕ) where
  abbrev pub body_up : List ℕ
  body_up = body_of ToDs (Some 5) (address d a) (address d s) (address d a) tk 0 1 plain

  abbrev pub octets_up : List ℕ
  octets_up = protected_data_octets ToDs (Some 5) (address d a) (address d s) (address d a) body_up

  abbrev pub sends_up : List Act
  sends_up = Used (One a) tk 0 1 plain ∷ sent_data d s (One a) (Some 5) tk 0 1 plain ∷ []

  abbrev pub takes_up : List Act
  takes_up = Took (Some s) octets_up kind.Data Accepted (Some (data_seal tk (data_header_octets ToDs true (Some 5) (address d a) (address d s) (address d a)) 1 plain)) ∷ HandedUp s tk 0 5 1 plain ∷ []

  abbrev pub body_down : List ℕ
  body_down = body_of FromDs None (address d s) (address d a) (address d a) tk 0 1 plain

  abbrev pub octets_down : List ℕ
  octets_down = protected_data_octets FromDs None (address d s) (address d a) (address d a) body_down

  abbrev pub sends_down : List Act
  sends_down = Used (One s) tk 0 1 plain ∷ sent_data d a (One s) None tk 0 1 plain ∷ []

  abbrev pub takes_down : List Act
  takes_down = Took (Some a) octets_down kind.Data Accepted (Some (data_seal tk (data_header_octets FromDs true None (address d s) (address d a) (address d a)) 1 plain)) ∷ HandedUp a tk 0 0 1 plain ∷ []

-- ---- two more rounds under the key of the session

module _ (d : Domain) (k m : ℕ) (pair : IsPair d k m) (from : IsSender d k m) (i : Inputs) (rounds : List (List Event)) (sta aps : List Act) (sent : ℕ) (last : List ℕ) (st : Stage d k m rounds sta aps sent last) (plain : List ℕ) (is : IsPayload plain) where
  abbrev a : Node
  a = Ap k

  abbrev s : Node
  s = Sta m

  abbrev key : Derivation
  key = record { inputs = i; ptk = ptk i }

  abbrev tk : List ℕ
  tk = (ptk i).tk

  -- a payload of the station
  module _ (at_sta : session a sta ≡ Some key) (used : pairwise_uses a sta ≡ 0) (at_ap : session s aps ≡ Some key) (got : pairwise_got s tk 5 aps ≡ 0) (still : takes_up d a s tk plain ≡ and_switch d a aps (takes_up d a s tk plain)) where
    abbrev up_sent : List (List Event)
    up_sent = (Send s (One a) (Some 5) plain ∷ []) ∷ rounds

    step_sent : AtOne d (suc (length rounds)) (Send s (One a) (Some 5) plain) st.journal (push (suc (length rounds)) s (sends_up d a s tk plain) st.journal)
    step_sent = send_step d (suc (length rounds)) s (One a) (Some 5) plain st.journal sta (sends_up d a s tk plain) st.sta_is (sends_first d s a sta key (Some 5) plain at_sta used (λ acts. refl)) refl

    stage_sent : Stage d k m up_sent (add (sends_up d a s tk plain) sta) aps (suc sent) (octets_up d a s tk plain)
    stage_sent = after_sta d k m rounds sta aps sent last st (Send s (One a) (Some 5) plain) (sends_up d a s tk plain) (suc sent) (octets_up d a s tk plain) step_sent (ap suc st.count)
        (record { entry = _; there = inl refl; earlier = omega arith; is = ap suc st.count; act = (_, (_, (_, refl))) })

    made : IsMade ToDs (Some 5) (address d a) (address d s) (address d a) tk 0 1 plain
    made = record {
      tid_low = omega arith;
      l1 = pair.ap_whole;
      l2 = pair.sta_whole;
      l3 = pair.ap_whole;
      o1 = from.ap_octets;
      o2 = from.sta_octets;
      o3 = from.ap_octets;
      key = octets-tk i;
      id_low = omega arith;
      low = omega arith;
      octets = is.are;
      short = is.short;
    }

    abbrev fields : HeaderFields
    fields = sent_header (data_header_octets ToDs true (Some 5) (address d a) (address d s) (address d a)) (address d a) (address d s) (address d a)

    under : opened_by a aps s fields (Some 5) (body_up d a s tk plain) ≡ Some (record { key = tk; id = 0; tid = 5; kept = 0 })
    under = opens_pairwise a s aps fields (Some 5) (body_up d a s tk plain) key 0 at_ap refl (data_protected ToDs (Some 5) (address d a) (address d s) (address d a) tk 0 1 plain made).key_id got

    mine : (not (is_mine_or_group d a fields) || false) ≡ false
    mine = rw (same_octets d a) refl

    row : TakeRow (here d 0 a) aps (octets_up d a s tk plain) (takes_up d a s tk plain)
    row = data_row d a s aps ToDs (Some 5) (address d a) (address d s) (address d a) tk 0 1 plain made 5 0 pair.finds_sta mine under refl

    step_taken : AtOne d (suc (length up_sent)) (Deliver (suc sent) a) stage_sent.journal (push (suc (length up_sent)) a (takes_up d a s tk plain) stage_sent.journal)
    step_taken = take_step d (suc (length up_sent)) (suc sent) a (octets_up d a s tk plain) stage_sent.journal aps (takes_up d a s tk plain) stage_sent.ap_is stage_sent.was row still

    pub carried_up : Stage d k m ((Deliver (suc sent) a ∷ []) ∷ up_sent) (add (sends_up d a s tk plain) sta) (add (takes_up d a s tk plain) aps) (suc sent) (octets_up d a s tk plain)
    carried_up = after_ap d k m up_sent (add (sends_up d a s tk plain) sta) aps (suc sent) (octets_up d a s tk plain) stage_sent (Deliver (suc sent) a) (takes_up d a s tk plain) (suc sent) (octets_up d a s tk plain) step_taken stage_sent.count
        (record { entry = stage_sent.was.entry; there = inr (inr stage_sent.was.there); earlier = omega (arith, stage_sent.was.earlier); is = stage_sent.was.is; act = stage_sent.was.act })

  -- a payload of the access point, where no renewal is due with the first number
  module _ (never : renews_at d 1 ≡ false) (at_ap : session s aps ≡ Some key) (used : pairwise_uses s aps ≡ 0) (at_sta : session a sta ≡ Some key) (got : pairwise_got a tk 0 sta ≡ 0) (still : sends_down d a s tk plain ≡ and_switch d a aps (sends_down d a s tk plain)) where
    abbrev down_sent : List (List Event)
    down_sent = (Send a (One s) None plain ∷ []) ∷ rounds

    step_down : AtOne d (suc (length rounds)) (Send a (One s) None plain) st.journal (push (suc (length rounds)) a (sends_down d a s tk plain) st.journal)
    step_down = send_step d (suc (length rounds)) a (One s) None plain st.journal aps (sends_down d a s tk plain) st.ap_is (sends_first d a s aps key None plain at_ap used (alone_at_ap d k aps s key never)) still

    stage_down : Stage d k m down_sent sta (add (sends_down d a s tk plain) aps) (suc sent) (octets_down d a s tk plain)
    stage_down = after_ap d k m rounds sta aps sent last st (Send a (One s) None plain) (sends_down d a s tk plain) (suc sent) (octets_down d a s tk plain) step_down (ap suc st.count)
        (record { entry = _; there = inl refl; earlier = omega arith; is = ap suc st.count; act = (_, (_, (_, refl))) })

    made_down : IsMade FromDs None (address d s) (address d a) (address d a) tk 0 1 plain
    made_down = record {
      tid_low = tt;
      l1 = pair.sta_whole;
      l2 = pair.ap_whole;
      l3 = pair.ap_whole;
      o1 = from.sta_octets;
      o2 = from.ap_octets;
      o3 = from.ap_octets;
      key = octets-tk i;
      id_low = omega arith;
      low = omega arith;
      octets = is.are;
      short = is.short;
    }

    abbrev fields_down : HeaderFields
    fields_down = sent_header (data_header_octets FromDs true None (address d s) (address d a) (address d a)) (address d s) (address d a) (address d a)

    under_down : opened_by s sta a fields_down None (body_down d a s tk plain) ≡ Some (record { key = tk; id = 0; tid = 0; kept = 0 })
    under_down = opens_pairwise s a sta fields_down None (body_down d a s tk plain) key 0 at_sta from.alone (data_protected FromDs None (address d s) (address d a) (address d a) tk 0 1 plain made_down).key_id got

    mine_down : (not (is_mine_or_group d s fields_down) || false) ≡ false
    mine_down = rw (same_octets d s) refl

    row_down : TakeRow (here d 0 s) sta (octets_down d a s tk plain) (takes_down d a s tk plain)
    row_down = data_row d s a sta FromDs None (address d s) (address d a) (address d a) tk 0 1 plain made_down 0 0 pair.finds_ap mine_down under_down refl

    step_handed : AtOne d (suc (length down_sent)) (Deliver (suc sent) s) stage_down.journal (push (suc (length down_sent)) s (takes_down d a s tk plain) stage_down.journal)
    step_handed = take_step d (suc (length down_sent)) (suc sent) s (octets_down d a s tk plain) stage_down.journal sta (takes_down d a s tk plain) stage_down.sta_is stage_down.was row_down refl

    pub carried_down : Stage d k m ((Deliver (suc sent) s ∷ []) ∷ down_sent) (add (takes_down d a s tk plain) sta) (add (sends_down d a s tk plain) aps) (suc sent) (octets_down d a s tk plain)
    carried_down = after_sta d k m down_sent sta (add (sends_down d a s tk plain) aps) (suc sent) (octets_down d a s tk plain) stage_down (Deliver (suc sent) s) (takes_down d a s tk plain) (suc sent) (octets_down d a s tk plain) step_handed stage_down.count
        (record { entry = stage_down.was.entry; there = inr (inr stage_down.was.there); earlier = omega (arith, stage_down.was.earlier); is = stage_down.was.is; act = stage_down.was.act })

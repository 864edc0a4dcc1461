-- The rounds of an example with data: a station sends to its access point, the access point to the station and to all, and a frame that
-- comes again is refused.
use Rattle.std.proofs.Common.{◌≡◌, ℕ, suc, Bool, true, false, List, [], ◌∷◌, Some, None, refl, sym, ap, subst, ◌∙◌, arith, inl, inr}
use Rattle.std.specs.Prelude.{not, ◌||◌, ◌==◌, max, cond}
use Rattle.std.proofs.lemmas.Bool.{eq-eqb}
use Rattle.std.proofs.lemmas.Slice.Eq.{bytes_eq-Decides}
use Rattle.domain_base.specs.Octets.{AreOctets}
use Rattle.domain_base.specs.declared.names.Node.{Node}
use Rattle.domain_base.specs.declared.names.Node.TheVariants.{Ap, Sta}
use Rattle.domain_base.specs.declared.names.Peer.TheVariants.{One, All}
use Rattle.air_frame.specs.declared.frame.Direction.TheVariants.{ToDs, FromDs}
use Rattle.air_frame.specs.Sent.{data_header_octets, sent_header}
use Rattle.air_frame.specs.Fields.{HeaderFields}
use Rattle.eapol_key.specs.declared.messages.Message.TheVariants.{M3}
use Rattle.key_hierarchy.specs.declared.inputs.Inputs.{Inputs}
use Rattle.run_journal.specs.declared.acts.GroupKind.TheVariants as groups
use Rattle.run_journal.specs.Acts.{Derivation, GroupKey}
use Rattle.run_journal.specs.Questions.{history, session, pairwise_uses}
use Rattle.run_journal.specs.Premises.{In}
use Rattle.run_journal.specs.declared.acts.Act.{Act}
use Rattle.domain_base.specs.declared.names.Mac.{Mac}
use Rattle.run_journal.specs.declared.acts.Act.TheVariants.{Took, Installed, Used, HandedUp, Finished}
use Rattle.run_journal.specs.declared.acts.Key.TheVariants.{Pairwise, Group}
use Rattle.run_journal.specs.declared.acts.Kind.TheVariants as kind
use Rattle.run_journal.specs.declared.acts.Outcome.TheVariants.{Accepted, Answered}
use Rattle.run_journal.specs.declared.domain.Domain.{Domain}
use Rattle.run_journal.specs.declared.domain.Event.TheVariants.{Deliver, Send}
use Rattle.domain_rules.specs.DataExample.{Payloads, ArePayloads, HasExchange}
use Rattle.domain_rules.specs.DataFrames.{broadcast, data_seal, sent_data}
use Rattle.run_journal.specs.Addresses.{is_group}
use Rattle.domain_rules.specs.DataVerdict.{opened_by}
use Rattle.domain_rules.specs.Explained.{push}
use Rattle.domain_rules.proofs.Journals.{AtOne}
use Rattle.domain_rules.specs.Frames.{sent_m4, keyed_by}
use Rattle.domain_rules.specs.GroupKeys.{memory, is_key, told, rsc_in, got_by, got, gtk_news}
use Rattle.domain_rules.specs.Network.{renews_at, mac, address}
use Rattle.domain_rules.specs.PacketNumbers.{pairwise_got}
use Rattle.domain_rules.specs.Reading.{Keyed, Reads}
use Rattle.domain_rules.specs.Rows.{TakeRow}
use Rattle.domain_rules.specs.Verdict.{is_mine, is_mine_or_group}
use Rattle.domain_rules.specs.Here.{here}
use Rattle.domain_rules.proofs.CarriedKey.{IsGroupKey}
use Rattle.domain_rules.proofs.KeyOctets.{octets-kek, octets-tk}
use Rattle.domain_rules.proofs.Parts.{same-refl}
use Rattle.domain_rules.proofs.SentReads.{m3_message, reads-m3, few-m3, reads-rsc}
use Rattle.domain_rules.proofs.Exchange.{length-nonce, length-gtk, octets-gtk, take_step, same_octets, IsPair, Stage, after_sta, after_ap}
use Rattle.domain_rules.proofs.DataReads.{IsMade, body_of, data_protected}
use Rattle.domain_rules.proofs.DataExchange.{send_step, alone_at_ap, sends_first, sends_first_all, opens_pairwise, opens_group, other_id, data_row, replayed_row}
use Rattle.domain_rules.proofs.KeyRounds.{stage9}
use Rattle.domain_rules.proofs.HandshakeActs as first
use Rattle.domain_rules.proofs.DataActs as w

-- the addresses of both are octets, and the station's is that of one node
pub record IsSender (d : Domain) (k m : ℕ) : Type 0 where
  pub ap_octets : AreOctets (address d (Ap k))
  pub sta_octets : AreOctets (address d (Sta m))
  pub alone : is_group (address d (Sta m)) ≡ false
  pub all_octets : AreOctets broadcast

or_true : (b : Bool) → (b || true) ≡ true
or_true true = refl
or_true false = refl

-- a group key's counter behind the acts of M3, behind acts that leave it, behind a payload under another key, and behind one under it
same_key : (p : Node) (key : List ℕ) (id : ℕ) → is_key p key id p key id ≡ true
same_key p key id = rw (same-refl p, (bytes_eq-Decides key key).1 refl, eq-eqb id id refl) refl

got_begun : (p : Node) (key : List ℕ) (id : ℕ) (b : Mac) (h : List Act) → got p key id (Installed (One p) (Group groups.Gtk key id b) ∷ h) ≡ told p h
got_begun p key id b h = ap (λ (c : Bool). cond c (told p h) (got p key id h)) (same_key p key id)

leaves : (p : Node) (key : List ℕ) (id : ℕ) (e : Act) (h : List Act) → ((heard before : ℕ) → got_by groups.Gtk p key id e heard before ≡ before) → got p key id (e ∷ h) ≡ got p key id h
leaves p key id e h same_counter = same_counter (told p h) (got p key id h)

got_other : (p : Node) (key : List ℕ) (id : ℕ) (q : Node) (tk : List ℕ) (i tid n : ℕ) (plain : List ℕ) (h : List Act) → (id == i) ≡ false → got p key id (HandedUp q tk i tid n plain ∷ h) ≡ got p key id h
got_other p key id q tk i tid n plain h other = ap (λ (b : Bool). cond b (max n (got p key id h)) (got p key id h)) (other_id p key id q tk i other)

got_more : (p : Node) (key : List ℕ) (id tid n : ℕ) (plain : List ℕ) (h : List Act) → got p key id (HandedUp p key id tid n plain ∷ h) ≡ max n (got p key id h)
got_more p key id tid n plain h = ap (λ (b : Bool). cond b (max n (got p key id h)) (got p key id h)) (same_key p key id)

module _ (d : Domain) (k m : ℕ) (p : Payloads) (pair : IsPair d k m) (from : IsSender d k m) (fit : ArePayloads p) (never : renews_at d 1 ≡ false) where
  abbrev a : Node
  a = w.a d k m p

  abbrev s : Node
  s = w.s d k m p

  abbrev i : Inputs
  i = w.i d k m p

  abbrev key : Derivation
  key = w.key d k m p

  abbrev tk : List ℕ
  tk = w.tk d k m p

  abbrev g : GroupKey
  g = w.g d k m p

  abbrev octets9 : List ℕ
  octets9 = w.octets9 d k m p

  abbrev octets10 : List ℕ
  octets10 = w.octets10 d k m p

  abbrev octets11 : List ℕ
  octets11 = w.octets11 d k m p

  abbrev sta8 : List Act
  sta8 = w.sta8 d k m p

  abbrev sta10 : List Act
  sta10 = w.sta10 d k m p

  abbrev sta13 : List Act
  sta13 = w.sta13 d k m p

  abbrev sta15 : List Act
  sta15 = w.sta15 d k m p

  abbrev sta16 : List Act
  sta16 = w.sta16 d k m p

  abbrev ap9 : List Act
  ap9 = w.ap9 d k m p

  abbrev ap11 : List Act
  ap11 = w.ap11 d k m p

  abbrev ap12 : List Act
  ap12 = w.ap12 d k m p

  abbrev ap14 : List Act
  ap14 = w.ap14 d k m p

  st : Stage d k m (w.rounds9 d k m p) sta8 ap9 8 (first.octets8 d k m)
  st = stage9 d k m pair

  -- round 10: the station sends a payload
  has10 : session a sta8 ≡ Some key
  has10 = rw (same-refl a) refl

  used10 : pairwise_uses a sta8 ≡ 0
  used10 = rw (same-refl a) refl

  step10 : AtOne d 10 (Send s (One a) (Some 5) p.up) st.journal (push 10 s (w.acts10 d k m p) st.journal)
  step10 = send_step d 10 s (One a) (Some 5) p.up st.journal sta8 (w.acts10 d k m p) st.sta_is (sends_first d s a sta8 key (Some 5) p.up has10 used10 (λ acts. refl)) refl

  stage10 : Stage d k m (w.rounds10 d k m p) sta10 ap9 9 octets9
  stage10 = after_sta d k m (w.rounds9 d k m p) sta8 ap9 8 (first.octets8 d k m) st (Send s (One a) (Some 5) p.up) (w.acts10 d k m p) 9 octets9 step10 (ap suc st.count)
      (record { entry = _; there = inl refl; earlier = omega arith; is = ap suc st.count; act = (_, (_, (_, refl))) })

  -- round 11: the access point hands it up
  made9 : IsMade ToDs (Some 5) (address d a) (address d s) (address d a) tk 0 1 p.up
  made9 = record {
    tid_low = omega arith;
    l1 = pair.ap_whole;
    l2 = pair.sta_whole;
    l3 = pair.ap_whole;
    o1 = from.ap_octets;
    o2 = from.sta_octets;
    o3 = from.ap_octets;
    key = octets-tk i;
    id_low = omega arith;
    low = omega arith;
    octets = fit.up.are;
    short = fit.up.short;
  }

  abbrev fields9 : HeaderFields
  fields9 = sent_header (data_header_octets ToDs true (Some 5) (address d a) (address d s) (address d a)) (address d a) (address d s) (address d a)

  has11 : session s ap9 ≡ Some key
  has11 = rw (same-refl s) refl

  got11 : pairwise_got s tk 5 ap9 ≡ 0
  got11 = rw (same-refl s, (bytes_eq-Decides tk tk).1 refl) refl

  under11 : opened_by a ap9 s fields9 (Some 5) (body_of ToDs (Some 5) (address d a) (address d s) (address d a) tk 0 1 p.up) ≡ Some (record { key = tk; id = 0; tid = 5; kept = 0 })
  under11 = opens_pairwise a s ap9 fields9 (Some 5) (body_of ToDs (Some 5) (address d a) (address d s) (address d a) tk 0 1 p.up) key 0 has11 refl
      (data_protected ToDs (Some 5) (address d a) (address d s) (address d a) tk 0 1 p.up made9).key_id got11

  mine11 : (not (is_mine_or_group d a fields9) || false) ≡ false
  mine11 = rw (same_octets d a) refl

  row11 : TakeRow (here d 0 a) ap9 octets9 (w.acts11 d k m p)
  row11 = data_row d a s ap9 ToDs (Some 5) (address d a) (address d s) (address d a) tk 0 1 p.up made9 5 0 pair.finds_sta mine11 under11 refl

  step11 : AtOne d 11 (Deliver 9 a) stage10.journal (push 11 a (w.acts11 d k m p) stage10.journal)
  step11 = take_step d 11 9 a octets9 stage10.journal ap9 (w.acts11 d k m p) stage10.ap_is stage10.was row11 refl

  stage11 : Stage d k m (w.rounds11 d k m p) sta10 ap11 9 octets9
  stage11 = after_ap d k m (w.rounds10 d k m p) sta10 ap9 9 octets9 stage10 (Deliver 9 a) (w.acts11 d k m p) 9 octets9 step11 stage10.count
      (record { entry = stage10.was.entry; there = inr (inr stage10.was.there); earlier = omega (arith, stage10.was.earlier); is = stage10.was.is; act = stage10.was.act })

  -- round 12: the access point sends one
  has12 : session s ap11 ≡ Some key
  has12 = rw (same-refl s) refl

  used12 : pairwise_uses s ap11 ≡ 0
  used12 = rw (same-refl s) refl

  step12 : AtOne d 12 (Send a (One s) None p.down) stage11.journal (push 12 a (w.acts12 d k m p) stage11.journal)
  step12 = send_step d 12 a (One s) None p.down stage11.journal ap11 (w.acts12 d k m p) stage11.ap_is (sends_first d a s ap11 key None p.down has12 used12 (alone_at_ap d k ap11 s key never)) refl

  stage12 : Stage d k m (w.rounds12 d k m p) sta10 ap12 10 octets10
  stage12 = after_ap d k m (w.rounds11 d k m p) sta10 ap11 9 octets9 stage11 (Send a (One s) None p.down) (w.acts12 d k m p) 10 octets10 step12 (ap suc stage11.count)
      (record { entry = _; there = inl refl; earlier = omega arith; is = ap suc stage11.count; act = (_, (_, (_, refl))) })

  -- round 13: the station hands it up
  made10 : IsMade FromDs None (address d s) (address d a) (address d a) tk 0 1 p.down
  made10 = record {
    tid_low = tt;
    l1 = pair.sta_whole;
    l2 = pair.ap_whole;
    l3 = pair.ap_whole;
    o1 = from.sta_octets;
    o2 = from.ap_octets;
    o3 = from.ap_octets;
    key = octets-tk i;
    id_low = omega arith;
    low = omega arith;
    octets = fit.down.are;
    short = fit.down.short;
  }

  abbrev fields10 : HeaderFields
  fields10 = sent_header (data_header_octets FromDs true None (address d s) (address d a) (address d a)) (address d s) (address d a) (address d a)

  has13 : session a sta10 ≡ Some key
  has13 = rw (same-refl a) refl

  got13 : pairwise_got a tk 0 sta10 ≡ 0
  got13 = rw (same-refl a, (bytes_eq-Decides tk tk).1 refl) refl

  under13 : opened_by s sta10 a fields10 None (body_of FromDs None (address d s) (address d a) (address d a) tk 0 1 p.down) ≡ Some (record { key = tk; id = 0; tid = 0; kept = 0 })
  under13 = opens_pairwise s a sta10 fields10 None (body_of FromDs None (address d s) (address d a) (address d a) tk 0 1 p.down) key 0 has13 from.alone
      (data_protected FromDs None (address d s) (address d a) (address d a) tk 0 1 p.down made10).key_id got13

  mine13 : (not (is_mine_or_group d s fields10) || false) ≡ false
  mine13 = rw (same_octets d s) refl

  row13 : TakeRow (here d 0 s) sta10 octets10 (w.acts13 d k m p)
  row13 = data_row d s a sta10 FromDs None (address d s) (address d a) (address d a) tk 0 1 p.down made10 0 0 pair.finds_ap mine13 under13 refl

  step13 : AtOne d 13 (Deliver 10 s) stage12.journal (push 13 s (w.acts13 d k m p) stage12.journal)
  step13 = take_step d 13 10 s octets10 stage12.journal sta10 (w.acts13 d k m p) stage12.sta_is stage12.was row13 refl

  stage13 : Stage d k m (w.rounds13 d k m p) sta13 ap12 10 octets10
  stage13 = after_sta d k m (w.rounds12 d k m p) sta10 ap12 10 octets10 stage12 (Deliver 10 s) (w.acts13 d k m p) 10 octets10 step13 stage12.count
      (record { entry = stage12.was.entry; there = inr (inr stage12.was.there); earlier = omega (arith, stage12.was.earlier); is = stage12.was.is; act = stage12.was.act })

  -- round 14: the access point sends one to all
  step14 : AtOne d 14 (Send a All None p.all) stage13.journal (push 14 a (w.acts14 d k m p) stage13.journal)
  step14 = send_step d 14 a All None p.all stage13.journal ap12 (w.acts14 d k m p) stage13.ap_is (sends_first_all d k ap12 g.key None p.all refl refl) refl

  stage14 : Stage d k m (w.rounds14 d k m p) sta13 ap14 11 octets11
  stage14 = after_ap d k m (w.rounds13 d k m p) sta13 ap12 10 octets10 stage13 (Send a All None p.all) (w.acts14 d k m p) 11 octets11 step14 (ap suc stage13.count)
      (record { entry = _; there = inl refl; earlier = omega arith; is = ap suc stage13.count; act = (_, (_, (_, refl))) })

  -- round 15: the station hands it up
  made11 : IsMade FromDs None broadcast (address d a) (address d a) g.key 1 1 p.all
  made11 = record {
    tid_low = tt;
    l1 = refl;
    l2 = pair.ap_whole;
    l3 = pair.ap_whole;
    o1 = from.all_octets;
    o2 = from.ap_octets;
    o3 = from.ap_octets;
    key = octets-gtk d a 0;
    id_low = omega arith;
    low = omega arith;
    octets = fit.all.are;
    short = fit.all.short;
  }

  abbrev fields11 : HeaderFields
  fields11 = sent_header (data_header_octets FromDs true None broadcast (address d a) (address d a)) broadcast (address d a) (address d a)

  abbrev body11 : List ℕ
  body11 = body_of FromDs None broadcast (address d a) (address d a) g.key 1 1 p.all

  has15 : session a sta13 ≡ Some key
  has15 = rw (same-refl a) refl

  memory15 : memory groups.Gtk a sta13 ≡ record { key = g.key; id = 1 } ∷ []
  memory15 = rw (same-refl a) refl

  -- the group key was told with an RSC of 0
  is_group_key : IsGroupKey g
  is_group_key = record { octets = octets-gtk d a 0; size = length-gtk d a 0; low = omega arith }

  reads5 : Reads d.akm (first.octets5 d k m) (Keyed (m3_message d a s (keyed_by i) 2 g 0))
  reads5 = reads-m3 d a s (keyed_by i) 2 g 0 pair.has_mic pair.ap_whole pair.sta_whole (omega arith) (length-nonce d a 1) (few-m3 d a (keyed_by i) (gtk_news g 0) pair.suite pair.unprotected refl (octets-kek i) is_group_key)

  rsc5 : rsc_in (first.octets5 d k m) ≡ 0
  rsc5 = reads-rsc d.akm (first.octets5 d k m) (m3_message d a s (keyed_by i) 2 g 0) reads5

  told6 : told a (Installed (One a) (Pairwise tk i) ∷ Took (Some a) (first.octets5 d k m) (kind.Key M3) Accepted (Some (first.seal5 d k m)) ∷ first.sta4 d k m) ≡ 0
  told6 = rw (same-refl a) rsc5

  abbrev before6 : List Act
  before6 = Installed (One a) (Pairwise tk i) ∷ Took (Some a) (first.octets5 d k m) (kind.Key M3) Accepted (Some (first.seal5 d k m)) ∷ first.sta4 d k m

  abbrev gift6 : Act
  gift6 = Installed (One a) (Group groups.Gtk g.key 1 (mac d a))

  got6 : got a g.key 1 (first.sta6 d k m) ≡ 0
  got6 = leaves a g.key 1 (sent_m4 d s a (keyed_by i) 2) (Finished a i ∷ gift6 ∷ before6) (λ x y. refl) ∙ leaves a g.key 1 (Finished a i) (gift6 ∷ before6) (λ x y. refl)
      ∙ got_begun a g.key 1 (mac d a) before6 ∙ told6

  abbrev took8 : Act
  took8 = Took (Some a) (first.octets7 d k m) (kind.Key M3) Answered (Some (first.seal7 d k m))

  got10 : got a g.key 1 sta10 ≡ 0
  got10 = leaves a g.key 1 (sent_data d s (One a) (Some 5) tk 0 1 p.up) (Used (One a) tk 0 1 p.up ∷ sta8) (λ x y. refl) ∙ leaves a g.key 1 (Used (One a) tk 0 1 p.up) sta8 (λ x y. refl)
      ∙ leaves a g.key 1 (sent_m4 d s a (keyed_by i) 3) (took8 ∷ first.sta6 d k m) (λ x y. refl) ∙ leaves a g.key 1 took8 (first.sta6 d k m) (λ x y. refl) ∙ got6

  abbrev took13 : Act
  took13 = Took (Some a) octets10 kind.Data Accepted (Some (data_seal tk (data_header_octets FromDs true None (address d s) (address d a) (address d a)) 1 p.down))

  got15 : got a g.key 1 sta13 ≡ 0
  got15 = got_other a g.key 1 a tk 0 0 1 p.down (took13 ∷ sta10) refl ∙ leaves a g.key 1 took13 sta10 (λ x y. refl) ∙ got10

  under15 : opened_by s sta13 a fields11 None body11 ≡ Some (record { key = g.key; id = 1; tid = 0; kept = 0 })
  under15 = opens_group s a sta13 fields11 None body11 key g.key 0 has15 refl (data_protected FromDs None broadcast (address d a) (address d a) g.key 1 1 p.all made11).key_id memory15 got15

  mine15 : (not (is_mine_or_group d s fields11) || false) ≡ false
  mine15 = ap (λ (b : Bool). not b || false) (or_true (is_mine d s fields11))

  row15 : TakeRow (here d 0 s) sta13 octets11 (w.acts15 d k m p)
  row15 = data_row d s a sta13 FromDs None broadcast (address d a) (address d a) g.key 1 1 p.all made11 0 0 pair.finds_ap mine15 under15 refl

  step15 : AtOne d 15 (Deliver 11 s) stage14.journal (push 15 s (w.acts15 d k m p) stage14.journal)
  step15 = take_step d 15 11 s octets11 stage14.journal sta13 (w.acts15 d k m p) stage14.sta_is stage14.was row15 refl

  stage15 : Stage d k m (w.rounds15 d k m p) sta15 ap14 11 octets11
  stage15 = after_sta d k m (w.rounds14 d k m p) sta13 ap14 11 octets11 stage14 (Deliver 11 s) (w.acts15 d k m p) 11 octets11 step15 stage14.count
      (record { entry = stage14.was.entry; there = inr (inr stage14.was.there); earlier = omega (arith, stage14.was.earlier); is = stage14.was.is; act = stage14.was.act })

  -- round 16: the frame comes once more, and is refused
  has16 : session a sta15 ≡ Some key
  has16 = rw (same-refl a) refl

  memory16 : memory groups.Gtk a sta15 ≡ record { key = g.key; id = 1 } ∷ []
  memory16 = rw (same-refl a) refl

  abbrev took15 : Act
  took15 = Took (Some a) octets11 kind.Data Accepted (Some (data_seal g.key (data_header_octets FromDs true None broadcast (address d a) (address d a)) 1 p.all))

  got16 : got a g.key 1 sta15 ≡ 1
  got16 = got_more a g.key 1 0 1 p.all (took15 ∷ sta13) ∙ ap (max 1) (leaves a g.key 1 took15 sta13 (λ x y. refl) ∙ got15)

  under16 : opened_by s sta15 a fields11 None body11 ≡ Some (record { key = g.key; id = 1; tid = 0; kept = 1 })
  under16 = opens_group s a sta15 fields11 None body11 key g.key 1 has16 refl (data_protected FromDs None broadcast (address d a) (address d a) g.key 1 1 p.all made11).key_id memory16 got16

  row16 : TakeRow (here d 0 s) sta15 octets11 (w.acts16 d k m p)
  row16 = replayed_row d m a sta15 FromDs None broadcast (address d a) (address d a) g.key 1 1 p.all made11 0 1 pair.finds_ap mine15 under16 refl

  step16 : AtOne d 16 (Deliver 11 s) stage15.journal (push 16 s (w.acts16 d k m p) stage15.journal)
  step16 = take_step d 16 11 s octets11 stage15.journal sta15 (w.acts16 d k m p) stage15.sta_is stage15.was row16 refl

  stage16 : Stage d k m (w.rounds16 d k m p) sta16 ap14 11 octets11
  stage16 = after_sta d k m (w.rounds15 d k m p) sta15 ap14 11 octets11 stage15 (Deliver 11 s) (w.acts16 d k m p) 11 octets11 step16 stage15.count
      (record { entry = stage15.was.entry; there = inr stage15.was.there; earlier = omega (arith, stage15.was.earlier); is = stage15.was.is; act = stage15.was.act })

  at_sta : (e : Act) → In e sta16 → In e (history s stage16.journal)
  at_sta e there = subst (λ (h : List Act). In e h) (sym stage16.sta_is) there

  at_ap : (e : Act) → In e ap14 → In e (history a stage16.journal)
  at_ap e there = subst (λ (h : List Act). In e h) (sym stage16.ap_is) there

  pub exchanged : HasExchange d k m p
  exchanged = record {
    journal = stage16.journal;
    explained = stage16.explained;
    i = i;
    of_first = refl;
    sent_up = at_sta _ (inr (inr (inr (inr (inr (inr (inl refl)))))));
    taken_up = at_ap _ (inr (inr (inr (inr (inl refl)))));
    sent_down = at_ap _ (inr (inr (inr (inl refl))));
    taken_down = at_sta _ (inr (inr (inr (inl refl))));
    sent_to_all = at_ap _ (inr (inl refl));
    taken_of_all = at_sta _ (inr (inl refl));
    octets = octets11;
    replayed = at_sta _ (inl refl);
  }

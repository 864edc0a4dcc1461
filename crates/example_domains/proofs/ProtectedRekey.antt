-- New group keys of an example that protects management frames, after any histories: the access point draws a GTK and an IGTK and gives both
-- to its one session, and with the answer both become current.
use Rattle.std.proofs.Common.{◌≡◌, ℕ, suc, ◌+◌, ◌<◌, ◌≤◌, ◌^◌, true, false, List, [], ◌∷◌, length, Option, Some, None, refl, sym, ap, subst, ◌∙◌}
use Rattle.std.proofs.lemmas.Bool.{eq-eqb}
use Rattle.std.specs.List.{list_any}
use Rattle.std.specs.Prelude.{◌==◌, ◌||◌, ◌++◌, is_some, nat_lt, cond, Bool}
use Rattle.domain_base.specs.Octets.{AreOctets}
use Rattle.domain_base.specs.declared.names.Akm.TheVariants.{PskSha256}
use Rattle.domain_base.specs.declared.names.Node.{Node}
use Rattle.domain_base.specs.declared.names.Peer.TheVariants.{All}
use Rattle.domain_rules.proofs.Exchange.{g1-in, g2-in}
use Rattle.domain_rules.proofs.KeyOctets.{octets-kek}
use Rattle.domain_rules.proofs.Refused.{no_facts}
use Rattle.domain_rules.proofs.SentReads.{HasMic, g2_message, g2_fields, reads-g2, fits-g2, mic-sealed, reads-counter}
use Rattle.domain_rules.proofs.Unprotected.{reads_so}
use Rattle.domain_rules.proofs.Verdicts.{verified-same}
use Rattle.domain_rules.specs.AccessPointRows.{g1_to, to_session, rekey_acts, RekeyRow, Renews}
use Rattle.domain_rules.specs.Asking.{kept_counter, offered, verified}
use Rattle.domain_rules.specs.Counters.{next_in_session}
use Rattle.domain_rules.specs.Facts.{Facts, ReadsKeyData}
use Rattle.domain_rules.specs.Frames.{in_data, g1_frame, g2_frame, sent_g1, sent_g2, frame_seal, keyed_by, wrapped}
use Rattle.domain_rules.specs.GroupKeys.{IgtkNews, News, news, newest, give_all, is_current}
use Rattle.domain_rules.specs.Here.{here}
use Rattle.domain_rules.specs.Network.{mac, gtk, draw_end}
use Rattle.domain_rules.specs.Owing.{owing, any_owes, current_acts, switch_acts}
use Rattle.domain_rules.specs.Reading.{KeyMessage, Keyed, Reads}
use Rattle.domain_rules.specs.Rows as event
use Rattle.domain_rules.specs.Rows.{Take, TakeRow, By_g1, By_g2}
use Rattle.domain_rules.specs.StationKeys.{KnowsM3}
use Rattle.domain_rules.specs.Verdict.{key_further, verdict}
use Rattle.eapol_key.specs.declared.messages.Message.TheVariants.{G1, G2}
use Rattle.key_hierarchy.specs.Keys.{ptk}
use Rattle.key_hierarchy.specs.declared.inputs.Inputs.{Inputs}
use Rattle.mac_prf.proofs.Parts.{length-mic}
use Rattle.run_journal.specs.Acts.{Derivation, GroupKey}
use Rattle.run_journal.specs.Questions.{session, chain, draws, handshake, add}
use Rattle.run_journal.specs.declared.acts.Act.TheVariants.{Drew, Took, Installed}
use Rattle.run_journal.specs.declared.acts.Act.{Act}
use Rattle.run_journal.specs.declared.acts.Drawn.TheVariants as draw
use Rattle.run_journal.specs.declared.acts.GroupKind.TheVariants as groups
use Rattle.run_journal.specs.declared.acts.Key.TheVariants.{Group}
use Rattle.run_journal.specs.declared.acts.Kind.TheVariants as kind
use Rattle.run_journal.specs.declared.acts.Outcome.TheVariants.{Accepted}
use Rattle.run_journal.specs.declared.acts.Seal.{Seal}
use Rattle.run_journal.specs.declared.domain.Domain.{Domain}
use Rattle.run_journal.specs.declared.domain.Event.TheVariants.{Rekey, Deliver}
use Rattle.run_journal.specs.declared.domain.Event.{Event}
use Rattle.example_domains.proofs.Judging.{keyed-is}
use Rattle.example_domains.proofs.ProtectedAssociation.{a, s}
use Rattle.example_domains.proofs.ProtectedData.{both, AreCarried, data1, said1, says1, wraps1, few1, g1_fields, g1_message, fits-g1, reads-g1}
use Rattle.example_domains.proofs.ProtectedStages.{Stage, by_sta, by_ap, quietly}
use Rattle.example_domains.proofs.Stages.{octets_sent}
use Rattle.example_domains.specs.Protection.{protecting}

-- the keys that an access point draws after a history, as acts and in the history after them
abbrev pub drawing : Domain → List Act → List Act
drawing d h = Drew (draw.Group groups.Gtk (gtk d a (0 + draws h))) ∷ Drew (draw.Group groups.Igtk (gtk d a (suc (0 + draws h)))) ∷ []

-- what the histories before it have, and the two acts with which the station takes the keys
pub record CanRekey (d : Domain) (sta0 ap0 : List Act) (i : Inputs) (counter kept : ℕ) (g : GroupKey) (k : IgtkNews) (one two : Act) : Type 0 where
  pub low : suc (0 + draws ap0) < draw_end
  pub current : is_current groups.Gtk ap0 ≡ true
  pub newer : is_current groups.Gtk (add (drawing d ap0) ap0) ≡ false
  pub ap_has : session s ap0 ≡ Some (keyed_by i)
  pub counts : next_in_session s ap0 ≡ counter
  pub counter_low : counter < 2 ^ 64
  pub carries : news d (add (drawing d ap0) ap0) ≡ both g 0 k
  pub gtk_is : newest groups.Gtk (add (drawing d ap0) ap0) ≡ g
  pub igtk_is : newest groups.Igtk (add (drawing d ap0) ap0) ≡ k.igtk
  pub sta_has : session a sta0 ≡ Some (keyed_by i)
  pub keeps : kept_counter a (chain a sta0) ≡ Some kept
  pub above : nat_lt kept counter ≡ true
  pub gives : give_all d a (mac d a) (record { gtk = g; igtk = k.igtk }) sta0 ≡ one ∷ two ∷ []
  pub are : AreCarried g k
  pub one_quiet : octets_sent one ≡ None
  pub two_quiet : octets_sent two ≡ None

module _ (seed ssid psk : List ℕ) (sta0 ap0 : List Act) (i : Inputs) (counter kept : ℕ) (g : GroupKey) (k : IgtkNews) (one two : Act) (w : CanRekey (protecting seed ssid psk) sta0 ap0 i counter kept g k one two) where
  abbrev d : Domain
  d = protecting seed ssid psk

  abbrev key : Derivation
  key = keyed_by i

  abbrev pub octets1 : List ℕ
  octets1 = in_data d a s (g1_frame d key counter (both g 0 k))

  abbrev pub octets2 : List ℕ
  octets2 = in_data d s a (g2_frame d key counter)

  abbrev seal1 : Seal
  seal1 = frame_seal (ptk i).kck (g1_frame d key counter (both g 0 k))

  abbrev seal2 : Seal
  seal2 = frame_seal (ptk i).kck (g2_frame d key counter)

  abbrev acts1 : List Act
  acts1 = Drew (draw.Group groups.Gtk (gtk d a (0 + draws ap0))) ∷ Drew (draw.Group groups.Igtk (gtk d a (suc (0 + draws ap0)))) ∷ sent_g1 d a s key counter (both g 0 k) ∷ []

  abbrev acts2 : List Act
  acts2 = Took (Some a) octets1 (kind.Key G1) Accepted (Some seal1) ∷ one ∷ two ∷ sent_g2 d s a key counter ∷ []

  abbrev taken3 : List Act
  taken3 = Took (Some s) octets2 (kind.Key G2) Accepted (Some seal2) ∷ []

  abbrev acts3 : List Act
  acts3 = Took (Some s) octets2 (kind.Key G2) Accepted (Some seal2) ∷ Installed All (Group groups.Gtk g.key g.id (mac d a)) ∷ Installed All (Group groups.Igtk k.igtk.key k.igtk.id (mac d a)) ∷ []

  abbrev drew : List Act
  drew = add (drawing d ap0) ap0

  abbrev ap1 : List Act
  ap1 = add acts1 ap0

  abbrev pub sta2 : List Act
  sta2 = add acts2 sta0

  abbrev pub ap3 : List Act
  ap3 = add acts3 ap1

  has_mic : HasMic PskSha256
  has_mic = length-mic PskSha256

  octets-key : AreOctets (ptk i).kek
  octets-key = octets-kek i

  abbrev g1 : KeyMessage
  g1 = g1_message d a s key counter (both g 0 k)

  few1_is : length (wrapped (ptk i).kek (data1 g k w.are)) ≤ 65440
  few1_is = few1 g k w.are (ptk i).kek octets-key

  reads1 : Reads PskSha256 octets1 (Keyed g1)
  reads1 = reads-g1 d a s key counter (both g 0 k) has_mic refl refl w.counter_low few1_is

  abbrev g2 : KeyMessage
  g2 = g2_message d s a key counter

  reads2 : Reads PskSha256 octets2 (Keyed g2)
  reads2 = reads-g2 d s a key counter has_mic refl refl w.counter_low

  -- ---- both keys are drawn, and given to the session
  gives1 : g1_to d a s drew key ≡ sent_g1 d a s key counter (both g 0 k)
  gives1 = ap (λ (n : ℕ). sent_g1 d a s key n (news d drew)) w.counts ∙ ap (λ (x : News). sent_g1 d a s key counter x) w.carries

  drawn1 : acts1 ≡ rekey_acts (here d 0 a) ap0
  drawn1 =
      ap (λ (e : Act). drawing d ap0 ++ e ∷ []) (sym gives1)
      ∙ ap (λ (o : Option Derivation). drawing d ap0 ++ to_session d a s drew o) (sym w.ap_has)

  row1 : RekeyRow (here d 0 a) ap0 acts1
  row1 = Renews refl w.current w.low drawn1

  owes1 : owing groups.Gtk s ap1 ≡ Some key
  owes1 = w.ap_has

  still1 : switch_acts d 0 ap1 ≡ []
  still1 =
      ap (λ (b : Bool). cond (b || any_owes groups.Gtk 1 ap1) [] (current_acts d a ap1)) w.newer
      ∙ ap (λ (o : Option Derivation). cond (is_some o || false) [] (current_acts d a ap1)) owes1

  module _ (rounds0 : List (List Event)) (frames0 : List (List ℕ)) (st : Stage d rounds0 sta0 ap0 frames0) where
    abbrev rounds1 : List (List Event)
    rounds1 = (Rekey 0 ∷ []) ∷ rounds0

    stage1 : Stage d rounds1 sta0 ap1 (octets1 ∷ frames0)
    stage1 = by_ap d rounds0 sta0 ap0 frames0 st (Rekey 0) event.Rekey acts1 acts1 (refl, refl) row1 (ap (λ (l : List Act). acts1 ++ l) (sym still1))

    -- ---- the station takes both and answers
    verifies2 : verified PskSha256 (ptk i).kck g1 Accepted ≡ Accepted
    verifies2 = verified-same PskSha256 (ptk i).kck g1 Accepted
        (mic-sealed PskSha256 (ptk i).kck (g1_fields d a s key counter (both g 0 k)) has_mic (fits-g1 d a s key counter (both g 0 k) w.counter_low few1_is))

    abbrev facts2 : Facts
    facts2 = record { requested = None; responded = None; unwrapped = Some (data1 g k w.are); data_ = Some (said1 g k w.are); pulled = None; opened = None; unwrapped_igtk = None; kept = 0 }

    further2 : key_further d s sta0 a g1 G1 facts2 ≡ Accepted
    further2 = rw (w.are.gtk.size, w.are.other, w.are.size, w.are.one_of) refl

    accepted2 : verdict d 0 s sta0 (Keyed g1) facts2 ≡ Accepted
    accepted2 = keyed-is d s a sta0 g1 facts2 Accepted refl refl (g1-in d sta0 a g1 key kept w.sta_has w.keeps w.above ∙ verifies2) further2 refl

    knows2 : KnowsM3 (ptk i).kek g1 facts2
    knows2 = record {
      unwrapped = (octets-key, wraps1 g k w.are (ptk i).kek);
      data_ = λ plain e. (let same : data1 g k w.are ≡ plain = cc e in subst (λ (x : List ℕ). ReadsKeyData x facts2.data_) same (says1 g k w.are));
    }

    says2 : acts2 ≡ Took (Some a) octets1 (kind.Key G1) Accepted (Some seal1) ∷ (give_all d a (mac d a) (record { gtk = g; igtk = k.igtk }) sta0 ++ sent_g2 d s a key counter ∷ [])
    says2 = ap (λ (l : List Act). Took (Some a) octets1 (kind.Key G1) Accepted (Some seal1) ∷ (l ++ sent_g2 d s a key counter ∷ [])) (sym w.gives)

    row2 : TakeRow (here d 0 s) sta0 octets1 acts2
    row2 = record {
      r = Keyed g1;
      reads = reads_so d octets1 (Keyed g1) refl reads1;
      facts = facts2;
      knows = λ came p from.
          (let same : a ≡ p = cc from in (
            λ x awaited.
                (let one_key : key ≡ x = cc (w.sta_has, subst (λ (q : Node). session q sta0 ≡ Some x) (sym same) awaited) in
                subst (λ (y : Derivation). KnowsM3 y.ptk.kek g1 facts2) one_key knows2),
            tt,
          ));
      row = By_g1 (record { k = g1; is = refl; message_is = refl; p = a; from = refl; accepted = accepted2; x = key; awaited = w.sta_has; says = says2 });
    }

    abbrev rounds2 : List (List Event)
    rounds2 = (Deliver (suc (length frames0)) s ∷ []) ∷ rounds1

    stage2 : Stage d rounds2 sta2 ap1 (octets2 ∷ octets1 ∷ frames0)
    stage2 = quietly d rounds2 sta2 ap1 (octets1 ∷ frames0) one two octets2 w.one_quiet w.two_quiet (by_sta d rounds1 sta0 ap1 (octets1 ∷ frames0) stage1 (Deliver (suc (length frames0)) s) (Take octets1) acts2 (octets1, (stage1.were.0, (refl, refl))) row2)

    -- ---- the access point takes the answer, and both keys become current
    offers3 : offered s G1 (handshake groups.Gtk s ap1) ≡ counter ∷ []
    offers3 = ap (λ (c : ℕ). c ∷ []) (reads-counter PskSha256 octets1 g1 reads1)

    verifies3 : verified PskSha256 (ptk i).kck g2 Accepted ≡ Accepted
    verifies3 = verified-same PskSha256 (ptk i).kck g2 Accepted (mic-sealed PskSha256 (ptk i).kck (g2_fields d counter) has_mic (fits-g2 d counter w.counter_low))

    same3 : list_any (λ c. c == counter) (counter ∷ []) ≡ true
    same3 = rw (eq-eqb counter counter refl) refl

    accepted3 : verdict d 0 a ap1 (Keyed g2) no_facts ≡ Accepted
    accepted3 = keyed-is d a s ap1 g2 no_facts Accepted refl refl (g2-in d ap1 s g2 key (counter ∷ []) owes1 offers3 same3 ∙ verifies3) refl refl

    row3 : TakeRow (here d 0 a) ap1 octets2 taken3
    row3 = record {
      r = Keyed g2;
      reads = reads_so d octets2 (Keyed g2) refl reads2;
      facts = no_facts;
      knows = λ came p from. (tt, tt);
      row = By_g2 (record { k = g2; is = refl; message_is = refl; p = s; from = refl; accepted = accepted3; x = key; awaited = owes1; says = refl });
    }

    switches3 : switch_acts d 0 (add taken3 ap1) ≡ Installed All (Group groups.Gtk g.key g.id (mac d a)) ∷ Installed All (Group groups.Igtk k.igtk.key k.igtk.id (mac d a)) ∷ []
    switches3 =
        ap (λ (b : Bool). cond (b || false) [] (current_acts d a (add taken3 ap1))) w.newer
        ∙ ap (λ (x : GroupKey). Installed All (Group groups.Gtk x.key x.id (mac d a)) ∷ Installed All (Group groups.Igtk (newest groups.Igtk drew).key (newest groups.Igtk drew).id (mac d a)) ∷ []) w.gtk_is
        ∙ ap (λ (x : GroupKey). Installed All (Group groups.Gtk g.key g.id (mac d a)) ∷ Installed All (Group groups.Igtk x.key x.id (mac d a)) ∷ []) w.igtk_is

    pub stage3 : Stage d ((Deliver (suc (suc (length frames0))) a ∷ []) ∷ rounds2) sta2 ap3 (octets2 ∷ octets1 ∷ frames0)
    stage3 = by_ap d rounds2 sta2 ap1 (octets2 ∷ octets1 ∷ frames0) stage2 (Deliver (suc (suc (length frames0))) a) (Take octets2) taken3 acts3 (octets2, (stage2.were.0, (refl, refl))) row3 (ap (λ (l : List Act). taken3 ++ l) (sym switches3))

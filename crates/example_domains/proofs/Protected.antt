-- The example that protects management frames, in all its rounds.
use Rattle.std.proofs.Common.{◌≡◌, ◌≢◌, ℕ, ◌<◌, List, [], ◌∷◌, length, Some, refl, ap, arith, inl, inr}
use Rattle.domain_base.specs.declared.names.Peer.TheVariants.{One}
use Rattle.domain_rules.proofs.CarriedKey.{IsGroupKey}
use Rattle.domain_rules.proofs.Example.{small-in_form}
use Rattle.domain_rules.proofs.Exchange.{length-nonce, length-gtk, octets-gtk}
use Rattle.domain_rules.proofs.Peers.{not_same}
use Rattle.domain_rules.proofs.SentReads.{reads-counter}
use Rattle.domain_rules.specs.AccessPointRows.{start_acts}
use Rattle.domain_rules.specs.Asking.{kept_counter}
use Rattle.domain_rules.specs.Frames.{sent_assoc_req}
use Rattle.domain_rules.specs.GroupKeys.{IgtkNews, give_all}
use Rattle.domain_rules.specs.IntegrityKeys.{IsIpnGot}
use Rattle.domain_rules.specs.Network.{InForm, mac, nonce, gtk}
use Rattle.domain_rules.specs.Rows.{Begin}
use Rattle.domain_rules.specs.StationRows.{Asks}
use Rattle.domain_base.specs.declared.names.Akm.TheVariants.{PskSha256}
use Rattle.key_hierarchy.specs.Sizes.{IsSsid}
use Rattle.key_hierarchy.specs.declared.inputs.Inputs.{Inputs}
use Rattle.run_journal.specs.Acts.{Derivation, GroupKey}
use Rattle.run_journal.specs.Premises.{In}
use Rattle.run_journal.specs.Questions.{history, chain, add}
use Rattle.run_journal.specs.declared.acts.Act.TheVariants.{Opened, Closed, Drew, Installed, Resumed}
use Rattle.run_journal.specs.declared.acts.Act.{Act}
use Rattle.run_journal.specs.declared.acts.Drawn.TheVariants.{Nonce}
use Rattle.run_journal.specs.declared.acts.GroupKind.TheVariants as groups
use Rattle.run_journal.specs.declared.acts.Key.TheVariants.{Group}
use Rattle.run_journal.specs.declared.acts.Part.TheVariants.{Session}
use Rattle.run_journal.specs.declared.acts.Start.TheVariants as start
use Rattle.run_journal.specs.declared.domain.Domain.{Domain}
use Rattle.run_journal.specs.declared.domain.Event.TheVariants.{Connect, Announce, Deliver}
use Rattle.run_journal.specs.declared.domain.Event.{Event}
use Rattle.example_domains.proofs.Elements.{same_bytes}
use Rattle.example_domains.proofs.ProtectedAnnouncement as told
use Rattle.example_domains.proofs.ProtectedAssociation as joined
use Rattle.example_domains.proofs.ProtectedAssociation.{a, s, got_more, Begins}
use Rattle.example_domains.proofs.ProtectedData.{AreCarried}
use Rattle.example_domains.proofs.ProtectedRekey as renewed
use Rattle.example_domains.proofs.ProtectedRekey.{CanRekey}
use Rattle.example_domains.proofs.ProtectedStages.{Stage, by_sta, at_sta, at_ap, begun}
use Rattle.example_domains.specs.Protection.{protecting, protected_rounds, HasProtection}

module _ (seed ssid psk first second third : List ℕ) where
  abbrev d : Domain
  d = protecting seed ssid psk

  -- the first GTK and IGTK, and what messages carry of the latter
  abbrev g : GroupKey
  g = record { key = gtk d a 0; id = 1 }

  abbrev j : GroupKey
  j = record { key = gtk d a 1; id = 4 }

  abbrev k0 : IgtkNews
  k0 = record { igtk = j; ipn = 0 }

  abbrev k1 : IgtkNews
  k1 = record { igtk = j; ipn = 2 }

  is_gtk : (n id : ℕ) → id < 4 → IsGroupKey (record { key = gtk d a n; id = id })
  is_gtk n id low = record { octets = octets-gtk d a n; size = length-gtk d a n; low = low }

  are0 : AreCarried g k0
  are0 = record { gtk = is_gtk 0 1 (omega arith); other = refl; octets = octets-gtk d a 1; size = length-gtk d a 1; low = omega arith; one_of = refl; id_octets = refl; number_octets = refl }

  are1 : AreCarried g k1
  are1 = record { gtk = is_gtk 0 1 (omega arith); other = refl; octets = octets-gtk d a 1; size = length-gtk d a 1; low = omega arith; one_of = refl; id_octets = refl; number_octets = refl }

  -- ---- rounds 1 to 7: the association
  abbrev ap0 : List Act
  ap0 = add (start_acts d 0 a) []

  abbrev one0 : Act
  one0 = Installed (One a) (Group groups.Gtk g.key g.id (mac d a))

  abbrev two0 : Act
  two0 = Installed (One a) (Group groups.Igtk j.key j.id (mac d a))

  first_begins : Begins d [] ap0 g 0 k0 one0 two0
  first_begins = record { ap_low = omega arith; none = refl; current = refl; carries = refl; gives = refl; are = are0; one_quiet = refl; two_quiet = refl }

  abbrev snonce0 : List ℕ
  snonce0 = nonce d s 0

  size0 : length snonce0 ≡ 32
  size0 = length-nonce d s 0

  abbrev octets1 : List ℕ
  octets1 = joined.octets1 seed ssid psk snonce0 size0 [] ap0 g 0 k0 one0 two0 first_begins

  abbrev sta1 : List Act
  sta1 = joined.sta1 seed ssid psk snonce0 size0 [] ap0 g 0 k0 one0 two0 first_begins

  abbrev acts1 : List Act
  acts1 = Opened a start.Connect ∷ Drew (Nonce snonce0) ∷ sent_assoc_req d s a ∷ []

  stage1 : Stage d ((Connect 0 0 ∷ []) ∷ []) sta1 ap0 (octets1 ∷ [])
  stage1 = by_sta d [] [] ap0 [] (begun d (omega arith)) (Connect 0 0) (Begin 0) acts1 (refl, refl) (Asks (omega arith) refl)

  abbrev sta6 : List Act
  sta6 = joined.sta6 seed ssid psk snonce0 size0 [] ap0 g 0 k0 one0 two0 first_begins

  abbrev ap7 : List Act
  ap7 = joined.ap7 seed ssid psk snonce0 size0 [] ap0 g 0 k0 one0 two0 first_begins

  abbrev frames6 : List (List ℕ)
  frames6 = joined.frames6 seed ssid psk snonce0 size0 [] ap0 g 0 k0 one0 two0 first_begins ((Connect 0 0 ∷ []) ∷ []) [] stage1

  abbrev rounds7 : List (List Event)
  rounds7 = joined.rounds7 seed ssid psk snonce0 size0 [] ap0 g 0 k0 one0 two0 first_begins ((Connect 0 0 ∷ []) ∷ []) [] stage1

  stage7 : Stage d rounds7 sta6 ap7 frames6
  stage7 = joined.stage7 seed ssid psk snonce0 size0 [] ap0 g 0 k0 one0 two0 first_begins ((Connect 0 0 ∷ []) ∷ []) [] stage1

  abbrev key0 : Derivation
  key0 = joined.key seed ssid psk snonce0 size0 [] ap0 g 0 k0 one0 two0 first_begins

  -- the IGTK begins at the IPN that M3 tells
  got6 : IsIpnGot a j.key 4 sta6 0
  got6 = joined.got6 seed ssid psk snonce0 size0 [] ap0 g 0 k0 one0 two0 first_begins j.key 4 0 0 refl (λ x. refl) (λ t. t) (rw (same_bytes j.key) refl)

  -- ---- rounds 8 and 9: the first announcement
  abbrev octets7 : List ℕ
  octets7 = told.octets seed ssid psk j 1 first (omega arith) (omega arith)

  abbrev ap8 : List Act
  ap8 = add (told.sent_acts seed ssid psk j 1 first (omega arith) (omega arith) ap7 0 refl refl refl) ap7

  abbrev rounds8 : List (List Event)
  rounds8 = (Announce 0 first ∷ []) ∷ rounds7

  stage8 : Stage d rounds8 sta6 ap8 (octets7 ∷ frames6)
  stage8 = told.sends seed ssid psk j 1 first (omega arith) (omega arith) ap7 0 refl refl refl rounds7 sta6 frames6 refl stage7

  abbrev sta9 : List Act
  sta9 = add (told.taken_acts seed ssid psk j 1 first (omega arith) (omega arith) sta6 key0 refl refl 0 got6 (omega arith)) sta6

  abbrev rounds9 : List (List Event)
  rounds9 = (Deliver 7 s ∷ []) ∷ rounds8

  stage9 : Stage d rounds9 sta9 ap8 (octets7 ∷ frames6)
  stage9 = told.takes seed ssid psk j 1 first (omega arith) (omega arith) sta6 key0 refl refl 0 got6 (omega arith) rounds8 ap8 (octets7 ∷ frames6) 7 stage8 stage8.were.0

  got9 : IsIpnGot a j.key 4 sta9 1
  got9 = told.got_up seed ssid psk j 1 first (omega arith) (omega arith) sta6 key0 refl refl 0 got6 (omega arith) refl

  -- ---- round 10: the second announcement, which does not come yet
  abbrev octets8 : List ℕ
  octets8 = told.octets seed ssid psk j 2 second (omega arith) (omega arith)

  abbrev ap10 : List Act
  ap10 = add (told.sent_acts seed ssid psk j 2 second (omega arith) (omega arith) ap8 1 refl refl refl) ap8

  abbrev rounds10 : List (List Event)
  rounds10 = (Announce 0 second ∷ []) ∷ rounds9

  stage10 : Stage d rounds10 sta9 ap10 (octets8 ∷ octets7 ∷ frames6)
  stage10 = told.sends seed ssid psk j 2 second (omega arith) (omega arith) ap8 1 refl refl refl rounds9 sta9 (octets7 ∷ frames6) refl stage9

  -- ---- rounds 11 to 17: the association comes anew, and both keys are resumed
  abbrev left9 : List Act
  left9 = Closed a Session ∷ sta9

  got_left : IsIpnGot a j.key 4 left9 1
  got_left = got_more j.key 4 1 (Closed a Session ∷ []) sta9 (λ x. refl, tt) got9

  abbrev one1 : Act
  one1 = Resumed a (Group groups.Gtk g.key g.id (mac d a))

  abbrev two1 : Act
  two1 = Resumed a (Group groups.Igtk j.key j.id (mac d a))

  gives1 : give_all d a (mac d a) (record { gtk = g; igtk = j }) left9 ≡ one1 ∷ two1 ∷ []
  gives1 = rw (same_bytes g.key, same_bytes j.key) refl

  second_begins : Begins d left9 ap10 g 0 k1 one1 two1
  second_begins = record { ap_low = omega arith; none = refl; current = refl; carries = refl; gives = gives1; are = are1; one_quiet = refl; two_quiet = refl }

  abbrev snonce1 : List ℕ
  snonce1 = nonce d s 1

  size1 : length snonce1 ≡ 32
  size1 = length-nonce d s 1

  abbrev octets9 : List ℕ
  octets9 = joined.octets1 seed ssid psk snonce1 size1 left9 ap10 g 0 k1 one1 two1 second_begins

  abbrev sta11 : List Act
  sta11 = joined.sta1 seed ssid psk snonce1 size1 left9 ap10 g 0 k1 one1 two1 second_begins

  abbrev acts11 : List Act
  acts11 = Closed a Session ∷ Opened a start.Connect ∷ Drew (Nonce snonce1) ∷ sent_assoc_req d s a ∷ []

  abbrev rounds11 : List (List Event)
  rounds11 = (Connect 0 0 ∷ []) ∷ rounds10

  stage11 : Stage d rounds11 sta11 ap10 (octets9 ∷ octets8 ∷ octets7 ∷ frames6)
  stage11 = by_sta d rounds10 sta9 ap10 (octets8 ∷ octets7 ∷ frames6) stage10 (Connect 0 0) (Begin 0) acts11 (refl, refl) (Asks (omega arith) refl)

  abbrev sta16 : List Act
  sta16 = joined.sta6 seed ssid psk snonce1 size1 left9 ap10 g 0 k1 one1 two1 second_begins

  abbrev ap17 : List Act
  ap17 = joined.ap7 seed ssid psk snonce1 size1 left9 ap10 g 0 k1 one1 two1 second_begins

  abbrev frames14 : List (List ℕ)
  frames14 = joined.frames6 seed ssid psk snonce1 size1 left9 ap10 g 0 k1 one1 two1 second_begins rounds11 (octets8 ∷ octets7 ∷ frames6) stage11

  abbrev rounds17 : List (List Event)
  rounds17 = joined.rounds7 seed ssid psk snonce1 size1 left9 ap10 g 0 k1 one1 two1 second_begins rounds11 (octets8 ∷ octets7 ∷ frames6) stage11

  stage17 : Stage d rounds17 sta16 ap17 frames14
  stage17 = joined.stage7 seed ssid psk snonce1 size1 left9 ap10 g 0 k1 one1 two1 second_begins rounds11 (octets8 ∷ octets7 ∷ frames6) stage11

  abbrev i1 : Inputs
  i1 = joined.i seed ssid psk snonce1 size1 left9 ap10 g 0 k1 one1 two1 second_begins

  abbrev key1 : Derivation
  key1 = joined.key seed ssid psk snonce1 size1 left9 ap10 g 0 k1 one1 two1 second_begins

  -- the IPN that M3 tells is above the number kept
  got16 : IsIpnGot a j.key 4 sta16 2
  got16 = joined.got6 seed ssid psk snonce1 size1 left9 ap10 g 0 k1 one1 two1 second_begins j.key 4 1 2 got_left (λ x. refl) (λ t. t) (rw (same_bytes j.key) refl)

  -- ---- rounds 18 and 19: the first announcement comes once more, and the second one comes
  abbrev sta18 : List Act
  sta18 = add (told.refused_acts seed ssid psk j 1 first (omega arith) (omega arith) sta16 key1 refl refl 2 got16 (omega arith)) sta16

  abbrev rounds18 : List (List Event)
  rounds18 = (Deliver 7 s ∷ []) ∷ rounds17

  stage18 : Stage d rounds18 sta18 ap17 frames14
  stage18 = told.refuses seed ssid psk j 1 first (omega arith) (omega arith) sta16 key1 refl refl 2 got16 (omega arith) rounds17 ap17 frames14 7 stage17 stage17.were.1.1.1.1.1.1.1.0

  got18 : IsIpnGot a j.key 4 sta18 2
  got18 = told.got_still seed ssid psk j 1 first (omega arith) (omega arith) sta16 key1 refl refl 2 got16 (omega arith)

  abbrev sta19 : List Act
  sta19 = add (told.refused_acts seed ssid psk j 2 second (omega arith) (omega arith) sta18 key1 refl refl 2 got18 (omega arith)) sta18

  abbrev rounds19 : List (List Event)
  rounds19 = (Deliver 8 s ∷ []) ∷ rounds18

  stage19 : Stage d rounds19 sta19 ap17 frames14
  stage19 = told.refuses seed ssid psk j 2 second (omega arith) (omega arith) sta18 key1 refl refl 2 got18 (omega arith) rounds18 ap17 frames14 8 stage18 stage18.were.1.1.1.1.1.1.0

  got19 : IsIpnGot a j.key 4 sta19 2
  got19 = told.got_still seed ssid psk j 2 second (omega arith) (omega arith) sta18 key1 refl refl 2 got18 (omega arith)

  -- ---- rounds 20 and 21: the third announcement
  abbrev octets15 : List ℕ
  octets15 = told.octets seed ssid psk j 3 third (omega arith) (omega arith)

  abbrev ap20 : List Act
  ap20 = add (told.sent_acts seed ssid psk j 3 third (omega arith) (omega arith) ap17 2 refl refl refl) ap17

  abbrev rounds20 : List (List Event)
  rounds20 = (Announce 0 third ∷ []) ∷ rounds19

  stage20 : Stage d rounds20 sta19 ap20 (octets15 ∷ frames14)
  stage20 = told.sends seed ssid psk j 3 third (omega arith) (omega arith) ap17 2 refl refl refl rounds19 sta19 frames14 refl stage19

  abbrev sta21 : List Act
  sta21 = add (told.taken_acts seed ssid psk j 3 third (omega arith) (omega arith) sta19 key1 refl refl 2 got19 (omega arith)) sta19

  abbrev rounds21 : List (List Event)
  rounds21 = (Deliver 15 s ∷ []) ∷ rounds20

  stage21 : Stage d rounds21 sta21 ap20 (octets15 ∷ frames14)
  stage21 = told.takes seed ssid psk j 3 third (omega arith) (omega arith) sta19 key1 refl refl 2 got19 (omega arith) rounds20 ap20 (octets15 ∷ frames14) 15 stage20 stage20.were.0

  -- ---- rounds 22 to 24: new group keys
  module _ (gtks : gtk d a 4 ≢ gtk d a 0) (igtks : gtk d a 5 ≢ gtk d a 1) where
    abbrev new : GroupKey
    new = record { key = gtk d a 4; id = 2 }

    abbrev newest : GroupKey
    newest = record { key = gtk d a 5; id = 5 }

    abbrev k2 : IgtkNews
    k2 = record { igtk = newest; ipn = 0 }

    are2 : AreCarried new k2
    are2 = record { gtk = is_gtk 4 2 (omega arith); other = refl; octets = octets-gtk d a 5; size = length-gtk d a 5; low = omega arith; one_of = refl; id_octets = refl; number_octets = refl }

    abbrev one2 : Act
    one2 = Installed (One a) (Group groups.Gtk new.key new.id (mac d a))

    abbrev two2 : Act
    two2 = Installed (One a) (Group groups.Igtk newest.key newest.id (mac d a))

    -- they are none that the station has
    gives2 : give_all d a (mac d a) (record { gtk = new; igtk = newest }) sta21 ≡ one2 ∷ two2 ∷ []
    gives2 = rw (not_same (gtk d a 4) (gtk d a 0) gtks, not_same (gtk d a 5) (gtk d a 1) igtks) refl

    keeps2 : kept_counter a (chain a sta21) ≡ Some 2
    keeps2 = ap (λ (c : ℕ). Some c) (reads-counter PskSha256 (joined.octets5 seed ssid psk snonce1 size1 left9 ap10 g 0 k1 one1 two1 second_begins) (joined.m3 seed ssid psk snonce1 size1 left9 ap10 g 0 k1 one1 two1 second_begins) (joined.reads5 seed ssid psk snonce1 size1 left9 ap10 g 0 k1 one1 two1 second_begins))

    can : CanRekey d sta21 ap20 i1 3 2 new k2 one2 two2
    can = record {
      low = omega arith;
      current = refl;
      newer = refl;
      ap_has = refl;
      counts = refl;
      counter_low = omega arith;
      carries = refl;
      gtk_is = refl;
      igtk_is = refl;
      sta_has = refl;
      keeps = keeps2;
      above = refl;
      gives = gives2;
      are = are2;
      one_quiet = refl;
      two_quiet = refl;
    }

    abbrev sta23 : List Act
    sta23 = renewed.sta2 seed ssid psk sta21 ap20 i1 3 2 new k2 one2 two2 can

    abbrev ap24 : List Act
    ap24 = renewed.ap3 seed ssid psk sta21 ap20 i1 3 2 new k2 one2 two2 can

    abbrev frames17 : List (List ℕ)
    frames17 = renewed.octets2 seed ssid psk sta21 ap20 i1 3 2 new k2 one2 two2 can ∷ renewed.octets1 seed ssid psk sta21 ap20 i1 3 2 new k2 one2 two2 can ∷ octets15 ∷ frames14

    stage24 : Stage d (protected_rounds first second third) sta23 ap24 frames17
    stage24 = renewed.stage3 seed ssid psk sta21 ap20 i1 3 2 new k2 one2 two2 can rounds21 (octets15 ∷ frames14) stage21

    in_sta : (e : Act) → In e sta23 → In e (history s stage24.journal)
    in_sta = at_sta d (protected_rounds first second third) sta23 ap24 frames17 stage24

    in_ap : (e : Act) → In e ap24 → In e (history a stage24.journal)
    in_ap = at_ap d (protected_rounds first second third) sta23 ap24 frames17 stage24

    pub protected : HasProtection d first second third
    protected = record {
      journal = stage24.journal;
      explained = stage24.explained;
      igtk = j.key;
      is_first = refl;
      drawn = in_ap _ (inr (inr (inr (inr (inr (inr (inr (inr (inr (inr (inr (inr (inr (inr (inr (inr (inr (inr (inr (inr (inr (inr (inr (inr (inr (inr (inr (inr (inr (inr (inr (inr (inr (inr (inr (inr (inr (inl refl))))))))))))))))))))))))))))))))))))));
      current = in_ap _ (inr (inr (inr (inr (inr (inr (inr (inr (inr (inr (inr (inr (inr (inr (inr (inr (inr (inr (inr (inr (inr (inr (inr (inr (inr (inr (inr (inr (inr (inr (inr (inr (inr (inr (inr (inl refl))))))))))))))))))))))))))))))))))));
      given = in_sta _ (inr (inr (inr (inr (inr (inr (inr (inr (inr (inr (inr (inr (inr (inr (inr (inr (inr (inr (inr (inr (inr (inr (inr (inr (inr (inr (inl refl)))))))))))))))))))))))))));
      sent = in_ap _ (inr (inr (inr (inr (inr (inr (inr (inr (inr (inr (inr (inr (inr (inr (inr (inr (inr (inr (inr (inr (inr (inr (inr (inl refl))))))))))))))))))))))));
      taken = in_sta _ (inr (inr (inr (inr (inr (inr (inr (inr (inr (inr (inr (inr (inr (inr (inr (inr (inr (inr (inr (inr (inr (inr (inl refl)))))))))))))))))))))));
      resumed = in_sta _ (inr (inr (inr (inr (inr (inr (inr (inr (inr (inr (inl refl)))))))))));
      octets = octets7;
      replayed = in_sta _ (inr (inr (inr (inr (inr (inr (inr (inl refl))))))));
      sent_late = in_ap _ (inr (inr (inr (inr (inr (inr (inr (inr (inr (inr (inr (inr (inr (inr (inr (inr (inr (inr (inr (inr (inr (inl refl))))))))))))))))))))));
      late_octets = octets8;
      refused_late = in_sta _ (inr (inr (inr (inr (inr (inr (inl refl)))))));
      sent_next = in_ap _ (inr (inr (inr (inr (inr (inr (inr (inl refl))))))));
      taken_next = in_sta _ (inr (inr (inr (inr (inl refl)))));
      new_gtk = new.key;
      is_gtk = refl;
      new_igtk = newest.key;
      is_igtk = refl;
      gtk_given = in_sta _ (inr (inr (inl refl)));
      igtk_given = in_sta _ (inr (inl refl));
      gtk_current = in_ap _ (inr (inl refl));
      igtk_current = in_ap _ (inl refl);
    }

-- the network is in form
pub protecting-in_form : (seed ssid psk : List ℕ) → IsSsid ssid → InForm (protecting seed ssid psk)
protecting-in_form seed ssid psk is =
    let f = small-in_form PskSha256 seed ssid psk is in
    record { some = f.some; few = f.few; aps = f.aps; stas = f.stas; few_aps = f.few_aps; few_stas = f.few_stas }

-- The frames of a network with suite 6 that protects management frames read as what they carry: the RSNE, and key data with a GTK and an
-- IGTK.
use Rattle.std.proofs.Common.{◌≡◌, ℕ, zero, suc, ◌+◌, ◌-◌, ◌<◌, ◌≤◌, ◌%◌, ◌^◌, true, false, List, [], ◌∷◌, ◌++◌, length, take, drop, Some, None, refl, sym, ap, subst, ◌∙◌, arith}
use Rattle.std.specs.Prelude.{replicate, ◌==◌, ◌||◌}
use Rattle.std.specs.Int.{w16, to_le_bytes, from_be_bytes}
use Rattle.std.proofs.lemmas.List.{append-nil, length-append, drop-drop}
use Rattle.air_frame.proofs.SentFrames.{assoc_req_sent}
use Rattle.air_frame.specs.Control.{data_header_length}
use Rattle.air_frame.specs.Fields.{assoc_req}
use Rattle.air_frame.specs.Sent.{IsAddress, assoc_req_octets}
use Rattle.domain_base.specs.Octets.{AreOctets}
use Rattle.domain_base.specs.Padding.{padding, padding_octets}
use Rattle.domain_base.specs.Places.{part, big_endian_at}
use Rattle.domain_base.specs.declared.names.Akm.TheVariants.{PskSha256}
use Rattle.domain_base.specs.declared.names.Akm.{Akm}
use Rattle.domain_base.specs.declared.names.Node.{Node}
use Rattle.domain_rules.proofs.CarriedKey.{IsGroupKey, are_few, octets_few, octets_both, octets_kde}
use Rattle.domain_rules.proofs.SentReads.{HasMic, with_mic, key_message, message_sent, reads-sealed, assoc_req_body}
use Rattle.domain_rules.specs.Frames.{wrapped, in_data, m3_frame, g1_frame, m3_key_data, g1_key_data}
use Rattle.domain_rules.specs.GroupKeys.{IgtkNews, News}
use Rattle.domain_rules.specs.IntegrityKeys.{key_data_in}
use Rattle.domain_rules.specs.Network.{address}
use Rattle.domain_rules.specs.Reading.{KeyMessage, Managed, Keyed, Reads}
use Rattle.eapol_key.proofs.Joined.{sent_fits}
use Rattle.eapol_key.specs.KeyData.{padded}
use Rattle.eapol_key.specs.KeyFrame.{KeyFields}
use Rattle.eapol_key.specs.Octets.{FitsKeyFrame}
use Rattle.eapol_key.specs.Sent.{sent_fields}
use Rattle.eapol_key.specs.declared.messages.Message.TheVariants.{M3, G1}
use Rattle.key_wrap.proofs.UniqueLemmas.{length-Wraps}
use Rattle.key_wrap.specs.KeyWrap.{Wraps}
use Rattle.rsn_elements.proofs.PiecesTell.{pieces_spelled}
use Rattle.rsn_elements.specs.Elements.{ElementFields, SpellsElements}
use Rattle.rsn_elements.specs.Framing.{EndsReading}
use Rattle.rsn_elements.specs.Pieces.{Piece, SentSsid, SentRates, SentRsneMfp, SentGtkKde, SentIgtkKde, said}
use Rattle.rsn_elements.specs.Sent.{ssid_octets, rates_octets, rsne_mfp_octets, gtk_kde_octets, ipn_octets, igtk_kde_octets}
use Rattle.rsn_elements.specs.declared.framing.Within.TheVariants.{Body, KeyData}
use Rattle.run_journal.specs.Acts.{GroupKey, Derivation}
use Rattle.run_journal.specs.declared.domain.Domain.{Domain}
use Rattle.example_domains.proofs.Elements.{spelled_as, three}
use Rattle.example_domains.specs.Protection.{protecting}

-- ---- the RSNE

abbrev pub rsne : List ℕ
rsne = rsne_mfp_octets PskSha256 None

-- what an association request says, and what the key data of M2 does
abbrev pub asked : List ℕ → ElementFields
asked ssid = said Body (SentSsid ssid ∷ SentRates ∷ SentRsneMfp PskSha256 None ∷ [])

asked_spelled : (ssid : List ℕ) → SpellsElements Body (ssid_octets ssid ++ rates_octets ++ rsne) (asked ssid)
asked_spelled ssid =
    spelled_as Body (SentSsid ssid ∷ SentRates ∷ SentRsneMfp PskSha256 None ∷ []) (ssid_octets ssid ++ rates_octets ++ rsne) (three (ssid_octets ssid) rates_octets rsne) (tt, (tt, (tt, tt)))
    ((refl, (refl, tt)), ((refl, tt), (tt, tt)))

abbrev pub answered : ElementFields
answered = said KeyData (SentRsneMfp PskSha256 None ∷ [])

pub answered_spelled : SpellsElements KeyData rsne answered
answered_spelled = spelled_as KeyData (SentRsneMfp PskSha256 None ∷ []) rsne refl (tt, tt) (tt, tt)

pub reads-asked : (seed ssid psk : List ℕ) (n p : Node) → IsAddress (address (protecting seed ssid psk) n) → IsAddress (address (protecting seed ssid psk) p)
    → Reads PskSha256 (assoc_req_octets (address (protecting seed ssid psk) p) (address (protecting seed ssid psk) n) (address (protecting seed ssid psk) p) (ssid_octets ssid ++ rates_octets ++ rsne)) (Managed (assoc_req_body (protecting seed ssid psk) n p) (asked ssid))
reads-asked seed ssid psk n p l m =
    let d : Domain = protecting seed ssid psk in (
      record {
        frame = assoc_req (assoc_req_body d n p).header 0x11 10 (ssid_octets ssid ++ rates_octets ++ rsne);
        spelled = assoc_req_sent (address d p) (address d n) (address d p) m l m (ssid_octets ssid ++ rates_octets ++ rsne);
        is = refl;
      },
      asked_spelled ssid,
    )

-- ---- key data with both group keys

-- group keys as a message carries them
abbrev pub both : GroupKey → ℕ → IgtkNews → News
both g rsc k = record { gtk = g; rsc = rsc; igtk = Some k }

-- keys as access points have them
pub record AreCarried (g : GroupKey) (k : IgtkNews) : Type 0 where
  pub gtk : IsGroupKey g
  pub other : (g.id == 0) ≡ false
  pub octets : AreOctets k.igtk.key
  pub size : length k.igtk.key ≡ 16
  pub low : k.igtk.id < 2 ^ 16
  pub one_of : ((k.igtk.id == 4) || (k.igtk.id == 5)) ≡ true
  pub id_octets : are_few (to_le_bytes w16 k.igtk.id) ≡ true
  pub number_octets : are_few (ipn_octets k.ipn) ≡ true

ends : (k : ℕ) → EndsReading KeyData (padding_octets k)
ends zero = tt
ends (suc zero) = refl
ends (suc (suc k)) = (refl, refl)

-- of a size that is known
pub record IsSized (plain : List ℕ) (size : ℕ) : Type 0 where
  pub octets : AreOctets plain
  pub size_is : length plain ≡ size

module _ (g : GroupKey) (k : IgtkNews) (are : AreCarried g k) where
  abbrev gtk_kde : List ℕ
  gtk_kde = gtk_kde_octets g.id g.key

  abbrev igtk_kde : List ℕ
  igtk_kde = igtk_kde_octets k.igtk.id k.ipn k.igtk.key

  octets_igtk : AreOctets igtk_kde
  octets_igtk =
      octets_both (0xdd ∷ 0x1c ∷ 0x00 ∷ 0x0f ∷ 0xac ∷ 0x09 ∷ []) (to_le_bytes w16 k.igtk.id ++ (ipn_octets k.ipn ++ k.igtk.key)) (octets_few (0xdd ∷ 0x1c ∷ 0x00 ∷ 0x0f ∷ 0xac ∷ 0x09 ∷ []) refl)
      (octets_both (to_le_bytes w16 k.igtk.id) (ipn_octets k.ipn ++ k.igtk.key) (octets_few (to_le_bytes w16 k.igtk.id) are.id_octets)
      (octets_both (ipn_octets k.ipn) k.igtk.key (octets_few (ipn_octets k.ipn) are.number_octets) are.octets))

  pub octets_kdes : AreOctets (gtk_kde ++ igtk_kde)
  octets_kdes = octets_both gtk_kde igtk_kde (octets_kde g are.gtk) octets_igtk

  pub size_kdes : length (gtk_kde ++ igtk_kde) ≡ 54
  size_kdes = omega (arith, length-append g.key igtk_kde, are.gtk.size, are.size)

  -- in M3
  abbrev plain3 : List ℕ
  plain3 = rsne ++ (gtk_kde ++ igtk_kde)

  abbrev pub data3 : List ℕ
  data3 = padded plain3

  abbrev pieces3 : List Piece
  pieces3 = SentRsneMfp PskSha256 None ∷ SentGtkKde g.id g.key ∷ SentIgtkKde k.igtk.id k.ipn k.igtk.key ∷ []

  abbrev pub said3 : ElementFields
  said3 = said KeyData pieces3

  pub says3 : SpellsElements KeyData data3 said3
  says3 =
      subst (λ (x : List ℕ). SpellsElements KeyData (x ++ padding_octets (padding (length plain3))) said3) (ap (λ (x : List ℕ). rsne ++ (gtk_kde ++ x)) (append-nil igtk_kde))
      (pieces_spelled KeyData pieces3 [] (padding_octets (padding (length plain3))) (tt, ((are.gtk.low, are.gtk.size), ((are.low, are.size), tt))) ((refl, (refl, tt)), ((refl, tt), (tt, tt))) tt (ends (padding (length plain3))))

  size3 : length plain3 ≡ 82
  size3 = omega (arith, size_kdes)

  pad3_is : (n : ℕ) → n ≡ 82 → padding_octets (padding n) ≡ 0xdd ∷ 0x00 ∷ 0x00 ∷ 0x00 ∷ 0x00 ∷ 0x00 ∷ []
  pad3_is n e = rw e refl

  data3_is : data3 ≡ plain3 ++ 0xdd ∷ 0x00 ∷ 0x00 ∷ 0x00 ∷ 0x00 ∷ 0x00 ∷ []
  data3_is = ap (λ (x : List ℕ). plain3 ++ x) (pad3_is (length plain3) size3)

  whole3 : length data3 ≡ 88
  whole3 = ap length data3_is ∙ length-append plain3 (0xdd ∷ 0x00 ∷ 0x00 ∷ 0x00 ∷ 0x00 ∷ 0x00 ∷ []) ∙ omega (arith, size3)

  octets3 : AreOctets data3
  octets3 = subst AreOctets (sym data3_is) (octets_both plain3 (0xdd ∷ 0x00 ∷ 0x00 ∷ 0x00 ∷ 0x00 ∷ 0x00 ∷ []) (octets_both rsne (gtk_kde ++ igtk_kde) (octets_few rsne refl) octets_kdes) (octets_few (0xdd ∷ 0x00 ∷ 0x00 ∷ 0x00 ∷ 0x00 ∷ 0x00 ∷ []) refl))

  pub wraps3 : (kek : List ℕ) → Wraps kek data3 (wrapped kek data3)
  wraps3 kek = record { whole_blocks = ap (λ (n : ℕ). n % 8) whole3; two_blocks = omega (arith, whole3); are_octets = octets3; wrapped = refl }

  pub few3 : (kek : List ℕ) → AreOctets kek → length (wrapped kek data3) ≤ 65440
  few3 kek octets = omega (arith, (length-Wraps kek data3 (wrapped kek data3) octets (wraps3 kek)).0, whole3)

  -- in G1
  abbrev plain1 : List ℕ
  plain1 = gtk_kde ++ igtk_kde

  abbrev pub data1 : List ℕ
  data1 = padded plain1

  abbrev pieces1 : List Piece
  pieces1 = SentGtkKde g.id g.key ∷ SentIgtkKde k.igtk.id k.ipn k.igtk.key ∷ []

  abbrev pub said1 : ElementFields
  said1 = said KeyData pieces1

  pub says1 : SpellsElements KeyData data1 said1
  says1 =
      subst (λ (x : List ℕ). SpellsElements KeyData (x ++ padding_octets (padding (length plain1))) said1) (ap (λ (x : List ℕ). gtk_kde ++ x) (append-nil igtk_kde))
      (pieces_spelled KeyData pieces1 [] (padding_octets (padding (length plain1))) ((are.gtk.low, are.gtk.size), ((are.low, are.size), tt)) ((refl, tt), (tt, tt)) tt (ends (padding (length plain1))))

  pad1_is : (n : ℕ) → n ≡ 54 → padding_octets (padding n) ≡ 0xdd ∷ 0x00 ∷ []
  pad1_is n e = rw e refl

  data1_is : data1 ≡ plain1 ++ 0xdd ∷ 0x00 ∷ []
  data1_is = ap (λ (x : List ℕ). plain1 ++ x) (pad1_is (length plain1) size_kdes)

  whole1 : length data1 ≡ 56
  whole1 = ap length data1_is ∙ length-append plain1 (0xdd ∷ 0x00 ∷ []) ∙ omega (arith, size_kdes)

  pub wraps1 : (kek : List ℕ) → Wraps kek data1 (wrapped kek data1)
  wraps1 kek = record {
    whole_blocks = ap (λ (n : ℕ). n % 8) whole1;
    two_blocks = omega (arith, whole1);
    are_octets = subst AreOctets (sym data1_is) (octets_both plain1 (0xdd ∷ 0x00 ∷ []) octets_kdes (octets_few (0xdd ∷ 0x00 ∷ []) refl));
    wrapped = refl;
  }

  pub few1 : (kek : List ℕ) → AreOctets kek → length (wrapped kek data1) ≤ 65440
  few1 kek octets = omega (arith, (length-Wraps kek data1 (wrapped kek data1) octets (wraps1 kek)).0, whole1)

-- ---- M3 and G1 with any group keys

module _ (d : Domain) (n p : Node) (x : Derivation) (counter : ℕ) (keys : News) where
  abbrev pub m3_fields : KeyFields
  m3_fields = sent_fields M3 d.akm counter x.inputs.anonce keys.rsc (wrapped x.ptk.kek (m3_key_data d n x keys))

  abbrev pub m3_message : KeyMessage
  m3_message = key_message d n p M3 (with_mic d.akm x.ptk.kck m3_fields) (m3_frame d n x counter keys)

  pub fits-m3 : counter < 2 ^ 64 → length x.inputs.anonce ≡ 32 → length (wrapped x.ptk.kek (m3_key_data d n x keys)) ≤ 65440 → FitsKeyFrame m3_fields
  fits-m3 c h few = sent_fits M3 d.akm counter keys.rsc x.inputs.anonce (wrapped x.ptk.kek (m3_key_data d n x keys)) c h few

  pub reads-m3 : HasMic d.akm → IsAddress (address d n) → IsAddress (address d p) → counter < 2 ^ 64 → length x.inputs.anonce ≡ 32 → length (wrapped x.ptk.kek (m3_key_data d n x keys)) ≤ 65440
      → Reads d.akm (in_data d n p (m3_frame d n x counter keys)) (Keyed m3_message)
  reads-m3 has l m c h few = reads-sealed d n p M3 x.ptk.kck m3_fields has l m (fits-m3 c h few) (message_sent M3 d.akm counter keys.rsc x.inputs.anonce (wrapped x.ptk.kek (m3_key_data d n x keys)) tt)

  abbrev pub g1_fields : KeyFields
  g1_fields = sent_fields G1 d.akm counter [] keys.rsc (wrapped x.ptk.kek (g1_key_data keys))

  abbrev pub g1_message : KeyMessage
  g1_message = key_message d n p G1 (with_mic d.akm x.ptk.kck g1_fields) (g1_frame d x counter keys)

  pub fits-g1 : counter < 2 ^ 64 → length (wrapped x.ptk.kek (g1_key_data keys)) ≤ 65440 → FitsKeyFrame g1_fields
  fits-g1 c few = sent_fits G1 d.akm counter keys.rsc (replicate 32 0) (wrapped x.ptk.kek (g1_key_data keys)) c refl few

  pub reads-g1 : HasMic d.akm → IsAddress (address d n) → IsAddress (address d p) → counter < 2 ^ 64 → length (wrapped x.ptk.kek (g1_key_data keys)) ≤ 65440 → Reads d.akm (in_data d n p (g1_frame d x counter keys)) (Keyed g1_message)
  reads-g1 has l m c few = reads-sealed d n p G1 x.ptk.kck g1_fields has l m (fits-g1 c few) (message_sent G1 d.akm counter keys.rsc [] (wrapped x.ptk.kek (g1_key_data keys)) tt)

-- ---- the key data of octets is that of the message that they read as

pub key_data-read : (akm : Akm) (octets : List ℕ) (m : KeyMessage) → Reads akm octets (Keyed m) → key_data_in octets ≡ m.fields.key_data
key_data-read akm octets m reads =
    let at : ℕ = data_header_length octets in
    let body : reads.body ≡ drop (at + 8) octets = cc (reads.frame.spelled.0) in
    let fields : m.fields.key_data ≡ part 99 (reads.used - 99) reads.body = ap (λ (x : KeyFields). x.key_data) reads.spelled.fields in
    let size : reads.used - 99 ≡ big_endian_at w16 97 reads.body = let long = reads.spelled.key_data_length in omega (arith, long) in
    let later : drop 97 reads.body ≡ drop (at + 105) octets = ap (λ (x : List ℕ). drop 97 x) body ∙ drop-drop 97 (at + 8) octets ∙ ap (λ (n : ℕ). drop n octets) (omega arith) in
    let last : drop 99 reads.body ≡ drop (at + 107) octets = ap (λ (x : List ℕ). drop 99 x) body ∙ drop-drop 99 (at + 8) octets ∙ ap (λ (n : ℕ). drop n octets) (omega arith) in
    sym (fields ∙ ap (λ (n : ℕ). take n (drop 99 reads.body)) (size ∙ ap (λ (x : List ℕ). from_be_bytes w16 (take 2 x)) later) ∙ ap (λ (x : List ℕ). take (big_endian_at w16 (at + 105) octets) x) last)

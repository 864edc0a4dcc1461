-- The key data of M3 with suite 4, as it is sent: it fits its frame, is unwrapped as it was wrapped, and says what it carries.
use Rattle.std.proofs.Common.{◌≡◌, ℕ, zero, suc, ◌+◌, ◌-◌, ◌<◌, ◌≤◌, ◌%◌, List, [], ◌∷◌, ◌++◌, length, Some, None, refl, sym, ap, subst, ◌∙◌, arith, false}
use Rattle.std.proofs.lemmas.Bool.{le-ltb}
use Rattle.std.proofs.lemmas.List.{append-nil, append_assoc, length-append, length-replicate}
use Rattle.std.proofs.lemmas.List.Elements.{All-nil, All-append, All-take}
use Rattle.sha2.specs.Sha256 as S256
use Rattle.sha2.specs.Sha256.{sha256}
use Rattle.air_frame.specs.Sent.{IsAddress}
use Rattle.domain_base.specs.Octets.{AreOctets}
use Rattle.domain_base.specs.Padding.{padding, padding_octets}
use Rattle.domain_base.specs.declared.names.Akm.TheVariants.{FtPsk}
use Rattle.domain_base.specs.declared.names.Mac.{Mac}
use Rattle.domain_rules.proofs.CarriedKey.{IsGroupKey, octets_few, octets_both, octets_more, octets_pad, octets_kde, size_kde}
use Rattle.domain_rules.proofs.KeyOctets.{octets-bytes}
use Rattle.domain_rules.specs.FastTransition.{r1_name, no_nonce, no_mic, plain_fte}
use Rattle.domain_rules.specs.Frames.{wrapped, timeouts}
use Rattle.eapol_key.specs.KeyData.{padded}
use Rattle.key_hierarchy.proofs.Lengths.{length-pmk_r1_name}
use Rattle.key_hierarchy.specs.FastTransition.{pmk_r1, pmk_r1_name}
use Rattle.key_hierarchy.specs.declared.inputs.Inputs.{Inputs}
use Rattle.key_wrap.proofs.UniqueLemmas.{length-Wraps}
use Rattle.key_wrap.specs.KeyWrap.{Wraps}
use Rattle.rsn_elements.proofs.PiecesTell.{pieces_spelled}
use Rattle.rsn_elements.specs.Elements.{ElementFields, SpellsElements}
use Rattle.rsn_elements.specs.Framing.{EndsReading}
use Rattle.rsn_elements.specs.Pieces.{Piece, SentRsne, SentMde, SentFte, SentGtkKde, SentTimeout, pieces_octets, said, sent_rsne}
use Rattle.rsn_elements.specs.Sent.{rsne_start, rsne_octets, mde_octets, fte_octets, fte_body, gtk_kde_octets, timeout_octets}
use Rattle.rsn_elements.specs.Transition.{FteFields}
use Rattle.rsn_elements.specs.declared.framing.Within.TheVariants.{KeyData}
use Rattle.run_journal.specs.Acts.{GroupKey}
use Rattle.example_domains.proofs.Elements.{IsHolder, fits-plain}

-- ---- the names of keys

octets-digest : (h : List ℕ) (n : ℕ) → AreOctets (S256.digest_bytes h n)
unfolding S256.digest_bytes
octets-digest h zero = All-nil (λ x. x < 256)
octets-digest h (suc n) = All-append (λ x. x < 256) (S256.digest_bytes h n) _ (octets-digest h n) (octets-bytes 4 _)

octets-sha256 : (text : List ℕ) → AreOctets (sha256 text)
unfolding sha256
octets-sha256 text = octets-digest _ 8

octets-name : (r0_name : List ℕ) (r1kh sta : Mac) → AreOctets (pmk_r1_name r0_name r1kh sta)
unfolding pmk_r1_name
octets-name r0_name r1kh sta = All-take (λ x. x < 256) 16 _ (octets-sha256 _)

pub length-r1_name : (i : Inputs) → length (r1_name i) ≡ 16
unfolding pmk_r1
length-r1_name i = length-pmk_r1_name _ i.aa i.spa

pub octets-r1_name : (i : Inputs) → AreOctets (r1_name i)
unfolding pmk_r1
octets-r1_name i = octets-name _ i.aa i.spa

-- ---- what is wrapped

-- an access point's address, its R0KH-ID and the mobility domain, as they stand in frames
pub record IsNamed (r1kh id mdid : List ℕ) : Type 0 where
  pub size : IsAddress r1kh
  pub octets : AreOctets r1kh
  pub holder : IsHolder id
  pub id_octets : AreOctets id
  pub mdid_size : length mdid ≡ 2
  pub mdid_octets : AreOctets mdid

-- an FTE of an association response is short
pub few_fte : (r1kh id : List ℕ) → IsAddress r1kh → IsHolder id → length (fte_octets (plain_fte no_nonce no_nonce (Some r1kh) id)) ≤ 300
few_fte r1kh id six is = simp length-append (omega (arith, six, is.few))

-- key data of that order, with any RSNE and any KDEs of group keys
module _ (r1kh id mdid rsne kdes : List ℕ) (n : IsNamed r1kh id mdid) (rsne_low : 16 ≤ length rsne) (rsne_few : length rsne ≤ 60) (kdes_few : length kdes ≤ 60) (octets_rsne : AreOctets rsne) (octets_kdes : AreOctets kdes) where
  abbrev fte_of : FteFields
  fte_of = plain_fte no_nonce no_nonce (Some r1kh) id

  abbrev pub plain_of : List ℕ
  plain_of = rsne ++ mde_octets mdid ++ kdes ++ fte_octets fte_of ++ timeouts

  abbrev pub data_of : List ℕ
  data_of = padded plain_of

  size_parts : (a b c e t : List ℕ) → length (a ++ b ++ c ++ e ++ t) ≡ length a + length b + length c + length e + length t
  size_parts a b c e t = length-append (a ++ b ++ c ++ e) t ∙ ap (λ (k : ℕ). k + length t) (length-append (a ++ b ++ c) e ∙ ap (λ (k : ℕ). k + length e) (length-append (a ++ b) c ∙ ap (λ (k : ℕ). k + length c) (length-append a b)))

  body_size : length (fte_body fte_of) < 200
  body_size = simp length-append (omega (arith, n.size, n.holder.few))

  size_mde : length (mde_octets mdid) ≡ 5
  size_mde = omega (arith, n.mdid_size, length-append mdid (0x00 ∷ []))

  size_timeouts : length timeouts ≡ 14
  size_timeouts = refl

  in_all : (a b c e t f : ℕ) → 16 ≤ a → a ≤ 60 → b ≡ 5 → c ≤ 60 → e ≡ suc (suc f) → t ≡ 14 → f < 200 → (16 ≤ a + b + c + e + t) × (a + b + c + e + t ≤ 400)
  in_all a b c e t f a_low a_few b_is c_few e_is t_is high = (omega (arith, a_low, a_few, b_is, c_few, e_is, t_is, high), omega (arith, a_low, a_few, b_is, c_few, e_is, t_is, high))

  size_of : (16 ≤ length plain_of) × (length plain_of ≤ 400)
  size_of =
      subst (λ (k : ℕ). (16 ≤ k) × (k ≤ 400)) (sym (size_parts rsne (mde_octets mdid) kdes (fte_octets fte_of) timeouts))
      (in_all (length rsne) (length (mde_octets mdid)) (length kdes) (length (fte_octets fte_of)) (length timeouts) (length (fte_body fte_of)) rsne_low rsne_few size_mde kdes_few refl size_timeouts body_size)

  count : (k : ℕ) → length (padding_octets k) ≡ k
  count zero = refl
  count (suc k) = ap suc (length-replicate k 0)

  pad_by : (k : ℕ) → 16 ≤ k → k ≤ 400 → ((k + length (padding_octets (padding k))) % 8 ≡ 0) × (k + length (padding_octets (padding k)) ≤ k + 8)
  pad_by k low high =
      let by : length (padding_octets (padding k)) ≡ (8 - k % 8) % 8 = count (padding k) ∙ rw (le-ltb k 16 low) refl in
      (omega (arith, by), omega (arith, by))

  abbrev subs : List ℕ
  subs = (0x01 ∷ length r1kh ∷ r1kh) ++ ((0x03 ∷ length id ∷ id) ++ [])

  octets_subs : AreOctets subs
  octets_subs =
      octets_both (0x01 ∷ length r1kh ∷ r1kh) ((0x03 ∷ length id ∷ id) ++ []) (octets_more 0x01 (length r1kh ∷ r1kh) (omega arith) (octets_more (length r1kh) r1kh (omega (arith, n.size)) n.octets))
      (octets_both (0x03 ∷ length id ∷ id) [] (octets_more 0x03 (length id ∷ id) (omega arith) (octets_more (length id) id (omega (arith, n.holder.few)) n.id_octets)) (All-nil (λ y. y < 256)))

  octets_body : AreOctets (fte_body fte_of)
  octets_body =
      octets_both (0 ∷ 0 ∷ []) (no_mic ++ (no_nonce ++ (no_nonce ++ subs))) (octets_few (0 ∷ 0 ∷ []) refl)
      (octets_both no_mic (no_nonce ++ (no_nonce ++ subs)) (octets_few no_mic refl)
      (octets_both no_nonce (no_nonce ++ subs) (octets_few no_nonce refl) (octets_both no_nonce subs (octets_few no_nonce refl) octets_subs)))

  octets_mde : AreOctets (mde_octets mdid)
  octets_mde = octets_more 0x36 (0x03 ∷ (mdid ++ 0x00 ∷ [])) (omega arith) (octets_more 0x03 (mdid ++ 0x00 ∷ []) (omega arith) (octets_both mdid (0x00 ∷ []) n.mdid_octets (octets_few (0x00 ∷ []) refl)))

  octets_fte : AreOctets (fte_octets fte_of)
  octets_fte = octets_more 0x37 (length (fte_body fte_of) ∷ fte_body fte_of) (omega arith) (octets_more (length (fte_body fte_of)) (fte_body fte_of) (let few = body_size in omega (arith, few)) octets_body)

  octets_all : (a b c e t : List ℕ) → AreOctets a → AreOctets b → AreOctets c → AreOctets e → AreOctets t → AreOctets (a ++ b ++ c ++ e ++ t)
  octets_all a b c e t a_are b_are c_are e_are t_are = octets_both (a ++ b ++ c ++ e) t (octets_both (a ++ b ++ c) e (octets_both (a ++ b) c (octets_both a b a_are b_are) c_are) e_are) t_are

  octets_plain : AreOctets plain_of
  octets_plain = octets_all rsne (mde_octets mdid) kdes (fte_octets fte_of) timeouts octets_rsne octets_mde octets_kdes octets_fte (octets_few timeouts refl)

  whole : length data_of ≡ length plain_of + length (padding_octets (padding (length plain_of)))
  whole = length-append plain_of (padding_octets (padding (length plain_of)))

  pub wraps_of : (kek : List ℕ) → Wraps kek data_of (wrapped kek data_of)
  wraps_of kek =
      let pad = pad_by (length plain_of) size_of.0 size_of.1 in
      record {
        whole_blocks = ap (λ (k : ℕ). k % 8) whole ∙ pad.0;
        two_blocks = omega (arith, whole, size_of.0);
        are_octets = octets_both plain_of (padding_octets (padding (length plain_of))) octets_plain (octets_pad (padding (length plain_of)));
        wrapped = refl;
      }

  pub few_of : (kek : List ℕ) → AreOctets kek → length (wrapped kek data_of) ≤ 65440
  few_of kek octets =
      let pad = pad_by (length plain_of) size_of.0 size_of.1 in
      omega (arith, (length-Wraps kek data_of (wrapped kek data_of) octets (wraps_of kek)).0, whole, size_of.1, pad.1)

pub nest : (a b c e t : List ℕ) → a ++ b ++ c ++ e ++ t ≡ a ++ (b ++ (c ++ (e ++ t)))
nest a b c e t = append_assoc (a ++ b ++ c) e t ∙ append_assoc (a ++ b) c (e ++ t) ∙ append_assoc a b (c ++ (e ++ t))

pub ends : (k : ℕ) → EndsReading KeyData (padding_octets k)
ends zero = tt
ends (suc zero) = refl
ends (suc (suc k)) = (refl, refl)

module _ (r1kh id mdid name : List ℕ) (g : GroupKey) (n : IsNamed r1kh id mdid) (is : IsGroupKey g) (size : length name ≡ 16) (of : AreOctets name) where
  abbrev fte : FteFields
  fte = plain_fte no_nonce no_nonce (Some r1kh) id

  abbrev plain : List ℕ
  plain = rsne_octets FtPsk (Some name) ++ mde_octets mdid ++ gtk_kde_octets g.id g.key ++ fte_octets fte ++ timeouts

  abbrev pub mobile_data : List ℕ
  mobile_data = padded plain

  abbrev pieces : List Piece
  pieces = SentRsne FtPsk (Some name) ∷ SentMde mdid ∷ SentGtkKde g.id g.key ∷ SentFte fte ∷ SentTimeout 1 1000 ∷ SentTimeout 2 86400 ∷ []

  -- what it says
  abbrev pub mobile_said : ElementFields
  mobile_said = record {
    rsne = Some (sent_rsne FtPsk (Some name));
    mde = Some (record { mdid = mdid; capability = 0 });
    fte = Some fte;
    gtk = Some (record { id = g.id; transmit = false; key = g.key });
    igtk = None;
    deadline = Some 1000;
    lifetime = Some 86400;
    rsne_octets = Some (rsne_octets FtPsk (Some name));
    mde_octets = Some (mde_octets mdid);
    fte_octets = Some (fte_octets fte);
  }

  pieces_are : pieces_octets pieces ≡ plain
  pieces_are =
      ap (λ (x : List ℕ). rsne_octets FtPsk (Some name) ++ (mde_octets mdid ++ (gtk_kde_octets g.id g.key ++ (fte_octets fte ++ (timeout_octets 1 1000 ++ x))))) (append-nil (timeout_octets 2 86400))
      ∙ sym (nest (rsne_octets FtPsk (Some name)) (mde_octets mdid) (gtk_kde_octets g.id g.key) (fte_octets fte) timeouts)

  pub mobile_says : SpellsElements KeyData mobile_data mobile_said
  mobile_says =
      subst (λ (x : List ℕ). SpellsElements KeyData (x ++ padding_octets (padding (length plain))) (said KeyData pieces)) pieces_are
      (pieces_spelled KeyData pieces [] (padding_octets (padding (length plain))) (size, (n.mdid_size, ((is.low, is.size), (fits-plain no_nonce no_nonce r1kh id refl refl n.size n.holder, (omega arith, (omega arith, tt))))))
      ((refl, (refl, (refl, (refl, (refl, tt))))), ((refl, (refl, (refl, (refl, tt)))), ((refl, (refl, (refl, tt))), ((refl, (refl, tt)), ((refl, tt), (tt, tt)))))) tt (ends (padding (length plain))))

  size_rsne : length (rsne_octets FtPsk (Some name)) ≡ 40
  size_rsne = omega (arith, size)

  octets_name : AreOctets (rsne_octets FtPsk (Some name))
  octets_name = octets_both (0x30 ∷ 0x26 ∷ rsne_start FtPsk) (0x01 ∷ 0x00 ∷ name) (octets_few (0x30 ∷ 0x26 ∷ rsne_start FtPsk) refl) (octets_more 0x01 (0x00 ∷ name) (omega arith) (octets_more 0x00 name (omega arith) of))

  few_kde : length (gtk_kde_octets g.id g.key) ≤ 60
  few_kde = omega (arith, size_kde g is)

  pub mobile_wraps : (kek : List ℕ) → Wraps kek mobile_data (wrapped kek mobile_data)
  mobile_wraps kek = wraps_of r1kh id mdid (rsne_octets FtPsk (Some name)) (gtk_kde_octets g.id g.key) n (omega (arith, size_rsne)) (omega (arith, size_rsne)) few_kde octets_name (octets_kde g is) kek

  pub few_mobile : (kek : List ℕ) → AreOctets kek → length (wrapped kek mobile_data) ≤ 65440
  few_mobile kek octets = few_of r1kh id mdid (rsne_octets FtPsk (Some name)) (gtk_kde_octets g.id g.key) n (omega (arith, size_rsne)) (omega (arith, size_rsne)) few_kde octets_name (octets_kde g is) kek octets

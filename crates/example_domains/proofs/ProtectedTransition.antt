-- The frames of a network with suite 4 that protects management frames read as what they carry: the RSNE with its names, key data with
-- both group keys, and both keys in an FTE.
use Rattle.std.proofs.Common.{◌≡◌, ℕ, ◌<◌, ◌≤◌, ◌%◌, ◌^◌, true, false, List, [], ◌∷◌, ◌++◌, length, Some, None, refl, sym, ap, subst, ◌∙◌, arith}
use Rattle.std.proofs.lemmas.List.{append-nil, append_assoc, length-append}
use Rattle.air_frame.specs.Sent.{IsAddress, assoc_req_octets, ft_req_octets, ft_resp_octets, re_req_octets, re_resp_octets}
use Rattle.domain_base.specs.Octets.{AreOctets}
use Rattle.domain_base.specs.Padding.{padding, padding_octets}
use Rattle.domain_base.specs.declared.names.Akm.TheVariants.{FtPsk}
use Rattle.domain_base.specs.declared.names.Node.{Node}
use Rattle.domain_rules.proofs.CarriedKey.{octets_few, octets_both, octets_more}
use Rattle.domain_rules.proofs.SentReads.{assoc_req_body}
use Rattle.domain_rules.specs.FastTransition.{r1_name, root_name, no_nonce, plain_fte}
use Rattle.domain_rules.specs.Frames.{aid, assoc_req_elements, wrapped, timeouts}
use Rattle.domain_rules.specs.GroupKeys.{IgtkNews}
use Rattle.domain_rules.specs.Network.{address, Root}
use Rattle.domain_rules.specs.Reading.{Managed, Reads}
use Rattle.domain_rules.specs.TransitionFrames.{ft_req_elements, ft_resp_elements, counted_fte, re_req_input, re_req_elements, sent_gtk, sent_igtk, re_resp_fte, re_resp_input, re_resp_elements, sealed_fte}
use Rattle.key_hierarchy.proofs.Lengths.{length-pmk_r0_name}
use Rattle.key_hierarchy.specs.declared.inputs.Inputs.{Inputs}
use Rattle.key_wrap.proofs.UniqueLemmas.{length-Wraps}
use Rattle.key_wrap.specs.KeyWrap.{Wraps}
use Rattle.rsn_elements.proofs.PiecesTell.{pieces_spelled}
use Rattle.rsn_elements.specs.Elements.{ElementFields, SpellsElements}
use Rattle.rsn_elements.specs.Pieces.{Piece, SentSsid, SentRates, SentRsneMfp, SentMde, SentFte, SentGtkKde, SentIgtkKde, SentTimeout, FitsFte, FitsWrappedIgtk, pieces_octets, said, sent_rsne_mfp, suite}
use Rattle.rsn_elements.specs.Sent.{ssid_octets, rates_octets, rsne_mfp_start, rsne_mfp_octets, mde_octets, fte_octets, gtk_kde_octets, ipn_octets, igtk_kde_octets, timeout_octets}
use Rattle.rsn_elements.specs.Transition.{FteFields}
use Rattle.rsn_elements.specs.declared.framing.Within.TheVariants.{Body, KeyData}
use Rattle.rsn_elements.specs.declared.framing.Within.{Within}
use Rattle.run_journal.specs.Acts.{GroupKey, Derivation}
use Rattle.run_journal.specs.declared.domain.Domain.{Domain}
use Rattle.example_domains.proofs.Elements.{spelled_as, three, four, five, IsHolder, fits-plain, fits-asking, fits-sealed, fits-carrying, length-cmac}
use Rattle.example_domains.proofs.MobileData.{IsNamed, length-r1_name, wraps_of, few_of, nest, ends}
use Rattle.example_domains.proofs.ProtectedData.{both, AreCarried, octets_kdes, size_kdes}
use Rattle.example_domains.proofs.TransitionReads.{reads-request_of, ft_req_of, reads-ft_req_of, ft_resp_of, reads-ft_resp_of, re_req_of, reads-re_req_of, re_resp_of, reads-re_resp_of, fits_gtk}

-- the network c with suite 4, where management frames are protected
abbrev pub guarded : Domain → Domain
guarded c = record c { akm = FtPsk; extras = record { version = c.extras.version; renew_at = c.extras.renew_at; mfp = true } }

-- ---- what elements say

-- the RSNE with that name of a key
abbrev pub named_rsne : List ℕ → List ℕ
named_rsne name = rsne_mfp_octets FtPsk (Some name)

-- an RSNE with that name of a key, an MDE and an FTE, and nothing else
abbrev pub told : List ℕ → List ℕ → FteFields → ElementFields
told name mdid f = record {
  rsne = Some (sent_rsne_mfp FtPsk (Some name));
  mde = Some (record { mdid = mdid; capability = 0 });
  fte = Some f;
  gtk = None;
  igtk = None;
  deadline = None;
  lifetime = None;
  rsne_octets = Some (named_rsne name);
  mde_octets = Some (mde_octets mdid);
  fte_octets = Some (fte_octets f);
}

-- an RSNE without a name and an MDE
abbrev pub requested : List ℕ → ElementFields
requested mdid = record {
  rsne = Some (sent_rsne_mfp FtPsk None);
  mde = Some (record { mdid = mdid; capability = 0 });
  fte = None;
  gtk = None;
  igtk = None;
  deadline = None;
  lifetime = None;
  rsne_octets = Some (rsne_mfp_octets FtPsk None);
  mde_octets = Some (mde_octets mdid);
  fte_octets = None;
}

pub three_spelled : (within : Within) (name mdid : List ℕ) (f : FteFields) → length name ≡ 16 → length mdid ≡ 2 → FitsFte f → SpellsElements within (named_rsne name ++ mde_octets mdid ++ fte_octets f) (told name mdid f)
three_spelled within name mdid f size two fits =
    spelled_as within (SentRsneMfp FtPsk (Some name) ∷ SentMde mdid ∷ SentFte f ∷ []) (named_rsne name ++ mde_octets mdid ++ fte_octets f)
    (three (named_rsne name) (mde_octets mdid) (fte_octets f)) (size, (two, (fits, tt))) ((refl, (refl, tt)), ((refl, tt), (tt, tt)))

four_spelled : (name mdid : List ℕ) (f : FteFields) → length name ≡ 16 → length mdid ≡ 2 → FitsFte f → SpellsElements Body (rates_octets ++ named_rsne name ++ mde_octets mdid ++ fte_octets f) (told name mdid f)
four_spelled name mdid f size two fits =
    spelled_as Body (SentRates ∷ SentRsneMfp FtPsk (Some name) ∷ SentMde mdid ∷ SentFte f ∷ []) (rates_octets ++ named_rsne name ++ mde_octets mdid ++ fte_octets f)
    (four rates_octets (named_rsne name) (mde_octets mdid) (fte_octets f)) (tt, (size, (two, (fits, tt)))) ((refl, (refl, (refl, tt))), ((refl, (refl, tt)), ((refl, tt), (tt, tt))))

five_spelled : (ssid name mdid : List ℕ) (f : FteFields) → length name ≡ 16 → length mdid ≡ 2 → FitsFte f → SpellsElements Body (ssid_octets ssid ++ rates_octets ++ named_rsne name ++ mde_octets mdid ++ fte_octets f) (told name mdid f)
five_spelled ssid name mdid f size two fits =
    spelled_as Body (SentSsid ssid ∷ SentRates ∷ SentRsneMfp FtPsk (Some name) ∷ SentMde mdid ∷ SentFte f ∷ []) (ssid_octets ssid ++ rates_octets ++ named_rsne name ++ mde_octets mdid ++ fte_octets f)
    (five (ssid_octets ssid) rates_octets (named_rsne name) (mde_octets mdid) (fte_octets f)) (tt, (tt, (size, (two, (fits, tt))))) ((refl, (refl, (refl, (refl, tt)))), ((refl, (refl, (refl, tt))), ((refl, (refl, tt)), ((refl, tt), (tt, tt)))))

request_spelled : (ssid mdid : List ℕ) → length mdid ≡ 2 → SpellsElements Body (ssid_octets ssid ++ rates_octets ++ rsne_mfp_octets FtPsk None ++ mde_octets mdid) (requested mdid)
request_spelled ssid mdid two =
    spelled_as Body (SentSsid ssid ∷ SentRates ∷ SentRsneMfp FtPsk None ∷ SentMde mdid ∷ []) (ssid_octets ssid ++ rates_octets ++ rsne_mfp_octets FtPsk None ++ mde_octets mdid)
    (four (ssid_octets ssid) rates_octets (rsne_mfp_octets FtPsk None) (mde_octets mdid)) (tt, (tt, (tt, (two, tt)))) ((refl, (refl, (refl, tt))), ((refl, (refl, tt)), ((refl, tt), (tt, tt))))

-- ---- the key data of M3

module _ (r1kh id mdid name : List ℕ) (g : GroupKey) (k : IgtkNews) (n : IsNamed r1kh id mdid) (are : AreCarried g k) (size : length name ≡ 16) (of : AreOctets name) where
  abbrev fte : FteFields
  fte = plain_fte no_nonce no_nonce (Some r1kh) id

  abbrev gtk_kde : List ℕ
  gtk_kde = gtk_kde_octets g.id g.key

  abbrev igtk_kde : List ℕ
  igtk_kde = igtk_kde_octets k.igtk.id k.ipn k.igtk.key

  abbrev plain : List ℕ
  plain = named_rsne name ++ mde_octets mdid ++ (gtk_kde ++ igtk_kde) ++ fte_octets fte ++ timeouts

  abbrev pub mobile_data : List ℕ
  mobile_data = plain ++ padding_octets (padding (length plain))

  abbrev pieces : List Piece
  pieces = SentRsneMfp FtPsk (Some name) ∷ SentMde mdid ∷ SentGtkKde g.id g.key ∷ SentIgtkKde k.igtk.id k.ipn k.igtk.key ∷ SentFte fte ∷ SentTimeout 1 1000 ∷ SentTimeout 2 86400 ∷ []

  -- what it says
  abbrev pub mobile_said : ElementFields
  mobile_said = record {
    rsne = Some (sent_rsne_mfp FtPsk (Some name));
    mde = Some (record { mdid = mdid; capability = 0 });
    fte = Some fte;
    gtk = Some (record { id = g.id; transmit = false; key = g.key });
    igtk = Some (record { id = k.igtk.id; ipn = ipn_octets k.ipn; key = k.igtk.key });
    deadline = Some 1000;
    lifetime = Some 86400;
    rsne_octets = Some (named_rsne name);
    mde_octets = Some (mde_octets mdid);
    fte_octets = Some (fte_octets fte);
  }

  pieces_are : pieces_octets pieces ≡ plain
  pieces_are =
      ap (λ (x : List ℕ). named_rsne name ++ (mde_octets mdid ++ (gtk_kde ++ (igtk_kde ++ (fte_octets fte ++ (timeout_octets 1 1000 ++ x)))))) (append-nil (timeout_octets 2 86400))
      ∙ ap (λ (x : List ℕ). named_rsne name ++ (mde_octets mdid ++ x)) (sym (append_assoc gtk_kde igtk_kde (fte_octets fte ++ timeouts)))
      ∙ sym (nest (named_rsne name) (mde_octets mdid) (gtk_kde ++ igtk_kde) (fte_octets fte) timeouts)

  pub mobile_says : SpellsElements KeyData mobile_data mobile_said
  mobile_says =
      subst (λ (x : List ℕ). SpellsElements KeyData (x ++ padding_octets (padding (length plain))) (said KeyData pieces)) pieces_are
      (pieces_spelled KeyData pieces [] (padding_octets (padding (length plain)))
      (size, (n.mdid_size, ((are.gtk.low, are.gtk.size), ((are.low, are.size), (fits-plain no_nonce no_nonce r1kh id refl refl n.size n.holder, (omega arith, (omega arith, tt)))))))
      ((refl, (refl, (refl, (refl, (refl, (refl, tt)))))), ((refl, (refl, (refl, (refl, (refl, tt))))), ((refl, (refl, (refl, (refl, tt)))), ((refl, (refl, (refl, tt))), ((refl, (refl, tt)), ((refl, tt), (tt, tt))))))) tt (ends (padding (length plain))))

  size_rsne : length (named_rsne name) ≡ 44
  size_rsne = omega (arith, size, length-append name (suite 6))

  octets_name : AreOctets (named_rsne name)
  octets_name =
      octets_both (0x30 ∷ 0x2a ∷ rsne_mfp_start FtPsk) (0x01 ∷ 0x00 ∷ (name ++ suite 6)) (octets_few (0x30 ∷ 0x2a ∷ rsne_mfp_start FtPsk) refl)
      (octets_more 0x01 (0x00 ∷ (name ++ suite 6)) (omega arith) (octets_more 0x00 (name ++ suite 6) (omega arith) (octets_both name (suite 6) of (octets_few (suite 6) refl))))

  pub mobile_wraps : (kek : List ℕ) → Wraps kek mobile_data (wrapped kek mobile_data)
  mobile_wraps kek = wraps_of r1kh id mdid (named_rsne name) (gtk_kde ++ igtk_kde) n (omega (arith, size_rsne)) (omega (arith, size_rsne)) (omega (arith, size_kdes g k are)) octets_name (octets_kdes g k are) kek

  pub few_mobile : (kek : List ℕ) → AreOctets kek → length (wrapped kek mobile_data) ≤ 65440
  few_mobile kek octets = few_of r1kh id mdid (named_rsne name) (gtk_kde ++ igtk_kde) n (omega (arith, size_rsne)) (omega (arith, size_rsne)) (omega (arith, size_kdes g k are)) octets_name (octets_kdes g k are) kek octets

-- ---- an IGTK under key wrap

pub wraps_igtk : (kek : List ℕ) (g : GroupKey) (k : IgtkNews) → AreCarried g k → Wraps kek k.igtk.key (wrapped kek k.igtk.key)
wraps_igtk kek g k are = record { whole_blocks = ap (λ (n : ℕ). n % 8) are.size; two_blocks = omega (arith, are.size); are_octets = are.octets; wrapped = refl }

pub length-wrapped_igtk : (kek : List ℕ) (g : GroupKey) (k : IgtkNews) → AreOctets kek → AreCarried g k → length (wrapped kek k.igtk.key) ≡ 24
length-wrapped_igtk kek g k octets are = omega (arith, (length-Wraps kek k.igtk.key (wrapped kek k.igtk.key) octets (wraps_igtk kek g k are)).0, are.size)

fits_igtk : (kek : List ℕ) (g : GroupKey) (k : IgtkNews) → AreCarried g k → FitsWrappedIgtk (sent_igtk kek k)
fits_igtk kek g k are = record { id = are.low; ipn = refl }

-- ---- management frames

module _ (c : Domain) where
  abbrev d : Domain
  d = guarded c

  pub reads-request : (n p : Node) → IsAddress (address d n) → IsAddress (address d p) → length c.mdid ≡ 2
      → Reads FtPsk (assoc_req_octets (address d p) (address d n) (address d p) (assoc_req_elements d)) (Managed (assoc_req_body d n p) (requested c.mdid))
  reads-request n p l m two = reads-request_of d n p (requested c.mdid) l m (request_spelled c.ssid c.mdid two)

  pub reads-ft_req : (n p : Node) (r : Root) (snonce : List ℕ) → IsAddress (address d n) → IsAddress (address d p) → length c.mdid ≡ 2 → length snonce ≡ 32 → IsHolder r.r0kh_id
      → Reads FtPsk (ft_req_octets (address d p) (address d n) (address d p) (ft_req_elements d n r snonce)) (Managed (ft_req_of d n p r snonce) (told (root_name d r n) c.mdid (plain_fte no_nonce snonce None r.r0kh_id)))
  reads-ft_req n p r snonce l m two size holder =
      reads-ft_req_of d n p r snonce (told (root_name d r n) c.mdid (plain_fte no_nonce snonce None r.r0kh_id)) l m
      (three_spelled Body (root_name d r n) c.mdid (plain_fte no_nonce snonce None r.r0kh_id) (length-pmk_r0_name _) two (fits-asking snonce r.r0kh_id size holder))

  pub reads-ft_resp : (n p : Node) (name : List ℕ) (i : Inputs) → IsAddress (address d n) → IsAddress (address d p) → length c.mdid ≡ 2 → length name ≡ 16 → length i.anonce ≡ 32 → length i.snonce ≡ 32 → IsHolder i.r0kh_id
      → Reads FtPsk (ft_resp_octets (address d p) (address d n) (address d n) 0 (ft_resp_elements d n name i)) (Managed (ft_resp_of d n p name i) (told name c.mdid (plain_fte i.anonce i.snonce (Some (address d n)) i.r0kh_id)))
  reads-ft_resp n p name i l m two size a s holder =
      reads-ft_resp_of d n p name i (told name c.mdid (plain_fte i.anonce i.snonce (Some (address d n)) i.r0kh_id)) l m
      (three_spelled Body name c.mdid (plain_fte i.anonce i.snonce (Some (address d n)) i.r0kh_id) size two (fits-plain i.anonce i.snonce (address d n) i.r0kh_id a s l holder))

  -- the FTE of a reassociation request
  abbrev pub re_req_sealed : Node → Node → Derivation → FteFields
  re_req_sealed n p x = sealed_fte x.ptk.kck (re_req_input d n p x) (counted_fte (address d p) x.inputs None)

  pub reads-re_req : (n p q : Node) (x : Derivation) → IsAddress (address d n) → IsAddress (address d p) → IsAddress (address d q) → length c.mdid ≡ 2 → length x.inputs.anonce ≡ 32 → length x.inputs.snonce ≡ 32 → IsHolder x.inputs.r0kh_id
      → Reads FtPsk (re_req_octets (address d p) (address d n) (address d p) (address d q) (re_req_elements d n p x)) (Managed (re_req_of d n p x) (told (r1_name x.inputs) c.mdid (re_req_sealed n p x)))
  reads-re_req n p q x l m o two a s holder =
      reads-re_req_of d n p q x (told (r1_name x.inputs) c.mdid (re_req_sealed n p x)) l m o
      (five_spelled c.ssid (r1_name x.inputs) c.mdid (re_req_sealed n p x) (length-r1_name x.inputs) two (fits-sealed _ (address d p) x.inputs (length-cmac x.ptk.kck (re_req_input d n p x)) a s m holder))

  -- and of a response, with both group keys
  abbrev pub response_fte : Node → Derivation → GroupKey → IgtkNews → FteFields
  response_fte n x g k = re_resp_fte d n x (both g 0 k)

  abbrev pub re_resp_sealed : Node → Node → Derivation → GroupKey → IgtkNews → FteFields
  re_resp_sealed n p x g k = sealed_fte x.ptk.kck (re_resp_input d n p (r1_name x.inputs) x (response_fte n x g k)) (response_fte n x g k)

  pub reads-re_resp : (n p : Node) (x : Derivation) (g : GroupKey) (k : IgtkNews) → IsAddress (address d n) → IsAddress (address d p) → aid p < 2 ^ 16 → length c.mdid ≡ 2 → length x.inputs.anonce ≡ 32 → length x.inputs.snonce ≡ 32 → IsHolder x.inputs.r0kh_id → AreCarried g k
      → Reads FtPsk (re_resp_octets (address d p) (address d n) (address d n) 0 (aid p) (re_resp_elements d n p (r1_name x.inputs) x (response_fte n x g k))) (Managed (re_resp_of d n p x (response_fte n x g k)) (told (r1_name x.inputs) c.mdid (re_resp_sealed n p x g k)))
  reads-re_resp n p x g k l m low two a s holder are =
      reads-re_resp_of d n p x (response_fte n x g k) (told (r1_name x.inputs) c.mdid (re_resp_sealed n p x g k)) l m low
      (four_spelled (r1_name x.inputs) c.mdid (re_resp_sealed n p x g k) (length-r1_name x.inputs) two
      (fits-carrying _ (address d n) x.inputs (sent_gtk x.ptk.kek g 0) (Some (sent_igtk x.ptk.kek k)) (length-cmac x.ptk.kck (re_resp_input d n p (r1_name x.inputs) x (response_fte n x g k))) a s l (fits_gtk x.ptk.kek g are.gtk) (fits_igtk x.ptk.kek g k are) holder))

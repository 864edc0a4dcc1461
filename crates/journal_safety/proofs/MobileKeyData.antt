-- The key data of M3 with suite 4, and what it says of the group keys that were put in. It carries what fast transition knows of the
-- network, whose sizes it takes.
use Rattle.std.proofs.Common.{◌≡◌, ℕ, zero, suc, ◌<◌, ◌≤◌, Bool, true, false, List, [], ◌∷◌, ◌++◌, length, Option, Some, None, refl, ap, arith}
use Rattle.std.specs.Prelude.{unwrap_or, option_map, slice_get}
use Rattle.std.specs.List.{AllByRecursion}
use Rattle.std.proofs.lemmas.List.{append-nil, length-append}
use Rattle.std.proofs.lemmas.List.Elements.{All-nil, All-append, All-take}
use Rattle.sha2.specs.Sha256 as S256
use Rattle.sha2.specs.Sha256.{sha256}
use Rattle.domain_base.specs.Octets.{AreOctets}
use Rattle.domain_base.specs.declared.names.Akm.TheVariants.{FtPsk}
use Rattle.domain_base.specs.declared.names.Mac.{Mac}
use Rattle.domain_base.specs.declared.names.Node.TheVariants.{Ap}
use Rattle.air_frame.specs.Sent.{IsAddress}
use Rattle.rsn_elements.specs.declared.framing.Within.TheVariants.{KeyData}
use Rattle.rsn_elements.specs.Transition.{FteFields}
use Rattle.rsn_elements.specs.Sent.{mde_octets, fte_octets, fte_body, timeout_octets}
use Rattle.rsn_elements.specs.Pieces.{Piece, SentMde, SentFte, SentGtkKde, SentTimeout, AreApart, said, FitsFte}
use Rattle.key_hierarchy.specs.FastTransition.{pmk_r1, pmk_r1_name}
use Rattle.key_hierarchy.specs.declared.inputs.Inputs.{Inputs}
use Rattle.key_hierarchy.proofs.Lengths.{length-pmk_r1_name}
use Rattle.run_journal.specs.declared.domain.Domain.{Domain}
use Rattle.run_journal.specs.declared.domain.ListedAp.{ListedAp}
use Rattle.run_journal.specs.Acts.{GroupKey}
use Rattle.domain_rules.specs.Network.{address, r0kh_id, AreAps, IsNamed}
use Rattle.run_journal.specs.Events.{IsListed}
use Rattle.run_journal.specs.declared.acts.GroupKind.{GroupKind}
use Rattle.run_journal.specs.declared.acts.GroupKind.TheVariants as groups
use Rattle.run_journal.specs.Events.{protects}
use Rattle.domain_rules.specs.GroupKeys.{IgtkNews, News}
use Rattle.domain_rules.specs.Suites.{network_rsne_by}
use Rattle.domain_rules.specs.Frames.{group_kdes, timeouts}
use Rattle.domain_rules.specs.FastTransition.{r1_name, no_nonce, no_mic, assoc_fte}
use Rattle.domain_rules.proofs.KeyOctets.{octets-bytes}
use Rattle.domain_rules.proofs.CarriedKey.{octets_few, octets_both, octets_more}
use Rattle.domain_rules.proofs.Peers.{listed-address, listed-octets}
use Rattle.domain_rules.specs.InOctets.{InOctets}
use Rattle.journal_safety.proofs.Legal.{carried_as}
use Rattle.journal_safety.proofs.GroupKeyData.{AreKeys, key_of, IsMade, made_one, made_both, made_wider, IsText, rsne_piece, made_rsne, igtk_pieces, kde_pieces, made_kdes}

-- ---- the names of keys

octets-digest : (h : List ℕ) (n : ℕ) → AreOctets (S256.digest_bytes h n)
unfolding S256.digest_bytes
octets-digest h zero = All-nil (λ x. x < 256)
octets-digest h (suc n) = All-append (λ x. x < 256) (S256.digest_bytes h n) _ (octets-digest h n) (octets-bytes 4 _)

octets-sha256 : (text : List ℕ) → AreOctets (sha256 text)
unfolding sha256
octets-sha256 text = octets-digest _ 8

octets-name : (r0_name : List ℕ) (r1kh sta : Mac) → AreOctets (pmk_r1_name r0_name r1kh sta)
unfolding pmk_r1_name
octets-name r0_name r1kh sta = All-take (λ x. x < 256) 16 _ (octets-sha256 _)

pub length-r1_name : (i : Inputs) → length (r1_name i) ≡ 16
unfolding pmk_r1
length-r1_name i = length-pmk_r1_name _ i.aa i.spa

octets-r1_name : (i : Inputs) → AreOctets (r1_name i)
unfolding pmk_r1
octets-r1_name i = octets-name _ i.aa i.spa

-- ---- of a listed access point

no_ap : ListedAp
no_ap = record { address = record { 0 = [] }; r0kh_id = [] }

holder_at : (aps : List ListedAp) (k : ℕ) → AreAps aps → AllByRecursion (λ (a : ListedAp). AreOctets a.r0kh_id) aps → k < length aps
    → (1 ≤ length (unwrap_or (option_map (λ (a : ListedAp). a.r0kh_id) (slice_get aps k)) [])) × (length (unwrap_or (option_map (λ (a : ListedAp). a.r0kh_id) (slice_get aps k)) []) ≤ 48) × AreOctets (unwrap_or (option_map (λ (a : ListedAp). a.r0kh_id) (slice_get aps k)) [])
holder_at [] k are all low = absurd (omega (arith, low))
holder_at (a ∷ aps) zero are all low = (are.1, are.2, all.0)
holder_at (a ∷ aps) (suc k) are all low = holder_at aps k are.5 all.1 (omega (arith, low))

-- what fast transition takes of an access point: sizes and octets
pub record Sized (d : Domain) (a : ℕ) : Type 0 where
  pub address_size : IsAddress (address d (Ap a))
  pub address_octets : AreOctets (address d (Ap a))
  pub some : 1 ≤ length (r0kh_id d (Ap a))
  pub few : length (r0kh_id d (Ap a)) ≤ 48
  pub id_octets : AreOctets (r0kh_id d (Ap a))
  pub mdid : length d.mdid ≡ 2
  pub mdid_octets : AreOctets d.mdid

pub sized : (d : Domain) (a : ℕ) → IsNamed d → InOctets d → IsListed d (Ap a) → Sized d a
sized d a names o low =
    let w = holder_at d.aps a names.aps o.id_octets low in
    record {
      address_size = listed-address d (Ap a) o.ap_sizes o.sta_sizes low;
      address_octets = listed-octets d (Ap a) o.ap_octets o.sta_octets low;
      some = w.0;
      few = w.1;
      id_octets = w.2;
      mdid = o.mdid;
      mdid_octets = o.mdid_octets;
    }

-- ---- the FTE and the MDE

fits_fte : (d : Domain) (a : ℕ) → Sized d a → FitsFte (assoc_fte d (Ap a))
fits_fte d a s = record { mic_control = refl; mic = refl; anonce = refl; snonce = refl; r1kh_id = s.address_size; gtk = tt; r0kh_id = (s.some, s.few); igtk = tt }

body_size : (d : Domain) (a : ℕ) → Sized d a → length (fte_body (assoc_fte d (Ap a))) < 200
body_size d a s = simp length-append (omega (arith, s.address_size, s.few))

abbrev subs_of : Domain → ℕ → List ℕ
subs_of d a = (0x01 ∷ length (address d (Ap a)) ∷ address d (Ap a)) ++ ((0x03 ∷ length (r0kh_id d (Ap a)) ∷ r0kh_id d (Ap a)) ++ [])

octets_subs : (d : Domain) (a : ℕ) → Sized d a → AreOctets (subs_of d a)
octets_subs d a s =
    octets_both (0x01 ∷ length (address d (Ap a)) ∷ address d (Ap a)) ((0x03 ∷ length (r0kh_id d (Ap a)) ∷ r0kh_id d (Ap a)) ++ [])
    (octets_more 0x01 (length (address d (Ap a)) ∷ address d (Ap a)) (omega arith) (octets_more (length (address d (Ap a))) (address d (Ap a)) (omega (arith, s.address_size)) s.address_octets))
    (octets_both (0x03 ∷ length (r0kh_id d (Ap a)) ∷ r0kh_id d (Ap a)) [] (octets_more 0x03 (length (r0kh_id d (Ap a)) ∷ r0kh_id d (Ap a)) (omega arith) (octets_more (length (r0kh_id d (Ap a))) (r0kh_id d (Ap a)) (omega (arith, s.few)) s.id_octets)) (All-nil (λ y. y < 256)))

octets_body : (d : Domain) (a : ℕ) → Sized d a → AreOctets (fte_body (assoc_fte d (Ap a)))
octets_body d a s =
    octets_both (0 ∷ 0 ∷ []) (no_mic ++ (no_nonce ++ (no_nonce ++ subs_of d a))) (octets_few (0 ∷ 0 ∷ []) refl)
    (octets_both no_mic (no_nonce ++ (no_nonce ++ subs_of d a)) (octets_few no_mic refl)
    (octets_both no_nonce (no_nonce ++ subs_of d a) (octets_few no_nonce refl) (octets_both no_nonce (subs_of d a) (octets_few no_nonce refl) (octets_subs d a s))))

octets_mde : (mdid : List ℕ) → AreOctets mdid → AreOctets (mde_octets mdid)
octets_mde mdid of = octets_more 0x36 (0x03 ∷ (mdid ++ 0x00 ∷ [])) (omega arith) (octets_more 0x03 (mdid ++ 0x00 ∷ []) (omega arith) (octets_both mdid (0x00 ∷ []) of (octets_few (0x00 ∷ []) refl)))

octets_fte : (d : Domain) (a : ℕ) → Sized d a → AreOctets (fte_octets (assoc_fte d (Ap a)))
octets_fte d a s = octets_more 0x37 (length (fte_body (assoc_fte d (Ap a))) ∷ fte_body (assoc_fte d (Ap a))) (omega arith) (octets_more (length (fte_body (assoc_fte d (Ap a)))) (fte_body (assoc_fte d (Ap a))) (let few = body_size d a s in omega (arith, few)) (octets_body d a s))

made_mde : (mdid : List ℕ) → length mdid ≡ 2 → AreOctets mdid → IsMade (SentMde mdid ∷ []) (mde_octets mdid) 5 5
made_mde mdid size of = made_one (SentMde mdid) (mde_octets mdid) 5 5 refl size (octets_mde mdid of) (omega (arith, size, length-append mdid (0x00 ∷ []))) (omega (arith, size, length-append mdid (0x00 ∷ [])))

made_fte : (d : Domain) (a : ℕ) → Sized d a → IsMade (SentFte (assoc_fte d (Ap a)) ∷ []) (fte_octets (assoc_fte d (Ap a))) 0 202
made_fte d a s = made_one (SentFte (assoc_fte d (Ap a))) (fte_octets (assoc_fte d (Ap a))) 0 202 refl (fits_fte d a s) (octets_fte d a s) (omega arith) (let few = body_size d a s in omega (arith, few))

made_timeouts : IsMade (SentTimeout 1 1000 ∷ SentTimeout 2 86400 ∷ []) timeouts 14 14
made_timeouts = record { is = ap (λ (x : List ℕ). timeout_octets 1 1000 ++ x) (append-nil (timeout_octets 2 86400)); fits = (omega arith, (omega arith, tt)); are_octets = octets_few timeouts refl; least = omega arith; most = omega arith }

-- ---- the key data

abbrev pub mobile_pieces_by : Bool → List ℕ → List ℕ → FteFields → GroupKey → Option IgtkNews → List Piece
mobile_pieces_by b name mdid f g o = rsne_piece b FtPsk (Some name) ∷ SentMde mdid ∷ SentGtkKde g.id g.key ∷ ((igtk_pieces o ++ SentFte f ∷ []) ++ SentTimeout 1 1000 ∷ SentTimeout 2 86400 ∷ [])

abbrev pub mobile_pieces : Domain → ℕ → List ℕ → News → List Piece
mobile_pieces d a name keys = mobile_pieces_by (protects d) name d.mdid (assoc_fte d (Ap a)) keys.gtk keys.igtk

abbrev pub mobile_text : Domain → ℕ → List ℕ → News → List ℕ
mobile_text d a name keys = network_rsne_by FtPsk d (Some name) ++ mde_octets d.mdid ++ group_kdes keys ++ fte_octets (assoc_fte d (Ap a)) ++ timeouts

pub text_mobile : (d : Domain) (a : ℕ) (i : Inputs) (keys : News) → Sized d a → AreKeys keys → IsText (mobile_pieces d a (r1_name i) keys) (mobile_text d a (r1_name i) keys)
text_mobile d a i keys s are =
    let name : List ℕ = r1_name i in
    let rsne : List ℕ = network_rsne_by FtPsk d (Some name) in
    let fte : List ℕ = fte_octets (assoc_fte d (Ap a)) in
    let one = made_both (rsne_piece (protects d) FtPsk (Some name) ∷ []) (SentMde d.mdid ∷ []) rsne (mde_octets d.mdid) 22 44 5 5 (made_rsne (protects d) FtPsk (Some name) (length-r1_name i, octets-r1_name i)) (made_mde d.mdid s.mdid s.mdid_octets) in
    let two = made_both (rsne_piece (protects d) FtPsk (Some name) ∷ SentMde d.mdid ∷ []) (kde_pieces keys) (rsne ++ mde_octets d.mdid) (group_kdes keys) 27 49 24 54 one (made_kdes keys are) in
    let three = made_both (rsne_piece (protects d) FtPsk (Some name) ∷ SentMde d.mdid ∷ kde_pieces keys) (SentFte (assoc_fte d (Ap a)) ∷ []) (rsne ++ mde_octets d.mdid ++ group_kdes keys) fte 51 103 0 202 two (made_fte d a s) in
    let four = made_both (rsne_piece (protects d) FtPsk (Some name) ∷ SentMde d.mdid ∷ SentGtkKde keys.gtk.id keys.gtk.key ∷ (igtk_pieces keys.igtk ++ SentFte (assoc_fte d (Ap a)) ∷ [])) (SentTimeout 1 1000 ∷ SentTimeout 2 86400 ∷ []) (rsne ++ mde_octets d.mdid ++ group_kdes keys ++ fte) timeouts 51 305 14 14 three made_timeouts in
    made_wider (mobile_pieces d a name keys) (mobile_text d a name keys) 65 319 24 500 (omega arith) (omega arith) four

apart_by : (b : Bool) (name mdid : List ℕ) (f : FteFields) (g : GroupKey) (o : Option IgtkNews) → AreApart (mobile_pieces_by b name mdid f g o)
apart_by true name mdid f g None = ((refl, (refl, (refl, (refl, (refl, tt))))), ((refl, (refl, (refl, (refl, tt)))), ((refl, (refl, (refl, tt))), ((refl, (refl, tt)), ((refl, tt), (tt, tt))))))
apart_by false name mdid f g None = ((refl, (refl, (refl, (refl, (refl, tt))))), ((refl, (refl, (refl, (refl, tt)))), ((refl, (refl, (refl, tt))), ((refl, (refl, tt)), ((refl, tt), (tt, tt))))))
apart_by true name mdid f g (Some k) = ((refl, (refl, (refl, (refl, (refl, (refl, tt)))))), ((refl, (refl, (refl, (refl, (refl, tt))))), ((refl, (refl, (refl, (refl, tt)))), ((refl, (refl, (refl, tt))), ((refl, (refl, tt)), ((refl, tt), (tt, tt)))))))
apart_by false name mdid f g (Some k) = ((refl, (refl, (refl, (refl, (refl, (refl, tt)))))), ((refl, (refl, (refl, (refl, (refl, tt))))), ((refl, (refl, (refl, (refl, tt)))), ((refl, (refl, (refl, tt))), ((refl, (refl, tt)), ((refl, tt), (tt, tt)))))))

pub mobile_apart : (d : Domain) (a : ℕ) (name : List ℕ) (keys : News) → AreApart (mobile_pieces d a name keys)
mobile_apart d a name keys = apart_by (protects d) name d.mdid (assoc_fte d (Ap a)) keys.gtk keys.igtk

says_by : (which : GroupKind) (b : Bool) (name mdid : List ℕ) (f : FteFields) (g : GroupKey) (rsc : ℕ) (o : Option IgtkNews) → (carried_as which (Some (said KeyData (mobile_pieces_by b name mdid f g o)))).key ≡ key_of which (record { gtk = g; rsc = rsc; igtk = o })
says_by groups.Gtk true name mdid f g rsc None = refl
says_by groups.Gtk false name mdid f g rsc None = refl
says_by groups.Gtk true name mdid f g rsc (Some k) = refl
says_by groups.Gtk false name mdid f g rsc (Some k) = refl
says_by groups.Igtk true name mdid f g rsc None = refl
says_by groups.Igtk false name mdid f g rsc None = refl
says_by groups.Igtk true name mdid f g rsc (Some k) = refl
says_by groups.Igtk false name mdid f g rsc (Some k) = refl

-- what it says of the group keys
pub mobile_says : (which : GroupKind) (d : Domain) (a : ℕ) (name : List ℕ) (keys : News) → (carried_as which (Some (said KeyData (mobile_pieces d a name keys)))).key ≡ key_of which keys
mobile_says which d a name keys = says_by which (protects d) name d.mdid (assoc_fte d (Ap a)) keys.gtk keys.rsc keys.igtk

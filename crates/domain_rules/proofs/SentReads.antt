-- Frames as they are sent read as what they carry, in any network.
use Rattle.std.proofs.Common.{◌≡◌, ◌≢◌, ℕ, ◌+◌, ◌^◌, ◌<◌, ◌≤◌, Bool, true, false, List, [], ◌∷◌, ◌++◌, length, take, drop, Option, Some, None, refl, sym, ap, subst, ◌∙◌, arith}
use Rattle.std.specs.Prelude.{not, nat_lt, replicate, if◌then◌else◌}
use Rattle.std.specs.Int.{w64, from_le_bytes}
use Rattle.std.proofs.lemmas.Bool.{lt-ltb}
use Rattle.std.proofs.lemmas.List.{append-nil, append_assoc, length-append, take_all, take-take, drop-drop}
use Rattle.domain_base.specs.declared.names.Akm.{Akm}
use Rattle.domain_base.specs.declared.names.Akm.TheVariants.{Psk, PskSha256, FtPsk}
use Rattle.domain_base.specs.declared.names.Node.{Node}
use Rattle.domain_base.specs.declared.names.Node.TheVariants.{Ap, Sta}
use Rattle.domain_base.specs.Places.{big_endian_at}
use Rattle.air_frame.specs.Control.{data_header_length}
use Rattle.air_frame.specs.Fields.{assoc_req, assoc_resp}
use Rattle.air_frame.specs.Sent.{IsAddress, management_header_octets, data_header_octets, assoc_req_octets, assoc_resp_octets, sent_header}
use Rattle.air_frame.proofs.SentFrames.{assoc_req_sent, assoc_resp_sent, eapol_data_sent}
use Rattle.rsn_elements.specs.declared.framing.Within.TheVariants.{Body, KeyData}
use Rattle.rsn_elements.specs.Elements.{ElementFields, SpellsElements}
use Rattle.rsn_elements.specs.Sent.{ssid_octets, rates_octets, rsne_octets, rsne_mfp_octets, mde_octets}
use Rattle.rsn_elements.specs.Pieces.{SentSsid, SentRates, SentRsne, nothing, said}
use Rattle.rsn_elements.proofs.PiecesTell.{pieces_spelled}
use Rattle.key_wrap.specs.KeyWrap.{Wraps}
use Rattle.mac_prf.specs.Mic.{mic}
use Rattle.eapol_key.specs.declared.messages.Message.{Message}
use Rattle.eapol_key.specs.declared.messages.Message.TheVariants.{M1, M2, M3, M4, G1, G2}
use Rattle.eapol_key.specs.KeyFrame.{KeyFields, SpellsKeyFrame}
use Rattle.eapol_key.specs.Messages.{descriptor_version, has_bit, IsMessage}
use Rattle.eapol_key.specs.Octets.{FitsKeyFrame, frame_octets}
use Rattle.eapol_key.specs.Sealed.{sealed}
use Rattle.eapol_key.specs.Sent.{IsSentWith, sent_fields}
use Rattle.eapol_key.proofs.Joined.{sent_fits}
use Rattle.eapol_key.proofs.Seals.{sealed_fields, sealed_mic}
use Rattle.eapol_key.proofs.Written.{spelled_as_written}
use Rattle.run_journal.specs.declared.domain.Domain.{Domain}
use Rattle.run_journal.specs.Events.{protects}
use Rattle.run_journal.specs.declared.acts.Kind.TheVariants as kind
use Rattle.run_journal.specs.Acts.{GroupKey, Derivation}
use Rattle.domain_rules.specs.Network.{address, bssid, direction}
use Rattle.domain_rules.specs.Suites.{network_rsne}
use Rattle.domain_rules.specs.FastTransition.{r1_name}
use Rattle.domain_rules.specs.Reading.{Management, Managed, KeyMessage, Keyed, IsManaged, Reads}
use Rattle.domain_rules.specs.Asking.{is_secure, replay_counter}
use Rattle.domain_rules.specs.GroupKeys.{rsc_in, News, gtk_news}
use Rattle.domain_rules.specs.Frames.{aid, assoc_req_elements, assoc_resp_elements, in_data, sent_m2_key_data, m2_frame, wrapped, m3_key_data, m3_frame, m4_frame, g1_key_data, g1_frame, g2_frame}
use Rattle.domain_base.specs.Octets.{AreOctets}
use Rattle.domain_rules.proofs.SuiteWords.{plain_key_data, plain_request, request_suite, response_suite, m2_data_suite, m3_data_suite}
use Rattle.domain_rules.proofs.CarriedKey.{IsGroupKey, wrapped_is, few_wrapped, few_wrapped_g1}

-- ---- elements

abbrev pub assoc_req_said : Domain → ElementFields
assoc_req_said d = said Body (SentSsid d.ssid ∷ SentRates ∷ SentRsne d.akm None ∷ [])

plain_spelled : (d : Domain) → SpellsElements Body (plain_request d) (assoc_req_said d)
plain_spelled d =
    subst (λ (x : List ℕ). SpellsElements Body x (assoc_req_said d))
    (
    append-nil (ssid_octets d.ssid ++ (rates_octets ++ (rsne_octets d.akm None ++ []))) ∙ ap (λ (x : List ℕ). ssid_octets d.ssid ++ (rates_octets ++ x)) (append-nil (rsne_octets d.akm None))
    ∙ sym (append_assoc (ssid_octets d.ssid) rates_octets (rsne_octets d.akm None))
    )
    (pieces_spelled Body (SentSsid d.ssid ∷ SentRates ∷ SentRsne d.akm None ∷ []) [] [] (tt, (tt, (tt, tt))) ((refl, (refl, tt)), ((refl, tt), (tt, tt))) tt tt)

-- with suites 2 and 6, where management frames are not protected
pub assoc_req_spelled : (d : Domain) → d.akm ≢ FtPsk → protects d ≡ false → SpellsElements Body (assoc_req_elements d) (assoc_req_said d)
assoc_req_spelled d other off = subst (λ (x : List ℕ). SpellsElements Body x (assoc_req_said d)) (sym (request_suite d.akm d other off)) (plain_spelled d)

abbrev pub rates_said : ElementFields
rates_said = nothing

pub rates_spelled : SpellsElements Body rates_octets rates_said
rates_spelled = pieces_spelled Body (SentRates ∷ []) [] [] (tt, tt) (tt, tt) tt tt

pub assoc_resp_spelled : (d : Domain) (n : Node) → d.akm ≢ FtPsk → SpellsElements Body (assoc_resp_elements d n) rates_said
assoc_resp_spelled d n other = subst (λ (x : List ℕ). SpellsElements Body x rates_said) (sym (response_suite d.akm d n other)) rates_spelled

pub nothing_spelled : SpellsElements Body [] nothing
nothing_spelled = pieces_spelled Body [] [] [] tt tt tt tt

-- the RSNE alone, as in the key data of M2
abbrev pub rsne_said : Akm → ElementFields
rsne_said akm = said KeyData (SentRsne akm None ∷ [])

pub rsne_spelled : (akm : Akm) → SpellsElements KeyData (rsne_octets akm None) (rsne_said akm)
rsne_spelled akm =
    subst (λ (x : List ℕ). SpellsElements KeyData x (rsne_said akm)) (append-nil (rsne_octets akm None ++ []) ∙ append-nil (rsne_octets akm None))
    (pieces_spelled KeyData (SentRsne akm None ∷ []) [] [] (tt, tt) (tt, tt) tt tt)

-- ---- association

abbrev pub assoc_req_body : Domain → Node → Node → Management
assoc_req_body d n p = record {
  kind = kind.AssocReq;
  header = sent_header (management_header_octets 0 (address d p) (address d n) (address d p)) (address d p) (address d n) (address d p);
  status = 0;
  elements = assoc_req_elements d;
}

pub reads-assoc_req : (d : Domain) (n p : Node) → d.akm ≢ FtPsk → protects d ≡ false → IsAddress (address d n) → IsAddress (address d p)
    → Reads d.akm (assoc_req_octets (address d p) (address d n) (address d p) (assoc_req_elements d)) (Managed (assoc_req_body d n p) (assoc_req_said d))
reads-assoc_req d n p other off l m = (
  record {
    frame = assoc_req (assoc_req_body d n p).header 0x11 10 (assoc_req_elements d);
    spelled = assoc_req_sent (address d p) (address d n) (address d p) m l m (assoc_req_elements d);
    is = refl;
  },
  assoc_req_spelled d other off,
)

abbrev pub assoc_resp_body : Domain → Node → Node → ℕ → List ℕ → Management
assoc_resp_body d n p status elements = record {
  kind = kind.AssocResp;
  header = sent_header (management_header_octets 1 (address d p) (address d n) (address d n)) (address d p) (address d n) (address d n);
  status = status;
  elements = elements;
}

managed-assoc_resp : (d : Domain) (n p : Node) (status aid : ℕ) (elements : List ℕ) → IsAddress (address d n) → IsAddress (address d p) → status < 2 ^ 16 → aid < 2 ^ 16
    → IsManaged (assoc_resp_octets (address d p) (address d n) (address d n) status aid elements) (assoc_resp_body d n p status elements)
managed-assoc_resp d n p status aid elements l m s a = record {
  frame = assoc_resp (assoc_resp_body d n p status elements).header 0x11 status aid elements;
  spelled = assoc_resp_sent (address d p) (address d n) (address d n) m l l status aid elements s a;
  is = refl;
}

pub reads-assoc_resp : (d : Domain) (n p : Node) → d.akm ≢ FtPsk → IsAddress (address d n) → IsAddress (address d p) → aid p < 2 ^ 16
    → Reads d.akm (assoc_resp_octets (address d p) (address d n) (address d n) 0 (aid p) (assoc_resp_elements d n)) (Managed (assoc_resp_body d n p 0 (assoc_resp_elements d n)) rates_said)
reads-assoc_resp d n p other l m a = (managed-assoc_resp d n p 0 (aid p) (assoc_resp_elements d n) l m (omega arith) a, assoc_resp_spelled d n other)

pub reads-refusal : (d : Domain) (n p : Node) (status : ℕ) → IsAddress (address d n) → IsAddress (address d p) → status < 2 ^ 16
    → Reads d.akm (assoc_resp_octets (address d p) (address d n) (address d n) status 0 []) (Managed (assoc_resp_body d n p status []) nothing)
reads-refusal d n p status l m s = (managed-assoc_resp d n p status 0 [] l m s (omega arith), nothing_spelled)

-- ---- EAPOL-Key messages

-- the fields that are sent are those of the message
pub message_sent : (message : Message) (akm : Akm) (counter rsc : ℕ) (nonce key_data : List ℕ) → IsSentWith message key_data → IsMessage akm message (sent_fields message akm counter nonce rsc key_data)
message_sent M1 Psk counter rsc nonce key_data w = record { version = refl; error = refl; request = refl; bits = record { pairwise = refl; install = refl; ack = refl; mic = refl; secure = tt; encrypted = refl }; key_data = tt }
message_sent M1 PskSha256 counter rsc nonce key_data w = record { version = refl; error = refl; request = refl; bits = record { pairwise = refl; install = refl; ack = refl; mic = refl; secure = tt; encrypted = refl }; key_data = tt }
message_sent M1 FtPsk counter rsc nonce key_data w = record { version = refl; error = refl; request = refl; bits = record { pairwise = refl; install = refl; ack = refl; mic = refl; secure = tt; encrypted = refl }; key_data = tt }
message_sent M2 Psk counter rsc nonce key_data w = record { version = refl; error = refl; request = refl; bits = record { pairwise = refl; install = refl; ack = refl; mic = refl; secure = tt; encrypted = refl }; key_data = lt-ltb 0 (length key_data) w }
message_sent M2 PskSha256 counter rsc nonce key_data w = record { version = refl; error = refl; request = refl; bits = record { pairwise = refl; install = refl; ack = refl; mic = refl; secure = tt; encrypted = refl }; key_data = lt-ltb 0 (length key_data) w }
message_sent M2 FtPsk counter rsc nonce key_data w = record { version = refl; error = refl; request = refl; bits = record { pairwise = refl; install = refl; ack = refl; mic = refl; secure = tt; encrypted = refl }; key_data = lt-ltb 0 (length key_data) w }
message_sent M3 Psk counter rsc nonce key_data w = record { version = refl; error = refl; request = refl; bits = record { pairwise = refl; install = refl; ack = refl; mic = refl; secure = refl; encrypted = refl }; key_data = tt }
message_sent M3 PskSha256 counter rsc nonce key_data w = record { version = refl; error = refl; request = refl; bits = record { pairwise = refl; install = refl; ack = refl; mic = refl; secure = refl; encrypted = refl }; key_data = tt }
message_sent M3 FtPsk counter rsc nonce key_data w = record { version = refl; error = refl; request = refl; bits = record { pairwise = refl; install = refl; ack = refl; mic = refl; secure = refl; encrypted = refl }; key_data = tt }
message_sent M4 Psk counter rsc nonce key_data w = record { version = refl; error = refl; request = refl; bits = record { pairwise = refl; install = refl; ack = refl; mic = refl; secure = refl; encrypted = refl }; key_data = ap (λ (x : List ℕ). not (nat_lt 0 (length x))) w }
message_sent M4 PskSha256 counter rsc nonce key_data w = record { version = refl; error = refl; request = refl; bits = record { pairwise = refl; install = refl; ack = refl; mic = refl; secure = refl; encrypted = refl }; key_data = ap (λ (x : List ℕ). not (nat_lt 0 (length x))) w }
message_sent M4 FtPsk counter rsc nonce key_data w = record { version = refl; error = refl; request = refl; bits = record { pairwise = refl; install = refl; ack = refl; mic = refl; secure = refl; encrypted = refl }; key_data = ap (λ (x : List ℕ). not (nat_lt 0 (length x))) w }
message_sent G1 Psk counter rsc nonce key_data w = record { version = refl; error = refl; request = refl; bits = record { pairwise = refl; install = refl; ack = refl; mic = refl; secure = refl; encrypted = refl }; key_data = tt }
message_sent G1 PskSha256 counter rsc nonce key_data w = record { version = refl; error = refl; request = refl; bits = record { pairwise = refl; install = refl; ack = refl; mic = refl; secure = refl; encrypted = refl }; key_data = tt }
message_sent G1 FtPsk counter rsc nonce key_data w = record { version = refl; error = refl; request = refl; bits = record { pairwise = refl; install = refl; ack = refl; mic = refl; secure = refl; encrypted = refl }; key_data = tt }
message_sent G2 Psk counter rsc nonce key_data w = record { version = refl; error = refl; request = refl; bits = record { pairwise = refl; install = refl; ack = refl; mic = refl; secure = refl; encrypted = refl }; key_data = tt }
message_sent G2 PskSha256 counter rsc nonce key_data w = record { version = refl; error = refl; request = refl; bits = record { pairwise = refl; install = refl; ack = refl; mic = refl; secure = refl; encrypted = refl }; key_data = tt }
message_sent G2 FtPsk counter rsc nonce key_data w = record { version = refl; error = refl; request = refl; bits = record { pairwise = refl; install = refl; ack = refl; mic = refl; secure = refl; encrypted = refl }; key_data = tt }

pub length-frame : (f : KeyFields) → FitsKeyFrame f → length (frame_octets f) ≡ 99 + length f.key_data
unfolding frame_octets
length-frame f fits = simp length-append (omega (arith, fits.nonce, fits.iv, fits.rsc, fits.reserved, fits.mic))

abbrev pub key_message : Domain → Node → Node → Message → KeyFields → List ℕ → KeyMessage
key_message d n p m f frame = record {
  header = sent_header (data_header_octets (direction n) false None (address d p) (address d n) (bssid d n p)) (address d p) (address d n) (bssid d n p);
  direction = direction n;
  message = m;
  fields = f;
  octets = frame;
}

address-bssid : (d : Domain) (n p : Node) → IsAddress (address d n) → IsAddress (address d p) → IsAddress (bssid d n p)
address-bssid d (Ap k) p l m = l
address-bssid d (Sta k) p l m = m

pub reads-key : (d : Domain) (n p : Node) (m : Message) (f : KeyFields) → IsAddress (address d n) → IsAddress (address d p) → FitsKeyFrame f → IsMessage d.akm m f
    → Reads d.akm (in_data d n p (frame_octets f)) (Keyed (key_message d n p m f (frame_octets f)))
reads-key d n p m f l k fits is = record {
  body = frame_octets f;
  frame = record {
    tid = None;
    spelled = eapol_data_sent (direction n) (address d p) (address d n) (bssid d n p) (frame_octets f) k l (address-bssid d n p l k);
  };
  used = 99 + length f.key_data;
  spelled = subst (λ (x : List ℕ). SpellsKeyFrame x f (99 + length f.key_data)) (append-nil (frame_octets f)) (spelled_as_written f fits []);
  is = is;
  octets_are = sym (take_all (99 + length f.key_data) (frame_octets f) (omega (arith, length-frame f fits)));
}

abbrev pub m1_message : Domain → Node → Node → ℕ → List ℕ → KeyMessage
m1_message d n p counter anonce = key_message d n p M1 (sent_fields M1 d.akm counter anonce 0 []) (frame_octets (sent_fields M1 d.akm counter anonce 0 []))

pub reads-m1 : (d : Domain) (n p : Node) (counter : ℕ) (anonce : List ℕ) → IsAddress (address d n) → IsAddress (address d p) → counter < 2 ^ 64 → length anonce ≡ 32
    → Reads d.akm (in_data d n p (frame_octets (sent_fields M1 d.akm counter anonce 0 []))) (Keyed (m1_message d n p counter anonce))
reads-m1 d n p counter anonce l k c h =
    reads-key d n p M1 (sent_fields M1 d.akm counter anonce 0 []) l k (sent_fits M1 d.akm counter 0 anonce [] c h (omega arith)) (message_sent M1 d.akm counter 0 anonce [] refl)

-- ---- under a MIC

-- under the suite a MIC has 16 octets
abbrev pub HasMic : Akm → Type 0
HasMic akm = (kck frame : List ℕ) → length (mic akm kck frame) ≡ 16

abbrev pub with_mic : Akm → List ℕ → KeyFields → KeyFields
with_mic akm kck f = record f { mic = mic akm kck (frame_octets f) }

fits-with_mic : (akm : Akm) (kck : List ℕ) (f : KeyFields) → HasMic akm → FitsKeyFrame f → FitsKeyFrame (with_mic akm kck f)
fits-with_mic akm kck f has fits = record {
  version_low = fits.version_low;
  version_high = fits.version_high;
  information = fits.information;
  key_length = fits.key_length;
  counter = fits.counter;
  nonce = fits.nonce;
  iv = fits.iv;
  rsc = fits.rsc;
  reserved = fits.reserved;
  mic = has kck (frame_octets f);
  key_data = fits.key_data;
}

message-with_mic : (akm : Akm) (kck : List ℕ) (m : Message) (f : KeyFields) → IsMessage akm m f → IsMessage akm m (with_mic akm kck f)
message-with_mic akm kck m f is = record { version = is.version; error = is.error; request = is.request; bits = is.bits; key_data = is.key_data }

pub reads-sealed : (d : Domain) (n p : Node) (m : Message) (kck : List ℕ) (f : KeyFields) → HasMic d.akm → IsAddress (address d n) → IsAddress (address d p) → FitsKeyFrame f → IsMessage d.akm m f
    → Reads d.akm (in_data d n p (sealed d.akm kck (frame_octets f))) (Keyed (key_message d n p m (with_mic d.akm kck f) (sealed d.akm kck (frame_octets f))))
reads-sealed d n p m kck f has l k fits is =
    subst (λ (x : List ℕ). Reads d.akm (in_data d n p x) (Keyed (key_message d n p m (with_mic d.akm kck f) x))) (sym (sealed_fields d.akm kck f fits))
    (reads-key d n p m (with_mic d.akm kck f) l k (fits-with_mic d.akm kck f has fits) (message-with_mic d.akm kck m f is))

-- M2, before its MIC is put in
abbrev pub m2_fields : Domain → Derivation → ℕ → List ℕ → KeyFields
m2_fields d x counter fte = sent_fields M2 d.akm counter x.inputs.snonce 0 (sent_m2_key_data d.akm d x fte)

pub fits-m2 : (d : Domain) (x : Derivation) (counter : ℕ) (fte : List ℕ) → counter < 2 ^ 64 → length x.inputs.snonce ≡ 32 → length (sent_m2_key_data d.akm d x fte) ≤ 65440 → FitsKeyFrame (m2_fields d x counter fte)
fits-m2 d x counter fte c h few = sent_fits M2 d.akm counter 0 x.inputs.snonce (sent_m2_key_data d.akm d x fte) c h few

-- it has some key data, and with suites 2 and 6 it is short, where management frames are not protected
some_by : (mfp : Bool) (akm : Akm) (name : Option (List ℕ)) → 0 < length (if mfp then rsne_mfp_octets akm name else rsne_octets akm name)
some_by true akm None = omega arith
some_by true akm (Some name) = omega arith
some_by false akm None = omega arith
some_by false akm (Some name) = omega arith

some_more : (xs ys : List ℕ) → 0 < length xs → 0 < length (xs ++ ys)
some_more [] ys some = absurd (omega (arith, some))
some_more (x ∷ xs) ys some = omega arith

pub some-m2 : (akm : Akm) (d : Domain) (x : Derivation) (fte : List ℕ) → 0 < length (sent_m2_key_data akm d x fte)
some-m2 Psk d x fte = some_by (protects d) d.akm None
some-m2 PskSha256 d x fte = some_by (protects d) d.akm None
some-m2 FtPsk d x fte =
    let name : Option (List ℕ) = Some (r1_name x.inputs) in
    some_more (network_rsne d name ++ mde_octets d.mdid) fte (some_more (network_rsne d name) (mde_octets d.mdid) (some_by (protects d) d.akm name))

pub few-m2 : (d : Domain) (x : Derivation) (fte : List ℕ) → d.akm ≢ FtPsk → protects d ≡ false → length (sent_m2_key_data d.akm d x fte) ≤ 65440
few-m2 d x fte other off = let size : length (sent_m2_key_data d.akm d x fte) ≡ 22 = ap length (m2_data_suite d.akm d x fte other off) in omega (arith, size)

abbrev pub m2_message : Domain → Node → Node → Derivation → ℕ → List ℕ → KeyMessage
m2_message d n p x counter fte = key_message d n p M2 (with_mic d.akm x.ptk.kck (m2_fields d x counter fte)) (m2_frame d x counter fte)

-- its Secure bit is clear
clear_bits : (akm : Akm) → has_bit (0x0108 + descriptor_version akm) 9 ≡ false
clear_bits Psk = refl
clear_bits PskSha256 = refl
clear_bits FtPsk = refl

pub clear-m2 : (d : Domain) (n p : Node) (x : Derivation) (counter : ℕ) (fte : List ℕ) → is_secure (m2_message d n p x counter fte) ≡ false
clear-m2 d n p x counter fte = clear_bits d.akm

pub reads-m2 : (d : Domain) (n p : Node) (x : Derivation) (counter : ℕ) (fte : List ℕ) → HasMic d.akm → IsAddress (address d n) → IsAddress (address d p) → counter < 2 ^ 64 → length x.inputs.snonce ≡ 32
    → length (sent_m2_key_data d.akm d x fte) ≤ 65440 → Reads d.akm (in_data d n p (m2_frame d x counter fte)) (Keyed (m2_message d n p x counter fte))
reads-m2 d n p x counter fte has l k c h few =
    reads-sealed d n p M2 x.ptk.kck (m2_fields d x counter fte) has l k (fits-m2 d x counter fte c h few) (message_sent M2 d.akm counter 0 x.inputs.snonce (sent_m2_key_data d.akm d x fte) (some-m2 d.akm d x fte))

-- M3, before its MIC is put in
abbrev pub m3_fields : Domain → Node → Derivation → ℕ → GroupKey → ℕ → KeyFields
m3_fields d n x counter g rsc = sent_fields M3 d.akm counter x.inputs.anonce rsc (wrapped x.ptk.kek (m3_key_data d n x (gtk_news g rsc)))

-- its wrapped key data fits the frame
abbrev pub FewWrapped : Domain → Node → Derivation → News → Type 0
FewWrapped d n x keys = length (wrapped x.ptk.kek (m3_key_data d n x keys)) ≤ 65440

pub few-m3 : (d : Domain) (n : Node) (x : Derivation) (keys : News) → d.akm ≢ FtPsk → protects d ≡ false → keys.igtk ≡ None → AreOctets x.ptk.kek → IsGroupKey keys.gtk → FewWrapped d n x keys
few-m3 d n x keys other off none octets is = subst (λ (v : List ℕ). length (wrapped x.ptk.kek v) ≤ 65440) (sym (m3_data_suite d.akm d n x keys other off none)) (few_wrapped d x.ptk.kek keys.gtk octets is)

pub wraps-m3 : (d : Domain) (n : Node) (x : Derivation) (keys : News) → d.akm ≢ FtPsk → protects d ≡ false → keys.igtk ≡ None → IsGroupKey keys.gtk → Wraps x.ptk.kek (plain_key_data d keys.gtk) (wrapped x.ptk.kek (m3_key_data d n x keys))
wraps-m3 d n x keys other off none is = subst (λ (v : List ℕ). Wraps x.ptk.kek (plain_key_data d keys.gtk) (wrapped x.ptk.kek v)) (sym (m3_data_suite d.akm d n x keys other off none)) (wrapped_is d x.ptk.kek keys.gtk is)

pub fits-m3 : (d : Domain) (n : Node) (x : Derivation) (counter : ℕ) (g : GroupKey) (rsc : ℕ) → counter < 2 ^ 64 → length x.inputs.anonce ≡ 32 → FewWrapped d n x (gtk_news g rsc) → FitsKeyFrame (m3_fields d n x counter g rsc)
fits-m3 d n x counter g rsc c h few = sent_fits M3 d.akm counter rsc x.inputs.anonce (wrapped x.ptk.kek (m3_key_data d n x (gtk_news g rsc))) c h few

abbrev pub m3_message : Domain → Node → Node → Derivation → ℕ → GroupKey → ℕ → KeyMessage
m3_message d n p x counter g rsc = key_message d n p M3 (with_mic d.akm x.ptk.kck (m3_fields d n x counter g rsc)) (m3_frame d n x counter (gtk_news g rsc))

pub reads-m3 : (d : Domain) (n p : Node) (x : Derivation) (counter : ℕ) (g : GroupKey) (rsc : ℕ) → HasMic d.akm → IsAddress (address d n) → IsAddress (address d p) → counter < 2 ^ 64 → length x.inputs.anonce ≡ 32 → FewWrapped d n x (gtk_news g rsc)
    → Reads d.akm (in_data d n p (m3_frame d n x counter (gtk_news g rsc))) (Keyed (m3_message d n p x counter g rsc))
reads-m3 d n p x counter g rsc has l k c h few =
    reads-sealed d n p M3 x.ptk.kck (m3_fields d n x counter g rsc) has l k (fits-m3 d n x counter g rsc c h few) (message_sent M3 d.akm counter rsc x.inputs.anonce (wrapped x.ptk.kek (m3_key_data d n x (gtk_news g rsc))) tt)

-- M4, before its MIC is put in: its nonce is zeros whatever is given
abbrev pub m4_fields : Domain → ℕ → KeyFields
m4_fields d counter = sent_fields M4 d.akm counter [] 0 []

pub fits-m4 : (d : Domain) (counter : ℕ) → counter < 2 ^ 64 → FitsKeyFrame (m4_fields d counter)
fits-m4 d counter c = sent_fits M4 d.akm counter 0 (replicate 32 0) [] c refl (omega arith)

abbrev pub m4_message : Domain → Node → Node → Derivation → ℕ → KeyMessage
m4_message d n p x counter = key_message d n p M4 (with_mic d.akm x.ptk.kck (m4_fields d counter)) (m4_frame d x counter)

pub reads-m4 : (d : Domain) (n p : Node) (x : Derivation) (counter : ℕ) → HasMic d.akm → IsAddress (address d n) → IsAddress (address d p) → counter < 2 ^ 64
    → Reads d.akm (in_data d n p (m4_frame d x counter)) (Keyed (m4_message d n p x counter))
reads-m4 d n p x counter has l k c =
    reads-sealed d n p M4 x.ptk.kck (m4_fields d counter) has l k (fits-m4 d counter c) (message_sent M4 d.akm counter 0 [] [] refl)

-- G1, before its MIC is put in: its nonce is zeros whatever is given
abbrev pub g1_fields : Domain → Derivation → ℕ → GroupKey → ℕ → KeyFields
g1_fields d x counter g rsc = sent_fields G1 d.akm counter [] rsc (wrapped x.ptk.kek (g1_key_data (gtk_news g rsc)))

pub fits-g1 : (d : Domain) (x : Derivation) (counter : ℕ) (g : GroupKey) (rsc : ℕ) → counter < 2 ^ 64 → AreOctets x.ptk.kek → IsGroupKey g → FitsKeyFrame (g1_fields d x counter g rsc)
fits-g1 d x counter g rsc c octets is = sent_fits G1 d.akm counter rsc (replicate 32 0) (wrapped x.ptk.kek (g1_key_data (gtk_news g rsc))) c refl (few_wrapped_g1 x.ptk.kek g octets is)

abbrev pub g1_message : Domain → Node → Node → Derivation → ℕ → GroupKey → ℕ → KeyMessage
g1_message d n p x counter g rsc = key_message d n p G1 (with_mic d.akm x.ptk.kck (g1_fields d x counter g rsc)) (g1_frame d x counter (gtk_news g rsc))

pub reads-g1 : (d : Domain) (n p : Node) (x : Derivation) (counter : ℕ) (g : GroupKey) (rsc : ℕ) → HasMic d.akm → IsAddress (address d n) → IsAddress (address d p) → counter < 2 ^ 64 → AreOctets x.ptk.kek → IsGroupKey g
    → Reads d.akm (in_data d n p (g1_frame d x counter (gtk_news g rsc))) (Keyed (g1_message d n p x counter g rsc))
reads-g1 d n p x counter g rsc has l k c octets is =
    reads-sealed d n p G1 x.ptk.kck (g1_fields d x counter g rsc) has l k (fits-g1 d x counter g rsc c octets is) (message_sent G1 d.akm counter rsc [] (wrapped x.ptk.kek (g1_key_data (gtk_news g rsc))) tt)

-- G2, before its MIC is put in
abbrev pub g2_fields : Domain → ℕ → KeyFields
g2_fields d counter = sent_fields G2 d.akm counter [] 0 []

pub fits-g2 : (d : Domain) (counter : ℕ) → counter < 2 ^ 64 → FitsKeyFrame (g2_fields d counter)
fits-g2 d counter c = sent_fits G2 d.akm counter 0 (replicate 32 0) [] c refl (omega arith)

abbrev pub g2_message : Domain → Node → Node → Derivation → ℕ → KeyMessage
g2_message d n p x counter = key_message d n p G2 (with_mic d.akm x.ptk.kck (g2_fields d counter)) (g2_frame d x counter)

pub reads-g2 : (d : Domain) (n p : Node) (x : Derivation) (counter : ℕ) → HasMic d.akm → IsAddress (address d n) → IsAddress (address d p) → counter < 2 ^ 64
    → Reads d.akm (in_data d n p (g2_frame d x counter)) (Keyed (g2_message d n p x counter))
reads-g2 d n p x counter has l k c =
    reads-sealed d n p G2 x.ptk.kck (g2_fields d counter) has l k (fits-g2 d counter c) (message_sent G2 d.akm counter 0 [] [] refl)

-- its MIC is that of its octets
pub mic-sealed : (akm : Akm) (kck : List ℕ) (f : KeyFields) → HasMic akm → FitsKeyFrame f → (with_mic akm kck f).mic ≡ mic akm kck (sealed akm kck (frame_octets f))
mic-sealed akm kck f has fits = sym (sealed_mic akm kck (frame_octets f) (omega (arith, length-frame f fits)))

-- ---- the replay counter of octets is that of the message that they read as
pub reads-counter : (akm : Akm) (octets : List ℕ) (k : KeyMessage) → Reads akm octets (Keyed k) → replay_counter octets ≡ k.fields.counter
reads-counter akm octets k reads =
    let body : reads.body ≡ drop (data_header_length octets + 8) octets = cc (reads.frame.spelled.0) in
    ap (λ (x : List ℕ). big_endian_at w64 9 x) (sym body) ∙ sym (ap (λ (x : KeyFields). x.counter) reads.spelled.fields)

-- ---- and what is told of the group key is its RSC, six octets of the eight
pub reads-rsc : (akm : Akm) (octets : List ℕ) (k : KeyMessage) → Reads akm octets (Keyed k) → rsc_in octets ≡ from_le_bytes w64 (take 6 k.fields.rsc ++ 0 ∷ 0 ∷ [])
reads-rsc akm octets k reads =
    let body : reads.body ≡ drop (data_header_length octets + 8) octets = cc (reads.frame.spelled.0) in
    let place : data_header_length octets + 8 + 65 ≡ data_header_length octets + 73 = omega arith in
    let six : take 6 k.fields.rsc ≡ take 6 (drop (data_header_length octets + 73) octets) =
    ap (λ (x : KeyFields). take 6 x.rsc) reads.spelled.fields ∙ take-take 6 8 (drop 65 reads.body) (omega arith)
    ∙ ap (λ (x : List ℕ). take 6 (drop 65 x)) body ∙ ap (λ (x : List ℕ). take 6 x) (drop-drop 65 (data_header_length octets + 8) octets)
    ∙ ap (λ (x : ℕ). take 6 (drop x octets)) place in
    ap (λ (x : List ℕ). from_le_bytes w64 (x ++ 0 ∷ 0 ∷ [])) (sym six)

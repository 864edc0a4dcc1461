-- Management frames of a network with suite 4 as they are sent read as what they carry.
use Rattle.std.proofs.Common.{◌≡◌, ℕ, ◌<◌, ◌^◌, ◌%◌, List, length, Some, None, refl, ap, arith}
use Rattle.air_frame.proofs.SentFrames.{assoc_req_sent, assoc_resp_sent, ft_req_sent, ft_resp_sent, re_req_sent, re_resp_sent}
use Rattle.air_frame.specs.Fields.{assoc_req, assoc_resp, ft_req, ft_resp, re_req, re_resp}
use Rattle.air_frame.specs.Sent.{IsAddress, management_header_octets, assoc_req_octets, assoc_resp_octets, ft_req_octets, ft_resp_octets, re_req_octets, re_resp_octets, sent_header}
use Rattle.domain_base.specs.Octets.{AreOctets}
use Rattle.domain_base.specs.declared.names.Akm.TheVariants.{FtPsk}
use Rattle.domain_base.specs.declared.names.Node.{Node}
use Rattle.domain_rules.proofs.CarriedKey.{IsGroupKey}
use Rattle.domain_rules.proofs.SentReads.{assoc_req_body, assoc_resp_body}
use Rattle.domain_rules.specs.FastTransition.{r1_name, root_name, no_nonce, assoc_fte, plain_fte}
use Rattle.domain_rules.specs.Frames.{aid, wrapped, assoc_req_elements, assoc_resp_elements}
use Rattle.domain_rules.specs.Network.{address, r0kh_id, Root}
use Rattle.domain_rules.specs.Reading.{Management, Managed, Reads}
use Rattle.domain_rules.specs.TransitionFrames.{ft_req_elements, ft_resp_elements, counted_fte, re_req_input, re_req_elements, sent_gtk, re_resp_fte, re_resp_input, re_resp_elements, sealed_fte}
use Rattle.domain_rules.specs.GroupKeys.{gtk_news}
use Rattle.key_hierarchy.proofs.Lengths.{length-pmk_r0_name}
use Rattle.key_hierarchy.specs.declared.inputs.Inputs.{Inputs}
use Rattle.key_wrap.proofs.UniqueLemmas.{length-Wraps}
use Rattle.key_wrap.specs.KeyWrap.{Wraps}
use Rattle.rsn_elements.specs.Elements.{ElementFields, SpellsElements}
use Rattle.rsn_elements.specs.Pieces.{FitsWrappedGtk}
use Rattle.rsn_elements.specs.Transition.{FteFields}
use Rattle.rsn_elements.specs.declared.framing.Within.TheVariants.{Body}
use Rattle.run_journal.specs.Acts.{GroupKey, Derivation}
use Rattle.run_journal.specs.declared.acts.Kind.TheVariants as kind
use Rattle.run_journal.specs.declared.domain.Domain.{Domain}
use Rattle.example_domains.proofs.Elements.{told, requested, responded, three_spelled, four_spelled, five_spelled, request_spelled, response_spelled, IsHolder, fits-plain, fits-asking, fits-sealed, fits-carrying, length-cmac}
use Rattle.example_domains.proofs.MobileData.{length-r1_name}
use Rattle.example_domains.proofs.RoamingActs.{mobile}

-- ---- a group key under key wrap

pub wraps_gtk : (kek : List ℕ) (g : GroupKey) → IsGroupKey g → Wraps kek g.key (wrapped kek g.key)
wraps_gtk kek g is = record { whole_blocks = ap (λ (n : ℕ). n % 8) is.size; two_blocks = omega (arith, is.size); are_octets = is.octets; wrapped = refl }

pub length-wrapped_gtk : (kek : List ℕ) (g : GroupKey) → AreOctets kek → IsGroupKey g → length (wrapped kek g.key) ≡ 24
length-wrapped_gtk kek g octets is = omega (arith, (length-Wraps kek g.key (wrapped kek g.key) octets (wraps_gtk kek g is)).0, is.size)

pub fits_gtk : (kek : List ℕ) (g : GroupKey) → IsGroupKey g → FitsWrappedGtk (sent_gtk kek g 0)
fits_gtk kek g is = record { information = omega (arith, is.low); rsc = refl }

-- ---- management frames of any network, read by what their elements say

module _ (d : Domain) where
  pub reads-request_of : (n p : Node) (e : ElementFields) → IsAddress (address d n) → IsAddress (address d p) → SpellsElements Body (assoc_req_elements d) e
      → Reads FtPsk (assoc_req_octets (address d p) (address d n) (address d p) (assoc_req_elements d)) (Managed (assoc_req_body d n p) e)
  reads-request_of n p e l m says = (
    record {
      frame = assoc_req (assoc_req_body d n p).header 0x11 10 (assoc_req_elements d);
      spelled = assoc_req_sent (address d p) (address d n) (address d p) m l m (assoc_req_elements d);
      is = refl;
    },
    says,
  )

  pub reads-response_of : (n p : Node) (e : ElementFields) → IsAddress (address d n) → IsAddress (address d p) → aid p < 2 ^ 16 → SpellsElements Body (assoc_resp_elements d n) e
      → Reads FtPsk (assoc_resp_octets (address d p) (address d n) (address d n) 0 (aid p) (assoc_resp_elements d n)) (Managed (assoc_resp_body d n p 0 (assoc_resp_elements d n)) e)
  reads-response_of n p e l m low says = (
    record {
      frame = assoc_resp (assoc_resp_body d n p 0 (assoc_resp_elements d n)).header 0x11 0 (aid p) (assoc_resp_elements d n);
      spelled = assoc_resp_sent (address d p) (address d n) (address d n) m l l 0 (aid p) (assoc_resp_elements d n) (omega arith) low;
      is = refl;
    },
    says,
  )

  -- authentication
  abbrev pub ft_req_of : Node → Node → Root → List ℕ → Management
  ft_req_of n p r snonce = record {
    kind = kind.FtReq;
    header = sent_header (management_header_octets 11 (address d p) (address d n) (address d p)) (address d p) (address d n) (address d p);
    status = 0;
    elements = ft_req_elements d n r snonce;
  }

  pub reads-ft_req_of : (n p : Node) (r : Root) (snonce : List ℕ) (e : ElementFields) → IsAddress (address d n) → IsAddress (address d p) → SpellsElements Body (ft_req_elements d n r snonce) e
      → Reads FtPsk (ft_req_octets (address d p) (address d n) (address d p) (ft_req_elements d n r snonce)) (Managed (ft_req_of n p r snonce) e)
  reads-ft_req_of n p r snonce e l m says = (
    record {
      frame = ft_req (ft_req_of n p r snonce).header 0 (ft_req_elements d n r snonce);
      spelled = ft_req_sent (address d p) (address d n) (address d p) m l m (ft_req_elements d n r snonce);
      is = refl;
    },
    says,
  )

  abbrev pub ft_resp_of : Node → Node → List ℕ → Inputs → Management
  ft_resp_of n p name i = record {
    kind = kind.FtResp;
    header = sent_header (management_header_octets 11 (address d p) (address d n) (address d n)) (address d p) (address d n) (address d n);
    status = 0;
    elements = ft_resp_elements d n name i;
  }

  pub reads-ft_resp_of : (n p : Node) (name : List ℕ) (i : Inputs) (e : ElementFields) → IsAddress (address d n) → IsAddress (address d p) → SpellsElements Body (ft_resp_elements d n name i) e
      → Reads FtPsk (ft_resp_octets (address d p) (address d n) (address d n) 0 (ft_resp_elements d n name i)) (Managed (ft_resp_of n p name i) e)
  reads-ft_resp_of n p name i e l m says = (
    record {
      frame = ft_resp (ft_resp_of n p name i).header 0 (ft_resp_elements d n name i);
      spelled = ft_resp_sent (address d p) (address d n) (address d n) m l l 0 (ft_resp_elements d n name i) (omega arith);
      is = refl;
    },
    says,
  )

  -- reassociation
  abbrev pub re_req_of : Node → Node → Derivation → Management
  re_req_of n p x = record {
    kind = kind.ReReq;
    header = sent_header (management_header_octets 2 (address d p) (address d n) (address d p)) (address d p) (address d n) (address d p);
    status = 0;
    elements = re_req_elements d n p x;
  }

  pub reads-re_req_of : (n p q : Node) (x : Derivation) (e : ElementFields) → IsAddress (address d n) → IsAddress (address d p) → IsAddress (address d q) → SpellsElements Body (re_req_elements d n p x) e
      → Reads FtPsk (re_req_octets (address d p) (address d n) (address d p) (address d q) (re_req_elements d n p x)) (Managed (re_req_of n p x) e)
  reads-re_req_of n p q x e l m o says = (
    record {
      frame = re_req (re_req_of n p x).header 0x11 10 (address d q) (re_req_elements d n p x);
      spelled = re_req_sent (address d p) (address d n) (address d p) m l m (address d q) (re_req_elements d n p x) o;
      is = refl;
    },
    says,
  )

  abbrev pub re_resp_of : Node → Node → Derivation → FteFields → Management
  re_resp_of n p x f = record {
    kind = kind.ReResp;
    header = sent_header (management_header_octets 3 (address d p) (address d n) (address d n)) (address d p) (address d n) (address d n);
    status = 0;
    elements = re_resp_elements d n p (r1_name x.inputs) x f;
  }

  pub reads-re_resp_of : (n p : Node) (x : Derivation) (f : FteFields) (e : ElementFields) → IsAddress (address d n) → IsAddress (address d p) → aid p < 2 ^ 16 → SpellsElements Body (re_resp_elements d n p (r1_name x.inputs) x f) e
      → Reads FtPsk (re_resp_octets (address d p) (address d n) (address d n) 0 (aid p) (re_resp_elements d n p (r1_name x.inputs) x f)) (Managed (re_resp_of n p x f) e)
  reads-re_resp_of n p x f e l m low says = (
    record {
      frame = re_resp (re_resp_of n p x f).header 0x11 0 (aid p) (re_resp_elements d n p (r1_name x.inputs) x f);
      spelled = re_resp_sent (address d p) (address d n) (address d n) m l l 0 (aid p) (re_resp_elements d n p (r1_name x.inputs) x f) (omega arith) low;
      is = refl;
    },
    says,
  )

-- ---- those of a network that does not protect management frames

module _ (c : Domain) where
  abbrev d : Domain
  d = mobile c

  pub reads-request : (n p : Node) → IsAddress (address d n) → IsAddress (address d p) → length c.mdid ≡ 2
      → Reads FtPsk (assoc_req_octets (address d p) (address d n) (address d p) (assoc_req_elements d)) (Managed (assoc_req_body d n p) (requested c.mdid))
  reads-request n p l m two = reads-request_of d n p (requested c.mdid) l m (request_spelled c.ssid c.mdid two)

  pub reads-response : (n p : Node) → IsAddress (address d n) → IsAddress (address d p) → aid p < 2 ^ 16 → length c.mdid ≡ 2 → IsHolder (r0kh_id d n)
      → Reads FtPsk (assoc_resp_octets (address d p) (address d n) (address d n) 0 (aid p) (assoc_resp_elements d n)) (Managed (assoc_resp_body d n p 0 (assoc_resp_elements d n)) (responded c.mdid (assoc_fte d n)))
  reads-response n p l m low two holder =
      reads-response_of d n p (responded c.mdid (assoc_fte d n)) l m low (response_spelled c.mdid (assoc_fte d n) two (fits-plain no_nonce no_nonce (address d n) (r0kh_id d n) refl refl l holder))

  abbrev pub ft_req_body : Node → Node → Root → List ℕ → Management
  ft_req_body n p r snonce = ft_req_of d n p r snonce

  pub reads-ft_req : (n p : Node) (r : Root) (snonce : List ℕ) → IsAddress (address d n) → IsAddress (address d p) → length c.mdid ≡ 2 → length snonce ≡ 32 → IsHolder r.r0kh_id
      → Reads FtPsk (ft_req_octets (address d p) (address d n) (address d p) (ft_req_elements d n r snonce)) (Managed (ft_req_body n p r snonce) (told (root_name d r n) c.mdid (plain_fte no_nonce snonce None r.r0kh_id)))
  reads-ft_req n p r snonce l m two size holder =
      reads-ft_req_of d n p r snonce (told (root_name d r n) c.mdid (plain_fte no_nonce snonce None r.r0kh_id)) l m
      (three_spelled Body (root_name d r n) c.mdid (plain_fte no_nonce snonce None r.r0kh_id) (length-pmk_r0_name _) two (fits-asking snonce r.r0kh_id size holder))

  abbrev pub ft_resp_body : Node → Node → List ℕ → Inputs → Management
  ft_resp_body n p name i = ft_resp_of d n p name i

  pub reads-ft_resp : (n p : Node) (name : List ℕ) (i : Inputs) → IsAddress (address d n) → IsAddress (address d p) → length c.mdid ≡ 2 → length name ≡ 16 → length i.anonce ≡ 32 → length i.snonce ≡ 32 → IsHolder i.r0kh_id
      → Reads FtPsk (ft_resp_octets (address d p) (address d n) (address d n) 0 (ft_resp_elements d n name i)) (Managed (ft_resp_body n p name i) (told name c.mdid (plain_fte i.anonce i.snonce (Some (address d n)) i.r0kh_id)))
  reads-ft_resp n p name i l m two size a s holder =
      reads-ft_resp_of d n p name i (told name c.mdid (plain_fte i.anonce i.snonce (Some (address d n)) i.r0kh_id)) l m
      (three_spelled Body name c.mdid (plain_fte i.anonce i.snonce (Some (address d n)) i.r0kh_id) size two (fits-plain i.anonce i.snonce (address d n) i.r0kh_id a s l holder))

  abbrev pub re_req_body : Node → Node → Derivation → Management
  re_req_body n p x = re_req_of d n p x

  -- its FTE
  abbrev pub re_req_sealed : Node → Node → Derivation → FteFields
  re_req_sealed n p x = sealed_fte x.ptk.kck (re_req_input d n p x) (counted_fte (address d p) x.inputs None)

  pub reads-re_req : (n p q : Node) (x : Derivation) → IsAddress (address d n) → IsAddress (address d p) → IsAddress (address d q) → length c.mdid ≡ 2 → length x.inputs.anonce ≡ 32 → length x.inputs.snonce ≡ 32 → IsHolder x.inputs.r0kh_id
      → Reads FtPsk (re_req_octets (address d p) (address d n) (address d p) (address d q) (re_req_elements d n p x)) (Managed (re_req_body n p x) (told (r1_name x.inputs) c.mdid (re_req_sealed n p x)))
  reads-re_req n p q x l m o two a s holder =
      reads-re_req_of d n p q x (told (r1_name x.inputs) c.mdid (re_req_sealed n p x)) l m o
      (five_spelled c.ssid (r1_name x.inputs) c.mdid (re_req_sealed n p x) (length-r1_name x.inputs) two (fits-sealed _ (address d p) x.inputs (length-cmac x.ptk.kck (re_req_input d n p x)) a s m holder))

  abbrev pub re_resp_body : Node → Node → Derivation → GroupKey → Management
  re_resp_body n p x g = re_resp_of d n p x (re_resp_fte d n x (gtk_news g 0))

  abbrev pub re_resp_sealed : Node → Node → Derivation → GroupKey → FteFields
  re_resp_sealed n p x g = sealed_fte x.ptk.kck (re_resp_input d n p (r1_name x.inputs) x (re_resp_fte d n x (gtk_news g 0))) (re_resp_fte d n x (gtk_news g 0))

  pub reads-re_resp : (n p : Node) (x : Derivation) (g : GroupKey) → IsAddress (address d n) → IsAddress (address d p) → aid p < 2 ^ 16 → length c.mdid ≡ 2 → length x.inputs.anonce ≡ 32 → length x.inputs.snonce ≡ 32 → IsHolder x.inputs.r0kh_id → IsGroupKey g
      → Reads FtPsk (re_resp_octets (address d p) (address d n) (address d n) 0 (aid p) (re_resp_elements d n p (r1_name x.inputs) x (re_resp_fte d n x (gtk_news g 0)))) (Managed (re_resp_body n p x g) (told (r1_name x.inputs) c.mdid (re_resp_sealed n p x g)))
  reads-re_resp n p x g l m low two a s holder is =
      reads-re_resp_of d n p x (re_resp_fte d n x (gtk_news g 0)) (told (r1_name x.inputs) c.mdid (re_resp_sealed n p x g)) l m low
      (four_spelled (r1_name x.inputs) c.mdid (re_resp_sealed n p x g) (length-r1_name x.inputs) two
      (fits-carrying _ (address d n) x.inputs (sent_gtk x.ptk.kek g 0) None (length-cmac x.ptk.kck (re_resp_input d n p (r1_name x.inputs) x (re_resp_fte d n x (gtk_news g 0)))) a s l (fits_gtk x.ptk.kek g is) tt holder))

-- How long keys, their parts and their names are.
use Rattle.std.proofs.Common.{◌≡◌, ℕ, ◌+◌, ◌*◌, ◌≤◌, List, length, take, drop, refl, arith, length-drop}
use Rattle.std.proofs.lemmas.Grind.{div_ceil_times}
use Rattle.std.proofs.lemmas.List.{length-take-le}
use Rattle.std.specs.Int.{div_ceil}
use Rattle.std.specs.List.{flat_map, range_with_len}
use Rattle.sha2.specs.Sha256.{sha256, digest_bytes}
use Rattle.domain_base.specs.declared.names.Akm.{Akm}
use Rattle.domain_base.specs.declared.names.Akm.TheVariants.{Psk, PskSha256, FtPsk}
use Rattle.domain_base.specs.declared.names.Mac.{Mac}
use Rattle.domain_base.specs.Places.{part}
use Rattle.mac_prf.specs.Prf.{prf, prf_block, kdf, kdf_block}
use Rattle.mac_prf.proofs.Joined.{length-joined}
use Rattle.mac_prf.proofs.Sizes.{length-hmac_sha1, length-hmac_sha256}
use Rattle.key_hierarchy.specs.declared.fast_transition.PmkR0.{PmkR0}
use Rattle.key_hierarchy.specs.declared.fast_transition.PmkR1.{PmkR1}
use Rattle.key_hierarchy.specs.declared.inputs.Inputs.{Inputs}
use Rattle.key_hierarchy.specs.declared.inputs.Ptk.{Ptk}
use Rattle.key_hierarchy.specs.Parts.{split_ptk}
use Rattle.key_hierarchy.specs.FastTransition.{r0_key_data, pmk_r0, pmk_r0_name, pmk_r1, pmk_r1_name, ft_ptk, ptk_name}
use Rattle.key_hierarchy.specs.Keys.{expansion, pairwise_ptk, ptk_by, ptk}

pub length-prf : (key label context : List ℕ) (n : ℕ) → length (prf key label context n) ≡ n
unfolding prf
length-prf key label context n =
    let blocks = flat_map (prf_block key label context) (range_with_len 0 (div_ceil n 20)) in
    let long : length blocks ≡ 20 * div_ceil n 20 = length-joined (prf_block key label context) 20 (λ i. length-hmac_sha1 _ _) 0 (div_ceil n 20) in
    length-take-le n blocks (omega (arith, long, div_ceil_times n 20 (omega arith)))

pub length-kdf : (key label context : List ℕ) (n : ℕ) → length (kdf key label context n) ≡ n
unfolding kdf
length-kdf key label context n =
    let blocks = flat_map (kdf_block key label context (8 * n)) (range_with_len 1 (div_ceil n 32)) in
    let long : length blocks ≡ 32 * div_ceil n 32 = length-joined (kdf_block key label context (8 * n)) 32 (λ i. length-hmac_sha256 _ _) 1 (div_ceil n 32) in
    length-take-le n blocks (omega (arith, long, div_ceil_times n 32 (omega arith)))

length-part : (at n : ℕ) (octets : List ℕ) → at + n ≤ length octets → length (part at n octets) ≡ n
length-part at n octets h = length-take-le n (drop at octets) (omega (arith, length-drop at octets))

-- each part has 16 octets
pub record IsWhole (k : Ptk) : Type 0 where
  pub kck : length k.kck ≡ 16
  pub kek : length k.kek ≡ 16
  pub tk : length k.tk ≡ 16

split_ptk-whole : (octets : List ℕ) → length octets ≡ 48 → IsWhole (split_ptk octets)
split_ptk-whole octets h = record {
  kck = length-part 0 16 octets (omega arith);
  kek = length-part 16 16 octets (omega arith);
  tk = length-part 32 16 octets (omega arith);
}

length-expansion : (akm : Akm) (key label context : List ℕ) (n : ℕ) → length (expansion akm key label context n) ≡ n
length-expansion Psk = length-prf
length-expansion PskSha256 = length-kdf
length-expansion FtPsk = length-kdf

pub pairwise_ptk-whole : (akm : Akm) (psk : List ℕ) (aa spa : Mac) (anonce snonce : List ℕ) → IsWhole (pairwise_ptk akm psk aa spa anonce snonce)
unfolding pairwise_ptk
pairwise_ptk-whole akm psk aa spa anonce snonce = split_ptk-whole _ (length-expansion akm _ _ _ 48)

pub ft_ptk-whole : (r1 : PmkR1) (snonce anonce : List ℕ) (bssid sta : Mac) → IsWhole (ft_ptk r1 snonce anonce bssid sta)
unfolding ft_ptk
ft_ptk-whole r1 snonce anonce bssid sta = split_ptk-whole _ (length-kdf _ _ _ 48)

ptk_by-whole : (akm : Akm) (i : Inputs) → IsWhole (ptk_by akm i)
ptk_by-whole Psk i = pairwise_ptk-whole _ _ _ _ _ _
ptk_by-whole PskSha256 i = pairwise_ptk-whole _ _ _ _ _ _
ptk_by-whole FtPsk i = ft_ptk-whole _ _ _ _ _

pub ptk-whole : (i : Inputs) → IsWhole (ptk i)
unfolding ptk
ptk-whole i = ptk_by-whole i.akm i

pub length-kck : (i : Inputs) → length (ptk i).kck ≡ 16
length-kck i = (ptk-whole i).kck

pub length-kek : (i : Inputs) → length (ptk i).kek ≡ 16
length-kek i = (ptk-whole i).kek

pub length-tk : (i : Inputs) → length (ptk i).tk ≡ 16
length-tk i = (ptk-whole i).tk

length-r0_key_data : (psk ssid mdid r0kh_id : List ℕ) (sta : Mac) → length (r0_key_data psk ssid mdid r0kh_id sta) ≡ 48
unfolding r0_key_data
length-r0_key_data psk ssid mdid r0kh_id sta = length-kdf _ _ _ 48

pub length-key-pmk_r0 : (psk ssid mdid r0kh_id : List ℕ) (sta : Mac) → length (pmk_r0 psk ssid mdid r0kh_id sta).key ≡ 32
unfolding pmk_r0
length-key-pmk_r0 psk ssid mdid r0kh_id sta =
    length-part 0 32 (r0_key_data psk ssid mdid r0kh_id sta) (omega (arith, length-r0_key_data psk ssid mdid r0kh_id sta))

pub length-salt-pmk_r0 : (psk ssid mdid r0kh_id : List ℕ) (sta : Mac) → length (pmk_r0 psk ssid mdid r0kh_id sta).salt ≡ 16
unfolding pmk_r0
length-salt-pmk_r0 psk ssid mdid r0kh_id sta =
    length-part 32 16 (r0_key_data psk ssid mdid r0kh_id sta) (omega (arith, length-r0_key_data psk ssid mdid r0kh_id sta))

length-truncated : (m : List ℕ) → length (take 16 (sha256 m)) ≡ 16
unfolding sha256 digest_bytes
length-truncated m = refl

pub length-pmk_r0_name : (r0 : PmkR0) → length (pmk_r0_name r0) ≡ 16
unfolding pmk_r0_name
length-pmk_r0_name r0 = length-truncated _

pub length-pmk_r1_name : (r0_name : List ℕ) (r1kh sta : Mac) → length (pmk_r1_name r0_name r1kh sta) ≡ 16
unfolding pmk_r1_name
length-pmk_r1_name r0_name r1kh sta = length-truncated _

pub length-key-pmk_r1 : (r0 : PmkR0) (r1kh sta : Mac) → length (pmk_r1 r0 r1kh sta).key ≡ 32
unfolding pmk_r1
length-key-pmk_r1 r0 r1kh sta = length-kdf _ _ _ 32

pub length-ptk_name : (r1 : PmkR1) (snonce anonce : List ℕ) (bssid sta : Mac) → length (ptk_name r1 snonce anonce bssid sta) ≡ 16
unfolding ptk_name
length-ptk_name r1 snonce anonce bssid sta = length-truncated _

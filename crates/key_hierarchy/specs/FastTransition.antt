-- The FT key hierarchy. S0KH-ID and S1KH-ID are the station's address (IEEE Std 802.11-2020, 12.7.1.6).
use Rattle.std.specs.Prelude.{ℕ, List, ◌∷◌, ◌++◌, length, take, codes}
use Rattle.sha2.specs.Sha256.{sha256}
use Rattle.domain_base.specs.declared.names.Mac.{Mac}
use Rattle.domain_base.specs.Places.{part}
use Rattle.mac_prf.specs.Prf.{kdf}
use Rattle.key_hierarchy.specs.declared.fast_transition.PmkR0.{PmkR0}
use Rattle.key_hierarchy.specs.declared.fast_transition.PmkR1.{PmkR1}
use Rattle.key_hierarchy.specs.declared.inputs.Ptk.{Ptk}
use Rattle.key_hierarchy.specs.Parts.{split_ptk}

-- SSIDlength || SSID || MDID || R0KHlength || R0KH-ID || S0KH-ID, each length as one octet (12.7.1.6.3)
abbrev pub r0_context : List ℕ → List ℕ → List ℕ → Mac → List ℕ
r0_context ssid mdid r0kh_id sta =
    length ssid ∷ ssid ++ mdid ++ length r0kh_id ∷ r0kh_id ++ sta.0

-- R0-Key-Data = KDF-Hash-384(PSK, "FT-R0", context) (12.7.1.6.3)
unfoldable pub r0_key_data : List ℕ → List ℕ → List ℕ → List ℕ → Mac → List ℕ
r0_key_data psk ssid mdid r0kh_id sta = kdf psk (codes "FT-R0") (r0_context ssid mdid r0kh_id sta) 48

-- PMK-R0 = L(R0-Key-Data, 0, 256) and PMK-R0Name-Salt = L(R0-Key-Data, 256, 128) (12.7.1.6.3)
unfoldable pub pmk_r0 : List ℕ → List ℕ → List ℕ → List ℕ → Mac → PmkR0
pmk_r0 psk ssid mdid r0kh_id sta =
    let octets = r0_key_data psk ssid mdid r0kh_id sta in
    record { key = part 0 32 octets; salt = part 32 16 octets }

-- PMKR0Name = Truncate-128(SHA-256("FT-R0N" || PMK-R0Name-Salt)) (12.7.1.6.3)
unfoldable pub pmk_r0_name : PmkR0 → List ℕ
pmk_r0_name r0 = take 16 (sha256 (codes "FT-R0N" ++ r0.salt))

-- R1KH-ID || S1KH-ID (12.7.1.6.4)
abbrev pub r1_context : Mac → Mac → List ℕ
r1_context r1kh sta = r1kh.0 ++ sta.0

-- PMKR1Name = Truncate-128(SHA-256("FT-R1N" || PMKR0Name || context)) (12.7.1.6.4)
unfoldable pub pmk_r1_name : List ℕ → Mac → Mac → List ℕ
pmk_r1_name r0_name r1kh sta = take 16 (sha256 (codes "FT-R1N" ++ r0_name ++ r1_context r1kh sta))

-- PMK-R1 = KDF-Hash-256(PMK-R0, "FT-R1", context), with its name, by PMK-R0 and PMKR0Name (12.7.1.6.4)
abbrev pub pmk_r1_of : List ℕ → List ℕ → Mac → Mac → PmkR1
pmk_r1_of key r0_name r1kh sta = record {
  key = kdf key (codes "FT-R1") (r1_context r1kh sta) 32;
  name = pmk_r1_name r0_name r1kh sta;
}

-- the PMK-R1 of the first level of the hierarchy (12.7.1.6.4)
unfoldable pub pmk_r1 : PmkR0 → Mac → Mac → PmkR1
pmk_r1 r0 r1kh sta = pmk_r1_of r0.key (pmk_r0_name r0) r1kh sta

-- SNonce || ANonce || BSSID || STA-ADDR (12.7.1.6.5)
abbrev pub ft_context : List ℕ → List ℕ → Mac → Mac → List ℕ
ft_context snonce anonce bssid sta = snonce ++ anonce ++ bssid.0 ++ sta.0

-- PTK = KDF-Hash-384(PMK-R1, "FT-PTK", context) (12.7.1.6.5)
unfoldable pub ft_ptk : PmkR1 → List ℕ → List ℕ → Mac → Mac → Ptk
ft_ptk r1 snonce anonce bssid sta =
    split_ptk (kdf r1.key (codes "FT-PTK") (ft_context snonce anonce bssid sta) 48)

-- PTKName = Truncate-128(SHA-256(PMKR1Name || "FT-PTKN" || context)) (12.7.1.6.5)
unfoldable pub ptk_name : PmkR1 → List ℕ → List ℕ → Mac → Mac → List ℕ
ptk_name r1 snonce anonce bssid sta =
    take 16 (sha256 (r1.name ++ codes "FT-PTKN" ++ ft_context snonce anonce bssid sta))

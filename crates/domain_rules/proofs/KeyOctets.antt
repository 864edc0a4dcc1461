-- Keys are octets, and not larger numbers.
use Rattle.std.proofs.Common.{ℕ, zero, suc, ◌<◌, List, [], ◌∷◌, drop, arith, mod-lt}
use Rattle.std.proofs.lemmas.List.Elements.{All-nil, All-cons, All-append, All-take, All-drop}
use Rattle.std.specs.Int.{byte_at, bytes_high_first}
use Rattle.std.specs.List.{flat_map}
use Rattle.sha1.specs.Sha1 as S1
use Rattle.sha1.specs.Sha1.{sha1}
use Rattle.sha2.specs.Sha256 as S256
use Rattle.sha2.specs.Sha256.{sha256}
use Rattle.domain_base.specs.Octets.{AreOctets}
use Rattle.domain_base.specs.declared.names.Akm.{Akm}
use Rattle.domain_base.specs.declared.names.Akm.TheVariants.{Psk, PskSha256, FtPsk}
use Rattle.mac_prf.specs.Hmac.{hmac}
use Rattle.mac_prf.specs.Prf.{prf, prf_block, kdf, kdf_block}
use Rattle.key_hierarchy.specs.declared.inputs.Inputs.{Inputs}
use Rattle.key_hierarchy.specs.Parts.{split_ptk}
use Rattle.key_hierarchy.specs.FastTransition.{ft_ptk}
use Rattle.key_hierarchy.specs.Keys.{expansion, pairwise_ptk, ptk_by, ptk}

pub byte_below : (k n : ℕ) → byte_at k n < 256
byte_below zero n = mod-lt n (omega arith)
byte_below (suc k) n = mod-lt _ (omega arith)

pub octets-bytes : (k n : ℕ) → AreOctets (bytes_high_first k n)
octets-bytes zero n = All-nil (λ x. x < 256)
octets-bytes (suc k) n = All-cons (λ x. x < 256) (byte_at k n) (bytes_high_first k n) (byte_below k n) (octets-bytes k n)

octets-digest1 : (h : List ℕ) (n : ℕ) → AreOctets (S1.digest_bytes h n)
unfolding S1.digest_bytes
octets-digest1 h zero = All-nil (λ x. x < 256)
octets-digest1 h (suc n) = All-append (λ x. x < 256) (S1.digest_bytes h n) _ (octets-digest1 h n) (octets-bytes 4 _)

octets-digest256 : (h : List ℕ) (n : ℕ) → AreOctets (S256.digest_bytes h n)
unfolding S256.digest_bytes
octets-digest256 h zero = All-nil (λ x. x < 256)
octets-digest256 h (suc n) = All-append (λ x. x < 256) (S256.digest_bytes h n) _ (octets-digest256 h n) (octets-bytes 4 _)

octets-hmac_sha1 : (key text : List ℕ) → AreOctets (hmac sha1 key text)
unfolding hmac sha1
octets-hmac_sha1 key text = octets-digest1 _ 5

octets-hmac_sha256 : (key text : List ℕ) → AreOctets (hmac sha256 key text)
unfolding hmac sha256
octets-hmac_sha256 key text = octets-digest256 _ 8

octets-joined : (f : ℕ → List ℕ) → ((i : ℕ) → AreOctets (f i)) → (is : List ℕ) → AreOctets (flat_map f is)
octets-joined f all [] = All-nil (λ x. x < 256)
octets-joined f all (i ∷ is) = All-append (λ x. x < 256) (f i) (flat_map f is) (all i) (octets-joined f all is)

octets-prf : (key label context : List ℕ) (n : ℕ) → AreOctets (prf key label context n)
unfolding prf
octets-prf key label context n = All-take (λ x. x < 256) n _ (octets-joined (prf_block key label context) (λ i. octets-hmac_sha1 _ _) _)

pub octets-kdf : (key label context : List ℕ) (n : ℕ) → AreOctets (kdf key label context n)
unfolding kdf
octets-kdf key label context n = All-take (λ x. x < 256) n _ (octets-joined (kdf_block key label context _) (λ i. octets-hmac_sha256 _ _) _)

octets-expansion : (akm : Akm) (key label context : List ℕ) (n : ℕ) → AreOctets (expansion akm key label context n)
octets-expansion Psk = octets-prf
octets-expansion PskSha256 = octets-kdf
octets-expansion FtPsk = octets-kdf

octets-split : (octets : List ℕ) → AreOctets octets → AreOctets (split_ptk octets).kek
octets-split octets are = All-take (λ x. x < 256) 16 (drop 16 octets) (All-drop (λ x. x < 256) 16 octets are)

octets-pairwise : (akm : Akm) (i : Inputs) → AreOctets (pairwise_ptk akm i.psk i.aa i.spa i.anonce i.snonce).kek
unfolding pairwise_ptk
octets-pairwise akm i = octets-split _ (octets-expansion akm _ _ _ 48)

octets-by : (akm : Akm) (i : Inputs) → AreOctets (ptk_by akm i).kek
unfolding ft_ptk
octets-by Psk i = octets-pairwise Psk i
octets-by PskSha256 i = octets-pairwise PskSha256 i
octets-by FtPsk i = octets-split _ (octets-kdf _ _ _ 48)

pub octets-kek : (i : Inputs) → AreOctets (ptk i).kek
unfolding ptk
octets-kek i = octets-by i.akm i

-- and temporal keys
octets-split_tk : (octets : List ℕ) → AreOctets octets → AreOctets (split_ptk octets).tk
octets-split_tk octets are = All-take (λ x. x < 256) 16 (drop 32 octets) (All-drop (λ x. x < 256) 32 octets are)

octets-pairwise_tk : (akm : Akm) (i : Inputs) → AreOctets (pairwise_ptk akm i.psk i.aa i.spa i.anonce i.snonce).tk
unfolding pairwise_ptk
octets-pairwise_tk akm i = octets-split_tk _ (octets-expansion akm _ _ _ 48)

octets-by_tk : (akm : Akm) (i : Inputs) → AreOctets (ptk_by akm i).tk
unfolding ft_ptk
octets-by_tk Psk i = octets-pairwise_tk Psk i
octets-by_tk PskSha256 i = octets-pairwise_tk PskSha256 i
octets-by_tk FtPsk i = octets-split_tk _ (octets-kdf _ _ _ 48)

pub octets-tk : (i : Inputs) → AreOctets (ptk i).tk
unfolding ptk
octets-tk i = octets-by_tk i.akm i

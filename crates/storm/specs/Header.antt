-- The domain of a storm (profile).
use Rattle.std.specs.Prelude.{ℕ, zero, suc, ◌+◌, false, List, [], ◌∷◌, ◌++◌, None, codes}
use Rattle.domain_base.specs.declared.names.Akm.TheVariants.{FtPsk}
use Rattle.run_journal.specs.declared.domain.Domain.{Domain}
use Rattle.run_journal.specs.declared.domain.ListedAp.{ListedAp}
use Rattle.run_journal.specs.declared.domain.ListedSta.{ListedSta}
use Rattle.run_journal.specs.declared.domain.Version.TheVariants.{One}
use Rattle.storm.specs.Drawing.{Draws, ◌>>=◌, given, octets}

-- the seed and the pre-shared key
pub record Secrets : Type 0 where
  pub seed : List ℕ
  pub psk : List ℕ

-- are drawn from the storm's number, the seed first
abbrev pub secrets : Draws Secrets
secrets = do
  seed ← octets 32
  psk ← octets 32
  given (record { seed = seed; psk = psk })

-- the access point of that number: 02:00:00:00:00:01 with r0kh-1, and so on
unfoldable pub ap_of : ℕ → ListedAp
ap_of number = record {
  address = record { 0 = 2 ∷ 0 ∷ 0 ∷ 0 ∷ 0 ∷ number ∷ [] };
  r0kh_id = codes "r0kh-" ++ (48 + number) ∷ [];
}

-- the first so many access points
unfoldable pub aps_to : ℕ → List ListedAp
aps_to zero = []
aps_to (suc n) = aps_to n ++ ap_of (suc n) ∷ []

-- the station of that number: 02:00:00:00:01:01, and so on; all have one key
unfoldable pub sta_of : List ℕ → ℕ → ListedSta
sta_of psk number = record {
  address = record { 0 = 2 ∷ 0 ∷ 0 ∷ 0 ∷ 1 ∷ number ∷ [] };
  psk = psk;
}

-- the first so many stations
unfoldable pub stas_to : List ℕ → ℕ → List ListedSta
stas_to psk zero = []
stas_to psk (suc n) = stas_to psk n ++ sta_of psk (suc n) ∷ []

-- four access points and eight stations with fast transition
unfoldable pub domain_of : ℕ → Domain
domain_of number = record {
  seed = (secrets number).0.seed;
  ssid = codes "storm";
  akm = FtPsk;
  mdid = 0xa1 ∷ 0xb2 ∷ [];
  extras = record { version = One; renew_at = None; mfp = false };
  aps = aps_to 4;
  stas = stas_to (secrets number).0.psk 8;
}

-- the state from which the events are drawn
unfoldable pub begun : ℕ → ℕ
begun number = (secrets number).1

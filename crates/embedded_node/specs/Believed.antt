-- What others gave an embedded access point is believed: where it is right, so are the answers (IEEE Std 802.11-2020, 12.7.1.6, profile).
use Rattle.std.specs.Prelude.{◌≡◌, ℕ, suc, ◌<◌, true, List, length, Some, slice_get}
use Rattle.std.specs.List.{AllByRecursion}
use Rattle.domain_base.specs.declared.names.Node.TheVariants.{Ap, Sta}
use Rattle.key_hierarchy.specs.declared.fast_transition.PmkR0.{PmkR0}
use Rattle.key_hierarchy.specs.declared.answers.PullAnswer.TheVariants.{Found}
use Rattle.key_hierarchy.specs.FastTransition.{pmk_r0, pmk_r0_name, pmk_r1}
use Rattle.run_journal.specs.declared.domain.Domain.{Domain}
use Rattle.run_journal.specs.declared.acts.Act.{Act}
use Rattle.run_journal.specs.declared.acts.Act.TheVariants.{Looked}
use Rattle.domain_rules.specs.Network.{mac, psk_of}
use Rattle.embedded_node.specs.declared.holders.PushedKey.{PushedKey}
use Rattle.embedded_node.specs.Pushed.{Holding, ids_in}

-- the PMK-R0 of station s at the R0 key holder of that R0KH-ID, by the pre-shared key that the station has
abbrev pub r0_at : Domain → List ℕ → ℕ → PmkR0
r0_at d id s = pmk_r0 (psk_of d (Sta s)) d.ssid d.mdid id (mac d (Sta s))

-- the key is the PMK-R1 of that PMK-R0 for the first access point of the network, under its PMKR0Name
pub record IsRightKey (d : Domain) (id : List ℕ) (s : ℕ) (x : PushedKey) : Type 0 where
  pub name : x.name ≡ pmk_r0_name (r0_at d id s)
  pub key : x.key ≡ (pmk_r1 (r0_at d id s) (mac d (Ap 0)) (mac d (Sta s))).key

-- so is each key that may be answered, of the station and of the holder that gave it
abbrev pub AreRight : Domain → Holding → Type 0
AreRight d h =
    (j : ℕ) (x : PushedKey) (id : List ℕ) (s : ℕ) → slice_get h.pushed j ≡ Some x → x.live ≡ true → slice_get (ids_in h) (suc x.holder) ≡ Some id
    → s < length d.stas → x.sta ≡ mac d (Sta s) → IsRightKey d id s x

-- where the act asks a key holder, the PMK-R1 that was found is the one of the station's pre-shared key, the holder, the station and the access
-- point
abbrev pub IsRightLook : Domain → Act → Type 0
IsRightLook d (Looked id name p (Found k)) = k ≡ pmk_r1 (pmk_r0 (psk_of d p) d.ssid d.mdid id (mac d p)) (mac d (Ap 0)) (mac d p)
IsRightLook d _ = Unit {0}

abbrev pub AreRightLooks : Domain → List Act → Type 0
AreRightLooks d g = AllByRecursion (IsRightLook d) g

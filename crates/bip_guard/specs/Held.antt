-- What contracts see of a guard (IEEE Std 802.11-2020, 12.5.4.4, profile).
use Rattle.std.specs.Prelude.{ℕ, suc, List}

-- an IGTK that is installed: its octets and key id, the packet number used last under it, 0 before the first, and the
-- greatest that was taken (12.5.4.4)
pub record Held : Type 0 where
  pub key : List ℕ
  pub id : ℕ
  pub used : ℕ
  pub kept : ℕ

-- a guard after one more number was used (profile)
abbrev pub with_next : Held → Held
with_next h = record { key = h.key; id = h.id; used = suc h.used; kept = h.kept }

-- a guard after a number was taken (profile)
abbrev pub with_taken : ℕ → Held → Held
with_taken ipn h = record { key = h.key; id = h.id; used = h.used; kept = ipn }

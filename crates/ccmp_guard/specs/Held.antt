-- What contracts see of a guard (profile).
use Rattle.std.specs.Prelude.{ℕ, suc, List, Option, None, Some, slice_index, slice_set}
use Rattle.ccmp_guard.specs.declared.guard.Role.{Role}
use Rattle.ccmp_guard.specs.Roles.{counter_of}

-- a key that is installed: its role and octets, the packet number used last under it, 0 before the first, and for each TID the
-- greatest packet number that was taken
pub record Held : Type 0 where
  pub role : Role
  pub key : List ℕ
  pub used : ℕ
  pub kept : List ℕ

-- the number kept for frames with that header
abbrev pub kept_number : Held → List ℕ → ℕ
kept_number h header = slice_index h.kept (counter_of h.role header)

-- a guard after one more number was used
abbrev pub with_next : Held → Held
with_next h = record { role = h.role; key = h.key; used = suc h.used; kept = h.kept }

-- after a number was taken from a frame with that header
abbrev pub with_taken : List ℕ → ℕ → Held → Held
with_taken header pn h = record { role = h.role; key = h.key; used = h.used; kept = slice_set h.kept (counter_of h.role header) pn }

-- the number used last, and 0 without a key
abbrev pub used_last : Option Held → ℕ
used_last None = 0
used_last (Some h) = h.used

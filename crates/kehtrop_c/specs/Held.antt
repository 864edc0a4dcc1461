-- What a handle owns (profile).
use Rattle.std.specs.Prelude.{Option, Some, None}
use base.Fml.{Fml, feq}
use denote.RattleType.{RattleType}
use denote.RawPtr.{Ptr, null_ptr}
use Rattle.libc.specs.Heap.{chunk}
use Rattle.std_alloc.specs.Box.Ownership.{box_owns}

-- a box of the C library's heap at its pointer, or nothing at null
abbrev pub held_box : (R : RattleType) → Ptr → Option R.Denot → Fml
held_box R p None = feq Ptr p null_ptr
held_box R p (Some x) = box_owns (λ τ q. chunk τ q) R p x

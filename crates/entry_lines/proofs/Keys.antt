-- Keys of several words, and of several parts.
use Rattle.std.proofs.Common.{◌≡◌, ℕ, ◌<◌, List, ◌++◌, length, sym, ◌∙◌, arith, length-append, append_assoc, take_at, drop_at, take_all}
use Rattle.std.proofs.lemmas.List.Elements.{All-append}
use Rattle.domain_base.specs.Places.{part}
use Rattle.key_hierarchy.specs.declared.inputs.Ptk.{Ptk}
use Rattle.entry_lines.specs.Entries.{FitsPtk, IsArray}
use Rattle.entry_lines.specs.Lines.{ptk_octets}

pub ptk_array : (k : Ptk) → FitsPtk k → IsArray 48 (ptk_octets k)
ptk_array k f = (
  omega (arith, length-append k.kck (k.kek ++ k.tk), length-append k.kek k.tk, f.kck.0, f.kek.0, f.tk.0),
  All-append (λ (x : ℕ). x < 256) k.kck (k.kek ++ k.tk) f.kck.1 (All-append (λ (x : ℕ). x < 256) k.kek k.tk f.kek.1 f.tk.1),
)

pub kck_part : (k : Ptk) (octets : List ℕ) → FitsPtk k → octets ≡ ptk_octets k → part 0 16 octets ≡ k.kck
kck_part k octets f is = rw is (take_at k.kck (k.kek ++ k.tk) 16 f.kck.0)

pub kek_part : (k : Ptk) (octets : List ℕ) → FitsPtk k → octets ≡ ptk_octets k → part 16 16 octets ≡ k.kek
kek_part k octets f is = rw (is, drop_at k.kck (k.kek ++ k.tk) 16 f.kck.0) (take_at k.kek k.tk 16 f.kek.0)

pub tk_part : (k : Ptk) (octets : List ℕ) → FitsPtk k → octets ≡ ptk_octets k → part 32 16 octets ≡ k.tk
tk_part k octets f is =
    let both : length (k.kck ++ k.kek) ≡ 32 = omega (arith, length-append k.kck k.kek, f.kck.0, f.kek.0) in
    rw (is ∙ sym (append_assoc k.kck k.kek k.tk), drop_at (k.kck ++ k.kek) k.tk 32 both) (take_all 16 k.tk (omega (arith, f.tk.0)))

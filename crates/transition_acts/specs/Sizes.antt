-- How many octets a MIC of reassociation covers (profile).
use Rattle.std.specs.Prelude.{ℕ, ◌+◌, ◌-◌, List, length, min}
use Rattle.mac_prf.specs.declared.reassociation.FteCovered.{FteCovered}

-- an FTE, whose MIC field counts whether it is there or not
abbrev pub fte_size : List ℕ → ℕ
fte_size fte = min 4 (length fte) + 16 + (length fte - 20)

-- the form, two addresses and a number stand before RSNE, MDE and FTE
abbrev pub covered_size : FteCovered → ℕ
covered_size c = 14 + length c.rsne.now + length c.mde.now + fte_size c.fte.now

use Rattle.std.proofs.Common.{◌≡◌, ◌∙◌, ℕ, List, length, ap, rules}
use Rattle.std.proofs.lemmas.Nat.{be_bytes_8}
use Rattle.domain_base.specs.Places.{part}
use Rattle.holder_table.proofs.Pieces.{mac_whole, mac_part, whole_small}
use Rattle.holder_table.proofs.words.mac_word.Goals as goal

pub returns : goal.returns
returns c =
    let eight : List ℕ = c.put.new.out in
    let ys : List ℕ = c.args.octets.now in
    let len : length eight ≡ 8 = search rules in
    let whole = mac_whole c.put.result eight ys len c.told-octets c.put.ensures.end c.put.ensures.front in
    ap (λ (w : List ℕ). part 2 6 w) (be_bytes_8 eight _ len (whole_small eight ys whole c.fits-octets) c.from_be_bytes.ensures)
    ∙ mac_part eight ys whole c.told-octets

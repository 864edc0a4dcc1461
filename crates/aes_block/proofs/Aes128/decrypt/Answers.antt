use Rattle.std.proofs.Common.{◌<◌, ℕ, get_or, sym, subst, ap, ◌∙◌, arith, rules}
use Rattle.domain_base.proofs.OctetLemmas.{octets_by_entries}
use Rattle.aes_block.specs.Octets.{IsBlock}
use Rattle.aes_block.specs.Cipher.{round_key, after_rounds, Decrypts}
use Rattle.aes_block.specs.Words.{columns, octets_of}
use Rattle.aes_block.proofs.KeyLemmas.{IsBlock-round_key}
use Rattle.aes_block.proofs.WordLemmas.{octets_of-columns}
use Rattle.aes_block.proofs.CipherLemmas.{expanded_for, IsBlock-after_rounds, Decrypts-some, back-last, back_round, back-first}
use Rattle.aes_block.proofs.Aes128.decrypt.Goals as goal

pub returns : goal.returns
returns c =
    let key = c.args.self.now in
    let x = expanded_for c.self.view_is c.self.invariant in
    let below : (k : ℕ) → get_or c.args.block k 0 < 256 = search rules in
    let b : IsBlock c.args.block = record { sixteen = omega arith; are_octets = octets_by_entries c.args.block below } in
    let found = Decrypts-some key c.args.block x.is_block.are_octets b in
    let p = found.0 in
    let d : Decrypts key c.args.block p = found.1 in
    let start =
    c.added-start.ensures c.args.block (round_key key 10) b (IsBlock-round_key key 10 x.is_block) c.columns.ensures (x.rounds 10 (omega arith))
    ∙ ap columns (back-last key c.args.block p d) in
    let first = back_round key p 8 x.is_block d.is_block start (x.between 8 (omega arith)) c.full_round_back-first.ensures in
    let second = back_round key p 7 x.is_block d.is_block first (x.between 7 (omega arith)) c.full_round_back-second.ensures in
    let third = back_round key p 6 x.is_block d.is_block second (x.between 6 (omega arith)) c.full_round_back-third.ensures in
    let fourth = back_round key p 5 x.is_block d.is_block third (x.between 5 (omega arith)) c.full_round_back-fourth.ensures in
    let fifth = back_round key p 4 x.is_block d.is_block fourth (x.between 4 (omega arith)) c.full_round_back-fifth.ensures in
    let sixth = back_round key p 3 x.is_block d.is_block fifth (x.between 3 (omega arith)) c.full_round_back-sixth.ensures in
    let seventh = back_round key p 2 x.is_block d.is_block sixth (x.between 2 (omega arith)) c.full_round_back-seventh.ensures in
    let eighth = back_round key p 1 x.is_block d.is_block seventh (x.between 1 (omega arith)) c.full_round_back-eighth.ensures in
    let ninth = back_round key p 0 x.is_block d.is_block eighth (x.between 0 (omega arith)) c.full_round_back-ninth.ensures in
    let is = c.octets.ensures
    ∙ ap octets_of (c.last_round_back.ensures (after_rounds key p 0) (round_key key 0) (IsBlock-after_rounds key p 0 x.is_block d.is_block)
    (IsBlock-round_key key 0 x.is_block) ninth (x.rounds 0 (omega arith))
    ∙ ap columns (back-first key p))
    ∙ octets_of-columns p d.is_block in
    subst (Decrypts key c.args.block) (sym is) d

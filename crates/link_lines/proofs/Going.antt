-- What a line moves.
use Rattle.std.proofs.Common.{◌≡◌, true}
use Rattle.link_lines.specs.declared.said.LinkSaid.{LinkSaid}
use Rattle.link_lines.specs.declared.said.LinkSaid.TheVariants.{Nothing, Draw, Begin}
use Rattle.link_lines.specs.Drafts.{Goes, IsAsked, LinkDraft, is_whole}

-- one that asks for an event, or for a turn, moves neither the end nor the header
pub asked_goes : (said : LinkSaid) (old new : LinkDraft) → IsAsked said old.end → new.end ≡ old.end → is_whole old.due ≡ true → is_whole new.due ≡ true → new.header ≡ old.header → Goes said old new
asked_goes Nothing old new asks end before now header = absurd asks
asked_goes Draw old new asks end before now header = absurd asks
asked_goes Begin old new asks end before now header = absurd asks
asked_goes _ old new asks end before now header = (end, (before, (now, (header, asks))))

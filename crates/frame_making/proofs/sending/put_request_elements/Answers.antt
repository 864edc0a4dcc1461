use Rattle.std.proofs.Common.{rules}
use Rattle.frame_making.proofs.Elements.{plain_asked, mobility_asked}
use Rattle.frame_making.proofs.sending.put_request_elements.Goals as goal

pub returns-in-FtPsk-clause-octets : goal.returns-in-FtPsk-clause-octets
returns-in-FtPsk-clause-octets c = search (rules, plain_asked, mobility_asked)

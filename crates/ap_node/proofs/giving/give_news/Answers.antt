use Rattle.std.proofs.Common.{subst}
use Rattle.group_key.specs.declared.news.News.{News}
use Rattle.group_key.proofs.Newest.{fits_as}
use Rattle.authenticator.specs.Beside.{GivesBeside}
use Rattle.ap_node.proofs.giving.give_news.Goals as goal

pub returns-clause-beside : goal.returns-clause-beside
returns-clause-beside c = subst (λ (n : News). GivesBeside c.args.part.now c.group.new.self n c.group.new.reply) c.igtk_in.ensures c.group.ensures.beside

pub group-requires-clause-news : goal.group-requires-clause-news
group-requires-clause-news c = fits_as _ c.args.newest.now c.igtk_in.ensures c.requires.news

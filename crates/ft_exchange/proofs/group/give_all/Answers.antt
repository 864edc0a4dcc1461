use Rattle.ft_exchange.proofs.Giving.{became_is, memory_is}
use Rattle.ft_exchange.proofs.group.give_all.Goals as goal

pub returns-clause-news : goal.returns-clause-news
returns-clause-news c =
    became_is c.args.keys c.args.memory.now c.give-gtk.new.memory c.give-gtk.result c.give_igtk-igtk.result c.give-gtk.ensures.news c.give-gtk.ensures.memory c.give_igtk-igtk.ensures.news

pub returns-clause-memory : goal.returns-clause-memory
returns-clause-memory c = memory_is c.args.keys c.args.memory.now c.give-gtk.new.memory c.give_igtk-igtk.new.memory c.give-gtk.ensures.memory c.give_igtk-igtk.ensures.memory

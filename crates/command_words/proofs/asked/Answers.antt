use Rattle.std.proofs.Common.{◌∙◌}
use Rattle.clap.specs.Words.{found_of}
use Rattle.command_words.proofs.FromClap.{journal_asked, link_asked, live_asked, none_asked, replay_asked, storm_asked}
use Rattle.command_words.proofs.asked.Goals as goal

pub returns-in-replay : goal.returns-in-replay
returns-in-replay c = replay_asked _ _ c.in-replay.is

pub returns-in-live : goal.returns-in-live
returns-in-live c = c.live_command.ensures ∙ live_asked _ (found_of c.args.values.now) c.in-live.is

pub returns-in-storm : goal.returns-in-storm
returns-in-storm c = c.storm_command.ensures ∙ storm_asked _ (found_of c.args.values.now) c.in-storm.is

pub returns-in-journal : goal.returns-in-journal
returns-in-journal c = journal_asked _ _ c.in-journal.is

pub returns-in_default : goal.returns-in_default
returns-in_default c = none_asked _ _ c.in_default.not-replay c.in_default.not-live c.in_default.not-storm c.in_default.not-journal c.in_default.not-link

pub returns-in-link : goal.returns-in-link
returns-in-link c = c.link_command.ensures ∙ link_asked _ (found_of c.args.values.now) c.in-link.is

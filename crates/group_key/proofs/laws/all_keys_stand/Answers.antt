use Rattle.group_key.proofs.Newest as newest
use Rattle.group_key.proofs.Together as together
use Rattle.group_key.proofs.laws.all_keys_stand.Goals as goal

pub returns : goal.returns
returns c = record {
  started = together.all_started;
  drawn = together.all_drawn;
  switched = together.all_switched;
  other = newest.all_other;
  others = newest.all_others;
  newest = newest.held_newest;
  carried = newest.news_is;
  in_use = newest.igtk_in_use;
}

use Rattle.group_key.proofs.Drawing as drawing
use Rattle.group_key.proofs.laws.keys_stand.Goals as goal

pub returns : goal.returns
returns c = record {
  started = drawing.started;
  drawn = drawing.drawn;
  switched = drawing.made_current;
  other = drawing.other;
  others = drawing.others;
  newest = drawing.newest_is;
  in_use = drawing.in_use;
  uses = drawing.uses;
  older = drawing.older;
  id = drawing.id_small;
  place = drawing.place_low;
}

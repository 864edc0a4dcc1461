use Rattle.group_key.proofs.Keeping as keeping
use Rattle.group_key.proofs.Counting as counting
use Rattle.group_key.proofs.laws.memory_stands.Goals as goal

pub returns : goal.returns
returns c = record {
  started = counting.started;
  given = counting.gives;
  taken = counting.takes;
  other = counting.stands;
  other_given = counting.gives_beside;
  other_taken = counting.hands_beside;
  found = keeping.found_in;
  counted = counting.counted;
  keys_given = keeping.keys_given;
  told = counting.told_by_message;
  told_in_response = counting.told_by_response;
  keys_taken = keeping.keys_taken;
}

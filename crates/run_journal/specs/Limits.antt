-- How many there may be of what a script lists and asks for (profile).
use Rattle.std.specs.Prelude.{ℕ, ◌+◌, ◌*◌}

-- how many access points a network has at most
abbrev pub most_aps : ℕ
most_aps = 64

-- how many stations a network has at most
abbrev pub most_stas : ℕ
most_stas = 1024

-- how many events a round has at most
abbrev pub most_events : ℕ
most_events = 1024

-- how many frames at most have been sent where one more event may be asked for
abbrev pub most_frames : ℕ
most_frames = 65535

-- octets of a frame that comes from outside: injected, or by a link
abbrev pub most_octets : ℕ
most_octets = 2400

-- how many frames a node takes of its link in a turn at most
abbrev pub most_polls : ℕ
most_polls = 16

-- how many frames all nodes together take in a turn at most, which is as many rounds
abbrev pub most_turn : ℕ
most_turn = most_polls * (most_aps + most_stas)

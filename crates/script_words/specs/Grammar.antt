-- The lines of a script, in one table (profile).
use Rattle.std.specs.Prelude.{ℕ, ◌&&◌, not, Bool, true, false, if◌then◌else◌, List, [], ◌∷◌, bytes_eq, codes}
use Rattle.domain_base.specs.declared.names.Akm.{Akm}
use Rattle.domain_base.specs.declared.names.Akm.TheVariants as akm
use Rattle.script_words.specs.declared.forms.Form.{Form}
use Rattle.script_words.specs.declared.forms.Form.TheVariants as form
use Rattle.script_words.specs.declared.kinds.Kind.{Kind}
use Rattle.script_words.specs.declared.kinds.Kind.TheVariants.{End, Version, Seed, LiveSeed, Ssid, Passphrase, Psk, Akm as Suite, Mdid, Address, R0khId, Ap, Sta, Node, Peer, Tid, Number, Place, Length, Mask, Octets, To, NoKey, OwnKey, KeyWord, Key, StaOrAll, PacketNumber}
use Rattle.script_words.specs.declared.grammar.Position.{Position}
use Rattle.script_words.specs.declared.grammar.Position.TheVariants.{Head, Optional, LastOptional, Aps, Stas, Outside, Anywhere, Opening, Closing, Nowhere}
use Rattle.script_words.specs.declared.grammar.Stage.{Stage}
use Rattle.script_words.specs.declared.grammar.Stage.TheVariants.{Bare, Renewing, Unlisted, Listed, Begun}
use Rattle.script_words.specs.declared.grammar.Akms.{Akms}
use Rattle.script_words.specs.declared.grammar.Akms.TheVariants.{Every, Transition, Others, Sha256}
use Rattle.script_words.specs.declared.grammar.Runs.{Runs}
use Rattle.script_words.specs.declared.grammar.Runs.TheVariants.{Both, Replays, Lives}
use Rattle.script_words.specs.declared.grammar.Versions.{Versions}
use Rattle.script_words.specs.declared.grammar.Versions.TheVariants.{FromFirst, FromSecond, Protecting}
use Rattle.script_words.specs.declared.grammar.Words.{Words}
use Rattle.script_words.specs.declared.grammar.Row.{Row}

-- ---- the table

-- the lines, in the order in which they are listed where one of them may stand
abbrev pub lines : List Form
lines =
    form.Version ∷ form.Seed ∷ form.Ssid ∷ form.Passphrase ∷ form.Psk ∷ form.Akm ∷ form.Mdid ∷ form.RenewAt ∷ form.Mfp ∷ form.Ap ∷ form.Sta ∷ form.Connect ∷ form.Roam ∷ form.Deliver
    ∷ form.Alter ∷ form.Cut ∷ form.Inject ∷ form.Retry ∷ form.Rekey ∷ form.Send ∷ form.Expire ∷ form.Revoke ∷ form.Leave ∷ form.Secret ∷ form.Renew ∷ form.Announce ∷ form.Round ∷ form.Turn ∷ form.End ∷ []

-- the word with which a line begins; the other forms are not of one line
abbrev pub word_of : Form → List ℕ
word_of form.Version = codes "domain"
word_of form.Seed = codes "seed"
word_of form.LiveSeed = codes "seed"
word_of form.Ssid = codes "ssid"
word_of form.Passphrase = codes "passphrase"
word_of form.Psk = codes "psk"
word_of form.Akm = codes "akm"
word_of form.Mdid = codes "mdid"
word_of form.RenewAt = codes "renew-at"
word_of form.Mfp = codes "mfp"
word_of form.Ap = codes "ap"
word_of form.Sta = codes "sta"
word_of form.KeyedSta = codes "sta"
word_of form.Connect = codes "connect"
word_of form.Roam = codes "roam"
word_of form.Deliver = codes "deliver"
word_of form.Alter = codes "alter"
word_of form.Cut = codes "cut"
word_of form.Inject = codes "inject"
word_of form.Retry = codes "retry"
word_of form.Rekey = codes "rekey"
word_of form.Send = codes "send"
word_of form.Expire = codes "expire"
word_of form.Revoke = codes "revoke"
word_of form.Leave = codes "leave"
word_of form.Secret = codes "secret"
word_of form.Renew = codes "renew"
word_of form.Announce = codes "announce"
word_of form.Round = codes "round"
word_of form.Turn = codes "turn"
word_of form.End = codes "end"
word_of other = []

-- what stands after it: up to five words
abbrev pub after : Kind → Kind → Kind → Kind → Kind → Words
after second third fourth fifth sixth = record {
  second = second;
  third = third;
  fourth = fourth;
  fifth = fifth;
  sixth = sixth;
}

abbrev pub none : Words
none = after End End End End End

abbrev pub one : Kind → Words
one second = after second End End End End

abbrev pub two : Kind → Kind → Words
two second third = after second third End End End

abbrev pub three : Kind → Kind → Kind → Words
three second third fourth = after second third fourth End End

abbrev pub four : Kind → Kind → Kind → Kind → Words
four second third fourth fifth = after second third fourth fifth End

-- a row of the table below
abbrev pub row : Position → Akms → Runs → Words → Row
row position suites runs words = record {
  position = position;
  suites = suites;
  runs = runs;
  versions = FromFirst;
  words = words;
}

-- one of scripts of version 2 alone
abbrev pub second_row : Position → Akms → Runs → Words → Row
second_row position suites runs words = record {
  position = position;
  suites = suites;
  runs = runs;
  versions = FromSecond;
  words = words;
}

-- one of networks alone that protect group-addressed management frames, which are of version 2
abbrev pub protecting_row : Position → Akms → Runs → Words → Row
protecting_row position suites runs words = record {
  position = position;
  suites = suites;
  runs = runs;
  versions = Protecting;
  words = words;
}

-- where a line stands, with which suites, in which kinds of run and versions of scripts it has a meaning, and what stands
-- after its word; that of a station has two rows, by the version
abbrev pub row_of : Form → Row
row_of form.Version = row (Head 0) Every Both (one Version)
row_of form.Seed = row (Head 1) Every Both (one Seed)
row_of form.LiveSeed = row (Head 1) Every Lives (one LiveSeed)
row_of form.Ssid = row (Head 2) Every Both (one Ssid)
row_of form.Passphrase = row (Head 3) Every Both (one Passphrase)
row_of form.Psk = row (Head 3) Every Both (one Psk)
row_of form.Akm = row (Head 4) Every Both (one Suite)
row_of form.Mdid = row (Head 5) Transition Both (one Mdid)
row_of form.RenewAt = second_row Optional Others Both (one PacketNumber)
row_of form.Mfp = second_row LastOptional Sha256 Both none
row_of form.Ap = row Aps Every Both (two Address R0khId)
row_of form.Sta = row Stas Every Both (two Address NoKey)
row_of form.KeyedSta = row Stas Every Both (three Address OwnKey Key)
row_of form.Connect = row Outside Every Both (two Sta Ap)
row_of form.Roam = row Outside Transition Both (two Sta Ap)
row_of form.Deliver = row Anywhere Every Replays (three Number To Node)
row_of form.Alter = row Anywhere Every Replays (after Number Place Mask To Node)
row_of form.Cut = row Anywhere Every Replays (four Number Length To Node)
row_of form.Inject = row Anywhere Every Both (two Node Octets)
row_of form.Retry = row Anywhere Every Both (two Ap Sta)
row_of form.Rekey = row Anywhere Every Both (one Ap)
row_of form.Send = row Anywhere Every Both (four Node Peer Tid Octets)
row_of form.Expire = row Anywhere Every Both (two Ap Sta)
row_of form.Revoke = row Anywhere Every Both (two Ap Sta)
row_of form.Leave = row Outside Every Both (one Sta)
row_of form.Secret = second_row Outside Every Both (three StaOrAll KeyWord Key)
row_of form.Renew = second_row Outside Others Both (two Ap Sta)
row_of form.Announce = protecting_row Outside Every Both (two Ap Octets)
row_of form.Round = row Opening Every Both none
row_of form.Turn = row Outside Every Lives none
row_of form.End = row Closing Every Both none
row_of other = row Nowhere Every Both none

-- ---- a line by its first word

unfoldable pub find_line : List Form → List ℕ → Form
find_line [] word = form.Any
find_line (line ∷ rest) word = if bytes_eq word (word_of line) then line else find_line rest word

-- `Any` for a word with which no line begins
unfoldable pub line_of : List ℕ → Form
line_of word = find_line lines word

-- ---- where it may stand

-- whether a line asks for an event there, within a round or not
abbrev pub stands_in : Position → Bool → Bool
stands_in Anywhere within = true
stands_in Outside within = not within
stands_in other within = false

-- whether the header has nothing yet that may be left out, no node is listed, and no round was asked for
abbrev pub is_bare : Stage → Bool
is_bare Bare = true
is_bare stage = false

-- whether of what may be left out the header has not the last line, no node is listed, and no round was asked for
abbrev pub is_early : Stage → Bool
is_early Bare = true
is_early Renewing = true
is_early stage = false

-- whether no station is listed, and no round was asked for
abbrev pub is_unlisted : Stage → Bool
is_unlisted Bare = true
is_unlisted Renewing = true
is_unlisted Unlisted = true
is_unlisted stage = false

-- whether no round was asked for
abbrev pub is_first : Stage → Bool
is_first Begun = false
is_first stage = true

-- whether it may stand there, where all is there that a header has to have, outside rounds
abbrev pub stands : Position → Stage → Bool
stands Optional stage = is_bare stage
stands LastOptional stage = is_early stage
stands Aps stage = is_unlisted stage
stands Stas stage = is_first stage
stands Opening stage = true
stands other stage = stands_in other false

-- whether it may stand in a round
abbrev pub stands_within : Position → Bool
stands_within Closing = true
stands_within other = stands_in other true

-- whether it goes with the suite
abbrev pub goes_with : Akms → Akm → Bool
goes_with Every suite = true
goes_with Transition akm.FtPsk = true
goes_with Transition akm.Psk = false
goes_with Transition akm.PskSha256 = false
goes_with Others akm.FtPsk = false
goes_with Others akm.Psk = true
goes_with Others akm.PskSha256 = true
goes_with Sha256 akm.FtPsk = true
goes_with Sha256 akm.Psk = false
goes_with Sha256 akm.PskSha256 = true

-- whether it stands in scripts of version 2, or of version 1, where the header says that group-addressed management frames are
-- protected, or does not
abbrev pub in_version : Versions → Bool → Bool → Bool
in_version FromFirst is_second mfp = true
in_version FromSecond is_second mfp = is_second
in_version Protecting is_second mfp = mfp

-- whether it has a meaning in a replay
abbrev pub in_replay : Runs → Bool
in_replay Both = true
in_replay Replays = true
in_replay Lives = false

-- and in a live run
abbrev pub in_live : Runs → Bool
in_live Both = true
in_live Replays = false
in_live Lives = true

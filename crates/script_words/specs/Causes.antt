-- What is wrong in a refused line, in words (profile).
use Rattle.std.specs.Prelude.{ℕ, List, codes, Option, None, Some}
use Rattle.script_words.specs.declared.causes.Cause.{Cause}
use Rattle.script_words.specs.declared.causes.Cause.TheVariants.{Plain, Space, Tab, Strange, Comment, Capital, Missing, Many, Unknown, Later, Earlier, Suite, OtherSuite, FirstSuite, Second, Unprotected, LiveRun, ReplayRun, InRound, NoRound, Version, Colons, NoDigit, Odd, Size, Zero, Group, NoNumber, NoPacketNumber, NoNode, NoPeer, NoTid, NoTo, NoSuite, NoKeyWord, NoStaOrAll, Short, Long, OtherKind, Stations, Aps, Stas, Frames, Octets, UsedAddress, UsedId, OtherEnd, Asks}

-- the words on standard error after the place of the word; a number follows them where there is one
abbrev pub cause_text : Cause → List ℕ
cause_text Plain = codes ""
cause_text Space = codes ": a space too many"
cause_text Tab = codes ": a tab; words are separated by one space"
cause_text Strange = codes ": an octet that is no printable character of ASCII"
cause_text Comment = codes ": a comment; it has a line of its own, from line 2 on"
cause_text Capital = codes ": a capital letter"
cause_text Missing = codes ": it is missing"
cause_text Many = codes ": a word too many"
cause_text Unknown = codes ": no line begins so"
cause_text Later = codes ": its lines stand later in a script"
cause_text Earlier = codes ": its lines stand earlier in a script"
cause_text Suite = codes ": only with akm ft-psk"
cause_text OtherSuite = codes ": not with akm ft-psk"
cause_text FirstSuite = codes ": not with akm psk"
cause_text Second = codes ": only with domain 2"
cause_text Unprotected = codes ": only with mfp"
cause_text LiveRun = codes ": only in a live run"
cause_text ReplayRun = codes ": only in a replay"
cause_text InRound = codes ": not in a round"
cause_text NoRound = codes ": no round is open"
cause_text Version = codes ": the version has to be 1 or 2"
cause_text Colons = codes ": an address has no colons"
cause_text NoDigit = codes ": not hexadecimal"
cause_text Odd = codes ": an odd count of digits"
cause_text Size = codes ": too few or too many digits"
cause_text Zero = codes ": the address is zero"
cause_text Group = codes ": a group address"
cause_text NoNumber = codes ": no number of one to ten decimal digits"
cause_text NoPacketNumber = codes ": no number from 1 to 4294967295"
cause_text NoNode = codes ": no node, as a1 or s1"
cause_text NoPeer = codes ": neither a node, as a1 or s1, nor all"
cause_text NoTid = codes ": neither a number up to 15 nor -"
cause_text NoTo = codes ": not the word to"
cause_text NoSuite = codes ": none of these suites"
cause_text NoKeyWord = codes ": neither psk nor passphrase"
cause_text NoStaOrAll = codes ": neither a station, as s1, nor all"
cause_text Short = codes ": too few octets"
cause_text Long = codes ": too many octets"
cause_text OtherKind = codes ": a node of the other kind"
cause_text Stations = codes ": stations take no part in a round"
cause_text (Aps count) = codes ": access points listed: "
cause_text (Stas count) = codes ": stations listed: "
cause_text (Frames count) = codes ": frames sent before: "
cause_text (Octets count) = codes ": octets of the frame: "
cause_text UsedAddress = codes ": the address"
cause_text UsedId = codes ": the R0KH-ID"
cause_text OtherEnd = codes ": only at the other end of a link"
cause_text (Asks count) = codes ": questions asked before: "

-- how many there are
abbrev pub cause_count : Cause → Option ℕ
cause_count (Aps count) = Some count
cause_count (Stas count) = Some count
cause_count (Frames count) = Some count
cause_count (Octets count) = Some count
cause_count (Asks count) = Some count
cause_count cause = None

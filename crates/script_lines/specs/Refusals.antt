-- Why a line is refused: by number, and in words (profile).
use Rattle.std.specs.Prelude.{ℕ, ◌==◌, if◌then◌else◌, List, codes, Option, None, Some}
use Rattle.script_lines.specs.declared.refusal.LineFault.{LineFault}
use Rattle.script_lines.specs.declared.refusal.LineFault.TheVariants as answered
use Rattle.script_lines.specs.declared.refusal.Refusal.{Refusal}
use Rattle.script_lines.specs.declared.refusal.Refusal.TheVariants.{Version, Word, Arguments, Node, Frame, Place, Unclosed, Duplicate, Mode, ManyLines, LongLine, LongFrame, ManyFrames, ManyAps, ManyStas, LongPayload, ManyEvents}
use Rattle.script_lines.specs.declared.refusal.Untaken.{Untaken}
use Rattle.script_lines.specs.declared.refusal.Untaken.TheVariants as untaken
use Rattle.script_lines.specs.Script.{Fault, Outside, Past, version_, word_, arguments, node_, frame_, place_, unclosed, duplicate, mode, many_lines, long_line, long_frame, many_frames, many_aps, many_stas, long_payload, many_events}

-- the fault of a refusal
abbrev pub fault_of : Refusal → Fault
fault_of Version = version_
fault_of Word = word_
fault_of Arguments = arguments
fault_of Node = node_
fault_of Frame = frame_
fault_of Place = place_
fault_of Unclosed = unclosed
fault_of Duplicate = duplicate
fault_of Mode = mode
fault_of ManyLines = many_lines
fault_of LongLine = long_line
fault_of LongFrame = long_frame
fault_of ManyFrames = many_frames
fault_of ManyAps = many_aps
fault_of ManyStas = many_stas
fault_of LongPayload = long_payload
fault_of ManyEvents = many_events

-- the number of a fault
abbrev pub answer_of : Fault → LineFault
answer_of (Outside reason) = answered.Script reason
answer_of (Past limit) = answered.Limit limit

-- a line that was not taken, by number
abbrev pub numbered : Untaken → LineFault
numbered (untaken.Refused refusal) = answer_of (fault_of refusal)
numbered untaken.NoMemory = answered.NoMemory

-- a refusal as the text on standard error
abbrev pub refusal_text : Refusal → List ℕ
refusal_text Version = codes "not the first line of a script"
refusal_text Word = codes "no such word here"
refusal_text Arguments = codes "wrong arguments"
refusal_text Node = codes "no such node, or a node of the other kind"
refusal_text Frame = codes "no such frame was sent"
refusal_text Place = codes "place or length outside the frame"
refusal_text Unclosed = codes "the script ends in a round"
refusal_text Duplicate = codes "address or R0KH-ID used before"
refusal_text Mode = codes "no such line in this kind of run"
refusal_text ManyLines = codes "more than 65536 lines"
refusal_text LongLine = codes "a line of more than 8192 octets"
refusal_text LongFrame = codes "an injected frame of more than 2400 octets"
refusal_text ManyFrames = codes "more than 65535 frames sent"
refusal_text ManyAps = codes "more than 64 access points"
refusal_text ManyStas = codes "more than 1024 stations"
refusal_text LongPayload = codes "a payload of more than 2304 octets"
refusal_text ManyEvents = codes "more than 1024 events in a round"

-- by the number of a reason, and of a limit
abbrev pub reason_of : ℕ → Option Refusal
reason_of reason =
    if reason == 1 then Some Version
    else if reason == 2 then Some Word
    else if reason == 3 then Some Arguments
    else if reason == 4 then Some Node
    else if reason == 5 then Some Frame
    else if reason == 6 then Some Place
    else if reason == 7 then Some Unclosed
    else if reason == 8 then Some Duplicate
    else if reason == 9 then Some Mode
    else None

-- the refusal for a limit, by its number
abbrev pub limit_of : ℕ → Option Refusal
limit_of limit =
    if limit == 1 then Some ManyLines
    else if limit == 2 then Some LongLine
    else if limit == 3 then Some LongFrame
    else if limit == 4 then Some ManyFrames
    else if limit == 5 then Some ManyAps
    else if limit == 6 then Some ManyStas
    else if limit == 7 then Some LongPayload
    else if limit == 8 then Some ManyEvents
    else None

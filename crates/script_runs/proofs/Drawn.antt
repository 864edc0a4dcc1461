-- What a storm draws can happen in its network.
use Rattle.std.proofs.Common.{◌≡◌, ◌≢◌, ℕ, suc, ◌-◌, ◌/◌, ◌^◌, ◌<◌, ◌≤◌, ◌==◌, ◌&&◌, Bool, true, false, if◌then◌else◌, List, length, map, None, Some, refl, sym, arith, codes}
use Rattle.std.specs.Prelude.{min, nat_le, nat_lt, slice_index}
use Rattle.std.proofs.lemmas.Bool.{and_from, le-leb, ltb-true}
use Rattle.std.proofs.lemmas.Bool.Decides.{nat_tests}
use Rattle.std.proofs.lemmas.List.{get_or-map, length-map}
use Rattle.std.proofs.Math.Nat.{mod-lt, min-le_left, le-min}
use Rattle.domain_base.specs.declared.names.Akm.TheVariants.{FtPsk}
use Rattle.domain_base.specs.declared.names.Node.{Node}
use Rattle.domain_base.specs.declared.names.Node.TheVariants.{Ap, Sta}
use Rattle.domain_base.specs.declared.names.Peer.{Peer}
use Rattle.domain_base.specs.declared.names.Peer.TheVariants.{One, All}
use Rattle.run_journal.specs.declared.domain.Domain.{Domain}
use Rattle.run_journal.specs.declared.domain.Event.{Event}
use Rattle.run_journal.specs.declared.domain.Event.TheVariants.{Retry, Expire, Revoke, Leave, Send}
use Rattle.run_journal.specs.Events.{IsListed}
use Rattle.script_lines.specs.Script.{size_of}
use Rattle.run_journal.specs.Secrets.{changes_keys}
use Rattle.script_lines.specs.Headers.{CanHappen, IsSized}
use Rattle.storm.specs.declared.seen.Frame.{Frame}
use Rattle.storm.specs.Drawing.{Draws, ◌>>=◌, after, drawn, given}
use Rattle.storm.specs.Frames.{frame_at}
use Rattle.storm.specs.Events.{any_sta, connect, roam, receiver, late_number, any_number, deliver, alter_octet, alter, retry, send_of, send, rekey, other_of, other, event_by, event_of}

-- a network of four access points and eight stations with suite 4
pub record Nodes (d : Domain) : Type 0 where
  pub aps : length d.aps ≡ 4
  pub stas : length d.stas ≡ 8
  pub akm : d.akm ≡ FtPsk

drawn_low : (k x : ℕ) → 0 < k → drawn k x < k
unfolding drawn
drawn_low k x some = mod-lt (after x / 2 ^ 33) some

-- it can happen, and changes no key
abbrev pub IsDrawn : Domain → List ℕ → Event → Type 0
IsDrawn d sizes event = CanHappen d sizes event × (changes_keys event ≡ false)

-- whatever the state is from which it is drawn
abbrev Can : Domain → List ℕ → Draws Event → Type 0
Can d sizes event = (x : ℕ) → IsDrawn d sizes (event x).0

by_test : (d : Domain) (sizes : List ℕ) (b : Bool) (p q : Draws Event) → (b ≡ true → Can d sizes p) → (b ≡ false → Can d sizes q) → Can d sizes (if b then p else q)
by_test d sizes true p q f g = f refl
by_test d sizes false p q f g = g refl

one_of : (d : Domain) (sizes : List ℕ) (b : Bool) (e f : Event) → IsDrawn d sizes e → IsDrawn d sizes f → IsDrawn d sizes (if b then e else f)
one_of d sizes true e f p q = p
one_of d sizes false e f p q = q

-- ---- nodes

sta_low : (d : Domain) (x : ℕ) → Nodes d → drawn 8 x < length d.stas
sta_low d x n = omega (arith, drawn_low 8 x (omega arith), n.stas)

ap_low : (d : Domain) (x : ℕ) → Nodes d → drawn 4 x < length d.aps
ap_low d x n = omega (arith, drawn_low 4 x (omega arith), n.aps)

connect_can : (d : Domain) (sizes : List ℕ) → Nodes d → Can d sizes connect
unfolding connect
connect_can d sizes n x = ((sta_low d x n, ap_low d (after x) n), refl)

roam_can : (d : Domain) (sizes : List ℕ) → Nodes d → Can d sizes roam
unfolding roam
roam_can d sizes n x = ((sta_low d x n, ap_low d (after x) n, n.akm), refl)

retry_can : (d : Domain) (sizes : List ℕ) → Nodes d → Can d sizes retry
unfolding retry
retry_can d sizes n x = ((ap_low d (after x) n, sta_low d x n), refl)

rekey_can : (d : Domain) (sizes : List ℕ) → Nodes d → Can d sizes rekey
unfolding rekey
rekey_can d sizes n x = (ap_low d x n, refl)

other_of_can : (d : Domain) (sizes : List ℕ) (sta at way : ℕ) → sta < length d.stas → at < length d.aps → IsDrawn d sizes (other_of sta at way)
other_of_can d sizes sta at way low low_ap =
    one_of d sizes (way == 0) (Revoke at sta) (if way == 1 then Expire at sta else if way == 2 then Leave sta else Retry at sta) ((low_ap, low), refl)
    (one_of d sizes (way == 1) (Expire at sta) (if way == 2 then Leave sta else Retry at sta) ((low_ap, low), refl) (one_of d sizes (way == 2) (Leave sta) (Retry at sta) (low, refl) ((low_ap, low), refl)))

other_can : (d : Domain) (sizes : List ℕ) → Nodes d → Can d sizes other
unfolding other
other_can d sizes n x =
    other_of_can d sizes (drawn 8 x) (drawn 4 (after x)) (drawn 4 (after (after x))) (sta_low d x n) (ap_low d (after x) n)

send_of_can : (d : Domain) (sizes : List ℕ) (sta at way : ℕ) → sta < length d.stas → at < length d.aps → IsDrawn d sizes (send_of sta at way)
send_of_can d sizes sta at way low low_ap =
    one_of d sizes (way == 0) (Send (Sta sta) (One (Ap at)) (Some 3) (codes "s")) (if way == 1 then Send (Ap at) (One (Sta sta)) None (codes "a") else Send (Ap at) All None (codes "g")) ((low, low_ap, omega arith), refl)
    (one_of d sizes (way == 1) (Send (Ap at) (One (Sta sta)) None (codes "a")) (Send (Ap at) All None (codes "g")) ((low_ap, low, omega arith), refl) ((low_ap, tt, omega arith), refl))

send_can : (d : Domain) (sizes : List ℕ) → Nodes d → Can d sizes send
unfolding send
send_can d sizes n x =
    send_of_can d sizes (drawn 8 x) (drawn 4 (after x)) (drawn 3 (after (after x))) (sta_low d x n) (ap_low d (after x) n)

-- ---- frames

named : (d : Domain) (x : ℕ) (b : Bool) (node : Node) → Nodes d → (b ≡ true → IsListed d node) → IsListed d ((if b then given node else any_sta) x).0
named d x true node n is = is refl
named d x false node n is = sta_low d x n

receiver_listed : (d : Domain) (peer : Peer) (x : ℕ) → Nodes d → IsListed d (receiver peer x).0
unfolding receiver
receiver_listed d (One (Ap k)) x n = named d x (nat_lt k 4) (Ap k) n (λ e. let low = ltb-true k 4 e in omega (arith, low, n.aps))
receiver_listed d (One (Sta k)) x n = named d x (nat_lt k 8) (Sta k) n (λ e. let low = ltb-true k 8 e in omega (arith, low, n.stas))
receiver_listed d All x n = sta_low d x n

-- the sizes of frames
abbrev pub sizes_in : List Frame → List ℕ
sizes_in frames = map (λ (f : Frame). f.size) frames

so_it_is : (b : Bool) (v : ℕ) → b ≡ true → (if b then Some v else None) ≡ Some v
so_it_is true v e = refl
so_it_is false v e = absurd cc

size_there : (sizes : List ℕ) (number : ℕ) → 1 ≤ number → number ≤ length sizes → size_of sizes number ≡ Some (slice_index sizes (number - 1))
unfolding size_of
size_there sizes number some sent =
    so_it_is (nat_le 1 number && nat_le number (length sizes)) (slice_index sizes (number - 1)) (and_from _ _ (le-leb 1 number some) (le-leb number (length sizes) sent))

sized : (frames : List Frame) (number size : ℕ) → 1 ≤ number → number ≤ length frames → size ≤ (frame_at frames number).size → IsSized (sizes_in frames) number size
sized frames number size some sent within =
    let count : length (sizes_in frames) ≡ length frames = length-map frames (λ (f : Frame). f.size) in
    let same : slice_index (sizes_in frames) (number - 1) ≡ (frame_at frames number).size =
    get_or-map (λ (f : Frame). f.size) frames (number - 1) (record { to = All; size = 0 }) 0 (omega (arith, some, sent)) in
    record {
      some = some;
      sent = omega (arith, sent, count);
      whole = slice_index (sizes_in frames) (number - 1);
      is = size_there (sizes_in frames) number some (omega (arith, sent, count));
      within = omega (arith, within, same);
    }

deliver_can : (d : Domain) (frames : List Frame) (number : ℕ) → Nodes d → 1 ≤ number → number ≤ length frames → Can d (sizes_in frames) (deliver frames number)
unfolding deliver
deliver_can d frames number n some sent x = ((receiver_listed d (frame_at frames number).to x n, sized frames number 0 some sent (omega arith)), refl)

octet_can : (d : Domain) (frames : List Frame) (number : ℕ) → Nodes d → 1 ≤ number → number ≤ length frames → 0 < (frame_at frames number).size → Can d (sizes_in frames) (alter_octet (frame_at frames number) number)
octet_can d frames number n some sent has x =
    let size = (frame_at frames number).size in
    let low : drawn size x < size = drawn_low size x has in
    ((receiver_listed d (frame_at frames number).to (after (after x)) n, sized frames number (suc (drawn size x)) some sent (omega (arith, low))), refl)

some_of : (n : ℕ) → (n == 0) ≡ false → 0 < n
some_of n e = grind (arith, nat_tests)

alter_can : (d : Domain) (frames : List Frame) (number : ℕ) → Nodes d → 1 ≤ number → number ≤ length frames → Can d (sizes_in frames) (alter frames number)
unfolding alter
alter_can d frames number n some sent =
    by_test d (sizes_in frames) ((frame_at frames number).size == 0) (deliver frames number) (alter_octet (frame_at frames number) number) (λ e. deliver_can d frames number n some sent)
    (λ e. octet_can d frames number n some sent (some_of (frame_at frames number).size e))

-- ---- numbers of frames

late : (frames : List Frame) (x : ℕ) → 0 < length frames → (1 ≤ (late_number frames x).0) × ((late_number frames x).0 ≤ length frames)
unfolding late_number
late frames x some =
    let back = min (length frames) 8 in
    let low : drawn back x < back = drawn_low back x (le-min some (omega arith)) in
    let few : back ≤ length frames = min-le_left (length frames) 8 in
    (omega (arith, low, few), omega (arith, low, few))

any : (frames : List Frame) (x : ℕ) → 0 < length frames → (1 ≤ (any_number frames x).0) × ((any_number frames x).0 ≤ length frames)
unfolding any_number
any frames x some =
    let low : drawn (length frames) x < length frames = drawn_low (length frames) x some in
    (omega (arith, low), omega (arith, low))

late_can : (d : Domain) (frames : List Frame) → Nodes d → 0 < length frames → (x : ℕ) → IsDrawn d (sizes_in frames) (deliver frames (late_number frames x).0 (late_number frames x).1).0
late_can d frames n some x = let is = late frames x some in deliver_can d frames (late_number frames x).0 n is.0 is.1 (late_number frames x).1

any_can : (d : Domain) (frames : List Frame) → Nodes d → 0 < length frames → (x : ℕ) → IsDrawn d (sizes_in frames) (deliver frames (any_number frames x).0 (any_number frames x).1).0
any_can d frames n some x = let is = any frames x some in deliver_can d frames (any_number frames x).0 n is.0 is.1 (any_number frames x).1

late_alter_can : (d : Domain) (frames : List Frame) → Nodes d → 0 < length frames → (x : ℕ) → IsDrawn d (sizes_in frames) (alter frames (late_number frames x).0 (late_number frames x).1).0
late_alter_can d frames n some x = let is = late frames x some in alter_can d frames (late_number frames x).0 n is.0 is.1 (late_number frames x).1

-- ---- an event

-- the choices from that number on
abbrev from_14 : ℕ → Draws Event
from_14 choice = if choice == 14 then rekey else other

abbrev from_13 : ℕ → Draws Event
from_13 choice = if choice == 13 then send else from_14 choice

abbrev from_12 : ℕ → Draws Event
from_12 choice = if choice == 12 then retry else from_13 choice

abbrev from_11 : List Frame → ℕ → Draws Event
from_11 frames choice = if choice == 11 then late_number frames >>= alter frames else from_12 choice

abbrev from_10 : List Frame → ℕ → Draws Event
from_10 frames choice = if choice == 10 then any_number frames >>= deliver frames else from_11 frames choice

abbrev from_3 : List Frame → ℕ → Draws Event
from_3 frames choice = if nat_le choice 9 then late_number frames >>= deliver frames else from_10 frames choice

abbrev from_1 : List Frame → ℕ → Draws Event
from_1 frames choice = if nat_le choice 2 then roam else from_3 frames choice

from_14_can : (d : Domain) (sizes : List ℕ) (choice : ℕ) → Nodes d → Can d sizes (from_14 choice)
from_14_can d sizes choice n = by_test d sizes (choice == 14) rekey other (λ e. rekey_can d sizes n) (λ e. other_can d sizes n)

from_13_can : (d : Domain) (sizes : List ℕ) (choice : ℕ) → Nodes d → Can d sizes (from_13 choice)
from_13_can d sizes choice n = by_test d sizes (choice == 13) send (from_14 choice) (λ e. send_can d sizes n) (λ e. from_14_can d sizes choice n)

from_12_can : (d : Domain) (sizes : List ℕ) (choice : ℕ) → Nodes d → Can d sizes (from_12 choice)
from_12_can d sizes choice n = by_test d sizes (choice == 12) retry (from_13 choice) (λ e. retry_can d sizes n) (λ e. from_13_can d sizes choice n)

from_11_can : (d : Domain) (frames : List Frame) (choice : ℕ) → Nodes d → 0 < length frames → Can d (sizes_in frames) (from_11 frames choice)
from_11_can d frames choice n some =
    by_test d (sizes_in frames) (choice == 11) (late_number frames >>= alter frames) (from_12 choice) (λ e. late_alter_can d frames n some) (λ e. from_12_can d (sizes_in frames) choice n)

from_10_can : (d : Domain) (frames : List Frame) (choice : ℕ) → Nodes d → 0 < length frames → Can d (sizes_in frames) (from_10 frames choice)
from_10_can d frames choice n some =
    by_test d (sizes_in frames) (choice == 10) (any_number frames >>= deliver frames) (from_11 frames choice) (λ e. any_can d frames n some) (λ e. from_11_can d frames choice n some)

from_3_can : (d : Domain) (frames : List Frame) (choice : ℕ) → Nodes d → 0 < length frames → Can d (sizes_in frames) (from_3 frames choice)
from_3_can d frames choice n some =
    by_test d (sizes_in frames) (nat_le choice 9) (late_number frames >>= deliver frames) (from_10 frames choice) (λ e. late_can d frames n some) (λ e. from_10_can d frames choice n some)

from_1_can : (d : Domain) (frames : List Frame) (choice : ℕ) → Nodes d → 0 < length frames → Can d (sizes_in frames) (from_1 frames choice)
from_1_can d frames choice n some =
    by_test d (sizes_in frames) (nat_le choice 2) roam (from_3 frames choice) (λ e. roam_can d (sizes_in frames) n) (λ e. from_3_can d frames choice n some)

event_by_can : (d : Domain) (frames : List Frame) (choice : ℕ) → Nodes d → (choice ≢ 0 → 0 < length frames) → Can d (sizes_in frames) (event_by frames choice)
unfolding event_by
event_by_can d frames choice n sent =
    by_test d (sizes_in frames) (choice == 0) connect (from_1 frames choice) (λ e. connect_can d (sizes_in frames) n) (λ no.
    let low : 0 < choice = some_of choice no in
    from_1_can d frames choice n (sent (λ e. omega (arith, e, low))))

chosen : (b : Bool) (count c : ℕ) → b ≡ (count == 0) → (if b then 0 else c) ≢ 0 → 0 < count
chosen true count c e some = absurd (some refl)
chosen false count c e some = some_of count (sym e)

-- whatever frames were sent
pub can_happen : (d : Domain) (frames : List Frame) → Nodes d → (x : ℕ) → IsDrawn d (sizes_in frames) (event_of frames x).0
unfolding event_of
can_happen d frames n x =
    event_by_can d frames (if length frames == 0 then 0 else drawn 16 x) n (chosen (length frames == 0) (length frames) (drawn 16 x) refl) (after x)

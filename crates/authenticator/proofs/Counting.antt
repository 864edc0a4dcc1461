-- Replay counters: those that messages were sent with, and those in the octets of M1 and M3.
use Rattle.std.proofs.Common.{◌≡◌, ℕ, suc, ◌+◌, ◌<◌, ◌≤◌, ◌^◌, List, ◌∷◌, length, drop, refl, sym, ap, ◌∙◌, arith}
use Rattle.std.proofs.lemmas.Nat.{from_be_bytes-to_be_bytes_8}
use Rattle.std.proofs.lemmas.List.{length-map}
use Rattle.std.specs.Int.{w64}
use Rattle.domain_base.specs.Places.{big_endian_at}
use Rattle.domain_base.specs.declared.names.Akm.{Akm}
use Rattle.domain_base.specs.declared.names.Node.{Node}
use Rattle.domain_base.specs.declared.names.Node.TheVariants.{Ap, Sta}
use Rattle.air_frame.specs.Control.{data_header_length}
use Rattle.air_frame.specs.Sent.{IsAddress}
use Rattle.air_frame.proofs.SentFrames.{eapol_data_sent}
use Rattle.eapol_key.specs.declared.messages.Message.{Message}
use Rattle.eapol_key.specs.KeyFrame.{KeyFields}
use Rattle.eapol_key.specs.Octets.{frame_octets}
use Rattle.eapol_key.specs.Sealed.{sealed}
use Rattle.run_journal.specs.declared.domain.Domain.{Domain}
use Rattle.run_journal.specs.declared.acts.Kind.TheVariants.{Key}
use Rattle.run_journal.specs.declared.acts.Act.{Act}
use Rattle.run_journal.specs.Questions.{all_sent}
use Rattle.domain_rules.specs.Network.{address, bssid, direction}
use Rattle.domain_rules.specs.Frames.{in_data}
use Rattle.domain_rules.specs.Asking.{replay_counter, offered}
use Rattle.domain_rules.specs.Counters.{sent_count}
use Rattle.authenticator.specs.Counters.{listed, added, count}
use Rattle.authenticator.specs.declared.counters.Offers.{Offers}
use Rattle.authenticator.specs.declared.counters.Offers.TheVariants.{Zero, One, Two, Three, Four}

-- ---- those that messages were sent with

-- as many were sent
pub count_is : (p : Node) (m : Message) (part : List Act) (offers : List ℕ) → offered p m part ≡ offers → sent_count p m part ≡ length offers
count_is p m part offers is = sym (length-map (all_sent p (Key m) part) replay_counter) ∙ ap length is

-- four at most
pub few : (o : Offers) → count o ≤ 4
few Zero = omega arith
few (One a) = omega arith
few (Two a b) = omega arith
few (Three a b c) = omega arith
few (Four a b c d) = omega arith

-- one more
pub listed_added : (e : ℕ) (o : Offers) → count o < 4 → listed (added e o) ≡ e ∷ listed o
listed_added e Zero less = refl
listed_added e (One a) less = refl
listed_added e (Two a b) less = refl
listed_added e (Three a b c) less = refl
listed_added e (Four a b c d) less = absurd (omega (arith, less))

pub count_added : (e : ℕ) (o : Offers) → count o < 4 → count (added e o) ≡ suc (count o)
count_added e o less = ap length (listed_added e o less)

-- ---- the counter in the octets

address-bssid : (d : Domain) (n p : Node) → IsAddress (address d n) → IsAddress (address d p) → IsAddress (bssid d n p)
address-bssid d (Ap k) p l m = l
address-bssid d (Sta k) p l m = m

body_is : (d : Domain) (n p : Node) (frame : List ℕ) → IsAddress (address d n) → IsAddress (address d p) → frame ≡ drop (data_header_length (in_data d n p frame) + 8) (in_data d n p frame)
body_is d n p frame l m = cc ((eapol_data_sent (direction n) (address d p) (address d n) (bssid d n p) frame m l (address-bssid d n p l m)).0)

counter_plain : (f : KeyFields) → f.counter < 2 ^ 64 → big_endian_at w64 9 (frame_octets f) ≡ f.counter
unfolding frame_octets
counter_plain f low = from_be_bytes-to_be_bytes_8 f.counter low

counter_sealed : (akm : Akm) (kck : List ℕ) (f : KeyFields) → f.counter < 2 ^ 64 → big_endian_at w64 9 (sealed akm kck (frame_octets f)) ≡ f.counter
unfolding frame_octets
counter_sealed akm kck f low = from_be_bytes-to_be_bytes_8 f.counter low

pub replay_plain : (d : Domain) (n p : Node) (f : KeyFields) → IsAddress (address d n) → IsAddress (address d p) → f.counter < 2 ^ 64 → replay_counter (in_data d n p (frame_octets f)) ≡ f.counter
replay_plain d n p f l m low = ap (λ (x : List ℕ). big_endian_at w64 9 x) (sym (body_is d n p (frame_octets f) l m)) ∙ counter_plain f low

pub replay_sealed : (d : Domain) (n p : Node) (akm : Akm) (kck : List ℕ) (f : KeyFields) → IsAddress (address d n) → IsAddress (address d p) → f.counter < 2 ^ 64
    → replay_counter (in_data d n p (sealed akm kck (frame_octets f))) ≡ f.counter
replay_sealed d n p akm kck f l m low = ap (λ (x : List ℕ). big_endian_at w64 9 x) (sym (body_is d n p (sealed akm kck (frame_octets f)) l m)) ∙ counter_sealed akm kck f low

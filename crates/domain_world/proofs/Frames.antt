-- The octets of a frame that was sent, changed or cut.
use Rattle.std.proofs.Common.{◌≡◌, ℕ, zero, suc, ◌<◌, ◌≤◌, ◌+◌, List, [], ◌∷◌, ◌++◌, length, take, drop, refl, sym, ap, subst, ◌∙◌, arith}
use Rattle.std.specs.Prelude.{slice_set, slice_index_or, slice_index, bit_xor}
use Rattle.std.proofs.lemmas.List.{length-take-le}
use Rattle.std.proofs.lemmas.Grind.{get_or_default_zero}
use Rattle.domain_base.specs.declared.names.Node.{Node}
use Rattle.run_journal.specs.declared.domain.Event.{Event}
use Rattle.run_journal.specs.declared.domain.Event.TheVariants.{Alter}
use Rattle.run_journal.specs.declared.acts.Entry.{Entry}
use Rattle.domain_rules.specs.Explained.{altered, WasSent, HappensAt}
use Rattle.domain_world.specs.Ordering.{node_of}
use Rattle.domain_rules.specs.Rows.{Take}
use Rattle.domain_rules.proofs.Journals as rules
use Rattle.domain_world.specs.State.{State}
use Rattle.domain_world.specs.Owning.{IsNumbered, HasOctets, Places}
use Rattle.domain_world.specs.Acting.{IsChanged}
use Rattle.domain_world.specs.Comings.{event_at}

-- ---- no two frames have one number

to_rules : (j : List Entry) → IsNumbered j → rules.IsNumbered j
unfolding IsNumbered
to_rules [] is = tt
to_rules (e ∷ past) is = (is.0, to_rules past is.1)

-- a frame that was sent before a round was sent before each later one
sent_before : (j : List Entry) (round later number : ℕ) (octets : List ℕ) → round ≤ later → WasSent j round number octets → WasSent j later number octets
sent_before j round later number octets low sent = record { entry = sent.entry; there = sent.there; earlier = omega (arith, low, sent.earlier); is = sent.is; act = sent.act }

pub same_frame : (j : List Entry) (round other number : ℕ) (x y : List ℕ) → IsNumbered j → WasSent j round number x → WasSent j other number y → x ≡ y
same_frame j round other number x y is sent too =
    rules.one_frame j (round + other) number x y (to_rules j is) (sent_before j round (round + other) number x (omega arith) sent) (sent_before j other (round + other) number y (omega arith) too)

pub long_enough : (w : State) (j : List Entry) (round number size : ℕ) (octets : List ℕ) → Places w j → HasOctets j number size → WasSent j round number octets → size ≤ length octets
long_enough w j round number size octets own has sent =
    omega (arith, has.long, ap (λ (l : List ℕ). length l) (same_frame j has.round round number has.octets octets own.numbered has.sent sent))

-- ---- one octet is changed

set_parts : (xs : List ℕ) (i y : ℕ) → i < length xs → slice_set xs i y ≡ take i xs ++ y ∷ drop (suc i) xs
set_parts [] i y low = absurd (omega arith)
set_parts (x ∷ xs) zero y low = refl
set_parts (x ∷ xs) (suc i) y low = ap (λ (l : List ℕ). x ∷ l) (set_parts xs i y (omega arith))

pub set_altered : (frame copy : List ℕ) (place mask x : ℕ) → copy ≡ frame → place < length frame → x ≡ slice_index_or copy place x → slice_set copy place (bit_xor x mask) ≡ altered place mask frame
set_altered frame copy place mask x is low at =
    let old : x ≡ slice_index frame place = at ∙ ap (λ (l : List ℕ). slice_index_or l place x) is ∙ get_or_default_zero frame place x low in
    ap (λ (l : List ℕ). slice_set l place (bit_xor x mask)) is ∙ set_parts frame place (bit_xor x mask) low
    ∙ ap (λ (o : ℕ). take place frame ++ bit_xor o mask ∷ drop (suc place) frame) old

-- ---- the first octets

pub cut_length : (frame : List ℕ) (size : ℕ) → size ≤ length frame → size ≡ length (take size frame)
cut_length frame size low = sym (length-take-le size frame low)

-- ---- what comes by an event that changes an octet

pub comes_changed : (event : Event) (j : List Entry) (round number place mask : ℕ) (to : Node) (changed : List ℕ) → event ≡ Alter number place mask to → IsChanged event j round changed → HappensAt event j round (node_of event) (event_at event changed)
comes_changed event j round number place mask to changed is = subst (λ (e : Event). IsChanged e j round changed → HappensAt e j round (node_of e) (event_at e changed)) (sym is) (λ held. (held.0, (held.1.0, (refl, ap Take held.1.1))))

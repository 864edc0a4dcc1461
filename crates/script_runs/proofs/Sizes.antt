-- The frames that a journal has, by their sizes.
use Rattle.std.proofs.Common.{◌≡◌, ℕ, suc, ◌-◌, ◌<◌, ◌≤◌, ◌&&◌, Bool, true, false, if◌then◌else◌, cond, List, [], ◌∷◌, ◌++◌, length, Option, None, Some, inl, inr, refl, sym, ap, subst, ◌∙◌, arith, length-append, get_or}
use Rattle.std.specs.Prelude.{nat_le, slice_index}
use Rattle.std.proofs.lemmas.Bool.{cases_lt}
use Rattle.std.proofs.lemmas.List.{get_or_append_left, get_or-append_right}
use Rattle.domain_base.specs.declared.names.Peer.{Peer}
use Rattle.run_journal.specs.declared.domain.Event.{Event}
use Rattle.run_journal.specs.declared.domain.Event.TheVariants.{Connect, Roam, Deliver, Alter, Cut, Inject, Retry, Rekey, Send, Expire, Revoke, Leave, Secret, Renew, Announce}
use Rattle.run_journal.specs.declared.acts.Kind.{Kind}
use Rattle.run_journal.specs.declared.acts.Seal.{Seal}
use Rattle.run_journal.specs.declared.acts.Act.{Act}
use Rattle.run_journal.specs.declared.acts.Act.TheVariants.{Sent}
use Rattle.run_journal.specs.declared.acts.Entry.{Entry}
use Rattle.run_journal.specs.Acts.{is_sent}
use Rattle.run_journal.specs.Premises.{In}
use Rattle.domain_rules.specs.Explained.{frames, number_of}
use Rattle.domain_world.specs.State.{State}
use Rattle.domain_world.specs.Owning.{Owns, IsNumbered, HasOctets, IsFrameIn, IsEventIn}
use Rattle.script_lines.specs.Script.{size_of}
use Rattle.frame_script.specs.Headers.{sizes_of, size_sent}
use Rattle.script_lines.specs.Headers.{CanHappen, IsSized}

-- there are as many sizes as frames

one_count : (a : Act) (xs : List ℕ) (n : ℕ) → length xs ≡ n → length (xs ++ size_sent a) ≡ cond (is_sent a) (suc n) n
one_count (Sent p k octets s) xs n e = omega (arith, length-append xs (length octets ∷ []), e)
one_count _ xs n e = omega (arith, length-append xs [], e)

pub sizes_count : (j : List Entry) → length (sizes_of j) ≡ frames j
unfolding sizes_of
sizes_count [] = refl
sizes_count (e ∷ past) = one_count e.act (sizes_of past) (frames past) (sizes_count past)

-- the frame of a number, from 0, and its size
record IsFrame (j : List Entry) (n size : ℕ) : Type 0 where
  entry : Entry
  there : In entry j
  number_is : entry.number ≡ suc n
  octets : List ℕ
  act : (p : Peer) × ((k : Kind) × ((s : Option Seal) × (entry.act ≡ Sent p k octets s)))
  long : size ≡ length octets

earlier_frame : (e : Entry) (past : List Entry) (n size : ℕ) → IsFrame past n size → IsFrame (e ∷ past) n size
earlier_frame e past n size f = record {
  entry = f.entry;
  there = inr f.there;
  number_is = f.number_is;
  octets = f.octets;
  act = f.act;
  long = f.long;
}

-- the newest entry and those before it
newest_frame : (e : Entry) (past : List Entry) (a : Act) (n : ℕ) → e.act ≡ a → e.number ≡ number_of e.act past → n < length (sizes_of past ++ size_sent a)
    → (n < length (sizes_of past) → IsFrame past n (get_or (sizes_of past) n 0)) → IsFrame (e ∷ past) n (get_or (sizes_of past ++ size_sent a) n 0)
newest_frame e past (Sent p k octets s) n is number low before =
    elim (cases_lt n (length (sizes_of past))) [
      | inl old ↦ subst (λ (size : ℕ). IsFrame (e ∷ past) n size) (sym (get_or_append_left (sizes_of past) (length octets ∷ []) 0 n old)) (earlier_frame e past n _ (before old))
      | inr new ↦
          let last : n ≡ length (sizes_of past) = omega (arith, low, new, length-append (sizes_of past) (length octets ∷ [])) in
          let none : n - length (sizes_of past) ≡ 0 = omega (arith, last) in
          record {
            entry = e;
            there = inl refl;
            number_is = number ∙ ap (λ (x : Act). number_of x past) is ∙ ap suc (sym (sizes_count past) ∙ sym last);
            octets = octets;
            act = (p, (k, (s, is)));
            long = get_or-append_right (sizes_of past) (length octets ∷ []) (length (sizes_of past)) n 0 refl new ∙ ap (λ (i : ℕ). get_or (length octets ∷ []) i 0) none;
          }
    ]
newest_frame e past _ n is number low before =
    let old : n < length (sizes_of past) = omega (arith, low, length-append (sizes_of past) []) in
    subst (λ (size : ℕ). IsFrame (e ∷ past) n size) (sym (get_or_append_left (sizes_of past) [] 0 n old)) (earlier_frame e past n _ (before old))

frame_of : (j : List Entry) (n : ℕ) → IsNumbered j → n < length (sizes_of j) → IsFrame j n (get_or (sizes_of j) n 0)
unfolding sizes_of IsNumbered
frame_of [] n numbered low = absurd (omega (arith, low))
frame_of (e ∷ past) n numbered low = newest_frame e past e.act n refl numbered.0 low (λ old. frame_of past n numbered.1 old)

-- ---- what can be asked can happen

chosen : (b : Bool) (v w : ℕ) → (if b then Some v else None) ≡ Some w → v ≡ w
chosen true v w e = cc
chosen false v w e = cc

size_is : (sizes : List ℕ) (number whole : ℕ) → size_of sizes number ≡ Some whole → slice_index sizes (number - 1) ≡ whole
unfolding size_of
size_is sizes number whole e = chosen (nat_le 1 number && nat_le number (length sizes)) (slice_index sizes (number - 1)) whole e

sized_octets : (j : List Entry) (number size : ℕ) → IsNumbered j → IsSized (sizes_of j) number size → HasOctets j number size
sized_octets j number size numbered s =
    let f = frame_of j (number - 1) numbered (omega (arith, s.some, s.sent)) in
    let whole = size_is (sizes_of j) number s.whole s.is in
    record {
      round = suc f.entry.round;
      octets = f.octets;
      sent = record { entry = f.entry; there = f.there; earlier = omega arith; is = omega (arith, f.number_is, s.some); act = f.act };
      long = omega (arith, s.within, whole, f.long);
    }

number_low : (w : State) (j : List Entry) (number size : ℕ) → Owns w j → IsSized (sizes_of j) number size → number ≤ length w.frames
number_low w j number size own s = omega (arith, s.sent, sizes_count j, own.placed.count)

frame_in : (w : State) (j : List Entry) (number size : ℕ) → Owns w j → IsSized (sizes_of j) number size → IsFrameIn (length w.frames) j number size
frame_in w j number size own s = (s.some, number_low w j number size own s, sized_octets j number size own.placed.numbered s)

pub event_in : (w : State) (j : List Entry) (e : Event) → Owns w j → CanHappen w.domain (sizes_of j) e → IsEventIn w.domain (length w.frames) j e
event_in w j (Connect s a) own can = can
event_in w j (Roam s a) own can = can
event_in w j (Deliver number to) own can = (can.0, frame_in w j number 0 own can.1)
event_in w j (Alter number place mask to) own can = (can.0, frame_in w j number (suc place) own can.1)
event_in w j (Cut number size to) own can = (can.0, frame_in w j number size own can.1)
event_in w j (Inject to octets) own can = can
event_in w j (Retry a s) own can = can
event_in w j (Rekey a) own can = can
event_in w j (Send from to tid octets) own can = can
event_in w j (Expire a s) own can = can
event_in w j (Revoke a s) own can = can
event_in w j (Leave s) own can = can
event_in w j (Secret named psk) own can = can
event_in w j (Renew a s) own can = can
event_in w j (Announce a octets) own can = can

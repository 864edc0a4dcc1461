-- New group keys of an access point, as they are drawn.
use Rattle.std.proofs.Common.{◌≡◌, ◌∙◌, ℕ, suc, ◌+◌, ◌<◌, ◌≤◌, Bool, true, false, List, [], ◌∷◌, ◌++◌, Option, Some, None, is_some, refl, sym, ap, ap₂, arith, inl, inr}
use Rattle.std.specs.Prelude.{◌==◌, ◌%◌, nat_lt}
use Rattle.std.specs.List.{AllByRecursion}
use Rattle.std.proofs.lemmas.Bool.{cases_Bool, eqb-true, ltb-true}
use Rattle.domain_base.specs.declared.names.Mac.{Mac}
use Rattle.domain_base.specs.declared.names.Node.{Node}
use Rattle.eapol_key.specs.declared.messages.Message.TheVariants.{G1}
use Rattle.run_journal.specs.declared.acts.Drawn.TheVariants as draw
use Rattle.run_journal.specs.declared.acts.GroupKind.TheVariants as groups
use Rattle.run_journal.specs.declared.domain.Domain.{Domain}
use Rattle.run_journal.specs.declared.acts.Act.{Act}
use Rattle.run_journal.specs.declared.acts.Act.TheVariants.{Drew}
use Rattle.run_journal.specs.Questions.{handshake, draws, add}
use Rattle.domain_rules.specs.Asking.{offered}
use Rattle.domain_rules.specs.Network.{draw_end, gtk}
use Rattle.domain_rules.specs.PacketNumbers.{SendKey}
use Rattle.domain_rules.specs.AccessPointRows.{draw_igtk}
use Rattle.domain_rules.proofs.Parts.{IsApart, apart-drew}
use Rattle.ccmp_guard.specs.Held.{Held}
use Rattle.data_frames.specs.Holding.{HoldsGroup}
use Rattle.ft_exchange.proofs.TargetStanding.{Passes}
use Rattle.group_key.specs.declared.keys.GroupKey.{GroupKey}
use Rattle.group_key.specs.Keys.{igtk_drawn}
use Rattle.targets.proofs.Passing.{drew_passes}
use Rattle.ap_node.specs.declared.sending.Sending.{Sending}
use Rattle.ap_node.specs.Drawing.{last_of, drawn_after, drew}
use Rattle.ap_node.specs.InUse.{made_act, made_acts}
use Rattle.ap_node.specs.Stands.{AllPlain, HoldsAnnouncing, HoldsInUse}
use Rattle.ap_node.proofs.Added.{two_added}
use Rattle.ap_node.proofs.Others.{AllLeave}

-- ---- numbers

one_low : (n : ℕ) → n < draw_end → n + 1 ≤ draw_end
one_low n low = omega (arith, low)

two_low : (n : ℕ) → suc n < draw_end → n + 2 ≤ draw_end
two_low n low = omega (arith, low)

pub low_by : (b : Bool) (number : ℕ) → last_of b number < draw_end → drawn_after b number ≤ draw_end
low_by false number low = one_low number low
low_by true number low = two_low number low

before : (n : ℕ) → suc n < draw_end → n < draw_end
before n low = omega (arith, low)

pub number_low : (b : Bool) (number : ℕ) → last_of b number < draw_end → number < draw_end
number_low false number low = low
number_low true number low = before number low

above_one : (n : ℕ) → n < n + 1
above_one n = omega arith

above_two : (n : ℕ) → n < n + 2
above_two n = omega arith

pub further : (b : Bool) (number : ℕ) → number < drawn_after b number
further false number = above_one number
further true number = above_two number

-- whether there are draw numbers
pub past_end : (b : Bool) (number : ℕ) → draw_end ≤ number → false ≡ nat_lt (last_of b number) draw_end
past_end b number past = sym (elim (cases_Bool (nat_lt (last_of b number) draw_end)) [
  | inl low ↦ absurd (omega (arith, past, number_low b number (ltb-true (last_of b number) draw_end low)))
  | inr other ↦ other
])

next : (n : ℕ) → n + 1 ≡ suc n
next n = omega arith

-- a place after another
pub next_apart : (x y : ℕ) → x ≡ suc y → (x == y) ≡ false
next_apart x y next = elim (cases_Bool (x == y)) [ inl is ↦ absurd (omega (arith, eqb-true x y is, next)) | inr other ↦ other ]

-- ---- the acts, with an IGTK or without one

abbrev pub drew_by : Bool → Domain → Node → ℕ → List Act
drew_by b d n number = Drew (draw.Group groups.Gtk (gtk d n number)) ∷ draw_igtk b d n (suc number)

pub drew_is : (b : Bool) (d : Domain) (n : Node) (number : ℕ) → drew (gtk d n number) (igtk_drawn b d n (suc number)) ≡ drew_by b d n number
drew_is false d n number = refl
drew_is true d n number = refl

pub drawn_there : (b : Bool) (d : Domain) (n : Node) (number : ℕ) → is_some (igtk_drawn b d n number) ≡ b
drawn_there false d n number = refl
drawn_there true d n number = refl

pub drew-apart : (p : Node) (b : Bool) (d : Domain) (n : Node) (number : ℕ) → AllByRecursion (IsApart p) (drew_by b d n number)
drew-apart p false d n number = (apart-drew p _, tt)
drew-apart p true d n number = (apart-drew p _, (apart-drew p _, tt))

pub drew-leaves : (p : Node) (b : Bool) (d : Domain) (n : Node) (number : ℕ) → AllLeave p (drew_by b d n number)
drew-leaves p false d n number tk = (record { used = λ h. refl; got = λ tid h. refl }, tt)
drew-leaves p true d n number tk = (record { used = λ h. refl; got = λ tid h. refl }, (record { used = λ h. refl; got = λ tid h. refl }, tt))

pub drew-passes : (p : Node) (b : Bool) (d : Domain) (n : Node) (number : ℕ) → AllByRecursion (Passes p) (drew_by b d n number)
drew-passes p false d n number = (drew_passes p _, tt)
drew-passes p true d n number = (drew_passes p _, (drew_passes p _, tt))

pub drew-plain : (b : Bool) (d : Domain) (n : Node) (number : ℕ) → AllPlain (drew_by b d n number)
drew-plain false d n number = ((tt, refl), tt)
drew-plain true d n number = ((tt, refl), ((tt, refl), tt))

one_more : (n first m : ℕ) → n ≡ first + m → n + 1 ≡ first + suc m
one_more n first m is = omega (arith, is)

two_more : (n first m : ℕ) → n ≡ first + m → n + 2 ≡ first + suc (suc m)
two_more n first m is = omega (arith, is)

pub drew-draws : (b : Bool) (d : Domain) (n : Node) (number first drawn : ℕ) (h : List Act) → drawn ≡ first + draws h → drawn_after b drawn ≡ first + draws (add (drew_by b d n number) h)
drew-draws false d n number first drawn h is = one_more drawn first (draws h) is
drew-draws true d n number first drawn h is = two_more drawn first (draws h) is

-- no G1 was sent since
pub drew-none : (p : Node) (b : Bool) (d : Domain) (n : Node) (number : ℕ) (h : List Act) → offered p G1 (handshake groups.Gtk p (add (drew_by b d n number) h)) ≡ []
drew-none p false d n number h = refl
drew-none p true d n number h = refl

-- the current group keys in use are still
group_on : (k : Held) (b : Bool) (d : Domain) (n : Node) (number : ℕ) (h : List Act) → HoldsGroup k h → HoldsGroup k (add (drew_by b d n number) h)
group_on k false d n number h at = record { id = at.id; role = at.role; current_is = at.current_is; used = at.used }
group_on k true d n number h at = record { id = at.id; role = at.role; current_is = at.current_is; used = at.used }

announcing_on : (protected : Bool) (o : Option SendKey) (b : Bool) (d : Domain) (n : Node) (number : ℕ) (h : List Act) → HoldsAnnouncing protected o h → HoldsAnnouncing protected o (add (drew_by b d n number) h)
announcing_on false None b d n number h at = tt
announcing_on false (Some k) b d n number h at = absurd at
announcing_on true None b d n number h at = absurd at
announcing_on true (Some k) false d n number h at = record { current_is = at.current_is; used = at.used }
announcing_on true (Some k) true d n number h at = record { current_is = at.current_is; used = at.used }

pub drew-in_use : (protected : Bool) (s : Sending) (b : Bool) (d : Domain) (n : Node) (number : ℕ) (h : List Act) → HoldsInUse protected s h → HoldsInUse protected s (add (drew_by b d n number) h)
drew-in_use protected s b d n number h at = record { gtk = group_on s.gtk b d n number h at.gtk; igtk = announcing_on protected s.igtk b d n number h at.igtk }

-- ---- as the code comes by them

pub drawn_with : (b : Bool) (d : Domain) (n : Node) (number : ℕ) (key : List ℕ) → b ≡ true → key ≡ gtk d n number → Some key ≡ igtk_drawn b d n number
drawn_with b d n number key is key_is = ap (λ (k : List ℕ). Some k) key_is ∙ sym (ap (λ (c : Bool). igtk_drawn c d n number) is)

pub drawn_without : (b : Bool) (d : Domain) (n : Node) (number : ℕ) → b ≡ false → None ≡ igtk_drawn b d n number
drawn_without b d n number is = sym (ap (λ (c : Bool). igtk_drawn c d n number) is)

pub drawn_next : (b : Bool) (d : Domain) (n : Node) (number : ℕ) (o : Option (List ℕ)) → o ≡ igtk_drawn b d n (number + 1) → o ≡ igtk_drawn b d n (suc number)
drawn_next b d n number o is = is ∙ ap (igtk_drawn b d n) (next number)

pub drew_one : (old mid : List Act) (key : List ℕ) (o : Option (List ℕ)) → mid ≡ old ++ Drew (draw.Group groups.Gtk key) ∷ [] → o ≡ None → mid ≡ old ++ drew key o
drew_one old mid key o is none = is ∙ ap (λ (i : Option (List ℕ)). old ++ drew key i) (sym none)

pub drew_two : (old mid new : List Act) (key igtk : List ℕ) (o : Option (List ℕ)) → mid ≡ old ++ Drew (draw.Group groups.Gtk key) ∷ [] → new ≡ mid ++ Drew (draw.Group groups.Igtk igtk) ∷ [] → o ≡ Some igtk → new ≡ old ++ drew key o
drew_two old mid new key igtk o is are some = two_added old mid new _ _ is are ∙ ap (λ (i : Option (List ℕ)). old ++ drew key i) (sym some)

pub made_one : (old mid : List Act) (g : GroupKey) (o : Option GroupKey) (b : Mac) (e : Act) → mid ≡ old ++ e ∷ [] → e ≡ made_act groups.Gtk g b → o ≡ None → mid ≡ old ++ made_acts g o b
made_one old mid g o b e is act none = is ∙ ap (λ (x : Act). old ++ x ∷ []) act ∙ ap (λ (i : Option GroupKey). old ++ made_acts g i b) (sym none)

pub made_two : (old mid new : List Act) (g t : GroupKey) (o : Option GroupKey) (b : Mac) (e f : Act) → mid ≡ old ++ e ∷ [] → new ≡ mid ++ f ∷ [] → e ≡ made_act groups.Gtk g b → f ≡ made_act groups.Igtk t b → o ≡ Some t → new ≡ old ++ made_acts g o b
made_two old mid new g t o b e f is are act then_ some =
    two_added old mid new _ _ is are ∙ ap₂ (λ (x y : Act). old ++ x ∷ y ∷ []) act then_ ∙ ap (λ (i : Option GroupKey). old ++ made_acts g i b) (sym some)

-- ---- what an access point has of them

-- the key id of a GTK has two bits
pub id_small : (n : ℕ) → suc (n % 2) < 4
id_small n = omega arith

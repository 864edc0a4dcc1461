-- The parts of safety by what is kept of a node.
use Rattle.std.proofs.Common.{◌≡◌, ◌↔◌, ℕ, Bool, IsTrue, List, [], ◌∷◌, reverse, Option, Some, None, refl, sym, ap, ◌∙◌, subst, inl, inr}
use Rattle.std.specs.Prelude.{is_some, not, option_map}
use Rattle.std.proofs.lemmas.List.{reverse-reverse}
use Rattle.run_journal.specs.declared.acts.Act.{Act}
use Rattle.run_journal.specs.declared.acts.Act.TheVariants as act
use Rattle.run_journal.specs.declared.acts.Entry.{Entry}
use Rattle.run_journal.specs.Premises.{In}
use Rattle.run_journal.specs.Safe.{Use, installed, use_of, up_of}
use Rattle.packet_history.specs.declared.packets.Packet.{Packet}
use Rattle.packet_history.specs.Packets.{packet, install_packet, use_packet, up_packet, place_of}
use Rattle.packet_history.specs.Own.{InstallsNewIn, UsesNewIn, OnceIn, SomeIn, SourcedIn, UsesBefore, UsedThere}
use Rattle.packet_history.proofs.Kept.{none_has, none_there, Stands, some_there}

-- ---- a key or number as a packet

abbrev key_packet : List ℕ → Packet
key_packet key = packet key 0

abbrev use_as : Use → Packet
use_as u = packet u.key u.number

installs : (a : Act) → install_packet a ≡ option_map key_packet (installed a)
installs (act.Installed p k) = refl
installs _ = refl

uses : (a : Act) → use_packet a ≡ option_map use_as (use_of a)
uses (act.Used p k id n octets) = refl
uses _ = refl

ups : (a : Act) → up_packet a ≡ option_map use_as (up_of a)
ups (act.HandedUp p k id tid n octets) = refl
ups _ = refl

-- what makes a packet
made_of : {A : Type 0} (h : A → Packet) (o : Option A) (q : Packet) → option_map h o ≡ Some q → (x : A) × ((o ≡ Some x) × (h x ≡ q))
made_of h None q is = absurd (cc is)
made_of h (Some x) q is = (let same : h x ≡ q = cc is in (x, (refl, same)))

one_packet : (u v : Use) → u.key ≡ v.key → u.number ≡ v.number → use_as u ≡ use_as v
one_packet u v key number = ap (λ (k : List ℕ). packet k u.number) key ∙ ap (packet v.key) number

-- ---- new ones

-- the act installs nothing
pub installs_none : (a : Act) (own : List Entry) → install_packet a ≡ None → InstallsNewIn a own
installs_none a own none m key there is too = (let both : Some (key_packet key) ≡ None = sym (ap (option_map key_packet) is) ∙ sym (installs a) ∙ none in cc both)

pub installs_new : (a : Act) (own : List Entry) (q : Packet) (b : Bool) → install_packet a ≡ Some q → b ≡ is_some (place_of install_packet q own) → IsTrue (not b) ↔ InstallsNewIn a own
installs_new a own q b is has =
    let w = none_has install_packet q own b has in (
      λ t m key there first second.
          w.0 t m there (installs m.act ∙ ap (option_map key_packet) second ∙ sym (installs a ∙ ap (option_map key_packet) first) ∙ is),
      λ new. w.1 (λ m there other.
          (let mine = made_of key_packet (installed a) q (sym (installs a) ∙ is) in
          let its = made_of key_packet (installed m.act) q (sym (installs m.act) ∙ other) in
          let same : its.0 ≡ mine.0 = ap (λ (x : Packet). x.key) (its.1.1 ∙ sym mine.1.1) in
          new m mine.0 there mine.1.0 (its.1.0 ∙ ap (λ (k : List ℕ). Some k) same))),
    )

module _ (f : Act → Option Packet) (g : Act → Option Use) (made : (a : Act) → f a ≡ option_map use_as (g a)) where
  pub none_new : (a : Act) (own : List Entry) → f a ≡ None → UsesNewIn g a own
  none_new a own none m u v there is too key number = (let both : Some (use_as u) ≡ None = sym (ap (option_map use_as) is) ∙ sym (made a) ∙ none in cc both)

  pub some_new : (a : Act) (own : List Entry) (q : Packet) (b : Bool) → f a ≡ Some q → b ≡ is_some (place_of f q own) → IsTrue (not b) ↔ UsesNewIn g a own
  some_new a own q b is has =
      let w = none_has f q own b has in (
        λ t m u v there first second key number.
            w.0 t m there (made m.act ∙ ap (option_map use_as) second ∙ ap (λ (x : Packet). Some x) (sym (one_packet u v key number)) ∙ sym (made a ∙ ap (option_map use_as) first) ∙ is),
        λ new. w.1 (λ m there other.
            (let mine = made_of use_as (g a) q (sym (made a) ∙ is) in
            let its = made_of use_as (g m.act) q (sym (made m.act) ∙ other) in
            let same : use_as mine.0 ≡ use_as its.0 = mine.1.1 ∙ sym its.1.1 in
            new m mine.0 its.0 there mine.1.0 its.1.0 (ap (λ (x : Packet). x.key) same) (ap (λ (x : Packet). x.number) same))),
      )

pub uses_none : (a : Act) (own : List Entry) → use_packet a ≡ None → UsesNewIn use_of a own
uses_none = none_new use_packet use_of uses

pub uses_new : (a : Act) (own : List Entry) (q : Packet) (b : Bool) → use_packet a ≡ Some q → b ≡ is_some (place_of use_packet q own) → IsTrue (not b) ↔ UsesNewIn use_of a own
uses_new = some_new use_packet use_of uses

pub hands_none : (a : Act) (own : List Entry) → up_packet a ≡ None → UsesNewIn up_of a own
hands_none = none_new up_packet up_of ups

pub hands_new : (a : Act) (own : List Entry) (q : Packet) (b : Bool) → up_packet a ≡ Some q → b ≡ is_some (place_of up_packet q own) → IsTrue (not b) ↔ UsesNewIn up_of a own
hands_new = some_new up_packet up_of ups

-- ---- some entry of a list

pub some_in : (P : Entry → Type 0) (own : List Entry) (m : Entry) → In m own → P m → SomeIn P own
some_in P [] m there is = there
some_in P (e ∷ own) m (inl here) is = inl (subst P here is)
some_in P (e ∷ own) m (inr there) is = inr (some_in P own m there is)

pub in_some : (P : Entry → Type 0) (own : List Entry) → SomeIn P own → (m : Entry) × (In m own × P m)
in_some P [] some = absurd some
in_some P (e ∷ own) (inl is) = (e, (inl refl, is))
in_some P (e ∷ own) (inr some) = (let w = in_some P own some in (w.0, (inr w.1.0, w.1.1)))

-- ---- what was used once

packet_used : (m : Entry) (u : Use) → use_of m.act ≡ Some u → use_packet m.act ≡ Some (use_as u)
packet_used m u is = uses m.act ∙ ap (option_map use_as) is

-- two entries with one packet are one
apart : (own : List Entry) (e m : Entry) (q : Packet) → UsesNewIn use_of e.act own → In m own → use_packet e.act ≡ Some q → use_packet m.act ≡ Some q → ⊥
apart own e m q new there is too =
    let mine = made_of use_as (use_of e.act) q (sym (uses e.act) ∙ is) in
    let its = made_of use_as (use_of m.act) q (sym (uses m.act) ∙ too) in
    let same : use_as mine.0 ≡ use_as its.0 = mine.1.1 ∙ sym its.1.1 in
    new m mine.0 its.0 there mine.1.0 its.1.0 (ap (λ (x : Packet). x.key) same) (ap (λ (x : Packet). x.number) same)

one_use : (own : List Entry) (m n : Entry) (q : Packet) → OnceIn use_of own → In m own → In n own → use_packet m.act ≡ Some q → use_packet n.act ≡ Some q → m ≡ n
one_use [] m n q once first second is too = absurd first
one_use (e ∷ own) m n q once (inl a) (inl b) is too = a ∙ sym b
one_use (e ∷ own) m n q once (inl a) (inr b) is too = absurd (apart own e n q once.0 b (ap (λ (x : Entry). use_packet x.act) (sym a) ∙ is) too)
one_use (e ∷ own) m n q once (inr a) (inl b) is too = absurd (apart own e m q once.0 a (ap (λ (x : Entry). use_packet x.act) (sym b) ∙ too) is)
one_use (e ∷ own) m n q once (inr a) (inr b) is too = one_use own m n q once.1 a b is too

-- ---- what is handed up

-- the entry hands nothing up
pub sources_none : (e : Entry) (own : List Entry) → up_of e.act ≡ None → SourcedIn e own
sources_none e own none u is = absurd (let both : Some u ≡ None = sym is ∙ none in cc both)

pub sources : (e : Entry) (own : List Entry) (u : Use) (place : Option ℕ) → up_of e.act ≡ Some u → place ≡ place_of use_packet (use_as u) own → OnceIn use_of own → UsedThere u e (reverse own) place ↔ SourcedIn e own
sources e own u place up is once = by place is
  where
    to_own : (k : ℕ) → Some k ≡ place_of use_packet (use_as u) own → UsedThere u e (reverse own) (Some k) → SourcedIn e own
    to_own k at (m, (there, before)) v too =
        let s : Stands use_packet (use_as u) own k = some_there use_packet (use_as u) own k (sym at) in
        let same : s.entry ≡ m = (let both : Some s.entry ≡ Some m = sym s.at ∙ there in cc both) in
        let one : u ≡ v = (let both : Some u ≡ Some v = sym up ∙ too in cc both) in
        subst (λ (x : Use). SomeIn (UsesBefore x e) own) one (some_in (UsesBefore u e) own s.entry s.there (subst (λ (x : Entry). UsesBefore u e x) (sym same) before))

    of_own : (o : Option ℕ) → o ≡ place_of use_packet (use_as u) own → SourcedIn e own → UsedThere u e (reverse own) o
    of_own None at sourced = (let w = in_some (UsesBefore u e) own (sourced u up) in none_there use_packet (use_as u) own w.0 (sym at) w.1.0 (packet_used w.0 u w.1.1.1))
    of_own (Some k) at sourced =
        let w = in_some (UsesBefore u e) own (sourced u up) in
        let s : Stands use_packet (use_as u) own k = some_there use_packet (use_as u) own k (sym at) in
        let same : w.0 ≡ s.entry = one_use own w.0 s.entry (use_as u) once w.1.0 s.there (packet_used w.0 u w.1.1.1) s.is in
        (s.entry, (s.at, subst (λ (x : Entry). UsesBefore u e x) same w.1.1))

    by : (o : Option ℕ) → o ≡ place_of use_packet (use_as u) own → UsedThere u e (reverse own) o ↔ SourcedIn e own
    by None at = (λ none. absurd none, of_own None at)
    by (Some k) at = (to_own k at, of_own (Some k) at)

-- as the code comes by it
abbrev pub used : List ℕ → ℕ → List ℕ → Use
used key number octets = record { key = key; number = number; octets = octets }

pub sourced_by : (e : Entry) (entries : List Entry) (u : Use) (place : Option ℕ) (r : Bool) → up_of e.act ≡ Some u → place ≡ place_of use_packet (use_as u) (reverse entries) → OnceIn use_of (reverse entries) → IsTrue r ↔ UsedThere u e entries place
    → IsTrue r ↔ SourcedIn e (reverse entries)
sourced_by e entries u place r up is once told =
    let back : reverse (reverse entries) ≡ entries = reverse-reverse entries in
    let w = sources e (reverse entries) u place up is once in (
      λ t. w.0 (subst (λ (l : List Entry). UsedThere u e l place) (sym back) (told.0 t)),
      λ s. told.1 (subst (λ (l : List Entry). UsedThere u e l place) back (w.1 s)),
    )

-- Derived keys do not collide exactly where entries with one key have it from one maker.
use Rattle.std.proofs.Common.{◌≡◌, ◌⊎◌, ℕ, List, [], ◌∷◌, Option, Some, None, refl, sym, ap, ◌∙◌, inl, inr}
use Rattle.domain_base.specs.declared.names.Node.{Node}
use Rattle.key_hierarchy.specs.declared.inputs.Inputs.{Inputs}
use Rattle.key_hierarchy.specs.declared.inputs.Ptk.{Ptk}
use Rattle.run_journal.specs.declared.acts.GroupKind.{GroupKind}
use Rattle.run_journal.specs.declared.acts.Drawn.TheVariants as draw
use Rattle.run_journal.specs.declared.acts.Act.{Act}
use Rattle.run_journal.specs.declared.acts.Act.TheVariants.{Drew, Derived}
use Rattle.run_journal.specs.declared.acts.Entry.{Entry}
use Rattle.run_journal.specs.Premises.{In, HasDerived, NoCollision, name}
use Rattle.run_journal.specs.Looking.{maker, temporal_key, confirmation_key, Agrees, AllAgree}

-- any two entries with one key have it from one maker
pub all_agree : (key : Act → Option (List ℕ)) (j : List Entry) → AllAgree key j → (a b : Entry) (v : List ℕ) → In a j → In b j → key a.act ≡ Some v → key b.act ≡ Some v → maker a.act ≡ maker b.act
all_agree key [] h a b v i k p q = elim i [ ]
all_agree key (e ∷ past) h a b v (inl i) (inl k) p q = ap (λ (x : Entry). maker x.act) (i ∙ sym k)
all_agree key (e ∷ past) h a b v (inl i) (inr k) p q = ap (λ (x : Entry). maker x.act) i ∙ sym (h.0 v b (ap (λ (x : Entry). key x.act) (sym i) ∙ p) k q)
all_agree key (e ∷ past) h a b v (inr i) (inl k) p q = h.0 v a (ap (λ (x : Entry). key x.act) (sym k) ∙ q) i p ∙ ap (λ (x : Entry). maker x.act) (sym k)
all_agree key (e ∷ past) h a b v (inr i) (inr k) p q = all_agree key past h.1 a b v i k p q

pub agree_all : (key : Act → Option (List ℕ)) (j : List Entry) → ((a b : Entry) (v : List ℕ) → In a j → In b j → key a.act ≡ Some v → key b.act ≡ Some v → maker a.act ≡ maker b.act) → AllAgree key j
agree_all key [] h = tt
agree_all key (e ∷ past) h = (λ v m p i q. h m e v (inr i) (inl refl) q p, agree_all key past (λ a b v i k p q. h a b v (inr i) (inr k) p q))

-- who may have a key
pub record IsDerived (act : Act) : Type 0 where
  pub peer : Node
  pub inputs : Inputs
  pub ptk : Ptk
  pub is : act ≡ Derived peer inputs ptk

confirmation_key_is : (act : Act) (v : List ℕ) → confirmation_key act ≡ Some v → (d : IsDerived act) × (d.ptk.kck ≡ v)
confirmation_key_is (Derived p i k) v h = (record { peer = p; inputs = i; ptk = k; is = refl }, cc)
confirmation_key_is _ v h = cc

temporal_key_is : (act : Act) (v : List ℕ) → temporal_key act ≡ Some v → ((d : IsDerived act) × (d.ptk.tk ≡ v)) ⊎ ((kind : GroupKind) × (act ≡ Drew (draw.Group kind v)))
temporal_key_is (Derived p i k) v h = inl (record { peer = p; inputs = i; ptk = k; is = refl }, cc)
temporal_key_is (Drew (draw.Group kind g)) v h = inr (kind, cc)
temporal_key_is _ v h = cc

has_derived : (j : List Entry) (e : Entry) → In e j → (d : IsDerived e.act) → HasDerived j d.inputs d.ptk
has_derived j e i d = (e, (i, (d.peer, d.is)))

maker_of_derived : (act : Act) (d : IsDerived act) → maker act ≡ Some (name d.inputs)
maker_of_derived act d = ap maker d.is

pub agree_on_kck : (j : List Entry) → NoCollision j → AllAgree confirmation_key j
agree_on_kck j h = agree_all confirmation_key j (λ a b v i k p q.
    let d = confirmation_key_is a.act v p in
    let f = confirmation_key_is b.act v q in
    maker_of_derived a.act d.0 ∙ ap Some (h.by_kck d.0.inputs f.0.inputs d.0.ptk f.0.ptk (has_derived j a i d.0) (has_derived j b k f.0) (d.1 ∙ sym f.1)) ∙ sym (maker_of_derived b.act f.0))

one_maker : (j : List Entry) → NoCollision j → (a b : Entry) (v : List ℕ) → In a j → In b j → temporal_key a.act ≡ Some v → temporal_key b.act ≡ Some v → maker a.act ≡ maker b.act
one_maker j h a b v i k p q = elim (temporal_key_is a.act v p) [
  | inl d ↦ elim (temporal_key_is b.act v q) [
    | inl f ↦ maker_of_derived a.act d.0 ∙ ap Some (h.by_tk d.0.inputs f.0.inputs d.0.ptk f.0.ptk (has_derived j a i d.0) (has_derived j b k f.0) (d.1 ∙ sym f.1)) ∙ sym (maker_of_derived b.act f.0)
    | inr f ↦ absurd (h.no_group_key f.0 d.0.inputs d.0.ptk b (has_derived j a i d.0) k (f.1 ∙ ap (λ (w : List ℕ). Drew (draw.Group f.0 w)) (sym d.1)))
  ]
  | inr d ↦ elim (temporal_key_is b.act v q) [
    | inl f ↦ absurd (h.no_group_key d.0 f.0.inputs f.0.ptk a (has_derived j b k f.0) i (d.1 ∙ ap (λ (w : List ℕ). Drew (draw.Group d.0 w)) (sym f.1)))
    | inr f ↦ ap maker d.1 ∙ sym (ap maker f.1)
  ]
]

pub agree_on_tk : (j : List Entry) → NoCollision j → AllAgree temporal_key j
agree_on_tk j h = agree_all temporal_key j (one_maker j h)

same_name_of : (a b : Act) (p q : Node) (i m : Inputs) (k l : Ptk) → a ≡ Derived p i k → b ≡ Derived q m l → maker a ≡ maker b → name i ≡ name m
same_name_of a b p q i m k l f g h = let e : Some (name i) ≡ Some (name m) = sym (ap maker f) ∙ h ∙ ap maker g in cc

drawn_apart : (kind : GroupKind) (a b : Act) (p : Node) (i : Inputs) (k : Ptk) → a ≡ Derived p i k → b ≡ Drew (draw.Group kind k.tk) → maker a ≡ maker b → ⊥
drawn_apart kind a b p i k f g h = let e : Some (name i) ≡ None = sym (ap maker f) ∙ h ∙ ap maker g in cc

pub apart_from : (j : List Entry) → AllAgree temporal_key j → AllAgree confirmation_key j → NoCollision j
apart_from j t c = record {
  by_kck = λ i m k l d f e. same_name_of d.0.act f.0.act d.1.1.0 f.1.1.0 i m k l d.1.1.1 f.1.1.1 (all_agree confirmation_key j c d.0 f.0 l.kck d.1.0 f.1.0 (ap confirmation_key d.1.1.1 ∙ ap Some e) (ap confirmation_key f.1.1.1));
  by_tk = λ i m k l d f e. same_name_of d.0.act f.0.act d.1.1.0 f.1.1.0 i m k l d.1.1.1 f.1.1.1 (all_agree temporal_key j t d.0 f.0 l.tk d.1.0 f.1.0 (ap temporal_key d.1.1.1 ∙ ap Some e) (ap temporal_key f.1.1.1));
  no_group_key = λ kind i k e d n f. drawn_apart kind d.0.act e.act d.1.1.0 i k d.1.1.1 f (all_agree temporal_key j t d.0 e k.tk d.1.0 n (ap temporal_key d.1.1.1) (ap temporal_key f));
}

pub apart_more : (e : Entry) (past : List Entry) → NoCollision past → Agrees temporal_key e past → Agrees confirmation_key e past → NoCollision (e ∷ past)
apart_more e past n t c = apart_from (e ∷ past) (t, agree_on_tk past n) (c, agree_on_kck past n)

pub apart_before : (e : Entry) (past : List Entry) → NoCollision (e ∷ past) → NoCollision past
apart_before e past n = apart_from past (agree_on_tk (e ∷ past) n).1 (agree_on_kck (e ∷ past) n).1

pub apart_on_tk : (e : Entry) (past : List Entry) → NoCollision (e ∷ past) → Agrees temporal_key e past
apart_on_tk e past n = (agree_on_tk (e ∷ past) n).0

pub apart_on_kck : (e : Entry) (past : List Entry) → NoCollision (e ∷ past) → Agrees confirmation_key e past
apart_on_kck e past n = (agree_on_kck (e ∷ past) n).0

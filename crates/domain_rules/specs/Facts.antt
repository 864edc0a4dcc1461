-- What reading further tells of a message, beside its fields and the history (profile).
use Rattle.std.specs.Prelude.{ℕ, Bool, false, List, Option, Some, None, bytes_eq}
use Rattle.rsn_elements.specs.declared.framing.Within.TheVariants.{KeyData}
use Rattle.rsn_elements.specs.declared.faults.ElementFault.{ElementFault}
use Rattle.rsn_elements.specs.Elements.{ElementFields, SpellsElements}
use Rattle.rsn_elements.specs.Faults.{HasElementFault}
use Rattle.domain_base.specs.Octets.{AreOctets}
use Rattle.key_wrap.specs.KeyWrap.{Wraps}
use Rattle.key_hierarchy.specs.declared.fast_transition.PmkR1.{PmkR1}

-- what reading further tells of a message, beside its fields and the history
pub record Facts : Type 0 where
  -- what the association request says
  pub requested : Option ElementFields
  -- with suite 4, what the association response says
  pub responded : Option ElementFields
  -- the key data without its wrap, where it has one
  pub unwrapped : Option (List ℕ)
  -- what the plain key data says, where it can be read
  pub data_ : Option ElementFields
  -- the PMK-R1 that the key holder gave, where it was asked and gave one
  pub pulled : Option PmkR1
  -- the payload of protected data, where its seal verifies
  pub opened : Option (List ℕ)
  -- the IGTK in a reassociation response without its wrap, where it has one
  pub unwrapped_igtk : Option (List ℕ)
  -- the receive counter of the IGTK that an Action frame is tried under
  pub kept : ℕ

-- both are there, and have the same octets
abbrev pub is_same : Option (List ℕ) → Option (List ℕ) → Bool
is_same (Some a) (Some b) = bytes_eq a b
is_same _ _ = false

-- what plain key data says, or that it cannot be read
abbrev pub ReadsKeyData : List ℕ → Option ElementFields → Type 0
ReadsKeyData octets (Some e) = SpellsElements KeyData octets e
ReadsKeyData octets None = (fault : ElementFault) × HasElementFault KeyData octets fault.place fault.kind

-- the plain text that is wrapped so, or that there is none (RFC 3394, profile)
abbrev pub IsUnwrapped : List ℕ → List ℕ → Option (List ℕ) → Type 0
IsUnwrapped kek octets (Some plain) = AreOctets kek × Wraps kek plain octets
IsUnwrapped kek octets None = (plain : List ℕ) → AreOctets kek → Wraps kek plain octets → ⊥

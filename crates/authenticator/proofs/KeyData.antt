-- The key data of an M2 beside the RSNE of the association request.
use Rattle.std.proofs.Common.{◌≡◌, Bool, true, false, List, ℕ, Option, Some, None, refl, ap, ◌∙◌}
use Rattle.std.specs.Prelude.{if◌then◌else◌}
use Rattle.std.proofs.lemmas.Slice.Eq.{bytes_eq-Decides}
use Rattle.rsn_elements.specs.declared.framing.Within.TheVariants.{Body, KeyData}
use Rattle.rsn_elements.specs.declared.faults.ElementFault.{ElementFault}
use Rattle.rsn_elements.specs.Elements.{ElementFields, SpellsElements}
use Rattle.rsn_elements.specs.Faults.{HasElementFault}
use Rattle.run_journal.specs.declared.acts.KeyDataFault.TheVariants.{Unreadable, Rsne}
use Rattle.run_journal.specs.declared.acts.Reason.TheVariants as reason
use Rattle.run_journal.specs.declared.acts.Outcome.TheVariants.{Accepted, Refused}
use Rattle.domain_rules.specs.Facts.{is_same}
use Rattle.domain_rules.proofs.Peers.{not_same}
use Rattle.rsn_elements.specs.Rsne.{RsneFields}
use Rattle.frame_making.specs.Mobile.{Mobility}
use Rattle.authenticator.specs.KeyData.{key_data_outcome, plain_fault, mobile_fault, SaysKeyData, IsKeyDataOf}

said : (rsne : List ℕ) (o : Option (List ℕ)) → o ≡ Some rsne → is_same o (Some rsne) ≡ true
said rsne o is = ap (λ (x : Option (List ℕ)). is_same x (Some rsne)) is ∙ (bytes_eq-Decides rsne rsne).1 refl

not_said : (rsne : List ℕ) (o : Option (List ℕ)) → (o ≡ Some rsne → ⊥) → is_same o (Some rsne) ≡ false
not_said rsne None other = refl
not_said rsne (Some octets) other = not_same octets rsne (λ same. other (ap (λ (x : List ℕ). Some x) same))

pub key_data_unread : (m : Option Mobility) (rsne octets : List ℕ) (fault : ElementFault) → HasElementFault KeyData octets fault.place fault.kind → IsKeyDataOf m rsne octets (Some Unreadable)
key_data_unread m rsne octets fault has = record { says = None; reads = (fault, has); is = unread m rsne }
  where
    unread : (m : Option Mobility) (rsne : List ℕ) → SaysKeyData m rsne None (Some Unreadable)
    unread None rsne = refl
    unread (Some m) rsne = λ e spelled. refl

pub plain_same : (rsne : List ℕ) (o : Option (List ℕ)) → o ≡ Some rsne → None ≡ plain_fault o rsne
plain_same rsne o is = rw (said rsne o is) refl

pub plain_other : (rsne : List ℕ) (o : Option (List ℕ)) → (o ≡ Some rsne → ⊥) → Some Rsne ≡ plain_fault o rsne
plain_other rsne o other = rw (not_said rsne o other) refl

same_outcome : (b : Bool) → (if b then Accepted else Refused (reason.KeyData Rsne)) ≡ key_data_outcome (if b then None else Some Rsne)
same_outcome true = refl
same_outcome false = refl

pub key_data_plain : (rsne octets : List ℕ) (e : ElementFields) → SpellsElements KeyData octets e → IsKeyDataOf None rsne octets (plain_fault e.rsne_octets rsne)
key_data_plain rsne octets e spelled = record { says = Some e; reads = spelled; is = same_outcome (is_same e.rsne_octets (Some rsne)) }

-- with suite 4 by the RSNE that the octets of the request are, where they read
pub key_data_mobile : (m : Mobility) (rsne octets : List ℕ) (requested : Option RsneFields) (e : ElementFields) → SpellsElements KeyData octets e → ((f : ElementFields) → SpellsElements Body rsne f → f.rsne ≡ requested) → IsKeyDataOf (Some m) rsne octets (mobile_fault m requested e)
key_data_mobile m rsne octets requested e spelled is = record {
  says = Some e;
  reads = spelled;
  is = λ f there. ap (λ (o : Option RsneFields). mobile_fault m o e) (is f there);
}

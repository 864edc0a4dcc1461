-- What messages tell of IGTKs as they are accepted.
use Rattle.std.proofs.Common.{◌≡◌, ℕ, List, ◌∷◌, Option, Some, None, refl, sym, subst}
use Rattle.domain_base.specs.declared.names.Node.{Node}
use Rattle.eapol_key.specs.declared.messages.Message.TheVariants.{M3, G1}
use Rattle.run_journal.specs.declared.acts.Kind.TheVariants as kind
use Rattle.run_journal.specs.declared.acts.Outcome.TheVariants.{Accepted}
use Rattle.run_journal.specs.declared.acts.Seal.{Seal}
use Rattle.run_journal.specs.declared.acts.Act.{Act}
use Rattle.run_journal.specs.declared.acts.Act.TheVariants.{Took}
use Rattle.run_journal.specs.Acts.{Derivation, accepted}
use Rattle.run_journal.specs.Questions.{derivation, session}
use Rattle.domain_rules.specs.IntegrityKeys.{TellsIpn, TellsUnder, ToldBy, ipn_in_response, ToldByResponse, IsIpnTold}
use Rattle.domain_rules.proofs.Parts.{same-refl}

-- what was told but for M3, and but for G1 too
abbrev ByResponse : Node → Option (List ℕ) → List Act → ℕ → Type 0
ByResponse p o h n = ToldByResponse o n (IsIpnTold p h n)

abbrev ByG1 : Node → Option (List ℕ) → Option (List ℕ) → List Act → ℕ → Type 0
ByG1 p g o h n = ToldBy (session p h) g n (ByResponse p o h n)

abbrev ByM3 : Node → Option (List ℕ) → Option (List ℕ) → Option (List ℕ) → List Act → ℕ → Type 0
ByM3 p m g o h n = ToldBy (derivation p h) m n (ByG1 p g o h n)

by_all : (p : Node) (e : Act) (h : List Act) (n : ℕ) (m g o : Option (List ℕ)) → accepted p (kind.Key M3) e ≡ m → accepted p (kind.Key G1) e ≡ g → accepted p kind.ReResp e ≡ o → ByM3 p m g o h n → IsIpnTold p (e ∷ h) n
by_all p e h n m g o m3 g1 response told =
    subst (λ (x : Option (List ℕ)). ByM3 p x (accepted p (kind.Key G1) e) (accepted p kind.ReResp e) h n) (sym m3)
    (subst (λ (x : Option (List ℕ)). ByM3 p m x (accepted p kind.ReResp e) h n) (sym g1)
    (subst (λ (x : Option (List ℕ)). ByM3 p m g x h n) (sym response) told))

-- an act by which none of them is accepted
pub told_stays : (p : Node) (e : Act) (h : List Act) (n : ℕ) → accepted p (kind.Key M3) e ≡ None → accepted p (kind.Key G1) e ≡ None → accepted p kind.ReResp e ≡ None → IsIpnTold p h n → IsIpnTold p (e ∷ h) n
told_stays p e h n m3 g1 response told = by_all p e h n None None None m3 g1 response told

-- M3 tells under the key derived last
pub told_by_m3 : (p : Node) (octets : List ℕ) (s : Option Seal) (x : Derivation) (h : List Act) (n : ℕ) → derivation p h ≡ Some x → TellsIpn x.ptk.kek octets n → IsIpnTold p (Took (Some p) octets (kind.Key M3) Accepted s ∷ h) n
told_by_m3 p octets s x h n derived tells =
    by_all p (Took (Some p) octets (kind.Key M3) Accepted s) h n (Some octets) None None (rw (same-refl p) refl) (rw (same-refl p) refl) (rw (same-refl p) refl)
    (subst (λ (o : Option Derivation). TellsUnder o octets n) (sym derived) tells)

-- G1 under that of the session
pub told_by_g1 : (p : Node) (octets : List ℕ) (s : Option Seal) (x : Derivation) (h : List Act) (n : ℕ) → session p h ≡ Some x → TellsIpn x.ptk.kek octets n → IsIpnTold p (Took (Some p) octets (kind.Key G1) Accepted s ∷ h) n
told_by_g1 p octets s x h n held tells =
    by_all p (Took (Some p) octets (kind.Key G1) Accepted s) h n None (Some octets) None (rw (same-refl p) refl) (rw (same-refl p) refl) (rw (same-refl p) refl)
    (subst (λ (o : Option Derivation). TellsUnder o octets n) (sym held) tells)

-- a reassociation response in clear
pub told_by_response : (p : Node) (octets : List ℕ) (s : Option Seal) (h : List Act) → IsIpnTold p (Took (Some p) octets kind.ReResp Accepted s ∷ h) (ipn_in_response octets)
told_by_response p octets s h =
    by_all p (Took (Some p) octets kind.ReResp Accepted s) h (ipn_in_response octets) None None (Some octets) (rw (same-refl p) refl) (rw (same-refl p) refl) (rw (same-refl p) refl) refl

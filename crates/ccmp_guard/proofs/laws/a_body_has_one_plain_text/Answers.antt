use Rattle.std.proofs.Common.{◌∙◌, ap, sym, refl, drop}
use Rattle.ccmp_guard.specs.Ccmp.{ccm_nonce, ccm_aad}
use Rattle.ccmp_guard.proofs.Sealing.{Sealed-unique, Sealed-along}
use Rattle.ccmp_guard.proofs.laws.a_body_has_one_plain_text.Goals as goal

pub returns-clause-sealed : goal.returns-clause-sealed
returns-clause-sealed c = Sealed-unique

pub returns-clause-plain : goal.returns-clause-plain
returns-clause-plain c tk header id pn other_id other_pn plain other body h k =
    Sealed-unique tk (ccm_nonce header pn) (ccm_aad header) plain other (drop 8 body) h.sealed
    (Sealed-along (ap (ccm_nonce header) (sym k.number ∙ h.number)) refl refl refl k.sealed)

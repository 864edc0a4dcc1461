use Rattle.std.proofs.Common.{◌≡◌, ◌⊎◌, inl, inr, ℕ, List, [], ◌∷◌, refl, sym, subst, append-nil}
use Rattle.domain_base.specs.declared.names.Akm.{Akm}
use Rattle.domain_base.specs.declared.names.Akm.TheVariants.{Psk, PskSha256}
use Rattle.run_journal.specs.declared.domain.Domain.{Domain}
use Rattle.key_holders.specs.declared.rows.HeldRow.{HeldRow}
use Rattle.ap_node.specs.Changing.{RevokesOld}
use Rattle.ap_node.proofs.Rows.{same_others}
use Rattle.ap_node.proofs.revoking.revoke_old.Goals as goal

-- without FT the key holder holds none, and nothing is told
by_suite : (akm : Akm) (d : Domain) (a sta : ℕ) (rows : List HeldRow) → (akm ≡ Psk) ⊎ (akm ≡ PskSha256) → RevokesOld akm d a sta rows rows []
by_suite akm d a sta rows (inl is) = subst (λ (x : Akm). RevokesOld x d a sta rows rows []) (sym is) (refl, refl)
by_suite akm d a sta rows (inr is) = subst (λ (x : Akm). RevokesOld x d a sta rows rows []) (sym is) (refl, refl)

pub returns-in-Psk-clause-revoked : goal.returns-in-Psk-clause-revoked
returns-in-Psk-clause-revoked over c =
    let d = c.args.here.domain.now in
    ([], sym (append-nil _), by_suite d.akm d c.args.ap c.args.station _ c.in-Psk.is)

pub returns-in-Psk-clause-others : goal.returns-in-Psk-clause-others
returns-in-Psk-clause-others over c = same_others _ _ _ _

pub returns-in-Psk-clause-no_less : goal.returns-in-Psk-clause-no_less
returns-in-Psk-clause-no_less over c = over.met.H.Holders.same c.args.holders.now

pub returns-in-FtPsk-clause-revoked : goal.returns-in-FtPsk-clause-revoked
returns-in-FtPsk-clause-revoked over c =
    let before = over.H.Holders.rows c.args.holders.now c.args.ap in
    let after = over.H.Holders.rows c.revoke_row.new.holders c.args.ap in
    let act = c.revoke_row.result in (
      act ∷ [],
      c.add.ensures.acts,
      subst (λ (x : Akm). RevokesOld x c.args.here.domain.now c.args.ap c.args.station before after (act ∷ [])) (sym c.in-FtPsk.is) (act, refl, c.revoke_row.ensures.revoked),
    )

use Rattle.std.proofs.Common.{◌≡◌, ◌⊎◌, inl, inr, ℕ, List, [], ◌∷◌, ◌++◌, replicate, refl, sym, ap, subst, ◌∙◌}
use Rattle.domain_base.specs.declared.names.Akm.{Akm}
use Rattle.domain_base.specs.declared.names.Akm.TheVariants.{Psk, PskSha256}
use Rattle.domain_base.specs.declared.names.Node.TheVariants.{Ap, Sta}
use Rattle.run_journal.specs.declared.domain.Domain.{Domain}
use Rattle.run_journal.specs.declared.acts.Act.{Act}
use Rattle.run_journal.specs.declared.acts.Act.TheVariants.{Revoked}
use Rattle.key_hierarchy.specs.declared.answers.RevokeAnswer.TheVariants.{Absent}
use Rattle.key_holders.specs.declared.rows.HeldRow.{HeldRow}
use Rattle.domain_rules.specs.Network.{r0kh_id}
use Rattle.ap_node.specs.Putting.{RevokesWhere, Unchanged}
use Rattle.ap_node.proofs.Rows.{same_others}
use Rattle.ap_node.proofs.revoking.revoke.Goals as goal

pub returns-in_err-reserve-clause-no_less : goal.returns-in_err-reserve-clause-no_less
returns-in_err-reserve-clause-no_less over c = over.met.H.Holders.same c.args.holders.now

-- without FT the key holder holds none
by_suite : (akm : Akm) (d : Domain) (a sta : ℕ) (old new : List HeldRow) (waited waits : List Act) → (akm ≡ Psk) ⊎ (akm ≡ PskSha256) → (waits ≡ waited ++ Revoked (r0kh_id d (Ap a)) (replicate 16 0) (Sta sta) Absent ∷ []) × (new ≡ old)
    → RevokesWhere akm d a sta old new waited waits
by_suite akm d a sta old new waited waits (inl is) w = subst (λ (x : Akm). RevokesWhere x d a sta old new waited waits) (sym is) w
by_suite akm d a sta old new waited waits (inr is) w = subst (λ (x : Akm). RevokesWhere x d a sta old new waited waits) (sym is) w

same_added : {a b : List Act} {x y : Act} → a ≡ b → x ≡ y → a ++ x ∷ [] ≡ b ++ y ∷ []
same_added e f = rw (e, f) refl

pub returns-in-Psk : goal.returns-in-Psk
returns-in-Psk over c =
    let d = c.args.here.domain.now in
    let sta = Sta c.args.station in
    let act = c.revoke_none.ensures ∙ ap (λ (o : List ℕ). Revoked o (replicate 16 0) sta Absent) c.r0kh_id.ensures.id in
    record {
      outcome = refl;
      acts = by_suite d.akm d c.args.ap c.args.station _ _ c.args.out.now.acts _ c.in-Psk.is (c.add-in-Psk.ensures.acts ∙ same_added c.reserve.ensures.acts act, refl);
      same = tt;
      kept = tt;
      others = same_others _ _ _ _;
      change = Unchanged refl;
      no_less = over.met.H.Holders.same c.args.holders.now;
    }

pub returns-in-FtPsk-clause-acts : goal.returns-in-FtPsk-clause-acts
returns-in-FtPsk-clause-acts over c =
    let before = over.H.Holders.rows c.args.holders.now c.args.ap in
    let after = over.H.Holders.rows c.revoke_row.new.holders c.args.ap in
    let act = c.revoke_row.result in
    subst (λ (x : Akm). RevokesWhere x c.args.here.domain.now c.args.ap c.args.station before after c.args.out.now.acts c.add.new.self.acts) (sym c.in-FtPsk.is)
    (act, c.add.ensures.acts ∙ same_added c.reserve.ensures.acts refl, c.revoke_row.ensures.revoked)

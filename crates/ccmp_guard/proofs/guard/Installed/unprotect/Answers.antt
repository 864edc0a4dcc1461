use Rattle.std.proofs.Common.{◌≡◌, ◌<◌, ◌∙◌, ℕ, List, Option, Some, None, refl, sym, subst, slice_index, take, drop, rules}
use Rattle.ccmp_guard.specs.declared.guard.GuardFault.{GuardFault}
use Rattle.ccmp_guard.specs.Ccm.{Sealed}
use Rattle.ccmp_guard.specs.Ccmp.{Protected, ccm_aad, ccm_nonce, key_id_in, packet_number}
use Rattle.ccmp_guard.specs.Faults.{unprotect_fault}
use Rattle.ccmp_guard.specs.Held.{Held}
use Rattle.ccmp_guard.specs.Roles.{key_id}
use Rattle.ccmp_guard.proofs.guard.Installed.unprotect.Goals as goal

pub returns-in-Err-open_with-clause-guard : goal.returns-in-Err-open_with-clause-guard
returns-in-Err-open_with-clause-guard c = search rules

pub returns-in-Err-open_with-clause-seal : goal.returns-in-Err-open_with-clause-seal
returns-in-Err-open_with-clause-seal c none = (
  refl,
  λ id pn plain p. c.in-Err-open_with.ensures.seal id pn plain (subst (λ (h : Held). Protected h.key c.args.header.now id pn plain c.args.body.now) (sym c.self.view_is) p),
)

pub take-requires : goal.take-requires
take-requires c = subst (λ (h : Held). slice_index h.kept c.in-Ok.found.0 < c.in-Ok.found.1) (sym c.self.view_is) c.in-Ok.ensures.above

-- under the key id of the key, with the packet number that the body says
under : (tk header : List ℕ) (id said pn : ℕ) (plain body : List ℕ) → key_id_in body ≡ id → Protected tk header said pn plain body → Protected tk header id (packet_number body) plain body
under tk header id said pn plain body e p = record {
  mac_header = p.mac_header;
  number = refl;
  key_id = e;
  extended = p.extended;
  sealed = subst (λ (n : ℕ). Sealed tk (ccm_nonce header n) (ccm_aad header) plain (drop 8 body)) (sym p.number) p.sealed;
}

pub returns-in-Ok-open_with-clause-opened : goal.returns-in-Ok-open_with-clause-opened
returns-in-Ok-open_with-clause-opened c =
    let header = c.args.header.now in
    let body = c.args.body.now in
    let plain = take c.in-Ok-open_with.end c.open_with.new.out in
    let id = key_id c.args.self.now.role in
    subst (λ (h : Held). Protected h.key header id (packet_number body) plain body) c.self.view_is
    (under c.self.inside.cipher header id (key_id_in body) c.in-Ok-open_with.field-0-0 plain body c.in-Ok.ensures.key_id c.in-Ok-open_with.ensures.opened)

not_refused : (h : Held) (header body : List ℕ) (e : GuardFault) → unprotect_fault (Some h) header body ≡ None → unprotect_fault (Some h) header body ≡ Some e → ⊥
not_refused h header body e none some =
    let both : ◌≡◌ {A = Option GuardFault} None (Some e) = sym none ∙ some in absurd cc

pub returns-in-Ok-open_with-clause-first : goal.returns-in-Ok-open_with-clause-first
returns-in-Ok-open_with-clause-first c = λ e some.
    let header = c.args.header.now in
    let body = c.args.body.now in
    absurd (not_refused c.args.self.now header body e c.in-Ok.ensures.fault some)

pub returns-in-Ok-open_with-clause-unwritten : goal.returns-in-Ok-open_with-clause-unwritten
returns-in-Ok-open_with-clause-unwritten c = λ e some.
    let header = c.args.header.now in
    let body = c.args.body.now in
    absurd (not_refused c.args.self.now header body e c.in-Ok.ensures.fault some)

pub returns-in-Ok-open_with-clause-rest : goal.returns-in-Ok-open_with-clause-rest
returns-in-Ok-open_with-clause-rest c = c.open_with.ensures.rest

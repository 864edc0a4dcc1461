use Rattle.std.proofs.Common.{◌≡◌, ℕ, Result, Ok, Err, arith}
use Rattle.ccmp_guard.specs.declared.guard.GuardFault.{GuardFault}
use Rattle.frame_intake.specs.Views.{sealed_fields}
use Rattle.data_frames.proofs.Opening.{opened_to, stopped_by}
use Rattle.data_frames.proofs.key.DataKey.open.Goals as goal

pub returns-in_default-clause-opened : goal.returns-in_default-clause-opened
returns-in_default-clause-opened c =
    let o = c.unprotect-opened in
    let d = c.in_default.ensures in
    rw (← c.self.view_is) (opened_to (sealed_fields c.args.frame.now) c.self.inside.guard o.new.self (λ (e : GuardFault). ◌≡◌ {A = Result ℕ GuardFault} (Ok c.in_default.field-0) (Err e)) c.in_default.field-0 o.new.out c.self.invariant.0 d.first (λ e r. cc r) d.opened d.guard (omega (arith, d.end, c.requires.room)) c.requires.whole.octets)

pub returns-clause-stopped : goal.returns-clause-stopped
returns-clause-stopped c =
    let d = c.in-Err.ensures in
    rw (← c.self.view_is) (stopped_by (sealed_fields c.args.frame.now) c.self.inside.guard c.in-Err.fault (λ (e : GuardFault). ◌≡◌ {A = Result ℕ GuardFault} (Err c.in-Err.fault) (Err e)) c.self.invariant.0 d.first (λ e r. cc r) d.seal)

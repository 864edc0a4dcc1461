use Rattle.std.proofs.Common.{refl}
use Rattle.eapol_key.specs.Fields.{fields_of}
use Rattle.supplicant.specs.M3.{under}
use Rattle.supplicant.proofs.KeyDataRead.{counter_low, nonce_other, mic_other, is_verified}
use Rattle.supplicant.proofs.Telling.{empty_silent}
use Rattle.supplicant.proofs.m3.judge_m3.Goals as goal

pub returns-in-Some-clause-judged : goal.returns-in-Some-clause-judged
returns-in-Some-clause-judged c =
    counter_low (under c.args.mfp c.args.base.now c.args.key.now c.args.kept) (fields_of c.args.frame.now) c.args.frame.now.octets.now c.in-Some.was c.args.reply.now.verified c.requires.empty.verified c.in-Some.ensures

pub returns-in-Some-clause-silent : goal.returns-in-Some-clause-silent
returns-in-Some-clause-silent c = empty_silent c.args.reply.now c.requires.empty

pub returns-then-not-is_same_nonce-clause-judged : goal.returns-then-not-is_same_nonce-clause-judged
returns-then-not-is_same_nonce-clause-judged c =
    nonce_other (under c.args.mfp c.args.base.now c.args.key.now c.args.kept) (fields_of c.args.frame.now) c.args.frame.now.octets.now c.args.reply.now.verified c.requires.empty.verified c.in_default.ensures (λ same. cc (c.if-not-is_same_nonce.ensures.1 same))

pub returns-then-not-is_same_nonce-clause-silent : goal.returns-then-not-is_same_nonce-clause-silent
returns-then-not-is_same_nonce-clause-silent c = empty_silent c.args.reply.now c.requires.empty

pub returns-then-not-verify-clause-judged : goal.returns-then-not-verify-clause-judged
returns-then-not-verify-clause-judged c =
    mic_other (under c.args.mfp c.args.base.now c.args.key.now c.args.kept) (fields_of c.args.frame.now) c.args.frame.now.octets.now c.args.reply.now.verified c.requires.empty.verified c.in_default.ensures (c.if-not-is_same_nonce.ensures.0 refl) (λ same. cc (c.if-not-verify.ensures.1 same))

pub returns-then-not-verify-clause-silent : goal.returns-then-not-verify-clause-silent
returns-then-not-verify-clause-silent c = empty_silent c.args.reply.now c.requires.empty

pub returns-clause-judged : goal.returns-clause-judged
returns-clause-judged c =
    is_verified (under c.args.mfp c.args.base.now c.args.key.now c.args.kept) (fields_of c.args.frame.now) c.args.frame.now.octets.now c.open.result c.in_default.ensures (c.if-not-is_same_nonce.ensures.0 refl) (c.if-not-verify.ensures.0 refl) c.open.ensures

pub returns-clause-silent : goal.returns-clause-silent
returns-clause-silent c =
    let e = c.requires.empty in
    record { len = e.len; sealed = e.sealed; derived = e.derived; installed = e.installed; gtk = e.gtk; igtk = e.igtk }

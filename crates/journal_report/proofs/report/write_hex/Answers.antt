use Rattle.std.proofs.Common.{List, ℕ, sym, subst, ◌∙◌, arith}
use Rattle.std.proofs.lemmas.List.{length-take-le}
use Rattle.std.specs.Io.KnownBytes.{Appends}
use Rattle.domain_base.specs.Causes.{AppendsPart}
use Rattle.domain_base.proofs.Taken.{OnErr-always}
use Rattle.journal_report.proofs.Taken.{digits-part, digits-step}
use Rattle.journal_report.proofs.report.write_hex.Goals as goal

pub loop-rest-preserved : goal.loop-rest-preserved
loop-rest-preserved g c =
    let gone = c.loop-rest.invariant.gone in
    record {
      gone = digits-step _ _ _ c.args.octets.now gone.0 c.loop-rest.rest.now c.split_at.result.0.now c.split_at.result.1.now
          gone.1.0 (sym c.split_at.ensures.by_index.0) gone.1.1
          (subst (λ (w : List ℕ). Appends (g.K.Sink.out c.loop-rest.sink) (g.K.Sink.out c.write_all.new.sink) w) c.put_hex-count.ensures.written.front c.in_ok-write_all.ensures.ok);
      same = c.in_ok-write_all.ensures.unfailed ∙ c.loop-rest.invariant.same;
    }

pub returns-in_err-write_all-clause-err : goal.returns-in_err-write_all-clause-err
returns-in_err-write_all-clause-err g c =
    let gone = c.loop-rest.invariant.gone in
    OnErr-always _ _ (digits-part _ _ _ c.args.octets.now gone.0 c.loop-rest.rest.now c.split_at.result.0.now c.split_at.result.1.now
    gone.1.0 (sym c.split_at.ensures.by_index.0) gone.1.1
    (subst (λ (w : List ℕ). AppendsPart (g.K.Sink.out c.loop-rest.sink) (g.K.Sink.out c.write_all.new.sink) w) c.put_hex-count.ensures.written.front c.in_err-write_all.ensures.err))

pub slice_bounds-write_all-end-in-loop-rest : goal.slice_bounds-write_all-end-in-loop-rest
slice_bounds-write_all-end-in-loop-rest g c =
    sym (length-take-le c.put_hex-count.result c.put_hex-count.new.out (omega (arith, c.requires, c.put_hex-count.ensures.short, c.put_hex-count.ensures.written.len)))

use Rattle.std.proofs.Common.{◌++◌, ◌∙◌, ℕ, List, [], rules, subst, append_assoc, ap}
use Rattle.std.proofs.KnownBytes.{Consumes-trans}
use Rattle.std.proofs.lemmas.List.{append-nil}
use Rattle.std.specs.Io.KnownBytes.{Consumes}
use Rattle.text_lines.specs.Reads.{HasRead}
use Rattle.text_lines.proofs.Reading.{failed_next, line_next, rest_next}
use Rattle.text_lines.proofs.reader.LineReader.next.Goals as goal

pub returns-then-self-eq10-clause-comes : goal.returns-then-self-eq10-clause-comes
returns-then-self-eq10-clause-comes g c l octets good h =
    let x = c.reads.invariant.read l octets good h in
    record { more = x.0; read = x.1.0; has = x.1.1; next_is = line_next l c.reads.self (octets ++ x.0) good x.1.1 c.if-self.true c.if-self-eq10.true (search rules) c.reads.self.within }

pub reads-preserved-in-Ok : goal.reads-preserved-in-Ok
reads-preserved-in-Ok g c = record {
  limits = c.in-Ok.ensures.limits ∙ c.reads.invariant.limits;
  lines = c.in-Ok.ensures.lines ∙ c.reads.invariant.lines;
  same = c.reads.invariant.same;
  read = λ b octets good h. let x = c.reads.invariant.read b octets good h in (x.0, (x.1.0, c.in-Ok.ensures.kept b (octets ++ x.0) good x.1.1));
}

pub returns-in-Err-clause-comes : goal.returns-in-Err-clause-comes
returns-in-Err-clause-comes g c l octets good h =
    let x = c.reads.invariant.read l octets good h in
    record { more = x.0; read = x.1.0; has = c.in-Err.ensures.kept l (octets ++ x.0) good x.1.1; next_is = c.in-Err.ensures.read l (octets ++ x.0) good x.1.1 }

pub reads-preserved : goal.reads-preserved
reads-preserved g c = record {
  limits = ap (λ x. x.limits) c.in-More.ensures.cutter ∙ c.reads.invariant.limits;
  lines = ap (λ x. x.lines) c.in-More.ensures.cutter ∙ c.reads.invariant.lines;
  same = c.in-More.ensures.unfailed (search rules) ∙ c.reads.invariant.same;
  read = λ b octets good h.
      let x = c.reads.invariant.read b octets good h in
      let y = c.in-More.ensures.read b (octets ++ x.0) good x.1.1 in
      (x.0 ++ y.0, (Consumes-trans _ _ _ x.0 y.0 x.1.0 y.1.0, subst (λ (w : List ℕ). HasRead b c.fill.new.self w good) (append_assoc octets x.0 y.0) y.1.1));
}

pub returns-in-None-clause-comes : goal.returns-in-None-clause-comes
returns-in-None-clause-comes g c l octets good h =
    let x = c.reads.invariant.read l octets good h in
    let y = c.in-None.ensures.read l (octets ++ x.0) good x.1.1 in
    record {
      more = x.0;
      read = subst (λ (w : List ℕ). Consumes (g.S.Source.left c.args.source.now) (g.S.Source.left c.fill.new.source) w) (append-nil x.0) (Consumes-trans _ _ _ x.0 [] x.1.0 y.0);
      has = y.1.0;
      next_is = rest_next c.rest.result l c.fill.new.self _ (octets ++ x.0) good y.1.0 (c.in-None.ensures.none (search rules)) y.1.1 c.rest.ensures.last c.rest.ensures.end c.rest.ensures.either;
    }

pub returns-in-Failed-clause-comes : goal.returns-in-Failed-clause-comes
returns-in-Failed-clause-comes g c l octets good h =
    let x = c.reads.invariant.read l octets good h in
    let y = c.in-Failed.ensures.read l (octets ++ x.0) good x.1.1 in
    record {
      more = x.0;
      read = subst (λ (w : List ℕ). Consumes (g.S.Source.left c.args.source.now) (g.S.Source.left c.fill.new.source) w) (append-nil x.0) (Consumes-trans _ _ _ x.0 [] x.1.0 y.0);
      has = y.1;
      next_is = failed_next l c.fill.new.self (octets ++ x.0) good y.1 (c.in-Failed.ensures.none (search rules));
    }

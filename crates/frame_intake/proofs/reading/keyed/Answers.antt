use Rattle.eapol_key.specs.Fields.{fields_of}
use Rattle.frame_intake.proofs.reading.keyed.Goals as goal

pub returns-in-Some-clause-reads : goal.returns-in-Some-clause-reads
returns-in-Some-clause-reads c = λ octets is. record {
  body = c.args.body.now;
  frame = is;
  used = c.in-Ok.read.1;
  spelled = c.in-Ok.ensures.found;
  is = (c.classify.ensures.found c.in-Some.message).0 c.in-Some.is;
  octets_are = c.in-Ok.ensures.whole;
}

pub returns-in-None-clause-reads : goal.returns-in-None-clause-reads
returns-in-None-clause-reads c = λ octets is. record {
  way = c.args.direction;
  body = c.args.body.now;
  frame = is;
  fields = fields_of c.in-Ok.read.0;
  used = c.in-Ok.read.1;
  spelled = c.in-Ok.ensures.found;
  none = c.classify.ensures.none.0 c.in-None.is;
}

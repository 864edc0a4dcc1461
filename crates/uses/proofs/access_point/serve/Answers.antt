use Rattle.std.proofs.Common.{refl}
use Rattle.uses.proofs.access_point.serve.Goals as goal

pub returns : goal.returns
returns c =
    let by_m4 = c.if-not-accepts-2.ensures refl in
    let is = by_m4.installs c.in_ok-key.key c.in_ok-key.was in record {
      first = c.begin-part.result;
      begun = c.begin-part.ensures.stands;
      sends = c.begin-part.ensures.sends;
      between = c.accepts.new.part;
      by_m2 = c.if-not-accepts.ensures refl;
      r = c.accepts-2.new.reply;
      by_m4 = by_m4;
      installed = c.in_ok-key.was;
      session = is.1;
      is = is.2;
      same = is.3;
    }

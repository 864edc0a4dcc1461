use Rattle.std.proofs.Common.{◌∙◌, ℕ, Some, sym, ap}
use Rattle.transition_acts.specs.Seals.{place_in}
use Rattle.transition_acts.proofs.Sealing.{request_place, response_place}
use Rattle.transition_acts.proofs.sides.Side.place.Goals as goal

pub returns-in-ReReq-clause-place : goal.returns-in-ReReq-clause-place
returns-in-ReReq-clause-place c = ap (λ (n : ℕ). Some (request_place c.args.self n)) c.rsne_len-rsne_len.ensures ∙ ap (place_in c.args.self) (sym c.in-ReReq.is)

pub returns-in-ReResp-clause-place : goal.returns-in-ReResp-clause-place
returns-in-ReResp-clause-place c = ap (λ (n : ℕ). Some (response_place c.args.self n)) c.rsne_len-rsne_len.ensures ∙ ap (place_in c.args.self) (sym c.in-ReResp.is)

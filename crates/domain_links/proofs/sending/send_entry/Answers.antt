use Rattle.std.proofs.Common.{◌≡◌, ◌<◌, ◌++◌, List, Some, refl, sym, ap, subst, ◌∙◌, arith, length, set}
use Rattle.std.proofs.lemmas.Bool.{false≢true}
use Rattle.std.specs.Option.{option_copied}
use Rattle.domain_links.specs.NodeOrder.{node_at}
use Rattle.domain_links.specs.Sends.{Send, SendsFront, frame_sent, frames_out}
use Rattle.domain_links.specs.Telling.{TellFront, story_at}
use Rattle.domain_links.proofs.Going.{HasFailed-set, Tell-past, Tell-same, TellFront-set, SameFaults-set, SameFaults-call, sends_as}
use Rattle.domain_links.proofs.sending.send_entry.Goals as goal

pub returns-in-Some-get_mut-clause-sent : goal.returns-in-Some-get_mut-clause-sent
returns-in-Some-get_mut-clause-sent g c left before tell =
    let within : c.place_of.result < length c.args.links.now.items = omega (arith, c.in-Some-get_mut.ensures.variant.0 refl, c.args.links.now.ok.0) in
    let told = ap g.L.Link.told c.in-Some-get_mut.ensures.value ∙ tell.each c.place_of.result c.in-Some-get_mut.link.now within in
    let frame : frame_sent c.args.entry.now.act ≡ Some c.in-Some.octets.now = sym c.frame_sent.ensures ∙ ap option_copied c.in-Some.is in
    let out : SendsFront (story_at (node_at c.args.domain.now) left before c.place_of.result) (g.L.Link.told c.send_frame.new.link) (frames_out c.args.domain.now (Some c.in-Some.octets.now)) c.send_frame.result = c.send_frame.ensures.sent _ told in
    subst (λ (w : List Send). TellFront g.L.Link.told (node_at c.args.domain.now) (set c.args.links.now.items c.place_of.result c.send_frame.new.link) left before w c.send_frame.result) (sends_as c.args.domain.now c.args.entry.now (Some c.in-Some.octets.now) c.place_of.result c.place_of.ensures frame) (TellFront-set _ _ _ _ _ _ _ _ _ tell out)

pub returns-in-Some-get_mut-clause-kept : goal.returns-in-Some-get_mut-clause-kept
returns-in-Some-get_mut-clause-kept g c e =
    let within : c.place_of.result < length c.args.links.now.items = omega (arith, c.in-Some-get_mut.ensures.variant.0 refl, c.args.links.now.ok.0) in
    SameFaults-set g.L.Link.faults c.args.links.now.items c.place_of.result c.in-Some-get_mut.link.now c.send_frame.new.link within c.in-Some-get_mut.ensures.value (c.send_frame.ensures.cause.kept e)

pub returns-in-Some-get_mut-clause-unfailed : goal.returns-in-Some-get_mut-clause-unfailed
returns-in-Some-get_mut-clause-unfailed g c =
    let within : c.place_of.result < length c.args.links.now.items = omega (arith, c.in-Some-get_mut.ensures.variant.0 refl, c.args.links.now.ok.0) in
    SameFaults-call g.L.Link.faults c.args.links.now.items c.place_of.result c.in-Some-get_mut.link.now c.send_frame.new.link c.send_frame.result within c.in-Some-get_mut.ensures.value c.send_frame.ensures.unfailed

pub returns-in-None-clause-sent : goal.returns-in-None-clause-sent
returns-in-None-clause-sent g c left before tell =
    let past : c.place_of.result < length c.args.links.now.items → ⊥ = λ within. false≢true (c.in-None.ensures.variant.1 (omega (arith, within, c.args.links.now.ok.0))) in
    let frame : frame_sent c.args.entry.now.act ≡ Some c.in-Some.octets.now = sym c.frame_sent.ensures ∙ ap option_copied c.in-Some.is in
    Tell-same _ (node_at c.args.domain.now) _ left _ _ (ap (λ (w : List Send). before ++ w) (sends_as c.args.domain.now c.args.entry.now (Some c.in-Some.octets.now) c.place_of.result c.place_of.ensures frame)) (Tell-past _ _ _ _ _ _ _ past tell)

pub returns-in-Some-get_mut-clause-cause : goal.returns-in-Some-get_mut-clause-cause
returns-in-Some-get_mut-clause-cause g c e =
    let within : c.place_of.result < length c.args.links.now.items = omega (arith, c.in-Some-get_mut.ensures.variant.0 refl, c.args.links.now.ok.0) in
    HasFailed-set g.L.Link.faults c.args.links.now.items c.place_of.result c.send_frame.new.link within (omega (arith, c.send_frame.ensures.cause.failed e))

pub returns-in-None-clause-cause : goal.returns-in-None-clause-cause
returns-in-None-clause-cause g c e = absurd (cc e)

pub returns-in_default-clause-cause : goal.returns-in_default-clause-cause
returns-in_default-clause-cause g c e = absurd (cc e)

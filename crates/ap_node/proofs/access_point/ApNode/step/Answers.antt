use Rattle.std.proofs.Common.{ℕ, Option, refl, ap, subst, ◌∙◌}
use Rattle.domain_base.specs.declared.names.Node.TheVariants.{Ap}
use Rattle.domain_rules.specs.Rows.{NodeEvent, Take, Retry, Rekey, Send, Expire, Revoke, Renew, Announce}
use Rattle.node_base.specs.Changing.{HasRoomFor}
use Rattle.node_base.specs.Events.{event_of, IsEventAt}
use Rattle.ap_node.specs.Putting.{Stays, Unchanged}
use Rattle.ap_node.proofs.Rows.{if_change, err_change, if_event, if_looks, if_plain_looks, if_none_looks, if_plain_event, number_with, number_plain, refused_with, refused_plain, same_others, rest, but, but_unasked, but_err, no_room}
use Rattle.ap_node.proofs.Rows.{if_changed_event, if_changed_looks, number_changed, refused_changed, secret_one, secret_unasked, secret_err}
use Rattle.ap_node.proofs.access_point.ApNode.step.Goals as goal

pub returns-in-Take-clause-steps : goal.returns-in-Take-clause-steps
returns-in-Take-clause-steps g c =
    if_event c.take.result _ c.args.domain.now (Take c.in-Take.octets.now) (event_of c.args.event) c.args.self.now c.take.new.self _ _ c.args.out.now.acts c.take.new.out.acts refl (ap event_of c.in-Take.is) c.take.ensures.taken

pub returns-in-Take-clause-looks : goal.returns-in-Take-clause-looks
returns-in-Take-clause-looks g c =
    if_looks c.take.result _ c.args.domain.now (Take c.in-Take.octets.now) c.args.self.now c.take.new.self _ _ c.args.out.now.acts c.take.new.out.acts c.take.ensures.taken

pub returns-in-Retry-clause-looks : goal.returns-in-Retry-clause-looks
returns-in-Retry-clause-looks g c =
    if_plain_looks c.retry.result _ c.args.domain.now (Retry _) c.args.self.now c.retry.new.self _ c.args.out.now.acts c.retry.new.out.acts c.retry.ensures.taken

pub returns-in-Rekey-clause-looks : goal.returns-in-Rekey-clause-looks
returns-in-Rekey-clause-looks g c =
    if_plain_looks c.rekey.result _ c.args.domain.now Rekey c.args.self.now c.rekey.new.self _ c.args.out.now.acts c.rekey.new.out.acts c.rekey.ensures.taken

pub returns-in-Send-default-Some-default-clause-looks : goal.returns-in-Send-default-Some-default-clause-looks
returns-in-Send-default-Some-default-clause-looks g c =
    if_plain_looks c.send.result _ c.args.domain.now (Send _ _ _) c.args.self.now c.send.new.self _ c.args.out.now.acts c.send.new.out.acts c.send.ensures.taken

pub returns-in-Send-default-None-default-clause-looks : goal.returns-in-Send-default-None-default-clause-looks
returns-in-Send-default-None-default-clause-looks g c =
    if_plain_looks c.send-in-Send-default-None-default.result _ c.args.domain.now (Send _ _ _) c.args.self.now c.send-in-Send-default-None-default.new.self _ c.args.out.now.acts c.send-in-Send-default-None-default.new.out.acts c.send-in-Send-default-None-default.ensures.taken

pub returns-in-Expire-clause-looks : goal.returns-in-Expire-clause-looks
returns-in-Expire-clause-looks g c =
    if_plain_looks c.expire.result _ c.args.domain.now (Expire _) c.args.self.now c.expire.new.self _ c.args.out.now.acts c.expire.new.out.acts c.expire.ensures.taken

pub returns-in-Revoke-clause-steps : goal.returns-in-Revoke-clause-steps
returns-in-Revoke-clause-steps g c =
    if_event c.revoke.result _ c.args.domain.now (Revoke c.in-Revoke.station) (event_of c.args.event) c.args.self.now c.args.self.now _ _ c.args.out.now.acts c.revoke.new.out.acts refl (ap event_of c.in-Revoke.is) c.revoke.ensures.taken

pub returns-in-Revoke-clause-looks : goal.returns-in-Revoke-clause-looks
returns-in-Revoke-clause-looks g c =
    if_none_looks c.revoke.result _ c.args.domain.now (Revoke _) c.args.self.now c.args.self.now _ _ c.args.out.now.acts c.revoke.new.out.acts c.revoke.ensures.taken

pub returns-in-Take-clause-unasked : goal.returns-in-Take-clause-unasked
returns-in-Take-clause-unasked g c = but_unasked c.take.result (event_of c.args.event) _ c.args.out.now.acts c.take.new.out.acts (c.take.ensures.unasked)

pub returns-in-Take-clause-change : goal.returns-in-Take-clause-change
returns-in-Take-clause-change g c = but_err c.take.result (event_of c.args.event) _ (c.take.ensures.change)

pub returns-in-Retry-clause-unasked : goal.returns-in-Retry-clause-unasked
returns-in-Retry-clause-unasked g c = but_unasked c.retry.result (event_of c.args.event) _ c.args.out.now.acts c.retry.new.out.acts (if_change c.retry.result _ _ _ (Unchanged refl))

pub returns-in-Retry-clause-change : goal.returns-in-Retry-clause-change
returns-in-Retry-clause-change g c = but_err c.retry.result (event_of c.args.event) _ (err_change c.retry.result _ (Unchanged refl))

pub returns-in-Rekey-clause-unasked : goal.returns-in-Rekey-clause-unasked
returns-in-Rekey-clause-unasked g c = but_unasked c.rekey.result (event_of c.args.event) _ c.args.out.now.acts c.rekey.new.out.acts (if_change c.rekey.result _ _ _ (Unchanged refl))

pub returns-in-Rekey-clause-change : goal.returns-in-Rekey-clause-change
returns-in-Rekey-clause-change g c = but_err c.rekey.result (event_of c.args.event) _ (err_change c.rekey.result _ (Unchanged refl))

pub returns-in-Send-default-Some-default-clause-unasked : goal.returns-in-Send-default-Some-default-clause-unasked
returns-in-Send-default-Some-default-clause-unasked g c = but_unasked c.send.result (event_of c.args.event) _ c.args.out.now.acts c.send.new.out.acts (if_change c.send.result _ _ _ (Unchanged refl))

pub returns-in-Send-default-Some-default-clause-change : goal.returns-in-Send-default-Some-default-clause-change
returns-in-Send-default-Some-default-clause-change g c = but_err c.send.result (event_of c.args.event) _ (err_change c.send.result _ (Unchanged refl))

pub returns-in-Send-default-None-default-clause-unasked : goal.returns-in-Send-default-None-default-clause-unasked
returns-in-Send-default-None-default-clause-unasked g c = but_unasked c.send-in-Send-default-None-default.result (event_of c.args.event) _ c.args.out.now.acts c.send-in-Send-default-None-default.new.out.acts (if_change c.send-in-Send-default-None-default.result _ _ _ (Unchanged refl))

pub returns-in-Send-default-None-default-clause-change : goal.returns-in-Send-default-None-default-clause-change
returns-in-Send-default-None-default-clause-change g c = but_err c.send-in-Send-default-None-default.result (event_of c.args.event) _ (err_change c.send-in-Send-default-None-default.result _ (Unchanged refl))

pub returns-in-Expire-clause-unasked : goal.returns-in-Expire-clause-unasked
returns-in-Expire-clause-unasked g c = but_unasked c.expire.result (event_of c.args.event) _ c.args.out.now.acts c.expire.new.out.acts (if_change c.expire.result _ _ _ (Unchanged refl))

pub returns-in-Expire-clause-change : goal.returns-in-Expire-clause-change
returns-in-Expire-clause-change g c = but_err c.expire.result (event_of c.args.event) _ (err_change c.expire.result _ (Unchanged refl))

pub returns-in-Revoke-clause-unasked : goal.returns-in-Revoke-clause-unasked
returns-in-Revoke-clause-unasked g c = but_unasked c.revoke.result (event_of c.args.event) _ c.args.out.now.acts c.revoke.new.out.acts (if_change c.revoke.result _ _ _ c.revoke.ensures.change)

pub returns-in-Revoke-clause-change : goal.returns-in-Revoke-clause-change
returns-in-Revoke-clause-change g c = but_err c.revoke.result (event_of c.args.event) _ (err_change c.revoke.result _ c.revoke.ensures.change)

pub returns-in-Take-clause-number : goal.returns-in-Take-clause-number
returns-in-Take-clause-number g c = number_with c.take.result _ c.args.domain.now (Take c.in-Take.octets.now) c.args.self.now c.take.new.self _ _ c.args.out.now.acts c.take.new.out.acts c.take.ensures.taken c.take.ensures.same

pub returns-in-Take-clause-refused : goal.returns-in-Take-clause-refused
returns-in-Take-clause-refused g c = refused_with c.take.result _ c.args.domain.now (Take c.in-Take.octets.now) c.args.self.now c.take.new.self _ _ c.args.out.now.acts c.take.new.out.acts c.take.ensures.taken

pub returns-in-Take-clause-same : goal.returns-in-Take-clause-same
returns-in-Take-clause-same g c = c.take.ensures.same

pub returns-in-Take-clause-same_rows : goal.returns-in-Take-clause-same_rows
returns-in-Take-clause-same_rows g c = c.take.ensures.same_rows

pub returns-in-Take-clause-kept : goal.returns-in-Take-clause-kept
returns-in-Take-clause-kept g c = c.take.ensures.kept

pub returns-in-Take-clause-others : goal.returns-in-Take-clause-others
returns-in-Take-clause-others g c = rest c.take.ensures.others

pub returns-in-Take-clause-one : goal.returns-in-Take-clause-one
returns-in-Take-clause-one g c = but (event_of c.args.event) _ c.take.ensures.others.one

pub returns-in-Take-clause-no_less : goal.returns-in-Take-clause-no_less
returns-in-Take-clause-no_less g c = c.take.ensures.no_less

pub returns-in-Retry-clause-number : goal.returns-in-Retry-clause-number
returns-in-Retry-clause-number g c = number_plain c.retry.result c.args.domain.now (Retry _) c.args.self.now c.retry.new.self c.args.out.now.acts c.retry.new.out.acts c.retry.ensures.taken c.retry.ensures.same

pub returns-in-Retry-clause-steps : goal.returns-in-Retry-clause-steps
returns-in-Retry-clause-steps g c =
    if_plain_event c.retry.result c.args.domain.now (Retry _) (event_of c.args.event) c.args.self.now c.retry.new.self _ c.args.out.now.acts c.retry.new.out.acts refl (ap event_of c.in-Retry.is) c.retry.ensures.taken

pub returns-in-Retry-clause-refused : goal.returns-in-Retry-clause-refused
returns-in-Retry-clause-refused g c = refused_plain c.retry.result c.args.domain.now (Retry _) c.args.self.now c.retry.new.self c.args.out.now.acts c.retry.new.out.acts c.retry.ensures.taken

pub returns-in-Retry-clause-same : goal.returns-in-Retry-clause-same
returns-in-Retry-clause-same g c = c.retry.ensures.same

pub returns-in-Retry-clause-same_rows : goal.returns-in-Retry-clause-same_rows
returns-in-Retry-clause-same_rows g c = err_change c.retry.result _ refl

pub returns-in-Retry-clause-kept : goal.returns-in-Retry-clause-kept
returns-in-Retry-clause-kept g c = c.retry.ensures.kept

pub returns-in-Retry-clause-others : goal.returns-in-Retry-clause-others
returns-in-Retry-clause-others g c = rest (same_others _ _ _ _)

pub returns-in-Retry-clause-one : goal.returns-in-Retry-clause-one
returns-in-Retry-clause-one g c = but (event_of c.args.event) _ (Stays refl)

pub returns-in-Retry-clause-no_less : goal.returns-in-Retry-clause-no_less
returns-in-Retry-clause-no_less g c = g.met.H.Holders.same c.args.holders.now

pub returns-in-Rekey-clause-number : goal.returns-in-Rekey-clause-number
returns-in-Rekey-clause-number g c = number_plain c.rekey.result c.args.domain.now Rekey c.args.self.now c.rekey.new.self c.args.out.now.acts c.rekey.new.out.acts c.rekey.ensures.taken c.rekey.ensures.same

pub returns-in-Rekey-clause-steps : goal.returns-in-Rekey-clause-steps
returns-in-Rekey-clause-steps g c =
    if_plain_event c.rekey.result c.args.domain.now Rekey (event_of c.args.event) c.args.self.now c.rekey.new.self _ c.args.out.now.acts c.rekey.new.out.acts refl (ap event_of c.in-Rekey.is) c.rekey.ensures.taken

pub returns-in-Rekey-clause-refused : goal.returns-in-Rekey-clause-refused
returns-in-Rekey-clause-refused g c = refused_plain c.rekey.result c.args.domain.now Rekey c.args.self.now c.rekey.new.self c.args.out.now.acts c.rekey.new.out.acts c.rekey.ensures.taken

pub returns-in-Rekey-clause-same : goal.returns-in-Rekey-clause-same
returns-in-Rekey-clause-same g c = c.rekey.ensures.same

pub returns-in-Rekey-clause-same_rows : goal.returns-in-Rekey-clause-same_rows
returns-in-Rekey-clause-same_rows g c = err_change c.rekey.result _ refl

pub returns-in-Rekey-clause-kept : goal.returns-in-Rekey-clause-kept
returns-in-Rekey-clause-kept g c = c.rekey.ensures.kept

pub returns-in-Rekey-clause-others : goal.returns-in-Rekey-clause-others
returns-in-Rekey-clause-others g c = rest (same_others _ _ _ _)

pub returns-in-Rekey-clause-one : goal.returns-in-Rekey-clause-one
returns-in-Rekey-clause-one g c = but (event_of c.args.event) _ (Stays refl)

pub returns-in-Rekey-clause-no_less : goal.returns-in-Rekey-clause-no_less
returns-in-Rekey-clause-no_less g c = g.met.H.Holders.same c.args.holders.now

pub returns-in-Send-default-Some-default-clause-number : goal.returns-in-Send-default-Some-default-clause-number
returns-in-Send-default-Some-default-clause-number g c = number_plain c.send.result c.args.domain.now (Send _ _ _) c.args.self.now c.send.new.self c.args.out.now.acts c.send.new.out.acts c.send.ensures.taken c.send.ensures.same

pub returns-in-Send-default-Some-default-clause-refused : goal.returns-in-Send-default-Some-default-clause-refused
returns-in-Send-default-Some-default-clause-refused g c = refused_plain c.send.result c.args.domain.now (Send _ _ _) c.args.self.now c.send.new.self c.args.out.now.acts c.send.new.out.acts c.send.ensures.taken

pub returns-in-Send-default-Some-default-clause-same : goal.returns-in-Send-default-Some-default-clause-same
returns-in-Send-default-Some-default-clause-same g c = c.send.ensures.same

pub returns-in-Send-default-Some-default-clause-same_rows : goal.returns-in-Send-default-Some-default-clause-same_rows
returns-in-Send-default-Some-default-clause-same_rows g c = err_change c.send.result _ refl

pub returns-in-Send-default-Some-default-clause-kept : goal.returns-in-Send-default-Some-default-clause-kept
returns-in-Send-default-Some-default-clause-kept g c = c.send.ensures.kept

pub returns-in-Send-default-Some-default-clause-others : goal.returns-in-Send-default-Some-default-clause-others
returns-in-Send-default-Some-default-clause-others g c = rest (same_others _ _ _ _)

pub returns-in-Send-default-Some-default-clause-one : goal.returns-in-Send-default-Some-default-clause-one
returns-in-Send-default-Some-default-clause-one g c = but (event_of c.args.event) _ (Stays refl)

pub returns-in-Send-default-Some-default-clause-no_less : goal.returns-in-Send-default-Some-default-clause-no_less
returns-in-Send-default-Some-default-clause-no_less g c = g.met.H.Holders.same c.args.holders.now

pub returns-in-Send-default-None-default-clause-number : goal.returns-in-Send-default-None-default-clause-number
returns-in-Send-default-None-default-clause-number g c = number_plain c.send-in-Send-default-None-default.result c.args.domain.now (Send _ _ _) c.args.self.now c.send-in-Send-default-None-default.new.self c.args.out.now.acts c.send-in-Send-default-None-default.new.out.acts c.send-in-Send-default-None-default.ensures.taken c.send-in-Send-default-None-default.ensures.same

pub returns-in-Send-default-None-default-clause-refused : goal.returns-in-Send-default-None-default-clause-refused
returns-in-Send-default-None-default-clause-refused g c = refused_plain c.send-in-Send-default-None-default.result c.args.domain.now (Send _ _ _) c.args.self.now c.send-in-Send-default-None-default.new.self c.args.out.now.acts c.send-in-Send-default-None-default.new.out.acts c.send-in-Send-default-None-default.ensures.taken

pub returns-in-Send-default-None-default-clause-same : goal.returns-in-Send-default-None-default-clause-same
returns-in-Send-default-None-default-clause-same g c = c.send-in-Send-default-None-default.ensures.same

pub returns-in-Send-default-None-default-clause-same_rows : goal.returns-in-Send-default-None-default-clause-same_rows
returns-in-Send-default-None-default-clause-same_rows g c = err_change c.send-in-Send-default-None-default.result _ refl

pub returns-in-Send-default-None-default-clause-kept : goal.returns-in-Send-default-None-default-clause-kept
returns-in-Send-default-None-default-clause-kept g c = c.send-in-Send-default-None-default.ensures.kept

pub returns-in-Send-default-None-default-clause-others : goal.returns-in-Send-default-None-default-clause-others
returns-in-Send-default-None-default-clause-others g c = rest (same_others _ _ _ _)

pub returns-in-Send-default-None-default-clause-one : goal.returns-in-Send-default-None-default-clause-one
returns-in-Send-default-None-default-clause-one g c = but (event_of c.args.event) _ (Stays refl)

pub returns-in-Send-default-None-default-clause-no_less : goal.returns-in-Send-default-None-default-clause-no_less
returns-in-Send-default-None-default-clause-no_less g c = g.met.H.Holders.same c.args.holders.now

pub returns-in-Expire-clause-number : goal.returns-in-Expire-clause-number
returns-in-Expire-clause-number g c = number_plain c.expire.result c.args.domain.now (Expire _) c.args.self.now c.expire.new.self c.args.out.now.acts c.expire.new.out.acts c.expire.ensures.taken c.expire.ensures.same

pub returns-in-Expire-clause-steps : goal.returns-in-Expire-clause-steps
returns-in-Expire-clause-steps g c =
    if_plain_event c.expire.result c.args.domain.now (Expire _) (event_of c.args.event) c.args.self.now c.expire.new.self _ c.args.out.now.acts c.expire.new.out.acts refl (ap event_of c.in-Expire.is) c.expire.ensures.taken

pub returns-in-Expire-clause-refused : goal.returns-in-Expire-clause-refused
returns-in-Expire-clause-refused g c = refused_plain c.expire.result c.args.domain.now (Expire _) c.args.self.now c.expire.new.self c.args.out.now.acts c.expire.new.out.acts c.expire.ensures.taken

pub returns-in-Expire-clause-same : goal.returns-in-Expire-clause-same
returns-in-Expire-clause-same g c = c.expire.ensures.same

pub returns-in-Expire-clause-same_rows : goal.returns-in-Expire-clause-same_rows
returns-in-Expire-clause-same_rows g c = err_change c.expire.result _ refl

pub returns-in-Expire-clause-kept : goal.returns-in-Expire-clause-kept
returns-in-Expire-clause-kept g c = c.expire.ensures.kept

pub returns-in-Expire-clause-others : goal.returns-in-Expire-clause-others
returns-in-Expire-clause-others g c = rest (same_others _ _ _ _)

pub returns-in-Expire-clause-one : goal.returns-in-Expire-clause-one
returns-in-Expire-clause-one g c = but (event_of c.args.event) _ (Stays refl)

pub returns-in-Expire-clause-no_less : goal.returns-in-Expire-clause-no_less
returns-in-Expire-clause-no_less g c = g.met.H.Holders.same c.args.holders.now

pub returns-in-Revoke-clause-number : goal.returns-in-Revoke-clause-number
returns-in-Revoke-clause-number g c = refl

pub returns-in-Revoke-clause-refused : goal.returns-in-Revoke-clause-refused
returns-in-Revoke-clause-refused g c = refused_with c.revoke.result _ c.args.domain.now (Revoke _) c.args.self.now c.args.self.now _ _ c.args.out.now.acts c.revoke.new.out.acts c.revoke.ensures.taken

pub returns-in-Revoke-clause-same : goal.returns-in-Revoke-clause-same
returns-in-Revoke-clause-same g c = err_change c.revoke.result _ refl

pub returns-in-Revoke-clause-same_rows : goal.returns-in-Revoke-clause-same_rows
returns-in-Revoke-clause-same_rows g c = c.revoke.ensures.same_rows

pub returns-in-Revoke-clause-kept : goal.returns-in-Revoke-clause-kept
returns-in-Revoke-clause-kept g c = c.revoke.ensures.kept

pub returns-in-Revoke-clause-others : goal.returns-in-Revoke-clause-others
returns-in-Revoke-clause-others g c = rest c.revoke.ensures.others

pub returns-in-Revoke-clause-one : goal.returns-in-Revoke-clause-one
returns-in-Revoke-clause-one g c = but (event_of c.args.event) _ c.revoke.ensures.others.one

pub returns-in-Revoke-clause-no_less : goal.returns-in-Revoke-clause-no_less
returns-in-Revoke-clause-no_less g c = c.revoke.ensures.no_less

pub returns-in-Send-default-Some-default-clause-steps : goal.returns-in-Send-default-Some-default-clause-steps
returns-in-Send-default-Some-default-clause-steps g c =
    let e = c.in-Send-default-Some-default in
    if_plain_event c.send.result c.args.domain.now (Send _ _ _) (event_of c.args.event) c.args.self.now c.send.new.self _ c.args.out.now.acts c.send.new.out.acts refl (ap event_of e.is ∙ ap (λ (o : Option ℕ). Send e.to o e.payload.now) (rw e.is at e.field-1-is)) c.send.ensures.taken

pub returns-in-Send-default-None-default-clause-steps : goal.returns-in-Send-default-None-default-clause-steps
returns-in-Send-default-None-default-clause-steps g c =
    let e = c.in-Send-default-None-default in
    let sent = c.send-in-Send-default-None-default in
    if_plain_event sent.result c.args.domain.now (Send _ _ _) (event_of c.args.event) c.args.self.now sent.new.self _ c.args.out.now.acts sent.new.out.acts refl (ap event_of e.is ∙ ap (λ (o : Option ℕ). Send e.to o e.payload.now) (rw e.is at e.field-1-is)) sent.ensures.taken

pub returns-in-Take-clause-always : goal.returns-in-Take-clause-always
returns-in-Take-clause-always g c = no_room c.args.domain.now (Take _) (event_of c.args.event) c.args.out.now.spare _ tt (ap event_of c.in-Take.is)

pub returns-in-Take-clause-spare : goal.returns-in-Take-clause-spare
returns-in-Take-clause-spare g c = no_room c.args.domain.now (Take _) (event_of c.args.event) c.args.out.now.spare _ tt (ap event_of c.in-Take.is)

pub returns-in-Retry-clause-always : goal.returns-in-Retry-clause-always
returns-in-Retry-clause-always g c = no_room c.args.domain.now (Retry _) (event_of c.args.event) c.args.out.now.spare _ tt (ap event_of c.in-Retry.is)

pub returns-in-Retry-clause-spare : goal.returns-in-Retry-clause-spare
returns-in-Retry-clause-spare g c = no_room c.args.domain.now (Retry _) (event_of c.args.event) c.args.out.now.spare _ tt (ap event_of c.in-Retry.is)

pub returns-in-Rekey-clause-always : goal.returns-in-Rekey-clause-always
returns-in-Rekey-clause-always g c = no_room c.args.domain.now Rekey (event_of c.args.event) c.args.out.now.spare _ tt (ap event_of c.in-Rekey.is)

pub returns-in-Rekey-clause-spare : goal.returns-in-Rekey-clause-spare
returns-in-Rekey-clause-spare g c = no_room c.args.domain.now Rekey (event_of c.args.event) c.args.out.now.spare _ tt (ap event_of c.in-Rekey.is)

pub returns-in-Send-default-Some-default-clause-always : goal.returns-in-Send-default-Some-default-clause-always
returns-in-Send-default-Some-default-clause-always g c = no_room c.args.domain.now (Send _ _ _) (event_of c.args.event) c.args.out.now.spare _ tt (ap event_of c.in-Send-default-Some-default.is ∙ ap (λ (o : Option ℕ). Send c.in-Send-default-Some-default.to o c.in-Send-default-Some-default.payload.now) (rw c.in-Send-default-Some-default.is at c.in-Send-default-Some-default.field-1-is))

pub returns-in-Send-default-Some-default-clause-spare : goal.returns-in-Send-default-Some-default-clause-spare
returns-in-Send-default-Some-default-clause-spare g c = no_room c.args.domain.now (Send _ _ _) (event_of c.args.event) c.args.out.now.spare _ tt (ap event_of c.in-Send-default-Some-default.is ∙ ap (λ (o : Option ℕ). Send c.in-Send-default-Some-default.to o c.in-Send-default-Some-default.payload.now) (rw c.in-Send-default-Some-default.is at c.in-Send-default-Some-default.field-1-is))

pub returns-in-Send-default-None-default-clause-always : goal.returns-in-Send-default-None-default-clause-always
returns-in-Send-default-None-default-clause-always g c = no_room c.args.domain.now (Send _ _ _) (event_of c.args.event) c.args.out.now.spare _ tt (ap event_of c.in-Send-default-None-default.is ∙ ap (λ (o : Option ℕ). Send c.in-Send-default-None-default.to o c.in-Send-default-None-default.payload.now) (rw c.in-Send-default-None-default.is at c.in-Send-default-None-default.field-1-is))

pub returns-in-Send-default-None-default-clause-spare : goal.returns-in-Send-default-None-default-clause-spare
returns-in-Send-default-None-default-clause-spare g c = no_room c.args.domain.now (Send _ _ _) (event_of c.args.event) c.args.out.now.spare _ tt (ap event_of c.in-Send-default-None-default.is ∙ ap (λ (o : Option ℕ). Send c.in-Send-default-None-default.to o c.in-Send-default-None-default.payload.now) (rw c.in-Send-default-None-default.is at c.in-Send-default-None-default.field-1-is))

pub returns-in-Expire-clause-always : goal.returns-in-Expire-clause-always
returns-in-Expire-clause-always g c = no_room c.args.domain.now (Expire _) (event_of c.args.event) c.args.out.now.spare _ tt (ap event_of c.in-Expire.is)

pub returns-in-Expire-clause-spare : goal.returns-in-Expire-clause-spare
returns-in-Expire-clause-spare g c = no_room c.args.domain.now (Expire _) (event_of c.args.event) c.args.out.now.spare _ tt (ap event_of c.in-Expire.is)

pub returns-in-Revoke-clause-always : goal.returns-in-Revoke-clause-always
returns-in-Revoke-clause-always g c = no_room c.args.domain.now (Revoke _) (event_of c.args.event) c.args.out.now.spare _ tt (ap event_of c.in-Revoke.is)

pub returns-in-Revoke-clause-spare : goal.returns-in-Revoke-clause-spare
returns-in-Revoke-clause-spare g c = no_room c.args.domain.now (Revoke _) (event_of c.args.event) c.args.out.now.spare _ tt (ap event_of c.in-Revoke.is)

-- ---- a changed key

pub returns-in-Secret-clause-steps : goal.returns-in-Secret-clause-steps
returns-in-Secret-clause-steps g c =
    if_changed_event c.change.result c.args.domain.now c.in-Secret.sta c.in-Secret.psk.now (event_of c.args.event) c.args.self.now c.change.new.self _ _ c.args.out.now.acts c.change.new.out.acts (ap event_of c.in-Secret.is) c.change.ensures.changed

pub returns-in-Secret-clause-looks : goal.returns-in-Secret-clause-looks
returns-in-Secret-clause-looks g c =
    if_changed_looks c.change.result _ c.args.domain.now c.in-Secret.sta c.in-Secret.psk.now c.args.self.now c.change.new.self _ _ c.args.out.now.acts c.change.new.out.acts c.change.ensures.changed

pub returns-in-Secret-clause-number : goal.returns-in-Secret-clause-number
returns-in-Secret-clause-number g c =
    number_changed c.change.result c.args.domain.now c.in-Secret.sta c.in-Secret.psk.now c.args.self.now c.change.new.self _ _ c.args.out.now.acts c.change.new.out.acts c.change.ensures.changed c.change.ensures.same

pub returns-in-Secret-clause-refused : goal.returns-in-Secret-clause-refused
returns-in-Secret-clause-refused g c =
    refused_changed c.change.result c.args.domain.now c.in-Secret.sta c.in-Secret.psk.now c.args.self.now c.change.new.self _ _ c.args.out.now.acts c.change.new.out.acts c.change.ensures.changed

pub returns-in-Secret-clause-same : goal.returns-in-Secret-clause-same
returns-in-Secret-clause-same g c = c.change.ensures.same

pub returns-in-Secret-clause-same_rows : goal.returns-in-Secret-clause-same_rows
returns-in-Secret-clause-same_rows g c = c.change.ensures.same_rows

pub returns-in-Secret-clause-kept : goal.returns-in-Secret-clause-kept
returns-in-Secret-clause-kept g c = c.change.ensures.kept

pub returns-in-Secret-clause-others : goal.returns-in-Secret-clause-others
returns-in-Secret-clause-others g c = c.change.ensures.others

-- a key of all stations ends a row of each, and of the moves nothing is said
pub returns-in-Secret-clause-one : goal.returns-in-Secret-clause-one
returns-in-Secret-clause-one g c = secret_one (event_of c.args.event) c.in-Secret.sta c.in-Secret.psk.now _ (ap event_of c.in-Secret.is)

pub returns-in-Secret-clause-unasked : goal.returns-in-Secret-clause-unasked
returns-in-Secret-clause-unasked g c = secret_unasked c.change.result (event_of c.args.event) c.in-Secret.sta c.in-Secret.psk.now _ c.args.out.now.acts c.change.new.out.acts (ap event_of c.in-Secret.is)

pub returns-in-Secret-clause-change : goal.returns-in-Secret-clause-change
returns-in-Secret-clause-change g c = secret_err c.change.result (event_of c.args.event) c.in-Secret.sta c.in-Secret.psk.now _ (ap event_of c.in-Secret.is)

pub returns-in-Secret-clause-no_less : goal.returns-in-Secret-clause-no_less
returns-in-Secret-clause-no_less g c = c.change.ensures.no_less

pub returns-in-Secret-clause-always : goal.returns-in-Secret-clause-always
returns-in-Secret-clause-always g c room =
    c.change.ensures.always (subst (λ (e : NodeEvent). HasRoomFor c.args.domain.now e c.args.out.now.spare) (ap event_of c.in-Secret.is) room)

pub returns-in-Secret-clause-spare : goal.returns-in-Secret-clause-spare
returns-in-Secret-clause-spare g c room =
    c.change.ensures.spare (subst (λ (e : NodeEvent). HasRoomFor c.args.domain.now e c.args.out.now.spare) (ap event_of c.in-Secret.is) room)

-- it names a station of the network
pub change-requires-clause-sta : goal.change-requires-clause-sta
change-requires-clause-sta g c = subst (IsEventAt c.args.domain.now (Ap c.args.self.now.number)) (ap event_of c.in-Secret.is) c.requires.event

pub returns-in-Renew-clause-looks : goal.returns-in-Renew-clause-looks
returns-in-Renew-clause-looks g c =
    if_plain_looks c.renew_key.result _ c.args.domain.now (Renew _) c.args.self.now c.renew_key.new.self _ c.args.out.now.acts c.renew_key.new.out.acts c.renew_key.ensures.taken

pub returns-in-Renew-clause-unasked : goal.returns-in-Renew-clause-unasked
returns-in-Renew-clause-unasked g c = but_unasked c.renew_key.result (event_of c.args.event) _ c.args.out.now.acts c.renew_key.new.out.acts (if_change c.renew_key.result _ _ _ (Unchanged refl))

pub returns-in-Renew-clause-change : goal.returns-in-Renew-clause-change
returns-in-Renew-clause-change g c = but_err c.renew_key.result (event_of c.args.event) _ (err_change c.renew_key.result _ (Unchanged refl))

pub returns-in-Renew-clause-number : goal.returns-in-Renew-clause-number
returns-in-Renew-clause-number g c = number_plain c.renew_key.result c.args.domain.now (Renew _) c.args.self.now c.renew_key.new.self c.args.out.now.acts c.renew_key.new.out.acts c.renew_key.ensures.taken c.renew_key.ensures.same

pub returns-in-Renew-clause-steps : goal.returns-in-Renew-clause-steps
returns-in-Renew-clause-steps g c =
    if_plain_event c.renew_key.result c.args.domain.now (Renew _) (event_of c.args.event) c.args.self.now c.renew_key.new.self _ c.args.out.now.acts c.renew_key.new.out.acts refl (ap event_of c.in-Renew.is) c.renew_key.ensures.taken

pub returns-in-Renew-clause-refused : goal.returns-in-Renew-clause-refused
returns-in-Renew-clause-refused g c = refused_plain c.renew_key.result c.args.domain.now (Renew _) c.args.self.now c.renew_key.new.self c.args.out.now.acts c.renew_key.new.out.acts c.renew_key.ensures.taken

pub returns-in-Renew-clause-same : goal.returns-in-Renew-clause-same
returns-in-Renew-clause-same g c = c.renew_key.ensures.same

pub returns-in-Renew-clause-same_rows : goal.returns-in-Renew-clause-same_rows
returns-in-Renew-clause-same_rows g c = err_change c.renew_key.result _ refl

pub returns-in-Renew-clause-kept : goal.returns-in-Renew-clause-kept
returns-in-Renew-clause-kept g c = c.renew_key.ensures.kept

pub returns-in-Renew-clause-others : goal.returns-in-Renew-clause-others
returns-in-Renew-clause-others g c = rest (same_others _ _ _ _)

pub returns-in-Renew-clause-one : goal.returns-in-Renew-clause-one
returns-in-Renew-clause-one g c = but (event_of c.args.event) _ (Stays refl)

pub returns-in-Renew-clause-no_less : goal.returns-in-Renew-clause-no_less
returns-in-Renew-clause-no_less g c = g.met.H.Holders.same c.args.holders.now

pub returns-in-Renew-clause-always : goal.returns-in-Renew-clause-always
returns-in-Renew-clause-always g c = no_room c.args.domain.now (Renew _) (event_of c.args.event) c.args.out.now.spare _ tt (ap event_of c.in-Renew.is)

pub returns-in-Renew-clause-spare : goal.returns-in-Renew-clause-spare
returns-in-Renew-clause-spare g c = no_room c.args.domain.now (Renew _) (event_of c.args.event) c.args.out.now.spare _ tt (ap event_of c.in-Renew.is)

-- in a network that renews keys it names a station
pub renew_key-requires-clause-station : goal.renew_key-requires-clause-station
renew_key-requires-clause-station g c = (subst (IsEventAt c.args.domain.now (Ap c.args.self.now.number)) (ap event_of c.in-Renew.is) c.requires.event).0

pub renew_key-requires-clause-renews : goal.renew_key-requires-clause-renews
renew_key-requires-clause-renews g c = (subst (IsEventAt c.args.domain.now (Ap c.args.self.now.number)) (ap event_of c.in-Renew.is) c.requires.event).1

-- ---- an announcement

pub returns-in-Announce-clause-looks : goal.returns-in-Announce-clause-looks
returns-in-Announce-clause-looks g c =
    if_plain_looks c.announce.result _ c.args.domain.now (Announce _) c.args.self.now c.announce.new.self _ c.args.out.now.acts c.announce.new.out.acts c.announce.ensures.taken

pub returns-in-Announce-clause-unasked : goal.returns-in-Announce-clause-unasked
returns-in-Announce-clause-unasked g c = but_unasked c.announce.result (event_of c.args.event) _ c.args.out.now.acts c.announce.new.out.acts (if_change c.announce.result _ _ _ (Unchanged refl))

pub returns-in-Announce-clause-change : goal.returns-in-Announce-clause-change
returns-in-Announce-clause-change g c = but_err c.announce.result (event_of c.args.event) _ (err_change c.announce.result _ (Unchanged refl))

pub returns-in-Announce-clause-number : goal.returns-in-Announce-clause-number
returns-in-Announce-clause-number g c = number_plain c.announce.result c.args.domain.now (Announce _) c.args.self.now c.announce.new.self c.args.out.now.acts c.announce.new.out.acts c.announce.ensures.taken c.announce.ensures.same

pub returns-in-Announce-clause-steps : goal.returns-in-Announce-clause-steps
returns-in-Announce-clause-steps g c =
    if_plain_event c.announce.result c.args.domain.now (Announce _) (event_of c.args.event) c.args.self.now c.announce.new.self _ c.args.out.now.acts c.announce.new.out.acts refl (ap event_of c.in-Announce.is) c.announce.ensures.taken

pub returns-in-Announce-clause-refused : goal.returns-in-Announce-clause-refused
returns-in-Announce-clause-refused g c = refused_plain c.announce.result c.args.domain.now (Announce _) c.args.self.now c.announce.new.self c.args.out.now.acts c.announce.new.out.acts c.announce.ensures.taken

pub returns-in-Announce-clause-same : goal.returns-in-Announce-clause-same
returns-in-Announce-clause-same g c = c.announce.ensures.same

pub returns-in-Announce-clause-same_rows : goal.returns-in-Announce-clause-same_rows
returns-in-Announce-clause-same_rows g c = err_change c.announce.result _ refl

pub returns-in-Announce-clause-kept : goal.returns-in-Announce-clause-kept
returns-in-Announce-clause-kept g c = c.announce.ensures.kept

pub returns-in-Announce-clause-others : goal.returns-in-Announce-clause-others
returns-in-Announce-clause-others g c = rest (same_others _ _ _ _)

pub returns-in-Announce-clause-one : goal.returns-in-Announce-clause-one
returns-in-Announce-clause-one g c = but (event_of c.args.event) _ (Stays refl)

pub returns-in-Announce-clause-no_less : goal.returns-in-Announce-clause-no_less
returns-in-Announce-clause-no_less g c = g.met.H.Holders.same c.args.holders.now

pub returns-in-Announce-clause-always : goal.returns-in-Announce-clause-always
returns-in-Announce-clause-always g c = no_room c.args.domain.now (Announce _) (event_of c.args.event) c.args.out.now.spare _ tt (ap event_of c.in-Announce.is)

pub returns-in-Announce-clause-spare : goal.returns-in-Announce-clause-spare
returns-in-Announce-clause-spare g c = no_room c.args.domain.now (Announce _) (event_of c.args.event) c.args.out.now.spare _ tt (ap event_of c.in-Announce.is)

-- the payload is short, in a network that protects management frames
pub announce-requires-clause-short : goal.announce-requires-clause-short
announce-requires-clause-short g c = (subst (IsEventAt c.args.domain.now (Ap c.args.self.now.number)) (ap event_of c.in-Announce.is) c.requires.event).0

pub announce-requires-clause-protects : goal.announce-requires-clause-protects
announce-requires-clause-protects g c = (subst (IsEventAt c.args.domain.now (Ap c.args.self.now.number)) (ap event_of c.in-Announce.is) c.requires.event).1

use Rattle.std.proofs.Common.{◌≡◌, ◌∙◌, true, List, ℕ, ap, subst}
use Rattle.key_holders.specs.Rows.{is_in}
use Rattle.key_holders.specs.Pulls.{Answers}
use Rattle.holder_table.specs.Histories.{held_at}
use Rattle.holder_table.specs.Knowledge.{Pulled}
use Rattle.uses.proofs.Sharing.{is_first, is_alone, in_left, has_first, held_first, found_before, found_after}
use Rattle.uses.proofs.two_threads.side_by_side.Goals as goal

pub returns-clause-during : goal.returns-clause-during
returns-clause-during g c =
    let ids = c.args.ids.items in
    let id = c.args.r0kh_id.now in
    let row = c.args.row in
    let v = c.split-second.result.knows in
    let first = c.at_once-pass.result.0.knows in
    let w = c.at_once-pass.result.1.0.knows in
    let now = c.join.new.pass.knows in
    let answer = c.at_once-pass.result.1.1 in
    let has = has_first ids c.in_ok-holders.first.knows c.split-second.new.pass.knows v first c.in_ok-holders.ensures.2 c.requires.two c.split-second.ensures.gave c.at_once-pass.ensures.has in
    let held = held_first first w now row c.join.ensures.took_in has c.at_once-pass.ensures.row in
    let pulled : Pulled ids id row.name c.args.r1kh row.sta v w answer =
    subst (λ (is : List (List ℕ)). Pulled is id row.name c.args.r1kh row.sta v w answer) c.in_ok-holders.ensures.0 c.at_once-pass.ensures.pulled in
    found_before ids id row.name c.args.r1kh row.sta v w now row answer pulled (is_first ids id c.requires.two c.requires.first)
    (is_alone ids id c.requires.two c.requires.other) c.join.ensures.took_in.others_seen held

pub returns-clause-after : goal.returns-clause-after
returns-clause-after g c =
    let ids = c.args.ids.items in
    let id = c.args.r0kh_id.now in
    let row = c.args.row in
    let first = c.at_once-pass.result.0.knows in
    let w = c.at_once-pass.result.1.0.knows in
    let now = c.join.new.pass.knows in
    let has = has_first ids c.in_ok-holders.first.knows c.split-second.new.pass.knows c.split-second.result.knows first c.in_ok-holders.ensures.2 c.requires.two c.split-second.ensures.gave c.at_once-pass.ensures.has in
    let held = held_first first w now row c.join.ensures.took_in has c.at_once-pass.ensures.row in
    let answers : Answers ids now.has (λ r. held_at r now.seen) id row.name c.args.r1kh row.sta c.pull-after.result =
    subst (λ (is : List (List ℕ)). Answers is now.has (λ r. held_at r now.seen) id row.name c.args.r1kh row.sta c.pull-after.result) c.in_ok-holders.ensures.0 c.pull-after.ensures.own in
    let in_now : is_in 0 now.has ≡ true = ap (is_in 0) c.join.ensures.took_in.has ∙ in_left 0 first.has w.has has in
    found_after ids now.has now.seen id c.args.r1kh row c.pull-after.result answers (is_first ids id c.requires.two c.requires.first)
    (is_alone ids id c.requires.two c.requires.other) in_now held

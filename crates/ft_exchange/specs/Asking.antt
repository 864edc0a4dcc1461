-- What an authentication request asks for, and what key holders give (IEEE Std 802.11-2020, 13.8.2, 13.2.2, profile).
use Rattle.std.specs.Prelude.{◌≡◌, ◌<◌, ◌≤◌, ◌+◌, ℕ, Bool, false, ◌&&◌, List, map, Option, Some, None, is_some, bytes_eq, if◌then◌else◌, Result, Ok, Err}
use Rattle.std.specs.Option.{option_copied}
use Rattle.domain_base.specs.declared.names.Node.{Node}
use Rattle.key_hierarchy.specs.declared.answers.PullAnswer.{PullAnswer}
use Rattle.key_hierarchy.specs.declared.answers.PullAnswer.TheVariants.{Found, NoHolder, Absent}
use Rattle.rsn_elements.specs.Elements.{ElementFields}
use Rattle.run_journal.specs.declared.domain.Domain.{Domain}
use Rattle.run_journal.specs.declared.domain.ListedAp.{ListedAp}
use Rattle.run_journal.specs.declared.acts.Reason.{Reason}
use Rattle.run_journal.specs.declared.acts.Reason.TheVariants as reason
use Rattle.run_journal.specs.declared.acts.Act.{Act}
use Rattle.run_journal.specs.declared.reply.Reply.{Reply}
use Rattle.run_journal.specs.Questions.{draws}
use Rattle.domain_rules.specs.Facts.{is_same}
use Rattle.domain_rules.specs.Network.{holder_of, draw_end}
use Rattle.domain_rules.specs.Closing.{next_nonce}
use Rattle.domain_rules.specs.FastTransition.{single}
use Rattle.domain_rules.specs.TransitionKeys.{Asked, asked}
use Rattle.ft_exchange.specs.Judged.{request_reason}
use Rattle.ft_exchange.specs.State.{TargetState}
use Rattle.ft_exchange.specs.declared.request.Asked.{Asked as AskedHere}
use Rattle.ft_exchange.specs.declared.looking.Granted.{Granted}

-- what a request asks for, without where it lies in memory
abbrev pub asked_fields : AskedHere → Asked
asked_fields a = record { snonce = a.snonce; r0kh_id = a.r0kh_id.now; names = option_copied a.names }

-- what a request asks for, or why its elements are refused, where management frames are protected or not
abbrev pub IsRequest : Bool → List ℕ → ElementFields → Result AskedHere Reason → Type 0
IsRequest protected mdid e (Ok a) = (request_reason protected mdid e ≡ None) × (asked e ≡ Some (asked_fields a))
IsRequest protected mdid e (Err why) = request_reason protected mdid e ≡ Some why

-- it repeats the request that a target began with
abbrev pub is_repeated : Asked → TargetState → Bool
is_repeated a s = bytes_eq a.snonce s.key.snonce && bytes_eq a.r0kh_id s.r0kh_id && is_same a.names (Some s.asked)

-- it repeats the request of the pending target, where there is one
abbrev pub is_pending_repeated : Asked → Option TargetState → Bool
is_pending_repeated a None = false
is_pending_repeated a (Some s) = is_repeated a s

-- why a request is refused that asks for no single name
abbrev pub unnamed_reason : Domain → List ℕ → Reason
unnamed_reason d id = if is_some (holder_of d id) then reason.Name else reason.NoHolder

-- what an answer grants, for a name that was asked for and a nonce that was drawn, if one was
abbrev pub granted_by : PullAnswer → List ℕ → Option (List ℕ) → Result Granted Reason
granted_by NoHolder name v = Err reason.NoHolder
granted_by Absent name v = Err reason.Name
granted_by (Found k) name None = Err reason.Spent
granted_by (Found k) name (Some v) = Ok (record { anonce = v; asked = name; r1 = k })

-- the R0KH-IDs of the access points of a network, in order (profile)
abbrev pub ids_of : Domain → List (List ℕ)
ids_of d = map (λ (a : ListedAp). a.r0kh_id) d.aps

-- the nonce that the node draws next, where it draws one more (13.8.2, 13.8.4, profile)
abbrev pub IsDrawn : Domain → ℕ → Node → List Act → Option (List ℕ) → Type 0
IsDrawn d first n h None = draw_end ≤ first + draws h
IsDrawn d first n h (Some v) = (first + draws h < draw_end) × (v ≡ next_nonce d first n h)

-- key holders were asked for the one name, and grant that or why not; where there is no single name they were not asked, and all is as it was
pub record IsAnswered (a : Asked) (anonce : Option (List ℕ)) (Answered : List ℕ → PullAnswer → Type 0) (old new : Reply) (name : List ℕ)
    (result : Result Granted Reason) : Type 0 where
  pub answer : PullAnswer
  pub answered : Answered name answer
  pub reply : new ≡ record old { looked = Some answer }
  pub is : result ≡ granted_by answer name anonce

-- no key holder was asked, and the request is refused
pub record IsUnasked (d : Domain) (a : Asked) (Same : Type 0) (old new : Reply) (result : Result Granted Reason) : Type 0 where
  pub same : Same
  pub reply : new ≡ old
  pub is : result ≡ Err (unnamed_reason d a.r0kh_id)

-- what comes of a request, by the one name that it has
abbrev pub IsLookedBy : Domain → Asked → Option (List ℕ) → (List ℕ → PullAnswer → Type 0) → Type 0 → Reply → Reply → Option (List ℕ) → Result Granted Reason → Type 0
IsLookedBy d a v Answered Same old new None result = IsUnasked d a Same old new result
IsLookedBy d a v Answered Same old new (Some name) result = IsAnswered a v Answered old new name result

-- what comes of a request: key holders are asked where it has a single name
pub record IsLooked (d : Domain) (a : Asked) (anonce : Option (List ℕ)) (Answered : List ℕ → PullAnswer → Type 0) (Same : Type 0) (old new : Reply)
    (result : Result Granted Reason) : Type 0 where
  pub by_name : IsLookedBy d a anonce Answered Same old new (single a.names) result

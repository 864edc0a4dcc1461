-- What a message does (profile).
use Rattle.std.specs.Prelude.{◌≡◌, ◌≢◌, ℕ, Bool, false, List, [], ◌∷◌, Option, Some, None, option_and_then}
use Rattle.domain_base.specs.declared.names.Node.{Node}
use Rattle.run_journal.specs.declared.acts.Start.TheVariants.{Renew}
use Rattle.run_journal.specs.declared.acts.Drawn.TheVariants.{Nonce}
use Rattle.run_journal.specs.declared.acts.Outcome.{Outcome}
use Rattle.run_journal.specs.declared.acts.Outcome.TheVariants.{Accepted}
use Rattle.run_journal.specs.declared.acts.Act.{Act}
use Rattle.run_journal.specs.declared.acts.Act.TheVariants.{Opened, Drew}
use Rattle.run_journal.specs.declared.reply.Reply.{Reply}
use Rattle.run_journal.specs.declared.reply.Keyed.{Keyed}
use Rattle.run_journal.specs.Questions.{attempt, add}
use Rattle.domain_rules.specs.Replies.{Taken, Between, replied_acts, reply_acts}
use Rattle.node_base.specs.Pairs.{pair_at}
use Rattle.domain_rules.specs.Rows.{TakeRow}
use Rattle.domain_rules.specs.Here.{Here}
use Rattle.group_key.specs.Keys.{Memories}
use Rattle.group_key.specs.Holds.{RemembersAll}
use Rattle.supplicant.specs.Held.{key_in}
use Rattle.supplicant.specs.State.{State, Both}
use Rattle.supplicant.specs.Stands.{SupplicantStands}

-- what the node adds as it takes a message of p, where keys go back to that R0KH-ID, which suites 2 and 6 do not look
-- at, and there was a session or not
abbrev pub told_by : Here → Node → List ℕ → Bool → Taken → Reply → List Act
told_by w p id had t r = reply_acts (pair_at w.domain id w.node p) had t r

-- where a key was installed, there was an attempt with p, which became a session under that very key
abbrev pub IsUnder : Node → List Act → Option Keyed → State → Type 0
IsUnder p h None s = Unit {0}
IsUnder p h (Some y) s = (attempt p h ≢ None) × (s.attempt ≡ None) × (option_and_then key_in s.session ≡ Some y)

-- For a history that supplicant and memory stand for, the message adds to it what outcome and reply
-- say, by whether there was a session, and they then stand for the longer one.
pub record SupplicantSteps (w : Here) (p : Node) (had : Bool) (t : Taken) (new : Both) (r : Reply) (h : List Act) : Type 0 where
  pub adds : TakeRow w h t.octets (told_by w p new.part.base.r0kh_id had t r)
  pub stands : SupplicantStands w.domain w.node p new.part (add (told_by w p new.part.base.r0kh_id had t r) h)
  pub remembers : RemembersAll p new.keys (add (told_by w p new.part.base.r0kh_id had t r) h)
  pub under : IsUnder p h r.installed new.part

-- an attempt begins that renews the key of the session with p, under that nonce
abbrev pub opened_with : Node → Option (List ℕ) → List Act
opened_with p None = []
opened_with p (Some v) = Opened p Renew ∷ Drew (Nonce v) ∷ []

-- as M1 is accepted
abbrev pub opening : Outcome → Node → Option (List ℕ) → List Act
opening Accepted p v = opened_with p v
opening _ p v = []

abbrev pub opening_between : Outcome → Node → Option (List ℕ) → Between
opening_between outcome p v = record { opened = opening outcome p v; put = [] }

-- what the node adds as it takes an M1 by which it may begin to renew that key, under that nonce, where one can be drawn
abbrev pub opening_told : Here → Node → List ℕ → Option (List ℕ) → Taken → Reply → List Act
opening_told w p id v t r = replied_acts (pair_at w.domain id w.node p) false t r (opening_between t.outcome p v)

-- For a history that the supplicant stands for, M1 adds to it what outcome and reply say, and the supplicant then
-- stands for the longer one; what is remembered of group keys stays.
pub record SupplicantOpens (w : Here) (p : Node) (v : Option (List ℕ)) (t : Taken) (new : State) (r : Reply) (h : List Act) : Type 0 where
  pub adds : TakeRow w h t.octets (opening_told w p new.base.r0kh_id v t r)
  pub stands : SupplicantStands w.domain w.node p new (add (opening_told w p new.base.r0kh_id v t r) h)
  pub remembers : (q : Node) (m : Memories) → RemembersAll q m h
      → RemembersAll q m (add (opening_told w p new.base.r0kh_id v t r) h)

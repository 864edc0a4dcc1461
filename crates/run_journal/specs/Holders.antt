-- Questions to the history of an access point about key holders and fast transitions: the list of its acts, NEWEST
-- FIRST (profile).
use Rattle.std.specs.Prelude.{ℕ, suc, Bool, true, false, cond, List, [], ◌∷◌, Option, Some, None, bytes_eq}
use Rattle.domain_base.specs.declared.names.Node.{Node}
use Rattle.key_hierarchy.specs.declared.answers.PutAnswer.TheVariants as put
use Rattle.key_hierarchy.specs.declared.answers.PullAnswer.{PullAnswer}
use Rattle.key_hierarchy.specs.declared.answers.PullAnswer.TheVariants.{Found}
use Rattle.key_hierarchy.specs.declared.answers.RevokeAnswer.TheVariants as revoke
use Rattle.key_hierarchy.specs.declared.fast_transition.PmkR1.{PmkR1}
use Rattle.run_journal.specs.declared.acts.Kind.{Kind}
use Rattle.run_journal.specs.declared.acts.Seal.{Seal}
use Rattle.run_journal.specs.declared.acts.Act.{Act}
use Rattle.run_journal.specs.declared.acts.Act.TheVariants.{Sent, Put, Looked, Revoked, Finished}
use Rattle.run_journal.specs.declared.acts.Entry.{Entry}
use Rattle.run_journal.specs.Acts.{same, same_kind, is_one, opens, closes, finishes}
use Rattle.run_journal.specs.Questions.{or_else, listed}

-- ---- rows of the own key holder

-- the station of a row of that name that was put, where the act put one
abbrev pub held : List ℕ → Act → Option Node
held name (Put x m p put.Held) = cond (bytes_eq m name) (Some p) None
held name _ = None

-- a row of that name was revoked
abbrev pub is_ended : List ℕ → Act → Bool
is_ended name (Revoked x m p revoke.Revoked) = bytes_eq m name
is_ended name _ = false

-- the live row of that name, by its station: the last of what was put and revoked under that name was put
abbrev pub row : List ℕ → List Act → Option Node
row name [] = None
row name (e ∷ h) = cond (is_ended name e) None (or_else (held name e) (row name h))

-- the act put a row: the answer was held
abbrev pub is_put : Act → Bool
is_put (Put x m p put.Held) = true
is_put _ = false

-- how many rows were put, revoked ones counted
abbrev pub rows : List Act → ℕ
rows [] = 0
rows (e ∷ h) = cond (is_put e) (suc (rows h)) (rows h)

-- ---- looks

-- what was asked of a key holder, and what it answered
pub record Look : Type 0 where
  pub r0kh_id : List ℕ
  pub name : List ℕ
  pub answer : PullAnswer

abbrev pub looked : Node → Act → Option Look
looked p (Looked x m q answer) = cond (same p q) (Some (record { r0kh_id = x; name = m; answer = answer })) None
looked p _ = None

-- the last look for p
abbrev pub last_look : Node → List Act → Option Look
last_look p [] = None
last_look p (e ∷ h) = or_else (looked p e) (last_look p h)

-- the look of the attempt with p: it stands before the Opened that it leads to, and none between
abbrev pub look : Node → List Act → Option Look
look p [] = None
look p (e ∷ h) = cond (opens p e) (last_look p h) (look p h)

-- the key that was found
abbrev pub found_in : PullAnswer → Option PmkR1
found_in (Found k) = Some k
found_in _ = None

-- what a key holder answered to a look
abbrev pub answer_of : Act → Option PullAnswer
answer_of (Looked x m p answer) = Some answer
answer_of _ = None

-- the answers to the looks among acts, and in a journal, in the order of the list
abbrev pub answers : List Act → List PullAnswer
answers [] = []
answers (e ∷ g) = listed (answer_of e) (answers g)

-- the answers to the looks in a journal
abbrev pub answers_in : List Entry → List PullAnswer
answers_in [] = []
answers_in (e ∷ j) = listed (answer_of e.act) (answers_in j)

-- ---- sessions by fast transition

-- the history before the final message of the session with p, where it goes on
abbrev pub before_finished : Node → List Act → Option (List Act)
before_finished p [] = None
before_finished p (e ∷ h) = cond (finishes p e) (Some h) (cond (closes p e) None (before_finished p h))

-- the history since the last final message of p, and all of it where there is none
abbrev pub since_finished : Node → List Act → List Act
since_finished p [] = []
since_finished p (e ∷ h) = cond (finishes p e) [] (e ∷ since_finished p h)

-- a frame that was sent: its octets, and what is sealed in it
pub record Stored : Type 0 where
  pub octets : List ℕ
  pub seal : Option Seal

abbrev pub stored : Node → Kind → Act → Option Stored
stored p k (Sent q m octets s) = cond (is_one p q) (cond (same_kind k m) (Some (record { octets = octets; seal = s })) None) None
stored p k _ = None

-- the first frame of that kind sent to p
abbrev pub first_stored : Node → Kind → List Act → Option Stored
first_stored p k [] = None
first_stored p k (e ∷ h) = or_else (first_stored p k h) (stored p k e)

-- ---- the R0 key holder of a station

-- that of the last key under which a final message was accepted. A fast transition keeps it, so it is that of the last four-way
-- handshake (IEEE Std 802.11-2020, 13.2.2)
abbrev pub last_r0kh_id : List Act → List ℕ
last_r0kh_id [] = []
last_r0kh_id (Finished p i ∷ h) = i.r0kh_id
last_r0kh_id (_ ∷ h) = last_r0kh_id h

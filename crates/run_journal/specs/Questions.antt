-- Questions to the history of one node: the list of its acts, NEWEST FIRST (profile).
use Rattle.std.specs.Prelude.{ℕ, suc, Bool, true, false, cond, List, [], ◌∷◌, Option, Some, None, is_some}
use Rattle.domain_base.specs.declared.names.Node.{Node}
use Rattle.run_journal.specs.declared.acts.GroupKind.{GroupKind}
use Rattle.run_journal.specs.declared.acts.Kind.{Kind}
use Rattle.run_journal.specs.declared.acts.Part.TheVariants.{Attempt, Session}
use Rattle.run_journal.specs.declared.acts.Act.{Act}
use Rattle.run_journal.specs.declared.acts.Act.TheVariants.{Opened, Closed, Finished, Drew}
use Rattle.run_journal.specs.declared.acts.Entry.{Entry}
use Rattle.run_journal.specs.Acts.{same, opens, begins, ends, closes, finishes, nonce_drawn, key_drawn, switched, GroupKey, given_from, installs_pairwise, uses_with, uses_all, Derivation, derived, accepted, replied, sent}

-- the acts of one node in a journal
abbrev pub history : Node → List Entry → List Act
history n [] = []
history n (e ∷ past) = cond (same n e.node) (e.act ∷ history n past) (history n past)

-- the first of two, or else the second (IEEE Std 802.11-2020, 12.7.6)
abbrev pub or_else : {A : Type 0} → Option A → Option A → Option A
or_else (Some x) o = Some x
or_else None o = o

-- a part of the history with one more act, where it goes on (IEEE Std 802.11-2020, 12.7.6)
abbrev pub also : Act → Option (List Act) → Option (List Act)
also e None = None
also e (Some part) = Some (e ∷ part)

-- the attempt with p: the history from its Opened on, or None (IEEE Std 802.11-2020, 12.7.6)
abbrev pub attempt : Node → List Act → Option (List Act)
attempt p [] = None
attempt p (e ∷ h) = cond (opens p e) (Some (e ∷ [])) (cond (ends p e) None (also e (attempt p h)))

-- the history from the last Opened with p on, and all of it where there is none (IEEE Std 802.11-2020, 12.7.6)
abbrev pub since : Node → List Act → List Act
since p [] = []
since p (e ∷ h) = cond (opens p e) (e ∷ []) (e ∷ since p h)

-- what the replay counters of a station are asked of: the history from the Opened on that begins the chain of attempts
-- and sessions with p, and all of it where there is none. An attempt that renews the key of a session belongs to the
-- chain of that session (IEEE Std 802.11-2020, 12.7.2, profile)
abbrev pub chain : Node → List Act → List Act
chain p [] = []
chain p (e ∷ h) = cond (begins p e) (e ∷ []) (e ∷ chain p h)

-- the first nonce drawn: that of the attempt, of which this is the history
abbrev pub own_nonce : List Act → Option (List ℕ)
own_nonce [] = None
own_nonce (e ∷ h) = or_else (own_nonce h) (nonce_drawn e)

-- the last key derived with p
abbrev pub derivation : Node → List Act → Option Derivation
derivation p [] = None
derivation p (e ∷ h) = or_else (derived p e) (derivation p h)

-- the session with p: the key that was derived last before its Finished, or None (IEEE Std 802.11-2020, 12.7.6)
abbrev pub session : Node → List Act → Option Derivation
session p [] = None
session p (e ∷ h) = cond (finishes p e) (derivation p h) (cond (closes p e) None (session p h))

-- whom a station has an attempt with (IEEE Std 802.11-2020, 12.7.6)
abbrev pub pending : List Act → Option Node
pending [] = None
pending (Opened p s ∷ h) = Some p
pending (Closed p Attempt ∷ h) = None
pending (Finished p i ∷ h) = None
pending (_ ∷ h) = pending h

-- whom a station has a session with (IEEE Std 802.11-2020, 12.7.6)
abbrev pub associated : List Act → Option Node
associated [] = None
associated (Finished p i ∷ h) = Some p
associated (Closed p Session ∷ h) = None
associated (_ ∷ h) = associated h

-- the octets of the last frame of that kind accepted from p
abbrev pub heard : Node → Kind → List Act → Option (List ℕ)
heard p k [] = None
heard p k (e ∷ h) = or_else (accepted p k e) (heard p k h)

-- one more in front, where there is one (IEEE Std 802.11-2020, 12.7.6)
abbrev pub listed : {A : Type 0} → Option A → List A → List A
listed None xs = xs
listed (Some x) xs = x ∷ xs

-- the history before the first frame of that kind that was sent to p since the last Opened with p
abbrev pub before_sent : Node → Kind → List Act → Option (List Act)
before_sent p k [] = None
before_sent p k (e ∷ h) = cond (opens p e) None (or_else (before_sent p k h) (cond (is_some (sent p k e)) (Some h) None))

-- the octets of all frames of that kind accepted or answered from p, the last first
abbrev pub all_replied : Node → Kind → List Act → List (List ℕ)
all_replied p k [] = []
all_replied p k (e ∷ h) = listed (replied p k e) (all_replied p k h)

-- the octets of all frames of that kind sent to p, the last first
abbrev pub all_sent : Node → Kind → List Act → List (List ℕ)
all_sent p k [] = []
all_sent p k (e ∷ h) = listed (sent p k e) (all_sent p k h)

-- the group keys of that kind drawn, the last first: the first of them is the newest
abbrev pub group_keys : GroupKind → List Act → List (List ℕ)
group_keys kind [] = []
group_keys kind (e ∷ h) = listed (key_drawn kind e) (group_keys kind h)

-- the group keys of that kind that an access point made current, the last first; the k-th is the k-th drawn
abbrev pub switches : GroupKind → List Act → List (List ℕ)
switches kind [] = []
switches kind (e ∷ h) = listed (switched kind e) (switches kind h)

-- the group keys of that kind that a station installed from access point p, the last first
abbrev pub given : GroupKind → Node → List Act → List GroupKey
given kind p [] = []
given kind p (e ∷ h) = listed (given_from kind p e) (given kind p h)

-- an access point's group key handshake with p: the history of its session with p since the newest group key of that kind was drawn,
-- or since the session began, whichever was later (IEEE Std 802.11-2020, 12.7.7)
abbrev pub handshake : GroupKind → Node → List Act → List Act
handshake kind p [] = []
handshake kind p (e ∷ h) = cond (finishes p e) [] (cond (is_some (key_drawn kind e)) [] (e ∷ handshake kind p h))

-- how many packet numbers a node used with p since it last installed a pairwise key with p (IEEE Std 802.11-2020,
-- 12.5.3.2, profile)
abbrev pub pairwise_uses : Node → List Act → ℕ
pairwise_uses p [] = 0
pairwise_uses p (e ∷ h) = cond (installs_pairwise p e) 0 (cond (uses_with p e) (suc (pairwise_uses p h)) (pairwise_uses p h))

-- how many packet numbers an access point used under its current group key of that kind
abbrev pub group_uses : GroupKind → List Act → ℕ
group_uses kind [] = 0
group_uses kind (e ∷ h) = cond (is_some (switched kind e)) 0 (cond (uses_all kind e) (suc (group_uses kind h)) (group_uses kind h))

-- the act drew a value
abbrev pub is_draw : Act → Bool
is_draw (Drew v) = true
is_draw _ = false

-- how many values were drawn
abbrev pub draws : List Act → ℕ
draws [] = 0
draws (e ∷ h) = cond (is_draw e) (suc (draws h)) (draws h)

-- the history after these acts, in order
abbrev pub add : List Act → List Act → List Act
add [] h = h
add (e ∷ g) h = add g (e ∷ h)

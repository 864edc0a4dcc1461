-- The replay counter that an access point uses next with a station. Where it starts is this project's choice (IEEE Std
-- 802.11-2020, 12.7.2, profile).
use Rattle.std.specs.Prelude.{ℕ, suc, ◌+◌, Bool, true, false, cond, List, [], ◌∷◌, length, Option, Some, None, is_some, if◌then◌else◌}
use Rattle.domain_base.specs.declared.names.Node.{Node}
use Rattle.eapol_key.specs.declared.messages.Message.{Message}
use Rattle.eapol_key.specs.declared.messages.Message.TheVariants.{M1, M3, G1}
use Rattle.run_journal.specs.declared.acts.Kind.TheVariants.{Key}
use Rattle.run_journal.specs.declared.acts.Act.{Act}
use Rattle.run_journal.specs.Acts.{finishes, sent}
use Rattle.run_journal.specs.Questions.{attempt, all_sent}
use Rattle.domain_rules.specs.Asking.{is_four_way, is_by_renewal, in_renewal}

-- how many of a message were sent to p
abbrev pub sent_count : Node → Message → List Act → ℕ
sent_count p m h = length (all_sent p (Key m) h)

-- in an attempt by a four-way handshake, of which this is the history: one more than its M1 and M3
abbrev pub next_in_attempt : Node → List Act → ℕ
next_in_attempt p part = suc (sent_count p M1 part + sent_count p M3 part)

-- a session goes on from its four-way handshake, and begins at 1 after a fast transition
abbrev pub first_in_session : Node → Option (List Act) → ℕ
first_in_session p None = 1
first_in_session p (Some part) = if is_four_way part then next_in_attempt p part else 1

-- the act takes a counter of the session with p: a G1 that is sent and, as long as an attempt goes on that renews its
-- key, an M1 or M3
abbrev pub takes_counter : Node → Bool → Act → Bool
takes_counter p renewing e =
    cond (is_some (sent p (Key G1) e)) true (cond (is_some (sent p (Key M1) e)) renewing (cond (is_some (sent p (Key M3) e)) renewing false))

-- in a session: each such act counts since its chain began, which goes on as its key is renewed
abbrev pub next_in_session : Node → List Act → ℕ
next_in_session p [] = 1
next_in_session p (e ∷ h) =
    cond (finishes p e) (cond (in_renewal (attempt p h)) (next_in_session p h) (first_in_session p (attempt p h)))
    (cond (takes_counter p (in_renewal (attempt p h)) e) (suc (next_in_session p h)) (next_in_session p h))

-- the counter of the next M1 or M3 in the attempt with p, of which `part` is the history: one that renews the key of a
-- session goes on with the counters of that session
abbrev pub next_counter : Node → List Act → List Act → ℕ
next_counter p h part = cond (is_by_renewal part) (next_in_session p h) (next_in_attempt p part)

-- What the acts of a request are to other stations, and how many values they draw.
use Rattle.std.proofs.Common.{◌≡◌, ℕ, suc, ◌+◌, Bool, true, false, cond, List, [], ◌∷◌, ◌++◌, Option, Some, None, refl, arith}
use Rattle.std.specs.Prelude.{◌==◌, take}
use Rattle.std.specs.List.{AllByRecursion}
use Rattle.domain_base.specs.declared.names.Node.{Node}
use Rattle.domain_base.specs.declared.names.Node.TheVariants.{Sta}
use Rattle.domain_base.specs.declared.names.Peer.{Peer}
use Rattle.key_hierarchy.specs.declared.answers.PullAnswer.{PullAnswer}
use Rattle.key_hierarchy.specs.declared.inputs.Inputs.{Inputs}
use Rattle.run_journal.specs.declared.domain.Domain.{Domain}
use Rattle.run_journal.specs.declared.acts.Key.{Key}
use Rattle.run_journal.specs.declared.acts.Kind.TheVariants as kind
use Rattle.run_journal.specs.declared.acts.Act.{Act}
use Rattle.run_journal.specs.declared.acts.Act.TheVariants.{Looked, Installed, Finished}
use Rattle.run_journal.specs.declared.reply.Reply.{Reply}
use Rattle.run_journal.specs.declared.reply.Keyed.{Keyed}
use Rattle.run_journal.specs.Acts.{same}
use Rattle.run_journal.specs.Questions.{is_draw, draws}
use Rattle.domain_rules.specs.Network.{Root}
use Rattle.domain_rules.specs.Closing.{close_attempt}
use Rattle.domain_rules.specs.FastTransition.{single}
use Rattle.domain_rules.specs.Replies.{derived_acts, replaced_acts, installed_acts, finished_acts}
use Rattle.domain_rules.specs.TransitionKeys.{Asked, asked, re_req_covered}
use Rattle.domain_rules.specs.TransitionRows.{looked_by, looked_for}
use Rattle.domain_rules.proofs.Parts.{IsApart, apart-opened, apart-closed, apart-closed_session, apart-drew, apart-derived, apart-sent, apart-took}
use Rattle.ft_exchange.specs.Told.{Came, taken_seal, sent_octets, transition_sent, begun_acts, auth_request_acts, reassoc_request_acts}

-- ---- acts that are not about a station

all_apart : (p : Node) (f g : List Act) → AllByRecursion (IsApart p) f → AllByRecursion (IsApart p) g → AllByRecursion (IsApart p) (f ++ g)
all_apart p [] g all more = more
all_apart p (e ∷ f) g all more = (all.0, all_apart p f g all.1 more)

pub apart_looked : (p : Node) (id name : List ℕ) (q : Node) (answer : PullAnswer) → IsApart p (Looked id name q answer)
apart_looked p id name q answer = record { opens_none = refl; ends_none = refl; accepts_none = λ k. refl; replies_none = λ k. refl; sends_none = λ m. refl; derives_none = refl; finishes_none = refl; closes_none = refl }

apart_installed : (p : Node) (q : Peer) (k : Key) → IsApart p (Installed q k)
apart_installed p q k = record { opens_none = refl; ends_none = refl; accepts_none = λ k. refl; replies_none = λ k. refl; sends_none = λ m. refl; derives_none = refl; finishes_none = refl; closes_none = refl }

apart_finished : (k : ℕ) (q : Node) (i : Inputs) → same (Sta k) q ≡ false → IsApart (Sta k) (Finished q i)
apart_finished k q i other = record { opens_none = refl; ends_none = other; accepts_none = λ k. refl; replies_none = λ k. refl; sends_none = λ m. refl; derives_none = refl; finishes_none = other; closes_none = refl }

looked_apart : (p q : Node) (x : Option Asked) (answer : Option PullAnswer) → AllByRecursion (IsApart p) (looked_for q x answer)
looked_apart p q None answer = tt
looked_apart p q (Some a) answer = by (single a.names) answer
  where
    by : (name : Option (List ℕ)) (answer : Option PullAnswer) → AllByRecursion (IsApart p) (looked_by q a name answer)
    by None answer = tt
    by (Some name) None = tt
    by (Some name) (Some y) = (apart_looked p a.r0kh_id name q y, tt)

sent_apart : (d : Domain) (n q p : Node) (r : Reply) → same p q ≡ false → AllByRecursion (IsApart p) (transition_sent d n q r)
sent_apart d n q p r other = by (r.len == 0)
  where
    by : (b : Bool) → AllByRecursion (IsApart p) (cond b [] (sent_octets d n q r (take r.len r.octets)))
    by true = tt
    by false = (apart-sent p q r.kind _ _ other, tt)

closed_apart : (k : ℕ) (q : Node) (part : Option (List Act)) → same (Sta k) q ≡ false → AllByRecursion (IsApart (Sta k)) (close_attempt q part)
closed_apart k q None other = tt
closed_apart k q (Some part) other = (apart-closed k q other, tt)

begun_apart : (k : ℕ) (q : Node) (part : Option (List Act)) (y : Option Keyed) → same (Sta k) q ≡ false → AllByRecursion (IsApart (Sta k)) (begun_acts q part y)
begun_apart k q part None other = tt
begun_apart k q part (Some y) other = all_apart (Sta k) (close_attempt q part) _ (closed_apart k q part other) (apart-opened (Sta k) q _ other, (apart-drew (Sta k) _, tt))

derived_apart : (d : Domain) (root : Root) (n q p : Node) (y : Option Keyed) → same p q ≡ false → AllByRecursion (IsApart p) (derived_acts d root n q y)
derived_apart d root n q p None other = tt
derived_apart d root n q p (Some y) other = (apart-derived p q _ _ other, tt)

-- an authentication request of another
pub auth_apart : (d : Domain) (root : Root) (n q : Node) (part : Option (List Act)) (t : Came) (r : Reply) (k : ℕ) → same (Sta k) q ≡ false → AllByRecursion (IsApart (Sta k)) (auth_request_acts d root n q part t r)
auth_apart d root n q part t r k other = (
  apart-took (Sta k) (Some q) t.octets kind.FtReq t.outcome None other,
  all_apart (Sta k) (looks ++ begins ++ derives) (transition_sent d n q r)
      (all_apart (Sta k) (looks ++ begins) derives (all_apart (Sta k) looks begins (looked_apart (Sta k) q (asked t.fields) r.looked) (begun_apart k q part r.derived other))
      (derived_apart d root n q (Sta k) r.derived other))
      (sent_apart d n q (Sta k) r other),
)
  where
    looks : List Act
    looks = looked_for q (asked t.fields) r.looked

    begins : List Act
    begins = begun_acts q part r.derived

    derives : List Act
    derives = derived_acts d root n q r.derived

replaced_apart : (p q : Node) (had : Bool) (y : Option Keyed) → same p q ≡ false → AllByRecursion (IsApart p) (replaced_acts q had y)
replaced_apart p q true None other = tt
replaced_apart p q true (Some y) other = (apart-closed_session p q other, tt)
replaced_apart p q false y other = tt

installed_apart : (d : Domain) (root : Root) (n q p : Node) (y : Option Keyed) → AllByRecursion (IsApart p) (installed_acts d root n q y)
installed_apart d root n q p None = tt
installed_apart d root n q p (Some y) = (apart_installed p _ _, tt)

finished_apart : (d : Domain) (root : Root) (n q : Node) (k : ℕ) (y : Option Keyed) → same (Sta k) q ≡ false → AllByRecursion (IsApart (Sta k)) (finished_acts d root n q y)
finished_apart d root n q k None other = tt
finished_apart d root n q k (Some y) other = (apart_finished k q _ other, tt)

-- and a reassociation request
pub reassoc_apart : (d : Domain) (root : Root) (n q : Node) (had : Bool) (t : Came) (r : Reply) (k : ℕ) → same (Sta k) q ≡ false → AllByRecursion (IsApart (Sta k)) (reassoc_request_acts d root n q had t r)
reassoc_apart d root n q had t r k other = (
  apart-took (Sta k) (Some q) t.octets kind.ReReq t.outcome (taken_seal (re_req_covered d n q t.fields) r.verified) other,
  all_apart (Sta k) (replaces ++ installs ++ finishes) (transition_sent d n q r)
      (all_apart (Sta k) (replaces ++ installs) finishes (all_apart (Sta k) replaces installs (replaced_apart (Sta k) q had r.installed other) (installed_apart d root n q (Sta k) r.installed))
      (finished_apart d root n q k r.installed other))
      (sent_apart d n q (Sta k) r other),
)
  where
    replaces : List Act
    replaces = replaced_acts q had r.installed

    installs : List Act
    installs = installed_acts d root n q r.installed

    finishes : List Act
    finishes = finished_acts d root n q r.installed

-- ---- how many values are drawn

drawn_more : (b : Bool) (x y z : ℕ) → x ≡ y + z → cond b (suc x) x ≡ cond b (suc y) y + z
drawn_more true x y z is = omega (arith, is)
drawn_more false x y z is = is

draws_append : (f g : List Act) → draws (f ++ g) ≡ draws f + draws g
draws_append [] g = omega arith
draws_append (e ∷ f) g = drawn_more (is_draw e) (draws (f ++ g)) (draws f) (draws g) (draws_append f g)

looked_draws : (q : Node) (x : Option Asked) (answer : Option PullAnswer) → draws (looked_for q x answer) ≡ 0
looked_draws q None answer = refl
looked_draws q (Some a) answer = by (single a.names) answer
  where
    by : (name : Option (List ℕ)) (answer : Option PullAnswer) → draws (looked_by q a name answer) ≡ 0
    by None answer = refl
    by (Some name) None = refl
    by (Some name) (Some y) = refl

sent_draws : (d : Domain) (n q : Node) (r : Reply) → draws (transition_sent d n q r) ≡ 0
sent_draws d n q r = by (r.len == 0)
  where
    by : (b : Bool) → draws (cond b [] (sent_octets d n q r (take r.len r.octets))) ≡ 0
    by true = refl
    by false = refl

-- the nonce of a new attempt
abbrev pub drawn_for : Option Keyed → ℕ
drawn_for None = 0
drawn_for (Some y) = 1

begun_draws : (q : Node) (part : Option (List Act)) (y : Option Keyed) → draws (begun_acts q part y) ≡ drawn_for y
begun_draws q part None = refl
begun_draws q None (Some y) = refl
begun_draws q (Some old) (Some y) = refl

derived_draws : (d : Domain) (root : Root) (n q : Node) (y : Option Keyed) → draws (derived_acts d root n q y) ≡ 0
derived_draws d root n q None = refl
derived_draws d root n q (Some y) = refl

all_draws : (f g k l : List Act) (m : ℕ) → draws f ≡ 0 → draws g ≡ m → draws k ≡ 0 → draws l ≡ 0 → draws (f ++ g ++ k ++ l) ≡ m
all_draws f g k l m one two three four = omega (arith, draws_append f g, draws_append (f ++ g) k, draws_append (f ++ g ++ k) l, one, two, three, four)

pub auth_draws : (d : Domain) (root : Root) (n q : Node) (part : Option (List Act)) (t : Came) (r : Reply) → draws (auth_request_acts d root n q part t r) ≡ drawn_for r.derived
auth_draws d root n q part t r =
    all_draws (looked_for q (asked t.fields) r.looked) (begun_acts q part r.derived) (derived_acts d root n q r.derived) (transition_sent d n q r) (drawn_for r.derived)
    (looked_draws q (asked t.fields) r.looked) (begun_draws q part r.derived) (derived_draws d root n q r.derived) (sent_draws d n q r)

pub reassoc_draws : (d : Domain) (root : Root) (n q : Node) (had : Bool) (t : Came) (r : Reply) → draws (reassoc_request_acts d root n q had t r) ≡ 0
reassoc_draws d root n q had t r = by had r.installed
  where
    by : (had : Bool) (y : Option Keyed) → draws (replaced_acts q had y ++ installed_acts d root n q y ++ finished_acts d root n q y ++ transition_sent d n q r) ≡ 0
    by true None = sent_draws d n q r
    by false None = sent_draws d n q r
    by true (Some y) = sent_draws d n q r
    by false (Some y) = sent_draws d n q r

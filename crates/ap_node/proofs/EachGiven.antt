-- One more session is given new group keys.
use Rattle.std.proofs.Common.{◌≡◌, ◌≢◌, ℕ, zero, suc, ◌+◌, ◌<◌, ◌≤◌, Bool, true, false, List, [], ◌++◌, Option, None, refl, sym, ap, subst, ◌∙◌, arith}
use Rattle.std.specs.Int.{from_bool}
use Rattle.std.proofs.lemmas.List.{append_assoc, append-nil}
use Rattle.run_journal.specs.declared.acts.Act.{Act}
use Rattle.group_key.specs.declared.news.News.{News}
use Rattle.authenticator.specs.declared.session.Session.{Session}
use Rattle.ap_node.specs.declared.station.Station.{Station}
use Rattle.ap_node.specs.State.{no_station, station_at, session_in}
use Rattle.ap_node.specs.Counts.{owes_part, owing_below}
use Rattle.ap_node.specs.Giving.{IsGivenIn, IsGivenAt, AreGiven}
use Rattle.ap_node.proofs.Owed.{owes_at, bit, count_more, count_same}

-- ---- the count

pub count_next : (place : ℕ) (xs ys : List (ℕ × Station)) (k : ℕ) → ((j : ℕ) → j ≢ k → station_at ys j ≡ station_at xs j) → owing_below place ys (k + 1) ≡ owing_below place xs k + bit (owes_at place ys k)
count_next place xs ys k others =
    let next : k + 1 ≡ suc k = omega arith in
    ap (owing_below place ys) next ∙ joined (owes_at place ys k) (count_more place ys k) (count_same place xs ys k (λ j low. ap (owes_part place) (others j (λ e. omega (arith, e, low)))))
  where
    joined : (b : Bool) {n m l : ℕ} → n ≡ bit b + m → m ≡ l → n ≡ l + bit b
    joined b e f = omega (arith, e, f)

-- ---- the acts

-- those before go on as they were given
stays : (g : News) (old xs ys : List (ℕ × Station)) (k : ℕ) (acts : List Act) → ((j : ℕ) → j < k → station_at ys j ≡ station_at xs j) → AreGiven g old xs k acts → AreGiven g old ys k acts
stays g old xs ys zero acts same is = is
stays g old xs ys (suc k) acts same is = (
  is.0,
  is.1,
  is.2,
  stays g old xs ys k is.0 (λ j low. same j (omega (arith, low))) is.3,
  subst (λ (x : Station). IsGivenAt k g (station_at old k) x is.1) (sym (same k (omega arith))) is.4,
)

one_more : (g : News) (old xs ys : List (ℕ × Station)) (k : ℕ) (acts one : List Act) → ((j : ℕ) → j ≢ k → station_at ys j ≡ station_at xs j) → station_at xs k ≡ station_at old k
    → AreGiven g old xs k acts → IsGivenAt k g (station_at xs k) (station_at ys k) one → AreGiven g old ys (suc k) (acts ++ one)
one_more g old xs ys k acts one others untouched those this = (
  acts,
  one,
  refl,
  stays g old xs ys k acts (λ j less. others j (λ e. omega (arith, less, e))) those,
  subst (λ (x : Station). IsGivenAt k g x (station_at ys k) one) untouched this,
)

pub given_next : (g : News) (old xs ys : List (ℕ × Station)) (k : ℕ) (began waited waits : List Act) → ((j : ℕ) → j ≢ k → station_at ys j ≡ station_at xs j) → station_at xs k ≡ station_at old k
    → (acts : List Act) × (waited ≡ began ++ acts) × AreGiven g old xs k acts
    → (one : List Act) × (waits ≡ waited ++ one) × IsGivenAt k g (station_at xs k) (station_at ys k) one
    → (acts : List Act) × (waits ≡ began ++ acts) × AreGiven g old ys (k + 1) acts
given_next g old xs ys k began waited waits others untouched those this =
    let next : suc k ≡ k + 1 = omega arith in (
      those.0 ++ this.0,
      this.1 ∙ ap (λ (l : List Act). l ++ this.0) those.1 ∙ append_assoc began those.0 this.0,
      subst (λ (n : ℕ). AreGiven g old ys n (those.0 ++ this.0)) next (one_more g old xs ys k those.0 this.0 others untouched those.2 this.2),
    )

-- ---- the places

pub behind : (old xs ys : List (ℕ × Station)) (k : ℕ) → ((j : ℕ) → j ≢ k → station_at ys j ≡ station_at xs j) → ((j : ℕ) → k ≤ j → station_at xs j ≡ station_at old j) → (j : ℕ) → k + 1 ≤ j → station_at ys j ≡ station_at old j
behind old xs ys k others same j low = others j (λ e. omega (arith, low, e)) ∙ same j (omega (arith, low))

-- ---- as the code comes by them

byte_is : (b : Bool) → from_bool b ≡ bit b
byte_is true = refl
byte_is false = refl

-- what one more session counts
pub counted_as : (b owes : Bool) (n : ℕ) → b ≡ owes → n ≡ from_bool b → n ≡ bit owes
counted_as b owes n same is = is ∙ byte_is b ∙ ap bit same

-- without a session nothing is given
pub none_given : (station : ℕ) (g : News) (x y : Station) (acts : List Act) → session_in x ≡ None → y ≡ x → acts ≡ [] → IsGivenAt station g x y acts
none_given station g x y acts none same no_acts = subst (λ (o : Option Session). IsGivenIn station g o x y acts) (sym none) (same, no_acts)

-- in the place of a station
pub given_here : (station : ℕ) (g : News) (o n x y : Station) (waited waits : List Act) → o ≡ x → n ≡ y → (acts : List Act) × (waits ≡ waited ++ acts) × IsGivenAt station g x y acts → (acts : List Act) × (waits ≡ waited ++ acts) × IsGivenAt station g o n acts
given_here station g o n x y waited waits was now given = (
  given.0,
  given.1,
  subst (λ (z : Station). IsGivenAt station g z n given.0) (sym was) (subst (λ (z : Station). IsGivenAt station g x z given.0) (sym now) given.2),
)

pub given_none : (station : ℕ) (g : News) (o n : Station) (waited : List Act) → o ≡ no_station → n ≡ no_station → (acts : List Act) × (waited ≡ waited ++ acts) × IsGivenAt station g o n acts
given_none station g o n waited was now = ([], sym (append-nil waited), none_given station g o n [] (ap session_in was) (now ∙ sym was) refl)

-- The receive counters of the group keys that a station keeps beside those of its history.
use Rattle.std.proofs.Common.{◌≡◌, ℕ, ◌<◌, Bool, true, false, cond, List, [], ◌∷◌, Option, Some, None, refl, sym, ap, subst, ◌∙◌, inl, inr, arith}
use Rattle.std.specs.Prelude.{take, map, max, bytes_eq, is_some, ◌||◌, ◌&&◌, ◌==◌}
use Rattle.std.specs.List.{AllByRecursion}
use Rattle.std.proofs.lemmas.Bool.{eq-eqb, eqb-true}
use Rattle.std.proofs.lemmas.Slice.Eq.{bytes_eq-Decides}
use Rattle.domain_base.specs.declared.names.Node.{Node}
use Rattle.domain_base.specs.declared.names.Mac.{Mac}
use Rattle.domain_base.specs.declared.names.Peer.TheVariants.{One}
use Rattle.eapol_key.specs.declared.messages.Message.{Message}
use Rattle.run_journal.specs.declared.acts.Key.TheVariants.{Group}
use Rattle.run_journal.specs.declared.acts.Kind.TheVariants.{Key, ReResp}
use Rattle.run_journal.specs.declared.acts.Outcome.TheVariants.{Accepted}
use Rattle.run_journal.specs.declared.acts.Seal.{Seal}
use Rattle.run_journal.specs.declared.acts.Act.{Act}
use Rattle.run_journal.specs.declared.acts.Act.TheVariants.{Took, Installed, Resumed, HandedUp}
use Rattle.run_journal.specs.Questions.{listed}
use Rattle.run_journal.specs.Acts.{same, GroupKey, given_from}
use Rattle.run_journal.specs.Questions.{given as all_given}
use Rattle.domain_rules.specs.GroupKeys.{memory, find_key, give_by, give, told, rsc_in, rsc_in_response, is_key, got_by}
use Rattle.domain_rules.specs.IntegrityKeys.{IsTold, IsGot}
use Rattle.domain_rules.proofs.IntegrityKeys.{some_told, some_got}
use Rattle.domain_rules.proofs.Parts.{same-refl}
use Rattle.domain_rules.proofs.Peers.{not_same}
use Rattle.run_journal.specs.declared.acts.GroupKind.{GroupKind}
use Rattle.run_journal.specs.declared.acts.GroupKind.TheVariants as groups
use Rattle.run_journal.specs.GroupKinds.{same_group_kind}
use Rattle.group_key.specs.Keys.{Kept, has_key, kept_counter, kept_id, raised, given, found, taken, is_integrity_id}
use Rattle.group_key.specs.Holds.{CarriesGroupKey, AreApart, AreOfKind, is_integrity, Remembers, key_of}
use Rattle.group_key.proofs.Keeping.{found_as, found_in, has_some, keys_raised, keys_taken, keys_given}

-- the counter of a key is that of the history
abbrev IsCounted : GroupKind → Node → List Act → Kept → Type 0
IsCounted kind p h k = IsGot kind p k.key k.id h k.counter

abbrev AreCounted : GroupKind → Node → List Act → List Kept → Type 0
AreCounted kind p h ks = AllByRecursion (λ (k : Kept). IsCounted kind p h k) ks

-- ---- a counter after one more act

got_step : (kind : GroupKind) (p : Node) (key : List ℕ) (id : ℕ) (e : Act) (h : List Act) (heard before n : ℕ) → IsTold kind p h heard → IsGot kind p key id h before → n ≡ got_by kind p key id e heard before → IsGot kind p key id (e ∷ h) n
got_step groups.Gtk p key id e h heard before n told_is was is =
    is ∙ ap (λ (x : ℕ). got_by groups.Gtk p key id e x before) told_is ∙ ap (got_by groups.Gtk p key id e (told p h)) was
got_step groups.Igtk p key id e h heard before n told_is was is = (heard, (told_is, (before, (was, is))))

-- it stays, whatever was told
pub got_stays : (kind : GroupKind) (p : Node) (key : List ℕ) (id : ℕ) (e : Act) (h : List Act) (n : ℕ) → ((heard : ℕ) → got_by kind p key id e heard n ≡ n) → IsGot kind p key id h n → IsGot kind p key id (e ∷ h) n
got_stays kind p key id e h n same is =
    let t = some_told kind p h in
    got_step kind p key id e h t.0 n n t.1 is (sym (same t.0))

-- ---- what a message tells of a group key as it is accepted

pub told_by_message : (p : Node) (m : Message) (octets : List ℕ) (s : Option Seal) (h : List Act) → CarriesGroupKey m → told p (Took (Some p) octets (Key m) Accepted s ∷ h) ≡ rsc_in octets
told_by_message p m octets s h (inl is) = rw (is, same-refl p) refl
told_by_message p m octets s h (inr is) = rw (is, same-refl p) refl

pub told_by_response : (p : Node) (octets : List ℕ) (s : Option Seal) (h : List Act) → told p (Took (Some p) octets ReResp Accepted s ∷ h) ≡ rsc_in_response octets
told_by_response p octets s h = rw (same-refl p) refl

-- ---- which key an act is about

turned : (xs ys : List ℕ) → bytes_eq xs ys ≡ false → bytes_eq ys xs ≡ false
turned xs ys other = not_same ys xs (λ e. absurd (let t : bytes_eq xs ys ≡ true = (bytes_eq-Decides xs ys).1 (sym e) in cc (t, other)))

last_false : (a b : Bool) → (a && b && false) ≡ false
last_false true true = refl
last_false true false = refl
last_false false b = refl

is_key-same : (p : Node) (k : Kept) (key : List ℕ) (id : ℕ) → key ≡ k.key → k.id ≡ id → is_key p k.key k.id p key id ≡ true
is_key-same p k key id equal ids = rw (same-refl p, (bytes_eq-Decides k.key key).1 (sym equal), eq-eqb k.id id ids) refl

is_key-other : (p : Node) (k : Kept) (key : List ℕ) (id : ℕ) → bytes_eq key k.key ≡ false → is_key p k.key k.id p key id ≡ false
is_key-other p k key id other = rw (same-refl p, turned key k.key other) refl

is_key-id : (p : Node) (k : Kept) (key : List ℕ) (id : ℕ) → (k.id == id) ≡ false → is_key p k.key k.id p key id ≡ false
is_key-id p k key id other = rw other (last_false (same p p) (bytes_eq k.key key))

-- the counters of other keys stay
stays : (b : Bool) (x before : ℕ) → b ≡ false → cond b x before ≡ before
stays true x before is = cc is
stays false x before is = refl

goes : (b : Bool) (x before : ℕ) → b ≡ true → cond b x before ≡ x
goes true x before is = refl
goes false x before is = cc is

-- the same, for an act with a key of some kind
stays_in : (a b : Bool) (x before : ℕ) → b ≡ false → cond a (cond b x before) before ≡ before
stays_in true b x before is = stays b x before is
stays_in false b x before is = refl

goes_in : (kind : GroupKind) (b : Bool) (x before : ℕ) → b ≡ true → cond (same_group_kind kind kind) (cond b x before) before ≡ x
goes_in groups.Gtk b x before is = goes b x before is
goes_in groups.Igtk b x before is = goes b x before is

-- an act that leaves the counters of all keys with other octets
abbrev LeavesOthers : GroupKind → Node → List ℕ → Act → Type 0
LeavesOthers kind p key e = (k : Kept) → bytes_eq key k.key ≡ false → (heard n : ℕ) → got_by kind p k.key k.id e heard n ≡ n

either : (a b : Bool) → (a || b) ≡ false → (a ≡ false) × (b ≡ false)
either true b s = absurd (cc s)
either false b s = (refl, s)

others_counted : (kind : GroupKind) (p : Node) (key : List ℕ) (e : Act) (h : List Act) (ks : List Kept) → LeavesOthers kind p key e → has_key key ks ≡ false → AreCounted kind p h ks → AreCounted kind p (e ∷ h) ks
others_counted kind p key e h [] leaves none counted = tt
others_counted kind p key e h (k ∷ ks) leaves none counted =
    let two = either (bytes_eq key k.key) (has_key key ks) none in
    (got_stays kind p k.key k.id e h k.counter (λ heard. leaves k two.0 heard k.counter) counted.0, others_counted kind p key e h ks leaves two.1 counted.1)

installed_others : (kind : GroupKind) (p : Node) (b : Mac) (key : List ℕ) (id : ℕ) → LeavesOthers kind p key (Installed (One p) (Group kind key id b))
installed_others kind p b key id = λ k other heard n. stays_in (same_group_kind kind kind) (is_key p k.key k.id p key id) heard n (is_key-other p k key id other)

resumed_others : (kind : GroupKind) (p : Node) (b : Mac) (key : List ℕ) (id : ℕ) → LeavesOthers kind p key (Resumed p (Group kind key id b))
resumed_others kind p b key id = λ k other heard n. stays_in (same_group_kind kind kind) (is_key p k.key k.id p key id) (max heard n) n (is_key-other p k key id other)

handed_others : (kind : GroupKind) (p : Node) (key : List ℕ) (id tid number : ℕ) (octets : List ℕ) → LeavesOthers kind p key (HandedUp p key id tid number octets)
handed_others kind p key id tid number octets = λ k other heard n. stays (is_key p k.key k.id p key id) (max number n) n (is_key-other p k key id other)

-- ---- a key that is new

first_none : (key : List ℕ) (ks : List Kept) → has_key key ks ≡ false → has_key key (take 1 ks) ≡ false
first_none key [] none = refl
first_none key (k ∷ ks) none = rw ((either (bytes_eq key k.key) (has_key key ks) none).0) refl

first_counted : (kind : GroupKind) (p : Node) (h : List Act) (ks : List Kept) → AreCounted kind p h ks → AreCounted kind p h (take 1 ks)
first_counted kind p h [] counted = tt
first_counted kind p h (k ∷ ks) counted = (counted.0, tt)

first_apart : (ks : List Kept) → AreApart (take 1 ks)
first_apart [] = tt
first_apart (k ∷ ks) = (refl, tt)

installed_counted : (kind : GroupKind) (p : Node) (b : Mac) (key : List ℕ) (id rsc : ℕ) (ks : List Kept) (h : List Act) → IsTold kind p h rsc → has_key key ks ≡ false → AreCounted kind p h ks
    → AreCounted kind p (Installed (One p) (Group kind key id b) ∷ h) (record { key = key; id = id; counter = rsc } ∷ take 1 ks)
installed_counted kind p b key id rsc ks h tells none counted =
    let new : Kept = record { key = key; id = id; counter = rsc } in
    let e : Act = Installed (One p) (Group kind key id b) in
    let was = some_got kind p key id h in (
      got_step kind p key id e h rsc was.0 rsc tells was.1 (sym (goes_in kind (is_key p key id p key id) rsc was.0 (is_key-same p new key id refl refl))),
      others_counted kind p key e h (take 1 ks) (installed_others kind p b key id) (first_none key ks none) (first_counted kind p h ks counted),
    )

-- ---- a key that goes on

raised_by : (kind : GroupKind) (p : Node) (b : Mac) (key : List ℕ) (id rsc : ℕ) (k : Kept) (ks : List Kept) (h : List Act) (c : Bool) → bytes_eq key k.key ≡ c → IsTold kind p h rsc → cond c (Some k.id) (kept_id key ks) ≡ Some id → has_key k.key ks ≡ false
    → IsCounted kind p h k → AreCounted kind p h ks → (kept_id key ks ≡ Some id → AreCounted kind p (Resumed p (Group kind key id b) ∷ h) (raised key rsc ks))
    → AreCounted kind p (Resumed p (Group kind key id b) ∷ h) (cond c (record { key = k.key; id = k.id; counter = max rsc k.counter } ∷ ks) (k ∷ raised key rsc ks))
raised_by kind p b key id rsc k ks h true here tells is none counter counted more =
    let equal : key ≡ k.key = (bytes_eq-Decides key k.key).0 here in
    let ids : k.id ≡ id = cc is in
    let e : Act = Resumed p (Group kind key id b) in (
      got_step kind p k.key k.id e h rsc k.counter (max rsc k.counter) tells counter (sym (goes_in kind (is_key p k.key k.id p key id) (max rsc k.counter) k.counter (is_key-same p k key id equal ids))),
      others_counted kind p key e h ks (resumed_others kind p b key id) (subst (λ (x : List ℕ). has_key x ks ≡ false) (sym equal) none) counted,
    )
raised_by kind p b key id rsc k ks h false other tells is none counter counted more =
    (got_stays kind p k.key k.id (Resumed p (Group kind key id b)) h k.counter (λ heard. resumed_others kind p b key id k other heard k.counter) counter, more is)

raised_counted : (kind : GroupKind) (p : Node) (b : Mac) (key : List ℕ) (id rsc : ℕ) (ks : List Kept) (h : List Act) → IsTold kind p h rsc → kept_id key ks ≡ Some id → AreApart ks → AreCounted kind p h ks
    → AreCounted kind p (Resumed p (Group kind key id b) ∷ h) (raised key rsc ks)
raised_counted kind p b key id rsc [] h tells is apart counted = tt
raised_counted kind p b key id rsc (k ∷ ks) h tells is apart counted = raised_by kind p b key id rsc k ks h (bytes_eq key k.key) refl tells is apart.0 counted.0 counted.1 (λ there. raised_counted kind p b key id rsc ks h tells there apart.1 counted.1)

-- ---- a number that is taken

taken_by : (kind : GroupKind) (p : Node) (id tid number : ℕ) (octets : List ℕ) (k x : Kept) (ks : List Kept) (h : List Act) (c : Bool) → (x.id == id) ≡ c → cond c (Some x) (found id ks) ≡ Some k → k.counter < number → has_key x.key ks ≡ false
    → IsCounted kind p h x → AreCounted kind p h ks → (found id ks ≡ Some k → AreCounted kind p (HandedUp p k.key id tid number octets ∷ h) (taken id number ks))
    → AreCounted kind p (HandedUp p k.key id tid number octets ∷ h) (cond c (record { key = x.key; id = x.id; counter = number } ∷ ks) (x ∷ taken id number ks))
taken_by kind p id tid number octets k x ks h true here is low none counter counted more =
    let this : x ≡ k = cc is in
    let keys : k.key ≡ x.key = ap (λ (y : Kept). y.key) (sym this) in
    let lower : x.counter < number = subst (λ (y : Kept). y.counter < number) (sym this) low in
    let most : number ≡ max number x.counter = omega (arith, lower) in
    let e : Act = HandedUp p k.key id tid number octets in
    let t = some_told kind p h in (
      got_step kind p x.key x.id e h t.0 x.counter number t.1 counter (most ∙ sym (goes (is_key p x.key x.id p k.key id) (max number x.counter) x.counter (is_key-same p x k.key id keys (eqb-true x.id id here)))),
      others_counted kind p k.key e h ks (handed_others kind p k.key id tid number octets) (subst (λ (y : List ℕ). has_key y ks ≡ false) (sym keys) none) counted,
    )
taken_by kind p id tid number octets k x ks h false other is low none counter counted more =
    (got_stays kind p x.key x.id (HandedUp p k.key id tid number octets) h x.counter (λ heard. stays (is_key p x.key x.id p k.key id) (max number x.counter) x.counter (is_key-id p x k.key id other)) counter, more is)

taken_counted : (kind : GroupKind) (p : Node) (id tid number : ℕ) (octets : List ℕ) (k : Kept) (ks : List Kept) (h : List Act) → found id ks ≡ Some k → k.counter < number → AreApart ks → AreCounted kind p h ks
    → AreCounted kind p (HandedUp p k.key id tid number octets ∷ h) (taken id number ks)
taken_counted kind p id tid number octets k [] h is low apart counted = tt
taken_counted kind p id tid number octets k (x ∷ ks) h is low apart counted = taken_by kind p id tid number octets k x ks h (x.id == id) refl is low apart.0 counted.0 counted.1 (λ there. taken_counted kind p id tid number octets k ks h there low apart.1 counted.1)

-- ---- keys stay apart, whatever their counters

has_same : (key : List ℕ) (ks ls : List Kept) → map key_of ks ≡ map key_of ls → has_key key ks ≡ has_key key ls
has_same key [] [] is = refl
has_same key [] (l ∷ ls) is = cc is
has_same key (k ∷ ks) [] is = cc is
has_same key (k ∷ ks) (l ∷ ls) is =
    let one : key_of k ≡ key_of l = cc is in
    let rest : map key_of ks ≡ map key_of ls = cc is in
    ap (λ (x : GroupKey). bytes_eq key x.key || has_key key ks) one ∙ ap (λ (b : Bool). bytes_eq key l.key || b) (has_same key ks ls rest)

apart_same : (ks ls : List Kept) → map key_of ks ≡ map key_of ls → AreApart ks → AreApart ls
apart_same [] [] is apart = tt
apart_same [] (l ∷ ls) is apart = absurd (cc is)
apart_same (k ∷ ks) [] is apart = tt
apart_same (k ∷ ks) (l ∷ ls) is apart =
    let one : key_of k ≡ key_of l = cc is in
    let rest : map key_of ks ≡ map key_of ls = cc is in
    (sym (has_same l.key ks ls rest) ∙ subst (λ (x : GroupKey). has_key x.key ks ≡ false) one apart.0, apart_same ks ls rest apart.1)

-- ---- key ids stay those of the kind

ids_same : (kind : GroupKind) (ks ls : List Kept) → map key_of ks ≡ map key_of ls → AreOfKind kind ks → AreOfKind kind ls
ids_same kind [] [] is of = tt
ids_same kind [] (l ∷ ls) is of = absurd (cc is)
ids_same kind (k ∷ ks) [] is of = tt
ids_same kind (k ∷ ks) (l ∷ ls) is of =
    let one : key_of k ≡ key_of l = cc is in
    let rest : map key_of ks ≡ map key_of ls = cc is in
    (subst (λ (x : GroupKey). is_integrity_id x.id ≡ is_integrity kind) one of.0, ids_same kind ks ls rest of.1)

first_of_kind : (kind : GroupKind) (ks : List Kept) → AreOfKind kind ks → AreOfKind kind (take 1 ks)
first_of_kind kind [] of = tt
first_of_kind kind (k ∷ ks) of = (of.0, tt)

-- ---- the memory stands for the history

pub started : (kind : GroupKind) (p : Node) → Remembers kind p [] []
started kind p = record { keys = refl; counters = tt; apart = tt; ids = tt }

-- the memory after a key was given, by whether it was kept
abbrev after : GroupKey → ℕ → List Kept → Option ℕ → List Kept
after g rsc ks o = cond (is_some o) (raised g.key rsc ks) (take 2 (record { key = g.key; id = g.id; counter = rsc } ∷ ks))

abbrev Gives : GroupKind → Node → Mac → GroupKey → ℕ → List Kept → List Act → Option ℕ → Type 0
Gives kind p b g rsc ks h o =
    AreCounted kind p (give_by kind p b g (found_as g.key o) ∷ h) (after g rsc ks o) × AreApart (after g rsc ks o) × AreOfKind kind (after g rsc ks o)

gives_by : (kind : GroupKind) (p : Node) (b : Mac) (g : GroupKey) (rsc : ℕ) (ks : List Kept) (h : List Act) (o : Option ℕ) → Remembers kind p ks h → IsTold kind p h rsc → is_integrity_id g.id ≡ is_integrity kind → kept_id g.key ks ≡ o → has_key g.key ks ≡ is_some o → Gives kind p b g rsc ks h o
gives_by kind p b g rsc ks h None r tells of is has = (installed_counted kind p b g.key g.id rsc ks h tells has r.counters, (first_none g.key ks has, first_apart ks), (of, first_of_kind kind ks r.ids))
gives_by kind p b g rsc ks h (Some id) r tells of is has =
    let same = sym (keys_raised g.key rsc ks) in
    (raised_counted kind p b g.key id rsc ks h tells is r.apart r.counters, apart_same ks (raised g.key rsc ks) same r.apart, ids_same kind ks (raised g.key rsc ks) same r.ids)

pub gives : (kind : GroupKind) (p : Node) (b : Mac) (g : GroupKey) (rsc : ℕ) (ks : List Kept) (h : List Act) → Remembers kind p ks h → IsTold kind p h rsc → is_integrity_id g.id ≡ is_integrity kind
    → Remembers kind p (given g.key g.id rsc ks) (give kind p b g h ∷ h)
gives kind p b g rsc ks h r tells of =
    let o = kept_id g.key ks in
    let has : has_key g.key ks ≡ is_some o = has_some g.key ks in
    let all = gives_by kind p b g rsc ks h o r tells of refl has in
    let act : give_by kind p b g (found_as g.key o) ≡ give kind p b g h = ap (give_by kind p b g) (sym (found_in kind p g.key ks h r.keys)) in
    let new : Kept = record { key = g.key; id = g.id; counter = rsc } in
    let list : cond (is_some o) (raised g.key rsc ks) (take 2 (new ∷ ks)) ≡ given g.key g.id rsc ks = ap (λ (x : Bool). cond x (raised g.key rsc ks) (take 2 (new ∷ ks))) (sym has) in
    record {
      keys = keys_given kind p b g rsc ks h r.keys;
      counters = subst (λ (e : Act). AreCounted kind p (e ∷ h) (given g.key g.id rsc ks)) act (subst (λ (x : List Kept). AreCounted kind p (give_by kind p b g (found_as g.key o) ∷ h) x) list all.0);
      apart = subst AreApart list all.1;
      ids = subst (AreOfKind kind) list all.2;
    }

pub takes : (kind : GroupKind) (p : Node) (id tid number : ℕ) (octets : List ℕ) (k : Kept) (ks : List Kept) (h : List Act) → Remembers kind p ks h → found id ks ≡ Some k → k.counter < number
    → Remembers kind p (taken id number ks) (HandedUp p k.key id tid number octets ∷ h)
takes kind p id tid number octets k ks h r is low = record {
  keys = keys_taken id number ks ∙ r.keys;
  counters = taken_counted kind p id tid number octets k ks h is low r.apart r.counters;
  apart = apart_same ks (taken id number ks) (sym (keys_taken id number ks)) r.apart;
  ids = ids_same kind ks (taken id number ks) (sym (keys_taken id number ks)) r.ids;
}

all_stay : (kind : GroupKind) (p : Node) (e : Act) (ks : List Kept) (h : List Act) → ((key : List ℕ) (id n : ℕ) → is_integrity_id id ≡ is_integrity kind → IsGot kind p key id h n → IsGot kind p key id (e ∷ h) n) → AreOfKind kind ks → AreCounted kind p h ks → AreCounted kind p (e ∷ h) ks
all_stay kind p e [] h same of counted = tt
all_stay kind p e (k ∷ ks) h same of counted = (same k.key k.id k.counter of.0 counted.0, all_stay kind p e ks h same of.1 counted.1)

-- an act that gives no key of the kind, and leaves the counters of keys with key ids of the kind
pub stands : (kind : GroupKind) (p : Node) (e : Act) (ks : List Kept) (h : List Act) → Remembers kind p ks h → given_from kind p e ≡ None
    → ((key : List ℕ) (id n : ℕ) → is_integrity_id id ≡ is_integrity kind → IsGot kind p key id h n → IsGot kind p key id (e ∷ h) n) → Remembers kind p ks (e ∷ h)
stands kind p e ks h r none same = record {
  keys = r.keys ∙ ap (λ (o : Option GroupKey). take 2 (listed o (all_given kind p h))) (sym none);
  counters = all_stay kind p e ks h same r.ids r.counters;
  apart = r.apart;
  ids = r.ids;
}

-- ---- acts with keys of the other kind

kind_apart : (kind other : GroupKind) (a b : Bool) → same_group_kind kind other ≡ false → a ≡ is_integrity kind → b ≡ is_integrity other → a ≡ b → ⊥
kind_apart groups.Gtk groups.Gtk a b apart x y same = absurd (cc apart)
kind_apart groups.Igtk groups.Igtk a b apart x y same = absurd (cc apart)
kind_apart groups.Gtk groups.Igtk a b apart x y same = absurd (cc (x, y, same))
kind_apart groups.Igtk groups.Gtk a b apart x y same = absurd (cc (x, y, same))

-- a key of the other kind is given
given_beside : (kind other : GroupKind) (p q : Node) (b : Mac) (g : GroupKey) (o : Option GroupKey) → same_group_kind kind other ≡ false → given_from kind p (give_by other q b g o) ≡ None
given_beside groups.Gtk groups.Igtk p q b g None apart = refl
given_beside groups.Gtk groups.Igtk p q b g (Some k) apart = refl
given_beside groups.Igtk groups.Gtk p q b g None apart = refl
given_beside groups.Igtk groups.Gtk p q b g (Some k) apart = refl
given_beside groups.Gtk groups.Gtk p q b g o apart = absurd (cc apart)
given_beside groups.Igtk groups.Igtk p q b g o apart = absurd (cc apart)

got_beside : (kind other : GroupKind) (p q : Node) (b : Mac) (g : GroupKey) (o : Option GroupKey) (key : List ℕ) (id heard n : ℕ) → same_group_kind kind other ≡ false → got_by kind p key id (give_by other q b g o) heard n ≡ n
got_beside kind other p q b g None key id heard n apart = ap (λ (x : Bool). cond x (cond (is_key p key id q g.key g.id) heard n) n) apart
got_beside kind other p q b g (Some k) key id heard n apart = ap (λ (x : Bool). cond x (cond (is_key p key id q k.key k.id) (max heard n) n) n) apart

pub gives_beside : (kind other : GroupKind) (p q : Node) (b : Mac) (g : GroupKey) (ks : List Kept) (h k : List Act) → same_group_kind kind other ≡ false → Remembers kind p ks h → Remembers kind p ks (give other q b g k ∷ h)
gives_beside kind other p q b g ks h k apart r =
    let o = find_key g.key (memory other q k) in
    stands kind p (give_by other q b g o) ks h r (given_beside kind other p q b g o apart)
    (λ key id n of is. got_stays kind p key id (give_by other q b g o) h n (λ heard. got_beside kind other p q b g o key id heard n apart) is)

-- what is handed up under a key id of the other kind
ids_apart : (m n : ℕ) (c : Bool) → (m == n) ≡ c → (is_integrity_id m ≡ is_integrity_id n → ⊥) → (m == n) ≡ false
ids_apart m n true is apart = absurd (apart (ap is_integrity_id (eqb-true m n is)))
ids_apart m n false is apart = is

apart_by : (p q : Node) (own key : List ℕ) (i id : ℕ) → (i == id) ≡ false → is_key p own i q key id ≡ false
apart_by p q own key i id differs = rw differs (last_false (same p q) (bytes_eq own key))

pub hands_beside : (kind other : GroupKind) (p q : Node) (key : List ℕ) (id tid number : ℕ) (octets : List ℕ) (ks : List Kept) (h : List Act) → same_group_kind kind other ≡ false → is_integrity_id id ≡ is_integrity other
    → Remembers kind p ks h → Remembers kind p ks (HandedUp q key id tid number octets ∷ h)
hands_beside kind other p q key id tid number octets ks h apart is_other r =
    stands kind p (HandedUp q key id tid number octets) ks h r refl
    (λ own i n of is. got_stays kind p own i (HandedUp q key id tid number octets) h n
    (λ heard. stays (is_key p own i q key id) (max number n) n (apart_by p q own key i id (ids_apart i id (i == id) refl (λ same. kind_apart kind other (is_integrity_id i) (is_integrity_id id) apart of is_other same)))) is)

-- ---- which counter a key has

abbrev Counts : GroupKind → Node → ℕ → List Act → Kept → Type 0
Counts kind p id h k = (k.id ≡ id) × IsGot kind p k.key id h k.counter

counted_by : (kind : GroupKind) (p : Node) (id : ℕ) (k x : Kept) (ks : List Kept) (h : List Act) (c : Bool) → (x.id == id) ≡ c → IsCounted kind p h x → cond c (Some x) (found id ks) ≡ Some k → (found id ks ≡ Some k → Counts kind p id h k) → Counts kind p id h k
counted_by kind p id k x ks h true here counter is more =
    let this : x ≡ k = cc is in
    let ids : x.id ≡ id = eqb-true x.id id here in
    subst (λ (y : Kept). Counts kind p id h y) this (ids, subst (λ (i : ℕ). IsGot kind p x.key i h x.counter) ids counter)
counted_by kind p id k x ks h false other counter is more = more is

counted_in : (kind : GroupKind) (p : Node) (id : ℕ) (k : Kept) (ks : List Kept) (h : List Act) → AreCounted kind p h ks → found id ks ≡ Some k → Counts kind p id h k
counted_in kind p id k [] h counted is = absurd (cc is)
counted_in kind p id k (x ∷ ks) h counted is = counted_by kind p id k x ks h (x.id == id) refl counted.0 is (counted_in kind p id k ks h counted.1)

pub counted : (kind : GroupKind) (p : Node) (id : ℕ) (k : Kept) (ks : List Kept) (h : List Act) → Remembers kind p ks h → found id ks ≡ Some k → (k.id ≡ id) × IsGot kind p k.key id h k.counter
counted kind p id k ks h r is = counted_in kind p id k ks h r.counters is

-- ---- the counter of a key that is kept

abbrev CounterOf : GroupKind → Node → List ℕ → List Act → Option ℕ → ℕ → Type 0
CounterOf kind p key h o n = (id : ℕ) × (o ≡ Some id) × IsGot kind p key id h n

counter_by : (kind : GroupKind) (p : Node) (key : List ℕ) (k : Kept) (ks : List Kept) (h : List Act) (n : ℕ) (c : Bool) → bytes_eq key k.key ≡ c → IsCounted kind p h k
    → (kept_counter key ks ≡ Some n → CounterOf kind p key h (kept_id key ks) n)
    → cond c (Some k.counter) (kept_counter key ks) ≡ Some n → CounterOf kind p key h (cond c (Some k.id) (kept_id key ks)) n
counter_by kind p key k ks h n true here counted more is =
    let equal : key ≡ k.key = (bytes_eq-Decides key k.key).0 here in
    let same : k.counter ≡ n = cc is in
    (k.id, refl, subst (λ (m : ℕ). IsGot kind p key k.id h m) same (subst (λ (x : List ℕ). IsGot kind p x k.id h k.counter) (sym equal) counted))
counter_by kind p key k ks h n false other counted more is = more is

counters_by : (kind : GroupKind) (p : Node) (key : List ℕ) (ks : List Kept) (h : List Act) (n : ℕ) → AreCounted kind p h ks → kept_counter key ks ≡ Some n → CounterOf kind p key h (kept_id key ks) n
counters_by kind p key [] h n counted is = absurd (cc is)
counters_by kind p key (k ∷ ks) h n counted is =
    counter_by kind p key k ks h n (bytes_eq key k.key) refl counted.0 (λ there. counters_by kind p key ks h n counted.1 there) is

-- it is what the history puts it to, under the key id that the key was installed with
pub counter_got : (kind : GroupKind) (p : Node) (key : List ℕ) (ks : List Kept) (h : List Act) (n : ℕ) → Remembers kind p ks h → kept_counter key ks ≡ Some n
    → (id : ℕ) × (kept_id key ks ≡ Some id) × IsGot kind p key id h n
counter_got kind p key ks h n r is = counters_by kind p key ks h n r.counters is

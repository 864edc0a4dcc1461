-- Of the first M3 that an access point sent in an attempt: its key data was made from the key derived last.
use Rattle.std.proofs.Common.{ℕ, ◌≡◌, inr, Bool, true, false, cond, List, [], ◌∷◌, Option, Some, None, is_some, refl, sym, ap, ◌∙◌, subst}
use Rattle.domain_base.specs.declared.names.Node.{Node}
use Rattle.eapol_key.specs.declared.messages.Message.TheVariants.{M2, M3}
use Rattle.key_hierarchy.specs.declared.inputs.Inputs.{Inputs}
use Rattle.run_journal.specs.declared.acts.GroupKind.{GroupKind}
use Rattle.run_journal.specs.declared.domain.Domain.{Domain}
use Rattle.run_journal.specs.declared.acts.Kind.{Kind}
use Rattle.run_journal.specs.declared.acts.Kind.TheVariants as kind
use Rattle.run_journal.specs.declared.acts.Act.{Act}
use Rattle.run_journal.specs.declared.acts.Act.TheVariants.{Sent, Took}
use Rattle.key_hierarchy.specs.Keys.{ptk}
use Rattle.run_journal.specs.Acts.{opens, derived, accepted, sent, Derivation}
use Rattle.run_journal.specs.Questions.{or_else, attempt, derivation, before_sent}
use Rattle.domain_rules.specs.Network.{is_ap}
use Rattle.domain_rules.specs.Frames.{keyed_by}
use Rattle.domain_rules.specs.Asking.{has_heard, is_by_renewal, in_renewal}
use Rattle.domain_rules.proofs.Parts.{Grows, Begins, Goes_on, grows}
use Rattle.journal_safety.proofs.Ends.{Tail, tail_refl, tail_in}
use Rattle.journal_safety.proofs.Legal.{derives, Verified, Seen, Built, IsNewest, SendsM3, LegalDerived, Legal, LegalHistory}
use Rattle.domain_rules.proofs.Derivations.{derived-is}
use Rattle.journal_safety.proofs.Histories.{own_of_part}
use Rattle.journal_safety.proofs.Sessions.{renewal_more, sends_by}

pub record FirstM3 (d : Domain) (n : Node) (h : List Act) (p : Node) (part past : List Act) : Type 0 where
  pub tail : Tail past h
  pub legal : LegalHistory d n past
  pub sends : SendsM3 d n past p
  pub begun : is_by_renewal sends.part ≡ is_by_renewal part
  pub same : derivation p part ≡ Some (keyed_by sends.i)
  pub heard_m2 : has_heard p (kind.Key M2) part ≡ true

-- what was sent neither derives nor accepts
sent_derives : (p : Node) (k : Kind) (e : Act) → is_some (sent p k e) ≡ true → derived p e ≡ None
sent_derives p k (Sent q m octets s) is = refl
sent_derives p k _ is = cc

sent_accepts : (p : Node) (k m : Kind) (e : Act) → is_some (sent p k e) ≡ true → accepted p m e ≡ None
sent_accepts p k m (Sent q j octets s) is = refl
sent_accepts p k m _ is = cc

first_now : (d : Domain) (n p : Node) (e : Act) (h old past : List Act) → LegalHistory d n (e ∷ h) → attempt p h ≡ Some old → (b : Bool) → is_some (sent p (kind.Key M3) e) ≡ b → cond b (Some h) None ≡ Some past → FirstM3 d n (e ∷ h) p (e ∷ old) past
first_now d n p e h old past legal a false is s = cc
first_now d n p e h old past legal a true is s =
    let one : h ≡ past = cc s in
    let w : SendsM3 d n h p = sends_by d n p e h M3 legal.0 is in
    let parts : w.part ≡ old = cc (w.awaited, a) in
    subst (λ (x : List Act). FirstM3 d n (e ∷ h) p (e ∷ old) x) one (record {
      tail = inr (tail_refl h);
      legal = legal.1;
      sends = w;
      begun = ap is_by_renewal parts ∙ sym (renewal_more p e h old a);
      same = rw (sent_derives p (kind.Key M3) e is) (subst (λ (x : List Act). derivation p x ≡ Some (keyed_by w.i)) parts w.last);
      heard_m2 = rw (sent_accepts p (kind.Key M3) (kind.Key M2) e is) (subst (λ (x : List Act). has_heard p (kind.Key M2) x ≡ true) parts w.heard);
    })

-- what is derived later would have been derived before an M3
kept : (d : Domain) (n p : Node) (e : Act) (h old past : List Act) (i : Inputs) → is_ap n ≡ true → Legal d n h e → before_sent p (kind.Key M3) h ≡ Some past → derivation p old ≡ Some (keyed_by i) → (o : Option Derivation) → derived p e ≡ o → derivation p (e ∷ old) ≡ Some (keyed_by i)
kept d n p e h old past i role legal was s None is = rw is s
kept d n p e h old past i role legal was s (Some x) is =
    let l : LegalDerived d n h p x.inputs x.ptk = subst (λ (y : Act). Legal d n h y) (derived-is p e x is) legal in
    let none : before_sent p (kind.Key M3) h ≡ None = l.no_m3 role in absurd (cc (none, was))

heard_on : (p : Node) (k : Kind) (e : Act) (old : List Act) → has_heard p k old ≡ true → (o : Option (List ℕ)) → accepted p k e ≡ o → has_heard p k (e ∷ old) ≡ true
heard_on p k e old s None is = rw is s
heard_on p k e old s (Some x) is = rw is refl

first_on : (d : Domain) (n p : Node) (e : Act) (h old past : List Act) → is_ap n ≡ true → LegalHistory d n (e ∷ h) → attempt p h ≡ Some old → (before_sent p (kind.Key M3) h ≡ Some past → FirstM3 d n h p old past) → (o : Option (List Act)) → before_sent p (kind.Key M3) h ≡ o
    → or_else o (cond (is_some (sent p (kind.Key M3) e)) (Some h) None) ≡ Some past → FirstM3 d n (e ∷ h) p (e ∷ old) past
first_on d n p e h old past role legal a more None was s = first_now d n p e h old past legal a (is_some (sent p (kind.Key M3) e)) refl s
first_on d n p e h old past role legal a more (Some x) was s =
    let is : before_sent p (kind.Key M3) h ≡ Some past = was ∙ s in
    let w = more is in
    record {
      tail = inr w.tail;
      legal = w.legal;
      sends = w.sends;
      begun = w.begun ∙ sym (renewal_more p e h old a);
      same = kept d n p e h old past w.sends.i role legal.0 is w.same (derived p e) refl;
      heard_m2 = heard_on p (kind.Key M2) e old w.heard_m2 (accepted p (kind.Key M2) e) refl;
    }

first_by : (d : Domain) (n p : Node) (e : Act) (h part past : List Act) → is_ap n ≡ true → LegalHistory d n (e ∷ h) → ((old : List Act) → attempt p h ≡ Some old → before_sent p (kind.Key M3) h ≡ Some past → FirstM3 d n h p old past) → Grows p e h part
    → (b : Bool) → opens p e ≡ b → cond b None (or_else (before_sent p (kind.Key M3) h) (cond (is_some (sent p (kind.Key M3) e)) (Some h) None)) ≡ Some past → FirstM3 d n (e ∷ h) p part past
first_by d n p e h part past role legal more g true b s = cc
first_by d n p e h part past role legal more (Begins o is) false b s = absurd (cc (o, b))
first_by d n p e h part past role legal more (Goes_on old o goes a is) false b s =
    subst (λ (x : List Act). FirstM3 d n (e ∷ h) p x past) (sym is) (first_on d n p e h old past role legal a (more old a) (before_sent p (kind.Key M3) h) refl s)

pub first_m3 : (d : Domain) (n p : Node) (h part past : List Act) → is_ap n ≡ true → LegalHistory d n h → attempt p h ≡ Some part → before_sent p (kind.Key M3) h ≡ Some past → FirstM3 d n h p part past
first_m3 d n p [] part past role legal a s = cc
first_m3 d n p (e ∷ h) part past role legal a s =
    first_by d n p e h part past role legal (λ old was is. first_m3 d n p h old past role legal.1 was is) (grows p e h part a) (opens p e) refl s

-- where no M2 was accepted no M3 was sent
no_m3_by : (d : Domain) (n p : Node) (h part : List Act) → is_ap n ≡ true → LegalHistory d n h → attempt p h ≡ Some part → has_heard p (kind.Key M2) part ≡ false → (o : Option (List Act)) → before_sent p (kind.Key M3) h ≡ o → before_sent p (kind.Key M3) h ≡ None
no_m3_by d n p h part role legal a silent None is = is
no_m3_by d n p h part role legal a silent (Some past) is = let w = first_m3 d n p h part past role legal a is in let heard : has_heard p (kind.Key M2) part ≡ true = w.heard_m2 in absurd (cc (silent, heard))

pub no_m3 : (d : Domain) (n p : Node) (h part : List Act) → is_ap n ≡ true → LegalHistory d n h → attempt p h ≡ Some part → has_heard p (kind.Key M2) part ≡ false → before_sent p (kind.Key M3) h ≡ None
no_m3 d n p h part role legal a silent = no_m3_by d n p h part role legal a silent (before_sent p (kind.Key M3) h) refl

-- the key of the first M3 is that derived last
pub same_first : (d : Domain) (n p : Node) (h part past : List Act) → (w : FirstM3 d n h p part past) → (i : Inputs) → derivation p part ≡ Some (keyed_by i) → w.sends.i ≡ i
same_first d n p h part past w i is = let e : keyed_by w.sends.i ≡ keyed_by i = cc (w.same, is) in ap (λ (x : Derivation). x.inputs) e

-- what verified at an end of a history verified
pub verified_end : (n p : Node) (i : Inputs) (a h : List Act) → Tail a h → Verified n a p i → Verified n h p i
verified_end n p i a h t v = record {
  derived = tail_in a h (derives p i) t v.derived;
  from = v.from;
  octets = v.octets;
  kind = v.kind;
  outcome = v.outcome;
  covered = v.covered;
  took = tail_in a h (Took v.from v.octets v.kind v.outcome (Some (record { octets = v.covered; key = (ptk i).kck }))) t v.took;
  form = v.form;
  direction = v.direction;
}

-- and an M2 that was taken in an attempt that goes on still says how it began
pub seen_end : (d : Domain) (n p : Node) (i : Inputs) (a h : List Act) → Tail a h → in_renewal (attempt p a) ≡ in_renewal (attempt p h) → Seen d n a p i → Seen d n h p i
unfolding verified_end
seen_end d n p i a h t same s = record { verified = verified_end n p i a h t s.verified; from_m2 = s.from_m2; secure = λ some bit. sym same ∙ s.secure some bit }

-- the key data of M3 was made then, from the key that was derived last
pub built_then : (which : GroupKind) (d : Domain) (n p : Node) (h part past : List Act) (i : Inputs) (key : List ℕ) → FirstM3 d n h p part past → derivation p part ≡ Some (keyed_by i) → IsNewest which key past → Built which n h p i key
built_then which d n p h part past i key w is newest =
    let one : w.sends.i ≡ i = same_first d n p h part past w i is in
    subst (λ (x : Inputs). Built which n h p x key) one (record {
      past = past;
      tail = w.tail;
      newest = newest;
      verified = w.sends.seen.verified;
      alive = record { part = w.sends.part; awaited = w.sends.awaited; own = own_of_part d n p (keyed_by w.sends.i) past w.sends.part w.legal w.sends.awaited w.sends.last };
    })

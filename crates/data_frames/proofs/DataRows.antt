-- What a key in use comes to is the row of the rules.
use Rattle.std.proofs.Common.{◌≡◌, ◌∙◌, ◌++◌, ℕ, Bool, true, false, cond, List, [], ◌∷◌, Option, Some, None, refl, sym, ap, subst, length, arith}
use Rattle.std.specs.Prelude.{not, ◌||◌, ◌==◌, nat_lt, nat_le, if◌then◌else◌}
use Rattle.domain_base.specs.declared.names.Node.{Node}
use Rattle.domain_base.specs.declared.names.Node.TheVariants.{Ap, Sta}
use Rattle.ccmp_guard.specs.declared.guard.GuardFault.{GuardFault}
use Rattle.ccmp_guard.specs.declared.guard.GuardFault.TheVariants as fault
use Rattle.ccmp_guard.specs.Ccmp.{packet_number, key_id_in, ext_iv}
use Rattle.ccmp_guard.specs.Roles.{key_id, counter_of}
use Rattle.ccmp_guard.specs.Held.{Held, kept_number}
use Rattle.ccmp_guard.specs.Faults.{unprotect_fault}
use Rattle.run_journal.specs.declared.acts.Kind.TheVariants.{Data}
use Rattle.run_journal.specs.declared.acts.Reason.{Reason}
use Rattle.run_journal.specs.declared.acts.Reason.TheVariants as reason
use Rattle.run_journal.specs.declared.acts.Outcome.{Outcome}
use Rattle.run_journal.specs.declared.acts.Outcome.TheVariants.{Accepted, Answered, Ignored, Refused, Done, Idle, GaveUp}
use Rattle.run_journal.specs.declared.acts.Act.{Act}
use Rattle.run_journal.specs.declared.acts.Act.TheVariants.{Took}
use Rattle.run_journal.specs.declared.acts.Seal.{Seal}
use Rattle.domain_rules.specs.Closing.{sender}
use Rattle.domain_rules.specs.Facts.{Facts}
use Rattle.domain_rules.specs.Here.{Here}
use Rattle.domain_rules.specs.PacketNumbers.{OpenKey}
use Rattle.domain_rules.specs.DataVerdict.{opened_by, data_verdict_by, unsealed, IsOpened}
use Rattle.domain_rules.specs.Reading.{Reading}
use Rattle.domain_rules.specs.Rows.{TakeRow, By_data, By_refusal, response}
use Rattle.domain_rules.specs.TransitionRows.{refused_look}
use Rattle.key_hierarchy.specs.declared.fast_transition.PmkR1.{PmkR1}
use Rattle.domain_rules.specs.Verdict.{first_verdict, verdict, and_then, comes_so_far, ComesSoFar}
use Rattle.domain_rules.proofs.Unprotected.{reads_so}
use Rattle.frame_intake.specs.SealedFields.{SealedFields, sealed_reading, IsSealedData}
use Rattle.data_frames.specs.Rows.{IsDataFrom, OpensBy}
use Rattle.data_frames.specs.Taking.{reason_of, refusal, taken_acts, IsOpenedTo, IsStoppedBy, Before, Unsealed}

abbrev pub facts_of : Option (List ℕ) → Facts
facts_of opened = record { requested = None; responded = None; unwrapped = None; data_ = None; pulled = None; opened = opened; unwrapped_igtk = None; kept = 0 }

-- protected data is answered by nothing
silent : (w : Here) (p : Node) (why : Reason) → response w.domain w.node (Some p) Data why ≡ []
silent w p why = by w.node
  where
    by : (n : Node) → response w.domain n (Some p) Data why ≡ []
    by (Ap a) = refl
    by (Sta s) = refl

-- the order of two numbers, both ways
above : (a b : ℕ) (c : Bool) → nat_le b a ≡ c → nat_lt a b ≡ not c
above a b true e = grind (arith, e)
above a b false e = grind (arith, e)

-- why nothing is opened, past the header of the body
abbrev pub late_fault : Held → List ℕ → List ℕ → Option GuardFault
late_fault k header body =
    if not (key_id_in body == key_id k.role) then Some fault.KeyId
    else if nat_le (packet_number body) (kept_number k header) then Some (fault.Replayed (kept_number k header))
    else None

short : (f : SealedFields) → IsSealedData f → (nat_lt (length f.body) 16 || not (ext_iv f.body == 1)) ≡ false
short f s = by (nat_lt (length f.body) 16) (ext_iv f.body == 1) (grind (arith, s.long)) (ap (λ (x : ℕ). x == 1) s.extended)
  where
    by : (a b : Bool) → a ≡ false → b ≡ true → (a || not b) ≡ false
    by a b e g = rw (e, g) refl

is_late : (f : SealedFields) (k : Held) → IsSealedData f → unprotect_fault (Some k) f.header.octets f.body ≡ late_fault k f.header.octets f.body
is_late f k s = ap (λ (b : Bool). if b then Some fault.Header else late_fault k f.header.octets f.body) (short f s)

abbrev pub open_key_by : Bool → OpenKey → Option OpenKey
open_key_by same o = if same then Some o else None

-- the verdict by the fault
stopped_by : (same out : Bool) (pn kept : ℕ) (o : OpenKey) (why : GuardFault) → o.kept ≡ kept → nat_le pn kept ≡ out
    → (if not same then Some fault.KeyId else if out then Some (fault.Replayed kept) else None) ≡ Some why → data_verdict_by pn (open_key_by same o) ≡ Refused (reason_of why)
stopped_by false out pn kept o why is late e =
    let one : fault.KeyId ≡ why = cc e in
    subst (λ (x : GuardFault). Refused reason.NoKey ≡ Refused (reason_of x)) one refl
stopped_by true true pn kept o why is late e =
    let one : fault.Replayed kept ≡ why = cc e in
    subst (λ (x : GuardFault). data_verdict_by pn (Some o) ≡ Refused (reason_of x)) one (rw (is, above kept pn true late) refl)
stopped_by true false pn kept o why is late e = absurd (cc e)

passed_by : (same out : Bool) (pn kept : ℕ) (o : OpenKey) → o.kept ≡ kept → nat_le pn kept ≡ out
    → (if not same then Some fault.KeyId else if out then Some (fault.Replayed kept) else None) ≡ None → (data_verdict_by pn (open_key_by same o) ≡ Accepted) × (same ≡ true)
passed_by false out pn kept o is late e = absurd (cc e)
passed_by true true pn kept o is late e = absurd (cc e)
passed_by true false pn kept o is late e = (rw (is, above kept pn false late) refl, refl)

-- a refusal comes not so far
never : (why : Reason) → comes_so_far (Refused why) ≡ true → ⊥
never why e = cc e

so_far : (o : Outcome) → ComesSoFar o → comes_so_far o ≡ true
so_far Accepted came = refl
so_far Answered came = refl
so_far Ignored came = elim came [ ]
so_far (Refused why) came = elim came [ ]
so_far Done came = elim came [ ]
so_far (Idle why) came = elim came [ ]
so_far (GaveUp m) came = elim came [ ]

-- of protected data that is refused nothing is noted as sealed
unsealed_always : (b : Bool) → cond {A = Option Seal} b None None ≡ None
unsealed_always true = refl
unsealed_always false = refl

-- and no key holder is asked
unasked : (n : Node) (o : Option Node) (f : SealedFields) (pulled : Option PmkR1) (why : Reason) → refused_look n o (sealed_reading f) pulled why ≡ []
unasked (Ap a) (Some p) f pulled why = refl
unasked (Ap a) None f pulled why = refl
unasked (Sta s) o f pulled why = refl

says_by : (w : Here) (p : Node) (octets : List ℕ) (f : SealedFields) (pulled : Option PmkR1) (why : Reason) (o : Option Node) (s : Option Seal) → o ≡ Some p → s ≡ None
    → refusal p octets why ≡ Took o octets Data (Refused why) s ∷ refused_look w.node o (sealed_reading f) pulled why ++ response w.domain w.node o Data why
says_by w p octets f pulled why o s from none =
    rw (from, none) (ap (λ (g : List Act). Took (Some p) octets Data (Refused why) None ∷ g) (sym (ap (λ (g : List Act). g ++ response w.domain w.node (Some p) Data why) (unasked w.node (Some p) f pulled why) ∙ silent w p why)))

-- the key as the rules see it
abbrev pub rule_key : SealedFields → Held → OpenKey
rule_key f k = record { key = k.key; id = key_id k.role; tid = counter_of k.role f.header.octets; kept = kept_number k f.header.octets }

-- what is refused before or by its seal, and adds a refusal
module _ (w : Here) (h : List Act) (p : Node) (octets : List ℕ) (f : SealedFields) (k : Held) (d : IsDataFrom w h p octets f) (opens : OpensBy w h p f k) where
  abbrev same : Bool
  same = key_id_in f.body == key_id k.role

  abbrev reading : Reading
  reading = sealed_reading f

  abbrev first : Outcome
  first = first_verdict w.domain w.first w.node h reading

  first_is : first ≡ data_verdict_by (packet_number f.body) (open_key_by same (rule_key f k))
  first_is = d.verdict_is ∙ ap (data_verdict_by (packet_number f.body)) opens

  abbrev late : Option GuardFault
  late = late_fault k f.header.octets f.body

  -- where it is refused, the acts are the refusal
  refuses : (facts : Facts) (why : Reason) → (comes_so_far first ≡ true → (q : Node) → sender w.domain w.node reading ≡ Some q → (o : OpenKey) → opened_by w.node h q f.header f.tid f.body ≡ Some o → IsOpened o.key o.id f.header.octets f.body facts.opened)
      → verdict w.domain w.first w.node h reading facts ≡ Refused why → TakeRow w h octets (refusal p octets why)
  refuses facts why knows refused = record {
    r = reading;
    reads = reads_so w.domain octets reading refl d.reads;
    facts = facts;
    knows = λ came q from o under. knows (so_far first came) q from o under;
    row = By_refusal (record {
      why = why;
      refused = refused;
      says = says_by w p octets f facts.pulled why _ _ d.from (unsealed_always (comes_so_far first));
    });
  }

  stopped : (why : GuardFault) → late ≡ Some why → TakeRow w h octets (refusal p octets (reason_of why))
  stopped why e =
      let out : first ≡ Refused (reason_of why) = first_is ∙ stopped_by same (nat_le (packet_number f.body) (kept_number k f.header.octets)) (packet_number f.body) (kept_number k f.header.octets) (rule_key f k) why refl refl e in
      refuses (facts_of None) (reason_of why) (λ came. absurd (never (reason_of why) (sym (ap comes_so_far out) ∙ came)))
      (ap (λ (o : Outcome). and_then o (unsealed None)) out)

  accepted : late ≡ None → first ≡ Accepted
  accepted e = first_is ∙ (passed_by same (nat_le (packet_number f.body) (kept_number k f.header.octets)) (packet_number f.body) (kept_number k f.header.octets) (rule_key f k) refl refl e).0

  under : late ≡ None → opened_by w.node h p f.header f.tid f.body ≡ Some (rule_key f k)
  under e = opens ∙ ap (λ (b : Bool). open_key_by b (rule_key f k)) (passed_by same (nat_le (packet_number f.body) (kept_number k f.header.octets)) (packet_number f.body) (kept_number k f.header.octets) (rule_key f k) refl refl e).1

  -- whoever sent it, and whatever it is opened under, are these
  known : (opened : Option (List ℕ)) → late ≡ None → IsOpened k.key (key_id k.role) f.header.octets f.body opened
      → (q : Node) → sender w.domain w.node reading ≡ Some q → (o : OpenKey) → opened_by w.node h q f.header f.tid f.body ≡ Some o → IsOpened o.key o.id f.header.octets f.body opened
  known opened e is q from o is_o =
      let one : p ≡ q = cc (d.from, from) in
      let key : rule_key f k ≡ o = cc (under e, subst (λ (x : Node). opened_by w.node h x f.header f.tid f.body ≡ Some o) (sym one) is_o) in
      subst (λ (x : OpenKey). IsOpened x.key x.id f.header.octets f.body opened) key is

  unsealed_row : late ≡ None → IsOpened k.key (key_id k.role) f.header.octets f.body None → TakeRow w h octets (refusal p octets reason.Seal)
  unsealed_row e is =
      refuses (facts_of None) reason.Seal (λ came. known None e is) (ap (λ (o : Outcome). and_then o (unsealed None)) (accepted e))

  pub opened_row : (plain : List ℕ) → late ≡ None → IsOpened k.key (key_id k.role) f.header.octets f.body (Some plain) → TakeRow w h octets (taken_acts p octets f k plain)
  opened_row plain e is = record {
    r = reading;
    reads = reads_so w.domain octets reading refl d.reads;
    facts = facts_of (Some plain);
    knows = λ came q from o is_o. known (Some plain) e is q from o is_o;
    row = By_data (record {
      header = f.header;
      way = f.direction;
      tid = f.tid;
      body = f.body;
      is = refl;
      p = p;
      from = d.from;
      accepted = ap (λ (o : Outcome). and_then o Accepted) (accepted e);
      k = rule_key f k;
      under = under e;
      plain = plain;
      opened = refl;
      says = refl;
    });
  }

  pub refused_row : (why : GuardFault) → IsStoppedBy f k why → TakeRow w h octets (refusal p octets (reason_of why))
  refused_row why (Before e) = stopped why (sym (is_late f k d.whole) ∙ e)
  refused_row why (Unsealed none is_seal is) = subst (λ (x : GuardFault). TakeRow w h octets (refusal p octets (reason_of x))) (sym is_seal) (unsealed_row (sym (is_late f k d.whole) ∙ none) is)

  pub handed_up_row : (new : Held) (plain : List ℕ) → IsOpenedTo f k new plain → TakeRow w h octets (taken_acts p octets f k plain)
  handed_up_row new plain o = opened_row plain (sym (is_late f k d.whole) ∙ o.faultless) o.opened

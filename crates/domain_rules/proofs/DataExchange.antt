-- What the rounds of an example with data need: a payload is sent, taken, and refused where it comes again.
use Rattle.std.proofs.Common.{◌≡◌, ℕ, Bool, true, false, List, [], ◌∷◌, Option, Some, None, refl, sym, ap, subst, ◌∙◌}
use Rattle.std.specs.Prelude.{not, nat_lt, ◌||◌, ◌&&◌, ◌==◌, unwrap_or, bytes_eq, if◌then◌else◌}
use Rattle.domain_base.specs.declared.names.Node.{Node}
use Rattle.domain_base.specs.declared.names.Node.TheVariants.{Ap, Sta}
use Rattle.domain_base.specs.declared.names.Peer.{Peer}
use Rattle.domain_base.specs.declared.names.Peer.TheVariants.{One, All}
use Rattle.air_frame.specs.declared.frame.Direction.{Direction}
use Rattle.air_frame.specs.Fields.{HeaderFields}
use Rattle.air_frame.specs.Sent.{data_header_octets, protected_data_octets, sent_header}
use Rattle.ccmp_guard.specs.Ccmp.{packet_number, key_id_in}
use Rattle.run_journal.specs.declared.acts.GroupKind.TheVariants as groups
use Rattle.run_journal.specs.declared.domain.Domain.{Domain}
use Rattle.run_journal.specs.declared.domain.Event.TheVariants.{Send}
use Rattle.run_journal.specs.declared.acts.Kind.TheVariants as kind
use Rattle.run_journal.specs.declared.acts.Reason.{Reason}
use Rattle.run_journal.specs.declared.acts.Reason.TheVariants as reason
use Rattle.run_journal.specs.declared.acts.Outcome.{Outcome}
use Rattle.run_journal.specs.declared.acts.Outcome.TheVariants.{Accepted, Refused}
use Rattle.run_journal.specs.declared.acts.Seal.{Seal}
use Rattle.run_journal.specs.declared.acts.Act.{Act}
use Rattle.run_journal.specs.declared.acts.Act.TheVariants.{Took, Used, HandedUp}
use Rattle.run_journal.specs.declared.acts.Entry.{Entry}
use Rattle.run_journal.specs.Acts.{same, Derivation}
use Rattle.run_journal.specs.Questions.{history, session, switches, pairwise_uses, group_uses}
use Rattle.domain_rules.specs.Network.{renews_at, direction, goes_like, peer_of}
use Rattle.domain_rules.specs.Reading.{Sealed}
use Rattle.domain_rules.specs.Facts.{Facts}
use Rattle.domain_rules.specs.Verdict.{first_verdict, and_then, verdict, is_mine_or_group}
use Rattle.domain_rules.specs.GroupKeys.{memory, is_key, got}
use Rattle.domain_rules.specs.PacketNumbers.{pairwise_got, OpenKey}
use Rattle.domain_rules.specs.DataFrames.{data_seal, sent_data}
use Rattle.domain_rules.specs.DataVerdict.{is_for_group, opened_by, data_verdict_by, data_verdict, IsOpened}
use Rattle.domain_rules.specs.DataRows.{and_due, send_acts}
use Rattle.domain_rules.specs.Owing.{and_switch}
use Rattle.domain_rules.specs.Rows.{TakeRow, Adds, By_data, By_refusal}
use Rattle.domain_rules.specs.Rows as event
use Rattle.domain_rules.specs.Explained.{push}
use Rattle.domain_rules.specs.Here.{here}
use Rattle.domain_rules.proofs.Journals.{AtOne}
use Rattle.domain_rules.proofs.Refused.{IsRefused, refused_first}
use Rattle.domain_rules.proofs.Unprotected.{reads_so}
use Rattle.domain_rules.proofs.DataReads.{IsMade, body_of, data_spelled, data_protected, data_opens}

-- ---- a payload is sent

pub send_step : (d : Domain) (round : ℕ) (n : Node) (q : Peer) (tid : Option ℕ) (plain : List ℕ) (past : List Entry) (h g : List Act) → history n past ≡ h → g ≡ send_acts (here d 0 n) h q tid plain → g ≡ and_switch d n h g
    → AtOne d round (Send n q tid plain) past (push round n g past)
send_step d round n q tid plain past h g is row still = record {
  node = n;
  at_node = event.Send q tid plain;
  happens = (refl, refl);
  acts = g;
  group = subst (λ (x : List Act). Adds (here d 0 n) x (event.Send q tid plain) g) (sym is) (record { acts = g; row = row; is = still });
  is = refl;
}

-- the first packet number of a pairwise key, and of a group key
-- where no renewal is due with the first number
abbrev pub IsFollowed : Domain → Node → List Act → Node → Derivation → Type 0
IsFollowed d n h p x = (acts : List Act) → and_due (here d 0 n) n h (One p) (Some (record { key = x.ptk.tk; id = 0; used = 0 })) acts ≡ acts

pub alone_at_ap : (d : Domain) (k : ℕ) (h : List Act) (p : Node) (x : Derivation) → renews_at d 1 ≡ false → IsFollowed d (Ap k) h p x
alone_at_ap d k h p x never acts = rw never refl

pub sends_first : (d : Domain) (n p : Node) (h : List Act) (x : Derivation) (tid : Option ℕ) (plain : List ℕ) → session p h ≡ Some x → pairwise_uses p h ≡ 0 → IsFollowed d n h p x
    → Used (One p) x.ptk.tk 0 1 plain ∷ sent_data d n (One p) tid x.ptk.tk 0 1 plain ∷ [] ≡ send_acts (here d 0 n) h (One p) tid plain
sends_first d n p h x tid plain s used alone = rw (s, used) (sym (alone (Used (One p) x.ptk.tk 0 1 plain ∷ sent_data d n (One p) tid x.ptk.tk 0 1 plain ∷ [])))

pub sends_first_all : (d : Domain) (k : ℕ) (h : List Act) (key : List ℕ) (tid : Option ℕ) (plain : List ℕ) → switches groups.Gtk h ≡ key ∷ [] → group_uses groups.Gtk h ≡ 0
    → Used All key 1 1 plain ∷ sent_data d (Ap k) All tid key 1 1 plain ∷ [] ≡ send_acts (here d 0 (Ap k)) h All tid plain
sends_first_all d k h key tid plain s used = rw (s, used) refl

-- ---- what a frame is opened under

pub opens_pairwise : (n p : Node) (h : List Act) (header : HeaderFields) (tid : Option ℕ) (body : List ℕ) (x : Derivation) (kept : ℕ) → session p h ≡ Some x → is_for_group n header ≡ false → key_id_in body ≡ 0 → pairwise_got p x.ptk.tk (unwrap_or tid 0) h ≡ kept
    → opened_by n h p header tid body ≡ Some (record { key = x.ptk.tk; id = 0; tid = unwrap_or tid 0; kept = kept })
opens_pairwise n p h header tid body x kept s alone id got_is = rw (s, alone, id, got_is) refl

pub opens_group : (n p : Node) (h : List Act) (header : HeaderFields) (tid : Option ℕ) (body : List ℕ) (x : Derivation) (key : List ℕ) (kept : ℕ) → session p h ≡ Some x → is_for_group n header ≡ true → key_id_in body ≡ 1 → memory groups.Gtk p h ≡ record { key = key; id = 1 } ∷ []
    → got p key 1 h ≡ kept → opened_by n h p header tid body ≡ Some (record { key = key; id = 1; tid = 0; kept = kept })
opens_group n p h header tid body x key kept s to_group id remembers got_is = rw (s, to_group, id, remembers, got_is) refl

-- a counter of another key id
none_and : (b : Bool) → (b && false) ≡ false
none_and true = refl
none_and false = refl

pub other_id : (p : Node) (key : List ℕ) (id : ℕ) (q : Node) (k : List ℕ) (i : ℕ) → (id == i) ≡ false → is_key p key id q k i ≡ false
other_id p key id q k i other = ap (λ (b : Bool). (same p q && bytes_eq key k) && b) other ∙ none_and (same p q && bytes_eq key k)

-- ---- a frame is taken

module _ (d : Domain) (n p : Node) (h : List Act) (way : Direction) (tid : Option ℕ) (a1 a2 a3 tk : List ℕ) (id pn : ℕ) (plain : List ℕ) (made : IsMade way tid a1 a2 a3 tk id pn plain) (t kept : ℕ) where
  abbrev header : List ℕ
  header = data_header_octets way true tid a1 a2 a3

  abbrev fields : HeaderFields
  fields = sent_header header a1 a2 a3

  abbrev body : List ℕ
  body = body_of way tid a1 a2 a3 tk id pn plain

  abbrev octets : List ℕ
  octets = protected_data_octets way tid a1 a2 a3 body

  abbrev under_key : OpenKey
  under_key = record { key = tk; id = id; tid = t; kept = kept }

  number : packet_number body ≡ pn
  number = (data_protected way tid a1 a2 a3 tk id pn plain made).number

  abbrev IsFor : Type 0
  IsFor = (not (is_mine_or_group d n fields) || goes_like way (direction n)) ≡ false

  first_is : peer_of d n a2 ≡ Some p → IsFor → first_verdict d 0 n h (Sealed fields way tid body) ≡ data_verdict n h p fields tid body
  first_is from mine = rw (mine, from) refl

  abbrev judged : Bool → Outcome
  judged b = if b then Accepted else Refused (reason.Replayed kept)

  first_by : peer_of d n a2 ≡ Some p → IsFor → opened_by n h p fields tid body ≡ Some under_key → first_verdict d 0 n h (Sealed fields way tid body) ≡ judged (nat_lt kept pn)
  first_by from mine under = first_is from mine ∙ ap (data_verdict_by (packet_number body)) under ∙ ap (λ (x : ℕ). judged (nat_lt kept x)) number

  abbrev facts : Facts
  facts = record { requested = None; responded = None; unwrapped = None; data_ = None; pulled = None; opened = Some plain; unwrapped_igtk = None; kept = 0 }

  pub data_row : peer_of d n a2 ≡ Some p → IsFor → opened_by n h p fields tid body ≡ Some under_key → nat_lt kept pn ≡ true
      → TakeRow (here d 0 n) h octets (Took (Some p) octets kind.Data Accepted (Some (data_seal tk header pn plain)) ∷ HandedUp p tk id t pn plain ∷ [])
  data_row from mine under above =
      let first : first_verdict d 0 n h (Sealed fields way tid body) ≡ Accepted = first_by from mine under ∙ ap judged above in
      let accepted : verdict d 0 n h (Sealed fields way tid body) facts ≡ Accepted = ap (λ (o : Outcome). and_then o Accepted) first in
      record {
        r = Sealed fields way tid body;
        reads = reads_so d octets (Sealed fields way tid body) refl (data_spelled way tid a1 a2 a3 tk id pn plain made);
        facts = facts;
        knows = λ came q from_q k under_q.
            (let one : p ≡ q = cc (from, from_q) in
            let key : under_key ≡ k = cc (under, subst (λ (x : Node). opened_by n h x fields tid body ≡ Some k) (sym one) under_q) in
            subst (λ (x : OpenKey). IsOpened x.key x.id header body (Some plain)) key (data_opens way tid a1 a2 a3 tk id pn plain made));
        row = By_data (record {
          header = fields;
          way = way;
          tid = tid;
          body = body;
          is = refl;
          p = p;
          from = from;
          accepted = accepted;
          k = under_key;
          under = under;
          plain = plain;
          opened = refl;
          says = ap (λ (x : ℕ). Took (Some p) octets kind.Data Accepted (Some (data_seal tk header x plain)) ∷ HandedUp p tk id t x plain ∷ []) (sym number);
        });
      }

-- a frame of which the number was taken is refused
pub replayed_row : (d : Domain) (m : ℕ) (p : Node) (h : List Act) (way : Direction) (tid : Option ℕ) (a1 a2 a3 tk : List ℕ) (id pn : ℕ) (plain : List ℕ) → (made : IsMade way tid a1 a2 a3 tk id pn plain) → (t kept : ℕ)
    → peer_of d (Sta m) a2 ≡ Some p → (not (is_mine_or_group d (Sta m) (sent_header (data_header_octets way true tid a1 a2 a3) a1 a2 a3)) || goes_like way (direction (Sta m))) ≡ false
    → opened_by (Sta m) h p (sent_header (data_header_octets way true tid a1 a2 a3) a1 a2 a3) tid (body_of way tid a1 a2 a3 tk id pn plain) ≡ Some (record { key = tk; id = id; tid = t; kept = kept }) → nat_lt kept pn ≡ false
    → TakeRow (here d 0 (Sta m)) h (protected_data_octets way tid a1 a2 a3 (body_of way tid a1 a2 a3 tk id pn plain))
    (Took (Some p) (protected_data_octets way tid a1 a2 a3 (body_of way tid a1 a2 a3 tk id pn plain)) kind.Data (Refused (reason.Replayed kept)) None ∷ [])
replayed_row d m p h way tid a1 a2 a3 tk id pn plain made t kept from mine under again =
    record {
      r = Sealed fields_in way tid body_in;
      reads = reads_so d octets_in (Sealed fields_in way tid body_in) refl (data_spelled way tid a1 a2 a3 tk id pn plain made);
      facts = w.facts;
      knows = w.knows;
      row = By_refusal (record {
        why = why;
        refused = w.refused;
        says = ap (λ (o : Option Node). Took o octets_in kind.Data (Refused why) None ∷ []) (sym from) ∙ ap (λ (s : Option Seal). Took (peer_of d (Sta m) a2) octets_in kind.Data (Refused why) s ∷ []) w.seal_is;
      });
    }
  where
    why : Reason
    why = reason.Replayed kept

    fields_in : HeaderFields
    fields_in = sent_header (data_header_octets way true tid a1 a2 a3) a1 a2 a3

    body_in : List ℕ
    body_in = body_of way tid a1 a2 a3 tk id pn plain

    octets_in : List ℕ
    octets_in = protected_data_octets way tid a1 a2 a3 body_in

    first : first_verdict d 0 (Sta m) h (Sealed fields_in way tid body_in) ≡ Refused why
    first = first_by d (Sta m) p h way tid a1 a2 a3 tk id pn plain made t kept from mine under ∙ ap (λ (b : Bool). if b then Accepted else Refused why) again

    w : IsRefused d 0 (Sta m) h (Sealed fields_in way tid body_in) why None
    w = refused_first d 0 (Sta m) h (Sealed fields_in way tid body_in) why first

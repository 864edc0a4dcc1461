-- An announcement of an example that protects management frames, after any histories: sent under the current IGTK, and handed up, or refused
-- where it comes again.
use Rattle.std.proofs.Common.{◌≡◌, ℕ, suc, ◌+◌, ◌-◌, ◌<◌, ◌≤◌, ◌^◌, true, false, List, [], ◌∷◌, length, Option, Some, None, refl, sym, ap, subst, ◌∙◌, arith}
use Rattle.std.proofs.lemmas.Bool.{lt-ltb, le-ltb, and_from, eq-eqb}
use Rattle.std.proofs.lemmas.List.{length-append, get_or-drop}
use Rattle.std.specs.Prelude.{◌++◌, max, drop, get_or, cond, Bool}
use Rattle.air_frame.proofs.SentFrames.{action_sent}
use Rattle.air_frame.specs.Control.{ends_in_mme}
use Rattle.air_frame.specs.Fields.{HeaderFields}
use Rattle.air_frame.specs.Sent.{management_header_octets, action_octets, sent_header}
use Rattle.bip_guard.proofs.Bodies.{length-mme_front, length-bip_mic, parts, content-of, key_id-of, ipn-of, verifies-of}
use Rattle.bip_guard.specs.Bip.{mme_front, bip_mic, protected_body, BipProtected, ipn_in}
use Rattle.domain_base.specs.declared.names.Akm.TheVariants.{PskSha256}
use Rattle.domain_base.specs.declared.names.Node.{Node}
use Rattle.domain_base.specs.declared.names.Peer.TheVariants.{All}
use Rattle.domain_rules.proofs.Exchange.{stands}
use Rattle.domain_rules.proofs.IntegrityKeys.{some_ipn_told}
use Rattle.domain_rules.specs.DataFrames.{broadcast}
use Rattle.domain_rules.specs.Explained.{WasSent}
use Rattle.domain_rules.specs.Facts.{Facts}
use Rattle.domain_rules.specs.GroupKeys.{is_current, memory}
use Rattle.domain_rules.specs.Here.{here}
use Rattle.domain_rules.specs.IntegrityKeys.{IsIpnGot, IsGot}
use Rattle.domain_rules.specs.ManagementFrames.{action_header, announced, action_seal, sent_action, announce_acts_by, announce_acts, integrity_key_by, integrity_key, action_verdict_by, action_further_by, before_mme, before_mic}
use Rattle.domain_rules.specs.Network.{address}
use Rattle.domain_rules.specs.PacketNumbers.{current, group_send_key, find_id}
use Rattle.domain_rules.specs.Reading.{Acting, Reads}
use Rattle.domain_rules.specs.Rows as event
use Rattle.domain_rules.specs.Rows.{Take, TakeRow, By_action, By_refusal, refused_seal}
use Rattle.domain_rules.specs.Verdict.{first_verdict, further, and_then, comes_so_far, verdict}
use Rattle.replay_window.specs.Numbers.{last_number}
use Rattle.run_journal.specs.Acts.{Derivation, GroupKey}
use Rattle.run_journal.specs.Questions.{session, group_uses, add}
use Rattle.run_journal.specs.declared.acts.Act.TheVariants.{Took, Used, HandedUp}
use Rattle.run_journal.specs.declared.acts.Act.{Act}
use Rattle.run_journal.specs.declared.acts.GroupKind.TheVariants as groups
use Rattle.run_journal.specs.declared.acts.Kind.TheVariants as kind
use Rattle.run_journal.specs.declared.acts.Outcome.TheVariants.{Accepted, Refused}
use Rattle.run_journal.specs.declared.acts.Outcome.{Outcome}
use Rattle.run_journal.specs.declared.acts.Reason.TheVariants as reason
use Rattle.run_journal.specs.declared.acts.Seal.{Seal}
use Rattle.run_journal.specs.declared.domain.Domain.{Domain}
use Rattle.run_journal.specs.declared.domain.Event.TheVariants.{Announce, Deliver}
use Rattle.run_journal.specs.declared.domain.Event.{Event}
use Rattle.example_domains.proofs.Elements.{same_bytes}
use Rattle.example_domains.proofs.ProtectedAssociation.{a, s, stays, got_more}
use Rattle.example_domains.proofs.ProtectedStages.{Stage, by_sta, by_ap}
use Rattle.example_domains.specs.Protection.{protecting}

-- ---- a protected body ends in an MME

front_begins : (id ipn : ℕ) (mic : List ℕ) → (get_or (mme_front id ipn ++ mic) 0 0 ≡ 0x4c) × (get_or (mme_front id ipn ++ mic) 1 0 ≡ 0x10)
unfolding mme_front
front_begins id ipn mic = (refl, refl)

module _ (seed ssid psk : List ℕ) (g : GroupKey) (number : ℕ) (payload : List ℕ) (id_low : g.id < 2 ^ 16) (few : number ≤ last_number) where
  abbrev d : Domain
  d = protecting seed ssid psk

  abbrev content : List ℕ
  content = announced payload

  abbrev body : List ℕ
  body = protected_body g.key (action_header d a) g.id number content

  abbrev pub octets : List ℕ
  octets = action_octets broadcast (address d a) (address d a) body

  abbrev header : HeaderFields
  header = sent_header (management_header_octets 13 broadcast (address d a) (address d a)) broadcast (address d a) (address d a)

  protects_body : BipProtected g.key (action_header d a) g.id number content body
  protects_body = record { mac_header = refl; key_id = id_low; number = few; sealed = refl }

  long : length body ≡ length content + 18
  long = omega (arith, length-append (content ++ mme_front g.id number) (bip_mic g.key (action_header d a) (content ++ mme_front g.id number)), length-append content (mme_front g.id number), length-mme_front g.id number, length-bip_mic g.key (action_header d a) (content ++ mme_front g.id number))

  mme_is : drop (length body - 18) body ≡ mme_front g.id number ++ bip_mic g.key (action_header d a) (content ++ mme_front g.id number)
  mme_is = (parts g.key (action_header d a) g.id number content body refl).mme

  ends_in : ends_in_mme body ≡ true
  ends_in =
      let begins = front_begins g.id number (bip_mic g.key (action_header d a) (content ++ mme_front g.id number)) in
      let first : get_or body (length body - 18) 0 ≡ 0x4c = ap (λ (n : ℕ). get_or body n 0) (omega arith) ∙ sym (get_or-drop (length body - 18) body 0 0) ∙ ap (λ (x : List ℕ). get_or x 0 0) mme_is ∙ begins.0 in
      let next : get_or body (length body - 17) 0 ≡ 0x10 = ap (λ (n : ℕ). get_or body n 0) (omega (arith, long)) ∙ sym (get_or-drop (length body - 18) body 1 0) ∙ ap (λ (x : List ℕ). get_or x 1 0) mme_is ∙ begins.1 in
      and_from _ _ (eq-eqb _ _ first) (eq-eqb _ _ next)

  -- it reads so
  reads : Reads PskSha256 octets (Acting header body)
  reads = action_sent broadcast (address d a) (address d a) refl refl refl body refl (omega (arith, long)) ends_in

  abbrev seal : Seal
  seal = action_seal g.key (action_header d a) (before_mic body)

  -- ---- it is sent
  module _ (ap0 : List Act) (used : ℕ) (under : current groups.Igtk ap0 ≡ Some g) (uses : group_uses groups.Igtk ap0 ≡ used) (next : number ≡ suc used) where
    abbrev pub sent_acts : List Act
    sent_acts = Used All g.key g.id number content ∷ sent_action d a g.key g.id number content ∷ []

    key_is : group_send_key groups.Igtk ap0 (current groups.Igtk ap0) ≡ Some (record { key = g.key; id = g.id; used = used })
    key_is = ap (group_send_key groups.Igtk ap0) under ∙ ap (λ (n : ℕ). Some (record { key = g.key; id = g.id; used = n })) uses

    says_sent : sent_acts ≡ announce_acts d a ap0 payload
    says_sent =
        ap (λ (n : ℕ). Used All g.key g.id n content ∷ sent_action d a g.key g.id n content ∷ []) next
        ∙ rw (lt-ltb used last_number (omega (arith, next, few))) refl
        ∙ sym (ap (announce_acts_by d a content) key_is)

    pub sends : (rounds0 : List (List Event)) (sta0 : List Act) (frames0 : List (List ℕ)) → is_current groups.Gtk ap0 ≡ true → Stage d rounds0 sta0 ap0 frames0 → Stage d ((Announce 0 payload ∷ []) ∷ rounds0) sta0 (add sent_acts ap0) (octets ∷ frames0)
    sends rounds0 sta0 frames0 is st =
        by_ap d rounds0 sta0 ap0 frames0 st (Announce 0 payload) (event.Announce payload) sent_acts sent_acts (refl, refl) says_sent (stays d sent_acts (add sent_acts ap0) is)

  -- ---- it comes
  module _ (sta0 : List Act) (x : Derivation) (has : session a sta0 ≡ Some x) (known : find_id g.id (memory groups.Igtk a sta0) ≡ Some g) (kept : ℕ) (got : IsGot groups.Igtk a g.key g.id sta0 kept) where
    tried : integrity_key a sta0 body ≡ Some g
    tried = ap (λ (n : ℕ). integrity_key_by a sta0 n (session a sta0)) (key_id-of protects_body) ∙ ap (integrity_key_by a sta0 g.id) has ∙ known

    abbrev facts : Facts
    facts = record { requested = None; responded = None; unwrapped = None; data_ = None; pulled = None; opened = None; unwrapped_igtk = None; kept = kept }

    first_is : first_verdict d 0 s sta0 (Acting header body) ≡ Accepted
    first_is = ap action_verdict_by tried

    further_is : further d 0 s sta0 (Acting header body) facts ≡ action_further_by header body kept (Some g)
    further_is = ap (action_further_by header body kept) tried

    knows : (p : Node) → Some a ≡ Some p → (k : GroupKey) → integrity_key p sta0 body ≡ Some k → IsGot groups.Igtk p k.key k.id sta0 kept
    knows p from k is =
        let same : a ≡ p = cc from in
        let one : Some g ≡ Some k = sym tried ∙ subst (λ (q : Node). integrity_key q sta0 body ≡ Some k) (sym same) is in
        let equal : g ≡ k = cc one in
        subst (λ (q : Node). IsGot groups.Igtk q k.key k.id sta0 kept) same (subst (λ (y : GroupKey). IsGot groups.Igtk a y.key y.id sta0 kept) equal got)

    -- ---- and is handed up, where its number is above the kept one
    module _ (above : kept < number) where
      abbrev pub taken_acts : List Act
      taken_acts = Took (Some a) octets kind.Action Accepted (Some seal) ∷ HandedUp a g.key g.id 0 number content ∷ []

      verifies : action_further_by header body kept (Some g) ≡ Accepted
      verifies = rw (lt-ltb kept (ipn_in body) (subst (λ (n : ℕ). kept < n) (sym (ipn-of protects_body)) above), verifies-of protects_body) refl

      accepted : verdict d 0 s sta0 (Acting header body) facts ≡ Accepted
      accepted = stands Accepted _ _ first_is (further_is ∙ verifies) refl

      says_taken : taken_acts ≡ Took (Some a) octets kind.Action Accepted (Some seal) ∷ HandedUp a g.key g.id 0 (ipn_in body) (before_mme body) ∷ []
      says_taken =
          ap (λ (n : ℕ). Took (Some a) octets kind.Action Accepted (Some seal) ∷ HandedUp a g.key g.id 0 n content ∷ []) (sym (ipn-of protects_body))
          ∙ ap (λ (l : List ℕ). Took (Some a) octets kind.Action Accepted (Some seal) ∷ HandedUp a g.key g.id 0 (ipn_in body) l ∷ []) (sym (content-of protects_body))

      row : TakeRow (here d 0 s) sta0 octets taken_acts
      row = record {
        r = Acting header body;
        reads = reads;
        facts = facts;
        knows = λ came. knows;
        row = By_action (record { header = header; body = body; is = refl; p = a; from = refl; accepted = accepted; k = g; under = tried; says = says_taken });
      }

      -- the receive counter is its number then
      pub got_up : number ≡ max number kept → IsIpnGot a g.key g.id (add taken_acts sta0) number
      got_up is =
          let heard = some_ipn_told a (Took (Some a) octets kind.Action Accepted (Some seal) ∷ sta0) in
          let was = got_more g.key g.id kept (Took (Some a) octets kind.Action Accepted (Some seal) ∷ []) sta0 (λ x. refl, tt) got in
          (heard.0, (heard.1, (kept, (was, is ∙ sym (rw (same_bytes g.key, eq-eqb g.id g.id refl) refl)))))

      pub takes : (rounds0 : List (List Event)) (ap0 : List Act) (frames0 : List (List ℕ)) (at : ℕ) (st : Stage d rounds0 sta0 ap0 frames0) → WasSent st.journal (suc (length rounds0)) at octets → Stage d ((Deliver at s ∷ []) ∷ rounds0) (add taken_acts sta0) ap0 frames0
      takes rounds0 ap0 frames0 at st was = by_sta d rounds0 sta0 ap0 frames0 st (Deliver at s) (Take octets) taken_acts (octets, (was, (refl, refl))) row

    -- ---- or is refused, where it is not
    module _ (low : number ≤ kept) where
      abbrev pub refused_acts : List Act
      refused_acts = Took (Some a) octets kind.Action (Refused (reason.Replayed kept)) None ∷ []

      replayed : action_further_by header body kept (Some g) ≡ Refused (reason.Replayed kept)
      replayed = rw (le-ltb kept (ipn_in body) (subst (λ (n : ℕ). n ≤ kept) (sym (ipn-of protects_body)) low)) refl

      refused : verdict d 0 s sta0 (Acting header body) facts ≡ Refused (reason.Replayed kept)
      refused = ap (λ (o : Outcome). and_then o (further d 0 s sta0 (Acting header body) facts)) first_is ∙ ap (and_then Accepted) (further_is ∙ replayed)

      either : (b : Bool) (o : Option Seal) → cond b o o ≡ o
      either true o = refl
      either false o = refl

      no_seal : refused_seal d 0 s sta0 (Acting header body) ≡ None
      no_seal = either (comes_so_far (first_verdict d 0 s sta0 (Acting header body))) None

      refusal : TakeRow (here d 0 s) sta0 octets refused_acts
      refusal = record {
        r = Acting header body;
        reads = reads;
        facts = facts;
        knows = λ came. knows;
        row = By_refusal (record { why = reason.Replayed kept; refused = refused; says = ap (λ (o : Option Seal). Took (Some a) octets kind.Action (Refused (reason.Replayed kept)) o ∷ []) (sym no_seal) });
      }

      pub got_still : IsIpnGot a g.key g.id (add refused_acts sta0) kept
      got_still = got_more g.key g.id kept refused_acts sta0 (λ x. refl, tt) got

      pub refuses : (rounds0 : List (List Event)) (ap0 : List Act) (frames0 : List (List ℕ)) (at : ℕ) (st : Stage d rounds0 sta0 ap0 frames0) → WasSent st.journal (suc (length rounds0)) at octets → Stage d ((Deliver at s ∷ []) ∷ rounds0) (add refused_acts sta0) ap0 frames0
      refuses rounds0 ap0 frames0 at st was = by_sta d rounds0 sta0 ap0 frames0 st (Deliver at s) (Take octets) refused_acts (octets, (was, (refl, refl))) refusal

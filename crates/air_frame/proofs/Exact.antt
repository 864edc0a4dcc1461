-- Octets without a fault are the frame that they say, and a frame has no fault.
use Rattle.std.proofs.Common.{◌≡◌, ◌⊎◌, ℕ, zero, suc, ◌+◌, ◌≤◌, Bool, true, false, cond, ltb, leb, eqb, List, drop, length, Option, Some, None, refl, sym, ap, subst, ◌∙◌, arith, inl, inr}
use Rattle.std.specs.Prelude.{not, ◌||◌, ◌&&◌}
use Rattle.std.proofs.lemmas.Bool.{ltb-false, le-ltb, eqb-true, eq-eqb, ne_eqb, or_parts, or_from, or_cases, and_parts, and_from, and_left, and_right, not-false, not_from_true, not_from_false, leb-true, cond-true, cond-false, cond_both, cases_Bool, cases_eq}
use Rattle.std.proofs.lemmas.List.{length-take, length-drop}
use Rattle.std.proofs.lemmas.Slice.Eq.{bytes_eq-Decides}
use Rattle.domain_base.specs.Places.{part}
use Rattle.air_frame.specs.Control.{protocol_version, frame_type, frame_subtype, is_to_ds, is_from_ds, is_protected, is_to_group, is_group_action, is_management, is_data, is_qos, has_a_msdu, data_header_length, eapol_llc}
use Rattle.air_frame.specs.Fields.{AirFields, assoc_req, assoc_resp, ft_req, ft_resp, re_req, re_resp, action, eapol, protected, ignored, assoc_req_at, assoc_resp_at, ft_req_at, ft_resp_at, re_req_at, re_resp_at, action_at, eapol_at, protected_at, algorithm, transaction, authentication_at, management_at, data_at, air_at}
use Rattle.air_frame.specs.Faults.{fixed_length, lacks_mme, management_fault, begins_eapol, has_ext_iv, data_fault, air_fault}
use Rattle.air_frame.specs.Spelled.{IsWhole, IsManagement, IsFtAuthentication, IsGroupAction, IsData, IsEapolData, IsProtectedData, IsOther, IsOtherAuthentication, SpellsAir}

-- a test that gave nothing
passed : {X : Type 0} (b : Bool) (x : X) (rest : Option X) → cond b (Some x) rest ≡ None → (b ≡ false) × (rest ≡ None)
passed true x rest e = absurd cc
passed false x rest e = (refl, e)

-- a subtype of a management frame that is read, to a group or not
abbrev pub is_known : Bool → ℕ → Bool
is_known group subtype = (leb subtype 3 || eqb subtype 11) || (eqb subtype 13 && group)

management_from : (octets : List ℕ) (subtype : ℕ) → frame_type octets ≡ 0 → frame_subtype octets ≡ subtype → is_known (is_to_group octets) subtype ≡ true → is_management octets ≡ true
management_from octets subtype kind same known =
    and_from _ _ (eq-eqb _ _ kind) (ap (λ (s : ℕ). (leb s 3 || eqb s 11) || (eqb s 13 && is_to_group octets)) same ∙ known)

management_is_no_data : (octets : List ℕ) → frame_type octets ≡ 0 → is_data octets ≡ false
management_is_no_data octets kind = ap (λ (n : ℕ). eqb n 2 && (eqb (frame_subtype octets) 0 || eqb (frame_subtype octets) 8)) kind

data_is_no_management : (octets : List ℕ) → is_data octets ≡ true → is_management octets ≡ false
data_is_no_management octets kind =
    ap (λ (n : ℕ). eqb n 0 && ((leb (frame_subtype octets) 3 || eqb (frame_subtype octets) 11) || is_group_action octets)) (eqb-true _ _ (and_parts _ _ kind).0)

-- the faults by the kind of the frame
record IsLong (octets : List ℕ) : Type 0 where
  long : 2 ≤ length octets
  version : protocol_version octets ≡ 0
  rest : cond (is_management octets) (management_fault octets) (cond (is_data octets) (data_fault octets) None) ≡ None

long_from_none : (octets : List ℕ) → air_fault octets ≡ None → IsLong octets
long_from_none octets e =
    let a = passed _ _ _ e in
    let b = passed _ _ _ a.1 in
    record { long = ltb-false _ _ a.0; version = eqb-true _ _ (not-false _ b.0); rest = b.1 }

none_from_long : (octets : List ℕ) → IsLong octets → air_fault octets ≡ None
none_from_long octets s = rw (le-ltb (length octets) 2 s.long, not_from_true _ (eq-eqb _ _ s.version)) s.rest

management_tests : (octets : List ℕ) → air_fault octets ≡ None → is_management octets ≡ true → IsManagement octets (frame_subtype octets) (fixed_length (frame_subtype octets)) × (lacks_mme octets ≡ false)
management_tests octets e m =
    let s = long_from_none octets e in
    let none : management_fault octets ≡ None = sym (cond-true _ _ _ m) ∙ s.rest in
    let a = passed _ _ _ none in
    let b = passed _ _ _ a.1 in
    let c = passed _ _ _ b.1 in
    let d = passed _ _ _ c.1 in
    let f = passed _ _ _ d.1 in
    let g = passed _ _ _ f.1 in
    let h = passed _ _ _ g.1 in
    let i = passed _ _ _ h.1 in
    let ds = or_parts _ _ b.0 in (
      record {
        version = s.version;
        management = eqb-true _ _ (and_parts _ _ m).0;
        kind = refl;
        not_to_ds = ds.0;
        not_from_ds = ds.1;
        unprotected = d.0;
        whole = record { last = c.0; first = eqb-true _ _ (not-false _ g.0); no_ht_control = f.0 };
        long = ltb-false _ _ h.0;
      },
      i.0,
    )

pub management_sound : (octets : List ℕ) → air_fault octets ≡ None → is_management octets ≡ true → IsManagement octets (frame_subtype octets) (fixed_length (frame_subtype octets))
management_sound octets e m = (management_tests octets e m).0

pub management_none : (octets : List ℕ) (subtype fixed : ℕ) → is_known (is_to_group octets) subtype ≡ true → fixed_length subtype ≡ fixed → lacks_mme octets ≡ false → IsManagement octets subtype fixed → air_fault octets ≡ None
management_none octets subtype fixed known size mme s =
    let long : 24 + fixed_length (frame_subtype octets) ≤ length octets = omega (arith, s.long, size, ap fixed_length s.kind) in
    none_from_long octets (record {
      long = omega (arith, s.long);
      version = s.version;
      rest = cond-true _ _ _ (management_from octets subtype s.management s.kind known) ∙ rw (
        le-ltb (length octets) 24 (omega (arith, s.long)),
        or_from _ _ s.not_to_ds s.not_from_ds,
        s.whole.last,
        s.unprotected,
        s.whole.no_ht_control,
        not_from_true _ (eq-eqb _ _ s.whole.first),
        le-ltb _ _ long,
        mme,
      ) refl;
    })

-- no other frame has to end in an MME, and an action frame to a group does
no_mme : (octets : List ℕ) (subtype fixed : ℕ) → eqb subtype 13 ≡ false → IsManagement octets subtype fixed → lacks_mme octets ≡ false
no_mme octets subtype fixed other s = and_left _ _ (ap (λ (n : ℕ). eqb n 13) s.kind ∙ other)

has_mme : (octets : List ℕ) → IsGroupAction octets → lacks_mme octets ≡ false
has_mme octets s = and_right _ _ (not_from_true _ s.mme)

plain_none : (octets : List ℕ) (subtype fixed : ℕ) → is_known (is_to_group octets) subtype ≡ true → fixed_length subtype ≡ fixed → eqb subtype 13 ≡ false → IsManagement octets subtype fixed → air_fault octets ≡ None
plain_none octets subtype fixed known size other s = management_none octets subtype fixed known size (no_mme octets subtype fixed other s) s

-- one of two flags is set, or both or none
one_of : (x y : Bool) → ((x && y) || (not x && not y)) ≡ false → y ≡ not x
one_of true true e = e
one_of true false e = refl
one_of false true e = refl
one_of false false e = sym e

one_of_from : (x y : Bool) → y ≡ not x → ((x && y) || (not x && not y)) ≡ false
one_of_from true y e = rw e refl
one_of_from false y e = rw e refl

-- the octets before EAPOL, by the test and as they stand
eapol_from_test : (octets : List ℕ) → begins_eapol octets ≡ true → part (data_header_length octets) 8 octets ≡ eapol_llc
eapol_from_test octets e = sym ((bytes_eq-Decides eapol_llc (part (data_header_length octets) 8 octets)).0 e)

eapol_test : (octets : List ℕ) → part (data_header_length octets) 8 octets ≡ eapol_llc → begins_eapol octets ≡ true
eapol_test octets e = (bytes_eq-Decides eapol_llc (part (data_header_length octets) 8 octets)).1 (sym e)

eapol_long : (octets : List ℕ) → part (data_header_length octets) 8 octets ≡ eapol_llc → data_header_length octets + 8 ≤ length octets
eapol_long octets e =
    let n : length (part (data_header_length octets) 8 octets) ≡ 8 = ap length e in
    omega (arith, n, length-take 8 (drop (data_header_length octets) octets), length-drop (data_header_length octets) octets)

-- data without a fault
record IsSoundData (octets : List ℕ) : Type 0 where
  version : protocol_version octets ≡ 0
  kind : is_data octets ≡ true
  one_way : is_from_ds octets ≡ not (is_to_ds octets)
  whole : IsWhole octets
  one_msdu : has_a_msdu octets ≡ false
  body : (not (is_protected octets) && not (begins_eapol octets)) ≡ false
  covered : (is_protected octets && ltb (length octets) (data_header_length octets + 16)) ≡ false
  ext_iv : (is_protected octets && not (has_ext_iv octets)) ≡ false

data_sound : (octets : List ℕ) → air_fault octets ≡ None → is_data octets ≡ true → IsSoundData octets
data_sound octets e kind =
    let s = long_from_none octets e in
    let none : data_fault octets ≡ None = sym (cond-true _ _ _ kind) ∙ (sym (cond-false _ _ _ (data_is_no_management octets kind)) ∙ s.rest) in
    let a = passed _ _ _ none in
    let b = passed _ _ _ a.1 in
    let c = passed _ _ _ b.1 in
    let d = passed _ _ _ c.1 in
    let f = passed _ _ _ d.1 in
    let g = passed _ _ _ f.1 in
    let h = passed _ _ _ g.1 in
    let i = passed _ _ _ h.1 in
    let j = passed _ _ _ i.1 in
    record {
      version = s.version;
      kind = kind;
      one_way = one_of _ _ b.0;
      whole = record { last = c.0; first = eqb-true _ _ (not-false _ f.0); no_ht_control = d.0 };
      one_msdu = g.0;
      body = h.0;
      covered = i.0;
      ext_iv = j.0;
    }

-- the second test, where the first holds
second : (x y : Bool) → x ≡ true → (x && y) ≡ false → y ≡ false
second x y p e = sym (ap (λ (b : Bool). b && y) p) ∙ e

pub eapol_sound : (octets : List ℕ) → air_fault octets ≡ None → is_data octets ≡ true → is_protected octets ≡ false → IsEapolData octets
eapol_sound octets e kind open_body =
    let s = data_sound octets e kind in
    let llc = eapol_from_test octets (not-false _ (second _ _ (not_from_false _ open_body) s.body)) in
    record {
      frame = record { version = s.version; kind = kind; one_way = s.one_way; whole = s.whole; one_msdu = s.one_msdu; long = eapol_long octets llc };
      unprotected = open_body;
      llc = llc;
    }

pub protected_sound : (octets : List ℕ) → air_fault octets ≡ None → is_data octets ≡ true → is_protected octets ≡ true → IsProtectedData octets
protected_sound octets e kind covered =
    let s = data_sound octets e kind in
    record {
      frame = record { version = s.version; kind = kind; one_way = s.one_way; whole = s.whole; one_msdu = s.one_msdu; long = ltb-false _ _ (second _ _ covered s.covered) };
      covered = covered;
      ext_iv = eqb-true _ _ (not-false _ (second _ _ covered s.ext_iv));
    }

data_none : (octets : List ℕ) (least : ℕ) → IsData octets least
    → (not (is_protected octets) && not (begins_eapol octets)) ≡ false
    → (is_protected octets && ltb (length octets) (data_header_length octets + 16)) ≡ false
    → (is_protected octets && not (has_ext_iv octets)) ≡ false
    → data_fault octets ≡ None
data_none octets least s body covered ext_iv = rw (
  le-ltb (length octets) (data_header_length octets) (omega (arith, s.long)),
  one_of_from _ _ s.one_way,
  s.whole.last,
  s.whole.no_ht_control,
  not_from_true _ (eq-eqb _ _ s.whole.first),
  s.one_msdu,
  body,
  covered,
  ext_iv,
) refl

pub header_low : (octets : List ℕ) → 24 ≤ data_header_length octets
header_low octets = cond_both (is_qos octets) 26 24 (λ n. 24 ≤ n) (λ e. omega arith) (λ e. omega arith)

air_none_data : (octets : List ℕ) (least : ℕ) → IsData octets least → data_fault octets ≡ None → air_fault octets ≡ None
air_none_data octets least s none = none_from_long octets (record {
  long = omega (arith, s.long, header_low octets);
  version = s.version;
  rest = cond-false _ _ _ (data_is_no_management octets s.kind) ∙ (cond-true _ _ _ s.kind ∙ none);
})

pub eapol_none : (octets : List ℕ) → IsEapolData octets → air_fault octets ≡ None
eapol_none octets s =
    air_none_data octets 8 s.frame
    (data_none octets 8 s.frame
    (rw (s.unprotected, eapol_test octets s.llc) refl)
    (ap (λ (b : Bool). b && ltb (length octets) (data_header_length octets + 16)) s.unprotected)
    (ap (λ (b : Bool). b && not (has_ext_iv octets)) s.unprotected))

pub protected_none : (octets : List ℕ) → IsProtectedData octets → air_fault octets ≡ None
protected_none octets s =
    air_none_data octets 16 s.frame
    (data_none octets 16 s.frame
    (ap (λ (b : Bool). not b && not (begins_eapol octets)) s.covered)
    (rw (s.covered, le-ltb (length octets) (data_header_length octets + 16) s.frame.long) refl)
    (rw (s.covered, eq-eqb _ _ s.ext_iv) refl))

other_none : (octets : List ℕ) → IsOther octets → air_fault octets ≡ None
other_none octets s = none_from_long octets (record {
  long = s.long;
  version = s.version;
  rest = cond-false _ _ _ s.not_management ∙ cond-false _ _ _ s.not_data;
})

pub spelled_none : (octets : List ℕ) (f : AirFields) → SpellsAir octets f → air_fault octets ≡ None
spelled_none octets (assoc_req h c i e) s = plain_none octets 0 4 refl refl refl s.1
spelled_none octets (assoc_resp h c t a e) s = plain_none octets 1 6 refl refl refl s.1
spelled_none octets (re_req h c i a e) s = plain_none octets 2 10 refl refl refl s.1
spelled_none octets (re_resp h c t a e) s = plain_none octets 3 6 refl refl refl s.1
spelled_none octets (ft_req h t e) s = plain_none octets 11 6 refl refl refl s.1.authentication
spelled_none octets (ft_resp h t e) s = plain_none octets 11 6 refl refl refl s.1.authentication
spelled_none octets (action h b) s = management_none octets 13 19 s.1.group refl (has_mme octets s.1) s.1.frame
spelled_none octets (eapol h d t b) s = eapol_none octets s.1
spelled_none octets (protected h d t b) s = protected_none octets s.1
spelled_none octets ignored s = elim s [ inl o ↦ other_none octets o | inr o ↦ plain_none octets 11 6 refl refl refl o.authentication ]

-- what management frames and authentication say, by subtype and by transaction
by_subtype : List ℕ → ℕ → AirFields
by_subtype octets subtype =
    cond (eqb subtype 0) (assoc_req_at octets) (cond (eqb subtype 1) (assoc_resp_at octets) (cond (eqb subtype 2) (re_req_at octets) (cond (eqb subtype 3) (re_resp_at octets) (cond (eqb subtype 13) (action_at octets) (authentication_at octets)))))

by_transaction : List ℕ → ℕ → ℕ → AirFields
by_transaction octets kind number =
    cond (not (eqb kind 2)) ignored (cond (eqb number 1) (ft_req_at octets) (cond (eqb number 2) (ft_resp_at octets) ignored))

management_is : (octets : List ℕ) (subtype fixed : ℕ) → is_known (is_to_group octets) subtype ≡ true → IsManagement octets subtype fixed → air_at octets ≡ by_subtype octets subtype
unfolding air_at by_subtype
management_is octets subtype fixed known s =
    cond-true _ _ _ (management_from octets subtype s.management s.kind known) ∙ ap (λ (n : ℕ). by_subtype octets n) s.kind

authentication_is : (octets : List ℕ) → IsManagement octets 11 6 → air_at octets ≡ authentication_at octets
unfolding by_subtype
authentication_is octets s = management_is octets 11 6 refl s

ft_is : (octets : List ℕ) (number : ℕ) → IsFtAuthentication octets number → air_at octets ≡ by_transaction octets 2 number
unfolding by_transaction
ft_is octets number s =
    authentication_is octets s.authentication ∙ ap (λ (n : ℕ). by_transaction octets n (transaction octets)) s.ft
    ∙ ap (λ (n : ℕ). by_transaction octets 2 n) s.sequence

other_authentication_is : (octets : List ℕ) → IsOtherAuthentication octets → air_at octets ≡ ignored
other_authentication_is octets s =
    authentication_is octets s.authentication
    ∙ elim s.other [
      | inl apart ↦ cond-true _ _ _ (not_from_false _ (ne_eqb _ _ apart))
      | inr apart ↦ cond_both (not (eqb (algorithm octets) 2)) ignored _ (λ f. f ≡ ignored) (λ e. refl) (λ e. rw (ne_eqb (transaction octets) 1 apart.0, ne_eqb (transaction octets) 2 apart.1) refl)
    ]

data_is : (octets : List ℕ) (least : ℕ) → IsData octets least → air_at octets ≡ data_at octets
unfolding air_at
data_is octets least s = cond-false _ _ _ (data_is_no_management octets s.kind) ∙ cond-true _ _ _ s.kind

other_is : (octets : List ℕ) → IsOther octets → air_at octets ≡ ignored
unfolding air_at
other_is octets s = cond-false _ _ _ s.not_management ∙ cond-false _ _ _ s.not_data

-- octets are one frame at most
pub spelled_is : (octets : List ℕ) (f : AirFields) → SpellsAir octets f → f ≡ air_at octets
unfolding by_subtype by_transaction
spelled_is octets (assoc_req h c i e) s = s.0 ∙ sym (management_is octets 0 4 refl s.1)
spelled_is octets (assoc_resp h c t a e) s = s.0 ∙ sym (management_is octets 1 6 refl s.1)
spelled_is octets (re_req h c i a e) s = s.0 ∙ sym (management_is octets 2 10 refl s.1)
spelled_is octets (re_resp h c t a e) s = s.0 ∙ sym (management_is octets 3 6 refl s.1)
spelled_is octets (ft_req h t e) s = s.0 ∙ sym (ft_is octets 1 s.1)
spelled_is octets (ft_resp h t e) s = s.0 ∙ sym (ft_is octets 2 s.1)
spelled_is octets (action h b) s = s.0 ∙ sym (management_is octets 13 19 s.1.group s.1.frame)
spelled_is octets (eapol h d t b) s = s.0 ∙ sym (data_is octets 8 s.1.frame ∙ cond-false _ _ _ s.1.unprotected)
spelled_is octets (protected h d t b) s = s.0 ∙ sym (data_is octets 16 s.1.frame ∙ cond-true _ _ _ s.1.covered)
spelled_is octets ignored s = elim s [ inl o ↦ sym (other_is octets o) | inr o ↦ sym (other_authentication_is octets o) ]

-- a management frame of another subtype
named : (octets : List ℕ) (subtype fixed : ℕ) → fixed_length subtype ≡ fixed → frame_subtype octets ≡ subtype → IsManagement octets (frame_subtype octets) (fixed_length (frame_subtype octets)) → IsManagement octets subtype fixed
named octets subtype fixed size same s = record {
  version = s.version;
  management = s.management;
  kind = same;
  not_to_ds = s.not_to_ds;
  not_from_ds = s.not_from_ds;
  unprotected = s.unprotected;
  whole = s.whole;
  long = omega (arith, s.long, size, ap fixed_length same);
}

-- the spelled frame, where it is what is said
as_said : (octets : List ℕ) (said f : AirFields) → said ≡ f → SpellsAir octets f → SpellsAir octets said
as_said octets said f e s = subst (λ g. SpellsAir octets g) (sym e) s

authentication_spelled : (octets : List ℕ) → IsManagement octets 11 6 → SpellsAir octets (by_transaction octets (algorithm octets) (transaction octets))
unfolding by_transaction
authentication_spelled octets s =
    elim (cases_eq (algorithm octets) 2) [
      | inr apart ↦ as_said octets _ ignored (cond-true _ _ _ (not_from_false _ (ne_eqb _ _ apart))) (inr (record { authentication = s; other = inl apart }))
      | inl ft ↦ elim (cases_eq (transaction octets) 1) [
        | inl one ↦ as_said octets _ (ft_req_at octets) (rw (ft, one) refl) (refl, record { authentication = s; ft = ft; sequence = one })
        | inr not_one ↦ elim (cases_eq (transaction octets) 2) [
          | inl two ↦ as_said octets _ (ft_resp_at octets) (rw (ft, two) refl) (refl, record { authentication = s; ft = ft; sequence = two })
          | inr not_two ↦ as_said octets _ ignored (rw (ft, ne_eqb (transaction octets) 1 not_one, ne_eqb (transaction octets) 2 not_two) refl) (inr (record { authentication = s; other = inr (not_one, not_two) }))
        ]
      ]
    ]

-- which frame a known subtype is
abbrev Known : Bool → ℕ → Type 0
Known group n = (n ≡ 0) ⊎ ((n ≡ 1) ⊎ ((n ≡ 2) ⊎ ((n ≡ 3) ⊎ ((n ≡ 11) ⊎ ((n ≡ 13) × (group ≡ true))))))

low_cases : (group : Bool) (n : ℕ) → n ≤ 3 → Known group n
low_cases group zero h = inl refl
low_cases group (suc zero) h = inr (inl refl)
low_cases group (suc (suc zero)) h = inr (inr (inl refl))
low_cases group (suc (suc (suc zero))) h = inr (inr (inr (inl refl)))
low_cases group (suc (suc (suc (suc n)))) h = absurd (omega arith)

plain_cases : (group : Bool) (n : ℕ) → (leb n 3 || eqb n 11) ≡ true → Known group n
plain_cases group n e = elim (or_cases _ _ e) [ inl low ↦ low_cases group n (leb-true _ _ low) | inr top ↦ inr (inr (inr (inr (inl (eqb-true _ _ top))))) ]

known_cases : (group : Bool) (n : ℕ) → is_known group n ≡ true → Known group n
known_cases group n e =
    elim (or_cases _ _ e) [
      | inl plain ↦ plain_cases group n plain
      | inr for_group ↦ inr (inr (inr (inr (inr (eqb-true _ _ (and_parts _ _ for_group).0, (and_parts _ _ for_group).1)))))
    ]

-- an action frame to a group that has the fixed length and no fault
action_spelled : (octets : List ℕ) → frame_subtype octets ≡ 13 → is_to_group octets ≡ true → lacks_mme octets ≡ false → IsManagement octets (frame_subtype octets) (fixed_length (frame_subtype octets)) → IsGroupAction octets
action_spelled octets kind group mme s = record {
  frame = named octets 13 19 refl kind s;
  group = group;
  mme = not-false _ (second _ _ (eq-eqb _ _ kind) mme);
}

management_spelled : (octets : List ℕ) → air_fault octets ≡ None → is_management octets ≡ true → SpellsAir octets (by_subtype octets (frame_subtype octets))
unfolding by_subtype by_transaction
management_spelled octets e m =
    let s = management_sound octets e m in
    elim (known_cases (is_to_group octets) (frame_subtype octets) (and_parts _ _ m).1) [
      | inl k ↦ as_said octets _ (assoc_req_at octets) (ap (λ (n : ℕ). by_subtype octets n) k) (refl, named octets 0 4 refl k s)
      | inr (inl k) ↦ as_said octets _ (assoc_resp_at octets) (ap (λ (n : ℕ). by_subtype octets n) k) (refl, named octets 1 6 refl k s)
      | inr (inr (inl k)) ↦ as_said octets _ (re_req_at octets) (ap (λ (n : ℕ). by_subtype octets n) k) (refl, named octets 2 10 refl k s)
      | inr (inr (inr (inl k))) ↦ as_said octets _ (re_resp_at octets) (ap (λ (n : ℕ). by_subtype octets n) k) (refl, named octets 3 6 refl k s)
      | inr (inr (inr (inr (inr k)))) ↦ as_said octets _ (action_at octets) (ap (λ (n : ℕ). by_subtype octets n) k.0) (refl, action_spelled octets k.0 k.1 (management_tests octets e m).1 s)
      | inr (inr (inr (inr (inl k)))) ↦ as_said octets _ (authentication_at octets) (ap (λ (n : ℕ). by_subtype octets n) k) (authentication_spelled octets (named octets 11 6 refl k s))
    ]

data_spelled : (octets : List ℕ) → air_fault octets ≡ None → is_data octets ≡ true → SpellsAir octets (data_at octets)
data_spelled octets e kind =
    elim (cases_Bool (is_protected octets)) [
      | inl covered ↦ as_said octets _ (protected_at octets) (cond-true _ _ _ covered) (refl, protected_sound octets e kind covered)
      | inr open_body ↦ as_said octets _ (eapol_at octets) (cond-false _ _ _ open_body) (refl, eapol_sound octets e kind open_body)
    ]

-- octets without a fault are what they say
pub air_at_spelled : (octets : List ℕ) → air_fault octets ≡ None → SpellsAir octets (air_at octets)
unfolding air_at by_subtype
air_at_spelled octets e =
    elim (cases_Bool (is_management octets)) [
      | inl m ↦ as_said octets _ (management_at octets) (cond-true _ _ _ m) (management_spelled octets e m)
      | inr no_management ↦ elim (cases_Bool (is_data octets)) [
        | inl kind ↦ as_said octets _ (data_at octets) (cond-false _ _ _ no_management ∙ cond-true _ _ _ kind) (data_spelled octets e kind)
        | inr no_data ↦ as_said octets _ ignored (cond-false _ _ _ no_management ∙ cond-false _ _ _ no_data)
            (inl (record { long = (long_from_none octets e).long; version = (long_from_none octets e).version; not_management = no_management; not_data = no_data }))
      ]
    ]

-- what a frame of the octets is
pub as_read : (octets : List ℕ) (f : AirFields) → air_fault octets ≡ None → f ≡ air_at octets → SpellsAir octets f
as_read octets f e same = as_said octets f (air_at octets) same (air_at_spelled octets e)

pub data_long : (octets : List ℕ) → air_fault octets ≡ None → is_data octets ≡ true → data_header_length octets + 8 ≤ length octets
data_long octets e kind =
    elim (cases_Bool (is_protected octets)) [
      | inl covered ↦ (let s = protected_sound octets e kind covered in omega (arith, s.frame.long))
      | inr open_body ↦ (let s = eapol_sound octets e kind open_body in omega (arith, s.frame.long))
    ]

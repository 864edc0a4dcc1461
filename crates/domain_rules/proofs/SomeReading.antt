-- All octets read as something.
use Rattle.std.proofs.Common.{◌≡◌, ℕ, ◌+◌, Bool, true, false, List, length, take, Option, Some, None, refl, subst, arith, inl, inr}
use Rattle.std.specs.Prelude.{nat_lt, ◌%◌}
use Rattle.std.specs.Int.{w16}
use Rattle.std.proofs.lemmas.Bool.{cases_eq}
use Rattle.domain_base.specs.declared.names.Akm.{Akm}
use Rattle.domain_base.specs.Places.{big_endian_at}
use Rattle.air_frame.specs.declared.frame.AirFault.{AirFault}
use Rattle.air_frame.specs.declared.frame.Direction.{Direction}
use Rattle.air_frame.specs.Fields.{AirFields, HeaderFields, assoc_req, assoc_resp, ft_req, ft_resp, re_req, re_resp, action, eapol, protected, ignored, air_at}
use Rattle.air_frame.specs.Spelled.{SpellsAir}
use Rattle.air_frame.specs.Faults.{air_fault}
use Rattle.air_frame.proofs.Exact.{as_read}
use Rattle.rsn_elements.specs.declared.framing.Within.TheVariants.{Body, KeyData}
use Rattle.rsn_elements.specs.Elements.{ElementFields}
use Rattle.eapol_key.specs.declared.frame.FrameFault.{FrameFault}
use Rattle.eapol_key.specs.declared.messages.Message.{Message}
use Rattle.eapol_key.specs.declared.messages.Asked.{Asked}
use Rattle.eapol_key.specs.declared.messages.Asked.TheVariants.{Set, Off, Any}
use Rattle.eapol_key.specs.declared.messages.Row.{Row}
use Rattle.eapol_key.specs.KeyFrame.{KeyFields, fields_at, SpellsKeyFrame, key_frame_fault}
use Rattle.eapol_key.specs.Messages.{descriptor_version, row_of, Meets, has_bit, BitsFit, IsMessage}
use Rattle.eapol_key.proofs.Faults.{sound_from_none}
use Rattle.run_journal.specs.declared.domain.Domain.{Domain}
use Rattle.run_journal.specs.declared.acts.Kind.TheVariants.{AssocReq, AssocResp, FtReq, FtResp, ReReq, ReResp}
use Rattle.domain_rules.specs.Facts.{ReadsKeyData}
use Rattle.domain_rules.specs.AccessPointKeys.{HasElements, IsRequested}
use Rattle.domain_rules.specs.Reading.{Management, Reading, NoFrame, PassedOver, NoElements, Managed, NoKeyFrame, NoMessage, Keyed, Sealed, Acting, IsManaged, Reads, passes_over, ReadsBy, ReadsAt}
use Rattle.domain_rules.proofs.Searching.{OrNot}
use Rattle.domain_rules.proofs.SomeElements.{ElementsTold, some_elements}
use Rattle.domain_rules.proofs.OneReading.{by_fields, message_is, one_reading}

-- ---- one message or none

meets : (asked : Asked) (b : Bool) → OrNot (Meets asked b)
meets Set true = inl refl
meets Set false = inr (λ is. cc is)
meets Off true = inr (λ is. cc is)
meets Off false = inl refl
meets Any true = inl tt
meets Any false = inl tt

bits_fit : (row : Row) (information : ℕ) → OrNot (BitsFit row information)
bits_fit row i =
    by (meets row.pairwise (has_bit i 3)) (meets row.install (has_bit i 6)) (meets row.ack (has_bit i 7)) (meets row.mic (has_bit i 8)) (meets row.secure (has_bit i 9)) (meets row.encrypted (has_bit i 12))
  where
    by : OrNot (Meets row.pairwise (has_bit i 3)) → OrNot (Meets row.install (has_bit i 6)) → OrNot (Meets row.ack (has_bit i 7)) → OrNot (Meets row.mic (has_bit i 8)) → OrNot (Meets row.secure (has_bit i 9)) → OrNot (Meets row.encrypted (has_bit i 12))
        → OrNot (BitsFit row i)
    by (inl a) (inl b) (inl c) (inl d) (inl e) (inl f) = inl (record { pairwise = a; install = b; ack = c; mic = d; secure = e; encrypted = f })
    by (inr other) b c d e f = inr (λ is. other is.pairwise)
    by (inl a) (inr other) c d e f = inr (λ is. other is.install)
    by (inl a) (inl b) (inr other) d e f = inr (λ is. other is.ack)
    by (inl a) (inl b) (inl c) (inr other) e f = inr (λ is. other is.mic)
    by (inl a) (inl b) (inl c) (inl d) (inr other) f = inr (λ is. other is.secure)
    by (inl a) (inl b) (inl c) (inl d) (inl e) (inr other) = inr (λ is. other is.encrypted)

is_or_not : (akm : Akm) (m : Message) (f : KeyFields) → OrNot (IsMessage akm m f)
is_or_not akm m f =
    by (cases_eq (f.information % 8) (descriptor_version akm)) (meets Off (has_bit f.information 10)) (meets Off (has_bit f.information 11)) (bits_fit (row_of m) f.information) (meets (row_of m).key_data (nat_lt 0 (length f.key_data)))
  where
    by : OrNot (f.information % 8 ≡ descriptor_version akm) → OrNot (Meets Off (has_bit f.information 10)) → OrNot (Meets Off (has_bit f.information 11)) → OrNot (BitsFit (row_of m) f.information)
        → OrNot (Meets (row_of m).key_data (nat_lt 0 (length f.key_data))) → OrNot (IsMessage akm m f)
    by (inl a) (inl b) (inl c) (inl d) (inl e) = inl (record { version = a; error = b; request = c; bits = d; key_data = e })
    by (inr other) b c d e = inr (λ is. other is.version)
    by (inl a) (inr other) c d e = inr (λ is. other is.error)
    by (inl a) (inl b) (inr other) d e = inr (λ is. other is.request)
    by (inl a) (inl b) (inl c) (inr other) e = inr (λ is. other is.bits)
    by (inl a) (inl b) (inl c) (inl d) (inr other) = inr (λ is. other is.key_data)

-- ---- one reading

abbrev SomeReading : Akm → List ℕ → Type 0
SomeReading akm octets = (r : Reading) × Reads akm octets r

module _ (akm : Akm) (octets : List ℕ) where
  managed : (b : Management) → IsManaged octets b → SomeReading akm octets
  managed b is = by (some_elements Body b.elements)
    where
      by : ElementsTold Body b.elements → SomeReading akm octets
      by (inl (e, says)) = (Managed b e, (is, says))
      by (inr (place, (kind, fault))) = (NoElements b (record { place = place; kind = kind }), (is, fault))

  message : (h : HeaderFields) (way : Direction) (tid : Option ℕ) (body : List ℕ) → SpellsAir octets (eapol h way tid body) → (f : KeyFields) (used : ℕ) → SpellsKeyFrame body f used → SomeReading akm octets
  message h way tid body spelled f used key = by (is_or_not akm (by_fields f) f)
    where
      by : OrNot (IsMessage akm (by_fields f) f) → SomeReading akm octets
      by (inl is) = (
        Keyed (record { header = h; direction = way; message = by_fields f; fields = f; octets = take used body }),
        record { body = body; frame = record { tid = tid; spelled = spelled }; used = used; spelled = key; is = is; octets_are = refl },
      )
      by (inr other) = (
        NoMessage h,
        record {
          way = way;
          body = body;
          frame = record { tid = tid; spelled = spelled };
          fields = f;
          used = used;
          spelled = key;
          none = λ m is. other (subst (λ (x : Message). IsMessage akm x f) (message_is akm m f is) is);
        },
      )

  keyed : (h : HeaderFields) (way : Direction) (tid : Option ℕ) (body : List ℕ) → SpellsAir octets (eapol h way tid body) → (o : Option FrameFault) → key_frame_fault body ≡ o → SomeReading akm octets
  keyed h way tid body spelled (Some fault) is = (NoKeyFrame h fault, record { way = way; body = body; frame = record { tid = tid; spelled = spelled }; is = is })
  keyed h way tid body spelled None none = message h way tid body spelled (fields_at used body) used frame
    where
      used : ℕ
      used = big_endian_at w16 2 body + 4

      frame : SpellsKeyFrame body (fields_at used body) used
      frame =
          let sound = sound_from_none body none in
          record {
            fields = refl;
            long = sound.body_high;
            version_low = sound.version_low;
            version_high = sound.version_high;
            packet_type = sound.packet_type;
            body_length = refl;
            descriptor = sound.descriptor;
            key_data_length = omega (arith, sound.key_data_length);
          }

  read : (f : AirFields) → SpellsAir octets f → SomeReading akm octets
  read (assoc_req h capability interval elements) spelled =
      managed (record { kind = AssocReq; header = h; status = 0; elements = elements }) (record { frame = assoc_req h capability interval elements; spelled = spelled; is = refl })
  read (assoc_resp h capability status aid elements) spelled =
      managed (record { kind = AssocResp; header = h; status = status; elements = elements }) (record { frame = assoc_resp h capability status aid elements; spelled = spelled; is = refl })
  read (ft_req h status elements) spelled =
      managed (record { kind = FtReq; header = h; status = 0; elements = elements }) (record { frame = ft_req h status elements; spelled = spelled; is = refl })
  read (ft_resp h status elements) spelled =
      managed (record { kind = FtResp; header = h; status = status; elements = elements }) (record { frame = ft_resp h status elements; spelled = spelled; is = refl })
  read (re_req h capability interval current elements) spelled =
      managed (record { kind = ReReq; header = h; status = 0; elements = elements }) (record { frame = re_req h capability interval current elements; spelled = spelled; is = refl })
  read (re_resp h capability status aid elements) spelled =
      managed (record { kind = ReResp; header = h; status = status; elements = elements }) (record { frame = re_resp h capability status aid elements; spelled = spelled; is = refl })
  read (action h body) spelled = (Acting h body, spelled)
  read (eapol h way tid body) spelled = keyed h way tid body spelled (key_frame_fault body) refl
  read (protected h way tid body) spelled = (Sealed h way tid body, spelled)
  read ignored spelled = (PassedOver, spelled)

  pub some_reading : SomeReading akm octets
  some_reading = by (air_fault octets) refl
    where
      by : (o : Option AirFault) → air_fault octets ≡ o → SomeReading akm octets
      by (Some fault) is = (NoFrame fault, is)
      by None none = read (air_at octets) (as_read octets (air_at octets) none refl)

-- so they do to each node of a network
some_reading_by : (b : Bool) (akm : Akm) (octets : List ℕ) → (r : Reading) × ReadsBy b akm octets r
some_reading_by true akm octets = (PassedOver, refl)
some_reading_by false akm octets = some_reading akm octets

pub some_reading_at : (d : Domain) (octets : List ℕ) → (r : Reading) × ReadsAt d octets r
some_reading_at d octets = some_reading_by (passes_over d octets) d.akm octets

-- ---- what a request and key data say

pub some_requested : (akm : Akm) (o : Option (List ℕ)) → (e : Option ElementFields) × IsRequested akm o e
some_requested akm None = (None, refl)
some_requested akm (Some octets) = by (some_reading akm octets).0 (some_reading akm octets).1
  where
    alike : (r : Reading) → Reads akm octets r → (e : ElementFields) (has : HasElements akm octets e) → r ≡ Managed has.0 e
    alike r reads e has = one_reading akm octets r (Managed has.0 e) reads has.1

    by : (r : Reading) → Reads akm octets r → (e : Option ElementFields) × IsRequested akm (Some octets) e
    by (Managed b e) reads = (Some e, (b, reads))
    by (NoFrame fault) reads = (None, λ e has. cc (alike (NoFrame fault) reads e has))
    by PassedOver reads = (None, λ e has. cc (alike PassedOver reads e has))
    by (NoElements b fault) reads = (None, λ e has. cc (alike (NoElements b fault) reads e has))
    by (NoKeyFrame h fault) reads = (None, λ e has. cc (alike (NoKeyFrame h fault) reads e has))
    by (NoMessage h) reads = (None, λ e has. cc (alike (NoMessage h) reads e has))
    by (Keyed k) reads = (None, λ e has. cc (alike (Keyed k) reads e has))
    by (Sealed h way tid body) reads = (None, λ e has. cc (alike (Sealed h way tid body) reads e has))
    by (Acting h body) reads = (None, λ e has. cc (alike (Acting h body) reads e has))

pub some_key_data : (octets : List ℕ) → (e : Option ElementFields) × ReadsKeyData octets e
some_key_data octets = by (some_elements KeyData octets)
  where
    by : ElementsTold KeyData octets → (e : Option ElementFields) × ReadsKeyData octets e
    by (inl (e, says)) = (Some e, says)
    by (inr (place, (kind, fault))) = (None, (record { place = place; kind = kind }, fault))

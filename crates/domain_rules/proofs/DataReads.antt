-- Protected data as it is sent is read as it was sent, and opens.
use Rattle.std.proofs.Common.{ℕ, ◌≡◌, ◌+◌, ◌^◌, ◌<◌, ◌≤◌, inl, inr, true, List, [], ◌∷◌, ◌++◌, length, get_or, Option, Some, None, refl, sym, subst, arith}
use Rattle.std.specs.Prelude.{IfSome}
use Rattle.std.specs.Int.{bit_at}
use Rattle.std.proofs.lemmas.List.{length-append}
use Rattle.std.proofs.lemmas.List.Elements.{All-append}
use Rattle.domain_base.specs.Octets.{AreOctets}
use Rattle.air_frame.specs.declared.frame.Direction.{Direction}
use Rattle.air_frame.specs.Fields.{protected}
use Rattle.air_frame.specs.Sent.{header_octets, data_flags, data_header_octets, protected_data_octets, sent_header, IsAddress}
use Rattle.air_frame.specs.Spelled.{SpellsAir}
use Rattle.air_frame.proofs.SentFrames.{protected_data_sent}
use Rattle.ccmp_guard.specs.Ccm.{encrypted, encrypted_authentication}
use Rattle.ccmp_guard.specs.Ccmp.{IsHeader, ccm_nonce, ccm_aad, ccmp_header, Protected}
use Rattle.ccmp_guard.proofs.Sealing.{length-authentication}
use Rattle.ccmp_guard.proofs.Bodies.{length-ccmp_header, Protected-made}
use Rattle.domain_rules.specs.DataFrames.{data_body}
use Rattle.domain_rules.specs.DataVerdict.{IsOpened}
use Rattle.domain_rules.proofs.DataOctets.{octets-data_header, octets-data_body}

length-header : (first second : ℕ) (a1 a2 a3 qos : List ℕ) → IsAddress a1 → IsAddress a2 → IsAddress a3 → length (header_octets first second a1 a2 a3 qos) ≡ 24 + length qos
length-header first second a1 a2 a3 qos l1 l2 l3 = omega (arith, l1, l2, l3, length-append a1 (a2 ++ (a3 ++ (0 ∷ 0 ∷ qos))), length-append a2 (a3 ++ (0 ∷ 0 ∷ qos)), length-append a3 (0 ∷ 0 ∷ qos))

is_header : (way : Direction) (tid : Option ℕ) (a1 a2 a3 : List ℕ) → IsAddress a1 → IsAddress a2 → IsAddress a3 → IsHeader (data_header_octets way true tid a1 a2 a3)
is_header way None a1 a2 a3 l1 l2 l3 = inl (length-header 0x08 (data_flags way true) a1 a2 a3 [] l1 l2 l3)
is_header way (Some t) a1 a2 a3 l1 l2 l3 = inr (length-header 0x88 (data_flags way true) a1 a2 a3 (t ∷ 0 ∷ []) l1 l2 l3)

-- a body that is sent has room for the CCMP header and the MIC, and ExtIV is set in it
long_body : (tk header : List ℕ) (id pn : ℕ) (plain : List ℕ) → 16 ≤ length (data_body tk header id pn plain)
long_body tk header id pn plain =
    let nonce : List ℕ = ccm_nonce header pn in
    let aad : List ℕ = ccm_aad header in
    omega (
      arith,
      length-append (ccmp_header id pn) (encrypted tk nonce plain ++ encrypted_authentication tk nonce aad plain),
      length-append (encrypted tk nonce plain) (encrypted_authentication tk nonce aad plain),
      length-ccmp_header id pn,
      length-authentication tk nonce aad plain,
    )

extended : (tk header : List ℕ) (id pn : ℕ) (plain : List ℕ) → bit_at (get_or (data_body tk header id pn plain) 3 0) 5 ≡ 1
unfolding ccmp_header
extended tk header id pn plain = omega arith

-- what a frame has to be made of
pub record IsMade (way : Direction) (tid : Option ℕ) (a1 a2 a3 tk : List ℕ) (id pn : ℕ) (plain : List ℕ) : Type 0 where
  pub tid_low : IfSome tid (λ t. t < 16)
  pub l1 : IsAddress a1
  pub l2 : IsAddress a2
  pub l3 : IsAddress a3
  pub o1 : AreOctets a1
  pub o2 : AreOctets a2
  pub o3 : AreOctets a3
  pub key : AreOctets tk
  pub id_low : id < 4
  pub low : pn < 2 ^ 48
  pub octets : AreOctets plain
  pub short : length plain < 2 ^ 16

abbrev pub body_of : Direction → Option ℕ → List ℕ → List ℕ → List ℕ → List ℕ → ℕ → ℕ → List ℕ → List ℕ
body_of way tid a1 a2 a3 tk id pn plain = data_body tk (data_header_octets way true tid a1 a2 a3) id pn plain

pub data_spelled : (way : Direction) (tid : Option ℕ) (a1 a2 a3 tk : List ℕ) (id pn : ℕ) (plain : List ℕ) → IsMade way tid a1 a2 a3 tk id pn plain
    → SpellsAir (protected_data_octets way tid a1 a2 a3 (body_of way tid a1 a2 a3 tk id pn plain)) (protected (sent_header (data_header_octets way true tid a1 a2 a3) a1 a2 a3) way tid (body_of way tid a1 a2 a3 tk id pn plain))
data_spelled way tid a1 a2 a3 tk id pn plain is =
    protected_data_sent way tid a1 a2 a3 (body_of way tid a1 a2 a3 tk id pn plain) is.tid_low is.l1 is.l2 is.l3 (long_body tk (data_header_octets way true tid a1 a2 a3) id pn plain) (extended tk (data_header_octets way true tid a1 a2 a3) id pn plain)

pub data_protected : (way : Direction) (tid : Option ℕ) (a1 a2 a3 tk : List ℕ) (id pn : ℕ) (plain : List ℕ) → IsMade way tid a1 a2 a3 tk id pn plain
    → Protected tk (data_header_octets way true tid a1 a2 a3) id pn plain (body_of way tid a1 a2 a3 tk id pn plain)
data_protected way tid a1 a2 a3 tk id pn plain is =
    let header : List ℕ = data_header_octets way true tid a1 a2 a3 in
    Protected-made tk header id pn plain (encrypted tk (ccm_nonce header pn) plain ++ encrypted_authentication tk (ccm_nonce header pn) (ccm_aad header) plain) (ccm_nonce header pn) (ccm_aad header)
    (is_header way tid a1 a2 a3 is.l1 is.l2 is.l3) is.low refl refl (record { octets = is.octets; short = is.short; sealed = refl })

-- the payload of what was sent
pub data_opens : (way : Direction) (tid : Option ℕ) (a1 a2 a3 tk : List ℕ) (id pn : ℕ) (plain : List ℕ) → IsMade way tid a1 a2 a3 tk id pn plain
    → IsOpened tk id (data_header_octets way true tid a1 a2 a3) (body_of way tid a1 a2 a3 tk id pn plain) (Some plain)
data_opens way tid a1 a2 a3 tk id pn plain is =
    let header : List ℕ = data_header_octets way true tid a1 a2 a3 in
    let body : List ℕ = body_of way tid a1 a2 a3 tk id pn plain in
    let of_header : AreOctets header = octets-data_header way tid a1 a2 a3 is.tid_low is.o1 is.o2 is.o3 in
    let p : Protected tk header id pn plain body = data_protected way tid a1 a2 a3 tk id pn plain is in
    (All-append (λ x. x < 256) header body of_header (octets-data_body tk header id pn plain is.id_low is.key of_header is.octets), subst (λ (x : ℕ). Protected tk header id x plain body) (sym p.number) p)

-- For all octets there is the plain text that they carry under a key, or there is none.
use Rattle.std.proofs.Common.{◌≡◌, ℕ, ◌-◌, ◌<◌, ◌≤◌, List, ◌++◌, length, drop, Option, Some, None, refl, ap, arith, inl, inr}
use Rattle.std.specs.Prelude.{◌%◌, ◌^◌}
use Rattle.std.proofs.lemmas.Bool.{cases_eq, cases_lt}
use Rattle.std.proofs.lemmas.List.{length-append}
use Rattle.domain_base.specs.Octets.{AreOctets}
use Rattle.key_wrap.specs.KeyWrap.{Wraps, last_registers}
use Rattle.key_wrap.proofs.UniqueLemmas.{length-Wraps}
use Rattle.ccmp_guard.specs.Ccm.{encrypted, encrypted_authentication}
use Rattle.ccmp_guard.specs.Ccmp.{IsHeader, ccm_nonce, ccm_aad, packet_number, key_id_in, ext_iv, Protected}
use Rattle.ccmp_guard.proofs.Sealing.{length-authentication, length-encrypted}
use Rattle.domain_rules.specs.Facts.{IsUnwrapped}
use Rattle.domain_rules.specs.DataVerdict.{IsOpened}
use Rattle.domain_rules.proofs.Searching.{OrNot, both, at_most, same_lists, are_octets, some_octets}

-- ---- key wrap

abbrev IsWrapped : List ℕ → List ℕ → List ℕ → Type 0
IsWrapped kek octets plain = (length plain % 8 ≡ 0) × ((16 ≤ length plain) × (octets ≡ (last_registers kek plain).check ++ (last_registers kek plain).blocks))

pub some_unwrapped : (kek octets : List ℕ) → (o : Option (List ℕ)) × IsUnwrapped kek octets o
some_unwrapped kek octets = by (are_octets kek)
  where
    told : (plain : List ℕ) → OrNot (IsWrapped kek octets plain)
    told plain = both (cases_eq (length plain % 8) 0) (both (at_most 16 (length plain)) (same_lists octets ((last_registers kek plain).check ++ (last_registers kek plain).blocks)))

    size : (plain : List ℕ) → AreOctets kek → Wraps kek plain octets → length plain ≡ length octets - 8
    size plain are wraps = omega (arith, (length-Wraps kek plain octets are wraps).0)

    tried : AreOctets kek → OrNot ((plain : List ℕ) × (AreOctets plain × ((length plain ≡ length octets - 8) × IsWrapped kek octets plain))) → (o : Option (List ℕ)) × IsUnwrapped kek octets o
    tried are (inl (plain, (octets_are, (long, (whole, (two, is)))))) = (Some plain, (are, record { whole_blocks = whole; two_blocks = two; are_octets = octets_are; wrapped = is }))
    tried are (inr none) = (None, λ plain too wraps. none (plain, (wraps.are_octets, (size plain are wraps, (wraps.whole_blocks, (wraps.two_blocks, wraps.wrapped))))))

    by : OrNot (AreOctets kek) → (o : Option (List ℕ)) × IsUnwrapped kek octets o
    by (inl are) = tried are (some_octets (length octets - 8) (IsWrapped kek octets) told)
    by (inr other) = (None, λ plain are wraps. other are)

-- ---- protected data

is_header : (header : List ℕ) → OrNot (IsHeader header)
is_header header = by (cases_eq (length header) 24) (cases_eq (length header) 26)
  where
    by : OrNot (length header ≡ 24) → OrNot (length header ≡ 26) → OrNot (IsHeader header)
    by (inl is) other = inl (inl is)
    by (inr short) (inl is) = inl (inr is)
    by (inr short) (inr long) = inr (λ is. elim is [ inl one ↦ short one | inr two ↦ long two ])

abbrev sealed_to : List ℕ → List ℕ → List ℕ → List ℕ → List ℕ
sealed_to tk header body plain =
    encrypted tk (ccm_nonce header (packet_number body)) plain ++ encrypted_authentication tk (ccm_nonce header (packet_number body)) (ccm_aad header) plain

abbrev IsProtected : List ℕ → ℕ → List ℕ → List ℕ → List ℕ → Type 0
IsProtected tk id header body plain = IsHeader header × ((key_id_in body ≡ id) × ((ext_iv body ≡ 1) × ((length plain < 2 ^ 16) × (drop 8 body ≡ sealed_to tk header body plain))))

pub some_opened : (tk : List ℕ) (id : ℕ) (header body : List ℕ) → (o : Option (List ℕ)) × IsOpened tk id header body o
some_opened tk id header body = by (are_octets (header ++ body))
  where
    told : (plain : List ℕ) → OrNot (IsProtected tk id header body plain)
    told plain = both (is_header header) (both (cases_eq (key_id_in body) id) (both (cases_eq (ext_iv body) 1) (both (below (length plain)) (same_lists (drop 8 body) (sealed_to tk header body plain)))))
      where
        below : (n : ℕ) → OrNot (n < 2 ^ 16)
        below n = elim (cases_lt n (2 ^ 16)) [ inl less ↦ inl less | inr most ↦ inr (λ less. omega arith) ]

    size : (plain : List ℕ) → Protected tk header id (packet_number body) plain body → length plain ≡ length (drop 8 body) - 8
    size plain p =
        let nonce : List ℕ = ccm_nonce header (packet_number body) in
        omega (arith, ap length p.sealed.sealed, length-append (encrypted tk nonce plain) (encrypted_authentication tk nonce (ccm_aad header) plain), length-encrypted tk nonce plain, length-authentication tk nonce (ccm_aad header) plain)

    tried : AreOctets (header ++ body) → OrNot ((plain : List ℕ) × (AreOctets plain × ((length plain ≡ length (drop 8 body) - 8) × IsProtected tk id header body plain))) → (o : Option (List ℕ)) × IsOpened tk id header body o
    tried are (inl (plain, (octets_are, (long, (head, (key_is, (extended_is, (short_is, is)))))))) =
        (Some plain, (are, record { mac_header = head; number = refl; key_id = key_is; extended = extended_is; sealed = record { octets = octets_are; short = short_is; sealed = is } }))
    tried are (inr none) = (None, λ plain too p. none (plain, (p.sealed.octets, (size plain p, (p.mac_header, (p.key_id, (p.extended, (p.sealed.short, p.sealed.sealed))))))))

    by : OrNot (AreOctets (header ++ body)) → (o : Option (List ℕ)) × IsOpened tk id header body o
    by (inl are) = tried are (some_octets (length (drop 8 body) - 8) (IsProtected tk id header body) told)
    by (inr other) = (None, λ plain are p. other are)

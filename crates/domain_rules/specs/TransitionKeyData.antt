-- The key data of M2 and M3 with suite 4 (IEEE Std 802.11-2020, 13.4.2, profile).
use Rattle.std.specs.Prelude.{ℕ, Bool, true, false, not, ◌&&◌, ◌==◌, List, [], Option, Some, None, option_and_then, unwrap_or, bytes_eq, if◌then◌else◌}
use Rattle.domain_base.specs.declared.names.Akm.TheVariants.{FtPsk}
use Rattle.domain_base.specs.declared.names.Node.{Node}
use Rattle.rsn_elements.specs.Rsne.{RsneFields}
use Rattle.rsn_elements.specs.Transition.{MdeFields, FteFields}
use Rattle.rsn_elements.specs.Elements.{ElementFields}
use Rattle.rsn_elements.specs.Sent.{fte_octets}
use Rattle.run_journal.specs.declared.domain.Domain.{Domain}
use Rattle.run_journal.specs.declared.acts.Kind.TheVariants as kind
use Rattle.run_journal.specs.declared.acts.KeyDataFault.TheVariants as key_data
use Rattle.run_journal.specs.declared.acts.Reason.TheVariants as reason
use Rattle.run_journal.specs.declared.acts.Outcome.{Outcome}
use Rattle.run_journal.specs.declared.acts.Outcome.TheVariants.{Accepted, Refused}
use Rattle.run_journal.specs.declared.acts.Act.{Act}
use Rattle.run_journal.specs.Questions.{since, heard}
use Rattle.domain_rules.specs.Facts.{is_same}
use Rattle.domain_rules.specs.Suites.{network_rsne_by}
use Rattle.domain_rules.specs.FastTransition.{assoc_fte, is_named}
use Rattle.domain_rules.specs.StationKeys.{group_keys_data}

-- both are there and equal, or neither is (profile)
abbrev pub is_equal : Option (List ℕ) → Option (List ℕ) → Bool
is_equal None None = true
is_equal a b = is_same a b

abbrev pub is_equal_number : Option ℕ → Option ℕ → Bool
is_equal_number None None = true
is_equal_number (Some a) (Some b) = a == b
is_equal_number _ _ = false

-- the same suites and capabilities; what is absent equals only what is absent
abbrev pub has_suites : RsneFields → RsneFields → Bool
has_suites r q =
    is_equal r.group q.group && is_equal r.pairwise q.pairwise && is_equal r.akms q.akms
    && is_equal_number r.capabilities q.capabilities && is_equal r.management q.management

abbrev pub has_same_suites : Option RsneFields → Option RsneFields → Bool
has_same_suites (Some r) (Some q) = has_suites r q
has_same_suites _ _ = false

-- the RSNE of an association request, where it has one
abbrev pub requested_suites : Option ElementFields → Option RsneFields
requested_suites None = None
requested_suites (Some e) = e.rsne

-- an MDE is of this mobility domain
abbrev pub is_domain : Domain → Option MdeFields → Bool
is_domain d None = false
is_domain d (Some m) = bytes_eq m.mdid d.mdid

-- the association response that was accepted from p since the last Opened with p
abbrev pub response : Node → List Act → Option (List ℕ)
response p h = heard p kind.AssocResp (since p h)

-- the whole FTE of an association response, where it has one
abbrev pub responded_fte : Option ElementFields → Option (List ℕ)
responded_fte None = None
responded_fte (Some e) = e.fte_octets

-- the R0KH-ID that it names
abbrev pub responded_r0kh_id : Option ElementFields → List ℕ
responded_r0kh_id None = []
responded_r0kh_id (Some e) = unwrap_or (option_and_then (λ (f : FteFields). f.r0kh_id) e.fte) []

-- the key data of M2: suites and capabilities as in the request and PMKR1Name, the mobility domain, and the FTE of the
-- response (13.4.2)
abbrev pub ft_m2_key_data : Domain → Node → List ℕ → Option ElementFields → Option ElementFields → Outcome
ft_m2_key_data d n name requested None = Refused (reason.KeyData key_data.Unreadable)
ft_m2_key_data d n name requested (Some e) =
    if not (has_same_suites e.rsne (requested_suites requested) && is_named name e) then Refused (reason.KeyData key_data.Rsne)
    else if not (is_domain d e.mde) then Refused (reason.KeyData key_data.Mde)
    else if is_same e.fte_octets (Some (fte_octets (assoc_fte d n))) then Accepted
    else Refused (reason.KeyData key_data.Fte)

-- the key data of M3: the RSNE as this network sends it with PMKR1Name, the mobility domain, the FTE of the response,
-- and the group keys (13.4.2)
abbrev pub ft_m3_key_data : Domain → List ℕ → Option ElementFields → Option ElementFields → Outcome
ft_m3_key_data d name responded None = Refused (reason.KeyData key_data.Unreadable)
ft_m3_key_data d name responded (Some e) =
    if not (is_same e.rsne_octets (Some (network_rsne_by FtPsk d (Some name)))) then Refused (reason.KeyData key_data.Rsne)
    else if not (is_domain d e.mde) then Refused (reason.KeyData key_data.Mde)
    else if not (is_same e.fte_octets (responded_fte responded)) then Refused (reason.KeyData key_data.Fte)
    else group_keys_data d e

-- M3 is refused where its key data has no plain text
abbrev pub ft_m3_wrapped : Domain → List ℕ → Option ElementFields → Option (List ℕ) → Option ElementFields → Outcome
ft_m3_wrapped d name responded None data_ = Refused reason.Wrap
ft_m3_wrapped d name responded (Some plain) data_ = ft_m3_key_data d name responded data_

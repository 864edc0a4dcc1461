-- Behind the header, and in a round, no line says that the script goes on otherwise.
use Rattle.std.proofs.Common.{◌≡◌, ◌&&◌, ℕ, Bool, true, false, if◌then◌else◌, List, length, Option, None, Some, Result, Ok, Err, subst}
use Rattle.std.specs.Prelude.{nat_le, nat_lt}
use Rattle.domain_base.specs.declared.names.Mac.{Mac}
use Rattle.run_journal.specs.Limits.{most_aps, most_stas, most_events, most_frames}
use Rattle.run_journal.specs.declared.domain.Domain.{Domain}
use Rattle.script_lines.specs.declared.header.Header.{Header}
use Rattle.script_words.specs.declared.forms.Form.{Form}
use Rattle.script_words.specs.declared.grammar.Position.{Position}
use Rattle.script_words.specs.declared.grammar.Position.TheVariants as positions
use Rattle.script_words.specs.declared.forms.Form.TheVariants as form
use Rattle.script_words.specs.Grammar.{row_of, line_of, stands, goes_with, in_version}
use Rattle.script_words.specs.Tokens.{split_word, is_text, first_word, packet_number}
use Rattle.frame_script.specs.Script.{stage_of, placed, inside, body_line, inner_line, is_passed_over, early_protection, is_border, is_mfp, line_says}
use Rattle.script_lines.specs.Script.{◌>>=◌, need, Fault, Draft, AtNodes, InRound, Said, Goes, arguments, is_used, is_used_id, address_of, new_ap, ap_line, new_sta, own_psk, bare_sta, keyed_sta, either_sta, is_second, sta_line, renewal_line, protection_line, event_of, event_line, part_line}

-- it is refused, or says something else
abbrev IsOther : Result Said Fault → Type 0
IsOther (Ok (Goes draft)) = ⊥
IsOther said = Unit {0}

either : (b : Bool) (x y : Result Said Fault) → IsOther x → IsOther y → IsOther (if b then x else y)
either true x y p q = p
either false x y p q = q

behind : {A : Type 0} (r : Result A Fault) (f : A → Result Said Fault) → ((a : A) → IsOther (f a)) → IsOther (r >>= f)
behind (Ok a) f p = p a
behind (Err fault) f p = tt

new_ap_other : (d : Domain) (address : Mac) (id : List ℕ) → IsOther (new_ap d address id)
unfolding new_ap
new_ap_other d address id =
    either (nat_le most_aps (length d.aps)) _ _ tt (either (is_used d address) _ _ tt (either (is_used_id d id) _ _ tt tt))

ap_line_other : (d : Domain) (text : List ℕ) → IsOther (ap_line d text)
unfolding ap_line
ap_line_other d text =
    behind (need arguments (split_word text)) _ (λ words. behind (address_of words.0) _ (λ address. either (is_text 48 33 words.1) _ _ (new_ap_other d address words.1) tt))

new_sta_other : (d : Domain) (address : Mac) (psk : List ℕ) → IsOther (new_sta d address psk)
unfolding new_sta
new_sta_other d address psk = either (nat_le most_stas (length d.stas)) _ _ tt (either (is_used d address) _ _ tt tt)

bare_sta_other : (h : Header) (text : List ℕ) → IsOther (bare_sta h text)
unfolding bare_sta
bare_sta_other h text = behind (address_of text) _ (λ address. new_sta_other h.network address h.psk)

keyed_sta_other : (h : Header) (word text : List ℕ) → IsOther (keyed_sta h word text)
unfolding keyed_sta
keyed_sta_other h word text = behind (address_of word) _ (λ address. behind (own_psk h.network.ssid text) _ (λ psk. new_sta_other h.network address psk))

either_sta_other : (h : Header) (text : List ℕ) (words : Option (List ℕ × List ℕ)) → IsOther (either_sta h text words)
either_sta_other h text None = bare_sta_other h text
either_sta_other h text (Some words) = keyed_sta_other h words.0 words.1

sta_line_other : (h : Header) (text : List ℕ) → IsOther (sta_line h text)
unfolding sta_line
sta_line_other h text = either (is_second h.network.extras.version) _ _ (either_sta_other h text (split_word text)) (bare_sta_other h text)

renewal_line_other : (d : Domain) (text : List ℕ) → IsOther (renewal_line d text)
unfolding renewal_line
renewal_line_other d text =
    either (goes_with (row_of form.RenewAt).suites d.akm && in_version (row_of form.RenewAt).versions (is_second d.extras.version) d.extras.mfp) _ _ (behind (need arguments (packet_number text)) _ (λ at. tt)) tt

protection_line_other : (d : Domain) → IsOther (protection_line d)
unfolding protection_line
protection_line_other d =
    either (goes_with (row_of form.Mfp).suites d.akm && in_version (row_of form.Mfp).versions (is_second d.extras.version) d.extras.mfp) _ _ tt tt

early_protection_other : (d : Domain) (rounds : ℕ) → IsOther (early_protection d rounds)
early_protection_other d rounds = either (stands positions.LastOptional (stage_of d rounds)) _ _ (protection_line_other d) tt

event_line_other : (d : Domain) (sizes : List ℕ) (line : Form) (text : List ℕ) → IsOther (event_line d sizes line text)
unfolding event_line
event_line_other d sizes line text = behind (event_of d false sizes line text) _ (λ event. either (nat_le (length sizes) most_frames) _ _ tt tt)

placed_other : (position : Position) (h : Header) (rounds : ℕ) (sizes : List ℕ) (line : Form) (text : List ℕ) → IsOther (placed position h rounds sizes line text)
placed_other positions.Optional h rounds sizes line text = either (stands positions.Optional (stage_of h.network rounds)) _ _ (renewal_line_other h.network text) tt
placed_other positions.LastOptional h rounds sizes line text = behind (early_protection h.network rounds) _ (λ said. tt)
placed_other positions.Aps h rounds sizes line text = either (stands positions.Aps (stage_of h.network rounds)) _ _ (ap_line_other h.network text) tt
placed_other positions.Stas h rounds sizes line text = either (stands positions.Stas (stage_of h.network rounds)) _ _ (sta_line_other h text) tt
placed_other positions.Opening h rounds sizes line text = tt
placed_other other h rounds sizes line text = event_line_other h.network sizes line text

body_line_other : (h : Header) (rounds : ℕ) (sizes word text : List ℕ) → IsOther (body_line h rounds sizes word text)
unfolding body_line
body_line_other h rounds sizes word text = placed_other (row_of (line_of word)).position h rounds sizes (line_of word) text

part_line_other : (d : Domain) (count : ℕ) (sizes : List ℕ) (line : Form) (text : List ℕ) → IsOther (part_line d count sizes line text)
unfolding part_line
part_line_other d count sizes line text = behind (event_of d true sizes line text) _ (λ event. either (nat_lt count most_events) _ _ tt tt)

inside_other : (position : Position) (d : Domain) (count : ℕ) (sizes : List ℕ) (line : Form) (text : List ℕ) → IsOther (inside position d count sizes line text)
inside_other positions.Closing d count sizes line text = tt
inside_other other d count sizes line text = part_line_other d count sizes line text

inner_line_other : (d : Domain) (count : ℕ) (sizes word text : List ℕ) → IsOther (inner_line d count sizes word text)
unfolding inner_line
inner_line_other d count sizes word text = inside_other (row_of (line_of word)).position d count sizes (line_of word) text

passed_over : (b : Bool) (draft : Draft) (r : Result Said Fault) (next : Draft) → IsOther r → (if b then Ok (Goes draft) else r) ≡ Ok (Goes next) → next ≡ draft
passed_over true draft r next other is = cc
passed_over false draft r next other is = absurd (subst IsOther is other)

pub same_network : (h : Header) (rounds : ℕ) (sizes line : List ℕ) (next : Draft) → line_says (AtNodes h) rounds sizes line ≡ Ok (Goes next) → next ≡ AtNodes h
unfolding line_says
same_network h rounds sizes line next is =
    passed_over (is_passed_over line) (AtNodes h) _ next
    (either (is_border (AtNodes h) line) _ _ (either (nat_le (length sizes) most_frames) _ _ tt tt)
    (either (is_mfp (AtNodes h) line) _ _ (early_protection_other h.network rounds) (body_line_other h rounds sizes (first_word line).0 (first_word line).1))) is

pub same_round : (h : Header) (count rounds : ℕ) (sizes line : List ℕ) (next : Draft) → line_says (InRound h count) rounds sizes line ≡ Ok (Goes next) → next ≡ InRound h count
unfolding line_says
same_round h count rounds sizes line next is =
    passed_over (is_passed_over line) (InRound h count) _ next
    (either (is_border (InRound h count) line) _ _ tt (inner_line_other h.network count sizes (first_word line).0 (first_word line).1)) is

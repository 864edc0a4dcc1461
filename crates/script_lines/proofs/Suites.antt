-- The line of the suite, by its exits.
use Rattle.std.proofs.Common.{◌≡◌, Bool, not, true, false, List, ℕ, bytes_eq, codes, Ok, Err, refl, sym, ap, ◌∙◌}
use Rattle.domain_base.specs.declared.names.Akm.TheVariants.{Psk, PskSha256, FtPsk}
use Rattle.script_lines.specs.declared.header.Header.{Header}
use Rattle.script_lines.specs.declared.header.HeaderLine.TheVariants as due
use Rattle.script_lines.proofs.Sized.{not_false, not_true}
use Rattle.script_lines.specs.Script.{word_, arguments, mode, AtHeader, after_suite, with_ssid, akm_of, seed_of, ssid_of, header_line}
use Rattle.script_words.specs.Tokens.{is_text}

pub no_suite : (h : Header) (word text : List ℕ) → bytes_eq word (codes "akm") ≡ false → header_line due.Akm h word text ≡ Err word_
unfolding header_line
no_suite h word text e = rw e refl

pub suite_psk : (h : Header) (word text : List ℕ) → bytes_eq word (codes "akm") ≡ true → bytes_eq text (codes "psk") ≡ true → header_line due.Akm h word text ≡ Ok (after_suite h Psk)
unfolding header_line akm_of
suite_psk h word text e f = rw (e, f) refl

pub suite_psk_sha256 : (h : Header) (word text : List ℕ) → bytes_eq word (codes "akm") ≡ true → bytes_eq text (codes "psk") ≡ false → bytes_eq text (codes "psk-sha256") ≡ true → header_line due.Akm h word text ≡ Ok (after_suite h PskSha256)
unfolding header_line akm_of
suite_psk_sha256 h word text e f g = rw (e, f, g) refl

pub suite_ft_psk : (h : Header) (word text : List ℕ) → bytes_eq word (codes "akm") ≡ true → bytes_eq text (codes "psk") ≡ false → bytes_eq text (codes "psk-sha256") ≡ false → bytes_eq text (codes "ft-psk") ≡ true → header_line due.Akm h word text ≡ Ok (after_suite h FtPsk)
unfolding header_line akm_of
suite_ft_psk h word text e f g i = rw (e, f, g, i) refl

pub other_suite : (h : Header) (word text : List ℕ) → bytes_eq word (codes "akm") ≡ true → bytes_eq text (codes "psk") ≡ false → bytes_eq text (codes "psk-sha256") ≡ false → bytes_eq text (codes "ft-psk") ≡ false → header_line due.Akm h word text ≡ Err arguments
unfolding header_line akm_of
other_suite h word text e f g i = rw (e, f, g, i) refl

-- The line of the seed.
pub no_seed : (h : Header) (word text : List ℕ) → bytes_eq word (codes "seed") ≡ false → header_line due.Seed h word text ≡ Err word_
unfolding header_line
no_seed h word text e = rw e refl

pub drawn_seed : (h : Header) (word text : List ℕ) → bytes_eq word (codes "seed") ≡ true → bytes_eq text (codes "draw") ≡ true → header_line due.Seed h word text ≡ Err mode
unfolding header_line seed_of
drawn_seed h word text e f = rw (e, f) refl

-- a test of a word for another, as the code makes it
pub not_word_false : (r : Bool) (word a b : List ℕ) → r ≡ not (bytes_eq word a) → a ≡ b → r ≡ false → bytes_eq word b ≡ true
not_word_false r word a b tests is e = ap (λ (x : List ℕ). bytes_eq word x) (sym is) ∙ not_false r (bytes_eq word a) tests e

pub not_word_true : (r : Bool) (word a b : List ℕ) → r ≡ not (bytes_eq word a) → a ≡ b → r ≡ true → bytes_eq word b ≡ false
not_word_true r word a b tests is e = ap (λ (x : List ℕ). bytes_eq word x) (sym is) ∙ not_true r (bytes_eq word a) tests e

-- The line of the SSID, and of the mobility domain.
pub no_ssid : (h : Header) (word text : List ℕ) → bytes_eq word (codes "ssid") ≡ false → header_line due.Ssid h word text ≡ Err word_
unfolding header_line
no_ssid h word text e = rw e refl

pub ssid_said : (h : Header) (word text : List ℕ) → bytes_eq word (codes "ssid") ≡ true → is_text 32 32 text ≡ true → header_line due.Ssid h word text ≡ Ok (AtHeader due.Psk (with_ssid h text))
unfolding header_line ssid_of
ssid_said h word text e f = rw (e, f) refl

pub wrong_ssid : (h : Header) (word text : List ℕ) → bytes_eq word (codes "ssid") ≡ true → is_text 32 32 text ≡ false → header_line due.Ssid h word text ≡ Err arguments
unfolding header_line ssid_of
wrong_ssid h word text e f = rw (e, f) refl

pub no_mdid : (h : Header) (word text : List ℕ) → bytes_eq word (codes "mdid") ≡ false → header_line due.Mdid h word text ≡ Err word_
unfolding header_line
no_mdid h word text e = rw e refl

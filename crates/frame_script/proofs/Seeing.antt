-- The sizes of the frames in the first entries of a journal.
use Rattle.std.proofs.Common.{◌≡◌, ℕ, ◌+◌, ◌<◌, ◌≤◌, List, ◌∷◌, ◌++◌, length, take, drop, get_or, reverse, refl, ap, sym, ◌∙◌, add-one, arith, length-append, length-take}
use Rattle.std.proofs.Math.Seq.{take-suc, take-append_seam}
use Rattle.std.proofs.lemmas.List.{reverse-append, reverse-reverse, length-reverse, take-append-drop, take_all}
use Rattle.run_journal.specs.declared.acts.Entry.{Entry}
use Rattle.frame_script.specs.Headers.{HasSeen, HasSeenAll, size_sent, sizes_of}
use Rattle.frame_script.specs.Sentences.{seeing}

-- of the entries in their order, the first i were seen
pub record Fronts (entries : List Entry) (i seen : ℕ) (sizes : List ℕ) : Type 0 where
  pub place : seen ≡ i
  pub within : i ≤ length entries
  pub front : sizes ≡ sizes_of (reverse (take i entries))

-- at first
pub Fronts-start : (j entries : List Entry) (seen : ℕ) (sizes : List ℕ) → entries ≡ reverse j → HasSeen (seeing seen sizes) j → Fronts entries seen seen sizes
Fronts-start j entries seen sizes is h =
    let parts : entries ≡ reverse h.earlier ++ reverse h.later = is ∙ ap (λ (xs : List Entry). reverse xs) h.is ∙ reverse-append h.later h.earlier in
    let size : length (reverse h.earlier) ≡ seen = length-reverse h.earlier ∙ sym h.seen in
    let front : take seen entries ≡ reverse h.earlier = rw (parts, ← size) (take-append_seam (reverse h.earlier) (reverse h.later)) in
    record {
      place = refl;
      within = omega (arith, ap (λ (xs : List Entry). length xs) parts, length-append (reverse h.earlier) (reverse h.later), size);
      front = h.sizes ∙ ap sizes_of (sym (reverse-reverse h.earlier) ∙ ap (λ (xs : List Entry). reverse xs) (sym front));
    }

-- the sizes with one entry more
sizes-step : (es : List Entry) (i : ℕ) (e : Entry) → i < length es → e ≡ get_or es i e → sizes_of (reverse (take (i + 1) es)) ≡ sizes_of (reverse (take i es)) ++ size_sent e.act
unfolding sizes_of
sizes-step es i e h is =
    let newest : reverse (take (i + 1) es) ≡ e ∷ reverse (take i es) = rw (add-one, take-suc es i e h, reverse-append) (rw (← is) refl) in
    ap sizes_of newest

-- one entry more
pub Fronts-step : (entries : List Entry) (i seen : ℕ) (e : Entry) (sizes more : List ℕ) → i < length entries → e ≡ get_or entries i e → Fronts entries i seen sizes → more ≡ sizes ++ size_sent e.act → Fronts entries (i + 1) (i + 1) more
Fronts-step entries i seen e sizes more inside is f grown = record {
  place = refl;
  within = omega (arith, inside);
  front = grown ∙ ap (λ (xs : List ℕ). xs ++ size_sent e.act) f.front ∙ sym (sizes-step entries i e inside is);
}

-- so much was seen
pub Fronts-seen : (j entries : List Entry) (i seen : ℕ) (sizes : List ℕ) → entries ≡ reverse j → Fronts entries i seen sizes → HasSeen (seeing seen sizes) j
Fronts-seen j entries i seen sizes is f =
    let whole : j ≡ reverse entries = sym (reverse-reverse j) ∙ ap (λ (xs : List Entry). reverse xs) (sym is) in
    let parts = ap (λ (xs : List Entry). reverse xs) (sym (take-append-drop i entries)) ∙ reverse-append (take i entries) (drop i entries) in
    record {
      later = reverse (drop i entries);
      earlier = reverse (take i entries);
      is = whole ∙ parts;
      seen = f.place ∙ sym (omega (arith, length-reverse (take i entries), length-take i entries, f.within));
      sizes = f.front;
    }

-- and in the end all
pub Fronts-all : (j entries : List Entry) (i seen : ℕ) (sizes : List ℕ) → entries ≡ reverse j → i ≡ length entries → Fronts entries i seen sizes → HasSeenAll (seeing seen sizes) j
Fronts-all j entries i seen sizes is end f =
    let whole : j ≡ reverse entries = sym (reverse-reverse j) ∙ ap (λ (xs : List Entry). reverse xs) (sym is) in
    let all : take i entries ≡ entries = take_all i entries (omega (arith, end)) in
    record {
      seen = omega (arith, f.place, end, ap (λ (xs : List Entry). length xs) is, length-reverse j);
      sizes = f.front ∙ ap (λ (xs : List Entry). sizes_of (reverse xs)) all ∙ ap sizes_of (sym whole);
    }

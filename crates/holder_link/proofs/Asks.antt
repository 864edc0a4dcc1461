-- An Ask by the offsets of its fields.
use Rattle.std.proofs.Common.{◌&&◌, leb, ◌≡◌, ℕ, ◌+◌, ◌-◌, ◌<◌, ◌≤◌, List, ◌∷◌, ◌++◌, length, take, drop, replicate, get_or, Some, None, refl, sym, ap, ◌∙◌, arith, inl, inr, lit<, lit≤, append_assoc}
use Rattle.std.proofs.lemmas.Bool.{cases_Bool, and_parts, and_from, leb-true, le-leb}
use Rattle.std.proofs.lemmas.List.{length-append, length-take, length-drop, take_all, take-append-drop, drop-drop, drop_more, get_or-append_right}
use Rattle.std.proofs.Math.Seq.{take-append_seam}
use Rattle.std.proofs.lemmas.List.Elements.{All-replicate}
use Rattle.key_wrap.proofs.UniqueLemmas.{append-parts}
use Rattle.domain_base.specs.Octets.{AreOctets}
use Rattle.domain_base.specs.Places.{part}
use Rattle.holder_link.specs.declared.datagrams.Datagram.TheVariants.{Ask}
use Rattle.link_steps.specs.declared.questions.Question.{Question}
use Rattle.holder_link.specs.Beginnings.{NotOne}
use Rattle.holder_link.specs.Datagrams.{IsQuestion, ask_front, SpellsAsk, IsAsk}
use Rattle.holder_link.specs.Forms.{size_by, form_fault}
use Rattle.holder_link.proofs.Shapes.{HasForm, then_is, else_is, same_some, not_form, not_one}

-- a part of octets, and what stands behind it
pub next_part : (at n m : ℕ) (octets : List ℕ) → m ≡ at + n → drop at octets ≡ part at n octets ++ drop m octets
next_part at n m octets e =
    sym (take-append-drop n (drop at octets))
    ∙ ap (λ (w : List ℕ). part at n octets ++ w) (drop-drop n at octets ∙ ap (λ (k : ℕ). drop k octets) (sym e))

pub length-part : (at n : ℕ) (octets : List ℕ) → at + n ≤ length octets → length (part at n octets) ≡ n
length-part at n octets h = omega (arith, length-take n (drop at octets), length-drop at octets)

pub last_part : (at n : ℕ) (octets : List ℕ) → length octets ≡ at + n → drop at octets ≡ part at n octets
last_part at n octets e = sym (take_all n (drop at octets) (omega (arith, length-drop at octets, e)))

pub front_of : (octets front rest : List ℕ) (n : ℕ) → octets ≡ front ++ rest → length front ≡ n → take n octets ≡ front
front_of octets front rest n e len = rw (e, ← len) (take-append_seam front rest)

joined : (octets r1 nonce r2 r3 id r4 name r5 r1kh r6 sta code : List ℕ) (a n k : ℕ) → a ≡ 1 → n ≡ k → octets ≡ a ∷ r1 → r1 ≡ nonce ++ r2 → r2 ≡ n ∷ r3 → r3 ≡ id ++ r4 → r4 ≡ name ++ r5 → r5 ≡ r1kh ++ r6 → r6 ≡ sta ++ code
    → octets ≡ (1 ∷ nonce ++ (k ∷ id) ++ name ++ r1kh ++ sta) ++ code
joined octets r1 nonce r2 r3 id r4 name r5 r1kh r6 sta code a n k one size d0 d1 d2 d3 d4 d5 d6 = rw (d0, one, d1, d2, size, d3, d4, d5, d6) (simp append_assoc)

-- the question at its places, where `end` is that behind the R0KH-ID
abbrev pub question_at : ℕ → List ℕ → Question
question_at end octets = record {
  r0kh_id = take (end - 18) (drop 18 octets);
  name = part end 16 octets;
  r1kh = record { 0 = part (end + 16) 6 octets };
  sta = record { 0 = part (end + 22) 6 octets };
}

module _ (octets : List ℕ) (end : ℕ) (tagged : get_or octets 0 0 ≡ 1) (size : get_or octets 17 0 + 18 ≡ end) (low : 19 ≤ end) (high : end ≤ 66) (whole : length octets ≡ end + 44) where
  id_len : length (take (end - 18) (drop 18 octets)) ≡ end - 18
  id_len = length-part 18 (end - 18) octets (omega (arith, whole, low))

  is_question : IsQuestion (question_at end octets)
  is_question = record {
    least = omega (arith, id_len, low);
    most = omega (arith, id_len, high);
    name = length-part end 16 octets (omega (arith, whole));
    r1kh = length-part (end + 16) 6 octets (omega (arith, whole));
    sta = length-part (end + 22) 6 octets (omega (arith, whole));
  }

  pub ask_cut : octets ≡ ask_front (part 1 16 octets) (question_at end octets) ++ part (end + 28) 16 octets
  ask_cut = joined octets (drop 1 octets) (part 1 16 octets) (drop 17 octets) (drop 18 octets) (take (end - 18) (drop 18 octets)) (drop end octets) (part end 16 octets) (drop (end + 16) octets) (part (end + 16) 6 octets) (drop (end + 22) octets) (part (end + 22) 6 octets) (part (end + 28) 16 octets)
      (get_or octets 0 0) (get_or octets 17 0) _
      tagged
      (omega (arith, id_len, size, low))
      (drop_more octets 0 0 (omega (arith, whole)))
      (next_part 1 16 17 octets refl)
      (drop_more octets 17 0 (omega (arith, whole)))
      (next_part 18 (end - 18) end octets (omega (arith, low)))
      (next_part end 16 (end + 16) octets refl)
      (next_part (end + 16) 6 (end + 22) octets (omega arith))
      (next_part (end + 22) 6 (end + 28) octets (omega arith) ∙ ap (λ (w : List ℕ). part (end + 22) 6 octets ++ w) (last_part (end + 28) 16 octets (omega (arith, whole))))

  pub ask_spelled : SpellsAsk octets (part 1 16 octets) (question_at end octets) (part (end + 28) 16 octets)
  ask_spelled = record {
    whole = ask_cut;
    nonce_len = length-part 1 16 octets (omega (arith, whole));
    question = is_question;
    code_len = length-part (end + 28) 16 octets (omega (arith, whole));
  }

  pub ask_covered : take (end + 28) octets ≡ ask_front (part 1 16 octets) (question_at end octets)
  ask_covered = front_of octets (ask_front (part 1 16 octets) (question_at end octets)) (part (end + 28) 16 octets) (end + 28) ask_cut (omega (arith, ap (λ (w : List ℕ). length w) ask_cut, length-append (ask_front (part 1 16 octets) (question_at end octets)) (part (end + 28) 16 octets), length-part (end + 28) 16 octets (omega (arith, whole)), whole))

-- the fields one after the other
flat : (nonce : List ℕ) (q : Question) (code : List ℕ) → ask_front nonce q ++ code ≡ 1 ∷ (nonce ++ (length q.r0kh_id ∷ (q.r0kh_id ++ (q.name ++ (q.r1kh.0 ++ (q.sta.0 ++ code))))))
flat nonce q code = simp append_assoc

question : List ℕ → List ℕ → List ℕ → List ℕ → Question
question id name r1kh sta = record { r0kh_id = id; name = name; r1kh = record { 0 = r1kh }; sta = record { 0 = sta } }

made : (a b c d e f g h : List ℕ) → a ≡ b → c ≡ d → e ≡ f → g ≡ h → question a c e g ≡ question b d f h
made a b c d e f g h i j k l = rw (i, j, k, l) refl

same_question : (p q : Question) → p.r0kh_id ≡ q.r0kh_id → p.name ≡ q.name → p.r1kh.0 ≡ q.r1kh.0 → p.sta.0 ≡ q.sta.0 → p ≡ q
unfolding question
same_question p q a b c d = made p.r0kh_id q.r0kh_id p.name q.name p.r1kh.0 q.r1kh.0 p.sta.0 q.sta.0 a b c d

-- octets are one Ask at most
pub same_ask : (octets nonce other : List ℕ) (p q : Question) (code more : List ℕ) → SpellsAsk octets nonce p code → SpellsAsk octets other q more → (nonce ≡ other) × (p ≡ q) × (code ≡ more)
same_ask octets nonce other p q code more s t =
    let e = sym (flat nonce p code) ∙ sym s.whole ∙ t.whole ∙ flat other q more in
    let a = append-parts nonce _ other _ (s.nonce_len ∙ sym t.nonce_len) (ap (λ (w : List ℕ). drop 1 w) e) in
    let size = ap (λ (w : List ℕ). get_or w 0 0) a.1 in
    let b = append-parts p.r0kh_id _ q.r0kh_id _ size (ap (λ (w : List ℕ). drop 1 w) a.1) in
    let c = append-parts p.name _ q.name _ (s.question.name ∙ sym t.question.name) b.1 in
    let d = append-parts p.r1kh.0 _ q.r1kh.0 _ (s.question.r1kh ∙ sym t.question.r1kh) c.1 in
    let f = append-parts p.sta.0 _ q.sta.0 _ (s.question.sta ∙ sym t.question.sta) d.1 in
    (a.0, same_question p q b.0 c.0 d.0 f.0, f.1)

-- the size of an Ask
ask_size : (n : ℕ) → 1 ≤ n → n ≤ 48 → size_by Ask n ≡ Some (62 + n)
ask_size n low high = rw (and_from _ _ (le-leb 1 n low) (le-leb n 48 high)) refl

ask_sizes : (n size : ℕ) → size_by Ask n ≡ Some size → (1 ≤ n) × (n ≤ 48) × (size ≡ 62 + n)
ask_sizes n size e = elim (cases_Bool (leb 1 n && leb n 48)) [
  | inl fits ↦
      let both = and_parts _ _ fits in
      (leb-true _ _ both.0, leb-true _ _ both.1, sym (same_some (then_is _ (Some (62 + n)) None (Some size) fits e)))
  | inr wrong ↦ absurd (let f = else_is _ (Some (62 + n)) None (Some size) wrong e in cc)
]

least_ask : (n size : ℕ) → size_by Ask n ≡ Some size → 18 ≤ size
least_ask n size e = let s = ask_sizes n size e in omega (arith, s.2)

pub ask_form : (octets nonce : List ℕ) (q : Question) (code : List ℕ) → SpellsAsk octets nonce q code → HasForm Ask octets
ask_form octets nonce q code s = record {
  long = omega (arith, whole);
  tagged = ap (λ (w : List ℕ). get_or w 0 0) cut;
  sized = ap (λ (n : ℕ). size_by Ask n) octet_17 ∙ ask_size (length q.r0kh_id) s.question.least s.question.most ∙ ap (λ (n : ℕ). Some n) (sym whole);
} where
  cut : octets ≡ 1 ∷ (nonce ++ (length q.r0kh_id ∷ (q.r0kh_id ++ (q.name ++ (q.r1kh.0 ++ (q.sta.0 ++ code))))))
  cut = s.whole ∙ flat nonce q code

  octet_17 : get_or octets 17 0 ≡ length q.r0kh_id
  octet_17 = ap (λ (w : List ℕ). get_or w 17 0) cut ∙ get_or-append_right nonce (length q.r0kh_id ∷ (q.r0kh_id ++ (q.name ++ (q.r1kh.0 ++ (q.sta.0 ++ code))))) 16 16 0 s.nonce_len (lit≤ tt)

  whole : length octets ≡ 62 + length q.r0kh_id
  whole = omega (
    arith,
    ap (λ (w : List ℕ). length w) cut,
    length-append nonce (length q.r0kh_id ∷ (q.r0kh_id ++ (q.name ++ (q.r1kh.0 ++ (q.sta.0 ++ code))))),
    length-append q.r0kh_id (q.name ++ (q.r1kh.0 ++ (q.sta.0 ++ code))),
    length-append q.name (q.r1kh.0 ++ (q.sta.0 ++ code)),
    length-append q.r1kh.0 (q.sta.0 ++ code),
    length-append q.sta.0 code,
    s.nonce_len,
    s.question.name,
    s.question.r1kh,
    s.question.sta,
    s.code_len,
  )

-- where `end` is
pub record AskEnd (octets : List ℕ) (end : ℕ) : Type 0 where
  pub tagged : get_or octets 0 0 ≡ 1
  pub size : get_or octets 17 0 + 18 ≡ end
  pub low : 19 ≤ end
  pub high : end ≤ 66
  pub whole : length octets ≡ end + 44

pub end_of : (octets : List ℕ) (end : ℕ) → get_or octets 17 0 + 18 ≡ end → HasForm Ask octets → AskEnd octets end
end_of octets end e form =
    let s = ask_sizes (get_or octets 17 0) (length octets) form.sized in
    record {
      tagged = form.tagged;
      size = e;
      low = omega (arith, e, s.0);
      high = omega (arith, e, s.1);
      whole = omega (arith, e, s.2);
    }

form_ask : (octets : List ℕ) → HasForm Ask octets → IsAsk octets
form_ask octets form =
    let at = end_of octets (get_or octets 17 0 + 18) refl form in
    (_, _, _, ask_spelled octets (get_or octets 17 0 + 18) at.tagged at.size at.low at.high at.whole)

model : List ℕ
model = replicate 63 1

model_form : HasForm Ask model
unfolding model
model_form = record { long = lit≤ tt; tagged = refl; sized = refl }

model_octets : AreOctets model
unfolding model
model_octets = All-replicate (λ (x : ℕ). x < 256) 63 1 (lit< tt)

-- octets that are no Ask
pub no_ask : (octets : List ℕ) (place : ℕ) → form_fault Ask octets ≡ Some place → NotOne IsAsk octets place
no_ask octets place e =
    not_one (HasForm Ask) IsAsk (λ o. form_ask o) (λ o s. ask_form o s.0 s.1 s.2 s.3) octets place
    (not_form Ask least_ask model model_form model_octets octets place e)

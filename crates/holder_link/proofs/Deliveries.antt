-- A question that is asked, told and learnt, with nothing lost.
use Rattle.std.proofs.Common.{◌≡◌, ℕ, zero, suc, ◌<◌, Bool, true, cond, List, [], ◌∷◌, ◌++◌, length, Some, None, refl, ap, ◌∙◌, arith, mod-lt, inl, inr, lit<}
use Rattle.std.proofs.lemmas.List.Elements.{All-nil, All-cons, All-append, All-take}
use Rattle.std.proofs.lemmas.Slice.Eq.{bytes_eq-Decides}
use Rattle.std.specs.Int.{byte_at, bytes_high_first}
use Rattle.std.specs.List.{flat_map}
use Rattle.sha2.specs.Sha256.{sha256, digest_bytes}
use Rattle.aes_block.proofs.CipherLemmas.{length-cipher}
use Rattle.domain_base.specs.Octets.{AreOctets}
use Rattle.domain_base.specs.declared.names.Mac.{Mac}
use Rattle.mac_prf.specs.Cmac.{cmac}
use Rattle.mac_prf.specs.Hmac.{hmac}
use Rattle.mac_prf.specs.Prf.{kdf, kdf_block}
use Rattle.key_wrap.specs.KeyWrap.{Wraps, last_registers}
use Rattle.key_wrap.proofs.UniqueLemmas.{length-Wraps}
use Rattle.key_hierarchy.specs.FastTransition.{pmk_r1_name}
use Rattle.key_hierarchy.specs.declared.answers.PullAnswer.TheVariants as pulled
use Rattle.key_hierarchy.specs.declared.answers.PutAnswer.TheVariants.{Held}
use Rattle.key_hierarchy.proofs.Lengths.{length-kdf}
use Rattle.key_holders.specs.Keys.{row_r1}
use Rattle.key_holders.specs.Pulls.{Matches}
use Rattle.key_holders.specs.declared.rows.HolderRow.{HolderRow}
use Rattle.link_steps.specs.declared.questions.Question.{Question}
use Rattle.link_steps.specs.declared.steps.LinkAnswer.TheVariants.{Asked, Put, Learnt, Told}
use Rattle.link_steps.specs.declared.steps.LinkEvent.TheVariants.{Ask, Row, ToAsker, ToHolder}
use Rattle.link_steps.specs.declared.steps.Step.{Step}
use Rattle.holder_link.specs.declared.fields.Said.{Said}
use Rattle.holder_link.specs.declared.fields.Said.TheVariants.{Found}
use Rattle.holder_link.specs.declared.open_questions.OpenQuestion.{OpenQuestion}
use Rattle.holder_link.specs.Acts.{Asks, Puts, Takes, Answers}
use Rattle.holder_link.specs.Asker.{as_open}
use Rattle.holder_link.specs.Datagrams.{IsQuestion, ask_front, answer_front, SpellsAsk, SpellsAnswer}
use Rattle.holder_link.specs.Delivered.{without_rows, IsDelivered}
use Rattle.holder_link.specs.History.{IsRun}
use Rattle.holder_link.specs.Learning.{NoncesDiffer, Unforged}

-- the octets of KDF
byte_below : (k n : ℕ) → byte_at k n < 256
byte_below zero n = mod-lt n (omega arith)
byte_below (suc k) n = mod-lt _ (omega arith)

octets-bytes : (k n : ℕ) → AreOctets (bytes_high_first k n)
octets-bytes zero n = All-nil (λ x. x < 256)
octets-bytes (suc k) n = All-cons (λ x. x < 256) (byte_at k n) (bytes_high_first k n) (byte_below k n) (octets-bytes k n)

octets-digest : (h : List ℕ) (n : ℕ) → AreOctets (digest_bytes h n)
unfolding digest_bytes
octets-digest h zero = All-nil (λ x. x < 256)
octets-digest h (suc n) = All-append (λ x. x < 256) (digest_bytes h n) _ (octets-digest h n) (octets-bytes 4 _)

octets-hmac : (key text : List ℕ) → AreOctets (hmac sha256 key text)
unfolding hmac sha256
octets-hmac key text = octets-digest _ 8

octets-joined : (f : ℕ → List ℕ) → ((i : ℕ) → AreOctets (f i)) → (is : List ℕ) → AreOctets (flat_map f is)
octets-joined f all [] = All-nil (λ x. x < 256)
octets-joined f all (i ∷ is) = All-append (λ x. x < 256) (f i) (flat_map f is) (all i) (octets-joined f all is)

octets-kdf : (key label context : List ℕ) (n : ℕ) → AreOctets (kdf key label context n)
unfolding kdf
octets-kdf key label context n = All-take (λ x. x < 256) n _ (octets-joined (kdf_block key label context _) (λ i. octets-hmac _ _) _)

-- the PMK-R1 of a row has 32 octets, and its PMKR1Name is that of the row's PMKR0Name
length-r1 : (row : HolderRow) (r1kh : Mac) → length (row_r1 row r1kh).key ≡ 32
unfolding row_r1
length-r1 row r1kh = length-kdf _ _ _ 32

octets-r1 : (row : HolderRow) (r1kh : Mac) → AreOctets (row_r1 row r1kh).key
unfolding row_r1
octets-r1 row r1kh = octets-kdf _ _ _ 32

name-r1 : (row : HolderRow) (r1kh sta : Mac) (name : List ℕ) → Matches name sta row → (row_r1 row r1kh).name ≡ pmk_r1_name name r1kh sta
unfolding row_r1
name-r1 row r1kh sta name m = ap (λ (n : List ℕ). pmk_r1_name n r1kh row.sta) m.0 ∙ ap (λ (s : Mac). pmk_r1_name name r1kh s) m.1

-- what wraps 32 octets
abbrev wrapped_to : List ℕ → List ℕ → List ℕ
wrapped_to kek key = (last_registers kek key).check ++ (last_registers kek key).blocks

wraps : (kek key : List ℕ) → length key ≡ 32 → AreOctets key → Wraps kek key (wrapped_to kek key)
wraps kek key len are = record { whole_blocks = omega (arith, len); two_blocks = omega (arith, len); are_octets = are; wrapped = refl }

length-cmac : (key text : List ℕ) → length (cmac key text) ≡ 16
unfolding cmac
length-cmac key text = length-cipher _ _

-- the one question that is open
found_here : (b : Bool) (o : OpenQuestion) → b ≡ true → cond b (Some o) None ≡ Some o
found_here b o e = rw e refl

-- the two datagrams, each with its CMAC
abbrev ask_of : List ℕ → List ℕ → Question → List ℕ
ask_of kck nonce q = ask_front nonce q ++ cmac kck (ask_front nonce q)

abbrev answer_of : List ℕ → List ℕ → Said → List ℕ
answer_of kck nonce said = answer_front nonce said ++ cmac kck (answer_front nonce said)

-- the question is asked, the row put, the question told, its answer learnt
abbrev asks : List ℕ → List ℕ → Question → List Step
asks kck nonce q = record { event = Ask q nonce; sent = ask_of kck nonce q; answer = Asked 0 } ∷ []

abbrev puts : List ℕ → List ℕ → Question → HolderRow → List Step
puts kck nonce q row = record { event = Row row; sent = []; answer = Put Held } ∷ asks kck nonce q

abbrev tells : List ℕ → List ℕ → Question → HolderRow → Said → List Step
tells kck nonce q row said =
    record { event = ToHolder (ask_of kck nonce q); sent = answer_of kck nonce said; answer = Told (pulled.Found (row_r1 row q.r1kh)) }
    ∷ puts kck nonce q row

abbrev learns : List ℕ → List ℕ → Question → HolderRow → Said → List Step
learns kck nonce q row said =
    record { event = ToAsker (answer_of kck nonce said); sent = []; answer = Learnt 0 (pulled.Found (row_r1 row q.r1kh)) }
    ∷ tells kck nonce q row said

module _ (kck kek nonce : List ℕ) (q : Question) (row : HolderRow) (few : AreOctets kek) (len : length nonce ≡ 16) (is : IsQuestion q) (m : Matches q.name q.sta row) where
  ask_spelled : SpellsAsk (ask_of kck nonce q) nonce q (cmac kck (ask_front nonce q))
  ask_spelled = record { whole = refl; nonce_len = len; question = is; code_len = length-cmac _ _ }

  is_wrapped : Wraps kek (row_r1 row q.r1kh).key (wrapped_to kek (row_r1 row q.r1kh).key)
  is_wrapped = wraps kek (row_r1 row q.r1kh).key (length-r1 row q.r1kh) (octets-r1 row q.r1kh)

  wrapped_len : length (wrapped_to kek (row_r1 row q.r1kh).key) ≡ 40
  wrapped_len = let l = length-Wraps kek (row_r1 row q.r1kh).key (wrapped_to kek (row_r1 row q.r1kh).key) few is_wrapped in omega (arith, l.0, length-r1 row q.r1kh)

  said : Said
  said = Found (wrapped_to kek (row_r1 row q.r1kh).key)

  answer_spelled : SpellsAnswer (answer_of kck nonce said) nonce said (cmac kck (answer_front nonce said))
  unfolding said
  answer_spelled = record { whole = refl; nonce_len = len; is_said = wrapped_len; code_len = length-cmac _ _ }

  asked : IsRun (without_rows kck kek q.r0kh_id) (asks kck nonce q)
  asked = (Asks q nonce refl refl (lit< tt) ask_spelled, tt)

  put_then : IsRun (without_rows kck kek q.r0kh_id) (puts kck nonce q row)
  put_then = (Puts row refl refl refl, asked)

  told_then : IsRun (without_rows kck kek q.r0kh_id) (tells kck nonce q row said)
  unfolding said
  told_then = (
    Answers (ask_of kck nonce q) (pulled.Found (row_r1 row q.r1kh)) refl refl (record {
      nonce = nonce;
      question = q;
      said = said;
      spelled = ask_spelled;
      pulled = (0, refl, (0, row, refl, m, refl));
      named = name-r1 row q.r1kh q.sta q.name m;
      says = is_wrapped;
      sent_spelled = answer_spelled;
    }),
    put_then,
  )

  learnt_then : IsRun (without_rows kck kek q.r0kh_id) (learns kck nonce q row said)
  unfolding said
  learnt_then = (
    Takes (answer_of kck nonce said) 0 (pulled.Found (row_r1 row q.r1kh)) refl refl (record {
      nonce = nonce;
      said = said;
      question = as_open 0 nonce q;
      spelled = answer_spelled;
      asked = found_here _ _ ((bytes_eq-Decides nonce nonce).1 refl);
      number = refl;
      says = is_wrapped;
      named = name-r1 row q.r1kh q.sta q.name m;
    }) refl,
    told_then,
  )

  differ : NoncesDiffer (learns kck nonce q row said)
  differ = (
    λ n other p a. absurd (let e = a.0 in cc),
    (
      λ n other p a. absurd (let e = a.0 in cc),
      (
        λ n other p a. absurd (let e = a.0 in cc),
        (λ n other p a s. s, tt),
      ),
    ),
  )

  unforged : Unforged (learns kck nonce q row said)
  unforged = (λ v. inl refl, (λ v. inr (inl refl), (λ v. absurd cc, (λ v. absurd cc, tt))))

  pub is_delivered : (h : List Step) × IsDelivered (without_rows kck kek q.r0kh_id) 0 (pulled.Found (row_r1 row q.r1kh)) h
  is_delivered = (learns kck nonce q row said, record { run = learnt_then; nonces_differ = differ; unforged = unforged; learnt = inl refl })

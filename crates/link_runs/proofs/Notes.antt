-- Steps of an end, as notes and as entries of the journal.
use Rattle.std.proofs.Common.{◌≡◌, ℕ, suc, List, [], ◌∷◌, length, Option, Some, refl, sym, ap, subst, ◌∙◌}
use Rattle.domain_base.specs.declared.names.Mac.{Mac}
use Rattle.run_journal.specs.declared.acts.Entry.{Entry}
use Rattle.link_steps.specs.Ends.{end_of}
use Rattle.link_steps.specs.declared.ends.LinkEnd.{LinkEnd}
use Rattle.link_steps.specs.declared.ends.LinkEnd.TheVariants.{Holder, Asker}
use Rattle.link_steps.specs.declared.steps.LinkAnswer.{LinkAnswer}
use Rattle.link_steps.specs.declared.steps.LinkEvent.{LinkEvent}
use Rattle.link_steps.specs.declared.steps.Step.{Step}
use Rattle.holder_link.specs.Acts.{Acts, BothHave, after, Asks, AsksTooMany, Forgets, Puts, Revokes, Takes, RefusesToTake, Answers, RefusesToAnswer}
use Rattle.link_lines.specs.declared.draft.LinkHeader.{LinkHeader}
use Rattle.link_lines.specs.declared.said.LinkSaid.{LinkSaid}
use Rattle.link_lines.specs.declared.said.LinkSaid.TheVariants as said
use Rattle.link_lines.specs.Asked.{event_of}
use Rattle.link_lines.specs.Drafts.{IsAsked}
use Rattle.link_runs.specs.declared.steps.Running.{Running}
use Rattle.link_runs.specs.Stepping.{DidStep, Happens, IsAfter, entry_at}
use Rattle.link_runs.specs.Told.{IsNoted, Note, both_of, comes_to, entries_of, entry_of}

-- ---- what an event leaves

-- the R0KH-ID stays
pub ids_stay : (b : BothHave) (event : LinkEvent) (sent : List ℕ) (answer_ : LinkAnswer) → Acts b event sent answer_ → (after event answer_ b).ids ≡ b.ids
ids_stay b event sent answer_ (Asks q nonce e f few s) = rw (e, f) refl
ids_stay b event sent answer_ (AsksTooMany q nonce e f many s) = rw (e, f) refl
ids_stay b event sent answer_ (Forgets n e f s) = rw (e, f) refl
ids_stay b event sent answer_ (Puts row e f s) = rw (e, f) refl
ids_stay b event sent answer_ (Revokes name e f s) = rw (e, f) refl
ids_stay b event sent answer_ (Takes octets n a e f l s) = rw (e, f) refl
ids_stay b event sent answer_ (RefusesToTake octets fault e f r s) = rw (e, f) refl
ids_stay b event sent answer_ (Answers octets a e f t) = rw e refl
ids_stay b event sent answer_ (RefusesToAnswer octets fault e f r s) = rw e refl

-- ---- at which end it happens

pub end_coming : (end : LinkEnd) (octets : List ℕ) → end_of (comes_to end octets) ≡ end
end_coming Holder octets = refl
end_coming Asker octets = refl

one_event : (x y : LinkEvent) → Some x ≡ Some y → x ≡ y
one_event x y e = cc e

pub end_asked : (h : LinkHeader) (asked : ℕ) (s : LinkSaid) (event : LinkEvent) (end : LinkEnd) → IsAsked s end → event_of h asked s ≡ Some event → end_of event ≡ end
end_asked h asked (said.Row sta) event end asks e = ap end_of (sym (one_event _ event e)) ∙ sym asks
end_asked h asked (said.Revoke sta) event end asks e = ap end_of (sym (one_event _ event e)) ∙ sym asks
end_asked h asked (said.Ask sta r1kh) event end asks e = ap end_of (sym (one_event _ event e)) ∙ sym asks
end_asked h asked (said.Forget n) event end asks e = ap end_of (sym (one_event _ event e)) ∙ sym asks
end_asked h asked said.Turn event end asks e = absurd cc
end_asked h asked said.Nothing event end asks e = absurd asks
end_asked h asked said.Draw event end asks e = absurd asks
end_asked h asked said.Begin event end asks e = absurd asks

-- ---- notes

pub length_entries : (notes : List Note) → length (entries_of notes) ≡ length notes
unfolding entries_of
length_entries [] = refl
length_entries (n ∷ notes) = ap suc (length_entries notes)

-- a step with its station
abbrev pub noted_as : Option Mac → Step → Note
noted_as sta s = record { sta = sta; step = s }

-- the next entry is that of the note
entry_noted : (end : LinkEnd) (sta : Option Mac) (s : Step) (count : ℕ) (notes : List Note) → end_of s.event ≡ end → count ≡ length notes → entry_at count end sta s ≡ entry_of (suc (length notes)) (noted_as sta s)
entry_noted end sta s count notes at same = subst (λ (x : LinkEnd). entry_at count x sta s ≡ entry_of (suc (length notes)) (noted_as sta s)) at (ap (λ (n : ℕ). entry_at n (end_of s.event) sta s) same)

-- a step that happened is one of the one end, after those before it
pub is_noted : (h : LinkHeader) (sta : Option Mac) (event : LinkEvent) (notes : List Note) (b c : BothHave) (s : Step) → b ≡ both_of h notes → Happens b event s c → IsNoted h sta event notes (noted_as sta s ∷ notes)
is_noted h sta event notes b c s same happens = record {
  step = s;
  event_is = happens.event_is;
  acts = subst (λ (x : BothHave). Acts x s.event s.sent s.answer) same happens.acts;
  noted = refl;
}

-- and the end stands after it
pub after_step : {L : Type 0} (h : LinkHeader) (end : LinkEnd) (sta : Option Mac) (event : LinkEvent) (old new : Running L) (notes : List Note) (j k : List Entry) (s : Step) → IsAfter h old notes j → DidStep end sta event old new j k s → end_of event ≡ end → IsAfter h new (noted_as sta s ∷ notes) k
unfolding entries_of
after_step h end sta event old new notes j k s stands did at =
    let count : length j ≡ length notes = ap (λ (x : List Entry). length x) stands.journal ∙ length_entries notes in
    record {
      both = did.happens.both ∙ ap (λ (x : BothHave). after s.event s.answer x) stands.both;
      one = did.one;
      journal =
          did.journal
          ∙ ap (λ (e : Entry). e ∷ j) (entry_noted end sta s (length j) notes (ap end_of did.happens.event_is ∙ at) count)
          ∙ ap (λ (x : List Entry). entry_of (suc (length notes)) (noted_as sta s) ∷ x) stands.journal;
    }

-- What a step sends.
use Rattle.std.proofs.Common.{◌≡◌, ◌≢◌, ℕ, List, [], ◌∷◌, ◌++◌, length, Option, Some, Result, Ok, Err, refl, sym, ap, subst, ◌∙◌}
use Rattle.std.specs.Prelude.{OnErr, OnOk}
use Rattle.domain_base.specs.Told.{LinkStory, Sends}
use Rattle.domain_base.specs.declared.names.Node.{Node}
use Rattle.domain_base.specs.declared.outside.LinkError.{LinkError}
use Rattle.domain_base.proofs.Stories.{Sends-told}
use Rattle.link_steps.specs.Ends.{node_of, other_end}
use Rattle.link_steps.specs.declared.ends.LinkEnd.{LinkEnd}
use Rattle.link_steps.specs.declared.steps.Step.{Step}
use Rattle.link_runs.specs.Outer.{sent_to}
use Rattle.link_runs.specs.Stepping.{SendsStep, StaysTold}

-- what a link tells that was sent octets to a node, where there are any
abbrev pub SentTo : Node → List ℕ → Option LinkStory → Option LinkStory → Type 0
SentTo to octets old new = (story : LinkStory) → old ≡ Some story → new ≡ Some (record story { sent = story.sent ++ sent_to to octets })

pub sent_some : {T : Type 0} (to : Node) (octets : List ℕ) (old new : Option LinkStory) (result : Result T LinkError) → length octets ≢ 0 → Sends old new to octets result → OnOk result (SentTo to octets old new)
sent_some to [] old new result some sends = absurd (some refl)
sent_some to (o ∷ octets) old new (Err error) some sends = tt
sent_some {T = T} to (o ∷ octets) old new (Ok x) some sends = λ story is.
    let t = Sends-told {T = T} {E = LinkError} story new to (o ∷ octets) (Ok x) (subst (λ (w : Option LinkStory). Sends {T = T} {E = LinkError} w new to (o ∷ octets) (Ok x)) is sends) in
    t.1 ∙ ap Some t.2

pub unsent_some : {T : Type 0} (to : Node) (octets : List ℕ) (old new : Option LinkStory) (result : Result T LinkError) → Sends old new to octets result → OnErr result (StaysTold old new)
unsent_some to octets old new (Ok x) sends = tt
unsent_some {T = T} to octets old new (Err error) sends = λ story is.
    let t = Sends-told {T = T} {E = LinkError} story new to octets (Err error) (subst (λ (w : Option LinkStory). Sends {T = T} {E = LinkError} w new to octets (Err error)) is sends) in
    t.1 ∙ ap Some t.2

pub some_octets : {T : Type 0} (octets : List ℕ) (result : Result T LinkError) → length octets ≢ 0 → OnErr result (octets ≢ [])
some_octets octets (Ok x) some = tt
some_octets octets (Err error) some = λ none. some (ap (λ (o : List ℕ). length o) none)

pub some_at : {xs ys : List ℕ} → xs ≡ ys → ys ≢ [] → xs ≢ []
some_at same some none = some (sym same ∙ none)

-- a step's datagram was sent to the other end
pub sends_step : (end other : LinkEnd) (to : Node) (s : Step) (octets : List ℕ) (old new : Option LinkStory) → other ≡ other_end end → to ≡ node_of other → s.sent ≡ octets → SentTo to octets old new → SendsStep end s old new
sends_step end other to s octets old new is at sent goes = λ story was.
    goes story was
    ∙ ap (λ (x : Node). Some (record story { sent = story.sent ++ sent_to x octets })) (at ∙ ap node_of is)
    ∙ ap (λ (x : List ℕ). Some (record story { sent = story.sent ++ sent_to (node_of (other_end end)) x })) (sym sent)

-- What comes of nonces and MIC, by the definitions of verdicts.
use Rattle.std.proofs.Common.{◌≡◌, ◌∙◌, ℕ, Bool, true, false, List, Option, Some, None, refl, ap}
use Rattle.std.specs.Prelude.{bytes_eq, if◌then◌else◌}
use Rattle.mac_prf.specs.Cmac.{cmac}
use Rattle.rsn_elements.specs.Transition.{FteFields}
use Rattle.run_journal.specs.declared.acts.Reason.{Reason}
use Rattle.run_journal.specs.declared.acts.Reason.TheVariants as reason
use Rattle.run_journal.specs.declared.acts.Outcome.{Outcome}
use Rattle.run_journal.specs.declared.acts.Outcome.TheVariants.{Refused}
use Rattle.run_journal.specs.declared.acts.Seal.{Seal}
use Rattle.run_journal.specs.declared.reply.Keyed.{Keyed}
use Rattle.domain_rules.specs.FastTransition.{fte_seal, fte_verified}
use Rattle.ft_exchange.specs.declared.mic.Tried.{Tried}
use Rattle.ft_exchange.specs.declared.mic.Tried.TheVariants.{Nothing, OtherNonces, OtherMic, Verified}
use Rattle.ft_exchange.specs.Tried.{has_nonces_of, tried_mic, tried, tried_reason, verified_key}
use Rattle.ft_exchange.specs.Told.{taken_seal}

-- refused for that reason, or else that
abbrev pub out_or : Outcome → Option Reason → Outcome
out_or o None = o
out_or o (Some why) = Refused why

nonces_out : (b : Bool) (t : Tried) (o : Outcome) → out_or o (tried_reason (if b then t else OtherNonces)) ≡ (if b then out_or o (tried_reason t) else Refused reason.Nonce)
nonces_out true t o = refl
nonces_out false t o = refl

mic_by : (b : Bool) (o : Outcome) → out_or o (tried_reason (if b then Verified else OtherMic)) ≡ (if b then o else Refused reason.Mic)
mic_by true o = refl
mic_by false o = refl

mic_out : (kck : List ℕ) (f : FteFields) (c : Option (List ℕ)) (o : Outcome) → out_or o (tried_reason (tried_mic kck f c)) ≡ fte_verified kck (Some f) c o
mic_out kck f None o = refl
mic_out kck f (Some input) o = mic_by (bytes_eq f.mic (cmac kck input)) o

-- an FTE that is there
pub tried_out : (y : Keyed) (f : FteFields) (c : Option (List ℕ)) (o : Outcome)
    → out_or o (tried_reason (tried y (Some f) c)) ≡ (if has_nonces_of f y then fte_verified y.ptk.kck (Some f) c o else Refused reason.Nonce)
tried_out y f c o =
    nonces_out (has_nonces_of f y) (tried_mic y.ptk.kck f c) o
    ∙ ap (λ (x : Outcome). if has_nonces_of f y then x else Refused reason.Nonce) (mic_out y.ptk.kck f c o)

-- what is noted of a MIC that was tried
abbrev pub noted_by : List ℕ → Option FteFields → Option (List ℕ) → Option Seal
noted_by kck (Some f) (Some input) = Some (fte_seal kck input)
noted_by kck f input = None

mic_noted : (y : Keyed) (input : List ℕ) (b : Bool) → tried_reason (if b then Verified else OtherMic) ≡ None → taken_seal (Some input) (verified_key y (if b then Verified else OtherMic)) ≡ Some (fte_seal y.ptk.kck input)
mic_noted y input true right = refl
mic_noted y input false right = cc

-- without a key nothing is
pub none_sealed : (c : Option (List ℕ)) → taken_seal c None ≡ None
none_sealed None = refl
none_sealed (Some input) = refl

-- a key that refuses verified nothing
pub no_key : (y : Keyed) (t : Tried) (why : Reason) → tried_reason t ≡ Some why → verified_key y t ≡ None
no_key y Nothing why is = refl
no_key y OtherNonces why is = refl
no_key y OtherMic why is = refl
no_key y Verified why is = absurd cc

nonces_noted : (y : Keyed) (f : FteFields) (c : Option (List ℕ)) (b : Bool) → tried_reason (if b then tried_mic y.ptk.kck f c else OtherNonces) ≡ None
    → taken_seal c (verified_key y (if b then tried_mic y.ptk.kck f c else OtherNonces)) ≡ noted_by y.ptk.kck (Some f) c
nonces_noted y f None true right = refl
nonces_noted y f (Some input) true right = mic_noted y input (bytes_eq f.mic (cmac y.ptk.kck input)) right
nonces_noted y f c false right = cc

-- where nothing refuses
pub tried_noted : (y : Keyed) (f : Option FteFields) (c : Option (List ℕ)) → tried_reason (tried y f c) ≡ None → taken_seal c (verified_key y (tried y f c)) ≡ noted_by y.ptk.kck f c
tried_noted y None c right = none_sealed c
tried_noted y (Some f) c right = nonces_noted y f c (has_nonces_of f y) right

use Rattle.std.proofs.Common.{ℕ, List, [], ◌∷◌, ◌++◌, ap, sym, ◌∙◌, codes, arith}
use Rattle.domain_base.specs.Names.{node_text, peer_text}
use Rattle.run_journal.specs.declared.acts.Act.{Act}
use Rattle.run_journal.specs.Report.{hex}
use Rattle.entry_lines.specs.Lines.{act_words, after_spaces, inputs_words, key_words, ptk_octets}
use Rattle.entry_lines.specs.Room.{act_octets, inputs_octets}
use Rattle.entry_lines.proofs.Fielded.{Writes-is, fields-then}
use Rattle.entry_lines.proofs.writing.put_keyed.Goals as goal

pub returns-in-Derived-clause-written : goal.returns-in-Derived-clause-written
returns-in-Derived-clause-written c = λ number.
    let i = c.inputs.result.now in
    let last : List (List ℕ) = hex (ptk_octets c.in-Derived.ptk) ∷ [] in
    Writes-is _ _ _ _ _ _
    (fields-then (codes "derived" ∷ []) (inputs_words i ++ last) _ _ _ _ _ _ c.put_fields-at.ensures.written
    (fields-then (inputs_words i) last _ _ _ _ _ _ c.put_inputs-at.ensures.written c.put_ptk.ensures.written))
    (ap (λ (a : Act). after_spaces (act_words number a)) c.in-Derived.is ∙ (λ t. after_spaces (codes "derived" ∷ (inputs_words (sym c.inputs.ensures t) ++ last))))

pub returns-in-Installed-clause-written : goal.returns-in-Installed-clause-written
returns-in-Installed-clause-written c = λ number. Writes-is _ _ _ _ _ _ (fields-then (codes "installed" ∷ peer_text c.in-Installed.peer ∷ []) (key_words c.in-Installed.key) _ _ _ _ _ _ c.put_fields-at-in-Installed.ensures.written c.put_key.ensures.written) (ap (λ (a : Act). after_spaces (act_words number a)) c.in-Installed.is)

pub returns-in-Resumed-clause-written : goal.returns-in-Resumed-clause-written
returns-in-Resumed-clause-written c = λ number. Writes-is _ _ _ _ _ _ (fields-then (codes "resumed" ∷ node_text c.in-Resumed.peer ∷ []) (key_words c.in-Resumed.key) _ _ _ _ _ _ c.put_fields-at-in-Resumed.ensures.written c.put_key-in-Resumed.ensures.written) (ap (λ (a : Act). after_spaces (act_words number a)) c.in-Resumed.is)

pub returns-in-Finished-clause-written : goal.returns-in-Finished-clause-written
returns-in-Finished-clause-written c = λ number.
    Writes-is _ _ _ _ _ _
    (fields-then (codes "finished" ∷ node_text c.in-Finished.peer ∷ []) (inputs_words c.inputs-in-Finished.result.now) _ _ _ _ _ _ c.put_fields-at-in-Finished.ensures.written c.put_inputs.ensures.written)
    (ap (λ (a : Act). after_spaces (act_words number a)) c.in-Finished.is ∙ (λ t. after_spaces (codes "finished" ∷ node_text c.in-Finished.peer ∷ inputs_words (sym c.inputs-in-Finished.ensures t))))

pub put_inputs-at-requires : goal.put_inputs-at-requires
put_inputs-at-requires c =
    omega (arith, c.requires.room, ap act_octets c.in-Derived.is, ap inputs_octets c.inputs.ensures, c.put_fields-at.ensures.short, c.put_fields-at.ensures.written.len)

pub put_ptk-requires : goal.put_ptk-requires
put_ptk-requires c =
    omega (arith, c.requires.room, ap act_octets c.in-Derived.is, ap inputs_octets c.inputs.ensures, c.put_fields-at.ensures.short, c.put_fields-at.ensures.written.len, c.put_inputs-at.ensures.short, c.put_inputs-at.ensures.written.len)

pub returns-in-Derived-clause-short : goal.returns-in-Derived-clause-short
returns-in-Derived-clause-short c =
    omega (arith, ap act_octets c.in-Derived.is, ap inputs_octets c.inputs.ensures, c.put_fields-at.ensures.short, c.put_inputs-at.ensures.short, c.put_ptk.ensures.short)

pub put_key-requires : goal.put_key-requires
put_key-requires c =
    omega (arith, c.requires.room, ap act_octets c.in-Installed.is, c.put_fields-at-in-Installed.ensures.short, c.put_fields-at-in-Installed.ensures.written.len)

pub returns-in-Installed-clause-short : goal.returns-in-Installed-clause-short
returns-in-Installed-clause-short c =
    omega (arith, ap act_octets c.in-Installed.is, c.put_fields-at-in-Installed.ensures.short, c.put_key.ensures.short)

pub put_key-requires-in-Resumed : goal.put_key-requires-in-Resumed
put_key-requires-in-Resumed c =
    omega (arith, c.requires.room, ap act_octets c.in-Resumed.is, c.put_fields-at-in-Resumed.ensures.short, c.put_fields-at-in-Resumed.ensures.written.len)

pub returns-in-Resumed-clause-short : goal.returns-in-Resumed-clause-short
returns-in-Resumed-clause-short c =
    omega (arith, ap act_octets c.in-Resumed.is, c.put_fields-at-in-Resumed.ensures.short, c.put_key-in-Resumed.ensures.short)

pub put_inputs-requires : goal.put_inputs-requires
put_inputs-requires c =
    omega (arith, c.requires.room, ap act_octets c.in-Finished.is, ap inputs_octets c.inputs-in-Finished.ensures, c.put_fields-at-in-Finished.ensures.short, c.put_fields-at-in-Finished.ensures.written.len)

pub returns-in-Finished-clause-short : goal.returns-in-Finished-clause-short
returns-in-Finished-clause-short c =
    omega (arith, ap act_octets c.in-Finished.is, ap inputs_octets c.inputs-in-Finished.ensures, c.put_fields-at-in-Finished.ensures.short, c.put_inputs.ensures.short)

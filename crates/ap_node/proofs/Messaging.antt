-- EAPOL-Key messages that the part with their station takes.
use Rattle.std.proofs.Common.{◌≡◌, ◌≢◌, ℕ, ◌+◌, ◌<◌, ◌≤◌, ◌^◌, Bool, true, false, List, length, arith, [], ◌∷◌, ◌++◌, Some, None, Result, Ok, Err, refl, sym, ap, subst, ◌∙◌, inl, inr}
use Rattle.std.specs.Prelude.{◌-◌, is_some, IfOk}
use Rattle.domain_base.specs.declared.names.Node.TheVariants.{Ap, Sta}
use Rattle.run_journal.specs.declared.domain.Domain.{Domain}
use Rattle.run_journal.specs.declared.acts.Kind.TheVariants as kind
use Rattle.run_journal.specs.declared.acts.Outcome.{Outcome}
use Rattle.run_journal.specs.declared.acts.Outcome.TheVariants.{Refused}
use Rattle.run_journal.specs.declared.acts.Reason.{Reason}
use Rattle.run_journal.specs.declared.acts.Reason.TheVariants as reason
use Rattle.run_journal.specs.declared.acts.Act.{Act}
use Rattle.run_journal.specs.declared.acts.Act.TheVariants.{Took}
use Rattle.run_journal.specs.Questions.{add, draws}
use Rattle.domain_rules.specs.Here.{here}
use Rattle.domain_rules.specs.Network.{draw_end, InForm, IsNamed, r0kh_id}
use Rattle.domain_rules.specs.Reading.{Keyed, KeyMessage as MessageFields}
use Rattle.domain_base.specs.declared.names.Akm.{Akm}
use Rattle.domain_base.specs.declared.names.Akm.TheVariants.{Psk, PskSha256, FtPsk}
use Rattle.key_holders.specs.declared.rows.HeldRow.{HeldRow}
use Rattle.held_rows.specs.Knows.{KnowsRows}
use Rattle.run_journal.specs.Replies.{IsEmpty}
use Rattle.act_memory.specs.Rooms.{between_of}
use Rattle.ap_node.specs.Putting.{puts, PutsWhere, IsReady}
use Rattle.ap_node.specs.declared.ready.Ready.{Ready}
use Rattle.ap_node.specs.Handed.{IsHandedOver}
use Rattle.ap_node.proofs.Told.{put_only, put_is, puts_suite, rows_put, told_about, told_leaves_others, told_looks, told_rows, key_told}
use Rattle.ap_node.proofs.Plain.{plain_rows}
use Rattle.domain_rules.specs.Replies.{IsMessageFrom, Pair as Ends, Between, Taken, taken_as, replied_acts}
use Rattle.node_base.specs.Pairs.{pair_at}
use Rattle.run_journal.specs.declared.reply.Reply.{Reply}
use Rattle.domain_rules.specs.Rows.{Take}
use Rattle.group_key.specs.declared.keys.GroupKey.{GroupKey}
use Rattle.group_key.specs.declared.news.News.{News}
use Rattle.group_key.specs.Keys.{Pairs}
use Rattle.frame_intake.specs.declared.delivered.KeyMessage.{KeyMessage}
use Rattle.frame_intake.specs.Views.{message_fields}
use Rattle.node_base.specs.Events.{seen}
use Rattle.act_memory.proofs.RepliedActs.{about_draws, about_others}
use Rattle.ap_node.specs.declared.station.Station.{Station}
use Rattle.eapol_key.specs.declared.messages.Message.{Message}
use Rattle.targets.specs.declared.moves.Moves.{Moves}
use Rattle.targets.specs.Stands.{HasMoves}
use Rattle.held_rows.specs.Looks.{NoLooks}
use Rattle.authenticator.specs.Judged.{Frame, frame_of}
use Rattle.authenticator.specs.Taken.{given, told_acts, Comes}
use Rattle.ap_node.specs.declared.sending.Sending.{Sending}
use Rattle.ap_node.specs.State.{State, station_at, key_in, moves_in, newest_of}
use Rattle.ap_node.proofs.ToldMoves.{told_moves}
use Rattle.ap_node.specs.Counts.{owes_part, owing_below, recounted}
use Rattle.ap_node.specs.Stands.{StandsSoFar, Stands}
use Rattle.ap_node.specs.Parts.{IsForSession, InNone, IsHanded, is_final_at}
use Rattle.ap_node.specs.Takes.{Does, RowsOn, IsDoneWith, IsBeside, IsKeyedAtAp}
use Rattle.ap_node.proofs.Others.{about_group, far_on}
use Rattle.ap_node.proofs.Owed.{bit, count_low, count_changed, recounted_is}
use Rattle.ap_node.proofs.Hearing.{IsHeard, heard_attempt, heard_session, no_session_final}
use Rattle.authenticator.proofs.Handshaking.{counters_low}
use Rattle.ap_node.proofs.Standing.{draws_low, stands_with_one, is_newest}
use Rattle.ap_node.proofs.Refusing.{does_quiet, unawaited_quiet, unawaited_message, no_attempt_for, no_session_for}

message_from : (d : Domain) (a sta : ℕ) (octets : List ℕ) (message : KeyMessage) → IsKeyedAtAp d a octets (Sta sta) message → IsMessageFrom d (Ap a) (Sta sta) octets (message_fields message)
message_from d a sta octets message w = record { reads = w.reads; from = w.judged.1; verdict_is = w.judged.4 }

abbrev pub the_state : ℕ → ℕ → Pairs → Sending → List (ℕ × Station) → ℕ → State
the_state number drawn group sending stations owing = record { number = number; drawn = drawn; group = group; sending = sending; stations = stations; owing = owing }

-- as the code recounts
pub beside_count : (old new : State) (sta : ℕ) (owed owes : Bool) → ((k : ℕ) → k ≢ sta → station_at new.stations k ≡ station_at old.stations k)
    → owed ≡ owes_part old.group.gtk.newest.place (station_at old.stations sta) → owes ≡ owes_part old.group.gtk.newest.place (station_at new.stations sta)
    → (old.owing < 2 ^ 64 - 1 → new.owing ≡ recounted old.owing owed owes)
    → (m : ℕ) → sta < m → m < 2 ^ 64 - 1 → old.owing ≡ owing_below old.group.gtk.newest.place old.stations m → new.owing ≡ owing_below old.group.gtk.newest.place new.stations m
beside_count old new sta owed owes others owed_is owes_is counted m low few is =
    let place = old.group.gtk.newest.place in
    let changed = count_changed place old.stations new.stations sta m low (λ j other. ap (owes_part place) (others j other)) in
    counted (omega (arith, is, few, count_low place old.stations m))
    ∙ recounted_is old.owing (owing_below place old.stations m) (owing_below place new.stations m) owed owes is (joined (owing_below place new.stations m) (owing_below place old.stations m) changed owed_is owes_is)
  where
    joined : (n m : ℕ) {a b c e : Bool} → n + bit a ≡ m + bit b → c ≡ a → e ≡ b → n + bit c ≡ m + bit e
    joined n m sum f g = rw (f, g) sum

pub few_stas : (d : Domain) → InForm d → length d.stas < 2 ^ 64 - 1
few_stas d form = omega (arith, form.few_stas)

pub owes_same : (g k : GroupKey) (x y : Station) → g ≡ k → x ≡ y → owes_part g.place x ≡ owes_part k.place y
owes_same g k x y key part = rw (key, part) refl

-- nothing is changed where the parts and the count are not
pub kept_state : (number drawn m n : ℕ) (group : Pairs) (sending : Sending) (now was : List (ℕ × Station)) → now ≡ was → m ≡ n → the_state number drawn group sending now m ≡ the_state number drawn group sending was n
kept_state number drawn m n group sending now was parts count = rw (parts, count) refl

-- what a message is, and what is ready for it
pub record IsMet (d : Domain) (old new : State) (sta : ℕ) (octets : List ℕ) (message : KeyMessage) (xs ys : List HeldRow) (ready : Ready) : Type 0 where
  pub keyed : IsKeyedAtAp d old.number octets (Sta sta) message
  pub names : IsNamed d
  pub listed : sta < length d.stas
  pub few : length d.stas < 2 ^ 64 - 1
  pub ready_is : IsReady d old.number sta octets (message_fields message) (is_final_at (station_at old.stations sta) message.message (frame_of message.frame)) xs ys ready
  pub beside : IsBeside old new sta

same_between : {o p : List Act} {g : List Act} → o ≡ [] → p ≡ g → record { opened = o; put = p } ≡ put_only g
same_between e f = rw (e, f) refl

abbrev own_pair_at : Domain → ℕ → ℕ → Ends
own_pair_at d a sta = pair_at d (r0kh_id d (Ap a)) (Ap a) (Sta sta)

-- the part took it
handed : (d : Domain) (old new : State) (octets : List ℕ) (sta : ℕ) (message : KeyMessage) (outcome : Outcome) (xs ys : List HeldRow) (ready : Ready) (acts waited : List Act) → IsMet d old new sta octets message xs ys ready → (first : ℕ) (h : List Act)
    → IsHeard d (Ap old.number) sta (own_pair_at d old.number sta) (given message.message (frame_of message.frame) (newest_of old)) (taken_as octets (message_fields message) outcome) (between_of ready.between) (station_at old.stations sta) (station_at new.stations sta) acts h
    → Stands d first old h → KnowsRows d (Ap old.number) xs h
    → Does (here d first (Ap old.number)) (Take octets) (StandsSoFar d first new) (RowsOn NoLooks d old.number ys h) h (seen waited (waited ++ acts) outcome)
handed d old new octets sta message outcome xs ys ready acts waited met first h x stands known =
    let n = Ap old.number in
    let p = Sta sta in
    let k = message_fields message in
    let there = is_some x.was.session in
    let so_far = stands.so_far in
    let beside = met.beside in
    let at = so_far.parts sta in
    let o = station_at old.stations sta in
    let come : Comes (here d first n) p (given message.message (frame_of message.frame) (newest_of old)) octets k h =
    record { from = message_from d old.number sta octets message met.keyed; message = refl; frame = refl; newest = is_newest d first old h so_far; low = counters_low d n p x.was.session h x.stands.session_is (draws_low d first old h so_far) } in
    let steps = x.steps d first old.number sta octets k h x.stands come in
    let final = is_final_at o message.message (frame_of message.frame) in
    let put = put_is d old.number sta xs ys ready.between.put.items h final x.reply.installed x.final met.ready_is.put known in
    let said = told_acts d n p there octets k outcome x.reply h in
    let said_is : acts ≡ said = x.says ∙ ap (λ (g : Between). replied_acts (own_pair_at d old.number sta) there (taken_as octets k outcome) x.reply g) (same_between met.ready_is.opened put) in
    let about = told_about d n p there octets k outcome x.reply h in
    let puts_row = λ (l : List Act) (was_known : KnowsRows d n xs l).
    subst (λ (g : List Act). KnowsRows d n ys (add g l)) put (rows_put d old.number sta xs ys (puts d.akm final) ready.between.put.items l met.names (puts_suite d.akm final) met.listed met.ready_is.put was_known) in
    record {
      acts = said;
      row = steps.adds;
      waiting = ap (λ (l : List Act). waited ++ l) said_is;
      came = refl;
      stands = stands_with_one d first old new h (add said h) sta so_far (record {
        number = beside.number;
        drawn = beside.drawn ∙ so_far.draws_are ∙ ap (λ (m : ℕ). first + m) (sym (about_draws p said h about));
        drawn_low = subst (λ (m : ℕ). m ≤ draw_end) (sym beside.drawn) so_far.draws_low;
        group = beside.group;
        sending = beside.sending;
        listed = λ past. absurd (omega (arith, past, met.listed));
        counted = beside.counts (length d.stas) met.listed met.few so_far.counted;
        same_group = about_group p said h about;
        here = x.after (add said h) steps.stands (key_told d n p there octets k outcome x.reply h x.now (key_in o) (key_in (station_at new.stations sta)) x.key x.installs steps.stands.session_is at.key);
        others = beside.others;
        goes = λ i other. far_on (Sta i) said h (about_others p i said other about) (λ tk. told_leaves_others d n p there octets k outcome x.reply h (Sta i) tk other);
        moves = subst (λ (m : Moves). HasMoves d n p m (add said h)) (sym x.moves) (told_moves d n sta there octets k outcome x.reply (moves_in o) h x.derived x.installed (so_far.moves sta));
      });
      marks = (told_looks d n p there octets k outcome x.reply h, told_rows d n p there octets k outcome x.reply h xs ys puts_row known);
    }

-- without a part it is unawaited, and nothing is put
unput : (b : Bool) (d : Domain) (a sta : ℕ) (xs ys : List HeldRow) (g : List Act) → b ≡ false → PutsWhere b d a sta xs ys g → (g ≡ []) × (ys ≡ xs)
unput true d a sta xs ys g is w = absurd (cc is)
unput false d a sta xs ys g is w = w

no_puts : (akm : Akm) → puts akm false ≡ false
no_puts Psk = refl
no_puts PskSha256 = refl
no_puts FtPsk = refl

none_replied : (w : Ends) (t : Taken) (r : Reply) → IsEmpty r → replied_acts w false t r (put_only []) ≡ Took (Some w.peer) t.octets (kind.Key t.message.message) t.outcome None ∷ []
none_replied w t r e = rw (e.verified, e.derived, e.installed, e.gtk, e.igtk, e.len) refl

empty_reply : (w : Ends) (t : Taken) (r : Reply) (b : Between) → IsEmpty r → b ≡ put_only [] → replied_acts w false t r b ≡ Took (Some w.peer) t.octets (kind.Key t.message.message) t.outcome None ∷ []
empty_reply w t r b e none = ap (replied_acts w false t r) none ∙ none_replied w t r e

unhanded : (d : Domain) (s : State) (octets : List ℕ) (sta : ℕ) (message : KeyMessage) (xs : List HeldRow) (waited : List Act) → IsKeyedAtAp d s.number octets (Sta sta) message → (station_at s.stations sta).session ≡ None → IsForSession message.message (station_at s.stations sta)
    → (first : ℕ) (h : List Act) → Stands d first s h → KnowsRows d (Ap s.number) xs h
    → Does (here d first (Ap s.number)) (Take octets) (StandsSoFar d first s) (RowsOn NoLooks d s.number xs h) h (seen waited (waited ++ Took (Some (Sta sta)) octets (kind.Key message.message) (Refused reason.Unawaited) None ∷ []) (Refused reason.Unawaited))
unhanded d s octets sta message xs waited w none which first h stands known =
    let at = stands.so_far.parts sta in
    let x = does_quiet d s octets (Keyed (message_fields message)) (Some (Sta sta)) (kind.Key message.message) reason.Unawaited waited first h stands w.reads (sym w.judged.1) refl (unawaited_quiet d (Ap s.number))
    (w.judged.4 first h ∙ unawaited_message d (first + draws h) s.number h (Sta sta) (message_fields message) message.message (no_attempt_for d (Ap s.number) sta (station_at s.stations sta) message.message h none which at)
    (no_session_for d (Ap s.number) sta (station_at s.stations sta) h none at)) in
    record { acts = x.acts; row = x.row; waiting = x.waiting; came = x.came; stands = x.stands; marks = plain_rows d s.number xs h x.acts x.marks known }

unhanded_done : (d : Domain) (old new : State) (octets : List ℕ) (sta : ℕ) (message : KeyMessage) (outcome : Outcome) (xs ys : List HeldRow) (ready : Ready) (acts waited : List Act) → IsMet d old new sta octets message xs ys ready
    → ((why : Reason) → outcome ≡ Refused why → new ≡ old)
    → InNone (own_pair_at d old.number sta) (given message.message (frame_of message.frame) (newest_of old)) (taken_as octets (message_fields message) outcome) (between_of ready.between) (station_at old.stations sta) (station_at new.stations sta) acts
    → IsDoneWith d (Take octets) old new xs ys (seen waited (waited ++ acts) outcome)
unhanded_done d old new octets sta message outcome xs ys ready acts waited met refused x =
    let m = message.message in
    let f = frame_of message.frame in
    let final = is_final_at (station_at old.stations sta) m f in
    let none : puts d.akm final ≡ false = ap (puts d.akm) (no_session_final m f (station_at old.stations sta) x.none x.which) ∙ no_puts d.akm in
    let put = unput (puts d.akm final) d old.number sta xs ys ready.between.put.items none met.ready_is.put in
    let acts_are : acts ≡ Took (Some (Sta sta)) octets (kind.Key m) (Refused reason.Unawaited) None ∷ [] =
    x.says ∙ empty_reply (own_pair_at d old.number sta) (taken_as octets (message_fields message) outcome) x.reply (between_of ready.between) x.empty (same_between met.ready_is.opened put.0)
    ∙ ap (λ (z : Outcome). Took (Some (Sta sta)) octets (kind.Key m) z None ∷ []) x.came in
    subst (λ (s : State). IsDoneWith d (Take octets) old s xs ys (seen waited (waited ++ acts) outcome)) (sym (refused reason.Unawaited x.came))
    (subst (λ (z : Outcome). IsDoneWith d (Take octets) old old xs ys (seen waited (waited ++ acts) z)) (sym x.came)
    (subst (λ (l : List Act). IsDoneWith d (Take octets) old old xs ys (seen waited (waited ++ l) (Refused reason.Unawaited))) (sym acts_are)
    (subst (λ (zs : List HeldRow). IsDoneWith d (Take octets) old old xs zs (seen waited (waited ++ Took (Some (Sta sta)) octets (kind.Key m) (Refused reason.Unawaited) None ∷ []) (Refused reason.Unawaited))) (sym put.1)
    (record { number = refl; does = λ first h stands known. unhanded d old octets sta message xs waited met.keyed x.none x.which first h stands known; refused = λ why is. refl }))))

takes_by : (d : Domain) (old new : State) (octets : List ℕ) (sta : ℕ) (message : KeyMessage) (outcome : Outcome) (xs ys : List HeldRow) (ready : Ready) (acts waited : List Act) → IsMet d old new sta octets message xs ys ready
    → ((why : Reason) → outcome ≡ Refused why → new ≡ old)
    → IsHanded (own_pair_at d old.number sta) (given message.message (frame_of message.frame) (newest_of old)) (taken_as octets (message_fields message) outcome) (between_of ready.between) (station_at old.stations sta) (station_at new.stations sta) acts
    → IsDoneWith d (Take octets) old new xs ys (seen waited (waited ++ acts) outcome)
takes_by d old new octets sta message outcome xs ys ready acts waited met refused (inl x) = record {
  number = met.beside.number;
  does = λ first h stands known. handed d old new octets sta message outcome xs ys ready acts waited met first h (heard_attempt d (Ap old.number) sta _ _ _ _ _ _ acts h (stands.so_far.parts sta) x) stands known;
  refused = refused;
}
takes_by d old new octets sta message outcome xs ys ready acts waited met refused (inr (inl x)) = record {
  number = met.beside.number;
  does = λ first h stands known. handed d old new octets sta message outcome xs ys ready acts waited met first h (heard_session d (Ap old.number) sta _ _ _ _ _ _ acts h (stands.so_far.parts sta) x) stands known;
  refused = refused;
}
takes_by d old new octets sta message outcome xs ys ready acts waited met refused (inr (inr x)) = unhanded_done d old new octets sta message outcome xs ys ready acts waited met refused x

-- all was ready for it
pub takes_message : (d : Domain) (old new : State) (octets : List ℕ) (sta : ℕ) (message : KeyMessage) (outcome : Outcome) (xs ys : List HeldRow) (ready : Ready) (waited waits : List Act) → IsMet d old new sta octets message xs ys ready
    → ((why : Reason) → outcome ≡ Refused why → new ≡ old) → IsHandedOver sta message ready old new (seen waited waits outcome) → IsDoneWith d (Take octets) old new xs ys (seen waited waits outcome)
takes_message d old new octets sta message outcome xs ys ready waited waits met refused over =
    let x = over d (r0kh_id d (Ap old.number)) (Ap old.number) (Sta sta) octets (message_fields message) met.ready_is.room in
    subst (λ (l : List Act). IsDoneWith d (Take octets) old new xs ys (seen waited l outcome)) (sym x.1)
    (takes_by d old new octets sta message outcome xs ys ready x.0 waited met refused x.2)

-- as the code comes by it
pub takes_handed : (d : Domain) (old new : State) (octets : List ℕ) (sta : ℕ) (message : KeyMessage) (outcome : Outcome) (xs ys : List HeldRow) (ready : Ready) (waited waits : List Act) → IsBeside old new sta → IsKeyedAtAp d old.number octets (Sta sta) message → InForm d → IsNamed d
    → IsReady d old.number sta octets (message_fields message) (is_final_at (station_at old.stations sta) message.message (frame_of message.frame)) xs ys ready
    → ((why : Reason) → outcome ≡ Refused why → new ≡ old) → IsHandedOver sta message ready old new (seen waited waits outcome) → IsDoneWith d (Take octets) old new xs ys (seen waited waits outcome)
takes_handed d old new octets sta message outcome xs ys ready waited waits beside keyed form names ready_is refused over =
    takes_message d old new octets sta message outcome xs ys ready waited waits (record { keyed = keyed; names = names; listed = keyed.judged.2; few = few_stas d form; ready_is = ready_is; beside = beside }) refused over

-- ---- as the code comes by them

pub ready_as : (d : Domain) (a b sta : ℕ) (octets : List ℕ) (k : MessageFields) (final other : Bool) (xs ys : List HeldRow) (r : Ready) → a ≡ b → final ≡ other → IsReady d a sta octets k final xs ys r → IsReady d b sta octets k other xs ys r
ready_as d a b sta octets k final other xs ys r number same w =
    subst (λ (z : ℕ). IsReady d z sta octets k other xs ys r) number (subst (λ (z : Bool). IsReady d a sta octets k z xs ys r) same w)

pub handed_as : (w : Ends) (m : Message) (f : Frame) (g newest : News) (t : Taken) (b : Between) (o was new : Station) (acts : List Act) → g ≡ newest → o ≡ was → IsHanded w (given m f g) t b o new acts → IsHanded w (given m f newest) t b was new acts
handed_as w m f g newest t b o was new acts group here x =
    subst (λ (z : News). IsHanded w (given m f z) t b was new acts) group (subst (λ (z : Station). IsHanded w (given m f g) t b z new acts) here x)

-- two facts of what came make a third
pub if_both : {E : Type 0} (r : Result Outcome E) (P Q R : Outcome → Type 0) → IfOk r P → IfOk r Q → ((o : Outcome) → P o → Q o → R o) → IfOk r R
if_both (Ok o) P Q R p q then_ = then_ o p q
if_both (Err e) P Q R p q then_ = tt

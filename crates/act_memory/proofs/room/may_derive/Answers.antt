use Rattle.std.proofs.Common.{◌≡◌, ◌⊎◌, inl, inr, true, false, sym, ap}
use Rattle.eapol_key.specs.declared.messages.Message.{Message}
use Rattle.eapol_key.specs.declared.messages.Message.TheVariants.{M1, M2, M3, M4, G1, G2}
use Rattle.group_key.specs.Replied.{may_derive}
use Rattle.act_memory.proofs.room.may_derive.Goals as goal

first_two : (m : Message) → (m ≡ M1) ⊎ (m ≡ M2) → true ≡ may_derive m
first_two m (inl is) = sym (ap may_derive is)
first_two m (inr is) = sym (ap may_derive is)

pub returns-in-M1 : goal.returns-in-M1
returns-in-M1 c = first_two c.args.message c.in-M1.is

then_two : (m : Message) → (m ≡ M3) ⊎ (m ≡ M4) → false ≡ may_derive m
then_two m (inl is) = sym (ap may_derive is)
then_two m (inr is) = sym (ap may_derive is)

pub returns-in-M3 : goal.returns-in-M3
returns-in-M3 c = then_two c.args.message c.in-M3.is

last_two : (m : Message) → (m ≡ G1) ⊎ (m ≡ G2) → false ≡ may_derive m
last_two m (inl is) = sym (ap may_derive is)
last_two m (inr is) = sym (ap may_derive is)

pub returns-in-G1 : goal.returns-in-G1
returns-in-G1 c = last_two c.args.message c.in-G1.is

-- Which key a send to a group is under: that of the number in the list of calls; and what it makes of keys, first send and timer.
-- Assumes nothing.
use mathlib.Core.Path.{◌≡◌, refl, sym, ◌∙◌, ap, ap₂}
use mathlib.Core.Bool.{Bool, true, false}
use Prim.Native.Nat.{ℕ, ◌+◌, ◌<◌, ◌≤◌}
use native.Mathlib.Omega.{arith}
use lib.Dec.{eqb, leb, ltb}
use lib.ListN.{length}
use borrow.Author.Tests.{le-leb, eqb-true, eqb-false, ltb-true}
use Rattle.octets.specs.Choice.{both, pick}
use Rattle.octets.proofs.Choice.{both_left}
use Rattle.ends.specs.Flags.{is_up}
use Rattle.ends.specs.Keys.{key_in}
use Rattle.ends.specs.Records.{with_slots, with_first}
use Rattle.ends.specs.declared.Channels.{Channels}
use Rattle.ends.specs.declared.UnitKeys.{UnitKeys}
use Rattle.ends.proofs.Keys.{only_kept}
use Rattle.protocol.specs.Headers.{choice_enciphered, choice_number, choice_aged}
use Rattle.protocol.specs.UnitTraffic.{keys_switched, keys_after_send}
use Rattle.protocol.specs.declared.KeyChoice.{KeyChoice}
use Rattle.protocol.specs.declared.KeyChoice.TheVariants.{Clear, Current, Next}
use Rattle.group_protocol.specs.GroupCalls.{group_switches, group_send_choice, wiped_at_switch, group_keys_after_send}
use Rattle.group_protocol.specs.declared.GroupRecord.{GroupRecord}
use Rattle.unicast.specs.Setting.{Setting}
use Rattle.unicast.specs.History.{Entry, Keys, due}
use Rattle.unicast.proofs.Invariant.{Timing, Begun}
use Rattle.unicast.proofs.SendChoices.{flag_up, one_ahead, timing_stayed, timing_switched}
use Rattle.unicast.proofs.Spending.{Renewed, renewed_current, renewed_next, renewed_clear}
use Rattle.line.specs.History.{GroupLane, group_switching, group_number}
use Rattle.line.proofs.Invariant.{Recorded}

both_swapped : (a b : Bool) → both a b ≡ both b a
unfolding both
both_swapped true true = refl
both_swapped true false = refl
both_swapped false true = refl
both_swapped false false = refl

-- what a send of that choice makes of the group's keys
pub record Chosen (r : Entry) (now : ℕ) (old new : UnitKeys) (choice : KeyChoice) (number switched : ℕ) : Type 0 where
  pub chosen : choice_number choice ≡ number
  pub enciphered : choice_enciphered choice ≡ leb 1 number
  pub active : new.active ≡ number
  pub offered : new.offered ≡ old.offered
  pub low : old.active ≤ number
  pub high : number ≤ old.offered
  pub next : old.offered ≤ number + 1
  pub slots : (n : ℕ) → number ≤ n → n ≤ old.offered → key_in new.slots n ≡ key_in old.slots n
  pub timing : (k : Keys) → k.switched ≡ switched → Timing r k now new.timer
  pub renewed : choice_aged choice old.first now ≡ false → Renewed old.first new.first old.active number now

module _ (w : Setting) (c : Channels) (now : ℕ) (g : GroupLane) (r : GroupRecord) (j : Recorded w c now g r) where
  -- the record and the list agree on when a send is a switch
  pub switches_listed : group_switches r.keys ≡ group_switching g now
  unfolding group_switches group_switching
  switches_listed =
      let flag : is_up r.keys.timer.flag ≡ due g.entry g.keys now = ap is_up j.timing.flag ∙ flag_up (due g.entry g.keys now) in
      let ahead : eqb r.keys.offered (r.keys.active + 1) ≡ ltb g.keys.switches (length g.keys.offers) =
      one_ahead r.keys.active r.keys.active r.keys.offered (omega arith) j.mid j.next ∙ ap₂ ltb j.counted j.listed in
      rw (flag, ahead) (both_swapped (due g.entry g.keys now) (ltb g.keys.switches (length g.keys.offers)))

  chosen_by : Begun r.keys.first now → (s z : Bool) → group_switching g now ≡ s → eqb r.keys.active 0 ≡ z
      → Chosen g.entry now r.keys
      (group_keys_after_send (pick s (Next r.keys.offered) (pick z Clear (Current r.keys.active))) r.keys now)
      (pick s (Next r.keys.offered) (pick z Clear (Current r.keys.active)))
      (pick s (g.keys.switches + 1) g.keys.switches) (pick s now g.keys.switched)
  unfolding pick group_keys_after_send wiped_at_switch keys_after_send keys_switched with_slots with_first choice_number choice_enciphered
      choice_aged group_switching
  chosen_by v true z e f =
      let more : g.keys.switches < length g.keys.offers = ltb-true _ _ (both_left _ _ e) in
      let is : r.keys.offered ≡ g.keys.switches + 1 = omega (arith, more, j.counted, j.listed, j.next) in
      record {
        chosen = is;
        enciphered = sym (le-leb 1 (g.keys.switches + 1) (omega arith));
        active = is;
        offered = refl;
        low = omega (arith, j.counted);
        high = omega (arith, is);
        next = omega (arith, is);
        slots = λ n p q.
            let same : n ≡ r.keys.offered = omega (arith, is) in
            rw same (only_kept r.keys.slots r.keys.offered);
        timing = λ k q. timing_switched g.entry g.keys k now r.keys.timer q j.timing;
        renewed = λ a. renewed_next r.keys.first r.keys.active (g.keys.switches + 1) now (omega (arith, j.counted));
      }
  chosen_by v false true e f =
      let zeros : r.keys.active ≡ 0 = eqb-true _ _ f in
      let none : g.keys.switches ≡ 0 = sym j.counted ∙ zeros in
      record {
        chosen = sym none;
        enciphered = rw none;
        active = j.counted;
        offered = refl;
        low = omega (arith, j.counted);
        high = omega (arith, none);
        next = omega (arith, j.next, j.counted);
        slots = λ n p q. refl;
        timing = λ k q. timing_stayed g.entry g.keys k now r.keys.timer q j.timing;
        renewed = λ a. rw (zeros, none) (renewed_clear r.keys.first now);
      }
  chosen_by v false false e f =
      let some : 1 ≤ g.keys.switches = omega (arith, j.counted, eqb-false r.keys.active 0 f) in
      record {
        chosen = j.counted;
        enciphered = sym (le-leb 1 g.keys.switches some);
        active = j.counted;
        offered = refl;
        low = omega (arith, j.counted);
        high = omega (arith, j.counted, j.mid);
        next = omega (arith, j.counted, j.next);
        slots = λ n p q. refl;
        timing = λ k q. timing_stayed g.entry g.keys k now r.keys.timer q j.timing;
        renewed = λ a. rw j.counted (renewed_current r.keys.first g.keys.switches now v a);
      }

  pub chosen_send : (tick : ℕ) → tick ≡ now → Begun r.keys.first tick
      → Chosen g.entry now r.keys (group_keys_after_send (group_send_choice r.keys) r.keys tick) (group_send_choice r.keys) (group_number g now)
      (pick (group_switching g now) now g.keys.switched)
  unfolding group_send_choice group_number
  chosen_send tick e v = rw (e, switches_listed) (chosen_by (rw e at v) (group_switching g now) (eqb r.keys.active 0) refl refl)

-- A valid group stays valid: after each call on it, as time passes, and as units come. Assumes nothing.
use Rattle.std.specs.Prelude.{Option, Some, None}
use mathlib.Core.Path.{◌≡◌, refl}
use mathlib.Core.Bool.{Bool, true}
use mathlib.Core.List.{List, [], ◌∷◌}
use Prim.Native.Nat.{ℕ, zero, suc, ◌+◌, ◌<◌, ◌≤◌}
use native.Mathlib.Omega.{arith}
use lib.Dec.{leb, ltb}
use lib.ListN.{get_or, set, replicate}
use borrow.Author.Tests.{leb-true, le-leb, ltb-true, lt-ltb}
use Rattle.octets.specs.Lists.{all, tabulate}
use Rattle.octets.proofs.Choice.{both_left, both_right, both_true}
use Rattle.octets.proofs.Tests.{all_weaker}
use Rattle.ends.specs.Records.{with_first, with_slots, with_timer}
use Rattle.ends.specs.Timers.{valid_interval}
use Rattle.ends.proofs.Keys.{first_later_valid, first_none_valid, first_noted_valid, first_send_valid}
use Rattle.ends.proofs.Timers.{timer_advanced_valid, timer_fallen_valid, timer_fresh_valid}
use Rattle.protocol.specs.UnitCalls.{keys_offered}
use Rattle.protocol.specs.UnitTraffic.{keys_after_send, keys_switched}
use Rattle.protocol.specs.declared.KeyChoice.{KeyChoice}
use Rattle.protocol.specs.declared.KeyChoice.TheVariants.{Clear, Current, Next, Barred}
use Rattle.group_protocol.specs.GroupCalls.{group_advanced, group_keys_after_send, group_marked, group_offered, wiped_at_switch}
use Rattle.group_protocol.specs.Head.{fresh_group, valid_group, with_group_keys, with_members}
use Rattle.group_protocol.specs.Limits.{max_members}
use Rattle.group_protocol.specs.Members.{marked, marks_of, places_of, unmarked, valid_members}
use Rattle.group_protocol.specs.declared.GroupRecord.{GroupRecord}
use Rattle.group_protocol.specs.declared.Members.{Members}
use Rattle.group_protocol.proofs.HeadValidity.{group_in_range, group_valid}

---- members

-- a test that holds of each that is tabulated
pub all_tabulated : (p : ℕ → Bool) (i n : ℕ) (f : ℕ → ℕ) → ((j : ℕ) → i ≤ j → j < i + n → p (f j) ≡ true)
    → all p (tabulate i n f) ≡ true
unfolding all
all_tabulated p i zero f h = refl
all_tabulated p i (suc n) f h =
    both_true (h i (omega arith) (omega arith)) (all_tabulated p (suc i) n f (λ j a b. h j (omega (arith, a)) (omega (arith, b))))

all_retabulated : (p : ℕ → Bool) (i n : ℕ) (f g : ℕ → ℕ) → ((j : ℕ) → p (f j) ≡ true → p (g j) ≡ true)
    → all p (tabulate i n f) ≡ true
    → all p (tabulate i n g) ≡ true
unfolding all
all_retabulated p i zero f g h e = refl
all_retabulated p i (suc n) f g h e = both_true (h i (both_left _ _ e)) (all_retabulated p (suc i) n f g h (both_right _ _ e))

zero_at : (n j : ℕ) → ◌≡◌ {A = ℕ} (get_or (replicate n 0) j 0) 0
zero_at zero j = refl
zero_at (suc n) zero = refl
zero_at (suc n) (suc j) = zero_at n j

flag_set : (l : List ℕ) (k j : ℕ) → get_or l j 0 ≤ 1 → get_or (set l k 1) j 0 ≤ 1
flag_set [] k j h = h
flag_set (x ∷ xs) zero zero h = omega arith
flag_set (x ∷ xs) zero (suc j) h = h
flag_set (x ∷ xs) (suc k) zero h = h
flag_set (x ∷ xs) (suc k) (suc j) h = flag_set xs k j h

-- the places and the count are those of valid members, and so are the marks
module _ (units : ℕ) (m : Members) (v : valid_members units m ≡ true) where
  unmarked_valid : valid_members units (unmarked m) ≡ true
  unfolding valid_members unmarked places_of marks_of
  unmarked_valid =
      let none = all_tabulated (λ mark. leb mark 1) 0 m.count (λ j. get_or (replicate max_members 0) j 0)
      (λ j a b. le-leb (get_or (replicate max_members 0) j 0) 1 (omega (arith, zero_at max_members j))) in
      search (both_true, both_left, both_right)

  marked_valid : (k : ℕ) → valid_members units (marked m k) ≡ true
  unfolding valid_members marked places_of marks_of
  marked_valid k =
      let marks =
      all_retabulated (λ mark. leb mark 1) 0 m.count (λ j. get_or m.marks j 0) (λ j. get_or (set m.marks k 1) j 0)
      (λ j e. le-leb _ 1 (flag_set m.marks k j (leb-true _ 1 e))) (search (both_left, both_right)) in
      search (both_true, both_left, both_right)

  -- of an OLT with more units
  pub members_later : (more : ℕ) → units ≤ more → valid_members more m ≡ true
  unfolding valid_members
  members_later more h =
      let places =
      all_weaker (λ place. ltb place units) (λ place. ltb place more) (λ place e. lt-ltb place more (omega (arith, ltb-true place units e))) (places_of m)
      (search (both_left, both_right)) in
      search (both_true, both_left, both_right)

---- the group

pub marked_llid : (g : GroupRecord) (member : Option ℕ) → (group_marked g member).llid ≡ g.llid
unfolding group_marked with_members
marked_llid g None = refl
marked_llid g (Some j) = refl

pub advanced_llid : (n : ℕ) (g : GroupRecord) → (group_advanced n g).llid ≡ g.llid
unfolding group_advanced with_group_keys
advanced_llid n g = refl

pub fresh_group_valid : (tick units llid interval : ℕ) (m : Members) → valid_members units m ≡ true → valid_interval interval ≡ true
    → valid_group tick units (fresh_group llid interval m) ≡ true
unfolding fresh_group
fresh_group_valid tick units llid interval m v i = group_valid tick units _ (search (timer_fresh_valid, first_none_valid, arith))

module _ (tick units : ℕ) (g : GroupRecord) (v : valid_group tick units g ≡ true) where
  pub group_offered_valid : (key : List ℕ) → valid_group tick units (group_offered g key) ≡ true
  unfolding group_offered with_group_keys with_members keys_offered
  group_offered_valid key = let r = group_in_range tick units g v in group_valid tick units _ (search (unmarked_valid, arith))

  pub group_marked_valid : (member : Option ℕ) → valid_group tick units (group_marked g member) ≡ true
  unfolding group_marked with_members
  group_marked_valid None = v
  group_marked_valid (Some j) = let r = group_in_range tick units g v in group_valid tick units _ (search marked_valid)

  pub group_sent_valid : (choice : KeyChoice) → valid_group tick units (with_group_keys g (group_keys_after_send choice g.keys tick)) ≡ true
  unfolding with_group_keys group_keys_after_send wiped_at_switch keys_after_send with_first keys_switched with_slots
  group_sent_valid Clear = v
  group_sent_valid (Barred r) = v
  group_sent_valid (Current n) = let r = group_in_range tick units g v in group_valid tick units _ (search first_send_valid)
  group_sent_valid (Next n) =
      let r = group_in_range tick units g v in
      group_valid tick units _ (search (timer_fallen_valid, first_noted_valid, arith))

  pub group_advanced_valid : (n : ℕ) → valid_group (tick + n) units (group_advanced n g) ≡ true
  unfolding group_advanced with_group_keys with_timer
  group_advanced_valid n =
      let r = group_in_range tick units g v in
      let later : tick ≤ tick + n = omega arith in
      group_valid (tick + n) units _ (search (timer_advanced_valid, first_later_valid))

  pub group_later_valid : (more : ℕ) → units ≤ more → valid_group tick more g ≡ true
  group_later_valid more h = let r = group_in_range tick units g v in group_valid tick more g (search members_later)

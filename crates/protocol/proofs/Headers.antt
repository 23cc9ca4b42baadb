-- Laws of headers, and of what an envelope goes under. Assumes nothing.
use mathlib.Core.Path.{◌≡◌, refl}
use mathlib.Core.Bool.{Bool, true, false}
use Prim.Native.Nat.{ℕ, ◌%◌, ◌≤◌}
use native.Mathlib.Omega.{arith}
use lib.Dec.{leb, ltb, eqb}
use borrow.Author.Tests.{eqb-true, le-leb, lt-ltb, eq-eqb, ne_eqb}
use Rattle.octets.specs.Choice.{both, pick}
use Rattle.octets.proofs.Choice.{both_true, both_false_then, not_both, pick_true, pick_false}
use Rattle.clock.specs.Ticks.{epam_turn, epam_of}
use Rattle.ends.specs.Keys.{no_key, key_in}
use Rattle.protocol.specs.Headers.{valid_header, choice_enciphered, choice_aged, clock_channel_key, envelope_header, key_for}
use Rattle.ends.specs.declared.Slots.{Slots}
use Rattle.ends.specs.declared.FirstSend.{FirstSend}
use Rattle.protocol.specs.declared.KeyChoice.{KeyChoice}
use Rattle.protocol.proofs.Replies.{met}
use Rattle.refusal.specs.Verdict.{no_refusal}

---- what a send at either end has met

pub record Goes (set busy : Bool) (choice : KeyChoice) (first : FirstSend) (now : ℕ) : Type 0 where
  pub clock : choice_enciphered choice ≡ true → set ≡ true
  pub free : busy ≡ false
  pub young : choice_aged choice first now ≡ false

pub goes : (set busy : Bool) (choice : KeyChoice) (first : FirstSend) (now : ℕ) → clock_channel_key set busy choice first now ≡ no_refusal
    → Goes set busy choice first now
goes set busy choice first now e = search (met, not_both, both_false_then) depth 8

---- headers

-- a clear envelope says so
pub header_clear : (n channel llid clock : ℕ) → n ≡ 0 → (envelope_header n channel llid clock).encenabled ≡ 0
unfolding envelope_header
header_clear n channel llid clock e = pick_true 0 1 (eq-eqb n 0 e)

-- and so does a sealed one
pub header_sealed : (n channel llid clock : ℕ) → 1 ≤ n → (envelope_header n channel llid clock).encenabled ≡ 1
unfolding envelope_header
header_sealed n channel llid clock h = pick_false 0 1 (ne_eqb n 0 (λ e. omega arith))

-- every header that is made is valid
pub header_valid : (n channel llid clock : ℕ) → valid_header (envelope_header n channel llid clock) ≡ true
unfolding valid_header envelope_header pick
header_valid n channel llid clock = by_clear (eqb n 0) refl where
  epam : ltb (epam_of clock) epam_turn ≡ true
  epam = lt-ltb (epam_of clock) epam_turn (omega arith)

  by_clear : (t : Bool) → eqb n 0 ≡ t → both (leb (pick t 0 1) 1) (both (leb (n % 2) (pick t 0 1)) (ltb (epam_of clock) epam_turn)) ≡ true
  by_clear true e = both_true refl (both_true (le-leb (n % 2) 0 (omega (arith, eqb-true n 0 e))) epam)
  by_clear false e = both_true refl (both_true (le-leb (n % 2) 1 (omega arith)) epam)

-- the key of a number from 1 on is that of its index
pub key_for-holds : (n : ℕ) (s : Slots) → 1 ≤ n → key_for n s ≡ key_in s n
unfolding key_for
key_for-holds n s h = pick_false no_key (key_in s n) (ne_eqb n 0 (λ e. omega arith))

-- of the clock a header has no more than EPAM
pub header_epam : (n channel llid c d : ℕ) → epam_of c ≡ epam_of d → envelope_header n channel llid c ≡ envelope_header n channel llid d
unfolding envelope_header
header_epam n channel llid c d e = rw e

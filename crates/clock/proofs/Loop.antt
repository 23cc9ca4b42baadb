-- The raise is the source's loop: it stops after exactly that many turns, and leaves the stamps raised. Assumes nothing.
use Rattle.std.proofs.Common.{◌≡◌, ℕ, zero, suc, ◌+◌, ◌<◌, Bool, true, false, ltb, sym, refl, ◌∙◌, add-one, arith, ltb-false, ltb-true}
use Rattle.clock.specs.Ticks.{clock_turn, local_turn, advanced, local_of}
use Rattle.clock.specs.Stamping.{raise_of, moved_by, raised_to}
use Rattle.clock.specs.Loop.{turn, turns, Stops, Leaves}
use Rattle.clock.specs.declared.Stamps.{Stamps}
use Rattle.clock.proofs.Ticks.{advanced_sum}
use Rattle.clock.proofs.Stamping.{raise_meets, raise_least}

-- n turns leave the low 32 bits of Tx n higher
pub turns_local : (n : ℕ) (s : Stamps) → local_of (turns n s).tx ≡ local_of (s.tx + n)
unfolding turns turn
turns_local zero s = omega arith
turns_local (suc n) s = omega (arith, turns_local n s)

-- n turns move both stamps by n
pub turns_moved : (n : ℕ) (s : Stamps) → s.rx < clock_turn → s.tx < clock_turn → turns n s ≡ moved_by n s
unfolding turns turn moved_by
turns_moved zero s h k =
    let e : s.rx ≡ advanced s.rx 0 = omega arith in
    let f : s.tx ≡ advanced s.tx 0 = omega arith in
    rw (sym e, sym f)
turns_moved (suc n) s h k = rw (turns_moved n s h k, advanced_sum s.rx n 1, advanced_sum s.tx n 1, add-one)

pub raise_stops : (time : ℕ) (s : Stamps) → time < local_turn → Stops time s (raise_of time s.tx)
raise_stops time s h =
    record {
      matches = turns_local (raise_of time s.tx) s ∙ raise_meets time s.tx h;
      earlier = λ k l e. raise_least time s.tx k l (sym (turns_local k s) ∙ e);
    }

-- the loop can stop at no other place
pub stops_once : (time : ℕ) (s : Stamps) (m n : ℕ) → Stops time s m → Stops time s n → m ≡ n
stops_once time s m n p q =
    go (ltb n m) refl (ltb m n) refl where
      go : (a : Bool) → ltb n m ≡ a → (b : Bool) → ltb m n ≡ b → m ≡ n
      go true e b f = absurd (p.earlier n (ltb-true n m e) q.matches)
      go false e true f = absurd (q.earlier m (ltb-true m n f) p.matches)
      go false e false f = omega (arith, ltb-false n m e, ltb-false m n f)

-- what the loop leaves
pub loop_raises : (time : ℕ) (s : Stamps) → time < local_turn → Leaves time s (raised_to time s)
unfolding raised_to
loop_raises time s h =
    record { left = λ n a b p. rw (stops_once time s n (raise_of time s.tx) p (raise_stops time s h)) (turns_moved _ s a b) }

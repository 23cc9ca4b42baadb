-- `sealing::counter_mode::mask_eq` meets its contract: the eight octets that are stored are the data octets masked, and the control octet before them
-- is as it came. Assumes nothing.
use Prim.Native.Nat.{ℕ, ◌+◌, ◌-◌, ◌≤◌, ◌<◌}
use Rattle.octets.proofs.Lists.{tabulate_ext}
use Rattle.octets.specs.Lists.{tabulate, replaced}
use Rattle.envelope.specs.ControlMask.{masked}
use Rattle.gf256.specs.Lanes.{octet_at}
use lib.ListN.{length, get_or}
use lib.Seq.{take-suc, drop-cons}
use mathlib.Core.List.{List, ◌∷◌, append_assoc}
use mathlib.Core.Path.{◌≡◌, ap, ◌∙◌}
use native.Mathlib.Numerals.{add-one}
use native.Mathlib.Omega.{arith}
use Rattle.sealing.proofs.counter_mode.mask_eq.Goals as goal

-- the element before a part that is replaced, as it was
before_kept : (s t : List ℕ) (at : ℕ) → at < length s → replaced s (at + 1) t ≡ replaced s at (get_or s at 0 ∷ t)
before_kept s t at h = rw (add-one, take-suc s at 0 h, drop-cons s at 0 h, append_assoc)

pub returns : goal.returns
returns c =
    let a = c.args in
    let p = a.payload.now in
    let word = c.mask_eight-word.result in
    let made : ℕ → ℕ = λ j. masked (get_or p a.at 0) j (octet_at a.half j) (get_or p (a.at + (j + 1)) 0) in
    let same : (j : ℕ) → 0 ≤ j → j < 0 + 8 → octet_at word j ≡ made j = λ j z l.
    let place : a.at + 1 + j ≡ a.at + (j + 1) = omega arith in
    c.mask_eight-word.ensures.octet j l
    ∙ ap (masked (get_or p a.at 0) j (octet_at a.half j)) (c.eight_at.ensures.octet j l ∙ ap (λ (k : ℕ). get_or p k 0) place) in
    let stored = c.copy_from_slice.ensures.after ∙ c.octets_of.ensures ∙ tabulate_ext 0 8 (octet_at word) made same in
    let eight : a.at + 9 - (a.at + 1) ≡ 8 = omega arith in
    rw (eight, stored) (before_kept p (tabulate 0 8 made) a.at (omega arith))

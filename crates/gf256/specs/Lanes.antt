-- Octets in a word, the first lowest, and what is done to all of them at once. A step of the code: the papers have octets alone.
-- Assumes nothing.
use Rattle.std.specs.Prelude.{ℕ, zero, suc, ◌+◌, ◌*◌, ◌/◌, ◌%◌, ◌^◌}

-- octet j of the word x
unfoldable pub octet_at : ℕ → ℕ → ℕ
octet_at x j = x / 2 ^ (8 * j) % 2 ^ 8

-- f at each of the n lowest octets of x
unfoldable pub each_octet : (ℕ → ℕ) → ℕ → ℕ → ℕ
each_octet f zero x = 0
each_octet f (suc n) x = each_octet f n (x / 2 ^ 8) * 2 ^ 8 + f (x % 2 ^ 8)

-- The place of a record in its block (01, Capture block). Assumes nothing.
use Rattle.std.specs.Prelude.{Bool, true, false, ℕ, leb, eqb}

-- a record ends within the block, the last at the block's end
unfoldable pub end_fits : Bool → ℕ → ℕ → Bool
end_fits true end size = eqb end size
end_fits false end size = leb end size

-- Tests joined, and a choice by a test. Assumes nothing.
use Rattle.std.specs.Prelude.{Bool, true, false}

-- both tests hold
unfoldable pub both : Bool → Bool → Bool
both true b = b
both false b = false

-- at least one test holds
unfoldable pub either : Bool → Bool → Bool
either true b = true
either false b = b

-- the first where the test holds, else the second
unfoldable pub pick : {A : Type 0} → Bool → A → A → A
pick true a b = a
pick false a b = b

-- The first record that pairs is what `find` answers. Assumes nothing.
use Rattle.std.proofs.Common.{◌≡◌, Bool, true, false, ℕ, zero, suc, refl, add-one}
use Rattle.std.proofs.Common.{List, ◌+◌, Option, Some, None, cond, ap, ◌∙◌, arith}
use Rattle.std.specs.List.{find, range_with_len}
use Rattle.std.specs.Option.{option_map, unwrap_or}
use Rattle.octets.specs.Choice.{pick}
use Rattle.records.specs.Block.{record_of}
use Rattle.sameness.specs.Pairing.{paired, first_from}

here_or : (t : Bool) (j d rest : ℕ) (o : Option ℕ) → unwrap_or o d ≡ rest → unwrap_or (cond t (Some j) o) d ≡ pick t j rest
unfolding pick
here_or true j d rest o e = refl
here_or false j d rest o e = e

found_is : (r b : List ℕ) (j m d : ℕ) → d ≡ j + m → unwrap_or (find (λ k. paired r (record_of b k)) (range_with_len j m)) d ≡ first_from r b j m
unfolding first_from
found_is r b j zero d e = omega arith
found_is r b j (suc m) d e = here_or _ j d _ _ (rw add-one (found_is r b (suc j) m d (omega arith)))

pub first_is : (r b : List ℕ) (j m d : ℕ) (o : Option ℕ)
    → option_map (λ k. k) o ≡ find (λ k. paired r (record_of b k)) (range_with_len j m) → d ≡ j + m
    → unwrap_or o d ≡ first_from r b j m
first_is r b j m d None e f = ap (λ o. unwrap_or o d) e ∙ found_is r b j m d f
first_is r b j m d (Some x) e f = ap (λ o. unwrap_or o d) e ∙ found_is r b j m d f
